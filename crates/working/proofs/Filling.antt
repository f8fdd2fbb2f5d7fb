-- Texts filled up with spaces, as a format's width writes them.
use Rattle.std.proofs.Common.{◌≡◌, ℕ, zero, suc, ◌+◌, ◌-◌, ◌^◌, ◌≤◌, ◌<◌, ◌||◌, nat_le, false, cond, List, [], ◌∷◌, ◌++◌, length, replicate, refl, ap, ap₂, ◌∙◌, arith, append-nil}
use Rattle.std.specs.Prelude.{codes, decimal}
use Rattle.std.specs.Fmt.{char_count, take_chars, padded, padded_integral, format_spec, styled_text, styled_decimal}
use Rattle.std.specs.Char.{encode_utf8}
use Rattle.std.specs.List.{repeat}
use Rattle.std.specs.Str.{IsAscii}
use Rattle.std.proofs.lemmas.Str.{encode_ascii}
use Rattle.std.proofs.lemmas.Fmt.{IsAscii-decimal}
use Rattle.std.proofs.lemmas.Bool.{lt-ltb}
use Rattle.std.proofs.lemmas.Bool.Decides.{nat_tests}
use Rattle.faults.specs.Text.{spaced}
use Rattle.working.specs.Layout.{filled, row_text, element_text}

-- a text has no more characters than bytes
whole : (n : ℕ) (text : List ℕ) → length text ≤ n → take_chars n text ≡ text
unfolding take_chars
whole n [] short = refl
whole n (b ∷ text) short = grind (arith, nat_tests, whole (n - 1) text (omega arith), whole n text (omega arith))

spaces : (n : ℕ) → repeat {A = ℕ} n (32 ∷ []) ≡ replicate n 32
spaces zero = refl
spaces (suc n) = ap (λ l. 32 ∷ l) (spaces n)

-- the fill of a format
filling : (m n : ℕ) → m ≡ n → repeat m (encode_utf8 32) ≡ replicate n 32
filling m n e = rw (e, encode_ascii 32 (omega arith)) (spaces n)

-- `{:<PLACES}` of a text, and of a number
pub text_filled : (places : ℕ) (text : List ℕ) → length text ≤ 2 ^ 64 - 1 →
    padded (format_spec 32 1 0 places (2 ^ 64 - 1)) text ≡ filled places text
unfolding padded
text_filled places text short =
    rw (whole (2 ^ 64 - 1) text short)
    (ap (λ l. text ++ l) (filling (places - char_count text - 0) (places - char_count text) (omega arith)))

pub number_filled : (places : ℕ) (numeral : List ℕ) →
    padded_integral (format_spec 32 1 0 places (2 ^ 64 - 1)) false [] numeral ≡ numeral ++ replicate (places - length numeral) 32
unfolding padded_integral char_count
number_filled places numeral =
    ap (λ l. numeral ++ l) (filling (places - length numeral - 0 - 0 - 0) (places - length numeral) (omega arith))

-- the lines, as formats write them
pub digits_line : (name digits : List ℕ) → length name ≤ 2 ^ 64 - 1 →
    styled_text (format_spec 32 1 0 15 (2 ^ 64 - 1)) name ++ (spaced digits ++ 10 ∷ []) ≡ row_text name digits
unfolding row_text
digits_line name digits short = ap (λ a. a ++ (spaced digits ++ 10 ∷ [])) (text_filled 15 name short)

pub number_line : (name : List ℕ) (n : ℕ) → length name ≤ 2 ^ 64 - 1 →
    styled_text (format_spec 32 1 0 15 (2 ^ 64 - 1)) name ++ (32 ∷ (decimal n ++ 10 ∷ [])) ≡ row_text name (n ∷ [])
number_line name n short = rw (append-nil (decimal n)) at (digits_line name (n ∷ []) short)

-- a text of bytes below 128 has as many characters as bytes
ascii_count : (bs : List ℕ) → IsAscii bs → char_count bs ≡ length bs
unfolding char_count
ascii_count [] low = refl
ascii_count (b ∷ bs) low =
    let one : 1 + length bs ≡ suc (length bs) = omega arith in
    ap₂ (λ t n. cond (t || nat_le 0xC0 b) 1 0 + n) (lt-ltb b 128 (low 0)) (ascii_count bs (λ i. low (suc i))) ∙ one

-- the places that an element's number leaves, of the five behind its word
left : (c : ℕ) → c < 2 ^ 64 → 5 - length (decimal c) ≡ 15 - char_count (codes "  element " ++ decimal c)
unfolding char_count
left c small = let n = ascii_count (decimal c) (IsAscii-decimal c small) in omega arith

pub element_line : (c : ℕ) (digits : List ℕ) → c < 2 ^ 64 →
    codes "  element " ++ (styled_decimal (format_spec 32 1 0 5 (2 ^ 64 - 1)) c ++ (spaced digits ++ 10 ∷ [])) ≡ element_text c digits
unfolding element_text row_text
element_line c digits small =
    ap (λ a. codes "  element " ++ (a ++ (spaced digits ++ 10 ∷ [])))
    (number_filled 5 (decimal c) ∙ ap (λ n. decimal c ++ replicate n 32) (left c small))
