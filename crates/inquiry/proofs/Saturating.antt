-- Numbers that stand as bytes are refused like themselves, and where they are digits they are the same.
use Rattle.std.proofs.Common.{◌≡◌, ℕ, suc, ◌+◌, cond, List, [], ◌∷◌, min, Some, None, refl, ap₂, arith, nat_lt, ◌==◌}
use Rattle.std.proofs.lemmas.Bool.Decides.{nat_tests}
use Rattle.std.proofs.lemmas.List.{length-map}
use Rattle.faults.specs.Faults.{digit_fault}
use Rattle.digits.specs.Rows.{Digits, first_above}
use Rattle.digits.specs.Refusals.{digits_fault}
use Rattle.digits.proofs.DigitRows.{digits_from}
use Rattle.inquiry.specs.ByteRows.{byte_row}

below : (n : ℕ) → nat_lt (min n 255) 6 ≡ nat_lt n 6
below n = grind (arith, nat_tests)

first_same : (ns : List ℕ) → first_above (byte_row ns) ≡ first_above ns
first_same [] = refl
first_same (n ∷ ns) = ap₂ (λ b i. cond b (1 + i) 0) (below n) (first_same ns)

pub digits_same : (ns : List ℕ) → digits_fault (byte_row ns) ≡ digits_fault ns
digits_same ns = ap₂ (λ i n. cond (i == n) None (Some (digit_fault i))) (first_same ns) (length-map ns (λ n. min n 255))

all_below : (ns : List ℕ) → Digits ns → byte_row ns ≡ ns
all_below [] d = refl
all_below (n ∷ ns) d = ap₂ (λ m ms. m ∷ ms) (omega (arith, d 0)) (all_below ns (λ i. d (suc i)))

pub row_same : (ns : List ℕ) → digits_fault ns ≡ None → byte_row ns ≡ ns
row_same ns e = all_below ns (digits_from ns e)
