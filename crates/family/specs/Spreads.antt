-- Spreading coordinate by coordinate comes to spreading over all of them.
use Rattle.std.specs.Prelude.{◌≡◌, ℕ, ◌+◌, ◌*◌, ◌/◌, ◌%◌, ◌<◌, ◌≤◌, cond, List, length, ◌≢◌, nat_lt, slice_set, refl}
use Rattle.std.proofs.Common.{sym, ap, ◌∙◌, inl, inr, arith}
use Rattle.std.proofs.lemmas.List.FromFn.{fill_by_all}
use Rattle.std.proofs.lemmas.List.{get_or-set_same, get_or-set_other}
use Rattle.std.proofs.lemmas.Bool.{cases_eq, cases_lt, lt-ltb, le-ltb, eq-eqb, ne_eqb, cond-true, cond-false, and_left, and_right, and_from, not_from_true, not_from_false}
use Rattle.digits.specs.Rows.{at}
use Rattle.family.specs.Spread.{spread_at, spread}

-- what a row holds once the coordinates below c are spread over
abbrev pub Passed : (ℕ → ℕ) → ℕ → ℕ → ℕ → List ℕ → List ℕ → Type 0
Passed u amount e c xs ys =
    (x : ℕ) → x < length xs → at ys x ≡ cond (nat_lt (x / 6) c) (spread_at u amount e xs x) (at xs x)

-- a place where nothing is added stays as it is
pub spread_other : (u : ℕ → ℕ) (amount e x : ℕ) (xs : List ℕ) → (x % 6 ≢ e % 6) → spread_at u amount e xs x ≡ at xs x
spread_other u amount e x xs h = cond-false _ _ _ (and_left _ _ (ne_eqb (x % 6) (e % 6) h))

pub spread_zero : (u : ℕ → ℕ) (amount e x : ℕ) (xs : List ℕ) → u (x / 6) ≡ 0 → spread_at u amount e xs x ≡ at xs x
spread_zero u amount e x xs h = cond-false _ _ _ (and_right _ _ (not_from_true _ (eq-eqb (u (x / 6)) 0 h)))

pub spread_here : (u : ℕ → ℕ) (amount e x : ℕ) (xs : List ℕ) → x % 6 ≡ e % 6 → (u (x / 6) ≢ 0) →
    spread_at u amount e xs x ≡ (at xs x + amount * u (x / 6)) % 6
spread_here u amount e x xs h k =
    cond-true _ _ _ (and_from _ _ (eq-eqb (x % 6) (e % 6) h) (not_from_false _ (ne_eqb (u (x / 6)) 0 k)))

module _ (u : ℕ → ℕ) (amount e c : ℕ) (xs ys : List ℕ) (passed : Passed u amount e c xs ys) where
  -- a place of another coordinate is read alike before and after coordinate c
  elsewhere : (x : ℕ) → x < length xs → (x / 6 ≢ c) →
      at ys x ≡ cond (nat_lt (x / 6) (c + 1)) (spread_at u amount e xs x) (at xs x)
  elsewhere x l ne =
      elim (cases_lt (x / 6) c) [
        | inl b ↦ passed x l ∙ cond-true _ _ _ (lt-ltb (x / 6) c b) ∙ sym (cond-true _ _ _ (lt-ltb (x / 6) (c + 1) (omega arith)))
        | inr b ↦ passed x l ∙ cond-false _ _ _ (le-ltb (x / 6) c b) ∙ sym (cond-false _ _ _ (le-ltb (x / 6) (c + 1) (omega arith)))
      ]

  -- a place of coordinate c, not reached before it
  before : (x : ℕ) → x < length xs → x / 6 ≡ c → at ys x ≡ at xs x
  before x l eq = passed x l ∙ cond-false _ _ _ (le-ltb (x / 6) c (omega arith))

  after : (x : ℕ) → x / 6 ≡ c → cond (nat_lt (x / 6) (c + 1)) (spread_at u amount e xs x) (at xs x) ≡ spread_at u amount e xs x
  after x eq = cond-true _ _ _ (lt-ltb (x / 6) (c + 1) (omega arith))

  -- a coordinate where u is 0
  pub skips : u c ≡ 0 → Passed u amount e (c + 1) xs ys
  skips z x l =
      elim (cases_eq (x / 6) c) [
        | inl eq ↦ before x l eq ∙ sym (spread_zero u amount e x xs (ap u eq ∙ z)) ∙ sym (after x eq)
        | inr ne ↦ elsewhere x l ne
      ]

  -- a coordinate where u is not
  pub adds : (p d : ℕ) → length ys ≡ length xs → p ≡ 6 * c + e % 6 → d ≡ u c → (d ≢ 0) → Passed u amount e (c + 1) xs (slice_set ys p ((at ys p + amount * d) % 6))
  adds p d long hp hd nz x l =
      elim (cases_eq x p) [
        | inl eq ↦
            let quot : x / 6 ≡ c = omega arith in
            let rest : x % 6 ≡ e % 6 = omega arith in
            let there : p < length ys = omega arith in
            ap (λ y. at (slice_set ys p ((at ys p + amount * d) % 6)) y) eq
            ∙ get_or-set_same ys p ((at ys p + amount * d) % 6) 0 there
            ∙ ap (λ y. (at ys y + amount * d) % 6) (sym eq)
            ∙ ap (λ a. (a + amount * d) % 6) (before x l quot)
            ∙ ap (λ a. (at xs x + amount * a) % 6) (hd ∙ ap u (sym quot))
            ∙ sym (spread_here u amount e x xs rest (λ z. nz (hd ∙ ap u (sym quot) ∙ z)))
            ∙ sym (after x quot)
        | inr ne ↦
            get_or-set_other ys p x ((at ys p + amount * d) % 6) 0 ne
            ∙ elim (cases_eq (x / 6) c) [
              | inl quot ↦ before x l quot ∙ sym (spread_other u amount e x xs (λ rest. ne (omega arith))) ∙ sym (after x quot)
              | inr other ↦ elsewhere x l other
            ]
      ]

pub none_passed : (u : ℕ → ℕ) (amount e : ℕ) (xs : List ℕ) → Passed u amount e 0 xs xs
none_passed u amount e xs x l = sym (cond-false _ _ _ (le-ltb (x / 6) 0 (omega arith)))

-- past the dimension u is 0, so passing all coordinates is spreading
pub all_passed : (u : ℕ → ℕ) (amount e k : ℕ) (xs ys : List ℕ) → ((c : ℕ) → k ≤ c → u c ≡ 0) → length ys ≡ length xs →
    Passed u amount e k xs ys → ys ≡ spread u amount e xs
unfolding spread
all_passed u amount e k xs ys past long passed =
    fill_by_all (spread_at u amount e xs) ys (length xs) 0 long
    (λ x l. passed x l
    ∙ elim (cases_lt (x / 6) k) [
      | inl b ↦ cond-true _ _ _ (lt-ltb (x / 6) k b)
      | inr b ↦ cond-false _ _ _ (le-ltb (x / 6) k b) ∙ sym (spread_zero u amount e x xs (past (x / 6) b))
    ])

-- a stretch of coordinates where u is 0
pub skips_to : (u : ℕ → ℕ) (amount e c d : ℕ) (xs ys : List ℕ) → c ≤ d → ((b : ℕ) → c ≤ b → b < d → u b ≡ 0) → Passed u amount e c xs ys → Passed u amount e d xs ys
skips_to u amount e c d xs ys le zeros passed x l =
    elim (cases_lt (x / 6) c) [
      | inl b ↦ passed x l ∙ cond-true _ _ _ (lt-ltb (x / 6) c b) ∙ sym (cond-true _ _ _ (lt-ltb (x / 6) d (omega arith)))
      | inr b ↦
          passed x l ∙ cond-false _ _ _ (le-ltb (x / 6) c b)
          ∙ elim (cases_lt (x / 6) d) [
            | inl k ↦ sym (spread_zero u amount e x xs (zeros (x / 6) b k)) ∙ sym (cond-true _ _ _ (lt-ltb (x / 6) d k))
            | inr k ↦ sym (cond-false _ _ _ (le-ltb (x / 6) d k))
          ]
    ]

-- where u is 0 throughout, nothing is spread
pub spread_nothing : (u : ℕ → ℕ) (amount e : ℕ) (xs : List ℕ) → ((c : ℕ) → u c ≡ 0) → xs ≡ spread u amount e xs
spread_nothing u amount e xs h =
    all_passed u amount e 0 xs xs (λ c l. h c) refl (none_passed u amount e xs)
