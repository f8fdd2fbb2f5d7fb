-- The matching rule for one product, as a test and as a fact.
use Rattle.std.proofs.Common.{◌≡◌, ℕ, true, sym, subst, inl, inr, arith}
use Rattle.std.proofs.lemmas.Bool.{cases_eq}
use Rattle.std.proofs.lemmas.Bool.Decides.{nat_tests}
use Rattle.family.specs.Vectors.{Apart, allowed, Allowed}

alike_from : (i r : ℕ) → allowed i i r ≡ true → r ≡ 0
alike_from i r e = grind (arith, nat_tests)

apart_from : (i j r : ℕ) → (i ≡ j → ⊥) → allowed i j r ≡ true → Apart r
apart_from i j r ne e = grind (arith, nat_tests)

alike_passes : (i j r : ℕ) → i ≡ j → r ≡ 0 → allowed i j r ≡ true
alike_passes i j r e h = grind (arith, nat_tests)

apart_passes : (i j r : ℕ) → (i ≡ j → ⊥) → Apart r → allowed i j r ≡ true
apart_passes i j r ne h = grind (arith, nat_tests)

-- the test passes exactly where the fact holds
pub allowed_from : (i j r : ℕ) → allowed i j r ≡ true → Allowed i j r
allowed_from i j r e = (
  (λ same. alike_from i r (subst (λ x. allowed i x r ≡ true) (sym same) e)),
  (λ ne. apart_from i j r ne e),
)

pub allowed_passes : (i j r : ℕ) → Allowed i j r → allowed i j r ≡ true
allowed_passes i j r holds =
    elim (cases_eq i j) [
      | inl e ↦ alike_passes i j r e (holds.0 e)
      | inr ne ↦ apart_passes i j r ne (holds.1 ne)
    ]
