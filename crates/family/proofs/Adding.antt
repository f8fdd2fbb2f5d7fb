-- Adding a vector to a row, at some of its places after others.
use Rattle.std.specs.Prelude.{◌≡◌, ℕ, ◌+◌, ◌%◌, ◌<◌, List, length, ◌≢◌, refl}
use Rattle.std.proofs.Common.{sym, ap₂, ◌∙◌}
use Rattle.std.proofs.lemmas.List.FromFn.{fill_by_all}
use Rattle.std.proofs.lemmas.Bool.{eq-eqb, ne_eqb, cond-true, cond-false}
use Rattle.digits.specs.Rows.{at}
use Rattle.family.specs.Added.{added_at, added}

-- a place where the vector is 0, and one where it is not
pub added_zero : (v : ℕ → ℕ) (xs : List ℕ) (c : ℕ) → v c ≡ 0 → added_at v xs c ≡ at xs c
added_zero v xs c h = cond-true _ _ _ (eq-eqb (v c) 0 h)

pub added_other : (v : ℕ → ℕ) (xs : List ℕ) (c : ℕ) → (v c ≢ 0) → added_at v xs c ≡ (at xs c + v c) % 6
added_other v xs c h = cond-false _ _ _ (ne_eqb (v c) 0 h)

-- the step of a loop that adds
pub added_here : (v : ℕ → ℕ) (xs : List ℕ) (c a d : ℕ) → a ≡ at xs c → d ≡ v c → (d ≢ 0) → (a + d) % 6 ≡ added_at v xs c
added_here v xs c a d ha hd nz =
    ap₂ (λ b e. (b + e) % 6) ha hd ∙ sym (added_other v xs c (λ e. nz (hd ∙ e)))

-- place by place
pub added_all : (v : ℕ → ℕ) (xs ys : List ℕ) → length ys ≡ length xs → ((c : ℕ) → c < length xs → at ys c ≡ added_at v xs c) → ys ≡ added v xs
unfolding added
added_all v xs ys long each = fill_by_all (added_at v xs) ys (length xs) 0 long each

-- where the vector is 0 throughout, nothing is added
pub added_nothing : (v : ℕ → ℕ) (xs : List ℕ) → ((c : ℕ) → v c ≡ 0) → xs ≡ added v xs
added_nothing v xs h = added_all v xs xs refl (λ c l. sym (added_zero v xs c (h c)))
