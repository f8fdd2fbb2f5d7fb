-- Inputs of too few lines.
use Rattle.std.proofs.Common.{◌≡◌, ℕ, ◌<◌, List, [], ◌∷◌, length, map, None, refl, arith}
use Rattle.inquiry.specs.Grammar.{inquiry_in}

pub too_few : {A : Type 0} (v : A → List ℕ) (lines : List A) → length lines < 4 → inquiry_in (map v lines) ≡ None
unfolding inquiry_in
too_few v [] h = refl
too_few v (a ∷ []) h = refl
too_few v (a ∷ b ∷ []) h = refl
too_few v (a ∷ b ∷ c ∷ []) h = refl
too_few v (a ∷ b ∷ c ∷ d ∷ lines) h = absurd (omega arith)
