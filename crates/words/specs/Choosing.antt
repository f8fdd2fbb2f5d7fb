-- The sets of s places: how many there are, and at how many of them two words agree throughout.
use Rattle.std.specs.Prelude.{◌≡◌, ℕ, zero, suc, ◌+◌, ◌*◌, ◌<◌, List, [], ◌∷◌, map, length, sum_by, ◌==◌}
use Rattle.std.proofs.Math.Path.{refl, sym, ap, ap₂}
use Rattle.std.proofs.Common.{◌∙◌}
use Rattle.std.specs.List.{flat_map, AllByRecursion}
use Rattle.std.proofs.ByRecursion.{All-append, All-map, All-weaker}
use Rattle.std.proofs.lemmas.List.Sums.{sum_by-cons, sum_by-append}
use Rattle.digits.specs.Sums.{same}
use Rattle.words.specs.Agreement.{agreements, binomial}
use Rattle.words.specs.Marks.{reading}
use Rattle.words.specs.Places.{choose}
use Rattle.words.specs.Binomials.{pascal}
use Rattle.words.specs.ListSums.{sum_by-map, sum_by_cong, sum_by-same, sum_by_scale, sum_by_joined}
use Rattle.words.specs.Readings.{same-reading}

pub choose-sizes : (s : ℕ) (ps : List ℕ) → AllByRecursion (λ places. length places ≡ s) (choose s ps)
unfolding choose
choose-sizes zero ps = (refl, tt)
choose-sizes (suc s) [] = tt
choose-sizes (suc s) (p ∷ ps) =
    All-append (λ places. length places ≡ suc s) (map (λ places. p ∷ places) (choose s ps)) (choose (suc s) ps)
    (All-map (λ places. length places ≡ suc s) (λ places. p ∷ places) (choose s ps)
    (All-weaker (λ places. length places ≡ s) (λ places. suc (length places) ≡ suc s) (λ places e. ap suc e) (choose s ps) (choose-sizes s ps)))
    (choose-sizes (suc s) ps)

-- a sum over the sets of some sizes, weighted by size
pub sum_by_size : (weight : ℕ → ℕ) (f : List ℕ → ℕ) (ps sizes : List ℕ) →
    sum_by (λ places. weight (length places) * f places) (flat_map (λ s. choose s ps) sizes) ≡ sum_by (λ s. weight s * sum_by f (choose s ps)) sizes
sum_by_size weight f ps sizes =
    sum_by_joined (λ places. weight (length places) * f places) (λ s. choose s ps) sizes
    ∙ sum_by-same _ _ one_size sizes
  where
    one_size : (s : ℕ) → sum_by (λ places. weight (length places) * f places) (choose s ps) ≡ weight s * sum_by f (choose s ps)
    one_size s =
        sum_by_cong (λ places. weight (length places) * f places) (λ places. weight s * f places) (choose s ps)
        (All-weaker (λ places. length places ≡ s) _ (λ places e. ap (λ n. weight n * f places) e) (choose s ps) (choose-sizes s ps))
        ∙ sum_by_scale (weight s) f (choose s ps)

-- 1 where two words agree at each of some places, else 0
abbrev agree_on : ℕ → (ℕ → ℕ) → (ℕ → ℕ) → List ℕ → ℕ
agree_on q word other places = same (reading q word places) (reading q other places)

module _ (q : ℕ) (word other : ℕ → ℕ) (low : (p : ℕ) → word p < q) (low' : (p : ℕ) → other p < q) where
  -- of the sets of s places, two words agree throughout at binomial m s, where m is the number of places where they agree
  pub agreeing_sets : (s : ℕ) (ps : List ℕ) → sum_by (agree_on q word other) (choose s ps) ≡ binomial (agreements word other ps) s
  unfolding choose binomial
  agreeing_sets zero ps = refl
  agreeing_sets (suc s) [] = refl
  agreeing_sets (suc s) (p ∷ ps) =
      sum_by-append (agree_on q word other) (map (λ places. p ∷ places) (choose s ps)) (choose (suc s) ps)
      ∙ ap₂ (λ a b. a + b)
      (sum_by-map (agree_on q word other) (λ places. p ∷ places) (choose s ps)
      ∙ sum_by-same _ _ (same-reading q word other low low' p) (choose s ps)
      ∙ sum_by_scale (same (word p) (other p)) (agree_on q word other) (choose s ps)
      ∙ ap (λ a. same (word p) (other p) * a) (agreeing_sets s ps))
      (agreeing_sets (suc s) ps)
      ∙ sym (pascal (word p == other p) (agreements word other ps) s)
      ∙ ap (λ m. binomial m (suc s)) (sym (sum_by-cons (λ p. same (word p) (other p)) p ps))
