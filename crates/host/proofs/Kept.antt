-- What a change host keeps when a change is replaced or added: positions below the count and apart, and digits.
use Rattle.std.proofs.Common.{◌≡◌, ◌≢◌, ℕ, ◌<◌, ◌+◌, List, [], ◌∷◌, ◌++◌, length, get_or, set, take, Some, None, sym, refl, ap, ◌∙◌, arith}
use Rattle.std.proofs.Math.Seq.{take-set-lt, map-set_same}
use Rattle.std.proofs.lemmas.List.{get_or-take, get_or-map, map-append, length-map, take_more_set}
use Rattle.std.proofs.lemmas.List.Elements.{All-push, All-set}
use Rattle.std.proofs.lemmas.List.Quantifiers.{all_pairs_push}
use Rattle.host.specs.declared.change.Change.{Change}
use Rattle.host.specs.Changes.{digit_told, told_after, place_of, positions, Distinct, Below, Small}
use Rattle.host.proofs.Told.{no_change, told_set, told_push}

-- the change at place i with another digit
abbrev pub with_digit : List Change → ℕ → Change → ℕ → Change
with_digit xs i blank v = record { position = (get_or xs i blank).position; digit = v }

-- the first n changes of an array, once that at place i has another digit
module _ (a : List Change) (n i v : ℕ) (blank : Change) (within : i < n) where
  replaced : take n (set a i (with_digit a i blank v)) ≡ set (take n a) i (with_digit (take n a) i blank v)
  replaced =
      take-set-lt n a i (with_digit a i blank v) within
      ∙ ap (λ (c : Change). set (take n a) i (record { position = c.position; digit = v })) (sym (get_or-take n a i blank within))

  same_positions : positions (take n (set a i (with_digit a i blank v))) ≡ positions (take n a)
  same_positions =
      ap positions replaced ∙ map-set_same (λ (c : Change). c.position) (take n a) i (with_digit (take n a) i blank v) blank refl

  pub below_replaced : (count : ℕ) → Below count (take n a) → Below count (take n (set a i (with_digit a i blank v)))
  below_replaced count h = rw same_positions h

  pub small_replaced : v < 6 → Small (take n a) → Small (take n (set a i (with_digit a i blank v)))
  small_replaced l h = rw replaced (All-set (λ c. c.digit < 6) (take n a) i (with_digit (take n a) i blank v) l h)

  pub apart_replaced : Distinct (take n a) → Distinct (take n (set a i (with_digit a i blank v)))
  apart_replaced h = rw same_positions h

  pub told_replaced : (p : ℕ) → place_of (take n a) p ≡ Some i →
      (q : ℕ) → digit_told (take n (set a i (with_digit a i blank v))) q ≡ told_after (digit_told (take n a)) p v q
  told_replaced p found q = rw replaced (told_set (take n a) p i v blank found q)

-- the first n + 1, once a change stands behind the first n
module _ (a : List Change) (n : ℕ) (c : Change) (room : n < length a) where
  added : take (n + 1) (set a n c) ≡ take n a ++ c ∷ []
  added = take_more_set a n c room

  positions_added : positions (take (n + 1) (set a n c)) ≡ positions (take n a) ++ c.position ∷ []
  positions_added = ap positions added ∙ map-append (λ (c : Change). c.position) (take n a) (c ∷ [])

  pub below_added : (count : ℕ) → c.position < count → Below count (take n a) → Below count (take (n + 1) (set a n c))
  below_added count l h = rw positions_added (All-push (λ p. p < count) (positions (take n a)) c.position h l)

  pub small_added : c.digit < 6 → Small (take n a) → Small (take (n + 1) (set a n c))
  small_added l h = rw added (All-push (λ c. c.digit < 6) (take n a) c h l)

  pub apart_added : digit_told (take n a) c.position ≡ None → Distinct (take n a) → Distinct (take (n + 1) (set a n c))
  apart_added none h =
      rw positions_added
      (all_pairs_push (λ p q. p ≢ q) (positions (take n a)) c.position h
      (λ k d l e.
      let l' : k < length (take n a) = omega (arith, length-map (take n a) (λ (c : Change). c.position)) in
      no_change (take n a) c.position none k c l' (sym (get_or-map (λ (c : Change). c.position) (take n a) k c d l') ∙ e)))

  pub told_added : digit_told (take n a) c.position ≡ None →
      (q : ℕ) → digit_told (take (n + 1) (set a n c)) q ≡ told_after (digit_told (take n a)) c.position c.digit q
  told_added none q = rw added (told_push (take n a) c.position c.digit none q)
