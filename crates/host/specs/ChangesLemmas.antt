-- Changes of digits at positions below the count make a table that is held well.
use Rattle.std.specs.Prelude.{◌≡◌, ℕ, ◌<◌, ◌≤◌, List, length, None, unwrap_or}
use Rattle.std.specs.List.{position_or_len}
use Rattle.std.proofs.Common.{get_or, ap, arith}
use Rattle.std.proofs.lemmas.Bool.Decides.{nat_tests}
use Rattle.std.proofs.lemmas.List.{get_or-map, length-map}
use Rattle.std.proofs.lemmas.List.Folds.{find_at}
use Rattle.std.proofs.lemmas.List.Sums.{passes_at_first}
use Rattle.std.proofs.lemmas.Option.{slice_get_past, slice_get-get_or}
use Rattle.host.specs.declared.change.Change.{Change}
use Rattle.host.specs.Holdings.{WellHeld}
use Rattle.host.specs.Changes.{stands_at, digit_told, table_of, change_holding, Below, Small}

-- where positions below n are held, each change has one
pub below_at : (n : ℕ) (changes : List Change) → Below n changes → (j : ℕ) (d : Change) → j < length changes →
    (get_or changes j d).position < n
below_at n changes below j d l =
    omega (arith, below j 0, get_or-map (λ (c : Change). c.position) changes j d 0 l, length-map changes (λ (c : Change). c.position))

module _ (changes : List Change) (p : ℕ) where
  -- where the change at p stands, and what is read past the end
  abbrev place : ℕ
  place = position_or_len (stands_at p) changes

  abbrev blank : Change
  blank = record { position = 0; digit = 0 }

  -- where digits are held, digits are told, and entries are digits
  pub small_entry : Small changes → table_of (digit_told changes) p < 6
  small_entry small =
      let first = find_at (stands_at p) changes in
      let past = slice_get_past changes place in
      let found = slice_get-get_or changes place blank in
      let digit = small place blank in
      grind (arith, nat_tests)

  -- where positions below n are held, none is told from n on
  pub none_past : (n : ℕ) → Below n changes → n ≤ p → digit_told changes p ≡ None
  none_past n below l =
      let first = find_at (stands_at p) changes in
      let past = slice_get_past changes place in
      let passes = passes_at_first (stands_at p) changes blank in
      let low = below_at n changes below place blank in
      grind (arith, nat_tests)

pub changes_held_well : (n : ℕ) (changes : List Change) → 1 ≤ n → n ≤ 1048576 → Below n changes → Small changes →
    WellHeld (change_holding n (digit_told changes))
changes_held_well n changes some few below small = record {
  some = some;
  few = few;
  digits = λ p. small_entry changes p small;
  past = λ p l. ap (λ o. unwrap_or o 0) (none_past changes p n below l);
}
