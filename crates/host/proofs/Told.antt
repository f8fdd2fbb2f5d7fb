-- What lists of changes tell: where one is found, replaced or added.
use Rattle.std.proofs.Common.{◌≡◌, ◌≢◌, ℕ, ◌<◌, List, [], ◌∷◌, ◌++◌, length, get_or, set, Some, None, ap₂, arith}
use Rattle.std.specs.List.{position_or_len, Contains}
use Rattle.std.proofs.lemmas.Bool.Decides.{nat_tests}
use Rattle.std.proofs.lemmas.List.{get_or-map, length-map}
use Rattle.std.proofs.lemmas.List.Folds.{find_at, find-set, find_past, find-append}
use Rattle.std.proofs.lemmas.List.Quantifiers.{position-Some}
use Rattle.std.proofs.lemmas.List.Sums.{passes_at_first, fails_before_first}
use Rattle.std.proofs.lemmas.Option.{slice_get_past, slice_get-get_or}
use Rattle.host.specs.declared.change.Change.{Change}
use Rattle.host.specs.Changes.{stands_at, digit_told, told_after, place_of, Distinct}

-- no place, no change told
pub told_nowhere : (xs : List Change) (p : ℕ) → place_of xs p ≡ None → digit_told xs p ≡ None
told_nowhere xs p e =
    let first = find_at (stands_at p) xs in
    let past = slice_get_past xs (position_or_len (stands_at p) xs) in
    grind (arith, nat_tests)

-- none told at a position, no change has it
pub no_change : (xs : List Change) (p : ℕ) → digit_told xs p ≡ None →
    (k : ℕ) (d : Change) → k < length xs → (get_or xs k d).position ≢ p
no_change xs p none k d l e =
    let first = find_at (stands_at p) xs in
    let found = slice_get-get_or xs (position_or_len (stands_at p) xs) d in
    let fails = fails_before_first (stands_at p) xs k d in
    grind (arith, nat_tests)

-- and the other way round
pub told_none : (xs : List Change) (p : ℕ) → ((k : ℕ) (d : Change) → k < length xs → (get_or xs k d).position ≢ p) →
    digit_told xs p ≡ None
told_none xs p others =
    let j : ℕ = position_or_len (stands_at p) xs in
    let blank : Change = record { position = 0; digit = 0 } in
    let first = find_at (stands_at p) xs in
    let past = slice_get_past xs j in
    let passes = passes_at_first (stands_at p) xs blank in
    let other = others j blank in
    grind (arith, nat_tests)

-- at its place a change is told
pub told_some : (xs : List Change) (p i : ℕ) (d : Change) → place_of xs p ≡ Some i → digit_told xs p ≡ Some (get_or xs i d).digit
told_some xs p i d e =
    let first = find_at (stands_at p) xs in
    let within = slice_get-get_or xs (position_or_len (stands_at p) xs) d in
    grind (arith, nat_tests)

-- with another digit at its place, that digit is told at its position, and elsewhere what was told before
pub told_set : (xs : List Change) (p i v : ℕ) (d : Change) → place_of xs p ≡ Some i →
    (q : ℕ) → digit_told (set xs i (record { position = (get_or xs i d).position; digit = v })) q ≡ told_after (digit_told xs) p v q
told_set xs p i v d e q =
    let at_place = position-Some (stands_at p) xs i d e in
    let c : Change = record { position = (get_or xs i d).position; digit = v } in
    let here = find-set (stands_at p) xs i c in
    let there = find_past (stands_at q) xs i c d in
    grind (arith, nat_tests)

-- a change added at the end is told as well, where none was told at its position
pub told_push : (xs : List Change) (p v : ℕ) → digit_told xs p ≡ None →
    (q : ℕ) → digit_told (xs ++ record { position = p; digit = v } ∷ []) q ≡ told_after (digit_told xs) p v q
told_push xs p v e q =
    let c : Change = record { position = p; digit = v } in
    let both = find-append (stands_at q) xs (c ∷ []) in
    grind (arith, nat_tests)

-- positions apart, no two changes have the same
pub apart_at : (xs : List Change) → Distinct xs → (k j : ℕ) (d e : Change) → k < j → j < length xs →
    (get_or xs k d).position ≢ (get_or xs j e).position
apart_at xs apart k j d e h l =
    let of_k = get_or-map (λ (c : Change). c.position) xs k d 0 (omega arith) in
    let of_j = get_or-map (λ (c : Change). c.position) xs j e 0 l in
    let size = length-map xs (λ (c : Change). c.position) in
    let other = apart k j 0 h (omega arith) in
    omega arith

-- so each change is told
pub told_each : (xs : List Change) → Distinct xs → (k : ℕ) (d : Change) → k < length xs →
    digit_told xs (get_or xs k d).position ≡ Some (get_or xs k d).digit
told_each xs apart k d l =
    let p : ℕ = (get_or xs k d).position in
    let j : ℕ = position_or_len (stands_at p) xs in
    let first = find_at (stands_at p) xs in
    let found = slice_get-get_or xs j d in
    let passes = passes_at_first (stands_at p) xs d in
    let fails = fails_before_first (stands_at p) xs k d in
    let other = apart_at xs apart j k d d in
    grind (arith, nat_tests)

-- a change stands in the list exactly where it is told
pub told_listed : (xs : List Change) → Distinct xs →
    (p d : ℕ) → Contains xs (record { position = p; digit = d }) → digit_told xs p ≡ Some d
told_listed xs apart p d (k, l, is) =
    let c : Change = record { position = p; digit = d } in
    let told_it = told_each xs apart k c l in
    cc

pub listed_told : (xs : List Change) (p d : ℕ) → digit_told xs p ≡ Some d → Contains xs (record { position = p; digit = d })
listed_told xs p d e =
    let c : Change = record { position = p; digit = d } in
    let j : ℕ = position_or_len (stands_at p) xs in
    let first = find_at (stands_at p) xs in
    let past = slice_get_past xs j in
    let found = slice_get-get_or xs j c in
    let passes = passes_at_first (stands_at p) xs c in
    let l : j < length xs = grind (arith, nat_tests) in
    let at_p : (get_or xs j c).position ≡ p = grind (arith, nat_tests) in
    let of_d : (get_or xs j c).digit ≡ d = grind (arith, nat_tests) in
    let f : ℕ → ℕ → Change = λ p d. record { position = p; digit = d } in
    (j, l, ap₂ f at_p of_d)
