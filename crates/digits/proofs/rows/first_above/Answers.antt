-- The library's place of the first item that passes, in the definition's words.
use Rattle.std.proofs.Common.{◌≡◌, ◌<◌, ℕ, List, length, Option, MatchOption, ltb, ◌∙◌, inl, inr, rules, tests, arith}
use Rattle.std.specs.List.{position, position_or_len}
use Rattle.std.proofs.lemmas.Iterator.{YieldsList-from_slice}
use Rattle.std.proofs.lemmas.Iterator.Search.{position_from_yields_List}
use Rattle.std.proofs.lemmas.Bool.{cases_lt, lt-ltb, le-ltb, ltb-true, ltb-false, cond-true, cond-false}
use Rattle.std.proofs.lemmas.List.Sums.{position_or_len_is, prefix_len_passes, prefix_len_stops, prefix_len-le-length}
use Rattle.digits.specs.Rows.{first_above}
use Rattle.digits.proofs.rows.first_above.Goals as goal

place_is : (xs : List ℕ) → position_or_len (λ x. ltb 5 x) xs ≡ first_above xs
place_is xs =
    position_or_len_is (λ x. ltb 5 x) xs (first_above xs) 0 (prefix_len-le-length (λ x. ltb x 6) xs)
    (λ k h. le-ltb 5 _ (let t = ltb-true _ 6 (prefix_len_passes (λ x. ltb x 6) xs k 0 h) in omega arith))
    (λ h. lt-ltb 5 _ (let t = ltb-false _ 6 (prefix_len_stops (λ x. ltb x 6) xs 0 h) in omega arith))

place_found : (xs : List ℕ) (r : Option ℕ) → r ≡ position (λ x. ltb 5 x) xs →
    MatchOption r (first_above xs ≡ length xs) (λ i. (i ≡ first_above xs) × (i < length xs))
place_found xs r e =
    let n = position_or_len (λ x. ltb 5 x) xs in
    let whole = prefix_len-le-length (λ x. ltb x 6) xs in
    elim (cases_lt n (length xs)) [
      | inl l ↦ rw (e ∙ cond-true _ _ _ (lt-ltb n (length xs) l)) (place_is xs, l)
      | inr past ↦ rw (e ∙ cond-false _ _ _ (le-ltb n (length xs) past)) (omega (arith, place_is xs))
    ]

pub returns : goal.returns
returns c =
    place_found c.args.row.now c.position.result
    (position_from_yields_List (λ x. ltb 5 x) _ _ _ c.position.ensures.ran (YieldsList-from_slice c.args.row.now cc) (λ x b q k. search (rules, tests)))
