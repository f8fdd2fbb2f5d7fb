-- A book is accepted exactly where its layout is in order and its vectors are a matching family.
use Rattle.std.specs.Prelude.{◌≡◌, ℕ, false, List, length, drop, is_some, Some, None, Option, refl}
use Rattle.std.proofs.Common.{sym, ap₂, ◌∙◌, arith}
use Rattle.std.proofs.Math.Path.{ap}
use Rattle.std.specs.Option.{option_map}
use Rattle.faults.specs.declared.Cause.{Cause}
use Rattle.faults.specs.declared.Cause.TheVariants.{Unmatched}
use Rattle.faults.specs.Faults.{unmatched_fault}
use Rattle.digits.proofs.Passing.{some≢none, goes_on, or_else_none, none_or_else}
use Rattle.family.specs.Vectors.{Matches}
use Rattle.books.specs.BookVectors.{book_vectors}
use Rattle.books.specs.Books.{book_fault, told, told_dimension, told_count}
use Rattle.books.specs.Layout.{dimension_fault, count_fault, layout_fault}
use Rattle.books.specs.Numbers.{dimension_of, count_of}
use Rattle.books.specs.Pairs.{FirstUnmatched, bad_pair, pairs_fault}
use Rattle.books.specs.Matching.{first_unmatched, matches_if_none, none_if_matches}

pub none_of : {X : Type 0} (o : Option X) → is_some o ≡ false → o ≡ None
none_of None e = refl
none_of (Some x) e = absurd (let z : ◌≡◌ {A = ℕ} 0 1 = cc in omega arith)

unmapped : {X Y : Type 0} (g : X → Y) (o : Option X) → option_map g o ≡ None → o ≡ None
unmapped g None e = refl
unmapped g (Some x) e = absurd (some≢none (g x) e)

-- the pair that a fault names is the pair that was found
named_pair : (o : Option (ℕ × ℕ)) (i j : ℕ) → option_map (λ p. unmatched_fault p.0 p.1) o ≡ Some (unmatched_fault i j) → o ≡ Some (i, j)
named_pair None i j e = absurd (some≢none (unmatched_fault i j) (sym e))
named_pair (Some p) i j e =
    let faults : unmatched_fault p.0 p.1 ≡ unmatched_fault i j = cc in
    let causes : ◌≡◌ {A = Cause} (Unmatched p.0 p.1) (Unmatched i j) = ap (λ f. f.cause) faults in
    let first : p.0 ≡ i = cc in
    let second : p.1 ≡ j = cc in
    ap₂ (λ x y. Some (x, y)) first second

module _ (bs : List ℕ) where
  pub accepted_none : is_some (book_fault bs) ≡ false → book_fault bs ≡ None
  accepted_none e = none_of (book_fault bs) e

  pub only_families : book_fault bs ≡ None → (layout_fault bs ≡ None) × Matches (book_vectors bs)
  only_families e =
      let both = or_else_none (layout_fault bs) (pairs_fault (book_vectors bs)) e in
      (both.0, matches_if_none (book_vectors bs) (unmapped _ (bad_pair (book_vectors bs)) both.1))

  pub all_families : layout_fault bs ≡ None → Matches (book_vectors bs) → book_fault bs ≡ None
  all_families layout m =
      none_or_else (layout_fault bs) (pairs_fault (book_vectors bs)) layout
      (ap (option_map _) (none_if_matches (book_vectors bs) m))

  -- a book in order that is refused names the first pair that breaks the matching rule
  pub first_fault : layout_fault bs ≡ None → (i j : ℕ) → book_fault bs ≡ Some (unmatched_fault i j) → FirstUnmatched (book_vectors bs) i j
  first_fault layout i j e =
      first_unmatched (book_vectors bs) i j
      (named_pair (bad_pair (book_vectors bs)) i j (sym (goes_on (layout_fault bs) (pairs_fault (book_vectors bs)) _ layout refl) ∙ e))

  -- an accepted book tells its dimension and its count
  pub told_both : book_fault bs ≡ None → (told_dimension bs ≡ Some (dimension_of bs)) × (told_count bs ≡ Some (count_of bs))
  unfolding layout_fault
  told_both e =
      let layout = (or_else_none (layout_fault bs) (pairs_fault (book_vectors bs)) e).0 in
      let one = or_else_none (dimension_fault bs) _ layout in
      let two = or_else_none (count_fault (length bs) (drop 2 bs)) _ one.1 in (
        ap (λ o. told o (dimension_of bs)) one.0,
        ap (λ o. told o (count_of bs)) (none_or_else (dimension_fault bs) (count_fault (length bs) (drop 2 bs)) one.0 two.0),
      )
