-- The steps by which a position's own coordinates are found.
use Rattle.std.proofs.Common.{◌≡◌, ℕ, suc, ◌+◌, ◌-◌, ◌*◌, ◌<◌, ◌≤◌, List, [], ◌∷◌, ◌++◌, map, length, sym, ap, ap₂, ◌∙◌, subst, add_assoc, append_assoc, append-nil, length-append, length-drop, take, drop, zero-add, zero-mul, arith}
use Rattle.std.proofs.Math.Nat.{pow-zero}
use Rattle.std.specs.List.{range_with_len}
use Rattle.std.proofs.lemmas.List.{take_rest, get_or-drop}
use Rattle.std.proofs.lemmas.List.Sums.{sum_by-cons}
use Rattle.digits.specs.Rows.{at, row}
use Rattle.words.specs.Limits.{power_one, power_two, sets_few, width_sets, dim_narrow}
use Rattle.words.specs.Marks.{reading, block, width}
use Rattle.words.specs.Own.{own_from, own_coordinates}
use Rattle.words.specs.Places.{choose, place_sets}
use Rattle.words.specs.Readings.{letter_lt, reading_lt}
use Rattle.words.specs.Words.{letter, word_dim}
use Rattle.words.specs.declared.words.Words.{Words}
use Rattle.words.proofs.Lettering.{word_len, word_at}
use Rattle.words.proofs.OwnCoordinates.{length_own}

-- The own coordinates are those found and one for each set that is left, the first of whose blocks begins at `next`.
pub record Left (h q t : ℕ) (found : List ℕ) (next : ℕ) (sets : List (List ℕ)) : Type 0 where
  pub all : found ++ own_from q (letter h q t) next sets ≡ own_coordinates h q t
  pub reach : next + width q sets ≡ word_dim h q

-- the places from place p on
abbrev pub places_from : ℕ → ℕ → List ℕ
places_from h p = range_with_len p (h - p)

-- The sets that are left: the pairs of places from i on; before them each place from p on; or before the pairs from i + 1
-- on the pairs of place i and one from j on.
abbrev pub pairs_from : ℕ → ℕ → List (List ℕ)
pairs_from h i = choose 2 (places_from h i) ++ []

abbrev pub singles_from : ℕ → ℕ → List (List ℕ)
singles_from h p = choose 1 (places_from h p) ++ pairs_from h 0

abbrev pub pairs_with : ℕ → ℕ → ℕ → List (List ℕ)
pairs_with h i j = map (λ places. i ∷ places) (choose 1 (places_from h j)) ++ pairs_from h (i + 1)

places_more : (h p : ℕ) → p < h → places_from h p ≡ p ∷ places_from h (p + 1)
places_more h p l = ap (range_with_len p) {x = h - p} {y = suc (h - (p + 1))} (omega arith)

whole : (h : ℕ) → places_from h 0 ≡ range_with_len 0 h
whole h = ap (range_with_len 0) {x = h - 0} {y = h} (omega arith)

places_none : (h p : ℕ) → h ≤ p → places_from h p ≡ []
places_none h p l = ap (range_with_len p) {x = h - p} {y = 0} (omega arith)

read_one : (q : ℕ) (word : ℕ → ℕ) (p : ℕ) → reading q word (p ∷ []) ≡ word p
read_one q word p = ap (λ a. a + word p) (zero-mul q) ∙ zero-add (word p)

read_two : (q : ℕ) (word : ℕ → ℕ) (i j : ℕ) → reading q word (i ∷ j ∷ []) ≡ word i * q + word j
read_two q word i j = ap (λ a. a * q + word j) (read_one q word i)

module _ {h q t : ℕ} {found : List ℕ} {next : ℕ} where
  -- nothing is found but coordinate 0, which stands for no place
  pub left_all : found ≡ 0 ∷ [] → next ≡ 1 → Left h q t found next (singles_from h 0)
  unfolding choose own_from
  left_all e f =
      let sets = ap (λ ps. [] ∷ (choose 1 ps ++ (choose 2 ps ++ []))) (whole h) in
      record {
        all =
            ap₂ (λ xs a. xs ++ own_from q (letter h q t) a (singles_from h 0)) e (f ∙ sym (ap (λ a. 0 + a) (pow-zero q)))
            ∙ ap (own_from q (letter h q t) 0) sets;
        reach =
            ap (λ a. a + width q (singles_from h 0)) (f ∙ sym (pow-zero q)) ∙ sym (sum_by-cons (block q) [] (singles_from h 0))
            ∙ ap (width q) sets ∙ width_sets h q;
      }

  -- the sets of one place come to an end, and so do the pairs of place i, and all pairs
  pub singles_last : (word : List ℕ) → word ≡ row h (letter h q t) → (p : ℕ) → length word ≤ p → Left h q t found next (singles_from h p) →
      Left h q t found next (pairs_from h 0)
  unfolding choose
  singles_last word is p l left =
      subst (λ ps. Left h q t found next (choose 1 ps ++ pairs_from h 0)) (places_none h p (omega (arith, word_len h q t word is))) left

  pub pairs_next : (word : List ℕ) → word ≡ row h (letter h q t) → (i j : ℕ) → i < length word → j ≡ i + 1 → Left h q t found next (pairs_from h i) →
      Left h q t found next (pairs_with h i j)
  unfolding choose
  pairs_next word is i j l e left =
      subst (λ j. Left h q t found next (pairs_with h i j)) (sym e)
      (subst (Left h q t found next) (append_assoc (map (λ places. i ∷ places) (choose 1 (places_from h (i + 1)))) (choose 2 (places_from h (i + 1))) [])
      (subst (λ ps. Left h q t found next (choose 2 ps ++ [])) (places_more h i (omega (arith, word_len h q t word is))) left))

  pub pairs_last : (word : List ℕ) → word ≡ row h (letter h q t) → (i k : ℕ) → length (take (length word - (i + 1)) (drop (i + 1) word)) ≤ k →
      Left h q t found next (pairs_with h i (i + 1 + k)) → Left h q t found next (pairs_from h (i + 1))
  unfolding choose
  pairs_last word is i k l left =
      let rest = take_rest word (i + 1) in
      let past : h ≤ i + 1 + k = omega (arith, ap length rest, length-drop (i + 1) word, word_len h q t word is) in
      subst (λ ps. Left h q t found next (map (λ places. i ∷ places) (choose 1 ps) ++ pairs_from h (i + 1))) (places_none h (i + 1 + k) past) left

  pub left_none : (word : List ℕ) → word ≡ row h (letter h q t) → (i : ℕ) → length word ≤ i → Left h q t found next (pairs_from h i) →
      found ≡ own_coordinates h q t
  unfolding choose own_from
  left_none word is i l left =
      let none = subst (λ ps. Left h q t found next (choose 2 ps ++ [])) (places_none h i (omega (arith, word_len h q t word is))) left in
      sym (append-nil found) ∙ none.all

-- The coordinate n of the next set is found, and w is where the block after its own begins.
pub record Step (h q t : ℕ) (found : List ℕ) (n w : ℕ) (sets : List (List ℕ)) : Type 0 where
  pub left : Left h q t (found ++ (n ∷ [])) w sets
  pub room : length found < 16
  pub small : n < 2641
  pub reach : w ≤ 2641

module _ {h q t : ℕ} {found : List ℕ} {next : ℕ} (short : h ≤ 5) (some : 2 ≤ q) (few : q ≤ 16) where
  step : (places : List ℕ) (sets : List (List ℕ)) (n w : ℕ) → n ≡ next + reading q (letter h q t) places → w ≡ next + block q places →
      Left h q t found next (places ∷ sets) → Step h q t found n w sets
  unfolding own_from
  step places sets n w is ends left =
      let parts = sum_by-cons (block q) places sets in
      let bound = dim_narrow h q short few in
      let below = reading_lt q (letter h q t) (λ p. letter_lt h q t p (omega arith)) places in
      record {
        left = record {
          all =
              ap₂ (λ a b. (found ++ (a ∷ [])) ++ own_from q (letter h q t) b sets) is ends
              ∙ append_assoc found ((next + reading q (letter h q t) places) ∷ []) (own_from q (letter h q t) (next + block q places) sets)
              ∙ left.all;
          reach = omega (arith, left.reach);
        };
        room =
            omega (
              arith,
              sets_few h short,
              length_own q (letter h q t) 0 (place_sets h),
              length_own q (letter h q t) next (places ∷ sets),
              ap length left.all,
              length-append found (own_from q (letter h q t) next (places ∷ sets)),
            );
        small = omega (arith, left.reach);
        reach = omega (arith, left.reach);
      }

-- the steps at a family of words, where a word holds the letters of position t
module _ (w : Words) {t : ℕ} {found : List ℕ} {next : ℕ} (word : List ℕ) (is : word ≡ row w.letters (letter w.letters w.alphabet t)) where
  -- a place's coordinate
  pub single_step : (p : ℕ) → p < length word → Left w.letters w.alphabet t found next (singles_from w.letters p) →
      Step w.letters w.alphabet t found (next + at word p) (next + w.alphabet) (singles_from w.letters (p + 1))
  unfolding choose
  single_step p l left =
      step w.short w.choice w.few (p ∷ []) (singles_from w.letters (p + 1)) _ _
      (ap (λ a. next + a) (word_at _ _ t word is p l ∙ sym (read_one w.alphabet (letter w.letters w.alphabet t) p)))
      (ap (λ a. next + a) (sym (power_one w.alphabet)))
      (subst (λ ps. Left w.letters w.alphabet t found next (choose 1 ps ++ pairs_from w.letters 0))
      (places_more w.letters p (omega (arith, word_len _ _ t word is))) left)

  -- the coordinate of place i and place k after it
  pub pair_step : (i k : ℕ) → i < length word → k < length (take (length word - (i + 1)) (drop (i + 1) word)) →
      Left w.letters w.alphabet t found next (pairs_with w.letters i (i + 1 + k)) →
      Step w.letters w.alphabet t found (next + at word i * w.alphabet + at (take (length word - (i + 1)) (drop (i + 1) word)) k)
      (next + w.alphabet * w.alphabet) (pairs_with w.letters i (i + 1 + (k + 1)))
  unfolding choose
  pair_step i k l l' left =
      let rest = take_rest word (i + 1) in
      let inside : i + 1 + k < length word = omega (arith, ap length rest, length-drop (i + 1) word) in
      let second : at (take (length word - (i + 1)) (drop (i + 1) word)) k ≡ letter w.letters w.alphabet t (i + 1 + k) =
      ap (λ xs. at xs k) rest ∙ get_or-drop (i + 1) word k 0 ∙ word_at _ _ t word is (i + 1 + k) inside in
      subst (Step w.letters w.alphabet t found _ _) (ap (pairs_with w.letters i) (add_assoc (i + 1) k 1))
      (step w.short w.choice w.few (i ∷ (i + 1 + k) ∷ []) (pairs_with w.letters i (i + 1 + k + 1)) _ _
      (add_assoc next (at word i * w.alphabet) _ ∙ ap₂ (λ a b. next + (a * w.alphabet + b)) (word_at _ _ t word is i l) second
      ∙ ap (λ a. next + a) (sym (read_two w.alphabet (letter w.letters w.alphabet t) i (i + 1 + k))))
      (ap (λ a. next + a) (sym (power_two w.alphabet)))
      (subst (λ ps. Left w.letters w.alphabet t found next (map (λ places. i ∷ places) (choose 1 ps) ++ pairs_from w.letters (i + 1)))
      (places_more w.letters (i + 1 + k) (omega (arith, word_len _ _ t word is))) left))
