-- The word family is a matching family.
use Rattle.std.proofs.Common.{sym, ap, subst, ◌∙◌, inl, inr, arith}
use Rattle.std.specs.Prelude.{ℕ, ◌^◌, ◌<◌, ◌≤◌}
use Rattle.std.specs.List.{range_with_len}
use Rattle.std.proofs.lemmas.List.FromFn.{length-range_with_len}
use Rattle.std.proofs.lemmas.Bool.{cases_eq, cases_lt}
use Rattle.family.specs.Vectors.{Apart, Matches, Limits, Told, MatchingFamily}
use Rattle.words.specs.Agreement.{by_agreement}
use Rattle.words.specs.Places.{place_sets}
use Rattle.words.specs.Words.{letter, weight, word_digit, word_vectors}
use Rattle.words.specs.Limits.{count_some, count_few, dim_narrow, weight_lt}
use Rattle.words.specs.MarksLemmas.{mark_lt}
use Rattle.words.specs.Matching.{digit_at, digit_past, digit_past_dim, common, pairing_agreement, common_most, common_all}
use Rattle.words.specs.Readings.{agree_self}
use Rattle.words.specs.Rule.{agree_wholly, agree_partly}

module _ (h q : ℕ) (short : h ≤ 5) (some : 2 ≤ q) (few : q ≤ 16) where
  words_match : Matches (word_vectors h q)
  words_match =
      record {
        alike = λ i l.
            pairing_agreement h q i i (omega arith) l l
            ∙ ap (by_agreement h) (agree_self (letter h q i) (range_with_len 0 h) ∙ length-range_with_len 0 h) ∙ agree_wholly h short;
        apart = λ i j l m ne.
            let most = common_most h q i j (omega arith) l m in
            subst Apart (sym (pairing_agreement h q i j (omega arith) l m))
            (elim (cases_eq (common h q i j) h) [
              | inl e ↦ absurd (ne (common_all h q i j (omega arith) l m e))
              | inr e ↦ agree_partly h (common h q i j) short (omega arith)
            ]);
      }

  words_limits : Limits (word_vectors h q)
  words_limits =
      record {
        some = count_some h q some;
        few = count_few h q some short few;
        wide = omega arith;
        narrow = omega (arith, dim_narrow h q short few);
      }

  pub digit_lt : (w : ℕ → ℕ) → ((s : ℕ) → w s < 6) → (i c : ℕ) → word_digit h q w i c < 6
  digit_lt w low i c =
      elim (cases_lt i (q ^ h)) [
        | inl l ↦ omega (arith, digit_at h q w i c l, mark_lt q w (letter h q i) 6 low (place_sets h) c)
        | inr l ↦ omega (arith, digit_past h q w i c l)
      ]

  words_told : Told (word_vectors h q)
  words_told =
      record {
        u_digit = digit_lt (λ s. 1) (λ s. omega arith);
        v_digit = digit_lt (weight h) (weight_lt h);
        u_past_count = digit_past h q (λ s. 1);
        v_past_count = digit_past h q (weight h);
        u_past_dim = digit_past_dim h q (λ s. 1);
        v_past_dim = digit_past_dim h q (weight h);
      }

  pub words_family : MatchingFamily (word_vectors h q)
  words_family = record { limits = words_limits; told = words_told; matches = words_match }
