-- An input that is cut behind the first byte too many says the same.
use Rattle.std.proofs.Common.{◌≡◌, ℕ, ◌<◌, List, length, take, nat_le, None, ap, sym, ◌∙◌, inl, inr, length-take, arith}
use Rattle.std.proofs.lemmas.Bool.{cases_lt, cond-false, lt-leb}
use Rattle.std.proofs.lemmas.List.{take_all}
use Rattle.inquiry.specs.Grammar.{inquiry_of}

too_long : (xs : List ℕ) → 8192 < length xs → inquiry_of xs ≡ None
unfolding inquiry_of
too_long xs h = cond-false (nat_le (length xs) 8192) _ None (lt-leb (length xs) 8192 h)

pub cut_alike : (n : ℕ) (xs : List ℕ) → 8192 < n → inquiry_of (take n xs) ≡ inquiry_of xs
cut_alike n xs h =
    elim (cases_lt n (length xs)) [
      | inl longer ↦
          too_long (take n xs) (omega (arith, length-take n xs)) ∙ sym (too_long xs (omega arith))
      | inr all ↦ ap inquiry_of (take_all n xs all)
    ]
