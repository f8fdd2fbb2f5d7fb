-- What a recovery gives that is handed a family which is not refused and two fit sheets.
use Rattle.std.proofs.Common.{◌≡◌, ℕ, List, Some, None, Ok, ap, subst, ◌∙◌}
use Rattle.digits.proofs.DigitRows.{digits_pass}
use Rattle.digits.proofs.Passing.{none_or_else, long_passes}
use Rattle.family.specs.Vectors.{Vectors}
use Rattle.scheme.specs.Answers.{Sheet, sheet_size}
use Rattle.scheme.specs.Recovery.{found, read_entry}
use Rattle.scheme.specs.Sessions.{family_fault, sheets_fault, read_or_odds, unless, outcome}
use Rattle.scheme.proofs.Taken.{family_is}

module _ (f : Vectors) (one two : List ℕ) (fit_one : Sheet f one) (fit_two : Sheet f two) where
  sheets_pass : sheets_fault f.dim one two ≡ None
  sheets_pass =
      none_or_else _ _ (long_passes (sheet_size f.dim) one fit_one.0)
      (none_or_else _ _ (long_passes (sheet_size f.dim) two fit_two.0)
      (none_or_else _ _ (digits_pass one fit_one.1) (digits_pass two fit_two.1)))

  -- the entry, or the fault that the sheets are at odds
  pub weighs : (n k t turn : ℕ) → family_fault n k f ≡ None → outcome n k f t turn one two ≡ read_or_odds t (read_entry (found f t turn one two))
  unfolding outcome
  weighs n k t turn family =
      ap (λ fault. unless fault (read_or_odds t (read_entry (found f t turn one two))))
      (none_or_else (family_fault n k f) (sheets_fault k one two) family
      (subst (λ d. sheets_fault d one two ≡ None) (family_is n k f family).1 sheets_pass))

  pub reads : (n k t turn e : ℕ) → family_fault n k f ≡ None → read_entry (found f t turn one two) ≡ Some e → outcome n k f t turn one two ≡ Ok e
  reads n k t turn e family read = weighs n k t turn family ∙ ap (read_or_odds t) read
