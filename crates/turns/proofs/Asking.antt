-- What a host that is asked into a zeroed sheet leaves there.
use Rattle.std.proofs.Common.{◌≡◌, ℕ, List, length, replicate, Some, None, Ok, Err, Result, MatchResult, sym, ap, ◌∙◌}
use Rattle.std.proofs.lemmas.List.{length-replicate}
use Rattle.faults.specs.declared.Fault.{Fault}
use Rattle.family.specs.Vectors.{Vectors}
use Rattle.scheme.specs.Answers.{answered, sheet_of, sheet_size}
use Rattle.scheme.proofs.FitRows.{zeros}
use Rattle.host.specs.Holdings.{Holding, answer_fault}
use Rattle.host.proofs.Fitness.{fit_from}
use Rattle.turns.specs.First.{blank, unless_refused, host_fault, asked_sheet}

-- Where it answers, the sheet was as long as it must be: so it is the sheet of the host's table. Refused, it is still zeroed.
pub asked : (f : Vectors) (host : Holding) (p sheet before after : List ℕ) (result : Result (Unit {0}) Fault) → before ≡ blank sheet →
    MatchResult result
    (λ _. (answer_fault host.count f p before ≡ None) × (after ≡ answered f host.table p before))
    (λ e. (answer_fault host.count f p before ≡ Some e) × (after ≡ before)) →
    after ≡ asked_sheet f host p sheet
asked f host p sheet before after (Ok x) zero done =
    let none : host_fault f host p sheet ≡ None = ap (answer_fault host.count f p) (sym zero) ∙ done.0 in
    let size : length sheet ≡ sheet_size f.dim =
    sym (length-replicate (length sheet) 0) ∙ (fit_from host.count f p (blank sheet) none).sheet_fits.0 in
    done.1 ∙ ap (answered f host.table p) (zero ∙ ap (λ k. replicate k 0) size ∙ zeros (sheet_size f.dim))
    ∙ sym (ap (λ o. unless_refused o (sheet_of f host.table p) (blank sheet)) none)
asked f host p sheet before after (Err e) zero done =
    let some : host_fault f host p sheet ≡ Some e = ap (answer_fault host.count f p) (sym zero) ∙ done.0 in
    done.1 ∙ zero ∙ sym (ap (λ o. unless_refused o (sheet_of f host.table p) (blank sheet)) some)
