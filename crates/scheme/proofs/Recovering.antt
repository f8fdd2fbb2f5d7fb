-- It recovers: the first half of the law of all runs.
use Rattle.std.proofs.Common.{◌≡◌, ℕ, List, sym, refl, ap, ap₂, ◌∙◌, subst}
use Rattle.digits.specs.Rows.{Digits}
use Rattle.family.specs.Vectors.{Vectors}
use Rattle.scheme.specs.Answers.{Query, zero_sheet, sheet_of}
use Rattle.scheme.specs.Queries.{second_query, shift}
use Rattle.scheme.specs.Recovery.{read_entry}
use Rattle.scheme.specs.Sessions.{Session, digits_left, outcome}
use Rattle.scheme.specs.Runs.{recovered}
use Rattle.scheme.specs.Law.{Recovers}
use Rattle.scheme.proofs.FitRows.{first_fit, second_fit, zero_fit, answered_fit}
use Rattle.scheme.proofs.Follows.{lookup_in}
use Rattle.scheme.proofs.TwoSheets.{found_entry, read_scaled}
use Rattle.scheme.proofs.Outcomes.{reads}
use Rattle.scheme.proofs.Taken.{Taken, taken}

pub recovering : (f : Vectors) → Recovers f
recovering f tape digits calls events end run g family t l m p q one two shown follow a table first_host second_host keeps_first keeps_second one_is two_is =
    let look = lookup_in refl run follow in
    let s : Session = look.session in
    let fits : Taken s.count s.dim (digits_left s) g t = taken s.count s.dim (digits_left s) g t l m look.taken in
    let second : List ℕ = second_query g t p in
    let query : Query g p = subst (Query g) (sym look.first_is) (first_fit g s (subst Digits (sym look.tape_is) digits) fits.dim_is fits.room) in
    let one_sheet : one ≡ sheet_of g a p = one_is ∙ keeps_first p (zero_sheet g) query (zero_fit g) in
    let two_sheet : two ≡ sheet_of g a second =
    two_is ∙ ap (λ x. second_host x (zero_sheet g)) look.second_is ∙ keeps_second second (zero_sheet g) (second_fit g t p) (zero_fit g) in
    look.shown_is
    ∙ ap₂ (λ x y. recovered (outcome s.count s.dim g t (shift g t p) x y)) one_sheet two_sheet
    ∙ ap recovered
    (reads g (sheet_of g a p) (sheet_of g a second) (answered_fit g a p (zero_sheet g)) (answered_fit g a second (zero_sheet g))
    s.count s.dim t (shift g t p) (a t) fits.family_passes
    (ap read_entry (found_entry g family t fits.below_count a p) ∙ read_scaled (a t) (table t fits.below_count)))
