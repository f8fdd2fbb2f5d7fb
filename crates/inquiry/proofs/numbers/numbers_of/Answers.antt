-- Each turn of the loop reads one field more.
use Rattle.std.proofs.Common.{List, [], ℕ, Bor, sym, ap, ◌∙◌, arith}
use Rattle.std.specs.Result.{result_ok}
use Rattle.std.proofs.lemmas.Grind.{common_steps}
use Rattle.inquiry.proofs.Fielding.{field_more, field_wrong}
use Rattle.inquiry.proofs.numbers.numbers_of.Goals as goal

abbrev no_field : Bor (List ℕ)
no_field = record { ref_ptr = (0, 0); now = [] }

pub returns-in_err-ok_or : goal.returns-in_err-ok_or
returns-in_err-ok_or c =
    let wrong = field_wrong (λ (x : Bor (List ℕ)). x.now) c.args.fields.now c.loop-field.field-index no_field (omega arith)
    (sym c.number.ensures ∙ (c.ok_or.ensures.ok_part ∙ ap result_ok c.in_err-ok_or.was)) in
    grind (arith, common_steps)

pub loop-field-preserved : goal.loop-field-preserved
loop-field-preserved c =
    field_more (λ (x : Bor (List ℕ)). x.now) c.args.fields.now c.loop-field.field-index no_field _ _ c.in_ok-ok_or.field-0 (omega arith)
    c.loop-field.invariant (sym c.number.ensures ∙ (c.ok_or.ensures.ok_part ∙ ap result_ok c.in_ok-ok_or.was)) c.in_ok-push.ensures.items
