-- Each turn of the loop writes one line more.
use Rattle.std.proofs.Common.{ℕ, List, [], ◌++◌, refl, ap, ◌∙◌, rules, append_assoc}
use Rattle.std.proofs.Output.{has_written_append, has_written_of_eq}
use Rattle.std.proofs.lemmas.List.{nil_from_length}
use Rattle.working.specs.Layout.{row_text}
use Rattle.working.proofs.Lining.{line_more, all_left, none_left}
use Rattle.working.proofs.blocks.BlockDisplay.fmt.Goals as goal

pub loop-digits-init : goal.loop-digits-init
loop-digits-init g c = (
  search rules,
  tt,
  search rules,
  search rules,
  λ plain.
      ([], search rules, all_left c.args.self.now.0.now c.args.self.now.1.now _ (search rules)),
)

pub loop-digits-preserved : goal.loop-digits-preserved
loop-digits-preserved g c =
    let steps = c.in-Some.ensures.steps in
    let size = c.loop-digits.invariant.3 in
    let name = c.loop-digits.name.now in
    let line = c.in-Some.digits.now in (
      search rules,
      tt,
      ([], (refl, refl)),
      steps.0 ∙ size,
      λ plain.
          let so_far = c.loop-digits.invariant.4 plain in (
            so_far.0 ++ row_text name line,
            has_written_append _ _ _ _ _ _ so_far.1 (search rules),
            append_assoc so_far.0 _ _
                ∙ ap (λ (t : List ℕ). so_far.0 ++ t) (line_more name line _ _ steps.1.0 (rw size at steps.1.1) steps.1.2)
                ∙ so_far.2,
          ),
    )

pub returns-clause-writes : goal.returns-clause-writes
returns-clause-writes g c = λ plain _.
    let so_far = c.loop-digits.invariant.4 plain in
    let none = nil_from_length _ c.in-None.ensures.steps.1.0 in
    has_written_of_eq _ _ _ _ _ (none_left c.loop-digits.name.now so_far.0 _ _ none so_far.2) so_far.1
