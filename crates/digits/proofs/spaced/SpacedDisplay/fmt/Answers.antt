-- Each turn of the loop writes one digit more.
use Rattle.std.proofs.Common.{sym, arith, rules}
use Rattle.std.proofs.Output.{has_written_append, has_written_of_eq}
use Rattle.digits.proofs.Spacing.{digit_more}
use Rattle.digits.proofs.spaced.SpacedDisplay.fmt.Goals as goal

pub loop-digit-preserved : goal.loop-digit-preserved
loop-digit-preserved g c = λ p.
    has_written_of_eq _ _ _ _ _ (sym (digit_more c.args.self.now.0.now c.loop-digit.digit-index (omega arith)))
    (has_written_append _ _ _ _ _ _ (c.loop-digit.invariant p) (search rules))
