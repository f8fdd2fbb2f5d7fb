use Rattle.std.proofs.Common.{ap, arith}
use Rattle.inquiry.specs.Replies.{reply, reply_by, found_text}
use Rattle.inquiry.proofs.Cutting.{cut_alike}
use Rattle.inquiry.proofs.answering.bytes_enough.Goals as goal

pub returns-clause-says : goal.returns-clause-says
returns-clause-says c = λ input. cut_alike 8193 input (omega arith)

pub returns-clause-replied : goal.returns-clause-replied
unfolding reply
returns-clause-replied c = λ input. ap (reply_by found_text) (cut_alike 8193 input (omega arith))
