-- Keys: what the program `key` prints for an input.
use Rattle.std.specs.Prelude.{ℕ, List}
use Rattle.rounds.specs.Rounds.{Round}
use Rattle.inquiry.specs.Grammar.{inquiry_of}
use Rattle.inquiry.specs.Replies.{reply_by}
use Rattle.working.specs.Workings.{working_in}
use Rattle.working.specs.Layout.{working_text}

-- it tells the whole working of a round
abbrev pub worked_text : Round → List ℕ
worked_text r = working_text (working_in r)

-- what the program prints for the bytes that it reads: refused is what `lookup` refuses, in the same words
unfoldable pub key : List ℕ → List ℕ
key input = reply_by worked_text (inquiry_of input)
