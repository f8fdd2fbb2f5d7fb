-- Workings: each number of a lookup's working, by its definition in the scheme.
use Rattle.std.specs.Prelude.{ℕ, List}
use Rattle.family.specs.Vectors.{Vectors}
use Rattle.scheme.specs.Queries.{shift}
use Rattle.scheme.specs.Recovery.{value, slope, sheets_weighed, found}
use Rattle.rounds.specs.Rounds.{Round}
use Rattle.inquiry.specs.Text.{Findings}
use Rattle.inquiry.specs.Replies.{findings_in}

-- what recovery reckons from two sheets, each as six digits: Y1 to Y4, W and X
pub record Reckoned : Type 0 where
  pub y1 : List ℕ
  pub y2 : List ℕ
  pub y3 : List ℕ
  pub y4 : List ℕ
  pub w : List ℕ
  pub x : List ℕ

-- for position t and the shift s
abbrev pub reckoned_from : Vectors → ℕ → ℕ → List ℕ → List ℕ → Reckoned
reckoned_from f t s one two = record {
  y1 = value one;
  y2 = slope f t one;
  y3 = value two;
  y4 = slope f t two;
  w = sheets_weighed f t one two;
  x = found f t s one two;
}

-- A lookup's working: what it finds, the tape digits that its request used, the shift that the request kept, and what was reckoned from
-- the sheets.
pub record Working : Type 0 where
  pub findings : Findings
  pub tape : List ℕ
  pub shift : ℕ
  pub reckoned : Reckoned

-- of a lookup in the family f: the first query is the tape digits themselves
abbrev pub working_from : Vectors → Findings → Working
working_from f found =
    let turn = shift f found.position found.first in
    record {
      findings = found;
      tape = found.first;
      shift = turn;
      reckoned = reckoned_from f found.position turn found.first_sheet found.second_sheet;
    }

-- of a round
abbrev pub working_in : Round → Working
working_in r = working_from r.family (findings_in r)
