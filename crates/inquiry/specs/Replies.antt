-- Replies: what the program prints for an input.
use Rattle.std.specs.Prelude.{ℕ, ◌+◌, ◌*◌, List, Some, None, Option, replicate}
use Rattle.faults.specs.declared.Fault.{Fault}
use Rattle.faults.specs.Faults.{number_of}
use Rattle.digits.specs.Refusals.{or_else}
use Rattle.family.specs.Vectors.{Vectors}
use Rattle.scheme.specs.Answers.{sheet_size, sheet_of}
use Rattle.scheme.specs.Queries.{second_query}
use Rattle.scheme.specs.Sessions.{Session, opened, opening_fault, next_digits}
use Rattle.host.specs.Holdings.{Holding}
use Rattle.host.specs.Dense.{dense_fault, dense_holding}
use Rattle.words.specs.Words.{word_vectors, words_fault}
use Rattle.rounds.specs.Lent.{Contents}
use Rattle.rounds.specs.Rounds.{Round, round_fault}
use Rattle.inquiry.specs.Grammar.{Said, inquiry_of}
use Rattle.inquiry.specs.Text.{Findings, findings_text, refusal_text}

-- the family of words that an inquiry names
abbrev pub family_of : Said → Vectors
family_of p = word_vectors p.letters p.alphabet

-- fresh rows of the lengths that a round takes, which overwrites them
abbrev pub fresh_rows : ℕ → Contents
fresh_rows k = record {
  first_query = replicate k 0;
  second_query = replicate k 0;
  first_sheet = replicate (sheet_size k) 0;
  second_sheet = replicate (sheet_size k) 0;
}

-- a round with one host as both
abbrev pub round_with : Session → Vectors → Holding → ℕ → Round
round_with session family host position = record {
  session = session;
  family = family;
  first_host = host;
  second_host = host;
  position = position;
  rows = fresh_rows family.dim;
}

-- the round of an inquiry: a session opened on its tape, and the host of its table
abbrev pub round_of : Said → Round
round_of p = round_with (opened (family_of p) p.tape) (family_of p) (dense_holding p.table) p.position

-- why an inquiry is refused, in the order of the calls: the family, the table, the tape, the round
unfoldable pub inquiry_fault : Said → Option Fault
inquiry_fault p =
    or_else (words_fault p.letters p.alphabet)
    (or_else (dense_fault p.table) (or_else (opening_fault p.tape) (round_fault (round_of p))))

-- What a round finds: the first query is the next tape digits, the second is told from them, each sheet is the table's for its query,
-- and the entry is the table's at the position.
abbrev pub findings_in : Round → Findings
findings_in r = record {
  position = r.position;
  first = next_digits r.session;
  second = second_query r.family r.position (next_digits r.session);
  first_sheet = sheet_of r.family r.first_host.table (next_digits r.session);
  second_sheet = sheet_of r.family r.second_host.table (second_query r.family r.position (next_digits r.session));
  carried = 14 * r.family.dim + 12;
  entry = r.first_host.table r.position;
}

-- the text of a refusal, or what is told where nothing is amiss
abbrev pub answer_text : Option Fault → List ℕ → List ℕ
answer_text None told = told
answer_text (Some fault) told = refusal_text (number_of fault.cause)

-- The reply to an inquiry by a program that tells a round in its own way. An input of another form is refused by number 1, as a row of
-- another length is.
abbrev pub reply_by : (Round → List ℕ) → Option Said → List ℕ
reply_by tell None = refusal_text 1
reply_by tell (Some p) = answer_text (inquiry_fault p) (tell (round_of p))

-- the program `lookup` tells what a round finds
abbrev pub found_text : Round → List ℕ
found_text r = findings_text (findings_in r)

-- what it prints for the bytes that it reads
unfoldable pub reply : List ℕ → List ℕ
reply input = reply_by found_text (inquiry_of input)
