-- What a lookup of the code comes to, in the words of the text.
use Rattle.rounds.specs.declared.rows.Reading.{Reading}
use Rattle.inquiry.specs.declared.found.Found.{Found}
use Rattle.inquiry.specs.Text.{Findings}

abbrev pub findings : Found → Findings
findings f = record {
  position = f.position;
  first = f.first.items;
  second = f.second.items;
  first_sheet = f.first_sheet.items;
  second_sheet = f.second_sheet.items;
  carried = f.reading.carried;
  entry = f.reading.entry;
}

-- the part of them that a round reads
abbrev pub reading_of : Findings → Reading
reading_of f = record { entry = f.entry; carried = f.carried }
