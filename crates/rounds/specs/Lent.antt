-- Lent rows: what the four rows of a round hold, as they are handed over and as they are left.
use Rattle.std.specs.Prelude.{ℕ, List}
use Rattle.std.specs.Borrow.{MutBor}
use Rattle.rounds.specs.declared.rows.Rows.{Rows}

-- the first host's query and the second's, and the sheet of each
pub record Contents : Type 0 where
  pub first_query : List ℕ
  pub second_query : List ℕ
  pub first_sheet : List ℕ
  pub second_sheet : List ℕ

-- what rows hold as they are handed over
abbrev pub before : Rows → Contents
before rows = record {
  first_query = rows.first_query.now;
  second_query = rows.second_query.now;
  first_sheet = rows.first_sheet.now;
  second_sheet = rows.second_sheet.now;
}

-- What they hold as they are left. A contract has a struct of lent rows at the return as the rows in pairs, in the struct's order.
abbrev pub Row : Type 0
Row = MutBor (List ℕ)

abbrev pub after : Row × (Row × (Row × (Row × Unit {0}))) → Contents
after rows = record {
  first_query = rows.0.now;
  second_query = rows.1.0.now;
  first_sheet = rows.1.1.0.now;
  second_sheet = rows.1.1.1.0.now;
}
