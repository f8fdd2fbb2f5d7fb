-- What the tests of a round say that was played.
use Rattle.std.proofs.Common.{◌≡◌, ℕ, ◌+◌, ◌*◌, None, length, sym, ap, ◌∙◌, arith}
use Rattle.faults.specs.declared.Layer.TheVariants.{Host as HostLayer}
use Rattle.digits.specs.Refusals.{long_fault, equal_fault}
use Rattle.digits.proofs.Passing.{or_else_none, none_or_else, equal_is, long_is}
use Rattle.scheme.specs.Answers.{sheet_size}
use Rattle.scheme.specs.Sessions.{digits_left, family_fault, request_fault}
use Rattle.scheme.proofs.Taken.{Taken, taken}
use Rattle.rounds.specs.Lent.{Contents}
use Rattle.rounds.specs.Rounds.{Round, hosts_fault, rows_fault, round_fault, carried}

-- each row has its length
pub record Long (k : ℕ) (rows : Contents) : Type 0 where
  pub first_query : length rows.first_query ≡ k
  pub second_query : length rows.second_query ≡ k
  pub first_sheet : length rows.first_sheet ≡ sheet_size k
  pub second_sheet : length rows.second_sheet ≡ sheet_size k

long : (k : ℕ) (rows : Contents) → rows_fault k rows ≡ None → Long k rows
long k rows h =
    let (first, rest) = or_else_none (long_fault k rows.first_query) _ h in
    let (second, sheets) = or_else_none (long_fault k rows.second_query) _ rest in
    let (one, two) = or_else_none (long_fault (sheet_size k) rows.first_sheet) (long_fault (sheet_size k) rows.second_sheet) sheets in
    record {
      first_query = long_is k rows.first_query first;
      second_query = long_is k rows.second_query second;
      first_sheet = long_is (sheet_size k) rows.first_sheet one;
      second_sheet = long_is (sheet_size k) rows.second_sheet two;
    }

-- both hosts have the family's count, the rows are as long as they must be, and the request is taken
pub record Fit (r : Round) : Type 0 where
  pub first_count : r.first_host.count ≡ r.family.count
  pub second_count : r.second_host.count ≡ r.family.count
  pub rows : Long r.session.dim r.rows
  pub takes : request_fault r.session.count r.session.dim (digits_left r.session) r.family r.position (length r.rows.first_query) (length r.rows.second_query) ≡ None
  pub requested : Taken r.session.count r.session.dim (digits_left r.session) r.family r.position

pub fit : (r : Round) → round_fault r ≡ None → Fit r
fit r h =
    let n = r.session.count in
    let k = r.session.dim in
    let (family, rest) = or_else_none (family_fault n k r.family) _ h in
    let (hosts, more) = or_else_none (hosts_fault r.family.count r.first_host.count r.second_host.count) _ rest in
    let (one, two) = or_else_none (equal_fault HostLayer r.family.count r.first_host.count) _ hosts in
    let (rows, last) = or_else_none (rows_fault k r.rows) _ more in
    let (first, others) = or_else_none (long_fault k r.rows.first_query) _ rows in
    let (second, sheets) = or_else_none (long_fault k r.rows.second_query) _ others in
    let takes = none_or_else _ _ family (none_or_else _ _ first (none_or_else _ _ second last)) in
    record {
      first_count = equal_is HostLayer r.family.count r.first_host.count one;
      second_count = equal_is HostLayer r.family.count r.second_host.count two;
      rows = long k r.rows rows;
      takes = takes;
      requested = taken n k (digits_left r.session) r.family r.position (length r.rows.first_query) (length r.rows.second_query) takes;
    }

-- the same of the rows, told by the family
pub fit_rows : (r : Round) → round_fault r ≡ None → Long r.family.dim r.rows
fit_rows r h =
    let passed = fit r h in
    let is = sym passed.requested.dim_is in
    record {
      first_query = passed.rows.first_query ∙ is;
      second_query = passed.rows.second_query ∙ is;
      first_sheet = passed.rows.first_sheet ∙ ap sheet_size is;
      second_sheet = passed.rows.second_sheet ∙ ap sheet_size is;
    }

-- how many digits the rows have in all
pub rows_count : (r : Round) → round_fault r ≡ None → carried r.rows ≡ 14 * r.family.dim + 12
rows_count r h =
    let rows = fit_rows r h in
    omega (arith, rows.first_query, rows.second_query, rows.first_sheet, rows.second_sheet)
