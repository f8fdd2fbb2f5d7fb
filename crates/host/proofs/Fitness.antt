-- A host refuses nothing exactly where the family has its count, and the query and the sheet are fit.
use Rattle.std.proofs.Common.{◌≡◌, ℕ, List, None}
use Rattle.faults.specs.declared.Layer.TheVariants.{Host as HostLayer}
use Rattle.digits.specs.Refusals.{equal_fault, long_fault, digits_fault}
use Rattle.digits.proofs.DigitRows.{digits_pass, digits_from}
use Rattle.digits.proofs.Passing.{or_else_none, none_or_else, equal_is, equal_passes, long_is, long_passes}
use Rattle.family.specs.Vectors.{Vectors}
use Rattle.scheme.specs.Answers.{sheet_size, Query, Sheet}
use Rattle.host.specs.Holdings.{answer_fault}

pub record Fit (n : ℕ) (f : Vectors) (query sheet : List ℕ) : Type 0 where
  pub count_is : f.count ≡ n
  pub query_fits : Query f query
  pub sheet_fits : Sheet f sheet

pub fit_from : (n : ℕ) (f : Vectors) (query sheet : List ℕ) → answer_fault n f query sheet ≡ None → Fit n f query sheet
fit_from n f query sheet e =
    let (count, rows) = or_else_none (equal_fault HostLayer n f.count) _ e in
    let (query_long, more) = or_else_none (long_fault f.dim query) _ rows in
    let (sheet_long, digits) = or_else_none (long_fault (sheet_size f.dim) sheet) _ more in
    let (query_digits, sheet_digits) = or_else_none (digits_fault query) (digits_fault sheet) digits in
    record {
      count_is = equal_is HostLayer n f.count count;
      query_fits = (long_is f.dim query query_long, digits_from query query_digits);
      sheet_fits = (long_is (sheet_size f.dim) sheet sheet_long, digits_from sheet sheet_digits);
    }

pub fit_passes : (n : ℕ) (f : Vectors) (query sheet : List ℕ) → Fit n f query sheet → answer_fault n f query sheet ≡ None
fit_passes n f query sheet fit =
    none_or_else (equal_fault HostLayer n f.count) _ (equal_passes HostLayer n f.count fit.count_is)
    (none_or_else (long_fault f.dim query) _ (long_passes f.dim query fit.query_fits.0)
    (none_or_else (long_fault (sheet_size f.dim) sheet) _ (long_passes (sheet_size f.dim) sheet fit.sheet_fits.0)
    (none_or_else (digits_fault query) (digits_fault sheet) (digits_pass query fit.query_fits.1) (digits_pass sheet fit.sheet_fits.1))))
