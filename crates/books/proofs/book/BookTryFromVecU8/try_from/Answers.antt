use Rattle.std.proofs.Common.{◌≡◌, Some, None, vec_items, sym, refl, ap, ◌∙◌}
use Rattle.std.specs.Result.{result_err}
use Rattle.std.proofs.lemmas.Result.{err_from_is_err_and}
use Rattle.std.proofs.lemmas.Bool.{false≢true}
use Rattle.books.specs.Books.{book_fault}
use Rattle.books.specs.Accepting.{only_families, all_families, first_fault}
use Rattle.books.specs.Ordered.{in_order, ordered}
use Rattle.digits.proofs.Passing.{some≢none}
use Rattle.books.proofs.book.BookTryFromVecU8.try_from.Goals as goal

pub returns-in_err-report : goal.returns-in_err-report
returns-in_err-report c =
    let p = err_from_is_err_and c.from_residual.result c.from_residual.ensures.1 in
    let fault : book_fault (vec_items c.args.bytes) ≡ Some c.in_err-report.field-0.0 =
    ap book_fault (sym c.as_slice.ensures.value) ∙ sym c.examine-report.ensures.verdict ∙ ap result_err c.in_err-report.was in
    rw (p.1, p.2)
    record {
      cases = fault;
      sound = λ e. absurd (false≢true e);
      complete = λ order m. absurd (some≢none _ (sym fault ∙ all_families (vec_items c.args.bytes) (ordered (vec_items c.args.bytes) order) m));
      unmatched = λ order i j e. first_fault (vec_items c.args.bytes) (ordered (vec_items c.args.bytes) order) i j (fault ∙ e);
    }

pub returns : goal.returns
returns c =
    let none : book_fault (vec_items c.args.bytes) ≡ None =
    ap book_fault (sym c.as_slice.ensures.value) ∙ sym c.examine-report.ensures.verdict ∙ ap result_err c.in_ok-report.was in
    record {
      cases = (refl, none);
      sound = λ e. let both = only_families (vec_items c.args.bytes) none in (in_order (vec_items c.args.bytes) both.0, both.1);
      complete = λ order m. refl;
      unmatched = λ order i j e. absurd (some≢none _ (sym e));
    }
