use Rattle.std.proofs.Common.{◌≡◌, true, false, rules, tests}
use Rattle.std.proofs.lemmas.Iterator.{first_from_Range}
use Rattle.books.specs.BookVectors.{book_vectors}
use Rattle.books.specs.Numbers.{count_of}
use Rattle.books.specs.Pairs.{fits, bad_partner}
use Rattle.books.proofs.Finding.{found_first}
use Rattle.books.proofs.book_rows.BookRows.bad_partner.Goals as goal

pub returns : goal.returns
unfolding bad_partner
returns c =
    let r = c.args.self.now in
    let p = fits (book_vectors r.bytes.now) c.args.i in
    found_first p (count_of r.bytes.now) r.count c.find.result r.counted
    (first_from_Range _ _ _ _ (λ j. p j ≡ false) (λ j. p j ≡ true) c.find.ensures.ran
    (λ x q k. search (rules, tests))
    (λ x q k. search (rules, tests)))
