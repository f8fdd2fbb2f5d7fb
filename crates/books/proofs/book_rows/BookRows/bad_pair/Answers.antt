use Rattle.std.proofs.Common.{◌≡◌, refl, rules, tests}
use Rattle.books.specs.BookVectors.{book_vectors}
use Rattle.books.specs.Pairs.{bad_partner, bad_pair}
use Rattle.books.proofs.Finding.{first_mapped}
use Rattle.books.proofs.Pairing.{BadAt, pair_found, pair_below}
use Rattle.books.proofs.book_rows.BookRows.bad_pair.Goals as goal

pub returns : goal.returns
returns c =
    let r = c.args.self.now in
    let f = book_vectors r.bytes.now in
    let value : c.find_map.result ≡ bad_pair f =
    pair_found f c.find_map.result
    (first_mapped _ _ f.count _ refl r.counted (λ k. bad_partner f k ≡ f.count) (BadAt f) c.find_map.result c.find_map.ensures.runs
    (λ a b d called. search (rules, tests))
    (λ k called. search (rules, tests))
    (λ k p called. search (rules, tests))) in
    let below = pair_below f r.count c.find_map.result r.counted value in
    record { value = value; first = below.0; second = below.1 }
