use Rattle.std.proofs.Common.{ap, ◌∙◌}
use Rattle.family.specs.Vectors.{allowed}
use Rattle.books.proofs.Products.{fits_by_row}
use Rattle.books.proofs.book_rows.BookRows.fits.Goals as goal

pub returns : goal.returns
returns c =
    c.is_allowed.ensures ∙ ap (allowed c.args.i c.args.j) c.u_product.ensures
    ∙ fits_by_row c.args.self.now.bytes.now c.args.i c.args.j c.v-v.result.now c.v-v.ensures
