use Rattle.std.proofs.Common.{◌≡◌, ℕ, List, take, subst, ◌∙◌, length-take, arith}
use Rattle.digits.specs.Rows.{at}
use Rattle.digits.specs.Sums.{product}
use Rattle.digits.proofs.Stretches.{product_within}
use Rattle.family.proofs.family.Family.u_product.Goals as goal

pub returns : goal.returns
returns g c =
    let v = g.Self.Family.vectors c.args.self.now in
    let u : ℕ → ℕ = v.u c.args.i in
    let row : List ℕ = take c.min-within.result c.args.row.now in
    let upto : c.loop-c.c ≡ c.min-within.result = omega (arith, length-take c.min-within.result c.args.row.now) in
    let sum : c.loop-c.sum ≡ product c.min-within.result u (at row) = subst (λ n. c.loop-c.sum ≡ product n u (at row)) upto c.loop-c.invariant in
    sum ∙ product_within v.dim c.min-within.result u c.args.row.now (omega arith)
