use Rattle.std.proofs.Common.{◌≡◌, ◌-◌, ◌++◌, length, take, replicate, ap₂, ◌∙◌, rules, arith}
use Rattle.session.proofs.Copies.{padded}
use Rattle.session.proofs.queries.copy.Goals as goal

pub returns : goal.returns
returns c =
    let n = c.min-n.result in
    let l = length c.args.target.now in
    let start : c.copy_from_slice.new.self ≡ take n c.args.digits.now = search rules in
    let rest : c.fill.new.self ≡ replicate (l - n) 0 = search rules in
    ap₂ (λ xs ys. xs ++ ys) start rest ∙ padded n l c.args.digits.now (omega arith) (omega arith) (λ h. omega arith)
