use Rattle.std.proofs.Common.{sym, subst, rules}
use Rattle.digits.specs.Rows.{Digits}
use Rattle.digits.proofs.Turning.{digits-turned, turned_divides, turned_each}
use Rattle.digits.proofs.element.Element.turned.Goals as goal

pub returns-clause-value : goal.returns-clause-value
returns-clause-value c = turned_each c.args.s c.args.self.now.digits c.from_fn.result (search rules) (search rules)

pub invariant_of-result : goal.invariant_of-result
invariant_of-result c =
    let e = c.args.self.now in
    let is = turned_each c.args.s e.digits c.from_fn.result (search rules) (search rules) in
    record { six = search rules; small = subst Digits (sym is) (digits-turned c.args.s e.digits e.small) }

pub returns-clause-divides : goal.returns-clause-divides
returns-clause-divides c =
    let e = c.args.self.now in
    let is = turned_each c.args.s e.digits c.from_fn.result (search rules) (search rules) in
    turned_divides c.args.s e.digits c.from_fn.result e.small is
