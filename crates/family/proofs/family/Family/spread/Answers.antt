use Rattle.std.proofs.Common.{◌≡◌, ℕ, ◌+◌, ◌*◌, ◌%◌, List, set, sym, ◌∙◌, subst, arith}
use Rattle.digits.specs.Rows.{at}
use Rattle.family.specs.Spreads.{Passed, skips, adds, all_passed}
use Rattle.family.proofs.family.Family.spread.Goals as goal
use Rattle.family.proofs.family.Family.spread.Goals.{then-d-ne0, else-d-ne0}

pub loop-c-preserved : goal.loop-c-preserved
loop-c-preserved g c =
    let u : ℕ → ℕ = (g.Self.Family.vectors c.args.self.now).u c.args.i in
    let xs : List ℕ = c.args.elements.now in
    let ys : List ℕ = c.loop-c.elements in
    let next : List ℕ → Type 0 = λ row. Passed u c.args.amount c.args.e (c.loop-c.c + 1) xs row in
    let p : ℕ = 6 * c.loop-c.c + c.args.e % 6 in
    elim c.if-d-ne0.branch [
      | then-d-ne0 w ↦
          let whole : w.from.result ≡ c.args.amount = cc in
          let digit : w.from-then-d-ne0.result ≡ c.u-d.result = cc in
          let after : c.if-d-ne0.elements ≡ set ys p ((at ys p + c.args.amount * c.u-d.result) % 6) = simp (whole, digit) at (w.elements-is ∙ w.add_at.ensures) in
          subst next (sym after)
          (adds u c.args.amount c.args.e c.loop-c.c xs ys c.loop-c.invariant p c.u-d.result (omega arith) (omega arith) c.u-d.ensures (omega arith))
      | else-d-ne0 w ↦
          subst next (sym w.elements-is)
          (skips u c.args.amount c.args.e c.loop-c.c xs ys c.loop-c.invariant (sym c.u-d.ensures ∙ omega arith))
    ]

pub returns : goal.returns
returns g c =
    all_passed ((g.Self.Family.vectors c.args.self.now).u c.args.i) c.args.amount c.args.e c.loop-c.c c.args.elements.now c.loop-c.elements
    (λ k h. (g.met.Self.Family.matching c.args.self.now).told.u_past_dim c.args.i k (omega arith))
    (omega arith) c.loop-c.invariant
