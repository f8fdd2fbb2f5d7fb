-- Each turn adds the next entry's answer, or passes an entry of 0 over.
use Rattle.std.proofs.Common.{refl}
use Rattle.host.proofs.Adding.{none_added, still_fit, next_added, next_passed}
use Rattle.host.proofs.RowTables.{first_entries, one_entry}
use Rattle.host.proofs.dense.DenseHost.answer.Goals as goal
use Rattle.host.proofs.dense.DenseHost.answer.Goals.{then-amount-ne0, else-amount-ne0}

pub loop-i-init : goal.loop-i-init
loop-i-init g c =
    none_added (g.F.Family.vectors c.args.family.now) c.args.query.now c.args.sheet.now c.in_ok-check_answer.ensures.sheet
    (first_entries c.args.self.now.table.now 0) (λ k l. refl)

pub add_entry-requires-clause-fit : goal.add_entry-requires-clause-fit
add_entry-requires-clause-fit g c =
    still_fit (g.F.Family.vectors c.args.family.now) c.args.query.now c.args.sheet.now c.in_ok-check_answer.ensures.sheet
    (first_entries c.args.self.now.table.now c.loop-i.i) c.loop-i.sheet c.loop-i.invariant

pub loop-i-preserved : goal.loop-i-preserved
loop-i-preserved g c =
    let f = g.F.Family.vectors c.args.family.now in
    let fit = c.in_ok-check_answer.ensures.sheet in
    let query = c.in_ok-check_answer.ensures.query in
    let more = one_entry f.count c.args.self.now.table.now c.loop-i.i c.args.self.now.digits in
    elim c.if-amount-ne0.branch [
      | then-amount-ne0 w ↦
          let next = next_added f c.args.query.now c.args.sheet.now fit query more c.loop-i.sheet c.loop-i.invariant in
          cc
      | else-amount-ne0 w ↦
          let next =
          next_passed f c.args.query.now c.args.sheet.now fit query more w.if-amount-ne0.false c.loop-i.sheet c.loop-i.invariant in
          cc
    ]
