-- Each turn adds the next change's answer, or passes a digit 0 over.
use Rattle.std.proofs.Common.{ℕ, ◌<◌, length, refl, arith}
use Rattle.host.specs.declared.change.Change.{Change}
use Rattle.host.specs.ChangeHosts.{changes_held}
use Rattle.host.specs.ChangesLemmas.{below_at}
use Rattle.host.proofs.Adding.{none_added, still_fit, next_added, next_passed}
use Rattle.host.proofs.OneChange.{first_changes, one_change}
use Rattle.host.proofs.change_host.as_host.ChangeHostHost.answer.Goals as goal
use Rattle.host.proofs.change_host.as_host.ChangeHostHost.answer.Goals.{then-change-ne0, else-change-ne0}

pub loop-change-init : goal.loop-change-init
loop-change-init g c =
    none_added (g.F.Family.vectors c.args.family.now) c.args.query.now c.args.sheet.now c.in_ok-check_answer.ensures.sheet
    (first_changes (changes_held c.args.self.now) 0) (λ k l. refl)

pub add_entry-requires-clause-below : goal.add_entry-requires-clause-below
add_entry-requires-clause-below g c =
    let h = c.args.self.now in
    let blank : Change = record { position = 0; digit = 0 } in
    let below = below_at h.count (changes_held h) h.below c.loop-change.change-index blank (omega arith) in
    omega (arith, c.in_ok-check_answer.ensures.counted)

pub add_entry-requires-clause-fit : goal.add_entry-requires-clause-fit
add_entry-requires-clause-fit g c =
    still_fit (g.F.Family.vectors c.args.family.now) c.args.query.now c.args.sheet.now c.in_ok-check_answer.ensures.sheet
    (first_changes (changes_held c.args.self.now) c.loop-change.change-index) c.loop-change.sheet c.loop-change.invariant

pub loop-change-preserved : goal.loop-change-preserved
loop-change-preserved g c =
    let h = c.args.self.now in
    let f = g.F.Family.vectors c.args.family.now in
    let j : ℕ = c.loop-change.change-index in
    let blank : Change = record { position = 0; digit = 0 } in
    let within : j < length (changes_held h) = omega arith in
    let fit = c.in_ok-check_answer.ensures.sheet in
    let query = c.in_ok-check_answer.ensures.query in
    let more = one_change (changes_held h) h.apart j blank within f.count h.small in
    elim c.if-change-ne0.branch [
      | then-change-ne0 w ↦
          let next = next_added f c.args.query.now c.args.sheet.now fit query more c.loop-change.sheet c.loop-change.invariant in
          cc
      | else-change-ne0 w ↦
          let next =
          next_passed f c.args.query.now c.args.sheet.now fit query more (omega arith) c.loop-change.sheet c.loop-change.invariant in
          cc
    ]
