-- Either the change at the position is replaced, or one is added behind those held.
use Rattle.std.proofs.Common.{◌≡◌, Some, None, refl, sym, ◌∙◌, arith}
use Rattle.std.proofs.lemmas.Bool.Decides.{nat_tests}
use Rattle.std.proofs.lemmas.List.{length-set}
use Rattle.host.specs.declared.change.Change.{Change}
use Rattle.host.specs.Changes.{digit_told, place_of}
use Rattle.host.specs.ChangeHosts.{changes_held}
use Rattle.host.proofs.Told.{told_some, told_nowhere}
use Rattle.host.proofs.Kept.{below_replaced, small_replaced, apart_replaced, told_replaced, below_added, small_added, apart_added, told_added}
use Rattle.host.proofs.change_host.ChangeHost.set.Goals as goal

pub returns-then-self-eq-MOST : goal.returns-then-self-eq-MOST
returns-then-self-eq-MOST c =
    let h = c.args.self.now in
    let none : digit_told (changes_held h) c.args.position ≡ None =
    told_nowhere (changes_held h) c.args.position (sym c.in-None.ensures.first) in
    (grind (arith, nat_tests), refl)

pub returns-in-Some : goal.returns-in-Some
returns-in-Some c =
    let h = c.args.self.now in
    let blank : Change = record { position = 0; digit = 0 } in
    let found : place_of (changes_held h) c.args.position ≡ Some c.in-Some.i = sym c.in-Some.ensures.first in
    let some = told_some (changes_held h) c.args.position c.in-Some.i blank found in
    let tells = told_replaced h.changes h.held c.in-Some.i c.args.digit blank c.in-Some.ensures.within c.args.position found in
    (grind (arith, nat_tests), grind arith, grind (arith, nat_tests), tells)

pub returns-else-self-eq-MOST : goal.returns-else-self-eq-MOST
returns-else-self-eq-MOST c =
    let h = c.args.self.now in
    let change : Change = record { position = c.args.position; digit = c.args.digit } in
    let none : digit_told (changes_held h) c.args.position ≡ None =
    told_nowhere (changes_held h) c.args.position (sym c.in-None.ensures.first) in
    let tells = told_added h.changes h.held change (omega arith) none in
    (grind (arith, nat_tests), grind arith, grind (arith, nat_tests), tells)

-- what the type says, wherever below the number held the digit is replaced
pub invariant_of-self-clause-sized : goal.invariant_of-self-clause-sized
invariant_of-self-clause-sized c = length-set _ _ _ ∙ c.args.self.now.sized

pub invariant_of-self-clause-below : goal.invariant_of-self-clause-below
invariant_of-self-clause-below c =
    let h = c.args.self.now in
    below_replaced h.changes h.held _ _ _ (omega (arith, c.in-Some.ensures.within)) h.count h.below

pub invariant_of-self-clause-small : goal.invariant_of-self-clause-small
invariant_of-self-clause-small c =
    let h = c.args.self.now in
    small_replaced h.changes h.held _ _ _ (omega (arith, c.in-Some.ensures.within)) (grind (arith, nat_tests)) h.small

pub invariant_of-self-clause-apart : goal.invariant_of-self-clause-apart
invariant_of-self-clause-apart c =
    let h = c.args.self.now in
    apart_replaced h.changes h.held _ _ _ (omega (arith, c.in-Some.ensures.within)) h.apart

-- and once one is added
pub invariant_of-self-in-None-clause-sized : goal.invariant_of-self-in-None-clause-sized
invariant_of-self-in-None-clause-sized c = length-set _ _ _ ∙ c.args.self.now.sized

pub invariant_of-self-in-None-clause-below : goal.invariant_of-self-in-None-clause-below
invariant_of-self-in-None-clause-below c =
    let h = c.args.self.now in
    below_added h.changes h.held _ (omega arith) h.count (grind (arith, nat_tests)) h.below

pub invariant_of-self-in-None-clause-small : goal.invariant_of-self-in-None-clause-small
invariant_of-self-in-None-clause-small c =
    let h = c.args.self.now in
    small_added h.changes h.held _ (omega arith) (grind (arith, nat_tests)) h.small

pub invariant_of-self-in-None-clause-apart : goal.invariant_of-self-in-None-clause-apart
invariant_of-self-in-None-clause-apart c =
    let h = c.args.self.now in
    apart_added h.changes h.held _ (omega arith) (told_nowhere (changes_held h) c.args.position (sym c.in-None.ensures.first)) h.apart
