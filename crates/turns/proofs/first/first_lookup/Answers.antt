-- Answers that the check would find too, but a wrong lookup would have it search to its limits for each.
use Rattle.std.proofs.Common.{◌≡◌, Ok, Err, Some, None, ap, sym, ◌∙◌, rules}
use Rattle.scheme.specs.Sessions.{unless}
use Rattle.session.specs.States.{ready_session, waiting_session, position_of, shift_of}
use Rattle.turns.specs.First.{Handed, four_rows, first_handed, first_reading, early_fault, first_fault}
use Rattle.turns.proofs.Entry.{entry}
use Rattle.turns.proofs.FirstLookup.{Asked, early, left_alone, refused, early_first, asked, hosts_refuse, hosts_leave, two_sheets, reads}
use Rattle.turns.proofs.first.first_lookup.Given.{Over}
use Rattle.turns.proofs.first.first_lookup.Goals as goal
use Rattle.turns.proofs.first.first_lookup.Goals.{After-from_residual-in_err-waiting, After-drop-recover, After-drop-abandon}

-- what is handed over, where the request is refused
abbrev declined_of : (g : Over) → After-from_residual-in_err-waiting g → Handed
declined_of g c =
    first_handed (g.F.Family.vectors c.args.family.now) (g.A.Host.holding c.args.first_host.now) (g.B.Host.holding c.args.second_host.now)
    c.args.tape.items c.args.position (four_rows c.args.first.now c.args.second.now c.args.one.now c.args.two.now)

declined : (g : Over) (c : After-from_residual-in_err-waiting g) → early_fault (declined_of g c) ≡ Some c.in_err-waiting.field-0.0.fault
declined g c =
    let start = c.in_ok-ready.ensures.opens in
    early (declined_of g c) (ready_session c.in_ok-ready.ready) _ start.0 start.1 c.in_err-waiting.ensures.cases.0

told : (g : Over) (c : After-from_residual-in_err-waiting g) → c.from_residual-in_err-waiting.result ≡ Err c.in_err-waiting.field-0.0.fault
told g c = search rules fits 100

pub returns-in_err-waiting-clause-gives : goal.returns-in_err-waiting-clause-gives
returns-in_err-waiting-clause-gives g c =
    told g c ∙ refused _ _ (first_reading (declined_of g c)) (early_first (declined_of g c) _ (declined g c))

pub returns-in_err-waiting-clause-leaves : goal.returns-in_err-waiting-clause-leaves
returns-in_err-waiting-clause-leaves g c =
    let refusal = c.in_err-waiting.ensures.cases in
    rw (refusal.2, refusal.3) (left_alone (declined_of g c) _ (declined g c))

pub returns-in_err-waiting-clause-entry : goal.returns-in_err-waiting-clause-entry
returns-in_err-waiting-clause-entry g c same =
    let h = declined_of g c in
    told g c ∙ refused _ _ (Ok (h.first_host.table h.position)) (early_first h _ (declined g c))

-- what is handed over, where the lookup is read
abbrev read_of : (g : Over) → After-drop-recover g → Handed
read_of g c =
    first_handed (g.F.Family.vectors c.args.family.now) (g.A.Host.holding c.args.first_host.now) (g.B.Host.holding c.args.second_host.now)
    c.args.tape.items c.args.position (four_rows c.args.first.now c.args.second.now c.args.one.now c.args.two.now)

taken_read : (g : Over) (c : After-drop-recover g) → Asked (read_of g c) c.request.new.first c.request.new.second
taken_read g c =
    let start = c.in_ok-ready.ensures.opens in
    let request = c.in_ok-waiting.ensures.cases in
    asked (read_of g c) (ready_session c.in_ok-ready.ready) _ _ start.0 start.1 request.0 request.1 request.2

unrefused : (g : Over) (c : After-drop-recover g) → first_fault (read_of g c) ≡ None
unrefused g c = hosts_refuse (read_of g c) _ _ None (taken_read g c) c.in-Ok.ensures.fault

pub returns-in-Ok-clause-gives : goal.returns-in-Ok-clause-gives
returns-in-Ok-clause-gives g c =
    let h = read_of g c in
    let start = c.in_ok-ready.ensures.opens in
    let sheets =
    two_sheets h.family h.first_host h.second_host (four_rows c.request.new.first c.request.new.second c.args.one.now c.args.two.now) _ _
    c.in-Ok.ensures.fault c.ask_both.ensures.sheets in
    let w = c.in_ok-waiting.waiting in
    reads h (ready_session c.in_ok-ready.ready) (waiting_session w) (position_of w) (shift_of w) _ _ _ _ _ (taken_read g c) start.1
    c.in_ok-waiting.ensures.cases.3 sheets.0 sheets.1 c.recover.ensures.outcome
    ∙ sym (ap (λ o. unless o (first_reading h)) (unrefused g c))

pub returns-in-Ok-clause-leaves : goal.returns-in-Ok-clause-leaves
returns-in-Ok-clause-leaves g c =
    hosts_leave (read_of g c) _ _ (four_rows c.request.new.first c.request.new.second c.ask_both.new.one c.ask_both.new.two) (taken_read g c)
    c.ask_both.ensures.sheets

pub returns-in-Ok-clause-entry : goal.returns-in-Ok-clause-entry
returns-in-Ok-clause-entry g c same =
    let h = read_of g c in
    let opening = c.in_ok-ready.ensures in
    let sheets =
    two_sheets h.family h.first_host h.second_host (four_rows c.request.new.first c.request.new.second c.args.one.now c.args.two.now) _ _
    c.in-Ok.ensures.fault c.ask_both.ensures.sheets in
    entry h.family (g.met.F.Family.matching c.args.family.now) opening.recovers c.args.tape.items opening.digits
    (ready_session c.in_ok-ready.ready) opening.opens.1 c.args.position _ _ _ _ _ _ _ _ _ c.in_ok-waiting.ensures.step c.recover.ensures.step
    h.first_host.table h.second_host.table (λ i below. (g.met.A.Host.held_well c.args.first_host.now).digits i) same sheets.0 sheets.1
    ∙ sym (ap (λ o. unless o (Ok (h.first_host.table h.position))) (unrefused g c))

-- what is handed over, where a host refuses and the lookup is given up
abbrev given_up_of : (g : Over) → After-drop-abandon g → Handed
given_up_of g c =
    first_handed (g.F.Family.vectors c.args.family.now) (g.A.Host.holding c.args.first_host.now) (g.B.Host.holding c.args.second_host.now)
    c.args.tape.items c.args.position (four_rows c.args.first.now c.args.second.now c.args.one.now c.args.two.now)

taken_given_up : (g : Over) (c : After-drop-abandon g) → Asked (given_up_of g c) c.request.new.first c.request.new.second
taken_given_up g c =
    let start = c.in_ok-ready.ensures.opens in
    let request = c.in_ok-waiting.ensures.cases in
    asked (given_up_of g c) (ready_session c.in_ok-ready.ready) _ _ start.0 start.1 request.0 request.1 request.2

pub returns-in-Err-clause-gives : goal.returns-in-Err-clause-gives
returns-in-Err-clause-gives g c =
    let h = given_up_of g c in
    refused _ _ (first_reading h) (hosts_refuse h _ _ _ (taken_given_up g c) c.in-Err.ensures.fault)

pub returns-in-Err-clause-leaves : goal.returns-in-Err-clause-leaves
returns-in-Err-clause-leaves g c =
    hosts_leave (given_up_of g c) _ _ (four_rows c.request.new.first c.request.new.second c.ask_both.new.one c.ask_both.new.two)
    (taken_given_up g c) c.ask_both.ensures.sheets

pub returns-in-Err-clause-entry : goal.returns-in-Err-clause-entry
returns-in-Err-clause-entry g c same =
    let h = given_up_of g c in
    refused _ _ (Ok (h.first_host.table h.position)) (hosts_refuse h _ _ _ (taken_given_up g c) c.in-Err.ensures.fault)
