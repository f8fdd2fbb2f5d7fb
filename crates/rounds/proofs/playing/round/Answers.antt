-- Answers that the check would find too, but a wrong round would have it search to its limits for each.
use Rattle.std.proofs.Common.{rules, ◌≡◌, Err, refl, ap, sym, ◌∙◌}
use Rattle.digits.proofs.Passing.{some≢none}
use Rattle.scheme.specs.Runs.{declines}
use Rattle.scheme.proofs.FitRows.{first_fit}
use Rattle.session.specs.Calls.{read_by}
use Rattle.session.specs.States.{waiting_session, position_of, shift_of}
use Rattle.rounds.specs.Lent.{before}
use Rattle.rounds.specs.Rounds.{Round, handed, carried, with_carried}
use Rattle.rounds.proofs.Asked.{second_is_query}
use Rattle.rounds.proofs.Lookups.{count_is, calls_give, is_run, entry_given}
use Rattle.rounds.proofs.Passed.{fit, fit_rows, rows_count}
use Rattle.rounds.proofs.playing.round.Goals as goal

-- where it is refused

pub returns-in-Err-clause-refused : goal.returns-in-Err-clause-refused
returns-in-Err-clause-refused g c = λ e is.
    let fault : c.in-Err.fault ≡ e = cc (c.in-Err.ensures, is) in
    (refl, ap Err fault, refl {a = before c.args.rows})

pub returns-in-Err-clause-declined : goal.returns-in-Err-clause-declined
returns-in-Err-clause-declined g c = λ e is of_request. declines _ _ _ _ _ _ of_request

pub returns-in-Err-clause-played : goal.returns-in-Err-clause-played
returns-in-Err-clause-played g c = λ h. absurd (some≢none _ (sym c.in-Err.ensures ∙ h))

pub returns-in-Err-clause-counted : goal.returns-in-Err-clause-counted
returns-in-Err-clause-counted g c = λ h. absurd (some≢none _ (sym c.in-Err.ensures ∙ h))

pub returns-in-Err-clause-run : goal.returns-in-Err-clause-run
returns-in-Err-clause-run g c = λ h. absurd (some≢none _ (sym c.in-Err.ensures ∙ h))

pub returns-in-Err-clause-entry : goal.returns-in-Err-clause-entry
returns-in-Err-clause-entry g c = λ h same. absurd (some≢none _ (sym c.in-Err.ensures ∙ h))

-- what its calls need

pub unwrap-waiting-requires : goal.unwrap-waiting-requires
unwrap-waiting-requires g c =
    let r : Round =
    handed c.args.session (g.F.Family.vectors c.args.family.now) (g.A.Host.holding c.args.first_host.now) (g.B.Host.holding c.args.second_host.now)
    c.args.position c.args.rows in
    let takes = (fit r c.in_default.ensures).takes in
    search rules fits 100

pub ask-requires-clause-counted : goal.ask-requires-clause-counted
ask-requires-clause-counted g c =
    let r : Round =
    handed c.args.session (g.F.Family.vectors c.args.family.now) (g.A.Host.holding c.args.first_host.now) (g.B.Host.holding c.args.second_host.now)
    c.args.position c.args.rows in
    (fit r c.in_default.ensures).first_count

pub ask-requires-clause-query : goal.ask-requires-clause-query
ask-requires-clause-query g c =
    let f = g.F.Family.vectors c.args.family.now in
    let r : Round =
    handed c.args.session f (g.A.Host.holding c.args.first_host.now) (g.B.Host.holding c.args.second_host.now) c.args.position c.args.rows in
    let requested = (fit r c.in_default.ensures).requested in
    let shown = rw c.unwrap-waiting.ensures at c.request.ensures.cases in
    rw shown.1 (first_fit f r.session c.args.session.kept.digits requested.dim_is requested.room)

pub ask-requires-clause-long : goal.ask-requires-clause-long
ask-requires-clause-long g c =
    let r : Round =
    handed c.args.session (g.F.Family.vectors c.args.family.now) (g.A.Host.holding c.args.first_host.now) (g.B.Host.holding c.args.second_host.now)
    c.args.position c.args.rows in
    (fit_rows r c.in_default.ensures).first_sheet

pub ask-requires-2-clause-counted : goal.ask-requires-2-clause-counted
ask-requires-2-clause-counted g c =
    let r : Round =
    handed c.args.session (g.F.Family.vectors c.args.family.now) (g.A.Host.holding c.args.first_host.now) (g.B.Host.holding c.args.second_host.now)
    c.args.position c.args.rows in
    (fit r c.in_default.ensures).second_count

pub ask-requires-2-clause-query : goal.ask-requires-2-clause-query
ask-requires-2-clause-query g c =
    let shown = rw c.unwrap-waiting.ensures at c.request.ensures.cases in
    second_is_query _ _ _ _ shown.2

pub ask-requires-2-clause-long : goal.ask-requires-2-clause-long
ask-requires-2-clause-long g c =
    let r : Round =
    handed c.args.session (g.F.Family.vectors c.args.family.now) (g.A.Host.holding c.args.first_host.now) (g.B.Host.holding c.args.second_host.now)
    c.args.position c.args.rows in
    (fit_rows r c.in_default.ensures).second_sheet

-- where it is played

pub returns-clause-refused : goal.returns-clause-refused
returns-clause-refused g c = λ e is. absurd (some≢none e (sym is ∙ c.in_default.ensures))

pub returns-clause-declined : goal.returns-clause-declined
returns-clause-declined g c = λ e is of_request. absurd (some≢none e (sym is ∙ c.in_default.ensures))

pub returns-clause-played : goal.returns-clause-played
returns-clause-played g c = λ h.
    let f = g.F.Family.vectors c.args.family.now in
    let r : Round =
    handed c.args.session f (g.A.Host.holding c.args.first_host.now) (g.B.Host.holding c.args.second_host.now) c.args.position c.args.rows in
    let w = c.unwrap-waiting.result in
    let shown = rw c.unwrap-waiting.ensures at c.request.ensures.cases in
    let told : c.read-session.result.1 ≡ with_carried (carried r.rows) (read_by w f c.ask.new.sheet c.ask-2.new.sheet) = c.read-session.ensures.reading in
    let counted = told ∙ ap (λ n. with_carried n (read_by w f c.ask.new.sheet c.ask-2.new.sheet)) (rows_count r h) in
    calls_give r _ (waiting_session w) (position_of w) (shift_of w) _ _ _ h shown.1 shown.2 shown.3
    c.ask.ensures c.ask-2.ensures refl c.read-session.ensures.after counted

pub returns-clause-counted : goal.returns-clause-counted
returns-clause-counted g c = λ h.
    count_is (handed c.args.session (g.F.Family.vectors c.args.family.now) (g.A.Host.holding c.args.first_host.now) (g.B.Host.holding c.args.second_host.now)
    c.args.position c.args.rows) h

pub returns-clause-run : goal.returns-clause-run
returns-clause-run g c = λ h. let all = returns-clause-played g c h in is_run _ _ _ _ h all.0 all.1 all.2

pub returns-clause-entry : goal.returns-clause-entry
returns-clause-entry g c = λ h same.
    let f = g.F.Family.vectors c.args.family.now in
    let r : Round =
    handed c.args.session f (g.A.Host.holding c.args.first_host.now) (g.B.Host.holding c.args.second_host.now) c.args.position c.args.rows in
    entry_given r _ (g.met.F.Family.matching c.args.family.now) (g.met.A.Host.held_well c.args.first_host.now) h same (returns-clause-played g c h).1
