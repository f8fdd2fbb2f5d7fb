use Rattle.std.proofs.Common.{◌≡◌, None, rules, length, refl, ◌∙◌, ap₂}
use Rattle.scheme.specs.Queries.{second_query, shift}
use Rattle.scheme.specs.Runs.{waiting}
use Rattle.scheme.specs.Sessions.{next_digits}
use Rattle.session.specs.States.{ready_session}
use Rattle.session.specs.Calls.{refusal}
use Rattle.session.proofs.Stepping.{asks_first, asks_second, step_taken}
use Rattle.session.proofs.states.Ready.request.Goals as goal

pub returns : goal.returns
returns g c =
    let s = ready_session c.args.self in
    let f = g.F.Family.vectors c.args.family.now in
    let t = c.args.position in
    let none : refusal s f t (length c.args.first.now) (length c.args.second.now) ≡ None = search rules in
    let z : c.next_digits.result.now ≡ next_digits s = search rules in
    let first : c.write_queries-shift.new.first ≡ next_digits s = c.write_queries-shift.ensures.first ∙ asks_first s f t _ _ _ none z in
    let second : c.write_queries-shift.new.second ≡ second_query f t (next_digits s) =
    c.write_queries-shift.ensures.second ∙ asks_second s f t _ _ _ none z in
    let turn : c.write_queries-shift.result ≡ shift f t (next_digits s) = search rules in
    let waits = ap₂ (λ n x. waiting n t x) c.advance.ensures turn in
    record { cases = (none, first, second, waits); step = step_taken s f t _ _ _ _ _ none first second waits; pending = refl }
