use Rattle.std.proofs.Common.{◌≡◌, length, replicate, refl, rules}
use Rattle.digits.specs.Refusals.{long_fault}
use Rattle.scheme.specs.Answers.{sheet_size}
use Rattle.scheme.specs.Sessions.{opened}
use Rattle.words.specs.Words.{word_vectors, word_dim}
use Rattle.bootloader.specs.Lookups.{first_host_fault}
use Rattle.bootloader.proofs.Begun.{Begun, begun}
use Rattle.bootloader.proofs.Stages.{Answers, HostPassed, host_passed, first_answers, second_answers, answered_all, refused_all, after, recovers}
use Rattle.bootloader.proofs.Statuses.{went_on}
use Rattle.bootloader.proofs.looking_up.look_up.Goals as goal
use Rattle.bootloader.proofs.looking_up.look_up.Goals.{After-visordate_answer-answered, After-visordate_answer-answered-2}

-- what the request began
begins : (c : After-visordate_answer-answered) →
    Begun c.args.h c.args.q c.args.position c.args.tape.now c.args.first.now c.args.second.now c.args.shift.now
    c.visordate_request-asked.new.first c.visordate_request-asked.new.second c.visordate_request-asked.new.shift
begins c =
    let request = c.visordate_request-asked in
    let zero : request.result ≡ 0 = search rules in
    let (none, wrote) = went_on _ _ _ request.result request.ensures.cases (λ e kept. kept.0) zero in
    begun _ _ _ _ _ _ _ _ _ _ none wrote.1 wrote.2 wrote.3 request.ensures.recovers
    (request.ensures.step (opened (word_vectors c.args.h c.args.q) c.args.tape.now) refl refl refl zero)

-- what the first host promises, asked the first query
first_host : (c : After-visordate_answer-answered) →
    Answers c.args.h c.args.q c.visordate_answer-answered.result c.args.table.now c.visordate_request-asked.new.first
    c.visordate_answer-answered.new.sheet (first_host_fault c.args.h c.args.q c.args.table.now c.args.one.now)
first_host c =
    let answer = c.visordate_answer-answered in
    let blank : c.fill.new.self ≡ replicate (length c.args.one.now) 0 = search rules in
    first_answers c.args.h c.args.q answer.result c.args.table.now c.visordate_request-asked.new.first c.args.one.now c.fill.new.self
    answer.new.sheet (begins c).words (begins c).first_fits blank answer.ensures

-- and the second, asked the other, where the first refused nothing
second_host : (c : After-visordate_answer-answered-2) →
    Begun c.args.h c.args.q c.args.position c.args.tape.now c.args.first.now c.args.second.now c.args.shift.now
    c.visordate_request-asked.new.first c.visordate_request-asked.new.second c.visordate_request-asked.new.shift →
    HostPassed c.args.h c.args.q c.args.table.now c.args.one.now →
    Answers c.args.h c.args.q c.visordate_answer-answered-2.result c.args.table.now c.visordate_request-asked.new.second
    c.visordate_answer-answered-2.new.sheet (long_fault (sheet_size (word_dim c.args.h c.args.q)) c.args.two.now)
second_host c request first =
    let answer = c.visordate_answer-answered-2 in
    let blank : c.fill-2.new.self ≡ replicate (length c.args.two.now) 0 = search rules in
    second_answers c.args.h c.args.q answer.result c.args.table.now c.visordate_request-asked.new.second c.args.two.now c.fill-2.new.self
    answer.new.sheet request.words request.second_fits blank answer.ensures c.args.one.now first

pub returns-then-answered-ne0 : goal.returns-then-answered-ne0
returns-then-answered-ne0 c =
    let first = (goal.at.returns-then-answered-ne0 c).After-visordate_answer-answered in
    after _ _ _ _ (begins first).passes (refused_all _ _ _ (first_host first) c.if-answered-ne0.true)

pub returns-then-answered-ne0-2 : goal.returns-then-answered-ne0-2
returns-then-answered-ne0-2 c =
    let first = (goal.at.returns-then-answered-ne0-2 c).After-visordate_answer-answered in
    let second = (goal.at.returns-then-answered-ne0-2 c).After-visordate_answer-answered-2 in
    let zero : c.visordate_answer-answered.result ≡ 0 = search rules in
    let (one_passes, one_is) = answered_all (first_host first) zero in
    after _ _ _ _ (begins first).passes
    (after _ _ _ _ one_passes
    (refused_all _ _ _ (second_host second (begins first) (host_passed _ _ _ _ one_passes)) c.if-answered-ne0-2.true))

pub returns : goal.returns
returns c =
    let first = (goal.at.returns c).After-visordate_answer-answered in
    let second = (goal.at.returns c).After-visordate_answer-answered-2 in
    let zero : c.visordate_answer-answered.result ≡ 0 = search rules in
    let zero_again : c.visordate_answer-answered-2.result ≡ 0 = search rules in
    let (one_passes, one_is) = answered_all (first_host first) zero in
    let host = host_passed _ _ _ _ one_passes in
    let (two_passes, two_is) = answered_all (second_host second (begins first) host) zero_again in
    after _ _ _ _ (begins first).passes
    (after _ _ _ _ one_passes
    (after _ _ _ _ two_passes
    (recovers _ _ _ _ _ _ _ _ _ _ _ _ _ _ _ _ (begins first) host.digits one_is two_is c.visordate_recover.ensures.cases)))
