-- The host means the table that was given, so the round is that of the inquiry; and with nothing amiss before it, its fault is due.
use Rattle.std.proofs.Common.{rules, ◌≡◌, ap, ◌∙◌, subst}
use Rattle.words.specs.Words.{word_vectors}
use Rattle.words.specs.Sizes.{letters_of, alphabet_of}
use Rattle.host.specs.Dense.{dense_holding}
use Rattle.session.specs.States.{ready_session}
use Rattle.scheme.specs.Sessions.{opened}
use Rattle.rounds.specs.Rounds.{Round, round_fault}
use Rattle.inquiry.specs.Grammar.{Said}
use Rattle.inquiry.specs.Replies.{family_of, round_with, inquiry_fault, findings_in, round_of}
use Rattle.inquiry.specs.Findings.{findings}
use Rattle.inquiry.specs.Stops.{Finds}
use Rattle.inquiry.specs.Inquiries.{said}
use Rattle.inquiry.proofs.inquiry.Inquiry.look_up.Goals as goal

pub returns : goal.returns
unfolding inquiry_fault
returns c =
    let p : Said = said c.args.self in
    let held : dense_holding c.in_ok-host.host.table.now ≡ dense_holding p.table = c.in_ok-host.ensures.1 ∙ ap dense_holding c.as_slice.ensures.value in
    let session : ready_session c.in_ok-session.session ≡ opened (family_of p) p.tape = search rules in
    let named : word_vectors (letters_of c.in_ok-family.family) (alphabet_of c.in_ok-family.family) ≡ family_of p = search rules in
    let due : inquiry_fault p ≡ round_fault (round_of p) = search rules in
    let same : round_with (ready_session c.in_ok-session.session) (word_vectors (letters_of c.in_ok-family.family) (alphabet_of c.in_ok-family.family))
    (dense_holding c.in_ok-host.host.table.now) p.position ≡ round_of p = λ i. round_with (session i) (named i) (held i) p.position in
    rw due (subst (λ (r : Round). Finds (round_fault r) (λ f. findings f ≡ findings_in r) c.find.result) same c.find.ensures)
