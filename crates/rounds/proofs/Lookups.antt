-- A round that is played is a lookup of the law: a request and a recovery of a run, which reads the entry where the tables agree.
use Rattle.std.proofs.Common.{◌≡◌, ℕ, ◌+◌, ◌*◌, ◌<◌, List, length, drop, None, Ok, Err, Result, ap, ap₂, refl, sym, ◌∙◌, length-drop, arith}
use Rattle.std.proofs.lemmas.List.{length-take-le}
use Rattle.faults.specs.declared.Fault.{Fault}
use Rattle.family.specs.Vectors.{Vectors, MatchingFamily}
use Rattle.host.specs.Holdings.{WellHeld}
use Rattle.scheme.specs.Answers.{answered, sheet_of, zero_sheet}
use Rattle.scheme.specs.Queries.{second_query, shift}
use Rattle.scheme.specs.Recovery.{found, read_entry}
use Rattle.scheme.specs.Runs.{ready, waiting, Run, none, more, takes, recovers}
use Rattle.scheme.specs.Sessions.{Session, next_digits, outcome, read_or_odds, after_request, after_recovery}
use Rattle.scheme.proofs.FitRows.{second_fit, zero_fit, answered_fit}
use Rattle.scheme.proofs.Outcomes.{weighs}
use Rattle.scheme.proofs.Tables.{tables}
use Rattle.scheme.proofs.TwoSheets.{found_entry, read_scaled}
use Rattle.rounds.specs.Lent.{Contents}
use Rattle.rounds.specs.Lookups.{both_calls, entry_of, both_shown}
use Rattle.rounds.specs.Rounds.{Round, round_fault, played, read_from, carried, with_carried}
use Rattle.rounds.specs.declared.rows.Reading.{Reading}
use Rattle.rounds.proofs.Passed.{fit}

-- what the session recovers from the rows of a round that is played: nothing of them is refused
recovered_is : (r : Round) → round_fault r ≡ None →
    read_from r (played r) ≡ read_or_odds r.position
    (read_entry (found r.family r.position (shift r.family r.position (next_digits r.session)) (played r).first_sheet (played r).second_sheet))
recovered_is r h =
    let f = r.family in
    let first = next_digits r.session in
    let second = second_query f r.position first in
    let one = r.first_host.table in
    let two = r.second_host.table in
    weighs f (sheet_of f one first) (sheet_of f two second) (answered_fit f one first (zero_sheet f)) (answered_fit f two second (zero_sheet f))
    r.session.count r.session.dim r.position (shift f r.position first) (fit r h).requested.family_passes

-- the digits that a round carries where a query has k: both queries have k, and both sheets 6 (1 + k)
pub count_is : (r : Round) → round_fault r ≡ None → carried (played r) ≡ 14 * r.family.dim + 12
count_is r h =
    let f = r.family in
    let s = r.session in
    let first = next_digits s in
    let second = second_query f r.position first in
    let one = r.first_host.table in
    let two = r.second_host.table in
    let taken = (fit r h).requested in
    let first_long : length first ≡ f.dim =
    length-take-le s.dim (drop s.place s.tape) (omega (arith, length-drop s.place s.tape, taken.room)) ∙ sym taken.dim_is in
    omega (
      arith,
      first_long,
      (second_fit f r.position first).0,
      (answered_fit f one first (zero_sheet f)).0,
      (answered_fit f two second (zero_sheet f)).0,
    )

-- What a round gives and leaves, told from what each call promises: the request, the hosts' answers, the recovery, and the digits
-- counted. The session that waits is told by its state.
pub calls_give : (r : Round) (rows : Contents) (s : Session) (t turn : ℕ) (read : Result ℕ Fault) (gave : Result Reading Fault) (end : Session) →
    round_fault r ≡ None →
    rows.first_query ≡ next_digits r.session → rows.second_query ≡ second_query r.family r.position (next_digits r.session) →
    waiting s t turn ≡ waiting (after_request r.session) r.position (shift r.family r.position (next_digits r.session)) →
    rows.first_sheet ≡ sheet_of r.family r.first_host.table rows.first_query → rows.second_sheet ≡ sheet_of r.family r.second_host.table rows.second_query →
    read ≡ outcome s.count s.dim r.family t turn rows.first_sheet rows.second_sheet → end ≡ after_recovery read s →
    gave ≡ with_carried (14 * r.family.dim + 12) read →
    (rows ≡ played r) × (gave ≡ with_carried (carried (played r)) (read_from r (played r))) × (end ≡ after_recovery (read_from r (played r)) (after_request r.session))
calls_give r rows s t turn read gave end h first second waits one two reads ends counted =
    let one_is : rows.first_sheet ≡ (played r).first_sheet = one ∙ ap (sheet_of r.family r.first_host.table) first in
    let two_is : rows.second_sheet ≡ (played r).second_sheet = two ∙ ap (sheet_of r.family r.second_host.table) second in
    let session : s ≡ after_request r.session = cc in
    let position : t ≡ r.position = cc in
    let by : turn ≡ shift r.family r.position (next_digits r.session) = cc in
    let is : read ≡ read_from r (played r) = reads ∙ rw (session, position, by, one_is, two_is) in
    (rw (first, second, one_is, two_is), counted ∙ ap₂ with_carried (sym (count_is r h)) is, ends ∙ ap₂ after_recovery is session)

-- the digits carried change no entry
entry_of-with_carried : (n : ℕ) (result : Result ℕ Fault) → entry_of (with_carried n result) ≡ result
entry_of-with_carried n (Ok e) = refl
entry_of-with_carried n (Err fault) = refl

pub is_run : (r : Round) (rows : Contents) (result : Result Reading Fault) (end : Session) → round_fault r ≡ None →
    rows ≡ played r → result ≡ with_carried (carried (played r)) (read_from r (played r)) → end ≡ after_recovery (read_from r (played r)) (after_request r.session) →
    Run (ready r.session) (both_calls r rows) (both_shown rows result) (ready end)
is_run r rows result end h wrote gave left =
    rw (wrote, gave, left, entry_of-with_carried (carried (played r)) (read_from r (played r)))
    (more (takes _ _ _ _ _ (fit r h).takes) (more (recovers _ _ _ _ _ _) none))

-- a host of a table is a host of any that has the same entries, by the law of hosts
same_sheet : (f : Vectors) (a b : ℕ → ℕ) (t : ℕ) (z : List ℕ) → ((i : ℕ) → i < f.count → a i ≡ b i) →
    sheet_of f b (second_query f t z) ≡ sheet_of f a (second_query f t z)
same_sheet f a b t z same =
    tables.same_entries f b a (λ i l. sym (same i l)) (answered f b) (λ p sheet query fits. refl)
    (second_query f t z) (zero_sheet f) (second_fit f t z) (zero_fit f)

-- where the hosts' tables agree at positions, what is read is their entry
pub entry_given : (r : Round) (result : Result Reading Fault) → MatchingFamily r.family → WellHeld r.first_host → round_fault r ≡ None →
    ((i : ℕ) → i < r.family.count → r.first_host.table i ≡ r.second_host.table i) →
    result ≡ with_carried (carried (played r)) (read_from r (played r)) →
    result ≡ Ok (record { entry = r.first_host.table r.position; carried = 14 * r.family.dim + 12 })
entry_given r result family held h same gave =
    let f = r.family in
    let a = r.first_host.table in
    let t = r.position in
    let z = next_digits r.session in
    let read : read_from r (played r) ≡ Ok (a t) =
    recovered_is r h
    ∙ ap (λ two. read_or_odds t (read_entry (found f t (shift f t z) (sheet_of f a z) two))) (same_sheet f a r.second_host.table t z same)
    ∙ ap (read_or_odds t) (ap read_entry (found_entry f family t (fit r h).requested.below_count a z) ∙ read_scaled (a t) (held.digits t)) in
    gave ∙ ap₂ with_carried (count_is r h) read
