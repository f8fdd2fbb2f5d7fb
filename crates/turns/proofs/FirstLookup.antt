-- What a first lookup gives and leaves, told from what each of its calls promises.
use Rattle.std.proofs.Common.{◌≡◌, ℕ, List, length, Some, None, Err, Option, Result, ap, sym, ◌∙◌}
use Rattle.faults.specs.declared.Fault.{Fault}
use Rattle.digits.proofs.Passing.{goes_on, stops, or_else_none}
use Rattle.family.specs.Vectors.{Vectors}
use Rattle.host.specs.Holdings.{Holding}
use Rattle.scheme.specs.Answers.{sheet_of}
use Rattle.scheme.specs.Queries.{second_query, shift}
use Rattle.scheme.specs.Runs.{waiting}
use Rattle.scheme.specs.Sessions.{Session, opened, next_digits, opening_fault, after_request, outcome, unless}
use Rattle.session.specs.Calls.{refusal}
use Rattle.turns.specs.First.{FourRows, Handed, four_rows, first_asked, second_asked, blank, host_fault, unless_refused, asked_sheet, both_fault, both_asked, early_fault, with_queries, first_fault, left_by, first_left, first_reading}

-- where the opening passed, what the request refuses is refused first
pub early : (h : Handed) (s : Session) (o : Option Fault) → opening_fault h.tape ≡ None → s ≡ opened h.family h.tape →
    refusal s h.family h.position (length h.rows.first) (length h.rows.second) ≡ o → early_fault h ≡ o
early h s o passes opens said =
    goes_on (opening_fault h.tape) _ o passes
    (ap (λ start. refusal start h.family h.position (length h.rows.first) (length h.rows.second)) (sym opens) ∙ said)

-- the rows are then as they were
pub left_alone : (h : Handed) (e : Fault) → early_fault h ≡ Some e → h.rows ≡ first_left h
left_alone h e is = sym (ap (λ o. left_by o h) is)

-- a fault is what is given
pub refused : (o : Option Fault) (e : Fault) (result : Result ℕ Fault) → o ≡ Some e → Err e ≡ unless o result
refused o e result is = sym (ap (λ f. unless f result) is)

pub early_first : (h : Handed) (e : Fault) → early_fault h ≡ Some e → first_fault h ≡ Some e
early_first h e is = stops (early_fault h) _ e is

-- the request was taken, and both rows hold their query
pub record Asked (h : Handed) (p q : List ℕ) : Type 0 where
  pub passes : early_fault h ≡ None
  pub first_is : p ≡ first_asked h
  pub second_is : q ≡ second_asked h

pub asked : (h : Handed) (s : Session) (p q : List ℕ) → opening_fault h.tape ≡ None → s ≡ opened h.family h.tape →
    refusal s h.family h.position (length h.rows.first) (length h.rows.second) ≡ None →
    p ≡ next_digits s → q ≡ second_query h.family h.position (next_digits s) → Asked h p q
asked h s p q passes opens none first second = record {
  passes = early h s None passes opens none;
  first_is = first ∙ ap next_digits opens;
  second_is = second ∙ ap (λ start. second_query h.family h.position (next_digits start)) opens;
}

rows_asked : (h : Handed) (p q : List ℕ) → Asked h p q → four_rows p q h.rows.one h.rows.two ≡ with_queries h
rows_asked h p q it = let first = it.first_is in let second = it.second_is in rw (first, second)

-- what the hosts refuse is then refused first, and what they leave stays
pub hosts_refuse : (h : Handed) (p q : List ℕ) (o : Option Fault) → Asked h p q →
    both_fault h.family h.first_host h.second_host (four_rows p q h.rows.one h.rows.two) ≡ o → first_fault h ≡ o
hosts_refuse h p q o it said =
    goes_on (early_fault h) _ o it.passes (ap (both_fault h.family h.first_host h.second_host) (sym (rows_asked h p q it)) ∙ said)

pub hosts_leave : (h : Handed) (p q : List ℕ) (rows : FourRows) → Asked h p q →
    rows ≡ both_asked h.family h.first_host h.second_host (four_rows p q h.rows.one h.rows.two) → rows ≡ first_left h
hosts_leave h p q rows it is =
    is ∙ ap (both_asked h.family h.first_host h.second_host) (rows_asked h p q it) ∙ sym (ap (λ o. left_by o h) it.passes)

-- of hosts that refuse nothing, each leaves the sheet of its table
pub two_sheets : (f : Vectors) (a b : Holding) (rows : FourRows) (one two : List ℕ) → both_fault f a b rows ≡ None →
    four_rows rows.first rows.second one two ≡ both_asked f a b rows →
    (one ≡ sheet_of f a.table rows.first) × (two ≡ sheet_of f b.table rows.second)
two_sheets f a b rows one two none is =
    let (first, second) = or_else_none (host_fault f a rows.first rows.one) _ none in (
      ap (λ r. r.one) is ∙ ap (λ o. unless_refused o (sheet_of f a.table rows.first) (blank rows.one)) first,
      ap (λ r. r.two) is ∙ ap (λ o. unless_refused o (asked_sheet f b rows.second rows.two) rows.two) first
          ∙ ap (λ o. unless_refused o (sheet_of f b.table rows.second) (blank rows.two)) second,
    )

-- and what is recovered from the two is what the lookup reads
pub reads : (h : Handed) (start s : Session) (t turn : ℕ) (p q one two : List ℕ) (result : Result ℕ Fault) → Asked h p q →
    start ≡ opened h.family h.tape →
    waiting s t turn ≡ waiting (after_request start) h.position (shift h.family h.position (next_digits start)) →
    one ≡ sheet_of h.family h.first_host.table p → two ≡ sheet_of h.family h.second_host.table q →
    result ≡ outcome s.count s.dim h.family t turn one two → result ≡ first_reading h
reads h start s t turn p q one two result it opens waits one_is two_is is =
    let session : s ≡ after_request start = cc in
    let position : t ≡ h.position = cc in
    let by : turn ≡ shift h.family h.position (next_digits start) = cc in
    let first = it.first_is in
    let second = it.second_is in
    is ∙ rw (session, position, by, opens, one_is, two_is, first, second)
