-- What a round with one host as both comes to, by what it promises.
use Rattle.std.proofs.Common.{◌≡◌, ℕ, Some, None, Ok, Err, Option, Result, MatchResult, refl}
use Rattle.std.proofs.lemmas.List.{length-replicate}
use Rattle.faults.specs.declared.Fault.{Fault}
use Rattle.family.specs.Vectors.{Vectors}
use Rattle.scheme.specs.Answers.{sheet_size}
use Rattle.scheme.specs.Sessions.{Session}
use Rattle.host.specs.Holdings.{Holding}
use Rattle.rounds.specs.declared.rows.Reading.{Reading}
use Rattle.rounds.specs.Lent.{Contents}
use Rattle.rounds.specs.Rounds.{Round, round_fault, played}
use Rattle.rounds.proofs.Passed.{Long}
use Rattle.inquiry.specs.Replies.{round_with, findings_in}
use Rattle.inquiry.specs.Findings.{reading_of}

-- the round on any rows
abbrev pub round_on : Session → Vectors → Holding → ℕ → Contents → Round
round_on s f h t rows = record (round_with s f h t) { rows = rows }

-- what a round refuses of its rows are their lengths
same_fault : (s : Session) (f : Vectors) (h : Holding) (t : ℕ) (rows : Contents) → Long f.dim rows →
    round_fault (round_on s f h t rows) ≡ round_fault (round_with s f h t)
same_fault s f h t rows long =
    rw (
      long.first_query,
      long.second_query,
      long.first_sheet,
      long.second_sheet,
      length-replicate {A = ℕ} f.dim 0,
      length-replicate {A = ℕ} (sheet_size f.dim) 0,
    )

-- what a round promises that is used here, where this fault is due
pub record Promised (r : Round) (due : Option Fault) (after : Contents) (result : Result Reading Fault) : Type 0 where
  pub refused : (e : Fault) → due ≡ Some e → result ≡ Err e
  pub leaves : due ≡ None → after ≡ played r
  pub reads : due ≡ None → result ≡ Ok (reading_of (findings_in r))

-- what it then comes to
abbrev pub ComesTo : Round → Option Fault → Contents → Result Reading Fault → Type 0
ComesTo r due after result =
    MatchResult result
    (λ reading. (due ≡ None) × (reading ≡ reading_of (findings_in r))
    × (after.first_query ≡ (findings_in r).first) × (after.second_query ≡ (findings_in r).second)
    × (after.first_sheet ≡ (findings_in r).first_sheet) × (after.second_sheet ≡ (findings_in r).second_sheet))
    (λ fault. due ≡ Some fault)

settled : (r : Round) (due : Option Fault) (after : Contents) (result : Result Reading Fault) → Promised r due after result →
    ComesTo r due after result
settled r None after (Ok reading) said =
    let read = said.reads refl in
    let left = said.leaves refl in
    (refl, cc, cc, cc, cc, cc)
settled r None after (Err fault) said = let read = said.reads refl in cc
settled r (Some due) after (Ok reading) said = let refused = said.refused due refl in cc
settled r (Some due) after (Err fault) said = let refused = said.refused due refl in cc

-- on rows of the right lengths
pub comes_to : (s : Session) (f : Vectors) (h : Holding) (t : ℕ) (rows after : Contents) (result : Result Reading Fault) →
    Long f.dim rows → Promised (round_with s f h t) (round_fault (round_on s f h t rows)) after result →
    ComesTo (round_with s f h t) (round_fault (round_with s f h t)) after result
comes_to s f h t rows after result long said =
    settled (round_with s f h t) _ after result (rw (same_fault s f h t rows long) at said)
