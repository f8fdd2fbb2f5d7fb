-- A recovery from C is the recovery of a session that waits with its position and shift.
use Rattle.std.proofs.Common.{◌≡◌, ℕ, List, [], ◌∷◌, Ok, Err, Result, MatchResult, sym, refl, ap, ap₂, ◌∙◌}
use Rattle.faults.specs.declared.Fault.{Fault}
use Rattle.faults.specs.Faults.{number_of, at_odds_fault}
use Rattle.faults.specs.declared.Layer.TheVariants.{Family, Session as SessionLayer}
use Rattle.digits.specs.Refusals.{or_else}
use Rattle.digits.specs.Rows.{at}
use Rattle.family.specs.Vectors.{Vectors}
use Rattle.scheme.specs.Answers.{sheet_size}
use Rattle.scheme.specs.Recovery.{found, read_entry}
use Rattle.scheme.specs.Runs.{ready, waiting, recover, recovered, Step}
use Rattle.scheme.specs.Sessions.{Session, family_fault, sheets_fault, outcome, after_recovery, after_reading, after_loss}
use Rattle.session.proofs.Stepping.{step_recovered}
use Rattle.words.specs.Words.{word_dim, word_vectors, words_fault}
use Rattle.bootloader.specs.Calls.{recover_call_fault, call_outcome}
use Rattle.bootloader.proofs.Statuses.{Other, other_or_else, other_limit, other_equal, other_long, other_below, other_digits, read_anyway, odd_anyway, odds_only}

other_recovery : (h q t : ℕ) (turn one two entry : List ℕ) → Other (recover_call_fault h q t turn one two entry)
other_recovery h q t turn one two entry =
    other_or_else (words_fault h q) _ (other_or_else _ _ (other_limit Family 1 5 h) (other_limit Family 2 16 q))
    (other_or_else _ _ (other_long 1 turn)
    (other_or_else _ _ (other_long (sheet_size (word_dim h q)) one)
    (other_or_else _ _ (other_long (sheet_size (word_dim h q)) two)
    (other_or_else _ _ (other_long 1 entry)
    (other_or_else _ _ (other_below SessionLayer (word_vectors h q).count t) (other_digits turn))))))

other_sheets : (f : Vectors) (one two : List ℕ) → Other (or_else (family_fault f.count f.dim f) (sheets_fault f.dim one two))
other_sheets f one two =
    other_or_else (family_fault f.count f.dim f) _
    (other_or_else _ _ (other_equal SessionLayer f.count f.count) (other_equal SessionLayer f.dim f.dim))
    (other_or_else _ _ (other_long (sheet_size f.dim) one)
    (other_or_else _ _ (other_long (sheet_size f.dim) two)
    (other_or_else _ _ (other_digits one) (other_digits two))))

odds_read : (f : Vectors) (t turn : ℕ) (one two : List ℕ) (e : Fault) → number_of e.cause ≡ 8 →
    outcome f.count f.dim f t turn one two ≡ Err e → e ≡ at_odds_fault t
unfolding outcome
odds_read f t turn one two e odd is =
    odds_only t (read_entry (found f t turn one two)) e
    (odd_anyway _ _ e (other_sheets f one two) odd is)

module _ (h q t : ℕ) (turn one two entry : List ℕ) (s : Session) (count : s.count ≡ (word_vectors h q).count) (dim : s.dim ≡ (word_vectors h q).dim) where
  step : (result : Result ℕ Fault) → outcome (word_vectors h q).count (word_vectors h q).dim (word_vectors h q) t (at turn 0) one two ≡ result →
      (r : Session) → r ≡ after_recovery result s →
      Step (waiting s t (at turn 0)) (recover (word_vectors h q) one two) (recovered result) (ready r)
  step result is r after =
      step_recovered s r t (at turn 0) (word_vectors h q) one two result
      (sym (ap₂ (λ n k. outcome n k (word_vectors h q) t (at turn 0) one two) count dim ∙ is)) after

  pub step_read : (e : ℕ) → call_outcome h q t turn one two entry ≡ Ok e →
      Step (waiting s t (at turn 0)) (recover (word_vectors h q) one two) (recovered (Ok e)) (ready (after_reading s))
  step_read e is = step (Ok e) (read_anyway (recover_call_fault h q t turn one two entry) _ e is) (after_reading s) refl

  pub step_odds : (e : Fault) → number_of e.cause ≡ 8 → call_outcome h q t turn one two entry ≡ Err e →
      Step (waiting s t (at turn 0)) (recover (word_vectors h q) one two) (recovered (Err (at_odds_fault t))) (ready (after_loss s))
  step_odds e odd is =
      let reads = odd_anyway (recover_call_fault h q t turn one two entry) _ e (other_recovery h q t turn one two entry) odd is in
      let is_odds = odds_read (word_vectors h q) t (at turn 0) one two e odd reads in
      step (Err (at_odds_fault t)) (reads ∙ ap (λ x. Err x) is_odds) (after_loss s) refl

-- the entry that a recovery wrote
pub entry_read : (result : Result ℕ Fault) (after : List ℕ) → MatchResult result (λ e. after ≡ e ∷ []) (λ _. ⊥) → result ≡ Ok (at after 0)
entry_read (Ok e) after is = ap (λ xs. Ok (at xs 0)) (sym is)
entry_read (Err e) after is = absurd is
