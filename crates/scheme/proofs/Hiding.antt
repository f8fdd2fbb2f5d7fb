-- The law's hiding half: exactly one tape of calls alike explains what a host was shown.
use Rattle.std.proofs.Common.{◌≡◌, ℕ, List, length, refl, ap, ◌∙◌, sym, arith}
use Rattle.std.proofs.Math.Nat.{sub-zero}
use Rattle.family.specs.Vectors.{Vectors}
use Rattle.scheme.specs.Sessions.{opened}
use Rattle.scheme.specs.Runs.{State, ready, Call, Event, Run}
use Rattle.scheme.specs.Law.{Side, view, Hides}
use Rattle.scheme.proofs.Chunks.{Offset}
use Rattle.scheme.proofs.Explaining.{seen, length-seen, Paired, other_tape, one_tape}
use Rattle.scheme.proofs.Rerun.{both_ready, other_run}
use Rattle.scheme.proofs.Schedule.{offsets, alike_paired}
use Rattle.scheme.proofs.Shown.{run_shows}

-- what host w sees in a run from the opening on, over a tape of r digits
opened_shows : (f : Vectors) (w : Side) (tape : List ℕ) (r : ℕ) → length tape ≡ r → {calls : List Call} {events : List Event} {end : State} →
    Run (ready (opened f tape)) calls events end → view w events ≡ seen f.dim w (offsets f.count f.dim r calls) tape
opened_shows f w tape r long {calls = calls} run =
    run_shows w run ∙ ap (λ n. seen f.dim w (offsets f.count f.dim n calls) tape) (sub-zero (length tape) ∙ long)

pub hiding : (f : Vectors) → Hides f
hiding f calls others alike w tape digits events end run =
    let k : ℕ = f.dim in
    let r : ℕ = length tape in
    let vs : List Offset = offsets f.count k r calls in
    let os : List Offset = offsets f.count k r others in
    let pairs : Paired k r vs os = alike_paired f.count k alike r in
    let shown : view w events ≡ seen k w vs tape = opened_shows f w tape r refl run in
    let many : length (view w events) ≡ length vs = ap length shown ∙ length-seen k w vs tape in
    let (other, digits_then, long, kept, looks) = other_tape k w pairs tape digits refl in
    let (events_then, last, run_then, refused) =
    other_run f.count k r alike run (both_ready (refl, refl, sub-zero r) (refl, refl, omega arith)) in (
      other,
      record {
        digits = digits_then;
        long = long;
        unused = rw many kept;
        events_then = events_then;
        end_then = last;
        runs = run_then;
        looks = opened_shows f w other r long run_then ∙ looks ∙ sym shown;
      },
      refused,
      λ rival e.
          one_tape k w pairs rival other e.digits digits_then e.long long
          (rw many at e.unused ∙ sym kept)
          (sym (opened_shows f w rival r e.long e.runs) ∙ e.looks ∙ shown ∙ sym looks),
    )
