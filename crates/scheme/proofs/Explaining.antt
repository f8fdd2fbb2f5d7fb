-- Exactly one tape shows a host, for one list of requests, what a tape shows it for another: chunk by chunk.
use Rattle.std.proofs.Common.{◌≡◌, ℕ, suc, ◌-◌, ◌*◌, ◌≤◌, List, [], ◌∷◌, ◌++◌, length, take, drop, sym, refl, ap, ap₂, ◌∙◌, zero-mul, length-append, length-drop, length-take-le, drop-drop, take_at, drop_at, take-append-drop, arith}
use Rattle.digits.specs.Rows.{Digits}
use Rattle.digits.proofs.DigitRows.{digits-append, digits-drop, digits-take}
use Rattle.scheme.specs.Law.{Side}
use Rattle.scheme.proofs.Chunks.{Offset, seen_of, moved, length-moved, digits-moved, moved_shows, seen_tells}

-- what host w sees of a tape whose chunks get these offsets
abbrev pub seen : ℕ → Side → List Offset → List ℕ → List (List ℕ)
seen k w [] rest = []
seen k w (v ∷ vs) rest = seen_of k w v (take k rest) ∷ seen k w vs (drop k rest)

pub length-seen : (k : ℕ) (w : Side) (vs : List Offset) (rest : List ℕ) → length (seen k w vs rest) ≡ length vs
length-seen k w [] rest = refl
length-seen k w (v ∷ vs) rest = ap suc (length-seen k w vs (drop k rest))

-- two lists of as many offsets, for whose chunks r tape digits have room
pub data Paired (k : ℕ) : ℕ → List Offset → List Offset → Type 0 where
  end : {r : ℕ} → Paired k r [] []
  next : {r : ℕ} {v o : Offset} {vs os : List Offset} → k ≤ r → Paired k (r - k) vs os → Paired k r (v ∷ vs) (o ∷ os)

-- what is left of a tape after no chunk, and after a chunk and n more
past_none : (k : ℕ) (rest : List ℕ) → drop (0 * k) rest ≡ rest
past_none k rest = rw zero-mul

past_chunk : (k n : ℕ) (rest : List ℕ) → drop (suc n * k) rest ≡ drop (n * k) (drop k rest)
past_chunk k n rest = grind (arith, drop-drop {A = ℕ})

-- some tape shows host w, with the offsets os, what rest shows it with vs; what no chunk used is as it was
pub other_tape : (k : ℕ) (w : Side) {r : ℕ} {vs os : List Offset} → Paired k r vs os → (rest : List ℕ) → Digits rest → length rest ≡ r →
    (other : List ℕ) × Digits other × (length other ≡ length rest)
    × (drop (length vs * k) other ≡ drop (length vs * k) rest) × (seen k w os other ≡ seen k w vs rest)
other_tape k w end rest d e = (rest, d, refl, refl, refl)
other_tape k w (next {r = r} {v = v} {o = o} {vs = vs} {os = os} wide pairs) rest d e =
    let z : List ℕ = moved k w v o (take k rest) in
    let (x, dx, ex, px, sx) = other_tape k w pairs (drop k rest) (digits-drop k rest d) (omega (arith, length-drop k rest)) in
    let long : length z ≡ k = length-moved k w v o (take k rest) (length-take-le k rest (omega arith)) in
    let front : take k (z ++ x) ≡ z = take_at z x k long in
    let back : drop k (z ++ x) ≡ x = drop_at z x k long in (
      z ++ x,
      digits-append z x (digits-moved k w v o (take k rest) (digits-take k rest d)) dx,
      omega (arith, length-append z x, length-drop k rest),
      past_chunk k (length vs) (z ++ x) ∙ ap (drop (length vs * k)) back ∙ px ∙ sym (past_chunk k (length vs) rest),
      ap₂ ◌∷◌ (ap (seen_of k w o) front ∙ moved_shows k w v o (take k rest)) (ap (seen k w os) back ∙ sx),
    )

-- and no two tapes do: each chunk is told by what is seen of it, and what is left is the same
pub one_tape : (k : ℕ) (w : Side) {r : ℕ} {vs os : List Offset} → Paired k r vs os → (x y : List ℕ) → Digits x → Digits y →
    length x ≡ r → length y ≡ r → drop (length vs * k) x ≡ drop (length vs * k) y → seen k w os x ≡ seen k w os y → x ≡ y
one_tape k w end x y dx dy ex ey p s = sym (past_none k x) ∙ p ∙ past_none k y
one_tape k w (next {o = o} {vs = vs} {os = os} wide pairs) x y dx dy ex ey p s =
    let heads : seen_of k w o (take k x) ≡ seen_of k w o (take k y) = cc s in
    let tails : seen k w os (drop k x) ≡ seen k w os (drop k y) = cc s in
    let front : take k x ≡ take k y =
    seen_tells k w o (take k x) (take k y) (length-take-le k x (omega arith)) (length-take-le k y (omega arith))
    (digits-take k x dx) (digits-take k y dy) heads in
    let back : drop k x ≡ drop k y =
    one_tape k w pairs (drop k x) (drop k y) (digits-drop k x dx) (digits-drop k y dy)
    (omega (arith, length-drop k x)) (omega (arith, length-drop k y))
    (sym (past_chunk k (length vs) x) ∙ p ∙ past_chunk k (length vs) y) tails in
    sym (take-append-drop k x) ∙ ap₂ ◌++◌ front back ∙ take-append-drop k y
