-- One request's chunk of the tape: what a host sees of it, and the one chunk that looks the same for another position.
use Rattle.std.proofs.Common.{◌≡◌, ℕ, ◌+◌, ◌-◌, ◌%◌, ◌<◌, List, length, sym, refl, ap, ◌∙◌, ext_get_or, arith}
use Rattle.digits.specs.Rows.{at, row, Digits}
use Rattle.digits.proofs.RowLaws.{at_row, row_cong}
use Rattle.digits.proofs.DigitRows.{remainders}
use Rattle.scheme.specs.Law.{Side, first, second, query_of}

-- the digits v(t) that a request adds to its chunk z, the next k tape digits, for the second host: an offset
abbrev pub Offset : Type 0
Offset = ℕ → ℕ

-- what host w sees of a chunk
abbrev pub seen_of : ℕ → Side → Offset → List ℕ → List ℕ
seen_of k w v z = query_of w z (row k (λ c. (at z c + v c) % 6))

-- the chunk that shows host w, with the offset o, what z shows it with the offset v
abbrev pub moved : ℕ → Side → Offset → Offset → List ℕ → List ℕ
moved k first v o z = z
moved k second v o z = row k (λ c. (at z c + v c + 6 - o c % 6) % 6)

pub length-moved : (k : ℕ) (w : Side) (v o : Offset) (z : List ℕ) → length z ≡ k → length (moved k w v o z) ≡ k
length-moved k first v o z e = e
length-moved k second v o z e = (remainders k _).0

pub digits-moved : (k : ℕ) (w : Side) (v o : Offset) (z : List ℕ) → Digits z → Digits (moved k w v o z)
digits-moved k first v o z d = d
digits-moved k second v o z d = (remainders k _).1

pub moved_shows : (k : ℕ) (w : Side) (v o : Offset) (z : List ℕ) → seen_of k w o (moved k w v o z) ≡ seen_of k w v z
moved_shows k first v o z = refl
moved_shows k second v o z = row_cong k _ _ (λ c h. omega (arith, at_row k (λ c. (at z c + v c + 6 - o c % 6) % 6) c h))

-- what a host sees tells the chunk
pub seen_tells : (k : ℕ) (w : Side) (v : Offset) (x y : List ℕ) → length x ≡ k → length y ≡ k → Digits x → Digits y →
    seen_of k w v x ≡ seen_of k w v y → x ≡ y
seen_tells k first v x y ex ey dx dy e = e
seen_tells k second v x y ex ey dx dy e =
    ext_get_or 0 x y (ex ∙ sym ey)
    (λ i h.
    let l : i < k = omega arith in
    let shown = ap (λ q. at q i) e in
    omega (arith, at_row k (λ c. (at x c + v c) % 6) i l, at_row k (λ c. (at y c + v c) % 6) i l, dx i, dy i))
