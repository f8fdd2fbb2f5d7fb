-- The room that the rows of a book in order need.
use Rattle.std.proofs.Common.{◌≡◌, ℕ, ◌+◌, ◌*◌, ◌≤◌, false, List, length, is_some, arith}
use Rattle.std.proofs.lemmas.Nat.{mul-le}
use Rattle.books.specs.Accepting.{none_of}
use Rattle.books.specs.Layout.{layout_fault}
use Rattle.books.specs.Numbers.{dimension_of, count_of}
use Rattle.books.specs.Ordered.{in_order, long_as}

-- the length of a book in order, its count, and the size of a section, by the numbers that the code holds
pub record Room (bs : List ℕ) (n k : ℕ) : Type 0 where
  pub long : length bs ≡ 10 + n * k + n * k
  pub few : n ≤ 1024
  pub bounded : n * k ≤ 1024 * 4096

pub room : (bs : List ℕ) (n k : ℕ) → is_some (layout_fault bs) ≡ false → n ≡ count_of bs → k ≡ dimension_of bs → Room bs n k
room bs n k order counted wide =
    let o = in_order bs (none_of (layout_fault bs) order) in
    record {
      long = long_as bs n k o counted wide;
      few = omega arith;
      bounded = mul-le n k 1024 4096 (omega arith) (omega arith);
    }
