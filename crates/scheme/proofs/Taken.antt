-- What the tests of a request say that was taken.
use Rattle.std.proofs.Common.{◌≡◌, ℕ, ◌<◌, ◌≤◌, None, ltb, leb, ltb-true, leb-true, arith}
use Rattle.faults.specs.declared.Layer.TheVariants.{Session as SessionLayer}
use Rattle.digits.specs.Refusals.{width_fault, equal_fault, below_fault}
use Rattle.digits.proofs.Passing.{passed, or_else_none, equal_is, width_is}
use Rattle.family.specs.Vectors.{Vectors}
use Rattle.scheme.specs.Sessions.{family_fault, tape_fault, request_fault}

-- a family that is not refused has the session's count and dimension
pub family_is : (n k : ℕ) (f : Vectors) → family_fault n k f ≡ None → (f.count ≡ n) × (f.dim ≡ k)
family_is n k f h =
    let (count, dim) = or_else_none (equal_fault SessionLayer n f.count) _ h in
    (equal_is SessionLayer n f.count count, equal_is SessionLayer k f.dim dim)

-- with the family f, for position t, on a session of count n and dimension k of which so many digits are left
pub record Taken (n k left : ℕ) (f : Vectors) (t : ℕ) : Type 0 where
  pub family_passes : family_fault n k f ≡ None
  pub dim_is : f.dim ≡ k
  pub below_count : t < f.count
  pub room : k ≤ left

pub taken : (n k left : ℕ) (f : Vectors) (t l m : ℕ) → request_fault n k left f t l m ≡ None → Taken n k left f t
taken n k left f t l m e =
    let (family, rest) = or_else_none (family_fault n k f) _ e in
    let (count_is, dim_is) = family_is n k f family in
    let (first_width, more) = or_else_none (width_fault k l) _ rest in
    let (second_width, last) = or_else_none (width_fault k m) _ more in
    let (position, room) = or_else_none (below_fault SessionLayer n t) (tape_fault k left) last in
    let below : t < n = ltb-true t n (passed (ltb t n) _ position) in
    record { family_passes = family; dim_is = dim_is; below_count = omega arith; room = leb-true k left (passed (leb k left) _ room) }

-- and that both rows are as long as a query
pub widths : (n k left : ℕ) (f : Vectors) (t l m : ℕ) → request_fault n k left f t l m ≡ None → (l ≡ k) × (m ≡ k)
widths n k left f t l m e =
    let (family, rest) = or_else_none (family_fault n k f) _ e in
    let (first, more) = or_else_none (width_fault k l) _ rest in
    let (second, last) = or_else_none (width_fault k m) _ more in
    (width_is k l first, width_is k m second)
