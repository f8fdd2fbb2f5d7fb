-- The scheme as it was published: a table as a polynomial over the ring, an answer as its value and its derivative at the
-- query's point, and recovery as the solution of four equations.
use Rattle.std.specs.Prelude.{◌≡◌, ℕ, zero, suc, ◌*◌, ◌<◌, cond, List, ◌==◌}
use Rattle.digits.specs.Rows.{at}
use Rattle.digits.specs.Elements.{zero_element, times, scaled}
use Rattle.digits.specs.Ring.{one_element, g, to_the, sum_of, product_of, determinant, adjugate}
use Rattle.family.specs.Vectors.{Vectors, MatchingFamily, pairing}
use Rattle.scheme.specs.Answers.{exponent, sheet_of}
use Rattle.scheme.specs.Queries.{second_query, shift}
use Rattle.scheme.specs.Recovery.{value, element_of, slope, C1, C2, C3, C4, D, sheets_weighed}

-- a monomial in k variables, with the exponents u, at a point x: the product of all x(c)^u(c)
abbrev pub monomial : ℕ → (ℕ → ℕ) → (ℕ → List ℕ) → List ℕ
monomial k u x = product_of k (λ c. to_the (x c) (u c))

-- F, the table a as a polynomial: the sum of all a(i) x^u(i)
abbrev pub polynomial : Vectors → (ℕ → ℕ) → (ℕ → List ℕ) → List ℕ
polynomial f a x = sum_of f.count (λ i. scaled (a i) (monomial f.dim (f.u i) x))

-- coordinate c of its derivative F1: the sum of all a(i) u(i)c x^u(i), which is x(c) times the usual derivative by x(c)
abbrev pub derivative : Vectors → (ℕ → ℕ) → (ℕ → List ℕ) → ℕ → List ℕ
derivative f a x c = polynomial f (λ i. a i * f.u i c) x

-- the point of a query p: its coordinates are g^p(c)
abbrev pub point : List ℕ → ℕ → List ℕ
point p c = to_the g (at p c)

-- c(l): the sum of a(i) g^e(i) over the positions i whose product with v(t) is l, where e(i) is the product of u(i) and z
abbrev pub share : Vectors → ℕ → (ℕ → ℕ) → List ℕ → ℕ → List ℕ
share f t a z l =
    sum_of f.count (λ i. cond (pairing f i t == l) (scaled (a i) (to_the g (exponent f z i))) zero_element)

-- the products that the matching rule allows, by number
abbrev pub allowed_product : ℕ → ℕ
allowed_product zero = 0
allowed_product (suc zero) = 1
allowed_product (suc (suc zero)) = 3
allowed_product (suc (suc (suc j))) = 4

-- the sum over l = 0, 1, 3, 4
abbrev pub over_products : (ℕ → List ℕ) → List ℕ
over_products e = sum_of 4 (λ j. e (allowed_product j))

-- the right sides of the equations of Y1 .. Y4: the sums of c(l), of l c(l), of c(l) g^l and of l c(l) g^l
abbrev pub right_side : ℕ → (ℕ → List ℕ) → List ℕ
right_side zero c = over_products (λ l. c l)
right_side (suc zero) c = over_products (λ l. scaled l (c l))
right_side (suc (suc zero)) c = over_products (λ l. times (c l) (to_the g l))
right_side (suc (suc (suc y))) c = over_products (λ l. scaled l (times (c l) (to_the g l)))

-- the matrix of the four equations, told by row and column: a row for each of Y1 .. Y4, and a column for each l
abbrev pub coefficient : ℕ → ℕ → List ℕ
coefficient zero j = one_element
coefficient (suc zero) j = scaled (allowed_product j) one_element
coefficient (suc (suc zero)) j = to_the g (allowed_product j)
coefficient (suc (suc (suc y))) j = scaled (allowed_product j) (to_the g (allowed_product j))

-- what two sheets of one table come to for position t, by those equations
pub record Equations (f : Vectors) (t : ℕ) (a : ℕ → ℕ) (z : List ℕ) : Type 0 where
  pub first_value : value (sheet_of f a z) ≡ right_side 0 (share f t a z)
  pub first_slope : slope f t (sheet_of f a z) ≡ right_side 1 (share f t a z)
  pub second_value : value (sheet_of f a (second_query f t z)) ≡ right_side 2 (share f t a z)
  pub second_slope : slope f t (sheet_of f a (second_query f t z)) ≡ right_side 3 (share f t a z)
  -- the right sides are the matrix times the column of the shares
  pub matrix : (y : ℕ) → right_side y (share f t a z) ≡ sum_of 4 (λ j. times (coefficient y j) (share f t a z (allowed_product j)))
  pub own_share : share f t a z 0 ≡ scaled (a t) (to_the g (shift f t z))
  pub solved : sheets_weighed f t (sheet_of f a z) (sheet_of f a (second_query f t z)) ≡ times D (share f t a z 0)

pub record AsPublished : Type 0 where
  -- a sheet's value is F at the query's point, and its element of coordinate c is that coordinate of F1 there
  pub values : (f : Vectors) (a : ℕ → ℕ) (p : List ℕ) → value (sheet_of f a p) ≡ polynomial f a (point p)
  pub derivatives : (f : Vectors) (a : ℕ → ℕ) (p : List ℕ) (c : ℕ) → c < f.dim →
      element_of (sheet_of f a p) c ≡ derivative f a (point p) c
  -- Y1 .. Y4 keep the four equations, and W is D times c(0)
  pub recovery : (f : Vectors) → MatchingFamily f → (t : ℕ) → t < f.count → (a : ℕ → ℕ) (z : List ℕ) → Equations f t a z
  -- the weights are the first row of the matrix's adjugate, and D is its determinant
  pub weights : (C1 ≡ adjugate 3 coefficient 0 0) × (C2 ≡ adjugate 3 coefficient 0 1) × (C3 ≡ adjugate 3 coefficient 0 2) × (C4 ≡ adjugate 3 coefficient 0 3)
  pub scale : D ≡ determinant 4 coefficient
