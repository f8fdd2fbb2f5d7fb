-- Answers: what a host of a table adds to a sheet for a query.
use Rattle.std.specs.Prelude.{◌≡◌, ℕ, ◌+◌, ◌-◌, ◌*◌, ◌/◌, ◌%◌, ◌<◌, cond, List, length, nat_lt}
use Rattle.digits.specs.Rows.{at, row, Digits}
use Rattle.digits.specs.Sums.{total, product, same}
use Rattle.family.specs.Vectors.{Vectors}

-- e(i), the product of u(i) and the query p
abbrev pub exponent : Vectors → List ℕ → ℕ → ℕ
exponent f p i = product f.dim (f.u i) (at p)

-- digit r of the sum over all positions i of weight(i) times g to the power e(i)
abbrev pub power_sum : Vectors → (ℕ → ℕ) → List ℕ → ℕ → ℕ
power_sum f weight p r = total f.count (λ i. weight i * same (exponent f p i) r) % 6

-- What a host of the table a answers to the query p, by places of a sheet: the first six are the value, the sum of all
-- a(i) g^e(i); the next six are the element of coordinate 0, and so on. That of coordinate c is the sum of all
-- a(i) u(i)c g^e(i).
abbrev pub answer : Vectors → (ℕ → ℕ) → List ℕ → ℕ → ℕ
answer f a p x = cond (nat_lt x 6) (power_sum f a p x) (power_sum f (λ i. a i * f.u i (x / 6 - 1)) p (x % 6))

-- A sheet is the value and then the elements of all coordinates. (The usual word is a server's answer.)
abbrev pub sheet_size : ℕ → ℕ
sheet_size k = 6 * (1 + k)

-- what a sheet holds when the answer was added to it, digit by digit
unfoldable pub answered : Vectors → (ℕ → ℕ) → List ℕ → List ℕ → List ℕ
answered f a p sheet = row (sheet_size f.dim) (λ x. (at sheet x + answer f a p x) % 6)

-- a sheet of zeros, as it is handed to a host
abbrev pub zero_sheet : Vectors → List ℕ
zero_sheet f = row (sheet_size f.dim) (λ x. 0)

-- the sheet of a table for a query: what an answer leaves that is added to zeros
abbrev pub sheet_of : Vectors → (ℕ → ℕ) → List ℕ → List ℕ
sheet_of f a p = answered f a p (zero_sheet f)

-- a table of digits, one for each position (the usual word is the database)
abbrev pub Table : Vectors → (ℕ → ℕ) → Type 0
Table f a = (i : ℕ) → i < f.count → a i < 6

-- what a host takes as a query: k digits
abbrev pub Query : Vectors → List ℕ → Type 0
Query f p = (length p ≡ f.dim) × Digits p

-- and as a sheet: 6 (1 + k) digits
abbrev pub Sheet : Vectors → List ℕ → Type 0
Sheet f xs = (length xs ≡ sheet_size f.dim) × Digits xs

-- The answering rule. A host, as promises see it, turns a query and a sheet into what the sheet holds after: whatever
-- adds the table's answer to every sheet for every query is a host of that table. (The usual word is a server.)
abbrev pub HostOf : Vectors → (ℕ → ℕ) → (List ℕ → List ℕ → List ℕ) → Type 0
HostOf f a host = (p sheet : List ℕ) → Query f p → Sheet f sheet → host p sheet ≡ answered f a p sheet
