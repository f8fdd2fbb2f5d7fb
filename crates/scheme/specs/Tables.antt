-- Hosts and their tables: what is a host of a table, what tells a table, and hosts of two tables that, one after the other, are a host
-- of their sum.
use Rattle.std.specs.Prelude.{◌≡◌, ℕ, ◌+◌, ◌%◌, ◌<◌, List}
use Rattle.family.specs.Vectors.{Vectors}
use Rattle.scheme.specs.Answers.{answer, answered, Query, Sheet, Table, HostOf}

-- the sum of two tables, entry by entry
abbrev pub table_sum : (ℕ → ℕ) → (ℕ → ℕ) → ℕ → ℕ
table_sum a b i = (a i + b i) % 6

pub record HostsOfTables : Type 0 where
  -- each table has a host; and what a host does with rows that are no query or no sheet is open
  pub some_host : (f : Vectors) (a : ℕ → ℕ) → HostOf f a (answered f a)
  pub other_rows : (f : Vectors) (a : ℕ → ℕ) (host other : List ℕ → List ℕ → List ℕ) →
      ((p sheet : List ℕ) → Query f p → Sheet f sheet → other p sheet ≡ host p sheet) → HostOf f a host → HostOf f a other
  -- a table is told by its entries at positions: a host of one is a host of any that has the same
  pub same_entries : (f : Vectors) (a b : ℕ → ℕ) → ((i : ℕ) → i < f.count → a i ≡ b i) → (host : List ℕ → List ℕ → List ℕ) →
      HostOf f a host → HostOf f b host
  -- the sum of two tables is a table of digits, and it answers with the sum of the answers, at each place of a sheet
  pub sum_digits : (f : Vectors) (a b : ℕ → ℕ) → Table f (table_sum a b)
  pub sum_answers : (f : Vectors) (a b : ℕ → ℕ) (p : List ℕ) (x : ℕ) → answer f (table_sum a b) p x ≡ (answer f a p x + answer f b p x) % 6
  -- adding one answer to a sheet and then the other is adding that of the sum
  pub sum_answered : (f : Vectors) (a b : ℕ → ℕ) (p sheet : List ℕ) → answered f b p (answered f a p sheet) ≡ answered f (table_sum a b) p sheet
  -- so two hosts, one after the other, keep the answering rule for the sum, which may be summed again
  pub sum_host : (f : Vectors) (a b : ℕ → ℕ) (one two : List ℕ → List ℕ → List ℕ) → HostOf f a one → HostOf f b two →
      HostOf f (table_sum a b) (λ p sheet. two p (one p sheet))
