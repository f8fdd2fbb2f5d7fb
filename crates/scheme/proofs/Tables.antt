-- Hosts of tables: entries at positions tell a table, and a sum answers with the sum of the answers.
use Rattle.std.proofs.Common.{◌≡◌, ℕ, ◌+◌, ◌-◌, ◌*◌, ◌/◌, ◌%◌, ◌<◌, cond, ltb, List, refl, ap, ap₂, ◌∙◌, arith}
use Rattle.std.proofs.lemmas.Grind.{common_steps}
use Rattle.digits.specs.Rows.{at, row}
use Rattle.digits.specs.Sums.{same}
use Rattle.digits.proofs.RowLaws.{at_row, row_cong}
use Rattle.digits.proofs.Sums.{total_cong}
use Rattle.digits.proofs.SumLaws.{total_add, total_mod, mul_same}
use Rattle.family.specs.Vectors.{Vectors}
use Rattle.scheme.specs.Answers.{exponent, power_sum, answer, answered, sheet_size, HostOf}
use Rattle.scheme.specs.Tables.{table_sum, HostsOfTables}
use Rattle.scheme.proofs.FitRows.{answered_fit}

-- weights that are, modulo 6, the sums of others
power_sums : (f : Vectors) (w a b : ℕ → ℕ) (p : List ℕ) (r : ℕ) → ((i : ℕ) → w i % 6 ≡ (a i + b i) % 6) →
    power_sum f w p r ≡ (power_sum f a p r + power_sum f b p r) % 6
power_sums f w a b p r h =
    let s : ℕ → ℕ = λ i. same (exponent f p i) r in
    total_mod f.count (λ i. w i * s i) (λ i. a i * s i + b i * s i) (λ i l. omega (arith, mul_same (s i) (w i) (a i + b i) (h i)))
    ∙ omega (arith, total_add f.count (λ i. a i * s i) (λ i. b i * s i))

sum_answers : (f : Vectors) (a b : ℕ → ℕ) (p : List ℕ) (x : ℕ) → answer f (table_sum a b) p x ≡ (answer f a p x + answer f b p x) % 6
sum_answers f a b p x =
    let u : ℕ → ℕ = λ i. f.u i (x / 6 - 1) in
    let in_value = power_sums f (table_sum a b) a b p x (λ i. omega arith) in
    let in_element =
    power_sums f (λ i. table_sum a b i * u i) (λ i. a i * u i) (λ i. b i * u i) p (x % 6)
    (λ i. omega (arith, mul_same (u i) (table_sum a b i) (a i + b i) (omega arith))) in
    grind (arith, common_steps)

sum_answered : (f : Vectors) (a b : ℕ → ℕ) (p sheet : List ℕ) → answered f b p (answered f a p sheet) ≡ answered f (table_sum a b) p sheet
unfolding answered
sum_answered f a b p sheet =
    let once : ℕ → ℕ = λ x. (at sheet x + answer f a p x) % 6 in
    row_cong (sheet_size f.dim) (λ x. (at (row (sheet_size f.dim) once) x + answer f b p x) % 6) (λ x. (at sheet x + answer f (table_sum a b) p x) % 6)
    (λ x l. omega (arith, at_row (sheet_size f.dim) once x l, sum_answers f a b p x))

-- weights that agree at positions sum up to the same
power_sum_cong : (f : Vectors) (w x : ℕ → ℕ) (p : List ℕ) (r : ℕ) → ((i : ℕ) → i < f.count → w i ≡ x i) → power_sum f w p r ≡ power_sum f x p r
power_sum_cong f w x p r h =
    ap (λ n. n % 6)
    (total_cong f.count (λ i. w i * same (exponent f p i) r) (λ i. x i * same (exponent f p i) r)
    (λ i l. ap (λ d. d * same (exponent f p i) r) (h i l)))

-- so a table is told by its entries at positions
same_answered : (f : Vectors) (a b : ℕ → ℕ) → ((i : ℕ) → i < f.count → a i ≡ b i) → (p sheet : List ℕ) → answered f a p sheet ≡ answered f b p sheet
unfolding answered
same_answered f a b same_table p sheet =
    row_cong (sheet_size f.dim) (λ x. (at sheet x + answer f a p x) % 6) (λ x. (at sheet x + answer f b p x) % 6)
    (λ x l.
    let u : ℕ → ℕ = λ i. f.u i (x / 6 - 1) in
    ap (λ d. (at sheet x + d) % 6)
    (ap₂ (λ d e. cond (ltb x 6) d e)
    (power_sum_cong f a b p x same_table)
    (power_sum_cong f (λ i. a i * u i) (λ i. b i * u i) p (x % 6) (λ i h. ap (λ d. d * u i) (same_table i h)))))

sum_host : (f : Vectors) (a b : ℕ → ℕ) (one two : List ℕ → List ℕ → List ℕ) → HostOf f a one → HostOf f b two →
    HostOf f (table_sum a b) (λ p sheet. two p (one p sheet))
sum_host f a b one two first second p sheet query fits =
    ap (two p) (first p sheet query fits)
    ∙ second p (answered f a p sheet) query (answered_fit f a p sheet)
    ∙ sum_answered f a b p sheet

pub tables : HostsOfTables
tables = record {
  some_host = λ f a p sheet query fits. refl;
  other_rows = λ f a host other same keeps p sheet query fits. same p sheet query fits ∙ keeps p sheet query fits;
  same_entries = λ f a b same_table host keeps p sheet query fits. keeps p sheet query fits ∙ same_answered f a b same_table p sheet;
  sum_digits = λ f a b i h. omega arith;
  sum_answers = sum_answers;
  sum_answered = sum_answered;
  sum_host = sum_host;
}
