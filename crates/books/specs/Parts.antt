-- When a part of a book passes, and what follows where it does.
use Rattle.std.specs.Prelude.{◌≡◌, ℕ, ◌≤◌, List, length, take, None, nat_lt}
use Rattle.std.proofs.Common.{arith}
use Rattle.std.proofs.lemmas.List.{length-take-le}
use Rattle.std.proofs.lemmas.List.Sums.{prefix_len-le-length}
use Rattle.std.proofs.lemmas.Bool.{cond-true, cond-false, le-ltb, ltb-false, eq-eqb}
use Rattle.digits.specs.Rows.{first_above}
use Rattle.digits.proofs.Passing.{failed, none_or_else}
use Rattle.books.specs.Layout.{short_fault, section_fault}

pub long_enough : (len whole : ℕ) (rest : List ℕ) → len ≤ length rest → short_fault len whole rest ≡ None
long_enough len whole rest h = cond-false _ _ _ (le-ltb (length rest) len h)

pub enough : (len whole : ℕ) (rest : List ℕ) → short_fault len whole rest ≡ None → len ≤ length rest
enough len whole rest e = ltb-false _ _ (failed _ _ e)

-- where no byte above 5 comes before the end of a section, none comes at all
pub all_digits : (len whole : ℕ) (rest : List ℕ) → len ≤ length rest → len ≤ first_above (take len rest) →
    section_fault len whole rest ≡ None
all_digits len whole rest h k =
    none_or_else _ _ (long_enough len whole rest h)
    (cond-true _ _ _ (eq-eqb _ len (omega (arith, length-take-le len rest h, prefix_len-le-length (λ x. nat_lt x 6) (take len rest)))))
