-- A row of digits as text, digit by digit.
use Rattle.std.proofs.Common.{◌≡◌, ℕ, zero, suc, ◌+◌, ◌<◌, List, [], ◌∷◌, ◌++◌, length, get_or, take, sym, ap, ◌∙◌, append_assoc, add-one, arith}
use Rattle.std.specs.Prelude.{codes, decimal}
use Rattle.std.proofs.lemmas.List.{append-nil}
use Rattle.faults.specs.Text.{spaced}

one_more : (xs : List ℕ) (i : ℕ) → i < length xs →
    spaced (take (suc i) xs) ≡ spaced (take i xs) ++ (codes " " ++ decimal (get_or xs i 0))
one_more [] i h = absurd (omega arith)
one_more (x ∷ xs) zero h = ap (λ t. codes " " ++ t) (append-nil (decimal x))
one_more (x ∷ xs) (suc i) h =
    ap (λ t. codes " " ++ (decimal x ++ t)) (one_more xs i (omega arith))
    ∙ ap (λ t. codes " " ++ t) (sym (append_assoc (decimal x) (spaced (take i xs)) (codes " " ++ decimal (get_or xs i 0))))

pub digit_more : (xs : List ℕ) (i : ℕ) → i < length xs →
    spaced (take (i + 1) xs) ≡ spaced (take i xs) ++ (codes " " ++ decimal (get_or xs i 0))
digit_more xs i h = rw add-one (one_more xs i h)
