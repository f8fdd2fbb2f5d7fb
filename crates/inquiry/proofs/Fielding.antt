-- Fields as numbers, one after the other.
use Rattle.std.proofs.Common.{◌≡◌, ℕ, zero, suc, ◌+◌, ◌<◌, List, [], ◌∷◌, ◌++◌, length, get_or, map, take, Some, None, Option, refl, sym, ap, ap₂, ◌∙◌, arith, option_and_then, add-one}
use Rattle.inquiry.specs.Grammar.{number_in, numbers_of}

-- the numbers so far and one more, where both are there
abbrev with_one : Option (List ℕ) → Option ℕ → Option (List ℕ)
with_one None o = None
with_one (Some ns) None = None
with_one (Some ns) (Some n) = Some (ns ++ n ∷ [])

-- with n before it
abbrev onto : Option ℕ → Option (List ℕ) → Option (List ℕ)
onto o ns = option_and_then (λ n. option_and_then (λ more. Some (n ∷ more)) ns) o

onto_with : (o : Option ℕ) (ns : Option (List ℕ)) (p : Option ℕ) → onto o (with_one ns p) ≡ with_one (onto o ns) p
onto_with None ns p = refl
onto_with (Some n) None p = refl
onto_with (Some n) (Some ns) None = refl
onto_with (Some n) (Some ns) (Some m) = refl

onto_none : (o : Option ℕ) → onto o None ≡ None
onto_none None = refl
onto_none (Some n) = refl

first_one : (o : Option ℕ) → onto o (Some []) ≡ with_one (Some []) o
first_one None = refl
first_one (Some n) = refl

one_more : {A : Type 0} (v : A → List ℕ) (xs : List A) (i : ℕ) (d : A) → i < length xs →
    numbers_of (map v (take (suc i) xs)) ≡ with_one (numbers_of (map v (take i xs))) (number_in (v (get_or xs i d)))
one_more v [] i d h = absurd (omega arith)
one_more v (x ∷ xs) zero d h = first_one (number_in (v x))
one_more v (x ∷ xs) (suc i) d h =
    ap (onto (number_in (v x))) (one_more v xs i d (omega arith))
    ∙ onto_with (number_in (v x)) (numbers_of (map v (take i xs))) (number_in (v (get_or xs i d)))

-- a field more, that is a number
pub field_more : {A : Type 0} (v : A → List ℕ) (xs : List A) (i : ℕ) (d : A) (ns ms : List ℕ) (n : ℕ) → i < length xs →
    numbers_of (map v (take i xs)) ≡ Some ns → number_in (v (get_or xs i d)) ≡ Some n → ms ≡ ns ++ n ∷ [] →
    numbers_of (map v (take (i + 1) xs)) ≡ Some ms
field_more v xs i d ns ms n h e f g = rw add-one (one_more v xs i d h ∙ ap₂ with_one e f ∙ ap Some (sym g))

-- a field that is no number
pub field_wrong : {A : Type 0} (v : A → List ℕ) (xs : List A) (i : ℕ) (d : A) → i < length xs →
    number_in (v (get_or xs i d)) ≡ None → numbers_of (map v xs) ≡ None
field_wrong v [] i d h e = absurd (omega arith)
field_wrong v (x ∷ xs) zero d h e = ap (λ o. onto o (numbers_of (map v xs))) e
field_wrong v (x ∷ xs) (suc i) d h e =
    ap (onto (number_in (v x))) (field_wrong v xs i d (omega arith) e) ∙ onto_none (number_in (v x))
