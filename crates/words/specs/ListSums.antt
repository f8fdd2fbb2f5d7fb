-- Laws of sums over a list.
use Rattle.std.specs.Prelude.{◌≡◌, ℕ, ◌+◌, ◌*◌, List, [], ◌∷◌, map, length, sum_by, slice_index_or, refl}
use Rattle.std.proofs.Common.{sym, ap, ap₂, ◌∙◌, zero-add, mul-zero, mul-add, one-add}
use Rattle.std.specs.List.{flat_map, AllByRecursion}
use Rattle.std.proofs.lemmas.List.Sums.{sum_by-cons, sum_by-append}
use Rattle.digits.specs.Sums.{total}
use Rattle.digits.proofs.Sums.{total-append, total_cong}

pub sum_by-map : {X Y : Type 0} (f : Y → ℕ) (g : X → Y) (xs : List X) → sum_by f (map g xs) ≡ sum_by (λ x. f (g x)) xs
sum_by-map f g [] = refl
sum_by-map f g (x ∷ xs) =
    sum_by-cons f (g x) (map g xs) ∙ ap (λ a. f (g x) + a) (sum_by-map f g xs) ∙ sym (sum_by-cons (λ x. f (g x)) x xs)

pub sum_by_cong : {X : Type 0} (f g : X → ℕ) (xs : List X) → AllByRecursion (λ x. f x ≡ g x) xs → sum_by f xs ≡ sum_by g xs
sum_by_cong f g [] h = refl
sum_by_cong f g (x ∷ xs) h =
    sum_by-cons f x xs ∙ ap₂ (λ a b. a + b) h.0 (sum_by_cong f g xs h.1) ∙ sym (sum_by-cons g x xs)

-- the same where the two functions are equal throughout
pub sum_by-same : {X : Type 0} (f g : X → ℕ) → ((x : X) → f x ≡ g x) → (xs : List X) → sum_by f xs ≡ sum_by g xs
sum_by-same f g h [] = refl
sum_by-same f g h (x ∷ xs) =
    sum_by-cons f x xs ∙ ap₂ (λ a b. a + b) (h x) (sum_by-same f g h xs) ∙ sym (sum_by-cons g x xs)

pub sum_by_scale : {X : Type 0} (a : ℕ) (f : X → ℕ) (xs : List X) → sum_by (λ x. a * f x) xs ≡ a * sum_by f xs
sum_by_scale a f [] = sym (mul-zero a)
sum_by_scale a f (x ∷ xs) =
    sum_by-cons (λ x. a * f x) x xs ∙ ap (λ b. a * f x + b) (sum_by_scale a f xs)
    ∙ sym (mul-add a (f x) (sum_by f xs)) ∙ ap (λ b. a * b) (sym (sum_by-cons f x xs))

-- a sum over lists one behind the other
pub sum_by_joined : {X Y : Type 0} (f : Y → ℕ) (g : X → List Y) (xs : List X) → sum_by f (flat_map g xs) ≡ sum_by (λ x. sum_by f (g x)) xs
sum_by_joined f g [] = refl
sum_by_joined f g (x ∷ xs) =
    sum_by-append f (g x) (flat_map g xs) ∙ ap (λ a. sum_by f (g x) + a) (sum_by_joined f g xs)
    ∙ sym (sum_by-cons (λ x. sum_by f (g x)) x xs)

-- a sum over a list as a sum over its places
pub sum_by-total : {X : Type 0} (f : X → ℕ) (xs : List X) (d : X) → sum_by f xs ≡ total (length xs) (λ k. f (slice_index_or xs k d))
unfolding total
sum_by-total f [] d = refl
sum_by-total f (x ∷ xs) d =
    sum_by-cons f x xs ∙ ap (λ a. f x + a) (sum_by-total f xs d)
    ∙ sym (ap (λ n. total n (λ k. f (slice_index_or (x ∷ xs) k d))) (sym (one-add (length xs)))
    ∙ total-append 1 (length xs) (λ k. f (slice_index_or (x ∷ xs) k d))
    ∙ ap₂ (λ a b. a + b) (zero-add (f x)) (total_cong (length xs) _ _ (λ k l. ap (λ n. f (slice_index_or (x ∷ xs) n d)) (one-add k))))
