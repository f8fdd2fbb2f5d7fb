-- What the tests of a call from C come to: the first fault that one of them finds, or that nothing is amiss.
use Rattle.std.proofs.Common.{◌≡◌, ℕ, List, [], ◌∷◌, length, None, Ok, Err, Option, Result, MatchResult, slice_set, sym, ap, ap₂, subst, ◌∙◌}
use Rattle.std.specs.Result.{IsErrAnd}
use Rattle.faults.specs.declared.Fault.{Fault}
use Rattle.faults.specs.declared.Layer.TheVariants.{Session as SessionLayer}
use Rattle.digits.specs.Refusals.{or_else, long_fault, below_fault, digits_fault}
use Rattle.digits.specs.Rows.{at}
use Rattle.digits.proofs.Passing.{goes_on}
use Rattle.family.specs.Vectors.{Vectors}
use Rattle.scheme.specs.Answers.{sheet_size}
use Rattle.scheme.specs.Sessions.{unless, outcome, tape_fault}
use Rattle.words.specs.Words.{word_dim, word_vectors, words_fault}
use Rattle.bootloader.specs.Calls.{asked_fault, recover_call_fault, call_outcome}
use Rattle.bootloader.proofs.Requests.{one_written}

-- what holds of a fault holds of it where `?` hands it on
pub handed_on : {X : Type 0} (P : X → Type 0) (Q : Fault → Type 0) (result : Result X Fault) (e : Fault) → IsErrAnd result (λ x. x ≡ e) → Q e →
    MatchResult result P Q
handed_on P Q (Ok x) e given is = absurd given
handed_on P Q (Err x) e given is = subst Q (sym given) is

-- where the family and the rows of a request pass, its position and its tape decide
pub request_rows : (h q t k count : ℕ) (f : Vectors) (tape first second turn : List ℕ) (o : Option Fault) → f ≡ word_vectors h q → k ≡ f.dim →
    count ≡ f.count → words_fault h q ≡ None → long_fault k first ≡ None → long_fault k second ≡ None → long_fault 1 turn ≡ None →
    or_else (below_fault SessionLayer count t) (or_else (tape_fault k (length tape)) (digits_fault tape)) ≡ o →
    asked_fault h q t tape first second turn ≡ o
request_rows h q t k count f tape first second turn o same wide count_is words first_long second_long turn_long last =
    let wide_is : word_dim h q ≡ k = sym (wide ∙ ap (λ g. g.dim) same) in
    let counted : (word_vectors h q).count ≡ count = sym (count_is ∙ ap (λ g. g.count) same) in
    let rest : ℕ → ℕ → Option Fault = λ n m. or_else (below_fault SessionLayer n t) (or_else (tape_fault m (length tape)) (digits_fault tape)) in
    goes_on _ _ o words
    (goes_on _ _ o (ap (λ n. long_fault n first) wide_is ∙ first_long)
    (goes_on _ _ o (ap (λ n. long_fault n second) wide_is ∙ second_long)
    (goes_on _ _ o turn_long (ap₂ rest counted wide_is ∙ last))))

-- where the family and the rows of a recovery pass, its position and its shift decide
pub recovery_rows : (h q t size count : ℕ) (f : Vectors) (turn one two entry : List ℕ) (o : Option Fault) → f ≡ word_vectors h q →
    size ≡ sheet_size f.dim → count ≡ f.count → words_fault h q ≡ None → long_fault 1 turn ≡ None → long_fault size one ≡ None →
    long_fault size two ≡ None → long_fault 1 entry ≡ None → or_else (below_fault SessionLayer count t) (digits_fault turn) ≡ o →
    recover_call_fault h q t turn one two entry ≡ o
recovery_rows h q t size count f turn one two entry o same size_is count_is words turn_long one_long two_long entry_long last =
    let sized : sheet_size (word_dim h q) ≡ size = sym (size_is ∙ ap (λ g. sheet_size g.dim) same) in
    let counted : (word_vectors h q).count ≡ count = sym (count_is ∙ ap (λ g. g.count) same) in
    goes_on _ _ o words
    (goes_on _ _ o turn_long
    (goes_on _ _ o (ap (λ n. long_fault n one) sized ∙ one_long)
    (goes_on _ _ o (ap (λ n. long_fault n two) sized ∙ two_long)
    (goes_on _ _ o entry_long (ap (λ n. or_else (below_fault SessionLayer n t) (digits_fault turn)) counted ∙ last)))))

-- where nothing is amiss before the sheets are read, what they come to is what a recovery gives
pub recovery_reads : (h q t : ℕ) (f : Vectors) (turn one two entry : List ℕ) (result : Result ℕ Fault) → f ≡ word_vectors h q →
    recover_call_fault h q t turn one two entry ≡ None → result ≡ outcome f.count f.dim f t (at turn 0) one two →
    call_outcome h q t turn one two entry ≡ result
recovery_reads h q t f turn one two entry result same none reads =
    ap (λ o. unless o (outcome (word_vectors h q).count (word_vectors h q).dim (word_vectors h q) t (at turn 0) one two)) none
    ∙ sym (reads ∙ ap (λ g. outcome g.count g.dim g t (at turn 0) one two) same)

-- an entry, written over a row of one byte
pub entry_written : (result : Result ℕ Fault) (e : ℕ) (row : List ℕ) → result ≡ Ok e → length row ≡ 1 →
    MatchResult result (λ x. slice_set row 0 e ≡ x ∷ []) (λ _. ⊥)
entry_written (Ok x) e row is one = one_written e row one ∙ cc
entry_written (Err x) e row is one = cc
