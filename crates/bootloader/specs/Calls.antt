-- The calls from C: what each refuses, and in which order, for words of h letters from an alphabet of q.
use Rattle.std.specs.Prelude.{ℕ, List, [], ◌∷◌, length, Option, Result}
use Rattle.faults.specs.declared.Fault.{Fault}
use Rattle.faults.specs.declared.Layer.TheVariants.{Session as SessionLayer}
use Rattle.digits.specs.Rows.{at}
use Rattle.digits.specs.Refusals.{or_else, long_fault, below_fault, digits_fault}
use Rattle.family.specs.Vectors.{Vectors}
use Rattle.scheme.specs.Answers.{sheet_size}
use Rattle.scheme.specs.Queries.{shift}
use Rattle.scheme.specs.Sessions.{tape_fault, unless, outcome}
use Rattle.host.specs.Dense.{dense_fault}
use Rattle.host.specs.Holdings.{answer_fault}
use Rattle.words.specs.Words.{word_dim, word_vectors, words_fault}

-- what is amiss with a request for position t: the family, the lengths of the rows, the position, the tape's length, its digits
abbrev pub asked_fault : ℕ → ℕ → ℕ → List ℕ → List ℕ → List ℕ → List ℕ → Option Fault
asked_fault h q t tape first second shift =
    or_else (words_fault h q)
    (or_else (long_fault (word_dim h q) first)
    (or_else (long_fault (word_dim h q) second)
    (or_else (long_fault 1 shift)
    (or_else (below_fault SessionLayer (word_vectors h q).count t)
    (or_else (tape_fault (word_dim h q) (length tape)) (digits_fault tape))))))

-- the row of one digit that holds the shift of a request for position t with the tape digits z
abbrev pub shift_row : Vectors → ℕ → List ℕ → List ℕ
shift_row f t z = shift f t z ∷ []

-- what is amiss with an answer: the family, the table, and what a dense host refuses
abbrev pub answer_call_fault : ℕ → ℕ → List ℕ → List ℕ → List ℕ → Option Fault
answer_call_fault h q table query sheet =
    or_else (words_fault h q) (or_else (dense_fault table) (answer_fault (length table) (word_vectors h q) query sheet))

-- what is amiss with a recovery for position t, before its sheets are read: the family, the lengths of the rows, the position, the shift
abbrev pub recover_call_fault : ℕ → ℕ → ℕ → List ℕ → List ℕ → List ℕ → List ℕ → Option Fault
recover_call_fault h q t shift one two entry =
    or_else (words_fault h q)
    (or_else (long_fault 1 shift)
    (or_else (long_fault (sheet_size (word_dim h q)) one)
    (or_else (long_fault (sheet_size (word_dim h q)) two)
    (or_else (long_fault 1 entry)
    (or_else (below_fault SessionLayer (word_vectors h q).count t) (digits_fault shift))))))

-- the entry that a recovery gives, or what is amiss: with all that, or with the sheets
abbrev pub call_outcome : ℕ → ℕ → ℕ → List ℕ → List ℕ → List ℕ → List ℕ → Result ℕ Fault
call_outcome h q t shift one two entry =
    unless (recover_call_fault h q t shift one two entry)
    (outcome (word_vectors h q).count (word_vectors h q).dim (word_vectors h q) t (at shift 0) one two)
