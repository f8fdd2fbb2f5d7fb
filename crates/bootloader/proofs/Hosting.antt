-- What a dense host of a row answers for a family of words is what the call promises of the row.
use Rattle.std.proofs.Common.{◌≡◌, ℕ, List, length, Some, None, Result, MatchResult, subst}
use Rattle.std.proofs.lemmas.Result.{MatchResult-weaker}
use Rattle.faults.specs.declared.Fault.{Fault}
use Rattle.digits.specs.Rows.{at}
use Rattle.digits.proofs.Passing.{goes_on}
use Rattle.scheme.specs.Answers.{answered}
use Rattle.host.specs.Dense.{dense_fault, dense_holding}
use Rattle.host.specs.Holdings.{Holding}
use Rattle.host.proofs.InTurn.{Promise}
use Rattle.words.specs.Words.{word_vectors, words_fault}
use Rattle.bootloader.specs.Calls.{answer_call_fault}

pub answers : {X : Type 0} (h q a b : ℕ) (held : Holding) (table query before after : List ℕ) (result : Result X Fault) →
    words_fault h q ≡ None → a ≡ h → b ≡ q → dense_fault table ≡ None → held ≡ dense_holding table →
    Promise held.count held.table (word_vectors a b) query before after result →
    MatchResult result
    (λ _. (answer_call_fault h q table query before ≡ None) × (after ≡ answered (word_vectors h q) (at table) query before))
    (λ e. (answer_call_fault h q table query before ≡ Some e) × (after ≡ before))
answers h q a b held table query before after result words letters alphabet dense holds given =
    let of_words : Promise held.count held.table (word_vectors h q) query before after result = rw (← letters, ← alphabet) given in
    let of_row : Promise (length table) (at table) (word_vectors h q) query before after result =
    subst (λ x. Promise x.count x.table (word_vectors h q) query before after result) holds of_words in
    MatchResult-weaker result of_row
    (λ u is. (goes_on _ _ _ words (goes_on _ _ _ dense is.0), is.1))
    (λ e is. (goes_on _ _ _ words (goes_on _ _ _ dense is.0), is.1))
