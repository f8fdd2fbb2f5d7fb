-- Faults: the number and the word of each cause, what it names, and the layer it belongs to.
use Rattle.std.specs.Prelude.{ℕ, List, [], ◌∷◌, codes}
use Rattle.faults.specs.declared.Cause.{Cause}
use Rattle.faults.specs.declared.Cause.TheVariants.{Length, Digit, Size, Counts, Unmatched, Position, Spent, AtOdds, Full}
use Rattle.faults.specs.declared.Fault.{Fault}
use Rattle.faults.specs.declared.Layer.{Layer}
use Rattle.faults.specs.declared.Layer.TheVariants.{Element, Family, Host, Session}

-- the number under which documents and programs know a cause
abbrev pub number_of : Cause → ℕ
number_of (Length found) = 1
number_of (Digit place) = 2
number_of (Size found) = 3
number_of (Counts second) = 4
number_of (Unmatched i j) = 5
number_of (Position found) = 6
number_of (Spent left) = 7
number_of (AtOdds position) = 8
number_of (Full held) = 9

-- the word that goes with the number
abbrev pub word_of : Cause → List ℕ
word_of (Length found) = codes "length"
word_of (Digit place) = codes "digit"
word_of (Size found) = codes "size"
word_of (Counts second) = codes "counts"
word_of (Unmatched i j) = codes "unmatched"
word_of (Position found) = codes "position"
word_of (Spent left) = codes "spent"
word_of (AtOdds position) = codes "at odds"
word_of (Full held) = codes "full"

-- what a cause names
abbrev pub named : Cause → List ℕ
named (Length found) = found ∷ []
named (Digit place) = place ∷ []
named (Size found) = found ∷ []
named (Counts second) = second ∷ []
named (Unmatched i j) = i ∷ j ∷ []
named (Position found) = found ∷ []
named (Spent left) = left ∷ []
named (AtOdds position) = position ∷ []
named (Full held) = held ∷ []

-- Faults by cause, with the layer that each speaks for. Lengths and digits are the element's wherever they arise; a size
-- or a position is that of the part called.
abbrev pub length_fault : ℕ → Fault
length_fault found = record { layer = Element; cause = Length found }

abbrev pub digit_fault : ℕ → Fault
digit_fault place = record { layer = Element; cause = Digit place }

abbrev pub size_fault : Layer → ℕ → Fault
size_fault part found = record { layer = part; cause = Size found }

abbrev pub counts_fault : ℕ → Fault
counts_fault second = record { layer = Family; cause = Counts second }

abbrev pub unmatched_fault : ℕ → ℕ → Fault
unmatched_fault i j = record { layer = Family; cause = Unmatched i j }

abbrev pub position_fault : Layer → ℕ → Fault
position_fault part found = record { layer = part; cause = Position found }

abbrev pub spent_fault : ℕ → Fault
spent_fault left = record { layer = Session; cause = Spent left }

abbrev pub at_odds_fault : ℕ → Fault
at_odds_fault position = record { layer = Session; cause = AtOdds position }

abbrev pub full_fault : Fault
full_fault = record { layer = Host; cause = Full 64 }
