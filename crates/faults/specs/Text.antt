-- Faults as text.
use Rattle.std.specs.Prelude.{ℕ, List, [], ◌∷◌, ◌++◌, codes, decimal}
use Rattle.faults.specs.declared.Cause.{Cause}
use Rattle.faults.specs.declared.Fault.{Fault}
use Rattle.faults.specs.declared.Layer.{Layer}
use Rattle.faults.specs.declared.Layer.TheVariants.{Element, Family, Host, Session}
use Rattle.faults.specs.Faults.{number_of, word_of, named}

-- numbers in base ten, a space before each
abbrev pub spaced : List ℕ → List ℕ
spaced [] = []
spaced (n ∷ ns) = codes " " ++ (decimal n ++ spaced ns)

-- a cause as its number, its word and what it names, with one space between
abbrev pub cause_text : Cause → List ℕ
cause_text c = decimal (number_of c) ++ (codes " " ++ (word_of c ++ spaced (named c)))

abbrev pub layer_text : Layer → List ℕ
layer_text Element = codes "element"
layer_text Family = codes "family"
layer_text Host = codes "host"
layer_text Session = codes "session"

-- a fault as its cause and its layer, with one space between
abbrev pub fault_text : Fault → List ℕ
fault_text e = cause_text e.cause ++ (codes " " ++ layer_text e.layer)
