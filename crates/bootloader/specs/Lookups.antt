-- Lookups: what a whole lookup by the calls from C refuses, with two hosts of one table.
use Rattle.std.specs.Prelude.{ℕ, List, length, Option}
use Rattle.faults.specs.declared.Fault.{Fault}
use Rattle.faults.specs.declared.Layer.TheVariants.{Host as HostLayer}
use Rattle.digits.specs.Refusals.{or_else, equal_fault, long_fault}
use Rattle.scheme.specs.Answers.{sheet_size}
use Rattle.host.specs.Dense.{dense_fault}
use Rattle.words.specs.Words.{word_dim, word_vectors}
use Rattle.bootloader.specs.Calls.{asked_fault}

-- what the first host refuses: the table, its count, the length of the first sheet
abbrev pub first_host_fault : ℕ → ℕ → List ℕ → List ℕ → Option Fault
first_host_fault h q table one =
    or_else (dense_fault table)
    (or_else (equal_fault HostLayer (length table) (word_vectors h q).count) (long_fault (sheet_size (word_dim h q)) one))

-- What the request refuses, then the first host; then the second, of which the sheet's length alone is open, and last the recovery, of
-- which the length of the row for the entry is. The sheets never are at odds.
abbrev pub lookup_fault : ℕ → ℕ → ℕ → List ℕ → List ℕ → List ℕ → List ℕ → List ℕ → List ℕ → List ℕ → List ℕ → Option Fault
lookup_fault h q t table tape first second turn one two entry =
    or_else (asked_fault h q t tape first second turn)
    (or_else (first_host_fault h q table one) (or_else (long_fault (sheet_size (word_dim h q)) two) (long_fault 1 entry)))
