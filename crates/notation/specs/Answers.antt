-- Refusals as text, and the answers of the benches.
use Rattle.std.specs.Prelude.{ℕ, List, ◌++◌, codes, Option, Some, None, Result, Ok, Err, String, string_bytes}
use Rattle.faults.specs.declared.Fault.{Fault}
use Rattle.faults.specs.Text.{fault_text}
use Rattle.notation.specs.declared.unanswered.Unanswered.{Unanswered}
use Rattle.notation.specs.declared.unanswered.Unanswered.TheVariants.{Memory, Refused, Unclear}

-- a refusal: that it is one, and the fault
abbrev pub refused_text : Fault → List ℕ
refused_text fault = codes "refused " ++ fault_text fault

-- what is answered: what was found, the refusal, or what is unclear; without memory there is no answer
abbrev pub line_answer : {A : Type 0} → Result (String A) Unanswered → Option (List ℕ)
line_answer (Ok text) = Some (string_bytes text)
line_answer (Err (Memory error)) = None
line_answer (Err (Refused fault)) = Some (refused_text fault)
line_answer (Err (Unclear why)) = Some why.now
