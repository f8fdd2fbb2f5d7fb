-- Turns: a request as a run has it, told by the rows that it is handed, and what it shows once it is taken.
use Rattle.std.specs.Prelude.{ℕ, List, length}
use Rattle.family.specs.Vectors.{Vectors}
use Rattle.scheme.specs.Queries.{second_query}
use Rattle.scheme.specs.Runs.{Call, request, Event, asked}
use Rattle.scheme.specs.Sessions.{Session, next_digits}

abbrev pub asking : Vectors → ℕ → List ℕ → List ℕ → Call
asking f t first second = request f t (length first) (length second)

abbrev pub queries_shown : Session → Vectors → ℕ → Event
queries_shown s f t = asked (next_digits s) (second_query f t (next_digits s))
