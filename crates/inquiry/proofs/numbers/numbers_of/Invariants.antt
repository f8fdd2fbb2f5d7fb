-- The numbers so far are those of the fields so far.
use Rattle.std.proofs.Common.{◌≡◌, List, map, take, Bor, Some, ℕ}
use Rattle.inquiry.specs.Grammar.{numbers_of}
use Rattle.inquiry.proofs.numbers.numbers_of.Given as goal

abbrev pub invariant-loop-field : goal.invariant-loop-field
invariant-loop-field l = numbers_of (map (λ (x : Bor (List ℕ)). x.now) (take l.field-index l.fields)) ≡ Some l.numbers.items
