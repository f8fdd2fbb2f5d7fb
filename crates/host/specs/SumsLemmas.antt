-- The sum of two tables of one count, each held well, is held well.
use Rattle.std.specs.Prelude.{◌≡◌}
use Rattle.std.proofs.Common.{arith}
use Rattle.host.specs.Holdings.{Holding, WellHeld}
use Rattle.host.specs.Sums.{sum_holding}

pub sum_held : (one two : Holding) → one.count ≡ two.count → WellHeld one → WellHeld two → WellHeld (sum_holding one two)
sum_held one two equal first second = record {
  some = first.some;
  few = first.few;
  digits = λ i. omega arith;
  past = λ i h. omega (arith, first.past i h, second.past i (omega arith));
}
