-- Past a count both vectors are 0: nothing is added or spread there, and every product is 0.
use Rattle.digits.proofs.Sums.{product_zero}
use Rattle.family.specs.Spreads.{spread_nothing}
use Rattle.family.specs.Within.{within_past_count}
use Rattle.family.proofs.Adding.{added_nothing}
use Rattle.family.proofs.Multiples.{element_product_none}

pub ruleset past_count = (within_past_count, added_nothing, spread_nothing, product_zero, element_product_none)
