-- Which product goes with which number of agreements: one computed test over all of them.
use Rattle.std.specs.Prelude.{◌≡◌, ℕ, ◌+◌, ◌<◌, ◌≤◌, Bool, true, refl}
use Rattle.std.proofs.Common.{arith}
use Rattle.family.specs.Vectors.{Apart, allowed, Allowed}
use Rattle.family.proofs.Allowing.{allowed_from}
use Rattle.words.specs.Agreement.{binomial, by_agreement}
use Rattle.words.specs.EachBelow.{each_below, from_each}

abbrev fits : ℕ → ℕ → Bool
fits h m = allowed m h (by_agreement h m)

all_fit : each_below (λ h. each_below (fits h) (h + 1)) 6 ≡ true
unfolding binomial
all_fit = refl

-- words of h letters that agree at m places are allowed their product, as if h and m were their positions
allowed_agreement : (h m : ℕ) → h ≤ 5 → m ≤ h → Allowed m h (by_agreement h m)
allowed_agreement h m short l =
    allowed_from m h (by_agreement h m)
    (from_each (fits h) (h + 1) (from_each (λ h. each_below (fits h) (h + 1)) 6 all_fit h (omega arith)) m (omega arith))

pub agree_wholly : (h : ℕ) → h ≤ 5 → by_agreement h h ≡ 0
agree_wholly h short = (allowed_agreement h h short (omega arith)).0 refl

pub agree_partly : (h m : ℕ) → h ≤ 5 → m < h → Apart (by_agreement h m)
agree_partly h m short l = (allowed_agreement h m short (omega arith)).1 (omega arith)
