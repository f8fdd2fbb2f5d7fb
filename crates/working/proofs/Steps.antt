-- Recovery's steps, one after the other, are what is reckoned from two sheets.
use Rattle.std.proofs.Common.{◌≡◌, ℕ, List, refl}
use Rattle.digits.specs.Elements.{turned}
use Rattle.family.specs.Vectors.{Vectors}
use Rattle.scheme.specs.Recovery.{value, slope, weighed, sheets_weighed}
use Rattle.working.specs.Workings.{reckoned_from}

pub in_steps : (f : Vectors) (t s n : ℕ) (one two y1 y2 y3 y4 w x : List ℕ) → y1 ≡ value one → y2 ≡ slope f t one → y3 ≡ value two → y4 ≡ slope f t two →
    w ≡ weighed y1 y2 y3 y4 → x ≡ turned n w → n ≡ s → record { y1 = y1; y2 = y2; y3 = y3; y4 = y4; w = w; x = x } ≡ reckoned_from f t s one two
unfolding sheets_weighed
in_steps f t s n one two y1 y2 y3 y4 w x is1 is2 is3 is4 isw isx isn = rw (isx, isn, isw, is1, is2, is3, is4) refl
