-- The front of the array is a listing: each position stands there once, and is told.
use Rattle.std.proofs.Common.{arith}
use Rattle.std.proofs.lemmas.List.{length-take}
use Rattle.host.specs.ChangeHosts.{changes_held}
use Rattle.host.proofs.Told.{told_listed, listed_told}
use Rattle.host.proofs.change_host.ChangeHost.changes.Goals as goal

pub returns : goal.returns
returns c =
    let h = c.args.self.now in
    record {
      order_left_open = record {
        number = omega (arith, length-take h.held h.changes);
        once = h.apart;
        each = λ p d. (told_listed (changes_held h) h.apart p d, listed_told (changes_held h) p d);
        below = h.below;
        small = h.small;
      };
    }
