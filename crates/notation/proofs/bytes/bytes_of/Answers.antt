-- The chain gives the bytes of the pairs, which are the bytes of the word.
use Rattle.std.proofs.Common.{rules, ◌≡◌, IfOk, length, ◌/◌}
use Rattle.notation.proofs.Pairs.{pair_bytes, pairs_bytes}
use Rattle.notation.proofs.bytes.bytes_of.Goals as goal

pub returns : goal.returns
returns c =
    let word = c.args.word.now in
    let by_pairs : IfOk c.collect.result (λ v. v.items ≡ pair_bytes (length word / 2) word) = search rules in
    rw (pairs_bytes word) at by_pairs
