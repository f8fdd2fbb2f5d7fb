use Rattle.std.proofs.Common.{ap₂}
use Rattle.words.specs.Words.{word_vectors}
use Rattle.bootloader.proofs.Requests.{writes}
use Rattle.bootloader.proofs.asking.write_request.Goals as goal

pub returns : goal.returns
returns c =
    let (none, letters, alphabet, taken, one) = c.in_ok-family.ensures in
    let wrote = c.write_queries.ensures in
    writes _ _ _ _ _ _ _ _ _ _ _ _ (ap₂ word_vectors letters alphabet) one taken wrote.first wrote.second wrote.shift none
