use Rattle.std.proofs.Common.{◌≡◌, refl, ap₂, ◌∙◌}
use Rattle.words.specs.Words.{word_vectors}
use Rattle.bootloader.specs.Calls.{call_outcome}
use Rattle.bootloader.proofs.Refusing.{handed_on, recovery_reads, entry_written}
use Rattle.bootloader.proofs.recovering.write_entry.Goals as goal
use Rattle.bootloader.proofs.recovering.write_entry.Goals.{After-read_sheets}

-- the sheets come to what the call is to give
reads : (c : After-read_sheets) →
    call_outcome c.args.h c.args.q c.args.position c.args.shift.now c.args.one.now c.args.two.now c.args.entry.now ≡ c.read_sheets.result
reads c =
    let (none, letters, alphabet, shift_one, entry_one) = c.in_ok-family.ensures in
    recovery_reads c.args.h c.args.q _ _ c.args.shift.now _ _ c.args.entry.now _ (ap₂ word_vectors letters alphabet) none c.read_sheets.ensures

pub returns-in_err-entry : goal.returns-in_err-entry
returns-in_err-entry c =
    handed_on _ _ _ _ c.from_residual-in_err-entry.ensures.1
    (reads (goal.at.returns-in_err-entry c).After-read_sheets ∙ c.in_err-entry.was, refl)

pub returns : goal.returns
returns c =
    let (none, letters, alphabet, shift_one, entry_one) = c.in_ok-family.ensures in
    entry_written _ _ _ (reads (goal.at.returns c).After-read_sheets ∙ c.in_ok-entry.was) entry_one
