use Rattle.std.proofs.Common.{◌≡◌, None, Option, sym, ap, ap₂, rules}
use Rattle.faults.specs.declared.Fault.{Fault}
use Rattle.faults.specs.declared.Layer.TheVariants.{Session as SessionLayer}
use Rattle.digits.specs.Refusals.{or_else, below_fault, digits_fault}
use Rattle.digits.proofs.Passing.{goes_on, none_or_else, stops}
use Rattle.words.specs.Words.{word_vectors}
use Rattle.bootloader.specs.Calls.{recover_call_fault}
use Rattle.bootloader.proofs.Refusing.{handed_on, recovery_rows}
use Rattle.bootloader.proofs.recovering.check_recovery.Goals as goal
use Rattle.bootloader.proofs.recovering.check_recovery.Goals.{After-count}

-- the family and the rows pass, so the position and the shift decide
rows : (c : After-count) (o : Option Fault) → or_else (below_fault SessionLayer c.count.result c.args.position) (digits_fault c.args.shift.now) ≡ o →
    recover_call_fault c.args.h c.args.q c.args.position c.args.shift.now c.args.one.now c.args.two.now c.args.entry.now ≡ o
rows c o last =
    let family = c.in_ok-family.ensures in
    recovery_rows c.args.h c.args.q _ _ _ _ _ _ _ _ o (ap₂ word_vectors family.letters family.alphabet) c.sheet_size-size.ensures c.count.ensures
    family.cases c.in_ok-check_length.ensures.cases c.in_ok-check_length-2.ensures.cases c.in_ok-check_length-3.ensures.cases
    c.in_ok-check_length-4.ensures.cases last

pub returns-in_err-check_below : goal.returns-in_err-check_below
returns-in_err-check_below c =
    handed_on _ _ _ _ c.from_residual-in_err-check_below.ensures.1
    (rows (goal.at.returns-in_err-check_below c).After-count _ (stops _ _ _ c.in_err-check_below.ensures.cases))

pub returns-in_err-check_digits : goal.returns-in_err-check_digits
returns-in_err-check_digits c =
    let below : below_fault SessionLayer (word_vectors c.args.h c.args.q).count c.args.position ≡ None = search rules in
    let family = c.in_ok-family.ensures in
    let same = ap₂ word_vectors family.letters family.alphabet in
    handed_on _ _ _ _ c.from_residual-in_err-check_digits.ensures.1
    (recovery_rows c.args.h c.args.q _ _ _ _ _ _ _ _ _ same c.sheet_size-size.ensures (sym (ap (λ f. f.count) same)) family.cases
    c.in_ok-check_length.ensures.cases c.in_ok-check_length-2.ensures.cases c.in_ok-check_length-3.ensures.cases
    c.in_ok-check_length-4.ensures.cases (goes_on _ _ _ below c.in_err-check_digits.ensures.cases))

pub returns : goal.returns
returns c =
    let family = c.in_ok-family.ensures in (
      rows (goal.at.returns c).After-count _ (none_or_else _ _ c.in_ok-check_below.ensures.cases c.in_ok-check_digits.ensures.cases),
      family.letters,
      family.alphabet,
      c.in_ok-check_length.ensures.fits,
      c.in_ok-check_length-4.ensures.fits,
    )
