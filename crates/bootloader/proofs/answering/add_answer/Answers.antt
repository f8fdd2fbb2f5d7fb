use Rattle.std.proofs.Common.{◌≡◌, Some, None, refl, rules}
use Rattle.digits.proofs.Passing.{goes_on, stops}
use Rattle.host.specs.Dense.{dense_fault}
use Rattle.words.specs.Words.{words_fault}
use Rattle.bootloader.proofs.Hosting.{answers}
use Rattle.bootloader.proofs.Refusing.{handed_on}
use Rattle.bootloader.proofs.answering.add_answer.Goals as goal

pub returns-in_err-host : goal.returns-in_err-host
returns-in_err-host c =
    let words : words_fault c.args.h c.args.q ≡ None = search rules in
    let amiss : dense_fault c.args.table.now ≡ Some c.in_err-host.field-0.0 = search rules in
    handed_on _ _ _ _ c.from_residual-in_err-host.ensures.1 (goes_on _ _ _ words (stops _ _ _ amiss), refl)

pub returns-in_err-family : goal.returns-in_err-family
returns-in_err-family c = handed_on _ _ _ _ c.from_residual.ensures.1 (stops _ _ _ c.in_err-family.ensures.cases, refl)

pub returns : goal.returns
returns c =
    let family = c.in_ok-family.ensures in
    answers _ _ _ _ _ _ _ _ _ _ family.cases family.letters family.alphabet c.in_ok-host.ensures.0 c.in_ok-host.ensures.1 c.answer.ensures
