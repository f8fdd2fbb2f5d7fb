use Rattle.std.proofs.Common.{◌≡◌, Some, None, Option, length, take, ap, ap₂, ◌∙◌, rules}
use Rattle.faults.specs.declared.Fault.{Fault}
use Rattle.faults.specs.declared.Layer.TheVariants.{Session as SessionLayer}
use Rattle.digits.specs.Refusals.{or_else, long_fault, below_fault, digits_fault}
use Rattle.digits.proofs.Passing.{goes_on, none_or_else, stops}
use Rattle.scheme.specs.Sessions.{tape_fault}
use Rattle.words.specs.Words.{word_dim, word_vectors}
use Rattle.bootloader.specs.Calls.{asked_fault}
use Rattle.bootloader.proofs.Refusing.{handed_on, request_rows}
use Rattle.bootloader.proofs.asking.check_request.Goals as goal
use Rattle.bootloader.proofs.asking.check_request.Goals.{After-count}

-- the family and the rows pass, so the position and the tape decide
rows : (c : After-count) (o : Option Fault) →
    or_else (below_fault SessionLayer c.count.result c.args.position)
    (or_else (tape_fault c.dimension-k.result (length c.args.tape.now)) (digits_fault c.args.tape.now)) ≡ o →
    asked_fault c.args.h c.args.q c.args.position c.args.tape.now c.args.first.now c.args.second.now c.args.shift.now ≡ o
rows c o last =
    let family = c.in_ok-family.ensures in
    request_rows c.args.h c.args.q _ _ _ _ c.args.tape.now _ _ _ o (ap₂ word_vectors family.letters family.alphabet) c.dimension-k.ensures
    c.count.ensures family.cases c.in_ok-check_length.ensures.cases c.in_ok-check_length-2.ensures.cases c.in_ok-check_length-3.ensures.cases last

pub returns-in_err-check_below : goal.returns-in_err-check_below
returns-in_err-check_below c =
    let passes : long_fault (word_dim c.args.h c.args.q) c.args.first.now ≡ None = search rules in
    handed_on _ _ _ _ c.from_residual-in_err-check_below.ensures.1
    (rows (goal.at.returns-in_err-check_below c).After-count _ (stops _ _ _ c.in_err-check_below.ensures.cases))

pub returns-in_err-digits : goal.returns-in_err-digits
returns-in_err-digits c =
    let spent : tape_fault c.dimension-k.result (length c.args.tape.now) ≡ Some c.in_err-digits.field-0.0 = search rules in
    handed_on _ _ _ _ c.from_residual-in_err-digits.ensures.1
    (rows (goal.at.returns-in_err-digits c).After-count _ (goes_on _ _ _ c.in_ok-check_below.ensures.cases (stops _ _ _ spent)))

pub returns-in_err-check_digits : goal.returns-in_err-check_digits
returns-in_err-check_digits c =
    let room : tape_fault c.dimension-k.result (length c.args.tape.now) ≡ None = search rules in
    handed_on _ _ _ _ c.from_residual-in_err-check_digits.ensures.1
    (rows (goal.at.returns-in_err-check_digits c).After-count _
    (goes_on _ _ _ c.in_ok-check_below.ensures.cases (goes_on _ _ _ room c.in_err-check_digits.ensures.cases)))

pub returns : goal.returns
returns c =
    let family = c.in_ok-family.ensures in
    let room : tape_fault c.dimension-k.result (length c.args.tape.now) ≡ None = search rules in
    let digits : c.in_ok-digits.digits.now ≡ take c.dimension-k.result c.args.tape.now = search rules in (
      rows (goal.at.returns c).After-count _
          (none_or_else _ _ c.in_ok-check_below.ensures.cases (none_or_else _ _ room c.in_ok-check_digits.ensures.cases)),
      family.letters,
      family.alphabet,
      digits ∙ ap (λ n. take n c.args.tape.now) (c.dimension-k.ensures ∙ ap (λ f. f.dim) (ap₂ word_vectors family.letters family.alphabet)),
      c.in_ok-check_length-3.ensures.fits,
    )
