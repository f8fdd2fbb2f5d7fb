-- What the derived equality of elements compares: their six digits.
use Rattle.std.proofs.Common.{◌≡◌, ◌&&◌, List, length, ℕ, nat_eq, sym, ap, ap₂, ◌∙◌}
use Rattle.std.proofs.Math.Bool.{and-true}
use Rattle.std.specs.Cmp.Lexicographic.{pointwise}
use Rattle.digits.specs.contracts.element.ElementPartialEq.TheImpl as derived
use Rattle.digits.specs.declared.element.Element.{Element}
use Rattle.digits.specs.Elements.{same_element}
use Rattle.digits.specs.Rows.{at}
use Rattle.digits.proofs.RowLaws.{six_of}

same_six : (e f : List ℕ) → length e ≡ 6 → length f ≡ 6 → pointwise nat_eq e f ≡ same_element e f
same_six e f he hf =
    sym (ap₂ (pointwise nat_eq) (six_of e he) (six_of f hf))
    ∙ ap (λ last. nat_eq (at e 0) (at f 0) && (nat_eq (at e 1) (at f 1) && (nat_eq (at e 2) (at f 2) && (nat_eq (at e 3) (at f 3) && (nat_eq (at e 4) (at f 4) && last)))))
    (and-true (nat_eq (at e 5) (at f 5)))

pub derived_eq : (e f : Element) → (derived.ghosts).eq e f ≡ same_element e.digits f.digits
derived_eq e f = same_six e.digits f.digits e.six f.six
