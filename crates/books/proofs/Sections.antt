-- What is amiss behind the first count, part by part.
use Rattle.std.proofs.Common.{◌≡◌, ℕ, ◌+◌, List, drop, None, Option, sym, ap, ap₂, ◌∙◌}
use Rattle.std.proofs.lemmas.List.{drop-drop}
use Rattle.faults.specs.declared.Fault.{Fault}
use Rattle.digits.specs.Refusals.{or_else}
use Rattle.digits.proofs.Passing.{goes_on}
use Rattle.books.specs.Layout.{section_fault, second_fault, end_fault, sections_fault}

-- behind the second count the second section decides, and then what is left; each part keeps the length of the whole
module _ (first size whole : ℕ) (rest : List ℕ) where
  pub second_section : (w₁ w₂ : ℕ) (after last : List ℕ) (o : Option Fault) →
      section_fault size whole rest ≡ None → after ≡ drop size rest → w₁ ≡ whole →
      second_fault first w₁ after ≡ None → last ≡ drop 4 after → w₂ ≡ w₁ →
      or_else (section_fault size w₂ last) (end_fault w₂ (drop size last)) ≡ o →
      sections_fault first size whole rest ≡ o
  second_section w₁ w₂ after last o one left kept two gone still h =
      let there : last ≡ drop (size + 4) rest = gone ∙ ap (drop 4) left ∙ drop-drop 4 size rest in
      let end : drop size last ≡ drop (size + 4 + size) rest = ap (drop size) there ∙ drop-drop size (size + 4) rest in
      goes_on (section_fault size whole rest) _ o one
      (goes_on (second_fault first whole (drop size rest)) _ o (ap₂ (second_fault first) (sym kept) (sym left) ∙ two)
      (ap₂ (λ w r. or_else (section_fault size w r) (end_fault w (drop (size + 4 + size) rest))) (sym kept ∙ sym still) (sym there)
      ∙ ap (λ r. or_else (section_fault size w₂ last) (end_fault w₂ r)) (sym end)
      ∙ h))
