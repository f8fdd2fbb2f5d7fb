use Rattle.std.proofs.Common.{◌≡◌, ℕ, ◌+◌, ◌-◌, ◌%◌, ◌++◌, List, length, take, drop, set, refl, ap, ◌∙◌}
use Rattle.std.proofs.lemmas.List.{take_rest}
use Rattle.digits.specs.Rows.{at}
use Rattle.family.specs.Spread.{spread}
use Rattle.family.specs.Vectors.{Vectors}
use Rattle.scheme.specs.Answers.{exponent}
use Rattle.host.proofs.OneEntry.{entry_added}
use Rattle.host.proofs.answering.add_entry.Goals as goal

pub returns : goal.returns
returns g c =
    let f : Vectors = g.F.Family.vectors c.args.family.now in
    let xs : List ℕ = c.args.sheet.now in
    let els : List ℕ = c.spread_by_product.new.elements in
    let e : ℕ = c.from-e.result in
    let power : e ≡ exponent f c.args.query.now c.args.i = cc in
    let spread_is : els ≡ spread (f.u c.args.i) c.args.amount e (drop 6 xs) =
    (let rest = take_rest xs 6 in cc) in
    let ys : List ℕ = take 6 xs ++ (els ++ drop (length xs - 6) (drop 6 xs)) in
    let added : c.add_at.new.row ≡ set ys e ((at ys e + c.args.amount) % 6) =
    c.add_at.ensures ∙ ap (λ a. set ys e ((at ys e + a) % 6)) c.from.ensures in
    added ∙ entry_added f c.args.i c.args.amount c.args.query.now c.requires.below xs els e c.requires.fit power spread_is ys refl
