-- The table of the first changes of a list, which gains an entry by the next.
use Rattle.std.proofs.Common.{◌≡◌, ℕ, ◌<◌, ◌+◌, List, length, get_or, take, None, sym, ap, ◌∙◌, arith}
use Rattle.std.proofs.lemmas.Bool.Decides.{nat_tests}
use Rattle.std.proofs.lemmas.List.{get_or-take, length-take, take_more}
use Rattle.std.proofs.lemmas.List.Elements.{All-take}
use Rattle.host.specs.declared.change.Change.{Change}
use Rattle.host.specs.Changes.{digit_told, told_after, table_of, Distinct, Small}
use Rattle.host.specs.ChangesLemmas.{small_entry}
use Rattle.host.proofs.Told.{told_none, told_push, apart_at}
use Rattle.host.proofs.Adding.{OneMore}

-- the table of the first j changes of a list
abbrev pub first_changes : List Change → ℕ → ℕ → ℕ
first_changes xs j = table_of (digit_told (take j xs))

module _ (xs : List Change) (apart : Distinct xs) (j : ℕ) (blank : Change) (l : j < length xs) where
  abbrev next : Change
  next = get_or xs j blank

  -- no change before the next has its position
  free : digit_told (take j xs) next.position ≡ None
  free =
      told_none (take j xs) next.position
      (λ k d h e.
      let before : k < j = omega (arith, length-take j xs) in
      let same = ap (λ (c : Change). c.position) (get_or-take j xs k d before) in
      apart_at xs apart k j d blank before l (sym same ∙ e))

  told_more : (q : ℕ) → digit_told (take (j + 1) xs) q ≡ told_after (digit_told (take j xs)) next.position next.digit q
  told_more q = rw (take_more xs j blank l) (told_push (take j xs) next.position next.digit free q)

  pub one_change : (n : ℕ) → Small xs → OneMore n (first_changes xs j) (first_changes xs (j + 1)) next.position next.digit
  one_change n small = record {
    free = grind (arith, nat_tests, free);
    entry = grind (arith, nat_tests, told_more next.position);
    digits = λ k h. small_entry (take (j + 1) xs) k (All-take (λ c. c.digit < 6) (j + 1) xs small);
    others = λ k h other. grind (arith, nat_tests, told_more k);
  }
