-- An inquiry whose numbers stand as bytes is answered like itself.
use Rattle.std.proofs.Common.{◌≡◌, ℕ, List, Some, None, Option, option_map, refl, ap, ◌∙◌, min}
use Rattle.std.proofs.lemmas.List.{length-map}
use Rattle.faults.specs.declared.Fault.{Fault}
use Rattle.digits.specs.Refusals.{or_else, digits_fault}
use Rattle.rounds.specs.Rounds.{Round}
use Rattle.inquiry.specs.Grammar.{Said}
use Rattle.inquiry.specs.Inquiries.{in_bytes}
use Rattle.inquiry.specs.Replies.{round_of, inquiry_fault, answer_text, reply_by}
use Rattle.inquiry.proofs.Saturating.{digits_same, row_same}

-- the answer of a program that tells a round in its own way
abbrev answer : (Round → List ℕ) → Said → List ℕ
answer tell p = answer_text (inquiry_fault p) (tell (round_of p))

-- where the table's digits, or the tape's, are refused, what the checks behind them find is not told, and neither is the round
table_refused : (words count : Option Fault) (f : Fault) (tail more : Option Fault) (x y : List ℕ) →
    answer_text (or_else words (or_else (or_else count (Some f)) tail)) x
    ≡ answer_text (or_else words (or_else (or_else count (Some f)) more)) y
table_refused None None f tail more x y = refl
table_refused None (Some g) f tail more x y = refl
table_refused (Some g) count f tail more x y = refl

tape_refused : (words table : Option Fault) (f : Fault) (x y : List ℕ) →
    answer_text (or_else words (or_else table (Some f))) x ≡ answer_text (or_else words (or_else table (Some f))) y
tape_refused None None f x y = refl
tape_refused None (Some g) f x y = refl
tape_refused (Some g) table f x y = refl

by_faults : (tell : Round → List ℕ) (p : Said) (table tape : Option Fault) → digits_fault p.table ≡ table → digits_fault p.tape ≡ tape →
    answer tell (in_bytes p) ≡ answer tell p
unfolding inquiry_fault
by_faults tell p (Some f) tape e g =
    rw (digits_same p.table, length-map p.table (λ n. min n 255), e) (table_refused _ _ f _ _ _ _)
by_faults tell p None (Some f) e g = rw (row_same p.table e, digits_same p.tape, g) (tape_refused _ _ f _ _)
by_faults tell p None None e g = rw (row_same p.table e, row_same p.tape g)

-- what is read with its numbers as bytes is replied to like what the input says
pub replied_alike : (tell : Round → List ℕ) (p : Said) (o : Option Said) → Some p ≡ option_map in_bytes o →
    reply_by tell (Some p) ≡ reply_by tell o
replied_alike tell p None e = cc
replied_alike tell p (Some q) e = let same : p ≡ in_bytes q = cc in ap (answer tell) same ∙ by_faults tell q _ _ refl refl
