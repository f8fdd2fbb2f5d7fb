-- What reading a book gives.
use Rattle.std.specs.Prelude.{◌≡◌, ℕ, true, is_ok, Some, None, MatchResult, Result}
use Rattle.std.specs.Result.{result_err}
use Rattle.std.specs.declared.vec.Vec.{Vec}
use Rattle.std.specs.declared.alloc.Global.{Global}
use Rattle.faults.specs.declared.Fault.{Fault}
use Rattle.faults.specs.Faults.{unmatched_fault}
use Rattle.family.specs.Vectors.{Matches}
use Rattle.books.specs.declared.book.Book.{Book}
use Rattle.books.specs.BookVectors.{book_vectors}
use Rattle.books.specs.Books.{book_fault}
use Rattle.books.specs.Ordered.{InOrder}
use Rattle.books.specs.Pairs.{FirstUnmatched}

-- A book is accepted exactly where its layout is in order and its vectors are a matching family. One whose layout is in
-- order is refused, if it is, with the first pair that breaks the matching rule.
pub record Reads (bytes : Vec ℕ Global) (result : Result Book Fault) : Type 0 where
  pub cases : MatchResult result (λ b. (b.bytes ≡ bytes) × (book_fault bytes.items ≡ None)) (λ e. book_fault bytes.items ≡ Some e)
  pub sound : is_ok result ≡ true → InOrder bytes.items × Matches (book_vectors bytes.items)
  pub complete : InOrder bytes.items → Matches (book_vectors bytes.items) → is_ok result ≡ true
  pub unmatched : InOrder bytes.items → (i j : ℕ) → result_err result ≡ Some (unmatched_fault i j) → FirstUnmatched (book_vectors bytes.items) i j
