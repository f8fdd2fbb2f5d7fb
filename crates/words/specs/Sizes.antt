-- The sizes of a family of words, as its contracts read them.
use Rattle.std.specs.Prelude.{ℕ}
use Rattle.words.specs.declared.words.Words.{Words}

-- how many letters a word has
abbrev pub letters_of : Words → ℕ
letters_of w = w.letters

-- how many letters there are to choose from
abbrev pub alphabet_of : Words → ℕ
alphabet_of w = w.alphabet
