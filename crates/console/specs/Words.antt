-- The words of a line.
use Rattle.std.specs.Prelude.{ℕ, Bool, true, false, cond, ◌||◌, List, [], ◌∷◌, ◌==◌}
use Rattle.console.specs.declared.words.Words.{Words}

-- the space, the tab and the carriage return
abbrev pub blank : ℕ → Bool
blank c = c == 32 || (c == 9 || c == 13)

-- the bytes before the first blank
abbrev pub to_blank : List ℕ → List ℕ
to_blank [] = []
to_blank (c ∷ cs) = cond (blank c) [] (c ∷ to_blank cs)

-- a word begins at each byte that is no blank and follows a blank or the line's start, and ends before the next blank.
-- Here the bytes may be the end of a line: `fresh` says that they follow a blank or are the whole line
abbrev pub words_from : Bool → List ℕ → List (List ℕ)
words_from fresh [] = []
words_from fresh (c ∷ cs) = cond (blank c) (words_from true cs) (cond fresh ((c ∷ to_blank cs) ∷ words_from false cs) (words_from false cs))

-- the words of a line, in their order
abbrev pub words : List ℕ → List (List ℕ)
words line = words_from true line

-- the words that are left of a line
abbrev pub words_left : Words → List (List ℕ)
words_left w = words w.rest.now
