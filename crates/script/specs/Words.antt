-- The words of a line: its longest parts without a blank, in order. Assumes nothing.
use Rattle.std.specs.Prelude.{ℕ, Bool, true, cond, List, [], ◌∷◌, ◌++◌, ◌==◌}

-- a space, a tab or a carriage return
abbrev pub blank : ℕ → Bool
blank b = cond (b == 32) true (cond (b == 9) true (b == 13))

-- a word that has a byte or more comes first
abbrev pub closed : List ℕ → List (List ℕ) → List (List ℕ)
closed [] ws = ws
closed (b ∷ w) ws = (b ∷ w) ∷ ws

-- the words, these bytes of the first having been read
unfoldable pub words_from : List ℕ → List ℕ → List (List ℕ)
words_from w [] = closed w []
words_from w (b ∷ bs) = cond (blank b) (closed w (words_from [] bs)) (words_from (w ++ b ∷ []) bs)

abbrev pub words : List ℕ → List (List ℕ)
words bs = words_from [] bs
