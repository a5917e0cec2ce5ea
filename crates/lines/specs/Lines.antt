-- Lines of words.
use Rattle.std.specs.Prelude.{ℕ, List, [], ◌∷◌, ◌++◌, codes, decimal}
use Rattle.std.specs.List.{flat_map}

-- a word in a line, after the space before it
abbrev pub spaced : List ℕ → List ℕ
spaced word = 32 ∷ word

-- the first word and the others, with one space between, and the newline
abbrev pub line : List ℕ → List (List ℕ) → List ℕ
line first others = first ++ (flat_map spaced others ++ (10 ∷ []))

-- what a program prints for a refusal
abbrev pub refused_line : ℕ → ℕ → List ℕ
refused_line number place = line (codes "refused") (decimal number ∷ decimal place ∷ [])
