-- Lines of text.
use Rattle.std.specs.Prelude.{ℕ, List, [], ◌∷◌, ◌++◌, codes}

-- the further fields of a line, a space before each, and the line feed
abbrev pub further : List (List ℕ) → List ℕ
further [] = codes "\n"
further (field ∷ rest) = codes " " ++ (field ++ further rest)

-- a line: its fields with one space between them, and a line feed
abbrev pub line_of : List (List ℕ) → List ℕ
line_of [] = codes "\n"
line_of (field ∷ rest) = field ++ further rest
