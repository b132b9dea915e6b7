-- Where tokens stop to be a program.
use Rattle.std.specs.Prelude.{ℕ, ◌-◌, ◌⊎◌, length, min, drop}
use Rattle.oc_grammar.specs.Lexemes.{Lexemes, front_line}
use Rattle.oc_grammar.specs.Depths.{IsSyntax, IsDepth}

-- the tokens begin no program any more with this token, or it is the first that passes a depth; it
-- is their number where the end is too early
abbrev pub HasFaultAt : Lexemes → ℕ → Type 0
HasFaultAt tokens token = IsSyntax tokens token ⊎ IsDepth tokens token

-- the line of the token at a place, or of the last one where the place is behind it; 1 where there is none
abbrev pub token_line : Lexemes → ℕ → ℕ
token_line tokens token = front_line (drop (min token (length tokens - 1)) tokens)
