-- Which statements `atomic` begins.
use Rattle.std.specs.Prelude.{ℕ, Bool, true, false, List, [], ◌∷◌, map, filter, flat_map}
use Rattle.std.specs.List.{zip}
use Rattle.oc_tree.specs.Tree.{TKind, if_else, TProgram}
use Rattle.oc_tree.specs.Expansion.{expansion}
use Rattle.oc_tree.specs.Places.{Placed, program_placed}
use Rattle.oc_lex.specs.declared.token.Word.TheVariants as words
use Rattle.oc_grammar.specs.Lexemes.{Lexeme, Lexemes, keyword}

-- a statement has the tree of an `if`
abbrev pub is_if : TKind → Bool
is_if (if_else c a b) = true
is_if _ = false

-- the numbers of those statements that have the tree of an `if`
abbrev pub ifs_of : List Placed → List ℕ
ifs_of ps = map (λ a. a.id) (filter (λ a. is_if a.kind) ps)

-- of a token that begins an `if` or an `atomic`: whether it is `atomic`
abbrev pub begins_if : Lexeme → List Bool
begins_if (keyword line words.If) = false ∷ []
begins_if (keyword line words.Atomic) = true ∷ []
begins_if _ = []

-- of a list of numbers those at whose places `true` stands
abbrev pub picked : List Bool → List ℕ → List ℕ
picked bs ns = map (λ p. p.1) (filter (λ p. p.0) (zip bs ns))

-- The first `if` or `atomic` of the tokens begins the first statement with the tree of an `if`, the
-- second the second one, and so on. The numbers are those of the expansion.
abbrev pub atomics : TProgram → Lexemes → List ℕ
atomics p tokens = picked (flat_map begins_if tokens) (ifs_of (program_placed (expansion p)))
