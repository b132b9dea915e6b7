-- Where the tokens spell a program, reading stops for want of memory alone.
use Rattle.std.proofs.Common.{◌≡◌, ℕ, ◌-◌, Bool, List, length, Err, refl, sym, subst, ◌∙◌, arith}
use Rattle.std.proofs.lemmas.List.{length-map}
use Rattle.oc_tree.specs.Tree.{TProgram}
use Rattle.oc_lex.specs.declared.token.Token.{Token}
use Rattle.oc_grammar.specs.Limits.{operators_depth, brackets_depth, blocks_depth, the_depths}
use Rattle.oc_grammar.specs.Lexemes.{Lexemes, lexemes_in}
use Rattle.oc_grammar.specs.Reading.{syntax_fault, depth_fault}
use Rattle.oc_grammar.specs.Programs.{SpellsProgram}
use Rattle.oc_grammar.specs.ReadingPrograms.{program_at}
use Rattle.oc_grammar.specs.Depths.{IsDepth, IsSyntax}
use Rattle.oc_grammar.proofs.FaultLaws.{syntax_there, depth_there}
use Rattle.oc_grammar.proofs.FrontLaws.{done}
use Rattle.oc_grammar.proofs.ProgramLaws.{program_read}
use Rattle.oc_parse.specs.declared.stop.Stop.{Stop}
use Rattle.oc_parse.specs.declared.stop.Stop.TheVariants as stops
use Rattle.oc_parse.specs.Steps.{Stopped}

pub only_memory : (ts : Lexemes) (p : TProgram) (s : Stop) → Stopped s (program_at the_depths ts) → SpellsProgram the_depths p ts → s ≡ stops.Memory
only_memory ts p stops.Memory h d = refl
only_memory ts p (stops.Syntax n) h d = let k : done p ≡ Err (syntax_fault n) = sym (program_read the_depths ts p d) ∙ h in absurd cc
only_memory ts p (stops.Blocks n) h d = let k : done p ≡ Err (depth_fault blocks_depth n) = sym (program_read the_depths ts p d) ∙ h in absurd cc
only_memory ts p (stops.Brackets n) h d = let k : done p ≡ Err (depth_fault brackets_depth n) = sym (program_read the_depths ts p d) ∙ h in absurd cc
only_memory ts p (stops.Operators n) h d = let k : done p ≡ Err (depth_fault operators_depth n) = sym (program_read the_depths ts p d) ∙ h in absurd cc

-- ---- the place of a fault

lexemes_count : (atomic : Bool) (source : List ℕ) (tokens : List Token) → length (lexemes_in atomic source tokens) ≡ length tokens
lexemes_count atomic source tokens = length-map tokens _

placed : (P : ℕ → Type 0) (atomic : Bool) (source : List ℕ) (tokens : List Token) (left token : ℕ)
    → token ≡ length tokens - left → P (length (lexemes_in atomic source tokens) - left) → P token
placed P atomic source tokens left token e h =
    let k = lexemes_count atomic source tokens in
    let i : length (lexemes_in atomic source tokens) - left ≡ token = omega arith in
    subst P i h

pub syntax_is : (atomic : Bool) (source : List ℕ) (tokens : List Token) (s : Stop) (left token : ℕ) → Stopped s (program_at the_depths (lexemes_in atomic source tokens))
    → s ≡ stops.Syntax left → token ≡ length tokens - left → IsSyntax (lexemes_in atomic source tokens) token
syntax_is atomic source tokens s left token h e k =
    placed (IsSyntax (lexemes_in atomic source tokens)) atomic source tokens left token k
    (syntax_there (lexemes_in atomic source tokens) left (subst (λ (z : Stop). Stopped z (program_at the_depths (lexemes_in atomic source tokens))) e h))

pub blocks_are : (atomic : Bool) (source : List ℕ) (tokens : List Token) (s : Stop) (left token : ℕ) → Stopped s (program_at the_depths (lexemes_in atomic source tokens))
    → s ≡ stops.Blocks left → token ≡ length tokens - left → IsDepth (lexemes_in atomic source tokens) token
blocks_are atomic source tokens s left token h e k =
    placed (IsDepth (lexemes_in atomic source tokens)) atomic source tokens left token k
    (depth_there (lexemes_in atomic source tokens) blocks_depth left (subst (λ (z : Stop). Stopped z (program_at the_depths (lexemes_in atomic source tokens))) e h))

pub brackets_are : (atomic : Bool) (source : List ℕ) (tokens : List Token) (s : Stop) (left token : ℕ) → Stopped s (program_at the_depths (lexemes_in atomic source tokens))
    → s ≡ stops.Brackets left → token ≡ length tokens - left → IsDepth (lexemes_in atomic source tokens) token
brackets_are atomic source tokens s left token h e k =
    placed (IsDepth (lexemes_in atomic source tokens)) atomic source tokens left token k
    (depth_there (lexemes_in atomic source tokens) brackets_depth left (subst (λ (z : Stop). Stopped z (program_at the_depths (lexemes_in atomic source tokens))) e h))

pub operators_are : (atomic : Bool) (source : List ℕ) (tokens : List Token) (s : Stop) (left token : ℕ) → Stopped s (program_at the_depths (lexemes_in atomic source tokens))
    → s ≡ stops.Operators left → token ≡ length tokens - left → IsDepth (lexemes_in atomic source tokens) token
operators_are atomic source tokens s left token h e k =
    placed (IsDepth (lexemes_in atomic source tokens)) atomic source tokens left token k
    (depth_there (lexemes_in atomic source tokens) operators_depth left (subst (λ (z : Stop). Stopped z (program_at the_depths (lexemes_in atomic source tokens))) e h))
