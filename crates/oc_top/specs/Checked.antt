-- What is said of hand-written blocks.
use Rattle.std.specs.Prelude.{ℕ, ◌≡◌, true, List, codes, Some, None, slice_get}
use Rattle.oc_tree.specs.Tree.{TProgram}
use Rattle.oc_tree.specs.Broken.{broken}
use Rattle.oc_tree.specs.declared.broken.Broken.{Broken}
use Rattle.oc_tree.specs.Checked.{TChecked}
use Rattle.oc_tree.specs.Expansion.{expansion, program_groups}
use Rattle.oc_tree.specs.declared.marked.Policy.{Policy}
use Rattle.oc_lex.specs.Tokens.{AreTokens}
use Rattle.oc_lex.specs.declared.token.Token.{Token}
use Rattle.oc_grammar.specs.Limits.{the_depths}
use Rattle.oc_grammar.specs.Lexemes.{lexemes_in}
use Rattle.oc_grammar.specs.Programs.{SpellsProgram}
use Rattle.oc_parse.specs.Atomics.{atomics}
use Rattle.oc_needs.specs.Policies.{policies}
use Rattle.oc_honest.specs.Timely.{RunsAreTimely}
use Rattle.oc_regcheck.specs.BlockMarks.{blocks_marked}
use Rattle.oc_regcheck.specs.Enough.{AreCovered, IsVerdict, TellsCovered}
use Rattle.oc_regcheck.specs.declared.verdict.BlockVerdict.{BlockVerdict}
use Rattle.oc_regcheck.specs.declared.verdict.BlockVerdict.TheVariants.{Covered, Open}
use Rattle.oc_top.specs.Sources.{ReadsIn, faulty, breaks}
use Rattle.oc_command.specs.Gaps.{gap_of}
use Rattle.oc_report.specs.Runs.{Verdict, prints, refuses}
use Rattle.oc_command.specs.declared.answer.Answer.TheVariants as answer

-- the tokens of the source spell this program in the grammar with `atomic`, which begins the statements that have these
-- numbers in the expansion
pub record SpellsBlocks (source : List ℕ) (p : TProgram) (blocks : List ℕ) : Type 0 where
  pub tokens : List Token
  pub are_tokens : AreTokens source tokens
  pub spelled : SpellsProgram the_depths p (lexemes_in true source tokens)
  pub begun : blocks ≡ atomics p (lexemes_in true source tokens)

-- a source spells a program with blocks, and the program breaks no rule
pub record AcceptsBlocks (source : List ℕ) (p : TProgram) (blocks : List ℕ) : Type 0 where
  pub spelled : SpellsBlocks source p blocks
  pub unbroken : broken p ≡ None

-- this is the verdict on blocks of a checked program, and it is `Covered` exactly where each requirement is covered by
-- one of them or its function is guarded
pub record AreJudged (p : TProgram) (blocks : List ℕ) (v : BlockVerdict) : Type 0 where
  pub verdict : IsVerdict p blocks v
  pub exact : TellsCovered p blocks v

-- what is answered and written where the blocks have this verdict
abbrev pub IsSaid : TProgram → BlockVerdict → Verdict → Type 0
IsSaid p Covered run = run ≡ prints (codes "safe\n")
IsSaid p (Open policy function first second) run =
    (q : Policy) × (slice_get (policies p) policy ≡ Some q)
    × (run ≡ refuses (answer.Uncovered (gap_of p q function first second)))

-- This is the verdict on a source. It spells no program of the grammar
-- with `atomic`, or one that breaks a rule; or its blocks are judged
pub data IsCheck (source : List ℕ) (run : Verdict) : Type 0 where
  no_program : (line : ℕ)
      → ReadsIn true source (faulty line) → run ≡ refuses (answer.Syntax line) → IsCheck source run
  broken_rule : (b : Broken) → ReadsIn true source (breaks b)
      → run ≡ refuses (answer.Rule b.line b.rule) → IsCheck source run
  judged : (p : TProgram) (blocks : List ℕ) → AcceptsBlocks source p blocks
      → (v : BlockVerdict) → AreJudged (expansion p) blocks v → IsSaid (expansion p) v run
      → IsCheck source run

-- the expansion of a program with its groups
abbrev pub checked_of : TProgram → TChecked
checked_of p = record { program = expansion p; groups = program_groups p }

-- The blocks suffice for what the annotations of a checked program require. So each run is timely with outages
-- anywhere but within an execution of a block, as is every front part of it
pub record IsEnough (c : TChecked) (blocks : List ℕ) : Type 0 where
  pub verdict : IsVerdict c.program blocks Covered
  pub covered : AreCovered c.program blocks
  pub timely : RunsAreTimely (blocks_marked c blocks)

-- the blocks of a source suffice
pub record AreEnough (source : List ℕ) : Type 0 where
  pub written : TProgram
  pub blocks : List ℕ
  pub accepted : AcceptsBlocks source written blocks
  pub enough : IsEnough (checked_of written) blocks

-- the blocks of a source suffice, and the verdict says so
pub record IsSafe (source : List ℕ) (run : Verdict) : Type 0 where
  pub enough : AreEnough source
  pub is_run : run ≡ prints (codes "safe\n")
