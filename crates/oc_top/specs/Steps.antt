-- The steps before the first byte is written.
use Rattle.std.specs.Prelude.{ℕ, ◌≡◌, Bool, true, false, List, None}
use Rattle.oc_io.specs.declared.period.Period.{Period}
use Rattle.oc_sensors.specs.History.{Told}
use Rattle.oc_tree.specs.Tree.{TProgram}
use Rattle.oc_tree.specs.Broken.{broken}
use Rattle.oc_tree.specs.Marked.{TMarked}
use Rattle.oc_lex.specs.declared.lexer.LexError.{LexError}
use Rattle.oc_lex.specs.declared.lexer.LexError.TheVariants as lex_error
use Rattle.oc_grammar.specs.Lexemes.{Lexemes}
use Rattle.oc_parse.specs.declared.program.ParseError.{ParseError}
use Rattle.oc_parse.specs.declared.program.ParseError.TheVariants as parse_error
use Rattle.oc_types.specs.declared.rules.RuleError.{RuleError}
use Rattle.oc_types.specs.declared.rules.RuleError.TheVariants as rule_error
use Rattle.oc_isa.specs.Image.{Parts}
use Rattle.oc_isa.specs.Run.{IsSound}
use Rattle.oc_isa.specs.Table.{device_of}
use Rattle.oc_honest.specs.Timely.{RunsAreTimely}
use Rattle.oc_machine.specs.Kept.{Running}
use Rattle.oc_bounds.specs.Bounds.{IsBounded}
use Rattle.oc_report.specs.Ready.{IsReadyFor}
use Rattle.oc_top.specs.Meant.{program_marked, program_code, RunsAs, program_bounds}
use Rattle.oc_command.specs.Commands.{Plan}
use Rattle.oc_command.specs.Files.{Files}
use Rattle.oc_top.specs.Faults.{token_line}
use Rattle.oc_top.specs.Sources.{Reading, ReadsAs, ReadsIn, Spells, faulty, breaks, program, line_at}
use Rattle.oc_report.specs.Runs.{is_refusal, refuses}
use Rattle.oc_top.specs.Verdict.{verdict}
use Rattle.oc_command.specs.declared.answer.Answer.{Answer}
use Rattle.oc_command.specs.declared.answer.Answer.TheVariants as answer

-- the answer to a source that isn't tokens, and to tokens that spell no program
abbrev pub for_tokens : List ℕ → LexError → Answer
for_tokens source (lex_error.Byte at) = answer.Syntax (line_at source at)
for_tokens source (lex_error.Literal at) = answer.Syntax (line_at source at)
for_tokens source lex_error.Memory = answer.Memory

abbrev pub for_tree : Lexemes → ParseError → Answer
for_tree tokens (parse_error.Syntax token) = answer.Syntax (token_line tokens token)
for_tree tokens (parse_error.Depth token) = answer.Syntax (token_line tokens token)
for_tree tokens parse_error.Memory = answer.Memory

-- the answer to a program that breaks a rule
abbrev pub for_rules : RuleError → Answer
for_rules (rule_error.Rule line rule) = answer.Rule line rule
for_rules rule_error.Memory = answer.Memory

-- the program that a source spells, where it breaks no rule
pub record IsAccepted (source : List ℕ) (p : TProgram) : Type 0 where
  pub spelled : Spells source p
  pub unbroken : broken p ≡ None

-- the program that a source spells, with its policies and regions: each of its runs is timely
pub record IsMarkedOf (source : List ℕ) (m : TMarked) : Type 0 where
  pub written : TProgram
  pub reads : ReadsAs source (program written)
  pub is_marked : m ≡ program_marked written
  pub timely : RunsAreTimely m

-- the image of the program that a source spells
pub record IsBuilt (source : List ℕ) (parts : Parts) : Type 0 where
  pub written : TProgram
  pub reads : ReadsAs source (program written)
  pub is_code : parts ≡ program_code written
  pub sound : IsSound (device_of parts)
  pub runs : RunsAs parts written
  pub bounded : IsBounded (device_of parts) (program_bounds written)
  pub timely : RunsAreTimely (program_marked written)

-- why a source isn't read as a program of the grammar with `atomic`, or of the one without it, that breaks no rule
abbrev pub IsNotRead : (atomic : Bool) → List ℕ → Answer → Type 0
IsNotRead atomic source (answer.Syntax line) = ReadsIn atomic source (faulty line)
IsNotRead atomic source (answer.Rule line rule) =
    ReadsIn atomic source (breaks (record { line = line; rule = rule }))
IsNotRead atomic source answer.Memory = Unit {0}
IsNotRead atomic source end = ⊥

-- why there is no marked program of a source, and no image
abbrev pub IsNotBuilt : List ℕ → Answer → Type 0
IsNotBuilt source end = IsNotRead false source end

-- the same with the source's image
abbrev pub IsReady : Files → Plan → Running → Told → List Period → Type 0
IsReady files plan machine sensors left =
    IsReadyFor (IsBuilt files.source) files plan machine sensors left

-- the files are refused with this answer, or there was no memory
pub data IsTurnedDown (files : Files) (plan : Plan) (end : Answer) : Type 0 where
  by_memory : end ≡ answer.Memory → IsTurnedDown files plan end
  by_files : (reading : Reading) → ReadsAs files.source reading → is_refusal end ≡ true
      → verdict reading files plan ≡ refuses end → IsTurnedDown files plan end
