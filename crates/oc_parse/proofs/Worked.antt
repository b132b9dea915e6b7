-- The depths of tokens worked out by hand.
use Rattle.std.proofs.Common.{◌≡◌, Result, Err, refl}
use Rattle.oc_tree.specs.Tree.{TRight, TKind, TProgram}
use Rattle.oc_grammar.specs.Limits.{Limits, the_depths, brackets_depth}
use Rattle.oc_grammar.specs.Lexemes.{Lexemes}
use Rattle.oc_grammar.specs.Reading.{Fault, Read, syntax_fault, depth_fault, next_at, strip_mark, strip_word, expect_mark, name_at, take_word, listed_by}
use Rattle.oc_grammar.specs.ReadingExpressions.{levels, unary_at, part_at, whole_at}
use Rattle.oc_grammar.specs.ReadingStatements.{right_at, note_at, bind_at, let_from, let_at, stmts_by, stmt_at, block_at}
use Rattle.oc_grammar.specs.ReadingPrograms.{params_at, result_at, function_at, item_at, items_by, items_at, program_at}
use Rattle.oc_grammar.proofs.FaultLaws.{syntax_there, depth_there}
use Rattle.oc_parse.specs.Worked.{open_brackets, WorkedDepths}

-- what reading computes with: for a value, for the `let` around it, and for the program around that
value_read : Limits → Lexemes → Read TRight
unfolding next_at levels unary_at part_at whole_at right_at
value_read = right_at

let_read : Limits → Lexemes → Read TKind
unfolding value_read strip_mark strip_word expect_mark name_at take_word note_at bind_at let_from let_at
let_read = let_at

program_read : Limits → Lexemes → Result TProgram Fault
unfolding let_read listed_by stmts_by stmt_at block_at params_at result_at function_at item_at items_by items_at program_at
program_read = program_at

read_within : program_at the_depths (open_brackets 33) ≡ Err (syntax_fault 0)
unfolding program_read
read_within = refl

read_deeper : program_at the_depths (open_brackets 34) ≡ Err (depth_fault brackets_depth 1)
unfolding program_read
read_deeper = refl

pub worked_depths : WorkedDepths
worked_depths = record { within = syntax_there (open_brackets 33) 0 read_within; deeper = depth_there (open_brackets 34) brackets_depth 1 read_deeper }
