use Rattle.std.proofs.Common.{◌≡◌, length, sym, ◌∙◌, arith}
use Rattle.std.proofs.lemmas.List.{length-map}
use Rattle.oc_tree.specs.View.{program_view}
use Rattle.oc_lex.proofs.StandsLaws.{tokens_count}
use Rattle.oc_grammar.specs.Limits.{the_depths}
use Rattle.oc_grammar.specs.Lexemes.{lexemes_in}
use Rattle.oc_grammar.proofs.ProgramLaws.{program_sound, program_read}
use Rattle.oc_grammar.proofs.NodeLaws.{nodes_within}
use Rattle.oc_grammar.proofs.FrontLaws.{ok_is}
use Rattle.oc_grammar.proofs.LexemeLaws.{lexemes_in_form}
use Rattle.oc_grammar.proofs.NumberLaws.{in_form}
use Rattle.oc_parse.specs.declared.stop.Stop.TheVariants as stops
use Rattle.oc_parse.proofs.Spelled.{only_memory, syntax_is, blocks_are, brackets_are, operators_are}
use Rattle.oc_parse.proofs.program.parse_program.Goals as goal

pub whole-requires : goal.whole-requires
whole-requires c =
    let h = tokens_count c.args.source.now c.args.tokens.now c.requires.tokens in
    let g = c.requires.small in
    omega arith

pub returns-in-Ok-clause-found : goal.returns-in-Ok-clause-found
returns-in-Ok-clause-found c = program_sound the_depths (lexemes_in c.args.atomic c.args.source.now c.args.tokens.now) (program_view c.in-Ok.program) c.in-Ok.ensures

pub returns-in-Ok-clause-only : goal.returns-in-Ok-clause-only
returns-in-Ok-clause-only c = λ p d. ok_is (program_view c.in-Ok.program) p (sym c.in-Ok.ensures ∙ program_read the_depths (lexemes_in c.args.atomic c.args.source.now c.args.tokens.now) p d)

pub returns-in-Err-Syntax-clause-only : goal.returns-in-Err-Syntax-clause-only
returns-in-Err-Syntax-clause-only c = λ p d.
    let m = only_memory (lexemes_in c.args.atomic c.args.source.now c.args.tokens.now) p c.in-Err-Syntax.field-0 c.in-Err-Syntax.ensures d in
    let k : stops.Syntax c.in-Err-Syntax.left ≡ stops.Memory = sym c.in-Err-Syntax.field-0-is ∙ m in
    absurd cc

pub returns-in-Err-Blocks-clause-only : goal.returns-in-Err-Blocks-clause-only
returns-in-Err-Blocks-clause-only c = λ p d.
    let m = only_memory (lexemes_in c.args.atomic c.args.source.now c.args.tokens.now) p c.in-Err-Blocks.field-0 c.in-Err-Blocks.ensures d in
    let k : stops.Blocks c.in-Err-Blocks.left ≡ stops.Memory = sym c.in-Err-Blocks.field-0-is ∙ m in
    absurd cc

pub returns-in-Err-Brackets-clause-only : goal.returns-in-Err-Brackets-clause-only
returns-in-Err-Brackets-clause-only c = λ p d.
    let m = only_memory (lexemes_in c.args.atomic c.args.source.now c.args.tokens.now) p c.in-Err-Brackets.field-0 c.in-Err-Brackets.ensures d in
    let k : stops.Brackets c.in-Err-Brackets.left ≡ stops.Memory = sym c.in-Err-Brackets.field-0-is ∙ m in
    absurd cc

pub returns-in-Err-Operators-clause-only : goal.returns-in-Err-Operators-clause-only
returns-in-Err-Operators-clause-only c = λ p d.
    let m = only_memory (lexemes_in c.args.atomic c.args.source.now c.args.tokens.now) p c.in-Err-Operators.field-0 c.in-Err-Operators.ensures d in
    let k : stops.Operators c.in-Err-Operators.left ≡ stops.Memory = sym c.in-Err-Operators.field-0-is ∙ m in
    absurd cc

pub returns-in-Ok-clause-nodes : goal.returns-in-Ok-clause-nodes
returns-in-Ok-clause-nodes c =
    let ts = lexemes_in c.args.atomic c.args.source.now c.args.tokens.now in
    let n = nodes_within the_depths ts (program_view c.in-Ok.program) (program_sound the_depths ts (program_view c.in-Ok.program) c.in-Ok.ensures) in
    let k : length ts ≡ length c.args.tokens.now = length-map c.args.tokens.now _ in
    omega (arith, n, k)

pub returns-in-Ok-clause-form : goal.returns-in-Ok-clause-form
returns-in-Ok-clause-form c =
    let source = c.args.source.now in
    let tokens = c.args.tokens.now in
    let ts = lexemes_in c.args.atomic source tokens in
    let k : length ts ≡ length tokens = length-map tokens _ in
    let few = tokens_count source tokens c.requires.tokens in
    let small = c.requires.small in
    in_form the_depths ts (program_view c.in-Ok.program) (program_sound the_depths ts (program_view c.in-Ok.program) c.in-Ok.ensures)
    (lexemes_in_form c.args.atomic source tokens c.requires.tokens) (omega (arith, k, few, small))

pub returns-in-Err-Syntax-clause-fault : goal.returns-in-Err-Syntax-clause-fault
returns-in-Err-Syntax-clause-fault c = syntax_is c.args.atomic c.args.source.now c.args.tokens.now c.in-Err-Syntax.field-0 c.in-Err-Syntax.left _ c.in-Err-Syntax.ensures
    c.in-Err-Syntax.field-0-is c.place.ensures

pub returns-in-Err-Blocks-clause-fault : goal.returns-in-Err-Blocks-clause-fault
returns-in-Err-Blocks-clause-fault c = blocks_are c.args.atomic c.args.source.now c.args.tokens.now c.in-Err-Blocks.field-0 c.in-Err-Blocks.left c.place-in-Err-Blocks.result
    c.in-Err-Blocks.ensures c.in-Err-Blocks.field-0-is c.place-in-Err-Blocks.ensures

pub returns-in-Err-Brackets-clause-fault : goal.returns-in-Err-Brackets-clause-fault
returns-in-Err-Brackets-clause-fault c = brackets_are c.args.atomic c.args.source.now c.args.tokens.now c.in-Err-Brackets.field-0 c.in-Err-Brackets.left
    c.place-in-Err-Brackets.result c.in-Err-Brackets.ensures c.in-Err-Brackets.field-0-is c.place-in-Err-Brackets.ensures

pub returns-in-Err-Operators-clause-fault : goal.returns-in-Err-Operators-clause-fault
returns-in-Err-Operators-clause-fault c =
    operators_are c.args.atomic c.args.source.now c.args.tokens.now c.in-Err-Operators.field-0 c.in-Err-Operators.left c.place-in-Err-Operators.result c.in-Err-Operators.ensures
    c.in-Err-Operators.field-0-is c.place-in-Err-Operators.ensures
