use Rattle.std.proofs.Common.{rules, ◌≡◌, ◌<◌, length, refl, arith}
use Rattle.std.proofs.lemmas.Result.{err_from_is_err_and}
use Rattle.oc_tree.specs.View.{program_view}
use Rattle.oc_grammar.specs.Limits.{the_depths}
use Rattle.oc_grammar.specs.Lexemes.{lexemes_in}
use Rattle.oc_grammar.specs.ReadingPrograms.{program_at}
use Rattle.oc_parse.specs.Steps.{left}
use Rattle.oc_parse.proofs.Lines.{count_left}
use Rattle.oc_parse.proofs.ItemLoops.{items_go_on, items_stop, items_end}
use Rattle.oc_parse.proofs.program.whole.Goals as goal

pub loop-parser-init : goal.loop-parser-init
unfolding program_at
loop-parser-init c = (rw (c.empty-program.ensures, c.last_line.ensures c.args.atomic c.args.source.now) refl, (omega arith, omega arith))

pub loop-parser-preserved : goal.loop-parser-preserved
loop-parser-preserved c =
    let h : 0 < length c.loop-parser.parser.reader.rest.now = search rules in
    let g : 0 < length (left c.loop-parser.parser.reader) = omega (arith, count_left c.loop-parser.parser.reader, h) in (
      items_go_on (program_view c.loop-parser.program) c.loop-parser.parser.statements c.loop-parser.parser.blocks (left c.loop-parser.parser.reader)
          (program_view c.item.new.program) c.item.new.self.statements c.item.new.self.blocks (left c.item.new.self.reader)
          (program_at the_depths (lexemes_in c.args.atomic c.args.source.now c.args.tokens.now)) g c.in_ok-item.ensures.exact c.loop-parser.invariant.0,
      c.in_ok-item.ensures.fits,
    )

pub returns-in_err-item : goal.returns-in_err-item
returns-in_err-item c =
    let p = err_from_is_err_and c.from_residual.result c.from_residual.ensures.1 in
    let h : 0 < length c.loop-parser.parser.reader.rest.now = search rules in
    let g : 0 < length (left c.loop-parser.parser.reader) = omega (arith, count_left c.loop-parser.parser.reader, h) in
    rw (p.1, p.2) (items_stop (program_view c.loop-parser.program) c.loop-parser.parser.statements c.loop-parser.parser.blocks (left c.loop-parser.parser.reader)
    c.in_err-item.field-0.0 (program_at the_depths (lexemes_in c.args.atomic c.args.source.now c.args.tokens.now)) g c.in_err-item.ensures.exact c.loop-parser.invariant.0)

pub returns : goal.returns
returns c =
    let h : length c.loop-parser.parser.reader.rest.now ≡ 0 = search rules in
    let g : length (left c.loop-parser.parser.reader) ≡ 0 = omega (arith, count_left c.loop-parser.parser.reader, h) in
    items_end (program_view c.loop-parser.program) c.loop-parser.parser.statements c.loop-parser.parser.blocks (left c.loop-parser.parser.reader)
    (program_at the_depths (lexemes_in c.args.atomic c.args.source.now c.args.tokens.now)) g c.loop-parser.invariant.0
