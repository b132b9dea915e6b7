use Rattle.std.proofs.Common.{◌≡◌, length}
use Rattle.oc_tree.specs.View.{program_view}
use Rattle.oc_grammar.specs.Limits.{the_depths}
use Rattle.oc_grammar.specs.Lexemes.{lexemes_in}
use Rattle.oc_grammar.specs.ReadingPrograms.{items_at, program_at}
use Rattle.oc_parse.specs.Steps.{Fits, left}
use Rattle.oc_parse.proofs.program.whole.Given as goal

abbrev pub invariant-loop-parser : goal.invariant-loop-parser
invariant-loop-parser l = (items_at the_depths (program_view l.program) l.parser.statements l.parser.blocks (left l.parser.reader)
    ≡ program_at the_depths (lexemes_in l.fn.atomic l.fn.source l.fn.tokens)) × Fits l.parser

abbrev pub decreases-loop-parser : goal.decreases-loop-parser
decreases-loop-parser l = length l.parser.reader.rest.now
