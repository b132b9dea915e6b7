use Rattle.oc_grammar.proofs.ProgramLaws.{one_program}
use Rattle.oc_grammar.proofs.one_tree.Goals as goal

pub returns : goal.returns
returns c = one_program
