use Rattle.oc_grammar.proofs.OneFault.{some_outcome, spelled_no_syntax, spelled_no_depth, syntax_or_depth, one_syntax, one_depth}
use Rattle.oc_grammar.proofs.one_fault.Goals as goal

pub returns-clause-one_holds : goal.returns-clause-one_holds
returns-clause-one_holds c = some_outcome

pub returns-clause-spelled_no_syntax : goal.returns-clause-spelled_no_syntax
returns-clause-spelled_no_syntax c = spelled_no_syntax

pub returns-clause-spelled_no_depth : goal.returns-clause-spelled_no_depth
returns-clause-spelled_no_depth c = spelled_no_depth

pub returns-clause-syntax_or_depth : goal.returns-clause-syntax_or_depth
returns-clause-syntax_or_depth c = syntax_or_depth

pub returns-clause-one_syntax : goal.returns-clause-one_syntax
returns-clause-one_syntax c = one_syntax

pub returns-clause-one_depth : goal.returns-clause-one_depth
returns-clause-one_depth c = one_depth
