use Rattle.oc_grammar.proofs.PlainLaws.{sources_are_plain, atomic_is_if_true, begins_alike}
use Rattle.oc_grammar.proofs.one_grammar.Goals as goal

pub returns-clause-plain : goal.returns-clause-plain
returns-clause-plain c = sources_are_plain

pub returns-clause-same_tree : goal.returns-clause-same_tree
returns-clause-same_tree c = atomic_is_if_true

pub returns-clause-begins : goal.returns-clause-begins
returns-clause-begins c = begins_alike
