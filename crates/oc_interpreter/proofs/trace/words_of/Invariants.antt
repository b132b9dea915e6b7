use Rattle.std.proofs.Common.{◌≡◌, ◌++◌, drop}
use Rattle.oc_meaning.specs.Run.{words_of}
use Rattle.oc_interpreter.proofs.trace.words_of.Given as goal

abbrev pub invariant-loop-variable : goal.invariant-loop-variable
invariant-loop-variable l = l.words.items ++ words_of (drop l.variable-index l.variables) ≡ words_of l.variables
