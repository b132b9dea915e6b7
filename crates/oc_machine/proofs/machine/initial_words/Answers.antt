use Rattle.std.proofs.Common.{arith}
use Rattle.std.proofs.lemmas.Grind.{common_steps}
use Rattle.oc_machine.proofs.machine.initial_words.Goals as goal

pub loop-variable-preserved : goal.loop-variable-preserved
loop-variable-preserved c = record {
  rest = grind (arith, common_steps);
  few = grind (arith, common_steps);
  fit = c.in_ok-append.ensures.fit c.loop-variable.invariant.fit;
}
