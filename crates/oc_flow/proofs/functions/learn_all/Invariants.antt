use Rattle.oc_flow.specs.Known.{Right, Below}
use Rattle.oc_flow.proofs.functions.learn_all.Given as goal

abbrev pub invariant-loop-rank : goal.invariant-loop-rank
invariant-loop-rank l = record {
  right : Right l.effects.program l.known.items;
  below : Below l.effects.program l._rank l.known.items;
}
