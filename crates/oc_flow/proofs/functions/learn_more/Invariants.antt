use Rattle.oc_flow.specs.Known.{Learning}
use Rattle.oc_flow.proofs.functions.learn_more.Given as goal

abbrev pub invariant-loop-f : goal.invariant-loop-f
invariant-loop-f l = Learning l.effects.program l.f l.fn.known.items l.known.items
