use Rattle.std.proofs.Common.{◌≡◌, vec_len}
use Rattle.oc_interpreter.specs.Fresh.{with_names}
use Rattle.oc_tree.specs.Names.{names_seen}
use Rattle.oc_interpreter.proofs.uses.samples_of_fresh.Given as goal

abbrev pub invariant-loop-name : goal.invariant-loop-name
invariant-loop-name l =
    with_names l.scope l.store (names_seen l.names.items) l.samples ≡ with_names l.scope l.store (names_seen l.initial.names.items) l.initial.samples

abbrev pub decreases-loop-name : goal.decreases-loop-name
decreases-loop-name l = vec_len l.names
