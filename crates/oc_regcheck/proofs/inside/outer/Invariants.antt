use Rattle.std.proofs.Common.{◌≡◌, drop}
use Rattle.oc_tree.specs.Members.{is_number_of}
use Rattle.oc_regcheck.specs.Code.{outermost_from, outer}
use Rattle.oc_regcheck.proofs.inside.outer.Given as goal

abbrev pub invariant-loop-t : goal.invariant-loop-t
invariant-loop-t l = outermost_from (is_number_of l.blocks) l.found (drop l.t-index l.t-items) ≡ outer l.effects.program (is_number_of l.blocks) l.s
