use Rattle.std.proofs.Common.{◌≡◌, drop}
use Rattle.oc_tree.specs.Members.{is_number_of}
use Rattle.oc_regcheck.specs.Code.{second_by}
use Rattle.oc_regcheck.proofs.inside.second.Given as goal

abbrev pub invariant-loop-s : goal.invariant-loop-s
invariant-loop-s l = second_by l.effects.program (is_number_of l.blocks) l.first (drop l.s-index l.sites) ≡ second_by l.effects.program (is_number_of l.blocks) l.first l.sites
