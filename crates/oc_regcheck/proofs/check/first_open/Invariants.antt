use Rattle.std.proofs.Common.{◌≡◌, drop, map}
use Rattle.oc_needs.specs.View.{requirement_view}
use Rattle.oc_tree.specs.Members.{is_number_of}
use Rattle.oc_regcheck.specs.Code.{first_by}
use Rattle.oc_regcheck.proofs.check.first_open.Given as goal

abbrev pub invariant-loop-requirement : goal.invariant-loop-requirement
invariant-loop-requirement l =
    first_by l.effects.program (is_number_of l.blocks) (map requirement_view (drop l.requirement-index l.required))
    ≡ first_by l.effects.program (is_number_of l.blocks) (map requirement_view l.required)
