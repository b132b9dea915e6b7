use Rattle.std.proofs.Common.{◌≡◌, ◌++◌, map}
use Rattle.oc_needs.specs.View.{requirement_view}
use Rattle.oc_needs.specs.Code.{requirements_in}
use Rattle.oc_needs.specs.CodeView.{sites_view}
use Rattle.oc_needs.proofs.required.add_requirements.Given as goal

abbrev pub invariant-loop-sites : goal.invariant-loop-sites
invariant-loop-sites l =
    map requirement_view l.required.items ≡ map requirement_view l.initial.required.items ++ requirements_in l.policy l.function (sites_view l.yielded)
