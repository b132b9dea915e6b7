use Rattle.std.proofs.Common.{◌≡◌, ◌++◌, drop}
use Rattle.oc_needs.specs.Code.{sites_between}
use Rattle.oc_needs.specs.CodeView.{source_view}
use Rattle.oc_needs.proofs.sites.add_sites_between.Given as goal

abbrev pub invariant-loop-x : goal.invariant-loop-x
invariant-loop-x l =
    l.sites.items ++ sites_between l.body.summaries.now.program l.body.function (source_view l.source) l.u (drop l.x-index l.variables)
    ≡ l.initial.sites.items ++ sites_between l.body.summaries.now.program l.body.function (source_view l.source) l.u l.variables
