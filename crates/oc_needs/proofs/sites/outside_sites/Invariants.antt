use Rattle.std.proofs.Common.{◌≡◌, ◌++◌, drop, map}
use Rattle.std.specs.Prelude.{flat_map}
use Rattle.oc_needs.specs.Code.{sites_outside}
use Rattle.oc_needs.specs.CodeView.{source_view}
use Rattle.oc_needs.proofs.sites.outside_sites.Given as goal

abbrev pub invariant-loop-source : goal.invariant-loop-source
invariant-loop-source l =
    l.sites.items ++ flat_map (sites_outside l.body.summaries.now.program l.body.function l.variables) (map source_view (drop l.source-index l.sources))
    ≡ flat_map (sites_outside l.body.summaries.now.program l.body.function l.variables) (map source_view l.sources)
