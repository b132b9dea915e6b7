use Rattle.std.proofs.Common.{◌≡◌, ◌++◌, drop, map}
use Rattle.oc_effects.specs.Effects.{effects_at}
use Rattle.oc_needs.specs.Code.{looped_sites, sources}
use Rattle.oc_needs.specs.CodeView.{sites_view}
use Rattle.oc_needs.proofs.looped.looped_in.Given as goal

abbrev pub invariant-loop-x : goal.invariant-loop-x
invariant-loop-x l =
    sites_view l.rows.items ++ map (looped_sites l.body.summaries.now.program l.body.function
    (sources l.body.summaries.now.program l.body.function (effects_at l.body.summaries.now.program l.body.function))) (drop l.x-index l.x-items)
    ≡ map (looped_sites l.body.summaries.now.program l.body.function (sources l.body.summaries.now.program l.body.function (effects_at l.body.summaries.now.program l.body.function))) l.x-items
