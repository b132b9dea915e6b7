use Rattle.std.proofs.Common.{◌≡◌, ◌++◌, drop}
use Rattle.std.specs.Prelude.{flat_map}
use Rattle.oc_effects.specs.Effects.{effects_at}
use Rattle.oc_needs.specs.Code.{all_sites_once, looped_sites, sources}
use Rattle.oc_needs.proofs.sites.input_sites.Given as goal

abbrev pub invariant-loop-x : goal.invariant-loop-x
invariant-loop-x l =
    l.sites.items ++ flat_map (looped_sites l.body.summaries.now.program l.body.function
    (sources l.body.summaries.now.program l.body.function (effects_at l.body.summaries.now.program l.body.function))) (drop l.x-index l.variables)
    ≡ all_sites_once l.body.summaries.now.program l.body.function l.variables (sources l.body.summaries.now.program l.body.function (effects_at l.body.summaries.now.program l.body.function))
