use Rattle.std.proofs.Common.{◌≡◌, ap, sym, ◌∙◌}
use Rattle.oc_tree.specs.Tree.{TProgram}
use Rattle.oc_tree.specs.View.{program_view}
use Rattle.oc_tree.specs.Regions.{region_view}
use Rattle.oc_effects.specs.Effects.{params_at}
use Rattle.oc_reach.proofs.PassLaws.{params_read}
use Rattle.oc_writes.specs.Targets.{region_effects}
use Rattle.oc_flow.specs.Known.{effects_seen}
use Rattle.oc_writes.proofs.Same.{targets_made}
use Rattle.oc_writes.proofs.writes.region_targets.Goals as goal

pub returns : goal.returns
returns c =
    let p = program_view c.args.program.now in
    let r = region_view c.args.region.now in
    let inside : effects_seen c.in_ok-inside.inside.items ≡ region_effects p r = c.in_ok-inside.ensures ∙ ap (λ (q : TProgram). region_effects q r) c.requires.same in
    let read : params_at p r.function ≡ c.as_slice-3.result.now =
    params_read c.args.program.now.functions.items c.args.region.now.function c.index-function.result.now c.requires.function c.index-function.ensures ∙ sym c.as_slice-3.ensures.value in
    targets_made p r c.args.through.now (effects_seen c.as_slice.result.now) (effects_seen c.as_slice-2.result.now) c.args.stored.now c.as_slice-3.result.now
    c.new-targets.result.items c.add_stored.new.targets.items c.add_params.new.targets.items
    c.new-targets.ensures.items c.requires.through
    (ap effects_seen c.as_slice.ensures.value ∙ inside) (ap effects_seen c.as_slice-2.ensures.value ∙ inside)
    c.requires.stored read c.in_ok-add_stored.ensures c.in_ok-add_params.ensures
