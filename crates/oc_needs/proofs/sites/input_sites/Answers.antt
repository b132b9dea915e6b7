use Rattle.std.proofs.Common.{◌≡◌, [], ◌++◌, ◌∙◌, map, sym, ap}
use Rattle.std.specs.Prelude.{flat_map}
use Rattle.oc_effects.specs.Effects.{effects_at}
use Rattle.oc_needs.specs.Code.{all_sites_once, looped_sites, sites_outside, sources}
use Rattle.oc_needs.specs.CodeView.{source_view}
use Rattle.oc_needs.proofs.SiteLists.{empty_is, no_sites}
use Rattle.oc_needs.proofs.sites.input_sites.Goals as goal

pub returns-then-is_empty : goal.returns-then-is_empty
returns-then-is_empty c =
    let p = c.args.body.now.summaries.now.program in
    let f = c.args.body.now.function in
    let none : c.args.variables.now ≡ [] = empty_is _ (sym c.is_empty.ensures ∙ c.if-is_empty.true) in
    c.new.ensures.items ∙ (sym (no_sites p f (sources p f (effects_at p f))) ∙ ap (λ xs. all_sites_once p f xs (sources p f (effects_at p f))) (sym none))

pub loop-x-init : goal.loop-x-init
loop-x-init c =
    let p = c.args.body.now.summaries.now.program in
    let f = c.args.body.now.function in
    let xs = c.args.variables.now in
    ap (λ ns. ns ++ flat_map (looped_sites p f (sources p f (effects_at p f))) xs)
    (c.in_ok-sites.ensures ∙ ap (flat_map (sites_outside p f xs)) (ap (map source_view) c.as_slice.ensures.value ∙ c.requires.sources))
