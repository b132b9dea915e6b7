use Rattle.std.proofs.Common.{◌≡◌, map, ap, ◌∙◌, Vec, Global}
use Rattle.oc_tree.specs.declared.marked.Region.{Region}
use Rattle.oc_tree.specs.Regions.{region_view}
use Rattle.oc_needs.specs.View.{requirement_view}
use Rattle.oc_region.specs.Regions.{outermost, regions}
use Rattle.oc_region.specs.Views.{ask_range, ask_view, asks, numbered_for, stretch_view}
use Rattle.oc_region.proofs.Reasons.{steps_told, if_ok_along}
use Rattle.oc_region.proofs.inference.regions.Goals as goal

pub returns : goal.returns
returns c =
    let p = c.args.effects.now.program in
    let groups = c.args.effects.now.groups in
    let qs = map requirement_view c.args.required.now in
    let all = map ask_view c.in_ok-asks.asks.items in
    let rs = map stretch_view c.in_ok-asked_ranges.field-0.items in
    let us = map stretch_view c.in_ok-all.all.items in
    let ks = map stretch_view c.in_ok-keep_outermost.field-0.items in
    let ss = map stretch_view c.in_ok-sorted.sorted.items in
    let same : c.in_ok-grouped.grouped ≡ c.args.effects.now = c.in_ok-grouped.ensures in
    let a : all ≡ asks p groups qs = c.in_ok-asks.ensures ∙ ap (λ g. asks g.program g.groups qs) same in
    let r : rs ≡ map ask_range all = c.in_ok-asked_ranges.ensures ∙ ap (λ l. map ask_range (map ask_view l)) c.deref.ensures.value in
    let k : ks ≡ outermost p us = c.in_ok-keep_outermost.ensures ∙ ap (λ l. outermost p (map stretch_view l)) c.deref-2.ensures.value in
    let e : numbered_for p (map ask_view c.deref-3.result.now) 1 (map stretch_view c.deref-4.result.now) ≡ regions p groups =
    ap (λ l. numbered_for p (map ask_view l) 1 (map stretch_view c.deref-4.result.now)) c.deref-3.ensures.value
    ∙ ap (λ l. numbered_for p all 1 (map stretch_view l)) c.deref-4.ensures.value
    ∙ steps_told p groups qs all rs us ks ss c.requires a r c.in_ok-all.ensures k c.in_ok-sorted.ensures in
    if_ok_along (λ (v : Vec Region Global). map region_view v.items ≡ numbered_for p (map ask_view c.deref-3.result.now) 1 (map stretch_view c.deref-4.result.now))
    (λ (v : Vec Region Global). map region_view v.items ≡ regions p groups) (λ v h. h ∙ e) c.number_ranges.result c.number_ranges.ensures
