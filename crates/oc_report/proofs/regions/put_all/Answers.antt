use Rattle.std.proofs.Common.{◌∙◌, ap, map, refl}
use Rattle.oc_io.proofs.Putting.{same_text, stopped}
use Rattle.oc_isa.proofs.Counted.{counted_on, counted_stop}
use Rattle.oc_tree.specs.Regions.{region_view}
use Rattle.oc_budget.specs.View.{budgets_view}
use Rattle.oc_report.specs.RegionLines.{lines_of, region_lines}
use Rattle.oc_report.proofs.Showing.{part_is}
use Rattle.oc_report.proofs.regions.put_all.Goals as goal

pub loop-place-preserved : goal.loop-place-preserved
loop-place-preserved g c =
    let m = c.args.marked.now in
    let b = budgets_view c.args.budgets.now in
    let is_part = part_is m c.args.budgets.now c.args.details.now c.requires.details c.regions-region-items.result.now c.regions-region-items.ensures c.loop-place.place
    c.region-item.result c.numbers_at-numbers.result c.loop-place-test.true c.region-item.is c.numbers_at-numbers.ensures in
    record {
      calm = c.in_default.ensures.calm ∙ c.loop-place.invariant.calm;
      going = counted_on g.O.Sink.took g.met.O.Sink.took_both _ _ _ (λ n xs. region_lines m b n (map region_view xs)) (λ n x. lines_of m b n (region_view x)) (λ n x xs. refl)
          c.regions-region-items.result.now _ _ c.region-item.result _ _ c.loop-place-test.true is_part c.loop-place.invariant.going c.in_default.ensures.ok;
    }

pub returns-in-Err : goal.returns-in-Err
returns-in-Err g c =
    let m = c.args.marked.now in
    let b = budgets_view c.args.budgets.now in
    let is_part = part_is m c.args.budgets.now c.args.details.now c.requires.details c.regions-region-items.result.now c.regions-region-items.ensures c.loop-place.place
    c.region-item.result c.numbers_at-numbers.result c.loop-place-test.true c.region-item.is c.numbers_at-numbers.ensures in
    same_text g.O.Sink.took g.O.Sink.faults (ap (region_lines m b 0) c.regions-region-items.ensures)
    (stopped g.O.Sink.took g.O.Sink.faults _ _ _ _ _ _ c.loop-place.invariant.calm
    (counted_stop g.O.Sink.took g.met.O.Sink.took_both _ _ _ (λ n xs. region_lines m b n (map region_view xs)) (λ n x. lines_of m b n (region_view x)) (λ n x xs. refl)
    c.regions-region-items.result.now _ _ c.region-item.result _ _ c.loop-place-test.true is_part c.loop-place.invariant.going c.in-Err.ensures.part)
    c.in-Err.ensures)
