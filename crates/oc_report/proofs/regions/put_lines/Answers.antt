use Rattle.std.proofs.Common.{refl}
use Rattle.oc_io.proofs.Putting.{first_failed, same_text, then_put}
use Rattle.oc_tree.specs.Regions.{region_view}
use Rattle.oc_report.proofs.Showing.{lines_joined}
use Rattle.oc_report.proofs.regions.put_lines.Goals as goal

pub returns-in-Err : goal.returns-in-Err
returns-in-Err g c =
    same_text g.O.Sink.took g.O.Sink.faults
    (lines_joined c.args.marked.now (region_view c.args.region.now) _ c.args.numbers c.function_of-function.ensures c.args.region.now.reasons.items refl)
    (first_failed g.O.Sink.took g.O.Sink.faults _ c.in-Err.ensures)

pub returns : goal.returns
returns g c =
    same_text g.O.Sink.took g.O.Sink.faults
    (lines_joined c.args.marked.now (region_view c.args.region.now) _ c.args.numbers c.function_of-function.ensures _ c.deref.ensures.value)
    (then_put g.O.Sink.took g.O.Sink.faults g.met.O.Sink.took_both c.in_default.ensures c.put_reasons.ensures)
