use Rattle.oc_io.proofs.Putting.{first_failed, same_text, then_put}
use Rattle.oc_report.proofs.Showing.{whole_text}
use Rattle.oc_report.proofs.regions.put_regions.Goals as goal

pub returns-in-Err : goal.returns-in-Err
returns-in-Err g c =
    same_text g.O.Sink.took g.O.Sink.faults (whole_text c.args.marked.now c.args.budgets.now c.requires.budgets) (first_failed g.O.Sink.took g.O.Sink.faults _ c.in-Err.ensures)

pub returns : goal.returns
returns g c =
    same_text g.O.Sink.took g.O.Sink.faults (whole_text c.args.marked.now c.args.budgets.now c.requires.budgets)
    (then_put g.O.Sink.took g.O.Sink.faults g.met.O.Sink.took_both c.in_default.ensures c.put_totals.ensures)
