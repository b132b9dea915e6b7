use Rattle.std.proofs.lemmas.Result.{err_from_is_err_and}
use Rattle.oc_command.specs.Files.{bytes_of}
use Rattle.oc_report.proofs.Readying.{no_sensors, no_power, is_ready}
use Rattle.oc_report.proofs.prepare.set_up.Goals as goal

pub returns-in_err-sensors-clause-refused : goal.returns-in_err-sensors-clause-refused
returns-in_err-sensors-clause-refused g c =
    let p = err_from_is_err_and c.from_residual.result c.from_residual.ensures.1 in
    rw (p.1, p.2) (no_sensors (bytes_of c.args.files.now) _ c.args.image _ (rw c.deref.ensures.value at c.in_err-sensors.ensures.bad))

pub returns-in_err-periods-clause-refused : goal.returns-in_err-periods-clause-refused
returns-in_err-periods-clause-refused g c =
    let p = err_from_is_err_and c.from_residual-in_err-periods.result c.from_residual-in_err-periods.ensures.1 in
    let sensed = rw c.deref.ensures.value at c.in_ok-sensors.ensures.rows in
    rw (p.1, p.2) (no_power (bytes_of c.args.files.now) _ c.args.image _ _ sensed (rw c.deref-2.ensures.value at c.in_err-periods.ensures.row))

pub returns-clause-ready : goal.returns-clause-ready
returns-clause-ready g c =
    let sensed = rw c.deref.ensures.value at c.in_ok-sensors.ensures.rows in
    let powered = rw c.deref-2.ensures.value at c.in_ok-periods.ensures.ok in
    let planned = c.in_ok-take.ensures.0 in
    let sum = c.in_ok-take.ensures.1.1.0 in
    is_ready _ _ _ _ _ c.args.image _ c.in_ok-machine.ensures c.requires sensed c.in_ok-sensors.ensures.sensors c.in_ok-sensors.ensures.now powered planned
    (rw planned (sum c.in_ok-periods.ensures.sum))
