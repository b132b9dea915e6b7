use Rattle.std.proofs.Common.{refl}
use Rattle.oc_meaning.specs.Exec.{number_in}
use Rattle.oc_interpreter.proofs.Cutting.{as_before, on_err, sense_from}
use Rattle.oc_interpreter.proofs.simple.sense.Goals as goal

pub returns-in_err-number-clause-cut : goal.returns-in_err-number-clause-cut
returns-in_err-number-clause-cut c =
    let σ = c.args.store.now in
    on_err _ (sense_from σ.events (number_in c.args.run.now.program.now.names.sensors.items c.args.sensor.now) σ.left σ (as_before σ σ refl))
