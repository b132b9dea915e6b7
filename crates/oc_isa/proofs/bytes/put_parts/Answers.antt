use Rattle.std.proofs.Common.{List, Vec, Global, subst, sym}
use Rattle.std.specs.List.{All}
use Rattle.oc_io.proofs.Putting.{first_failed, then_put}
use Rattle.oc_tree.specs.declared.said.Target.{Target}
use Rattle.oc_isa.specs.Bytes.{magic, IsFew}
use Rattle.oc_isa.proofs.Fields.{few_each}
use Rattle.oc_isa.proofs.bytes.put_parts.Goals as goal

pub put_regions-requires-clause-each : goal.put_regions-requires-clause-each
put_regions-requires-clause-each g c = subst (λ (vs : List (Vec Target Global)). All (λ v. IsFew v.items) vs) (sym c.deref-6.ensures.value) (few_each _ c.requires.small.targets)

pub returns-in-Err : goal.returns-in-Err
returns-in-Err g c =
    first_failed g.O.Sink.took g.O.Sink.faults {x = magic} _ c.in-Err.ensures.puts

pub returns-in-Err-put_names : goal.returns-in-Err-put_names
returns-in-Err-put_names g c =
    let failed = rw c.deref.ensures.value at c.in-Err-put_names.ensures in
    then_put g.O.Sink.took g.O.Sink.faults g.met.O.Sink.took_both {x = magic} c.in_default.ensures.puts
    (first_failed g.O.Sink.took g.O.Sink.faults _ failed)

pub returns-in-Err-put_names-2 : goal.returns-in-Err-put_names-2
returns-in-Err-put_names-2 g c =
    let sensors = rw c.deref.ensures.value at c.in_default-put_names.ensures in
    let failed = rw c.deref-2.ensures.value at c.in-Err-put_names-2.ensures in
    then_put g.O.Sink.took g.O.Sink.faults g.met.O.Sink.took_both {x = magic} c.in_default.ensures.puts
    (then_put g.O.Sink.took g.O.Sink.faults g.met.O.Sink.took_both sensors
    (first_failed g.O.Sink.took g.O.Sink.faults _ failed))

pub returns-in-Err-put_nvs : goal.returns-in-Err-put_nvs
returns-in-Err-put_nvs g c =
    let sensors = rw c.deref.ensures.value at c.in_default-put_names.ensures in
    let ports = rw c.deref-2.ensures.value at c.in_default-put_names-2.ensures in
    let failed = rw c.deref-4.ensures.value at (rw c.deref-3.ensures.value at c.in-Err-put_nvs.ensures) in
    then_put g.O.Sink.took g.O.Sink.faults g.met.O.Sink.took_both {x = magic} c.in_default.ensures.puts
    (then_put g.O.Sink.took g.O.Sink.faults g.met.O.Sink.took_both sensors
    (then_put g.O.Sink.took g.O.Sink.faults g.met.O.Sink.took_both ports
    (first_failed g.O.Sink.took g.O.Sink.faults _ failed)))

pub returns-in-Err-put_functions : goal.returns-in-Err-put_functions
returns-in-Err-put_functions g c =
    let sensors = rw c.deref.ensures.value at c.in_default-put_names.ensures in
    let ports = rw c.deref-2.ensures.value at c.in_default-put_names-2.ensures in
    let nvs = rw c.deref-4.ensures.value at (rw c.deref-3.ensures.value at c.in_default-put_nvs.ensures) in
    let failed = rw c.deref-5.ensures.value at c.in-Err-put_functions.ensures in
    then_put g.O.Sink.took g.O.Sink.faults g.met.O.Sink.took_both {x = magic} c.in_default.ensures.puts
    (then_put g.O.Sink.took g.O.Sink.faults g.met.O.Sink.took_both sensors
    (then_put g.O.Sink.took g.O.Sink.faults g.met.O.Sink.took_both ports
    (then_put g.O.Sink.took g.O.Sink.faults g.met.O.Sink.took_both nvs
    (first_failed g.O.Sink.took g.O.Sink.faults _ failed))))

pub returns-in-Err-put_regions : goal.returns-in-Err-put_regions
returns-in-Err-put_regions g c =
    let sensors = rw c.deref.ensures.value at c.in_default-put_names.ensures in
    let ports = rw c.deref-2.ensures.value at c.in_default-put_names-2.ensures in
    let nvs = rw c.deref-4.ensures.value at (rw c.deref-3.ensures.value at c.in_default-put_nvs.ensures) in
    let functions = rw c.deref-5.ensures.value at c.in_default-put_functions.ensures in
    let failed = rw c.deref-6.ensures.value at c.in-Err-put_regions.ensures in
    then_put g.O.Sink.took g.O.Sink.faults g.met.O.Sink.took_both {x = magic} c.in_default.ensures.puts
    (then_put g.O.Sink.took g.O.Sink.faults g.met.O.Sink.took_both sensors
    (then_put g.O.Sink.took g.O.Sink.faults g.met.O.Sink.took_both ports
    (then_put g.O.Sink.took g.O.Sink.faults g.met.O.Sink.took_both nvs
    (then_put g.O.Sink.took g.O.Sink.faults g.met.O.Sink.took_both functions
    (first_failed g.O.Sink.took g.O.Sink.faults _ failed)))))

pub returns-in-Err-put_number : goal.returns-in-Err-put_number
returns-in-Err-put_number g c =
    let sensors = rw c.deref.ensures.value at c.in_default-put_names.ensures in
    let ports = rw c.deref-2.ensures.value at c.in_default-put_names-2.ensures in
    let nvs = rw c.deref-4.ensures.value at (rw c.deref-3.ensures.value at c.in_default-put_nvs.ensures) in
    let functions = rw c.deref-5.ensures.value at c.in_default-put_functions.ensures in
    let regions = rw c.deref-6.ensures.value at c.in_default-put_regions.ensures in
    let failed = c.in-Err-put_number.ensures in
    then_put g.O.Sink.took g.O.Sink.faults g.met.O.Sink.took_both {x = magic} c.in_default.ensures.puts
    (then_put g.O.Sink.took g.O.Sink.faults g.met.O.Sink.took_both sensors
    (then_put g.O.Sink.took g.O.Sink.faults g.met.O.Sink.took_both ports
    (then_put g.O.Sink.took g.O.Sink.faults g.met.O.Sink.took_both nvs
    (then_put g.O.Sink.took g.O.Sink.faults g.met.O.Sink.took_both functions
    (then_put g.O.Sink.took g.O.Sink.faults g.met.O.Sink.took_both regions
    (first_failed g.O.Sink.took g.O.Sink.faults _ failed))))))

pub returns : goal.returns
returns g c =
    let sensors = rw c.deref.ensures.value at c.in_default-put_names.ensures in
    let ports = rw c.deref-2.ensures.value at c.in_default-put_names-2.ensures in
    let nvs = rw c.deref-4.ensures.value at (rw c.deref-3.ensures.value at c.in_default-put_nvs.ensures) in
    let functions = rw c.deref-5.ensures.value at c.in_default-put_functions.ensures in
    let regions = rw c.deref-6.ensures.value at c.in_default-put_regions.ensures in
    let stack = c.in_default-put_number.ensures in
    let code = rw c.deref-7.ensures.value at c.put_code.ensures in
    then_put g.O.Sink.took g.O.Sink.faults g.met.O.Sink.took_both {x = magic} c.in_default.ensures.puts
    (then_put g.O.Sink.took g.O.Sink.faults g.met.O.Sink.took_both sensors
    (then_put g.O.Sink.took g.O.Sink.faults g.met.O.Sink.took_both ports
    (then_put g.O.Sink.took g.O.Sink.faults g.met.O.Sink.took_both nvs
    (then_put g.O.Sink.took g.O.Sink.faults g.met.O.Sink.took_both functions
    (then_put g.O.Sink.took g.O.Sink.faults g.met.O.Sink.took_both regions
    (then_put g.O.Sink.took g.O.Sink.faults g.met.O.Sink.took_both stack code))))))
