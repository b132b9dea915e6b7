use Rattle.std.proofs.Common.{arith}
use Rattle.oc_top.proofs.Drilling.{is_measured, number_is}
use Rattle.oc_top.proofs.drill.measure.Goals as goal

pub returns-in_default : goal.returns-in_default
returns-in_default g c =
    is_measured _ _ _ _ _ _ _ (λ rose. omega (arith, rose))
    (λ x took. (number_is _ _ _ _ c.bytes.ensures c.new-sink.ensures.bytes took.0 c.bytes.type_inv, number_is _ _ _ _ c.lines.ensures c.new-sink.ensures.lines took.1 c.lines.type_inv))
    c.status.ensures c.in_default.not-Memory c.run_files.ensures
