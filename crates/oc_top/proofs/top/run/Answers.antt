use Rattle.std.proofs.Common.{arith, refl}
use Rattle.oc_top.proofs.Accepted.{built_apart}
use Rattle.oc_top.proofs.Asking.{not_fetched, turned_down}
use Rattle.oc_top.proofs.Metering.{comes_alone, was_read}
use Rattle.oc_command.proofs.Taking.{untouched}
use Rattle.oc_top.proofs.top.run.Goals as goal

pub returns-in-Ok-prepare-clause-comes : goal.returns-in-Ok-prepare-clause-comes
returns-in-Ok-prepare-clause-comes g c = was_read _ _ _ refl _ c.in-Ok.ensures.files c.in-Ok.ensures.asked _ _ _ c.in-Ok-prepare.ensures.ready _ _ c.report_for.ensures.reported

pub returns-in-Err-prepare-clause-comes : goal.returns-in-Err-prepare-clause-comes
returns-in-Err-prepare-clause-comes g c = comes_alone _ _ _ _ c.without_meters-in-Err-prepare.ensures.untold c.without_meters-in-Err-prepare.ensures.answer
    (turned_down _ _ _ refl _ c.in-Ok.ensures.files c.in-Ok.ensures.asked _ c.in-Err-prepare.ensures.refused (untouched g.O.Sink.took g.O.Sink.held g.O.Sink.faults g.met.O.Sink.took_nothing _))

pub returns-in-Err-clause-comes : goal.returns-in-Err-clause-comes
returns-in-Err-clause-comes g c = comes_alone _ _ _ _ c.without_meters.ensures.untold c.without_meters.ensures.answer
    (not_fetched _ _ refl _ c.in-Err.ensures.refused (untouched g.O.Sink.took g.O.Sink.held g.O.Sink.faults g.met.O.Sink.took_nothing _))

pub report_for-requires-clause-names : goal.report_for-requires-clause-names
report_for-requires-clause-names g c = built_apart _ (c.in-Ok.ensures.files.each 0 (omega arith)).within c.names_are_apart.ensures.written _ c.in-Ok-prepare.ensures.ready.built
