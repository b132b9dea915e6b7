use Rattle.std.proofs.Common.{map, drop}
use Rattle.oc_effects.specs.View.{passed_view}
use Rattle.oc_effects.specs.Walk.{placed_view}
use Rattle.oc_effects.proofs.Passed.{passed_all}
use Rattle.oc_effects.proofs.calls.resolve_args.Goals as goal

pub returns : goal.returns
returns c =
    let here = c.args.here.now in
    passed_all here.known.now (placed_view here) (drop c.loop-i.i c.args.params.now) c.args.args.now c.loop-i.i (map passed_view c.loop-i.all.items) _ c.loop-i-test.false c.loop-i.invariant
