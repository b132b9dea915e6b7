use Rattle.std.proofs.Common.{◌≡◌, ◌+◌, drop, map}
use Rattle.oc_effects.specs.View.{passed_view}
use Rattle.oc_writes.specs.Targets.{lends}
use Rattle.oc_writes.proofs.through.Through.lends.Given as goal

abbrev pub invariant-loop-i : goal.invariant-loop-i
invariant-loop-i l =
    lends l.self (l.first + l.i) (map passed_view (drop l.i l.args)) l.var ≡ lends l.self l.first (map passed_view l.args) l.var
