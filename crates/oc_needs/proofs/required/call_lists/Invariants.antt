use Rattle.std.proofs.Common.{◌≡◌, ◌-◌, map, length, drop}
use Rattle.oc_effects.specs.View.{effect_view}
use Rattle.oc_needs.specs.Requirements.{in_order}
use Rattle.oc_needs.specs.Code.{call_lists}
use Rattle.oc_needs.specs.CodeView.{rows_view, sites_view}
use Rattle.oc_needs.proofs.required.call_lists.Given as goal

abbrev pub invariant-loop-behind : goal.invariant-loop-behind
invariant-loop-behind l =
    sites_view l.lists.items ≡ in_order (call_lists l.body.summaries.now.program l.body.function (rows_view l.rows) (map effect_view (drop (length l.effects - l.behind) l.effects)))
