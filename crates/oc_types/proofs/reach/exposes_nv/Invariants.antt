use Rattle.std.proofs.Common.{◌≡◌, drop}
use Rattle.std.specs.List.{list_any}
use Rattle.oc_tree.specs.View.{kind_view, program_view}
use Rattle.oc_reach.specs.Views.{calls_seen}
use Rattle.oc_tree.specs.Rules.{call_exposes, exposes_nv}
use Rattle.oc_types.proofs.reach.exposes_nv.Given as goal

abbrev pub invariant-loop-call : goal.invariant-loop-call
invariant-loop-call l =
    list_any (call_exposes (program_view l.top) l.scope) (calls_seen (drop l.call-index l.call-items)) ≡ exposes_nv (program_view l.top) l.scope (kind_view l.statement)
