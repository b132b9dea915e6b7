use Rattle.std.proofs.Common.{◌≡◌, ℕ, Bool, List, drop}
use Rattle.std.specs.Prelude.{◌&&◌}
use Rattle.std.specs.List.{list_all}
use Rattle.oc_tree.specs.Names.{names_seen}
use Rattle.oc_tree.specs.Rules.{all_lent}
use Rattle.oc_tree.specs.View.{args_view}
use Rattle.oc_types.proofs.calls.lent_names.Given as goal

abbrev pub invariant-loop-i : goal.invariant-loop-i
invariant-loop-i l =
    (test : List ℕ → Bool) → list_all test (names_seen l.names.items) && all_lent test (drop l.i l.params) (args_view (drop l.i l.args)) ≡ all_lent test l.params (args_view l.args)
