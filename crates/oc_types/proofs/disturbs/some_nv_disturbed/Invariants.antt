use Rattle.std.proofs.Common.{◌≡◌, drop, length}
use Rattle.std.specs.List.{list_any}
use Rattle.oc_tree.specs.Names.{names_seen}
use Rattle.oc_tree.specs.Named.{own_names}
use Rattle.oc_tree.specs.View.{kind_view, program_view}
use Rattle.oc_types.specs.Quiet.{AreQuiet, is_changed}
use Rattle.oc_types.proofs.disturbs.some_nv_disturbed.Given as goal

abbrev pub invariant-loop-name : goal.invariant-loop-name
invariant-loop-name l = record {
  bound : l.seen.1 ≡ length (program_view l.top).names.nvs;
  quiet : AreQuiet (program_view l.top) (kind_view l.statement) l.seen.0;
  found : list_any (is_changed (program_view l.top) (kind_view l.statement)) (names_seen (drop l.name-index l.name-items))
      ≡ list_any (is_changed (program_view l.top) (kind_view l.statement)) (own_names (kind_view l.statement));
}
