use Rattle.std.proofs.Common.{◌≡◌, ℕ, None, drop, map}
use Rattle.std.specs.Option.{option_or}
use Rattle.std.proofs.Math.ListN.{get_or}
use Rattle.oc_tree.specs.Regions.{region_view}
use Rattle.oc_meaning.specs.Exec.{ended_by}
use Rattle.oc_codegen.proofs.ends.end_table.Given as goal

abbrev pub invariant-loop-region : goal.invariant-loop-region
invariant-loop-region l =
    (n : ℕ) → option_or (get_or l.table.items n None) (ended_by (map region_view (drop l.region-index l.regions)) n) ≡ ended_by (map region_view l.regions) n
