use Rattle.std.proofs.Common.{◌≡◌, ◌||◌, ℕ, false, drop, map}
use Rattle.std.specs.Prelude.{nat_eq}
use Rattle.std.specs.List.{list_any}
use Rattle.std.proofs.Math.ListN.{get_or}
use Rattle.oc_tree.specs.Regions.{region_view}
use Rattle.oc_budget.proofs.known.end_table.Given as goal

abbrev pub invariant-loop-region : goal.invariant-loop-region
invariant-loop-region l =
    (n : ℕ) → (list_any (λ r. nat_eq r.last n) (map region_view (drop l.region-index l.regions)) || get_or l.table.items n false) ≡ list_any (λ r. nat_eq r.last n) (map region_view l.regions)
