use Rattle.std.proofs.Common.{◌≡◌, ℕ, ◌+◌, Option, drop, map}
use Rattle.std.specs.Option.{option_map}
use Rattle.oc_items.specs.Told.{told_of}
use Rattle.oc_steps.specs.Auditing.{Finds}
use Rattle.oc_judge.specs.Going.{program_of, regions_of}
use Rattle.oc_judge.specs.Seeking.{AreFound}
use Rattle.oc_judge.specs.Watches.{watch_view}
use Rattle.oc_judge.proofs.judge.find_break.Given as goal

-- What is found in the items that are left is found in all.
abbrev pub invariant-loop-item : goal.invariant-loop-item
invariant-loop-item l = record {
  sought : AreFound (program_of l.run) l.sought.items;
  number : l.number ≡ l.item-index + 1;
  finds : (v : Option ℕ) → Finds (program_of l.run) (regions_of l.run) (option_map (λ w. w.now) l.nv) (watch_view l.watch) (map told_of (drop l.item-index l.items)) (l.item-index + 1) v
      → Finds (program_of l.run) (regions_of l.run) (option_map (λ w. w.now) l.nv) (watch_view l.initial.watch) (map told_of l.items) 1 v;
}
