-- The audit's state and its answers in the terms of the definition.
use Rattle.std.specs.Prelude.{◌≡◌, ℕ, ℤ, Bool, true, false, not, List, Option, Some, None, option_map}
use Rattle.oc_tree.specs.Tree.{TProgram}
use Rattle.oc_tree.specs.Marked.{TRegion}
use Rattle.oc_tree.specs.declared.said.Said.{Said}
use Rattle.oc_steps.specs.Fold as fold
use Rattle.oc_steps.specs.Fold.{on_next}
use Rattle.oc_steps.specs.Watching.{IsMade}
use Rattle.oc_judge.specs.Ways.{Comes, way_view}
use Rattle.oc_judge.specs.declared.store.Completion.{Completion}
use Rattle.oc_judge.specs.declared.store.Completion.TheVariants as completions
use Rattle.oc_judge.specs.declared.way.Way.{Way}
use Rattle.oc_judge.specs.declared.watch.Saved.{Saved}
use Rattle.oc_judge.specs.declared.watch.Watch.{Watch}

abbrev pub saved_view : Saved → ℕ × fold.Way
saved_view s = (s.region, way_view s.way)

abbrev pub watch_view : Watch → fold.Watch
watch_view w = record { now = way_view w.now; saved = option_map saved_view w.saved }

-- it goes on so, or the report breaks here
abbrev pub answered : Bool → Watch → Option fold.Watch
answered true w = Some (watch_view w)
answered false w = None

-- whether the run went through, and its end wasn't told yet
abbrev pub halts_at : Completion → Bool → Bool
halts_at completions.Went over = not over
halts_at (completions.Returned v) over = not over
halts_at completions.Trapped over = false

abbrev pub halts : Way → Bool
halts w = halts_at w.completion w.over

module _ (p : TProgram) (regions : List TRegion) (nv : Option (List ℤ)) where
  -- this is the answer to an item that says what a run tells
  pub record IsTold (w : fold.Watch) (s : Said) (a : Option fold.Watch) : Type 0 where
    pub next : fold.Next
    pub comes : Comes p regions w.now next
    pub made : IsMade next
    pub answer : a ≡ on_next p nv regions w s next
