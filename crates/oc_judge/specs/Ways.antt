-- A run under way in the terms of the definition.
use Rattle.std.specs.Prelude.{◌≡◌, ℕ, List, map}
use Rattle.oc_tree.specs.Tree.{TProgram}
use Rattle.oc_tree.specs.Marked.{TRegion}
use Rattle.oc_steps.specs.Fold as fold
use Rattle.oc_steps.specs.Fold.{steps_on, told_by}
use Rattle.oc_judge.specs.Values.{age_view}
use Rattle.oc_judge.specs.Stores.{completion_at, event_view}
use Rattle.oc_judge.specs.Frames.{frames_view}
use Rattle.oc_judge.specs.declared.way.Ahead.{Ahead}
use Rattle.oc_judge.specs.declared.way.Ahead.TheVariants as aheads
use Rattle.oc_judge.specs.declared.way.Instance.{Instance}
use Rattle.oc_judge.specs.declared.way.Way.{Way}
use Rattle.oc_judge.specs.declared.way.Next.{Next}
use Rattle.oc_judge.specs.declared.way.Next.TheVariants as nexts

abbrev pub instance_view : Instance → fold.Instance
instance_view i = record { set = i.set; number = i.number; age = age_view i.age }

abbrev pub sets_view : List Instance → List fold.Instance
sets_view is = map instance_view is

abbrev pub way_view : Way → fold.Way
way_view w =
    record {
      frames = frames_view w.frames.items;
      out = completion_at w.completion w.store;
      sets = sets_view w.sets.items;
      inside = w.inside;
      over = w.over;
    }

-- what a run does next, where it has come to this
abbrev pub next_view : Next → Way → fold.Next
next_view (nexts.Says e) w = fold.Says (event_view e) (way_view w)
next_view (nexts.Wants s) w = fold.Wants s (frames_view w.frames.items) w.store
next_view nexts.Stands w = fold.Stands (way_view w)

-- what a run has come to, where its store has what it says
abbrev pub ahead_view : Ahead → Way → fold.Next
ahead_view aheads.On w = fold.Went_on (way_view w)
ahead_view aheads.Says w =
    told_by (way_view w) (frames_view w.frames.items) (completion_at w.completion w.store)
    w.store.events
ahead_view (aheads.Wants s) w = fold.Wants s (frames_view w.frames.items) w.store
ahead_view aheads.Stands w = fold.Stands (way_view w)

-- what a step leaves of a run
pub record KeepsRest (before now : fold.Way) : Type 0 where
  pub sets : now.sets ≡ before.sets
  pub inside : now.inside ≡ before.inside
  pub over : now.over ≡ before.over

module _ (p : TProgram) (regions : List TRegion) where
  -- some steps on, it does this next
  pub record Comes (before : fold.Way) (next : fold.Next) : Type 0 where
    pub steps : ℕ
    pub is : steps_on p regions steps before ≡ next
