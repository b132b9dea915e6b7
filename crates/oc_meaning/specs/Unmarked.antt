-- A marked run without its marks is the source's run.
use Rattle.std.specs.Prelude.{◌≡◌, ℤ, Bool, true, false, List, [], ◌∷◌, if◌then◌else◌}
use Rattle.oc_tree.specs.Tree.{TProgram}
use Rattle.oc_tree.specs.declared.said.Said.{Said}
use Rattle.oc_tree.specs.declared.said.Said.TheVariants.{Entered, Committed}
use Rattle.oc_meaning.specs.Store.{Event}
use Rattle.oc_tree.specs.Marked.{TRegion}
use Rattle.oc_meaning.specs.Run.{Trace, marked_run, source_run}

-- whether something said is the mark of a region: that its execution began or ended
abbrev pub is_mark : Said → Bool
is_mark (Entered r) = true
is_mark (Committed r) = true
is_mark s = false

-- events without the marks of regions
abbrev pub unmarked : List Event → List Event
unmarked [] = []
unmarked (e ∷ es) = if is_mark e.said then unmarked es else e ∷ unmarked es

-- a run without the marks of regions
abbrev pub without_marks : Trace → Trace
without_marks t = record t { events = unmarked t.events }

-- marks change nothing: neither the events and their samples, nor how the run ends, nor the nonvolatile words
abbrev pub MarksOnlyTell : Type 0
MarksOnlyTell =
    (p : TProgram) (regions : List TRegion) (samples : List ℤ)
    → without_marks (marked_run p regions samples) ≡ source_run p samples
