-- How events are told one by one.
use Rattle.std.specs.Prelude.{ℕ, true, false, ◌≡◌, List, [], ◌∷◌, ◌++◌, length, map}
use Rattle.oc_tree.specs.declared.said.SourceEvent.{SourceEvent}
use Rattle.oc_meaning.specs.Store.{Event}
use Rattle.oc_meaning.specs.Unmarked.{is_mark, unmarked}
use Rattle.oc_interpreter.specs.declared.trace.Mark.{Mark}
use Rattle.oc_interpreter.specs.declared.trace.Told.{Told}
use Rattle.oc_interpreter.specs.declared.trace.Told.TheVariants as kinds
use Rattle.oc_meaning.specs.Parts.{MayBe}
use Rattle.oc_interpreter.specs.Traces.{event_view, mark_view, told_from, Rises}

-- an event of the store with so many events of the source before it is one of these, or a mark, or may not be
abbrev pub IsPart : Event → (before : ℕ) → Told → Type 0
IsPart x before (kinds.Source e) = (event_view e ≡ x) × (is_mark x.said ≡ false)
IsPart x before (kinds.Marked m) =
    (m.before ≡ before)
    × (is_mark x.said ≡ true) × (MayBe x.said x.samples x.instance → mark_view m ≡ x)
IsPart x before kinds.Nothing = MayBe x.said x.samples x.instance → ⊥

-- what was told so far: these events of the source, and these marks
pub record TellsParts (events : List SourceEvent) (marks : List Mark) (told : List Event) : Type 0 where
  pub source : map event_view events ≡ unmarked told
  pub parts : told_from 0 marks (map event_view events) ≡ told
  pub rises : Rises 0 marks (length events)

-- one more is told, if it may be
pub record Adds (events : List SourceEvent)
    (marks : List Mark) (x : Event) (events' : List SourceEvent) (marks' : List Mark) : Type 0 where
  pub adds : (told : List Event) → MayBe x.said x.samples x.instance
      → TellsParts events marks told → TellsParts events' marks' (told ++ x ∷ [])
