-- When a report is timely: no outage lies between an input and a use of
-- what depends on it, and none among the inputs of a consistent set.
use Rattle.std.specs.Prelude.{◌≡◌, ℕ, suc, ℤ, pos, List, [], ◌∷◌, Option, Some, None}
use Rattle.oc_tree.specs.Tree.{TKind, consistent, TProgram}
use Rattle.oc_tree.specs.Members.{IsOf}
use Rattle.oc_tree.specs.Said.{Told}
use Rattle.oc_tree.specs.declared.said.Said.{Said}
use Rattle.oc_tree.specs.declared.said.Said.TheVariants.{Sensed, Showed, Entered, Committed, Off, Dark}
use Rattle.oc_tree.specs.declared.said.Shown.TheVariants.{Used, Finished, Tagged}
use Rattle.oc_tree.specs.Places.{Placed, placed}
use Rattle.oc_tree.specs.Marked.{TMarked, function_of}
use Rattle.oc_meaning.specs.Store.{Event}
use Rattle.oc_meaning.specs.Run.{marked_run, source_run, said_in}
use Rattle.oc_items.specs.Erase.{erase, Tells}

-- ---- what belongs to what

-- an event of the source, and how many outages stand before the item that tells it
pub record Lived : Type 0 where
  -- how many outages stand before it
  pub offs : ℕ
  -- the event
  pub event : Event

-- an item tells the first of these events, with n outages before it
abbrev pub live : ℕ → List Event → (List Event → List Lived) → List Lived
live n [] later = []
live n (e ∷ es) later = record { offs = n; event = e } ∷ later es

-- what an item adds to the events with their outages, where n stand before it: an `off` counts as
-- one more for later items, `dark` and marks add nothing, and any other item tells the next event
abbrev pub lives : Said → (n : ℕ) → List Event → (ℕ → List Event → List Lived) → List Lived
lives (Off ticks) n es later = later (suc n) es
lives Dark n es later = later n es
lives (Entered r) n es later = later n es
lives (Committed r) n es later = later n es
lives s n es later = live n es (later n)

-- The items of an erased report that tell events of the source, each with its event, the first of these items with the
-- first event. So many outages stand before the first item.
abbrev pub lived_from : ℕ → List Told → List Event → List Lived
lived_from n [] es = []
lived_from n (i ∷ is) es = lives i.said n es (λ m fs. lived_from m is fs)

-- the events of the source with the outages before each, as a report without its aborted attempts
-- tells them
abbrev pub lived : List Told → List Event → List Lived
lived items es = lived_from 0 (erase items) es

-- ---- what must not be parted

-- the input that is the sample j
abbrev pub IsInput : ℕ → Event → Type 0
IsInput j e = (sensor : ℕ) × (value : ℤ) × (e.said ≡ Sensed sensor value) × (e.samples ≡ j ∷ [])

-- the beginning or the end of a use
abbrev pub IsUse : Said → Type 0
IsUse (Showed (Used n)) = Unit {0}
IsUse (Showed (Finished n)) = Unit {0}
IsUse s = ⊥

-- the consistent set of an annotation, by its function and its number
abbrev pub set_in : Option ℕ → TKind → Option (ℕ × ℤ)
set_in (Some f) (consistent x k) = Some (f, k)
set_in f k = None

-- the consistent set that the statement n annotates, where it is there
abbrev pub set_at : TProgram → ℕ → Option Placed → Option (ℕ × ℤ)
set_at p n None = None
set_at p n (Some a) = set_in (function_of p n) a.kind

-- the consistent set that the statement n annotates
abbrev pub set_of : TProgram → ℕ → Option (ℕ × ℤ)
set_of p n = set_at p n (placed p n)

-- two tags of one instance of a consistent set
pub record AreTogether (p : TProgram) (e d : Event) : Type 0 where
  pub one : ℕ
  pub other : ℕ
  pub first : e.said ≡ Showed (Tagged one)
  pub second : d.said ≡ Showed (Tagged other)
  pub set : ℕ × ℤ
  pub first_set : set_of p one ≡ Some set
  pub second_set : set_of p other ≡ Some set
  pub instance : e.instance ≡ d.instance

-- ---- timely

-- no outage stands between a sample's input and a use, or the end of a use, that depends on it; and none between the
-- inputs of samples on which two tags of one instance of a set depend, or one tag
pub record AreTimely (p : TProgram) (all : List Lived) : Type 0 where
  pub fresh : (a u : Lived) (j : ℕ) → IsOf a all → IsOf u all
      → IsInput j a.event → IsUse u.event.said → IsOf j u.event.samples → a.offs ≡ u.offs
  pub consistent : (a b t u : Lived) (j k : ℕ) → IsOf a all → IsOf b all → IsOf t all
      → IsOf u all → IsInput j a.event → IsInput k b.event → AreTogether p t.event u.event
      → IsOf j t.event.samples → IsOf k u.event.samples → a.offs ≡ b.offs

-- the report is timely, where these are the events of the source
abbrev pub IsTimely : TProgram → List Told → List Event → Type 0
IsTimely p items es = AreTimely p (lived items es)

-- ---- a run with outages

-- each run of the program is timely with outages anywhere outside of its regions, as is every front part of it
abbrev pub RunsAreTimely : TMarked → Type 0
RunsAreTimely m =
    (samples : List ℤ) (items : List Told)
    → Tells (said_in (marked_run m.program m.regions samples)) items
    → AreTimely m.program (lived_from 0 items (source_run m.program samples).events)

-- ---- reports that are not timely

-- an item: at this tick this was said
abbrev pub told_at : (tick : ℕ) → Said → Told
told_at tick s = record { tick = tick; said = s }

-- an event: what was said, the samples on which it depends, and its instance
abbrev pub event : Said → List ℕ → (instance : ℕ) → Event
event s samples instance = record { said = s; samples = samples; instance = instance }

-- an outage between an input and its use isn't timely
abbrev pub LateUse : Type 0
LateUse = (p : TProgram)
    → IsTimely p (told_at 1 (Sensed 0 (pos 21)) ∷ told_at 2 (Off 5) ∷ told_at 9 (Showed (Used 3))
    ∷ [])
    (event (Sensed 0 (pos 21)) (0 ∷ []) 0 ∷ event (Showed (Used 3)) (0 ∷ []) 0 ∷ []) → ⊥

-- an outage between two inputs of a set, which one annotation tags, isn't timely
abbrev pub PartedSet : Type 0
PartedSet = (p : TProgram) (n : ℕ) (set : ℕ × ℤ) → set_of p n ≡ Some set
    → IsTimely p (told_at 1 (Sensed 0 (pos 5))
    ∷ told_at 2 (Off 5) ∷ told_at 9 (Sensed 1 (pos 8)) ∷ told_at 12 (Showed (Tagged n)) ∷ [])
    (event (Sensed 0 (pos 5)) (0 ∷ []) 0
    ∷ event (Sensed 1 (pos 8)) (1 ∷ []) 0 ∷ event (Showed (Tagged n)) (0 ∷ 1 ∷ []) 1 ∷ []) → ⊥
