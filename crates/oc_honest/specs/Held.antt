-- In which execution of a region each event of a marked run lies, and what must be held together.
use Rattle.std.specs.Prelude.{◌≡◌, ℕ, suc, Bool, true, false, List, [], ◌∷◌, map, Option, Some, None}
use Rattle.oc_tree.specs.Tree.{TProgram}
use Rattle.oc_tree.specs.Members.{IsOf}
use Rattle.oc_tree.specs.Said.{Told}
use Rattle.oc_tree.specs.declared.said.Said.{Said}
use Rattle.oc_tree.specs.declared.said.Said.TheVariants.{Entered, Committed}
use Rattle.oc_meaning.specs.Store.{Event}
use Rattle.oc_meaning.specs.Unmarked.{unmarked}
use Rattle.oc_items.specs.Erase.{Tells}
use Rattle.oc_honest.specs.Timely.{IsInput, IsUse, AreTogether, AreTimely, lived_from}

-- ---- executions of regions

-- an event of the source, and the execution of a region in which it lies
pub record Ran : Type 0 where
  -- how many executions began before that one; none outside of regions
  pub execution : Option ℕ
  -- the event
  pub event : Event

-- the number of the execution in which an event lies: the n-th, if one is open
abbrev pub within : Bool → ℕ → Option ℕ
within true n = Some n
within false n = None

-- what an event of a marked run adds, where n executions began before it and the last is open or isn't
abbrev pub ran_more : Said → Bool → (n : ℕ) → Event → (Bool → ℕ → List Ran) → List Ran
ran_more (Entered r) inside n e later = later true (suc n)
ran_more (Committed r) inside n e later = later false n
ran_more s inside n e later = record { execution = within inside n; event = e } ∷ later inside n

-- the events of a marked run without its marks, where n executions of regions began before, and the
-- last is open or isn't
abbrev pub ran_from : Bool → ℕ → List Event → List Ran
ran_from inside n [] = []
ran_from inside n (e ∷ es) = ran_more e.said inside n e (λ o m. ran_from o m es)

-- the events of a marked run without its marks
abbrev pub ran : List Event → List Ran
ran es = ran_from false 0 es

-- Each use, and its end, lies in one execution of a region with the inputs of its samples; so do the inputs of all
-- samples on which the tags of one instance of a consistent set depend.
pub record AreHeld (p : TProgram) (all : List Ran) : Type 0 where
  pub fresh : (a u : Ran) (j : ℕ) → IsOf a all → IsOf u all → IsInput j a.event → IsUse u.event.said
      → IsOf j u.event.samples → (x : ℕ) × (a.execution ≡ Some x) × (u.execution ≡ Some x)
  pub consistent : (a b t u : Ran) (j k : ℕ) → IsOf a all → IsOf b all → IsOf t all
      → IsOf u all → IsInput j a.event → IsInput k b.event → AreTogether p t.event u.event
      → IsOf j t.event.samples
      → IsOf k u.event.samples → (x : ℕ) × (a.execution ≡ Some x) × (b.execution ≡ Some x)

-- ---- the law

-- What is held together is timely with outages anywhere outside of regions.
abbrev pub HeldIsTimely : Type 0
HeldIsTimely =
    (p : TProgram) (es : List Event) (items : List Told) → Tells (map (λ e. e.said) es) items
    → AreHeld p (ran es) → AreTimely p (lived_from 0 items (unmarked es))
