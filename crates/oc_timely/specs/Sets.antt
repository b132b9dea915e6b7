-- Consistent sets: no mark stands between two tags that are together, of which the earlier has samples.
use Rattle.std.specs.Prelude.{◌≡◌, ◌<◌, ◌==◌, ℕ, ℤ, List, [], ◌∷◌, ◌++◌, Some, count_by}
use Rattle.oc_tree.specs.Names.{Text}
use Rattle.oc_tree.specs.Tree.{TFunction, TProgram}
use Rattle.oc_tree.specs.declared.said.Said.{Said}
use Rattle.oc_tree.specs.declared.said.Said.TheVariants.{Entered, Committed}
use Rattle.oc_tree.specs.Marked.{TRegion, TMarked, IsMarked}
use Rattle.oc_meaning.specs.Blocks.{set_home}
use Rattle.oc_meaning.specs.Store.{Event, Store}
use Rattle.oc_meaning.specs.Cuts.{events_in}
use Rattle.oc_meaning.specs.Exec.{Passed}
use Rattle.oc_meaning.specs.Run.{function_named, call_to, main_run}
use Rattle.oc_tree.specs.Members.{IsOf}
use Rattle.oc_honest.specs.Timely.{AreTogether}
use Rattle.oc_timely.specs.Covering.{IsCovering}
use Rattle.oc_timely.specs.Modes.{PairedBlock}

-- what is said is no mark of a region
abbrev pub IsNoMark : Said → Type 0
IsNoMark (Entered r) = ⊥
IsNoMark (Committed r) = ⊥
IsNoMark s = Unit {0}

-- none of these events is a mark of a region
abbrev pub AreNoMarks : List Event → Type 0
AreNoMarks [] = Unit {0}
AreNoMarks (e ∷ es) = IsNoMark e.said × AreNoMarks es

-- an earlier event stands among these, and no mark of a region came since
pub record IsUnparted (x : Event) (es : List Event) : Type 0 where
  pub more : List Event
  pub older : List Event
  pub is : es ≡ more ++ x ∷ older
  pub marks : AreNoMarks more

-- between a tag with samples and a later one of its instance no region begins or ends
abbrev pub AreUnparted : TProgram → List Event → Type 0
AreUnparted p [] = Unit {0}
AreUnparted p (e ∷ es) =
    ((x : Event) (j : ℕ) → IsOf x es → AreTogether p x e → IsOf j x.samples → IsUnparted x es)
    × AreUnparted p es

-- ---- a region is open around a whole call

-- events were added in front of these, and none of them is a mark of a region
abbrev pub AddsNoMarks : List Event → List Event → Type 0
AddsNoMarks es ds = (more : List Event) × (ds ≡ more ++ es) × AreNoMarks more

-- in each function regions begin and end in one list
abbrev pub ArePaired : TProgram → List TRegion → Type 0
ArePaired p regions =
    (x : Text) (g : TFunction)
    → function_named p.functions x ≡ Some g → (n : ℕ) × PairedBlock regions n g.body

-- where a region is open, a call tells no mark
abbrev pub InsideTellsNone : Type 0
InsideTellsNone =
    (p : TProgram) (regions : List TRegion)
    → ArePaired p regions → (depth : ℕ) (x : Text) (ps : List Passed) (σ : Store)
    → 0 < σ.depth → AddsNoMarks σ.events (events_in (call_to p regions depth x ps σ))

-- ---- what is kept of one set

-- in how many executions of its block the set was
abbrev pub times : TFunction → ℤ → Store → ℕ
times g k σ = count_by (λ id. set_home g.body k == id) σ.blocks

-- ---- the law

-- where the regions cover what is required, no run parts an instance of a set by the mark of a
-- region
abbrev pub RunsPartNone : Type 0
RunsPartNone =
    (m : TMarked) → IsMarked m → IsCovering m
    → (samples : List ℤ) → AreUnparted m.program (events_in (main_run m.program m.regions samples))
