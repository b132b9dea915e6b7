-- The steps from what is required to what each run keeps.
use Rattle.std.specs.Prelude.{◌≡◌, ◌<◌, ◌≤◌, ◌⊎◌, ℕ, ℤ, true, Some, nat_lt}
use Rattle.oc_tree.specs.Tree.{TProgram}
use Rattle.oc_tree.specs.declared.tree.VarId.{VarId}
use Rattle.oc_tree.specs.declared.said.Said.TheVariants.{Showed}
use Rattle.oc_tree.specs.declared.said.Shown.TheVariants.{Tagged}
use Rattle.oc_tree.specs.Marked.{TMarked, IsMarked}
use Rattle.oc_meaning.specs.Store.{Place, Event, Store, held_at}
use Rattle.oc_effects.specs.Effects.{TEffect}
use Rattle.oc_tree.specs.Members.{IsOf}
use Rattle.oc_honest.specs.Timely.{set_of}
use Rattle.oc_timely.specs.Covering.{IsCovering}
use Rattle.oc_timely.specs.Within.{AnyOf}
use Rattle.oc_timely.specs.Enough.{Target, Met, taken_in, is_open, since}

-- ---- statics

-- what is required meets each target
abbrev pub RequirementsMeet : Type 0
RequirementsMeet =
    (m : TMarked) → IsMarked m → (c : IsCovering m) → (f : ℕ) (a : TEffect) (x : VarId)
    → AnyOf m.program f a → Target m.program f a x → (c.guarded f ≡ true) ⊎ Met m f a x

-- ---- what each store of a run keeps

-- the samples of all variables were taken
pub record AreTaken (σ : Store) : Type 0 where
  pub held : (q : Place) (j : ℕ) → IsOf j (held_at σ q).samples → j < σ.taken
  pub count : taken_in σ.events ≡ σ.taken
  pub opened : is_open σ.events ≡ nat_lt 0 σ.depth
  pub begun : since σ.events ≤ σ.taken

-- an annotation of this set, in this instance
pub record IsTag (p : TProgram) (set : ℕ × ℤ) (instance : ℕ) (e : Event) : Type 0 where
  pub stmt : ℕ
  pub said : e.said ≡ Showed (Tagged stmt)
  pub set_is : set_of p stmt ≡ Some set
  pub instance_is : e.instance ≡ instance
