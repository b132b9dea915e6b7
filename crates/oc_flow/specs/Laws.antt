-- The tests decide the relations, in each checked program.
use Rattle.std.specs.Prelude.{◌≡◌, ℕ, Bool, true, false, List}
use Rattle.oc_tree.specs.Tree.{TProgram}
use Rattle.oc_tree.specs.Checked.{Group, IsChecked}
use Rattle.oc_tree.specs.declared.tree.VarId.{VarId}
use Rattle.oc_effects.specs.Effects.{TEffect, effects_at}
use Rattle.oc_tree.specs.Members.{IsOf}
use Rattle.oc_flow.specs.Relations.{Flow, Brings}
use Rattle.oc_flow.specs.Flow.{flow_by, flows, brings_by, brings}

-- a test answers `true` exactly where the statement holds
abbrev pub Decides : Bool → Type 0 → Type 0
Decides true A = A
Decides false A = A → ⊥

-- in each checked program the test of flow decides the relation
abbrev pub FlowsIsFlow : Type 0
FlowsIsFlow =
    (p : TProgram) (groups : List Group)
    → IsChecked p groups → (f : ℕ) (u v : VarId) → Decides (flows p f u v) (Flow p f u v)

-- in each checked program the test of input decides the relation
abbrev pub BringsIsBrings : Type 0
BringsIsBrings =
    (p : TProgram) (groups : List Group) → IsChecked p groups → (f : ℕ) (a : TEffect) (v : VarId)
    → IsOf a (effects_at p f) → Decides (brings p a v) (Brings p f a v)

-- The flow of each function is that by the flow of its callees, since no function calls itself.
abbrev pub FlowsByCallees : Type 0
FlowsByCallees =
    (p : TProgram) (groups : List Group)
    → IsChecked p groups → (f : ℕ) (u v : VarId) → flows p f u v ≡ flow_by p (flows p) f u v

-- what a statement brings is what it brings by itself or by what its callees bring, since no
-- function calls itself
abbrev pub BringsByCallees : Type 0
BringsByCallees =
    (p : TProgram) (groups : List Group) → IsChecked p groups → (f : ℕ) (a : TEffect)
    → IsOf a (effects_at p f) → (v : VarId) → brings p a v ≡ brings_by p (brings p) a v
