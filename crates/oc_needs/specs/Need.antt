-- Which variables of callers a policy needs.
use Rattle.std.specs.Prelude.{◌≡◌, ℕ, zero, suc, Bool, true, false, ◌&&◌, ◌||◌, not, List, [], ◌∷◌, length, Option, Some, None, nat_eq}
use Rattle.std.specs.List.{list_any}
use Rattle.oc_tree.specs.Tree.{TProgram}
use Rattle.oc_tree.specs.Checked.{Group, IsChecked}
use Rattle.oc_tree.specs.declared.tree.VarId.{VarId}
use Rattle.oc_tree.specs.declared.marked.Policy.{Policy}
use Rattle.oc_effects.specs.Effects.{TCalled, TEffect, effects_at}
use Rattle.oc_flow.specs.Variables.{variables, is_given, begins}
use Rattle.oc_tree.specs.Members.{IsOf}
use Rattle.oc_flow.specs.Relations.{Flow}
use Rattle.oc_flow.specs.Flow.{flows}
use Rattle.oc_flow.specs.Laws.{Decides}
use Rattle.oc_needs.specs.Policies.{annotated, held}

-- the policy `q` needs the parameter or nonvolatile variable `w` of the function `f`. Where nothing
-- is held, as for a fresh variable without a use, nothing is needed
pub data Need (p : TProgram) (q : Policy) : ℕ → VarId → Type 0 where
  -- in the policy's own function `w` flows into an annotated variable, and something is held there
  by_annotation : {w x : VarId} → IsOf x (annotated p q)
      → (held p q ≡ [] → ⊥) → is_given w ≡ true → Flow p q.function w x → Need p q q.function w
  -- `w` flows into what stands for a needed variable `x` of a function that a statement calls
  by_call : {g : ℕ} {x y w : VarId} (a : TEffect) (c : TCalled) → IsOf a (effects_at p g)
      → a.call ≡ Some c → Need p q c.function x → begins c x y ≡ true → is_given w ≡ true
      → Flow p g w y → Need p q g w

-- ---- the same as a test

-- a list is empty
abbrev pub is_empty : {A : Type 0} → List A → Bool
is_empty [] = true
is_empty (x ∷ xs) = false

-- what is said of a function and a variable of it
abbrev pub Needed : Type 0
Needed = ℕ → VarId → Bool

-- the variable `y` stands for one that is needed in the function that is called, if one is
abbrev pub is_needed_at : TProgram → Needed → Option TCalled → VarId → Bool
is_needed_at p need None y = false
is_needed_at p need (Some c) y =
    list_any (λ x. need c.function x && begins c x y) (variables p c.function)

-- a variable of a function flows into one that stands, at a call in it, for what the called
-- function needs
abbrev pub needs_by_call : TProgram → Needed → ℕ → VarId → Bool
needs_by_call p need g w =
    list_any (λ a. list_any (λ y. is_needed_at p need a.call y && flows p g w y) (variables p g))
    (effects_at p g)

-- a variable of the policy's own function flows into an annotated one, and something is held there
abbrev pub needs_itself : TProgram → Policy → ℕ → VarId → Bool
needs_itself p q g w =
    nat_eq g q.function && (not (is_empty (held p q)) && list_any (flows p g w) (annotated p q))

-- the policy needs a parameter or nonvolatile variable of a function, where it is known what it
-- needs of the functions called
abbrev pub needs_by : TProgram → Policy → Needed → Needed
needs_by p q need g w = is_given w && (needs_itself p q g w || needs_by_call p need g w)

-- the policy needs a variable of a function, where calls go at most so deep
unfoldable pub needs_to : TProgram → Policy → ℕ → Needed
needs_to p q zero g w = false
needs_to p q (suc depth) g w = needs_by p q (needs_to p q depth) g w

-- the policy needs a variable of a function; calls go no deeper than there are functions
abbrev pub needs : TProgram → Policy → Needed
needs p q = needs_to p q (length p.functions)

-- in each checked program the test of what a policy needs decides the relation
abbrev pub NeedsIsNeed : Type 0
NeedsIsNeed =
    (p : TProgram) (groups : List Group)
    → IsChecked p groups → (q : Policy) (f : ℕ) (w : VarId) → Decides (needs p q f w) (Need p q f w)
