-- Which variables of a function flow into which, and which statements bring input into which.
use Rattle.std.specs.Prelude.{◌≡◌, ℕ, true, Some}
use Rattle.oc_tree.specs.Tree.{TProgram}
use Rattle.oc_tree.specs.declared.tree.VarId.{VarId}
use Rattle.oc_effects.specs.Effects.{TCalled, TEffect, effects_at}
use Rattle.oc_flow.specs.Variables.{is_among, is_variable, begins, ends}
use Rattle.oc_tree.specs.Members.{IsOf}

-- in the function `f` the variable `u` flows into `v`: it is `v`, or it leads to a variable that
-- flows into `v`
pub data Flow (p : TProgram) : ℕ → VarId → VarId → Type 0 where
  -- each variable flows into itself
  itself : {f : ℕ} {u : VarId} → is_variable p f u ≡ true → Flow p f u u
  -- a statement names `u` in the value that it sets `t` to, and `t` flows into `v`
  by_value : {f : ℕ} {u t v : VarId} (a : TEffect) → IsOf a (effects_at p f) → is_variable p f u
      ≡ true → is_among u a.sources ≡ true → a.target ≡ Some t → Flow p f t v → Flow p f u v
  -- a statement calls a function in which what `u` stands for flows into what `t` stands for, and
  -- `t` flows into `v`
  by_call : {f : ℕ} {u x y t v : VarId} (a : TEffect) (c : TCalled)
      → IsOf a (effects_at p f) → a.call ≡ Some c → is_variable p f u ≡ true → begins c x u ≡ true
      → Flow p c.function x y → ends a c y t ≡ true → Flow p f t v → Flow p f u v

-- the statement of the effect `a`, in the function `f`, brings input into `v`
pub data Brings (p : TProgram) : ℕ → TEffect → VarId → Type 0 where
  -- it sets it to an input
  by_input : {f : ℕ} {v : VarId} (a : TEffect)
      → IsOf a (effects_at p f) → a.senses ≡ true → a.target ≡ Some v → Brings p f a v
  -- it calls a function in which a statement brings input into a variable that flows out to `v`
  by_callee : {f : ℕ} {u y v : VarId} (a b : TEffect) (c : TCalled)
      → IsOf a (effects_at p f) → a.call ≡ Some c
      → Brings p c.function b u → Flow p c.function u y → ends a c y v ≡ true → Brings p f a v
