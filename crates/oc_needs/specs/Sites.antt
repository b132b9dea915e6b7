-- Where the inputs of a variable count as taken.
use Rattle.std.specs.Prelude.{ℕ, Bool, true, ◌&&◌, not, List, [], ◌∷◌, flat_map, filter, find, reverse, cond}
use Rattle.std.specs.Option.{unwrap_or}
use Rattle.std.specs.List.{list_any}
use Rattle.oc_tree.specs.Members.{is_number_of}
use Rattle.oc_tree.specs.Tree.{TProgram}
use Rattle.oc_tree.specs.declared.tree.VarId.{VarId}
use Rattle.oc_tree.specs.declared.tree.VarId.TheVariants.{Declared}
use Rattle.oc_effects.specs.Effects.{TEffect, effects_at, is_numbered}
use Rattle.oc_flow.specs.Variables.{variables}
use Rattle.oc_flow.specs.Flow.{flows, brings}

-- the statement `s` of the function at `f` is a loop
abbrev pub is_loop_at : TProgram → ℕ → ℕ → Bool
is_loop_at p f s = list_any (λ a. is_numbered s a && a.is_loop) (effects_at p f)

-- the loops around a statement, the outermost first
abbrev pub loops_of : TProgram → ℕ → TEffect → List ℕ
loops_of p f a = filter (is_loop_at p f) (reverse a.around)

-- a statement stands in the statement `s`
abbrev pub stands_in : (s : ℕ) → TEffect → Bool
stands_in s a = is_number_of a.around s

-- the variable is declared outside the loop: parameters, nonvolatile variables and the result are outside of all loops
abbrev pub is_outside : TProgram → ℕ → (loop : ℕ) → VarId → Bool
is_outside p f loop (Declared s) =
    not (list_any (λ a. is_numbered s a && stands_in loop a) (effects_at p f))
is_outside p f loop _ = true

-- `w` carries an input that comes into `u` on to `x`
abbrev pub carries : TProgram → ℕ → (u x w : VarId) → Bool
carries p f u x w = flows p f u w && flows p f w x

-- an input that comes into `u` is carried on to `x` by a variable that is declared outside the loop
abbrev pub lifts : TProgram → ℕ → (u x : VarId) → (loop : ℕ) → Bool
lifts p f u x loop = list_any (λ w. carries p f u x w && is_outside p f loop w) (variables p f)

-- the site of an input for `x`: the outermost loop around the statement out of which a carrier comes, or the statement
-- itself where there is no such loop
abbrev pub site : TProgram → ℕ → TEffect → (u x : VarId) → ℕ
site p f a u x = unwrap_or (find (lifts p f u x) (loops_of p f a)) a.stmt

-- a statement brings input into `u`, which flows into `x`
abbrev pub is_input : TProgram → ℕ → TEffect → (u x : VarId) → Bool
is_input p f a u x = brings p a u && flows p f u x

-- the sites of the local inputs of these variables
abbrev pub input_sites : TProgram → ℕ → List VarId → List ℕ
input_sites p f xs =
    flat_map
    (λ a. flat_map (λ u. flat_map (λ x. cond (is_input p f a u x) (site p f a u x ∷ []) []) xs)
    (variables p f)) (effects_at p f)
