-- Which statements use fresh variables, and what the functions of a marked program and its runs cost at most.
use Rattle.std.specs.Prelude.{ℕ, Bool, false, ◌&&◌, List, length, codes, Option, Some, nat_eq}
use Rattle.std.specs.List.{list_any}
use Rattle.oc_tree.specs.Tree.{TProgram}
use Rattle.oc_tree.specs.declared.tree.VarId.{VarId}
use Rattle.oc_tree.specs.Calls.{function_place}
use Rattle.oc_tree.specs.Weight.{known_of}
use Rattle.oc_tree.specs.Costs.{costs_to}
use Rattle.oc_tree.specs.Marked.{TMarked}
use Rattle.oc_effects.specs.declared.effect.Note.{Note}
use Rattle.oc_effects.specs.declared.effect.Note.TheVariants as notes
use Rattle.oc_effects.specs.Effects.{TEffect, effects}
use Rattle.oc_flow.specs.Variables.{same_variable}

-- an annotation, if there is one, says that the variable is fresh
abbrev pub is_fresh_note : VarId → Option Note → Bool
is_fresh_note v (Some (notes.Fresh w)) = same_variable v w
is_fresh_note v _ = false

-- one of these statements names a variable that is annotated `Fresh` among them, and has the number `s`
abbrev pub uses_in : ℕ → List TEffect → Bool
uses_in s es = list_any
    (λ a. nat_eq a.stmt s && list_any (λ v. list_any (λ b. is_fresh_note v b.note) es) a.named) es

-- the statement of the number `s` uses a fresh variable
abbrev pub is_use : TProgram → ℕ → Bool
is_use p s = list_any (uses_in s) (effects p)

-- what each function of a marked program costs at most
abbrev pub costs : TMarked → List ℕ
costs m = costs_to m.program.functions (is_use m.program) m.regions (length m.program.functions)

-- a run of a marked program takes at most so many instructions
abbrev pub total : TMarked → ℕ
total m = known_of (costs m) (function_place m.program.functions (codes "main"))
