-- What code holds of a program while it looks for targets.
use Rattle.std.specs.Prelude.{ℕ, ◌+◌, Bool, ◌||◌, List, [], ◌∷◌, ◌++◌, filter, cond}
use Rattle.std.specs.List.{list_any}
use Rattle.oc_tree.specs.Names.{Text}
use Rattle.oc_tree.specs.Tree.{TProgram}
use Rattle.oc_tree.specs.declared.tree.NvDecl.{NvDecl}
use Rattle.oc_tree.specs.declared.tree.Param.{Param}
use Rattle.oc_tree.specs.declared.tree.VarId.TheVariants.{Nv, Param as AParam}
use Rattle.oc_tree.specs.declared.said.Target.{Target}
use Rattle.oc_tree.specs.declared.said.Target.TheVariants as targets
use Rattle.oc_tree.specs.Marked.{TRegion, is_in_region}
use Rattle.oc_effects.specs.Effects.{TEffect}
use Rattle.oc_writes.specs.Targets.{assigns, reaches, words_of}

-- a statement stands in a region, by its number and those around it
abbrev pub stands_in : TProgram → TRegion → TEffect → Bool
stands_in p r a = list_any (is_in_region p r) (a.stmt ∷ a.around)

-- those of a list
abbrev pub standing_in : TProgram → TRegion → List TEffect → List TEffect
standing_in p r es = filter (stands_in p r) es

-- a nonvolatile variable of a program: its number, its first word, its words and its name
pub record TStored : Type 0 where
  pub program : TProgram
  pub index : ℕ
  pub base : ℕ
  pub words : ℕ
  pub name : Text

-- the nonvolatile variables, the first of which has this number and begins at this word
abbrev pub stored_from : TProgram → (index base : ℕ) → List Text → List NvDecl → List TStored
stored_from p i base [] ds = []
stored_from p i base (x ∷ xs) [] = []
stored_from p i base (x ∷ xs) (d ∷ ds) =
    record {
      program = p;
      index = i;
      base = base;
      words = d.words;
      name = x;
    } ∷ stored_from p (i + 1) (base + d.words) xs ds

-- one of these statements assigns the variable, or calls a function that does
abbrev pub some_assigns : TProgram → List TEffect → TStored → Bool
some_assigns p es s = list_any (λ a. assigns p (Nv s.index) a || reaches s.program a.call s.name) es

-- those that the statements assign, as targets
abbrev pub stored_targets : TProgram → List TEffect → List TStored → List Target
stored_targets p es [] = []
stored_targets p es (s ∷ ss) =
    cond (some_assigns p es s) (targets.Nv s.base s.words ∷ []) [] ++ stored_targets p es ss

-- the parameters that the statements assign, as targets; the first one of these has the number `i`
abbrev pub slot_targets : TProgram → List TEffect → (i : ℕ) → List Param → List Target
slot_targets p es i [] = []
slot_targets p es i (q ∷ qs) =
    cond (list_any (assigns p (AParam i)) es) (targets.Param i (words_of q.kind) ∷ []) []
    ++ slot_targets p es (i + 1) qs
