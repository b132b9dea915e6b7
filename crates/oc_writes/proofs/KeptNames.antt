-- Which names may stand for a nonvolatile variable, and what an environment binds to it.
use Rattle.std.proofs.Common.{◌≡◌, ℕ, Bool, true, false, List, [], ◌∷◌, ◌++◌, Option, Some, None, cond, refl, ap, sym, ◌∙◌, subst}
use Rattle.std.specs.Prelude.{if◌then◌else◌}
use Rattle.std.specs.Option.{option_or}
use Rattle.std.specs.Str.{bytes_eq}
use Rattle.std.proofs.lemmas.List.{append-nil}
use Rattle.oc_tree.specs.Names.{Text}
use Rattle.oc_tree.specs.Tree.{TKind, let_to, let_array, TStmts, TProgram}
use Rattle.oc_tree.specs.declared.tree.VarId.{VarId}
use Rattle.oc_tree.specs.declared.tree.VarId.TheVariants.{Param}
use Rattle.oc_tree.specs.Calls.{place}
use Rattle.oc_tree.specs.Places.{Variables, find_variable, let_variables}
use Rattle.oc_meaning.specs.Store.{Place, Global, Store, Binding, binding_of, place_of}
use Rattle.oc_meaning.specs.Exec.{grown}

-- among variables one behind another
pub found_on : (vs ws : Variables) (y : Text) → find_variable (vs ++ ws) y ≡ option_or (find_variable vs y) (find_variable ws y)
found_on [] ws y = refl
found_on (v ∷ vs) ws y = by (bytes_eq y v.0) (found_on vs ws y)
  where
    by : (b : Bool) → find_variable (vs ++ ws) y ≡ option_or (find_variable vs y) (find_variable ws y) → cond b (Some v.1) (find_variable (vs ++ ws) y)
        ≡ option_or (cond b (Some v.1) (find_variable vs y)) (find_variable ws y)
    by true e = refl
    by false e = e

-- a variable more is not found under another name
pub found_before : (vs : Variables) (y z : Text) (w : VarId) → bytes_eq y z ≡ false → find_variable (vs ++ (z, w) ∷ []) y ≡ find_variable vs y
found_before vs y z w e = found_on vs ((z, w) ∷ []) y ∙ ap (λ b. option_or (find_variable vs y) (cond b (Some w) None)) e ∙ by (find_variable vs y)
  where
    by : (o : Option VarId) → option_or o None ≡ o
    by None = refl
    by (Some v) = refl

-- a name stands for the nonvolatile variable i, by itself or as a parameter for which it was passed
module _ (p : TProgram) (i : ℕ) (passed : ℕ → Place) where
  pub data Names (vs : Variables) (y : Text) : Type 0 where
    own : find_variable vs y ≡ None → place p.names.nvs y ≡ Some i → Names vs y
    given : (j : ℕ) → find_variable vs y ≡ Some (Param j) → passed j ≡ Global i → Names vs y

  -- each name that is bound to the variable stands for it
  abbrev pub Seen : Variables → List Binding → Type 0
  Seen vs env = (y : Text) → place_of env y ≡ Global i → Names vs y

  -- another name still stands for it behind a declaration
  pub names_more : (vs : Variables) (y z : Text) (w : VarId) → bytes_eq y z ≡ false → Names vs y → Names (vs ++ (z, w) ∷ []) y
  names_more vs y z w e (own none is) = own (found_before vs y z w e ∙ none) is
  names_more vs y z w e (given j some is) = given j (found_before vs y z w e ∙ some) is

  -- a new variable is another one
  pub seen_more : (vs : Variables) (env : List Binding) (b : Binding) (w : VarId) → (b.place ≡ Global i → ⊥) → Seen vs env → Seen (vs ++ (b.name, w) ∷ []) (b ∷ env)
  seen_more vs env b w other seen y = by (bytes_eq y b.name) refl
    where
      by : (t : Bool) → bytes_eq y b.name ≡ t → (if t then b else binding_of env y).place ≡ Global i → Names (vs ++ (b.name, w) ∷ []) y
      by true is e = absurd (other e)
      by false is e = names_more vs y b.name w is (seen y e)

  -- nothing is declared
  pub seen_same : (vs : Variables) (env : List Binding) → Seen vs env → Seen (vs ++ []) env
  seen_same vs env seen = subst (λ ws. Seen ws env) (sym (append-nil vs)) seen

  -- behind a statement
  pub seen_behind : (vs : Variables) (env : List Binding) (id : ℕ) (k : TKind) (rest : TStmts) (σ : Store) → Seen vs env → Seen (vs ++ let_variables id k) (grown k rest env σ)
  seen_behind vs env id (let_to m x t r) rest σ seen = seen_more vs env _ _ (λ e. absurd (cc)) seen
  seen_behind vs env id (let_array m x t z n) rest σ seen = seen_more vs env _ _ (λ e. absurd (cc)) seen
  seen_behind vs env id k rest σ seen = seen_same vs env seen
