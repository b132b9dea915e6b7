-- The scope that variables tell: it has their names, and grows as they do.
use Rattle.std.proofs.Common.{◌≡◌, inl, inr, ℕ, ◌+◌, ◌<◌, Bool, true, false, List, [], ◌∷◌, ◌++◌, length, Option, Some, None, cond, refl, sym, ap, ◌∙◌, subst}
use Rattle.std.proofs.Common.{arith, append_assoc, length-append}
use Rattle.std.specs.Prelude.{ℤ, slice_get}
use Rattle.std.specs.Str.{bytes_eq}
use Rattle.std.proofs.lemmas.Option.{none-some}
use Rattle.oc_tree.specs.Names.{Text}
use Rattle.oc_tree.specs.Tree.{TKind, let_to, let_array, TStmts, TProgram}
use Rattle.oc_tree.specs.declared.tree.Param.{Param}
use Rattle.oc_tree.specs.declared.tree.VarId.{VarId}
use Rattle.oc_tree.specs.declared.tree.VarId.TheVariants as variables
use Rattle.oc_tree.specs.declared.scope.Var.{Var}
use Rattle.oc_tree.specs.Scope.{Scope, variable_in, with_param, with_params}
use Rattle.oc_tree.specs.Elements.{turn_var}
use Rattle.oc_tree.specs.Types.{is_reference}
use Rattle.oc_tree.specs.Places.{Placed, Variables, find_variable, param_variables, placed}
use Rattle.oc_meaning.specs.Store.{Local, Store, Binding}
use Rattle.oc_meaning.specs.Exec.{bound_to, in_turn}
use Rattle.oc_effects.specs.Effects.{params_at}
use Rattle.oc_copies.specs.Stands.{Stands}
use Rattle.oc_copies.proofs.StandsOn.{stands_more}
use Rattle.oc_timely.specs.Scopes.{declared_var, var_declared, var_passed, var_of, scope_from, scope_of}

module _ (p : TProgram) (f : ℕ) where
  -- behind these variables, others
  pub scope_behind : (s : Scope) (vs ws : Variables) → scope_from p f s (vs ++ ws) ≡ scope_from p f (scope_from p f s vs) ws
  scope_behind s [] ws = refl
  scope_behind s (v ∷ vs) ws = scope_behind (s ++ (v.0, var_of p f s v.1) ∷ []) vs ws

  -- a name that no variable has is in no scope
  not_more : (s : Scope) (x y : Text) (v : Var) → variable_in s x ≡ None → bytes_eq x y ≡ false → variable_in (s ++ (y, v) ∷ []) x ≡ None
  not_more [] x y v e h = ap (λ b. cond b (Some v) None) h
  not_more (z ∷ s) x y v e h = by (bytes_eq x z.0) e (not_more s x y v)
    where
      by : (b : Bool) → cond b (Some z.1) (variable_in s x) ≡ None → (variable_in s x ≡ None → bytes_eq x y ≡ false → variable_in (s ++ (y, v) ∷ []) x ≡ None) →
          cond b (Some z.1) (variable_in (s ++ (y, v) ∷ []) x) ≡ None
      by true q rest = absurd (none-some z.1 (sym q))
      by false q rest = rest q h

  pub none_from : (s : Scope) (vs : Variables) (x : Text) → variable_in s x ≡ None → find_variable vs x ≡ None → variable_in (scope_from p f s vs) x ≡ None
  none_from s [] x e n = e
  none_from s (v ∷ vs) x e n = by (bytes_eq x v.0) refl n (none_from (s ++ (v.0, var_of p f s v.1) ∷ []) vs x)
    where
      by : (b : Bool) → bytes_eq x v.0 ≡ b → cond b (Some v.1) (find_variable vs x) ≡ None →
          (variable_in (s ++ (v.0, var_of p f s v.1) ∷ []) x ≡ None → find_variable vs x ≡ None → variable_in (scope_from p f (s ++ (v.0, var_of p f s v.1) ∷ []) vs) x ≡ None)
          → variable_in (scope_from p f (s ++ (v.0, var_of p f s v.1) ∷ []) vs) x ≡ None
      by true is q rest = absurd (none-some v.1 (sym q))
      by false is q rest = rest (not_more s x v.0 (var_of p f s v.1) e is) q

  pub none_of : (vs : Variables) (x : Text) → find_variable vs x ≡ None → variable_in (scope_of p f vs) x ≡ None
  none_of vs x n = none_from [] vs x refl n

  -- and one that is in none is no variable's
  not_less : (s : Scope) (x y : Text) (v : Var) → variable_in (s ++ (y, v) ∷ []) x ≡ None → (variable_in s x ≡ None) × (bytes_eq x y ≡ false)
  not_less [] x y v e = by (bytes_eq x y) e
    where
      by : (b : Bool) → cond b (Some v) None ≡ None → ◌≡◌ {A = Option Var} None None × (b ≡ false)
      by true q = absurd (none-some v (sym q))
      by false q = (refl, refl)
  not_less (z ∷ s) x y v e = by (bytes_eq x z.0) e (not_less s x y v)
    where
      by : (b : Bool) → cond b (Some z.1) (variable_in (s ++ (y, v) ∷ []) x) ≡ None → (variable_in (s ++ (y, v) ∷ []) x ≡ None → (variable_in s x ≡ None) × (bytes_eq x y ≡ false)) →
          (cond b (Some z.1) (variable_in s x) ≡ None) × (bytes_eq x y ≡ false)
      by true q rest = absurd (none-some z.1 (sym q))
      by false q rest = rest q

  back_from : (s : Scope) (vs : Variables) (x : Text) → variable_in (scope_from p f s vs) x ≡ None → (variable_in s x ≡ None) × (find_variable vs x ≡ None)
  back_from s [] x e = (e, refl)
  back_from s (v ∷ vs) x e =
      let r = back_from (s ++ (v.0, var_of p f s v.1) ∷ []) vs x e in
      let n = not_less s x v.0 (var_of p f s v.1) r.0 in
      (n.0, ap (λ b. cond b (Some v.1) (find_variable vs x)) n.1 ∙ r.1)

  pub none_back : (vs : Variables) (x : Text) → variable_in (scope_of p f vs) x ≡ None → find_variable vs x ≡ None
  none_back vs x e = (back_from [] vs x e).1

  -- one variable more
  pub scope_more : (vs : Variables) (x : Text) (v : VarId) → scope_of p f (vs ++ (x, v) ∷ []) ≡ scope_of p f vs ++ (x, var_of p f (scope_of p f vs) v) ∷ []
  scope_more vs x v = scope_behind [] vs ((x, v) ∷ [])

  -- parameters
  params_from : (s : Scope) (i : ℕ) (before qs : List Param) → params_at p f ≡ before ++ qs → i ≡ length before → scope_from p f s (param_variables i qs) ≡ with_params s qs
  params_from s i before [] e n = refl
  params_from s i before (q ∷ qs) e n =
      ap (λ (v : Var). scope_from p f (s ++ (q.name, v) ∷ []) (param_variables (i + 1) qs)) (ap var_passed (ap (λ (rs : List Param). slice_get rs i) e ∙ at_end before i n))
      ∙ params_from (with_param s q) (i + 1) (before ++ q ∷ []) qs (e ∙ sym (append_assoc before (q ∷ []) qs)) (let l = length-append before (q ∷ []) in omega (arith, l, n))
    where
      at_end : (bs : List Param) (j : ℕ) → j ≡ length bs → slice_get (bs ++ q ∷ qs) j ≡ Some q
      at_end [] j m = ap (slice_get (q ∷ qs)) m
      at_end (b ∷ bs) j m = subst (λ k. slice_get (b ∷ (bs ++ q ∷ qs)) k ≡ Some q) (sym m) (at_end bs (length bs) refl)

  pub scope_start : (qs : List Param) → params_at p f ≡ qs → scope_of p f (param_variables 0 qs) ≡ with_params [] qs
  scope_start qs e = params_from [] 0 [] qs e refl

-- what a statement declares is no reference
plain_declared : (p : TProgram) (s : Scope) (id block : ℕ) (k : TKind) → is_reference (declared_var p s id block k).origin ≡ false
plain_declared p s id block (let_to m x t r) = refl
plain_declared p s id block (let_array m x t z n) = refl
plain_declared p s id block k = refl

plain_var : (p : TProgram) (s : Scope) (o : Option Placed) → is_reference (var_declared p s o).origin ≡ false
plain_var p s None = refl
plain_var p s (Some q) = plain_declared p s q.id q.at.block q.kind

module _ (p : TProgram) (f : ℕ) (vs : Variables) (env : List Binding) (σ τ : Store) (id : ℕ) (h : Stands p (scope_of p f vs) env σ) where
  -- behind a `let`
  pub stands_let : (x : Text) (rest : TStmts) (first : Store) → find_variable vs x ≡ None → length first.locals ≡ length σ.locals → length σ.locals < length τ.locals →
      Stands p (scope_of p f (vs ++ (x, variables.Declared id) ∷ [])) (bound_to x rest first ∷ env) τ
  stands_let x rest first none same more =
      subst (λ s. Stands p s (bound_to x rest first ∷ env) τ) (sym (scope_more p f vs x (variables.Declared id)))
      (stands_more p (scope_of p f vs) env σ τ (bound_to x rest first) (var_declared p (scope_of p f vs) (placed p id)) (none_of p f vs x none) (inl (ap Local same, more))
      (omega (arith, more)) (sym (plain_var p (scope_of p f vs) (placed p id))) h)

  -- in a turn of a `for`
  pub stands_turn : (x : Text) (i : ℤ) → find_variable vs x ≡ None → var_declared p (scope_of p f vs) (placed p id) ≡ turn_var →
      Stands p (scope_of p f (vs ++ (x, variables.Declared id) ∷ [])) (in_turn x i ∷ env) σ
  stands_turn x i none turn =
      subst (λ s. Stands p s (in_turn x i ∷ env) σ) (sym (scope_more p f vs x (variables.Declared id)))
      (stands_more p (scope_of p f vs) env σ σ (in_turn x i) (var_declared p (scope_of p f vs) (placed p id)) (none_of p f vs x none) (inr (i, refl, turn)) (omega arith)
      (sym (plain_var p (scope_of p f vs) (placed p id))) h)
