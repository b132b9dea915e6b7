-- What the rules say of the statements of a checked program where they stand: each name is the same to the rules and to
-- the places.
use Rattle.std.proofs.Common.{◌≡◌, ℕ, suc, ◌+◌, Bool, true, false, true≢false, List, [], ◌∷◌, ◌++◌, map, Option, Some, None, cond, refl, ap, sym, ◌∙◌, subst, arith}
use Rattle.std.specs.Prelude.{slice_get, option_map}
use Rattle.std.specs.Option.{option_or}
use Rattle.std.specs.Str.{bytes_eq}
use Rattle.std.proofs.lemmas.List.{append-nil}
use Rattle.oc_tree.specs.Names.{Text}
use Rattle.oc_tree.specs.Tree.{TKind, let_to, let_array, if_else, for_in, while_do, TElse, no_else, else_do, stmt, TBlock, block, TStmts, no_stmts, more, TFunction, TProgram}
use Rattle.oc_tree.specs.declared.tree.Param.{Param}
use Rattle.oc_tree.specs.declared.tree.NvDecl.{NvDecl}
use Rattle.oc_tree.specs.declared.tree.VarId.{VarId}
use Rattle.oc_tree.specs.declared.tree.VarId.TheVariants as variables
use Rattle.oc_tree.specs.declared.scope.Origin.{Origin}
use Rattle.oc_tree.specs.declared.scope.Origin.TheVariants as origins
use Rattle.oc_tree.specs.declared.scope.Var.{Var}
use Rattle.oc_tree.specs.Calls.{place_from, place}
use Rattle.oc_tree.specs.Assigned.{param_names}
use Rattle.oc_tree.specs.Places.{Place as Spot, Placed, Variables, find_variable, let_variables, param_variables, behind, in_branch, in_loop, at_start, kind_placed, else_placed}
use Rattle.oc_tree.specs.Places.{block_placed, stmts_placed}
use Rattle.oc_tree.specs.Scope.{Scope, variable_in, variable_of, or_nv, nv_var, param_var, with_param, with_params}
use Rattle.oc_tree.specs.Elements.{Here, inside, in_turn, before_stmts, scope_after, after_stmt, stmt_elements, kind_elements, else_elements, block_elements, stmts_elements, in_function}
use Rattle.oc_tree.specs.Rules.{origin_is}
use Rattle.oc_desugar.proofs.Unbroken.{Unbroken, unbroken}
use Rattle.oc_checked.proofs.BodiesPass.{AllFine, fine_front, fine_back}
use Rattle.oc_writes.proofs.Standing.{Each, each_join}
use Rattle.oc_writes.proofs.KeptNames.{found_on}

-- ---- one list of variables behind another

pub rule_found_on : (s t : Scope) (y : Text) → variable_in (s ++ t) y ≡ option_or (variable_in s y) (variable_in t y)
rule_found_on [] t y = refl
rule_found_on (v ∷ s) t y = by (bytes_eq y v.0) (rule_found_on s t y)
  where
    by : (b : Bool) → variable_in (s ++ t) y ≡ option_or (variable_in s y) (variable_in t y) → cond b (Some v.1) (variable_in (s ++ t) y)
        ≡ option_or (cond b (Some v.1) (variable_in s y)) (variable_in t y)
    by true e = refl
    by false e = e

module _ (p : TProgram) (f : TFunction) where
  -- ---- the same to both

  -- the parameter j of the function, by its name
  pub record IsParam (y : Text) (o : Origin) (j : ℕ) : Type 0 where
    pub param : Param
    pub stands : slice_get f.params j ≡ Some param
    pub placed : place (param_names f) y ≡ Some j
    pub origin : o ≡ origins.Param param.passing

  abbrev pub Same : Text → Option Var → Option VarId → Type 0
  Same y None None = Unit {0}
  Same y None (Some w) = ⊥
  Same y (Some v) None = ⊥
  Same y (Some v) (Some (variables.Nv i)) = ⊥
  Same y (Some v) (Some (variables.Param j)) = IsParam y v.origin j
  Same y (Some v) (Some (variables.Declared s)) = Unit {0}
  Same y (Some v) (Some variables.Returned) = ⊥

  abbrev pub AllSame : Scope → Variables → Type 0
  AllSame scope vs = (y : Text) → Same y (variable_in scope y) (find_variable vs y)

  -- one variable more
  same_or : (y : Text) (b : Bool) (v : Var) (s : ℕ) (o : Option Var) (w : Option VarId) → Same y o w
      → Same y (option_or o (cond b (Some v) None)) (option_or w (cond b (Some (variables.Declared s)) None))
  same_or y true v s None None h = tt
  same_or y false v s None None h = tt
  same_or y b v s None (Some w) h = absurd h
  same_or y b v s (Some u) None h = absurd h
  same_or y b v s (Some u) (Some w) h = h

  same_more : (scope : Scope) (vs : Variables) (z : Text) (v : Var) (s : ℕ) → AllSame scope vs → AllSame (scope ++ (z, v) ∷ []) (vs ++ (z, variables.Declared s) ∷ [])
  same_more scope vs z v s h y =
      let both = same_or y (bytes_eq y z) v s (variable_in scope y) (find_variable vs y) (h y) in
      subst (λ w. Same y (variable_in (scope ++ (z, v) ∷ []) y) w) (sym (found_on vs ((z, variables.Declared s) ∷ []) y))
      (subst (λ o. Same y o (option_or (find_variable vs y) (cond (bytes_eq y z) (Some (variables.Declared s)) None))) (sym (rule_found_on scope ((z, v) ∷ []) y)) both)

  same_on : (scope : Scope) (vs : Variables) → AllSame scope vs → AllSame scope (vs ++ [])
  same_on scope vs h = subst (AllSame scope) (sym (append-nil vs)) h

  -- behind a statement
  same_behind : (h : Here) (vs : Variables) (id : ℕ) (k : TKind) → AllSame h.scope vs → AllSame (scope_after p h id k) (vs ++ let_variables id k)
  same_behind h vs id (let_to m x t r) s = same_more h.scope vs x _ id s
  same_behind h vs id (let_array m x t z n) s = same_more h.scope vs x _ id s
  same_behind h vs id k s = same_on h.scope vs s

  -- ---- at the start of the body

  -- the parameter of a name
  abbrev by_name : List Param → Text → Option Var
  by_name [] y = None
  by_name (q ∷ qs) y = cond (bytes_eq y q.name) (Some (param_var q)) (by_name qs y)

  rule_params : (s : Scope) (qs : List Param) (y : Text) → variable_in (with_params s qs) y ≡ option_or (variable_in s y) (by_name qs y)
  rule_params s [] y = by (variable_in s y)
    where
      by : (o : Option Var) → o ≡ option_or o None
      by None = refl
      by (Some v) = refl
  rule_params s (q ∷ qs) y =
      rule_params (with_param s q) qs y
      ∙ ap (λ o. option_or o (by_name qs y)) (rule_found_on s ((q.name, param_var q) ∷ []) y)
      ∙ by (variable_in s y) (bytes_eq y q.name)
    where
      by : (o : Option Var) (b : Bool) → option_or (option_or o (cond b (Some (param_var q)) None)) (by_name qs y) ≡ option_or o (cond b (Some (param_var q)) (by_name qs y))
      by None true = refl
      by None false = refl
      by (Some v) b = refl

  params_same : (n : ℕ) (qs : List Param) (y : Text) → ((j : ℕ) → slice_get f.params (n + j) ≡ slice_get qs j) → place (param_names f) y ≡ place_from n (map (λ q. q.name) qs) y
      → Same y (by_name qs y) (find_variable (param_variables n qs) y)
  params_same n [] y there placed = tt
  params_same n (q ∷ qs) y there placed = by (bytes_eq y q.name) placed (params_same (n + 1) qs y (λ j. let e : n + 1 + j ≡ n + suc j = omega arith in ap (slice_get f.params) e ∙ there (suc j)))
    where
      by : (b : Bool) → place (param_names f) y ≡ cond b (Some n) (place_from (n + 1) (map (λ q. q.name) qs) y)
          → (place (param_names f) y ≡ place_from (n + 1) (map (λ q. q.name) qs) y → Same y (by_name qs y) (find_variable (param_variables (n + 1) qs) y))
          → Same y (cond b (Some (param_var q)) (by_name qs y)) (cond b (Some (variables.Param n)) (find_variable (param_variables (n + 1) qs) y))
      by true e rest = let first : n + 0 ≡ n = omega arith in record { param = q; stands = sym (ap (slice_get f.params) first) ∙ there 0; placed = e; origin = refl }
      by false e rest = rest e

  start_same : AllSame (with_params [] f.params) (at_start f).variables
  start_same y =
      let all = params_same 0 f.params y (λ j. let e : 0 + j ≡ j = omega arith in ap (slice_get f.params) e) refl in
      subst (λ o. Same y o (find_variable (param_variables 0 f.params) y)) (sym (rule_params [] f.params y)) all

  -- ---- the rules where statements stand

  pub record Ruled (a : Placed) : Type 0 where
    pub here : Here
    pub rules : Unbroken p here a.kind
    pub same : AllSame here.scope a.at.variables

  mutual
    kind_ruled : (h : Here) (at : Spot) (id : ℕ) (k : TKind) → AllSame h.scope at.variables → AllFine p (kind_elements p h k) → Each Ruled (kind_placed at id k)
    kind_ruled h at id (if_else c a b) s fine =
        each_join Ruled (block_placed (in_branch at id) a) (else_placed (in_branch at id) b)
        (block_ruled (inside h) (in_branch at id) a s (fine_front p (block_elements p (inside h) a) (else_elements p (inside h) b) fine))
        (else_ruled (inside h) (in_branch at id) b s (fine_back p (block_elements p (inside h) a) (else_elements p (inside h) b) fine))
    kind_ruled h at id (for_in x m n b) s fine = block_ruled (in_turn h x) (in_loop at id ((x, variables.Declared id) ∷ [])) b (same_more h.scope at.variables x _ id s) fine
    kind_ruled h at id (while_do c n b) s fine = block_ruled (inside h) (in_loop at id []) b (same_on h.scope at.variables s) fine
    kind_ruled h at id k s fine = tt

    else_ruled : (h : Here) (at : Spot) (b : TElse) → AllSame h.scope at.variables → AllFine p (else_elements p h b) → Each Ruled (else_placed at b)
    else_ruled h at no_else s fine = tt
    else_ruled h at (else_do b) s fine = block_ruled h at b s fine

    pub block_ruled : (h : Here) (at : Spot) (b : TBlock) → AllSame h.scope at.variables → AllFine p (block_elements p h b) → Each Ruled (block_placed at b)
    block_ruled h at (block id ss) s fine = stmts_ruled (record h { block = id }) (record at { block = id }) ss s fine

    stmts_ruled : (h : Here) (at : Spot) (ss : TStmts) → AllSame h.scope at.variables → AllFine p (stmts_elements p h ss) → Each Ruled (stmts_placed at ss)
    stmts_ruled h at no_stmts s fine = tt
    stmts_ruled h at (more (stmt id line k) ss) s fine =
        let here = before_stmts h ss in
        let own = fine_front p (stmt_elements p here (stmt id line k)) (stmts_elements p (after_stmt p h (stmt id line k)) ss) fine in
        let rest = fine_back p (stmt_elements p here (stmt id line k)) (stmts_elements p (after_stmt p h (stmt id line k)) ss) fine in (
          record { here = here; rules = unbroken p own.0.0 here k own.0.1; same = s },
          each_join Ruled (kind_placed at id k) (stmts_placed (behind at id k) ss) (kind_ruled here at id k s own.1)
              (stmts_ruled (after_stmt p h (stmt id line k)) (behind at id k) ss (same_behind h at.variables id k s) rest),
        )

  -- all statements of the function, the number of which is u
  pub body_ruled : (u : ℕ) → AllFine p (block_elements p (in_function f u) f.body) → Each Ruled (block_placed (at_start f) f.body)
  body_ruled u fine = block_ruled (in_function f u) (at_start f) f.body start_same fine

  -- ---- what the rules say of the origin of a name

  -- what is found as a parameter is one of the function's
  pub param_found : (scope : Scope) (vs : Variables) → AllSame scope vs → (y : Text) (j : ℕ) → find_variable vs y ≡ Some (variables.Param j)
      → (v : Var) × (variable_in scope y ≡ Some v) × IsParam y v.origin j
  param_found scope vs same y j e = by (variable_in scope y) refl (subst (Same y (variable_in scope y)) e (same y))
    where
      by : (o : Option Var) → variable_in scope y ≡ o → Same y o (Some (variables.Param j)) → (v : Var) × (variable_in scope y ≡ Some v) × IsParam y v.origin j
      by None is s = absurd s
      by (Some v) is s = (v, is, s)

  -- it is a parameter that passes the test
  pub record Passes (test : Origin → Bool) (y : Text) (j : ℕ) : Type 0 where
    pub param : Param
    pub stands : slice_get f.params j ≡ Some param
    pub placed : place (param_names f) y ≡ Some j
    pub passes : test (origins.Param param.passing) ≡ true

  module _ (test : Origin → Bool) (scope : Scope) (vs : Variables) (same : AllSame scope vs) (y : Text) (h : origin_is test (variable_of p scope y) ≡ true) where
    -- a parameter passes it
    pub param_passes : (j : ℕ) → find_variable vs y ≡ Some (variables.Param j) → Passes test y j
    param_passes j e =
        let found = param_found scope vs same y j e in
        let own : test found.0.origin ≡ true = sym (ap (λ o. origin_is test (or_nv p y o)) found.1) ∙ h in
        record { param = found.2.param; stands = found.2.stands; placed = found.2.placed; passes = subst (λ o. test o ≡ true) found.2.origin own }

    -- what is no variable of the function is a nonvolatile one
    pub own_passes : find_variable vs y ≡ None → test origins.Nv ≡ true
    own_passes e = by (variable_in scope y) (subst (Same y (variable_in scope y)) e (same y)) h
      where
        by_decl : (o : Option NvDecl) → origin_is test (option_map nv_var o) ≡ true → test origins.Nv ≡ true
        by_decl None g = absurd (true≢false (sym g))
        by_decl (Some d) g = g

        by : (o : Option Var) → Same y o None → origin_is test (or_nv p y o) ≡ true → test origins.Nv ≡ true
        by None s g = by_decl _ g
        by (Some v) s g = absurd s
