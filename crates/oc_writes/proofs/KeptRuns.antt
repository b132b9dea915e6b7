-- Statements that neither write a nonvolatile variable, nor hand it to a function that does, leave it alone.
use Rattle.std.proofs.Common.{◌≡◌, ℕ, ◌+◌, Bool, true, false, List, [], ◌∷◌, length, Option, Some, None, refl, ◌∙◌, subst}
use Rattle.std.specs.Prelude.{ℤ, ◌-ℤ◌, if◌then◌else◌}
use Rattle.oc_tree.specs.Names.{Text, NameLists}
use Rattle.oc_tree.specs.Tree.{TExpr, variable, TArg, value, shared, mutable, TCall, call, TArgs, no_args, more_args, TRight, right_value, right_sense, right_call, TKind, let_to}
use Rattle.oc_tree.specs.Tree.{let_array, assign, assign_index, assign_deref, if_else, for_in, while_do, call_only, sense_only, emit, fresh, consistent, return, TElse, no_else}
use Rattle.oc_tree.specs.Tree.{else_do, stmt, TBlock, block, TStmts, no_stmts, more, TProgram}
use Rattle.oc_tree.specs.declared.tree.VarId.TheVariants as variables
use Rattle.oc_tree.specs.Calls.{function_place}
use Rattle.oc_tree.specs.Assigned.{alone, first_param, takes_mutable, param_assigned, reaches_assign}
use Rattle.oc_tree.specs.Marked.{TRegion}
use Rattle.oc_tree.specs.Places.{Place as Spot, Placed, Variables, behind, in_branch, in_loop, kind_placed, else_placed, block_placed, stmts_placed}
use Rattle.oc_tree.specs.Weight.{count_of}
use Rattle.oc_meaning.specs.Store.{Held, Place, Global, Store, Binding, binding_of, place_of, holding, made}
use Rattle.oc_meaning.specs.Eval.{Got, Val, Traps, is_zero, value_of}
use Rattle.oc_meaning.specs.Uses.{is_fresh, is_use, use_samples, begins_use, ends_use}
use Rattle.oc_meaning.specs.Exec.{Outcome, Went, Passed, Copied, Lent, Passing, Passes, Breaks, number_in, sense, used, done, opened, closed, begun_by, ended_by, finished}
use Rattle.oc_meaning.specs.Exec.{passed_first, copied_first, passed_on, value_first, arg_first, args_of, in_turn, grown, entered, call_run, right_run, kind_run}
use Rattle.oc_meaning.specs.Exec.{else_run, block_run, stmts_run}
use Rattle.oc_writes.specs.Kept.{store_after}
use Rattle.oc_writes.proofs.Standing.{Each, each_front, each_back}
use Rattle.oc_writes.proofs.KeptStore.{cell, Keeps, put_keeps, opened_keeps, closed_keeps, used_keeps, done_keeps, value_keeps, then_keeps, result_keeps, dropped_keeps}
use Rattle.oc_writes.proofs.KeptStore.{leave_keeps, finished_keeps, sense_keeps, args_keep, element_keeps, for_keeps, while_keeps}
use Rattle.oc_writes.proofs.KeptNames.{Names, Seen, seen_more, seen_same, seen_behind}

-- the name that an argument may hand on by reference
abbrev pub handed : TArg → Option Text
handed (value e) = alone e
handed (shared y) = Some y
handed (mutable y) = Some y

module _ (p : TProgram) where
  -- the parameter l of the function v is not assigned through
  abbrev pub IsSafe : (v l : ℕ) → Type 0
  IsSafe v l = takes_mutable p.functions v l ≡ true → param_assigned p.functions (first_param p.functions v + l) ≡ false

module _ (p : TProgram) (i : ℕ) where
  -- what is passed to the parameters of the function v from l on isn't assigned through, where it is the variable
  abbrev pub PassedSpared : (v l : ℕ) → List Passed → Type 0
  PassedSpared v l [] = Unit {0}
  PassedSpared v l (Copied w ∷ ps) = PassedSpared v (l + 1) ps
  PassedSpared v l (Lent q ∷ ps) = (q ≡ Global i → IsSafe p v l) × PassedSpared v (l + 1) ps

  abbrev PassingSpared : (v l : ℕ) → Passing → Type 0
  PassingSpared v l (Passes ps) = PassedSpared v l ps
  PassingSpared v l (Breaks k) = Unit {0}

  -- a call that is spared leaves the variable alone
  abbrev pub CallsKeep : (x : Text) → (Text → List Passed → Store → Outcome) → Type 0
  CallsKeep x call_of = (f : Text) (ps : List Passed) (σ : Store)
      → ((v : ℕ) → function_place p.functions f ≡ Some v → (reaches_assign p.functions x v ≡ false) × PassedSpared v 0 ps) → cell i (store_after (call_of f ps σ)) ≡ cell i σ

module _ (p : TProgram) (i : ℕ) (x : Text) (passed : ℕ → Place) where
  -- ---- statements

  -- an argument for the parameter l of the function v hands the variable on to no parameter that is assigned through
  abbrev pub ArgSpared : Variables → (v l : ℕ) → TArg → Type 0
  ArgSpared vs v l a = (y : Text) → handed a ≡ Some y → Names p i passed vs y → IsSafe p v l

  abbrev pub ArgsSpared : Variables → (v l : ℕ) → TArgs → Type 0
  ArgsSpared vs v l no_args = Unit {0}
  ArgsSpared vs v l (more_args a rest) = ArgSpared vs v l a × ArgsSpared vs v (l + 1) rest

  -- the called function doesn't assign it either
  abbrev pub CallSpared : Variables → TCall → Type 0
  CallSpared vs (call f args) = (v : ℕ) → function_place p.functions f ≡ Some v → (reaches_assign p.functions x v ≡ false) × ArgsSpared vs v 0 args

  abbrev pub RightSpared : Variables → TRight → Type 0
  RightSpared vs (right_value e) = Unit {0}
  RightSpared vs (right_sense s) = Unit {0}
  RightSpared vs (right_call c) = CallSpared vs c

  -- a statement itself doesn't assign it
  abbrev pub KindSpared : Variables → TKind → Type 0
  KindSpared vs (let_to m y t r) = RightSpared vs r
  KindSpared vs (assign y r) = (Names p i passed vs y → ⊥) × RightSpared vs r
  KindSpared vs (assign_index y e r) = (Names p i passed vs y → ⊥) × RightSpared vs r
  KindSpared vs (assign_deref y r) = (Names p i passed vs y → ⊥) × RightSpared vs r
  KindSpared vs (call_only c) = CallSpared vs c
  KindSpared vs k = Unit {0}

  abbrev pub Spared : Placed → Type 0
  Spared a = KindSpared a.at.variables a.kind

  -- ---- what is passed

  module _ (env : List Binding) (σ : Store) (vs : Variables) (seen : Seen p i passed vs env) (v : ℕ) where
    lent_spared : (l : ℕ) (q : Place) (rest : Passing) → (q ≡ Global i → IsSafe p v l) → PassingSpared p i v (l + 1) rest → PassingSpared p i v l (passed_first (Lent q) rest)
    lent_spared l q (Passes ps) h r = (h, r)
    lent_spared l q (Breaks k) h r = tt

    copied_spared : (l : ℕ) (g : Got) (rest : Passing) → PassingSpared p i v (l + 1) rest → PassingSpared p i v l (copied_first g rest)
    copied_spared l (Val w) (Passes ps) r = r
    copied_spared l (Val w) (Breaks k) r = tt
    copied_spared l (Traps k) rest r = tt

    value_spared : (l : ℕ) (e : TExpr) (rest : Passing) → ArgSpared vs v l (value e) → PassingSpared p i v (l + 1) rest → PassingSpared p i v l (value_first (passed_on env e) (value_of env σ e) rest)
    value_spared l (variable y) rest h r = by (binding_of env y).reference
      where
        by : (t : Bool) → PassingSpared p i v l (value_first (if t then Some (place_of env y) else None) (value_of env σ (variable y)) rest)
        by true = lent_spared l (place_of env y) rest (λ e. h y refl (seen y e)) r
        by false = copied_spared l (value_of env σ (variable y)) rest r
    value_spared l e rest h r = copied_spared l (value_of env σ e) rest r

    arg_spared : (l : ℕ) (a : TArg) (rest : Passing) → ArgSpared vs v l a → PassingSpared p i v (l + 1) rest → PassingSpared p i v l (arg_first env σ a rest)
    arg_spared l (value e) rest h r = value_spared l e rest h r
    arg_spared l (shared y) rest h r = lent_spared l (place_of env y) rest (λ e. h y refl (seen y e)) r
    arg_spared l (mutable y) rest h r = lent_spared l (place_of env y) rest (λ e. h y refl (seen y e)) r

    args_spared : (l : ℕ) (args : TArgs) → ArgsSpared vs v l args → PassingSpared p i v l (args_of env σ args)
    args_spared l no_args h = tt
    args_spared l (more_args a rest) h = arg_spared l a (args_of env σ rest) h.0 (args_spared (l + 1) rest h.1)

  -- ---- runs

  module _ (names : NameLists) (regions : List TRegion) (call_of : Text → List Passed → Store → Outcome) (home : ℤ → ℕ) (calls : CallsKeep p i x call_of) (h : Held) where
    call_keeps : (env : List Binding) (vs : Variables) (n : ℕ) (σ : Store) (c : TCall) → Seen p i passed vs env → CallSpared vs c → cell i σ ≡ h
        → Keeps i h (call_run names regions call_of home env n σ c)
    call_keeps env vs n σ (call f args) seen spared e =
        args_keep i h (args_of env σ args) n σ (λ ps. call_of f ps σ) e
        (λ ps is. calls f ps σ (λ v at. (let s = spared v at in (s.0, subst (PassingSpared p i v 0) is (args_spared env σ vs seen v 0 args s.1)))) ∙ e)

    right_keeps : (env : List Binding) (vs : Variables) (n : ℕ) (σ : Store) (r : TRight) → Seen p i passed vs env → RightSpared vs r → cell i σ ≡ h
        → Keeps i h (right_run names regions call_of home env n σ r)
    right_keeps env vs n σ (right_value a) seen spared e = value_keeps i h (value_of env σ a) n σ _ e (λ v. e)
    right_keeps env vs n σ (right_sense s) seen spared e = sense_keeps i h (number_in names.sensors s) σ.left σ e
    right_keeps env vs n σ (right_call c) seen spared e = call_keeps env vs n σ c seen spared e

    -- a name that doesn't stand for the variable isn't bound to it
    unbound : (env : List Binding) (vs : Variables) (y : Text) → Seen p i passed vs env → (Names p i passed vs y → ⊥) → place_of env y ≡ Global i → ⊥
    unbound env vs y seen free e = free (seen y e)

    -- what both are is either
    either : (b : Bool) (o q : Outcome) → Keeps i h o → Keeps i h q → Keeps i h (if b then o else q)
    either true o q f g = f
    either false o q f g = g

    assign_keeps : (env : List Binding) (vs : Variables) (n : ℕ) (σ : Store) (y : Text) (r : TRight) → Seen p i passed vs env → (Names p i passed vs y → ⊥) × RightSpared vs r
        → cell i σ ≡ h → Keeps i h (kind_run names regions call_of home env n (assign y r) σ)
    assign_keeps env vs n σ y r seen spared e =
        result_keeps i h (right_run names regions call_of home env n σ r) _ (right_keeps env vs n σ r seen spared.1 e)
        (λ v τ k. put_keeps i τ (place_of env y) _ (unbound env vs y seen spared.0) ∙ k)

    mutual
      kind_keeps : (env : List Binding) (at : Spot) (n : ℕ) (k : TKind) (σ : Store) → Seen p i passed at.variables env → KindSpared at.variables k
          → Each Spared (kind_placed at n k) → cell i σ ≡ h → Keeps i h (kind_run names regions call_of home env n k σ)
      kind_keeps env at n (let_to m y t r) σ seen own inner e =
          result_keeps i h (right_run names regions call_of home env n σ r) (λ v τ. Went (made (holding v) τ)) (right_keeps env at.variables n σ r seen own e) (λ v τ k. k)
      kind_keeps env at n (let_array m y t z c) σ seen own inner e = e
      kind_keeps env at n (assign y r) σ seen own inner e = assign_keeps env at.variables n σ y r seen own e
      kind_keeps env at n (assign_index y a r) σ seen own inner e =
          result_keeps i h (right_run names regions call_of home env n σ r) _ (right_keeps env at.variables n σ r seen own.1 e)
          (λ v τ k. value_keeps i h (value_of env τ a) n τ _ k (λ j. element_keeps i h (place_of env y) _ j v n τ (unbound env at.variables y seen own.0) k))
      kind_keeps env at n (assign_deref y r) σ seen own inner e = assign_keeps env at.variables n σ y r seen own e
      kind_keeps env at n (if_else c a b) σ seen own inner e =
          let first = block_keeps env (in_branch at n) a σ seen (each_front Spared (block_placed (in_branch at n) a) (else_placed (in_branch at n) b) inner) e in
          let second = else_keeps env (in_branch at n) b σ seen (each_back Spared (block_placed (in_branch at n) a) (else_placed (in_branch at n) b) inner) e in
          value_keeps i h (value_of env σ c) n σ _ e (λ v. either (is_zero v.num) (else_run names regions call_of home env b σ) (block_run names regions call_of home env a σ) second first)
      kind_keeps env at n (for_in y c d b) σ seen own inner e =
          for_keeps i h (count_of (d -ℤ c)) c (λ z. block_run names regions call_of home (in_turn y z ∷ env) b) σ
          (λ z τ k. block_keeps (in_turn y z ∷ env) (in_loop at n ((y, variables.Declared n) ∷ [])) b τ
          (seen_more p i passed at.variables env (in_turn y z) (variables.Declared n) (λ q. absurd (cc)) seen) inner k) e
      kind_keeps env at n (while_do c t b) σ seen own inner e =
          while_keeps i h t n (is_use (is_fresh env) (while_do c t b)) (use_samples env (while_do c t b)) (λ τ. value_of env τ c) (block_run names regions call_of home env b) [] σ
          (λ τ k. block_keeps env (in_loop at n []) b τ (seen_same p i passed at.variables env seen) inner k) e
      kind_keeps env at n (call_only c) σ seen own inner e = dropped_keeps i h (call_run names regions call_of home env n σ c) (call_keeps env at.variables n σ c seen own e)
      kind_keeps env at n (sense_only s) σ seen own inner e = dropped_keeps i h (sense (number_in names.sensors s) σ.left σ) (sense_keeps i h (number_in names.sensors s) σ.left σ e)
      kind_keeps env at n (emit q a) σ seen own inner e = value_keeps i h (value_of env σ a) n σ _ e (λ v. e)
      kind_keeps env at n (fresh y) σ seen own inner e = e
      kind_keeps env at n (consistent y z) σ seen own inner e = e
      kind_keeps env at n (return a) σ seen own inner e =
          value_keeps i h (value_of env σ a) n σ _ e
          (λ v. closed_keeps i (ended_by regions n) (done (is_use (is_fresh env) (return a)) n (use_samples env (return a) σ) σ)
          ∙ done_keeps i (is_use (is_fresh env) (return a)) n (use_samples env (return a) σ) σ ∙ e)

      else_keeps : (env : List Binding) (at : Spot) (b : TElse) (σ : Store) → Seen p i passed at.variables env → Each Spared (else_placed at b) → cell i σ ≡ h
          → Keeps i h (else_run names regions call_of home env b σ)
      else_keeps env at no_else σ seen inner e = e
      else_keeps env at (else_do b) σ seen inner e = block_keeps env at b σ seen inner e

      pub block_keeps : (env : List Binding) (at : Spot) (b : TBlock) (σ : Store) → Seen p i passed at.variables env → Each Spared (block_placed at b) → cell i σ ≡ h
          → Keeps i h (block_run names regions call_of home env b σ)
      block_keeps env at (block id ss) σ seen inner e =
          leave_keeps i h (length σ.locals) (stmts_run names regions call_of home env ss (entered id σ)) (stmts_keep env (record at { block = id }) ss (entered id σ) seen inner e)

      pub stmts_keep : (env : List Binding) (at : Spot) (ss : TStmts) (σ : Store) → Seen p i passed at.variables env → Each Spared (stmts_placed at ss) → cell i σ ≡ h
          → Keeps i h (stmts_run names regions call_of home env ss σ)
      stmts_keep env at no_stmts σ seen inner e = e
      stmts_keep env at (more (stmt n line k) rest) σ seen inner e =
          let ends = ends_use (is_fresh env) k in
          let begins = begins_use (is_fresh env) k in
          let set = use_samples env k σ in
          let start = opened (begun_by regions n) σ in
          let after : Store → Store = λ τ. closed (ended_by regions n) (done ends n set τ) in
          let run = kind_run names regions call_of home env n k (used begins n set start) in
          let first = kind_keeps env at n k (used begins n set start) seen inner.0 (each_front Spared (kind_placed at n k) (stmts_placed (behind at n k) rest) inner.1)
          (used_keeps i begins n set start ∙ opened_keeps i (begun_by regions n) σ ∙ e) in
          then_keeps i h (finished after run) (stmts_run names regions call_of home (grown k rest env σ) rest)
          (finished_keeps i h after run (λ τ. closed_keeps i (ended_by regions n) (done ends n set τ) ∙ done_keeps i ends n set τ) first)
          (λ τ q. stmts_keep (grown k rest env σ) (behind at n k) rest τ (seen_behind p i passed at.variables env n k rest σ seen)
          (each_back Spared (kind_placed at n k) (stmts_placed (behind at n k) rest) inner.1) q)
