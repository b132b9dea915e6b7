-- In a checked program each value is plain: no reference stands in it by its name alone, and no input or call.
use Rattle.std.proofs.Common.{◌≡◌, ◌+◌, ℕ, zero, suc, Bool, true, false, true≢false, List, [], ◌∷◌, sum_by, cond, Option, Some, None, refl, sym, ap, ◌∙◌, arith}
use Rattle.std.proofs.lemmas.Bool.{and_parts}
use Rattle.std.specs.Prelude.{is_some, slice_get, ◌||◌}
use Rattle.std.proofs.lemmas.List.Sums.{sum_by-cons}
use Rattle.std.proofs.lemmas.Option.{none-some, same_Some}
use Rattle.oc_tree.specs.Names.{Text}
use Rattle.oc_tree.specs.Tree.{TExpr, number, truth, variable, index, deref, unary, binary, sensed, called, TArg, value, shared, mutable, TCall, call, TArgs, no_args, more_args, TRight}
use Rattle.oc_tree.specs.Tree.{right_value, right_sense, right_call, TKind, let_to, let_array, assign, assign_index, assign_deref, if_else, for_in, while_do, call_only, sense_only, emit}
use Rattle.oc_tree.specs.Tree.{fresh, consistent, return, TElse, no_else, else_do, stmt, TBlock, block, TStmts, no_stmts, more, TFunction, TProgram}
use Rattle.oc_tree.specs.declared.scope.Var.{Var}
use Rattle.oc_tree.specs.Pulls.{expr_pulls, args_pulls, call_pulls, right_pulls, own_pulls, inner_pulls, else_pulls, block_pulls, stmts_pulls}
use Rattle.oc_tree.specs.Stack.{kind_slots, block_slots}
use Rattle.oc_tree.specs.Scope.{Scope, variable_of}
use Rattle.oc_tree.specs.Types.{is_reference, is_int, has_elements, type_of}
use Rattle.oc_tree.specs.Elements.{Here, after_stmt, in_turn, inside, before_stmts, kind_elements, else_elements, stmt_elements, block_elements, stmts_elements}
use Rattle.oc_tree.specs.Rules.{only_reference, passed_on, unary_fits, binary_fits, expr_fits, args_fit, arg_fits, call_fits, right_fits}
use Rattle.oc_meaning.specs.Uses.{is_use}
use Rattle.oc_code.specs.Scope.{Named, slot_of, address_slot, passed_slot, is_fresh_in, in_scope, for_named}
use Rattle.oc_code.proofs.Spent.{IsPlain}
use Rattle.oc_desugar.proofs.Unbroken.{Unbroken, unbroken}
use Rattle.oc_checked.proofs.BodiesPass.{AllFine, fine_front, fine_back}
use Rattle.oc_formed.proofs.BodiesArguments.{own_value}
use Rattle.oc_formed.proofs.BodiesKinds.{found_behind, found_inside}
use Rattle.oc_formed.proofs.ScopesSeen.{AllFound}
use Rattle.oc_watch.proofs.Compared.{arg_counted, args_counted, call_counted, right_counted, kind_counted, else_counted, block_counted, stmts_counted}

-- ---- values

module _ (p : TProgram) (scope : Scope) (γ : List Named) (all : AllFound p scope γ) where
  plain : (e : TExpr) → expr_fits p scope e ≡ true → expr_pulls e ≡ 0 → IsPlain γ e
  plain (number z) fits none = tt
  plain (truth b) fits none = tt
  plain (variable x) fits none = own_value p scope γ all x fits
  plain (index x e) fits none = plain e (and_parts (expr_fits p scope e) (is_int (type_of p scope e)) (and_parts (has_elements (variable_of p scope x)) _ fits).1).0 none
  plain (deref x) fits none = tt
  plain (unary op e) fits none = plain e (and_parts (expr_fits p scope e) (unary_fits op (type_of p scope e)) fits).0 none
  plain (binary op a b) fits none =
      let rest = (and_parts (expr_fits p scope a) _ fits).1 in (
        plain a (and_parts (expr_fits p scope a) _ fits).0 (omega (arith, none)),
        plain b (and_parts (expr_fits p scope b) (binary_fits op (type_of p scope a) (type_of p scope b)) rest).0
            (omega (arith, none)),
      )
  plain (sensed s) fits none = absurd (omega (arith, none))
  plain (called c) fits none = absurd (omega (arith, none))

  -- a name that may be passed on is one of a reference
  passes : (x : Text) (o : Option Var) → variable_of p scope x ≡ o → is_some (only_reference o) ≡ true → address_slot (slot_of γ x) ≡ None → ⊥
  passes x None is h none = true≢false (sym h)
  passes x (Some v) is h none = by (is_reference v.origin) refl h
    where
      by : (b : Bool) → is_reference v.origin ≡ b → is_some (cond b (Some v) None) ≡ true → ⊥
      by true e h = true≢false (sym (sym (ap is_some none) ∙ (all x v is).reference ∙ e))
      by false e h = true≢false (sym h)

  arg_plain : (a : TArg) → arg_fits p scope a ≡ true → args_pulls (more_args a no_args) ≡ 0 → arg_counted γ a
  arg_plain (shared x) fits none = tt
  arg_plain (mutable x) fits none = tt
  arg_plain (value e) fits none = λ own. by e (is_some (passed_on p scope e)) refl fits (omega (arith, none)) own
    where
      by : (e : TExpr) (b : Bool) → is_some (passed_on p scope e) ≡ b → b || expr_fits p scope e ≡ true → expr_pulls e ≡ 0 → passed_slot γ e ≡ None → IsPlain γ e
      by e false is h z own = plain e h z
      by (variable x) true is h z own = absurd (passes x (variable_of p scope x) refl is own)
      by e true is h z own = absurd (true≢false (sym is))

  args_plain : (args : TArgs) → args_fit p scope args ≡ true → args_pulls args ≡ 0 → args_counted γ args
  args_plain no_args fits none = tt
  args_plain (more_args a rest) fits none = (
    arg_plain a (and_parts (arg_fits p scope a) (args_fit p scope rest) fits).0 (omega (arith, none)),
    args_plain rest (and_parts (arg_fits p scope a) (args_fit p scope rest) fits).1
        (omega (arith, none)),
  )

  call_plain : (c : TCall) → call_fits p scope c ≡ true → call_pulls c ≡ 0 → call_counted γ c
  call_plain (call f args) fits none = args_plain args fits none

  right_plain : (r : TRight) → right_fits p scope r ≡ true → right_pulls r ≡ 0 → right_counted γ r
  right_plain (right_value e) fits none = plain e fits none
  right_plain (right_sense s) fits none = tt
  right_plain (right_call c) fits none = call_plain c fits none

-- ---- what names a fresh variable is told as a use

module _ (uses : ℕ → Bool) where
  abbrev mutual
    pub kind_told : List Named → ℕ → TKind → Type 0
    kind_told γ s (if_else c a b) = block_told γ s a × else_told γ (s + block_slots a) b
    kind_told γ s (for_in x c d b) = block_told (for_named x s ∷ γ) (s + 1) b
    kind_told γ s (while_do c n b) = block_told γ (s + 1) b
    kind_told γ s k = Unit {0}

    pub else_told : List Named → ℕ → TElse → Type 0
    else_told γ s no_else = Unit {0}
    else_told γ s (else_do b) = block_told γ s b

    pub block_told : List Named → ℕ → TBlock → Type 0
    block_told γ s (block id ss) = stmts_told γ s ss

    pub stmts_told : List Named → ℕ → TStmts → Type 0
    stmts_told γ s no_stmts = Unit {0}
    stmts_told γ s (more (stmt n line k) rest) =
        (is_use (is_fresh_in γ) k ≡ true → uses n ≡ true) × kind_told γ s k × stmts_told (in_scope k s rest γ) (s + kind_slots k) rest

-- ---- statements

module _ (p : TProgram) (uses : ℕ → Bool) where
  mutual
    kind_plain : (h : Here) (γ : List Named) (s : ℕ) (k : TKind) → AllFound p h.scope γ → Unbroken p h k → AllFine p (kind_elements p h k) → own_pulls k ≡ 0 → inner_pulls k ≡ 0
        → kind_told uses γ s k → kind_counted uses γ s k
    kind_plain h γ s (let_to m x t r) all u fine own none told = right_plain p h.scope γ all r u.fits own
    kind_plain h γ s (let_array m x t z n) all u fine own none told = tt
    kind_plain h γ s (assign x r) all u fine own none told = right_plain p h.scope γ all r u.fits own
    kind_plain h γ s (assign_index x e r) all u fine own none told =
        let parts = (and_parts (has_elements (variable_of p h.scope x)) _ u.fits).1 in
        let rest = (and_parts (expr_fits p h.scope e) _ parts).1 in (
          right_plain p h.scope γ all r (and_parts (is_int (type_of p h.scope e)) (right_fits p h.scope r) rest).1 (omega (arith, own)),
          plain p h.scope γ all e
              (and_parts (expr_fits p h.scope e) _ parts).0 (omega (arith, own)),
        )
    kind_plain h γ s (assign_deref x r) all u fine own none told = right_plain p h.scope γ all r (and_parts _ (right_fits p h.scope r) u.fits).1 own
    kind_plain h γ s (if_else c a b) all u fine own none told =
        let xs = block_elements p (inside h) a in
        let ys = else_elements p (inside h) b in (
          plain p h.scope γ all c u.fits own,
          block_plain (inside h) γ s a all (fine_front p xs ys fine) (omega (arith, none)) told.0,
          else_plain (inside h) γ (s + block_slots a) b all
              (fine_back p xs ys fine) (omega (arith, none)) told.1,
        )
    kind_plain h γ s (for_in x c d b) all u fine own none told = block_plain (in_turn h x) (for_named x s ∷ γ) (s + 1) b (found_inside p h γ s x c d b u.taken all) fine none told
    kind_plain h γ s (while_do c n b) all u fine own none told = (plain p h.scope γ all c u.fits own, block_plain (inside h) γ (s + 1) b all fine none told)
    kind_plain h γ s (call_only c) all u fine own none told = call_plain p h.scope γ all c u.fits own
    kind_plain h γ s (sense_only x) all u fine own none told = tt
    kind_plain h γ s (emit q e) all u fine own none told = plain p h.scope γ all e u.fits own
    kind_plain h γ s (fresh x) all u fine own none told = tt
    kind_plain h γ s (consistent x n) all u fine own none told = tt
    kind_plain h γ s (return e) all u fine own none told = plain p h.scope γ all e u.fits own

    else_plain : (h : Here) (γ : List Named) (s : ℕ) (b : TElse) → AllFound p h.scope γ → AllFine p (else_elements p h b) → else_pulls b ≡ 0 → else_told uses γ s b → else_counted uses γ s b
    else_plain h γ s no_else all fine none told = tt
    else_plain h γ s (else_do b) all fine none told = block_plain h γ s b all fine none told

    pub block_plain : (h : Here) (γ : List Named) (s : ℕ) (b : TBlock) → AllFound p h.scope γ → AllFine p (block_elements p h b) → block_pulls b ≡ 0 → block_told uses γ s b
        → block_counted uses γ s b
    block_plain h γ s (block id ss) all fine none told = stmts_plain (record h { block = id }) γ s ss all fine none told

    stmts_plain : (h : Here) (γ : List Named) (s : ℕ) (ss : TStmts) → AllFound p h.scope γ → AllFine p (stmts_elements p h ss) → stmts_pulls ss ≡ 0 → stmts_told uses γ s ss
        → stmts_counted uses γ s ss
    stmts_plain h γ s no_stmts all fine none told = tt
    stmts_plain h γ s (more (stmt n line k) rest) all fine none told =
        let here = before_stmts h rest in
        let next = after_stmt p h (stmt n line k) in
        let xs = stmt_elements p here (stmt n line k) in
        let ys = stmts_elements p next rest in
        let one = fine_front p xs ys fine in
        let u : Unbroken p here k = unbroken p one.0.0 here k one.0.1 in (
          told.0,
          kind_plain here γ s k all u one.1 (omega (arith, none)) (omega (arith, none)) told.1,
          stmts_plain next (in_scope k s rest γ) (s + kind_slots k) rest (found_behind p h γ n s k rest u.taken all) (fine_back p xs ys fine) (omega (arith, none)) told.2,
        )

-- no function has a pull
pub function_plain : (fs : List TFunction) (i : ℕ) (f : TFunction) → slice_get fs i ≡ Some f → sum_by (λ g. block_pulls g.body) fs ≡ 0 → block_pulls f.body ≡ 0
function_plain [] i f e none = absurd (none-some f e)
function_plain (g ∷ fs) zero f e none = let s = ap (λ h. block_pulls h.body) (same_Some g f e) in omega (arith, s, none, sum_by-cons (λ g. block_pulls g.body) g fs)
function_plain (g ∷ fs) (suc i) f e none = function_plain fs i f e (omega (arith, none, sum_by-cons (λ g. block_pulls g.body) g fs))
