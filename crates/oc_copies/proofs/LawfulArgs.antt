-- What rules leave of names in expressions and arguments.
use Rattle.std.proofs.Common.{◌≡◌, ◌+◌, Bool, true, false, true≢false, List, [], ◌∷◌, ◌++◌, length, Option, Some, None, cond, refl, ap, sym, ◌∙◌, arith}
use Rattle.std.proofs.lemmas.Bool.{and_parts}
use Rattle.std.specs.List.{list_all}
use Rattle.std.specs.Str.{bytes_eq}
use Rattle.std.proofs.lemmas.Slice.Eq.{bytes_eq-Decides}
use Rattle.std.proofs.lemmas.Option.{none-some, same_Some}
use Rattle.oc_tree.specs.Names.{Text}
use Rattle.oc_tree.specs.Tree.{TExpr, number, truth, variable, index, deref, unary, binary, sensed, called, TArg, value, shared, mutable, TCall, call, TArgs, no_args, more_args, TProgram}
use Rattle.oc_tree.specs.declared.tree.Param.{Param}
use Rattle.oc_tree.specs.declared.tree.Passing.{Passing}
use Rattle.oc_tree.specs.declared.tree.Passing.TheVariants as passings
use Rattle.oc_tree.specs.declared.tree.ValueKind.{ValueKind}
use Rattle.oc_tree.specs.declared.tree.ValueKind.TheVariants as kinds
use Rattle.oc_tree.specs.declared.scope.Origin.{Origin}
use Rattle.oc_tree.specs.declared.scope.Origin.TheVariants as origins
use Rattle.oc_tree.specs.declared.scope.Var.{Var}
use Rattle.oc_tree.specs.Scope.{Scope, variable_in, variable_of, or_nv}
use Rattle.oc_tree.specs.Types.{is_reference, scalar_of, is_same, value_type}
use Rattle.oc_tree.specs.Rules.{only_reference, passed_on, has_kind, origin_is, is_mutable_param, is_writable, value_meets, shared_meets, arg_meets, args_meet, args_list, arg_lends}
use Rattle.oc_tree.specs.Walks.{expr_named, arg_named, call_named, args_named, inner_mentions, once, expr_mentions, args_mentions, arg_mentions}
use Rattle.oc_copies.proofs.Twins.{Flags, flag_of, is_shared, handed, Shown, AreLawful}

module _ (hidden : Text → Bool) where
  -- for each hidden name
  abbrev pub ForHidden : (Text → Type 0) → Type 0
  ForHidden P = (y : Text) → hidden y ≡ true → P y

  -- a name that differs from all that are hidden isn't hidden
  pub unhidden : (x : Text) → ForHidden (λ y. bytes_eq y x ≡ false) → hidden x ≡ false
  unhidden x h = by (hidden x) refl
    where
      by : (b : Bool) → hidden x ≡ b → b ≡ false
      by false e = refl
      by true e = absurd (true≢false (sym ((bytes_eq-Decides x x).1 refl) ∙ h x e))

  once_none : (b : Bool) → once b ≡ 0 → b ≡ false
  once_none false e = refl
  once_none true e = absurd (omega (arith, e))

  pub shown_join : (xs ys : List Text) → Shown hidden xs → Shown hidden ys → Shown hidden (xs ++ ys)
  shown_join [] ys h k = k
  shown_join (x ∷ xs) ys h k = (h.0, shown_join xs ys h.1 k)

  one_shown : (x : Text) → ForHidden (λ y. once (bytes_eq y x) ≡ 0) → hidden x ≡ false
  one_shown x h = unhidden x (λ y k. once_none (bytes_eq y x) (h y k))

  mutual
    pub shown_expr : (e : TExpr) → ForHidden (λ y. expr_mentions y e ≡ 0) → Shown hidden (expr_named e)
    shown_expr (number z) h = tt
    shown_expr (truth b) h = tt
    shown_expr (variable x) h = (one_shown x h, tt)
    shown_expr (index x e) h = (
      one_shown x (λ y k. let s : once (bytes_eq y x) + expr_mentions y e ≡ 0 = h y k in omega (arith, s)),
      shown_expr e (λ y k. let s : once (bytes_eq y x) + expr_mentions y e ≡ 0 = h y k in omega (arith, s)),
    )
    shown_expr (deref x) h = (one_shown x h, tt)
    shown_expr (unary op e) h = shown_expr e h
    shown_expr (binary op a b) h =
        shown_join (expr_named a) (expr_named b)
        (shown_expr a (λ y k. let s : expr_mentions y a + expr_mentions y b ≡ 0 = h y k in omega (arith, s)))
        (shown_expr b (λ y k. let s : expr_mentions y a + expr_mentions y b ≡ 0 = h y k in omega (arith, s)))
    shown_expr (sensed s) h = tt
    shown_expr (called c) h = shown_call c h

    pub shown_call : (c : TCall) → ForHidden (λ y. inner_mentions y c ≡ 0) → Shown hidden (call_named c)
    shown_call (call f args) h = shown_args args h

    pub shown_args : (args : TArgs) → ForHidden (λ y. args_mentions y args ≡ 0) → Shown hidden (args_named args)
    shown_args no_args h = tt
    shown_args (more_args a rest) h =
        shown_join (arg_named a) (args_named rest)
        (shown_arg a (λ y k. let s : arg_mentions y a + args_mentions y rest ≡ 0 = h y k in omega (arith, s)))
        (shown_args rest (λ y k. let s : arg_mentions y a + args_mentions y rest ≡ 0 = h y k in omega (arith, s)))

    pub shown_arg : (a : TArg) → ForHidden (λ y. arg_mentions y a ≡ 0) → Shown hidden (arg_named a)
    shown_arg (value e) h = shown_expr e h
    shown_arg (shared x) h = (one_shown x h, tt)
    shown_arg (mutable x) h = (one_shown x h, tt)

-- ---- parameters by `&`

-- what is flagged is a parameter by `&`
abbrev pub AllFlags : Scope → Flags → Type 0
AllFlags scope fs = (y : Text) → flag_of fs y ≡ true → (v : Var) × (variable_in scope y ≡ Some v) × (v.origin ≡ origins.Param passings.Shared)

module _ (p : TProgram) (scope : Scope) (fs : Flags) (flags : AllFlags scope fs) where
  flagged_test : (test : Origin → Bool) (x : Text) → flag_of fs x ≡ true → origin_is test (variable_of p scope x) ≡ test (origins.Param passings.Shared)
  flagged_test test x k = let v = flags x k in ap (λ o. origin_is test (or_nv p x o)) v.1 ∙ ap test v.2

  -- what passes a test that parameters by `&` don't pass isn't flagged
  pub unflagged : (test : Origin → Bool) → test (origins.Param passings.Shared) ≡ false → (x : Text) → origin_is test (variable_of p scope x) ≡ true → flag_of fs x ≡ false
  unflagged test fails x h = by (flag_of fs x) refl
    where
      by : (b : Bool) → flag_of fs x ≡ b → b ≡ false
      by false e = refl
      by true e = absurd (true≢false (sym h ∙ flagged_test test x e ∙ fails))

  same_none : (kind : ValueKind) → is_same (scalar_of kind) None ≡ false
  same_none kinds.Int = refl
  same_none kinds.Bool = refl
  same_none (kinds.Array n) = refl

  no_value : (v : Var) → v.origin ≡ origins.Param passings.Shared → value_type (Some v) ≡ None
  no_value v e = ap (λ o. cond (is_reference o) None (scalar_of v.kind)) e

  not_writing : (v : Var) → v.origin ≡ origins.Param passings.Shared → origin_is is_mutable_param (only_reference (Some v)) ≡ false
  not_writing v e = ap (λ o. origin_is is_mutable_param (cond (is_reference o) (Some v) None)) e ∙ ap is_mutable_param e

  value_careful : (w : Passing) (kind : ValueKind) (x : Text) → value_meets p scope w kind (variable x) ≡ true → flag_of fs x ≡ true → is_shared w ≡ true
  value_careful passings.Shared kind x h k = refl
  value_careful passings.Value kind x h k =
      let v = flags x k in
      absurd (true≢false (sym h ∙ ap (λ o. is_same (scalar_of kind) (value_type (or_nv p x o))) v.1 ∙ ap (is_same (scalar_of kind)) (no_value v.0 v.2) ∙ same_none kind))
  value_careful passings.Mutable kind x h k =
      let v = flags x k in
      let w = (and_parts (origin_is is_mutable_param (passed_on p scope (variable x))) (has_kind kind (passed_on p scope (variable x))) h).0 in
      absurd (true≢false (sym w ∙ ap (λ o. origin_is is_mutable_param (only_reference (or_nv p x o))) v.1 ∙ not_writing v.0 v.2))

  shared_careful : (w : Passing) (kind : ValueKind) (o : Option Var) → shared_meets w kind o ≡ true → is_shared w ≡ true
  shared_careful passings.Shared kind o h = refl
  shared_careful passings.Value kind o h = absurd (true≢false (sym h))
  shared_careful passings.Mutable kind o h = absurd (true≢false (sym h))

  careful_arg : (q : Param) (a : TArg) (x : Text) → arg_meets p scope q a ≡ true → arg_lends p scope a ≡ true → handed a ≡ Some x → flag_of fs x ≡ true → is_shared q.passing ≡ true
  careful_arg q (value (variable z)) x m l e k = value_careful q.passing q.kind z m (ap (flag_of fs) (same_Some z x e) ∙ k)
  careful_arg q (shared z) x m l e k = shared_careful q.passing q.kind (variable_of p scope z) m
  careful_arg q (mutable z) x m l e k = absurd (true≢false (sym k ∙ sym (ap (flag_of fs) (same_Some z x e)) ∙ unflagged is_writable refl z l))
  careful_arg q (value expr) x m l e k = absurd (none-some x e)

  pub all_lawful : (hidden : Text → Bool) (qs : List Param) (args : TArgs) → length qs ≡ length (args_list args) → args_meet p scope qs args ≡ true →
      list_all (arg_lends p scope) (args_list args) ≡ true → ForHidden hidden (λ y. args_mentions y args ≡ 0) → AreLawful hidden fs qs args
  all_lawful hidden [] no_args n m l h = tt
  all_lawful hidden [] (more_args a rest) n m l h = absurd (omega (arith, n))
  all_lawful hidden (q ∷ qs) no_args n m l h = absurd (omega (arith, n))
  all_lawful hidden (q ∷ qs) (more_args a rest) n m l h = (
    record {
      shown = shown_arg hidden a (λ y k. let s : arg_mentions y a + args_mentions y rest ≡ 0 = h y k in omega (arith, s));
      careful =
          λ x e k. careful_arg q a x (and_parts (arg_meets p scope q a) (args_meet p scope qs rest) m).0 (and_parts (arg_lends p scope a) (list_all (arg_lends p scope) (args_list rest)) l).0 e k;
    },
    all_lawful hidden qs rest (omega (arith, n)) (and_parts (arg_meets p scope q a) (args_meet p scope qs rest) m).1
        (and_parts (arg_lends p scope a) (list_all (arg_lends p scope) (args_list rest)) l).1
        (λ y k. let s : arg_mentions y a + args_mentions y rest ≡ 0 = h y k in omega (arith, s)),
  )
