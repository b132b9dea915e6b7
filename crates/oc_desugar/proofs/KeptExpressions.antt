-- Where no rule is broken by an expression, none is by what is left of it in the expansion: its names are known, its
-- parts fit, and it has the same type.
use Rattle.std.proofs.Common.{◌≡◌, ℕ, ◌+◌, Bool, true, false, [], ◌++◌, Option, Some, None, refl, ap, ◌∙◌}
use Rattle.std.proofs.lemmas.Bool.{and_from, and_parts, or_left, or_right}
use Rattle.std.specs.Prelude.{nat_lt, is_some, option_map, ◌&&◌, ◌||◌}
use Rattle.std.proofs.Math.Bool.{and-false}
use Rattle.oc_lex.specs.Stands.{IsName}
use Rattle.oc_tree.specs.Tree.{TExpr, number, truth, variable, index, deref, unary, binary, sensed, called, TArg, value, shared, mutable, TCall, call, TArgs, no_args, more_args}
use Rattle.oc_tree.specs.Tree.{TRight, right_value, right_sense, right_call, TProgram}
use Rattle.oc_tree.specs.Form.{ExprInForm, ArgInForm, CallInForm, ArgsInForm, RightInForm}
use Rattle.oc_tree.specs.declared.scope.Var.{Var}
use Rattle.oc_tree.specs.Pulls.{expr_pulls, arg_pulls, may_skip}
use Rattle.oc_tree.specs.Calls.{expr_calls, args_calls, arg_calls}
use Rattle.oc_tree.specs.Scope.{Scope, variable_of, is_variable}
use Rattle.oc_tree.specs.Types.{type_of, right_type, call_type, is_int, has_elements}
use Rattle.oc_tree.specs.Rules.{expr_fits, call_fits, args_fit, arg_fits, right_fits, passed_on, only_reference, unary_fits, binary_fits}
use Rattle.oc_tree.specs.Expansion.{left_expr, left_call, left_args, left_arg, left_right}
use Rattle.oc_tree.specs.Walks.{expr_skips, args_skip, arg_skips, right_skips, expr_known, call_known, args_known, arg_known, right_known}
use Rattle.oc_desugar.proofs.Seen.{new_var}
use Rattle.oc_desugar.proofs.NoPulls.{none_expr}
use Rattle.oc_desugar.proofs.HeldParts.{HeldExpr, HeldCall, HeldArgs, HeldArg, HeldRight}
use Rattle.oc_desugar.proofs.KeptLookups.{SameNames, same_place, same_result, same_sensor, same_variable, same_is_variable, same_value_type, same_pointed_type, same_elements}
use Rattle.oc_desugar.proofs.KeptLookups.{new_passed, held_is_variable, held_type, held_passed}

-- ---- tests of two parts

-- ---- no call and no skipped pull is left

mutual
  pub no_calls_expr : (k : ℕ) (e : TExpr) → expr_calls (left_expr k e) ≡ []
  no_calls_expr k (number n) = refl
  no_calls_expr k (truth b) = refl
  no_calls_expr k (variable x) = refl
  no_calls_expr k (index x e) = no_calls_expr k e
  no_calls_expr k (deref x) = refl
  no_calls_expr k (unary op e) = no_calls_expr k e
  no_calls_expr k (binary op a b) = ap (λ l. l ++ expr_calls (left_expr (k + expr_pulls a) b)) (no_calls_expr k a) ∙ no_calls_expr (k + expr_pulls a) b
  no_calls_expr k (sensed s) = refl
  no_calls_expr k (called c) = refl

  pub no_calls_args : (k : ℕ) (xs : TArgs) → args_calls (left_args k xs) ≡ []
  no_calls_args k no_args = refl
  no_calls_args k (more_args a rest) = ap (λ l. l ++ args_calls (left_args (k + arg_pulls a) rest)) (no_calls_arg k a) ∙ no_calls_args (k + arg_pulls a) rest

  no_calls_arg : (k : ℕ) (a : TArg) → arg_calls (left_arg k a) ≡ []
  no_calls_arg k (value e) = no_calls_expr k e
  no_calls_arg k (shared x) = refl
  no_calls_arg k (mutable x) = refl

mutual
  pub none_skipped_expr : (k : ℕ) (e : TExpr) → expr_skips (left_expr k e) ≡ false
  none_skipped_expr k (number n) = refl
  none_skipped_expr k (truth b) = refl
  none_skipped_expr k (variable x) = refl
  none_skipped_expr k (index x e) = none_skipped_expr k e
  none_skipped_expr k (deref x) = refl
  none_skipped_expr k (unary op e) = none_skipped_expr k e
  none_skipped_expr k (binary op a b) =
      let j = k + expr_pulls a in
      ap (λ c. c || expr_skips (left_expr j b) || (may_skip op && nat_lt 0 (expr_pulls (left_expr j b)))) (none_skipped_expr k a)
      ∙ ap (λ c. c || (may_skip op && nat_lt 0 (expr_pulls (left_expr j b)))) (none_skipped_expr j b)
      ∙ ap (λ n. may_skip op && nat_lt 0 n) (none_expr j b)
      ∙ and-false (may_skip op)
  none_skipped_expr k (sensed s) = refl
  none_skipped_expr k (called c) = refl

  none_skipped_args : (k : ℕ) (xs : TArgs) → args_skip (left_args k xs) ≡ false
  none_skipped_args k no_args = refl
  none_skipped_args k (more_args a rest) = ap (λ b. b || args_skip (left_args (k + arg_pulls a) rest)) (none_skipped_arg k a) ∙ none_skipped_args (k + arg_pulls a) rest

  none_skipped_arg : (k : ℕ) (a : TArg) → arg_skips (left_arg k a) ≡ false
  none_skipped_arg k (value e) = none_skipped_expr k e
  none_skipped_arg k (shared x) = refl
  none_skipped_arg k (mutable x) = refl

pub none_skipped : (k : ℕ) (r : TRight) → right_skips (left_right k r) ≡ false
none_skipped k (right_value e) = none_skipped_expr k e
none_skipped k (right_sense s) = refl
none_skipped k (right_call (call g args)) = none_skipped_args k args

-- an argument is a reference that is passed on, or fits
fits_value : (f : ℕ → ℕ) (v w : Option Var) (a b : Bool) → w ≡ option_map (new_var f) v → (a ≡ true → b ≡ true) → is_some v || a ≡ true → is_some w || b ≡ true
fits_value f (Some v) w a b e g h = or_left (is_some w) b (ap is_some e)
fits_value f None w a b e g h = or_right (is_some w) b (g h)

module _ {p q : TProgram} {f : ℕ → ℕ} {s t : Scope} (m : SameNames p q f s t) where
  -- ---- types

  pub same_call_type : (k : ℕ) (c : TCall) → call_type q (left_call k c) ≡ call_type p c
  same_call_type k (call g args) = same_result m.top g

  pub same_type : (k : ℕ) (e : TExpr) → ExprInForm IsName e → HeldExpr p t k e → type_of q t (left_expr k e) ≡ type_of p s e
  same_type k (number n) i h = refl
  same_type k (truth b) i h = refl
  same_type k (variable x) i h = same_value_type m x i
  same_type k (index x e) i h = refl
  same_type k (deref x) i h = same_pointed_type m x i
  same_type k (unary op e) i h = refl
  same_type k (binary op a b) i h = refl
  same_type k (sensed x) i h = held_type q h
  same_type k (called c) i h = held_type q h.1

  pub same_right_type : (k : ℕ) (r : TRight) → RightInForm IsName r → HeldRight p t k r → right_type q t (left_right k r) ≡ right_type p s r
  same_right_type k (right_value e) i h = same_type k e i.1 h
  same_right_type k (right_sense x) i h = refl
  same_right_type k (right_call c) i h = same_call_type k c

  -- a reference that an argument passes on is passed on still, and no other
  pub same_passed : (k : ℕ) (e : TExpr) → ExprInForm IsName e → HeldExpr p t k e → passed_on q t (left_expr k e) ≡ option_map (new_var f) (passed_on p s e)
  same_passed k (number n) i h = refl
  same_passed k (truth b) i h = refl
  same_passed k (variable x) i h = ap only_reference (same_variable m x i) ∙ new_passed f (variable_of p s x)
  same_passed k (index x e) i h = refl
  same_passed k (deref x) i h = refl
  same_passed k (unary op e) i h = refl
  same_passed k (binary op a b) i h = refl
  same_passed k (sensed x) i h = held_passed q h
  same_passed k (called c) i h = held_passed q h.1

  -- ---- known names

  mutual
    pub known_expr : (k : ℕ) (e : TExpr) → ExprInForm IsName e → HeldExpr p t k e → expr_known p s e ≡ true → expr_known q t (left_expr k e) ≡ true
    known_expr k (number n) i h e = refl
    known_expr k (truth b) i h e = refl
    known_expr k (variable x) i h e = same_is_variable m x i ∙ e
    known_expr k (index x a) i h e =
        and_from _ _ (same_is_variable m x i.0 ∙ (and_parts (is_variable p s x) (expr_known p s a) e).0) (known_expr k a i.1 h (and_parts (is_variable p s x) (expr_known p s a) e).1)
    known_expr k (deref x) i h e = same_is_variable m x i ∙ e
    known_expr k (unary op a) i h e = known_expr k a i h e
    known_expr k (binary op a b) i h e =
        and_from _ _ (known_expr k a i.0 h.0 (and_parts (expr_known p s a) (expr_known p s b) e).0) (known_expr (k + expr_pulls a) b i.1 h.1 (and_parts (expr_known p s a) (expr_known p s b) e).1)
    known_expr k (sensed x) i h e = held_is_variable q h
    known_expr k (called c) i h e = held_is_variable q h.1

    known_args : (k : ℕ) (xs : TArgs) → ArgsInForm IsName xs → HeldArgs p t k xs → args_known p s xs ≡ true → args_known q t (left_args k xs) ≡ true
    known_args k no_args i h e = refl
    known_args k (more_args a rest) i h e =
        and_from _ _ (known_arg k a i.0 h.0 (and_parts (arg_known p s a) (args_known p s rest) e).0)
        (known_args (k + arg_pulls a) rest i.1 h.1 (and_parts (arg_known p s a) (args_known p s rest) e).1)

    known_arg : (k : ℕ) (a : TArg) → ArgInForm IsName a → HeldArg p t k a → arg_known p s a ≡ true → arg_known q t (left_arg k a) ≡ true
    known_arg k (value a) i h e = known_expr k a i h e
    known_arg k (shared x) i h e = same_is_variable m x i ∙ e
    known_arg k (mutable x) i h e = same_is_variable m x i ∙ e

  pub known_call : (k : ℕ) (c : TCall) → CallInForm IsName c → HeldCall p t k c → call_known p s c ≡ true → call_known q t (left_call k c) ≡ true
  known_call k (call g args) i h e =
      and_from _ _ (ap is_some (same_place m.top g) ∙ (and_parts _ (args_known p s args) e).0) (known_args k args i.1 h (and_parts _ (args_known p s args) e).1)

  pub known_right : (k : ℕ) (r : TRight) → RightInForm IsName r → HeldRight p t k r → right_known p s r ≡ true → right_known q t (left_right k r) ≡ true
  known_right k (right_value a) i h e = known_expr k a i.1 h e
  known_right k (right_sense x) i h e = same_sensor m.top x ∙ e
  known_right k (right_call c) i h e = known_call k c i h e

  -- ---- parts that fit

  mutual
    pub fits_expr : (k : ℕ) (e : TExpr) → ExprInForm IsName e → HeldExpr p t k e → expr_fits p s e ≡ true → expr_fits q t (left_expr k e) ≡ true
    fits_expr k (number n) i h e = refl
    fits_expr k (truth b) i h e = refl
    fits_expr k (variable x) i h e = ap is_some (same_value_type m x i) ∙ e
    fits_expr k (index x a) i h e =
        let elements : has_elements (variable_of p s x) ≡ true = (and_parts _ _ e).0 in
        let rest : expr_fits p s a && is_int (type_of p s a) ≡ true = (and_parts (has_elements (variable_of p s x)) _ e).1 in
        and_from _ _ (same_elements m x i.0 ∙ elements)
        (and_from _ _ (fits_expr k a i.1 h (and_parts _ (is_int (type_of p s a)) rest).0) (ap is_int (same_type k a i.1 h) ∙ (and_parts (expr_fits p s a) _ rest).1))
    fits_expr k (deref x) i h e = ap is_some (same_pointed_type m x i) ∙ e
    fits_expr k (unary op a) i h e =
        and_from _ _ (fits_expr k a i h (and_parts _ (unary_fits op (type_of p s a)) e).0) (ap (unary_fits op) (same_type k a i h) ∙ (and_parts (expr_fits p s a) _ e).1)
    fits_expr k (binary op a b) i h e =
        let left : expr_fits p s a ≡ true = (and_parts _ _ e).0 in
        let rest : expr_fits p s b && binary_fits op (type_of p s a) (type_of p s b) ≡ true = (and_parts (expr_fits p s a) _ e).1 in
        let types = ap (λ x. binary_fits op x (type_of q t (left_expr (k + expr_pulls a) b))) (same_type k a i.0 h.0) ∙ ap (binary_fits op (type_of p s a)) (same_type (k + expr_pulls a) b i.1 h.1) in
        and_from _ _ (fits_expr k a i.0 h.0 left)
        (and_from _ _ (fits_expr (k + expr_pulls a) b i.1 h.1 (and_parts _ (binary_fits op (type_of p s a) (type_of p s b)) rest).0) (types ∙ (and_parts (expr_fits p s b) _ rest).1))
    fits_expr k (sensed x) i h e = ap is_some (held_type q h) ∙ h.some
    fits_expr k (called c) i h e = ap is_some (held_type q h.1) ∙ h.1.some

    fit_args : (k : ℕ) (xs : TArgs) → ArgsInForm IsName xs → HeldArgs p t k xs → args_fit p s xs ≡ true → args_fit q t (left_args k xs) ≡ true
    fit_args k no_args i h e = refl
    fit_args k (more_args a rest) i h e =
        and_from _ _ (fits_arg k a i.0 h.0 (and_parts (arg_fits p s a) (args_fit p s rest) e).0) (fit_args (k + arg_pulls a) rest i.1 h.1 (and_parts (arg_fits p s a) (args_fit p s rest) e).1)

    fits_arg : (k : ℕ) (a : TArg) → ArgInForm IsName a → HeldArg p t k a → arg_fits p s a ≡ true → arg_fits q t (left_arg k a) ≡ true
    fits_arg k (value a) i h e = fits_value f (passed_on p s a) (passed_on q t (left_expr k a)) (expr_fits p s a) (expr_fits q t (left_expr k a)) (same_passed k a i h) (fits_expr k a i h) e
    fits_arg k (shared x) i h e = refl
    fits_arg k (mutable x) i h e = refl

  pub fits_call : (k : ℕ) (c : TCall) → CallInForm IsName c → HeldCall p t k c → call_fits p s c ≡ true → call_fits q t (left_call k c) ≡ true
  fits_call k (call g args) i h e = fit_args k args i.1 h e

  pub fits_right : (k : ℕ) (r : TRight) → RightInForm IsName r → HeldRight p t k r → right_fits p s r ≡ true → right_fits q t (left_right k r) ≡ true
  fits_right k (right_value a) i h e = fits_expr k a i.1 h e
  fits_right k (right_sense x) i h e = refl
  fits_right k (right_call c) i h e = fits_call k c i h e
