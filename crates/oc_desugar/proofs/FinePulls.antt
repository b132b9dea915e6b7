-- Each pull of a statement that breaks no rule is a right side that breaks none, where the temporaries before it are held.
use Rattle.std.proofs.Common.{◌≡◌, ℕ, ◌+◌, true, false, List, [], ◌∷◌, ◌++◌, length, inl, inr, refl, ap, sym, subst, ◌∙◌}
use Rattle.std.proofs.lemmas.Bool.{and_parts, or_right}
use Rattle.std.specs.Prelude.{is_some, ◌&&◌, ◌||◌}
use Rattle.oc_lex.specs.Stands.{IsName}
use Rattle.oc_tree.specs.Tree.{TExpr, number, truth, variable, index, deref, unary, binary, sensed, called, TArg, value, shared, mutable, TCall, call, TArgs, no_args, more_args}
use Rattle.oc_tree.specs.Tree.{TRight, right_sense, right_call, TProgram}
use Rattle.oc_tree.specs.Form.{ExprInForm, ArgInForm, ArgsInForm}
use Rattle.oc_tree.specs.Pulls.{expr_pulls, arg_pulls, right_pulls}
use Rattle.oc_tree.specs.Calls.{function_place, expr_calls, call_calls, args_calls, arg_calls, right_calls}
use Rattle.oc_tree.specs.Scope.{is_variable, variable_of}
use Rattle.oc_tree.specs.Types.{call_type, right_type, has_elements, is_int, type_of}
use Rattle.oc_tree.specs.Elements.{Here}
use Rattle.oc_tree.specs.Rules.{passed_on, unary_fits, binary_fits, expr_fits, args_fit, arg_fits, right_fits}
use Rattle.oc_tree.specs.Expansion.{left_call, pulled_expr, pulled_call, pulled_args, pulled_arg}
use Rattle.oc_tree.specs.Walks.{right_skips, expr_known, args_known, arg_known, right_known}
use Rattle.oc_desugar.proofs.Seen.{SameTop, SameReach, SameHere, pull_type, HeldPulls}
use Rattle.oc_desugar.proofs.Lengths.{length_expr, length_arg}
use Rattle.oc_desugar.proofs.NoPulls.{none_call}
use Rattle.oc_desugar.proofs.HeldParts.{HeldCall, held_front, held_back, held_call}
use Rattle.oc_desugar.proofs.KeptLookups.{SameNames, same_sensor}
use Rattle.oc_desugar.proofs.KeptExpressions.{none_skipped, known_call, fits_call, same_call_type}
use Rattle.oc_desugar.proofs.FineCalls.{CallFine, Gives, Each, each_front, each_back, each_call, fine_left, gives_left}
use Rattle.oc_desugar.proofs.PullSplits.{no_place, only_place, InSecond, first_or_second}

-- ---- parts of a statement that break no rule

-- an expression, or an argument that is one
pub record ExprFine (p : TProgram) (h : Here) (e : TExpr) : Type 0 where
  pub form : ExprInForm IsName e
  pub known : expr_known p h.scope e ≡ true
  pub fits : is_some (passed_on p h.scope e) || expr_fits p h.scope e ≡ true
  pub calls : Each (CallFine p h) (expr_calls e)
  pub gives : Each (Gives p) (expr_calls e)

pub record ArgsFine (p : TProgram) (h : Here) (xs : TArgs) : Type 0 where
  pub form : ArgsInForm IsName xs
  pub known : args_known p h.scope xs ≡ true
  pub fits : args_fit p h.scope xs ≡ true
  pub calls : Each (CallFine p h) (args_calls xs)
  pub gives : Each (Gives p) (args_calls xs)

record ArgFine (p : TProgram) (h : Here) (a : TArg) : Type 0 where
  form : ArgInForm IsName a
  known : arg_known p h.scope a ≡ true
  fits : arg_fits p h.scope a ≡ true
  calls : Each (CallFine p h) (arg_calls a)
  gives : Each (Gives p) (arg_calls a)

-- a right side of the expansion that breaks no rule and has no pulls, with its type
pub record PullFine (p q : TProgram) (g : Here) (r : TRight) : Type 0 where
  pub known : right_known q g.scope r ≡ true
  pub fits : right_fits q g.scope r ≡ true
  pub calls : Each (CallFine q g) (right_calls r)
  pub gives : Each (Gives q) (right_calls r)
  pub plain : right_pulls r ≡ 0
  pub skips : right_skips r ≡ false
  pub typed : right_type q g.scope r ≡ pull_type p r
  pub some : is_some (pull_type p r) ≡ true

module _ (p : TProgram) (h : Here) where
  fine_in_index : (x : _) (e : TExpr) → ExprFine p h (index x e) → ExprFine p h e
  fine_in_index x e w =
      let rest : expr_fits p h.scope e && is_int (type_of p h.scope e) ≡ true = (and_parts (has_elements (variable_of p h.scope x)) _ w.fits).1 in
      record {
        form = w.form.1;
        known = (and_parts (is_variable p h.scope x) _ w.known).1;
        fits = or_right (is_some (passed_on p h.scope e)) _ (and_parts _ (is_int (type_of p h.scope e)) rest).0;
        calls = w.calls;
        gives = w.gives;
      }

  fine_in_unary : (op : _) (e : TExpr) → ExprFine p h (unary op e) → ExprFine p h e
  fine_in_unary op e w = record {
    form = w.form;
    known = w.known;
    fits = or_right (is_some (passed_on p h.scope e)) _ (and_parts _ (unary_fits op (type_of p h.scope e)) w.fits).0;
    calls = w.calls;
    gives = w.gives;
  }

  fine_on_left : (op : _) (a b : TExpr) → ExprFine p h (binary op a b) → ExprFine p h a
  fine_on_left op a b w = record {
    form = w.form.0;
    known = (and_parts _ (expr_known p h.scope b) w.known).0;
    fits = or_right (is_some (passed_on p h.scope a)) _ (and_parts _ (expr_fits p h.scope b && binary_fits op (type_of p h.scope a) (type_of p h.scope b)) w.fits).0;
    calls = each_front (CallFine p h) (expr_calls a) (expr_calls b) w.calls;
    gives = each_front (Gives p) (expr_calls a) (expr_calls b) w.gives;
  }

  fine_on_right : (op : _) (a b : TExpr) → ExprFine p h (binary op a b) → ExprFine p h b
  fine_on_right op a b w =
      let rest : expr_fits p h.scope b && binary_fits op (type_of p h.scope a) (type_of p h.scope b) ≡ true = (and_parts (expr_fits p h.scope a) _ w.fits).1 in
      record {
        form = w.form.1;
        known = (and_parts (expr_known p h.scope a) _ w.known).1;
        fits = or_right (is_some (passed_on p h.scope b)) _ (and_parts _ (binary_fits op (type_of p h.scope a) (type_of p h.scope b)) rest).0;
        calls = each_back (CallFine p h) (expr_calls a) (expr_calls b) w.calls;
        gives = each_back (Gives p) (expr_calls a) (expr_calls b) w.gives;
      }

  fine_first : (a : TArg) (rest : TArgs) → ArgsFine p h (more_args a rest) → ArgFine p h a
  fine_first a rest w = record {
    form = w.form.0;
    known = (and_parts _ (args_known p h.scope rest) w.known).0;
    fits = (and_parts _ (args_fit p h.scope rest) w.fits).0;
    calls = each_front (CallFine p h) (arg_calls a) (args_calls rest) w.calls;
    gives = each_front (Gives p) (arg_calls a) (args_calls rest) w.gives;
  }

  fine_later : (a : TArg) (rest : TArgs) → ArgsFine p h (more_args a rest) → ArgsFine p h rest
  fine_later a rest w = record {
    form = w.form.1;
    known = (and_parts (arg_known p h.scope a) _ w.known).1;
    fits = (and_parts (arg_fits p h.scope a) _ w.fits).1;
    calls = each_back (CallFine p h) (arg_calls a) (args_calls rest) w.calls;
    gives = each_back (Gives p) (arg_calls a) (args_calls rest) w.gives;
  }

  fine_in_arg : (e : TExpr) → ArgFine p h (value e) → ExprFine p h e
  fine_in_arg e w = record { form = w.form; known = w.known; fits = w.fits; calls = w.calls; gives = w.gives }

  fine_in_call : (g : _) (xs : TArgs) → ExprFine p h (called (call g xs)) → ArgsFine p h xs
  fine_in_call g xs w = record {
    form = w.form.1;
    known = (and_parts (is_some (function_place p.functions g)) _ w.known).1;
    fits = w.fits;
    calls = each_front (CallFine p h) (args_calls xs) (call g xs ∷ []) w.calls;
    gives = each_front (Gives p) (args_calls xs) (call g xs ∷ []) w.gives;
  }

-- ---- each pull

module _ {p q : TProgram} {f : ℕ → ℕ} {h g : Here} (top : SameTop p q) (reach : SameReach p q) (here : SameHere f h g) where
  same : SameNames p q f h.scope g.scope
  same = record { top = top; sees = here.scope }

  fine_sense : (x : _) → ExprFine p h (sensed x) → PullFine p q g (right_sense x)
  fine_sense x w = record { known = same_sensor top x ∙ w.known; fits = refl; calls = tt; gives = tt; plain = refl; skips = refl; typed = refl; some = refl }

  left_type : (k : ℕ) (c : TCall) → call_type p (left_call k c) ≡ call_type p c
  left_type k (call x xs) = refl

  last_gives : (c : TCall) → Each (Gives p) (call_calls c) → is_some (call_type p c) ≡ true
  last_gives (call x xs) e = (each_back (Gives p) (args_calls xs) (call x xs ∷ []) e).0

  fine_call : (k : ℕ) (c : TCall) → ExprFine p h (called c) → HeldCall p g.scope k c → PullFine p q g (right_call (left_call k c))
  fine_call k c w t = record {
    known = known_call same k c w.form t w.known;
    fits = fits_call same k c w.form t w.fits;
    calls = each_call p g.scope (CallFine p h) (CallFine q g) (fine_left top reach here) k c w.form t w.calls;
    gives = each_call p g.scope (Gives p) (Gives q) (λ j d a b. gives_left same j d) k c w.form t w.gives;
    plain = none_call k c;
    skips = none_skipped k (right_call c);
    typed = same_call_type same k c ∙ sym (left_type k c);
    some = ap is_some (left_type k c) ∙ last_gives c w.gives;
  }

  -- the call itself is the last of its pulls
  fine_called : (k : ℕ) (c : TCall) (front back : List TRight) (r : TRight) → ExprFine p h (called c)
      → InSecond (pulled_call k c) (right_call (left_call k c) ∷ []) front back r → HeldPulls p g.scope k front → PullFine p q g r
  fine_called k c front back r w s t =
      let last = only_place (right_call (left_call k c)) s.0 back r s.2 in
      let held = held_front p g.scope k (pulled_call k c) s.0 (subst (HeldPulls p g.scope k) s.1 t) in
      subst (PullFine p q g) last.1 (fine_call k c w (held_call p g.scope k c held))

  -- what stands behind a first part, with the part's pulls held
  pub behind : (k n : ℕ) (xs ys front back : List TRight) (r : TRight) → length xs ≡ n → (s : InSecond xs ys front back r) → HeldPulls p g.scope k front → HeldPulls p g.scope (k + n) s.0
  behind k n xs ys front back r e s t = held_back p g.scope k n xs s.0 e (subst (HeldPulls p g.scope k) s.1 t)

  mutual
    pub fine_expr : (k : ℕ) (e : TExpr) (front back : List TRight) (r : TRight) → pulled_expr k e ≡ front ++ r ∷ back → ExprFine p h e → HeldPulls p g.scope k front → PullFine p q g r
    fine_expr k (number n) front back r e w t = absurd (no_place front back r e)
    fine_expr k (truth b) front back r e w t = absurd (no_place front back r e)
    fine_expr k (variable x) front back r e w t = absurd (no_place front back r e)
    fine_expr k (index x a) front back r e w t = fine_expr k a front back r e (fine_in_index p h x a w) t
    fine_expr k (deref x) front back r e w t = absurd (no_place front back r e)
    fine_expr k (unary op a) front back r e w t = fine_expr k a front back r e (fine_in_unary p h op a w) t
    fine_expr k (binary op a b) front back r e w t =
        let j = k + expr_pulls a in
        let first = fine_expr k a front in
        let second = fine_expr j b in
        elim (first_or_second (pulled_expr k a) (pulled_expr j b) front back r e) [
          | inl s ↦ first s.0 r s.1 (fine_on_left p h op a b w) t
          | inr s ↦ second s.0 back r s.2 (fine_on_right p h op a b w) (behind k (expr_pulls a) (pulled_expr k a) (pulled_expr j b) front back r (length_expr k a) s t)
        ]
    fine_expr k (sensed x) front back r e w t = subst (PullFine p q g) (only_place (right_sense x) front back r e).1 (fine_sense x w)
    fine_expr k (called c) front back r e w t =
        let inside = fine_inside k c front in
        elim (first_or_second (pulled_call k c) (right_call (left_call k c) ∷ []) front back r e) [
          | inl s ↦ inside s.0 r s.1 w t
          | inr s ↦ fine_called k c front back r w s t
        ]

    fine_inside : (k : ℕ) (c : TCall) (front back : List TRight) (r : TRight) → pulled_call k c ≡ front ++ r ∷ back → ExprFine p h (called c) → HeldPulls p g.scope k front → PullFine p q g r
    fine_inside k (call x xs) front back r e w t = fine_args k xs front back r e (fine_in_call p h x xs w) t

    pub fine_args : (k : ℕ) (xs : TArgs) (front back : List TRight) (r : TRight) → pulled_args k xs ≡ front ++ r ∷ back → ArgsFine p h xs → HeldPulls p g.scope k front → PullFine p q g r
    fine_args k no_args front back r e w t = absurd (no_place front back r e)
    fine_args k (more_args a rest) front back r e w t =
        let j = k + arg_pulls a in
        let first = fine_arg k a front in
        let second = fine_args j rest in
        elim (first_or_second (pulled_arg k a) (pulled_args j rest) front back r e) [
          | inl s ↦ first s.0 r s.1 (fine_first p h a rest w) t
          | inr s ↦ second s.0 back r s.2 (fine_later p h a rest w) (behind k (arg_pulls a) (pulled_arg k a) (pulled_args j rest) front back r (length_arg k a) s t)
        ]

    fine_arg : (k : ℕ) (a : TArg) (front back : List TRight) (r : TRight) → pulled_arg k a ≡ front ++ r ∷ back → ArgFine p h a → HeldPulls p g.scope k front → PullFine p q g r
    fine_arg k (value a) front back r e w t = fine_expr k a front back r e (fine_in_arg p h a w) t
    fine_arg k (shared x) front back r e w t = absurd (no_place front back r e)
    fine_arg k (mutable x) front back r e w t = absurd (no_place front back r e)
