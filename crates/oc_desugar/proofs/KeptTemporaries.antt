-- The `let` of each temporary breaks no rule but maybe that of the counts, where the written statement breaks none and
-- the temporaries before it are held; and behind it its temporary is held too.
use Rattle.std.proofs.Common.{◌≡◌, ℕ, ◌+◌, Bool, true, false, List, [], ◌∷◌, ◌++◌, length, inl, inr, Option, Some, None, refl, ap, ◌∙◌}
use Rattle.std.proofs.lemmas.Bool.{and_parts, or_right}
use Rattle.std.specs.Prelude.{nat_lt, is_some, ◌&&◌, ◌||◌}
use Rattle.oc_lex.specs.Stands.{IsName}
use Rattle.oc_tree.specs.Tree.{TExpr, TCall, call, TRight, right_value, right_sense, right_call, TKind, let_to, let_array, assign, assign_index, assign_deref, if_else, for_in}
use Rattle.oc_tree.specs.Tree.{while_do, call_only, sense_only, emit, fresh, consistent, return, TProgram}
use Rattle.oc_tree.specs.declared.tree.Scalar.{Scalar}
use Rattle.oc_tree.specs.declared.tree.Scalar.TheVariants as scalars
use Rattle.oc_tree.specs.Form.{ExprInForm, RightInForm, KindInForm}
use Rattle.oc_tree.specs.Pulls.{expr_pulls, right_pulls}
use Rattle.oc_tree.specs.Calls.{function_place, args_of_call, expr_calls, args_calls, right_calls}
use Rattle.oc_tree.specs.Scope.{is_variable, is_name_of, is_declared, variable_in, variable_of}
use Rattle.oc_tree.specs.Types.{has_elements, is_int, type_of, pointed_type, scalar_of, right_type}
use Rattle.oc_tree.specs.Elements.{Here, let_var, kind_of, scope_after}
use Rattle.oc_tree.specs.Limits.{Tally, statement_passes}
use Rattle.oc_tree.specs.Broken.{statement_rules, lowest}
use Rattle.oc_tree.specs.Rules.{passed_on, expr_fits, right_fits}
use Rattle.oc_tree.specs.Expansion.{temporary, pulled_expr, pulled_right, pulled}
use Rattle.oc_tree.specs.Walks.{expr_known, right_known}
use Rattle.oc_desugar.proofs.Seen.{SameTop, SameReach, SameHere, NoTemporary, IsHeld, pull_type, HeldPulls}
use Rattle.oc_desugar.proofs.Lengths.{length_expr}
use Rattle.oc_desugar.proofs.KeptLookups.{same_declared}
use Rattle.oc_desugar.proofs.FineCalls.{CallFine, Gives, Each, each_front, each_back}
use Rattle.oc_desugar.proofs.Unbroken.{Unbroken, unbroken, stays_unbroken}
use Rattle.oc_desugar.proofs.PullSplits.{no_place, first_or_second, found_last}
use Rattle.oc_desugar.proofs.FinePulls.{ExprFine, ArgsFine, PullFine, fine_expr, fine_args, behind}

-- ---- the pulls of a right side

module _ {p q : TProgram} {f : ℕ → ℕ} {h g : Here} (top : SameTop p q) (reach : SameReach p q) (here : SameHere f h g) where
  -- of an expression of the statement
  pull_of_expr : (k : ℕ) (e : TExpr) (front back : List TRight) (r : TRight) → pulled_expr k e ≡ front ++ r ∷ back
      → ExprInForm IsName e → expr_known p h.scope e ≡ true → expr_fits p h.scope e ≡ true → Each (CallFine p h) (expr_calls e) → Each (Gives p) (expr_calls e)
      → HeldPulls p g.scope k front → PullFine p q g r
  pull_of_expr k e front back r at form known fits calls gives t =
      let w : ExprFine p h e = record { form = form; known = known; fits = or_right (is_some (passed_on p h.scope e)) _ fits; calls = calls; gives = gives } in
      fine_expr top reach here k e front back r at w t

  pull_of_call : (k : ℕ) (c : TCall) (front back : List TRight) (r : TRight) → pulled_right k (right_call c) ≡ front ++ r ∷ back
      → RightInForm IsName (right_call c) → right_known p h.scope (right_call c) ≡ true → right_fits p h.scope (right_call c) ≡ true
      → Each (CallFine p h) (right_calls (right_call c)) → Each (Gives p) (args_calls (args_of_call c))
      → HeldPulls p g.scope k front → PullFine p q g r
  pull_of_call k (call x xs) front back r at form known fits calls gives t =
      let w : ArgsFine p h xs = record {
        form = form.1;
        known = (and_parts (is_some (function_place p.functions x)) _ known).1;
        fits = fits;
        calls = each_front (CallFine p h) (args_calls xs) (call x xs ∷ []) calls;
        gives = gives;
      } in
      fine_args top reach here k xs front back r at w t

  pull_of_right : (k : ℕ) (a : TRight) (front back : List TRight) (r : TRight) → pulled_right k a ≡ front ++ r ∷ back
      → RightInForm IsName a → right_known p h.scope a ≡ true → right_fits p h.scope a ≡ true → Each (CallFine p h) (right_calls a) → Each (Gives p) (right_calls a)
      → HeldPulls p g.scope k front → PullFine p q g r
  pull_of_right k (right_value e) front back r at form known fits calls gives t = pull_of_expr k e front back r at form.1 known fits calls gives t
  pull_of_right k (right_sense x) front back r at form known fits calls gives t = absurd (no_place front back r at)
  pull_of_right k (right_call c) front back r at form known fits calls gives t = pull_of_call k c front back r at form known fits calls (gives_inside c gives) t
    where
      gives_inside : (c : TCall) → Each (Gives p) (right_calls (right_call c)) → Each (Gives p) (args_calls (args_of_call c))
      gives_inside (call x xs) e = each_front (Gives p) (args_calls xs) (call x xs ∷ []) e

  -- of a statement
  pull_of_kind : (k : ℕ) (s : TKind) (front back : List TRight) (r : TRight) → pulled k s ≡ front ++ r ∷ back
      → KindInForm IsName s → Unbroken p h s → HeldPulls p g.scope k front → PullFine p q g r
  pull_of_kind k (let_to m x n a) front back r at o u t = pull_of_right k a front back r at o.2 u.known u.fits u.calls u.gives t
  pull_of_kind k (let_array m x n z w) front back r at o u t = absurd (no_place front back r at)
  pull_of_kind k (assign x a) front back r at o u t =
      pull_of_right k a front back r at o.1 (and_parts (is_variable p h.scope x) _ u.known).1 u.fits u.calls u.gives t
  pull_of_kind k (assign_index x e a) front back r at o u t =
      let j = k + expr_pulls e in
      let known : expr_known p h.scope e && right_known p h.scope a ≡ true = (and_parts (is_variable p h.scope x) _ u.known).1 in
      let two : expr_fits p h.scope e && (is_int (type_of p h.scope e) && right_fits p h.scope a) ≡ true = (and_parts (has_elements (variable_of p h.scope x)) _ u.fits).1 in
      let three : is_int (type_of p h.scope e) && right_fits p h.scope a ≡ true = (and_parts (expr_fits p h.scope e) _ two).1 in
      elim (first_or_second (pulled_expr k e) (pulled_right j a) front back r at) [
        | inl s ↦ pull_of_expr k e front s.0 r s.1 o.1
            (and_parts _ (right_known p h.scope a) known).0
            (and_parts _ (is_int (type_of p h.scope e) && right_fits p h.scope a) two).0
            (each_front (CallFine p h) (expr_calls e) (right_calls a) u.calls)
            (each_front (Gives p) (expr_calls e) (right_calls a) u.gives)
            t
        | inr s ↦ pull_of_right j a s.0 back r s.2 o.2
            (and_parts (expr_known p h.scope e) _ known).1
            (and_parts (is_int (type_of p h.scope e)) _ three).1
            (each_back (CallFine p h) (expr_calls e) (right_calls a) u.calls)
            (each_back (Gives p) (expr_calls e) (right_calls a) u.gives)
            (behind top reach here k (expr_pulls e) (pulled_expr k e) (pulled_right j a) front back r (length_expr k e) s t)
      ]
  pull_of_kind k (assign_deref x a) front back r at o u t =
      pull_of_right k a front back r at o.1 (and_parts (is_variable p h.scope x) _ u.known).1 (and_parts (is_some (pointed_type (variable_of p h.scope x))) _ u.fits).1 u.calls u.gives t
  pull_of_kind k (if_else c a b) front back r at o u t = pull_of_expr k c front back r at o.0 u.known u.fits u.calls u.gives t
  pull_of_kind k (for_in x from to b) front back r at o u t = absurd (no_place front back r at)
  pull_of_kind k (while_do c n b) front back r at o u t = pull_of_expr k c front back r at o.0 u.known u.fits u.calls u.gives t
  pull_of_kind k (call_only (call x xs)) front back r at o u t = pull_of_call k (call x xs) front back r at o u.known u.fits u.calls u.gives t
  pull_of_kind k (sense_only x) front back r at o u t = absurd (no_place front back r at)
  pull_of_kind k (emit port e) front back r at o u t =
      pull_of_expr k e front back r at o.1 (and_parts (is_name_of p.names.ports port) _ u.known).1 u.fits u.calls u.gives t
  pull_of_kind k (fresh x) front back r at o u t = absurd (no_place front back r at)
  pull_of_kind k (consistent x n) front back r at o u t = absurd (no_place front back r at)
  pull_of_kind k (return e) front back r at o u t = pull_of_expr k e front back r at o u.known u.fits u.calls u.gives t

-- ---- its temporary

nothing_first : (n : ℕ) → n ≡ 0 → (b : Bool) → nat_lt 0 n && b ≡ false
nothing_first n e b = ap (λ m. nat_lt 0 m && b) e

-- a right side that breaks no rule, in the `let` of a temporary whose name is not taken
unbroken_temporary : (p q : TProgram) (g : Here) (j : ℕ) (r : TRight) → is_declared q (temporary j) ≡ false → variable_in g.scope (temporary j) ≡ None → PullFine p q g r
    → Unbroken q g (let_to false (temporary j) None r)
unbroken_temporary p q g j r undeclared new w = record {
  taken = ap (λ v. is_some v || is_declared q (temporary j)) new ∙ undeclared;
  known = w.known;
  fits = w.fits;
  sides = refl;
  condition = refl;
  gives = w.gives;
  lengths = refl;
  target = refl;
  array = refl;
  pointee = refl;
  calls = w.calls;
  annotates = refl;
  returns = refl;
  turns = refl;
  skips = w.skips;
  undisturbed = nothing_first (right_pulls r) w.plain _;
}

-- no rule but maybe that of the counts is broken by the `let` of a pull's temporary
pub temporary_kept : {p q : TProgram} {f : ℕ → ℕ} {h g : Here} → SameTop p q → SameReach p q → SameHere f h g → NoTemporary p
    → (n m : Tally) (k : ℕ) (s : TKind) → KindInForm IsName s
    → (front back : List TRight) (r : TRight) → pulled k s ≡ front ++ r ∷ back → HeldPulls p g.scope k front
    → variable_in g.scope (temporary (k + length front)) ≡ None → statement_passes m ≡ false
    → lowest (statement_rules p n h s) ≡ None
    → lowest (statement_rules q m g (let_to false (temporary (k + length front)) None r)) ≡ None
temporary_kept {p = p} {q = q} {h = h} {g = g} top reach here undeclared n m k s o front back r at t new counts e =
    let j = k + length front in
    let w = pull_of_kind top reach here k s front back r at o (unbroken p n h s e) t in
    stays_unbroken q m g (let_to false (temporary j) None r) (unbroken_temporary p q g j r (same_declared top (temporary j) ∙ undeclared j) new w) counts

scalar_of_kind : (t : Option Scalar) → is_some t ≡ true → scalar_of (kind_of t) ≡ t
scalar_of_kind (Some scalars.Int) e = refl
scalar_of_kind (Some scalars.Bool) e = refl
scalar_of_kind None e = absurd (cc)

-- and behind it its variable is held with the type of its pull
pub temporary_held : {p q : TProgram} {f : ℕ → ℕ} {h g : Here} → SameTop p q → SameReach p q → SameHere f h g
    → (n : Tally) (k : ℕ) (s : TKind) → KindInForm IsName s
    → (front back : List TRight) (r : TRight) → pulled k s ≡ front ++ r ∷ back → HeldPulls p g.scope k front
    → variable_in g.scope (temporary (k + length front)) ≡ None
    → lowest (statement_rules p n h s) ≡ None
    → (id : ℕ) → IsHeld (scope_after q g id (let_to false (temporary (k + length front)) None r)) (k + length front) (pull_type p r)
temporary_held {p = p} {q = q} {h = h} {g = g} top reach here n k s o front back r at t new e id =
    let j = k + length front in
    let w = pull_of_kind top reach here k s front back r at o (unbroken p n h s e) t in
    record {
      var = let_var g id false (kind_of (right_type q g.scope r));
      visible = found_last g.scope (temporary j) (let_var g id false (kind_of (right_type q g.scope r))) new;
      own = refl;
      typed = ap (λ y. scalar_of (kind_of y)) w.typed ∙ scalar_of_kind (pull_type p r) w.some;
      some = w.some;
    }
