-- Calls that break no rule, in lists.
use Rattle.std.proofs.Common.{◌≡◌, ℕ, ◌+◌, Bool, true, false, true≢false, List, [], ◌∷◌, ◌++◌, refl, ap, sym, subst, ◌∙◌}
use Rattle.std.proofs.lemmas.Bool.{and_from, and_parts, or_from}
use Rattle.std.specs.Prelude.{is_some, ◌||◌}
use Rattle.std.specs.List.{list_all, list_any}
use Rattle.oc_lex.specs.Stands.{IsName}
use Rattle.oc_tree.specs.Tree.{TExpr, TCall, call, TRight, right_value, right_sense, right_call, TKind, let_to, let_array, assign, assign_index, assign_deref, if_else, for_in}
use Rattle.oc_tree.specs.Tree.{while_do, call_only, sense_only, emit, fresh, consistent, return, TProgram}
use Rattle.oc_tree.specs.Form.{CallInForm, RightInForm, KindInForm}
use Rattle.oc_tree.specs.Pulls.{expr_pulls}
use Rattle.oc_tree.specs.Calls.{callee, expr_calls, call_calls, args_calls, right_calls, own_calls}
use Rattle.oc_tree.specs.Scope.{Scope}
use Rattle.oc_tree.specs.Types.{call_type}
use Rattle.oc_tree.specs.Elements.{Here}
use Rattle.oc_tree.specs.Rules.{is_main, call_meets, arg_lends, call_args, lends_alone, call_exposes, callee_is, back_to, used_calls}
use Rattle.oc_tree.specs.Expansion.{left_expr, left_call, left_right, expand_kind}
use Rattle.oc_desugar.proofs.Seen.{SameTop, SameReach, SameHere}
use Rattle.oc_desugar.proofs.HeldParts.{HeldCall, HeldRight, HeldKind}
use Rattle.oc_desugar.proofs.KeptLookups.{SameNames}
use Rattle.oc_desugar.proofs.KeptExpressions.{no_calls_expr, no_calls_args, same_call_type}
use Rattle.oc_desugar.proofs.KeptCalls.{same_call_meets, same_call_lends, still_alone, same_call_exposes, same_back}

-- the call breaks no rule, but maybe that its result is used
pub record CallFine (p : TProgram) (h : Here) (c : TCall) : Type 0 where
  pub other : is_main (callee c) ≡ false
  pub meets : call_meets p h.scope c ≡ true
  pub lends : list_all (arg_lends p h.scope) (call_args c) ≡ true
  pub alone : lends_alone p c ≡ true
  pub hidden : call_exposes p h.scope c ≡ false
  pub away : callee_is (back_to p h.number) p c ≡ false

-- its function has a result
abbrev pub Gives : TProgram → TCall → Type 0
Gives p c = is_some (call_type p c) ≡ true

-- each of the calls is so
abbrev pub Each : (TCall → Type 0) → List TCall → Type 0
Each P [] = Unit {0}
Each P (c ∷ cs) = P c × Each P cs

module _ (P : TCall → Type 0) where
  pub each_front : (xs ys : List TCall) → Each P (xs ++ ys) → Each P xs
  each_front [] ys h = tt
  each_front (x ∷ xs) ys h = (h.0, each_front xs ys h.1)

  pub each_back : (xs ys : List TCall) → Each P (xs ++ ys) → Each P ys
  each_back [] ys h = h
  each_back (x ∷ xs) ys h = each_back xs ys h.1

-- ---- what the rules say of lists of calls

none_first : (a b : Bool) → a || b ≡ false → a ≡ false
none_first true b h = h
none_first false b h = refl

none_second : (a b : Bool) → a || b ≡ false → b ≡ false
none_second true b h = absurd (true≢false h)
none_second false b h = h

module _ (p : TProgram) (h : Here) where
  pub fine_from_rules : (cs : List TCall)
      → list_any (λ c. is_main (callee c)) cs ≡ false
      → list_all (call_meets p h.scope) cs ≡ true
      → list_all (λ c. list_all (arg_lends p h.scope) (call_args c)) cs ≡ true
      → list_all (lends_alone p) cs ≡ true
      → list_any (call_exposes p h.scope) cs ≡ false
      → list_any (callee_is (back_to p h.number) p) cs ≡ false
      → Each (CallFine p h) cs
  fine_from_rules [] a b c d e g = tt
  fine_from_rules (x ∷ xs) a b c d e g =
      let one : CallFine p h x = record {
        other = none_first _ (list_any (λ y. is_main (callee y)) xs) a;
        meets = (and_parts _ (list_all (call_meets p h.scope) xs) b).0;
        lends = (and_parts _ (list_all (λ y. list_all (arg_lends p h.scope) (call_args y)) xs) c).0;
        alone = (and_parts _ (list_all (lends_alone p) xs) d).0;
        hidden = none_first _ (list_any (call_exposes p h.scope) xs) e;
        away = none_first _ (list_any (callee_is (back_to p h.number) p) xs) g;
      } in
      let rest = fine_from_rules xs
      (none_second (is_main (callee x)) _ a)
      (and_parts (call_meets p h.scope x) _ b).1
      (and_parts (list_all (arg_lends p h.scope) (call_args x)) _ c).1
      (and_parts (lends_alone p x) _ d).1
      (none_second (call_exposes p h.scope x) _ e)
      (none_second (callee_is (back_to p h.number) p x) _ g) in
      (one, rest)

  pub none_main : (cs : List TCall) → Each (CallFine p h) cs → list_any (λ c. is_main (callee c)) cs ≡ false
  none_main [] e = refl
  none_main (c ∷ cs) e = or_from _ _ e.0.other (none_main cs e.1)

  pub all_meet : (cs : List TCall) → Each (CallFine p h) cs → list_all (call_meets p h.scope) cs ≡ true
  all_meet [] e = refl
  all_meet (c ∷ cs) e = and_from _ _ e.0.meets (all_meet cs e.1)

  pub all_lend : (cs : List TCall) → Each (CallFine p h) cs → list_all (λ c. list_all (arg_lends p h.scope) (call_args c)) cs ≡ true
  all_lend [] e = refl
  all_lend (c ∷ cs) e = and_from _ _ e.0.lends (all_lend cs e.1)

  pub all_alone : (cs : List TCall) → Each (CallFine p h) cs → list_all (lends_alone p) cs ≡ true
  all_alone [] e = refl
  all_alone (c ∷ cs) e = and_from _ _ e.0.alone (all_alone cs e.1)

  pub none_exposes : (cs : List TCall) → Each (CallFine p h) cs → list_any (call_exposes p h.scope) cs ≡ false
  none_exposes [] e = refl
  none_exposes (c ∷ cs) e = or_from _ _ e.0.hidden (none_exposes cs e.1)

  pub none_back : (cs : List TCall) → Each (CallFine p h) cs → list_any (callee_is (back_to p h.number) p) cs ≡ false
  none_back [] e = refl
  none_back (c ∷ cs) e = or_from _ _ e.0.away (none_back cs e.1)

pub gives_from_rule : (p : TProgram) (cs : List TCall) → list_all (λ c. is_some (call_type p c)) cs ≡ true → Each (Gives p) cs
gives_from_rule p [] h = tt
gives_from_rule p (c ∷ cs) h = ((and_parts _ (list_all (λ d. is_some (call_type p d)) cs) h).0, gives_from_rule p cs (and_parts (is_some (call_type p c)) _ h).1)

pub all_give : (p : TProgram) (cs : List TCall) → Each (Gives p) cs → list_all (λ c. is_some (call_type p c)) cs ≡ true
all_give p [] e = refl
all_give p (c ∷ cs) e = and_from _ _ e.0 (all_give p cs e.1)

-- ---- what is left of a statement calls what is left of its own call, if it is one or its right side is one

module _ (p : TProgram) (t : Scope) (P Q : TCall → Type 0) (kept : (k : ℕ) (c : TCall) → CallInForm IsName c → HeldCall p t k c → P c → Q (left_call k c)) where
  pub each_call : (k : ℕ) (c : TCall) → CallInForm IsName c → HeldCall p t k c → Each P (call_calls c) → Each Q (call_calls (left_call k c))
  each_call k (call g xs) i h e =
      let own : P (call g xs) = (each_back P (args_calls xs) (call g xs ∷ []) e).0 in
      subst (λ l. Each Q (l ++ left_call k (call g xs) ∷ [])) (sym (no_calls_args k xs)) (kept k (call g xs) i h own, tt)

  each_expr : (k : ℕ) (e : TExpr) → Each Q (expr_calls (left_expr k e))
  each_expr k e = subst (Each Q) (sym (no_calls_expr k e)) tt

  each_right : (k : ℕ) (r : TRight) → RightInForm IsName r → HeldRight p t k r → Each P (right_calls r) → Each Q (right_calls (left_right k r))
  each_right k (right_value a) i h e = each_expr k a
  each_right k (right_sense x) i h e = tt
  each_right k (right_call c) i h e = each_call k c i h e

  pub each_own : (k i : ℕ) (s : TKind) → KindInForm IsName s → HeldKind p t k s → Each P (own_calls s) → Each Q (own_calls (expand_kind k i s))
  each_own k i (let_to m x n r) o h e = each_right k r o.2 h e
  each_own k i (let_array m x n z w) o h e = tt
  each_own k i (assign x r) o h e = each_right k r o.1 h e
  each_own k i (assign_index x a r) o h e =
      let j = k + expr_pulls a in
      subst (λ l. Each Q (l ++ right_calls (left_right j r))) (sym (no_calls_expr k a)) (each_right j r o.2 h.1 (each_back P (expr_calls a) (right_calls r) e))
  each_own k i (assign_deref x r) o h e = each_right k r o.1 h e
  each_own k i (if_else c a b) o h e = each_expr k c
  each_own k i (for_in x from to b) o h e = tt
  each_own k i (while_do c n b) o h e = each_expr k c
  each_own k i (call_only c) o h e = each_call k c o h e
  each_own k i (sense_only x) o h e = tt
  each_own k i (emit port a) o h e = each_expr k a
  each_own k i (fresh x) o h e = tt
  each_own k i (consistent x n) o h e = tt
  each_own k i (return a) o h e = each_expr k a

  -- of the calls whose results are used
  pub each_used : (k i : ℕ) (s : TKind) → KindInForm IsName s → HeldKind p t k s → Each P (used_calls s) → Each Q (used_calls (expand_kind k i s))
  each_used k i (call_only (call g xs)) o h e = subst (Each Q) (sym (no_calls_args k xs)) tt
  each_used k i (let_to m x n r) o h e = each_own k i (let_to m x n r) o h e
  each_used k i (let_array m x n z w) o h e = tt
  each_used k i (assign x r) o h e = each_own k i (assign x r) o h e
  each_used k i (assign_index x a r) o h e = each_own k i (assign_index x a r) o h e
  each_used k i (assign_deref x r) o h e = each_own k i (assign_deref x r) o h e
  each_used k i (if_else c a b) o h e = each_expr k c
  each_used k i (for_in x from to b) o h e = tt
  each_used k i (while_do c n b) o h e = each_expr k c
  each_used k i (sense_only x) o h e = tt
  each_used k i (emit port a) o h e = each_expr k a
  each_used k i (fresh x) o h e = tt
  each_used k i (consistent x n) o h e = tt
  each_used k i (return a) o h e = each_expr k a

-- ---- a call that is fine stays so

pub fine_left : {p q : TProgram} {f : ℕ → ℕ} {h g : Here} → SameTop p q → SameReach p q → SameHere f h g → (k : ℕ) (c : TCall) → CallInForm IsName c → HeldCall p g.scope k c
    → CallFine p h c → CallFine q g (left_call k c)
fine_left {p = p} {q = q} {f = f} {h = h} {g = g} top reach here k c i held e =
    let m : SameNames p q f h.scope g.scope = record { top = top; sees = here.scope } in
    record {
      other = same_callee k c ∙ e.other;
      meets = same_call_meets m k c i held ∙ e.meets;
      lends = same_call_lends m k c i ∙ e.lends;
      alone = still_alone m k c i e.meets e.alone;
      hidden = same_call_exposes m reach k c i ∙ e.hidden;
      away = ap (λ n. callee_is (back_to q n) q (left_call k c)) here.number ∙ same_back m reach h.number k c ∙ e.away;
    }
  where
    same_callee : (k : ℕ) (c : TCall) → is_main (callee (left_call k c)) ≡ is_main (callee c)
    same_callee k (call g xs) = refl

pub gives_left : {p q : TProgram} {f : ℕ → ℕ} {s t : Scope} → SameNames p q f s t → (k : ℕ) (c : TCall) → Gives p c → Gives q (left_call k c)
gives_left m k c e = ap is_some (same_call_type m k c) ∙ e
