-- Where no rule is broken by a call, none is by what is left of it in the expansion: its arguments meet the parameters,
-- lend what may be lent, stand alone where they are lent, and expose no nonvolatile variable.
use Rattle.std.proofs.Common.{◌≡◌, ℕ, ◌+◌, ◌≤◌, Bool, true, true≢false, List, [], ◌∷◌, length, Option, Some, None, refl, ap, sym, ◌∙◌, arith}
use Rattle.std.proofs.lemmas.Bool.{and_from, and_parts}
use Rattle.std.specs.Prelude.{option_map, ◌&&◌, ◌||◌, ◌==◌}
use Rattle.std.specs.Str.{bytes_eq}
use Rattle.std.specs.List.{list_all, list_any}
use Rattle.std.proofs.lemmas.Bool.Decides.{nat_tests}
use Rattle.oc_lex.specs.Stands.{IsName}
use Rattle.oc_tree.specs.Names.{Text}
use Rattle.oc_tree.specs.Tree.{TExpr, number, truth, variable, index, deref, unary, binary, sensed, called, TArg, value, shared, mutable, TCall, call, TArgs, no_args, more_args, TProgram}
use Rattle.oc_tree.specs.Form.{ExprInForm, ArgInForm, CallInForm, ArgsInForm}
use Rattle.oc_tree.specs.declared.tree.Param.{Param}
use Rattle.oc_tree.specs.declared.tree.Passing.{Passing}
use Rattle.oc_tree.specs.declared.tree.Passing.TheVariants as passings
use Rattle.oc_tree.specs.declared.tree.ValueKind.{ValueKind}
use Rattle.oc_tree.specs.declared.scope.Var.{Var}
use Rattle.oc_tree.specs.Pulls.{expr_pulls, call_pulls, arg_pulls}
use Rattle.oc_tree.specs.Calls.{function_place, reaches_mention}
use Rattle.oc_tree.specs.Scope.{Scope, variable_of, function_named}
use Rattle.oc_tree.specs.Types.{scalar_of, is_same}
use Rattle.oc_tree.specs.Rules.{has_kind, origin_is, is_mutable_param, is_writable, is_own, is_nv, passed_on, value_meets, shared_meets, mutable_meets, arg_meets, args_meet}
use Rattle.oc_tree.specs.Rules.{args_list, call_args, params_of, call_meets, arg_lends, value_lent_is, lent_is, all_lent, lends_alone, passes_nv, arg_exposes, at_place, callee_is}
use Rattle.oc_tree.specs.Rules.{call_exposes, back_to}
use Rattle.oc_tree.specs.Expansion.{temporary, left_expr, left_call, left_args, left_arg}
use Rattle.oc_tree.specs.Walks.{once, expr_mentions, args_mentions, arg_mentions}
use Rattle.oc_tree.specs.Mentions.{call_mentions}
use Rattle.oc_tree.proofs.PartLaws.{mentions_of_call}
use Rattle.oc_desugar.proofs.Seen.{SameReach, new_var}
use Rattle.oc_desugar.proofs.HeldParts.{HeldExpr, HeldCall, HeldArgs, HeldArg}
use Rattle.oc_desugar.proofs.KeptLookups.{SameNames, apart, same_text, same_place, same_params, same_variable, same_test, new_kind, new_test, new_mutable, new_writable, new_own, new_is_nv}
use Rattle.oc_desugar.proofs.KeptExpressions.{same_type, same_passed}

-- ---- names are mentioned no more often

mutual
  fewer_expr : (x : Text) → IsName x → (k : ℕ) (e : TExpr) → expr_mentions x (left_expr k e) ≤ expr_mentions x e
  fewer_expr x n k (number z) = omega arith
  fewer_expr x n k (truth b) = omega arith
  fewer_expr x n k (variable y) = omega arith
  fewer_expr x n k (index y e) = omega (arith, fewer_expr x n k e)
  fewer_expr x n k (deref y) = omega arith
  fewer_expr x n k (unary op e) = fewer_expr x n k e
  fewer_expr x n k (binary op a b) = omega (arith, fewer_expr x n k a, fewer_expr x n (k + expr_pulls a) b)
  fewer_expr x n k (sensed s) = let none : once (bytes_eq x (temporary k)) ≡ 0 = ap once (apart x n k) in omega (arith, none)
  fewer_expr x n k (called c) = let none : once (bytes_eq x (temporary (k + call_pulls c))) ≡ 0 = ap once (apart x n (k + call_pulls c)) in omega (arith, none)

  fewer_args : (x : Text) → IsName x → (k : ℕ) (xs : TArgs) → args_mentions x (left_args k xs) ≤ args_mentions x xs
  fewer_args x n k no_args = omega arith
  fewer_args x n k (more_args a rest) = omega (arith, fewer_arg x n k a, fewer_args x n (k + arg_pulls a) rest)

  fewer_arg : (x : Text) → IsName x → (k : ℕ) (a : TArg) → arg_mentions x (left_arg k a) ≤ arg_mentions x a
  fewer_arg x n k (value e) = fewer_expr x n k e
  fewer_arg x n k (shared y) = omega arith
  fewer_arg x n k (mutable y) = omega arith

-- as many arguments
same_length : (k : ℕ) (xs : TArgs) → length (args_list (left_args k xs)) ≡ length (args_list xs)
same_length k no_args = refl
same_length k (more_args a rest) = omega (arith, same_length (k + arg_pulls a) rest)

new_shared : (f : ℕ → ℕ) (g : Passing) (kind : ValueKind) (v : Option Var) → shared_meets g kind (option_map (new_var f) v) ≡ shared_meets g kind v
new_shared f passings.Value kind v = refl
new_shared f passings.Shared kind v = new_kind kind f v
new_shared f passings.Mutable kind v = refl

new_mutable_meets : (f : ℕ → ℕ) (g : Passing) (kind : ValueKind) (v : Option Var) → mutable_meets g kind (option_map (new_var f) v) ≡ mutable_meets g kind v
new_mutable_meets f passings.Value kind v = refl
new_mutable_meets f passings.Shared kind v = refl
new_mutable_meets f passings.Mutable kind v = new_kind kind f v

at_same : (test other : ℕ → Bool) → ((u : ℕ) → test u ≡ other u) → (i : Option ℕ) → at_place test i ≡ at_place other i
at_same test other same None = refl
at_same test other same (Some u) = same u

-- what stood once and stands still stands once
once_still : (n m : ℕ) → m ≤ n → 1 ≤ m → n == 1 ≡ true → m == 1 ≡ true
once_still n m h i e = grind (arith, nat_tests)

module _ {p q : TProgram} {f : ℕ → ℕ} {s t : Scope} (m : SameNames p q f s t) where
  -- ---- arguments meet their parameters

  same_value_meets : (g : Passing) (kind : ValueKind) (k : ℕ) (e : TExpr) → ExprInForm IsName e → HeldExpr p t k e → value_meets q t g kind (left_expr k e) ≡ value_meets p s g kind e
  same_value_meets passings.Value kind k e i h = ap (is_same (scalar_of kind)) (same_type m k e i h)
  same_value_meets passings.Shared kind k e i h = ap (has_kind kind) (same_passed m k e i h) ∙ new_kind kind f (passed_on p s e)
  same_value_meets passings.Mutable kind k e i h =
      ap (λ v. origin_is is_mutable_param v && has_kind kind v) (same_passed m k e i h)
      ∙ ap (λ b. b && has_kind kind (option_map (new_var f) (passed_on p s e))) (new_test f is_mutable_param (new_mutable f) (passed_on p s e))
      ∙ ap (λ b. origin_is is_mutable_param (passed_on p s e) && b) (new_kind kind f (passed_on p s e))

  same_meets : (g : Param) (k : ℕ) (a : TArg) → ArgInForm IsName a → HeldArg p t k a → arg_meets q t g (left_arg k a) ≡ arg_meets p s g a
  same_meets g k (value e) i h = same_value_meets g.passing g.kind k e i h
  same_meets g k (shared x) i h = ap (shared_meets g.passing g.kind) (same_variable m x i) ∙ new_shared f g.passing g.kind (variable_of p s x)
  same_meets g k (mutable x) i h = ap (mutable_meets g.passing g.kind) (same_variable m x i) ∙ new_mutable_meets f g.passing g.kind (variable_of p s x)

  same_all_meet : (gs : List Param) (k : ℕ) (xs : TArgs) → ArgsInForm IsName xs → HeldArgs p t k xs → args_meet q t gs (left_args k xs) ≡ args_meet p s gs xs
  same_all_meet gs k no_args i h = refl
  same_all_meet [] k (more_args a rest) i h = refl
  same_all_meet (g ∷ gs) k (more_args a rest) i h =
      ap (λ b. b && args_meet q t gs (left_args (k + arg_pulls a) rest)) (same_meets g k a i.0 h.0)
      ∙ ap (λ b. arg_meets p s g a && b) (same_all_meet gs (k + arg_pulls a) rest i.1 h.1)

  pub same_call_meets : (k : ℕ) (c : TCall) → CallInForm IsName c → HeldCall p t k c → call_meets q t (left_call k c) ≡ call_meets p s c
  same_call_meets k (call g xs) i h =
      ap (λ gs. (length gs == length (args_list (left_args k xs))) && args_meet q t gs (left_args k xs)) (same_params m.top g)
      ∙ ap (λ n. (length (params_of (function_named p g)) == n) && args_meet q t (params_of (function_named p g)) (left_args k xs)) (same_length k xs)
      ∙ ap (λ b. (length (params_of (function_named p g)) == length (args_list xs)) && b) (same_all_meet (params_of (function_named p g)) k xs i.1 h)

  -- ---- what is lent

  same_lends : (k : ℕ) (a : TArg) → ArgInForm IsName a → arg_lends q t (left_arg k a) ≡ arg_lends p s a
  same_lends k (value e) i = refl
  same_lends k (shared x) i = same_test m is_own (new_own f) x i
  same_lends k (mutable x) i = same_test m is_writable (new_writable f) x i

  same_all_lend : (k : ℕ) (xs : TArgs) → ArgsInForm IsName xs → list_all (arg_lends q t) (args_list (left_args k xs)) ≡ list_all (arg_lends p s) (args_list xs)
  same_all_lend k no_args i = refl
  same_all_lend k (more_args a rest) i =
      ap (λ b. b && list_all (arg_lends q t) (args_list (left_args (k + arg_pulls a) rest))) (same_lends k a i.0)
      ∙ ap (λ b. arg_lends p s a && b) (same_all_lend (k + arg_pulls a) rest i.1)

  pub same_call_lends : (k : ℕ) (c : TCall) → CallInForm IsName c → list_all (arg_lends q t) (call_args (left_call k c)) ≡ list_all (arg_lends p s) (call_args c)
  same_call_lends k (call g xs) i = same_all_lend k xs i.1

  -- ---- what is lent stands alone: `all` and `left` count the mentions in the call and in what is left of it. A call
  -- that meets its parameters lends no pull

  module _ (all left : Text → ℕ) (fewer : (x : Text) → IsName x → left x ≤ all x) where
    still_value : (g : Passing) (kind : ValueKind) (k : ℕ) (e : TExpr) → ExprInForm IsName e → ((x : Text) → IsName x → expr_mentions x (left_expr k e) ≤ left x)
        → value_meets p s g kind e ≡ true → value_lent_is (λ x. all x == 1) g e ≡ true → value_lent_is (λ x. left x == 1) g (left_expr k e) ≡ true
    still_value passings.Value kind k e i within o h = refl
    still_value passings.Shared kind k e i within o h = refl
    still_value passings.Mutable kind k (number z) i within o h = refl
    still_value passings.Mutable kind k (truth b) i within o h = refl
    still_value passings.Mutable kind k (variable x) i within o h =
        let here : once (bytes_eq x x) ≡ 1 = ap once (same_text x) in
        once_still (all x) (left x) (fewer x i) (omega (arith, here, within x i)) h
    still_value passings.Mutable kind k (index x e) i within o h = refl
    still_value passings.Mutable kind k (deref x) i within o h = refl
    still_value passings.Mutable kind k (unary op e) i within o h = refl
    still_value passings.Mutable kind k (binary op a b) i within o h = refl
    still_value passings.Mutable kind k (sensed x) i within o h = absurd (true≢false (sym o))
    still_value passings.Mutable kind k (called c) i within o h = absurd (true≢false (sym o))

    still_arg : (g : Param) (k : ℕ) (a : TArg) → ArgInForm IsName a → ((x : Text) → IsName x → arg_mentions x (left_arg k a) ≤ left x)
        → arg_meets p s g a ≡ true → lent_is (λ x. all x == 1) g a ≡ true → lent_is (λ x. left x == 1) g (left_arg k a) ≡ true
    still_arg g k (value e) i within o h = still_value g.passing g.kind k e i within o h
    still_arg g k (shared x) i within o h = refl
    still_arg g k (mutable x) i within o h =
        let here : once (bytes_eq x x) ≡ 1 = ap once (same_text x) in
        once_still (all x) (left x) (fewer x i) (omega (arith, here, within x i)) h

    still_args : (gs : List Param) (k : ℕ) (xs : TArgs) → ArgsInForm IsName xs → ((x : Text) → IsName x → args_mentions x (left_args k xs) ≤ left x)
        → args_meet p s gs xs ≡ true → all_lent (λ x. all x == 1) gs xs ≡ true → all_lent (λ x. left x == 1) gs (left_args k xs) ≡ true
    still_args gs k no_args i within o h = refl
    still_args [] k (more_args a rest) i within o h = refl
    still_args (g ∷ gs) k (more_args a rest) i within o h =
        let own = still_arg g k a i.0 (λ x n. omega (arith, within x n)) (and_parts _ (args_meet p s gs rest) o).0 (and_parts _ (all_lent (λ x. all x == 1) gs rest) h).0 in
        let others = still_args gs (k + arg_pulls a) rest i.1 (λ x n. omega (arith, within x n)) (and_parts (arg_meets p s g a) _ o).1 (and_parts (lent_is (λ x. all x == 1) g a) _ h).1 in
        and_from _ _ own others

  pub still_alone : (k : ℕ) (c : TCall) → CallInForm IsName c → call_meets p s c ≡ true → lends_alone p c ≡ true → lends_alone q (left_call k c) ≡ true
  still_alone k (call g xs) i o h =
      let meet : args_meet p s (params_of (function_named p g)) xs ≡ true = (and_parts (length (params_of (function_named p g)) == length (args_list xs)) _ o).1 in
      let left : (x : Text) → call_mentions x (left_call k (call g xs)) ≡ args_mentions x (left_args k xs) = λ x. mentions_of_call x (left_call k (call g xs)) in
      let all : (x : Text) → call_mentions x (call g xs) ≡ args_mentions x xs = λ x. mentions_of_call x (call g xs) in
      ap (λ gs. all_lent (λ x. call_mentions x (left_call k (call g xs)) == 1) gs (left_args k xs)) (same_params m.top g)
      ∙ still_args (λ x. call_mentions x (call g xs)) (λ x. call_mentions x (left_call k (call g xs))) (λ x n. omega (arith, fewer_args x n k xs, left x, all x))
      (params_of (function_named p g)) k xs i.1 (λ x n. omega (arith, left x)) meet h

  -- ---- nonvolatile variables and the way back

  module _ (reach : SameReach p q) where
    same_exposes : (u k : ℕ) (a : TArg) → ArgInForm IsName a → arg_exposes q t u (left_arg k a) ≡ arg_exposes p s u a
    same_exposes u k (value e) i = refl
    same_exposes u k (shared x) i = ap (λ b. b && reaches_mention q.functions x u) (same_test m is_nv (new_is_nv f) x i) ∙ ap (λ b. passes_nv p s x && b) (reach.mention x i u)
    same_exposes u k (mutable x) i = ap (λ b. b && reaches_mention q.functions x u) (same_test m is_nv (new_is_nv f) x i) ∙ ap (λ b. passes_nv p s x && b) (reach.mention x i u)

    same_all_expose : (u k : ℕ) (xs : TArgs) → ArgsInForm IsName xs → list_any (arg_exposes q t u) (args_list (left_args k xs)) ≡ list_any (arg_exposes p s u) (args_list xs)
    same_all_expose u k no_args i = refl
    same_all_expose u k (more_args a rest) i =
        ap (λ b. b || list_any (arg_exposes q t u) (args_list (left_args (k + arg_pulls a) rest))) (same_exposes u k a i.0)
        ∙ ap (λ b. arg_exposes p s u a || b) (same_all_expose u (k + arg_pulls a) rest i.1)

    pub same_call_exposes : (k : ℕ) (c : TCall) → CallInForm IsName c → call_exposes q t (left_call k c) ≡ call_exposes p s c
    same_call_exposes k (call g xs) i =
        ap (at_place (λ u. list_any (arg_exposes q t u) (args_list (left_args k xs)))) (same_place m.top g)
        ∙ at_same (λ u. list_any (arg_exposes q t u) (args_list (left_args k xs))) (λ u. list_any (arg_exposes p s u) (args_list xs)) (λ u. same_all_expose u k xs i.1) (function_place p.functions g)

    pub same_back : (n k : ℕ) (c : TCall) → callee_is (back_to q n) q (left_call k c) ≡ callee_is (back_to p n) p c
    same_back n k (call g xs) = ap (at_place (back_to q n)) (same_place m.top g) ∙ at_same (back_to q n) (back_to p n) (reach.back n) (function_place p.functions g)
