-- The written statement as it is left in the expansion breaks no rule but maybe that of the counts, where the written
-- one breaks none.
use Rattle.std.proofs.Common.{◌≡◌, ℕ, ◌+◌, Bool, true, false, None, refl, ap, ◌∙◌, arith}
use Rattle.std.proofs.lemmas.Bool.{and_from, and_parts}
use Rattle.std.specs.Prelude.{not, nat_lt, is_some, ◌&&◌, ◌||◌}
use Rattle.oc_lex.specs.Stands.{IsName}
use Rattle.oc_tree.specs.Tree.{right_call, TKind, let_to, let_array, assign, assign_index, assign_deref, if_else, for_in, while_do, call_only, sense_only, emit, fresh, consistent, return, TProgram}
use Rattle.oc_tree.specs.Form.{KindInForm}
use Rattle.oc_tree.specs.Pulls.{expr_pulls, own_pulls}
use Rattle.oc_tree.specs.Scope.{variable_of, variable_in, is_variable, is_name_of}
use Rattle.oc_tree.specs.Types.{value_type, pointed_type, has_elements, is_int, is_bool, is_same, type_of, right_type}
use Rattle.oc_tree.specs.Elements.{Here}
use Rattle.oc_tree.specs.Limits.{Tally, statement_passes}
use Rattle.oc_tree.specs.Broken.{statement_rules, lowest}
use Rattle.oc_tree.specs.Rules.{takes_name, expr_fits, right_fits, own_fits, written_differs, sides_differ, condition_is_number, let_bad_length}
use Rattle.oc_tree.specs.Rules.{target_fixed, array_fixed, pointee_fixed, origin_is, is_writable, is_writable_array, is_mutable_param, is_let_in, annotates_other}
use Rattle.oc_tree.specs.Rules.{returns_elsewhere, has_many_turns, pulls_disturb}
use Rattle.oc_tree.specs.Expansion.{left_expr, left_right, expand_kind}
use Rattle.oc_tree.specs.Walks.{kind_known, kind_skips, right_skips, expr_known, right_known}
use Rattle.oc_desugar.proofs.Seen.{SameTop, SameReach, SameHere, HeldOwn}
use Rattle.oc_desugar.proofs.NoPulls.{none_expr, none_kind}
use Rattle.oc_desugar.proofs.HeldParts.{HeldKind, held_kind}
use Rattle.oc_desugar.proofs.KeptLookups.{SameNames, same_taken, same_sensor, same_port, same_is_variable, same_value_type, same_pointed_type, same_elements, same_test, new_test}
use Rattle.oc_desugar.proofs.KeptLookups.{new_writable, new_writable_array, new_mutable, new_let_in}
use Rattle.oc_desugar.proofs.KeptExpressions.{none_skipped_expr, none_skipped, same_type, same_right_type, known_expr, known_call}
use Rattle.oc_desugar.proofs.KeptExpressions.{known_right, fits_expr, fits_call, fits_right}
use Rattle.oc_desugar.proofs.FineCalls.{CallFine, Gives, each_own, each_used, fine_left, gives_left}
use Rattle.oc_desugar.proofs.Unbroken.{Unbroken, unbroken, stays_unbroken}

-- ---- what doesn't look at names

no_pulls : (k i : ℕ) (s : TKind) → own_pulls (expand_kind k i s) ≡ 0
no_pulls k i s = omega (arith, none_kind k i s)

none_skipped_own : (k i : ℕ) (s : TKind) → kind_skips (expand_kind k i s) ≡ false
none_skipped_own k i (let_to m x n r) = none_skipped k r
none_skipped_own k i (let_array m x n z w) = refl
none_skipped_own k i (assign x r) = none_skipped k r
none_skipped_own k i (assign_index x e r) = ap (λ b. b || right_skips (left_right (k + expr_pulls e) r)) (none_skipped_expr k e) ∙ none_skipped (k + expr_pulls e) r
none_skipped_own k i (assign_deref x r) = none_skipped k r
none_skipped_own k i (if_else c a b) = none_skipped_expr k c
none_skipped_own k i (for_in x from to b) = refl
none_skipped_own k i (while_do c n b) = ap (nat_lt 0) (none_expr k c)
none_skipped_own k i (call_only c) = none_skipped k (right_call c)
none_skipped_own k i (sense_only x) = refl
none_skipped_own k i (emit port e) = none_skipped_expr k e
none_skipped_own k i (fresh x) = refl
none_skipped_own k i (consistent x n) = refl
none_skipped_own k i (return e) = none_skipped_expr k e

same_lengths : (k i : ℕ) (s : TKind) → let_bad_length (expand_kind k i s) ≡ let_bad_length s
same_lengths k i (let_to m x n r) = refl
same_lengths k i s = refl

same_turns : (k i : ℕ) (s : TKind) → has_many_turns (expand_kind k i s) ≡ has_many_turns s
same_turns k i (let_to m x n r) = refl
same_turns k i s = refl

undisturbed_left : (q : TProgram) (k i : ℕ) (s : TKind) → pulls_disturb q (expand_kind k i s) ≡ false
undisturbed_left q k i s = by (own_pulls (expand_kind k i s)) (no_pulls k i s) _
  where
    by : (n : ℕ) → n ≡ 0 → (b : Bool) → nat_lt 0 n && b ≡ false
    by n e b = ap (λ m. nat_lt 0 m && b) e

module _ {p q : TProgram} {f : ℕ → ℕ} {h g : Here} (top : SameTop p q) (here : SameHere f h g) where
  same : SameNames p q f h.scope g.scope
  same = record { top = top; sees = here.scope }

  -- ---- names

  same_takes : (k i : ℕ) (s : TKind) → KindInForm IsName s → takes_name q g.scope (expand_kind k i s) ≡ takes_name p h.scope s
  same_takes k i (let_to m x n r) o = same_taken same x o.0
  same_takes k i (let_array m x n z w) o = same_taken same x o.0
  same_takes k i (for_in x from to b) o = same_taken same x o.0
  same_takes k i s o = refl

  known_own : (k i : ℕ) (s : TKind) → KindInForm IsName s → HeldKind p g.scope k s → kind_known p h.scope s ≡ true → kind_known q g.scope (expand_kind k i s) ≡ true
  known_own k i (let_to m x n r) o t e = known_right same k r o.2 t e
  known_own k i (let_array m x n z w) o t e = refl
  known_own k i (assign x r) o t e =
      and_from _ _ (same_is_variable same x o.0 ∙ (and_parts _ (right_known p h.scope r) e).0) (known_right same k r o.1 t (and_parts (is_variable p h.scope x) _ e).1)
  known_own k i (assign_index x a r) o t e =
      let rest : expr_known p h.scope a && right_known p h.scope r ≡ true = (and_parts (is_variable p h.scope x) _ e).1 in
      and_from _ _ (same_is_variable same x o.0 ∙ (and_parts _ (expr_known p h.scope a && right_known p h.scope r) e).0)
      (and_from _ _ (known_expr same k a o.1 t.0 (and_parts _ (right_known p h.scope r) rest).0) (known_right same (k + expr_pulls a) r o.2 t.1 (and_parts (expr_known p h.scope a) _ rest).1))
  known_own k i (assign_deref x r) o t e =
      and_from _ _ (same_is_variable same x o.0 ∙ (and_parts _ (right_known p h.scope r) e).0) (known_right same k r o.1 t (and_parts (is_variable p h.scope x) _ e).1)
  known_own k i (if_else c a b) o t e = known_expr same k c o.0 t e
  known_own k i (for_in x from to b) o t e = refl
  known_own k i (while_do c n b) o t e = known_expr same k c o.0 t e
  known_own k i (call_only c) o t e = known_call same k c o t e
  known_own k i (sense_only x) o t e = same_sensor top x ∙ e
  known_own k i (emit port a) o t e =
      and_from _ _ (same_port top port ∙ (and_parts _ (expr_known p h.scope a) e).0) (known_expr same k a o.1 t (and_parts (is_name_of p.names.ports port) _ e).1)
  known_own k i (fresh x) o t e = same_is_variable same x o ∙ e
  known_own k i (consistent x n) o t e = same_is_variable same x o.0 ∙ e
  known_own k i (return a) o t e = known_expr same k a o t e

  -- ---- types

  fits_own : (k i : ℕ) (s : TKind) → KindInForm IsName s → HeldKind p g.scope k s → own_fits p h.scope s ≡ true → own_fits q g.scope (expand_kind k i s) ≡ true
  fits_own k i (let_to m x n r) o t e = fits_right same k r o.2 t e
  fits_own k i (let_array m x n z w) o t e = refl
  fits_own k i (assign x r) o t e = fits_right same k r o.1 t e
  fits_own k i (assign_index x a r) o t e =
      let one : has_elements (variable_of p h.scope x) ≡ true = (and_parts _ _ e).0 in
      let two : expr_fits p h.scope a && (is_int (type_of p h.scope a) && right_fits p h.scope r) ≡ true = (and_parts (has_elements (variable_of p h.scope x)) _ e).1 in
      let three : is_int (type_of p h.scope a) && right_fits p h.scope r ≡ true = (and_parts (expr_fits p h.scope a) _ two).1 in
      and_from _ _ (same_elements same x o.0 ∙ one)
      (and_from _ _ (fits_expr same k a o.1 t.0 (and_parts _ (is_int (type_of p h.scope a) && right_fits p h.scope r) two).0)
      (and_from _ _ (ap is_int (same_type same k a o.1 t.0) ∙ (and_parts _ (right_fits p h.scope r) three).0)
      (fits_right same (k + expr_pulls a) r o.2 t.1 (and_parts (is_int (type_of p h.scope a)) _ three).1)))
  fits_own k i (assign_deref x r) o t e =
      and_from _ _ (ap is_some (same_pointed_type same x o.0) ∙ (and_parts _ (right_fits p h.scope r) e).0)
      (fits_right same k r o.1 t (and_parts (is_some (pointed_type (variable_of p h.scope x))) _ e).1)
  fits_own k i (if_else c a b) o t e = fits_expr same k c o.0 t e
  fits_own k i (for_in x from to b) o t e = refl
  fits_own k i (while_do c n b) o t e = fits_expr same k c o.0 t e
  fits_own k i (call_only c) o t e = fits_call same k c o t e
  fits_own k i (sense_only x) o t e = refl
  fits_own k i (emit port a) o t e = fits_expr same k a o.1 t e
  fits_own k i (fresh x) o t e = refl
  fits_own k i (consistent x n) o t e = refl
  fits_own k i (return a) o t e = fits_expr same k a o t e

  same_sides : (k i : ℕ) (s : TKind) → KindInForm IsName s → HeldKind p g.scope k s → sides_differ q g.scope (expand_kind k i s) ≡ sides_differ p h.scope s
  same_sides k i (let_to m x n r) o t = ap (written_differs n) (same_right_type same k r o.2 t)
  same_sides k i (assign x r) o t =
      ap (λ y. not (is_same y (right_type q g.scope (left_right k r)))) (same_value_type same x o.0)
      ∙ ap (λ y. not (is_same (value_type (variable_of p h.scope x)) y)) (same_right_type same k r o.1 t)
  same_sides k i (assign_index x a r) o t = ap (λ y. not (is_int y)) (same_right_type same (k + expr_pulls a) r o.2 t.1)
  same_sides k i (assign_deref x r) o t =
      ap (λ y. not (is_same y (right_type q g.scope (left_right k r)))) (same_pointed_type same x o.0)
      ∙ ap (λ y. not (is_same (pointed_type (variable_of p h.scope x)) y)) (same_right_type same k r o.1 t)
  same_sides k i (emit port a) o t = ap (λ y. not (is_int y)) (same_type same k a o.1 t)
  same_sides k i s o t = refl

  same_condition : (k i : ℕ) (s : TKind) → KindInForm IsName s → HeldKind p g.scope k s → condition_is_number q g.scope (expand_kind k i s) ≡ condition_is_number p h.scope s
  same_condition k i (if_else c a b) o t = ap (λ y. not (is_bool y)) (same_type same k c o.0 t)
  same_condition k i (while_do c n b) o t = ap (λ y. not (is_bool y)) (same_type same k c o.0 t)
  same_condition k i s o t = refl

  -- ---- targets, annotations and returns

  same_target : (k i : ℕ) (s : TKind) → KindInForm IsName s → target_fixed q g.scope (expand_kind k i s) ≡ target_fixed p h.scope s
  same_target k i (assign x r) o = ap not (same_test same is_writable (new_writable f) x o.0)
  same_target k i s o = refl

  same_array : (k i : ℕ) (s : TKind) → KindInForm IsName s → array_fixed q g.scope (expand_kind k i s) ≡ array_fixed p h.scope s
  same_array k i (assign_index x a r) o = ap not (same_test same is_writable_array (new_writable_array f) x o.0)
  same_array k i s o = refl

  same_pointee : (k i : ℕ) (s : TKind) → KindInForm IsName s → pointee_fixed q g.scope (expand_kind k i s) ≡ pointee_fixed p h.scope s
  same_pointee k i (assign_deref x r) o = ap not (same_test same is_mutable_param (new_mutable f) x o.0)
  same_pointee k i s o = refl

  same_annotated : (x : _) → IsName x → not (origin_is (is_let_in g.block) (variable_in g.scope x)) ≡ not (origin_is (is_let_in h.block) (variable_in h.scope x))
  same_annotated x n =
      ap (λ b. not (origin_is (is_let_in b) (variable_in g.scope x))) here.block
      ∙ ap (λ v. not (origin_is (is_let_in h.block) v)) (here.scope x n)
      ∙ ap not (new_test f (is_let_in h.block) (new_let_in f h.block) (variable_in h.scope x))

  same_annotates : (k i : ℕ) (s : TKind) → KindInForm IsName s → annotates_other g (expand_kind k i s) ≡ annotates_other h s
  same_annotates k i (fresh x) o = same_annotated x o
  same_annotates k i (consistent x n) o = same_annotated x o.0
  same_annotates k i s o = refl

  same_returns : g.last ≡ h.last → (k i : ℕ) (s : TKind) → KindInForm IsName s → HeldKind p g.scope k s → returns_elsewhere q g (expand_kind k i s) ≡ returns_elsewhere p h s
  same_returns last k i (return a) o t =
      ap (λ b. not (b && is_same g.function.result (type_of q g.scope (left_expr k a)))) last
      ∙ ap (λ r. not (h.last && is_same r.result (type_of q g.scope (left_expr k a)))) here.head
      ∙ ap (λ y. not (h.last && is_same h.function.result y)) (same_type same k a o t)
  same_returns last k i s o t = refl

  -- ---- all rules

  module _ (reach : SameReach p q) where
    unbroken_left : g.last ≡ h.last → (k i : ℕ) (s : TKind) → KindInForm IsName s → HeldKind p g.scope k s → Unbroken p h s → Unbroken q g (expand_kind k i s)
    unbroken_left last k i s o t u = record {
      taken = same_takes k i s o ∙ u.taken;
      known = known_own k i s o t u.known;
      fits = fits_own k i s o t u.fits;
      sides = same_sides k i s o t ∙ u.sides;
      condition = same_condition k i s o t ∙ u.condition;
      gives = each_used p g.scope (Gives p) (Gives q) (λ j c a b. gives_left same j c) k i s o t u.gives;
      lengths = same_lengths k i s ∙ u.lengths;
      target = same_target k i s o ∙ u.target;
      array = same_array k i s o ∙ u.array;
      pointee = same_pointee k i s o ∙ u.pointee;
      calls = each_own p g.scope (CallFine p h) (CallFine q g) (fine_left top reach here) k i s o t u.calls;
      annotates = same_annotates k i s o ∙ u.annotates;
      returns = same_returns last k i s o t ∙ u.returns;
      turns = same_turns k i s ∙ u.turns;
      skips = none_skipped_own k i s;
      undisturbed = undisturbed_left q k i s;
    }

-- no rule but maybe that of the counts is broken by a written statement as it is left in the expansion
pub statement_kept : {p q : TProgram} {f : ℕ → ℕ} {h g : Here} → SameTop p q → SameReach p q → SameHere f h g → g.last ≡ h.last
    → (n m : Tally) (k i : ℕ) (s : TKind) → KindInForm IsName s → HeldOwn p g.scope k s → statement_passes m ≡ false
    → lowest (statement_rules p n h s) ≡ None
    → lowest (statement_rules q m g (expand_kind k i s)) ≡ None
statement_kept {p = p} {q = q} {h = h} {g = g} top reach here last n m k i s o t counts e =
    stays_unbroken q m g (expand_kind k i s) (unbroken_left top here reach last k i s o (held_kind p g.scope k s t) (unbroken p n h s e)) counts
