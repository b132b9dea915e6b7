-- The rows of each depth of calls are those of the definition.
use Rattle.std.proofs.Common.{◌≡◌, refl, sym, ap, ◌∙◌, subst, ℕ, zero, suc, ◌+◌, ◌<◌, ◌≤◌, arith, Bool, true, false, true≢false, nat_eq, nat_lt, ◌⊎◌, inl, inr, List, [], ◌∷◌}
use Rattle.std.proofs.Common.{map, length, cond, Option, Some, None}
use Rattle.std.specs.Prelude.{◌&&◌, ◌||◌, not, filter, flat_map, option_map, option_to_list}
use Rattle.std.specs.List.{list_any}
use Rattle.std.proofs.Math.ListN.{get_or}
use Rattle.std.proofs.lemmas.Bool.{cases_lt, eqb-true, and_parts, not-false, or_parts}
use Rattle.std.proofs.lemmas.List.{get_or_past, length-map}
use Rattle.std.proofs.lemmas.List.Folds.{list_any-append}
use Rattle.oc_tree.specs.Tree.{TProgram}
use Rattle.oc_tree.specs.declared.tree.VarId.{VarId}
use Rattle.oc_tree.specs.declared.marked.Policy.{Policy}
use Rattle.oc_effects.specs.Effects.{TCalled, TEffect, effects, effects_at, function_effects}
use Rattle.oc_flow.specs.Variables.{from, variables, is_variable, is_given, begins, same_variable}
use Rattle.oc_tree.specs.Members.{IsOf}
use Rattle.oc_flow.specs.Flow.{flows, flows_to}
use Rattle.oc_needs.specs.Policies.{annotated, held, is_note_of, note_variable}
use Rattle.oc_needs.specs.Need.{Needed, is_empty, is_needed_at, needs_by_call, needs_itself, needs_by, needs_to, needs}
use Rattle.oc_needs.specs.Code.{row_of, rows_of, stands_for, needed_in_call, needed_in_calls, needed_itself, needing, is_given_to, row_by, is_changed, is_stale, same_row, TLevel}
use Rattle.oc_needs.specs.Code.{next_row, is_changed_row, is_row_changed, no_row, start_level, next_level, level_at}
use Rattle.oc_needs.proofs.Froms.{get_map_from, length_map_from}
use Rattle.oc_needs.proofs.Rows.{same_variable_is}
use Rattle.oc_needs.proofs.Tests.{bool_same, or_case, or_same, any_same, any_none, any_flat_map, any_filter, filter_same, filter_none, any_of, filter_tells}

-- ---- past the end of the functions

pub effects_past : (p : TProgram) (f : ℕ) → length p.functions ≤ f → effects_at p f ≡ []
effects_past p f h = get_or_past (effects p) f [] (omega (arith, h, length-map p.functions (function_effects p)))

pub annotated_past : (p : TProgram) (q : Policy) → length p.functions ≤ q.function → annotated p q ≡ []
annotated_past p q h = ap (λ es. flat_map (λ a. option_to_list (option_map note_variable a.note)) (filter (λ a. is_note_of q.kind a.note) es)) (effects_past p q.function h)

itself_past : (p : TProgram) (q : Policy) (f : ℕ) (w : VarId) → length p.functions ≤ f → needs_itself p q f w ≡ false
itself_past p q f w h = by_test (nat_eq f q.function) refl
  where
    inner : (b : Bool) → list_any (flows p f w) (annotated p q) ≡ false → b && list_any (flows p f w) (annotated p q) ≡ false
    inner true e = e
    inner false e = refl

    by_test : (t : Bool) → nat_eq f q.function ≡ t → t && (not (is_empty (held p q)) && list_any (flows p f w) (annotated p q)) ≡ false
    by_test false e = refl
    by_test true e =
        let i : f ≡ q.function = eqb-true f q.function e in
        inner (not (is_empty (held p q))) (ap (list_any (flows p f w)) (annotated_past p q (subst (λ n. length p.functions ≤ n) i h)))

by_call_past : (p : TProgram) (need : Needed) (f : ℕ) (w : VarId) → length p.functions ≤ f → needs_by_call p need f w ≡ false
by_call_past p need f w h = ap (λ es. list_any (λ a. list_any (λ y. is_needed_at p need a.call y && flows p f w y) (variables p f)) es) (effects_past p f h)

and_false : (a b : Bool) → b ≡ false → a && b ≡ false
and_false true b e = e
and_false false b e = refl

by_past : (p : TProgram) (q : Policy) (need : Needed) (f : ℕ) (w : VarId) → length p.functions ≤ f → needs_by p q need f w ≡ false
by_past p q need f w h = and_false (is_given w) _ (or_same (needs_itself p q f w) false (needs_by_call p need f w) false (itself_past p q f w h) (by_call_past p need f w h))

pub needs_past : (p : TProgram) (q : Policy) (depth f : ℕ) (w : VarId) → length p.functions ≤ f → needs_to p q depth f w ≡ false
unfolding needs_to
needs_past p q zero f w h = refl
needs_past p q (suc depth) f w h = by_past p q (needs_to p q depth) f w h

-- ---- one row

-- nothing is needed past the end
abbrev pub EndsThere : TProgram → Needed → Type 0
EndsThere p need = (f : ℕ) (w : VarId) → length p.functions ≤ f → need f w ≡ false

stands_is : (p : TProgram) (need : Needed) → EndsThere p need → (c : TCalled) (y : VarId) → stands_for c (get_or (rows_of p need) c.function []) y ≡ is_needed_at p need (Some c) y
stands_is p need ends c y = by_place (cases_lt c.function (length p.functions))
  where
    by_place : (c.function < length p.functions) ⊎ (length p.functions ≤ c.function) → stands_for c (get_or (rows_of p need) c.function []) y ≡ is_needed_at p need (Some c) y
    by_place (inl h) = ap (λ row. stands_for c row y) (get_map_from (row_of p need) (length p.functions) c.function [] h) ∙ any_filter (λ x. begins c x y) (need c.function) (variables p c.function)
    by_place (inr h) =
        ap (λ row. stands_for c row y) (get_or_past (rows_of p need) c.function [] (omega (arith, h, length_map_from (row_of p need) 0 (length p.functions))))
        ∙ sym (any_none (λ x. need c.function x && begins c x y) (variables p c.function) (λ x. ap (λ b. b && begins c x y) (ends c.function x h)))

pub in_call_is : (p : TProgram) (need : Needed) → EndsThere p need → (vs : List VarId) (o : Option TCalled) → needed_in_call (rows_of p need) vs o ≡ filter (is_needed_at p need o) vs
in_call_is p need ends vs None = sym (filter_none (λ y. false) vs (λ y. refl))
in_call_is p need ends vs (Some c) = filter_same (stands_for c (get_or (rows_of p need) c.function [])) (is_needed_at p need (Some c)) vs (stands_is p need ends c)

calls_part : (p : TProgram) (need : Needed) → EndsThere p need → (g : ℕ) (w : VarId) → list_any (flows p g w) (needed_in_calls (rows_of p need) (variables p g) (effects_at p g))
    ≡ needs_by_call p need g w
calls_part p need ends g w =
    any_flat_map (flows p g w) (λ a. needed_in_call (rows_of p need) (variables p g) a.call) (effects_at p g)
    ∙ any_same (λ a. list_any (flows p g w) (needed_in_call (rows_of p need) (variables p g) a.call))
    (λ a. list_any (λ y. is_needed_at p need a.call y && flows p g w y) (variables p g)) (effects_at p g)
    (λ a. ap (list_any (flows p g w)) (in_call_is p need ends (variables p g) a.call) ∙ any_filter (flows p g w) (is_needed_at p need a.call) (variables p g))

own_part : (p : TProgram) (q : Policy) (g : ℕ) (w : VarId) → list_any (flows p g w) (needed_itself p q g) ≡ needs_itself p q g w
own_part p q g w = by_tests (nat_eq g q.function) (not (is_empty (held p q)))
  where
    by_tests : (a b : Bool) → list_any (flows p g w) (cond (a && b) (annotated p q) []) ≡ a && (b && list_any (flows p g w) (annotated p q))
    by_tests false b = refl
    by_tests true false = refl
    by_tests true true = refl

pub row_by_is : (p : TProgram) (q : Policy) (need : Needed) → EndsThere p need → (g : ℕ) → row_by p q (rows_of p need) g ≡ row_of p (needs_by p q need) g
row_by_is p q need ends g =
    filter_same (is_given_to p g (needing p q (rows_of p need) g)) (needs_by p q need g) (variables p g)
    (λ w. ap (λ b. is_given w && b) (list_any-append (flows p g w) (needed_itself p q g) (needed_in_calls (rows_of p need) (variables p g) (effects_at p g))
    ∙ or_same (list_any (flows p g w) (needed_itself p q g)) (needs_itself p q g w) (list_any (flows p g w) (needed_in_calls (rows_of p need) (variables p g) (effects_at p g)))
    (needs_by_call p need g w) (own_part p q g w) (calls_part p need ends g w)))

-- ---- a row that stays

module _ (p : TProgram) (new before : Needed) (changed : List Bool) (settled : (g : ℕ) (w : VarId) → get_or changed g true ≡ false → new g w ≡ before g w) where
  same_at_call : (o : Option TCalled) (y : VarId) → is_changed changed o ≡ false → is_needed_at p new o y ≡ is_needed_at p before o y
  same_at_call None y h = refl
  same_at_call (Some c) y h = any_same (λ x. new c.function x && begins c x y) (λ x. before c.function x && begins c x y) (variables p c.function)
      (λ x. ap (λ b. b && begins c x y) (settled c.function x h))

  pub same_by_calls : (g : ℕ) (w : VarId) (es : List TEffect) → list_any (λ a. is_changed changed a.call) es ≡ false
      → list_any (λ a. list_any (λ y. is_needed_at p new a.call y && flows p g w y) (variables p g)) es
      ≡ list_any (λ a. list_any (λ y. is_needed_at p before a.call y && flows p g w y) (variables p g)) es
  same_by_calls g w [] h = refl
  same_by_calls g w (a ∷ es) h =
      let parts = or_parts (is_changed changed a.call) (list_any (λ b. is_changed changed b.call) es) h in
      or_same (list_any (λ y. is_needed_at p new a.call y && flows p g w y) (variables p g)) (list_any (λ y. is_needed_at p before a.call y && flows p g w y) (variables p g))
      (list_any (λ b. list_any (λ y. is_needed_at p new b.call y && flows p g w y) (variables p g)) es)
      (list_any (λ b. list_any (λ y. is_needed_at p before b.call y && flows p g w y) (variables p g)) es)
      (any_same (λ y. is_needed_at p new a.call y && flows p g w y) (λ y. is_needed_at p before a.call y && flows p g w y) (variables p g)
      (λ y. ap (λ b. b && flows p g w y) (same_at_call a.call y parts.0)))
      (same_by_calls g w es parts.1)

-- ---- only variables of the function are needed

pub among_is : (v : VarId) (vs : List VarId) → list_any (same_variable v) vs ≡ true → IsOf v vs
among_is v [] h = absurd (true≢false (sym h))
among_is v (w ∷ ws) h = or_case (same_variable v w) (list_any (same_variable v) ws) h (λ e. inl (same_variable_is v w e)) (λ e. inr (among_is v ws e))

-- a variable of a function stands in its list
pub listed : (p : TProgram) (f : ℕ) (v : VarId) → is_variable p f v ≡ true → IsOf v (variables p f)
listed p f v h = among_is v (variables p f) (and_parts (nat_lt f (length p.functions)) _ h).1

starts_to : (p : TProgram) (depth f : ℕ) (u v : VarId) → flows_to p depth f u v ≡ true → is_variable p f u ≡ true
unfolding flows_to
starts_to p zero f u v h = absurd (true≢false (sym h))
starts_to p (suc depth) f u v h = (and_parts (is_variable p f u) _ h).0

pub flow_starts : (p : TProgram) (f : ℕ) (u v : VarId) → flows p f u v ≡ true → is_variable p f u ≡ true
flow_starts p f u v h = starts_to p (length p.functions) f u v h

by_variable : (p : TProgram) (q : Policy) (need : Needed) (g : ℕ) (w : VarId) → needs_by p q need g w ≡ true → IsOf w (variables p g)
by_variable p q need g w h = listed p g w (or_case (needs_itself p q g w) (needs_by_call p need g w) (and_parts (is_given w) _ h).1 own calls)
  where
    own : needs_itself p q g w ≡ true → is_variable p g w ≡ true
    own e = let x = any_of (flows p g w) (annotated p q) (and_parts (not (is_empty (held p q))) _ (and_parts (nat_eq g q.function) _ e).1).1 in flow_starts p g w x.0 x.2

    calls : needs_by_call p need g w ≡ true → is_variable p g w ≡ true
    calls e =
        let a = any_of (λ b. list_any (λ y. is_needed_at p need b.call y && flows p g w y) (variables p g)) (effects_at p g) e in
        let y = any_of (λ z. is_needed_at p need a.0.call z && flows p g w z) (variables p g) a.2 in flow_starts p g w y.0 (and_parts (is_needed_at p need a.0.call y.0) _ y.2).1

pub needed_variable : (p : TProgram) (q : Policy) (depth g : ℕ) (w : VarId) → needs_to p q depth g w ≡ true → IsOf w (variables p g)
unfolding needs_to
needed_variable p q zero g w h = absurd (true≢false (sym h))
needed_variable p q (suc depth) g w h = by_variable p q (needs_to p q depth) g w h

-- equal rows say the same of all variables
same_row_is : (vs ws : List VarId) → same_row vs ws ≡ true → vs ≡ ws
same_row_is [] [] h = refl
same_row_is [] (w ∷ ws) h = absurd (true≢false (sym h))
same_row_is (v ∷ vs) [] h = absurd (true≢false (sym h))
same_row_is (v ∷ vs) (w ∷ ws) h =
    ap (λ z. z ∷ vs) (same_variable_is v w (and_parts (same_variable v w) (same_row vs ws) h).0) ∙ ap (λ zs. w ∷ zs) (same_row_is vs ws (and_parts (same_variable v w) (same_row vs ws) h).1)

rows_tell : (p : TProgram) (q : Policy) (d e g : ℕ) (w : VarId) → row_of p (needs_to p q d) g ≡ row_of p (needs_to p q e) g → needs_to p q d g w ≡ needs_to p q e g w
rows_tell p q d e g w h =
    bool_same (needs_to p q d g w) (needs_to p q e g w)
    (filter_tells (needs_to p q d g) (needs_to p q e g) w (variables p g) (needed_variable p q d g w) h)
    (filter_tells (needs_to p q e g) (needs_to p q d g) w (variables p g) (needed_variable p q e g w) (sym h))

-- ---- levels

-- The rows of a depth, and which functions' rows may have changed since what was known before. Only the policy's own
-- function may be a step behind, and that only without a row.
record IsLevel (p : TProgram) (q : Policy) (depth : ℕ) (level : TLevel) : Type 0 where
  rows_are : level.rows ≡ rows_of p (needs_to p q depth)
  before : Needed
  closed : (g : ℕ) (w : VarId) → (nat_eq g q.function && is_empty (get_or level.rows g [])) ≡ false → needs_to p q depth g w ≡ needs_by p q before g w
  settled : (g : ℕ) (w : VarId) → get_or level.changed g true ≡ false → needs_to p q depth g w ≡ before g w

needs_more : (p : TProgram) (q : Policy) (depth g : ℕ) (w : VarId) → needs_to p q (suc depth) g w ≡ needs_by p q (needs_to p q depth) g w
unfolding needs_to
needs_more p q depth g w = refl

needs_none : (p : TProgram) (q : Policy) (g : ℕ) (w : VarId) → needs_to p q zero g w ≡ false
unfolding needs_to
needs_none p q g w = refl

map_from_same : {A : Type 0} (f g : ℕ → A) (n count : ℕ) → ((i : ℕ) → i < n + count → f i ≡ g i) → map f (from n count) ≡ map g (from n count)
map_from_same f g n zero h = refl
map_from_same f g n (suc count) h =
    ap (λ x. x ∷ map f (from (n + 1) count)) (h n (omega arith)) ∙ ap (λ xs. g n ∷ xs) (map_from_same f g (n + 1) count (λ i l. h i (omega (arith, l))))

module _ (p : TProgram) (q : Policy) (depth : ℕ) (level : TLevel) (is : IsLevel p q depth level) where
  kept : (g : ℕ) (w : VarId) → is_stale q g (get_or level.rows g []) (effects_at p g) level.changed ≡ false → needs_to p q (suc depth) g w ≡ needs_to p q depth g w
  kept g w h =
      let parts = or_parts (nat_eq g q.function && is_empty (get_or level.rows g [])) (list_any (λ a. is_changed level.changed a.call) (effects_at p g)) h in
      needs_more p q depth g w
      ∙ (ap (λ b. is_given w && (needs_itself p q g w || b)) (same_by_calls p (needs_to p q depth) is.before level.changed is.settled g w (effects_at p g) parts.1)
      ∙ sym (is.closed g w parts.0))

  old_row : (g : ℕ) → g < length p.functions → get_or level.rows g [] ≡ row_of p (needs_to p q depth) g
  old_row g h = ap (λ rows. get_or rows g []) is.rows_are ∙ get_map_from (row_of p (needs_to p q depth)) (length p.functions) g [] h

  made_row : (g : ℕ) → row_by p q level.rows g ≡ row_of p (needs_to p q (suc depth)) g
  made_row g =
      ap (λ rows. row_by p q rows g) is.rows_are
      ∙ (row_by_is p q (needs_to p q depth) (needs_past p q depth) g
      ∙ filter_same (needs_by p q (needs_to p q depth) g) (needs_to p q (suc depth) g) (variables p g) (λ w. sym (needs_more p q depth g w)))

  row_step : (g : ℕ) → g < length p.functions → next_row p q level g ≡ row_of p (needs_to p q (suc depth)) g
  row_step g h = by_stale (is_stale q g (get_or level.rows g []) (effects_at p g) level.changed) refl
    where
      by_stale : (t : Bool) → is_stale q g (get_or level.rows g []) (effects_at p g) level.changed ≡ t → cond t (row_by p q level.rows g) (get_or level.rows g []) ≡ row_of p (needs_to p q (suc depth)) g
      by_stale true e = made_row g
      by_stale false e = old_row g h ∙ filter_same (needs_to p q depth g) (needs_to p q (suc depth) g) (variables p g) (λ w. sym (kept g w e))

  changed_step : (g : ℕ) (w : VarId) → g < length p.functions → is_row_changed p q level g ≡ false → needs_to p q (suc depth) g w ≡ needs_to p q depth g w
  changed_step g w h = by_stale (is_stale q g (get_or level.rows g []) (effects_at p g) level.changed) refl
    where
      by_stale : (t : Bool) → is_stale q g (get_or level.rows g []) (effects_at p g) level.changed ≡ t → cond t (is_changed_row p q level.rows g) false ≡ false → needs_to p q (suc depth) g w ≡ needs_to p q depth g w
      by_stale true e i =
          let same : row_by p q level.rows g ≡ get_or level.rows g [] = same_row_is (row_by p q level.rows g) (get_or level.rows g []) (not-false _ i) in
          rows_tell p q (suc depth) depth g w (sym (made_row g) ∙ (same ∙ old_row g h))
      by_stale false e i = kept g w e

  settled_step : (g : ℕ) (w : VarId) → get_or (map (is_row_changed p q level) (from 0 (length p.functions))) g true ≡ false → needs_to p q (suc depth) g w ≡ needs_to p q depth g w
  settled_step g w h = by_place (cases_lt g (length p.functions))
    where
      by_place : (g < length p.functions) ⊎ (length p.functions ≤ g) → needs_to p q (suc depth) g w ≡ needs_to p q depth g w
      by_place (inl l) = changed_step g w l (sym (get_map_from (is_row_changed p q level) (length p.functions) g true l) ∙ h)
      by_place (inr l) = absurd (true≢false (sym
          (get_or_past (map (is_row_changed p q level) (from 0 (length p.functions))) g true (omega (arith, l, length_map_from (is_row_changed p q level) 0 (length p.functions)))) ∙ h))

  next_is : IsLevel p q (suc depth) (next_level p q level)
  next_is = record {
    rows_are = map_from_same (next_row p q level) (row_of p (needs_to p q (suc depth))) 0 (length p.functions) (λ i h. row_step i (omega (arith, h)));
    before = needs_to p q depth;
    closed = λ g w d. needs_more p q depth g w;
    settled = settled_step;
  }

-- where nothing is needed, a call needs nothing
start_calls : (p : TProgram) (q : Policy) (g : ℕ) (w : VarId) → needs_by_call p (needs_to p q zero) g w ≡ false
start_calls p q g w = any_none (λ a. list_any (λ y. is_needed_at p (needs_to p q zero) a.call y && flows p g w y) (variables p g)) (effects_at p g)
    (λ a. any_none (λ y. is_needed_at p (needs_to p q zero) a.call y && flows p g w y) (variables p g) (λ y. ap (λ b. b && flows p g w y) (at_call a.call y)))
  where
    at_call : (o : Option TCalled) (y : VarId) → is_needed_at p (needs_to p q zero) o y ≡ false
    at_call None y = refl
    at_call (Some c) y = any_none (λ x. needs_to p q zero c.function x && begins c x y) (variables p c.function) (λ x. ap (λ b. b && begins c x y) (needs_none p q c.function x))

-- nothing has a row at the start
start_row : (count g : ℕ) → get_or (map no_row (from 0 count)) g [] ≡ []
start_row count g = by_place (cases_lt g count)
  where
    by_place : (g < count) ⊎ (count ≤ g) → get_or (map no_row (from 0 count)) g [] ≡ []
    by_place (inl h) = get_map_from no_row count g [] h
    by_place (inr h) = get_or_past (map no_row (from 0 count)) g [] (omega (arith, h, length_map_from no_row 0 count))

start_closed : (p : TProgram) (q : Policy) (g : ℕ) (w : VarId) → (nat_eq g q.function && is_empty (get_or (map no_row (from 0 (length p.functions))) g [])) ≡ false
    → needs_to p q zero g w ≡ needs_by p q (needs_to p q zero) g w
start_closed p q g w d =
    needs_none p q g w ∙ sym (and_false (is_given w) _ (or_same (needs_itself p q g w) false (needs_by_call p (needs_to p q zero) g w) false itself (start_calls p q g w)))
  where
    other : (t : Bool) → (t && true) ≡ false → t ≡ false
    other true e = e
    other false e = refl

    own : nat_eq g q.function ≡ false
    own = other (nat_eq g q.function) (sym (ap (λ row. nat_eq g q.function && is_empty row) (start_row (length p.functions) g)) ∙ d)

    itself : needs_itself p q g w ≡ false
    itself = ap (λ t. t && (not (is_empty (held p q)) && list_any (flows p g w) (annotated p q))) own

start_is : (p : TProgram) (q : Policy) → IsLevel p q zero (start_level (length p.functions))
start_is p q = record {
  rows_are = map_from_same no_row (row_of p (needs_to p q zero)) 0 (length p.functions) (λ i h. sym (filter_none (needs_to p q zero i) (variables p i) (needs_none p q i)));
  before = needs_to p q zero;
  closed = start_closed p q;
  settled = λ g w e. refl;
}

level_is : (p : TProgram) (q : Policy) (depth : ℕ) → IsLevel p q depth (level_at p q depth)
unfolding level_at
level_is p q zero = start_is p q
level_is p q (suc depth) = next_is p q depth (level_at p q depth) (level_is p q depth)

-- ---- what the loop over depths keeps

pub level_begins : (p : TProgram) (q : Policy) → start_level (length p.functions) ≡ level_at p q 0
unfolding level_at
level_begins p q = refl

next_of : (p : TProgram) (q : Policy) (k : ℕ) → next_level p q (level_at p q k) ≡ level_at p q (suc k)
unfolding level_at
next_of p q k = refl

pub level_more : (p : TProgram) (q : Policy) (k : ℕ) (old new : TLevel) → new ≡ next_level p q old → old ≡ level_at p q k → new ≡ level_at p q (k + 1)
level_more p q k old new e i = let n : suc k ≡ k + 1 = omega arith in e ∙ (ap (next_level p q) i ∙ (next_of p q k ∙ ap (level_at p q) n))

pub level_ends : (p : TProgram) (q : Policy) (k : ℕ) (level : TLevel) → k ≡ length p.functions → level ≡ level_at p q k → level.rows ≡ rows_of p (needs p q)
level_ends p q k level e i =
    ap (λ l. l.rows) (i ∙ ap (level_at p q) e) ∙ rows_at p q
  where
    rows_at : (p : TProgram) (q : Policy) → (level_at p q (length p.functions)).rows ≡ rows_of p (needs p q)
    rows_at p q = let l = level_is p q (length p.functions) in l.rows_are

-- ---- a depth that changes nothing

at_same : (p : TProgram) (new before : Needed) → ((g : ℕ) (w : VarId) → new g w ≡ before g w) → (o : Option TCalled) (y : VarId) → is_needed_at p new o y ≡ is_needed_at p before o y
at_same p new before h None y = refl
at_same p new before h (Some c) y = any_same (λ x. new c.function x && begins c x y) (λ x. before c.function x && begins c x y) (variables p c.function)
    (λ x. ap (λ b. b && begins c x y) (h c.function x))

by_same : (p : TProgram) (q : Policy) (new before : Needed) → ((g : ℕ) (w : VarId) → new g w ≡ before g w) → (g : ℕ) (w : VarId) → needs_by p q new g w ≡ needs_by p q before g w
by_same p q new before h g w =
    ap (λ b. is_given w && (needs_itself p q g w || b))
    (any_same (λ a. list_any (λ y. is_needed_at p new a.call y && flows p g w y) (variables p g))
    (λ a. list_any (λ y. is_needed_at p before a.call y && flows p g w y) (variables p g)) (effects_at p g)
    (λ a. any_same (λ y. is_needed_at p new a.call y && flows p g w y) (λ y. is_needed_at p before a.call y && flows p g w y) (variables p g)
    (λ y. ap (λ b. b && flows p g w y) (at_same p new before h a.call y))))

stays : (p : TProgram) (q : Policy) (d : ℕ) → ((g : ℕ) (w : VarId) → needs_to p q (suc d) g w ≡ needs_to p q d g w) → (m : ℕ) → d ≤ m → (g : ℕ) (w : VarId) → needs_to p q m g w ≡ needs_to p q d g w
stays p q d h zero l g w = let e : zero ≡ d = omega (arith, l) in ap (λ n. needs_to p q n g w) e
stays p q d h (suc m) l g w = by_order (cases_lt m d) (λ i f v. stays p q d h m i f v)
  where
    by_order : (m < d) ⊎ (d ≤ m) → (d ≤ m → (f : ℕ) (v : VarId) → needs_to p q m f v ≡ needs_to p q d f v) → needs_to p q (suc m) g w ≡ needs_to p q d g w
    by_order (inl i) r = let e : suc m ≡ d = omega (arith, l, i) in ap (λ n. needs_to p q n g w) e
    by_order (inr i) r = needs_more p q m g w ∙ (by_same p q (needs_to p q m) (needs_to p q d) (r i) g w ∙ (sym (needs_more p q d g w) ∙ h g w))

none_at : (bs : List Bool) (i : ℕ) → list_any (λ b. b) bs ≡ false → i < length bs → get_or bs i true ≡ false
none_at [] i h l = absurd (omega (arith, l))
none_at (b ∷ bs) zero h l = let parts = or_parts b (list_any (λ c. c) bs) h in parts.0
none_at (b ∷ bs) (suc i) h l = let parts = or_parts b (list_any (λ c. c) bs) h in none_at bs i parts.1 (omega (arith, l))

pub level_settles : (p : TProgram) (q : Policy) (k : ℕ) (old new : TLevel) → k < length p.functions → new ≡ next_level p q old → old ≡ level_at p q k
    → list_any (λ b. b) new.changed ≡ false → new.rows ≡ rows_of p (needs p q)
level_settles p q k old new l e i none =
    ap (λ r. r.rows) same ∙ (now.rows_are ∙ map_from_same (row_of p (needs_to p q (suc k))) (row_of p (needs p q)) 0 (length p.functions)
    (λ g h. filter_same (needs_to p q (suc k) g) (needs p q g) (variables p g) (λ w. settled g w ∙ sym (stays p q k settled (length p.functions) (omega (arith, l)) g w))))
  where
    same : new ≡ next_level p q (level_at p q k)
    same = e ∙ ap (next_level p q) i

    now : IsLevel p q (suc k) (next_level p q (level_at p q k))
    now = next_is p q k (level_at p q k) (level_is p q k)

    no_change : list_any (λ b. b) (map (is_row_changed p q (level_at p q k)) (from 0 (length p.functions))) ≡ false
    no_change = sym (ap (λ r. list_any (λ b. b) r.changed) same) ∙ none

    settled : (g : ℕ) (w : VarId) → needs_to p q (suc k) g w ≡ needs_to p q k g w
    settled g w = by_place (cases_lt g (length p.functions))
      where
        by_place : (g < length p.functions) ⊎ (length p.functions ≤ g) → needs_to p q (suc k) g w ≡ needs_to p q k g w
        by_place (inl h) = settled_step p q k (level_at p q k) (level_is p q k) g w
            (none_at (map (is_row_changed p q (level_at p q k)) (from 0 (length p.functions))) g no_change
            (omega (arith, h, length_map_from (is_row_changed p q (level_at p q k)) 0 (length p.functions))))
        by_place (inr h) = needs_past p q (suc k) g w h ∙ sym (needs_past p q k g w h)

-- ---- what the code makes of a depth

module _ (p : TProgram) (q : Policy) (old : TLevel) (g : ℕ) (rows : List (List VarId)) (changed : List Bool) (c : changed ≡ old.changed) (r : rows ≡ old.rows) where
  stale_same : is_stale q g (get_or rows g []) (effects_at p g) changed ≡ is_stale q g (get_or old.rows g []) (effects_at p g) old.changed
  stale_same = λ i. is_stale q g (get_or (r i) g []) (effects_at p g) (c i)

  pub made_is : is_stale q g (get_or rows g []) (effects_at p g) changed ≡ true → row_by p q rows g ≡ next_row p q old g
  made_is e = ap (λ rs. row_by p q rs g) r ∙ sym (ap (λ t. cond t (row_by p q old.rows g) (get_or old.rows g [])) (sym stale_same ∙ e))

  pub made_changed : is_stale q g (get_or rows g []) (effects_at p g) changed ≡ true → is_changed_row p q rows g ≡ is_row_changed p q old g
  made_changed e = ap (λ rs. is_changed_row p q rs g) r ∙ sym (ap (λ t. cond t (is_changed_row p q old.rows g) false) (sym stale_same ∙ e))

  pub kept_is : is_stale q g (get_or rows g []) (effects_at p g) changed ≡ false → get_or rows g [] ≡ next_row p q old g
  kept_is e = ap (λ rs. get_or rs g []) r ∙ sym (ap (λ t. cond t (row_by p q old.rows g) (get_or old.rows g [])) (sym stale_same ∙ e))

  pub kept_changed : is_stale q g (get_or rows g []) (effects_at p g) changed ≡ false → false ≡ is_row_changed p q old g
  kept_changed e = sym (ap (λ t. cond t (is_changed_row p q old.rows g) false) (sym stale_same ∙ e))

pub next_level_is : (p : TProgram) (q : Policy) (old : TLevel) (k : ℕ) (level : TLevel) → k ≡ length p.functions → level.rows ≡ map (next_row p q old) (from 0 k)
    → level.changed ≡ map (is_row_changed p q old) (from 0 k) → level ≡ next_level p q old
next_level_is p q old k level e r c =
    let rows = r ∙ ap (λ n. map (next_row p q old) (from 0 n)) e in
    let changed = c ∙ ap (λ n. map (is_row_changed p q old) (from 0 n)) e in λ i. record { rows = rows i; changed = changed i }
