-- The budgets of a marked program bound the runs of its code.
use Rattle.std.proofs.Common.{◌≡◌, ◌≤◌, ◌<◌, ◌+◌, ℕ, zero, suc, Bool, true, false, true≢false, List, [], ◌∷◌, length, get_or, append-nil, Option, Some, None, refl, sym, ap, ◌∙◌}
use Rattle.std.proofs.Common.{subst, arith}
use Rattle.std.specs.Prelude.{◌==◌, ◌||◌, slice_get, flat_map, option_map, position}
use Rattle.std.specs.List.{list_any}
use Rattle.std.proofs.lemmas.Bool.{eqb-true, eq-eqb, or_left, or_right}
use Rattle.std.proofs.lemmas.List.{length-map}
use Rattle.std.proofs.lemmas.List.Quantifiers.{position-Some}
use Rattle.std.proofs.lemmas.Option.{none-some, same_Some, slice_get-get_or}
use Rattle.oc_tree.specs.Tree.{TCall, TStmts, TFunction, TProgram}
use Rattle.oc_tree.specs.Numbers.{block_statements}
use Rattle.oc_tree.specs.Places.{Placed, at_start, block_placed, program_placed, block_of}
use Rattle.oc_tree.specs.Marked.{TRegion, TMarked, IsMarked, is_in_region}
use Rattle.oc_tree.specs.Picked.{block_spent}
use Rattle.oc_tree.specs.Stack.{link_words}
use Rattle.oc_tree.specs.Elements.{in_function}
use Rattle.oc_tree.proofs.Grouped.{ids, functions_ids}
use Rattle.oc_isa.specs.Image.{Parts}
use Rattle.oc_isa.specs.Table.{device_of}
use Rattle.oc_effects.specs.Effects.{function_effects, params_at}
use Rattle.oc_code.specs.Scope.{InNv, Named, named, function_scope}
use Rattle.oc_code.specs.Code.{code_of}
use Rattle.oc_code.specs.Formed.{IsFormed}
use Rattle.oc_code.proofs.Lawful.{Access, all_access, block_lawful, region_lawful}
use Rattle.oc_code.proofs.Places.{base, nv_width}
use Rattle.oc_code.proofs.Closed.{call_within}
use Rattle.oc_desugar.proofs.NumberLists.{Follow, first_of, parts}
use Rattle.oc_formed.proofs.Law.{marked_program_formed}
use Rattle.oc_formed.proofs.BodiesMarked.{BlockMarked}
use Rattle.oc_checked.proofs.Heads.{head_unbroken}
use Rattle.oc_checked.proofs.BodiesPass.{FunctionFine, function_fine}
use Rattle.oc_checked.proofs.Declared.{all_within}
use Rattle.oc_checked.proofs.Mains.{own_place}
use Rattle.oc_formed.proofs.RegionsMarked.{bodies_marked}
use Rattle.oc_formed.proofs.ScopesStart.{start_found}
use Rattle.oc_bounds.specs.Bounds.{Bounds, IsBounded}
use Rattle.oc_writes.specs.Targets.{may_write, region_targets}
use Rattle.oc_writes.proofs.Standing.{Each, each_map, each_front, each_back, each_both, each_for, Found, found}
use Rattle.oc_reach.proofs.Lists.{at_place}
use Rattle.oc_watch.proofs.Bounded.{Tables}
use Rattle.oc_watch.proofs.Words.{covers}
use Rattle.oc_watch.proofs.Compared.{block_counted}
use Rattle.oc_watch.proofs.Costed.{Budgeted, tree_bounded}
use Rattle.oc_watch.proofs.Summed.{block_sum, picked}
use Rattle.oc_budget.specs.Budgets.{steps}
use Rattle.oc_budget.specs.Costs.{is_use, total}
use Rattle.oc_budget.specs.Bounding.{bounds_of, BudgetsBound}
use Rattle.oc_budget.proofs.BoundSums.{region_at, picks_of, picks, held_of, held, few_words, sums, some_spent, safe_run, safe_region}
use Rattle.oc_budget.proofs.BoundPlain.{block_plain, function_plain}
use Rattle.oc_budget.proofs.BoundUses.{function_told, body_used}
use Rattle.oc_budget.proofs.BoundBegun.{in_block, Begun, block_begun, follows, index_is, index_below}
use Rattle.oc_budget.proofs.BoundAccess.{Slots, slots_let, slots_for, start_slots}
use Rattle.oc_budget.proofs.BoundWithin.{KindMay, Inner, block_may, region_may}
use Rattle.oc_budget.proofs.BoundWritten.{writes, writes_at, writes_of, fun_access, no_access, function_may, tells}
use Rattle.oc_budget.proofs.BoundTargets.{region_access, stored, covered, region_each}

-- ---- numbers of statements and the functions that have them

numbered_in : (i : ℕ) (xs : List ℕ) (s : ℕ) → Follow i xs → list_any (λ n. n == s) xs ≡ true → (i ≤ s) × (s < i + length xs)
numbered_in i [] s f h = absurd (true≢false (sym h))
numbered_in i (x ∷ xs) s f h = by (x == s) refl h (numbered_in (suc i) xs s (first_of x i xs f).1)
  where
    by : (b : Bool) → (x == s) ≡ b → b || list_any (λ n. n == s) xs ≡ true → (list_any (λ n. n == s) xs ≡ true → (suc i ≤ s) × (s < suc i + length xs)) → (i ≤ s) × (s < i + suc (length xs))
    by true is e rest = let same = eqb-true x s is in let o = (first_of x i xs f).0 in (omega (arith, same, o), omega (arith, same, o))
    by false is e rest = let r = rest e in (omega (arith, r.0), omega (arith, r.1))

abbrev InFunction : ℕ → TFunction → Type 0
InFunction s f = list_any (λ n. n == s) (block_statements f.body) ≡ true

from_function : (i : ℕ) (fs : List TFunction) (u : ℕ) (f : TFunction) (s : ℕ) → Follow i (flat_map (λ g. block_statements g.body) fs) → slice_get fs u ≡ Some f → InFunction s f → i ≤ s
from_function i [] u f s h e is = absurd (none-some f e)
from_function i (g ∷ fs) zero f s h e is =
    (numbered_in i (block_statements g.body) s (parts i (block_statements g.body) (flat_map (λ g. block_statements g.body) fs) h).0 (subst (InFunction s) (sym (same_Some g f e)) is)).0
from_function i (g ∷ fs) (suc u) f s h e is =
    let le = from_function (i + length (block_statements g.body)) fs u f s (parts i (block_statements g.body) (flat_map (λ g. block_statements g.body) fs) h).1 e is in
    omega (arith, le)

-- a statement stands in one function alone
one_function : (i : ℕ) (fs : List TFunction) (u v : ℕ) (f g : TFunction) (s : ℕ) → Follow i (flat_map (λ g. block_statements g.body) fs) → slice_get fs u ≡ Some f → slice_get fs v ≡ Some g
    → InFunction s f → InFunction s g → u ≡ v
one_function i [] u v f g s h e d is on = absurd (none-some f e)
one_function i (c ∷ fs) zero zero f g s h e d is on = refl
one_function i (c ∷ fs) zero (suc v) f g s h e d is on =
    let w = parts i (block_statements c.body) (flat_map (λ g. block_statements g.body) fs) h in
    let a = (numbered_in i (block_statements c.body) s w.0 (subst (InFunction s) (sym (same_Some c f e)) is)).1 in
    let b = from_function (i + length (block_statements c.body)) fs v g s w.1 d on in
    absurd (omega (arith, a, b))
one_function i (c ∷ fs) (suc u) zero f g s h e d is on =
    let w = parts i (block_statements c.body) (flat_map (λ g. block_statements g.body) fs) h in
    let a = (numbered_in i (block_statements c.body) s w.0 (subst (InFunction s) (sym (same_Some c g d)) on)).1 in
    let b = from_function (i + length (block_statements c.body)) fs u f s w.1 e is in
    absurd (omega (arith, a, b))
one_function i (c ∷ fs) (suc u) (suc v) f g s h e d is on =
    let w = parts i (block_statements c.body) (flat_map (λ g. block_statements g.body) fs) h in
    ap suc (one_function (i + length (block_statements c.body)) fs u v f g s w.1 e d is on)

each_id : (xs : List Placed) → Each (λ a. list_any (λ n. n == a.id) (ids xs) ≡ true) xs
each_id [] = tt
each_id (a ∷ xs) = (or_left (a.id == a.id) _ (eq-eqb a.id a.id refl), each_map _ _ (λ b h. or_right (a.id == b.id) _ h) xs (each_id xs))

body_ids : (f : TFunction) → ids (block_placed (at_start f) f.body) ≡ block_statements f.body
body_ids f = ap ids (sym (append-nil (block_placed (at_start f) f.body))) ∙ functions_ids (f ∷ []) ∙ append-nil (block_statements f.body)

-- what holds of all placed statements holds of those of a function
of_function : (P : Placed → Type 0) (fs : List TFunction) (u : ℕ) (f : TFunction) → slice_get fs u ≡ Some f → Each P (flat_map (λ g. block_placed (at_start g) g.body) fs)
    → Each P (block_placed (at_start f) f.body)
of_function P [] u f e h = absurd (none-some f e)
of_function P (g ∷ fs) zero f e h = subst (λ (c : TFunction). Each P (block_placed (at_start c) c.body)) (same_Some g f e)
    (each_front P (block_placed (at_start g) g.body) (flat_map (λ g. block_placed (at_start g) g.body) fs) h)
of_function P (g ∷ fs) (suc u) f e h = of_function P fs u f e (each_back P (block_placed (at_start g) g.body) (flat_map (λ g. block_placed (at_start g) g.body) fs) h)

-- ---- the program

module _ (m : TMarked) (is : IsMarked m) where
  abbrev p : TProgram
  p = m.program

  abbrev b : Bounds
  b = bounds_of m

  abbrev uses : ℕ → Bool
  uses = is_use m.program

  formed : IsFormed m.program m.regions (may_write m)
  formed = marked_program_formed m (may_write m) is (let l = length-map m.regions (region_targets m.program) in omega (arith, l))

  fine : (i : ℕ) (f : TFunction) → slice_get m.program.functions i ≡ Some f → FunctionFine m.program i f
  fine i f at = function_fine m.program is.checked.unbroken is.checked.form.declared i f at

  -- ---- tables

  abbrev names_in : TRegion → Option TFunction → Access
  names_in q None = no_access m.program
  names_in q (Some f) = region_access m.program q f

  abbrev names_of : Option TRegion → Access
  names_of None = no_access m.program
  names_of (Some q) = names_in q (slice_get m.program.functions q.function)

  own_writes : (i : ℕ) (f : TFunction) → slice_get m.program.functions i ≡ Some f → fun_access m.program i f ≡ writes m.program f.name
  own_writes i f at = sym (ap (writes_at m.program) (own_place m.program (all_within m.program is.checked.form.declared is.checked.unbroken) i f at) ∙ ap (writes_of m.program i) at)

  body_lawful : (i : ℕ) (f : TFunction) → slice_get m.program.functions i ≡ Some f
      → block_lawful m.regions (writes m.program f.name) (call_within m.program.functions (writes m.program) (writes m.program f.name)) (λ r γ s ss. Unit {0}) (function_scope m.program f)
      (length f.params + link_words f) f.body
  body_lawful i f at =
      let a = fun_access m.program i f in
      let within : TCall → Type 0 = call_within m.program.functions (writes m.program) a in
      subst (λ c. block_lawful m.regions c (call_within m.program.functions (writes m.program) c) (λ r γ s ss. Unit {0}) (function_scope m.program f) (length f.params + link_words f) f.body)
      (own_writes i f at)
      (block_may m.regions a within (λ n. true) (function_scope m.program f) (length f.params + link_words f) (at_start f) f.body (λ n. refl)
      (each_map _ (Inner m.regions a within (λ n. true)) (λ s h t. h) (block_placed (at_start f) f.body) (function_may m.program i f at m.groups is.checked)))

  abbrev tables : Tables m.program m.regions (may_write m) (bounds_of m)
  tables = record {
    writes = writes m.program;
    names = λ r. names_of (region_at m r);
    held = held m;
    lawful = body_lawful;
    tells = tells m.program;
  }

  -- ---- uses

  counted : (i : ℕ) (f : TFunction) → slice_get m.program.functions i ≡ Some f → block_counted (is_use m.program) (function_scope m.program f) (length f.params + link_words f) f.body
  counted i f at =
      let own = fine i f at in
      let head = head_unbroken m.program i f own in
      block_plain m.program (is_use m.program) (in_function f i) (function_scope m.program f) (length f.params + link_words f) f.body
      (start_found m.program f is.checked.form.spellable.nv head.free) own.body (function_plain m.program.functions i f at is.checked.plain)
      (body_used m.program f (function_effects m.program f) (is_use m.program) (function_told m.program i f at own.body) (length f.params + link_words f))

  -- ---- regions

  module _ (i : ℕ) (f : TFunction) (at : slice_get m.program.functions i ≡ Some f) where
    abbrev Home : TRegion → Type 0
    Home q = q.function ≡ i

    -- what is known of each statement of the function
    abbrev Known : Placed → Type 0
    Known a = InFunction a.id f × ((q : (r : TRegion) × (r.function ≡ i)) → list_any (is_in_region m.program q.0) (a.id ∷ a.at.around) ≡ true → KindMay (region_access m.program q.0 f)
        (call_within m.program.functions (writes m.program) (region_access m.program q.0 f)) a.kind)

    known : Each Known (block_placed (at_start f) f.body)
    known =
        let xs = block_placed (at_start f) f.body in
        each_both _ _ xs (each_map _ _ (λ a h. ap (list_any (λ n. n == a.id)) (sym (body_ids f)) ∙ h) xs (each_id xs))
        (each_for ((r : TRegion) × (r.function ≡ i)) (λ q a. list_any (is_in_region m.program q.0) (a.id ∷ a.at.around) ≡ true → KindMay (region_access m.program q.0 f)
        (call_within m.program.functions (writes m.program) (region_access m.program q.0 f)) a.kind) xs
        (λ q. region_each m.program q.0 m.groups is.checked f (ap (slice_get m.program.functions) q.1 ∙ at)))

    home : (a : Placed) (j : ℕ) (r : TRegion) → slice_get m.regions j ≡ Some r → Known a → a.id ≡ r.first → r.function ≡ i
    home a j r stands k e =
        let region = is.regions.each j r (index_below m.regions j r stands) in
        let there : position (λ g. list_any (λ n. n == r.first) (block_statements g.body)) m.program.functions ≡ Some r.function = subst
        (λ (q : TRegion). position (λ g. list_any (λ n. n == q.first) (block_statements g.body)) m.program.functions ≡ Some q.function) (index_is m.regions j r r stands) region.function_there in
        let s = position-Some (λ g. list_any (λ n. n == r.first) (block_statements g.body)) m.program.functions r.function f there in
        one_function 1 m.program.functions r.function i (get_or m.program.functions r.function f) f r.first is.checked.form.numbered.statements
        (slice_get-get_or m.program.functions r.function f s.0) at s.1 (ap (λ n. list_any (λ c. c == n) (block_statements f.body)) (sym e) ∙ k.0)

    here : Each (λ a. (block_of m.program a.id ≡ Some a.at.block) × Known a) (block_placed (at_start f) f.body)
    here =
        let h = found 1 _ (program_placed m.program) (functions_ids m.program.functions ∙ is.checked.form.numbered.statements) in
        let own = of_function (λ a. block_of m.program a.id ≡ Some a.at.block) m.program.functions i f at
        (each_map (Found 1 (program_placed m.program)) _ (λ a g. ap (option_map (λ c. c.at.block)) g.0) (program_placed m.program) h) in
        each_both _ _ (block_placed (at_start f) f.body) own known

    marked : (j : ℕ) (r : TRegion) → slice_get m.regions j ≡ Some r → BlockMarked (r ∷ []) f.body
    marked j r stands = bodies_marked m.program is.checked.form.numbered (r ∷ []) (in_block m.program m.regions (length m.policies) is.regions j r stands, tt) (tt, tt) (tt, tt) i f at

    abbrev AtRegion : ℕ → List Named → ℕ → TStmts → Type 0
    AtRegion = Begun m.program m.regions (length m.policies) is.regions (Slots m.program f) (slots_let m.program f) (slots_for m.program f) (is_use m.program) Known Home home

    begun_all : block_lawful m.regions all_access (λ c. Unit {0}) AtRegion (function_scope m.program f) (length f.params + link_words f) f.body
    begun_all =
        let n = follows 1 m.program.functions i f at is.checked.form.numbered.statements in
        block_begun m.program m.regions (length m.policies) is.regions (Slots m.program f) (slots_let m.program f) (slots_for m.program f) (is_use m.program) Known Home home
        (function_scope m.program f) (length f.params + link_words f) (at_start f) n.0 f.body (start_slots m.program f (head_unbroken m.program i f (fine i f at)).free) n.1 marked
        (counted i f at) here

    region_names : (r : ℕ) (q : TRegion) → region_at m r ≡ Some q → q.function ≡ i → names_of (region_at m r) ≡ region_access m.program q f
    region_names r q e h = ap names_of e ∙ ap (names_in q) (ap (slice_get m.program.functions) h ∙ at)

    budgeted_at : (r : ℕ) (γ : List Named) (s : ℕ) (ss : TStmts) → AtRegion r γ s ss
        → Budgeted m.program m.regions (may_write m) (bounds_of m) formed tables (is_use m.program) counted (picks m) r γ s ss
    budgeted_at r γ s ss z =
        let q = z.region in
        let n = region_names r q z.at z.home in
        let t = ap (held_of m.program) z.at in
        let long = is.checked.form.declared.each_nv in
        let params : params_at m.program q.function ≡ f.params = at_place (λ (c : TFunction). c.params) m.program.functions q.function f [] (ap (slice_get m.program.functions) z.home ∙ at) in
        record {
          lawful = subst (λ a. region_lawful m.regions a (call_within m.program.functions (writes m.program) a) γ s ss) (sym n)
              (region_may m.regions (region_access m.program q f) (call_within m.program.functions (writes m.program) (region_access m.program q f)) (is_in_region m.program q) γ s z.spot ss
              z.taken z.single
              (each_map Known _ (λ a h. h.1 (q, z.home)) _ z.each));
          covered = λ x w. subst (λ ts. covers ts (named γ x).words (named γ x).slot) (sym t)
              (covered m.program q f long params x (named γ x).words (named γ x).slot (z.slots x) (subst (λ (a : Access). a.names x ≡ true) n w));
          stored = λ k w. subst (λ ts. covers ts (nv_width m.program.nv k) (InNv (base m.program.nv k))) (sym t) (stored m.program q f long k (subst (λ (a : Access). a.nvs k ≡ true) n w));
          few = few_words m r;
          begun = z.begun;
          single = z.single;
          named_uses = z.counted;
          taken = subst (λ o. picked m.regions (picks_of m.program o) ss) (sym z.at) z.taken;
          some = some_spent m r q z.at;
          safe = safe_region m r q z.at;
        }

    budgeted : block_lawful m.regions all_access (λ c. Unit {0}) (Budgeted m.program m.regions (may_write m) (bounds_of m) formed tables (is_use m.program) counted (picks m))
        (function_scope m.program f) (length f.params + link_words f) f.body
    budgeted =
        block_sum m.regions all_access (λ c. Unit {0}) AtRegion (Budgeted m.program m.regions (may_write m) (bounds_of m) formed tables (is_use m.program) counted (picks m))
        (λ r n. false) (λ n k. 0) (λ r. block_spent (λ n. false) (λ n k. 0) f.body)
        (λ r γ s ss z l. budgeted_at r γ s ss z) (function_scope m.program f) (length f.params + link_words f) f.body (λ r. omega arith) begun_all

  bound : IsBounded (device_of (code_of m.program m.regions (may_write m))) (bounds_of m)
  bound =
      let most : total m ≤ total m = omega arith in
      let enough : steps m ≤ steps m = omega arith in
      tree_bounded m.program m.regions (may_write m) (bounds_of m) formed tables (is_use m.program) counted (picks m) budgeted (sums m) most enough (safe_run m)

-- the budgets of every marked program bound the runs of its code
pub all_bound : BudgetsBound
all_bound m is = bound m is

-- and those of an image that is its code
pub bound_by : (m : TMarked) (image : Parts) → IsMarked m → image ≡ code_of m.program m.regions (may_write m) → IsBounded (device_of image) (bounds_of m)
bound_by m image is same = subst (λ i. IsBounded (device_of i) (bounds_of m)) (sym same) (bound m is)
