-- The test of assignments through parameters decides the relation.
use Rattle.std.proofs.Common.{◌≡◌, ◌<◌, ℕ, zero, suc, ◌+◌, Bool, true, false, true≢false, List, [], ◌∷◌, length, Option, Some, None, refl, ap, sym, ◌∙◌, subst, arith}
use Rattle.std.specs.Prelude.{◌&&◌, ◌↔◌, cond, nat_eq, option_map, option_to_list, slice_get}
use Rattle.std.specs.List.{list_any}
use Rattle.std.proofs.lemmas.Bool.{eqb-true, eq-eqb, and_from, and_parts, or_left, or_right}
use Rattle.std.proofs.lemmas.List.{length-map}
use Rattle.std.proofs.lemmas.Option.{none-some, same_Some}
use Rattle.std.proofs.lemmas.List.Folds.{list_any-append}
use Rattle.oc_tree.specs.Names.{Text}
use Rattle.oc_tree.specs.Tree.{TExpr, variable, TArg, value, shared, mutable, TCall, call, TArgs, no_args, more_args, TKind, TFunction}
use Rattle.oc_tree.specs.Calls.{place, function_place, callee, args_of_call, block_kinds, body_calls}
use Rattle.oc_tree.specs.Reach.{linked, is_link, leads, reaches}
use Rattle.oc_tree.specs.Members.{IsOf}
use Rattle.oc_tree.specs.Assigned.{param_names, first_param, param_count, takes_mutable, mutable_param, own_param, alone, link_of, arg_links, args_links, to_links, pass_call}
use Rattle.oc_tree.specs.Assigned.{function_links, pass_links_from, pass_links, written_through, function_writes, writes_from, writes_through, param_assigned}
use Rattle.oc_tree.proofs.ReachLaws.{or_elim, links_lead, leads_trans, least}
use Rattle.oc_names.proofs.Entries.{place_below}
use Rattle.oc_reach.proofs.PassLaws.{params_at, takes_below, passes_within}
use Rattle.oc_reach.proofs.Walk.{some_at, some_is}
use Rattle.oc_reach.specs.Through.{IsParam, arg_at, Writes, Passes, AssignsThrough, itself, passed_on}
use Rattle.oc_reach.proofs.Members.{any_flat, any_part, any_function, function_part}
use Rattle.oc_reach.proofs.Numbers.{params_of, one_param, number_below}

-- ---- one name

own_is : (first : ℕ) (params : List Text) (x : Text) (j : ℕ) → place params x ≡ Some j → own_param first params (Some x) ≡ Some (first + j)
own_is first params x j e = ap (option_map (λ j. first + j)) e

-- the parameter of a number, by its name
abbrev Own : ℕ → List Text → Option Text → ℕ → Type 0
Own first params o n = (x : Text) × (o ≡ Some x) × (j : ℕ) × (place params x ≡ Some j) × (first + j ≡ n)

own_back : (first : ℕ) (params : List Text) (o : Option Text) (n : ℕ) → own_param first params o ≡ Some n → Own first params o n
own_back first params None n h = absurd (none-some n h)
own_back first params (Some x) n h = by (place params x) refl h
  where
    by : (r : Option ℕ) → place params x ≡ r → option_map (λ j. first + j) r ≡ Some n → Own first params (Some x) n
    by None e k = absurd (none-some n k)
    by (Some j) e k = (x, refl, j, e, same_Some (first + j) n k)

-- ---- what is passed

link_is : (r s : Option ℕ) (a b : ℕ) → linked (link_of r s) a b ≡ true → (r ≡ Some a) × (s ≡ Some b)
link_is None s a b h = absurd (true≢false (sym h))
link_is (Some x) None a b h = absurd (true≢false (sym h))
link_is (Some x) (Some y) a b h = or_elim (is_link a b (x, y)) false h
    (λ k. (ap Some (eqb-true x a (and_parts (nat_eq x a) (nat_eq y b) k).0), ap Some (eqb-true y b (and_parts (nat_eq x a) (nat_eq y b) k).1)))
    (λ k. absurd (true≢false (sym k)))

-- ---- what is written

listed : (n : ℕ) → list_any (λ y. nat_eq y n) (n ∷ []) ≡ true
listed n = or_left (nat_eq n n) false (eq-eqb n n refl)

listed_back : (o : Option ℕ) (n : ℕ) → list_any (λ y. nat_eq y n) (option_to_list o) ≡ true → o ≡ Some n
listed_back None n h = absurd (true≢false (sym h))
listed_back (Some m) n h = or_elim (nat_eq m n) false h (λ k. ap Some (eqb-true m n k)) (λ k. absurd (true≢false (sym k)))

module _ (fs : List TFunction) where
  abbrev number : ℕ → ℕ → ℕ
  number u j = first_param fs u + j

  written : (u j : ℕ) → Writes fs u j → writes_through fs (number u j) ≡ true
  written u j w =
      let f = w.function in
      let own = λ (k : TKind). option_to_list (own_param (first_param fs u) (param_names f) (written_through k)) in
      let e : own w.statement ≡ number u j ∷ [] =
      ap (λ o. option_to_list (own_param (first_param fs u) (param_names f) o)) w.through ∙ ap option_to_list (own_is (first_param fs u) (param_names f) w.name j w.param) in
      any_function (λ y. nat_eq y (number u j)) (λ v g. function_writes (first_param fs v) g) (writes_from fs) (λ v. refl) (λ v g gs. refl) fs u f w.at
      (any_flat (λ y. nat_eq y (number u j)) own (block_kinds None f.body) w.statement w.inside (ap (list_any (λ y. nat_eq y (number u j))) e ∙ listed (number u j)))

  -- whose number it is
  abbrev Of : ℕ → (ℕ → ℕ → Type 0) → Type 0
  Of n P = (u : ℕ) × (j : ℕ) × (IsParam fs u j) × (number u j ≡ n) × P u j

  is_param : (u j : ℕ) (f : TFunction) (x : Text) → slice_get fs u ≡ Some f → place (param_names f) x ≡ Some j → IsParam fs u j
  is_param u j f x at e =
      let b : j < 0 + length (param_names f) = place_below 0 (param_names f) x j e in
      let n : length (param_names f) ≡ length f.params = length-map f.params (λ p. p.name) in
      let m : length (params_at fs u) ≡ length f.params = ap length (params_of fs u f at) in
      omega (arith, b, n, m)

  written_back : (n : ℕ) → writes_through fs n ≡ true → Of n (Writes fs)
  written_back n h =
      let q = function_part (λ y. nat_eq y n) (λ v g. function_writes (first_param fs v) g) (writes_from fs) (λ v. refl) (λ v g gs. refl) fs h in
      let u = q.0 in
      let f = q.1 in
      let k = any_part (λ y. nat_eq y n) (λ (k : TKind). option_to_list (own_param (first_param fs u) (param_names f) (written_through k))) (block_kinds None f.body) q.3 in
      let o = own_back (first_param fs u) (param_names f) (written_through k.0) n (listed_back (own_param (first_param fs u) (param_names f) (written_through k.0)) n k.2) in
      (u, o.2, is_param u o.2 f o.0 q.2 o.3, o.4, record { function = f; at = q.2; statement = k.0; inside = k.1; name = o.0; through = o.1; param = o.3 })

  -- ---- what is passed on

  takes_is : (v i : ℕ) → takes_mutable fs v i ≡ true → mutable_param fs v i ≡ Some (number v i)
  takes_is v i e = ap (λ b. cond b (Some (number v i)) None) e

  takes_back : (v i b : ℕ) → mutable_param fs v i ≡ Some b → (takes_mutable fs v i ≡ true) × (number v i ≡ b)
  takes_back v i b h = by (takes_mutable fs v i) refl h
    where
      by : (t : Bool) → takes_mutable fs v i ≡ t → cond t (Some (number v i)) None ≡ Some b → (takes_mutable fs v i ≡ true) × (number v i ≡ b)
      by true e k = (e, same_Some (number v i) b k)
      by false e k = absurd (none-some b k)

  alone_is : (e : TExpr) (x : Text) → alone e ≡ Some x → e ≡ variable x
  alone_is (variable y) x h = ap variable (same_Some y x h)
  alone_is e x h = absurd (none-some x h)

  self_link : (a b : ℕ) → linked (link_of (Some a) (Some b)) a b ≡ true
  self_link a b = or_left (nat_eq a a && nat_eq b b) false (and_from (nat_eq a a) (nat_eq b b) (eq-eqb a a refl) (eq-eqb b b refl))

  module _ (first : ℕ) (params : List Text) (v : ℕ) where
    arg_linked : (i j : ℕ) (x : Text) → place params x ≡ Some j → takes_mutable fs v i ≡ true → linked (arg_links fs first params v i (value (variable x))) (first + j) (number v i) ≡ true
    arg_linked i j x e t = (λ k. linked (link_of (own_is first params x j e k) (takes_is v i t k)) (first + j) (number v i)) ∙ self_link (first + j) (number v i)

    args_linked : (m i j : ℕ) (args : TArgs) (x : Text) → arg_at args i ≡ Some (value (variable x)) → place params x ≡ Some j → takes_mutable fs v (m + i) ≡ true
        → linked (args_links fs first params v m args) (first + j) (number v (m + i)) ≡ true
    args_linked m i j no_args x a e t = absurd (none-some (value (variable x)) a)
    args_linked m zero j (more_args b rest) x a e t =
        let n : m + 0 ≡ m = omega arith in
        let here = arg_links fs first params v m b in
        let further = args_links fs first params v (m + 1) rest in
        let one : linked here (first + j) (number v m) ≡ true =
        subst (λ c. linked (arg_links fs first params v m c) (first + j) (number v m) ≡ true) (sym (same_Some b (value (variable x)) a))
        (arg_linked m j x e (subst (λ k. takes_mutable fs v k ≡ true) n t)) in
        subst (λ k. linked (args_links fs first params v m (more_args b rest)) (first + j) (number v k) ≡ true) (sym n)
        (list_any-append (is_link (first + j) (number v m)) here further ∙ or_left (linked here (first + j) (number v m)) (linked further (first + j) (number v m)) one)
    args_linked m (suc i) j (more_args b rest) x a e t =
        let n : m + suc i ≡ m + 1 + i = omega arith in
        let here = arg_links fs first params v m b in
        let further = args_links fs first params v (m + 1) rest in
        let one : linked further (first + j) (number v (m + suc i)) ≡ true =
        subst (λ k. linked further (first + j) (number v k) ≡ true) (sym n) (args_linked (m + 1) i j rest x a e (subst (λ k. takes_mutable fs v k ≡ true) n t)) in
        list_any-append (is_link (first + j) (number v (m + suc i))) here further
        ∙ or_right (linked here (first + j) (number v (m + suc i))) (linked further (first + j) (number v (m + suc i))) one

    -- an argument that makes a link
    abbrev Linking : ℕ → ℕ → ℕ → TArgs → Type 0
    Linking a b m args =
        (i : ℕ) × (x : Text) × (arg_at args i ≡ Some (value (variable x))) × (j : ℕ) × (place params x ≡ Some j) × (first + j ≡ a) × (takes_mutable fs v (m + i) ≡ true) × (number v (m + i) ≡ b)

    args_back : (a b m : ℕ) (args : TArgs) → linked (args_links fs first params v m args) a b ≡ true → Linking a b m args
    args_back a b m no_args h = absurd (true≢false (sym h))
    args_back a b m (more_args c rest) h = or_elim (linked (arg_links fs first params v m c) a b) (linked (args_links fs first params v (m + 1) rest) a b)
        (sym (list_any-append (is_link a b) (arg_links fs first params v m c) (args_links fs first params v (m + 1) rest)) ∙ h)
        (here c)
        (λ k.
        let q = args_back a b (m + 1) rest k in
        let n : m + 1 + q.0 ≡ m + suc q.0 = omega arith in
        (suc q.0, q.1, q.2, q.3, q.4, q.5, subst (λ k. takes_mutable fs v k ≡ true) n q.6, subst (λ k. number v k ≡ b) n q.7))
      where
        here : (c : TArg) → linked (arg_links fs first params v m c) a b ≡ true → Linking a b m (more_args c rest)
        here (value e) k =
            let l = link_is (own_param first params (alone e)) (mutable_param fs v m) a b k in
            let o = own_back first params (alone e) a l.0 in
            let t = takes_back v m b l.1 in
            let n : m ≡ m + 0 = omega arith in
            (zero, o.0, ap (λ d. Some (value d)) (alone_is e o.0 o.1), o.2, o.3, o.4, subst (λ k. takes_mutable fs v k ≡ true) n t.0, subst (λ k. number v k ≡ b) n t.1)
        here (shared z) k = absurd (true≢false (sym k))
        here (mutable z) k = absurd (true≢false (sym k))

  call_linked : (first : ℕ) (params : List Text) (c : TCall) (j v i : ℕ) (x : Text) → function_place fs (callee c) ≡ Some v
      → arg_at (args_of_call c) i ≡ Some (value (variable x)) → place params x ≡ Some j → takes_mutable fs v i ≡ true → linked (pass_call fs first params c) (first + j) (number v i) ≡ true
  call_linked first params (call g args) j v i x p a e t =
      let n : 0 + i ≡ i = omega arith in
      ap (λ o. linked (to_links fs first params args o) (first + j) (number v i)) p
      ∙ subst (λ k. linked (args_links fs first params v 0 args) (first + j) (number v k) ≡ true) n (args_linked first params v 0 i j args x a e (subst (λ k. takes_mutable fs v k ≡ true) (sym n) t))

  linked_on : (u j v i : ℕ) → Passes fs u j v i → linked (pass_links fs) (number u j) (number v i) ≡ true
  linked_on u j v i p =
      let f = p.function in
      any_function (is_link (number u j) (number v i)) (λ w g. function_links fs (first_param fs w) g) (pass_links_from fs) (λ w. refl) (λ w g gs. refl) fs u f p.at
      (any_flat (is_link (number u j) (number v i)) (pass_call fs (first_param fs u) (param_names f)) (body_calls f) p.called p.inside
      (call_linked (first_param fs u) (param_names f) p.called j v i p.name p.callee_at p.argument p.param p.mutable))

  -- what is linked is passed on
  abbrev Passing : ℕ → ℕ → Type 0
  Passing a b = Of a (λ u j. Of b (λ v i. Passes fs u j v i))

  linked_back : (a b : ℕ) → linked (pass_links fs) a b ≡ true → Passing a b
  linked_back a b h =
      let q = function_part (is_link a b) (λ w g. function_links fs (first_param fs w) g) (pass_links_from fs) (λ w. refl) (λ w g gs. refl) fs h in
      let c = any_part (is_link a b) (pass_call fs (first_param fs q.0) (param_names q.1)) (body_calls q.1) q.3 in
      by q.0 q.1 q.2 c.0 c.1 c.2
    where
      to : (u : ℕ) (f : TFunction) → slice_get fs u ≡ Some f → (g : Text) (args : TArgs) → IsOf (call g args) (body_calls f) → (o : Option ℕ)
          → function_place fs g ≡ o → linked (to_links fs (first_param fs u) (param_names f) args o) a b ≡ true → Passing a b
      to u f at g args i None e k = absurd (true≢false (sym k))
      to u f at g args i (Some v) e k =
          let l = args_back (first_param fs u) (param_names f) v a b 0 args k in
          let n : 0 + l.0 ≡ l.0 = omega arith in
          let takes : takes_mutable fs v l.0 ≡ true = subst (λ k. takes_mutable fs v k ≡ true) n l.6 in
          let passes : Passes fs u l.3 v l.0 = record { function = f; at = at; called = call g args; inside = i; callee_at = e; name = l.1; argument = l.2; param = l.4; mutable = takes } in
          (u, l.3, is_param u l.3 f l.1 at l.4, l.5, (v, l.0, (takes_below fs v l.0 takes).1, subst (λ k. number v k ≡ b) n l.7, passes))

      by : (u : ℕ) (f : TFunction) → slice_get fs u ≡ Some f → (c : TCall) → IsOf c (body_calls f) → linked (pass_call fs (first_param fs u) (param_names f) c) a b ≡ true → Passing a b
      by u f at (call g args) i k = to u f at g args i (function_place fs g) refl k

  -- ---- both ways

  -- what is linked to a parameter that is assigned is assigned
  assigned_on : (a b : ℕ) → linked (pass_links fs) a b ≡ true → param_assigned fs b ≡ true → param_assigned fs a ≡ true
  assigned_on a b link h =
      let links = pass_links fs in
      let n = param_count fs in
      let ab = links_lead links n a b link in
      let q = some_is n (λ w. writes_through fs w && reaches links n b w) h in
      let w = q.0 in
      let on : reaches links n a w ≡ true = or_elim (nat_eq b w) (leads links n b w) (and_parts (writes_through fs w) (reaches links n b w) q.2).1
      (λ e. or_right (nat_eq a w) (leads links n a w) (subst (λ z. leads links n a z ≡ true) (eqb-true b w e) ab))
      (λ e. or_right (nat_eq a w) (leads links n a w) (leads_trans links n a b w (passes_within fs a b link).1 ab e)) in
      some_at n (λ z. writes_through fs z && reaches links n a z) w q.1 (and_from (writes_through fs w) (reaches links n a w) (and_parts (writes_through fs w) (reaches links n b w) q.2).0 on)

  through_assigned : (u j : ℕ) → AssignsThrough fs u j → param_assigned fs (number u j) ≡ true
  through_assigned u j (itself w) =
      let n = param_count fs in
      let x = number u j in
      some_at n (λ z. writes_through fs z && reaches (pass_links fs) n x z) x (number_below fs u j (is_param u j w.function w.name w.at w.param))
      (and_from (writes_through fs x) (reaches (pass_links fs) n x x) (written u j w) (or_left (nat_eq x x) (leads (pass_links fs) n x x) (eq-eqb x x refl)))
  through_assigned u j (passed_on {v = v} {i = i} p t) = assigned_on (number u j) (number v i) (linked_on u j v i p) (through_assigned v i t)

  -- the parameters of a number are assigned through
  abbrev At : ℕ → Type 0
  At n = (u j : ℕ) → IsParam fs u j → number u j ≡ n → AssignsThrough fs u j

  at_written : (n : ℕ) → writes_through fs n ≡ true → At n
  at_written n h u j i e =
      let q = written_back n h in
      let s = one_param fs q.0 q.1 u j q.2 i (q.3 ∙ sym e) in
      itself (subst (λ (m : ℕ × ℕ). Writes fs m.0 m.1) (λ k. (s.0 k, s.1 k)) q.4)

  at_linked : (a b : ℕ) → linked (pass_links fs) a b ≡ true → At b → At a
  at_linked a b h there u j i e =
      let q = linked_back a b h in
      let r = q.4 in
      let s = one_param fs q.0 q.1 u j q.2 i (q.3 ∙ sym e) in
      passed_on (subst (λ (m : ℕ × ℕ). Passes fs m.0 m.1 r.0 r.1) (λ k. (s.0 k, s.1 k)) r.4) (there r.0 r.1 r.2 r.3)

  assigned_through : (u j : ℕ) → IsParam fs u j → param_assigned fs (number u j) ≡ true → AssignsThrough fs u j
  assigned_through u j i h =
      let links = pass_links fs in
      let n = param_count fs in
      let x = number u j in
      let q = some_is n (λ w. writes_through fs w && reaches links n x w) h in
      let w = q.0 in
      let there : At w = at_written w (and_parts (writes_through fs w) (reaches links n x w) q.2).0 in
      or_elim (nat_eq x w) (leads links n x w) (and_parts (writes_through fs w) (reaches links n x w) q.2).1
      (λ e. there u j i (eqb-true x w e))
      (λ l. least links (λ a b. At b → At a) at_linked (λ a b c f g. λ k. f (g k)) n x w l there u j i refl)

pub test_decides : (fs : List TFunction) (u j : ℕ) → IsParam fs u j → (param_assigned fs (first_param fs u + j) ≡ true) ↔ AssignsThrough fs u j
test_decides fs u j i = (assigned_through fs u j i, through_assigned fs u j)
