-- What a function doesn't assign, neither its statements nor those that they call do.
use Rattle.std.proofs.Common.{◌≡◌, ◌<◌, ℕ, zero, suc, ◌+◌, Bool, true, false, true≢false, List, [], ◌∷◌, map, length, Some, None, refl, ap, sym, ◌∙◌, subst, arith}
use Rattle.std.specs.Prelude.{◌&&◌, ◌||◌, not, nat_eq, slice_get, option_to_list}
use Rattle.std.specs.List.{list_any, flat_map}
use Rattle.std.proofs.lemmas.Bool.{eq-eqb, or_left, or_right}
use Rattle.std.proofs.lemmas.Option.{none-some, same_Some, slice_get_within}
use Rattle.std.proofs.lemmas.List.Folds.{list_any-append}
use Rattle.oc_tree.specs.Names.{Text}
use Rattle.oc_tree.specs.Tree.{TCall, TKind, TFunction}
use Rattle.oc_tree.specs.Reach.{linked, is_link}
use Rattle.oc_tree.specs.Calls.{function_names, function_place, callee, own_calls, block_kinds, body_calls, called_places, call_links, has_param, test_at}
use Rattle.oc_tree.specs.Assigned.{param_names, first_param, param_count, takes_mutable, own_param, written_through, pass_call, function_links, pass_links_from, pass_links}
use Rattle.oc_tree.specs.Assigned.{function_writes, writes_from, writes_through, param_assigned, own_assigns, function_assigns, reaches_assign}
use Rattle.oc_reach.proofs.LinkLaws.{calls_within}
use Rattle.oc_reach.proofs.Lists.{at_place}
use Rattle.oc_reach.proofs.PassLaws.{takes_below, first_room, passes_within}
use Rattle.oc_desugar.proofs.FineCalls.{Each as EachCall}
use Rattle.oc_checked.proofs.BodiesPass.{first_fails, second_fails}
use Rattle.oc_copies.proofs.LeadToNone.{EachKind, none_pass, each_calls, self_fails, next_fails, call_row, each_called}

-- ---- each of a list

-- for none of what comes of the statements
none_of_each : (test : ℕ → Bool) (g : TKind → List ℕ) (ks : List TKind) → list_any test (flat_map g ks) ≡ false → EachKind (λ k. list_any test (g k) ≡ false) ks
none_of_each test g [] h = tt
none_of_each test g (k ∷ ks) h =
    let parts : list_any test (g k) || list_any test (flat_map g ks) ≡ false = sym (list_any-append test (g k) (flat_map g ks)) ∙ h in
    (first_fails (list_any test (g k)) (list_any test (flat_map g ks)) parts, none_of_each test g ks (second_fails (list_any test (g k)) (list_any test (flat_map g ks)) parts))

-- ---- the links of one function are among those of all

pass_row : (all : List TFunction) (w : ℕ) (fs : List TFunction) (u : ℕ) (f : TFunction) (a b : ℕ) → slice_get fs u ≡ Some f
    → linked (function_links all (first_param all (w + u)) f) a b ≡ true → linked (pass_links_from all w fs) a b ≡ true
pass_row all w [] u f a b h l = absurd (none-some f h)
pass_row all w (e ∷ fs) zero f a b h l =
    let n : w + 0 ≡ w = omega arith in
    let own : linked (function_links all (first_param all w) e) a b ≡ true =
    subst (λ z. linked (function_links all (first_param all z) e) a b ≡ true) n (subst (λ g. linked (function_links all (first_param all (w + 0)) g) a b ≡ true) (sym (same_Some e f h)) l) in
    list_any-append (is_link a b) (function_links all (first_param all w) e) (pass_links_from all (w + 1) fs) ∙ or_left _ (linked (pass_links_from all (w + 1) fs) a b) own
pass_row all w (e ∷ fs) (suc u) f a b h l =
    let n : w + suc u ≡ w + 1 + u = omega arith in
    let rest = pass_row all (w + 1) fs u f a b h (subst (λ z. linked (function_links all (first_param all z) f) a b ≡ true) n l) in
    list_any-append (is_link a b) (function_links all (first_param all w) e) (pass_links_from all (w + 1) fs) ∙ or_right (linked (function_links all (first_param all w) e) a b) _ rest

write_row : (all : List TFunction) (test : ℕ → Bool) (w : ℕ) (fs : List TFunction) (u : ℕ) (f : TFunction) → slice_get fs u ≡ Some f → list_any test (writes_from all w fs) ≡ false
    → list_any test (function_writes (first_param all (w + u)) f) ≡ false
write_row all test w [] u f h l = absurd (none-some f h)
write_row all test w (e ∷ fs) zero f h l =
    let n : w ≡ w + 0 = omega arith in
    let parts = sym (list_any-append test (function_writes (first_param all w) e) (writes_from all (w + 1) fs)) ∙ l in
    let own : list_any test (function_writes (first_param all w) e) ≡ false = first_fails _ (list_any test (writes_from all (w + 1) fs)) parts in
    subst (λ g. list_any test (function_writes (first_param all (w + 0)) g) ≡ false) (same_Some e f h) (subst (λ z. list_any test (function_writes (first_param all z) e) ≡ false) n own)
write_row all test w (e ∷ fs) (suc u) f h l =
    let n : w + 1 + u ≡ w + suc u = omega arith in
    let parts = sym (list_any-append test (function_writes (first_param all w) e) (writes_from all (w + 1) fs)) ∙ l in
    subst (λ z. list_any test (function_writes (first_param all z) f) ≡ false) n (write_row all test (w + 1) fs u f h (second_fails (list_any test (function_writes (first_param all w) e)) _ parts))

-- ---- calls one by one

-- and of what each call passes on
each_passing : (all : List TFunction) (first : ℕ) (params : List Text) (n : ℕ) (Q : ℕ → Type 0) (cs : List TCall)
    → ((b : ℕ) → linked (flat_map (pass_call all first params) cs) n b ≡ true → Q b) → EachCall (λ c. (b : ℕ) → linked (pass_call all first params c) n b ≡ true → Q b) cs
each_passing all first params n Q [] h = tt
each_passing all first params n Q (c ∷ cs) h =
    let here = pass_call all first params c in
    let rest = flat_map (pass_call all first params) cs in
    let parts : (b : ℕ) → linked here n b || linked rest n b ≡ true → Q b = λ b l. h b (list_any-append (is_link n b) here rest ∙ l) in
    (λ b l. parts b (or_left (linked here n b) (linked rest n b) l), each_passing all first params n Q cs (λ b l. parts b (or_right (linked here n b) (linked rest n b) l)))

-- ---- a function that doesn't assign

module _ (fs : List TFunction) (u : ℕ) (f : TFunction) (stands : slice_get fs u ≡ Some f) where
  below : u < length fs
  below = slice_get_within fs u f stands

  module _ (x : Text) (free : reaches_assign fs x u ≡ false) where
    -- none of its statements assigns the variable, where no parameter hides it
    pub none_assigns : has_param x f.params ≡ false → EachKind (λ k. own_assigns fs x k ≡ false) (block_kinds (Some x) f.body)
    none_assigns shown =
        let own : function_assigns fs x f ≡ false = sym (at_place (function_assigns fs x) fs u f false stands)
        ∙ self_fails (call_links fs) (length fs) (test_at (function_assigns fs x) fs) u below free in
        none_pass (own_assigns fs x) (block_kinds (Some x) f.body) (by (has_param x f.params) shown own)
      where
        by : (b : Bool) → b ≡ false → not b && list_any (own_assigns fs x) (block_kinds (Some x) f.body) ≡ false → list_any (own_assigns fs x) (block_kinds (Some x) f.body) ≡ false
        by true e h = absurd (true≢false e)
        by false e h = h

    -- and no function that they call does
    pub none_called : EachKind (λ k. EachCall (λ c. (v : ℕ) → function_place fs (callee c) ≡ Some v → reaches_assign fs x v ≡ false) (own_calls k)) (block_kinds None f.body)
    none_called =
        let z : 0 + u ≡ u = omega arith in
        each_calls _ (block_kinds None f.body)
        (each_called (function_names fs) u (λ v. reaches_assign fs x v ≡ false) (body_calls f)
        (λ v l. next_fails (call_links fs) (length fs) (test_at (function_assigns fs x) fs) u v (calls_within fs)
        (call_row (function_names fs) 0 fs u f u v stands (subst (λ w. linked (map (λ v. (w, v)) (called_places (function_names fs) (body_calls f))) u v ≡ true) (sym z) l)) free))

  module _ (j : ℕ) (takes : takes_mutable fs u j ≡ true) (free : param_assigned fs (first_param fs u + j) ≡ false) where
    param_below : first_param fs u + j < param_count fs
    param_below =
        let t = takes_below fs u j takes in
        let r = first_room 0 fs u t.0 in
        omega (arith, t.1, r)

    -- none of its statements writes through the parameter
    pub none_writes : EachKind (λ k. own_param (first_param fs u) (param_names f) (written_through k) ≡ Some (first_param fs u + j) → ⊥) (block_kinds None f.body)
    none_writes =
        let n = first_param fs u + j in
        let z : 0 + u ≡ u = omega arith in
        let all : list_any (λ y. nat_eq y n) (writes_from fs 0 fs) ≡ false = self_fails (pass_links fs) (param_count fs) (writes_through fs) n param_below free in
        let mine : list_any (λ y. nat_eq y n) (function_writes (first_param fs u) f) ≡ false =
        subst (λ w. list_any (λ y. nat_eq y n) (function_writes (first_param fs w) f) ≡ false) z (write_row fs (λ y. nat_eq y n) 0 fs u f stands all) in
        on (block_kinds None f.body) (none_of_each (λ y. nat_eq y n) (λ k. option_to_list (own_param (first_param fs u) (param_names f) (written_through k))) (block_kinds None f.body) mine)
      where
        one : (k : TKind) → list_any (λ y. nat_eq y (first_param fs u + j)) (option_to_list (own_param (first_param fs u) (param_names f) (written_through k))) ≡ false
            → own_param (first_param fs u) (param_names f) (written_through k) ≡ Some (first_param fs u + j) → ⊥
        one k h e =
            let s : list_any (λ y. nat_eq y (first_param fs u + j)) (option_to_list (Some (first_param fs u + j))) ≡ false =
            ap (λ o. list_any (λ y. nat_eq y (first_param fs u + j)) (option_to_list o)) (sym e) ∙ h in
            true≢false (sym (or_left (nat_eq (first_param fs u + j) (first_param fs u + j)) false (eq-eqb (first_param fs u + j) (first_param fs u + j) refl)) ∙ s)

        on : (ks : List TKind) → EachKind (λ k. list_any (λ y. nat_eq y (first_param fs u + j)) (option_to_list (own_param (first_param fs u) (param_names f) (written_through k)))
            ≡ false) ks → EachKind (λ k. own_param (first_param fs u) (param_names f) (written_through k) ≡ Some (first_param fs u + j) → ⊥) ks
        on [] h = tt
        on (k ∷ ks) h = (one k h.0, on ks h.1)

    -- and none passes it on to a parameter that is assigned through
    pub none_passes : EachKind (λ k. EachCall
        (λ c. (b : ℕ) → linked (pass_call fs (first_param fs u) (param_names f) c) (first_param fs u + j) b ≡ true → param_assigned fs b ≡ false) (own_calls k)) (block_kinds None f.body)
    none_passes =
        let n = first_param fs u + j in
        let z : 0 + u ≡ u = omega arith in
        each_calls _ (block_kinds None f.body)
        (each_passing fs (first_param fs u) (param_names f) n (λ b. param_assigned fs b ≡ false) (body_calls f)
        (λ b l. next_fails (pass_links fs) (param_count fs) (writes_through fs) n b (passes_within fs)
        (pass_row fs 0 fs u f n b stands (subst (λ w. linked (function_links fs (first_param fs w) f) n b ≡ true) (sym z) l)) free))
