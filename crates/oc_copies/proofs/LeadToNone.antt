-- Functions that lead to none that passes a test, and what their statements and calls keep of that.
use Rattle.std.proofs.Common.{◌≡◌, ◌<◌, ℕ, zero, suc, ◌+◌, Bool, true, false, true≢false, List, [], ◌∷◌, ◌++◌, map, Some, refl, ap, sym, ◌∙◌, subst, arith}
use Rattle.std.specs.Prelude.{◌&&◌, ◌||◌, nat_eq, slice_get, option_to_list}
use Rattle.std.specs.List.{list_any, flat_map}
use Rattle.std.proofs.lemmas.Bool.{eqb-true, eq-eqb, and_from, and_parts, or_left, or_right}
use Rattle.std.proofs.lemmas.List.{map-append}
use Rattle.std.proofs.lemmas.Option.{none-some, same_Some}
use Rattle.std.proofs.lemmas.List.Folds.{list_any-append}
use Rattle.oc_tree.specs.Names.{Text}
use Rattle.oc_tree.specs.Tree.{TCall, TKind, TFunction}
use Rattle.oc_tree.specs.Reach.{Links, linked, is_link, leads, reaches, reaches_some}
use Rattle.oc_tree.specs.Calls.{place, callee, own_calls, body_calls, called_places, links_from}
use Rattle.oc_tree.proofs.ReachLaws.{or_elim, links_lead, leads_trans}
use Rattle.oc_reach.specs.Within.{IsWithin}
use Rattle.oc_reach.proofs.Walk.{some_at, some_is}
use Rattle.oc_desugar.proofs.FineCalls.{Each as EachCall, each_front as calls_front, each_back as calls_back}
use Rattle.oc_checked.proofs.BodiesPass.{first_fails, second_fails}

-- ---- numbers that reach none that passes a test

-- such a number doesn't pass it
pub self_fails : (links : Links) (n : ℕ) (test : ℕ → Bool) (u : ℕ) → u < n → reaches_some links n test u ≡ false → test u ≡ false
self_fails links n test u below h = by (test u) refl
  where
    by : (b : Bool) → test u ≡ b → b ≡ false
    by false e = refl
    by true e =
        absurd (true≢false (sym (some_at n (λ v. test v && reaches links n u v) u below (and_from (test u) (reaches links n u u) e (or_left (nat_eq u u) (leads links n u u) (eq-eqb u u refl)))) ∙ h))

-- and what it is linked to reaches none either
pub next_fails : (links : Links) (n : ℕ) (test : ℕ → Bool) (u v : ℕ) → IsWithin links n → linked links u v ≡ true → reaches_some links n test u ≡ false → reaches_some links n test v ≡ false
next_fails links n test u v within link h = by (reaches_some links n test v) refl
  where
    on : (w : ℕ) → reaches links n v w ≡ true → reaches links n u w ≡ true
    on w r =
        let uv = links_lead links n u v link in
        or_elim (nat_eq v w) (leads links n v w) r
        (λ e. or_right (nat_eq u w) (leads links n u w) (subst (λ z. leads links n u z ≡ true) (eqb-true v w e) uv))
        (λ e. or_right (nat_eq u w) (leads links n u w) (leads_trans links n u v w (within u v link).1 uv e))

    by : (b : Bool) → reaches_some links n test v ≡ b → b ≡ false
    by false e = refl
    by true e =
        let q = some_is n (λ w. test w && reaches links n v w) e in
        let t : test q.0 ≡ true = (and_parts (test q.0) (reaches links n v q.0) q.2).0 in
        let r : reaches links n v q.0 ≡ true = (and_parts (test q.0) (reaches links n v q.0) q.2).1 in
        absurd (true≢false (sym (some_at n (λ w. test w && reaches links n u w) q.0 q.1 (and_from (test q.0) (reaches links n u q.0) t (on q.0 r))) ∙ h))

-- ---- each of a list

-- each statement is so
abbrev pub EachKind : (TKind → Type 0) → List TKind → Type 0
EachKind K [] = Unit {0}
EachKind K (k ∷ ks) = K k × EachKind K ks

pub kinds_front : (K : TKind → Type 0) (xs ys : List TKind) → EachKind K (xs ++ ys) → EachKind K xs
kinds_front K [] ys h = tt
kinds_front K (k ∷ xs) ys h = (h.0, kinds_front K xs ys h.1)

pub kinds_back : (K : TKind → Type 0) (xs ys : List TKind) → EachKind K (xs ++ ys) → EachKind K ys
kinds_back K [] ys h = h
kinds_back K (k ∷ xs) ys h = kinds_back K xs ys h.1

-- a test that passes for none
pub none_pass : (test : TKind → Bool) (ks : List TKind) → list_any test ks ≡ false → EachKind (λ k. test k ≡ false) ks
none_pass test [] h = tt
none_pass test (k ∷ ks) h = (first_fails (test k) (list_any test ks) h, none_pass test ks (second_fails (test k) (list_any test ks) h))

-- what holds of all calls holds of those of each statement
pub each_calls : (P : TCall → Type 0) (ks : List TKind) → EachCall P (flat_map own_calls ks) → EachKind (λ k. EachCall P (own_calls k)) ks
each_calls P [] h = tt
each_calls P (k ∷ ks) h = (calls_front P (own_calls k) (flat_map own_calls ks) h, each_calls P ks (calls_back P (own_calls k) (flat_map own_calls ks) h))

-- ---- the links of one function are among those of all

pub call_row : (names : List Text) (w : ℕ) (fs : List TFunction) (u : ℕ) (f : TFunction) (a b : ℕ) → slice_get fs u ≡ Some f →
    linked (map (λ v. (w + u, v)) (called_places names (body_calls f))) a b ≡ true → linked (links_from names w fs) a b ≡ true
call_row names w [] u f a b h l = absurd (none-some f h)
call_row names w (e ∷ fs) zero f a b h l =
    let n : w + 0 ≡ w = omega arith in
    let own : linked (map (λ v. (w, v)) (called_places names (body_calls e))) a b ≡ true =
    subst (λ z. linked (map (λ v. (z, v)) (called_places names (body_calls e))) a b ≡ true) n
    (subst (λ g. linked (map (λ v. (w + 0, v)) (called_places names (body_calls g))) a b ≡ true) (sym (same_Some e f h)) l) in
    list_any-append (is_link a b) (map (λ v. (w, v)) (called_places names (body_calls e))) (links_from names (w + 1) fs) ∙ or_left _ (linked (links_from names (w + 1) fs) a b) own
call_row names w (e ∷ fs) (suc u) f a b h l =
    let n : w + suc u ≡ w + 1 + u = omega arith in
    let rest = call_row names (w + 1) fs u f a b h (subst (λ z. linked (map (λ v. (z, v)) (called_places names (body_calls f))) a b ≡ true) n l) in
    list_any-append (is_link a b) (map (λ v. (w, v)) (called_places names (body_calls e))) (links_from names (w + 1) fs)
    ∙ or_right (linked (map (λ v. (w, v)) (called_places names (body_calls e))) a b) _ rest

-- what holds of all that a row of calls names holds of what each call names
pub each_called : (names : List Text) (u : ℕ) (Q : ℕ → Type 0) (cs : List TCall) → ((v : ℕ) → linked (map (λ v. (u, v)) (called_places names cs)) u v ≡ true → Q v) →
    EachCall (λ c. (v : ℕ) → place names (callee c) ≡ Some v → Q v) cs
each_called names u Q [] h = tt
each_called names u Q (c ∷ cs) h =
    let here = map (λ v. (u, v)) (option_to_list (place names (callee c))) in
    let rest = map (λ v. (u, v)) (called_places names cs) in
    let parts : (v : ℕ) → linked here u v || linked rest u v ≡ true → Q v =
    λ v l. h v (ap (λ ls. linked ls u v) (map-append (λ v. (u, v)) (option_to_list (place names (callee c))) (called_places names cs)) ∙ list_any-append (is_link u v) here rest ∙ l) in (
      λ v e. parts v (or_left (linked here u v) (linked rest u v) (ap (λ o. linked (map (λ w. (u, w)) (option_to_list o)) u v) e ∙ own v)),
      each_called names u Q cs
          (λ v l. parts v (or_right (linked here u v) (linked rest u v) l)),
    )
  where
    own : (v : ℕ) → linked (map (λ w. (u, w)) (option_to_list (Some v))) u v ≡ true
    own v = or_left (nat_eq u u && nat_eq v v) false (and_from (nat_eq u u) (nat_eq v v) (eq-eqb u u refl) (eq-eqb v v refl))
