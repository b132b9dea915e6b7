-- The parameters that are written through exist.
use Rattle.std.proofs.Common.{◌≡◌, ◌<◌, ◌+◌, ◌++◌, ℕ, true, false, List, [], ◌∷◌, Option, Some, None, nat_eq, length, drop, refl, sym, ap, ◌∙◌, true≢false, arith, subst}
use Rattle.std.specs.Prelude.{◌||◌, option_to_list}
use Rattle.std.specs.List.{list_any, flat_map}
use Rattle.std.proofs.lemmas.List.{length-map}
use Rattle.std.proofs.lemmas.Bool.{eqb-true}
use Rattle.std.proofs.Math.Bool.{or_assoc}
use Rattle.oc_tree.specs.Names.{Text}
use Rattle.oc_tree.specs.Tree.{TKind, TFunction}
use Rattle.oc_tree.specs.Calls.{block_kinds}
use Rattle.oc_tree.specs.Reach.{reaches_some}
use Rattle.oc_tree.specs.Assigned.{first_param, param_count, param_names, param_assigned, own_param, written_through, function_writes, writes_from, writes_through, pass_links}
use Rattle.oc_tree.proofs.ReachLaws.{or_elim}
use Rattle.oc_reach.specs.Marked.{is_in, add_all}
use Rattle.oc_reach.proofs.Lists.{in_all}
use Rattle.oc_reach.proofs.PassLaws.{own_below, first_room, rest_at, params_at}
use Rattle.oc_reach.proofs.Tests.{some_tests}

pub in_append : (xs ys : List ℕ) (v : ℕ) → is_in (xs ++ ys) v ≡ is_in xs v || is_in ys v
in_append [] ys v = refl
in_append (x ∷ xs) ys v = ap (λ b. nat_eq x v || b) (in_append xs ys v) ∙ sym (or_assoc (nat_eq x v) (is_in xs v) (is_in ys v))

pub in_any : (xs : List ℕ) (v : ℕ) → is_in xs v ≡ list_any (λ x. nat_eq x v) xs
in_any [] v = refl
in_any (x ∷ xs) v = ap (λ b. nat_eq x v || b) (in_any xs v)

one_written : (first : ℕ) (params : List Text) (x : Option Text) (r : Option ℕ) (v : ℕ) → own_param first params x ≡ r → is_in (option_to_list r) v ≡ true → v < first + length params
one_written first params x None v e h = absurd (true≢false (sym h))
one_written first params x (Some a) v e h = or_elim (nat_eq a v) false h
    (λ k. subst (λ y. y < first + length params) (eqb-true a v k) (own_below first params x a e))
    (λ k. absurd (true≢false (sym k)))

kinds_written : (first : ℕ) (params : List Text) (ks : List TKind) (v : ℕ) → is_in (flat_map (λ k. option_to_list (own_param first params (written_through k))) ks) v ≡ true → v < first + length params
kinds_written first params [] v h = absurd (true≢false (sym h))
kinds_written first params (k ∷ ks) v h =
    let one : List ℕ = option_to_list (own_param first params (written_through k)) in
    let rest : List ℕ = flat_map (λ k. option_to_list (own_param first params (written_through k))) ks in
    or_elim (is_in one v) (is_in rest v) (sym (in_append one rest v) ∙ h)
    (λ q. one_written first params (written_through k) (own_param first params (written_through k)) v refl q)
    (λ q. kinds_written first params ks v q)

from_written : (all : List TFunction) (u : ℕ) (fs : List TFunction) → drop u all ≡ fs → (v : ℕ) → is_in (writes_from all u fs) v ≡ true → v < param_count all
from_written all u [] e v h = absurd (true≢false (sym h))
from_written all u (f ∷ fs) e v h =
    let at = rest_at all u f fs e in
    let mine = function_writes (first_param all u) f in
    or_elim (is_in mine v) (is_in (writes_from all (u + 1) fs) v) (sym (in_append mine (writes_from all (u + 1) fs) v) ∙ h)
    (λ k.
    let p : v < first_param all u + length (param_names f) = kinds_written (first_param all u) (param_names f) (block_kinds None f.body) v k in
    let r = first_room 0 all u at.0 in
    let n : length (param_names f) ≡ length f.params = length-map f.params _ in
    let m : length (params_at all u) ≡ length f.params = ap length at.1 in
    omega (arith, p, r, n, m))
    (λ k. from_written all (u + 1) fs at.2 v k)

pub writes_within : (fs : List TFunction) (v : ℕ) → is_in (writes_from fs 0 fs) v ≡ true → v < param_count fs
writes_within fs v h = from_written fs 0 fs refl v h

-- what reaches a parameter that is written through
pub assigned_is : (fs : List TFunction) (start : List ℕ) (n : ℕ) → start ≡ add_all [] (writes_from fs 0 fs) → reaches_some (pass_links fs) (param_count fs) (is_in start) n ≡ param_assigned fs n
assigned_is fs start n e = some_tests (pass_links fs) (param_count fs) (is_in start) (writes_through fs) n
    (λ v. ap (λ l. is_in l v) e ∙ in_all (writes_from fs 0 fs) [] v ∙ in_any (writes_from fs 0 fs) v)
