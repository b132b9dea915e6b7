-- Calls are of functions that exist.
use Rattle.std.proofs.Common.{◌≡◌, ◌<◌, ◌+◌, ◌++◌, ℕ, true, false, List, [], ◌∷◌, Option, Some, None, nat_eq, length, map, refl, sym, ap, ◌∙◌, true≢false, arith}
use Rattle.std.specs.Prelude.{◌||◌, option_to_list}
use Rattle.std.proofs.lemmas.List.{map-append, length-map}
use Rattle.std.proofs.lemmas.Bool.{eqb-true, and_parts}
use Rattle.std.proofs.lemmas.List.Folds.{list_any-append}
use Rattle.oc_tree.specs.Names.{Text}
use Rattle.oc_tree.specs.Tree.{TCall, TFunction}
use Rattle.oc_tree.specs.Reach.{linked, is_link}
use Rattle.oc_tree.specs.Calls.{place, callee, body_calls, called_places, links_from, function_names, call_links}
use Rattle.oc_tree.proofs.ReachLaws.{or_elim}
use Rattle.oc_reach.specs.Within.{IsWithin}
use Rattle.oc_names.proofs.Entries.{place_below}

one_within : (names : List Text) (w : ℕ) (x : Text) (r : Option ℕ) (u v : ℕ) → r ≡ place names x → linked (map (λ a. (w, a)) (option_to_list r)) u v ≡ true → (w ≡ u) × (v < length names)
one_within names w x None u v e h = absurd (true≢false (sym h))
one_within names w x (Some i) u v e h = or_elim (is_link u v (w, i)) false h
    (λ k.
    let iv : i ≡ v = eqb-true i v (and_parts (nat_eq w u) (nat_eq i v) k).1 in
    let b : i < 0 + length names = place_below 0 names x i (sym e) in
    (eqb-true w u (and_parts (nat_eq w u) (nat_eq i v) k).0, omega (arith, iv, b)))
    (λ k. absurd (true≢false (sym k)))

row_within : (names : List Text) (w : ℕ) (cs : List TCall) (u v : ℕ) → linked (map (λ a. (w, a)) (called_places names cs)) u v ≡ true → (w ≡ u) × (v < length names)
row_within names w [] u v h = absurd (true≢false (sym h))
row_within names w (c ∷ cs) u v h =
    let first = option_to_list (place names (callee c)) in
    let s = ap (λ l. linked l u v) (map-append (λ a. (w, a)) first (called_places names cs)) ∙ list_any-append (is_link u v) (map (λ a. (w, a)) first) (map (λ a. (w, a)) (called_places names cs)) in
    or_elim (linked (map (λ a. (w, a)) first) u v) (linked (map (λ a. (w, a)) (called_places names cs)) u v) (sym s ∙ h)
    (λ k. one_within names w (callee c) (place names (callee c)) u v refl k)
    (λ k. row_within names w cs u v k)

from_within : (names : List Text) (w : ℕ) (fs : List TFunction) (u v : ℕ) → linked (links_from names w fs) u v ≡ true → (u < w + length fs) × (v < length names)
from_within names w [] u v h = absurd (true≢false (sym h))
from_within names w (f ∷ fs) u v h =
    let first = map (λ a. (w, a)) (called_places names (body_calls f)) in
    or_elim (linked first u v) (linked (links_from names (w + 1) fs) u v) (sym (list_any-append (is_link u v) first (links_from names (w + 1) fs)) ∙ h)
    (λ k. let p : (w ≡ u) × (v < length names) = row_within names w (body_calls f) u v k in (omega (arith, p.0), p.1))
    (λ k. let p : (u < w + 1 + length fs) × (v < length names) = from_within names (w + 1) fs u v k in (omega (arith, p.0), p.1))

pub calls_within : (fs : List TFunction) → IsWithin (call_links fs) (length fs)
calls_within fs u v h =
    let p = from_within (function_names fs) 0 fs u v h in
    let n : length (function_names fs) ≡ length fs = length-map fs (λ f. f.name) in
    (omega (arith, p.0), omega (arith, p.1, n))
