-- A table that is filled by levels of calls: where no function calls itself, it is what one level more makes of it.
use Rattle.std.proofs.Common.{◌≡◌, ◌<◌, inl, ℕ, zero, suc, true, false, List, [], ◌∷◌, length, map, Option, Some, None, refl, ap, sym, ◌∙◌, subst, arith}
use Rattle.std.specs.Prelude.{nat_eq, option_to_list, slice_get}
use Rattle.std.proofs.Math.ListN.{get_or}
use Rattle.std.proofs.lemmas.Bool.{eq-eqb}
use Rattle.std.proofs.lemmas.Option.{slice_get_within}
use Rattle.oc_tree.specs.Tree.{TCall, TKind, TFunction}
use Rattle.oc_tree.specs.Calls.{callee, own_calls, block_kinds, body_calls, called_places, function_names, function_place, call_links, calls}
use Rattle.oc_tree.specs.Members.{IsOf}
use Rattle.oc_tree.specs.Reach.{linked, rank}
use Rattle.oc_tree.specs.Weight.{known_of}
use Rattle.oc_tree.proofs.ReachLaws.{rank_falls}
use Rattle.oc_laws.proofs.Members.{in_flat, of_any, some_at, at_place}
use Rattle.oc_reach.specs.Marked.{is_in}
use Rattle.oc_reach.proofs.LinkLaws.{calls_within}
use Rattle.oc_reach.proofs.WriteLaws.{in_any}
use Rattle.oc_weight.specs.Measured.{KindsAlike}
use Rattle.oc_weight.proofs.OrderLaws.{calls_by_rows, rank_small, row_at}

-- a function calls what its body names
call_linked : (fs : List TFunction) (u v : ℕ) (f : TFunction) (c : TCall) → slice_get fs u ≡ Some f → IsOf c (body_calls f) → function_place fs (callee c) ≡ Some v → linked (call_links fs) u v ≡ true
call_linked fs u v f c at i e =
    let row : TFunction → List ℕ = λ h. called_places (function_names fs) (body_calls h) in
    let named : IsOf v (row f) = in_flat (λ d. option_to_list (function_place fs (callee d))) (body_calls f) c v i (subst (λ o. IsOf v (option_to_list o)) (sym e) (inl refl)) in
    ap (λ links. linked links u v) (calls_by_rows fs (map row fs) refl)
    ∙ row_at (map row fs) u v
    ∙ ap (λ vs. is_in vs v) (at_place row fs u f [] at)
    ∙ in_any (row f) v
    ∙ of_any (λ x. nat_eq x v) v (row f) named (eq-eqb v v refl)

-- two tables know the same of each call in these statements
abbrev pub KindsSame : List TFunction → (ws vs : List ℕ) → List TKind → Type 0
KindsSame fs ws vs ks = KindsAlike (λ n. n) fs ws vs ks

map_same : (g h : TFunction → ℕ) (fs : List TFunction) → ((u : ℕ) (f : TFunction) → slice_get fs u ≡ Some f → g f ≡ h f) → map g fs ≡ map h fs
map_same g h [] same = refl
map_same g h (f ∷ fs) same = λ i. same 0 f refl i ∷ map_same g h fs (λ u f e. same (suc u) f e) i

module _ (fs : List TFunction) (step : List ℕ → TFunction → ℕ) (by_callees : (ws vs : List ℕ) (f : TFunction) → KindsSame fs ws vs (block_kinds None f.body) → step ws f ≡ step vs f) where
  -- a function takes the same from two tables that agree on those that it calls
  pub same_by_links : (ws vs : List ℕ) (u : ℕ) (f : TFunction) → slice_get fs u ≡ Some f → ((v : ℕ) → linked (call_links fs) u v ≡ true → get_or ws v 0 ≡ get_or vs v 0) → step ws f ≡ step vs f
  same_by_links ws vs u f at same = by_callees ws vs f (λ k i c j. known c (in_flat own_calls (block_kinds None f.body) k c i j) (function_place fs (callee c)) refl)
    where
      known : (c : TCall) → IsOf c (body_calls f) → (o : Option ℕ) → function_place fs (callee c) ≡ o → known_of ws o ≡ known_of vs o
      known c i None e = refl
      known c i (Some v) e = same v (call_linked fs u v f c at i e)

module _ (fs : List TFunction) (none_back : (u : ℕ) → calls fs u u ≡ false) (step : List ℕ → TFunction → ℕ) (to : ℕ → List ℕ)
    (no_level : to 0 ≡ []) (one_level : (d : ℕ) → to (suc d) ≡ map (step (to d)) fs)
    (by_callees : (ws vs : List ℕ) (f : TFunction) → KindsSame fs ws vs (block_kinds None f.body) → step ws f ≡ step vs f) where
  abbrev ranks : ℕ → ℕ
  ranks u = rank (call_links fs) (length fs) u

  -- a function takes the same from two tables that agree on lower ranks
  same_step : (ws vs : List ℕ) (u : ℕ) (f : TFunction) → slice_get fs u ≡ Some f → ((v : ℕ) → v < length fs → ranks v < ranks u → get_or ws v 0 ≡ get_or vs v 0) → step ws f ≡ step vs f
  same_step ws vs u f at lower = same_by_links fs step by_callees ws vs u f at (λ v link.
      let below = (calls_within fs u v link).1 in
      lower v below (rank_falls (call_links fs) (length fs) u v below link (none_back v)))

  -- one level more changes nothing, above the rank of a function
  stable : (d u : ℕ) → u < length fs → ranks u < d → get_or (to d) u 0 ≡ get_or (to (suc d)) u 0
  stable zero u below h = absurd (omega arith)
  stable (suc d) u below h =
      let s = some_at fs u below in
      let before : get_or (to (suc d)) u 0 ≡ step (to d) s.0 = ap (λ ws. get_or ws u 0) (one_level d) ∙ at_place (step (to d)) fs u s.0 0 s.1 in
      let behind : get_or (to (suc (suc d))) u 0 ≡ step (to (suc d)) s.0 = ap (λ ws. get_or ws u 0) (one_level (suc d)) ∙ at_place (step (to (suc d))) fs u s.0 0 s.1 in
      before ∙ (same_step (to d) (to (suc d)) u s.0 s.1 (λ v l r. stable d v l (omega (arith, r, h))) ∙ sym behind)

  at_depth : (n : ℕ) → n ≡ length fs → to n ≡ map (step (to n)) fs
  at_depth zero e = no_level ∙ empty fs e
    where
      empty : (gs : List TFunction) → 0 ≡ length gs → [] ≡ map (step (to 0)) gs
      empty [] e = refl
      empty (g ∷ gs) e = absurd (omega (arith, e))
  at_depth (suc n) e =
      one_level n ∙ map_same (step (to n)) (step (to (suc n))) fs
      (λ u f at. same_step (to n) (to (suc n)) u f at
      (λ v l r. stable n v l (let m = rank_small (call_links fs) (length fs) u (slice_get_within fs u f at) (none_back u) in omega (arith, r, m, e))))

  pub settles_by_callees : to (length fs) ≡ map (step (to (length fs))) fs
  settles_by_callees = at_depth (length fs) refl
