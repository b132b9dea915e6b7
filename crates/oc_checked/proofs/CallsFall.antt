-- Calls go to functions of lower ranks, where no statement breaks the rule on cycles of calls.
use Rattle.std.proofs.Common.{◌≡◌, ◌<◌, ℕ, zero, suc, ◌+◌, true, false, List, [], ◌∷◌, length, map, Some, None, refl, ap, sym, ◌∙◌, subst, arith}
use Rattle.std.specs.Prelude.{nat_eq, ◌||◌, ◌&&◌, option_to_list, slice_get, codes}
use Rattle.std.proofs.lemmas.Bool.{eq-eqb, or_left, or_right}
use Rattle.std.proofs.lemmas.List.{map-append}
use Rattle.std.proofs.lemmas.Option.{none-some, same_Some, slice_get_within}
use Rattle.oc_tree.specs.Names.{Text}
use Rattle.oc_tree.specs.Tree.{TCall, TFunction, TProgram}
use Rattle.oc_tree.specs.Calls.{place, function_place, function_names, callee, body_calls, called_places, links_from, call_links}
use Rattle.oc_tree.specs.Reach.{Links, linked, is_link, rank}
use Rattle.oc_tree.specs.Broken.{broken}
use Rattle.oc_tree.specs.Form.{DeclaredInOrder}
use Rattle.oc_desugar.proofs.FineCalls.{Each}
use Rattle.oc_checked.proofs.Ranks.{rank_at, rank_of, Onwards, falls, rank_small}
use Rattle.oc_checked.proofs.CallLinks.{any_append, body_away, links_onwards}
use Rattle.oc_checked.proofs.BodiesPass.{function_fine}
use Rattle.oc_checked.proofs.Declared.{AllWithin}
use Rattle.oc_checked.proofs.Mains.{own_place, main_called}

-- the called function, where there is one, has a rank below this one
abbrev pub Lower : TProgram → (Text → ℕ) → ℕ → TCall → Type 0
Lower p rank own c = (v : ℕ) → function_place p.functions (callee c) ≡ Some v → rank (callee c) < own

-- ranks fall along all calls of all functions
abbrev pub RanksFall : TProgram → (Text → ℕ) → Type 0
RanksFall p rank = (u : ℕ) (f : TFunction) → slice_get p.functions u ≡ Some f → Each (Lower p rank (rank f.name)) (body_calls f)

-- what follows from what holds of each call
each_map : (P Q : TCall → Type 0) → ((c : TCall) → P c → Q c) → (cs : List TCall) → Each P cs → Each Q cs
each_map P Q f [] h = tt
each_map P Q f (c ∷ cs) h = (f c h.0, each_map P Q f cs h.1)

-- ---- calls are links

module _ (names : List Text) where
  -- to the place of the called function there is a link from w
  abbrev LinkedIn : Links → ℕ → TCall → Type 0
  LinkedIn links w c = (v : ℕ) → place names (callee c) ≡ Some v → linked links w v ≡ true

  -- a link is from its start to its end
  itself : (w v : ℕ) → is_link w v (w, v) ≡ true
  itself w v = ap (λ a. a && nat_eq v v) (eq-eqb w w refl) ∙ eq-eqb v v refl

  -- each call of the function w is among its links
  row_linked : (w : ℕ) (cs : List TCall) → Each (LinkedIn (map (λ a. (w, a)) (called_places names cs)) w) cs
  row_linked w [] = tt
  row_linked w (c ∷ cs) =
      let own : Links = map (λ a. (w, a)) (option_to_list (place names (callee c))) in
      let rest : Links = map (λ a. (w, a)) (called_places names cs) in
      let whole : Links = map (λ a. (w, a)) (called_places names (c ∷ cs)) in
      let split : (v : ℕ) → linked whole w v ≡ linked own w v || linked rest w v =
      λ v. ap (λ l. linked l w v) (map-append (λ a. (w, a)) (option_to_list (place names (callee c))) (called_places names cs)) ∙ any_append (is_link w v) own rest in
      let first : LinkedIn whole w c = λ v e.
      let one : linked own w v ≡ true = ap (λ o. linked (map (λ a. (w, a)) (option_to_list o)) w v) e ∙ or_left (is_link w v (w, v)) false (itself w v) in
      split v ∙ or_left (linked own w v) (linked rest w v) one in
      (first, each_map (LinkedIn rest w) (LinkedIn whole w) (λ d h v e. split v ∙ or_right (linked own w v) (linked rest w v) (h v e)) cs (row_linked w cs))

  -- the links of one function are among those of all
  from_linked : (w : ℕ) (fs : List TFunction) (j : ℕ) (f : TFunction) (u v : ℕ) → slice_get fs j ≡ Some f → linked (map (λ a. (w + j, a)) (called_places names (body_calls f))) u v
      ≡ true → linked (links_from names w fs) u v ≡ true
  from_linked w [] j f u v e h = absurd (none-some f e)
  from_linked w (g ∷ fs) zero f u v e h =
      let own : Links = map (λ a. (w, a)) (called_places names (body_calls g)) in
      let at : w + 0 ≡ w = omega arith in
      let here : linked own u v ≡ true = subst (λ m. linked (map (λ a. (m, a)) (called_places names (body_calls g))) u v ≡ true) at
      (subst (λ k. linked (map (λ a. (w + 0, a)) (called_places names (body_calls k))) u v ≡ true) (sym (same_Some g f e)) h) in
      any_append (is_link u v) own (links_from names (w + 1) fs) ∙ or_left (linked own u v) (linked (links_from names (w + 1) fs) u v) here
  from_linked w (g ∷ fs) (suc j) f u v e h =
      let own : Links = map (λ a. (w, a)) (called_places names (body_calls g)) in
      let at : w + suc j ≡ w + 1 + j = omega arith in
      let later = from_linked (w + 1) fs j f u v e (subst (λ m. linked (map (λ a. (m, a)) (called_places names (body_calls f))) u v ≡ true) at h) in
      any_append (is_link u v) own (links_from names (w + 1) fs) ∙ or_right (linked own u v) (linked (links_from names (w + 1) fs) u v) later

-- ---- ranks

module _ (p : TProgram) (unbroken : broken p ≡ None) (declared : DeclaredInOrder p) (within : AllWithin p) where
  -- no link leads back
  onwards : Onwards (call_links p.functions) (length p.functions)
  onwards = links_onwards p (λ u f e. body_away p u f (function_fine p unbroken declared u f e).body)

  -- each call goes to a function of a lower rank
  pub ranks_fall : RanksFall p (rank_of p.functions)
  ranks_fall u f e =
      let fs = p.functions in
      let names = function_names fs in
      let start : 0 + u ≡ u = omega arith in
      let own : rank_of fs f.name ≡ rank (call_links fs) (length fs) u = ap (rank_at fs) (own_place p within u f e) in
      let linked_so = LinkedIn names (map (λ a. (u, a)) (called_places names (body_calls f))) u in
      let lower : (c : TCall) → LinkedIn names (map (λ a. (u, a)) (called_places names (body_calls f))) u c → Lower p (rank_of fs) (rank_of fs f.name) c = λ c linked_in v at.
      let link : linked (call_links fs) u v ≡ true =
      from_linked names 0 fs u f u v e (subst (λ m. linked (map (λ a. (m, a)) (called_places names (body_calls f))) u v ≡ true) (sym start) (linked_in v at)) in
      omega (arith, falls (call_links fs) (length fs) onwards u v link, own, ap (rank_at fs) at) in
      each_map linked_so (Lower p (rank_of fs) (rank_of fs f.name)) lower (body_calls f) (row_linked names u (body_calls f))

  -- the rank of `main` is less than the number of functions
  pub main_low : rank_of p.functions (codes "main") < length p.functions
  main_low =
      let m = main_called p within in
      let below = slice_get_within p.functions m.number m.callee m.stands in
      omega (arith, ap (rank_at p.functions) m.placed, rank_small (call_links p.functions) (length p.functions) onwards m.number below)
