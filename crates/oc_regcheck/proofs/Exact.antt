-- What the code asks of outermost blocks is what is said of all blocks.
use Rattle.std.proofs.Common.{◌≡◌, ℕ, Bool, true, false, true≢false, List, [], ◌∷◌, length, map, Option, Some, None, cond, refl, ap, sym, subst, ◌∙◌, inl, inr}
use Rattle.std.specs.Prelude.{◌⊎◌, ◌&&◌, ◌||◌, not, find, flat_map, option_to_list}
use Rattle.std.specs.List.{list_all}
use Rattle.std.proofs.lemmas.Bool.{eq-eqb, or_left, or_right, and_parts, and_from, not-false, not-true, or_cases}
use Rattle.std.proofs.lemmas.Option.{same_Some, none-some}
use Rattle.oc_tree.specs.Tree.{TProgram}
use Rattle.oc_tree.specs.Rules.{main}
use Rattle.oc_tree.specs.Calls.{function_place}
use Rattle.oc_tree.specs.Form.{Numbered}
use Rattle.oc_tree.specs.Places.{encloses}
use Rattle.oc_tree.specs.Checked.{Group, IsChecked}
use Rattle.oc_tree.specs.Marked.{function_of}
use Rattle.oc_tree.specs.Members.{IsOf, is_number_of}
use Rattle.oc_tree.specs.Reach.{Links}
use Rattle.oc_effects.specs.Effects.{effects_at}
use Rattle.oc_flow.specs.Variables.{from}
use Rattle.oc_flow.specs.Laws.{Decides}
use Rattle.oc_flow.proofs.Ranks.{ranked}
use Rattle.oc_needs.specs.Need.{is_empty}
use Rattle.oc_needs.specs.Policies.{policies}
use Rattle.oc_needs.specs.Requirements.{TRequirement, requirements}
use Rattle.oc_needs.proofs.Tests.{any_of, any_same, of_any}
use Rattle.oc_needs.proofs.SitesLaw.{join_same}
use Rattle.oc_region.proofs.Owners.{around_function}
use Rattle.oc_region.proofs.Required.{Own, Asks, asked}
use Rattle.oc_laws.proofs.Bools.{both_ways}
use Rattle.oc_regcheck.specs.Enough.{AreCovered, is_function, covers_all, is_covered, Guarded, open_call, open_calls, comes_to, is_guarded, is_met, first_open, has_both, second_of}
use Rattle.oc_regcheck.specs.Code.{outer, same_place, shares, share_all, second_by, call_by, calls_in, calls_by, comes_by, meets, first_by}
use Rattle.oc_regcheck.proofs.Outer.{is_one, both_is, same_two}
use Rattle.oc_regcheck.proofs.Members.{of_all, all_of, each_of, among_of}
use Rattle.oc_regcheck.proofs.Guards.{guarded_is}
use Rattle.oc_regcheck.proofs.Marked.{up, line, encloses_is, inside_outer, one_outer}

-- ---- searches

find_members : {A : Type 0} (f g : A → Bool) (xs : List A) → ((x : A) → IsOf x xs → f x ≡ g x) → find f xs ≡ find g xs
find_members f g [] h = refl
find_members f g (x ∷ xs) h = ap (λ b. cond b (Some x) (find f xs)) (h x (inl refl)) ∙ ap (λ o. cond (g x) (Some x) o) (find_members f g xs (λ y i. h y (inr i)))

find_none : {A : Type 0} (f : A → Bool) (xs : List A) → find f xs ≡ None → (x : A) → IsOf x xs → f x ≡ false
find_none f [] e x h = absurd h
find_none f (y ∷ ys) e x h = by (f y) refl e h (λ k. find_none f ys k x)
  where
    by : (b : Bool) → f y ≡ b → cond b (Some y) (find f ys) ≡ None → IsOf x (y ∷ ys) → (find f ys ≡ None → IsOf x ys → f x ≡ false) → f x ≡ false
    by true is k i rest = absurd (none-some y (sym k))
    by false is k (inl q) rest = ap f q ∙ is
    by false is k (inr i) rest = rest k i

find_some : {A : Type 0} (f : A → Bool) (xs : List A) (x : A) → find f xs ≡ Some x → IsOf x xs × (f x ≡ true)
find_some f [] x e = absurd (none-some x e)
find_some f (y ∷ ys) x e = by (f y) refl e (find_some f ys x)
  where
    by : (b : Bool) → f y ≡ b → cond b (Some y) (find f ys) ≡ Some x → (find f ys ≡ Some x → IsOf x ys × (f x ≡ true)) → IsOf x (y ∷ ys) × (f x ≡ true)
    by true is k rest = let q : y ≡ x = same_Some y x k in (inl (sym q), ap f (sym q) ∙ is)
    by false is k rest = let r = rest k in (inr r.0, r.1)

same_some : (t : ℕ) (o u : Option ℕ) → o ≡ Some t → u ≡ Some t → same_place o u ≡ true
same_some t o u e f = subst (λ a. same_place a u ≡ true) (sym e) (subst (λ b. same_place (Some t) b ≡ true) (sym f) (eq-eqb t t refl))

-- the first open requirement is one of the program, and isn't met
pub first_there : (p : TProgram) (is_block : ℕ → Bool) (r : TRequirement) → first_by p is_block (requirements p) ≡ Some r → IsOf r (requirements p) × (meets p is_block r ≡ false)
first_there p is_block r e = let f = find_some (λ q. not (meets p is_block q)) (requirements p) r e in (f.0, not-true (meets p is_block r) f.1)

module _ (p : TProgram) (form : Numbered p) (blocks : List ℕ) where
  abbrev is_block : ℕ → Bool
  is_block = is_number_of blocks

  -- ---- two statements in one block

  pub both_shares : (s u : ℕ) → has_both p blocks s u ≡ shares p is_block s u
  both_shares s u =
      any_same (λ b. encloses p b s && encloses p b u) (λ b. is_number_of (up p s) b && is_number_of (up p u) b) blocks (λ b. (λ i. encloses_is p b s i && encloses_is p b u i))
      ∙ both_is blocks (up p) (up p s) (up p u) (line p form s) (line p form u)

  pub second_is : (first : ℕ) (sites : List ℕ) → second_of p blocks first sites ≡ second_by p is_block first sites
  second_is first sites = find_members (λ u. not (has_both p blocks first u)) (λ u. not (shares p is_block first u)) sites (λ u i. ap not (both_shares first u))

  -- ---- calls outside of blocks

  pub calls_are : open_calls p blocks ≡ calls_by p is_block
  calls_are = join_same (λ f. flat_map (open_call p blocks f) (effects_at p f)) (λ f. calls_in p is_block f (effects_at p f)) (from 0 (length p.functions))
      (λ f. join_same (open_call p blocks f) (call_by p is_block f) (effects_at p f)
      (λ a. ap (λ b. cond b [] (map (λ c. (c.function, f)) (option_to_list a.call))) (inside_outer p form blocks a.stmt)))

  pub guarded_by : (f : ℕ) → is_guarded p blocks f ≡ not (comes_by p is_block f)
  guarded_by f = ap (λ (l : Links). not (comes_to l (length p.functions) (function_place p.functions main) f)) calls_are

  -- ---- one block around all sites

  module _ (k : ℕ) where
    abbrev Stand : List ℕ → Type 0
    Stand ss = (s : ℕ) → IsOf s ss → Own p k s

    share_from : (policy : ℕ) (ss : List ℕ) → is_covered p blocks (record { policy = policy; function = k; sites = ss }) ≡ true → is_empty ss ≡ false → share_all p is_block ss ≡ true
    share_from policy [] e some = absurd (true≢false some)
    share_from policy (s ∷ ss) e some =
        let b = any_of (covers_all p (record { policy = policy; function = k; sites = s ∷ ss })) blocks e in
        let all = (and_parts (is_function k (function_of p b.0)) (list_all (encloses p b.0) (s ∷ ss)) b.2).1 in
        let t = one_outer p form blocks b.0 b.1 in
        all_of (shares p is_block s) (s ∷ ss) (λ u i. same_some t.0 (outer p is_block s) (outer p is_block u) (t.1 s (of_all (encloses p b.0) s (s ∷ ss) all (inl refl)))
        (t.1 u (of_all (encloses p b.0) u (s ∷ ss) all i)))

    from_share : (policy : ℕ) (ss : List ℕ) → Stand ss → share_all p is_block ss ≡ true → is_covered p blocks (record { policy = policy; function = k; sites = ss }) ≡ true
    from_share policy [] own e = absurd (true≢false (sym e))
    from_share policy (s ∷ ss) own e =
        let t = same_two (λ n. true) (outer p is_block s) (outer p is_block s) (of_all (shares p is_block s) s (s ∷ ss) e (inl refl)) in
        let one = is_one is_block (up p s) t.0 t.1 in
        let there = each_of (λ u. function_of p u ≡ Some k) t.0 (up p s) (around_function p form.statements form.blocks k s (own s (inl refl))) (among_of t.0 (up p s) one.1) in
        let inside : (u : ℕ) → IsOf u (s ∷ ss) → encloses p t.0 u ≡ true =
        λ u i. (let q = same_two (λ n. true) (outer p is_block s) (outer p is_block u) (of_all (shares p is_block s) u (s ∷ ss) e i) in
        let same : q.0 ≡ t.0 = same_Some q.0 t.0 (sym q.1 ∙ t.1) in
        encloses_is p t.0 u ∙ (is_one is_block (up p u) t.0 (q.2 ∙ ap Some same)).1) in
        let mine : is_function k (function_of p t.0) ≡ true = subst (λ o. is_function k o ≡ true) (sym there) (eq-eqb k k refl) in
        of_any (covers_all p (record { policy = policy; function = k; sites = s ∷ ss })) t.0 blocks (among_of t.0 blocks one.0)
        (and_from (is_function k (function_of p t.0)) (list_all (encloses p t.0) (s ∷ ss)) mine (all_of (encloses p t.0) (s ∷ ss) inside))

  pub covered_is : (n : ℕ) (r : TRequirement) → Asks p n r → is_covered p blocks r ≡ share_all p is_block r.sites
  covered_is n r asks = both_ways (is_covered p blocks r) (share_all p is_block r.sites)
      (λ e. share_from r.function r.policy r.sites e asks.some)
      (λ e. from_share r.function r.policy r.sites (λ s i. each_of (Own p r.function) s r.sites asks.sites i) e)

  pub met_is : (n : ℕ) (r : TRequirement) → Asks p n r → is_met p blocks r ≡ meets p is_block r
  met_is n r asks = λ i. covered_is n r asks i || guarded_by r.function i

  pub first_is : first_open p blocks ≡ first_by p is_block (requirements p)
  first_is = find_members (λ r. not (is_met p blocks r)) (λ r. not (meets p is_block r)) (requirements p)
      (λ r i. ap not (met_is (length (policies p)) r (each_of (Asks p (length (policies p))) r (requirements p) (asked p) i)))

  -- ---- an open requirement has a site that shares no block with another statement

  share_others : (first : ℕ) (ss : List ℕ) → is_empty ss ≡ false → ((u : ℕ) → IsOf u ss → shares p is_block first u ≡ true) → share_all p is_block ss ≡ true
  share_others first [] some h = absurd (true≢false some)
  share_others first (s ∷ ss) some h =
      let t = same_two (λ n. true) (outer p is_block first) (outer p is_block s) (h s (inl refl)) in
      all_of (shares p is_block s) (s ∷ ss) (λ u i. (let q = same_two (λ n. true) (outer p is_block first) (outer p is_block u) (h u i) in
      let same : q.0 ≡ t.0 = same_Some q.0 t.0 (sym q.1 ∙ t.1) in
      same_some t.0 (outer p is_block s) (outer p is_block u) t.2 (q.2 ∙ ap Some same)))

  pub second_there : (r : TRequirement) → IsOf r (requirements p) → meets p is_block r ≡ false → (first : ℕ) → second_by p is_block first r.sites ≡ None → ⊥
  second_there r o e first none =
      let asks = each_of (Asks p (length (policies p))) r (requirements p) (asked p) o in
      let all = share_others first r.sites asks.some (λ u i. not-false (shares p is_block first u) (find_none (λ v. not (shares p is_block first v)) r.sites none u i)) in
      true≢false (sym (or_left (share_all p is_block r.sites) (not (comes_by p is_block r.function)) all) ∙ e)

-- ---- the test decides

module _ (p : TProgram) (groups : List Group) (checked : IsChecked p groups) (blocks : List ℕ) where
  guard_so : (f : ℕ) (b : Bool) → Decides b (Guarded p blocks f) → b ≡ true → Guarded p blocks f
  guard_so f true d e = d
  guard_so f false d e = absurd (true≢false (sym e))

  so_guard : (f : ℕ) (b : Bool) → Decides b (Guarded p blocks f) → Guarded p blocks f → b ≡ true
  so_guard f true d h = refl
  so_guard f false d h = absurd (d h)

  pub covered_so : first_open p blocks ≡ None → AreCovered p blocks
  covered_so e = λ r o. by r (or_cases (is_covered p blocks r) (is_guarded p blocks r.function) (not-false (is_met p blocks r) (find_none (λ q. not (is_met p blocks q)) (requirements p) e r o)))
    where
      by : (r : TRequirement) → (is_covered p blocks r ≡ true) ⊎ (is_guarded p blocks r.function ≡ true) → (is_covered p blocks r ≡ true) ⊎ Guarded p blocks r.function
      by r (inl c) = inl c
      by r (inr g) = inr (guard_so r.function (is_guarded p blocks r.function) (guarded_is p blocks (ranked p groups checked) r.function) g)

  pub open_so : (r : TRequirement) → first_open p blocks ≡ Some r → AreCovered p blocks → ⊥
  open_so r e h =
      let f = find_some (λ q. not (is_met p blocks q)) (requirements p) r e in
      let off = not-true (is_met p blocks r) f.1 in
      by off (h r f.0)
    where
      by : is_met p blocks r ≡ false → (is_covered p blocks r ≡ true) ⊎ Guarded p blocks r.function → ⊥
      by off (inl c) = true≢false (sym (ap (λ b. b || is_guarded p blocks r.function) c) ∙ off)
      by off (inr g) = true≢false (sym (or_right (is_covered p blocks r) (is_guarded p blocks r.function)
          (so_guard r.function (is_guarded p blocks r.function) (guarded_is p blocks (ranked p groups checked) r.function) g)) ∙ off)
