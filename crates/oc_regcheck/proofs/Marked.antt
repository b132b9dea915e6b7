-- Blocks as regions: they are regions, and where they suffice they cover what is required.
use Rattle.std.proofs.Common.{◌≡◌, ◌<◌, ℕ, suc, ◌+◌, Bool, true, false, true≢false, List, [], ◌∷◌, length, map, Option, Some, None, cond, refl, ap, sym, subst, ◌∙◌, inl, inr, arith}
use Rattle.std.specs.Prelude.{◌⊎◌, ◌&&◌, not, filter, is_some, nat_eq, nat_le, option_map}
use Rattle.std.specs.List.{list_any, list_all}
use Rattle.std.specs.Option.{unwrap_or, option_or}
use Rattle.std.proofs.lemmas.Bool.{eq-eqb, leb-true, le-leb, or_left, or_right, and_parts, and_from, false_from_ne_true}
use Rattle.std.proofs.lemmas.List.Elements.{All-nil}
use Rattle.oc_tree.specs.Tree.{TProgram}
use Rattle.oc_tree.specs.Rules.{main}
use Rattle.oc_tree.specs.Calls.{function_place}
use Rattle.oc_tree.specs.Numbers.{numbers_on}
use Rattle.oc_tree.specs.Form.{Numbered}
use Rattle.oc_tree.specs.Places.{Placed, placed, block_of, stands_in, encloses}
use Rattle.oc_tree.specs.Checked.{Group, same_block, IsChecked}
use Rattle.oc_tree.specs.Marked.{TRegion, TMarked, IsRegion, AreRegions, IsMarked, around, is_in_region, covers, function_of}
use Rattle.oc_tree.specs.Members.{IsOf, is_number_of}
use Rattle.oc_effects.specs.Effects.{TCalled, TEffect, effects_at}
use Rattle.oc_flow.specs.Laws.{Decides}
use Rattle.oc_flow.proofs.Ranks.{ranked}
use Rattle.oc_needs.specs.Need.{is_empty}
use Rattle.oc_needs.specs.Policies.{policies}
use Rattle.oc_needs.specs.Requirements.{TRequirement, requirements, rising}
use Rattle.oc_needs.proofs.Tests.{any_of, any_same, of_any}
use Rattle.oc_needs.proofs.Rising.{Rises, rises_rising, of_rising, in_rising}
use Rattle.oc_timely.specs.Covering.{IsCoveredAt, IsGuarding, IsMet, IsCovering}
use Rattle.oc_region.proofs.Elements.{Each, Pairs, each_all, pairs_all}
use Rattle.oc_region.proofs.Owners.{owner, statement_function, around_function}
use Rattle.oc_region.proofs.Required.{Own, own_effects, Asks, asked}
use Rattle.oc_region.proofs.Chains.{Chain, line_chain}
use Rattle.oc_laws.proofs.Members.{in_filter, of_filter}
use Rattle.oc_regcheck.specs.Enough.{AreStatements, AreCovered, is_inside, covers_all, is_covered, Guarded, comes_to, open_calls, is_guarded}
use Rattle.oc_regcheck.specs.BlockMarks.{outermost, block_region, block_regions, blocks_marked}
use Rattle.oc_regcheck.specs.Code.{outer}
use Rattle.oc_regcheck.proofs.Outer.{Line, outermost_in, among_any, over, is_one, is_alone, inside_is}
use Rattle.oc_regcheck.proofs.Members.{of_all, all_of, each_of, among_of, of_among}
use Rattle.oc_regcheck.proofs.Guards.{caller_guarded, not_true, guarded_is}

-- ---- lists that rise

rises_filter : (t : ℕ → Bool) (xs : List ℕ) → Rises xs → Rises (filter t xs)
rises_filter t [] h = tt
rises_filter t (x ∷ xs) h = by_test (t x) (rises_filter t xs h.1)
  where
    by_test : (b : Bool) → Rises (filter t xs) → Rises (cond b (x ∷ filter t xs) (filter t xs))
    by_test true rest = (λ y o. h.0 y (of_filter t y xs o).0, rest)
    by_test false rest = rest

module _ (p : TProgram) where
  -- what is around a statement
  abbrev pub up : ℕ → List ℕ
  up t = around (placed p t)

  chain_line : (l : List ℕ) → Chain p l → Line up l
  chain_line [] h = tt
  chain_line (t ∷ l) h = (ap around h.0.there ∙ h.0.around, chain_line l h.1)

  pub line : Numbered p → (s : ℕ) → Line up (up s)
  line form s = chain_line (around (placed p s)) (by (placed p s) refl)
    where
      by : (o : Option Placed) → placed p s ≡ o → Chain p (around (placed p s))
      by None is = subst (λ o. Chain p (around o)) (sym is) tt
      by (Some a) is = (line_chain p form s a is).1

  pub encloses_is : (b s : ℕ) → encloses p b s ≡ is_number_of (up s) b
  encloses_is b s = by (placed p s)
    where
      by : (o : Option Placed) → stands_in b o ≡ is_number_of (around o) b
      by None = refl
      by (Some a) = refl

  -- ---- a block as a region

  region_block : (b : ℕ) → is_some (placed p b) ≡ true → block_of p b ≡ Some (unwrap_or (block_of p b) 0)
  region_block b h = by (placed p b) h
    where
      by : (o : Option Placed) → is_some o ≡ true → option_map (λ a. a.at.block) o ≡ Some (unwrap_or (option_map (λ a. a.at.block) o) 0)
      by None e = absurd (true≢false (sym e))
      by (Some a) e = refl

  itself_in : (i b : ℕ) → is_some (placed p b) ≡ true → is_in_region p (block_region p i b) b ≡ true
  itself_in i b h = and_from (same_block (block_of p b) (Some (unwrap_or (block_of p b) 0))) (nat_le b b && nat_le b b)
      (subst (λ o. same_block o (Some (unwrap_or (block_of p b) 0)) ≡ true) (sym (region_block b h)) (eq-eqb (unwrap_or (block_of p b) 0) (unwrap_or (block_of p b) 0) refl))
      (and_from (nat_le b b) (nat_le b b) (le-leb b b (omega arith)) (le-leb b b (omega arith)))

  only_itself : (i b t : ℕ) → is_in_region p (block_region p i b) t ≡ true → t ≡ b
  only_itself i b t e =
      let ends = and_parts (nat_le b t) (nat_le t b) (and_parts (same_block (block_of p t) (Some (unwrap_or (block_of p b) 0))) (nat_le b t && nat_le t b) e).1 in
      let low = leb-true b t ends.0 in
      let high = leb-true t b ends.1 in
      omega (arith, low, high)

  covers_inside : (i t s : ℕ) → is_some (placed p t) ≡ true → is_number_of (up s) t ≡ true → covers p (block_region p i t) s ≡ true
  covers_inside i t s h m = or_right (is_in_region p (block_region p i t) s) (list_any (is_in_region p (block_region p i t)) (up s))
      (among_any (is_in_region p (block_region p i t)) (up s) t m (itself_in i t h))

  in_regions : (t i : ℕ) (bs : List ℕ) → IsOf t bs → (j : ℕ) × IsOf (block_region p j t) (block_regions p i bs)
  in_regions t i [] h = absurd h
  in_regions t i (b ∷ bs) (inl e) = (i, inl (ap (block_region p i) e))
  in_regions t i (b ∷ bs) (inr h) = let r = in_regions t (i + 1) bs h in (r.0, inr r.1)

  ids : (i : ℕ) (bs : List ℕ) → map (λ r. r.id) (block_regions p i bs) ≡ numbers_on i (length (block_regions p i bs))
  ids i [] = refl
  ids i (b ∷ bs) = ap (λ ns. i ∷ ns) (ids (i + 1) bs ∙ (let e : i + 1 ≡ suc i = omega arith in ap (λ j. numbers_on j (length (block_regions p (i + 1) bs))) e))

  module _ (form : Numbered p) (blocks : List ℕ) where
    pub inside_outer : (s : ℕ) → is_inside p blocks s ≡ is_some (outer p (is_number_of blocks) s)
    inside_outer s = any_same (λ b. encloses p b s) (λ b. is_number_of (up s) b) blocks (λ b. encloses_is b s) ∙ inside_is blocks up (up s) (line form s)

    -- all sites of a requirement that a block covers have one outermost block
    pub one_outer : (b : ℕ) → IsOf b blocks → (t : ℕ) × ((s : ℕ) → encloses p b s ≡ true → outer p (is_number_of blocks) s ≡ Some t)
    one_outer b o =
        let t = by (outermost_in (is_number_of blocks) (up b)) in
        (t.0, λ s e. over (is_number_of blocks) up (up s) b (line form s) (of_among b blocks o) (sym (encloses_is b s) ∙ e) ∙ t.1)
      where
        by : (u : Option ℕ) → (t : ℕ) × (option_or u (Some b) ≡ Some t)
        by None = (b, refl)
        by (Some v) = (v, refl)

  module _ (form : Numbered p) (blocks : List ℕ) (statements : AreStatements p blocks) where
    -- ---- the outermost blocks

    -- a block that is inside no other
    record IsOuter (b : ℕ) : Type 0 where
      pub one : IsOf b blocks
      pub alone : is_inside p blocks b ≡ false

    outer_of : (b : ℕ) → IsOf b (outermost p blocks) → IsOuter b
    outer_of b o = let f = of_filter (λ x. not (is_inside p blocks x)) b (rising blocks) o in record { one = of_rising b blocks f.0; alone = not_true p blocks (is_inside p blocks b) f.1 }

    outer_one : (s t : ℕ) → outer p (is_number_of blocks) s ≡ Some t → IsOf t (outermost p blocks)
    outer_one s t e =
        let one = is_one (is_number_of blocks) (up s) t e in
        let none = is_alone (is_number_of blocks) up (up s) t (line form s) e in
        let alone : is_inside p blocks t ≡ false = inside_outer form blocks t ∙ ap is_some none in
        in_filter (λ x. not (is_inside p blocks x)) t (rising blocks) (in_rising t blocks (among_of t blocks one.0)) (ap not alone)

    region_there : (n i b : ℕ) → IsOf b blocks → IsRegion p n (block_region p i b)
    region_there n i b o =
        let h = statements b o in
        record { ordered = omega arith; first_there = region_block b h; last_there = region_block b h; function_there = by (placed p b) refl h; reasons_there = All-nil (λ k. k < n) }
      where
        known : (f : Option ℕ) (k : ℕ) → f ≡ Some k → f ≡ Some (unwrap_or f 0)
        known f k e = e ∙ ap (λ g. Some (unwrap_or g 0)) (sym e)

        by : (q : Option Placed) → placed p b ≡ q → is_some (placed p b) ≡ true → function_of p b ≡ Some (unwrap_or (function_of p b) 0)
        by None is h = absurd (true≢false (sym h ∙ ap is_some is))
        by (Some a) is h =
            let w = owner p.functions b a is in
            known (function_of p b) w.place (statement_function p form.statements form.blocks w.place b w.statement)

    each_region : (n i : ℕ) (bs : List ℕ) → ((b : ℕ) → IsOf b bs → IsOf b blocks) → Each (IsRegion p n) (block_regions p i bs)
    each_region n i [] h = tt
    each_region n i (b ∷ bs) h = (region_there n i b (h b (inl refl)), each_region n (i + 1) bs (λ c o. h c (inr o)))

    module _ (R : TRegion → TRegion → Type 0) (two : (i j a b : ℕ) → IsOuter a → IsOuter b → a < b → R (block_region p i a) (block_region p j b)) where
      each_later : (i j a : ℕ) (bs : List ℕ) → IsOuter a → ((b : ℕ) → IsOf b bs → IsOuter b) → ((b : ℕ) → IsOf b bs → a < b) → Each (R (block_region p i a)) (block_regions p j bs)
      each_later i j a [] k h l = tt
      each_later i j a (b ∷ bs) k h l = (two i j a b k (h b (inl refl)) (l b (inl refl)), each_later i (j + 1) a bs k (λ c o. h c (inr o)) (λ c o. l c (inr o)))

      pairs_of : (i : ℕ) (bs : List ℕ) → ((b : ℕ) → IsOf b bs → IsOuter b) → Rises bs → Pairs R (block_regions p i bs)
      pairs_of i [] h r = tt
      pairs_of i (b ∷ bs) h r = (each_later i (i + 1) b bs (h b (inl refl)) (λ c o. h c (inr o)) r.0, pairs_of (i + 1) bs (λ c o. h c (inr o)) r.1)

    away : (i a b : ℕ) → IsOuter a → IsOuter b → (a ≡ b → ⊥) → covers p (block_region p i a) b ≡ false
    away i a b h k d = false_from_ne_true (covers p (block_region p i a) b) (λ e. (let t = any_of (is_in_region p (block_region p i a)) (b ∷ up b) e in by t.0 (only_itself i a t.0 t.2) t.1))
      where
        by : (t : ℕ) → t ≡ a → IsOf t (b ∷ up b) → ⊥
        by t e (inl q) = d (sym e ∙ q)
        by t e (inr o) = true≢false (sym (of_any (λ x. encloses p x b) a blocks h.one (encloses_is a b ∙ of_among a (up b) (subst (λ x. IsOf x (up b)) e o))) ∙ k.alone)

    are_regions : (n : ℕ) → AreRegions p n (block_regions p 1 (outermost p blocks))
    are_regions n =
        let bs : List ℕ = outermost p blocks in
        let rises = rises_filter (λ x. not (is_inside p blocks x)) (rising blocks) (rises_rising blocks) in
        let regions : List TRegion = block_regions p 1 bs in
        record {
          each = each_all (IsRegion p n) regions (each_region n 1 bs (λ b o. (outer_of b o).one));
          numbered = ids 1 bs;
          rising = pairs_all (λ r q. r.first < q.first) regions (pairs_of (λ r q. r.first < q.first) (λ i j a b h k l. l) 1 bs outer_of rises);
          apart = pairs_all (λ r q. (covers p r q.first ≡ false) × (covers p q r.first ≡ false)) regions
              (pairs_of (λ r q. (covers p r q.first ≡ false) × (covers p q r.first ≡ false))
              (λ i j a b h k l. (away i a b h k (λ e. omega (arith, l, e)), away j b a k h (λ e. omega (arith, l, e)))) 1 bs outer_of rises);
        }

    -- ---- what is inside blocks is covered

    -- the region of the outermost block around a statement of the function at `k`
    record HasRegion (k t : ℕ) : Type 0 where
      pub region : TRegion
      pub one : IsOf region (block_regions p 1 (outermost p blocks))
      pub function : region.function ≡ k
      pub covers : (s : ℕ) → outer p (is_number_of blocks) s ≡ Some t → covers p region s ≡ true

    region_of : (k s t : ℕ) → Own p k s → outer p (is_number_of blocks) s ≡ Some t → HasRegion k t
    region_of k s t own e =
        let there = outer_one s t e in
        let one = is_one (is_number_of blocks) (up s) t e in
        let j = in_regions t 1 (outermost p blocks) there in
        let stands = each_of (λ u. function_of p u ≡ Some k) t (up s) (around_function p form.statements form.blocks k s own) (among_of t (up s) one.1) in
        let h = statements t (outer_of t there).one in
        record { region = block_region p j.0 t; one = j.1; function = ap (λ f. unwrap_or f 0) stands; covers = λ u q. covers_inside j.0 t u h (is_one (is_number_of blocks) (up u) t q).1 }

    is_there : (o : Option ℕ) → is_some o ≡ true → (t : ℕ) × (o ≡ Some t)
    is_there None e = absurd (true≢false (sym e))
    is_there (Some t) e = (t, refl)

    some_site : (ss : List ℕ) → is_empty ss ≡ false → (s : ℕ) × IsOf s ss
    some_site [] e = absurd (true≢false e)
    some_site (s ∷ ss) e = (s, inl refl)

  module _ (groups : List Group) (checked : IsChecked p groups) (blocks : List ℕ) (statements : AreStatements p blocks) where
    abbrev by_blocks : TMarked
    by_blocks = blocks_marked (record { program = p; groups = groups }) blocks

    pub is_marked : IsMarked by_blocks
    is_marked = record { checked = checked; regions = are_regions checked.form.numbered blocks statements (length (policies p)) }

    covered_at : (f : ℕ) (a : TEffect) → IsOf a (effects_at p f) → is_inside p blocks a.stmt ≡ true → IsCoveredAt by_blocks f a.stmt
    covered_at f a i e =
        let t = is_there checked.form.numbered blocks statements (outer p (is_number_of blocks) a.stmt) (sym (inside_outer checked.form.numbered blocks a.stmt) ∙ e) in
        let r = region_of checked.form.numbered blocks statements f a.stmt t.0 (each_of (λ b. Own p f b.stmt) a (effects_at p f) (own_effects p f) i) t.1 in
        record { region = r.region; one = r.one; there = r.function; covered = r.covers a.stmt t.1 }

    guarding : IsGuarding by_blocks (is_guarded p blocks)
    guarding = record { main = at_main; calls = λ f a c i there g. by f a c i there g (is_inside p blocks a.stmt) refl }
      where
        at_main : (f : ℕ) → function_place p.functions main ≡ Some f → is_guarded p blocks f ≡ false
        at_main f e = ap (λ o. not (comes_to (open_calls p blocks) (length p.functions) o f)) e ∙ ap not (or_left (nat_eq f f) _ (eq-eqb f f refl))

        by : (f : ℕ) (a : TEffect) (c : TCalled) → IsOf a (effects_at p f) → a.call ≡ Some c → is_guarded p blocks c.function ≡ true → (b : Bool) → is_inside p blocks a.stmt ≡ b
            → (is_guarded p blocks f ≡ true) ⊎ IsCoveredAt by_blocks f a.stmt
        by f a c i there g true e = inr (covered_at f a i e)
        by f a c i there g false e = inl (ap not (caller_guarded p blocks (function_place p.functions main) c.function f a c ((ranked p groups checked).within f a i) i there refl e
            (not_true p blocks _ g)))

    met : (r : TRequirement) → IsOf r (requirements p) → is_covered p blocks r ≡ true → IsMet by_blocks r
    met r o e =
        let asks = each_of (Asks p (length (policies p))) r (requirements p) (asked p) o in
        let b = any_of (covers_all p r) blocks e in
        let t = one_outer checked.form.numbered blocks b.0 b.1 in
        let all = (and_parts _ (list_all (encloses p b.0) r.sites) b.2).1 in
        let s = some_site checked.form.numbered blocks statements r.sites asks.some in
        let home = region_of checked.form.numbered blocks statements r.function s.0 t.0 (each_of (Own p r.function) s.0 r.sites asks.sites s.1)
        (t.1 s.0 (of_all (encloses p b.0) s.0 r.sites all s.1)) in
        record { region = home.region; one = home.one; there = home.function; covered = all_of (covers p home.region) r.sites (λ u i. home.covers u (t.1 u (of_all (encloses p b.0) u r.sites all i))) }

    tells_so : (b : Bool) (A : Type 0) → Decides b A → A → b ≡ true
    tells_so true A d a = refl
    tells_so false A d a = absurd (d a)

    pub is_covering : AreCovered p blocks → IsCovering by_blocks
    is_covering h = record { guarded = is_guarded p blocks; guarding = guarding; met = λ r o. by r o (h r o) }
      where
        by : (r : TRequirement) → IsOf r (requirements p) → (is_covered p blocks r ≡ true) ⊎ Guarded p blocks r.function → (is_guarded p blocks r.function ≡ true) ⊎ IsMet by_blocks r
        by r o (inl c) = inr (met r o c)
        by r o (inr g) = inl (tells_so (is_guarded p blocks r.function) (Guarded p blocks r.function) (guarded_is p blocks (ranked p groups checked) r.function) g)
