-- The range of the definition is the smallest one.
use Rattle.std.proofs.Common.{◌≡◌, ◌<◌, ◌≤◌, ℕ, ◌+◌, Bool, true, false, true≢false, ◌==◌, List, [], ◌∷◌, ◌++◌, length, Option, Some, None, min, max, cond, refl, ap, sym, subst, ◌∙◌, inl, inr, arith}
use Rattle.std.specs.Prelude.{◌⊎◌, ◌&&◌, ◌||◌, flat_map, find, is_some, nat_le, count_by, option_map, option_to_list, option_and_then}
use Rattle.std.specs.List.{list_any, list_all}
use Rattle.std.proofs.lemmas.Bool.{eqb-true, eq-eqb, leb-true, le-leb, and_parts, and_from, or_left, or_right, cases_lt}
use Rattle.std.proofs.lemmas.List.Sums.{sum_by-cons}
use Rattle.std.proofs.lemmas.Option.{same_Some}
use Rattle.oc_tree.specs.Tree.{TProgram}
use Rattle.oc_tree.specs.Numbers.{program_statements}
use Rattle.oc_tree.specs.Form.{Numbered}
use Rattle.oc_tree.specs.Places.{Placed, program_placed, placed, block_of}
use Rattle.oc_tree.specs.Checked.{Group, same_block, is_in_group, group_of, AreGroups}
use Rattle.oc_tree.specs.Marked.{TRegion, around, is_in_region, covers}
use Rattle.oc_tree.proofs.Grouped.{program_ids}
use Rattle.oc_tree.proofs.Grouped as grouped
use Rattle.oc_needs.specs.Requirements.{TRequirement}
use Rattle.oc_region.specs.Smallest.{line_up, in_block, blocks_of, common_block, spread_on, spread, groups_in, range_in, smallest, has_group, IsRange, Holds, LiesIn, IsSmallest}
use Rattle.oc_region.proofs.Elements.{Each, each_weaker, each_both, each_always, each_find, each_left, each_right, each_flat_map, all_each}
use Rattle.oc_region.proofs.Ranges.{same_block_is, GroupIn, group_in}
use Rattle.oc_region.proofs.Chains.{Standing, Chain, around_block, around_is, line_chain, each_unmapped}

-- ---- elements

abbrev pub In : {A : Type 0} → A → List A → Type 0
In x [] = ⊥
In x (y ∷ ys) = (x ≡ y) ⊎ In x ys

-- one that passes
pub record Found {A : Type 0} (t : A → Bool) (xs : List A) : Type 0 where
  pub value : A
  pub inside : In value xs
  pub passes : t value ≡ true

module _ {A : Type 0} where
  pub any_found : (t : A → Bool) (xs : List A) → list_any t xs ≡ true → Found t xs
  any_found t [] e = absurd (true≢false (sym e))
  any_found t (x ∷ xs) e = by_test (t x) refl e (any_found t xs)
    where
      by_test : (b : Bool) → t x ≡ b → (b || list_any t xs) ≡ true → (list_any t xs ≡ true → Found t xs) → Found t (x ∷ xs)
      by_test true is f rest = record { value = x; inside = inl refl; passes = is }
      by_test false is f rest = let r = rest f in record { value = r.value; inside = inr r.inside; passes = r.passes }

  pub in_any : (t : A → Bool) (x : A) (xs : List A) → In x xs → t x ≡ true → list_any t xs ≡ true
  in_any t x [] h e = absurd h
  in_any t x (y ∷ ys) (inl s) e = or_left (t y) (list_any t ys) (sym (ap t s) ∙ e)
  in_any t x (y ∷ ys) (inr h) e = or_right (t y) (list_any t ys) (in_any t x ys h e)

  pub find_in : (t : A → Bool) (xs : List A) (x : A) → find t xs ≡ Some x → In x xs
  find_in t [] x e = cc
  find_in t (y ∷ ys) x e = by_test (t y) e (find_in t ys x)
    where
      by_test : (b : Bool) → cond b (Some y) (find t ys) ≡ Some x → (find t ys ≡ Some x → In x ys) → (x ≡ y) ⊎ In x ys
      by_test true f rest = inl (sym (same_Some y x f))
      by_test false f rest = inr (rest f)

  pub find_passes : (t : A → Bool) (xs : List A) (x : A) → find t xs ≡ Some x → t x ≡ true
  find_passes t [] x e = cc
  find_passes t (y ∷ ys) x e = by_test (t y) refl e (find_passes t ys x)
    where
      by_test : (b : Bool) → t y ≡ b → cond b (Some y) (find t ys) ≡ Some x → (find t ys ≡ Some x → t x ≡ true) → t x ≡ true
      by_test true is f rest = sym (ap t (same_Some y x f)) ∙ is
      by_test false is f rest = rest f

  pub is_found : (t : A → Bool) (x : A) (xs : List A) → In x xs → t x ≡ true → is_some (find t xs) ≡ true
  is_found t x [] h e = absurd h
  is_found t x (y ∷ ys) (inl s) e = ap (λ b. is_some (cond b (Some y) (find t ys))) (sym (ap t s) ∙ e)
  is_found t x (y ∷ ys) (inr h) e = by_test (t y) (is_found t x ys h e)
    where
      by_test : (b : Bool) → is_some (find t ys) ≡ true → is_some (cond b (Some y) (find t ys)) ≡ true
      by_test true f = refl
      by_test false f = f

  pub each_in : (P : A → Type 0) (x : A) (xs : List A) → In x xs → Each P xs → P x
  each_in P x [] h each = absurd h
  each_in P x (y ∷ ys) (inl s) each = subst P (sym s) each.0
  each_in P x (y ∷ ys) (inr h) each = each_in P x ys h each.1

  pub all_passing : (t : A → Bool) (xs : List A) → list_all t xs ≡ true → Each (λ x. t x ≡ true) xs
  all_passing t [] e = tt
  all_passing t (x ∷ xs) e = let parts = and_parts (t x) (list_all t xs) e in (parts.0, all_passing t xs parts.1)

  pub passing_all : (t : A → Bool) (xs : List A) → Each (λ x. t x ≡ true) xs → list_all t xs ≡ true
  passing_all t [] h = refl
  passing_all t (x ∷ xs) h = and_from (t x) (list_all t xs) h.0 (passing_all t xs h.1)

  count_some : (t : A → Bool) (x : A) (xs : List A) → In x xs → t x ≡ true → 1 ≤ count_by t xs
  count_some t x [] h e = absurd h
  count_some t x (y ∷ ys) (inl s) e =
      let c : count_by t (y ∷ ys) ≡ cond (t y) 1 0 + count_by t ys = sum_by-cons (λ z. cond (t z) 1 0) y ys in
      let one : ◌≡◌ {A = ℕ} (cond (t y) 1 0) 1 = ap (λ b. cond b 1 0) (sym (ap t s) ∙ e) in omega (arith, c, one)
  count_some t x (y ∷ ys) (inr h) e =
      let c : count_by t (y ∷ ys) ≡ cond (t y) 1 0 + count_by t ys = sum_by-cons (λ z. cond (t z) 1 0) y ys in
      let rest = count_some t x ys h e in omega (arith, c, rest)

  -- where one passes, two that pass are the same
  pub one_passes : (t : A → Bool) (x y : A) (xs : List A) → count_by t xs ≤ 1 → In x xs → In y xs → t x ≡ true → t y ≡ true → x ≡ y
  one_passes t x y [] few h k e f = absurd h
  one_passes t x y (z ∷ zs) few h k e f = by_cases h k (one_passes t x y zs)
    where
      c : count_by t (z ∷ zs) ≡ cond (t z) 1 0 + count_by t zs
      c = sum_by-cons (λ a. cond (t a) 1 0) z zs

      two : (a b : A) → a ≡ z → In b zs → t a ≡ true → t b ≡ true → ⊥
      two a b s i g m =
          let one : ◌≡◌ {A = ℕ} (cond (t z) 1 0) 1 = ap (λ q. cond q 1 0) (sym (ap t s) ∙ g) in
          let rest = count_some t b zs i m in
          let whole = c in omega (arith, whole, one, rest, few)

      by_cases : ((x ≡ z) ⊎ In x zs) → ((y ≡ z) ⊎ In y zs) → (count_by t zs ≤ 1 → In x zs → In y zs → t x ≡ true → t y ≡ true → x ≡ y) → x ≡ y
      by_cases (inl s) (inl r) rest = s ∙ sym r
      by_cases (inl s) (inr i) rest = absurd (two x y s i e f)
      by_cases (inr i) (inl s) rest = absurd (two y x s i f e)
      by_cases (inr i) (inr j) rest = rest (let whole = c in omega (arith, whole, few)) i j e f

each_flat_mapped : {A B : Type 0} (Q : B → Type 0) (f : A → List B) (xs : List A) → Each Q (flat_map f xs) → Each (λ x. Each Q (f x)) xs
each_flat_mapped Q f [] h = tt
each_flat_mapped Q f (x ∷ xs) h = (each_left Q (f x) (flat_map f xs) h, each_flat_mapped Q f xs (each_right Q (f x) (flat_map f xs) h))

-- ---- chains

module _ (p : TProgram) where
  standing_block : (t : ℕ) (l : List ℕ) → Standing p t l → (b : ℕ) × (block_of p t ≡ Some b)
  standing_block t l s = (s.found.at.block, ap (λ o. option_map (λ a. a.at.block) o) s.there)

  standing_around : (t : ℕ) (l : List ℕ) → Standing p t l → around (placed p t) ≡ l
  standing_around t l s = ap around s.there ∙ s.around

  pub shorter : (u : ℕ) (ls : List ℕ) → Chain p ls → In u ls → length (around (placed p u)) < length ls
  shorter u [] c h = absurd h
  shorter u (t ∷ l) c (inl s) = let e = ap length (ap (λ n. around (placed p n)) s ∙ standing_around t l c.0) in omega (arith, e)
  shorter u (t ∷ l) c (inr h) = let rest = shorter u l c.1 h in omega (arith, rest)

  -- what is around one of them is one of them
  pub beyond : (w u : ℕ) (ls : List ℕ) → Chain p ls → In w ls → In u (around (placed p w)) → In u ls
  beyond w u [] c h i = absurd h
  beyond w u (t ∷ l) c (inl s) i = inr (subst (λ m. In u m) (ap (λ n. around (placed p n)) s ∙ standing_around t l c.0) i)
  beyond w u (t ∷ l) c (inr h) i = inr (beyond w u l c.1 h i)

  module _ (form : Numbered p) where
    pub same_around : (t u b : ℕ) → block_of p t ≡ Some b → block_of p u ≡ Some b → around (placed p t) ≡ around (placed p u)
    same_around t u b h k = around_is p form t b h ∙ sym (around_is p form u b k)

    -- one of each block
    only : (t u b : ℕ) (ls : List ℕ) → Chain p ls → In t ls → In u ls → block_of p t ≡ Some b → block_of p u ≡ Some b → t ≡ u
    only t u b [] c i j h k = absurd i
    only t u b (x ∷ l) c i j h k = by_cases i j (only t u b l c.1)
      where
        two : (m n : ℕ) → m ≡ x → In n l → block_of p m ≡ Some b → block_of p n ≡ Some b → ⊥
        two m n s q a d =
            let e : around (placed p n) ≡ l = same_around n m b d a ∙ ap (λ y. around (placed p y)) s ∙ standing_around x l c.0 in
            let f = ap length e in
            let less = shorter n l c.1 q in omega (arith, f, less)

        by_cases : ((t ≡ x) ⊎ In t l) → ((u ≡ x) ⊎ In u l) → (In t l → In u l → block_of p t ≡ Some b → block_of p u ≡ Some b → t ≡ u) → t ≡ u
        by_cases (inl s) (inl r) rest = s ∙ sym r
        by_cases (inl s) (inr q) rest = absurd (two t u s q h k)
        by_cases (inr q) (inl s) rest = absurd (two u t s q k h)
        by_cases (inr q) (inr r) rest = rest q r h k

    -- a statement with another one around it, or itself, has a place
    chain_of : (s t b : ℕ) → In t (line_up p s) → block_of p t ≡ Some b → Chain p (line_up p s)
    chain_of s t b i h = by_place (placed p s) refl
      where
        none : (o : Option Placed) → placed p s ≡ o → o ≡ None → ((t ≡ s) ⊎ In t (around o)) → ⊥
        none None is e (inl same) = let f : None ≡ Some b = sym (ap (λ q. option_map (λ a. a.at.block) q) is) ∙ sym (ap (block_of p) same) ∙ h in cc f
        none None is e (inr q) = q
        none (Some a) is e q = cc e

        by_place : (o : Option Placed) → placed p s ≡ o → Chain p (line_up p s)
        by_place None is = absurd (none (placed p s) refl is i)
        by_place (Some a) is = line_chain p form s a is

-- ---- the common block

module _ (p : TProgram) where
  -- the blocks of some statements
  abbrev pub Blocks : List ℕ → List ℕ
  Blocks ls = flat_map (λ t. option_to_list (block_of p t)) ls

  -- a statement directly in a block
  record Placing (b : ℕ) (ls : List ℕ) : Type 0 where
    pub statement : ℕ
    pub inside : In statement ls
    pub block : block_of p statement ≡ Some b

  block_found : (test : ℕ → Bool) (ls : List ℕ) (b : ℕ) → find test (Blocks ls) ≡ Some b → Placing b ls
  block_found test [] b e = cc
  block_found test (t ∷ l) b e = by_block (block_of p t) refl e (block_found test l b)
    where
      deeper : Placing b l → Placing b (t ∷ l)
      deeper r = record { statement = r.statement; inside = inr r.inside; block = r.block }

      by_test : (d : ℕ) (q : Bool) → block_of p t ≡ Some d → cond q (Some d) (find test (Blocks l)) ≡ Some b → (find test (Blocks l) ≡ Some b → Placing b l) → Placing b (t ∷ l)
      by_test d true is f rest = record { statement = t; inside = inl refl; block = is ∙ f }
      by_test d false is f rest = deeper (rest f)

      by_block : (o : Option ℕ) → block_of p t ≡ o → find test (option_to_list o ++ Blocks l) ≡ Some b → (find test (Blocks l) ≡ Some b → Placing b l) → Placing b (t ∷ l)
      by_block None is f rest = deeper (rest f)
      by_block (Some d) is f rest = by_test d (test d) is f rest

  -- a statement of another block in which all stand is the one that is found, or stands around it
  record Outer (b u : ℕ) (ls : List ℕ) : Type 0 where
    pub statement : ℕ
    pub inside : In statement ls
    pub block : block_of p statement ≡ Some b
    pub outer : (u ≡ statement) ⊎ In u (around (placed p statement))

  outer_of : (test : ℕ → Bool) (ls : List ℕ) (b c u : ℕ) → Chain p ls → find test (Blocks ls) ≡ Some b → In u ls → block_of p u ≡ Some c → test c ≡ true → Outer b u ls
  outer_of test [] b c u chain e i h there = absurd i
  outer_of test (t ∷ l) b c u chain e i h there =
      let own = standing_block p t l chain.0 in
      by_test own.0 (test own.0) own.1 refl (ap (λ o. find test (option_to_list o ++ Blocks l)) (sym own.1) ∙ e) i (outer_of test l b c u chain.1)
    where
      by_test : (d : ℕ) (q : Bool) → block_of p t ≡ Some d → test d ≡ q → cond q (Some d) (find test (Blocks l)) ≡ Some b → ((u ≡ t) ⊎ In u l)
          → (find test (Blocks l) ≡ Some b → In u l → block_of p u ≡ Some c → test c ≡ true → Outer b u l) → Outer b u (t ∷ l)
      by_test d true is q f (inl s) rest = record { statement = t; inside = inl refl; block = is ∙ f; outer = inl s }
      by_test d true is q f (inr j) rest = record { statement = t; inside = inl refl; block = is ∙ f; outer = inr (subst (λ m. In u m) (sym (standing_around p t l chain.0)) j) }
      by_test d false is q f (inl s) rest =
          let same : d ≡ c = same_Some d c (sym is ∙ ap (block_of p) (sym s) ∙ h) in
          absurd (true≢false (sym there ∙ ap test (sym same) ∙ q))
      by_test d false is q f (inr j) rest = let r = rest f j h there in record { statement = r.statement; inside = inr r.inside; block = r.block; outer = r.outer }

  -- where some statement of these stands directly in a block, one is found
  pub in_found : (b s t : ℕ) → In t (line_up p s) → block_of p t ≡ Some b → is_some (in_block p b s) ≡ true
  in_found b s t i h = is_found (λ n. same_block (block_of p n) (Some b)) t (line_up p s) i (ap (λ o. same_block o (Some b)) h ∙ eq-eqb b b refl)

  -- all stand in the common block
  pub all_in_common : (ss : List ℕ) (b : ℕ) → common_block p ss ≡ Some b → Each (λ s. is_some (in_block p b s) ≡ true) ss
  all_in_common [] b e = tt
  all_in_common (s ∷ ss) b e =
      let test : ℕ → Bool = λ c. list_all (λ t. is_some (in_block p c t)) ss in
      let own = block_found test (line_up p s) b e in
      (in_found b s own.statement own.inside own.block, all_passing (λ t. is_some (in_block p b t)) ss (find_passes test (blocks_of p s) b e))

  -- what a range covers
  covers_found : (r : TRegion) (s : ℕ) → covers p r s ≡ true → Found (is_in_region p r) (line_up p s)
  covers_found r s e = any_found (is_in_region p r) (line_up p s) e

  found_covers : (r : TRegion) (s t : ℕ) → In t (line_up p s) → is_in_region p r t ≡ true → covers p r s ≡ true
  found_covers r s t i e = in_any (is_in_region p r) t (line_up p s) i e

  record InRegion (r : TRegion) (t : ℕ) : Type 0 where
    pub block : block_of p t ≡ Some r.block
    pub from : r.first ≤ t
    pub upto : t ≤ r.last

  in_region : (r : TRegion) (t : ℕ) → is_in_region p r t ≡ true → InRegion r t
  in_region r t e =
      let parts = and_parts (same_block (block_of p t) (Some r.block)) (nat_le r.first t && nat_le t r.last) e in
      let ends = and_parts (nat_le r.first t) (nat_le t r.last) parts.1 in
      record { block = same_block_is (block_of p t) r.block parts.0; from = leb-true r.first t ends.0; upto = leb-true t r.last ends.1 }

  is_in : (r : TRegion) (t : ℕ) → InRegion r t → is_in_region p r t ≡ true
  is_in r t h = and_from (same_block (block_of p t) (Some r.block)) (nat_le r.first t && nat_le t r.last)
      (ap (λ o. same_block o (Some r.block)) h.block ∙ eq-eqb r.block r.block refl) (and_from (nat_le r.first t) (nat_le t r.last) (le-leb r.first t h.from) (le-leb t r.last h.upto))

-- ---- from the first group to the last

-- a group lies between the ends of another
abbrev Within : Group → Group → Type 0
Within g h = (g.0 ≤ h.0) × (h.1 ≤ g.1)

-- it goes from the first statement of one of these groups to the last of one
record Spans (gs : List Group) (g : Group) : Type 0 where
  pub all : Each (Within g) gs
  pub first : Group
  pub first_inside : In first gs
  pub first_is : g.0 ≡ first.0
  pub last : Group
  pub last_inside : In last gs
  pub last_is : g.1 ≡ last.1

spans : (g : Group) (gs : List Group) → Spans (g ∷ gs) (spread_on g gs)
spans g [] = record { all = ((omega arith, omega arith), tt); first = g; first_inside = inl refl; first_is = refl; last = g; last_inside = inl refl; last_is = refl }
spans g (h ∷ gs) = wider (spans (min g.0 h.0, max g.1 h.1) gs) (cases_lt g.0 h.0) (cases_lt g.1 h.1)
  where
    whole : Group
    whole = spread_on (min g.0 h.0, max g.1 h.1) gs

    first_of_two : (m : Group) → m ≡ (min g.0 h.0, max g.1 h.1) → (g.0 < h.0) ⊎ (h.0 ≤ g.0) → (k : Group) × (In k (g ∷ (h ∷ gs))) × (m.0 ≡ k.0)
    first_of_two m e (inl l) = (g, inl refl, ap (λ x. x.0) e ∙ omega (arith, l))
    first_of_two m e (inr l) = (h, inr (inl refl), ap (λ x. x.0) e ∙ omega (arith, l))

    last_of_two : (m : Group) → m ≡ (min g.0 h.0, max g.1 h.1) → (g.1 < h.1) ⊎ (h.1 ≤ g.1) → (k : Group) × (In k (g ∷ (h ∷ gs))) × (m.1 ≡ k.1)
    last_of_two m e (inl l) = (h, inr (inl refl), ap (λ x. x.1) e ∙ omega (arith, l))
    last_of_two m e (inr l) = (g, inl refl, ap (λ x. x.1) e ∙ omega (arith, l))

    first_from : (m : Group) → ((m ≡ (min g.0 h.0, max g.1 h.1)) ⊎ In m gs) → (g.0 < h.0) ⊎ (h.0 ≤ g.0) → (k : Group) × (In k (g ∷ (h ∷ gs))) × (m.0 ≡ k.0)
    first_from m (inl e) o = first_of_two m e o
    first_from m (inr i) o = (m, inr (inr i), refl)

    last_from : (m : Group) → ((m ≡ (min g.0 h.0, max g.1 h.1)) ⊎ In m gs) → (g.1 < h.1) ⊎ (h.1 ≤ g.1) → (k : Group) × (In k (g ∷ (h ∷ gs))) × (m.1 ≡ k.1)
    last_from m (inl e) o = last_of_two m e o
    last_from m (inr i) o = (m, inr (inr i), refl)

    wider : Spans ((min g.0 h.0, max g.1 h.1) ∷ gs) (spread_on (min g.0 h.0, max g.1 h.1) gs) → (g.0 < h.0) ⊎ (h.0 ≤ g.0) → (g.1 < h.1) ⊎ (h.1 ≤ g.1)
        → Spans (g ∷ (h ∷ gs)) (spread_on (min g.0 h.0, max g.1 h.1) gs)
    wider s o q =
        let f = first_from s.first s.first_inside o in
        let l = last_from s.last s.last_inside q in
        let low = s.all.0.0 in let high = s.all.0.1 in
        record {
          all = ((omega (arith, low), omega (arith, high)), ((omega (arith, low), omega (arith, high)), s.all.1));
          first = f.0;
          first_inside = f.1;
          first_is = s.first_is ∙ f.2;
          last = l.0;
          last_inside = l.1;
          last_is = s.last_is ∙ l.2;
        }

-- ---- the smallest range

module _ (p : TProgram) (groups : List Group) (form : Numbered p) (are : AreGroups p groups) where
  -- each statement is in one group
  counted : (n b : ℕ) → block_of p n ≡ Some b → count_by (is_in_group p n) groups ≡ 1
  counted n b e = by_place (placed p n) refl e
    where
      by_place : (o : Option Placed) → placed p n ≡ o → option_map (λ a. a.at.block) o ≡ Some b → count_by (is_in_group p n) groups ≡ 1
      by_place None is f = cc
      by_place (Some a) is f =
          let one : Each (λ m. count_by (is_in_group p m) groups ≡ 1) (program_statements p) = all_each (λ m. count_by (is_in_group p m) groups ≡ 1) (program_statements p) are.one_each in
          let told : Each (λ x. count_by (is_in_group p x.id) groups ≡ 1) (program_placed p) =
          each_unmapped (λ m. count_by (is_in_group p m) groups ≡ 1) (λ x. x.id) (program_placed p) (subst (Each (λ m. count_by (is_in_group p m) groups ≡ 1)) (sym (program_ids p)) one) in
          let found = each_find (λ x. count_by (is_in_group p x.id) groups ≡ 1) (λ x. x.id == n) (program_placed p) a is told in
          subst (λ m. count_by (is_in_group p m) groups ≡ 1) (eqb-true a.id n found.0) found.1

  pub group_there : (t b : ℕ) → block_of p t ≡ Some b → (h : Group) × (group_of p groups t ≡ Some h)
  group_there t b e = by_group (group_of p groups t) refl
    where
      by_group : (o : Option Group) → group_of p groups t ≡ o → (h : Group) × (group_of p groups t ≡ Some h)
      by_group None is = let none = grouped.has_group p groups t are is in let f : None ≡ Some b = ap (λ q. option_map (λ a. a.at.block) q) (sym none) ∙ e in cc f
      by_group (Some h) is = (h, is)

  -- a group of the program in a block
  abbrev Grouped : ℕ → Group → Type 0
  Grouped b h = In h groups × GroupIn p b h

  record Holding (b t : ℕ) (h : Group) : Type 0 where
    pub grouped : Grouped b h
    pub from : h.0 ≤ t
    pub upto : t ≤ h.1

  holding : (t b : ℕ) (h : Group) → block_of p t ≡ Some b → group_of p groups t ≡ Some h → Holding b t h
  holding t b h there e =
      let parts = and_parts (same_block (block_of p t) (block_of p h.0)) (nat_le h.0 t && nat_le t h.1) (find_passes (is_in_group p t) groups h e) in
      let ends = and_parts (nat_le h.0 t) (nat_le t h.1) parts.1 in
      record { grouped = (find_in (is_in_group p t) groups h e, group_in p groups are b t h there e); from = leb-true h.0 t ends.0; upto = leb-true t h.1 ends.1 }

  in_group : (n b : ℕ) (g : Group) → block_of p n ≡ Some b → GroupIn p b g → g.0 ≤ n → n ≤ g.1 → is_in_group p n g ≡ true
  in_group n b g e h l m = and_from (same_block (block_of p n) (block_of p g.0)) (nat_le g.0 n && nat_le n g.1)
      (ap (λ o. same_block o (block_of p g.0)) e ∙ ap (λ o. same_block (Some b) o) h.first_there ∙ eq-eqb b b refl) (and_from (nat_le g.0 n) (nat_le n g.1) (le-leb g.0 n l) (le-leb n g.1 m))

  -- two groups with a statement in common are one
  same_group : (n b : ℕ) (g h : Group) → block_of p n ≡ Some b → Grouped b g → Grouped b h → g.0 ≤ n → n ≤ g.1 → h.0 ≤ n → n ≤ h.1 → g ≡ h
  same_group n b g h e a d l m q r = let c = counted n b e in one_passes (is_in_group p n) g h groups (omega (arith, c)) a.0 d.0 (in_group n b g e a.1 l m) (in_group n b h e d.1 q r)

  groups_there : (b : ℕ) (ss : List ℕ) → Each (Grouped b) (groups_in p groups b ss)
  groups_there b ss = each_flat_map (λ s. Unit {0}) (Grouped b) (λ s. option_to_list (option_and_then (group_of p groups) (in_block p b s))) (λ s _. one s) ss
      (each_always (λ s. Unit {0}) (λ s. tt) ss)
    where
      by_group : (t : ℕ) (o : Option Group) → block_of p t ≡ Some b → group_of p groups t ≡ o → Each (Grouped b) (option_to_list o)
      by_group t None there is = tt
      by_group t (Some h) there is = ((holding t b h there is).grouped, tt)

      by_statement : (s : ℕ) (o : Option ℕ) → in_block p b s ≡ o → Each (Grouped b) (option_to_list (option_and_then (group_of p groups) o))
      by_statement s None is = tt
      by_statement s (Some t) is = by_group t (group_of p groups t) (same_block_is (block_of p t) b (find_passes (λ n. same_block (block_of p n) (Some b)) (line_up p s) t is)) refl

      one : (s : ℕ) → Each (Grouped b) (option_to_list (option_and_then (group_of p groups) (in_block p b s)))
      one s = by_statement s (in_block p b s) refl

  -- ---- other ranges that hold the sites

  -- a statement around the block, in the range
  record AroundIn (b : ℕ) (q : TRegion) : Type 0 where
    pub statement : ℕ
    pub around_it : In statement (around_block p form b)
    pub in_it : InRegion p q statement

  covered_found : (q : TRegion) (s : ℕ) → covers p q s ≡ true → is_some (in_block p q.block s) ≡ true
  covered_found q s e = let f = covers_found p q s e in in_found p q.block s f.value f.inside (in_region p q f.value f.passes).block

  -- a range that holds the sites stands in their common block or around it
  same_or_around : (ss : List ℕ) (b : ℕ) (q : TRegion) → common_block p ss ≡ Some b → Each (λ s. covers p q s ≡ true) ss → (q.block ≡ b) ⊎ AroundIn b q
  same_or_around [] b q e h = cc
  same_or_around (s ∷ ss) b q e h =
      let f = covers_found p q s h.0 in
      let i = in_region p q f.value f.passes in
      let test : ℕ → Bool = λ c. list_all (λ t. is_some (in_block p c t)) ss in
      let all : test q.block ≡ true = passing_all (λ t. is_some (in_block p q.block t)) ss
      (each_weaker (λ t. covers p q t ≡ true) (λ t. is_some (in_block p q.block t) ≡ true) (λ t k. covered_found q t k) ss h.1) in
      by_outer f.value i (outer_of p test (line_up p s) b q.block f.value (chain_of p form s f.value q.block f.inside i.block) e f.inside i.block all)
    where
      by_outer : (u : ℕ) → InRegion p q u → Outer p b u (line_up p s) → (q.block ≡ b) ⊎ AroundIn b q
      by_outer u i o = by_case o.outer
        where
          by_case : ((u ≡ o.statement) ⊎ In u (around (placed p o.statement))) → (q.block ≡ b) ⊎ AroundIn b q
          by_case (inl same) = inl (same_Some q.block b (sym i.block ∙ ap (block_of p) same ∙ o.block))
          by_case (inr j) = inr (record { statement = u; around_it = subst (λ l. In u l) (around_is p form o.statement b o.block) j; in_it = i })

  -- the group of a site that a range in the block holds lies in the range
  site_group : (b : ℕ) (q : TRegion) → IsRange p groups q → q.block ≡ b → (s : ℕ) → covers p q s ≡ true
      → Each (Within (q.first, q.last)) (option_to_list (option_and_then (group_of p groups) (in_block p b s)))
  site_group b q is_range same s e = by_statement (in_block p b s) refl
    where
      by_group : (o : Option Group) → has_group q o ≡ true → Each (Within (q.first, q.last)) (option_to_list o)
      by_group None h = tt
      by_group (Some h) k = let parts = and_parts (nat_le q.first h.0) (nat_le h.1 q.last) k in ((leb-true q.first h.0 parts.0, leb-true h.1 q.last parts.1), tt)

      by_statement : (o : Option ℕ) → in_block p b s ≡ o → Each (Within (q.first, q.last)) (option_to_list (option_and_then (group_of p groups) o))
      by_statement None is = tt
      by_statement (Some t) is =
          let test : ℕ → Bool = λ n. same_block (block_of p n) (Some b) in
          let block = same_block_is (block_of p t) b (find_passes test (line_up p s) t is) in
          let inside = find_in test (line_up p s) t is in
          let f = covers_found p q s e in
          let i = in_region p q f.value f.passes in
          let one : t ≡ f.value = only p form t f.value b (line_up p s) (chain_of p form s t b inside block) inside f.inside block (i.block ∙ ap Some same) in
          by_group (group_of p groups t) (is_range.whole t (ap (is_in_region p q) one ∙ f.passes))

  -- ---- from the first to the last of some groups in a block

  module _ (r : TRequirement) (b : ℕ) (g : Group) (gs : List Group) (common : common_block p r.sites ≡ Some b) (are_those : groups_in p groups b r.sites ≡ g ∷ gs) where
    abbrev range : TRegion
    range = record { id = 0; function = r.function; block = b; first = (spread_on g gs).0; last = (spread_on g gs).1; reasons = [] }

    all_grouped : Each (Grouped b) (g ∷ gs)
    all_grouped = subst (Each (Grouped b)) are_those (groups_there b r.sites)

    first_grouped : Grouped b (spans g gs).first
    first_grouped = each_in (Grouped b) (spans g gs).first (g ∷ gs) (spans g gs).first_inside all_grouped

    last_grouped : Grouped b (spans g gs).last
    last_grouped = each_in (Grouped b) (spans g gs).last (g ∷ gs) (spans g gs).last_inside all_grouped

    from_first : (s : ℕ) (h : Group) → Holding b s h → range.first ≤ s → range.first ≤ h.0
    from_first s h hold l = by_order (cases_lt h.0 range.first)
      where
        by_order : (h.0 < range.first) ⊎ (range.first ≤ h.0) → range.first ≤ h.0
        by_order (inr m) = m
        by_order (inl m) =
            let first : range.first ≡ (spans g gs).first.0 = (spans g gs).first_is in
            let ordered = first_grouped.1.ordered in
            let upto = hold.upto in
            let same : h ≡ (spans g gs).first = same_group (spans g gs).first.0 b h (spans g gs).first first_grouped.1.first_there hold.grouped first_grouped
            (omega (arith, m, first)) (omega (arith, upto, l, first)) (omega arith) (omega (arith, ordered)) in
            let e : h.0 ≡ (spans g gs).first.0 = ap (λ x. x.0) same in absurd (omega (arith, e, m, first))

    upto_last : (s : ℕ) (h : Group) → Holding b s h → s ≤ range.last → h.1 ≤ range.last
    upto_last s h hold l = by_order (cases_lt range.last h.1)
      where
        by_order : (range.last < h.1) ⊎ (h.1 ≤ range.last) → h.1 ≤ range.last
        by_order (inr m) = m
        by_order (inl m) =
            let last : range.last ≡ (spans g gs).last.1 = (spans g gs).last_is in
            let ordered = last_grouped.1.ordered in
            let from = hold.from in
            let same : h ≡ (spans g gs).last = same_group (spans g gs).last.1 b h (spans g gs).last last_grouped.1.last_there hold.grouped last_grouped
            (omega (arith, from, l, last)) (omega (arith, m, last)) (omega (arith, ordered)) (omega arith) in
            let e : h.1 ≡ (spans g gs).last.1 = ap (λ x. x.1) same in absurd (omega (arith, e, m, last))

    has : (h : Group) → range.first ≤ h.0 → h.1 ≤ range.last → has_group range (Some h) ≡ true
    has h l m = and_from (nat_le range.first h.0) (nat_le h.1 range.last) (le-leb range.first h.0 l) (le-leb h.1 range.last m)

    is_range : IsRange p groups range
    is_range = record {
      ordered = (let f = first_grouped.1.ordered in let first = (spans g gs).first_is in let w =
          each_in (Within (spread_on g gs)) (spans g gs).first (g ∷ gs) (spans g gs).first_inside (spans g gs).all in let high = w.1 in omega (arith, f, first, high));
      first_there = ap (block_of p) (spans g gs).first_is ∙ first_grouped.1.first_there;
      last_there = ap (block_of p) (spans g gs).last_is ∙ last_grouped.1.last_there;
      whole = λ s e. (let i = in_region p range s e in let there = group_there s b i.block in let hold = holding s b there.0 i.block there.1 in ap (has_group range) there.1
          ∙ has there.0 (from_first s there.0 hold i.from) (upto_last s there.0 hold i.upto));
    }

    -- it holds the sites
    abbrev Spread : ℕ → Type 0
    Spread s = Each (Within (spread_on g gs)) (option_to_list (option_and_then (group_of p groups) (in_block p b s)))

    site_covered : (s : ℕ) → is_some (in_block p b s) ≡ true → Spread s → covers p range s ≡ true
    site_covered s some within = by_statement (in_block p b s) refl some within
      where
        by_statement : (o : Option ℕ) → in_block p b s ≡ o → is_some o ≡ true → Each (Within (spread_on g gs)) (option_to_list (option_and_then (group_of p groups) o)) → covers p range s ≡ true
        by_statement None is e w = absurd (true≢false (sym e))
        by_statement (Some t) is e w =
            let test : ℕ → Bool = λ n. same_block (block_of p n) (Some b) in
            let block = same_block_is (block_of p t) b (find_passes test (line_up p s) t is) in
            let there = group_there t b block in
            let hold = holding t b there.0 block there.1 in
            let inside : Each (Within (spread_on g gs)) (there.0 ∷ []) = subst (λ o. Each (Within (spread_on g gs)) (option_to_list o)) there.1 w in
            let low = inside.0.0 in let high = inside.0.1 in let from = hold.from in let upto = hold.upto in
            found_covers p range s t (find_in test (line_up p s) t is) (is_in p range t (record { block = block; from = omega (arith, low, from); upto = omega (arith, high, upto) }))

    spread_each : Each Spread r.sites
    spread_each = each_flat_mapped (Within (spread_on g gs)) (λ s. option_to_list (option_and_then (group_of p groups) (in_block p b s))) r.sites
        (subst (Each (Within (spread_on g gs))) (sym are_those) (spans g gs).all)

    holds : Holds p range r.sites
    holds =
        let both : Each (λ s. (is_some (in_block p b s) ≡ true) × Spread s) r.sites = each_both (λ s. is_some (in_block p b s) ≡ true) Spread r.sites (all_in_common p r.sites b common) spread_each in
        passing_all (covers p range) r.sites (each_weaker (λ s. (is_some (in_block p b s) ≡ true) × Spread s) (λ s. covers p range s ≡ true) (λ s k. site_covered s k.0 k.1) r.sites both)

    -- it lies in each other range that holds them
    least : (q : TRegion) → IsRange p groups q → Holds p q r.sites → LiesIn p range q
    least q is h = by_case (same_or_around r.sites b q common covered)
      where
        covered : Each (λ s. covers p q s ≡ true) r.sites
        covered = all_passing (covers p q) r.sites h

        by_case : ((q.block ≡ b) ⊎ AroundIn b q) → LiesIn p range q
        by_case (inl same) = λ s e. (
            let within : Each (Within (q.first, q.last)) (g ∷ gs) =
            subst (Each (Within (q.first, q.last))) are_those
            (each_flat_map (λ t. covers p q t ≡ true) (Within (q.first, q.last)) (λ t. option_to_list (option_and_then (group_of p groups) (in_block p b t)))
            (λ t k. site_group b q is same t k) r.sites covered) in
            let low = (each_in (Within (q.first, q.last)) (spans g gs).first (g ∷ gs) (spans g gs).first_inside within).0 in
            let high = (each_in (Within (q.first, q.last)) (spans g gs).last (g ∷ gs) (spans g gs).last_inside within).1 in
            let first = (spans g gs).first_is in
            let last = (spans g gs).last_is in
            let f = covers_found p range s e in
            let i = in_region p range f.value f.passes in
            let from = i.from in
            let upto = i.upto in
            found_covers p q s f.value f.inside (is_in p q f.value (record { block = i.block ∙ ap Some (sym same); from = omega (arith, low, first, from); upto = omega (arith, high, last, upto) })))
        by_case (inr a) = λ s e. (
            let f = covers_found p range s e in
            let i = in_region p range f.value f.passes in
            let chain = chain_of p form s f.value b f.inside i.block in
            let outer : In a.statement (around (placed p f.value)) = subst (λ l. In a.statement l) (sym (around_is p form f.value b i.block)) a.around_it in
            found_covers p q s a.statement (beyond p f.value a.statement (line_up p s) chain f.inside outer) (is_in p q a.statement a.in_it))

    is_least : IsSmallest p groups r.sites range
    is_least = record { range = is_range; holds = holds; least = least }

  pub is_smallest : (r : TRequirement) (x : TRegion) → smallest p groups r ≡ Some x → IsSmallest p groups r.sites x
  is_smallest r x e = by_block (common_block p r.sites) refl e
    where
      by_groups : (b : ℕ) (gs : List Group) → common_block p r.sites ≡ Some b → groups_in p groups b r.sites ≡ gs
          → option_map (λ g. record { id = 0; function = r.function; block = b; first = g.0; last = g.1; reasons = [] }) (spread gs) ≡ Some x → IsSmallest p groups r.sites x
      by_groups b [] is those f = cc
      by_groups b (g ∷ gs) is those f = subst (IsSmallest p groups r.sites) (same_Some (range r b g gs is those) x f) (is_least r b g gs is those)

      by_block : (o : Option ℕ) → common_block p r.sites ≡ o → option_and_then (range_in p groups r) o ≡ Some x → IsSmallest p groups r.sites x
      by_block None is f = cc
      by_block (Some b) is f = by_groups b (groups_in p groups b r.sites) is refl f
