-- The regions of the definition are regions: they stand in blocks of their functions, rise, and are apart.
use Rattle.std.proofs.Common.{◌≡◌, ◌<◌, ◌≤◌, ℕ, suc, ◌+◌, Bool, true, false, true≢false, List, [], ◌∷◌, length, map, Some, min, max, cond, refl, ap, sym, subst, ◌∙◌, inl, inr, arith}
use Rattle.std.specs.Prelude.{◌⊎◌, ◌&&◌, AllPairs, not, flat_map, filter, nat_eq, nat_le, option_to_list}
use Rattle.std.specs.List.{list_any}
use Rattle.std.proofs.lemmas.Bool.{eqb-true, eq-eqb, leb-true, leb-false, le-leb, and_parts, and_from, or_from, not-true, false_from_ne_true, cases_lt}
use Rattle.std.proofs.lemmas.Option.{same_Some}
use Rattle.oc_tree.specs.Tree.{TProgram}
use Rattle.oc_tree.specs.Numbers.{numbers_on}
use Rattle.oc_tree.specs.Form.{Numbered}
use Rattle.oc_tree.specs.Places.{block_of}
use Rattle.oc_tree.specs.Checked.{Group, same_block, IsChecked}
use Rattle.oc_tree.specs.Marked.{TRegion, IsRegion, AreRegions, IsMarked, is_in_region, covers}
use Rattle.oc_needs.specs.Policies.{policies}
use Rattle.oc_needs.specs.Requirements.{TRequirement, requirements}
use Rattle.oc_region.specs.Smallest.{smallest}
use Rattle.oc_region.specs.Regions.{shares, joined, joined_all, with_range, united, is_inside, outermost, with_region, by_first, reason, reasons, ranges, numbered, regions, marked}
use Rattle.oc_region.proofs.Elements.{Each, Pairs, each_weaker, each_both, each_filter, each_passes, each_cond, each_none, each_always, each_flat_map, pairs_filter, each_all, pairs_all}
use Rattle.oc_region.proofs.Owners.{block_function}
use Rattle.oc_region.proofs.Required.{Asks, asked, each_rising}
use Rattle.oc_region.proofs.Ranges.{IsRangeOf, same_block_is, smallest_sound}

-- ---- shared statements

pub record Shares (r q : TRegion) : Type 0 where
  pub block : r.block ≡ q.block
  pub before : r.first ≤ q.last
  pub behind : q.first ≤ r.last

shares_is : (r q : TRegion) → shares r q ≡ true → Shares r q
shares_is r q e =
    let parts = and_parts (nat_eq r.block q.block) (nat_le r.first q.last && nat_le q.first r.last) e in
    let ends = and_parts (nat_le r.first q.last) (nat_le q.first r.last) parts.1 in
    record { block = eqb-true r.block q.block parts.0; before = leb-true r.first q.last ends.0; behind = leb-true q.first r.last ends.1 }

is_shares : (r q : TRegion) → Shares r q → shares r q ≡ true
is_shares r q h = and_from (nat_eq r.block q.block) (nat_le r.first q.last && nat_le q.first r.last) (eq-eqb r.block q.block h.block)
    (and_from (nat_le r.first q.last) (nat_le q.first r.last) (le-leb r.first q.last h.before) (le-leb q.first r.last h.behind))

abbrev pub Apart : TRegion → TRegion → Type 0
Apart r q = Shares r q → ⊥

apart_from : (r q : TRegion) → shares r q ≡ false → Apart r q
apart_from r q e h = true≢false (sym (is_shares r q h) ∙ e)

-- a range that is apart from two ranges that share a statement is apart from both as one
apart_joined : (r q x : TRegion) → x.first ≤ x.last → Shares r q → Apart r x → Apart q x → Apart (joined r q) x
apart_joined r q x o s h k both = by_order (cases_lt r.last x.first) (cases_lt x.last r.first)
  where
    by_order : (r.last < x.first) ⊎ (x.first ≤ r.last) → (x.last < r.first) ⊎ (r.first ≤ x.last) → ⊥
    by_order (inl l) m = k (record {
      block = sym s.block ∙ both.block;
      before =
          (let a = both.before in let b = both.behind in let c = s.behind in let d = s.before in omega arith);
      behind = (let a = both.before in let b = both.behind in omega arith);
    })
    by_order (inr l) (inl m) = k (record {
      block = sym s.block ∙ both.block;
      before = (let a = both.before in let b = both.behind in omega arith);
      behind =
          (let a = both.before in let b = both.behind in let c = s.behind in let d = s.before in omega arith);
    })
    by_order (inr l) (inr m) = h (record { block = both.block; before = m; behind = l })

shares_joined : (r q x : TRegion) → Shares r x → Shares (joined r q) x
shares_joined r q x s = record { block = s.block; before = (let a = s.before in omega arith); behind = (let a = s.behind in omega arith) }

module _ (p : TProgram) where
  -- the range of two that share a statement
  joined_range : (r q : TRegion) → IsRangeOf p r → IsRangeOf p q → Shares r q → IsRangeOf p (joined r q)
  joined_range r q h k s = record {
    ordered = (let a = h.ordered in omega arith);
    first_there = first (cases_lt r.first q.first);
    last_there = last (cases_lt r.last q.last);
    function_there = h.function_there;
  }
    where
      first : (r.first < q.first) ⊎ (q.first ≤ r.first) → block_of p (min r.first q.first) ≡ Some r.block
      first (inl l) = let e : r.first ≡ min r.first q.first = omega arith in subst (λ n. block_of p n ≡ Some r.block) e h.first_there
      first (inr l) = let e : q.first ≡ min r.first q.first = omega arith in subst (λ n. block_of p n ≡ Some r.block) e (k.first_there ∙ ap Some (sym s.block))

      last : (r.last < q.last) ⊎ (q.last ≤ r.last) → block_of p (max r.last q.last) ≡ Some r.block
      last (inl l) = let e : q.last ≡ max r.last q.last = omega arith in subst (λ n. block_of p n ≡ Some r.block) e (k.last_there ∙ ap Some (sym s.block))
      last (inr l) = let e : r.last ≡ max r.last q.last = omega arith in subst (λ n. block_of p n ≡ Some r.block) e h.last_there

  all_range : (r : TRegion) (qs : List TRegion) → IsRangeOf p r → Each (λ q. IsRangeOf p q × Shares r q) qs → IsRangeOf p (joined_all r qs)
  all_range r [] h each = h
  all_range r (q ∷ qs) h each = all_range (joined r q) qs (joined_range r q h each.0.0 each.0.1)
      (each_weaker (λ x. IsRangeOf p x × Shares r x) (λ x. IsRangeOf p x × Shares (joined r q) x) (λ x k. (k.0, shares_joined r q x k.1)) qs each.1)

  all_apart : (r : TRegion) (qs : List TRegion) (x : TRegion) → x.first ≤ x.last → Each (Shares r) qs → Apart r x → Each (λ q. Apart q x) qs → Apart (joined_all r qs) x
  all_apart r [] x o s h k = h
  all_apart r (q ∷ qs) x o s h k = all_apart (joined r q) qs x o (each_weaker (Shares r) (Shares (joined r q)) (shares_joined r q) qs s.1) (apart_joined r q x o s.0 h k.0) k.1

-- ---- united ranges

apart_turned : (r q : TRegion) → Apart r q → Apart q r
apart_turned r q h s = h (record { block = sym s.block; before = s.behind; behind = s.before })

-- those that pass a test with those that don't
parted : (R : TRegion → TRegion → Type 0) → ((r q : TRegion) → R r q → R q r) → (t : TRegion → Bool) (rs : List TRegion) → Pairs R rs
    → Each (λ x. Each (λ q. R q x) (filter t rs)) (filter (λ q. not (t q)) rs)
parted R turned t [] h = tt
parted R turned t (y ∷ rs) h = by_test (t y) (parted R turned t rs h.1)
  where
    by_test : (b : Bool) → Each (λ x. Each (λ q. R q x) (filter t rs)) (filter (λ q. not (t q)) rs)
        → Each (λ x. Each (λ q. R q x) (cond b (y ∷ filter t rs) (filter t rs))) (cond (not b) (y ∷ filter (λ q. not (t q)) rs) (filter (λ q. not (t q)) rs))
    by_test true rest = each_both (λ x. R y x) (λ x. Each (λ q. R q x) (filter t rs)) (filter (λ q. not (t q)) rs) (each_filter (R y) (λ q. not (t q)) rs h.0) rest
    by_test false rest = (each_weaker (R y) (λ q. R q y) (λ q k. turned y q k) (filter t rs) (each_filter (R y) t rs h.0), rest)

module _ (p : TProgram) where
  -- ranges that are apart
  abbrev pub AreApart : List TRegion → Type 0
  AreApart rs = Each (IsRangeOf p) rs × Pairs Apart rs

  apart_with : (r : TRegion) (rs : List TRegion) → IsRangeOf p r → AreApart rs → AreApart (with_range r rs)
  apart_with r rs h are =
      let shared : List TRegion = filter (shares r) rs in
      let others : List TRegion = filter (λ q. not (shares r q)) rs in
      let share : Each (Shares r) shared = each_weaker (λ q. shares r q ≡ true) (Shares r) (shares_is r) shared (each_passes (shares r) rs) in
      let part : Each (Apart r) others = each_weaker (λ q. not (shares r q) ≡ true) (Apart r) (λ q e. apart_from r q (not-true (shares r q) e)) others (each_passes (λ q. not (shares r q)) rs) in
      let ranges_left : Each (IsRangeOf p) others = each_filter (IsRangeOf p) (λ q. not (shares r q)) rs are.0 in
      let all : IsRangeOf p (joined_all r shared) = all_range p r shared h (each_both (IsRangeOf p) (Shares r) shared (each_filter (IsRangeOf p) (shares r) rs are.0) share) in
      let clear : Each (λ x. (IsRangeOf p x × Apart r x) × Each (λ q. Apart q x) shared) others =
      each_both (λ x. IsRangeOf p x × Apart r x) (λ x. Each (λ q. Apart q x) shared) others (each_both (IsRangeOf p) (Apart r) others ranges_left part)
      (parted Apart apart_turned (shares r) rs are.1) in
      let first : Each (Apart (joined_all r shared)) others =
      each_weaker (λ x. (IsRangeOf p x × Apart r x) × Each (λ q. Apart q x) shared) (Apart (joined_all r shared)) (λ x k. all_apart p r shared x k.0.0.ordered share k.0.1 k.1) others clear in
      ((all, ranges_left), (first, pairs_filter Apart (λ q. not (shares r q)) rs are.1))

  united_apart : (rs : List TRegion) → Each (IsRangeOf p) rs → AreApart (united rs)
  united_apart [] h = (tt, tt)
  united_apart (r ∷ rs) h = apart_with r (united rs) h.0 (united_apart rs h.1)

  -- ---- none inside another

  abbrev Outside : TRegion → TRegion → Type 0
  Outside r q = is_inside p r q ≡ false

  both_ways_in : (R : TRegion → TRegion → Type 0) (xs : List TRegion) → Each (λ r. Each (R r) xs) xs → Pairs (λ r q. R r q × R q r) xs
  both_ways_in R [] h = tt
  both_ways_in R (x ∷ xs) h =
      let heads : Each (λ r. R r x) xs = each_weaker (λ r. Each (R r) (x ∷ xs)) (λ r. R r x) (λ r k. k.0) xs h.1 in
      let tails : Each (λ r. Each (R r) xs) xs = each_weaker (λ r. Each (R r) (x ∷ xs)) (λ r. Each (R r) xs) (λ r k. k.1) xs h.1 in
      (each_both (R x) (λ q. R q x) xs h.0.1 heads, both_ways_in R xs tails)

  outside_outermost : (rs : List TRegion) → Pairs (λ r q. Outside r q × Outside q r) (outermost p rs)
  outside_outermost rs =
      let t : TRegion → Bool = λ r. not (list_any (is_inside p r) rs) in
      let kept : List TRegion = outermost p rs in
      let none : Each (λ r. Each (Outside r) kept) kept =
      each_weaker (λ r. t r ≡ true) (λ r. Each (Outside r) kept) (λ r e. each_filter (Outside r) t rs (each_none (is_inside p r) rs (not-true (list_any (is_inside p r) rs) e)))
      kept (each_passes t rs) in
      both_ways_in Outside kept none

  -- ---- as regions say it

  abbrev Clear : TRegion → TRegion → Type 0
  Clear r q = (covers p r q.first ≡ false) × (covers p q r.first ≡ false)

  -- the first statement of a range that is apart isn't directly in a range
  not_in : (r q : TRegion) → IsRangeOf p q → Apart r q → is_in_region p r q.first ≡ false
  not_in r q h k = false_from_ne_true (is_in_region p r q.first) (λ e. (
      let parts = and_parts (same_block (block_of p q.first) (Some r.block)) (nat_le r.first q.first && nat_le q.first r.last) e in
      let ends = and_parts (nat_le r.first q.first) (nat_le q.first r.last) parts.1 in
      let block : q.block ≡ r.block = same_Some q.block r.block (sym h.first_there ∙ same_block_is (block_of p q.first) r.block parts.0) in
      let before = leb-true r.first q.first ends.0 in
      k (record { block = sym block; before = (let o = h.ordered in omega (arith, before)); behind = leb-true q.first r.last ends.1 })))

  clear_of : (r q : TRegion) → IsRangeOf p r → IsRangeOf p q → Apart r q → Outside r q × Outside q r → Clear r q
  clear_of r q h k a o =
      (or_from (is_in_region p r q.first) (is_inside p q r) (not_in r q k a) o.1, or_from (is_in_region p q r.first) (is_inside p r q) (not_in q r h (apart_turned r q a)) o.0)

  -- ---- in order

  abbrev UpTo : TRegion → TRegion → Type 0
  UpTo r q = r.first ≤ q.first

  each_with_region : (P : TRegion → Type 0) (r : TRegion) (rs : List TRegion) → P r → Each P rs → Each P (with_region r rs)
  each_with_region P r [] h each = (h, tt)
  each_with_region P r (q ∷ qs) h each = by_test (nat_le r.first q.first) (each_with_region P r qs h each.1)
    where
      by_test : (b : Bool) → Each P (with_region r qs) → Each P (cond b (r ∷ (q ∷ qs)) (q ∷ with_region r qs))
      by_test true rest = (h, each)
      by_test false rest = (each.0, rest)

  pairs_with_region : (R : TRegion → TRegion → Type 0) → ((r q : TRegion) → R r q → R q r) → (r : TRegion) (rs : List TRegion) → Each (R r) rs → Pairs R rs → Pairs R (with_region r rs)
  pairs_with_region R turned r [] h pairs = (tt, tt)
  pairs_with_region R turned r (q ∷ qs) h pairs = by_test (nat_le r.first q.first) (pairs_with_region R turned r qs h.1 pairs.1)
    where
      by_test : (b : Bool) → Pairs R (with_region r qs) → Pairs R (cond b (r ∷ (q ∷ qs)) (q ∷ with_region r qs))
      by_test true rest = (h, pairs)
      by_test false rest = (each_with_region (R q) r qs (turned r q h.0) pairs.0, rest)

  sorted_with_region : (r : TRegion) (rs : List TRegion) → Pairs UpTo rs → Pairs UpTo (with_region r rs)
  sorted_with_region r [] pairs = (tt, tt)
  sorted_with_region r (q ∷ qs) pairs = by_test (nat_le r.first q.first) refl (sorted_with_region r qs pairs.1)
    where
      by_test : (b : Bool) → nat_le r.first q.first ≡ b → Pairs UpTo (with_region r qs) → Pairs UpTo (cond b (r ∷ (q ∷ qs)) (q ∷ with_region r qs))
      by_test true is rest = let l = leb-true r.first q.first is in ((l, each_weaker (UpTo q) (UpTo r) (λ x k. omega (arith, l, k)) qs pairs.0), pairs)
      by_test false is rest = let l = leb-false r.first q.first is in (each_with_region (UpTo q) r qs (omega (arith, l)) pairs.0, rest)

  each_by_first : (P : TRegion → Type 0) (rs : List TRegion) → Each P rs → Each P (by_first rs)
  each_by_first P [] h = tt
  each_by_first P (r ∷ rs) h = each_with_region P r (by_first rs) h.0 (each_by_first P rs h.1)

  pairs_by_first : (R : TRegion → TRegion → Type 0) → ((r q : TRegion) → R r q → R q r) → (rs : List TRegion) → Pairs R rs → Pairs R (by_first rs)
  pairs_by_first R turned [] h = tt
  pairs_by_first R turned (r ∷ rs) h = pairs_with_region R turned r (by_first rs) (each_by_first (R r) rs h.0) (pairs_by_first R turned rs h.1)

  sorted_by_first : (rs : List TRegion) → Pairs UpTo (by_first rs)
  sorted_by_first [] = tt
  sorted_by_first (r ∷ rs) = sorted_with_region r (by_first rs) (sorted_by_first rs)

  -- what regions keep of each other
  abbrev pub Before : TRegion → TRegion → Type 0
  Before r q = (r.first < q.first) × Clear r q

  before_of : (r q : TRegion) → IsRangeOf p r → IsRangeOf p q → UpTo r q → Apart r q → Outside r q × Outside q r → Before r q
  before_of r q h k l a o = (strictly (cases_lt r.first q.first), clear_of r q h k a o)
    where
      strictly : (r.first < q.first) ⊎ (q.first ≤ r.first) → r.first < q.first
      strictly (inl m) = m
      strictly (inr m) =
          let same : r.first ≡ q.first = omega (arith, l, m) in
          let block : r.block ≡ q.block = same_Some r.block q.block (sym h.first_there ∙ ap (block_of p) same ∙ k.first_there) in
          absurd (a (record { block = block; before = (let o = k.ordered in omega (arith, l)); behind = (let o = h.ordered in omega (arith, m)) }))

  pairs_before : (rs : List TRegion) → Each (IsRangeOf p) rs → Pairs UpTo rs → Pairs Apart rs → Pairs (λ r q. Outside r q × Outside q r) rs → Pairs Before rs
  pairs_before [] h l a o = tt
  pairs_before (r ∷ rs) h l a o =
      let one : Each (λ q. (IsRangeOf p q × UpTo r q) × (Apart r q × (Outside r q × Outside q r))) rs =
      each_both (λ q. IsRangeOf p q × UpTo r q) (λ q. Apart r q × (Outside r q × Outside q r)) rs (each_both (IsRangeOf p) (UpTo r) rs h.1 l.0)
      (each_both (Apart r) (λ q. Outside r q × Outside q r) rs a.0 o.0) in
      (each_weaker (λ q. (IsRangeOf p q × UpTo r q) × (Apart r q × (Outside r q × Outside q r))) (Before r) (λ q k. before_of r q h.0 k.0.0 k.0.1 k.1.0 k.1.1) rs one, pairs_before rs h.1 l.1 a.1 o.1)

  -- ranges as they are numbered
  abbrev pub InOrder : List TRegion → Type 0
  InOrder rs = Each (IsRangeOf p) rs × Pairs Before rs

  pub ordered_regions : (rs : List TRegion) → Each (IsRangeOf p) rs → InOrder (by_first (outermost p (united rs)))
  ordered_regions rs h =
      let are : AreApart (united rs) = united_apart rs h in
      let t : TRegion → Bool = λ r. not (list_any (is_inside p r) (united rs)) in
      let kept : List TRegion = outermost p (united rs) in
      let each : Each (IsRangeOf p) (by_first kept) = each_by_first (IsRangeOf p) kept (each_filter (IsRangeOf p) t (united rs) are.0) in
      let apart : Pairs Apart (by_first kept) = pairs_by_first Apart apart_turned kept (pairs_filter Apart t (united rs) are.1) in
      let outside : Pairs (λ r q. Outside r q × Outside q r) (by_first kept) = pairs_by_first (λ r q. Outside r q × Outside q r) (λ r q k. (k.1, k.0)) kept (outside_outermost (united rs)) in
      (each, pairs_before (by_first kept) each (sorted_by_first kept) apart outside)

  -- ---- numbered, with reasons

  module _ (groups : List Group) (qs : List TRequirement) where
    each_numbered : (r : TRegion) (i : ℕ) (rs : List TRegion) → Each (Before r) rs → Each (Before r) (numbered p groups qs i rs)
    each_numbered r i [] h = tt
    each_numbered r i (q ∷ rs) h = (h.0, each_numbered r (i + 1) rs h.1)

    pairs_numbered : (i : ℕ) (rs : List TRegion) → Pairs Before rs → Pairs Before (numbered p groups qs i rs)
    pairs_numbered i [] h = tt
    pairs_numbered i (r ∷ rs) h = (each_numbered r (i + 1) rs h.0, pairs_numbered (i + 1) rs h.1)

    ids_numbered : (i : ℕ) (rs : List TRegion) → map (λ r. r.id) (numbered p groups qs i rs) ≡ numbers_on i (length (numbered p groups qs i rs))
    ids_numbered i [] = refl
    ids_numbered i (r ∷ rs) = let e : i + 1 ≡ suc i = omega arith in ap (λ l. i ∷ l) (ids_numbered (i + 1) rs ∙ ap (λ j. numbers_on j (length (numbered p groups qs (i + 1) rs))) e)

    reasons_below : (n : ℕ) (r : TRegion) → Each (Asks p n) qs → Each (λ k. k < n) (reasons p groups qs r)
    reasons_below n r asks =
        each_rising (λ k. k < n) (flat_map (reason p groups r) qs)
        (each_flat_map (Asks p n) (λ k. k < n) (reason p groups r)
        (λ q a. each_flat_map (λ x. Unit {0}) (λ k. k < n) (λ range. cond (covers p r range.first) (q.policy ∷ []) [])
        (λ x _. each_cond (λ k. k < n) (covers p r x.first) (q.policy ∷ []) [] (λ e. (a.policy, tt)) (λ e. tt)) (option_to_list (smallest p groups q))
        (each_always (λ x. Unit {0}) (λ x. tt) (option_to_list (smallest p groups q)))) qs asks)

    regions_numbered : (n i : ℕ) (rs : List TRegion) → Numbered p → Each (Asks p n) qs → Each (IsRangeOf p) rs → Each (IsRegion p n) (numbered p groups qs i rs)
    regions_numbered n i [] form asks h = tt
    regions_numbered n i (r ∷ rs) form asks h = (
      record {
        ordered = h.0.ordered;
        first_there = h.0.first_there;
        last_there = h.0.last_there;
        function_there = block_function p form.statements form.blocks r.first r.block h.0.first_there ∙ h.0.function_there;
        reasons_there = each_all (λ k. k < n) (reasons p groups qs r) (reasons_below n r asks);
      },
      regions_numbered n (i + 1) rs form asks h.1,
    )

  -- ---- the regions of a program

  pub are_regions : (groups : List Group) → IsChecked p groups → AreRegions p (length (policies p)) (regions p groups)
  are_regions groups checked =
      let qs : List TRequirement = requirements p in
      let n : ℕ = length (policies p) in
      let form : Numbered p = checked.form.numbered in
      let ranged : Each (IsRangeOf p) (ranges p groups qs) =
      each_flat_map (Asks p n) (IsRangeOf p) (λ q. option_to_list (smallest p groups q)) (λ q a. smallest_sound p groups checked.grouped form n q a) qs (asked p) in
      let order : InOrder (by_first (outermost p (united (ranges p groups qs)))) = ordered_regions (ranges p groups qs) ranged in
      let rs : List TRegion = by_first (outermost p (united (ranges p groups qs))) in
      let all : AllPairs Before (regions p groups) = pairs_all Before (regions p groups) (pairs_numbered groups qs 1 rs order.1) in
      record {
        each = each_all (IsRegion p n) (regions p groups) (regions_numbered groups qs n 1 rs form (asked p) order.0);
        numbered = ids_numbered groups qs 1 rs;
        rising = λ i j d l m. (all i j d l m).0;
        apart = λ i j d l m. (all i j d l m).1;
      }

  pub is_marked : (groups : List Group) → IsChecked p groups → IsMarked (marked p groups)
  is_marked groups checked = record { checked = checked; regions = are_regions groups checked }
