-- The inferred regions cover what is required: each requirement's smallest range lies in a region of its function.
use Rattle.std.proofs.Common.{◌≡◌, ◌<◌, ◌≤◌, ℕ, zero, suc, ◌+◌, Bool, true, false, true≢false, List, [], ◌∷◌, ◌++◌, length, Option, Some, None, min, cond, refl, ap, sym, subst, ◌∙◌, inl, inr, arith}
use Rattle.std.specs.Prelude.{◌⊎◌, ◌&&◌, not, flat_map, filter, nat_eq, nat_le, option_to_list}
use Rattle.std.specs.List.{list_any, list_all}
use Rattle.std.proofs.lemmas.Bool.{eqb-true, leb-true, le-leb, and_parts, and_from, cases_lt}
use Rattle.std.proofs.lemmas.Option.{same_Some}
use Rattle.oc_tree.specs.Tree.{TProgram}
use Rattle.oc_tree.specs.Form.{Numbered}
use Rattle.oc_tree.specs.Places.{Placed, placed, block_of}
use Rattle.oc_tree.specs.Checked.{Group, same_block, IsChecked}
use Rattle.oc_tree.specs.Marked.{TRegion, around, is_in_region, covers, function_of}
use Rattle.oc_tree.specs.Members.{IsOf}
use Rattle.oc_needs.specs.Policies.{policies}
use Rattle.oc_needs.specs.Requirements.{TRequirement, requirements}
use Rattle.oc_region.specs.Smallest.{line_up, smallest, LiesIn}
use Rattle.oc_region.specs.Law.{HasSmallest}
use Rattle.oc_region.specs.Regions.{shares, joined, joined_all, with_range, united, is_inside, outermost, with_region, by_first, reasons, ranges, numbered, regions, marked}
use Rattle.oc_region.proofs.Elements.{Each, each_weaker, each_both, each_filter, each_passes, each_flat_map, all_each}
use Rattle.oc_region.proofs.Owners.{statement_function, block_function, around_function}
use Rattle.oc_region.proofs.Required.{Own, Asks, IsSome, asked}
use Rattle.oc_region.proofs.Ranges.{IsRangeOf, same_block_is, smallest_sound}
use Rattle.oc_region.proofs.Chains.{Chain, line_chain}
use Rattle.oc_region.proofs.Least.{In, any_found, in_any, each_in, all_passing, passing_all, shorter, beyond, same_around}
use Rattle.oc_region.proofs.Exists.{each_smallest}
use Rattle.oc_region.proofs.Regions.{ordered_regions, is_marked}
use Rattle.oc_timely.specs.Covering.{IsMet, IsCovering}
use Rattle.oc_honest.specs.Timely.{RunsAreTimely}
use Rattle.oc_timely.proofs.Timely.{all_timely}

-- ---- elements

module _ {A : Type 0} where
  in_is : (x : A) (xs : List A) → In x xs → IsOf x xs
  in_is x [] h = h
  in_is x (y ∷ ys) (inl s) = inl s
  in_is x (y ∷ ys) (inr h) = inr (in_is x ys h)

  is_in : (x : A) (xs : List A) → IsOf x xs → In x xs
  is_in x [] h = h
  is_in x (y ∷ ys) (inl s) = inl s
  is_in x (y ∷ ys) (inr h) = inr (is_in x ys h)

  in_left : (x : A) (xs ys : List A) → In x xs → In x (xs ++ ys)
  in_left x [] ys h = absurd h
  in_left x (z ∷ xs) ys (inl s) = inl s
  in_left x (z ∷ xs) ys (inr h) = inr (in_left x xs ys h)

  in_right : (x : A) (xs ys : List A) → In x ys → In x (xs ++ ys)
  in_right x [] ys h = h
  in_right x (z ∷ xs) ys h = inr (in_right x xs ys h)

  in_filter : (t : A → Bool) (x : A) (xs : List A) → In x xs → t x ≡ true → In x (filter t xs)
  in_filter t x [] h e = h
  in_filter t x (y ∷ ys) h e = by_test (t y) refl h (λ i. in_filter t x ys i e)
    where
      by_test : (b : Bool) → t y ≡ b → In x (y ∷ ys) → (In x ys → In x (filter t ys)) → In x (cond b (y ∷ filter t ys) (filter t ys))
      by_test true is (inl s) rest = inl s
      by_test true is (inr i) rest = inr (rest i)
      by_test false is (inl s) rest = absurd (true≢false (sym e ∙ ap t s ∙ is))
      by_test false is (inr i) rest = rest i

  any_weaker : (t u : A → Bool) → ((x : A) → t x ≡ true → u x ≡ true) → (xs : List A) → list_any t xs ≡ true → list_any u xs ≡ true
  any_weaker t u f xs e = let a = any_found t xs e in in_any u a.value xs a.inside (f a.value a.passes)

in_flat : {A B : Type 0} (f : A → List B) (x : A) (y : B) (xs : List A) → In x xs → In y (f x) → In y (flat_map f xs)
in_flat f x y [] h i = absurd h
in_flat f x y (z ∷ xs) (inl s) i = in_left y (f z) (flat_map f xs) (subst (λ w. In y (f w)) s i)
in_flat f x y (z ∷ xs) (inr h) i = in_right y (f z) (flat_map f xs) (in_flat f x y xs h i)

-- ---- ranges that hold others of their block

record Spans (r q : TRegion) : Type 0 where
  pub block : r.block ≡ q.block
  pub from : q.first ≤ r.first
  pub upto : r.last ≤ q.last

spans_on : (r q s : TRegion) → Spans r q → Spans q s → Spans r s
spans_on r q s h k = record { block = h.block ∙ k.block; from = (let a = h.from in let b = k.from in omega (arith, a, b)); upto = (let a = h.upto in let b = k.upto in omega (arith, a, b)) }

spans_itself : (r : TRegion) → Spans r r
spans_itself r = record { block = refl; from = omega arith; upto = omega arith }

record Spanned (r : TRegion) (rs : List TRegion) : Type 0 where
  pub wide : TRegion
  pub inside : In wide rs
  pub spans : Spans r wide

first_joined : (r q : TRegion) → Spans r (joined r q)
first_joined r q = record { block = refl; from = omega arith; upto = omega arith }

second_joined : (r q : TRegion) → r.block ≡ q.block → Spans q (joined r q)
second_joined r q e = record { block = sym e; from = omega arith; upto = omega arith }

abbrev Beside : TRegion → TRegion → Type 0
Beside r q = r.block ≡ q.block

all_first : (r : TRegion) (qs : List TRegion) → Spans r (joined_all r qs)
all_first r [] = spans_itself r
all_first r (q ∷ qs) = spans_on r (joined r q) (joined_all (joined r q) qs) (first_joined r q) (all_first (joined r q) qs)

all_others : (r : TRegion) (qs : List TRegion) → Each (Beside r) qs → (x : TRegion) → In x qs → Spans x (joined_all r qs)
all_others r [] each x h = absurd h
all_others r (q ∷ qs) each x (inl s) = subst (λ y. Spans y (joined_all (joined r q) qs)) (sym s)
    (spans_on q (joined r q) (joined_all (joined r q) qs) (second_joined r q each.0) (all_first (joined r q) qs))
all_others r (q ∷ qs) each x (inr h) = all_others (joined r q) qs each.1 x h

shared_beside : (r : TRegion) (rs : List TRegion) → Each (Beside r) (filter (shares r) rs)
shared_beside r rs = each_weaker (λ q. shares r q ≡ true) (Beside r)
    (λ q e. eqb-true r.block q.block (and_parts (nat_eq r.block q.block) (nat_le r.first q.last && nat_le q.first r.last) e).0) (filter (shares r) rs) (each_passes (shares r) rs)

with_spanned : (r : TRegion) (rs : List TRegion) (x : TRegion) → In x (r ∷ rs) → Spanned x (with_range r rs)
with_spanned r rs x (inl s) = record {
  wide = joined_all r (filter (shares r) rs);
  inside = inl refl;
  spans =
      subst (λ y. Spans y (joined_all r (filter (shares r) rs))) (sym s) (all_first r (filter (shares r) rs));
}
with_spanned r rs x (inr h) = by_test (shares r x) refl
  where
    by_test : (b : Bool) → shares r x ≡ b → Spanned x (with_range r rs)
    by_test true is = record { wide = joined_all r (filter (shares r) rs); inside = inl refl; spans = all_others r (filter (shares r) rs) (shared_beside r rs) x (in_filter (shares r) x rs h is) }
    by_test false is = record { wide = x; inside = inr (in_filter (λ q. not (shares r q)) x rs h (ap not is)); spans = spans_itself x }

united_spanned : (rs : List TRegion) (x : TRegion) → In x rs → Spanned x (united rs)
united_spanned [] x h = absurd h
united_spanned (r ∷ rs) x (inl s) = with_spanned r (united rs) x (inl s)
united_spanned (r ∷ rs) x (inr h) =
    let a = united_spanned rs x h in
    let b = with_spanned r (united rs) a.wide (inr a.inside) in
    record { wide = b.wide; inside = b.inside; spans = spans_on x a.wide b.wide a.spans b.spans }

module _ (p : TProgram) where
  -- ---- ranges begin in their blocks

  abbrev Starts : TRegion → Type 0
  Starts r = block_of p r.first ≡ Some r.block

  joined_starts : (r q : TRegion) → Starts r → Starts q → Beside r q → Starts (joined r q)
  joined_starts r q h k e = by_order (cases_lt r.first q.first)
    where
      by_order : (r.first < q.first) ⊎ (q.first ≤ r.first) → block_of p (min r.first q.first) ≡ Some r.block
      by_order (inl l) = let same : r.first ≡ min r.first q.first = omega (arith, l) in subst (λ n. block_of p n ≡ Some r.block) same h
      by_order (inr l) = let same : q.first ≡ min r.first q.first = omega (arith, l) in subst (λ n. block_of p n ≡ Some r.block) same (k ∙ ap Some (sym e))

  all_starts : (r : TRegion) (qs : List TRegion) → Starts r → Each (λ q. Starts q × Beside r q) qs → Starts (joined_all r qs)
  all_starts r [] h each = h
  all_starts r (q ∷ qs) h each = all_starts (joined r q) qs (joined_starts r q h each.0.0 each.0.1) each.1

  united_starts : (rs : List TRegion) → Each Starts rs → Each Starts (united rs)
  united_starts [] h = tt
  united_starts (r ∷ rs) h =
      let rest = united_starts rs h.1 in (
        all_starts r (filter (shares r) (united rs)) h.0 (each_both Starts (Beside r) (filter (shares r) (united rs)) (each_filter Starts (shares r) (united rs) rest) (shared_beside r (united rs))),
        each_filter Starts (λ q. not (shares r q)) (united rs) rest,
      )

  -- ---- what lies in them

  in_block_of : (r : TRegion) (t : ℕ) → is_in_region p r t ≡ true → block_of p t ≡ Some r.block
  in_block_of r t e = same_block_is (block_of p t) r.block (and_parts (same_block (block_of p t) (Some r.block)) (nat_le r.first t && nat_le t r.last) e).0

  in_span : (r q : TRegion) → Spans r q → (t : ℕ) → is_in_region p r t ≡ true → is_in_region p q t ≡ true
  in_span r q h t e =
      let parts = and_parts (same_block (block_of p t) (Some r.block)) (nat_le r.first t && nat_le t r.last) e in
      let ends = and_parts (nat_le r.first t) (nat_le t r.last) parts.1 in
      let low = leb-true r.first t ends.0 in
      let high = leb-true t r.last ends.1 in
      let from = h.from in
      let upto = h.upto in
      and_from (same_block (block_of p t) (Some q.block)) (nat_le q.first t && nat_le t q.last) (subst (λ b. same_block (block_of p t) (Some b) ≡ true) h.block parts.0)
      (and_from (nat_le q.first t) (nat_le t q.last) (le-leb q.first t (omega (arith, low, from))) (le-leb t q.last (omega (arith, high, upto))))

  span_lies : (r q : TRegion) → Spans r q → LiesIn p r q
  span_lies r q h s e = any_weaker (is_in_region p r) (is_in_region p q) (in_span r q h) (line_up p s) e

  -- ---- the outermost ones hold the others

  around_chained : Numbered p → (s : ℕ) → Chain p (around (placed p s))
  around_chained form s = by_place (placed p s) refl
    where
      by_place : (o : Option Placed) → placed p s ≡ o → Chain p (around o)
      by_place None is = tt
      by_place (Some a) is = subst (λ o. Chain p (around o)) is (line_chain p form s a is).1

  beyond_line : Numbered p → (s w u : ℕ) → In w (line_up p s) → In u (around (placed p w)) → In u (line_up p s)
  beyond_line form s w u (inl e) i = inr (subst (λ n. In u (around (placed p n))) e i)
  beyond_line form s w u (inr h) i = inr (beyond p w u (around (placed p s)) (around_chained form s) h i)

  module _ (form : Numbered p) where
    -- what lies in a range lies in one in whose statement that range stands
    inside_lies : (r q : TRegion) (t : ℕ) → Starts r → In t (around (placed p r.first)) → is_in_region p q t ≡ true → LiesIn p r q
    inside_lies r q t h i e s k =
        let u = any_found (is_in_region p r) (line_up p s) k in
        let same = same_around p form r.first u.value r.block h (in_block_of r u.value u.passes) in
        in_any (is_in_region p q) t (line_up p s) (beyond_line form s u.value t u.inside (subst (λ l. In t l) same i)) e

    record Outer (r : TRegion) (rs : List TRegion) : Type 0 where
      pub outer : TRegion
      pub inside : In outer (outermost p rs)
      pub lies : LiesIn p r outer

    outer_of : (n : ℕ) (rs : List TRegion) → Each Starts rs → (r : TRegion) → In r rs → length (around (placed p r.first)) < n → Outer r rs
    outer_of zero rs starts r h l = absurd (omega (arith, l))
    outer_of (suc n) rs starts r h l = by_test (list_any (is_inside p r) rs) refl (outer_of n rs starts)
      where
        by_test : (b : Bool) → list_any (is_inside p r) rs ≡ b → ((q : TRegion) → In q rs → length (around (placed p q.first)) < n → Outer q rs) → Outer r rs
        by_test false is rest = record { outer = r; inside = in_filter (λ q. not (list_any (is_inside p q) rs)) r rs h (ap not is); lies = λ s e. e }
        by_test true is rest =
            let f = any_found (is_inside p r) rs is in
            let g = any_found (is_in_region p f.value) (around (placed p r.first)) f.passes in
            let short = shorter p g.value (around (placed p r.first)) (around_chained form r.first) g.inside in
            let same = ap length (same_around p form g.value f.value.first f.value.block (in_block_of f.value g.value g.passes) (each_in Starts f.value rs f.inside starts)) in
            let o = rest f.value f.inside (omega (arith, short, same, l)) in
            let one = inside_lies r f.value g.value (each_in Starts r rs h starts) g.inside g.passes in
            record { outer = o.outer; inside = o.inside; lies = λ s e. o.lies s (one s e) }

  -- ---- in order, with numbers

  in_with_region : (x r : TRegion) (rs : List TRegion) → In x (r ∷ rs) → In x (with_region r rs)
  in_with_region x r [] h = h
  in_with_region x r (q ∷ qs) h = by_test (nat_le r.first q.first) h (in_with_region x r qs)
    where
      by_test : (b : Bool) → In x (r ∷ (q ∷ qs)) → (In x (r ∷ qs) → In x (with_region r qs)) → In x (cond b (r ∷ (q ∷ qs)) (q ∷ with_region r qs))
      by_test true i rest = i
      by_test false (inl s) rest = inr (rest (inl s))
      by_test false (inr (inl s)) rest = inl s
      by_test false (inr (inr i)) rest = inr (rest (inr i))

  in_by_first : (x : TRegion) (rs : List TRegion) → In x rs → In x (by_first rs)
  in_by_first x [] h = h
  in_by_first x (r ∷ rs) (inl s) = in_with_region x r (by_first rs) (inl s)
  in_by_first x (r ∷ rs) (inr h) = in_with_region x r (by_first rs) (inr (in_by_first x rs h))

  module _ (groups : List Group) where
    record Numbering (x : TRegion) (rs : List TRegion) : Type 0 where
      pub region : TRegion
      pub inside : In region rs
      pub function : region.function ≡ x.function
      pub spans : Spans x region

    in_numbered : (qs : List TRequirement) (x : TRegion) (i : ℕ) (rs : List TRegion) → In x rs → Numbering x (numbered p groups qs i rs)
    in_numbered qs x i [] h = absurd h
    in_numbered qs x i (r ∷ rs) (inl s) =
        let q : TRegion = record r { id = i; reasons = reasons p groups qs r } in
        record { region = q; inside = inl refl; function = ap (λ y. y.function) (sym s); spans = subst (λ y. Spans y q) (sym s) (record { block = refl; from = omega arith; upto = omega arith }) }
    in_numbered qs x i (r ∷ rs) (inr h) =
        let n = in_numbered qs x (i + 1) rs h in
        record { region = n.region; inside = inr n.inside; function = n.function; spans = n.spans }

    module _ (checked : IsChecked p groups) where
      -- a range that holds statements of a function lies in it
      function_along : (x : TRegion) (k : ℕ) (ss : List ℕ) → IsRangeOf p x → IsSome ss → Each (Own p k) ss → Each (λ s. covers p x s ≡ true) ss → x.function ≡ k
      function_along x k [] h some own held = cc some
      function_along x k (s ∷ ss) h some own held =
          let f = any_found (is_in_region p x) (line_up p s) held.0 in
          let stands = each_in (λ t. function_of p t ≡ Some k) f.value (line_up p s) f.inside (
            statement_function p checked.form.numbered.statements checked.form.numbered.blocks k s own.0,
            around_function p checked.form.numbered.statements
                checked.form.numbered.blocks k s own.0,
          ) in
          same_Some x.function k (sym h.function_there ∙ sym (block_function p checked.form.numbered.statements checked.form.numbered.blocks f.value x.block (in_block_of x f.value f.passes)) ∙ stands)

      all_ranges : Each (IsRangeOf p) (ranges p groups (requirements p))
      all_ranges = each_flat_map (Asks p (length (policies p))) (IsRangeOf p) (λ q. option_to_list (smallest p groups q))
          (λ q a. smallest_sound p groups checked.grouped checked.form.numbered (length (policies p)) q a) (requirements p) (asked p)

      lies_holds : (r q : TRegion) → LiesIn p r q → (ss : List ℕ) → list_all (covers p r) ss ≡ true → Each (λ s. covers p q s ≡ true) ss
      lies_holds r q f ss e = each_weaker (λ s. covers p r s ≡ true) (λ s. covers p q s ≡ true) f ss (all_passing (covers p r) ss e)

      -- a range that holds the sites of a requirement is met by what it becomes
      met_by : (r : TRequirement) → Asks p (length (policies p)) r → (x : TRegion) → IsRangeOf p x → Each (λ s. covers p x s ≡ true) r.sites → Numbering x (regions p groups)
          → IsMet (marked p groups) r
      met_by r asks x ranged held n = record {
        region = n.region;
        one = in_is n.region (regions p groups) n.inside;
        there = n.function ∙ function_along x r.function r.sites ranged asks.some asks.sites held;
        covered = passing_all (covers p n.region) r.sites (each_weaker (λ s. covers p x s ≡ true) (λ s. covers p n.region s ≡ true) (λ s e. span_lies x n.region n.spans s e) r.sites held);
      }

      pub is_met : (r : TRequirement) → IsOf r (requirements p) → IsMet (marked p groups) r
      is_met r one =
          let qs : List TRequirement = requirements p in
          let i = is_in r qs one in
          let has = each_in (HasSmallest p groups) r qs i (all_each (HasSmallest p groups) qs (each_smallest p groups checked)) in
          let all : List TRegion = ranges p groups qs in
          let there : In has.range all = in_flat (λ q. option_to_list (smallest p groups q)) r has.range qs i (subst (λ o. In has.range (option_to_list o)) (sym has.found) (inl refl)) in
          let wide = united_spanned all has.range there in
          let starts = united_starts all (each_weaker (IsRangeOf p) Starts (λ x h. h.first_there) all all_ranges) in
          let out = outer_of checked.form.numbered (suc (length (around (placed p wide.wide.first)))) (united all) starts wide.wide wide.inside (omega arith) in
          let sorted : List TRegion = by_first (outermost p (united all)) in
          let here : In out.outer sorted = in_by_first out.outer (outermost p (united all)) out.inside in
          let lies : LiesIn p has.range out.outer = λ s e. out.lies s (span_lies has.range wide.wide wide.spans s e) in
          met_by r (each_in (Asks p (length (policies p))) r qs i (asked p)) out.outer (each_in (IsRangeOf p) out.outer sorted here (ordered_regions p all all_ranges).0)
          (lies_holds has.range out.outer lies r.sites has.smallest.holds) (in_numbered qs out.outer 1 sorted here)

      pub is_covering : IsCovering (marked p groups)
      is_covering = record { guarded = λ f. false; guarding = record { main = λ f e. refl; calls = λ f a c i e g. absurd (true≢false (sym g)) }; met = λ r i. inr (is_met r i) }

-- so runs with the inferred regions are timely
pub runs_timely : (p : TProgram) (groups : List Group) → IsChecked p groups → RunsAreTimely (marked p groups)
runs_timely p groups checked = all_timely (marked p groups) (is_marked p groups checked) (is_covering p groups checked)
