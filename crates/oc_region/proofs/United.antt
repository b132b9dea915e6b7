-- Ranges that are united one by one are united.
use Rattle.std.proofs.Common.{◌≡◌, ◌<◌, ◌≤◌, Bool, true, false, true≢false, List, [], ◌∷◌, cond, refl, ap, sym, subst, ◌∙◌, inl, inr, arith}
use Rattle.std.specs.Prelude.{◌⊎◌, ◌&&◌, not, filter, nat_eq, nat_le}
use Rattle.std.proofs.lemmas.Bool.{eqb-true, eq-eqb, leb-true, le-leb, and_parts, and_from, cases_lt, not-true}
use Rattle.oc_tree.specs.Marked.{TRegion}
use Rattle.oc_tree.specs.Members.{IsOf}
use Rattle.oc_region.specs.Regions.{shares, joined, joined_all, with_range, united}
use Rattle.oc_region.specs.United.{AreRanges, AreApart, IsPart, LieIn, AreUnited}

-- ---- members that pass a test

module _ (t : TRegion → Bool) where
  of_filter : (x : TRegion) (xs : List TRegion) → IsOf x (filter t xs) → IsOf x xs × (t x ≡ true)
  of_filter x [] i = absurd i
  of_filter x (y ∷ xs) i = by (t y) refl i (of_filter x xs)
    where
      by : (b : Bool) → t y ≡ b → IsOf x (cond b (y ∷ filter t xs) (filter t xs)) → (IsOf x (filter t xs) → IsOf x xs × (t x ≡ true)) → IsOf x (y ∷ xs) × (t x ≡ true)
      by true e (inl s) rest = (inl s, subst (λ z. t z ≡ true) (sym s) e)
      by true e (inr j) rest = let q = rest j in (inr q.0, q.1)
      by false e j rest = let q = rest j in (inr q.0, q.1)

  in_filter : (x : TRegion) (xs : List TRegion) → IsOf x xs → t x ≡ true → IsOf x (filter t xs)
  in_filter x [] i e = i
  in_filter x (y ∷ xs) i e = by (t y) refl i (λ j. in_filter x xs j e)
    where
      by : (b : Bool) → t y ≡ b → IsOf x (y ∷ xs) → (IsOf x xs → IsOf x (filter t xs)) → IsOf x (cond b (y ∷ filter t xs) (filter t xs))
      by true p (inl s) rest = inl s
      by true p (inr j) rest = inr (rest j)
      by false p (inl s) rest = absurd (true≢false (sym e ∙ (ap t s ∙ p)))
      by false p (inr j) rest = rest j

  apart_filter : (xs : List TRegion) → AreApart xs → AreApart (filter t xs)
  apart_filter [] h = tt
  apart_filter (y ∷ xs) h = by (t y) (apart_filter xs h.1)
    where
      by : (b : Bool) → AreApart (filter t xs) → AreApart (cond b (y ∷ filter t xs) (filter t xs))
      by true rest = ((λ q i. h.0 q (of_filter q xs i).0), rest)
      by false rest = rest

-- ---- statements that two ranges share

record Share (r q : TRegion) : Type 0 where
  pub block : r.block ≡ q.block
  pub before : r.first ≤ q.last
  pub behind : q.first ≤ r.last

share_is : (r q : TRegion) → shares r q ≡ true → Share r q
share_is r q e =
    let a = and_parts (nat_eq r.block q.block) (nat_le r.first q.last && nat_le q.first r.last) e in
    let b = and_parts (nat_le r.first q.last) (nat_le q.first r.last) a.1 in
    record { block = eqb-true r.block q.block a.0; before = leb-true r.first q.last b.0; behind = leb-true q.first r.last b.1 }

is_share : (r q : TRegion) → Share r q → shares r q ≡ true
is_share r q s =
    and_from (nat_eq r.block q.block) (nat_le r.first q.last && nat_le q.first r.last) (eq-eqb r.block q.block s.block)
    (and_from (nat_le r.first q.last) (nat_le q.first r.last) (le-leb r.first q.last s.before) (le-leb q.first r.last s.behind))

turned : (r q : TRegion) → Share r q → Share q r
turned r q s = record { block = sym s.block; before = s.behind; behind = s.before }

none_share : (r q : TRegion) → (Share r q → ⊥) → shares r q ≡ false
none_share r q h = by (shares r q) refl
  where
    by : (b : Bool) → shares r q ≡ b → b ≡ false
    by true e = absurd (h (share_is r q e))
    by false e = refl

-- of ranges that are apart, those that share a statement are the same
same_of : (rs : List TRegion) → AreApart rs → (a b : TRegion) → IsOf a rs → IsOf b rs → Share a b → a ≡ b
same_of [] h a b i j s = absurd i
same_of (r ∷ rs) h a b (inl e) (inl f) s = e ∙ sym f
same_of (r ∷ rs) h a b (inl e) (inr j) s = absurd (true≢false (sym (is_share r b (subst (λ x. Share x b) e s)) ∙ h.0 b j))
same_of (r ∷ rs) h a b (inr i) (inl f) s = absurd (true≢false (sym (is_share r a (turned a r (subst (λ x. Share a x) f s))) ∙ h.0 a i))
same_of (r ∷ rs) h a b (inr i) (inr j) s = same_of rs h.1 a b i j s

-- ---- parts

part_on : (r q s : TRegion) → IsPart r q → IsPart q s → IsPart r s
part_on r q s h k = record { block = h.block ∙ k.block; from = (let a = h.from in let b = k.from in omega (arith, a, b)); upto = (let a = h.upto in let b = k.upto in omega (arith, a, b)) }

whole_part : (r : TRegion) → IsPart r r
whole_part r = record { block = refl; from = omega arith; upto = omega arith }

-- what shares a statement with a part shares it with the whole
share_on : (r q a b : TRegion) → Share r q → IsPart r a → IsPart q b → Share a b
share_on r q a b s h k = record {
  block = sym h.block ∙ (s.block ∙ k.block);
  before = (let x = h.from in let y = s.before in let z = k.upto in omega (arith, x, y, z));
  behind = (let x = k.from in let y = s.behind in let z = h.upto in omega (arith, x, y, z));
}

first_part : (r q : TRegion) → IsPart r (joined r q)
first_part r q = record { block = refl; from = omega arith; upto = omega arith }

second_part : (r q : TRegion) → r.block ≡ q.block → IsPart q (joined r q)
second_part r q e = record { block = sym e; from = omega arith; upto = omega arith }

joined_part : (r q s : TRegion) → IsPart r s → IsPart q s → IsPart (joined r q) s
joined_part r q s h k = record { block = h.block; from = (let a = h.from in let b = k.from in omega (arith, a, b)); upto = (let a = h.upto in let b = k.upto in omega (arith, a, b)) }

share_joined : (r q x : TRegion) → Share r x → Share (joined r q) x
share_joined r q x s = record { block = s.block; before = (let a = s.before in omega (arith, a)); behind = (let a = s.behind in omega (arith, a)) }

-- a range is before another one, or behind it, where they share nothing
abbrev Aside : (r x : TRegion) → Type 0
Aside r x = (x.last < r.first) ⊎ (r.last < x.first)

aside : (r x : TRegion) → r.block ≡ x.block → (Share r x → ⊥) → Aside r x
aside r x e h = elim (cases_lt x.last r.first) [
  | inl l ↦ inl l
  | inr l ↦ elim (cases_lt r.last x.first) [
    | inl k ↦ inr k
    | inr k ↦ absurd (h (record { block = e; before = l; behind = k }))
  ]
]

joined_apart : (r q x : TRegion) → x.first ≤ x.last → Share r q → (Share r x → ⊥) → (Share q x → ⊥) → Share (joined r q) x → ⊥
joined_apart r q x o s h k j = by (aside r x j.block h) (aside q x (sym s.block ∙ j.block) k)
  where
    by : Aside r x → Aside q x → ⊥
    by (inl a) (inl b) = let c = j.before in omega (arith, a, b, c)
    by (inr a) (inr b) = let c = j.behind in omega (arith, a, b, c)
    by (inl a) (inr b) = let c = s.before in omega (arith, a, b, c, o)
    by (inr a) (inl b) = let c = s.behind in omega (arith, a, b, c, o)

-- ---- a range with all that share a statement with it

abbrev Sharing : TRegion → List TRegion → Type 0
Sharing r qs = (q : TRegion) → IsOf q qs → Share r q

sharing_on : (r q : TRegion) (qs : List TRegion) → Sharing r (q ∷ qs) → Sharing (joined r q) qs
sharing_on r q qs h x i = share_joined r q x (h x (inr i))

all_first : (r : TRegion) (qs : List TRegion) → IsPart r (joined_all r qs)
all_first r [] = whole_part r
all_first r (q ∷ qs) = part_on r (joined r q) (joined_all (joined r q) qs) (first_part r q) (all_first (joined r q) qs)

all_others : (r : TRegion) (qs : List TRegion) → Sharing r qs → (x : TRegion) → IsOf x qs → IsPart x (joined_all r qs)
all_others r [] h x i = absurd i
all_others r (q ∷ qs) h x (inl e) =
    subst (λ y. IsPart y (joined_all (joined r q) qs)) (sym e) (part_on q (joined r q) (joined_all (joined r q) qs) (second_part r q (h q (inl refl)).block) (all_first (joined r q) qs))
all_others r (q ∷ qs) h x (inr i) = all_others (joined r q) qs (sharing_on r q qs h) x i

all_part : (r : TRegion) (qs : List TRegion) (s : TRegion) → IsPart r s → ((q : TRegion) → IsOf q qs → IsPart q s) → IsPart (joined_all r qs) s
all_part r [] s h k = h
all_part r (q ∷ qs) s h k = all_part (joined r q) qs s (joined_part r q s h (k q (inl refl))) (λ x i. k x (inr i))

all_apart : (r : TRegion) (qs : List TRegion) (x : TRegion) → x.first ≤ x.last → Sharing r qs → (Share r x → ⊥) → ((q : TRegion) → IsOf q qs → Share q x → ⊥) → Share (joined_all r qs) x → ⊥
all_apart r [] x o s h k = h
all_apart r (q ∷ qs) x o s h k = all_apart (joined r q) qs x o (sharing_on r q qs s) (joined_apart r q x o (s q (inl refl)) h (k q (inl refl))) (λ y i. k y (inr i))

-- ---- one more

module _ (r : TRegion) (given us : List TRegion) (range : r.first ≤ r.last) (are : AreUnited given us) where
  abbrev others : List TRegion
  others = filter (λ q. not (shares r q)) us

  abbrev whole : TRegion
  whole = joined_all r (filter (shares r) us)

  sharing : Sharing r (filter (shares r) us)
  sharing q i = share_is r q (of_filter (shares r) q us i).1

  beside : (x : TRegion) → IsOf x others → IsOf x us × (shares r x ≡ false)
  beside x i = let q = of_filter (λ q. not (shares r q)) x us i in (q.0, not-true (shares r x) q.1)

  whole_apart : (x : TRegion) → IsOf x others → shares whole x ≡ false
  whole_apart x i =
      let b = beside x i in
      none_share whole x (all_apart r (filter (shares r) us) x (are.ranges x b.0) sharing
      (λ s. true≢false (sym (is_share r x s) ∙ b.1))
      (λ q j s. let f = of_filter (shares r) q us j in true≢false (sym f.1 ∙ (ap (shares r) (same_of us are.apart q x f.0 b.0 s) ∙ b.1))))

  whole_range : whole.first ≤ whole.last
  whole_range = let h = all_first r (filter (shares r) us) in let a = h.from in let b = h.upto in omega (arith, a, b, range)

  all_ranges : AreRanges (whole ∷ others)
  all_ranges x (inl e) = subst (λ y. y.first ≤ y.last) (sym e) whole_range
  all_ranges x (inr i) = are.ranges x (beside x i).0

  held : (u : TRegion) → IsOf u us → (q : TRegion) × IsOf q (whole ∷ others) × IsPart u q
  held u i = by (shares r u) refl
    where
      by : (b : Bool) → shares r u ≡ b → (q : TRegion) × IsOf q (whole ∷ others) × IsPart u q
      by true e = (whole, inl refl, all_others r (filter (shares r) us) sharing u (in_filter (shares r) u us i e))
      by false e = (u, inr (in_filter (λ q. not (shares r q)) u us i (ap not e)), whole_part u)

  all_hold : LieIn (r ∷ given) (whole ∷ others)
  all_hold x (inl e) = (whole, inl refl, subst (λ y. IsPart y whole) (sym e) (all_first r (filter (shares r) us)))
  all_hold x (inr i) =
      let a = are.hold x i in
      let b = held a.0 a.1 in
      (b.0, b.1, part_on x a.0 b.0 a.2 b.2)

  all_least : (those : List TRegion) → AreApart those → LieIn (r ∷ given) those → LieIn (whole ∷ others) those
  all_least those apart lie x i =
      let rest : LieIn us those = are.least those apart (λ y j. lie y (inr j)) in
      let own = lie r (inl refl) in
      let within : (q : TRegion) → IsOf q (filter (shares r) us) → IsPart q own.0 = λ q j. (
      let there = rest q (of_filter (shares r) q us j).0 in
      let same : own.0 ≡ there.0 = same_of those apart own.0 there.0 own.1 there.1 (share_on r q own.0 there.0 (sharing q j) own.2 there.2) in
      subst (λ y. IsPart q y) (sym same) there.2) in
      elim i [
        | inl e ↦ (own.0, own.1, subst (λ y. IsPart y own.0) (sym e) (all_part r (filter (shares r) us) own.0 own.2 within))
        | inr j ↦ rest x (beside x j).0
      ]

  one_more : AreUnited (r ∷ given) (with_range r us)
  one_more = record { ranges = all_ranges; apart = (whole_apart, apart_filter (λ q. not (shares r q)) us are.apart); hold = all_hold; least = all_least }

pub all_united : (given : List TRegion) → AreRanges given → AreUnited given (united given)
all_united [] h = record { ranges = (λ r i. absurd i); apart = tt; hold = (λ r i. absurd i); least = (λ others apart lie r i. absurd i) }
all_united (r ∷ rs) h = one_more r rs (united rs) (h r (inl refl)) (all_united rs (λ q i. h q (inr i)))
