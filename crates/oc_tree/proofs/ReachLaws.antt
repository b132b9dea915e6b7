-- `leads` is the least transitive relation that holds of links; and the rank falls along links.
use Rattle.std.proofs.Common.{◌≡◌, ◌<◌, ◌≤◌, ℕ, zero, suc, Bool, true, false, refl, sym, ap, true≢false, arith, subst}
use Rattle.std.proofs.lemmas.Bool.{and_from, and_parts, or_left, or_right}
use Rattle.std.specs.Prelude.{◌&&◌, ◌||◌}
use Rattle.std.proofs.lemmas.Bool.Decides.{eqb_tells}
use mathlib.Core.Logic.{inl, inr}
use Rattle.oc_tree.specs.Reach.{Links, linked, leads, one, count_below, rank}

pub or_elim : {C : Type 0} (a b : Bool) → a || b ≡ true → (a ≡ true → C) → (b ≡ true → C) → C
or_elim true b h f g = f refl
or_elim false b h f g = g h

pub links_lead : (g : Links) (k u v : ℕ) → linked g u v ≡ true → leads g k u v ≡ true
links_lead g zero u v h = h
links_lead g (suc k) u v h = or_left _ _ (links_lead g k u v h)

-- through k itself
at_once : (a b : Bool) → a || (a && b) ≡ true → a ≡ true
at_once true b h = refl
at_once false b h = h

at_once' : (b c : Bool) → c || (b && c) ≡ true → c ≡ true
at_once' b true h = refl
at_once' true false h = h
at_once' false false h = h

step : (d a c xw kw wv wk : Bool)
    → (xw ≡ true → wv ≡ true → d ≡ true) → (xw ≡ true → wk ≡ true → a ≡ true) → (kw ≡ true → wv ≡ true → c ≡ true)
    → xw || (a && kw) ≡ true → wv || (wk && c) ≡ true → d || (a && c) ≡ true
step d a c xw kw wv wk f g h p q =
    or_elim xw (a && kw) p
    (λ x. or_elim wv (wk && c) q
    (λ y. or_left d (a && c) (f x y))
    (λ y. or_right d (a && c) (and_from a c (g x (and_parts wk c y).0) (and_parts wk c y).1)))
    (λ x. or_elim wv (wk && c) q
    (λ y. or_right d (a && c) (and_from a c (and_parts a kw x).0 (h (and_parts a kw x).1 y)))
    (λ y. or_right d (a && c) (and_from a c (and_parts a kw x).0 (and_parts wk c y).1)))

pub leads_trans : (g : Links) (k u w v : ℕ) → w < k → leads g k u w ≡ true → leads g k w v ≡ true → leads g k u v ≡ true
leads_trans g zero u w v h p q = absurd (omega arith)
leads_trans g (suc k) u w v h p q =
    let ih = leads_trans g k in
    elim (eqb_tells w k) [
      | inl e ↦ or_right _ _ (and_from _ _
          (at_once (leads g k u k) (leads g k k k) (subst (λ x. leads g (suc k) u x ≡ true) e.1 p))
          (at_once' (leads g k k k) (leads g k k v) (subst (λ x. leads g (suc k) x v ≡ true) e.1 q)))
      | inr n ↦
          let small : w < k = omega (arith, n.1) in
          step (leads g k u v) (leads g k u k) (leads g k k v) (leads g k u w) (leads g k k w) (leads g k w v) (leads g k w k)
          (ih u w v small) (ih u w k small) (ih k w v small) p q
    ]

pub least : (g : Links) (R : ℕ → ℕ → Type 0)
    → ((u v : ℕ) → linked g u v ≡ true → R u v)
    → ((u w v : ℕ) → R u w → R w v → R u v)
    → (k u v : ℕ) → leads g k u v ≡ true → R u v
least g R direct trans zero u v p = direct u v p
least g R direct trans (suc k) u v p =
    let ih = least g R direct trans k in
    or_elim (leads g k u v) (leads g k u k && leads g k k v) p (ih u v)
    (λ x. trans u k v (ih u k (and_parts _ _ x).0) (ih k v (and_parts _ _ x).1))

one_le : (a b : Bool) → (a ≡ true → b ≡ true) → one a ≤ one b
one_le true true h = omega arith
one_le true false h = absurd (true≢false (sym (h refl)))
one_le false true h = omega arith
one_le false false h = omega arith

pub count_le : (p q : ℕ → Bool) → ((x : ℕ) → p x ≡ true → q x ≡ true) → (n : ℕ) → count_below p n ≤ count_below q n
count_le p q h zero = omega arith
count_le p q h (suc n) = omega (arith, one_le (p n) (q n) (h n), count_le p q h n)

pub count_less : (p q : ℕ → Bool) → ((x : ℕ) → p x ≡ true → q x ≡ true) → (n x : ℕ) → x < n → p x ≡ false → q x ≡ true → count_below p n < count_below q n
count_less p q h zero x l a b = absurd (omega arith)
count_less p q h (suc n) x l a b =
    let more = count_less p q h n x in
    elim (eqb_tells x n) [
      | inl e ↦
          let pn : one (p n) ≡ 0 = ap one (subst (λ y. p y ≡ false) e.1 a) in
          let qn : one (q n) ≡ 1 = ap one (subst (λ y. q y ≡ true) e.1 b) in
          omega (arith, pn, qn, count_le p q h n)
      | inr d ↦
          let small : x < n = omega (arith, d.1) in
          omega (arith, more small a b, one_le (p n) (q n) (h n))
    ]

-- where what is linked does not lead to itself, its rank is lower
pub rank_falls : (g : Links) (n u v : ℕ) → v < n → linked g u v ≡ true → leads g n v v ≡ false → rank g n v < rank g n u
rank_falls g n u v h c e =
    let uv = links_lead g n u v c in
    count_less (leads g n v) (leads g n u) (λ x p. leads_trans g n u v x h uv p) n v h e uv

pub least_test : (g : Links) (n : ℕ) (r : ℕ → ℕ → Bool)
    → ((u v : ℕ) → linked g u v ≡ true → r u v ≡ true)
    → ((u w v : ℕ) → r u w ≡ true → r w v ≡ true → r u v ≡ true)
    → (u v : ℕ) → leads g n u v ≡ true → r u v ≡ true
least_test g n r direct trans u v h = least g (λ a b. r a b ≡ true) direct trans n u v h
