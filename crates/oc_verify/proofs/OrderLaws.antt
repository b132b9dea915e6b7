-- Numbers that fall along every call show that there is no circle; where they don't fall, there is one.
use Rattle.std.proofs.Common.{◌≡◌, ℕ, zero, suc, ◌+◌, ◌<◌, ◌≤◌, List, [], ◌∷◌, ◌++◌, Option, Some, None, length, drop, get_or, append_assoc, nat_le, nat_lt, refl, sym}
use Rattle.std.proofs.lemmas.Bool.{and_parts}
use Rattle.std.proofs.Common.{ap, ◌∙◌, subst, ⊎_elim, inl, inr, arith, Bool, true, false, nat_eq}
use Rattle.std.specs.Prelude.{◌⊎◌, ◌&&◌, ◌||◌, if◌then◌else◌, slice_get}
use Rattle.oc_tree.specs.Reach.{Links, linked, is_link, leads, reaches, count_below}
use Rattle.oc_tree.proofs.ReachLaws.{links_lead, leads_trans, least, count_less}
use Rattle.oc_isa.specs.declared.image.ImageFunction.{ImageFunction}
use Rattle.oc_isa.specs.declared.instr.Instr.{Instr}
use Rattle.oc_isa.specs.declared.instr.Instr.TheVariants.{Call}
use Rattle.oc_isa.specs.declared.instr.Placed.{Placed}
use Rattle.oc_isa.specs.Image.{Parts}
use Rattle.oc_verify.specs.Rules.{Broken, calls_of, circle, code_at, end_at, laid_out, link_from, links_on, names_exist, rises, rises_from}
use Rattle.oc_verify.specs.Facts.{IsNamed, IsRanked, goes_on}
use Rattle.oc_verify.specs.Blames.{Blames}
use Rattle.oc_verify.specs.declared.fault.VerifyError.{VerifyError}
use Rattle.oc_verify.specs.declared.fault.VerifyError.TheVariants as errors
use Rattle.std.proofs.lemmas.Option.{slice_get_within}
use Rattle.oc_verify.proofs.Owners.{laid_rises}
use Rattle.oc_verify.proofs.FactLaws.{inside_code, end_inside}
use Rattle.oc_verify.proofs.Exact.{count_small, either, or_second, reach_back}

module _ (g : Links) (n : ℕ) (rank : ℕ → ℕ) (falls : (u v : ℕ) → linked g u v ≡ true → rank v < rank u) where
  -- who leads to whom has a greater number
  pub falls_far : (u v : ℕ) → leads g n u v ≡ true → rank v < rank u
  falls_far u v h = least g (λ a b. rank b < rank a) falls (λ a b c x y. omega (arith, x, y)) n u v h

  pub no_circle : (f : ℕ) → leads g n f f ≡ false
  no_circle f = by (leads g n f f) refl
    where
      by : (b : Bool) → leads g n f f ≡ b → b ≡ false
      by true e = absurd (let l = falls_far f f e in omega (arith, l))
      by false e = refl

-- a link along which the number of those that are reached doesn't fall is part of a circle
pub circle_at : (g : Links) (n u v : ℕ) → u < n → v < n → linked g u v ≡ true → count_below (reaches g n u) n ≤ count_below (reaches g n v) n → leads g n u u ≡ true
circle_at g n u v hu hv l c = by (reaches g n v u) refl
  where
    self : reaches g n u u ≡ true
    self = let e : nat_eq u u ≡ true = grind arith in ap (λ b. b || leads g n u u) e

    by : (b : Bool) → reaches g n v u ≡ b → leads g n u u ≡ true
    by true e = ⊎_elim
        (λ q. let s : v ≡ u = grind (arith, q) in subst (λ m. leads g n u m ≡ true) s (links_lead g n u v l))
        (λ q. leads_trans g n u v u hv (links_lead g n u v l) q)
        (either (nat_eq v u) (leads g n v u) e)
    by false e = absurd (let m = count_less (reaches g n v) (reaches g n u) (λ x p. reach_back g n u v x hv l p) n u hu e self in omega (arith, m, c))

-- links, one after another

pub link_of : (g : Links) (l : ℕ × ℕ) (u v : ℕ) → linked (g ++ l ∷ []) u v ≡ true → (linked g u v ≡ true) ⊎ ((l.0 ≡ u) × (l.1 ≡ v))
link_of [] l u v e = inr (pair_of (either (is_link u v l) false e))
  where
    pair_of : (is_link u v l ≡ true) ⊎ (false ≡ true) → (l.0 ≡ u) × (l.1 ≡ v)
    pair_of (inl x) = (
      let a : nat_eq l.0 u ≡ true = (and_parts (nat_eq l.0 u) (nat_eq l.1 v) x).0 in grind (arith, a),
      let b : nat_eq l.1 v ≡ true = (and_parts (nat_eq l.0 u) (nat_eq l.1 v) x).1 in
          grind (arith, b),
    )
    pair_of (inr x) = absurd (cc)
link_of (k ∷ g) l u v e = ⊎_elim
    (λ q. inl (ap (λ b. b || linked g u v) q))
    (λ q. ⊎_elim (λ r. inl (or_second (is_link u v k) (linked g u v) r)) (λ r. inr r) (link_of g l u v q))
    (either (is_link u v k) (linked (g ++ l ∷ []) u v) e)

-- a link that stands in a list
pub link_at : (g : Links) (k : ℕ) (l d : ℕ × ℕ) → k < length g → l ≡ get_or g k d → linked g l.0 l.1 ≡ true
link_at [] k l d h e = absurd (omega (arith, h))
link_at (m ∷ g) zero l d h e =
    let a : nat_eq m.0 l.0 ≡ true = (let q : l.0 ≡ m.0 = ap (λ x. x.0) e in grind (arith, q)) in
    let b : nat_eq m.1 l.1 ≡ true = (let q : l.1 ≡ m.1 = ap (λ x. x.1) e in grind (arith, q)) in
    let c : is_link l.0 l.1 m ≡ true = (λ j. a j && b j) in
    ap (λ x. x || linked g l.0 l.1) c
link_at (m ∷ g) (suc k) l d h e = or_second (is_link l.0 l.1 m) (linked g l.0 l.1) (link_at g k l d (omega (arith, h)) e)

-- one instruction more

dropped_one : {A : Type 0} (xs ys : List A) (n : ℕ) (y : A) → drop n xs ≡ y ∷ ys → drop (suc n) xs ≡ ys
dropped_one [] ys zero y e = absurd (cc)
dropped_one [] ys (suc n) y e = absurd (cc)
dropped_one (x ∷ xs) ys zero y e = (cc)
dropped_one (x ∷ xs) ys (suc n) y e = dropped_one xs ys n y e

dropped : {A : Type 0} (xs ys : List A) (n : ℕ) (y : A) → drop n xs ≡ y ∷ ys → drop (n + 1) xs ≡ ys
dropped xs ys n y e = let m : n + 1 ≡ suc n = omega arith in ap (λ k. drop k xs) m ∙ dropped_one xs ys n y e

abbrev head_of : {A : Type 0} → List A → Option A
head_of [] = None
head_of (x ∷ xs) = Some x

front_is : {A : Type 0} (xs ys : List A) (n : ℕ) → drop n xs ≡ ys → slice_get xs n ≡ head_of ys
front_is [] ys zero e = ap head_of e
front_is [] ys (suc n) e = ap head_of e
front_is (x ∷ xs) ys zero e = ap head_of e
front_is (x ∷ xs) ys (suc n) e = front_is xs ys n e

links_step : (f a : ℕ) (fs gs : List ImageFunction) (p : Placed) (ps : List Placed) → drop (f + 1) fs ≡ gs
    → links_on f a gs (p ∷ ps) ≡ link_from (goes_on f a (head_of gs)) p.instr ++ links_on (goes_on f a (head_of gs)) (a + 1) (drop (goes_on f a (head_of gs) + 1) fs) ps
links_step f a fs [] p ps e = (let n : suc a ≡ a + 1 = omega arith in (λ j. link_from f p.instr ++ links_on f (n j) (sym e j) ps))
links_step f a fs (g ∷ gs) p ps e = by (nat_le g.entry a)
  where
    n : suc a ≡ a + 1
    n = omega arith

    by : (b : Bool) → (if b then link_from (suc f) p.instr ++ links_on (suc f) (suc a) gs ps else link_from f p.instr ++ links_on f (suc a) (g ∷ gs) ps)
        ≡ link_from (if b then suc f else f) p.instr ++ links_on (if b then suc f else f) (a + 1) (drop ((if b then suc f else f) + 1) fs) ps
    by true = (let m : suc f + 1 ≡ (f + 1) + 1 = omega arith in let r : gs ≡ drop (suc f + 1) fs = sym (ap (λ k. drop k fs) m ∙ dropped fs gs (f + 1) g e) in
        (λ j. link_from (suc f) p.instr ++ links_on (suc f) (n j) (r j) ps))
    by false = (λ j. link_from f p.instr ++ links_on f (n j) (sym e j) ps)

links_end : (f a : ℕ) (gs : List ImageFunction) → links_on f a gs [] ≡ []
links_end f a [] = refl
links_end f a (g ∷ gs) = refl

pub going_low : (f a : ℕ) (o : Option ImageFunction) → f ≤ a → goes_on f a o ≤ a + 1
going_low f a None h = omega (arith, h)
going_low f a (Some g) h = by (nat_le g.entry a)
  where
    by : (b : Bool) → (if b then suc f else f) ≤ a + 1
    by true = omega (arith, h)
    by false = omega (arith, h)

-- the links that were found, with those that are left
pub more_links : (ls : Links) (f a : ℕ) (fs : List ImageFunction) (p : Placed) (ps qs : List Placed) (whole : Links) → drop a qs ≡ p ∷ ps → ls ++ links_on f a (drop (f + 1) fs) (drop a qs) ≡ whole
    → (n : ℕ) → n ≡ goes_on f a (slice_get fs (f + 1)) → (ls ++ link_from n p.instr) ++ links_on n (a + 1) (drop (n + 1) fs) (drop (a + 1) qs) ≡ whole
more_links ls f a fs p ps qs whole e h n z =
    let y : n ≡ goes_on f a (head_of (drop (f + 1) fs)) = z ∙ ap (goes_on f a) (front_is fs (drop (f + 1) fs) (f + 1) refl) in
    append_assoc ls (link_from n p.instr) (links_on n (a + 1) (drop (n + 1) fs) (drop (a + 1) qs))
    ∙ ap (λ l. ls ++ (link_from n p.instr ++ links_on n (a + 1) (drop (n + 1) fs) l)) (dropped qs ps a p e)
    ∙ ap (λ m. ls ++ (link_from m p.instr ++ links_on m (a + 1) (drop (m + 1) fs) ps)) y
    ∙ ap (λ l. ls ++ l) (sym (links_step f a fs (drop (f + 1) fs) p ps refl)) ∙ ap (λ l. ls ++ links_on f a (drop (f + 1) fs) l) (sym e) ∙ h

pub all_links : (ls : Links) (f a : ℕ) (gs : List ImageFunction) (ps : List Placed) (whole : Links) → ps ≡ [] → ls ++ links_on f a gs ps ≡ whole → ls ≡ whole
all_links ls f a gs ps whole e h = sym (append_none ls) ∙ ap (λ l. ls ++ l) (sym (links_end f a gs)) ∙ ap (λ l. ls ++ links_on f a gs l) (sym e) ∙ h
  where
    append_none : (xs : Links) → xs ++ [] ≡ xs
    append_none [] = refl
    append_none (x ∷ xs) = ap (λ l. x ∷ l) (append_none xs)

-- each link is a call in the code

from_or : (f : ℕ) (x : Instr) (rest : Links) (u v : ℕ) → linked (link_from f x ++ rest) u v ≡ true → ((u ≡ f) × (x ≡ Call v)) ⊎ (linked rest u v ≡ true)
from_or f (Call g) rest u v e = ⊎_elim
    (λ q. let a : nat_eq f u ≡ true = (and_parts (nat_eq f u) (nat_eq g v) q).0 in
    let b : nat_eq g v ≡ true = (and_parts (nat_eq f u) (nat_eq g v) q).1 in
    let m : f ≡ u = grind (arith, a) in
    let n : g ≡ v = grind (arith, b) in
    inl (sym m, ap Call n))
    (λ q. inr q)
    (either (is_link u v (f, g)) (linked rest u v) e)
from_or f x rest u v e = inr e

abbrev Found : ℕ → ℕ → List Placed → ℕ → ℕ → Type 0
Found f n ps u v = (u ≤ f + n) × (j : ℕ) × (p : Placed) × (slice_get ps j ≡ Some p) × (p.instr ≡ Call v)

link_in : (f a : ℕ) (gs : List ImageFunction) (ps : List Placed) (u v : ℕ) → linked (links_on f a gs ps) u v ≡ true → Found f (length gs) ps u v
link_in f a [] [] u v e = absurd (cc)
link_in f a (g ∷ gs) [] u v e = absurd (cc)
link_in f a [] (p ∷ ps) u v e = ⊎_elim
    (λ q. (let m = q.0 in omega (arith, m), 0, p, refl, q.1))
    (λ q. let r = link_in f (suc a) [] ps u v q in (r.0, suc r.1, r.2, r.3, r.4))
    (from_or f p.instr (links_on f (suc a) [] ps) u v e)
link_in f a (g ∷ gs) (p ∷ ps) u v e = by (nat_le g.entry a) e (λ h. link_in (suc f) (suc a) gs ps u v h) (λ h. link_in f (suc a) (g ∷ gs) ps u v h)
  where
    by : (b : Bool) → linked (if b then link_from (suc f) p.instr ++ links_on (suc f) (suc a) gs ps else link_from f p.instr ++ links_on f (suc a) (g ∷ gs) ps) u v ≡ true
        → (linked (links_on (suc f) (suc a) gs ps) u v ≡ true → Found (suc f) (length gs) ps u v) → (linked (links_on f (suc a) (g ∷ gs) ps) u v ≡ true → Found f (suc (length gs)) ps u v)
        → Found f (suc (length gs)) (p ∷ ps) u v
    by true e one two = ⊎_elim
        (λ q. (let m = q.0 in omega (arith, m), 0, p, refl, q.1))
        (λ q. let r = one q in let m = r.0 in (omega (arith, m), suc r.1, r.2, r.3, r.4))
        (from_or (suc f) p.instr (links_on (suc f) (suc a) gs ps) u v e)
    by false e one two = ⊎_elim
        (λ q. (let m = q.0 in omega (arith, m), 0, p, refl, q.1))
        (λ q. let r = two q in (r.0, suc r.1, r.2, r.3, r.4))
        (from_or f p.instr (links_on f (suc a) (g ∷ gs) ps) u v e)

-- each address of the code is in the code of a function

home_in : (fs : List ImageFunction) (size a : ℕ) (g : ImageFunction) → g.entry ≤ a → a < size
    → (f : ℕ) × (h : ImageFunction) × (slice_get (g ∷ fs) f ≡ Some h) × (h.entry ≤ a) × (a < end_at (g ∷ fs) size f)
home_in [] size a g l u = (0, g, refl, l, u)
home_in (k ∷ fs) size a g l u = by (nat_le k.entry a) refl (λ h. home_in fs size a k h u)
  where
    by : (b : Bool) → nat_le k.entry a ≡ b → (k.entry ≤ a → (f : ℕ) × (h : ImageFunction) × (slice_get (k ∷ fs) f ≡ Some h) × (h.entry ≤ a) × (a < end_at (k ∷ fs) size f))
        → (f : ℕ) × (h : ImageFunction) × (slice_get (g ∷ (k ∷ fs)) f ≡ Some h) × (h.entry ≤ a) × (a < end_at (g ∷ (k ∷ fs)) size f)
    by true e r = let h = r (grind (arith, e)) in (suc h.0, h.1, h.2, h.3, h.4)
    by false e r = (0, g, refl, l, (let m : a < k.entry = grind (arith, e) in m))

first_zero : (fs : List ImageFunction) → rises fs ≡ true → (g : ImageFunction) × (gs : List ImageFunction) × (fs ≡ g ∷ gs) × (g.entry ≡ 0)
first_zero [] r = absurd (cc)
first_zero (g ∷ gs) r = (g, gs, refl, (let z : nat_eq g.entry 0 ≡ true = (and_parts (nat_eq g.entry 0) (rises_from 1 gs) r).0 in grind (arith, z)))

pub home_of : (i : Parts) → laid_out i ≡ true → (a : ℕ) (p : Placed) → slice_get i.code a ≡ Some p → (f : ℕ) × (code_at i f a ≡ Some p)
home_of i l a p e =
    let z = first_zero i.functions (laid_rises i l) in
    let low : z.0.entry ≤ a = (let q = z.3 in omega (arith, q)) in
    let u = slice_get_within i.code a p e in
    let h = home_in z.1 (length i.code) a z.0 low u in
    let s : slice_get i.functions h.0 ≡ Some h.1 = ap (λ fs. slice_get fs h.0) z.2 ∙ h.2 in
    let n : a < end_at i.functions (length i.code) h.0 = subst (λ fs. a < end_at fs (length i.code) h.0) (sym z.2) h.4 in
    (h.0, inside_code i h.0 a (h.1.entry, end_at i.functions (length i.code) h.0) p (h.1, s, refl, refl, end_inside i l h.0) h.3 n e)

-- so links are between functions
pub links_within : (i : Parts) → laid_out i ≡ true → ((f : ℕ) → IsNamed i f) → (u v : ℕ) → linked (calls_of i) u v ≡ true → (u < length i.functions) × (v < length i.functions)
links_within i l named u v e =
    let r = link_in 0 0 (drop 1 i.functions) i.code u v e in
    let h = home_of i l r.1 r.2 r.3 in
    let c : names_exist i h.0 (Call v) ≡ true = ap (names_exist i h.0) (sym r.4) ∙ (named h.0 r.1 r.2 h.1).0 in
    let n : nat_lt v (length i.functions) ≡ true = c in
    let z = first_zero i.functions (laid_rises i l) in
    let m : length (drop 1 i.functions) + 1 ≡ length i.functions = long i.functions z.1 z.0 z.2 in
    let low = r.0 in
    (omega (arith, low, m), grind (arith, n))
  where
    long : (fs gs : List ImageFunction) (g : ImageFunction) → fs ≡ g ∷ gs → length (drop 1 fs) + 1 ≡ length fs
    long [] gs g e = absurd (cc)
    long (f ∷ fs) gs g e = omega arith

-- where the number doesn't fall along a link, there is a circle
pub blame_circle : (i : Parts) → laid_out i ≡ true → ((f : ℕ) → IsNamed i f) → (rs : List ℕ)
    → ((u : ℕ) → u < length i.functions → get_or rs u 0 ≡ count_below (reaches (calls_of i) (length i.functions) u) (length i.functions))
    → (u v : ℕ) → linked (calls_of i) u v ≡ true → get_or rs u 0 ≤ get_or rs v 0 → Broken i 0 7
blame_circle i l named rs is u v e le =
    let w = links_within i l named u v e in
    let a = is u w.0 in
    let b = is v w.1 in
    circle u (circle_at (calls_of i) (length i.functions) u v w.0 w.1 e (omega (arith, a, b, le)))

-- numbers that count so many are no greater
none_at : (xs : List ℕ) (k : ℕ) → length xs ≤ k → get_or xs k 0 ≡ 0
none_at [] k h = refl
none_at (x ∷ xs) zero h = absurd (omega (arith, h))
none_at (x ∷ xs) (suc k) h = none_at xs k (omega (arith, h))

pub counted_low : (p : ℕ → ℕ → Bool) (n k : ℕ) (rs : List ℕ) → length rs ≡ n → ((u : ℕ) → u < n → get_or rs u 0 ≡ count_below (p u) k) → (u : ℕ) → get_or rs u 0 ≤ k
counted_low p n k rs l is u = by (nat_lt u n) refl
  where
    by : (b : Bool) → nat_lt u n ≡ b → get_or rs u 0 ≤ k
    by true e = (let h = is u (grind (arith, e)) in let c = count_small (p u) k in omega (arith, h, c))
    by false e = (let m : n ≤ u = grind (arith, e) in let z = none_at rs u (omega (arith, m, l)) in omega (arith, z))

pub blame_falls : (i : Parts) → laid_out i ≡ true → ((f : ℕ) → IsNamed i f) → (ls : Links) → ls ≡ calls_of i → (rs : List ℕ)
    → ((u : ℕ) → u < length i.functions → get_or rs u 0 ≡ count_below (reaches ls (length i.functions) u) (length i.functions))
    → (e : VerifyError) → ((u : ℕ) × (v : ℕ) × (linked ls u v ≡ true) × (get_or rs u 0 ≤ get_or rs v 0) × (e ≡ errors.Refused 0 7)) → Blames i e
blame_falls i l named ls q rs is e x =
    let c : Broken i 0 7 = blame_circle i l named rs
    (λ u h. is u h ∙ ap (λ g. count_below (reaches g (length i.functions) u) (length i.functions)) q)
    x.0 x.1 (ap (λ g. linked g x.0 x.1) (sym q) ∙ x.2) x.3 in
    subst (Blames i) (sym x.4) c

pub ranked_by : (i : Parts) (ls : Links) → ls ≡ calls_of i → (rs : List ℕ) → length rs ≡ length i.functions
    → ((u : ℕ) → u < length i.functions → get_or rs u 0 ≡ count_below (reaches ls (length i.functions) u) (length i.functions))
    → ((u v : ℕ) → linked ls u v ≡ true → get_or rs v 0 < get_or rs u 0) → IsRanked i rs
ranked_by i ls q rs n is falls = record {
  sized = n;
  falls = λ u v h. falls u v (ap (λ g. linked g u v) q ∙ h);
  low = counted_low (reaches ls (length i.functions)) (length i.functions) (length i.functions) rs n is;
}

-- an element that stands in a list
pub placed_there : (ps : List Placed) (a : ℕ) → a < length ps → (x : Placed) × (slice_get ps a ≡ Some x)
placed_there [] a h = absurd (omega (arith, h))
placed_there (p ∷ ps) zero h = (p, refl)
placed_there (p ∷ ps) (suc a) h = placed_there ps a (omega (arith, h))
