-- How often names stand in a list, by a table of names.
use Rattle.std.proofs.Common.{◌≡◌, ◌+◌, ℕ, zero, suc, Bool, true, false, true≢false, cond, List, [], ◌∷◌, Option, Some, None, refl, ap, sym, ◌∙◌, Bor, arith}
use Rattle.std.specs.Prelude.{◌==◌, count_by, unwrap_or}
use Rattle.std.specs.Str.{bytes_eq}
use Rattle.std.proofs.lemmas.List.Sums.{sum_by-cons}
use Rattle.std.proofs.lemmas.Slice.Eq.{bytes_eq-Decides}
use Rattle.indexmap.specs.IndexMap.{insert_entry}
use Rattle.oc_tree.specs.Names.{Text, named_in}
use Rattle.oc_names.proofs.Entries.{seen}
use Rattle.oc_types.specs.Times.{is_first, once_more, singly, times_on}

-- what stands beside a name behind an insertion
inserted : {A : Type 0} (es : List (Bor Text × A)) (k : Bor Text) (v : A) (x : Text)
    → named_in (seen (insert_entry (λ y z. bytes_eq y.now z.now) es k v)) x ≡ cond (bytes_eq x k.now) (Some v) (named_in (seen es) x)
inserted [] k v x = refl
inserted {A = A} (e ∷ es) k v x = by (bytes_eq k.now e.0.now) refl (inserted es k v x)
  where
    same : (b c : Bool) → b ≡ c → (r : Option A) → cond b (Some v) r ≡ cond c (Some v) (cond b (Some e.1) r)
    same true c h r = ap (λ d. cond d (Some v) (Some e.1)) h
    same false c h r = ap (λ d. cond d (Some v) r) h

    apart : (b c : Bool) → (b ≡ true → c ≡ true → ⊥) → (r : Option A) → cond b (Some e.1) (cond c (Some v) r) ≡ cond c (Some v) (cond b (Some e.1) r)
    apart true true h r = absurd (h refl refl)
    apart true false h r = refl
    apart false c h r = refl

    by : (b : Bool) → bytes_eq k.now e.0.now ≡ b
        → named_in (seen (insert_entry (λ y z. bytes_eq y.now z.now) es k v)) x ≡ cond (bytes_eq x k.now) (Some v) (named_in (seen es) x)
        → named_in (seen (cond b ((e.0, v) ∷ es) (e ∷ insert_entry (λ y z. bytes_eq y.now z.now) es k v))) x ≡ cond (bytes_eq x k.now) (Some v) (named_in (seen (e ∷ es)) x)
    by true h rest = same (bytes_eq x e.0.now) (bytes_eq x k.now) (ap (bytes_eq x) (sym ((bytes_eq-Decides k.now e.0.now).0 h))) (named_in (seen es) x)
    by false h rest =
        ap (cond (bytes_eq x e.0.now) (Some e.1)) rest
        ∙ apart (bytes_eq x e.0.now) (bytes_eq x k.now)
        (λ p q. true≢false (sym ((bytes_eq-Decides k.now e.0.now).1 (sym ((bytes_eq-Decides x k.now).0 q) ∙ (bytes_eq-Decides x e.0.now).0 p)) ∙ h))
        (named_in (seen es) x)

-- the same where it is whether the name is the first of its kind
pub counted_on : (es : List (Bor Text × Bool)) (old : List (Text × Bool)) (k : Bor Text) (first : Bool) (x : Text)
    → old ≡ seen es → first ≡ is_first (named_in old k.now)
    → named_in (seen (insert_entry (λ y z. bytes_eq y.now z.now) es k first)) x ≡ once_more (bytes_eq x k.now) (named_in old x)
counted_on es old k first x e f =
    inserted es k first x
    ∙ ap (λ l. cond (bytes_eq x k.now) (Some first) (named_in l x)) (sym e)
    ∙ by (bytes_eq x k.now) refl
  where
    by : (b : Bool) → bytes_eq x k.now ≡ b → cond b (Some first) (named_in old x) ≡ once_more b (named_in old x)
    by true h = ap Some (f ∙ ap (λ y. is_first (named_in old y)) (sym ((bytes_eq-Decides x k.now).0 h)))
    by false h = refl

abbrev one_of : Bool → ℕ
one_of b = cond b 1 0

one_more : (n : ℕ) → Some (is_first (singly n)) ≡ singly (suc n)
one_more zero = refl
one_more (suc zero) = refl
one_more (suc (suc n)) = refl

-- names are counted one by one
one_by_one : (x : Text) (n : ℕ) (ys : List Text) → times_on x (singly n) ys ≡ singly (n + count_by (bytes_eq x) ys)
one_by_one x n [] = let e : n ≡ n + count_by (bytes_eq x) [] = omega arith in ap singly e
one_by_one x n (y ∷ ys) = by (bytes_eq x y) refl (one_by_one x (suc n) ys) (one_by_one x n ys)
  where
    more : count_by (bytes_eq x) (y ∷ ys) ≡ one_of (bytes_eq x y) + count_by (bytes_eq x) ys
    more = sum_by-cons (λ z. one_of (bytes_eq x z)) y ys

    by : (b : Bool) → bytes_eq x y ≡ b → times_on x (singly (suc n)) ys ≡ singly (suc n + count_by (bytes_eq x) ys) → times_on x (singly n) ys ≡ singly (n + count_by (bytes_eq x) ys)
        → times_on x (once_more b (singly n)) ys ≡ singly (n + count_by (bytes_eq x) (y ∷ ys))
    by true h one none =
        let c : count_by (bytes_eq x) (y ∷ ys) ≡ one_of true + count_by (bytes_eq x) ys = more ∙ ap (λ (b : Bool). one_of b + count_by (bytes_eq x) ys) h in
        let e : suc n + count_by (bytes_eq x) ys ≡ n + count_by (bytes_eq x) (y ∷ ys) = omega (arith, c) in
        ap (λ t. times_on x t ys) (one_more n) ∙ one ∙ ap singly e
    by false h one none =
        let c : count_by (bytes_eq x) (y ∷ ys) ≡ one_of false + count_by (bytes_eq x) ys = more ∙ ap (λ (b : Bool). one_of b + count_by (bytes_eq x) ys) h in
        let e : n + count_by (bytes_eq x) ys ≡ n + count_by (bytes_eq x) (y ∷ ys) = omega (arith, c) in
        none ∙ ap singly e

pub all_counted : (x : Text) (ys : List Text) → times_on x None ys ≡ singly (count_by (bytes_eq x) ys)
all_counted x ys = let e : 0 + count_by (bytes_eq x) ys ≡ count_by (bytes_eq x) ys = omega arith in one_by_one x 0 ys ∙ ap singly e

-- whether it is one
pub single_is : (single : Bool) (n : ℕ) → Some single ≡ singly n → single ≡ (n == 1)
single_is single zero e = absurd (cc)
single_is single (suc zero) e = let s : single ≡ true = ap (λ (o : Option Bool). unwrap_or o single) e in s
single_is single (suc (suc n)) e =
    let s : single ≡ false = ap (λ (o : Option Bool). unwrap_or o single) e in
    let m : (suc (suc n) == 1) ≡ false = grind arith in
    s ∙ sym m

pub none_is : (n : ℕ) → None ≡ singly n → false ≡ (n == 1)
none_is zero e = let m : (0 == 1) ≡ false = grind arith in sym m
none_is (suc zero) e = absurd (cc)
none_is (suc (suc n)) e = let m : (suc (suc n) == 1) ≡ false = grind arith in sym m
