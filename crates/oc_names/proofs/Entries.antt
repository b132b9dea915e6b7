-- A table whose keys are borrowed names, as the list that contracts see.
use Rattle.std.proofs.Common.{◌≡◌, ◌<◌, ◌+◌, ℕ, zero, suc, Bool, true, false, cond, List, [], ◌∷◌, ◌++◌, Option, Some, None, IfSome, map, take, refl, ap, sym, ◌∙◌, Bor, length, arith}
use Rattle.std.specs.Str.{bytes_eq}
use Rattle.std.specs.Map.{lookup}
use Rattle.std.specs.Option.{option_or}
use Rattle.indexmap.specs.IndexMap.{insert_entry}
use Rattle.oc_tree.specs.Names.{Text, named_in}
use Rattle.oc_tree.specs.Calls.{place_from}
use Rattle.oc_names.specs.Entries.{Entries, number_in}

-- the names and what stands beside them
abbrev pub seen : {A : Type 0} → List (Bor Text × A) → List (Text × A)
seen es = map (λ e. (e.0.now, e.1)) es

pub lookup-seen : {A : Type 0} (x : Text) (es : List (Bor Text × A)) → lookup (λ y. bytes_eq x y.now) es ≡ named_in (seen es) x
lookup-seen x [] = refl
lookup-seen x (e ∷ es) = ap (cond (bytes_eq x e.0.now) (Some e.1)) (lookup-seen x es)

pub insert-seen : {A : Type 0} (es : List (Bor Text × A)) (k : Bor Text) (v : A) → named_in (seen es) k.now ≡ None
    → seen (insert_entry (λ x y. bytes_eq x.now y.now) es k v) ≡ seen es ++ (k.now, v) ∷ []
insert-seen [] k v h = refl
insert-seen (e ∷ es) k v h = by (bytes_eq k.now e.0.now) h (insert-seen es k v)
  where
    by : (b : Bool) → cond b (Some e.1) (named_in (seen es) k.now) ≡ None
        → (named_in (seen es) k.now ≡ None → seen (insert_entry (λ x y. bytes_eq x.now y.now) es k v) ≡ seen es ++ (k.now, v) ∷ [])
        → seen (cond b ((e.0, v) ∷ es) (e ∷ insert_entry (λ x y. bytes_eq x.now y.now) es k v)) ≡ seen (e ∷ es) ++ (k.now, v) ∷ []
    by true none rest = absurd (cc)
    by false none rest = ap (λ r. (e.0.now, e.1) ∷ r) (rest none)

pub take-seen : {A : Type 0} (n : ℕ) (es : List (Bor Text × A)) → seen (take n es) ≡ take n (seen es)
take-seen zero es = refl
take-seen (suc n) [] = refl
take-seen (suc n) (e ∷ es) = ap (λ r. (e.0.now, e.1) ∷ r) (take-seen n es)

pub found_push : (m : Entries) (n x : Text) (i : ℕ) → number_in (m ++ (n, i) ∷ []) x ≡ option_or (number_in m x) (cond (bytes_eq x n) (Some i) None)
found_push [] n x i = refl
found_push (e ∷ m) n x i = by (bytes_eq x e.0) (found_push m n x i)
  where
    by : (b : Bool) → number_in (m ++ (n, i) ∷ []) x ≡ option_or (number_in m x) (cond (bytes_eq x n) (Some i) None) → cond b (Some e.1) (number_in (m ++ (n, i) ∷ []) x)
        ≡ option_or (cond b (Some e.1) (number_in m x)) (cond (bytes_eq x n) (Some i) None)
    by true h = refl
    by false h = h

option_or_assoc : (a : Option ℕ) (b : Bool) (i : ℕ) (r : Option ℕ) → option_or (option_or a (cond b (Some i) None)) r ≡ option_or a (cond b (Some i) r)
option_or_assoc (Some a) b i r = refl
option_or_assoc None true i r = refl
option_or_assoc None false i r = refl

-- a name that is new is added
pub table_new : (m new : Entries) (n x : Text) (i : ℕ) (rest : Option ℕ) → new ≡ m ++ (n, i) ∷ [] → option_or (number_in new x) rest ≡ option_or (number_in m x) (cond (bytes_eq x n) (Some i) rest)
table_new m new n x i rest e = ap (λ l. option_or (number_in l x) rest) e ∙ ap (λ o. option_or o rest) (found_push m n x i) ∙ option_or_assoc (number_in m x) (bytes_eq x n) i rest

-- a place lies in the list
pub place_below : (n : ℕ) (xs : List Text) (x : Text) (i : ℕ) → place_from n xs x ≡ Some i → i < n + length xs
place_below n [] x i h = absurd (cc)
place_below n (y ∷ ys) x i h = by (bytes_eq x y) h (place_below (n + 1) ys x i)
  where
    by : (b : Bool) → cond b (Some n) (place_from (n + 1) ys x) ≡ Some i → (place_from (n + 1) ys x ≡ Some i → i < n + 1 + length ys) → i < n + length (y ∷ ys)
    by true e rest = let q : n ≡ i = cc in omega (arith, q)
    by false e rest = omega (arith, rest e)

pub place_within : (r : Option ℕ) (xs : List Text) (x : Text) → r ≡ place_from 0 xs x → IfSome r (λ i. i < length xs)
place_within None xs x e = tt
place_within (Some i) xs x e = omega (arith, place_below 0 xs x i (sym e))
