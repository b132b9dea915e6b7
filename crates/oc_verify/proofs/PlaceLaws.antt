-- The places of nodes.
use Rattle.std.proofs.Common.{◌≡◌, ℕ, zero, suc, ◌<◌, [], ◌∷◌, ◌++◌, length, Option, Some, None, refl, sym, ap, ◌∙◌, arith, Bool, true, false, cond, nat_eq, nat_cmp, Result, Ok, Err}
use Rattle.std.specs.Prelude.{slice_get, option_map, ◌||◌, ◌==◌, if◌then◌else◌, IfOk, OnOk}
use Rattle.std.specs.BTreeMap.{BTreeMap, Updates, get}
use Rattle.std.specs.Cmp.{unsigned_tied}
use Rattle.std.specs.List.{list_any}
use Rattle.oc_verify.specs.Stacks.{Nodes, IsIndex, place_in, with_node}
use Rattle.oc_verify.proofs.Exact.{or_second}
use Rattle.oc_verify.proofs.StackLaws.{get_last}

-- a node stands at this place
abbrev StandsAt : Nodes → (x n : ℕ) → Type 0
StandsAt ks x n = (slice_get ks n ≡ Some x) × (list_any (nat_eq x) ks ≡ true) × (n < length ks)

-- where a node is found, it stands
pub place_found : (ks : Nodes) (x n : ℕ) → place_in ks x ≡ Some n → (slice_get ks n ≡ Some x) × (list_any (nat_eq x) ks ≡ true) × (n < length ks)
place_found [] x n e = absurd (cc)
place_found (k ∷ ks) x n e = by (nat_eq x k) refl e (λ m f. place_found ks x m f)
  where
    past : (o : Option ℕ) → place_in ks x ≡ o → option_map suc o ≡ Some n → ((m : ℕ) → place_in ks x ≡ Some m → StandsAt ks x m) → nat_eq x k ≡ false → StandsAt (k ∷ ks) x n
    past None f e ih b = absurd (cc)
    past (Some m) f e ih b =
        let q : suc m ≡ n = (cc) in
        let r = ih m f in
        (ap (slice_get (k ∷ ks)) (sym q) ∙ r.0, or_second (nat_eq x k) (list_any (nat_eq x) ks) r.1, let l = r.2 in omega (arith, l, q))

    by : (b : Bool) → nat_eq x k ≡ b → (if b then Some 0 else option_map suc (place_in ks x)) ≡ Some n → ((m : ℕ) → place_in ks x ≡ Some m → StandsAt ks x m) → StandsAt (k ∷ ks) x n
    by true b e ih =
        let q : zero ≡ n = (cc) in
        let s : x ≡ k = grind (arith, b) in
        (ap (slice_get (k ∷ ks)) (sym q) ∙ ap Some (sym s), ap (λ c. c || list_any (nat_eq x) ks) b, omega (arith, q))
    by false b e ih = past (place_in ks x) refl e ih b

-- a node that isn't found is none of these
pub place_missing : (ks : Nodes) (x : ℕ) → place_in ks x ≡ None → list_any (nat_eq x) ks ≡ false
place_missing [] x e = refl
place_missing (k ∷ ks) x e = by (nat_eq x k) refl e (place_missing ks x)
  where
    past : (o : Option ℕ) → place_in ks x ≡ o → option_map suc o ≡ None → place_in ks x ≡ None
    past None f e = f
    past (Some m) f e = absurd (cc)

    by : (b : Bool) → nat_eq x k ≡ b → (if b then Some 0 else option_map suc (place_in ks x)) ≡ None → (place_in ks x ≡ None → list_any (nat_eq x) ks ≡ false)
        → list_any (nat_eq x) (k ∷ ks) ≡ false
    by true b e ih = absurd (cc)
    by false b e ih = ap (λ c. c || list_any (nat_eq x) ks) b ∙ ih (past (place_in ks x) refl e)

lost : (b c : Bool) → (b || c) ≡ false → (b ≡ false) × (c ≡ false)
lost true c e = absurd (cc)
lost false c e = (refl, e)

-- one node more
pub place_more : (ks : Nodes) (x q : ℕ) → list_any (nat_eq x) ks ≡ false → place_in (ks ++ x ∷ []) q ≡ cond (x == q) (Some (length ks)) (place_in ks q)
place_more [] x q e = by (x == q) refl
  where
    single : Bool → Option ℕ
    single b = if b then Some zero else None

    by : (b : Bool) → (x == q) ≡ b → single (nat_eq q x) ≡ cond b (Some zero) None
    by true b = let t : nat_eq q x ≡ true = grind (arith, b) in ap single t
    by false b = let t : nat_eq q x ≡ false = grind (arith, b) in ap single t
place_more (k ∷ ks) x q e = by (nat_eq q k) refl (place_more ks x q (lost (nat_eq x k) (list_any (nat_eq x) ks) e).1)
  where
    lifted : (b : Bool) → option_map suc (cond b (Some (length ks)) (place_in ks q)) ≡ cond b (Some (suc (length ks))) (option_map suc (place_in ks q))
    lifted true = refl
    lifted false = refl

    by : (b : Bool) → nat_eq q k ≡ b → place_in (ks ++ x ∷ []) q ≡ cond (x == q) (Some (length ks)) (place_in ks q)
        → (if b then Some 0 else option_map suc (place_in (ks ++ x ∷ []) q)) ≡ cond (x == q) (Some (suc (length ks))) (if b then Some 0 else option_map suc (place_in ks q))
    by true b ih =
        let s : q ≡ k = grind (arith, b) in
        let n = (lost (nat_eq x k) (list_any (nat_eq x) ks) e).0 in
        let t : (x == q) ≡ false = grind (arith, s, n) in
        sym (ap (λ c. cond c (Some (suc (length ks))) (Some 0)) t)
    by false b ih = ap (option_map suc) ih ∙ lifted (x == q)

-- a map that has the place of one node more
pub index_more : (ks : Nodes) (old new : BTreeMap ℕ ℕ) (x n : ℕ) → IsIndex ks old → list_any (nat_eq x) ks ≡ false → n ≡ length ks → Updates nat_cmp old new x (Some n)
    → IsIndex (ks ++ x ∷ []) new
index_more ks old new x n I f e U q =
    U.0 q ∙ ap (λ b. cond b (Some n) (get nat_cmp old q)) (unsigned_tied x q) ∙ ap (λ m. cond (x == q) (Some m) (get nat_cmp old q)) e ∙ ap (cond (x == q) (Some (length ks))) (I q)
    ∙ sym (place_more ks x q f)

-- a look-up that finds nothing
pub not_found : {X : Type 0} (copied : Option X → Option ℕ) → copied None ≡ None → (o : Option X) (m : Option ℕ) → copied o ≡ m → ((x : X) → o ≡ Some x → ⊥) → m ≡ None
not_found copied n None m e h = sym e ∙ n
not_found copied n (Some x) m e h = absurd (h x refl)

-- a node is there with one that is added, or without
pub with_found : (ks : Nodes) (x : ℕ) → list_any (nat_eq x) ks ≡ true → ks ≡ with_node ks x
with_found ks x e = sym (ap (λ b. if b then ks else ks ++ x ∷ []) e)

pub added_nodes : {A E : Type 0} (r : Result A E) (ks new : Nodes) (x : ℕ) → list_any (nat_eq x) ks ≡ false → OnOk r (new ≡ ks ++ x ∷ []) → OnOk r (new ≡ with_node ks x)
added_nodes (Ok a) ks new x f e = e ∙ sym (ap (λ b. if b then ks else ks ++ x ∷ []) f)
added_nodes (Err a) ks new x f e = e

pub added_place : {E : Type 0} (r : Result ℕ E) (ks new : Nodes) (x : ℕ) → OnOk r (new ≡ ks ++ x ∷ []) → IfOk r (λ n. n ≡ length ks) → IfOk r (λ n. slice_get new n ≡ Some x)
added_place (Ok n) ks new x e l = ap (slice_get new) l ∙ ap (λ ys. slice_get ys (length ks)) e ∙ get_last ks x
added_place (Err a) ks new x e l = l
