-- Links added to tables.
use Rattle.std.proofs.Common.{◌≡◌, ◌<◌, ◌≤◌, ◌+◌, map, ℕ, zero, suc, Bool, true, false, List, [], ◌∷◌, take, refl, ap, sym, ◌∙◌, subst, length}
use Rattle.std.specs.Prelude.{◌||◌, ◌&&◌}
use Rattle.std.specs.List.{list_any}
use Rattle.std.proofs.Math.ListN.{get_or}
use Rattle.std.proofs.lemmas.List.Folds.{list_any_more}
use Rattle.std.proofs.Math.Bool.{or_assoc}
use Rattle.std.proofs.lemmas.List.{take_all}
use Rattle.oc_tree.specs.declared.tree.VarId.{VarId}
use Rattle.oc_laws.proofs.Bools.{both_ways}
use Rattle.oc_effects.specs.Effects.{TCalled}
use Rattle.oc_flow.specs.Variables.{same_variable, is_among, begins}
use Rattle.oc_flow.specs.Known.{TTable, linked, Adds}
use Rattle.oc_flow.proofs.Lists.{same_is, same_itself}

pub or_false : (a : Bool) → a ≡ a || false
or_false true = refl
or_false false = refl

pub adds_on : (D E : VarId → VarId → Bool) (s t u : TTable) → Adds D s t → Adds E t u → Adds (λ a b. D a b || E a b) s u
adds_on D E s t u d e = record {
  variables = e.variables ∙ d.variables;
  links = λ a b ha hb.
      e.links a b ha hb
      ∙ ap (λ x. x || E a b) (d.links a b (subst (λ l. is_among a l ≡ true) e.variables ha) (subst (λ l. is_among b l ≡ true) e.variables hb))
      ∙ or_assoc (linked s a b) (D a b) (E a b);
}

pub adds_same : (D E : VarId → VarId → Bool) (s t : TTable) → ((a b : VarId) → D a b ≡ E a b) → Adds D s t → Adds E s t
adds_same D E s t h d = record { variables = d.variables; links = λ a b ha hb. d.links a b ha hb ∙ ap (λ x. linked s a b || x) (h a b) }

pub same_sym : (u v : VarId) → same_variable u v ≡ same_variable v u
same_sym u v = both_ways (same_variable u v) (same_variable v u)
    (λ h. subst (λ x. same_variable x u ≡ true) (same_is u v h) (same_itself u))
    (λ h. subst (λ x. same_variable x v ≡ true) (same_is v u h) (same_itself v))

-- a turn of a loop that adds what each element of a list tells
pub adds_turn : {A : Type 0} (T : A → VarId → VarId → Bool) (xs : List A) (i : ℕ) (x d : A) (s t u : TTable) → i < length xs → x ≡ get_or xs i d
    → Adds (λ a b. list_any (λ y. T y a b) (take i xs)) s t → Adds (T x) t u → Adds (λ a b. list_any (λ y. T y a b) (take (i + 1) xs)) s u
adds_turn T xs i x d s t u h e old more = adds_same (λ a b. list_any (λ y. T y a b) (take i xs) || T x a b) (λ a b. list_any (λ y. T y a b) (take (i + 1) xs)) s u
    (λ a b. ap (λ y. list_any (λ y. T y a b) (take i xs) || T y a b) e ∙ sym (list_any_more (λ y. T y a b) xs i d h))
    (adds_on (λ a b. list_any (λ y. T y a b) (take i xs)) (T x) s t u old more)

-- at the end
pub adds_all : {A : Type 0} (T : A → VarId → VarId → Bool) (xs ys : List A) (s t : TTable) → ys ≡ xs → Adds (λ a b. list_any (λ y. T y a b) ys) s t → Adds (λ a b. list_any (λ y. T y a b) xs) s t
adds_all T xs ys s t e h = subst (λ l. Adds (λ a b. list_any (λ y. T y a b) l) s t) e h

any_and : {A : Type 0} (t : A → Bool) (b : Bool) (xs : List A) → list_any (λ x. t x && b) xs ≡ list_any t xs && b
any_and t b [] = refl
any_and t b (x ∷ xs) = ap (λ r. (t x && b) || r) (any_and t b xs) ∙ out (t x) (list_any t xs) b
  where
    out : (x y b : Bool) → (x && b) || (y && b) ≡ (x || y) && b
    out true true true = refl
    out true true false = refl
    out true false true = refl
    out true false false = refl
    out false y b = refl

any_before : {A : Type 0} (b : Bool) (t : A → Bool) (xs : List A) → list_any (λ x. b && t x) xs ≡ b && list_any t xs
any_before true t [] = refl
any_before true t (x ∷ xs) = ap (λ r. t x || r) (any_before true t xs)
any_before false t [] = refl
any_before false t (x ∷ xs) = any_before false t xs

-- variables that lead to one, one by one
pub adds_among : (from : List VarId) (t : VarId) (s u : TTable) → Adds (λ a b. list_any (λ x. same_variable a x && same_variable b t) from) s u → Adds (λ a b. is_among a from && same_variable b t) s u
adds_among from t s u h = adds_same (λ a b. list_any (λ x. same_variable a x && same_variable b t) from) (λ a b. is_among a from && same_variable b t) s u
    (λ a b. any_and (same_variable a) (same_variable b t) from) h

-- what a callee's flows add, one by one
pub adds_ends : (c : TCalled) (x : VarId) (T : VarId → VarId → Bool) (ys : List VarId) (s u : TTable) → Adds (λ a b. list_any (λ y. begins c x a && T y b) ys) s u
    → Adds (λ a b. begins c x a && list_any (λ y. T y b) ys) s u
adds_ends c x T ys s u h = adds_same (λ a b. list_any (λ y. begins c x a && T y b) ys) (λ a b. begins c x a && list_any (λ y. T y b) ys) s u (λ a b. any_before (begins c x a) (λ y. T y b) ys) h

-- at the end of a loop
pub adds_done : {A : Type 0} (T : A → VarId → VarId → Bool) (xs : List A) (i : ℕ) (s t : TTable) → length xs ≤ i → Adds (λ a b. list_any (λ y. T y a b) (take i xs)) s t
    → Adds (λ a b. list_any (λ y. T y a b) xs) s t
adds_done T xs i s t h d = adds_all T xs (take i xs) s t (take_all i xs h) d

pub get_or_map : {A B : Type 0} (f : A → B) (xs : List A) (i : ℕ) (d : A) → get_or (map f xs) i (f d) ≡ f (get_or xs i d)
get_or_map f [] i d = refl
get_or_map f (x ∷ xs) zero d = refl
get_or_map f (x ∷ xs) (suc i) d = get_or_map f xs i d
