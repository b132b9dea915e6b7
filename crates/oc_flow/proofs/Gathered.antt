-- Lists of variables that statements add to.
use Rattle.std.proofs.Common.{◌≡◌, ◌<◌, ◌≤◌, ◌+◌, ◌++◌, ℕ, Bool, true, false, List, [], ◌∷◌, take, filter, Option, Some, refl, ap, sym, ◌∙◌, subst, length}
use Rattle.std.specs.Prelude.{◌||◌, ◌&&◌}
use Rattle.std.specs.List.{list_any}
use Rattle.std.proofs.Math.ListN.{get_or}
use Rattle.std.proofs.lemmas.List.Folds.{list_any_more}
use Rattle.std.proofs.Math.Bool.{or_assoc}
use Rattle.std.proofs.lemmas.List.{take_all}
use Rattle.oc_tree.specs.declared.tree.VarId.{VarId}
use Rattle.oc_laws.proofs.Bools.{both_ways}
use Rattle.oc_laws.proofs.Members.{any_of, in_filter, of_filter}
use Rattle.oc_flow.specs.Variables.{same_variable, is_among, is_variable_of}
use Rattle.oc_flow.specs.Known.{Gathers, Holds}
use Rattle.oc_flow.proofs.Lists.{any_in, among_of, of_among}
use Rattle.oc_flow.proofs.Added.{or_false, same_sym}

pub gathers_same : (D E : VarId → Bool) (vs ws : List VarId) → ((v : VarId) → D v ≡ E v) → Gathers D vs ws → Gathers E vs ws
gathers_same D E vs ws h d = record { among = λ v. d.among v ∙ ap (λ b. is_among v vs || b) (h v) }

pub gathers_on : (D E : VarId → Bool) (us vs ws : List VarId) → Gathers D us vs → Gathers E vs ws → Gathers (λ v. D v || E v) us ws
gathers_on D E us vs ws d e = record { among = λ v. e.among v ∙ ap (λ b. b || E v) (d.among v) ∙ or_assoc (is_among v us) (D v) (E v) }

among_more : (v x : VarId) (vs : List VarId) → is_among v (vs ++ x ∷ []) ≡ is_among v vs || same_variable v x
among_more v x [] = sym (or_false (same_variable v x))
among_more v x (y ∷ ys) = ap (λ b. same_variable v y || b) (among_more v x ys) ∙ sym (or_assoc (same_variable v y) (is_among v ys) (same_variable v x))

-- the variable that there is
pub gathers_one : (o : Option VarId) (x : VarId) (vs ws : List VarId) → o ≡ Some x → ws ≡ vs ++ x ∷ [] → Gathers (λ v. is_variable_of o v) vs ws
gathers_one o x vs ws e p = record {
  among = λ v. ap (is_among v) p ∙ among_more v x vs ∙ ap (λ b. is_among v vs || b) (same_sym v x ∙ ap (λ q. is_variable_of q v) (sym e));
}

and_true : (b : Bool) → b ≡ b && true
and_true true = refl
and_true false = refl

and_false : (b : Bool) → false ≡ b && false
and_false true = refl
and_false false = refl

-- a turn of a loop that adds what each element of a list tells, and its end
pub gathers_turn : {A : Type 0} (T : A → VarId → Bool) (xs : List A) (i : ℕ) (x d : A) (us vs ws : List VarId) → i < length xs → x ≡ get_or xs i d
    → Gathers (λ v. list_any (λ y. T y v) (take i xs)) us vs → Gathers (T x) vs ws → Gathers (λ v. list_any (λ y. T y v) (take (i + 1) xs)) us ws
gathers_turn T xs i x d us vs ws h e old more = gathers_same (λ v. list_any (λ y. T y v) (take i xs) || T x v) (λ v. list_any (λ y. T y v) (take (i + 1) xs)) us ws
    (λ v. ap (λ y. list_any (λ y. T y v) (take i xs) || T y v) e ∙ sym (list_any_more (λ y. T y v) xs i d h))
    (gathers_on (λ v. list_any (λ y. T y v) (take i xs)) (T x) us vs ws old more)

pub gathers_done : {A : Type 0} (T : A → VarId → Bool) (xs : List A) (i : ℕ) (us vs : List VarId) → length xs ≤ i → Gathers (λ v. list_any (λ y. T y v) (take i xs)) us vs
    → Gathers (λ v. list_any (λ y. T y v) xs) us vs
gathers_done T xs i us vs h d = subst (λ l. Gathers (λ v. list_any (λ y. T y v) l) us vs) (take_all i xs h) d

-- what is gathered from nothing
pub gathers_all : (D : VarId → Bool) (vs : List VarId) → Gathers D [] vs → Holds vs D
gathers_all D vs d = record { among = λ v. d.among v }

pub holds_nothing : (D : VarId → Bool) → ((v : VarId) → D v ≡ false) → Holds [] D
holds_nothing D h = record { among = λ v. sym (h v) }

pub holds_same : (D E : VarId → Bool) (vs : List VarId) → ((v : VarId) → D v ≡ E v) → Holds vs D → Holds vs E
holds_same D E vs h d = record { among = λ v. d.among v ∙ h v }

-- Looked for among what holds just what passes a test, and among those of a list that pass it.
pub held_any : (P test : VarId → Bool) (us vs : List VarId) → ((v : VarId) → P v ≡ true → is_among v vs ≡ true) → Holds us test → list_any P us ≡ list_any P (filter test vs)
held_any P test us vs inside h = both_ways (list_any P us) (list_any P (filter test vs))
    (λ e.
    let u = any_of P us e in
    any_in P (filter test vs) u.0 (in_filter test u.0 vs (among_of u.0 vs (inside u.0 u.2)) (sym (h.among u.0) ∙ of_among u.0 us u.1)) u.2)
    (λ e.
    let u = any_of P (filter test vs) e in
    let k = of_filter test u.0 vs u.1 in
    any_in P us u.0 (among_of u.0 us (h.among u.0 ∙ k.1)) u.2)
