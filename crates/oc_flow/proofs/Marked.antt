-- Marks by the numbers of a table's variables.
use Rattle.std.proofs.Common.{◌≡◌, ◌≢◌, ◌<◌, ◌≤◌, inl, inr, ◌+◌, map, ℕ, Bool, true, false, List, [], ◌∷◌, Some, take, filter, refl, ap, sym, ◌∙◌, subst, length, arith}
use Rattle.std.specs.Prelude.{◌||◌, nat_eq}
use Rattle.std.specs.List.{list_any}
use Rattle.std.proofs.Math.ListN.{get_or}
use Rattle.std.proofs.lemmas.List.{take_all}
use Rattle.std.proofs.lemmas.List.Folds.{list_any_more}
use Rattle.std.proofs.lemmas.Bool.{eqb-true, eq-eqb}
use Rattle.std.proofs.lemmas.Option.{same_Some}
use Rattle.oc_tree.specs.declared.tree.VarId.{VarId}
use Rattle.oc_tree.specs.Members.{IsOf}
use Rattle.oc_laws.proofs.Bools.{both_ways}
use Rattle.oc_flow.specs.Variables.{same_variable, is_among}
use Rattle.oc_flow.specs.Known.{number_in, cell, TTable, MarkedRow, Marks, flows_between, table_flows, received_at, Holds}
use Rattle.oc_flow.proofs.Lists.{same_is, same_itself, of_among}
use Rattle.oc_flow.proofs.Numbers.{number_below, numbered}
use Rattle.oc_flow.proofs.Cells.{same_number}
use Rattle.oc_flow.proofs.Knows.{flows_within}
use Rattle.oc_flow.proofs.Gathered.{held_any}

unlike : (i k : ℕ) → k ≢ i → nat_eq i k ≡ false
unlike i k d = grind (arith, d)

-- what flows from one variable more
pub marks_more : (t : TTable) (u : VarId) (i : ℕ) (old new : List Bool) (test : VarId → Bool) → number_in t.variables u ≡ Some i → MarkedRow i (get_or t.cells i []) old new
    → Marks t old test → Marks t new (λ y. test y || table_flows t u y)
marks_more t u i old new test hu r m = record { width = r.same ∙ m.width; each = λ y h. let n = numbered 0 t.variables y h in by y h n.0 n.1 }
  where
    by : (y : VarId) → is_among y t.variables ≡ true → (j : ℕ) → number_in t.variables y ≡ Some j → received_at new (number_in t.variables y) ≡ test y || table_flows t u y
    by y h j e =
        let w = m.width in
        let b = number_below t.variables y j e in
        let was : get_or old j false ≡ test y = ap (received_at old) (sym e) ∙ m.each y h in
        let flow : table_flows t u y ≡ same_variable u y || cell t.cells i j = (λ k. flows_between t.cells u y (hu k) (e k)) in
        let same : nat_eq i j ≡ same_variable u y = both_ways (nat_eq i j) (same_variable u y)
        (λ q. subst (λ z. same_variable u z ≡ true) (same_number t.variables u y i hu (e ∙ ap Some (sym (eqb-true i j q)))) (same_itself u))
        (λ q. subst (λ z. nat_eq i z ≡ true) (same_Some i j (sym hu ∙ ap (number_in t.variables) (same_is u y q) ∙ e)) (eq-eqb i i refl)) in
        ap (received_at new) e ∙ r.marks j (omega (arith, w, b)) ∙ (λ k. was k || (same k || cell t.cells i j)) ∙ ap (λ z. test y || z) (sym flow)

pub marks_same : (t : TTable) (marks : List Bool) (D E : VarId → Bool) → ((y : VarId) → D y ≡ E y) → Marks t marks D → Marks t marks E
marks_same t marks D E h m = record { width = m.width; each = λ y a. m.each y a ∙ h y }

-- a turn of the loop over variables from which it flows, and its end
pub marks_turn : (t : TTable) (from : List VarId) (i : ℕ) (u d : VarId) (old new : List Bool) → i < length from → u ≡ get_or from i d
    → Marks t old (λ y. list_any (λ u. table_flows t u y) (take i from))
    → ((test : VarId → Bool) → Marks t old test → Marks t new (λ y. test y || table_flows t u y)) → Marks t new (λ y. list_any (λ u. table_flows t u y) (take (i + 1) from))
marks_turn t from i u d old new h e m more =
    marks_same t new (λ y. list_any (λ u. table_flows t u y) (take i from) || table_flows t u y) (λ y. list_any (λ u. table_flows t u y) (take (i + 1) from))
    (λ y. ap (λ x. list_any (λ u. table_flows t u y) (take i from) || table_flows t x y) e ∙ sym (list_any_more (λ u. table_flows t u y) from i d h))
    (more (λ y. list_any (λ u. table_flows t u y) (take i from)) m)

map_within : {A B : Type 0} (f g : A → B) (xs : List A) → ((x : A) → IsOf x xs → f x ≡ g x) → map f xs ≡ map g xs
map_within f g [] h = refl
map_within f g (x ∷ xs) h = λ i. h x (inl refl) i ∷ map_within f g xs (λ y m. h y (inr m)) i

pub marks_done : (t : TTable) (from : List VarId) (i : ℕ) (marks : List Bool) → length from ≤ i → Marks t marks (λ y. list_any (λ u. table_flows t u y) (take i from))
    → map (λ y. received_at marks (number_in t.variables y)) t.variables ≡ map (λ y. list_any (λ u. table_flows t u y) from) t.variables
marks_done t from i marks h m =
    map_within (λ y. received_at marks (number_in t.variables y)) (λ y. list_any (λ u. table_flows t u y) from) t.variables
    (λ y o. m.each y (of_among y t.variables o) ∙ ap (list_any (λ u. table_flows t u y)) (take_all i from h))

-- what flows from variables that are held, and from those of the table that pass the test
pub received_from : (t : TTable) (us : List VarId) (test : VarId → Bool) → Holds us test
    → map (λ y. list_any (λ u. table_flows t u y) us) t.variables ≡ map (λ y. list_any (λ u. table_flows t u y) (filter test t.variables)) t.variables
received_from t us test h =
    map_within (λ y. list_any (λ u. table_flows t u y) us) (λ y. list_any (λ u. table_flows t u y) (filter test t.variables)) t.variables
    (λ y _. held_any (λ u. table_flows t u y) test us t.variables (λ u e. flows_within t u y e) h)
