-- Flow between variables by their numbers.
use Rattle.std.proofs.Common.{◌≡◌, ◌<◌, ℕ, true, List, map, Option, Some, refl, ap, sym, ◌∙◌, subst, length, arith}
use Rattle.std.specs.Prelude.{◌||◌, nat_eq}
use Rattle.std.proofs.Math.ListN.{get_or}
use Rattle.std.proofs.lemmas.Bool.{eqb-true, eq-eqb}
use Rattle.std.proofs.lemmas.List.{get_or_read, length-map}
use Rattle.std.proofs.lemmas.Option.{same_Some}
use Rattle.oc_tree.specs.declared.tree.VarId.{VarId}
use Rattle.oc_tree.specs.declared.tree.VarId.TheVariants.{Returned}
use Rattle.oc_laws.proofs.Bools.{both_ways}
use Rattle.oc_flow.specs.Variables.{same_variable}
use Rattle.oc_flow.specs.Known.{TTable, cell, flows_between, number_in, table_flows}
use Rattle.oc_flow.proofs.Lists.{same_is, same_itself}
use Rattle.oc_flow.proofs.Cells.{same_number}
use Rattle.oc_flow.proofs.Added.{get_or_map}

-- the number of one of these variables, as it is kept
pub number_read : (vs outer : List VarId) (numbers : List (Option ℕ)) (i m : ℕ) (o : Option ℕ) → numbers ≡ map (number_in vs) outer → i < length outer → o ≡ get_or numbers i o → o ≡ Some m
    → number_in vs (get_or outer i Returned) ≡ Some m
number_read vs outer numbers i m o e h at is =
    let n = length-map outer (number_in vs) in
    let few : i < length numbers = subst (λ l. i < length l) (sym e) (omega (arith, n, h)) in
    sym (get_or_map (number_in vs) outer i Returned)
    ∙ ap (λ l. get_or l i (number_in vs Returned)) (sym e)
    ∙ sym (get_or_read numbers i o few at (number_in vs Returned))
    ∙ is

pub flows_by : (t : TTable) (u v : VarId) (m n : ℕ) → number_in t.variables u ≡ Some m → number_in t.variables v ≡ Some n → nat_eq m n || cell t.cells m n ≡ table_flows t u v
flows_by t u v m n hu hv =
    let same : nat_eq m n ≡ same_variable u v = both_ways (nat_eq m n) (same_variable u v)
    (λ q. subst (λ z. same_variable u z ≡ true) (same_number t.variables u v m hu (hv ∙ ap Some (sym (eqb-true m n q)))) (same_itself u))
    (λ q. subst (λ z. nat_eq m z ≡ true) (same_Some m n (sym hu ∙ ap (number_in t.variables) (same_is u v q) ∙ hv)) (eq-eqb m m refl)) in
    (λ k. same k || cell t.cells m n) ∙ sym (λ k. flows_between t.cells u v (hu k) (hv k))
