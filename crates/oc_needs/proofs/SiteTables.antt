-- The sites of inputs in loops, by the places of variables and of functions.
use Rattle.std.proofs.Common.{◌≡◌, refl, sym, ap, ◌∙◌, subst, ℕ, zero, suc, ◌<◌, ◌≤◌, arith, Bool, true, false, nat_lt, List, [], ◌∷◌, map, length}
use Rattle.std.proofs.Math.ListN.{get_or}
use Rattle.std.proofs.lemmas.Bool.{ltb-true, ltb-false}
use Rattle.std.proofs.lemmas.List.{get_or_past, length-map}
use Rattle.oc_tree.specs.Tree.{TProgram}
use Rattle.oc_tree.specs.declared.tree.VarId.{VarId}
use Rattle.oc_effects.specs.Effects.{effects_at}
use Rattle.oc_flow.specs.Variables.{from, variables}
use Rattle.oc_needs.specs.Code.{looped_at, looped_sites, sources}
use Rattle.oc_needs.specs.CodeView.{IsLooped}
use Rattle.oc_needs.proofs.Froms.{get_map_from, get_of_map}

get_or_same : (vs : List VarId) (i : ℕ) (x y : VarId) → i < length vs → get_or vs i x ≡ get_or vs i y
get_or_same [] i x y h = absurd (omega (arith, h))
get_or_same (v ∷ vs) zero x y h = refl
get_or_same (v ∷ vs) (suc i) x y h = get_or_same vs i x y (omega (arith, h))

-- the sites of a function
own_looped : (p : TProgram) (f : ℕ) → IsLooped p f (looped_at p f)
own_looped p f = λ i x h.
    let few : i < length (variables p f) = subst (λ n. i < n) (length-map (variables p f) (looped_sites p f (sources p f (effects_at p f)))) h in
    get_of_map (looped_sites p f (sources p f (effects_at p f))) (variables p f) i (get_or (variables p f) i x) [] few (get_or_same (variables p f) i x (get_or (variables p f) i x) few)

pub table_looped : (p : TProgram) (tables : List (List (List ℕ))) (n f : ℕ) → tables ≡ map (looped_at p) (from 0 n) → n ≡ length tables → IsLooped p f (get_or tables f [])
table_looped p tables n f e k = by (nat_lt f n) refl
  where
    by : (b : Bool) → nat_lt f n ≡ b → IsLooped p f (get_or tables f [])
    by true h = subst (λ t. IsLooped p f t) (sym (ap (λ ts. get_or ts f []) e ∙ get_map_from (looped_at p) n f [] (ltb-true f n h))) (own_looped p f)
    by false h = let past : get_or tables f [] ≡ [] = get_or_past tables f [] (let m : n ≤ f = ltb-false f n h in omega (arith, m, k)) in
        subst (λ t. IsLooped p f t) (sym past) (λ i x l. absurd (omega (arith, l)))

-- those of a variable at its place
pub known_is : (p : TProgram) (f : ℕ) (rows : List (List ℕ)) (vs : List VarId) (i : ℕ) (x : VarId) (sites : List ℕ) → IsLooped p f rows → vs ≡ variables p f → i < length rows
    → get_or vs i x ≡ x → sites ≡ get_or rows i [] → sites ≡ looped_sites p f (sources p f (effects_at p f)) x
known_is p f rows vs i x sites known own h at is =
    is ∙ (known i x h ∙ ap (looped_sites p f (sources p f (effects_at p f))) (ap (λ ws. get_or ws i x) (sym own) ∙ at))
