-- Lists of sites as the code collects them.
use Rattle.std.specs.Prelude.{flat_map}
use Rattle.std.specs.List.{list_any}
use Rattle.std.proofs.Common.{◌≡◌, refl, ap, ◌∙◌, ℕ, Bool, cond, false, true, ◌==◌, length, arith, List, [], ◌∷◌, ◌++◌}
use Rattle.oc_tree.specs.Tree.{TProgram}
use Rattle.oc_tree.specs.declared.tree.VarId.{VarId}
use Rattle.oc_needs.specs.Need.{is_empty}
use Rattle.oc_needs.specs.Code.{TSource, flows_to_some, sites_outside, all_sites_once}

pub empty_is : {A : Type 0} (xs : List A) → (length xs == 0) ≡ true → xs ≡ []
empty_is [] e = refl
empty_is (x ∷ xs) e = grind (arith, e)

-- for no variables there are none
none_flows : (p : TProgram) (f : ℕ) (us : List VarId) → list_any (flows_to_some p f []) us ≡ false
none_flows p f [] = refl
none_flows p f (u ∷ us) = none_flows p f us

none_outside : (p : TProgram) (f : ℕ) (s : TSource) → sites_outside p f [] s ≡ []
none_outside p f s = by (is_empty s.loops)
  where
    by : (b : Bool) → cond b (cond (list_any (flows_to_some p f []) s.brought) (s.stmt ∷ []) []) [] ≡ []
    by true = ap (λ t. cond t (s.stmt ∷ []) []) (none_flows p f s.brought)
    by false = refl

none_joined : (p : TProgram) (f : ℕ) (ss : List TSource) → flat_map (sites_outside p f []) ss ≡ []
none_joined p f [] = refl
none_joined p f (s ∷ ss) = ap (λ ns. ns ++ flat_map (sites_outside p f []) ss) (none_outside p f s) ∙ none_joined p f ss

pub no_sites : (p : TProgram) (f : ℕ) (ss : List TSource) → all_sites_once p f [] ss ≡ []
no_sites p f ss = ap (λ ns. ns ++ []) (none_joined p f ss)
