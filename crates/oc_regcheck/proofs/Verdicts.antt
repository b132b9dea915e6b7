-- The code's answer is that of the definition, which tells whether blocks suffice.
use Rattle.std.proofs.Common.{◌≡◌, ◌<◌, ℕ, Bool, true, true≢false, List, [], ◌∷◌, length, map, refl, sym, subst, ◌∙◌, inl, inr, arith}
use Rattle.std.specs.List.{All}
use Rattle.std.proofs.Math.ListN.{get_or}
use Rattle.std.proofs.lemmas.List.{length-map}
use Rattle.oc_needs.specs.declared.requirement.Requirement.{Requirement}
use Rattle.oc_needs.specs.View.{requirement_view}
use Rattle.oc_needs.proofs.Froms.{get_of_map}
use Rattle.oc_tree.specs.Tree.{TProgram}
use Rattle.oc_tree.specs.Form.{Numbered}
use Rattle.oc_tree.specs.Checked.{Group, IsChecked}
use Rattle.oc_tree.specs.Members.{IsOf, is_number_of}
use Rattle.oc_needs.specs.Requirements.{TRequirement, requirements}
use Rattle.oc_regcheck.proofs.InputLaws.{function_small}
use Rattle.oc_region.proofs.Elements.{Each, each_all}
use Rattle.oc_regcheck.specs.declared.verdict.BlockVerdict.{BlockVerdict}
use Rattle.oc_regcheck.specs.declared.verdict.BlockVerdict.TheVariants.{Covered, Open}
use Rattle.oc_regcheck.specs.Enough.{AreCovered, IsVerdict, is_covering, TellsCovered}
use Rattle.oc_regcheck.specs.Code.{IsVerdictBy}
use Rattle.oc_regcheck.proofs.Exact.{first_is, second_is, covered_so, open_so}

pub from_code : (p : TProgram) → Numbered p → (blocks : List ℕ) (v : BlockVerdict) → IsVerdictBy p (is_number_of blocks) v → IsVerdict p blocks v
from_code p form blocks Covered h = first_is p form blocks ∙ h
from_code p form blocks (Open policy function first second) h = record {
  requirement = h.requirement;
  found = first_is p form blocks ∙ h.found;
  policy_is = h.policy_is;
  function_is = h.function_is;
  first_is = h.first_is;
  second_is = second_is p form blocks first h.requirement.sites ∙ h.second_is;
}

-- blocks in order answer for the blocks as they were given
pub from_sorted : (p : TProgram) → Numbered p → (sorted blocks : List ℕ) → ((t : ℕ) → is_number_of sorted t ≡ is_number_of blocks t) → (v : BlockVerdict)
    → IsVerdictBy p (is_number_of sorted) v → IsVerdict p blocks v
from_sorted p form sorted blocks same v h = from_code p form blocks v (subst (λ (f : ℕ → Bool). IsVerdictBy p f v) (λ i t. same t i) h)

pub tells : (p : TProgram) (groups : List Group) → IsChecked p groups → (blocks : List ℕ) (v : BlockVerdict) → IsVerdict p blocks v → TellsCovered p blocks v
tells p groups checked blocks Covered h = covered_so p groups checked blocks h
tells p groups checked blocks (Open policy function first second) h = open_so p groups checked blocks h.requirement h.found

pub covering : (p : TProgram) (groups : List Group) → IsChecked p groups → (blocks : List ℕ) (v : BlockVerdict) → IsVerdict p blocks v → is_covering v ≡ true → AreCovered p blocks
covering p groups checked blocks Covered h e = covered_so p groups checked blocks h
covering p groups checked blocks (Open policy function first second) h e = absurd (true≢false (sym e))

each_small : (n : ℕ) (rs : List TRequirement) → ((r : TRequirement) → IsOf r rs → r.function < n) → Each (λ r. r.function < n) rs
each_small n [] h = tt
each_small n (r ∷ rs) h = (h r (inl refl), each_small n rs (λ q o. h q (inr o)))

pub functions_small : (p : TProgram) (n : ℕ) → n ≡ length p.functions → (rs : List TRequirement) → rs ≡ requirements p → All (λ r. r.function < n) rs
functions_small p n e rs f = each_all (λ r. r.function < n) rs (each_small n rs (λ r o. subst (λ k. r.function < k) (sym e) (function_small p r (subst (IsOf r) f o))))

-- one of them
pub item_small : (n : ℕ) (xs : List Requirement) (i : ℕ) (x : Requirement) → All (λ r. r.function < n) (map requirement_view xs) → i < length xs → x ≡ get_or xs i x → x.function < n
item_small n xs i x h k read =
    let view = requirement_view x in
    let many = length-map xs requirement_view in
    subst (λ (r : TRequirement). r.function < n) (get_of_map requirement_view xs i x view k read) (h i view (omega (arith, k, many)))
