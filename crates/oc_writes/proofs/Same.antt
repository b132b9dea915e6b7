-- The targets that code adds are those of the region.
use Rattle.std.proofs.Common.{◌≡◌, ◌<◌, ℕ, zero, suc, ◌+◌, refl, sym, ap, ◌∙◌, subst, arith, Bool, true, false, List, [], ◌∷◌, ◌++◌, map, length, Some, None, cond}
use Rattle.std.specs.Prelude.{position, nat_lt}
use Rattle.std.proofs.lemmas.Bool.{ltb-true}
use Rattle.std.specs.List.{All, position_or_len}
use Rattle.std.proofs.lemmas.List.{length-map}
use Rattle.std.proofs.Math.ListN.{get_or}
use Rattle.oc_tree.specs.Names.{Text}
use Rattle.oc_tree.specs.Tree.{TProgram}
use Rattle.oc_tree.specs.View.{function_view}
use Rattle.oc_tree.specs.declared.tree.NvDecl.{NvDecl}
use Rattle.oc_tree.specs.declared.tree.Param.{Param}
use Rattle.oc_tree.specs.declared.tree.Function.{Function}
use Rattle.oc_tree.specs.declared.said.Target.{Target}
use Rattle.oc_tree.specs.declared.said.Target.TheVariants as targets
use Rattle.oc_tree.specs.Marked.{TRegion, IsRegion, TMarked, IsMarked}
use Rattle.oc_tree.specs.Regions.{region_view}
use Rattle.oc_tree.specs.declared.marked.Region.{Region}
use Rattle.oc_effects.specs.Effects.{TEffect, params_at}
use Rattle.oc_writes.specs.Targets.{region_effects, assigns_nv, assigns_param, nv_targets, param_targets, region_targets, words_of}
use Rattle.oc_writes.specs.Seen.{TStored, stored_from, stored_targets, slot_targets}

module _ (p : TProgram) (r : TRegion) where
  same_stored : (i base : ℕ) (xs : List Text) (ds : List NvDecl) → stored_targets p (region_effects p r) (stored_from p i base xs ds) ≡ nv_targets p r i base xs ds
  same_stored i base [] ds = refl
  same_stored i base (x ∷ xs) [] = refl
  same_stored i base (x ∷ xs) (d ∷ ds) = ap (λ ts. cond (assigns_nv p r i x) (targets.Nv base d.words ∷ []) [] ++ ts) (same_stored (i + 1) (base + d.words) xs ds)

  same_slots : (i : ℕ) (qs : List Param) → slot_targets p (region_effects p r) i qs ≡ param_targets p r i qs
  same_slots i [] = refl
  same_slots i (q ∷ qs) = ap (λ ts. cond (assigns_param p r i) (targets.Param i (words_of q.kind) ∷ []) [] ++ ts) (same_slots (i + 1) qs)

  pub same_targets : (qs : List Param) → params_at p r.function ≡ qs → stored_targets p (region_effects p r) (stored_from p 0 0 p.names.nvs p.nv) ++ slot_targets p
      (region_effects p r) 0 qs ≡ region_targets p r
  same_targets qs e =
      let a = same_stored 0 0 p.names.nvs p.nv in
      let b = same_slots 0 qs ∙ ap (param_targets p r 0) (sym e) in
      (λ i. a i ++ b i)

  -- of both steps
  pub targets_made : (t : TProgram) (es fs : List TEffect) (ss : List TStored) (qs : List Param) (start middle all : List Target) → start ≡ [] → t ≡ p → es ≡ region_effects p r
      → fs ≡ region_effects p r → ss ≡ stored_from p 0 0 p.names.nvs p.nv → params_at p r.function ≡ qs → middle ≡ start ++ stored_targets t es ss
      → all ≡ middle ++ slot_targets t fs 0 qs → all ≡ region_targets p r
  targets_made t es fs ss qs start middle all none same first second stored params m a =
      let e : all ≡ stored_targets t es ss ++ slot_targets t fs 0 qs = a ∙ ap (λ x. x ++ slot_targets t fs 0 qs) (m ∙ ap (λ x. x ++ stored_targets t es ss) none) in
      let f : stored_targets t es ss ++ slot_targets t fs 0 qs ≡ stored_targets p (region_effects p r) (stored_from p 0 0 p.names.nvs p.nv) ++ slot_targets p (region_effects p r) 0 qs =
      (λ i. stored_targets (same i) (first i) (stored i) ++ slot_targets (same i) (second i) 0 qs) in
      e ∙ f ∙ same_targets qs params

-- a place that is found lies inside the list
pub position_below : {A : Type 0} (test : A → Bool) (xs : List A) (u : ℕ) → position test xs ≡ Some u → u < length xs
position_below test xs u e = by_test (nat_lt (position_or_len test xs) (length xs)) refl e
  where
    by_test : (b : Bool) → nat_lt (position_or_len test xs) (length xs) ≡ b → cond b (Some (position_or_len test xs)) None ≡ Some u → u < length xs
    by_test true t h =
        let s : position_or_len test xs ≡ u = cc in
        let l = ltb-true (position_or_len test xs) (length xs) t in
        omega (arith, s, l)
    by_test false t h = cc

-- the functions of regions exist
each_below : (p : TProgram) (n : ℕ) (rs : List Region) → All (IsRegion p n) (map region_view rs) → (k : ℕ) (d : Region) → k < length rs → (get_or rs k d).function < length p.functions
each_below p n [] a k d l = absurd (omega (arith, l))
each_below p n (r ∷ rs) a zero d l = position_below _ p.functions r.function (a 0 (region_view r) (omega arith)).function_there
each_below p n (r ∷ rs) a (suc k) d l = each_below p n rs (λ j e m. a (suc j) e (omega (arith, m))) k d (omega (arith, l))

pub functions_below : (m : TMarked) (fs : List Function) (rs : List Region) → IsMarked m → map region_view rs ≡ m.regions → m.program.functions ≡ map function_view fs
    → (k : ℕ) (d : Region) → k < length rs → (get_or rs k d).function < length fs
functions_below m fs rs marked e f k d l =
    let a : All (IsRegion m.program (length m.policies)) (map region_view rs) = subst (All (IsRegion m.program (length m.policies))) (sym e) marked.regions.each in
    let b = each_below m.program (length m.policies) rs a k d l in
    let n : length m.program.functions ≡ length fs = ap length f ∙ length-map fs function_view in
    subst (λ z. (get_or rs k d).function < z) n b
