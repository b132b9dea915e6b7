-- A function whose statements all come before a region, or all behind it, has none of the region.
use Rattle.std.proofs.Common.{◌≡◌, ◌<◌, ◌≤◌, ◌-◌, ℕ, suc, Bool, true, false, List, [], ◌∷◌, length, map, cond, refl, sym, ap, ◌∙◌, subst, arith, Some}
use Rattle.std.specs.Prelude.{◌&&◌, ◌||◌, filter, nat_le, slice_get, sum_by}
use Rattle.std.specs.List.{list_any}
use Rattle.std.proofs.lemmas.Bool.{or_from, or_parts}
use Rattle.oc_reach.proofs.Lists.{at_place}
use Rattle.oc_tree.specs.Tree.{TFunction, TProgram}
use Rattle.oc_tree.specs.Checked.{same_block}
use Rattle.oc_tree.specs.Places.{Placed, at_start, block_of, block_placed}
use Rattle.oc_tree.specs.Marked.{TRegion, TMarked, is_in_region}
use Rattle.oc_tree.specs.Picked.{block_spent}
use Rattle.oc_effects.specs.Effects.{TEffect, effect_of, effects_at, function_effects}
use Rattle.oc_effects.proofs.Numbering.{Consecutive}
use Rattle.oc_budget.specs.Budgets.{held_cost}
use Rattle.oc_budget.specs.Spent.{has_within, is_within}
use Rattle.oc_budget.proofs.SpentLaws.{block_is}

second_false : (b c : Bool) → c ≡ false → (b && c) ≡ false
second_false true c h = h
second_false false c h = refl

-- ---- numbers

-- those from one on that comes behind the last
pub none_behind : (r : TRegion) (first : ℕ) (es : List TEffect) → Consecutive first es → r.last < first → has_within r es ≡ false
none_behind r first [] h l = refl
none_behind r first (e ∷ es) h l =
    let head : e.stmt ≡ first = cc in
    let tail : Consecutive (suc first) es = cc in
    let test : nat_le e.stmt r.last ≡ false = grind (arith, head, l) in
    or_from (is_within r e.stmt) (has_within r es) (second_false (nat_le r.first e.stmt) (nat_le e.stmt r.last) test) (none_behind r (suc first) es tail (omega (arith, l)))

-- so many that they don't reach the first
pub none_before : (r : TRegion) (first : ℕ) (es : List TEffect) → Consecutive first es → length es ≤ r.first - first → has_within r es ≡ false
none_before r first [] h l = refl
none_before r first (e ∷ es) h l =
    let head : e.stmt ≡ first = cc in
    let tail : Consecutive (suc first) es = cc in
    let low : e.stmt < r.first = omega (arith, head, l) in
    let test : nat_le r.first e.stmt ≡ false = grind (arith, low) in
    or_from (is_within r e.stmt) (has_within r es) (ap (λ b. b && nat_le e.stmt r.last) test) (none_before r (suc first) es tail (omega (arith, l)))

-- ---- costs

within_placed : (p : TProgram) (r : TRegion) (xs : List Placed) → has_within r (map (effect_of p) xs) ≡ list_any (λ a. is_within r a.id) xs
within_placed p r [] = refl
within_placed p r (a ∷ xs) = ap (λ b. is_within r a.id || b) (within_placed p r xs)

none_picked : (p : TProgram) (r : TRegion) (xs : List Placed) → list_any (λ a. is_within r a.id) xs ≡ false → filter (λ a. is_in_region p r a.id) xs ≡ []
none_picked p r [] h = refl
none_picked p r (a ∷ xs) h =
    let s = or_parts (is_within r a.id) (list_any (λ a. is_within r a.id) xs) h in
    ap (λ b. cond b (a ∷ filter (λ a. is_in_region p r a.id) xs) (filter (λ a. is_in_region p r a.id) xs))
    (second_false (same_block (block_of p a.id) (Some r.block)) (is_within r a.id) s.0)
    ∙ none_picked p r xs s.1

-- the function at a place costs the region nothing
pub none_spent : (m : TMarked) (r : TRegion) (place : ℕ) (f : TFunction) → slice_get m.program.functions place ≡ Some f → has_within r (effects_at m.program place) ≡ false
    → block_spent (is_in_region m.program r) (held_cost m) f.body ≡ 0
none_spent m r place f at h =
    let own = at_place (function_effects m.program) m.program.functions place f [] at in
    let xs = block_placed (at_start f) f.body in
    let none : list_any (λ a. is_within r a.id) xs ≡ false = sym (within_placed m.program r xs) ∙ (ap (has_within r) (sym own) ∙ h) in
    block_is (is_in_region m.program r) (held_cost m) (at_start f) f.body ∙ ap (sum_by (λ a. held_cost m a.id a.kind)) (none_picked m.program r xs none)

-- the same of the functions of a program that is known to be another one's
pub apart_behind : (p q : TProgram) (r : TRegion) (place first : ℕ) → p ≡ q → Consecutive first (effects_at p place) → r.last < first → has_within r (effects_at q place) ≡ false
apart_behind p q r place first e h l = subst (λ q. has_within r (effects_at q place) ≡ false) e (none_behind r first (effects_at p place) h l)

pub apart_before : (p q : TProgram) (r : TRegion) (place first : ℕ) → p ≡ q → Consecutive first (effects_at p place) → length (effects_at p place) ≤ r.first - first → has_within r (effects_at q place) ≡ false
apart_before p q r place first e h l = subst (λ q. has_within r (effects_at q place) ≡ false) e (none_before r first (effects_at p place) h l)
