-- The smallest range of a requirement lies directly in a block of its function.
use Rattle.std.proofs.Common.{◌≡◌, ◌<◌, ◌≤◌, ℕ, true, true≢false, List, [], ◌∷◌, Option, Some, None, min, max, refl, ap, sym, subst, ◌∙◌, inl, inr, arith}
use Rattle.std.specs.Prelude.{◌⊎◌, ◌&&◌, nat_le, option_map, option_to_list, option_and_then}
use Rattle.std.proofs.lemmas.Bool.{eqb-true, leb-true, and_parts, cases_lt}
use Rattle.oc_tree.specs.Tree.{TProgram}
use Rattle.oc_tree.specs.Form.{Numbered}
use Rattle.oc_tree.specs.Places.{block_of}
use Rattle.oc_tree.specs.Checked.{Group, same_block, is_group, is_in_group, group_of, AreGroups}
use Rattle.oc_tree.specs.Marked.{TRegion, function_of}
use Rattle.oc_needs.specs.Requirements.{TRequirement}
use Rattle.oc_region.specs.Smallest.{line_up, in_block, common_block, spread_on, spread, groups_in, range_in, smallest}
use Rattle.oc_region.proofs.Elements.{Each, each_weaker, each_find, each_flat_map, all_each}
use Rattle.oc_region.proofs.Owners.{function_of_block, statement_function, block_function, around_function}
use Rattle.oc_region.proofs.Required.{Own, Asks}

-- a range of statements directly in a block, which stands in its function
pub record IsRangeOf (p : TProgram) (r : TRegion) : Type 0 where
  pub ordered : r.first ≤ r.last
  pub first_there : block_of p r.first ≡ Some r.block
  pub last_there : block_of p r.last ≡ Some r.block
  pub function_there : function_of_block p r.block ≡ Some r.function

-- ---- tests

pub same_block_is : (o : Option ℕ) (b : ℕ) → same_block o (Some b) ≡ true → o ≡ Some b
same_block_is None b e = absurd (true≢false (sym e))
same_block_is (Some c) b e = ap Some (eqb-true c b e)

block_along : (o : Option ℕ) (b : ℕ) (q : Option ℕ) → q ≡ Some b → same_block q o ≡ true → o ≡ Some b
block_along None b q is e = absurd (true≢false (sym (ap (λ x. same_block x None) (sym is) ∙ e)))
block_along (Some c) b q is e = ap Some (sym (eqb-true b c (ap (λ x. same_block x (Some c)) (sym is) ∙ e)))

-- ---- groups

-- a group directly in a block
pub record GroupIn (p : TProgram) (block : ℕ) (g : Group) : Type 0 where
  pub ordered : g.0 ≤ g.1
  pub first_there : block_of p g.0 ≡ Some block
  pub last_there : block_of p g.1 ≡ Some block

module _ (p : TProgram) (block : ℕ) where
  along_min : (a b : ℕ) → block_of p a ≡ Some block → block_of p b ≡ Some block → block_of p (min a b) ≡ Some block
  along_min a b h k = by_order (cases_lt a b)
    where
      by_order : (a < b) ⊎ (b ≤ a) → block_of p (min a b) ≡ Some block
      by_order (inl l) = let e : a ≡ min a b = omega (arith, l) in subst (λ n. block_of p n ≡ Some block) e h
      by_order (inr l) = let e : b ≡ min a b = omega (arith, l) in subst (λ n. block_of p n ≡ Some block) e k

  along_max : (a b : ℕ) → block_of p a ≡ Some block → block_of p b ≡ Some block → block_of p (max a b) ≡ Some block
  along_max a b h k = by_order (cases_lt a b)
    where
      by_order : (a < b) ⊎ (b ≤ a) → block_of p (max a b) ≡ Some block
      by_order (inl l) = let e : b ≡ max a b = omega (arith, l) in subst (λ n. block_of p n ≡ Some block) e k
      by_order (inr l) = let e : a ≡ max a b = omega (arith, l) in subst (λ n. block_of p n ≡ Some block) e h

  spread_on_in : (g : Group) (gs : List Group) → GroupIn p block g → Each (GroupIn p block) gs → GroupIn p block (spread_on g gs)
  spread_on_in g [] h each = h
  spread_on_in g (k ∷ gs) h each =
      spread_on_in (min g.0 k.0, max g.1 k.1) gs (record {
        ordered = (let a = h.ordered in omega (arith, a));
        first_there = along_min g.0 k.0 h.first_there each.0.first_there;
        last_there = along_max g.1 k.1 h.last_there each.0.last_there;
      }) each.1

module _ (p : TProgram) (groups : List Group) (are : AreGroups p groups) where
  pub group_in : (block s : ℕ) (g : Group) → block_of p s ≡ Some block → group_of p groups s ≡ Some g → GroupIn p block g
  group_in block s g there e =
      let found = each_find (λ h. is_group p h ≡ true) (is_in_group p s) groups g e (all_each (λ h. is_group p h ≡ true) groups are.ranges) in
      let first = block_along (block_of p g.0) block (block_of p s) there (and_parts (same_block (block_of p s) (block_of p g.0)) (nat_le g.0 s && nat_le s g.1) found.0).0 in
      let parts = and_parts (nat_le g.0 g.1) (same_block (block_of p g.0) (block_of p g.1)) found.1 in
      record { ordered = leb-true g.0 g.1 parts.0; first_there = first; last_there = block_along (block_of p g.1) block (block_of p g.0) first parts.1 }

  module _ (numbered : Numbered p) where
    -- the statements around a statement of a function are statements of it
    line_up_function : (k s : ℕ) → Own p k s → Each (λ t. function_of p t ≡ Some k) (line_up p s)
    line_up_function k s own = (statement_function p numbered.statements numbered.blocks k s own, around_function p numbered.statements numbered.blocks k s own)

    -- the group of a statement that stands in the block
    abbrev InOwn : ℕ → ℕ → Group → Type 0
    InOwn k block g = GroupIn p block g × (function_of_block p block ≡ Some k)

    one_group : (k block s : ℕ) → Own p k s → Each (InOwn k block) (option_to_list (option_and_then (group_of p groups) (in_block p block s)))
    one_group k block s own = by_statement (in_block p block s) refl
      where
        by_group : (t : ℕ) (o : Option Group) → block_of p t ≡ Some block → function_of p t ≡ Some k → group_of p groups t ≡ o → Each (InOwn k block) (option_to_list o)
        by_group t None there own is = tt
        by_group t (Some g) there own is = ((group_in block t g there is, sym (block_function p numbered.statements numbered.blocks t block there) ∙ own), tt)

        by_statement : (o : Option ℕ) → in_block p block s ≡ o → Each (InOwn k block) (option_to_list (option_and_then (group_of p groups) o))
        by_statement None is = tt
        by_statement (Some t) is =
            let found = each_find (λ n. function_of p n ≡ Some k) (λ n. same_block (block_of p n) (Some block)) (line_up p s) t is (line_up_function k s own) in
            by_group t (group_of p groups t) (same_block_is (block_of p t) block found.0) found.1 refl

    groups_in_own : (k block : ℕ) (ss : List ℕ) → Each (Own p k) ss → Each (InOwn k block) (groups_in p groups block ss)
    groups_in_own k block ss own = each_flat_map (Own p k) (InOwn k block) (λ s. option_to_list (option_and_then (group_of p groups) (in_block p block s))) (λ s h. one_group k block s h) ss own

    -- the range in a block
    abbrev Sound : Option TRegion → Type 0
    Sound None = Unit {0}
    Sound (Some r) = IsRangeOf p r

    range_sound : (n : ℕ) (r : TRequirement) (block : ℕ) → Asks p n r → Sound (range_in p groups r block)
    range_sound n r block asks = by_groups (groups_in p groups block r.sites) (groups_in_own r.function block r.sites asks.sites)
      where
        by_groups : (gs : List Group) → Each (InOwn r.function block) gs
            → Sound (option_map (λ g. record { id = 0; function = r.function; block = block; first = g.0; last = g.1; reasons = [] }) (spread gs))
        by_groups [] each = tt
        by_groups (g ∷ gs) each =
            let all = spread_on_in p block g gs each.0.0 (each_weaker (InOwn r.function block) (GroupIn p block) (λ h k. k.0) gs each.1) in
            record { ordered = all.ordered; first_there = all.first_there; last_there = all.last_there; function_there = each.0.1 }

    pub smallest_sound : (n : ℕ) (r : TRequirement) → Asks p n r → Each (IsRangeOf p) (option_to_list (smallest p groups r))
    smallest_sound n r asks = by_block (common_block p r.sites)
      where
        listed : (o : Option TRegion) → Sound o → Each (IsRangeOf p) (option_to_list o)
        listed None h = tt
        listed (Some q) h = (h, tt)

        by_block : (o : Option ℕ) → Each (IsRangeOf p) (option_to_list (option_and_then (range_in p groups r) o))
        by_block None = tt
        by_block (Some block) = listed (range_in p groups r block) (range_sound n r block asks)
