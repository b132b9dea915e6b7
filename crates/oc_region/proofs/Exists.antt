-- Each requirement has a smallest range: the outermost block of its function holds its sites.
use Rattle.std.proofs.Common.{◌≡◌, ℕ, zero, suc, Bool, true, true≢false, ◌==◌, List, [], ◌∷◌, ◌++◌, length, map, Option, Some, None, refl, ap, sym, subst, ◌∙◌, inl, inr}
use Rattle.std.specs.Prelude.{◌⊎◌, All, flat_map, find, is_some, option_map, option_to_list, option_and_then}
use Rattle.std.specs.List.{list_any, list_all}
use Rattle.std.proofs.lemmas.Bool.{eqb-true, eq-eqb, or_left, or_right}
use Rattle.std.proofs.lemmas.List.{map-append}
use Rattle.oc_tree.specs.Tree.{TKind, if_else, for_in, while_do, TElse, no_else, else_do, stmt, TBlock, block, TStmts, no_stmts, more, TFunction, TProgram}
use Rattle.oc_tree.specs.declared.tree.VarId.TheVariants as variables
use Rattle.oc_tree.specs.Numbers.{kind_statements, else_statements, block_statements, stmts_statements}
use Rattle.oc_tree.specs.Form.{Numbered}
use Rattle.oc_tree.specs.Places.{Place, Placed, behind, in_branch, in_loop, at_start, kind_placed, else_placed, block_placed, stmts_placed, block_of}
use Rattle.oc_tree.specs.Checked.{Group, same_block, group_of, AreGroups, IsChecked}
use Rattle.oc_tree.specs.Marked.{TRegion, around}
use Rattle.oc_needs.specs.Policies.{policies}
use Rattle.oc_needs.specs.Requirements.{TRequirement, requirements}
use Rattle.oc_region.specs.Smallest.{line_up, in_block, blocks_of, common_block, spread, groups_in, range_in, smallest}
use Rattle.oc_region.specs.Law.{HasSmallest}
use Rattle.oc_region.proofs.Elements.{Each, each_weaker, each_append, each_left, each_right, each_any, each_all}
use Rattle.oc_region.proofs.Owners.{Owns, own_statements}
use Rattle.oc_region.proofs.Required.{Own, Asks, IsSome, asked}
use Rattle.oc_region.proofs.Ranges.{same_block_is}
use Rattle.oc_region.proofs.Chains.{IsOwn, all_own}
use Rattle.oc_region.proofs.Least.{In, any_found, find_passes, is_found, passing_all, Blocks, all_in_common, group_there, is_smallest}

-- ---- the statements with places, function by function

mutual
  kind_ids : (at : Place) (id : ℕ) (k : TKind) → map (λ a. a.id) (kind_placed at id k) ≡ kind_statements k
  kind_ids at id (if_else c a b) = map-append (λ a. a.id) (block_placed (in_branch at id) a) (else_placed (in_branch at id) b)
      ∙ (λ i. block_ids (in_branch at id) a i ++ else_ids (in_branch at id) b i)
  kind_ids at id (for_in x m n b) = block_ids (in_loop at id ((x, variables.Declared id) ∷ [])) b
  kind_ids at id (while_do c n b) = block_ids (in_loop at id []) b
  kind_ids at id _ = refl

  else_ids : (at : Place) (b : TElse) → map (λ a. a.id) (else_placed at b) ≡ else_statements b
  else_ids at no_else = refl
  else_ids at (else_do b) = block_ids at b

  block_ids : (at : Place) (b : TBlock) → map (λ a. a.id) (block_placed at b) ≡ block_statements b
  block_ids at (block id ss) = stmts_ids (record at { block = id }) ss

  stmts_ids : (at : Place) (ss : TStmts) → map (λ a. a.id) (stmts_placed at ss) ≡ stmts_statements ss
  stmts_ids at no_stmts = refl
  stmts_ids at (more (stmt id line k) ss) =
      ap (λ ns. id ∷ ns) (map-append (λ a. a.id) (kind_placed at id k) (stmts_placed (behind at id k) ss) ∙ (λ i. kind_ids at id k i ++ stmts_ids (behind at id k) ss i))

each_id : (P : ℕ → Type 0) (xs : List Placed) → Each (λ a. P a.id) xs → Each P (map (λ a. a.id) xs)
each_id P [] h = tt
each_id P (x ∷ xs) h = (h.0, each_id P xs h.1)

-- ---- the outermost block

abbrev root : TBlock → ℕ
root (block id ss) = id

abbrev root_in_else : TElse → ℕ
root_in_else no_else = 0
root_in_else (else_do b) = root b

module _ (p : TProgram) (b : ℕ) where
  abbrev stands : ℕ → Bool
  stands t = same_block (block_of p t) (Some b)

  -- in the block, or in a statement that stands there
  abbrev Under : Place → Type 0
  Under at = (at.block ≡ b) ⊎ (list_any stands at.around ≡ true)

  abbrev Lined : Placed → Type 0
  Lined a = list_any stands (line_up p a.id) ≡ true

  stands_own : (a : Placed) → IsOwn p a → a.at.block ≡ b → stands a.id ≡ true
  stands_own a own e = ap (λ o. same_block (option_map (λ x. x.at.block) o) (Some b)) own ∙ eq-eqb a.at.block b e

  line_own : (a : Placed) → IsOwn p a → list_any stands (a.id ∷ a.at.around) ≡ list_any stands (line_up p a.id)
  line_own a own = ap (λ o. list_any stands (a.id ∷ around o)) (sym own)

  under_own : (a : Placed) → IsOwn p a → Under a.at → list_any stands (a.id ∷ a.at.around) ≡ true
  under_own a own (inl e) = or_left (stands a.id) (list_any stands a.at.around) (stands_own a own e)
  under_own a own (inr h) = or_right (stands a.id) (list_any stands a.at.around) h

  mutual
    kind_lined : (at : Place) (id : ℕ) (k : TKind) → list_any stands (id ∷ at.around) ≡ true → Each (IsOwn p) (kind_placed at id k) → Each Lined (kind_placed at id k)
    kind_lined at id (if_else c x y) h own = each_append Lined (block_placed (in_branch at id) x) (else_placed (in_branch at id) y)
        (block_lined (in_branch at id) x (inr h) (each_left (IsOwn p) (block_placed (in_branch at id) x) (else_placed (in_branch at id) y) own))
        (else_lined (in_branch at id) y (inr h) (each_right (IsOwn p) (block_placed (in_branch at id) x) (else_placed (in_branch at id) y) own))
    kind_lined at id (for_in x m n y) h own = block_lined (in_loop at id ((x, variables.Declared id) ∷ [])) y (inr h) own
    kind_lined at id (while_do c n y) h own = block_lined (in_loop at id []) y (inr h) own
    kind_lined at id _ h own = tt

    else_lined : (at : Place) (y : TElse) → (root_in_else y ≡ b) ⊎ (list_any stands at.around ≡ true) → Each (IsOwn p) (else_placed at y) → Each Lined (else_placed at y)
    else_lined at no_else h own = tt
    else_lined at (else_do y) h own = block_lined at y h own

    block_lined : (at : Place) (y : TBlock) → (root y ≡ b) ⊎ (list_any stands at.around ≡ true) → Each (IsOwn p) (block_placed at y) → Each Lined (block_placed at y)
    block_lined at (block id ss) h own = stmts_lined (record at { block = id }) ss h own

    stmts_lined : (at : Place) (ss : TStmts) → Under at → Each (IsOwn p) (stmts_placed at ss) → Each Lined (stmts_placed at ss)
    stmts_lined at no_stmts h own = tt
    stmts_lined at (more (stmt id line k) ss) h own =
        let a : Placed = record { id = id; line = line; kind = k; at = at } in
        let u : list_any stands (id ∷ at.around) ≡ true = under_own a own.0 h in (
          sym (line_own a own.0) ∙ u,
          each_append Lined (kind_placed at id k) (stmts_placed (behind at id k) ss)
              (kind_lined at id k u (each_left (IsOwn p) (kind_placed at id k) (stmts_placed (behind at id k) ss) own.1))
              (stmts_lined (behind at id k) ss h (each_right (IsOwn p) (kind_placed at id k) (stmts_placed (behind at id k) ss) own.1)),
        )

-- the outermost block of the function at a place
abbrev root_at : List TFunction → ℕ → ℕ
root_at [] g = 0
root_at (f ∷ fs) zero = root f.body
root_at (f ∷ fs) (suc g) = root_at fs g

some_value : {A : Type 0} (o : Option A) → is_some o ≡ true → (x : A) × (o ≡ Some x)
some_value None e = absurd (true≢false (sym e))
some_value (Some x) e = (x, refl)

in_right : (b : ℕ) (xs ys : List ℕ) → In b ys → In b (xs ++ ys)
in_right b [] ys h = h
in_right b (x ∷ xs) ys h = inr (in_right b xs ys h)

module _ (p : TProgram) where
  root_stands : (fs : List TFunction) (g s : ℕ) → Owns own_statements fs g s → Each (IsOwn p) (flat_map (λ f. block_placed (at_start f) f.body) fs)
      → list_any (stands p (root_at fs g)) (line_up p s) ≡ true
  root_stands [] g s h own = absurd h
  root_stands (f ∷ fs) zero s h own =
      let P : ℕ → Type 0 = λ n. list_any (stands p (root f.body)) (line_up p n) ≡ true in
      let lined = block_lined p (root f.body) (at_start f) f.body (inl refl) (each_left (IsOwn p) (block_placed (at_start f) f.body) (flat_map (λ q. block_placed (at_start q) q.body) fs) own) in
      let each : Each P (block_statements f.body) = subst (Each P) (block_ids (at_start f) f.body) (each_id P (block_placed (at_start f) f.body) lined) in
      each_any P (λ m. m == s) (P s) (block_statements f.body) h each (λ m there same. subst P (eqb-true m s same) there)
  root_stands (f ∷ fs) (suc g) s h own = root_stands fs g s h (each_right (IsOwn p) (block_placed (at_start f) f.body) (flat_map (λ q. block_placed (at_start q) q.body) fs) own)

  in_blocks : (t b : ℕ) (ls : List ℕ) → In t ls → block_of p t ≡ Some b → In b (Blocks p ls)
  in_blocks t b [] h e = absurd h
  in_blocks t b (x ∷ l) (inl s) e = subst (λ o. In b (option_to_list o ++ Blocks p l)) (sym (ap (block_of p) (sym s) ∙ e)) (inl refl)
  in_blocks t b (x ∷ l) (inr h) e = in_right b (option_to_list (block_of p x)) (Blocks p l) (in_blocks t b l h e)

  -- in a block that holds them all some block is common to them
  common_there : (b : ℕ) (ss : List ℕ) → IsSome ss → Each (λ s. list_any (stands p b) (line_up p s) ≡ true) ss → (c : ℕ) × (common_block p ss ≡ Some c)
  common_there b [] some h = cc
  common_there b (s ∷ ss) some h =
      let test : ℕ → Bool = λ c. list_all (λ t. is_some (in_block p c t)) ss in
      let f = any_found (stands p b) (line_up p s) h.0 in
      let inside = in_blocks f.value b (line_up p s) f.inside (same_block_is (block_of p f.value) b f.passes) in
      let each : Each (λ t. is_some (in_block p b t) ≡ true) ss =
      each_weaker (λ t. list_any (stands p b) (line_up p t) ≡ true) (λ t. is_some (in_block p b t) ≡ true)
      (λ t k. (let q = any_found (stands p b) (line_up p t) k in is_found (stands p b) q.value (line_up p t) q.inside q.passes)) ss h.1 in
      some_value (find test (blocks_of p s)) (is_found test b (blocks_of p s) inside (passing_all (λ t. is_some (in_block p b t)) ss each))

  module _ (groups : List Group) (form : Numbered p) (are : AreGroups p groups) where
    some_groups : (b : ℕ) (ss : List ℕ) → IsSome ss → Each (λ s. is_some (in_block p b s) ≡ true) ss → groups_in p groups b ss ≡ [] → ⊥
    some_groups b [] some h e = cc some
    some_groups b (s ∷ ss) some h e =
        let t = some_value (in_block p b s) h.0 in
        let block = same_block_is (block_of p t.0) b (find_passes (stands p b) (line_up p s) t.0 t.1) in
        let g = group_there p groups form are t.0 b block in
        let f : g.0 ∷ groups_in p groups b ss ≡ [] = ap (λ o. option_to_list o ++ groups_in p groups b ss) (sym (ap (option_and_then (group_of p groups)) t.1 ∙ g.1)) ∙ e in
        cc f

    range_there : (r : TRequirement) (b : ℕ) → IsSome r.sites → common_block p r.sites ≡ Some b → (x : TRegion) × (range_in p groups r b ≡ Some x)
    range_there r b some common = by_groups (groups_in p groups b r.sites) refl
      where
        by_groups : (gs : List Group) → groups_in p groups b r.sites ≡ gs
            → (x : TRegion) × (option_map (λ g. record { id = 0; function = r.function; block = b; first = g.0; last = g.1; reasons = [] }) (spread gs) ≡ Some x)
        by_groups [] e = absurd (some_groups b r.sites some (all_in_common p r.sites b common) e)
        by_groups (g ∷ gs) e = (_, refl)

    has_smallest : (n : ℕ) (r : TRequirement) → Asks p n r → HasSmallest p groups r
    has_smallest n r asks =
        let root_block : ℕ = root_at p.functions r.function in
        let each : Each (λ s. list_any (stands p root_block) (line_up p s) ≡ true) r.sites =
        each_weaker (Own p r.function) (λ s. list_any (stands p root_block) (line_up p s) ≡ true) (λ s own. root_stands p.functions r.function s own (all_own p form)) r.sites asks.sites in
        let common = common_there root_block r.sites asks.some each in
        let there = range_there r common.0 asks.some common.1 in
        let found : smallest p groups r ≡ Some there.0 = ap (option_and_then (range_in p groups r)) common.1 ∙ there.1 in
        record { range = there.0; found = found; smallest = is_smallest p groups form are r there.0 found }

-- each requirement of a checked program has a smallest range
pub each_smallest : (p : TProgram) (groups : List Group) → IsChecked p groups → All (HasSmallest p groups) (requirements p)
each_smallest p groups checked = each_all (HasSmallest p groups) (requirements p)
    (each_weaker (Asks p (length (policies p))) (HasSmallest p groups) (has_smallest p groups checked.form.numbered checked.grouped (length (policies p))) (requirements p) (asked p))
