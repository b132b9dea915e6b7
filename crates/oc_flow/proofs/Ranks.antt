-- In a checked program the rank of a function falls along calls.
use Rattle.std.proofs.Common.{◌≡◌, ◌<◌, inl, inr, ℕ, suc, ◌+◌, ◌++◌, Bool, true, false, List, [], ◌∷◌, length, map, Option, Some, None, refl, ap, sym, ◌∙◌, subst, arith}
use Rattle.std.specs.Prelude.{cond, option_map, option_and_then, slice_get}
use Rattle.std.specs.Str.{bytes_eq}
use Rattle.std.proofs.lemmas.List.{map-append, length-map}
use Rattle.std.proofs.lemmas.Option.{none-some, same_Some}
use Rattle.oc_tree.specs.Names.{Text}
use Rattle.oc_tree.specs.Tree.{TCall, call, TRight, right_value, right_sense, right_call, TKind, let_to, assign, assign_index, assign_deref, if_else, for_in, while_do, call_only}
use Rattle.oc_tree.specs.Tree.{TElse, no_else, else_do, stmt, TBlock, block, TStmts, no_stmts, more, TFunction, TProgram}
use Rattle.oc_tree.specs.declared.tree.VarId.TheVariants as variables
use Rattle.oc_tree.specs.Calls.{place_from, function_names, function_place, callee, expr_calls, right_calls, own_calls, kind_kinds, else_kinds, block_kinds, stmts_kinds, body_calls, call_links}
use Rattle.oc_tree.specs.Places.{Place, Placed, behind, in_branch, in_loop, at_start, kind_placed, else_placed, block_placed, stmts_placed}
use Rattle.oc_tree.specs.Reach.{rank}
use Rattle.oc_tree.specs.Checked.{Group, IsChecked}
use Rattle.oc_effects.specs.Effects.{TCalled, TEffect, right_call_of, call_of, called_at, called_by, effect_of, function_effects, effects, effects_at}
use Rattle.oc_desugar.proofs.FineCalls.{Each, each_back}
use Rattle.oc_checked.proofs.Ranks.{rank_at, rank_of, Onwards, rank_small}
use Rattle.oc_checked.proofs.CallLinks.{KindsCall, each_kind, last_call, none_hides, body_away, links_onwards}
use Rattle.oc_checked.proofs.CallsFall.{Lower, ranks_fall}
use Rattle.oc_checked.proofs.BodiesPass.{function_fine}
use Rattle.oc_checked.proofs.Declared.{AllWithin, all_within}
use Rattle.oc_checked.proofs.Mains.{own_place}
use Rattle.oc_tree.specs.Members.{IsOf}
use Rattle.oc_laws.proofs.Members.{some_at, at_place, image_of}
use Rattle.oc_flow.proofs.Fixpoint.{Ranked}
use Rattle.oc_flow.proofs.Lists.{row_within}

-- ---- the statements with places are those of the body

abbrev kinds : List Placed → List TKind
kinds ps = map (λ a. a.kind) ps

mutual
  kind_told : (at : Place) (id : ℕ) (k : TKind) → k ∷ kinds (kind_placed at id k) ≡ kind_kinds None k
  kind_told at id (if_else c a b) = ap (λ ks. if_else c a b ∷ ks) (map-append (λ a. a.kind) (block_placed (in_branch at id) a) (else_placed (in_branch at id) b)
      ∙ (λ i. block_told (in_branch at id) a i ++ else_told (in_branch at id) b i))
  kind_told at id (for_in x m n b) = ap (λ ks. for_in x m n b ∷ ks) (block_told (in_loop at id ((x, variables.Declared id) ∷ [])) b)
  kind_told at id (while_do c n b) = ap (λ ks. while_do c n b ∷ ks) (block_told (in_loop at id []) b)
  kind_told at id _ = refl

  else_told : (at : Place) (b : TElse) → kinds (else_placed at b) ≡ else_kinds None b
  else_told at no_else = refl
  else_told at (else_do b) = block_told at b

  block_told : (at : Place) (b : TBlock) → kinds (block_placed at b) ≡ block_kinds None b
  block_told at (block id ss) = stmts_told (record at { block = id }) ss

  stmts_told : (at : Place) (ss : TStmts) → kinds (stmts_placed at ss) ≡ stmts_kinds None ss
  stmts_told at no_stmts = refl
  stmts_told at (more (stmt id line k) ss) =
      ap (λ ks. k ∷ ks) (map-append (λ a. a.kind) (kind_placed at id k) (stmts_placed (behind at id k) ss))
      ∙ (λ i. kind_told at id k i ++ stmts_told (behind at id k) ss i)
      ∙ ap (λ b. kind_kinds None k ++ cond b [] (stmts_kinds None ss)) (sym (none_hides k))

-- ---- the call of an effect is one of its function's body

module _ (P : TCall → Type 0) where
  right_is : (r : TRight) (c : TCall) → right_call_of r ≡ Some c → Each P (right_calls r) → P c
  right_is (right_value e) c q h = absurd (none-some c q)
  right_is (right_sense s) c q h = absurd (none-some c q)
  right_is (right_call d) c q h = subst P (same_Some d c q) (last_call P d h)

  own_is : (k : TKind) (c : TCall) → call_of k ≡ Some c → Each P (own_calls k) → P c
  own_is (let_to m x t r) c q h = right_is r c q h
  own_is (assign x r) c q h = right_is r c q h
  own_is (assign_index x i r) c q h = right_is r c q (each_back P (expr_calls i) (right_calls r) h)
  own_is (assign_deref x r) c q h = right_is r c q h
  own_is (call_only d) c q h = subst P (same_Some d c q) (last_call P d h)
  own_is k c q h = absurd (none-some c q)

  placed_is : (ps : List Placed) → KindsCall P (kinds ps) → (a : Placed) → IsOf a ps → Each P (own_calls a.kind)
  placed_is [] h a i = absurd i
  placed_is (b ∷ ps) h a (inl e) = subst (λ x. Each P (own_calls x.kind)) (sym e) h.0
  placed_is (b ∷ ps) h a (inr i) = placed_is ps h.1 a i

-- what a call of an effect tells
pub record Tells (p : TProgram) (a : Placed) (c : TCalled) : Type 0 where
  pub called : TCall
  pub is : call_of a.kind ≡ Some called
  pub place : function_place p.functions (callee called) ≡ Some c.function

by_name : (p : TProgram) (a : Placed) (k : TCall) (c : TCalled) → called_by p a k ≡ Some c → function_place p.functions (callee k) ≡ Some c.function
by_name p a (call f args) c h = go (function_place p.functions f) refl h
  where
    go : (o : Option ℕ) → function_place p.functions f ≡ o → option_map (called_at p a args) o ≡ Some c → function_place p.functions f ≡ Some c.function
    go None e h = absurd (none-some c h)
    go (Some g) e h = e ∙ ap (λ (d : TCalled). Some d.function) (same_Some (called_at p a args g) c h)

tells : (p : TProgram) (a : Placed) (c : TCalled) → (effect_of p a).call ≡ Some c → Tells p a c
tells p a c h = go (call_of a.kind) refl h
  where
    go : (o : Option TCall) → call_of a.kind ≡ o → option_and_then (called_by p a) o ≡ Some c → Tells p a c
    go None e h = absurd (none-some c h)
    go (Some k) e h = record { called = k; is = e; place = by_name p a k c h }

-- what is found at a place stands before the end
place_below : (n : ℕ) (xs : List Text) (x : Text) (i : ℕ) → place_from n xs x ≡ Some i → i < n + length xs
place_below n [] x i e = absurd (none-some i e)
place_below n (y ∷ ys) x i e = go (bytes_eq x y) e (place_below (n + 1) ys x i)
  where
    go : (b : Bool) → cond b (Some n) (place_from (n + 1) ys x) ≡ Some i → (place_from (n + 1) ys x ≡ Some i → i < n + 1 + length ys) → i < n + suc (length ys)
    go true h rest = let same : n ≡ i = same_Some n i h in omega (arith, same)
    go false h rest = let l = rest h in omega (arith, l)

module _ (p : TProgram) (groups : List Group) (checked : IsChecked p groups) where
  declared : AllWithin p
  declared = all_within p checked.form.declared checked.unbroken

  onwards : Onwards (call_links p.functions) (length p.functions)
  onwards = links_onwards p (λ u f e. body_away p u f (function_fine p checked.unbroken checked.form.declared u f e).body)

  count : length (effects p) ≡ length p.functions
  count = length-map p.functions (function_effects p)

  within : (f : ℕ) (a : TEffect) → IsOf a (effects_at p f) → f < length p.functions
  within f a i = let l = row_within (effects p) f a i in omega (arith, l, count)

  -- where an effect stands
  pub record Stands (f : ℕ) (a : TEffect) : Type 0 where
    pub function : TFunction
    pub at : slice_get p.functions f ≡ Some function
    pub placed : Placed
    pub one : IsOf placed (block_placed (at_start function) function.body)
    pub is : a ≡ effect_of p placed

  effect_stands : (f : ℕ) (a : TEffect) → IsOf a (effects_at p f) → Stands f a
  effect_stands f a i =
      let g = some_at p.functions f (within f a i) in
      let z = image_of (effect_of p) (block_placed (at_start g.0) g.0.body) a (subst (λ es. IsOf a es) (at_place (function_effects p) p.functions f g.0 [] g.1) i) in
      record { function = g.0; at = g.1; placed = z.0; one = z.1; is = z.2 }

  inside : (f : ℕ) (a : TEffect) (c : TCalled) → IsOf a (effects_at p f) → a.call ≡ Some c → c.function < length p.functions
  inside f a c i e =
      let s = effect_stands f a i in
      let t = tells p s.placed c (subst (λ x. x.call ≡ Some c) s.is e) in
      let l = place_below 0 (function_names p.functions) (callee t.called) c.function t.place in
      let n : length (function_names p.functions) ≡ length p.functions = length-map p.functions (λ f. f.name) in
      omega (arith, l, n)

  pub small : (f : ℕ) → f < length p.functions → rank (call_links p.functions) (length p.functions) f < length p.functions
  small f l = rank_small (call_links p.functions) (length p.functions) onwards f l

  pub falls : (f : ℕ) (a : TEffect) (c : TCalled) → IsOf a (effects_at p f) → a.call ≡ Some c
      → rank (call_links p.functions) (length p.functions) c.function < rank (call_links p.functions) (length p.functions) f
  falls f a c i e =
      let s = effect_stands f a i in
      let fs = p.functions in
      let g = s.function in
      let low = Lower p (rank_of fs) (rank_of fs g.name) in
      let t = tells p s.placed c (subst (λ x. x.call ≡ Some c) s.is e) in
      let all : Each low (body_calls g) = ranks_fall p checked.unbroken checked.form.declared declared f g s.at in
      let each : KindsCall low (kinds (block_placed (at_start g) g.body)) = subst (λ ks. KindsCall low ks) (sym (block_told (at_start g) g.body)) (each_kind low (block_kinds None g.body) all) in
      let own : Each low (own_calls s.placed.kind) = placed_is low (block_placed (at_start g) g.body) each s.placed s.one in
      let less : rank_of fs (callee t.called) < rank_of fs g.name = own_is low s.placed.kind t.called t.is own c.function t.place in
      let here : rank_of fs g.name ≡ rank (call_links fs) (length fs) f = ap (rank_at fs) (own_place p declared f g s.at) in
      let there : rank_of fs (callee t.called) ≡ rank (call_links fs) (length fs) c.function = ap (rank_at fs) t.place in
      omega (arith, less, here, there)

  pub ranked : Ranked p
  ranked = record {
    rank = rank (call_links p.functions) (length p.functions);
    small = small;
    within = within;
    inside = inside;
    falls = falls;
  }
