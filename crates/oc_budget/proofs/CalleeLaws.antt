-- The cost of a function is told by the costs of its callees: each is worked out once, those of callees first.
use Rattle.std.proofs.Common.{◌≡◌, ◌<◌, ◌≤◌, ◌+◌, ◌*◌, ◌++◌, ℕ, zero, suc, Bool, true, false, List, length, Some, None, inr, max, refl, sym, ap, ◌∙◌, map-id, arith, set, subst}
use Rattle.std.specs.Prelude.{cond, is_some, slice_get, ◌||◌}
use Rattle.std.proofs.Math.ListN.{get_or}
use Rattle.oc_tree.specs.Tree.{TKind, if_else, for_in, while_do, consistent, TElse, no_else, else_do, stmt, TBlock, block, TStmts, no_stmts, more, TFunction, TProgram}
use Rattle.oc_tree.specs.Calls.{kind_kinds, else_kinds, block_kinds, stmts_kinds, call_links}
use Rattle.oc_tree.specs.Checked.{Group, IsChecked}
use Rattle.oc_tree.specs.Costs.{one, marks_at, probes, inner_cost, else_cost, block_cost, stmts_cost, function_cost, costs_to}
use Rattle.oc_tree.specs.Marked.{TRegion}
use Rattle.oc_tree.specs.Reach.{leads, some_below, rank}
use Rattle.oc_tree.specs.Weight.{expr_cost, turns}
use Rattle.oc_tree.proofs.ReachLaws.{least}
use Rattle.oc_checked.proofs.BodiesPass.{function_fine}
use Rattle.oc_checked.proofs.CallLinks.{body_away, links_onwards}
use Rattle.oc_checked.proofs.Ranks.{Onwards, falls}
use Rattle.oc_weight.specs.Order.{IsOrder, comes_back}
use Rattle.oc_weight.proofs.Callees.{KindsSame}
use Rattle.oc_weight.proofs.OrderTables.{IsWorked, entry, one_worked, all_worked}
use Rattle.oc_weight.proofs.WeightCallees.{front, back, split, kind_cost_same}
use Rattle.oc_budget.proofs.CostLaws.{costs_fit}

-- ---- the same of callees

module _ (fs : List TFunction) (uses : ℕ → Bool) (regions : List TRegion) (ws vs : List ℕ) where
  mutual
    inner_same : (n : ℕ) (k : TKind) → KindsSame fs ws vs (kind_kinds None k) → inner_cost fs uses regions ws n k ≡ inner_cost fs uses regions vs n k
    inner_same n (if_else t a b) h =
        let inner : KindsSame fs ws vs (block_kinds None a ++ else_kinds None b) = λ k i. h k (inr i) in
        let first = block_same a (front fs ws vs (block_kinds None a) (else_kinds None b) inner) in
        ap (λ c. expr_cost t + 1 + c)
        (else_same (block_cost fs uses regions ws a) (block_cost fs uses regions vs a) b first (back fs ws vs (block_kinds None a) (else_kinds None b) inner))
    inner_same n (for_in x from to b) h = ap (λ c. 6 + turns from to * (9 + c)) (block_same b (λ k i. h k (inr i)))
    inner_same n (while_do t bound b) h = ap (λ c. 6 + bound * (10 + one (uses n) + expr_cost t + c) + one (uses n)) (block_same b (λ k i. h k (inr i)))
    inner_same n (consistent x i) h = refl
    inner_same n k h = kind_cost_same fs ws vs k h

    else_same : (a c : ℕ) (b : TElse) → a ≡ c → KindsSame fs ws vs (else_kinds None b) → else_cost fs uses regions ws a b ≡ else_cost fs uses regions vs c b
    else_same a c no_else e h = e
    else_same a c (else_do b) e h = λ i. max (e i + 1) (block_same b h i)

    block_same : (b : TBlock) → KindsSame fs ws vs (block_kinds None b) → block_cost fs uses regions ws b ≡ block_cost fs uses regions vs b
    block_same (block id ss) h = stmts_same ss h

    stmts_same : (ss : TStmts) → KindsSame fs ws vs (stmts_kinds None ss) → stmts_cost fs uses regions ws ss ≡ stmts_cost fs uses regions vs ss
    stmts_same no_stmts h = refl
    stmts_same (more (stmt n line k) ss) h =
        let both = split fs ws vs k ss h in
        λ i. marks_at regions n + (inner_same n k (front fs ws vs (kind_kinds None k) (stmts_kinds None ss) both) i + probes (uses n) k)
        + stmts_same ss (back fs ws vs (kind_kinds None k) (stmts_kinds None ss) both) i

  cost_same : (f : TFunction) → KindsSame fs ws vs (block_kinds None f.body) → function_cost fs uses regions ws f ≡ function_cost fs uses regions vs f
  cost_same f h = ap (λ c. c + cond (is_some f.result) 0 1) (block_same f.body h)

-- ---- in order

-- costs have no cap
abbrev pub whole : ℕ → ℕ
whole n = n

module _ (fs : List TFunction) (uses : ℕ → Bool) (regions : List TRegion) (order : List ℕ) (is : IsOrder (call_links fs) (length fs) order) where
  -- what the next function costs is what it costs at each level from there on
  level_cost : (ws : List ℕ) (i d : ℕ) (f : TFunction) → i < length order → i < d → IsWorked whole (costs_to fs uses regions) order ws i → slice_get fs (get_or order i 0) ≡ Some f
      → function_cost fs uses regions ws f ≡ get_or (costs_to fs uses regions d) (get_or order i 0) 0
  unfolding costs_to
  level_cost = entry whole refl fs (function_cost fs uses regions) (costs_to fs uses regions) refl (λ d. refl) (cost_same fs uses regions)
      (λ ws f. ap (λ vs. function_cost fs uses regions vs f) (map-id ws)) order is

  cost_worked : (ws : List ℕ) (i : ℕ) (f : TFunction) → i < length order → length ws ≡ length fs → IsWorked whole (costs_to fs uses regions) order ws i → slice_get fs (get_or order i 0) ≡ Some f
      → IsWorked whole (costs_to fs uses regions) order (set ws (get_or order i 0) (function_cost fs uses regions ws f)) (i + 1)
  unfolding costs_to
  cost_worked = one_worked whole refl fs (function_cost fs uses regions) (costs_to fs uses regions) refl (λ d. refl) (cost_same fs uses regions)
      (λ ws f. ap (λ vs. function_cost fs uses regions vs f) (map-id ws)) order is

  -- with the next function's cost, at its place
  pub one_more : (ws : List ℕ) (i u w : ℕ) (f : TFunction) → i < length order → length ws ≡ length fs → IsWorked whole (costs_to fs uses regions) order ws i → u ≡ get_or order i 0
      → slice_get fs u ≡ Some f → w ≡ function_cost fs uses regions ws f → IsWorked whole (costs_to fs uses regions) order (set ws u w) (i + 1)
  one_more ws i u w f h many worked place at is_cost =
      let there : slice_get fs (get_or order i 0) ≡ Some f = ap (slice_get fs) (sym place) ∙ at in
      let made : set ws (get_or order i 0) (function_cost fs uses regions ws f) ≡ set ws u w = sym (λ j. set ws (place j) (is_cost j)) in
      subst (λ l. IsWorked whole (costs_to fs uses regions) order l (i + 1)) made (cost_worked ws i f h many worked there)

  pub costs_worked : (ws : List ℕ) (i : ℕ) → length order ≤ i → i ≤ length order → length ws ≡ length fs → IsWorked whole (costs_to fs uses regions) order ws i
      → ws ≡ costs_to fs uses regions (length fs)
  unfolding costs_to
  costs_worked ws i h k many worked =
      all_worked whole refl fs (function_cost fs uses regions) (costs_to fs uses regions) refl (λ d. refl) (cost_same fs uses regions)
      (λ us f. ap (λ vs. function_cost fs uses regions vs f) (map-id us)) order is ws i h k many worked ∙ map-id (costs_to fs uses regions (length fs))

-- ---- checked programs

none_below : (n : ℕ) (p : ℕ → Bool) → ((v : ℕ) → p v ≡ false) → some_below n p ≡ false
none_below zero p h = refl
none_below (suc n) p h = ap (λ b. b || some_below n p) (h n) ∙ none_below n p h

module _ (p : TProgram) (groups : List Group) (checked : IsChecked p groups) where
  onwards : Onwards (call_links p.functions) (length p.functions)
  onwards = links_onwards p (λ u f e. body_away p u f (function_fine p checked.unbroken checked.form.declared u f e).body)

  -- the rank falls along ways
  lower : (u v : ℕ) → leads (call_links p.functions) (length p.functions) u v ≡ true → rank (call_links p.functions) (length p.functions) v < rank (call_links p.functions) (length p.functions) u
  lower u v h =
      let ranks = rank (call_links p.functions) (length p.functions) in
      least (call_links p.functions) (λ a b. ranks b < ranks a) (falls (call_links p.functions) (length p.functions) onwards) (λ a c b x y. omega (arith, x, y)) (length p.functions) u v h

  -- no function calls itself
  pub none_comes_back : comes_back (call_links p.functions) (length p.functions) ≡ false
  none_comes_back = none_below (length p.functions) (λ u. leads (call_links p.functions) (length p.functions) u u) (λ u. go u (leads (call_links p.functions) (length p.functions) u u) refl)
    where
      go : (u : ℕ) (b : Bool) → leads (call_links p.functions) (length p.functions) u u ≡ b → b ≡ false
      go u false e = refl
      go u true e = absurd (let l = lower u u e in omega (arith, l))

  -- what the next function costs fits
  pub cost_fits : (uses : ℕ → Bool) (regions : List TRegion) (order : List ℕ) → IsOrder (call_links p.functions) (length p.functions) order → (ws : List ℕ) (i : ℕ) (f : TFunction) → i < length order
      → IsWorked whole (costs_to p.functions uses regions) order ws i → slice_get p.functions (get_or order i 0) ≡ Some f → function_cost p.functions uses regions ws f < 18446744073709551616
  cost_fits uses regions order is ws i f h worked at =
      let n = length p.functions in
      let below : i < n = omega (arith, h, is.many) in
      omega (arith, level_cost p.functions uses regions order is ws i n f h below worked at, costs_fit p groups checked uses regions n (omega arith) (get_or order i 0))
