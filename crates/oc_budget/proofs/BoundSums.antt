-- The numbers that are told of a marked program, as the bounds of its code.
use Rattle.std.proofs.Common.{◌≡◌, ◌≤◌, ◌<◌, ◌+◌, ◌-◌, ◌*◌, ℕ, zero, suc, Bool, false, List, [], ◌∷◌, map, length, max, sum_by, get_or, cond, Option, Some, None, refl, ap, arith}
use Rattle.std.specs.Prelude.{slice_get}
use Rattle.std.proofs.lemmas.List.Sums.{sum_by-cons}
use Rattle.std.proofs.lemmas.Option.{none-some, same_Some}
use Rattle.oc_tree.specs.Tree.{TKind, let_to, let_array, assign, assign_index, assign_deref, if_else, for_in, while_do, call_only, sense_only, emit, fresh, consistent, return, TElse}
use Rattle.oc_tree.specs.Tree.{no_else, else_do, stmt, TBlock, block, TStmts, no_stmts, more, TFunction, TProgram}
use Rattle.oc_tree.specs.declared.said.Target.{Target}
use Rattle.oc_tree.specs.declared.said.Target.TheVariants.{Nv, Param}
use Rattle.oc_tree.specs.Marked.{TRegion, TMarked, is_in_region}
use Rattle.oc_tree.specs.Picked.{kind_spent, else_spent, block_spent, stmts_spent, functions_spent}
use Rattle.oc_tree.specs.Stack.{stack_words}
use Rattle.oc_writes.specs.Targets.{region_targets}
use Rattle.oc_watch.proofs.Words as words
use Rattle.oc_watch.proofs.Compared as watch
use Rattle.oc_budget.specs.Costs.{is_use, costs}
use Rattle.oc_budget.specs.Budgets.{budget, budgets, greatest, logged, safe_for, held_cost, target_words}
use Rattle.oc_budget.proofs.SpentLaws.{budget_is}

-- ---- regions by their numbers, which count from 1

-- the region of a number
abbrev pub region_at : TMarked → ℕ → Option TRegion
region_at m r = slice_get m.regions (r - 1)

abbrev pub picks_of : TProgram → Option TRegion → ℕ → Bool
picks_of p None n = false
picks_of p (Some r) n = is_in_region p r n

-- its test of statements
abbrev pub picks : TMarked → ℕ → ℕ → Bool
picks m r = picks_of m.program (region_at m r)

abbrev pub held_of : TProgram → Option TRegion → List Target
held_of p None = []
held_of p (Some r) = region_targets p r

-- its targets
abbrev pub held : TMarked → ℕ → List Target
held m r = held_of m.program (region_at m r)

-- ---- words

target_same : (t : Target) → words.target_words t ≡ target_words t
target_same (Nv a len) = refl
target_same (Param slot len) = refl

all_same : (ts : List Target) → words.all_words ts ≡ sum_by target_words ts
all_same [] = refl
all_same (t ∷ ts) = omega (arith, sum_by-cons target_words t ts, target_same t, all_same ts)

at_map : (f : TRegion → ℕ) (rs : List TRegion) (i : ℕ) (r : TRegion) → slice_get rs i ≡ Some r → get_or (map f rs) i 0 ≡ f r
at_map f [] i r e = absurd (none-some r e)
at_map f (q ∷ rs) zero r e = ap f (same_Some q r e)
at_map f (q ∷ rs) (suc i) r e = at_map f rs i r e

-- no more words than are told
pub few_words : (m : TMarked) (r : ℕ) → words.all_words (held m r) ≤ get_or (budgets m).logged (r - 1) 0
few_words m r = go (region_at m r) refl
  where
    go : (o : Option TRegion) → region_at m r ≡ o → words.all_words (held_of m.program o) ≤ get_or (map (logged m.program) m.regions) (r - 1) 0
    go None e = omega arith
    go (Some q) e = let l = at_map (logged m.program) m.regions (r - 1) q e in omega (arith, l, all_same (region_targets m.program q))

-- ---- costs

-- the cost of a statement of a region is the one that the tree's bounds use
held_same : (m : TMarked) (n : ℕ) (k : TKind) → watch.held_cost m.program.functions m.regions (is_use m.program) (costs m) n k ≡ held_cost m n k
held_same m n (let_to w x t r) = refl
held_same m n (let_array w x t z i) = refl
held_same m n (assign x r) = refl
held_same m n (assign_index x e r) = refl
held_same m n (assign_deref x r) = refl
held_same m n (if_else c a b) = refl
held_same m n (for_in x c d b) = refl
held_same m n (while_do c t b) = refl
held_same m n (call_only c) = refl
held_same m n (sense_only x) = refl
held_same m n (emit q e) = refl
held_same m n (fresh x) = refl
held_same m n (consistent x i) = refl
held_same m n (return e) = refl

-- the same costs, statement by statement, have the same sums
module _ (test : ℕ → Bool) (f g : ℕ → TKind → ℕ) (same : (n : ℕ) (k : TKind) → f n k ≡ g n k) where
  mutual
    kind_sums : (k : TKind) → kind_spent test f k ≡ kind_spent test g k
    kind_sums (if_else c a b) = omega (arith, block_sums a, else_sums b)
    kind_sums (for_in x c d b) = block_sums b
    kind_sums (while_do c t b) = block_sums b
    kind_sums (let_to w x t r) = refl
    kind_sums (let_array w x t z i) = refl
    kind_sums (assign x r) = refl
    kind_sums (assign_index x e r) = refl
    kind_sums (assign_deref x r) = refl
    kind_sums (call_only c) = refl
    kind_sums (sense_only x) = refl
    kind_sums (emit q e) = refl
    kind_sums (fresh x) = refl
    kind_sums (consistent x i) = refl
    kind_sums (return e) = refl

    else_sums : (b : TElse) → else_spent test f b ≡ else_spent test g b
    else_sums no_else = refl
    else_sums (else_do b) = block_sums b

    block_sums : (b : TBlock) → block_spent test f b ≡ block_spent test g b
    block_sums (block id ss) = stmts_sums ss

    stmts_sums : (ss : TStmts) → stmts_spent test f ss ≡ stmts_spent test g ss
    stmts_sums no_stmts = refl
    stmts_sums (more (stmt n line k) ss) =
        let own : cond (test n) (f n k) 0 ≡ cond (test n) (g n k) 0 = ap (λ c. cond (test n) c 0) (same n k) in
        omega (arith, own, kind_sums k, stmts_sums ss)

  functions_sums : (fs : List TFunction) → functions_spent test f fs ≡ functions_spent test g fs
  functions_sums [] = refl
  functions_sums (h ∷ fs) = omega (arith, block_sums h.body, functions_sums fs)

-- what no test picks costs nothing
module _ (f : ℕ → TKind → ℕ) where
  mutual
    kind_none : (k : TKind) → kind_spent (λ n. false) f k ≡ 0
    kind_none (if_else c a b) = omega (arith, block_none a, else_none b)
    kind_none (for_in x c d b) = block_none b
    kind_none (while_do c t b) = block_none b
    kind_none (let_to w x t r) = refl
    kind_none (let_array w x t z i) = refl
    kind_none (assign x r) = refl
    kind_none (assign_index x e r) = refl
    kind_none (assign_deref x r) = refl
    kind_none (call_only c) = refl
    kind_none (sense_only x) = refl
    kind_none (emit q e) = refl
    kind_none (fresh x) = refl
    kind_none (consistent x i) = refl
    kind_none (return e) = refl

    else_none : (b : TElse) → else_spent (λ n. false) f b ≡ 0
    else_none no_else = refl
    else_none (else_do b) = block_none b

    block_none : (b : TBlock) → block_spent (λ n. false) f b ≡ 0
    block_none (block id ss) = stmts_none ss

    stmts_none : (ss : TStmts) → stmts_spent (λ n. false) f ss ≡ 0
    stmts_none no_stmts = refl
    stmts_none (more (stmt n line k) ss) = omega (arith, kind_none k, stmts_none ss)

  functions_none : (fs : List TFunction) → functions_spent (λ n. false) f fs ≡ 0
  functions_none [] = refl
  functions_none (h ∷ fs) = omega (arith, block_none h.body, functions_none fs)

-- instructions behind the `enter` of a region
abbrev pub spent : TMarked → ℕ → ℕ
spent m r = get_or (budgets m).regions (r - 1) 0 - get_or (budgets m).logged (r - 1) 0

-- they have the costs of all statements that the region's test picks, and one for its `commit`
pub sums : (m : TMarked) (r : ℕ) → functions_spent (picks m r) (watch.held_cost m.program.functions m.regions (is_use m.program) (costs m)) m.program.functions ≤ spent m r - 1
sums m r = go (region_at m r) refl
  where
    go : (o : Option TRegion) → region_at m r ≡ o
        → functions_spent (picks_of m.program o) (watch.held_cost m.program.functions m.regions (is_use m.program) (costs m)) m.program.functions ≤ get_or (map (budget m) m.regions) (r - 1)
        0 - get_or (map (logged m.program) m.regions) (r - 1) 0 - 1
    go None e = let z = functions_none (watch.held_cost m.program.functions m.regions (is_use m.program) (costs m)) m.program.functions in omega (arith, z)
    go (Some q) e =
        let b = at_map (budget m) m.regions (r - 1) q e in
        let l = at_map (logged m.program) m.regions (r - 1) q e in
        let s = functions_sums (is_in_region m.program q) (watch.held_cost m.program.functions m.regions (is_use m.program) (costs m)) (held_cost m) (held_same m) m.program.functions in
        omega (arith, b, l, s, budget_is m q)

-- where there is a region of that number, it has its `commit`
pub some_spent : (m : TMarked) (r : ℕ) (q : TRegion) → region_at m r ≡ Some q → 1 ≤ spent m r
some_spent m r q e =
    let b = at_map (budget m) m.regions (r - 1) q e in
    let l = at_map (logged m.program) m.regions (r - 1) q e in
    omega (arith, b, l, budget_is m q)

-- ---- periods that suffice

greatest_more : (a : ℕ) (bs : List ℕ) → a ≤ greatest a bs
greatest_more a [] = omega arith
greatest_more a (b ∷ bs) = let h = greatest_more (max a b) bs in omega (arith, h)

greatest_from : (a b : ℕ) (bs : List ℕ) → a ≤ b → greatest a bs ≤ greatest b bs
greatest_from a b [] le = le
greatest_from a b (c ∷ bs) le = greatest_from (max a c) (max b c) bs (omega (arith, le))

greatest_has : (a : ℕ) (bs : List ℕ) (i : ℕ) → get_or bs i 0 ≤ greatest a bs
greatest_has a [] i = omega arith
greatest_has a (b ∷ bs) zero = let h = greatest_more (max a b) bs in omega (arith, h)
greatest_has a (b ∷ bs) (suc i) = greatest_has (max a b) bs i

safe_enough : (w : ℕ) (bs : List ℕ) → w + 6 ≤ safe_for w bs
safe_enough w [] = omega arith
safe_enough w (b ∷ bs) = omega arith

safe_has : (w : ℕ) (bs : List ℕ) (i : ℕ) → i < length bs → 2 * w + 9 + get_or bs i 0 ≤ safe_for w bs
safe_has w [] i lt = absurd (omega (arith, lt))
safe_has w (b ∷ bs) zero lt = let h = greatest_more b bs in omega (arith, h)
safe_has w (b ∷ bs) (suc i) lt = let h = greatest_has b bs i in omega (arith, h)

within : (rs : List TRegion) (i : ℕ) (r : TRegion) (f : TRegion → ℕ) → slice_get rs i ≡ Some r → i < length (map f rs)
within [] i r f e = absurd (none-some r e)
within (q ∷ rs) zero r f e = omega arith
within (q ∷ rs) (suc i) r f e = let h = within rs i r f e in omega (arith, h)

-- a period that is safe has the steps to begin, and each region with the steps for its log
pub safe_run : (m : TMarked) → stack_words m.program + 6 ≤ (budgets m).safe
safe_run m = safe_enough (stack_words m.program) (map (budget m) m.regions)

pub safe_region : (m : TMarked) (r : ℕ) (q : TRegion) → region_at m r ≡ Some q → 2 * stack_words m.program + 9 + (spent m r + get_or (budgets m).logged (r - 1) 0) ≤ (budgets m).safe
safe_region m r q e =
    let b = at_map (budget m) m.regions (r - 1) q e in
    let l = at_map (logged m.program) m.regions (r - 1) q e in
    let h = safe_has (stack_words m.program) (map (budget m) m.regions) (r - 1) (within m.regions (r - 1) q (budget m) e) in
    omega (arith, b, l, h, budget_is m q)
