-- What an execution costs at most: the greatest number of its instructions, with probes and with
-- the marks of regions. It speaks of a program without pulls.
use Rattle.std.specs.Prelude.{ℕ, zero, suc, ◌+◌, ◌*◌, Bool, List, [], map, max, is_some, cond, nat_eq}
use Rattle.std.specs.List.{list_any}
use Rattle.oc_tree.specs.Tree.{TKind, if_else, for_in, while_do, consistent, TElse, no_else, else_do, stmt, TBlock, block, TStmts, no_stmts, more, TFunction}
use Rattle.oc_tree.specs.Weight.{expr_cost, kind_cost, turns}
use Rattle.oc_tree.specs.Marked.{TRegion}

-- 1 where a test holds, else 0
abbrev pub one : Bool → ℕ
one b = cond b 1 0

-- ---- statements

-- how many marks stand at a statement: of a region that begins with it, and of one that ends with
-- it
abbrev pub marks_at : List TRegion → ℕ → ℕ
marks_at regions n =
    one (list_any (λ r. nat_eq r.first n) regions) + one (list_any (λ r. nat_eq r.last n) regions)

-- A statement has two probes where it uses a fresh variable; a `while` has one at each test and one
-- behind the loop.
abbrev pub probes : Bool → TKind → ℕ
probes uses (while_do c n b) = 0
probes uses k = 2 * one uses

-- `uses` tells the statements that use a fresh variable, and `ws` what functions cost
module _ (fs : List TFunction) (uses : ℕ → Bool) (regions : List TRegion) (ws : List ℕ) where
  abbrev mutual
    -- what the statement with the number `n` costs at most, without the probes and marks around it
    pub inner_cost : ℕ → TKind → ℕ
    inner_cost n (if_else c a b) = expr_cost c + 1 + else_cost (block_cost a) b
    inner_cost n (for_in x from to b) = 6 + turns from to * (9 + block_cost b)
    inner_cost n (while_do c bound b) =
        6 + bound * (10 + one (uses n) + expr_cost c + block_cost b) + one (uses n)
    inner_cost n (consistent x k) = 1
    inner_cost n k = kind_cost fs ws k

    -- what both branches of an `if` cost at most, the first `a`, with the jump over the second
    pub else_cost : ℕ → TElse → ℕ
    else_cost a no_else = a
    else_cost a (else_do b) = max (a + 1) (block_cost b)

    -- what a block costs at most
    pub block_cost : TBlock → ℕ
    block_cost (block id ss) = stmts_cost ss

    -- what statements cost at most together, each with its probes and marks
    pub stmts_cost : TStmts → ℕ
    stmts_cost no_stmts = 0
    stmts_cost (more (stmt n line k) ss) =
        marks_at regions n + (inner_cost n k + probes (uses n) k) + stmts_cost ss

  -- what a function costs at most: its body, and the `ret` of one without a result or the `halt` of
  -- `main`; a `return` has its own
  abbrev pub function_cost : TFunction → ℕ
  function_cost f = block_cost f.body + cond (is_some f.result) 0 1

-- what functions cost at most, where calls go at most so deep
unfoldable pub costs_to : List TFunction → (ℕ → Bool) → List TRegion → ℕ → List ℕ
costs_to fs uses regions zero = []
costs_to fs uses regions (suc depth) =
    map (function_cost fs uses regions (costs_to fs uses regions depth)) fs
