-- Regions that begin and end in the same block.
use Rattle.std.proofs.Common.{◌≡◌, ℕ, ◌+◌, true, true≢false, List, [], refl, sym}
use Rattle.oc_tree.specs.Tree.{TKind, let_to, let_array, assign, assign_index, assign_deref, if_else, for_in, while_do, call_only, sense_only, emit, fresh, consistent, return}
use Rattle.oc_tree.specs.Tree.{TElse, no_else, else_do, stmt, TBlock, block, TStmts, no_stmts, more}
use Rattle.oc_tree.specs.Marked.{TRegion}
use Rattle.oc_tree.specs.Elements.{is_end}
use Rattle.oc_meaning.specs.Exec.{begun_by, ended_by}
use Rattle.oc_code.specs.Formed.{marks}

-- Where `inside` regions are open in front of statements, each statement opens what it begins and closes what it ends,
-- and none is open behind them. So it is in the blocks inside them too.
module _ (regions : List TRegion) where
  abbrev mutual
    -- those in a statement
    pub KindMarked : TKind → Type 0
    KindMarked (if_else c a b) = BlockMarked a × ElseMarked b
    KindMarked (for_in x m n b) = BlockMarked b
    KindMarked (while_do c n b) = BlockMarked b
    KindMarked k = Unit {0}

    -- those behind `else`
    pub ElseMarked : TElse → Type 0
    ElseMarked no_else = Unit {0}
    ElseMarked (else_do b) = BlockMarked b

    -- those of a block, in front of which none is open
    pub BlockMarked : TBlock → Type 0
    BlockMarked (block id ss) = StmtsMarked 0 ss

    -- statements in front of which so many are open
    pub StmtsMarked : (inside : ℕ) → TStmts → Type 0
    StmtsMarked inside no_stmts = inside ≡ 0
    StmtsMarked inside (more (stmt n line k) rest) =
        KindMarked k × (left : ℕ) × (inside + marks (begun_by regions n) ≡ left + marks (ended_by regions n)) × StmtsMarked left rest

  -- behind the last statement none is open
  pub none_left : (left : ℕ) (rest : TStmts) → is_end rest ≡ true → StmtsMarked left rest → left ≡ 0
  none_left left no_stmts h marked = marked
  none_left left (more s rest) h marked = absurd (true≢false (sym h))

-- ---- without regions

mutual
  -- a statement
  kind_unmarked : (k : TKind) → KindMarked [] k
  kind_unmarked (if_else c a b) = (block_unmarked a, else_unmarked b)
  kind_unmarked (for_in x m n b) = block_unmarked b
  kind_unmarked (while_do c n b) = block_unmarked b
  kind_unmarked k = tt

  -- what stands behind `else`
  else_unmarked : (b : TElse) → ElseMarked [] b
  else_unmarked no_else = tt
  else_unmarked (else_do b) = block_unmarked b

  -- a block
  pub block_unmarked : (b : TBlock) → BlockMarked [] b
  block_unmarked (block id ss) = stmts_unmarked ss

  -- statements
  stmts_unmarked : (ss : TStmts) → StmtsMarked [] 0 ss
  stmts_unmarked no_stmts = refl
  stmts_unmarked (more (stmt n line k) rest) = (kind_unmarked k, 0, refl, stmts_unmarked rest)
