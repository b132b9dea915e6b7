-- What the statements that a test picks cost together.
use Rattle.std.specs.Prelude.{ℕ, ◌+◌, Bool, List, [], ◌∷◌, cond}
use Rattle.oc_tree.specs.Tree.{TKind, if_else, for_in, while_do, TElse, no_else, else_do, stmt, TBlock, block, TStmts, no_stmts, more, TFunction}

-- `picks` tells the statements by their numbers, and `cost` what each costs
module _ (picks : ℕ → Bool) (cost : ℕ → TKind → ℕ) where
  abbrev mutual
    -- what the picked ones of the statements inside a statement cost together
    pub kind_spent : TKind → ℕ
    kind_spent (if_else c a b) = block_spent a + else_spent b
    kind_spent (for_in x m n b) = block_spent b
    kind_spent (while_do c n b) = block_spent b
    kind_spent _ = 0

    -- what the picked statements of an `else` cost together, with those inside them
    pub else_spent : TElse → ℕ
    else_spent no_else = 0
    else_spent (else_do b) = block_spent b

    -- what the picked statements of a block cost together, with those inside them
    pub block_spent : TBlock → ℕ
    block_spent (block id ss) = stmts_spent ss

    -- what the picked ones of these statements cost together, with those inside them
    pub stmts_spent : TStmts → ℕ
    stmts_spent no_stmts = 0
    stmts_spent (more (stmt n line k) ss) =
        cond (picks n) (cost n k) 0 + kind_spent k + stmts_spent ss

  -- what the picked statements of functions cost together
  abbrev pub functions_spent : List TFunction → ℕ
  functions_spent [] = 0
  functions_spent (f ∷ fs) = block_spent f.body + functions_spent fs
