-- The expansion of a program has the program's blocks.
use Rattle.std.proofs.Common.{◌≡◌, ℕ, ◌+◌, List, [], ◌∷◌, ◌++◌, refl, ap, ◌∙◌, flat_map}
use Rattle.oc_tree.specs.Tree.{TRight, TKind, let_to, let_array, assign, assign_index, assign_deref, if_else, for_in, while_do, call_only, sense_only, emit, fresh, consistent}
use Rattle.oc_tree.specs.Tree.{return, TElse, no_else, else_do, TStmt, stmt, TBlock, block, TStmts, no_stmts, more, TFunction, TProgram}
use Rattle.oc_tree.specs.Numbers.{kind_blocks, else_blocks, stmt_blocks, block_blocks, stmts_blocks, program_blocks}
use Rattle.oc_tree.specs.Pulls.{expr_pulls, own_pulls, stmt_pulls, block_pulls}
use Rattle.oc_tree.specs.Expansion.{block_size, stmt_size, temporaries, join_stmts, pulled, expand_kind, expand_else, expand_block, expand_stmts, expand_functions, expansion}

-- temporaries have no blocks
group_blocks : (k i line : ℕ) (rs : List TRight) (s : TStmt) (rest : TStmts) → stmts_blocks (join_stmts (temporaries k i line rs ++ s ∷ []) rest) ≡ stmt_blocks s ++ stmts_blocks rest
group_blocks k i line [] s rest = refl
group_blocks k i line (r ∷ rs) s rest = group_blocks (k + 1) (i + 1) line rs s rest

both : (ws xs ys zs : List ℕ) → ws ≡ ys → xs ≡ zs → ws ++ xs ≡ ys ++ zs
both ws xs ys zs h k = ap (λ l. l ++ xs) h ∙ ap (λ l. ys ++ l) k

mutual
  kind_kept : (k i : ℕ) (s : TKind) → kind_blocks (expand_kind k i s) ≡ kind_blocks s
  kind_kept k i (let_to m x t r) = refl
  kind_kept k i (let_array m x t z n) = refl
  kind_kept k i (assign x r) = refl
  kind_kept k i (assign_index x e r) = refl
  kind_kept k i (assign_deref x r) = refl
  kind_kept k i (if_else c a b) = both _ _ _ _ (block_kept (k + expr_pulls c) i a) (else_kept (k + expr_pulls c + block_pulls a) (i + block_size a) b)
  kind_kept k i (for_in x m n b) = block_kept k i b
  kind_kept k i (while_do c n b) = block_kept (k + expr_pulls c) i b
  kind_kept k i (call_only c) = refl
  kind_kept k i (sense_only s) = refl
  kind_kept k i (emit p e) = refl
  kind_kept k i (fresh x) = refl
  kind_kept k i (consistent x n) = refl
  kind_kept k i (return e) = refl

  else_kept : (k i : ℕ) (b : TElse) → else_blocks (expand_else k i b) ≡ else_blocks b
  else_kept k i no_else = refl
  else_kept k i (else_do b) = block_kept k i b

  block_kept : (k i : ℕ) (b : TBlock) → block_blocks (expand_block k i b) ≡ block_blocks b
  block_kept k i (block id ss) = ap (λ l. id ∷ l) (stmts_kept k i ss)

  stmts_kept : (k i : ℕ) (ss : TStmts) → stmts_blocks (expand_stmts k i ss) ≡ stmts_blocks ss
  stmts_kept k i no_stmts = refl
  stmts_kept k i (more (stmt id line s) ss) =
      let rest = expand_stmts (k + stmt_pulls (stmt id line s)) (i + stmt_size (stmt id line s)) ss in
      group_blocks k i line (pulled k s) (stmt (i + own_pulls s) line (expand_kind k (i + own_pulls s + 1) s)) rest
      ∙ both _ _ _ _ (kind_kept k (i + own_pulls s + 1) s) (stmts_kept (k + stmt_pulls (stmt id line s)) (i + stmt_size (stmt id line s)) ss)

functions_kept : (k i : ℕ) (fs : List TFunction) → flat_map (λ f. block_blocks f.body) (expand_functions k i fs) ≡ flat_map (λ f. block_blocks f.body) fs
functions_kept k i [] = refl
functions_kept k i (f ∷ fs) = both _ _ _ _ (block_kept k i f.body) (functions_kept (k + block_pulls f.body) (i + block_size f.body) fs)

pub blocks_kept : (p : TProgram) → program_blocks (expansion p) ≡ program_blocks p
blocks_kept p = functions_kept 1 1 p.functions
