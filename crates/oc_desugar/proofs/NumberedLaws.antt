-- The statements of an expansion are numbered from 1, and a program without pulls that is so numbered is its own
-- expansion.
use Rattle.std.proofs.Common.{◌≡◌, ℕ, ◌+◌, List, [], ◌∷◌, ◌++◌, length, refl, ap, sym, subst, arith}
use Rattle.oc_tree.specs.Tree.{TRight, TKind, let_to, let_array, assign, assign_index, assign_deref, if_else, for_in, while_do, call_only, sense_only, emit, fresh, consistent}
use Rattle.oc_tree.specs.Tree.{return, TElse, no_else, else_do, TStmt, stmt, TBlock, block, TStmts, no_stmts, more, TFunction, TProgram}
use Rattle.oc_tree.specs.Pulls.{expr_pulls, own_pulls, stmt_pulls, block_pulls}
use Rattle.oc_tree.specs.Expansion.{temporaries, pulled, expand_kind, expand_else, expand_block, expand_stmts, expand_functions, expansion, join_stmts, block_size, else_size}
use Rattle.oc_tree.specs.Expansion.{stmt_size, stmts_size, inner_size}
use Rattle.oc_desugar.proofs.Numbered.{inner_count, else_count, block_count, stmts_count, InnerNumbered, ElseNumbered, BlockNumbered, StmtsNumbered, FunctionsNumbered, IsNumbered}
use Rattle.oc_desugar.proofs.Lengths.{length_pulled}

-- the statements of a group
group_count : (k i line : ℕ) (rs : List TRight) (id at : ℕ) (s : TKind) (rest : TStmts) → stmts_count (join_stmts (temporaries k i line rs ++ stmt id at s ∷ []) rest)
    ≡ length rs + (1 + inner_count s + stmts_count rest)
group_count k i line [] id at s rest = omega arith
group_count k i line (r ∷ rs) id at s rest = omega (arith, group_count (k + 1) (i + 1) line rs id at s rest)

-- an expansion has as many statements as are counted
mutual
  count_kind : (k i : ℕ) (s : TKind) → inner_count (expand_kind k i s) ≡ inner_size s
  count_kind k i (let_to m x t r) = refl
  count_kind k i (let_array m x t z n) = refl
  count_kind k i (assign x r) = refl
  count_kind k i (assign_index x e r) = refl
  count_kind k i (assign_deref x r) = refl
  count_kind k i (if_else c a b) = omega (arith, count_block (k + expr_pulls c) i a, count_else (k + expr_pulls c + block_pulls a) (i + block_size a) b)
  count_kind k i (for_in x m n b) = count_block k i b
  count_kind k i (while_do c n b) = count_block (k + expr_pulls c) i b
  count_kind k i (call_only c) = refl
  count_kind k i (sense_only s) = refl
  count_kind k i (emit p e) = refl
  count_kind k i (fresh x) = refl
  count_kind k i (consistent x n) = refl
  count_kind k i (return e) = refl

  count_else : (k i : ℕ) (b : TElse) → else_count (expand_else k i b) ≡ else_size b
  count_else k i no_else = refl
  count_else k i (else_do b) = count_block k i b

  pub count_block : (k i : ℕ) (b : TBlock) → block_count (expand_block k i b) ≡ block_size b
  count_block k i (block id ss) = count_stmts k i ss

  count_stmts : (k i : ℕ) (ss : TStmts) → stmts_count (expand_stmts k i ss) ≡ stmts_size ss
  count_stmts k i no_stmts = refl
  count_stmts k i (more (stmt id line s) ss) =
      let rest = expand_stmts (k + stmt_pulls (stmt id line s)) (i + stmt_size (stmt id line s)) ss in
      omega (
        arith,
        group_count k i line (pulled k s) (i + own_pulls s) line (expand_kind k (i + own_pulls s + 1) s) rest,
        length_pulled k s,
        count_kind k (i + own_pulls s + 1) s,
        count_stmts (k + stmt_pulls (stmt id line s)) (i + stmt_size (stmt id line s)) ss,
      )

-- a group is numbered where what follows its temporaries is
group_numbered : (k i line : ℕ) (rs : List TRight) (s : TStmt) (rest : TStmts) → StmtsNumbered (i + length rs) (more s rest) → StmtsNumbered i (join_stmts (temporaries k i line rs ++ s ∷ []) rest)
group_numbered k i line [] s rest h = let e : i + 0 ≡ i = omega arith in subst (λ n. StmtsNumbered n (more s rest)) e h
group_numbered k i line (r ∷ rs) s rest h =
    let e : i + length (r ∷ rs) ≡ i + 1 + length rs = omega arith in
    let f : i + 1 ≡ i + (1 + 0) = omega arith in
    let tail = group_numbered (k + 1) (i + 1) line rs s rest (subst (λ n. StmtsNumbered n (more s rest)) e h) in
    (refl, tt, subst (λ n. StmtsNumbered n (join_stmts (temporaries (k + 1) (i + 1) line rs ++ s ∷ []) rest)) f tail)

mutual
  number_kind : (k i : ℕ) (s : TKind) → InnerNumbered i (expand_kind k i s)
  number_kind k i (let_to m x t r) = tt
  number_kind k i (let_array m x t z n) = tt
  number_kind k i (assign x r) = tt
  number_kind k i (assign_index x e r) = tt
  number_kind k i (assign_deref x r) = tt
  number_kind k i (if_else c a b) =
      let e : i + block_size a ≡ i + block_count (expand_block (k + expr_pulls c) i a) = ap (λ n. i + n) (sym (count_block (k + expr_pulls c) i a)) in (
        number_block (k + expr_pulls c) i a,
        subst (λ n. ElseNumbered n (expand_else (k + expr_pulls c + block_pulls a) (i + block_size a) b)) e
            (number_else (k + expr_pulls c + block_pulls a) (i + block_size a) b),
      )
  number_kind k i (for_in x m n b) = number_block k i b
  number_kind k i (while_do c n b) = number_block (k + expr_pulls c) i b
  number_kind k i (call_only c) = tt
  number_kind k i (sense_only s) = tt
  number_kind k i (emit p e) = tt
  number_kind k i (fresh x) = tt
  number_kind k i (consistent x n) = tt
  number_kind k i (return e) = tt

  number_else : (k i : ℕ) (b : TElse) → ElseNumbered i (expand_else k i b)
  number_else k i no_else = tt
  number_else k i (else_do b) = number_block k i b

  number_block : (k i : ℕ) (b : TBlock) → BlockNumbered i (expand_block k i b)
  number_block k i (block id ss) = number_stmts k i ss

  number_stmts : (k i : ℕ) (ss : TStmts) → StmtsNumbered i (expand_stmts k i ss)
  number_stmts k i no_stmts = tt
  number_stmts k i (more (stmt id line s) ss) =
      let k' = k + stmt_pulls (stmt id line s) in
      let i' = i + stmt_size (stmt id line s) in
      let own : TKind = expand_kind k (i + own_pulls s + 1) s in
      let c = count_kind k (i + own_pulls s + 1) s in
      let l = length_pulled k s in
      let e : i + own_pulls s ≡ i + length (pulled k s) = omega (arith, l) in
      let f : i + (own_pulls s + 1 + inner_size s) ≡ i + length (pulled k s) + (1 + inner_count own) = omega (arith, l, c) in
      let g : i + own_pulls s + 1 ≡ i + length (pulled k s) + 1 = omega (arith, l) in
      group_numbered k i line (pulled k s) (stmt (i + own_pulls s) line own) (expand_stmts k' i' ss)
      (e, subst (λ n. InnerNumbered n own) g (number_kind k (i + own_pulls s + 1) s), subst (λ n. StmtsNumbered n (expand_stmts k' i' ss)) f (number_stmts k' i' ss))

number_functions : (k i : ℕ) (fs : List TFunction) → FunctionsNumbered i (expand_functions k i fs)
number_functions k i [] = tt
number_functions k i (f ∷ fs) =
    let e : i + block_size f.body ≡ i + block_count (expand_block k i f.body) = ap (λ n. i + n) (sym (count_block k i f.body)) in (
      number_block k i f.body,
      subst (λ n. FunctionsNumbered n (expand_functions (k + block_pulls f.body) (i + block_size f.body) fs)) e
          (number_functions (k + block_pulls f.body) (i + block_size f.body) fs),
    )

pub numbered : (p : TProgram) → IsNumbered (expansion p)
numbered p = number_functions 1 1 p.functions
