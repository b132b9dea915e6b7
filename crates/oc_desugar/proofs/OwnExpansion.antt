-- A program without pulls that is numbered is its own expansion.
use Rattle.std.proofs.Common.{◌≡◌, ℕ, ◌+◌, List, [], ◌∷◌, ◌++◌, refl, ap, sym, subst, ◌∙◌, arith, sum_by}
use Rattle.std.proofs.lemmas.List.Sums.{sum_by-cons}
use Rattle.oc_tree.specs.Tree.{TExpr, number, truth, variable, index, deref, unary, binary, sensed, called, TArg, value, shared, mutable, TCall, call, TArgs, no_args, more_args}
use Rattle.oc_tree.specs.Tree.{TRight, right_value, right_sense, right_call, TKind, let_to, let_array, assign, assign_index, assign_deref, if_else, for_in, while_do, call_only}
use Rattle.oc_tree.specs.Tree.{sense_only, emit, fresh, consistent, return, TElse, no_else, else_do, stmt, TBlock, block, TStmts, no_stmts, more, TFunction, TProgram}
use Rattle.oc_tree.specs.Pulls.{expr_pulls, call_pulls, args_pulls, arg_pulls, right_pulls, own_pulls, inner_pulls, else_pulls, stmt_pulls, block_pulls, stmts_pulls, program_pulls}
use Rattle.oc_tree.specs.Expansion.{left_expr, left_call, left_args, left_arg, left_right, temporaries, pulled_expr, pulled_call, pulled_args, pulled_arg, pulled_right, pulled}
use Rattle.oc_tree.specs.Expansion.{expand_kind, expand_else, expand_block, expand_stmts, expand_functions, expansion, join_stmts, block_size, else_size, stmt_size, stmts_size}
use Rattle.oc_tree.specs.Expansion.{inner_size}
use Rattle.oc_desugar.proofs.Numbered.{inner_count, else_count, block_count, stmts_count, InnerNumbered, ElseNumbered, BlockNumbered, StmtsNumbered, FunctionsNumbered, IsNumbered}

mutual
  same_expr : (k : ℕ) (e : TExpr) → expr_pulls e ≡ 0 → left_expr k e ≡ e
  same_expr k (number n) h = refl
  same_expr k (truth b) h = refl
  same_expr k (variable x) h = refl
  same_expr k (index x e) h = ap (index x) (same_expr k e h)
  same_expr k (deref x) h = refl
  same_expr k (unary op e) h = ap (unary op) (same_expr k e h)
  same_expr k (binary op a b) h =
      let p = same_expr k a (omega (arith, h)) in
      let q = same_expr (k + expr_pulls a) b (omega (arith, h)) in
      ap (λ x. binary op x (left_expr (k + expr_pulls a) b)) p ∙ ap (binary op a) q
  same_expr k (sensed s) h = absurd (omega (arith, h))
  same_expr k (called c) h = absurd (omega (arith, h))

  same_call : (k : ℕ) (c : TCall) → call_pulls c ≡ 0 → left_call k c ≡ c
  same_call k (call f args) h = ap (call f) (same_args k args h)

  same_args : (k : ℕ) (xs : TArgs) → args_pulls xs ≡ 0 → left_args k xs ≡ xs
  same_args k no_args h = refl
  same_args k (more_args a rest) h =
      let p = same_arg k a (omega (arith, h)) in
      let q = same_args (k + arg_pulls a) rest (omega (arith, h)) in
      ap (λ x. more_args x (left_args (k + arg_pulls a) rest)) p ∙ ap (more_args a) q

  same_arg : (k : ℕ) (a : TArg) → arg_pulls a ≡ 0 → left_arg k a ≡ a
  same_arg k (value e) h = ap value (same_expr k e h)
  same_arg k (shared x) h = refl
  same_arg k (mutable x) h = refl

same_right : (k : ℕ) (r : TRight) → right_pulls r ≡ 0 → left_right k r ≡ r
same_right k (right_value e) h = ap right_value (same_expr k e h)
same_right k (right_sense s) h = refl
same_right k (right_call c) h = ap right_call (same_call k c h)

mutual
  no_expr : (k : ℕ) (e : TExpr) → expr_pulls e ≡ 0 → pulled_expr k e ≡ []
  no_expr k (number n) h = refl
  no_expr k (truth b) h = refl
  no_expr k (variable x) h = refl
  no_expr k (index x e) h = no_expr k e h
  no_expr k (deref x) h = refl
  no_expr k (unary op e) h = no_expr k e h
  no_expr k (binary op a b) h =
      let p = no_expr k a (omega (arith, h)) in
      let q = no_expr (k + expr_pulls a) b (omega (arith, h)) in
      ap (λ l. l ++ pulled_expr (k + expr_pulls a) b) p ∙ q
  no_expr k (sensed s) h = absurd (omega (arith, h))
  no_expr k (called c) h = absurd (omega (arith, h))

  no_call : (k : ℕ) (c : TCall) → call_pulls c ≡ 0 → pulled_call k c ≡ []
  no_call k (call f args) h = none_of_args k args h

  none_of_args : (k : ℕ) (xs : TArgs) → args_pulls xs ≡ 0 → pulled_args k xs ≡ []
  none_of_args k no_args h = refl
  none_of_args k (more_args a rest) h =
      let p = no_arg k a (omega (arith, h)) in
      let q = none_of_args (k + arg_pulls a) rest (omega (arith, h)) in
      ap (λ l. l ++ pulled_args (k + arg_pulls a) rest) p ∙ q

  no_arg : (k : ℕ) (a : TArg) → arg_pulls a ≡ 0 → pulled_arg k a ≡ []
  no_arg k (value e) h = no_expr k e h
  no_arg k (shared x) h = refl
  no_arg k (mutable x) h = refl

no_right : (k : ℕ) (r : TRight) → right_pulls r ≡ 0 → pulled_right k r ≡ []
no_right k (right_value e) h = no_expr k e h
no_right k (right_sense s) h = refl
no_right k (right_call c) h = no_call k c h

none_pulled : (k : ℕ) (s : TKind) → own_pulls s ≡ 0 → pulled k s ≡ []
none_pulled k (let_to m x t r) h = no_right k r h
none_pulled k (let_array m x t z n) h = refl
none_pulled k (assign x r) h = no_right k r h
none_pulled k (assign_index x e r) h =
    let p = no_expr k e (omega (arith, h)) in
    let q = no_right (k + expr_pulls e) r (omega (arith, h)) in
    ap (λ l. l ++ pulled_right (k + expr_pulls e) r) p ∙ q
none_pulled k (assign_deref x r) h = no_right k r h
none_pulled k (if_else c a b) h = no_expr k c h
none_pulled k (for_in x m n b) h = refl
none_pulled k (while_do c n b) h = no_expr k c h
none_pulled k (call_only c) h = no_call k c h
none_pulled k (sense_only s) h = refl
none_pulled k (emit p e) h = no_expr k e h
none_pulled k (fresh x) h = refl
none_pulled k (consistent x n) h = refl
none_pulled k (return e) h = no_expr k e h

-- without pulls the expansion has as many statements
mutual
  size_kind : (s : TKind) → inner_pulls s ≡ 0 → inner_size s ≡ inner_count s
  size_kind (let_to m x t r) h = refl
  size_kind (let_array m x t z n) h = refl
  size_kind (assign x r) h = refl
  size_kind (assign_index x e r) h = refl
  size_kind (assign_deref x r) h = refl
  size_kind (if_else c a b) h =
      let p : block_pulls a ≡ 0 = omega (arith, h) in
      let q : else_pulls b ≡ 0 = omega (arith, h) in
      omega (arith, size_block a p, size_else b q)
  size_kind (for_in x m n b) h = size_block b h
  size_kind (while_do c n b) h = size_block b h
  size_kind (call_only c) h = refl
  size_kind (sense_only s) h = refl
  size_kind (emit p e) h = refl
  size_kind (fresh x) h = refl
  size_kind (consistent x n) h = refl
  size_kind (return e) h = refl

  size_else : (b : TElse) → else_pulls b ≡ 0 → else_size b ≡ else_count b
  size_else no_else h = refl
  size_else (else_do b) h = size_block b h

  size_block : (b : TBlock) → block_pulls b ≡ 0 → block_size b ≡ block_count b
  size_block (block id ss) h = size_stmts ss h

  size_stmts : (ss : TStmts) → stmts_pulls ss ≡ 0 → stmts_size ss ≡ stmts_count ss
  size_stmts no_stmts h = refl
  size_stmts (more (stmt id line s) ss) h =
      let o : own_pulls s ≡ 0 = omega (arith, h) in
      let p : inner_pulls s ≡ 0 = omega (arith, h) in
      let q : stmts_pulls ss ≡ 0 = omega (arith, h) in
      omega (arith, o, size_kind s p, size_stmts ss q)

mutual
  own_kind : (k i : ℕ) (s : TKind) → own_pulls s ≡ 0 → inner_pulls s ≡ 0 → InnerNumbered i s → expand_kind k i s ≡ s
  own_kind k i (let_to m x t r) h g n = ap (let_to m x t) (same_right k r h)
  own_kind k i (let_array m x t z w) h g n = refl
  own_kind k i (assign x r) h g n = ap (assign x) (same_right k r h)
  own_kind k i (assign_index x e r) h g n =
      let p = same_expr k e (omega (arith, h)) in
      let q = same_right (k + expr_pulls e) r (omega (arith, h)) in
      ap (λ y. assign_index x y (left_right (k + expr_pulls e) r)) p ∙ ap (assign_index x e) q
  own_kind k i (assign_deref x r) h g n = ap (assign_deref x) (same_right k r h)
  own_kind k i (if_else c a b) h g n =
      let ga : block_pulls a ≡ 0 = omega (arith, g) in
      let gb : else_pulls b ≡ 0 = omega (arith, g) in
      let e : i + block_count a ≡ i + block_size a = ap (λ m. i + m) (sym (size_block a ga)) in
      let p = same_expr k c h in
      let q = own_block (k + expr_pulls c) i a ga n.0 in
      let r = own_else (k + expr_pulls c + block_pulls a) (i + block_size a) b gb (subst (λ m. ElseNumbered m b) e n.1) in
      ap (λ y. if_else y (expand_block (k + expr_pulls c) i a) (expand_else (k + expr_pulls c + block_pulls a) (i + block_size a) b)) p
      ∙ ap (λ y. if_else c y (expand_else (k + expr_pulls c + block_pulls a) (i + block_size a) b)) q
      ∙ ap (if_else c a) r
  own_kind k i (for_in x from to b) h g n = ap (for_in x from to) (own_block k i b g n)
  own_kind k i (while_do c m b) h g n =
      ap (λ y. while_do y m (expand_block (k + expr_pulls c) i b)) (same_expr k c h) ∙ ap (while_do c m) (own_block (k + expr_pulls c) i b g n)
  own_kind k i (call_only c) h g n = ap call_only (same_call k c h)
  own_kind k i (sense_only s) h g n = refl
  own_kind k i (emit p e) h g n = ap (emit p) (same_expr k e h)
  own_kind k i (fresh x) h g n = refl
  own_kind k i (consistent x m) h g n = refl
  own_kind k i (return e) h g n = ap return (same_expr k e h)

  own_else : (k i : ℕ) (b : TElse) → else_pulls b ≡ 0 → ElseNumbered i b → expand_else k i b ≡ b
  own_else k i no_else h n = refl
  own_else k i (else_do b) h n = ap else_do (own_block k i b h n)

  own_block : (k i : ℕ) (b : TBlock) → block_pulls b ≡ 0 → BlockNumbered i b → expand_block k i b ≡ b
  own_block k i (block id ss) h n = ap (block id) (own_stmts k i ss h n)

  own_stmts : (k i : ℕ) (ss : TStmts) → stmts_pulls ss ≡ 0 → StmtsNumbered i ss → expand_stmts k i ss ≡ ss
  own_stmts k i no_stmts h n = refl
  own_stmts k i (more (stmt id line s) ss) h n =
      let o : own_pulls s ≡ 0 = omega (arith, h) in
      let p : inner_pulls s ≡ 0 = omega (arith, h) in
      let q : stmts_pulls ss ≡ 0 = omega (arith, h) in
      let k' = k + stmt_pulls (stmt id line s) in
      let i' = i + stmt_size (stmt id line s) in
      let rest = expand_stmts k' i' ss in
      let at : i + own_pulls s ≡ id = omega (arith, o, n.0) in
      let in_at : i + 1 ≡ i + own_pulls s + 1 = omega (arith, o) in
      let next : i + (1 + inner_count s) ≡ i + (own_pulls s + 1 + inner_size s) = omega (arith, o, size_kind s p) in
      let a = ap (λ l. join_stmts (temporaries k i line l ++ stmt (i + own_pulls s) line (expand_kind k (i + own_pulls s + 1) s) ∷ []) rest) (none_pulled k s o) in
      let b = ap (λ m. more (stmt m line (expand_kind k (i + own_pulls s + 1) s)) rest) at in
      let c = ap (λ y. more (stmt id line y) rest) (own_kind k (i + own_pulls s + 1) s o p (subst (λ m. InnerNumbered m s) in_at n.1)) in
      let d = ap (more (stmt id line s)) (own_stmts k' i' ss q (subst (λ m. StmtsNumbered m ss) next n.2)) in
      a ∙ b ∙ c ∙ d

own_functions : (k i : ℕ) (fs : List TFunction) → sum_by (λ f. block_pulls f.body) fs ≡ 0 → FunctionsNumbered i fs → expand_functions k i fs ≡ fs
own_functions k i [] h n = refl
own_functions k i (f ∷ fs) h n =
    let s = sum_by-cons (λ g. block_pulls g.body) f fs in
    let p : block_pulls f.body ≡ 0 = omega (arith, h, s) in
    let q : sum_by (λ g. block_pulls g.body) fs ≡ 0 = omega (arith, h, s) in
    let e : i + block_count f.body ≡ i + block_size f.body = ap (λ m. i + m) (sym (size_block f.body p)) in
    let a = own_functions (k + block_pulls f.body) (i + block_size f.body) fs q (subst (λ m. FunctionsNumbered m fs) e n.1) in
    ap (λ b. record { name = f.name; line = f.line; params = f.params; result = f.result; body = b } ∷ expand_functions (k + block_pulls f.body) (i + block_size f.body) fs)
    (own_block k i f.body p n.0) ∙ ap (λ l. f ∷ l) a

pub own_expansion : (p : TProgram) → program_pulls p ≡ 0 → IsNumbered p → expansion p ≡ p
own_expansion p h n = ap (λ l. record { names = p.names; nv = p.nv; functions = l; order = p.order; last_line = p.last_line }) (own_functions 1 1 p.functions h n)
