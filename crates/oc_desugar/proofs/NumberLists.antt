-- Statements that are numbered from a number on, told as lists.
use Rattle.std.proofs.Common.{◌≡◌, ℕ, zero, suc, ◌+◌, List, [], ◌∷◌, ◌++◌, length, length-append, refl, ap, sym, subst, ◌∙◌, arith, flat_map, sum_by}
use Rattle.std.proofs.lemmas.List.Sums.{sum_by-cons}
use Rattle.oc_tree.specs.Tree.{TKind, let_to, let_array, assign, assign_index, assign_deref, if_else, for_in, while_do, call_only, sense_only, emit, fresh, consistent, return}
use Rattle.oc_tree.specs.Tree.{TElse, no_else, else_do, stmt, TBlock, block, TStmts, no_stmts, more, TFunction, TProgram}
use Rattle.oc_tree.specs.Numbers.{numbers_on, kind_statements, else_statements, block_statements, stmts_statements, program_statements}
use Rattle.oc_tree.specs.Pulls.{block_pulls}
use Rattle.oc_tree.specs.Expansion.{block_size, program_size, expand_function, expand_functions, expansion}
use Rattle.oc_desugar.proofs.NumberedLaws.{count_block, numbered}
use Rattle.oc_desugar.proofs.Numbered.{inner_count, else_count, block_count, stmts_count, InnerNumbered, ElseNumbered, BlockNumbered, StmtsNumbered, FunctionsNumbered, IsNumbered}

-- ---- numbers that follow each other

pub same_from : (i j n : ℕ) → i ≡ j → numbers_on i n ≡ numbers_on j n
same_from i j n e = ap (λ m. numbers_on m n) e

pub numbers_both : (i m n : ℕ) → numbers_on i m ++ numbers_on (i + m) n ≡ numbers_on i (m + n)
numbers_both i zero n = let e : i + 0 ≡ i = omega arith in let f : 0 + n ≡ n = omega arith in same_from (i + 0) i n e ∙ ap (numbers_on i) (sym f)
numbers_both i (suc m) n =
    let e : i + suc m ≡ suc i + m = omega arith in
    let f : suc m + n ≡ suc (m + n) = omega arith in
    ap (λ l. i ∷ l) (ap (λ j. numbers_on (suc i) m ++ numbers_on j n) e ∙ numbers_both (suc i) m n) ∙ ap (numbers_on i) (sym f)

pub numbers_length : (i n : ℕ) → length (numbers_on i n) ≡ n
numbers_length i zero = refl
numbers_length i (suc n) = ap suc (numbers_length (suc i) n)

-- two lists, one after the other
join : (xs ys : List ℕ) (i m n : ℕ) → xs ≡ numbers_on i m → ys ≡ numbers_on (i + m) n → xs ++ ys ≡ numbers_on i (m + n)
join xs ys i m n h k = ap (λ l. l ++ ys) h ∙ ap (λ l. numbers_on i m ++ l) k ∙ numbers_both i m n

-- ---- what is numbered has the numbers as its list

mutual
  inner_listed : (i : ℕ) (k : TKind) → InnerNumbered i k → kind_statements k ≡ numbers_on i (inner_count k)
  inner_listed i (let_to m x t r) h = refl
  inner_listed i (let_array m x t z n) h = refl
  inner_listed i (assign x r) h = refl
  inner_listed i (assign_index x e r) h = refl
  inner_listed i (assign_deref x r) h = refl
  inner_listed i (if_else c a b) h = join (block_statements a) (else_statements b) i (block_count a) (else_count b) (block_listed i a h.0) (else_listed (i + block_count a) b h.1)
  inner_listed i (for_in x m n b) h = block_listed i b h
  inner_listed i (while_do c n b) h = block_listed i b h
  inner_listed i (call_only c) h = refl
  inner_listed i (sense_only s) h = refl
  inner_listed i (emit p e) h = refl
  inner_listed i (fresh x) h = refl
  inner_listed i (consistent x n) h = refl
  inner_listed i (return e) h = refl

  else_listed : (i : ℕ) (b : TElse) → ElseNumbered i b → else_statements b ≡ numbers_on i (else_count b)
  else_listed i no_else h = refl
  else_listed i (else_do b) h = block_listed i b h

  block_listed : (i : ℕ) (b : TBlock) → BlockNumbered i b → block_statements b ≡ numbers_on i (block_count b)
  block_listed i (block id ss) h = stmts_listed i ss h

  stmts_listed : (i : ℕ) (ss : TStmts) → StmtsNumbered i ss → stmts_statements ss ≡ numbers_on i (stmts_count ss)
  stmts_listed i no_stmts h = refl
  stmts_listed i (more (stmt id line k) ss) h =
      let e : i + 1 ≡ suc i = omega arith in
      let inside = inner_listed (i + 1) k h.1 ∙ same_from (i + 1) (suc i) (inner_count k) e in
      let own = ap (λ j. j ∷ kind_statements k) h.0 ∙ ap (λ l. i ∷ l) inside in
      let f : suc (inner_count k) ≡ 1 + inner_count k = omega arith in
      join (id ∷ kind_statements k) (stmts_statements ss) i (1 + inner_count k) (stmts_count ss) (own ∙ ap (numbers_on i) f) (stmts_listed (i + (1 + inner_count k)) ss h.2)

functions_listed : (i : ℕ) (fs : List TFunction) → FunctionsNumbered i fs → flat_map (λ f. block_statements f.body) fs ≡ numbers_on i (sum_by (λ f. block_count f.body) fs)
functions_listed i [] h = refl
functions_listed i (f ∷ fs) h =
    join (block_statements f.body) (flat_map (λ g. block_statements g.body) fs) i (block_count f.body) (sum_by (λ g. block_count g.body) fs) (block_listed i f.body h.0)
    (functions_listed (i + block_count f.body) fs h.1)
    ∙ ap (numbers_on i) (sym (sum_by-cons (λ g. block_count g.body) f fs))

-- a list of numbers that follow each other has as many as it is long
own_length : (i n : ℕ) (xs : List ℕ) → xs ≡ numbers_on i n → xs ≡ numbers_on i (length xs)
own_length i n xs h = h ∙ ap (numbers_on i) (sym (ap length h ∙ numbers_length i n))

pub listed : (p : TProgram) → IsNumbered p → program_statements p ≡ numbers_on 1 (length (program_statements p))
listed p h = own_length 1 (sum_by (λ f. block_count f.body) p.functions) (program_statements p) (functions_listed 1 p.functions h)

-- an expansion has as many statements as are counted
functions_sized : (k i : ℕ) (fs : List TFunction) → sum_by (λ f. block_count f.body) (expand_functions k i fs) ≡ sum_by (λ f. block_size f.body) fs
functions_sized k i [] = refl
functions_sized k i (f ∷ fs) =
    let a = sum_by-cons (λ g. block_count g.body) (expand_function k i f) (expand_functions (k + block_pulls f.body) (i + block_size f.body) fs) in
    let b = sum_by-cons (λ g. block_size g.body) f fs in
    let c = count_block k i f.body in
    let d = functions_sized (k + block_pulls f.body) (i + block_size f.body) fs in
    omega (arith, a, b, c, d)

pub statements_listed : (p : TProgram) → program_statements (expansion p) ≡ numbers_on 1 (program_size p)
statements_listed p = functions_listed 1 (expansion p).functions (numbered p) ∙ ap (numbers_on 1) (functions_sized 1 1 p.functions)

-- ---- and the other way round

-- a list of numbers that follow each other, from `i` on
abbrev pub Follow : ℕ → List ℕ → Type 0
Follow i xs = xs ≡ numbers_on i (length xs)

pub first_of : (x i : ℕ) (xs : List ℕ) → Follow i (x ∷ xs) → (x ≡ i) × Follow (suc i) xs
first_of x i xs h = (cc h, cc h)

-- each of two that follow each other does
pub parts : (i : ℕ) (xs ys : List ℕ) → Follow i (xs ++ ys) → Follow i xs × Follow (i + length xs) ys
parts i [] ys h = let e : i ≡ i + 0 = omega arith in (refl, subst (λ j. Follow j ys) e h)
parts i (x ∷ xs) ys h =
    let a = first_of x i (xs ++ ys) h in
    let b = parts (suc i) xs ys a.1 in
    let e : suc i + length xs ≡ i + suc (length xs) = omega arith in
    (ap (λ j. j ∷ xs) a.0 ∙ ap (λ l. i ∷ l) b.0, subst (λ j. Follow j ys) e b.1)

mutual
  inner_length : (k : TKind) → length (kind_statements k) ≡ inner_count k
  inner_length (let_to m x t r) = refl
  inner_length (let_array m x t z n) = refl
  inner_length (assign x r) = refl
  inner_length (assign_index x e r) = refl
  inner_length (assign_deref x r) = refl
  inner_length (if_else c a b) = omega (arith, length-append (block_statements a) (else_statements b), block_length a, else_length b)
  inner_length (for_in x m n b) = block_length b
  inner_length (while_do c n b) = block_length b
  inner_length (call_only c) = refl
  inner_length (sense_only s) = refl
  inner_length (emit p e) = refl
  inner_length (fresh x) = refl
  inner_length (consistent x n) = refl
  inner_length (return e) = refl

  else_length : (b : TElse) → length (else_statements b) ≡ else_count b
  else_length no_else = refl
  else_length (else_do b) = block_length b

  block_length : (b : TBlock) → length (block_statements b) ≡ block_count b
  block_length (block id ss) = stmts_length ss

  stmts_length : (ss : TStmts) → length (stmts_statements ss) ≡ stmts_count ss
  stmts_length no_stmts = refl
  stmts_length (more (stmt id line k) ss) = omega (arith, length-append (id ∷ kind_statements k) (stmts_statements ss), inner_length k, stmts_length ss)

mutual
  inner_numbered : (i : ℕ) (k : TKind) → Follow i (kind_statements k) → InnerNumbered i k
  inner_numbered i (let_to m x t r) h = tt
  inner_numbered i (let_array m x t z n) h = tt
  inner_numbered i (assign x r) h = tt
  inner_numbered i (assign_index x e r) h = tt
  inner_numbered i (assign_deref x r) h = tt
  inner_numbered i (if_else c a b) h =
      let d = parts i (block_statements a) (else_statements b) h in
      (block_numbered i a d.0, else_numbered (i + block_count a) b (subst (λ n. Follow (i + n) (else_statements b)) (block_length a) d.1))
  inner_numbered i (for_in x m n b) h = block_numbered i b h
  inner_numbered i (while_do c n b) h = block_numbered i b h
  inner_numbered i (call_only c) h = tt
  inner_numbered i (sense_only s) h = tt
  inner_numbered i (emit p e) h = tt
  inner_numbered i (fresh x) h = tt
  inner_numbered i (consistent x n) h = tt
  inner_numbered i (return e) h = tt

  else_numbered : (i : ℕ) (b : TElse) → Follow i (else_statements b) → ElseNumbered i b
  else_numbered i no_else h = tt
  else_numbered i (else_do b) h = block_numbered i b h

  block_numbered : (i : ℕ) (b : TBlock) → Follow i (block_statements b) → BlockNumbered i b
  block_numbered i (block id ss) h = stmts_numbered i ss h

  stmts_numbered : (i : ℕ) (ss : TStmts) → Follow i (stmts_statements ss) → StmtsNumbered i ss
  stmts_numbered i no_stmts h = tt
  stmts_numbered i (more (stmt id line k) ss) h =
      let d = parts i (id ∷ kind_statements k) (stmts_statements ss) h in
      let o = first_of id i (kind_statements k) d.0 in
      let e : suc i ≡ i + 1 = omega arith in
      let l = inner_length k in
      let f : i + suc (length (kind_statements k)) ≡ i + (1 + inner_count k) = omega (arith, l) in
      (o.0, inner_numbered (i + 1) k (subst (λ j. Follow j (kind_statements k)) e o.1), stmts_numbered (i + (1 + inner_count k)) ss (subst (λ j. Follow j (stmts_statements ss)) f d.1))

functions_numbered : (i : ℕ) (fs : List TFunction) → Follow i (flat_map (λ f. block_statements f.body) fs) → FunctionsNumbered i fs
functions_numbered i [] h = tt
functions_numbered i (f ∷ fs) h =
    let d = parts i (block_statements f.body) (flat_map (λ g. block_statements g.body) fs) h in
    (block_numbered i f.body d.0, functions_numbered (i + block_count f.body) fs (subst (λ n. Follow (i + n) (flat_map (λ g. block_statements g.body) fs)) (block_length f.body) d.1))

pub is_numbered : (p : TProgram) → Follow 1 (program_statements p) → IsNumbered p
is_numbered p h = functions_numbered 1 p.functions h
