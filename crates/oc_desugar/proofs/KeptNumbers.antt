-- The numbers of the written statements in the expansion: a statement has its own number and the pulls of all
-- statements up to it, so numbers rise, and two statements keep two numbers.
use Rattle.std.proofs.Common.{◌≡◌, ◌≤◌, ℕ, zero, suc, ◌+◌, List, [], ◌∷◌, ◌++◌, map, length, refl, ap, sym, subst, ◌∙◌, arith, inl, inr, append_assoc}
use Rattle.std.specs.List.{flat_map}
use Rattle.std.proofs.lemmas.List.{map-append}
use Rattle.std.proofs.lemmas.Bool.{cases_order}
use Rattle.oc_tree.specs.Tree.{TKind, let_to, let_array, assign, assign_index, assign_deref, if_else, for_in, while_do, call_only, sense_only, emit, fresh, consistent, return}
use Rattle.oc_tree.specs.Tree.{TElse, no_else, else_do, stmt, TBlock, block, TStmts, no_stmts, more, TFunction, TProgram}
use Rattle.oc_tree.specs.Pulls.{own_pulls}
use Rattle.oc_tree.specs.Expansion.{inner_size, else_size, block_size, stmts_size}
use Rattle.oc_tree.specs.Numbers.{numbers_on, kind_statements, else_statements, block_statements, stmts_statements, program_statements}
use Rattle.oc_tree.specs.Form.{Numbered}

-- Each statement's number with its own pulls, in source order.
abbrev Pairs : Type 0
Pairs = List (ℕ × ℕ)

abbrev mutual
  kind_pairs : TKind → Pairs
  kind_pairs (if_else c a b) = block_pairs a ++ else_pairs b
  kind_pairs (for_in x m n b) = block_pairs b
  kind_pairs (while_do c n b) = block_pairs b
  kind_pairs _ = []

  else_pairs : TElse → Pairs
  else_pairs no_else = []
  else_pairs (else_do b) = block_pairs b

  pub block_pairs : TBlock → Pairs
  block_pairs (block id ss) = stmts_pairs ss

  stmts_pairs : TStmts → Pairs
  stmts_pairs no_stmts = []
  stmts_pairs (more (stmt id line k) ss) = ((id, own_pulls k) ∷ kind_pairs k) ++ stmts_pairs ss

-- of all functions
abbrev functions_pairs : List TFunction → Pairs
functions_pairs fs = flat_map (λ f. block_pairs f.body) fs

-- the pulls of the first statements
abbrev pulls_to : ℕ → Pairs → ℕ
pulls_to zero xs = 0
pulls_to (suc n) [] = 0
pulls_to (suc n) (x ∷ xs) = x.1 + pulls_to n xs

-- the number that a statement gets, where these are all
abbrev new_from : Pairs → ℕ → ℕ
new_from xs n = n + pulls_to n xs

-- the new number of a statement
abbrev pub new_number : TProgram → ℕ → ℕ
new_number p n = new_from (functions_pairs p.functions) n

-- ---- numbers rise

-- more statements have no fewer pulls
rises : (xs : Pairs) (m n : ℕ) → m ≤ n → pulls_to m xs ≤ pulls_to n xs
rises xs zero n h = omega arith
rises xs (suc m) zero h = absurd (omega (arith, h))
rises [] (suc m) (suc n) h = omega arith
rises (x ∷ xs) (suc m) (suc n) h = omega (arith, rises xs m n (omega (arith, h)))

-- two statements keep two numbers
pub new_apart : (p : TProgram) (m n : ℕ) → new_number p m ≡ new_number p n → m ≡ n
new_apart p m n e =
    let xs = functions_pairs p.functions in
    elim (cases_order m n) [
      | inl d ↦ d
      | inr o ↦ elim o [
        | inl l ↦ let r = rises xs m n (omega (arith, l)) in absurd (omega (arith, l, r, e))
        | inr l ↦ let r = rises xs n m (omega (arith, l)) in absurd (omega (arith, l, r, e))
      ]
    ]

-- ---- where statements come to stand

-- statements of these numbers and pulls come to stand from `i` on
abbrev Placed : (ℕ → ℕ) → ℕ → Pairs → Type 0
Placed f i [] = Unit {0}
Placed f i (x ∷ xs) = (f x.0 ≡ i + x.1) × Placed f (i + x.1 + 1) xs

-- how many statements their groups have
abbrev size_of : Pairs → ℕ
size_of [] = 0
size_of (x ∷ xs) = x.1 + 1 + size_of xs

-- two stretches of statements, one after the other
placed_split : (f : ℕ → ℕ) (i : ℕ) (xs ys : Pairs) → Placed f i (xs ++ ys) → Placed f i xs × Placed f (i + size_of xs) ys
placed_split f i [] ys h = let e : i ≡ i + 0 = omega arith in (tt, subst (λ j. Placed f j ys) e h)
placed_split f i (x ∷ xs) ys h =
    let r = placed_split f (i + x.1 + 1) xs ys h.1 in
    let e : i + x.1 + 1 + size_of xs ≡ i + (x.1 + 1 + size_of xs) = omega arith in
    ((h.0, r.0), subst (λ j. Placed f j ys) e r.1)

-- and how many statements both have
size_join : (xs ys : Pairs) → size_of (xs ++ ys) ≡ size_of xs + size_of ys
size_join [] ys = omega arith
size_join (x ∷ xs) ys = omega (arith, size_join xs ys)

-- the same of the statements of a tree: the last of the group of a statement has its new number
abbrev mutual
  pub InnerPlaced : (ℕ → ℕ) → ℕ → TKind → Type 0
  InnerPlaced f i (if_else c a b) = BlockPlaced f i a × ElsePlaced f (i + block_size a) b
  InnerPlaced f i (for_in x m n b) = BlockPlaced f i b
  InnerPlaced f i (while_do c n b) = BlockPlaced f i b
  InnerPlaced f i _ = Unit {0}

  pub ElsePlaced : (ℕ → ℕ) → ℕ → TElse → Type 0
  ElsePlaced f i no_else = Unit {0}
  ElsePlaced f i (else_do b) = BlockPlaced f i b

  pub BlockPlaced : (ℕ → ℕ) → ℕ → TBlock → Type 0
  BlockPlaced f i (block id ss) = StmtsPlaced f i ss

  pub StmtsPlaced : (ℕ → ℕ) → ℕ → TStmts → Type 0
  StmtsPlaced f i no_stmts = Unit {0}
  StmtsPlaced f i (more (stmt id line k) ss) = (f id ≡ i + own_pulls k) × InnerPlaced f (i + own_pulls k + 1) k × StmtsPlaced f (i + (own_pulls k + 1 + inner_size k)) ss

-- and of functions
abbrev pub FunctionsPlaced : (ℕ → ℕ) → ℕ → List TFunction → Type 0
FunctionsPlaced f i [] = Unit {0}
FunctionsPlaced f i (g ∷ fs) = BlockPlaced f i g.body × FunctionsPlaced f (i + block_size g.body) fs

mutual
  size_kind : (s : TKind) → size_of (kind_pairs s) ≡ inner_size s
  size_kind (let_to m x t r) = refl
  size_kind (let_array m x t z n) = refl
  size_kind (assign x r) = refl
  size_kind (assign_index x e r) = refl
  size_kind (assign_deref x r) = refl
  size_kind (if_else c a b) = omega (arith, size_join (block_pairs a) (else_pairs b), size_block a, size_else b)
  size_kind (for_in x m n b) = size_block b
  size_kind (while_do c n b) = size_block b
  size_kind (call_only c) = refl
  size_kind (sense_only s) = refl
  size_kind (emit p e) = refl
  size_kind (fresh x) = refl
  size_kind (consistent x n) = refl
  size_kind (return e) = refl

  size_else : (b : TElse) → size_of (else_pairs b) ≡ else_size b
  size_else no_else = refl
  size_else (else_do b) = size_block b

  size_block : (b : TBlock) → size_of (block_pairs b) ≡ block_size b
  size_block (block id ss) = size_stmts ss

  size_stmts : (ss : TStmts) → size_of (stmts_pairs ss) ≡ stmts_size ss
  size_stmts no_stmts = refl
  size_stmts (more (stmt id line k) ss) = omega (arith, size_join (kind_pairs k) (stmts_pairs ss), size_kind k, size_stmts ss)

mutual
  place_kind : (f : ℕ → ℕ) (i : ℕ) (s : TKind) → Placed f i (kind_pairs s) → InnerPlaced f i s
  place_kind f i (let_to m x t r) h = tt
  place_kind f i (let_array m x t z n) h = tt
  place_kind f i (assign x r) h = tt
  place_kind f i (assign_index x e r) h = tt
  place_kind f i (assign_deref x r) h = tt
  place_kind f i (if_else c a b) h =
      let q = placed_split f i (block_pairs a) (else_pairs b) h in
      let e : i + size_of (block_pairs a) ≡ i + block_size a = ap (λ n. i + n) (size_block a) in
      (place_block f i a q.0, place_else f (i + block_size a) b (subst (λ j. Placed f j (else_pairs b)) e q.1))
  place_kind f i (for_in x m n b) h = place_block f i b h
  place_kind f i (while_do c n b) h = place_block f i b h
  place_kind f i (call_only c) h = tt
  place_kind f i (sense_only s) h = tt
  place_kind f i (emit p e) h = tt
  place_kind f i (fresh x) h = tt
  place_kind f i (consistent x n) h = tt
  place_kind f i (return e) h = tt

  place_else : (f : ℕ → ℕ) (i : ℕ) (b : TElse) → Placed f i (else_pairs b) → ElsePlaced f i b
  place_else f i no_else h = tt
  place_else f i (else_do b) h = place_block f i b h

  place_block : (f : ℕ → ℕ) (i : ℕ) (b : TBlock) → Placed f i (block_pairs b) → BlockPlaced f i b
  place_block f i (block id ss) h = place_stmts f i ss h

  place_stmts : (f : ℕ → ℕ) (i : ℕ) (ss : TStmts) → Placed f i (stmts_pairs ss) → StmtsPlaced f i ss
  place_stmts f i no_stmts h = tt
  place_stmts f i (more (stmt id line k) ss) h =
      let q = placed_split f (i + own_pulls k + 1) (kind_pairs k) (stmts_pairs ss) h.1 in
      let e : i + own_pulls k + 1 + size_of (kind_pairs k) ≡ i + (own_pulls k + 1 + inner_size k) = omega (arith, size_kind k) in
      (h.0, place_kind f (i + own_pulls k + 1) k q.0, place_stmts f (i + (own_pulls k + 1 + inner_size k)) ss (subst (λ j. Placed f j (stmts_pairs ss)) e q.1))

-- from the list to the tree
place_functions : (f : ℕ → ℕ) (i : ℕ) (fs : List TFunction) → Placed f i (functions_pairs fs) → FunctionsPlaced f i fs
place_functions f i [] h = tt
place_functions f i (g ∷ fs) h =
    let q = placed_split f i (block_pairs g.body) (functions_pairs fs) h in
    let e : i + size_of (block_pairs g.body) ≡ i + block_size g.body = ap (λ n. i + n) (size_block g.body) in
    (place_block f i g.body q.0, place_functions f (i + block_size g.body) fs (subst (λ j. Placed f j (functions_pairs fs)) e q.1))

-- ---- the numbers of a program

-- the numbers alone
abbrev firsts : Pairs → List ℕ
firsts xs = map (λ x. x.0) xs

-- of two stretches
firsts_both : (xs ys : Pairs) (ms ns : List ℕ) → firsts xs ≡ ms → firsts ys ≡ ns → firsts (xs ++ ys) ≡ ms ++ ns
firsts_both xs ys ms ns a b = map-append (λ (x : ℕ × ℕ). x.0) xs ys ∙ ap (λ l. l ++ firsts ys) a ∙ ap (λ l. ms ++ l) b

mutual
  firsts_kind : (s : TKind) → firsts (kind_pairs s) ≡ kind_statements s
  firsts_kind (let_to m x t r) = refl
  firsts_kind (let_array m x t z n) = refl
  firsts_kind (assign x r) = refl
  firsts_kind (assign_index x e r) = refl
  firsts_kind (assign_deref x r) = refl
  firsts_kind (if_else c a b) = firsts_both (block_pairs a) (else_pairs b) _ _ (firsts_block a) (firsts_else b)
  firsts_kind (for_in x m n b) = firsts_block b
  firsts_kind (while_do c n b) = firsts_block b
  firsts_kind (call_only c) = refl
  firsts_kind (sense_only s) = refl
  firsts_kind (emit p e) = refl
  firsts_kind (fresh x) = refl
  firsts_kind (consistent x n) = refl
  firsts_kind (return e) = refl

  firsts_else : (b : TElse) → firsts (else_pairs b) ≡ else_statements b
  firsts_else no_else = refl
  firsts_else (else_do b) = firsts_block b

  firsts_block : (b : TBlock) → firsts (block_pairs b) ≡ block_statements b
  firsts_block (block id ss) = firsts_stmts ss

  firsts_stmts : (ss : TStmts) → firsts (stmts_pairs ss) ≡ stmts_statements ss
  firsts_stmts no_stmts = refl
  firsts_stmts (more (stmt id line k) ss) = ap (λ l. id ∷ l) (firsts_both (kind_pairs k) (stmts_pairs ss) _ _ (firsts_kind k) (firsts_stmts ss))

-- of all functions
firsts_functions : (fs : List TFunction) → firsts (functions_pairs fs) ≡ flat_map (λ f. block_statements f.body) fs
firsts_functions [] = refl
firsts_functions (f ∷ fs) = firsts_both (block_pairs f.body) (functions_pairs fs) _ _ (firsts_block f.body) (firsts_functions fs)

-- of `front ++ x ∷ xs` the first statements up to `x`
pulls_at : (front : Pairs) (x : ℕ × ℕ) (xs : Pairs) → pulls_to (length front + 1) (front ++ x ∷ xs) + length front + 1 ≡ size_of front + 1 + x.1
pulls_at [] x xs = omega arith
pulls_at (y ∷ front) x xs =
    let e : length (y ∷ front) + 1 ≡ suc (length front + 1) = omega arith in
    let f : pulls_to (length (y ∷ front) + 1) (y ∷ (front ++ x ∷ xs)) ≡ y.1 + pulls_to (length front + 1) (front ++ x ∷ xs) = ap (λ n. pulls_to n (y ∷ (front ++ x ∷ xs))) e in
    omega (arith, f, pulls_at front x xs)

-- statements that are numbered in order come to stand one group after the other
placed_rest : (all front xs : Pairs) (n : ℕ) → all ≡ front ++ xs → firsts xs ≡ numbers_on (length front + 1) n → Placed (new_from all) (size_of front + 1) xs
placed_rest all front [] n e h = tt
placed_rest all front (x ∷ xs) zero e h = absurd (cc)
placed_rest all front (x ∷ xs) (suc n) e h =
    let grown = front ++ x ∷ [] in
    let whole : all ≡ grown ++ xs = e ∙ sym (append_assoc front (x ∷ []) xs) in
    let head : x.0 ≡ length front + 1 = (cc) in
    let rest : firsts xs ≡ numbers_on (suc (length front + 1)) n = (cc) in
    let long : suc (length front + 1) ≡ length grown + 1 = longer front x in
    let at : new_from all x.0 ≡ size_of front + 1 + x.1 = ap (new_from all) head ∙ ap (λ l. new_from l (length front + 1)) e ∙ omega (arith, pulls_at front x xs) in
    let next : size_of grown + 1 ≡ size_of front + 1 + x.1 + 1 = omega (arith, size_join front (x ∷ [])) in
    let tail = placed_rest all grown xs n whole (rest ∙ ap (λ m. numbers_on m n) long) in
    (at, subst (λ j. Placed (new_from all) j xs) next tail)
  where
    longer : (front : Pairs) (x : ℕ × ℕ) → suc (length front + 1) ≡ length (front ++ x ∷ []) + 1
    longer [] x = omega arith
    longer (y ∷ front) x = omega (arith, longer front x)

-- each statement of a numbered program comes to stand at its new number
pub placed : (p : TProgram) → Numbered p → FunctionsPlaced (new_number p) 1 p.functions
placed p h =
    let xs = functions_pairs p.functions in
    place_functions (new_number p) 1 p.functions (placed_rest xs [] xs (length (program_statements p)) refl (firsts_functions p.functions ∙ h.statements))
