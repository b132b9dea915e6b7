-- In which blocks the statements of a tree stand, where statements and blocks are numbered in source order.
use Rattle.std.proofs.Common.{◌≡◌, ◌<◌, ◌≤◌, ◌⊎◌, inl, inr, ℕ, suc, ◌+◌, List, [], ◌∷◌, ◌++◌, length, refl, arith, length-append, flat_map}
use Rattle.oc_tree.specs.Tree.{TKind, let_to, let_array, assign, assign_index, assign_deref, if_else, for_in, while_do, call_only, sense_only, emit, fresh, consistent, return}
use Rattle.oc_tree.specs.Tree.{TElse, no_else, else_do, stmt, TBlock, block, TStmts, no_stmts, more, TFunction}
use Rattle.oc_tree.specs.Numbers.{kind_statements, else_statements, block_statements, stmts_statements, kind_blocks, else_blocks, block_blocks, stmts_blocks}
use Rattle.oc_desugar.proofs.NumberLists.{Follow, first_of, parts}
use Rattle.oc_desugar.proofs.BlockPairs.{Pair, kind_pairs, else_pairs, block_pairs, stmts_pairs}

-- ---- lists of pairs

-- each pair is so
abbrev pub EachPair : (Pair → Type 0) → List Pair → Type 0
EachPair P [] = Unit {0}
EachPair P (x ∷ xs) = P x × EachPair P xs

-- two lists one behind the other
pub pairs_join : (P : Pair → Type 0) (xs ys : List Pair) → EachPair P xs → EachPair P ys → EachPair P (xs ++ ys)
pairs_join P [] ys h g = g
pairs_join P (x ∷ xs) ys h g = (h.0, pairs_join P xs ys h.1 g)

-- what follows from what holds of each pair
pub pairs_map : (P Q : Pair → Type 0) → ((x : Pair) → P x → Q x) → (xs : List Pair) → EachPair P xs → EachPair Q xs
pairs_map P Q f [] h = tt
pairs_map P Q f (x ∷ xs) h = (f x h.0, pairs_map P Q f xs h.1)

-- ---- ranges

-- a number from a on, below z
abbrev pub From : (a z n : ℕ) → Type 0
From a z n = (a ≤ n) × (n < z)

-- a statement with a number from a on and below z, in a block with a number from c on and below d
abbrev pub Ranged : (a z c d : ℕ) → Pair → Type 0
Ranged a z c d x = From a z x.0 × From c d x.1

-- the same, but it may be in the block b
abbrev pub RangedIn : (b a z c d : ℕ) → Pair → Type 0
RangedIn b a z c d x = From a z x.0 × ((x.1 ≡ b) ⊎ From c d x.1)

-- greater ranges
wider : (a z c d a' z' c' d' : ℕ) → a' ≤ a → z ≤ z' → c' ≤ c → d ≤ d' → (xs : List Pair) → EachPair (Ranged a z c d) xs → EachPair (Ranged a' z' c' d') xs
wider a z c d a' z' c' d' l m n o xs h =
    pairs_map (Ranged a z c d) (Ranged a' z' c' d') (λ x r. ((omega (arith, l, r.0.0), omega (arith, m, r.0.1)), (omega (arith, n, r.1.0), omega (arith, o, r.1.1)))) xs h

-- greater ranges, or in the block b
wider_in : (b a z c d a' z' c' d' : ℕ) → a' ≤ a → z ≤ z' → c' ≤ c → d ≤ d' → (xs : List Pair) → EachPair (Ranged a z c d) xs → EachPair (RangedIn b a' z' c' d') xs
wider_in b a z c d a' z' c' d' l m n o xs h =
    pairs_map (Ranged a z c d) (RangedIn b a' z' c' d') (λ x r. ((omega (arith, l, r.0.0), omega (arith, m, r.0.1)), inr (omega (arith, n, r.1.0), omega (arith, o, r.1.1)))) xs h

-- the block b with statements that may be in it
widest : (b a z c d a' z' c' d' : ℕ) → a' ≤ a → z ≤ z' → c' ≤ c → d ≤ d' → (xs : List Pair) → EachPair (RangedIn b a z c d) xs → EachPair (RangedIn b a' z' c' d') xs
widest b a z c d a' z' c' d' l m n o xs h = pairs_map (RangedIn b a z c d) (RangedIn b a' z' c' d') (λ x r. ((omega (arith, l, r.0.0), omega (arith, m, r.0.1)), in_block x r.1)) xs h
  where
    in_block : (x : Pair) → (x.1 ≡ b) ⊎ From c d x.1 → (x.1 ≡ b) ⊎ From c' d' x.1
    in_block x (inl e) = inl e
    in_block x (inr r) = inr (omega (arith, n, r.0), omega (arith, o, r.1))

-- ---- the ranges of trees

-- two parts one behind the other
both : (i j : ℕ) (xs ys : List Pair) (us vs bs cs : List ℕ)
    → EachPair (Ranged i (i + length us) j (j + length bs)) xs → EachPair (Ranged (i + length us) (i + length us + length vs) (j + length bs) (j + length bs + length cs)) ys
    → EachPair (Ranged i (i + length (us ++ vs)) j (j + length (bs ++ cs))) (xs ++ ys)
both i j xs ys us vs bs cs h g =
    let m = length-append us vs in
    let n = length-append bs cs in
    pairs_join (Ranged i (i + length (us ++ vs)) j (j + length (bs ++ cs))) xs ys
    (wider i (i + length us) j (j + length bs) i (i + length (us ++ vs)) j (j + length (bs ++ cs)) (omega arith) (omega (arith, m)) (omega arith) (omega (arith, n)) xs h)
    (wider (i + length us) (i + length us + length vs) (j + length bs) (j + length bs + length cs) i (i + length (us ++ vs)) j (j + length (bs ++ cs)) (omega arith)
    (omega (arith, m)) (omega arith) (omega (arith, n)) ys g)

mutual
  -- a statement
  pub kind_ranged : (i j : ℕ) (k : TKind) → Follow i (kind_statements k) → Follow j (kind_blocks k) → EachPair (Ranged i (i + length (kind_statements k)) j (j + length (kind_blocks k))) (kind_pairs k)
  kind_ranged i j (if_else c a b) f g =
      let s = parts i (block_statements a) (else_statements b) f in
      let t = parts j (block_blocks a) (else_blocks b) g in
      both i j (block_pairs a) (else_pairs b) (block_statements a) (else_statements b) (block_blocks a) (else_blocks b) (block_ranged i j a s.0 t.0)
      (else_ranged (i + length (block_statements a)) (j + length (block_blocks a)) b s.1 t.1)
  kind_ranged i j (for_in x m n b) f g = block_ranged i j b f g
  kind_ranged i j (while_do c n b) f g = block_ranged i j b f g
  kind_ranged i j k f g = tt

  -- what stands behind `else`
  pub else_ranged : (i j : ℕ) (b : TElse) → Follow i (else_statements b) → Follow j (else_blocks b) → EachPair (Ranged i (i + length (else_statements b)) j (j + length (else_blocks b))) (else_pairs b)
  else_ranged i j no_else f g = tt
  else_ranged i j (else_do b) f g = block_ranged i j b f g

  -- a block
  pub block_ranged : (i j : ℕ) (b : TBlock) → Follow i (block_statements b) → Follow j (block_blocks b)
      → EachPair (Ranged i (i + length (block_statements b)) j (j + length (block_blocks b))) (block_pairs b)
  block_ranged i j (block id ss) f g =
      let o = first_of id j (stmts_blocks ss) g in
      let z = i + length (stmts_statements ss) in
      let d = suc j + length (stmts_blocks ss) in
      pairs_map (RangedIn id i z (suc j) d) (Ranged i z j (j + length (block_blocks (block id ss)))) (λ x r. (r.0, inside x o.0 r.1)) (stmts_pairs id ss) (stmts_ranged id i (suc j) ss f o.1)
    where
      inside : (x : Pair) → id ≡ j → (x.1 ≡ id) ⊎ From (suc j) (suc j + length (stmts_blocks ss)) x.1 → From j (j + suc (length (stmts_blocks ss))) x.1
      inside x e (inl at) = (omega (arith, e, at), omega (arith, e, at))
      inside x e (inr r) = (omega (arith, r.0), omega (arith, r.1))

  -- statements of the block b
  pub stmts_ranged : (b i j : ℕ) (ss : TStmts) → Follow i (stmts_statements ss) → Follow j (stmts_blocks ss)
      → EachPair (RangedIn b i (i + length (stmts_statements ss)) j (j + length (stmts_blocks ss))) (stmts_pairs b ss)
  stmts_ranged b i j no_stmts f g = tt
  stmts_ranged b i j (more (stmt id line k) ss) f g =
      let s = parts i (id ∷ kind_statements k) (stmts_statements ss) f in
      let t = parts j (kind_blocks k) (stmts_blocks ss) g in
      let o = first_of id i (kind_statements k) s.0 in
      let z = i + length (stmts_statements (more (stmt id line k) ss)) in
      let d = j + length (stmts_blocks (more (stmt id line k) ss)) in
      let m = length-append (id ∷ kind_statements k) (stmts_statements ss) in
      let n = length-append (kind_blocks k) (stmts_blocks ss) in
      let i' = i + length (id ∷ kind_statements k) in
      let j' = j + length (kind_blocks k) in
      let own = kind_ranged (suc i) j k o.1 t.0 in
      let others = stmts_ranged b i' j' ss s.1 t.1 in (
        ((omega (arith, o.0), omega (arith, o.0, m)), inl refl),
        pairs_join (RangedIn b i z j d) (kind_pairs k) (stmts_pairs b ss)
            (wider_in b (suc i) (suc i + length (kind_statements k)) j j' i z j d (omega arith) (omega (arith, m)) (omega arith) (omega (arith, n)) (kind_pairs k) own)
            (widest b i' (i' + length (stmts_statements ss)) j' (j' + length (stmts_blocks ss)) i z j d (omega arith) (omega (arith, m)) (omega arith) (omega (arith, n)) (stmts_pairs b ss) others),
      )

-- functions
pub functions_ranged : (i j : ℕ) (fs : List TFunction) → Follow i (flat_map (λ f. block_statements f.body) fs) → Follow j (flat_map (λ f. block_blocks f.body) fs)
    → EachPair (Ranged i (i + length (flat_map (λ f. block_statements f.body) fs)) j (j + length (flat_map (λ f. block_blocks f.body) fs))) (flat_map (λ f. block_pairs f.body) fs)
functions_ranged i j [] f g = tt
functions_ranged i j (h ∷ fs) f g =
    let s = parts i (block_statements h.body) (flat_map (λ f. block_statements f.body) fs) f in
    let t = parts j (block_blocks h.body) (flat_map (λ f. block_blocks f.body) fs) g in
    both i j (block_pairs h.body) (flat_map (λ f. block_pairs f.body) fs) (block_statements h.body) (flat_map (λ f. block_statements f.body) fs) (block_blocks h.body)
    (flat_map (λ f. block_blocks f.body) fs) (block_ranged i j h.body s.0 t.0) (functions_ranged (i + length (block_statements h.body)) (j + length (block_blocks h.body)) fs s.1 t.1)
