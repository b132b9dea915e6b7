-- The groups of an expansion are groups: each is a stretch of statements directly in one block, and each statement is in
-- one.
use Rattle.std.proofs.Common.{◌≡◌, ℕ, zero, suc, ◌+◌, ◌<◌, ◌≤◌, ◌⊎◌, inl, inr, Bool, true, false, cond, ◌&&◌, Some, List, [], ◌∷◌, ◌++◌, length, refl, ap, sym, subst, ◌∙◌, arith}
use Rattle.std.proofs.Common.{All, count_by, flat_map}
use Rattle.std.specs.Prelude.{nat_le}
use Rattle.std.proofs.lemmas.List.Sums.{sum_by-cons}
use Rattle.std.proofs.lemmas.List.Elements.{All-nil, All-cons}
use Rattle.std.proofs.lemmas.Bool.{eq-eqb, le-leb, leb-true, and_parts}
use Rattle.std.proofs.Math.Bool.{and-false}
use Rattle.oc_tree.specs.Tree.{TRight, TKind, let_to, let_array, assign, assign_index, assign_deref, if_else, for_in, while_do, call_only, sense_only, emit, fresh, consistent}
use Rattle.oc_tree.specs.Tree.{return, TElse, no_else, else_do, stmt, TBlock, block, TStmts, no_stmts, more, TFunction, TProgram}
use Rattle.oc_tree.specs.Numbers.{numbers_on}
use Rattle.oc_tree.specs.Places.{block_of}
use Rattle.oc_tree.specs.Checked.{Group, same_block, is_group, is_in_group, AreGroups}
use Rattle.oc_tree.specs.Pulls.{expr_pulls, own_pulls, stmt_pulls, block_pulls}
use Rattle.oc_tree.specs.Expansion.{block_size, stmt_size, program_size, temporaries, join_stmts, pulled, expand_kind, expand_else, expand_block, expand_stmts, expand_functions}
use Rattle.oc_tree.specs.Expansion.{expansion, inner_groups, else_groups, block_groups, stmts_groups, functions_groups, program_groups}
use Rattle.oc_desugar.proofs.Lengths.{length_pulled}
use Rattle.oc_desugar.proofs.NumberedLaws.{numbered}
use Rattle.oc_desugar.proofs.NumberLists.{listed, statements_listed}
use Rattle.oc_desugar.proofs.GroupCounts.{is_between, counted_once}
use Rattle.oc_desugar.proofs.BlockPairs.{Pair, kind_pairs, else_pairs, block_pairs, stmts_pairs, program_pairs, Stands, stands_first, stands_left, stands_right, block_there}

-- ---- the statements of a group stand in one block

-- all statements of a group stand in a list with the same block
abbrev Together : List Pair → Group → Type 0
Together xs g = (b : ℕ) × (g.0 ≤ g.1) × ((s : ℕ) → g.0 ≤ s → s ≤ g.1 → Stands (s, b) xs)

first_or_later : (i s : ℕ) → i ≤ s → (s ≡ i) ⊎ (i + 1 ≤ s)
first_or_later zero zero h = inl refl
first_or_later zero (suc s) h = inr (omega arith)
first_or_later (suc i) zero h = absurd (omega (arith, h))
first_or_later (suc i) (suc s) h = later (first_or_later i s (omega (arith, h))) where
  later : (s ≡ i) ⊎ (i + 1 ≤ s) → (suc s ≡ suc i) ⊎ (suc i + 1 ≤ suc s)
  later (inl e) = inl (ap suc e)
  later (inr l) = inr (omega (arith, l))

-- the temporaries and the statement behind them
group_stands : (b k i line : ℕ) (rs : List TRight) (j : ℕ) (s : TKind) (rest : TStmts) (n : ℕ) → j ≡ i + length rs → i ≤ n → n ≤ j
    → Stands (n, b) (stmts_pairs b (join_stmts (temporaries k i line rs ++ stmt j line s ∷ []) rest))
group_stands b k i line [] j s rest n e g l =
    let f : n ≡ j = omega (arith, e, g, l) in
    subst (λ m. Stands (m, b) (stmts_pairs b (more (stmt j line s) rest))) (sym f) (stands_first (j, b) (kind_pairs s ++ stmts_pairs b rest))
group_stands b k i line (r ∷ rs) j s rest n e g l = here (first_or_later i n g) (λ m. group_stands b (k + 1) (i + 1) line rs j s rest n (omega (arith, e)) m l) where
  others : List Pair
  others = stmts_pairs b (join_stmts (temporaries (k + 1) (i + 1) line rs ++ stmt j line s ∷ []) rest)

  here : (n ≡ i) ⊎ (i + 1 ≤ n) → (i + 1 ≤ n → Stands (n, b) others) → Stands (n, b) ((i, b) ∷ others)
  here (inl f) h = subst (λ m. Stands (m, b) ((i, b) ∷ others)) (sym f) (stands_first (i, b) others)
  here (inr m) h = stands_right (n, b) ((i, b) ∷ []) others (h m)

-- what is inside the statement, and what stands behind it
group_inside : (x : Pair) (b k i line : ℕ) (rs : List TRight) (j : ℕ) (s : TKind) (rest : TStmts) → Stands x (kind_pairs s)
    → Stands x (stmts_pairs b (join_stmts (temporaries k i line rs ++ stmt j line s ∷ []) rest))
group_inside x b k i line [] j s rest h = stands_right x ((j, b) ∷ []) (kind_pairs s ++ stmts_pairs b rest) (stands_left x (kind_pairs s) (stmts_pairs b rest) h)
group_inside x b k i line (r ∷ rs) j s rest h = stands_right x ((i, b) ∷ []) _ (group_inside x b (k + 1) (i + 1) line rs j s rest h)

group_behind : (x : Pair) (b k i line : ℕ) (rs : List TRight) (j : ℕ) (s : TKind) (rest : TStmts) → Stands x (stmts_pairs b rest)
    → Stands x (stmts_pairs b (join_stmts (temporaries k i line rs ++ stmt j line s ∷ []) rest))
group_behind x b k i line [] j s rest h = stands_right x ((j, b) ∷ []) (kind_pairs s ++ stmts_pairs b rest) (stands_right x (kind_pairs s) (stmts_pairs b rest) h)
group_behind x b k i line (r ∷ rs) j s rest h = stands_right x ((i, b) ∷ []) _ (group_behind x b (k + 1) (i + 1) line rs j s rest h)

abbrev Each : (Group → Type 0) → List Group → Type 0
Each P [] = Unit {0}
Each P (g ∷ gs) = P g × Each P gs

both : (P : Group → Type 0) (xs ys : List Group) → Each P xs → Each P ys → Each P (xs ++ ys)
both P [] ys h k = k
both P (x ∷ xs) ys h k = (h.0, both P xs ys h.1 k)

-- what stands in this list stands in the list of the whole program
module _ (whole : List Pair) where
  abbrev IsPart : List Pair → Type 0
  IsPart xs = (x : Pair) → Stands x xs → Stands x whole

  mutual
    inner_together : (k i : ℕ) (s : TKind) → IsPart (kind_pairs (expand_kind k i s)) → Each (Together whole) (inner_groups i s)
    inner_together k i (let_to m x t r) h = tt
    inner_together k i (let_array m x t z n) h = tt
    inner_together k i (assign x r) h = tt
    inner_together k i (assign_index x e r) h = tt
    inner_together k i (assign_deref x r) h = tt
    inner_together k i (if_else c a b) h =
        let k' = k + expr_pulls c in
        let xs = block_pairs (expand_block k' i a) in
        let ys = else_pairs (expand_else (k' + block_pulls a) (i + block_size a) b) in
        both (Together whole) (block_groups i a) (else_groups (i + block_size a) b)
        (block_together k' i a (λ x g. h x (stands_left x xs ys g)))
        (else_together (k' + block_pulls a) (i + block_size a) b (λ x g. h x (stands_right x xs ys g)))
    inner_together k i (for_in x m n b) h = block_together k i b h
    inner_together k i (while_do c n b) h = block_together (k + expr_pulls c) i b h
    inner_together k i (call_only c) h = tt
    inner_together k i (sense_only s) h = tt
    inner_together k i (emit p e) h = tt
    inner_together k i (fresh x) h = tt
    inner_together k i (consistent x n) h = tt
    inner_together k i (return e) h = tt

    else_together : (k i : ℕ) (b : TElse) → IsPart (else_pairs (expand_else k i b)) → Each (Together whole) (else_groups i b)
    else_together k i no_else h = tt
    else_together k i (else_do b) h = block_together k i b h

    block_together : (k i : ℕ) (b : TBlock) → IsPart (block_pairs (expand_block k i b)) → Each (Together whole) (block_groups i b)
    block_together k i (block id ss) h = stmts_together id k i ss h

    stmts_together : (b k i : ℕ) (ss : TStmts) → IsPart (stmts_pairs b (expand_stmts k i ss)) → Each (Together whole) (stmts_groups i ss)
    stmts_together b k i no_stmts h = tt
    stmts_together b k i (more (stmt id line s) ss) h =
        let k' = k + stmt_pulls (stmt id line s) in
        let i' = i + stmt_size (stmt id line s) in
        let j = i + own_pulls s in
        let own : TKind = expand_kind k (j + 1) s in
        let rest = expand_stmts k' i' ss in
        let l = length_pulled k s in
        let e : j ≡ i + length (pulled k s) = omega (arith, l) in (
          (b, omega arith, λ n g m. h (n, b) (group_stands b k i line (pulled k s) j own rest n e g m)),
          both (Together whole) (inner_groups (j + 1) s) (stmts_groups i' ss)
              (inner_together k (j + 1) s (λ x g. h x (group_inside x b k i line (pulled k s) j own rest g)))
              (stmts_together b k' i' ss (λ x g. h x (group_behind x b k i line (pulled k s) j own rest g))),
        )

  functions_together : (k i : ℕ) (fs : List TFunction) → IsPart (flat_map (λ f. block_pairs f.body) (expand_functions k i fs)) → Each (Together whole) (functions_groups i fs)
  functions_together k i [] h = tt
  functions_together k i (f ∷ fs) h =
      let k' = k + block_pulls f.body in
      let i' = i + block_size f.body in
      let xs = block_pairs (expand_block k i f.body) in
      let ys = flat_map (λ g. block_pairs g.body) (expand_functions k' i' fs) in
      both (Together whole) (block_groups i f.body) (functions_groups i' fs)
      (block_together k i f.body (λ x g. h x (stands_left x xs ys g)))
      (functions_together k' i' fs (λ x g. h x (stands_right x xs ys g)))

together : (p : TProgram) → Each (Together (program_pairs (expansion p))) (program_groups p)
together p = functions_together (program_pairs (expansion p)) 1 1 p.functions (λ x h. h)

-- ---- and these are its groups

module _ (p : TProgram) where
  -- a group's statements stand in the block of its first
  pub in_block : (g : Group) (t : Together (program_pairs (expansion p)) g) (s : ℕ) → g.0 ≤ s → s ≤ g.1 → block_of (expansion p) s ≡ Some t.0
  in_block g t s l m = block_there (expansion p) (listed (expansion p) (numbered p)) (s, t.0) (t.2 s l m)

  blocks_same : (g : Group) (t : Together (program_pairs (expansion p)) g) (s r : ℕ) → g.0 ≤ s → s ≤ g.1 → g.0 ≤ r → r ≤ g.1 → same_block (block_of (expansion p) s) (block_of (expansion p) r) ≡ true
  blocks_same g t s r l m n o =
      ap (λ b. same_block b (block_of (expansion p) r)) (in_block g t s l m)
      ∙ ap (λ b. same_block (Some t.0) b) (in_block g t r n o)
      ∙ eq-eqb t.0 t.0 refl

  is_one : (g : Group) → Together (program_pairs (expansion p)) g → is_group (expansion p) g ≡ true
  is_one g t = ap (λ b. b && same_block (block_of (expansion p) g.0) (block_of (expansion p) g.1)) (le-leb g.0 g.1 t.1) ∙ blocks_same g t g.0 g.1 (omega arith) t.1 t.1 (omega arith)

  all_ones : (gs : List Group) → Each (Together (program_pairs (expansion p))) gs → All (λ g. is_group (expansion p) g ≡ true) gs
  all_ones [] h = All-nil (λ g. is_group (expansion p) g ≡ true)
  all_ones (g ∷ gs) h = All-cons (λ g. is_group (expansion p) g ≡ true) g gs (is_one g h.0) (all_ones gs h.1)

  in_is_between : (s : ℕ) (g : Group) → Together (program_pairs (expansion p)) g → is_in_group (expansion p) s g ≡ is_between s g
  in_is_between s g t = told (is_between s g) refl where
    told : (b : Bool) → is_between s g ≡ b → is_in_group (expansion p) s g ≡ is_between s g
    told false e = ap (λ x. same_block (block_of (expansion p) s) (block_of (expansion p) g.0) && x) e ∙ and-false (same_block (block_of (expansion p) s) (block_of (expansion p) g.0)) ∙ sym e
    told true e =
        let l = leb-true g.0 s (and_parts (nat_le g.0 s) (nat_le s g.1) e).0 in
        let m = leb-true s g.1 (and_parts (nat_le g.0 s) (nat_le s g.1) e).1 in
        ap (λ x. x && is_between s g) (blocks_same g t s g.0 l m (omega arith) t.1)

  counted_same : (s : ℕ) (gs : List Group) → Each (Together (program_pairs (expansion p))) gs → count_by (is_in_group (expansion p) s) gs ≡ count_by (is_between s) gs
  counted_same s [] h = refl
  counted_same s (g ∷ gs) h =
      let a = sum_by-cons (λ x. cond (is_in_group (expansion p) s x) 1 0) g gs in
      let b = sum_by-cons (λ x. cond (is_between s x) 1 0) g gs in
      let c = ap (λ (x : Bool). cond {A = ℕ} x 1 0) (in_is_between s g h.0) in
      let d = counted_same s gs h.1 in
      omega (arith, a, b, c, d)

  in_one : (s : ℕ) → 1 ≤ s → s < 1 + program_size p → count_by (is_in_group (expansion p) s) (program_groups p) ≡ 1
  in_one s l m = counted_same s (program_groups p) (together p) ∙ counted_once s p l m

  all_in_one : (i n : ℕ) → 1 ≤ i → i + n ≤ 1 + program_size p → All (λ s. count_by (is_in_group (expansion p) s) (program_groups p) ≡ 1) (numbers_on i n)
  all_in_one i zero l m = All-nil (λ s. count_by (is_in_group (expansion p) s) (program_groups p) ≡ 1)
  all_in_one i (suc n) l m = All-cons (λ s. count_by (is_in_group (expansion p) s) (program_groups p) ≡ 1) i (numbers_on (suc i) n) (in_one i l (omega (arith, m)))
      (all_in_one (suc i) n (omega (arith, l)) (omega (arith, m)))

pub groups_kept : (p : TProgram) → AreGroups (expansion p) (program_groups p)
groups_kept p = record {
  ranges = all_ones p (program_groups p) (together p);
  one_each = subst (λ l. All (λ s. count_by (is_in_group (expansion p) s) (program_groups p) ≡ 1) l) (sym (statements_listed p)) (all_in_one p 1 (program_size p) (omega arith) (omega arith));
}
