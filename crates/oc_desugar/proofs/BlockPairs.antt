-- Directly in which block a statement stands, told by the list of all statements with their blocks.
use Rattle.std.proofs.Common.{◌≡◌, ℕ, zero, suc, ◌≤◌, Bool, true, false, cond, Option, Some, None, List, [], ◌∷◌, ◌++◌, length, map, refl, ap, sym, subst, ◌∙◌, arith, flat_map, append_assoc}
use Rattle.std.specs.Prelude.{◌==◌, find, option_map}
use Rattle.std.proofs.lemmas.List.{map-append}
use Rattle.std.proofs.lemmas.Bool.{ne_eqb, eq-eqb}
use Rattle.oc_tree.specs.Tree.{TKind, let_to, let_array, assign, assign_index, assign_deref, if_else, for_in, while_do, call_only, sense_only, emit, fresh, consistent, return}
use Rattle.oc_tree.specs.Tree.{TElse, no_else, else_do, stmt, TBlock, block, TStmts, no_stmts, more, TFunction, TProgram}
use Rattle.oc_tree.specs.Numbers.{numbers_on, kind_statements, else_statements, block_statements, stmts_statements, program_statements}
use Rattle.oc_tree.specs.Places.{Place, Placed, in_branch, in_loop, behind, kind_placed, else_placed, block_placed, stmts_placed, at_start, program_placed, block_of}
use Rattle.oc_tree.specs.declared.tree.VarId.TheVariants.{Declared}

-- a statement and its block
abbrev pub Pair : Type 0
Pair = ℕ × ℕ

abbrev pub pair_of : Placed → Pair
pair_of a = (a.id, a.at.block)

abbrev mutual
  pub kind_pairs : TKind → List Pair
  kind_pairs (if_else c a b) = block_pairs a ++ else_pairs b
  kind_pairs (for_in x m n b) = block_pairs b
  kind_pairs (while_do c n b) = block_pairs b
  kind_pairs _ = []

  pub else_pairs : TElse → List Pair
  else_pairs no_else = []
  else_pairs (else_do b) = block_pairs b

  pub block_pairs : TBlock → List Pair
  block_pairs (block id ss) = stmts_pairs id ss

  pub stmts_pairs : ℕ → TStmts → List Pair
  stmts_pairs b no_stmts = []
  stmts_pairs b (more (stmt id line k) ss) = (id, b) ∷ (kind_pairs k ++ stmts_pairs b ss)

abbrev pub program_pairs : TProgram → List Pair
program_pairs p = flat_map (λ f. block_pairs f.body) p.functions

-- ---- they are those of the places

joined : (xs ys : List Placed) (us vs : List Pair) → map pair_of xs ≡ us → map pair_of ys ≡ vs → map pair_of (xs ++ ys) ≡ us ++ vs
joined xs ys us vs h k = map-append pair_of xs ys ∙ ap (λ l. l ++ map pair_of ys) h ∙ ap (λ l. us ++ l) k

mutual
  kind_told : (at : Place) (id : ℕ) (k : TKind) → map pair_of (kind_placed at id k) ≡ kind_pairs k
  kind_told at id (let_to m x t r) = refl
  kind_told at id (let_array m x t z n) = refl
  kind_told at id (assign x r) = refl
  kind_told at id (assign_index x e r) = refl
  kind_told at id (assign_deref x r) = refl
  kind_told at id (if_else c a b) = joined _ _ _ _ (block_told (in_branch at id) a) (else_told (in_branch at id) b)
  kind_told at id (for_in x m n b) = block_told (in_loop at id ((x, Declared id) ∷ [])) b
  kind_told at id (while_do c n b) = block_told (in_loop at id []) b
  kind_told at id (call_only c) = refl
  kind_told at id (sense_only s) = refl
  kind_told at id (emit p e) = refl
  kind_told at id (fresh x) = refl
  kind_told at id (consistent x n) = refl
  kind_told at id (return e) = refl

  else_told : (at : Place) (b : TElse) → map pair_of (else_placed at b) ≡ else_pairs b
  else_told at no_else = refl
  else_told at (else_do b) = block_told at b

  block_told : (at : Place) (b : TBlock) → map pair_of (block_placed at b) ≡ block_pairs b
  block_told at (block id ss) = stmts_told (record at { block = id }) ss

  stmts_told : (at : Place) (ss : TStmts) → map pair_of (stmts_placed at ss) ≡ stmts_pairs at.block ss
  stmts_told at no_stmts = refl
  stmts_told at (more (stmt id line k) ss) = ap (λ l. (id, at.block) ∷ l) (joined _ _ _ _ (kind_told at id k) (stmts_told (behind at id k) ss))

functions_told : (fs : List TFunction) → map pair_of (flat_map (λ f. block_placed (at_start f) f.body) fs) ≡ flat_map (λ f. block_pairs f.body) fs
functions_told [] = refl
functions_told (f ∷ fs) = joined _ _ _ _ (block_told (at_start f) f.body) (functions_told fs)

-- ---- the statements of the pairs

numbers_joined : (xs ys : List Pair) (us vs : List ℕ) → map (λ x. x.0) xs ≡ us → map (λ x. x.0) ys ≡ vs → map (λ x. x.0) (xs ++ ys) ≡ us ++ vs
numbers_joined xs ys us vs h k = map-append (λ x. x.0) xs ys ∙ ap (λ l. l ++ map (λ x. x.0) ys) h ∙ ap (λ l. us ++ l) k

mutual
  kind_numbers : (k : TKind) → map (λ x. x.0) (kind_pairs k) ≡ kind_statements k
  kind_numbers (let_to m x t r) = refl
  kind_numbers (let_array m x t z n) = refl
  kind_numbers (assign x r) = refl
  kind_numbers (assign_index x e r) = refl
  kind_numbers (assign_deref x r) = refl
  kind_numbers (if_else c a b) = numbers_joined _ _ _ _ (block_numbers a) (else_numbers b)
  kind_numbers (for_in x m n b) = block_numbers b
  kind_numbers (while_do c n b) = block_numbers b
  kind_numbers (call_only c) = refl
  kind_numbers (sense_only s) = refl
  kind_numbers (emit p e) = refl
  kind_numbers (fresh x) = refl
  kind_numbers (consistent x n) = refl
  kind_numbers (return e) = refl

  else_numbers : (b : TElse) → map (λ x. x.0) (else_pairs b) ≡ else_statements b
  else_numbers no_else = refl
  else_numbers (else_do b) = block_numbers b

  block_numbers : (b : TBlock) → map (λ x. x.0) (block_pairs b) ≡ block_statements b
  block_numbers (block id ss) = stmts_numbers id ss

  stmts_numbers : (b : ℕ) (ss : TStmts) → map (λ x. x.0) (stmts_pairs b ss) ≡ stmts_statements ss
  stmts_numbers b no_stmts = refl
  stmts_numbers b (more (stmt id line k) ss) = ap (λ l. id ∷ l) (numbers_joined _ _ _ _ (kind_numbers k) (stmts_numbers b ss))

functions_numbers : (fs : List TFunction) → map (λ x. x.0) (flat_map (λ f. block_pairs f.body) fs) ≡ flat_map (λ f. block_statements f.body) fs
functions_numbers [] = refl
functions_numbers (f ∷ fs) = numbers_joined _ _ _ _ (block_numbers f.body) (functions_numbers fs)

-- ---- looking for a statement

-- the block beside a number
abbrev pub block_beside : List Pair → ℕ → Option ℕ
block_beside [] s = None
block_beside (x ∷ xs) s = cond (x.0 == s) (Some x.1) (block_beside xs s)

beside_cond : (b : Bool) (a : Placed) (r : Option Placed) → option_map (λ x. x.at.block) (cond b (Some a) r) ≡ cond b (Some a.at.block) (option_map (λ x. x.at.block) r)
beside_cond true a r = refl
beside_cond false a r = refl

found_beside : (xs : List Placed) (s : ℕ) → option_map (λ a. a.at.block) (find (λ a. a.id == s) xs) ≡ block_beside (map pair_of xs) s
found_beside [] s = refl
found_beside (a ∷ xs) s = beside_cond (a.id == s) a _ ∙ ap (cond (a.id == s) (Some a.at.block)) (found_beside xs s)

pub block_is_beside : (p : TProgram) (s : ℕ) → block_of p s ≡ block_beside (program_pairs p) s
block_is_beside p s = found_beside (program_placed p) s ∙ ap (λ l. block_beside l s) (functions_told p.functions)

-- a pair stands in a list
abbrev pub Stands : Pair → List Pair → Type 0
Stands x xs = (front : List Pair) × (rest : List Pair) × (xs ≡ front ++ x ∷ rest)

pub stands_first : (x : Pair) (xs : List Pair) → Stands x (x ∷ xs)
stands_first x xs = ([], xs, refl)

pub stands_left : (x : Pair) (xs ys : List Pair) → Stands x xs → Stands x (xs ++ ys)
stands_left x xs ys h = (h.0, h.1 ++ ys, ap (λ l. l ++ ys) h.2 ∙ append_assoc h.0 (x ∷ h.1) ys)

pub stands_right : (x : Pair) (xs ys : List Pair) → Stands x ys → Stands x (xs ++ ys)
stands_right x xs ys h = (xs ++ h.0, h.1, ap (λ l. xs ++ l) h.2 ∙ sym (append_assoc xs h.0 (x ∷ h.1)))

-- the numbers rise by one from `i` on
abbrev Rise : ℕ → List Pair → Type 0
Rise i [] = Unit {0}
Rise i (x ∷ xs) = (x.0 ≡ i) × Rise (suc i) xs

rise : (i n : ℕ) (xs : List Pair) → map (λ x. x.0) xs ≡ numbers_on i n → Rise i xs
rise i n [] h = tt
rise i zero (x ∷ xs) h = cc h
rise i (suc n) (x ∷ xs) h = (cc h, rise (suc i) n xs (cc h))

-- a later number is greater
later : (i : ℕ) (front : List Pair) (x : Pair) (rest : List Pair) → Rise i (front ++ x ∷ rest) → i ≤ x.0
later i [] x rest h = omega (arith, h.0)
later i (y ∷ front) x rest h = let l = later (suc i) front x rest h.1 in omega (arith, l)

beside : (i : ℕ) (front : List Pair) (x : Pair) (rest : List Pair) → Rise i (front ++ x ∷ rest) → block_beside (front ++ x ∷ rest) x.0 ≡ Some x.1
beside i [] x rest h = ap (λ b. cond b (Some x.1) (block_beside rest x.0)) (eq-eqb x.0 x.0 refl)
beside i (y ∷ front) x rest h =
    let l = later (suc i) front x rest h.1 in
    let g : y.0 ≡ i = h.0 in
    let differ : y.0 ≡ x.0 → ⊥ = λ e. omega (arith, l, g, e) in
    ap (λ b. cond b (Some y.1) (block_beside (front ++ x ∷ rest) x.0)) (ne_eqb y.0 x.0 differ) ∙ beside (suc i) front x rest h.1

-- where statements are numbered from 1, each stands in the block that its pair tells
pub block_there : (p : TProgram) → program_statements p ≡ numbers_on 1 (length (program_statements p)) → (x : Pair) → Stands x (program_pairs p) → block_of p x.0 ≡ Some x.1
block_there p n x h =
    let r = rise 1 (length (program_statements p)) (program_pairs p) (functions_numbers p.functions ∙ n) in
    block_is_beside p x.0 ∙ ap (λ l. block_beside l x.0) h.2 ∙ beside 1 h.0 x h.1 (subst (Rise 1) h.2 r)
