-- The statements around a statement: each stands in the rest of them, and a block decides what is around it.
use Rattle.std.proofs.Common.{◌≡◌, ◌≤◌, ℕ, suc, ◌==◌, List, [], ◌∷◌, ◌++◌, length, map, Option, Some, None, cond, refl, ap, sym, subst, ◌∙◌, arith}
use Rattle.std.specs.Prelude.{flat_map, find, option_map}
use Rattle.std.proofs.lemmas.Bool.{eq-eqb, ne_eqb}
use Rattle.std.proofs.lemmas.List.{map-append}
use Rattle.std.proofs.lemmas.Option.{same_Some}
use Rattle.oc_tree.specs.Tree.{TKind, if_else, for_in, while_do, TElse, no_else, else_do, stmt, TBlock, block, TStmts, no_stmts, more, TFunction, TProgram}
use Rattle.oc_tree.specs.declared.tree.VarId.TheVariants as variables
use Rattle.oc_tree.specs.Numbers.{program_statements, kind_blocks, else_blocks, block_blocks, stmts_blocks, program_blocks}
use Rattle.oc_tree.specs.Form.{Numbered}
use Rattle.oc_tree.specs.Places.{Place, Placed, behind, in_branch, in_loop, at_start, kind_placed, else_placed, block_placed, stmts_placed, program_placed, placed, block_of}
use Rattle.oc_tree.specs.Marked.{around}
use Rattle.oc_tree.proofs.Grouped.{program_ids}
use Rattle.oc_region.specs.Smallest.{line_up}
use Rattle.oc_region.proofs.Elements.{Each, each_weaker, each_both, each_append, each_left, each_right, each_find}
use Rattle.oc_region.proofs.Owners.{Rise, rise, rise_above}

-- ---- numbers are distinct

pub each_unmapped : {A B : Type 0} (P : B → Type 0) (f : A → B) (xs : List A) → Each P (map f xs) → Each (λ x. P (f x)) xs
each_unmapped P f [] h = tt
each_unmapped P f (x ∷ xs) h = (h.0, each_unmapped P f xs h.1)

find_own : (i : ℕ) (xs : List Placed) → Rise i (map (λ a. a.id) xs) → Each (λ a. find (λ b. b.id == a.id) xs ≡ Some a) xs
find_own i [] h = tt
find_own i (x ∷ xs) h =
    let later : Each (λ a. suc i ≤ a.id) xs = each_unmapped (λ n. suc i ≤ n) (λ a. a.id) xs (rise_above (suc i) (suc i) (map (λ a. a.id) xs) (omega arith) h.1) in
    let rest : Each (λ a. (suc i ≤ a.id) × (find (λ b. b.id == a.id) xs ≡ Some a)) xs =
    each_both (λ a. suc i ≤ a.id) (λ a. find (λ b. b.id == a.id) xs ≡ Some a) xs later (find_own (suc i) xs h.1) in (
      ap (λ b. cond b (Some x) (find (λ b. b.id == x.id) xs)) (eq-eqb x.id x.id refl),
      each_weaker (λ a. (suc i ≤ a.id) × (find (λ b. b.id == a.id) xs ≡ Some a)) (λ a. find (λ b. b.id == a.id) (x ∷ xs) ≡ Some a)
          (λ a k. (let own : x.id ≡ i = h.0 in let l = k.0 in ap (λ b. cond b (Some x) (find (λ b. b.id == a.id) xs)) (ne_eqb x.id a.id (λ e. omega (arith, own, l, e))) ∙ k.1)) xs rest,
    )

-- ---- what is around a block

abbrev Pair : Type 0
Pair = ℕ × List ℕ

abbrev mutual
  kind_ins : List ℕ → (id : ℕ) → TKind → List Pair
  kind_ins o id (if_else c a b) = block_ins (id ∷ o) a ++ else_ins (id ∷ o) b
  kind_ins o id (for_in x m n b) = block_ins (id ∷ o) b
  kind_ins o id (while_do c n b) = block_ins (id ∷ o) b
  kind_ins o id _ = []

  else_ins : List ℕ → TElse → List Pair
  else_ins o no_else = []
  else_ins o (else_do b) = block_ins o b

  block_ins : List ℕ → TBlock → List Pair
  block_ins o (block id ss) = (id, o) ∷ stmts_ins o ss

  stmts_ins : List ℕ → TStmts → List Pair
  stmts_ins o no_stmts = []
  stmts_ins o (more (stmt id line k) ss) = kind_ins o id k ++ stmts_ins o ss

joined_firsts : (xs ys : List Pair) (ms ns : List ℕ) → map (λ x. x.0) xs ≡ ms → map (λ x. x.0) ys ≡ ns → map (λ x. x.0) (xs ++ ys) ≡ ms ++ ns
joined_firsts xs ys ms ns e f = map-append (λ x. x.0) xs ys ∙ (λ i. e i ++ f i)

mutual
  kind_firsts : (o : List ℕ) (id : ℕ) (k : TKind) → map (λ x. x.0) (kind_ins o id k) ≡ kind_blocks k
  kind_firsts o id (if_else c a b) = joined_firsts (block_ins (id ∷ o) a) (else_ins (id ∷ o) b) (block_blocks a) (else_blocks b) (block_firsts (id ∷ o) a) (else_firsts (id ∷ o) b)
  kind_firsts o id (for_in x m n b) = block_firsts (id ∷ o) b
  kind_firsts o id (while_do c n b) = block_firsts (id ∷ o) b
  kind_firsts o id _ = refl

  else_firsts : (o : List ℕ) (b : TElse) → map (λ x. x.0) (else_ins o b) ≡ else_blocks b
  else_firsts o no_else = refl
  else_firsts o (else_do b) = block_firsts o b

  block_firsts : (o : List ℕ) (b : TBlock) → map (λ x. x.0) (block_ins o b) ≡ block_blocks b
  block_firsts o (block id ss) = ap (λ l. id ∷ l) (stmts_firsts o ss)

  stmts_firsts : (o : List ℕ) (ss : TStmts) → map (λ x. x.0) (stmts_ins o ss) ≡ stmts_blocks ss
  stmts_firsts o no_stmts = refl
  stmts_firsts o (more (stmt id line k) ss) = joined_firsts (kind_ins o id k) (stmts_ins o ss) (kind_blocks k) (stmts_blocks ss) (kind_firsts o id k) (stmts_firsts o ss)

functions_ins : List TFunction → List Pair
functions_ins fs = flat_map (λ f. block_ins [] f.body) fs

functions_firsts : (fs : List TFunction) → map (λ x. x.0) (flat_map (λ f. block_ins [] f.body) fs) ≡ flat_map (λ f. block_blocks f.body) fs
functions_firsts [] = refl
functions_firsts (f ∷ fs) = joined_firsts (block_ins [] f.body) (flat_map (λ g. block_ins [] g.body) fs) (block_blocks f.body) (flat_map (λ g. block_blocks g.body) fs)
    (block_firsts [] f.body) (functions_firsts fs)

-- what stands beside a number
look : List Pair → ℕ → List ℕ
look [] n = []
look (x ∷ xs) n = cond (x.0 == n) x.1 (look xs n)

look_own : (i : ℕ) (xs : List Pair) → Rise i (map (λ x. x.0) xs) → Each (λ x. look xs x.0 ≡ x.1) xs
unfolding look
look_own i [] h = tt
look_own i (x ∷ xs) h =
    let later : Each (λ a. suc i ≤ a.0) xs = each_unmapped (λ n. suc i ≤ n) (λ a. a.0) xs (rise_above (suc i) (suc i) (map (λ a. a.0) xs) (omega arith) h.1) in
    let rest : Each (λ a. (suc i ≤ a.0) × (look xs a.0 ≡ a.1)) xs = each_both (λ a. suc i ≤ a.0) (λ a. look xs a.0 ≡ a.1) xs later (look_own (suc i) xs h.1) in (
      ap (λ b. cond b x.1 (look xs x.0)) (eq-eqb x.0 x.0 refl),
      each_weaker (λ a. (suc i ≤ a.0) × (look xs a.0 ≡ a.1)) (λ a. look (x ∷ xs) a.0 ≡ a.1)
          (λ a k. (let own : x.0 ≡ i = h.0 in let l = k.0 in ap (λ b. cond b x.1 (look xs a.0)) (ne_eqb x.0 a.0 (λ e. omega (arith, own, l, e))) ∙ k.1)) xs rest,
    )

module _ (A : ℕ → List ℕ) where
  abbrev Beside : Pair → Type 0
  Beside x = A x.0 ≡ x.1

  abbrev AsBlock : Placed → Type 0
  AsBlock a = A a.at.block ≡ a.at.around

  mutual
    kind_as : (at : Place) (id : ℕ) (k : TKind) → Each Beside (kind_ins at.around id k) → Each AsBlock (kind_placed at id k)
    kind_as at id (if_else c a b) h = each_append AsBlock (block_placed (in_branch at id) a) (else_placed (in_branch at id) b)
        (block_as (in_branch at id) a (each_left Beside (block_ins (id ∷ at.around) a) (else_ins (id ∷ at.around) b) h))
        (else_as (in_branch at id) b (each_right Beside (block_ins (id ∷ at.around) a) (else_ins (id ∷ at.around) b) h))
    kind_as at id (for_in x m n b) h = block_as (in_loop at id ((x, variables.Declared id) ∷ [])) b h
    kind_as at id (while_do c n b) h = block_as (in_loop at id []) b h
    kind_as at id _ h = tt

    else_as : (at : Place) (b : TElse) → Each Beside (else_ins at.around b) → Each AsBlock (else_placed at b)
    else_as at no_else h = tt
    else_as at (else_do b) h = block_as at b h

    block_as : (at : Place) (b : TBlock) → Each Beside (block_ins at.around b) → Each AsBlock (block_placed at b)
    block_as at (block id ss) h = stmts_as (record at { block = id }) ss h.0 h.1

    stmts_as : (at : Place) (ss : TStmts) → A at.block ≡ at.around → Each Beside (stmts_ins at.around ss) → Each AsBlock (stmts_placed at ss)
    stmts_as at no_stmts e h = tt
    stmts_as at (more (stmt id line k) ss) e h = (
      e,
      each_append AsBlock (kind_placed at id k) (stmts_placed (behind at id k) ss) (kind_as at id k (each_left Beside (kind_ins at.around id k) (stmts_ins at.around ss) h))
          (stmts_as (behind at id k) ss e (each_right Beside (kind_ins at.around id k) (stmts_ins at.around ss) h)),
    )

  functions_as : (fs : List TFunction) → Each Beside (flat_map (λ f. block_ins [] f.body) fs) → Each AsBlock (flat_map (λ f. block_placed (at_start f) f.body) fs)
  functions_as [] h = tt
  functions_as (f ∷ fs) h = each_append AsBlock (block_placed (at_start f) f.body) (flat_map (λ g. block_placed (at_start g) g.body) fs)
      (block_as (at_start f) f.body (each_left Beside (block_ins [] f.body) (flat_map (λ g. block_ins [] g.body) fs) h))
      (functions_as fs (each_right Beside (block_ins [] f.body) (flat_map (λ g. block_ins [] g.body) fs) h))

-- ---- chains

module _ (p : TProgram) where
  -- a statement is there, and these are around it
  pub record Standing (t : ℕ) (l : List ℕ) : Type 0 where
    pub found : Placed
    pub there : placed p t ≡ Some found
    pub around : found.at.around ≡ l

  -- each stands in the rest
  abbrev pub Chain : List ℕ → Type 0
  Chain [] = Unit {0}
  Chain (t ∷ l) = Standing t l × Chain l

  abbrev pub IsOwn : Placed → Type 0
  IsOwn a = placed p a.id ≡ Some a

  abbrev InChain : Placed → Type 0
  InChain a = Chain a.at.around

  mutual
    kind_chain : (at : Place) (id : ℕ) (k : TKind) → Standing id at.around → Chain at.around → Each IsOwn (kind_placed at id k) → Each InChain (kind_placed at id k)
    kind_chain at id (if_else c a b) s h own =
        each_append InChain (block_placed (in_branch at id) a) (else_placed (in_branch at id) b)
        (block_chain (in_branch at id) a (s, h) (each_left IsOwn (block_placed (in_branch at id) a) (else_placed (in_branch at id) b) own))
        (else_chain (in_branch at id) b (s, h) (each_right IsOwn (block_placed (in_branch at id) a) (else_placed (in_branch at id) b) own))
    kind_chain at id (for_in x m n b) s h own = block_chain (in_loop at id ((x, variables.Declared id) ∷ [])) b (s, h) own
    kind_chain at id (while_do c n b) s h own = block_chain (in_loop at id []) b (s, h) own
    kind_chain at id _ s h own = tt

    else_chain : (at : Place) (b : TElse) → Chain at.around → Each IsOwn (else_placed at b) → Each InChain (else_placed at b)
    else_chain at no_else h own = tt
    else_chain at (else_do b) h own = block_chain at b h own

    block_chain : (at : Place) (b : TBlock) → Chain at.around → Each IsOwn (block_placed at b) → Each InChain (block_placed at b)
    block_chain at (block id ss) h own = stmts_chain (record at { block = id }) ss h own

    stmts_chain : (at : Place) (ss : TStmts) → Chain at.around → Each IsOwn (stmts_placed at ss) → Each InChain (stmts_placed at ss)
    stmts_chain at no_stmts h own = tt
    stmts_chain at (more (stmt id line k) ss) h own =
        let s : Standing id at.around = record { found = record { id = id; line = line; kind = k; at = at }; there = own.0; around = refl } in (
          h,
          each_append InChain (kind_placed at id k) (stmts_placed (behind at id k) ss)
              (kind_chain at id k s h (each_left IsOwn (kind_placed at id k) (stmts_placed (behind at id k) ss) own.1))
              (stmts_chain (behind at id k) ss h (each_right IsOwn (kind_placed at id k) (stmts_placed (behind at id k) ss) own.1)),
        )

  functions_chain : (fs : List TFunction) → Each IsOwn (flat_map (λ f. block_placed (at_start f) f.body) fs) → Each InChain (flat_map (λ f. block_placed (at_start f) f.body) fs)
  functions_chain [] own = tt
  functions_chain (f ∷ fs) own = each_append InChain (block_placed (at_start f) f.body) (flat_map (λ g. block_placed (at_start g) g.body) fs)
      (block_chain (at_start f) f.body tt (each_left IsOwn (block_placed (at_start f) f.body) (flat_map (λ g. block_placed (at_start g) g.body) fs) own))
      (functions_chain fs (each_right IsOwn (block_placed (at_start f) f.body) (flat_map (λ g. block_placed (at_start g) g.body) fs) own))

  -- ---- in a program in form

  module _ (form : Numbered p) where
    pub all_own : Each IsOwn (program_placed p)
    all_own = find_own 1 (program_placed p) (subst (Rise 1) (sym (program_ids p)) (rise 1 (length (program_statements p)) (program_statements p) form.statements))

    -- what is around the statements of a block
    pub around_block : ℕ → List ℕ
    around_block b = look (functions_ins p.functions) b

    all_as : Each (λ a. around_block a.at.block ≡ a.at.around) (program_placed p)
    unfolding around_block functions_ins
    all_as =
        let firsts : Rise 1 (map (λ x. x.0) (flat_map (λ f. block_ins [] f.body) p.functions)) =
        subst (Rise 1) (sym (functions_firsts p.functions)) (rise 1 (length (program_blocks p)) (program_blocks p) form.blocks) in
        functions_as (look (flat_map (λ f. block_ins [] f.body) p.functions)) p.functions (look_own 1 (flat_map (λ f. block_ins [] f.body) p.functions) firsts)

    pub around_is : (t b : ℕ) → block_of p t ≡ Some b → around (placed p t) ≡ around_block b
    around_is t b e = by_place (placed p t) refl e
      where
        by_place : (o : Option Placed) → placed p t ≡ o → option_map (λ a. a.at.block) o ≡ Some b → around o ≡ around_block b
        by_place None is f = cc
        by_place (Some a) is f =
            let found = each_find (λ x. around_block x.at.block ≡ x.at.around) (λ x. x.id == t) (program_placed p) a is all_as in
            sym found.1 ∙ ap around_block (same_Some a.at.block b f)

    pub line_chain : (s : ℕ) (a : Placed) → placed p s ≡ Some a → Chain (line_up p s)
    line_chain s a is =
        let found = each_find InChain (λ x. x.id == s) (program_placed p) a is (functions_chain p.functions all_own) in
        (record { found = a; there = is; around = ap around (sym is) }, subst Chain (ap around (sym is)) found.1)
