-- Statements are numbered in source order, and each block of which a part has a statement has all of them there.
use Rattle.std.proofs.Common.{◌≡◌, ◌<◌, ◌≤◌, inl, inr, ℕ, zero, suc, ◌+◌, List, ◌++◌, length, Some, sym, subst, arith}
use Rattle.std.proofs.Common.{length-append}
use Rattle.std.specs.Prelude.{slice_get}
use Rattle.oc_tree.specs.Tree.{TKind, if_else, for_in, while_do}
use Rattle.oc_tree.specs.Tree.{TElse, no_else, else_do, stmt, TBlock, block, TStmts, no_stmts, more, TFunction, TProgram}
use Rattle.oc_tree.specs.Form.{Numbered}
use Rattle.oc_tree.specs.Numbers.{kind_statements, else_statements, block_statements, stmts_statements, kind_blocks, else_blocks, block_blocks, stmts_blocks}
use Rattle.oc_desugar.proofs.NumberLists.{Follow, first_of, parts}
use Rattle.oc_desugar.proofs.BlockPairs.{Pair, kind_pairs, else_pairs, block_pairs, stmts_pairs}
use Rattle.oc_checked.proofs.BlockRanges.{EachPair, pairs_map, From, Ranged, else_ranged, block_ranged}
use Rattle.oc_checked.proofs.PairsAround.{Outside, Earlier, Later, Around, told}
use Rattle.oc_checked.proofs.RowsAround.{Part, part_first, part_second, rest_part, first_stands, block_part, bodies_stand}
use Rattle.oc_timely.specs.Laid.{IsClosed, LaidKind, LaidElse, LaidBlock, LaidStmts}

module _ (p : TProgram) where
  outside_not : (j d c : ℕ) → Outside j d c → From j d c → ⊥
  outside_not j d c (inl o) r = omega (arith, o, r.0)
  outside_not j d c (inr o) r = omega (arith, o, r.1)

  closed : (i z j d : ℕ) (xs : List Pair) → EachPair (Ranged i z j d) xs → Around p i z j d xs → IsClosed p i z
  closed i z j d xs r a s t b low high e h =
      let block : From j d b = told p P i z j d xs a
      (pairs_map (Earlier i j d) P (λ x o l k. absurd (let q = o.0 in omega (arith, q, l))) a.front a.before)
      (pairs_map (Ranged i z j d) P (λ x o l k. o.1) xs r)
      (pairs_map (Later z j d) P (λ x o l k. absurd (let q = o.0 in omega (arith, q, k))) a.back a.behind)
      s b e low high in
      told p Q i z j d xs a
      (pairs_map (Earlier i j d) Q (λ x o f. absurd (outside_not j d x.1 o.1 f)) a.front a.before)
      (pairs_map (Ranged i z j d) Q (λ x o f. o.0) xs r)
      (pairs_map (Later z j d) Q (λ x o f. absurd (outside_not j d x.1 o.1 f)) a.back a.behind)
      t b h block
    where
      P : Pair → Type 0
      P x = i ≤ x.0 → x.0 < z → From j d x.1

      Q : Pair → Type 0
      Q x = From j d x.1 → From i z x.0

  straight : (i : ℕ) → i ≡ i + 0
  straight i = omega arith

  mutual
    kind_laid : (i j : ℕ) (k : TKind) → Follow i (kind_statements k) → Follow j (kind_blocks k) → Part p i j (kind_statements k) (kind_blocks k) (kind_pairs k) →
        LaidKind p i k (i + length (kind_statements k))
    kind_laid i j (if_else c a b) f g h =
        let s = parts i (block_statements a) (else_statements b) f in
        let t = parts j (block_blocks a) (else_blocks b) g in
        let i' = i + length (block_statements a) in
        let j' = j + length (block_blocks a) in
        let n : i' + length (else_statements b) ≡ i + length (block_statements a ++ else_statements b) = omega (arith, length-append (block_statements a) (else_statements b)) in (
          i',
          block_laid i j a s.0 t.0 (part_first p i j (block_statements a) (else_statements b) (block_blocks a) (else_blocks b) (block_pairs a) (else_pairs b) (else_ranged i' j' b s.1 t.1) h),
          subst (λ k. LaidElse p i' b k) n (else_laid i' j' b s.1 t.1
              (part_second p i j (block_statements a) (else_statements b) (block_blocks a) (else_blocks b) (block_pairs a) (else_pairs b) (block_ranged i j a s.0 t.0) h)),
        )
    kind_laid i j (for_in x m n b) f g h = block_laid i j b f g h
    kind_laid i j (while_do c n b) f g h = block_laid i j b f g h
    kind_laid i j k f g h = straight i

    else_laid : (i j : ℕ) (b : TElse) → Follow i (else_statements b) → Follow j (else_blocks b) → Part p i j (else_statements b) (else_blocks b) (else_pairs b) →
        LaidElse p i b (i + length (else_statements b))
    else_laid i j no_else f g h = straight i
    else_laid i j (else_do b) f g h = block_laid i j b f g h

    block_laid : (i j : ℕ) (b : TBlock) → Follow i (block_statements b) → Follow j (block_blocks b) → Part p i j (block_statements b) (block_blocks b) (block_pairs b) →
        LaidBlock p i b (i + length (block_statements b))
    block_laid i j (block id ss) f g h =
        let o = first_of id j (stmts_blocks ss) g in
        let z = i + length (stmts_statements ss) in
        (closed i z j (j + suc (length (stmts_blocks ss))) (stmts_pairs id ss) (block_ranged i j (block id ss) f g) h, stmts_laid id i (suc j) ss f o.1 (block_part p i j id ss h) (omega (arith, o.0)))

    stmts_laid : (b i j : ℕ) (ss : TStmts) → Follow i (stmts_statements ss) → Follow j (stmts_blocks ss) → Part p i j (stmts_statements ss) (stmts_blocks ss) (stmts_pairs b ss) → b < j →
        LaidStmts p i ss (i + length (stmts_statements ss))
    stmts_laid b i j no_stmts f g h below = straight i
    stmts_laid b i j (more (stmt n line k) rest) f g h below =
        let s = first_stands p b i j k rest n f g h below in
        let next = i + suc (length (kind_statements k)) in
        let after = j + length (kind_blocks k) in
        let width : suc i + length (kind_statements k) ≡ next = omega arith in
        let own : LaidKind p (suc i) k next = subst (λ z. LaidKind p (suc i) k z) width (kind_laid (suc i) j k s.own_statements s.own_blocks s.own) in (
          s.number,
          next,
          subst (λ m. LaidKind p (suc m) k next) (sym s.number) own,
          subst (λ z. LaidStmts p next rest z) (sym s.end) (stmts_laid b next after rest s.rest_statements s.rest_blocks (rest_part p b i j k rest s.known) (omega (arith, below))),
        )

  -- each function's statements are laid from its first number on
  pub bodies_laid : Numbered p → (u : ℕ) (g : TFunction) → slice_get p.functions u ≡ Some g →
      (first : ℕ) × Follow first (block_statements g.body) × LaidBlock p first g.body (first + length (block_statements g.body))
  bodies_laid numbered u g e = let s = bodies_stand p numbered u g e in (s.first, s.statements, block_laid s.first s.deep g.body s.statements s.blocks s.part)
