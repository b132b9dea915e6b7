-- The regions of a marked program begin and end in the same block.
use Rattle.std.proofs.Common.{◌≡◌, ◌<◌, ℕ, zero, suc, ◌+◌, List, ◌++◌, length, sum_by, Some, ap, ◌∙◌, subst, arith}
use Rattle.std.specs.Prelude.{slice_get}
use Rattle.oc_tree.specs.Tree.{TKind, if_else, for_in, while_do}
use Rattle.oc_tree.specs.Tree.{TElse, no_else, else_do, stmt, TBlock, block, TStmts, no_stmts, more, TFunction, TProgram}
use Rattle.oc_tree.specs.Form.{Numbered}
use Rattle.oc_tree.specs.Numbers.{kind_statements, else_statements, block_statements, stmts_statements, kind_blocks, else_blocks, block_blocks, stmts_blocks}
use Rattle.oc_tree.specs.Places.{block_of}
use Rattle.oc_tree.specs.Marked.{TRegion}
use Rattle.oc_meaning.specs.Exec.{begun_by, ended_by}
use Rattle.oc_code.specs.Formed.{marks}
use Rattle.oc_desugar.proofs.NumberLists.{Follow, first_of, parts}
use Rattle.oc_desugar.proofs.BlockPairs.{kind_pairs, else_pairs, block_pairs, stmts_pairs, block_there}
use Rattle.oc_formed.proofs.BodiesMarked.{KindMarked, ElseMarked, BlockMarked, StmtsMarked}
use Rattle.oc_checked.proofs.BlockRanges.{else_ranged, block_ranged}
use Rattle.oc_formed.proofs.RegionCounts.{begins, ends, open_at, begun_counted, ended_counted, all_across, none_before, none_behind}
use Rattle.oc_checked.proofs.PairsAround.{in_block_range, in_block_gap}
use Rattle.oc_checked.proofs.RegionsApart.{EachRegion, Differ, InBlock}
use Rattle.oc_checked.proofs.RowsAround.{Part, part_first, part_second, Known, rest_part, first_stands, block_part, bodies_stand}

module _ (p : TProgram) (numbered : Numbered p) (regions : List TRegion) (within : EachRegion (InBlock (block_of p)) regions) (firsts : Differ (λ r. r.first) regions)
    (lasts : Differ (λ r. r.last) regions) where
  -- the regions that are open behind a statement of the block b
  crossed : (b i j n : ℕ) (k : TKind) (rest : TStmts) → Known p b i j k rest → n ≡ i
      → open_at regions b i + marks (begun_by regions n) ≡ open_at regions b (i + suc (length (kind_statements k))) + marks (ended_by regions n)
  crossed b i j n k rest h e =
      let next = i + suc (length (kind_statements k)) in
      let after = j + length (kind_blocks k) in
      let here : block_of p i ≡ Some b = block_there p numbered.statements (i, b) (h.row.front, (kind_pairs k ++ stmts_pairs b rest) ++ h.row.back, h.row.is) in
      let gap = in_block_gap p i (next + length (stmts_statements rest)) j (after + length (stmts_blocks rest)) next after b (kind_pairs k) (stmts_pairs b rest)
      (omega arith) h.below h.inside h.others h.row in
      let sums = all_across (block_of p) b i next here (omega arith) gap regions within in
      let start : marks (begun_by regions n) ≡ sum_by (begins i) regions = ap (λ m. marks (begun_by regions m)) e ∙ begun_counted regions i firsts in
      let stop : marks (ended_by regions n) ≡ sum_by (ends i) regions = ap (λ m. marks (ended_by regions m)) e ∙ ended_counted regions i lasts in
      omega (arith, sums, start, stop)

  mutual
    -- a statement
    kind_is_marked : (i j : ℕ) (k : TKind) → Follow i (kind_statements k) → Follow j (kind_blocks k) → Part p i j (kind_statements k) (kind_blocks k) (kind_pairs k) → KindMarked regions k
    kind_is_marked i j (if_else c a b) f g h =
        let s = parts i (block_statements a) (else_statements b) f in
        let t = parts j (block_blocks a) (else_blocks b) g in
        let i' = i + length (block_statements a) in
        let j' = j + length (block_blocks a) in (
          block_is_marked i j a s.0 t.0 (part_first p i j (block_statements a) (else_statements b) (block_blocks a) (else_blocks b) (block_pairs a) (else_pairs b) (else_ranged i' j' b s.1 t.1) h),
          else_is_marked i' j' b s.1 t.1 (part_second p i j (block_statements a) (else_statements b) (block_blocks a) (else_blocks b) (block_pairs a) (else_pairs b) (block_ranged i j a s.0 t.0) h),
        )
    kind_is_marked i j (for_in x m n b) f g h = block_is_marked i j b f g h
    kind_is_marked i j (while_do c n b) f g h = block_is_marked i j b f g h
    kind_is_marked i j k f g h = tt

    -- what stands behind `else`
    else_is_marked : (i j : ℕ) (b : TElse) → Follow i (else_statements b) → Follow j (else_blocks b) → Part p i j (else_statements b) (else_blocks b) (else_pairs b) → ElseMarked regions b
    else_is_marked i j no_else f g h = tt
    else_is_marked i j (else_do b) f g h = block_is_marked i j b f g h

    -- a block
    block_is_marked : (i j : ℕ) (b : TBlock) → Follow i (block_statements b) → Follow j (block_blocks b) → Part p i j (block_statements b) (block_blocks b) (block_pairs b) → BlockMarked regions b
    block_is_marked i j (block id ss) f g h =
        let o = first_of id j (stmts_blocks ss) g in
        let z = i + length (stmts_statements ss) in
        let range = in_block_range p i z j (j + suc (length (stmts_blocks ss))) (stmts_pairs id ss) (block_ranged i j (block id ss) f g) h id o.0 (omega arith) in
        let none = none_before (block_of p) id i (λ s e. (range s e).0) regions within in
        subst (λ n. StmtsMarked regions n ss) none (stmts_are_marked id i (suc j) ss f o.1 (block_part p i j id ss h) (omega (arith, o.0)) (λ s e. (range s e).1))

    -- statements of the block b, of which none has a number from the end of these on
    stmts_are_marked : (b i j : ℕ) (ss : TStmts) → Follow i (stmts_statements ss) → Follow j (stmts_blocks ss) → Part p i j (stmts_statements ss) (stmts_blocks ss) (stmts_pairs b ss)
        → b < j → ((s : ℕ) → block_of p s ≡ Some b → s < i + length (stmts_statements ss)) → StmtsMarked regions (open_at regions b i) ss
    stmts_are_marked b i j no_stmts f g h below end = none_behind (block_of p) b i (λ s e. omega (arith, end s e)) regions within
    stmts_are_marked b i j (more (stmt n line k) rest) f g h below end =
        let s = first_stands p b i j k rest n f g h below in
        let next = i + suc (length (kind_statements k)) in
        let after = j + length (kind_blocks k) in
        let top = s.end in (
          kind_is_marked (suc i) j k s.own_statements s.own_blocks s.own,
          open_at regions b next,
          crossed b i j n k rest s.known s.number,
          stmts_are_marked b next after rest s.rest_statements s.rest_blocks (rest_part p b i j k rest s.known) (omega (arith, below)) (λ x e. omega (arith, end x e, top)),
        )

  -- all functions
  pub bodies_marked : (u : ℕ) (f : TFunction) → slice_get p.functions u ≡ Some f → BlockMarked regions f.body
  bodies_marked u f e = let s = bodies_stand p numbered u f e in block_is_marked s.first s.deep f.body s.statements s.blocks s.part
