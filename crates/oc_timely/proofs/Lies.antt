-- Where the statements of a part of a tree lie.
use Rattle.std.proofs.Common.{◌≡◌, ◌⊎◌, inl, inr, ℕ, suc, ◌<◌, ◌≤◌, [], ◌∷◌, Some, refl, sym, subst, arith}
use Rattle.oc_tree.specs.Tree.{TKind, if_else, for_in, while_do, TElse, no_else, else_do, stmt, TBlock, block, TStmts, no_stmts, more, TProgram}
use Rattle.oc_tree.specs.declared.tree.VarId.TheVariants as variables
use Rattle.oc_tree.specs.Places.{Place as Spot, Placed, behind, in_branch, in_loop, kind_placed, else_placed, block_placed, stmts_placed, block_of}
use Rattle.oc_tree.specs.Members.{IsOf}
use Rattle.oc_timely.specs.Laid.{IsClosed, LaidKind, LaidElse, LaidBlock, LaidStmts}
use Rattle.oc_laws.proofs.Members.{in_append}

-- its number lies between these, and so does what is around it here
pub record Lies (n k : ℕ) (spot : Spot) (b : Placed) : Type 0 where
  pub low : n ≤ b.id
  pub high : b.id < k
  pub split : (t : ℕ) → IsOf t b.at.around → ((n ≤ t) × (t < k)) ⊎ IsOf t spot.around
  pub has : (t : ℕ) → IsOf t spot.around → IsOf t b.at.around

wider : (n k n' k' : ℕ) (spot : Spot) (b : Placed) → n' ≤ n → k ≤ k' → Lies n k spot b → Lies n' k' spot b
wider n k n' k' spot b h i l = record {
  low = let a = l.low in omega (arith, a, h);
  high = let a = l.high in omega (arith, a, i);
  split = λ t z. elim (l.split t z) [ inl q ↦ inl (omega (arith, q.0, h), omega (arith, q.1, i)) | inr q ↦ inr q ];
  has = l.has;
}

-- out of the statement around it
outer : (id k : ℕ) (spot inside : Spot) (b : Placed) → inside.around ≡ id ∷ spot.around → id < k → Lies (suc id) k inside b → Lies id k spot b
outer id k spot inside b e h l = record {
  low = let a = l.low in omega (arith, a);
  high = l.high;
  split = λ t z. elim (l.split t z) [
    | inl q ↦ inl (omega (arith, q.0), q.1)
    | inr q ↦ elim (subst (λ ts. IsOf t ts) e q) [ inl s ↦ inl (omega (arith, s), omega (arith, s, h)) | inr r ↦ inr r ]
  ];
  has = λ t z. l.has t (subst (λ ts. IsOf t ts) (sym e) (inr z));
}

module _ (p : TProgram) where
  mutual
    pub up_kind : (n : ℕ) (s : TKind) (k : ℕ) → LaidKind p n s k → n ≤ k
    up_kind n (if_else c a b) k h = let x = up_block n a h.0 h.1 in let y = up_else h.0 b k h.2 in omega (arith, x, y)
    up_kind n (for_in x c d b) k h = up_block n b k h
    up_kind n (while_do c t b) k h = up_block n b k h
    up_kind n s k h = omega (arith, h)

    up_else : (n : ℕ) (b : TElse) (k : ℕ) → LaidElse p n b k → n ≤ k
    up_else n no_else k h = omega (arith, h)
    up_else n (else_do b) k h = up_block n b k h

    pub up_block : (n : ℕ) (b : TBlock) (k : ℕ) → LaidBlock p n b k → n ≤ k
    up_block n (block id ss) k h = up_stmts n ss k h.1

    pub up_stmts : (n : ℕ) (ss : TStmts) (k : ℕ) → LaidStmts p n ss k → n ≤ k
    up_stmts n no_stmts k h = omega (arith, h)
    up_stmts n (more (stmt id line s) rest) k h = let x = up_kind (suc id) s h.1 h.2 in let y = up_stmts h.1 rest k h.3 in omega (arith, x, y, h.0)

  pub closed_block : (n : ℕ) (b : TBlock) (k : ℕ) → LaidBlock p n b k → IsClosed p n k
  closed_block n (block id ss) k h = h.0

  closed_else : (n : ℕ) (b : TElse) (k : ℕ) → LaidElse p n b k → IsClosed p n k
  closed_else n no_else k h = λ s t b l u e d. absurd (omega (arith, h, l, u))
  closed_else n (else_do b) k h = closed_block n b k h

  pub closed_kind : (n : ℕ) (s : TKind) (k : ℕ) → LaidKind p n s k → IsClosed p n k
  closed_kind n (for_in x c d b) k h = closed_block n b k h
  closed_kind n (while_do c t b) k h = closed_block n b k h
  closed_kind n (if_else c a b) k h = λ s t i l u e d. by s t i l u e d (below s h.0)
    where
      below : (s mid : ℕ) → (s < mid) ⊎ (mid ≤ s)
      below s mid = grind arith

      by : (s t i : ℕ) → n ≤ s → s < k → block_of p s ≡ Some i → block_of p t ≡ Some i → (s < h.0) ⊎ (h.0 ≤ s) → (n ≤ t) × (t < k)
      by s t i l u e d (inl z) = let q = closed_block n a h.0 h.1 s t i l z e d in let y = up_else h.0 b k h.2 in (q.0, omega (arith, q.1, y))
      by s t i l u e d (inr z) = let q = closed_else h.0 b k h.2 s t i z u e d in let y = up_block n a h.0 h.1 in (omega (arith, q.0, y), q.1)
  closed_kind n s k h = λ a t b l u e d. absurd (omega (arith, h, l, u))

  mutual
    -- what stands in a statement
    pub lies_kind : (id : ℕ) (s : TKind) (k : ℕ) (spot : Spot) (b : Placed) → LaidKind p (suc id) s k → IsOf b (kind_placed spot id s) → (suc id ≤ b.id) × Lies id k spot b
    lies_kind id (if_else c x y) k spot b h i =
        let u = up_block (suc id) x h.0 h.1 in
        let v = up_else h.0 y k h.2 in
        elim (in_append b (block_placed (in_branch spot id) x) (else_placed (in_branch spot id) y) i) [
          | inl l ↦ let q = lies_block (suc id) x h.0 (in_branch spot id) b h.1 l in
              (q.low, outer id k spot (in_branch spot id) b refl (omega (arith, u, v)) (wider (suc id) h.0 (suc id) k (in_branch spot id) b (omega arith) v q))
          | inr r ↦ let q =
              wider h.0 k (suc id) k (in_branch spot id) b u (omega arith) (lies_else h.0 y k (in_branch spot id) b h.2 r) in
              (q.low, outer id k spot (in_branch spot id) b refl (omega (arith, u, v)) q)
        ]
    lies_kind id (for_in x c d y) k spot b h i =
        let u = up_block (suc id) y k h in
        let q = lies_block (suc id) y k (in_loop spot id ((x, variables.Declared id) ∷ [])) b h i in
        (q.low, outer id k spot (in_loop spot id ((x, variables.Declared id) ∷ [])) b refl (omega (arith, u)) q)
    lies_kind id (while_do c t y) k spot b h i =
        let u = up_block (suc id) y k h in
        let q = lies_block (suc id) y k (in_loop spot id []) b h i in
        (q.low, outer id k spot (in_loop spot id []) b refl (omega (arith, u)) q)
    lies_kind id s k spot b h i = absurd i

    pub lies_else : (n : ℕ) (s : TElse) (k : ℕ) (spot : Spot) (b : Placed) → LaidElse p n s k → IsOf b (else_placed spot s) → Lies n k spot b
    lies_else n no_else k spot b h i = absurd i
    lies_else n (else_do y) k spot b h i = lies_block n y k spot b h i

    pub lies_block : (n : ℕ) (s : TBlock) (k : ℕ) (spot : Spot) (b : Placed) → LaidBlock p n s k → IsOf b (block_placed spot s) → Lies n k spot b
    lies_block n (block id ss) k spot b h i = let q = lies_stmts n ss k (record spot { block = id }) b h.1 i in record { low = q.low; high = q.high; split = q.split; has = q.has }

    pub lies_stmts : (n : ℕ) (ss : TStmts) (k : ℕ) (spot : Spot) (b : Placed) → LaidStmts p n ss k → IsOf b (stmts_placed spot ss) → Lies n k spot b
    lies_stmts n no_stmts k spot b h i = absurd i
    lies_stmts n (more (stmt id line s) rest) k spot b h (inl e) =
        let u = up_kind (suc id) s h.1 h.2 in
        let v = up_stmts h.1 rest k h.3 in
        subst (Lies n k spot) (sym e) (record { low = omega (arith, h.0); high = omega (arith, u, v); split = λ t z. inr z; has = λ t z. z })
    lies_stmts n (more (stmt id line s) rest) k spot b h (inr i) =
        let u = up_kind (suc id) s h.1 h.2 in
        let v = up_stmts h.1 rest k h.3 in
        elim (in_append b (kind_placed spot id s) (stmts_placed (behind spot id s) rest) i) [
          | inl l ↦ wider id h.1 n k spot b (omega (arith, h.0)) v (lies_kind id s h.1 spot b h.2 l).1
          | inr r ↦ let q = wider h.1 k n k (behind spot id s) b (omega (arith, u, h.0)) (omega arith) (lies_stmts h.1 rest k (behind spot id s) b h.3 r) in
              record { low = q.low; high = q.high; split = q.split; has = q.has }
        ]
