-- The block of a set is the innermost one that has all its annotations. Where a region covers them all and none of it is around, the region stands in that block.
use Rattle.std.proofs.Common.{◌≡◌, ◌⊎◌, inl, inr, ℕ, suc, ◌<◌, ◌≤◌, ◌==◌, Bool, true, false, List, [], ◌∷◌, Option, Some, None, refl, ap, sym, subst, ◌∙◌, arith}
use Rattle.std.specs.Prelude.{ℤ, option_map, if◌then◌else◌}
use Rattle.std.specs.Ordering.{int_eq}
use Rattle.std.proofs.lemmas.Bool.{eq-eqb}
use Rattle.std.proofs.lemmas.Option.{none-some, same_Some}
use Rattle.std.proofs.lemmas.Bool.Decides.{Decides-int_eq}
use Rattle.oc_tree.specs.Tree.{TKind, if_else, for_in, while_do, consistent}
use Rattle.oc_tree.specs.Tree.{TElse, no_else, else_do, stmt, TBlock, block, TStmts, no_stmts, more, TProgram}
use Rattle.oc_tree.specs.declared.tree.VarId.TheVariants as variables
use Rattle.oc_tree.specs.Places.{Place as Spot, Placed, placed, block_of, behind, in_branch, in_loop, kind_placed, else_placed, block_placed, stmts_placed}
use Rattle.oc_tree.specs.Marked.{TRegion, around, is_in_region, covers}
use Rattle.oc_meaning.specs.Blocks.{kind_notes, else_notes, block_notes, stmts_notes, or_first, kind_home, else_home, block_home, stmts_home}
use Rattle.oc_tree.specs.Members.{IsOf}
use Rattle.oc_needs.proofs.Tests.{any_of}
use Rattle.oc_timely.specs.Modes.{own_placed}
use Rattle.oc_timely.specs.Laid.{IsClosed, LaidKind, LaidElse, LaidStmts}
use Rattle.oc_timely.proofs.Directly.{Direct, direct_of, either}
use Rattle.oc_laws.proofs.Members.{of_left, of_right, in_append}
use Rattle.oc_timely.proofs.Lies.{Lies, up_kind, closed_block, closed_kind, lies_kind, lies_else, lies_block, lies_stmts}

-- ---- annotations of the set

module _ (k : ℤ) where
  -- there is none among these statements
  abbrev pub NoneNoted : List Placed → Type 0
  NoneNoted bs = (b : Placed) → IsOf b bs → (x : _) → b.kind ≡ consistent x k → ⊥

  note_one : (x : _) (i : ℤ) → i ≡ k → kind_notes k (consistent x i) ≡ 0 → ⊥
  note_one x i e h = let t : int_eq i k ≡ true = grind (arith, e) in let one : ◌≡◌ {A = ℕ} (if int_eq i k then 1 else 0) 1 = ap (λ b. if b then 1 else 0) t in omega (arith, h, one)

  note_is : (s : TKind) (x : _) → kind_notes k s ≡ 0 → s ≡ consistent x k → ⊥
  note_is s x h e = note_one x k refl (ap (kind_notes k) (sym e) ∙ h)

  mutual
    pub kind_clear : (spot : Spot) (id : ℕ) (s : TKind) → kind_notes k s ≡ 0 → NoneNoted (kind_placed spot id s)
    kind_clear spot id (if_else c a b) h z i =
        by z (in_append z (block_placed (in_branch spot id) a) (else_placed (in_branch spot id) b) i) (block_clear (in_branch spot id) a (omega (arith, h)))
        (else_clear (in_branch spot id) b (omega (arith, h)))
      where
        by : (z : Placed) → IsOf z (block_placed (in_branch spot id) a) ⊎ IsOf z (else_placed (in_branch spot id) b) → NoneNoted (block_placed (in_branch spot id) a) →
            NoneNoted (else_placed (in_branch spot id) b) → (x : _) → z.kind ≡ consistent x k → ⊥
        by z (inl o) f g = f z o
        by z (inr o) f g = g z o
    kind_clear spot id (for_in x c d b) h z i = block_clear (in_loop spot id ((x, variables.Declared id) ∷ [])) b h z i
    kind_clear spot id (while_do c t b) h z i = block_clear (in_loop spot id []) b h z i
    kind_clear spot id s h z i = absurd i

    pub else_clear : (spot : Spot) (b : TElse) → else_notes k b ≡ 0 → NoneNoted (else_placed spot b)
    else_clear spot no_else h z i = absurd i
    else_clear spot (else_do b) h z i = block_clear spot b h z i

    pub block_clear : (spot : Spot) (b : TBlock) → block_notes k b ≡ 0 → NoneNoted (block_placed spot b)
    block_clear spot (block id ss) h z i = stmts_clear (record spot { block = id }) ss h z i

    pub stmts_clear : (spot : Spot) (ss : TStmts) → stmts_notes k ss ≡ 0 → NoneNoted (stmts_placed spot ss)
    stmts_clear spot no_stmts h z i = absurd i
    stmts_clear spot (more (stmt id line s) rest) h z i = by z i (kind_clear spot id s (omega (arith, h))) (stmts_clear (behind spot id s) rest (omega (arith, h)))
      where
        by : (z : Placed) → IsOf z (stmts_placed spot (more (stmt id line s) rest)) → NoneNoted (kind_placed spot id s) → NoneNoted (stmts_placed (behind spot id s) rest) → (x : _) →
            z.kind ≡ consistent x k → ⊥
        by z (inl e) f g x q = note_is s x (omega (arith, h)) (sym (ap (λ (y : Placed). y.kind) e) ∙ q)
        by z (inr o) f g x q = elim (in_append z (kind_placed spot id s) (stmts_placed (behind spot id s) rest) o) [ inl l ↦ f z l x q | inr r ↦ g z r x q ]

  pub own_clear : (spot : Spot) (id line : ℕ) (s : TKind) → kind_notes k s ≡ 0 → NoneNoted (own_placed spot id line s)
  own_clear spot id line s h z (inl e) x q = note_is s x h (sym (ap (λ (y : Placed). y.kind) e) ∙ q)
  own_clear spot id line s h z (inr o) x q = kind_clear spot id s h z o x q

  -- and none is counted there
  mutual
    kind_zero : (spot : Spot) (id line : ℕ) (s : TKind) → NoneNoted (own_placed spot id line s) → kind_notes k s ≡ 0
    kind_zero spot id line (if_else c a b) h =
        let x = block_zero (in_branch spot id) a (λ z i. h z (inr (of_left z (block_placed (in_branch spot id) a) (else_placed (in_branch spot id) b) i))) in
        let y = else_zero (in_branch spot id) b (λ z i. h z (inr (of_right z (block_placed (in_branch spot id) a) (else_placed (in_branch spot id) b) i))) in
        omega (arith, x, y)
    kind_zero spot id line (for_in x c d b) h = block_zero (in_loop spot id ((x, variables.Declared id) ∷ [])) b (λ z i. h z (inr i))
    kind_zero spot id line (while_do c t b) h = block_zero (in_loop spot id []) b (λ z i. h z (inr i))
    kind_zero spot id line (consistent x i) h = by (int_eq i k) refl
      where
        by : (b : Bool) → int_eq i k ≡ b → ◌≡◌ {A = ℕ} (if b then 1 else 0) 0
        by false e = refl
        by true e = absurd (h (record { id = id; line = line; kind = consistent x i; at = spot }) (inl refl) x (ap (consistent x) ((Decides-int_eq i k).0 e)))
    kind_zero spot id line s h = refl

    pub else_zero : (spot : Spot) (b : TElse) → NoneNoted (else_placed spot b) → else_notes k b ≡ 0
    else_zero spot no_else h = refl
    else_zero spot (else_do b) h = block_zero spot b h

    pub block_zero : (spot : Spot) (b : TBlock) → NoneNoted (block_placed spot b) → block_notes k b ≡ 0
    block_zero spot (block id ss) h = stmts_zero (record spot { block = id }) ss h

    pub stmts_zero : (spot : Spot) (ss : TStmts) → NoneNoted (stmts_placed spot ss) → stmts_notes k ss ≡ 0
    stmts_zero spot no_stmts h = refl
    stmts_zero spot (more (stmt id line s) rest) h =
        let x = kind_zero spot id line s (λ z i. h z (of_left z (own_placed spot id line s) (stmts_placed (behind spot id s) rest) i)) in
        let y = stmts_zero (behind spot id s) rest (λ z i. h z (of_right z (own_placed spot id line s) (stmts_placed (behind spot id s) rest) i)) in
        omega (arith, x, y)

  -- ---- homes

  pub first_none : (a b : Option ℕ) → or_first a b ≡ None → (a ≡ None) × (b ≡ None)
  first_none None b e = (refl, e)
  first_none (Some x) b e = absurd (none-some x (sym e))

  first_there : (a : Option ℕ) (n : ℕ) → or_first a (Some n) ≡ None → ⊥
  first_there None n e = none-some n (sym e)
  first_there (Some x) n e = none-some x (sym e)

  -- a block with all annotations has a home in it
  pub home_there : (n : ℕ) (b : TBlock) → block_notes k b ≡ n → block_home k n b ≡ None → ⊥
  home_there n (block id ss) e h =
      let t : (n == stmts_notes k ss) ≡ true = eq-eqb n (stmts_notes k ss) (sym e) in
      first_there (stmts_home k n ss) id (sym (ap (λ c. if c then or_first (stmts_home k n ss) (Some id) else None) t) ∙ h)

  -- ---- a region that covers all of them

  module _ (p : TProgram) (body : List Placed) (found : (b : Placed) → IsOf b body → placed p b.id ≡ Some b) (q : TRegion) (its : block_of p q.first ≡ Some q.block)
      (covered : (b : Placed) → IsOf b body → (x : _) → b.kind ≡ consistent x k → covers p q b.id ≡ true) where
    -- the region isn't around
    abbrev pub IsFree : List ℕ → Type 0
    IsFree ts = (t : ℕ) → IsOf t ts → Direct p q t → ⊥

    -- what stands directly in the region, of a statement that it covers
    pub chain : (n e : ℕ) (spot : Spot) (b : Placed) → IsOf b body → Lies n e spot b → IsFree spot.around → covers p q b.id ≡ true → (t : ℕ) × Direct p q t × (n ≤ t) × (t < e)
    chain n e spot b one l free c =
        let t = any_of (is_in_region p q) (b.id ∷ around (placed p b.id)) c in
        let d = direct_of p q t.0 t.2 in
        let low = l.low in
        let high = l.high in
        elim t.1 [
          | inl s ↦ (t.0, d, omega (arith, low, s), omega (arith, high, s))
          | inr z ↦ elim (l.split t.0 (subst (λ o. IsOf t.0 (around o)) (found b one) z)) [
            | inl y ↦ (t.0, d, y.0, y.1)
            | inr y ↦ absurd (free t.0 y d)
          ]
        ]

    -- where it begins in one part, another part has none
    elsewhere : (n e n' e' : ℕ) (spot : Spot) (bs : List Placed) → IsClosed p n e → n ≤ q.first → q.first < e → ((t : ℕ) → n' ≤ t → t < e' → n ≤ t → t < e → ⊥) →
        ((b : Placed) → IsOf b bs → IsOf b body × Lies n' e' spot b) → IsFree spot.around → NoneNoted bs
    elsewhere n e n' e' spot bs closed low high apart lies free b i x note =
        let s = lies b i in
        let t = chain n' e' spot b s.0 s.1 free (covered b s.0 x note) in
        let c = closed q.first t.0 q.block low high its t.1.there in
        apart t.0 t.2 t.3 c.0 c.1

    abbrev Within : List Placed → Type 0
    Within bs = (b : Placed) → IsOf b bs → IsOf b body

    -- where it begins in a statement, one of the statement's blocks has all annotations
    kind_inner : (n : ℕ) (spot : Spot) (id : ℕ) (s : TKind) (mid : ℕ) → LaidKind p (suc id) s mid → Within (kind_placed spot id s) → IsFree (id ∷ spot.around) → suc id ≤ q.first → q.first < mid →
        kind_notes k s ≡ n → kind_home k n s ≡ None → ⊥
    kind_inner n spot id (if_else c a b) mid laid sub free low high e h = by (either q.first laid.0)
      where
        in_a : (z : Placed) → IsOf z (block_placed (in_branch spot id) a) → IsOf z body × Lies (suc id) laid.0 (in_branch spot id) z
        in_a z i = (sub z (of_left z (block_placed (in_branch spot id) a) (else_placed (in_branch spot id) b) i), lies_block p (suc id) a laid.0 (in_branch spot id) z laid.1 i)

        in_b : (z : Placed) → IsOf z (else_placed (in_branch spot id) b) → IsOf z body × Lies laid.0 mid (in_branch spot id) z
        in_b z i = (sub z (of_right z (block_placed (in_branch spot id) a) (else_placed (in_branch spot id) b) i), lies_else p laid.0 b mid (in_branch spot id) z laid.2 i)

        none : (block_home k n a ≡ None) × (else_home k n b ≡ None)
        none = first_none (block_home k n a) (else_home k n b) h

        other : (y : TElse) → LaidElse p laid.0 y mid → else_notes k y ≡ n → else_home k n y ≡ None → laid.0 ≤ q.first → ⊥
        other no_else l m z u = omega (arith, l, u, high)
        other (else_do y) l m z u = home_there n y m z

        closed_other : (y : TElse) → LaidElse p laid.0 y mid → IsClosed p laid.0 mid
        closed_other no_else l = λ s t b u v w z. absurd (omega (arith, l, u, v))
        closed_other (else_do y) l = closed_block p laid.0 y mid l

        by : (laid.0 ≤ q.first) ⊎ (q.first < laid.0) → ⊥
        by (inr l) =
            let zero = else_zero (in_branch spot id) b
            (elsewhere (suc id) laid.0 laid.0 mid (in_branch spot id) (else_placed (in_branch spot id) b) (closed_block p (suc id) a laid.0 laid.1) low l
            (λ t u v w z. omega (arith, u, z)) in_b free) in
            home_there n a (omega (arith, e, zero)) none.0
        by (inl l) =
            let zero = block_zero (in_branch spot id) a
            (elsewhere laid.0 mid (suc id) laid.0 (in_branch spot id) (block_placed (in_branch spot id) a) (closed_other b laid.2) l high (λ t u v w z. omega (arith, v, w)) in_a free) in
            other b laid.2 (omega (arith, e, zero)) none.1 l
    kind_inner n spot id (for_in x c d b) mid laid sub free low high e h = home_there n b e h
    kind_inner n spot id (while_do c t b) mid laid sub free low high e h = home_there n b e h
    kind_inner n spot id k mid laid sub free low high e h = omega (arith, laid, low, high)

    -- where a statement of this block stands
    pub lies_own : (spot : Spot) (id line : ℕ) (s : TKind) (mid : ℕ) → LaidKind p (suc id) s mid → (b : Placed) → IsOf b (own_placed spot id line s) → Lies id mid spot b
    lies_own spot id line s mid laid b (inl e) =
        let u = up_kind p (suc id) s mid laid in subst (Lies id mid spot) (sym e) (record { low = omega arith; high = omega (arith, u); split = λ t z. inr z; has = λ t z. z })
    lies_own spot id line s mid laid b (inr i) = (lies_kind p id s mid spot b laid i).1

    -- the numbers of a list's own statements
    abbrev stmts_ids : TStmts → List ℕ
    stmts_ids no_stmts = []
    stmts_ids (more (stmt id line s) rest) = id ∷ stmts_ids rest

    ids_block : (spot : Spot) (ss : TStmts) → Within (stmts_placed spot ss) → (t : ℕ) → IsOf t (stmts_ids ss) → block_of p t ≡ Some spot.block
    ids_block spot no_stmts sub t i = absurd i
    ids_block spot (more (stmt id line s) rest) sub t (inl e) =
        ap (block_of p) e ∙ ap (option_map (λ (a : Placed). a.at.block)) (found (record { id = id; line = line; kind = s; at = spot }) (sub _ (inl refl)))
    ids_block spot (more (stmt id line s) rest) sub t (inr i) = ids_block (behind spot id s) rest (λ z o. sub z (of_right z (own_placed spot id line s) (stmts_placed (behind spot id s) rest) o)) t i

    -- a list with all annotations, none of whose statements has a home
    stmts_inner : (n start e : ℕ) (spot : Spot) (ss : TStmts) → LaidStmts p start ss e → Within (stmts_placed spot ss) → IsFree spot.around → ((t : ℕ) → IsOf t (stmts_ids ss) → Direct p q t → ⊥) →
        0 < n → stmts_notes k ss ≡ n → stmts_home k n ss ≡ None → ⊥
    stmts_inner n start e spot no_stmts laid sub free not some m h = omega (arith, some, m)
    stmts_inner n start e spot (more (stmt id line s) rest) laid sub free not some m h = by (either q.first (suc id)) (either q.first laid.1)
        (λ z. stmts_inner n laid.1 e (behind spot id s) rest laid.3 (λ y i. (in_rest y i).0) free (λ t i. not t (inr i)) some z none.1)
      where
        none : (kind_home k n s ≡ None) × (stmts_home k n rest ≡ None)
        none = first_none (kind_home k n s) (stmts_home k n rest) h

        free_in : IsFree (id ∷ spot.around)
        free_in t (inl z) d = not t (inl z) d
        free_in t (inr z) d = free t z d

        in_rest : (z : Placed) → IsOf z (stmts_placed (behind spot id s) rest) → IsOf z body × Lies laid.1 e (behind spot id s) z
        in_rest z i = (sub z (of_right z (own_placed spot id line s) (stmts_placed (behind spot id s) rest) i), lies_stmts p laid.1 rest e (behind spot id s) z laid.3 i)

        -- it doesn't begin in this statement, so this has no annotation
        beside : (stmts_notes k rest ≡ n → ⊥) → ((t : ℕ) → suc id ≤ t → t < laid.1 → Direct p q t → ⊥) → ⊥
        beside rec out =
            let zero = kind_zero spot id line s (λ z i x note. (
            let one = sub z (of_left z (own_placed spot id line s) (stmts_placed (behind spot id s) rest) i) in
            let t = chain id laid.1 spot z one (lies_own spot id line s laid.1 laid.2 z i) free (covered z one x note) in
            own t.0 t.1 t.2 t.3 (either t.0 (suc id)))) in
            rec (omega (arith, m, zero))
          where
            own : (t : ℕ) → Direct p q t → id ≤ t → t < laid.1 → (suc id ≤ t) ⊎ (t < suc id) → ⊥
            own t d l u (inl v) = out t v u d
            own t d l u (inr v) = not t (inl (omega (arith, l, v))) d

        closed : IsClosed p (suc id) laid.1
        closed = closed_kind p (suc id) s laid.1 laid.2

        by : (suc id ≤ q.first) ⊎ (q.first < suc id) → (laid.1 ≤ q.first) ⊎ (q.first < laid.1) → (stmts_notes k rest ≡ n → ⊥) → ⊥
        by (inl l) (inr u) rec =
            let zero = stmts_zero (behind spot id s) rest
            (elsewhere (suc id) laid.1 laid.1 e (behind spot id s) (stmts_placed (behind spot id s) rest) closed l u (λ t a b c d. omega (arith, a, d)) in_rest free) in
            kind_inner n spot id s laid.1 laid.2 (λ z i. sub z (inr (of_left z (kind_placed spot id s) (stmts_placed (behind spot id s) rest) i))) free_in l u (omega (arith, m, zero)) none.0
        by (inl l) (inl u) rec = beside rec (λ t a b d. let c = closed t q.first q.block a b d.there its in omega (arith, c.1, u))
        by (inr l) z rec = beside rec (λ t a b d. let c = closed t q.first q.block a b d.there its in omega (arith, c.0, l))

    -- so the region stands in the block of the list
    pub innermost : (n start e : ℕ) (spot : Spot) (ss : TStmts) → LaidStmts p start ss e → Within (stmts_placed spot ss) → IsFree spot.around → 0 < n → stmts_notes k ss ≡ n →
        stmts_home k n ss ≡ None → q.block ≡ spot.block
    innermost n start e spot ss laid sub free some m h = by (q.block == spot.block) refl
      where
        by : (c : Bool) → (q.block == spot.block) ≡ c → q.block ≡ spot.block
        by true t = grind (arith, t)
        by false t = absurd (stmts_inner n start e spot ss laid sub free
            (λ u i d. let same : q.block ≡ spot.block = same_Some q.block spot.block (sym d.there ∙ ids_block spot ss sub u i) in grind (arith, t, same)) some m h)
