-- The parts of a program's statements, with what is around them.
use Rattle.std.proofs.Common.{◌≡◌, ◌<◌, ◌⊎◌, inl, inr, ℕ, zero, suc, ◌+◌, List, [], ◌∷◌, ◌++◌, length, Some, sym, subst, arith, length-append, append-nil, flat_map}
use Rattle.std.specs.Prelude.{slice_get}
use Rattle.std.proofs.lemmas.Option.{none-some, same_Some}
use Rattle.oc_tree.specs.Tree.{TKind, TStmts, TFunction, TProgram}
use Rattle.oc_tree.specs.Form.{Numbered}
use Rattle.oc_tree.specs.Numbers.{kind_statements, block_statements, stmts_statements, kind_blocks, block_blocks, stmts_blocks}
use Rattle.oc_desugar.proofs.NumberLists.{Follow, first_of, parts}
use Rattle.oc_desugar.proofs.BlockPairs.{Pair, kind_pairs, block_pairs, stmts_pairs, program_pairs}
use Rattle.oc_checked.proofs.BlockRanges.{EachPair, pairs_map, From, Ranged, RangedIn, kind_ranged, block_ranged, stmts_ranged, functions_ranged}
use Rattle.oc_checked.proofs.PairsAround.{Outside, Later, later_part, earlier_part, Around, around_first, around_second, around_less}

module _ (p : TProgram) where
  -- the statements and blocks of a part, with what is around it
  abbrev pub Part : (i j : ℕ) (statements blocks : List ℕ) (pairs : List Pair) → Type 0
  Part i j statements blocks pairs = Around p i (i + length statements) j (j + length blocks) pairs

  -- the first of two parts
  pub part_first : (i j : ℕ) (us vs bs cs : List ℕ) (xs ys : List Pair) → EachPair (Ranged (i + length us) (i + length us + length vs) (j + length bs) (j + length bs + length cs)) ys
      → Part i j (us ++ vs) (bs ++ cs) (xs ++ ys) → Part i j us bs xs
  part_first i j us vs bs cs xs ys r a =
      let m = length-append us vs in
      let n = length-append bs cs in
      around_first p i (i + length (us ++ vs)) j (j + length (bs ++ cs)) (i + length us) j (j + length bs) xs ys (omega (arith, m)) (omega arith) (omega (arith, n))
      (later_part (i + length us) (i + length us + length vs) (j + length bs) (j + length bs + length cs) j ys r) a

  -- the second of two parts
  pub part_second : (i j : ℕ) (us vs bs cs : List ℕ) (xs ys : List Pair) → EachPair (Ranged i (i + length us) j (j + length bs)) xs → Part i j (us ++ vs) (bs ++ cs) (xs ++ ys)
      → Part (i + length us) (j + length bs) vs cs ys
  part_second i j us vs bs cs xs ys r a =
      let m : i + length (us ++ vs) ≡ i + length us + length vs = omega (arith, length-append us vs) in
      let n : j + length (bs ++ cs) ≡ j + length bs + length cs = omega (arith, length-append bs cs) in
      let b = subst (λ d. Around p i (i + length (us ++ vs)) j d (xs ++ ys)) n a in
      let c = subst (λ z. Around p i z j (j + length bs + length cs) (xs ++ ys)) m b in
      around_second p i (i + length us + length vs) j (j + length bs + length cs) (i + length us) (j + length bs) (j + length bs + length cs) xs ys (omega arith) (omega arith) (omega arith)
      (earlier_part i (i + length us) j (j + length bs) (j + length bs + length cs) xs r) c

  -- a statement of the block b, with those inside it and those behind it
  module _ (b i j : ℕ) (k : TKind) (rest : TStmts) where
    -- the statements inside it
    abbrev inner : List ℕ
    inner = kind_statements k

    -- the number of the statement behind it
    abbrev next : ℕ
    next = i + suc (length inner)

    -- the number of the block behind those inside it
    abbrev after : ℕ
    after = j + length (kind_blocks k)

    -- what a row of statements is
    abbrev Row : Type 0
    Row = Around p i (next + length (stmts_statements rest)) j (after + length (stmts_blocks rest)) ((i, b) ∷ (kind_pairs k ++ stmts_pairs b rest))

    -- what is known of it
    pub record Known : Type 0 where
      pub row : Row
      pub below : b < j
      pub inside : EachPair (Ranged (suc i) next j after) (kind_pairs k)
      pub others : EachPair (RangedIn b next (next + length (stmts_statements rest)) after (after + length (stmts_blocks rest))) (stmts_pairs b rest)

    -- around what is inside and behind it
    behind_own : Known → Around p (suc i) (next + length (stmts_statements rest)) j (after + length (stmts_blocks rest)) (kind_pairs k ++ stmts_pairs b rest)
    behind_own h =
        around_second p i (next + length (stmts_statements rest)) j (after + length (stmts_blocks rest)) (suc i) j (after + length (stmts_blocks rest)) ((i, b) ∷ [])
        (kind_pairs k ++ stmts_pairs b rest) (omega arith) (omega arith) (omega arith)
        ((omega arith, inl h.below), tt) h.row

    -- around the statements inside it
    pub inside_part : Known → Around p (suc i) next j after (kind_pairs k)
    inside_part h =
        around_first p (suc i) (next + length (stmts_statements rest)) j (after + length (stmts_blocks rest)) next j after (kind_pairs k) (stmts_pairs b rest) (omega arith) (omega arith) (omega arith)
        (pairs_map (RangedIn b next (next + length (stmts_statements rest)) after (after + length (stmts_blocks rest))) (Later next j after) (λ x r. (r.0.0, apart x r.1))
        (stmts_pairs b rest) h.others) (behind_own h)
      where
        apart : (x : Pair) → (x.1 ≡ b) ⊎ From after (after + length (stmts_blocks rest)) x.1 → Outside j after x.1
        apart x (inl e) = let below = h.below in inl (omega (arith, e, below))
        apart x (inr r) = inr r.0

    -- around the statements behind it
    pub rest_part : Known → Around p next (next + length (stmts_statements rest)) after (after + length (stmts_blocks rest)) (stmts_pairs b rest)
    rest_part h =
        around_second p (suc i) (next + length (stmts_statements rest)) j (after + length (stmts_blocks rest)) next after (after + length (stmts_blocks rest)) (kind_pairs k)
        (stmts_pairs b rest) (omega arith) (omega arith) (omega arith)
        (earlier_part (suc i) next j after (after + length (stmts_blocks rest)) (kind_pairs k) h.inside) (behind_own h)

    -- the first statement of these, where it stands
    pub record First (n : ℕ) : Type 0 where
      pub number : n ≡ i
      pub known : Known
      pub own_statements : Follow (suc i) inner
      pub own_blocks : Follow j (kind_blocks k)
      pub own : Part (suc i) j inner (kind_blocks k) (kind_pairs k)
      pub rest_statements : Follow next (stmts_statements rest)
      pub rest_blocks : Follow after (stmts_blocks rest)
      pub end : i + length (n ∷ (inner ++ stmts_statements rest)) ≡ next + length (stmts_statements rest)

    pub first_stands : (n : ℕ) → Follow i (n ∷ (inner ++ stmts_statements rest)) → Follow j (kind_blocks k ++ stmts_blocks rest)
        → Part i j (n ∷ (inner ++ stmts_statements rest)) (kind_blocks k ++ stmts_blocks rest) ((n, b) ∷ (kind_pairs k ++ stmts_pairs b rest)) → b < j → First n
    first_stands n f g h below =
        let s = parts i (n ∷ inner) (stmts_statements rest) f in
        let t = parts j (kind_blocks k) (stmts_blocks rest) g in
        let o = first_of n i inner s.0 in
        let top : i + length (n ∷ (inner ++ stmts_statements rest)) ≡ next + length (stmts_statements rest) = omega (arith, length-append inner (stmts_statements rest)) in
        let deep : j + length (kind_blocks k ++ stmts_blocks rest) ≡ after + length (stmts_blocks rest) = omega (arith, length-append (kind_blocks k) (stmts_blocks rest)) in
        let row1 = subst (λ m. Around p i (i + length (n ∷ (inner ++ stmts_statements rest))) j (j + length (kind_blocks k ++ stmts_blocks rest)) ((m, b) ∷ (kind_pairs k ++ stmts_pairs b rest))) o.0 h in
        let row2 = subst (λ z. Around p i z j (j + length (kind_blocks k ++ stmts_blocks rest)) ((i, b) ∷ (kind_pairs k ++ stmts_pairs b rest))) top row1 in
        let width : suc i + length inner ≡ next = omega arith in
        let known : Known = record {
          row = subst (λ d. Around p i (next + length (stmts_statements rest)) j d ((i, b) ∷ (kind_pairs k ++ stmts_pairs b rest))) deep row2;
          below = below;
          inside = subst (λ z. EachPair (Ranged (suc i) z j after) (kind_pairs k)) width (kind_ranged (suc i) j k o.1 t.0);
          others = stmts_ranged b next after rest s.1 t.1;
        } in
        record {
          number = o.0;
          known = known;
          own_statements = o.1;
          own_blocks = t.0;
          own = subst (λ z. Around p (suc i) z j after (kind_pairs k)) (sym width) (inside_part known);
          rest_statements = s.1;
          rest_blocks = t.1;
          end = top;
        }

  -- the statements of a block, without the number of the block itself
  pub block_part : (i j id : ℕ) (ss : TStmts) → Part i j (stmts_statements ss) (id ∷ stmts_blocks ss) (stmts_pairs id ss) → Part i (suc j) (stmts_statements ss) (stmts_blocks ss) (stmts_pairs id ss)
  block_part i j id ss h =
      let z = i + length (stmts_statements ss) in
      let deep : j + suc (length (stmts_blocks ss)) ≡ suc j + length (stmts_blocks ss) = omega arith in
      subst (λ d. Around p i z (suc j) d (stmts_pairs id ss)) deep (around_less p i z j (j + suc (length (stmts_blocks ss))) (suc j) (stmts_pairs id ss) (omega arith) h)

  -- the body of a function, where it stands
  pub record Body (f : TFunction) : Type 0 where
    pub first : ℕ
    pub deep : ℕ
    pub statements : Follow first (block_statements f.body)
    pub blocks : Follow deep (block_blocks f.body)
    pub part : Part first deep (block_statements f.body) (block_blocks f.body) (block_pairs f.body)

  functions_stand : (i j : ℕ) (fs : List TFunction) → Follow i (flat_map (λ f. block_statements f.body) fs) → Follow j (flat_map (λ f. block_blocks f.body) fs)
      → Part i j (flat_map (λ f. block_statements f.body) fs) (flat_map (λ f. block_blocks f.body) fs) (flat_map (λ f. block_pairs f.body) fs) → (u : ℕ) (f : TFunction)
      → slice_get fs u ≡ Some f → Body f
  functions_stand i j [] f g h u x e = absurd (none-some x e)
  functions_stand i j (y ∷ fs) f g h u x e =
      let us = block_statements y.body in
      let vs = flat_map (λ f. block_statements f.body) fs in
      let bs = block_blocks y.body in
      let cs = flat_map (λ f. block_blocks f.body) fs in
      let ys = flat_map (λ f. block_pairs f.body) fs in
      let s = parts i us vs f in
      let t = parts j bs cs g in
      let own : Body y = record {
        first = i;
        deep = j;
        statements = s.0;
        blocks = t.0;
        part = part_first i j us vs bs cs (block_pairs y.body) ys (functions_ranged (i + length us) (j + length bs) fs s.1 t.1) h;
      } in
      go u e own (functions_stand (i + length us) (j + length bs) fs s.1 t.1 (part_second i j us vs bs cs (block_pairs y.body) ys (block_ranged i j y.body s.0 t.0) h))
    where
      go : (u : ℕ) → slice_get (y ∷ fs) u ≡ Some x → Body y → ((v : ℕ) (z : TFunction) → slice_get fs v ≡ Some z → Body z) → Body x
      go zero e own others = subst Body (same_Some y x e) own
      go (suc v) e own others = others v x e

  -- the body of each function of a numbered program stands somewhere
  pub bodies_stand : Numbered p → (u : ℕ) (f : TFunction) → slice_get p.functions u ≡ Some f → Body f
  bodies_stand numbered = functions_stand 1 1 p.functions numbered.statements numbered.blocks (record {
    front = [];
    back = [];
    is = sym (append-nil (program_pairs p));
    before = tt;
    behind = tt;
  })
