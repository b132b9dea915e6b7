-- In each block of a marked program at most one region is open, and the one that ends is the one that began.
use Rattle.std.proofs.Common.{◌≡◌, ◌<◌, ◌≤◌, ℕ, zero, suc, ◌+◌, Bool, true, false, true≢false, List, [], ◌∷◌, ◌++◌, length, Some, None, refl, ap, sym, ◌∙◌, subst, ⊎_elim, inl, inr, arith}
use Rattle.std.specs.Prelude.{slice_get, ◌==◌, ◌&&◌, ◌||◌, ◌⊎◌, nat_lt, nat_le, if◌then◌else◌}
use Rattle.std.specs.List.{list_any}
use Rattle.std.proofs.lemmas.Bool.{and_parts, eqb-true, eq-eqb, ne_eqb, le-leb, lt-ltb}
use Rattle.std.proofs.lemmas.Option.{same_Some}
use Rattle.oc_tree.specs.Tree.{TKind, if_else, for_in, while_do}
use Rattle.oc_tree.specs.Tree.{TElse, no_else, else_do, stmt, TBlock, block, TStmts, no_stmts, more, TFunction, TProgram}
use Rattle.oc_tree.specs.Form.{Numbered}
use Rattle.oc_tree.specs.Numbers.{kind_statements, else_statements, block_statements, stmts_statements, kind_blocks, else_blocks, block_blocks, stmts_blocks}
use Rattle.oc_tree.specs.Places.{placed, block_of}
use Rattle.oc_tree.specs.Checked.{same_block}
use Rattle.oc_tree.specs.Marked.{TRegion, around, is_in_region, covers, AreRegions}
use Rattle.oc_meaning.specs.Exec.{begun_by, ended_by}
use Rattle.oc_desugar.proofs.NumberLists.{Follow, first_of, parts}
use Rattle.oc_desugar.proofs.BlockPairs.{kind_pairs, else_pairs, block_pairs, stmts_pairs, block_there}
use Rattle.oc_checked.proofs.BlockRanges.{else_ranged, block_ranged}
use Rattle.oc_checked.proofs.RegionsApart.{EachRegion, InBlock, Pairs, pairs_of, in_blocks}
use Rattle.oc_checked.proofs.PairsAround.{Gap, in_block_range, in_block_gap}
use Rattle.oc_checked.proofs.RowsAround.{Part, part_first, part_second, rest_part, first_stands, block_part, bodies_stand}
use Rattle.oc_builds.proofs.Stmts.{entered}

-- ---- statements whose regions end in the order in which they begin

module _ (regions : List TRegion) where
  abbrev mutual
    pub KindPaired : TKind → Type 0
    KindPaired (if_else c a b) = BlockPaired a × ElsePaired b
    KindPaired (for_in x c d b) = BlockPaired b
    KindPaired (while_do c n b) = BlockPaired b
    KindPaired _ = Unit {0}

    pub ElsePaired : TElse → Type 0
    ElsePaired no_else = Unit {0}
    ElsePaired (else_do b) = BlockPaired b

    pub BlockPaired : TBlock → Type 0
    BlockPaired (block id ss) = StmtsPaired [] ss

    -- `o` are the regions that are open in this block
    pub StmtsPaired : List ℕ → TStmts → Type 0
    StmtsPaired o no_stmts = o ≡ []
    StmtsPaired o (more (stmt n line k) rest) = KindPaired k × (left : List ℕ) × (entered (begun_by regions n) o ≡ entered (ended_by regions n) left) × StmtsPaired left rest

-- ---- the region that is open

-- whether a region of the block b is open in front of n
abbrev pub is_open : (b n : ℕ) → TRegion → Bool
is_open b n r = (r.block == b) && (nat_lt r.first n && nat_le n r.last)

-- the first one that is, as a list
abbrev pub open_ids : List TRegion → (b n : ℕ) → List ℕ
open_ids [] b n = []
open_ids (r ∷ rs) b n = if is_open b n r then r.id ∷ [] else open_ids rs b n

-- a region of the block b that holds n
pub record HoldsIt (b n : ℕ) (r : TRegion) : Type 0 where
  pub block : r.block ≡ b
  pub low : r.first ≤ n
  pub high : n ≤ r.last

holds_by : (b n : ℕ) (r : TRegion) → HoldsIt b n r ⊎ (HoldsIt b n r → ⊥)
holds_by b n r = go (r.block == b) refl (nat_le r.first n) refl (nat_le n r.last) refl
  where
    go : (x : Bool) → (r.block == b) ≡ x → (y : Bool) → nat_le r.first n ≡ y → (z : Bool) → nat_le n r.last ≡ z → HoldsIt b n r ⊎ (HoldsIt b n r → ⊥)
    go true e true f true g = inl (record { block = eqb-true r.block b e; low = grind (arith, f); high = grind (arith, g) })
    go false e y f z g = inr (λ h. true≢false (sym (eq-eqb r.block b h.block) ∙ e))
    go true e false f z g = inr (λ h. true≢false (sym (le-leb r.first n h.low) ∙ f))
    go true e true f false g = inr (λ h. true≢false (sym (le-leb n r.last h.high) ∙ g))

-- what is open in front of n holds it
open_holds : (b n : ℕ) (r : TRegion) → is_open b n r ≡ true → (r.block ≡ b) × (r.first < n) × (n ≤ r.last)
open_holds b n r h =
    let q = and_parts (r.block == b) (nat_lt r.first n && nat_le n r.last) h in
    let s = and_parts (nat_lt r.first n) (nat_le n r.last) q.1 in
    (eqb-true r.block b q.0, grind (arith, s.0), grind (arith, s.1))

is_open_so : (b n : ℕ) (r : TRegion) → r.block ≡ b → r.first < n → n ≤ r.last → is_open b n r ≡ true
is_open_so b n r e f g = both (r.block == b) (nat_lt r.first n && nat_le n r.last) (eq-eqb r.block b e) (both (nat_lt r.first n) (nat_le n r.last) (lt-ltb r.first n f) (le-leb n r.last g))
  where
    both : (x y : Bool) → x ≡ true → y ≡ true → x && y ≡ true
    both true y e f = f
    both false y e f = absurd (true≢false (sym e))

not_so : (b : Bool) → (b ≡ true → ⊥) → b ≡ false
not_so true h = absurd (h refl)
not_so false h = refl

module _ (p : TProgram) where
  abbrev Spot : TRegion → Type 0
  Spot = InBlock (block_of p)

  -- the first rises, and stands in no earlier region
  abbrev Behind : TRegion → TRegion → Type 0
  Behind r q = (r.first < q.first) × (covers p r q.first ≡ false)

  -- no two regions hold the same statement of a block
  one_holds : (b n : ℕ) (r q : TRegion) → Spot q → Behind r q → HoldsIt b n r → HoldsIt b n q → ⊥
  one_holds b n r q spot behind h k =
      let lowr = h.low in
      let highr = h.high in
      let lowq = k.low in
      let there : block_of p q.first ≡ Some r.block = spot.first_there ∙ ap Some (k.block ∙ sym h.block) in
      let from : nat_le r.first q.first ≡ true = le-leb r.first q.first (omega (arith, behind.0)) in
      let to : nat_le q.first r.last ≡ true = le-leb q.first r.last (omega (arith, lowq, highr)) in
      let in_it : is_in_region p r q.first ≡ true =
      ap (λ o. same_block o (Some r.block) && (nat_le r.first q.first && nat_le q.first r.last)) there
      ∙ ap (λ c. c && (nat_le r.first q.first && nat_le q.first r.last)) (eq-eqb r.block r.block refl)
      ∙ ap (λ c. c && nat_le q.first r.last) from
      ∙ to in
      let covered : covers p r q.first ≡ true = ap (λ c. c || list_any (is_in_region p r) (around (placed p q.first))) in_it in
      true≢false (sym covered ∙ behind.1)

  -- a statement of the block b, the next of which is m
  module _ (b n m : ℕ) (here : block_of p n ≡ Some b) (less : n < m) (gap : (s : ℕ) → block_of p s ≡ Some b → Gap n m s) where
    -- what a region has that doesn't hold it
    pub record Away (r : TRegion) : Type 0 where
      pub no_first : (n == r.first) ≡ false
      pub no_last : (n == r.last) ≡ false
      pub not_open : is_open b n r ≡ false
      pub not_later : is_open b m r ≡ false

    away : (r : TRegion) → Spot r → (HoldsIt b n r → ⊥) → Away r
    away r spot none = record {
      no_first = ne_eqb n r.first (λ e. none (let o = spot.ordered in record {
        block = same_Some r.block b (sym spot.first_there ∙ ap (block_of p) (sym e) ∙ here);
        low = omega (arith, e);
        high = omega (arith, e, o);
      }));
      no_last = ne_eqb n r.last (λ e. none (let o = spot.ordered in record {
        block = same_Some r.block b (sym spot.last_there ∙ ap (block_of p) (sym e) ∙ here);
        low = omega (arith, e, o);
        high = omega (arith, e);
      }));
      not_open = not_so (is_open b n r) (λ h. (let q = open_holds b n r h in none (record { block = q.0; low = omega (arith, q.1); high = q.2 })));
      not_later = not_so (is_open b m r) (λ h. (let q = open_holds b m r h in
          let there : block_of p r.first ≡ Some b = spot.first_there ∙ ap Some q.0 in
          none (record {
            block = q.0;
            low = ⊎_elim (λ l. l) (λ l. absurd (omega (arith, l, q.1))) (gap r.first there);
            high = omega (arith, q.2, less);
          })));
    }

    -- where none holds it, nothing begins or ends with it, or is open
    pub record AllAway (rs : List TRegion) : Type 0 where
      pub begun : begun_by rs n ≡ None
      pub ended : ended_by rs n ≡ None
      pub open_none : open_ids rs b n ≡ []
      pub later_none : open_ids rs b m ≡ []

    all_away : (rs : List TRegion) → EachRegion Spot rs → EachRegion (λ q. HoldsIt b n q → ⊥) rs → AllAway rs
    all_away [] spots none = record { begun = refl; ended = refl; open_none = refl; later_none = refl }
    all_away (r ∷ rs) spots none =
        let a = away r spots.0 none.0 in
        let rest = all_away rs spots.1 none.1 in
        record {
          begun = ap (λ c. if c then Some r.id else begun_by rs n) a.no_first ∙ rest.begun;
          ended = ap (λ c. if c then Some r.id else ended_by rs n) a.no_last ∙ rest.ended;
          open_none = ap (λ c. if c then r.id ∷ [] else open_ids rs b n) a.not_open ∙ rest.open_none;
          later_none = ap (λ c. if c then r.id ∷ [] else open_ids rs b m) a.not_later ∙ rest.later_none;
        }

    others : (r : TRegion) (rs : List TRegion) → HoldsIt b n r → EachRegion Spot rs → EachRegion (Behind r) rs → EachRegion (λ q. HoldsIt b n q → ⊥) rs
    others r [] h spots behind = tt
    others r (q ∷ rs) h spots behind = (λ k. one_holds b n r q spots.0 behind.0 h k, others r rs h spots.1 behind.1)

    -- what was open, with what begins here, is what stays open, with what ends here
    pub crossed : (rs : List TRegion) → EachRegion Spot rs → Pairs Behind rs → entered (begun_by rs n) (open_ids rs b n) ≡ entered (ended_by rs n) (open_ids rs b m)
    crossed [] spots behind = refl
    crossed (r ∷ rs) spots behind = ⊎_elim (λ h. held h) (λ h. (let a = away r spots.0 h in
        ap (λ c. entered (if c then Some r.id else begun_by rs n) (open_ids (r ∷ rs) b n)) a.no_first
        ∙ ap (λ c. entered (begun_by rs n) (if c then r.id ∷ [] else open_ids rs b n)) a.not_open
        ∙ crossed rs spots.1 behind.1
        ∙ sym (ap (λ c. entered (ended_by rs n) (if c then r.id ∷ [] else open_ids rs b m)) a.not_later)
        ∙ sym (ap (λ c. entered (if c then Some r.id else ended_by rs n) (open_ids (r ∷ rs) b m)) a.no_last)))
        (holds_by b n r)
      where
        held : HoldsIt b n r → entered (begun_by (r ∷ rs) n) (open_ids (r ∷ rs) b n) ≡ entered (ended_by (r ∷ rs) n) (open_ids (r ∷ rs) b m)
        held h =
            let rest = all_away rs spots.1 (others r rs h spots.1 behind.0) in
            front rest (n == r.first) refl ∙ sym (back rest (n == r.last) refl)
          where
            front : AllAway rs → (c : Bool) → (n == r.first) ≡ c → entered (begun_by (r ∷ rs) n) (open_ids (r ∷ rs) b n) ≡ r.id ∷ []
            front rest true e =
                let same : n ≡ r.first = eqb-true n r.first e in
                let no : is_open b n r ≡ false = not_so (is_open b n r) (λ o. (let q = open_holds b n r o in absurd (omega (arith, q.1, same)))) in
                ap (λ c. entered (if c then Some r.id else begun_by rs n) (open_ids (r ∷ rs) b n)) e
                ∙ ap (λ c. r.id ∷ (if c then r.id ∷ [] else open_ids rs b n)) no ∙ ap (λ l. r.id ∷ l) rest.open_none
            front rest false e =
                let low = h.low in
                let differ : n ≡ r.first → ⊥ = λ q. true≢false (sym (eq-eqb n r.first q) ∙ e) in
                let yes : is_open b n r ≡ true = is_open_so b n r h.block (strict r.first n low (λ q. differ (sym q))) h.high in
                ap (λ c. entered (if c then Some r.id else begun_by rs n) (open_ids (r ∷ rs) b n)) e
                ∙ ap (λ o. entered o (open_ids (r ∷ rs) b n)) rest.begun ∙ ap (λ c. if c then r.id ∷ [] else open_ids rs b n) yes
              where
                strict : (x y : ℕ) → x ≤ y → (x ≡ y → ⊥) → x < y
                strict zero zero l d = absurd (d refl)
                strict zero (suc y) l d = omega arith
                strict (suc x) zero l d = absurd (omega (arith, l))
                strict (suc x) (suc y) l d = let s = strict x y (omega (arith, l)) (λ q. d (ap suc q)) in omega (arith, s)

            back : AllAway rs → (c : Bool) → (n == r.last) ≡ c → entered (ended_by (r ∷ rs) n) (open_ids (r ∷ rs) b m) ≡ r.id ∷ []
            back rest true e =
                let same : n ≡ r.last = eqb-true n r.last e in
                let no : is_open b m r ≡ false = not_so (is_open b m r) (λ o. (let q = open_holds b m r o in absurd (omega (arith, q.2, same, less)))) in
                ap (λ c. entered (if c then Some r.id else ended_by rs n) (open_ids (r ∷ rs) b m)) e
                ∙ ap (λ c. r.id ∷ (if c then r.id ∷ [] else open_ids rs b m)) no ∙ ap (λ l. r.id ∷ l) rest.later_none
            back rest false e =
                let low = h.low in
                let high = h.high in
                let differ : n ≡ r.last → ⊥ = λ q. true≢false (sym (eq-eqb n r.last q) ∙ e) in
                let there : block_of p r.last ≡ Some b = spots.0.last_there ∙ ap Some h.block in
                let far : m ≤ r.last = ⊎_elim (λ l. absurd (differ (omega (arith, l, high)))) (λ l. l) (gap r.last there) in
                let yes : is_open b m r ≡ true = is_open_so b m r h.block (omega (arith, low, less)) far in
                ap (λ c. entered (if c then Some r.id else ended_by rs n) (open_ids (r ∷ rs) b m)) e
                ∙ ap (λ o. entered o (open_ids (r ∷ rs) b m)) rest.ended ∙ ap (λ c. if c then r.id ∷ [] else open_ids rs b m) yes

  -- nothing is open where the block begins, and where it ends
  open_before : (b n : ℕ) → ((s : ℕ) → block_of p s ≡ Some b → n ≤ s) → (rs : List TRegion) → EachRegion Spot rs → open_ids rs b n ≡ []
  open_before b n low [] spots = refl
  open_before b n low (r ∷ rs) spots =
      let no : is_open b n r ≡ false = not_so (is_open b n r) (λ o. (let q = open_holds b n r o in let l = low r.first (spots.0.first_there ∙ ap Some q.0) in absurd (omega (arith, q.1, l)))) in
      ap (λ c. if c then r.id ∷ [] else open_ids rs b n) no ∙ open_before b n low rs spots.1

  open_behind : (b n : ℕ) → ((s : ℕ) → block_of p s ≡ Some b → s < n) → (rs : List TRegion) → EachRegion Spot rs → open_ids rs b n ≡ []
  open_behind b n high [] spots = refl
  open_behind b n high (r ∷ rs) spots =
      let no : is_open b n r ≡ false = not_so (is_open b n r) (λ o. (let q = open_holds b n r o in let l = high r.last (spots.0.last_there ∙ ap Some q.0) in absurd (omega (arith, q.2, l)))) in
      ap (λ c. if c then r.id ∷ [] else open_ids rs b n) no ∙ open_behind b n high rs spots.1

module _ (p : TProgram) (numbered : Numbered p) (policies : ℕ) (regions : List TRegion) (are : AreRegions p policies regions) where
  spots : EachRegion (InBlock (block_of p)) regions
  spots = in_blocks p policies regions are

  behind : Pairs (Behind p) regions
  behind = pairs_of (Behind p) regions (λ i j d l m. (are.rising i j d l m, (are.apart i j d l m).0))

  mutual
    kind_is_paired : (i j : ℕ) (k : TKind) → Follow i (kind_statements k) → Follow j (kind_blocks k) → Part p i j (kind_statements k) (kind_blocks k) (kind_pairs k) → KindPaired regions k
    kind_is_paired i j (if_else c a b) f g h =
        let s = parts i (block_statements a) (else_statements b) f in
        let t = parts j (block_blocks a) (else_blocks b) g in
        let i' = i + length (block_statements a) in
        let j' = j + length (block_blocks a) in (
          block_is_paired i j a s.0 t.0 (part_first p i j (block_statements a) (else_statements b) (block_blocks a) (else_blocks b) (block_pairs a) (else_pairs b) (else_ranged i' j' b s.1 t.1) h),
          else_is_paired i' j' b s.1 t.1 (part_second p i j (block_statements a) (else_statements b) (block_blocks a) (else_blocks b) (block_pairs a) (else_pairs b) (block_ranged i j a s.0 t.0) h),
        )
    kind_is_paired i j (for_in x m n b) f g h = block_is_paired i j b f g h
    kind_is_paired i j (while_do c n b) f g h = block_is_paired i j b f g h
    kind_is_paired i j k f g h = tt

    else_is_paired : (i j : ℕ) (b : TElse) → Follow i (else_statements b) → Follow j (else_blocks b) → Part p i j (else_statements b) (else_blocks b) (else_pairs b) → ElsePaired regions b
    else_is_paired i j no_else f g h = tt
    else_is_paired i j (else_do b) f g h = block_is_paired i j b f g h

    block_is_paired : (i j : ℕ) (b : TBlock) → Follow i (block_statements b) → Follow j (block_blocks b) → Part p i j (block_statements b) (block_blocks b) (block_pairs b) → BlockPaired regions b
    block_is_paired i j (block id ss) f g h =
        let o = first_of id j (stmts_blocks ss) g in
        let z = i + length (stmts_statements ss) in
        let range = in_block_range p i z j (j + suc (length (stmts_blocks ss))) (stmts_pairs id ss) (block_ranged i j (block id ss) f g) h id o.0 (omega arith) in
        let none = open_before p id i (λ s e. (range s e).0) regions spots in
        subst (λ l. StmtsPaired regions l ss) none (stmts_are_paired id i (suc j) ss f o.1 (block_part p i j id ss h) (omega (arith, o.0)) (λ s e. (range s e).1))

    -- statements of the block b, of which none has a number from the end of these on
    stmts_are_paired : (b i j : ℕ) (ss : TStmts) → Follow i (stmts_statements ss) → Follow j (stmts_blocks ss) → Part p i j (stmts_statements ss) (stmts_blocks ss) (stmts_pairs b ss)
        → b < j → ((s : ℕ) → block_of p s ≡ Some b → s < i + length (stmts_statements ss)) → StmtsPaired regions (open_ids regions b i) ss
    stmts_are_paired b i j no_stmts f g h below end = open_behind p b i (λ s e. omega (arith, end s e)) regions spots
    stmts_are_paired b i j (more (stmt n line k) rest) f g h below end =
        let s = first_stands p b i j k rest n f g h below in
        let known = s.known in
        let next = i + suc (length (kind_statements k)) in
        let after = j + length (kind_blocks k) in
        let top = s.end in
        let here : block_of p i ≡ Some b = block_there p numbered.statements (i, b) (known.row.front, (kind_pairs k ++ stmts_pairs b rest) ++ known.row.back, known.row.is) in
        let gap = in_block_gap p i (next + length (stmts_statements rest)) j (after + length (stmts_blocks rest)) next after b (kind_pairs k) (stmts_pairs b rest)
        (omega arith) below known.inside known.others known.row in
        let cross : entered (begun_by regions i) (open_ids regions b i) ≡ entered (ended_by regions i) (open_ids regions b next) =
        crossed p b i next here (omega arith) gap regions spots behind in (
          kind_is_paired (suc i) j k s.own_statements s.own_blocks s.own,
          open_ids regions b next,
          subst (λ m. entered (begun_by regions m) (open_ids regions b i) ≡ entered (ended_by regions m) (open_ids regions b next)) (sym s.number) cross,
          stmts_are_paired b next after rest s.rest_statements s.rest_blocks (rest_part p b i j k rest known) (omega (arith, below)) (λ x e. omega (arith, end x e, top)),
        )

  -- all functions
  pub bodies_paired : (u : ℕ) (f : TFunction) → slice_get p.functions u ≡ Some f → BlockPaired regions f.body
  bodies_paired u f e = let s = bodies_stand p numbered u f e in block_is_paired s.first s.deep f.body s.statements s.blocks s.part
