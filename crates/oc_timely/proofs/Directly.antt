-- What stands directly in a region, and the regions that begin, are open and end at a statement of a list.
use Rattle.std.proofs.Common.{◌≡◌, ◌⊎◌, inl, inr, ℕ, suc, ◌<◌, ◌≤◌, Bool, true, false, true≢false, List, [], ◌∷◌, Option, Some, None, refl, sym, ap, ◌∙◌, subst, arith}
use Rattle.std.specs.Prelude.{◌&&◌, ◌==◌, if◌then◌else◌, nat_le}
use Rattle.oc_tree.specs.Tree.{TKind, TProgram}
use Rattle.oc_tree.specs.Checked.{same_block}
use Rattle.oc_tree.specs.Places.{Placed, block_of}
use Rattle.oc_tree.specs.Marked.{TRegion, TMarked, is_in_region}
use Rattle.oc_meaning.specs.Exec.{begun_by, ended_by}
use Rattle.oc_tree.specs.Members.{IsOf}
use Rattle.oc_timely.specs.Laid.{LaidKind, Static}
use Rattle.oc_timely.proofs.Lies.{up_kind, closed_kind}

pub begun_none : (rs : List TRegion) (n : ℕ) (r : TRegion) → begun_by rs n ≡ None → IsOf r rs → r.first ≡ n → ⊥
begun_none [] n r e h q = absurd h
begun_none (x ∷ rs) n r e h q = by (n == x.first) refl e h (begun_none rs n r)
  where
    by : (b : Bool) → (n == x.first) ≡ b → (if b then Some x.id else begun_by rs n) ≡ None → (r ≡ x) ⊎ IsOf r rs → (begun_by rs n ≡ None → IsOf r rs → r.first ≡ n → ⊥) → ⊥
    by true z k i rest = absurd (cc (sym k))
    by false z k (inl i) rest = let w : r.first ≡ x.first = ap (λ (y : TRegion). y.first) i in absurd (grind (arith, z, w, q))
    by false z k (inr i) rest = rest k i q

pub begun_some : (rs : List TRegion) (n q : ℕ) → begun_by rs n ≡ Some q → (r : TRegion) × IsOf r rs × (r.first ≡ n)
begun_some [] n q e = absurd (cc e)
begun_some (x ∷ rs) n q e = by (n == x.first) refl e (begun_some rs n q)
  where
    by : (b : Bool) → (n == x.first) ≡ b → (if b then Some x.id else begun_by rs n) ≡ Some q → (begun_by rs n ≡ Some q → (r : TRegion) × IsOf r rs × (r.first ≡ n)) →
        (r : TRegion) × IsOf r (x ∷ rs) × (r.first ≡ n)
    by true z k rest = (x, inl refl, grind (arith, z))
    by false z k rest = let r = rest k in (r.0, inr r.1, r.2)

pub ended_none : (rs : List TRegion) (n : ℕ) (r : TRegion) → ended_by rs n ≡ None → IsOf r rs → r.last ≡ n → ⊥
ended_none [] n r e h q = absurd h
ended_none (x ∷ rs) n r e h q = by (n == x.last) refl e h (ended_none rs n r)
  where
    by : (b : Bool) → (n == x.last) ≡ b → (if b then Some x.id else ended_by rs n) ≡ None → (r ≡ x) ⊎ IsOf r rs → (ended_by rs n ≡ None → IsOf r rs → r.last ≡ n → ⊥) → ⊥
    by true z k i rest = absurd (cc (sym k))
    by false z k (inl i) rest = let w : r.last ≡ x.last = ap (λ (y : TRegion). y.last) i in absurd (grind (arith, z, w, q))
    by false z k (inr i) rest = rest k i q

pub ended_some : (rs : List TRegion) (n q : ℕ) → ended_by rs n ≡ Some q → (r : TRegion) × IsOf r rs × (r.last ≡ n)
ended_some [] n q e = absurd (cc e)
ended_some (x ∷ rs) n q e = by (n == x.last) refl e (ended_some rs n q)
  where
    by : (b : Bool) → (n == x.last) ≡ b → (if b then Some x.id else ended_by rs n) ≡ Some q → (ended_by rs n ≡ Some q → (r : TRegion) × IsOf r rs × (r.last ≡ n)) →
        (r : TRegion) × IsOf r (x ∷ rs) × (r.last ≡ n)
    by true z k rest = (x, inl refl, grind (arith, z))
    by false z k rest = let r = rest k in (r.0, inr r.1, r.2)

-- a statement stands directly in a region
pub record Direct (p : TProgram) (r : TRegion) (s : ℕ) : Type 0 where
  pub there : block_of p s ≡ Some r.block
  pub low : r.first ≤ s
  pub high : s ≤ r.last

pub direct_of : (p : TProgram) (r : TRegion) (s : ℕ) → is_in_region p r s ≡ true → Direct p r s
direct_of p r s e = by (block_of p s) refl e
  where
    same : (b : ℕ) → (b == r.block) ≡ true → Some b ≡ Some r.block
    same b z = let n : b ≡ r.block = grind (arith, z) in ap Some n

    split : (x y z : Bool) → x && (y && z) ≡ true → (x ≡ true) × (y ≡ true) × (z ≡ true)
    split true true true q = (refl, refl, refl)
    split true true false q = absurd (true≢false (sym q))
    split true false z q = absurd (true≢false (sym q))
    split false y z q = absurd (true≢false (sym q))

    by : (o : Option ℕ) → block_of p s ≡ o → same_block o (Some r.block) && (nat_le r.first s && nat_le s r.last) ≡ true → Direct p r s
    by None q z = absurd (true≢false (sym z))
    by (Some b) q z =
        let k = split (b == r.block) (nat_le r.first s) (nat_le s r.last) z in record { there = q ∙ same b k.0; low = let a = k.1 in grind (arith, a); high = let a = k.2 in grind (arith, a) }

pub of_direct : (p : TProgram) (r : TRegion) (s : ℕ) → Direct p r s → is_in_region p r s ≡ true
of_direct p r s d = subst (λ o. same_block o (Some r.block) && (nat_le r.first s && nat_le s r.last) ≡ true) (sym d.there)
    (both (r.block == r.block) (nat_le r.first s) (nat_le s r.last) (grind arith) (let a = d.low in grind (arith, a)) (let a = d.high in grind (arith, a)))
  where
    both : (x y z : Bool) → x ≡ true → y ≡ true → z ≡ true → x && (y && z) ≡ true
    both true true true a b c = refl
    both true true false a b c = absurd (true≢false (sym c))
    both true false z a b c = absurd (true≢false (sym b))
    both false y z a b c = absurd (true≢false (sym a))

pub either : (k r : ℕ) → (r ≤ k) ⊎ (k < r)
either k r = grind arith

-- no region of the block is open at `n`
abbrev pub Clear : TMarked → ℕ → (b : ℕ) → Type 0
Clear m n b = (r : TRegion) → IsOf r m.regions → r.block ≡ b → r.first < n → n ≤ r.last → ⊥

-- this region of the block is
pub record OpenAt (m : TMarked) (r : TRegion) (n b : ℕ) : Type 0 where
  pub one : IsOf r m.regions
  pub block : r.block ≡ b
  pub before : r.first < n
  pub behind : n ≤ r.last

-- what is known of regions at the statement `id` of a block, with no other statement of it before `mid`
pub record AtStatement (m : TMarked) (b id mid : ℕ) : Type 0 where
  pub up : suc id ≤ mid
  -- the region that it stands in directly
  pub its_block : (r : TRegion) → Direct m.program r id → r.block ≡ b
  pub same : (r q : TRegion) → IsOf r m.regions → IsOf q m.regions → Direct m.program r id → Direct m.program q id → r ≡ q
  pub begins : (r : TRegion) → IsOf r m.regions → r.first ≡ id → Direct m.program r id
  -- none is open, and none begins or one begins and ends with it
  pub clear_on : Clear m id b → ((r : TRegion) → IsOf r m.regions → r.first ≡ id → mid ≤ r.last → ⊥) → Clear m mid b
  pub short : (y : ℕ) → ended_by m.regions id ≡ Some y → (r : TRegion) → IsOf r m.regions → r.first ≡ id → r.last ≡ id
  -- one begins with it and goes on
  pub starts : (r : TRegion) → IsOf r m.regions → r.first ≡ id → ended_by m.regions id ≡ None → OpenAt m r mid b
  -- where one is open no other begins; it goes on, or ends with it
  pub no_other : (r : TRegion) → OpenAt m r id b → (y : ℕ) → begun_by m.regions id ≡ Some y → ⊥
  pub goes_on : (r : TRegion) → OpenAt m r id b → ended_by m.regions id ≡ None → OpenAt m r mid b
  pub ends : (r : TRegion) → OpenAt m r id b → (y : ℕ) → ended_by m.regions id ≡ Some y → r.last ≡ id
  pub clear_behind : (r : TRegion) → OpenAt m r id b → (y : ℕ) → ended_by m.regions id ≡ Some y → Clear m mid b
  -- one that ends with it was open, or begins with it
  pub none_ends : Clear m id b → begun_by m.regions id ≡ None → (y : ℕ) → ended_by m.regions id ≡ Some y → ⊥

module _ (m : TMarked) (guarded : ℕ → Bool) (f : ℕ) (body : List Placed) (facts : Static m guarded f body) where
  abbrev p : TProgram
  p = m.program

  pub same_at : (r q : TRegion) (s : ℕ) → IsOf r m.regions → IsOf q m.regions → Direct p r s → Direct p q s → r ≡ q
  same_at r q s i j d e = facts.one_region r q s i j (of_direct p r s d) (of_direct p q s e)

  pub begins_at : (r : TRegion) (s : ℕ) → IsOf r m.regions → r.first ≡ s → Direct p r s
  begins_at r s i e = record { there = subst (λ t. block_of p t ≡ Some r.block) e (facts.region r i).1; low = omega (arith, e); high = let o = (facts.region r i).0 in omega (arith, o, e) }

  pub ends_at : (r : TRegion) (s : ℕ) → IsOf r m.regions → r.last ≡ s → Direct p r s
  ends_at r s i e = record { there = subst (λ t. block_of p t ≡ Some r.block) e (facts.region r i).2; low = let o = (facts.region r i).0 in omega (arith, o, e); high = omega (arith, e) }

  module _ (b id : ℕ) (k : TKind) (mid : ℕ) (laid : LaidKind p (suc id) k mid) (here : block_of p id ≡ Some b) where
    up : suc id ≤ mid
    up = up_kind p (suc id) k mid laid

    direct_here : (r : TRegion) → r.block ≡ b → r.first ≤ id → id ≤ r.last → Direct p r id
    direct_here r e l h = record { there = here ∙ ap Some (sym e); low = l; high = h }

    block_here : (r : TRegion) → Direct p r id → r.block ≡ b
    block_here r d = let e : Some r.block ≡ Some b = sym d.there ∙ here in cc e

    -- a statement of this block isn't inside
    pub beside : (s : ℕ) → block_of p s ≡ Some b → (s ≤ id) ⊎ (mid ≤ s)
    beside s e = go (either id s) (either s mid)
      where
        go : (s ≤ id) ⊎ (id < s) → (mid ≤ s) ⊎ (s < mid) → (s ≤ id) ⊎ (mid ≤ s)
        go (inl x) y = inl x
        go (inr x) (inl y) = inr y
        go (inr x) (inr y) = let q = (closed_kind p (suc id) k mid laid s id b x y e here).0 in absurd (omega (arith, q))

    clear_on : Clear m id b → ((r : TRegion) → IsOf r m.regions → r.first ≡ id → mid ≤ r.last → ⊥) → Clear m mid b
    clear_on c never r i e h l = go (beside r.first ((facts.region r i).1 ∙ ap Some e)) (either r.first id)
      where
        go : (r.first ≤ id) ⊎ (mid ≤ r.first) → (id ≤ r.first) ⊎ (r.first < id) → ⊥
        go (inr x) y = omega (arith, x, h)
        go (inl x) (inl y) = never r i (omega (arith, x, y)) l
        go (inl x) (inr y) = let u = up in c r i e y (omega (arith, l, u))

    -- it doesn't end inside
    reaches : (r : TRegion) → IsOf r m.regions → r.block ≡ b → id ≤ r.last → ended_by m.regions id ≡ None → mid ≤ r.last
    reaches r i e l z = go (beside r.last ((facts.region r i).2 ∙ ap Some e))
      where
        go : (r.last ≤ id) ⊎ (mid ≤ r.last) → mid ≤ r.last
        go (inl x) = absurd (ended_none m.regions id r z i (omega (arith, x, l)))
        go (inr x) = x

    -- the one that ends with it has what stands in it directly
    last_here : (y : ℕ) → ended_by m.regions id ≡ Some y → (r : TRegion) → IsOf r m.regions → Direct p r id → r.last ≡ id
    last_here y z r i d =
        let l = ended_some m.regions id y z in
        let same : r ≡ l.0 = same_at r l.0 id i l.1 d (ends_at l.0 id l.1 l.2) in ap (λ (v : TRegion). v.last) same ∙ l.2

    open_here : (r : TRegion) → OpenAt m r id b → Direct p r id
    open_here r o = let a = o.before in direct_here r o.block (omega (arith, a)) o.behind

    starts : (r : TRegion) → IsOf r m.regions → r.first ≡ id → ended_by m.regions id ≡ None → OpenAt m r mid b
    starts r i e z =
        let d = begins_at r id i e in let u = up in
        record { one = i; block = block_here r d; before = omega (arith, u, e); behind = reaches r i (block_here r d) d.high z }

    no_other : (r : TRegion) → OpenAt m r id b → (y : ℕ) → begun_by m.regions id ≡ Some y → ⊥
    no_other r o y n =
        let w = begun_some m.regions id y n in
        let a = o.before in
        let same : w.0 ≡ r = same_at w.0 r id w.1 o.one (begins_at w.0 id w.1 w.2) (open_here r o) in
        let e : w.0.first ≡ r.first = ap (λ (v : TRegion). v.first) same in
        let c = w.2 in
        omega (arith, a, e, c)

    goes_on : (r : TRegion) → OpenAt m r id b → ended_by m.regions id ≡ None → OpenAt m r mid b
    goes_on r o z =
        let u = up in let a = o.before in
        record { one = o.one; block = o.block; before = omega (arith, u, a); behind = reaches r o.one o.block o.behind z }

    clear_behind : (r : TRegion) → OpenAt m r id b → (y : ℕ) → ended_by m.regions id ≡ Some y → Clear m mid b
    clear_behind r o y z v i e h j = go (beside v.first ((facts.region v i).1 ∙ ap Some e))
      where
        go : (v.first ≤ id) ⊎ (mid ≤ v.first) → ⊥
        go (inr x) = omega (arith, x, h)
        go (inl x) = let u = up in let l = last_here y z v i (direct_here v e x (omega (arith, u, j))) in omega (arith, l, j, u)

    none_ends : Clear m id b → begun_by m.regions id ≡ None → (y : ℕ) → ended_by m.regions id ≡ Some y → ⊥
    none_ends c n y z = go (ended_some m.regions id y z)
      where
        go : (r : TRegion) × IsOf r m.regions × (r.last ≡ id) → ⊥
        go r = by (either r.0.first id)
          where
            d : Direct p r.0 id
            d = ends_at r.0 id r.1 r.2

            by : (id ≤ r.0.first) ⊎ (r.0.first < id) → ⊥
            by (inl h) = let l = d.low in begun_none m.regions id r.0 n r.1 (omega (arith, h, l))
            by (inr h) = c r.0 r.1 (block_here r.0 d) h d.high

    pub at_statement : AtStatement m b id mid
    at_statement = record {
      up = up;
      its_block = block_here;
      same = λ r q i j d e. same_at r q id i j d e;
      begins = λ r i e. begins_at r id i e;
      clear_on = clear_on;
      short = λ y z r i e. last_here y z r i (begins_at r id i e);
      starts = starts;
      no_other = no_other;
      goes_on = goes_on;
      ends = λ r o y z. last_here y z r o.one (open_here r o);
      clear_behind = clear_behind;
      none_ends = none_ends;
    }
