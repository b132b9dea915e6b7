-- Where a region begins in the tree: its statements follow each other up to its last one, and no other region begins among
-- them.
use Rattle.std.proofs.Common.{◌≡◌, ◌≤◌, ◌<◌, ◌⊎◌, inl, inr, ◌+◌, ◌-◌, ℕ, zero, suc, Bool, true, false, true≢false, List, [], ◌∷◌, ◌++◌, map, length, Option, Some, None, refl, sym, ap}
use Rattle.std.proofs.Common.{◌∙◌, subst, arith}
use Rattle.std.specs.Prelude.{◌==◌, ◌&&◌, ◌||◌, nat_le, slice_get, slice_index_or, if◌then◌else◌, flat_map}
use Rattle.std.specs.List.{list_any}
use Rattle.std.proofs.Math.Dec.{ltb}
use Rattle.std.proofs.lemmas.Bool.{eqb-true, eq-eqb, le-leb, ltb-true, ltb-false}
use Rattle.std.proofs.lemmas.Option.{none-some, same_Some}
use Rattle.oc_tree.specs.Tree.{TRight, right_value, right_sense, right_call, TKind, let_to, let_array, assign, assign_index, assign_deref, if_else, for_in, while_do, call_only, sense_only}
use Rattle.oc_tree.specs.Tree.{emit, fresh, consistent, return, TElse, no_else, else_do, stmt, TBlock, block, TStmts, no_stmts, more, TFunction, TProgram}
use Rattle.oc_tree.specs.declared.tree.VarId.TheVariants as variables
use Rattle.oc_tree.specs.Names.{Text}
use Rattle.oc_tree.specs.Numbers.{numbers_on, kind_statements, else_statements, block_statements, stmts_statements}
use Rattle.oc_tree.specs.Places.{Place as Spot, Placed, placed, block_of, behind, in_branch, in_loop, kind_placed, else_placed, block_placed, stmts_placed}
use Rattle.oc_tree.specs.Checked.{same_block}
use Rattle.oc_tree.specs.Marked.{TRegion, around, is_in_region, covers, AreRegions}
use Rattle.oc_tree.specs.Stack.{kind_slots, block_slots}
use Rattle.oc_meaning.specs.Exec.{begun_by, ended_by}
use Rattle.oc_code.specs.Scope.{Named, let_named, for_named, in_scope}
use Rattle.oc_code.specs.Formed.{marks}
use Rattle.oc_code.proofs.Lawful.{all_access, right_lawful, fits_at, kind_lawful, else_lawful, block_lawful, stmts_lawful}
use Rattle.oc_desugar.proofs.NumberLists.{Follow, first_of, parts}
use Rattle.oc_formed.proofs.BodiesMarked.{KindMarked, ElseMarked, BlockMarked, StmtsMarked}
use Rattle.oc_checked.proofs.RegionsApart.{InBlock}
use Rattle.oc_writes.proofs.Standing.{Each, each_front, each_back}
use Rattle.oc_watch.proofs.Compared.{alone_on, alone, region_alone, begins, kind_counted, else_counted, block_counted, stmts_counted}
use Rattle.oc_watch.proofs.Summed.{picked}

-- ---- regions by their places

pub index_is : (rs : List TRegion) (i : ℕ) (r d : TRegion) → slice_get rs i ≡ Some r → slice_index_or rs i d ≡ r
index_is [] i r d e = absurd (none-some r e)
index_is (q ∷ rs) zero r d e = same_Some q r e
index_is (q ∷ rs) (suc i) r d e = index_is rs i r d e

pub index_below : (rs : List TRegion) (i : ℕ) (r : TRegion) → slice_get rs i ≡ Some r → i < length rs
index_below [] i r e = absurd (none-some r e)
index_below (q ∷ rs) zero r e = omega arith
index_below (q ∷ rs) (suc i) r e = let l = index_below rs i r e in omega (arith, l)

-- the region that begins with a statement
record Starts (rs : List TRegion) (n id : ℕ) : Type 0 where
  place : ℕ
  region : TRegion
  at : slice_get rs place ≡ Some region
  first : n ≡ region.first
  named : region.id ≡ id

starts : (rs : List TRegion) (n id : ℕ) → begun_by rs n ≡ Some id → Starts rs n id
starts [] n id e = absurd (none-some id e)
starts (r ∷ rs) n id e = go (n == r.first) refl e (starts rs n id)
  where
    go : (b : Bool) → (n == r.first) ≡ b → (if b then Some r.id else begun_by rs n) ≡ Some id → (begun_by rs n ≡ Some id → Starts rs n id) → Starts (r ∷ rs) n id
    go true is e rest = record { place = 0; region = r; at = refl; first = eqb-true n r.first is; named = same_Some r.id id e }
    go false is e rest = let s = rest e in record { place = suc s.place; region = s.region; at = s.at; first = s.first; named = s.named }

-- where no region ends, that of a place doesn't
not_ended : (rs : List TRegion) (j : ℕ) (r : TRegion) (n : ℕ) → slice_get rs j ≡ Some r → ended_by rs n ≡ None → (n == r.last) ≡ false
not_ended [] j r n at e = absurd (none-some r at)
not_ended (q ∷ rs) j r n at e = go (n == q.last) refl e j at (λ j at e. not_ended rs j r n at e)
  where
    go : (b : Bool) → (n == q.last) ≡ b → (if b then Some q.id else ended_by rs n) ≡ None → (j : ℕ) → slice_get (q ∷ rs) j ≡ Some r
        → ((j : ℕ) → slice_get rs j ≡ Some r → ended_by rs n ≡ None → (n == r.last) ≡ false) → (n == r.last) ≡ false
    go true is e j at rest = absurd (none-some q.id (sym e))
    go false is e zero at rest = ap (λ r. n == r.last) (sym (same_Some q r at)) ∙ is
    go false is e (suc j) at rest = rest j at e

-- numbers count from 1
number_of : (i : ℕ) (rs : List TRegion) (j : ℕ) (r : TRegion) → map (λ r. r.id) rs ≡ numbers_on i (length rs) → slice_get rs j ≡ Some r → r.id ≡ i + j
number_of i [] j r h at = absurd (none-some r at)
number_of i (q ∷ rs) zero r h at = let own : q.id ≡ i = cc h in let s = ap (λ r. r.id) (same_Some q r at) in omega (arith, own, s)
number_of i (q ∷ rs) (suc j) r h at = let others : map (λ r. r.id) rs ≡ numbers_on (suc i) (length rs) = cc h in let s = number_of (suc i) rs j r others at in omega (arith, s)

-- ---- numbers of statements that stand directly in a list

abbrev Has : ℕ → TStmts → Type 0
Has x no_stmts = ⊥
Has x (more (stmt n line k) rest) = (x ≡ n) ⊎ Has x rest

-- they rise
lowest : (i : ℕ) (ss : TStmts) (x : ℕ) → Follow i (stmts_statements ss) → Has x ss → i ≤ x
lowest i no_stmts x f h = absurd h
lowest i (more (stmt n line k) rest) x f (inl e) = let o = first_of n i (kind_statements k ++ stmts_statements rest) f in omega (arith, e, o.0)
lowest i (more (stmt n line k) rest) x f (inr l) = let s = parts i (n ∷ kind_statements k) (stmts_statements rest) f in let le = lowest (i + length (n ∷ kind_statements k)) rest x s.1 l in
    omega (arith, le)

module _ (p : TProgram) (regions : List TRegion) (policies : ℕ) (are : AreRegions p policies regions) where
  module _ (j : ℕ) (r : TRegion) (at : slice_get regions j ≡ Some r) where
    pub in_block : InBlock (block_of p) r
    in_block =
        let e = are.each j r (index_below regions j r at) in
        let i = index_is regions j r r at in
        record {
          ordered = subst (λ q. q.first ≤ q.last) i e.ordered;
          first_there = subst (λ (q : TRegion). block_of p q.first ≡ Some q.block) i e.first_there;
          last_there = subst
              (λ (q : TRegion). block_of p q.last ≡ Some q.block) i e.last_there;
        }

    -- while the region is open its last statement is still to come
    last_in : (ss : TStmts) (o : ℕ) → 1 ≤ o → StmtsMarked (r ∷ []) o ss → Has r.last ss
    last_in no_stmts o le h = absurd (omega (arith, le, h))
    last_in (more (stmt n line k) rest) o le h = go (n == r.last) refl h.2 (λ l. last_in rest h.1 l h.3)
      where
        go : (b : Bool) → (n == r.last) ≡ b → o + marks (begun_by (r ∷ []) n) ≡ h.1 + marks (if b then Some r.id else None) → (1 ≤ h.1 → Has r.last rest) → (r.last ≡ n) ⊎ Has r.last rest
        go true is e later = inl (sym (eqb-true n r.last is))
        go false is e later = inr (later (omega (arith, le, e)))

    in_it : (n : ℕ) → block_of p n ≡ Some r.block → r.first ≤ n → n ≤ r.last → is_in_region p r n ≡ true
    in_it n there from to =
        ap (λ o. same_block o (Some r.block) && (nat_le r.first n && nat_le n r.last)) there
        ∙ ap (λ c. c && (nat_le r.first n && nat_le n r.last)) (eq-eqb r.block r.block refl)
        ∙ ap (λ c. c && nat_le n r.last) (le-leb r.first n from)
        ∙ le-leb n r.last to

    -- all that follow stand in its block
    abbrev InIt : TStmts → Type 0
    InIt no_stmts = Unit {0}
    InIt (more (stmt n line k) rest) = (block_of p n ≡ Some r.block) × InIt rest

    below_last : (i n line : ℕ) (k : TKind) (rest : TStmts) → Follow i (stmts_statements (more (stmt n line k) rest)) → Has r.last (more (stmt n line k) rest) → n ≤ r.last
    below_last i n line k rest f (inl e) = omega (arith, e)
    below_last i n line k rest f (inr l) =
        let o = first_of n i (kind_statements k ++ stmts_statements rest) f in
        let s = parts i (n ∷ kind_statements k) (stmts_statements rest) f in
        let le = lowest (i + length (n ∷ kind_statements k)) rest r.last s.1 l in
        omega (arith, le, o.0)

    left_open : (n o left : ℕ) → 1 ≤ o → ended_by regions n ≡ None → o + marks (begun_by (r ∷ []) n) ≡ left + marks (ended_by (r ∷ []) n) → 1 ≤ left
    left_open n o left le none e =
        let z : marks (ended_by (r ∷ []) n) ≡ 0 = ap (λ b. marks (if b then Some r.id else None)) (not_ended regions j r n at none) in
        omega (arith, le, e, z)

    -- no other region begins with one of its statements
    none_begun : (n : ℕ) → r.first < n → is_in_region p r n ≡ true → begun_by regions n ≡ None
    none_begun n lt inside = go (begun_by regions n) refl
      where
        apart : (l : ℕ) (q : TRegion) → slice_get regions l ≡ Some q → n ≡ q.first → ⊥
        apart l q is e = by (ltb j l) refl
          where
            covered : covers p r q.first ≡ true
            covered = ap (λ c. c || list_any (is_in_region p r) (around (placed p q.first))) (ap (is_in_region p r) (sym e) ∙ inside)

            equal : j ≡ l → ⊥
            equal same = let s : r ≡ q = same_Some r q (sym at ∙ ap (slice_get regions) same ∙ is) in let f = ap (λ r. r.first) s in omega (arith, lt, e, f)

            by : (b : Bool) → ltb j l ≡ b → ⊥
            by true t =
                let pair = are.apart j l r (ltb-true j l t) (index_below regions l q is) in
                let a : covers p r q.first ≡ false = subst (λ q. covers p r q.first ≡ false) (index_is regions l q r is)
                (subst (λ c. covers p c (slice_index_or regions l r).first ≡ false) (index_is regions j r r at) pair.0) in
                true≢false (sym covered ∙ a)
            by false t = less (ltb l j) refl
              where
                less : (b : Bool) → ltb l j ≡ b → ⊥
                less true u =
                    let rise = are.rising l j r (ltb-true l j u) (index_below regions j r at) in
                    let a : q.first < r.first = subst (λ c. q.first < c.first) (index_is regions j r r at)
                    (subst (λ c. c.first < (slice_index_or regions j r).first) (index_is regions l q r is) rise) in
                    omega (arith, a, lt, e)
                less false u = equal (omega (arith, ltb-false j l t, ltb-false l j u))

        go : (o : Option ℕ) → begun_by regions n ≡ o → o ≡ None
        go None e = refl
        go (Some id) e = let s = starts regions n id e in absurd (apart s.place s.region s.at s.first)

    -- behind its first statement
    taken_on : (i : ℕ) (ss : TStmts) (o : ℕ) → 1 ≤ o → r.first < i → Follow i (stmts_statements ss) → InIt ss → StmtsMarked (r ∷ []) o ss → picked regions (is_in_region p r) ss × alone regions ss
    taken_on i no_stmts o le lt f there h = (tt, tt)
    taken_on i (more (stmt n line k) rest) o le lt f there h =
        let own = first_of n i (kind_statements k ++ stmts_statements rest) f in
        let s = parts i (n ∷ kind_statements k) (stmts_statements rest) f in
        let here = in_it n there.0 (omega (arith, lt, own.0)) (below_last i n line k rest f (last_in (more (stmt n line k) rest) o le h)) in
        let later = go (ended_by regions n) refl (λ none. taken_on (i + length (n ∷ kind_statements k)) rest h.1 (left_open n o h.1 le none h.2) (omega (arith, lt)) s.1 there.1 h.3) in
        ((here, later.0), (none_begun n (omega (arith, lt, own.0)) here, later.1))
      where
        go : (e : Option ℕ) → ended_by regions n ≡ e → (ended_by regions n ≡ None → picked regions (is_in_region p r) rest × alone regions rest)
            → alone_on e (picked regions (is_in_region p r) rest) × alone_on e (alone regions rest)
        go None is on = on is
        go (Some x) is on = (tt, tt)

    -- from its first statement on
    first_taken : (i n line : ℕ) (k : TKind) (rest : TStmts) (o : ℕ) → n ≡ r.first → Follow i (stmts_statements (more (stmt n line k) rest)) → InIt (more (stmt n line k) rest)
        → StmtsMarked (r ∷ []) o (more (stmt n line k) rest) → picked regions (is_in_region p r) (more (stmt n line k) rest) × region_alone regions (more (stmt n line k) rest)
    first_taken i n line k rest o is f there h =
        let own = first_of n i (kind_statements k ++ stmts_statements rest) f in
        let s = parts i (n ∷ kind_statements k) (stmts_statements rest) f in
        let b : marks (begun_by (r ∷ []) n) ≡ 1 = ap (λ b. marks (if b then Some r.id else None)) (eq-eqb n r.first is) in
        let here = in_it n there.0 (omega (arith, is)) (omega (arith, is, in_block.ordered)) in
        let later = go (ended_by regions n) refl (λ none. taken_on (i + length (n ∷ kind_statements k)) rest h.1 (open_now b none) (omega (arith, is, own.0)) s.1 there.1 h.3) in
        ((here, later.0), later.1)
      where
        open_now : marks (begun_by (r ∷ []) n) ≡ 1 → ended_by regions n ≡ None → 1 ≤ h.1
        open_now b none =
            let z : marks (ended_by (r ∷ []) n) ≡ 0 = ap (λ b. marks (if b then Some r.id else None)) (not_ended regions j r n at none) in
            omega (arith, b, z, h.2)

        go : (e : Option ℕ) → ended_by regions n ≡ e → (ended_by regions n ≡ None → picked regions (is_in_region p r) rest × alone regions rest)
            → alone_on e (picked regions (is_in_region p r) rest) × alone_on e (alone regions rest)
        go None is on = on is
        go (Some x) is on = (tt, tt)

  -- ---- everywhere

  module _ (Slots : List Named → Type 0) (lets : (γ : List Named) (x : Text) (s w : ℕ) (rest : TStmts) → Slots γ → Slots (let_named x s w rest ∷ γ))
      (fors : (γ : List Named) (x : Text) (s : ℕ) → Slots γ → Slots (for_named x s ∷ γ)) (uses : ℕ → Bool) (P : Placed → Type 0) (Home : TRegion → Type 0)
      (homes : (a : Placed) (j : ℕ) (r : TRegion) → slice_get regions j ≡ Some r → P a → a.id ≡ r.first → Home r) where
    -- what holds where the region of a number begins
    pub record Begun (id : ℕ) (γ : List Named) (s : ℕ) (ss : TStmts) : Type 0 where
      pub region : TRegion
      pub at : slice_get regions (id - 1) ≡ Some region
      pub begun : begins regions id ss
      pub single : region_alone regions ss
      pub taken : picked regions (is_in_region p region) ss
      pub home : Home region
      pub slots : Slots γ
      pub counted : stmts_counted uses γ s ss
      pub spot : Spot
      pub each : Each P (stmts_placed spot ss)

    -- each statement is found in the block where it stands
    abbrev Here : Placed → Type 0
    Here a = (block_of p a.id ≡ Some a.at.block) × P a

    abbrev Lawful : List Named → ℕ → TStmts → Type 0
    Lawful = stmts_lawful regions all_access (λ c. Unit {0}) Begun

    abbrev Marked : TStmts → Type 0
    Marked ss = (j : ℕ) (r : TRegion) → slice_get regions j ≡ Some r → (o : ℕ) × StmtsMarked (r ∷ []) o ss

    own_each : (xs : List Placed) → Each Here xs → Each P xs
    own_each [] h = tt
    own_each (a ∷ xs) h = (h.0.1, own_each xs h.1)

    all_in : (r : TRegion) (j : ℕ) (is : slice_get regions j ≡ Some r) (at : Spot) (ss : TStmts) → at.block ≡ r.block → Each Here (stmts_placed at ss) → InIt j r is ss
    all_in r j is at no_stmts e h = tt
    all_in r j is at (more (stmt n line k) rest) e h = (h.0.0 ∙ ap Some e, all_in r j is (behind at n k) rest e (each_back Here (kind_placed at n k) (stmts_placed (behind at n k) rest) h.1))

    begun_here : (γ : List Named) (s : ℕ) (at : Spot) (i n line : ℕ) (k : TKind) (rest : TStmts) → Slots γ → Follow i (stmts_statements (more (stmt n line k) rest))
        → Marked (more (stmt n line k) rest) → stmts_counted uses γ s (more (stmt n line k) rest) → Each Here (stmts_placed at (more (stmt n line k) rest)) → (o : Option ℕ) → begun_by
        regions n ≡ o → fits_at regions all_access (λ c. Unit {0}) Begun o γ s (more (stmt n line k) rest)
    begun_here γ s at i n line k rest slots f m counted h None e = tt
    begun_here γ s at i n line k rest slots f m counted h (Some id) e =
        let b = starts regions n id e in
        let r = b.region in
        let same : id - 1 ≡ b.place = omega (arith, b.named, number_of 1 regions b.place r are.numbered b.at) in
        let block_is : at.block ≡ r.block = same_Some at.block r.block (sym h.0.0 ∙ ap (block_of p) b.first ∙ (in_block b.place r b.at).first_there) in
        let mark = m b.place r b.at in
        let t = first_taken b.place r b.at i n line k rest mark.0 b.first f (all_in r b.place b.at at (more (stmt n line k) rest) block_is h) mark.1 in
        record {
          region = r;
          at = ap (slice_get regions) same ∙ b.at;
          begun = e;
          single = t.1;
          taken = t.0;
          home = homes (record { id = n; line = line; kind = k; at = at }) b.place r b.at h.0.1 b.first;
          slots = slots;
          counted = counted;
          spot = at;
          each = own_each (stmts_placed at (more (stmt n line k) rest)) h;
        }

    slots_behind : (γ : List Named) (s : ℕ) (k : TKind) (rest : TStmts) → Slots γ → Slots (in_scope k s rest γ)
    slots_behind γ s (let_to m x t r) rest h = lets γ x s 1 rest h
    slots_behind γ s (let_array m x t z n) rest h = lets γ x (s + 1) n rest h
    slots_behind γ s k rest h = h

    abbrev KindM : TKind → Type 0
    KindM k = (j : ℕ) (r : TRegion) → slice_get regions j ≡ Some r → KindMarked (r ∷ []) k

    right_free : (r : TRight) → right_lawful (λ c. Unit {0}) r
    right_free (right_value e) = tt
    right_free (right_sense x) = tt
    right_free (right_call c) = tt

    mutual
      kind_begun : (γ : List Named) (s : ℕ) (at : Spot) (i n : ℕ) (k : TKind) → Slots γ → Follow i (kind_statements k) → KindM k → kind_counted uses γ s k → Each Here (kind_placed at n k)
          → kind_lawful regions all_access (λ c. Unit {0}) Begun γ s k
      kind_begun γ s at i n (let_to m x t r) slots f mark c h = right_free r
      kind_begun γ s at i n (let_array m x t z l) slots f mark c h = tt
      kind_begun γ s at i n (assign x r) slots f mark c h = (right_free r, refl)
      kind_begun γ s at i n (assign_index x e r) slots f mark c h = (right_free r, refl)
      kind_begun γ s at i n (assign_deref x r) slots f mark c h = (right_free r, refl)
      kind_begun γ s at i n (if_else e a b) slots f mark c h =
          let w = parts i (block_statements a) (else_statements b) f in (
            block_begun γ s (in_branch at n) i a slots w.0 (λ j r is. (mark j r is).0) c.1 (each_front Here (block_placed (in_branch at n) a) (else_placed (in_branch at n) b) h),
            else_begun γ (s + block_slots a) (in_branch at n) (i + length (block_statements a)) b slots w.1 (λ j r is. (mark j r is).1) c.2
                (each_back Here (block_placed (in_branch at n) a) (else_placed (in_branch at n) b) h),
          )
      kind_begun γ s at i n (for_in x a d b) slots f mark c h = block_begun (for_named x s ∷ γ) (s + 1) (in_loop at n ((x, variables.Declared n) ∷ [])) i b (fors γ x s slots) f mark c h
      kind_begun γ s at i n (while_do e l b) slots f mark c h = block_begun γ (s + 1) (in_loop at n []) i b slots f mark c.1 h
      kind_begun γ s at i n (call_only k) slots f mark c h = tt
      kind_begun γ s at i n (sense_only x) slots f mark c h = tt
      kind_begun γ s at i n (emit q e) slots f mark c h = tt
      kind_begun γ s at i n (fresh x) slots f mark c h = tt
      kind_begun γ s at i n (consistent x l) slots f mark c h = tt
      kind_begun γ s at i n (return e) slots f mark c h = tt

      else_begun : (γ : List Named) (s : ℕ) (at : Spot) (i : ℕ) (b : TElse) → Slots γ → Follow i (else_statements b)
          → ((j : ℕ) (r : TRegion) → slice_get regions j ≡ Some r → ElseMarked (r ∷ []) b) → else_counted uses γ s b → Each Here (else_placed at b) → else_lawful regions all_access
          (λ c. Unit {0}) Begun γ s b
      else_begun γ s at i no_else slots f mark c h = tt
      else_begun γ s at i (else_do b) slots f mark c h = block_begun γ s at i b slots f mark c h

      pub block_begun : (γ : List Named) (s : ℕ) (at : Spot) (i : ℕ) (b : TBlock) → Slots γ → Follow i (block_statements b)
          → ((j : ℕ) (r : TRegion) → slice_get regions j ≡ Some r → BlockMarked (r ∷ []) b) → block_counted uses γ s b → Each Here (block_placed at b) → block_lawful regions all_access
          (λ c. Unit {0}) Begun γ s b
      block_begun γ s at i (block id ss) slots f mark c h = stmts_begun γ s (record at { block = id }) i ss slots f (λ j r is. (0, mark j r is)) c h

      stmts_begun : (γ : List Named) (s : ℕ) (at : Spot) (i : ℕ) (ss : TStmts) → Slots γ → Follow i (stmts_statements ss) → Marked ss → stmts_counted uses γ s ss
          → Each Here (stmts_placed at ss) → stmts_lawful regions all_access (λ c. Unit {0}) Begun γ s ss
      stmts_begun γ s at i no_stmts slots f mark c h = tt
      stmts_begun γ s at i (more (stmt n line k) rest) slots f mark c h =
          let own = first_of n i (kind_statements k ++ stmts_statements rest) f in
          let w = parts (suc i) (kind_statements k) (stmts_statements rest) own.1 in (
            begun_here γ s at i n line k rest slots f mark c h (begun_by regions n) refl,
            kind_begun γ s at (suc i) n k slots w.0 (λ j r is. (mark j r is).1.0) c.1 (each_front Here (kind_placed at n k) (stmts_placed (behind at n k) rest) h.1),
            stmts_begun (in_scope k s rest γ) (s + kind_slots k) (behind at n k) (suc i + length (kind_statements k)) rest (slots_behind γ s k rest slots) w.1
                (λ j r is. ((mark j r is).1.1, (mark j r is).1.3)) c.2 (each_back Here (kind_placed at n k) (stmts_placed (behind at n k) rest) h.1),
          )

-- the numbers of the statements of a function follow each other
pub follows : (i : ℕ) (fs : List TFunction) (u : ℕ) (f : TFunction) → slice_get fs u ≡ Some f → Follow i (flat_map (λ g. block_statements g.body) fs) → (k : ℕ) × Follow k (block_statements f.body)
follows i [] u f e h = absurd (none-some f e)
follows i (g ∷ fs) zero f e h =
    let w = parts i (block_statements g.body) (flat_map (λ g. block_statements g.body) fs) h in
    (i, subst (λ (g : TFunction). Follow i (block_statements g.body)) (same_Some g f e) w.0)
follows i (g ∷ fs) (suc u) f e h =
    let w = parts i (block_statements g.body) (flat_map (λ g. block_statements g.body) fs) h in
    follows (i + length (block_statements g.body)) fs u f e w.1
