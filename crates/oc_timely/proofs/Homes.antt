-- Where a set's block stands in its function, all tags that a run of the function tells are of later instances than those before.
use Rattle.std.proofs.Common.{◌≡◌, ◌⊎◌, inl, inr, ℕ, ◌+◌, ◌≤◌, ◌==◌, Bool, true, false, List, [], ◌∷◌, Option, Some, None, refl, ap, sym, ◌∙◌, arith}
use Rattle.std.specs.Prelude.{ℤ, ◌||◌, slice_get, unwrap_or, if◌then◌else◌}
use Rattle.std.proofs.lemmas.Bool.{eqb-true, eq-eqb, or_right}
use Rattle.std.proofs.lemmas.Option.{none-some, same_Some}
use Rattle.oc_tree.specs.Names.{Text}
use Rattle.oc_tree.specs.Tree.{TKind, if_else, for_in, while_do, consistent, TElse, no_else, else_do, stmt, TBlock, block, TStmts, no_stmts, more, TFunction, TProgram}
use Rattle.oc_tree.specs.declared.tree.VarId.TheVariants as variables
use Rattle.oc_tree.specs.Checked.{Group, IsChecked}
use Rattle.oc_tree.specs.Marked.{TRegion}
use Rattle.oc_tree.specs.Places.{Place as Spot, Placed, behind, in_branch, in_loop, at_start, kind_placed, else_placed, block_placed, stmts_placed}
use Rattle.oc_meaning.specs.Blocks.{kind_notes, else_notes, block_notes, stmts_notes, or_first, kind_home, else_home, block_home, stmts_home, set_home}
use Rattle.oc_meaning.specs.Store.{Event, Store, Binding}
use Rattle.oc_meaning.specs.Exec.{Passed, Outcome, kind_run, else_run, block_run, stmts_run}
use Rattle.oc_meaning.specs.Run.{call_to}
use Rattle.oc_tree.specs.Members.{IsOf}
use Rattle.oc_flow.proofs.Fixpoint.{Ranked}
use Rattle.oc_timely.specs.Modes.{own_placed}
use Rattle.oc_timely.proofs.Away.{calls_away, fits, AllFit, kind_fits, else_fits, block_fits, stmts_fit}
use Rattle.oc_timely.proofs.Innermost.{NoneNoted, else_clear, block_clear, own_clear, stmts_clear, home_there}
use Rattle.oc_laws.proofs.Members.{of_left, of_right}
use Rattle.oc_timely.proofs.Tagged.{Since, SinceOut, Fits, KindFits, ElseFits, BlockFits, StmtsFit, kind_since, else_since, block_since, stmts_since}

-- ---- homes

pub split_first : (a b : Option ℕ) (h : ℕ) → or_first a b ≡ Some h → (a ≡ Some h) ⊎ ((a ≡ None) × (b ≡ Some h))
split_first None b h e = inr (refl, e)
split_first (Some x) b h e = inl e

-- what has a home of so many annotations has so many
mutual
  pub kind_many : (k : ℤ) (n h : ℕ) (s : TKind) → kind_home k n s ≡ Some h → n ≤ kind_notes k s
  kind_many k n h (if_else c a b) e = by (split_first (block_home k n a) (else_home k n b) h e) (block_many k n h a) (else_many k n h b)
    where
      by : (block_home k n a ≡ Some h) ⊎ ((block_home k n a ≡ None) × (else_home k n b ≡ Some h)) → (block_home k n a ≡ Some h → n ≤ block_notes k a) →
          (else_home k n b ≡ Some h → n ≤ else_notes k b) → n ≤ block_notes k a + else_notes k b
      by (inl l) f g = let x = f l in omega (arith, x)
      by (inr r) f g = let x = g r.1 in omega (arith, x)
  kind_many k n h (for_in x c d b) e = block_many k n h b e
  kind_many k n h (while_do c t b) e = block_many k n h b e
  kind_many k n h s e = absurd (none-some h e)

  pub else_many : (k : ℤ) (n h : ℕ) (b : TElse) → else_home k n b ≡ Some h → n ≤ else_notes k b
  else_many k n h no_else e = absurd (none-some h e)
  else_many k n h (else_do b) e = block_many k n h b e

  pub block_many : (k : ℤ) (n h : ℕ) (b : TBlock) → block_home k n b ≡ Some h → n ≤ block_notes k b
  block_many k n h (block id ss) e = by (n == stmts_notes k ss) refl e
    where
      by : (t : Bool) → (n == stmts_notes k ss) ≡ t → (if t then or_first (stmts_home k n ss) (Some id) else None) ≡ Some h → n ≤ stmts_notes k ss
      by true t q = let z = eqb-true n (stmts_notes k ss) t in omega (arith, z)
      by false t q = absurd (none-some h q)

  pub stmts_many : (k : ℤ) (n h : ℕ) (ss : TStmts) → stmts_home k n ss ≡ Some h → n ≤ stmts_notes k ss
  stmts_many k n h no_stmts e = absurd (none-some h e)
  stmts_many k n h (more (stmt id line s) rest) e = by (split_first (kind_home k n s) (stmts_home k n rest) h e) (kind_many k n h s) (stmts_many k n h rest)
    where
      by : (kind_home k n s ≡ Some h) ⊎ ((kind_home k n s ≡ None) × (stmts_home k n rest ≡ Some h)) → (kind_home k n s ≡ Some h → n ≤ kind_notes k s) →
          (stmts_home k n rest ≡ Some h → n ≤ stmts_notes k rest) → n ≤ kind_notes k s + stmts_notes k rest
      by (inl l) f g = let x = f l in omega (arith, x)
      by (inr r) f g = let x = g r.1 in omega (arith, x)

-- the home of a block with all annotations: that of a statement, or the block itself
pub block_split : (k : ℤ) (n h id : ℕ) (ss : TStmts) → block_home k n (block id ss) ≡ Some h → (stmts_home k n ss ≡ Some h) ⊎ ((stmts_home k n ss ≡ None) × (id ≡ h))
block_split k n h id ss e = by (n == stmts_notes k ss) e
  where
    last : (stmts_home k n ss ≡ Some h) ⊎ ((stmts_home k n ss ≡ None) × (Some id ≡ Some h)) → (stmts_home k n ss ≡ Some h) ⊎ ((stmts_home k n ss ≡ None) × (id ≡ h))
    last (inl l) = inl l
    last (inr r) = inr (r.0, same_Some id h r.1)

    by : (t : Bool) → (if t then or_first (stmts_home k n ss) (Some id) else None) ≡ Some h → (stmts_home k n ss ≡ Some h) ⊎ ((stmts_home k n ss ≡ None) × (id ≡ h))
    by true q = last (split_first (stmts_home k n ss) (Some id) h q)
    by false q = absurd (none-some h q)

-- ---- parts of a function

module _ (p : TProgram) (groups : List Group) (checked : IsChecked p groups) (ranked : Ranked p) (regions : List TRegion) (f : ℕ) (g : TFunction) (at : slice_get p.functions f ≡ Some g) (k : ℤ)
    (depth : ℕ) where
  abbrev pub call_at : Text → List Passed → Store → Outcome
  call_at = call_to p regions depth

  abbrev pub home : ℤ → ℕ
  home = set_home g.body

  abbrev pub body : List Placed
  body = block_placed (at_start g) g.body

  abbrev pub Within : List Placed → Type 0
  Within bs = (b : Placed) → IsOf b bs → IsOf b body

  -- any statement, and none
  abbrev pub Any : ℕ → Type 0
  Any n = Unit {0}

  abbrev pub Never : ℕ → Type 0
  Never n = ⊥

  module _ (older : List Event) (c : ℕ) where
    clear_fit : (i : Bool) (bs : List Placed) → Within bs → NoneNoted k bs → AllFit p groups checked ranked regions f g at k older c Never call_at home i bs
    clear_fit i bs sub none b o j l =
        fits p groups checked ranked regions f g at k older c Never depth (calls_away p groups checked ranked regions f g at k older c Never depth) f g at (omega arith) b (sub b o) j
        (λ x e q. absurd (none b o x e))

    -- what has no annotation of the set tells no tag of it
    pub clear_kind : (i : Bool) (spot : Spot) (id line : ℕ) (s : TKind) → Within (own_placed spot id line s) → NoneNoted k (own_placed spot id line s) → (env : List Binding) (σ : Store) →
        Since p f g k older c Never i σ → SinceOut p f g k older c Never i (kind_run p.names regions call_at home env id s σ)
    clear_kind i spot id line s sub none env σ h =
        kind_since p f g k older c Never regions call_at home i env id s σ (clear_fit i (own_placed spot id line s) sub none _ (inl refl) i (λ e. e))
        (kind_fits p groups checked ranked regions f g at k older c Never call_at home i spot id s (λ b o. clear_fit i (own_placed spot id line s) sub none b (inr o))) h

    pub clear_else : (i : Bool) (spot : Spot) (b : TElse) → Within (else_placed spot b) → NoneNoted k (else_placed spot b) → (env : List Binding) (σ : Store) → Since p f g k older c Never i σ →
        SinceOut p f g k older c Never i (else_run p.names regions call_at home env b σ)
    clear_else i spot b sub none env σ h =
        else_since p f g k older c Never regions call_at home i env b σ
        (else_fits p groups checked ranked regions f g at k older c Never call_at home i spot b (clear_fit i (else_placed spot b) sub none)) h

    pub clear_block : (i : Bool) (spot : Spot) (b : TBlock) → Within (block_placed spot b) → NoneNoted k (block_placed spot b) → (env : List Binding) (σ : Store) → Since p f g k older c Never i σ →
        SinceOut p f g k older c Never i (block_run p.names regions call_at home env b σ)
    clear_block i spot b sub none env σ h =
        block_since p f g k older c Never regions call_at home i env b σ
        (block_fits p groups checked ranked regions f g at k older c Never call_at home i spot b (clear_fit i (block_placed spot b) sub none)) h

    pub clear_stmts : (i : Bool) (spot : Spot) (ss : TStmts) → Within (stmts_placed spot ss) → NoneNoted k (stmts_placed spot ss) → (env : List Binding) (σ : Store) → Since p f g k older c Never i σ →
        SinceOut p f g k older c Never i (stmts_run p.names regions call_at home env ss σ)
    clear_stmts i spot ss sub none env σ h =
        stmts_since p f g k older c Never regions call_at home i env ss σ
        (stmts_fit p groups checked ranked regions f g at k older c Never call_at home i spot ss (clear_fit i (stmts_placed spot ss) sub none)) h

    -- ---- any part, where the set's block has begun

    any_fit : (i : Bool) (bs : List Placed) → Within bs → ((b : Placed) → IsOf b bs → (x : Text) → b.kind ≡ consistent x k → i ≡ true) →
        AllFit p groups checked ranked regions f g at k older c Any call_at home i bs
    any_fit i bs sub now b o j l =
        fits p groups checked ranked regions f g at k older c Any depth (calls_away p groups checked ranked regions f g at k older c Any depth) f g at (omega arith) b (sub b o) j
        (λ x e q. (l (now b o x e), tt))

    pub any_kind : (spot : Spot) (id line : ℕ) (s : TKind) → Within (own_placed spot id line s) → (env : List Binding) (σ : Store) → Since p f g k older c Any true σ →
        SinceOut p f g k older c Any true (kind_run p.names regions call_at home env id s σ)
    any_kind spot id line s sub env σ h =
        kind_since p f g k older c Any regions call_at home true env id s σ (any_fit true (own_placed spot id line s) sub (λ b o x e. refl) _ (inl refl) true (λ e. e))
        (kind_fits p groups checked ranked regions f g at k older c Any call_at home true spot id s (λ b o. any_fit true (own_placed spot id line s) sub (λ b o x e. refl) b (inr o))) h

    -- ---- what has that block in it

    abbrev its_home : ℕ
    its_home = set_home g.body k

    mutual
      kind_in : (n : ℕ) (i : Bool) (spot : Spot) (id : ℕ) (s : TKind) → Within (kind_placed spot id s) → kind_notes k s ≡ n → kind_home k n s ≡ Some its_home →
          KindFits p f g k older c Any regions call_at home i s
      kind_in n i spot id (if_else d a b) sub m h = by (split_first (block_home k n a) (else_home k n b) its_home h)
          (λ l. block_in n i (in_branch spot id) a in_a (let x = block_many k n its_home a l in omega (arith, x, m)) l)
          (λ r. else_in n i (in_branch spot id) b in_b (let x = else_many k n its_home b r in omega (arith, x, m)) r)
        where
          in_a : Within (block_placed (in_branch spot id) a)
          in_a z o = sub z (of_left z (block_placed (in_branch spot id) a) (else_placed (in_branch spot id) b) o)

          in_b : Within (else_placed (in_branch spot id) b)
          in_b z o = sub z (of_right z (block_placed (in_branch spot id) a) (else_placed (in_branch spot id) b) o)

          none_a : block_notes k a ≡ 0 → BlockFits p f g k older c Any regions call_at home i a
          none_a e =
              block_fits p groups checked ranked regions f g at k older c Any call_at home i (in_branch spot id) a
              (any_fit i (block_placed (in_branch spot id) a) in_a (λ z o x q. absurd (block_clear k (in_branch spot id) a e z o x q)))

          none_b : else_notes k b ≡ 0 → ElseFits p f g k older c Any regions call_at home i b
          none_b e =
              else_fits p groups checked ranked regions f g at k older c Any call_at home i (in_branch spot id) b
              (any_fit i (else_placed (in_branch spot id) b) in_b (λ z o x q. absurd (else_clear k (in_branch spot id) b e z o x q)))

          by : (block_home k n a ≡ Some its_home) ⊎ ((block_home k n a ≡ None) × (else_home k n b ≡ Some its_home)) →
              (block_home k n a ≡ Some its_home → BlockFits p f g k older c Any regions call_at home i a) → (else_home k n b ≡ Some its_home → ElseFits p f g k older c Any regions call_at home i b) →
              BlockFits p f g k older c Any regions call_at home i a × ElseFits p f g k older c Any regions call_at home i b
          by (inl l) x y = (x l, none_b (let q = block_many k n its_home a l in omega (arith, q, m)))
          by (inr r) x y = (none_a (let q = else_many k n its_home b r.1 in omega (arith, q, m)), y r.1)
      kind_in n i spot id (for_in x d e b) sub m h = block_in n i (in_loop spot id ((x, variables.Declared id) ∷ [])) b sub m h
      kind_in n i spot id (while_do d t b) sub m h = block_in n i (in_loop spot id []) b sub m h
      kind_in n i spot id s sub m h = absurd (none-some its_home h)

      else_in : (n : ℕ) (i : Bool) (spot : Spot) (b : TElse) → Within (else_placed spot b) → else_notes k b ≡ n → else_home k n b ≡ Some its_home →
          ElseFits p f g k older c Any regions call_at home i b
      else_in n i spot no_else sub m h = absurd (none-some its_home h)
      else_in n i spot (else_do b) sub m h = block_in n i spot b sub m h

      block_in : (n : ℕ) (i : Bool) (spot : Spot) (b : TBlock) → Within (block_placed spot b) → block_notes k b ≡ n → block_home k n b ≡ Some its_home →
          BlockFits p f g k older c Any regions call_at home i b
      block_in n i spot (block id ss) sub m h = by (block_split k n its_home id ss h) (stmts_in n (i || (its_home == id)) (record spot { block = id }) ss sub m)
        where
          by : (stmts_home k n ss ≡ Some its_home) ⊎ ((stmts_home k n ss ≡ None) × (id ≡ its_home)) →
              (stmts_home k n ss ≡ Some its_home → StmtsFit p f g k older c Any regions call_at home (i || (its_home == id)) ss) →
              StmtsFit p f g k older c Any regions call_at home (i || (its_home == id)) ss
          by (inl l) x = x l
          by (inr r) x =
              stmts_fit p groups checked ranked regions f g at k older c Any call_at home (i || (its_home == id)) (record spot { block = id }) ss
              (any_fit (i || (its_home == id)) (stmts_placed (record spot { block = id }) ss) sub (λ b o x e. or_right i (its_home == id) (eq-eqb its_home id (sym r.1))))

      stmts_in : (n : ℕ) (i : Bool) (spot : Spot) (ss : TStmts) → Within (stmts_placed spot ss) → stmts_notes k ss ≡ n → stmts_home k n ss ≡ Some its_home →
          StmtsFit p f g k older c Any regions call_at home i ss
      stmts_in n i spot no_stmts sub m h = absurd (none-some its_home h)
      stmts_in n i spot (more (stmt id line s) rest) sub m h = by (split_first (kind_home k n s) (stmts_home k n rest) its_home h)
          (λ l. kind_in n i spot id s (λ z o. sub z (inr (of_left z (kind_placed spot id s) (stmts_placed (behind spot id s) rest) o))) (let x = kind_many k n its_home s l in omega (arith, x, m)) l)
          (λ r. stmts_in n i (behind spot id s) rest in_rest (let x = stmts_many k n its_home rest r in omega (arith, x, m)) r)
        where
          in_own : Within (own_placed spot id line s)
          in_own z o = sub z (of_left z (own_placed spot id line s) (stmts_placed (behind spot id s) rest) o)

          in_rest : Within (stmts_placed (behind spot id s) rest)
          in_rest z o = sub z (of_right z (own_placed spot id line s) (stmts_placed (behind spot id s) rest) o)

          own_fit : ((x : Text) → s ≡ consistent x k → i ≡ true) → Fits p f g k older c Any regions call_at home i id s
          own_fit now = any_fit i (record { id = id; line = line; kind = s; at = spot } ∷ []) (λ z o. by_one z o) (λ z o x e. now x (by_kind z o ∙ e)) _ (inl refl) i (λ e. e)
            where
              by_one : (z : Placed) → IsOf z (record { id = id; line = line; kind = s; at = spot } ∷ []) → IsOf z body
              by_one z (inl e) = in_own z (inl e)
              by_one z (inr o) = absurd o

              by_kind : (z : Placed) → IsOf z (record { id = id; line = line; kind = s; at = spot } ∷ []) → s ≡ z.kind
              by_kind z (inl e) = sym (ap (λ (y : Placed). y.kind) e)
              by_kind z (inr o) = absurd o

          no_note : (h : ℕ) → kind_home k n s ≡ Some h → (x : Text) → s ≡ consistent x k → ⊥
          no_note h l x e = none-some h (sym (ap (kind_home k n) e) ∙ l)

          by : (kind_home k n s ≡ Some its_home) ⊎ ((kind_home k n s ≡ None) × (stmts_home k n rest ≡ Some its_home)) →
              (kind_home k n s ≡ Some its_home → KindFits p f g k older c Any regions call_at home i s) →
              (stmts_home k n rest ≡ Some its_home → StmtsFit p f g k older c Any regions call_at home i rest) →
              Fits p f g k older c Any regions call_at home i id s × KindFits p f g k older c Any regions call_at home i s × StmtsFit p f g k older c Any regions call_at home i rest
          by (inl l) x y =
              let zero : stmts_notes k rest ≡ 0 = (let q = kind_many k n its_home s l in omega (arith, q, m)) in (
                own_fit (λ z e. absurd (no_note its_home l z e)),
                x l,
                stmts_fit p groups checked ranked regions f g at k older c Any call_at home i (behind spot id s) rest
                    (any_fit i (stmts_placed (behind spot id s) rest) in_rest (λ z o v e. absurd (stmts_clear k (behind spot id s) rest zero z o v e))),
              )
          by (inr r) x y =
              let zero : kind_notes k s ≡ 0 = (let q = stmts_many k n its_home rest r.1 in omega (arith, q, m)) in
              let none = own_clear k spot id line s zero in (
                own_fit (λ z e. absurd (none _ (inl refl) z e)),
                kind_fits p groups checked ranked regions f g at k older c Any call_at home i spot id s
                    (any_fit i (kind_placed spot id s) (λ z o. in_own z (inr o)) (λ z o v e. absurd (none z (inr o) v e))),
                y r.1,
              )

    -- a statement with the set's block in it
    pub later_kind : (n : ℕ) (spot : Spot) (id line : ℕ) (s : TKind) → Within (own_placed spot id line s) → kind_notes k s ≡ n → kind_home k n s ≡ Some its_home → (env : List Binding) (σ : Store) →
        Since p f g k older c Any false σ → SinceOut p f g k older c Any false (kind_run p.names regions call_at home env id s σ)
    later_kind n spot id line s sub m h env σ z =
        kind_since p f g k older c Any regions call_at home false env id s σ
        (any_fit false (record { id = id; line = line; kind = s; at = spot } ∷ []) (λ b o. one b o) (λ b o x e. absurd (note x (by_kind b o ∙ e))) _ (inl refl) false (λ e. e))
        (kind_in n false spot id s (λ b o. sub b (inr o)) m h) z
      where
        one : (b : Placed) → IsOf b (record { id = id; line = line; kind = s; at = spot } ∷ []) → IsOf b body
        one b (inl e) = sub b (inl e)
        one b (inr o) = absurd o

        by_kind : (b : Placed) → IsOf b (record { id = id; line = line; kind = s; at = spot } ∷ []) → s ≡ b.kind
        by_kind b (inl e) = sym (ap (λ (y : Placed). y.kind) e)
        by_kind b (inr o) = absurd o

        note : (x : Text) → s ≡ consistent x k → ⊥
        note x e = none-some its_home (sym (ap (kind_home k n) e) ∙ h)

    -- the whole body
    pub later_body : (env : List Binding) (σ : Store) → Since p f g k older c Any false σ → SinceOut p f g k older c Any false (block_run p.names regions call_at home env g.body σ)
    later_body env σ z =
        block_since p f g k older c Any regions call_at home false env g.body σ
        (block_in (block_notes k g.body) false (at_start g) g.body (λ b o. o) refl (some (block_home k (block_notes k g.body) g.body) refl)) z
      where
        some : (o : Option ℕ) → block_home k (block_notes k g.body) g.body ≡ o → block_home k (block_notes k g.body) g.body ≡ Some its_home
        some None e = absurd (home_there k (block_notes k g.body) g.body refl e)
        some (Some h) e = e ∙ ap Some (sym (ap (λ o. unwrap_or o 0) e))
