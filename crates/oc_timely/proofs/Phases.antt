-- A set whose annotations one region covers is parted by no run of its function: the region is executed once in each execution of the set's block, or is open around it.
use Rattle.std.proofs.Common.{◌≡◌, ◌⊎◌, inl, inr, ℕ, suc, ◌<◌, ◌≤◌, ◌==◌, Bool, true, false, List, [], ◌∷◌, length, Option, Some, None, cond, refl, ap, sym, subst, ◌∙◌, arith, true≢false}
use Rattle.std.specs.Prelude.{ℤ, ◌-ℤ◌, option_map, slice_get}
use Rattle.std.proofs.lemmas.Bool.{eq-eqb}
use Rattle.std.proofs.lemmas.Option.{none-some}
use Rattle.oc_tree.specs.Names.{Text}
use Rattle.oc_tree.specs.Tree.{TKind, if_else, for_in, while_do, consistent, return, TElse, no_else, else_do, stmt, TBlock, block, TStmts, no_stmts, more, TFunction, TProgram}
use Rattle.oc_tree.specs.declared.tree.VarId.TheVariants as variables
use Rattle.oc_tree.specs.Checked.{IsChecked}
use Rattle.oc_tree.specs.Marked.{TRegion, TMarked, is_in_region, covers}
use Rattle.oc_tree.specs.Places.{Place as Spot, Placed, block_of, behind, in_branch, in_loop, at_start, else_placed, block_placed, stmts_placed}
use Rattle.oc_meaning.specs.Blocks.{kind_notes, else_notes, block_notes, stmts_notes, kind_home, else_home, block_home, stmts_home, set_home}
use Rattle.oc_meaning.specs.Store.{Event, Store, Binding}
use Rattle.oc_meaning.specs.Eval.{Got, Val, Traps, is_zero, value_of}
use Rattle.oc_meaning.specs.Uses.{is_fresh, is_use, use_samples, begins_use, ends_use}
use Rattle.oc_meaning.specs.Exec.{begun_by, ended_by, Passed, Outcome, Went, Returned, Stopped, with_value, then_do, opened, closed, used, done, finished, in_turn, grown}
use Rattle.oc_tree.specs.Weight.{count_of}
use Rattle.oc_meaning.specs.Exec.{entered, kind_run, else_run, block_run, stmts_run}
use Rattle.oc_tree.specs.Members.{IsOf}
use Rattle.oc_flow.proofs.Fixpoint.{Ranked}
use Rattle.oc_timely.specs.Enough.{next_mode}
use Rattle.oc_timely.specs.Modes.{own_placed, PairedKind, PairedElse, PairedBlock, PairedStmts}
use Rattle.oc_timely.specs.Laid.{LaidKind, LaidElse, LaidBlock, LaidStmts, Static}
use Rattle.oc_timely.specs.Sets.{AddsNoMarks, AreNoMarks, times}
use Rattle.oc_timely.proofs.Closed.{IsNoTag, IsClosed, KOut, k_opened, k_closed, k_used, k_done, k_finished, k_leave, k_trap, k_value, k_if, k_for, k_while}
use Rattle.oc_timely.proofs.Directly.{Direct, direct_of, of_direct, either, beside}
use Rattle.oc_timely.proofs.Homes.{call_at, Any, split_first, kind_many, else_many, block_many, stmts_many, block_split, clear_kind, clear_else, clear_block, clear_stmts, any_kind, later_kind}
use Rattle.oc_timely.proofs.Innermost.{NoneNoted, else_clear, block_clear, own_clear, stmts_clear, IsFree, chain, lies_own, innermost}
use Rattle.oc_timely.proofs.Inside.{count_open}
use Rattle.oc_laws.proofs.Members.{of_left, of_right, in_append}
use Rattle.oc_timely.proofs.Lies.{up_kind, up_stmts}
use Rattle.oc_timely.proofs.Quiet.{IsReturn, Deep, Quiet, quiet_used, quiet_done, kind_quiet}
use Rattle.oc_timely.proofs.RegionOpen.{none_begins, none_ends, open_at}
use Rattle.oc_timely.proofs.Tagged.{IsOne, AreNumbered, Since, SinceOut, since_like, since_told, since_opened, since_closed, since_used, since_done, since_entered, times_entered}
use Rattle.oc_timely.proofs.Weak.{AreWeak, same_front, weak_clean, weak_join}

-- ---- what is kept of one set

module _ (p : TProgram) (f : ℕ) (g : TFunction) (k : ℤ) where
  abbrev One : Event → Type 0
  One e = IsOne p f g k e

  -- its tags are numbered, and none parts it
  pub record IsKept (σ : Store) : Type 0 where
    pub numbered : AreNumbered p f g k σ
    pub weak : AreWeak p f g k σ.events

  abbrev pub KeptOut : Outcome → Type 0
  KeptOut o = KOut IsKept o

  abbrev pub Clear : Store → Store → Type 0
  Clear σ τ = Since p f g k σ.events (times g k σ) (λ n. ⊥) true τ

  pub start : (own : ℕ → Type 0) (i : Bool) (σ : Store) → AreNumbered p f g k σ → Since p f g k σ.events (times g k σ) own i σ
  start own i σ h = record { newer = []; is = refl; tags = λ e o t. absurd o; numbered = h; soon = omega arith; reached = λ t. omega arith }

  -- where no tag of it was told
  pub kept_clear : (σ τ : Store) (c : ℕ) (i : Bool) → Since p f g k σ.events c (λ n. ⊥) i τ → IsKept σ → IsKept τ
  kept_clear σ τ c i s h = record { numbered = s.numbered; weak = subst (AreWeak p f g k) (sym s.is) (weak_clean p f g k s.newer σ.events (λ e o t. (s.tags e o t).1) h.weak) }

  pub clear_out : (σ : Store) (c : ℕ) (i : Bool) (o : Outcome) → SinceOut p f g k σ.events c (λ n. ⊥) i o → IsKept σ → KeptOut o
  clear_out σ c i (Went τ) s h = kept_clear σ τ c i s h
  clear_out σ c i (Returned v τ) s h = kept_clear σ τ c i s h
  clear_out σ c i (Stopped z τ) s h = kept_clear σ τ c i s h

  -- where no mark was told, and tags of later instances alone
  pub kept_adds : (older : List Event) (c : ℕ) (own : ℕ → Type 0) (i : Bool) (τ : Store) → Since p f g k older c own i τ → AddsNoMarks older τ.events → ((e : Event) → IsOf e older → One e → e.instance < c) →
      AreWeak p f g k older → IsKept τ
  kept_adds older c own i τ s a early w = record {
    numbered = s.numbered;
    weak =
        (let same : s.newer ≡ a.0 = same_front s.newer a.0 older (sym s.is ∙ a.1) in
        subst (AreWeak p f g k) (sym s.is) (weak_join p f g k s.newer older c (λ e o t. (s.tags e o t).0) early (inl (subst AreNoMarks (sym same) a.2)) w));
  }

  pub adds_out : (older : List Event) (c : ℕ) (own : ℕ → Type 0) (i : Bool) (r d : ℕ) (o : Outcome) → SinceOut p f g k older c own i o → Quiet older r d o →
      ((e : Event) → IsOf e older → One e → e.instance < c) → AreWeak p f g k older → KeptOut o
  adds_out older c own i r d (Went τ) s q early w = kept_adds older c own i τ s q.adds early w
  adds_out older c own i r d (Returned v τ) s q early w = kept_adds older c own i τ s q.adds early w
  adds_out older c own i r d (Stopped z τ) s q early w = kept_adds older c own i τ s q early w

  -- all but tags keep it
  pub kept_like : (σ τ : Store) → τ.events ≡ σ.events → τ.blocks ≡ σ.blocks → IsKept σ → IsKept τ
  kept_like σ τ e b h = kept_clear σ τ (times g k σ) true (since_like p f g k σ.events (times g k σ) (λ n. ⊥) true σ τ e b (start (λ n. ⊥) true σ h.numbered)) h

  kept_told : (e : Event) (σ : Store) → IsNoTag e.said → IsKept σ → IsKept (record σ { events = e ∷ σ.events })
  kept_told e σ n h = kept_clear σ _ (times g k σ) true (since_told p f g k σ.events (times g k σ) (λ n. ⊥) true e σ n (start (λ n. ⊥) true σ h.numbered)) h

  kept_enters : (id : ℕ) (σ : Store) → IsKept σ → IsKept (record σ { blocks = id ∷ σ.blocks })
  kept_enters id σ h = kept_clear σ _ (times g k σ) true (since_entered p f g k σ.events (times g k σ) (λ n. ⊥) true id σ (start (λ n. ⊥) true σ h.numbered)) h

  pub kept_closed : IsClosed IsKept
  kept_closed = record { like = kept_like; told = kept_told; enters = kept_enters }

-- ---- a list, up to the region and behind it

module _ (m : TMarked) (guarded : ℕ → Bool) (ranked : Ranked m.program) (checked : IsChecked m.program m.groups) (f : ℕ) (g : TFunction) (at : slice_get m.program.functions f ≡ Some g) (k : ℤ)
    (depth : ℕ)
    (facts : Static m guarded f (block_placed (at_start g) g.body))
    (paired : (d : ℕ) (x : Text) (ps : List Passed) (σ : Store) (es : List Event) → 0 < d → Deep es d σ → Quiet es d d (call_at m.program m.groups checked ranked m.regions f g at k depth x ps σ))
    (q : TRegion) (one : IsOf q m.regions) (covered : (b : Placed) → IsOf b (block_placed (at_start g) g.body) → (x : Text) → b.kind ≡ consistent x k → covers m.program q b.id ≡ true) where
  abbrev p : TProgram
  p = m.program

  abbrev calls : Text → List Passed → Store → Outcome
  calls = call_at p m.groups checked ranked m.regions f g at k depth

  abbrev its : ℤ → ℕ
  its = set_home g.body

  abbrev all : List Placed
  all = block_placed (at_start g) g.body

  abbrev Kept : Store → Type 0
  Kept σ = IsKept p f g k σ

  abbrev Out : Outcome → Type 0
  Out o = KeptOut p f g k o

  stays : IsClosed Kept
  stays = kept_closed p f g k

  abbrev Free : List ℕ → Type 0
  Free ts = IsFree k p all facts.found q (facts.region q one).1 covered ts

  abbrev In : List Placed → Type 0
  In bs = (b : Placed) → IsOf b bs → IsOf b all

  first_there : block_of p q.first ≡ Some q.block
  first_there = (facts.region q one).1

  abbrev run : List Binding → ℕ → TKind → Store → Outcome
  run env id s σ = kind_run p.names m.regions calls its env id s σ

  used_deep : (b : Bool) (n : ℕ) (s : List ℕ) (σ : Store) → 0 < σ.depth → 0 < (used b n s σ).depth
  used_deep true n s σ h = h
  used_deep false n s σ h = h

  module _ (spot : Spot) (id line : ℕ) (s : TKind) (rest : TStmts) (mid : ℕ) (laid : LaidKind p (suc id) s mid) (sub : In (stmts_placed spot (more (stmt id line s) rest))) (free : Free spot.around)
      (env : List Binding) (σ : Store) where
    abbrev marked : Store
    marked = opened (begun_by m.regions id) σ

    abbrev begin : Store
    begin = used (begins_use (is_fresh env) s) id (use_samples env s σ) marked

    abbrev after : Store → Store
    after τ = closed (ended_by m.regions id) (done (ends_use (is_fresh env) s) id (use_samples env s σ) τ)

    in_own : In (own_placed spot id line s)
    in_own z o = sub z (of_left z (own_placed spot id line s) (stmts_placed (behind spot id s) rest) o)

    in_rest : In (stmts_placed (behind spot id s) rest)
    in_rest z o = sub z (of_right z (own_placed spot id line s) (stmts_placed (behind spot id s) rest) o)

    here : block_of p id ≡ Some spot.block
    here = ap (option_map (λ (a : Placed). a.at.block)) (facts.found (record { id = id; line = line; kind = s; at = spot }) (sub _ (inl refl)))

    up : suc id ≤ mid
    up = up_kind p (suc id) s mid laid

    direct : q.block ≡ spot.block → q.first ≤ id → id ≤ q.last → Direct p q id
    direct e l h = record { there = here ∙ ap Some (sym e); low = l; high = h }

    -- the region begins at this statement or before, or behind it
    apart : q.block ≡ spot.block → (q.first ≤ id) ⊎ (mid ≤ q.first)
    apart e = beside m guarded f all facts spot.block id s mid laid here q.first (first_there ∙ ap Some e)

    kept_begin : Kept σ → Kept begin
    kept_begin h = k_used Kept stays (begins_use (is_fresh env) s) id (use_samples env s σ) marked (k_opened Kept stays (begun_by m.regions id) σ h)

    kept_after : (τ : Store) → Kept τ → Kept (after τ)
    kept_after τ h =
        k_closed Kept stays (ended_by m.regions id) (done (ends_use (is_fresh env) s) id (use_samples env s σ) τ) (k_done Kept stays (ends_use (is_fresh env) s) id (use_samples env s σ) τ h)

    -- without annotations of the set nothing is told of it
    clear_begin : Kept σ → Clear p f g k σ begin
    clear_begin h =
        since_used p f g k σ.events (times g k σ) (λ n. ⊥) true (begins_use (is_fresh env) s) id (use_samples env s σ) marked
        (since_opened p f g k σ.events (times g k σ) (λ n. ⊥) true (begun_by m.regions id) σ (start p f g k (λ n. ⊥) true σ h.numbered))

    clear_after : (τ : Store) → Clear p f g k σ τ → Clear p f g k σ (after τ)
    clear_after τ h =
        since_closed p f g k σ.events (times g k σ) (λ n. ⊥) true (ended_by m.regions id) (done (ends_use (is_fresh env) s) id (use_samples env s σ) τ)
        (since_done p f g k σ.events (times g k σ) (λ n. ⊥) true (ends_use (is_fresh env) s) id (use_samples env s σ) τ h)

    clear_step : NoneNoted k (own_placed spot id line s) → (go : Store → Outcome) → Kept σ → ((τ : Store) → run env id s begin ≡ Went τ → Clear p f g k σ (after τ) → Out (go (after τ))) →
        Out (then_do (finished after (run env id s begin)) go)
    clear_step none go h next =
        by (run env id s begin) refl (clear_kind p m.groups checked ranked m.regions f g at k depth σ.events (times g k σ) true spot id line s in_own none env begin (clear_begin h))
      where
        by : (o : Outcome) → run env id s begin ≡ o → SinceOut p f g k σ.events (times g k σ) (λ n. ⊥) true o → Out (then_do (finished after o) go)
        by (Went τ) e z = next τ e (clear_after τ z)
        by (Returned v τ) e z = kept_clear p f g k σ τ (times g k σ) true z h
        by (Stopped c τ) e z = kept_clear p f g k σ τ (times g k σ) true z h

    -- a statement in the region leaves it open, unless it's the last
    quiet_run : (es : List Event) → PairedKind m.regions (suc id) s → (IsReturn s → ended_by m.regions id ≡ None) → Deep es 1 begin → Quiet es 1 1 (run env id s begin)
    quiet_run es pair last d =
        kind_quiet es p.names m.regions calls its (λ d x ps τ l h. paired d x ps τ es l h) (suc id) 1 1 env id s begin pair (omega arith) (omega arith)
        (λ r. let c : count_open (ended_by m.regions id) ≡ 0 = ap count_open (last r) in (omega arith, omega (arith, c))) d

    quiet_after : (es : List Event) (τ : Store) → ended_by m.regions id ≡ None → Deep es 1 τ → Deep es 1 (after τ)
    quiet_after es τ none d =
        subst (λ o. Deep es 1 (closed o (done (ends_use (is_fresh env) s) id (use_samples env s σ) τ))) (sym none) (quiet_done es 1 (ends_use (is_fresh env) s) id (use_samples env s σ) τ d)

    -- ---- where the region isn't around, and the set's block is in a statement

    -- in the region's block, it is open at its statements
    abbrev pub OpenAt : ℕ → ℕ → Store → Type 0
    OpenAt b n τ = q.block ≡ b → q.first < n → n ≤ q.last → 0 < τ.depth

    begin_deep : Direct p q id → OpenAt spot.block id σ → 0 < begin.depth
    begin_deep d o =
        used_deep (begins_use (is_fresh env) s) id (use_samples env s σ) marked
        (open_at m guarded f all facts q one id σ d (λ l. o (let e : Some q.block ≡ Some spot.block = sym d.there ∙ here in cc e) l d.high))

    open_next : PairedKind m.regions (suc id) s → OpenAt spot.block id σ → (τ : Store) → run env id s begin ≡ Went τ → OpenAt spot.block mid (after τ)
    open_next pair o τ e b low high = by (apart b)
      where
        l : suc id ≤ mid
        l = up

        by : (q.first ≤ id) ⊎ (mid ≤ q.first) → 0 < (after τ).depth
        by (inr x) = absurd (omega (arith, x, low))
        by (inl x) =
            let d = direct b x (omega (arith, high, l)) in
            let none = none_ends m guarded f all facts q one id d (omega (arith, high, l)) in
            let deep = begin_deep d o in
            let from : Deep begin.events 1 begin = record { deep = omega (arith, deep); adds = ([], refl, tt) } in
            let r : Quiet begin.events 1 1 (Went τ) = subst (Quiet begin.events 1 1) e (quiet_run begin.events pair (λ t. none) from) in
            let z = (quiet_after begin.events τ none r).deep in
            omega (arith, z)

    -- a statement in the region that has the set's block in it
    deep_kind : (n : ℕ) → PairedKind m.regions (suc id) s → kind_notes k s ≡ n → kind_home k n s ≡ Some (set_home g.body k) → 0 < begin.depth → Kept begin → Out (run env id s begin)
    deep_kind n pair many e deep h =
        let since : Since p f g k begin.events (suc (times g k begin)) (Any p m.groups checked ranked m.regions f g at k depth) false begin =
        record { newer = []; is = refl; tags = λ x o t. absurd o; numbered = h.numbered; soon = omega arith; reached = λ t. absurd (true≢false (sym t)) } in
        adds_out p f g k begin.events (suc (times g k begin)) (Any p m.groups checked ranked m.regions f g at k depth) false 1 1 (run env id s begin)
        (later_kind p m.groups checked ranked m.regions f g at k depth begin.events (suc (times g k begin)) n spot id line s in_own many e env begin since)
        (quiet_run begin.events pair (λ r. absurd (no_return s r e)) (record { deep = omega (arith, deep); adds = ([], refl, tt) }))
        (λ x o t. let l = h.numbered x o t in omega (arith, l)) h.weak
      where
        no_return : (s : TKind) → IsReturn s → kind_home k n s ≡ Some (set_home g.body k) → ⊥
        no_return (return d) r e = none-some (set_home g.body k) e
        no_return s r e = absurd r

  -- ---- in the set's block

  -- no tag of the execution under way was told yet
  abbrev AreOlder : Store → Type 0
  AreOlder σ = (e : Event) → IsOf e σ.events → IsOne p f g k e → e.instance < times g k σ

  -- those that were stand in the region, which is open
  record IsInside (σ : Store) : Type 0 where
    older : List Event
    count : ℕ
    since : Since p f g k older count (λ n. Unit {0}) true σ
    deep : Deep older 1 σ
    early : (e : Event) → IsOf e older → IsOne p f g k e → e.instance < count
    weak : AreWeak p f g k older

  held_kept : (σ : Store) → IsInside σ → Kept σ
  held_kept σ h = kept_adds p f g k h.older h.count (λ n. Unit {0}) true σ h.since h.deep.adds h.early h.weak

  record Phase (n : ℕ) (σ : Store) : Type 0 where
    before : n ≤ q.first → AreOlder σ
    held : q.first < n → n ≤ q.last → IsInside σ

  before_clear : (σ τ : Store) → AreOlder σ → Clear p f g k σ τ → AreOlder τ
  before_clear σ τ b c e o t = by (in_append e c.newer σ.events (subst (IsOf e) c.is o))
    where
      by : IsOf e c.newer ⊎ IsOf e σ.events → e.instance < times g k τ
      by (inl i) = absurd (c.tags e i t).1
      by (inr i) = let a = b e i t in let z = c.reached refl in omega (arith, a, z)

  -- so far as the region hasn't begun, and behind its end
  phase_clear : (spot : Spot) (id line : ℕ) (s : TKind) (rest : TStmts) (mid : ℕ) (laid : LaidKind p (suc id) s mid) (sub : In (stmts_placed spot (more (stmt id line s) rest)))
      (free : Free spot.around) (env : List Binding) (σ τ : Store) → q.block ≡ spot.block →
      (Direct p q id → ⊥) → Phase id σ → Clear p f g k σ τ → Phase mid τ
  phase_clear spot id line s rest mid laid sub free env σ τ b out ph c = record {
    before = λ l. (let u = up spot id line s rest mid laid sub free env σ in before_clear σ τ (ph.before (omega (arith, l, u))) c);
    held = λ l h. absurd (by l h (apart spot id line s rest mid laid sub free env σ b));
  }
    where
      u : suc id ≤ mid
      u = up spot id line s rest mid laid sub free env σ

      by : q.first < mid → mid ≤ q.last → (q.first ≤ id) ⊎ (mid ≤ q.first) → ⊥
      by l h (inr x) = omega (arith, x, l)
      by l h (inl x) = out (direct spot id line s rest mid laid sub free env σ b x (let v = u in omega (arith, h, v)))

  -- a statement that isn't in the region has no annotation
  outside_none : (spot : Spot) (id line : ℕ) (s : TKind) (rest : TStmts) (mid : ℕ) (laid : LaidKind p (suc id) s mid) (sub : In (stmts_placed spot (more (stmt id line s) rest)))
      (free : Free spot.around) (env : List Binding) (σ : Store) → q.block ≡ spot.block →
      (Direct p q id → ⊥) → NoneNoted k (own_placed spot id line s)
  outside_none spot id line s rest mid laid sub free env σ b out z o x e =
      let i = in_own spot id line s rest mid laid sub free env σ z o in
      let t = chain k p all facts.found q first_there covered id mid spot z i (lies_own k p all facts.found q first_there covered spot id line s mid laid z o) free (covered z i x e) in
      let h = here spot id line s rest mid laid sub free env σ in
      by t.0 t.1 t.2 t.3 (beside m guarded f all facts spot.block id s mid laid h t.0 (t.1.there ∙ ap Some b))
    where
      by : (t : ℕ) → Direct p q t → id ≤ t → t < mid → (t ≤ id) ⊎ (mid ≤ t) → ⊥
      by t d l u (inr v) = omega (arith, u, v)
      by t d l u (inl v) = let same : t ≡ id = omega (arith, l, v) in out (subst (Direct p q) same d)

  -- where the region begins, or is open
  held_begin : (spot : Spot) (id line : ℕ) (s : TKind) (rest : TStmts) (mid : ℕ) (laid : LaidKind p (suc id) s mid) (sub : In (stmts_placed spot (more (stmt id line s) rest)))
      (free : Free spot.around) (env : List Binding) (σ : Store) → Direct p q id → Kept σ → Phase id σ → IsInside (begin spot id line s rest mid laid sub free env σ)
  held_begin spot id line s rest mid laid sub free env σ d kept ph = by (either id q.first) (either q.first id)
    where
      b : Store
      b = begin spot id line s rest mid laid sub free env σ

      by : (q.first ≤ id) ⊎ (id < q.first) → (id ≤ q.first) ⊎ (q.first < id) → IsInside b
      by (inr x) y = absurd (let l = d.low in omega (arith, l, x))
      by (inl x) (inr y) =
          let h = ph.held y d.high in
          let none = none_begins m guarded f all facts q one id d y in
          let same : opened (begun_by m.regions id) σ ≡ σ = ap (λ o. opened o σ) none in
          subst (λ (υ : Store). IsInside (used (begins_use (is_fresh env) s) id (use_samples env s σ) υ)) (sym same) (record {
            older = h.older;
            count = h.count;
            since = since_used p f g k h.older h.count (λ n. Unit {0}) true (begins_use (is_fresh env) s) id (use_samples env s σ) σ h.since;
            deep = quiet_used h.older 1 (begins_use (is_fresh env) s) id (use_samples env s σ) σ h.deep;
            early = h.early;
            weak = h.weak;
          })
      by (inl x) (inl y) =
          let clear = clear_begin spot id line s rest mid laid sub free env σ kept in
          let now = kept_begin spot id line s rest mid laid sub free env σ kept in
          let deep = used_deep (begins_use (is_fresh env) s) id (use_samples env s σ) (opened (begun_by m.regions id) σ)
          (open_at m guarded f all facts q one id σ d (λ l. absurd (omega (arith, l, y)))) in
          record {
            older = b.events;
            count = times g k b;
            since = start p f g k (λ n. Unit {0}) true b now.numbered;
            deep = record { deep = omega (arith, deep); adds = ([], refl, tt) };
            early = before_clear σ b (ph.before (omega (arith, y))) clear;
            weak = now.weak;
          }

  is_return : (s : TKind) → IsReturn s ⊎ (IsReturn s → ⊥)
  is_return (return d) = inl tt
  is_return s = inr (λ h. h)

  -- what a `return` does
  return_kept : (s : TKind) → IsReturn s → (env : List Binding) (id : ℕ) (σ : Store) (after : Store → Store) (next : Store → Outcome) → Kept σ → Out (then_do (finished after (run env id s σ)) next)
  return_kept (return d) r env id σ after next h = by (value_of env σ d)
    where
      by : (v : Got) →
          Out (then_do (finished after (with_value v id σ (λ v. Returned v (closed (ended_by m.regions id) (done (is_use (is_fresh env) (return d)) id (use_samples env (return d) σ) σ))))) next)
      by (Val v) =
          k_closed Kept stays (ended_by m.regions id) (done (is_use (is_fresh env) (return d)) id (use_samples env (return d) σ) σ)
          (k_done Kept stays (is_use (is_fresh env) (return d)) id (use_samples env (return d) σ) σ h)
      by (Traps t) = k_trap Kept stays t id σ h
  return_kept s r env id σ after next h = absurd r

  phases : (low : ℕ) (inside : Option ℕ) (spot : Spot) (n : ℕ) (ss : TStmts) (e : ℕ) → LaidStmts p n ss e → In (stmts_placed spot ss) → Free spot.around → PairedStmts m.regions low inside ss →
      q.block ≡ spot.block → (env : List Binding) (σ : Store) → Kept σ → Phase n σ → Out (stmts_run p.names m.regions calls its env ss σ)
  phases low inside spot n no_stmts e laid sub free pair b env σ kept ph = kept
  phases low inside spot n (more (stmt id line s) rest) e laid sub free pair b env σ kept ph =
      by (is_in_region p q id) refl (λ τ. phases (suc id) (next_mode inside (begun_by m.regions id) (ended_by m.regions id)) (behind spot id s) laid.1 rest e laid.3
      (in_rest spot id line s rest laid.1 laid.2 sub free env σ) free pair.3 b (grown s rest env σ) τ)
    where
      at_id : Phase id σ
      at_id = subst (λ z. Phase z σ) (sym laid.0) ph

      b0 : Store
      b0 = begin spot id line s rest laid.1 laid.2 sub free env σ

      next_store : Store → Store
      next_store τ = after spot id line s rest laid.1 laid.2 sub free env σ τ

      go : Store → Outcome
      go τ = stmts_run p.names m.regions calls its (grown s rest env σ) rest τ

      outside : (Direct p q id → ⊥) → ((τ : Store) → Kept τ → Phase laid.1 τ → Out (go τ)) → Out (then_do (finished next_store (run env id s b0)) go)
      outside out rest_run =
          clear_step spot id line s rest laid.1 laid.2 sub free env σ (outside_none spot id line s rest laid.1 laid.2 sub free env σ b out) go kept
          (λ τ t c. rest_run (next_store τ) (kept_clear p f g k σ (next_store τ) (times g k σ) true c kept) (phase_clear spot id line s rest laid.1 laid.2 sub free env σ (next_store τ) b out at_id c))

      in_region : Direct p q id → ((τ : Store) → Kept τ → Phase laid.1 τ → Out (go τ)) → Out (then_do (finished next_store (run env id s b0)) go)
      in_region d rest_run = elim (is_return s) [
        | inl r ↦ return_kept s r env id b0 next_store go (held_kept b0 held)
        | inr r ↦ ends (run env id s b0) (any_kind p m.groups checked ranked m.regions f g at k depth held.older held.count spot id line s
            (in_own spot id line s rest laid.1 laid.2 sub free env σ) env b0 held.since)
            (quiet_run spot id line s rest laid.1 laid.2 sub free env σ held.older pair.2 (λ z. absurd (r z)) held.deep)
      ]
        where
          held : IsInside b0
          held = held_begin spot id line s rest laid.1 laid.2 sub free env σ d kept at_id

          l : suc id ≤ laid.1
          l = up spot id line s rest laid.1 laid.2 sub free env σ

          -- behind the statement
          went : (τ : Store) → IsInside τ → (q.last ≤ id) ⊎ (id < q.last) → Out (go (next_store τ))
          went τ h (inl x) = rest_run (next_store τ) (kept_after spot id line s rest laid.1 laid.2 sub free env σ τ (held_kept τ h)) (record {
            before = λ y. absurd (let v = l in let w = d.low in omega (arith, v, w, y));
            held = λ y z. absurd (let v = l in omega (arith, v, x, z));
          })
          went τ h (inr x) =
              let none = none_ends m guarded f all facts q one id d x in
              rest_run (next_store τ) (kept_after spot id line s rest laid.1 laid.2 sub free env σ τ (held_kept τ h)) (record {
                before = λ y. absurd (let v = l in let w = d.low in omega (arith, v, w, y));
                held = λ y z. (record {
                  older = h.older;
                  count = h.count;
                  since =
                      since_closed p f g k h.older h.count (λ n. Unit {0}) true (ended_by m.regions id) (done (ends_use (is_fresh env) s) id (use_samples env s σ) τ)
                      (since_done p f g k h.older h.count (λ n. Unit {0}) true (ends_use (is_fresh env) s) id (use_samples env s σ) τ h.since);
                  deep = quiet_after spot id line s rest laid.1 laid.2 sub free env σ h.older τ none h.deep;
                  early = h.early;
                  weak = h.weak;
                });
              })

          ends : (o : Outcome) → SinceOut p f g k held.older held.count (λ n. Unit {0}) true o → Quiet held.older 1 1 o → Out (then_do (finished next_store o) go)
          ends (Went τ) z w = went τ (record { older = held.older; count = held.count; since = z; deep = w; early = held.early; weak = held.weak }) (either id q.last)
          ends (Returned v τ) z w = kept_adds p f g k held.older held.count (λ n. Unit {0}) true τ z w.adds held.early held.weak
          ends (Stopped c τ) z w = kept_adds p f g k held.older held.count (λ n. Unit {0}) true τ z w held.early held.weak

      by : (c : Bool) → is_in_region p q id ≡ c → ((τ : Store) → Kept τ → Phase laid.1 τ → Out (go τ)) → Out (then_do (finished next_store (run env id s b0)) go)
      by true t rest_run = in_region (direct_of p q id t) rest_run
      by false t rest_run = outside (λ d. absurd (true≢false (sym (of_direct p q id d) ∙ t))) rest_run

  -- ---- down to the set's block

  module _ (n : ℕ) (some : 0 < n) where
    abbrev h : ℕ
    h = set_home g.body k

    -- no region of a block begins before it
    not_before : (spot : Spot) (start : ℕ) (bid : ℕ) (ss : TStmts) (e : ℕ) → LaidBlock p start (block bid ss) e → In (stmts_placed (record spot { block = bid }) ss) → stmts_notes k ss ≡ n →
        q.block ≡ bid → start ≤ q.first
    not_before spot start bid no_stmts e laid sub many b = absurd (let l = some in omega (arith, l, many))
    not_before spot start bid (more (stmt id line s) rest) e laid sub many b =
        let z = laid.1.0 in
        let u = up_kind p (suc id) s laid.1.1 laid.1.2 in
        let v = up_stmts p laid.1.1 rest e laid.1.3 in
        let its = ap (option_map (λ (a : Placed). a.at.block)) (facts.found (record { id = id; line = line; kind = s; at = record spot { block = bid } }) (sub _ (inl refl))) in
        (laid.0 id q.first bid (omega (arith, z)) (omega (arith, u, v)) its (first_there ∙ ap Some b)).0

    mutual
      kind_path : (low : ℕ) (spot : Spot) (id line : ℕ) (s : TKind) (mid : ℕ) → LaidKind p (suc id) s mid → In (own_placed spot id line s) → Free (id ∷ spot.around) → PairedKind m.regions low s →
          kind_notes k s ≡ n → kind_home k n s ≡ Some h → (env : List Binding) (σ : Store) → Kept σ → Out (run env id s σ)
      kind_path low spot id line (if_else c x y) mid laid sub free pair many there env σ kept =
          k_value Kept stays (value_of env σ c) id σ _ kept (λ v. k_if Kept stays (is_zero v.num) (else_run p.names m.regions calls its env y σ) (block_run p.names m.regions calls its env x σ)
          (in_else split (λ r. else_path low (in_branch spot id) laid.0 y mid laid.2 in_y free pair.1 (let z = else_many k n h y r in omega (arith, z, many)) r env σ kept))
          (in_block split (λ l. block_path low (in_branch spot id) (suc id) x laid.0 laid.1 in_x free pair.0 (let z = block_many k n h x l in omega (arith, z, many)) l env σ kept)))
        where
          split : (block_home k n x ≡ Some h) ⊎ ((block_home k n x ≡ None) × (else_home k n y ≡ Some h))
          split = split_first (block_home k n x) (else_home k n y) h there

          in_x : In (block_placed (in_branch spot id) x)
          in_x z o = sub z (inr (of_left z (block_placed (in_branch spot id) x) (else_placed (in_branch spot id) y) o))

          in_y : In (else_placed (in_branch spot id) y)
          in_y z o = sub z (inr (of_right z (block_placed (in_branch spot id) x) (else_placed (in_branch spot id) y) o))

          in_else : (block_home k n x ≡ Some h) ⊎ ((block_home k n x ≡ None) × (else_home k n y ≡ Some h)) → (else_home k n y ≡ Some h → Out (else_run p.names m.regions calls its env y σ)) →
              Out (else_run p.names m.regions calls its env y σ)
          in_else (inl l) rec =
              let zero : else_notes k y ≡ 0 = (let z = block_many k n h x l in omega (arith, z, many)) in
              clear_out p f g k σ (times g k σ) true (else_run p.names m.regions calls its env y σ)
              (clear_else p m.groups checked ranked m.regions f g at k depth σ.events (times g k σ) true (in_branch spot id) y in_y (else_clear k (in_branch spot id) y zero)
              env σ (start p f g k (λ n. ⊥) true σ kept.numbered)) kept
          in_else (inr r) rec = rec r.1

          in_block : (block_home k n x ≡ Some h) ⊎ ((block_home k n x ≡ None) × (else_home k n y ≡ Some h)) → (block_home k n x ≡ Some h → Out (block_run p.names m.regions calls its env x σ)) →
              Out (block_run p.names m.regions calls its env x σ)
          in_block (inl l) rec = rec l
          in_block (inr r) rec =
              let zero : block_notes k x ≡ 0 = (let z = else_many k n h y r.1 in omega (arith, z, many)) in
              clear_out p f g k σ (times g k σ) true (block_run p.names m.regions calls its env x σ)
              (clear_block p m.groups checked ranked m.regions f g at k depth σ.events (times g k σ) true (in_branch spot id) x in_x (block_clear k (in_branch spot id) x zero)
              env σ (start p f g k (λ n. ⊥) true σ kept.numbered)) kept
      kind_path low spot id line (for_in x c d b) mid laid sub free pair many there env σ kept =
          k_for Kept stays (count_of (d -ℤ c)) c (λ i. block_run p.names m.regions calls its (in_turn x i ∷ env) b) σ
          (λ i τ t. block_path low (in_loop spot id ((x, variables.Declared id) ∷ [])) (suc id) b mid laid (λ z o. sub z (inr o)) free pair many there (in_turn x i ∷ env) τ t) kept
      kind_path low spot id line (while_do c t b) mid laid sub free pair many there env σ kept =
          k_while Kept stays t id (is_use (is_fresh env) (while_do c t b)) (use_samples env (while_do c t b)) (λ τ. value_of env τ c) (block_run p.names m.regions calls its env b) [] σ
          (λ τ z. block_path low (in_loop spot id []) (suc id) b mid laid (λ z o. sub z (inr o)) free pair many there env τ z) kept
      kind_path low spot id line s mid laid sub free pair many there env σ kept = absurd (none-some h there)

      else_path : (low : ℕ) (spot : Spot) (from : ℕ) (b : TElse) (e : ℕ) → LaidElse p from b e → In (else_placed spot b) → Free spot.around → PairedElse m.regions low b → else_notes k b ≡ n →
          else_home k n b ≡ Some h → (env : List Binding) (σ : Store) → Kept σ → Out (else_run p.names m.regions calls its env b σ)
      else_path low spot from no_else e laid sub free pair many there env σ kept = kept
      else_path low spot from (else_do b) e laid sub free pair many there env σ kept = block_path low spot from b e laid sub free pair many there env σ kept

      pub block_path : (low : ℕ) (spot : Spot) (from : ℕ) (b : TBlock) (e : ℕ) → LaidBlock p from b e → In (block_placed spot b) → Free spot.around → PairedBlock m.regions low b →
          block_notes k b ≡ n → block_home k n b ≡ Some h → (env : List Binding) (σ : Store) → Kept σ → Out (block_run p.names m.regions calls its env b σ)
      block_path low spot from (block bid ss) e laid sub free pair many there env σ kept =
          k_leave Kept stays (length σ.locals) (stmts_run p.names m.regions calls its env ss (entered bid σ)) (by (block_split k n h bid ss there)
          (λ l. stmts_path low None (record spot { block = bid }) from ss e laid.1 sub free pair many l env (entered bid σ) now
          (λ b x y. absurd (let z = not_before spot from bid ss e laid sub many b in omega (arith, x, z)))))
        where
          now : Kept (entered bid σ)
          now = stays.enters bid σ kept

          by : (stmts_home k n ss ≡ Some h) ⊎ ((stmts_home k n ss ≡ None) × (bid ≡ h)) → (stmts_home k n ss ≡ Some h → Out (stmts_run p.names m.regions calls its env ss (entered bid σ))) →
              Out (stmts_run p.names m.regions calls its env ss (entered bid σ))
          by (inl l) hook = hook l
          by (inr r) hook =
              let b = innermost k p all facts.found q first_there covered n from e (record spot { block = bid }) ss laid.1 sub free some many r.0 in
              let more_times = times_entered p f g k bid σ in
              let one : ◌≡◌ {A = ℕ} (cond (h == bid) 1 0) 1 = ap (λ z. cond z 1 0) (eq-eqb h bid (sym r.1)) in
              phases low None (record spot { block = bid }) from ss e laid.1 sub free pair b env (entered bid σ) now (record {
                before = λ l x o t. (let z = kept.numbered x o t in omega (arith, z, more_times, one));
                held = λ x y. absurd (let z = not_before spot from bid ss e laid sub many b in omega (arith, x, z));
              })

      stmts_path : (low : ℕ) (inside : Option ℕ) (spot : Spot) (from : ℕ) (ss : TStmts) (e : ℕ) → LaidStmts p from ss e → In (stmts_placed spot ss) → Free spot.around →
          PairedStmts m.regions low inside ss → stmts_notes k ss ≡ n → stmts_home k n ss ≡ Some h → (env : List Binding) (σ : Store) → Kept σ →
          (q.block ≡ spot.block → q.first < from → from ≤ q.last → 0 < σ.depth) → Out (stmts_run p.names m.regions calls its env ss σ)
      stmts_path low inside spot from no_stmts e laid sub free pair many there env σ kept deep_in = kept
      stmts_path low inside spot from (more (stmt id line s) rest) e laid sub free pair many there env σ kept deep_in = by (split_first (kind_home k n s) (stmts_home k n rest) h there)
          (λ l w. kind_path (suc id) spot id line s laid.1 laid.2 own w pair.2 (let z = kind_many k n h s l in omega (arith, z, many)) l env b0
          (kept_begin spot id line s rest laid.1 laid.2 sub free env σ kept))
          (λ l τ t w. stmts_path (suc id) (next_mode inside (begun_by m.regions id) (ended_by m.regions id)) (behind spot id s) laid.1 rest e laid.3 others free pair.3
          (let z = stmts_many k n h rest l in omega (arith, z, many)) l (grown s rest env σ) τ t w)
        where
          own : In (own_placed spot id line s)
          own = in_own spot id line s rest laid.1 laid.2 sub free env σ

          others : In (stmts_placed (behind spot id s) rest)
          others = in_rest spot id line s rest laid.1 laid.2 sub free env σ

          b0 : Store
          b0 = begin spot id line s rest laid.1 laid.2 sub free env σ

          next_store : Store → Store
          next_store τ = after spot id line s rest laid.1 laid.2 sub free env σ τ

          go : Store → Outcome
          go τ = stmts_run p.names m.regions calls its (grown s rest env σ) rest τ

          open_id : q.block ≡ spot.block → q.first < id → id ≤ q.last → 0 < σ.depth
          open_id b x y = let z = laid.0 in deep_in b (omega (arith, x, z)) (omega (arith, y, z))

          block_is : Direct p q id → q.block ≡ spot.block
          block_is d = let z : Some q.block ≡ Some spot.block = sym d.there ∙ here spot id line s rest laid.1 laid.2 sub free env σ in cc z

          its_run : kind_home k n s ≡ Some h → (Free (id ∷ spot.around) → Out (run env id s b0)) → (c : Bool) → is_in_region p q id ≡ c → Out (run env id s b0)
          its_run l hook true t =
              deep_kind spot id line s rest laid.1 laid.2 sub free env σ n pair.2 (let z = kind_many k n h s l in omega (arith, z, many)) l
              (begin_deep spot id line s rest laid.1 laid.2 sub free env σ (direct_of p q id t) open_id) (kept_begin spot id line s rest laid.1 laid.2 sub free env σ kept)
          its_run l hook false t = hook (free_in t)
            where
              free_in : is_in_region p q id ≡ false → Free (id ∷ spot.around)
              free_in t y (inl z) d = absurd (true≢false (sym (of_direct p q id (subst (Direct p q) z d)) ∙ t))
              free_in t y (inr o) d = free y o d

          rest_clear : kind_home k n s ≡ Some h → (τ : Store) → Kept τ → Out (go τ)
          rest_clear l τ t =
              let zero : stmts_notes k rest ≡ 0 = (let z = kind_many k n h s l in omega (arith, z, many)) in
              clear_out p f g k τ (times g k τ) true (go τ)
              (clear_stmts p m.groups checked ranked m.regions f g at k depth τ.events (times g k τ) true (behind spot id s) rest others
              (stmts_clear k (behind spot id s) rest zero) (grown s rest env σ) τ (start p f g k (λ n. ⊥) true τ t.numbered)) t

          by : (kind_home k n s ≡ Some h) ⊎ ((kind_home k n s ≡ None) × (stmts_home k n rest ≡ Some h)) → (kind_home k n s ≡ Some h → Free (id ∷ spot.around) → Out (run env id s b0)) →
              (stmts_home k n rest ≡ Some h → (τ : Store) → Kept τ → (q.block ≡ spot.block → q.first < laid.1 → laid.1 ≤ q.last → 0 < τ.depth) → Out (go τ))
              → Out (then_do (finished next_store (run env id s b0)) go)
          by (inl l) hook r =
              k_finished Kept stays (run env id s b0) next_store go (its_run l (hook l) (is_in_region p q id) refl)
              (λ τ t z. rest_clear l (next_store τ) (kept_after spot id line s rest laid.1 laid.2 sub free env σ τ z))
          by (inr l) hook r =
              let zero : kind_notes k s ≡ 0 = (let z = stmts_many k n h rest l.1 in omega (arith, z, many)) in
              clear_step spot id line s rest laid.1 laid.2 sub free env σ (own_clear k spot id line s zero) go kept
              (λ τ t c. r l.1 (next_store τ) (kept_clear p f g k σ (next_store τ) (times g k σ) true c kept) (open_next spot id line s rest laid.1 laid.2 sub free env σ pair.2 open_id τ t))
