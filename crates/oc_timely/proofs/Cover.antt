-- A body whose targets are met passes the judgement.
use Rattle.std.proofs.Common.{◌≡◌, ◌⊎◌, inl, inr, ℕ, suc, ◌<◌, ◌≤◌, Bool, true, false, true≢false, List, [], ◌∷◌, Option, Some, None, refl, sym, ap, ◌∙◌, subst, arith}
use Rattle.std.specs.Prelude.{option_map, ◌&&◌, nat_eq}
use Rattle.oc_tree.specs.Tree.{TKind, if_else, for_in, while_do, TElse, no_else, else_do, stmt, TBlock, block, TStmts, no_stmts, more, TProgram}
use Rattle.oc_tree.specs.declared.tree.VarId.{VarId}
use Rattle.oc_tree.specs.declared.tree.VarId.TheVariants as variables
use Rattle.oc_tree.specs.Places.{Place as Spot, Placed, placed, block_of, behind, in_branch, in_loop, kind_placed, else_placed, block_placed, stmts_placed}
use Rattle.oc_tree.specs.Marked.{TRegion, TMarked, around, is_in_region, covers}
use Rattle.oc_meaning.specs.Exec.{begun_by, ended_by}
use Rattle.oc_effects.specs.Effects.{TCalled, TEffect, effect_of, effects_at, is_numbered}
use Rattle.oc_tree.specs.Members.{IsOf}
use Rattle.oc_needs.specs.Sites.{is_loop_at, is_outside, site, is_input}
use Rattle.oc_timely.specs.Enough.{Target, Apart, Calm, next_mode, AllTargets, OkOwn, OkStep, OkClean, OkKind, OkElse, OkBlock, OkStmts}
use Rattle.oc_timely.specs.Modes.{IsEffectAmong, own_placed}
use Rattle.oc_timely.specs.Laid.{IsClosed, LaidKind, LaidElse, LaidBlock, LaidStmts, Static}
use Rattle.oc_flow.proofs.Lists.{any_in}
use Rattle.oc_needs.proofs.Tests.{any_of}
use Rattle.oc_timely.proofs.Came.{flow_on}
use Rattle.oc_laws.proofs.Members.{of_left, of_right}
use Rattle.oc_timely.proofs.Directly.{begun_none, begun_some, Direct, direct_of, either, Clear, OpenAt, AtStatement, at_statement}
use Rattle.oc_timely.proofs.Lies.{Lies, up_kind, up_stmts, closed_block, closed_kind, lies_kind, lies_else, lies_block, lies_stmts}

module _ (m : TMarked) (guarded : ℕ → Bool) (f : ℕ) (body : List Placed) (facts : Static m guarded f body) (loose : guarded f ≡ false) where
  abbrev p : TProgram
  p = m.program

  abbrev pub All : TEffect → Type 0
  All a = IsOf a (effects_at p f)

  -- a region covers the target and all its inputs
  abbrev pub MetBy : TRegion → Placed → VarId → Type 0
  MetBy r b x = IsOf r m.regions × (covers p r b.id ≡ true) × ((a : TEffect) (u : VarId) → All a → is_input p f a u x ≡ true → covers p r (site p f a u x) ≡ true)

  -- a target that is clean, and whose inputs, if there are any, a region holds that begins at `n` or later
  abbrev pub Later : ℕ → Placed → VarId → Type 0
  Later n b x = Apart p f All x ⊎ ((r : TRegion) × MetBy r b x × (n ≤ r.first))

  -- no region begins before what it covers
  no_later : (r : TRegion) (s : ℕ) → covers p r s ≡ true → r.first ≤ s
  no_later r s e =
      let t = any_of (is_in_region p r) (s ∷ around (placed p s)) e in
      let d = (direct_of p r t.0 t.2).low in
      elim t.1 [ inl q ↦ omega (arith, d, q) | inr i ↦ let l = facts.below s t.0 i in omega (arith, d, l) ]

  -- no region around
  abbrev Free : Spot → Type 0
  Free spot = (r : TRegion) (t : ℕ) → IsOf r m.regions → IsOf t spot.around → Direct p r t → ⊥

  -- what stands directly in the region, of a statement that it covers
  chain : (r : TRegion) (n k : ℕ) (spot : Spot) (b : Placed) → IsOf r m.regions → IsOf b body → Lies n k spot b → Free spot → covers p r b.id ≡ true → (t : ℕ) × Direct p r t × (n ≤ t) × (t < k)
  chain r n k spot b i one l free e =
      let t = any_of (is_in_region p r) (b.id ∷ around (placed p b.id)) e in
      let d = direct_of p r t.0 t.2 in
      let low = l.low in
      let high = l.high in
      elim t.1 [
        | inl q ↦ (t.0, d, omega (arith, low, q), omega (arith, high, q))
        | inr z ↦ elim (l.split t.0 (subst (λ o. IsOf t.0 (around o)) (facts.found b one) z)) [
          | inl y ↦ (t.0, d, y.0, y.1)
          | inr y ↦ absurd (free r t.0 i y d)
        ]
      ]

  -- a region that covers something behind a part with blocks of its own doesn't begin in it
  push : (r : TRegion) (n mid k : ℕ) (spot : Spot) (b : Placed) → IsOf r m.regions → IsOf b body → IsClosed p n mid → Lies mid k spot b → Free spot → covers p r b.id ≡ true → n ≤ r.first →
      mid ≤ r.first
  push r n mid k spot b i one c l free e h = by (either r.first mid)
    where
      by : (mid ≤ r.first) ⊎ (r.first < mid) → mid ≤ r.first
      by (inl z) = z
      by (inr z) =
          let t = chain r mid k spot b i one l free e in
          let q = (c r.first t.0 r.block h z (facts.region r i).1 t.1.there).1 in
          absurd (omega (arith, q, t.2))

  -- what comes before the region brings nothing to its targets
  apart_before : (P : TEffect → Type 0) (mid : ℕ) (r : TRegion) (b : Placed) (x : VarId) → ((a : TEffect) → P a → All a × (a.stmt < mid)) → MetBy r b x → mid ≤ r.first → Apart p f P x
  apart_before P mid r b x k met h a u i br fl =
      let q = k a i in
      let low = no_later r (site p f a u x) (met.2 a u q.0 (facts.input a u x q.0 br fl)) in
      let s = facts.site_low a u x q.0 in
      omega (arith, low, s, h, q.1)

  apart_all : (P : TEffect → Type 0) (x : VarId) → ((a : TEffect) → P a → All a) → Apart p f All x → Apart p f P x
  apart_all P x k none a u i br fl = none a u (k a i) br fl

  module _ (spot : Spot) (id line : ℕ) (k : TKind) (mid end : ℕ) (laid : LaidKind p (suc id) k mid) (one : IsOf (record { id = id; line = line; kind = k; at = spot }) body)
      (subs : (b : Placed) → IsOf b (kind_placed spot id k) → IsOf b body) (free : Free spot) where
    abbrev Before : TEffect → Type 0
    Before = IsEffectAmong p (own_placed spot id line k)

    head_low : (b : Placed) → IsOf b (own_placed spot id line k) → IsOf b body × (b.id < mid)
    head_low b (inl e) = let u = up_kind p (suc id) k mid laid in (subst (λ (z : Placed). IsOf z body) (sym e) one, let q : b.id ≡ id = ap (λ (z : Placed). z.id) e in omega (arith, u, q))
    head_low b (inr i) = (subs b i, (lies_kind p id k mid spot b laid i).1.high)

    heads_low : (a : TEffect) → Before a → All a × (a.stmt < mid)
    heads_low a h =
        let q = head_low h.0 h.1 in
        (subst All (sym h.2) (facts.effect h.0 q.0), let e : a.stmt ≡ h.0.id = ap (λ (z : TEffect). z.stmt) h.2 in omega (arith, q.1, e))

    its_block : block_of p id ≡ Some spot.block
    its_block = ap (option_map (λ (a : Placed). a.at.block)) (facts.found (record { id = id; line = line; kind = k; at = spot }) one)

    -- past this statement, if the region begins behind it
    pass_by : (spot' : Spot) (b : Placed) (x : VarId) → Free spot' → IsOf b body → Lies mid end spot' b → (r : TRegion) → MetBy r b x → suc id ≤ r.first → Apart p f Before x × Later mid b x
    pass_by spot' b x free' i l r met z =
        let q = push r (suc id) mid end spot' b met.0 i (closed_kind p (suc id) k mid laid) l free' met.1 z in
        (apart_before Before mid r b x heads_low met q, inr (r, met, q))

    pass : (spot' : Spot) (b : Placed) (x : VarId) → Free spot' → IsOf b body → Lies mid end spot' b → ((r : TRegion) → IsOf r m.regions → covers p r b.id ≡ true → r.first ≡ id → ⊥) → Later id b x →
        Apart p f Before x × Later mid b x
    pass spot' b x free' i l never (inl none) = (apart_all Before x (λ a h. (heads_low a h).0) none, inl none)
    pass spot' b x free' i l never (inr met) = pass_by spot' b x free' i l met.0 met.1 (let n = never met.0 met.1.0 met.1.1 in let h = met.2 in grind (arith, n, h))

  -- ---- the modes of a list

  abbrev FitsOut : (VarId → Type 0) → ℕ → List Placed → Type 0
  FitsOut C n bs = (b : Placed) (x : VarId) → IsOf b bs → Target p f (effect_of p b) x → C x × Later n b x

  -- a region is open: what it doesn't cover is as outside
  abbrev FitsIn : TRegion → (C0 C : VarId → Type 0) → ℕ → List Placed → Type 0
  FitsIn r C0 C n bs = (b : Placed) (x : VarId) → IsOf b bs → Target p f (effect_of p b) x → C0 x × ((covers p r b.id ≡ true) ⊎ (C x × Later n b x))

  abbrev State : (inside : Option ℕ) → ℕ → (C0 C : VarId → Type 0) → Spot → List Placed → Type 0
  State None n C0 C spot bs = Clear m n spot.block × FitsOut C n bs
  State (Some q) n C0 C spot bs = (r : TRegion) × OpenAt m r n spot.block × FitsIn r C0 C n bs

  module _ (spot : Spot) (id line : ℕ) (k : TKind) (rest : TStmts) (mid end : ℕ) (laid : LaidKind p (suc id) k mid) (behind_laid : LaidStmts p mid rest end)
      (sub : (b : Placed) → IsOf b (stmts_placed spot (more (stmt id line k) rest)) → IsOf b body) (free : Free spot) where
    abbrev This : Placed
    This = record { id = id; line = line; kind = k; at = spot }

    abbrev Next : Spot
    Next = behind spot id k

    abbrev Heads : TEffect → Type 0
    Heads = IsEffectAmong p (own_placed spot id line k)

    sub_kind : (b : Placed) → IsOf b (kind_placed spot id k) → IsOf b body
    sub_kind b i = sub b (inr (of_left b (kind_placed spot id k) (stmts_placed Next rest) i))

    in_rest : (b : Placed) → IsOf b (stmts_placed Next rest) → IsOf b (stmts_placed spot (more (stmt id line k) rest))
    in_rest b i = inr (of_right b (kind_placed spot id k) (stmts_placed Next rest) i)

    in_own : (b : Placed) → IsOf b (own_placed spot id line k) → IsOf b (stmts_placed spot (more (stmt id line k) rest))
    in_own b (inl e) = inl e
    in_own b (inr i) = inr (of_left b (kind_placed spot id k) (stmts_placed Next rest) i)

    one : IsOf This body
    one = sub This (inl refl)

    here_block : block_of p id ≡ Some spot.block
    here_block = its_block spot id line k mid end laid one sub_kind free

    here : AtStatement m spot.block id mid
    here = at_statement m guarded f body facts spot.block id k mid laid here_block

    -- outside of regions none holds the statement itself, and none is around what stands in it
    no_direct : begun_by m.regions id ≡ None → Clear m id spot.block → (r : TRegion) → IsOf r m.regions → Direct p r id → ⊥
    no_direct e c r i d = go (either r.first id)
      where
        go : (id ≤ r.first) ⊎ (r.first < id) → ⊥
        go (inl y) = let l = d.low in begun_none m.regions id r e i (omega (arith, l, y))
        go (inr y) = c r i (here.its_block r d) y d.high

    free_in : begun_by m.regions id ≡ None → Clear m id spot.block → (r : TRegion) (t : ℕ) → IsOf r m.regions → IsOf t (id ∷ spot.around) → Direct p r t → ⊥
    free_in e c r t i (inl q) d = no_direct e c r i (subst (Direct p r) q d)
    free_in e c r t i (inr q) d = free r t i q d

    uncovered : begun_by m.regions id ≡ None → Clear m id spot.block → (r : TRegion) → IsOf r m.regions → covers p r id ≡ true → ⊥
    uncovered e c r i h =
        let t = any_of (is_in_region p r) (id ∷ around (placed p id)) h in
        let d = direct_of p r t.0 t.2 in
        elim t.1 [
          | inl q ↦ free_in e c r t.0 i (inl q) d
          | inr z ↦ free_in e c r t.0 i (inr (subst (λ o. IsOf t.0 (around o)) (facts.found This one) z)) d
        ]

    -- so its own targets have no inputs at all
    own_apart : begun_by m.regions id ≡ None → Clear m id spot.block → (x : VarId) → Later id This x → Apart p f All x
    own_apart e c x (inl none) = none
    own_apart e c x (inr met) = absurd (uncovered e c met.0 met.1.0 met.1.1)

    free_call : begun_by m.regions id ≡ None → Clear m id spot.block → (c : TCalled) → (effect_of p This).call ≡ Some c → guarded c.function ≡ false
    free_call e c t q = by (guarded t.function) refl
      where
        by : (b : Bool) → guarded t.function ≡ b → b ≡ false
        by false z = refl
        by true z = let r = facts.calls loose This t one q z in absurd (uncovered e c r.region r.one r.covered)

    -- ---- past the statement

    lies_rest : (b : Placed) → IsOf b (stmts_placed Next rest) → Lies mid end Next b
    lies_rest b i = lies_stmts p mid rest end Next b behind_laid i

    abbrev C' : (VarId → Type 0) → VarId → Type 0
    C' C v = C v × Apart p f Heads v

    step : (C : VarId → Type 0) (b : Placed) (x : VarId) → IsOf b (stmts_placed Next rest) → ((r : TRegion) → IsOf r m.regions → covers p r b.id ≡ true → r.first ≡ id → ⊥) → C x × Later id b x →
        C' C x × Later mid b x
    step C b x i never h =
        let q = pass spot id line k mid end laid one sub_kind free Next b x free (sub b (in_rest b i)) (lies_rest b i) never h.1 in
        ((h.0, q.0), q.1)

    -- a region that ends here covers nothing behind
    ends_before : (r : TRegion) (b : Placed) → IsOf r m.regions → IsOf b (stmts_placed Next rest) → r.last ≤ id → covers p r b.id ≡ true → ⊥
    ends_before r b i j l e =
        let t = chain r mid end Next b i (sub b (in_rest b j)) (lies_rest b j) free e in
        let h = t.1.high in
        let u = here.up in
        omega (arith, h, l, u, t.2)

    abbrev Result : (C0 C : VarId → Type 0) → (inside o e : Option ℕ) → Type 0
    Result C0 C inside o e =
        OkStep m guarded f inside o (AllTargets m guarded f C0 Heads) (AllTargets m guarded f C Heads) (OkOwn m guarded f C (effect_of p This) × OkKind m guarded f C spot id line k)
        × OkStmts m guarded f (next_mode inside o e) (OkClean m guarded f inside C0 C o) (C' C) Next rest

    module _ (C0 C : VarId → Type 0) (later : (inside : Option ℕ) (D : VarId → Type 0) → State inside mid D (C' C) Next (stmts_placed Next rest) → OkStmts m guarded f inside D (C' C) Next rest)
        (inner : begun_by m.regions id ≡ None → Clear m id spot.block → FitsOut C id (stmts_placed spot (more (stmt id line k) rest)) → OkKind m guarded f C spot id line k) where
      -- all targets of the statement and of those inside
      fits_all : (D : VarId → Type 0) → ((b : Placed) (x : VarId) → IsOf b (stmts_placed spot (more (stmt id line k) rest)) → Target p f (effect_of p b) x → D x) → AllTargets m guarded f D Heads
      fits_all D h a x i t = h i.0 x (in_own i.0 i.1) (subst (λ (z : TEffect). Target p f z x) i.2 t)

      plain_step : (e : Option ℕ) → begun_by m.regions id ≡ None → ended_by m.regions id ≡ e → State None id C0 C spot (stmts_placed spot (more (stmt id line k) rest)) → Result C0 C None None e
      plain_step e n q s =
          let st : State None mid C0 (C' C) Next (stmts_placed Next rest) =
          (here.clear_on s.0 (λ r i a l. begun_none m.regions id r n i a), λ b x i t. step C b x i (λ r j c a. begun_none m.regions id r n j a) (s.1 b x (in_rest b i) t)) in
          (((λ x t. (s.1 This x (inl refl) t).0, free_call n s.0), inner n s.0 s.1), go e st)
        where
          go : (e : Option ℕ) → State None mid C0 (C' C) Next (stmts_placed Next rest) → OkStmts m guarded f (next_mode None None e) C0 (C' C) Next rest
          go None st = later None C0 st
          go (Some z) st = later None C0 st

      begin_step : (q : ℕ) (e : Option ℕ) → begun_by m.regions id ≡ Some q → ended_by m.regions id ≡ e → State None id C0 C spot (stmts_placed spot (more (stmt id line k) rest)) →
          Result C0 C None (Some q) e
      begin_step q None n z s = (fits_all C (λ b x i t. (s.1 b x i t).0), later (Some q) C (r.0, here.starts r.0 r.1 r.2 z, fits))
        where
          r : (r : TRegion) × IsOf r m.regions × (r.first ≡ id)
          r = begun_some m.regions id q n

          by : (b : Placed) (x : VarId) → IsOf b (stmts_placed Next rest) → C x → Later id b x → (covers p r.0 b.id ≡ true) ⊎ (C' C x × Later mid b x)
          by b x i c (inl none) = inr ((c, apart_all Heads x (λ a h. (heads_low spot id line k mid end laid one sub_kind free a h).0) none), inl none)
          by b x i c (inr met) = at_or met.0 met.1 met.2 (either id met.0.first)
            where
              at_or : (v : TRegion) → MetBy v b x → id ≤ v.first → (v.first ≤ id) ⊎ (id < v.first) → (covers p r.0 b.id ≡ true) ⊎ (C' C x × Later mid b x)
              at_or v w h (inl y) =
                  let same : v ≡ r.0 = here.same v r.0 w.0 r.1 (here.begins v w.0 (omega (arith, h, y))) (here.begins r.0 r.1 r.2) in
                  inl (subst (λ (z : TRegion). covers p z b.id ≡ true) same w.1)
              at_or v w h (inr y) =
                  let q = pass_by spot id line k mid end laid one sub_kind free Next b x free (sub b (in_rest b i)) (lies_rest b i) v w (omega (arith, y)) in
                  inr ((c, q.0), q.1)

          fits : FitsIn r.0 C (C' C) mid (stmts_placed Next rest)
          fits b x i t = let h = s.1 b x (in_rest b i) t in (h.0, by b x i h.0 h.1)
      begin_step q (Some y) n z s = (fits_all C (λ b x i t. (s.1 b x i t).0), later None C (clear, fits))
        where
          clear : Clear m mid spot.block
          clear = here.clear_on s.0 (λ r i e h. let l = here.short y z r i e in let u = here.up in omega (arith, l, h, u))

          fits : FitsOut (C' C) mid (stmts_placed Next rest)
          fits b x i t = step C b x i (λ v j c e. let l = here.short y z v j e in ends_before v b j i (omega (arith, l)) c) (s.1 b x (in_rest b i) t)

      open_step : (q : ℕ) (o e : Option ℕ) → begun_by m.regions id ≡ o → ended_by m.regions id ≡ e → State (Some q) id C0 C spot (stmts_placed spot (more (stmt id line k) rest)) →
          Result C0 C (Some q) o e
      open_step q (Some y) e n z s = absurd (here.no_other s.0 s.1 y n)
      open_step q None None n z s = (fits_all C0 (λ b x i t. (s.2 b x i t).0), later (Some q) C0 (s.0, here.goes_on s.0 s.1 z, fits))
        where
          by : (b : Placed) (x : VarId) → IsOf b (stmts_placed Next rest) → (covers p s.0 b.id ≡ true) ⊎ (C x × Later id b x) → (covers p s.0 b.id ≡ true) ⊎ (C' C x × Later mid b x)
          by b x i (inl c) = inl c
          by b x i (inr h) = inr (step C b x i (λ r j c a. begun_none m.regions id r n j a) h)

          fits : FitsIn s.0 C0 (C' C) mid (stmts_placed Next rest)
          fits b x i t = let h = s.2 b x (in_rest b i) t in (h.0, by b x i h.1)
      open_step q None (Some y) n z s = (fits_all C0 (λ b x i t. (s.2 b x i t).0), later None C0 (here.clear_behind s.0 s.1 y z, fits))
        where
          by : (b : Placed) (x : VarId) → IsOf b (stmts_placed Next rest) → (covers p s.0 b.id ≡ true) ⊎ (C x × Later id b x) → C' C x × Later mid b x
          by b x i (inl c) = absurd (let e = here.ends s.0 s.1 y z in ends_before s.0 b s.1.one i (omega (arith, e)) c)
          by b x i (inr h) = step C b x i (λ r j c a. begun_none m.regions id r n j a) h

          fits : FitsOut (C' C) mid (stmts_placed Next rest)
          fits b x i t = let h = s.2 b x (in_rest b i) t in by b x i h.1

      none_step : (o e : Option ℕ) → begun_by m.regions id ≡ o → ended_by m.regions id ≡ e → State None id C0 C spot (stmts_placed spot (more (stmt id line k) rest)) → Result C0 C None o e
      none_step None e n z s = plain_step e n z s
      none_step (Some q) e n z s = begin_step q e n z s

      ok_step : (inside : Option ℕ) → State inside id C0 C spot (stmts_placed spot (more (stmt id line k) rest)) → OkStmts m guarded f inside C0 C spot (more (stmt id line k) rest)
      ok_step None s = none_step (begun_by m.regions id) (ended_by m.regions id) refl refl s
      ok_step (Some q) s = open_step q (begun_by m.regions id) (ended_by m.regions id) refl refl s

    -- what stands in it, where no region begins with it
    kids : (C : VarId → Type 0) → begun_by m.regions id ≡ None → FitsOut C id (stmts_placed spot (more (stmt id line k) rest)) → FitsOut C (suc id) (kind_placed spot id k)
    kids C e h b x i t = let q = h b x (in_own b (inr i)) t in (q.0, by q.1)
      where
        by : Later id b x → Later (suc id) b x
        by (inl none) = inl none
        by (inr met) = inr (met.0, met.1, let n : met.0.first ≡ id → ⊥ = (λ a. begun_none m.regions id met.0 e met.1.0 a) in let l = met.2 in grind (arith, n, l))

  -- ---- loops

  loop_at : (b : Placed) → IsOf b body → (effect_of p b).is_loop ≡ true → is_loop_at p f b.id ≡ true
  loop_at b i e = any_in (λ a. is_numbered b.id a && a.is_loop) (effects_at p f) (effect_of p b) (facts.effect b i) (both (nat_eq b.id b.id) (effect_of p b).is_loop (grind arith) e)
    where
      both : (x y : Bool) → x ≡ true → y ≡ true → x && y ≡ true
      both true true a c = refl
      both true false a c = absurd (true≢false (sym c))
      both false y a c = absurd (true≢false (sym a))

  -- a region inside a loop begins behind it, so what its inputs are carried by is declared in the loop
  calm : (id : ℕ) (bs : List Placed) → is_loop_at p f id ≡ true → ((b : Placed) → IsOf b bs → IsOf b body × IsOf id b.at.around) → (b : Placed) (x : VarId) → Later (suc id) b x →
      Calm p f id (IsEffectAmong p bs) x
  calm id bs l h b x (inl none) a u w i br fl fl' = absurd (none a u (subst All (sym i.2) (facts.effect i.0 (h i.0 i.1).0)) br (flow_on p x fl fl'))
  calm id bs l h b x (inr met) a u w i br fl fl' = by (is_outside p f id w) refl
    where
      all : All a
      all = subst All (sym i.2) (facts.effect i.0 (h i.0 i.1).0)

      in_loop' : IsOf id a.around
      in_loop' = subst (λ (z : TEffect). IsOf id z.around) (sym i.2) (h i.0 i.1).1

      by : (b : Bool) → is_outside p f id w ≡ b → b ≡ false
      by false e = refl
      by true e =
          let s = facts.site_lifted a u w x id all in_loop' l fl fl' e in
          let c = no_later met.0 (site p f a u x) (met.1.2 a u all (facts.input a u x all br (flow_on p x fl fl'))) in
          let k = met.2 in
          absurd (omega (arith, s, c, k))

  -- behind a part with blocks of its own
  later_behind : (n mid k : ℕ) (spot : Spot) (b : Placed) (x : VarId) → IsOf b body → IsClosed p n mid → Lies mid k spot b → Free spot → Later n b x → Later mid b x
  later_behind n mid k spot b x i c l free (inl none) = inl none
  later_behind n mid k spot b x i c l free (inr met) = inr (met.0, met.1, push met.0 n mid k spot b met.1.0 i c l free met.1.1 met.2)

  mutual
    ok_kind : (C : VarId → Type 0) (spot : Spot) (id line : ℕ) (k : TKind) (mid : ℕ) → LaidKind p (suc id) k mid → IsOf (record { id = id; line = line; kind = k; at = spot }) body →
        ((b : Placed) → IsOf b (kind_placed spot id k) → IsOf b body) → Free (in_branch spot id) →
        ((x : VarId) → Target p f (effect_of p (record { id = id; line = line; kind = k; at = spot })) x → Apart p f All x) → FitsOut C (suc id) (kind_placed spot id k) →
        OkKind m guarded f C spot id line k
    ok_kind C spot id line (if_else c a b) mid laid this sub free own fits = (
      ok_block C (in_branch spot id) (suc id) a laid.0 laid.1 (λ z i. sub z (of_left z (block_placed (in_branch spot id) a) (else_placed (in_branch spot id) b) i)) free
          (λ z x i t. fits z x (of_left z (block_placed (in_branch spot id) a) (else_placed (in_branch spot id) b) i) t),
      ok_else C (in_branch spot id) laid.0 b mid laid.2 (λ z i. sub z (of_right z (block_placed (in_branch spot id) a) (else_placed (in_branch spot id) b) i)) free
          (λ z x i t. let h = fits z x (of_right z (block_placed (in_branch spot id) a) (else_placed (in_branch spot id) b) i) t in (
            h.0,
            later_behind (suc id) laid.0 mid (in_branch spot id) z x (sub z (of_right z (block_placed (in_branch spot id) a) (else_placed (in_branch spot id) b) i))
                (closed_block p (suc id) a laid.0 laid.1) (lies_else p laid.0 b mid (in_branch spot id) z laid.2 i) free h.1,
          )),
    )
    ok_kind C spot id line (for_in y c d b) mid laid this sub free own fits =
        ok_block (λ v. C v × Calm p f id (IsEffectAmong p (kind_placed spot id (for_in y c d b))) v) (in_loop spot id ((y, variables.Declared id) ∷ [])) (suc id) b mid laid sub free
        (λ z x i t. let h = fits z x i t in (
          (
            h.0,
            calm id (kind_placed spot id (for_in y c d b))
                (loop_at (record { id = id; line = line; kind = for_in y c d b; at = spot }) this refl)
                (λ e j. (sub e j, (lies_block p (suc id) b mid (in_loop spot id ((y, variables.Declared id) ∷ [])) e laid j).has id (inl refl))) z x h.1,
          ),
          h.1,
        ))
    ok_kind C spot id line (while_do c n b) mid laid this sub free own fits = (
      (λ x t a u w i br fl fl'. absurd (own x t a u (subst All (sym i.2) (facts.effect i.0 (sub i.0 i.1))) br (flow_on p x fl fl'))),
      ok_block (λ v. C v × Calm p f id (IsEffectAmong p (kind_placed spot id (while_do c n b))) v) (in_loop spot id []) (suc id) b mid laid sub free
          (λ z x i t. let h = fits z x i t in (
            (
              h.0,
              calm id (kind_placed spot id (while_do c n b))
                  (loop_at (record { id = id; line = line; kind = while_do c n b; at = spot }) this refl)
                  (λ e j. (sub e j, (lies_block p (suc id) b mid (in_loop spot id []) e laid j).has id (inl refl))) z x h.1,
            ),
            h.1,
          )),
    )
    ok_kind C spot id line k mid laid this sub free own fits = tt

    ok_else : (C : VarId → Type 0) (spot : Spot) (n : ℕ) (b : TElse) (k : ℕ) → LaidElse p n b k → ((z : Placed) → IsOf z (else_placed spot b) → IsOf z body) → Free spot →
        FitsOut C n (else_placed spot b) → OkElse m guarded f C spot b
    ok_else C spot n no_else k laid sub free fits = tt
    ok_else C spot n (else_do b) k laid sub free fits = ok_block C spot n b k laid sub free fits

    pub ok_block : (C : VarId → Type 0) (spot : Spot) (n : ℕ) (b : TBlock) (k : ℕ) → LaidBlock p n b k → ((z : Placed) → IsOf z (block_placed spot b) → IsOf z body) → Free spot →
        FitsOut C n (block_placed spot b) → OkBlock m guarded f C spot b
    ok_block C spot n (block bid no_stmts) k laid sub free fits = tt
    ok_block C spot n (block bid (more (stmt id line s) rest)) k laid sub free fits =
        ok_stmts None C C (record spot { block = bid }) n (more (stmt id line s) rest) k laid.1 sub free (
          λ r i e h l. absurd (let q = (laid.0 id r.first bid (let z = laid.1.0 in omega (arith, z)) (let u = up_kind p (suc id) s laid.1.1 laid.1.2 in let v =
              up_stmts p laid.1.1 rest k laid.1.3 in omega (arith, u, v))
              (ap (option_map (λ (a : Placed). a.at.block)) (facts.found (record { id = id; line = line; kind = s; at = record spot { block = bid } }) (sub _ (inl refl))))
              ((facts.region r i).1 ∙ ap Some e)).0 in omega (arith, q, h)),
          fits,
        )

    ok_stmts : (inside : Option ℕ) (C0 C : VarId → Type 0) (spot : Spot) (n : ℕ) (ss : TStmts) (k : ℕ) → LaidStmts p n ss k → ((z : Placed) → IsOf z (stmts_placed spot ss) → IsOf z body) → Free spot →
        State inside n C0 C spot (stmts_placed spot ss) → OkStmts m guarded f inside C0 C spot ss
    ok_stmts inside C0 C spot n no_stmts k laid sub free st = tt
    ok_stmts inside C0 C spot n (more (stmt id line s) rest) k laid sub free st =
        ok_step spot id line s rest laid.1 k laid.2 laid.3 sub free C0 C
        (λ next D st'. ok_stmts next D (λ v. C v × Apart p f (IsEffectAmong p (own_placed spot id line s)) v) (behind spot id s) laid.1 rest k laid.3
        (λ z i. sub z (in_rest spot id line s rest laid.1 k laid.2 laid.3 sub free z i)) free st')
        (λ e c fits. ok_kind C spot id line s laid.1 laid.2 (one spot id line s rest laid.1 k laid.2 laid.3 sub free) (sub_kind spot id line s rest laid.1 k laid.2 laid.3 sub free)
        (free_in spot id line s rest laid.1 k laid.2 laid.3 sub free e c)
        (λ x t. own_apart spot id line s rest laid.1 k laid.2 laid.3 sub free e c x (fits _ x (inl refl) t).1) (kids spot id line s rest laid.1 k laid.2 laid.3 sub free C e fits))
        inside (subst (λ z. State inside z C0 C spot (stmts_placed spot (more (stmt id line s) rest))) (sym laid.0) st)
