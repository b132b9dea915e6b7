-- In an execution of a region, all that a function adds is fine.
use Rattle.std.proofs.Common.{◌≡◌, inl, inr, ℕ, zero, suc, ◌+◌, ◌<◌, ◌≤◌, Bool, true, false, List, [], ◌∷◌, length, Option, Some, None, refl, sym, ap, ◌∙◌, subst, arith, append-nil}
use Rattle.std.specs.Prelude.{ℤ, pos, ◌+ℤ◌, ◌-ℤ◌, if◌then◌else◌}
use Rattle.oc_tree.specs.Names.{Text}
use Rattle.oc_tree.specs.Tree.{TExpr, TKind, if_else, for_in, while_do, TElse, no_else, else_do, stmt, TBlock, block, TStmts, no_stmts, more, TProgram}
use Rattle.oc_tree.specs.Places.{Place as Spot, Placed, behind, in_branch, in_loop, else_placed, block_placed, stmts_placed}
use Rattle.oc_tree.specs.Marked.{TMarked}
use Rattle.oc_tree.specs.declared.tree.VarId.{VarId}
use Rattle.oc_tree.specs.declared.tree.VarId.TheVariants as variables
use Rattle.oc_tree.specs.Samples.{union}
use Rattle.oc_meaning.specs.Uses.{is_fresh, is_use, use_samples, begins_use, ends_use}
use Rattle.oc_meaning.specs.Store.{Held, Turn, Nowhere, Store, Binding, held_at}
use Rattle.oc_meaning.specs.Eval.{is_zero, value_of}
use Rattle.oc_meaning.specs.Exec.{Outcome, Went, Returned, Stopped, Passed, then_do, finished, leave, used, done, closed, opened, begun_by, ended_by, for_turns}
use Rattle.oc_tree.specs.Weight.{count_of}
use Rattle.oc_meaning.specs.Exec.{while_turns, in_turn, grown, entered, kind_run, else_run, block_run, stmts_run}
use Rattle.oc_effects.specs.Effects.{TEffect, effect_of}
use Rattle.oc_flow.specs.Variables.{same_variable}
use Rattle.oc_tree.specs.Members.{IsOf}
use Rattle.oc_flow.specs.Relations.{Flow, itself}
use Rattle.oc_copies.specs.Copies.{HasStored}
use Rattle.oc_timely.specs.Within.{Where, samples_of, Comes, old, new, Came}
use Rattle.oc_timely.specs.Enough.{Target, next_mode, taken_in, is_open, since}
use Rattle.oc_timely.specs.Steps.{AreTaken}
use Rattle.oc_timely.specs.Modes.{AllFine, FineOut, Sees, CallFine, Flows, Goes, In, IsEffectAmong, own_placed, IsSteady, with_place, where_behind, IsStep, PairedKind, PairedElse, PairedBlock, PairedStmts}
use Rattle.oc_timely.proofs.Came.{flow_on}
use Rattle.oc_timely.proofs.Sampled.{in_union}
use Rattle.oc_timely.proofs.Marks.{IsLike, like_held, like_samples, sees_length, like_sees, sees_later, like_stored, IsQuiet, quiet_used, quiet_done, quiet_taken, sees_spot}
use Rattle.oc_timely.proofs.Marks.{quiet_entered, like_opened, like_closed, is_deep, begun_is, ended_is}
use Rattle.oc_timely.proofs.Straight.{fine_value, fine_used, fine_done, fine_closed, fine_opened, use_target, straight_fine}
use Rattle.oc_laws.proofs.Members.{of_left, of_right}
use Rattle.oc_flow.proofs.Lists.{same_is}

-- ---- outcomes

pub fine_then : (o : Outcome) (go : Store → Outcome) → FineOut o → ((τ : Store) → o ≡ Went τ → AllFine τ.events → FineOut (go τ)) → FineOut (then_do o go)
fine_then (Went τ) go a k = k τ refl a
fine_then (Returned v τ) go a k = a
fine_then (Stopped s τ) go a k = a

pub fine_finished : (o : Outcome) (after : Store → Store) (go : Store → Outcome) → FineOut o → ((τ : Store) → o ≡ Went τ → AllFine τ.events → FineOut (go (after τ))) →
    FineOut (then_do (finished after o) go)
fine_finished (Went τ) after go a k = k τ refl a
fine_finished (Returned v τ) after go a k = a
fine_finished (Stopped s τ) after go a k = a

pub fine_leave : (n : ℕ) (o : Outcome) → FineOut o → FineOut (leave n o)
fine_leave n (Went τ) a = a
fine_leave n (Returned v τ) a = a
fine_leave n (Stopped s τ) a = a

pub fine_if : (b : Bool) (o q : Outcome) → FineOut o → FineOut q → FineOut (if b then o else q)
fine_if true o q a c = a
fine_if false o q a c = c

-- ---- a turn's own variable holds no samples

pub turn_samples : (σ : Store) (w : Where) (id : ℕ) (i : ℤ) (v : VarId) (j : ℕ) → IsOf j (samples_of σ (with_place w id (Turn i)) v) → IsOf j (samples_of σ w v)
turn_samples σ w id i v j h = by (same_variable v (variables.Declared id)) h
  where
    by : (b : Bool) → IsOf j (held_at σ (if b then Turn i else w v)).samples → IsOf j (samples_of σ w v)
    by true k = absurd k
    by false k = k

pub samples_turn : (σ : Store) (w : Where) (id : ℕ) (i : ℤ) (v : VarId) (j : ℕ) → w (variables.Declared id) ≡ Nowhere → IsOf j (samples_of σ w v) → IsOf j (samples_of σ (with_place w id (Turn i)) v)
samples_turn σ w id i v j e h = by (same_variable v (variables.Declared id)) refl
  where
    by : (b : Bool) → same_variable v (variables.Declared id) ≡ b → IsOf j (held_at σ (if b then Turn i else w v)).samples
    by true q = absurd (subst (λ r. IsOf j (held_at σ r).samples) (ap w (same_is v (variables.Declared id) q) ∙ e) h)
    by false q = h

-- taken in the execution that is open
abbrev pub SinceAt : Store → ℕ → Type 0
SinceAt σ j = (is_open σ.events ≡ true) × (since σ.events ≤ j) × (j < taken_in σ.events)

pub since_quiet : (σ τ : Store) (j : ℕ) → IsQuiet σ τ → SinceAt σ j → SinceAt τ j
since_quiet σ τ j q s = (q.opened ∙ s.0, let e = q.since in omega (arith, e, s.1), let e = q.taken in omega (arith, e, s.2))

abbrev pub count_open : Option ℕ → ℕ
count_open None = 0
count_open (Some r) = 1

module _ (m : TMarked) (guarded : ℕ → Bool) (call : Text → List Passed → Store → Outcome) (home : ℤ → ℕ) (f base : ℕ) (body : List Placed) (calls : CallFine m guarded call home f base body)
    (flows : Flows m.program m.regions call home f base body) where
  abbrev p : TProgram
  p = m.program

  abbrev pub FitsAt : (VarId → Type 0) → (TEffect → Type 0) → Type 0
  FitsAt C P = (a : TEffect) (x : VarId) → P a → Target p f a x → C x

  -- a region is open, and n marks of the list's own; what has flowed to these variables was taken since
  pub record Open (C : VarId → Type 0) (w : Where) (n : ℕ) (σ : Store) : Type 0 where
    pub taken : AreTaken σ
    pub stored : HasStored p σ
    pub deep : n < σ.depth
    pub held : (x : VarId) → C x → (v : VarId) (j : ℕ) → IsOf j (samples_of σ w v) → Flow p f v x → since σ.events ≤ j
    pub all : AllFine σ.events

  pub open_less : (C : VarId → Type 0) (w : Where) (n k : ℕ) (σ : Store) → k ≤ n → Open C w n σ → Open C w k σ
  open_less C w n k σ h o = let d = o.deep in record { taken = o.taken; stored = o.stored; deep = omega (arith, h, d); held = o.held; all = o.all }

  pub open_quiet : (C : VarId → Type 0) (w : Where) (n : ℕ) (σ τ : Store) → IsQuiet σ τ → AllFine τ.events → Open C w n σ → Open C w n τ
  open_quiet C w n σ τ q a o = record {
    taken = quiet_taken σ τ q o.taken;
    stored = like_stored p σ τ q.like o.stored;
    deep = let d = o.deep in let e = q.depth in omega (arith, d, e);
    held = λ x c v j h fl. let l = o.held x c v j (like_samples σ τ q.like w v j h) fl in let e = q.since in omega (arith, l, e);
    all = a;
  }

  pub open_on : (C : VarId → Type 0) (P : TEffect → Type 0) (w w' : Where) (n : ℕ) (σ τ : Store) → Came p f base P w w' σ τ → IsSteady σ τ → AllFine τ.events → Open C w n σ → Open C w' n τ
  open_on C P w w' n σ τ r s a o = record {
    taken = s.taken;
    stored = r.stored ∙ o.stored;
    deep = let d = o.deep in let e = s.deep in omega (arith, d, e);
    held = λ x c v j h fl. go x c v j fl (r.within v j h);
    all = a;
  }
    where
      steady : since τ.events ≡ since σ.events
      steady = s.since (let d = o.deep in omega (arith, d))

      go : (x : VarId) → C x → (v : VarId) (j : ℕ) → Flow p f v x → Comes p f P (samples_of σ w) σ.taken v j → since τ.events ≤ j
      go x c v j fl (old u i fl') = let l = o.held x c u j i (flow_on p x fl' fl) in let e = steady in omega (arith, l, e)
      go x c v j fl (new b u i br fl' le) = let l = o.taken.begun in let e = steady in omega (arith, l, e, le)

  pub open_opened : (C : VarId → Type 0) (w : Where) (n : ℕ) (b : Option ℕ) (σ : Store) → Open C w n σ → Open C w (n + count_open b) (opened b σ)
  open_opened C w n None σ o = open_less C w n (n + 0) σ (omega arith) o
  open_opened C w n (Some r) σ o =
      let b = begun_is r σ o.taken in
      let d = o.deep in
      record {
        taken = b.taken;
        stored = o.stored;
        deep = let e = b.deep in omega (arith, d, e);
        held = λ x c v j h fl. let l = o.held x c v j h fl in let e = b.still (omega (arith, d)) in omega (arith, l, e);
        all = fine_opened (Some r) σ o.all;
      }

  pub open_closed : (C : VarId → Type 0) (w : Where) (inside begun ended : Option ℕ) (σ : Store) → IsStep inside begun ended → Open C w (count_open inside + count_open begun) σ →
      Open C w (count_open (next_mode inside begun ended)) (closed ended σ)
  open_closed C w (Some r) (Some q) ended σ s o = absurd s
  open_closed C w None None (Some r) σ s o = absurd s
  open_closed C w None None None σ s o = o
  open_closed C w None (Some q) None σ s o = o
  open_closed C w (Some r) None None σ s o = open_less C w 1 1 σ (omega arith) o
  open_closed C w None (Some q) (Some r) σ s o = ends r σ o
    where
      ends : (r : ℕ) (σ : Store) → Open C w 1 σ → Open C w 0 (closed (Some r) σ)
      ends r σ o =
          let d = o.deep in
          let e = ended_is r σ o.taken (omega (arith, d)) in
          record {
            taken = e.taken;
            stored = o.stored;
            deep = let l = e.deep in omega (arith, d, l);
            held = λ x c v j h fl. let l = o.held x c v j h fl in let k = e.still in
                omega (arith, l, k);
            all = fine_closed (Some r) σ o.all;
          }
  open_closed C w (Some q) None (Some r) σ s o = ends r σ o
    where
      ends : (r : ℕ) (σ : Store) → Open C w 1 σ → Open C w 0 (closed (Some r) σ)
      ends r σ o =
          let d = o.deep in
          let e = ended_is r σ o.taken (omega (arith, d)) in
          record {
            taken = e.taken;
            stored = o.stored;
            deep = let l = e.deep in omega (arith, d, l);
            held = λ x c v j h fl. let l = o.held x c v j h fl in let k = e.still in
                omega (arith, l, k);
            all = fine_closed (Some r) σ o.all;
          }

  pub fits_part : (C : VarId → Type 0) (bs cs : List Placed) → ((b : Placed) → IsOf b bs → IsOf b cs) → FitsAt C (IsEffectAmong p cs) → FitsAt C (IsEffectAmong p bs)
  fits_part C bs cs h k a x i t = k a x (i.0, h i.0 i.1, i.2) t

  -- a target's samples are since
  pub open_since : (C : VarId → Type 0) (w : Where) (n k : ℕ) (spot : Spot) (env : List Binding) (σ : Store) → Sees p f base k spot env w σ → Open C w n σ → (x : VarId) → C x → (j : ℕ) →
      IsOf j (samples_of σ w x) → SinceAt σ j
  open_since C w n k spot env σ s o x c j h = elim (s.owns.known x) [
    | inl e ↦ absurd (subst (λ q. IsOf j (held_at σ q).samples) e h)
    | inr v ↦
        let a = o.taken.held (w x) j h in
        let e = o.taken.count in
        (is_deep σ o.taken (let d = o.deep in omega (arith, d)), o.held x c x j h (itself v), omega (arith, a, e))
  ]

  -- it stays so
  pub since_on : (P : TEffect → Type 0) (w w' : Where) (σ τ : Store) (j : ℕ) → AreTaken σ → 0 < σ.depth → Came p f base P w w' σ τ → IsSteady σ τ → SinceAt σ j → SinceAt τ j
  since_on P w w' σ τ j t d r s h =
      let e = s.since d in
      let l = r.later in
      let a = t.count in
      let b = s.taken.count in
      let z = s.deep in
      (is_deep τ s.taken (omega (arith, d, z)), omega (arith, e, h.1), omega (arith, l, a, b, h.2))

  -- those of the uses of a statement
  pub use_open : (C : VarId → Type 0) (w : Where) (n : ℕ) (b : Placed) (bs : List Placed) (env : List Binding) (σ τ : Store) → Sees p f base b.id b.at env w σ → IsLike σ τ → Open C w n τ → IsOf b bs →
      FitsAt C (IsEffectAmong p bs) → (j : ℕ) → IsOf j (use_samples env b.kind σ) → SinceAt τ j
  use_open C w n b bs env σ τ s l o i fit j h =
      let u = use_target p f base b.id b env w σ s j h in
      open_since C w n b.id b.at env τ (like_sees p f base b.id b.at env w σ τ l s) o u.0 (fit (effect_of p b) u.0 (b, i, refl) u.1) j
      (subst (λ (x : Held). IsOf j x.samples) (sym (like_held σ τ l (w u.0))) u.2)

  module _ (C : VarId → Type 0) where
    module _ (spot : Spot) (id line : ℕ) (env : List Binding) (w : Where) where
      -- the turns of a `for`
      for_open : (x : Text) (c d : ℤ) (b : TBlock) → In m.program m.regions call home f base body (own_placed spot id line (for_in x c d b)) → PairedBlock m.regions (suc id) b →
          ((i : ℤ) (σ : Store) → Sees p f base (suc id) (in_loop spot id ((x, variables.Declared id) ∷ [])) (in_turn x i ∷ env) (with_place w id (Turn i)) σ
          → Open C (with_place w id (Turn i)) 0 σ → FineOut (block_run p.names m.regions call home (in_turn x i ∷ env) b σ)) →
          (t : ℕ) (i : ℤ) (σ : Store) → Sees p f base id spot env w σ → Open C w 0 σ → FineOut (for_turns t i (λ i. block_run p.names m.regions call home (in_turn x i ∷ env) b) σ)
      for_open x c d b sub pair each zero i σ s o = o.all
      for_open x c d b sub pair each (suc t) i σ s o =
          let s' = flows.turn spot id line x c d b (sub _ (inl refl)) env w σ i s in
          let o' : Open C (with_place w id (Turn i)) 0 σ =
          record { taken = o.taken; stored = o.stored; deep = o.deep; held = λ y k v j h fl. o.held y k v j (turn_samples σ w id i v j h) fl; all = o.all } in
          fine_then (block_run p.names m.regions call home (in_turn x i ∷ env) b σ) _ (each i σ s' o') (λ τ e a.
          let r = flows.block (in_loop spot id ((x, variables.Declared id) ∷ [])) (suc id) b (λ z h. sub z (inr h)) pair (in_turn x i ∷ env) (with_place w id (Turn i)) σ τ s' o.taken o.stored e in
          let q = open_on C _ (with_place w id (Turn i)) (with_place w id (Turn i)) 0 σ τ r.0 r.1 a o' in
          let gone : w (variables.Declared id) ≡ Nowhere = elim (s.older id) [ inl g ↦ g | inr l ↦ absurd (omega (arith, l)) ] in
          for_open x c d b sub pair each t (i +ℤ pos 1) τ (sees_length p f base id spot env w σ τ r.2 s)
          (record { taken = q.taken; stored = q.stored; deep = q.deep; held = λ y k v j h fl. q.held y k v j (samples_turn τ w id i v j gone h) fl; all = q.all }))

      -- those of a `while`
      while_open : (c : TExpr) (z : ℕ) (b : TBlock) → In m.program m.regions call home f base body (own_placed spot id line (while_do c z b)) → PairedBlock m.regions (suc id) b →
          FitsAt C (IsEffectAmong p (own_placed spot id line (while_do c z b))) →
          ((σ : Store) → Sees p f base (suc id) (in_loop spot id []) env w σ → Open C w 0 σ → FineOut (block_run p.names m.regions call home env b σ)) →
          (t : ℕ) (before : List ℕ) (σ : Store) → ((j : ℕ) → IsOf j before → SinceAt σ j) → Sees p f base id spot env w σ → Open C w 0 σ →
          FineOut (while_turns t id (is_use (is_fresh env) (while_do c z b)) (use_samples env (while_do c z b)) (λ τ. value_of env τ c) (block_run p.names m.regions call home env b) before σ)
      while_open c z b sub pair fit each zero before σ h s o = fine_done (is_use (is_fresh env) (while_do c z b)) id before σ h o.all
      while_open c z b sub pair fit each (suc t) before σ h s o =
          fine_value (value_of env first c) id first _ seen.all (λ v.
          fine_if (is_zero v.num) (Went (done is id (union before (use_samples env (while_do c z b) σ)) first)) _
          (fine_done is id (union before (use_samples env (while_do c z b) σ)) first all_since seen.all)
          (fine_then (block_run p.names m.regions call home env b first) _ (each first inner seen) (λ τ e a.
          let r = flows.block (in_loop spot id []) (suc id) b (λ y i. sub y (inr i)) pair env w first τ inner seen.taken seen.stored e in
          while_open c z b sub pair fit each t (union before (use_samples env (while_do c z b) σ)) τ
          (λ j i. since_on _ w w first τ j seen.taken seen.deep r.0 r.1 (all_since j i))
          (sees_length p f base id spot env w first τ r.2 outer)
          (open_on C _ w w 0 first τ r.0 r.1 a seen))))
        where
          is : Bool
          is = is_use (is_fresh env) (while_do c z b)

          first : Store
          first = used is id (use_samples env (while_do c z b) σ) σ

          quiet : IsQuiet σ first
          quiet = quiet_used is id (use_samples env (while_do c z b) σ) σ

          now : (j : ℕ) → IsOf j (use_samples env (while_do c z b) σ) → SinceAt σ j
          now j i =
              use_open C w 0 (record { id = id; line = line; kind = while_do c z b; at = spot }) (own_placed spot id line (while_do c z b)) env σ σ s
              (record { locals = refl; nv = refl; taken = refl }) o (inl refl) fit j i

          all_since : (j : ℕ) → IsOf j (union before (use_samples env (while_do c z b) σ)) → SinceAt first j
          all_since j i = elim (in_union j before (use_samples env (while_do c z b) σ) i) [ inl k ↦ since_quiet σ first j quiet (h j k) | inr k ↦ since_quiet σ first j quiet (now j k) ]

          seen : Open C w 0 first
          seen = open_quiet C w 0 σ first quiet (fine_used is id (use_samples env (while_do c z b) σ) σ now o.all) o

          outer : Sees p f base id spot env w first
          outer = like_sees p f base id spot env w σ first quiet.like s

          inner : Sees p f base (suc id) (in_loop spot id []) env w first
          inner = sees_later p f base id (suc id) (in_loop spot id []) env w first (omega arith) (sees_spot p f base id spot (in_loop spot id []) env w first (append-nil spot.variables) outer)

    -- a statement of a list: where it begins, and behind it
    module _ (spot : Spot) (id line : ℕ) (k : TKind) (rest : TStmts) (inside : Option ℕ) (env : List Binding) (w : Where) (σ : Store) (s : Sees p f base id spot env w σ)
        (o : Open C w (count_open inside) σ) (sub : In m.program m.regions call home f base body (stmts_placed spot (more (stmt id line k) rest)))
        (fit : FitsAt C (IsEffectAmong p (stmts_placed spot (more (stmt id line k) rest)))) where
      abbrev begun : Option ℕ
      begun = begun_by m.regions id

      abbrev ended : Option ℕ
      ended = ended_by m.regions id

      abbrev marked : Store
      marked = opened begun σ

      abbrev uses : List ℕ
      uses = use_samples env k σ

      abbrev pub start : Store
      start = used (begins_use (is_fresh env) k) id uses marked

      at_mark : Open C w (count_open inside + count_open begun) marked
      at_mark = open_opened C w (count_open inside) begun σ o

      uses_then : (j : ℕ) → IsOf j uses → SinceAt marked j
      uses_then j h =
          use_open C w (count_open inside + count_open begun) (record { id = id; line = line; kind = k; at = spot }) (stmts_placed spot (more (stmt id line k) rest)) env σ marked s
          (like_opened begun σ) at_mark (inl refl) fit j h

      quiet : IsQuiet marked start
      quiet = quiet_used (begins_use (is_fresh env) k) id uses marked

      at_start : Open C w (count_open inside + count_open begun) start
      at_start = open_quiet C w (count_open inside + count_open begun) marked start quiet (fine_used (begins_use (is_fresh env) k) id uses marked uses_then at_mark.all) at_mark

      pub sees_start : Sees p f base id spot env w start
      sees_start = like_sees p f base id spot env w marked start quiet.like (like_sees p f base id spot env w σ marked (like_opened begun σ) s)

      same_length : length σ.locals ≡ length start.locals
      same_length = ap (λ (xs : List Held). length xs) (sym (quiet.like.locals ∙ (like_opened begun σ).locals))

      pub open_start : Open C w 0 start
      open_start = open_less C w (count_open inside + count_open begun) 0 start (omega arith) at_start

      abbrev pub after : Store → Store
      after τ = closed ended (done (ends_use (is_fresh env) k) id uses τ)

      module _ (pair : PairedKind m.regions (suc id) k) (τ : Store) (e : kind_run p.names m.regions call home env id k start ≡ Went τ) (a : AllFine τ.events) where
        gone : Goes m.program m.regions call home f base body spot id line k rest env w σ start τ
        gone = flows.goes spot id line k rest sub pair env w σ start τ same_length sees_start at_start.taken at_start.stored e

        at_end : Open C (where_behind w id k σ) (count_open inside + count_open begun) τ
        at_end = open_on C (IsEffectAmong p (own_placed spot id line k)) w (where_behind w id k σ) (count_open inside + count_open begun) start τ gone.came gone.steady a at_start

        uses_still : (j : ℕ) → IsOf j uses → SinceAt τ j
        uses_still j h = since_on (IsEffectAmong p (own_placed spot id line k)) w (where_behind w id k σ) start τ j at_start.taken (let d = at_start.deep in omega (arith, d)) gone.came
            gone.steady (since_quiet marked start j quiet (uses_then j h))

        abbrev used_up : Store
        used_up = done (ends_use (is_fresh env) k) id uses τ

        at_done : Open C (where_behind w id k σ) (count_open inside + count_open begun) used_up
        at_done =
            open_quiet C (where_behind w id k σ) (count_open inside + count_open begun) τ used_up (quiet_done (ends_use (is_fresh env) k) id uses τ)
            (fine_done (ends_use (is_fresh env) k) id uses τ uses_still a) at_end

        pub open_after : IsStep inside begun ended → Open C (where_behind w id k σ) (count_open (next_mode inside begun ended)) (after τ)
        open_after h = open_closed C (where_behind w id k σ) inside begun ended used_up h at_done

        pub sees_after : Sees p f base (suc id) (behind spot id k) (grown k rest env σ) (where_behind w id k σ) (after τ)
        sees_after = like_sees p f base (suc id) (behind spot id k) (grown k rest env σ) (where_behind w id k σ) used_up (after τ) (like_closed ended used_up)
            (like_sees p f base (suc id) (behind spot id k) (grown k rest env σ) (where_behind w id k σ) τ used_up (quiet_done (ends_use (is_fresh env) k) id uses τ).like gone.sees)

    branch_sees : (spot : Spot) (id : ℕ) (env : List Binding) (w : Where) (σ : Store) → Sees p f base id spot env w σ → Sees p f base (suc id) (in_branch spot id) env w σ
    branch_sees spot id env w σ s = sees_later p f base id (suc id) (in_branch spot id) env w σ (omega arith) (sees_spot p f base id spot (in_branch spot id) env w σ refl s)

    abbrev InBody : List Placed → Type 0
    InBody bs = In m.program m.regions call home f base body bs

    mutual
      pub kind_open : (spot : Spot) (id line : ℕ) (k : TKind) → InBody (own_placed spot id line k) → PairedKind m.regions (suc id) k → FitsAt C (IsEffectAmong p (own_placed spot id line k)) →
          (env : List Binding) (w : Where) (σ : Store) → Sees p f base id spot env w σ → Open C w 0 σ → FineOut (kind_run p.names m.regions call home env id k σ)
      kind_open spot id line (if_else c a b) sub pair fit env w σ s o =
          fine_value (value_of env σ c) id σ _ o.all (λ v. fine_if (is_zero v.num) (else_run p.names m.regions call home env b σ) (block_run p.names m.regions call home env a σ)
          (else_open (in_branch spot id) (suc id) b (λ z h. sub z (inr (of_right z (block_placed (in_branch spot id) a) (else_placed (in_branch spot id) b) h))) pair.1
          (fits_part C (else_placed (in_branch spot id) b) (own_placed spot id line (if_else c a b))
          (λ z h. inr (of_right z (block_placed (in_branch spot id) a) (else_placed (in_branch spot id) b) h)) fit) env w σ (branch_sees spot id env w σ s) o)
          (block_open (in_branch spot id) (suc id) a (λ z h. sub z (inr (of_left z (block_placed (in_branch spot id) a) (else_placed (in_branch spot id) b) h))) pair.0
          (fits_part C (block_placed (in_branch spot id) a) (own_placed spot id line (if_else c a b))
          (λ z h. inr (of_left z (block_placed (in_branch spot id) a) (else_placed (in_branch spot id) b) h)) fit) env w σ (branch_sees spot id env w σ s) o))
      kind_open spot id line (for_in x c d b) sub pair fit env w σ s o =
          for_open spot id line env w x c d b sub pair
          (λ i τ s' o'. block_open (in_loop spot id ((x, variables.Declared id) ∷ [])) (suc id) b (λ z h. sub z (inr h)) pair
          (fits_part C (block_placed (in_loop spot id ((x, variables.Declared id) ∷ [])) b) (own_placed spot id line (for_in x c d b)) (λ z h. inr h) fit) (in_turn x i ∷ env)
          (with_place w id (Turn i)) τ s' o') (count_of (d -ℤ c)) c σ s o
      kind_open spot id line (while_do c t b) sub pair fit env w σ s o =
          while_open spot id line env w c t b sub pair fit
          (λ τ s' o'. block_open (in_loop spot id []) (suc id) b (λ z h. sub z (inr h)) pair
          (fits_part C (block_placed (in_loop spot id []) b) (own_placed spot id line (while_do c t b)) (λ z h. inr h) fit) env w τ s' o') t [] σ (λ j h. absurd h) s o
      kind_open spot id line k sub pair fit env w σ s o =
          straight_fine m guarded call home f base body calls spot id line k env w σ tt (record {
            one = sub _ (inl refl);
            sees = s;
            taken = o.taken;
            stored = o.stored;
            deep = λ t e g. is_deep σ o.taken o.deep;
            held = λ x t j h. let a = open_since C w 0 id spot env σ s o x (fit _ x (_, inl refl, refl) t) j h in (a.0, a.1);
            all = o.all;
          })

      else_open : (spot : Spot) (n : ℕ) (b : TElse) → InBody (else_placed spot b) → PairedElse m.regions n b → FitsAt C (IsEffectAmong p (else_placed spot b)) → (env : List Binding) (w : Where) (σ : Store) →
          Sees p f base n spot env w σ → Open C w 0 σ → FineOut (else_run p.names m.regions call home env b σ)
      else_open spot n no_else sub pair fit env w σ s o = o.all
      else_open spot n (else_do b) sub pair fit env w σ s o = block_open spot n b sub pair fit env w σ s o

      pub block_open : (spot : Spot) (n : ℕ) (b : TBlock) → InBody (block_placed spot b) → PairedBlock m.regions n b → FitsAt C (IsEffectAmong p (block_placed spot b)) →
          (env : List Binding) (w : Where) (σ : Store) → Sees p f base n spot env w σ → Open C w 0 σ → FineOut (block_run p.names m.regions call home env b σ)
      block_open spot n (block bid ss) sub pair fit env w σ s o =
          fine_leave (length σ.locals) (stmts_run p.names m.regions call home env ss (entered bid σ))
          (stmts_open (record spot { block = bid }) n None ss sub pair fit env w (entered bid σ)
          (sees_spot p f base n spot (record spot { block = bid }) env w (entered bid σ) refl (like_sees p f base n spot env w σ (entered bid σ) (quiet_entered bid σ).like s))
          (open_quiet C w 0 σ (entered bid σ) (quiet_entered bid σ) o.all o))

      stmts_open : (spot : Spot) (n : ℕ) (inside : Option ℕ) (ss : TStmts) → InBody (stmts_placed spot ss) → PairedStmts m.regions n inside ss → FitsAt C (IsEffectAmong p (stmts_placed spot ss)) →
          (env : List Binding) (w : Where) (σ : Store) → Sees p f base n spot env w σ → Open C w (count_open inside) σ → FineOut (stmts_run p.names m.regions call home env ss σ)
      stmts_open spot n inside no_stmts sub pair fit env w σ s o = o.all
      stmts_open spot n inside (more (stmt id line k) rest) sub pair fit env w σ s o =
          let s' = sees_later p f base n id spot env w σ pair.0 s in
          fine_finished (kind_run p.names m.regions call home env id k (start spot id line k rest inside env w σ s' o sub fit))
          (after spot id line k rest inside env w σ s' o sub fit) (stmts_run p.names m.regions call home (grown k rest env σ) rest)
          (kind_open spot id line k (λ z h. sub z (of_left z (own_placed spot id line k) (stmts_placed (behind spot id k) rest) h)) pair.2
          (fits_part C (own_placed spot id line k) (stmts_placed spot (more (stmt id line k) rest))
          (λ z h. of_left z (own_placed spot id line k) (stmts_placed (behind spot id k) rest) h) fit) env w (start spot id line k rest inside env w σ s' o sub fit)
          (sees_start spot id line k rest inside env w σ s' o sub fit) (open_start spot id line k rest inside env w σ s' o sub fit))
          (λ τ e a. stmts_open (behind spot id k) (suc id) (next_mode inside (begun_by m.regions id) (ended_by m.regions id)) rest
          (λ z h. sub z (of_right z (own_placed spot id line k) (stmts_placed (behind spot id k) rest) h)) pair.3
          (fits_part C (stmts_placed (behind spot id k) rest) (stmts_placed spot (more (stmt id line k) rest))
          (λ z h. of_right z (own_placed spot id line k) (stmts_placed (behind spot id k) rest) h) fit)
          (grown k rest env σ) (where_behind w id k σ) (after spot id line k rest inside env w σ s' o sub fit τ)
          (sees_after spot id line k rest inside env w σ s' o sub fit pair.2 τ e a) (open_after spot id line k rest inside env w σ s' o sub fit pair.2 τ e a pair.1))
