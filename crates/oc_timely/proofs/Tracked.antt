-- A walk over a function's statements that keeps what is known of the tags of one set, with the names as they stand, what was taken, and where samples come from.
use Rattle.std.proofs.Common.{◌≡◌, ◌⊎◌, inl, inr, ℕ, zero, suc, ◌+◌, ◌<◌, ◌≤◌, Bool, true, List, [], ◌∷◌, length, Option, Some, None, refl, sym, ap, ◌∙◌, subst, arith}
use Rattle.std.proofs.Common.{append-nil, true≢false}
use Rattle.std.specs.Prelude.{ℤ, pos, ◌+ℤ◌, ◌-ℤ◌}
use Rattle.oc_tree.specs.Names.{Text}
use Rattle.oc_tree.specs.Tree.{TExpr, TCall, TRight, right_value, right_sense, right_call, TKind, let_to, let_array, assign, assign_index, assign_deref, if_else, for_in, while_do}
use Rattle.oc_tree.specs.Tree.{call_only, sense_only, emit, fresh, consistent, return, TElse, no_else, else_do, stmt, TBlock, block, TStmts, no_stmts, more, TProgram}
use Rattle.oc_tree.specs.Places.{Place as Spot, Placed, behind, in_branch, in_loop, kind_placed, else_placed, block_placed, stmts_placed}
use Rattle.oc_tree.specs.Marked.{TMarked}
use Rattle.oc_tree.specs.declared.tree.VarId.{VarId}
use Rattle.oc_tree.specs.declared.tree.VarId.TheVariants as variables
use Rattle.oc_tree.specs.Samples.{union}
use Rattle.oc_meaning.specs.Uses.{is_fresh, is_use, use_samples, begins_use, ends_use}
use Rattle.oc_meaning.specs.Store.{Held, Turn, Nowhere, Store, Binding, held_at, place_of}
use Rattle.oc_meaning.specs.Eval.{is_zero, value_of}
use Rattle.oc_meaning.specs.Exec.{Outcome, Went, Returned, Passed, number_in, used, done, closed, opened, begun_by, ended_by, for_turns, while_turns, in_turn, grown}
use Rattle.oc_tree.specs.Weight.{count_of}
use Rattle.oc_meaning.specs.Exec.{entered, tagged, call_run, right_run, kind_run, else_run, block_run, stmts_run}
use Rattle.oc_effects.specs.Effects.{TCalled, TEffect, right_call_of, call_of, effect_of, effects_at}
use Rattle.oc_tree.specs.Members.{IsOf}
use Rattle.oc_flow.specs.Relations.{Flow}
use Rattle.oc_copies.specs.Copies.{HasStored}
use Rattle.oc_timely.specs.Within.{Where, samples_of, Comes, old, new, Came}
use Rattle.oc_timely.specs.Enough.{Apart, Calm, next_mode, OkOwn, OkStep, OkClean, OkKind, OkElse, OkBlock, OkStmts}
use Rattle.oc_timely.specs.Steps.{AreTaken}
use Rattle.oc_timely.specs.Modes.{Sees, Flows, Goes, In, IsEffectAmong, own_placed, IsSteady, with_place, where_behind, IsStep, PairedKind, PairedElse, PairedBlock, PairedStmts}
use Rattle.oc_timely.proofs.Came.{flow_on}
use Rattle.oc_timely.proofs.Marks.{like_samples, sees_length, like_sees, sees_later, like_stored, IsQuiet, quiet_used, quiet_done, quiet_taken, sees_spot, quiet_entered}
use Rattle.oc_timely.proofs.Marks.{like_opened, like_closed, begun_is, ended_is}
use Rattle.oc_timely.proofs.Inside.{turn_samples, samples_turn, count_open}
use Rattle.oc_laws.proofs.Members.{of_left, of_right}
use Rattle.oc_timely.proofs.Closed.{IsClosed, KOut, k_opened, k_closed, k_used, k_done, k_put, k_then, k_finished, k_leave, k_result, k_value, k_if, k_sense, k_element}

-- ---- marks counted

opened_depth : (o : Option ℕ) (σ : Store) → (opened o σ).depth ≡ σ.depth + count_open o
opened_depth None σ = omega arith
opened_depth (Some r) σ = omega arith

closed_depth : (o : Option ℕ) (σ : Store) → count_open o ≤ σ.depth → (closed o σ).depth + count_open o ≡ σ.depth
closed_depth None σ h = omega arith
closed_depth (Some r) σ h = omega (arith, h)

step_count : (inside begun ended : Option ℕ) → IsStep inside begun ended → count_open inside + count_open begun ≡ count_open (next_mode inside begun ended) + count_open ended
step_count (Some r) (Some q) ended s = absurd s
step_count None None (Some r) s = absurd s
step_count (Some r) None None s = refl
step_count (Some r) None (Some q) s = refl
step_count None (Some q) None s = refl
step_count None (Some q) (Some r) s = refl
step_count None None None s = refl

module _ (K : Store → Type 0) (stays : IsClosed K) where
  abbrev Out : Outcome → Type 0
  Out o = KOut K o

  -- ---- the walk

  -- old : what flows into a variable of X has samples before T alone, and no statement brings it others
  module _ (m : TMarked) (guarded : ℕ → Bool) (call : Text → List Passed → Store → Outcome) (home : ℤ → ℕ) (f base : ℕ) (body : List Placed) (flows : Flows m.program m.regions call home f base body)
      (X : VarId → Type 0) (T : ℕ) (effect : (b : Placed) → IsOf b body → IsOf (effect_of m.program b) (effects_at m.program f))
      (apart : (x : VarId) → X x → Apart m.program f (λ a. IsOf a (effects_at m.program f)) x) where
    abbrev p : TProgram
    p = m.program

    abbrev pub AreOld : Where → Store → Type 0
    AreOld w σ = (x : VarId) → X x → (v : VarId) (j : ℕ) → IsOf j (samples_of σ w v) → Flow p f v x → j < T

    pub record Track (w : Where) (σ : Store) : Type 0 where
      pub taken : AreTaken σ
      pub stored : HasStored p σ
      pub old : AreOld w σ
      pub kept : K σ

    abbrev IsTold : Placed → Type 0
    IsTold b =
        (x : Text) (j : ℤ) → b.kind ≡ consistent x j → (env : List Binding) (w : Where) (σ : Store) → Sees p f base b.id b.at env w σ → Track w σ →
        K (tagged (home j) b.id (held_at σ (place_of env x)).samples σ)

    abbrev IsCalled : Placed → Type 0
    IsCalled b =
        (c : TCall) → call_of b.kind ≡ Some c → (env : List Binding) (w : Where) (σ : Store) → Sees p f base b.id b.at env w σ → Track w σ →
        ((t : TCalled) → (effect_of p b).call ≡ Some t → guarded t.function ≡ true → 0 < σ.depth) → Out (call_run p.names m.regions call home env b.id σ c)

    module _ (tags : (b : Placed) → IsOf b body → IsTold b) (calls : (b : Placed) → IsOf b body → IsCalled b) where
      track_quiet : (w : Where) (σ τ : Store) → IsQuiet σ τ → K τ → Track w σ → Track w τ
      track_quiet w σ τ q k t =
          record { taken = quiet_taken σ τ q t.taken; stored = like_stored p σ τ q.like t.stored; old = λ x c v j h fl. t.old x c v j (like_samples σ τ q.like w v j h) fl; kept = k }

      track_on : (bs : List Placed) (w w' : Where) (σ τ : Store) → In m.program m.regions call home f base body bs → Came p f base (IsEffectAmong p bs) w w' σ τ → IsSteady σ τ → K τ → Track w σ → Track w' τ
      track_on bs w w' σ τ sub r s k t = record { taken = s.taken; stored = r.stored ∙ t.stored; old = λ x c v j h fl. go x c v j fl (r.within v j h); kept = k }
        where
          go : (x : VarId) → X x → (v : VarId) (j : ℕ) → Flow p f v x → Comes p f (IsEffectAmong p bs) (samples_of σ w) σ.taken v j → j < T
          go x c v j fl (old u i fl') = t.old x c u j i (flow_on p x fl' fl)
          go x c v j fl (new b u i br fl' le) = absurd (apart x c b u (subst (λ (e : TEffect). IsOf e (effects_at p f)) (sym i.2) (effect i.0 (sub i.0 i.1))) br (flow_on p x fl' fl))

      track_opened : (w : Where) (o : Option ℕ) (σ : Store) → Track w σ → Track w (opened o σ)
      track_opened w None σ t = t
      track_opened w (Some r) σ t = record { taken = (begun_is r σ t.taken).taken; stored = t.stored; old = t.old; kept = k_opened K stays (Some r) σ t.kept }

      track_closed : (w : Where) (o : Option ℕ) (σ : Store) → count_open o ≤ σ.depth → Track w σ → Track w (closed o σ)
      track_closed w None σ l t = t
      track_closed w (Some r) σ l t = record { taken = (ended_is r σ t.taken (omega (arith, l))).taken; stored = t.stored; old = t.old; kept = k_closed K stays (Some r) σ t.kept }

      -- ---- modes: a region is open, or what is asked outside of regions holds

      abbrev Plain : (VarId → Type 0) → Spot → (id line : ℕ) → TKind → Type 0
      Plain C spot id line s = OkOwn m guarded f C (effect_of p (record { id = id; line = line; kind = s; at = spot })) × OkKind m guarded f C spot id line s

      mode_of : (inside begun : Option ℕ) (first here plain : Type 0) → OkStep m guarded f inside begun first here plain → (0 < count_open inside + count_open begun) ⊎ plain
      mode_of (Some r) begun first here plain ok = inl (omega arith)
      mode_of None (Some r) first here plain ok = inl (omega arith)
      mode_of None None first here plain ok = inr ok

      module _ (spot : Spot) (id line : ℕ) (env : List Binding) (w : Where) where
        abbrev There : TKind → Placed
        There s = record { id = id; line = line; kind = s; at = spot }

        abbrev Guards : TKind → Store → Type 0
        Guards s σ = (t : TCalled) → (effect_of p (There s)).call ≡ Some t → guarded t.function ≡ true → 0 < σ.depth

        right_track : (s : TKind) (r : TRight) → IsOf (There s) body → ((c : TCall) → r ≡ right_call c → call_of s ≡ Some c) → (σ : Store) → Sees p f base id spot env w σ → Track w σ → Guards s σ →
            Out (right_run p.names m.regions call home env id σ r)
        right_track s (right_value e) one k σ sees t guards = k_value K stays (value_of env σ e) id σ (λ v. Returned v σ) t.kept (λ v. t.kept)
        right_track s (right_sense z) one k σ sees t guards = k_sense K stays (number_in p.names.sensors z) σ.left σ t.kept
        right_track s (right_call c) one k σ sees t guards = calls (There s) one c (k c refl) env w σ sees t guards

        turns_track : (x : Text) (c d : ℤ) (b : TBlock) → In m.program m.regions call home f base body (own_placed spot id line (for_in x c d b)) → PairedBlock m.regions (suc id) b → (deep : ℕ) →
            ((i : ℤ) (σ : Store) → deep ≤ σ.depth → Sees p f base (suc id) (in_loop spot id ((x, variables.Declared id) ∷ [])) (in_turn x i ∷ env) (with_place w id (Turn i)) σ
            → Track (with_place w id (Turn i)) σ → Out (block_run p.names m.regions call home (in_turn x i ∷ env) b σ)) →
            (t : ℕ) (i : ℤ) (σ : Store) → deep ≤ σ.depth → Sees p f base id spot env w σ → Track w σ → Out (for_turns t i (λ i. block_run p.names m.regions call home (in_turn x i ∷ env) b) σ)
        turns_track x c d b sub pair deep each zero i σ l s o = o.kept
        turns_track x c d b sub pair deep each (suc t) i σ l s o =
            let s' = flows.turn spot id line x c d b (sub _ (inl refl)) env w σ i s in
            let o' : Track (with_place w id (Turn i)) σ = record { taken = o.taken; stored = o.stored; old = λ y k v j h fl. o.old y k v j (turn_samples σ w id i v j h) fl; kept = o.kept } in
            k_then K stays (block_run p.names m.regions call home (in_turn x i ∷ env) b σ) _ (each i σ l s' o') (λ τ e a.
            let r = flows.block (in_loop spot id ((x, variables.Declared id) ∷ [])) (suc id) b (λ z h. sub z (inr h)) pair (in_turn x i ∷ env) (with_place w id (Turn i)) σ τ s' o.taken o.stored e in
            let q = track_on (block_placed (in_loop spot id ((x, variables.Declared id) ∷ [])) b) (with_place w id (Turn i)) (with_place w id (Turn i)) σ τ (λ z h. sub z (inr h)) r.0 r.1 a o' in
            let gone : w (variables.Declared id) ≡ Nowhere = elim (s.older id) [ inl g ↦ g | inr l ↦ absurd (omega (arith, l)) ] in
            let depth = r.1.deep in
            turns_track x c d b sub pair deep each t (i +ℤ pos 1) τ (omega (arith, l, depth)) (sees_length p f base id spot env w σ τ r.2 s)
            (record { taken = q.taken; stored = q.stored; old = λ y k v j h fl. q.old y k v j (samples_turn τ w id i v j gone h) fl; kept = q.kept }))

        whiles_track : (c : TExpr) (z : ℕ) (b : TBlock) → In m.program m.regions call home f base body (own_placed spot id line (while_do c z b)) → PairedBlock m.regions (suc id) b → (deep : ℕ) →
            ((σ : Store) → deep ≤ σ.depth → Sees p f base (suc id) (in_loop spot id []) env w σ → Track w σ → Out (block_run p.names m.regions call home env b σ)) →
            (t : ℕ) (before : List ℕ) (σ : Store) → deep ≤ σ.depth → Sees p f base id spot env w σ → Track w σ →
            Out (while_turns t id (is_use (is_fresh env) (while_do c z b)) (use_samples env (while_do c z b)) (λ τ. value_of env τ c) (block_run p.names m.regions call home env b) before σ)
        whiles_track c z b sub pair deep each zero before σ l s o = k_done K stays (is_use (is_fresh env) (while_do c z b)) id before σ o.kept
        whiles_track c z b sub pair deep each (suc t) before σ l s o =
            k_value K stays (value_of env first c) id first _ seen.kept (λ v.
            k_if K stays (is_zero v.num) (Went (done is id (union before uses) first)) _
            (k_done K stays is id (union before uses) first seen.kept)
            (k_then K stays (block_run p.names m.regions call home env b first) _ (each first deeper inner seen) (λ τ e a.
            let r = flows.block (in_loop spot id []) (suc id) b (λ y i. sub y (inr i)) pair env w first τ inner seen.taken seen.stored e in
            let depth = r.1.deep in
            let d = deeper in
            whiles_track c z b sub pair deep each t (union before uses) τ (omega (arith, d, depth)) (sees_length p f base id spot env w first τ r.2 outer)
            (track_on (block_placed (in_loop spot id []) b) w w first τ (λ y i. sub y (inr i)) r.0 r.1 a seen))))
          where
            uses : List ℕ
            uses = use_samples env (while_do c z b) σ

            is : Bool
            is = is_use (is_fresh env) (while_do c z b)

            first : Store
            first = used is id uses σ

            quiet : IsQuiet σ first
            quiet = quiet_used is id uses σ

            seen : Track w first
            seen = track_quiet w σ first quiet (k_used K stays is id uses σ o.kept) o

            deeper : deep ≤ first.depth
            deeper = let e = quiet.depth in omega (arith, l, e)

            outer : Sees p f base id spot env w first
            outer = like_sees p f base id spot env w σ first quiet.like s

            inner : Sees p f base (suc id) (in_loop spot id []) env w first
            inner = sees_later p f base id (suc id) (in_loop spot id []) env w first (omega arith) (sees_spot p f base id spot (in_loop spot id []) env w first (append-nil spot.variables) outer)

      branch_sees : (spot : Spot) (id : ℕ) (env : List Binding) (w : Where) (σ : Store) → Sees p f base id spot env w σ → Sees p f base (suc id) (in_branch spot id) env w σ
      branch_sees spot id env w σ s = sees_later p f base id (suc id) (in_branch spot id) env w σ (omega arith) (sees_spot p f base id spot (in_branch spot id) env w σ refl s)

      abbrev InBody : List Placed → Type 0
      InBody bs = In m.program m.regions call home f base body bs

      -- a statement of a list

      module _ (spot : Spot) (id line : ℕ) (s : TKind) (rest : TStmts) (inside : Option ℕ) (C0 C : VarId → Type 0) (env : List Binding) (w : Where) (σ : Store) (sees : Sees p f base id spot env w σ)
          (t : Track w σ) (marks : count_open inside ≤ σ.depth)
          (sub : InBody (stmts_placed spot (more (stmt id line s) rest))) (pair : PairedKind m.regions (suc id) s)
          (step : IsStep inside (begun_by m.regions id) (ended_by m.regions id)) (mode : (count_open inside < σ.depth) ⊎ OkStmts m guarded f inside C0 C spot (more (stmt id line s) rest)) where
        abbrev begun : Option ℕ
        begun = begun_by m.regions id

        abbrev ended : Option ℕ
        ended = ended_by m.regions id

        abbrev marked : Store
        marked = opened begun σ

        abbrev uses : List ℕ
        uses = use_samples env s σ

        abbrev start : Store
        start = used (begins_use (is_fresh env) s) id uses marked

        quiet : IsQuiet marked start
        quiet = quiet_used (begins_use (is_fresh env) s) id uses marked

        at_start : Track w start
        at_start = let o = track_opened w begun σ t in track_quiet w marked start quiet (k_used K stays (begins_use (is_fresh env) s) id uses marked o.kept) o

        sees_start : Sees p f base id spot env w start
        sees_start = like_sees p f base id spot env w marked start quiet.like (like_sees p f base id spot env w σ marked (like_opened begun σ) sees)

        start_depth : start.depth ≡ σ.depth + count_open begun
        start_depth = quiet.depth ∙ opened_depth begun σ

        mode_start : (0 < start.depth) ⊎ Plain C spot id line s
        mode_start = by mode
          where
            is_deep : (0 < count_open inside + count_open begun) ⊎ Plain C spot id line s → (0 < start.depth) ⊎ Plain C spot id line s
            is_deep (inl l) = let e = start_depth in let k = marks in inl (omega (arith, l, e, k))
            is_deep (inr pl) = inr pl

            by : (count_open inside < σ.depth) ⊎ OkStmts m guarded f inside C0 C spot (more (stmt id line s) rest) → (0 < start.depth) ⊎ Plain C spot id line s
            by (inl l) = let e = start_depth in inl (omega (arith, l, e))
            by (inr ok) = is_deep (mode_of inside begun _ _ _ ok.0)

        same_length : length σ.locals ≡ length start.locals
        same_length = ap (λ (xs : List Held). length xs) (sym (quiet.like.locals ∙ (like_opened begun σ).locals))

        abbrev after : Store → Store
        after τ = closed ended (done (ends_use (is_fresh env) s) id uses τ)

        abbrev w' : Where
        w' = where_behind w id s σ

        module _ (τ : Store) (e : kind_run p.names m.regions call home env id s start ≡ Went τ) (a : K τ) where
          went : Goes m.program m.regions call home f base body spot id line s rest env w σ start τ
          went = flows.goes spot id line s rest sub pair env w σ start τ same_length sees_start at_start.taken at_start.stored e

          abbrev used_up : Store
          used_up = done (ends_use (is_fresh env) s) id uses τ

          quiet_end : IsQuiet τ used_up
          quiet_end = quiet_done (ends_use (is_fresh env) s) id uses τ

          end_depth : used_up.depth ≡ σ.depth + count_open begun
          end_depth = quiet_end.depth ∙ went.steady.deep ∙ start_depth

          at_end : Track w' used_up
          at_end = track_quiet w' τ used_up quiet_end (k_done K stays (ends_use (is_fresh env) s) id uses τ a)
              (track_on (own_placed spot id line s) w w' start τ (λ z h. sub z (of_left z (own_placed spot id line s) (stmts_placed (behind spot id s) rest) h)) went.came went.steady a at_start)

          few : count_open ended ≤ used_up.depth
          few = let c = step_count inside begun ended step in let d = end_depth in let k = marks in omega (arith, c, d, k)

          track_after : Track w' (after τ)
          track_after = track_closed w' ended used_up few at_end

          after_depth : (after τ).depth + count_open ended ≡ σ.depth + count_open begun
          after_depth = closed_depth ended used_up few ∙ end_depth

          marks_after : count_open (next_mode inside begun ended) ≤ (after τ).depth
          marks_after = let c = step_count inside begun ended step in let d = after_depth in let k = marks in omega (arith, c, d, k)

          mode_after : (count_open (next_mode inside begun ended) < (after τ).depth) ⊎ OkStmts m guarded f (next_mode inside begun ended) (OkClean m guarded f inside C0 C begun)
              (λ v. C v × Apart p f (IsEffectAmong p (own_placed spot id line s)) v) (behind spot id s) rest
          mode_after = elim mode [
            | inl l ↦ let c = step_count inside begun ended step in let d = after_depth in inl (omega (arith, c, d, l))
            | inr ok ↦ inr ok.1
          ]

          sees_after : Sees p f base (suc id) (behind spot id s) (grown s rest env σ) w' (after τ)
          sees_after = like_sees p f base (suc id) (behind spot id s) (grown s rest env σ) w' used_up (after τ) (like_closed ended used_up)
              (like_sees p f base (suc id) (behind spot id s) (grown s rest env σ) w' τ used_up quiet_end.like went.sees)

      guards_of : (C : VarId → Type 0) (spot : Spot) (id line : ℕ) (s : TKind) (σ : Store) → (0 < σ.depth) ⊎ Plain C spot id line s → (t : TCalled) →
          (effect_of p (record { id = id; line = line; kind = s; at = spot })).call ≡ Some t → guarded t.function ≡ true → 0 < σ.depth
      guards_of C spot id line s σ (inl d) t e g = d
      guards_of C spot id line s σ (inr pl) t e g = absurd (true≢false (sym g ∙ pl.0.1 t e))

      abbrev Turned : (VarId → Type 0) → Spot → ℕ → TKind → VarId → Type 0
      Turned C spot id s v = C v × Calm p f id (IsEffectAmong p (kind_placed spot id s)) v

      mutual
        kind_track : (C : VarId → Type 0) (spot : Spot) (id line : ℕ) (s : TKind) → InBody (own_placed spot id line s) → PairedKind m.regions (suc id) s →
            (env : List Binding) (w : Where) (σ : Store) → (0 < σ.depth) ⊎ Plain C spot id line s → Sees p f base id spot env w σ → Track w σ → Out (kind_run p.names m.regions call home env id s σ)
        kind_track C spot id line (if_else c a b) sub pair env w σ mode sees t =
            k_value K stays (value_of env σ c) id σ _ t.kept (λ v. k_if K stays (is_zero v.num) (else_run p.names m.regions call home env b σ) (block_run p.names m.regions call home env a σ)
            (else_track C (in_branch spot id) (suc id) b (λ z h. sub z (inr (of_right z (block_placed (in_branch spot id) a) (else_placed (in_branch spot id) b) h))) pair.1 env w σ
            (elim mode [ inl d ↦ inl d | inr pl ↦ inr pl.1.1 ]) (branch_sees spot id env w σ sees) t)
            (block_track C (in_branch spot id) (suc id) a (λ z h. sub z (inr (of_left z (block_placed (in_branch spot id) a) (else_placed (in_branch spot id) b) h))) pair.0 env w σ
            (elim mode [ inl d ↦ inl d | inr pl ↦ inr pl.1.0 ]) (branch_sees spot id env w σ sees) t))
        kind_track C spot id line (for_in x c d b) sub pair env w σ mode sees t = elim mode [
          | inl deep ↦ turns_track spot id line env w x c d b sub pair 1
              (λ i τ l s' t'. block_track (Turned C spot id (for_in x c d b)) (in_loop spot id ((x, variables.Declared id) ∷ [])) (suc id) b (λ z h. sub z (inr h)) pair
              (in_turn x i ∷ env) (with_place w id (Turn i)) τ (inl (omega (arith, l))) s' t')
              (count_of (d -ℤ c)) c σ (omega (arith, deep)) sees t
          | inr pl ↦ turns_track spot id line env w x c d b sub pair 0
              (λ i τ l s' t'. block_track (Turned C spot id (for_in x c d b)) (in_loop spot id ((x, variables.Declared id) ∷ [])) (suc id) b (λ z h. sub z (inr h)) pair
              (in_turn x i ∷ env) (with_place w id (Turn i)) τ (inr pl.1) s' t')
              (count_of (d -ℤ c)) c σ (omega arith) sees t
        ]
        kind_track C spot id line (while_do c n b) sub pair env w σ mode sees t = elim mode [
          | inl deep ↦ whiles_track spot id line env w c n b sub pair 1
              (λ τ l s' t'. block_track (Turned C spot id (while_do c n b)) (in_loop spot id []) (suc id) b (λ z h. sub z (inr h)) pair env w τ (inl (omega (arith, l))) s' t')
              n [] σ (omega (arith, deep)) sees t
          | inr pl ↦ whiles_track spot id line env w c n b sub pair 0
              (λ τ l s' t'. block_track (Turned C spot id (while_do c n b)) (in_loop spot id []) (suc id) b (λ z h. sub z (inr h)) pair env w τ (inr pl.1.1) s' t')
              n [] σ (omega arith) sees t
        ]
        kind_track C spot id line (let_to q x k r) sub pair env w σ mode sees t =
            k_result K stays _ _ (right_track spot id line env w (let_to q x k r) r (sub _ (inl refl)) (λ c e. ap right_call_of e) σ sees t (guards_of C spot id line (let_to q x k r) σ mode))
            (λ v τ a. stays.like τ _ refl refl a)
        kind_track C spot id line (let_array q x k z c) sub pair env w σ mode sees t = stays.like σ _ refl refl t.kept
        kind_track C spot id line (assign x r) sub pair env w σ mode sees t =
            k_result K stays _ _ (right_track spot id line env w (assign x r) r (sub _ (inl refl)) (λ c e. ap right_call_of e) σ sees t (guards_of C spot id line (assign x r) σ mode))
            (λ v τ a. k_put K stays τ (place_of env x) _ a)
        kind_track C spot id line (assign_index x e r) sub pair env w σ mode sees t =
            k_result K stays _ _ (right_track spot id line env w (assign_index x e r) r (sub _ (inl refl)) (λ c e. ap right_call_of e) σ sees t (guards_of C spot id line (assign_index x e r) σ mode))
            (λ v τ a. k_value K stays (value_of env τ e) id τ _ a (λ z. k_element K stays (place_of env x) _ z v id τ a))
        kind_track C spot id line (assign_deref x r) sub pair env w σ mode sees t =
            k_result K stays _ _ (right_track spot id line env w (assign_deref x r) r (sub _ (inl refl)) (λ c e. ap right_call_of e) σ sees t (guards_of C spot id line (assign_deref x r) σ mode))
            (λ v τ a. k_put K stays τ (place_of env x) _ a)
        kind_track C spot id line (call_only c) sub pair env w σ mode sees t =
            k_result K stays _ _ (calls (record { id = id; line = line; kind = call_only c; at = spot }) (sub _ (inl refl)) c refl env w σ sees t (guards_of C spot id line (call_only c) σ mode))
            (λ v τ a. a)
        kind_track C spot id line (sense_only z) sub pair env w σ mode sees t = k_result K stays _ _ (k_sense K stays (number_in p.names.sensors z) σ.left σ t.kept) (λ v τ a. a)
        kind_track C spot id line (emit q e) sub pair env w σ mode sees t = k_value K stays (value_of env σ e) id σ _ t.kept (λ v. stays.told _ σ tt t.kept)
        kind_track C spot id line (fresh x) sub pair env w σ mode sees t = t.kept
        kind_track C spot id line (consistent x j) sub pair env w σ mode sees t = tags (record { id = id; line = line; kind = consistent x j; at = spot }) (sub _ (inl refl)) x j refl env w σ sees t
        kind_track C spot id line (return e) sub pair env w σ mode sees t =
            k_value K stays (value_of env σ e) id σ _ t.kept
            (λ v. k_closed K stays (ended_by m.regions id) (done (is_use (is_fresh env) (return e)) id (use_samples env (return e) σ) σ)
            (k_done K stays (is_use (is_fresh env) (return e)) id (use_samples env (return e) σ) σ t.kept))

        else_track : (C : VarId → Type 0) (spot : Spot) (n : ℕ) (b : TElse) → InBody (else_placed spot b) → PairedElse m.regions n b → (env : List Binding) (w : Where) (σ : Store) →
            (0 < σ.depth) ⊎ OkElse m guarded f C spot b → Sees p f base n spot env w σ → Track w σ → Out (else_run p.names m.regions call home env b σ)
        else_track C spot n no_else sub pair env w σ mode sees t = t.kept
        else_track C spot n (else_do b) sub pair env w σ mode sees t = block_track C spot n b sub pair env w σ mode sees t

        pub block_track : (C : VarId → Type 0) (spot : Spot) (n : ℕ) (b : TBlock) → InBody (block_placed spot b) → PairedBlock m.regions n b → (env : List Binding) (w : Where) (σ : Store) →
            (0 < σ.depth) ⊎ OkBlock m guarded f C spot b → Sees p f base n spot env w σ → Track w σ → Out (block_run p.names m.regions call home env b σ)
        block_track C spot n (block bid ss) sub pair env w σ mode sees t =
            k_leave K stays (length σ.locals) (stmts_run p.names m.regions call home env ss (entered bid σ))
            (stmts_track C C (record spot { block = bid }) n None ss sub pair env w (entered bid σ) mode
            (sees_spot p f base n spot (record spot { block = bid }) env w (entered bid σ) refl (like_sees p f base n spot env w σ (entered bid σ) (quiet_entered bid σ).like sees))
            (track_quiet w σ (entered bid σ) (quiet_entered bid σ) (stays.enters bid σ t.kept) t) (omega arith))

        stmts_track : (C0 C : VarId → Type 0) (spot : Spot) (n : ℕ) (inside : Option ℕ) (ss : TStmts) → InBody (stmts_placed spot ss) → PairedStmts m.regions n inside ss →
            (env : List Binding) (w : Where) (σ : Store) → (count_open inside < σ.depth) ⊎ OkStmts m guarded f inside C0 C spot ss → Sees p f base n spot env w σ → Track w σ →
            count_open inside ≤ σ.depth → Out (stmts_run p.names m.regions call home env ss σ)
        stmts_track C0 C spot n inside no_stmts sub pair env w σ mode sees t marks = t.kept
        stmts_track C0 C spot n inside (more (stmt id line s) rest) sub pair env w σ mode sees t marks =
            k_finished K stays (kind_run p.names m.regions call home env id s (start spot id line s rest inside C0 C env w σ s0 t marks sub pair.2 pair.1 mode))
            (after spot id line s rest inside C0 C env w σ s0 t marks sub pair.2 pair.1 mode) (stmts_run p.names m.regions call home (grown s rest env σ) rest)
            (kind_track C spot id line s (λ z h. sub z (of_left z (own_placed spot id line s) (stmts_placed (behind spot id s) rest) h)) pair.2 env w
            (start spot id line s rest inside C0 C env w σ s0 t marks sub pair.2 pair.1 mode)
            (mode_start spot id line s rest inside C0 C env w σ s0 t marks sub pair.2 pair.1 mode)
            (sees_start spot id line s rest inside C0 C env w σ s0 t marks sub pair.2 pair.1 mode) (at_start spot id line s rest inside C0 C env w σ s0 t marks sub pair.2 pair.1 mode))
            (λ τ e a. stmts_track (OkClean m guarded f inside C0 C (begun_by m.regions id)) (λ v. C v × Apart p f (IsEffectAmong p (own_placed spot id line s)) v) (behind spot id s)
            (suc id) (next_mode inside (begun_by m.regions id) (ended_by m.regions id)) rest
            (λ z h. sub z (of_right z (own_placed spot id line s) (stmts_placed (behind spot id s) rest) h)) pair.3 (grown s rest env σ) (where_behind w id s σ)
            (after spot id line s rest inside C0 C env w σ s0 t marks sub pair.2 pair.1 mode τ)
            (mode_after spot id line s rest inside C0 C env w σ s0 t marks sub pair.2 pair.1 mode τ e a)
            (sees_after spot id line s rest inside C0 C env w σ s0 t marks sub pair.2 pair.1 mode τ e a)
            (track_after spot id line s rest inside C0 C env w σ s0 t marks sub pair.2 pair.1 mode τ e a)
            (marks_after spot id line s rest inside C0 C env w σ s0 t marks sub pair.2 pair.1 mode τ e a))
          where
            s0 : Sees p f base id spot env w σ
            s0 = sees_later p f base n id spot env w σ pair.0 sees
