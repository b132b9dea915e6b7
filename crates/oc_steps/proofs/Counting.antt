-- A step executes a block more or none, and a tag that it says is of the instance that its set has then.
use Rattle.std.proofs.Common.{◌≡◌, ◌≤◌, ℕ, zero, suc, ℤ, Bool, true, false, List, [], ◌∷◌, length, Option, Some, None, refl, sym, ap, ◌∙◌, subst, inl, inr, arith}
use Rattle.std.specs.Prelude.{pos, ◌+ℤ◌, ◌==◌, slice_index_or, if◌then◌else◌}
use Rattle.oc_tree.specs.Names.{Text}
use Rattle.oc_tree.specs.Marked.{TRegion}
use Rattle.oc_tree.specs.Members.{IsOf}
use Rattle.oc_tree.specs.Tree.{TExpr, TCall, call, TRight, right_value, right_sense, right_call, TKind, let_to, let_array, assign, assign_index, assign_deref, if_else, for_in}
use Rattle.oc_tree.specs.Tree.{while_do, call_only, sense_only, emit, fresh, consistent, return, TElse, no_else, else_do, stmt, TBlock, block, TStmts, no_stmts, more, TFunction}
use Rattle.oc_tree.specs.Tree.{TProgram}
use Rattle.oc_tree.specs.declared.said.Said.{Said}
use Rattle.oc_tree.specs.declared.said.Said.TheVariants.{Showed, Entered, Committed, Ended}
use Rattle.oc_tree.specs.declared.said.Ending.TheVariants.{Trapped}
use Rattle.oc_tree.specs.declared.said.Shown.TheVariants.{Emitted, Used, Finished, Tagged}
use Rattle.oc_tree.specs.declared.said.TrapKind.{TrapKind}
use Rattle.oc_tree.specs.declared.said.TrapKind.TheVariants as traps
use Rattle.oc_meaning.specs.Blocks.{set_home}
use Rattle.oc_meaning.specs.Store.{Value, Held, Place, Local, Global, Turn, Nowhere, Event, Store, Binding, plain, replaced, held_at, put, happened, noted, place_of}
use Rattle.oc_meaning.specs.Eval.{Got, Val, Traps, is_zero, element_of}
use Rattle.oc_meaning.specs.Uses.{is_fresh, is_use, begins_use}
use Rattle.oc_meaning.specs.Exec.{begun_by, ended_by, Outcome, Went, Returned, Stopped, Passed, Passing, Passes, Breaks, number_in, told_if, trapped, opened, closed, used, done, in_turn}
use Rattle.oc_meaning.specs.Run.{with_params, nv_env, function_named}
use Rattle.oc_honest.specs.Timely.{set_of}
use Rattle.oc_steps.specs.Ages.{of_ages, one_more}
use Rattle.oc_steps.specs.Sets.{value_by, use_by, args_by, element_written_by}
use Rattle.oc_steps.specs.Steps.{Inside, Frame, Rest, Use, Work, Done, Close, Take, Leave, Turns, Loop, Test, Back, Step, Goes, Asks, Over, begin, begin_else, tagged_by, on_value, step_function}
use Rattle.oc_steps.specs.Steps.{step_passed, step_args, step_call, step_right, taken, work, step_rest, step_turns, step_loop, step_test, step_went, step_returned, step}
use Rattle.oc_steps.specs.Heard.{store_in}
use Rattle.oc_steps.specs.Counting.{times, IsNoted, KindNoted, ElseNoted, BlockNoted, StmtsNoted, FramesNoted}

-- ---- what is executed and said

abbrev IsNoTag : Said → Type 0
IsNoTag (Showed (Tagged n)) = ⊥
IsNoTag s = Unit {0}

-- each block was executed at least so often
abbrev AreMore : List ℕ → List ℕ → Type 0
AreMore before now = (h : ℕ) → slice_index_or before h 0 ≤ slice_index_or now h 0

has_more : (id : ℕ) (counts : List ℕ) → AreMore counts (one_more id counts)
has_more zero [] zero = omega arith
has_more zero [] (suc h) = omega arith
has_more zero (c ∷ counts) zero = omega arith
has_more zero (c ∷ counts) (suc h) = omega arith
has_more (suc id) [] zero = omega arith
has_more (suc id) [] (suc h) = has_more id [] h
has_more (suc id) (c ∷ counts) zero = omega arith
has_more (suc id) (c ∷ counts) (suc h) = has_more id counts h

abbrev tag_number : Said → ℕ
tag_number (Showed (Tagged n)) = n
tag_number s = 0

module _ (p : TProgram) where
  -- a tag is of the instance that its set has after these blocks
  abbrev pub IsTagOf : List ℕ → Event → Type 0
  IsTagOf blocks e = (n : ℕ) (s : ℕ × ℤ) → e.said ≡ Showed (Tagged n) → set_of p n ≡ Some s → e.instance ≡ times p s blocks

  abbrev AreTagsOf : List ℕ → List Event → Type 0
  AreTagsOf blocks es = (e : Event) → IsOf e es → IsTagOf blocks e

  -- what was executed and said since these blocks, where nothing had been said
  abbrev IsSince : List ℕ → Store → Type 0
  IsSince before σ = AreMore before σ.blocks × AreTagsOf σ.blocks σ.events

  abbrev IsStill : List ℕ → Store → Type 0
  IsStill before σ = (σ.events ≡ []) × (σ.blocks ≡ before)

  abbrev pub Counts : List ℕ → Step → Type 0
  Counts before (Goes fs o) = FramesNoted p fs × IsSince before (store_in o)
  Counts before (Asks s fs σ) = FramesNoted p fs × (σ.blocks ≡ before)
  Counts before Over = Unit {0}

  no_tags : (bs : List ℕ) (es : List Event) → es ≡ [] → AreTagsOf bs es
  no_tags bs es h e o = absurd (subst (IsOf e) h o)

  no_tag : (bs : List ℕ) (x : Event) (es : List Event) → IsNoTag x.said → es ≡ [] → AreTagsOf bs (x ∷ es)
  no_tag bs x es k h e (inl q) n s said set = absurd (subst IsNoTag (sym (ap (λ y. y.said) q) ∙ said) k)
  no_tag bs x es k h e (inr o) n s said set = absurd (subst (IsOf e) h o)

  module _ (before : List ℕ) where
    same_blocks : (bs : List ℕ) → bs ≡ before → AreMore before bs
    same_blocks bs e h = let q = ap (λ l. slice_index_or l h 0) e in omega (arith, q)

    still : (σ : Store) → IsStill before σ → IsSince before σ
    still σ h = (same_blocks σ.blocks h.1, no_tags σ.blocks σ.events h.0)

    says : (x : Event) (σ : Store) → IsNoTag x.said → IsStill before σ → IsSince before (happened x σ)
    says x σ k h = (same_blocks σ.blocks h.1, no_tag σ.blocks x σ.events k h.0)

    trap_since : (k : TrapKind) (n : ℕ) (σ : Store) → IsStill before σ → IsSince before (store_in (trapped k n σ))
    trap_since k n σ h = says (record { said = Ended (Trapped k n); samples = []; instance = 0 }) σ tt h

    mark_since : (b : Bool) (s : Said) (σ τ : Store) → IsNoTag s → τ.blocks ≡ σ.blocks → τ.events ≡ told_if b s σ.events → IsStill before σ → IsSince before τ
    mark_since true s σ τ k e f h = (same_blocks τ.blocks (e ∙ h.1), subst (AreTagsOf τ.blocks) (sym f) (no_tag τ.blocks _ σ.events k h.0))
    mark_since false s σ τ k e f h = (same_blocks τ.blocks (e ∙ h.1), no_tags τ.blocks τ.events (f ∙ h.0))

    opened_since : (o : Option ℕ) (σ : Store) → IsStill before σ → IsSince before (opened o σ)
    opened_since None σ h = still σ h
    opened_since (Some r) σ h = mark_since (σ.depth == 0) (Entered r) σ (opened (Some r) σ) tt refl refl h

    closed_since : (o : Option ℕ) (σ : Store) → IsStill before σ → IsSince before (closed o σ)
    closed_since None σ h = still σ h
    closed_since (Some r) σ h = mark_since (σ.depth == 1) (Committed r) σ (closed (Some r) σ) tt refl refl h

    used_since : (b : Bool) (n : ℕ) (u : List ℕ) (σ : Store) → IsStill before σ → IsSince before (used b n u σ)
    used_since true n u σ h = says (record { said = Showed (Used n); samples = u; instance = 0 }) σ tt h
    used_since false n u σ h = still σ h

    done_since : (b : Bool) (n : ℕ) (u : List ℕ) (σ : Store) → IsStill before σ → IsSince before (done b n u σ)
    done_since true n u σ h = says (record { said = Showed (Finished n); samples = u; instance = 0 }) σ tt h
    done_since false n u σ h = still σ h

    put_since : (σ : Store) (q : Place) (x : Held) → IsStill before σ → IsSince before (put σ q x)
    put_since σ (Local l) x h = still σ h
    put_since σ place x h = still σ h

    tagged_since : (body : TBlock) (n : ℕ) (k : ℤ) (u : List ℕ) (σ : Store) → IsNoted p body n k → IsStill before σ → IsSince before (tagged_by of_ages (set_home body k) n u σ)
    tagged_since body n k u σ fine h = (same_blocks σ.blocks h.1, tags)
      where
        x : Event
        x = record { said = Showed (Tagged n); samples = u; instance = slice_index_or σ.blocks (set_home body k) 0 }

        tags : AreTagsOf σ.blocks (x ∷ σ.events)
        tags e (inr o) m s said set = absurd (subst (IsOf e) h.0 o)
        tags e (inl q) m s said set =
            let own : n ≡ m = ap tag_number (sym (ap (λ y. y.said) q) ∙ said) in
            let home = fine s (ap (set_of p) own ∙ set) in
            ap (λ y. y.instance) q ∙ ap (λ h. slice_index_or σ.blocks h 0) (sym home)

    entered_since : (id : ℕ) (σ : Store) → IsStill before σ → IsSince before (record σ { blocks = one_more id σ.blocks })
    entered_since id σ h = (subst (λ bs. AreMore bs (one_more id σ.blocks)) h.1 (has_more id σ.blocks), no_tags (one_more id σ.blocks) σ.events h.0)

    -- ---- steps

    value_counts : (g : Got) (n : ℕ) (σ : Store) (fs : List Frame) (go : Value → Step) → FramesNoted p fs → IsStill before σ → ((v : Value) → Counts before (go v))
        → Counts before (on_value g n σ fs go)
    value_counts (Val v) n σ fs go m h k = k v
    value_counts (Traps t) n σ fs go m h k = (m, trap_since t n σ h)

    if_counts : (b : Bool) (x y : Step) → Counts before x → Counts before y → Counts before (if b then x else y)
    if_counts true x y h k = h
    if_counts false x y h k = k

    begin_counts : (f : Inside) (env : List Binding) (b : TBlock) (fs : List Frame) (σ : Store) → BlockNoted p f.body b → FramesNoted p fs → IsStill before σ → Counts before (begin of_ages f env b fs σ)
    begin_counts f env (block id ss) fs σ a m h = ((a, (tt, m)), entered_since id σ h)

    else_counts : (f : Inside) (env : List Binding) (b : TElse) (fs : List Frame) (σ : Store) → ElseNoted p f.body b → FramesNoted p fs → IsStill before σ
        → Counts before (begin_else of_ages f env b fs σ)
    else_counts f env no_else fs σ a m h = (m, still σ h)
    else_counts f env (else_do b) fs σ a m h = begin_counts f env b fs σ a m h

    module _ (join : List ℕ → List ℕ → List ℕ) (regions : List TRegion)
        (bodies : (x : Text) (g : TFunction) → function_named p.functions x ≡ Some g → BlockNoted p g.body g.body) where
      written_counts : (q : Place) (o : Option ℕ) (i v : Value) (n : ℕ) (fs : List Frame) (σ : Store) → FramesNoted p fs → IsStill before σ
          → Counts before (Goes fs (element_written_by join q o i v n σ))
      written_counts q None i v n fs σ m h = (m, trap_since traps.Index n σ h)
      written_counts q (Some e) i v n fs σ m h = (m, put_since σ q _ h)

      function_counts : (d : ℕ) (o : Option TFunction) (ps : List Passed) (fs : List Frame) (σ : Store) → ((g : TFunction) → o ≡ Some g → BlockNoted p g.body g.body) → FramesNoted p fs
          → IsStill before σ → Counts before (step_function p regions join of_ages d o ps fs σ)
      function_counts d None ps fs σ a m h = (m, still σ h)
      function_counts d (Some f) ps fs σ a m h =
          let fr = with_params f.params ps (record { env = nv_env 0 p.names.nvs; locals = σ.locals }) in
          begin_counts (record { depth = d; body = f.body }) fr.env f.body (Leave (length σ.locals) ∷ fs) (record σ { locals = fr.locals }) (a f refl) (tt, m) h

      pub passed_counts : (d : ℕ) (x : Text) (ps : List Passed) (fs : List Frame) (σ : Store) → FramesNoted p fs → IsStill before σ → Counts before (step_passed p regions join of_ages d x ps fs σ)
      passed_counts zero x ps fs σ m h = (m, still σ h)
      passed_counts (suc d) x ps fs σ m h = function_counts d (function_named p.functions x) ps fs σ (bodies x) m h

      args_counts : (d : ℕ) (x : Text) (gs : Passing) (n : ℕ) (fs : List Frame) (σ : Store) → FramesNoted p fs → IsStill before σ → Counts before (step_args p regions join of_ages d x gs n fs σ)
      args_counts d x (Passes ps) n fs σ m h = passed_counts d x ps fs σ m h
      args_counts d x (Breaks k) n fs σ m h = (m, trap_since k n σ h)

      call_counts : (f : Inside) (env : List Binding) (n : ℕ) (k : TCall) (fs : List Frame) (σ : Store) → FramesNoted p fs → IsStill before σ
          → Counts before (step_call p regions join of_ages f env n k fs σ)
      call_counts f env n (call x gs) fs σ m h = args_counts f.depth x (args_by join env σ gs) n fs σ m h

      right_counts : (f : Inside) (env : List Binding) (n : ℕ) (r : TRight) (fs : List Frame) (σ : Store) → FramesNoted p fs → IsStill before σ
          → Counts before (step_right p regions join of_ages f env n r fs σ)
      right_counts f env n (right_value e) fs σ m h = value_counts (value_by join env σ e) n σ fs (λ v. Goes fs (Returned v σ)) m h (λ v. (m, still σ h))
      right_counts f env n (right_sense s) fs σ m h = (m, h.1)
      right_counts f env n (right_call k) fs σ m h = call_counts f env n k fs σ m h

      taken_counts : (env : List Binding) (n : ℕ) (k : TKind) (v : Value) (fs : List Frame) (σ : Store) → FramesNoted p fs → IsStill before σ
          → Counts before (taken p regions join of_ages env n k v fs σ)
      taken_counts env n (let_to mu x t r) v fs σ m h = (m, still σ h)
      taken_counts env n (assign x r) v fs σ m h = (m, put_since σ (place_of env x) (replaced (held_at σ (place_of env x)) v) h)
      taken_counts env n (assign_index x e r) v fs σ m h =
          value_counts (value_by join env σ e) n σ fs
          (λ i. Goes fs (element_written_by join (place_of env x) (element_of (length (held_at σ (place_of env x)).words) i.num) i v n σ)) m h
          (λ i. written_counts (place_of env x) (element_of (length (held_at σ (place_of env x)).words) i.num) i v n fs σ m h)
      taken_counts env n (assign_deref x r) v fs σ m h = (m, put_since σ (place_of env x) (replaced (held_at σ (place_of env x)) v) h)
      taken_counts env n k v fs σ m h = (m, still σ h)

      work_counts : (f : Inside) (env : List Binding) (n : ℕ) (k : TKind) (fs : List Frame) (σ : Store) → KindNoted p f.body n k → FramesNoted p fs → IsStill before σ
          → Counts before (work p regions join of_ages f env n k fs σ)
      work_counts f env n (let_to mu x t r) fs σ a m h = right_counts f env n r (Take env n (let_to mu x t r) ∷ fs) σ (tt, m) h
      work_counts f env n (let_array mu x t z w) fs σ a m h = (m, still σ h)
      work_counts f env n (assign x r) fs σ a m h = right_counts f env n r (Take env n (assign x r) ∷ fs) σ (tt, m) h
      work_counts f env n (assign_index x e r) fs σ a m h = right_counts f env n r (Take env n (assign_index x e r) ∷ fs) σ (tt, m) h
      work_counts f env n (assign_deref x r) fs σ a m h = right_counts f env n r (Take env n (assign_deref x r) ∷ fs) σ (tt, m) h
      work_counts f env n (if_else e x y) fs σ a m h =
          value_counts (value_by join env σ e) n σ fs (λ v. if is_zero v.num then begin_else of_ages f env y fs σ else begin of_ages f env x fs σ) m h
          (λ v. if_counts (is_zero v.num) (begin_else of_ages f env y fs σ) (begin of_ages f env x fs σ) (else_counts f env y fs σ a.1 m h) (begin_counts f env x fs σ a.0 m h))
      work_counts f env n (for_in x c d b) fs σ a m h = ((a, m), still σ h)
      work_counts f env n (while_do e t b) fs σ a m h = ((a, m), still σ h)
      work_counts f env n (call_only k) fs σ a m h = call_counts f env n k (Take env n (call_only k) ∷ fs) σ (tt, m) h
      work_counts f env n (sense_only s) fs σ a m h = ((tt, m), h.1)
      work_counts f env n (emit q e) fs σ a m h =
          value_counts (value_by join env σ e) n σ fs (λ v. Goes fs (Went (noted (Showed (Emitted (number_in p.names.ports q) v.num)) v.samples σ))) m h
          (λ v. (m, says (record { said = Showed (Emitted (number_in p.names.ports q) v.num); samples = v.samples; instance = 0 }) σ tt h))
      work_counts f env n (fresh x) fs σ a m h = (m, still σ h)
      work_counts f env n (consistent x k) fs σ a m h = (m, tagged_since f.body n k (held_at σ (place_of env x)).samples σ a h)
      work_counts f env n (return e) fs σ a m h =
          let is : Bool = is_use (is_fresh env) (return e) in
          value_counts (value_by join env σ e) n σ fs (λ v. Goes (Back v (ended_by regions n) ∷ fs) (Went (done is n (use_by join env (return e) σ) σ))) m h
          (λ v. ((tt, m), done_since is n (use_by join env (return e) σ) σ h))

      rest_counts : (f : Inside) (env : List Binding) (ss : TStmts) (fs : List Frame) (σ : Store) → StmtsNoted p f.body ss → FramesNoted p fs → IsStill before σ
          → Counts before (step_rest p regions join of_ages f env ss fs σ)
      rest_counts f env no_stmts fs σ a m h = (m, still σ h)
      rest_counts f env (more (stmt n line k) rest) fs σ a m h = ((a.0, (tt, (tt, (a.1, m)))), opened_since (begun_by regions n) σ h)

      turns_counts : (f : Inside) (x : Text) (t : ℕ) (i : ℤ) (b : TBlock) (env : List Binding) (fs : List Frame) (σ : Store) → BlockNoted p f.body b → FramesNoted p fs → IsStill before σ
          → Counts before (step_turns p regions join of_ages f x t i b env fs σ)
      turns_counts f x zero i b env fs σ a m h = (m, still σ h)
      turns_counts f x (suc t) i b env fs σ a m h = begin_counts f (in_turn x i ∷ env) b (Turns f x t (i +ℤ pos 1) b env ∷ fs) σ a (a, m) h

      loop_counts : (f : Inside) (env : List Binding) (n : ℕ) (e : TExpr) (t : ℕ) (b : TBlock) (u : List ℕ) (fs : List Frame) (σ : Store) → BlockNoted p f.body b → FramesNoted p fs
          → IsStill before σ → Counts before (step_loop p regions join of_ages f env n e t b u fs σ)
      loop_counts f env n e zero b u fs σ a m h = (m, done_since (is_use (is_fresh env) (while_do e 0 b)) n u σ h)
      loop_counts f env n e (suc t) b u fs σ a m h = ((a, m), used_since (is_use (is_fresh env) (while_do e 0 b)) n (use_by join env (while_do e 0 b) σ) σ h)

      test_counts : (f : Inside) (env : List Binding) (n : ℕ) (e : TExpr) (t : ℕ) (b : TBlock) (u : List ℕ) (fs : List Frame) (σ : Store) → BlockNoted p f.body b → FramesNoted p fs
          → IsStill before σ → Counts before (step_test p regions join of_ages f env n e t b u fs σ)
      test_counts f env n e t b u fs σ a m h =
          let is : Bool = is_use (is_fresh env) (while_do e 0 b) in
          value_counts (value_by join env σ e) n σ fs (λ v. if is_zero v.num then Goes fs (Went (done is n u σ)) else begin of_ages f env b (Loop f env n e t b u ∷ fs) σ) m h
          (λ v. if_counts (is_zero v.num) (Goes fs (Went (done is n u σ))) (begin of_ages f env b (Loop f env n e t b u ∷ fs) σ) (m, done_since is n u σ h)
          (begin_counts f env b (Loop f env n e t b u ∷ fs) σ a (a, m) h))

      went_counts : (f : Frame) (fs : List Frame) (σ : Store) → FramesNoted p (f ∷ fs) → IsStill before σ → Counts before (step_went p regions join of_ages f fs σ)
      went_counts (Rest f env ss) fs σ m h = rest_counts f env ss fs σ m.0 m.1 h
      went_counts (Use f env n u k) fs σ m h = (m, used_since (begins_use (is_fresh env) k) n u σ h)
      went_counts (Work f env n k) fs σ m h = work_counts f env n k fs σ m.0 m.1 h
      went_counts (Done is n u) fs σ m h = (m.1, done_since is n u σ h)
      went_counts (Close r) fs σ m h = (m.1, closed_since r σ h)
      went_counts (Take env n k) fs σ m h = taken_counts env n k (plain (pos 0)) fs σ m.1 h
      went_counts (Leave n) fs σ m h = (m.1, still σ h)
      went_counts (Turns f x t i b env) fs σ m h = turns_counts f x t i b env fs σ m.0 m.1 h
      went_counts (Loop f env n e t b u) fs σ m h = loop_counts f env n e t b u fs σ m.0 m.1 h
      went_counts (Test f env n e t b u) fs σ m h = test_counts f env n e t b u fs σ m.0 m.1 h
      went_counts (Back v r) fs σ m h = (m.1, closed_since r σ h)

      returned_counts : (f : Frame) (v : Value) (fs : List Frame) (σ : Store) → FramesNoted p (f ∷ fs) → IsStill before σ → Counts before (step_returned p regions join of_ages f v fs σ)
      returned_counts (Take env n k) v fs σ m h = taken_counts env n k v fs σ m.1 h
      returned_counts frame v fs σ m h = (m.1, still σ h)

      pub step_counts : (fs : List Frame) (o : Outcome) → FramesNoted p fs → IsStill before (store_in o) → Counts before (step p regions join of_ages fs o)
      step_counts [] o m h = tt
      step_counts (f ∷ fs) (Went σ) m h = went_counts f fs σ m h
      step_counts (f ∷ fs) (Returned v σ) m h = returned_counts f v fs σ m h
      step_counts (f ∷ fs) (Stopped s σ) m h = tt
