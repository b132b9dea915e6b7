-- No run parts a consistent set.
use Rattle.std.proofs.Common.{◌≡◌, ◌⊎◌, inl, inr, ℕ, zero, suc, ◌-◌, ◌<◌, ◌≤◌, Bool, true, false, List, [], ◌∷◌, ◌++◌, length, Option, Some, None, refl, sym, ap, ◌∙◌, subst}
use Rattle.std.proofs.Common.{arith, append_assoc, true≢false}
use Rattle.std.specs.Prelude.{ℤ, codes, slice_get, nat_lt, not, count_by, position, map, filter, is_some, cond, option_map, option_and_then, unwrap_or, if◌then◌else◌, ◌==◌}
use Rattle.std.specs.List.{list_any, prefix_len}
use Rattle.std.proofs.lemmas.Option.{none-some, same_Some}
use Rattle.std.proofs.lemmas.Bool.Decides.{Decides-int_eq}
use Rattle.oc_tree.specs.Names.{Text}
use Rattle.oc_tree.specs.Tree.{TCall, call, TKind, consistent, TFunction, TProgram}
use Rattle.oc_tree.specs.declared.tree.VarId.{VarId}
use Rattle.oc_tree.specs.declared.tree.VarId.TheVariants as variables
use Rattle.oc_tree.specs.declared.tree.Param.{Param}
use Rattle.oc_tree.specs.declared.tree.Passing.{Passing}
use Rattle.oc_tree.specs.declared.tree.Passing.TheVariants as passings
use Rattle.oc_tree.specs.declared.marked.Policy.{Policy}
use Rattle.oc_tree.specs.declared.marked.PolicyKind.TheVariants as kinds
use Rattle.oc_tree.specs.declared.said.Said.TheVariants.{Showed}
use Rattle.oc_tree.specs.declared.said.Shown.TheVariants.{Tagged}
use Rattle.oc_tree.specs.Calls.{place}
use Rattle.oc_tree.specs.Scope.{variable_in, or_nv, nv_var, is_variable}
use Rattle.oc_tree.specs.Walks.{kind_known}
use Rattle.oc_tree.specs.Numbers.{block_statements, program_statements}
use Rattle.oc_desugar.proofs.NumberLists.{Follow}
use Rattle.oc_tree.specs.Places.{Placed, placed, find_variable, or_nonvolatile, at_start, block_placed}
use Rattle.oc_tree.specs.Marked.{TRegion, TMarked, IsMarked, function_of, covers}
use Rattle.oc_meaning.specs.Blocks.{block_notes, block_home, set_home}
use Rattle.oc_meaning.specs.Store.{nothing, Place, Local, Global, Turn, Nowhere, Event, Store, Binding, held_at, left_at, place_of}
use Rattle.oc_meaning.specs.Exec.{Passing as HandedOn, Outcome, Went, Returned, Stopped, Passed, Copied, Lent, Passes, Breaks, with_args, args_of, call_run, tagged}
use Rattle.oc_meaning.specs.Run.{Frame, function_named, function_run, call_to, nv_env, first_store, main_run}
use Rattle.oc_meaning.specs.Cuts.{events_in}
use Rattle.oc_effects.specs.declared.effect.Note.{Note}
use Rattle.oc_effects.specs.declared.effect.Note.TheVariants as notes
use Rattle.oc_effects.specs.Effects.{TCalled, TEffect, effect_of, effects_at, variable_at, note_of, call_of, called_by, called_at, params_at}
use Rattle.oc_flow.specs.Variables.{is_variable as is_one}
use Rattle.oc_tree.specs.Members.{IsOf}
use Rattle.oc_flow.specs.Relations.{itself}
use Rattle.oc_flow.proofs.Fixpoint.{Ranked}
use Rattle.oc_flow.proofs.Ranks.{ranked}
use Rattle.oc_needs.specs.Policies.{policies, annotated, held, is_held, is_note_of}
use Rattle.oc_needs.specs.Need.{is_empty}
use Rattle.oc_needs.specs.Sites.{site, input_sites}
use Rattle.oc_needs.specs.Requirements.{rising}
use Rattle.oc_needs.proofs.Rising.{in_rising}
use Rattle.oc_copies.specs.Copies.{AreCopies, HasStored, own_frame, own_run, lent_run, copied_back, all_copied_back}
use Rattle.oc_copies.specs.Stands.{AreFormed}
use Rattle.oc_copies.proofs.Copied.{calls_copy}
use Rattle.oc_copies.proofs.DoCopy.{main_copies}
use Rattle.oc_honest.specs.Timely.{set_in, set_at, set_of}
use Rattle.oc_timely.specs.Covering.{IsCovering, IsMet}
use Rattle.oc_timely.specs.Scopes.{scope_of}
use Rattle.oc_timely.specs.Within.{Where, place_in, samples_of, start_where}
use Rattle.oc_timely.specs.Enough.{Apart, OkBlock, is_open}
use Rattle.oc_timely.specs.Steps.{AreTaken}
use Rattle.oc_timely.specs.Modes.{Sees, AllFlows, PairedBlock}
use Rattle.oc_timely.specs.Sets.{RunsPartNone, times}
use Rattle.oc_timely.proofs.Asking.{is_policy}
use Rattle.oc_timely.proofs.Away.{calls_away, lower}
use Rattle.oc_timely.proofs.Bodies.{AnyTarget, body_ok}
use Rattle.oc_timely.proofs.Callees.{callee_at}
use Rattle.oc_timely.proofs.Ending.{fine_run, starts}
use Rattle.oc_timely.proofs.Handed.{passed_samples, own_older, own_held, arg_named}
use Rattle.oc_timely.proofs.Homes.{clear_block, later_body}
use Rattle.oc_timely.proofs.Innermost.{NoneNoted, block_clear, home_there}
use Rattle.oc_timely.proofs.Inputs.{input_is}
use Rattle.oc_laws.proofs.Members.{of_right, in_append}
use Rattle.oc_timely.proofs.Known.{flows_are, brings_are, needs_are, known}
use Rattle.oc_timely.proofs.Marks.{was_deep}
use Rattle.oc_timely.proofs.Meeting.{all_of, is_required, own_required, site_in}
use Rattle.oc_timely.proofs.Needing.{set_by, set_held, held_there, is_annotated, none_there}
use Rattle.oc_timely.proofs.Owned.{set_here}
use Rattle.oc_timely.proofs.Pairs.{paired_block}
use Rattle.oc_timely.proofs.Phases.{IsKept, KeptOut, start, clear_out, adds_out, kept_clear, kept_like, kept_closed, block_path}
use Rattle.oc_timely.proofs.Quiet.{Deep, Quiet, block_quiet, calls_quiet}
use Rattle.oc_timely.proofs.Ruling.{passed}
use Rattle.oc_timely.proofs.Scopes.{none_of}
use Rattle.oc_timely.proofs.Closed.{IsNoTag, tag_number, IsClosed, KOut, k_put}
use Rattle.oc_timely.proofs.Sound.{Knows}
use Rattle.oc_timely.proofs.Stated.{found, effect}
use Rattle.oc_timely.proofs.Tagged.{IsOne, AreNumbered, Since, SinceOut, since_tagged, numbered_told, numbered_entered}
use Rattle.oc_timely.proofs.Tracked.{Track, block_track}
use Rattle.oc_timely.proofs.Weak.{AreWeak, weak_join, same_front, unparted}

-- ---- an annotation that the rules passed is of a variable

named_there : (p : TProgram) (f : ℕ) (vs : _) (x : Text) → is_variable p (scope_of p f vs) x ≡ true → or_nonvolatile p x (find_variable vs x) ≡ None → ⊥
named_there p f vs x is e = by (find_variable vs x) refl e
  where
    stored : (o : Option ℕ) → place p.names.nvs x ≡ o → option_map variables.Nv o ≡ None → variable_in (scope_of p f vs) x ≡ None → ⊥
    stored (Some i) q n z = none-some (variables.Nv i) (sym n)
    stored None q n z =
        true≢false (sym is ∙ ap (λ v. is_some (or_nv p x v)) z ∙ ap (λ o. is_some (option_map nv_var (option_and_then (λ i. slice_get p.nv i) o))) q)

    by : (o : Option VarId) → find_variable vs x ≡ o → or_nonvolatile p x o ≡ None → ⊥
    by (Some v) q n = none-some v (sym n)
    by None q n = stored (place p.names.nvs x) refl n (none_of p f vs x q)

-- ---- lists

first_held : (t : TEffect → Bool) (es : List TEffect) → is_empty (map (λ a. a.stmt) (filter t es)) ≡ false → (a : TEffect) × IsOf a es × (t a ≡ true)
first_held t [] h = absurd (true≢false h)
first_held t (a ∷ es) h = by (t a) refl h (first_held t es)
  where
    by : (b : Bool) → t a ≡ b → is_empty (map (λ a. a.stmt) (cond b (a ∷ filter t es) (filter t es))) ≡ false →
        (is_empty (map (λ a. a.stmt) (filter t es)) ≡ false → (c : TEffect) × IsOf c es × (t c ≡ true)) → (c : TEffect) × IsOf c (a ∷ es) × (t c ≡ true)
    by true e h rest = (a, inl refl, e)
    by false e h rest = let r = rest h in (r.0, inr r.1, r.2)

-- a set that has an annotation is a policy
set_policy : (p : TProgram) (f : ℕ) (k : ℤ) → is_empty (held p (set_by f k)) ≡ false → IsOf (set_by f k) (policies p)
set_policy p f k h = let a = first_held (is_held (kinds.Consistent k)) (effects_at p f) h in by a.0 a.1 a.0.note refl a.2
  where
    by : (a : TEffect) → IsOf a (effects_at p f) → (o : Option Note) → a.note ≡ o → is_note_of (kinds.Consistent k) o ≡ true → IsOf (set_by f k) (policies p)
    by a i None e t = absurd (true≢false (sym t))
    by a i (Some (notes.Fresh v)) e t = absurd (true≢false (sym t))
    by a i (Some (notes.Consistent v j)) e t = let same : k ≡ j = (Decides-int_eq k j).0 t in subst (λ z. IsOf (set_by f z) (policies p)) (sym same) (is_policy p f a (notes.Consistent v j) i e)

-- ---- outcomes

module _ (p : TProgram) (f : ℕ) (g : TFunction) (k : ℤ) where
  abbrev Kept : Store → Type 0
  Kept σ = IsKept p f g k σ

  events_weak : (o : Outcome) → KeptOut p f g k o → AreWeak p f g k (events_in o)
  events_weak (Went τ) h = h.weak
  events_weak (Returned v τ) h = h.weak
  events_weak (Stopped s τ) h = h.weak

  -- copied back, nothing is told
  kept_back : (from : Store) (l : ℕ) (s : Passing) (q : Passed) (σ : Store) → Kept σ → Kept (copied_back from l s q σ)
  kept_back from l passings.Mutable (Lent q) σ a = k_put Kept (kept_closed p f g k) σ q (held_at from (Local l)) a
  kept_back from l passings.Mutable (Copied v) σ a = a
  kept_back from l passings.Shared q σ a = a
  kept_back from l passings.Value q σ a = a

  kept_all_back : (from : Store) (l : ℕ) (qs : List Param) (ps : List Passed) (σ : Store) → Kept σ → Kept (all_copied_back from l qs ps σ)
  kept_all_back from l [] ps σ a = a
  kept_all_back from l (q ∷ qs) [] σ a = a
  kept_all_back from l (q ∷ qs) (s ∷ ps) σ a = kept_all_back from (suc l) qs ps (copied_back from l q.passing s σ) (kept_back from l q.passing s σ a)

  kept_left : (n : ℕ) (υ : Store) → Kept υ → Kept (left_at n υ)
  kept_left n υ h = kept_like p f g k υ (left_at n υ) refl refl h

  kept_copies : (n : ℕ) (h : TFunction) (ps : List Passed) (o q : Outcome) → AreCopies n h ps o q → KOut Kept q → KOut Kept o
  kept_copies n h ps (Went τ) (Went υ) c a = subst Kept (sym c) (kept_all_back υ n h.params ps (left_at n υ) (kept_left n υ a))
  kept_copies n h ps (Returned v τ) (Returned w υ) c a = subst Kept (sym c.1) (kept_all_back υ n h.params ps (left_at n υ) (kept_left n υ a))
  kept_copies n h ps (Stopped s τ) (Stopped r υ) c a = kept_like p f g k υ τ (ap (λ (z : Store). z.events) c.1) (ap (λ (z : Store). z.blocks) c.1) a
  kept_copies n h ps (Went τ) (Returned w υ) c a = absurd c
  kept_copies n h ps (Went τ) (Stopped r υ) c a = absurd c
  kept_copies n h ps (Returned v τ) (Went υ) c a = absurd c
  kept_copies n h ps (Returned v τ) (Stopped r υ) c a = absurd c
  kept_copies n h ps (Stopped s τ) (Went υ) c a = absurd c
  kept_copies n h ps (Stopped s τ) (Returned w υ) c a = absurd c

-- ---- all runs

either : (n : ℕ) → (0 < n) ⊎ (n ≡ 0)
either zero = inr refl
either (suc n) = inl (omega arith)

module _ (m : TMarked) (marked : IsMarked m) (c : IsCovering m) (flows : AllFlows) (f : ℕ) (g : TFunction) (at : slice_get m.program.functions f ≡ Some g) (k : ℤ) where
  abbrev p : TProgram
  p = m.program

  ranks : Ranked p
  ranks = ranked p m.groups marked.checked

  abbrev Its : Store → Type 0
  Its σ = IsKept p f g k σ

  knows : (u : ℕ) (h : TFunction) → slice_get p.functions u ≡ Some h → Knows m c.guarded u h
  knows u h e = known m marked c u h e (flows m marked u h e)

  numbered : Follow 1 (program_statements p)
  numbered = marked.checked.form.numbered.statements

  -- regions begin and end in one list
  paired_at : (u : ℕ) (h : TFunction) (e : slice_get p.functions u ≡ Some h) → PairedBlock m.regions (knows u h e).first h.body
  paired_at u h e = let w = knows u h e in paired_block m c.guarded u (block_placed (at_start h) h.body) w.static w.first (at_start h) w.first h.body w.end (omega arith) w.laid (λ z i. i)

  paired : (x : Text) (h : TFunction) → function_named p.functions x ≡ Some h → (n : ℕ) × PairedBlock m.regions n h.body
  paired x h e = let q = callee_at p x h e in ((knows q.0 h q.2).first, paired_at q.0 h q.2)

  calls_deep : (depth d : ℕ) (x : Text) (ps : List Passed) (σ : Store) (es : List Event) → 0 < d → Deep es d σ → Quiet es d d (call_to p m.regions depth x ps σ)
  calls_deep depth d x ps σ es l h = calls_quiet es p m.regions paired depth d x ps σ l h

  -- ---- the set's own function

  abbrev body : List Placed
  body = block_placed (at_start g) g.body

  abbrev set : Policy
  set = set_by f k

  -- an annotation of the set
  noted : (b : Placed) → IsOf b body → (x : Text) → b.kind ≡ consistent x k → (v : VarId) × (variable_at p b x ≡ Some v) × ((effect_of p b).note ≡ Some (notes.Consistent v k))
  noted b o x e = by (variable_at p b x) refl
    where
      rules : is_variable p (scope_of p f b.at.variables) x ≡ true
      rules =
          let i = passed p m.groups marked.checked f g at (found p f g at numbered) b o in
          subst (λ s. is_variable p s x ≡ true) i.scope (subst (λ (z : TKind). kind_known p i.here.scope z ≡ true) e i.unbroken.known)

      by : (o : Option VarId) → variable_at p b x ≡ o → (v : VarId) × (variable_at p b x ≡ Some v) × ((effect_of p b).note ≡ Some (notes.Consistent v k))
      by None q = absurd (named_there p f b.at.variables x rules q)
      by (Some v) q = (v, q, ap (note_of p b) e ∙ ap (option_map (λ v. notes.Consistent v k)) q)

  held_here : (b : Placed) → IsOf b body → (x : Text) → b.kind ≡ consistent x k → IsOf b.id (held p set)
  held_here b o x e = let n = noted b o x e in held_there p set (effect_of p b) (effect p f g at b o) (set_held k n.0 (effect_of p b) n.2)

  annotated_here : (b : Placed) → IsOf b body → (x : Text) → b.kind ≡ consistent x k → (v : VarId) × (variable_at p b x ≡ Some v) × IsOf v (annotated p set)
  annotated_here b o x e = let n = noted b o x e in (n.0, n.1, is_annotated p set (effect_of p b) (notes.Consistent n.0 k) (effect p f g at b o) n.2 refl)

  -- one region covers the set, where it has inputs of its function's own
  one_covers : c.guarded f ≡ false → is_empty (held p set) ≡ false → is_empty (input_sites p f (annotated p set)) ≡ false →
      (q : TRegion) × IsOf q m.regions × ((b : Placed) → IsOf b body → (x : Text) → b.kind ≡ consistent x k → covers p q b.id ≡ true)
  one_covers loose h i =
      let r = is_required p set f (rising (input_sites p f (annotated p set) ++ held p set)) (set_policy p f k h) (there p.functions f at) (own_required p set h i) in
      by (c.met (record { policy = r.0; function = f; sites = rising (input_sites p f (annotated p set) ++ held p set) }) r.1)
    where
      there : (fs : List TFunction) (u : ℕ) → slice_get fs u ≡ Some g → u < length fs
      there [] u e = absurd (none-some g e)
      there (x ∷ fs) zero e = omega arith
      there (x ∷ fs) (suc u) e = let l = there fs u e in omega (arith, l)

      by : {n : ℕ} → (c.guarded f ≡ true) ⊎ IsMet m (record { policy = n; function = f; sites = rising (input_sites p f (annotated p set) ++ held p set) }) →
          (q : TRegion) × IsOf q m.regions × ((b : Placed) → IsOf b body → (x : Text) → b.kind ≡ consistent x k → covers p q b.id ≡ true)
      by (inl t) = absurd (true≢false (sym t ∙ loose))
      by (inr met) = (
        met.region,
        met.one,
        λ b o x e. all_of (covers p met.region) (rising (input_sites p f (annotated p set) ++ held p set)) b.id met.covered
            (in_rising b.id (input_sites p f (annotated p set) ++ held p set) (of_right b.id (input_sites p f (annotated p set)) (held p set) (held_here b o x e))),
      )

  -- ---- a set that has none: its tags' samples were there when the function began

  record IsOld (older : List Event) (taken : ℕ) (σ : Store) : Type 0 where
    newer : List Event
    is : σ.events ≡ newer ++ older
    tags : (e : Event) → IsOf e newer → IsOne p f g k e → (j : ℕ) → IsOf j e.samples → j < taken
    numbers : AreNumbered p f g k σ

  old_like : (older : List Event) (taken : ℕ) (σ τ : Store) → τ.events ≡ σ.events → τ.blocks ≡ σ.blocks → IsOld older taken σ → IsOld older taken τ
  old_like older taken σ τ e b h =
      let same : times g k τ ≡ times g k σ = ap (λ bs. count_by (λ id. set_home g.body k == id) bs) b in
      record { newer = h.newer; is = e ∙ h.is; tags = h.tags; numbers = λ x o t. let l = h.numbers x (subst (IsOf x) e o) t in omega (arith, l, same) }

  old_told : (older : List Event) (taken : ℕ) (e : Event) (σ : Store) → IsNoTag e.said → IsOld older taken σ → IsOld older taken (record σ { events = e ∷ σ.events })
  old_told older taken e σ n h = record { newer = e ∷ h.newer; is = ap (λ l. e ∷ l) h.is; tags = tags; numbers = numbered_told p f g k e σ n h.numbers }
    where
      tags : (x : Event) → IsOf x (e ∷ h.newer) → IsOne p f g k x → (j : ℕ) → IsOf j x.samples → j < taken
      tags x (inl s) t j i = absurd (subst IsNoTag (sym (ap (λ (y : Event). y.said) s) ∙ t.said) n)
      tags x (inr o) t j i = h.tags x o t j i

  old_enters : (older : List Event) (taken : ℕ) (id : ℕ) (σ : Store) → IsOld older taken σ → IsOld older taken (record σ { blocks = id ∷ σ.blocks })
  old_enters older taken id σ h = record { newer = h.newer; is = h.is; tags = h.tags; numbers = numbered_entered p f g k id σ h.numbers }

  old_closed : (older : List Event) (taken : ℕ) → IsClosed (IsOld older taken)
  old_closed older taken = record { like = old_like older taken; told = old_told older taken; enters = old_enters older taken }

  -- a call tells no tag of the set
  old_clear : (older : List Event) (taken : ℕ) (σ τ : Store) → Since p f g k σ.events (times g k σ) (λ n. ⊥) true τ → IsOld older taken σ → IsOld older taken τ
  old_clear older taken σ τ s h = record { newer = s.newer ++ h.newer; is = s.is ∙ ap (λ l. s.newer ++ l) h.is ∙ sym (append_assoc s.newer h.newer older); tags = tags; numbers = s.numbered }
    where
      tags : (x : Event) → IsOf x (s.newer ++ h.newer) → IsOne p f g k x → (j : ℕ) → IsOf j x.samples → j < taken
      tags x o t j i = by (in_append x s.newer h.newer o)
        where
          by : IsOf x s.newer ⊎ IsOf x h.newer → j < taken
          by (inl l) = absurd (s.tags x l t).1
          by (inr r) = h.tags x r t j i

  old_out : (older : List Event) (taken : ℕ) (σ : Store) (o : Outcome) → SinceOut p f g k σ.events (times g k σ) (λ n. ⊥) true o → IsOld older taken σ → KOut (IsOld older taken) o
  old_out older taken σ (Went τ) s h = old_clear older taken σ τ s h
  old_out older taken σ (Returned v τ) s h = old_clear older taken σ τ s h
  old_out older taken σ (Stopped z τ) s h = old_clear older taken σ τ s h

  module _ (depth : ℕ) (ps : List Passed) (σ : Store) (stored : HasStored p σ) (formed : AreFormed g.params ps) (taken : AreTaken (record σ { locals = (own_frame p g ps σ).locals }))
      (kept : Its σ) where
    abbrev env : List Binding
    env = (own_frame p g ps σ).env

    abbrev own : Store
    own = record σ { locals = (own_frame p g ps σ).locals }

    abbrev base : ℕ
    base = length σ.locals

    abbrev run : Outcome
    run = own_run p m.regions depth g ps σ

    own_kept : Its own
    own_kept = record { numbered = kept.numbered; weak = kept.weak }

    -- tags are of later instances
    later : SinceOut p f g k own.events (suc (times g k own)) (λ n. Unit {0}) false run
    later = later_body p m.groups marked.checked ranks m.regions f g at k depth own.events (suc (times g k own)) env own
        (record { newer = []; is = refl; tags = λ x o t. absurd o; numbered = own_kept.numbered; soon = omega arith; reached = λ t. absurd (true≢false (sym t)) })

    early : (e : Event) → IsOf e own.events → IsOne p f g k e → e.instance < suc (times g k own)
    early e o t = let l = own_kept.numbered e o t in omega (arith, l)

    deep_kept : 0 < σ.depth → KeptOut p f g k run
    deep_kept d =
        adds_out p f g k own.events (suc (times g k own)) (λ n. Unit {0}) false 1 1 run later
        (block_quiet own.events p.names m.regions (call_to p m.regions depth) (set_home g.body) (λ d x ps τ l h. calls_deep depth d x ps τ own.events l h)
        (knows f g at).first 1 env g.body own (paired_at f g at) (omega arith) (record { deep = omega (arith, d); adds = ([], refl, tt) }))
        early own_kept.weak

    none_kept : NoneNoted k body → KeptOut p f g k run
    none_kept none = clear_out p f g k own (times g k own) true run
        (clear_block p m.groups marked.checked ranks m.regions f g at k depth own.events (times g k own) true (at_start g) g.body (λ b o. o) none env own
        (start p f g k (λ n. ⊥) true own own_kept.numbered)) own_kept

    -- inputs of its own, in one region
    region_kept : 0 < block_notes k g.body → (q : TRegion) × IsOf q m.regions × ((b : Placed) → IsOf b body → (x : Text) → b.kind ≡ consistent x k → covers p q b.id ≡ true) → KeptOut p f g k run
    region_kept some q =
        let w = knows f g at in
        block_path m c.guarded ranks marked.checked f g at k depth w.static (λ d x ps τ es l h. calls_deep depth d x ps τ es l h) q.0 q.1 q.2 (block_notes k g.body) some w.first
        (at_start g) w.first g.body w.end w.laid (λ z i. i) (λ t i d. absurd i)
        (paired_at f g at) refl (home (block_home k (block_notes k g.body) g.body) refl) env own own_kept
      where
        home : (o : Option ℕ) → block_home k (block_notes k g.body) g.body ≡ o → block_home k (block_notes k g.body) g.body ≡ Some (set_home g.body k)
        home None e = absurd (home_there k (block_notes k g.body) g.body refl e)
        home (Some h) e = e ∙ ap Some (sym (ap (λ o. unwrap_or o 0) e))

    abbrev Old : Store → Type 0
    Old τ = IsOld own.events σ.taken τ

    abbrev Noted : VarId → Type 0
    Noted x = IsOf x (annotated p set)

    apart : is_empty (input_sites p f (annotated p set)) ≡ true → (x : VarId) → Noted x → Apart p f (λ a. IsOf a (effects_at p f)) x
    apart e x o a u i br fl =
        none_there (input_sites p f (annotated p set)) (site p f a u x) e
        (site_in flows_are brings_are needs_are m marked c f (annotated p set) a u x i o (input_is flows_are brings_are p m.groups marked.checked f a u x i br fl))

    module _ (e : is_empty (input_sites p f (annotated p set)) ≡ true) (loose : c.guarded f ≡ false) (shut : σ.depth ≡ 0) where
      abbrev Tracked : Where → Store → Type 0
      Tracked w τ =
          Track Old (old_closed own.events σ.taken) m c.guarded (call_to p m.regions depth) (set_home g.body) f base body ((knows f g at).flows depth base) Noted σ.taken (effect p f g at)
          (apart e) w τ

      old_tag : (b : Placed) → IsOf b body → (x : Text) (j : ℤ) → b.kind ≡ consistent x j → (env : List Binding) (w : Where) (τ : Store) → Sees p f base b.id b.at env w τ → Tracked w τ →
          Old (tagged (set_home g.body j) b.id (held_at τ (place_of env x)).samples τ)
      old_tag b o x j kind env w τ sees t = record { newer = d ∷ t.kept.newer; is = ap (λ l. d ∷ l) t.kept.is; tags = tags; numbers = numbers }
        where
          d : Event
          d = record { said = Showed (Tagged b.id); samples = (held_at τ (place_of env x)).samples; instance = count_by (λ id. set_home g.body j == id) τ.blocks }

          same : (y : Event) → y ≡ d → IsOne p f g k y → j ≡ k
          same y s i =
              let number : b.id ≡ i.stmt = ap tag_number (sym (ap (λ (z : Event). z.said) s) ∙ i.said) in
              let q : ◌≡◌ {A = ℕ × ℤ} (f, j) (f, k) = same_Some (f, j) (f, k) (sym (set_here p numbered f g at b x j o kind) ∙ ap (set_of p) number ∙ i.set_is) in
              ap (λ (z : ℕ × ℤ). z.1) q

          old_sample : j ≡ k → (i : ℕ) → IsOf i d.samples → i < σ.taken
          old_sample s i h =
              let n = annotated_here b o x (kind ∙ ap (consistent x) s) in
              let there : IsOf i (samples_of τ w n.0) = subst (λ q. IsOf i (held_at τ q).samples) (sees.owns.named x ∙ ap (place_in w) n.1) h in
              by n.0 n.2 there (sees.owns.known n.0)
            where
              by : (v : VarId) → Noted v → IsOf i (samples_of τ w v) → (w v ≡ Nowhere) ⊎ (is_one p f v ≡ true) → i < σ.taken
              by v z y (inl gone) = absurd (subst (λ q. IsOf i (held_at τ q).samples) gone y)
              by v z y (inr is) = t.old v z v i y (itself is)

          tags : (y : Event) → IsOf y (d ∷ t.kept.newer) → IsOne p f g k y → (i : ℕ) → IsOf i y.samples → i < σ.taken
          tags y (inl s) one i h = old_sample (same y s one) i (subst (λ (z : Event). IsOf i z.samples) s h)
          tags y (inr r) one i h = t.kept.tags y r one i h

          numbers : AreNumbered p f g k (tagged (set_home g.body j) b.id (held_at τ (place_of env x)).samples τ)
          numbers y (inl s) one =
              let q = same y s one in let i : y.instance ≡ times g k τ = ap (λ (z : Event). z.instance) s ∙ ap (λ l. count_by (λ id. set_home g.body l == id) τ.blocks) q in omega (arith, i)
          numbers y (inr r) one = t.kept.numbers y r one

      old_call : (b : Placed) → IsOf b body → (d : TCall) → call_of b.kind ≡ Some d → (env : List Binding) (w : Where) (τ : Store) → Sees p f base b.id b.at env w τ → Tracked w τ →
          ((t : TCalled) → (effect_of p b).call ≡ Some t → c.guarded t.function ≡ true → 0 < τ.depth) →
          KOut Old (call_run p.names m.regions (call_to p m.regions depth) (set_home g.body) env b.id τ d)
      old_call b o (call x args) is env w τ sees t deep = by (args_of env τ args)
        where
          by : (r : HandedOn) → KOut Old (with_args r b.id τ (λ ps. call_to p m.regions depth x ps τ))
          by (Breaks z) = old_told own.events σ.taken _ τ tt t.kept
          by (Passes ps) = old_out own.events σ.taken τ (call_to p m.regions depth x ps τ)
              (calls_away p m.groups marked.checked ranks m.regions f g at k τ.events (times g k τ) (λ n. ⊥) depth true x
              (lower p m.groups marked.checked ranks m.regions f g at k f g at (omega arith) b o x args is) ps τ (start p f g k (λ n. ⊥) true τ t.kept.numbers)) t.kept

      old_run : KOut Old run
      old_run =
          let w = knows f g at in
          block_track Old (old_closed own.events σ.taken) m c.guarded (call_to p m.regions depth) (set_home g.body) f base body (w.flows depth base) Noted σ.taken (effect p f g at)
          (apart e) old_tag old_call
          (AnyTarget m f) (at_start g) w.first g.body (λ z i. i) (paired_at f g at) env (start_where p f base) own
          (inr (body_ok m c.guarded f g w.static loose w.first w.end w.laid w.regions)) (w.sees ps σ stored formed)
          (record {
            taken = taken;
            stored = stored;
            old = λ x y v j h fl. taken.held (start_where p f base v) j h;
            kept = record { newer = []; is = refl; tags = λ x o t. absurd o; numbers = own_kept.numbered };
          })

      joined : (τ : Store) → Since p f g k own.events (suc (times g k own)) (λ n. Unit {0}) false τ → Old τ → Its τ
      joined τ s o = record {
        numbered = s.numbered;
        weak =
            (let same : s.newer ≡ o.newer = same_front s.newer o.newer own.events (sym s.is ∙ o.is) in
            let closed : is_open own.events ≡ false = taken.opened ∙ ap (nat_lt 0) shut in
            subst (AreWeak p f g k) (sym s.is) (weak_join p f g k s.newer own.events (suc (times g k own)) (λ x i t. (s.tags x i t).0) early
            (inr (closed, λ x i t j z. (let l = o.tags x (subst (IsOf x) same i) t j z in let n = taken.count in omega (arith, l, n)))) own_kept.weak));
      }

      old_kept : KeptOut p f g k run
      old_kept = by run later old_run
        where
          by : (o : Outcome) → SinceOut p f g k own.events (suc (times g k own)) (λ n. Unit {0}) false o → KOut Old o → KeptOut p f g k o
          by (Went τ) s o = joined τ s o
          by (Returned v τ) s o = joined τ s o
          by (Stopped z τ) s o = joined τ s o

    -- the run of the set's own function
    pub own_kept_run : (c.guarded f ≡ true → 0 < σ.depth) → KeptOut p f g k run
    own_kept_run deep = elim (either σ.depth) [
      | inl d ↦ deep_kept d
      | inr z ↦ elim (either (block_notes k g.body)) [
        | inr n ↦ none_kept (block_clear k (at_start g) g.body n)
        | inl some ↦ by z some (c.guarded f) refl (is_empty (held p set)) refl (is_empty (input_sites p f (annotated p set))) refl
      ]
    ]
      where
        by : σ.depth ≡ 0 → 0 < block_notes k g.body → (a : Bool) → c.guarded f ≡ a → (h : Bool) → is_empty (held p set) ≡ h → (i : Bool) → is_empty (input_sites p f (annotated p set)) ≡ i →
            KeptOut p f g k run
        by z some true a h e i q = absurd (let d = deep a in omega (arith, d, z))
        by z some false a true e i q = none_kept (λ b o x n. none_there (held p set) b.id e (held_here b o x n))
        by z some false a false e true q = old_kept q a z
        by z some false a false e false q = region_kept some (one_covers a e q)

  -- ---- all functions

  abbrev RunsKeep : ℕ → Type 0
  RunsKeep depth =
      (u : ℕ) (h : TFunction) → slice_get p.functions u ≡ Some h → (ps : List Passed) (σ : Store) → HasStored p σ → AreFormed h.params ps →
      AreTaken (record σ { locals = (own_frame p h ps σ).locals }) → (c.guarded u ≡ true → 0 < σ.depth) → Its σ → KOut Its (own_run p m.regions depth h ps σ)

  abbrev CallsKeep : (depth u low : ℕ) → TFunction → Type 0
  CallsKeep depth u low h =
      (b : Placed) → IsOf b (block_placed (at_start h) h.body) → (d : TCall) → call_of b.kind ≡ Some d → (env : List Binding) (w : Where) (σ : Store) → Sees p u low b.id b.at env w σ → AreTaken σ →
      HasStored p σ → ((t : TCalled) → (effect_of p b).call ≡ Some t → c.guarded t.function ≡ true → 0 < σ.depth) → Its σ →
      KOut Its (call_run p.names m.regions (call_to p m.regions depth) (set_home h.body) env b.id σ d)

  own_taken : (u : ℕ) (h : TFunction) (low : ℕ) (b : Placed) (args : _) (env : List Binding) (w : Where) (σ : Store) → Sees p u low b.id b.at env w σ → AreTaken σ → (ps : List Passed) →
      args_of env σ args ≡ Passes ps → (v : ℕ) (z : TFunction) → params_at p v ≡ z.params → length ps ≡ length z.params → AreTaken (record σ { locals = (own_frame p z ps σ).locals })
  own_taken u h low b args env w σ sees taken ps passes v z params many = record { held = held; count = taken.count; opened = taken.opened; begun = taken.begun }
    where
      frame : Frame
      frame = record { env = nv_env 0 p.names.nvs; locals = σ.locals }

      handed : (i j : ℕ) → IsOf j (passed_samples σ ps i) → j < σ.taken
      handed i j q = let y = arg_named p b env w σ sees.owns.named args (params_at p v) ps i j passes (many ∙ ap (λ (qs : List Param). length qs) (sym params)) q in taken.held (w y.0) j y.2

      order : (l n : ℕ) → (n ≤ l) ⊎ (l < n)
      order l n = grind arith

      held : (r : Place) (j : ℕ) → IsOf j (held_at (record σ { locals = (own_frame p z ps σ).locals }) r).samples → j < σ.taken
      held (Local l) j q = by (order l (length σ.locals))
        where
          by : (length σ.locals ≤ l) ⊎ (l < length σ.locals) → j < σ.taken
          by (inr x) = taken.held (Local l) j (subst (λ o. IsOf j (unwrap_or o nothing).samples) (own_older σ z.params ps frame l x) q)
          by (inl x) = handed (l - length σ.locals) j (own_held σ z.params ps frame (l - length σ.locals) l j (omega (arith, x)) q)
      held (Global l) j q = taken.held (Global l) j q
      held (Turn l) j q = absurd q
      held Nowhere j q = absurd q

  none_called : (u low : ℕ) (h : TFunction) → CallsKeep 0 u low h
  none_called u low h b o (call x args) is env w σ sees taken stored deep kept = by (args_of env σ args)
    where
      by : (r : HandedOn) → KOut Its (with_args r b.id σ (λ ps. call_to p m.regions 0 x ps σ))
      by (Breaks z) = (kept_closed p f g k).told _ σ tt kept
      by (Passes ps) = kept

  call_kept : (depth : ℕ) → RunsKeep depth → (u low : ℕ) (h : TFunction) → slice_get p.functions u ≡ Some h → CallsKeep (suc depth) u low h
  call_kept depth runs u low h at_u b o (call x args) is env w σ sees taken stored deep kept = by (args_of env σ args) refl
    where
      to : (z : Option TFunction) (ps : List Passed) → args_of env σ args ≡ Passes ps → function_named p.functions x ≡ z → KOut Its (function_run p m.regions (call_to p m.regions depth) z ps σ)
      to None ps e n = kept
      to (Some z) ps e n =
          let q = callee_at p x z n in
          let pass = (knows u h at_u).may low b o x args is env w σ sees stored q.0 z q.1 q.2 ps e in
          let called : (effect_of p b).call ≡ Some (called_at p b args q.0) = ap (λ o. option_and_then (called_by p b) o) is ∙ ap (λ o. option_map (called_at p b args) o) q.1 in
          kept_copies p f g k (length σ.locals) z ps (lent_run p m.regions depth z ps σ) (own_run p m.regions depth z ps σ)
          (calls_copy p m.groups marked.checked m.regions depth q.0 z q.2 ps σ stored pass.0)
          (runs q.0 z q.2 ps σ stored pass.1 (own_taken u h low b args env w σ sees taken ps e q.0 z q.3 pass.0.as_many) (λ t. deep (called_at p b args q.0) called t) kept)

      by : (r : HandedOn) → args_of env σ args ≡ r → KOut Its (with_args r b.id σ (λ ps. call_to p m.regions (suc depth) x ps σ))
      by (Breaks z) e = (kept_closed p f g k).told _ σ tt kept
      by (Passes ps) e = to (function_named p.functions x) ps e refl

  run_kept : (depth u : ℕ) (h : TFunction) → slice_get p.functions u ≡ Some h → ((low : ℕ) → CallsKeep depth u low h) → (ps : List Passed) (σ : Store) → HasStored p σ → AreFormed h.params ps →
      AreTaken (record σ { locals = (own_frame p h ps σ).locals }) → (c.guarded u ≡ true → 0 < σ.depth) → Its σ → KOut Its (own_run p m.regions depth h ps σ)
  run_kept depth u h at_u calls ps σ stored formed taken deep kept = by (u == f) refl
    where
      w : Knows m c.guarded u h
      w = knows u h at_u

      mode : (d : Bool) → c.guarded u ≡ d → (0 < σ.depth) ⊎ OkBlock m c.guarded u (AnyTarget m u) (at_start h) h.body
      mode true e = inl (deep e)
      mode false e = inr (body_ok m c.guarded u h w.static e w.first w.end w.laid w.regions)

      -- another function tells no tag of the set
      other_tag : (u ≡ f → ⊥) → (b : Placed) → IsOf b (block_placed (at_start h) h.body) → (x : Text) (j : ℤ) → b.kind ≡ consistent x j → (samples : List ℕ) (τ : Store) → Its τ →
          Its (tagged (set_home h.body j) b.id samples τ)
      other_tag differs b o x j kind samples τ t =
          kept_clear p f g k τ (tagged (set_home h.body j) b.id samples τ) (times g k τ) true
          (since_tagged p f g k τ.events (times g k τ) (λ n. ⊥) true (set_home h.body j) b.id samples τ
          (λ e. absurd (let q : ◌≡◌ {A = ℕ × ℤ} (u, j) (f, k) = same_Some (u, j) (f, k) (sym (set_here p numbered u h at_u b x j o kind) ∙ e) in differs (ap (λ (z : ℕ × ℤ). z.0) q)))
          (start p f g k (λ n. ⊥) true τ t.numbered)) t

      by : (d : Bool) → (u == f) ≡ d → KOut Its (own_run p m.regions depth h ps σ)
      by true e =
          let same : u ≡ f = grind (arith, e) in
          let is : h ≡ g = same_Some h g (sym at_u ∙ ap (slice_get p.functions) same ∙ at) in
          subst (λ (z : TFunction). KOut Its (own_run p m.regions depth z ps σ)) (sym is)
          (own_kept_run depth ps σ stored (subst (λ (z : TFunction). AreFormed z.params ps) is formed)
          (subst (λ (z : TFunction). AreTaken (record σ { locals = (own_frame p z ps σ).locals })) is taken) kept (λ t. deep (ap c.guarded same ∙ t)))
      by false e =
          block_track Its (kept_closed p f g k) m c.guarded (call_to p m.regions depth) (set_home h.body) u (length σ.locals) (block_placed (at_start h) h.body)
          (w.flows depth (length σ.locals)) (λ v. ⊥) 0 (effect p u h at_u) (λ x y. absurd y)
          (λ b o x j kind env v τ sees t. other_tag (λ q. absurd (grind (arith, e, q))) b o x j kind (held_at τ (place_of env x)).samples τ t.kept)
          (λ b o d is env v τ sees t guards. calls (length σ.locals) b o d is env v τ sees t.taken t.stored guards t.kept)
          (AnyTarget m u) (at_start h) w.first h.body (λ z i. i) (paired_at u h at_u) (own_frame p h ps σ).env (start_where p u (length σ.locals))
          (record σ { locals = (own_frame p h ps σ).locals }) (mode (c.guarded u) refl) (w.sees ps σ stored formed)
          (record { taken = taken; stored = stored; old = λ x y. absurd y; kept = kept_like p f g k σ _ refl refl kept })

  pub runs_keep : (depth : ℕ) → RunsKeep depth
  runs_keep zero u h at_u ps σ stored formed taken deep kept = run_kept 0 u h at_u (λ low. none_called u low h) ps σ stored formed taken deep kept
  runs_keep (suc depth) u h at_u ps σ stored formed taken deep kept = run_kept (suc depth) u h at_u (λ low. call_kept depth (runs_keep depth) u low h at_u) ps σ stored formed taken deep kept

  -- ---- the run of a program

  pub main_kept : (samples : List ℤ) → AreWeak p f g k (events_in (main_run p m.regions samples))
  main_kept samples = events_weak p f g k (main_run p m.regions samples) (by (function_named p.functions (codes "main")) refl)
    where
      σ : Store
      σ = first_store p samples

      nothing_told : Its σ
      nothing_told = record { numbered = λ e o t. absurd o; weak = tt }

      by : (o : Option TFunction) → function_named p.functions (codes "main") ≡ o → KOut Its (function_run p m.regions (call_to p m.regions (length p.functions)) o [] σ)
      by None e = nothing_told
      by (Some h) e =
          let q = callee_at p (codes "main") h e in
          let s = starts m marked c samples q.0 h q.1 q.2 in
          let stored = (main_copies p m.groups marked.checked m.regions samples).0 in
          kept_copies p f g k (length σ.locals) h [] (lent_run p m.regions (length p.functions) h [] σ) (own_run p m.regions (length p.functions) h [] σ)
          (calls_copy p m.groups marked.checked m.regions (length p.functions) q.0 h q.2 [] σ stored s.0)
          (runs_keep (length p.functions) q.0 h q.2 [] σ stored s.1 s.2.taken (λ t. was_deep (record σ { locals = (own_frame p h [] σ).locals }) s.2.taken (s.2.deep t)) nothing_told)

-- ---- the law

-- the set of a statement is one of a function
set_stands : (p : TProgram) (n : ℕ) (set : ℕ × ℤ) → set_of p n ≡ Some set → (g : TFunction) × (slice_get p.functions set.0 ≡ Some g)
set_stands p n set e = by (placed p n) e
  where
    at_first : (t : TFunction → Bool) (fs : List TFunction) (i : ℕ) → position t fs ≡ Some i → (g : TFunction) × (slice_get fs i ≡ Some g)
    at_first t fs i q = at_place fs i (first_within t fs i q)
      where
        at_place : (fs : List TFunction) (i : ℕ) → i < length fs → (g : TFunction) × (slice_get fs i ≡ Some g)
        at_place [] i l = absurd (omega (arith, l))
        at_place (g ∷ fs) zero l = (g, refl)
        at_place (g ∷ fs) (suc i) l = at_place fs i (omega (arith, l))

        first_within : (t : TFunction → Bool) (fs : List TFunction) (i : ℕ) → position t fs ≡ Some i → i < length fs
        first_within t fs i q = by (nat_lt (prefix_len (λ y. not (t y)) fs) (length fs)) refl q
          where
            by : (b : Bool) → nat_lt (prefix_len (λ y. not (t y)) fs) (length fs) ≡ b → (if b then Some (prefix_len (λ y. not (t y)) fs) else None) ≡ Some i → i < length fs
            by true l z = let s = same_Some (prefix_len (λ y. not (t y)) fs) i z in let k : prefix_len (λ y. not (t y)) fs < length fs = grind (arith, l) in omega (arith, s, k)
            by false l z = absurd (none-some i z)

    kind_set : (o : Option ℕ) (k : TKind) → set_in o k ≡ Some set → o ≡ Some set.0
    kind_set (Some f) (consistent x k) q = ap (λ (z : ℕ × ℤ). Some z.0) (same_Some (f, k) set q)
    kind_set (Some f) k q = absurd (none-some set q)
    kind_set None k q = absurd (none-some set q)

    by : (o : Option Placed) → set_at p n o ≡ Some set → (g : TFunction) × (slice_get p.functions set.0 ≡ Some g)
    by None q = absurd (none-some set q)
    by (Some a) q = at_first (λ f. list_any (λ s. s == n) (block_statements f.body)) p.functions set.0 (kind_set (function_of p n) a.kind q)

pub runs_part_none : AllFlows → RunsPartNone
runs_part_none flows m marked c samples =
    unparted m.program (events_in (main_run m.program m.regions samples)) (fine_run flows m marked c samples) (λ f g k at. main_kept m marked c flows f g at k samples) (set_stands m.program)
