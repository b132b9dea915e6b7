-- What steps tell of the marked run.
use Rattle.std.proofs.Common.{◌≡◌, ℕ, ℤ, Bool, List, [], ◌∷◌, ◌++◌, length, map, refl, sym, ap, ◌∙◌, subst, append-nil, append_assoc}
use Rattle.std.specs.Prelude.{if◌then◌else◌}
use Rattle.std.proofs.lemmas.List.{map-append}
use Rattle.oc_tree.specs.Marked.{TRegion}
use Rattle.oc_tree.specs.Tree.{TKind, let_to, assign, assign_index, assign_deref, while_do, TProgram}
use Rattle.oc_tree.specs.Samples.{union}
use Rattle.oc_meaning.specs.Store.{Value, Event, Store, Binding, replaced, held_at, place_of}
use Rattle.oc_meaning.specs.Eval.{is_zero, element_of, value_of}
use Rattle.oc_meaning.specs.Uses.{is_fresh, is_use, use_samples, begins_use}
use Rattle.oc_meaning.specs.Blocks.{set_home}
use Rattle.oc_meaning.specs.Exec.{Trap, Short, Outcome, Went, Returned, Stopped, with_value, then_do, done, closed, element_written, for_turns, while_turns, in_turn, used}
use Rattle.oc_meaning.specs.Parts.{MayBe}
use Rattle.oc_meaning.specs.Run.{in_order, call_to, main_run, marked_run, said_in, trace_of}
use Rattle.oc_steps.specs.Steps.{Inside, Frame, Rest, Use, Work, Done, Close, Take, Leave, Turns, Loop, Test, Back, Goes, Asks, Over, step, sensed, of_samples}
use Rattle.oc_steps.specs.Follow.{with_left, with_more, give, stmts_in, block_in, kind_in, after, resume, Keeps}
use Rattle.oc_meaning.specs.Cuts.{Begins, events_in}
use Rattle.oc_meaning.proofs.Beginning.{trace_begins}
use Rattle.oc_items.specs.Reports.{IsPrefixOf}
use Rattle.oc_steps.specs.Heard.{cleared, said_so_far, Under}
use Rattle.oc_steps.specs.Hearing.{GoesOn, TakesOne, BeginsIt, IsShort, IsOver, SaysNoOther, Hears}
use Rattle.oc_steps.proofs.Keeping.{steps_keep}
use Rattle.oc_meaning.proofs.Growing.{used_keeps, done_keeps, closed_keeps, put_keeps, value_keeps, then_keeps, result_keeps, finished_keeps, leave_keeps, element_keeps, for_keeps}
use Rattle.oc_meaning.proofs.Growing.{either_keeps, while_keeps, kind_keeps, block_keeps, stmts_keeps, call_to_keeps}

-- what each run keeps of its events, the frames keep
module _ (P : List Event → Type 0) (more : (e : Event) (es : List Event) → P es → P (e ∷ es)) (p : TProgram) (regions : List TRegion) where
  grows : (e : Event) (es : List Event) → MayBe e.said e.samples e.instance → P es → P (e ∷ es)
  grows e es u h = more e es h

  give_grows : (env : List Binding) (n : ℕ) (k : TKind) (v : Value) (σ : Store) → P σ.events → P (events_in (give env n k v σ))
  give_grows env n (let_to m x t r) v σ h = h
  give_grows env n (assign x r) v σ h = put_keeps P grows σ (place_of env x) (replaced (held_at σ (place_of env x)) v) h
  give_grows env n (assign_index x e r) v σ h =
      value_keeps P grows (value_of env σ e) n σ (λ i. element_written (place_of env x) (element_of (length (held_at σ (place_of env x)).words) i.num) i v n σ) h
      (λ i. element_keeps P grows (place_of env x) (element_of (length (held_at σ (place_of env x)).words) i.num) i v n σ h)
  give_grows env n (assign_deref x r) v σ h = put_keeps P grows σ (place_of env x) (replaced (held_at σ (place_of env x)) v) h
  give_grows env n k v σ h = h

  call_grows : (d : ℕ) → (f : Rattle.oc_tree.specs.Names.Text) (ps : List Rattle.oc_meaning.specs.Exec.Passed) (σ : Store) → P σ.events → P (events_in (call_to p regions d f ps σ))
  call_grows d = call_to_keeps P grows p regions d

  block_grows : (f : Inside) (env : List Binding) (b : Rattle.oc_tree.specs.Tree.TBlock) (σ : Store) → P σ.events → P (events_in (block_in p regions f env b σ))
  block_grows f env b σ h = block_keeps P grows p.names regions (call_to p regions f.depth) (set_home f.body) (call_grows f.depth) env b σ h

  after_grows : (f : Frame) (o : Outcome) → P (events_in o) → P (events_in (after p regions f o))
  after_grows (Rest f env ss) o h = then_keeps P grows o (stmts_in p regions f env ss) h
      (λ σ k. stmts_keeps P grows p.names regions (call_to p regions f.depth) (set_home f.body) (call_grows f.depth) env ss σ k)
  after_grows (Use f env n u k) o h =
      then_keeps P grows o (λ σ. kind_in p regions f env n k (used (begins_use (is_fresh env) k) n u σ)) h
      (λ σ l. kind_keeps P grows p.names regions (call_to p regions f.depth) (set_home f.body) (call_grows f.depth) env n k (used (begins_use (is_fresh env) k) n u σ)
      (used_keeps P grows (begins_use (is_fresh env) k) n u σ l))
  after_grows (Work f env n k) o h = then_keeps P grows o (kind_in p regions f env n k) h
      (λ σ l. kind_keeps P grows p.names regions (call_to p regions f.depth) (set_home f.body) (call_grows f.depth) env n k σ l)
  after_grows (Done is n u) o h = finished_keeps P grows o (done is n u) h (λ σ l. done_keeps P grows is n u σ l)
  after_grows (Close r) o h = finished_keeps P grows o (closed r) h (λ σ l. closed_keeps P grows r σ l)
  after_grows (Take env n k) o h = result_keeps P grows o (give env n k) h (λ v σ l. give_grows env n k v σ l)
  after_grows (Leave n) o h = leave_keeps P grows n o h
  after_grows (Turns f x t i b env) o h =
      then_keeps P grows o (for_turns t i (λ i. block_in p regions f (in_turn x i ∷ env) b)) h
      (λ σ l. for_keeps P grows t i (λ i. block_in p regions f (in_turn x i ∷ env) b) σ l (λ j τ m. block_grows f (in_turn x j ∷ env) b τ m))
  after_grows (Loop f env n c t b u) o h =
      then_keeps P grows o (while_turns t n (is_use (is_fresh env) (while_do c 0 b)) (use_samples env (while_do c 0 b)) (λ τ. value_of env τ c) (block_in p regions f env b) u) h
      (λ σ l. while_keeps P grows t n (is_use (is_fresh env) (while_do c 0 b)) (use_samples env (while_do c 0 b)) (λ τ. value_of env τ c) (block_in p regions f env b) u σ l
      (λ τ m. block_grows f env b τ m))
  after_grows (Test f env n c t b u) o h =
      let is : Bool = is_use (is_fresh env) (while_do c 0 b) in
      let rest : Store → Outcome = while_turns t n is (use_samples env (while_do c 0 b)) (λ τ. value_of env τ c) (block_in p regions f env b) u in
      then_keeps P grows o (λ σ. with_value (value_of env σ c) n σ (λ v. if is_zero v.num then Went (done is n u σ) else then_do (block_in p regions f env b σ) rest)) h
      (λ σ l. value_keeps P grows (value_of env σ c) n σ (λ v. if is_zero v.num then Went (done is n u σ) else then_do (block_in p regions f env b σ) rest) l
      (λ v. either_keeps P grows (is_zero v.num) (Went (done is n u σ)) (then_do (block_in p regions f env b σ) rest) (done_keeps P grows is n u σ l)
      (then_keeps P grows (block_in p regions f env b σ) rest (block_grows f env b σ l)
      (λ τ m. while_keeps P grows t n is (use_samples env (while_do c 0 b)) (λ τ. value_of env τ c) (block_in p regions f env b) u τ m (λ υ q. block_grows f env b υ q)))))
  after_grows (Back v r) o h = then_keeps P grows o (λ σ. Returned v (closed r σ)) h (λ σ l. closed_keeps P grows r σ l)

  resume_grows : (fs : List Frame) (o : Outcome) → P (events_in o) → P (events_in (resume p regions fs o))
  resume_grows [] o h = h
  resume_grows (f ∷ fs) o h = resume_grows fs (after p regions f o) (after_grows f o h)

-- these events are the oldest
abbrev Behind : List Event → List Event → Type 0
Behind past es = (new : List Event) × (es ≡ new ++ past)

behind_more : (past : List Event) (e : Event) (es : List Event) → Behind past es → Behind past (e ∷ es)
behind_more past e es h = (e ∷ h.0, ap (λ l. e ∷ l) h.1)

in_order-append : (xs ys : List Event) → in_order (xs ++ ys) ≡ in_order ys ++ in_order xs
in_order-append [] ys = sym (append-nil (in_order ys))
in_order-append (x ∷ xs) ys = ap (λ l. l ++ x ∷ []) (in_order-append xs ys) ∙ append_assoc (in_order ys) (in_order xs) (x ∷ [])

-- so what they say is said first
said_first : (past es : List Event) → Behind past es → IsPrefixOf (said_so_far past) (said_so_far es)
said_first past es h =
    (said_so_far h.0, sym (map-append (λ e. e.said) (in_order past) (in_order h.0)) ∙ ap (map (λ e. e.said)) (sym (in_order-append h.0 past)) ∙ sym (ap said_so_far h.1))

-- an outcome's trace has its events, and the end perhaps
trace_behind : (past : List Event) (o : Outcome) → Behind past (events_in o) → IsPrefixOf (said_so_far past) (said_in (trace_of o))
trace_behind past (Went σ) h = said_first past (_ ∷ σ.events) (behind_more past _ σ.events h)
trace_behind past (Returned v σ) h = said_first past (_ ∷ σ.events) (behind_more past _ σ.events h)
trace_behind past (Stopped Trap σ) h = said_first past σ.events h
trace_behind past (Stopped Short σ) h = said_first past σ.events h

more_events : (past : List Event) (t : List ℤ) (o : Outcome) → events_in (with_more past t o) ≡ events_in o ++ past
more_events past t (Went σ) = refl
more_events past t (Returned v σ) = refl
more_events past t (Stopped s σ) = refl

clear_events : (o : Outcome) → events_in (cleared o) ≡ []
clear_events (Went σ) = refl
clear_events (Returned v σ) = refl
clear_events (Stopped s σ) = refl

clear_more : (past : List Event) (t : List ℤ) (o : Outcome) → with_more past t o ≡ with_more (events_in o ++ past) t (cleared o)
clear_more past t (Went σ) = refl
clear_more past t (Returned v σ) = refl
clear_more past t (Stopped s σ) = refl

module _ (p : TProgram) (regions : List TRegion) where
  goes_on : GoesOn p regions
  goes_on v past fs fs' o o' u e =
      let k : Keeps p regions (Goes fs' o') fs o = subst (λ s. Keeps p regions s fs o) e (steps_keep p regions fs o) in
      record {
        run = λ t. u.run t ∙ sym (k past t) ∙ ap (resume p regions fs') (clear_more past t o');
        none = clear_events o';
      }

  takes_one : TakesOne p regions
  takes_one v past fs fs' o s σ z u e =
      let k : Keeps p regions (Asks s fs' σ) fs o = subst (λ q. Keeps p regions q fs o) e (steps_keep p regions fs o) in
      record {
        run = λ t. ap (main_run p regions) (append_assoc v (z ∷ []) t) ∙ u.run (z ∷ t) ∙ sym (k.0 past z t) ∙ ap (resume p regions fs') (clear_more past t (sensed p regions union of_samples s z σ));
        none = clear_events (sensed p regions union of_samples s z σ);
      }

  begins_it : BeginsIt p regions
  begins_it v past fs o u =
      λ t.
      let at : Behind past (events_in (with_more past t o)) = ([], more_events past t o ∙ ap (λ es. es ++ past) u.none) in
      subst (λ q. IsPrefixOf (said_so_far past) (said_in (trace_of q))) (sym (u.run t))
      (trace_behind past (resume p regions fs (with_more past t o)) (resume_grows (Behind past) (behind_more past) p regions fs (with_more past t o) at))

  is_short : IsShort p regions
  is_short v past fs fs' o s σ u e =
      let k : Keeps p regions (Asks s fs' σ) fs o = subst (λ q. Keeps p regions q fs o) e (steps_keep p regions fs o) in
      let run : main_run p regions v ≡ Stopped Short (with_left past [] σ) = ap (main_run p regions) (sym (append-nil v)) ∙ u.run [] ∙ k.1 past in
      (ap (λ q. said_in (trace_of q)) run, ap (λ q. (trace_of q).ending) run)

  is_over : IsOver p regions
  is_over v past fs o u e =
      let k : Keeps p regions Over fs o = subst (λ q. Keeps p regions q fs o) e (steps_keep p regions fs o) in
      ap (λ q. trace_of q) (ap (main_run p regions) (sym (append-nil v)) ∙ u.run [] ∙ k past [])

says_one : SaysNoOther
says_one [] [] a b h k = absurd (cc (h.1))
says_one [] (c ∷ all) a b h k = cc (h.1, k.1)
says_one (s ∷ ss) [] a b h k = absurd (cc (h.1))
says_one (s ∷ ss) (c ∷ all) a b h k = says_one ss all a b (h.0, cc (h.1)) (k.0, cc (k.1))

-- what was told is what the run's events begin with
pub events_first : (p : TProgram) (regions : List TRegion) (v : List ℤ) (past : List Event) (fs : List Frame) (o : Outcome) → Under p regions v past fs o → (t : List ℤ)
    → Begins (in_order past) (marked_run p regions (v ++ t)).events
events_first p regions v past fs o u t =
    let at : Behind past (events_in (with_more past t o)) = ([], more_events past t o ∙ ap (λ es. es ++ past) u.none) in
    let all = resume_grows (Behind past) (behind_more past) p regions fs (with_more past t o) at in
    subst (λ q. Begins (in_order past) (trace_of q).events) (sym (u.run t)) (trace_begins past (resume p regions fs (with_more past t o)) (record { more = all.0; is = all.1 }))

-- where no step is left, later samples change nothing
pub over_always : (p : TProgram) (regions : List TRegion) (v : List ℤ) (past : List Event) (fs : List Frame) (o : Outcome) → Under p regions v past fs o → step p regions union of_samples fs o ≡ Over
    → (t : List ℤ) → marked_run p regions (v ++ t) ≡ trace_of (with_more past t o)
over_always p regions v past fs o u e t =
    let k : Keeps p regions Over fs o = subst (λ q. Keeps p regions q fs o) e (steps_keep p regions fs o) in
    ap (λ q. trace_of q) (u.run t ∙ k past t)

pub hears : Hears
hears = record { goes_on = goes_on; takes_one = takes_one; begins_it = begins_it; is_short = is_short; is_over = is_over; says_one = says_one }
