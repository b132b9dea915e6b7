-- Each step keeps what becomes of the run.
use Rattle.std.proofs.Common.{◌≡◌, ℕ, zero, suc, ℤ, Bool, true, false, List, [], ◌∷◌, length, Option, Some, None, refl, sym, ap, ◌∙◌}
use Rattle.std.specs.Prelude.{pos, ◌+ℤ◌, if◌then◌else◌}
use Rattle.oc_tree.specs.Names.{Text}
use Rattle.oc_tree.specs.Marked.{TRegion}
use Rattle.oc_tree.specs.Tree.{TExpr, TCall, call, TRight, right_value, right_sense, right_call, TKind, let_to, let_array, assign, assign_index, assign_deref, if_else, for_in}
use Rattle.oc_tree.specs.Tree.{while_do, call_only, sense_only, emit, fresh, consistent, return, TElse, no_else, else_do, stmt, TBlock, block, TStmts, no_stmts, more, TFunction}
use Rattle.oc_tree.specs.Tree.{TProgram}
use Rattle.oc_tree.specs.declared.said.Said.TheVariants.{Showed}
use Rattle.oc_tree.specs.declared.said.Shown.TheVariants.{Emitted}
use Rattle.oc_tree.specs.Samples.{union}
use Rattle.oc_meaning.specs.Store.{Value, Place, Event, Store, Binding, plain, replaced, held_at, put, noted, place_of}
use Rattle.oc_meaning.specs.Eval.{Got, Val, Traps, is_zero, element_of, value_of}
use Rattle.oc_meaning.specs.Uses.{is_fresh, is_use, use_samples, begins_use, ends_use}
use Rattle.oc_meaning.specs.Blocks.{set_home}
use Rattle.oc_meaning.specs.Exec.{begun_by, ended_by, Stop, Short, Outcome, Went, Returned, Stopped, Passed, Passing, Passes, Breaks, number_in, with_value, then_do, finished}
use Rattle.oc_meaning.specs.Exec.{opened, closed, used, done, in_turn, grown, args_of, with_args, element_written, for_turns, call_run, right_run, else_run}
use Rattle.oc_meaning.specs.Exec as exec
use Rattle.oc_meaning.specs.Run.{with_params, nv_env, function_named, function_run, call_to}
use Rattle.oc_steps.specs.Sets.{value_by, use_by, args_by, element_written_by}
use Rattle.oc_steps.specs.Steps.{Inside, Frame, Rest, Use, Work, Done, Close, Take, Leave, Turns, Loop, Test, Back, Step, Goes, Asks, Over, begin, begin_else, on_value, of_samples}
use Rattle.oc_steps.specs.Steps.{step_function, step_passed, step_args, step_call, step_right, taken, work, step_rest, step_turns, step_loop, step_test, step_went, step_returned}
use Rattle.oc_steps.specs.Steps.{step, sensed}
use Rattle.oc_steps.specs.Follow.{with_left, with_more, give, stmts_in, block_in, kind_in, after, resume, Keeps, StepsKeep}
use Rattle.oc_steps.proofs.Lefts.{held_left, value_left, use_left, args_left, put_left, opened_left, closed_left, used_left, done_left, grown_left, written_left}

module _ (p : TProgram) (regions : List TRegion) (past : List Event) where
  -- the step leads to what these outcomes, one for each list of samples that come later, lead to under the frames
  abbrev pub Makes : Step → List Frame → (List ℤ → Outcome) → Type 0
  Makes (Goes fs' o') fs W = (t : List ℤ) → resume p regions fs' (with_more past t o') ≡ resume p regions fs (W t)
  Makes (Asks s fs' σ) fs W =
      ((z : ℤ) (t : List ℤ) → resume p regions fs' (with_more past t (sensed p regions union of_samples s z σ)) ≡ resume p regions fs (W (z ∷ t)))
      × (resume p regions fs (W []) ≡ Stopped Short (with_left past [] σ))
  Makes Over fs W = ⊥

  makes_as : (s : Step) (fs : List Frame) (W V : List ℤ → Outcome) → ((t : List ℤ) → W t ≡ V t) → Makes s fs W → Makes s fs V
  makes_as (Goes fs' o') fs W V e h = λ t. h t ∙ ap (resume p regions fs) (e t)
  makes_as (Asks s fs' σ) fs W V e h = ((λ z t. h.0 z t ∙ ap (resume p regions fs) (e (z ∷ t))), ap (resume p regions fs) (sym (e [])) ∙ h.1)
  makes_as Over fs W V e h = absurd h

  makes_under : (s : Step) (f : Frame) (fs : List Frame) (W : List ℤ → Outcome) → Makes s (f ∷ fs) W → Makes s fs (λ t. after p regions f (W t))
  makes_under (Goes fs' o') f fs W h = h
  makes_under (Asks s fs' σ) f fs W h = h
  makes_under Over f fs W h = h

  makes_value : (g : Got) (n : ℕ) (σ : Store) (fs : List Frame) (go : Value → Step) (W : Value → List ℤ → Outcome) → ((v : Value) → Makes (go v) fs (W v))
      → Makes (on_value g n σ fs go) fs (λ t. with_value g n (with_left past t σ) (λ v. W v t))
  makes_value (Val v) n σ fs go W h = h v
  makes_value (Traps k) n σ fs go W h = λ t. refl

  makes_if : (b : Bool) (x y : Step) (fs : List Frame) (W V : List ℤ → Outcome) → Makes x fs W → Makes y fs V → Makes (if b then x else y) fs (λ t. if b then W t else V t)
  makes_if true x y fs W V h k = h
  makes_if false x y fs W V h k = k

  makes_begin : (f : Inside) (env : List Binding) (b : TBlock) (fs : List Frame) (σ : Store) → Makes (begin of_samples f env b fs σ) fs (λ t. block_in p regions f env b (with_left past t σ))
  makes_begin f env (block id ss) fs σ = λ t. refl

  makes_else : (f : Inside) (env : List Binding) (b : TElse) (fs : List Frame) (σ : Store)
      → Makes (begin_else of_samples f env b fs σ) fs (λ t. else_run p.names regions (call_to p regions f.depth) (set_home f.body) env b (with_left past t σ))
  makes_else f env no_else fs σ = λ t. refl
  makes_else f env (else_do b) fs σ = makes_begin f env b fs σ

  makes_function : (d : ℕ) (o : Option TFunction) (ps : List Passed) (fs : List Frame) (σ : Store)
      → Makes (step_function p regions union of_samples d o ps fs σ) fs (λ t. function_run p regions (call_to p regions d) o ps (with_left past t σ))
  makes_function d None ps fs σ = λ t. refl
  makes_function d (Some f) ps fs σ =
      let fr = with_params f.params ps (record { env = nv_env 0 p.names.nvs; locals = σ.locals }) in
      makes_under (begin of_samples (record { depth = d; body = f.body }) fr.env f.body (Leave (length σ.locals) ∷ fs) (record σ { locals = fr.locals })) (Leave (length σ.locals)) fs
      (λ t. block_in p regions (record { depth = d; body = f.body }) fr.env f.body (with_left past t (record σ { locals = fr.locals })))
      (makes_begin (record { depth = d; body = f.body }) fr.env f.body (Leave (length σ.locals) ∷ fs) (record σ { locals = fr.locals }))

  pub makes_passed : (d : ℕ) (x : Text) (ps : List Passed) (fs : List Frame) (σ : Store) → Makes (step_passed p regions union of_samples d x ps fs σ) fs (λ t. call_to p regions d x ps (with_left past t σ))
  makes_passed zero x ps fs σ = λ t. refl
  makes_passed (suc d) x ps fs σ = makes_function d (function_named p.functions x) ps fs σ

  makes_args : (d : ℕ) (x : Text) (gs : Passing) (n : ℕ) (fs : List Frame) (σ : Store)
      → Makes (step_args p regions union of_samples d x gs n fs σ) fs (λ t. with_args gs n (with_left past t σ) (λ ps. call_to p regions d x ps (with_left past t σ)))
  makes_args d x (Passes ps) n fs σ = makes_passed d x ps fs σ
  makes_args d x (Breaks k) n fs σ = λ t. refl

  makes_call : (f : Inside) (env : List Binding) (n : ℕ) (c : TCall) (fs : List Frame) (σ : Store)
      → Makes (step_call p regions union of_samples f env n c fs σ) fs (λ t. call_run p.names regions (call_to p regions f.depth) (set_home f.body) env n (with_left past t σ) c)
  makes_call f env n (call x gs) fs σ =
      makes_as (step_args p regions union of_samples f.depth x (args_by union env σ gs) n fs σ) fs
      (λ t. with_args (args_by union env σ gs) n (with_left past t σ) (λ ps. call_to p regions f.depth x ps (with_left past t σ)))
      (λ t. with_args (args_of env (with_left past t σ) gs) n (with_left past t σ) (λ ps. call_to p regions f.depth x ps (with_left past t σ)))
      (λ t. ap (λ q. with_args q n (with_left past t σ) (λ ps. call_to p regions f.depth x ps (with_left past t σ))) (sym (args_left past t env σ gs)))
      (makes_args f.depth x (args_by union env σ gs) n fs σ)

  short : (fs : List Frame) (σ : Store) → resume p regions fs (Stopped Short σ) ≡ Stopped Short σ
  short [] σ = refl
  short (f ∷ fs) σ = ap (resume p regions fs) (stopped f Short σ) ∙ short fs σ
    where
      stopped : (f : Frame) (s : Stop) (σ : Store) → after p regions f (Stopped s σ) ≡ Stopped s σ
      stopped (Rest f env ss) s σ = refl
      stopped frame s σ = refl

  -- an input under the frames that take its value
  makes_sense : (s : ℕ) (f : Frame) (fs : List Frame) (σ : Store) → Makes (Asks s (f ∷ fs) σ) fs (λ t. after p regions f (exec.sense s t (with_left past t σ)))
  makes_sense s f fs σ = ((λ z t. refl), short (f ∷ fs) (with_left past [] σ))

  makes_right : (f : Inside) (env : List Binding) (n : ℕ) (r : TRight) (g : Frame) (fs : List Frame) (σ : Store)
      → Makes (step_right p regions union of_samples f env n r (g ∷ fs) σ) fs (λ t. after p regions g (right_run p.names regions (call_to p regions f.depth) (set_home f.body) env n (with_left past t σ) r))
  makes_right f env n (right_value e) g fs σ =
      makes_under (step_right p regions union of_samples f env n (right_value e) (g ∷ fs) σ) g fs
      (λ t. with_value (value_of env (with_left past t σ) e) n (with_left past t σ) (λ v. Returned v (with_left past t σ)))
      (makes_as (step_right p regions union of_samples f env n (right_value e) (g ∷ fs) σ) (g ∷ fs)
      (λ t. with_value (value_by union env σ e) n (with_left past t σ) (λ v. Returned v (with_left past t σ)))
      (λ t. with_value (value_of env (with_left past t σ) e) n (with_left past t σ) (λ v. Returned v (with_left past t σ)))
      (λ t. ap (λ q. with_value q n (with_left past t σ) (λ v. Returned v (with_left past t σ))) (sym (value_left past t env σ e)))
      (makes_value (value_by union env σ e) n σ (g ∷ fs) (λ v. Goes (g ∷ fs) (Returned v σ)) (λ v t. Returned v (with_left past t σ)) (λ v t. refl)))
  makes_right f env n (right_sense s) g fs σ = makes_sense (number_in p.names.sensors s) g fs σ
  makes_right f env n (right_call c) g fs σ =
      makes_under (step_call p regions union of_samples f env n c (g ∷ fs) σ) g fs
      (λ t. call_run p.names regions (call_to p regions f.depth) (set_home f.body) env n (with_left past t σ) c) (makes_call f env n c (g ∷ fs) σ)

  -- what becomes of a value
  put_taken : (σ : Store) (q : Place) (v : Value) (t : List ℤ) → with_left past t (put σ q (replaced (held_at σ q) v)) ≡ put (with_left past t σ) q (replaced (held_at (with_left past t σ) q) v)
  put_taken σ q v t = sym (put_left past t σ q (replaced (held_at σ q) v)) ∙ ap (λ h. put (with_left past t σ) q (replaced h v)) (sym (held_left past t σ q))

  makes_taken : (env : List Binding) (n : ℕ) (k : TKind) (v : Value) (fs : List Frame) (σ : Store) → Makes (taken p regions union of_samples env n k v fs σ) fs (λ t. give env n k v (with_left past t σ))
  makes_taken env n (let_to m x k r) v fs σ = λ t. refl
  makes_taken env n (assign x r) v fs σ = λ t. ap (λ τ. resume p regions fs (Went τ)) (put_taken σ (place_of env x) v t)
  makes_taken env n (assign_index x e r) v fs σ =
      makes_as (taken p regions union of_samples env n (assign_index x e r) v fs σ) fs
      (λ t. with_value (value_by union env σ e) n (with_left past t σ)
      (λ i. with_more past t (element_written_by union (place_of env x) (element_of (length (held_at σ (place_of env x)).words) i.num) i v n σ)))
      (λ t. give env n (assign_index x e r) v (with_left past t σ))
      (λ t. written (value_by union env σ e) t
      ∙ ap (λ h. with_value (value_by union env σ e) n (with_left past t σ) (λ i. element_written (place_of env x) (element_of (length h.words) i.num) i v n (with_left past t σ)))
      (sym (held_left past t σ (place_of env x)))
      ∙ ap (λ q. with_value q n (with_left past t σ)
      (λ i. element_written (place_of env x) (element_of (length (held_at (with_left past t σ) (place_of env x)).words) i.num) i v n (with_left past t σ))) (sym (value_left past t env σ e)))
      (makes_value (value_by union env σ e) n σ fs (λ i. Goes fs (element_written_by union (place_of env x) (element_of (length (held_at σ (place_of env x)).words) i.num) i v n σ))
      (λ i t. with_more past t (element_written_by union (place_of env x) (element_of (length (held_at σ (place_of env x)).words) i.num) i v n σ)) (λ i t. refl))
    where
      written : (g : Got) (t : List ℤ) → with_value g n (with_left past t σ)
          (λ i. with_more past t (element_written_by union (place_of env x) (element_of (length (held_at σ (place_of env x)).words) i.num) i v n σ))
          ≡ with_value g n (with_left past t σ) (λ i. element_written (place_of env x) (element_of (length (held_at σ (place_of env x)).words) i.num) i v n (with_left past t σ))
      written (Val i) t = sym (written_left past t (place_of env x) (element_of (length (held_at σ (place_of env x)).words) i.num) i v n σ)
      written (Traps k) t = refl
  makes_taken env n (assign_deref x r) v fs σ = λ t. ap (λ τ. resume p regions fs (Went τ)) (put_taken σ (place_of env x) v t)
  makes_taken env n k v fs σ = λ t. refl

  makes_work : (f : Inside) (env : List Binding) (n : ℕ) (k : TKind) (fs : List Frame) (σ : Store)
      → Makes (work p regions union of_samples f env n k fs σ) fs (λ t. kind_in p regions f env n k (with_left past t σ))
  makes_work f env n (let_to m x k r) fs σ = makes_right f env n r (Take env n (let_to m x k r)) fs σ
  makes_work f env n (let_array m x k z c) fs σ = λ t. refl
  makes_work f env n (assign x r) fs σ = makes_right f env n r (Take env n (assign x r)) fs σ
  makes_work f env n (assign_index x e r) fs σ = makes_right f env n r (Take env n (assign_index x e r)) fs σ
  makes_work f env n (assign_deref x r) fs σ = makes_right f env n r (Take env n (assign_deref x r)) fs σ
  makes_work f env n (if_else c a b) fs σ =
      makes_as (work p regions union of_samples f env n (if_else c a b) fs σ) fs
      (λ t. with_value (value_by union env σ c) n (with_left past t σ)
      (λ v. if is_zero v.num then else_run p.names regions (call_to p regions f.depth) (set_home f.body) env b (with_left past t σ) else block_in p regions f env a (with_left past t σ)))
      (λ t. kind_in p regions f env n (if_else c a b) (with_left past t σ))
      (λ t. ap (λ q. with_value q n (with_left past t σ)
      (λ v. if is_zero v.num then else_run p.names regions (call_to p regions f.depth) (set_home f.body) env b (with_left past t σ) else block_in p regions f env a
      (with_left past t σ))) (sym (value_left past t env σ c)))
      (makes_value (value_by union env σ c) n σ fs (λ v. if is_zero v.num then begin_else of_samples f env b fs σ else begin of_samples f env a fs σ)
      (λ v t. if is_zero v.num then else_run p.names regions (call_to p regions f.depth) (set_home f.body) env b (with_left past t σ) else block_in p regions f env a (with_left past t σ))
      (λ v. makes_if (is_zero v.num) (begin_else of_samples f env b fs σ) (begin of_samples f env a fs σ) fs
      (λ t. else_run p.names regions (call_to p regions f.depth) (set_home f.body) env b (with_left past t σ)) (λ t. block_in p regions f env a (with_left past t σ))
      (makes_else f env b fs σ) (makes_begin f env a fs σ)))
  makes_work f env n (for_in x c d b) fs σ = λ t. refl
  makes_work f env n (while_do c t b) fs σ = λ t. refl
  makes_work f env n (call_only c) fs σ =
      makes_as (work p regions union of_samples f env n (call_only c) fs σ) fs
      (λ t. after p regions (Take env n (call_only c)) (call_run p.names regions (call_to p regions f.depth) (set_home f.body) env n (with_left past t σ) c))
      (λ t. kind_in p regions f env n (call_only c) (with_left past t σ))
      (λ t. refl)
      (makes_under (step_call p regions union of_samples f env n c (Take env n (call_only c) ∷ fs) σ) (Take env n (call_only c)) fs
      (λ t. call_run p.names regions (call_to p regions f.depth) (set_home f.body) env n (with_left past t σ) c)
      (makes_call f env n c (Take env n (call_only c) ∷ fs) σ))
  makes_work f env n (sense_only s) fs σ = makes_sense (number_in p.names.sensors s) (Take env n (sense_only s)) fs σ
  makes_work f env n (emit q e) fs σ =
      makes_as (work p regions union of_samples f env n (emit q e) fs σ) fs
      (λ t. with_value (value_by union env σ e) n (with_left past t σ) (λ v. Went (noted (Showed (Emitted (number_in p.names.ports q) v.num)) v.samples (with_left past t σ))))
      (λ t. kind_in p regions f env n (emit q e) (with_left past t σ))
      (λ t. ap (λ g. with_value g n (with_left past t σ) (λ v. Went (noted (Showed (Emitted (number_in p.names.ports q) v.num)) v.samples (with_left past t σ)))) (sym (value_left past t env σ e)))
      (makes_value (value_by union env σ e) n σ fs (λ v. Goes fs (Went (noted (Showed (Emitted (number_in p.names.ports q) v.num)) v.samples σ)))
      (λ v t. Went (noted (Showed (Emitted (number_in p.names.ports q) v.num)) v.samples (with_left past t σ))) (λ v t. refl))
  makes_work f env n (fresh x) fs σ = λ t. refl
  makes_work f env n (consistent x k) fs σ =
      λ t. ap (λ h. resume p regions fs (Went (exec.tagged (set_home f.body k) n h.samples (with_left past t σ)))) (sym (held_left past t σ (place_of env x)))
  makes_work f env n (return e) fs σ =
      let is : Bool = is_use (is_fresh env) (return e) in
      makes_as (work p regions union of_samples f env n (return e) fs σ) fs
      (λ t. with_value (value_by union env σ e) n (with_left past t σ) (λ v. Returned v (closed (ended_by regions n) (with_left past t (done is n (use_by union env (return e) σ) σ)))))
      (λ t. kind_in p regions f env n (return e) (with_left past t σ))
      (λ t.
      ap (λ τ. with_value (value_by union env σ e) n (with_left past t σ) (λ v. Returned v (closed (ended_by regions n) τ))) (sym (done_left past t is n (use_by union env (return e) σ) σ))
      ∙ ap (λ u. with_value (value_by union env σ e) n (with_left past t σ) (λ v. Returned v (closed (ended_by regions n) (done is n u (with_left past t σ))))) (sym (use_left past t env (return e) σ))
      ∙ ap (λ g. with_value g n (with_left past t σ)
      (λ v. Returned v (closed (ended_by regions n) (done is n (use_samples env (return e) (with_left past t σ)) (with_left past t σ))))) (sym (value_left past t env σ e)))
      (makes_value (value_by union env σ e) n σ fs (λ v. Goes (Back v (ended_by regions n) ∷ fs) (Went (done is n (use_by union env (return e) σ) σ)))
      (λ v t. Returned v (closed (ended_by regions n) (with_left past t (done is n (use_by union env (return e) σ) σ)))) (λ v t. refl))

  finished_both : (g h : Store → Store) (o : Outcome) → finished g (finished h o) ≡ finished (λ τ. g (h τ)) o
  finished_both g h (Went σ) = refl
  finished_both g h (Returned v σ) = refl
  finished_both g h (Stopped s σ) = refl

  makes_rest : (f : Inside) (env : List Binding) (ss : TStmts) (fs : List Frame) (σ : Store)
      → Makes (step_rest p regions union of_samples f env ss fs σ) fs (λ t. stmts_in p regions f env ss (with_left past t σ))
  makes_rest f env no_stmts fs σ = λ t. refl
  makes_rest f env (more (stmt n line k) rest) fs σ =
      λ t.
      let u : List ℕ = use_by union env k σ in
      let be : Bool = begins_use (is_fresh env) k in
      let en : Bool = ends_use (is_fresh env) k in
      let e : Option ℕ = ended_by regions n in
      ap (λ o. resume p regions fs (then_do o (stmts_in p regions f (grown k rest env σ) rest)))
      (finished_both (closed e) (done en n u) (kind_in p regions f env n k (used be n u (with_left past t (opened (begun_by regions n) σ)))))
      ∙ ap (λ τ. resume p regions fs (then_do (finished (λ υ. closed e (done en n u υ)) (kind_in p regions f env n k (used be n u τ)))
      (stmts_in p regions f (grown k rest env σ) rest))) (sym (opened_left past t (begun_by regions n) σ))
      ∙ ap (λ γ. resume p regions fs (then_do (finished (λ υ. closed e (done en n u υ))
      (kind_in p regions f env n k (used be n u (opened (begun_by regions n) (with_left past t σ))))) (stmts_in p regions f γ rest))) (sym (grown_left past t k rest env σ))
      ∙ ap (λ w. resume p regions fs (then_do (finished (λ υ. closed e (done en n w υ))
      (kind_in p regions f env n k (used be n w (opened (begun_by regions n) (with_left past t σ))))) (stmts_in p regions f (grown k rest env (with_left past t σ)) rest)))
      (sym (use_left past t env k σ))

  makes_turns : (f : Inside) (x : Text) (c : ℕ) (i : ℤ) (b : TBlock) (env : List Binding) (fs : List Frame) (σ : Store)
      → Makes (step_turns p regions union of_samples f x c i b env fs σ) fs (λ t. for_turns c i (λ j. block_in p regions f (in_turn x j ∷ env) b) (with_left past t σ))
  makes_turns f x zero i b env fs σ = λ t. refl
  makes_turns f x (suc c) i b env fs σ =
      makes_under (begin of_samples f (in_turn x i ∷ env) b (Turns f x c (i +ℤ pos 1) b env ∷ fs) σ) (Turns f x c (i +ℤ pos 1) b env) fs (λ t. block_in p regions f (in_turn x i ∷ env) b (with_left past t σ))
      (makes_begin f (in_turn x i ∷ env) b (Turns f x c (i +ℤ pos 1) b env ∷ fs) σ)

  makes_loop : (f : Inside) (env : List Binding) (n : ℕ) (c : TExpr) (m : ℕ) (b : TBlock) (before : List ℕ) (fs : List Frame) (σ : Store)
      → Makes (step_loop p regions union of_samples f env n c m b before fs σ) fs (λ t. after p regions (Loop f env n c m b before) (Went (with_left past t σ)))
  makes_loop f env n c zero b before fs σ = λ t. ap (λ τ. resume p regions fs (Went τ)) (sym (done_left past t (is_use (is_fresh env) (while_do c 0 b)) n before σ))
  makes_loop f env n c (suc m) b before fs σ =
      λ t.
      let is : Bool = is_use (is_fresh env) (while_do c 0 b) in
      let u : List ℕ = use_by union env (while_do c 0 b) σ in
      ap (λ τ. resume p regions fs (after p regions (Test f env n c m b (union before u)) (Went τ))) (sym (used_left past t is n u σ))
      ∙ ap (λ w. resume p regions fs (after p regions (Test f env n c m b (union before w)) (Went (used is n w (with_left past t σ))))) (sym (use_left past t env (while_do c 0 b) σ))

  makes_test : (f : Inside) (env : List Binding) (n : ℕ) (c : TExpr) (m : ℕ) (b : TBlock) (all : List ℕ) (fs : List Frame) (σ : Store)
      → Makes (step_test p regions union of_samples f env n c m b all fs σ) fs (λ t. after p regions (Test f env n c m b all) (Went (with_left past t σ)))
  makes_test f env n c m b all fs σ =
      let is : Bool = is_use (is_fresh env) (while_do c 0 b) in
      let V : Value → List ℤ → Outcome = λ v t. if is_zero v.num then Went (with_left past t (done is n all σ)) else after p regions (Loop f env n c m b all)
      (block_in p regions f env b (with_left past t σ)) in
      makes_as (step_test p regions union of_samples f env n c m b all fs σ) fs
      (λ t. with_value (value_by union env σ c) n (with_left past t σ) (λ v. V v t))
      (λ t. after p regions (Test f env n c m b all) (Went (with_left past t σ)))
      (λ t. ap (λ τ. with_value (value_by union env σ c) n (with_left past t σ)
      (λ v. if is_zero v.num then Went τ else after p regions (Loop f env n c m b all) (block_in p regions f env b (with_left past t σ)))) (sym (done_left past t is n all σ))
      ∙ ap (λ g. with_value g n (with_left past t σ)
      (λ v. if is_zero v.num then Went (done is n all (with_left past t σ)) else after p regions (Loop f env n c m b all) (block_in p regions f env b (with_left past t σ))))
      (sym (value_left past t env σ c)))
      (makes_value (value_by union env σ c) n σ fs (λ v. if is_zero v.num then Goes fs (Went (done is n all σ)) else begin of_samples f env b (Loop f env n c m b all ∷ fs) σ) V
      (λ v. makes_if (is_zero v.num) (Goes fs (Went (done is n all σ))) (begin of_samples f env b (Loop f env n c m b all ∷ fs) σ) fs
      (λ t. Went (with_left past t (done is n all σ))) (λ t. after p regions (Loop f env n c m b all) (block_in p regions f env b (with_left past t σ)))
      (λ t. refl)
      (makes_under (begin of_samples f env b (Loop f env n c m b all ∷ fs) σ) (Loop f env n c m b all) fs (λ t. block_in p regions f env b (with_left past t σ))
      (makes_begin f env b (Loop f env n c m b all ∷ fs) σ))))

  makes_went : (f : Frame) (fs : List Frame) (σ : Store) → Makes (step_went p regions union of_samples f fs σ) fs (λ t. after p regions f (Went (with_left past t σ)))
  makes_went (Rest f env ss) fs σ = makes_rest f env ss fs σ
  makes_went (Use f env n u k) fs σ = λ t. ap (λ τ. resume p regions fs (kind_in p regions f env n k τ)) (sym (used_left past t (begins_use (is_fresh env) k) n u σ))
  makes_went (Work f env n k) fs σ = makes_work f env n k fs σ
  makes_went (Done is n u) fs σ = λ t. ap (λ τ. resume p regions fs (Went τ)) (sym (done_left past t is n u σ))
  makes_went (Close r) fs σ = λ t. ap (λ τ. resume p regions fs (Went τ)) (sym (closed_left past t r σ))
  makes_went (Take env n k) fs σ = makes_taken env n k (plain (pos 0)) fs σ
  makes_went (Leave n) fs σ = λ t. refl
  makes_went (Turns f x c i b env) fs σ = makes_turns f x c i b env fs σ
  makes_went (Loop f env n c m b before) fs σ = makes_loop f env n c m b before fs σ
  makes_went (Test f env n c m b all) fs σ = makes_test f env n c m b all fs σ
  makes_went (Back v r) fs σ = λ t. ap (λ τ. resume p regions fs (Returned v τ)) (sym (closed_left past t r σ))

  makes_returned : (f : Frame) (v : Value) (fs : List Frame) (σ : Store) → Makes (step_returned p regions union of_samples f v fs σ) fs (λ t. after p regions f (Returned v (with_left past t σ)))
  makes_returned (Take env n k) v fs σ = makes_taken env n k v fs σ
  makes_returned (Turns f x t i b env) v fs σ = λ t. refl
  makes_returned (Loop f env n c t b before) v fs σ = λ t. refl
  makes_returned (Test f env n c t b all) v fs σ = λ t. refl
  makes_returned frame v fs σ = λ t. refl

  stays_stopped : (fs : List Frame) (s : Stop) (σ : Store) → resume p regions fs (Stopped s σ) ≡ Stopped s σ
  stays_stopped [] s σ = refl
  stays_stopped (f ∷ fs) s σ = ap (resume p regions fs) (stopped f) ∙ stays_stopped fs s σ
    where
      stopped : (f : Frame) → after p regions f (Stopped s σ) ≡ Stopped s σ
      stopped (Rest f env ss) = refl
      stopped frame = refl

module _ (p : TProgram) (regions : List TRegion) where
  keeps_made : (s : Step) (f : Frame) (fs : List Frame) (o : Outcome) → ((past : List Event) → Makes p regions past s fs (λ t. after p regions f (with_more past t o))) → Keeps p regions s (f ∷ fs) o
  keeps_made (Goes fs' o') f fs o h = λ past t. h past t
  keeps_made (Asks s fs' σ) f fs o h = ((λ past z t. (h past).0 z t), (λ past. (h past).1))
  keeps_made Over f fs o h = absurd (h [])

  keeps : (fs : List Frame) (o : Outcome) → Keeps p regions (step p regions union of_samples fs o) fs o
  keeps [] o = λ past t. refl
  keeps (f ∷ fs) (Went σ) = keeps_made (step_went p regions union of_samples f fs σ) f fs (Went σ) (λ past. makes_went p regions past f fs σ)
  keeps (f ∷ fs) (Returned v σ) = keeps_made (step_returned p regions union of_samples f v fs σ) f fs (Returned v σ) (λ past. makes_returned p regions past f v fs σ)
  keeps (f ∷ fs) (Stopped s σ) = λ past t. stays_stopped p regions past (f ∷ fs) s (with_left past t σ)

pub steps_keep : StepsKeep
steps_keep = λ p regions fs o. keeps p regions fs o
