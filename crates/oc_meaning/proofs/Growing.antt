-- A run only adds events, and only such as a run may say.
use Rattle.std.proofs.Common.{ℕ, zero, suc, Bool, true, false, List, [], ◌∷◌, length, Option, Some, None, refl}
use Rattle.std.specs.Prelude.{ℤ, pos, ◌+ℤ◌, ◌-ℤ◌, ◌==◌, if◌then◌else◌, codes}
use Rattle.oc_tree.specs.Names.{Text, NameLists}
use Rattle.oc_tree.specs.Tree.{TCall, call, TRight, right_value, right_sense, right_call, TKind, let_to, let_array, assign, assign_index, assign_deref, if_else, for_in, while_do}
use Rattle.oc_tree.specs.Tree.{call_only, sense_only, emit, fresh, consistent, return, TElse, no_else, else_do, stmt, TBlock, block, TStmts, no_stmts, more, TFunction, TProgram}
use Rattle.oc_tree.specs.Marked.{TRegion}
use Rattle.oc_tree.specs.declared.said.Said.TheVariants.{Entered, Committed}
use Rattle.oc_tree.specs.Weight.{count_of}
use Rattle.oc_tree.specs.Samples.{union}
use Rattle.oc_meaning.specs.Store.{Value, Held, Place, Local, Global, Turn, Nowhere, Event, Store, Binding, held_at, put, replaced, place_of}
use Rattle.oc_meaning.specs.Eval.{Got, Val, Traps, is_zero, element_of, value_of}
use Rattle.oc_meaning.specs.Uses.{is_fresh, is_use, use_samples, begins_use, ends_use}
use Rattle.oc_meaning.specs.Exec.{begun_by, ended_by, Outcome, Went, Returned, Stopped, Passed, Passing, Passes, Breaks, number_in, with_value, then_do, with_result, dropped}
use Rattle.oc_meaning.specs.Exec.{leave, told_if, opened, closed, used, done, finished, sense, args_of, with_args, element_written, for_turns, while_turns, in_turn}
use Rattle.oc_meaning.specs.Exec.{grown, entered, call_run, right_run, kind_run, else_run, block_run, stmts_run}
use Rattle.oc_meaning.specs.Run.{with_params, function_named, nv_env, function_run, call_to, main_run, first_store}
use Rattle.oc_meaning.specs.Blocks.{set_home}
use Rattle.oc_meaning.specs.Parts.{MayBe}
use Rattle.oc_meaning.specs.Cuts.{events_in}

-- what holds of a list of events and is kept by one more
module _ (P : List Event → Type 0) (grows : (e : Event) (es : List Event) → MayBe e.said e.samples e.instance → P es → P (e ∷ es)) where
  told_if_keeps : (b : Bool) (r : ℕ) (es : List Event) → P es → P (told_if b (Entered r) es) × P (told_if b (Committed r) es)
  told_if_keeps true r es h = (grows _ es (refl, refl) h, grows _ es (refl, refl) h)
  told_if_keeps false r es h = (h, h)

  pub opened_keeps : (o : Option ℕ) (σ : Store) → P σ.events → P (opened o σ).events
  opened_keeps None σ h = h
  opened_keeps (Some r) σ h = (told_if_keeps (σ.depth == 0) r σ.events h).0

  pub closed_keeps : (o : Option ℕ) (σ : Store) → P σ.events → P (closed o σ).events
  closed_keeps None σ h = h
  closed_keeps (Some r) σ h = (told_if_keeps (σ.depth == 1) r σ.events h).1

  pub used_keeps : (b : Bool) (n : ℕ) (set : List ℕ) (σ : Store) → P σ.events → P (used b n set σ).events
  used_keeps true n set σ h = grows _ σ.events tt h
  used_keeps false n set σ h = h

  pub done_keeps : (b : Bool) (n : ℕ) (set : List ℕ) (σ : Store) → P σ.events → P (done b n set σ).events
  done_keeps true n set σ h = grows _ σ.events tt h
  done_keeps false n set σ h = h

  pub put_keeps : (σ : Store) (p : Place) (x : Held) → P σ.events → P (put σ p x).events
  put_keeps σ (Local l) x h = h
  put_keeps σ (Global g) x h = h
  put_keeps σ (Turn z) x h = h
  put_keeps σ Nowhere x h = h

  pub value_keeps : (g : Got) (n : ℕ) (σ : Store) (f : Value → Outcome) → P σ.events → ((v : Value) → P (events_in (f v))) → P (events_in (with_value g n σ f))
  value_keeps (Val v) n σ f h go = go v
  value_keeps (Traps k) n σ f h go = grows _ σ.events tt h

  pub then_keeps : (o : Outcome) (f : Store → Outcome) → P (events_in o) → ((σ : Store) → P σ.events → P (events_in (f σ))) → P (events_in (then_do o f))
  then_keeps (Went σ) f h go = go σ h
  then_keeps (Returned v σ) f h go = h
  then_keeps (Stopped s σ) f h go = h

  pub result_keeps : (o : Outcome) (f : Value → Store → Outcome) → P (events_in o) → ((v : Value) (σ : Store) → P σ.events → P (events_in (f v σ))) → P (events_in (with_result o f))
  result_keeps (Went σ) f h go = go _ σ h
  result_keeps (Returned v σ) f h go = go v σ h
  result_keeps (Stopped s σ) f h go = h

  pub dropped_keeps : (o : Outcome) → P (events_in o) → P (events_in (dropped o))
  dropped_keeps o h = result_keeps o (λ v σ. Went σ) h (λ v σ h. h)

  pub finished_keeps : (o : Outcome) (f : Store → Store) → P (events_in o) → ((σ : Store) → P σ.events → P (f σ).events) → P (events_in (finished f o))
  finished_keeps (Went σ) f h go = go σ h
  finished_keeps (Returned v σ) f h go = h
  finished_keeps (Stopped s σ) f h go = h

  pub leave_keeps : (n : ℕ) (o : Outcome) → P (events_in o) → P (events_in (leave n o))
  leave_keeps n (Went σ) h = h
  leave_keeps n (Returned v σ) h = h
  leave_keeps n (Stopped s σ) h = h

  pub sense_keeps : (s : ℕ) (ls : List ℤ) (σ : Store) → P σ.events → P (events_in (sense s ls σ))
  sense_keeps s [] σ h = h
  sense_keeps s (z ∷ zs) σ h = grows _ σ.events tt h

  pub args_keeps : (gs : Passing) (n : ℕ) (σ : Store) (f : List Passed → Outcome) → P σ.events → ((ps : List Passed) → P (events_in (f ps))) → P (events_in (with_args gs n σ f))
  args_keeps (Passes ps) n σ f h go = go ps
  args_keeps (Breaks k) n σ f h go = grows _ σ.events tt h

  pub element_keeps : (p : Place) (o : Option ℕ) (i v : Value) (n : ℕ) (σ : Store) → P σ.events → P (events_in (element_written p o i v n σ))
  element_keeps p None i v n σ h = grows _ σ.events tt h
  element_keeps p (Some e) i v n σ h = put_keeps σ p _ h

  pub for_keeps : (t : ℕ) (i : ℤ) (f : ℤ → Store → Outcome) (σ : Store) → P σ.events → ((i : ℤ) (σ : Store) → P σ.events → P (events_in (f i σ))) → P (events_in (for_turns t i f σ))
  for_keeps zero i f σ h go = h
  for_keeps (suc t) i f σ h go = then_keeps (f i σ) (for_turns t (i +ℤ pos 1) f) (go i σ h) (λ τ k. for_keeps t (i +ℤ pos 1) f τ k go)

  pub either_keeps : (b : Bool) (x y : Outcome) → P (events_in x) → P (events_in y) → P (events_in (if b then x else y))
  either_keeps true x y h k = h
  either_keeps false x y h k = k

  pub while_keeps : (t n : ℕ) (is : Bool) (taken : Store → List ℕ) (test : Store → Got) (f : Store → Outcome) (before : List ℕ) (σ : Store) → P σ.events
      → ((σ : Store) → P σ.events → P (events_in (f σ))) → P (events_in (while_turns t n is taken test f before σ))
  while_keeps zero n is taken test f before σ h go = done_keeps is n before σ h
  while_keeps (suc t) n is taken test f before σ h go =
      let τ : Store = used is n (taken σ) σ in
      let set : List ℕ = union before (taken σ) in
      let k : P τ.events = used_keeps is n (taken σ) σ h in
      value_keeps (test τ) n τ (λ v. if is_zero v.num then Went (done is n set τ) else then_do (f τ) (while_turns t n is taken test f set)) k
      (λ v. either_keeps (is_zero v.num) (Went (done is n set τ)) (then_do (f τ) (while_turns t n is taken test f set)) (done_keeps is n set τ k)
      (then_keeps (f τ) (while_turns t n is taken test f set) (go τ k) (λ υ l. while_keeps t n is taken test f set υ l go)))

  module _ (names : NameLists) (regions : List TRegion) (call_of : Text → List Passed → Store → Outcome) (home : ℤ → ℕ)
      (calls : (f : Text) (ps : List Passed) (σ : Store) → P σ.events → P (events_in (call_of f ps σ))) where
    pub call_keeps : (env : List Binding) (n : ℕ) (σ : Store) (c : TCall) → P σ.events → P (events_in (call_run names regions call_of home env n σ c))
    call_keeps env n σ (call f gs) h = args_keeps (args_of env σ gs) n σ (λ ps. call_of f ps σ) h (λ ps. calls f ps σ h)

    pub right_keeps : (env : List Binding) (n : ℕ) (σ : Store) (r : TRight) → P σ.events → P (events_in (right_run names regions call_of home env n σ r))
    right_keeps env n σ (right_value e) h = value_keeps (value_of env σ e) n σ (λ v. Returned v σ) h (λ v. h)
    right_keeps env n σ (right_sense s) h = sense_keeps (number_in names.sensors s) σ.left σ h
    right_keeps env n σ (right_call c) h = call_keeps env n σ c h

    assign_keeps : (env : List Binding) (n : ℕ) (x : Text) (r : TRight) (σ : Store) → P σ.events
        → P (events_in (with_result (right_run names regions call_of home env n σ r) (λ v τ. Went (put τ (place_of env x) (replaced (held_at τ (place_of env x)) v)))))
    assign_keeps env n x r σ h =
        result_keeps (right_run names regions call_of home env n σ r) (λ v τ. Went (put τ (place_of env x) (replaced (held_at τ (place_of env x)) v))) (right_keeps env n σ r h)
        (λ v τ k. put_keeps τ (place_of env x) _ k)

    stmt_keeps : (env : List Binding) (n line : ℕ) (k : TKind) (rest : TStmts) (σ : Store) → P σ.events
        → ((τ : Store) → P τ.events → P (events_in (kind_run names regions call_of home env n k τ)))
        → ((env' : List Binding) (τ : Store) → P τ.events → P (events_in (stmts_run names regions call_of home env' rest τ)))
        → P (events_in (stmts_run names regions call_of home env (more (stmt n line k) rest) σ))
    stmt_keeps env n line k rest σ h kind after =
        let before : Store = used (begins_use (is_fresh env) k) n (use_samples env k σ) (opened (begun_by regions n) σ) in
        let ends : Store → Store = λ τ. closed (ended_by regions n) (done (ends_use (is_fresh env) k) n (use_samples env k σ) τ) in
        then_keeps (finished ends (kind_run names regions call_of home env n k before)) (stmts_run names regions call_of home (grown k rest env σ) rest)
        (finished_keeps (kind_run names regions call_of home env n k before) ends
        (kind before (used_keeps (begins_use (is_fresh env) k) n (use_samples env k σ) (opened (begun_by regions n) σ) (opened_keeps (begun_by regions n) σ h)))
        (λ τ l. closed_keeps (ended_by regions n) (done (ends_use (is_fresh env) k) n (use_samples env k σ) τ) (done_keeps (ends_use (is_fresh env) k) n (use_samples env k σ) τ l)))
        (after (grown k rest env σ))

    mutual
      pub kind_keeps : (env : List Binding) (n : ℕ) (k : TKind) (σ : Store) → P σ.events → P (events_in (kind_run names regions call_of home env n k σ))
      kind_keeps env n (let_to m x t r) σ h = result_keeps (right_run names regions call_of home env n σ r) _ (right_keeps env n σ r h) (λ v τ k. k)
      kind_keeps env n (let_array m x t z c) σ h = h
      kind_keeps env n (assign x r) σ h = assign_keeps env n x r σ h
      kind_keeps env n (assign_index x e r) σ h =
          result_keeps (right_run names regions call_of home env n σ r) _ (right_keeps env n σ r h)
          (λ v τ k. value_keeps (value_of env τ e) n τ _ k (λ i. element_keeps (place_of env x) (element_of (length (held_at τ (place_of env x)).words) i.num) i v n τ k))
      kind_keeps env n (assign_deref x r) σ h = assign_keeps env n x r σ h
      kind_keeps env n (if_else c a b) σ h =
          value_keeps (value_of env σ c) n σ _ h (λ v. either_keeps (is_zero v.num) (else_run names regions call_of home env b σ) (block_run names regions call_of home env a σ)
          (else_keeps env b σ h) (block_keeps env a σ h))
      kind_keeps env n (for_in x c d b) σ h = for_keeps (count_of (d -ℤ c)) c _ σ h (λ i τ k. block_keeps (in_turn x i ∷ env) b τ k)
      kind_keeps env n (while_do c t b) σ h =
          while_keeps t n (is_use (is_fresh env) (while_do c t b)) (use_samples env (while_do c t b)) (λ τ. value_of env τ c) (block_run names regions call_of home env b) [] σ h
          (λ τ k. block_keeps env b τ k)
      kind_keeps env n (call_only c) σ h = dropped_keeps (call_run names regions call_of home env n σ c) (call_keeps env n σ c h)
      kind_keeps env n (sense_only s) σ h = dropped_keeps (sense (number_in names.sensors s) σ.left σ) (sense_keeps (number_in names.sensors s) σ.left σ h)
      kind_keeps env n (emit p e) σ h = value_keeps (value_of env σ e) n σ _ h (λ v. grows _ σ.events tt h)
      kind_keeps env n (fresh x) σ h = h
      kind_keeps env n (consistent x k) σ h = grows _ σ.events tt h
      kind_keeps env n (return e) σ h =
          value_keeps (value_of env σ e) n σ _ h
          (λ v. closed_keeps (ended_by regions n) (done (is_use (is_fresh env) (return e)) n (use_samples env (return e) σ) σ)
          (done_keeps (is_use (is_fresh env) (return e)) n (use_samples env (return e) σ) σ h))

      else_keeps : (env : List Binding) (b : TElse) (σ : Store) → P σ.events → P (events_in (else_run names regions call_of home env b σ))
      else_keeps env no_else σ h = h
      else_keeps env (else_do b) σ h = block_keeps env b σ h

      pub block_keeps : (env : List Binding) (b : TBlock) (σ : Store) → P σ.events → P (events_in (block_run names regions call_of home env b σ))
      block_keeps env (block id ss) σ h = leave_keeps (length σ.locals) (stmts_run names regions call_of home env ss (entered id σ)) (stmts_keeps env ss (entered id σ) h)

      pub stmts_keeps : (env : List Binding) (ss : TStmts) (σ : Store) → P σ.events → P (events_in (stmts_run names regions call_of home env ss σ))
      stmts_keeps env no_stmts σ h = h
      stmts_keeps env (more (stmt n line k) rest) σ h = stmt_keeps env n line k rest σ h (λ τ l. kind_keeps env n k τ l) (λ env' τ l. stmts_keeps env' rest τ l)

  module _ (p : TProgram) (regions : List TRegion) where
    function_keeps : (d : ℕ) → ((f : Text) (ps : List Passed) (σ : Store) → P σ.events → P (events_in (call_to p regions d f ps σ)))
        → (o : Option TFunction) (ps : List Passed) (σ : Store) → P σ.events → P (events_in (function_run p regions (call_to p regions d) o ps σ))
    function_keeps d calls None ps σ h = h
    function_keeps d calls (Some g) ps σ h =
        let fr = with_params g.params ps (record { env = nv_env 0 p.names.nvs; locals = σ.locals }) in
        leave_keeps (length σ.locals) (block_run p.names regions (call_to p regions d) (set_home g.body) fr.env g.body (record σ { locals = fr.locals }))
        (block_keeps p.names regions (call_to p regions d) (set_home g.body) calls fr.env g.body (record σ { locals = fr.locals }) h)

    pub call_to_keeps : (d : ℕ) (f : Text) (ps : List Passed) (σ : Store) → P σ.events → P (events_in (call_to p regions d f ps σ))
    call_to_keeps zero f ps σ h = h
    call_to_keeps (suc d) f ps σ h = function_keeps d (λ f' ps' σ' k. call_to_keeps d f' ps' σ' k) (function_named p.functions f) ps σ h

    pub main_keeps : (samples : List ℤ) → P [] → P (events_in (main_run p regions samples))
    main_keeps samples h = call_to_keeps (suc (length p.functions)) (codes "main") [] (first_store p samples) h
