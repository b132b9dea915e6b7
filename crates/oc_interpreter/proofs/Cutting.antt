-- The events of the store at which something begins are the oldest of those with which it ends.
use Rattle.std.proofs.Common.{◌≡◌, ap, sym, subst, ℕ, suc, Bool, Option, None, Some, List, [], map, length}
use Rattle.std.specs.Prelude.{ℤ, codes, Result, Ok, Err, OnErr, if◌then◌else◌}
use Rattle.oc_tree.specs.Names.{Text, names_view}
use Rattle.oc_tree.specs.Tree.{TExpr, TCall, TRight, TKind, assign_index, TBlock, TStmts, TProgram}
use Rattle.oc_tree.specs.Marked.{TRegion}
use Rattle.oc_tree.specs.View.{block_view, program_view}
use Rattle.oc_tree.specs.Regions.{region_view}
use Rattle.oc_tree.specs.Samples.{union}
use Rattle.oc_meaning.specs.Store.{Event, Store, Binding, Value, held_at, place_of}
use Rattle.oc_meaning.specs.Eval.{Got, Val, element_of, is_zero, value_of}
use Rattle.oc_meaning.specs.Blocks.{set_home}
use Rattle.oc_meaning.specs.Exec.{Passed, Outcome, Went, Returned, begun_by, closed, done, element_written, ended_by, finished, for_turns, opened, sense, then_do, used}
use Rattle.oc_meaning.specs.Exec.{while_turns, with_result, with_value}
use Rattle.oc_meaning.specs.Uses.{begins_use, ends_use, is_fresh, use_samples}
use Rattle.oc_meaning.specs.Cuts.{Oldest, events_in}
use Rattle.oc_interpreter.specs.Runs.{begun, block_here, call_here, callee, kind_here, main_from, right_here, stmt_here, stmts_here}
use Rattle.oc_interpreter.specs.Seen.{completion_at}
use Rattle.oc_interpreter.specs.declared.completion.Completion.{Completion}
use Rattle.oc_interpreter.specs.declared.completion.Completion.TheVariants as completions
use Rattle.oc_interpreter.specs.declared.running.Running.{Running}
use Rattle.oc_meaning.proofs.Beginning.{one_more}
use Rattle.oc_meaning.proofs.Growing.{block_keeps, call_keeps, call_to_keeps, closed_keeps, done_keeps, either_keeps, element_keeps, finished_keeps, for_keeps, kind_keeps}
use Rattle.oc_meaning.proofs.Growing.{opened_keeps, result_keeps, sense_keeps, stmts_keeps, then_keeps, used_keeps, value_keeps, while_keeps}

pub on_err : {T E P : Type 0} (r : Result T E) → P → OnErr r P
on_err (Ok x) p = tt
on_err (Err e) p = p

pub all_of_them : (events all : List Event) → all ≡ events → Oldest events all
all_of_them events all e = record { more = []; is = e }

-- from a store that is as before
pub as_before : (τ σ : Store) → τ ≡ σ → Oldest τ.events σ.events
as_before τ σ e = all_of_them τ.events σ.events (ap (λ (s : Store). s.events) (sym e))

pub in_store : (events : List Event) (o : Completion) (σ : Store) → Oldest events σ.events → Oldest events (events_in (completion_at o σ))
in_store events completions.Went σ h = h
in_store events (completions.Returned v) σ h = h
in_store events (completions.Stopped s) σ h = h

module _ (events : List Event) where
  pub begun_from : (uses : Option (List ℕ)) (n : ℕ) (σ : Store) → Oldest events σ.events → Oldest events (begun uses n σ).events
  begun_from None n σ h = h
  begun_from (Some samples) n σ h = one_more events _ σ.events tt h

  -- along an outcome that is another
  pub along_with : (x y : Outcome) → x ≡ y → Oldest events (events_in x) → Oldest events (events_in y)
  along_with x y e h = subst (λ (o : Outcome). Oldest events (events_in o)) e h

  -- in a store that is another
  pub in_other : (τ υ : Store) → τ ≡ υ → Oldest events τ.events → Oldest events υ.events
  in_other τ υ e h = subst (λ (σ : Store). Oldest events σ.events) e h

  pub value_from : (g : Got) (n : ℕ) (σ : Store) (f : Value → Outcome) → Oldest events σ.events → ((v : Value) → Oldest events (events_in (f v))) → Oldest events (events_in (with_value g n σ f))
  value_from = value_keeps (Oldest events) (one_more events)

  pub found_from : (g : Got) (v : Value) (n : ℕ) (σ : Store) (f : Value → Outcome) → g ≡ Val v → Oldest events (events_in (f v)) → Oldest events (events_in (with_value g n σ f))
  found_from g v n σ f e h = along_with (f v) (with_value g n σ f) (ap (λ q. with_value q n σ f) (sym e)) h

  pub then_from : (o : Outcome) (f : Store → Outcome) → Oldest events (events_in o) → ((σ : Store) → Oldest events σ.events → Oldest events (events_in (f σ))) → Oldest events (events_in (then_do o f))
  then_from = then_keeps (Oldest events) (one_more events)

  pub closed_from : (o : Option ℕ) (σ : Store) → Oldest events σ.events → Oldest events (closed o σ).events
  closed_from = closed_keeps (Oldest events) (one_more events)

  pub done_from : (b : Bool) (n : ℕ) (samples : List ℕ) (σ : Store) → Oldest events σ.events → Oldest events (done b n samples σ).events
  done_from = done_keeps (Oldest events) (one_more events)

  pub used_from : (b : Bool) (n : ℕ) (samples : List ℕ) (σ : Store) → Oldest events σ.events → Oldest events (used b n samples σ).events
  used_from = used_keeps (Oldest events) (one_more events)

  pub sense_from : (sensor : ℕ) (left : List ℤ) (σ : Store) → Oldest events σ.events → Oldest events (events_in (sense sensor left σ))
  sense_from = sense_keeps (Oldest events) (one_more events)

  pub turns_from : (t : ℕ) (i : ℤ) (f : ℤ → Store → Outcome) (σ : Store) → Oldest events σ.events
      → ((i : ℤ) (σ : Store) → Oldest events σ.events → Oldest events (events_in (f i σ))) → Oldest events (events_in (for_turns t i f σ))
  turns_from = for_keeps (Oldest events) (one_more events)

  pub while_from : (t n : ℕ) (is : Bool) (taken : Store → List ℕ) (test : Store → Got) (f : Store → Outcome) (before : List ℕ) (σ : Store) → Oldest events σ.events
      → ((σ : Store) → Oldest events σ.events → Oldest events (events_in (f σ))) → Oldest events (events_in (while_turns t n is taken test f before σ))
  while_from = while_keeps (Oldest events) (one_more events)

  pub returns_from : (g : Got) (n : ℕ) (o : Option ℕ) (b : Bool) (samples : List ℕ) (σ : Store) → Oldest events σ.events
      → Oldest events (events_in (with_value g n σ (λ v. Returned v (closed o (done b n samples σ)))))
  returns_from g n o b samples σ h = value_from g n σ (λ v. Returned v (closed o (done b n samples σ))) h (λ v. closed_from o (done b n samples σ) (done_from b n samples σ h))

  pub returned_from : (g : Got) (v : Value) (n : ℕ) (o : Option ℕ) (b : Bool) (samples : List ℕ) (σ : Store) → g ≡ Val v → Oldest events (done b n samples σ).events
      → Oldest events (events_in (with_value g n σ (λ v. Returned v (closed o (done b n samples σ)))))
  returned_from g v n o b samples σ e h = found_from g v n σ (λ v. Returned v (closed o (done b n samples σ))) e (closed_from o (done b n samples σ) h)

  -- an element that is written with the value of a right side
  pub element_from : (env : List Binding) (n : ℕ) (x : Text) (e : TExpr) (o : Outcome) → Oldest events (events_in o)
      → Oldest events (events_in (with_result o
      (λ v τ. with_value (value_of env τ e) n τ (λ i. element_written (place_of env x) (element_of (length (held_at τ (place_of env x)).words) i.num) i v n τ))))
  element_from env n x e o h =
      result_keeps (Oldest events) (one_more events) o
      (λ v τ. with_value (value_of env τ e) n τ (λ i. element_written (place_of env x) (element_of (length (held_at τ (place_of env x)).words) i.num) i v n τ)) h
      (λ v τ k. value_from (value_of env τ e) n τ (λ i. element_written (place_of env x) (element_of (length (held_at τ (place_of env x)).words) i.num) i v n τ) k
      (λ i. element_keeps (Oldest events) (one_more events) (place_of env x) (element_of (length (held_at τ (place_of env x)).words) i.num) i v n τ k))

  -- a turn whose use is begun
  pub turn_from : (t n : ℕ) (is : Bool) (taken : Store → List ℕ) (test : Store → Got) (f : Store → Outcome) (before : List ℕ) (σ : Store)
      → Oldest events (used is n (taken σ) σ).events → ((σ : Store) → Oldest events σ.events → Oldest events (events_in (f σ)))
      → Oldest events (events_in (while_turns (suc t) n is taken test f before σ))
  turn_from t n is taken test f before σ h go =
      let τ : Store = used is n (taken σ) σ in
      let set : List ℕ = union before (taken σ) in
      value_from (test τ) n τ (λ v. if is_zero v.num then Went (done is n set τ) else then_do (f τ) (while_turns t n is taken test f set)) h
      (λ v. either_keeps (Oldest events) (one_more events) (is_zero v.num) (Went (done is n set τ)) (then_do (f τ) (while_turns t n is taken test f set)) (done_from is n set τ h)
      (then_from (f τ) (while_turns t n is taken test f set) (go τ h) (λ υ l. while_from t n is taken test f set υ l go)))

module _ (events : List Event) (r : Running) where
  pub callee_from : (x : Text) (ps : List Passed) (σ : Store) → Oldest events σ.events → Oldest events (events_in (callee r x ps σ))
  callee_from = call_to_keeps (Oldest events) (one_more events) (program_view r.program.now) (map region_view r.regions.now) r.depth

  pub call_from : (env : List Binding) (n : ℕ) (σ : Store) (c : TCall) → Oldest events σ.events → Oldest events (events_in (call_here r env n σ c))
  call_from = call_keeps (Oldest events) (one_more events) (names_view r.program.now.names) (map region_view r.regions.now) (callee r) (set_home (block_view r.body.now)) callee_from

  pub kind_from : (env : List Binding) (n : ℕ) (k : TKind) (σ : Store) → Oldest events σ.events → Oldest events (events_in (kind_here r env n k σ))
  kind_from = kind_keeps (Oldest events) (one_more events) (names_view r.program.now.names) (map region_view r.regions.now) (callee r) (set_home (block_view r.body.now)) callee_from

  pub block_from : (env : List Binding) (b : TBlock) (σ : Store) → Oldest events σ.events → Oldest events (events_in (block_here r env b σ))
  block_from = block_keeps (Oldest events) (one_more events) (names_view r.program.now.names) (map region_view r.regions.now) (callee r) (set_home (block_view r.body.now)) callee_from

  pub stmts_from : (env : List Binding) (ss : TStmts) (σ : Store) → Oldest events σ.events → Oldest events (events_in (stmts_here r env ss σ))
  stmts_from = stmts_keeps (Oldest events) (one_more events) (names_view r.program.now.names) (map region_view r.regions.now) (callee r) (set_home (block_view r.body.now)) callee_from

  -- what stands behind a statement's own work
  pub behind_kind : (env : List Binding) (n : ℕ) (k : TKind) (σ : Store) (o : Outcome) → Oldest events (events_in o)
      → Oldest events (events_in (finished (λ τ. closed (ended_by (map region_view r.regions.now) n) (done (ends_use (is_fresh env) k) n (use_samples env k σ) τ)) o))
  behind_kind env n k σ o h =
      finished_keeps (Oldest events) (one_more events) o (λ τ. closed (ended_by (map region_view r.regions.now) n) (done (ends_use (is_fresh env) k) n (use_samples env k σ) τ)) h
      (λ τ l. closed_from events (ended_by (map region_view r.regions.now) n) (done (ends_use (is_fresh env) k) n (use_samples env k σ) τ)
      (done_from events (ends_use (is_fresh env) k) n (use_samples env k σ) τ l))

  -- a statement whose use is begun
  pub begun_stmt_from : (env : List Binding) (n : ℕ) (k : TKind) (σ : Store)
      → Oldest events (used (begins_use (is_fresh env) k) n (use_samples env k σ) (opened (begun_by (map region_view r.regions.now) n) σ)).events → Oldest events (events_in (stmt_here r env n k σ))
  begun_stmt_from env n k σ h =
      let υ : Store = used (begins_use (is_fresh env) k) n (use_samples env k σ) (opened (begun_by (map region_view r.regions.now) n) σ) in
      behind_kind env n k σ (kind_here r env n k υ) (kind_from env n k υ h)

  -- a statement whose region is open
  pub opened_from : (env : List Binding) (n : ℕ) (k : TKind) (σ : Store) → Oldest events (opened (begun_by (map region_view r.regions.now) n) σ).events
      → Oldest events (events_in (stmt_here r env n k σ))
  opened_from env n k σ h = begun_stmt_from env n k σ (used_from events (begins_use (is_fresh env) k) n (use_samples env k σ) (opened (begun_by (map region_view r.regions.now) n) σ) h)

  pub stmt_from : (env : List Binding) (n : ℕ) (k : TKind) (σ : Store) → Oldest events σ.events → Oldest events (events_in (stmt_here r env n k σ))
  stmt_from env n k σ h = opened_from env n k σ (opened_keeps (Oldest events) (one_more events) (begun_by (map region_view r.regions.now) n) σ h)

  -- an assignment to an element behind its right side
  pub index_from : (env : List Binding) (n : ℕ) (x : Text) (e : TExpr) (s : TRight) (σ : Store) → Oldest events (events_in (right_here r env n σ s))
      → Oldest events (events_in (kind_here r env n (assign_index x e s) σ))
  index_from env n x e s σ h = element_from events env n x e (right_here r env n σ s) h

pub main_start : (events : List Event) (p : TProgram) (rs : List TRegion) (σ : Store) → Oldest events σ.events → Oldest events (events_in (main_from p rs σ))
main_start events p rs σ h = call_to_keeps (Oldest events) (one_more events) p rs (suc (length p.functions)) (codes "main") [] σ h
