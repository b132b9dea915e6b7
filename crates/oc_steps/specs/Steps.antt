-- The run of a program in steps that say one event at most, so that it can stop between any two and go on later.
use Rattle.std.specs.Prelude.{ℕ, zero, suc, ℤ, pos, ◌+ℤ◌, ◌-ℤ◌, ◌==◌, Bool, List, [], ◌∷◌, length, count_by, Option, Some, None, if◌then◌else◌}
use Rattle.oc_tree.specs.Names.{Text}
use Rattle.oc_tree.specs.Marked.{TRegion}
use Rattle.oc_tree.specs.Tree.{TExpr, TCall, call, TRight, right_value, right_sense, right_call, TKind, let_to, let_array, assign, assign_index, assign_deref, if_else, for_in}
use Rattle.oc_tree.specs.Tree.{while_do, call_only, sense_only, emit, fresh, consistent, return, TElse, no_else, else_do, stmt, TBlock, block, TStmts, no_stmts, more, TFunction}
use Rattle.oc_tree.specs.Tree.{TProgram}
use Rattle.oc_tree.specs.declared.said.Said.TheVariants.{Sensed, Showed}
use Rattle.oc_tree.specs.declared.said.Shown.TheVariants.{Emitted, Tagged}
use Rattle.oc_tree.specs.Weight.{count_of}
use Rattle.oc_meaning.specs.Store.{Value, Store, Binding, plain, holding, replaced, held_at, put, made, left_at, happened, noted, place_of}
use Rattle.oc_meaning.specs.Eval.{Got, Val, Traps, is_zero, element_of}
use Rattle.oc_meaning.specs.Uses.{is_fresh, is_use, begins_use, ends_use}
use Rattle.oc_meaning.specs.Blocks.{set_home}
use Rattle.oc_meaning.specs.Exec.{begun_by, ended_by, Outcome, Went, Returned, Stopped, Passed, Passing, Passes, Breaks, number_in, trapped, opened, closed, used, done}
use Rattle.oc_meaning.specs.Exec.{in_turn, grown, array_of}
use Rattle.oc_meaning.specs.Run.{with_params, nv_env, function_named}
use Rattle.oc_steps.specs.Sets.{value_by, use_by, args_by, element_written_by}

-- the function that runs: how deep calls may go from here, and its body
pub record Inside : Type 0 where
  pub depth : ℕ
  pub body : TBlock

-- what is left to do
pub data Frame : Type 0 where
  Rest : Inside → List Binding → TStmts → Frame
  Use : Inside → List Binding → ℕ → List ℕ → TKind → Frame
  Work : Inside → List Binding → ℕ → TKind → Frame
  Done : Bool → ℕ → List ℕ → Frame
  Close : Option ℕ → Frame
  Take : List Binding → ℕ → TKind → Frame
  Leave : ℕ → Frame
  Turns : Inside → Text → ℕ → ℤ → TBlock → List Binding → Frame
  Loop : Inside → List Binding → ℕ → TExpr → ℕ → TBlock → List ℕ → Frame
  Test : Inside → List Binding → ℕ → TExpr → ℕ → TBlock → List ℕ → Frame
  Back : Value → Option ℕ → Frame

pub data Step : Type 0 where
  Goes : List Frame → Outcome → Step
  Asks : (sensor : ℕ) → List Frame → Store → Step
  Over : Step

-- how a run counts: the number of the next sample, the executed blocks with one more, and how
-- often a block was executed
pub record Tally : Type 0 where
  pub next : ℕ → ℕ
  pub enter : ℕ → List ℕ → List ℕ
  pub count : ℕ → List ℕ → ℕ

-- each sample has a number of its own, and each executed block is listed
abbrev pub of_samples : Tally
of_samples =
    record { next = suc; enter = λ id bs. id ∷ bs; count = λ h bs. count_by (λ id. h == id) bs }

-- a block is begun
abbrev pub begin : Tally → Inside → List Binding → TBlock → List Frame → Store → Step
begin tally f env (block id ss) fs σ =
    Goes (Rest f env ss ∷ Leave (length σ.locals) ∷ fs)
    (Went (record σ { blocks = tally.enter id σ.blocks }))

abbrev pub begin_else : Tally → Inside → List Binding → TElse → List Frame → Store → Step
begin_else tally f env no_else fs σ = Goes fs (Went σ)
begin_else tally f env (else_do b) fs σ = begin tally f env b fs σ

-- statement n annotates a variable of the set whose block is `home`
abbrev pub tagged_by : Tally → ℕ → ℕ → List ℕ → Store → Store
tagged_by tally home n samples σ =
    happened (record {
      said = Showed (Tagged n);
      samples = samples;
      instance = tally.count home σ.blocks;
    }) σ

-- on with a value, or statement n traps
abbrev pub on_value : Got → ℕ → Store → List Frame → (Value → Step) → Step
on_value (Val v) n σ fs go = go v
on_value (Traps k) n σ fs go = Goes fs (trapped k n σ)

module _ (p : TProgram) (regions : List TRegion)
    (join : List ℕ → List ℕ → List ℕ) (tally : Tally) where
  abbrev pub step_function : ℕ → Option TFunction → List Passed → List Frame → Store → Step
  step_function d None ps fs σ = Goes fs (Went σ)
  step_function d (Some f) ps fs σ =
      let fr = with_params f.params ps (record { env = nv_env 0 p.names.nvs; locals = σ.locals }) in
      begin tally (record { depth = d; body = f.body }) fr.env f.body
      (Leave (length σ.locals) ∷ fs) (record σ { locals = fr.locals })

  abbrev pub step_passed : ℕ → Text → List Passed → List Frame → Store → Step
  step_passed zero x ps fs σ = Goes fs (Went σ)
  step_passed (suc d) x ps fs σ = step_function d (function_named p.functions x) ps fs σ

  abbrev pub step_args : ℕ → Text → Passing → ℕ → List Frame → Store → Step
  step_args d x (Passes ps) n fs σ = step_passed d x ps fs σ
  step_args d x (Breaks k) n fs σ = Goes fs (trapped k n σ)

  abbrev pub step_call : Inside → List Binding → ℕ → TCall → List Frame → Store → Step
  step_call f env n (call x args) fs σ = step_args f.depth x (args_by join env σ args) n fs σ

  abbrev pub step_right : Inside → List Binding → ℕ → TRight → List Frame → Store → Step
  step_right f env n (right_value e) fs σ =
      on_value (value_by join env σ e) n σ fs (λ v. Goes fs (Returned v σ))
  step_right f env n (right_sense s) fs σ = Asks (number_in p.names.sensors s) fs σ
  step_right f env n (right_call c) fs σ = step_call f env n c fs σ

  -- the value of a right side is taken
  abbrev pub taken : List Binding → ℕ → TKind → Value → List Frame → Store → Step
  taken env n (let_to m x k r) v fs σ = Goes fs (Went (made (holding v) σ))
  taken env n (assign x r) v fs σ =
      Goes fs (Went (put σ (place_of env x) (replaced (held_at σ (place_of env x)) v)))
  taken env n (assign_index x e r) v fs σ =
      on_value (value_by join env σ e) n σ fs (λ i. Goes fs (element_written_by join
      (place_of env x) (element_of (length (held_at σ (place_of env x)).words) i.num) i v n σ))
  taken env n (assign_deref x r) v fs σ =
      Goes fs (Went (put σ (place_of env x) (replaced (held_at σ (place_of env x)) v)))
  taken env n k v fs σ = Goes fs (Went σ)

  -- a statement's own work
  abbrev pub work : Inside → List Binding → ℕ → TKind → List Frame → Store → Step
  work f env n (let_to m x k r) fs σ = step_right f env n r (Take env n (let_to m x k r) ∷ fs) σ
  work f env n (let_array m x k z c) fs σ = Goes fs (Went (made (array_of z c) σ))
  work f env n (assign x r) fs σ = step_right f env n r (Take env n (assign x r) ∷ fs) σ
  work f env n (assign_index x e r) fs σ =
      step_right f env n r (Take env n (assign_index x e r) ∷ fs) σ
  work f env n (assign_deref x r) fs σ = step_right f env n r (Take env n (assign_deref x r) ∷ fs) σ
  work f env n (if_else c a b) fs σ =
      on_value (value_by join env σ c) n σ fs
      (λ v. if is_zero v.num then begin_else tally f env b fs σ else begin tally f env a fs σ)
  work f env n (for_in x c d b) fs σ = Goes (Turns f x (count_of (d -ℤ c)) c b env ∷ fs) (Went σ)
  work f env n (while_do c t b) fs σ = Goes (Loop f env n c t b [] ∷ fs) (Went σ)
  work f env n (call_only c) fs σ = step_call f env n c (Take env n (call_only c) ∷ fs) σ
  work f env n (sense_only s) fs σ =
      Asks (number_in p.names.sensors s) (Take env n (sense_only s) ∷ fs) σ
  work f env n (emit q e) fs σ =
      on_value (value_by join env σ e) n σ fs (λ v.
      Goes fs (Went (noted (Showed (Emitted (number_in p.names.ports q) v.num)) v.samples σ)))
  work f env n (fresh x) fs σ = Goes fs (Went σ)
  work f env n (consistent x k) fs σ =
      Goes fs
      (Went (tagged_by tally (set_home f.body k) n (held_at σ (place_of env x)).samples σ))
  work f env n (return e) fs σ =
      on_value (value_by join env σ e) n σ fs (λ v. Goes (Back v (ended_by regions n) ∷ fs)
      (Went (done (is_use (is_fresh env) (return e)) n (use_by join env (return e) σ) σ)))

  -- the next statement
  abbrev pub step_rest : Inside → List Binding → TStmts → List Frame → Store → Step
  step_rest f env no_stmts fs σ = Goes fs (Went σ)
  step_rest f env (more (stmt n line k) rest) fs σ =
      Goes
      (Use f env n (use_by join env k σ) k
      ∷ Done (ends_use (is_fresh env) k) n (use_by join env k σ)
      ∷ Close (ended_by regions n) ∷ Rest f (grown k rest env σ) rest ∷ fs)
      (Went (opened (begun_by regions n) σ))

  abbrev pub step_turns : Inside → Text → ℕ → ℤ → TBlock → List Binding → List Frame → Store → Step
  step_turns f x zero i b env fs σ = Goes fs (Went σ)
  step_turns f x (suc t) i b env fs σ =
      begin tally f (in_turn x i ∷ env) b (Turns f x t (i +ℤ pos 1) b env ∷ fs) σ

  abbrev pub step_loop : Inside
      → List Binding → ℕ → TExpr → ℕ → TBlock → List ℕ → List Frame → Store → Step
  step_loop f env n c zero b before fs σ =
      Goes fs (Went (done (is_use (is_fresh env) (while_do c 0 b)) n before σ))
  step_loop f env n c (suc t) b before fs σ =
      Goes (Test f env n c t b (join before (use_by join env (while_do c 0 b) σ)) ∷ fs)
      (Went
      (used (is_use (is_fresh env) (while_do c 0 b)) n (use_by join env (while_do c 0 b) σ) σ))

  abbrev pub step_test : Inside
      → List Binding → ℕ → TExpr → ℕ → TBlock → List ℕ → List Frame → Store → Step
  step_test f env n c t b all fs σ =
      on_value (value_by join env σ c) n σ fs (λ v. if is_zero v.num
      then Goes fs (Went (done (is_use (is_fresh env) (while_do c 0 b)) n all σ))
      else begin tally f env b (Loop f env n c t b all ∷ fs) σ)

  abbrev pub step_went : Frame → List Frame → Store → Step
  step_went (Rest f env ss) fs σ = step_rest f env ss fs σ
  step_went (Use f env n u k) fs σ =
      Goes (Work f env n k ∷ fs) (Went (used (begins_use (is_fresh env) k) n u σ))
  step_went (Work f env n k) fs σ = work f env n k fs σ
  step_went (Done is n u) fs σ = Goes fs (Went (done is n u σ))
  step_went (Close r) fs σ = Goes fs (Went (closed r σ))
  step_went (Take env n k) fs σ = taken env n k (plain (pos 0)) fs σ
  step_went (Leave n) fs σ = Goes fs (Went (left_at n σ))
  step_went (Turns f x t i b env) fs σ = step_turns f x t i b env fs σ
  step_went (Loop f env n c t b before) fs σ = step_loop f env n c t b before fs σ
  step_went (Test f env n c t b all) fs σ = step_test f env n c t b all fs σ
  step_went (Back v r) fs σ = Goes fs (Returned v (closed r σ))

  abbrev pub step_returned : Frame → Value → List Frame → Store → Step
  step_returned (Take env n k) v fs σ = taken env n k v fs σ
  step_returned (Leave n) v fs σ = Goes fs (Returned v (left_at n σ))
  step_returned f v fs σ = Goes fs (Returned v σ)

  abbrev pub step : List Frame → Outcome → Step
  step [] o = Over
  step (f ∷ fs) (Went σ) = step_went f fs σ
  step (f ∷ fs) (Returned v σ) = step_returned f v fs σ
  step (f ∷ fs) (Stopped s σ) = Over

  -- the sample that was asked for
  abbrev pub sensed : ℕ → ℤ → Store → Outcome
  sensed s z σ =
      Returned (record { num = z; samples = σ.taken ∷ [] })
      (noted (Sensed s z) (σ.taken ∷ []) (record σ { taken = tally.next σ.taken }))
