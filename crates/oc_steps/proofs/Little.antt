-- A step says one thing at most, and no input.
use Rattle.std.proofs.Common.{◌≡◌, ℕ, zero, suc, ℤ, Bool, true, false, List, [], ◌∷◌, length, Option, Some, None, refl, ap, inl, inr}
use Rattle.std.specs.Prelude.{pos, ◌+ℤ◌, ◌==◌, if◌then◌else◌}
use Rattle.oc_tree.specs.Names.{Text}
use Rattle.oc_tree.specs.Marked.{TRegion}
use Rattle.oc_tree.specs.Tree.{TExpr, TCall, call, TRight, right_value, right_sense, right_call, TKind, let_to, let_array, assign, assign_index, assign_deref, if_else, for_in}
use Rattle.oc_tree.specs.Tree.{while_do, call_only, sense_only, emit, fresh, consistent, return, TElse, no_else, else_do, stmt, TBlock, block, TStmts, no_stmts, more, TFunction}
use Rattle.oc_tree.specs.Tree.{TProgram}
use Rattle.oc_tree.specs.declared.said.Said.TheVariants.{Showed, Entered, Committed, Ended}
use Rattle.oc_tree.specs.declared.said.Ending.TheVariants.{Trapped}
use Rattle.oc_tree.specs.declared.said.Shown.TheVariants.{Emitted}
use Rattle.oc_tree.specs.declared.said.TrapKind.{TrapKind}
use Rattle.oc_tree.specs.declared.said.TrapKind.TheVariants as traps
use Rattle.oc_tree.specs.Samples.{union}
use Rattle.oc_meaning.specs.Store.{Value, Held, Place, Local, Global, Turn, Nowhere, Event, Store, Binding, plain, replaced, held_at, put, noted, place_of}
use Rattle.oc_meaning.specs.Eval.{Got, Val, Traps, is_zero, element_of}
use Rattle.oc_meaning.specs.Uses.{is_fresh, is_use, begins_use}
use Rattle.oc_meaning.specs.Exec.{begun_by, ended_by, Went, Returned, Stopped, Passed, Passing, Passes, Breaks, number_in, told_if, trapped, opened, closed, used, done, in_turn}
use Rattle.oc_meaning.specs.Run.{with_params, nv_env, function_named}
use Rattle.oc_steps.specs.Sets.{value_by, use_by, args_by, element_written_by}
use Rattle.oc_steps.specs.Steps.{Inside, Frame, Rest, Use, Work, Done, Close, Take, Leave, Turns, Loop, Test, Back, Step, Goes, begin, begin_else, on_value, step_function, of_samples}
use Rattle.oc_steps.specs.Steps.{step_passed, step_args, step_call, step_right, taken, work, step_rest, step_turns, step_loop, step_test, step_went, step_returned}
use Rattle.oc_steps.specs.Little.{IsNoInput, IsNoEnd, IsSilent, AtMostOne, SaysOne, Little, SaysLittle}

-- so many samples were taken
module _ (m : ℕ) where
  one_more : (e : Event) (es : List Event) (taken : ℕ) → IsNoInput e.said → IsNoEnd e.said → es ≡ [] → taken ≡ m → AtMostOne m taken (e ∷ es)
  one_more e es taken n k h t = (t, inr (e, ap (λ l. e ∷ l) h, n, k))

  traps_one : (k : TrapKind) (n : ℕ) (σ : Store) → IsSilent m σ → SaysOne m (trapped k n σ)
  traps_one k n σ h =
      let e : Event = record { said = Ended (Trapped k n); samples = []; instance = 0 } in
      (h.1, (e, ap (λ l. e ∷ l) h.0, tt))

  told_one : (b : Bool) (r : ℕ) (es : List Event) → (taken : ℕ) → es ≡ [] → taken ≡ m → AtMostOne m taken (told_if b (Entered r) es) × AtMostOne m taken (told_if b (Committed r) es)
  told_one true r es taken h k = (one_more _ es taken tt tt h k, one_more _ es taken tt tt h k)
  told_one false r es taken h k = ((k, inl h), (k, inl h))

  opened_one : (o : Option ℕ) (σ : Store) → IsSilent m σ → AtMostOne m (opened o σ).taken (opened o σ).events
  opened_one None σ h = (h.1, inl h.0)
  opened_one (Some r) σ h = (told_one (σ.depth == 0) r σ.events σ.taken h.0 h.1).0

  closed_one : (o : Option ℕ) (σ : Store) → IsSilent m σ → AtMostOne m (closed o σ).taken (closed o σ).events
  closed_one None σ h = (h.1, inl h.0)
  closed_one (Some r) σ h = (told_one (σ.depth == 1) r σ.events σ.taken h.0 h.1).1

  used_one : (b : Bool) (n : ℕ) (u : List ℕ) (σ : Store) → IsSilent m σ → AtMostOne m (used b n u σ).taken (used b n u σ).events
  used_one true n u σ h = one_more _ σ.events σ.taken tt tt h.0 h.1
  used_one false n u σ h = (h.1, inl h.0)

  done_one : (b : Bool) (n : ℕ) (u : List ℕ) (σ : Store) → IsSilent m σ → AtMostOne m (done b n u σ).taken (done b n u σ).events
  done_one true n u σ h = one_more _ σ.events σ.taken tt tt h.0 h.1
  done_one false n u σ h = (h.1, inl h.0)

  put_none : (σ : Store) (q : Place) (x : Held) → IsSilent m σ → AtMostOne m (put σ q x).taken (put σ q x).events
  put_none σ (Local l) x h = (h.1, inl h.0)
  put_none σ place x h = (h.1, inl h.0)

  written_one : (q : Place) (o : Option ℕ) (i v : Value) (n : ℕ) (σ : Store) → IsSilent m σ → SaysOne m (element_written_by union q o i v n σ)
  written_one q None i v n σ h = traps_one traps.Index n σ h
  written_one q (Some e) i v n σ h = put_none σ q _ h

  value_little : (g : Got) (n : ℕ) (σ : Store) (fs : List Frame) (go : Value → Step) → IsSilent m σ → ((v : Value) → Little m (go v)) → Little m (on_value g n σ fs go)
  value_little (Val v) n σ fs go h k = k v
  value_little (Traps t) n σ fs go h k = traps_one t n σ h

  if_little : (b : Bool) (x y : Step) → Little m x → Little m y → Little m (if b then x else y)
  if_little true x y h k = h
  if_little false x y h k = k

  begin_little : (f : Inside) (env : List Binding) (b : TBlock) (fs : List Frame) (σ : Store) → IsSilent m σ → Little m (begin of_samples f env b fs σ)
  begin_little f env (block id ss) fs σ h = (h.1, inl h.0)

  else_little : (f : Inside) (env : List Binding) (b : TElse) (fs : List Frame) (σ : Store) → IsSilent m σ → Little m (begin_else of_samples f env b fs σ)
  else_little f env no_else fs σ h = (h.1, inl h.0)
  else_little f env (else_do b) fs σ h = begin_little f env b fs σ h

  module _ (p : TProgram) (regions : List TRegion) where
    function_little : (d : ℕ) (o : Option TFunction) (ps : List Passed) (fs : List Frame) (σ : Store) → IsSilent m σ → Little m (step_function p regions union of_samples d o ps fs σ)
    function_little d None ps fs σ h = (h.1, inl h.0)
    function_little d (Some f) ps fs σ h =
        let fr = with_params f.params ps (record { env = nv_env 0 p.names.nvs; locals = σ.locals }) in
        begin_little (record { depth = d; body = f.body }) fr.env f.body (Leave (length σ.locals) ∷ fs) (record σ { locals = fr.locals }) h

    pub passed_little : (d : ℕ) (x : Text) (ps : List Passed) (fs : List Frame) (σ : Store) → IsSilent m σ → Little m (step_passed p regions union of_samples d x ps fs σ)
    passed_little zero x ps fs σ h = (h.1, inl h.0)
    passed_little (suc d) x ps fs σ h = function_little d (function_named p.functions x) ps fs σ h

    args_little : (d : ℕ) (x : Text) (gs : Passing) (n : ℕ) (fs : List Frame) (σ : Store) → IsSilent m σ → Little m (step_args p regions union of_samples d x gs n fs σ)
    args_little d x (Passes ps) n fs σ h = passed_little d x ps fs σ h
    args_little d x (Breaks k) n fs σ h = traps_one k n σ h

    call_little : (f : Inside) (env : List Binding) (n : ℕ) (k : TCall) (fs : List Frame) (σ : Store) → IsSilent m σ → Little m (step_call p regions union of_samples f env n k fs σ)
    call_little f env n (call x gs) fs σ h = args_little f.depth x (args_by union env σ gs) n fs σ h

    right_little : (f : Inside) (env : List Binding) (n : ℕ) (r : TRight) (fs : List Frame) (σ : Store) → IsSilent m σ → Little m (step_right p regions union of_samples f env n r fs σ)
    right_little f env n (right_value e) fs σ h = value_little (value_by union env σ e) n σ fs (λ v. Goes fs (Returned v σ)) h (λ v. (h.1, inl h.0))
    right_little f env n (right_sense s) fs σ h = h
    right_little f env n (right_call k) fs σ h = call_little f env n k fs σ h

    taken_little : (env : List Binding) (n : ℕ) (k : TKind) (v : Value) (fs : List Frame) (σ : Store) → IsSilent m σ → Little m (taken p regions union of_samples env n k v fs σ)
    taken_little env n (let_to m x t r) v fs σ h = (h.1, inl h.0)
    taken_little env n (assign x r) v fs σ h = put_none σ (place_of env x) (replaced (held_at σ (place_of env x)) v) h
    taken_little env n (assign_index x e r) v fs σ h =
        value_little (value_by union env σ e) n σ fs (λ i. Goes fs (element_written_by union (place_of env x) (element_of (length (held_at σ (place_of env x)).words) i.num) i v n σ)) h
        (λ i. written_one (place_of env x) (element_of (length (held_at σ (place_of env x)).words) i.num) i v n σ h)
    taken_little env n (assign_deref x r) v fs σ h = put_none σ (place_of env x) (replaced (held_at σ (place_of env x)) v) h
    taken_little env n k v fs σ h = (h.1, inl h.0)

    work_little : (f : Inside) (env : List Binding) (n : ℕ) (k : TKind) (fs : List Frame) (σ : Store) → IsSilent m σ → Little m (work p regions union of_samples f env n k fs σ)
    work_little f env n (let_to m x t r) fs σ h = right_little f env n r (Take env n (let_to m x t r) ∷ fs) σ h
    work_little f env n (let_array m x t z w) fs σ h = (h.1, inl h.0)
    work_little f env n (assign x r) fs σ h = right_little f env n r (Take env n (assign x r) ∷ fs) σ h
    work_little f env n (assign_index x e r) fs σ h = right_little f env n r (Take env n (assign_index x e r) ∷ fs) σ h
    work_little f env n (assign_deref x r) fs σ h = right_little f env n r (Take env n (assign_deref x r) ∷ fs) σ h
    work_little f env n (if_else e a b) fs σ h =
        value_little (value_by union env σ e) n σ fs (λ v. if is_zero v.num then begin_else of_samples f env b fs σ else begin of_samples f env a fs σ) h
        (λ v. if_little (is_zero v.num) (begin_else of_samples f env b fs σ) (begin of_samples f env a fs σ) (else_little f env b fs σ h) (begin_little f env a fs σ h))
    work_little f env n (for_in x a b d) fs σ h = (h.1, inl h.0)
    work_little f env n (while_do e t b) fs σ h = (h.1, inl h.0)
    work_little f env n (call_only k) fs σ h = call_little f env n k (Take env n (call_only k) ∷ fs) σ h
    work_little f env n (sense_only s) fs σ h = h
    work_little f env n (emit q e) fs σ h =
        value_little (value_by union env σ e) n σ fs (λ v. Goes fs (Went (noted (Showed (Emitted (number_in p.names.ports q) v.num)) v.samples σ))) h (λ v. one_more _ σ.events σ.taken tt tt h.0 h.1)
    work_little f env n (fresh x) fs σ h = (h.1, inl h.0)
    work_little f env n (consistent x k) fs σ h = one_more _ σ.events σ.taken tt tt h.0 h.1
    work_little f env n (return e) fs σ h =
        let is : Bool = is_use (is_fresh env) (return e) in
        value_little (value_by union env σ e) n σ fs (λ v. Goes (Back v (ended_by regions n) ∷ fs) (Went (done is n (use_by union env (return e) σ) σ))) h
        (λ v. done_one is n (use_by union env (return e) σ) σ h)

    rest_little : (f : Inside) (env : List Binding) (ss : TStmts) (fs : List Frame) (σ : Store) → IsSilent m σ → Little m (step_rest p regions union of_samples f env ss fs σ)
    rest_little f env no_stmts fs σ h = (h.1, inl h.0)
    rest_little f env (more (stmt n line k) rest) fs σ h = opened_one (begun_by regions n) σ h

    turns_little : (f : Inside) (x : Text) (t : ℕ) (i : ℤ) (b : TBlock) (env : List Binding) (fs : List Frame) (σ : Store) → IsSilent m σ → Little m (step_turns p regions union of_samples f x t i b env fs σ)
    turns_little f x zero i b env fs σ h = (h.1, inl h.0)
    turns_little f x (suc t) i b env fs σ h = begin_little f (in_turn x i ∷ env) b (Turns f x t (i +ℤ pos 1) b env ∷ fs) σ h

    loop_little : (f : Inside) (env : List Binding) (n : ℕ) (e : TExpr) (t : ℕ) (b : TBlock) (u : List ℕ) (fs : List Frame) (σ : Store) → IsSilent m σ
        → Little m (step_loop p regions union of_samples f env n e t b u fs σ)
    loop_little f env n e zero b u fs σ h = done_one (is_use (is_fresh env) (while_do e 0 b)) n u σ h
    loop_little f env n e (suc t) b u fs σ h = used_one (is_use (is_fresh env) (while_do e 0 b)) n (use_by union env (while_do e 0 b) σ) σ h

    test_little : (f : Inside) (env : List Binding) (n : ℕ) (e : TExpr) (t : ℕ) (b : TBlock) (u : List ℕ) (fs : List Frame) (σ : Store) → IsSilent m σ
        → Little m (step_test p regions union of_samples f env n e t b u fs σ)
    test_little f env n e t b u fs σ h =
        let is : Bool = is_use (is_fresh env) (while_do e 0 b) in
        value_little (value_by union env σ e) n σ fs (λ v. if is_zero v.num then Goes fs (Went (done is n u σ)) else begin of_samples f env b (Loop f env n e t b u ∷ fs) σ) h
        (λ v. if_little (is_zero v.num) (Goes fs (Went (done is n u σ))) (begin of_samples f env b (Loop f env n e t b u ∷ fs) σ) (done_one is n u σ h) (begin_little f env b (Loop f env n e t b u ∷ fs) σ h))

    went_little : (f : Frame) (fs : List Frame) (σ : Store) → IsSilent m σ → Little m (step_went p regions union of_samples f fs σ)
    went_little (Rest f env ss) fs σ h = rest_little f env ss fs σ h
    went_little (Use f env n u k) fs σ h = used_one (begins_use (is_fresh env) k) n u σ h
    went_little (Work f env n k) fs σ h = work_little f env n k fs σ h
    went_little (Done is n u) fs σ h = done_one is n u σ h
    went_little (Close r) fs σ h = closed_one r σ h
    went_little (Take env n k) fs σ h = taken_little env n k (plain (pos 0)) fs σ h
    went_little (Leave n) fs σ h = (h.1, inl h.0)
    went_little (Turns f x t i b env) fs σ h = turns_little f x t i b env fs σ h
    went_little (Loop f env n e t b u) fs σ h = loop_little f env n e t b u fs σ h
    went_little (Test f env n e t b u) fs σ h = test_little f env n e t b u fs σ h
    went_little (Back v r) fs σ h = closed_one r σ h

    returned_little : (f : Frame) (v : Value) (fs : List Frame) (σ : Store) → IsSilent m σ → Little m (step_returned p regions union of_samples f v fs σ)
    returned_little (Take env n k) v fs σ h = taken_little env n k v fs σ h
    returned_little frame v fs σ h = (h.1, inl h.0)

pub says_little : SaysLittle
says_little p regions [] o h = tt
says_little p regions (f ∷ fs) (Went σ) h = went_little σ.taken p regions f fs σ (h, refl)
says_little p regions (f ∷ fs) (Returned v σ) h = returned_little σ.taken p regions f v fs σ (h, refl)
says_little p regions (f ∷ fs) (Stopped s σ) h = tt
