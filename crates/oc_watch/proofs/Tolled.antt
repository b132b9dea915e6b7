-- What a run of a tree pays for the regions that it enters is at most what the tree tells.
use Rattle.std.proofs.Common.{◌≡◌, ◌≤◌, ◌+◌, ◌*◌, ℕ, zero, suc, ℤ, pos, max, Bool, true, false, List, [], ◌∷◌, length, map, Option, Some, None, refl, ap, arith, suc-mul, codes}
use Rattle.std.specs.Prelude.{◌+ℤ◌, ◌-ℤ◌, ◌==◌, if◌then◌else◌}
use Rattle.std.proofs.lemmas.List.{map-append}
use Rattle.oc_tree.specs.Names.{Text, NameLists}
use Rattle.oc_tree.specs.Tree.{TCall, call, TRight, right_value, right_sense, right_call, TKind, let_to, let_array, assign, assign_index, assign_deref, if_else, for_in, while_do}
use Rattle.oc_tree.specs.Tree.{call_only, sense_only, emit, fresh, consistent, return, TElse, no_else, else_do, stmt, TBlock, block, TStmts, no_stmts, more, TFunction, TProgram}
use Rattle.oc_tree.specs.Marked.{TRegion}
use Rattle.oc_tree.specs.declared.said.Said.TheVariants.{Entered, Committed, Ended}
use Rattle.oc_tree.specs.declared.said.Ending.TheVariants.{Halted}
use Rattle.oc_tree.specs.Weight.{count_of}
use Rattle.oc_tree.specs.Samples.{union}
use Rattle.oc_meaning.specs.Store.{Value, Held, Place, Local, Global, Turn, Nowhere, Event, Store, Binding, held_at, put, replaced, noted, place_of}
use Rattle.oc_meaning.specs.Eval.{Got, Val, Traps, is_zero, element_of, value_of}
use Rattle.oc_meaning.specs.Uses.{is_fresh, is_use, use_samples, begins_use, ends_use}
use Rattle.oc_meaning.specs.Exec.{begun_by, ended_by, Trap, Short, Outcome, Went, Returned, Stopped, Passed, Passing, Passes, Breaks, number_in, with_value, then_do, with_result, dropped}
use Rattle.oc_meaning.specs.Exec.{leave, told_if, opened, closed, used, done, finished, sense, args_of, with_args, element_written, for_turns, while_turns, in_turn}
use Rattle.oc_meaning.specs.Exec.{grown, entered, call_run, right_run, kind_run, else_run, block_run, stmts_run}
use Rattle.oc_meaning.specs.Run.{with_params, function_named, nv_env, function_run, call_to, main_run, first_store, in_order, trace_of, marked_run, said_in}
use Rattle.oc_meaning.specs.Blocks.{set_home}
use Rattle.oc_meaning.specs.Cuts.{events_in}
use Rattle.oc_bounds.proofs.Tolls.{said_toll, tolls, tolls-last}
use Rattle.oc_watch.specs.Entries.{begun_toll, call_toll, right_toll, kind_toll, else_toll, block_toll, stmts_toll, function_toll, toll_to, run_toll}

module _ (toll : ℕ → ℕ) where
  abbrev paid : List Event → ℕ
  paid [] = 0
  paid (e ∷ es) = said_toll toll e.said + paid es

  -- until it came to this, no more than a was paid
  abbrev Within : ℕ → Outcome → Type 0
  Within a o = paid (events_in o) ≤ a

  -- one more event that isn't an entry
  free : (a : ℕ) (es : List Event) → paid es ≤ a → 0 + paid es ≤ a
  free a es h = omega (arith, h)

  wider : (a b : ℕ) (o : Outcome) → a ≤ b → Within a o → Within b o
  wider a b o le h = omega (arith, le, h)

  entry_within : (a : ℕ) (b : Bool) (r : ℕ) (es : List Event) → paid es ≤ a → paid (told_if b (Entered r) es) ≤ a + toll r
  entry_within a true r es h = let x : toll r + paid es ≤ a + toll r = omega (arith, h) in x
  entry_within a false r es h = omega (arith, h)

  opened_within : (a : ℕ) (o : Option ℕ) (σ : Store) → paid σ.events ≤ a → paid (opened o σ).events ≤ a + begun_toll toll o
  opened_within a None σ h = omega (arith, h)
  opened_within a (Some r) σ h = entry_within a (σ.depth == 0) r σ.events h

  commit_within : (a : ℕ) (b : Bool) (r : ℕ) (es : List Event) → paid es ≤ a → paid (told_if b (Committed r) es) ≤ a
  commit_within a true r es h = free a es h
  commit_within a false r es h = h

  closed_within : (a : ℕ) (o : Option ℕ) (σ : Store) → paid σ.events ≤ a → paid (closed o σ).events ≤ a
  closed_within a None σ h = h
  closed_within a (Some r) σ h = commit_within a (σ.depth == 1) r σ.events h

  used_within : (a : ℕ) (b : Bool) (n : ℕ) (set : List ℕ) (σ : Store) → paid σ.events ≤ a → paid (used b n set σ).events ≤ a
  used_within a true n set σ h = free a σ.events h
  used_within a false n set σ h = h

  done_within : (a : ℕ) (b : Bool) (n : ℕ) (set : List ℕ) (σ : Store) → paid σ.events ≤ a → paid (done b n set σ).events ≤ a
  done_within a true n set σ h = free a σ.events h
  done_within a false n set σ h = h

  put_within : (a : ℕ) (σ : Store) (p : Place) (x : Held) → paid σ.events ≤ a → paid (put σ p x).events ≤ a
  put_within a σ (Local l) x h = h
  put_within a σ (Global g) x h = h
  put_within a σ (Turn z) x h = h
  put_within a σ Nowhere x h = h

  value_within : (a : ℕ) (g : Got) (n : ℕ) (σ : Store) (f : Value → Outcome) → paid σ.events ≤ a → ((v : Value) → Within a (f v)) → Within a (with_value g n σ f)
  value_within a (Val v) n σ f h go = go v
  value_within a (Traps k) n σ f h go = free a σ.events h

  then_within : (a b : ℕ) (o : Outcome) (f : Store → Outcome) → a ≤ b → Within a o → ((σ : Store) → paid σ.events ≤ a → Within b (f σ)) → Within b (then_do o f)
  then_within a b (Went σ) f le h go = go σ h
  then_within a b (Returned v σ) f le h go = omega (arith, le, h)
  then_within a b (Stopped s σ) f le h go = omega (arith, le, h)

  result_within : (a : ℕ) (o : Outcome) (f : Value → Store → Outcome) → Within a o → ((v : Value) (σ : Store) → paid σ.events ≤ a → Within a (f v σ)) → Within a (with_result o f)
  result_within a (Went σ) f h go = go _ σ h
  result_within a (Returned v σ) f h go = go v σ h
  result_within a (Stopped s σ) f h go = h

  dropped_within : (a : ℕ) (o : Outcome) → Within a o → Within a (dropped o)
  dropped_within a o h = result_within a o (λ v σ. Went σ) h (λ v σ h. h)

  finished_within : (a : ℕ) (o : Outcome) (f : Store → Store) → Within a o → ((σ : Store) → paid σ.events ≤ a → paid (f σ).events ≤ a) → Within a (finished f o)
  finished_within a (Went σ) f h go = go σ h
  finished_within a (Returned v σ) f h go = h
  finished_within a (Stopped s σ) f h go = h

  leave_within : (a n : ℕ) (o : Outcome) → Within a o → Within a (leave n o)
  leave_within a n (Went σ) h = h
  leave_within a n (Returned v σ) h = h
  leave_within a n (Stopped s σ) h = h

  sense_within : (a s : ℕ) (ls : List ℤ) (σ : Store) → paid σ.events ≤ a → Within a (sense s ls σ)
  sense_within a s [] σ h = h
  sense_within a s (z ∷ zs) σ h = free a σ.events h

  args_within : (a : ℕ) (gs : Passing) (n : ℕ) (σ : Store) (f : List Passed → Outcome) → paid σ.events ≤ a → ((ps : List Passed) → Within a (f ps)) → Within a (with_args gs n σ f)
  args_within a (Passes ps) n σ f h go = go ps
  args_within a (Breaks k) n σ f h go = free a σ.events h

  element_within : (a : ℕ) (p : Place) (o : Option ℕ) (i v : Value) (n : ℕ) (σ : Store) → paid σ.events ≤ a → Within a (element_written p o i v n σ)
  element_within a p None i v n σ h = free a σ.events h
  element_within a p (Some e) i v n σ h = put_within a σ p _ h

  either_within : (a : ℕ) (b : Bool) (x y : Outcome) → Within a x → Within a y → Within a (if b then x else y)
  either_within a true x y h k = h
  either_within a false x y h k = k

  -- each turn pays no more than c
  for_within : (a c t : ℕ) (i : ℤ) (f : ℤ → Store → Outcome) (σ : Store) → paid σ.events ≤ a → ((a : ℕ) (i : ℤ) (σ : Store) → paid σ.events ≤ a → Within (a + c) (f i σ))
      → Within (a + t * c) (for_turns t i f σ)
  for_within a c zero i f σ h go = omega (arith, h)
  for_within a c (suc t) i f σ h go =
      let grown : suc t * c ≡ t * c + c = suc-mul t c in
      then_within (a + c) (a + suc t * c) (f i σ) (for_turns t (i +ℤ pos 1) f) (omega (arith, grown)) (go a i σ h)
      (λ τ k. wider (a + c + t * c) (a + suc t * c) (for_turns t (i +ℤ pos 1) f τ) (omega (arith, grown)) (for_within (a + c) c t (i +ℤ pos 1) f τ k go))

  while_within : (a c t n : ℕ) (is : Bool) (taken : Store → List ℕ) (test : Store → Got) (f : Store → Outcome) (before : List ℕ) (σ : Store) → paid σ.events ≤ a
      → ((a : ℕ) (σ : Store) → paid σ.events ≤ a → Within (a + c) (f σ)) → Within (a + t * c) (while_turns t n is taken test f before σ)
  while_within a c zero n is taken test f before σ h go = omega (arith, done_within a is n before σ h)
  while_within a c (suc t) n is taken test f before σ h go =
      let grown : suc t * c ≡ t * c + c = suc-mul t c in
      let τ : Store = used is n (taken σ) σ in
      let set : List ℕ = union before (taken σ) in
      let k : paid τ.events ≤ a = used_within a is n (taken σ) σ h in
      value_within (a + suc t * c) (test τ) n τ (λ v. if is_zero v.num then Went (done is n set τ) else then_do (f τ) (while_turns t n is taken test f set)) (omega (arith, k))
      (λ v. either_within (a + suc t * c) (is_zero v.num) (Went (done is n set τ)) (then_do (f τ) (while_turns t n is taken test f set)) (omega (arith, done_within a is n set τ k))
      (then_within (a + c) (a + suc t * c) (f τ) (while_turns t n is taken test f set) (omega (arith, grown)) (go a τ k)
      (λ υ l. wider (a + c + t * c) (a + suc t * c) (while_turns t n is taken test f set υ) (omega (arith, grown)) (while_within (a + c) c t n is taken test f set υ l go))))

  module _ (names : NameLists) (regions : List TRegion) (call_of : Text → List Passed → Store → Outcome) (home : ℤ → ℕ) (callee : Text → ℕ)
      (calls : (a : ℕ) (f : Text) (ps : List Passed) (σ : Store) → paid σ.events ≤ a → Within (a + callee f) (call_of f ps σ)) where
    call_within : (a : ℕ) (env : List Binding) (n : ℕ) (σ : Store) (c : TCall) → paid σ.events ≤ a → Within (a + call_toll callee c) (call_run names regions call_of home env n σ c)
    call_within a env n σ (call f gs) h = args_within (a + callee f) (args_of env σ gs) n σ (λ ps. call_of f ps σ) (omega (arith, h)) (λ ps. calls a f ps σ h)

    right_within : (a : ℕ) (env : List Binding) (n : ℕ) (σ : Store) (r : TRight) → paid σ.events ≤ a → Within (a + right_toll callee r) (right_run names regions call_of home env n σ r)
    right_within a env n σ (right_value e) h = value_within (a + 0) (value_of env σ e) n σ (λ v. Returned v σ) (omega (arith, h)) (λ v. omega (arith, h))
    right_within a env n σ (right_sense s) h = sense_within (a + 0) (number_in names.sensors s) σ.left σ (omega (arith, h))
    right_within a env n σ (right_call c) h = call_within a env n σ c h

    assign_within : (a : ℕ) (env : List Binding) (n : ℕ) (x : Text) (r : TRight) (σ : Store) → paid σ.events ≤ a
        → Within (a + right_toll callee r) (with_result (right_run names regions call_of home env n σ r) (λ v τ. Went (put τ (place_of env x) (replaced (held_at τ (place_of env x)) v))))
    assign_within a env n x r σ h =
        result_within (a + right_toll callee r) (right_run names regions call_of home env n σ r) (λ v τ. Went (put τ (place_of env x) (replaced (held_at τ (place_of env x)) v)))
        (right_within a env n σ r h) (λ v τ k. put_within (a + right_toll callee r) τ (place_of env x) _ k)

    stmt_within : (a : ℕ) (env : List Binding) (n line : ℕ) (k : TKind) (rest : TStmts) (σ : Store) → paid σ.events ≤ a
        → ((a : ℕ) (τ : Store) → paid τ.events ≤ a → Within (a + kind_toll regions toll callee k) (kind_run names regions call_of home env n k τ))
        → ((a : ℕ) (env' : List Binding) (τ : Store) → paid τ.events ≤ a → Within (a + stmts_toll regions toll callee rest) (stmts_run names regions call_of home env' rest τ))
        → Within (a + stmts_toll regions toll callee (more (stmt n line k) rest)) (stmts_run names regions call_of home env (more (stmt n line k) rest) σ)
    stmt_within a env n line k rest σ h kind after =
        let b : ℕ = begun_toll toll (begun_by regions n) in
        let i : ℕ = kind_toll regions toll callee k in
        let r : ℕ = stmts_toll regions toll callee rest in
        let before : Store = used (begins_use (is_fresh env) k) n (use_samples env k σ) (opened (begun_by regions n) σ) in
        let ends : Store → Store = λ τ. closed (ended_by regions n) (done (ends_use (is_fresh env) k) n (use_samples env k σ) τ) in
        then_within (a + b + i) (a + (b + i + r)) (finished ends (kind_run names regions call_of home env n k before)) (stmts_run names regions call_of home (grown k rest env σ) rest) (omega arith)
        (finished_within (a + b + i) (kind_run names regions call_of home env n k before) ends
        (kind (a + b) before (used_within (a + b) (begins_use (is_fresh env) k) n (use_samples env k σ) (opened (begun_by regions n) σ) (opened_within a (begun_by regions n) σ h)))
        (λ τ l. closed_within (a + b + i) (ended_by regions n) (done (ends_use (is_fresh env) k) n (use_samples env k σ) τ) (done_within (a + b + i) (ends_use (is_fresh env) k) n (use_samples env k σ) τ l)))
        (λ τ l. wider (a + b + i + r) (a + (b + i + r)) (stmts_run names regions call_of home (grown k rest env σ) rest τ) (omega arith) (after (a + b + i) (grown k rest env σ) τ l))

    mutual
      kind_within : (a : ℕ) (env : List Binding) (n : ℕ) (k : TKind) (σ : Store) → paid σ.events ≤ a → Within (a + kind_toll regions toll callee k) (kind_run names regions call_of home env n k σ)
      kind_within a env n (let_to m x t r) σ h =
          result_within (a + right_toll callee r) (right_run names regions call_of home env n σ r) _ (right_within a env n σ r h) (λ v τ k. k)
      kind_within a env n (let_array m x t z c) σ h = omega (arith, h)
      kind_within a env n (assign x r) σ h = assign_within a env n x r σ h
      kind_within a env n (assign_index x e r) σ h =
          result_within (a + right_toll callee r) (right_run names regions call_of home env n σ r) _ (right_within a env n σ r h)
          (λ v τ k. value_within (a + right_toll callee r) (value_of env τ e) n τ _ k
          (λ i. element_within (a + right_toll callee r) (place_of env x) (element_of (length (held_at τ (place_of env x)).words) i.num) i v n τ k))
      kind_within a env n (assign_deref x r) σ h = assign_within a env n x r σ h
      kind_within a env n (if_else c x y) σ h =
          let t : ℕ = block_toll regions toll callee x in
          let u : ℕ = else_toll regions toll callee y in
          value_within (a + max t u) (value_of env σ c) n σ _ (omega (arith, h))
          (λ v. either_within (a + max t u) (is_zero v.num) (else_run names regions call_of home env y σ) (block_run names regions call_of home env x σ)
          (wider (a + u) (a + max t u) (else_run names regions call_of home env y σ) (omega arith) (else_within a env y σ h))
          (wider (a + t) (a + max t u) (block_run names regions call_of home env x σ) (omega arith) (block_within a env x σ h)))
      kind_within a env n (for_in x c d b) σ h =
          for_within a (block_toll regions toll callee b) (count_of (d -ℤ c)) c _ σ h (λ a i τ k. block_within a (in_turn x i ∷ env) b τ k)
      kind_within a env n (while_do c t b) σ h =
          while_within a (block_toll regions toll callee b) t n (is_use (is_fresh env) (while_do c t b)) (use_samples env (while_do c t b)) (λ τ. value_of env τ c)
          (block_run names regions call_of home env b) [] σ h (λ a τ k. block_within a env b τ k)
      kind_within a env n (call_only c) σ h = dropped_within (a + call_toll callee c) (call_run names regions call_of home env n σ c) (call_within a env n σ c h)
      kind_within a env n (sense_only s) σ h = dropped_within (a + 0) (sense (number_in names.sensors s) σ.left σ) (sense_within (a + 0) (number_in names.sensors s) σ.left σ (omega (arith, h)))
      kind_within a env n (emit p e) σ h = value_within (a + 0) (value_of env σ e) n σ _ (omega (arith, h)) (λ v. free (a + 0) σ.events (omega (arith, h)))
      kind_within a env n (fresh x) σ h = omega (arith, h)
      kind_within a env n (consistent x k) σ h = free (a + 0) σ.events (omega (arith, h))
      kind_within a env n (return e) σ h =
          let k : paid σ.events ≤ a + 0 = omega (arith, h) in
          value_within (a + 0) (value_of env σ e) n σ _ k
          (λ v. closed_within (a + 0) (ended_by regions n) (done (is_use (is_fresh env) (return e)) n (use_samples env (return e) σ) σ)
          (done_within (a + 0) (is_use (is_fresh env) (return e)) n (use_samples env (return e) σ) σ k))

      else_within : (a : ℕ) (env : List Binding) (b : TElse) (σ : Store) → paid σ.events ≤ a → Within (a + else_toll regions toll callee b) (else_run names regions call_of home env b σ)
      else_within a env no_else σ h = omega (arith, h)
      else_within a env (else_do b) σ h = block_within a env b σ h

      block_within : (a : ℕ) (env : List Binding) (b : TBlock) (σ : Store) → paid σ.events ≤ a → Within (a + block_toll regions toll callee b) (block_run names regions call_of home env b σ)
      block_within a env (block id ss) σ h =
          leave_within (a + stmts_toll regions toll callee ss) (length σ.locals) (stmts_run names regions call_of home env ss (entered id σ)) (stmts_within a env ss (entered id σ) h)

      stmts_within : (a : ℕ) (env : List Binding) (ss : TStmts) (σ : Store) → paid σ.events ≤ a → Within (a + stmts_toll regions toll callee ss) (stmts_run names regions call_of home env ss σ)
      stmts_within a env no_stmts σ h = omega (arith, h)
      stmts_within a env (more (stmt n line k) rest) σ h = stmt_within a env n line k rest σ h (λ a τ l. kind_within a env n k τ l) (λ a env' τ l. stmts_within a env' rest τ l)

  module _ (p : TProgram) (regions : List TRegion) where
    function_within : (d : ℕ) → ((a : ℕ) (f : Text) (ps : List Passed) (σ : Store) → paid σ.events ≤ a → Within (a + toll_to p regions toll d f) (call_to p regions d f ps σ))
        → (a : ℕ) (o : Option TFunction) (ps : List Passed) (σ : Store) → paid σ.events ≤ a
        → Within (a + function_toll p regions toll (toll_to p regions toll d) o) (function_run p regions (call_to p regions d) o ps σ)
    function_within d calls a None ps σ h = omega (arith, h)
    function_within d calls a (Some g) ps σ h =
        let fr = with_params g.params ps (record { env = nv_env 0 p.names.nvs; locals = σ.locals }) in
        let here : Store = record σ { locals = fr.locals } in
        leave_within (a + block_toll regions toll (toll_to p regions toll d) g.body) (length σ.locals) (block_run p.names regions (call_to p regions d) (set_home g.body) fr.env g.body here)
        (block_within p.names regions (call_to p regions d) (set_home g.body) (toll_to p regions toll d) calls a fr.env g.body here h)

    call_to_within : (d a : ℕ) (f : Text) (ps : List Passed) (σ : Store) → paid σ.events ≤ a → Within (a + toll_to p regions toll d f) (call_to p regions d f ps σ)
    call_to_within zero a f ps σ h = omega (arith, h)
    call_to_within (suc d) a f ps σ h = function_within d (λ a f ps σ k. call_to_within d a f ps σ k) a (function_named p.functions f) ps σ h

  -- in the order in which they came
  same_order : (es : List Event) → tolls toll (map (λ e. e.said) (in_order es)) ≡ paid es
  same_order [] = refl
  same_order (e ∷ es) =
      let split = ap (tolls toll) (map-append (λ e. e.said) (in_order es) (e ∷ [])) in
      omega (arith, split, tolls-last toll (map (λ e. e.said) (in_order es)) e.said, same_order es)

  halted : (a : ℕ) (σ : Store) → paid σ.events ≤ a → tolls toll (map (λ e. e.said) (in_order (noted (Ended Halted) [] σ).events)) ≤ a
  halted a σ h =
      let all = same_order (noted (Ended Halted) [] σ).events in
      let last : 0 + paid σ.events ≤ a = free a σ.events h in
      omega (arith, all, last)

  traced : (a : ℕ) (o : Outcome) → Within a o → tolls toll (said_in (trace_of o)) ≤ a
  traced a (Went σ) h = halted a σ h
  traced a (Returned v σ) h = halted a σ h
  traced a (Stopped Trap σ) h = omega (arith, same_order σ.events, h)
  traced a (Stopped Short σ) h = omega (arith, same_order σ.events, h)

  -- over any samples the run with the marks of its regions pays no more than the tree tells
  pub run_within : (p : TProgram) (regions : List TRegion) (samples : List ℤ) → tolls toll (said_in (marked_run p regions samples)) ≤ run_toll p regions toll
  run_within p regions samples =
      let start : 0 ≤ 0 = omega arith in
      traced (run_toll p regions toll) (main_run p regions samples)
      (wider (0 + run_toll p regions toll) (run_toll p regions toll) (main_run p regions samples) (omega arith)
      (call_to_within p regions (suc (length p.functions)) 0 (codes "main") [] (first_store p samples) start))
