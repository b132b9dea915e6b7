-- A run that stops for want of a sample has told no end.
use Rattle.std.proofs.Common.{◌≡◌, ℕ, zero, suc, Bool, true, false, List, [], ◌∷◌, ◌++◌, length, map, Option, Some, None, subst}
use Rattle.std.specs.Prelude.{ℤ, pos, ◌+ℤ◌, ◌-ℤ◌, ◌==◌, if◌then◌else◌, codes}
use Rattle.oc_tree.specs.Names.{Text, NameLists}
use Rattle.oc_tree.specs.Tree.{TCall, call, TRight, right_value, right_sense, right_call, TKind, let_to, let_array, assign, assign_index, assign_deref, if_else, for_in, while_do}
use Rattle.oc_tree.specs.Tree.{call_only, sense_only, emit, fresh, consistent, return, TElse, no_else, else_do, stmt, TBlock, block, TStmts, no_stmts, more, TFunction, TProgram}
use Rattle.oc_tree.specs.Marked.{TRegion}
use Rattle.oc_tree.specs.declared.said.Said.{Said}
use Rattle.oc_tree.specs.declared.said.Said.TheVariants.{Entered, Committed, Ended}
use Rattle.oc_tree.specs.declared.said.Ending.{Ending}
use Rattle.oc_tree.specs.Weight.{count_of}
use Rattle.oc_tree.specs.Samples.{union}
use Rattle.oc_meaning.specs.Store.{Value, Held, Place, Local, Global, Turn, Nowhere, Event, Store, Binding, held_at, put, replaced, place_of}
use Rattle.oc_meaning.specs.Eval.{Got, Val, Traps, is_zero, element_of, value_of}
use Rattle.oc_meaning.specs.Uses.{is_fresh, is_use, use_samples, begins_use, ends_use}
use Rattle.oc_meaning.specs.Exec.{Trap, Short, begun_by, ended_by, Outcome, Went, Returned, Stopped, Passed, Passing, Passes, Breaks, number_in, with_value, then_do, with_result, dropped}
use Rattle.oc_meaning.specs.Exec.{leave, told_if, opened, closed, used, done, finished, sense, args_of, with_args, element_written, for_turns, while_turns, in_turn}
use Rattle.oc_meaning.specs.Exec.{grown, entered, call_run, right_run, kind_run, else_run, block_run, stmts_run}
use Rattle.oc_meaning.specs.Run.{AtShort, with_params, function_named, nv_env, function_run, call_to, main_run, first_store, in_order, trace_of, marked_run, said_in}
use Rattle.oc_meaning.specs.Blocks.{set_home}

abbrev IsNoEnd : Said → Type 0
IsNoEnd (Ended how) = ⊥
IsNoEnd s = Unit {0}

abbrev HasNoEnd : List Event → Type 0
HasNoEnd [] = Unit {0}
HasNoEnd (e ∷ es) = IsNoEnd e.said × HasNoEnd es

-- it has told no end, but where it was trapped
abbrev GoesOn : Outcome → Type 0
GoesOn (Went σ) = HasNoEnd σ.events
GoesOn (Returned v σ) = HasNoEnd σ.events
GoesOn (Stopped Trap σ) = Unit {0}
GoesOn (Stopped Short σ) = HasNoEnd σ.events

told_on : (b : Bool) (r : ℕ) (es : List Event) → HasNoEnd es → HasNoEnd (told_if b (Entered r) es) × HasNoEnd (told_if b (Committed r) es)
told_on true r es h = ((tt, h), (tt, h))
told_on false r es h = (h, h)

opened_on : (o : Option ℕ) (σ : Store) → HasNoEnd σ.events → HasNoEnd (opened o σ).events
opened_on None σ h = h
opened_on (Some r) σ h = (told_on (σ.depth == 0) r σ.events h).0

closed_on : (o : Option ℕ) (σ : Store) → HasNoEnd σ.events → HasNoEnd (closed o σ).events
closed_on None σ h = h
closed_on (Some r) σ h = (told_on (σ.depth == 1) r σ.events h).1

used_on : (b : Bool) (n : ℕ) (set : List ℕ) (σ : Store) → HasNoEnd σ.events → HasNoEnd (used b n set σ).events
used_on true n set σ h = (tt, h)
used_on false n set σ h = h

done_on : (b : Bool) (n : ℕ) (set : List ℕ) (σ : Store) → HasNoEnd σ.events → HasNoEnd (done b n set σ).events
done_on true n set σ h = (tt, h)
done_on false n set σ h = h

put_on : (σ : Store) (p : Place) (x : Held) → HasNoEnd σ.events → HasNoEnd (put σ p x).events
put_on σ (Local l) x h = h
put_on σ (Global g) x h = h
put_on σ (Turn z) x h = h
put_on σ Nowhere x h = h

value_on : (g : Got) (n : ℕ) (σ : Store) (f : Value → Outcome) → ((v : Value) → GoesOn (f v)) → GoesOn (with_value g n σ f)
value_on (Val v) n σ f go = go v
value_on (Traps k) n σ f go = tt

then_on : (o : Outcome) (f : Store → Outcome) → GoesOn o → ((σ : Store) → HasNoEnd σ.events → GoesOn (f σ)) → GoesOn (then_do o f)
then_on (Went σ) f h go = go σ h
then_on (Returned v σ) f h go = h
then_on (Stopped s σ) f h go = h

result_on : (o : Outcome) (f : Value → Store → Outcome) → GoesOn o → ((v : Value) (σ : Store) → HasNoEnd σ.events → GoesOn (f v σ)) → GoesOn (with_result o f)
result_on (Went σ) f h go = go _ σ h
result_on (Returned v σ) f h go = go v σ h
result_on (Stopped s σ) f h go = h

dropped_on : (o : Outcome) → GoesOn o → GoesOn (dropped o)
dropped_on o h = result_on o (λ v σ. Went σ) h (λ v σ h. h)

finished_on : (o : Outcome) (f : Store → Store) → GoesOn o → ((σ : Store) → HasNoEnd σ.events → HasNoEnd (f σ).events) → GoesOn (finished f o)
finished_on (Went σ) f h go = go σ h
finished_on (Returned v σ) f h go = h
finished_on (Stopped s σ) f h go = h

leave_on : (n : ℕ) (o : Outcome) → GoesOn o → GoesOn (leave n o)
leave_on n (Went σ) h = h
leave_on n (Returned v σ) h = h
leave_on n (Stopped Trap σ) h = h
leave_on n (Stopped Short σ) h = h

sense_on : (s : ℕ) (ls : List ℤ) (σ : Store) → HasNoEnd σ.events → GoesOn (sense s ls σ)
sense_on s [] σ h = h
sense_on s (z ∷ zs) σ h = (tt, h)

args_on : (gs : Passing) (n : ℕ) (σ : Store) (f : List Passed → Outcome) → ((ps : List Passed) → GoesOn (f ps)) → GoesOn (with_args gs n σ f)
args_on (Passes ps) n σ f go = go ps
args_on (Breaks k) n σ f go = tt

element_on : (p : Place) (o : Option ℕ) (i v : Value) (n : ℕ) (σ : Store) → HasNoEnd σ.events → GoesOn (element_written p o i v n σ)
element_on p None i v n σ h = tt
element_on p (Some e) i v n σ h = put_on σ p _ h

for_on : (t : ℕ) (i : ℤ) (f : ℤ → Store → Outcome) (σ : Store) → HasNoEnd σ.events → ((i : ℤ) (σ : Store) → HasNoEnd σ.events → GoesOn (f i σ)) → GoesOn (for_turns t i f σ)
for_on zero i f σ h go = h
for_on (suc t) i f σ h go = then_on (f i σ) (for_turns t (i +ℤ pos 1) f) (go i σ h) (λ τ k. for_on t (i +ℤ pos 1) f τ k go)

either_on : (b : Bool) (x y : Outcome) → GoesOn x → GoesOn y → GoesOn (if b then x else y)
either_on true x y h k = h
either_on false x y h k = k

while_on : (t n : ℕ) (is : Bool) (taken : Store → List ℕ) (test : Store → Got) (f : Store → Outcome) (before : List ℕ) (σ : Store) → HasNoEnd σ.events
    → ((σ : Store) → HasNoEnd σ.events → GoesOn (f σ)) → GoesOn (while_turns t n is taken test f before σ)
while_on zero n is taken test f before σ h go = done_on is n before σ h
while_on (suc t) n is taken test f before σ h go =
    let τ : Store = used is n (taken σ) σ in
    let set : List ℕ = union before (taken σ) in
    let k : HasNoEnd τ.events = used_on is n (taken σ) σ h in
    value_on (test τ) n τ (λ v. if is_zero v.num then Went (done is n set τ) else then_do (f τ) (while_turns t n is taken test f set))
    (λ v. either_on (is_zero v.num) (Went (done is n set τ)) (then_do (f τ) (while_turns t n is taken test f set)) (done_on is n set τ k)
    (then_on (f τ) (while_turns t n is taken test f set) (go τ k) (λ υ l. while_on t n is taken test f set υ l go)))

module _ (names : NameLists) (regions : List TRegion) (call_of : Text → List Passed → Store → Outcome) (home : ℤ → ℕ)
    (calls : (f : Text) (ps : List Passed) (σ : Store) → HasNoEnd σ.events → GoesOn (call_of f ps σ)) where
  call_on : (env : List Binding) (n : ℕ) (σ : Store) (c : TCall) → HasNoEnd σ.events → GoesOn (call_run names regions call_of home env n σ c)
  call_on env n σ (call f gs) h = args_on (args_of env σ gs) n σ (λ ps. call_of f ps σ) (λ ps. calls f ps σ h)

  right_on : (env : List Binding) (n : ℕ) (σ : Store) (r : TRight) → HasNoEnd σ.events → GoesOn (right_run names regions call_of home env n σ r)
  right_on env n σ (right_value e) h = value_on (value_of env σ e) n σ (λ v. Returned v σ) (λ v. h)
  right_on env n σ (right_sense s) h = sense_on (number_in names.sensors s) σ.left σ h
  right_on env n σ (right_call c) h = call_on env n σ c h

  assign_on : (env : List Binding) (n : ℕ) (x : Text) (r : TRight) (σ : Store) → HasNoEnd σ.events
      → GoesOn (with_result (right_run names regions call_of home env n σ r) (λ v τ. Went (put τ (place_of env x) (replaced (held_at τ (place_of env x)) v))))
  assign_on env n x r σ h =
      result_on (right_run names regions call_of home env n σ r) (λ v τ. Went (put τ (place_of env x) (replaced (held_at τ (place_of env x)) v))) (right_on env n σ r h)
      (λ v τ k. put_on τ (place_of env x) _ k)

  stmt_on : (env : List Binding) (n line : ℕ) (k : TKind) (rest : TStmts) (σ : Store) → HasNoEnd σ.events
      → ((τ : Store) → HasNoEnd τ.events → GoesOn (kind_run names regions call_of home env n k τ))
      → ((env' : List Binding) (τ : Store) → HasNoEnd τ.events → GoesOn (stmts_run names regions call_of home env' rest τ))
      → GoesOn (stmts_run names regions call_of home env (more (stmt n line k) rest) σ)
  stmt_on env n line k rest σ h kind after =
      let before : Store = used (begins_use (is_fresh env) k) n (use_samples env k σ) (opened (begun_by regions n) σ) in
      let ends : Store → Store = λ τ. closed (ended_by regions n) (done (ends_use (is_fresh env) k) n (use_samples env k σ) τ) in
      then_on (finished ends (kind_run names regions call_of home env n k before)) (stmts_run names regions call_of home (grown k rest env σ) rest)
      (finished_on (kind_run names regions call_of home env n k before) ends
      (kind before (used_on (begins_use (is_fresh env) k) n (use_samples env k σ) (opened (begun_by regions n) σ) (opened_on (begun_by regions n) σ h)))
      (λ τ l. closed_on (ended_by regions n) (done (ends_use (is_fresh env) k) n (use_samples env k σ) τ) (done_on (ends_use (is_fresh env) k) n (use_samples env k σ) τ l)))
      (after (grown k rest env σ))

  mutual
    kind_on : (env : List Binding) (n : ℕ) (k : TKind) (σ : Store) → HasNoEnd σ.events → GoesOn (kind_run names regions call_of home env n k σ)
    kind_on env n (let_to m x t r) σ h = result_on (right_run names regions call_of home env n σ r) _ (right_on env n σ r h) (λ v τ k. k)
    kind_on env n (let_array m x t z c) σ h = h
    kind_on env n (assign x r) σ h = assign_on env n x r σ h
    kind_on env n (assign_index x e r) σ h =
        result_on (right_run names regions call_of home env n σ r) _ (right_on env n σ r h)
        (λ v τ k. value_on (value_of env τ e) n τ _ (λ i. element_on (place_of env x) (element_of (length (held_at τ (place_of env x)).words) i.num) i v n τ k))
    kind_on env n (assign_deref x r) σ h = assign_on env n x r σ h
    kind_on env n (if_else c a b) σ h =
        value_on (value_of env σ c) n σ _ (λ v. either_on (is_zero v.num) (else_run names regions call_of home env b σ) (block_run names regions call_of home env a σ)
        (else_on env b σ h) (block_on env a σ h))
    kind_on env n (for_in x c d b) σ h = for_on (count_of (d -ℤ c)) c _ σ h (λ i τ k. block_on (in_turn x i ∷ env) b τ k)
    kind_on env n (while_do c t b) σ h =
        while_on t n (is_use (is_fresh env) (while_do c t b)) (use_samples env (while_do c t b)) (λ τ. value_of env τ c) (block_run names regions call_of home env b) [] σ h
        (λ τ k. block_on env b τ k)
    kind_on env n (call_only c) σ h = dropped_on (call_run names regions call_of home env n σ c) (call_on env n σ c h)
    kind_on env n (sense_only s) σ h = dropped_on (sense (number_in names.sensors s) σ.left σ) (sense_on (number_in names.sensors s) σ.left σ h)
    kind_on env n (emit p e) σ h = value_on (value_of env σ e) n σ _ (λ v. (tt, h))
    kind_on env n (fresh x) σ h = h
    kind_on env n (consistent x k) σ h = (tt, h)
    kind_on env n (return e) σ h =
        value_on (value_of env σ e) n σ _
        (λ v. closed_on (ended_by regions n) (done (is_use (is_fresh env) (return e)) n (use_samples env (return e) σ) σ)
        (done_on (is_use (is_fresh env) (return e)) n (use_samples env (return e) σ) σ h))

    else_on : (env : List Binding) (b : TElse) (σ : Store) → HasNoEnd σ.events → GoesOn (else_run names regions call_of home env b σ)
    else_on env no_else σ h = h
    else_on env (else_do b) σ h = block_on env b σ h

    block_on : (env : List Binding) (b : TBlock) (σ : Store) → HasNoEnd σ.events → GoesOn (block_run names regions call_of home env b σ)
    block_on env (block id ss) σ h = leave_on (length σ.locals) (stmts_run names regions call_of home env ss (entered id σ)) (stmts_on env ss (entered id σ) h)

    stmts_on : (env : List Binding) (ss : TStmts) (σ : Store) → HasNoEnd σ.events → GoesOn (stmts_run names regions call_of home env ss σ)
    stmts_on env no_stmts σ h = h
    stmts_on env (more (stmt n line k) rest) σ h = stmt_on env n line k rest σ h (λ τ l. kind_on env n k τ l) (λ env' τ l. stmts_on env' rest τ l)

-- ---- the end of a run

no_end_more : (es : List Event) (e : Event) → HasNoEnd es → IsNoEnd e.said → HasNoEnd (es ++ e ∷ [])
no_end_more [] e h n = (n, tt)
no_end_more (x ∷ es) e h n = (h.0, no_end_more es e h.1 n)

no_end_in : (es : List Event) → HasNoEnd es → HasNoEnd (in_order es)
no_end_in [] h = tt
no_end_in (e ∷ es) h = no_end_more (in_order es) e (no_end_in es h.1) h.0

no_end_last : (es : List Event) → HasNoEnd es → (before : List Said) (how : Ending) → map (λ e. e.said) es ≡ before ++ Ended how ∷ [] → ⊥
no_end_last [] h [] how e = cc (e)
no_end_last [] h (s ∷ before) how e = cc (e)
no_end_last (x ∷ es) h [] how e = let is : x.said ≡ Ended how = cc (e) in absurd (subst IsNoEnd is h.0)
no_end_last (x ∷ es) h (s ∷ before) how e = no_end_last es h.1 before how (cc (e))

module _ (p : TProgram) (regions : List TRegion) where
  function_on : (d : ℕ) → ((f : Text) (ps : List Passed) (σ : Store) → HasNoEnd σ.events → GoesOn (call_to p regions d f ps σ))
      → (o : Option TFunction) (ps : List Passed) (σ : Store) → HasNoEnd σ.events → GoesOn (function_run p regions (call_to p regions d) o ps σ)
  function_on d calls None ps σ h = h
  function_on d calls (Some g) ps σ h =
      let fr = with_params g.params ps (record { env = nv_env 0 p.names.nvs; locals = σ.locals }) in
      leave_on (length σ.locals) (block_run p.names regions (call_to p regions d) (set_home g.body) fr.env g.body (record σ { locals = fr.locals }))
      (block_on p.names regions (call_to p regions d) (set_home g.body) calls fr.env g.body (record σ { locals = fr.locals }) h)

  call_to_on : (d : ℕ) (f : Text) (ps : List Passed) (σ : Store) → HasNoEnd σ.events → GoesOn (call_to p regions d f ps σ)
  call_to_on zero f ps σ h = h
  call_to_on (suc d) f ps σ h = function_on d (λ f' ps' σ' k. call_to_on d f' ps' σ' k) (function_named p.functions f) ps σ h

  short_trace : (o : Outcome) → GoesOn o → (trace_of o).ending ≡ AtShort → HasNoEnd (trace_of o).events
  short_trace (Went σ) h e = absurd (cc (e))
  short_trace (Returned v σ) h e = absurd (cc (e))
  short_trace (Stopped Trap σ) h e = absurd (cc (e))
  short_trace (Stopped Short σ) h e = no_end_in σ.events h

  -- a run that says last that it is over doesn't want a sample
  pub ended_not_short : (samples : List ℤ) (before : List Said) (how : Ending) → said_in (marked_run p regions samples) ≡ before ++ Ended how ∷ []
      → (marked_run p regions samples).ending ≡ AtShort → ⊥
  ended_not_short samples before how e s =
      no_end_last (marked_run p regions samples).events
      (short_trace (main_run p regions samples) (call_to_on (suc (length p.functions)) (codes "main") [] (first_store p samples) tt) s) before how e
