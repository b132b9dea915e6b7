-- A run without marks is the run with its marks left out.
use Rattle.std.proofs.Common.{◌≡◌, ℕ, zero, suc, Bool, true, false, List, [], ◌∷◌, ◌++◌, length, Option, Some, None, refl, sym, ap, ◌∙◌, append-nil}
use Rattle.std.specs.Prelude.{ℤ, pos, ◌+ℤ◌, ◌-ℤ◌, ◌==◌, if◌then◌else◌, codes}
use Rattle.oc_tree.specs.Names.{Text, NameLists}
use Rattle.oc_tree.specs.Tree.{TExpr, number, truth, variable, index, deref, unary, binary, sensed, called, TArg, value, shared, mutable, TCall, call, TArgs, no_args, more_args}
use Rattle.oc_tree.specs.Tree.{TRight, right_value, right_sense, right_call, TKind, let_to, let_array, assign, assign_index, assign_deref, if_else, for_in, while_do, call_only}
use Rattle.oc_tree.specs.Tree.{sense_only, emit, fresh, consistent, return, TElse, no_else, else_do, stmt, TBlock, block, TStmts, no_stmts, more, TFunction, TProgram}
use Rattle.oc_tree.specs.declared.said.Said.TheVariants.{Showed, Entered, Committed, Ended}
use Rattle.oc_tree.specs.declared.said.Shown.TheVariants.{Emitted}
use Rattle.oc_tree.specs.declared.said.Ending.TheVariants.{Halted}
use Rattle.oc_tree.specs.Samples.{union}
use Rattle.oc_meaning.specs.Store.{Value, Held, Place, Local, Global, Turn, Nowhere, Event, Store, Binding, value_in, held_at, put, with_element, replaced, holding, made, noted, place_of}
use Rattle.oc_meaning.specs.Eval.{Got, Val, Traps, is_zero, element_of, read_element, unary_value, combined, and_got, value_of}
use Rattle.oc_meaning.specs.Uses.{is_fresh, is_use, samples_of_fresh, use_samples, begins_use, ends_use}
use Rattle.oc_tree.specs.Marked.{TRegion}
use Rattle.oc_tree.specs.Weight.{count_of}
use Rattle.oc_meaning.specs.Exec.{begun_by, ended_by, Trap, Short, Outcome, Went, Returned, Stopped, Passed, Passing, Passes, Breaks, number_in, with_value, then_do, with_result}
use Rattle.oc_meaning.specs.Exec.{dropped, leave, told_if, opened, closed, used, done, finished, sense, passed_on, value_first, arg_first, args_of, with_args, element_written}
use Rattle.oc_meaning.specs.Exec.{for_turns, while_turns, in_turn, grown, entered, tagged, call_run, right_run, kind_run, else_run, block_run, stmts_run}
use Rattle.oc_meaning.specs.Run.{AtEnd, AtTrap, AtShort, in_order, words_of, trace_of, with_params, function_named, nv_env, function_run, call_to, main_run, first_store}
use Rattle.oc_meaning.specs.Blocks.{set_home}
use Rattle.oc_meaning.specs.Unmarked.{is_mark, unmarked, without_marks, MarksOnlyTell}

-- a store without its marks
abbrev bare : Store → Store
bare σ = record σ { depth = 0; events = unmarked σ.events }

abbrev bare_out : Outcome → Outcome
bare_out (Went σ) = Went (bare σ)
bare_out (Returned v σ) = Returned v (bare σ)
bare_out (Stopped s σ) = Stopped s (bare σ)

held_bare : (σ : Store) (p : Place) → held_at (bare σ) p ≡ held_at σ p
held_bare σ (Local l) = refl
held_bare σ (Global g) = refl
held_bare σ (Turn z) = refl
held_bare σ Nowhere = refl

value_bare : (env : List Binding) (σ : Store) (e : TExpr) → value_of env (bare σ) e ≡ value_of env σ e
value_bare env σ (number z) = refl
value_bare env σ (truth b) = refl
value_bare env σ (variable x) = ap (λ h. Val (value_in h)) (held_bare σ (place_of env x))
value_bare env σ (deref x) = ap (λ h. Val (value_in h)) (held_bare σ (place_of env x))
value_bare env σ (index x e) =
    ap (λ g. and_got g (λ i. read_element (held_at (bare σ) (place_of env x)) (element_of (length (held_at (bare σ) (place_of env x)).words) i.num) i.samples)) (value_bare env σ e)
    ∙ ap (λ h. and_got (value_of env σ e) (λ i. read_element h (element_of (length h.words) i.num) i.samples)) (held_bare σ (place_of env x))
value_bare env σ (unary op e) = ap (unary_value op) (value_bare env σ e)
value_bare env σ (binary op a b) = ap (λ g. combined op g (value_of env (bare σ) b)) (value_bare env σ a) ∙ ap (combined op (value_of env σ a)) (value_bare env σ b)
value_bare env σ (sensed s) = refl
value_bare env σ (called c) = refl

fresh_bare : (env : List Binding) (σ : Store) (xs : List Text) → samples_of_fresh env (bare σ) xs ≡ samples_of_fresh env σ xs
fresh_bare env σ [] = refl
fresh_bare env σ (x ∷ xs) =
    ap (λ h. if is_fresh env x then union h.samples (samples_of_fresh env (bare σ) xs) else samples_of_fresh env (bare σ) xs) (held_bare σ (place_of env x))
    ∙ ap (λ s. if is_fresh env x then union (held_at σ (place_of env x)).samples s else s) (fresh_bare env σ xs)

arg_bare : (env : List Binding) (σ : Store) (a : TArg) (rest : Passing) → arg_first env (bare σ) a rest ≡ arg_first env σ a rest
arg_bare env σ (value e) rest = ap (λ g. value_first (passed_on env e) g rest) (value_bare env σ e)
arg_bare env σ (shared x) rest = refl
arg_bare env σ (mutable x) rest = refl

args_bare : (env : List Binding) (σ : Store) (gs : TArgs) → args_of env (bare σ) gs ≡ args_of env σ gs
args_bare env σ no_args = refl
args_bare env σ (more_args a rest) = arg_bare env σ a (args_of env (bare σ) rest) ∙ ap (arg_first env σ a) (args_bare env σ rest)

told_entered : (b : Bool) (r : ℕ) (es : List Event) → unmarked (told_if b (Entered r) es) ≡ unmarked es
told_entered true r es = refl
told_entered false r es = refl

told_committed : (b : Bool) (r : ℕ) (es : List Event) → unmarked (told_if b (Committed r) es) ≡ unmarked es
told_committed true r es = refl
told_committed false r es = refl

opened_bare : (o : Option ℕ) (σ : Store) → bare (opened o σ) ≡ bare σ
opened_bare None σ = refl
opened_bare (Some r) σ = ap (λ es. record σ { depth = 0; events = es }) (told_entered (σ.depth == 0) r σ.events)

closed_bare : (o : Option ℕ) (σ : Store) → bare (closed o σ) ≡ bare σ
closed_bare None σ = refl
closed_bare (Some r) σ = ap (λ es. record σ { depth = 0; events = es }) (told_committed (σ.depth == 1) r σ.events)

used_bare : (b : Bool) (n : ℕ) (set : List ℕ) (σ : Store) → used b n set (bare σ) ≡ bare (used b n set σ)
used_bare true n set σ = refl
used_bare false n set σ = refl

done_bare : (b : Bool) (n : ℕ) (set : List ℕ) (σ : Store) → done b n set (bare σ) ≡ bare (done b n set σ)
done_bare true n set σ = refl
done_bare false n set σ = refl

put_bare : (σ : Store) (p : Place) (h : Held) → put (bare σ) p h ≡ bare (put σ p h)
put_bare σ (Local l) h = refl
put_bare σ (Global g) h = refl
put_bare σ (Turn z) h = refl
put_bare σ Nowhere h = refl

with_value_bare : (g : Got) (n : ℕ) (σ : Store) (f f' : Value → Outcome) → ((v : Value) → f' v ≡ bare_out (f v)) → with_value g n (bare σ) f' ≡ bare_out (with_value g n σ f)
with_value_bare (Val v) n σ f f' h = h v
with_value_bare (Traps k) n σ f f' h = refl

then_bare : (o : Outcome) (f f' : Store → Outcome) → ((σ : Store) → f' (bare σ) ≡ bare_out (f σ)) → then_do (bare_out o) f' ≡ bare_out (then_do o f)
then_bare (Went σ) f f' h = h σ
then_bare (Returned v σ) f f' h = refl
then_bare (Stopped s σ) f f' h = refl

result_bare : (o : Outcome) (f f' : Value → Store → Outcome) → ((v : Value) (σ : Store) → f' v (bare σ) ≡ bare_out (f v σ)) → with_result (bare_out o) f' ≡ bare_out (with_result o f)
result_bare (Went σ) f f' h = h _ σ
result_bare (Returned v σ) f f' h = h v σ
result_bare (Stopped s σ) f f' h = refl

dropped_bare : (o : Outcome) → dropped (bare_out o) ≡ bare_out (dropped o)
dropped_bare o = result_bare o (λ v σ. Went σ) (λ v σ. Went σ) (λ v σ. refl)

finished_bare : (o : Outcome) (f f' : Store → Store) → ((σ : Store) → f' (bare σ) ≡ bare (f σ)) → finished f' (bare_out o) ≡ bare_out (finished f o)
finished_bare (Went σ) f f' h = ap Went (h σ)
finished_bare (Returned v σ) f f' h = refl
finished_bare (Stopped s σ) f f' h = refl

leave_bare : (n : ℕ) (o : Outcome) → leave n (bare_out o) ≡ bare_out (leave n o)
leave_bare n (Went σ) = refl
leave_bare n (Returned v σ) = refl
leave_bare n (Stopped s σ) = refl

sense_bare : (s : ℕ) (ls : List ℤ) (σ : Store) → sense s ls (bare σ) ≡ bare_out (sense s ls σ)
sense_bare s [] σ = refl
sense_bare s (z ∷ zs) σ = refl

args_out : (gs : Passing) (n : ℕ) (σ : Store) (f f' : List Passed → Outcome) → ((ps : List Passed) → f' ps ≡ bare_out (f ps)) → with_args gs n (bare σ) f' ≡ bare_out (with_args gs n σ f)
args_out (Passes ps) n σ f f' h = h ps
args_out (Breaks k) n σ f f' h = refl

element_bare : (p : Place) (o : Option ℕ) (i v : Value) (n : ℕ) (σ : Store) → element_written p o i v n (bare σ) ≡ bare_out (element_written p o i v n σ)
element_bare p None i v n σ = refl
element_bare p (Some e) i v n σ =
    ap (λ h. Went (put (bare σ) p (with_element h e v.num (union i.samples v.samples)))) (held_bare σ p) ∙ ap Went (put_bare σ p (with_element (held_at σ p) e v.num (union i.samples v.samples)))

for_bare : (t : ℕ) (i : ℤ) (f f' : ℤ → Store → Outcome) (σ : Store) → ((i : ℤ) (σ : Store) → f' i (bare σ) ≡ bare_out (f i σ)) → for_turns t i f' (bare σ) ≡ bare_out (for_turns t i f σ)
for_bare zero i f f' σ h = refl
for_bare (suc t) i f f' σ h =
    ap (λ o. then_do o (for_turns t (i +ℤ pos 1) f')) (h i σ) ∙ then_bare (f i σ) (for_turns t (i +ℤ pos 1) f) (for_turns t (i +ℤ pos 1) f') (λ τ. for_bare t (i +ℤ pos 1) f f' τ h)

while_bare : (t n : ℕ) (is : Bool) (taken : Store → List ℕ) (test : Store → Got) (f f' : Store → Outcome) (before : List ℕ) (σ : Store) → ((σ : Store) → taken (bare σ) ≡ taken σ)
    → ((σ : Store) → test (bare σ) ≡ test σ) → ((σ : Store) → f' (bare σ) ≡ bare_out (f σ)) → while_turns t n is taken test f' before (bare σ) ≡ bare_out (while_turns t n is taken test f before σ)
while_bare zero n is taken test f f' before σ ht hc hf = ap Went (done_bare is n before σ)
while_bare (suc t) n is taken test f f' before σ ht hc hf =
    ap (λ s. turn (used is n s (bare σ)) s) (ht σ)
    ∙ ap (λ τ. turn τ (taken σ)) (used_bare is n (taken σ) σ)
    ∙ ap (λ g. with_value g n (bare τ) (go' (bare τ))) (hc τ)
    ∙ with_value_bare (test τ) n τ (go τ) (go' (bare τ)) (λ v. tested (λ υ. while_bare t n is taken test f f' (union before (taken σ)) υ ht hc hf) (is_zero v.num))
  where
    τ : Store
    τ = used is n (taken σ) σ

    turn : Store → List ℕ → Outcome
    turn υ s = with_value (test υ) n υ (λ v. if is_zero v.num then Went (done is n (union before s) υ) else then_do (f' υ) (while_turns t n is taken test f' (union before s)))

    go : Store → Value → Outcome
    go υ v = if is_zero v.num then Went (done is n (union before (taken σ)) υ) else then_do (f υ) (while_turns t n is taken test f (union before (taken σ)))

    go' : Store → Value → Outcome
    go' υ v = if is_zero v.num then Went (done is n (union before (taken σ)) υ) else then_do (f' υ) (while_turns t n is taken test f' (union before (taken σ)))

    tested : ((υ : Store) → while_turns t n is taken test f' (union before (taken σ)) (bare υ) ≡ bare_out (while_turns t n is taken test f (union before (taken σ)) υ)) → (b : Bool)
        → (if b then Went (done is n (union before (taken σ)) (bare τ)) else then_do (f' (bare τ)) (while_turns t n is taken test f' (union before (taken σ))))
        ≡ bare_out (if b then Went (done is n (union before (taken σ)) τ) else then_do (f τ) (while_turns t n is taken test f (union before (taken σ))))
    tested rest true = ap Went (done_bare is n (union before (taken σ)) τ)
    tested rest false =
        ap (λ o. then_do o (while_turns t n is taken test f' (union before (taken σ)))) (hf τ)
        ∙ then_bare (f τ) (while_turns t n is taken test f (union before (taken σ))) (while_turns t n is taken test f' (union before (taken σ))) rest

either : (b : Bool) (x y x' y' : Outcome) → x' ≡ bare_out x → y' ≡ bare_out y → (if b then x' else y') ≡ bare_out (if b then x else y)
either true x y x' y' p q = p
either false x y x' y' p q = q

grown_bare : (k : TKind) (rest : TStmts) (env : List Binding) (σ : Store) → grown k rest env (bare σ) ≡ grown k rest env σ
grown_bare (let_to m x t r) rest env σ = refl
grown_bare (let_array m x t z c) rest env σ = refl
grown_bare k rest env σ = refl

module _ (names : NameLists) (regions : List TRegion) (call_of call' : Text → List Passed → Store → Outcome) (home : ℤ → ℕ)
    (calls : (f : Text) (ps : List Passed) (σ : Store) → call' f ps (bare σ) ≡ bare_out (call_of f ps σ)) where
  call_bare : (env : List Binding) (n : ℕ) (σ : Store) (c : TCall) → call_run names [] call' home env n (bare σ) c ≡ bare_out (call_run names regions call_of home env n σ c)
  call_bare env n σ (call f gs) =
      ap (λ ps. with_args ps n (bare σ) (λ ps. call' f ps (bare σ))) (args_bare env σ gs)
      ∙ args_out (args_of env σ gs) n σ (λ ps. call_of f ps σ) (λ ps. call' f ps (bare σ)) (λ ps. calls f ps σ)

  right_bare : (env : List Binding) (n : ℕ) (σ : Store) (r : TRight) → right_run names [] call' home env n (bare σ) r ≡ bare_out (right_run names regions call_of home env n σ r)
  right_bare env n σ (right_value e) =
      ap (λ g. with_value g n (bare σ) (λ v. Returned v (bare σ))) (value_bare env σ e) ∙ with_value_bare (value_of env σ e) n σ (λ v. Returned v σ) (λ v. Returned v (bare σ)) (λ v. refl)
  right_bare env n σ (right_sense s) = sense_bare (number_in names.sensors s) σ.left σ
  right_bare env n σ (right_call c) = call_bare env n σ c

  taken_bare : (env : List Binding) (k : TKind) (σ : Store) → use_samples env k (bare σ) ≡ use_samples env k σ
  taken_bare env k σ = fresh_bare env σ _

  assign_bare : (env : List Binding) (n : ℕ) (x : Text) (r : TRight) (σ : Store)
      → with_result (right_run names [] call' home env n (bare σ) r) (λ v τ. Went (put τ (place_of env x) (replaced (held_at τ (place_of env x)) v)))
      ≡ bare_out (with_result (right_run names regions call_of home env n σ r) (λ v τ. Went (put τ (place_of env x) (replaced (held_at τ (place_of env x)) v))))
  assign_bare env n x r σ =
      let p = place_of env x in
      let f : Value → Store → Outcome = λ v τ. Went (put τ p (replaced (held_at τ p) v)) in
      ap (λ o. with_result o f) (right_bare env n σ r)
      ∙ result_bare (right_run names regions call_of home env n σ r) f f
      (λ v τ. ap (λ h. Went (put (bare τ) p (replaced h v))) (held_bare τ p) ∙ ap Went (put_bare τ p (replaced (held_at τ p) v)))

  stmt_bare : (env : List Binding) (n line : ℕ) (k : TKind) (rest : TStmts) (σ : Store)
      → ((τ : Store) → kind_run names [] call' home env n k (bare τ) ≡ bare_out (kind_run names regions call_of home env n k τ))
      → ((env' : List Binding) (τ : Store) → stmts_run names [] call' home env' rest (bare τ) ≡ bare_out (stmts_run names regions call_of home env' rest τ))
      → stmts_run names [] call' home env (more (stmt n line k) rest) (bare σ) ≡ bare_out (stmts_run names regions call_of home env (more (stmt n line k) rest) σ)
  stmt_bare env n line k rest σ kr sr =
      ap (λ s. then_do (finished (λ τ. done (ends_use (is_fresh env) k) n s τ) (kind_run names [] call' home env n k (used (begins_use (is_fresh env) k) n s (bare σ))))
      (stmts_run names [] call' home (grown k rest env (bare σ)) rest)) (taken_bare env k σ)
      ∙ ap (λ τ. then_do (finished (λ τ. done d n set τ) (kind_run names [] call' home env n k τ)) after') (ap (used u n set) (sym (opened_bare b σ)) ∙ used_bare u n set (opened b σ))
      ∙ ap (λ o. then_do (finished (λ τ. done d n set τ) o) after') (kr (used u n set (opened b σ)))
      ∙ ap (λ o. then_do o after') (finished_bare (kind_run names regions call_of home env n k (used u n set (opened b σ))) (λ τ. closed e (done d n set τ)) (λ τ. done d n set τ)
      (λ τ. done_bare d n set τ ∙ sym (closed_bare e (done d n set τ))))
      ∙ then_bare (finished (λ τ. closed e (done d n set τ)) (kind_run names regions call_of home env n k (used u n set (opened b σ))))
      (stmts_run names regions call_of home (grown k rest env σ) rest) after' (λ τ. ap (λ env'. stmts_run names [] call' home env' rest (bare τ)) (grown_bare k rest env σ)
      ∙ sr (grown k rest env σ) τ)
    where
      b : Option ℕ
      b = begun_by regions n

      e : Option ℕ
      e = ended_by regions n

      u : Bool
      u = begins_use (is_fresh env) k

      d : Bool
      d = ends_use (is_fresh env) k

      set : List ℕ
      set = use_samples env k σ

      after' : Store → Outcome
      after' = stmts_run names [] call' home (grown k rest env (bare σ)) rest

  mutual
    kind_bare : (env : List Binding) (n : ℕ) (k : TKind) (σ : Store) → kind_run names [] call' home env n k (bare σ) ≡ bare_out (kind_run names regions call_of home env n k σ)
    kind_bare env n (let_to m x t r) σ =
        ap (λ o. with_result o (λ v τ. Went (made (holding v) τ))) (right_bare env n σ r)
        ∙ result_bare (right_run names regions call_of home env n σ r) (λ v τ. Went (made (holding v) τ)) (λ v τ. Went (made (holding v) τ)) (λ v τ. refl)
    kind_bare env n (let_array m x t z c) σ = refl
    kind_bare env n (assign x r) σ = assign_bare env n x r σ
    kind_bare env n (assign_index x e r) σ =
        let p = place_of env x in
        let f : Value → Store → Outcome = λ v τ. with_value (value_of env τ e) n τ (λ i. element_written p (element_of (length (held_at τ p).words) i.num) i v n τ) in
        ap (λ o. with_result o f) (right_bare env n σ r)
        ∙ result_bare (right_run names regions call_of home env n σ r) f f
        (λ v τ. ap (λ g. with_value g n (bare τ) (λ i. element_written p (element_of (length (held_at (bare τ) p).words) i.num) i v n (bare τ))) (value_bare env τ e)
        ∙ with_value_bare (value_of env τ e) n τ (λ i. element_written p (element_of (length (held_at τ p).words) i.num) i v n τ)
        (λ i. element_written p (element_of (length (held_at (bare τ) p).words) i.num) i v n (bare τ))
        (λ i. ap (λ h. element_written p (element_of (length h.words) i.num) i v n (bare τ)) (held_bare τ p) ∙ element_bare p (element_of (length (held_at τ p).words) i.num) i v n τ))
    kind_bare env n (assign_deref x r) σ = assign_bare env n x r σ
    kind_bare env n (if_else c a b) σ =
        ap (λ g. with_value g n (bare σ) (λ v. if is_zero v.num then else_run names [] call' home env b (bare σ) else block_run names [] call' home env a (bare σ))) (value_bare env σ c)
        ∙ with_value_bare (value_of env σ c) n σ (λ v. if is_zero v.num then else_run names regions call_of home env b σ else block_run names regions call_of home env a σ)
        (λ v. if is_zero v.num then else_run names [] call' home env b (bare σ) else block_run names [] call' home env a (bare σ))
        (λ v. either (is_zero v.num) _ _ _ _ (else_bare env b σ) (block_bare env a σ))
    kind_bare env n (for_in x c d b) σ =
        for_bare (count_of (d -ℤ c)) c (λ i. block_run names regions call_of home (in_turn x i ∷ env) b) (λ i. block_run names [] call' home (in_turn x i ∷ env) b) σ
        (λ i τ. block_bare (in_turn x i ∷ env) b τ)
    kind_bare env n (while_do c t b) σ =
        while_bare t n (is_use (is_fresh env) (while_do c t b)) (use_samples env (while_do c t b)) (λ τ. value_of env τ c) (block_run names regions call_of home env b)
        (block_run names [] call' home env b) [] σ
        (λ τ. taken_bare env (while_do c t b) τ) (λ τ. value_bare env τ c) (λ τ. block_bare env b τ)
    kind_bare env n (call_only c) σ = ap dropped (call_bare env n σ c) ∙ dropped_bare (call_run names regions call_of home env n σ c)
    kind_bare env n (sense_only s) σ = ap dropped (sense_bare (number_in names.sensors s) σ.left σ) ∙ dropped_bare (sense (number_in names.sensors s) σ.left σ)
    kind_bare env n (emit p e) σ =
        let f : Store → Value → Outcome = λ τ v. Went (noted (Showed (Emitted (number_in names.ports p) v.num)) v.samples τ) in
        ap (λ g. with_value g n (bare σ) (f (bare σ))) (value_bare env σ e) ∙ with_value_bare (value_of env σ e) n σ (f σ) (f (bare σ)) (λ v. refl)
    kind_bare env n (fresh x) σ = refl
    kind_bare env n (consistent x k) σ = ap (λ h. Went (tagged (home k) n h.samples (bare σ))) (held_bare σ (place_of env x))
    kind_bare env n (return e) σ =
        let is = is_use (is_fresh env) (return e) in
        let f : Value → Outcome = λ v. Returned v (closed (ended_by regions n) (done is n (use_samples env (return e) σ) σ)) in
        let f' : Value → Outcome = λ v. Returned v (done is n (use_samples env (return e) (bare σ)) (bare σ)) in
        ap (λ g. with_value g n (bare σ) f') (value_bare env σ e)
        ∙ with_value_bare (value_of env σ e) n σ f f'
        (λ v. ap (λ s. Returned v (done is n s (bare σ))) (taken_bare env (return e) σ)
        ∙ ap (Returned v) (done_bare is n (use_samples env (return e) σ) σ ∙ sym (closed_bare (ended_by regions n) (done is n (use_samples env (return e) σ) σ))))

    else_bare : (env : List Binding) (b : TElse) (σ : Store) → else_run names [] call' home env b (bare σ) ≡ bare_out (else_run names regions call_of home env b σ)
    else_bare env no_else σ = refl
    else_bare env (else_do b) σ = block_bare env b σ

    block_bare : (env : List Binding) (b : TBlock) (σ : Store) → block_run names [] call' home env b (bare σ) ≡ bare_out (block_run names regions call_of home env b σ)
    block_bare env (block id ss) σ = ap (leave (length σ.locals)) (stmts_bare env ss (entered id σ)) ∙ leave_bare (length σ.locals) (stmts_run names regions call_of home env ss (entered id σ))

    stmts_bare : (env : List Binding) (ss : TStmts) (σ : Store) → stmts_run names [] call' home env ss (bare σ) ≡ bare_out (stmts_run names regions call_of home env ss σ)
    stmts_bare env no_stmts σ = refl
    stmts_bare env (more (stmt n line k) rest) σ = stmt_bare env n line k rest σ (λ τ. kind_bare env n k τ) (λ env' τ. stmts_bare env' rest τ)

calls_bare : (p : TProgram) (regions : List TRegion) (d : ℕ) (f : Text) (ps : List Passed) (σ : Store) → call_to p [] d f ps (bare σ) ≡ bare_out (call_to p regions d f ps σ)
calls_bare p regions zero f ps σ = refl
calls_bare p regions (suc d) f ps σ = go (function_named p.functions f) (λ f' ps' σ'. calls_bare p regions d f' ps' σ')
  where
    go : (o : Option TFunction) → ((f : Text) (ps : List Passed) (σ : Store) → call_to p [] d f ps (bare σ) ≡ bare_out (call_to p regions d f ps σ))
        → function_run p [] (call_to p [] d) o ps (bare σ) ≡ bare_out (function_run p regions (call_to p regions d) o ps σ)
    go None calls = refl
    go (Some g) calls =
        let fr = with_params g.params ps (record { env = nv_env 0 p.names.nvs; locals = σ.locals }) in
        ap (leave (length σ.locals)) (block_bare p.names regions (call_to p regions d) (call_to p [] d) (set_home g.body) calls fr.env g.body (record σ { locals = fr.locals }))
        ∙ leave_bare (length σ.locals) (block_run p.names regions (call_to p regions d) (set_home g.body) fr.env g.body (record σ { locals = fr.locals }))

unmarked-append : (a b : List Event) → unmarked (a ++ b) ≡ unmarked a ++ unmarked b
unmarked-append [] b = refl
unmarked-append (e ∷ a) b = go (is_mark e.said) (unmarked-append a b)
  where
    go : (m : Bool) → unmarked (a ++ b) ≡ unmarked a ++ unmarked b → (if m then unmarked (a ++ b) else e ∷ unmarked (a ++ b)) ≡ (if m then unmarked a else e ∷ unmarked a) ++ unmarked b
    go true h = h
    go false h = ap (λ l. e ∷ l) h

in_order_bare : (es : List Event) → in_order (unmarked es) ≡ unmarked (in_order es)
in_order_bare [] = refl
in_order_bare (e ∷ es) = go (is_mark e.said) refl (in_order_bare es) ∙ sym (unmarked-append (in_order es) (e ∷ []))
  where
    go : (m : Bool) → is_mark e.said ≡ m → in_order (unmarked es) ≡ unmarked (in_order es) → in_order (if m then unmarked es else e ∷ unmarked es)
        ≡ unmarked (in_order es) ++ (if m then [] else e ∷ [])
    go true p h = h ∙ sym (append-nil (unmarked (in_order es)))
    go false p h = ap (λ l. l ++ e ∷ []) h

trace_bare : (o : Outcome) → trace_of (bare_out o) ≡ without_marks (trace_of o)
trace_bare (Went σ) = ap (λ es. record { events = es; ending = AtEnd; nv = words_of σ.nv }) (in_order_bare (noted (Ended Halted) [] σ).events)
trace_bare (Returned v σ) = ap (λ es. record { events = es; ending = AtEnd; nv = words_of σ.nv }) (in_order_bare (noted (Ended Halted) [] σ).events)
trace_bare (Stopped Trap σ) = ap (λ es. record { events = es; ending = AtTrap; nv = words_of σ.nv }) (in_order_bare σ.events)
trace_bare (Stopped Short σ) = ap (λ es. record { events = es; ending = AtShort; nv = words_of σ.nv }) (in_order_bare σ.events)

pub only_tell : MarksOnlyTell
only_tell p regions samples =
    sym (ap trace_of (calls_bare p regions (suc (length p.functions)) (codes "main") [] (first_store p samples)) ∙ trace_bare (main_run p regions samples))
