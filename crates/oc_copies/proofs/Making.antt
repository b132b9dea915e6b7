-- How many variables runs leave.
use Rattle.std.proofs.Common.{◌≡◌, ◌≤◌, ℕ, zero, suc, ◌+◌, ◌-◌, Bool, true, false, List, [], ◌∷◌, length, Option, Some, None, refl, ap, sym, ◌∙◌, subst, arith}
use Rattle.std.specs.Prelude.{ℤ, pos, ◌+ℤ◌, ◌-ℤ◌, if◌then◌else◌}
use Rattle.oc_tree.specs.Names.{Text, NameLists}
use Rattle.oc_tree.specs.Tree.{TCall, call, TRight, right_value, right_sense, right_call, TKind, let_to, let_array, assign, assign_index, assign_deref, if_else, for_in, while_do}
use Rattle.oc_tree.specs.Tree.{call_only, sense_only, emit, fresh, consistent, return, TElse, no_else, else_do, stmt, TBlock, block, TStmts, no_stmts, more, TFunction, TProgram}
use Rattle.oc_tree.specs.declared.tree.Param.{Param}
use Rattle.oc_tree.specs.Marked.{TRegion}
use Rattle.oc_tree.specs.declared.said.TrapKind.{TrapKind}
use Rattle.oc_tree.specs.declared.said.TrapKind.TheVariants as traps
use Rattle.oc_tree.specs.Weight.{count_of}
use Rattle.oc_tree.specs.Samples.{union}
use Rattle.oc_meaning.specs.Blocks.{set_home}
use Rattle.oc_meaning.specs.Store.{Value, Held, Place, Local, Global, Turn, Nowhere, Store, Binding, held_at, put, made, holding, place_of}
use Rattle.oc_meaning.specs.Eval.{Got, Val, Traps, is_zero, element_of, value_of}
use Rattle.oc_meaning.specs.Uses.{is_fresh, is_use, use_samples, begins_use, ends_use}
use Rattle.oc_meaning.specs.Exec.{begun_by, ended_by, Outcome, Went, Returned, Stopped, Passed, Copied, Lent, Passing as Given, Passes, Breaks, number_in, trapped, with_value}
use Rattle.oc_meaning.specs.Exec.{then_do, with_result, leave, opened, closed, used, done, finished, sense, args_of, with_args, element_written, for_turns, while_turns}
use Rattle.oc_meaning.specs.Exec.{in_turn, grown, entered, call_run, right_run, kind_run, else_run, block_run, stmts_run}
use Rattle.oc_meaning.specs.Run.{Frame, with_param, with_params, function_named, nv_env, function_run, call_to}
use Rattle.oc_copies.specs.Stands.{IsBehind, Makes, makes, CallsMakeNone, OwnRunsMakeNone, StatementsMake}
use Rattle.oc_copies.specs.Copies.{own_frame}
use Rattle.oc_copies.proofs.Cells.{drop_length, put_locals, put_nv}

-- ---- stores

pub behind_same : (σ τ : Store) → τ.locals ≡ σ.locals → τ.nv ≡ σ.nv → σ.taken ≤ τ.taken → IsBehind 0 σ τ
behind_same σ τ l n t = record { locals = (let e : length τ.locals ≡ length σ.locals = ap length l in omega (arith, e)); nv = ap length n; taken = t }

itself : (σ : Store) → IsBehind 0 σ σ
itself σ = behind_same σ σ refl refl (omega arith)

behind_on : (m n : ℕ) (σ τ υ : Store) → IsBehind m σ τ → IsBehind n τ υ → IsBehind (m + n) σ υ
behind_on m n σ τ υ a b = record { locals = (let x = a.locals in let y = b.locals in omega (arith, x, y)); nv = b.nv ∙ a.nv; taken = (let x = a.taken in let y = b.taken in omega (arith, x, y)) }

behind_is : (m n : ℕ) (σ τ : Store) → m ≡ n → IsBehind m σ τ → IsBehind n σ τ
behind_is m n σ τ e h = subst (λ k. IsBehind k σ τ) e h

opened_on : (o : Option ℕ) (σ : Store) → IsBehind 0 σ (opened o σ)
opened_on None σ = itself σ
opened_on (Some r) σ = behind_same σ _ refl refl (omega arith)

closed_on : (o : Option ℕ) (σ : Store) → IsBehind 0 σ (closed o σ)
closed_on None σ = itself σ
closed_on (Some r) σ = behind_same σ _ refl refl (omega arith)

used_on : (b : Bool) (n : ℕ) (s : List ℕ) (σ : Store) → IsBehind 0 σ (used b n s σ)
used_on true n s σ = behind_same σ _ refl refl (omega arith)
used_on false n s σ = itself σ

done_on : (b : Bool) (n : ℕ) (s : List ℕ) (σ : Store) → IsBehind 0 σ (done b n s σ)
done_on true n s σ = behind_same σ _ refl refl (omega arith)
done_on false n s σ = itself σ

put_taken : (σ : Store) (q : Place) (h : Held) → (put σ q h).taken ≡ σ.taken
put_taken σ (Local l) h = refl
put_taken σ (Global g) h = refl
put_taken σ (Turn z) h = refl
put_taken σ Nowhere h = refl

put_on : (σ : Store) (q : Place) (h : Held) → IsBehind 0 σ (put σ q h)
put_on σ q h = record { locals = (let e = put_locals σ q h in omega (arith, e)); nv = put_nv σ q h; taken = (let e = put_taken σ q h in omega (arith, e)) }

made_on : (σ : Store) (h : Held) → IsBehind 1 σ (made h σ)
made_on σ h = record { locals = omega arith; nv = refl; taken = omega arith }

-- ---- outcomes

-- from an earlier store
makes_from : (m : ℕ) (σ τ : Store) (o : Outcome) → IsBehind 0 σ τ → Makes m τ o → Makes m σ o
makes_from m σ τ (Went υ) h k = behind_is (0 + m) m σ υ (omega arith) (behind_on 0 m σ τ υ h k)
makes_from m σ τ (Returned v υ) h k = behind_on 0 0 σ τ υ h k
makes_from m σ τ (Stopped s υ) h k = let x = h.taken in omega (arith, x, k)

then_makes : (m : ℕ) (σ : Store) (o : Outcome) (f : Store → Outcome) → Makes 0 σ o → ((τ : Store) → Makes m τ (f τ)) → Makes m σ (then_do o f)
then_makes m σ (Went τ) f h k = makes_from m σ τ (f τ) h (k τ)
then_makes m σ (Returned v τ) f h k = h
then_makes m σ (Stopped s τ) f h k = h

result_makes : (m : ℕ) (σ : Store) (o : Outcome) (f : Value → Store → Outcome) → Makes 0 σ o → ((v : Value) (τ : Store) → Makes m τ (f v τ)) → Makes m σ (with_result o f)
result_makes m σ (Went τ) f h k = makes_from m σ τ (f _ τ) h (k _ τ)
result_makes m σ (Returned v τ) f h k = makes_from m σ τ (f v τ) h (k v τ)
result_makes m σ (Stopped s τ) f h k = h

trap_makes : (m : ℕ) (t : TrapKind) (n : ℕ) (σ : Store) → Makes m σ (trapped t n σ)
trap_makes m t n σ = omega arith

value_makes : (m : ℕ) (g : Got) (n : ℕ) (σ : Store) (f : Value → Outcome) → ((v : Value) → Makes m σ (f v)) → Makes m σ (with_value g n σ f)
value_makes m (Val v) n σ f k = k v
value_makes m (Traps t) n σ f k = trap_makes m t n σ

either_makes : (m : ℕ) (σ : Store) (b : Bool) (o q : Outcome) → Makes m σ o → Makes m σ q → Makes m σ (if b then o else q)
either_makes m σ true o q h k = h
either_makes m σ false o q h k = k

finished_makes : (m : ℕ) (σ : Store) (o : Outcome) (f : Store → Store) → Makes m σ o → ((τ : Store) → IsBehind 0 τ (f τ)) → Makes m σ (finished f o)
finished_makes m σ (Went τ) f h k = behind_is (m + 0) m σ (f τ) (omega arith) (behind_on m 0 σ τ (f τ) h (k τ))
finished_makes m σ (Returned v τ) f h k = h
finished_makes m σ (Stopped s τ) f h k = h

sense_makes : (s : ℕ) (zs : List ℤ) (σ : Store) → Makes 0 σ (sense s zs σ)
sense_makes s [] σ = omega arith
sense_makes s (z ∷ zs) σ = behind_same σ _ refl refl (omega arith)

element_makes : (q : Place) (o : Option ℕ) (i v : Value) (n : ℕ) (σ : Store) → Makes 0 σ (element_written q o i v n σ)
element_makes q None i v n σ = trap_makes 0 traps.Index n σ
element_makes q (Some e) i v n σ = put_on σ q _

args_make : (g : Given) (n : ℕ) (σ : Store) (f : List Passed → Outcome) → ((ps : List Passed) → Makes 0 σ (f ps)) → Makes 0 σ (with_args g n σ f)
args_make (Passes ps) n σ f k = k ps
args_make (Breaks t) n σ f k = trap_makes 0 t n σ

for_makes : (t : ℕ) (i : ℤ) (f : ℤ → Store → Outcome) (σ : Store) → ((i : ℤ) (σ : Store) → Makes 0 σ (f i σ)) → Makes 0 σ (for_turns t i f σ)
for_makes zero i f σ k = itself σ
for_makes (suc t) i f σ k = then_makes 0 σ (f i σ) (for_turns t (i +ℤ pos 1) f) (k i σ) (λ τ. for_makes t (i +ℤ pos 1) f τ k)

while_makes : (t n : ℕ) (uses : Bool) (s : Store → List ℕ) (c : Store → Got) (f : Store → Outcome) (before : List ℕ) (σ : Store) → ((σ : Store) → Makes 0 σ (f σ)) →
    Makes 0 σ (while_turns t n uses s c f before σ)
while_makes zero n uses s c f before σ k = done_on uses n before σ
while_makes (suc t) n uses s c f before σ k =
    makes_from 0 σ (used uses n (s σ) σ) (while_turns (suc t) n uses s c f before σ) (used_on uses n (s σ) σ)
    (value_makes 0 (c (used uses n (s σ) σ)) n (used uses n (s σ) σ) _ (λ v.
    either_makes 0 (used uses n (s σ) σ) (is_zero v.num) (Went (done uses n (union before (s σ)) (used uses n (s σ) σ))) _
    (done_on uses n (union before (s σ)) (used uses n (s σ) σ))
    (then_makes 0 (used uses n (s σ) σ) (f (used uses n (s σ) σ)) _ (k (used uses n (s σ) σ)) (λ τ. while_makes t n uses s c f (union before (s σ)) τ k))))

-- ---- blocks

-- at least so many are there
abbrev pub KeepsAll : Store → Outcome → Type 0
KeepsAll σ (Went τ) = (length σ.locals ≤ length τ.locals) × (length τ.nv ≡ length σ.nv) × (σ.taken ≤ τ.taken)
KeepsAll σ (Returned v τ) = (length σ.locals ≤ length τ.locals) × (length τ.nv ≡ length σ.nv) × (σ.taken ≤ τ.taken)
KeepsAll σ (Stopped s τ) = σ.taken ≤ τ.taken

keeps_left : (n : ℕ) (σ : Store) (o : Outcome) → n ≤ length σ.locals → KeepsAll σ o → (ρ : Store) → length ρ.locals ≡ n → length ρ.nv ≡ length σ.nv → ρ.taken ≡ σ.taken → Makes 0 ρ (leave n o)
keeps_left n σ (Went τ) few h ρ l v t =
    record { locals = (let x = drop_length τ.locals (length τ.locals - n) in let y = h.0 in omega (arith, x, y, few, l)); nv = h.1 ∙ sym v; taken = (let y = h.2 in omega (arith, y, t)) }
keeps_left n σ (Returned w τ) few h ρ l v t =
    record { locals = (let x = drop_length τ.locals (length τ.locals - n) in let y = h.0 in omega (arith, x, y, few, l)); nv = h.1 ∙ sym v; taken = (let y = h.2 in omega (arith, y, t)) }
keeps_left n σ (Stopped s τ) few h ρ l v t = omega (arith, h, t)

keeps_on : (m : ℕ) (σ : Store) (o : Outcome) (f : Store → Outcome) → Makes m σ o → ((τ : Store) → KeepsAll τ (f τ)) → KeepsAll σ (then_do o f)
keeps_on m σ (Went τ) f h k = by (f τ) (k τ)
  where
    by : (q : Outcome) → KeepsAll τ q → KeepsAll σ q
    by (Went υ) g = ((let x = h.locals in let y = g.0 in omega (arith, x, y)), g.1 ∙ h.nv, (let x = h.taken in let y = g.2 in omega (arith, x, y)))
    by (Returned v υ) g = ((let x = h.locals in let y = g.0 in omega (arith, x, y)), g.1 ∙ h.nv, (let x = h.taken in let y = g.2 in omega (arith, x, y)))
    by (Stopped s υ) g = let x = h.taken in omega (arith, x, g)
keeps_on m σ (Returned v τ) f h k = ((let x = h.locals in omega (arith, x)), h.nv, h.taken)
keeps_on m σ (Stopped s τ) f h k = h

module _ (names : NameLists) (regions : List TRegion) (call_of : Text → List Passed → Store → Outcome) (home : ℤ → ℕ)
    (calls : (f : Text) (ps : List Passed) (σ : Store) → Makes 0 σ (call_of f ps σ)) where
  call_makes : (env : List Binding) (n : ℕ) (σ : Store) (c : TCall) → Makes 0 σ (call_run names regions call_of home env n σ c)
  call_makes env n σ (call f args) = args_make (args_of env σ args) n σ (λ ps. call_of f ps σ) (λ ps. calls f ps σ)

  right_makes : (env : List Binding) (n : ℕ) (σ : Store) (r : TRight) → Makes 0 σ (right_run names regions call_of home env n σ r)
  right_makes env n σ (right_value e) = value_makes 0 (value_of env σ e) n σ (λ v. Returned v σ) (λ v. itself σ)
  right_makes env n σ (right_sense s) = sense_makes (number_in names.sensors s) σ.left σ
  right_makes env n σ (right_call c) = call_makes env n σ c

  mutual
    pub kind_makes : (env : List Binding) (n : ℕ) (k : TKind) (σ : Store) → Makes (makes k) σ (kind_run names regions call_of home env n k σ)
    kind_makes env n (let_to m x t r) σ = result_makes 1 σ (right_run names regions call_of home env n σ r) _ (right_makes env n σ r) (λ v τ. made_on τ (holding v))
    kind_makes env n (let_array m x t z c) σ = made_on σ _
    kind_makes env n (assign x r) σ = result_makes 0 σ (right_run names regions call_of home env n σ r) _ (right_makes env n σ r) (λ v τ. put_on τ (place_of env x) _)
    kind_makes env n (assign_index x e r) σ =
        result_makes 0 σ (right_run names regions call_of home env n σ r) _ (right_makes env n σ r)
        (λ v τ. value_makes 0 (value_of env τ e) n τ _ (λ i. element_makes (place_of env x) (element_of (length (held_at τ (place_of env x)).words) i.num) i v n τ))
    kind_makes env n (assign_deref x r) σ = result_makes 0 σ (right_run names regions call_of home env n σ r) _ (right_makes env n σ r) (λ v τ. put_on τ (place_of env x) _)
    kind_makes env n (if_else c a b) σ =
        value_makes 0 (value_of env σ c) n σ _ (λ v. either_makes 0 σ (is_zero v.num) (else_run names regions call_of home env b σ) _ (else_makes env b σ) (block_makes env a σ))
    kind_makes env n (for_in x c d b) σ = for_makes (count_of (d -ℤ c)) c _ σ (λ i τ. block_makes (in_turn x i ∷ env) b τ)
    kind_makes env n (while_do c t b) σ =
        while_makes t n (is_use (is_fresh env) (while_do c t b)) (use_samples env (while_do c t b)) (λ τ. value_of env τ c) (block_run names regions call_of home env b) [] σ (λ τ. block_makes env b τ)
    kind_makes env n (call_only c) σ = result_makes 0 σ (call_run names regions call_of home env n σ c) _ (call_makes env n σ c) (λ v τ. itself τ)
    kind_makes env n (sense_only q) σ = result_makes 0 σ (sense (number_in names.sensors q) σ.left σ) _ (sense_makes (number_in names.sensors q) σ.left σ) (λ v τ. itself τ)
    kind_makes env n (emit q e) σ = value_makes 0 (value_of env σ e) n σ _ (λ v. behind_same σ _ refl refl (omega arith))
    kind_makes env n (fresh x) σ = itself σ
    kind_makes env n (consistent x k) σ = behind_same σ _ refl refl (omega arith)
    kind_makes env n (return e) σ =
        value_makes 0 (value_of env σ e) n σ _ (λ v. behind_on 0 0 σ _ _ (done_on (is_use (is_fresh env) (return e)) n (use_samples env (return e) σ) σ) (closed_on (ended_by regions n) _))

    else_makes : (env : List Binding) (b : TElse) (σ : Store) → Makes 0 σ (else_run names regions call_of home env b σ)
    else_makes env no_else σ = itself σ
    else_makes env (else_do b) σ = block_makes env b σ

    pub block_makes : (env : List Binding) (b : TBlock) (σ : Store) → Makes 0 σ (block_run names regions call_of home env b σ)
    block_makes env (block id ss) σ =
        keeps_left (length σ.locals) (entered id σ) (stmts_run names regions call_of home env ss (entered id σ)) (omega arith) (stmts_make env ss (entered id σ)) σ refl refl refl

    stmts_make : (env : List Binding) (ss : TStmts) (σ : Store) → KeepsAll σ (stmts_run names regions call_of home env ss σ)
    stmts_make env no_stmts σ = (omega arith, refl, omega arith)
    stmts_make env (more (stmt n line k) rest) σ =
        keeps_on (makes k) σ _ (stmts_run names regions call_of home (grown k rest env σ) rest)
        (finished_makes (makes k) σ _ _ (makes_from (makes k) σ (used (begins_use (is_fresh env) k) n (use_samples env k σ) (opened (begun_by regions n) σ)) _
        (behind_on 0 0 σ (opened (begun_by regions n) σ) _ (opened_on (begun_by regions n) σ) (used_on (begins_use (is_fresh env) k) n (use_samples env k σ) (opened (begun_by regions n) σ)))
        (kind_makes env n k (used (begins_use (is_fresh env) k) n (use_samples env k σ) (opened (begun_by regions n) σ))))
        (λ τ. behind_on 0 0 τ _ _ (done_on (ends_use (is_fresh env) k) n (use_samples env k σ) τ) (closed_on (ended_by regions n) _)))
        (λ τ. stmts_make (grown k rest env σ) rest τ)

-- ---- calls

params_more : (qs : List Param) (ps : List Passed) (fr : Frame) → length fr.locals ≤ length (with_params qs ps fr).locals
params_more [] ps fr = omega arith
params_more (q ∷ qs) [] fr = omega arith
params_more (q ∷ qs) (Copied v ∷ ps) fr = let r = params_more qs ps (with_param q.name (Copied v) fr) in omega (arith, r)
params_more (q ∷ qs) (Lent a ∷ ps) fr = params_more qs ps (with_param q.name (Lent a) fr)

keeps_made : (σ : Store) (o : Outcome) → Makes 0 σ o → KeepsAll σ o
keeps_made σ (Went τ) h = ((let x = h.locals in omega (arith, x)), h.nv, h.taken)
keeps_made σ (Returned v τ) h = ((let x = h.locals in omega (arith, x)), h.nv, h.taken)
keeps_made σ (Stopped s τ) h = h

module _ (p : TProgram) (regions : List TRegion) where
  function_makes : (call_of : Text → List Passed → Store → Outcome) → ((f : Text) (ps : List Passed) (σ : Store) → Makes 0 σ (call_of f ps σ)) → (o : Option TFunction) (ps : List Passed) (σ : Store) →
      Makes 0 σ (function_run p regions call_of o ps σ)
  function_makes call_of calls None ps σ = itself σ
  function_makes call_of calls (Some g) ps σ =
      let fr : Frame = with_params g.params ps (record { env = nv_env 0 p.names.nvs; locals = σ.locals }) in
      let many : length σ.locals ≤ length fr.locals = params_more g.params ps (record { env = nv_env 0 p.names.nvs; locals = σ.locals }) in
      keeps_left (length σ.locals) (record σ { locals = fr.locals }) (block_run p.names regions call_of (set_home g.body) fr.env g.body (record σ { locals = fr.locals })) many
      (keeps_made (record σ { locals = fr.locals }) (block_run p.names regions call_of (set_home g.body) fr.env g.body (record σ { locals = fr.locals }))
      (block_makes p.names regions call_of (set_home g.body) calls fr.env g.body (record σ { locals = fr.locals })))
      σ refl refl refl

  pub calls_make : (d : ℕ) (x : Text) (ps : List Passed) (σ : Store) → Makes 0 σ (call_to p regions d x ps σ)
  calls_make zero x ps σ = itself σ
  calls_make (suc d) x ps σ = function_makes (call_to p regions d) (calls_make d) (function_named p.functions x) ps σ

pub calls_make_none : CallsMakeNone
calls_make_none p regions depth x ps σ = calls_make p regions depth x ps σ

pub statements_make : StatementsMake
statements_make p regions depth home env n k σ = kind_makes p.names regions (call_to p regions depth) home (calls_make p regions depth) env n k σ

pub own_runs_make_none : OwnRunsMakeNone
own_runs_make_none p regions depth g ps σ =
    block_makes p.names regions (call_to p regions depth) (set_home g.body) (calls_make p regions depth) (own_frame p g ps σ).env g.body (record σ { locals = (own_frame p g ps σ).locals })
