-- Where a region is open, a call tells no mark.
use Rattle.std.proofs.Common.{◌≡◌, ℕ, zero, suc, ◌+◌, ◌<◌, ◌≤◌, ◌==◌, Bool, true, false, List, [], ◌∷◌, length, Option, Some, None, refl, ap, sym, subst, arith}
use Rattle.std.specs.Prelude.{ℤ, pos, ◌+ℤ◌, ◌-ℤ◌, if◌then◌else◌}
use Rattle.std.proofs.lemmas.Bool.{ne_eqb}
use Rattle.oc_tree.specs.Names.{Text, NameLists}
use Rattle.oc_tree.specs.Tree.{TCall, call, TRight, right_value, right_sense, right_call, TKind, let_to, let_array, assign, assign_index, assign_deref, if_else, for_in, while_do}
use Rattle.oc_tree.specs.Tree.{call_only, sense_only, emit, fresh, consistent, return, TElse, no_else, else_do, stmt, TBlock, block, TStmts, no_stmts, more, TFunction, TProgram}
use Rattle.oc_tree.specs.Marked.{TRegion}
use Rattle.oc_tree.specs.declared.said.TrapKind.{TrapKind}
use Rattle.oc_tree.specs.declared.said.TrapKind.TheVariants as traps
use Rattle.oc_tree.specs.declared.said.Said.TheVariants.{Entered, Committed}
use Rattle.oc_tree.specs.Weight.{count_of}
use Rattle.oc_tree.specs.Samples.{union}
use Rattle.oc_meaning.specs.Blocks.{set_home}
use Rattle.oc_meaning.specs.Store.{Value, Held, Place, Local, Global, Turn, Nowhere, Event, Store, Binding, held_at, put, place_of, happened}
use Rattle.oc_meaning.specs.Eval.{Got, Val, Traps, is_zero, element_of, value_of}
use Rattle.oc_meaning.specs.Uses.{is_fresh, is_use, use_samples, begins_use, ends_use}
use Rattle.oc_meaning.specs.Exec.{begun_by, ended_by, Outcome, Went, Returned, Stopped, Passed, Passing as Given, Passes, Breaks, number_in, trapped, with_value, then_do}
use Rattle.oc_meaning.specs.Exec.{with_result, leave, told_if, opened, closed, used, done, finished, sense, args_of, with_args, element_written, for_turns, while_turns}
use Rattle.oc_meaning.specs.Exec.{in_turn, grown, entered, call_run, right_run, kind_run, else_run, block_run, stmts_run}
use Rattle.oc_meaning.specs.Cuts.{events_in}
use Rattle.oc_meaning.specs.Run.{Frame, with_params, function_named, nv_env, function_run, call_to}
use Rattle.oc_timely.specs.Enough.{next_mode}
use Rattle.oc_timely.specs.Modes.{IsStep, PairedKind, PairedElse, PairedBlock, PairedStmts}
use Rattle.oc_timely.specs.Sets.{IsNoMark, AddsNoMarks, InsideTellsNone}
use Rattle.oc_timely.proofs.Inside.{count_open}

-- it may close a region by itself
abbrev pub IsReturn : TKind → Type 0
IsReturn (return e) = Unit {0}
IsReturn k = ⊥

module _ (es : List Event) where
  -- so many regions are open at least, and no mark was told
  pub record Deep (d : ℕ) (σ : Store) : Type 0 where
    pub deep : d ≤ σ.depth
    pub adds : AddsNoMarks es σ.events

  -- a statement that goes through leaves `d` open, one that returns `r`
  abbrev pub Quiet : (r d : ℕ) → Outcome → Type 0
  Quiet r d (Went τ) = Deep d τ
  Quiet r d (Returned v τ) = Deep r τ
  Quiet r d (Stopped s τ) = AddsNoMarks es τ.events

  less : (d k : ℕ) (σ : Store) → k ≤ d → Deep d σ → Deep k σ
  less d k σ l h = record { deep = (let a = h.deep in omega (arith, a, l)); adds = h.adds }

  told : (d : ℕ) (e : Event) (σ : Store) → IsNoMark e.said → Deep d σ → Deep d (happened e σ)
  told d e σ n h = record { deep = h.deep; adds = (e ∷ h.adds.0, ap (λ l. e ∷ l) h.adds.1, (n, h.adds.2)) }

  pub quiet_opened : (d : ℕ) (o : Option ℕ) (σ : Store) → 0 < d → Deep d σ → Deep (d + count_open o) (opened o σ)
  quiet_opened d None σ l h = less d (d + 0) σ (omega arith) h
  quiet_opened d (Some r) σ l h =
      let a = h.deep in
      let e : (σ.depth == 0) ≡ false = ne_eqb σ.depth 0 (λ q. omega (arith, a, l, q)) in
      record { deep = omega (arith, a); adds = subst (λ b. AddsNoMarks es (told_if b (Entered r) σ.events)) (sym e) h.adds }

  pub quiet_closed : (d : ℕ) (o : Option ℕ) (σ : Store) → 0 < d → Deep (d + count_open o) σ → Deep d (closed o σ)
  quiet_closed d None σ l h = less (d + 0) d σ (omega arith) h
  quiet_closed d (Some r) σ l h =
      let a = h.deep in
      let e : (σ.depth == 1) ≡ false = ne_eqb σ.depth 1 (λ q. omega (arith, a, l, q)) in
      record { deep = omega (arith, a); adds = subst (λ b. AddsNoMarks es (told_if b (Committed r) σ.events)) (sym e) h.adds }

  pub quiet_used : (d : ℕ) (b : Bool) (n : ℕ) (s : List ℕ) (σ : Store) → Deep d σ → Deep d (used b n s σ)
  quiet_used d true n s σ h = told d _ σ tt h
  quiet_used d false n s σ h = h

  pub quiet_done : (d : ℕ) (b : Bool) (n : ℕ) (s : List ℕ) (σ : Store) → Deep d σ → Deep d (done b n s σ)
  quiet_done d true n s σ h = told d _ σ tt h
  quiet_done d false n s σ h = h

  quiet_put : (d : ℕ) (σ : Store) (q : Place) (x : Held) → Deep d σ → Deep d (put σ q x)
  quiet_put d σ (Local l) x h = record { deep = h.deep; adds = h.adds }
  quiet_put d σ (Global l) x h = record { deep = h.deep; adds = h.adds }
  quiet_put d σ (Turn l) x h = h
  quiet_put d σ Nowhere x h = h

  -- ---- outcomes

  weaker : (r d k : ℕ) (o : Outcome) → k ≤ d → r ≤ d → Quiet d d o → Quiet r k o
  weaker r d k (Went τ) l m h = less d k τ l h
  weaker r d k (Returned v τ) l m h = less d r τ m h
  weaker r d k (Stopped s τ) l m h = h

  then_quiet : (r d k : ℕ) (o : Outcome) (f : Store → Outcome) → Quiet r d o → ((τ : Store) → Deep d τ → Quiet r k (f τ)) → Quiet r k (then_do o f)
  then_quiet r d k (Went τ) f h g = g τ h
  then_quiet r d k (Returned v τ) f h g = h
  then_quiet r d k (Stopped s τ) f h g = h

  result_quiet : (r d k : ℕ) (o : Outcome) (f : Value → Store → Outcome) → Quiet d d o → ((v : Value) (τ : Store) → Deep d τ → Quiet r k (f v τ)) → Quiet r k (with_result o f)
  result_quiet r d k (Went τ) f h g = g _ τ h
  result_quiet r d k (Returned v τ) f h g = g v τ h
  result_quiet r d k (Stopped s τ) f h g = h

  trap_quiet : (r d k : ℕ) (t : TrapKind) (n : ℕ) (σ : Store) → Deep d σ → Quiet r k (trapped t n σ)
  trap_quiet r d k t n σ h = (told d _ σ tt h).adds

  value_quiet : (r d k : ℕ) (g : Got) (n : ℕ) (σ : Store) (f : Value → Outcome) → Deep d σ → ((v : Value) → Quiet r k (f v)) → Quiet r k (with_value g n σ f)
  value_quiet r d k (Val v) n σ f h q = q v
  value_quiet r d k (Traps t) n σ f h q = trap_quiet r d k t n σ h

  either_quiet : (r k : ℕ) (b : Bool) (o q : Outcome) → Quiet r k o → Quiet r k q → Quiet r k (if b then o else q)
  either_quiet r k true o q h i = h
  either_quiet r k false o q h i = i

  finished_quiet : (r d k : ℕ) (o : Outcome) (f : Store → Store) → Quiet r d o → ((τ : Store) → Deep d τ → Deep k (f τ)) → Quiet r k (finished f o)
  finished_quiet r d k (Went τ) f h g = g τ h
  finished_quiet r d k (Returned v τ) f h g = h
  finished_quiet r d k (Stopped s τ) f h g = h

  sense_quiet : (d : ℕ) (s : ℕ) (zs : List ℤ) (σ : Store) → Deep d σ → Quiet d d (sense s zs σ)
  sense_quiet d s [] σ h = h.adds
  sense_quiet d s (z ∷ zs) σ h = told d _ (record σ { left = zs; taken = suc σ.taken }) tt (record { deep = h.deep; adds = h.adds })

  element_quiet : (r d : ℕ) (q : Place) (o : Option ℕ) (i v : Value) (n : ℕ) (σ : Store) → Deep d σ → Quiet r d (element_written q o i v n σ)
  element_quiet r d q None i v n σ h = trap_quiet r d d traps.Index n σ h
  element_quiet r d q (Some e) i v n σ h = quiet_put d σ q _ h

  for_quiet : (d t : ℕ) (i : ℤ) (f : ℤ → Store → Outcome) (σ : Store) → ((i : ℤ) (σ : Store) → Deep d σ → Quiet d d (f i σ)) → Deep d σ → Quiet d d (for_turns t i f σ)
  for_quiet d zero i f σ k h = h
  for_quiet d (suc t) i f σ k h = then_quiet d d d (f i σ) (for_turns t (i +ℤ pos 1) f) (k i σ h) (λ τ g. for_quiet d t (i +ℤ pos 1) f τ k g)

  while_quiet : (d t n : ℕ) (uses : Bool) (s : Store → List ℕ) (c : Store → Got) (f : Store → Outcome) (before : List ℕ) (σ : Store) → ((σ : Store) → Deep d σ → Quiet d d (f σ)) → Deep d σ →
      Quiet d d (while_turns t n uses s c f before σ)
  while_quiet d zero n uses s c f before σ k h = quiet_done d uses n before σ h
  while_quiet d (suc t) n uses s c f before σ k h =
      let υ : Store = used uses n (s σ) σ in
      let g : Deep d υ = quiet_used d uses n (s σ) σ h in
      value_quiet d d d (c υ) n υ _ g (λ v. either_quiet d d (is_zero v.num) (Went (done uses n (union before (s σ)) υ)) _ (quiet_done d uses n (union before (s σ)) υ g)
      (then_quiet d d d (f υ) _ (k υ g) (λ τ i. while_quiet d t n uses s c f (union before (s σ)) τ k i)))

  leave_quiet : (d n : ℕ) (o : Outcome) → Quiet d d o → Quiet d d (leave n o)
  leave_quiet d n (Went τ) h = record { deep = h.deep; adds = h.adds }
  leave_quiet d n (Returned v τ) h = record { deep = h.deep; adds = h.adds }
  leave_quiet d n (Stopped s τ) h = h

  args_quiet : (d : ℕ) (g : Given) (n : ℕ) (σ : Store) (f : List Passed → Outcome) → Deep d σ → ((ps : List Passed) → Quiet d d (f ps)) → Quiet d d (with_args g n σ f)
  args_quiet d (Passes ps) n σ f h k = k ps
  args_quiet d (Breaks t) n σ f h k = trap_quiet d d d t n σ h

  -- ---- statements

  module _ (names : NameLists) (regions : List TRegion) (call_of : Text → List Passed → Store → Outcome) (home : ℤ → ℕ)
      (calls : (d : ℕ) (f : Text) (ps : List Passed) (σ : Store) → 0 < d → Deep d σ → Quiet d d (call_of f ps σ)) where
    call_quiet : (d : ℕ) (env : List Binding) (n : ℕ) (σ : Store) (c : TCall) → 0 < d → Deep d σ → Quiet d d (call_run names regions call_of home env n σ c)
    call_quiet d env n σ (call f args) l h = args_quiet d (args_of env σ args) n σ (λ ps. call_of f ps σ) h (λ ps. calls d f ps σ l h)

    right_quiet : (d : ℕ) (env : List Binding) (n : ℕ) (σ : Store) (r : TRight) → 0 < d → Deep d σ → Quiet d d (right_run names regions call_of home env n σ r)
    right_quiet d env n σ (right_value e) l h = value_quiet d d d (value_of env σ e) n σ (λ v. Returned v σ) h (λ v. h)
    right_quiet d env n σ (right_sense s) l h = sense_quiet d (number_in names.sensors s) σ.left σ h
    right_quiet d env n σ (right_call c) l h = call_quiet d env n σ c l h

    -- what a list leaves open behind a statement
    behind_step : (d : ℕ) (inside begun ended : Option ℕ) → IsStep inside begun ended → (d + count_open inside) + count_open begun ≡ (d + count_open (next_mode inside begun ended)) + count_open ended
    behind_step d (Some r) (Some q) ended s = absurd s
    behind_step d None None (Some r) s = absurd s
    behind_step d (Some r) None None s = omega arith
    behind_step d (Some r) None (Some q) s = omega arith
    behind_step d None (Some q) None s = omega arith
    behind_step d None (Some q) (Some r) s = omega arith
    behind_step d None None None s = omega arith

    mutual
      pub kind_quiet : (m r d : ℕ) (env : List Binding) (n : ℕ) (k : TKind) (σ : Store) → PairedKind regions m k → 0 < d → r ≤ d → (IsReturn k → (0 < r) × (r + count_open (ended_by regions n) ≤ d)) →
          Deep d σ → Quiet r d (kind_run names regions call_of home env n k σ)
      kind_quiet m r d env n (let_to mu x t e) σ p l q only h =
          result_quiet r d d (right_run names regions call_of home env n σ e) _ (right_quiet d env n σ e (omega (arith, l, q)) h) (λ v τ g. record { deep = g.deep; adds = g.adds })
      kind_quiet m r d env n (let_array mu x t z c) σ p l q only h = record { deep = h.deep; adds = h.adds }
      kind_quiet m r d env n (assign x e) σ p l q only h =
          result_quiet r d d (right_run names regions call_of home env n σ e) _ (right_quiet d env n σ e (omega (arith, l, q)) h) (λ v τ g. quiet_put d τ (place_of env x) _ g)
      kind_quiet m r d env n (assign_index x i e) σ p l q only h =
          result_quiet r d d (right_run names regions call_of home env n σ e) _ (right_quiet d env n σ e (omega (arith, l, q)) h)
          (λ v τ g. value_quiet r d d (value_of env τ i) n τ _ g (λ w. element_quiet r d (place_of env x) (element_of (length (held_at τ (place_of env x)).words) w.num) w v n τ g))
      kind_quiet m r d env n (assign_deref x e) σ p l q only h =
          result_quiet r d d (right_run names regions call_of home env n σ e) _ (right_quiet d env n σ e (omega (arith, l, q)) h) (λ v τ g. quiet_put d τ (place_of env x) _ g)
      kind_quiet m r d env n (if_else c a b) σ p l q only h =
          value_quiet r d d (value_of env σ c) n σ _ h
          (λ v. either_quiet r d (is_zero v.num) (else_run names regions call_of home env b σ) _
          (weaker r d d (else_run names regions call_of home env b σ) (omega arith) (omega (arith, q)) (else_quiet m d env b σ p.1 (omega (arith, l, q)) h))
          (weaker r d d (block_run names regions call_of home env a σ) (omega arith) (omega (arith, q)) (block_quiet m d env a σ p.0 (omega (arith, l, q)) h)))
      kind_quiet m r d env n (for_in x c e b) σ p l q only h =
          weaker r d d (for_turns (count_of (e -ℤ c)) c (λ i. block_run names regions call_of home (in_turn x i ∷ env) b) σ) (omega arith) (omega (arith, q))
          (for_quiet d (count_of (e -ℤ c)) c _ σ (λ i τ g. block_quiet m d (in_turn x i ∷ env) b τ p (omega (arith, l, q)) g) h)
      kind_quiet m r d env n (while_do c t b) σ p l q only h =
          weaker r d d (while_turns t n (is_use (is_fresh env) (while_do c t b)) (use_samples env (while_do c t b)) (λ τ. value_of env τ c)
          (block_run names regions call_of home env b) [] σ) (omega arith) (omega (arith, q))
          (while_quiet d t n (is_use (is_fresh env) (while_do c t b)) (use_samples env (while_do c t b)) (λ τ. value_of env τ c) (block_run names regions call_of home env b) [] σ
          (λ τ g. block_quiet m d env b τ p (omega (arith, l, q)) g) h)
      kind_quiet m r d env n (call_only c) σ p l q only h = result_quiet r d d (call_run names regions call_of home env n σ c) _ (call_quiet d env n σ c (omega (arith, l, q)) h) (λ v τ g. g)
      kind_quiet m r d env n (sense_only s) σ p l q only h = result_quiet r d d (sense (number_in names.sensors s) σ.left σ) _ (sense_quiet d (number_in names.sensors s) σ.left σ h) (λ v τ g. g)
      kind_quiet m r d env n (emit s e) σ p l q only h = value_quiet r d d (value_of env σ e) n σ _ h (λ v. told d _ σ tt h)
      kind_quiet m r d env n (fresh x) σ p l q only h = h
      kind_quiet m r d env n (consistent x k) σ p l q only h = told d _ σ tt h
      kind_quiet m r d env n (return e) σ p l q only h =
          value_quiet r d d (value_of env σ e) n σ _ h
          (λ v. (let υ : Store = done (is_use (is_fresh env) (return e)) n (use_samples env (return e) σ) σ in
          quiet_closed r (ended_by regions n) υ (only tt).0
          (less d (r + count_open (ended_by regions n)) υ (only tt).1 (quiet_done d (is_use (is_fresh env) (return e)) n (use_samples env (return e) σ) σ h))))

      else_quiet : (m d : ℕ) (env : List Binding) (b : TElse) (σ : Store) → PairedElse regions m b → 0 < d → Deep d σ → Quiet d d (else_run names regions call_of home env b σ)
      else_quiet m d env no_else σ p l h = h
      else_quiet m d env (else_do b) σ p l h = block_quiet m d env b σ p l h

      pub block_quiet : (m d : ℕ) (env : List Binding) (b : TBlock) (σ : Store) → PairedBlock regions m b → 0 < d → Deep d σ → Quiet d d (block_run names regions call_of home env b σ)
      block_quiet m d env (block id ss) σ p l h =
          leave_quiet d (length σ.locals) (stmts_run names regions call_of home env ss (entered id σ))
          (stmts_quiet m None d env ss (entered id σ) p l (record { deep = (let a = h.deep in omega (arith, a)); adds = h.adds }))

      stmts_quiet : (m : ℕ) (inside : Option ℕ) (d : ℕ) (env : List Binding) (ss : TStmts) (σ : Store) → PairedStmts regions m inside ss → 0 < d → Deep (d + count_open inside) σ →
          Quiet d d (stmts_run names regions call_of home env ss σ)
      stmts_quiet m inside d env no_stmts σ p l h = less (d + count_open inside) d σ (omega arith) h
      stmts_quiet m inside d env (more (stmt n line k) rest) σ p l h =
          let begun : Option ℕ = begun_by regions n in
          let ended : Option ℕ = ended_by regions n in
          let next : Option ℕ = next_mode inside begun ended in
          let c : ℕ = (d + count_open inside) + count_open begun in
          let e = behind_step d inside begun ended p.1 in
          let υ : Store = used (begins_use (is_fresh env) k) n (use_samples env k σ) (opened begun σ) in
          let g : Deep c υ = quiet_used c (begins_use (is_fresh env) k) n (use_samples env k σ) (opened begun σ) (quiet_opened (d + count_open inside) begun σ (omega (arith, l)) h) in
          then_quiet d (d + count_open next) d (finished _ (kind_run names regions call_of home env n k υ)) _
          (finished_quiet d c (d + count_open next) (kind_run names regions call_of home env n k υ) _
          (kind_quiet (suc n) d c env n k υ p.2 (omega (arith, l)) (omega (arith, e)) (λ z. (l, omega (arith, e))) g)
          (λ τ i. quiet_closed (d + count_open next) ended (done (ends_use (is_fresh env) k) n (use_samples env k σ) τ) (omega (arith, l))
          (quiet_done ((d + count_open next) + count_open ended) (ends_use (is_fresh env) k) n (use_samples env k σ) τ (less c ((d + count_open next) + count_open ended) τ (omega (arith, e)) i))))
          (λ τ i. stmts_quiet (suc n) next d (grown k rest env σ) rest τ p.3 l i)

  -- ---- calls

  module _ (p : TProgram) (regions : List TRegion) (paired : (x : Text) (g : TFunction) → function_named p.functions x ≡ Some g → (n : ℕ) × PairedBlock regions n g.body) where
    function_quiet : (call_of : Text → List Passed → Store → Outcome) → ((d : ℕ) (f : Text) (ps : List Passed) (σ : Store) → 0 < d → Deep d σ → Quiet d d (call_of f ps σ)) →
        (d : ℕ) (x : Text) (o : Option TFunction) → function_named p.functions x ≡ o → (ps : List Passed) (σ : Store) → 0 < d → Deep d σ → Quiet d d (function_run p regions call_of o ps σ)
    function_quiet call_of calls d x None is ps σ l h = h
    function_quiet call_of calls d x (Some g) is ps σ l h =
        let fr : Frame = with_params g.params ps (record { env = nv_env 0 p.names.nvs; locals = σ.locals }) in
        let q = paired x g is in
        leave_quiet d (length σ.locals) (block_run p.names regions call_of (set_home g.body) fr.env g.body (record σ { locals = fr.locals }))
        (block_quiet p.names regions call_of (set_home g.body) calls q.0 d fr.env g.body (record σ { locals = fr.locals }) q.1 l (record { deep = h.deep; adds = h.adds }))

    pub calls_quiet : (depth : ℕ) (d : ℕ) (x : Text) (ps : List Passed) (σ : Store) → 0 < d → Deep d σ → Quiet d d (call_to p regions depth x ps σ)
    calls_quiet zero d x ps σ l h = h
    calls_quiet (suc depth) d x ps σ l h = function_quiet (call_to p regions depth) (calls_quiet depth) d x (function_named p.functions x) refl ps σ l h

pub quiet_adds : (es : List Event) (r d : ℕ) (o : Outcome) → Quiet es r d o → AddsNoMarks es (events_in o)
quiet_adds es r d (Went τ) h = h.adds
quiet_adds es r d (Returned v τ) h = h.adds
quiet_adds es r d (Stopped s τ) h = h

pub inside_tells_none : InsideTellsNone
inside_tells_none p regions paired depth x ps σ l =
    quiet_adds σ.events σ.depth σ.depth (call_to p regions depth x ps σ) (calls_quiet σ.events p regions paired depth σ.depth x ps σ l (record { deep = omega arith; adds = ([], refl, tt) }))
