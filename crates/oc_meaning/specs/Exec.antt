-- What a statement does.
use Rattle.std.specs.Prelude.{ℕ, zero, suc, ◌-◌, ℤ, pos, ◌+ℤ◌, ◌-ℤ◌, Bool, false, List, [], ◌∷◌, length, replicate, Option, Some, None, if◌then◌else◌, ◌==◌, count_by}
use Rattle.std.specs.Str.{bytes_eq}
use Rattle.oc_tree.specs.Names.{Text, NameLists}
use Rattle.oc_tree.specs.Marked.{TRegion}
use Rattle.oc_tree.specs.Tree.{TExpr, variable, TArg, value, shared, mutable, TCall, call, TArgs, no_args, more_args, TRight, right_value, right_sense, right_call, TKind, let_to}
use Rattle.oc_tree.specs.Tree.{let_array, assign, assign_index, assign_deref, if_else, for_in, while_do, call_only, sense_only, emit, fresh, consistent, return, TElse, no_else}
use Rattle.oc_tree.specs.Tree.{else_do, stmt, TBlock, block, TStmts, no_stmts, more}
use Rattle.oc_tree.specs.Weight.{count_of}
use Rattle.oc_tree.specs.declared.said.TrapKind.{TrapKind}
use Rattle.oc_tree.specs.declared.said.TrapKind.TheVariants as traps
use Rattle.oc_tree.specs.declared.said.Said.{Said}
use Rattle.oc_tree.specs.declared.said.Said.TheVariants.{Sensed, Showed, Entered, Committed, Ended}
use Rattle.oc_tree.specs.declared.said.Shown.TheVariants.{Emitted, Used, Finished, Tagged}
use Rattle.oc_tree.specs.declared.said.Ending.TheVariants.{Trapped}
use Rattle.oc_tree.specs.Samples.{union}
use Rattle.oc_meaning.specs.Store.{Value, Held, Place, Local, Turn, Event, Store, Binding, plain, holding, replaced, with_element, held_at, put, made, left_at, happened, noted, binding_of, place_of}
use Rattle.oc_meaning.specs.Eval.{Got, Val, Traps, is_zero, element_of, value_of}
use Rattle.oc_meaning.specs.Uses.{is_annotated, is_fresh, is_use, use_samples, begins_use, ends_use}

-- the region that begins with a statement
abbrev pub begun_by : List TRegion → ℕ → Option ℕ
begun_by [] n = None
begun_by (r ∷ rs) n = if n == r.first then Some r.id else begun_by rs n

-- the region that ends with a statement
abbrev pub ended_by : List TRegion → ℕ → Option ℕ
ended_by [] n = None
ended_by (r ∷ rs) n = if n == r.last then Some r.id else ended_by rs n

-- why a run stops before its end
pub data Stop : Type 0 where
  -- it trapped
  Trap : Stop
  -- an input found no sample left
  Short : Stop

-- what came of a statement, a call or a right side
pub data Outcome : Type 0 where
  -- it went through
  Went : Store → Outcome
  -- it returned a value
  Returned : Value → Store → Outcome
  -- the run stopped in it
  Stopped : Stop → Store → Outcome

-- what a call passes for one parameter
pub data Passed : Type 0 where
  -- a value
  Copied : Value → Passed
  -- a reference: the place of a variable
  Lent : Place → Passed

-- what the arguments of a call evaluate to
pub data Passing : Type 0 where
  -- what is passed for each parameter
  Passes : List Passed → Passing
  -- nothing, since an argument traps in this way
  Breaks : TrapKind → Passing

-- the place of a name in a list of names, or past its end
abbrev pub number_in : List Text → Text → ℕ
number_in [] x = 0
number_in (y ∷ ys) x = if bytes_eq x y then 0 else suc (number_in ys x)

-- statement n traps
abbrev pub trapped : TrapKind → ℕ → Store → Outcome
trapped k n σ = Stopped Trap (noted (Ended (Trapped k n)) [] σ)

-- on with a value, or statement n traps
abbrev pub with_value : Got → ℕ → Store → (Value → Outcome) → Outcome
with_value (Val v) n σ go = go v
with_value (Traps k) n σ go = trapped k n σ

-- on with the store, where a statement went through
abbrev pub then_do : Outcome → (Store → Outcome) → Outcome
then_do (Went σ) go = go σ
then_do o go = o

-- on with the value of a right side; a call without a result gives 0
abbrev pub with_result : Outcome → (Value → Store → Outcome) → Outcome
with_result (Went σ) go = go (plain (pos 0)) σ
with_result (Returned v σ) go = go v σ
with_result (Stopped s σ) go = Stopped s σ

-- a value that nothing takes is forgotten
abbrev pub dropped : Outcome → Outcome
dropped o = with_result o (λ v σ. Went σ)

-- the local variables that were made since there were n of them are gone, unless the run stopped
abbrev pub leave : ℕ → Outcome → Outcome
leave n (Went σ) = Went (left_at n σ)
leave n (Returned v σ) = Returned v (left_at n σ)
leave n (Stopped s σ) = Stopped s σ

-- Marks and uses

-- a mark is told where no region is open around it
abbrev pub told_if : Bool → Said → List Event → List Event
told_if outermost said events =
    if outermost then record { said = said; samples = []; instance = 0 } ∷ events else events

-- an execution of a region begins, if one begins here
abbrev pub opened : Option ℕ → Store → Store
opened None σ = σ
opened (Some r) σ =
    record σ { depth = suc σ.depth; events = told_if (σ.depth == 0) (Entered r) σ.events }

-- an execution of a region ends, if one ends here
abbrev pub closed : Option ℕ → Store → Store
closed None σ = σ
closed (Some r) σ =
    record σ { depth = σ.depth - 1; events = told_if (σ.depth == 1) (Committed r) σ.events }

-- statement n begins a use of these samples, where `is` says that it is one
abbrev pub used : Bool → ℕ → List ℕ → Store → Store
used is n samples σ = if is then noted (Showed (Used n)) samples σ else σ

-- statement n ends a use of these samples, where `is` says that it is one
abbrev pub done : Bool → ℕ → List ℕ → Store → Store
done is n samples σ = if is then noted (Showed (Finished n)) samples σ else σ

-- what stands behind a statement that went through: the end of its use, and of its region
abbrev pub finished : (Store → Store) → Outcome → Outcome
finished after (Went σ) = Went (after σ)
finished after o = o

-- Inputs, arguments and writes

-- an input of sensor s: it takes the next sample
abbrev pub sense : ℕ → List ℤ → Store → Outcome
sense s [] σ = Stopped Short σ
sense s (z ∷ zs) σ =
    Returned (record { num = z; samples = σ.taken ∷ [] })
    (noted (Sensed s z) (σ.taken ∷ []) (record σ { left = zs; taken = suc σ.taken }))

-- what one argument passes, in front of what those behind it pass
abbrev pub passed_first : Passed → Passing → Passing
passed_first p (Passes ps) = Passes (p ∷ ps)
passed_first p (Breaks k) = Breaks k

-- the value of an argument, in front of what those behind it pass; its trap breaks the call
abbrev pub copied_first : Got → Passing → Passing
copied_first (Val v) rest = passed_first (Copied v) rest
copied_first (Traps k) rest = Breaks k

-- the reference that an argument passes on, which is just its name
abbrev pub passed_on : List Binding → TExpr → Option Place
passed_on env (variable x) = if (binding_of env x).reference then Some (place_of env x) else None
passed_on env e = None

-- an argument that is an expression: the reference that it passes on, or else its value, in front
-- of what those behind it pass
abbrev pub value_first : Option Place → Got → Passing → Passing
value_first (Some p) g rest = passed_first (Lent p) rest
value_first None g rest = copied_first g rest

-- what an argument passes, in front of what those behind it pass
abbrev pub arg_first : List Binding → Store → TArg → Passing → Passing
arg_first env σ (value e) rest = value_first (passed_on env e) (value_of env σ e) rest
arg_first env σ (shared x) rest = passed_first (Lent (place_of env x)) rest
arg_first env σ (mutable x) rest = passed_first (Lent (place_of env x)) rest

-- what the arguments of a call evaluate to
abbrev pub args_of : List Binding → Store → TArgs → Passing
args_of env σ no_args = Passes []
args_of env σ (more_args a rest) = arg_first env σ a (args_of env σ rest)

-- on with what the arguments pass, or statement n traps
abbrev pub with_args : Passing → ℕ → Store → (List Passed → Outcome) → Outcome
with_args (Passes ps) n σ go = go ps
with_args (Breaks k) n σ go = trapped k n σ

-- element e of the array at a place is assigned the value v, where the index i names one; else
-- statement n traps
abbrev pub element_written : Place → Option ℕ → Value → Value → ℕ → Store → Outcome
element_written p None i v n σ = trapped traps.Index n σ
element_written p (Some e) i v n σ =
    Went (put σ p (with_element (held_at σ p) e v.num (union i.samples v.samples)))

-- Loops

-- so many turns from i on
abbrev pub for_turns : ℕ → ℤ → (ℤ → Store → Outcome) → Store → Outcome
for_turns zero i body σ = Went σ
for_turns (suc t) i body σ = then_do (body i σ) (for_turns t (i +ℤ pos 1) body)

-- at most so many turns of statement n. `is` says whether it is a use, `taken` of which samples, and `before` are
-- those of the uses before
abbrev pub while_turns : ℕ
    → ℕ → Bool → (Store → List ℕ) → (Store → Got) → (Store → Outcome) → List ℕ → Store → Outcome
while_turns zero n is taken test body before σ = Went (done is n before σ)
while_turns (suc t) n is taken test body before σ =
    with_value (test (used is n (taken σ) σ)) n (used is n (taken σ) σ) (λ v. if is_zero v.num
    then Went (done is n (union before (taken σ)) (used is n (taken σ) σ))
    else then_do (body (used is n (taken σ) σ))
    (while_turns t n is taken test body (union before (taken σ))))

-- Statements

-- the variable that a `let` makes, with the statements that follow it in its block
abbrev pub bound_to : Text → TStmts → Store → Binding
bound_to x rest σ =
    record {
      name = x;
      place = Local (length σ.locals);
      reference = false;
      fresh = is_annotated x rest;
    }

-- the `for` variable of a turn
abbrev pub in_turn : Text → ℤ → Binding
in_turn x i = record { name = x; place = Turn i; reference = false; fresh = false }

-- the variables that are visible behind a statement
abbrev pub grown : TKind → TStmts → List Binding → Store → List Binding
grown (let_to m x k r) rest env σ = bound_to x rest σ ∷ env
grown (let_array m x k z n) rest env σ = bound_to x rest σ ∷ env
grown k rest env σ = env

-- an array of n words, each of which is z
abbrev pub array_of : ℤ → ℕ → Held
array_of z n = record { words = replicate n z; samples = [] }

-- an execution of the block of this number begins
abbrev pub entered : ℕ → Store → Store
entered id σ = record σ { blocks = id ∷ σ.blocks }

-- statement n annotates a variable of the set whose block is `home`: the tag depends on these
-- samples, and its instance is how many executions of that block began
abbrev pub tagged : ℕ → ℕ → List ℕ → Store → Store
tagged home n samples σ =
    happened (record {
      said = Showed (Tagged n);
      samples = samples;
      instance = count_by (λ id. home == id) σ.blocks;
    }) σ

-- the statements of one function: `call` executes a function, `home` is the block of a consistent set
module _ (names : NameLists) (regions : List TRegion)
    (call_of : Text → List Passed → Store → Outcome) (home : ℤ → ℕ) where
  -- a call by statement n: its arguments are evaluated and handed to `call_of`
  abbrev pub call_run : List Binding → ℕ → Store → TCall → Outcome
  call_run env n σ (call f args) = with_args (args_of env σ args) n σ (λ ps. call_of f ps σ)

  -- a right side of statement n: its value, where it has one
  abbrev pub right_run : List Binding → ℕ → Store → TRight → Outcome
  right_run env n σ (right_value e) = with_value (value_of env σ e) n σ (λ v. Returned v σ)
  right_run env n σ (right_sense s) = sense (number_in names.sensors s) σ.left σ
  right_run env n σ (right_call c) = call_run env n σ c

  abbrev mutual
    -- what statement n does by itself, without the marks and the uses around it
    pub kind_run : List Binding → ℕ → TKind → Store → Outcome
    kind_run env n (let_to m x k r) σ =
        with_result (right_run env n σ r) (λ v τ. Went (made (holding v) τ))
    kind_run env n (let_array m x k z c) σ = Went (made (array_of z c) σ)
    kind_run env n (assign x r) σ =
        with_result (right_run env n σ r)
        (λ v τ. Went (put τ (place_of env x) (replaced (held_at τ (place_of env x)) v)))
    kind_run env n (assign_index x e r) σ =
        with_result (right_run env n σ r) (λ v τ. with_value (value_of env τ e) n τ (λ i.
        element_written (place_of env x)
        (element_of (length (held_at τ (place_of env x)).words) i.num) i v n τ))
    kind_run env n (assign_deref x r) σ =
        with_result (right_run env n σ r)
        (λ v τ. Went (put τ (place_of env x) (replaced (held_at τ (place_of env x)) v)))
    kind_run env n (if_else c a b) σ =
        with_value (value_of env σ c) n σ
        (λ v. if is_zero v.num then else_run env b σ else block_run env a σ)
    kind_run env n (for_in x c d b) σ =
        for_turns (count_of (d -ℤ c)) c (λ i. block_run (in_turn x i ∷ env) b) σ
    kind_run env n (while_do c t b) σ =
        while_turns t n (is_use (is_fresh env) (while_do c t b))
        (use_samples env (while_do c t b)) (λ τ. value_of env τ c) (block_run env b) [] σ
    kind_run env n (call_only c) σ = dropped (call_run env n σ c)
    kind_run env n (sense_only s) σ = dropped (sense (number_in names.sensors s) σ.left σ)
    kind_run env n (emit p e) σ =
        with_value (value_of env σ e) n σ
        (λ v. Went (noted (Showed (Emitted (number_in names.ports p) v.num)) v.samples σ))
    kind_run env n (fresh x) σ = Went σ
    kind_run env n (consistent x k) σ =
        Went (tagged (home k) n (held_at σ (place_of env x)).samples σ)
    kind_run env n (return e) σ =
        with_value (value_of env σ e) n σ (λ v. Returned v (closed (ended_by regions n)
        (done (is_use (is_fresh env) (return e)) n (use_samples env (return e) σ) σ)))

    -- what an `if` does where its condition is false
    pub else_run : List Binding → TElse → Store → Outcome
    else_run env no_else σ = Went σ
    else_run env (else_do b) σ = block_run env b σ

    -- an execution of a block: its variables are gone behind it
    pub block_run : List Binding → TBlock → Store → Outcome
    block_run env (block id ss) σ = leave (length σ.locals) (stmts_run env ss (entered id σ))

    -- the statements of a block one after the other, each between the marks of its region and of
    -- its use
    pub stmts_run : List Binding → TStmts → Store → Outcome
    stmts_run env no_stmts σ = Went σ
    stmts_run env (more (stmt n line k) rest) σ =
        then_do
        (finished (λ τ. closed
        (ended_by regions n) (done (ends_use (is_fresh env) k) n (use_samples env k σ) τ))
        (kind_run env n k (used
        (begins_use (is_fresh env) k) n (use_samples env k σ) (opened (begun_by regions n) σ))))
        (stmts_run (grown k rest env σ) rest)
