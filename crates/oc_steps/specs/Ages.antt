-- What a set of samples amounts to: none, samples between the same two outages, or others. An age is the list of no number,
-- of one number, that of the outages before, or `mixed`.
use Rattle.std.specs.Prelude.{ℕ, zero, suc, ℤ, List, [], ◌∷◌, map, slice_index_or, ◌≡◌, ◌==◌, if◌then◌else◌}
use Rattle.oc_tree.specs.Tree.{TProgram}
use Rattle.oc_tree.specs.Marked.{TRegion}
use Rattle.oc_tree.specs.Samples.{union}
use Rattle.oc_meaning.specs.Store.{Value, Held, Event, Store}
use Rattle.oc_meaning.specs.Eval.{Got, Val, Traps}
use Rattle.oc_meaning.specs.Exec.{Outcome, Went, Returned, Stopped, Passed, Copied, Lent, Passing, Passes, Breaks}
use Rattle.oc_steps.specs.Steps.{Frame, Rest, Use, Work, Done, Close, Take, Leave, Turns, Loop, Test, Back, Step, Goes, Asks, Over, Tally, of_samples, step, sensed}

abbrev pub mixed : List ℕ
mixed = 0 ∷ 0 ∷ []

-- the age of two sets together
abbrev pub join_ages : List ℕ → List ℕ → List ℕ
join_ages [] b = b
join_ages (x ∷ []) [] = x ∷ []
join_ages (x ∷ []) (y ∷ []) = if x == y then x ∷ [] else mixed
join_ages (x ∷ []) (y ∷ z ∷ w) = mixed
join_ages (x ∷ y ∷ w) b = mixed

-- one more of this block, in a list that has how often each block was executed
abbrev pub one_more : ℕ → List ℕ → List ℕ
one_more zero [] = 1 ∷ []
one_more zero (c ∷ counts) = suc c ∷ counts
one_more (suc id) [] = 0 ∷ one_more id []
one_more (suc id) (c ∷ counts) = c ∷ one_more id counts

-- a sample's number is that of the outages before it, and executed blocks are counted
abbrev pub of_ages : Tally
of_ages =
    record { next = λ n. n; enter = one_more; count = λ h counts. slice_index_or counts h 0 }

-- how often each of these blocks stands among them
abbrev pub counts_of : List ℕ → List ℕ
counts_of [] = []
counts_of (id ∷ bs) = one_more id (counts_of bs)

-- `before` says how many outages stand before each sample
module _ (before : ℕ → ℕ) where
  abbrev pub age_of : List ℕ → List ℕ
  age_of [] = []
  age_of (j ∷ js) = join_ages (before j ∷ []) (age_of js)

  abbrev pub aged_value : Value → Value
  aged_value v = record { num = v.num; samples = age_of v.samples }

  abbrev pub aged_held : Held → Held
  aged_held h = record { words = h.words; samples = age_of h.samples }

  abbrev pub aged_event : Event → Event
  aged_event e = record { said = e.said; samples = age_of e.samples; instance = e.instance }

  -- so many outages stand before the next sample
  abbrev pub aged_store : ℕ → Store → Store
  aged_store c σ = record {
    locals = map aged_held σ.locals;
    nv = map aged_held σ.nv;
    left = σ.left;
    taken = c;
    depth = σ.depth;
    blocks = counts_of σ.blocks;
    events = map aged_event σ.events;
  }

  abbrev pub aged_got : Got → Got
  aged_got (Val v) = Val (aged_value v)
  aged_got (Traps k) = Traps k

  abbrev pub aged_passed : Passed → Passed
  aged_passed (Copied v) = Copied (aged_value v)
  aged_passed (Lent q) = Lent q

  abbrev pub aged_passing : Passing → Passing
  aged_passing (Passes ps) = Passes (map aged_passed ps)
  aged_passing (Breaks k) = Breaks k

  abbrev pub aged_outcome : ℕ → Outcome → Outcome
  aged_outcome c (Went σ) = Went (aged_store c σ)
  aged_outcome c (Returned v σ) = Returned (aged_value v) (aged_store c σ)
  aged_outcome c (Stopped s σ) = Stopped s (aged_store c σ)

  abbrev pub aged_frame : Frame → Frame
  aged_frame (Rest f env ss) = Rest f env ss
  aged_frame (Use f env n u k) = Use f env n (age_of u) k
  aged_frame (Work f env n k) = Work f env n k
  aged_frame (Done is n u) = Done is n (age_of u)
  aged_frame (Close r) = Close r
  aged_frame (Take env n k) = Take env n k
  aged_frame (Leave n) = Leave n
  aged_frame (Turns f x t i b env) = Turns f x t i b env
  aged_frame (Loop f env n c t b u) = Loop f env n c t b (age_of u)
  aged_frame (Test f env n c t b u) = Test f env n c t b (age_of u)
  aged_frame (Back v r) = Back (aged_value v) r

  abbrev pub aged_step : ℕ → Step → Step
  aged_step c (Goes fs o) = Goes (map aged_frame fs) (aged_outcome c o)
  aged_step c (Asks s fs σ) = Asks s (map aged_frame fs) (aged_store c σ)
  aged_step c Over = Over

-- a step over ages is the step over samples
abbrev pub StepsAge : Type 0
StepsAge =
    (p : TProgram) (regions : List TRegion) (before : ℕ → ℕ) (c : ℕ) (fs : List Frame) (o : Outcome)
    → step p regions join_ages of_ages (map (aged_frame before) fs) (aged_outcome before c o)
    ≡ aged_step before c (step p regions union of_samples fs o)

-- and so is taking a sample
abbrev pub SensesAge : Type 0
SensesAge =
    (p : TProgram) (regions : List TRegion) (before : ℕ → ℕ) (c s : ℕ) (z : ℤ) (σ : Store)
    → before σ.taken ≡ c
    → sensed p regions join_ages of_ages s z (aged_store before c σ)
    ≡ aged_outcome before c (sensed p regions union of_samples s z σ)
