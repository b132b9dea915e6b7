-- What the verifier keeps of the addresses that it has looked at.
use Rattle.std.specs.Prelude.{◌≡◌, ◌<◌, ℕ, ◌+◌, ◌*◌, ◌/◌, ◌%◌, List, [], ◌∷◌, length, map, reverse, replicate, take, Option, Some, None, Bool, true, false, ◌&&◌, ◌||◌, nat_eq, nat_lt}
use Rattle.std.specs.Prelude.{slice_get, slice_set, if◌then◌else◌, ◌==◌, count_by}
use Rattle.std.proofs.Math.ListN.{get_or}
use Rattle.std.specs.List.{All}
use Rattle.std.proofs.Common.{Vec, Global}
use Rattle.oc_isa.specs.declared.instr.Placed.{Placed}
use Rattle.oc_isa.specs.declared.instr.Instr.TheVariants.{Call}
use Rattle.oc_isa.specs.Image.{Parts}
use Rattle.oc_tree.specs.Reach.{linked}
use Rattle.oc_verify.specs.declared.kind.Kind.{Kind}
use Rattle.oc_verify.specs.declared.kind.Kind.TheVariants.{Place}
use Rattle.oc_verify.specs.Typing.{Pair, SuitAll, level}
use Rattle.oc_verify.specs.Rules.{Kinds, calls_of, code_at, main_number, own_slots, params_of, slot_right}
use Rattle.oc_verify.specs.Merging.{leasts}
use Rattle.oc_verify.specs.declared.fault.VerifyError.{VerifyError}
use Rattle.oc_verify.specs.declared.fault.VerifyError.TheVariants as errors
use Rattle.oc_verify.specs.Stacks.{Nodes, kind_limit}
use Rattle.oc_verify.specs.Told.{AreIn, kind_of, pair_of}
use Rattle.oc_verify.specs.Work.{IsWork, Marks, Todo, todo_at}

-- the numbers of two stacks for each address that was looked at
abbrev pub Cells : Type 0
Cells = List (Option (ℕ × ℕ))

-- the pair of an address, where it was looked at
abbrev pub pair_in : Nodes → Nodes → Option (Option (ℕ × ℕ)) → Option Pair
pair_in ks rs None = None
pair_in ks rs (Some None) = None
pair_in ks rs (Some (Some n)) = Some (pair_of ks rs n)

-- the pairs of all addresses that were looked at
abbrev pub marks : Nodes → Nodes → Cells → Marks
marks ks rs cs a = pair_in ks rs (slice_get cs a)

-- a pair, where there is an instruction
abbrev pub own_by : Option Placed → Option Pair → Option Pair
own_by None p = None
own_by (Some x) p = p

-- the pairs of the addresses in the code of function `f` that were looked at
abbrev pub own_marks : Parts → ℕ → Marks → Marks
own_marks i f tab a = own_by (code_at i f a) (tab a)

-- an address that is still to be looked at, by the numbers of its stacks
abbrev pub todo_of : Nodes → Nodes → (ℕ × (ℕ × ℕ)) → Todo
todo_of ks rs e = todo_at (pair_of ks rs e.1) e.0

-- each cell has numbers of stacks
abbrev pub AreCells : Nodes → Nodes → Cells → Type 0
AreCells ks rs cs = (a : ℕ) (n : ℕ × ℕ) → slice_get cs a ≡ Some (Some n) → AreIn ks rs n

-- a walk through the code of f, with these still to be looked at, the next one last
pub record IsWalk (i : Parts) (f : ℕ) (kinds : List Kind) (ks rs : Nodes) (cs : Cells)
    (es : List (ℕ × (ℕ × ℕ))) : Type 0 where
  pub work : IsWork i f kinds (own_marks i f (marks ks rs cs)) (map (todo_of ks rs) (reverse es))
  pub sized : length cs ≡ length i.code
  pub cells : AreCells ks rs cs
  pub todo : All (λ e. AreIn ks rs e.1) es

-- nothing changes but in the code of f
abbrev pub KeepsOthers : Parts → ℕ → Marks → Marks → Type 0
KeepsOthers i f old new = (a : ℕ) → code_at i f a ≡ None → new a ≡ old a

-- an address wasn't looked at
abbrev pub is_blank : Option (ℕ × ℕ) → Bool
is_blank None = true
is_blank (Some n) = false

-- how many addresses weren't looked at
abbrev pub blanks : Cells → ℕ
blanks cs = count_by is_blank cs

-- Kinds of parameters, as far as calls were looked at

-- the kinds that were passed to each function, by their numbers, or that none were
abbrev pub Passed : Type 0
Passed = List (Option (List ℕ))

-- what contracts see of the kinds that were passed to each function
abbrev pub passed_seen : List (Option (Vec ℕ Global)) → Passed
passed_seen [] = []
passed_seen (None ∷ ps) = None ∷ passed_seen ps
passed_seen (Some v ∷ ps) = Some v.items ∷ passed_seen ps

-- the kinds that were passed, by their numbers; numbers where none were
abbrev pub codes_by : ℕ → Option (Option (List ℕ)) → List ℕ
codes_by params None = replicate params 0
codes_by params (Some None) = replicate params 0
codes_by params (Some (Some cs)) = cs

-- the parameters of a function that no call was seen of are numbers
abbrev pub codes_of : Parts → Passed → ℕ → List ℕ
codes_of i ps f = codes_by (params_of i f) (slice_get ps f)

-- the kinds of each function's parameters, as far as calls were looked at
abbrev pub kinds_of : Parts → Passed → Kinds
kinds_of i ps f = map kind_of (codes_of i ps f)

-- the slots of a function that isn't `main` and that no call was seen of
abbrev pub plain_slots : Parts → ℕ → List (Option Kind)
plain_slots i f = own_slots i f (map kind_of (replicate (params_of i f) 0))

-- a call of a function was looked at
abbrev pub was_passed : Option (Option (List ℕ)) → Bool
was_passed None = false
was_passed (Some None) = false
was_passed (Some (Some cs)) = true

-- this function is `main`, or a call of it was seen
abbrev pub is_walked : Parts → Passed → ℕ → Bool
is_walked i ps f = if f == main_number i then true else was_passed (slice_get ps f)

-- a call of g, where function h was looked at
pub record SeenCall (i : Parts) (tab : Marks) (h g a : ℕ) (p : Pair) : Type 0 where
  pub placed : Placed
  pub found : code_at i h a ≡ Some placed
  pub calls : placed.instr ≡ Call g
  pub pair : tab a ≡ Some p

-- which calls were looked at, by the function and the address
abbrev pub Calls : Type 0
Calls = ℕ → ℕ → Bool

-- a call of a function with the stack of this number, as one number
abbrev pub call_number : (g n : ℕ) → ℕ
call_number g n = g * 4294967296 + n

-- the function of a call that is one number
abbrev pub number_callee : ℕ → ℕ
number_callee k = k / 4294967296

-- the stack of a call that is one number
abbrev pub number_stack : ℕ → ℕ
number_stack k = k % 4294967296

-- these are the least kinds over the calls that were looked at, and functions without kinds are
-- called at none of them
pub record IsPassed (i : Parts) (seen : Calls) (tab : Marks) (ps : Passed) : Type 0 where
  pub many : length ps ≡ length i.functions
  pub sized : (g : ℕ) (cs : List ℕ) → slice_get ps g ≡ Some (Some cs) → length cs ≡ params_of i g
  pub small : (g : ℕ) (cs : List ℕ) → slice_get ps g ≡ Some (Some cs) → All (λ c. c < kind_limit) cs
  pub suits : (h g a : ℕ) (p : Pair)
      → seen h a ≡ true → SeenCall i tab h g a p
      → (cs : List ℕ) × (slice_get ps g ≡ Some (Some cs))
      × SuitAll (take (params_of i g) p.ops) (map kind_of cs)
  pub met : (g j n : ℕ) (cs : List ℕ)
      → slice_get ps g ≡ Some (Some cs) → level (map kind_of cs) j ≡ Some (Place n)
      → (h : ℕ) × (a : ℕ) × (p : Pair) × (seen h a ≡ true) × SeenCall i tab h g a p
      × (level (take (params_of i g) p.ops) j ≡ Some (Place n))
  pub passes : (g : ℕ) (cs : List ℕ)
      → slice_get ps g ≡ Some (Some cs)
      → (h : ℕ) × (a : ℕ) × (p : Pair) × (seen h a ≡ true) × SeenCall i tab h g a p

-- what is known when these functions are done, whose callers are done too
pub record IsDone (i : Parts) (done : ℕ → Bool) (tab : Marks) (ps : Passed) : Type 0 where
  pub calls : IsPassed i (λ h a. done h) tab ps
  pub works : (h : ℕ)
      → done h ≡ true → is_walked i ps h ≡ true
      → IsWork i h (kinds_of i ps h) (own_marks i h tab) []
  pub homes : (a : ℕ) (p : Pair)
      → tab a ≡ Some p
      → (h : ℕ) × (x : Placed) × (code_at i h a ≡ Some x) × (done h ≡ true)
      × (is_walked i ps h ≡ true)
  pub slots : (h a : ℕ) (x : Placed)
      → done h ≡ true → code_at i h a ≡ Some x
      → slot_right (own_slots i h (kinds_of i ps h)) x.instr ≡ true

-- the functions that are done, with one more
abbrev pub with_done : (ℕ → Bool) → ℕ → ℕ → Bool
with_done done f g = if g == f then true else done g

-- the callers of this function are done, and it isn't
pub record IsNext (i : Parts) (done : ℕ → Bool) (f : ℕ) : Type 0 where
  pub fresh : done f ≡ false
  pub closed : (u v : ℕ) → linked (calls_of i) u v ≡ true → done v ≡ true → done u ≡ true
  pub callers : (u : ℕ) → linked (calls_of i) u f ≡ true → done u ≡ true

-- all functions of an image are done
abbrev pub all_done : Parts → ℕ → Bool
all_done i h = nat_lt h (length i.functions)

-- all functions are done
abbrev pub IsExamined : Parts → Marks → Type 0
IsExamined i tab = (ps : Passed) × IsDone i (all_done i) tab ps

-- functions of rank above n - k are done, and of this rank those below f
abbrev pub done_by : (n : ℕ) (ranks : List ℕ) (k f : ℕ) → ℕ → Bool
done_by n ranks k f h =
    nat_lt h n && (nat_lt n (get_or ranks h 0 + k) || (nat_lt h f && (get_or ranks h 0 + k == n)))

-- One call more

-- the calls that were looked at, with those in the code of function `f` below an address
abbrev pub with_calls : Calls → (f to : ℕ) → Calls
with_calls seen f to h a = seen h a || (nat_eq h f && nat_lt a to)

-- the kinds behind one call more with these arguments
abbrev pub JoinsBy : Option (Option (List ℕ)) → List Kind → List Kind → Type 0
JoinsBy None args ks = ⊥
JoinsBy (Some None) args ks = ks ≡ args
JoinsBy (Some (Some cs)) args ks = leasts (map kind_of cs) args ≡ Some ks

-- function g was called once more, before which these kinds stood on the stack
pub record Joins (params : ℕ) (old : Passed) (g : ℕ) (ops : List Kind) (new : Passed) : Type 0 where
  pub codes : List ℕ
  pub is : new ≡ slice_set old g (Some codes)
  pub sized : length codes ≡ params
  pub small : All (λ c. c < kind_limit) codes
  pub joins : JoinsBy (slice_get old g) (take params ops) (map kind_of codes)

-- a number meets a place in these kinds, or memory ran out
abbrev pub Mixes : List Kind → List Kind → VerifyError → Type 0
Mixes as' bs (errors.Refused at' rule) = (at' ≡ 0) × (rule ≡ 6) × (leasts as' bs ≡ None)
Mixes as' bs errors.Memory = Unit {0}

-- the kinds of a new call don't go with those that were passed before, or memory ran out
abbrev pub MixesWith : Option (Option (List ℕ)) → List Kind → VerifyError → Type 0
MixesWith (Some (Some cs)) args e = Mixes (map kind_of cs) args e
MixesWith o args e = e ≡ errors.Memory

-- a number meets a place at a call in the code of function `f`, behind those before it
pub record MixesAt (i : Parts) (f : ℕ) (tab : Marks) (old : Passed) (e : VerifyError) : Type 0 where
  pub callee : ℕ
  pub address : ℕ
  pub pair : Pair
  pub call : SeenCall i tab f callee address pair
  pub before : Passed
  pub passed : (seen : Calls)
      → IsPassed i seen tab old → IsPassed i (with_calls seen f address) tab before
  pub mixes : MixesWith (slice_get before callee) (take (params_of i callee) pair.ops) e

-- an answer blames a call in the code of `f` that mixes number and place, or want of memory
abbrev pub BlamesMixed : Parts → ℕ → Marks → Passed → VerifyError → Type 0
BlamesMixed i f tab old (errors.Refused at' rule) = MixesAt i f tab old (errors.Refused at' rule)
BlamesMixed i f tab old errors.Memory = Unit {0}

-- an instruction in the code of f names a slot that isn't there, or memory ran out
abbrev pub BlamesSlot : Parts → ℕ → List (Option Kind) → VerifyError → Type 0
BlamesSlot i f ss (errors.Refused at' rule) =
    (rule ≡ 3) × (x : Placed) × (code_at i f at' ≡ Some x) × (slot_right ss x.instr ≡ false)
BlamesSlot i f ss errors.Memory = Unit {0}
