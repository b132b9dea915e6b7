-- How many stack words functions need.
use Rattle.std.specs.Prelude.{◌≡◌, ◌≤◌, ◌<◌, ℕ, ◌+◌, ◌-◌, List, length, max, Some, Bool, true, ◌&&◌, ◌||◌, ◌==◌, nat_lt}
use Rattle.std.proofs.Math.ListN.{get_or}
use Rattle.oc_isa.specs.declared.instr.Instr.{Instr}
use Rattle.oc_isa.specs.declared.instr.Instr.TheVariants.{Call}
use Rattle.oc_verify.specs.declared.fault.VerifyError.{VerifyError}
use Rattle.oc_verify.specs.declared.fault.VerifyError.TheVariants as errors
use Rattle.oc_isa.specs.declared.instr.Placed.{Placed}
use Rattle.oc_isa.specs.Image.{Parts}
use Rattle.oc_verify.specs.Typing.{Pair}
use Rattle.oc_verify.specs.Rules.{Holds, code_at, main_number, params_of}
use Rattle.oc_verify.specs.Verified.{frame_at}
use Rattle.oc_verify.specs.Work.{Marks}
use Rattle.oc_verify.specs.Tables.{IsDone, all_done, Passed, SeenCall, is_walked, kinds_of}

-- each function has so many words at all of its addresses, with what it calls there
pub record IsEnough (i : Parts) (tab : Marks) (f : ℕ) (bound : ℕ → ℕ) : Type 0 where
  pub high : (a : ℕ) (p : Pair) (x : Placed)
      → code_at i f a ≡ Some x → tab a ≡ Some p → frame_at i f + length p.ops ≤ bound f
  pub deep : (g a : ℕ) (p : Pair)
      → SeenCall i tab f g a p → frame_at i f + (length p.ops - params_of i g) + bound g ≤ bound f

-- each function has enough words by these bounds, and the stack has as many as `main` needs
pub record HasRoom (i : Parts) (tab : Marks) (bound : ℕ → ℕ) : Type 0 where
  pub each : (f : ℕ) → IsEnough i tab f bound
  pub room : bound (main_number i) ≤ i.stack

-- how many words function f needs at an instruction, with what it calls there, where it has so many
-- on its operand stack
abbrev pub needed : Parts → List ℕ → ℕ → Instr → ℕ → ℕ
needed i bounds f (Call g) h =
    max (frame_at i f + (h - params_of i g) + get_or bounds g 0) (frame_at i f + h)
needed i bounds f x h = frame_at i f + h

-- an address in the code of a function that was looked at, with its instruction and its pair
pub record SeenAt (i : Parts) (tab : Marks) (f : ℕ) (x : Placed) (p : Pair) : Type 0 where
  pub address : ℕ
  pub found : code_at i f address ≡ Some x
  pub pair : tab address ≡ Some p

-- how many words function `f` needs at an instruction with this pair, with what it calls there
abbrev pub needed_at : Parts → List ℕ → ℕ → Placed → Pair → ℕ
needed_at i bounds f x p = needed i bounds f x.instr (length p.ops)

-- function `f` needs `m` words at an address that was looked at, and no more at any
pub record IsMost (i : Parts) (tab : Marks) (bounds : List ℕ) (f m : ℕ) : Type 0 where
  pub low : m ≤ i.stack
  pub most : (x : Placed) (p : Pair) → SeenAt i tab f x p → needed_at i bounds f x p ≤ m
  pub held : (x : Placed) (p : Pair)
      → SeenAt i tab f x p
      → (y : Placed) × (q : Pair) × SeenAt i tab f y q × (m ≡ needed_at i bounds f y q)

-- function `f` needs more words somewhere than the stack has, or memory ran out
abbrev pub BlamesDeep : Parts → Marks → List ℕ → ℕ → VerifyError → Type 0
BlamesDeep i tab bounds f (errors.Refused at' rule) =
    (at' ≡ 0) × (rule ≡ 11) × (x : Placed) × (p : Pair) × SeenAt i tab f x p
    × (i.stack < needed_at i bounds f x p)
BlamesDeep i tab bounds f errors.Memory = Unit {0}

-- a function that is executed comes to hold so many words
abbrev pub IsHeld : Parts → Marks → ℕ → ℕ → Type 0
IsHeld i tab f m =
    (ps : Passed) → IsDone i (all_done i) tab ps → is_walked i ps f ≡ true
    → (n : ℕ) × Holds i (kinds_of i ps) n f m

-- functions of rank below k have their bounds, and of this rank those below f
abbrev pub bounded_by : (n : ℕ) (ranks : List ℕ) (k f : ℕ) → ℕ → Bool
bounded_by n ranks k f h =
    nat_lt h n && (nat_lt (get_or ranks h 0) k || (nat_lt h f && (get_or ranks h 0 == k)))

-- these functions have their bounds
pub record AreBounded (i : Parts) (tab : Marks) (done : ℕ → Bool) (bounds : List ℕ) : Type 0 where
  pub sized : length bounds ≡ length i.functions
  pub low : (g : ℕ) → get_or bounds g 0 ≤ i.stack
  pub enough : (f : ℕ) → done f ≡ true → IsEnough i tab f (λ g. get_or bounds g 0)
  pub held : (f : ℕ) → done f ≡ true → IsHeld i tab f (get_or bounds f 0)
