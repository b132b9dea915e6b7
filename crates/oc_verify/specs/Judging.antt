-- What an instruction makes of kinds, and what it makes of open regions.
use Rattle.std.specs.Prelude.{◌≤◌, ◌-◌, ℕ, List, ◌∷◌, length, Option, Result, Ok, IfOk, OnOk}
use Rattle.oc_isa.specs.declared.instr.Instr.{Instr}
use Rattle.oc_isa.specs.declared.instr.Instr.TheVariants.{Push, Load, Store, Nload, Nstore, Addr, Naddr, Get, Put, Index, Bin, Un, Jfalse, Call, Ret, Retv, Drop, Sense, Emit}
use Rattle.oc_isa.specs.declared.instr.Instr.TheVariants.{Enter, Commit, Halt}
use Rattle.oc_isa.specs.Image.{Parts}
use Rattle.oc_verify.specs.declared.fault.Fault.{Fault}
use Rattle.oc_verify.specs.declared.kind.Kind.{Kind}
use Rattle.oc_verify.specs.declared.kind.Kind.TheVariants.{Number, Place}
use Rattle.oc_verify.specs.Rules.{Judged, ◌>>=◌, closing, dropping, gives, none_open, number, number_slot, nv_words, params_of, place, run, slot}
use Rattle.oc_verify.specs.Stacks.{Grows, Nodes}
use Rattle.oc_verify.specs.Told.{IsJudgment, kinds}
use Rattle.oc_verify.specs.Typing.{level, result}

-- what an instruction, in a function with these slots, makes of the kinds on the operand stack
abbrev pub on_operands : Parts → List (Option Kind) → Instr → List Kind → Judged (List Kind)
on_operands i ss (Push c) ks = Ok (Number ∷ ks)
on_operands i ss (Load s) ks = slot (level ss s) >>= λ k. Ok (k ∷ ks)
on_operands i ss (Store s) ks = number_slot (level ss s) >>= λ k. number ks
on_operands i ss (Nload a) ks = Ok (Number ∷ ks)
on_operands i ss (Nstore a) ks = number ks
on_operands i ss (Naddr a) ks = Ok (Place (nv_words i - a) ∷ ks)
on_operands i ss (Addr s) ks = number_slot (level ss s) >>= λ k. Ok (Place (run ss s 0) ∷ ks)
on_operands i ss Get ks = place 1 ks >>= λ rest. Ok (Number ∷ rest)
on_operands i ss Put ks = place 1 ks >>= number
on_operands i ss (Index n) ks =
    number ks >>= λ below. place n below >>= λ rest. Ok (Place 1 ∷ rest)
on_operands i ss (Bin op) ks =
    number ks >>= λ below. number below >>= λ rest. Ok (Number ∷ rest)
on_operands i ss (Un op) ks = number ks >>= λ rest. Ok (Number ∷ rest)
on_operands i ss (Jfalse t) ks = number ks
on_operands i ss (Call f) ks = dropping (params_of i f) ks >>= λ rest. Ok (result (gives i f) rest)
on_operands i ss (Retv k) ks = number ks
on_operands i ss Drop ks = number ks
on_operands i ss (Sense s) ks = Ok (Number ∷ ks)
on_operands i ss (Emit p) ks = number ks
on_operands i ss x ks = Ok ks

-- what an instruction makes of the open regions
abbrev pub on_regions : Instr → List ℕ → Judged (List ℕ)
on_regions (Ret k) rs = none_open rs >>= λ none. Ok rs
on_regions (Retv k) rs = none_open rs >>= λ none. Ok rs
on_regions (Enter r) rs = Ok (r ∷ rs)
on_regions (Commit r) rs = closing r rs
on_regions Halt rs = none_open rs >>= λ none. Ok rs
on_regions x rs = Ok rs

-- the answer is the number of a stack with the kinds that were judged, unless memory ran out, and
-- earlier stacks keep their numbers
pub record TellsStack (before after : Nodes) (result : Result ℕ Fault) (judged : Judged (List Kind))
    : Type 0 where
  pub exact : IsJudgment (λ n. kinds after n) result judged
  pub within : IfOk result (λ n. n ≤ length after)
  pub grows : OnOk result (Grows before after)
