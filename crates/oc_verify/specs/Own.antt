-- The slots of a function, with kinds as numbers.
use Rattle.std.specs.Prelude.{ℕ, ◌+◌, List, [], ◌∷◌, map, replicate, Option, Some, None, Bool, true, false, ◌&&◌, ◌||◌, if◌then◌else◌, nat_le, nat_lt}
use Rattle.oc_isa.specs.declared.image.ImageFunction.{ImageFunction}
use Rattle.oc_isa.specs.declared.instr.Instr.{Instr}
use Rattle.oc_isa.specs.declared.instr.Instr.TheVariants.{Load, Store, Addr}
use Rattle.oc_verify.specs.declared.kind.Kind.{Kind}
use Rattle.oc_verify.specs.Typing.{slots_by}
use Rattle.oc_verify.specs.Rules.{more}
use Rattle.oc_verify.specs.Told.{kind_of}

-- a function, whether it is `main`, and the kinds of its parameters, the last first
pub record Own : Type 0 where
  pub main : Bool
  pub function : ImageFunction
  pub codes : List ℕ

-- the kinds of a function's slots, the last first
abbrev pub own_list : Own → List (Option Kind)
own_list o = slots_by o.main o.function (map kind_of o.codes)

-- the kind of a slot, where it is one and no link
abbrev pub slot_kind : Option (Option Kind) → Option Kind
slot_kind None = None
slot_kind (Some k) = k

-- how many numbers follow each other from each parameter on, the last first; n follow behind the
-- last
abbrev pub runs_of : ℕ → List Kind → List ℕ
runs_of n [] = []
runs_of n (k ∷ ks) = more (Some k) n ∷ runs_of (more (Some k) n) ks

-- the number 0, for a slot that is in the frame
abbrev pub in_frame : Own → ℕ → Option ℕ
in_frame o s = if nat_lt s o.function.frame then Some 0 else None

-- a function other than `main` whose parameters are numbers
abbrev pub plain : ImageFunction → Own
plain g = record { main = false; function = g; codes = replicate g.params 0 }

-- a slot of a function whose parameters are numbers: a parameter, or what lies above the links
abbrev pub plain_slot : ImageFunction → ℕ → Bool
plain_slot g s = nat_lt s g.params || (nat_le (g.params + 2) s && nat_lt s g.frame)

-- the slot that an instruction names is there, where all parameters are numbers
abbrev pub plain_right : ImageFunction → Instr → Bool
plain_right g (Load s) = plain_slot g s
plain_right g (Store s) = plain_slot g s
plain_right g (Addr s) = plain_slot g s
plain_right g x = true
