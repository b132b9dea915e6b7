-- What an answer of the verifier blames.
use Rattle.std.specs.Prelude.{◌≡◌, ℕ, List}
use Rattle.oc_isa.specs.Image.{Parts}
use Rattle.oc_verify.specs.declared.fault.VerifyError.{VerifyError}
use Rattle.oc_verify.specs.declared.fault.VerifyError.TheVariants as errors
use Rattle.oc_verify.specs.declared.fault.Fault.{Fault}
use Rattle.oc_verify.specs.declared.fault.Fault.TheVariants as faults
use Rattle.oc_verify.specs.Rules.{Broken, Kinds, AreRight, IsCalled}
use Rattle.oc_verify.specs.declared.kind.Kind.{Kind}

-- the rule that an answer names is broken there, unless memory ran out
abbrev pub Blames : Parts → VerifyError → Type 0
Blames i (errors.Refused at' rule) = Broken i at' rule
Blames i errors.Memory = Unit {0}

-- the rule that an answer names is broken, where these are the kinds of the parameters of function
-- `f`, and it is called
abbrev pub BlamesIn : Parts → ℕ → List Kind → VerifyError → Type 0
BlamesIn i f ks e = (t : Kinds) → t f ≡ ks → AreRight i t f → IsCalled i t f → Blames i e

-- a fault, as one at this address
abbrev pub fault_at : ℕ → Fault → VerifyError
fault_at a (faults.Broken rule) = errors.Refused a rule
fault_at a faults.Memory = errors.Memory
