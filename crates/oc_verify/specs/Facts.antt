-- What the verifier finds out of an image before it walks through the code.
use Rattle.std.specs.Prelude.{◌≡◌, ◌≤◌, ◌<◌, ℕ, suc, List, [], ◌∷◌, length, map, max, Bool, true, false, nat_le, nat_lt, slice_get, Option, Some, None, if◌then◌else◌}
use Rattle.std.proofs.Math.ListN.{get_or}
use Rattle.oc_tree.specs.Reach.{linked}
use Rattle.oc_tree.specs.declared.said.Target.{Target}
use Rattle.oc_tree.specs.declared.said.Target.TheVariants.{Nv, Param}
use Rattle.oc_isa.specs.declared.image.ImageFunction.{ImageFunction}
use Rattle.oc_isa.specs.declared.instr.Placed.{Placed}
use Rattle.oc_isa.specs.declared.instr.Instr.{Instr}
use Rattle.oc_isa.specs.declared.instr.Instr.TheVariants.{Call}
use Rattle.oc_isa.specs.Image.{Parts}
use Rattle.oc_verify.specs.declared.kind.Kind.{Kind}
use Rattle.oc_verify.specs.Told.{kind_of}
use Rattle.oc_verify.specs.Rules.{calls_of, code_at, counts_fit, end_at, gives, laid_out, main_number, names_exist, nv_words, params_of, returns_right}

-- how many parameters a function must have, so that a region may write this target
abbrev pub need : Target → ℕ
need (Nv base len) = 0
need (Param slot len) = suc slot

-- how many parameters a function must have, so that a region may write these targets
abbrev pub needs : List Target → ℕ
needs [] = 0
needs (t ∷ ts) = max (need t) (needs ts)

-- functions lie in the code, and the counts of an image fit
pub record IsLaid (i : Parts) : Type 0 where
  pub laid : laid_out i ≡ true
  pub counts : counts_fit i ≡ true
  pub low : i.stack ≤ 65536

-- of an image that is laid out: its main function, its nonvolatile words, which functions give a
-- result, and what regions need
pub record IsKnown (i : Parts) (m w : ℕ) (rs : List Bool) (ns : List ℕ) : Type 0 where
  pub laid : IsLaid i
  pub main : m ≡ main_number i
  pub words : w ≡ nv_words i
  pub sized : length rs ≡ length i.functions
  pub results : (f : ℕ) → get_or rs f false ≡ gives i f
  pub regions : ns ≡ map needs i.targets

-- all that the code of a function names exists, and its returns are right
abbrev pub IsNamed : Parts → ℕ → Type 0
IsNamed i f =
    (a : ℕ) (p : Placed) → code_at i f a ≡ Some p
    → (names_exist i f p.instr ≡ true) × (returns_right i f p.instr ≡ true)

-- a number for each function, which falls along every call
pub record IsRanked (i : Parts) (ranks : List ℕ) : Type 0 where
  pub sized : length ranks ≡ length i.functions
  pub falls : (u v : ℕ) → linked (calls_of i) u v ≡ true → get_or ranks v 0 < get_or ranks u 0
  pub low : (u : ℕ) → get_or ranks u 0 ≤ length i.functions

-- the function whose code goes on at an address, where this one is next
abbrev pub goes_on : ℕ → ℕ → Option ImageFunction → ℕ
goes_on f a None = f
goes_on f a (Some g) = if nat_le g.entry a then suc f else f

-- where the code of a function begins and ends
abbrev pub IsStretch : Parts → ℕ → ℕ × ℕ → Type 0
IsStretch i f s =
    (g : ImageFunction) × (slice_get i.functions f ≡ Some g) × (s.0 ≡ g.entry)
    × (s.1 ≡ end_at i.functions (length i.code) f) × (s.1 ≤ length i.code)

-- a call has more arguments than the stack of the machine has words
abbrev pub crowds : Parts → Instr → Bool
crowds i (Call g) = nat_lt i.stack (params_of i g)
crowds i x = false

-- the code of a function is walked through, whose parameters have these kinds, by their numbers
pub record Scene : Type 0 where
  pub image : Parts
  pub function : ℕ
  pub codes : List ℕ

-- the kinds of the parameters in a scene
abbrev pub scene_kinds : Scene → List Kind
scene_kinds s = map kind_of s.codes
