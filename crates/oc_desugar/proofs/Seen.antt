-- What the written program and its expansion have in common, as the rules see it: the top level, the scopes, what calls
-- reach, and the temporaries of a statement, each of which is held in the scope with the type of its pull.
use Rattle.std.proofs.Common.{◌≡◌, ℕ, ◌+◌, true, false, List, [], ◌∷◌, map, Option, Some, None}
use Rattle.std.specs.Prelude.{is_some, option_map}
use Rattle.oc_lex.specs.Stands.{IsName}
use Rattle.oc_tree.specs.Names.{Text}
use Rattle.oc_tree.specs.Tree.{TRight, right_value, right_sense, right_call, TKind, TFunction, TProgram}
use Rattle.oc_tree.specs.declared.tree.Param.{Param}
use Rattle.oc_tree.specs.declared.tree.Scalar.{Scalar}
use Rattle.oc_tree.specs.declared.tree.Scalar.TheVariants as scalars
use Rattle.oc_tree.specs.declared.scope.Origin.{Origin}
use Rattle.oc_tree.specs.declared.scope.Origin.TheVariants as origins
use Rattle.oc_tree.specs.declared.scope.Var.{Var}
use Rattle.oc_tree.specs.Calls.{reaches_mention}
use Rattle.oc_tree.specs.Scope.{Scope, variable_in, is_declared}
use Rattle.oc_tree.specs.Types.{scalar_of, is_reference, call_type}
use Rattle.oc_tree.specs.Elements.{Here}
use Rattle.oc_tree.specs.Expansion.{temporary, pulled}
use Rattle.oc_tree.specs.Rules.{back_to}

-- ---- the top level

-- what the expansion leaves of a function as it is
pub record Head : Type 0 where
  pub name : Text
  pub line : ℕ
  pub params : List Param
  pub result : Option Scalar

abbrev pub head_of : TFunction → Head
head_of f = record { name = f.name; line = f.line; params = f.params; result = f.result }

-- both programs have the same names, nonvolatile variables and heads of functions
pub record SameTop (p q : TProgram) : Type 0 where
  pub names : q.names ≡ p.names
  pub nv : q.nv ≡ p.nv
  pub heads : map head_of q.functions ≡ map head_of p.functions

-- what calls reach is the same in both
pub record SameReach (p q : TProgram) : Type 0 where
  pub back : (n u : ℕ) → back_to q n u ≡ back_to p n u
  pub mention : (x : Text) → IsName x → (u : ℕ) → reaches_mention q.functions x u ≡ reaches_mention p.functions x u

-- no temporary has a name of the top level
abbrev pub NoTemporary : TProgram → Type 0
NoTemporary p = (k : ℕ) → is_declared p (temporary k) ≡ false

-- ---- scopes

-- statements have new numbers, told by `f`
abbrev pub new_origin : (ℕ → ℕ) → Origin → Origin
new_origin f (origins.Let m id b) = origins.Let m (f id) b
new_origin f o = o

abbrev pub new_var : (ℕ → ℕ) → Var → Var
new_var f v = record { origin = new_origin f v.origin; kind = v.kind }

-- each name of the language means the same in the scope `t` of the expansion as in the scope `s`
abbrev pub Sees : (ℕ → ℕ) → (s t : Scope) → Type 0
Sees f s t = (x : Text) → IsName x → variable_in t x ≡ option_map (new_var f) (variable_in s x)

-- the place `g` of a statement in the expansion is that of the written statement at `h`; which one is the last of its
-- function is said apart, since a temporary's `let` never is
pub record SameHere (f : ℕ → ℕ) (h g : Here) : Type 0 where
  pub head : head_of g.function ≡ head_of h.function
  pub number : g.number ≡ h.number
  pub scope : Sees f h.scope g.scope
  pub block : g.block ≡ h.block

-- ---- temporaries

-- the temporary of pull `k` is a variable of this type, and no reference
pub record IsHeld (t : Scope) (k : ℕ) (type : Option Scalar) : Type 0 where
  pub var : Var
  pub visible : variable_in t (temporary k) ≡ Some var
  pub own : is_reference var.origin ≡ false
  pub typed : scalar_of var.kind ≡ type
  pub some : is_some type ≡ true

-- the type of a pull, by its right side
abbrev pub pull_type : TProgram → TRight → Option Scalar
pull_type p (right_value e) = None
pull_type p (right_sense s) = Some scalars.Int
pull_type p (right_call c) = call_type p c

-- the temporaries of these pulls, numbered from `k`, are held. Of a statement and its first pulls:
-- `pulled k s ≡ front ++ r ∷ back` and `HeldPulls p t k front` where the `let` of the temporary of `r` stands, which has
-- the number `k + length front`; and `HeldOwn p t k s` where the statement itself stands
abbrev pub HeldPulls : TProgram → Scope → ℕ → List TRight → Type 0
HeldPulls p t k [] = Unit {0}
HeldPulls p t k (r ∷ rs) = IsHeld t k (pull_type p r) × HeldPulls p t (k + 1) rs

-- the temporaries of all pulls of a statement are held
abbrev pub HeldOwn : TProgram → Scope → ℕ → TKind → Type 0
HeldOwn p t k s = HeldPulls p t k (pulled k s)
