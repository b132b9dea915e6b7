-- What names stand for in a run over variables of its own, as the rules see them.
use Rattle.std.specs.Prelude.{◌≡◌, ◌<◌, ◌≤◌, ◌+◌, ℕ, suc, ℤ, true, false, List, [], ◌∷◌, length, Some, None, slice_get, codes}
use Rattle.oc_tree.specs.Names.{Text}
use Rattle.oc_tree.specs.Tree.{TCall, call, TArgs, TKind, let_to, let_array, TFunction, TProgram}
use Rattle.oc_tree.specs.declared.tree.Param.{Param}
use Rattle.oc_tree.specs.Calls.{function_place}
use Rattle.oc_tree.specs.Scope.{Scope, variable_in, variable_of, is_variable, with_params}
use Rattle.oc_tree.specs.Types.{is_reference, is_by_reference}
use Rattle.oc_tree.specs.Elements.{turn_var}
use Rattle.oc_tree.specs.Rules.{origin_is, call_meets, arg_lends, call_args, lends_alone, call_exposes}
use Rattle.std.specs.List.{list_all}
use Rattle.oc_meaning.specs.Store.{Place, Local, Global, Turn, Nowhere, Store, Binding, binding_of, place_of}
use Rattle.oc_tree.specs.Marked.{TRegion}
use Rattle.oc_meaning.specs.Exec.{Outcome, Went, Returned, Stopped, Passed, Copied, Lent, Passes, args_of, kind_run}
use Rattle.oc_meaning.specs.Run.{first_store, call_to}
use Rattle.oc_tree.specs.Checked.{Group, IsChecked}
use Rattle.oc_tree.specs.Walks.{call_known}
use Rattle.oc_copies.specs.Copies.{AreCopies, AreCopiedBack, IsFrame, MayPass, HasStored, nv_name, own_frame, own_run}

-- the place of a local variable or of a nonvolatile one
abbrev pub IsVariablePlace : Place → Type 0
IsVariablePlace (Local l) = Unit {0}
IsVariablePlace (Global g) = Unit {0}
IsVariablePlace q = ⊥

-- Where a function runs over variables of its own, each variable that the rules see has a place of its own, the names
-- of nonvolatile variables stand for these alone, and a name is a reference where the rules say so.
pub record Stands (p : TProgram) (scope : Scope) (env : List Binding) (σ : Store) : Type 0 where
  pub found : (x : Text) → is_variable p scope x ≡ true → place_of env x ≡ Nowhere → ⊥
  pub local : (x : Text) (l : ℕ) → place_of env x ≡ Local l → l < length σ.locals
  pub stored : (x : Text) (k : ℕ)
      → place_of env x ≡ Global k → (nv_name p k ≡ Some x) × (variable_in scope x ≡ None)
  pub turn : (x : Text) (z : ℤ) → place_of env x ≡ Turn z → variable_in scope x ≡ Some turn_var
  pub reference : (x : Text)
      → (binding_of env x).reference ≡ origin_is is_reference (variable_of p scope x)
  pub apart : (x y : Text)
      → IsVariablePlace (place_of env x) → place_of env x ≡ place_of env y → x ≡ y

-- a place for each parameter by reference, and a value for each other
abbrev pub AreFormed : List Param → List Passed → Type 0
AreFormed [] [] = Unit {0}
AreFormed (q ∷ qs) (Copied v ∷ ps) = (is_by_reference q.passing ≡ false) × AreFormed qs ps
AreFormed (q ∷ qs) (Lent a ∷ ps) = (is_by_reference q.passing ≡ true) × AreFormed qs ps
AreFormed qs ps = ⊥

-- what the rules say of a call
pub record IsRuledCall (p : TProgram) (scope : Scope) (c : TCall) : Type 0 where
  pub known : call_known p scope c ≡ true
  pub meets : call_meets p scope c ≡ true
  pub lends : list_all (arg_lends p scope) (call_args c) ≡ true
  pub alone : lends_alone p c ≡ true
  pub hidden : call_exposes p scope c ≡ false

-- What such a call passes may be passed.
abbrev pub CallsMayPass : Type 0
CallsMayPass =
    (p : TProgram) (scope : Scope) (env : List Binding) (σ : Store)
    → Stands p scope env σ → (f : Text) (args : TArgs) → IsRuledCall p scope (call f args)
    → (v : ℕ) (g : TFunction) → function_place p.functions f ≡ Some v
    → slice_get p.functions v ≡ Some g → (ps : List Passed) → args_of env σ args ≡ Passes ps
    → MayPass p v g ps σ × AreFormed g.params ps

-- A function that begins over variables of its own sees them so.
abbrev pub FramesStand : Type 0
FramesStand =
    (p : TProgram) (groups : List Group) → IsChecked p groups → (f : ℕ) (g : TFunction)
    → slice_get p.functions f ≡ Some g → (ps : List Passed) (σ : Store) → AreFormed g.params ps
    → Stands p (with_params [] g.params)
    (own_frame p g ps σ).env (record σ { locals = (own_frame p g ps σ).locals })

-- ---- how many variables there are

-- m local variables more, as many nonvolatile ones, and no sample given back
pub record IsBehind (m : ℕ) (σ τ : Store) : Type 0 where
  pub locals : length τ.locals ≡ length σ.locals + m
  pub nv : length τ.nv ≡ length σ.nv
  pub taken : σ.taken ≤ τ.taken

abbrev pub Makes : ℕ → Store → Outcome → Type 0
Makes m σ (Went τ) = IsBehind m σ τ
Makes m σ (Returned v τ) = IsBehind 0 σ τ
Makes m σ (Stopped s τ) = σ.taken ≤ τ.taken

-- the variable that a statement makes
abbrev pub makes : TKind → ℕ
makes (let_to m x t r) = 1
makes (let_array m x t z n) = 1
makes k = 0

-- A call leaves as many variables as there were, and so does the run of its body over variables of its own.
abbrev pub CallsMakeNone : Type 0
CallsMakeNone =
    (p : TProgram) (regions : List TRegion) (depth : ℕ) (x : Text) (ps : List Passed) (σ : Store)
    → Makes 0 σ (call_to p regions depth x ps σ)

abbrev pub OwnRunsMakeNone : Type 0
OwnRunsMakeNone =
    (p : TProgram) (regions : List TRegion)
    (depth : ℕ) (g : TFunction) (ps : List Passed) (σ : Store) → Makes 0
    (record σ { locals = (own_frame p g ps σ).locals }) (own_run p regions depth g ps σ)

-- a statement makes its variable alone
abbrev pub StatementsMake : Type 0
StatementsMake =
    (p : TProgram) (regions : List TRegion)
    (depth : ℕ) (home : ℤ → ℕ) (env : List Binding) (n : ℕ) (k : TKind) (σ : Store)
    → Makes (makes k) σ (kind_run p.names regions (call_to p regions depth) home env n k σ)

-- ---- a call as a whole

-- What a call that breaks no rule does: it runs the function's body over variables of its own, which stand as the
-- rules see them, and copies them back.
pub record DoesCopy (p : TProgram)
    (regions : List TRegion) (depth : ℕ) (f : Text) (ps : List Passed) (σ : Store) : Type 0 where
  pub number : ℕ
  pub function : TFunction
  pub placed : function_place p.functions f ≡ Some number
  pub stands : slice_get p.functions number ≡ Some function
  pub may : MayPass p number function ps σ
  pub formed : AreFormed function.params ps
  pub begins : Stands p (with_params [] function.params)
      (own_frame p function ps σ).env (record σ { locals = (own_frame p function ps σ).locals })
  pub holds : IsFrame
      (length σ.locals) ps σ (record σ { locals = (own_frame p function ps σ).locals })
  pub back : AreCopiedBack p (length σ.locals) function ps σ
      (call_to p regions (suc depth) f ps σ) (own_run p regions depth function ps σ)
  pub copies : AreCopies (length σ.locals) function ps
      (call_to p regions (suc depth) f ps σ) (own_run p regions depth function ps σ)

abbrev pub CallsDoCopy : Type 0
CallsDoCopy =
    (p : TProgram) (groups : List Group) → IsChecked p groups
    → (regions : List TRegion) (depth : ℕ) (scope : Scope) (env : List Binding) (σ : Store)
    → Stands p scope env σ → HasStored p σ
    → (f : Text) (args : TArgs) → IsRuledCall p scope (call f args)
    → (ps : List Passed) → args_of env σ args ≡ Passes ps → DoesCopy p regions depth f ps σ

-- so does the run of a program
abbrev pub MainCopies : Type 0
MainCopies =
    (p : TProgram) (groups : List Group)
    → IsChecked p groups → (regions : List TRegion) (samples : List ℤ)
    → HasStored p (first_store p samples)
    × DoesCopy p regions (length p.functions) (codes "main") [] (first_store p samples)
