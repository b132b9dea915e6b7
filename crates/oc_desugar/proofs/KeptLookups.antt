-- What names stand for in the expansion: a name of the language stands for what it stood for in the written program, and
-- a temporary for its variable.
use Rattle.std.proofs.Common.{◌≡◌, ℕ, Bool, true, false, true≢false, List, [], ◌∷◌, map, Option, Some, None, cond, refl, ap, sym, ◌∙◌}
use Rattle.std.specs.Prelude.{is_some, not, ◌||◌, slice_get, option_map, option_and_then}
use Rattle.std.specs.Str.{bytes_eq}
use Rattle.std.proofs.lemmas.Option.{slice_get-map}
use Rattle.std.proofs.lemmas.Slice.Eq.{bytes_eq-Decides}
use Rattle.oc_lex.specs.Bytes.{begins_name}
use Rattle.oc_lex.specs.Stands.{IsName}
use Rattle.oc_tree.specs.Names.{Text}
use Rattle.oc_tree.specs.Tree.{TFunction, TProgram}
use Rattle.oc_tree.specs.declared.tree.NvDecl.{NvDecl}
use Rattle.oc_tree.specs.declared.tree.Param.{Param}
use Rattle.oc_tree.specs.declared.tree.Scalar.{Scalar}
use Rattle.oc_tree.specs.declared.tree.ValueKind.{ValueKind}
use Rattle.oc_tree.specs.declared.scope.Origin.{Origin}
use Rattle.oc_tree.specs.declared.scope.Origin.TheVariants as origins
use Rattle.oc_tree.specs.declared.scope.Var.{Var}
use Rattle.oc_tree.specs.Calls.{place, function_place, function_names}
use Rattle.oc_tree.specs.Scope.{Scope, variable_in, variable_of, is_variable, is_name_of, is_declared, is_taken, is_in_scope, nv_var, nv_named, or_nv, function_named}
use Rattle.oc_tree.specs.Types.{scalar_of, is_reference, value_type, pointed_type, has_elements, result_of}
use Rattle.oc_tree.specs.Rules.{only_reference, has_kind, origin_is, is_mutable_param, is_writable, is_writable_array, is_own, is_let_in, is_nv, params_of}
use Rattle.oc_tree.specs.Expansion.{temporary}
use Rattle.oc_desugar.proofs.Seen.{Head, head_of, SameTop, Sees, new_origin, new_var, IsHeld}

-- ---- names of the language and temporaries

-- no byte that begins a name is a point
no_point : begins_name 46 ≡ false
unfolding begins_name
no_point = refl

-- a temporary has no name of the language
pub apart : (x : Text) → IsName x → (k : ℕ) → bytes_eq x (temporary k) ≡ false
apart [] n k = absurd n.0
apart (b ∷ bs) n k = by (bytes_eq (b ∷ bs) (temporary k)) refl
  where
    first : List ℕ → ℕ
    first [] = 0
    first (c ∷ cs) = c

    by : (same : Bool) → bytes_eq (b ∷ bs) (temporary k) ≡ same → same ≡ false
    by false e = refl
    by true e =
        let point : b ≡ 46 = ap first ((bytes_eq-Decides (b ∷ bs) (temporary k)).0 e) in
        absurd (true≢false (sym n.0.0 ∙ ap begins_name point ∙ no_point))

pub same_text : (x : Text) → bytes_eq x x ≡ true
same_text x = (bytes_eq-Decides x x).1 refl

-- ---- functions

names_of_heads : (fs : List TFunction) → function_names fs ≡ map (λ h. h.name) (map head_of fs)
names_of_heads [] = refl
names_of_heads (f ∷ fs) = ap (λ l. f.name ∷ l) (names_of_heads fs)

pub same_names : {p q : TProgram} → SameTop p q → function_names q.functions ≡ function_names p.functions
same_names {p = p} {q = q} top = names_of_heads q.functions ∙ ap (map (λ h. h.name)) top.heads ∙ sym (names_of_heads p.functions)

pub same_place : {p q : TProgram} → SameTop p q → (x : Text) → function_place q.functions x ≡ function_place p.functions x
same_place top x = ap (λ l. place l x) (same_names top)

head_named : (p : TProgram) (i : Option ℕ) → option_map head_of (option_and_then (λ j. slice_get p.functions j) i) ≡ option_and_then (λ j. slice_get (map head_of p.functions) j) i
head_named p None = refl
head_named p (Some j) = sym (slice_get-map head_of p.functions j)

-- a name stands for a function with the same head
same_head : {p q : TProgram} → SameTop p q → (x : Text) → option_map head_of (function_named q x) ≡ option_map head_of (function_named p x)
same_head {p = p} {q = q} top x =
    head_named q (function_place q.functions x)
    ∙ ap (λ hs. option_and_then (λ j. slice_get hs j) (function_place q.functions x)) top.heads
    ∙ ap (option_and_then (λ j. slice_get (map head_of p.functions) j)) (same_place top x)
    ∙ sym (head_named p (function_place p.functions x))

abbrev head_params : Option Head → List Param
head_params None = []
head_params (Some h) = h.params

params_by_head : (f : Option TFunction) → params_of f ≡ head_params (option_map head_of f)
params_by_head None = refl
params_by_head (Some f) = refl

abbrev head_result : Option Head → Option Scalar
head_result None = None
head_result (Some h) = h.result

result_by_head : (f : Option TFunction) → result_of f ≡ head_result (option_map head_of f)
result_by_head None = refl
result_by_head (Some f) = refl

-- a call of a name has the same parameters, and the same type
pub same_params : {p q : TProgram} → SameTop p q → (x : Text) → params_of (function_named q x) ≡ params_of (function_named p x)
same_params {p = p} {q = q} top x = params_by_head (function_named q x) ∙ ap head_params (same_head top x) ∙ sym (params_by_head (function_named p x))

pub same_result : {p q : TProgram} → SameTop p q → (x : Text) → result_of (function_named q x) ≡ result_of (function_named p x)
same_result {p = p} {q = q} top x = result_by_head (function_named q x) ∙ ap head_result (same_head top x) ∙ sym (result_by_head (function_named p x))

-- ---- the top level

pub same_sensor : {p q : TProgram} → SameTop p q → (x : Text) → is_name_of q.names.sensors x ≡ is_name_of p.names.sensors x
same_sensor top x = ap (λ n. is_name_of n.sensors x) top.names

pub same_port : {p q : TProgram} → SameTop p q → (x : Text) → is_name_of q.names.ports x ≡ is_name_of p.names.ports x
same_port top x = ap (λ n. is_name_of n.ports x) top.names

pub same_declared : {p q : TProgram} → SameTop p q → (x : Text) → is_declared q x ≡ is_declared p x
same_declared {p = p} {q = q} top x =
    ap (λ n. is_name_of n.sensors x || (is_name_of n.ports x || (is_name_of n.nvs x || is_some (function_place q.functions x)))) top.names
    ∙ ap (λ i. is_name_of p.names.sensors x || (is_name_of p.names.ports x || (is_name_of p.names.nvs x || is_some i))) (same_place top x)

same_nv : {p q : TProgram} → SameTop p q → (x : Text) → nv_named q x ≡ nv_named p x
same_nv {p = p} {q = q} top x =
    ap (λ l. option_map nv_var (option_and_then (λ i. slice_get l i) (place q.names.nvs x))) top.nv
    ∙ ap (λ n. option_map nv_var (option_and_then (λ i. slice_get p.nv i) (place n.nvs x))) top.names

new_nv : (f : ℕ → ℕ) (d : Option NvDecl) → option_map nv_var d ≡ option_map (new_var f) (option_map nv_var d)
new_nv f None = refl
new_nv f (Some d) = refl

-- ---- variables

-- both programs have the same top level, and names of the language mean the same in both scopes
pub record SameNames (p q : TProgram) (f : ℕ → ℕ) (s t : Scope) : Type 0 where
  pub top : SameTop p q
  pub sees : Sees f s t

new_or_nv : {p q : TProgram} → (f : ℕ → ℕ) → SameTop p q → (x : Text) (v : Option Var) → or_nv q x (option_map (new_var f) v) ≡ option_map (new_var f) (or_nv p x v)
new_or_nv f top x (Some v) = refl
new_or_nv {p = p} f top x None = same_nv top x ∙ new_nv f (option_and_then (λ i. slice_get p.nv i) (place p.names.nvs x))

-- a name of the language stands for the same variable, with its statement's new number
pub same_variable : {p q : TProgram} {f : ℕ → ℕ} {s t : Scope} → SameNames p q f s t → (x : Text) → IsName x → variable_of q t x ≡ option_map (new_var f) (variable_of p s x)
same_variable {q = q} {f = f} {s = s} m x n = ap (or_nv q x) (m.sees x n) ∙ new_or_nv f m.top x (variable_in s x)

some_new : (f : ℕ → ℕ) (v : Option Var) → is_some (option_map (new_var f) v) ≡ is_some v
some_new f None = refl
some_new f (Some v) = refl

pub same_is_variable : {p q : TProgram} {f : ℕ → ℕ} {s t : Scope} → SameNames p q f s t → (x : Text) → IsName x → is_variable q t x ≡ is_variable p s x
same_is_variable {p = p} {f = f} {s = s} m x n = ap is_some (same_variable m x n) ∙ some_new f (variable_of p s x)

pub same_taken : {p q : TProgram} {f : ℕ → ℕ} {s t : Scope} → SameNames p q f s t → (x : Text) → IsName x → is_taken q t x ≡ is_taken p s x
same_taken {p = p} {q = q} {f = f} {s = s} m x n =
    ap (λ v. is_some v || is_declared q x) (m.sees x n)
    ∙ ap (λ b. b || is_declared q x) (some_new f (variable_in s x))
    ∙ ap (λ b. is_in_scope s x || b) (same_declared m.top x)

-- ---- what is asked of a variable doesn't depend on the number of its statement

new_reference : (f : ℕ → ℕ) (o : Origin) → is_reference (new_origin f o) ≡ is_reference o
new_reference f (origins.Let m i b) = refl
new_reference f origins.For = refl
new_reference f (origins.Param g) = refl
new_reference f origins.Nv = refl

new_value_type : (f : ℕ → ℕ) (v : Option Var) → value_type (option_map (new_var f) v) ≡ value_type v
new_value_type f None = refl
new_value_type f (Some v) = ap (λ b. cond b None (scalar_of v.kind)) (new_reference f v.origin)

new_pointed_type : (f : ℕ → ℕ) (v : Option Var) → pointed_type (option_map (new_var f) v) ≡ pointed_type v
new_pointed_type f None = refl
new_pointed_type f (Some v) = ap (λ b. cond b (scalar_of v.kind) None) (new_reference f v.origin)

new_elements : (f : ℕ → ℕ) (v : Option Var) → has_elements (option_map (new_var f) v) ≡ has_elements v
new_elements f None = refl
new_elements f (Some v) = refl

pub new_kind : (kind : ValueKind) (f : ℕ → ℕ) (v : Option Var) → has_kind kind (option_map (new_var f) v) ≡ has_kind kind v
new_kind kind f None = refl
new_kind kind f (Some v) = refl

pub new_passed : (f : ℕ → ℕ) (v : Option Var) → only_reference (option_map (new_var f) v) ≡ option_map (new_var f) (only_reference v)
new_passed f None = refl
new_passed f (Some v) = ap (λ c. cond c (Some (new_var f v)) None) (new_reference f v.origin) ∙ by (is_reference v.origin)
  where
    by : (c : Bool) → cond c (Some (new_var f v)) None ≡ option_map (new_var f) (cond c (Some v) None)
    by true = refl
    by false = refl

-- a test that reads no number of a statement
abbrev pub Numberless : (ℕ → ℕ) → (Origin → Bool) → Type 0
Numberless f test = (o : Origin) → test (new_origin f o) ≡ test o

pub new_test : (f : ℕ → ℕ) (test : Origin → Bool) → Numberless f test → (v : Option Var) → origin_is test (option_map (new_var f) v) ≡ origin_is test v
new_test f test same None = refl
new_test f test same (Some v) = same v.origin

pub new_writable : (f : ℕ → ℕ) → Numberless f is_writable
new_writable f (origins.Let m i b) = refl
new_writable f origins.For = refl
new_writable f (origins.Param g) = refl
new_writable f origins.Nv = refl

pub new_mutable : (f : ℕ → ℕ) → Numberless f is_mutable_param
new_mutable f (origins.Let m i b) = refl
new_mutable f origins.For = refl
new_mutable f (origins.Param g) = refl
new_mutable f origins.Nv = refl

pub new_writable_array : (f : ℕ → ℕ) → Numberless f is_writable_array
new_writable_array f (origins.Let m i b) = refl
new_writable_array f origins.For = refl
new_writable_array f (origins.Param g) = refl
new_writable_array f origins.Nv = refl

pub new_own : (f : ℕ → ℕ) → Numberless f is_own
new_own f o = ap not (new_reference f o)

pub new_is_nv : (f : ℕ → ℕ) → Numberless f is_nv
new_is_nv f (origins.Let m i b) = refl
new_is_nv f origins.For = refl
new_is_nv f (origins.Param g) = refl
new_is_nv f origins.Nv = refl

pub new_let_in : (f : ℕ → ℕ) (within : ℕ) → Numberless f (is_let_in within)
new_let_in f within (origins.Let m i b) = refl
new_let_in f within origins.For = refl
new_let_in f within (origins.Param g) = refl
new_let_in f within origins.Nv = refl

-- ---- so it is the same in both

pub same_value_type : {p q : TProgram} {f : ℕ → ℕ} {s t : Scope} → SameNames p q f s t → (x : Text) → IsName x → value_type (variable_of q t x) ≡ value_type (variable_of p s x)
same_value_type {p = p} {f = f} {s = s} m x n = ap value_type (same_variable m x n) ∙ new_value_type f (variable_of p s x)

pub same_pointed_type : {p q : TProgram} {f : ℕ → ℕ} {s t : Scope} → SameNames p q f s t → (x : Text) → IsName x → pointed_type (variable_of q t x) ≡ pointed_type (variable_of p s x)
same_pointed_type {p = p} {f = f} {s = s} m x n = ap pointed_type (same_variable m x n) ∙ new_pointed_type f (variable_of p s x)

pub same_elements : {p q : TProgram} {f : ℕ → ℕ} {s t : Scope} → SameNames p q f s t → (x : Text) → IsName x → has_elements (variable_of q t x) ≡ has_elements (variable_of p s x)
same_elements {p = p} {f = f} {s = s} m x n = ap has_elements (same_variable m x n) ∙ new_elements f (variable_of p s x)

pub same_test : {p q : TProgram} {f : ℕ → ℕ} {s t : Scope} → SameNames p q f s t → (test : Origin → Bool) → Numberless f test → (x : Text) → IsName x
    → origin_is test (variable_of q t x) ≡ origin_is test (variable_of p s x)
same_test {p = p} {f = f} {s = s} m test same x n = ap (origin_is test) (same_variable m x n) ∙ new_test f test same (variable_of p s x)

-- ---- temporaries

held_variable : {t : Scope} {k : ℕ} {type : Option Scalar} → (q : TProgram) → (h : IsHeld t k type) → variable_of q t (temporary k) ≡ Some h.var
held_variable {k = k} q h = ap (or_nv q (temporary k)) h.visible

pub held_is_variable : {t : Scope} {k : ℕ} {type : Option Scalar} → (q : TProgram) → IsHeld t k type → is_variable q t (temporary k) ≡ true
held_is_variable q h = ap is_some (held_variable q h)

pub held_type : {t : Scope} {k : ℕ} {type : Option Scalar} → (q : TProgram) → IsHeld t k type → value_type (variable_of q t (temporary k)) ≡ type
held_type q h = ap value_type (held_variable q h) ∙ ap (λ b. cond b None (scalar_of h.var.kind)) h.own ∙ h.typed

-- it is no reference, which an argument passes on
pub held_passed : {t : Scope} {k : ℕ} {type : Option Scalar} → (q : TProgram) → IsHeld t k type → only_reference (variable_of q t (temporary k)) ≡ None
held_passed q h = ap only_reference (held_variable q h) ∙ ap (λ b. cond b (Some h.var) None) h.own
