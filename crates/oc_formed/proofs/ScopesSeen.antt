-- What the rules let statements see, the code finds: each visible variable, of its words, by an address just where it is
-- a reference, and writable where the rules let it be written.
use Rattle.std.proofs.Common.{◌≡◌, Bool, true, false, true≢false, List, [], ◌∷◌, Some, None, cond, refl, ap, sym, subst, ◌∙◌}
use Rattle.std.specs.Prelude.{is_some, if◌then◌else◌, ◌||◌}
use Rattle.std.specs.Str.{bytes_eq}
use Rattle.std.proofs.lemmas.Option.{same_Some}
use Rattle.std.proofs.lemmas.Slice.Eq.{bytes_eq-Decides}
use Rattle.oc_tree.specs.Names.{Text}
use Rattle.oc_tree.specs.Tree.{TProgram}
use Rattle.oc_tree.specs.declared.tree.Passing.TheVariants as passings
use Rattle.oc_tree.specs.declared.scope.Origin.{Origin}
use Rattle.oc_tree.specs.declared.scope.Origin.TheVariants as origins
use Rattle.oc_tree.specs.declared.scope.Var.{Var}
use Rattle.oc_tree.specs.Scope.{Scope, variable_in, variable_of, is_in_scope, is_declared, is_taken, or_nv}
use Rattle.oc_tree.specs.Types.{is_reference}
use Rattle.oc_tree.specs.Rules.{is_mutable_param, is_writable, is_writable_array}
use Rattle.oc_code.specs.Scope.{Named, named, address_slot, kind_words, may_write}
use Rattle.oc_desugar.proofs.KeptScopes.{with_var}
use Rattle.oc_desugar.proofs.PullSplits.{found_before}
use Rattle.oc_checked.proofs.BodiesPass.{first_fails}
use Rattle.oc_laws.proofs.Maps.{none_is}

-- ---- variables

-- whether the code lets a variable be written
abbrev pub code_writes : Origin → Bool
code_writes (origins.Let mut id b) = true
code_writes origins.For = false
code_writes (origins.Param passing) = may_write passing
code_writes origins.Nv = true

-- what an assignment may write, the code lets be written
pub writes_own : (o : Origin) → is_writable o ≡ true → code_writes o ≡ true
writes_own (origins.Let mut id b) h = refl
writes_own origins.For h = absurd (true≢false (sym h))
writes_own (origins.Param passing) h = absurd (true≢false (sym h))
writes_own origins.Nv h = refl

-- so it is behind a reference by `&mut`
pub writes_through : (o : Origin) → is_mutable_param o ≡ true → code_writes o ≡ true
writes_through (origins.Let mut id b) h = refl
writes_through origins.For h = absurd (true≢false (sym h))
writes_through (origins.Param passings.Value) h = absurd (true≢false (sym h))
writes_through (origins.Param passings.Shared) h = absurd (true≢false (sym h))
writes_through (origins.Param passings.Mutable) h = refl
writes_through origins.Nv h = refl

-- and with arrays
pub writes_array : (o : Origin) → is_writable_array o ≡ true → code_writes o ≡ true
writes_array o h = by (is_writable o) refl h
  where
    by : (b : Bool) → is_writable o ≡ b → b || is_mutable_param o ≡ true → code_writes o ≡ true
    by true e g = writes_own o e
    by false e g = writes_through o g

-- what the code finds of a name is the variable that the rules see
pub record Finds (g : Named) (v : Var) : Type 0 where
  pub words : g.words ≡ kind_words v.kind
  pub reference : is_some (address_slot g.slot) ≡ is_reference v.origin
  pub writable : g.writable ≡ code_writes v.origin

-- all that the rules see is found
abbrev pub AllFound : TProgram → Scope → List Named → Type 0
AllFound p scope γ = (x : Text) (v : Var) → variable_of p scope x ≡ Some v → Finds (named γ x) v

-- ---- one variable more

-- the new variable is found under its name, where no other has it
new_found : (s : Scope) (x : Text) (v : Var) → variable_in s x ≡ None → variable_in (with_var s x v) x ≡ Some v
new_found [] x v h = ap (λ b. cond b (Some v) None) ((bytes_eq-Decides x x).1 refl)
new_found (w ∷ s) x v h = by (bytes_eq x w.0) (new_found s x v) h
  where
    by : (b : Bool) → (variable_in s x ≡ None → variable_in (with_var s x v) x ≡ Some v) → cond b (Some w.1) (variable_in s x) ≡ None → cond b (Some w.1) (variable_in (with_var s x v) x) ≡ Some v
    by true rest e = let some : Some w.1 ≡ None = e in absurd (cc)
    by false rest e = rest e

-- the rules see a new variable last, and the code finds it first
pub found_more : (p : TProgram) (s : Scope) (γ : List Named) (v : Var) (g : Named) → Finds g v → is_taken p s g.name ≡ false → AllFound p s γ → AllFound p (with_var s g.name v) (g ∷ γ)
found_more p s γ v g finds free all x w e = by (bytes_eq x g.name) refl
  where
    by : (b : Bool) → bytes_eq x g.name ≡ b → Finds (if b then g else named γ x) w
    by true is =
        let same : x ≡ g.name = (bytes_eq-Decides x g.name).0 is in
        let none : variable_in s g.name ≡ None = none_is (variable_in s g.name) (first_fails (is_in_scope s g.name) (is_declared p g.name) free) in
        let there : Some v ≡ Some w = sym (ap (or_nv p g.name) (new_found s g.name v none)) ∙ sym (ap (variable_of p (with_var s g.name v)) same) ∙ e in
        subst (Finds g) (same_Some v w there) finds
    by false is = all x w (sym (ap (or_nv p x) (found_before s x g.name v is)) ∙ e)
