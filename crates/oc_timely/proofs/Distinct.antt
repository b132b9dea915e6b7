-- Parameters have names of their own, by the rules of a function's head.
use Rattle.std.proofs.Common.{◌≡◌, ℕ, ◌+◌, Bool, true, false, List, [], ◌∷◌, ◌++◌, Some, None, refl, sym, ap, ◌∙◌, subst, arith}
use Rattle.std.specs.Prelude.{cond, is_some, slice_get, length}
use Rattle.std.specs.Str.{bytes_eq}
use Rattle.std.proofs.lemmas.Slice.Eq.{bytes_eq-Decides}
use Rattle.oc_tree.specs.Names.{Text}
use Rattle.oc_tree.specs.Tree.{TFunction, TProgram}
use Rattle.oc_tree.specs.Checked.{Group, IsChecked}
use Rattle.oc_tree.specs.Elements.{function_item}
use Rattle.oc_tree.specs.Broken.{item_rules}
use Rattle.oc_tree.specs.Places.{find_variable, param_variables, at_start}
use Rattle.oc_tree.specs.Scope.{Scope, variable_in, is_in_scope, is_declared, is_taken, param_var, with_param, with_params, takes_param}
use Rattle.oc_tree.specs.declared.tree.Param.{Param}
use Rattle.oc_tree.specs.declared.tree.VarId.TheVariants as variables
use Rattle.oc_desugar.proofs.Unbroken.{Passes, none_broken}
use Rattle.oc_checked.proofs.BodiesPass.{first_fails, second_fails, function_fine}
use Rattle.oc_meaning.specs.Store.{Store}
use Rattle.oc_meaning.specs.Exec.{Passed, Copied, Lent}
use Rattle.oc_copies.specs.Copies.{own_frame}
use Rattle.oc_copies.specs.Stands.{Stands, AreFormed}
use Rattle.oc_copies.proofs.StandsOn.{frames_stand}
use Rattle.oc_laws.proofs.Members.{at_place}
use Rattle.oc_timely.specs.Within.{start_where}
use Rattle.oc_timely.specs.Scopes.{scope_of}
use Rattle.oc_timely.specs.Modes.{Sees}
use Rattle.oc_timely.proofs.Scopes.{scope_start}
use Rattle.oc_timely.proofs.Beginning.{AreDistinct}
use Rattle.oc_timely.proofs.NoCalls.{start_sees}

-- a name in scope stays there
in_more : (s : Scope) (q : Param) (x : Text) → is_in_scope s x ≡ true → is_in_scope (with_param s q) x ≡ true
in_more [] q x e = absurd (grind (arith, e))
in_more (v ∷ s) q x e = by (bytes_eq x v.0) e (in_more s q x)
  where
    by : (b : Bool) → is_some (cond b (Some v.1) (variable_in s x)) ≡ true → (is_in_scope s x ≡ true → is_in_scope (with_param s q) x ≡ true) →
        is_some (cond b (Some v.1) (variable_in (s ++ (q.name, param_var q) ∷ []) x)) ≡ true
    by true h r = refl
    by false h r = r h

in_last : (s : Scope) (q : Param) → is_in_scope (with_param s q) q.name ≡ true
in_last [] q = ap (λ b. is_some (cond b (Some (param_var q)) None)) ((bytes_eq-Decides q.name q.name).1 refl)
in_last (v ∷ s) q = by (bytes_eq q.name v.0) (in_last s q)
  where
    by : (b : Bool) → is_in_scope (with_param s q) q.name ≡ true → is_some (cond b (Some v.1) (variable_in (s ++ (q.name, param_var q) ∷ []) q.name)) ≡ true
    by true r = refl
    by false r = r

none_later : (p : TProgram) (s : Scope) (i : ℕ) (qs : List Param) (x : Text) → takes_param p s qs ≡ false → is_in_scope s x ≡ true → find_variable (param_variables i qs) x ≡ None
none_later p s i [] x t e = refl
none_later p s i (q ∷ qs) x t e = by (bytes_eq x q.name) refl (none_later p (with_param s q) (i + 1) qs x (second_fails (is_taken p s q.name) (takes_param p (with_param s q) qs) t) (in_more s q x e))
  where
    free : is_in_scope s q.name ≡ false
    free = first_fails (is_in_scope s q.name) (is_declared p q.name) (first_fails (is_taken p s q.name) (takes_param p (with_param s q) qs) t)

    by : (b : Bool) → bytes_eq x q.name ≡ b → find_variable (param_variables (i + 1) qs) x ≡ None → find_variable (param_variables i (q ∷ qs)) x ≡ None
    by true c r = let same : x ≡ q.name = (bytes_eq-Decides x q.name).0 c in let w : true ≡ false = sym e ∙ ap (is_in_scope s) same ∙ free in absurd (cc)
    by false c r = ap (λ b. cond b (Some (variables.Param i)) (find_variable (param_variables (i + 1) qs) x)) c ∙ r

distinct_from : (p : TProgram) (s : Scope) (i : ℕ) (qs : List Param) → takes_param p s qs ≡ false → AreDistinct i qs
distinct_from p s i [] t = tt
distinct_from p s i (q ∷ qs) t =
    let later = second_fails (is_taken p s q.name) (takes_param p (with_param s q) qs) t in
    (none_later p (with_param s q) (i + 1) qs q.name later (in_last s q), distinct_from p (with_param s q) (i + 1) qs later)

formed_length : (qs : List Param) (ps : List Passed) → AreFormed qs ps → length ps ≡ length qs
formed_length [] [] h = refl
formed_length (q ∷ qs) (Copied v ∷ ps) h = let r = formed_length qs ps h.1 in omega (arith, r)
formed_length (q ∷ qs) (Lent b ∷ ps) h = let r = formed_length qs ps h.1 in omega (arith, r)
formed_length [] (t ∷ ps) h = absurd h
formed_length (q ∷ qs) [] h = absurd h

-- What a function of a checked program sees when it begins.
pub checked_sees : (p : TProgram) (groups : List Group) → IsChecked p groups → (f : ℕ) (g : TFunction) → slice_get p.functions f ≡ Some g → (n : ℕ) (ps : List Passed) (σ : Store) →
    AreFormed g.params ps →
    Sees p f (length σ.locals) n (at_start g) (own_frame p g ps σ).env (start_where p f (length σ.locals)) (record σ { locals = (own_frame p g ps σ).locals })
checked_sees p groups checked f g at n ps σ formed =
    let fine = function_fine p checked.unbroken checked.form.declared f g at in
    let head : Passes (item_rules p fine.tally fine.before (function_item g)) = none_broken (item_rules p fine.tally fine.before (function_item g)) fine.head in
    let scope : scope_of p f (param_variables 0 g.params) ≡ with_params [] g.params = scope_start p f g.params (at_place (λ h. h.params) p.functions f g [] at) in
    let stands = subst (λ s. Stands p s (own_frame p g ps σ).env (record σ { locals = (own_frame p g ps σ).locals })) (sym scope) (frames_stand p groups checked f g at ps σ formed) in
    start_sees p f g at (distinct_from p [] 0 g.params head.1.0) n ps σ (formed_length g.params ps formed) stands
