-- What the rules leave of each statement of a function, with the scope that its variables tell: names that are declared are new, and
-- calls break no rule.
use Rattle.std.proofs.Common.{◌≡◌, inl, inr, ℕ, true, false, List, [], ◌∷◌, ◌++◌, Some, None, refl, sym, ap, ◌∙◌, subst, append-nil}
use Rattle.std.proofs.lemmas.Bool.{and_parts}
use Rattle.std.specs.Prelude.{slice_get, ◌&&◌}
use Rattle.std.proofs.lemmas.Option.{none-some, same_Some}
use Rattle.oc_tree.specs.Names.{Text}
use Rattle.oc_tree.specs.Tree.{TCall, call, TRight, right_value, right_sense, right_call, TKind, let_to, let_array, assign, assign_index, assign_deref, if_else, for_in, while_do}
use Rattle.oc_tree.specs.Tree.{call_only, TElse, no_else, else_do, stmt, TBlock, block, TStmts, no_stmts, more, TFunction, TProgram}
use Rattle.oc_tree.specs.Calls.{expr_calls, args_calls, call_calls, right_calls}
use Rattle.oc_tree.specs.Checked.{Group, IsChecked}
use Rattle.oc_tree.specs.declared.tree.VarId.TheVariants as variables
use Rattle.oc_tree.specs.Scope.{Scope, variable_in, is_variable, is_taken}
use Rattle.oc_tree.specs.Elements.{Here, inside, in_turn, before_stmts, scope_after, after_stmt, kind_elements, else_elements, stmt_elements, block_elements, stmts_elements, in_function}
use Rattle.oc_tree.specs.Rules.{takes_name}
use Rattle.oc_tree.specs.Places.{Place, Placed, find_variable, let_variables, at_start, behind, in_branch, in_loop, kind_placed, else_placed, block_placed, stmts_placed, placed}
use Rattle.oc_effects.specs.Effects.{right_call_of, call_of}
use Rattle.oc_tree.specs.Members.{IsOf}
use Rattle.oc_tree.specs.Walks.{expr_known, right_known}
use Rattle.oc_desugar.proofs.FineCalls.{CallFine, Each, each_back}
use Rattle.oc_desugar.proofs.Unbroken.{Unbroken, unbroken}
use Rattle.oc_checked.proofs.BodiesPass.{AllFine, fine_front, fine_back, function_fine}
use Rattle.oc_copies.specs.Stands.{IsRuledCall}
use Rattle.oc_copies.proofs.StandsOn.{not_in_scope, ruled_call}
use Rattle.oc_timely.specs.Scopes.{declared_var, var_declared, scope_of}
use Rattle.oc_laws.proofs.Members.{of_left, of_right, in_append, at_place}
use Rattle.oc_timely.proofs.Members.{by_side}
use Rattle.oc_timely.proofs.SeesOn.{declared_name}
use Rattle.oc_timely.proofs.Scopes.{none_back, scope_more, scope_start}

-- what the rules found at a statement
pub record IsPassed (p : TProgram) (f : ℕ) (q : Placed) : Type 0 where
  pub here : Here
  pub scope : here.scope ≡ scope_of p f q.at.variables
  pub unbroken : Unbroken p here q.kind

module _ (p : TProgram) (f : ℕ) (body : List Placed) (found : (b : Placed) → IsOf b body → placed p b.id ≡ Some b) where
  -- the rules' place is the statement's
  abbrev Fits : Here → Place → Type 0
  Fits h at = (h.scope ≡ scope_of p f at.variables) × (h.block ≡ at.block)

  abbrev InBody : List Placed → Type 0
  InBody bs = (b : Placed) → IsOf b bs → IsOf b body

  -- the variable that a statement declares is the rules'
  var_more : (h : Here) (at : Place) (id line : ℕ) (k : TKind) (x : Text) → Fits h at → placed p id ≡ Some (record { id = id; line = line; kind = k; at = at }) →
      h.scope ++ (x, declared_var p h.scope id h.block k) ∷ [] ≡ scope_of p f (at.variables ++ (x, variables.Declared id) ∷ [])
  var_more h at id line k x fits e =
      ap (λ (z : Scope). z ++ (x, declared_var p z id h.block k) ∷ []) fits.0
      ∙ ap (λ (n : ℕ). scope_of p f at.variables ++ (x, declared_var p (scope_of p f at.variables) id n k) ∷ []) fits.1
      ∙ sym (ap (λ o. scope_of p f at.variables ++ (x, var_declared p (scope_of p f at.variables) o) ∷ []) e)
      ∙ sym (scope_more p f at.variables x (variables.Declared id))

  fits_behind : (h : Here) (at : Place) (id line : ℕ) (k : TKind) → Fits h at → placed p id ≡ Some (record { id = id; line = line; kind = k; at = at }) →
      scope_after p h id k ≡ scope_of p f (at.variables ++ let_variables id k)
  fits_behind h at id line (let_to m x t r) fits e = var_more h at id line (let_to m x t r) x fits e
  fits_behind h at id line (let_array m x t z n) fits e = var_more h at id line (let_array m x t z n) x fits e
  fits_behind h at id line k fits e = fits.0 ∙ ap (scope_of p f) (sym (append-nil at.variables))

  mutual
    kind_passed : (h : Here) (at : Place) (id line : ℕ) (k : TKind) → Fits h at → placed p id ≡ Some (record { id = id; line = line; kind = k; at = at }) → AllFine p (kind_elements p h k) →
        InBody (kind_placed at id k) → (q : Placed) → IsOf q (kind_placed at id k) → IsPassed p f q
    kind_passed h at id line (if_else c a b) fits e fine sub q o =
        by_side (in_append q (block_placed (in_branch at id) a) (else_placed (in_branch at id) b) o)
        (block_passed (inside h) (in_branch at id) a fits (fine_front p (block_elements p (inside h) a) (else_elements p (inside h) b) fine)
        (λ z i. sub z (of_left z (block_placed (in_branch at id) a) (else_placed (in_branch at id) b) i)) q)
        (else_passed (inside h) (in_branch at id) b fits (fine_back p (block_elements p (inside h) a) (else_elements p (inside h) b) fine)
        (λ z i. sub z (of_right z (block_placed (in_branch at id) a) (else_placed (in_branch at id) b) i)) q)
    kind_passed h at id line (for_in x m n b) fits e fine sub q o =
        block_passed (in_turn h x) (in_loop at id ((x, variables.Declared id) ∷ [])) b (var_more h at id line (for_in x m n b) x fits e, fits.1) fine sub q o
    kind_passed h at id line (while_do c n b) fits e fine sub q o =
        block_passed (inside h) (in_loop at id []) b (fits.0 ∙ ap (scope_of p f) (sym (append-nil at.variables)), fits.1) fine sub q o
    kind_passed h at id line k fits e fine sub q o = absurd o

    else_passed : (h : Here) (at : Place) (b : TElse) → Fits h at → AllFine p (else_elements p h b) → InBody (else_placed at b) → (q : Placed) → IsOf q (else_placed at b) → IsPassed p f q
    else_passed h at no_else fits fine sub q o = absurd o
    else_passed h at (else_do b) fits fine sub q o = block_passed h at b fits fine sub q o

    block_passed : (h : Here) (at : Place) (b : TBlock) → Fits h at → AllFine p (block_elements p h b) → InBody (block_placed at b) → (q : Placed) → IsOf q (block_placed at b) → IsPassed p f q
    block_passed h at (block id ss) fits fine sub q o = stmts_passed (record h { block = id }) (record at { block = id }) ss (fits.0, refl) fine sub q o

    stmts_passed : (h : Here) (at : Place) (ss : TStmts) → Fits h at → AllFine p (stmts_elements p h ss) → InBody (stmts_placed at ss) → (q : Placed) → IsOf q (stmts_placed at ss) → IsPassed p f q
    stmts_passed h at no_stmts fits fine sub q o = absurd o
    stmts_passed h at (more (stmt id line k) ss) fits fine sub q o =
        let here = before_stmts h ss in
        let own = fine_front p (stmt_elements p here (stmt id line k)) (stmts_elements p (after_stmt p h (stmt id line k)) ss) fine in
        let rest = fine_back p (stmt_elements p here (stmt id line k)) (stmts_elements p (after_stmt p h (stmt id line k)) ss) fine in
        let e = found (record { id = id; line = line; kind = k; at = at }) (sub _ (inl refl)) in
        let one : IsPassed p f (record { id = id; line = line; kind = k; at = at }) = record { here = here; scope = fits.0; unbroken = unbroken p own.0.0 here k own.0.1 } in
        by_side o (λ s. subst (IsPassed p f) (sym s) one)
        (λ i. by_side (in_append q (kind_placed at id k) (stmts_placed (behind at id k) ss) i)
        (kind_passed here at id line k fits e own.1 (λ z j. sub z (inr (of_left z (kind_placed at id k) (stmts_placed (behind at id k) ss) j))) q)
        (stmts_passed (after_stmt p h (stmt id line k)) (behind at id k) ss (fits_behind h at id line k fits e, fits.1) rest
        (λ z j. sub z (inr (of_right z (kind_placed at id k) (stmts_placed (behind at id k) ss) j))) q))

-- ---- calls

call_whole : (p : TProgram) (h : Here) (c : TCall) → Each (CallFine p h) (call_calls c) → CallFine p h c
call_whole p h (call x args) e = (each_back (CallFine p h) (args_calls args) (call x args ∷ []) e).0

right_ruled : (p : TProgram) (h : Here) (r : TRight) → right_known p h.scope r ≡ true → Each (CallFine p h) (right_calls r) → (c : TCall) → right_call_of r ≡ Some c → IsRuledCall p h.scope c
right_ruled p h (right_value x) k e c is = absurd (none-some c is)
right_ruled p h (right_sense s) k e c is = absurd (none-some c is)
right_ruled p h (right_call d) k e c is = subst (IsRuledCall p h.scope) (same_Some d c is) (ruled_call p h d k (call_whole p h d e))

kind_ruled : (p : TProgram) (h : Here) (k : TKind) → Unbroken p h k → (c : TCall) → call_of k ≡ Some c → IsRuledCall p h.scope c
kind_ruled p h (let_to m x t r) u c is = right_ruled p h r u.known u.calls c is
kind_ruled p h (assign x r) u c is = right_ruled p h r (and_parts (is_variable p h.scope x) (right_known p h.scope r) u.known).1 u.calls c is
kind_ruled p h (assign_index x i r) u c is =
    let known = (and_parts (is_variable p h.scope x) (expr_known p h.scope i && right_known p h.scope r) u.known).1 in
    right_ruled p h r (and_parts (expr_known p h.scope i) (right_known p h.scope r) known).1 (each_back (CallFine p h) (expr_calls i) (right_calls r) u.calls) c is
kind_ruled p h (assign_deref x r) u c is = right_ruled p h r (and_parts (is_variable p h.scope x) (right_known p h.scope r) u.known).1 u.calls c is
kind_ruled p h (call_only d) u c is = subst (IsRuledCall p h.scope) (same_Some d c is) (ruled_call p h d u.known (call_whole p h d u.calls))
kind_ruled p h k u c is = absurd (none-some c is)

-- ---- new names

new_name : (p : TProgram) (s : Scope) (k : TKind) (x : Text) → takes_name p s k ≡ false → declared_name k ≡ Some x → variable_in s x ≡ None
new_name p s (let_to m y t r) x h e = not_in_scope p s x (subst (λ z. is_taken p s z ≡ false) (same_Some y x e) h)
new_name p s (let_array m y t z n) x h e = not_in_scope p s x (subst (λ z. is_taken p s z ≡ false) (same_Some y x e) h)
new_name p s (for_in y m n b) x h e = not_in_scope p s x (subst (λ z. is_taken p s z ≡ false) (same_Some y x e) h)
new_name p s k x h e = absurd (none-some x e)

-- ---- a function of a checked program

module _ (p : TProgram) (groups : List Group) (checked : IsChecked p groups) (f : ℕ) (g : TFunction) (at : slice_get p.functions f ≡ Some g)
    (found : (b : Placed) → IsOf b (block_placed (at_start g) g.body) → placed p b.id ≡ Some b) where
  pub passed : (b : Placed) → IsOf b (block_placed (at_start g) g.body) → IsPassed p f b
  passed b o =
      let fine = function_fine p checked.unbroken checked.form.declared f g at in
      block_passed p f (block_placed (at_start g) g.body) found (in_function g f) (at_start g) g.body (sym (scope_start p f g.params (at_place (λ h. h.params) p.functions f g [] at)), refl) fine.body (λ z i. i) b o

  -- a name that is declared is none that is visible
  pub unused : (b : Placed) (x : Text) → IsOf b (block_placed (at_start g) g.body) → declared_name b.kind ≡ Some x → find_variable b.at.variables x ≡ None
  unused b x o e =
      let r = passed b o in
      none_back p f b.at.variables x (subst (λ s. variable_in s x ≡ None) r.scope (new_name p r.here.scope b.kind x r.unbroken.taken e))

  -- calls break no rule
  pub ruled : (b : Placed) → IsOf b (block_placed (at_start g) g.body) → (c : TCall) → call_of b.kind ≡ Some c → IsRuledCall p (scope_of p f b.at.variables) c
  ruled b o c e = let r = passed b o in subst (λ s. IsRuledCall p s c) r.scope (kind_ruled p r.here b.kind r.unbroken c e)
