-- Scopes grow alike in the program and in its expansion, and temporaries come between.
use Rattle.std.proofs.Common.{◌≡◌, ◌<◌, ◌≤◌, ◌^◌, ℕ, ◌+◌, Bool, true, false, [], ◌∷◌, ◌++◌, refl, ap, sym, ◌∙◌, arith, Option, Some, None, cond}
use Rattle.std.specs.Prelude.{option_map}
use Rattle.std.specs.Option.{option_or}
use Rattle.std.specs.Str.{bytes_eq}
use Rattle.oc_lex.specs.Stands.{IsName}
use Rattle.oc_tree.specs.Names.{Text}
use Rattle.oc_tree.specs.declared.scope.Var.{Var}
use Rattle.oc_tree.specs.Scope.{Scope, variable_in}
use Rattle.oc_tree.specs.Expansion.{temporary}
use Rattle.oc_desugar.proofs.Seen.{new_var, Sees}
use Rattle.oc_desugar.proofs.PullSplits.{found_before}
use Rattle.oc_desugar.proofs.TemporaryNames.{none_is_name, other_temporary}

-- one variable more
abbrev pub with_var : Scope → Text → Var → Scope
with_var s x v = s ++ (x, v) ∷ []

-- found before, or else the new one
found_after : (s : Scope) (x : Text) (v : Var) (y : Text) → variable_in (with_var s x v) y ≡ option_or (variable_in s y) (cond (bytes_eq y x) (Some v) None)
found_after [] x v y = refl
found_after (w ∷ s) x v y = by (bytes_eq y w.0) (found_after s x v y)
  where
    by : (b : Bool) → variable_in (with_var s x v) y ≡ option_or (variable_in s y) (cond (bytes_eq y x) (Some v) None) → cond b (Some w.1) (variable_in (with_var s x v) y)
        ≡ option_or (cond b (Some w.1) (variable_in s y)) (cond (bytes_eq y x) (Some v) None)
    by true h = refl
    by false h = h

-- ---- what is seen

-- new numbers are given before or after
map_or_new : (f : ℕ → ℕ) (o : Option Var) (b : Bool) (v : Var) → option_or (option_map (new_var f) o) (cond b (Some (new_var f v)) None) ≡ option_map (new_var f) (option_or o (cond b (Some v) None))
map_or_new f None true v = refl
map_or_new f None false v = refl
map_or_new f (Some w) b v = refl

-- a variable more on both sides
pub sees_more : (f : ℕ → ℕ) (s t : Scope) (x : Text) (v w : Var) → w ≡ new_var f v → Sees f s t → Sees f (with_var s x v) (with_var t x w)
sees_more f s t x v w e h y n =
    found_after t x w y
    ∙ ap (λ o. option_or o (cond (bytes_eq y x) (Some w) None)) (h y n)
    ∙ ap (λ u. option_or (option_map (new_var f) (variable_in s y)) (cond (bytes_eq y x) (Some u) None)) e
    ∙ map_or_new f (variable_in s y) (bytes_eq y x) v
    ∙ ap (option_map (new_var f)) (sym (found_after s x v y))

-- ---- temporaries that are still to come

-- no temporary from `k` on is in scope
abbrev pub Unused : ℕ → Scope → Type 0
Unused k t = (j : ℕ) → k ≤ j → j < 2 ^ 64 → variable_in t (temporary j) ≡ None

-- a variable of the language takes no temporary's name
pub unused_more : (k : ℕ) (t : Scope) (x : Text) (w : Var) → IsName x → Unused k t → Unused k (with_var t x w)
unused_more k t x w n h j l b = found_before t (temporary j) x w (none_is_name x n j) ∙ h j l b

-- nor does another temporary
pub unused_temporary : (k : ℕ) (t : Scope) (w : Var) → Unused k t → Unused (k + 1) (with_var t (temporary k) w)
unused_temporary k t w h j l b =
    found_before t (temporary j) (temporary k) w (other_temporary j k b (omega (arith, l, b)) (λ e. omega (arith, e, l))) ∙ h j (omega (arith, l)) b

-- those still later are unused too
pub unused_later : (k m : ℕ) (t : Scope) → k ≤ m → Unused k t → Unused m t
unused_later k m t l h j g b = h j (omega (arith, l, g)) b
