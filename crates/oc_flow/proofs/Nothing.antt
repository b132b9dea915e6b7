-- A statement that reads no input and calls nothing brings none.
use Rattle.std.proofs.Common.{◌≡◌, ℕ, zero, suc, Bool, true, false, true≢false, List, [], ◌∷◌, Option, Some, None, cond, refl, ap, sym, ◌∙◌, length, filter}
use Rattle.std.specs.Prelude.{◌||◌, ◌&&◌, nat_eq, is_some}
use Rattle.std.specs.List.{list_any}
use Rattle.oc_tree.specs.Tree.{TProgram}
use Rattle.oc_tree.specs.declared.tree.VarId.{VarId}
use Rattle.oc_effects.specs.Effects.{TCalled, TEffect, effects}
use Rattle.oc_flow.specs.Variables.{is_variable_of}
use Rattle.oc_flow.specs.Flow.{brings_by_call, brings_to, brings, brings_at, may_bring, may_bring_at}

neither : (o : Option TCalled) (senses target : Bool) (by : Option TCalled → Bool) → by None ≡ false → is_some o || senses ≡ false → (senses && target) || by o ≡ false
neither None false target by none h = none
neither None true target by none h = absurd (true≢false h)
neither (Some c) senses target by none h = absurd (true≢false h)

brings_nothing : (p : TProgram) (n : ℕ) (a : TEffect) (v : VarId) → may_bring a ≡ false → brings_to p n a v ≡ false
unfolding brings_to
brings_nothing p zero a v h = refl
brings_nothing p (suc n) a v h = neither a.call a.senses (is_variable_of a.target v) (λ o. brings_by_call p (brings_to p n) a o v) refl h

not_any : {A : Type 0} (t u : A → Bool) (xs : List A) → ((x : A) → t x ≡ false → u x ≡ false) → list_any t xs ≡ false → list_any u xs ≡ false
not_any t u [] h e = refl
not_any t u (x ∷ xs) h e = go (t x) refl e (not_any t u xs h)
  where
    go : (b : Bool) → t x ≡ b → b || list_any t xs ≡ false → (list_any t xs ≡ false → list_any u xs ≡ false) → u x || list_any u xs ≡ false
    go true q e rest = absurd (true≢false e)
    go false q e rest = ap (λ r. r || list_any u xs) (h x q) ∙ rest e

not_both : (b x y : Bool) → (x ≡ false → y ≡ false) → b && x ≡ false → b && y ≡ false
not_both true x y h e = h e
not_both false x y h e = refl

-- the statement of a number that may bring none brings none
pub no_bringer : (p : TProgram) (s : ℕ) (v : VarId) → may_bring_at p s ≡ false → brings_at p s v ≡ false
no_bringer p s v h =
    not_any (λ es. list_any (λ a. nat_eq a.stmt s && may_bring a) es) (λ es. list_any (λ a. nat_eq a.stmt s && brings p a v) es) (effects p)
    (λ es. not_any (λ a. nat_eq a.stmt s && may_bring a) (λ a. nat_eq a.stmt s && brings p a v) es
    (λ a. not_both (nat_eq a.stmt s) (may_bring a) (brings p a v) (brings_nothing p (length p.functions) a v))) h
