-- What the statics take of the tests of flow and of sites.
use Rattle.std.proofs.Common.{◌≡◌, inl, inr, ℕ, ◌≤◌, Bool, true, false, true≢false, List, [], ◌∷◌, Some, refl, sym, ap, ◌∙◌, arith}
use Rattle.std.proofs.lemmas.Bool.{and_from}
use Rattle.std.specs.Prelude.{filter, find, reverse, if◌then◌else◌}
use Rattle.std.specs.Option.{unwrap_or}
use Rattle.oc_tree.specs.Tree.{TProgram}
use Rattle.oc_tree.specs.Checked.{Group, IsChecked}
use Rattle.oc_tree.specs.declared.tree.VarId.{VarId}
use Rattle.oc_effects.specs.Effects.{TEffect, effects_at}
use Rattle.oc_tree.specs.Members.{IsOf}
use Rattle.oc_flow.specs.Relations.{Flow, Brings}
use Rattle.oc_flow.specs.Flow.{flows, brings}
use Rattle.oc_flow.specs.Laws.{Decides, FlowsIsFlow, BringsIsBrings}
use Rattle.oc_needs.specs.Sites.{is_loop_at, loops_of, lifts, site, is_input}
use Rattle.oc_laws.proofs.Members.{in_filter, of_filter}

pub decide_true : (b : Bool) (A : Type 0) → Decides b A → A → b ≡ true
decide_true true A d a = refl
decide_true false A d a = absurd (d a)

pub input_is : FlowsIsFlow → BringsIsBrings → (p : TProgram) (groups : List Group) → IsChecked p groups → (f : ℕ) (a : TEffect) (u x : VarId) → IsOf a (effects_at p f) → Brings p f a u →
    Flow p f u x → is_input p f a u x ≡ true
input_is flow bring p groups c f a u x i b fl =
    and_from (brings p a u) (flows p f u x) (decide_true (brings p a u) (Brings p f a u) (bring p groups c f a u i) b) (decide_true (flows p f u x) (Flow p f u x) (flow p groups c f u x) fl)

-- ---- sites

found_low : (t : ℕ → Bool) (xs : List ℕ) (d k : ℕ) → d ≤ k → ((y : ℕ) → IsOf y xs → y ≤ k) → unwrap_or (find t xs) d ≤ k
found_low t [] d k h all = h
found_low t (x ∷ xs) d k h all = by (t x) (found_low t xs d k h (λ y i. all y (inr i)))
  where
    by : (b : Bool) → unwrap_or (find t xs) d ≤ k → unwrap_or (if b then Some x else find t xs) d ≤ k
    by true r = all x (inl refl)
    by false r = r

-- numbers that don't fall
abbrev pub Up : List ℕ → Type 0
Up [] = Unit {0}
Up (x ∷ xs) = ((y : ℕ) → IsOf y xs → x ≤ y) × Up xs

up_filter : (t : ℕ → Bool) (xs : List ℕ) → Up xs → Up (filter t xs)
up_filter t [] h = tt
up_filter t (x ∷ xs) h = by (t x) (up_filter t xs h.1)
  where
    by : (b : Bool) → Up (filter t xs) → Up (if b then x ∷ filter t xs else filter t xs)
    by true r = (λ y i. h.0 y (of_filter t y xs i).0, r)
    by false r = r

found_first : (t : ℕ → Bool) (xs : List ℕ) (d y : ℕ) → Up xs → IsOf y xs → t y ≡ true → unwrap_or (find t xs) d ≤ y
found_first t [] d y h i e = absurd i
found_first t (x ∷ xs) d y h i e = by (t x) refl i (λ j. found_first t xs d y h.1 j e)
  where
    by : (b : Bool) → t x ≡ b → IsOf y (x ∷ xs) → (IsOf y xs → unwrap_or (find t xs) d ≤ y) → unwrap_or (if b then Some x else find t xs) d ≤ y
    by true q (inl z) r = omega (arith, z)
    by true q (inr j) r = h.0 y j
    by false q (inl z) r = absurd (true≢false (sym (ap t (sym z) ∙ e) ∙ q))
    by false q (inr j) r = r j

-- a site comes no later than its statement, where what is around does
pub site_low : (p : TProgram) (f : ℕ) (a : TEffect) (u x : VarId) → ((y : ℕ) → IsOf y (reverse a.around) → y ≤ a.stmt) → site p f a u x ≤ a.stmt
site_low p f a u x h = found_low (lifts p f u x) (loops_of p f a) a.stmt a.stmt (omega arith) (λ y i. h y (of_filter (is_loop_at p f) y (reverse a.around) i).0)

-- nor than a loop out of which a carrier comes, where the outermost is the first
pub site_lifted : (p : TProgram) (f : ℕ) (a : TEffect) (u x : VarId) (loop : ℕ) → Up (reverse a.around) → IsOf loop (reverse a.around) → is_loop_at p f loop ≡ true → lifts p f u x loop ≡ true →
    site p f a u x ≤ loop
site_lifted p f a u x loop up i l e =
    found_first (lifts p f u x) (loops_of p f a) a.stmt loop (up_filter (is_loop_at p f) (reverse a.around) up) (in_filter (is_loop_at p f) loop (reverse a.around) i l) e
