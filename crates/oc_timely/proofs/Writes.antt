-- What is known behind a write, a new variable and an input, where samples may come to the variable that is written.
use Rattle.std.proofs.Common.{◌≡◌, ◌⊎◌, inl, inr, ℕ, ◌<◌, ◌≤◌, Bool, true, false, ◌==◌, List, length, Option, Some, refl, sym, ap, ◌∙◌, subst, arith}
use Rattle.std.specs.Prelude.{if◌then◌else◌, unwrap_or}
use Rattle.oc_tree.specs.Tree.{TProgram}
use Rattle.oc_tree.specs.Places.{Place as Spot}
use Rattle.oc_tree.specs.declared.tree.VarId.{VarId}
use Rattle.oc_tree.specs.declared.tree.VarId.TheVariants as variables
use Rattle.oc_meaning.specs.Store.{Held, Place, Local, Global, Turn, Nowhere, Store, Binding, at, nothing, held_at, put, made}
use Rattle.oc_effects.specs.Effects.{TEffect}
use Rattle.oc_flow.specs.Variables.{same_variable}
use Rattle.oc_tree.specs.Members.{IsOf}
use Rattle.oc_timely.specs.Within.{Where, samples_of, Owns, Comes, old, new, Came}
use Rattle.oc_timely.specs.Steps.{AreTaken}
use Rattle.oc_timely.specs.Modes.{with_place, IsSteady}
use Rattle.oc_copies.proofs.Cells.{IsCell, there, held_put, held_put_other, put_nv, at_put_other, at_past, same_cell}
use Rattle.oc_timely.proofs.Came.{only_one}
use Rattle.oc_flow.proofs.Lists.{same_is}

either : (j : ℕ) (b : Bool) (x y : Held) → IsOf j (if b then x else y).samples → IsOf j x.samples ⊎ IsOf j y.samples
either j true x y h = inl h
either j false x y h = inr h

-- a sample at a place behind a write is one of what was written there, or was there
pub put_or : (σ : Store) (q : Place) (x : Held) (r : Place) (j : ℕ) → IsOf j (held_at (put σ q x) r).samples → ((q ≡ r) × IsCell q × IsOf j x.samples) ⊎ IsOf j (held_at σ r).samples
put_or σ q x r j h = by q h
  where
    cell : (s : Place) → IsCell s → IsOf j (held_at (put σ s x) r).samples → ((s ≡ r) × IsCell s × IsOf j x.samples) ⊎ IsOf j (held_at σ r).samples
    cell s c i = elim (same_cell s r c) [
      | inl e ↦ elim (either j (there σ s) x (held_at σ s) (subst (λ (y : Held). IsOf j y.samples) (held_put σ s x) (subst (λ t. IsOf j (held_at (put σ s x) t).samples) (sym e) i))) [
        | inl k ↦ inl (e, c, k)
        | inr k ↦ inr (subst (λ t. IsOf j (held_at σ t).samples) e k)
      ]
      | inr n ↦ inr (subst (λ (y : Held). IsOf j y.samples) (held_put_other σ s r x n) i)
    ]

    by : (s : Place) → IsOf j (held_at (put σ s x) r).samples → ((s ≡ r) × IsCell s × IsOf j x.samples) ⊎ IsOf j (held_at σ r).samples
    by (Local l) i = cell (Local l) tt i
    by (Global l) i = cell (Global l) tt i
    by (Turn z) i = inr i
    by Nowhere i = inr i

-- and behind a new variable one of that, or was there
pub made_or : (σ : Store) (x : Held) (r : Place) (j : ℕ) → IsOf j (held_at (made x σ) r).samples → ((r ≡ Local (length σ.locals)) × IsOf j x.samples) ⊎ IsOf j (held_at σ r).samples
made_or σ x (Global l) j h = inr h
made_or σ x (Turn z) j h = inr h
made_or σ x Nowhere j h = inr h
made_or σ x (Local l) j h = by (l == length σ.locals) refl h
  where
    by : (b : Bool) → (l == length σ.locals) ≡ b → IsOf j (unwrap_or (if b then Some x else at σ.locals l) nothing).samples →
        ((Local l ≡ Local (length σ.locals)) × IsOf j x.samples) ⊎ IsOf j (held_at σ (Local l)).samples
    by true e i = let n : l ≡ length σ.locals = grind (arith, e) in inl (ap Local n, i)
    by false e i = inr i

-- ---- all samples were taken

pub taken_put : (σ : Store) (q : Place) (x : Held) → ((j : ℕ) → IsOf j x.samples → j < σ.taken) → AreTaken σ → AreTaken (put σ q x)
taken_put σ q x low t = by q (λ r j h. elim (put_or σ q x r j h) [ inl k ↦ low j k.2 | inr k ↦ t.held r j k ])
  where
    by : (s : Place) → ((r : Place) (j : ℕ) → IsOf j (held_at (put σ s x) r).samples → j < σ.taken) → AreTaken (put σ s x)
    by (Local l) h = record { held = h; count = t.count; opened = t.opened; begun = t.begun }
    by (Global l) h = record { held = h; count = t.count; opened = t.opened; begun = t.begun }
    by (Turn z) h = t
    by Nowhere h = t

pub taken_made : (σ : Store) (x : Held) → ((j : ℕ) → IsOf j x.samples → j < σ.taken) → AreTaken σ → AreTaken (made x σ)
taken_made σ x low t = record { held = λ r j h. elim (made_or σ x r j h) [ inl k ↦ low j k.1 | inr k ↦ t.held r j k ]; count = t.count; opened = t.opened; begun = t.begun }

pub steady_put : (σ τ : Store) (q : Place) (x : Held) → ((j : ℕ) → IsOf j x.samples → j < τ.taken) → IsSteady σ τ → IsSteady σ (put τ q x)
steady_put σ τ q x low s = by q (taken_put τ q x low s.taken)
  where
    by : (r : Place) → AreTaken (put τ r x) → IsSteady σ (put τ r x)
    by (Local l) t = record { taken = t; deep = s.deep; since = s.since }
    by (Global l) t = record { taken = t; deep = s.deep; since = s.since }
    by (Turn z) t = s
    by Nowhere t = s

pub steady_made : (σ τ : Store) (x : Held) → ((j : ℕ) → IsOf j x.samples → j < τ.taken) → IsSteady σ τ → IsSteady σ (made x τ)
steady_made σ τ x low s = record { taken = taken_made τ x low s.taken; deep = s.deep; since = s.since }

-- ---- where samples come from

-- the same by more statements
pub comes_wider : (p : TProgram) (f : ℕ) (P Q : TEffect → Type 0) → ((a : TEffect) → P a → Q a) → (S : VarId → List ℕ) (taken : ℕ) (v : VarId) (j : ℕ) → Comes p f P S taken v j →
    Comes p f Q S taken v j
comes_wider p f P Q more S taken v j (old u h fl) = old u h fl
comes_wider p f P Q more S taken v j (new a u i br fl le) = new a u (more a i) br fl le

pub came_wider : (p : TProgram) (f base : ℕ) (P Q : TEffect → Type 0) → ((a : TEffect) → P a → Q a) → (w x : Where) (σ τ : Store) → Came p f base P w x σ τ → Came p f base Q w x σ τ
came_wider p f base P Q more w x σ τ c = record { within = λ v j h. comes_wider p f P Q more (samples_of σ w) σ.taken v j (c.within v j h); later = c.later; stored = c.stored; below = c.below }

module _ (p : TProgram) (f base : ℕ) (P : TEffect → Type 0) (spot : Spot) (env : List Binding) (w : Where) (σ τ : Store) (owns : Owns p f base spot env w τ) (c : Came p f base P w w σ τ) where
  -- a variable is written behind a step, with samples that come to it from the store before it
  pub put_later : (t : VarId) (x : Held) → ((j : ℕ) → IsOf j x.samples → Comes p f P (samples_of σ w) σ.taken t j) → Came p f base P w w σ (put τ (w t) x)
  put_later t x from = by (w t) refl
    where
      comes : (q : Place) → w t ≡ q → (v : VarId) (j : ℕ) → IsOf j (held_at (put τ q x) (w v)).samples → Comes p f P (samples_of σ w) σ.taken v j
      comes q e v j h = elim (put_or τ q x (w v) j h) [
        | inl k ↦ subst (λ u. Comes p f P (samples_of σ w) σ.taken u j) (only_one p f base P spot env w τ owns q t v k.1 e (sym k.0)) (from j k.2)
        | inr k ↦ c.within v j k
      ]

      by : (q : Place) → w t ≡ q → Came p f base P w w σ (put τ q x)
      by (Local m) e = record {
        within = comes (Local m) e;
        later = c.later;
        stored = c.stored;
        below = λ l b. at_put_other τ.locals m l x (λ s. let o = (owns.own t m e).0 in absurd (omega (arith, s, b, o))) ∙ c.below l b;
      }
      by (Global i) e = record { within = comes (Global i) e; later = c.later; stored = put_nv τ (Global i) x ∙ c.stored; below = c.below }
      by (Turn z) e = c
      by Nowhere e = c

  -- a variable is made behind it
  pub made_later : (id n : ℕ) (x : Held) → base ≤ length τ.locals → n ≡ length τ.locals → ((j : ℕ) → IsOf j x.samples → Comes p f P (samples_of σ w) σ.taken (variables.Declared id) j) →
      Came p f base P w (with_place w id (Local n)) σ (made x τ)
  made_later id n x room same from = record {
    within = λ v j h. comes v j (same_variable v (variables.Declared id)) refl h;
    later = c.later;
    stored = c.stored;
    below = λ l b. kept l b (l == length τ.locals) refl ∙ c.below l b;
  }
    where
      kept : (l : ℕ) → l < base → (b : Bool) → (l == length τ.locals) ≡ b → (if b then Some x else at τ.locals l) ≡ at τ.locals l
      kept l b true e = let s : l ≡ length τ.locals = grind (arith, e) in absurd (omega (arith, s, b, room))
      kept l b false e = refl

      none : (j : ℕ) → IsOf j (held_at τ (Local n)).samples → ⊥
      none j h = subst (λ (o : Option Held). IsOf j (unwrap_or o nothing).samples) (at_past τ.locals n (omega (arith, same))) h

      comes : (v : VarId) (j : ℕ) (b : Bool) → same_variable v (variables.Declared id) ≡ b → IsOf j (held_at (made x τ) (if b then Local n else w v)).samples → Comes p f P (samples_of σ w) σ.taken v j
      comes v j true e h = elim (made_or τ x (Local n) j h) [
        | inl k ↦ subst (λ u. Comes p f P (samples_of σ w) σ.taken u j) (sym (same_is v (variables.Declared id) e)) (from j k.1)
        | inr k ↦ absurd (none j k)
      ]
      comes v j false e h = elim (made_or τ x (w v) j h) [
        | inl k ↦ let o = (owns.own v (length τ.locals) k.0).1 in absurd (omega (arith, o))
        | inr k ↦ c.within v j k
      ]
