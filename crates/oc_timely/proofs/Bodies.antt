-- A function's body adds fine events, from what it finds when it is called.
use Rattle.std.proofs.Common.{◌≡◌, ◌⊎◌, inl, inr, ℕ, ◌<◌, ◌≤◌, Bool, true, false, List, refl, sym, subst, arith}
use Rattle.std.specs.Prelude.{ℤ}
use Rattle.oc_tree.specs.Names.{Text}
use Rattle.oc_tree.specs.Tree.{TFunction, TProgram}
use Rattle.oc_tree.specs.Places.{Placed, at_start, block_placed}
use Rattle.oc_tree.specs.Marked.{TRegion, TMarked}
use Rattle.oc_tree.specs.declared.tree.VarId.{VarId}
use Rattle.oc_tree.specs.declared.tree.VarId.TheVariants as variables
use Rattle.oc_tree.specs.declared.marked.Policy.{Policy}
use Rattle.oc_meaning.specs.Store.{Store, Binding}
use Rattle.oc_meaning.specs.Exec.{Passed, Outcome, block_run}
use Rattle.oc_effects.specs.Effects.{TEffect, effect_of, effects_at}
use Rattle.oc_flow.specs.Variables.{is_given}
use Rattle.oc_tree.specs.Members.{IsOf}
use Rattle.oc_flow.specs.Relations.{Flow}
use Rattle.oc_needs.specs.Sites.{is_outside}
use Rattle.oc_needs.specs.Policies.{policies}
use Rattle.oc_needs.specs.Need.{Need}
use Rattle.oc_copies.specs.Copies.{HasStored}
use Rattle.oc_timely.specs.Within.{samples_of, start_where, AnyOf}
use Rattle.oc_timely.specs.Enough.{Target, Met, apart, covered, OkBlock, is_open, since}
use Rattle.oc_timely.specs.Steps.{AreTaken}
use Rattle.oc_timely.specs.Modes.{AllFine, FineOut, Sees, CallFine, Flows, PairedBlock}
use Rattle.oc_timely.specs.Laid.{LaidBlock, Static}
use Rattle.oc_timely.proofs.Marks.{was_deep}
use Rattle.oc_timely.proofs.Inside.{block_open}
use Rattle.oc_timely.proofs.Outside.{block_shut}
use Rattle.oc_timely.proofs.Cover.{Later, ok_block}

-- what targets stand for is needed
abbrev pub TargetsNeed : TProgram → ℕ → Type 0
TargetsNeed p f = (a : TEffect) (x v : VarId) → AnyOf p f a → Target p f a x → is_given v ≡ true → Flow p f v x → (q : Policy) × IsOf q (policies p) × Need p q f v

-- what holds samples at the start was given
given_at : (p : TProgram) (f base : ℕ) (σ : Store) (v : VarId) (j : ℕ) → IsOf j (samples_of σ (start_where p f base) v) → is_given v ≡ true
given_at p f base σ (variables.Nv i) j h = refl
given_at p f base σ (variables.Param i) j h = refl
given_at p f base σ (variables.Declared s) j h = absurd h
given_at p f base σ variables.Returned j h = absurd h

-- the targets of a function
abbrev pub AnyTarget : TMarked → ℕ → VarId → Type 0
AnyTarget m f x = (a : TEffect) × AnyOf m.program f a × Target m.program f a x

-- The body of a function that isn't guarded passes the judgement, from what is known of its statements.
pub body_ok : (m : TMarked) (guarded : ℕ → Bool) (f : ℕ) (g : TFunction) → Static m guarded f (block_placed (at_start g) g.body) → guarded f ≡ false → (n k : ℕ) → LaidBlock m.program n g.body k →
    ((r : TRegion) → IsOf r m.regions → r.function ≡ f → n ≤ r.first) → OkBlock m guarded f (AnyTarget m f) (at_start g) g.body
body_ok m guarded f g facts loose n k laid from =
    ok_block m guarded f (block_placed (at_start g) g.body) facts loose (AnyTarget m f) (at_start g) n g.body k laid (λ z i. i) (λ r t i j d. absurd j)
    (λ b x i t. ((effect_of m.program b, facts.effect b i, t), by b x (facts.met loose b x i t)))
  where
    by : (b : Placed) (x : VarId) → Met m f (effect_of m.program b) x → Later m guarded f (block_placed (at_start g) g.body) facts loose n b x
    by b x (apart none) = inl none
    by b x (covered r i e c h) = inr (r, (i, c, h), from r i e)

module _ (m : TMarked) (guarded : ℕ → Bool) (call : Text → List Passed → Store → Outcome) (home : ℤ → ℕ) (f base : ℕ) (g : TFunction)
    (calls : CallFine m guarded call home f base (block_placed (at_start g) g.body)) (flows : Flows m.program m.regions call home f base (block_placed (at_start g) g.body))
    (inner : (loop s : ℕ) → is_outside m.program f loop (variables.Declared s) ≡ false → loop < s)
    (effect : (b : Placed) → IsOf b (block_placed (at_start g) g.body) → IsOf (effect_of m.program b) (effects_at m.program f)) (needs : TargetsNeed m.program f) where
  -- what the body finds
  pub record FindsAll (n : ℕ) (env : List Binding) (σ : Store) : Type 0 where
    pub sees : Sees m.program f base n (at_start g) env (start_where m.program f base) σ
    pub taken : AreTaken σ
    pub stored : HasStored m.program σ
    pub deep : guarded f ≡ true → is_open σ.events ≡ true
    pub guard : (q : Policy) (v : VarId) (j : ℕ) → IsOf q (policies m.program) → Need m.program q f v → IsOf j (samples_of σ (start_where m.program f base) v) →
        (is_open σ.events ≡ true) × (since σ.events ≤ j)
    pub all : AllFine σ.events

  needed : (n : ℕ) (env : List Binding) (σ : Store) → FindsAll n env σ → (x : VarId) → AnyTarget m f x → (v : VarId) (j : ℕ) → IsOf j (samples_of σ (start_where m.program f base) v) →
      Flow m.program f v x → (is_open σ.events ≡ true) × (since σ.events ≤ j)
  needed n env σ h x t v j i fl = let q = needs t.0 x v t.1 t.2 (given_at m.program f base σ v j i) fl in h.guard q.0 v j q.1 q.2 i

  pub body_fine : (n : ℕ) (env : List Binding) (σ : Store) → PairedBlock m.regions n g.body → (guarded f ≡ true) ⊎ OkBlock m guarded f (AnyTarget m f) (at_start g) g.body → FindsAll n env σ →
      FineOut (block_run m.program.names m.regions call home env g.body σ)
  body_fine n env σ pair (inl d) h =
      block_open m guarded call home f base (block_placed (at_start g) g.body) calls flows (AnyTarget m f) (at_start g) n g.body (λ z i. i) pair
      (λ a x i t. (a, subst (λ (e : TEffect). IsOf e (effects_at m.program f)) (sym i.2) (effect i.0 i.1), t)) env (start_where m.program f base) σ h.sees
      (record { taken = h.taken; stored = h.stored; deep = was_deep σ h.taken (h.deep d); held = λ x c v j i fl. (needed n env σ h x c v j i fl).1; all = h.all })
  body_fine n env σ pair (inr ok) h =
      block_shut m guarded call home f base (block_placed (at_start g) g.body) calls flows inner (is_open σ.events) (since σ.events) (AnyTarget m f) (at_start g) n g.body
      (λ z i. i) pair ok env (start_where m.program f base) σ h.sees
      (record { taken = h.taken; stored = h.stored; marks = omega arith; entered = λ d. (was_deep σ h.taken d, refl); clean = λ x c v j i fl. needed n env σ h x c v j i fl; all = h.all })
