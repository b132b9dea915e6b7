-- Where samples come from: step by step.
use Rattle.std.proofs.Common.{◌≡◌, ◌⊎◌, inl, inr, ℕ, ◌<◌, Bool, true, false, ◌==◌, List, refl, sym, ap, ◌∙◌, subst, arith}
use Rattle.std.specs.Prelude.{if◌then◌else◌}
use Rattle.oc_tree.specs.Tree.{TProgram}
use Rattle.oc_tree.specs.Places.{Place as Spot}
use Rattle.oc_tree.specs.declared.tree.VarId.{VarId}
use Rattle.oc_meaning.specs.Store.{Held, Place, Local, Global, Turn, Nowhere, Store, Binding, at, held_at, put}
use Rattle.oc_effects.specs.Effects.{TEffect}
use Rattle.oc_tree.specs.Members.{IsOf}
use Rattle.oc_flow.specs.Relations.{Flow, itself, by_value, by_call}
use Rattle.oc_timely.specs.Within.{Where, samples_of, Owns, Comes, old, new, Came}
use Rattle.oc_copies.proofs.Cells.{IsCell, there, held_put, held_put_other, put_nv, at_put_other}

-- chains of flow
pub flow_on : (p : TProgram) {f : ℕ} {u w : VarId} (v : VarId) → Flow p f u w → Flow p f w v → Flow p f u v
flow_on p v (itself i) q = q
flow_on p v (by_value a i j s t r) q = by_value a i j s t (flow_on p v r q)
flow_on p v (by_call a c i k j b fl e r) q = by_call a c i k j b fl e (flow_on p v r q)

module _ (p : TProgram) (f base : ℕ) (P : TEffect → Type 0) where
  -- on along a chain
  comes_on : (S : VarId → List ℕ) (taken : ℕ) (u v : VarId) (j : ℕ) → Flow p f u v → Comes p f P S taken u j → Comes p f P S taken v j
  comes_on S taken u v j fl (old t h fl') = old t h (flow_on p v fl' fl)
  comes_on S taken u v j fl (new s t i br fl' le) = new s t i br (flow_on p v fl' fl) le

  -- from a store behind a step
  pub comes_back : (w x : Where) (σ τ : Store) → Came p f base P w x σ τ → (v : VarId) (j : ℕ) → Comes p f P (samples_of τ x) τ.taken v j → Comes p f P (samples_of σ w) σ.taken v j
  comes_back w x σ τ c v j (old u h fl) = comes_on (samples_of σ w) σ.taken u v j fl (c.within u j h)
  comes_back w x σ τ c v j (new s u i br fl le) = new s u i br fl (let l = c.later in omega (arith, l, le))

  -- one step behind another
  pub came_on : (w x y : Where) (σ τ υ : Store) → Came p f base P w x σ τ → Came p f base P x y τ υ → Came p f base P w y σ υ
  came_on w x y σ τ υ a b = record {
    within = λ v j h. comes_back w x σ τ a v j (b.within v j h);
    later = omega (arith, a.later, b.later);
    stored = b.stored ∙ a.stored;
    below = λ l h. b.below l h ∙ a.below l h;
  }

  module _ (spot : Spot) (env : List Binding) (w : Where) (σ : Store) (owns : Owns p f base spot env w σ) where
    -- what was there is there
    was : (v : VarId) (j : ℕ) → IsOf j (samples_of σ w v) → Comes p f P (samples_of σ w) σ.taken v j
    was v j h = elim (owns.known v) [
      | inl e ↦ absurd (subst (λ q. IsOf j (held_at σ q).samples) e h)
      | inr k ↦ old v h (itself k)
    ]

    pub stays : Came p f base P w w σ σ
    stays = record { within = was; later = omega arith; stored = refl; below = λ l h. refl }

    -- two variables have no place in common
    pub only_one : (q : Place) (u v : VarId) → IsCell q → w u ≡ q → w v ≡ q → u ≡ v
    only_one (Local l) u v c a b = owns.apart u v l a b
    only_one (Global i) u v c a b = owns.stored u i a ∙ sym (owns.stored v i b)
    only_one (Turn z) u v c a b = absurd c
    only_one Nowhere u v c a b = absurd c
