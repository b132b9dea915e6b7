-- How large the bodies of functions are.
use Rattle.std.proofs.Common.{◌≡◌, ℕ, zero, suc, ◌+◌, ◌-◌, ◌*◌, ◌<◌, ◌≤◌, List, [], ◌∷◌, length, get_or, refl, ap, ◌∙◌, subst, arith}
use Rattle.std.specs.Prelude.{max, Contains}
use Rattle.oc_tree.specs.declared.tree.Function.{Function}
use Rattle.oc_tree.specs.declared.tree.Block.{size-Block}

abbrev pub largest : List Function → ℕ
largest [] = 0
largest (f ∷ fs) = max (size-Block f.body) (largest fs)

no_larger_at : (fs : List Function) (k : ℕ) (d : Function) → k < length fs → size-Block (get_or fs k d).body ≤ largest fs
no_larger_at [] k d h = absurd (omega arith)
no_larger_at (f ∷ fs) zero d h = omega arith
no_larger_at (f ∷ fs) (suc k) d h = omega (arith, no_larger_at fs k d (omega arith))

pub no_larger : (fs : List Function) (f : Function) → Contains fs f → size-Block f.body ≤ largest fs
no_larger fs f h = subst (λ (g : Function). size-Block g.body ≤ largest fs) h.2 (no_larger_at fs h.0 f h.1)

one_more : (d x : ℕ) → suc d * x ≡ d * x + x
one_more d x = omega arith

pub less_deep : (d x : ℕ) → (d ≡ 0 → ⊥) → d * x ≡ (d - 1) * x + x
less_deep zero x h = absurd (h refl)
less_deep (suc d) x h =
    let e : d ≡ suc d - 1 = omega arith in
    one_more d x ∙ ap (λ n. n * x + x) e
