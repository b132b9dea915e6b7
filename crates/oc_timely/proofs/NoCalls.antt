-- Where calls go no deeper, each leaves what it must; and what a function sees when it begins, from where it stands.
use Rattle.std.proofs.Common.{◌≡◌, ℕ, zero, suc, ◌<◌, List, [], ◌∷◌, length, Some, refl, arith}
use Rattle.std.specs.Prelude.{ℤ, slice_get}
use Rattle.oc_tree.specs.Tree.{call, TFunction, TProgram}
use Rattle.oc_tree.specs.Places.{Placed, at_start}
use Rattle.oc_tree.specs.Marked.{TRegion}
use Rattle.oc_meaning.specs.Store.{Store}
use Rattle.oc_meaning.specs.Exec.{Passed, Passing, Passes, Breaks, with_args, args_of}
use Rattle.oc_meaning.specs.Run.{call_to}
use Rattle.oc_copies.specs.Copies.{own_frame}
use Rattle.oc_laws.proofs.Members.{at_place}
use Rattle.oc_timely.specs.Within.{start_where}
use Rattle.oc_copies.specs.Stands.{Stands}
use Rattle.oc_timely.specs.Scopes.{scope_of}
use Rattle.oc_timely.specs.Modes.{Sees}
use Rattle.oc_timely.proofs.Came.{stays}
use Rattle.oc_timely.proofs.StraightGoes.{IsThis, CallsGo, RightLeft}
use Rattle.oc_timely.proofs.Beginning.{AreDistinct, begins_sees}

-- no call is made at depth 0
pub none_go : (p : TProgram) (regions : List TRegion) (home : ℤ → ℕ) (f base : ℕ) (body : List Placed) → CallsGo p regions (call_to p regions 0) home f base body
none_go p regions home f base body b one (call x args) is env w σ sees taken stored = by (args_of env σ args)
  where
    by : (r : Passing) → RightLeft p regions (call_to p regions 0) home f base body b w σ (with_args r b.id σ (λ ps. call_to p regions 0 x ps σ))
    by (Breaks k) = tt
    by (Passes ps) = record {
      came = stays p f base (IsThis p regions (call_to p regions 0) home f base body b) b.at env w σ sees.owns;
      comes = λ t e k j h. absurd h;
      steady = record { taken = taken; deep = refl; since = λ d. refl };
      below = λ j h. absurd h;
      many = refl;
    }

pub stands_at : (fs : List TFunction) (f : ℕ) (g : TFunction) → slice_get fs f ≡ Some g → f < length fs
stands_at [] f g e = absurd (cc)
stands_at (x ∷ fs) zero g e = omega arith
stands_at (x ∷ fs) (suc f) g e = let l = stands_at fs f g e in omega (arith, l)

-- what a function sees when it begins, where its parameters have names of their own
pub start_sees : (p : TProgram) (f : ℕ) (g : TFunction) → slice_get p.functions f ≡ Some g → AreDistinct 0 g.params → (n : ℕ) (ps : List Passed) (σ : Store) → length ps ≡ length g.params →
    Stands p (scope_of p f (at_start g).variables) (own_frame p g ps σ).env (record σ { locals = (own_frame p g ps σ).locals }) →
    Sees p f (length σ.locals) n (at_start g) (own_frame p g ps σ).env (start_where p f (length σ.locals)) (record σ { locals = (own_frame p g ps σ).locals })
start_sees p f g at distinct n ps σ many stands = begins_sees p f g (let l = stands_at p.functions f g at in grind (arith, l)) (at_place (λ h. h.params) p.functions f g [] at) distinct n ps σ many stands
