-- What is known of each function of a program with marks that cover what is required.
use Rattle.std.proofs.Common.{◌≡◌, ◌⊎◌, inl, inr, ℕ, ◌+◌, Bool, true, false, true≢false, List, length, Some, sym, ◌∙◌}
use Rattle.std.specs.Prelude.{slice_get}
use Rattle.oc_tree.specs.Tree.{call, TFunction, TProgram}
use Rattle.oc_tree.specs.Numbers.{block_statements}
use Rattle.oc_tree.specs.Places.{Placed, at_start, block_placed}
use Rattle.oc_tree.specs.Marked.{TMarked, IsMarked}
use Rattle.oc_tree.specs.declared.tree.VarId.{VarId}
use Rattle.oc_meaning.specs.Blocks.{set_home}
use Rattle.oc_meaning.specs.Run.{call_to}
use Rattle.oc_effects.specs.Effects.{TCalled, effect_of}
use Rattle.oc_tree.specs.Members.{IsOf}
use Rattle.oc_flow.specs.Laws.{FlowsIsFlow, BringsIsBrings}
use Rattle.oc_flow.proofs.FlowLaw.{flows_decide, brings_decide}
use Rattle.oc_flow.proofs.Ranks.{ranked}
use Rattle.oc_needs.specs.Need.{NeedsIsNeed}
use Rattle.oc_needs.proofs.NeedLaw.{needs_decide}
use Rattle.oc_timely.specs.Covering.{IsCoveredAt, IsCovering}
use Rattle.oc_timely.specs.Enough.{Target, Met}
use Rattle.oc_timely.specs.Scopes.{scope_of}
use Rattle.oc_timely.specs.Steps.{RequirementsMeet}
use Rattle.oc_timely.specs.Modes.{Flows}
use Rattle.oc_timely.specs.Laid.{Static}
use Rattle.oc_timely.proofs.Apart.{its, region, one_region}
use Rattle.oc_timely.proofs.Inputs.{input_is}
use Rattle.oc_timely.proofs.Calls.{CallsMayPass}
use Rattle.oc_timely.proofs.Sound.{Knows}
use Rattle.oc_copies.proofs.MayPass.{calls_may_pass}
use Rattle.oc_timely.proofs.Around.{below, inner}
use Rattle.oc_timely.proofs.Lifted.{low, lifted_low}
use Rattle.oc_timely.proofs.Laying.{bodies_laid}
use Rattle.oc_timely.proofs.Stated.{found, effect, region_begins}
use Rattle.oc_timely.proofs.Needing.{targets_need}
use Rattle.oc_timely.proofs.Meeting.{requirements_meet}
use Rattle.oc_timely.proofs.Ruling.{ruled}
use Rattle.oc_timely.proofs.Distinct.{checked_sees}

-- ---- the tests of flow and of needs

pub flows_are : FlowsIsFlow
flows_are p groups checked f u v = flows_decide p (ranked p groups checked) f u v

pub brings_are : BringsIsBrings
brings_are p groups checked f a v i = brings_decide p (ranked p groups checked) f a v i

pub needs_are : NeedsIsNeed
needs_are p groups checked q f w = needs_decide p groups checked q f w

pub each_met : RequirementsMeet
each_met = requirements_meet flows_are brings_are needs_are

module _ (m : TMarked) (marked : IsMarked m) (guarded : ℕ → Bool) (f : ℕ) (g : TFunction) (at : slice_get m.program.functions f ≡ Some g) where
  abbrev p : TProgram
  p = m.program

  abbrev body : List Placed
  body = block_placed (at_start g) g.body

  -- the facts of the statics, where marks cover what is required
  pub static_of : (guarded f ≡ false → (b : Placed) (x : VarId) → IsOf b body → Target p f (effect_of p b) x → Met m f (effect_of p b) x) →
      (guarded f ≡ false → (b : Placed) (c : TCalled) → IsOf b body → (effect_of p b).call ≡ Some c → guarded c.function ≡ true → IsCoveredAt m f b.id) → Static m guarded f body
  static_of met calls = record {
    found = found p f g at marked.checked.form.numbered.statements;
    effect = effect p f g at;
    below = below p marked.checked.form.numbered.statements;
    one_region = λ r q s i j d e. one_region p (length m.policies) m.regions marked.regions r q s i j d e;
    region = λ r i. region p (length m.policies) m.regions marked.regions r i;
    input = λ a u x i b fl. input_is flows_are brings_are p m.groups marked.checked f a u x i b fl;
    site_low = λ a u x i. low flows_are p m.groups marked.checked f a u x i;
    site_lifted = λ a u w x loop i o is b k e. lifted_low flows_are p m.groups marked.checked f a u w x loop i o is b k e;
    met = met;
    calls = calls;
  }

module _ (m : TMarked) (marked : IsMarked m) (c : IsCovering m) (f : ℕ) (g : TFunction) (at : slice_get m.program.functions f ≡ Some g) where
  unless : {A : Type 0} → c.guarded f ≡ false → (c.guarded f ≡ true) ⊎ A → A
  unless e (inl h) = absurd (true≢false (sym h ∙ e))
  unless e (inr a) = a

  static : Static m c.guarded f (block_placed (at_start g) g.body)
  static = static_of m marked c.guarded f g at (λ e b x o t. unless e (each_met m marked c f (effect_of m.program b) x (effect m.program f g at b o) t))
      (λ e b d o is h. unless e (c.guarding.calls f (effect_of m.program b) d (effect m.program f g at b o) is h))

  -- what its calls pass
  may_pass : (base : ℕ) → CallsMayPass m.program f base (block_placed (at_start g) g.body)
  may_pass base b o x args is env w σ sees stored u h place stands ps e =
      calls_may_pass m.program (scope_of m.program f b.at.variables) env σ sees.stands x args
      (ruled m.program m.groups marked.checked f g at (found m.program f g at marked.checked.form.numbered.statements) b o (call x args) is) u h place stands ps e

  -- what is left: the flow at each statement
  pub known : ((depth base : ℕ) → Flows m.program m.regions (call_to m.program m.regions depth) (set_home g.body) f base (block_placed (at_start g) g.body)) → Knows m c.guarded f g
  known flows =
      let laid = bodies_laid m.program marked.checked.form.numbered f g at in
      record {
        static = static;
        first = laid.0;
        end = laid.0 + length (block_statements g.body);
        laid = laid.2;
        regions = λ r i e. region_begins m.program (length m.policies) f laid.0 g at laid.1 r (its m.program (length m.policies) m.regions marked.regions r i) e;
        needs = targets_need m.program f;
        inner = λ loop s e. inner m.program marked.checked.form.numbered.statements f loop s e;
        flows = flows;
        may = may_pass;
        sees = λ ps σ stored formed. checked_sees m.program m.groups marked.checked f g at laid.0 ps σ formed;
      }
