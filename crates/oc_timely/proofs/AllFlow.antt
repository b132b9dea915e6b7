-- Samples stay within the flow, at each statement of each function, however deep calls go.
use Rattle.std.proofs.Common.{◌≡◌, ℕ, zero, suc, ◌+◌, true, true≢false, List, map, length, Some, refl, sym, subst, arith}
use Rattle.std.proofs.lemmas.Bool.{and_from}
use Rattle.std.specs.Prelude.{slice_get, nat_lt}
use Rattle.oc_tree.specs.Tree.{TFunction, TProgram}
use Rattle.oc_tree.specs.Numbers.{block_statements}
use Rattle.oc_tree.specs.Places.{Placed, at_start, block_placed}
use Rattle.oc_tree.specs.Marked.{TMarked, IsMarked}
use Rattle.oc_tree.specs.declared.tree.VarId.TheVariants as variables
use Rattle.oc_meaning.specs.Blocks.{set_home}
use Rattle.oc_meaning.specs.Store.{Store}
use Rattle.oc_meaning.specs.Exec.{Outcome, Went, Returned, Stopped}
use Rattle.oc_meaning.specs.Run.{call_to}
use Rattle.oc_effects.specs.Effects.{TEffect, effects_at, params_at}
use Rattle.oc_flow.specs.Variables.{is_among, variables as all_variables, is_variable, from}
use Rattle.oc_tree.specs.Members.{IsOf}
use Rattle.oc_copies.specs.Copies.{own_frame, own_run}
use Rattle.oc_timely.specs.Within.{start_where, AnyOf}
use Rattle.oc_timely.specs.Modes.{IsEffectAmong, PairedBlock}
use Rattle.oc_timely.proofs.CallsGoes.{FlowsOut, RunsFlow, calls_go}
use Rattle.oc_timely.proofs.Distinct.{checked_sees}
use Rattle.oc_timely.specs.Modes.{AllFlows}
use Rattle.oc_timely.proofs.Flowing.{Known, block_goes, all_flows}
use Rattle.oc_timely.proofs.Gives.{block_gives}
use Rattle.oc_timely.proofs.Known.{static_of}
use Rattle.oc_timely.proofs.Laying.{bodies_laid}
use Rattle.oc_timely.proofs.NamedAll.{checked_named}
use Rattle.oc_timely.proofs.NoCalls.{none_go, stands_at}
use Rattle.oc_timely.proofs.Pairs.{paired_block}
use Rattle.oc_timely.proofs.Returning.{body_ends}
use Rattle.oc_timely.proofs.SeesOn.{AreNamed}
use Rattle.oc_timely.proofs.Sources.{among_back}
use Rattle.oc_timely.proofs.StraightGoes.{CallsGo}
use Rattle.oc_timely.proofs.Writes.{came_wider, comes_wider}

-- the result is a variable of each function
has_result : (p : TProgram) (f : ℕ) (g : TFunction) → slice_get p.functions f ≡ Some g → is_variable p f variables.Returned ≡ true
has_result p f g at =
    let inside : nat_lt f (length p.functions) ≡ true = (let l = stands_at p.functions f g at in grind (arith, l)) in
    and_from (nat_lt f (length p.functions)) (is_among variables.Returned (all_variables p f)) inside
    (among_back variables.Returned (map variables.Nv (from 0 (length p.names.nvs))) _ (among_back variables.Returned (map variables.Param (from 0 (length (params_at p f)))) _ refl))

module _ (m : TMarked) (marked : IsMarked m) where
  abbrev p : TProgram
  p = m.program

  abbrev body : TFunction → List Placed
  body g = block_placed (at_start g) g.body

  named : (f : ℕ) (g : TFunction) → slice_get p.functions f ≡ Some g → AreNamed p f (body g)
  named f g at = checked_named p m.groups marked.checked f g at

  paired : (f : ℕ) (g : TFunction) → (at : slice_get p.functions f ≡ Some g) → PairedBlock m.regions (bodies_laid p marked.checked.form.numbered f g at).0 g.body
  paired f g at =
      let laid = bodies_laid p marked.checked.form.numbered f g at in
      paired_block m (λ u. true) f (body g) (static_of m marked (λ u. true) f g at (λ e. absurd (true≢false e)) (λ e. absurd (true≢false e))) laid.0 (at_start g) laid.0 g.body
      (laid.0 + length (block_statements g.body)) (omega arith) laid.2 (λ z i. i)

  -- the calls of a function's statements, where they go so deep
  abbrev CallsAt : (depth : ℕ) → Type 0
  CallsAt depth = (f : ℕ) (g : TFunction) → slice_get p.functions f ≡ Some g → (base : ℕ) → CallsGo p m.regions (call_to p m.regions depth) (set_home g.body) f base (body g)

  run_flows : (depth : ℕ) → CallsAt depth → RunsFlow p m.regions depth
  run_flows depth calls f g at ps σ stored formed taken = by (own_run p m.regions depth g ps σ) refl
    where
      base : ℕ
      base = length σ.locals

      own : Store
      own = record σ { locals = (own_frame p g ps σ).locals }

      first : ℕ
      first = (bodies_laid p marked.checked.form.numbered f g at).0

      names : AreNamed p f (body g)
      names = named f g at

      known : Known p m.regions (call_to p m.regions depth) (set_home g.body) f base (body g) names (calls f g at base) first (at_start g) (own_frame p g ps σ).env (start_where p f base) own
      known = record { sees = checked_sees p m.groups marked.checked f g at first ps σ formed; taken = taken; stored = stored }

      any : (a : TEffect) → IsEffectAmong p (body g) a → AnyOf p f a
      any a i = subst (λ e. IsOf e (effects_at p f)) (sym i.2) (names.effect i.0 i.1)

      by : (o : Outcome) → own_run p m.regions depth g ps σ ≡ o → FlowsOut p f base own o
      by (Went τ) e =
          let r = block_goes p m.regions (call_to p m.regions depth) (set_home g.body) f base (body g) names (calls f g at base) (at_start g) first g.body (λ z i. i) (paired f g at)
          (own_frame p g ps σ).env (start_where p f base) own τ known e in
          (came_wider p f base (IsEffectAmong p (body g)) (AnyOf p f) any (start_where p f base) (start_where p f base) own τ r.came, r.steady, r.many)
      by (Returned v τ) e =
          let r = block_gives p m.regions (call_to p m.regions depth) (set_home g.body) f base (body g) names (calls f g at base) (has_result p f g at) (at_start g) first g.body
          (body_ends p m.groups marked.checked f g at) (λ z i. i) (paired f g at) (own_frame p g ps σ).env (start_where p f base) own τ v known e in (
            came_wider p f base (IsEffectAmong p (body g)) (AnyOf p f) any (start_where p f base) (start_where p f base) own τ r.gone.came,
            r.gone.steady,
            r.gone.many,
            λ j h. (comes_wider p f (IsEffectAmong p (body g)) (AnyOf p f) any _ own.taken variables.Returned j (r.gave.comes j h), r.gave.below j h),
          )
      by (Stopped s τ) e = tt

  calls_at : (depth : ℕ) → CallsAt depth
  calls_at zero f g at base = none_go p m.regions (set_home g.body) f base (body g)
  calls_at (suc d) f g at base = calls_go p m.groups marked.checked m.regions d (set_home g.body) f base (body g) (named f g at) (run_flows d (calls_at d))

pub all_flow : AllFlows
all_flow m marked f g at depth base = all_flows m.program m.regions (call_to m.program m.regions depth) (set_home g.body) f base (block_placed (at_start g) g.body) (named m marked f g at)
    (calls_at m marked depth f g at base)
