-- Calls that break no rule are formed, and so are right sides.
use Rattle.std.proofs.Common.{◌≡◌, ℕ, true, false, List, length, Some, ap, sym, subst, ◌∙◌}
use Rattle.std.specs.Prelude.{is_some, slice_get, ◌&&◌, ◌==◌}
use Rattle.std.specs.List.{list_any}
use Rattle.std.proofs.lemmas.Bool.{eqb-true, and_parts}
use Rattle.oc_tree.specs.Names.{Text}
use Rattle.oc_tree.specs.Tree.{TCall, call, TRight, right_value, right_sense, right_call, TFunction, TProgram}
use Rattle.oc_tree.specs.Marked.{TRegion}
use Rattle.oc_tree.specs.Calls.{function_place, callee, right_calls}
use Rattle.oc_tree.specs.Types.{result_of}
use Rattle.oc_tree.specs.Weight.{has_result}
use Rattle.oc_tree.specs.Elements.{Here}
use Rattle.oc_tree.specs.Rules.{is_main, args_meet, args_list, params_of, has_bad_length}
use Rattle.oc_tree.specs.Walks.{call_known, args_known, right_known}
use Rattle.oc_code.specs.Scope.{Named}
use Rattle.oc_code.proofs.Needs.{gives, result_named}
use Rattle.oc_code.specs.Formed.{call_formed, right_formed}
use Rattle.oc_desugar.proofs.FineCalls.{CallFine, Gives, Each}
use Rattle.oc_checked.proofs.Called.{Called, name_called, called_named}
use Rattle.oc_checked.proofs.CallLinks.{last_call}
use Rattle.oc_checked.proofs.CallsFall.{Lower}
use Rattle.oc_formed.proofs.BodiesPlaces.{among_known, called_meant}
use Rattle.oc_formed.proofs.BodiesArguments.{all_passed}
use Rattle.oc_formed.proofs.ScopesSeen.{AllFound}

-- no function has a parameter of no words
abbrev pub LongParams : TProgram → Type 0
LongParams p = (i : ℕ) (g : TFunction) → slice_get p.functions i ≡ Some g → list_any (λ q. has_bad_length q.kind) g.params ≡ false

module _ (p : TProgram) (long : LongParams p) (regions : List TRegion) (rank : Text → ℕ) (own : ℕ) (h : Here) (γ : List Named) (all : AllFound p h.scope γ) where
  -- a call that breaks no rule is formed
  pub call_is_formed : (c : TCall) → call_known p h.scope c ≡ true → CallFine p h c → Lower p rank own c → call_formed p.names p.functions regions rank own γ c
  call_is_formed (call f args) known fine lower =
      let to : Called p f = name_called p f (and_parts (is_some (function_place p.functions f)) (args_known p h.scope args) known).0 in
      let meets : (length to.callee.params == length (args_list args)) && args_meet p h.scope to.callee.params args ≡ true =
      subst (λ qs. (length qs == length (args_list args)) && args_meet p h.scope qs args ≡ true) (ap params_of (called_named p f to)) fine.meets in
      let same = eqb-true (length to.callee.params) (length (args_list args)) (and_parts (length to.callee.params == length (args_list args)) (args_meet p h.scope to.callee.params args) meets).0 in
      let each = (and_parts (length to.callee.params == length (args_list args)) (args_meet p h.scope to.callee.params args) meets).1 in
      record {
        callee = to.callee;
        found = called_meant p f to;
        no_main = ap is_main (sym to.same) ∙ fine.other;
        lower = lower to.number to.placed;
        passed = all_passed p h.scope γ all to.callee.params args (long to.number to.callee to.stands) same each fine.lends;
      }

  -- a call whose result is used has one
  call_gives : (c : TCall) → call_known p h.scope c ≡ true → Gives p c → has_result p.functions c ≡ true
  call_gives (call f args) known has =
      let to : Called p f = name_called p f (and_parts (is_some (function_place p.functions f)) (args_known p h.scope args) known).0 in
      result_named p.functions f ∙ ap gives (called_meant p f to) ∙ sym (ap (λ o. is_some (result_of o)) (called_named p f to)) ∙ has

  -- a right side whose calls break no rule is formed
  pub right_is_formed : (r : TRight) → right_known p h.scope r ≡ true → Each (CallFine p h) (right_calls r) → Each (Gives p) (right_calls r)
      → Each (Lower p rank own) (right_calls r) → right_formed p.names p.functions regions rank own γ r
  right_is_formed (right_value e) known fine has lower = tt
  right_is_formed (right_sense s) known fine has lower = among_known p.names.sensors s known
  right_is_formed (right_call c) known fine has lower =
      (call_is_formed c known (last_call (CallFine p h) c fine) (last_call (Lower p rank own) c lower), call_gives c known (last_call (Gives p) c has))
