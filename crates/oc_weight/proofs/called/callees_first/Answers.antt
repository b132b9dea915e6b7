use Rattle.std.proofs.Common.{rules, ◌≡◌, ◌≤◌, true, false, map, length, sym, ap, subst, ◌∙◌, arith}
use Rattle.std.proofs.lemmas.List.{length-map}
use Rattle.std.proofs.lemmas.Bool.Decides.{eqb_tells}
use mathlib.Core.Logic.{inl, inr}
use Rattle.oc_tree.specs.Calls.{body_calls, called_places, function_names}
use Rattle.oc_tree.specs.Reach.{linked}
use Rattle.oc_tree.specs.View.{function_view}
use Rattle.oc_reach.specs.Marked.{is_in, rows}
use Rattle.oc_reach.proofs.LinkLaws.{calls_within}
use Rattle.oc_weight.specs.Order.{IsBegun, IsOrder, comes_back, row_links}
use Rattle.oc_weight.proofs.OrderLaws.{calls_by_rows, none_begun, order_of_all, rows_as_many, too_deep}
use Rattle.oc_weight.proofs.called.callees_first.Goals as goal

pub loop-number-init : goal.loop-number-init
loop-number-init c =
    let n = length c.args.functions.now in
    let links = row_links 0 (rows c.in_ok-callees.callees.items) in
    record {
      bound = ap (λ p. p.1) c.in_ok-marks.ensures;
      begun = subst (λ p. IsBegun links n p.0) (sym c.in_ok-marks.ensures) (none_begun links n);
      done = λ v h. absurd (omega (arith, h));
    }

pub mark_behind-requires-clause-within : goal.mark_behind-requires-clause-within
mark_behind-requires-clause-within c = λ u v l.
    let fs = map function_view c.args.functions.now in
    let r = c.as_slice.result.now in
    let is : rows r ≡ map (λ f. called_places (function_names fs) (body_calls f)) fs =
    ap rows c.as_slice.ensures.value ∙ c.in_ok-callees.ensures ∙ ap (λ t. map (λ f. called_places t (body_calls f)) fs) c.requires in
    let p = calls_within fs u v (ap (λ g. linked g u v) (calls_by_rows fs (rows r) is) ∙ l) in
    let n : length r ≡ length fs = rows_as_many fs r is in
    (omega (arith, p.0, n), omega (arith, p.1, n))

pub returns-then-not-branch-clause-none : goal.returns-then-not-branch-clause-none
returns-then-not-branch-clause-none c =
    let fs = map function_view c.args.functions.now in
    let r = c.as_slice.result.now in
    let is : rows r ≡ map (λ f. called_places (function_names fs) (body_calls f)) fs =
    ap rows c.as_slice.ensures.value ∙ c.in_ok-callees.ensures ∙ ap (λ t. map (λ f. called_places t (body_calls f)) fs) c.requires in
    let n : length r ≡ length c.args.functions.now = rows_as_many fs r is ∙ length-map c.args.functions.now function_view in
    let off : c.in_ok-mark_behind.field-0 ≡ false = search rules in
    let deep : comes_back (row_links 0 (rows r)) (length r) ≡ true =
    too_deep (row_links 0 (rows r)) (length r) c.loop-number.number (omega (arith, n, c.loop-number-test.true)) (λ none. omega (arith, n, c.in_ok-mark_behind.ensures.deep off none)) in
    ap (λ g. comes_back g (length c.args.functions.now)) (calls_by_rows fs (rows r) is) ∙ ap (comes_back (row_links 0 (rows r))) (sym n) ∙ deep

pub loop-number-preserved : goal.loop-number-preserved
loop-number-preserved c =
    let fs = map function_view c.args.functions.now in
    let r = c.in_ok-callees.callees.items in
    let is : rows r ≡ map (λ f. called_places (function_names fs) (body_calls f)) fs = c.in_ok-callees.ensures ∙ ap (λ t. map (λ f. called_places t (body_calls f)) fs) c.requires in
    let n : length r ≡ length c.args.functions.now = rows_as_many fs r is ∙ length-map c.args.functions.now function_view in
    let new = c.mark_behind.new.marks.0 in
    let on : c.in_ok-mark_behind.field-0 ≡ true = search rules in
    record {
      bound = c.in_ok-mark_behind.ensures.bound ∙ c.loop-number.invariant.bound;
      begun = subst (λ k. IsBegun (row_links 0 (rows r)) k new) n
          (subst (λ x. IsBegun (row_links 0 (rows x)) (length x) new) c.as_slice.ensures.value c.in_ok-mark_behind.ensures.begun);
      done = λ v h. elim (eqb_tells v c.loop-number.number) [
        | inl e ↦ subst (λ x. is_in new x ≡ true) (sym e.1) (c.in_ok-mark_behind.ensures.marked on)
        | inr d ↦ c.in_ok-mark_behind.ensures.kept v (c.loop-number.invariant.done v (omega (arith, h, d.1)))
      ];
    }

pub returns-clause-order : goal.returns-clause-order
returns-clause-order c =
    let fs = map function_view c.args.functions.now in
    let n = length c.args.functions.now in
    let r = c.in_ok-callees.callees.items in
    let is : rows r ≡ map (λ f. called_places (function_names fs) (body_calls f)) fs = c.in_ok-callees.ensures ∙ ap (λ t. map (λ f. called_places t (body_calls f)) fs) c.requires in
    let end : n ≤ c.loop-number.number = omega arith in
    subst (λ g. IsOrder g n c.loop-number.marks.0) (sym (calls_by_rows fs (rows r) is))
    (order_of_all (row_links 0 (rows r)) n c.loop-number.marks.0 c.loop-number.invariant.begun (λ v h. c.loop-number.invariant.done v (omega (arith, h, end))))
