use Rattle.std.proofs.Common.{ℕ, ◌≡◌, ◌+◌, ◌<◌, ◌^◌, ◌∙◌, [], ◌∷◌, ◌++◌, Some, List, ap, sym, arith, rules}
use Rattle.std.proofs.lemmas.List.Sums.{sum_by_push}
use Rattle.oc_io.specs.declared.period.Period.{Period}
use Rattle.oc_power.specs.Power.{Power, period_row, power_rows, with_period}
use Rattle.oc_power.specs.Causes.{why_rows}
use Rattle.oc_power.proofs.Before.{all_with, one_more, one_row, why_on}
use Rattle.oc_power.proofs.power.read_periods.Goals as goal

pub loop-periods-preserved : goal.loop-periods-preserved
loop-periods-preserved c =
    let before = c.loop-periods.periods in
    let p = c.in-Ok.period in
    let row = c.step_on.new.self.row in
    let left = c.step_on.new.self.left in
    let next = c.step_on.new.self.number in
    let number = c.loop-periods.rows.number in
    let sum = c.loop-periods.sum in
    let more : c.push.new.self ≡ before ++ p ∷ [] = search rules in
    let taken : c.loop-periods.rows.left ≡ row ∷ left = search rules in
    let numbered : next ≡ number + 1 = search rules in
    let read : period_row sum row ≡ Some p = search rules in
    let small : sum + p.on + p.off < 2 ^ 63 = search rules in
    let summed : sum + p.on + p.off ≡ sum + (p.on + p.off) = omega arith in
    let step : power_rows (number + 1) sum (row ∷ left) ≡ with_period p (power_rows (next + 1) (sum + (p.on + p.off)) left) =
    rw (numbered, ← summed) (one_row (number + 1) sum row left p read) in
    record {
      small = omega (arith, small);
      added = rw more (omega (arith, sum_by_push (λ (q : Period). q.on + q.off) before p, c.loop-periods.invariant.added));
      same = ap (λ (ps : List Period). all_with ps (power_rows (next + 1) (sum + (p.on + p.off)) left)) more ∙ one_more before p (power_rows (next + 1) (sum + (p.on + p.off)) left)
          ∙ ap (λ (power : Power). all_with before power) (sym step) ∙ ap (λ (rows : List (List (List ℕ))). all_with before (power_rows (number + 1) sum rows)) (sym taken)
          ∙ c.loop-periods.invariant.same;
      why = rw (← summed) (sym (why_on sum row left p read)) ∙ ap (why_rows sum) (sym taken) ∙ c.loop-periods.invariant.why;
    }
