use Rattle.std.proofs.Common.{◌≡◌, ◌≢◌, ◌-◌, ◌∙◌, ap, sym, arith, length}
use Rattle.std.proofs.lemmas.Bool.Decides.{nat_tests}
use Rattle.oc_power.specs.Looping.{Looping}
use Rattle.oc_power.proofs.Rounds.{next_round, no_round, nothing_round, round_told}
use Rattle.oc_power.proofs.looped.LoopedSupply.next.Goals as goal
use Rattle.oc_power.proofs.looped.LoopedSupply.next.Goals.{then-self-eq0-via-then-self-eq0, then-self-eq0-via-else-self-eq0+then-is_empty, then-self-len+else-self-eq0+else-is_empty, else-self-len}

pub returns-then-self-eq0-clause-first : goal.returns-then-self-eq0-clause-first
returns-then-self-eq0-clause-first c =
    let was = c.self.inside in
    let none = ap (λ (v : Looping). v.left) (sym c.self.view_is) ∙ elim c.then-self-eq0.branch [
      | then-self-eq0-via-then-self-eq0 w ↦ rw w.if-self-eq0.true (no_round was.rows was.place (omega arith))
      | then-self-eq0-via-else-self-eq0+then-is_empty w ↦
          let empty : length was.rows ≡ 0 = grind (arith, nat_tests) in
          nothing_round was.rows was.place was.rounds_left (omega arith)
    ] in
    (none, none)

pub returns-clause-first : goal.returns-clause-first
returns-clause-first c =
    let was = c.self.inside in
    ap (λ (v : Looping). v.left) (sym c.self.view_is) ∙ elim c.if-self-len.branch [
      | then-self-len+else-self-eq0+else-is_empty w ↦
          let some : length was.rows ≢ 0 = grind (arith, nat_tests) in
          rw w.self-inside-is (
          next_round was.rows was.place was.rounds_left (omega arith) (omega arith)
          ∙ round_told was.rows 0 (was.rounds_left - 1) c.period-period.result (rw w.self-inside-is at c.period-period.ensures)
          )
      | else-self-len w ↦
          rw w.self-inside-is (round_told was.rows was.place was.rounds_left c.period-period.result (rw w.self-inside-is at c.period-period.ensures))
    ]
