use Rattle.std.proofs.Common.{◌≡◌, ◌∙◌, ap, refl}
use Rattle.oc_power.specs.Looping.{Looping, whole_rounds}
use Rattle.oc_power.specs.Total.{total}
use Rattle.oc_power.proofs.Rounds.{rounds_begin, total-looped, whole_rounds-capped}
use Rattle.oc_power.proofs.looped.LoopedSupply.take.Goals as goal

pub returns-clause-sum : goal.returns-clause-sum
returns-clause-sum c = λ _. total-looped _ c.args.rows

pub returns-clause-ok : goal.returns-clause-ok
returns-clause-ok c =
    let count : c.count_rounds-self-inside.result ≡ whole_rounds c.args.self.now.rounds (total c.args.rows) =
    c.count_rounds-self-inside.ensures ∙ ap (λ sum. whole_rounds c.self.inside.rounds sum) c.capped_total.ensures
    ∙ whole_rounds-capped c.self.inside.rounds (total c.args.rows) ∙ ap (λ (v : Looping). whole_rounds v.rounds (total c.args.rows)) c.self.view_is in
    rounds_begin c.args.rows c.len-self-inside.result c.count_rounds-self-inside.result c.len-self-inside.ensures ∙ rw count refl
