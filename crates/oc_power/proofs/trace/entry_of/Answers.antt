use Rattle.std.proofs.Common.{◌≡◌, [], ◌∷◌, ◌++◌, rules}
use Rattle.oc_power.proofs.Placed.{kept_beside}
use Rattle.oc_power.proofs.trace.entry_of.Goals as goal

pub returns-clause-kept : goal.returns-clause-kept
returns-clause-kept c =
    let more : c.push.new.self.items ≡ c.args.long.now.items ++ c.args.period ∷ [] = search rules in
    λ entries placed. rw more (kept_beside c.args.long.now.items c.args.period entries placed)
