use Rattle.std.proofs.Common.{subst}
use Rattle.oc_verify.specs.Typing.{Typing}
use Rattle.oc_verify.specs.Verified.{IsVerified}
use Rattle.oc_verify.specs.Walks.{table_marks}
use Rattle.oc_verify.proofs.VerifiedLaws.{verified_of}
use Rattle.oc_verify.proofs.verdict.examine.Goals as goal

pub returns-clause-verified : goal.returns-clause-verified
returns-clause-verified c =
    let room = c.in_ok-check_room.ensures.room in
    subst (λ i. (t : Typing) × IsVerified i t) c.in_ok-facts.ensures.image
    (verified_of c.in_ok-facts.facts c.in_ok-facts.ensures.laid c.in_ok-check_all_names.ensures.named c.in_ok-ranks.ranks.items c.in_ok-ranks.ensures.ranked (table_marks c.in_ok-table.table)
    c.in_ok-table.ensures.examined room.0 room.1)
