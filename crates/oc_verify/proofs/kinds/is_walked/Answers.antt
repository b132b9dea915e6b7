use Rattle.std.proofs.Common.{rules, ◌≡◌, false, true, Some, ap, sym, refl, ◌∙◌, length}
use Rattle.std.specs.Prelude.{◌==◌, if◌then◌else◌, slice_get}
use Rattle.std.proofs.lemmas.Option.{slice_get_read}
use Rattle.oc_verify.specs.Rules.{main_number}
use Rattle.oc_verify.specs.Tables.{passed_seen, was_passed}
use Rattle.oc_verify.proofs.SeenLaws.{was_by}
use Rattle.oc_verify.proofs.kinds.is_walked.Goals as goal

pub returns-else-is_main : goal.returns-else-is_main
returns-else-is_main c =
    let ps = c.args.passed.now.items in
    let k = c.args.function in
    let e : slice_get ps k ≡ Some c.index.result.now = slice_get_read ps (length ps) k c.index.result.now refl c.requires c.index.ensures in
    let not_main : (k == main_number c.args.facts.now) ≡ false = search rules in
    let some : c.is_some.result ≡ was_passed (slice_get (passed_seen ps) k) = search (rules, was_by ps k c.index.result.now e) in
    some ∙ sym (ap (λ b. if b then true else was_passed (slice_get (passed_seen ps) k)) not_main)
