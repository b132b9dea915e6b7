use Rattle.std.proofs.Common.{rules, ◌≡◌}
use Rattle.std.specs.Fmt.{signed_decimal}
use Rattle.oc_report.proofs.regions.put_consistent.Goals as goal

pub returns : goal.returns
returns g c =
    let digits : c.as_bytes.result.now ≡ signed_decimal c.args.id = search rules in
    rw digits at c.put_pieces.ensures
