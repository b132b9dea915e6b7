use Rattle.std.proofs.Common.{ap, ◌∙◌}
use Rattle.oc_verify.specs.Reading.{is_named}
use Rattle.oc_verify.proofs.NameLaws.{any_seen}
use Rattle.oc_verify.proofs.names.Seen.has.Goals as goal

pub returns : goal.returns
returns c = c.contains.ensures ∙ any_seen c.args.name.now c.self.inside.names.keys ∙ ap (λ s. is_named s c.args.name.now) c.self.view_is
