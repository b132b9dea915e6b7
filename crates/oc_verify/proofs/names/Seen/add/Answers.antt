use Rattle.std.proofs.Common.{rules, ◌≡◌, [], ◌∷◌, ◌++◌, ap, ◌∙◌}
use Rattle.oc_tree.specs.Names.{names_seen}
use Rattle.oc_verify.specs.Reading.{is_named}
use Rattle.oc_verify.proofs.NameLaws.{on_any, seen_then}
use Rattle.oc_verify.proofs.names.Seen.add.Goals as goal
use Rattle.oc_verify.proofs.names.Seen.add.Goals.{in-Ok, in-Err}

pub returns : goal.returns
returns c = elim c.match-insert_full.branch [
  | in-Ok w ↦
      let keys = c.self.inside.names.keys in
      let e : names_seen c.insert_full.new.self.keys ≡ c.args.self.now ++ c.args.name.now ∷ [] =
      ap names_seen w.in-Ok.ensures.keys ∙ seen_then keys c.args.name (ap (λ s. is_named s c.args.name.now) c.self.view_is ∙ c.requires) ∙ ap (λ s. s ++ c.args.name.now ∷ []) c.self.view_is in
      on_any c.match-insert_full.result e
  | in-Err w ↦ search rules
]
