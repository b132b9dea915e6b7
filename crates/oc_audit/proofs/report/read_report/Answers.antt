use Rattle.std.proofs.Common.{map, sym, subst}
use Rattle.oc_tree.specs.Names.{names_view}
use Rattle.oc_audit.specs.Taking.{AreNames}
use Rattle.oc_audit.proofs.Named.{are_names}
use Rattle.oc_audit.proofs.report.read_report.Goals as goal

pub read_named-requires : goal.read_named-requires
read_named-requires c =
    let tree = c.program-tree.result.now in
    record {
      named = subst (λ l. AreNames (names_view tree.names) (map (λ d. d.words) l)) (sym c.deref.ensures.value)
          (subst (λ p. AreNames p.names (map (λ d. d.words) p.nv)) (sym c.program-tree.ensures.same)
          (are_names c.args.program.now.program c.args.program.now.groups c.program-tree.ensures.checked));
    }
