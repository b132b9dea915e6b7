-- A checked program without regions.
use Rattle.std.proofs.Common.{◌≡◌, refl, sym, subst, List, [], map, arith}
use Rattle.std.proofs.lemmas.List.Elements.{All-nil}
use Rattle.oc_tree.specs.Tree.{TProgram}
use Rattle.oc_tree.specs.Checked.{Group, IsChecked}
use Rattle.oc_tree.specs.Marked.{IsMarked}
use Rattle.oc_tree.specs.Regions.{region_view}
use Rattle.oc_tree.specs.declared.marked.Policy.{Policy}
use Rattle.oc_tree.specs.declared.marked.Region.{Region}

none : (p : TProgram) (g : List Group) → IsChecked p g → IsMarked (record { program = p; groups = g; policies = []; regions = [] })
none p g h = record {
  checked = h;
  regions = record {
    each = All-nil _;
    numbered = refl;
    rising = λ i j d a b. absurd (omega (arith, b));
    apart = λ i j d a b. absurd (omega (arith, b));
  };
}

pub none_marked : (p : TProgram) (g : List Group) (ps : List Policy) (rs : List Region) → ps ≡ [] → rs ≡ [] → IsChecked p g
    → IsMarked (record { program = p; groups = g; policies = ps; regions = map region_view rs })
none_marked p g ps rs e f h =
    subst (λ qs. IsMarked (record { program = p; groups = g; policies = qs; regions = map region_view rs })) (sym e)
    (subst (λ ss. IsMarked (record { program = p; groups = g; policies = []; regions = map region_view ss })) (sym f) (none p g h))
