-- The code of marked programs is right, and so it is an image.
use Rattle.std.proofs.Common.{◌≡◌, ◌≤◌, List, length, ap, sym, ◌∙◌, subst, arith}
use Rattle.std.proofs.lemmas.List.{length-map}
use Rattle.oc_writes.specs.Targets.{may_write, region_targets}
use Rattle.oc_tree.specs.Tree.{TProgram}
use Rattle.oc_tree.specs.Marked.{TMarked, TRegion, IsMarked}
use Rattle.oc_tree.specs.declared.said.Target.{Target}
use Rattle.oc_isa.specs.Image.{Parts, IsWellMade}
use Rattle.oc_code.specs.Code.{code_of}
use Rattle.oc_code.specs.Formed.{IsFormed}
use Rattle.oc_code.specs.Right.{IsRight}
use Rattle.oc_code.proofs.Law.{formed_right}
use Rattle.oc_formed.proofs.Law.{marked_program_formed}

-- a program and regions that are read as those of a marked program
pub read_formed : (m : TMarked) (p : TProgram) (rs : List TRegion) (targets : List (List Target)) → p ≡ m.program → rs ≡ m.regions → IsMarked m → length m.regions ≤ length targets
    → IsFormed p rs targets
read_formed m p rs targets e f is enough =
    subst (λ (q : TProgram). IsFormed q rs targets) (sym e) (subst (λ (r : List TRegion). IsFormed m.program r targets) (sym f) (marked_program_formed m targets is enough))

pub marked_right : (m : TMarked) (targets : List (List Target)) → IsMarked m → length m.regions ≤ length targets → IsRight m.program m.regions targets
marked_right m targets is enough = formed_right m.program m.regions targets (marked_program_formed m targets is enough)

pub read_made : (m : TMarked) (p : TProgram) (rs : List TRegion) (targets : List (List Target)) (parts : Parts) → parts ≡ code_of p rs targets → p ≡ m.program → rs ≡ m.regions
    → IsMarked m → length m.regions ≤ length targets → IsWellMade parts
read_made m p rs targets parts h e f is enough =
    subst (λ (q : Parts). IsWellMade q) (sym h) (formed_right p rs targets (read_formed m p rs targets e f is enough)).made

-- there are targets for each region
pub enough_targets : (m : TMarked) (targets : List (List Target)) → targets ≡ may_write m → length m.regions ≤ length targets
enough_targets m targets e =
    let n : length targets ≡ length m.regions = ap length e ∙ length-map m.regions (region_targets m.program) in
    omega (arith, n)
