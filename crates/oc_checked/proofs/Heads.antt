-- What the rules say of the head of a function.
use Rattle.std.proofs.Common.{◌≡◌, ℕ, false, []}
use Rattle.std.specs.List.{list_any}
use Rattle.oc_tree.specs.Tree.{TFunction, TProgram}
use Rattle.oc_tree.specs.Elements.{function_item}
use Rattle.oc_tree.specs.Broken.{item_rules}
use Rattle.oc_tree.specs.Rules.{has_bad_length, return_missing}
use Rattle.oc_tree.specs.Scope.{takes_param}
use Rattle.oc_desugar.proofs.Unbroken.{Passes, none_broken}
use Rattle.oc_checked.proofs.BodiesPass.{FunctionFine}

-- parameters have names of their own and lengths that are allowed, and no result is left out
pub record HeadUnbroken (p : TProgram) (f : TFunction) : Type 0 where
  pub free : takes_param p [] f.params ≡ false
  pub long : list_any (λ q. has_bad_length q.kind) f.params ≡ false
  pub returns : return_missing f ≡ false

-- the head of each function keeps its rules
pub head_unbroken : (p : TProgram) (i : ℕ) (f : TFunction) → FunctionFine p i f → HeadUnbroken p f
head_unbroken p i f fine =
    let rules = item_rules p fine.tally fine.before (function_item f) in
    let r1 : Passes rules = none_broken rules fine.head in
    let r2 = r1.1 in
    let r4 = r2.1 in
    let r10 = r4.1 in
    let r17 = r10.1 in
    let r19 = r17.1 in
    record { free = r2.0; long = r10.0; returns = r19.0 }
