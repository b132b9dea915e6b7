use Rattle.std.proofs.Common.{ap, sym, ◌∙◌, ◌==◌}
use Rattle.std.proofs.lemmas.List.Sorted.{list_any-IsPermutation, IsNonDecreasingBy-from_sort}
use Rattle.oc_tree.specs.Members.{is_number_of}
use Rattle.oc_regcheck.proofs.blocks.Blocks.new.Goals as goal

pub returns : goal.returns
returns c = λ t. sym (list_any-IsPermutation (λ x. x == t) _ _ c.sort_unstable.ensures.permutation) ∙ ap (λ xs. is_number_of xs t) c.in_ok-sorted.ensures.items

pub invariant_of-result : goal.invariant_of-result
invariant_of-result c = IsNonDecreasingBy-from_sort (λ x. x) _ c.sort_unstable.ensures.sorted
