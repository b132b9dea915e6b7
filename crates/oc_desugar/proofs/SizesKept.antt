-- An expansion breaks no rule on weight or stack that the written program doesn't break: it is its own expansion.
use Rattle.std.proofs.Common.{◌≡◌, ℕ, ◌+◌, Option, Some, None, List, [], ◌∷◌, length, refl, ap, sym, ◌∙◌}
use Rattle.std.specs.Prelude.{codes, nat_lt}
use Rattle.std.specs.List.{list_any}
use Rattle.oc_tree.specs.Tree.{TFunction, TProgram}
use Rattle.oc_tree.specs.Calls.{place, function_names, function_place}
use Rattle.oc_tree.specs.declared.broken.Broken.{Broken}
use Rattle.oc_tree.specs.Pulls.{block_pulls}
use Rattle.oc_tree.specs.Expansion.{block_size, expand_functions, expansion}
use Rattle.oc_tree.specs.Weight.{known_of, weights, weights_to}
use Rattle.oc_tree.specs.Stack.{stacks, stacks_to, stack_words}
use Rattle.oc_tree.specs.Broken.{size_rules, or_size, or_later, lowest, broken_element, broken}
use Rattle.oc_desugar.proofs.NoPulls.{none_left}
use Rattle.oc_desugar.proofs.NumberedLaws.{numbered}
use Rattle.oc_desugar.proofs.OwnExpansion.{own_expansion}
use Rattle.oc_desugar.proofs.FormKept.{functions_length}

-- the functions keep their names
names_kept : (k i : ℕ) (fs : List TFunction) → function_names (expand_functions k i fs) ≡ function_names fs
names_kept k i [] = refl
names_kept k i (f ∷ fs) = ap (λ l. f.name ∷ l) (names_kept (k + block_pulls f.body) (i + block_size f.body) fs)

module _ (p : TProgram) where
  twice : expansion (expansion p) ≡ expansion p
  twice = own_expansion (expansion p) (none_left p) (numbered p)

  same_weights : weights (expansion p) ≡ weights p
  same_weights = ap (λ q. weights_to q.functions (length (expansion p).functions)) twice ∙ ap (weights_to (expansion p).functions) (functions_length 1 1 p.functions)

  same_stacks : stacks (expansion p) ≡ stacks p
  same_stacks = ap (λ q. stacks_to q.functions (length (expansion p).functions)) twice ∙ ap (stacks_to (expansion p).functions) (functions_length 1 1 p.functions)

  same_words : stack_words (expansion p) ≡ stack_words p
  same_words =
      ap (λ ws. known_of ws (function_place (expansion p).functions (codes "main"))) same_stacks
      ∙ ap (λ names. known_of (stacks p) (place names (codes "main"))) (names_kept 1 1 p.functions)

  same_sizes : size_rules (expansion p) ≡ size_rules p
  same_sizes =
      ap (λ ws. (23, list_any (nat_lt 4294967296) ws) ∷ (24, nat_lt 65536 (stack_words (expansion p))) ∷ []) same_weights
      ∙ ap (λ n. (23, list_any (nat_lt 4294967296) (weights p)) ∷ (24, nat_lt 65536 n) ∷ []) same_words

-- where no rule is broken, none of the elements is, and none on sizes
pub unbroken_element : (p : TProgram) → broken p ≡ None → broken_element p ≡ None
unbroken_element p h = of (broken_element p) h where
  of : (o : Option Broken) → or_size p o ≡ None → o ≡ None
  of None e = refl
  of (Some b) e = absurd (cc e)

pub unbroken_kept : (p : TProgram) → broken_element (expansion p) ≡ None → broken p ≡ None → broken (expansion p) ≡ None
unbroken_kept p e h =
    ap (or_size (expansion p)) e
    ∙ ap (λ t. or_later p.last_line (lowest t) None) (same_sizes p)
    ∙ sym (ap (or_size p) (unbroken_element p h))
    ∙ h
