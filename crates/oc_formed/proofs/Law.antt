-- Every checked program is formed.
use Rattle.std.proofs.Common.{◌≡◌, ◌≤◌, ℕ, List, [], length, Option, Some, None, sym, ap, refl, ◌∙◌}
use Rattle.std.specs.Prelude.{codes, slice_get}
use Rattle.std.specs.List.{All}
use Rattle.std.proofs.lemmas.Bool.{ltb-false}
use Rattle.std.proofs.lemmas.List.Elements.{All-nil}
use Rattle.oc_tree.specs.Tree.{TFunction, TProgram}
use Rattle.oc_tree.specs.declared.said.Target.{Target}
use Rattle.oc_tree.specs.Marked.{TRegion, TMarked, IsMarked}
use Rattle.oc_tree.specs.Checked.{Group, IsChecked}
use Rattle.oc_tree.specs.Stack.{stack_words}
use Rattle.oc_tree.specs.Broken.{size_rules, lowest, or_later, or_size}
use Rattle.oc_code.specs.Formed.{IsFormed}
use Rattle.oc_desugar.proofs.NumberLists.{is_numbered}
use Rattle.oc_desugar.proofs.OwnExpansion.{own_expansion}
use Rattle.oc_desugar.proofs.SizesKept.{unbroken_element}
use Rattle.oc_desugar.proofs.Unbroken.{Passes, none_broken}
use Rattle.oc_formed.proofs.BodiesPlaces.{called_meant}
use Rattle.oc_formed.proofs.BodiesMarked.{BlockMarked, block_unmarked}
use Rattle.oc_formed.proofs.RegionsMarked.{bodies_marked}
use Rattle.oc_checked.proofs.RegionsApart.{in_blocks, firsts_differ, lasts_differ, ids_known}
use Rattle.oc_formed.proofs.BodiesFormed.{marked_bodies_formed}
use Rattle.oc_checked.proofs.Ranks.{rank_of}
use Rattle.oc_checked.proofs.CallsFall.{ranks_fall, main_low}
use Rattle.oc_checked.proofs.Declared.{AllWithin, all_within}
use Rattle.oc_checked.proofs.Mains.{main_called, main_alone, main_takes_none, main_gives_none}
use Rattle.oc_checked.proofs.Amounts.{few_sensors, few_ports, few_nvs, few_words, nv_some}
use Rattle.oc_formed.proofs.CodeShort.{code_short}

module _ (p : TProgram) (groups : List Group) (checked : IsChecked p groups) where
  -- what its declarations keep
  within : AllWithin p
  within = all_within p checked.form.declared checked.unbroken

  -- no rule on sizes is broken
  no_size : (line : ℕ) (o : Option ℕ) → or_later line o None ≡ None → o ≡ None
  no_size line None h = refl
  no_size line (Some rule) h = absurd (cc h)

  -- the rule on the stack of `main`
  stack_low : stack_words p ≤ 65536
  stack_low =
      let sizes : or_later p.last_line (lowest (size_rules p)) None ≡ None = sym (ap (or_size p) (unbroken_element p checked.unbroken)) ∙ checked.unbroken in
      let t : Passes (size_rules p) = none_broken (size_rules p) (no_size p.last_line (lowest (size_rules p)) sizes) in
      ltb-false 65536 (stack_words p) t.1.0

  -- with regions whose numbers have targets, and which begin and end in the same block
  marked_formed : (regions : List TRegion) (targets : List (List Target))
      → ((i : ℕ) (f : TFunction) → slice_get p.functions i ≡ Some f → BlockMarked regions f.body)
      → All (λ r. (1 ≤ r.id) × (r.id ≤ length targets)) regions
      → IsFormed p regions targets
  marked_formed regions targets marked known = record {
    expanded = own_expansion p checked.plain (is_numbered p checked.form.numbered.statements);
    rank = rank_of p.functions;
    main = (main_called p within).callee;
    main_found = called_meant p (codes "main") (main_called p within);
    main_alone = main_alone p within;
    main_takes_none = main_takes_none p within;
    main_gives_none = main_gives_none p within;
    main_high = main_low p checked.unbroken checked.form.declared within;
    bodies = marked_bodies_formed p groups checked (rank_of p.functions) (ranks_fall p checked.unbroken checked.form.declared within) regions marked;
    stack_low = stack_low;
    code_short = code_short p within regions checked.unbroken checked.form.declared checked.form.few_nodes;
    regions_known = known;
    few_sensors = few_sensors p within;
    few_ports = few_ports p within;
    few_nvs = few_nvs p within;
    each_nv = checked.form.declared.each_nv;
    nv_some = nv_some p within checked.form.declared.each_nv checked.form.spellable.nv;
    few_words = few_words p within checked.form.declared.each_nv;
  }

-- without regions
pub checked_formed : (p : TProgram) (groups : List Group) → IsChecked p groups → IsFormed p [] []
checked_formed p groups checked = marked_formed p groups checked [] [] (λ i f stands. block_unmarked f.body) (All-nil (λ r. (1 ≤ r.id) × (r.id ≤ 0)))

-- with the regions of a marked program
pub marked_program_formed : (m : TMarked) (targets : List (List Target)) → IsMarked m → length m.regions ≤ length targets → IsFormed m.program m.regions targets
marked_program_formed m targets is enough =
    let are = is.regions in
    let n = length m.policies in
    marked_formed m.program m.groups is.checked m.regions targets
    (bodies_marked m.program is.checked.form.numbered m.regions (in_blocks m.program n m.regions are) (firsts_differ m.program n m.regions are) (lasts_differ m.program n m.regions are))
    (ids_known m.program n m.regions are (length targets) enough)
