-- The image of a source is small enough for a file.
use Rattle.std.proofs.Common.{◌<◌, ◌≤◌, ◌^◌, ℕ, ◌+◌, List, [], ◌∷◌, length, subst, sym, arith, All}
use Rattle.std.proofs.Math.ListN.{get_or}
use Rattle.std.proofs.lemmas.List.{length-map}
use Rattle.std.proofs.lemmas.List.Elements.{All-nil, All-cons, All-head, All-tail, All-map}
use Rattle.std.proofs.lemmas.Option.{slice_get-get_or}
use Rattle.oc_tree.specs.Names.{Text}
use Rattle.oc_tree.specs.Tree.{TFunction, TProgram}
use Rattle.oc_tree.specs.Checked.{IsWritten}
use Rattle.oc_tree.specs.Pulls.{block_pulls}
use Rattle.oc_tree.specs.Marked.{TRegion, IsMarked}
use Rattle.oc_tree.specs.Expansion.{block_size, expansion, expand_function, expand_functions, program_size}
use Rattle.oc_desugar.proofs.FewStatements.{few_statements}
use Rattle.oc_desugar.proofs.NumberLists.{statements_listed}
use Rattle.oc_desugar.proofs.SizesKept.{unbroken_element}
use Rattle.oc_isa.specs.Bytes.{IsFew, IsSmall}
use Rattle.oc_isa.specs.Image.{Parts}
use Rattle.oc_code.specs.Code.{function_code, image_function, image_functions}
use Rattle.oc_checked.proofs.Amounts.{few_functions, few_nvs}
use Rattle.oc_checked.proofs.Declared.{AllWithin, all_within}
use Rattle.oc_checked.proofs.Mains.{head_fine}
use Rattle.oc_writes.specs.Targets.{region_targets}
use Rattle.oc_code.proofs.Whole.{as_many}
use Rattle.oc_top.specs.Meant.{program_marked, program_code}
use Rattle.oc_top.specs.Sources.{ReadsAs, program}
use Rattle.oc_top.specs.Steps.{IsBuilt}
use Rattle.oc_top.specs.SmallImages.{ImagesAreSmall}
use Rattle.oc_top.proofs.Accepted.{is_written, marked_there}
use Rattle.oc_top.proofs.FewTargets.{few_regions, few_targets}
use Rattle.oc_top.proofs.ShortNames.{HasShortNames, short_names}

module _ (q : TProgram) (rs : List TRegion) where
  -- the functions of an image have the names of a program's, which the expansion keeps
  pub same_names : (P : Text → Type 0) (k i at : ℕ) (fs : List TFunction) → All (λ f. P f.name) fs → All (λ f. P f.name) (image_functions q rs at (expand_functions k i fs))
  same_names P k i at [] h = All-nil (λ f. P f.name)
  same_names P k i at (f ∷ fs) h =
      let g = expand_function k i f in
      All-cons (λ f. P f.name) (image_function q rs at g) _ (All-head (λ f. P f.name) f fs h)
      (same_names P (k + block_pulls f.body) (i + block_size f.body) (at + length (function_code q rs at g)) fs (All-tail (λ f. P f.name) f fs h))

module _ (source : List ℕ) (p : TProgram) (small : length source ≤ 1048576) (reads : ReadsAs source (program p)) where
  written : IsWritten p
  written = is_written source small p reads

  marked : IsMarked (program_marked p)
  marked = marked_there source small p reads

  within : AllWithin (expansion p)
  within = all_within (expansion p) marked.checked.form.declared marked.checked.unbroken

  names : HasShortNames (length source) p
  names = short_names source reads.0.tokens reads.0.spelled

  -- a name that is no longer than the source
  few_bytes : (xs : List Text) → All (λ x. length x ≤ length source) xs → All IsFew xs
  few_bytes xs h i x l = let short = h i x l in omega (arith, small, short)

  abbrev regions : List TRegion
  regions = (program_marked p).regions

  regions_few : length regions < 2 ^ 32
  regions_few =
      let statements : program_size p ≤ 8192 = few_statements p written.form.declared (unbroken_element p written.unbroken) in
      let few = few_regions (expansion p) (program_size p) (statements_listed p) _ regions marked.regions in
      omega (arith, statements, few)

  targets_few : (r : TRegion) → length (region_targets (expansion p) r) < 2 ^ 32
  targets_few r =
      let params : All (λ f. length f.params ≤ 8) (expansion p).functions =
      λ i f l. (head_fine (expansion p) within i (get_or (expansion p).functions i f) (slice_get-get_or (expansion p).functions i f l)).few_params in
      let few = few_targets 8 (expansion p) r params in
      omega (arith, few, few_nvs (expansion p) within)

  image_small : IsSmall (program_code p)
  image_small = record {
    sensors = few_bytes p.names.sensors names.sensors;
    ports = few_bytes p.names.ports names.ports;
    nvs = few_bytes p.names.nvs names.nvs;
    names = same_names (expansion p) regions IsFew 1 1 0 p.functions (λ i f l. let short = names.functions i f l in omega (arith, small, short));
    functions = omega (arith, as_many (expansion p) regions 0 (expansion p).functions, few_functions (expansion p) within);
    regions = omega (arith, length-map regions (region_targets (expansion p)), regions_few);
    targets = All-map IsFew (region_targets (expansion p)) regions (λ i r l. targets_few (get_or regions i r));
  }

pub images_are_small : ImagesAreSmall
images_are_small source p small reads = image_small source p small reads

-- and so is one that is built
pub small_built : ImagesAreSmall → (source : List ℕ) (parts : Parts) → length source ≤ 1048576 → IsBuilt source parts → IsSmall parts
small_built law source parts small b = subst IsSmall (sym b.is_code) (law source b.written small b.reads)
