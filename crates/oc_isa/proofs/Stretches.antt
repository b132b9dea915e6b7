-- The three stretches of a listing: functions, targets, code.
use Rattle.std.proofs.Common.{ℕ, ◌≡◌, List, ◌++◌, map, ap, ◌∙◌, Vec, Global}
use Rattle.oc_tree.specs.declared.said.Target.{Target}
use Rattle.oc_isa.specs.declared.image.ImageFunction.{ImageFunction}
use Rattle.oc_isa.specs.declared.image.RawImage.{RawImage}
use Rattle.oc_isa.specs.Image.{Parts, parts_of}
use Rattle.oc_isa.specs.Listing.{function_lines, target_lines, code_lines, listing_text}

-- the text of the parts that were put
pub joined : (i : Parts) (r : RawImage) (functions : List ImageFunction) (targets : List (Vec Target Global)) → parts_of r ≡ i → functions ≡ r.functions.items → targets ≡ r.targets.items
    → function_lines functions ++ (target_lines 1 (map (λ v. v.items) targets) ++ code_lines (parts_of r) 0 r.code.items) ≡ listing_text i
joined i r functions targets parts is_functions is_targets =
    ap (λ (fs : List ImageFunction). function_lines fs ++ (target_lines 1 (map (λ v. v.items) targets) ++ code_lines (parts_of r) 0 r.code.items)) is_functions
    ∙ ap (λ (vs : List (Vec Target Global)). function_lines r.functions.items ++ (target_lines 1 (map (λ v. v.items) vs) ++ code_lines (parts_of r) 0 r.code.items)) is_targets
    ∙ ap listing_text parts
