-- What is printed of a program, by examples.
use Rattle.std.specs.Prelude.{◌≡◌, refl, ◌++◌, pos, false, [], ◌∷◌, codes, decimal}
use Rattle.oc_tree.specs.Costs.{costs_to}
use Rattle.oc_tree.specs.Stack.{stacks_to}
use Rattle.oc_tree.specs.Worked.{fresh_input, fresh_region, fresh_marked}
use Rattle.oc_isa.specs.Power.{power_run}
use Rattle.oc_isa.specs.Table.{device_of}
use Rattle.oc_isa.specs.Listing.{listing_text}
use Rattle.oc_isa.specs.Worked.{fresh_image}
use Rattle.oc_flow.specs.Flow.{flows_to, brings_to}
use Rattle.oc_items.specs.Text.{report_text}
use Rattle.oc_items.specs.declared.item.Item.TheVariants as item
use Rattle.oc_report.specs.RegionLines.{region_line, total_lines}
use Rattle.oc_top.specs.Meant.{program_marked, program_code}
use Rattle.oc_top.specs.Verdict.{regions_of, listing_of}
use Rattle.oc_report.specs.Reports.{text_of}

pub program_marked_example : program_marked fresh_input ≡ fresh_marked
unfolding flows_to brings_to
program_marked_example = refl

pub program_code_example : program_code fresh_input ≡ fresh_image
unfolding flows_to brings_to stacks_to
program_code_example = refl

-- `region 1 main 1..3 lines 1..1 logged 0 budget 7`
pub region_line_example :
    region_line fresh_input fresh_region 0 7
    ≡ codes "region " ++ (decimal 1 ++ (codes " main " ++ ((decimal 1 ++ (codes ".." ++ decimal 3))
    ++ (codes " lines " ++ ((decimal 1 ++ (codes ".." ++ decimal 1)) ++ (codes " logged "
    ++ (decimal 0 ++ (codes " budget " ++ (decimal 7 ++ codes "\n")))))))))
region_line_example = refl

pub total_lines_example :
    total_lines 9 20
    ≡ (codes "total " ++ (decimal 9 ++ codes "\n")) ++ (codes "safe " ++ (decimal 20 ++ codes "\n"))
total_lines_example = refl

-- a run over a sensor that always shows 30, in one period
pub text_of_example :
    text_of fresh_image (power_run (device_of fresh_image) (λ sensor tick. pos 30)
    (record { on = 100; off = 0; cut = false } ∷ []))
    ≡ report_text fresh_image.names (item.Enter 5 1 ∷ item.Sense 6 0 (pos 30) ∷ item.Use 8 3
    ∷ item.Emit 10 0 (pos 30) ∷ item.Done 11 3 ∷ item.Commit 12 1 ∷ item.End 13 ∷ []) ++ []
text_of_example = refl

-- the region, that `x` asks for it, and the numbers of `fresh_input`
pub regions_of_example :
    regions_of fresh_input
    ≡ ((region_line fresh_input fresh_region 0 7 ++ (codes "fresh main x\n" ++ [])) ++ [])
    ++ total_lines 9 20
unfolding flows_to brings_to costs_to stacks_to
regions_of_example = refl

pub listing_of_example : listing_of fresh_input ≡ listing_text fresh_image
unfolding flows_to brings_to stacks_to
listing_of_example = refl
