-- Regions that are written.
use Rattle.std.proofs.Common.{ℕ, ◌<◌, ◌≡◌, ◌∙◌, sym, ap, subst, List, ◌++◌, map, length, get_or}
use Rattle.std.proofs.lemmas.List.{length-map}
use Rattle.oc_tree.specs.Names.{Text}
use Rattle.oc_tree.specs.Marked.{TRegion, TMarked}
use Rattle.oc_tree.specs.Regions.{region_view}
use Rattle.oc_tree.specs.declared.marked.Region.{Region}
use Rattle.oc_budget.specs.declared.told.Budgets.{Budgets}
use Rattle.oc_budget.specs.Budgets.{TBudgets, budget, limited, limited_budgets, logged}
use Rattle.oc_budget.specs.View.{budgets_view}
use Rattle.oc_command.specs.Names.{function_name}
use Rattle.oc_report.specs.RegionLines.{lines_of, reason_lines, regions_text, region_lines, total_lines}
use Rattle.oc_report.specs.RegionDetails.{HasDetails, lines_with, numbers_at, range_of, region_fields}
use Rattle.oc_report.specs.declared.regions.LineRange.{LineRange}
use Rattle.oc_report.specs.declared.regions.Numbers.{Numbers}
use Rattle.oc_report.specs.declared.regions.Details.{Details}
use Rattle.oc_command.proofs.Naming.{seen_at}

-- ---- a region's line, and those of its reasons

pub lines_joined : (m : TMarked) (r : TRegion) (name : Text) (n : Numbers) → name ≡ function_name m.program r.function → (reasons : List ℕ) → reasons ≡ r.reasons
    → region_fields r name n ++ reason_lines m reasons ≡ lines_with m r n
lines_joined m r name n is reasons same =
    ap (λ (t : Text). region_fields r t n ++ reason_lines m reasons) is ∙ ap (λ (rs : List ℕ). region_fields r (function_name m.program r.function) n ++ reason_lines m rs) same

-- ---- the numbers in a region's line

module _ (m : TMarked) (b : Budgets) (d : Details) (has : HasDetails m d) where
  pub lines_count : length d.lines.items ≡ length m.regions
  lines_count = ap length has.lines ∙ length-map m.regions (range_of m.program)

  pub lines_are : (i : ℕ) (r : TRegion) → i < length m.regions → r ≡ get_or m.regions i r → lines_with m r (numbers_at b d i) ≡ lines_of m (budgets_view b) i r
  lines_are i r l e =
      let none : LineRange = record { first = 0; last = 0 } in
      let range : get_or d.lines.items i none ≡ range_of m.program r = ap (λ (xs : List LineRange). get_or xs i none) has.lines ∙ sym (seen_at (range_of m.program) m.regions i r none l e) in
      ap (λ (x : LineRange). lines_with m r (record { lines = x; logged = get_or b.logged.items i 0; budget = get_or b.regions.items i 0 })) range

  -- the part of the region at a place of these
  pub part_is : (items : List Region) → map region_view items ≡ m.regions → (i : ℕ) (x : Region) (n : Numbers) → i < length items → x ≡ get_or items i x → n ≡ numbers_at b d i
      → lines_with m (region_view x) n ≡ lines_of m (budgets_view b) i (region_view (get_or items i x))
  part_is items is i x n l e same =
      let within : i < length m.regions = subst (λ (k : ℕ). i < k) (sym (length-map items region_view) ∙ ap length is) l in
      let found : region_view x ≡ get_or m.regions i (region_view x) = seen_at region_view items i x (region_view x) l e ∙ ap (λ (rs : List TRegion). get_or rs i (region_view x)) is in
      ap (lines_with m (region_view x)) same ∙ lines_are i (region_view x) within found ∙ ap (λ (y : Region). lines_of m (budgets_view b) i (region_view y)) e

module _ (m : TMarked) (b : Budgets) (told : budgets_view b ≡ limited_budgets m) where
  pub logged_count : length b.logged.items ≡ length m.regions
  logged_count = ap (λ (t : TBudgets). length t.logged) told ∙ length-map m.regions (logged m.program)

  pub budget_count : length b.regions.items ≡ length m.regions
  budget_count = ap (λ (t : TBudgets). length t.regions) told ∙ length-map (map (budget m) m.regions) limited ∙ length-map m.regions (budget m)

  -- ---- the whole text

  pub whole_text : region_lines m (budgets_view b) 0 m.regions ++ total_lines b.total b.safe ≡ regions_text m (limited_budgets m)
  whole_text = ap (regions_text m) told
