-- What an audit of a file finds.
use Rattle.std.specs.Prelude.{◌≡◌, ℕ, ℤ, List, length, map, sum, FitsSigned, Option, Some, None, if◌then◌else◌}
use Rattle.std.specs.Int.{w32}
use Rattle.std.specs.List.{All}
use Rattle.oc_tree.specs.Said.{Told}
use Rattle.oc_tree.specs.Tree.{TProgram}
use Rattle.oc_tree.specs.Marked.{TRegion, TMarked, IsMarked}
use Rattle.oc_items.specs.declared.item.Item.{Item}
use Rattle.oc_items.specs.OneText.{IsItem}
use Rattle.oc_items.specs.Text.{full_text, is_over}
use Rattle.oc_items.specs.Told.{item_of}
use Rattle.oc_honest.specs.Honest.{TReport, IsHonest, BreaksAt}
use Rattle.oc_judge.specs.Verdicts.{reported}
use Rattle.oc_audit.specs.Files.{IsReportFile, IsBadLine}
use Rattle.oc_audit.specs.declared.audit.Finding.{Finding}
use Rattle.oc_audit.specs.declared.audit.Finding.TheVariants as finding

-- these bytes spell this report of a program
pub record SpellsReport (p : TProgram) (bytes : List ℕ) (r : TReport) : Type 0 where
  pub items : List Item
  pub nv : Option (List ℤ)
  pub file : IsReportFile p.names (map (λ d. d.words) p.nv) bytes items nv
  pub is : r ≡ reported items nv

-- the first bad line of these bytes; or they spell a report that breaks at this item, or is honest
abbrev pub IsFinding : TProgram → List TRegion → List ℕ → Finding → Type 0
IsFinding p regions bytes (finding.BadLine n) = IsBadLine p.names (map (λ d. d.words) p.nv) bytes n
IsFinding p regions bytes (finding.Breaks n) =
    (r : TReport) × SpellsReport p bytes r × BreaksAt p regions r n
IsFinding p regions bytes finding.Honest = (r : TReport) × SpellsReport p bytes r × IsHonest p regions r

-- bytes are found to be one thing alone, for a marked program
abbrev pub OneFinding : Type 0
OneFinding =
    (m : TMarked) → IsMarked m → (bytes : List ℕ) (f g : Finding)
    → IsFinding m.program m.regions bytes f → IsFinding m.program m.regions bytes g → f ≡ g

-- what a run reports: its items and, where it is over, its nonvolatile words
abbrev pub report_of : List Told → List ℤ → TReport
report_of told words =
    record { items = told; nv = if is_over (map item_of told) then Some words else None }

-- the text of an honest report is found to be honest, and nothing else
abbrev pub HonestTexts : Type 0
HonestTexts = (m : TMarked) → IsMarked m → (told : List Told) (words : List ℤ)
    → All (IsItem m.program.names) (map item_of told)
    → length words ≡ sum (map (λ d. d.words) m.program.nv) → All (FitsSigned w32) words
    → IsHonest m.program m.regions (report_of told words)
    → IsFinding m.program m.regions (full_text
    m.program.names (map (λ d. d.words) m.program.nv) (map item_of told) words) finding.Honest
    × ((f : Finding) → IsFinding m.program m.regions (full_text m.program.names
    (map (λ d. d.words) m.program.nv) (map item_of told) words) f → f ≡ finding.Honest)
