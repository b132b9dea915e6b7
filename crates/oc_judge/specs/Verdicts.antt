-- What an audit finds.
use Rattle.std.specs.Prelude.{ℕ, ℤ, List, map, Option, Some, None}
use Rattle.oc_tree.specs.Tree.{TProgram}
use Rattle.oc_tree.specs.Marked.{TRegion}
use Rattle.oc_items.specs.declared.item.Item.{Item}
use Rattle.oc_items.specs.Told.{told_of}
use Rattle.oc_honest.specs.Honest.{TReport, IsHonest, BreaksAt}
use Rattle.oc_judge.specs.declared.judge.Verdict.{Verdict}
use Rattle.oc_judge.specs.declared.judge.Verdict.TheVariants as verdicts

-- the report of these items and words
abbrev pub reported : List Item → Option (List ℤ) → TReport
reported items nv = record { items = map told_of items; nv = nv }

-- the item at which it breaks
abbrev pub found : Verdict → Option ℕ
found verdicts.Honest = None
found (verdicts.Breaks n) = Some n

-- the report is honest, or breaks at this item
abbrev pub IsVerdict : TProgram → List TRegion → TReport → Verdict → Type 0
IsVerdict p regions r verdicts.Honest = IsHonest p regions r
IsVerdict p regions r (verdicts.Breaks n) = BreaksAt p regions r n
