-- The steps to the answers of `check` and `audit`.
use Rattle.std.specs.Prelude.{ℕ, ◌≡◌, ◌⊎◌, List, codes}
use Rattle.oc_tree.specs.Tree.{TProgram}
use Rattle.oc_tree.specs.Checked.{TChecked}
use Rattle.oc_regcheck.specs.declared.verdict.BlockVerdict.{BlockVerdict}
use Rattle.oc_report.specs.Runs.{prints, refuses}
use Rattle.oc_audit.specs.declared.audit.Finding.{Finding}
use Rattle.oc_audit.specs.declared.audit.Finding.TheVariants.{Honest}
use Rattle.oc_top.specs.Checked.{AcceptsBlocks, AreEnough, AreJudged, IsCheck, IsSaid, checked_of}
use Rattle.oc_top.specs.Audited.{IsFound, said_of}
use Rattle.oc_top.specs.Steps.{IsNotBuilt}
use Rattle.oc_command.specs.Sinks.{Writes, TookNothing}
use Rattle.oc_report.specs.Written.{IsWritten}
use Rattle.oc_command.specs.declared.answer.Answer.{Answer}
use Rattle.oc_command.specs.declared.answer.Answer.TheVariants as answer

-- this checked program is the expansion of the one that the source spells, in which `atomic` begins these statements
pub record IsCheckedOf (source : List ℕ) (c : TChecked) (blocks : List ℕ) : Type 0 where
  pub written : TProgram
  pub accepted : AcceptsBlocks source written blocks
  pub is_checked : c ≡ checked_of written

-- the answer where the blocks don't suffice, or there was no memory
abbrev pub IsOpenFor : TProgram → List ℕ → Answer → Type 0
IsOpenFor p blocks end =
    (end ≡ answer.Memory) ⊎ ((v : BlockVerdict) × AreJudged p blocks v × IsSaid p v (refuses end))

-- the source is refused with this answer, or there was no memory
abbrev pub IsNotSafe : List ℕ → Answer → Type 0
IsNotSafe source end = (end ≡ answer.Memory) ⊎ IsCheck source (refuses end)

-- that, and the sink takes nothing; or its blocks suffice, and the sink takes this
pub data IsChecked (source : List ℕ) (sink : Writes) (end : Answer) : Type 0 where
  not_safe : IsNotSafe source end → TookNothing sink → IsChecked source sink end
  safe : AreEnough source → IsWritten sink (prints (codes "safe\n")) end → IsChecked source sink end

-- there is no program to audit for, or no memory; or the report is refused, or it is honest and the sink takes this
pub data IsAudited (source report : List ℕ) (sink : Writes) (end : Answer) : Type 0 where
  not_audited : IsNotBuilt source end → TookNothing sink → IsAudited source report sink end
  refused : (f : Finding) → IsFound source report f
      → said_of f ≡ refuses end → TookNothing sink → IsAudited source report sink end
  honest : IsFound source report Honest
      → IsWritten sink (prints (codes "honest\n")) end → IsAudited source report sink end
