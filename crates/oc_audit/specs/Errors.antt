-- Why a report isn't read.
use Rattle.std.specs.Prelude.{ℕ, List, ⊤}
use Rattle.oc_tree.specs.Names.{NameLists}
use Rattle.oc_audit.specs.Files.{IsBadLine}
use Rattle.oc_audit.specs.declared.report.ReportError.{ReportError}
use Rattle.oc_audit.specs.declared.report.ReportError.TheVariants as error

-- an error names the first bad line, or comes of want of memory
abbrev pub ExplainsReport : NameLists → List ℕ → List ℕ → ReportError → Type 0
ExplainsReport names sizes bytes (error.Line n) = IsBadLine names sizes bytes n
ExplainsReport names sizes bytes error.Memory = ⊤
