-- Lists of references to parts of a tree.
use Rattle.std.specs.Prelude.{List, map}
use Rattle.std.proofs.Common.{Bor}
use Rattle.oc_tree.specs.Tree.{TCall, TKind}
use Rattle.oc_tree.specs.View.{call_view, kind_view}
use Rattle.oc_tree.specs.declared.tree.Call.{Call}
use Rattle.oc_tree.specs.declared.tree.StmtKind.{StmtKind}

-- what contracts see of a list of calls
abbrev pub calls_seen : List (Bor Call) → List TCall
calls_seen cs = map (λ c. call_view c.now) cs

-- what contracts see of a list of statements
abbrev pub kinds_seen : List (Bor StmtKind) → List TKind
kinds_seen ks = map (λ k. kind_view k.now) ks
