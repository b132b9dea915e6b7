-- The views of branches, by whether there is a second one.
use Rattle.std.proofs.Common.{◌≡◌, ap, ◌∙◌, Option, Some, None}
use Rattle.oc_tree.specs.Tree.{TKind, TBlock, TStmt, if_else, no_else, else_do}
use Rattle.oc_tree.specs.View.{block_view, expr_view, kind_view, kind_step, block_step, stmt_step}
use Rattle.oc_tree.specs.declared.tree.Block.{Block}
use Rattle.oc_tree.specs.declared.tree.Expr.{Expr}
use Rattle.oc_tree.specs.declared.tree.StmtKind.{fold-roll-StmtKind}
use Rattle.oc_tree.specs.declared.tree.StmtKind.TheOpen.{StmtKind-F}
use Rattle.oc_tree.specs.declared.tree.StmtKind as X

pub if_alone : (c : Expr) (a : Block) (o : Option Block) → o ≡ None → kind_view (X.roll-StmtKind (StmtKind-F.If c a o)) ≡ if_else (expr_view c) (block_view a) no_else
if_alone c a o h = ap (λ (p : Option Block). kind_view (X.roll-StmtKind (StmtKind-F.If c a p))) h ∙ fold-roll-StmtKind TKind TBlock TStmt kind_step block_step stmt_step (StmtKind-F.If c a None)

pub if_both : (c : Expr) (a : Block) (o : Option Block) (b : Block) → o ≡ Some b → kind_view (X.roll-StmtKind (StmtKind-F.If c a o)) ≡ if_else (expr_view c) (block_view a) (else_do (block_view b))
if_both c a o b h = ap (λ (p : Option Block). kind_view (X.roll-StmtKind (StmtKind-F.If c a p))) h ∙ fold-roll-StmtKind TKind TBlock TStmt kind_step block_step stmt_step (StmtKind-F.If c a (Some b))
