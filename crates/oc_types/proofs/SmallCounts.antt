-- Counts that have passed no limit, with an element more that passes none.
use Rattle.std.proofs.Common.{◌≤◌}
use Rattle.oc_tree.specs.Names.{Text}
use Rattle.oc_tree.specs.Tree.{TFunction, TKind}
use Rattle.oc_tree.specs.declared.tree.NvDecl.{NvDecl}
use Rattle.oc_tree.specs.Elements.{nv_item, function_item, Here}
use Rattle.oc_tree.specs.Limits.{Tally, with_item, with_statement}
use Rattle.oc_types.specs.Small.{IsSmall}

pub with_nv : (n : Tally) (x : Text) (d : NvDecl) → IsSmall n → (with_item n (nv_item x d)).words ≤ 65536 → IsSmall (with_item n (nv_item x d))
with_nv n x d s w = record { words = w; variables = s.variables; statements = s.statements; calls = s.calls }

pub begun : (n : Tally) (f : TFunction) → IsSmall n → (with_item n (function_item f)).variables ≤ 256 → IsSmall (with_item n (function_item f))
begun n f s v = record { words = s.words; variables = v; statements = s.statements; calls = s.calls }

pub stated : (n : Tally) (h : Here) (k : TKind) → IsSmall n → (with_statement n h k).variables ≤ 256 → (with_statement n h k).statements ≤ 8192
    → (with_statement n h k).calls ≤ 1024 → IsSmall (with_statement n h k)
stated n h k s v t c = record { words = s.words; variables = v; statements = t; calls = c }
