-- A walk over the table of the code.
use Rattle.std.specs.Prelude.{◌≡◌, ℕ, List, length}
use Rattle.oc_isa.specs.Image.{Parts}
use Rattle.oc_verify.specs.declared.walk.Table.{Table}
use Rattle.oc_verify.specs.Facts.{Scene, scene_kinds}
use Rattle.oc_verify.specs.Tables.{AreCells, IsWalk, marks}
use Rattle.oc_verify.specs.Work.{Marks}

-- the pairs of the addresses that a table has
abbrev pub table_marks : Table → Marks
table_marks t = marks t.tops t.regions t.cells.items

-- a walk through the code of a scene's function, with this table and what is still to be looked at
abbrev pub IsWalkOf : Scene → Table → List (ℕ × (ℕ × ℕ)) → Type 0
IsWalkOf s t todo = IsWalk s.image s.function (scene_kinds s) t.tops t.regions t.cells.items todo

-- a table has a cell for each address of the code, with numbers of stacks
pub record IsTable (i : Parts) (t : Table) : Type 0 where
  pub sized : length t.cells.items ≡ length i.code
  pub cells : AreCells t.tops t.regions t.cells.items
