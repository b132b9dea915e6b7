-- What a written program means: its regions, its code and its runs are those of its expansion.
use Rattle.std.specs.Prelude.{ℤ, List}
use Rattle.oc_tree.specs.Tree.{TProgram}
use Rattle.oc_tree.specs.Expansion.{expansion, program_groups}
use Rattle.oc_tree.specs.Marked.{TMarked}
use Rattle.oc_tree.specs.declared.said.Said.{Said}
use Rattle.oc_isa.specs.Image.{Parts}
use Rattle.oc_isa.specs.Run.{continuous_run}
use Rattle.oc_isa.specs.Table.{device_of}
use Rattle.oc_bounds.specs.Bounds.{Bounds}
use Rattle.oc_meaning.specs.Run.{Trace, marked_run, source_run, said_in}
use Rattle.oc_region.specs.Regions.{marked}
use Rattle.oc_writes.specs.Targets.{may_write}
use Rattle.oc_code.specs.Code.{code_of}
use Rattle.oc_code.specs.Right.{Shows}
use Rattle.oc_budget.specs.Bounding.{bounds_of}

-- the expansion of a program, with the policies of its annotations and the regions that these ask
-- for
abbrev pub program_marked : TProgram → TMarked
program_marked p = marked (expansion p) (program_groups p)

-- the image of a marked program, where each region may overwrite what it may write
abbrev pub marked_code : TMarked → Parts
marked_code m = code_of m.program m.regions (may_write m)

-- the image of a program with its regions
abbrev pub program_code : TProgram → Parts
program_code p = marked_code (program_marked p)

-- the numbers that are shown with a program's regions, and the steps of its runs, as bounds of runs
abbrev pub program_bounds : TProgram → Bounds
program_bounds p = bounds_of (program_marked p)

-- the run of a program over these samples, with the marks of its regions
abbrev pub program_run : TProgram → List ℤ → Trace
program_run p samples = marked_run (expansion p) (program_marked p).regions samples

-- what a program says over these samples, with the marks of its regions
abbrev pub program_said : TProgram → List ℤ → List Said
program_said p samples = said_in (program_run p samples)

-- the run of a program over these samples, as if it had no regions
abbrev pub plain_run : TProgram → List ℤ → Trace
plain_run p samples = source_run (expansion p) samples

-- what a program says over these samples, without marks
abbrev pub plain_said : TProgram → List ℤ → List Said
plain_said p samples = said_in (plain_run p samples)

-- over any samples, the run of the image says what the program says, with the marks, and leaves the nonvolatile words
-- of its run without regions, from some number of instructions on
abbrev pub RunsAs : Parts → TProgram → Type 0
RunsAs image p =
    (samples : List ℤ) → Shows
    (continuous_run (device_of image) samples) (program_said p samples) (plain_run p samples).nv
