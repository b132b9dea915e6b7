-- Room for code: an image has at most 2,147,483,647 instructions.
use Rattle.std.specs.Prelude.{◌<◌, ◌+◌, List, length}
use Rattle.oc_isa.specs.declared.instr.Placed.{Placed}

-- more code fits behind the code that is written
abbrev pub HasRoom : (written more : List Placed) → Type 0
HasRoom written more = length written + length more < 2147483648
