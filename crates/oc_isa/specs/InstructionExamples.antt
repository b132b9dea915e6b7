-- What instructions do, and their numbers in a file, by examples.
use Rattle.std.specs.Prelude.{◌≡◌, refl, ◌++◌, ℤ, pos, negsuc, List, [], ◌∷◌, Some, None, codes, decimal}
use Rattle.oc_tree.specs.declared.said.TrapKind.TheVariants as trap
use Rattle.oc_tree.specs.declared.said.Ending.TheVariants.{Trapped}
use Rattle.oc_tree.specs.declared.said.Shown.TheVariants.{Emitted}
use Rattle.oc_isa.specs.declared.instr.BinOp.TheVariants.{Div}
use Rattle.oc_isa.specs.declared.instr.Instr.TheVariants.{Push, Store, Nstore, Index, Bin, Jump, Emit}
use Rattle.oc_isa.specs.Next.{Regs, Goes, Ends, Stuck}
use Rattle.oc_isa.specs.Table.{operand, act}
use Rattle.oc_isa.specs.Bytes.{number_bytes, instr_numbers}
use Rattle.oc_isa.specs.Listing.{code_line}
use Rattle.oc_isa.specs.Worked.{fresh_image, of}

-- at the address 5, in a frame that begins the stack
abbrev pub regs_with : List ℤ → Regs
regs_with stack = record { pc = 5; fp = 0; stack = stack }

-- behind the instruction at the address 5
abbrev pub next_with : List ℤ → Regs
next_with stack = record { pc = 6; fp = 0; stack = stack }

-- the stack has room for two words
pub act_example :
    act fresh_image 7 (Push (pos 9)) (regs_with (pos 1 ∷ [])) []
    ≡ Goes (next_with (pos 9 ∷ pos 1 ∷ [])) None None
act_example = refl

pub act_example_full :
    act fresh_image 7 (Push (pos 9)) (regs_with (pos 1 ∷ pos 2 ∷ [])) [] ≡ Stuck
act_example_full = refl

-- the topmost word is written to slot 0, which is the lowest word
pub act_example_store :
    act fresh_image 7 (Store 0) (regs_with (pos 9 ∷ pos 1 ∷ [])) []
    ≡ Goes (next_with (pos 9 ∷ [])) None None
act_example_store = refl

pub act_example_nonvolatile :
    act fresh_image 7 (Nstore 0) (regs_with (pos 9 ∷ [])) (pos 4 ∷ [])
    ≡ Goes (next_with []) (Some (record { addr = 0; word = pos 9 })) None
act_example_nonvolatile = refl

pub act_example_emit :
    act fresh_image 7 (Emit 0) (regs_with (pos 9 ∷ [])) []
    ≡ Goes (next_with []) None (Some (Emitted 0 (pos 9)))
act_example_emit = refl

-- 1 divided by 0 at the statement 7
pub act_example_zero :
    act fresh_image 7 (Bin Div) (regs_with (pos 0 ∷ pos 1 ∷ [])) [] ≡ Ends (Trapped trap.Zero 7)
act_example_zero = refl

-- element 1 of an array of two words that begins at the nonvolatile word 0
pub act_example_index :
    act fresh_image 7 (Index 2) (regs_with (pos 1 ∷ pos 65536 ∷ [])) []
    ≡ Goes (next_with (pos 65537 ∷ [])) None None
act_example_index = refl

pub act_example_outside :
    act fresh_image 7 (Index 2) (regs_with (pos 2 ∷ pos 65536 ∷ [])) []
    ≡ Ends (Trapped trap.Index 7)
act_example_outside = refl

-- the code has 9 instructions
pub act_example_jump : act fresh_image 7 (Jump 9) (regs_with []) [] ≡ Stuck
act_example_jump = refl

-- a frame that begins with the third word has no operand of its own yet
pub operand_example : operand 2 (pos 8 ∷ pos 9 ∷ []) ≡ None
operand_example = refl

pub operand_example_one : operand 2 (pos 7 ∷ pos 8 ∷ pos 9 ∷ []) ≡ Some (pos 7, pos 8 ∷ pos 9 ∷ [])
operand_example_one = refl

-- four bytes, the lowest first
pub number_bytes_example : number_bytes 258 ≡ 2 ∷ 1 ∷ 0 ∷ 0 ∷ []
unfolding number_bytes
number_bytes_example = refl

pub instr_numbers_example : instr_numbers (Push (negsuc 0)) ≡ (1, 4294967295, 0)
instr_numbers_example = refl

-- the instruction at the address 5, of the statement 3: `5 3 emit r`
pub code_line_example :
    code_line fresh_image 5 (of 3 (Emit 0))
    ≡ decimal 5 ++ (codes " " ++ (decimal 3 ++ codes " emit r\n"))
code_line_example = refl
