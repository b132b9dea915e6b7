-- The bytes of an image's file.
use Rattle.std.specs.Prelude.{◌<◌, ◌^◌, ℕ, ℤ, List, [], ◌∷◌, ◌++◌, length, codes}
use Rattle.std.specs.List.{flat_map, All}
use Rattle.std.specs.Int.{w32, to_le_bytes, cast_unsigned}
use Rattle.oc_tree.specs.Names.{Text}
use Rattle.oc_tree.specs.declared.said.Target.{Target}
use Rattle.oc_tree.specs.declared.said.Target.TheVariants.{Nv, Param}
use Rattle.oc_tree.specs.declared.tree.UnaryOp.{UnaryOp}
use Rattle.oc_tree.specs.declared.tree.UnaryOp.TheVariants.{Neg, Not}
use Rattle.oc_isa.specs.declared.image.ImageFunction.{ImageFunction}
use Rattle.oc_isa.specs.declared.image.ImageNv.{ImageNv}
use Rattle.oc_isa.specs.declared.instr.BinOp.{BinOp}
use Rattle.oc_isa.specs.declared.instr.BinOp.TheVariants.{Add, Sub, Mul, Div, Rem, Eq, Ne, Lt, Le, Gt, Ge}
use Rattle.oc_isa.specs.declared.instr.ProbeKind.{ProbeKind}
use Rattle.oc_isa.specs.declared.instr.ProbeKind.TheVariants.{Use, Done, Tag}
use Rattle.oc_isa.specs.declared.instr.Placed.{Placed}
use Rattle.oc_isa.specs.declared.instr.Instr.{Instr}
use Rattle.oc_isa.specs.declared.instr.Instr.TheVariants.{Push, Load, Store, Nload, Nstore, Addr, Naddr, Get, Put, Index, Bin, Un, Jump, Jfalse, Call, Ret, Retv, Drop, Sense, Emit}
use Rattle.oc_isa.specs.declared.instr.Instr.TheVariants.{Probe, Enter, Commit, Halt}
use Rattle.oc_isa.specs.Image.{Parts}

-- bytes, as a list of numbers
abbrev pub Bytes : Type 0
Bytes = List ℕ

-- Fields

-- a number has four bytes, the least first
unfoldable pub number_bytes : ℕ → Bytes
number_bytes n = to_le_bytes w32 n

-- a word in two's complement
abbrev pub word_bytes : ℤ → Bytes
word_bytes z = number_bytes (cast_unsigned w32 z)

-- a list: its length, and then its elements
abbrev pub list_bytes : {A : Type 0} → (A → Bytes) → List A → Bytes
list_bytes one xs = number_bytes (length xs) ++ flat_map one xs

-- a name: its length, and then itself
abbrev pub name_bytes : Text → Bytes
name_bytes x = number_bytes (length x) ++ x

-- the names of nonvolatile variables, each with its words and what they are at first
abbrev pub nvs_bytes : List Text → List ImageNv → Bytes
nvs_bytes [] vs = []
nvs_bytes (x ∷ xs) [] = []
nvs_bytes (x ∷ xs) (v ∷ vs) =
    name_bytes x ++ (number_bytes v.words ++ (word_bytes v.initial ++ nvs_bytes xs vs))

-- the nonvolatile variables: how many there are, and then each
abbrev pub all_nvs_bytes : List Text → List ImageNv → Bytes
all_nvs_bytes xs vs = number_bytes (length xs) ++ nvs_bytes xs vs

-- a function: its name, its first address, its parameters and the stack words of its frame
abbrev pub function_bytes : ImageFunction → Bytes
function_bytes f =
    name_bytes f.name ++ (number_bytes f.entry ++ (number_bytes f.params ++ number_bytes f.frame))

-- what a region overwrites: 0, the first nonvolatile word, how many; or 1, a parameter, how many
abbrev pub target_bytes : Target → Bytes
target_bytes (Nv base len) = number_bytes 0 ++ (number_bytes base ++ number_bytes len)
target_bytes (Param slot len) = number_bytes 1 ++ (number_bytes slot ++ number_bytes len)

-- Instructions

-- the number that a file has for an operator on two words
abbrev pub binary_number : BinOp → ℕ
binary_number Add = 0
binary_number Sub = 1
binary_number Mul = 2
binary_number Div = 3
binary_number Rem = 4
binary_number Eq = 5
binary_number Ne = 6
binary_number Lt = 7
binary_number Le = 8
binary_number Gt = 9
binary_number Ge = 10

-- the number that a file has for an operator on one word
abbrev pub unary_number : UnaryOp → ℕ
unary_number Neg = 0
unary_number Not = 1

-- the number that a file has for what a probe reports
abbrev pub probe_number : ProbeKind → ℕ
probe_number Use = 0
probe_number Done = 1
probe_number Tag = 2

-- the kind of an instruction and its two operands, of which those that it doesn't have are 0
abbrev pub instr_numbers : Instr → ℕ × ℕ × ℕ
instr_numbers (Push c) = (1, cast_unsigned w32 c, 0)
instr_numbers (Load s) = (2, s, 0)
instr_numbers (Store s) = (3, s, 0)
instr_numbers (Nload a) = (4, a, 0)
instr_numbers (Nstore a) = (5, a, 0)
instr_numbers (Addr s) = (6, s, 0)
instr_numbers (Naddr a) = (7, a, 0)
instr_numbers Get = (8, 0, 0)
instr_numbers Put = (9, 0, 0)
instr_numbers (Index n) = (10, n, 0)
instr_numbers (Bin op) = (11, binary_number op, 0)
instr_numbers (Un op) = (12, unary_number op, 0)
instr_numbers (Jump t) = (13, t, 0)
instr_numbers (Jfalse t) = (14, t, 0)
instr_numbers (Call f) = (15, f, 0)
instr_numbers (Ret k) = (16, k, 0)
instr_numbers (Retv k) = (17, k, 0)
instr_numbers Drop = (18, 0, 0)
instr_numbers (Sense s) = (19, s, 0)
instr_numbers (Emit p) = (20, p, 0)
instr_numbers (Probe kind n) = (21, probe_number kind, n)
instr_numbers (Enter r) = (22, r, 0)
instr_numbers (Commit r) = (23, r, 0)
instr_numbers Halt = (24, 0, 0)

-- an instruction with these numbers: its kind, the statement that it came from, and its operands
abbrev pub numbers_bytes : ℕ × ℕ × ℕ → ℕ → Bytes
numbers_bytes n site =
    number_bytes n.0 ++ (number_bytes site ++ (number_bytes n.1 ++ number_bytes n.2))

-- an instruction of the code, with the statement that it came from
abbrev pub placed_bytes : Placed → Bytes
placed_bytes p = numbers_bytes (instr_numbers p.instr) p.site

-- The whole

-- the first bytes of each file: `OCELOT1` and a line feed
abbrev pub magic : Bytes
magic = codes "OCELOT1\n"

-- the bytes of an image's file: all of its fields, one after another
abbrev pub image_bytes : Parts → Bytes
image_bytes i =
    magic ++ (list_bytes name_bytes i.names.sensors ++ (list_bytes name_bytes i.names.ports
    ++ (all_nvs_bytes i.names.nvs i.nv
    ++ (list_bytes function_bytes i.functions ++ (list_bytes (list_bytes target_bytes) i.targets
    ++ (number_bytes i.stack ++ list_bytes placed_bytes i.code))))))

-- the length of a list is a number of a file
abbrev pub IsFew : {A : Type 0} → List A → Type 0
IsFew xs = length xs < 2 ^ 32

-- each list and each name of an image has a length that is a number of a file; its other lists are
-- shorter by far
pub record IsSmall (i : Parts) : Type 0 where
  pub sensors : All IsFew i.names.sensors
  pub ports : All IsFew i.names.ports
  pub nvs : All IsFew i.names.nvs
  pub names : All (λ f. IsFew f.name) i.functions
  pub functions : IsFew i.functions
  pub regions : IsFew i.targets
  pub targets : All IsFew i.targets
