-- The listing of an image.
use Rattle.std.specs.Prelude.{ℕ, ◌+◌, ◌++◌, List, [], ◌∷◌, map, codes, decimal}
use Rattle.std.specs.List.{flat_map}
use Rattle.std.specs.Fmt.{signed_decimal}
use Rattle.oc_io.specs.Lines.{line_of}
use Rattle.oc_tree.specs.Names.{Text, name_at}
use Rattle.oc_tree.specs.declared.said.Target.{Target}
use Rattle.oc_tree.specs.declared.said.Target.TheVariants.{Nv, Param}
use Rattle.oc_tree.specs.declared.tree.UnaryOp.{UnaryOp}
use Rattle.oc_tree.specs.declared.tree.UnaryOp.TheVariants.{Neg, Not}
use Rattle.oc_isa.specs.declared.image.ImageFunction.{ImageFunction}
use Rattle.oc_isa.specs.declared.instr.BinOp.{BinOp}
use Rattle.oc_isa.specs.declared.instr.BinOp.TheVariants.{Add, Sub, Mul, Div, Rem, Eq, Ne, Lt, Le, Gt, Ge}
use Rattle.oc_isa.specs.declared.instr.ProbeKind.{ProbeKind}
use Rattle.oc_isa.specs.declared.instr.ProbeKind.TheVariants.{Use, Done, Tag}
use Rattle.oc_isa.specs.declared.instr.Placed.{Placed}
use Rattle.oc_isa.specs.declared.instr.Instr.{Instr}
use Rattle.oc_isa.specs.declared.instr.Instr.TheVariants.{Push, Load, Store, Nload, Nstore, Addr, Naddr, Get, Put, Index, Bin, Un, Jump, Jfalse, Call, Ret, Retv, Drop, Sense, Emit}
use Rattle.oc_isa.specs.declared.instr.Instr.TheVariants.{Probe, Enter, Commit, Halt}
use Rattle.oc_isa.specs.Image.{Parts}

-- Words

-- the word for an operator on two words
abbrev pub binary_word : BinOp → Text
binary_word Add = codes "add"
binary_word Sub = codes "sub"
binary_word Mul = codes "mul"
binary_word Div = codes "div"
binary_word Rem = codes "rem"
binary_word Eq = codes "eq"
binary_word Ne = codes "ne"
binary_word Lt = codes "lt"
binary_word Le = codes "le"
binary_word Gt = codes "gt"
binary_word Ge = codes "ge"

-- the word for an operator on one word
abbrev pub unary_word : UnaryOp → Text
unary_word Neg = codes "neg"
unary_word Not = codes "not"

-- the word for what a probe reports
abbrev pub probe_word : ProbeKind → Text
probe_word Use = codes "use"
probe_word Done = codes "done"
probe_word Tag = codes "tag"

-- the names of these functions
abbrev pub names_of : List ImageFunction → List Text
names_of functions = map (λ f. f.name) functions

-- Lines

-- the fields of an instruction: its word and operands, with functions, sensors, ports by name
abbrev pub fields_of : Parts → Instr → List Text
fields_of i (Push c) = codes "push" ∷ signed_decimal c ∷ []
fields_of i (Load s) = codes "load" ∷ decimal s ∷ []
fields_of i (Store s) = codes "store" ∷ decimal s ∷ []
fields_of i (Nload a) = codes "nload" ∷ decimal a ∷ []
fields_of i (Nstore a) = codes "nstore" ∷ decimal a ∷ []
fields_of i (Addr s) = codes "addr" ∷ decimal s ∷ []
fields_of i (Naddr a) = codes "naddr" ∷ decimal a ∷ []
fields_of i Get = codes "get" ∷ []
fields_of i Put = codes "put" ∷ []
fields_of i (Index n) = codes "index" ∷ decimal n ∷ []
fields_of i (Bin op) = codes "bin" ∷ binary_word op ∷ []
fields_of i (Un op) = codes "un" ∷ unary_word op ∷ []
fields_of i (Jump t) = codes "jump" ∷ decimal t ∷ []
fields_of i (Jfalse t) = codes "jfalse" ∷ decimal t ∷ []
fields_of i (Call f) = codes "call" ∷ name_at (names_of i.functions) f ∷ []
fields_of i (Ret k) = codes "ret" ∷ decimal k ∷ []
fields_of i (Retv k) = codes "retv" ∷ decimal k ∷ []
fields_of i Drop = codes "drop" ∷ []
fields_of i (Sense s) = codes "sense" ∷ name_at i.names.sensors s ∷ []
fields_of i (Emit p) = codes "emit" ∷ name_at i.names.ports p ∷ []
fields_of i (Probe kind n) = codes "probe" ∷ probe_word kind ∷ decimal n ∷ []
fields_of i (Enter r) = codes "enter" ∷ decimal r ∷ []
fields_of i (Commit r) = codes "commit" ∷ decimal r ∷ []
fields_of i Halt = codes "halt" ∷ []

-- the line of a function
abbrev pub function_line : ImageFunction → Text
function_line f =
    line_of (codes "fn" ∷ f.name ∷ codes "entry" ∷ decimal f.entry ∷ codes "params"
    ∷ decimal f.params ∷ codes "frame" ∷ decimal f.frame ∷ [])

-- the line of what a region may overwrite
abbrev pub target_line : ℕ → Target → Text
target_line region (Nv base len) =
    line_of (codes "log" ∷ decimal region ∷ codes "nv" ∷ decimal base ∷ decimal len ∷ [])
target_line region (Param slot len) =
    line_of (codes "log" ∷ decimal region ∷ codes "param" ∷ decimal slot ∷ decimal len ∷ [])

-- the line of the instruction at this address
abbrev pub code_line : Parts → ℕ → Placed → Text
code_line i address p = line_of (decimal address ∷ decimal p.site ∷ fields_of i p.instr)

-- The text

-- the lines of these functions
abbrev pub function_lines : List ImageFunction → Text
function_lines functions = flat_map function_line functions

-- the lines of what this region may overwrite
abbrev pub region_lines : ℕ → List Target → Text
region_lines region targets = flat_map (target_line region) targets

-- the lines of what regions may overwrite, the first of which has this number
abbrev pub target_lines : ℕ → List (List Target) → Text
target_lines region [] = []
target_lines region (targets ∷ rest) = region_lines region targets ++ target_lines (region + 1) rest

-- the lines of code, the first instruction of which stands at this address
abbrev pub code_lines : Parts → ℕ → List Placed → Text
code_lines i address [] = []
code_lines i address (p ∷ rest) = code_line i address p ++ code_lines i (address + 1) rest

-- the listing: the functions, then the targets of the regions from 1 on, then the code
abbrev pub listing_text : Parts → Text
listing_text i = function_lines i.functions ++ (target_lines 1 i.targets ++ code_lines i 0 i.code)
