-- Files of images: which bytes are one, and reading them field by field.
use Rattle.std.specs.Prelude.{◌≡◌, ◌≤◌, ◌<◌, ◌^◌, FitsSigned, ℕ, zero, suc, ℤ, List, [], ◌∷◌, ◌++◌, length, take, drop, map, get_or, Result, Ok, Err, Bool, true, false, not, ◌&&◌}
use Rattle.std.specs.Prelude.{if◌then◌else◌, ◌==◌, nat_le}
use Rattle.std.specs.List.{list_any, list_all, All}
use Rattle.std.specs.Str.{bytes_eq}
use Rattle.std.specs.Int.{w32, from_le_bytes, cast_signed}
use Rattle.oc_lex.specs.Stands.{IsName}
use Rattle.oc_lex.specs.Bytes.{begins_name, in_name}
use Rattle.oc_lex.specs.Spellings.{word_spelling}
use Rattle.oc_lex.specs.declared.token.Word.{Word}
use Rattle.oc_lex.specs.declared.token.Word.TheVariants as words
use Rattle.oc_tree.specs.Names.{Text}
use Rattle.oc_tree.specs.declared.said.Target.{Target}
use Rattle.oc_tree.specs.declared.said.Target.TheVariants.{Nv, Param}
use Rattle.oc_tree.specs.declared.tree.UnaryOp.{UnaryOp}
use Rattle.oc_tree.specs.declared.tree.UnaryOp.TheVariants.{Neg, Not}
use Rattle.oc_isa.specs.declared.image.ImageFunction.{ImageFunction}
use Rattle.oc_isa.specs.declared.image.ImageNv.{ImageNv}
use Rattle.oc_isa.specs.declared.instr.BinOp.{BinOp}
use Rattle.oc_isa.specs.declared.instr.BinOp.TheVariants.{Add, Sub, Mul, Div, Rem, Eq, Ne, Lt, Le, Gt, Ge}
use Rattle.oc_isa.specs.declared.instr.ProbeKind.{ProbeKind}
use Rattle.oc_isa.specs.declared.instr.ProbeKind.TheVariants.{Use, Done, Tag}
use Rattle.oc_isa.specs.declared.instr.Placed.{Placed}
use Rattle.oc_isa.specs.declared.instr.Instr.{Instr}
use Rattle.oc_isa.specs.declared.instr.Instr.TheVariants.{Push, Load, Store, Nload, Nstore, Addr, Naddr, Get, Put, Index, Bin, Un, Jump, Jfalse, Call, Ret, Retv, Drop, Sense, Emit}
use Rattle.oc_isa.specs.declared.instr.Instr.TheVariants.{Probe, Enter, Commit, Halt}
use Rattle.oc_isa.specs.Image.{Parts}
use Rattle.oc_isa.specs.Bytes.{Bytes, IsFew, magic, image_bytes, instr_numbers}

-- Which bytes are an image's

-- the names, in the order of their fields
abbrev pub all_names : Parts → List Text
all_names i = i.names.sensors ++ (i.names.ports ++ (i.names.nvs ++ map (λ f. f.name) i.functions))

-- a name is one of those that were seen
abbrev pub is_named : List Text → Text → Bool
is_named seen x = list_any (bytes_eq x) seen

-- each name of a list differs from those before it, and from those that were seen
abbrev pub each_once : List Text → List Text → Bool
each_once seen [] = true
each_once seen (x ∷ xs) = not (is_named seen x) && each_once (seen ++ x ∷ []) xs

-- what every image that a file tells keeps: names are names and differ, and their counts are small
pub record IsTold (i : Parts) : Type 0 where
  pub names : All IsName (all_names i)
  pub differ : each_once [] (all_names i) ≡ true
  pub few_sensors : length i.names.sensors ≤ 64
  pub few_ports : length i.names.ports ≤ 64
  pub few_nvs : length i.names.nvs ≤ 64
  pub each_nv : length i.nv ≡ length i.names.nvs
  pub few_functions : length i.functions ≤ 128

-- a number of a file, which has four bytes
abbrev pub IsNumber : ℕ → Type 0
IsNumber n = n < 2 ^ 32

-- three numbers of a file
abbrev pub AreNumbers : ℕ × ℕ × ℕ → Type 0
AreNumbers n = IsNumber n.0 × IsNumber n.1 × IsNumber n.2

-- the three numbers that a file has for what a region overwrites
abbrev pub target_numbers : Target → ℕ × ℕ × ℕ
target_numbers (Nv base len) = (0, base, len)
target_numbers (Param slot len) = (1, slot, len)

-- what an instruction pushes, if it is a `push`, is a word
abbrev pub PushesWord : Instr → Type 0
PushesWord (Push c) = FitsSigned w32 c
PushesWord x = Unit {0}

-- an instruction of a file: its numbers fit four bytes, and what it pushes is a word
abbrev pub IsInstr : Placed → Type 0
IsInstr p = IsNumber p.site × AreNumbers (instr_numbers p.instr) × PushesWord p.instr

-- each number and each length is a number of a file, and each word is a word
pub record HasNumbers (i : Parts) : Type 0 where
  pub names : All IsFew (all_names i)
  pub nv : All (λ v. IsNumber v.words × FitsSigned w32 v.initial) i.nv
  pub functions : All (λ f. AreNumbers (f.entry, f.params, f.frame)) i.functions
  pub regions : IsFew i.targets
  pub targets : All (λ ts. IsFew ts × All (λ t. AreNumbers (target_numbers t)) ts) i.targets
  pub stack : IsNumber i.stack
  pub long : IsFew i.code
  pub code : All IsInstr i.code

-- some bytes are those of an image's file, and it is an image that a file can tell
pub record AreImage (bytes : Bytes) (i : Parts) : Type 0 where
  pub is : bytes ≡ image_bytes i
  pub told : IsTold i
  pub numbers : HasNumbers i

-- Names as a test

-- the words of the language, none of which is a name
abbrev pub all_words : List Word
all_words =
    words.Sensor ∷ (words.Port ∷ (words.Nonvolatile ∷ (words.Function ∷ (words.Let ∷ (words.Mutable
    ∷ (words.If ∷ (words.Else ∷ (words.For ∷ (words.In ∷ (words.While ∷ (words.Bound ∷ (words.Return
    ∷ (words.True ∷ (words.False ∷ (words.Emit ∷ (words.Sense ∷ (words.Fresh ∷ (words.Consistent
    ∷ (words.Int ∷ (words.Bool ∷ (words.Atomic ∷ (words.Underscore ∷ []))))))))))))))))))))))

-- a text has the form of a name: a letter or `_`, then letters, digits and `_`
abbrev pub has_form : Text → Bool
has_form [] = false
has_form (b ∷ bs) = begins_name b && list_all in_name bs

-- a text is one of the words of the language
abbrev pub is_word : Text → Bool
is_word x = list_any (λ w. bytes_eq (word_spelling w) x) all_words

-- a text has the form of a name and is none of the words
unfoldable pub is_name : Text → Bool
is_name x = has_form x && not (is_word x)

-- Fields, from the left

-- what is read and the bytes behind it, or how many bytes are left from the first byte of the field
-- that is bad
abbrev pub Read : Type 0 → Type 0
Read A = Result (A × Bytes) ℕ

infixl 10 ◌>>=◌
-- reading goes on behind what was read, or stops at the bad field
abbrev pub ◌>>=◌ : {A B : Type 0} → Result A ℕ → (A → Result B ℕ) → Result B ℕ
(Ok x) >>= f = f x
(Err e) >>= f = Err e

-- a field that is good where a test holds, and else bad from the first of these bytes on
abbrev pub if_in : {A : Type 0} → Bool → Bytes → Read A → Read A
if_in b bs go = if b then go else Err (length bs)

-- the number that the first four bytes tell
abbrev pub front_number : Bytes → ℕ
front_number bs = from_le_bytes w32 (take 4 bs)

-- a number from `low` to `high`
unfoldable pub number_at : (low high : ℕ) → Bytes → Read ℕ
number_at low high bs =
    if_in (nat_le 4 (length bs)) bs
    (if_in (nat_le low (front_number bs) && nat_le (front_number bs) high) bs
    (Ok (front_number bs, drop 4 bs)))

-- the greatest number of four bytes
abbrev pub greatest : ℕ
greatest = 4294967295

-- a number of four bytes
abbrev pub any_at : Bytes → Read ℕ
any_at bs = number_at 0 greatest bs

-- a word of four bytes
abbrev pub word_at : Bytes → Read ℤ
word_at bs = any_at bs >>= λ n. Ok (cast_signed w32 n.0, n.1)

-- a name that stands in none of the fields before
unfoldable pub name_at : List Text → Bytes → Read Text
name_at seen bs =
    any_at bs >>= λ n.
    if_in
    (nat_le n.0 (length n.1) && (is_name (take n.0 n.1) && not (is_named seen (take n.0 n.1)))) bs
    (Ok (take n.0 n.1, drop n.0 n.1))

-- so many elements, one after the other
unfoldable pub many_at : {A : Type 0} → (Bytes → Read A) → ℕ → Bytes → Read (List A)
many_at one zero bs = Ok ([], bs)
many_at one (suc n) bs = one bs >>= λ x. many_at one n x.1 >>= λ xs. Ok (x.0 ∷ xs.0, xs.1)

-- a list: its length, and then its elements
abbrev pub list_at : {A : Type 0} → (Bytes → Read A) → Bytes → Read (List A)
list_at one bs = any_at bs >>= λ n. many_at one n.0 n.1

-- so many elements, each with a name that is added to those that were seen
unfoldable pub named_at : {A : Type 0} → (Text → Bytes → Read A) → List Text → ℕ → Bytes
    → Read (List A)
named_at one seen zero bs = Ok ([], bs)
named_at one seen (suc n) bs =
    name_at seen bs >>= λ x. one x.0 x.1 >>= λ y. named_at one (seen ++ x.0 ∷ []) n y.1
    >>= λ ys. Ok (y.0 ∷ ys.0, ys.1)

-- a list of at most so many elements, each with a name
abbrev pub names_at : {A : Type 0} → ℕ → (Text → Bytes → Read A) → List Text → Bytes → Read (List A)
names_at most one seen bs = number_at 0 most bs >>= λ n. named_at one seen n.0 n.1

-- an element that is just its name
abbrev pub bare_at : Text → Bytes → Read Text
bare_at x bs = Ok (x, bs)

-- a nonvolatile variable of this name: its words, and what they are at first
abbrev pub nv_at : Text → Bytes → Read (Text × ImageNv)
nv_at x bs =
    any_at bs >>= λ n. word_at n.1 >>= λ z. Ok ((x, record { words = n.0; initial = z.0 }), z.1)

-- a function of this name: its first address, its parameters and its stack words
abbrev pub function_at : Text → Bytes → Read ImageFunction
function_at x bs =
    any_at bs >>= λ e. any_at e.1 >>= λ p. any_at p.1
    >>= λ f. Ok (record { name = x; entry = e.0; params = p.0; frame = f.0 }, f.1)

-- what a region overwrites, by the number of its sort: 0 for nonvolatile words, else a parameter
abbrev pub target_by : ℕ → ℕ → ℕ → Target
target_by zero a b = Nv a b
target_by (suc n) a b = Param a b

-- what a region overwrites: its sort, where it begins, and how many words
abbrev pub target_at : Bytes → Read Target
target_at bs =
    number_at 0 1 bs >>= λ t. any_at t.1 >>= λ a. any_at a.1
    >>= λ b. Ok (target_by t.0 a.0 b.0, b.1)

-- Instructions

-- the operator on two words with this number
abbrev pub binary_by : ℕ → BinOp
binary_by n =
    get_or (Add ∷ (Sub ∷ (Mul ∷ (Div ∷ (Rem ∷ (Eq ∷ (Ne ∷ (Lt ∷ (Le ∷ (Gt ∷ (Ge ∷ []))))))))))) n Ge

-- the operator on one word with this number
abbrev pub unary_by : ℕ → UnaryOp
unary_by n = get_or (Neg ∷ (Not ∷ [])) n Not

-- what a probe with this number reports
abbrev pub probe_by : ℕ → ProbeKind
probe_by n = get_or (Use ∷ (Done ∷ (Tag ∷ []))) n Tag

-- two numbers that aren't used, and what is behind them
unfoldable pub unused_at : Bytes → Result Bytes ℕ
unused_at bs = number_at 0 0 bs >>= λ a. number_at 0 0 a.1 >>= λ b. Ok b.1

-- an operand up to `high`, and a number that isn't used
unfoldable pub operand_at : ℕ → Bytes → Read ℕ
operand_at high bs = number_at 0 high bs >>= λ a. number_at 0 0 a.1 >>= λ b. Ok (a.0, b.1)

-- an instruction without operands
abbrev pub none_at : Instr → Bytes → Read Instr
none_at x bs = unused_at bs >>= λ rest. Ok (x, rest)

-- an instruction with one operand of at most `high`
abbrev pub one_at : (ℕ → Instr) → ℕ → Bytes → Read Instr
one_at make high bs = operand_at high bs >>= λ a. Ok (make a.0, a.1)

-- an instruction with one operand, which is any number
abbrev pub any_operand : (ℕ → Instr) → Bytes → Read Instr
any_operand make bs = one_at make greatest bs

-- a probe: what it reports, and of which statement
abbrev pub probe_at : Bytes → Read Instr
probe_at bs = number_at 0 2 bs >>= λ k. any_at k.1 >>= λ n. Ok (Probe (probe_by k.0) n.0, n.1)

-- the instruction of this kind, by its operands
abbrev pub operands_at : ℕ → Bytes → Read Instr
operands_at kind bs =
    if kind == 1 then any_operand (λ c. Push (cast_signed w32 c)) bs
    else (if kind == 2 then any_operand (λ s. Load s) bs
    else (if kind == 3 then any_operand (λ s. Store s) bs
    else (if kind == 4 then any_operand (λ a. Nload a) bs
    else (if kind == 5 then any_operand (λ a. Nstore a) bs
    else (if kind == 6 then any_operand (λ s. Addr s) bs
    else (if kind == 7 then any_operand (λ a. Naddr a) bs
    else (if kind == 8 then none_at Get bs
    else (if kind == 9 then none_at Put bs
    else (if kind == 10 then any_operand (λ n. Index n) bs
    else (if kind == 11 then one_at (λ n. Bin (binary_by n)) 10 bs
    else (if kind == 12 then one_at (λ n. Un (unary_by n)) 1 bs
    else (if kind == 13 then any_operand (λ t. Jump t) bs
    else (if kind == 14 then any_operand (λ t. Jfalse t) bs
    else (if kind == 15 then any_operand (λ f. Call f) bs
    else (if kind == 16 then any_operand (λ k. Ret k) bs
    else (if kind == 17 then any_operand (λ k. Retv k) bs
    else (if kind == 18 then none_at Drop bs
    else (if kind == 19 then any_operand (λ s. Sense s) bs
    else (if kind == 20 then any_operand (λ p. Emit p) bs
    else (if kind == 21 then probe_at bs
    else (if kind == 22 then any_operand (λ r. Enter r) bs
    else (if kind == 23 then any_operand (λ r. Commit r) bs
    else none_at Halt bs))))))))))))))))))))))

-- an instruction of the code: its kind, the statement that it came from, and its operands
abbrev pub placed_at : Bytes → Read Placed
placed_at bs =
    number_at 1 24 bs >>= λ k. any_at k.1 >>= λ s. operands_at k.0 s.1
    >>= λ x. Ok (record { instr = x.0; site = s.0 }, x.1)

-- The whole

-- the first eight bytes of each file
abbrev pub magic_at : Bytes → Result Bytes ℕ
magic_at bs = if bytes_eq (take 8 bs) magic then Ok (drop 8 bs) else Err (length bs)

-- nothing may stand behind the last field
abbrev pub ended : {A : Type 0} → A → Bytes → Result A ℕ
ended a [] = Ok a
ended a (b ∷ bs) = Err (length (b ∷ bs))

-- the image that these bytes tell, or how many bytes are left from the first byte of the first bad
-- field
abbrev pub read_at : Bytes → Result Parts ℕ
read_at bs =
    magic_at bs >>= λ rest. names_at 64 bare_at [] rest >>= λ s. names_at 64 bare_at s.0 s.1
    >>= λ p. names_at 64 nv_at (s.0 ++ p.0) p.1
    >>= λ v. names_at 128 function_at ((s.0 ++ p.0) ++ map (λ x. x.0) v.0) v.1
    >>= λ f. list_at (list_at target_at) f.1 >>= λ r. any_at r.1 >>= λ w. list_at placed_at w.1
    >>= λ c. ended (record {
      names = record { sensors = s.0; ports = p.0; nvs = map (λ x. x.0) v.0 };
      functions = f.0;
      targets = r.0;
      nv = map (λ x. x.1) v.0;
      code = c.0;
      stack = w.0;
    }) c.1
