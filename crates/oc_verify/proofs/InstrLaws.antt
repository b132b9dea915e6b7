-- Instructions are read back.
use Rattle.std.proofs.Common.{append_assoc, ◌≡◌, ℕ, ◌≤◌, ◌++◌, Ok, refl, ap, ◌∙◌, arith}
use Rattle.std.proofs.lemmas.Int.{to_z-of_z}
use Rattle.std.specs.Int.{w32, cast_signed, cast_unsigned}
use Rattle.oc_tree.specs.declared.tree.UnaryOp.{UnaryOp}
use Rattle.oc_tree.specs.declared.tree.UnaryOp.TheVariants.{Neg, Not}
use Rattle.oc_isa.specs.declared.instr.BinOp.{BinOp}
use Rattle.oc_isa.specs.declared.instr.BinOp.TheVariants.{Add, Sub, Mul, Div, Rem, Eq, Ne, Lt, Le, Gt, Ge}
use Rattle.oc_isa.specs.declared.instr.ProbeKind.{ProbeKind}
use Rattle.oc_isa.specs.declared.instr.ProbeKind.TheVariants.{Use, Done, Tag}
use Rattle.oc_isa.specs.declared.instr.Placed.{Placed}
use Rattle.oc_isa.specs.declared.instr.Instr.{Instr}
use Rattle.oc_isa.specs.declared.instr.Instr.TheVariants.{Push, Load, Store, Nload, Nstore, Addr, Naddr, Get, Put, Index, Bin, Un, Jump, Jfalse, Call, Ret, Retv, Drop, Sense, Emit}
use Rattle.oc_isa.specs.declared.instr.Instr.TheVariants.{Probe, Enter, Commit, Halt}
use Rattle.oc_isa.specs.Bytes.{Bytes, number_bytes, instr_numbers, binary_number, unary_number, probe_number, placed_bytes}
use Rattle.oc_verify.specs.Reading.{◌>>=◌, number_at, any_at, greatest, unused_at, operand_at, any_operand, none_at, operands_at, placed_at, binary_by, unary_by, probe_by}
use Rattle.oc_verify.specs.Reading.{IsNumber, AreNumbers, PushesWord, IsInstr}
use Rattle.oc_verify.proofs.ReadLaws.{number_back, any_back}

unused_back : (rest : Bytes) → unused_at (number_bytes 0 ++ (number_bytes 0 ++ rest)) ≡ Ok rest
unfolding unused_at
unused_back rest =
    ap (λ r. r >>= λ a. number_at 0 0 a.1 >>= λ b. Ok b.1) (number_back 0 0 0 (number_bytes 0 ++ rest) (omega arith) (omega arith) (omega arith))
    ∙ ap (λ r. r >>= λ b. Ok b.1) (number_back 0 0 0 rest (omega arith) (omega arith) (omega arith))

operand_back : (high n : ℕ) (rest : Bytes) → n ≤ high → IsNumber n → operand_at high (number_bytes n ++ (number_bytes 0 ++ rest)) ≡ Ok (n, rest)
unfolding operand_at
operand_back high n rest h s =
    ap (λ r. r >>= λ a. number_at 0 0 a.1 >>= λ b. Ok (a.0, b.1)) (number_back 0 high n (number_bytes 0 ++ rest) (omega arith) h s)
    ∙ ap (λ r. r >>= λ b. Ok (n, b.1)) (number_back 0 0 0 rest (omega arith) (omega arith) (omega arith))

any_operand_back : (make : ℕ → Instr) (n : ℕ) (rest : Bytes) → IsNumber n → any_operand make (number_bytes n ++ (number_bytes 0 ++ rest)) ≡ Ok (make n, rest)
any_operand_back make n rest s = ap (λ r. r >>= λ a. Ok (make a.0, a.1)) (operand_back greatest n rest (omega (arith, s)) s)

none_back : (x : Instr) (rest : Bytes) → none_at x (number_bytes 0 ++ (number_bytes 0 ++ rest)) ≡ Ok (x, rest)
none_back x rest = ap (λ r. r >>= λ s. Ok (x, s)) (unused_back rest)

binary_back : (op : BinOp) → binary_by (binary_number op) ≡ op
binary_back Add = refl
binary_back Sub = refl
binary_back Mul = refl
binary_back Div = refl
binary_back Rem = refl
binary_back Eq = refl
binary_back Ne = refl
binary_back Lt = refl
binary_back Le = refl
binary_back Gt = refl
binary_back Ge = refl

binary_low : (op : BinOp) → binary_number op ≤ 10
binary_low Add = omega arith
binary_low Sub = omega arith
binary_low Mul = omega arith
binary_low Div = omega arith
binary_low Rem = omega arith
binary_low Eq = omega arith
binary_low Ne = omega arith
binary_low Lt = omega arith
binary_low Le = omega arith
binary_low Gt = omega arith
binary_low Ge = omega arith

unary_back : (op : UnaryOp) → unary_by (unary_number op) ≡ op
unary_back Neg = refl
unary_back Not = refl

unary_low : (op : UnaryOp) → unary_number op ≤ 1
unary_low Neg = omega arith
unary_low Not = omega arith

probe_back : (kind : ProbeKind) → probe_by (probe_number kind) ≡ kind
probe_back Use = refl
probe_back Done = refl
probe_back Tag = refl

probe_low : (kind : ProbeKind) → probe_number kind ≤ 2
probe_low Use = omega arith
probe_low Done = omega arith
probe_low Tag = omega arith

-- the operands of an instruction, by its kind
abbrev IsBack : Instr → Bytes → Type 0
IsBack x rest = operands_at (instr_numbers x).0 (number_bytes (instr_numbers x).1 ++ (number_bytes (instr_numbers x).2 ++ rest)) ≡ Ok (x, rest)

operands_back : (x : Instr) (rest : Bytes) → AreNumbers (instr_numbers x) → PushesWord x → IsBack x rest
operands_back (Push c) rest h w = any_operand_back (λ n. Push (cast_signed w32 n)) (cast_unsigned w32 c) rest h.1 ∙ ap (λ z. Ok (Push z, rest)) (to_z-of_z w32 c w)
operands_back (Load s) rest h w = any_operand_back (λ n. Load n) s rest h.1
operands_back (Store s) rest h w = any_operand_back (λ n. Store n) s rest h.1
operands_back (Nload a) rest h w = any_operand_back (λ n. Nload n) a rest h.1
operands_back (Nstore a) rest h w = any_operand_back (λ n. Nstore n) a rest h.1
operands_back (Addr s) rest h w = any_operand_back (λ n. Addr n) s rest h.1
operands_back (Naddr a) rest h w = any_operand_back (λ n. Naddr n) a rest h.1
operands_back Get rest h w = none_back Get rest
operands_back Put rest h w = none_back Put rest
operands_back (Index n) rest h w = any_operand_back (λ n. Index n) n rest h.1
operands_back (Bin op) rest h w = ap (λ r. r >>= λ a. Ok (Bin (binary_by a.0), a.1)) (operand_back 10 (binary_number op) rest (binary_low op) h.1) ∙ ap (λ o. Ok (Bin o, rest)) (binary_back op)
operands_back (Un op) rest h w = ap (λ r. r >>= λ a. Ok (Un (unary_by a.0), a.1)) (operand_back 1 (unary_number op) rest (unary_low op) h.1) ∙ ap (λ o. Ok (Un o, rest)) (unary_back op)
operands_back (Jump t) rest h w = any_operand_back (λ n. Jump n) t rest h.1
operands_back (Jfalse t) rest h w = any_operand_back (λ n. Jfalse n) t rest h.1
operands_back (Call f) rest h w = any_operand_back (λ n. Call n) f rest h.1
operands_back (Ret k) rest h w = any_operand_back (λ n. Ret n) k rest h.1
operands_back (Retv k) rest h w = any_operand_back (λ n. Retv n) k rest h.1
operands_back Drop rest h w = none_back Drop rest
operands_back (Sense s) rest h w = any_operand_back (λ n. Sense n) s rest h.1
operands_back (Emit p) rest h w = any_operand_back (λ n. Emit n) p rest h.1
operands_back (Probe kind n) rest h w =
    ap (λ r. r >>= λ k. any_at k.1 >>= λ m. Ok (Probe (probe_by k.0) m.0, m.1)) (number_back 0 2 (probe_number kind) (number_bytes n ++ rest) (omega arith) (probe_low kind) h.1)
    ∙ ap (λ r. r >>= λ m. Ok (Probe (probe_by (probe_number kind)) m.0, m.1)) (any_back n rest h.2)
    ∙ ap (λ k. Ok (Probe k n, rest)) (probe_back kind)
operands_back (Enter r) rest h w = any_operand_back (λ n. Enter n) r rest h.1
operands_back (Commit r) rest h w = any_operand_back (λ n. Commit n) r rest h.1
operands_back Halt rest h w = none_back Halt rest

-- kinds are from 1 to 24
abbrev IsKind : ℕ → Type 0
IsKind n = (1 ≤ n) × (n ≤ 24)

kind_is : (x : Instr) → IsKind (instr_numbers x).0
kind_is (Push c) = (omega arith, omega arith)
kind_is (Load s) = (omega arith, omega arith)
kind_is (Store s) = (omega arith, omega arith)
kind_is (Nload a) = (omega arith, omega arith)
kind_is (Nstore a) = (omega arith, omega arith)
kind_is (Addr s) = (omega arith, omega arith)
kind_is (Naddr a) = (omega arith, omega arith)
kind_is Get = (omega arith, omega arith)
kind_is Put = (omega arith, omega arith)
kind_is (Index n) = (omega arith, omega arith)
kind_is (Bin op) = (omega arith, omega arith)
kind_is (Un op) = (omega arith, omega arith)
kind_is (Jump t) = (omega arith, omega arith)
kind_is (Jfalse t) = (omega arith, omega arith)
kind_is (Call f) = (omega arith, omega arith)
kind_is (Ret k) = (omega arith, omega arith)
kind_is (Retv k) = (omega arith, omega arith)
kind_is Drop = (omega arith, omega arith)
kind_is (Sense s) = (omega arith, omega arith)
kind_is (Emit p) = (omega arith, omega arith)
kind_is (Probe kind n) = (omega arith, omega arith)
kind_is (Enter r) = (omega arith, omega arith)
kind_is (Commit r) = (omega arith, omega arith)
kind_is Halt = (omega arith, omega arith)

-- four numbers, one after the other
four : (a b c d rest : Bytes) → (a ++ (b ++ (c ++ d))) ++ rest ≡ a ++ (b ++ (c ++ (d ++ rest)))
four a b c d rest = append_assoc a (b ++ (c ++ d)) rest ∙ ap (λ s. a ++ s) (append_assoc b (c ++ d) rest ∙ ap (λ s. b ++ s) (append_assoc c d rest))

pub placed_back : (p : Placed) (rest : Bytes) → IsInstr p → placed_at (placed_bytes p ++ rest) ≡ Ok (p, rest)
placed_back p rest h =
    let n = instr_numbers p.instr in
    let k : IsKind n.0 = kind_is p.instr in
    let behind : Bytes = number_bytes n.1 ++ (number_bytes n.2 ++ rest) in
    ap placed_at (four (number_bytes n.0) (number_bytes p.site) (number_bytes n.1) (number_bytes n.2) rest)
    ∙ ap (λ r. r >>= λ k. any_at k.1 >>= λ s. operands_at k.0 s.1 >>= λ y. Ok (record { instr = y.0; site = s.0 }, y.1)) (number_back 1 24 n.0 (number_bytes p.site ++ behind) k.0 k.1 h.1.0)
    ∙ ap (λ r. r >>= λ s. operands_at n.0 s.1 >>= λ y. Ok (record { instr = y.0; site = s.0 }, y.1)) (any_back p.site behind h.0)
    ∙ ap (λ r. r >>= λ y. Ok (record { instr = y.0; site = p.site }, y.1)) (operands_back p.instr rest h.1 h.2)
