-- What a reader of fields answers.
use Rattle.std.specs.Prelude.{◌≡◌, ◌≤◌, ◌+◌, ◌==◌, if◌then◌else◌, ℕ, List, [], ◌++◌, length, map, Result, Ok, Err}
use Rattle.std.specs.Int.{w32, cast_signed}
use Rattle.oc_tree.specs.Names.{Text, NameLists, names_view}
use Rattle.oc_tree.specs.declared.said.Target.{Target}
use Rattle.oc_isa.specs.declared.image.ImageFunction.{ImageFunction}
use Rattle.oc_isa.specs.declared.image.ImageNv.{ImageNv}
use Rattle.oc_isa.specs.declared.instr.Placed.{Placed}
use Rattle.oc_isa.specs.declared.instr.Instr.{Instr}
use Rattle.oc_isa.specs.declared.instr.Instr.TheVariants.{Push, Load, Store, Nload, Nstore, Addr, Naddr, Index, Jump, Jfalse, Call, Ret, Retv, Sense, Emit, Enter, Commit}
use Rattle.oc_isa.specs.Bytes.{Bytes}
use Rattle.oc_verify.specs.declared.fault.ReadFault.{ReadFault}
use Rattle.oc_verify.specs.declared.fault.ReadFault.TheVariants as faults
use Rattle.oc_verify.specs.declared.fault.ImageError.{ImageError}
use Rattle.oc_verify.specs.declared.fault.ImageError.TheVariants as errors
use Rattle.oc_verify.specs.declared.declared.Declared.{Declared}
use Rattle.oc_verify.specs.declared.lists.Body.{Body}
use Rattle.oc_verify.specs.Reading.{Read, ◌>>=◌, any_at, bare_at, ended, function_at, list_at, names_at, nv_at, placed_at, read_at, target_at}

-- the answer, seen so, with the bytes that are left, is what was to be read, unless memory ran out
abbrev pub Reads : {A B : Type 0} → (A → B) → Result A ReadFault → Bytes → Read B → Type 0
Reads view (Ok x) rest read = read ≡ Ok (view x, rest)
Reads view (Err (faults.Bad left)) rest read = read ≡ Err left
Reads view (Err faults.Memory) rest read = Unit {0}

-- the answer on a field that tells nothing is what was to be read, unless memory ran out
abbrev pub ReadsBare : {A : Type 0} → Result A ReadFault → Bytes → Result Bytes ℕ → Type 0
ReadsBare (Ok x) rest read = read ≡ Ok rest
ReadsBare (Err (faults.Bad left)) rest read = read ≡ Err left
ReadsBare (Err faults.Memory) rest read = Unit {0}

-- no byte is left, or the fault is where the bytes that are left begin
abbrev pub Ends : {A : Type 0} → Result A ReadFault → Bytes → Type 0
Ends (Ok x) rest = rest ≡ []
Ends (Err (faults.Bad left)) rest = (1 ≤ length rest) × (left ≡ length rest)
Ends (Err faults.Memory) rest = Unit {0}

-- the answer on all bytes of a file, seen so, is what was to be read, unless memory ran out
abbrev pub ReadsAll : {A B : Type 0} → (A → B) → Result A ReadFault → Result B ℕ → Type 0
ReadsAll view (Ok x) read = read ≡ Ok (view x)
ReadsAll view (Err (faults.Bad left)) read = read ≡ Err left
ReadsAll view (Err faults.Memory) read = Unit {0}

-- the first bad field of these bytes begins there
abbrev pub IsBad : Bytes → ImageError → Type 0
IsBad bytes (errors.Bytes at') =
    (left : ℕ) × (read_at bytes ≡ Err left) × (at' + left ≡ length bytes)
IsBad bytes errors.Memory = Unit {0}

-- The whole in two parts, each with what its function answers

-- these names behind those that were seen
abbrev pub names_on : List Text → NameLists → List Text
names_on seen n = ((seen ++ n.sensors) ++ n.ports) ++ n.nvs

-- the names of sensors, ports and nonvolatile variables, and what belongs to each of these
abbrev pub all_names_at : List Text → Bytes → Read (NameLists × List ImageNv)
all_names_at seen bs =
    names_at 64 bare_at seen bs >>= λ s. names_at 64 bare_at (seen ++ s.0) s.1
    >>= λ p. names_at 64 nv_at ((seen ++ s.0) ++ p.0) p.1
    >>= λ v. Ok (
      (
        record { sensors = s.0; ports = p.0; nvs = map (λ x. x.0) v.0 },
        map (λ x. x.1) v.0,
      ),
      v.1,
    )

abbrev pub declarations_view : Declared → NameLists × List ImageNv × List ImageFunction
declarations_view d = (names_view d.names, d.nv.items, d.functions.items)

-- all that a file declares by names
abbrev pub declarations_at : Bytes → Read (NameLists × List ImageNv × List ImageFunction)
declarations_at bs =
    all_names_at [] bs >>= λ n. names_at 128 function_at (names_on [] n.0.0) n.1
    >>= λ f. Ok ((n.0.0, n.0.1, f.0), f.1)

abbrev pub body_view : Body → List (List Target) × ℕ × List Placed
body_view b = (map (λ ts. ts.items) b.targets.items, b.stack, b.code.items)

-- what stands behind the declarations, to the end of the file
abbrev pub body_at : Bytes → Result (List (List Target) × ℕ × List Placed) ℕ
body_at bs =
    list_at (list_at target_at) bs >>= λ r. any_at r.1 >>= λ w. list_at placed_at w.1
    >>= λ c. ended (r.0, w.0, c.0) c.1

-- the instruction of a kind that has just one operand, which may be any number
abbrev pub instr_with : (kind operand : ℕ) → Instr
instr_with kind n =
    if kind == 1 then Push (cast_signed w32 n)
    else (if kind == 2 then Load n
    else (if kind == 3 then Store n
    else (if kind == 4 then Nload n
    else (if kind == 5 then Nstore n
    else (if kind == 6 then Addr n
    else (if kind == 7 then Naddr n
    else (if kind == 10 then Index n
    else (if kind == 13 then Jump n
    else (if kind == 14 then Jfalse n
    else (if kind == 15 then Call n
    else (if kind == 16 then Ret n
    else (if kind == 17 then Retv n
    else (if kind == 19 then Sense n
    else (if kind == 20 then Emit n
    else (if kind == 22 then Enter n
    else Commit n)))))))))))))))
