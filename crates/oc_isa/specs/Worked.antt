-- An image worked by hand, for examples.
use Rattle.std.specs.Prelude.{ℕ, [], ◌∷◌, codes}
use Rattle.oc_isa.specs.declared.instr.ProbeKind.TheVariants.{Use, Done}
use Rattle.oc_isa.specs.declared.instr.Placed.{Placed}
use Rattle.oc_isa.specs.declared.instr.Instr.{Instr}
use Rattle.oc_isa.specs.declared.instr.Instr.TheVariants.{Load, Store, Sense, Emit, Probe, Enter, Commit, Halt}
use Rattle.oc_isa.specs.Image.{Parts}

-- an instruction of the statement `site`
abbrev pub of : (site : ℕ) → Instr → Placed
of site x = record { instr = x; site = site }

-- `let x = sense(t); Fresh(x); emit(r, x);` as a region
abbrev pub fresh_image : Parts
fresh_image =
    record {
      names = record { sensors = codes "t" ∷ []; ports = codes "r" ∷ []; nvs = [] };
      functions = record { name = codes "main"; entry = 0; params = 0; frame = 1 } ∷ [];
      targets = [] ∷ [];
      nv = [];
      code =
          of 1 (Enter 1) ∷ of 1 (Sense 0) ∷ of 1 (Store 0) ∷ of 3 (Probe Use 3) ∷ of 3 (Load 0)
          ∷ of 3 (Emit 0) ∷ of 3 (Probe Done 3) ∷ of 3 (Commit 1) ∷ of 0 Halt ∷ [];
      stack = 2;
    }
