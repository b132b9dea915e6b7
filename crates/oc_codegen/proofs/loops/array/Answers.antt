use Rattle.std.proofs.Common.{rules, ◌≡◌, ◌∷◌, ◌++◌, pos}
use Rattle.oc_isa.specs.declared.instr.Instr.TheVariants.{Push, Store}
use Rattle.oc_code.specs.Forms.{placed, below_code, fill_code}
use Rattle.oc_codegen.proofs.Patches.{on_ok}
use Rattle.oc_codegen.proofs.LoopPatches.{count_filled}
use Rattle.oc_codegen.proofs.loops.array.Goals as goal

pub returns : goal.returns
returns c =
    let n = c.args.n in
    let q = c.args.slot in
    let base = c.args.code.now in
    let opened : c.open_count.new.code ≡ base ++ placed n (Push (pos 0)) ∷ placed n (Store q) ∷ below_code n q (pos c.args.words) 0 = search rules in
    let filling : c.fill.new.code ≡ c.open_count.new.code ++ fill_code n q c.args.initial c.args.words = search rules in
    on_ok c.close_count.result (λ h. count_filled n q (pos 0) (pos c.args.words) base (fill_code n q c.args.initial c.args.words) c.open_count.new.code c.fill.new.code
    c.close_count.new.code c.in_ok-start.start opened c.in_ok-start.ensures.start filling h) c.close_count.ensures
