use Rattle.std.proofs.Common.{rules, ◌≡◌, ◌<◌, ◌≤◌, ◌+◌, ◌∷◌, ◌++◌, [], Some, length, drop, map, get_or, subst, sym, arith}
use Rattle.oc_verify.specs.Own.{runs_of}
use Rattle.oc_verify.specs.Rules.{more}
use Rattle.oc_verify.specs.Told.{kind_of}
use Rattle.oc_verify.proofs.SlotLaws.{run_found, runs_found}
use Rattle.oc_verify.proofs.slots.runs.Goals as goal

pub loop-code-preserved : goal.loop-code-preserved
loop-code-preserved c =
    let codes = c.args.codes.now in
    let i = c.loop-code.code-index in
    let n = c.loop-code.run in
    let xs = c.loop-code.runs.items in
    let low : i < length codes = search rules in
    let pushed : c.push.new.self.items ≡ xs ++ c.run_from-run.result ∷ [] = search rules in
    let run : c.run_from-run.result ≡ more (Some (kind_of (get_or codes i 0))) n = search rules in
    let small = c.run_from-run.ensures.low in
    let few = c.loop-code.invariant.few in
    record {
      few = omega (arith, small, few);
      whole = subst (λ ys. ys ++ runs_of c.run_from-run.result (map kind_of (drop (i + 1) codes)) ≡ runs_of 0 (map kind_of codes)) (sym pushed)
          (subst (λ m. (xs ++ m ∷ []) ++ runs_of m (map kind_of (drop (i + 1) codes)) ≡ runs_of 0 (map kind_of codes)) (sym run)
          (run_found codes i n xs (runs_of 0 (map kind_of codes)) low c.loop-code.invariant.whole));
    }

pub returns : goal.returns
returns c =
    let codes = c.args.codes.now in
    let past : length codes ≤ c.loop-code.code-index = search rules in
    runs_found codes c.loop-code.code-index c.loop-code.run c.loop-code.runs.items (runs_of 0 (map kind_of codes)) past c.loop-code.invariant.whole
