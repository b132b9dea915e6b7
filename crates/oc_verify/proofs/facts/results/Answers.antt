use Rattle.std.proofs.Common.{rules, ◌≡◌, ◌<◌, ◌+◌, ◌∷◌, ◌++◌, [], ℕ, List, Bool, false, length, get_or, subst, sym, arith}
use Rattle.oc_isa.specs.Image.{parts_of}
use Rattle.oc_verify.specs.Rules.{gives}
use Rattle.oc_verify.proofs.FactLaws.{all_results, more_results}
use Rattle.oc_verify.proofs.facts.results.Goals as goal

pub loop-function-preserved : goal.loop-function-preserved
loop-function-preserved c =
    let i = parts_of c.args.image.now in
    let xs = c.loop-function.results.items in
    let n = c.loop-function.function in
    let pushed : c.push.new.self.items ≡ xs ++ c.gives_result.result ∷ [] = search rules in
    record {
      sized = search rules;
      each = subst (λ (ys : List Bool). (f : ℕ) → f < n + 1 → get_or ys f false ≡ gives i f) (sym pushed)
          (more_results i xs n c.gives_result.result c.loop-function.invariant.sized c.loop-function.invariant.each c.gives_result.ensures);
    }

pub returns-clause-gives : goal.returns-clause-gives
returns-clause-gives c =
    let n : c.loop-function.function ≡ length c.args.image.now.functions.items = (let a = c.loop-function.auto.function-end in let t = c.loop-function-test.false in
    let e = c.len-function-end.ensures in omega (arith, a, t, e)) in
    all_results (parts_of c.args.image.now) c.loop-function.results.items c.loop-function.function n c.loop-function.invariant.sized c.loop-function.invariant.each
