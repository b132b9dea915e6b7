use Rattle.std.proofs.Common.{rules, ◌≡◌, false}
use Rattle.oc_isa.specs.Image.{parts_of}
use Rattle.oc_verify.specs.Rules.{counts, counts_fit, laid_out, layout, wide}
use Rattle.oc_verify.proofs.facts.check_layout.Goals as goal

pub returns-then-not-is_laid_out-clause-blames : goal.returns-then-not-is_laid_out-clause-blames
returns-then-not-is_laid_out-clause-blames c = let e : laid_out (parts_of c.args.image.now) ≡ false = search rules in layout e

pub returns-then-not-counts_fit-clause-blames : goal.returns-then-not-counts_fit-clause-blames
returns-then-not-counts_fit-clause-blames c = let e : counts_fit (parts_of c.args.image.now) ≡ false = search rules in counts e

pub returns-then-image-gt65536-clause-blames : goal.returns-then-image-gt65536-clause-blames
returns-then-image-gt65536-clause-blames c = wide (search rules)
