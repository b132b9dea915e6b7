use Rattle.std.proofs.Common.{refl, arith}
use Rattle.std.specs.Prelude.{◌&&◌}
use Rattle.std.proofs.Math.ListN.{get_or}
use Rattle.oc_tree.specs.declared.tree.VarId.TheVariants.{Nv}
use Rattle.oc_flow.specs.Variables.{same_variable}
use Rattle.oc_flow.proofs.Added.{adds_turn, adds_done, adds_among}
use Rattle.oc_flow.proofs.leads.link_all.Goals as goal

pub loop-u-preserved : goal.loop-u-preserved
loop-u-preserved c =
    adds_turn (λ x a b. same_variable a x && same_variable b c.args.t) c.args.from.now c.loop-u.u-index (get_or c.args.from.now c.loop-u.u-index (Nv 0))
    (Nv 0) c.args.table.now c.loop-u.table c.link.new.self (omega arith) refl c.loop-u.invariant
    (record { variables = c.link.ensures.variables; links = c.link.ensures.links })

pub returns : goal.returns
returns c = adds_among c.args.from.now c.args.t c.args.table.now c.loop-u.table
    (adds_done (λ x a b. same_variable a x && same_variable b c.args.t) c.args.from.now c.loop-u.u-index c.args.table.now c.loop-u.table (omega arith) c.loop-u.invariant)
