use Rattle.std.proofs.Common.{rules, map, ◌≡◌, ◌∙◌, ◌∷◌, [], ap, subst, List}
use Rattle.std.specs.Prelude.{Option}
use Rattle.std.specs.String.{string_bytes}
use Rattle.oc_meters.specs.Tally.{Reading}
use Rattle.oc_command.specs.Sinks.{writes}
use Rattle.oc_top.specs.Answers.{call_of}
use Rattle.oc_command.specs.Commands.{Task, command_of, words_if_any, task_of}
use Rattle.oc_command.specs.Files.{fetches}
use Rattle.oc_top.specs.Supplies.{standard_plans}
use Rattle.oc_top.specs.Works.{Works}
use Rattle.oc_top.proofs.StandardPlans.{own_meters, standard_task}
use Rattle.oc_top.proofs.standard.ocelot_with_boxes.Goals as goal

pub returns-clause-works : goal.returns-clause-works
returns-clause-works g c =
    let command = command_of (map string_bytes c.args.words.now) in
    let is : c.push-3.new.self.items ≡ c.args.rows ∷ c.args.rounds ∷ c.args.pieces ∷ [] = search rules in
    let are : c.push-6.new.self.items ≡ c.args.counts ∷ c.args.offs ∷ c.args.retries ∷ [] = search rules in
    let meters = own_meters (λ b. (goal.Meter-dyn g (b.vtable, b.value)).kind_of b.value) (λ b. (goal.Meter-dyn g (b.vtable, b.value)).numbers b.value)
    c.args.counts c.args.offs c.args.retries c.requires.counts c.requires.offs c.requires.retries c.push-6.new.self.items are in
    let task = standard_task c.push-3.new.self.items (λ b. (goal.Supply-dyn g (b.vtable, b.value)).number b.value) (λ b. (goal.Supply-dyn g (b.vtable, b.value)).plan b.value)
    c.args.rows c.args.rounds c.args.pieces c.requires.zero c.requires.one c.requires.two c.requires.rows c.requires.rounds c.requires.pieces _ command is in
    subst (λ (t : Option Task). Works (call_of (words_if_any command) t (fetches g.F.Shelf.holds g.F.Shelf.asked g.F.Shelf.faults c.args.shelf.now c.ocelot.new.shelf)
    (writes g.O.Sink.took g.O.Sink.held g.O.Sink.faults c.args.out.now c.ocelot.new.out)) (writes g.E.Sink.took g.E.Sink.held g.E.Sink.faults c.args.err.now c.ocelot.new.err)
    c.ocelot.result) (task ∙ ap (λ (ms : List Reading). task_of standard_plans ms command) meters) c.ocelot.ensures.works
