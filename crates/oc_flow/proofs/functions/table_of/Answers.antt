use Rattle.std.proofs.Common.{map}
use Rattle.oc_effects.specs.View.{effect_view}
use Rattle.oc_flow.specs.Known.{some_leads}
use Rattle.oc_flow.proofs.Built.{table_links}
use Rattle.oc_flow.proofs.functions.table_of.Goals as goal

pub returns-clause-links : goal.returns-clause-links
returns-clause-links c = table_links (some_leads c.args.known.now (map effect_view c.args.effects.now)) c.args.variables.items c.in_ok-table.table c.all_leads.new.table
    c.close.new.self c.in_ok-table.ensures.variables c.in_ok-table.ensures.none c.all_leads.ensures c.in_ok-close.ensures.variables c.in_ok-close.ensures.links
