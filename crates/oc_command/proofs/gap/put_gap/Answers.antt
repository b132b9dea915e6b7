use Rattle.oc_command.proofs.gap.put_gap.Goals as goal

pub returns-in-Fresh : goal.returns-in-Fresh
returns-in-Fresh g c = rw (c.in-Fresh.is, ← c.bytes.ensures) c.put_needed.ensures
