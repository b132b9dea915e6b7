use Rattle.std.proofs.Common.{ℕ, sym, subst}
use Rattle.oc_isa.specs.Image.{Parts, parts_of}
use Rattle.oc_isa.specs.Run.{IsSound}
use Rattle.oc_isa.specs.Table.{device_of}
use Rattle.oc_verify.specs.Rules.{Broken}
use Rattle.oc_verify.proofs.Exact.{unbroken}
use Rattle.oc_verify.proofs.Typed.{verified_sound}
use Rattle.oc_verify.proofs.WellMade.{well_made}
use Rattle.oc_verify.proofs.verdict.verify.Goals as goal

pub new-requires : goal.new-requires
new-requires c = let v = c.in-Ok.ensures.verified in well_made (parts_of c.args.raw) v.0 v.1

pub returns-in-Ok-clause-sound : goal.returns-in-Ok-clause-sound
returns-in-Ok-clause-sound c =
    let v = c.in-Ok.ensures.verified in
    subst (λ (i : Parts). IsSound (device_of i)) (sym c.new.ensures) (verified_sound (parts_of c.args.raw) v.0 v.1)

pub returns-in-Ok-clause-unbroken : goal.returns-in-Ok-clause-unbroken
returns-in-Ok-clause-unbroken c =
    let v = c.in-Ok.ensures.verified in
    subst (λ (i : Parts). (a rule : ℕ) → Broken i a rule → ⊥) (sym c.new.ensures) (unbroken (parts_of c.args.raw) v.0 v.1)
