use Rattle.oc_verify.proofs.Typed.{verified_sound}
use Rattle.oc_verify.proofs.Exact.{unbroken}
use Rattle.oc_verify.proofs.WellMade.{well_made}
use Rattle.oc_verify.proofs.laws.verified_is_sound.Goals as goal

pub returns-clause-sound : goal.returns-clause-sound
returns-clause-sound c = λ i t v. verified_sound i t v

pub returns-clause-unbroken : goal.returns-clause-unbroken
returns-clause-unbroken c = λ i t v a rule b. unbroken i t v a rule b

pub returns-clause-well_made : goal.returns-clause-well_made
returns-clause-well_made c = λ i t v. well_made i t v
