use Rattle.std.proofs.Common.{ap, ◌∙◌, refl, ℕ, List}
use denote.Param.Object.{read_made}
use Rattle.oc_top.proofs.standard.ocelot_with_standard.OwnLists.{own-1, at-1-2, at-1-3, own-2, at-2-1, at-2-2, at-2-3}
use Rattle.oc_top.proofs.standard.ocelot_with_standard.Goals as goal

pub ocelot_with_boxes-requires-clause-rounds : goal.ocelot_with_boxes-requires-clause-rounds
ocelot_with_boxes-requires-clause-rounds g c =
    read_made own-1 (own-1.entry at-1-2) at-1-2 refl _ (λ j v. j.1.plan v) c.into_dyn_box-2.result.vtable c.into_dyn_box-2.result.value c.in_ok-rounds.rounds.value c.into_dyn_box-2.ensures.1
    ∙ ap (λ v. (own-1.entry at-1-2).1.plan v) (c.in_ok-rounds.ensures.ok ∙ c.new-3.ensures)

pub ocelot_with_boxes-requires-clause-pieces : goal.ocelot_with_boxes-requires-clause-pieces
ocelot_with_boxes-requires-clause-pieces g c =
    read_made own-1 (own-1.entry at-1-3) at-1-3 refl _ (λ j v. j.1.plan v) c.into_dyn_box-3.result.vtable c.into_dyn_box-3.result.value c.in_ok-pieces.pieces.value c.into_dyn_box-3.ensures.1
    ∙ ap (λ v. (own-1.entry at-1-3).1.plan v) (c.in_ok-pieces.ensures.ok ∙ c.new-5.ensures)

pub ocelot_with_boxes-requires-clause-counts : goal.ocelot_with_boxes-requires-clause-counts
ocelot_with_boxes-requires-clause-counts g c =
    read_made own-2 (own-2.entry at-2-1) at-2-1 refl _ (λ j v. record { kind = j.1.kind_of v; numbers = j.1.numbers v }) c.into_dyn_box-4.result.vtable
    c.into_dyn_box-4.result.value c.in_ok-counts.counts.value c.into_dyn_box-4.ensures.1
    ∙ ap (λ (ns : List ℕ). record { kind = 0; numbers = ns }) (ap (λ v. (own-2.entry at-2-1).1.numbers v) c.in_ok-counts.ensures.ok ∙ c.new-7.ensures)

pub ocelot_with_boxes-requires-clause-offs : goal.ocelot_with_boxes-requires-clause-offs
ocelot_with_boxes-requires-clause-offs g c =
    read_made own-2 (own-2.entry at-2-2) at-2-2 refl _ (λ j v. record { kind = j.1.kind_of v; numbers = j.1.numbers v }) c.into_dyn_box-5.result.vtable
    c.into_dyn_box-5.result.value c.in_ok-offs.offs.value c.into_dyn_box-5.ensures.1
    ∙ ap (λ (ns : List ℕ). record { kind = 1; numbers = ns }) (ap (λ v. (own-2.entry at-2-2).1.numbers v) c.in_ok-offs.ensures.ok ∙ c.new-9.ensures)

pub ocelot_with_boxes-requires-clause-retries : goal.ocelot_with_boxes-requires-clause-retries
ocelot_with_boxes-requires-clause-retries g c =
    read_made own-2 (own-2.entry at-2-3) at-2-3 refl _ (λ j v. record { kind = j.1.kind_of v; numbers = j.1.numbers v }) c.into_dyn_box-6.result.vtable
    c.into_dyn_box-6.result.value c.in_ok-retries.retries.value c.into_dyn_box-6.ensures.1
    ∙ ap (λ (ns : List ℕ). record { kind = 2; numbers = ns }) (ap (λ v. (own-2.entry at-2-3).1.numbers v) c.in_ok-retries.ensures.ok ∙ c.new-11.ensures)
