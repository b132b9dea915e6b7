use Rattle.std.proofs.Common.{ap, sym, ◌∙◌}
use Rattle.std.specs.Prelude.{option_map}
use Rattle.oc_verify.specs.Own.{Own, in_frame, own_list, slot_kind}
use Rattle.oc_verify.specs.Told.{kind_of}
use Rattle.oc_verify.specs.Typing.{level}
use Rattle.oc_verify.proofs.SlotLaws.{own_main, own_param, own_link, own_above}
use Rattle.oc_verify.proofs.slots.Slots.code.Goals as goal

pub returns-then-self-clause-kind : goal.returns-then-self-clause-kind
returns-then-self-clause-kind c =
    ap (option_map kind_of) c.in_frame.ensures ∙ own_main c.args.self.now c.args.slot (sym (ap (λ o. o.main) c.self.view_is) ∙ c.if-self.true)

pub returns-then-place-params-clause-kind : goal.returns-then-place-params-clause-kind
returns-then-place-params-clause-kind c =
    let o : Own = record { main = c.self.inside.main; function = c.self.inside.function.now; codes = c.self.inside.codes.now } in
    own_param o c.args.slot c.if-self.false (c.self.invariant.1 c.if-self.false) c.if-place-params.true ∙ ap (λ w. slot_kind (level (own_list w) c.args.slot)) c.self.view_is

pub returns-then-place-params-2-clause-kind : goal.returns-then-place-params-2-clause-kind
returns-then-place-params-2-clause-kind c =
    let o : Own = record { main = c.self.inside.main; function = c.self.inside.function.now; codes = c.self.inside.codes.now } in
    own_link o c.args.slot c.if-self.false (c.self.invariant.1 c.if-self.false) c.if-place-params.false c.if-place-params-2.true ∙ ap (λ w. slot_kind (level (own_list w) c.args.slot)) c.self.view_is

pub returns-clause-kind : goal.returns-clause-kind
returns-clause-kind c =
    let o : Own = record { main = c.self.inside.main; function = c.self.inside.function.now; codes = c.self.inside.codes.now } in
    ap (option_map kind_of) (c.in_frame-2.ensures ∙ ap (λ w. in_frame w c.args.slot) (sym c.self.view_is))
    ∙ own_above o c.args.slot c.if-self.false (c.self.invariant.1 c.if-self.false) c.if-place-params-2.false ∙ ap (λ w. slot_kind (level (own_list w) c.args.slot)) c.self.view_is
