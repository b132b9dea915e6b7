use Rattle.std.proofs.Common.{rules, ◌≡◌, ◌+◌, ◌-◌, length, get_or, max, ap, refl, sym, ◌∙◌}
use Rattle.std.proofs.lemmas.Option.{slice_get_read}
use Rattle.oc_isa.specs.Image.{Parts}
use Rattle.oc_verify.specs.Room.{needed}
use Rattle.oc_verify.specs.Rules.{on_function, params_of}
use Rattle.oc_verify.specs.Verified.{frame_at}
use Rattle.oc_verify.proofs.RoomLaws.{needed_other}
use Rattle.oc_verify.proofs.room.words_needed_at.Goals as goal

pub params-requires : goal.params-requires
params-requires c = (c.requires.callee c.in-Call.f c.in-Call.is).0

pub returns-in-Call : goal.returns-in-Call
returns-in-Call c =
    let F : Parts = c.args.facts.now in
    let x = c.index.result.now in
    let g = slice_get_read F.functions (length F.functions) c.args.function x refl c.requires.function
    (c.index.ensures ∙ ap (λ (k : Parts). get_or k.functions c.args.function x) c.image-image.ensures.image) in
    let frame : x.frame ≡ frame_at F c.args.function = sym (ap (on_function 0 (λ y. y.frame)) g) in
    let params : c.params.result ≡ params_of F c.in-Call.f = c.params.ensures in
    let m : c.max.result ≡ max (x.frame + (c.args.height - c.params.result) + get_or c.args.bounds.now c.in-Call.f 0) (x.frame + c.args.height) = search rules in
    m ∙ (λ j. max (frame j + (c.args.height - params j) + get_or c.args.bounds.now c.in-Call.f 0) (frame j + c.args.height))
    ∙ sym (ap (λ y. needed F c.args.bounds.now c.args.function y c.args.height) c.in-Call.is)

pub returns-in_default : goal.returns-in_default
returns-in_default c =
    let F : Parts = c.args.facts.now in
    let x = c.index.result.now in
    let g = slice_get_read F.functions (length F.functions) c.args.function x refl c.requires.function
    (c.index.ensures ∙ ap (λ (k : Parts). get_or k.functions c.args.function x) c.image-image.ensures.image) in
    let frame : x.frame ≡ frame_at F c.args.function = sym (ap (on_function 0 (λ y. y.frame)) g) in
    ap (λ k. k + c.args.height) frame ∙ sym (needed_other F c.args.bounds.now c.args.function c.args.instr c.args.height c.in_default.not-Call)
