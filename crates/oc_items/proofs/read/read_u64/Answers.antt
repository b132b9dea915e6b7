use Rattle.std.proofs.Common.{rules, ◌≡◌, ◌<◌, ◌^◌, ◌∙◌, sym, length, IfSome}
use Rattle.oc_items.proofs.Digits.{some_told, nothing_told, zero_told, others_told}
use Rattle.oc_items.proofs.Numerals.{if_none_too}
use Rattle.oc_items.proofs.read.read_u64.Goals as goal

pub returns-then-is_empty-clause-none : goal.returns-then-is_empty-clause-none
returns-then-is_empty-clause-none c =
    let none : length c.args.field.now ≡ 0 = search rules in
    nothing_told c.args.field.now none

pub returns-then-zero_leads-clause-none : goal.returns-then-zero_leads-clause-none
returns-then-zero_leads-clause-none c = zero_told c.args.field.now (sym c.zero_leads.ensures ∙ c.if-zero_leads.true)

pub returns-clause-some : goal.returns-clause-some
returns-clause-some c =
    let ds = c.args.field.now in
    let some : 0 < length ds = search rules in
    let below : IfSome c.number_of.result (λ n. n < 2 ^ 64) = search rules in
    some_told ds c.number_of.result some (sym c.zero_leads.ensures ∙ c.if-zero_leads.false) below c.number_of.ensures.digits c.number_of.ensures.some

pub returns-clause-none : goal.returns-clause-none
returns-clause-none c = if_none_too c.number_of.result _ _ (others_told c.args.field.now) c.number_of.ensures.none
