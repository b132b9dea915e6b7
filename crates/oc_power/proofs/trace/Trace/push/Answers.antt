use Rattle.std.proofs.Common.{◌≡◌, ◌∙◌, List, [], ◌∷◌, ◌++◌, length, map, ap, rules}
use Rattle.std.proofs.lemmas.List.{map-append}
use Rattle.std.proofs.lemmas.List.Elements.{All-push}
use Rattle.oc_io.specs.declared.period.Period.{Period}
use Rattle.oc_power.specs.declared.trace.Entry.{Entry}
use Rattle.oc_power.specs.Entries.{IsPlaced, period_of}
use Rattle.oc_power.proofs.trace.Trace.push.Goals as goal

pub invariant_of-self : goal.invariant_of-self
invariant_of-self c = (c.entry_of.ensures.kept c.self.inside.entries.items c.self.invariant).0

pub returns-in_err-entry : goal.returns-in_err-entry
returns-in_err-entry c =
    let kept : map (period_of c.entry_of.new.long.items) c.self.inside.entries.items ≡ c.args.self.now =
    (c.entry_of.ensures.kept c.self.inside.entries.items c.self.invariant).1 ∙ c.self.view_is in
    search rules

pub invariant_of-self-then-is_err : goal.invariant_of-self-then-is_err
invariant_of-self-then-is_err c =
    let same : c.push.new.self.items ≡ c.self.inside.entries.items = search rules in
    rw same (c.entry_of.ensures.kept c.self.inside.entries.items c.self.invariant).0

pub returns-then-is_err : goal.returns-then-is_err
returns-then-is_err c =
    let same : c.push.new.self.items ≡ c.self.inside.entries.items = search rules in
    ap (λ (entries : List Entry). map (period_of c.entry_of.new.long.items) entries) same
    ∙ (c.entry_of.ensures.kept c.self.inside.entries.items c.self.invariant).1 ∙ c.self.view_is

pub invariant_of-self-2 : goal.invariant_of-self-2
invariant_of-self-2 c =
    let more : c.push.new.self.items ≡ c.self.inside.entries.items ++ c.in_ok-entry.entry ∷ [] = search rules in
    let kept = (c.entry_of.ensures.kept c.self.inside.entries.items c.self.invariant).0 in
    rw more (All-push (IsPlaced (length c.entry_of.new.long.items)) c.self.inside.entries.items c.in_ok-entry.entry kept c.in_ok-entry.ensures.placed)

pub returns : goal.returns
returns c =
    let entries = c.self.inside.entries.items in
    let entry = c.in_ok-entry.entry in
    let more : c.push.new.self.items ≡ entries ++ entry ∷ [] = search rules in
    ap (λ (all : List Entry). map (period_of c.entry_of.new.long.items) all) more ∙ map-append (period_of c.entry_of.new.long.items) entries (entry ∷ [])
    ∙ ap (λ (periods : List Period). periods ++ period_of c.entry_of.new.long.items entry ∷ []) ((c.entry_of.ensures.kept entries c.self.invariant).1 ∙ c.self.view_is)
    ∙ ap (λ (last : Period). c.args.self.now ++ last ∷ []) c.in_ok-entry.ensures.entry
