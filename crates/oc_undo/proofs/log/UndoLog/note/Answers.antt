use Rattle.std.proofs.Common.{ap, ◌≡◌, ◌<◌, ◌≤◌, ◌++◌, [], ◌∷◌, length, arith, false, true, sym, ◌∙◌, subst}
use Rattle.std.specs.Prelude.{slice_set, vec_capacity, List}
use Rattle.std.proofs.lemmas.List.{length-set}
use Rattle.std.proofs.lemmas.Int.{to_z-of_z}
use Rattle.std.proofs.Common.{SFits, w32, refl}
use Rattle.oc_undo.specs.declared.Entry.{Entry}
use Rattle.oc_undo.specs.Undo.{has_entry, IsMarked}
use Rattle.oc_undo.proofs.Marks.{has_room, noted, when_ok}
use Rattle.oc_undo.proofs.log.UndoLog.note.Goals as goal

-- what the log is after the restart, by the fields
seen : (c : goal.After-self-1) → (c.self.inside.entries.items ≡ c.args.self.now.entries) × (c.self.inside.back ≡ 0) × (length c.self.inside.marks.items ≡ c.args.self.now.words)
seen c =
    let e = c.self.view_is ∙ c.restart.ensures in
    (ap (λ v. v.entries) e, ap (λ v. v.back) e, ap (λ v. v.words) e)

abbrev within : (c : goal.After-self-1) → c.args.addr < length c.self.inside.marks.items
within c = subst (λ w. c.args.addr < w) (sym (seen c).2) c.requires.within

abbrev unmarked : (c : goal.After-self-1) → has_entry c.self.inside.entries.items c.args.addr ≡ false
unmarked c = ap (λ l. has_entry l c.args.addr) (seen c).0 ∙ c.requires.unmarked

abbrev entry : goal.After-self-1 → Entry
entry c = record { addr = c.args.addr; old = c.args.old }

pushed : (c : goal.After-self-1) → c.push.new.self.items ≡ c.self.inside.entries.items ++ entry c ∷ []
pushed c =
    let room = has_room _ _ c.args.addr c.self.invariant.0 (within c) (unmarked c) in
    let fits : SFits w32 c.args.old = c.ranges.old in
    let items = simp to_z-of_z at c.push.ensures.items in
    items ∙ when_ok c.push.result _ _ (c.push.ensures.succeeds (omega arith))

pub invariant_of-self : goal.invariant_of-self
invariant_of-self c =
    subst (λ (l : List Entry). IsMarked l (slice_set c.self.inside.marks.items c.args.addr true) ×
    (length (slice_set c.self.inside.marks.items c.args.addr true) ≤ vec_capacity c.push.new.self) × (c.self.inside.back ≤ length l)) (sym (pushed c))
    (noted _ _ (entry c) c.self.invariant.0 (within c) (unmarked c), omega (arith, length-set c.self.inside.marks.items c.args.addr true), omega (arith, (seen c).1))

pub returns : goal.returns
returns c = rw (pushed c, length-set, (seen c).0, (seen c).1, (seen c).2) refl
