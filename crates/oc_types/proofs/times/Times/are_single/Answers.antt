use Rattle.std.proofs.Common.{◌≡◌, ◌+◌, ◌∷◌, Bool, false, drop, ap, sym, ◌∙◌, arith}
use Rattle.std.specs.Prelude.{◌==◌, count_by}
use Rattle.std.specs.Str.{bytes_eq}
use Rattle.std.proofs.lemmas.Grind.{common_steps}
use Rattle.oc_tree.specs.Names.{Text, names_seen}
use Rattle.oc_types.proofs.Tested.{all_by}
use Rattle.oc_types.proofs.times.Times.are_single.Goals as goal

pub returns-then-not-is_single : goal.returns-then-not-is_single
returns-then-not-is_single c =
    let i = c.loop-name.name-index in
    let l = c.args.names.now in
    let item = c.name-item.is in
    let test : Text → Bool = λ x. count_by (bytes_eq x) c.args.self.now == 1 in
    let e : drop i l ≡ c.name-item.result ∷ drop (i + 1) l = grind (arith, common_steps) in
    sym (all_by test c.name-item.result.now _ _ false (ap names_seen e) (sym c.is_single.ensures ∙ c.if-not-is_single.true))
    ∙ c.loop-name.invariant
