use Rattle.std.proofs.Common.{◌≡◌, ◌+◌, ◌++◌, ◌∷◌, [], ap, sym, subst, ◌∙◌, rules, arith}
use Rattle.std.specs.Prelude.{codes}
use Rattle.oc_audit.specs.Words.{ReadsOn}
use Rattle.oc_audit.proofs.Cut.{none_left, some_left}
use Rattle.oc_audit.proofs.WordsBack.{reads_next, reads_short, reads_all}
use Rattle.oc_audit.proofs.words.take_words.Goals as goal

pub returns-in_default-next_word : goal.returns-in_default-next_word
returns-in_default-next_word c =
    let rest = c.in-Some-behind.rest.now in
    let spelled : codes "nv " ++ (c.args.name.now ++ rest) ≡ c.args.line.now =
    ap (λ l. codes "nv " ++ l) (ap (λ l. l ++ rest) (sym c.bytes.ensures) ∙ c.in-Some-behind.ensures.some) ∙ c.in-Some.ensures.some in
    reads_short c.args.name.now rest c.args.line.now c.args.words.now.items c.loop-place.words.items c.loop-place._place c.args.count c.loop-place.left.now spelled c.loop-place.invariant
    c.loop-place-test.true c.in_default-next_word.ensures.none

pub loop-place-preserved : goal.loop-place-preserved
loop-place-preserved c =
    let rest = c.in-Some-behind.rest.now in
    let word = c.in-Some-next_word.word in
    let further = c.in-Some-next_word.further.now in
    let pushed : c.push.new.self.items ≡ c.loop-place.words.items ++ word ∷ [] = search rules in
    subst (λ l. ReadsOn rest c.args.words.now.items l (c.loop-place._place + 1) further) (sym pushed)
    (reads_next rest c.args.words.now.items c.loop-place.words.items c.loop-place._place c.loop-place.left.now word further c.loop-place.invariant c.in-Some-next_word.ensures.some)

pub returns : goal.returns
returns c =
    let rest = c.in-Some-behind.rest.now in
    let left = c.loop-place.left.now in
    let spelled : codes "nv " ++ (c.args.name.now ++ rest) ≡ c.args.line.now =
    ap (λ l. codes "nv " ++ l) (ap (λ l. l ++ rest) (sym c.bytes.ensures) ∙ c.in-Some-behind.ensures.some) ∙ c.in-Some.ensures.some in
    let all : c.loop-place._place ≡ c.args.count = omega arith in
    reads_all c.args.name.now rest c.args.line.now c.args.words.now.items c.loop-place.words.items c.args.count left c.is_empty.result spelled
    (subst (λ n. ReadsOn rest c.args.words.now.items c.loop-place.words.items n left) all c.loop-place.invariant)
    (none_left left c.is_empty.result c.is_empty.ensures) (some_left left c.is_empty.result c.is_empty.ensures)
