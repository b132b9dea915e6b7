use Rattle.std.proofs.Common.{◌≡◌, ◌+◌, pos, ap, ◌∙◌, arith, length, replicate, rules}
use Rattle.std.proofs.lemmas.List.{length-replicate}
use Rattle.oc_ckpt.specs.Saving.{Held}
use Rattle.oc_undo.specs.Undo.{Log}
use Rattle.oc_isa.specs.Image.{IsWellMade, initial_words, main_of, entry_of}
use Rattle.oc_machine.proofs.Loading.{length-initial_words, entry_low}
use Rattle.oc_machine.proofs.machine.Machine.load.Goals as goal

pub invariant_of-result : goal.invariant_of-result
invariant_of-result c =
    let made : IsWellMade c.args.image = search rules in
    let starts : c.find_main-start.result.entry ≡ entry_of (main_of c.args.image.functions) = search rules in
    let low = entry_low c.args.image made c.requires in
    let words : c.in_ok-nvm.nvm ≡ initial_words c.args.image.nv = search rules in
    let count = length-initial_words c.args.image.nv in
    let log : c.in_ok-log.log.words ≡ c.len.result = ap (λ (l : Log). l.words) c.in_ok-log.ensures in
    let area : c.in_ok-area.area.words ≡ replicate (3 + c.raw-raw.result.now.stack) (pos 0) = ap (λ (a : Held). a.words) c.in_ok-area.ensures in
    let stack : c.raw-raw.result.now.stack ≡ c.args.image.stack = search rules in
    record {
      made = made;
      prepared = search rules;
      entry_is = search rules;
      frame_is = search rules;
      entry_low = omega (arith, starts, low);
      pc_low = search rules;
      fp_low = search rules;
      room = search rules;
      nv_few = omega (arith, ap length words, count, made.few_words);
      nv_fit = search rules;
      old_fit = search rules;
      noted = log ∙ search rules;
      size = omega (arith, ap length area, length-replicate (3 + c.raw-raw.result.now.stack) (pos 0), stack);
      agrees = tt;
    }
