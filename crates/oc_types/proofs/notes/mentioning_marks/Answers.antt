use Rattle.std.proofs.Common.{◌∙◌, ap, sym, length, map}
use Rattle.std.proofs.lemmas.List.{length-map}
use Rattle.oc_tree.specs.Calls.{reaches_mention}
use Rattle.oc_tree.specs.View.{function_view}
use Rattle.oc_types.proofs.notes.mentioning_marks.Goals as goal

pub returns : goal.returns
returns c =
    let all = c.requires in
    record {
      bound = c.in_ok-marks.ensures.bound ∙ ap length all ∙ sym (length-map c.args.program.now.functions.items function_view);
      marked = λ u. c.in_ok-marks.ensures.marked u ∙ ap (λ fs. reaches_mention (map function_view fs) c.args.name.now u) all;
    }
