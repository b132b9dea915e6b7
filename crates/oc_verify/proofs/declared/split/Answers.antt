use Rattle.std.proofs.Common.{◌++◌, ◌∷◌, [], ap, sym, ◌∙◌}
use Rattle.std.proofs.lemmas.List.{map-append}
use Rattle.oc_verify.proofs.declared.split.Goals as goal

pub loop-name-preserved : goal.loop-name-preserved
loop-name-preserved c =
    let both = c.loop-name.yielded in
    let name = c.in-Some.name in
    let nv = c.in-Some.nv in
    record {
      names = c.in_ok-push.ensures.items ∙ ap (λ l. l ++ name ∷ []) c.loop-name.invariant.names ∙ sym (map-append (λ x. x.0) both ((name, nv) ∷ []));
      words = c.in_ok-push-2.ensures.items ∙ ap (λ l. l ++ nv ∷ []) c.loop-name.invariant.words ∙ sym (map-append (λ x. x.1) both ((name, nv) ∷ []));
    }
