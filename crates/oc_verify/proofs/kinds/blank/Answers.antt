use Rattle.std.proofs.Common.{rules, ◌≡◌, None, length, ap, sym, ◌∙◌}
use Rattle.std.specs.Prelude.{replicate, slice_get}
use Rattle.oc_isa.specs.Image.{Parts}
use Rattle.oc_verify.specs.Tables.{Cells, pair_in}
use Rattle.oc_verify.proofs.OnwardLaws.{copies_long, no_some}
use Rattle.oc_verify.proofs.SeenLaws.{blank_at}
use Rattle.oc_verify.proofs.kinds.blank.Goals as goal

pub returns-clause-table : goal.returns-clause-table
returns-clause-table c =
    let q : c.in_ok-vec.field-0.items ≡ replicate c.len-size.result None = search rules in
    let s : c.len-size.result ≡ length c.image.result.now.code.items = search rules in
    record {
      sized = ap length q ∙ copies_long c.len-size.result None ∙ s ∙ ap (λ (k : Parts). length k.code) c.image.ensures.image;
      cells = λ a n e. absurd (no_some c.len-size.result a n (ap (λ (cs : Cells). slice_get cs a) (sym q) ∙ e));
    }

pub returns-clause-blank : goal.returns-clause-blank
returns-clause-blank c = λ a.
    let q : c.in_ok-vec.field-0.items ≡ replicate c.len-size.result None = search rules in
    ap (λ (cs : Cells). pair_in c.new.result c.new-2.result (slice_get cs a)) q ∙ blank_at c.new.result c.new-2.result c.len-size.result a
