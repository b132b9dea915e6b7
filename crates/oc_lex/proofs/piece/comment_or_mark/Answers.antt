use Rattle.std.proofs.Common.{◌≡◌, get_or}
use Rattle.oc_lex.proofs.PieceLaws.{comment_longest, double_longest, single_longest, no_piece, no_comment, no_double, none_after}
use Rattle.oc_lex.proofs.piece.comment_or_mark.Goals as goal
use Rattle.oc_lex.proofs.piece.comment_or_mark.Goals.{else-first-eq47-via-then-first-eq47+else-second-eq47, else-first-eq47-via-else-first-eq47}

pub returns-in_err-single : goal.returns-in_err-single
returns-in_err-single c =
    let n = none_after c.args.first c.args.rest.now c.in_default.len_below in
    rw c.from_residual.ensures (no_piece c.args.first c.args.rest.now c.requires n.0 n.1 c.in_err-single.ensures)

pub returns-then-second-eq47 : goal.returns-then-second-eq47
returns-then-second-eq47 c = comment_longest c.args.first c.args.rest.now c.line_length.result c.in-len1-up.len_at_least c.if-first-eq47.true c.if-second-eq47.true c.line_length.ensures.exact

pub returns-in-Some : goal.returns-in-Some
returns-in-Some c =
    let n : c.args.first ≡ 47 → get_or c.args.rest.now 0 0 ≡ 47 → ⊥ =
    elim c.else-first-eq47.branch [
      | else-first-eq47-via-then-first-eq47+else-second-eq47 w ↦ λ e f. w.if-second-eq47.false f
      | else-first-eq47-via-else-first-eq47 w ↦ λ e f. w.if-first-eq47.false e
    ] in
    double_longest c.args.first c.args.rest.now c.in-Some.mark c.in-len1-up.len_at_least c.requires (no_comment c.args.first c.args.rest.now n) c.in-Some.ensures

pub returns-in_err-single-in-None : goal.returns-in_err-single-in-None
returns-in_err-single-in-None c =
    let n : c.args.first ≡ 47 → get_or c.args.rest.now 0 0 ≡ 47 → ⊥ =
    elim c.else-first-eq47.branch [
      | else-first-eq47-via-then-first-eq47+else-second-eq47 w ↦ λ e f. w.if-second-eq47.false f
      | else-first-eq47-via-else-first-eq47 w ↦ λ e f. w.if-first-eq47.false e
    ] in
    rw c.from_residual-in_err-single-in-None.ensures
    (no_piece c.args.first c.args.rest.now c.requires (no_comment c.args.first c.args.rest.now n) (no_double c.args.first c.args.rest.now c.in-None.ensures) c.in_err-single-in-None.ensures)

pub returns-in_ok-single-in-None : goal.returns-in_ok-single-in-None
returns-in_ok-single-in-None c =
    let n : c.args.first ≡ 47 → get_or c.args.rest.now 0 0 ≡ 47 → ⊥ =
    elim c.else-first-eq47.branch [
      | else-first-eq47-via-then-first-eq47+else-second-eq47 w ↦ λ e f. w.if-second-eq47.false f
      | else-first-eq47-via-else-first-eq47 w ↦ λ e f. w.if-first-eq47.false e
    ] in
    single_longest c.args.first c.args.rest.now c.in_ok-single-in-None.field-0 c.requires (no_comment c.args.first c.args.rest.now n)
    (no_double c.args.first c.args.rest.now c.in-None.ensures) c.in_ok-single-in-None.ensures
