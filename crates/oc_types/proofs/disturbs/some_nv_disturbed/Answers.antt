use Rattle.std.proofs.Common.{◌≡◌, ◌≤◌, ◌+◌, ◌∷◌, true, false, drop, length, ap, sym, ◌∙◌, arith}
use Rattle.std.proofs.lemmas.Grind.{common_steps}
use Rattle.std.proofs.lemmas.List.{drop_all}
use Rattle.std.specs.List.{list_any}
use Rattle.oc_tree.specs.Names.{names_seen}
use Rattle.oc_tree.specs.View.{kind_view, program_view}
use Rattle.oc_types.specs.Quiet.{is_changed}
use Rattle.oc_types.proofs.Tested.{any_by}
use Rattle.oc_types.proofs.Disturbed.{disturbed_by_names}
use Rattle.oc_types.proofs.disturbs.some_nv_disturbed.Goals as goal

pub returns-then-branch : goal.returns-then-branch
returns-then-branch c =
    let p = program_view c.args.top.now in
    let k = kind_view c.args.statement.now in
    let i = c.loop-name.name-index in
    let l = c.names-name-items.result.now in
    let item = c.name-item.is in
    let e : drop i l ≡ c.name-item.result ∷ drop (i + 1) l = grind (arith, common_steps) in
    sym (any_by (is_changed p k) c.name-item.result.now _ _ true (ap names_seen e) (sym c.in_ok-is_disturbed.ensures.found ∙ c.if-branch.true))
    ∙ c.loop-name.invariant.found
    ∙ disturbed_by_names p k

pub loop-name-preserved : goal.loop-name-preserved
loop-name-preserved c =
    let p = program_view c.args.top.now in
    let k = kind_view c.args.statement.now in
    let i = c.loop-name.name-index in
    let l = c.names-name-items.result.now in
    let item = c.name-item.is in
    let e : drop i l ≡ c.name-item.result ∷ drop (i + 1) l = grind (arith, common_steps) in
    record {
      bound = c.in_ok-is_disturbed.ensures.bound ∙ c.loop-name.invariant.bound;
      quiet = c.in_ok-is_disturbed.ensures.quiet c.if-branch.false;
      found = sym (any_by (is_changed p k) c.name-item.result.now _ _ false (ap names_seen e) (sym c.in_ok-is_disturbed.ensures.found ∙ c.if-branch.false))
          ∙ c.loop-name.invariant.found;
    }

pub returns : goal.returns
returns c =
    let p = program_view c.args.top.now in
    let k = kind_view c.args.statement.now in
    let l = c.names-name-items.result.now in
    let h : length l ≤ c.loop-name.name-index = omega arith in
    sym (ap (λ d. list_any (is_changed p k) (names_seen d)) (drop_all c.loop-name.name-index l h)) ∙ c.loop-name.invariant.found ∙ disturbed_by_names p k
