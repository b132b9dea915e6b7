-- A part of a sum is no more than the whole.
use Rattle.std.proofs.Common.{◌≡◌, ◌≤◌, ◌<◌, ℕ, zero, suc, List, [], ◌∷◌, Option, Some, None, Bor, length, sum_by, ap, sym, arith}
use Rattle.std.proofs.lemmas.List.Sums.{sum_by-cons}
use Rattle.std.proofs.lemmas.Option.{slice_get_within}
use Rattle.std.specs.Prelude.{slice_get, unwrap_or, option_map, IfSome}
use Rattle.oc_tree.specs.Nodes.{block_nodes, program_nodes}
use Rattle.oc_tree.specs.Tree.{TFunction, TProgram}
use Rattle.oc_tree.specs.View.{block_view, function_view}
use Rattle.oc_tree.specs.declared.tree.Function.{Function}

part : (fs : List TFunction) (i : ℕ) (f : TFunction) → slice_get fs i ≡ Some f → block_nodes f.body ≤ sum_by (λ g. block_nodes g.body) fs
part [] i f e = absurd (cc)
part (g ∷ fs) zero f e =
    let s = sum_by-cons (λ h. block_nodes h.body) g fs in
    let h : block_nodes g.body ≡ block_nodes f.body = ap (λ o. block_nodes (unwrap_or o g).body) e in
    omega (arith, s, h)
part (g ∷ fs) (suc i) f e =
    let s = sum_by-cons (λ h. block_nodes h.body) g fs in
    let r = part fs i f e in
    omega (arith, s, r)

-- a function's body has no more nodes than the program
pub viewed_nodes : (p : TProgram) (i : ℕ) (o : Option (Bor Function)) → option_map (λ f. function_view f.now) o ≡ slice_get p.functions i
    → IfSome o (λ f. block_nodes (block_view f.now.body) ≤ program_nodes p)
viewed_nodes p i None e = tt
viewed_nodes p i (Some f) e = part p.functions i (function_view f.now) (sym e)

pub viewed_below : (p : TProgram) (i : ℕ) (o : Option (Bor Function)) → option_map (λ f. function_view f.now) o ≡ slice_get p.functions i → IfSome o (λ f. i < length p.functions)
viewed_below p i None e = tt
viewed_below p i (Some f) e = slice_get_within p.functions i (function_view f.now) (sym e)
