-- Without a cap, what is known of callees tells a weight exactly.
use Rattle.std.proofs.Common.{◌≡◌, ℕ, ◌+◌, ◌++◌, List, [], None}
use Rattle.std.specs.Prelude.{max, cond}
use Rattle.oc_tree.specs.Tree.{TKind, TStmts, TFunction}
use Rattle.oc_tree.specs.Calls.{kind_hides, kind_kinds, stmts_kinds}
use Rattle.oc_tree.specs.Weight.{kind_cost}
use Rattle.oc_weight.specs.Measured.{IsCap}
use Rattle.oc_weight.specs.MeasureLaws.{front_alike, back_alike, split_alike, kind_cost_alike}
use Rattle.oc_weight.proofs.Callees.{KindsSame}

pub no_cap : IsCap (λ n. n)
no_cap = record {
  sums = λ a b c d h k. λ i. h i + k i;
  maxima = λ a b c d h k. λ i. max (h i) (k i);
}

module _ (fs : List TFunction) (ws vs : List ℕ) where
  pub front : (xs ys : List TKind) → KindsSame fs ws vs (xs ++ ys) → KindsSame fs ws vs xs
  front = front_alike (λ n. n) no_cap fs ws vs

  pub back : (xs ys : List TKind) → KindsSame fs ws vs (xs ++ ys) → KindsSame fs ws vs ys
  back = back_alike (λ n. n) no_cap fs ws vs

  pub split : (k : TKind) (ss : TStmts) → KindsSame fs ws vs (kind_kinds None k ++ cond (kind_hides None k) [] (stmts_kinds None ss)) → KindsSame fs ws vs (kind_kinds None k ++ stmts_kinds None ss)
  split = split_alike (λ n. n) no_cap fs ws vs

  pub kind_cost_same : (k : TKind) → KindsSame fs ws vs (kind_kinds None k) → kind_cost fs ws k ≡ kind_cost fs vs k
  kind_cost_same = kind_cost_alike (λ n. n) no_cap fs ws vs
