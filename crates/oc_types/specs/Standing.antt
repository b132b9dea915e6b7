-- Where statements stand, from what the code keeps.
use Rattle.std.specs.Prelude.{ℕ}
use Rattle.oc_tree.specs.Tree.{TBlock, block}
use Rattle.oc_tree.specs.View.{function_view}
use Rattle.oc_types.specs.declared.place.Place.{Place}
use Rattle.oc_tree.specs.Scope.{Scope}
use Rattle.oc_tree.specs.Elements.{Here}

-- where a statement stands, from what the code keeps and the scope
abbrev pub here_of : Place → Scope → Here
here_of h scope = record {
  function = function_view h.function.now;
  number = h.number;
  scope = scope;
  block = h.block;
  last = h.last;
}

-- the number of a block
abbrev pub block_id : TBlock → ℕ
block_id (block id ss) = id

-- where the statements of a block of the same function stand
abbrev pub in_block : Place → Scope → TBlock → Here
in_block h scope b = record {
  function = function_view h.function.now;
  number = h.number;
  scope = scope;
  block = block_id b;
  last = h.last;
}
