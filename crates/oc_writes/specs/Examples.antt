-- What regions may overwrite, by examples.
use Rattle.std.specs.Prelude.{◌≡◌, refl, [], ◌∷◌}
use Rattle.oc_tree.specs.declared.said.Target.TheVariants as targets
use Rattle.oc_tree.specs.Worked.{fresh_writes, writes_region, fresh_marked}
use Rattle.oc_writes.specs.Targets.{region_targets, may_write}

-- one word from 0 on and one from 1 on: those of `n` and `m`
pub region_targets_example :
    region_targets fresh_writes writes_region ≡ targets.Nv 0 1 ∷ targets.Nv 1 1 ∷ []
region_targets_example = refl

-- the one region of `fresh_input` overwrites nothing
pub may_write_example : may_write fresh_marked ≡ [] ∷ []
may_write_example = refl
