use Rattle.std.proofs.Common.{◌≡◌, drop}
use Rattle.std.specs.Prelude.{map}
use Rattle.std.specs.List.{list_all}
use Rattle.oc_verify.specs.Rules.{fits_in}
use Rattle.oc_verify.proofs.layout.regions_fit.Given as goal

abbrev pub invariant-loop-targets : goal.invariant-loop-targets
invariant-loop-targets l = list_all (λ ts. list_all (fits_in l.words) ts) (map (λ r. r.items) l.regions) ≡ list_all (λ ts. list_all (fits_in l.words) ts)
    (map (λ r. r.items) (drop l.targets-index l.regions))
