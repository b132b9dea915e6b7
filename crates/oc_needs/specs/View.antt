-- The requirement that each declared value stands for.
use Rattle.oc_needs.specs.declared.requirement.Requirement.{Requirement}
use Rattle.oc_needs.specs.Requirements.{TRequirement}

-- the requirement that one of the code stands for
abbrev pub requirement_view : Requirement → TRequirement
requirement_view r = record { policy = r.policy; function = r.function; sites = r.sites.items }
