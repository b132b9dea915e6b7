-- Why files are turned down.
use Rattle.std.proofs.Common.{◌≡◌, ◌∙◌, sym, ap, refl, inl, inr}
use Rattle.oc_isa.specs.Image.{Parts}
use Rattle.oc_command.specs.Commands.{Plan}
use Rattle.oc_command.specs.Files.{Files}
use Rattle.oc_command.specs.declared.answer.Answer.{Answer}
use Rattle.oc_command.specs.declared.answer.Answer.TheVariants as answer
use Rattle.oc_report.specs.Ready.{IsNotReady}
use Rattle.oc_report.specs.Runs.{with_parts}
use Rattle.oc_top.specs.Sources.{faulty, breaks, program}
use Rattle.oc_top.specs.Verdict.{verdict}
use Rattle.oc_top.specs.Steps.{IsBuilt, IsNotBuilt, IsTurnedDown, by_memory, by_files}

module _ (files : Files) (plan : Plan) where
  pub not_built : (end : Answer) → IsNotBuilt files.source end → IsTurnedDown files plan end
  not_built (answer.Syntax line) r = by_files (faulty line) r refl refl
  not_built (answer.Rule line rule) r = by_files (breaks (record { line = line; rule = rule })) r refl refl
  not_built answer.Memory r = by_memory refl
  not_built end r = absurd r

  -- the verdict where the source is built
  pub is_verdict : (parts : Parts) (b : IsBuilt files.source parts) → verdict (program b.written) files plan ≡ with_parts parts files plan
  is_verdict parts b = ap (λ (p : Parts). with_parts p files plan) (sym b.is_code)

  -- what is wanting where the source is built
  pub not_ready : (parts : Parts) → IsBuilt files.source parts → (end : Answer) → IsNotReady parts files plan end → IsTurnedDown files plan end
  not_ready parts b end (inl e) = by_memory e
  not_ready parts b end (inr r) = by_files (program b.written) b.reads r.0 (is_verdict parts b ∙ r.1)
