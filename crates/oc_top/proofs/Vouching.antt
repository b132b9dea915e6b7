-- The text of a run is found to be honest.
use Rattle.std.proofs.Common.{ℕ, ◌≡◌, ◌∙◌, sym, ap, refl, subst, List, [], ◌∷◌, map, length}
use Rattle.std.specs.Prelude.{sum}
use Rattle.oc_tree.specs.declared.tree.NvDecl.{NvDecl}
use Rattle.oc_sensors.specs.History.{history}
use Rattle.oc_items.specs.Text.{full_text}
use Rattle.oc_items.specs.Told.{item_of}
use Rattle.oc_isa.specs.Table.{device_of}
use Rattle.oc_code.specs.Code.{image_nv}
use Rattle.oc_audit.specs.Findings.{HonestTexts, IsFinding}
use Rattle.oc_audit.specs.declared.audit.Finding.TheVariants as finding
use Rattle.oc_top.specs.Meant.{program_code, program_marked}
use Rattle.oc_top.specs.Audited.{IsFound}
use Rattle.oc_top.specs.Headline.{program_power}
use Rattle.oc_report.specs.Runs.{Verdict}
use Rattle.oc_top.specs.Vouched.{RunsAreFoundHonest}
use Rattle.oc_top.proofs.Accepted.{marked_there}
use Rattle.oc_top.proofs.Auditing.{one_found}
use Rattle.oc_top.proofs.Lengths.{declared_wide, run_wide}

-- the sizes of the variables of an image are those that are declared
image_sizes : (ds : List NvDecl) → map (λ v. v.words) (map image_nv ds) ≡ map (λ (d : NvDecl). d.words) ds
image_sizes [] = refl
image_sizes (d ∷ ds) = ap (λ (sizes : List ℕ). d.words ∷ sizes) (image_sizes ds)

pub runs_are_found_honest : HonestTexts → RunsAreFoundHonest
runs_are_found_honest law files plan run reported =
    let r = reported.is in
    let p = r.written in
    let m = program_marked p in
    let world = program_power p r.rows (plan r.periods) in
    let told = map item_of world.report in
    let words : length world.state.nv ≡ sum (map (λ (d : NvDecl). d.words) p.nv) =
    run_wide (device_of (program_code p)) (history r.rows) (plan r.periods) ∙ declared_wide p.nv in
    let found = (law m (marked_there files.source reported.short p r.spelled) world.report world.state.nv reported.fits.each words reported.fits.words r.honest.honest).0 in
    let text : full_text p.names (map (λ (d : NvDecl). d.words) p.nv) told world.state.nv ≡ run.text =
    ap (λ (sizes : List ℕ). full_text p.names sizes told world.state.nv) (sym (image_sizes p.nv)) ∙ sym (ap (λ (v : Verdict). v.text) r.is_run) in
    let is : IsFound files.source run.text finding.Honest =
    record { written = p; spelled = r.spelled; found = subst (λ (t : List ℕ). IsFinding m.program m.regions t finding.Honest) text found } in
    record { honest = is; only = λ f g. one_found files.source run.text reported.short f finding.Honest g is }
