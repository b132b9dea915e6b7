-- The texts of a program's reports, read back.
use Rattle.std.proofs.Common.{◌∙◌, map, sym, subst}
use Rattle.oc_tree.specs.Checked.{AnyName}
use Rattle.oc_audit.specs.Files.{IsReportFile}
use Rattle.oc_audit.specs.Laws.{OneReportEach, ProgramsReadBack}
use Rattle.oc_audit.proofs.Apart.{names_apart}
use Rattle.oc_audit.proofs.Named.{are_names}
use Rattle.oc_audit.proofs.OneWay.{reads_back}

pub programs_back : ProgramsReadBack
programs_back p groups c items words are count fit =
    let named = are_names p groups c in
    let apart = names_apart AnyName p c.form c.unbroken in
    reads_back p.names (map (λ d. d.words) p.nv) apart.sensors apart.ports named.nvs named.each items words are count fit

pub one_report : OneReportEach
one_report p groups checked bytes a b u v x y =
    let all = programs_back p groups checked b y.words y.file.each y.file.count y.file.fit in
    let r = all.alone a u (subst (λ l. IsReportFile p.names (map (λ d. d.words) p.nv) l a u) (sym y.file.text) x) in
    (r.0, r.1 ∙ sym y.nv_is)
