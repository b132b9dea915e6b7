-- A text tells the report of an accepted program.
use Rattle.std.proofs.Common.{◌∙◌}
use Rattle.std.proofs.lemmas.List.{length-map}
use Rattle.oc_lex.specs.Stands.{IsName}
use Rattle.oc_items.proofs.Back as items
use Rattle.oc_items.proofs.NvBack as words
use Rattle.oc_audit.specs.Apart.{ProgramsHaveOneText, ProgramsHaveOneReport, sizes_of}
use Rattle.oc_audit.proofs.Apart.{names_apart}

pub one_text : ProgramsHaveOneText
one_text p h a b all_a all_b same =
    let names = names_apart IsName p h.form h.unbroken in
    items.one_text p.names a b names.sensors names.ports all_a all_b same

pub one_report : ProgramsHaveOneReport
one_report p h a b u v all_a all_b words_u words_v same =
    let names = names_apart IsName p h.form h.unbroken in
    words.one_report p.names (sizes_of p) a b u v names.sensors names.ports names.nvs (length-map p.nv _ ∙ h.form.declared.each_nv) all_a all_b words_u.all words_v.all words_u.fit words_v.fit same
