-- How a report is audited.
use Rattle.std.proofs.Common.{ℕ, ◌≤◌, ◌≡◌, ◌⊎◌, ◌∙◌, sym, ap, refl, subst, inl, inr, List, [], length, true}
use Rattle.std.specs.Prelude.{codes}
use Rattle.oc_tree.specs.Tree.{TProgram}
use Rattle.oc_tree.specs.Marked.{TMarked}
use Rattle.oc_tree.specs.declared.broken.Broken.{Broken}
use Rattle.oc_audit.specs.Findings.{IsFinding}
use Rattle.oc_audit.specs.declared.audit.Finding.{Finding}
use Rattle.oc_audit.specs.declared.audit.Finding.TheVariants as finding
use Rattle.oc_audit.proofs.OneFinding.{one_finding}
use Rattle.oc_top.specs.Meant.{program_marked}
use Rattle.oc_top.specs.Sources.{faulty, breaks, program}
use Rattle.oc_top.specs.Steps.{IsMarkedOf, IsNotBuilt}
use Rattle.oc_report.specs.Runs.{Verdict, is_refusal, refuses}
use Rattle.oc_top.specs.Audited.{IsAudit, IsFound, IsVouched, audited, broken_rule, no_program, said_of}
use Rattle.oc_command.specs.declared.answer.Answer.{Answer}
use Rattle.oc_command.specs.declared.answer.Answer.TheVariants as answer
use Rattle.oc_top.proofs.Accepted.{marked_there}
use Rattle.oc_top.proofs.OneReading.{one_reading, same_line, same_rule, same_tree}

-- ---- the steps

pub is_found : (source report : List ℕ) (m : TMarked) (f : Finding) → IsMarkedOf source m → IsFinding m.program m.regions report f → IsFound source report f
is_found source report m f is found = record {
  written = is.written;
  spelled = is.reads;
  found = subst (λ (n : TMarked). IsFinding n.program n.regions report f) is.is_marked found;
}

pub without_program : (source report : List ℕ) (end : Answer) → IsNotBuilt source end → (end ≡ answer.Memory) ⊎ IsAudit source report (refuses end)
without_program source report (answer.Syntax line) r = inr (no_program line r refl)
without_program source report (answer.Rule line rule) r = inr (broken_rule (record { line = line; rule = rule }) r refl)
without_program source report answer.Memory r = inl refl
without_program source report end r = absurd r

-- ---- there is one verdict on a source and a report

module _ (source report : List ℕ) (small : length source ≤ 1048576) where
  pub one_found : (f g : Finding) → IsFound source report f → IsFound source report g → f ≡ g
  one_found f g a b =
      let same = same_tree a.written b.written (one_reading source (program a.written) (program b.written) a.spelled b.spelled) in
      let here : IsFinding (program_marked a.written).program (program_marked a.written).regions report g =
      subst (λ (p : TProgram). IsFinding (program_marked p).program (program_marked p).regions report g) (sym same) b.found in
      one_finding (program_marked a.written) (marked_there source small a.written a.spelled) report f g a.found here

  pub one_audit : (run other : Verdict) → IsAudit source report run → IsAudit source report other → run ≡ other
  one_audit run other (no_program m a e) (no_program n b f) = e ∙ ap (λ (k : ℕ). refuses (answer.Syntax k)) (same_line m n (one_reading source (faulty m) (faulty n) a b)) ∙ sym f
  one_audit run other (no_program m a e) (broken_rule c b f) = let h = one_reading source (faulty m) (breaks c) a b in cc h
  one_audit run other (no_program m a e) (audited g b f) = let h = one_reading source (faulty m) (program b.written) a b.spelled in cc h
  one_audit run other (broken_rule c a e) (no_program n b f) = let h = one_reading source (breaks c) (faulty n) a b in cc h
  one_audit run other (broken_rule c a e) (broken_rule d b f) =
      e ∙ ap (λ (k : Broken). refuses (answer.Rule k.line k.rule)) (same_rule c d (one_reading source (breaks c) (breaks d) a b)) ∙ sym f
  one_audit run other (broken_rule c a e) (audited g b f) = let h = one_reading source (breaks c) (program b.written) a b.spelled in cc h
  one_audit run other (audited g a e) (no_program n b f) = let h = one_reading source (program a.written) (faulty n) a.spelled b in cc h
  one_audit run other (audited g a e) (broken_rule d b f) = let h = one_reading source (program a.written) (breaks d) a.spelled b in cc h
  one_audit run other (audited g a e) (audited h b f) = e ∙ ap said_of (one_found g h a b) ∙ sym f

-- ---- what the answers are

pub vouched_audit : (source report : List ℕ) (run : Verdict) → IsVouched source report run → IsAudit source report run
vouched_audit source report run v = audited finding.Honest v.honest v.is_run

pub said_refuses : (f : Finding) (end : Answer) → said_of f ≡ refuses end → is_refusal end ≡ true
said_refuses (finding.BadLine n) end e = sym (ap (λ (v : Verdict). is_refusal v.answer) e)
said_refuses (finding.Breaks n) end e = sym (ap (λ (v : Verdict). is_refusal v.answer) e)
said_refuses finding.Honest end e = let f : codes "honest\n" ≡ [] = ap (λ (v : Verdict). v.text) e in cc f

pub audit_refuses : (source report : List ℕ) (end : Answer) → IsAudit source report (refuses end) → is_refusal end ≡ true
audit_refuses source report end (no_program line r e) = ap (λ (v : Verdict). is_refusal v.answer) e
audit_refuses source report end (broken_rule b r e) = ap (λ (v : Verdict). is_refusal v.answer) e
audit_refuses source report end (audited f found e) = said_refuses f end (sym e)
