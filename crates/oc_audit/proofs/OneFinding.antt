-- Bytes are found to be one thing.
use Rattle.std.proofs.Common.{◌≡◌, ◌<◌, ℕ, suc, List, [], ◌∷◌, ◌++◌, length, map, refl, sym, ap, ◌∙◌, subst, append_assoc}
use Rattle.oc_tree.specs.Tree.{TProgram}
use Rattle.oc_tree.specs.Marked.{TRegion, TMarked, IsMarked}
use Rattle.oc_honest.specs.Honest.{TReport, IsHonest, BreaksAt}
use Rattle.oc_judge.specs.Verdicts.{reported}
use Rattle.oc_audit.specs.Findings.{SpellsReport, IsFinding}
use Rattle.oc_audit.specs.declared.audit.Finding.{Finding}
use Rattle.oc_audit.specs.declared.audit.Finding.TheVariants as finding
use Rattle.oc_audit.proofs.OneWay.{longer, same_length, one_bad_line, no_bad_line}
use Rattle.oc_audit.proofs.Program.{one_report}

module _ (p : TProgram) (regions : List TRegion) (r : TReport) where
  -- a report that breaks isn't honest
  breaks_no : (n : ℕ) → BreaksAt p regions r n → IsHonest p regions r → ⊥
  breaks_no n b h = b.broken (h (b.before ++ b.item ∷ []) b.rest (append_assoc b.before (b.item ∷ []) b.rest ∙ b.split))

  -- nor does it break later
  no_later : (n m : ℕ) (b : BreaksAt p regions r n) (c : BreaksAt p regions r m) → length b.before < length c.before → ⊥
  no_later n m b c l =
      let more = longer b.before c.before b.item b.rest (c.item ∷ c.rest) (b.split ∙ sym c.split) l in
      b.broken (c.honest (b.before ++ b.item ∷ []) more.0 (sym more.1))

  one_break : (n m : ℕ) → BreaksAt p regions r n → BreaksAt p regions r m → n ≡ m
  one_break n m b c = b.number ∙ ap suc (same_length (length b.before) (length c.before) (no_later n m b c) (no_later m n c b)) ∙ sym c.number

module _ (m : TMarked) (is : IsMarked m) (bytes : List ℕ) where
  same_report : (r q : TReport) → SpellsReport m.program bytes r → SpellsReport m.program bytes q → r ≡ q
  same_report r q a b =
      let one = one_report m.program m.groups is.checked bytes a.items b.items a.nv b.nv a.file b.file in
      a.is ∙ ap (λ l. reported l a.nv) one.0 ∙ ap (λ v. reported b.items v) one.1 ∙ sym b.is

  none_bad : (n : ℕ) (r : TReport) → SpellsReport m.program bytes r → IsFinding m.program m.regions bytes (finding.BadLine n) → ⊥
  none_bad n r s b = no_bad_line m.program.names (map (λ d. d.words) m.program.nv) bytes n s.items s.file.words s.file.file b

  pub one_finding : (f g : Finding) → IsFinding m.program m.regions bytes f → IsFinding m.program m.regions bytes g → f ≡ g
  one_finding (finding.BadLine n) (finding.BadLine k) a b = ap finding.BadLine (one_bad_line m.program.names (map (λ d. d.words) m.program.nv) bytes n k a b)
  one_finding (finding.BadLine n) (finding.Breaks k) a b = absurd (none_bad n b.0 b.1 a)
  one_finding (finding.BadLine n) finding.Honest a b = absurd (none_bad n b.0 b.1 a)
  one_finding (finding.Breaks n) (finding.BadLine k) a b = absurd (none_bad k a.0 a.1 b)
  one_finding (finding.Breaks n) (finding.Breaks k) a b =
      ap finding.Breaks (one_break m.program m.regions b.0 n k (subst (λ r. BreaksAt m.program m.regions r n) (same_report a.0 b.0 a.1 b.1) a.2) b.2)
  one_finding (finding.Breaks n) finding.Honest a b =
      absurd (breaks_no m.program m.regions b.0 n (subst (λ r. BreaksAt m.program m.regions r n) (same_report a.0 b.0 a.1 b.1) a.2) b.2)
  one_finding finding.Honest (finding.BadLine k) a b = absurd (none_bad k a.0 a.1 b)
  one_finding finding.Honest (finding.Breaks k) a b =
      absurd (breaks_no m.program m.regions a.0 k (subst (λ r. BreaksAt m.program m.regions r k) (same_report b.0 a.0 b.1 a.1) b.2) a.2)
  one_finding finding.Honest finding.Honest a b = refl
