-- Reports that were written.
use Rattle.std.proofs.Common.{ℕ, ◌≡◌, ◌⊎◌, List, [], ◌++◌, ap, sym, ◌∙◌, append_assoc, arith, inl, inr, subst}
use Rattle.oc_io.specs.Faults.{Rose}
use Rattle.oc_io.proofs.Going.{Both}
use Rattle.oc_report.specs.Runs.{Verdict, says}
use Rattle.oc_command.specs.Sinks.{Writes, writes, TookAll, TookFront}
use Rattle.oc_report.specs.Written.{IsWritten, whole, in_part}
use Rattle.oc_command.specs.declared.answer.Answer.{Answer}
use Rattle.oc_command.specs.declared.answer.Answer.TheVariants as answer
use Rattle.oc_command.proofs.Taking.{flushed_all, flushed_front}

-- the answer stays, nothing is held back and the faults stay, or a fault rose
abbrev pub Stays : Answer → Answer → List ℕ → (old new : ℕ) → Type 0
Stays before after held old new = ((after ≡ before) × (held ≡ []) × (new ≡ old)) ⊎ ((after ≡ answer.WriteFault) × Rose old new)

module _ {S : Type 0} (took : S → List ℕ → S → Type 0) (held : S → List ℕ) (faults : S → ℕ) (both : Both took) where
  -- a text was taken and then flushed, or that failed
  pub flushed_written : (a b c : S) (before after : Answer) (text : List ℕ) → faults b ≡ faults a → took a text b → took b [] c → Stays before after (held c) (faults b) (faults c)
      → IsWritten (writes took held faults a c) (says before text) after
  flushed_written a b c before after text calm p q (inl e) = whole e.0 (flushed_all took held faults both a b c text calm p q e.1 e.2)
  flushed_written a b c before after text calm p q (inr f) = in_part f.0 (flushed_front took held faults both a b c text calm p q f.1)

  -- a text was taken, and then another, whole or in part
  pub written_after : (a b c : S) (first : List ℕ) (run : Verdict) (end : Answer) → faults b ≡ faults a → took a first b → IsWritten (writes took held faults b c) run end
      → IsWritten (writes took held faults a c) (says run.answer (first ++ run.text)) end
  written_after a b c first run end calm p (whole e q) = whole e (record { taken = both a b c first run.text p q.taken; written = q.written; calm = q.calm ∙ calm })
  written_after a b c first run end calm p (in_part e part) =
      in_part e (record {
        rose = omega (arith, calm, part.rose);
        front = first ++ part.front;
        back = part.back;
        split = ap (λ (t : List ℕ). first ++ t) part.split ∙ sym (append_assoc first part.front part.back);
        taken = both a b c first part.front p part.taken;
      })

-- what is written goes by the answer and the text alone
pub same_written : (sink : Writes) (a b : Verdict) (end : Answer) → a.answer ≡ b.answer → a.text ≡ b.text → IsWritten sink a end → IsWritten sink b end
same_written sink a b end p q (whole e t) = whole (e ∙ p) (subst (TookAll sink) q t)
same_written sink a b end p q (in_part e t) = in_part e (subst (TookFront sink) q t)
