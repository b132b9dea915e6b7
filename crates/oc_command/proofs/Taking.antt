-- Texts that were taken.
use Rattle.std.proofs.Common.{ℕ, ◌≡◌, ◌⊎◌, List, [], sym, ◌∙◌, append-nil, arith, inl, inr, refl, subst}
use Rattle.std.specs.Prelude.{Result, Ok, Err, OnOk, OnErr}
use Rattle.oc_io.specs.Faults.{Rose, TookPart}
use Rattle.oc_io.specs.declared.sink.SinkFault.{SinkFault}
use Rattle.oc_io.proofs.Going.{Both}
use Rattle.oc_command.specs.Sinks.{writes, TookNothing, TookAll, TookFront}

-- a sink that was flushed after a text took the text
pub took_flushed : {S : Type 0} (took : S → List ℕ → S → Type 0) (both : Both took) (a b c : S) (x : List ℕ) → took a x b → took b [] c → took a x c
took_flushed took both a b c x p q = subst (λ (t : List ℕ). took a t c) (append-nil x) (both a b c x [] p q)

module _ {S : Type 0} (took : S → List ℕ → S → Type 0) (held : S → List ℕ) (faults : S → ℕ) where
  -- a sink that wasn't called took nothing
  pub untouched : ((s : S) → took s [] s) → (s : S) → TookNothing (writes took held faults s s)
  untouched nothing s = record { untaken = nothing s; calm = refl }

  -- a sink whose faults rose took a front part
  pub front_of : (a b : S) (text : List ℕ) → Rose (faults a) (faults b) → TookPart took a text b → TookFront (writes took held faults a b) text
  front_of a b text rose p = record { rose = rose; front = p.front; back = p.back; split = p.split; taken = p.taken }

module _ {S : Type 0} (took : S → List ℕ → S → Type 0) (held : S → List ℕ) (faults : S → ℕ) (both : Both took) where
  -- a text was taken and then flushed
  pub flushed_all : (a b c : S) (text : List ℕ) → faults b ≡ faults a → took a text b → took b [] c → held c ≡ [] → faults c ≡ faults b → TookAll (writes took held faults a c) text
  flushed_all a b c text calm p q h still = record { taken = took_flushed took both a b c text p q; written = h; calm = still ∙ calm }

  pub flushed_front : (a b c : S) (text : List ℕ) → faults b ≡ faults a → took a text b → took b [] c → Rose (faults b) (faults c) → TookFront (writes took held faults a c) text
  flushed_front a b c text calm p q rose =
      record { rose = omega (arith, calm, rose); front = text; back = []; split = sym (append-nil text); taken = took_flushed took both a b c text p q }

  -- after a text the sink was flushed, or that failed
  pub flushed_or : (a b c : S) (text : List ℕ) (flushed : Result Unit SinkFault) → faults b ≡ faults a → took a text b → took b [] c → OnOk flushed (held c ≡ [])
      → OnOk flushed (faults c ≡ faults b) → OnErr flushed (Rose (faults b) (faults c))
      → TookAll (writes took held faults a c) text ⊎ TookFront (writes took held faults a c) text
  flushed_or a b c text (Ok u) calm p q ok still bad = inl (flushed_all a b c text calm p q ok still)
  flushed_or a b c text (Err e) calm p q ok still bad = inr (flushed_front a b c text calm p q bad)
