-- What comes of a text that is put in pieces.
use Rattle.std.proofs.Common.{ℕ, ◌≡◌, List, [], ◌++◌, ◌∙◌, ap, sym, append_assoc, arith, subst}
use Rattle.std.specs.Prelude.{Result, Ok, Err}
use Rattle.oc_io.specs.Faults.{Puts, TookPart}
use Rattle.oc_io.specs.declared.sink.SinkFault.{SinkFault}
use Rattle.oc_io.proofs.Going.{Both, Going, finish, go_on, stop}

module _ {S : Type 0} (took : S → List ℕ → S → Type 0) (faults : S → ℕ) where
  -- all of it was put, and no fault was counted
  pub all_put : (a c : S) (text : List ℕ) (u : Unit) → faults c ≡ faults a → took a text c → Puts took faults a text c (Ok u)
  all_put a c text u calm taken = record { ok = taken; part = tt; calm = calm; cause = tt; count = omega (arith, calm) }

  -- a piece of it was put in part, behind some that were put whole
  pub stopped : (a b c : S) (piece text : List ℕ) (e : SinkFault) → faults b ≡ faults a → TookPart took a text c → Puts took faults b piece c (Err e) → Puts took faults a text c (Err e)
  stopped a b c piece text e calm part p =
      record { ok = tt; part = part; calm = tt; cause = omega (arith, calm, p.cause); count = omega (arith, calm, p.count) }

  -- the last piece of it was put, behind others
  pub ended : (a b c : S) (piece text : List ℕ) (r : Result Unit SinkFault) → faults b ≡ faults a → (took b piece c → took a text c) → (TookPart took b piece c → TookPart took a text c)
      → Puts took faults b piece c r → Puts took faults a text c r
  ended a b c piece text (Ok u) calm whole part p = record { ok = whole p.ok; part = tt; calm = p.calm ∙ calm; cause = tt; count = omega (arith, calm, p.count) }
  ended a b c piece text (Err e) calm whole part p =
      record { ok = tt; part = part p.part; calm = tt; cause = omega (arith, calm, p.cause); count = omega (arith, calm, p.count) }

  -- a piece behind which something was still to come was put in part
  pub stopped_in : (both : Both took) (a b c : S) (piece rest text : List ℕ) (e : SinkFault) → faults b ≡ faults a → Going took a b (piece ++ rest) text → Puts took faults b piece c (Err e)
      → Puts took faults a text c (Err e)
  stopped_in both a b c piece rest text e calm going p = stopped a b c piece text e calm (stop took both a b c piece rest text going p.part) p

  -- the piece that was still to come was put
  pub ended_by : (both : Both took) (a b c : S) (piece text : List ℕ) (r : Result Unit SinkFault) → faults b ≡ faults a → Going took a b (piece ++ []) text → Puts took faults b piece c r
      → Puts took faults a text c r
  ended_by both a b c piece text r calm going p =
      ended a b c piece text r calm (λ taken. finish took a c text (go_on took both a b c piece [] text going taken)) (λ part. stop took both a b c piece [] text going part) p

  -- the first part of it was put in part
  pub first_failed : {a c : S} {x : List ℕ} {e : SinkFault} (y : List ℕ) → Puts took faults a x c (Err e) → Puts took faults a (x ++ y) c (Err e)
  first_failed {a = a} {c = c} {x = x} {e = e} y p = record {
    ok = tt;
    part = record {
      front = p.part.front;
      back = p.part.back ++ y;
      split = ap (λ (s : List ℕ). s ++ y) p.part.split ∙ append_assoc p.part.front p.part.back y;
      taken = p.part.taken;
    };
    calm = tt;
    cause = p.cause;
    count = p.count;
  }

  -- its first part was put, and then what comes behind
  pub then_put : (both : Both took) {a b c : S} {x y : List ℕ} {u : Unit} {r : Result Unit SinkFault} → Puts took faults a x b (Ok u) → Puts took faults b y c r → Puts took faults a (x ++ y) c r
  then_put both {a = a} {b = b} {c = c} {x = x} {y = y} {r = r} first rest = ended a b c y (x ++ y) r first.calm (both a b c x y first.ok)
      (λ part. record {
        front = x ++ part.front;
        back = part.back;
        split = ap (λ (s : List ℕ). x ++ s) part.split ∙ sym (append_assoc x part.front part.back);
        taken = both a b c x part.front first.ok part.taken;
      })
      rest

  -- the same text, written in another way
  pub same_text : {a c : S} {r : Result Unit SinkFault} {x y : List ℕ} → x ≡ y → Puts took faults a x c r → Puts took faults a y c r
  same_text {a = a} {c = c} {r = r} e p = subst (λ (text : List ℕ). Puts took faults a text c r) e p
