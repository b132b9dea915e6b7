-- How images are run.
use Rattle.std.proofs.Common.{ℕ, ◌≡◌, ◌∙◌, sym, ap, refl, subst, inl, inr, arith, List, true}
use Rattle.std.specs.Prelude.{Result, Ok, Err}
use Rattle.oc_io.specs.declared.period.Period.{Period}
use Rattle.oc_power.specs.Power.{Power, power_file}
use Rattle.oc_sensors.specs.File.{Readings}
use Rattle.oc_sensors.specs.File as sensor_rows
use Rattle.oc_sensors.specs.History.{Told, history}
use Rattle.oc_isa.specs.Image.{Parts, parts_of}
use Rattle.oc_isa.specs.declared.image.RawImage.{RawImage}
use Rattle.oc_isa.specs.Table.{device_of}
use Rattle.oc_machine.specs.Kept.{Running}
use Rattle.oc_outage.proofs.Enters.{device_fit}
use Rattle.oc_outage.proofs.Runs.{every_prefix_later, over_is_whole}
use Rattle.oc_verify.specs.Reading.{AreImage}
use Rattle.oc_verify.specs.Reads.{IsBad}
use Rattle.oc_verify.specs.Blames.{Blames}
use Rattle.oc_verify.specs.Rules.{Broken}
use Rattle.oc_verify.specs.declared.fault.ImageError.{ImageError}
use Rattle.oc_verify.specs.declared.fault.ImageError.TheVariants as errors
use Rattle.oc_verify.specs.declared.fault.VerifyError.{VerifyError}
use Rattle.oc_verify.specs.declared.fault.VerifyError.TheVariants as verify_errors
use Rattle.oc_verify.proofs.WholeLaws.{read_back}
use Rattle.oc_command.specs.Commands.{Plan}
use Rattle.oc_command.specs.Files.{Files}
use Rattle.oc_report.specs.Ready.{IsNotReady, IsReadyFor}
use Rattle.oc_report.specs.Runs.{Verdict, is_refusal, refuses, runs, with_parts, with_sensors}
use Rattle.oc_report.specs.Images.{IsAdmitted, IsExecuted, IsExecution, IsNotLoaded, IsNotRun, IsRefusedImage, OutagesDontShow, breaks_rule, executed, for_bytes, for_image, no_image, no_run}
use Rattle.oc_command.specs.declared.answer.Answer.{Answer}
use Rattle.oc_command.specs.declared.answer.Answer.TheVariants as answer

-- ---- bytes are of one image, or their first bad field begins at one byte

module _ (bytes : List ℕ) where
  same_ok : (i j : Parts) → ◌≡◌ {A = Result Parts ℕ} (Ok i) (Ok j) → i ≡ j
  same_ok i j e = cc

  same_err : (m n : ℕ) → ◌≡◌ {A = Result Parts ℕ} (Err m) (Err n) → m ≡ n
  same_err m n e = cc

  not_both : (i : Parts) (n : ℕ) → ◌≡◌ {A = Result Parts ℕ} (Ok i) (Err n) → ⊥
  not_both i n e = cc e

  same_image : (i j : Parts) → AreImage bytes i → AreImage bytes j → i ≡ j
  same_image i j a b = same_ok i j (sym (read_back bytes i a) ∙ read_back bytes j b)

  no_bad : (i : Parts) (at : ℕ) → AreImage bytes i → IsBad bytes (errors.Bytes at) → ⊥
  no_bad i at a b = not_both i b.0 (sym (read_back bytes i a) ∙ b.1)

  same_place : (m n : ℕ) → IsBad bytes (errors.Bytes m) → IsBad bytes (errors.Bytes n) → m ≡ n
  same_place m n a b =
      let same = same_err a.0 b.0 (sym a.1 ∙ b.1) in
      let first = a.2 in
      let second = b.2 in
      omega (arith, same, first, second)

  one_refusal : (a b : Answer) → IsRefusedImage bytes a → IsRefusedImage bytes b → a ≡ b
  one_refusal a b (no_image m x e) (no_image n y f) = e ∙ ap answer.BadImage (same_place m n x y) ∙ sym f
  one_refusal a b (no_image m x e) (breaks_rule j y address rule broken f) = absurd (no_bad j m y x)
  one_refusal a b (breaks_rule i x address rule broken e) (no_image n y f) = absurd (no_bad i n x y)
  one_refusal a b (breaks_rule i x address rule broken e) (breaks_rule j y address' rule' broken' f) = e ∙ sym f

  not_refused : (i : Parts) (end : Answer) → IsAdmitted bytes i → IsRefusedImage bytes end → ⊥
  not_refused i end a (no_image at x e) = no_bad i at a.is_image x
  not_refused i end a (breaks_rule j x address rule broken e) =
      let here : IsAdmitted bytes j = subst (IsAdmitted bytes) (same_image i j a.is_image x) a in
      here.unbroken address rule broken

  pub refused_image : (end : Answer) → IsRefusedImage bytes end → is_refusal end ≡ true
  refused_image end (no_image at x e) = ap is_refusal e
  refused_image end (breaks_rule i x address rule broken e) = ap is_refusal e

-- ---- what is read and verified

pub bad_bytes : (bytes : List ℕ) (end : Answer) (e : ImageError) → end ≡ for_bytes e → IsBad bytes e → IsNotLoaded bytes end
bad_bytes bytes end (errors.Bytes at) i b = inr (no_image at b i)
bad_bytes bytes end errors.Memory i b = inl i

pub blamed : (bytes : List ℕ) (raw : RawImage) (end : Answer) (e : VerifyError) → end ≡ for_image e → AreImage bytes (parts_of raw) → Blames (parts_of raw) e → IsNotLoaded bytes end
blamed bytes raw end (verify_errors.Refused address rule) i a b = inr (breaks_rule (parts_of raw) a address rule b i)
blamed bytes raw end verify_errors.Memory i a b = inl i

pub admitted : (bytes : List ℕ) (raw : RawImage) (image : Parts) → AreImage bytes (parts_of raw) → image ≡ parts_of raw → ((address rule : ℕ) → Broken image address rule → ⊥)
    → IsAdmitted bytes image
admitted bytes raw image a e unbroken = record { is_image = subst (AreImage bytes) (sym e) a; unbroken = unbroken }

-- ---- there is one verdict on an image and its files

module _ (files : Files) (plan : Plan) where
  pub one_execution : (run other : Verdict) → IsExecution files plan run → IsExecution files plan other → run ≡ other
  one_execution run other (no_run a x e) (no_run b y f) = e ∙ ap refuses (one_refusal files.source a b x y) ∙ sym f
  one_execution run other (no_run a x e) (executed j y f) = absurd (not_refused files.source j a y x)
  one_execution run other (executed i x e) (no_run b y f) = absurd (not_refused files.source i b x y)
  one_execution run other (executed i x e) (executed j y f) =
      e ∙ ap (λ (p : Parts). with_parts p files plan) (same_image files.source i j x.is_image y.is_image) ∙ sym f

  pub executed_judged : (run : Verdict) → IsExecuted files plan run → IsExecution files plan run
  executed_judged run d = executed d.image d.admitted (d.is_run
      ∙ sym (ap (λ (s : Readings). with_sensors d.image s (power_file files.power) plan) d.sensed ∙ ap (λ (p : Power). with_sensors d.image (sensor_rows.readings d.rows) p plan) d.powered))

  -- ---- the steps

  pub not_loaded : (end : Answer) → IsNotLoaded files.source end → IsNotRun files plan end
  not_loaded end (inl e) = inl e
  not_loaded end (inr r) = inr (refused_image files.source end r, no_run end r refl)

  pub not_run : (image : Parts) → IsAdmitted files.source image → (end : Answer) → IsNotReady image files plan end → IsNotRun files plan end
  not_run image a end (inl e) = inl e
  not_run image a end (inr r) = inr (r.0, executed image a (sym r.1))

  pub is_executed : (machine : Running) (sensors : Told) (left : List Period) → IsReadyFor (IsAdmitted files.source) files plan machine sensors left
      → IsExecuted files plan (runs machine.parts sensors.rows left)
  is_executed machine sensors left r =
      let d = device_of machine.parts in
      let h = history sensors.rows in
      let fit = device_fit machine.parts in
      let all : OutagesDontShow d h left = record {
        honest = λ front rest e. every_prefix_later d h fit r.can_run.words left front rest _ (omega arith) r.can_run.sound e;
        whole = λ how e. over_is_whole d h fit r.can_run.words left how r.can_run.sound e;
      } in
      record {
        image = machine.parts;
        admitted = r.built;
        rows = sensors.rows;
        sensed = r.sensed;
        periods = r.periods;
        powered = r.powered;
        is_run = ap (λ (ps : List Period). runs machine.parts sensors.rows ps) r.planned;
        outages = subst (λ (ps : List Period). OutagesDontShow d h ps) r.planned all;
      }
