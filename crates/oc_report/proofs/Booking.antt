-- What meters were told of a report that was written through their sink.
use Rattle.std.proofs.Common.{ℕ, ◌≡◌, ◌≤◌, ◌∙◌, sym, ap, refl, subst, arith, List, [], map, Bool, true, false, Option, Some, None}
use Rattle.oc_io.specs.Faults.{Rose}
use Rattle.oc_io.specs.declared.period.Period.{Period}
use Rattle.oc_tree.specs.Names.{NameLists, names_view}
use Rattle.oc_tree.specs.declared.name.Names.{Names}
use Rattle.oc_sensors.specs.History.{history}
use Rattle.oc_sensors.specs.declared.sensors.Row.{Row}
use Rattle.oc_isa.specs.Image.{Parts}
use Rattle.oc_isa.specs.Power.{power_run}
use Rattle.oc_isa.specs.Table.{device_of}
use Rattle.oc_meters.specs.Tally.{Reading, readings}
use Rattle.oc_meters.specs.Reads.{Page, TakesBytes, page}
use Rattle.oc_meters.specs.ReadBack.{ReportIsRead, begun, tell_items}
use Rattle.oc_meters.specs.Lines.{meter_lines}
use Rattle.oc_meters.specs.Passing.{faults_by}
use Rattle.oc_meters.specs.Taken.{Took}
use Rattle.oc_audit.specs.Apart.{HasNamesApart}
use Rattle.oc_command.specs.Meters.{told_by}
use Rattle.oc_command.specs.Sinks.{Writes}
use Rattle.oc_command.specs.declared.answer.Answer.{Answer}
use Rattle.oc_command.specs.declared.answer.Answer.TheVariants as answer
use Rattle.oc_report.specs.Metered.{IsReported, read}
use Rattle.oc_report.specs.Runs.{RunFits, Verdict, runs}
use Rattle.oc_report.specs.Written.{IsWritten, in_part, whole}

-- where its own count stays none has failed, and where that rises one has
unfailed : (after : Bool) → faults_by after ≡ 0 → after ≡ false
unfailed true e = absurd (omega (arith, e))
unfailed false e = refl

failed : (after : Bool) → Rose 0 (faults_by after) → after ≡ true
failed true e = refl
failed false e = absurd (omega (arith, e))

-- what a sink round another one took, taken apart
module _ (same_inner same_book : Type 0) (took : List ℕ → Type 0) (held : List ℕ) (before after : Bool) (m n : ℕ) (a b : Names) (old new : Page) (run : Verdict) (end : Answer) where
  abbrev round : Writes
  round = record {
    took = λ x. same_inner × same_book × took x × Took before after m n a b old x new;
    held = held;
    rose = Rose (faults_by before) (faults_by after);
    calm = faults_by after ≡ faults_by before;
  }

  abbrev inner : Writes
  inner = record { took = took; held = held; rose = Rose m n; calm = n ≡ m }

  pub inner_same : IsWritten round run end → same_inner
  inner_same (whole e t) = t.taken.0
  inner_same (in_part e p) = p.taken.0

  pub book_same : IsWritten round run end → same_book
  book_same (whole e t) = t.taken.1
  book_same (in_part e p) = p.taken.1

  pub inner_count : IsWritten round run end → m ≤ n
  inner_count (whole e t) = t.taken.3.marks.count
  inner_count (in_part e p) = p.taken.3.marks.count

  -- no call had failed before
  module _ (fresh : before ≡ false) where
    still : faults_by after ≡ faults_by before → after ≡ false
    still calm = unfailed after (calm ∙ ap faults_by fresh)

    pub inner_written : IsWritten round run end → IsWritten inner run end
    inner_written (whole e t) = whole e (record { taken = t.taken.2; written = t.written; calm = t.taken.3.marks.calm (still t.calm) })
    inner_written (in_part e p) =
        let now : after ≡ true = failed after (subst (λ (k : Bool). Rose (faults_by k) (faults_by after)) fresh p.rose) in
        in_part e (record { rose = p.taken.3.marks.rose fresh now; front = p.front; back = p.back; split = p.split; taken = p.taken.2 })

    -- where the text was written whole, the book took all of it
    pub all_read : (end ≡ answer.WriteFault → ⊥) → IsWritten round run end → TakesBytes (names_view a) old run.text new
    all_read apart (whole e t) = t.taken.3.taken (still t.calm)
    all_read apart (in_part e p) = absurd (apart e)

-- what meters that read the text of a run tell is what they tell of its items
module _ (report_is_read : ReportIsRead) (parts : Parts) (rows : List Row) (periods : List Period) (apart : HasNamesApart parts.names) where
  abbrev reported : Verdict
  reported = runs parts rows periods

  told_items : (names : NameLists) (old new : Page) (meters : List Reading) → RunFits parts rows periods → TakesBytes names old reported.text new → names ≡ parts.names
      → old ≡ begun meters → new.readings ≡ tell_items reported.items meters
  told_items names old new meters fits takes same is_begun =
      let here = subst (λ (p : Page). TakesBytes parts.names p reported.text new) is_begun (subst (λ (n : NameLists). TakesBytes n old reported.text new) same takes) in
      ap (λ (p : Page). p.readings)
      (report_is_read parts.names (map (λ v. v.words) parts.nv) reported.items (power_run (device_of parts) (history rows) periods).state.nv meters new
      apart.sensors apart.ports apart.nvs fits.each fits.places here)

  pub was_reported : (sink : Writes) (end : Answer) (names : NameLists) (old new : Page) (meters : List Reading) (told : Option (List Reading)) → IsWritten sink reported end
      → ((end ≡ answer.WriteFault → ⊥) → RunFits parts rows periods) → ((end ≡ answer.WriteFault → ⊥) → TakesBytes names old reported.text new) → names ≡ parts.names → old ≡ begun meters
      → ((end ≡ answer.WriteFault → ⊥) → told ≡ Some new.readings) → (end ≡ answer.WriteFault → told ≡ None) → IsReported parts rows periods (Some meters) sink (told_by told) end
  was_reported sink end names old new meters told w fits takes same is_begun kept none =
      read w fits (λ whole. ap told_by (kept whole) ∙ ap meter_lines (told_items names old new meters (fits whole) (takes whole) same is_begun)) (λ e. ap told_by (none e))

pub reported_as : (parts : Parts) (rows : List Row) (periods : List Period) (meters : Option (List Reading)) (sink : Writes) (told : List ℕ) (end other : Answer) → other ≡ end
    → IsReported parts rows periods meters sink told end → IsReported parts rows periods meters sink told other
reported_as parts rows periods meters sink told end other e r = subst (λ (x : Answer). IsReported parts rows periods meters sink told x) (sym e) r

-- a book that has just been opened
pub begun_is : {M : Type 0} (kind : M → ℕ) (numbers : M → List ℕ) (line : List ℕ) (now given : List M) → line ≡ [] → now ≡ given
    → page kind numbers line now ≡ begun (readings kind numbers given)
begun_is {M = M} kind numbers line now given e f = ap (λ (l : List ℕ). page kind numbers l now) e ∙ ap (λ (ms : List M). page kind numbers [] ms) f
