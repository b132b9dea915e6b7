-- How a run is left, and its answer.
use Rattle.std.proofs.Common.{◌≡◌, ℕ, ℤ, List, [], ◌∷◌, ◌++◌, map, Bool, true, false, ap, sym, ◌∙◌, refl, subst, append-nil, append_assoc, cond}
use Rattle.oc_io.specs.declared.period.Period.{Period}
use Rattle.oc_tree.specs.Said.{Told}
use Rattle.oc_tree.specs.declared.said.Said.{Said}
use Rattle.oc_tree.specs.declared.said.Said.TheVariants.{Off, Dark, Ended}
use Rattle.oc_tree.specs.declared.said.Ending.TheVariants.{Halted, Trapped}
use Rattle.oc_tree.specs.declared.said.TrapKind.{TrapKind}
use Rattle.oc_isa.specs.declared.phase.Phase.{Phase}
use Rattle.oc_isa.specs.declared.phase.Phase.TheVariants.{Over, Lost}
use Rattle.oc_isa.specs.Image.{Parts}
use Rattle.oc_isa.specs.Power.{World, power_run}
use Rattle.oc_isa.specs.Table.{device_of}
use Rattle.oc_items.specs.Text.{report_text, nv_lines, is_over, ends}
use Rattle.oc_items.specs.Told.{item_of}
use Rattle.oc_machine.specs.Telling.{stop_of}
use Rattle.oc_machine.specs.declared.stop.Stop.{Stop}
use Rattle.oc_machine.specs.declared.stop.Stop.TheVariants as stops
use Rattle.oc_outage.specs.Honest.{IsLeft}
use Rattle.oc_items.specs.Reports.{EndsWith}
use Rattle.oc_outage.proofs.Lasting.{last_item}
use Rattle.oc_io.specs.Faults.{Rose, TookPart}
use Rattle.oc_io.proofs.Going.{Both}
use Rattle.oc_sensors.specs.declared.sensors.Row.{Row}
use Rattle.oc_sensors.specs.History.{history}
use Rattle.oc_report.specs.Runs.{runs, says}
use Rattle.oc_command.specs.Sinks.{writes}
use Rattle.oc_report.specs.Written.{IsWritten, in_part}
use Rattle.oc_report.proofs.Writing.{Stays, flushed_written, same_written, written_after}
use Rattle.oc_report.specs.Reports.{answer_of, text_of}
use Rattle.oc_command.specs.declared.answer.Answer.{Answer}
use Rattle.oc_command.specs.declared.answer.Answer.TheVariants as answer

-- ---- the last item

over_of : (before : List Told) (t : Told) → is_over (map item_of (before ++ t ∷ [])) ≡ ends (item_of t)
over_of [] t = refl
over_of (u ∷ []) t = refl
over_of (u ∷ v ∷ rest) t = over_of (v ∷ rest) t

pub over_is : (report : List Told) (s : Said) (b : Bool) → EndsWith report s → ((tick : ℕ) → ends (item_of (record { tick = tick; said = s })) ≡ b) → is_over (map item_of report) ≡ b
over_is report s b e h = ap (λ (r : List Told). is_over (map item_of r)) e.2 ∙ over_of e.0 _ ∙ h e.1

module _ (parts : Parts) (h : ℕ → ℕ → ℤ) (periods : List Period) where
  abbrev world : World
  world = power_run (device_of parts) h periods

  -- ---- the text

  abbrev lines : List ℕ
  lines = report_text parts.names (map item_of world.report)

  abbrev variables : List ℕ
  variables = nv_lines parts.names (map (λ v. v.words) parts.nv) world.state.nv

  -- the run is over with this answer
  abbrev is_over_with : Answer → Bool
  is_over_with answer.End = true
  is_over_with answer.Trapped = true
  is_over_with other = false

  over_in : (phase : Phase) → IsLeft phase world.report → is_over (map item_of world.report) ≡ is_over_with (answer_of phase)
  over_in (Over Halted) l = over_is world.report (Ended Halted) true l (λ tick. refl)
  over_in (Over (Trapped kind site)) l = over_is world.report (Ended (Trapped kind site)) true l (λ tick. refl)
  over_in Lost l = over_is world.report (Off l.0) false l.1 (λ tick. refl)
  over_in phase l = over_is world.report Dark false l (λ tick. refl)

  pub text_is : text_of parts world ≡ lines ++ cond (is_over_with (answer_of world.state.phase)) variables []
  text_is = ap (λ (b : Bool). lines ++ cond b variables []) (over_in world.state.phase (last_item (device_of parts) h periods))

-- ---- what is written

module _ {S : Type 0} (took : S → List ℕ → S → Type 0) (held : S → List ℕ) (faults : S → ℕ) (both : Both took) (parts : Parts) (rows : List Row) (periods : List Period) where
  abbrev run : World
  run = world parts (history rows) periods

  abbrev text : List ℕ
  text = lines parts (history rows) periods

  -- the answer and the text by how the machine stopped
  abbrev stop_answer : Stop → Answer
  stop_answer stops.End = answer.End
  stop_answer (stops.Trap kind site) = answer.Trapped
  stop_answer stops.Dark = answer.Dark
  stop_answer stops.WriteFault = answer.WriteFault
  stop_answer (stops.Cut period) = answer.Cut

  stop_at : (count : ℕ) (phase : Phase) → stop_answer (stop_of count phase) ≡ answer_of phase
  stop_at count (Over Halted) = refl
  stop_at count (Over (Trapped kind site)) = refl
  stop_at count Lost = refl
  stop_at count phase = refl

  stopped_at : (stop : Stop) (count : ℕ) → stop ≡ stop_of count run.state.phase → stop_answer stop ≡ answer_of run.state.phase
  stopped_at stop count e = ap stop_answer e ∙ stop_at count run.state.phase

  as_run : (a c : S) (x end : Answer) → x ≡ answer_of run.state.phase
      → IsWritten (writes took held faults a c) (says x (text ++ cond (is_over_with parts (history rows) periods x) (variables parts (history rows) periods) [])) end
      → IsWritten (writes took held faults a c) (runs parts rows periods) end
  as_run a c x end e w = same_written _ _ (runs parts rows periods) end e
      (ap (λ (z : Answer). text ++ cond (is_over_with parts (history rows) periods z) (variables parts (history rows) periods) []) e ∙ sym (text_is parts (history rows) periods)) w

  pub ended_written : (a b c : S) (count : ℕ) (end : Answer) → stops.End ≡ stop_of count run.state.phase → faults b ≡ faults a → took a text b
      → IsWritten (writes took held faults b c) (says answer.End (variables parts (history rows) periods)) end
      → IsWritten (writes took held faults a c) (runs parts rows periods) end
  ended_written a b c count end e calm t w = as_run a c answer.End end (stopped_at stops.End count e) (written_after took held faults both a b c text _ end calm t w)

  pub trapped_written : (a b c : S) (count : ℕ) (end : Answer) (kind : TrapKind) (site : ℕ) → stops.Trap kind site ≡ stop_of count run.state.phase → faults b ≡ faults a → took a text b
      → IsWritten (writes took held faults b c) (says answer.Trapped (variables parts (history rows) periods)) end
      → IsWritten (writes took held faults a c) (runs parts rows periods) end
  trapped_written a b c count end kind site e calm t w = as_run a c answer.Trapped end (stopped_at (stops.Trap kind site) count e) (written_after took held faults both a b c text _ end calm t w)

  flushed_run : (a b c : S) (x end : Answer) → x ≡ answer_of run.state.phase → is_over_with parts (history rows) periods x ≡ false
      → faults b ≡ faults a → took a text b → took b [] c → Stays x end (held c) (faults b) (faults c) → IsWritten (writes took held faults a c) (runs parts rows periods) end
  flushed_run a b c x end e no_more calm t n s =
      let whole_text : text ≡ text ++ cond (is_over_with parts (history rows) periods x) (variables parts (history rows) periods) [] = rw no_more (sym (append-nil text)) in
      as_run a c x end e (subst (λ (u : List ℕ). IsWritten (writes took held faults a c) (says x u) end) whole_text
      (flushed_written took held faults both a b c x end text calm t n s))

  pub dark_written : (a b c : S) (count : ℕ) (end : Answer) → stops.Dark ≡ stop_of count run.state.phase → faults b ≡ faults a → took a text b → took b [] c
      → Stays answer.Dark end (held c) (faults b) (faults c) → IsWritten (writes took held faults a c) (runs parts rows periods) end
  dark_written a b c count end e = flushed_run a b c answer.Dark end (stopped_at stops.Dark count e) refl

  pub cut_written : (a b c : S) (count period : ℕ) (end : Answer) → stops.Cut period ≡ stop_of count run.state.phase → faults b ≡ faults a → took a text b → took b [] c
      → Stays answer.Cut end (held c) (faults b) (faults c) → IsWritten (writes took held faults a c) (runs parts rows periods) end
  cut_written a b c count period end e = flushed_run a b c answer.Cut end (stopped_at (stops.Cut period) count e) refl

  abbrev rest : List ℕ
  rest = cond (is_over (map item_of run.report)) (variables parts (history rows) periods) []

  -- a part of the items' lines is a part of the text
  pub part_written : (a c : S) (end : Answer) → end ≡ answer.WriteFault → Rose (faults a) (faults c) → TookPart took a text c → IsWritten (writes took held faults a c) (runs parts rows periods) end
  part_written a c end e rose p =
      in_part e (record { rose = rose; front = p.front; back = p.back ++ rest; split = ap (λ (t : List ℕ). t ++ rest) p.split ∙ append_assoc p.front p.back rest; taken = p.taken })
