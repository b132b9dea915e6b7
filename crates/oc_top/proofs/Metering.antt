-- What the meters of a run tell.
use Rattle.std.proofs.Common.{ℕ, ◌≡◌, refl, sym, subst, List, [], Option, Some}
use Rattle.oc_lex.specs.Limits.{source_limit}
use Rattle.oc_io.specs.declared.period.Period.{Period}
use Rattle.oc_sensors.specs.History.{Told}
use Rattle.oc_machine.specs.Kept.{Running}
use Rattle.oc_meters.specs.Tally.{Reading}
use Rattle.oc_command.specs.Commands.{Plan, report, run_limits}
use Rattle.oc_command.specs.Files.{AreFiles, Files, listed, names_of}
use Rattle.oc_command.specs.declared.answer.Answer.{Answer}
use Rattle.oc_command.specs.declared.answer.Answer.TheVariants as answer
use Rattle.oc_report.specs.Metered.{IsReported, read, unread}
use Rattle.oc_top.specs.Answers.{Call, Comes}
use Rattle.oc_top.specs.Steps.{IsReady, by_memory}
use Rattle.oc_top.proofs.Asking.{turned_down, was_metered}

-- the same call for an answer behind which no meters write
pub comes_alone : (c : Call) (told : List ℕ) (end other : Answer) → told ≡ [] → end ≡ other → Comes c [] other → Comes c told end
comes_alone c told end other none same h = subst (λ (t : List ℕ). Comes c t end) (sym none) (subst (λ (x : Answer). Comes c [] x) (sym same) h)

-- a run was written, and this is what its meters tell; or there was no memory to read with
pub was_read : (c : Call) (plan : Plan) (meters : Option (List Reading)) (asked : c.task ≡ Some (report plan meters)) (files : Files)
    (fetched : AreFiles c.shelf.holds c.words (run_limits source_limit) (listed files)) (all_asked : c.shelf.asked (names_of c.words (run_limits source_limit) 3))
    (machine : Running) (sensors : Told) (left : List Period) (ready : IsReady files plan machine sensors left) (told : List ℕ) (end : Answer)
    → IsReported machine.parts sensors.rows left meters c.out told end → Comes c told end
was_read c plan meters asked files fetched all_asked machine sensors left ready told end (unread e t u) =
    comes_alone c told end answer.Memory u e (turned_down c plan meters asked files fetched all_asked answer.Memory (by_memory refl) t)
was_read c plan meters asked files fetched all_asked machine sensors left ready told end (read w fits tells untold) =
    was_metered c plan meters asked files fetched all_asked machine sensors left ready end w told fits tells untold
