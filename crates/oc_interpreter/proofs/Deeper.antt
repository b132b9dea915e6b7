-- Calls, one level deeper.
use Rattle.std.proofs.Common.{◌≡◌, refl, sym, ap, ◌∙◌, ℕ, zero, suc, ◌-◌, List, Some, arith}
use Rattle.oc_tree.specs.Names.{Text}
use Rattle.oc_tree.specs.Tree.{TFunction, TProgram}
use Rattle.oc_tree.specs.Marked.{TRegion}
use Rattle.oc_meaning.specs.Store.{Store}
use Rattle.oc_meaning.specs.Exec.{Passed}
use Rattle.oc_meaning.specs.Run.{Frame, body_run, call_to, function_named, function_run, nv_env, with_params}

abbrev pub framed : TProgram → TFunction → List Passed → Store → Frame
framed p f ps σ = with_params f.params ps (record { env = nv_env 0 p.names.nvs; locals = σ.locals })

pub calls_deeper : (p : TProgram) (rs : List TRegion) (d : ℕ) (x : Text) (f : TFunction) (ps : List Passed) (σ : Store) → (d ≡ 0 → ⊥) → Some f ≡ function_named p.functions x
    → call_to p rs d x ps σ ≡ body_run p rs (call_to p rs (d - 1)) f (framed p f ps σ) σ
calls_deeper p rs zero x f ps σ h e = absurd (h refl)
calls_deeper p rs (suc d) x f ps σ h e =
    let less : d ≡ suc d - 1 = omega arith in
    ap (λ o. function_run p rs (call_to p rs d) o ps σ) (sym e) ∙ ap (λ d. body_run p rs (call_to p rs d) f (framed p f ps σ) σ) less
