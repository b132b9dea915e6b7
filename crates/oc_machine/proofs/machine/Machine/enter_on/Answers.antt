use Rattle.std.proofs.Common.{◌≡◌, ℕ, List, Option, None, ap, sym, ◌∙◌}
use Rattle.std.specs.Prelude.{slice_get}
use Rattle.oc_isa.specs.declared.instr.Placed.{Placed}
use Rattle.oc_isa.specs.Image.{Parts}
use Rattle.oc_isa.specs.Power.{Stepped, regs_of}
use Rattle.oc_machine.specs.Acting.{enter_in}
use Rattle.oc_machine.specs.Kept.{Running}
use Rattle.oc_machine.proofs.Entering.{stays}
use Rattle.oc_machine.proofs.machine.Machine.enter_on.Goals as goal

abbrev after : Running → Stepped → Running
after m r = record { parts = m.parts; state = r.state }

found : (parts p : Parts) (m : Running) (o : Option ℕ) (pc : ℕ) → p ≡ parts → parts ≡ m.parts → pc ≡ m.state.pc → o ≡ enter_in (slice_get p.code pc) → o ≡ enter_in (slice_get m.parts.code m.state.pc)
found parts p m o pc a b d e = e ∙ ap (λ (q : Parts). enter_in (slice_get q.code pc)) (a ∙ b) ∙ ap (λ n. enter_in (slice_get m.parts.code n)) d

pub returns-in-None-clause-state : goal.returns-in-None-clause-state
returns-in-None-clause-state c =
    let m = c.args.self.now in
    let e = found c.self.inside.image _ m None c.self.inside.pc c.raw.ensures.parts (ap (λ (v : Running). v.parts) c.self.view_is) (ap (λ (v : Running). v.state.pc) c.self.view_is)
    (c.in-None.ensures ∙ ap (λ (l : List Placed). enter_in (slice_get l c.self.inside.pc)) c.deref.ensures.value) in
    ap (after m) (sym (stays m.parts (regs_of m.state) m.state.nv c.args.done m.state (sym e)))

pub returns-in-None-clause-said : goal.returns-in-None-clause-said
returns-in-None-clause-said c =
    let m = c.args.self.now in
    let e = found c.self.inside.image _ m None c.self.inside.pc c.raw.ensures.parts (ap (λ (v : Running). v.parts) c.self.view_is) (ap (λ (v : Running). v.state.pc) c.self.view_is)
    (c.in-None.ensures ∙ ap (λ (l : List Placed). enter_in (slice_get l c.self.inside.pc)) c.deref.ensures.value) in
    ap (λ (r : Stepped). r.said) (sym (stays m.parts (regs_of m.state) m.state.nv c.args.done m.state (sym e)))
