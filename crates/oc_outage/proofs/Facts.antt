-- The facts that hold between two steps.
use Rattle.std.proofs.Common.{◌≡◌, ℕ, zero, suc, ◌+◌, ◌-◌, ◌<◌, ◌≤◌, ℤ, List, [], ◌∷◌, ◌++◌, length, take, false}
use Rattle.std.specs.Prelude.{reverse}
use Rattle.oc_tree.specs.Said.{Told}
use Rattle.oc_tree.specs.declared.said.Said.TheVariants.{Entered}
use Rattle.oc_undo.specs.Undo.{undo}
use Rattle.oc_undo.specs.declared.Entry.{Entry}
use Rattle.oc_ckpt.specs.declared.AreaState.{AreaState}
use Rattle.oc_ckpt.specs.declared.AreaState.TheVariants.{Fresh, Open, Sealed, Armed}
use Rattle.oc_isa.specs.declared.phase.Phase.{Phase}
use Rattle.oc_isa.specs.declared.phase.Phase.TheVariants.{Waking, Undoing, Restoring, Running, Entering, Over, Lost}
use Rattle.oc_isa.specs.Next.{Regs, Enters, Device}
use Rattle.oc_isa.specs.Run.{core_at}
use Rattle.oc_isa.specs.Power.{State, Stepped, World, regs_of, words_of, with_said}
use Rattle.oc_items.specs.Erase.{erase, marked, kept_samples}
use Rattle.oc_outage.specs.Honest.{IsHonest, IsWhole}
use Rattle.oc_outage.specs.Kept.{Count}
use Rattle.oc_outage.proofs.Erasing.{item, ArePlain}
use Rattle.oc_outage.proofs.Growing.{inside}
use Rattle.oc_outage.proofs.Continues.{IsAt}
use Rattle.oc_outage.proofs.Words.{IsSaved}

abbrev pub state_at : Phase → ℕ → ℕ → ℕ → List ℤ → List ℤ → List Entry → AreaState → List ℤ → State
state_at phase pc fp depth stack nv log area words = record { phase = phase; pc = pc; fp = fp; depth = depth; stack = stack; nv = nv; log = log; area = area; words = words }

abbrev pub regs_at : ℕ → ℕ → List ℤ → Regs
regs_at pc fp stack = record { pc = pc; fp = fp; stack = stack }

module _ (d : Device) where
  -- outside a region: what is kept of the report leads to this state of the continuous run, in k instructions
  pub record IsSettled (report : List Told) (k made : ℕ) (regs : Regs) (nv : List ℤ) : Type 0 where
    pub within : k ≤ made
    pub at : IsAt d (kept_samples report) (marked report) k (core_at regs 0 nv)
    pub closed : inside false (erase report) ≡ false

  -- a region was entered with these registers after this report, and the log leads back there
  pub record IsEntry (report : List Told) (k made r : ℕ) (saved : Regs) (nv : List ℤ) (log : List Entry) : Type 0 where
    pub within : k ≤ made
    pub entry_nv : List ℤ
    pub undoes : undo log nv ≡ entry_nv
    pub at : IsAt d (kept_samples report) (marked report ++ Entered r ∷ []) k (core_at saved 1 entry_nv)
    pub closed : inside false (erase report) ≡ false

  -- inside an attempt of a region
  pub record IsAttempt (report : List Told) (c : Count) (made r : ℕ) (saved regs : Regs) (depth : ℕ) (nv : List ℤ) (log : List Entry) : Type 0 where
    pub before : List Told
    pub tick : ℕ
    pub body : List Told
    pub parts : report ≡ before ++ item tick (Entered r) ∷ body
    pub plain : ArePlain body
    pub entry : IsEntry before c.kept made r saved nv log
    pub within : c.kept + c.tried ≤ made
    pub at : IsAt d (kept_samples report) (marked report) (c.kept + c.tried) (core_at regs depth nv)

  -- whose registers the area holds, and of which region
  pub record Region (words : List ℤ) : Type 0 where
    pub saved : Regs
    pub is_saved : IsSaved words saved
    pub number : ℕ
    pub found : d.region saved.pc ≡ number

  -- so many words were restored
  pub record IsRestored (done pc fp : ℕ) (stack : List ℤ) (saved : Regs) : Type 0 where
    pub upto : done ≤ length (words_of saved)
    pub pc_is : 0 < done → pc ≡ saved.pc
    pub fp_is : 1 < done → fp ≡ saved.fp
    pub stack_is : 0 < done → stack ≡ reverse (take (done - 3) (reverse saved.stack))

  pub record IsSealed (report : List Told) (k made : ℕ) (nv words : List ℤ) : Type 0 where
    pub saved : Regs
    pub is_saved : IsSaved words saved
    pub settled : IsSettled report k made saved nv

  pub record IsRestoring (report : List Told) (k made done pc fp : ℕ) (stack nv words : List ℤ) : Type 0 where
    pub sealed : IsSealed report k made nv words
    pub restored : IsRestored done pc fp stack sealed.saved

  pub record IsWaking (report : List Told) (c : Count) (made : ℕ) (nv : List ℤ) (log : List Entry) (words : List ℤ) : Type 0 where
    pub region : Region words
    pub entry : IsEntry report c.kept made region.number region.saved nv log
    pub none : c.tried ≡ 0

  pub record IsUndoing (report : List Told) (c : Count) (made : ℕ) (nv : List ℤ) (log : List Entry) (words : List ℤ) (k : ℕ) : Type 0 where
    pub waking : IsWaking report c made nv log words
    pub short : k < length log
    pub rest : undo (take (suc k) log) nv ≡ waking.entry.entry_nv

  pub record IsUndone (report : List Told) (c : Count) (made done pc fp : ℕ) (stack nv : List ℤ) (log : List Entry) (words : List ℤ) : Type 0 where
    pub waking : IsWaking report c made nv log words
    pub same : nv ≡ waking.entry.entry_nv
    pub restored : IsRestored done pc fp stack waking.region.saved

  pub record IsRunning (report : List Told) (c : Count) (made : ℕ) (regs : Regs) (depth : ℕ) (nv : List ℤ) (log : List Entry) (words : List ℤ) : Type 0 where
    pub region : Region words
    pub attempt : IsAttempt report c made region.number region.saved regs depth nv log

  pub record IsEntering (report : List Told) (k made done : ℕ) (regs : Regs) (nv : List ℤ) (log : List Entry) (words : List ℤ) : Type 0 where
    pub settled : IsSettled report k made regs nv
    pub number : ℕ
    pub to : Regs
    pub next : d.next regs nv ≡ Enters number to
    pub empty : log ≡ []
    pub upto : done ≤ length (words_of to)
    pub saved : take done words ≡ take done (words_of to)

  -- a run that is over: the continuous run has taken k instructions
  pub record IsEnded (report : List Told) (k made : ℕ) (nv : List ℤ) : Type 0 where
    pub within : k ≤ made
    pub whole : IsWhole d k report nv

  -- a run that lost a checkpoint, with the registers that it had
  pub record IsLost (report : List Told) (k made : ℕ) (nv : List ℤ) : Type 0 where
    pub regs : Regs
    pub settled : IsSettled report k made regs nv

  abbrev pub OnFresh : Phase → State → List Told → Count → ℕ → Type 0
  OnFresh Waking s report c made = IsSettled report c.kept made d.start s.nv × (s.log ≡ [])
  OnFresh p s report c made = ⊥

  abbrev pub OnOpen : Phase → ℕ → State → List Told → Count → ℕ → Type 0
  OnOpen Running zero s report c made = IsSettled report c.kept made (regs_of s) s.nv × (s.log ≡ [])
  OnOpen (Entering done) depth s report c made = IsEntering report c.kept made done (regs_of s) s.nv s.log s.words
  OnOpen (Over how) depth s report c made = IsEnded report c.kept made s.nv
  OnOpen Lost depth s report c made = IsLost report c.kept made s.nv
  OnOpen p depth s report c made = ⊥

  abbrev pub OnSealed : Phase → State → List Told → Count → ℕ → Type 0
  OnSealed Waking s report c made = IsSealed report c.kept made s.nv s.words × (s.log ≡ [])
  OnSealed (Restoring done) s report c made = IsRestoring report c.kept made done s.pc s.fp s.stack s.nv s.words × (s.log ≡ [])
  OnSealed p s report c made = ⊥

  abbrev pub OnArmed : Phase → ℕ → State → List Told → Count → ℕ → Type 0
  OnArmed Waking depth s report c made = IsWaking report c made s.nv s.log s.words
  OnArmed (Undoing k) depth s report c made = IsUndoing report c made s.nv s.log s.words k
  OnArmed (Restoring done) depth s report c made = IsUndone report c made done s.pc s.fp s.stack s.nv s.log s.words
  OnArmed Running (suc depth) s report c made = IsRunning report c made (regs_of s) (suc depth) s.nv s.log s.words
  OnArmed (Over how) depth s report c made = IsEnded report c.kept made s.nv
  OnArmed p depth s report c made = ⊥

  -- exactly one fact for each state of the area
  abbrev pub Holds : AreaState → Phase → ℕ → State → List Told → Count → ℕ → Type 0
  Holds Fresh phase depth s report c made = OnFresh phase s report c made
  Holds Open phase depth s report c made = OnOpen phase depth s report c made
  Holds Sealed phase depth s report c made = OnSealed phase s report c made
  Holds Armed phase depth s report c made = OnArmed phase depth s report c made

  -- every prefix of the report is honest, for as many instructions as there were steps, or more
  pub record AreHonest (h : ℕ → ℕ → ℤ) (made : ℕ) (report : List Told) : Type 0 where
    pub each : (q rest : List Told) → q ++ rest ≡ report → (n : ℕ) → made ≤ n → IsHonest d h n q

  pub record IsGood (h : ℕ → ℕ → ℤ) (c : Count) (made : ℕ) (w : World) : Type 0 where
    pub holds : Holds w.state.area w.state.phase w.state.depth w.state w.report c made
    pub honest : AreHonest h made w.report
    pub sized : length w.state.words ≡ 3 + d.room

  -- what a step has to show, for the state that it leads to and what it says, with the count behind it
  abbrev pub Stays : (ℕ → ℕ → ℤ) → List Told → Count → ℕ → ℕ → Stepped → Type 0
  Stays h report c made t r = Holds r.state.area r.state.phase r.state.depth r.state (with_said report t r.said) c (suc made) × AreHonest h (suc made) (with_said report t r.said) ×
      (length r.state.words ≡ 3 + d.room)
