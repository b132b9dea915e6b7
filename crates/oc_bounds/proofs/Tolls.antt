-- The steps of a run without outages, from its instructions and from the regions that it says it enters.
use Rattle.std.proofs.Common.{◌≡◌, ◌≤◌, ◌+◌, ◌-◌, ℕ, zero, suc, ℤ, max, List, [], ◌∷◌, ◌++◌, Option, Some, None, refl, subst, arith, true}
use Rattle.std.proofs.lemmas.List.Elements.{All-cons, All-nil}
use Rattle.oc_tree.specs.Word.{is_word}
use Rattle.oc_tree.specs.declared.said.Said.{Said}
use Rattle.oc_tree.specs.declared.said.Said.TheVariants.{Sensed, Showed, Entered, Committed, Aborted, Off, Dark, Ended}
use Rattle.oc_tree.specs.declared.said.Shown.{Shown}
use Rattle.oc_isa.specs.Next.{Regs, Next, Goes, Senses, Enters, Commits, Ends, Stuck, Device, pushed, written}
use Rattle.oc_isa.specs.Run.{Core, core_at, start_of, Onward, AreWords, then_shown, then_entered, run_sense, run_commit, follow, run_on, continuous_run}
use Rattle.oc_bounds.specs.Bounds.{Bounds, Takes, opens, goes_on_commit, takes_next, enter_steps}
use Rattle.oc_bounds.proofs.Lasting.{Lasts, lasts_next}

abbrev IsWord : ℤ → Type 0
IsWord x = is_word x ≡ true

-- ---- what is paid for entries: `toll r` for one of region r

module _ (toll : ℕ → ℕ) where
  abbrev pub said_toll : Said → ℕ
  said_toll (Sensed sensor value) = 0
  said_toll (Showed what) = 0
  said_toll (Entered r) = toll r
  said_toll (Committed r) = 0
  said_toll (Aborted r) = 0
  said_toll (Off ticks) = 0
  said_toll Dark = 0
  said_toll (Ended how) = 0

  abbrev pub tolls : List Said → ℕ
  tolls [] = 0
  tolls (s ∷ out) = said_toll s + tolls out

  pub tolls-last : (out : List Said) (s : Said) → tolls (out ++ s ∷ []) ≡ tolls out + said_toll s
  tolls-last [] s = omega arith
  tolls-last (x ∷ out) s = omega (arith, tolls-last out s)

  free : (out : List Said) (s : Said) → said_toll s ≡ 0 → tolls (out ++ s ∷ []) ≡ tolls out
  free out s e = omega (arith, tolls-last out s, e)

  shown_free : (out : List Said) (o : Option Shown) → tolls (then_shown out o) ≡ tolls out
  shown_free out None = refl
  shown_free out (Some what) = free out (Showed what) refl

  -- ---- what was paid is paid still
  abbrev Adds : Onward → Type 0
  Adds go = (xs : List ℤ) (c : Core) (out : List Said) → tolls out ≤ tolls (go xs c out).out

  adds_sense : (xs : List ℤ) (s : ℕ) (to : Regs) (c : Core) (out : List Said) (go : Onward) → Adds go → tolls out ≤ tolls (run_sense xs s to c out go).out
  adds_sense [] s to c out go f = omega arith
  adds_sense (x ∷ xs) s to c out go f = omega (arith, f xs (core_at (pushed to x) c.depth c.nv) (out ++ Sensed s x ∷ []), free out (Sensed s x) refl)

  entered_adds : (out : List Said) (depth r : ℕ) → tolls out ≤ tolls (then_entered out depth r)
  entered_adds out zero r = omega (arith, tolls-last out (Entered r))
  entered_adds out (suc k) r = omega arith

  adds_commit : (depth r : ℕ) (to : Regs) (xs : List ℤ) (c : Core) (out : List Said) (go : Onward) → Adds go → tolls out ≤ tolls (run_commit depth r to xs c out go).out
  adds_commit zero r to xs c out go f = omega arith
  adds_commit (suc zero) r to xs c out go f = omega (arith, f xs (core_at to 0 c.nv) (out ++ Committed r ∷ []), free out (Committed r) refl)
  adds_commit (suc (suc k)) r to xs c out go f = f xs (core_at to (suc k) c.nv) out

  adds_next : (x : Next) (xs : List ℤ) (c : Core) (out : List Said) (go : Onward) → Adds go → tolls out ≤ tolls (follow x xs c out go).out
  adds_next (Goes to w sh) xs c out go f = omega (arith, f xs (core_at to c.depth (written w c.nv)) (then_shown out sh), shown_free out sh)
  adds_next (Senses s to) xs c out go f = adds_sense xs s to c out go f
  adds_next (Enters r to) xs c out go f = omega (arith, f xs (core_at to (suc c.depth) c.nv) (then_entered out c.depth r), entered_adds out c.depth r)
  adds_next (Commits r to) xs c out go f = adds_commit c.depth r to xs c out go f
  adds_next (Ends how) xs c out go f = omega (arith, free out (Ended how) refl)
  adds_next Stuck xs c out go f = omega arith

  -- ---- more is paid in more instructions
  abbrev Pays : Onward → Onward → Type 0
  Pays go further = (xs : List ℤ) (c : Core) (out : List Said) → tolls (go xs c out).out ≤ tolls (further xs c out).out

  pays_sense : (xs : List ℤ) (s : ℕ) (to : Regs) (c : Core) (out : List Said) (go further : Onward) → Pays go further
      → tolls (run_sense xs s to c out go).out ≤ tolls (run_sense xs s to c out further).out
  pays_sense [] s to c out go further f = omega arith
  pays_sense (x ∷ xs) s to c out go further f = f xs (core_at (pushed to x) c.depth c.nv) (out ++ Sensed s x ∷ [])

  pays_commit : (depth r : ℕ) (to : Regs) (xs : List ℤ) (c : Core) (out : List Said) (go further : Onward) → Pays go further
      → tolls (run_commit depth r to xs c out go).out ≤ tolls (run_commit depth r to xs c out further).out
  pays_commit zero r to xs c out go further f = omega arith
  pays_commit (suc zero) r to xs c out go further f = f xs (core_at to 0 c.nv) (out ++ Committed r ∷ [])
  pays_commit (suc (suc k)) r to xs c out go further f = f xs (core_at to (suc k) c.nv) out

  pays_next : (x : Next) (xs : List ℤ) (c : Core) (out : List Said) (go further : Onward) → Pays go further → tolls (follow x xs c out go).out ≤ tolls (follow x xs c out further).out
  pays_next (Goes to w sh) xs c out go further f = f xs (core_at to c.depth (written w c.nv)) (then_shown out sh)
  pays_next (Senses s to) xs c out go further f = pays_sense xs s to c out go further f
  pays_next (Enters r to) xs c out go further f = f xs (core_at to (suc c.depth) c.nv) (then_entered out c.depth r)
  pays_next (Commits r to) xs c out go further f = pays_commit c.depth r to xs c out go further f
  pays_next (Ends how) xs c out go further f = omega arith
  pays_next Stuck xs c out go further f = omega arith

  module _ (d : Device) where
    adds : (n : ℕ) → Adds (run_on d n)
    adds zero xs c out = omega arith
    adds (suc n) xs c out = adds_next (d.next c.regs c.nv) xs c out (run_on d n) (λ xs c out. adds n xs c out)

    pays : (n j : ℕ) → n ≤ j → Pays (run_on d n) (run_on d j)
    pays zero j le xs c out = adds j xs c out
    pays (suc n) zero le xs c out = absurd (omega (arith, le))
    pays (suc n) (suc j) le xs c out = pays_next (d.next c.regs c.nv) xs c out (run_on d n) (run_on d j) (λ xs c out. pays n j (omega (arith, le)) xs c out)

-- ---- the steps of n instructions, where what is paid beside them is what entries cost

module _ (d : Device) (b : Bounds) where
  abbrev pub toll : ℕ → ℕ
  toll r = 3 + d.room + b.logged r

  abbrev Takes_at : ℕ → Type 0
  Takes_at n = (t : ℕ) (c : Core) (out : List Said) → ((xs : List ℤ) → AreWords xs → tolls toll (run_on d n xs c out).out ≤ tolls toll out + t) → Lasts d b n c → Takes d b n (n + t) c

  behind : (n t : ℕ) (c : Core) → Takes d b n (n + t) c → Takes d b n (suc n + t - 1) c
  behind n t c h = let e : n + t ≡ suc n + t - 1 = omega arith in subst (λ u. Takes d b n u c) e h

  enters_by : (depth n t r : ℕ) (to : Regs) (nv : List ℤ) (out : List Said) → Takes_at n
      → ((xs : List ℤ) → AreWords xs → tolls toll (run_on d n xs (core_at to (suc depth) nv) (then_entered out depth r)).out ≤ tolls toll out + t)
      → opens d b depth r (core_at to (suc depth) nv) × Lasts d b n (core_at to (suc depth) nv)
      → (enter_steps d b depth r ≤ suc n + t) × opens d b depth r (core_at to (suc depth) nv) × Takes d b n (suc n + t - enter_steps d b depth r) (core_at to (suc depth) nv)
  enters_by zero n t r to nv out f h l =
      let inside : Core = core_at to 1 nv in
      let told : List Said = out ++ Entered r ∷ [] in
      let last : tolls toll told ≡ tolls toll out + (3 + d.room + b.logged r) = tolls-last toll out (Entered r) in
      let some : 3 + d.room + b.logged r ≤ t = omega (arith, last, adds toll d n [] inside told, h [] (All-nil IsWord)) in
      let e : n + (t - (3 + d.room + b.logged r)) ≡ suc n + t - (4 + d.room + b.logged r) = omega (arith, some) in
      (omega (arith, some), l.0, subst (λ u. Takes d b n u inside) e (f (t - (3 + d.room + b.logged r)) inside told (λ xs ws. omega (arith, h xs ws, last, some)) l.1))
  enters_by (suc k) n t r to nv out f h l = (omega arith, l.0, behind n t (core_at to (suc (suc k)) nv) (f t (core_at to (suc (suc k)) nv) out h l.1))

  commits_by : (depth n t r : ℕ) (to : Regs) (c : Core) (out : List Said) → Takes_at n
      → ((xs : List ℤ) → AreWords xs → tolls toll (run_commit depth r to xs c out (run_on d n)).out ≤ tolls toll out + t)
      → goes_on_commit depth to c (Lasts d b n) → goes_on_commit depth to c (Takes d b n (suc n + t - 1))
  commits_by zero n t r to c out f h l = l
  commits_by (suc zero) n t r to c out f h l =
      let same = tolls-last toll out (Committed r) in
      behind n t (core_at to 0 c.nv) (f t (core_at to 0 c.nv) (out ++ Committed r ∷ []) (λ xs ws. omega (arith, h xs ws, same)) l)
  commits_by (suc (suc k)) n t r to c out f h l = behind n t (core_at to (suc k) c.nv) (f t (core_at to (suc k) c.nv) out h l)

  takes_by : (x : Next) (n t : ℕ) (c : Core) (out : List Said) → Takes_at n → ((xs : List ℤ) → AreWords xs → tolls toll (follow x xs c out (run_on d n)).out ≤ tolls toll out + t)
      → lasts_next d b x c (Lasts d b n) → takes_next d b x c (suc n + t) (Takes d b n)
  takes_by (Goes to w sh) n t c out f h l =
      let inside : Core = core_at to c.depth (written w c.nv) in
      let same = shown_free toll out sh in
      (omega arith, behind n t inside (f t inside (then_shown out sh) (λ xs ws. omega (arith, h xs ws, same)) l))
  takes_by (Senses s to) n t c out f h l = (
    omega arith,
    λ x w.
        let inside : Core = core_at (pushed to x) c.depth c.nv in
        let same = tolls-last toll out (Sensed s x) in
        behind n t inside (f t inside (out ++ Sensed s x ∷ []) (λ xs ws. omega (arith, h (x ∷ xs) (All-cons IsWord x xs w ws), same)) (l x w)),
  )
  takes_by (Enters r to) n t c out f h l = enters_by c.depth n t r to c.nv out f h l
  takes_by (Commits r to) n t c out f h l = (omega arith, commits_by c.depth n t r to c out f h l)
  takes_by (Ends how) n t c out f h l = omega arith
  takes_by Stuck n t c out f h l = absurd l

  takes_at : (n : ℕ) → Takes_at n
  takes_at zero t c out h l = absurd l
  takes_at (suc n) t c out h l = (l.0, takes_by (d.next c.regs c.nv) n t c out (λ t c out h l. takes_at n t c out h l) h l.1)

  -- what is said of a run, however long, tells what is paid in it
  pub takes_said : (t : ℕ) → Lasts d b b.total (start_of d)
      → ((xs : List ℤ) → AreWords xs → (m : ℕ) × ((n : ℕ) → m ≤ n → tolls toll (continuous_run d xs n).out ≤ t)) → Takes d b b.total (b.total + t) (start_of d)
  takes_said t l h = takes_at b.total t (start_of d) [] (λ xs ws. paid xs (h xs ws)) l
    where
      paid : (xs : List ℤ) → (m : ℕ) × ((n : ℕ) → m ≤ n → tolls toll (continuous_run d xs n).out ≤ t) → tolls toll (continuous_run d xs b.total).out ≤ 0 + t
      paid xs q =
          let long = max q.0 b.total in
          let few = q.1 long (omega arith) in
          omega (arith, pays toll d b.total long (omega arith) xs (start_of d) [], few)
