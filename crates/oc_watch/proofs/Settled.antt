-- A run that lasts n instructions at most is the same over any more of them.
use Rattle.std.proofs.Common.{◌≡◌, ◌≤◌, ◌∷◌, ℕ, zero, suc, ℤ, true, List, [], refl, arith}
use Rattle.std.proofs.lemmas.List.Elements.{All-head, All-tail}
use Rattle.oc_tree.specs.Word.{is_word}
use Rattle.oc_tree.specs.declared.said.Said.{Said}
use Rattle.oc_isa.specs.Next.{Regs, Next, Goes, Senses, Enters, Commits, Ends, Stuck, Device}
use Rattle.oc_isa.specs.Run.{Core, start_of, Onward, run_on, run_sense, run_commit, follow, AreWords, continuous_run}
use Rattle.oc_bounds.specs.Bounds.{Bounds, Claim, IsBounded, goes_on_commit, sampled}
use Rattle.oc_bounds.proofs.Lasting.{Lasts, lasts_next, lasts_whole}

abbrev IsWord : ℤ → Type 0
IsWord x = is_word x ≡ true

module _ (d : Device) (b : Bounds) where
  -- of what comes next, `go` and `on` are the same wherever the claim holds
  abbrev Same : Claim → Onward → Onward → Type 0
  Same claim go on = (xs : List ℤ) (c : Core) (out : List Said) → AreWords xs → claim c → go xs c out ≡ on xs c out

  same_commit : (claim : Claim) (go on : Onward) → Same claim go on → (depth r : ℕ) (to : Regs) (xs : List ℤ) (c : Core) (out : List Said) → AreWords xs → goes_on_commit depth to c claim
      → run_commit depth r to xs c out go ≡ run_commit depth r to xs c out on
  same_commit claim go on same zero r to xs c out w h = absurd h
  same_commit claim go on same (suc zero) r to xs c out w h = same xs _ _ w h
  same_commit claim go on same (suc (suc k)) r to xs c out w h = same xs _ _ w h

  same_sense : (claim : Claim) (go on : Onward) → Same claim go on → (s : ℕ) (to : Regs) (xs : List ℤ) (c : Core) (out : List Said) → AreWords xs → sampled to c claim
      → run_sense xs s to c out go ≡ run_sense xs s to c out on
  same_sense claim go on same s to [] c out w h = refl
  same_sense claim go on same s to (x ∷ xs) c out w h = same xs _ _ (All-tail IsWord x xs w) (h x (All-head IsWord x xs w))

  same_next : (claim : Claim) (go on : Onward) → Same claim go on → (next : Next) (xs : List ℤ) (c : Core) (out : List Said) → AreWords xs → lasts_next d b next c claim
      → follow next xs c out go ≡ follow next xs c out on
  same_next claim go on same (Goes to w shown) xs c out ws h = same xs _ _ ws h
  same_next claim go on same (Senses s to) xs c out ws h = same_sense claim go on same s to xs c out ws h
  same_next claim go on same (Enters r to) xs c out ws h = same xs _ _ ws h.1
  same_next claim go on same (Commits r to) xs c out ws h = same_commit claim go on same c.depth r to xs c out ws h
  same_next claim go on same (Ends how) xs c out ws h = refl
  same_next claim go on same Stuck xs c out ws h = refl

  settled : (n m : ℕ) → n ≤ m → Same (Lasts d b n) (run_on d m) (run_on d n)
  settled zero m le xs c out ws h = absurd h
  settled (suc n) zero le xs c out ws h = absurd (omega (arith, le))
  settled (suc n) (suc m) le xs c out ws h = same_next (Lasts d b n) (run_on d m) (run_on d n) (settled n m (omega (arith, le))) (d.next c.regs c.nv) xs c out ws h.1

pub run_settles : (d : Device) (b : Bounds) (xs : List ℤ) (n : ℕ) → IsBounded d b → AreWords xs → b.total ≤ n → continuous_run d xs n ≡ continuous_run d xs b.total
run_settles d b xs n bounded ws le = settled d b b.total n le xs (start_of d) [] ws (lasts_whole d b bounded)
