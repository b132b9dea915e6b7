-- What a sink with a book says of a piece.
use Rattle.std.proofs.Common.{◌≡◌, ℕ, List, [], ◌∷◌, ◌++◌, true, false, Bool, refl, sym, ap, ◌∙◌, append_assoc, subst}
use Rattle.oc_io.specs.Faults.{TookPart}
use Rattle.oc_tree.specs.Names.{NameLists, names_view}
use Rattle.oc_tree.specs.declared.name.Names.{Names}
use Rattle.oc_meters.specs.Passing.{Marks, marks_nothing, marks_both, not_failed}
use Rattle.oc_meters.specs.Reads.{Page, TakesBytes}

-- how the marks and the counts of faults change, the names stay, and while no call has failed the
-- book takes the bytes; a call that fails may leave out what is behind a front part of them, and
-- once one has failed it takes nothing
pub record Took (failed_old failed_new : Bool) (faults_old faults_new : ℕ)
    (names_old names_new : Names) (old : Page) (bytes : List ℕ) (new : Page) : Type 0 where
  pub marks : Marks failed_old failed_new faults_old faults_new
  pub names : names_new ≡ names_old
  pub taken : failed_new ≡ false → TakesBytes (names_view names_old) old bytes new
  pub front : TookPart (TakesBytes (names_view names_old)) old bytes new
  pub quiet : failed_old ≡ true → new ≡ old

-- two pieces one after the other are taken as one
pub takes_both : (names : NameLists) (a b c : Page) (x y : List ℕ) → TakesBytes names a x b
    → TakesBytes names b y c → TakesBytes names a (x ++ y) c
takes_both names a b c [] y p q = subst (λ (s : Page). TakesBytes names s y c) p q
takes_both names a b c (byte ∷ x) y p q = (p.0, p.1, takes_both names p.0 b c x y p.2 q)

-- no bytes change nothing
pub took_nothing : (failed : Bool) (faults : ℕ) (names : Names) (s : Page)
    → Took failed failed faults faults names names s [] s
took_nothing failed faults names s = record {
  marks = marks_nothing failed faults;
  names = refl;
  taken = λ e. refl;
  front = record { front = []; back = []; split = refl; taken = refl };
  quiet = λ e. refl;
}

-- a front part of the first bytes was taken, all of them where no call has failed by then, and then
-- one of those behind them
front_both : (names : NameLists) (failed : Bool) (a b c : Page) (x y : List ℕ)
    → TookPart (TakesBytes names) a x b → (failed ≡ false → TakesBytes names a x b)
    → TookPart (TakesBytes names) b y c → (failed ≡ true → c ≡ b)
    → TookPart (TakesBytes names) a (x ++ y) c
front_both names true a b c x y p whole q quiet = record {
  front = p.front;
  back = p.back ++ y;
  split = ap (λ (l : List ℕ). l ++ y) p.split ∙ append_assoc p.front p.back y;
  taken = subst (λ (s : Page). TakesBytes names a p.front s) (sym (quiet refl)) p.taken;
}
front_both names false a b c x y p whole q quiet = record {
  front = x ++ q.front;
  back = q.back;
  split = ap (λ (l : List ℕ). x ++ l) q.split ∙ sym (append_assoc x q.front q.back);
  taken = takes_both names a b c x q.front (whole refl) q.taken;
}

-- two pieces one after the other are one
pub took_both : (fa fb fc : Bool) (m n k : ℕ) (na nb nc : Names) (a : Page) (x : List ℕ) (b : Page)
    (y : List ℕ) (c : Page) → Took fa fb m n na nb a x b → Took fb fc n k nb nc b y c
    → Took fa fc m k na nc a (x ++ y) c
took_both fa fb fc m n k na nb nc a x b y c p q = record {
  marks = marks_both fa fb fc m n k p.marks q.marks;
  names = q.names ∙ p.names;
  taken = λ e. takes_both (names_view na) a b c x y (p.taken (not_failed fb fc q.marks.stays e))
      (subst (λ (s : Names). TakesBytes (names_view s) b y c) p.names (q.taken e));
  front = front_both (names_view na) fb a b c x y p.front p.taken
      (subst (λ (s : Names). TookPart (TakesBytes (names_view s)) b y c) p.names q.front) q.quiet;
  quiet = λ e. q.quiet (p.marks.stays e) ∙ p.quiet e;
}
