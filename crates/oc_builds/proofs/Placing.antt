-- Where the code of each function stands in the image of a program.
use Rattle.std.proofs.Common.{◌≡◌, ℕ, zero, suc, ◌+◌, ◌-◌, ◌<◌, ◌≤◌, Bool, true, false, List, [], ◌∷◌, ◌++◌, length, Some, refl, sym, ap, ◌∙◌, subst, ⊎_elim, inl, inr, arith, length-append}
use Rattle.std.proofs.Common.{append_assoc, append-nil, true≢false}
use Rattle.std.specs.Prelude.{slice_get, if◌then◌else◌, ◌⊎◌, codes}
use Rattle.std.specs.Str.{bytes_eq}
use Rattle.std.proofs.lemmas.Option.{none-some, same_Some}
use Rattle.std.proofs.lemmas.Slice.Eq.{bytes_eq-Decides}
use Rattle.oc_tree.specs.Names.{Text}
use Rattle.oc_tree.specs.Tree.{TFunction, TProgram}
use Rattle.oc_tree.specs.declared.said.Target.{Target}
use Rattle.oc_tree.specs.Marked.{TRegion}
use Rattle.oc_tree.specs.Rules.{is_main}
use Rattle.oc_isa.specs.declared.image.ImageFunction.{ImageFunction}
use Rattle.oc_isa.specs.declared.instr.Placed.{Placed}
use Rattle.oc_verify.specs.Rules.{end_at, next_entry, main_from, main_number}
use Rattle.oc_meaning.specs.Run.{function_named}
use Rattle.oc_code.specs.Code.{function_number, function_code, functions_code, image_function, image_functions, code_of}
use Rattle.oc_code.proofs.Whole.{name_eq_sym}
use Rattle.oc_builds.proofs.Reached.{Laid, get_before, get_behind}

-- ---- functions by their names

pub number_found : (fs : List TFunction) (x : Text) (f : TFunction) → function_named fs x ≡ Some f → slice_get fs (function_number fs x) ≡ Some f
number_found [] x f e = absurd (none-some f e)
number_found (g ∷ fs) x f e = by (bytes_eq x g.name) e (number_found fs x f)
  where
    by : (b : Bool) → (if b then Some g else function_named fs x) ≡ Some f → (function_named fs x ≡ Some f → slice_get fs (function_number fs x) ≡ Some f)
        → slice_get (g ∷ fs) (if b then 0 else suc (function_number fs x)) ≡ Some f
    by true h rest = h
    by false h rest = rest h

pub name_found : (fs : List TFunction) (x : Text) (f : TFunction) → function_named fs x ≡ Some f → x ≡ f.name
name_found [] x f e = absurd (none-some f e)
name_found (g ∷ fs) x f e = by (bytes_eq x g.name) refl e (name_found fs x f)
  where
    by : (b : Bool) → bytes_eq x g.name ≡ b → (if b then Some g else function_named fs x) ≡ Some f → (function_named fs x ≡ Some f → x ≡ f.name) → x ≡ f.name
    by true is h rest = (bytes_eq-Decides x g.name).0 is ∙ ap (λ k. k.name) (same_Some g f h)
    by false is h rest = rest h

module _ (p : TProgram) (regions : List TRegion) where
  abbrev fc : ℕ → TFunction → List Placed
  fc = function_code p regions

  main_is : (n at : ℕ) (fs : List TFunction) → main_from n (image_functions p regions at fs) ≡ n + function_number fs (codes "main")
  main_is n at [] = omega arith
  main_is n at (f ∷ fs) = by (is_main f.name) (bytes_eq (codes "main") f.name) (name_eq_sym f.name (codes "main")) (main_is (suc n) (at + length (fc at f)) fs)
    where
      rest : List ImageFunction
      rest = image_functions p regions (at + length (fc at f)) fs

      by : (b c : Bool) → b ≡ c → main_from (suc n) rest ≡ suc n + function_number fs (codes "main")
          → (if b then n else main_from (suc n) rest) ≡ n + (if c then 0 else suc (function_number fs (codes "main")))
      by true true e h = omega arith
      by false false e h = h ∙ omega arith
      by true false e h = absurd (true≢false e)
      by false true e h = absurd (true≢false (sym e))

  -- a function of the list, with its code among theirs
  pub record PlacedAt (at : ℕ) (fs : List TFunction) (i : ℕ) (f : TFunction) : Type 0 where
    pub entry : ℕ
    pub is : slice_get (image_functions p regions at fs) i ≡ Some (image_function p regions entry f)
    pub end : end_at (image_functions p regions at fs) (at + length (functions_code p regions at fs)) i ≡ entry + length (fc entry f)
    pub front : List Placed
    pub back : List Placed
    pub whole : functions_code p regions at fs ≡ front ++ (fc entry f ++ back)
    pub before : at + length front ≡ entry

  ends_at : (at : ℕ) (g : TFunction) (fs : List TFunction)
      → next_entry (image_functions p regions (at + length (fc at g)) fs) (at + length (fc at g ++ functions_code p regions (at + length (fc at g)) fs)) ≡ at + length (fc at g)
  ends_at at g [] = ap (λ c. at + length c) (append-nil (fc at g))
  ends_at at g (k ∷ fs) = refl

  abbrev first_placed : (at : ℕ) (g : TFunction) (fs : List TFunction) → PlacedAt at (g ∷ fs) 0 g
  first_placed at g fs = record { entry = at; is = refl; end = ends_at at g fs; front = []; back = functions_code p regions (at + length (fc at g)) fs; whole = refl; before = omega arith }

  later_size : (at : ℕ) (g : TFunction) (fs : List TFunction)
      → at + length (fc at g ++ functions_code p regions (at + length (fc at g)) fs) ≡ at + length (fc at g) + length (functions_code p regions (at + length (fc at g)) fs)
  later_size at g fs = omega (arith, length-append (fc at g) (functions_code p regions (at + length (fc at g)) fs))

  later_before : (at a b c e : ℕ) → c ≡ a + b → at + a + b ≡ e → at + c ≡ e
  later_before at a b c e h k = omega (arith, h, k)

  abbrev later : (at : ℕ) (g : TFunction) (fs : List TFunction) (i : ℕ) (f : TFunction) → PlacedAt (at + length (fc at g)) fs i f → PlacedAt at (g ∷ fs) (suc i) f
  later at g fs i f r =
      record {
        entry = r.entry;
        is = r.is;
        end = ap (λ n. end_at (image_functions p regions (at + length (fc at g)) fs) n i) (later_size at g fs) ∙ r.end;
        front = fc at g ++ r.front;
        back = r.back;
        whole = ap (λ c. fc at g ++ c) r.whole ∙ sym (append_assoc (fc at g) r.front (fc r.entry f ++ r.back));
        before = later_before at (length (fc at g)) (length r.front) (length (fc at g ++ r.front)) r.entry (length-append (fc at g) r.front) r.before;
      }

  placed_in : (at : ℕ) (fs : List TFunction) (i : ℕ) (f : TFunction) → slice_get fs i ≡ Some f → PlacedAt at fs i f
  placed_in at [] i f e = absurd (none-some f e)
  placed_in at (g ∷ fs) zero f e = subst (PlacedAt at (g ∷ fs) 0) (same_Some g f e) (first_placed at g fs)
  placed_in at (g ∷ fs) (suc i) f e = later at g fs i f (placed_in (at + length (fc at g)) fs i f e)

  -- each instruction stands in the code of a function
  pub record Covered (at : ℕ) (fs : List TFunction) (k : ℕ) (x : Placed) : Type 0 where
    pub number : ℕ
    pub function : TFunction
    pub there : slice_get fs number ≡ Some function
    pub placed : PlacedAt at fs number function
    pub place : ℕ
    pub is : at + k ≡ placed.entry + place
    pub found : slice_get (fc placed.entry function) place ≡ Some x

  pub covers : (at : ℕ) (fs : List TFunction) (k : ℕ) (x : Placed) → slice_get (functions_code p regions at fs) k ≡ Some x → Covered at fs k x
  covers at [] k x e = absurd (none-some x e)
  covers at (g ∷ fs) k x e = ⊎_elim
      (λ l. record {
        number = 0;
        function = g;
        there = refl;
        placed = first_placed at g fs;
        place = k;
        is = refl;
        found = sym (get_before (fc at g) (functions_code p regions q fs) k l) ∙ e;
      })
      (λ l. (let r = covers q fs (k - length (fc at g)) x (sym (get_behind (fc at g) (functions_code p regions q fs) k (k - length (fc at g)) (omega (arith, l))) ∙ e) in
      let is = r.is in
      record {
        number = suc r.number;
        function = r.function;
        there = r.there;
        placed = later at g fs r.number r.function r.placed;
        place = r.place;
        is = omega (arith, is, l);
        found = r.found;
      }))
      (less_or k (length (fc at g)))
    where
      q : ℕ
      q = at + length (fc at g)

      less_or : (a b : ℕ) → (a < b) ⊎ (b ≤ a)
      less_or zero zero = inr (omega arith)
      less_or zero (suc b) = inl (omega arith)
      less_or (suc a) zero = inr (omega arith)
      less_or (suc a) (suc b) = ⊎_elim (λ l. inl (omega (arith, l))) (λ l. inr (omega (arith, l))) (less_or a b)

-- where function i of the program stands in its image
pub record In (p : TProgram) (regions : List TRegion) (targets : List (List Target)) (i : ℕ) (f : TFunction) : Type 0 where
  pub entry : ℕ
  pub is : slice_get (code_of p regions targets).functions i ≡ Some (image_function p regions entry f)
  pub laid : Laid (code_of p regions targets) i entry (function_code p regions entry f)

pub laid_of : (p : TProgram) (regions : List TRegion) (targets : List (List Target)) (i : ℕ) (f : TFunction) (r : PlacedAt p regions 0 p.functions i f)
    → Laid (code_of p regions targets) i r.entry (function_code p regions r.entry f)
laid_of p regions targets i f r =
    let b = r.before in
    let size : 0 + length (functions_code p regions 0 p.functions) ≡ length (functions_code p regions 0 p.functions) = omega arith in
    record {
      home = image_function p regions r.entry f;
      is = r.is;
      entry = refl;
      end = ap (λ n. end_at (image_functions p regions 0 p.functions) n i) (sym size) ∙ r.end;
      front = r.front;
      back = r.back;
      whole = r.whole;
      before = omega (arith, b);
    }

pub function_in : (p : TProgram) (regions : List TRegion) (targets : List (List Target)) (i : ℕ) (f : TFunction) → slice_get p.functions i ≡ Some f → In p regions targets i f
function_in p regions targets i f e = let r = placed_in p regions 0 p.functions i f e in record { entry = r.entry; is = r.is; laid = laid_of p regions targets i f r }

pub main_numbered : (p : TProgram) (regions : List TRegion) (targets : List (List Target)) → main_number (code_of p regions targets) ≡ function_number p.functions (codes "main")
main_numbered p regions targets = main_is p regions 0 0 p.functions ∙ omega arith
