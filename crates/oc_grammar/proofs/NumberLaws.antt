-- A tree that tokens spell is numbered in order, and its declarations have their places.
use Rattle.std.proofs.Common.{◌≡◌, ℕ, suc, ◌+◌, ◌≤◌, List, [], ◌∷◌, ◌++◌, length, refl, sym, subst, ap, ◌∙◌, arith, flat_map, count_by, length-append, append_assoc, append-nil}
use Rattle.std.proofs.Common.{Bool, true, false, cond}
use Rattle.std.proofs.lemmas.List.Sums.{sum_by-append, sum_by-cons}
use Rattle.oc_tree.specs.Tree.{TKind, TElse, TStmt, TBlock, TStmts, TFunction, TProgram}
use Rattle.oc_tree.specs.Numbers.{numbers_on, kind_statements, else_statements, stmt_statements, block_statements, stmts_statements, kind_blocks, else_blocks, stmt_blocks}
use Rattle.oc_tree.specs.Numbers.{block_blocks, stmts_blocks, program_statements, program_blocks}
use Rattle.oc_tree.specs.Form.{Numbered, DeclaredInOrder, InForm, is_sensor, is_port, is_nv, is_function}
use Rattle.oc_lex.specs.Stands.{IsName}
use Rattle.oc_tree.specs.declared.tree.Decl.{Decl}
use Rattle.oc_grammar.specs.Limits.{Limits}
use Rattle.oc_grammar.specs.Lexemes.{Lexemes, LexemesInForm}
use Rattle.oc_grammar.specs.Statements.{SpellsSimple, let_right, let_fill, assigns, assigns_index, assigns_deref, calls, senses, emits, marks_fresh, marks_consistent, returns}
use Rattle.oc_grammar.specs.Statements.{Position, SpellsKind, simple, if_form, for_form, while_form, atomic_form, SpellsElse, without, otherwise, else_if, SpellsStmt, statement}
use Rattle.oc_grammar.specs.Statements.{SpellsBlock, braces, SpellsStmts, end, first}
use Rattle.oc_grammar.specs.Programs.{SpellsFunction, a_function, SpellsItem, sensor_item, port_item, nv_item, function_item, SpellsItems, no_item, an_item, SpellsProgram, empty_program}
use Rattle.oc_grammar.proofs.FormLaws.{program_spellable}
use Rattle.oc_grammar.proofs.NodeLaws.{nodes_within}

-- ---- numbers that follow each other, up to the next one

abbrev Run : ℕ → List ℕ → ℕ → Type 0
Run n [] next = n ≡ next
Run n (x ∷ xs) next = (x ≡ n) × Run (suc n) xs next

run_then : (n : ℕ) (xs : List ℕ) (m : ℕ) (ys : List ℕ) (next : ℕ) → Run n xs m → Run m ys next → Run n (xs ++ ys) next
run_then n [] m ys next e r = subst (λ (k : ℕ). Run k ys next) (sym e) r
run_then n (x ∷ xs) m ys next h r = (h.0, run_then (suc n) xs m ys next h.1 r)

run_numbers : (n : ℕ) (xs : List ℕ) (next : ℕ) → Run n xs next → xs ≡ numbers_on n (length xs)
run_numbers n [] next h = refl
run_numbers n (x ∷ xs) next h = ap (λ (k : ℕ). k ∷ xs) h.0 ∙ ap (λ (ks : List ℕ). n ∷ ks) (run_numbers (suc n) xs next h.1)

-- ---- statements and blocks

simple_none : {limits : Limits} {k : TKind} {from rest : Lexemes} → SpellsSimple limits k from rest → (kind_statements k ≡ []) × (kind_blocks k ≡ [])
simple_none (let_right d r) = (refl, refl)
simple_none (let_fill d o i s n c t) = (refl, refl)
simple_none (assigns i s r) = (refl, refl)
simple_none (assigns_index i o w c s r) = (refl, refl)
simple_none (assigns_deref o i s r) = (refl, refl)
simple_none (calls i o d s) = (refl, refl)
simple_none (senses k o i c s) = (refl, refl)
simple_none (emits k o i m w c s) = (refl, refl)
simple_none (marks_fresh k o i c s) = (refl, refl)
simple_none (marks_consistent k o i m n c s) = (refl, refl)
simple_none (returns k w s) = (refl, refl)

-- what stands between two places has their numbers
abbrev Between : List ℕ → List ℕ → Position → Position → Type 0
Between statements blocks p q = Run p.0 statements q.0 × Run p.1 blocks q.1

none_between : (ss bs : List ℕ) (n b : ℕ) → ss ≡ [] → bs ≡ [] → Run n ss n × Run b bs b
none_between ss bs n b e f = (subst (λ (xs : List ℕ). Run n xs n) (sym e) refl, subst (λ (xs : List ℕ). Run b xs b) (sym f) refl)

mutual
  kind_between : {limits : Limits} {room : ℕ} {k : TKind} {p q : Position} → SpellsKind limits room k p q → Between (kind_statements k) (kind_blocks k) p q
  kind_between (simple {n = n} {b = b} {k = k} d) = let e = simple_none d in none_between (kind_statements k) (kind_blocks k) n b e.0 e.1
  kind_between (if_form {n = n} {b = b} {t = t} {o = e} {p = p} {q = q} k c d o) =
      let a = block_between d in
      let f = else_between o in
      (run_then n (block_statements t) p.0 (else_statements e) q.0 a.0 f.0, run_then b (block_blocks t) p.1 (else_blocks e) q.1 a.1 f.1)
  kind_between (for_form k i n c r d t) = block_between t
  kind_between (while_form k c w i t) = block_between t
  kind_between (atomic_form {n = n} {b = b} {t = t} {p = p} k d) = let a = block_between d in (run_then n (block_statements t) p.0 [] p.0 a.0 refl, run_then b (block_blocks t) p.1 [] p.1 a.1 refl)

  else_between : {limits : Limits} {room : ℕ} {o : TElse} {p q : Position} → SpellsElse limits room o p q → Between (else_statements o) (else_blocks o) p q
  else_between without = (refl, refl)
  else_between (otherwise k t) = block_between t
  else_between (else_if {n = n} {b = b} {s = s} {p = p} k l d) =
      let a = stmt_between d in
      (run_then n (stmt_statements s) p.0 [] p.0 a.0 refl, (refl, run_then (suc b) (stmt_blocks s) p.1 [] p.1 a.1 refl))

  stmt_between : {limits : Limits} {room : ℕ} {s : TStmt} {p q : Position} → SpellsStmt limits room s p q → Between (stmt_statements s) (stmt_blocks s) p q
  stmt_between (statement d) = let a = kind_between d in ((refl, a.0), a.1)

  block_between : {limits : Limits} {room : ℕ} {t : TBlock} {p q : Position} → SpellsBlock limits room t p q → Between (block_statements t) (block_blocks t) p q
  block_between (braces s d) = let a = stmts_between d in (a.0, (refl, a.1))

  stmts_between : {limits : Limits} {room : ℕ} {ss : TStmts} {p q : Position} → SpellsStmts limits room ss p q → Between (stmts_statements ss) (stmts_blocks ss) p q
  stmts_between (end s) = (refl, refl)
  stmts_between (first {s = s} {ss = ss} {p = p} {q = q} {r = r} d e) =
      let a = stmt_between d in
      let f = stmts_between e in
      (run_then p.0 (stmt_statements s) q.0 (stmts_statements ss) r.0 a.0 f.0, run_then p.1 (stmt_blocks s) q.1 (stmts_blocks ss) r.1 a.1 f.1)

function_between : {limits : Limits} {f : TFunction} {p q : Position} → SpellsFunction limits f p q → Between (block_statements f.body) (block_blocks f.body) p q
function_between (a_function w i o ps r t) = block_between t

-- ---- the items of a program

flat_map-last : {A B : Type 0} (f : A → List B) (xs : List A) (y : A) → flat_map f xs ++ f y ≡ flat_map f (xs ++ y ∷ [])
flat_map-last f [] y = sym (append-nil (f y))
flat_map-last f (x ∷ xs) y = append_assoc (f x) (flat_map f xs) (f y) ∙ ap (λ zs. f x ++ zs) (flat_map-last f xs y)

abbrev ProgramBetween : TProgram → Position → Type 0
ProgramBetween p q = Run 1 (program_statements p) q.0 × Run 1 (program_blocks p) q.1

item_between : {limits : Limits} {p q : TProgram} {x y : Position} → SpellsItem limits p x q y → ProgramBetween p x → ProgramBetween q y
item_between (sensor_item w i s) h = h
item_between (port_item w i s) h = h
item_between (nv_item d) h = h
item_between (function_item {p = p} {f = f} {x = x} {y = y} d) h =
    let a = function_between d in
    let b = run_then 1 (program_statements p) x.0 (block_statements f.body) y.0 h.0 a.0 in
    let c = run_then 1 (program_blocks p) x.1 (block_blocks f.body) y.1 h.1 a.1 in (
      subst (λ (ns : List ℕ). Run 1 ns y.0) (flat_map-last (λ (g : TFunction). block_statements g.body) p.functions f) b,
      subst (λ (ns : List ℕ). Run 1 ns y.1) (flat_map-last (λ (g : TFunction). block_blocks g.body) p.functions f) c,
    )

items_numbered : {limits : Limits} {p r : TProgram} {x : Position} → SpellsItems limits p x r → ProgramBetween p x → Numbered r
items_numbered (no_item {p = p} {n = n} {b = b}) h = record { statements = run_numbers 1 (program_statements p) n h.0; blocks = run_numbers 1 (program_blocks p) b h.1 }
items_numbered (an_item d e) h = items_numbered e (item_between d h)

-- ---- declarations

and_none : (n : ℕ) → n + 0 ≡ n
and_none n = omega arith

count_last : (test : Decl → Bool) (ds : List Decl) (d : Decl) → count_by test (ds ++ d ∷ []) ≡ count_by test ds + cond (test d) 1 0
count_last test ds d =
    sum_by-append (λ (x : Decl). cond (test x) 1 0) ds (d ∷ [])
    ∙ ap (λ (n : ℕ). count_by test ds + n) (sum_by-cons (λ (x : Decl). cond (test x) 1 0) d [] ∙ and_none (cond (test d) 1 0))

-- one more of a kind, in both lists
grows : {A : Type 0} (test : Decl → Bool) (ds : List Decl) (d : Decl) (xs : List A) (x : A) → test d ≡ true → count_by test ds ≡ length xs → count_by test (ds ++ d ∷ []) ≡ length (xs ++ x ∷ [])
grows test ds d xs x e h =
    count_last test ds d
    ∙ ap (λ (b : Bool). count_by test ds + cond b 1 0) e
    ∙ ap (λ (n : ℕ). n + 1) h
    ∙ sym (length-append xs (x ∷ []))

-- one more of another kind
stays : (test : Decl → Bool) (ds : List Decl) (d : Decl) (n : ℕ) → test d ≡ false → count_by test ds ≡ n → count_by test (ds ++ d ∷ []) ≡ n
stays test ds d n e h = count_last test ds d ∙ ap (λ (b : Bool). count_by test ds + cond b 1 0) e ∙ and_none (count_by test ds) ∙ h

both : {A B : Type 0} (xs : List A) (x : A) (ys : List B) (y : B) → length xs ≡ length ys → length (xs ++ x ∷ []) ≡ length (ys ++ y ∷ [])
both xs x ys y h = length-append xs (x ∷ []) ∙ ap (λ (n : ℕ). n + 1) h ∙ sym (length-append ys (y ∷ []))

item_declared : {limits : Limits} {p q : TProgram} {x y : Position} → SpellsItem limits p x q y → DeclaredInOrder p → DeclaredInOrder q
item_declared (sensor_item {p = p} {x = x} w i s) h = record {
  sensors = grows (λ (d : Decl). is_sensor d.kind) p.order _ p.names.sensors x refl h.sensors;
  ports = stays (λ (d : Decl). is_port d.kind) p.order _ _ refl h.ports;
  nvs = stays (λ (d : Decl). is_nv d.kind) p.order _ _ refl h.nvs;
  functions = stays (λ (d : Decl). is_function d.kind) p.order _ _ refl h.functions;
  each_nv = h.each_nv;
}
item_declared (port_item {p = p} {x = x} w i s) h = record {
  sensors = stays (λ (d : Decl). is_sensor d.kind) p.order _ _ refl h.sensors;
  ports = grows (λ (d : Decl). is_port d.kind) p.order _ p.names.ports x refl h.ports;
  nvs = stays (λ (d : Decl). is_nv d.kind) p.order _ _ refl h.nvs;
  functions = stays (λ (d : Decl). is_function d.kind) p.order _ _ refl h.functions;
  each_nv = h.each_nv;
}
item_declared (nv_item {p = p} {x = x} {d = v} n) h = record {
  sensors = stays (λ (d : Decl). is_sensor d.kind) p.order _ _ refl h.sensors;
  ports = stays (λ (d : Decl). is_port d.kind) p.order _ _ refl h.ports;
  nvs = grows (λ (d : Decl). is_nv d.kind) p.order _ p.names.nvs x refl h.nvs;
  functions = stays (λ (d : Decl). is_function d.kind) p.order _ _ refl h.functions;
  each_nv = both p.nv v p.names.nvs x h.each_nv;
}
item_declared (function_item {p = p} {f = f} d) h = record {
  sensors = stays (λ (d : Decl). is_sensor d.kind) p.order _ _ refl h.sensors;
  ports = stays (λ (d : Decl). is_port d.kind) p.order _ _ refl h.ports;
  nvs = stays (λ (d : Decl). is_nv d.kind) p.order _ _ refl h.nvs;
  functions = grows (λ (d : Decl). is_function d.kind) p.order _ p.functions f refl h.functions;
  each_nv = h.each_nv;
}

items_declared : {limits : Limits} {p r : TProgram} {x : Position} → SpellsItems limits p x r → DeclaredInOrder p → DeclaredInOrder r
items_declared no_item h = h
items_declared (an_item d e) h = items_declared e (item_declared d h)

empty_declared : (line : ℕ) → DeclaredInOrder (empty_program line)
empty_declared line = record { sensors = refl; ports = refl; nvs = refl; functions = refl; each_nv = refl }

pub in_form : (limits : Limits) (ts : Lexemes) (p : TProgram) → SpellsProgram limits p ts → LexemesInForm ts → length ts ≤ 2097152 → InForm IsName p
in_form limits ts p d h few =
    let n = nodes_within limits ts p d in
    record {
      numbered = items_numbered d (refl, refl);
      spellable = program_spellable limits ts p d h;
      declared = items_declared d (empty_declared _);
      few_nodes = omega arith;
    }
