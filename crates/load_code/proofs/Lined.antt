-- The tasks of PROGRAM lines are those of their programs.
use Rattle.std.proofs.Common.{◌≡◌, ℕ, zero, suc, ◌+◌, ◌<◌, Bool, true, false, List, [], ◌∷◌, ◌++◌, map, take, length, get_or, slice_get, refl, sym, ap, ◌∙◌, subst, length-append, Option, Some, None, arith}
use Rattle.std.specs.Prelude.{option_and_then, find, bytes_eq, if◌then◌else◌}
use Rattle.std.proofs.lemmas.Option.{same_Some, slice_get_read, slice_get_within}
use Rattle.std.proofs.lemmas.Slice.Eq.{bytes_eq-Decides}
use Rattle.il_syntax.specs.declared.tree.ProgramLine.{ProgramLine}
use Rattle.il_syntax.specs.declared.tree.Unit.{Unit as ProgramUnit}
use Rattle.il_syntax.specs.declared.tree.Config.{Config}
use Rattle.il_statics.specs.Faults.{Broken, Declaring, Typing, Ordering, HasNoFault}
use Rattle.il_statics.specs.Names.{is_program, is_predeclared, program_named}
use Rattle.il_statics.specs.Written.{IsWritten}
use Rattle.base_maps.specs.NameMap.{Text}
use Rattle.il_semantics.specs.Scan.{program_of}
use Rattle.load_scope.specs.Views.{program_number}
use Rattle.load_scope.proofs.Filled.{take_next, take_all}
use Rattle.load_scope.proofs.Laws.{program_found}
use Rattle.il_semantics_laws.specs.Accepted.{IsAccepted}
use Rattle.il_semantics_laws.proofs.Lists.{found_in}
use Rattle.il_semantics_laws.proofs.Meant.{program_is}
use Rattle.load_code.specs.Laying.{has_frame, program_task}
use Rattle.load_slots.specs.Program.{program_names}
use Rattle.load_slots.specs.Layout.{AreOnce}
use Rattle.load_slots.proofs.Tasks.{cells_once}
use Rattle.load_slots.proofs.Globals.{globals_once}
use Rattle.load_code.specs.Tasks.{TaskLayout, IsTaskOf, AreGlobals, AreTasksOf, Belongs}
use Rattle.load_slots.specs.Whole.{unit_code}
use Rattle.load_slots.specs.declared.flat.UnitCode.{UnitCode}
use Rattle.load_code.proofs.Framed.{task_is}

pub task_there : (c o : Config) (units : List ProgramUnit) (at : ℕ) (u : ProgramUnit) (row framed : List Bool) (t : TaskLayout) → c ≡ o → units ≡ c.units → at < length units → u ≡ get_or units at u
    → ((p : ProgramUnit) → slice_get o.units at ≡ Some p → row ≡ map (has_frame o p) o.units) → framed ≡ row → (is_program u ≡ true → t ≡ program_task c u framed) → (p : ProgramUnit) → slice_get c.units at ≡ Some p → IsAccepted c p → IsTaskOf c p t
task_there c o units at u row framed t one units_are low is rows same made p found accepted =
    let here : slice_get units at ≡ Some u = slice_get_read units (length units) at u refl low is in
    let itself : u ≡ p = same_Some u p (sym here ∙ ap (λ xs. slice_get xs at) units_are ∙ found) in
    let frames : (p : ProgramUnit) → slice_get c.units at ≡ Some p → row ≡ map (has_frame c p) c.units = subst (λ (k : Config). (p : ProgramUnit) → slice_get k.units at ≡ Some p → row ≡ map (has_frame k p) k.units) (sym one) rows in
    task_is c p accepted framed t (same ∙ frames p found) (made (ap is_program itself ∙ (program_is c p.name.name p accepted.program).1) ∙ ap (λ w. program_task c w framed) itself)

pub none_there : (c : Config) (units : List ProgramUnit) (at : ℕ) (p : ProgramUnit) → units ≡ c.units → length units < at + 1 → slice_get c.units at ≡ Some p → ⊥
none_there c units at p same high found = let low : at < length units = slice_get_within units at p (ap (λ xs. slice_get xs at) same ∙ found) in omega (arith, low, high)

pub framed_many : (c o : Config) (row framed : List Bool) → c ≡ o → length row ≡ length o.units → framed ≡ row → length framed ≡ length c.units
framed_many c o row framed one many same = ap length same ∙ many ∙ ap (λ (k : Config). length k.units) (sym one)

-- LINES

pub line_there : (c : Config) (name q : Text) (at : ℕ) (p : ProgramUnit) → Some at ≡ program_number c q → q ≡ name → program_named c name ≡ Some p → slice_get c.units at ≡ Some p
line_there c name q at p number same named = ap (option_and_then (slice_get c.units)) number ∙ program_found c q ∙ ap (program_named c) same ∙ named

pub line_none : (c : Config) (name q : Text) (p : ProgramUnit) → None ≡ program_number c q → q ≡ name → program_named c name ≡ Some p → ⊥
line_none c name q p number same named = let wrong : None ≡ Some p = ap (option_and_then (slice_get c.units)) number ∙ program_found c q ∙ ap (program_named c) same ∙ named in cc

last_pair : {A B : Type 0} (R : A → B → Type 0) (xs : List A) (ys : List B) (x : A) (y : B) → length ys ≡ length xs → ((k : ℕ) (a : A) (b : B) → slice_get xs k ≡ Some a → slice_get ys k ≡ Some b → R a b) → R x y
    → (k : ℕ) (a : A) (b : B) → slice_get (xs ++ x ∷ []) k ≡ Some a → slice_get (ys ++ y ∷ []) k ≡ Some b → R a b
last_pair {A = A} {B = B} R [] [] x y size each last zero a b e f = subst (λ (v : A). R v b) (same_Some x a e) (subst (λ (w : B). R x w) (same_Some y b f) last)
last_pair R [] [] x y size each last (suc k) a b e f = cc
last_pair R [] (w ∷ ys) x y size each last k a b e f = absurd (let none : ⊥ = omega (arith, size) in none)
last_pair R (v ∷ xs) [] x y size each last k a b e f = absurd (let none : ⊥ = omega (arith, size) in none)
last_pair R (v ∷ xs) (w ∷ ys) x y size each last zero a b e f = each zero a b e f
last_pair R (v ∷ xs) (w ∷ ys) x y size each last (suc k) a b e f = last_pair R xs ys x y (omega (arith, size)) (λ i c d g h. each (suc i) c d g h) last k a b e f

abbrev IsLineTask : Config → ProgramLine → TaskLayout → Type 0
IsLineTask c l t = (p : ProgramUnit) → program_named c l.program.name ≡ Some p → IsAccepted c p → IsTaskOf c p t

more_tasks : (c : Config) (ls : List ProgramLine) (ts : List TaskLayout) (l : ProgramLine) (t : TaskLayout) → AreTasksOf c ls ts → IsLineTask c l t → AreTasksOf c (ls ++ l ∷ []) (ts ++ t ∷ [])
more_tasks c ls ts l t are last = record {
  count = length-append ts (t ∷ []) ∙ ap (λ n. n + 1) are.count ∙ sym (length-append ls (l ∷ []));
  each = λ k a b p e f. last_pair (IsLineTask c) ls ts l t are.count (λ i x y g h q. are.each i x y q g h) last k a b e f p;
}

pub tasks_next : (c : Config) (lines : List ProgramLine) (ts after : List TaskLayout) (i : ℕ) (l : ProgramLine) (t : TaskLayout) → i < length lines → l ≡ get_or lines i l → AreTasksOf c (take i lines) ts → after ≡ ts ++ t ∷ [] → IsLineTask c l t → AreTasksOf c (take (i + 1) lines) after
tasks_next c lines ts after i l t low is are grown last = subst (λ ls. AreTasksOf c ls after) (sym (take_next lines i l low is)) (subst (AreTasksOf c (take i lines ++ l ∷ [])) (sym grown) (more_tasks c (take i lines) ts l t are last))

pub tasks_none : (c : Config) (lines : List ProgramLine) (ts : List TaskLayout) → ts ≡ [] → AreTasksOf c (take 0 lines) ts
tasks_none c lines ts is = subst (AreTasksOf c (take 0 lines)) (sym is) (record { count = empty lines; each = λ k l t p e f. cc })
  where
    empty : (ls : List ProgramLine) → 0 ≡ length (take 0 ls)
    empty [] = refl
    empty (l ∷ ls) = refl

pub tasks_all : (c : Config) (lines : List ProgramLine) (i : ℕ) (ts : List TaskLayout) → length lines < i + 1 → AreTasksOf c (take i lines) ts → AreTasksOf c lines ts
tasks_all c lines i ts high are = subst (λ ls. AreTasksOf c ls ts) (take_all lines i high) are

-- THE CONTAINER

named_itself : (c : Config) (q : Text) (p : ProgramUnit) → program_named c q ≡ Some p → program_named c p.name.name ≡ Some p
named_itself c q p named = subst (λ name. program_named c name ≡ Some p) (by_test (is_predeclared c q) (program_is c q p named).0) named
  where
    by_test : (b : Bool) → (if b then None else find (λ u. bytes_eq u.name.name q) c.units) ≡ Some p → q ≡ p.name.name
    by_test true e = cc
    by_test false e = sym ((bytes_eq-Decides p.name.name q).0 (found_in (λ (w : ProgramUnit). bytes_eq w.name.name q) c.units p e).1)

pub belongs : (c : Config) (flat : List UnitCode) (ts : List TaskLayout) → IsWritten c → HasNoFault (Broken Declaring c) → HasNoFault (Broken Typing c) → HasNoFault (Broken Ordering c) → flat ≡ map (unit_code (program_names c) c) c.units → AreTasksOf c c.programs ts → Belongs c flat ts
belongs c flat ts written declared typed ordered units are = record {
  written = written;
  declared = declared;
  typed = typed;
  ordered = ordered;
  units = units;
  tasks = record { count = are.count; each = λ line t p e found. by_line line t p e (slice_get c.programs line) refl found };
}
  where
    by_line : (line : ℕ) (t : TaskLayout) (p : ProgramUnit) → slice_get ts line ≡ Some t → (o : Option ProgramLine) → slice_get c.programs line ≡ o → program_of c o ≡ Some p → IsTaskOf c p t
    by_line line t p e None at found = cc
    by_line line t p e (Some l) at found =
        are.each line l t p at e found (record { written = written; declared = declared; typed = typed; ordered = λ number place differs. ordered number place; program = named_itself c l.program.name p found })

-- no two slots of a task have one path
pub task_once : (c : Config) (flat : List UnitCode) (ts : List TaskLayout) → Belongs c flat ts → (o : Option ProgramLine) (t : TaskLayout) (p : ProgramUnit) → program_of c o ≡ Some p → IsTaskOf c p t → AreOnce t.cells
task_once c flat ts h None t p found is = cc
task_once c flat ts h (Some l) t p found is =
    subst AreOnce (sym is.cells) (cells_once c p (record { written = h.written; declared = h.declared; typed = h.typed; ordered = λ number place differs. h.ordered number place; program = named_itself c l.program.name p found }))

-- nor have two of the globals
pub shared_once : (c : Config) (flat : List UnitCode) (ts : List TaskLayout) → Belongs c flat ts → (t : TaskLayout) → AreGlobals c t → AreOnce t.cells
shared_once c flat ts h t are = subst AreOnce (sym are.cells) (globals_once c h.declared h.written)
