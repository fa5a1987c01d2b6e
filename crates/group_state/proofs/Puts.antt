-- Texts of lines, one after another.
use Rattle.std.proofs.Common.{◌≡◌, ℕ, zero, suc, ◌+◌, ◌≤◌, List, [], ◌∷◌, ◌++◌, length, take, refl, sym, ap, ap₂, ◌∙◌, append_assoc, append-nil, arith, Some, None, Option}
use Rattle.std.specs.Prelude.{flat_map, slice_get, option_and_then}
use Rattle.il_syntax.specs.declared.tree.Config.{Config}
use Rattle.il_syntax.specs.declared.tree.Unit.{Unit as ProgramUnit}
use Rattle.base_maps.specs.NameMap.{Text, get}
use Rattle.il_semantics.specs.declared.value.Value.{Value}
use Rattle.il_semantics.specs.Scan.{opening_variables}
use Rattle.il_semantics.specs.State.{Values}
use Rattle.load_slots.specs.declared.flat.Cell.{Cell}
use Rattle.load_slots.specs.Program.{own_cells}
use Rattle.group_spec.specs.Snapshot.{program_of}
use Rattle.group_spec.specs.World.{Group, TaskState, task_at}
use Rattle.trace_text.specs.Text.{text_of_lines}
use Rattle.trace_text.proofs.Texts.{text_append}
use Rattle.group_state.specs.Text.{changed_line, variables_lines, task_path, task_lines, tasks_lines}

-- one line
pub one_line : (old new line : List ℕ) → new ≡ old ++ (line ++ 10 ∷ []) → new ≡ old ++ text_of_lines (line ∷ [])
one_line old new line e = e ∙ ap (λ (t : List ℕ). old ++ t) (sym (append-nil (line ++ 10 ∷ [])))

-- a line that was put in two pieces, and then its line feed
pub ended_line : (old mid new line : List ℕ) → mid ≡ old ++ line → new ≡ mid ++ 10 ∷ [] → new ≡ old ++ text_of_lines (line ∷ [])
ended_line old mid new line e f = one_line old new line (f ∙ (ap (λ (t : List ℕ). t ++ 10 ∷ []) e ∙ append_assoc old line (10 ∷ [])))

-- lines, and then others
pub both_lines : (old mid new : List ℕ) (xs ys : List (List ℕ)) → mid ≡ old ++ text_of_lines xs → new ≡ mid ++ text_of_lines ys → new ≡ old ++ text_of_lines (xs ++ ys)
both_lines old mid new xs ys e f =
    f ∙ (ap (λ (t : List ℕ). t ++ text_of_lines ys) e ∙ (append_assoc old (text_of_lines xs) (text_of_lines ys) ∙ ap (λ (t : List ℕ). old ++ t) (sym (text_append xs ys))))

-- no line
pub no_lines : (old : List ℕ) → old ≡ old ++ text_of_lines []
no_lines old = sym (append-nil old)

pub same_lines : (old new : List ℕ) (xs ys : List (List ℕ)) → xs ≡ ys → new ≡ old ++ text_of_lines xs → new ≡ old ++ text_of_lines ys
same_lines old new xs ys e f = f ∙ ap (λ (ls : List (List ℕ)). old ++ text_of_lines ls) e

-- CELLS

take_cell : (cells : List Cell) (k m : ℕ) (cell : Cell) → slice_get cells k ≡ Some cell → m ≡ k + 1 → take m cells ≡ take k cells ++ cell ∷ []
take_cell [] k m cell at is = absurd (cc)
take_cell (x ∷ cells) zero m cell at is =
    let one : m ≡ 1 = omega (arith, is) in
    ap (λ n. take n (x ∷ cells)) one ∙ (let same : x ≡ cell = cc in ap (λ (c : Cell). c ∷ []) same)
take_cell (x ∷ cells) (suc k) m cell at is =
    let next : m ≡ suc (k + 1) = omega (arith, is) in
    ap (λ n. take n (x ∷ cells)) next ∙ ap (λ (cs : List Cell). x ∷ cs) (take_cell cells k (k + 1) cell at refl)

flat_append : {X Y : Type 0} (f : X → List Y) (xs : List X) (x : X) → flat_map f (xs ++ x ∷ []) ≡ flat_map f xs ++ f x
flat_append f [] x = append-nil (f x)
flat_append f (y ∷ xs) x = ap (λ ys. f y ++ ys) (flat_append f xs x) ∙ sym (append_assoc (f y) (flat_map f xs) (f x))

-- the lines of one cell more
pub variables_more :
    (path : Text → Text) (initial values : Values) (cells : List Cell) (k m : ℕ) (cell : Cell) → slice_get cells k ≡ Some cell → m ≡ k + 1
    → variables_lines path initial values (take m cells) ≡ variables_lines path initial values (take k cells) ++ changed_line (path cell.path) (get initial cell.path) (get values cell.path)
variables_more path initial values cells k m cell at is =
    ap (variables_lines path initial values) (take_cell cells k m cell at is)
    ∙ flat_append (λ (c : Cell). changed_line (path c.path) (get initial c.path) (get values c.path)) (take k cells) cell

pub all_taken : {X : Type 0} (xs : List X) (k : ℕ) → length xs ≤ k → take k xs ≡ xs
all_taken [] zero h = refl
all_taken [] (suc k) h = refl
all_taken (x ∷ xs) zero h = absurd (omega (arith, h))
all_taken (x ∷ xs) (suc k) h = ap (λ ys. x ∷ ys) (all_taken xs k (omega (arith, h)))

-- TASKS

-- the lines of some cells of a task
abbrev pub some_lines : Config → ℕ → Option ProgramUnit → Option TaskState → List Cell → List (List ℕ)
some_lines c t None task cells = []
some_lines c t (Some u) None cells = []
some_lines c t (Some u) (Some task) cells = variables_lines (task_path t) (opening_variables c u) task.variables cells

-- those of none
pub none_lines : (c : Config) (t : ℕ) (o : Option ProgramUnit) (x : Option TaskState) → some_lines c t o x [] ≡ []
none_lines c t None x = refl
none_lines c t (Some u) None = refl
none_lines c t (Some u) (Some task) = refl

-- those of one more
pub some_more :
    (c : Config) (t : ℕ) (u : ProgramUnit) (o : Option ProgramUnit) (x : Option TaskState) (cells : List Cell) (k m : ℕ) (cell : Cell) → o ≡ Some u → slice_get cells k ≡ Some cell → m ≡ k + 1
    → (first now : Option Value) → first ≡ get (opening_variables c u) cell.path → now ≡ option_and_then (λ (task : TaskState). get task.variables cell.path) x
    → some_lines c t o x (take m cells) ≡ some_lines c t o x (take k cells) ++ changed_line (task_path t cell.path) first now
some_more c t u None x cells k m cell is at next first now e f = absurd (cc)
some_more c t u (Some w) None cells k m cell is at next first now e f = ap (changed_line (task_path t cell.path) first) (sym f)
some_more c t u (Some w) (Some task) cells k m cell is at next first now e f =
    let same : w ≡ u = cc in
    ap (λ (v : ProgramUnit). variables_lines (task_path t) (opening_variables c v) task.variables (take m cells)) same
    ∙ (variables_more (task_path t) (opening_variables c u) task.variables cells k m cell at next
    ∙ ap₂ (λ (a b : List (List ℕ)). a ++ b) (ap (λ (v : ProgramUnit). variables_lines (task_path t) (opening_variables c v) task.variables (take k cells)) (sym same))
    (ap₂ (changed_line (task_path t cell.path)) (sym e) (sym f)))

-- all of them
pub task_whole : (c : Config) (t : ℕ) (u : ProgramUnit) (o : Option ProgramUnit) (x : Option TaskState) (cells : List Cell) → o ≡ Some u → cells ≡ own_cells c u → some_lines c t o x cells ≡ task_lines c t o x
task_whole c t u None x cells is own = refl
task_whole c t u (Some w) None cells is own = refl
task_whole c t u (Some w) (Some task) cells is own = let same : w ≡ u = cc in ap (variables_lines (task_path t) (opening_variables c w) task.variables) (own ∙ ap (own_cells c) (sym same))

-- the lines of the tasks before one, and its own
pub tasks_more : (c : Config) (g : Group) (a k m : ℕ) → m ≡ k + 1 → tasks_lines c g a m ≡ tasks_lines c g a k ++ task_lines c (a + k) (program_of c (a + k)) (task_at g (a + k))
tasks_more c g a zero m is =
    let one : m ≡ 1 = omega (arith, is) in
    let here : a ≡ a + 0 = omega arith in
    ap (tasks_lines c g a) one ∙ (append-nil (task_lines c a (program_of c a) (task_at g a)) ∙ ap (λ n. task_lines c n (program_of c n) (task_at g n)) here)
tasks_more c g a (suc k) m is =
    let next : m ≡ suc (k + 1) = omega (arith, is) in
    let here : (a + 1) + k ≡ a + suc k = omega arith in
    let own : List (List ℕ) = task_lines c a (program_of c a) (task_at g a) in
    ap (tasks_lines c g a) next ∙ (ap (λ (ls : List (List ℕ)). own ++ ls) (tasks_more c g (a + 1) k (k + 1) refl)
    ∙ (sym (append_assoc own (tasks_lines c g (a + 1) k) (task_lines c ((a + 1) + k) (program_of c ((a + 1) + k)) (task_at g ((a + 1) + k))))
    ∙ ap (λ n. (own ++ tasks_lines c g (a + 1) k) ++ task_lines c n (program_of c n) (task_at g n)) here))
