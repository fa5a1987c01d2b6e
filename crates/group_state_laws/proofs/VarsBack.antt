-- The lines of variables read back.
use Rattle.std.proofs.Common.{◌≡◌, ℕ, zero, suc, ◌+◌, Bool, true, false, List, [], ◌∷◌, ◌++◌, length, inl, inr, refl, sym, ap, ap₂, ◌∙◌, cond, subst, Some, None, Option, arith}
use Rattle.std.specs.Prelude.{slice_get, if◌then◌else◌}
use Rattle.std.specs.Ordering.{eq_by_cmp}
use Rattle.std.proofs.lemmas.Option.{same_Some}
use Rattle.base_maps.specs.NameMap.{Text, order, get, insert, get-insert, same_map}
use Rattle.base_maps.proofs.Texts.{same_text}
use Rattle.il_semantics.specs.declared.value.Value.{Value}
use Rattle.il_semantics.specs.State.{Values}
use Rattle.il_semantics.specs.Values.{IsOf}
use Rattle.load_slots.specs.declared.flat.Cell.{Cell}
use Rattle.load_slots.specs.Layout.{AreOnce}
use Rattle.load_slots.proofs.Kept.{itself}
use Rattle.trace_text.specs.Reading.{Without, IsOneLine}
use Rattle.trace_text.proofs.Bytes.{same_first}
use Rattle.group_state.specs.Text.{value_text, variable_line, has_value, changed_line, variables_lines, end_line}
use Rattle.group_state.specs.Variables.{IsOfVariable, IsAbsent, IsNarrow, SaysValue, IsChanged, reached, TakesVariables}
use Rattle.group_state.proofs.NextLines.{next_once}
use Rattle.group_state.proofs.Words.{same_value_is, same_value_itself, true_false}
use Rattle.group_state_laws.proofs.Lined.{lined, first_next, takes_first, without_by, value_without, variable_one, one_variable}

-- LINES THAT ARE OTHERS

-- no text with these lines has a line of the variable next, whatever comes after them
abbrev pub IsFree : Text → List (List ℕ) → Type 0
IsFree path lines = (rest : List ℕ) → IsAbsent path (lined lines rest)

free_first : (path line : List ℕ) (lines : List (List ℕ)) → IsOneLine line → ((word : List ℕ) → IsOfVariable path line word → ⊥) → IsFree path (line ∷ lines)
free_first path line lines one none rest other behind word next of =
    none word (subst (λ (l : List ℕ). IsOfVariable path l word) (next_once (lined (line ∷ lines) rest) other behind line (lined lines rest) next (first_next line lines rest one)).0 of)

-- the line of another variable
free_variable : (path other word : List ℕ) (lines : List (List ℕ)) → IsOneLine (variable_line other word) → Without 32 word → (path ≡ other → ⊥) → IsFree path (variable_line other word ∷ lines)
free_variable path other word lines one spaceless apart = free_first path (variable_line other word) lines one (λ own of. apart (sym (one_variable other path word own spaceless of.one_word of.spelled)))

no_end : (path word : List ℕ) → end_line ≡ variable_line path word → ⊥
unfolding variable_line
no_end path word e = let n : ◌≡◌ {A = ℕ} 69 86 = same_first _ _ _ _ e in omega (arith, n)

-- the last line
pub free_end : (path : List ℕ) (lines : List (List ℕ)) → IsFree path (end_line ∷ lines)
free_end path lines = free_first path end_line lines (without_by 10 end_line refl) (λ word of. no_end path word of.spelled)

-- VARIABLES

-- a variable has a value of its set, of 64 bits, and its path is on one line
pub record IsKept (path : Text → Text) (values : Values) (cell : Cell) : Type 0 where
  pub value : Value
  pub is : get values cell.path ≡ Some value
  pub of : IsOf cell.scalar value
  pub narrow : IsNarrow value
  pub one : IsOneLine (path cell.path)

-- so have all
abbrev pub AreKept : (Text → Text) → Values → List Cell → Type 0
AreKept path values cells = (k : ℕ) (cell : Cell) → slice_get cells k ≡ Some cell → IsKept path values cell

module _ (path : Text → Text) (initial values : Values) where
  abbrev lines : List Cell → List (List ℕ)
  lines cells = variables_lines path initial values cells

  module _ (cell : Cell) (cells : List Cell) (v : Value) (is : get values cell.path ≡ Some v) where
    here_is : lines (cell ∷ cells) ≡ (if has_value (get initial cell.path) v then [] else variable_line (path cell.path) (value_text v) ∷ []) ++ lines cells
    here_is = ap (λ o. changed_line (path cell.path) (get initial cell.path) o ++ lines cells) is

    -- no line of a variable that has its initial value
    same_lines : has_value (get initial cell.path) v ≡ true → lines (cell ∷ cells) ≡ lines cells
    same_lines same = here_is ∙ ap (λ b. (if b then [] else variable_line (path cell.path) (value_text v) ∷ []) ++ lines cells) same

    other_lines : has_value (get initial cell.path) v ≡ false → lines (cell ∷ cells) ≡ variable_line (path cell.path) (value_text v) ∷ lines cells
    other_lines other = here_is ∙ ap (λ b. (if b then [] else variable_line (path cell.path) (value_text v) ∷ []) ++ lines cells) other

  line_one : (cell : Cell) (h : IsKept path values cell) → IsOneLine (variable_line (path cell.path) (value_text h.value))
  line_one cell h = variable_one (path cell.path) (value_text h.value) h.one (value_without 10 (omega arith) h.value h.narrow)

  -- no line of some variables is one of another
  pub variables_free : (other : Text) (cells : List Cell) (tail : List (List ℕ)) → AreKept path values cells → ((k : ℕ) (x : Cell) → slice_get cells k ≡ Some x → other ≡ path x.path → ⊥) → IsFree other tail → IsFree other (lines cells ++ tail)
  variables_free other [] tail kept apart free = free
  variables_free other (cell ∷ cells) tail kept apart free =
      by (has_value (get initial cell.path) (kept 0 cell refl).value) refl (variables_free other cells tail (λ k. kept (suc k)) (λ k. apart (suc k)) free)
    where
      h : IsKept path values cell
      h = kept 0 cell refl

      by : (b : Bool) → has_value (get initial cell.path) h.value ≡ b → IsFree other (lines cells ++ tail) → IsFree other (lines (cell ∷ cells) ++ tail)
      by true same more = subst (λ (ls : List (List ℕ)). IsFree other (ls ++ tail)) (sym (same_lines cell cells h.value h.is same)) more
      by false changed more =
          subst (λ (ls : List (List ℕ)). IsFree other (ls ++ tail)) (sym (other_lines cell cells h.value h.is changed))
          (free_variable other (path cell.path) (value_text h.value) (lines cells ++ tail) (line_one cell h) (value_without 32 (omega arith) h.value h.narrow) (apart 0 cell refl))

  -- values on the way: those of cells that are left are initial, and all others are those to be reached
  pub record IsOnWay (to now : Values) (cells : List Cell) : Type 0 where
    pub others : (q : Text) → ((k : ℕ) (x : Cell) → slice_get cells k ≡ Some x → x.path ≡ q → ⊥) → get now q ≡ get to q
    pub left_are : (k : ℕ) (x : Cell) → slice_get cells k ≡ Some x → get now x.path ≡ get initial x.path

  initial_is : (o : Option Value) (v : Value) → has_value o v ≡ true → o ≡ Some v
  initial_is None v e = absurd (true_false false e refl)
  initial_is (Some w) v e = ap Some (same_value_is w v e)

  is_changed : (o : Option Value) (v : Value) → has_value o v ≡ false → o ≡ Some v → ⊥
  is_changed o v e same = true_false (has_value o v) (ap (λ x. has_value x v) same ∙ same_value_itself v) e

  module _ (to : Values) (cell : Cell) (cells : List Cell) (v : Value) (reaches : get to cell.path ≡ Some v) (now : Values) (way : IsOnWay to now (cell ∷ cells)) where
    -- none has this path
    not_here : (q : Text) → eq_by_cmp order q cell.path ≡ false → ((k : ℕ) (x : Cell) → slice_get cells k ≡ Some x → x.path ≡ q → ⊥) → (k : ℕ) (x : Cell) → slice_get (cell ∷ cells) k ≡ Some x → x.path ≡ q → ⊥
    not_here q other none zero x at e =
        let same : cell ≡ x = same_Some cell x at in
        true_false (eq_by_cmp order q cell.path) (ap (λ (t : Text). eq_by_cmp order q t) (ap (λ (y : Cell). y.path) same ∙ e) ∙ itself q) other
    not_here q other none (suc k) x at e = none k x at e

    -- a variable that has its initial value is passed
    passed : get initial cell.path ≡ Some v → IsOnWay to now cells
    passed first = record {
      others = λ q none. by q none (eq_by_cmp order q cell.path) refl;
      left_are = λ k x at. way.left_are (suc k) x at;
    }
      where
        by : (q : Text) → ((k : ℕ) (x : Cell) → slice_get cells k ≡ Some x → x.path ≡ q → ⊥) → (b : Bool) → eq_by_cmp order q cell.path ≡ b → get now q ≡ get to q
        by q none true is =
            let same : q ≡ cell.path = same_text q cell.path is in
            ap (get now) same ∙ (way.left_are 0 cell refl ∙ (first ∙ (sym reaches ∙ ap (get to) (sym same))))
        by q none false is = way.others q (not_here q is none)

    -- another gets its value
    put : ((k : ℕ) (x : Cell) → slice_get cells k ≡ Some x → eq_by_cmp order x.path cell.path ≡ false) → IsOnWay to (insert now cell.path v) cells
    put new = record {
      others = λ q none. get-insert now cell.path v q ∙ by q none (eq_by_cmp order q cell.path) refl;
      left_are = λ k x at. get-insert now cell.path v x.path ∙ (ap (λ b. cond b (Some v) (get now x.path)) (new k x at) ∙ way.left_are (suc k) x at);
    }
      where
        by : (q : Text) → ((k : ℕ) (x : Cell) → slice_get cells k ≡ Some x → x.path ≡ q → ⊥) → (b : Bool) → eq_by_cmp order q cell.path ≡ b → cond b (Some v) (get now q) ≡ get to q
        by q none true is = sym reaches ∙ ap (get to) (sym (same_text q cell.path is))
        by q none false is = way.others q (not_here q is none)

  -- from the initial values on
  pub begin_way : (to : Values) (cells : List Cell) → ((q : Text) → ((k : ℕ) (x : Cell) → slice_get cells k ≡ Some x → x.path ≡ q → ⊥) → get initial q ≡ get to q) → IsOnWay to initial cells
  begin_way to cells others = record { others = others; left_are = λ k x at. refl }

  -- Variables read back.
  module _ (apart : (p q : Text) → path p ≡ path q → p ≡ q) (to : Values) (tail : List (List ℕ)) (rest : List ℕ) where
    pub variables_back :
        (cells : List Cell) (now : Values) (line last : ℕ) → AreOnce cells → AreKept path values cells → ((k : ℕ) (x : Cell) → slice_get cells k ≡ Some x → get to x.path ≡ get values x.path)
        → ((k : ℕ) (x : Cell) → slice_get cells k ≡ Some x → IsFree (path x.path) tail) → IsOnWay to now cells → last ≡ line + length (lines cells)
        → TakesVariables path initial cells (reached now (lined (lines cells ++ tail) rest) line) (reached to (lined tail rest) last)
    variables_back [] now line last once kept same free way count =
        let values_are : now ≡ to = same_map now to (λ q. way.others q (λ k x at e. cc)) in
        let line_is : line ≡ last = omega (arith, count) in
        ap₂ (λ (m : Values) (n : ℕ). reached m (lined tail rest) n) values_are line_is
    variables_back (cell ∷ cells) now line last once kept same free way count =
        by (has_value (get initial cell.path) (kept 0 cell refl).value) refl
        (λ m n on e. variables_back cells m n last once.1 (λ k. kept (suc k)) (λ k. same (suc k)) (λ k. free (suc k)) on e)
      where
        h : IsKept path values cell
        h = kept 0 cell refl

        reaches : get to cell.path ≡ Some h.value
        reaches = same 0 cell refl ∙ h.is

        others : (k : ℕ) (x : Cell) → slice_get cells k ≡ Some x → path cell.path ≡ path x.path → ⊥
        others k x at e = true_false (eq_by_cmp order x.path cell.path) (ap (λ (t : Text). eq_by_cmp order x.path t) (apart cell.path x.path e) ∙ itself x.path) (once.0 k x at)

        by :
            (b : Bool) → has_value (get initial cell.path) h.value ≡ b
            → ((m : Values) (n : ℕ) → IsOnWay to m cells → last ≡ n + length (lines cells) → TakesVariables path initial cells (reached m (lined (lines cells ++ tail) rest) n) (reached to (lined tail rest) last))
            → TakesVariables path initial (cell ∷ cells) (reached now (lined (lines (cell ∷ cells) ++ tail) rest) line) (reached to (lined tail rest) last)
        by true first more =
            let none = same_lines cell cells h.value h.is first in
            let fewer : length (lines (cell ∷ cells)) ≡ length (lines cells) = ap length none in
            subst (λ (ls : List (List ℕ)). TakesVariables path initial (cell ∷ cells) (reached now (lined (ls ++ tail) rest) line) (reached to (lined tail rest) last)) (sym none)
            (inl (
              variables_free (path cell.path) cells tail (λ k. kept (suc k)) others (free 0 cell refl) rest,
              more now line (passed to cell cells h.value reaches now way (initial_is (get initial cell.path) h.value first)) (omega (arith, count, fewer)),
            ))
        by false changed more =
            let one = other_lines cell cells h.value h.is changed in
            let fewer : length (lines (cell ∷ cells)) ≡ suc (length (lines cells)) = ap length one in
            let word : List ℕ = value_text h.value in
            subst (λ (ls : List (List ℕ)). TakesVariables path initial (cell ∷ cells) (reached now (lined (ls ++ tail) rest) line) (reached to (lined tail rest) last)) (sym one)
            (inr (
              h.value,
              lined (lines cells ++ tail) rest,
              takes_first Value (SaysValue (path cell.path) cell.scalar) (IsChanged (get initial cell.path)) h.value (variable_line (path cell.path) word) (lines cells ++ tail) rest (line_one cell h)
                  (word, record { spelled = refl; one_word = value_without 32 (omega arith) h.value h.narrow }, record { narrow = h.narrow; declared = h.of; spelled = refl })
                  (is_changed (get initial cell.path) h.value changed),
              more (insert now cell.path h.value) (line + 1) (put to cell cells h.value reaches now way once.0) (omega (arith, count, fewer)),
            ))
