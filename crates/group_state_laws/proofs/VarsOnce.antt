-- Lines of variables read as one thing.
use Rattle.std.proofs.Common.{◌≡◌, inl, inr, ℕ, zero, suc, ◌+◌, Bool, List, [], ◌∷◌, sym, ap, ap₂, ◌∙◌, subst, Some, None, Option, ℤ}
use Rattle.std.proofs.lemmas.Fmt.{signed_decimal_injective}
use Rattle.il_syntax.specs.declared.tree.Config.{Config}
use Rattle.il_syntax.specs.declared.tree.Scalar.{Scalar}
use Rattle.il_syntax.specs.declared.tree.Subrange.{Subrange}
use Rattle.il_syntax.specs.declared.tree.Unit.{Unit as ProgramUnit}
use Rattle.il_statics.specs.Declarations.{declared_limits}
use Rattle.base_maps.specs.NameMap.{Text, get, insert}
use Rattle.il_semantics.specs.declared.value.Value.{Value}
use Rattle.il_semantics.specs.declared.value.Value.TheVariants.{Boolean, Integer}
use Rattle.il_semantics.specs.Scan.{opening_variables}
use Rattle.il_semantics.specs.State.{Values}
use Rattle.il_semantics.specs.Values.{IsValueIn}
use Rattle.load_slots.specs.declared.flat.Cell.{Cell}
use Rattle.load_slots.specs.Program.{own_cells}
use Rattle.group_spec.specs.Snapshot.{program_of}
use Rattle.group_spec.specs.World.{TaskState}
use Rattle.group_state.specs.declared.fault.StateFault.{StateFault}
use Rattle.group_state.specs.declared.fault.Wrong.{Wrong}
use Rattle.group_state.specs.Text.{task_path}
use Rattle.group_state.specs.Lines.{IsNext}
use Rattle.group_state.specs.Variables.{IsOfVariable, IsAbsent, SpellsValue, TakesVariable, WordBreaks, RefusesVariable, Reached, reached, TakesVariables, RefusesVariables, Left, left, at_rest, TakesTask, RefusesTask, TakesTasks, RefusesTasks}
use Rattle.group_state.proofs.NextLines.{next_once}
use Rattle.group_state.proofs.Words.{word_once, mag_fits}
use Rattle.group_state_laws.proofs.Once.{truths_once}
use Rattle.group_state_laws.proofs.HeadOnce.{at_once}

-- VALUES

of_one_kind : (o : Option Subrange) (b : Bool) (z : ℤ) → IsValueIn o (Boolean b) → IsValueIn o (Integer z) → ⊥
of_one_kind None b z h k = k
of_one_kind (Some s) b z h k = h

values_once : (scalar : Scalar) (v w : Value) (word : List ℕ) → SpellsValue scalar v word → SpellsValue scalar w word → v ≡ w
values_once scalar (Boolean a) (Boolean b) word s t = ap Boolean (truths_once a b (sym s.spelled ∙ t.spelled))
values_once scalar (Boolean a) (Integer z) word s t = absurd (of_one_kind (declared_limits scalar) a z s.declared t.declared)
values_once scalar (Integer y) (Boolean b) word s t = absurd (of_one_kind (declared_limits scalar) b y t.declared s.declared)
values_once scalar (Integer y) (Integer z) word s t = ap Integer (signed_decimal_injective y z (mag_fits y s.narrow) (mag_fits z t.narrow) (sym s.spelled ∙ t.spelled))

-- ONE LINE

module _ (path : Text) (scalar : Scalar) (initial : Option Value) (text : List ℕ) where
  -- the lines and words of two readings are the same
  same_word : (line rest word other behind thing : List ℕ) → IsNext text line rest → IsNext text other behind → IsOfVariable path line word → IsOfVariable path other thing → (word ≡ thing) × (rest ≡ behind)
  same_word line rest word other behind thing a b x y =
      let same = next_once text line rest other behind a b in
      (word_once path other word thing (subst (λ (l : List ℕ). IsOfVariable path l word) same.0 x) y, same.1)

  variable_takes : (v w : Value) (a b : List ℕ) → TakesVariable path scalar initial text v a → TakesVariable path scalar initial text w b → (v ≡ w) × (a ≡ b)
  variable_takes v w a b t u =
      let same = same_word t.line a t.says.0 u.line b u.says.0 t.next u.next t.says.1 u.says.1 in
      (values_once scalar v w u.says.0 (subst (SpellsValue scalar v) same.0 t.says.2) u.says.2, same.1)

  absent_not_takes : (v : Value) (a : List ℕ) → IsAbsent path text → TakesVariable path scalar initial text v a → ⊥
  absent_not_takes v a absent t = absent t.line a t.says.0 t.next t.says.1

  absent_not_refuses : (f : StateFault) → IsAbsent path text → RefusesVariable path scalar initial text f → ⊥
  absent_not_refuses f absent r = absent r.line r.rest r.word r.next r.of

  takes_not : (v : Value) (a : List ℕ) (f : StateFault) → TakesVariable path scalar initial text v a → RefusesVariable path scalar initial text f → ⊥
  takes_not v a f t r =
      let same = same_word t.line a t.says.0 r.line r.rest r.word t.next r.next t.says.1 r.of in
      let here : SpellsValue scalar v r.word = subst (SpellsValue scalar v) same.0 t.says.2 in
      elim r.breaks [
        | inl none ↦ none.1 v here
        | inr own ↦ t.holds (own.3 ∙ ap Some (values_once scalar own.1 v r.word own.2 here))
      ]

  words_break : (word : List ℕ) (f g : StateFault) → WordBreaks scalar initial word f → WordBreaks scalar initial word g → f ≡ g
  words_break word f g a b =
      elim a [
        | inl x ↦ elim b [
          | inl y ↦ x.0 ∙ sym y.0
          | inr y ↦ absurd (x.1 y.1 y.2)
        ]
        | inr x ↦ elim b [
          | inl y ↦ absurd (y.1 x.1 x.2)
          | inr y ↦ x.0 ∙ sym y.0
        ]
      ]

  variable_refuses : (f g : StateFault) → RefusesVariable path scalar initial text f → RefusesVariable path scalar initial text g → f ≡ g
  variable_refuses f g r s =
      let same = same_word r.line r.rest r.word s.line s.rest s.word r.next s.next r.of s.of in
      words_break s.word f g (subst (λ (w : List ℕ). WordBreaks scalar initial w f) same.0 r.breaks) s.breaks

-- ALL CELLS

module _ (path : Text → Text) (initial : Values) where
  pub variables_take : (cells : List Cell) (from a b : Reached) → TakesVariables path initial cells from a → TakesVariables path initial cells from b → a ≡ b
  variables_take [] from a b x y = sym x ∙ y
  variables_take (cell ∷ cells) from a b x y =
      elim x [
        | inl p ↦ elim y [
          | inl q ↦ variables_take cells from a b p.1 q.1
          | inr q ↦ absurd (absent_not_takes (path cell.path) cell.scalar (get initial cell.path) from.rest q.0 q.1 p.0 q.2)
        ]
        | inr p ↦ elim y [
          | inl q ↦ absurd (absent_not_takes (path cell.path) cell.scalar (get initial cell.path) from.rest p.0 p.1 q.0 p.2)
          | inr q ↦
              let same = variable_takes (path cell.path) cell.scalar (get initial cell.path) from.rest p.0 q.0 p.1 q.1 p.2 q.2 in
              let place : reached (insert from.values cell.path p.0) p.1 (from.line + 1) ≡ reached (insert from.values cell.path q.0) q.1 (from.line + 1) =
              ap₂ (λ (v : Value) (t : List ℕ). reached (insert from.values cell.path v) t (from.line + 1)) same.0 same.1 in
              variables_take cells (reached (insert from.values cell.path q.0) q.1 (from.line + 1)) a b (subst (λ (r : Reached). TakesVariables path initial cells r a) place p.3) q.3
        ]
      ]

  pub variables_not : (cells : List Cell) (from a : Reached) (w : Wrong) → TakesVariables path initial cells from a → RefusesVariables path initial cells from.rest from.line w → ⊥
  variables_not [] from a w x r = r
  variables_not (cell ∷ cells) from a w x r =
      elim x [
        | inl p ↦ elim r [
          | inl nay ↦ absent_not_refuses (path cell.path) cell.scalar (get initial cell.path) from.rest w.fault p.0 nay.1
          | inr other ↦ elim other [
            | inl nay ↦ variables_not cells from a w p.1 nay.1
            | inr nay ↦ absent_not_takes (path cell.path) cell.scalar (get initial cell.path) from.rest nay.0 nay.1 p.0 nay.2
          ]
        ]
        | inr p ↦ elim r [
          | inl nay ↦ takes_not (path cell.path) cell.scalar (get initial cell.path) from.rest p.0 p.1 w.fault p.2 nay.1
          | inr other ↦ elim other [
            | inl nay ↦ absent_not_takes (path cell.path) cell.scalar (get initial cell.path) from.rest p.0 p.1 nay.0 p.2
            | inr nay ↦
                let same = variable_takes (path cell.path) cell.scalar (get initial cell.path) from.rest p.0 nay.0 p.1 nay.1 p.2 nay.2 in
                variables_not cells (reached (insert from.values cell.path p.0) p.1 (from.line + 1)) a w p.3
                (subst (λ (t : List ℕ). RefusesVariables path initial cells t (from.line + 1) w) (sym same.1) nay.3)
          ]
        ]
      ]

  pub variables_refuse : (cells : List Cell) (text : List ℕ) (line : ℕ) (v w : Wrong) → RefusesVariables path initial cells text line v → RefusesVariables path initial cells text line w → v ≡ w
  variables_refuse [] text line v w r s = absurd r
  variables_refuse (cell ∷ cells) text line v w r s =
      elim r [
        | inl a ↦ elim s [
          | inl b ↦ at_once line (RefusesVariable (path cell.path) cell.scalar (get initial cell.path) text) v w (variable_refuses (path cell.path) cell.scalar (get initial cell.path) text) a b
          | inr other ↦ elim other [
            | inl b ↦ absurd (absent_not_refuses (path cell.path) cell.scalar (get initial cell.path) text v.fault b.0 a.1)
            | inr b ↦ absurd (takes_not (path cell.path) cell.scalar (get initial cell.path) text b.0 b.1 v.fault b.2 a.1)
          ]
        ]
        | inr first ↦ elim first [
          | inl a ↦ elim s [
            | inl b ↦ absurd (absent_not_refuses (path cell.path) cell.scalar (get initial cell.path) text w.fault a.0 b.1)
            | inr other ↦ elim other [
              | inl b ↦ variables_refuse cells text line v w a.1 b.1
              | inr b ↦ absurd (absent_not_takes (path cell.path) cell.scalar (get initial cell.path) text b.0 b.1 a.0 b.2)
            ]
          ]
          | inr a ↦ elim s [
            | inl b ↦ absurd (takes_not (path cell.path) cell.scalar (get initial cell.path) text a.0 a.1 w.fault a.2 b.1)
            | inr other ↦ elim other [
              | inl b ↦ absurd (absent_not_takes (path cell.path) cell.scalar (get initial cell.path) text a.0 a.1 b.0 a.2)
              | inr b ↦
                  let same = variable_takes (path cell.path) cell.scalar (get initial cell.path) text a.0 b.0 a.1 b.1 a.2 b.2 in
                  variables_refuse cells b.1 (line + 1) v w (subst (λ (t : List ℕ). RefusesVariables path initial cells t (line + 1) v) same.1 a.3) b.3
            ]
          ]
        ]
      ]

-- TASKS

abbrev place_of : Reached → Left
place_of r = left r.rest r.line

task_takes : (c : Config) (t : ℕ) (o : Option ProgramUnit) (from a b : Left) (x y : Option TaskState) → TakesTask c t o from x a → TakesTask c t o from y b → (x ≡ y) × (a ≡ b)
task_takes c t None from a b x y h k = (h.0 ∙ sym k.0, sym h.1 ∙ k.1)
task_takes c t (Some u) from a b x y h k =
    let same = variables_take (task_path t) (opening_variables c u) (own_cells c u) (reached (opening_variables c u) from.rest from.line) (reached h.0 a.rest a.line) (reached k.0 b.rest b.line) h.2 k.2 in
    (h.1 ∙ (ap (λ (r : Reached). Some (at_rest r.values)) same ∙ sym k.1), ap place_of same)

task_not : (c : Config) (t : ℕ) (o : Option ProgramUnit) (from a : Left) (x : Option TaskState) (w : Wrong) → TakesTask c t o from x a → RefusesTask c t o from w → ⊥
task_not c t None from a x w h r = r
task_not c t (Some u) from a x w h r = variables_not (task_path t) (opening_variables c u) (own_cells c u) (reached (opening_variables c u) from.rest from.line) (reached h.0 a.rest a.line) w h.2 r

task_refuses : (c : Config) (t : ℕ) (o : Option ProgramUnit) (from : Left) (v w : Wrong) → RefusesTask c t o from v → RefusesTask c t o from w → v ≡ w
task_refuses c t None from v w r s = absurd r
task_refuses c t (Some u) from v w r s = variables_refuse (task_path t) (opening_variables c u) (own_cells c u) from.rest from.line v w r s

pub tasks_take : (c : Config) (t n : ℕ) (from a b : Left) (xs ys : List (Option TaskState)) → TakesTasks c t n from xs a → TakesTasks c t n from ys b → (xs ≡ ys) × (a ≡ b)
tasks_take c t zero from a b xs ys h k = (h.0 ∙ sym k.0, sym h.1 ∙ k.1)
tasks_take c t (suc n) from a b xs ys h k =
    let first = task_takes c t (program_of c t) from h.2 k.2 h.0 k.0 h.4 k.4 in
    let rest = tasks_take c (t + 1) n k.2 a b h.1 k.1 (subst (λ (l : Left). TakesTasks c (t + 1) n l h.1 a) first.1 h.5) k.5 in
    (h.3 ∙ (ap₂ (λ (o : Option TaskState) os. o ∷ os) first.0 rest.0 ∙ sym k.3), rest.1)

pub tasks_not : (c : Config) (t n : ℕ) (from a : Left) (xs : List (Option TaskState)) (w : Wrong) → TakesTasks c t n from xs a → RefusesTasks c t n from w → ⊥
tasks_not c t zero from a xs w h r = r
tasks_not c t (suc n) from a xs w h r =
    elim r [
      | inl nay ↦ task_not c t (program_of c t) from h.2 h.0 w h.4 nay
      | inr nay ↦
          let first = task_takes c t (program_of c t) from h.2 nay.1 h.0 nay.0 h.4 nay.2 in
          tasks_not c (t + 1) n nay.1 a h.1 w (subst (λ (l : Left). TakesTasks c (t + 1) n l h.1 a) first.1 h.5) nay.3
    ]

pub tasks_refuse : (c : Config) (t n : ℕ) (from : Left) (v w : Wrong) → RefusesTasks c t n from v → RefusesTasks c t n from w → v ≡ w
tasks_refuse c t zero from v w r s = absurd r
tasks_refuse c t (suc n) from v w r s =
    elim r [
      | inl a ↦ elim s [
        | inl b ↦ task_refuses c t (program_of c t) from v w a b
        | inr b ↦ absurd (task_not c t (program_of c t) from b.1 b.0 v b.2 a)
      ]
      | inr a ↦ elim s [
        | inl b ↦ absurd (task_not c t (program_of c t) from a.1 a.0 w a.2 b)
        | inr b ↦
            let first = task_takes c t (program_of c t) from a.1 b.1 a.0 b.0 a.2 b.2 in
            tasks_refuse c (t + 1) n b.1 v w (subst (λ (l : Left). RefusesTasks c (t + 1) n l v) first.1 a.3) b.3
      ]
    ]
