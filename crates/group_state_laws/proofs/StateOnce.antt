-- A text reads as one state, or has one fault.
use Rattle.std.proofs.Common.{◌≡◌, inl, inr, ℕ, suc, List, ◌∷◌, ◌++◌, sym, ap, ap₂, ◌∙◌, subst, arith, Ok, Err, Option}
use Rattle.std.specs.Prelude.{codes}
use Rattle.il_syntax.specs.declared.tree.Config.{Config}
use Rattle.il_semantics.specs.State.{Values}
use Rattle.il_semantics.specs.Scan.{opening_globals}
use Rattle.load_slots.specs.Program.{global_cells}
use Rattle.group_spec.specs.declared.image.Image.{Image}
use Rattle.group_spec.specs.Calls.{Calls}
use Rattle.group_spec.specs.Image.{sizes_of}
use Rattle.group_spec.specs.World.{Group, TaskState}
use Rattle.trace_text.proofs.Bytes.{same_first, same_rest}
use Rattle.group_state.specs.declared.fault.StateFault.{StateFault}
use Rattle.group_state.specs.declared.fault.Wrong.{Wrong}
use Rattle.group_state.specs.Text.{global_path, end_line}
use Rattle.group_state.specs.Lines.{IsNext}
use Rattle.group_state.specs.Heads.{IsAt, TakesHead, variables_at}
use Rattle.group_state.specs.Variables.{Reached, reached, Left, left, TakesGlobals, RefusesGlobals, TakesTasks, RefusesTasks, TakesEnd, RefusesEnd, IsLeftOver, IsOtherLine}
use Rattle.group_state.specs.Reading.{Begun, IsState, IsNoState}
use Rattle.group_state.proofs.NextLines.{next_once, next_or_none}
use Rattle.group_state.proofs.Words.{cancel}
use Rattle.group_state_laws.specs.Laws.{StateReadsOnce}
use Rattle.group_state_laws.proofs.HeadOnce.{head_takes, head_not, head_refuses, at_once}
use Rattle.group_state_laws.proofs.VarsOnce.{variables_take, variables_not, variables_refuse, tasks_take, tasks_not, tasks_refuse}

-- THE LAST LINE

end_next : (text rest : List ℕ) → TakesEnd text rest → IsNext text end_line rest
end_next text rest h = record { whole = h; one = (λ e. omega (arith, e), (λ e. omega (arith, e), (λ e. omega (arith, e), (λ e. omega (arith, e), (λ e. omega (arith, e), (λ e. omega (arith, e), tt)))))) }

ends_once : (text a b : List ℕ) → TakesEnd text a → TakesEnd text b → a ≡ b
ends_once text a b h k = same_rest 10 10 a b (cancel end_line (10 ∷ a) (10 ∷ b) (sym h ∙ k))

no_variable : (behind : List ℕ) → end_line ≡ codes "VAR " ++ behind → ⊥
no_variable behind e = let n : ◌≡◌ {A = ℕ} 69 86 = same_first _ _ _ _ e in omega (arith, n)

end_not : (text rest : List ℕ) (f : StateFault) → TakesEnd text rest → RefusesEnd text f → ⊥
end_not text rest f h r =
    elim r [
      | inl over ↦ no_variable over.1.behind (sym (next_once text over.1.line over.1.rest end_line rest over.1.next (end_next text rest h)).0 ∙ over.1.spelled)
      | inr first ↦ elim first [
        | inl other ↦ other.1.no_end (next_once text other.1.line other.1.rest end_line rest other.1.next (end_next text rest h)).0
        | inr short ↦ next_or_none text end_line rest (end_next text rest h) short.1
      ]
    ]

over_not_other : (text : List ℕ) → IsLeftOver text → IsOtherLine text → ⊥
over_not_other text over other = other.no_variable over.behind ((next_once text other.line other.rest over.line over.rest other.next over.next).0 ∙ over.spelled)

end_refuses : (text : List ℕ) (f g : StateFault) → RefusesEnd text f → RefusesEnd text g → f ≡ g
end_refuses text f g r s =
    elim r [
      | inl a ↦ elim s [
        | inl b ↦ a.0 ∙ sym b.0
        | inr t ↦ elim t [
          | inl b ↦ absurd (over_not_other text a.1 b.1)
          | inr b ↦ absurd (next_or_none text a.1.line a.1.rest a.1.next b.1)
        ]
      ]
      | inr q ↦ elim q [
        | inl a ↦ elim s [
          | inl b ↦ absurd (over_not_other text b.1 a.1)
          | inr t ↦ elim t [
            | inl b ↦ a.0 ∙ sym b.0
            | inr b ↦ absurd (next_or_none text a.1.line a.1.rest a.1.next b.1)
          ]
        ]
        | inr a ↦ elim s [
          | inl b ↦ absurd (next_or_none text b.1.line b.1.rest b.1.next a.1)
          | inr t ↦ elim t [
            | inl b ↦ absurd (next_or_none text b.1.line b.1.rest b.1.next a.1)
            | inr b ↦ a.0 ∙ sym b.0
          ]
        ]
      ]
    ]

module _ (c : Config) (digest text : List ℕ) where
  abbrev Head : Image → Calls → List ℕ → Type 0
  Head = TakesHead (sizes_of c) digest text

  abbrev at : ℕ
  at = variables_at (sizes_of c)

  abbrev count : ℕ
  count = suc (sizes_of c).cars

  abbrev Globals : List ℕ → Reached → Type 0
  Globals t to = TakesGlobals c t at to

  abbrev Tasks : Left → List (Option TaskState) → Left → Type 0
  Tasks from tasks to = TakesTasks c 0 count from tasks to

  globals_take : (t : List ℕ) (a b : Reached) → Globals t a → Globals t b → a ≡ b
  globals_take t a b x y = variables_take global_path (opening_globals c) (global_cells c) (reached (opening_globals c) t at) a b x y

  globals_not : (t : List ℕ) (a : Reached) (w : Wrong) → Globals t a → RefusesGlobals c t at w → ⊥
  globals_not t a w x r = variables_not global_path (opening_globals c) (global_cells c) (reached (opening_globals c) t at) a w x r

  globals_refuse : (t : List ℕ) (v w : Wrong) → RefusesGlobals c t at v → RefusesGlobals c t at w → v ≡ w
  globals_refuse t v w r s = variables_refuse global_path (opening_globals c) (global_cells c) t at v w r s

  -- the parts of two states
  abbrev globals_of : Begun → Left → Reached
  globals_of b l = reached b.group.globals l.rest l.line

  begun_same : (a b : Begun) → a.group ≡ b.group → a.rest ≡ b.rest → a.lines ≡ b.lines → a ≡ b
  begun_same a b g r l = ap₂ (λ (group : Group) (place : Left). record { group = group; rest = place.rest; lines = place.line }) g (ap₂ left r l)

  group_same : (a b : Group) → a.image ≡ b.image → a.calls ≡ b.calls → a.globals ≡ b.globals → a.tasks ≡ b.tasks → a ≡ b
  group_same a b i k g t =
      ap₂ (λ (image : Image) (calls : Calls). record { image = image; calls = calls; globals = a.globals; tasks = a.tasks }) i k
      ∙ ap₂ (λ (globals : Values) (tasks : List (Option TaskState)). record { image = b.image; calls = b.calls; globals = globals; tasks = tasks }) g t

  states_once : (a b : Begun) → IsState c digest text a → IsState c digest text b → a ≡ b
  states_once a b x y =
      let h = head_takes (sizes_of c) digest text a.group.image b.group.image a.group.calls b.group.calls x.behind_head y.behind_head x.head y.head in
      let g = globals_take y.behind_head (globals_of a x.behind_globals) (globals_of b y.behind_globals) (subst (λ (t : List ℕ). Globals t (globals_of a x.behind_globals)) h.2 x.globals) y.globals in
      let place : x.behind_globals ≡ y.behind_globals = ap (λ (r : Reached). left r.rest r.line) g in
      let t = tasks_take c 0 count y.behind_globals (left x.last a.lines) (left y.last b.lines) a.group.tasks b.group.tasks (subst (λ (l : Left). Tasks l a.group.tasks (left x.last a.lines)) place x.tasks) y.tasks in
      let last : x.last ≡ y.last = ap (λ (l : Left). l.rest) t.1 in
      begun_same a b (group_same a.group b.group h.0 h.1 (ap (λ (r : Reached). r.values) g) t.0) (ends_once y.last a.rest b.rest (subst (λ (l : List ℕ). TakesEnd l a.rest) last x.ends) y.ends) (ap (λ (l : Left). l.line) t.1)

  state_not : (a : Begun) (w : Wrong) → IsState c digest text a → IsNoState c digest text w → ⊥
  state_not a w x r =
      elim r [
        | inl nay ↦ head_not (sizes_of c) digest text a.group.image a.group.calls x.behind_head w x.head nay
        | inr first ↦ elim first [
          | inl nay ↦
              let h = head_takes (sizes_of c) digest text a.group.image nay.0 a.group.calls nay.1 x.behind_head nay.2 x.head nay.3 in
              globals_not nay.2 (globals_of a x.behind_globals) w (subst (λ (t : List ℕ). Globals t (globals_of a x.behind_globals)) h.2 x.globals) nay.4
          | inr second ↦ elim second [
            | inl nay ↦
                let h = head_takes (sizes_of c) digest text a.group.image nay.0 a.group.calls nay.1 x.behind_head nay.2 x.head nay.4 in
                let g = globals_take nay.2 (globals_of a x.behind_globals) nay.3 (subst (λ (t : List ℕ). Globals t (globals_of a x.behind_globals)) h.2 x.globals) nay.5 in
                let place : x.behind_globals ≡ left nay.3.rest nay.3.line = ap (λ (r : Reached). left r.rest r.line) g in
                tasks_not c 0 count (left nay.3.rest nay.3.line) (left x.last a.lines) a.group.tasks w (subst (λ (l : Left). Tasks l a.group.tasks (left x.last a.lines)) place x.tasks) nay.6
            | inr nay ↦
                let h = head_takes (sizes_of c) digest text a.group.image nay.0 a.group.calls nay.1 x.behind_head nay.2 x.head nay.6 in
                let g = globals_take nay.2 (globals_of a x.behind_globals) nay.3 (subst (λ (t : List ℕ). Globals t (globals_of a x.behind_globals)) h.2 x.globals) nay.7 in
                let place : x.behind_globals ≡ left nay.3.rest nay.3.line = ap (λ (r : Reached). left r.rest r.line) g in
                let t = tasks_take c 0 count (left nay.3.rest nay.3.line) (left x.last a.lines) nay.5 a.group.tasks nay.4 (subst (λ (l : Left). Tasks l a.group.tasks (left x.last a.lines)) place x.tasks) nay.8 in
                end_not nay.5.rest a.rest w.fault (subst (λ (l : List ℕ). TakesEnd l a.rest) (ap (λ (l : Left). l.rest) t.1) x.ends) nay.9.1
          ]
        ]
      ]

  -- two faults, by how far the text is a state
  abbrev UpToGlobals : Wrong → Type 0
  UpToGlobals w = (image : Image) × (calls : Calls) × (behind : List ℕ) × Head image calls behind × RefusesGlobals c behind at w

  abbrev UpToTasks : Wrong → Type 0
  UpToTasks w = (image : Image) × (calls : Calls) × (behind : List ℕ) × (globals : Reached) × Head image calls behind × Globals behind globals × RefusesTasks c 0 count (left globals.rest globals.line) w

  abbrev UpToEnd : Wrong → Type 0
  UpToEnd w =
      (image : Image) × (calls : Calls) × (behind : List ℕ) × (globals : Reached) × (tasks : List (Option TaskState)) × (to : Left) × Head image calls behind × Globals behind globals
      × Tasks (left globals.rest globals.line) tasks to × IsAt to.line (RefusesEnd to.rest) w

  same_head : (i j : Image) (k l : Calls) (t s : List ℕ) → Head i k t → Head j l s → t ≡ s
  same_head i j k l t s x y = (head_takes (sizes_of c) digest text i j k l t s x y).2

  same_globals : (t s : List ℕ) (a b : Reached) → t ≡ s → Globals t a → Globals s b → a ≡ b
  same_globals t s a b e x y = globals_take s a b (subst (λ (u : List ℕ). Globals u a) e x) y

  globals_globals : (v w : Wrong) → UpToGlobals v → UpToGlobals w → v ≡ w
  globals_globals v w a b = globals_refuse b.2 v w (subst (λ (t : List ℕ). RefusesGlobals c t at v) (same_head a.0 b.0 a.1 b.1 a.2 b.2 a.3 b.3) a.4) b.4

  globals_tasks : (v w : Wrong) → UpToGlobals v → UpToTasks w → ⊥
  globals_tasks v w a b = globals_not b.2 b.3 v b.5 (subst (λ (t : List ℕ). RefusesGlobals c t at v) (same_head a.0 b.0 a.1 b.1 a.2 b.2 a.3 b.4) a.4)

  globals_end : (v w : Wrong) → UpToGlobals v → UpToEnd w → ⊥
  globals_end v w a b = globals_not b.2 b.3 v b.7 (subst (λ (t : List ℕ). RefusesGlobals c t at v) (same_head a.0 b.0 a.1 b.1 a.2 b.2 a.3 b.6) a.4)

  tasks_tasks : (v w : Wrong) → UpToTasks v → UpToTasks w → v ≡ w
  tasks_tasks v w a b =
      let g = same_globals a.2 b.2 a.3 b.3 (same_head a.0 b.0 a.1 b.1 a.2 b.2 a.4 b.4) a.5 b.5 in
      tasks_refuse c 0 count (left b.3.rest b.3.line) v w (subst (λ (r : Reached). RefusesTasks c 0 count (left r.rest r.line) v) g a.6) b.6

  tasks_end : (v w : Wrong) → UpToTasks v → UpToEnd w → ⊥
  tasks_end v w a b =
      let g = same_globals a.2 b.2 a.3 b.3 (same_head a.0 b.0 a.1 b.1 a.2 b.2 a.4 b.6) a.5 b.7 in
      tasks_not c 0 count (left b.3.rest b.3.line) b.5 b.4 v b.8 (subst (λ (r : Reached). RefusesTasks c 0 count (left r.rest r.line) v) g a.6)

  end_end : (v w : Wrong) → UpToEnd v → UpToEnd w → v ≡ w
  end_end v w a b =
      let g = same_globals a.2 b.2 a.3 b.3 (same_head a.0 b.0 a.1 b.1 a.2 b.2 a.6 b.6) a.7 b.7 in
      let t = tasks_take c 0 count (left b.3.rest b.3.line) a.5 b.5 a.4 b.4 (subst (λ (r : Reached). Tasks (left r.rest r.line) a.4 a.5) g a.8) b.8 in
      at_once b.5.line (RefusesEnd b.5.rest) v w (end_refuses b.5.rest) (subst (λ (l : Left). IsAt l.line (RefusesEnd l.rest) v) t.1 a.9) b.9

  wrongs_once : (v w : Wrong) → IsNoState c digest text v → IsNoState c digest text w → v ≡ w
  wrongs_once v w r s =
      elim r [
        | inl a ↦ elim s [
          | inl b ↦ head_refuses (sizes_of c) digest text v w a b
          | inr s1 ↦ elim s1 [
            | inl b ↦ absurd (head_not (sizes_of c) digest text b.0 b.1 b.2 v b.3 a)
            | inr s2 ↦ elim s2 [
              | inl b ↦ absurd (head_not (sizes_of c) digest text b.0 b.1 b.2 v b.4 a)
              | inr b ↦ absurd (head_not (sizes_of c) digest text b.0 b.1 b.2 v b.6 a)
            ]
          ]
        ]
        | inr r1 ↦ elim r1 [
          | inl a ↦ elim s [
            | inl b ↦ absurd (head_not (sizes_of c) digest text a.0 a.1 a.2 w a.3 b)
            | inr s1 ↦ elim s1 [
              | inl b ↦ globals_globals v w a b
              | inr s2 ↦ elim s2 [
                | inl b ↦ absurd (globals_tasks v w a b)
                | inr b ↦ absurd (globals_end v w a b)
              ]
            ]
          ]
          | inr r2 ↦ elim r2 [
            | inl a ↦ elim s [
              | inl b ↦ absurd (head_not (sizes_of c) digest text a.0 a.1 a.2 w a.4 b)
              | inr s1 ↦ elim s1 [
                | inl b ↦ absurd (globals_tasks w v b a)
                | inr s2 ↦ elim s2 [
                  | inl b ↦ tasks_tasks v w a b
                  | inr b ↦ absurd (tasks_end v w a b)
                ]
              ]
            ]
            | inr a ↦ elim s [
              | inl b ↦ absurd (head_not (sizes_of c) digest text a.0 a.1 a.2 w a.6 b)
              | inr s1 ↦ elim s1 [
                | inl b ↦ absurd (globals_end w v b a)
                | inr s2 ↦ elim s2 [
                  | inl b ↦ absurd (tasks_end w v b a)
                  | inr b ↦ end_end v w a b
                ]
              ]
            ]
          ]
        ]
      ]

pub state_reads_once : StateReadsOnce
state_reads_once c digest text (Ok a) (Ok b) h k = ap Ok (states_once c digest text a b h k)
state_reads_once c digest text (Ok a) (Err w) h k = absurd (state_not c digest text a w h k)
state_reads_once c digest text (Err v) (Ok b) h k = absurd (state_not c digest text b v k h)
state_reads_once c digest text (Err v) (Err w) h k = ap Err (wrongs_once c digest text v w h k)
