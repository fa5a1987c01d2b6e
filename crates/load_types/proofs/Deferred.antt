-- What waits for a `)`: the stack of the pass is what is open.
use Rattle.std.proofs.Common.{◌≡◌, ℕ, zero, suc, ◌+◌, ◌-◌, List, [], ◌∷◌, ◌++◌, length, length-append, take, Option, Some, None, refl, sym, ap, ◌∙◌, subst, slice_get, arith, add-one}
use Rattle.il_syntax.specs.declared.tree.Config.{Config}
use Rattle.il_syntax.specs.declared.tree.Unit.{Unit as ProgramUnit}
use Rattle.il_syntax.specs.declared.tree.Body.{Body}
use Rattle.il_syntax.specs.declared.tree.Step.{Step}
use Rattle.il_syntax.specs.declared.tree.Elementary.{Elementary}
use Rattle.il_syntax.specs.declared.tree.Instruction.{Instruction}
use Rattle.il_syntax.specs.declared.tree.Instruction.TheVariants.{Load, Store, Not, Operate, Defer, Evaluate, Jump, Return, Call, Invoke}
use Rattle.il_statics.specs.Types.{Deferred, Opened, opened_after, opened_behind, innermost, rest_of, StandsAt, IsResultAt, IsDeferredAt}
use Rattle.il_statics.proofs.Passes.{one_result}
use Rattle.load_types.specs.Arrivals.{last_of, front_of, waiting_after}

-- what is open after one place more
open_next : (opened : List Opened) (start : ℕ) (steps : List Step) (count : ℕ) (s : Step) → slice_get steps count ≡ Some s → opened_behind opened start steps (suc count) ≡ opened_after (opened_behind opened start steps count) (start + count) s.instruction
open_next opened start [] count s e = absurd (let bad : None ≡ Some s = e in cc)
open_next opened start (x ∷ steps) zero s e = behind_none steps ∙ ap (λ y. opened_after opened start y.instruction) (same_step x s e) ∙ ap (λ k. opened_after opened k s.instruction) (zero_more start)
  where
    same_step : (x s : Step) → Some x ≡ Some s → x ≡ s
    same_step x s e = cc

    zero_more : (n : ℕ) → n ≡ n + 0
    zero_more n = omega arith

    behind_none : (steps : List Step) → opened_behind (opened_after opened start x.instruction) (start + 1) steps zero ≡ opened_after opened start x.instruction
    behind_none [] = refl
    behind_none (y ∷ ys) = refl
open_next opened start (x ∷ steps) (suc count) s e =
    open_next (opened_after opened start x.instruction) (start + 1) steps count s e
    ∙ ap (λ k. opened_after (opened_behind (opened_after opened start x.instruction) (start + 1) steps count) k s.instruction) (more start count)
  where
    more : (a b : ℕ) → a + 1 + b ≡ a + suc b
    more a b = omega arith

-- what is open before the instruction at a place
abbrev pub open_at : Body → ℕ → List Opened
open_at body at = opened_behind [] 0 body.steps at

pub open_more : (body : Body) (at : ℕ) (s : Step) → StandsAt body at s → open_at body (at + 1) ≡ opened_after (open_at body at) at s.instruction
open_more body at s e = ap (λ k. opened_behind [] 0 body.steps k) (add-one at) ∙ open_next [] 0 body.steps at s e ∙ ap (λ k. opened_after (open_at body at) k s.instruction) (none_more at)
  where
    none_more : (n : ℕ) → 0 + n ≡ n
    none_more n = omega arith

pub open_first : (body : Body) → open_at body 0 ≡ []
open_first body = by_steps body.steps
  where
    by_steps : (steps : List Step) → opened_behind [] 0 steps 0 ≡ []
    by_steps [] = refl
    by_steps (s ∷ ss) = refl

-- the innermost is last
last_at : (below : List Deferred) (d : Deferred) (n : ℕ) → n ≡ length below → slice_get (below ++ d ∷ []) n ≡ Some d
last_at [] d zero e = refl
last_at [] d (suc n) e = absurd (omega arith)
last_at (x ∷ below) d zero e = absurd (omega arith)
last_at (x ∷ below) d (suc n) e = last_at below d n (omega arith)

front_at : (below : List Deferred) (d : Deferred) (n : ℕ) → n ≡ length below → take n (below ++ d ∷ []) ≡ below
front_at [] d zero e = refl
front_at [] d (suc n) e = absurd (omega arith)
front_at (x ∷ below) d zero e = absurd (omega arith)
front_at (x ∷ below) d (suc n) e = ap (λ l. x ∷ l) (front_at below d n (omega arith))

one_less : (below : List Deferred) (d : Deferred) → length (below ++ d ∷ []) - 1 ≡ length below
one_less below d = let e = length-append below (d ∷ []) in omega arith

last_more : (below : List Deferred) (d : Deferred) → last_of (below ++ d ∷ []) ≡ Some d
last_more below d = last_at below d (length (below ++ d ∷ []) - 1) (one_less below d)

front_more : (below : List Deferred) (d : Deferred) → front_of (below ++ d ∷ []) ≡ below
front_more below d = front_at below d (length (below ++ d ∷ []) - 1) (one_less below d)

module _ (config : Config) (unit : ProgramUnit) where
  -- what waits is what is open, with the types at the places of the `OP(`
  pub record IsTop (o : Opened) (d : Deferred) : Type 0 where
    pub operator : d.0 ≡ o.1
    pub result : IsResultAt config unit o.0 d.1

  abbrev pub AreOpen : List Opened → List Deferred → Type 0
  AreOpen [] waiting = waiting ≡ []
  AreOpen (o ∷ opened) waiting = (below : List Deferred) × (d : Deferred) × (waiting ≡ below ++ d ∷ []) × IsTop o d × AreOpen opened below

  -- what waits for the `)` at a place
  pub waits : (opened : List Opened) (waiting : List Deferred) → AreOpen opened waiting → IsDeferredAt config unit (innermost opened) (last_of waiting)
  waits [] waiting e = ap last_of e
  waits (o ∷ opened) waiting a = (a.1.1, a.3.result, ap last_of a.2 ∙ last_more a.0 a.1 ∙ ap (λ op. Some (op, a.1.1)) a.3.operator)

  -- it is one
  pub waits_one : (o : Option Opened) (d e : Option Deferred) → IsDeferredAt config unit o d → IsDeferredAt config unit o e → d ≡ e
  waits_one None d e p q = p ∙ sym q
  waits_one (Some o) d e p q = p.2 ∙ ap (λ (t : Option Elementary). Some (o.1, t)) (one_result config unit o.0 q.0 q.1 p.0 p.1) ∙ sym q.2

  rest_open : (opened : List Opened) (waiting : List Deferred) → AreOpen opened waiting → AreOpen (rest_of opened) (front_of waiting)
  rest_open [] waiting e = ap front_of e
  rest_open (o ∷ opened) waiting a = subst (AreOpen opened) (sym (ap front_of a.2 ∙ front_more a.0 a.1)) a.4

  -- what waits after an instruction
  pub waits_on : (opened : List Opened) (waiting : List Deferred) (at : ℕ) (i : Instruction) (before : Option Elementary) → IsResultAt config unit at before → AreOpen opened waiting → AreOpen (opened_after opened at i) (waiting_after i before waiting)
  waits_on opened waiting at (Load negated operand) before is a = a
  waits_on opened waiting at (Store store target) before is a = a
  waits_on opened waiting at Not before is a = a
  waits_on opened waiting at (Operate operator operand) before is a = a
  waits_on opened waiting at (Defer operator operand) before is a = (waiting, (operator, before), refl, record { operator = refl; result = is }, a)
  waits_on opened waiting at Evaluate before is a = rest_open opened waiting a
  waits_on opened waiting at (Jump condition label) before is a = a
  waits_on opened waiting at (Return condition) before is a = a
  waits_on opened waiting at (Call condition instance arguments) before is a = a
  waits_on opened waiting at (Invoke function operands) before is a = a
