-- Of two faults none follows the other, where the first is of too many.
use Rattle.std.specs.Prelude.{◌⊎◌}
use Rattle.std.specs.List.{All, slice_get}
use Rattle.std.proofs.Common.{◌≡◌, ◌<◌, ◌≤◌, ℕ, List, [], ◌∷◌, ◌++◌, length, length-append, sym, ◌∙◌, ap, subst, inl, inr, arith, Some}
use Rattle.std.proofs.lemmas.List.Elements.{All-nil, All-cons, All-append, All-head, All-tail}
use Rattle.il_syntax.specs.declared.token.Token.{Token}
use Rattle.il_syntax.specs.declared.token.Kind.TheVariants as kind
use Rattle.il_syntax.specs.declared.token.Sign.TheVariants.{Colon}
use Rattle.il_syntax.specs.declared.tree.Place.{Place}
use Rattle.il_syntax.specs.declared.tree.Named.{Named}
use Rattle.il_syntax.specs.declared.tree.Instruction.{Instruction}
use Rattle.il_syntax.specs.declared.tree.Instruction.TheVariants as instruction
use Rattle.il_syntax.specs.declared.tree.Step.{Step}
use Rattle.il_syntax.specs.declared.tree.Unit.{Unit as ProgramUnit}
use Rattle.il_syntax.specs.declared.tree.Config.{Config}
use Rattle.il_syntax.specs.Text.{AreTokens}
use Rattle.il_syntax.specs.Words.{keyword_of}
use Rattle.il_syntax.specs.Grammar.{AfterLines, TheSign, SpellsInstruction, SpellsLabel, SpellsConfig, depth_after, greatest_depth}
use Rattle.il_statics.specs.Written.{IsNested}
use Rattle.il_syntax_laws.specs.Alike.{HasSameBytes, IsEndOf, AreAlike}
use Rattle.il_syntax_laws.specs.GoesOn.{IsCut}
use Rattle.il_syntax_laws.proofs.Alike.{end_self, end_of_end}
use Rattle.il_syntax_laws.proofs.Instructions.{invokes, sort_of}
use Rattle.il_syntax_laws.proofs.Local.{same_name}
use Rattle.il_syntax_laws.proofs.Open.{operands_fill}
use Rattle.load_lines.specs.Lead.{lead_at, lead_of}
use Rattle.load_lines.specs.declared.lead.Lead.TheVariants as lead_kind
use Rattle.load_lines.specs.declared.stop.SyntaxError.{SyntaxError}
use Rattle.load_lines.specs.declared.stop.SyntaxError.TheVariants.{TooMany}
use Rattle.load_lines.specs.Reads.{past_name, turn}
use Rattle.load_lines.proofs.Settings.{label_lead}
use Rattle.load_tree.specs.Refused.{IsItsPlace, StandsAmong, IsLateSurplus, GoesBeyond, IsBegun, Keeps}
use Rattle.load_tree.proofs.Begun.{behind_all}
use Rattle.il_fault_laws.proofs.Parts.{Parts, starts_rise}
use Rattle.il_fault_laws.proofs.Order.{cut_alike, alike_between}
use Rattle.il_fault_laws.proofs.Runs.{get_split}
use Rattle.il_fault_laws.proofs.Surplus.{IsStep, IsLabel}
use Rattle.il_fault_laws.proofs.Completed.{EndsIn, depth_least}
use Rattle.il_fault_laws.proofs.Through.{cut_rest, cut_earlier, before_cut}
use Rattle.il_fault_laws.proofs.Found.{HasUnit, HasStep, IsFront, found_unit, found_step}
use Rattle.il_fault_laws.proofs.Ends.{IsShallow}

-- WHAT IS TOO MANY

-- an instruction
pub record StepSurplus (t : Token) (c : Config) : Type 0 where
  pub front : List ProgramUnit
  pub unit : ProgramUnit
  pub behind : List ProgramUnit
  pub units : c.units ≡ front ++ unit ∷ behind
  pub steps : List Step
  pub more : List Step
  pub step : Step
  pub split : unit.body.steps ≡ steps ++ step ∷ more
  pub number : slice_get unit.body.steps 4096 ≡ Some step
  pub there : IsItsPlace t step.place
  pub before : IsFront front steps

-- a unit
pub record UnitSurplus (t : Token) (c : Config) : Type 0 where
  pub front : List ProgramUnit
  pub unit : ProgramUnit
  pub behind : List ProgramUnit
  pub units : c.units ≡ front ++ unit ∷ behind
  pub few : All (λ (v : ProgramUnit). length v.body.steps ≤ 4096) front
  pub full : length front ≡ 64
  pub there : IsItsPlace t unit.place

pub surplus_of : (t : Token) (c : Config) → GoesBeyond TooMany t c.units → UnitSurplus t c ⊎ StepSurplus t c
surplus_of t c (front, u, behind, is, few, inl x) = inl (record { front = front; unit = u; behind = behind; units = is; few = few; full = x.0; there = x.1 })
surplus_of t c (front, u, behind, is, few, inr x) =
    let h = x.1 in
    let k = get_split u.body.steps 4096 h.0 h.1 in
    inr (record { front = front; unit = u; behind = behind; units = is; steps = k.0; more = k.1; step = h.0; split = k.2; number = h.1; there = h.2; before = record { few = few; some = x.0; full = k.3 } })

-- where there are few, none is too many
pub few_at : (steps : List Step) (s : Step) → length steps ≤ 4096 → slice_get steps 4096 ≡ Some s → ⊥
few_at steps s few e =
    let k = get_split steps 4096 s e in
    let l = ap length k.2 in
    let m = length-append k.0 (s ∷ k.1) in
    omega (arith, few, l, m, k.3)

pub all_parts : (P : ProgramUnit → Type 0) (xs ys : List ProgramUnit) → All P (xs ++ ys) → All P xs × All P ys
all_parts P [] ys h = (All-nil P, h)
all_parts P (x ∷ xs) ys h = let k = all_parts P xs ys (All-tail P x (xs ++ ys) h) in (All-cons P x xs (All-head P x (xs ++ ys) h) k.0, k.1)

-- what is at a token is at none after it
pub stands_late : (text : List ℕ) (ts : List Token) (t : Token) (tail vs : List Token) (p : Place) → AreTokens text 0 ts → IsEndOf (t ∷ tail) ts → IsEndOf vs tail → StandsAmong vs p → IsItsPlace t p → ⊥
stands_late text ts t tail vs p cut there e w same =
    let less = starts_rise text 0 ts t tail w.0 w.1 cut there (end_of_end (w.0 ∷ w.1) vs tail e w.2) in
    let a = w.3.0 in
    let b = same.0 in
    omega (arith, less, a, b)

-- the instruction of this number
pub numbered : (all steps ms : List Step) (s : Step) → length steps ≡ 4096 → all ≡ steps ++ s ∷ ms → slice_get all 4096 ≡ Some s
numbered all steps ms s full is = ap (λ (xs : List Step). slice_get xs 4096) is ∙ behind_all steps s ms 4096 full

-- LIMITS OF COMPLETED TEXTS

pub few_ends : (front : List ProgramUnit) (u : ProgramUnit) (steps : List Step) (c : Config) → IsFront front steps → EndsIn front u (λ ys. ys ≡ steps ++ []) c → Keeps TooMany c
few_ends front u steps c is e =
    let last : ProgramUnit = record u { body = e.0 } in
    let l = ap length e.1 in
    let m = length-append front (last ∷ []) in
    let some = is.some in
    let a = ap length e.2 in
    let b = length-append steps [] in
    let full = is.full in
    let short : length e.0.steps ≤ 4096 = omega (arith, a, b, full) in (
      omega (arith, l, m, some),
      subst (λ (us : List ProgramUnit). All (λ (v : ProgramUnit). length v.body.steps ≤ 4096) us) (sym e.1)
          (All-append (λ (v : ProgramUnit). length v.body.steps ≤ 4096) front (last ∷ []) is.few (All-cons (λ (v : ProgramUnit). length v.body.steps ≤ 4096) last [] short (All-nil (λ (v : ProgramUnit). length v.body.steps ≤ 4096)))),
    )

pub nested_ends : (front : List ProgramUnit) (u : ProgramUnit) (K : List Step → Type 0) (c : Config) → All (λ (v : ProgramUnit). greatest_depth 0 v.body.steps ≤ 16) front → ((ys : List Step) → K ys → IsShallow ys) → EndsIn front u K c → IsNested c
nested_ends front u K c low keeps e =
    let last : ProgramUnit = record u { body = e.0 } in
    subst (λ (us : List ProgramUnit). All (λ (v : ProgramUnit). greatest_depth 0 v.body.steps ≤ 16) us) (sym e.1)
    (All-append (λ (v : ProgramUnit). greatest_depth 0 v.body.steps ≤ 16) front (last ∷ []) low
    (All-cons (λ (v : ProgramUnit). greatest_depth 0 v.body.steps ≤ 16) last [] (keeps e.0.steps e.2) (All-nil (λ (v : ProgramUnit). greatest_depth 0 v.body.steps ≤ 16))))

-- fewer instructions open no more parentheses at once
deep_prefix : (depth : ℕ) (steps more : List Step) → greatest_depth depth (steps ++ []) ≤ greatest_depth depth (steps ++ more)
deep_prefix depth [] more = depth_least depth more
deep_prefix depth (s ∷ steps) more = let less = deep_prefix (depth_after depth s.instruction) steps more in omega (arith, less)

pub shallow_prefix : (steps more : List Step) → IsShallow (steps ++ more) → IsShallow (steps ++ [])
shallow_prefix steps more low = let less = deep_prefix 0 steps more in omega (arith, less, low)

-- TOKENS

pub same_bytes : (text other : List ℕ) (t : Token) (back ts us : List Token) → AreAlike text other (t ∷ back) ts us → HasSameBytes text other t
same_bytes text other t back [] us a = absurd (cc a.0)
same_bytes text other t back (u ∷ ts) us a = go a.3 (λ b. same_bytes text other t back ts a.0 b)
  where
    go : ((t ∷ back ≡ u ∷ ts) ⊎ AreAlike text other (t ∷ back) ts a.0) → (AreAlike text other (t ∷ back) ts a.0 → HasSameBytes text other t) → HasSameBytes text other t
    go (inl same) f = let first : t ≡ u = cc in subst (λ (x : Token). HasSameBytes text other x) (sym first) a.2
    go (inr b) f = f b

-- a label begins with a name, in each text that has its bytes
pub name_there : (text other : List ℕ) (t : Token) (back tail r : List Token) (n : Named) → HasSameBytes text other t → SpellsLabel other n (t ∷ tail) r → lead_at text (t ∷ back) ≡ lead_kind.Name
unfolding lead_at
name_there text other t back tail r n same w = ap (λ x. lead_of t.kind (keyword_of x)) (same_name text other t same) ∙ label_lead other n (t ∷ tail) r w

pub turn_is : (text : List ℕ) (t : Token) (back : List Token) → lead_at text (t ∷ back) ≡ lead_kind.Name → turn TooMany text (t ∷ back) ≡ back
turn_is text t back is = ap (λ l. past_name l (t ∷ back)) is

-- the colon after the name of a label, and what follows
pub label_rest : (text : List ℕ) (n : Named) (t x : Token) (tail r : List Token) → SpellsLabel text n (t ∷ x ∷ tail) r → (x.kind ≡ kind.Sign Colon) × (tail ≡ r)
label_rest text n t x tail r w = subst (λ (k : List Token). TheSign Colon k r) (sym w.1.2.1) w.2

-- an instruction that begins with a name
pub invoke_end : (text : List ℕ) (i : Instruction) (t x : Token) (tail m : List Token) → SpellsInstruction text i (t ∷ x ∷ tail) m → sort_of i ≡ invokes → IsEndOf m tail × ((depth : ℕ) → depth_after depth i ≤ depth)
invoke_end text (instruction.Invoke f ops) t x tail m w is =
    let start = w.1.2.1 in
    let less = (operands_fill ops).takes.less text w.0 m w.2 in
    let same = ap length start in
    (go (subst (λ (k : List Token). IsEndOf m k) (sym start) ((operands_fill ops).opens.ends text w.0 m w.2)) (omega (arith, less, same)), λ depth. omega arith)
  where
    go : IsEndOf m (x ∷ tail) → length m < length (x ∷ tail) → IsEndOf m tail
    go (inl e) l = let s = ap length e in absurd (omega (arith, s, l))
    go (inr e) l = e
invoke_end text (instruction.Load n o) t x tail m w is = absurd cc
invoke_end text (instruction.Store k o) t x tail m w is = absurd cc
invoke_end text instruction.Not t x tail m w is = absurd cc
invoke_end text (instruction.Operate op o) t x tail m w is = absurd cc
invoke_end text (instruction.Defer op o) t x tail m w is = absurd cc
invoke_end text instruction.Evaluate t x tail m w is = absurd cc
invoke_end text (instruction.Jump k n) t x tail m w is = absurd cc
invoke_end text (instruction.Return k) t x tail m w is = absurd cc
invoke_end text (instruction.Call k n a) t x tail m w is = absurd cc

-- THE FIRST OF TOO MANY, AND A FAULT BEHIND IT

module _ (text : List ℕ) (ts : List Token) (cut : AreTokens text 0 ts) (p : Place) (t : Token) (back : List Token) (e : Parts text ts p TooMany (t ∷ back)) where
  pub begun : IsBegun (λ vs c. GoesBeyond TooMany t c.units) text ts back
  begun =
      let w = e.with in
      let is : (◌≡◌ {A = List Token} (t ∷ back) (w.0 ∷ w.1)) = w.2 in
      let first : w.0 ≡ t = cc in
      let rest : w.1 ≡ back = cc in
      subst (λ (k : List Token). IsBegun (λ vs c. GoesBeyond TooMany t c.units) text ts k) rest (subst (λ (x : Token). IsBegun (λ vs c. GoesBeyond TooMany x c.units) text ts w.1) first w.3)

  pub begun_there : IsEndOf (t ∷ begun.2) begun.1
  begun_there = before_cut text begun.0 t back ts begun.1 begun.2 begun.4 e.inside

  pub back_inside : IsEndOf back ts
  back_inside = end_of_end back (t ∷ back) ts e.inside (inr (end_self back))

  module _ (other : List ℕ) (ws : List Token) (a : AreAlike text other (t ∷ back) ts ws) (d : Config) (v : AfterLines (SpellsConfig other d) ws []) where
    both_alike : AreAlike begun.0 other (t ∷ begun.2) begun.1 ws
    both_alike = alike_between text begun.0 other t back ts begun.1 begun.2 ws begun.4 a

    pub unit_in : UnitSurplus t begun.5 → HasUnit other t ws d
    unit_in s = found_unit begun.0 begun.1 begun.3 t begun.2 begun_there begun.5 begun.6 other ws both_alike d v s.front s.unit s.behind s.units s.few s.full s.there

    pub step_in : (s : StepSurplus t begun.5) → HasStep other t s.front s.steps ws d
    step_in s = found_step begun.0 begun.1 begun.3 t begun.2 begun_there begun.5 begun.6 other ws both_alike d v s.front s.unit s.behind s.units s.steps s.more s.step s.split s.number s.there

  -- a text that goes on up to the other fault
  module _ (q : Place) (error : SyntaxError) (at : List Token) (f : Parts text ts q error at) (k : IsEndOf at back) where
    pub alike_f : AreAlike text f.before.0 (t ∷ back) ts f.before.1
    alike_f = cut_alike text f.before.0 at t back ts f.before.1 f.before.2 f.before.4 e.inside k

    pub mid_f : (ms : List Token) × IsCut text f.before.0 back ts f.before.1 ms × IsCut text f.before.0 at back ms f.before.2
    mid_f = cut_earlier text f.before.0 at back ts f.before.1 f.before.2 f.before.4 k back_inside

    pub there_f : IsEndOf (t ∷ mid_f.0) f.before.1
    there_f = before_cut text f.before.0 t back ts f.before.1 mid_f.0 mid_f.1 e.inside

    -- it has no unit too many
    pub no_unit : UnitSurplus t begun.5 → ⊥
    no_unit s =
        let h = unit_in f.before.0 f.before.1 alike_f f.before.5 f.before.6 s in
        let few = f.before.7.1 in
        let l = ap length h.units in
        let m = length-append h.front (h.unit ∷ h.more) in
        let full = h.full in
        omega (arith, few, l, m, full)

    -- and the token is a label in it
    pub the_step : (s : StepSurplus t begun.5) → HasStep f.before.0 t s.front s.steps f.before.1 f.before.5
    the_step s = step_in f.before.0 f.before.1 alike_f f.before.5 f.before.6 s

    pub the_label : (s : StepSurplus t begun.5) → IsLabel f.before.0 t (the_step s).it.here
    the_label s = go (the_step s).it.outcome
      where
        go : IsStep t (the_step s).it.more ⊎ IsLabel f.before.0 t (the_step s).it.here → IsLabel f.before.0 t (the_step s).it.here
        go (inr l) = l
        go (inl x) =
            let h = the_step s in
            let all = subst (λ (us : List ProgramUnit). All (λ (u : ProgramUnit). IsLateSurplus f.before.2 u.body.steps) us) h.units f.before.7.2 in
            let own = All-head (λ (u : ProgramUnit). IsLateSurplus f.before.2 u.body.steps) h.unit h.more (all_parts (λ (u : ProgramUnit). IsLateSurplus f.before.2 u.body.steps) s.front (h.unit ∷ h.more) all).1 in
            let split = h.it.steps ∙ ap (λ (ys : List Step). s.steps ++ ys) x.2 in
            let among = own x.0 (numbered h.unit.body.steps s.steps x.1 x.0 s.before.full split) in
            absurd (stands_late f.before.0 f.before.1 t mid_f.0 f.before.2 x.0.place f.before.3 there_f (cut_rest text f.before.0 at back mid_f.0 f.before.2 mid_f.2) among x.3)

    -- so it is a name
    pub is_name : StepSurplus t begun.5 → lead_at text (t ∷ back) ≡ lead_kind.Name
    is_name s = let l = the_label s in name_there text f.before.0 t back l.1 l.4 l.3 (same_bytes text f.before.0 t back ts f.before.1 alike_f) l.5
