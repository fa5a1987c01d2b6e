-- No fault follows one of too many.
use Rattle.std.specs.Prelude.{◌⊎◌, ⊤}
use Rattle.std.specs.List.{All, slice_get}
use Rattle.std.proofs.Common.{◌≡◌, ◌<◌, ◌≤◌, ℕ, List, [], ◌∷◌, ◌++◌, length, refl, sym, ◌∙◌, ap, subst, inl, inr, arith, Some}
use Rattle.std.proofs.lemmas.List.Elements.{All-head, All-tail}
use Rattle.il_syntax.specs.declared.token.Token.{Token}
use Rattle.il_syntax.specs.declared.token.Kind.TheVariants as kind
use Rattle.il_syntax.specs.declared.token.Sign.TheVariants.{Colon}
use Rattle.il_syntax.specs.declared.tree.Place.{Place}
use Rattle.il_syntax.specs.declared.tree.Instruction.{Instruction}
use Rattle.il_syntax.specs.declared.tree.Instruction.TheVariants as instruction
use Rattle.il_syntax.specs.declared.tree.Step.{Step}
use Rattle.il_syntax.specs.declared.tree.Unit.{Unit as ProgramUnit}
use Rattle.il_syntax.specs.declared.tree.Config.{Config}
use Rattle.il_syntax.specs.Text.{AreTokens, name_of}
use Rattle.il_syntax.specs.Words.{keyword_of}
use Rattle.il_syntax.specs.Grammar.{AfterLines, TheWord, SpellsInstruction, SpellsLabel, SpellsConfig, skip_line_ends, greatest_depth, unit_word}
use Rattle.il_syntax_laws.specs.Alike.{HasSameBytes, IsEndOf, AreAlike}
use Rattle.il_syntax_laws.specs.GoesOn.{IsCut}
use Rattle.il_syntax_laws.proofs.Alike.{end_same, end_self, end_of_end, alike_self, loose_gap}
use Rattle.il_syntax_laws.proofs.Leads.{lead, lead_of, at_holds}
use Rattle.il_syntax_laws.proofs.Instructions.{none, invokes, sort_at, sort_of, instruction_sort}
use Rattle.il_syntax_laws.proofs.Bodies.{label_lead}
use Rattle.il_syntax_laws.proofs.Local.{same_name}
use Rattle.load_lines.specs.declared.stop.SyntaxError.{SyntaxError}
use Rattle.load_lines.specs.declared.stop.SyntaxError.TheVariants.{Unexpected, TooDeep, TooMany}
use Rattle.load_tree.specs.Refused.{IsItsPlace, IsLateSurplus, GoesBeyond, IsBegun}
use Rattle.load_tree.proofs.Begun.{behind_all}
use Rattle.il_fault_laws.proofs.Parts.{Parts, starts_rise, one_start}
use Rattle.il_fault_laws.proofs.Order.{cut_alike}
use Rattle.il_fault_laws.proofs.Surplus.{IsStep, IsLabel, at_token}
use Rattle.il_fault_laws.proofs.Through.{cut_earlier, through, before_cut, next_cut}
use Rattle.il_fault_laws.proofs.Found.{HasStep, IsFront, found_step, in_unit}
use Rattle.il_fault_laws.proofs.Ends.{IsShallow, inner, behind_label, behind_step, own_rest, label_inside, here_inside}
use Rattle.il_fault_laws.proofs.Many.{StepSurplus, UnitSurplus, surplus_of, few_at, all_parts, stands_late, numbered, few_ends, nested_ends, shallow_prefix, same_bytes, turn_is, label_rest, invoke_end, begun, begun_there, back_inside, step_in, mid_f, there_f, no_unit, the_step, the_label, is_name, alike_f}

module _ (text : List ℕ) (ts : List Token) (cut : AreTokens text 0 ts) where
  -- after the token after it
  pub many_then_later : (p q : Place) (t x : Token) (back at : List Token) (error : SyntaxError) → Parts text ts p TooMany (t ∷ x ∷ back) → Parts text ts q error at → IsEndOf at back → ⊥
  many_then_later p q t x back at error e f k =
      let b = begun text ts cut p t (x ∷ back) e in
      go (surplus_of t b.5 b.7)
    where
      near : IsEndOf at (x ∷ back)
      near = inr k

      go : UnitSurplus t (begun text ts cut p t (x ∷ back) e).5 ⊎ StepSurplus t (begun text ts cut p t (x ∷ back) e).5 → ⊥
      go (inl s) = no_unit text ts cut p t (x ∷ back) e q error at f near s
      go (inr s) =
          let other = f.before.0 in
          let ws = f.before.1 in
          let h = the_step text ts cut p t (x ∷ back) e q error at f near s in
          let l = the_label text ts cut p t (x ∷ back) e q error at f near s in
          let m = mid_f text ts cut p t (x ∷ back) e q error at f near in
          let inside = back_inside text ts cut p t (x ∷ back) e in
          let n = cut_earlier text other at back ts ws f.before.2 f.before.4 k (end_of_end back (x ∷ back) ts inside (inr (end_self back))) in
          let behind = next_cut text other x back ts ws m.0 n.0 m.1 n.1 in
          let one : (◌≡◌ {A = List Token} (t ∷ l.1) (t ∷ m.0)) =
          one_start other ws t t l.1 m.0 f.before.3 (label_inside other ws t s.front s.steps f.before.5 h l) (there_f text ts cut p t (x ∷ back) e q error at f near) refl in
          let tail : l.1 ≡ m.0 = cc in
          let rest = label_rest other l.3 t x n.0 l.4 (subst (λ (j : List Token). SpellsLabel other l.3 (t ∷ j) l.4) (tail ∙ behind) l.5) in
          let g = behind_label other ws f.before.3 t s.front s.steps f.before.5 h l in
          let a = through text other g.0 x back ts ws n.0 l.4 g.1 g.2 n.1 g.4 (end_same n.0 l.4 rest.1) inside in
          let turned = turn_is text t (x ∷ back) (is_name text ts cut p t (x ∷ back) e q error at f near s) in
          e.nowhere g.0 g.1 (subst (λ (j : List Token). AreAlike text g.0 j ts g.1) (sym turned) a) g.5 g.6 (few_ends s.front h.unit s.steps g.5 s.before g.7)

  -- an unexpected token directly after it
  pub many_then_unexpected : (p q : Place) (t : Token) (back : List Token) → Parts text ts p TooMany (t ∷ back) → Parts text ts q Unexpected back → ⊥
  many_then_unexpected p q t back e f =
      let b = begun text ts cut p t back e in
      let there = begun_there text ts cut p t back e in
      let late = f.early b.0 b.1 b.2 b.4 b.5 b.6 in
      elim (surplus_of t b.5 b.7) [
        | inl s ↦
            let number = ap (λ (us : List ProgramUnit). slice_get us 64) s.units ∙ behind_all s.front s.unit s.behind 64 s.full in
            stands_late b.0 b.1 t b.2 b.2 s.unit.place b.3 there (end_self b.2) (late.0 s.unit number) s.there
        | inr s ↦
            let all = subst (λ (us : List ProgramUnit). All (λ (u : ProgramUnit). IsLateSurplus b.2 u.body.steps) us) s.units late.1 in
            let own = All-head (λ (u : ProgramUnit). IsLateSurplus b.2 u.body.steps) s.unit s.behind (all_parts (λ (u : ProgramUnit). IsLateSurplus b.2 u.body.steps) s.front (s.unit ∷ s.behind) all).1 in
            stands_late b.0 b.1 t b.2 b.2 s.step.place b.3 there (end_self b.2) (own s.step s.number) s.there
      ]

-- TWO OF TOO MANY

-- two ways to split a list: where one front is longer, the other thing is in it
split_two : (P : ProgramUnit → Type 0) (xs ys : List ProgramUnit) (x y : ProgramUnit) (ms ns : List ProgramUnit) → xs ++ x ∷ ms ≡ ys ++ y ∷ ns → All P xs → All P ys → (P y × (length ys < length xs)) ⊎ ((x ≡ y) × (length xs ≡ length ys)) ⊎ P x
split_two P [] [] x y ms ns e a b = inr (inl (cc, refl))
split_two P [] (z ∷ ys) x y ms ns e a b = let same : x ≡ z = cc in inr (inr (subst P (sym same) (All-head P z ys b)))
split_two P (z ∷ xs) [] x y ms ns e a b = let same : z ≡ y = cc in inl (subst P same (All-head P z xs a), omega arith)
split_two P (z ∷ xs) (w ∷ ys) x y ms ns e a b =
    let rest : xs ++ x ∷ ms ≡ ys ++ y ∷ ns = cc in
    go (split_two P xs ys x y ms ns rest (All-tail P z xs a) (All-tail P w ys b))
  where
    go : (P y × (length ys < length xs)) ⊎ ((x ≡ y) × (length xs ≡ length ys)) ⊎ P x → (P y × (length (w ∷ ys) < length (z ∷ xs))) ⊎ ((x ≡ y) × (length (z ∷ xs) ≡ length (w ∷ ys))) ⊎ P x
    go (inl k) = let l = k.1 in inl (k.0, omega (arith, l))
    go (inr (inl k)) = let l = k.1 in inr (inl (k.0, omega (arith, l)))
    go (inr (inr k)) = inr (inr k)

-- an instruction is of some sort
sort_some : (i : Instruction) → sort_of i ≡ none → ⊥
sort_some (instruction.Load n o) e = cc
sort_some (instruction.Store k o) e = cc
sort_some instruction.Not e = cc
sort_some (instruction.Operate op o) e = cc
sort_some (instruction.Defer op o) e = cc
sort_some instruction.Evaluate e = cc
sort_some (instruction.Jump k n) e = cc
sort_some (instruction.Return k) e = cc
sort_some (instruction.Call k n a) e = cc
sort_some (instruction.Invoke f a) e = cc

-- nothing that is too many begins with a colon
no_colon : (text : List ℕ) (ts : List Token) (cut : AreTokens text 0 ts) (x : Token) (back : List Token) (there : IsEndOf (x ∷ back) ts) (c : Config) → AfterLines (SpellsConfig text c) ts [] → x.kind ≡ kind.Sign Colon → UnitSurplus x c ⊎ StepSurplus x c → ⊥
no_colon text ts cut x back there c w colon (inl s) =
    let k = in_unit text ts cut x back there c w s.front s.unit s.behind s.units in
    let inside = end_of_end k.0 (skip_line_ends ts) ts (loose_gap.ends ts) k.4 in
    let here = at_token text text ts cut x back there (TheWord text (unit_word s.unit.kind)) s.unit.place k.0 k.3.1.0 inside s.there k.3.1.1 in
    let first = subst (λ (j : List Token). TheWord text (unit_word s.unit.kind) j k.3.1.0) here (at_holds text (TheWord text (unit_word s.unit.kind)) s.unit.place k.0 k.3.1.0 k.3.1.1) in
    let word : x.kind ≡ kind.Word = first.0.0 in
    cc
no_colon text ts cut x back there c w colon (inr s) =
    let h = found_step text ts cut x back there c w text ts (alike_self text (x ∷ back) ts there) c w s.front s.unit s.behind s.units s.steps s.more s.step s.split s.number s.there in
    go h h.it.outcome
  where
    go : (h : HasStep text x s.front s.steps ts c) → IsStep x h.it.more ⊎ IsLabel text x h.it.here → ⊥
    go h (inl y) =
        let rest = own_rest text ts cut x s.front s.steps c h y.0 y.1 y.2 in
        let k = inner text y.0.labels y.0.place (SpellsInstruction text y.0.instruction) h.it.here rest.0 rest.1 in
        let inside = end_of_end k.0 h.it.here ts (here_inside text ts x s.front s.steps c h) k.1 in
        let here = at_token text text ts cut x back there (SpellsInstruction text y.0.instruction) y.0.place k.0 rest.0 inside y.3 k.2 in
        let own = subst (λ (j : List Token). SpellsInstruction text y.0.instruction j rest.0) here (at_holds text (SpellsInstruction text y.0.instruction) y.0.place k.0 rest.0 k.2) in
        let sort = instruction_sort text y.0.instruction (x ∷ back) rest.0 own in
        let is : sort_at (lead text (x ∷ back)) ≡ none = ap (λ j. sort_at (lead_of j (keyword_of (name_of text x)))) colon in
        sort_some y.0.instruction (sym sort ∙ is)
    go h (inr l) = let word : x.kind ≡ kind.Word = l.5.1.2.0.0 in cc

-- where an instruction is the first that is too many, nothing after it is
first_alone : (text : List ℕ) (ts : List Token) (t x : Token) (tail back : List Token) (c : Config) (front : List ProgramUnit) (steps : List Step) (h : HasStep text t front steps ts c) → AreTokens text 0 ts → IsEndOf (t ∷ tail) ts → IsEndOf (x ∷ back) tail
    → IsFront front steps → IsStep t h.it.more → UnitSurplus x c ⊎ StepSurplus x c → ⊥
first_alone text ts t x tail back c front steps h cut there behind is y u = go u
  where
    number : slice_get h.unit.body.steps 4096 ≡ Some y.0
    number = numbered h.unit.body.steps steps y.1 y.0 is.full (h.it.steps ∙ ap (λ (ys : List Step). steps ++ ys) y.2)

    few : ProgramUnit → Type 0
    few v = length v.body.steps ≤ 4096

    unit_too : (u : UnitSurplus x c) → (few u.unit × (length u.front < length front)) ⊎ ((h.unit ≡ u.unit) × (length front ≡ length u.front)) ⊎ few h.unit → ⊥
    unit_too u (inl k) = let less = k.1 in let full = u.full in let some = is.some in omega (arith, less, full, some)
    unit_too u (inr (inl k)) = let same = k.1 in let full = u.full in let some = is.some in omega (arith, same, full, some)
    unit_too u (inr (inr k)) = few_at h.unit.body.steps y.0 k number

    step_too : (u : StepSurplus x c) → (few u.unit × (length u.front < length front)) ⊎ ((h.unit ≡ u.unit) × (length front ≡ length u.front)) ⊎ few h.unit → ⊥
    step_too u (inl k) = few_at u.unit.body.steps u.step k.0 u.number
    step_too u (inr (inl k)) =
        let other : slice_get u.unit.body.steps 4096 ≡ Some y.0 = subst (λ (v : ProgramUnit). slice_get v.body.steps 4096 ≡ Some y.0) k.0 number in
        let mine = u.number in
        let same : u.step ≡ y.0 = cc in
        let at_x = subst (λ (s : Step). IsItsPlace x s.place) same u.there in
        let less = starts_rise text 0 ts t tail x back cut there behind in
        let a = at_x.0 in
        let b = y.3.0 in
        omega (arith, less, a, b)
    step_too u (inr (inr k)) = few_at h.unit.body.steps y.0 k number

    go : UnitSurplus x c ⊎ StepSurplus x c → ⊥
    go (inl u) = unit_too u (split_two few front u.front h.unit u.unit h.more u.behind (sym h.units ∙ u.units) is.few u.few)
    go (inr u) = step_too u (split_two few front u.front h.unit u.unit h.more u.behind (sym h.units ∙ u.units) is.few u.before.few)

module _ (text : List ℕ) (ts : List Token) (cut : AreTokens text 0 ts) (p q : Place) (t x : Token) (back : List Token) (e : Parts text ts p TooMany (t ∷ x ∷ back)) where
  -- a text that goes on with the token after it
  module _ (K : List Token → Config → Type 0) (g : IsBegun K text ts back) where
    alike_g : AreAlike text g.0 (t ∷ x ∷ back) ts g.1
    alike_g = cut_alike text g.0 back t (x ∷ back) ts g.1 g.2 g.4 e.inside (inr (end_self back))

    mid_g : (ms : List Token) × IsCut text g.0 (x ∷ back) ts g.1 ms × IsCut text g.0 back (x ∷ back) ms g.2
    mid_g = cut_earlier text g.0 back (x ∷ back) ts g.1 g.2 g.4 (inr (end_self back)) (back_inside text ts cut p t (x ∷ back) e)

    tail_g : mid_g.0 ≡ x ∷ g.2
    tail_g = next_cut text g.0 x back ts g.1 mid_g.0 g.2 mid_g.1 g.4

    there_g : IsEndOf (t ∷ x ∷ g.2) g.1
    there_g = subst (λ (j : List Token). IsEndOf (t ∷ j) g.1) tail_g (before_cut text g.0 t (x ∷ back) ts g.1 mid_g.0 mid_g.1 e.inside)

    step_g : (s : StepSurplus t (begun text ts cut p t (x ∷ back) e).5) → HasStep g.0 t s.front s.steps g.1 g.5
    step_g s = step_in text ts cut p t (x ∷ back) e g.0 g.1 alike_g g.5 g.6 s

    -- a label there has its colon after it
    colon_g : (s : StepSurplus t (begun text ts cut p t (x ∷ back) e).5) → (l : IsLabel g.0 t (step_g s).it.here) → (x.kind ≡ kind.Sign Colon) × (g.2 ≡ l.4)
    colon_g s l =
        let one : (◌≡◌ {A = List Token} (t ∷ l.1) (t ∷ x ∷ g.2)) = one_start g.0 g.1 t t l.1 (x ∷ g.2) g.3 (label_inside g.0 g.1 t s.front s.steps g.5 (step_g s) l) there_g refl in
        let tail : l.1 ≡ x ∷ g.2 = cc in
        label_rest g.0 l.3 t x g.2 l.4 (subst (λ (j : List Token). SpellsLabel g.0 l.3 (t ∷ j) l.4) tail l.5)

  -- one more of too many directly after it
  pub many_then_many : Parts text ts q TooMany (x ∷ back) → ⊥
  many_then_many f =
      let b = begun text ts cut p t (x ∷ back) e in
      go (surplus_of t b.5 b.7)
    where
      go : UnitSurplus t (begun text ts cut p t (x ∷ back) e).5 ⊎ StepSurplus t (begun text ts cut p t (x ∷ back) e).5 → ⊥
      go (inl s) = no_unit text ts cut p t (x ∷ back) e q TooMany (x ∷ back) f (end_self (x ∷ back)) s
      go (inr s) = on (surplus_of x g.5 g.7) h.it.outcome
        where
          g : IsBegun (λ vs c. GoesBeyond TooMany x c.units) text ts back
          g = begun text ts cut q x back f

          h : HasStep g.0 t s.front s.steps g.1 g.5
          h = step_g (λ vs c. GoesBeyond TooMany x c.units) g s

          on : UnitSurplus x g.5 ⊎ StepSurplus x g.5 → IsStep t h.it.more ⊎ IsLabel g.0 t h.it.here → ⊥
          on u (inr l) = no_colon g.0 g.1 g.3 x g.2 (begun_there text ts cut q x back f) g.5 g.6 (colon_g (λ vs c. GoesBeyond TooMany x c.units) g s l).0 u
          on u (inl y) = first_alone g.0 g.1 t x (x ∷ g.2) g.2 g.5 s.front s.steps h g.3 (there_g (λ vs c. GoesBeyond TooMany x c.units) g) (end_self (x ∷ g.2)) s.before y u

  -- a parenthesis too deep directly after it
  pub many_then_deep : Parts text ts q TooDeep (x ∷ back) → ⊥
  many_then_deep f =
      let b = begun text ts cut p t (x ∷ back) e in
      go (surplus_of t b.5 b.7)
    where
      go : UnitSurplus t (begun text ts cut p t (x ∷ back) e).5 ⊎ StepSurplus t (begun text ts cut p t (x ∷ back) e).5 → ⊥
      go (inl s) = no_unit text ts cut p t (x ∷ back) e q TooDeep (x ∷ back) f (end_self (x ∷ back)) s
      go (inr s) = on h.it.outcome
        where
          g : IsBegun (λ vs c. ⊤) text ts back
          g =
              let w = f.with in
              let is : (◌≡◌ {A = List Token} (x ∷ back) (w.0 ∷ w.1)) = w.2 in
              let rest : w.1 ≡ back = cc in
              subst (λ (k : List Token). IsBegun (λ vs c. ⊤) text ts k) rest w.3

          h : HasStep g.0 t s.front s.steps g.1 g.5
          h = step_g (λ vs c. ⊤) g s

          -- the text that goes on up to the parenthesis is shallow
          own : HasStep f.before.0 t s.front s.steps f.before.1 f.before.5
          own = the_step text ts cut p t (x ∷ back) e q TooDeep (x ∷ back) f (end_self (x ∷ back)) s

          low : All (λ (v : ProgramUnit). greatest_depth 0 v.body.steps ≤ 16) s.front × All (λ (v : ProgramUnit). greatest_depth 0 v.body.steps ≤ 16) (own.unit ∷ own.more)
          low =
              all_parts (λ (v : ProgramUnit). greatest_depth 0 v.body.steps ≤ 16) s.front (own.unit ∷ own.more)
              (subst (λ (us : List ProgramUnit). All (λ (v : ProgramUnit). greatest_depth 0 v.body.steps ≤ 16) us) own.units f.before.7.0)

          shallow : IsShallow (s.steps ++ own.it.more)
          shallow = subst (λ (ys : List Step). IsShallow ys) own.it.steps (All-head (λ (v : ProgramUnit). greatest_depth 0 v.body.steps ≤ 16) own.unit own.more low.1)

          inside : IsEndOf (x ∷ back) ts
          inside = back_inside text ts cut p t (x ∷ back) e

          -- the token is a name in all three texts
          bytes_f : HasSameBytes text f.before.0 t
          bytes_f = same_bytes text f.before.0 t (x ∷ back) ts f.before.1 (alike_f text ts cut p t (x ∷ back) e q TooDeep (x ∷ back) f (end_self (x ∷ back)))

          bytes_g : HasSameBytes text g.0 t
          bytes_g = same_bytes text g.0 t (x ∷ back) ts g.1 (alike_g (λ vs c. ⊤) g)

          named : sort_at (lead g.0 (t ∷ x ∷ g.2)) ≡ invokes
          named =
              let l = the_label text ts cut p t (x ∷ back) e q TooDeep (x ∷ back) f (end_self (x ∷ back)) s in
              let same = sym (same_name text g.0 t bytes_g) ∙ same_name text f.before.0 t bytes_f in
              ap (λ w. sort_at (lead_of t.kind (keyword_of w))) same ∙ ap sort_at (label_lead f.before.0 l.3 (t ∷ l.1) l.4 l.5)

          on : IsStep t h.it.more ⊎ IsLabel g.0 t h.it.here → ⊥
          on (inr l) =
              let o = behind_label g.0 g.1 g.3 t s.front s.steps g.5 h l in
              let a = through text g.0 o.0 x back ts g.1 g.2 l.4 o.1 o.2 g.4 o.4 (end_same g.2 l.4 (colon_g (λ vs c. ⊤) g s l).1) inside in
              f.nowhere o.0 o.1 a o.5 o.6 (nested_ends s.front h.unit (λ ys. ys ≡ s.steps ++ []) o.5 low.0 (λ ys is. subst (λ (zs : List Step). IsShallow zs) (sym is) (shallow_prefix s.steps own.it.more shallow)) o.7)
          on (inl y) =
              let rest = own_rest g.0 g.1 g.3 t s.front s.steps g.5 h y.0 y.1 y.2 in
              let k = inner g.0 y.0.labels y.0.place (SpellsInstruction g.0 y.0.instruction) h.it.here rest.0 rest.1 in
              let in_g = end_of_end k.0 h.it.here g.1 (here_inside g.0 g.1 t s.front s.steps g.5 h) k.1 in
              let here = at_token g.0 g.0 g.1 g.3 t (x ∷ g.2) (there_g (λ vs c. ⊤) g) (SpellsInstruction g.0 y.0.instruction) y.0.place k.0 rest.0 in_g y.3 k.2 in
              let it = subst (λ (j : List Token). SpellsInstruction g.0 y.0.instruction j rest.0) here (at_holds g.0 (SpellsInstruction g.0 y.0.instruction) y.0.place k.0 rest.0 k.2) in
              let sort = sym (instruction_sort g.0 y.0.instruction (t ∷ x ∷ g.2) rest.0 it) ∙ named in
              let end = invoke_end g.0 y.0.instruction t x g.2 rest.0 it sort in
              let o = behind_step g.0 g.1 g.3 t s.front s.steps g.5 h y.0 y.1 y.2 own.it.more shallow end.1 in
              let a = through text g.0 o.0 x back ts g.1 g.2 rest.0 o.1 o.2 g.4 o.4 end.0 inside in
              f.nowhere o.0 o.1 a o.5 o.6 (nested_ends s.front h.unit IsShallow o.5 low.0 (λ ys is. is) o.7)
