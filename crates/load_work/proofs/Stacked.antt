-- The table of what is left, place by place.
use Rattle.std.proofs.Common.{◌≡◌, ℕ, suc, ◌+◌, ◌-◌, ◌<◌, ◌≤◌, Bool, true, false, List, [], ◌∷◌, ◌++◌, drop, length, get_or, refl, sym, ap, ◌∙◌, arith, slice_get, Some, None, inl, inr, if◌then◌else◌}
use Rattle.std.specs.Prelude.{nat_lt}
use Rattle.std.proofs.lemmas.Bool.{cases_lt, lt-ltb}
use Rattle.std.proofs.lemmas.Bool.Decides.{nat_tests}
use Rattle.std.proofs.lemmas.Option.{slice_get-get_or, get_or_from_slice_get}
use Rattle.std.proofs.lemmas.List.{at_drop_more}
use Rattle.load_budgets.specs.declared.ways.Way.TheVariants.{Next}
use Rattle.load_budgets.proofs.Agreeing.{get_last, get_before, longer}
use Rattle.load_work.specs.declared.weights.Weighed.{Weighed}
use Rattle.load_work.specs.Sizes.{number_or}
use Rattle.load_work.specs.Table.{left_up, lefts_above, way_work}

-- one place more
one_back_by : (works : List ℕ) (all : List Weighed) (passed at : ℕ) (w : Weighed) (lefts more : List ℕ) → passed < length all → at ≡ length all - 1 - passed → w ≡ get_or all at w
    → lefts ≡ lefts_above works (length all - passed) (drop (length all - passed) all) → more ≡ lefts ++ way_work works lefts (at + 1) w.moves w.way ∷ []
    → more ≡ lefts_above works (length all - (passed + 1)) (drop (length all - (passed + 1)) all)
one_back_by works all passed at w lefts more low is_at is_w before is =
    let place : length all - (passed + 1) ≡ at = omega (arith, low, is_at) in
    let behind : length all - passed ≡ at + 1 = omega (arith, low, is_at) in
    let same : lefts ≡ lefts_above works (at + 1) (drop (at + 1) all) = before ∙ ap (λ k. lefts_above works k (drop k all)) behind in
    is ∙ ap (λ ls. ls ++ way_work works ls (at + 1) w.moves w.way ∷ []) same
    ∙ ap (λ (v : Weighed). lefts_above works (at + 1) (drop (at + 1) all) ++ way_work works (lefts_above works (at + 1) (drop (at + 1) all)) (at + 1) v.moves v.way ∷ []) is_w
    ∙ sym (at_drop_more (lefts_above works at) all at w (omega (arith, low, is_at)))
    ∙ ap (λ k. lefts_above works k (drop k all)) (sym place)

pub one_back : (works : List ℕ) (all : List Weighed) (passed : ℕ) (lefts more : List ℕ) → passed < length all
    → lefts ≡ lefts_above works (length all - passed) (drop (length all - passed) all)
    → ((w : Weighed) → slice_get all (length all - 1 - passed) ≡ Some w → more ≡ lefts ++ way_work works lefts (length all - 1 - passed + 1) w.moves w.way ∷ [])
    → more ≡ lefts_above works (length all - (passed + 1)) (drop (length all - (passed + 1)) all)
one_back works all passed lefts more low before is =
    let at : ℕ = length all - 1 - passed in
    let some : Weighed = record { way = Next None; moves = 0 } in
    let w : Weighed = get_or all at some in
    let stands : slice_get all at ≡ Some w = slice_get-get_or all at some (omega (arith, low)) in
    one_back_by works all passed at w lefts more low refl (sym (get_or_from_slice_get all at w w stands)) before (is w stands)

-- one that was added last is on top
chosen : (t : Bool) (n : ℕ) → t ≡ true → (if t then n else 0) ≡ n
chosen true n e = refl
chosen false n e = let bad : false ≡ true = e in cc

left_out : (t : Bool) (n : ℕ) → t ≡ false → (if t then n else 0) ≡ 0
left_out true n e = let bad : true ≡ false = e in cc
left_out false n e = refl

pub on_top : (lefts : List ℕ) (n : ℕ) → left_up (lefts ++ n ∷ []) 0 ≡ n
on_top lefts n =
    let long = longer lefts n in
    chosen (nat_lt 0 (length (lefts ++ n ∷ []))) _ (lt-ltb _ _ (omega (arith, long)))
    ∙ ap (λ k. number_or (slice_get (lefts ++ n ∷ []) k)) (let e : length (lefts ++ n ∷ []) - 1 - 0 ≡ length lefts = omega (arith, long) in e) ∙ ap number_or (get_last lefts n)

-- and those below it are as before
pub under_top : (lefts : List ℕ) (n k : ℕ) → left_up (lefts ++ n ∷ []) (suc k) ≡ left_up lefts k
under_top lefts n k = elim (cases_lt k (length lefts)) [
  | inl low ↦
      chosen (nat_lt (suc k) (length (lefts ++ n ∷ []))) _ (lt-ltb _ _ (let long = longer lefts n in omega (arith, long, low)))
      ∙ ap (λ j. number_or (slice_get (lefts ++ n ∷ []) j)) (let long = longer lefts n in let e : length (lefts ++ n ∷ []) - 1 - suc k ≡ length lefts - 1 - k = omega (arith, long, low) in e)
      ∙ ap number_or (get_before lefts n (length lefts - 1 - k) (omega (arith, low))) ∙ sym (chosen (nat_lt k (length lefts)) _ (lt-ltb _ _ low))
  | inr high ↦
      left_out (nat_lt (suc k) (length (lefts ++ n ∷ []))) _ (not_below (suc k) (length (lefts ++ n ∷ [])) (let long = longer lefts n in omega (arith, long, high)))
      ∙ sym (left_out (nat_lt k (length lefts)) _ (not_below k (length lefts) high))
]
  where
    not_below : (a b : ℕ) → b ≤ a → nat_lt a b ≡ false
    not_below a b le = grind (arith, nat_tests)
