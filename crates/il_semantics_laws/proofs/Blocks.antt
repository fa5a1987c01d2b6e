-- The variables that a call of a standard block leaves lie in their declared sets.
use Rattle.std.proofs.Common.{◌≡◌, Bool, true, false, ◌&&◌, not, List, [], ◌∷◌, ◌++◌, refl, sym, cond, subst, T, codes, ℤ, pos, negsuc, ◌+ℤ◌, ◌-ℤ◌, ◌≤ℤ◌, ◌<ℤ◌, arith}
use Rattle.std.proofs.lemmas.Int.{ints, clamps}
use Rattle.std.specs.Prelude.{Contains, int_lt}
use Rattle.il_syntax.specs.declared.tree.Elementary.{Elementary}
use Rattle.il_syntax.specs.declared.tree.Elementary.TheVariants.{Bool as BoolType, Int, Time}
use Rattle.il_syntax.specs.declared.tree.Form.{Form}
use Rattle.il_syntax.specs.declared.tree.Form.TheVariants.{Scalar as ScalarForm}
use Rattle.il_syntax.specs.ElementaryTypes.{plain, limits, LiesIn}
use Rattle.il_statics.specs.declared.names.StandardBlock.{StandardBlock}
use Rattle.il_statics.specs.declared.names.StandardBlock.TheVariants.{Sr, Rs, RTrig, FTrig, Ctu, Ctd, Ctud, Tp, Ton, Tof}
use Rattle.il_statics.specs.Names.{standard_inputs, standard_outputs, standard_inner}
use Rattle.il_blocks.specs.Blocks.{counted_up, counted_down, ctud_edges, elapsed, ton_elapsed, DelayTimer, tof_by, PulseTimer, tp_begun}
use Rattle.il_semantics.specs.declared.value.Value.{Value}
use Rattle.base_maps.specs.NameMap.{Text}
use Rattle.il_semantics.specs.Values.{IsOf}
use Rattle.il_semantics.specs.State.{Values}
use Rattle.il_semantics.specs.Step.{flag, count, standard_call}

-- NUMBERS

abbrev pub IsInt : ℤ → Type 0
IsInt z = (negsuc 32767 ≤ℤ z) × (z ≤ℤ pos 32767)

abbrev pub IsTime : ℤ → Type 0
IsTime z = (pos 0 ≤ℤ z) × (z ≤ℤ pos 2147483647)

below : (x y : ℤ) → int_lt x y ≡ true → x <ℤ y
below x y e = record { lt = subst T (sym e) tt }

up_in : (z : ℤ) → IsInt z → IsInt (counted_up z)
up_in z h = by_test (int_lt z (pos 32767)) refl
  where
    by_test : (b : Bool) → int_lt z (pos 32767) ≡ b → IsInt (cond b (z +ℤ pos 1) z)
    by_test true e = let less = below z (pos 32767) e in (omega (arith, ints), omega (arith, ints))
    by_test false e = h

down_in : (z : ℤ) → IsInt z → IsInt (counted_down z)
down_in z h = by_test (int_lt (negsuc 32767) z) refl
  where
    by_test : (b : Bool) → int_lt (negsuc 32767) z ≡ b → IsInt (cond b (z -ℤ pos 1) z)
    by_test true e = let less = below (negsuc 32767) z e in (omega (arith, ints), omega (arith, ints))
    by_test false e = h

zero_int : IsInt (pos 0)
zero_int = (omega (arith, ints), omega (arith, ints))

zero_time : IsTime (pos 0)
zero_time = (omega (arith, ints), omega (arith, ints))

cond_in : (P : ℤ → Type 0) (b : Bool) (x y : ℤ) → P x → P y → P (cond b x y)
cond_in P true x y h k = h
cond_in P false x y h k = k

edges_in : (up down : Bool) (z : ℤ) → IsInt z → IsInt (ctud_edges up down z)
edges_in true true z h = h
edges_in true false z h = up_in z h
edges_in false true z h = down_in z h
edges_in false false z h = h

elapsed_in : (preset before last now : ℤ) → IsTime preset → IsTime before → IsTime (elapsed preset before last now)
elapsed_in preset before last now h k = (omega (arith, ints, clamps), omega (arith, ints, clamps))

ton_in : (input run : Bool) (z : ℤ) → IsTime z → IsTime (ton_elapsed input run z)
ton_in true true z h = h
ton_in true false z h = zero_time
ton_in false run z h = zero_time

-- TIMERS

record DelayIn (b : DelayTimer) : Type 0 where
  et : IsTime b.et
  last : IsTime b.last

tof_in : (input q run : Bool) (now : ℤ) (b : DelayTimer) → IsTime b.pt → IsTime b.et → IsTime now → DelayIn (tof_by input q run now b)
tof_in true q run now b pt et n = record { et = zero_time; last = n }
tof_in false true false now b pt et n = record { et = zero_time; last = n }
tof_in false true true now b pt et n = record { et = elapsed_in b.pt b.et b.last now pt et; last = n }
tof_in false false run now b pt et n = record { et = et; last = n }

begun_in : (run edge : Bool) (now : ℤ) (b : PulseTimer) → IsTime b.pt → IsTime b.et → IsTime (tp_begun run edge now b).et
begun_in false true now b pt et = zero_time
begun_in false false now b pt et = et
begun_in true edge now b pt et = elapsed_in b.pt b.et b.last now pt et

-- WHAT A CALL LEAVES

-- the variables of a block
abbrev pub words_of : StandardBlock → List (Text × Form)
words_of b = standard_inputs b ++ standard_outputs b ++ standard_inner b

-- each is a variable of the block, and its value of the type
abbrev pub AreLeft : StandardBlock → List (Text × Value) → Type 0
AreLeft b [] = Unit {0}
AreLeft b (e ∷ es) = ((t : Elementary) × Contains (words_of b) (e.0, ScalarForm (plain t)) × IsOf (plain t) e.1) × AreLeft b es

-- the whole and time variables of an instance have values of their types
abbrev pub HasCounts : StandardBlock → Values → Text → Type 0
HasCounts b values path = (word : Text) (t : Elementary) → Contains (words_of b) (word, ScalarForm (plain t)) → (t ≡ BoolType → ⊥) → LiesIn (limits t) (count values path word)

not_int : Int ≡ BoolType → ⊥
not_int e = cc

not_time : Time ≡ BoolType → ⊥
not_time e = cc

pub leaves : (b : StandardBlock) (now : ℤ) (values : Values) (path : Text) → IsTime now → HasCounts b values path → AreLeft b (standard_call b now values path)
leaves Sr now v p n h = ((BoolType, (2, omega arith, refl), tt), tt)
leaves Rs now v p n h = ((BoolType, (2, omega arith, refl), tt), tt)
leaves RTrig now v p n h = ((BoolType, (1, omega arith, refl), tt), ((BoolType, (2, omega arith, refl), tt), tt))
leaves FTrig now v p n h = ((BoolType, (1, omega arith, refl), tt), ((BoolType, (2, omega arith, refl), tt), tt))
leaves Ctu now v p n h =
    let cv = h (codes "CV") Int (4, omega arith, refl) not_int in (
      (BoolType, (3, omega arith, refl), tt),
      (
        (Int, (4, omega arith, refl), cond_in IsInt (flag v p (codes "R")) (pos 0) _ zero_int (cond_in IsInt (flag v p (codes "CU") && not (flag v p (codes "M"))) _ _ (up_in _ cv) cv)),
        (
          (BoolType, (5, omega arith, refl), tt),
          tt,
        ),
      ),
    )
leaves Ctd now v p n h =
    let cv = h (codes "CV") Int (4, omega arith, refl) not_int in
    let pv = h (codes "PV") Int (2, omega arith, refl) not_int in (
      (BoolType, (3, omega arith, refl), tt),
      (
        (Int, (4, omega arith, refl), cond_in IsInt (flag v p (codes "LD")) _ _ pv (cond_in IsInt (flag v p (codes "CD") && not (flag v p (codes "M"))) _ _ (down_in _ cv) cv)),
        (
          (BoolType, (5, omega arith, refl), tt),
          tt,
        ),
      ),
    )
leaves Ctud now v p n h =
    let cv = h (codes "CV") Int (7, omega arith, refl) not_int in
    let pv = h (codes "PV") Int (4, omega arith, refl) not_int in (
      (BoolType, (5, omega arith, refl), tt),
      (
        (BoolType, (6, omega arith, refl), tt),
        (
          (Int, (7, omega arith, refl), cond_in IsInt (flag v p (codes "R")) (pos 0) _ zero_int (cond_in IsInt (flag v p (codes "LD")) _ _ pv (edges_in (flag v p (codes "CU") && not (flag v p (codes "MU"))) (flag v p (codes "CD") && not (flag v p (codes "MD"))) _ cv))),
          (
            (BoolType, (8, omega arith, refl), tt),
            (
              (BoolType, (9, omega arith, refl), tt),
              tt,
            ),
          ),
        ),
      ),
    )
leaves Tp now v p n h =
    let et = h (codes "ET") Time (3, omega arith, refl) not_time in
    let pt = h (codes "PT") Time (1, omega arith, refl) not_time in (
      (BoolType, (2, omega arith, refl), tt),
      (
        (Time, (3, omega arith, refl), cond_in IsTime _ _ (pos 0) (begun_in _ _ now _ pt et) zero_time),
        (
          (BoolType, (4, omega arith, refl), tt),
          (
            (BoolType, (5, omega arith, refl), tt),
            (
              (Time, (6, omega arith, refl), n),
              tt,
            ),
          ),
        ),
      ),
    )
leaves Ton now v p n h =
    let et = h (codes "ET") Time (3, omega arith, refl) not_time in
    let pt = h (codes "PT") Time (1, omega arith, refl) not_time in (
      (BoolType, (2, omega arith, refl), tt),
      (
        (Time, (3, omega arith, refl), ton_in _ _ _ (elapsed_in (count v p (codes "PT")) (count v p (codes "ET")) (count v p (codes "LAST")) now pt et)),
        (
          (BoolType, (4, omega arith, refl), tt),
          (
            (Time, (5, omega arith, refl), n),
            tt,
          ),
        ),
      ),
    )
leaves Tof now v p n h =
    let et = h (codes "ET") Time (3, omega arith, refl) not_time in
    let pt = h (codes "PT") Time (1, omega arith, refl) not_time in
    let after = tof_in (flag v p (codes "IN")) (flag v p (codes "Q")) (flag v p (codes "RUN")) now (record { input = flag v p (codes "IN"); pt = count v p (codes "PT"); q = flag v p (codes "Q"); et = count v p (codes "ET"); run = flag v p (codes "RUN"); last = count v p (codes "LAST") }) pt et n in (
      (BoolType, (2, omega arith, refl), tt),
      (
        (Time, (3, omega arith, refl), after.et),
        (
          (BoolType, (4, omega arith, refl), tt),
          (
            (Time, (5, omega arith, refl), after.last),
            tt,
          ),
        ),
      ),
    )
