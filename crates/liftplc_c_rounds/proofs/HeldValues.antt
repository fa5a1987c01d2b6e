-- The machine value of a `Held`. Assumes `Logic`.
use Rattle.std.proofs.Common.{◌≡◌, List, [], ◌∷◌, ◌++◌, refl, subst}
use seplogic.Ra.Ura.{Ura}
use lib.Dec.{T, lit<}
use denote.Param.{layout}
use mir.Val.{Val, has_ty, WT, vstruct, vcons, vnil, of_list}
use types.Logic.{Logic}
use types.Kit.{Item, Goal, Seq, Step, step, ‵, ◌$◌, drop, fsplit, fjoin, fpick, fpack, feq_i, feq_l}
use denote.RattleType.{Valss}
use denote.Builtin.{RawPtr}
use denote.RawPtr.{Ptr, block_ptr, null_ptr, ptr_val}
use denote.Steps.{nothing}
use denote.Struct.Struct.{within}
use denote.Struct.Owning.{shape}
use Rattle.std.specs.Prelude.{Option}
use Rattle.group_world.specs.Worlds.{WorldOf}
use Rattle.liftplc_c_rounds.specs.Holding.{holds}
use Rattle.liftplc_c_rounds.specs.contracts.held.Held as held

abbrev pub lone : Ptr → Val
lone p = vstruct (vcons (ptr_val p) vnil)

pub lone_typed : (p : Ptr) → T (has_ty (layout held.the_row) (lone p)) × WT (lone p)
lone_typed null_ptr = (tt, (record { fits = lit< tt }, tt))
lone_typed (block_ptr b o) = (tt, (tt, tt))

module _ {M : Type 1} {𝓤 : Ura M} {𝓛 : Logic 𝓤} {K : Type 0} {Γ : List (Item 𝓤)} {G : Goal 𝓤 𝓛.H} where
  pub held_in : K → (p : Ptr) (w : Option WorldOf) → Step K 𝓛 (‵ ((held.the_row).own_val (record { at = p; world = w }) (lone p ∷ [])) ∷ Γ) G (‵ (holds p w) ∷ Γ) G
  held_in t p w = step (λ s. nothing t $ feq_i t (List Val) (ptr_val p ∷ []) (ptr_val p ∷ []) refl $ fjoin t $ feq_i t (List Val) (lone p ∷ []) (lone p ∷ []) refl $ fjoin t $
      fpack t (Valss (RawPtr ∷ [])) (within (shape held.the_type) (p, tt) (lone p ∷ [])) (ptr_val p ∷ [], tt) $ fjoin t $ s)

  pub held_out : K → (d : (held.the_row).Denot) (vs : List Val) → (vs ≡ lone d.at ∷ [] → Seq K 𝓛 (‵ (holds d.at d.world) ∷ Γ) G) → Seq K 𝓛 (‵ ((held.the_row).own_val d vs) ∷ Γ) G
  held_out t d vs k = fsplit t $ fpick t (λ vss. fsplit t $ feq_l t (λ ev. fsplit t $ feq_l t (λ ep. drop t $ k
      (subst (λ (ps : List Val). vs ≡ vstruct (of_list (ps ++ [])) ∷ []) ep ev))))
