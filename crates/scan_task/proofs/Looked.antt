-- What is seen of a scan where it is.
use Rattle.std.proofs.Common.{◌≡◌, ℕ, zero, suc, List, [], ◌∷◌, length, slice_get, refl, sym, ap, ◌∙◌, subst}
use Rattle.std.specs.Prelude.{option_map, option_and_then}
use Rattle.std.proofs.lemmas.List.{append-nil}
use Rattle.il_syntax.specs.declared.tree.Config.{Config}
use Rattle.base_maps.specs.NameMap.{Text, get}
use Rattle.il_semantics.specs.State.{State}
use Rattle.load_slots.specs.declared.flat.UnitCode.{UnitCode}
use Rattle.load_slots.specs.Paths.{slot_at}
use Rattle.load_slots.specs.Program.{program_cells, program_code}
use Rattle.scan_loop.specs.declared.frames.Frame.{Frame as FlatFrame}
use Rattle.scan_loop.specs.Frames.{Suspended}
use Rattle.scan_loop.specs.Framing.{framed, all_frames, name_of_code}
use Rattle.scan_loop.specs.Going.{Stored}
use Rattle.scan_task.specs.Scanning.{IsRunnable, IsScanOf, frames_by, value_at}
use Rattle.scan_task.specs.Ran.{stands}
use Rattle.scan_task.specs.Looking.{stand_of, AreStacked}
use Rattle.scan_task.proofs.Reading.{reads_slot}
use Rattle.scan_task.proofs.Scans.{state_is}

-- FRAMES

-- where a frame is, by its code
abbrev pub flat_stand : List UnitCode → FlatFrame → Text × ℕ
flat_stand units f = (name_of_code (slice_get units f.unit), f.place)

framed_length : (c : Config) (units : List UnitCode) (ss : List Suspended) → length (framed c units ss) ≡ length ss
framed_length c units [] = refl
framed_length c units (s ∷ ss) = ap suc (framed_length c units ss)

framed_at : (c : Config) (units : List UnitCode) (ss : List Suspended) (k : ℕ) → option_map stand_of (slice_get (framed c units ss) k) ≡ option_map (flat_stand units) (option_map (λ (s : Suspended). s.frame) (slice_get ss k))
framed_at c units [] k = refl
framed_at c units (s ∷ ss) zero = refl
framed_at c units (s ∷ ss) (suc k) = framed_at c units ss k

framed_stacked : (c : Config) (units : List UnitCode) (ss : List Suspended) → AreStacked c (framed c units ss)
framed_stacked c units [] = record {}
framed_stacked c units (s ∷ ss) = (refl, framed_stacked c units ss)

module _ (c : Config) (task : ℕ) (s : Stored) (scan : IsScanOf c task s) where
  abbrev these : List Suspended
  these = all_frames s.running s.pairs s.callers

  frames_so : (stands c task s).frames ≡ framed c (program_code c scan.0).units these
  frames_so = ap (λ o. frames_by c o s) scan.1.program

  pub depth_is : length (stands c task s).frames ≡ length these
  depth_is = ap length frames_so ∙ framed_length c (program_code c scan.0).units these

  pub stand_is : (k : ℕ) → option_map stand_of (slice_get (stands c task s).frames k) ≡ option_map (flat_stand (program_code c scan.0).units) (option_map (λ (x : Suspended). x.frame) (slice_get these k))
  stand_is k = ap (λ fs. option_map stand_of (slice_get fs k)) frames_so ∙ framed_at c (program_code c scan.0).units these k

  pub stacked : AreStacked c (stands c task s).frames
  stacked = subst (AreStacked c) (sym frames_so) (framed_stacked c (program_code c scan.0).units these)

  -- VALUES

  pub value_is : IsRunnable c → (path : Text) → option_and_then (value_at (program_cells c scan.0) s.rows) (slot_at (program_cells c scan.0) path) ≡ get (stands c task s).values path
  value_is runs path =
      sym (ap (λ cells. option_and_then (value_at cells s.rows) (slot_at cells path)) (append-nil (program_cells c scan.0)))
      ∙ reads_slot (program_cells c scan.0) [] s.rows.numbers s.rows.flags path scan.2.framed.fits.numbers scan.2.framed.fits.flags
      ∙ ap (λ (x : State). get x.values path) (state_is c runs task scan.0 scan.1 s scan.2.framed.fits)
