use Rattle.std.proofs.Common.{◌≡◌, drop}
use Rattle.load_code.specs.Laying.{with_frames, no_frames}
use Rattle.load_code.proofs.framing.frames_of.Given as goal

abbrev pub invariant-units : goal.invariant-units
invariant-units l = with_frames l.blocks.names.now l.frames (drop l.at l.units) (drop l.at l.framed) ≡ with_frames l.blocks.names.now no_frames l.units l.framed
