use Rattle.std.specs.Prelude.{[]}
use Rattle.base_maps.specs.NameMap.{empty}
use Rattle.ranges_pass.specs.Numbering.{IsPlaceNumbered}
use Rattle.ranges_pass.proofs.Numbers.{AddsTo}
use Rattle.ranges_pass.proofs.numbering.numbering_of.Given as goal

abbrev pub invariant-loop-place : goal.invariant-loop-place
invariant-loop-place l = AddsTo l.unit (λ ns. IsPlaceNumbered l.unit ns l.steps) l.steps l.place empty [] l.numbering.numbers l.numbering.declared
