-- The first surplus of a text, in each that is alike up to its token.
use Rattle.std.specs.List.{All, slice_get}
use Rattle.std.proofs.Common.{◌≡◌, ◌<◌, ◌≤◌, ℕ, List, [], ◌∷◌, ◌++◌, length, ap, subst, arith, Some}
use Rattle.il_syntax.specs.declared.token.Token.{Token}
use Rattle.il_syntax.specs.declared.keyword.Keyword.TheVariants as word
use Rattle.il_syntax.specs.declared.tree.Step.{Step}
use Rattle.il_syntax.specs.declared.tree.Unit.{Unit as ProgramUnit}
use Rattle.il_syntax.specs.declared.tree.Config.{Config}
use Rattle.il_syntax.specs.Text.{AreTokens}
use Rattle.il_syntax.specs.Grammar.{Front, skip_line_ends, ◌⨾◌, ◌⋯◌, Nothing, Repeats, TheEnd, AfterLines, TheWord, SomeName, SpellsSizes, SpellsGlobals, SpellsResource, SpellsUnit, SpellsConfig, unit_word}
use Rattle.il_syntax_laws.specs.Alike.{IsEndOf, AreAlike}
use Rattle.il_syntax_laws.proofs.Alike.{end_self, end_length, end_of_end, loose_gap, gap_length}
use Rattle.il_syntax_laws.proofs.Local.{unit_local}
use Rattle.load_tree.specs.Refused.{IsItsPlace}
use Rattle.load_tree.proofs.LateUnits.{unit_spreads}
use Rattle.il_fault_laws.proofs.Runs.{split_run, run_end}
use Rattle.il_fault_laws.proofs.Surplus.{HasIt, HasUnits, among_token, at_token, unit_same, units_same}

-- what follows the units of a text
abbrev pub TheRest : List ℕ → Config → Front
TheRest text c =
    SomeName text ⋯ SpellsSizes text c ⨾ SpellsGlobals text c.globals_place c.globals ⋯ SpellsResource text c ⋯ TheWord text word.EndConfiguration ⋯ TheEnd

-- as many units as there may be, and one more at the token
pub record HasUnit (other : List ℕ) (t : Token) (ws : List Token) (d : Config) : Type 0 where
  pub front : List ProgramUnit
  pub few : All (λ (v : ProgramUnit). length v.body.steps ≤ 4096) front
  pub full : length front ≡ 64
  pub from : List Token
  pub read : Repeats (SpellsUnit other) front Nothing (skip_line_ends ws) from
  pub unit : ProgramUnit
  pub more : List ProgramUnit
  pub units : d.units ≡ front ++ unit ∷ more
  pub behind : List Token
  pub spelled : SpellsUnit other unit from behind
  pub tail : List Token
  pub there : from ≡ t ∷ tail

-- as many instructions as there may be, in one of the units that there may be, and one more at the token, or it is a label
pub record HasStep (other : List ℕ) (t : Token) (front : List ProgramUnit) (steps : List Step) (ws : List Token) (d : Config) : Type 0 where
  pub from : List Token
  pub read : Repeats (SpellsUnit other) front Nothing (skip_line_ends ws) from
  pub unit : ProgramUnit
  pub more : List ProgramUnit
  pub units : d.units ≡ front ++ unit ∷ more
  pub behind : List Token
  pub spelled : SpellsUnit other unit from behind
  pub it : HasIt other t from unit steps behind

-- what goes before a surplus instruction
pub record IsFront (front : List ProgramUnit) (steps : List Step) : Type 0 where
  pub few : All (λ (v : ProgramUnit). length v.body.steps ≤ 4096) front
  pub some : length front < 64
  pub full : length steps ≡ 4096

module _ (text : List ℕ) (whole : List Token) (cut : AreTokens text 0 whole) (t : Token) (back : List Token) (there : IsEndOf (t ∷ back) whole) (c : Config) (w : AfterLines (SpellsConfig text c) whole []) where
  -- the units before a token, and the one with it
  pub in_unit : (front : List ProgramUnit) (u : ProgramUnit) (behind : List ProgramUnit) → c.units ≡ front ++ u ∷ behind → (mid : List Token) × (m : List Token) × Repeats (SpellsUnit text) front Nothing (skip_line_ends whole) mid × SpellsUnit text u mid m × IsEndOf mid (skip_line_ends whole)
  in_unit front u behind is =
      let all = subst (λ (us : List ProgramUnit). Repeats (SpellsUnit text) us (TheWord text word.Configuration ⋯ TheRest text c) (skip_line_ends whole) []) is w in
      let k = split_run (SpellsUnit text) front (u ∷ behind) (TheWord text word.Configuration ⋯ TheRest text c) (skip_line_ends whole) [] all in
      (k.0, k.2.0, k.1, k.2.1, run_end unit_local text front (skip_line_ends whole) k.0 k.1)

  module _ (other : List ℕ) (ws : List Token) (a : AreAlike text other (t ∷ back) whole ws) (d : Config) (v : AfterLines (SpellsConfig other d) ws []) where
    same_units : (front : List ProgramUnit) (u : ProgramUnit) (mid m : List Token) → Repeats (SpellsUnit text) front Nothing (skip_line_ends whole) mid → SpellsUnit text u mid m → IsEndOf mid (skip_line_ends whole) → length (t ∷ back) ≤ length mid
        → HasUnits text other t back front mid (skip_line_ends ws) d.units
    same_units front u mid m read here inside l =
        let short = end_length mid (skip_line_ends whole) inside in
        let b = loose_gap.alike text other (t ∷ back) whole ws a (omega (arith, l, short)) in
        units_same text other t back front u d.units (TheRest other d) (skip_line_ends whole) (skip_line_ends ws) mid m [] b read here l v

    -- the first surplus, there too
    pub found_unit : (front : List ProgramUnit) (u : ProgramUnit) (behind : List ProgramUnit) → c.units ≡ front ++ u ∷ behind → All (λ (v : ProgramUnit). length v.body.steps ≤ 4096) front → length front ≡ 64 → IsItsPlace t u.place → HasUnit other t ws d
    found_unit front u behind is few full at =
        let k = in_unit front u behind is in
        let inside = end_of_end k.0 (skip_line_ends whole) whole (loose_gap.ends whole) k.4 in
        let here = at_token text other whole cut t back there (TheWord text (unit_word u.kind)) u.place k.0 k.3.1.0 inside at k.3.1.1 in
        let l = ap length here in
        let h = same_units front u k.0 k.1 k.2 k.3 k.4 (omega (arith, l)) in
        let b = subst (λ (x : List Token). AreAlike text other (t ∷ back) x h.from) here h.alike in
        record { front = front; few = few; full = full; from = h.from; read = h.read; unit = h.unit; more = h.more; units = h.units; behind = h.behind; spelled = h.spelled; tail = b.0; there = b.1 }

    pub found_step : (front : List ProgramUnit) (u : ProgramUnit) (behind : List ProgramUnit) → c.units ≡ front ++ u ∷ behind → (steps more : List Step) (s : Step) → u.body.steps ≡ steps ++ s ∷ more → slice_get u.body.steps 4096 ≡ Some s → IsItsPlace t s.place
        → HasStep other t front steps ws d
    found_step front u behind is steps more s split number at =
        let k = in_unit front u behind is in
        let inside = end_of_end k.0 (skip_line_ends whole) whole (loose_gap.ends whole) k.4 in
        let e_skip = end_of_end (skip_line_ends k.0) k.0 whole inside (loose_gap.ends k.0) in
        let among = unit_spreads.all text k.0 (skip_line_ends k.0) k.1 u (k.3, tt) (end_self (skip_line_ends k.0)) s number in
        let l = end_length (t ∷ back) (skip_line_ends k.0) (among_token text other whole cut t back there s.place (skip_line_ends k.0) e_skip at among) in
        let less = gap_length loose_gap k.0 in
        let h = same_units front u k.0 k.1 k.2 k.3 k.4 (omega (arith, l, less)) in
        record {
          from = h.from;
          read = h.read;
          unit = h.unit;
          more = h.more;
          units = h.units;
          behind = h.behind;
          spelled = h.spelled;
          it = unit_same text other whole cut t back there u h.unit steps more s k.0 h.from k.1 h.behind split at inside h.alike k.3 h.spelled;
        }
