-- Faults whose error says which rule they refuse, in bodies.
use Rattle.std.proofs.Common.{◌≡◌, ℕ, ◌≤◌, Bool, true, false, List, refl, sym, subst, arith}
use Rattle.std.specs.Prelude.{IsFalse, Result, Ok, Err, IfErr, IsErrAnd}
use Rattle.il_syntax.specs.declared.token.Token.{Token}
use Rattle.il_syntax.specs.declared.token.Sign.TheVariants.{Ampersand, CloseParenthesis}
use Rattle.il_syntax.specs.declared.keyword.Keyword.TheVariants as word
use Rattle.il_syntax.specs.declared.tree.Instruction.{Instruction}
use Rattle.il_syntax.specs.declared.tree.Instruction.TheVariants as instruction
use Rattle.il_syntax.specs.Grammar.{Front, depth_after}
use Rattle.load_lines.specs.Lead.{lead_at}
use Rattle.load_lines.specs.declared.lead.Lead.{Lead}
use Rattle.load_lines.specs.declared.lead.Lead.TheVariants as lead
use Rattle.load_lines.specs.declared.stop.SyntaxError.{SyntaxError}
use Rattle.load_lines.specs.declared.stop.SyntaxError.TheVariants.{Unexpected, TooDeep, TooMany}
use Rattle.load_lines.specs.declared.stop.Stop.{Stop}
use Rattle.load_lines.specs.Reads.{fault_at, RefusesBy, HasRoom, room_by, SpellsRoomyBy}
use Rattle.load_lines.proofs.Instructions.{none_refused}
use Rattle.load_tree.specs.Ahead.{RefusesAheadBy}
use Rattle.load_tree.specs.Bodies.{begins_lead, FitsBy}

-- an error goes up as it is
pub up_ahead_by : {X A : Type 0} (P : SyntaxError → List ℕ → A → Front) {text : List ℕ} {ts : List Token} {e : Stop} (r : Result X Stop) → IsErrAnd r (λ y. y ≡ e) → RefusesAheadBy P text ts e → IfErr r (λ y. RefusesAheadBy P text ts y)
up_ahead_by P {text = text} {ts = ts} (Err y) same bad = subst (λ (z : Stop). RefusesAheadBy P text ts z) (sym same) bad
up_ahead_by P (Ok x) same bad = tt

-- room is there for every instruction
pub any_room : (i : Instruction) → HasRoom true i
any_room (instruction.Defer op first) = refl
any_room i = tt

-- where there is none, the depth keeps an instruction from opening a parenthesis
no_room : (depth : ℕ) (i : Instruction) → 16 ≤ depth → depth_after depth i ≤ 16 → HasRoom false i
no_room depth (instruction.Defer op first) full deep = absurd (omega (arith, full, deep))
no_room depth i full deep = tt

-- there is room where the limit that a fault is about is kept
pub room_fits : (error : SyntaxError) (room : Bool) (depth : ℕ) (full : Bool) (i : Instruction) → (IsFalse room → 16 ≤ depth) → FitsBy error depth full i → HasRoom (room_by error room) i
room_fits Unexpected room depth full i out fits = any_room i
room_fits TooMany room depth full i out fits = any_room i
room_fits TooDeep true depth full i out fits = any_room i
room_fits TooDeep false depth full i out fits = no_room depth i (out refl) fits

-- what begins no instruction is none
pub nothing_begins : (text : List ℕ) (room : Bool) (l : Lead) (ts : List Token) (e : Stop) → lead_at text ts ≡ l → IsFalse (begins_lead l) → e ≡ fault_at Unexpected ts → RefusesBy (SpellsRoomyBy room) text ts e
nothing_begins text room lead.Name ts e is out here = absurd cc
nothing_begins text room (lead.Sign Ampersand) ts e is out here = absurd cc
nothing_begins text room (lead.Sign CloseParenthesis) ts e is out here = absurd cc
nothing_begins text room (lead.Reserved (word.Load n)) ts e is out here = absurd cc
nothing_begins text room (lead.Reserved (word.Store k)) ts e is out here = absurd cc
nothing_begins text room (lead.Reserved word.Not) ts e is out here = absurd cc
nothing_begins text room (lead.Reserved (word.Operate op)) ts e is out here = absurd cc
nothing_begins text room (lead.Reserved (word.Jump k)) ts e is out here = absurd cc
nothing_begins text room (lead.Reserved (word.Return k)) ts e is out here = absurd cc
nothing_begins text room (lead.Reserved (word.Call k)) ts e is out here = absurd cc
nothing_begins text room l ts e is out here = none_refused text _ l ts e is refl here
