-- Worked calls of the standard blocks.
use Rattle.std.specs.Prelude.{◌≡◌, Bool, true, false, ℤ, pos, negsuc, List, [], ◌∷◌, refl}
use Rattle.il_blocks.specs.Blocks.{EdgeDetector, f_trig, r_trig, UpCounter, ctu, DownCounter, ctd, DelayTimer, ton, tof, PulseTimer, tp, sr, rs, ctud}

edge_at_rest : EdgeDetector
edge_at_rest = record { clk = false; q = false; m = false }

-- F_TRIG at the first call with CLK FALSE: Q TRUE; at the second: Q FALSE.
first_falling : (f_trig edge_at_rest).q ≡ true
unfolding edge_at_rest
first_falling = refl

second_falling : (f_trig (f_trig edge_at_rest)).q ≡ false
unfolding edge_at_rest
second_falling = refl

-- what TON shows over some calls, each at a time with its input: ET and Q
abbrev ton_shows : DelayTimer → List (ℤ × Bool) → List (ℤ × Bool)
ton_shows b [] = []
ton_shows b (c ∷ cs) = let after : DelayTimer = ton c.0 (record b { input = c.1 }) in (after.et, after.q) ∷ ton_shows after cs

abbrev tof_shows : DelayTimer → List (ℤ × Bool) → List (ℤ × Bool)
tof_shows b [] = []
tof_shows b (c ∷ cs) = let after : DelayTimer = tof c.0 (record b { input = c.1 }) in (after.et, after.q) ∷ tof_shows after cs

abbrev tp_shows : PulseTimer → List (ℤ × Bool) → List (ℤ × Bool)
tp_shows b [] = []
tp_shows b (c ∷ cs) = let after : PulseTimer = tp c.0 (record b { input = c.1 }) in (after.et, after.q) ∷ tp_shows after cs

abbrev delay : ℤ → DelayTimer
delay preset = record { input = false; pt = preset; q = false; et = pos 0; run = false; last = pos 0 }

abbrev pulse : ℤ → PulseTimer
pulse preset = record { input = false; pt = preset; q = false; et = pos 0; run = false; m = false; last = pos 0 }

-- TON with PT T#0s and IN TRUE: Q TRUE at once.
on_at_once : ton_shows (delay (pos 0)) ((pos 500, true) ∷ []) ≡ (pos 0, true) ∷ []
on_at_once = refl

-- TON with PT T#1s, IN TRUE, NOW 500, 300, 1300: the clock that goes back adds nothing.
on_delay : ton_shows (delay (pos 1000)) ((pos 500, true) ∷ (pos 300, true) ∷ (pos 1300, true) ∷ []) ≡ (pos 0, false) ∷ (pos 0, false) ∷ (pos 1000, true) ∷ []
on_delay = refl

-- TP with PT T#200ms, IN TRUE, FALSE, FALSE, TRUE at NOW 100, 200, 300, 400.
pulse_row : tp_shows (pulse (pos 200)) ((pos 100, true) ∷ (pos 200, false) ∷ (pos 300, false) ∷ (pos 400, true) ∷ []) ≡ (pos 0, true) ∷ (pos 100, true) ∷ (pos 0, false) ∷ (pos 0, true) ∷ []
pulse_row = refl

-- TOF with PT T#100ms, IN TRUE, FALSE, FALSE, FALSE at NOW 100, 200, 250, 300.
off_delay : tof_shows (delay (pos 100)) ((pos 100, true) ∷ (pos 200, false) ∷ (pos 250, false) ∷ (pos 300, false) ∷ []) ≡ (pos 0, true) ∷ (pos 0, true) ∷ (pos 50, true) ∷ (pos 100, false) ∷ []
off_delay = refl

-- CTU with PV 2, CU TRUE, FALSE, TRUE: CV 1, 1, 2; Q FALSE, FALSE, TRUE.
abbrev ctu_shows : UpCounter → List Bool → List (ℤ × Bool)
ctu_shows b [] = []
ctu_shows b (c ∷ cs) = let after : UpCounter = ctu (record b { cu = c }) in (after.cv, after.q) ∷ ctu_shows after cs

up_count : ctu_shows (record { cu = false; r = false; pv = pos 2; q = false; cv = pos 0; m = false }) (true ∷ false ∷ true ∷ []) ≡ (pos 1, false) ∷ (pos 1, false) ∷ (pos 2, true) ∷ []
up_count = refl

-- CTD with PV 1: LD TRUE gives CV 1, Q FALSE; then LD FALSE, CD TRUE gives CV 0, Q TRUE.
abbrev ctd_shows : DownCounter → List (Bool × Bool) → List (ℤ × Bool)
ctd_shows b [] = []
ctd_shows b (c ∷ cs) = let after : DownCounter = ctd (record b { ld = c.0; cd = c.1 }) in (after.cv, after.q) ∷ ctd_shows after cs

down_count : ctd_shows (record { cd = false; ld = false; pv = pos 1; q = false; cv = pos 0; m = false }) ((true, false) ∷ (false, true) ∷ []) ≡ (pos 1, false) ∷ (pos 0, true) ∷ []
down_count = refl

-- SR and RS with both inputs TRUE.
set_wins : (sr (record { s1 = true; r = true; q1 = false })).q1 ≡ true
set_wins = refl

reset_wins : (rs (record { s = true; r1 = true; q1 = true })).q1 ≡ false
reset_wins = refl

-- CTUD with both edges counts nothing; at its ends it stays.
both_edges : (ctud (record { cu = true; cd = true; r = false; ld = false; pv = pos 5; qu = false; qd = false; cv = pos 5; mu = false; md = false })).cv ≡ pos 5
both_edges = refl

at_least : (ctud (record { cu = false; cd = true; r = false; ld = false; pv = pos 5; qu = false; qd = false; cv = negsuc 32767; mu = false; md = false })).cv ≡ negsuc 32767
at_least = refl

-- R_TRIG sees one edge.
rising : (r_trig (r_trig (record { clk = true; q = false; m = false }))).q ≡ false
rising = refl
