-- The blocks as a task opens: every variable is FALSE, 0 or T#0s (own rule).
use Rattle.std.specs.Prelude.{false, pos}
use Rattle.il_blocks.specs.Blocks.{SetDominant, ResetDominant, EdgeDetector, UpCounter, DownCounter, UpDownCounter, DelayTimer, PulseTimer}

-- how SR opens (own rule)
abbrev pub opening_set_dominant : SetDominant
opening_set_dominant = record { s1 = false; r = false; q1 = false }

-- how RS opens (own rule)
abbrev pub opening_reset_dominant : ResetDominant
opening_reset_dominant = record { s = false; r1 = false; q1 = false }

-- how R_TRIG and F_TRIG open (own rule)
abbrev pub opening_edge_detector : EdgeDetector
opening_edge_detector = record { clk = false; q = false; m = false }

-- how CTU opens (own rule)
abbrev pub opening_up_counter : UpCounter
opening_up_counter = record { cu = false; r = false; pv = pos 0; q = false; cv = pos 0; m = false }

-- how CTD opens (own rule)
abbrev pub opening_down_counter : DownCounter
opening_down_counter = record { cd = false; ld = false; pv = pos 0; q = false; cv = pos 0; m = false }

-- how CTUD opens (own rule)
abbrev pub opening_up_down_counter : UpDownCounter
opening_up_down_counter = record { cu = false; cd = false; r = false; ld = false; pv = pos 0; qu = false; qd = false; cv = pos 0; mu = false; md = false }

-- how TON and TOF open (own rule)
abbrev pub opening_delay_timer : DelayTimer
opening_delay_timer = record { input = false; pt = pos 0; q = false; et = pos 0; run = false; last = pos 0 }

-- how TP opens (own rule)
abbrev pub opening_pulse_timer : PulseTimer
opening_pulse_timer = record { input = false; pt = pos 0; q = false; et = pos 0; run = false; m = false; last = pos 0 }
