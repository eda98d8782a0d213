-- Whether a frame's record may have ended in a poisoning, or not, while a command ran, mark by mark.
use Rattle.std.specs.Prelude.{◌==◌, nat_lt, ◌&&◌, ◌||◌, not, Bool, List, [], ◌∷◌}
use Rattle.hwp_banks.specs.hwp_geom.declared.Who.{Who}
use Rattle.hwp_law.specs.hwp_report_text.declared.MarkLine.{MarkLine}
use Rattle.hwp_law.specs.Records.{who_in}
use Rattle.hwp_check_event_line.specs.Nears.{says}

-- the one is of an earlier command of the same processor
abbrev pub is_earlier : Who → Who → Bool
is_earlier a b = (a.cpu.0 == b.cpu.0) && nat_lt a.seq b.seq

-- the record may have ended so behind some of these marks. `may` says that it may behind some mark before them, or at the start;
-- `late` that a mark before them is of a later command
abbrev pub may_end : Who → Bool → Bool → Bool → List MarkLine → Bool
may_end who poisoned may late [] = may
may_end who poisoned may late (m ∷ ms) =
    may_end who poisoned ((may && not (is_earlier (who_in m) who)) || (not (late || is_earlier who (who_in m)) && says poisoned m)) (late || is_earlier who (who_in m)) ms
