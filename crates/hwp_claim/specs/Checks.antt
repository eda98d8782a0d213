-- The machine checks of a command that are over, one after another, and what was done about their events.
use Rattle.std.specs.Prelude.{◌≡◌, ℕ, ◌<◌, true, List, [], ◌∷◌, Option, Some, map, flat_map, IsBitSet}
use Rattle.hwp_banks.specs.hwp_geom.declared.Frame.{Frame}
use Rattle.hwp_banks.specs.hwp_geom.declared.Layout.{Layout}
use Rattle.hwp_banks.specs.hwp_geom.declared.Mode.{Mode}
use Rattle.hwp_banks.specs.hwp_geom.declared.Thread.{Thread}
use Rattle.hwp_banks.specs.hwp_geom.declared.Who.{Who}
use Rattle.hwp_banks.specs.declared.Origin.{Origin}
use Rattle.hwp_banks.specs.Events.{bank_of, own_event}
use Rattle.hwp_claim_frame.specs.hwp_core_rule.declared.SharedWord.TheVariants as places
use Rattle.hwp_claim_frame.specs.hwp_core_rule.declared.View.{View}
use Rattle.hwp_claim_frame.specs.hwp_core_rule.Known.{Saw}
use Rattle.hwp_banks.specs.Banks.{Banks, empty_banks, log_in}
use Rattle.hwp_law.specs.hwp_severity.Handling.{has_stop}
use Rattle.hwp_law.specs.Commands.{arrival}
use Rattle.hwp_law.specs.hwp_severity.declared.Arrival.{Arrival}
use Rattle.hwp_claim.specs.declared.told.EventOutcome.{EventOutcome}
use Rattle.hwp_claim.specs.Events.{held_in}
use Rattle.hwp_claim.specs.Fits.{AreTold}

-- a machine check that found the banks so is over, and these lines tell what was done about its events: each in the order of its
-- bank, and rightly
pub record IsActedOn (layout : Layout) (view : View) (who : Who) (thread : Option Thread) (how : Arrival) (banks : Banks) (lines : List EventOutcome) : Type 0 where
  pub events : map (λ (t : EventOutcome). t.held) lines ≡ held_in how banks
  pub told : AreTold layout view who thread (has_stop how banks) lines

-- an access can be started again
abbrev pub restarting : Mode → Arrival
restarting mode = arrival true true mode

-- the banks with the machine's own event at a line of a frame
abbrev pub with_own : Origin → Frame → ℕ → Banks → Banks
with_own origin frame line banks = log_in (bank_of origin) (own_event origin frame line) banks

-- a step of the command showed that the line was bad in the frame
pub record SawBad (layout : Layout) (view : View) (who : Who) (line : ℕ) (frame : Frame) : Type 0 where
  pub mask : ℕ
  pub bad : IsBitSet mask line
  pub saw : Saw view who (places.Bad frame) mask
  pub within : frame.0 < layout.frames

-- a machine check of an access: the frame in which the line was bad, and what was done about the events
pub record Check : Type 0 where
  pub frame : Frame
  pub lines : List EventOutcome

-- of an access by the thread to this line, it found this in the banks, and logged its own event
pub record IsCheck (layout : Layout) (view : View) (who : Who) (thread : Thread) (line : ℕ) (origin : Origin) (mode : Mode) (banks : Banks) (c : Check) : Type 0 where
  pub bad : SawBad layout view who line c.frame
  pub acted_on : IsActedOn layout view who (Some thread) (restarting mode) (with_own origin c.frame line banks) c.lines

-- each leaves the banks empty
abbrev pub left_by : Banks → List Check → Banks
left_by banks [] = banks
left_by banks (c ∷ cs) = empty_banks

abbrev pub AreChecks : Layout → View → Who → Thread → ℕ → Origin → Mode → Banks → List Check → Type 0
AreChecks layout view who thread line origin mode banks [] = Unit {0}
AreChecks layout view who thread line origin mode banks (c ∷ cs) = IsCheck layout view who thread line origin mode banks c × AreChecks layout view who thread line origin mode empty_banks cs

-- the lines of all of them
abbrev pub lines_of : List Check → List EventOutcome
lines_of checks = flat_map (λ (c : Check). c.lines) checks
