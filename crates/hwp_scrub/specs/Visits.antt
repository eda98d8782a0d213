-- What the scrubber found of the frames that it went over, and what was done about that.
use Rattle.std.specs.Prelude.{◌≡◌, ℕ, ◌+◌, false, List, [], ◌∷◌, ◌++◌, Option, Some, None, flat_map, length, map, slice_get, slice_set, MatchOption}
use Rattle.hwp_claim.specs.hwp_geom.declared.Frame.{Frame}
use Rattle.hwp_claim.specs.hwp_geom.declared.Layout.{Layout}
use Rattle.hwp_claim.specs.hwp_geom.declared.Mode.TheVariants as modes
use Rattle.hwp_claim.specs.hwp_geom.declared.Who.{Who}
use Rattle.hwp_claim.specs.hwp_geom.Bits.{HasNoBitFrom, IsLowestBit}
use Rattle.hwp_claim.specs.hwp_banks.declared.Event.{Event}
use Rattle.hwp_claim.specs.hwp_banks.declared.Origin.TheVariants as origins
use Rattle.hwp_claim.specs.hwp_banks.Events.{bank_count, bank_of}
use Rattle.hwp_claim.specs.hwp_core_rule.declared.SharedWord.{SharedWord}
use Rattle.hwp_claim.specs.hwp_core_rule.declared.SharedWord.TheVariants as places
use Rattle.hwp_claim.specs.hwp_core_rule.declared.View.{View}
use Rattle.hwp_claim.specs.hwp_core_rule.Known.{Saw}
use Rattle.hwp_claim.specs.hwp_banks.Banks.{Banks, empty_banks}
use Rattle.hwp_claim.specs.hwp_severity.declared.Arrival.{Arrival}
use Rattle.hwp_claim.specs.declared.EventOutcome.{EventOutcome}
use Rattle.hwp_claim.specs.Checks.{IsActedOn, restarting, with_own}
use Rattle.hwp_claim.specs.Events.{graded_in}
use Rattle.hwp_claim.specs.Fits.{AreTold}

-- the lowest line that the word marks, if it marks one
abbrev pub IsLowest : ℕ → Option ℕ → Type 0
IsLowest word line = MatchOption line (HasNoBitFrom word 0) (IsLowestBit word 0)

-- a step of the command showed the word at the place, and this is its lowest line
pub record SawLowest (view : View) (who : Who) (place : SharedWord) (line : Option ℕ) : Type 0 where
  pub word : ℕ
  pub saw : Saw view who place word
  pub lowest : IsLowest word line

-- how the machine checks of a scrub arrive: it can be started again, and runs in kernel mode
abbrev pub scrubbing : Arrival
scrubbing = restarting modes.Kernel

-- the bank of the scrubber
abbrev pub scrub_bank : ℕ
scrub_bank = bank_of origins.WeakLine

-- the banks are a processor's, and the scrubber's holds nothing
pub record AreBanks (banks : Banks) : Type 0 where
  pub three : length banks ≡ bank_count
  pub free : slice_get banks scrub_bank ≡ Some None

-- ---- a frame

-- what was found of one of a frame's two words: its lowest line, and what was done about events
pub record Find : Type 0 where
  pub line : Option ℕ
  pub lines : List EventOutcome

-- the banks with the event of a bad line
abbrev pub with_bad : Frame → ℕ → Banks → Banks
with_bad frame line banks = with_own origins.BadLine frame line banks

-- a bad line is a machine check, which leaves the banks empty
abbrev pub IsBadMet : Layout → View → Who → Frame → Banks → Option ℕ → List EventOutcome → Type 0
IsBadMet layout view who frame banks None lines = lines ≡ []
IsBadMet layout view who frame banks (Some line) lines = IsActedOn layout view who None scrubbing (with_bad frame line banks) lines

abbrev pub left_by_bad : Option ℕ → Banks → Banks
left_by_bad None banks = banks
left_by_bad (Some line) banks = empty_banks

pub record IsBadFind (layout : Layout) (view : View) (who : Who) (frame : Frame) (banks : Banks) (f : Find) : Type 0 where
  pub saw : SawLowest view who (places.Bad frame) f.line
  pub met : IsBadMet layout view who frame banks f.line f.lines

-- the event of a weak line is logged, and what the scrubber's bank holds then is told and taken out
pub record IsKept (layout : Layout) (view : View) (who : Who) (frame : Frame) (banks : Banks) (line : ℕ) (lines : List EventOutcome) : Type 0 where
  pub event : Event
  pub held : slice_get (with_own origins.WeakLine frame line banks) scrub_bank ≡ Some (Some event)
  pub events : map (λ (t : EventOutcome). t.held) lines ≡ graded_in scrubbing (scrub_bank, event) ∷ []
  pub told : AreTold layout view who None false lines

abbrev pub IsWeakMet : Layout → View → Who → Frame → Banks → Option ℕ → List EventOutcome → Type 0
IsWeakMet layout view who frame banks None lines = lines ≡ []
IsWeakMet layout view who frame banks (Some line) lines = IsKept layout view who frame banks line lines

abbrev pub left_by_weak : Option ℕ → Banks → Banks
left_by_weak None banks = banks
left_by_weak (Some line) banks = slice_set banks scrub_bank None

pub record IsWeakFind (layout : Layout) (view : View) (who : Who) (frame : Frame) (banks : Banks) (f : Find) : Type 0 where
  pub saw : SawLowest view who (places.Weak frame) f.line
  pub met : IsWeakMet layout view who frame banks f.line f.lines

-- a frame that the scrubber went over: its bad lines first, and then its weak ones
pub record Visit : Type 0 where
  pub bad : Find
  pub weak : Find

pub record IsVisit (layout : Layout) (view : View) (who : Who) (frame : Frame) (banks : Banks) (v : Visit) : Type 0 where
  pub bad : IsBadFind layout view who frame banks v.bad
  pub weak : IsWeakFind layout view who frame (left_by_bad v.bad.line banks) v.weak

abbrev pub left_by_visit : Visit → Banks → Banks
left_by_visit v banks = left_by_weak v.weak.line (left_by_bad v.bad.line banks)

abbrev pub lines_of_visit : Visit → List EventOutcome
lines_of_visit v = v.bad.lines ++ v.weak.lines

-- ---- frames in rising order

abbrev pub AreVisits : Layout → View → Who → ℕ → Banks → List Visit → Type 0
AreVisits layout view who frame banks [] = Unit {0}
AreVisits layout view who frame banks (v ∷ vs) = IsVisit layout view who (record { 0 = frame }) banks v × AreVisits layout view who (frame + 1) (left_by_visit v banks) vs

abbrev pub left_by : Banks → List Visit → Banks
left_by banks [] = banks
left_by banks (v ∷ vs) = left_by (left_by_visit v banks) vs

abbrev pub lines_of : List Visit → List EventOutcome
lines_of visits = flat_map lines_of_visit visits
