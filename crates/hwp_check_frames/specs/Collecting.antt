-- The collector of a processor, and what its commands make of it.
use Rattle.std.specs.Prelude.{◌≡◌, ℕ, Bool, true, false, ◌&&◌, List, [], ◌∷◌, map, length, Option, Some, None, MatchBool, MatchOption, if◌then◌else◌, ◌==◌}
use Rattle.hwp_check_rules.specs.hwp_geom.declared.Frame.{Frame}
use Rattle.hwp_check_rules.specs.hwp_script_words.declared.Command.{Command}
use Rattle.hwp_check_rules.specs.hwp_script_words.declared.Command.TheVariants as commands
use Rattle.hwp_check_rules.specs.hwp_report_text.declared.Answer.{Answer}
use Rattle.hwp_check_rules.specs.hwp_report_text.declared.Answer.TheVariants as answers
use Rattle.hwp_check_rules.specs.hwp_law.Watched.{Watched, offlining, told}
use Rattle.hwp_check_rules.specs.hwp_script_words.Commands.{IsCollectorWithin}
use Rattle.hwp_cec.specs.Ages.{Note, Round, live}
use Rattle.hwp_cec.specs.Counters.{Counters, StandsFor}
use Rattle.hwp_cec.specs.declared.collector.Noted.{Noted}
use Rattle.hwp_cec.specs.declared.collector.Noted.TheVariants as noted
use Rattle.hwp_check_frames.specs.declared.collecting.Limits.{Limits}

-- the answer to a note that takes its frame out of use
abbrev pub is_offline : Noted → Bool
is_offline noted.Offline = true
is_offline (noted.Counted n) = false

-- the counters are those of a collector that was told this
pub record Stands (v : Watched) (c : Counters) : Type 0 where
  pub threshold : c.threshold ≡ v.threshold
  pub window : c.window ≡ v.window
  pub stands : StandsFor v.events c

-- a note of the frame takes it out of use
abbrev pub goes_out : Watched → Frame → Bool
goes_out v frame = live v.threshold v.window v.events frame.0 == v.threshold

-- the frame where it goes out of use
abbrev pub if_goes : Bool → Frame → List Frame
if_goes goes frame = if goes then frame ∷ [] else []

-- a collector of these counters took a note, and said whether it takes its frame out of use
pub record IsNoted (old new : Counters) (frame : Frame) (goes : Bool) : Type 0 where
  pub many : length new.counts ≡ length old.counts
  pub goes_is : (v : Watched) → Stands v old → goes ≡ goes_out v frame
  pub stands : (v : Watched) → Stands v old → Stands (told (Note frame ∷ []) v) new

-- it took some notes, and these are the frames that they take out of use
pub record AreTaken (old new : Counters) (notes frames : List Frame) : Type 0 where
  pub many : length new.counts ≡ length old.counts
  pub frames_are : (v : Watched) → Stands v old → frames ≡ offlining v notes
  pub stands : (v : Watched) → Stands v old → Stands (told (map Note notes) v) new

-- a collector that is on took the notes, and one that is off didn't
abbrev pub AreDue : Bool → Counters → Counters → List Frame → List Frame → Type 0
AreDue on old new notes frames = MatchBool on (AreTaken old new notes frames) ((frames ≡ []) × (new ≡ old))

-- it ended a round
pub record IsRounded (old new : Counters) : Type 0 where
  pub many : length new.counts ≡ length old.counts
  pub stands : (v : Watched) → Stands v old → Stands (told (Round ∷ []) v) new

-- what a collector of these numbers is told at first: nothing
abbrev pub fresh : Limits → Watched
fresh limits = record { threshold = limits.threshold; window = limits.window; events = [] }

-- it began anew
pub record IsBegun (limits : Limits) (old new : Counters) : Type 0 where
  pub many : length new.counts ≡ length old.counts
  pub stands : Stands (fresh limits) new

-- the numbers of the collector that a command with this answer gives its processor, if it gives one
abbrev pub begun_by : Command → Answer → Option Limits
begun_by (commands.Watch threshold window) answers.Done = Some (record { threshold = threshold; window = window })
begun_by _ _ = None

-- a command with this answer ends a round
abbrev pub ends_round : Command → Answer → Bool
ends_round (commands.Scrub first last) (answers.Scrubbed n) = true
ends_round _ _ = false

-- the numbers of a `watch` are within their limits
abbrev pub IsLimited : Command → Type 0
IsLimited (commands.Watch threshold window) = IsCollectorWithin threshold window
IsLimited _ = Unit {0}

-- what becomes of the collector, which was on or not, behind the notes of a command with this answer
abbrev pub IsGoneOn : Command → Answer → Bool → Bool → Counters → Counters → Type 0
IsGoneOn command answer on after old new =
    MatchOption (begun_by command answer)
    ((after ≡ on) × MatchBool (on && ends_round command answer) (IsRounded old new) (new ≡ old))
    (λ (limits : Limits). (after ≡ true) × IsBegun limits old new)

-- a collector for so many frames, which is on where the processor has one
pub record IsWatching (frames : ℕ) (w : Option Watched) (on : Bool) (c : Counters) : Type 0 where
  pub many : length c.counts ≡ frames
  pub is : MatchOption w (on ≡ false) (λ (v : Watched). (on ≡ true) × Stands v c)
