-- The frames that are taken out of use beside a command: what came of each, why, and which entries that made; and which frames those are,
-- by what the commands of the processor note.
use Rattle.std.specs.Prelude.{◌≡◌, ℕ, true, false, List, ◌∷◌, Option, Some, None, filter, filter_map, map, slice_get, take}
use Rattle.std.specs.List.{cons_option}
use Rattle.hwp_law.specs.hwp_geom.declared.Frame.{Frame}
use Rattle.hwp_law.specs.hwp_geom.declared.Layout.{Layout}
use Rattle.hwp_law.specs.hwp_geom.declared.Who.{Who}
use Rattle.hwp_law.specs.hwp_page.declared.At.{At}
use Rattle.hwp_plain.specs.hwp_core_rule.declared.Made.{Made}
use Rattle.hwp_plain.specs.hwp_core_rule.declared.SharedWord.TheVariants as places
use Rattle.hwp_plain.specs.hwp_core_rule.declared.View.{View}
use Rattle.hwp_plain.specs.hwp_core_rule.Known.{Saw, SawStop, deeds}
use Rattle.hwp_law.specs.hwp_script_words.declared.Command.{Command}
use Rattle.hwp_law.specs.hwp_script_words.declared.Command.TheVariants as commands
use Rattle.hwp_law.specs.hwp_report_text.declared.Answer.{Answer}
use Rattle.hwp_law.specs.hwp_report_text.declared.Answer.TheVariants as answers
use Rattle.hwp_law.specs.hwp_report_text.declared.OfflineResult.{OfflineResult}
use Rattle.hwp_law.specs.hwp_report_text.declared.OfflineResult.TheVariants as results
use Rattle.hwp_law.specs.Watched.{Watched, due, watched_after}
use Rattle.hwp_law.specs.Pairings.{is_soft}
use Rattle.hwp_soft.specs.Offline.{SawLines}
use Rattle.hwp_cpu_row.specs.hwp_claim_frame.Claims.{SawPoison}
use Rattle.hwp_cpu_row.specs.hwp_claim_frame.Grabs.{WasFree}
use Rattle.hwp_soft.specs.hwp_soft_move.Seizes.{IsUsers}
use Rattle.hwp_cpu_row.specs.declared.FrameChange.{FrameChange}
use Rattle.hwp_cpu_row.specs.declared.FrameChange.TheVariants as owns
use Rattle.hwp_cpu_row.specs.declared.Offlining.{Offlining}
use Rattle.hwp_cpu_row.specs.declared.Row.{Row}
use Rattle.hwp_cpu_row.specs.Acts.{told_notes}

-- ---- what came of a frame

-- a step of the command showed why, or what it did to the frame is this; the machine had stopped, or the frame isn't the kernel's
abbrev pub IsOfflineServed : Layout → View → Who → Frame → Option FrameChange → OfflineResult → Type 0
IsOfflineServed layout view who frame change (results.Moved other at) =
    IsUsers layout frame × ((cycle : ℕ) × (change ≡ Some (owns.Offlined frame cycle true))) × ((word : ℕ) × WasFree view who other word)
IsOfflineServed layout view who frame change results.TakenFree = IsUsers layout frame × ((cycle : ℕ) × (change ≡ Some (owns.Offlined frame cycle false)))
IsOfflineServed layout view who frame change results.Already = IsUsers layout frame × SawPoison view who frame × (change ≡ None)
IsOfflineServed layout view who frame change (results.HasBad mask) = IsUsers layout frame × SawLines view who frame mask.0 × (change ≡ None)
IsOfflineServed layout view who frame change results.NoFrame = IsUsers layout frame × Saw view who places.Available 0 × (change ≡ None)
IsOfflineServed layout view who frame change results.Stopped = SawStop view who × (change ≡ None)

-- ---- the entries by which pages left such frames

-- the entries of that kind among some, and of the command's, by their places
abbrev pub place_of : Made → At
place_of m = record { page = m.page; entry = m.place }

abbrev pub left_among : List Made → List At
left_among made = map place_of (filter (λ (m : Made). is_soft m.entry.what) made)

abbrev pub left_by : Who → View → List At
left_by who view = left_among (deeds who view)

-- by what came of a frame, and by the answer of the command that is `soft` itself
abbrev pub left_at : OfflineResult → Option At
left_at (results.Moved other at) = Some at
left_at _ = None

abbrev pub left_beside : List Offlining → List At
left_beside offlined = filter_map (λ (o : Offlining). left_at o.result) offlined

abbrev pub left_itself : Command → Answer → Option At
left_itself (commands.Soft frame) (answers.Moved other at) = Some at
left_itself _ _ = None

-- the command made those that its row tells, and no other
abbrev pub AreBeside : View → Who → Command → Row → Type 0
AreBeside view who command row = left_by who view ≡ cons_option (left_itself command row.answer) (left_beside row.offlined)

-- ---- which frames are due

-- the collector of a processor after its first commands, by their rows
abbrev pub watched_along : Layout → List Command → List Row → Option Watched → Option Watched
watched_along layout (command ∷ commands) (row ∷ rows) before = watched_along layout commands rows (watched_after command row.answer (told_notes layout row.told) before)
watched_along layout _ _ before = before

-- and before the command with number n
abbrev pub watched_at : Layout → List Command → List Row → ℕ → Option Watched
watched_at layout list rows n = watched_along layout list (take n rows) None

-- the frames of a row are those that its notes make due
abbrev pub AreDue : Layout → Option Watched → Row → Type 0
AreDue layout watched row = map (λ (o : Offlining). o.frame) row.offlined ≡ due watched (told_notes layout row.told)

abbrev pub KnowsDue : Layout → List Command → List Row → Type 0
KnowsDue layout list rows = (n : ℕ) (row : Row) → slice_get rows n ≡ Some row → AreDue layout (watched_at layout list rows n) row
