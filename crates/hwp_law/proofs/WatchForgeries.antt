-- What the law refuses of lines of frames taken out of use: small changes of the two reports with a collector.
use Rattle.std.proofs.Common.{◌≡◌, ℕ, suc, zero, ◌==◌, true, false, Bool, List, [], ◌∷◌, ◌++◌, take, drop, Option, Some, None, refl, inl, inr, sym, ap, ◌∙◌, true≢false, arith}
use Rattle.hwp_script_words.specs.hwp_geom.declared.Frame.{Frame}
use Rattle.hwp_report_text.specs.hwp_page.declared.Entry.{Entry}
use Rattle.hwp_script_words.specs.declared.Command.TheVariants as commands
use Rattle.hwp_script_words.specs.declared.Script.{Script}
use Rattle.hwp_report_text.specs.declared.Answer.TheVariants as answers
use Rattle.hwp_report_text.specs.declared.CpuLine.{CpuLine}
use Rattle.hwp_report_text.specs.declared.CpuLine.TheVariants as lines
use Rattle.hwp_report_text.specs.declared.How.TheVariants as hows
use Rattle.hwp_report_text.specs.declared.MarkLine.TheVariants as marks
use Rattle.hwp_report_text.specs.declared.OfflineResult.TheVariants as results
use Rattle.hwp_report_text.specs.declared.Report.{Report}
use Rattle.hwp_law.specs.Answers.{named_frames}
use Rattle.hwp_law.specs.Causes.{AreCaused}
use Rattle.hwp_law.specs.Entries.{IsMadeBy}
use Rattle.hwp_law.specs.Offlined.{AreOfflined, IsOffline}
use Rattle.hwp_law.specs.Pairings.{AreRecorded, is_move, is_soft}
use Rattle.hwp_law.specs.Records.{how_in}
use Rattle.hwp_law.proofs.Examples.{command}
use Rattle.hwp_law.proofs.WatchExamples.{at, frame, from_answer, list, moved, moved_history, moved_line, moving, none_goes, offlined, one_goes, reported, up_to_event, watching, weak_event}

-- the report of `watch 2 2` with these lines between the second scrub's event and its answer
abbrev between : List CpuLine → Report
between rows = reported (moved ∷ []) moved_history (up_to_event ++ (rows ++ from_answer 4))

-- a frame more or fewer than some
abbrev has_one : List Frame → Bool
has_one (frame ∷ []) = true
has_one _ = false

-- the first of some frames is frame 0
abbrev is_first : List Frame → Bool
is_first (frame ∷ frames) = frame.0 == 0
is_first [] = false

-- ---- which frames

-- one line too many, where a frame went and where none did; and one too few
pub said_twice : AreOfflined (watching 2 2) (between (moved_line ∷ offlined 0 results.Already ∷ [])) (command 4) → ⊥
said_twice are = true≢false (sym (ap has_one are.frames))

pub said_without : AreOfflined (watching 2 1) one_goes (command 4) → ⊥
said_without are = true≢false (ap has_one are.frames)

pub not_said : AreOfflined (watching 2 2) none_goes (command 4) → ⊥
not_said are = true≢false (sym (ap has_one are.frames))

-- the line is of the frame that was noted
pub other_frame : AreOfflined (watching 2 2) (between (offlined 1 (results.Moved (frame 0) (at 3)) ∷ [])) (command 4) → ⊥
other_frame are = true≢false (sym (ap is_first are.frames))

-- ---- what came of them

-- `moved` is said of a frame whose mark says so
abbrev taken_free : Report
taken_free = reported (marks.Poisoned 0 (command 4) hows.TakenFree ∷ []) moved_history (up_to_event ++ moved_line ∷ from_answer 4)

pub moved_free : IsOffline (watching 2 2) taken_free (command 4) (frame 0) (results.Moved (frame 1) (at 3)) → ⊥
moved_free (stands, (zero, m, less, there, (own, how))) = true≢false (sym (ap is_move (ap how_in there ∙ how)))
moved_free (stands, (suc k, m, less, there, such)) = absurd (omega (arith, less))

pub moved_free_counted : AreRecorded (watching 2 2) taken_free (command 4) → ⊥
moved_free_counted recorded = let same : ◌≡◌ {A = ℕ} 0 1 = recorded.softs (frame 0) true in absurd (omega arith)

-- and by an entry of the command, at the place that the line names
abbrev is_soft_entry : Option Entry → Bool
is_soft_entry (Some e) = is_soft e.what
is_soft_entry None = false

pub other_place : IsOffline (watching 2 2) one_goes (command 4) (frame 0) (results.Moved (frame 1) (at 4)) → ⊥
other_place offline = true≢false (sym (ap is_soft_entry offline.0))

-- `stopped` is said where the machine had stopped
pub stopped_on : IsOffline (watching 2 2) one_goes (command 4) (frame 0) results.Stopped → ⊥
stopped_on stopped = true≢false (sym stopped)

-- ---- where the lines stand

-- behind the answer of its command, also behind the last one, and before its command's event line
pub behind_answer : AreCaused (watching 2 2) one_goes (record { 0 = 0 }) 4 (drop 4 (list 2 2)) (lines.Answer 4 (answers.Scrubbed 1) ∷ moved_line ∷ drop 1 (from_answer 4)) → ⊥
behind_answer caused = let is : ◌≡◌ {A = ℕ} 4 5 = caused.3.0 in absurd (omega arith)

pub behind_all : AreCaused (watching 2 2) one_goes (record { 0 = 0 }) 6 [] (moved_line ∷ []) → ⊥
behind_all caused = caused

pub before_event : AreCaused (watching 2 2) one_goes (record { 0 = 0 }) 4 (drop 4 (list 2 2)) (moved_line ∷ lines.Event (weak_event 4) ∷ from_answer 4) → ⊥
before_event caused = caused.1

-- ---- scripts without a `watch`

-- the same script with another `weak` in its place
abbrev unwatched : Script
unwatched = record (watching 2 2) { lists = (take 2 (list 2 2) ++ commands.Weak (frame 0) 1 ∷ drop 3 (list 2 2)) ∷ [] }

-- there a scrub moves no page, and a weak frame isn't named
pub moved_unwatched : IsMadeBy unwatched (λ who. None) (record { 0 = 0 }) moving → ⊥
moved_unwatched (inl made) = true≢false (sym made.0.0)
moved_unwatched (inr copied) = copied

pub weak_named : named_frames (watching 2 2) ≡ 0 ∷ []
weak_named = refl

pub weak_unnamed : named_frames unwatched ≡ []
weak_unnamed = refl

-- with one, a command that can't fail still moves none
pub moved_by_mark : IsMadeBy (watching 2 2) (λ who. None) (record { 0 = 0 }) (record moving { who = command 1 }) → ⊥
moved_by_mark (inl made) = true≢false (sym made.0.1)
moved_by_mark (inr copied) = copied

-- no frame goes where the processor has no collector
pub said_unwatched : AreOfflined unwatched one_goes (command 4) → ⊥
said_unwatched are = true≢false (ap has_one are.frames)
