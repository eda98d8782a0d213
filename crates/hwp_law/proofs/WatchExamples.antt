-- Two reports of a processor with a collector, by hand: a thread stores 5, a line of its frame 0 is weak, two scrubs meet it, and the
-- thread loads its 5. Where two notes within two rounds take a frame out of use, the second scrub moves the page to frame 1; where
-- they must be of one round, nothing comes of them.
use Rattle.std.proofs.Common.{◌≡◌, ℕ, suc, zero, ◌+◌, ◌*◌, ◌==◌, ◌&&◌, cond, ap, All, true, false, Bool, List, [], ◌∷◌, ◌++◌, Some, None, refl, sym, inl, lit<, lit≤, true≢false, arith}
use Rattle.std.proofs.lemmas.Bool.{ne_eqb}
use Rattle.std.specs.List.{count_by}
use Rattle.hwp_script_words.specs.hwp_cec.Ages.{Note, Round}
use Rattle.hwp_script_words.specs.hwp_geom.declared.Frame.{Frame}
use Rattle.hwp_script_words.specs.hwp_geom.declared.Layout.{Layout}
use Rattle.hwp_script_words.specs.hwp_geom.declared.Mask.{Mask}
use Rattle.hwp_script_words.specs.hwp_geom.declared.Version.TheVariants.{Two}
use Rattle.hwp_report_text.specs.hwp_page.declared.At.{At}
use Rattle.hwp_report_text.specs.hwp_page.declared.Entry.{Entry}
use Rattle.hwp_report_text.specs.hwp_page.declared.Met.TheVariants.{Word}
use Rattle.hwp_report_text.specs.hwp_page.declared.Situation.{Situation}
use Rattle.hwp_report_text.specs.hwp_page.declared.Situation.TheVariants as situations
use Rattle.hwp_report_text.specs.hwp_page.declared.What.TheVariants as entries
use Rattle.hwp_script_words.specs.declared.Command.{Command}
use Rattle.hwp_script_words.specs.declared.Command.TheVariants as commands
use Rattle.hwp_script_words.specs.declared.Script.{Script}
use Rattle.hwp_report_text.specs.declared.Acted.{Acted}
use Rattle.hwp_report_text.specs.declared.Acted.TheVariants as acts
use Rattle.hwp_report_text.specs.declared.Answer.TheVariants as answers
use Rattle.hwp_report_text.specs.declared.CpuLine.{CpuLine}
use Rattle.hwp_report_text.specs.declared.CpuLine.TheVariants as lines
use Rattle.hwp_report_text.specs.declared.EventLine.{EventLine}
use Rattle.hwp_report_text.specs.declared.FrameLine.{FrameLine}
use Rattle.hwp_report_text.specs.declared.How.TheVariants as hows
use Rattle.hwp_report_text.specs.declared.MarkLine.{MarkLine}
use Rattle.hwp_report_text.specs.declared.MarkLine.TheVariants as marks
use Rattle.hwp_report_text.specs.declared.OfflinedLine.{OfflinedLine}
use Rattle.hwp_report_text.specs.declared.OfflineResult.{OfflineResult}
use Rattle.hwp_report_text.specs.declared.OfflineResult.TheVariants as results
use Rattle.hwp_report_text.specs.declared.Report.{Report}
use Rattle.hwp_report_text.specs.declared.Whereabouts.TheVariants as places
use Rattle.hwp_law.specs.Notes.{notes}
use Rattle.hwp_law.specs.Watched.{due, watched_after}
use Rattle.hwp_law.specs.Answers.{IsNamed}
use Rattle.hwp_law.specs.Causes.{AreCaused}
use Rattle.hwp_law.specs.Entries.{IsMadeBy}
use Rattle.hwp_law.specs.Lines.{marks_of, offlined_of}
use Rattle.hwp_law.specs.Offlined.{AreOfflined, IsOffline}
use Rattle.hwp_law.specs.Pairings.{AreRecorded, entries_of, is_failure, is_failure_mark, is_required, is_soft_mark, marks_in, soft_lines, urgent_from}
use Rattle.hwp_law.proofs.Examples.{command, layout}

-- the frame, and the place in the history of page 0
abbrev pub frame : ℕ → Frame
frame n = record { 0 = n }

abbrev pub at : ℕ → At
at n = record { page = record { 0 = 0 }; entry = n }

-- the layout of the first example with one frame more
abbrev pub three_frames : Layout
three_frames = record layout { version = Two; frames = 3; kernel = false ∷ false ∷ false ∷ [] }

-- `store 0 0 0 5`, `weak 0 1`, `watch T W`, `scrub 0 0`, `scrub 0 0`, `load 0 0 0`
abbrev pub list : ℕ → ℕ → List Command
list threshold window =
    commands.Store (record { 0 = 0 }) (record { 0 = 0 }) 0 5
    ∷ commands.Weak (frame 0) 1
    ∷ commands.Watch threshold window
    ∷ commands.Scrub (frame 0) (frame 0)
    ∷ commands.Scrub (frame 0) (frame 0)
    ∷ commands.Load (record { 0 = 0 }) (record { 0 = 0 }) 0
    ∷ []

abbrev pub watching : ℕ → ℕ → Script
watching threshold window = record { layout = three_frames; lists = list threshold window ∷ []; go = [] }

-- an entry of page 0, and the thread's access at line 0
abbrev no_lines : Mask
no_lines = record { 0 = 0 }

abbrev stored : List Entry
stored =
    (record { who = command 0; what = entries.FaultIn })
    ∷ (record { who = command 0; what = entries.Map (record { 0 = 0 }) })
    ∷ (record { who = command 0; what = entries.Store (record { 0 = 0 }) 0 (Word no_lines 5) })
    ∷ []

abbrev loads : Entry
loads = record { who = command 5; what = entries.Load (record { 0 = 0 }) 0 (Word no_lines 5) }

-- `4 soft`: the entry of the second scrub
abbrev pub moving : Entry
moving = record { who = command 4; what = entries.Soft }

-- `event 2 9c000000000000c0 40 86 S4 keep`, of the command with this number
abbrev pub weak_event : ℕ → EventLine
weak_event n = record { seq = n; bank = 2; status = 0x9c000000000000c0; addr = 0x40; misc = 0x86; row = 4; acted = acts.Keep }

-- `4 offlined F RESULT`
abbrev pub offlined : ℕ → OfflineResult → CpuLine
offlined n result = lines.Offlined (record { seq = 4; frame = frame n; result = result })

-- the lines up to the second scrub's event, and those behind it: its answer, and the load's, which names this entry
abbrev pub up_to_event : List CpuLine
up_to_event =
    lines.Answer 0 (answers.Stored (at 2))
    ∷ lines.Answer 1 answers.Done
    ∷ lines.Answer 2 answers.Done
    ∷ lines.Event (weak_event 3)
    ∷ lines.Answer 3 (answers.Scrubbed 1)
    ∷ lines.Event (weak_event 4)
    ∷ []

abbrev pub from_answer : ℕ → List CpuLine
from_answer n = lines.Answer 4 (answers.Scrubbed 1) ∷ lines.Answer 5 (answers.Value 5 (at n)) ∷ []

abbrev pub frame_line : List MarkLine → FrameLine
frame_line list = record { place = places.Handled; bad = no_lines; weak = record { 0 = 2 }; marks = list }

-- the report where frame 0 has these marks, page 0 this history, and the processor these lines
abbrev pub reported : List MarkLine → List Entry → List CpuLine → Report
reported list history rows = record {
  version = Two;
  stop = None;
  count = 1;
  files = [];
  frames =
      frame_line list
      ∷ (record { place = places.Of (record { 0 = 0 }); bad = no_lines; weak = no_lines; marks = [] })
      ∷ (record { place = places.Free; bad = no_lines; weak = no_lines; marks = [] })
      ∷ [];
  pages = history ∷ [];
  cpus = rows ∷ [];
}

-- `poisoned 0 0 4 soft moved recovered`
abbrev pub moved : MarkLine
moved = marks.Poisoned 0 (command 4) hows.Moved

-- the histories with the scrub's entry and without it
abbrev pub moved_history : List Entry
moved_history = stored ++ moving ∷ loads ∷ []

abbrev pub still_history : List Entry
still_history = stored ++ loads ∷ []

-- `4 offlined 0 moved 1 0 3`
abbrev pub moved_line : CpuLine
moved_line = offlined 0 (results.Moved (frame 1) (at 3))

-- the report of `watch 2 2`: the second note of frame 0 takes it out of use
abbrev pub one_goes : Report
one_goes = reported (moved ∷ []) moved_history (up_to_event ++ moved_line ∷ from_answer 4)

-- the report of `watch 2 1`: the first note was forgotten when the first scrub's round had ended
abbrev pub none_goes : Report
none_goes = reported [] still_history (up_to_event ++ from_answer 3)

-- ---- the report of `watch 2 2`

-- the first scrub takes no frame out of use, and the second one takes frame 0, whose content moved by the entry that the line names
pub first_offlined : AreOfflined (watching 2 2) one_goes (command 3)
first_offlined = record { frames = refl; caused = λ k d less. absurd (omega (arith, less)) }

abbrev Caused : Type 0
Caused = All (λ (l : OfflinedLine). IsOffline (watching 2 2) one_goes (command 4) l.frame l.result) (offlined_of one_goes (command 4))

pub second_offlined : AreOfflined (watching 2 2) one_goes (command 4)
second_offlined = record { frames = refl; caused = caused }
  where
    caused : Caused
    caused zero d less = (refl, (0, moved, lit< tt, refl, (refl, refl)))
    caused (suc k) d less = absurd (omega (arith, less))

-- no event line of a command ends the machine
unheeded : {P : Type 0} → ◌≡◌ {A = Bool} false true → P
unheeded is = absurd (true≢false (sym is))

-- every line stands where it can, and every answer has its cause
pub all_caused : AreCaused (watching 2 2) one_goes (record { 0 = 0 }) 0 (list 2 2) (up_to_event ++ moved_line ∷ from_answer 4)
all_caused = (
  refl,
  (no_lines, refl),
  unheeded,
  (
    refl,
    tt,
    unheeded,
    (
      refl,
      tt,
      unheeded,
      (
        refl,
        (
          refl,
          refl,
          unheeded,
          (
            refl,
            (
              refl,
              tt,
              (
                refl,
                refl,
                unheeded,
                (refl, (no_lines, refl), unheeded, tt),
              ),
            ),
          ),
        ),
      ),
    ),
  ),
)

-- the scrub makes the entry that its line names, and the line names it
pub scrub_moves : IsMadeBy (watching 2 2) (λ who. None) (record { 0 = 0 }) moving
scrub_moves = inl ((refl, refl), tt)

pub move_named : IsNamed one_goes.cpus (at 3) moving
move_named = (moved_line, 6, refl, refl, refl)

-- the mark of frame 0 has its entry and its line
abbrev Same : Situation → Type 0
Same situation =
    (entries_of one_goes (command 4) (is_failure situation) ≡ marks_in one_goes (is_failure_mark (command 4) situation))
    × (entries_of one_goes (command 4) (is_required situation) ≡ urgent_from one_goes (command 4) situation 0 one_goes.frames)

none_failed : (situation : Situation) → Same situation
none_failed situations.Free = (refl, refl)
none_failed situations.Kernel = (refl, refl)
none_failed situations.FileClean = (refl, refl)
none_failed situations.FileDirty = (refl, refl)
none_failed situations.AnonOnly = (refl, refl)
none_failed situations.SwapClean = (refl, refl)
none_failed situations.SwapDirty = (refl, refl)
none_failed situations.LockedClean = (refl, refl)
none_failed situations.LockedFile = (refl, refl)
none_failed situations.LockedAnon = (refl, refl)

abbrev SoftSame : ℕ → Bool → Type 0
SoftSame n moved = count_by (is_soft_mark (command 4) moved) (marks_of one_goes n) ≡ soft_lines (watching 2 2) one_goes (command 4) (frame n) moved

other : (n : ℕ) → (0 == suc (suc (suc n))) ≡ false
other n = ne_eqb 0 (suc (suc (suc n))) (λ is. absurd (omega (arith, is)))

soft_same : (n : ℕ) (moved : Bool) → SoftSame n moved
soft_same zero true = refl
soft_same zero false = refl
soft_same (suc zero) true = refl
soft_same (suc zero) false = refl
soft_same (suc (suc zero)) true = refl
soft_same (suc (suc zero)) false = refl
soft_same (suc (suc (suc n))) true = sym (ap (λ (b : Bool). 0 + (0 + cond (b && true) 1 0)) (other n))
soft_same (suc (suc (suc n))) false = sym (ap (λ (b : Bool). 0 + (0 + cond (b && false) 1 0)) (other n))

pub second_recorded : AreRecorded (watching 2 2) one_goes (command 4)
second_recorded = record {
  failures = λ situation paged. (none_failed situation).0;
  required = λ situation paged. (none_failed situation).1;
  moves = refl;
  softs = λ frame moved. soft_same frame.0 moved;
  one = lit≤ tt;
}

-- ---- the report of `watch 2 1`

-- a note that is a round old is too old, so no frame goes
pub none_offlined : AreOfflined (watching 2 1) none_goes (command 4)
none_offlined = record { frames = refl; caused = λ k d less. absurd (omega (arith, less)) }

pub none_caused : AreCaused (watching 2 1) none_goes (record { 0 = 0 }) 0 (list 2 1) (up_to_event ++ from_answer 3)
none_caused = (
  refl,
  (no_lines, refl),
  unheeded,
  (
    refl,
    tt,
    unheeded,
    (
      refl,
      tt,
      unheeded,
      (
        refl,
        (
          refl,
          refl,
          unheeded,
          (
            refl,
            (
              refl,
              refl,
              unheeded,
              (refl, (no_lines, refl), unheeded, tt),
            ),
          ),
        ),
      ),
    ),
  ),
)

-- ---- which lines are notes

-- a line of this bank and frame, which this was done about
abbrev line : ℕ → ℕ → Acted → EventLine
line bank frame acted = record { seq = 0; bank = bank; status = 0x9c000000000000c0; addr = frame * 4096 + 64; misc = 0x86; row = 4; acted = acted }

-- a machine check that stopped the machine, or was a panic, notes nothing; a weak line that was told before it is a check of its own
pub stop_notes_nothing : notes three_frames (line 0 1 acts.Keep ∷ line 1 2 acts.Stop ∷ []) ≡ []
stop_notes_nothing = refl

pub panic_notes_nothing : notes three_frames (line 0 1 acts.Keep ∷ line 2 2 acts.Panic ∷ []) ≡ []
panic_notes_nothing = refl

pub weak_before_stop : notes three_frames (line 2 0 acts.Keep ∷ line 0 1 acts.Keep ∷ line 1 2 acts.Stop ∷ []) ≡ frame 0 ∷ []
weak_before_stop = refl

-- the notes of one check are in the order of its banks, and a frame may be noted twice
pub both_banks : notes three_frames (line 0 2 acts.Keep ∷ line 1 1 acts.Keep ∷ line 1 2 acts.Keep ∷ []) ≡ frame 2 ∷ frame 1 ∷ frame 2 ∷ []
both_banks = refl

-- an address outside the machine or in a frame of the kernel, or one that isn't valid, is no note; nor is an event of another row
pub outside : notes three_frames (line 0 3 acts.Keep ∷ []) ≡ []
outside = refl

pub kernels : notes (record three_frames { kernel = false ∷ true ∷ false ∷ [] }) (line 0 1 acts.Keep ∷ []) ≡ []
kernels = refl

pub addressless : notes three_frames (record (line 0 1 acts.Keep) { status = 0x98000000000000c0 } ∷ []) ≡ []
addressless = refl

pub graded_otherwise : notes three_frames (record (line 0 1 acts.Deferred) { row = 6 } ∷ []) ≡ []
graded_otherwise = refl

-- ---- which notes take their frame out of use

-- a note is too old when as many rounds as the window has have ended since, and no sooner
pub too_old : due (Some (record { threshold = 2; window = 2; events = Note (frame 0) ∷ Round ∷ Round ∷ [] })) (frame 0 ∷ []) ≡ []
too_old = refl

pub young_enough : due (Some (record { threshold = 2; window = 2; events = Note (frame 0) ∷ Round ∷ [] })) (frame 0 ∷ []) ≡ frame 0 ∷ []
young_enough = refl

-- with a threshold of 1 each note takes its frame, and with 2 every second one does: the notes before it are forgotten
pub each_note : due (Some (record { threshold = 1; window = 1; events = [] })) (frame 0 ∷ frame 0 ∷ []) ≡ frame 0 ∷ frame 0 ∷ []
each_note = refl

pub second_note : due (Some (record { threshold = 2; window = 1; events = Note (frame 0) ∷ [] })) (frame 0 ∷ frame 1 ∷ frame 0 ∷ frame 1 ∷ []) ≡ frame 0 ∷ frame 1 ∷ []
second_note = refl

-- a new `watch` forgets all notes, one that was answered `stopped` none; without one there is no collector
pub begun_anew : watched_after (commands.Watch 2 1) answers.Done (frame 0 ∷ []) (Some (record { threshold = 1; window = 1; events = Note (frame 1) ∷ [] }))
    ≡ Some (record { threshold = 2; window = 1; events = [] })
begun_anew = refl

pub unwatched : due None (frame 0 ∷ []) ≡ []
unwatched = refl
