-- Why a command was answered so: by what a processor knows of it, of the words that its steps showed, of the histories that it
-- saw and of the entries that it made.
use Rattle.std.specs.Prelude.{◌≡◌, ◌≢◌, ◌⊎◌, ℕ, ◌+◌, ◌<◌, true, false, List, Option, None, Some, length, IsSomeAnd}
use Rattle.hwp_law.specs.hwp_geom.declared.Damage.{Damage}
use Rattle.hwp_law.specs.hwp_geom.declared.Damage.TheVariants as damages
use Rattle.hwp_law.specs.hwp_geom.declared.Frame.{Frame}
use Rattle.hwp_law.specs.hwp_geom.declared.Layout.{Layout}
use Rattle.hwp_law.specs.hwp_geom.declared.Mask.{Mask}
use Rattle.hwp_law.specs.hwp_geom.declared.Page.{Page}
use Rattle.hwp_law.specs.hwp_geom.declared.Proc.{Proc}
use Rattle.hwp_law.specs.hwp_geom.declared.Thread.{Thread}
use Rattle.hwp_law.specs.hwp_geom.declared.VSlot.{VSlot}
use Rattle.hwp_law.specs.hwp_geom.declared.Who.{Who}
use Rattle.hwp_law.specs.hwp_geom.Limits.{line_limit}
use Rattle.hwp_law.specs.hwp_kill.Prctl.{reply}
use Rattle.hwp_law.specs.hwp_page.declared.At.{At}
use Rattle.hwp_law.specs.hwp_page.declared.Met.TheVariants.{Word, Sigbus}
use Rattle.hwp_law.specs.hwp_page.declared.Outcome.{Outcome}
use Rattle.hwp_law.specs.hwp_page.declared.Outcome.TheVariants as outcomes
use Rattle.hwp_law.specs.hwp_page.declared.PageState.{PageState}
use Rattle.hwp_law.specs.hwp_page.declared.What.{What}
use Rattle.hwp_law.specs.hwp_page.declared.What.TheVariants as entries
use Rattle.hwp_law.specs.hwp_page.Situations.{outcome_of}
use Rattle.hwp_law.specs.hwp_page.Refusals.{IsAway, IsDirty, IsLockedIn, IsMapped, IsUnused}
use Rattle.hwp_law.specs.hwp_page.Step.{IsOf}
use Rattle.hwp_plain.specs.hwp_core_rule.declared.Made.{Made}
use Rattle.hwp_plain.specs.hwp_core_rule.declared.SharedWord.TheVariants as places
use Rattle.hwp_plain.specs.hwp_core_rule.declared.Spoiled.{Spoiled}
use Rattle.hwp_plain.specs.hwp_core_rule.declared.View.{View}
use Rattle.hwp_plain.specs.hwp_words.Counters.{hardware_of}
use Rattle.hwp_plain.specs.hwp_words.Frames.{count_of, is_poisoned}
use Rattle.hwp_plain.specs.hwp_core_rule.Lists.{SomeMember}
use Rattle.hwp_plain.specs.hwp_core_rule.Known.{HasMade, HasMadeNone, HasOnly, IsOnTheWay, Precedes, Saw, SawBadOf, SawStop, is_failure}
use Rattle.hwp_plain.specs.hwp_core_rule.Pages.{SawState}
use Rattle.hwp_law.specs.hwp_script_words.declared.Command.{Command}
use Rattle.hwp_law.specs.hwp_script_words.declared.Command.TheVariants as commands
use Rattle.hwp_law.specs.hwp_report_text.declared.Answer.{Answer}
use Rattle.hwp_law.specs.hwp_report_text.declared.Answer.TheVariants as answers
use Rattle.hwp_law.specs.hwp_banks.Banks.{Banks}
use Rattle.hwp_law.specs.Outcomes.{reply_answer}
use Rattle.hwp_law.specs.Commands.{Access, access_of, can_fail, process_of_thread}
use Rattle.hwp_law.specs.Settings.{arguments, last_policy, settings}
use Rattle.hwp_law.specs.Pairings.{is_soft}
use Rattle.hwp_law_served.specs.Shown.{IsRevivable}
use Rattle.hwp_cpu_row.specs.hwp_claim.declared.Found.{Found}
use Rattle.hwp_cpu_row.specs.hwp_claim_frame.Grabs.{WasFree}
use Rattle.hwp_soft.specs.hwp_soft_move.Seizes.{IsUsers, SawKernel}
use Rattle.hwp_cpu_row.specs.declared.FrameChange.{FrameChange}
use Rattle.hwp_cpu_row.specs.declared.FrameChange.TheVariants as owns
use Rattle.hwp_cpu_row.specs.declared.Row.{Row}
use Rattle.hwp_cpu_row.specs.hwp_claim.declared.EventOutcome.{EventOutcome}
use Rattle.hwp_cpu_row.specs.hwp_claim.Fits.{IsEntered}
use Rattle.hwp_cpu_row.specs.hwp_claim.Told.{first_signal}
use Rattle.hwp_law_served.specs.Copied.{IsCopyCaused}

-- a step of the command showed this word of its thread's process
pub record SawProcess (layout : Layout) (view : View) (who : Who) (thread : Thread) (word : ℕ) : Type 0 where
  pub process : Proc
  pub process_is : process_of_thread layout thread ≡ Some process
  pub saw : Saw view who (places.Process process) word

-- the thread's process had ended, by a signal in the history of this page
pub record FoundGone (layout : Layout) (view : View) (who : Who) (thread : Thread) (page : Page) : Type 0 where
  pub ended : SawProcess layout view who thread (page.0 + 1)

-- an entry by which a page left a frame that was taken out of use beside the command; which of these there are, AreBeside says
abbrev pub IsBeside : Made → Type 0
IsBeside m = is_soft m.entry.what ≡ true

-- an entry that answers no command: an access made it on its way, or memory failed for a command that can have that; or it stands beside
abbrev pub IsMet : Layout → Command → Made → Type 0
IsMet layout command m =
    IsSomeAnd (access_of command) (λ (a : Access). IsOf layout m.page a.slot × IsOnTheWay a.slot a.line m.entry.what) ⊎ (((can_fail command ≡ true) × (is_failure m.entry.what ≡ true)) ⊎ IsBeside m)

-- an entry that may stand before the one that answers an access of the page
abbrev pub IsBefore : Page → VSlot → ℕ → Made → Type 0
IsBefore page slot line m = Precedes page slot line m ⊎ IsBeside m

abbrev pub HasOnlyMet : Layout → View → Who → Command → Type 0
HasOnlyMet layout view who command = HasOnly (IsMet layout command) view who

-- the machine had stopped, or the command stopped it itself, and it made no entry that answers it
pub record FoundStopped (layout : Layout) (view : View) (who : Who) (command : Command) : Type 0 where
  pub stopped : SawStop view who ⊎ SomeMember (λ (w : Who). w ≡ who) view.stops
  pub only : HasOnlyMet layout view who command

-- the access made its entry last, at this place of the translation's page, and before it only such as may stand there
pub record Reached (layout : Layout) (view : View) (who : Who) (thread : Thread) (slot : VSlot) (line : ℕ) (at : At) (what : What) : Type 0 where
  pub going : SawProcess layout view who thread 0
  pub page : IsOf layout at.page slot
  pub made : HasMade (IsBefore at.page slot line) view who at.page at.entry what

-- the access made no entry but such as may stand before one that answers it
pub record HasOnlyBegun (layout : Layout) (view : View) (who : Who) (slot : VSlot) (line : ℕ) : Type 0 where
  pub page : Page
  pub page_is : IsOf layout page slot
  pub only : HasOnly (IsBefore page slot line) view who

-- no frame was available, and the access found the translation's page in none; it made no entry but such as may stand before
-- an answer
pub record FoundNoFrame (layout : Layout) (view : View) (who : Who) (thread : Thread) (slot : VSlot) (line : ℕ) : Type 0 where
  pub going : SawProcess layout view who thread 0
  pub available : Saw view who places.Available 0
  pub page : Page
  pub page_is : IsOf layout page slot
  pub place : ℕ
  pub away : SawState layout view who page place IsAway
  pub only : HasOnly (IsBefore page slot line) view who

-- the access was answered by SIGBUS, for a translation with a poison entry or a lost page: it made such an entry last
abbrev pub IsSigbus : Layout → View → Who → Thread → VSlot → ℕ → At → What → Type 0
IsSigbus layout view who thread slot line at what = Reached layout view who thread slot line at what

-- what each access may answer beside its own
abbrev pub IsBarred : Layout → View → Who → Thread → VSlot → ℕ → Answer → Type 0
IsBarred layout view who thread slot line answers.NoFrame = FoundNoFrame layout view who thread slot line
IsBarred layout view who thread slot line (answers.Gone page) = FoundGone layout view who thread page × HasOnlyBegun layout view who slot line
IsBarred layout view who thread slot line _ = ⊥

abbrev pub IsLoadCaused : Layout → View → Who → Thread → VSlot → ℕ → Answer → Type 0
IsLoadCaused layout view who thread slot line (answers.Value word at) = (mask : Mask) × Reached layout view who thread slot line at (entries.Load slot line (Word mask word))
IsLoadCaused layout view who thread slot line (answers.Sigbus at) = IsSigbus layout view who thread slot line at (entries.Load slot line (Sigbus thread))
IsLoadCaused layout view who thread slot line answer = IsBarred layout view who thread slot line answer

abbrev pub IsStoreCaused : Layout → View → Who → Thread → VSlot → ℕ → ℕ → Answer → Type 0
IsStoreCaused layout view who thread slot line word (answers.Stored at) = (mask : Mask) × Reached layout view who thread slot line at (entries.Store slot line (Word mask word))
IsStoreCaused layout view who thread slot line word (answers.Sigbus at) = IsSigbus layout view who thread slot line at (entries.Store slot line (Sigbus thread))
IsStoreCaused layout view who thread slot line word answer = IsBarred layout view who thread slot line answer

-- the command made this entry of the page alone
pub record MadeOne (view : View) (who : Who) (at : At) (what : What) : Type 0 where
  pub made : HasMade (λ m. ⊥) view who at.page at.entry what

-- the command made no entry, and saw the page, after so many entries, in such a state
pub record FoundState (layout : Layout) (view : View) (who : Who) (at : At) (Such : PageState → Type 0) : Type 0 where
  pub made : HasMadeNone view who
  pub saw : SawState layout view who at.page at.entry Such

-- of a command that names a page
abbrev pub IsPageCaused : Layout → View → Who → Page → What → Answer → Type 0
IsPageCaused layout view who page what (answers.DoneAt at) = (at.page ≡ page) × MadeOne view who at what
IsPageCaused layout view who page what (answers.NotResident at) = (at.page ≡ page) × FoundState layout view who at IsAway
IsPageCaused layout view who page what _ = ⊥

-- a step of the command, under the lock of the page's frame, showed that these lines of it were bad
pub record SawBadLines (layout : Layout) (view : View) (who : Who) (page : Page) (mask : Mask) : Type 0 where
  pub some : mask.0 ≢ 0
  pub frame : Frame
  pub inside : frame.0 < layout.frames
  pub saw : SawBadOf view who page frame mask.0

-- of a command that copies a page's content: the page was in a frame with bad lines
abbrev pub IsCopiedOut : Layout → View → Who → Page → What → Answer → Type 0
IsCopiedOut layout view who page what (answers.BadLines mask at) =
    (at.page ≡ page) × FoundState layout view who at (λ (s : PageState). s.cached ≡ true) × SawBadLines layout view who page mask
IsCopiedOut layout view who page what answer = IsPageCaused layout view who page what answer

-- the command spoiled this line of the frame, and made no entry
pub record HasSpoiledLine (view : View) (who : Who) (frame : Frame) (line : ℕ) (damage : Damage) : Type 0 where
  pub within : line < line_limit
  pub spoiled : SomeMember (λ (s : Spoiled). (s.stamp.who ≡ who) × (s.frame ≡ frame) × (s.line ≡ line) × (s.damage ≡ damage)) view.spoiled
  pub made : HasMadeNone view who

-- the reply of prctl(2) to the policy that the processor's earlier commands, with these answers, left the thread
pub record IsReplied (layout : Layout) (earlier : List (Command × Answer)) (view : View) (who : Who) (thread : Thread) (given : List ℕ) (answer : Answer) : Type 0 where
  pub going : SawProcess layout view who thread 0
  pub made : HasMadeNone view who
  pub replied : answer ≡ reply_answer (reply (last_policy (settings layout thread earlier)) given)

-- ---- failures

-- the command itself made the frame fail, by no report of the hardware, and found this
pub record HasFailed (layout : Layout) (view : View) (who : Who) (frame : Frame) (found : Found) : Type 0 where
  pub entered : IsEntered layout view who frame None found found.at
  pub only : HasOnly (λ (m : Made). is_failure m.entry.what ≡ true) view who

-- the failure came to this
pub record HasCome (layout : Layout) (view : View) (who : Who) (frame : Frame) (own : Option FrameChange) (outcome : Outcome) : Type 0 where
  pub found : Found
  pub own_is : own ≡ Some (owns.Failed frame found)
  pub outcome_is : outcome_of found.situation ≡ outcome
  pub failed : HasFailed layout view who frame found

-- the frame was poisoned already, as the command was shown, and it made no entry
pub record FoundPoisoned (view : View) (who : Who) (frame : Frame) : Type 0 where
  pub word : ℕ
  pub poisoned : is_poisoned word ≡ true
  pub saw : Saw view who (places.Frame frame) word
  pub made : HasMadeNone view who

abbrev pub IsInjectCaused : Layout → View → Who → Frame → Option FrameChange → Answer → Type 0
IsInjectCaused layout view who frame own answers.Recovered = HasCome layout view who frame own outcomes.Recovered
IsInjectCaused layout view who frame own answers.Delayed = HasCome layout view who frame own outcomes.Delayed
IsInjectCaused layout view who frame own answers.Ignored = HasCome layout view who frame own outcomes.Ignored
IsInjectCaused layout view who frame own answers.Already = FoundPoisoned view who frame × (own ≡ None)
IsInjectCaused layout view who frame own _ = ⊥

-- ---- soft offline

-- a step of the command, under the frame's lock, showed that these lines of it were bad, and it made no entry
pub record FoundBadLines (view : View) (who : Who) (frame : Frame) (mask : Mask) : Type 0 where
  pub some : mask.0 ≢ 0
  pub page : Page
  pub saw : SawBadOf view who page frame mask.0
  pub made : HasMadeNone view who

-- the command moved the page in the frame to another one, which it had seen free, by this entry
pub record HasMoved (view : View) (who : Who) (frame other : Frame) (own : Option FrameChange) (at : At) : Type 0 where
  pub cycle : ℕ
  pub own_is : own ≡ Some (owns.Offlined frame cycle true)
  pub word : ℕ
  pub free : WasFree view who other word
  pub made : MadeOne view who at entries.Soft

-- the frame had no page, and the command put it out of use
pub record HasTaken (view : View) (who : Who) (frame : Frame) (own : Option FrameChange) : Type 0 where
  pub cycle : ℕ
  pub own_is : own ≡ Some (owns.Offlined frame cycle false)
  pub made : HasMadeNone view who

-- of a frame that isn't the kernel's
abbrev pub IsOfflineCaused : Layout → View → Who → Frame → Option FrameChange → Answer → Type 0
IsOfflineCaused layout view who frame own (answers.Moved other at) = HasMoved view who frame other own at
IsOfflineCaused layout view who frame own answers.TakenFree = HasTaken view who frame own
IsOfflineCaused layout view who frame own answers.Already = FoundPoisoned view who frame × (own ≡ None)
IsOfflineCaused layout view who frame own (answers.HasBad mask) = FoundBadLines view who frame mask × (own ≡ None)
IsOfflineCaused layout view who frame own answers.NoFrame = HasMadeNone view who × Saw view who places.Available 0 × (own ≡ None)
IsOfflineCaused layout view who frame own _ = ⊥

abbrev pub IsSoftCaused : Layout → View → Who → Frame → Option FrameChange → Answer → Type 0
IsSoftCaused layout view who frame own answers.Kernel = SawKernel layout view who frame × HasMadeNone view who × (own ≡ None)
IsSoftCaused layout view who frame own answer = IsUsers layout frame × IsOfflineCaused layout view who frame own answer

-- ---- unpoisoning

-- the command was shown the frame without a poison
pub record FoundSound (view : View) (who : Who) (frame : Frame) : Type 0 where
  pub word : ℕ
  pub sound : is_poisoned word ≡ false
  pub saw : Saw view who (places.Frame frame) word

-- or that memory had failed by the hardware
pub record FoundHardware (view : View) (who : Who) : Type 0 where
  pub word : ℕ
  pub some : 0 < hardware_of word
  pub saw : Saw view who places.Counter word

-- or that these lines of the frame were bad
pub record FoundBad (layout : Layout) (view : View) (who : Who) (frame : Frame) (mask : Mask) : Type 0 where
  pub inside : frame.0 < layout.frames
  pub some : mask.0 ≢ 0
  pub saw : Saw view who (places.Bad frame) mask.0

-- or that the frame was in use, with this count
pub record FoundInUse (view : View) (who : Who) (frame : Frame) (count : ℕ) : Type 0 where
  pub word : ℕ
  pub used : ¬ IsRevivable word
  pub count_is : count_of word ≡ count
  pub saw : Saw view who (places.Frame frame) word

-- or that no memory had failed by the hardware
pub record FoundNoHardware (view : View) (who : Who) : Type 0 where
  pub word : ℕ
  pub none : hardware_of word ≡ 0
  pub saw : Saw view who places.Counter word

-- or that the frame was poisoned and could be unpoisoned
pub record FoundRevivable (view : View) (who : Who) (frame : Frame) : Type 0 where
  pub word : ℕ
  pub poisoned : is_poisoned word ≡ true
  pub revivable : IsRevivable word
  pub saw : Saw view who (places.Frame frame) word

-- or it took the frame's poison back, and was shown that it could: the frame's word, no failure by the hardware, and no bad line
pub record HasRevived (view : View) (who : Who) (frame : Frame) (own : Option FrameChange) : Type 0 where
  pub cycle : ℕ
  pub own_is : own ≡ Some (owns.Revived frame cycle)
  pub revivable : FoundRevivable view who frame
  pub counter : FoundNoHardware view who
  pub bad : Saw view who (places.Bad frame) 0

abbrev pub IsUnpoisonCaused : Layout → View → Who → Frame → Option FrameChange → Answer → Type 0
IsUnpoisonCaused layout view who frame own answers.Done = HasRevived view who frame own
IsUnpoisonCaused layout view who frame own answers.NotPoisoned = FoundSound view who frame
IsUnpoisonCaused layout view who frame own answers.HardwareSeen = FoundHardware view who
IsUnpoisonCaused layout view who frame own (answers.HasBad mask) = FoundBad layout view who frame mask
IsUnpoisonCaused layout view who frame own (answers.InUse count) = FoundInUse view who frame count
IsUnpoisonCaused layout view who frame own _ = ⊥

-- ---- machine checks

-- a failure of the command's machine checks signalled its thread: the entry of the first that did is the one that the answer names
pub record WasSignalled (layout : Layout) (view : View) (who : Who) (command : Command) (thread : Thread) (told : List EventOutcome) (at : At) : Type 0 where
  pub going : SawProcess layout view who thread 0
  pub first : first_signal told ≡ Some at
  pub only : HasOnlyMet layout view who command

-- a command that raised a machine check, or a scrub, tells how many lines there are
pub record WasRaised (layout : Layout) (view : View) (who : Who) (command : Command) (told : List EventOutcome) (n : ℕ) : Type 0 where
  pub count : n ≡ length told
  pub only : HasOnlyMet layout view who command

-- an answer of a command that brings no failure about
abbrev pub IsTableCaused : Layout → List (Command × Answer) → View → Who → Command → Answer → Type 0
IsTableCaused layout earlier view who (commands.Load thread slot line) answer = IsLoadCaused layout view who thread slot line answer
IsTableCaused layout earlier view who (commands.Fetch thread slot line) answer = IsLoadCaused layout view who thread slot line answer
IsTableCaused layout earlier view who (commands.KLoad thread slot line) answer = IsLoadCaused layout view who thread slot line answer
IsTableCaused layout earlier view who (commands.Store thread slot line word) answer = IsStoreCaused layout view who thread slot line word answer
IsTableCaused layout earlier view who (commands.Free slot) (answers.DoneAt at) = IsOf layout at.page slot × MadeOne view who at (entries.Free slot)
IsTableCaused layout earlier view who (commands.Free slot) (answers.NotMapped at) = IsOf layout at.page slot × FoundState layout view who at (IsUnused slot)
IsTableCaused layout earlier view who (commands.Drop page) (answers.Locked at) = (at.page ≡ page) × FoundState layout view who at IsLockedIn
IsTableCaused layout earlier view who (commands.Drop page) (answers.Dirty at) = (at.page ≡ page) × FoundState layout view who at IsDirty
IsTableCaused layout earlier view who (commands.Drop page) (answers.Mapped at) = (at.page ≡ page) × FoundState layout view who at IsMapped
IsTableCaused layout earlier view who (commands.Drop page) answer = IsPageCaused layout view who page entries.Drop answer
IsTableCaused layout earlier view who (commands.Sync page) answer = IsCopiedOut layout view who page entries.Sync answer
IsTableCaused layout earlier view who (commands.Out page) (answers.Locked at) = (at.page ≡ page) × FoundState layout view who at IsLockedIn
IsTableCaused layout earlier view who (commands.Out page) (answers.BadLines mask at) =
    (at.page ≡ page) × FoundState layout view who at (λ (s : PageState). (s.cached ≡ true) × (s.locked ≡ false)) × SawBadLines layout view who page mask
IsTableCaused layout earlier view who (commands.Out page) answer = IsCopiedOut layout view who page entries.Out answer
IsTableCaused layout earlier view who (commands.Fsync file) answers.Done = HasMadeNone view who
IsTableCaused layout earlier view who (commands.Fsync file) (answers.Eio more) = HasMadeNone view who × (0 < more)
IsTableCaused layout earlier view who (commands.Open file) (answers.Opened word) = HasMadeNone view who
IsTableCaused layout earlier view who (commands.Prctl thread args) (answers.Gone page) = FoundGone layout view who thread page × HasMadeNone view who
IsTableCaused layout earlier view who (commands.Prctl thread args) answer = IsReplied layout earlier view who thread (arguments args) answer
IsTableCaused layout earlier view who (commands.Fork thread process) answers.Done = SawProcess layout view who thread 0 × HasMadeNone view who
IsTableCaused layout earlier view who (commands.Fork thread process) (answers.Gone page) = FoundGone layout view who thread page × HasMadeNone view who
IsTableCaused layout earlier view who (commands.Log status addr misc) answers.Done = HasMadeNone view who
IsTableCaused layout earlier view who (commands.Watch threshold window) answers.Done = HasMadeNone view who
IsTableCaused layout earlier view who (commands.Bad frame line) answers.Done = HasSpoiledLine view who frame line damages.Bad
IsTableCaused layout earlier view who (commands.Weak frame line) answers.Done = HasSpoiledLine view who frame line damages.Weak
IsTableCaused layout earlier view who _ _ = ⊥

-- a guest didn't admit the command's access: the process goes on, and the command made no entry
abbrev pub WasDenied : Layout → View → Who → Command → Type 0
WasDenied layout view who command = HasMadeNone view who × IsSomeAnd (access_of command) (λ (a : Access). SawProcess layout view who a.thread 0)

-- the answer of a command among all of its processor's has its cause in what the processor knows of the command: by what the
-- command told of its machine checks, by what it did to a frame itself, and by its answer
abbrev pub IsAnswerCaused : Layout → List (Command × Answer) → View → Who → Command → List EventOutcome → Option FrameChange → Answer → Type 0
IsAnswerCaused layout earlier view who command told own answers.Stopped = FoundStopped layout view who command
IsAnswerCaused layout earlier view who (commands.RaiseUser thread ripv eipv) told own (answers.Raised n) = SawProcess layout view who thread 0 × WasRaised layout view who (commands.RaiseUser thread ripv eipv) told n
IsAnswerCaused layout earlier view who (commands.RaiseUser thread ripv eipv) told own (answers.Gone page) = FoundGone layout view who thread page × HasMadeNone view who
IsAnswerCaused layout earlier view who (commands.RaiseKernel ripv eipv) told own (answers.Raised n) = WasRaised layout view who (commands.RaiseKernel ripv eipv) told n
IsAnswerCaused layout earlier view who (commands.Scrub first last) told own (answers.Scrubbed n) = WasRaised layout view who (commands.Scrub first last) told n
IsAnswerCaused layout earlier view who (commands.Inject frame) told own answer = (layout.recovery ≡ true) × IsInjectCaused layout view who frame own answer
IsAnswerCaused layout earlier view who (commands.Soft frame) told own answer = IsSoftCaused layout view who frame own answer
IsAnswerCaused layout earlier view who (commands.Unpoison frame) told own answer = HasMadeNone view who × IsUnpoisonCaused layout view who frame own answer
IsAnswerCaused layout earlier view who command told own (answers.Sigbus at) =
    IsTableCaused layout earlier view who command (answers.Sigbus at) ⊎ IsSomeAnd (access_of command) (λ (a : Access). WasSignalled layout view who command a.thread told at)
IsAnswerCaused layout earlier view who command told own answers.GuestBad = WasDenied layout view who command
IsAnswerCaused layout earlier view who command told own answers.GuestStopped = WasDenied layout view who command
IsAnswerCaused layout earlier view who command told own answer = IsTableCaused layout earlier view who command answer

-- of a command that copies a page first, from this translation: a store
abbrev pub IsCopyingCaused : Layout → VSlot → View → Who → Command → Banks → List EventOutcome → Answer → Type 0
IsCopyingCaused layout from view who (commands.Store thread to line word) before told answer = IsCopyCaused layout view who thread from to line word before told answer
IsCopyingCaused layout from view who command before told answer = ⊥

-- and of one that copies from the translation, if from one
abbrev pub IsCausedWith : Layout → List (Command × Answer) → Option VSlot → View → Who → Command → Banks → List EventOutcome → Option FrameChange → Answer → Type 0
IsCausedWith layout earlier None view who command before told own answer = IsAnswerCaused layout earlier view who command told own answer
IsCausedWith layout earlier (Some from) view who command before told own answer = IsCopyingCaused layout from view who command before told answer

abbrev pub IsCaused : Layout → List (Command × Answer) → Option VSlot → View → Who → Command → Banks → Row → Type 0
IsCaused layout earlier copied view who command before row = IsCausedWith layout earlier copied view who command before row.told row.own row.answer
