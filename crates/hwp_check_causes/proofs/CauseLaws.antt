-- An answer of a last kind has its cause exactly where a thread's policy or a frame's record says so; and the like of bad lines and of ends.
use Rattle.std.proofs.Common.{◌≡◌, Bool, true, false, sym, ap, true≢false}
use Rattle.hwp_check_evidence.specs.hwp_geom.declared.Mask.{Mask}
use Rattle.hwp_check_evidence.specs.hwp_geom.declared.Who.{Who}
use Rattle.hwp_check_evidence.specs.hwp_kill.declared.Reply.{Reply}
use Rattle.hwp_check_evidence.specs.hwp_kill.declared.Reply.TheVariants as replies
use Rattle.hwp_check_evidence.specs.hwp_page.declared.At.{At}
use Rattle.hwp_check_evidence.specs.hwp_script_words.declared.Command.{Command}
use Rattle.hwp_check_evidence.specs.hwp_script_words.declared.Command.TheVariants as commands
use Rattle.hwp_check_evidence.specs.hwp_script_words.declared.Script.{Script}
use Rattle.hwp_check_evidence.specs.hwp_report_text.declared.Answer.{Answer}
use Rattle.hwp_check_evidence.specs.hwp_report_text.declared.Answer.TheVariants as answers
use Rattle.hwp_check_evidence.specs.hwp_report_text.declared.Report.{Report}
use Rattle.hwp_check_evidence.specs.hwp_law.Outcomes.{reply_answer}
use Rattle.hwp_check_evidence.specs.hwp_law.Causes.{IsCaused}
use Rattle.hwp_check_causes.specs.Causing.{IsLast, MetBadLines, is_last}

-- no reply of prctl(2) tells of bad lines
abbrev is_lines : Answer → Bool
is_lines (answers.BadLines mask at) = true
is_lines _ = false

no-lines : (r : Reply) (mask : Mask) (at : At) → answers.BadLines mask at ≡ reply_answer r → ⊥
no-lines (replies.Set policy) mask at is = true≢false (ap is_lines is)
no-lines (replies.Is policy) mask at is = true≢false (ap is_lines is)
no-lines replies.Einval mask at is = true≢false (ap is_lines is)

module _ (script : Script) (report : Report) (who : Who) where
  abbrev Caused : Command → Answer → Type 0
  Caused command answer = IsCaused script report who command answer

  pub caused_lines : (command : Command) (mask : Mask) (at : At) → Caused command (answers.BadLines mask at) → MetBadLines script report command mask at
  caused_lines (commands.Sync page) mask at h = h
  caused_lines (commands.Out page) mask at h = h
  caused_lines (commands.Prctl thread args) mask at h = absurd (no-lines _ mask at h)
  caused_lines (commands.Inject frame) mask at h = absurd h.1
  caused_lines (commands.Soft frame) mask at h = absurd h.1
  caused_lines command mask at h = absurd h

  pub lines_caused : (command : Command) (mask : Mask) (at : At) → MetBadLines script report command mask at → Caused command (answers.BadLines mask at)
  lines_caused (commands.Sync page) mask at h = h
  lines_caused (commands.Out page) mask at h = h
  lines_caused command mask at h = absurd h

  pub caused_last : (command : Command) (answer : Answer) → is_last command answer ≡ true → Caused command answer → IsLast script report who command answer
  caused_last (commands.Prctl thread args) (answers.Is n) by h = h
  caused_last (commands.Inject f) (answers.Is n) by h = h
  caused_last (commands.Soft f) (answers.Is n) by h = h
  caused_last (commands.Unpoison f) (answers.Is n) by h = h
  caused_last command (answers.Is n) by h = absurd h
  caused_last (commands.Prctl thread args) answers.Einval by h = h
  caused_last (commands.Inject f) answers.Einval by h = h
  caused_last (commands.Soft f) answers.Einval by h = h
  caused_last (commands.Unpoison f) answers.Einval by h = h
  caused_last command answers.Einval by h = absurd h
  caused_last (commands.Prctl thread args) answers.Recovered by h = h
  caused_last (commands.Inject f) answers.Recovered by h = h
  caused_last (commands.Soft f) answers.Recovered by h = h
  caused_last (commands.Unpoison f) answers.Recovered by h = h
  caused_last command answers.Recovered by h = absurd h
  caused_last (commands.Prctl thread args) answers.Delayed by h = h
  caused_last (commands.Inject f) answers.Delayed by h = h
  caused_last (commands.Soft f) answers.Delayed by h = h
  caused_last (commands.Unpoison f) answers.Delayed by h = h
  caused_last command answers.Delayed by h = absurd h
  caused_last (commands.Prctl thread args) answers.Ignored by h = h
  caused_last (commands.Inject f) answers.Ignored by h = h
  caused_last (commands.Soft f) answers.Ignored by h = h
  caused_last (commands.Unpoison f) answers.Ignored by h = h
  caused_last command answers.Ignored by h = absurd h
  caused_last (commands.Prctl thread args) answers.Already by h = h
  caused_last (commands.Inject f) answers.Already by h = h
  caused_last (commands.Soft f) answers.Already by h = h
  caused_last (commands.Unpoison f) answers.Already by h = h
  caused_last command answers.Already by h = absurd h
  caused_last (commands.Prctl thread args) (answers.Moved frame at) by h = h
  caused_last (commands.Inject f) (answers.Moved frame at) by h = h
  caused_last (commands.Soft f) (answers.Moved frame at) by h = h
  caused_last (commands.Unpoison f) (answers.Moved frame at) by h = h
  caused_last command (answers.Moved frame at) by h = absurd h
  caused_last (commands.Prctl thread args) answers.TakenFree by h = h
  caused_last (commands.Inject f) answers.TakenFree by h = h
  caused_last (commands.Soft f) answers.TakenFree by h = h
  caused_last (commands.Unpoison f) answers.TakenFree by h = h
  caused_last command answers.TakenFree by h = absurd h
  caused_last (commands.Prctl thread args) (answers.Opened n) by h = h
  caused_last command (answers.Opened n) by h = absurd (true≢false (sym by))
  caused_last (commands.Prctl thread args) answers.NotPoisoned by h = h
  caused_last (commands.Inject f) answers.NotPoisoned by h = h
  caused_last (commands.Soft f) answers.NotPoisoned by h = h
  caused_last (commands.Unpoison f) answers.NotPoisoned by h = h
  caused_last command answers.NotPoisoned by h = absurd h
  caused_last (commands.Prctl thread args) answers.HardwareSeen by h = h
  caused_last (commands.Inject f) answers.HardwareSeen by h = h
  caused_last (commands.Soft f) answers.HardwareSeen by h = h
  caused_last (commands.Unpoison f) answers.HardwareSeen by h = h
  caused_last command answers.HardwareSeen by h = absurd h
  caused_last (commands.Prctl thread args) answers.GuestStopped by h = h
  caused_last command answers.GuestStopped by h = absurd (true≢false (sym by))
  caused_last (commands.Prctl thread args) answers.GuestBad by h = h
  caused_last command answers.GuestBad by h = absurd (true≢false (sym by))
  caused_last (commands.Prctl thread args) answers.Done by h = h
  caused_last (commands.Unpoison f) answers.Done by h = h
  caused_last command answers.Done by h = absurd (true≢false (sym by))
  caused_last (commands.Prctl thread args) answers.NoFrame by h = h
  caused_last command answers.NoFrame by h = absurd (true≢false (sym by))
  caused_last (commands.Prctl thread args) (answers.Eio lost) by h = h
  caused_last command (answers.Eio lost) by h = absurd (true≢false (sym by))
  caused_last (commands.Prctl thread args) answers.Kernel by h = h
  caused_last command answers.Kernel by h = absurd (true≢false (sym by))
  caused_last (commands.Prctl thread args) (answers.HasBad mask) by h = h
  caused_last command (answers.HasBad mask) by h = absurd (true≢false (sym by))
  caused_last (commands.Prctl thread args) (answers.InUse count) by h = h
  caused_last command (answers.InUse count) by h = absurd (true≢false (sym by))
  caused_last (commands.Prctl thread args) (answers.Scrubbed n) by h = h
  caused_last command (answers.Scrubbed n) by h = absurd (true≢false (sym by))
  caused_last (commands.Prctl thread args) (answers.Raised n) by h = h
  caused_last command (answers.Raised n) by h = absurd (true≢false (sym by))
  caused_last command (answers.Value word at) by h = absurd (true≢false (sym by))
  caused_last command (answers.Stored at) by h = absurd (true≢false (sym by))
  caused_last command (answers.Sigbus at) by h = absurd (true≢false (sym by))
  caused_last command (answers.Gone page) by h = absurd (true≢false (sym by))
  caused_last command answers.Stopped by h = absurd (true≢false (sym by))
  caused_last command (answers.DoneAt at) by h = absurd (true≢false (sym by))
  caused_last command (answers.NotResident at) by h = absurd (true≢false (sym by))
  caused_last command (answers.NotMapped at) by h = absurd (true≢false (sym by))
  caused_last command (answers.Dirty at) by h = absurd (true≢false (sym by))
  caused_last command (answers.Mapped at) by h = absurd (true≢false (sym by))
  caused_last command (answers.Locked at) by h = absurd (true≢false (sym by))
  caused_last command (answers.BadLines mask at) by h = absurd (true≢false (sym by))

  pub last_caused : (command : Command) (answer : Answer) → is_last command answer ≡ true → IsLast script report who command answer → Caused command answer
  last_caused (commands.Prctl thread args) (answers.Is n) by h = h
  last_caused (commands.Inject f) (answers.Is n) by h = h
  last_caused (commands.Soft f) (answers.Is n) by h = h
  last_caused (commands.Unpoison f) (answers.Is n) by h = h
  last_caused command (answers.Is n) by h = absurd h
  last_caused (commands.Prctl thread args) answers.Einval by h = h
  last_caused (commands.Inject f) answers.Einval by h = h
  last_caused (commands.Soft f) answers.Einval by h = h
  last_caused (commands.Unpoison f) answers.Einval by h = h
  last_caused command answers.Einval by h = absurd h
  last_caused (commands.Prctl thread args) answers.Recovered by h = h
  last_caused (commands.Inject f) answers.Recovered by h = h
  last_caused (commands.Soft f) answers.Recovered by h = h
  last_caused (commands.Unpoison f) answers.Recovered by h = h
  last_caused command answers.Recovered by h = absurd h
  last_caused (commands.Prctl thread args) answers.Delayed by h = h
  last_caused (commands.Inject f) answers.Delayed by h = h
  last_caused (commands.Soft f) answers.Delayed by h = h
  last_caused (commands.Unpoison f) answers.Delayed by h = h
  last_caused command answers.Delayed by h = absurd h
  last_caused (commands.Prctl thread args) answers.Ignored by h = h
  last_caused (commands.Inject f) answers.Ignored by h = h
  last_caused (commands.Soft f) answers.Ignored by h = h
  last_caused (commands.Unpoison f) answers.Ignored by h = h
  last_caused command answers.Ignored by h = absurd h
  last_caused (commands.Prctl thread args) answers.Already by h = h
  last_caused (commands.Inject f) answers.Already by h = h
  last_caused (commands.Soft f) answers.Already by h = h
  last_caused (commands.Unpoison f) answers.Already by h = h
  last_caused command answers.Already by h = absurd h
  last_caused (commands.Prctl thread args) (answers.Moved frame at) by h = h
  last_caused (commands.Inject f) (answers.Moved frame at) by h = h
  last_caused (commands.Soft f) (answers.Moved frame at) by h = h
  last_caused (commands.Unpoison f) (answers.Moved frame at) by h = h
  last_caused command (answers.Moved frame at) by h = absurd h
  last_caused (commands.Prctl thread args) answers.TakenFree by h = h
  last_caused (commands.Inject f) answers.TakenFree by h = h
  last_caused (commands.Soft f) answers.TakenFree by h = h
  last_caused (commands.Unpoison f) answers.TakenFree by h = h
  last_caused command answers.TakenFree by h = absurd h
  last_caused (commands.Prctl thread args) (answers.Opened n) by h = h
  last_caused command (answers.Opened n) by h = absurd (true≢false (sym by))
  last_caused (commands.Prctl thread args) answers.NotPoisoned by h = h
  last_caused (commands.Inject f) answers.NotPoisoned by h = h
  last_caused (commands.Soft f) answers.NotPoisoned by h = h
  last_caused (commands.Unpoison f) answers.NotPoisoned by h = h
  last_caused command answers.NotPoisoned by h = absurd h
  last_caused (commands.Prctl thread args) answers.HardwareSeen by h = h
  last_caused (commands.Inject f) answers.HardwareSeen by h = h
  last_caused (commands.Soft f) answers.HardwareSeen by h = h
  last_caused (commands.Unpoison f) answers.HardwareSeen by h = h
  last_caused command answers.HardwareSeen by h = absurd h
  last_caused (commands.Prctl thread args) answers.GuestStopped by h = h
  last_caused command answers.GuestStopped by h = absurd (true≢false (sym by))
  last_caused (commands.Prctl thread args) answers.GuestBad by h = h
  last_caused command answers.GuestBad by h = absurd (true≢false (sym by))
  last_caused (commands.Prctl thread args) answers.Done by h = h
  last_caused (commands.Unpoison f) answers.Done by h = h
  last_caused command answers.Done by h = absurd (true≢false (sym by))
  last_caused (commands.Prctl thread args) answers.NoFrame by h = h
  last_caused command answers.NoFrame by h = absurd (true≢false (sym by))
  last_caused (commands.Prctl thread args) (answers.Eio lost) by h = h
  last_caused command (answers.Eio lost) by h = absurd (true≢false (sym by))
  last_caused (commands.Prctl thread args) answers.Kernel by h = h
  last_caused command answers.Kernel by h = absurd (true≢false (sym by))
  last_caused (commands.Prctl thread args) (answers.HasBad mask) by h = h
  last_caused command (answers.HasBad mask) by h = absurd (true≢false (sym by))
  last_caused (commands.Prctl thread args) (answers.InUse count) by h = h
  last_caused command (answers.InUse count) by h = absurd (true≢false (sym by))
  last_caused (commands.Prctl thread args) (answers.Scrubbed n) by h = h
  last_caused command (answers.Scrubbed n) by h = absurd (true≢false (sym by))
  last_caused (commands.Prctl thread args) (answers.Raised n) by h = h
  last_caused command (answers.Raised n) by h = absurd (true≢false (sym by))
  last_caused command (answers.Value word at) by h = absurd (true≢false (sym by))
  last_caused command (answers.Stored at) by h = absurd (true≢false (sym by))
  last_caused command (answers.Sigbus at) by h = absurd (true≢false (sym by))
  last_caused command (answers.Gone page) by h = absurd (true≢false (sym by))
  last_caused command answers.Stopped by h = absurd (true≢false (sym by))
  last_caused command (answers.DoneAt at) by h = absurd (true≢false (sym by))
  last_caused command (answers.NotResident at) by h = absurd (true≢false (sym by))
  last_caused command (answers.NotMapped at) by h = absurd (true≢false (sym by))
  last_caused command (answers.Dirty at) by h = absurd (true≢false (sym by))
  last_caused command (answers.Mapped at) by h = absurd (true≢false (sym by))
  last_caused command (answers.Locked at) by h = absurd (true≢false (sym by))
  last_caused command (answers.BadLines mask at) by h = absurd (true≢false (sym by))
