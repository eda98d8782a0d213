-- Answers of the plain kinds have their cause exactly where they are right by themselves.
use Rattle.std.proofs.Common.{◌≡◌, ◌↔◌, IsTrue, Bool, true, false, true≢false, not, refl, sym, ◌∙◌}
use Rattle.hwp_check_evidence.specs.hwp_geom.declared.Who.{Who}
use Rattle.hwp_check_evidence.specs.hwp_script_words.declared.Command.{Command}
use Rattle.hwp_check_evidence.specs.hwp_script_words.declared.Command.TheVariants as commands
use Rattle.hwp_check_evidence.specs.hwp_script_words.declared.Script.{Script}
use Rattle.hwp_check_evidence.specs.hwp_report_text.declared.Answer.{Answer}
use Rattle.hwp_check_evidence.specs.hwp_report_text.declared.Answer.TheVariants as answers
use Rattle.hwp_check_evidence.specs.hwp_report_text.declared.Report.{Report}
use Rattle.hwp_check_evidence.specs.hwp_law.Causes.{IsCaused}
use Rattle.hwp_check_causes.specs.Plain.{IsPlain, is_plain}

-- a flag isn't set exactly where what it stands for isn't so
pub not-so : (a b : Bool) → a ≡ b → IsTrue (not a) ↔ (b ≡ false)
not-so true b is = (λ t. absurd (true≢false (sym t)), λ f. absurd (true≢false (is ∙ f)))
not-so false b is = (λ t. sym is, λ f. refl)

pub caused-plain : (script : Script) (report : Report) (who : Who) (command : Command) (answer : Answer) → is_plain command answer ≡ true → IsCaused script report who command answer → IsPlain script report who command answer
caused-plain script report who (commands.Load thread slot line) answers.NoFrame plain h = h
caused-plain script report who (commands.Fetch thread slot line) answers.NoFrame plain h = h
caused-plain script report who (commands.KLoad thread slot line) answers.NoFrame plain h = h
caused-plain script report who (commands.Store thread slot line word) answers.NoFrame plain h = h
caused-plain script report who (commands.Soft frame) answers.NoFrame plain h = h
caused-plain script report who (commands.Prctl thread args) answers.NoFrame plain h = absurd (true≢false (sym plain))
caused-plain script report who (commands.Inject frame) answers.NoFrame plain h = absurd h.1
caused-plain script report who command answers.NoFrame plain h = absurd h
caused-plain script report who (commands.Fsync file) answers.Done plain h = h
caused-plain script report who (commands.Log status addr misc) answers.Done plain h = h
caused-plain script report who (commands.Bad frame line) answers.Done plain h = h
caused-plain script report who (commands.Weak frame line) answers.Done plain h = h
caused-plain script report who (commands.Watch threshold window) answers.Done plain h = h
caused-plain script report who (commands.Fork thread process) answers.Done plain h = h
caused-plain script report who (commands.Prctl thread args) answers.Done plain h = absurd (true≢false (sym plain))
caused-plain script report who (commands.Unpoison frame) answers.Done plain h = absurd (true≢false (sym plain))
caused-plain script report who (commands.Inject frame) answers.Done plain h = absurd h.1
caused-plain script report who (commands.Soft frame) answers.Done plain h = absurd h.1
caused-plain script report who command answers.Done plain h = absurd h
caused-plain script report who (commands.Fsync file) (answers.Eio lost) plain h = h
caused-plain script report who (commands.Prctl thread args) (answers.Eio lost) plain h = absurd (true≢false (sym plain))
caused-plain script report who (commands.Inject frame) (answers.Eio lost) plain h = absurd h.1
caused-plain script report who (commands.Soft frame) (answers.Eio lost) plain h = absurd h.1
caused-plain script report who command (answers.Eio lost) plain h = absurd h
caused-plain script report who (commands.Open file) (answers.Opened word) plain h = h
caused-plain script report who (commands.Prctl thread args) (answers.Opened word) plain h = absurd (true≢false (sym plain))
caused-plain script report who (commands.Inject frame) (answers.Opened word) plain h = absurd h.1
caused-plain script report who (commands.Soft frame) (answers.Opened word) plain h = absurd h.1
caused-plain script report who command (answers.Opened word) plain h = absurd h
caused-plain script report who (commands.Soft frame) answers.Kernel plain h = h
caused-plain script report who (commands.Prctl thread args) answers.Kernel plain h = absurd (true≢false (sym plain))
caused-plain script report who (commands.Inject frame) answers.Kernel plain h = absurd h.1
caused-plain script report who command answers.Kernel plain h = absurd h
caused-plain script report who (commands.Soft frame) (answers.HasBad mask) plain h = h
caused-plain script report who (commands.Unpoison frame) (answers.HasBad mask) plain h = h
caused-plain script report who (commands.Prctl thread args) (answers.HasBad mask) plain h = absurd (true≢false (sym plain))
caused-plain script report who (commands.Inject frame) (answers.HasBad mask) plain h = absurd h.1
caused-plain script report who command (answers.HasBad mask) plain h = absurd h
caused-plain script report who (commands.Unpoison frame) (answers.InUse count) plain h = h
caused-plain script report who (commands.Prctl thread args) (answers.InUse count) plain h = absurd (true≢false (sym plain))
caused-plain script report who (commands.Inject frame) (answers.InUse count) plain h = absurd h.1
caused-plain script report who (commands.Soft frame) (answers.InUse count) plain h = absurd h.1
caused-plain script report who command (answers.InUse count) plain h = absurd h
caused-plain script report who (commands.Scrub first last) (answers.Scrubbed n) plain h = h
caused-plain script report who (commands.Prctl thread args) (answers.Scrubbed n) plain h = absurd (true≢false (sym plain))
caused-plain script report who (commands.Inject frame) (answers.Scrubbed n) plain h = absurd h.1
caused-plain script report who (commands.Soft frame) (answers.Scrubbed n) plain h = absurd h.1
caused-plain script report who command (answers.Scrubbed n) plain h = absurd h
caused-plain script report who (commands.RaiseUser thread ripv eipv) (answers.Raised n) plain h = h
caused-plain script report who (commands.RaiseKernel ripv eipv) (answers.Raised n) plain h = h
caused-plain script report who (commands.Prctl thread args) (answers.Raised n) plain h = absurd (true≢false (sym plain))
caused-plain script report who (commands.Inject frame) (answers.Raised n) plain h = absurd h.1
caused-plain script report who (commands.Soft frame) (answers.Raised n) plain h = absurd h.1
caused-plain script report who command (answers.Raised n) plain h = absurd h
caused-plain script report who (commands.Load thread slot line) answers.GuestBad plain h = h
caused-plain script report who (commands.Fetch thread slot line) answers.GuestBad plain h = h
caused-plain script report who (commands.KLoad thread slot line) answers.GuestBad plain h = h
caused-plain script report who (commands.Store thread slot line word) answers.GuestBad plain h = h
caused-plain script report who (commands.Prctl thread args) answers.GuestBad plain h = absurd (true≢false (sym plain))
caused-plain script report who (commands.Inject frame) answers.GuestBad plain h = absurd h.1
caused-plain script report who (commands.Soft frame) answers.GuestBad plain h = absurd h.1
caused-plain script report who command answers.GuestBad plain h = absurd h
caused-plain script report who (commands.Load thread slot line) answers.GuestStopped plain h = h
caused-plain script report who (commands.Fetch thread slot line) answers.GuestStopped plain h = h
caused-plain script report who (commands.KLoad thread slot line) answers.GuestStopped plain h = h
caused-plain script report who (commands.Store thread slot line word) answers.GuestStopped plain h = h
caused-plain script report who (commands.Prctl thread args) answers.GuestStopped plain h = absurd (true≢false (sym plain))
caused-plain script report who (commands.Inject frame) answers.GuestStopped plain h = absurd h.1
caused-plain script report who (commands.Soft frame) answers.GuestStopped plain h = absurd h.1
caused-plain script report who command answers.GuestStopped plain h = absurd h
caused-plain script report who command answer plain h = absurd (true≢false (sym plain))

pub plain-caused : (script : Script) (report : Report) (who : Who) (command : Command) (answer : Answer) → IsPlain script report who command answer → IsCaused script report who command answer
plain-caused script report who (commands.Load thread slot line) answers.NoFrame h = h
plain-caused script report who (commands.Fetch thread slot line) answers.NoFrame h = h
plain-caused script report who (commands.KLoad thread slot line) answers.NoFrame h = h
plain-caused script report who (commands.Store thread slot line word) answers.NoFrame h = h
plain-caused script report who (commands.Soft frame) answers.NoFrame h = h
plain-caused script report who command answers.NoFrame h = absurd h
plain-caused script report who (commands.Fsync file) answers.Done h = h
plain-caused script report who (commands.Log status addr misc) answers.Done h = h
plain-caused script report who (commands.Bad frame line) answers.Done h = h
plain-caused script report who (commands.Weak frame line) answers.Done h = h
plain-caused script report who (commands.Watch threshold window) answers.Done h = h
plain-caused script report who (commands.Fork thread process) answers.Done h = h
plain-caused script report who command answers.Done h = absurd h
plain-caused script report who (commands.Fsync file) (answers.Eio lost) h = h
plain-caused script report who command (answers.Eio lost) h = absurd h
plain-caused script report who (commands.Open file) (answers.Opened word) h = h
plain-caused script report who command (answers.Opened word) h = absurd h
plain-caused script report who (commands.Soft frame) answers.Kernel h = h
plain-caused script report who command answers.Kernel h = absurd h
plain-caused script report who (commands.Soft frame) (answers.HasBad mask) h = h
plain-caused script report who (commands.Unpoison frame) (answers.HasBad mask) h = h
plain-caused script report who command (answers.HasBad mask) h = absurd h
plain-caused script report who (commands.Unpoison frame) (answers.InUse count) h = h
plain-caused script report who command (answers.InUse count) h = absurd h
plain-caused script report who (commands.Scrub first last) (answers.Scrubbed n) h = h
plain-caused script report who command (answers.Scrubbed n) h = absurd h
plain-caused script report who (commands.RaiseUser thread ripv eipv) (answers.Raised n) h = h
plain-caused script report who (commands.RaiseKernel ripv eipv) (answers.Raised n) h = h
plain-caused script report who command (answers.Raised n) h = absurd h
plain-caused script report who (commands.Load thread slot line) answers.GuestBad h = h
plain-caused script report who (commands.Fetch thread slot line) answers.GuestBad h = h
plain-caused script report who (commands.KLoad thread slot line) answers.GuestBad h = h
plain-caused script report who (commands.Store thread slot line word) answers.GuestBad h = h
plain-caused script report who command answers.GuestBad h = absurd h
plain-caused script report who (commands.Load thread slot line) answers.GuestStopped h = h
plain-caused script report who (commands.Fetch thread slot line) answers.GuestStopped h = h
plain-caused script report who (commands.KLoad thread slot line) answers.GuestStopped h = h
plain-caused script report who (commands.Store thread slot line word) answers.GuestStopped h = h
plain-caused script report who command answers.GuestStopped h = absurd h
plain-caused script report who command answer h = absurd h
