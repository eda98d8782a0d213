-- What a row says of the earlier commands of its processor is what policies they set: so it is said alike of the commands of a script and of
-- those that were acted on.
use Rattle.std.proofs.Common.{◌≡◌, ◌⊎◌, inl, inr, ℕ, List, Option, None, Some, map, refl, sym, ap, ◌∙◌}
use Rattle.hwp_law.specs.hwp_geom.declared.Layout.{Layout}
use Rattle.hwp_law.specs.hwp_geom.declared.Thread.{Thread}
use Rattle.hwp_law.specs.hwp_geom.declared.VSlot.{VSlot}
use Rattle.hwp_law.specs.hwp_geom.declared.Who.{Who}
use Rattle.hwp_law.specs.hwp_kill.declared.Policy.{Policy}
use Rattle.hwp_law.specs.hwp_kill.Prctl.{reply}
use Rattle.hwp_law.specs.hwp_banks.Banks.{Banks}
use Rattle.hwp_plain.specs.hwp_core_rule.declared.View.{View}
use Rattle.hwp_law.specs.hwp_script_words.declared.Command.{Command}
use Rattle.hwp_law.specs.hwp_script_words.declared.Command.TheVariants as commands
use Rattle.hwp_law.specs.hwp_report_text.declared.Answer.{Answer}
use Rattle.hwp_law.specs.hwp_report_text.declared.Answer.TheVariants as answers
use Rattle.hwp_law.specs.Outcomes.{reply_answer}
use Rattle.hwp_law.specs.Settings.{arguments, last_policy, settings}
use Rattle.hwp_cpu_control.specs.Forks.{threads_of}
use Rattle.hwp_cpu_row.specs.declared.FrameChange.{FrameChange}
use Rattle.hwp_cpu_row.specs.declared.Row.{Row}
use Rattle.hwp_cpu_row.specs.hwp_claim.declared.EventOutcome.{EventOutcome}
use Rattle.hwp_law_served.specs.Accounts.{set_by}
use Rattle.hwp_law_served.specs.Causes.{IsAnswerCaused, IsCausedWith, IsTableCaused}
use Rattle.hwp_law_served.specs.Served.{IsRowServed}

module _ (layout : Layout) (earlier other : List (Command × Answer)) (same : (thread : Thread) → settings layout thread earlier ≡ settings layout thread other) (view : View) (who : Who) where
  table-earlier : (command : Command) (answer : Answer) → IsTableCaused layout earlier view who command answer → IsTableCaused layout other view who command answer
  table-earlier (commands.Load thread slot line) answer caused = caused
  table-earlier (commands.Fetch thread slot line) answer caused = caused
  table-earlier (commands.KLoad thread slot line) answer caused = caused
  table-earlier (commands.Store thread slot line word) answer caused = caused
  table-earlier (commands.Free slot) (answers.DoneAt at) caused = caused
  table-earlier (commands.Free slot) (answers.NotMapped at) caused = caused
  table-earlier (commands.Drop page) (answers.Locked at) caused = caused
  table-earlier (commands.Drop page) (answers.Dirty at) caused = caused
  table-earlier (commands.Drop page) (answers.Mapped at) caused = caused
  table-earlier (commands.Drop page) answer caused = caused
  table-earlier (commands.Sync page) answer caused = caused
  table-earlier (commands.Out page) (answers.Locked at) caused = caused
  table-earlier (commands.Out page) (answers.BadLines mask at) caused = caused
  table-earlier (commands.Out page) answer caused = caused
  table-earlier (commands.Fsync file) answers.Done caused = caused
  table-earlier (commands.Fsync file) (answers.Eio more) caused = caused
  table-earlier (commands.Open file) (answers.Opened word) caused = caused
  table-earlier (commands.Prctl thread args) (answers.Gone page) caused = caused
  table-earlier (commands.Prctl thread args) answer caused = record { going = caused.going; made = caused.made; replied = caused.replied ∙ ap (λ (l : List Policy). reply_answer (reply (last_policy l) (arguments args))) (same thread) }
  table-earlier (commands.Fork thread process) answers.Done caused = caused
  table-earlier (commands.Fork thread process) (answers.Gone page) caused = caused
  table-earlier (commands.Log status addr misc) answers.Done caused = caused
  table-earlier (commands.Watch threshold window) answers.Done caused = caused
  table-earlier (commands.Bad frame line) answers.Done caused = caused
  table-earlier (commands.Weak frame line) answers.Done caused = caused
  table-earlier command answer caused = absurd caused

  answer-earlier : (command : Command) (told : List EventOutcome) (own : Option FrameChange) (answer : Answer) → IsAnswerCaused layout earlier view who command told own answer → IsAnswerCaused layout other view who command told own answer
  answer-earlier command told own answers.Stopped caused = caused
  answer-earlier (commands.RaiseUser thread ripv eipv) told own (answers.Raised n) caused = caused
  answer-earlier (commands.RaiseUser thread ripv eipv) told own (answers.Gone page) caused = caused
  answer-earlier (commands.RaiseKernel ripv eipv) told own (answers.Raised n) caused = caused
  answer-earlier (commands.Scrub first last) told own (answers.Scrubbed n) caused = caused
  answer-earlier (commands.Inject frame) told own answer caused = caused
  answer-earlier (commands.Soft frame) told own answer caused = caused
  answer-earlier (commands.Unpoison frame) told own answer caused = caused
  answer-earlier command told own (answers.Sigbus at) (inl caused) = inl (table-earlier command (answers.Sigbus at) caused)
  answer-earlier command told own (answers.Sigbus at) (inr was) = inr was
  answer-earlier command told own answers.GuestBad caused = caused
  answer-earlier command told own answers.GuestStopped caused = caused
  answer-earlier command told own answer caused = table-earlier command answer caused

  caused-earlier : (copied : Option VSlot) (command : Command) (before : Banks) (told : List EventOutcome) (own : Option FrameChange) (answer : Answer) → IsCausedWith layout earlier copied view who command before told own answer
      → IsCausedWith layout other copied view who command before told own answer
  caused-earlier None command before told own answer caused = answer-earlier command told own answer caused
  caused-earlier (Some from) command before told own answer caused = caused

  set-earlier : (command : Command) (answer : Answer) → set_by layout earlier command answer ≡ set_by layout other command answer
  set-earlier (commands.Prctl thread args) answers.Done = refl
  set-earlier (commands.Fork parent process) answers.Done = ap (λ (l : List Policy). map (λ (t : Thread). (t, last_policy l)) (threads_of process 0 layout.threads)) (same parent)
  set-earlier command answer = refl

  pub row-earlier : (copied : Option VSlot) (command : Command) (before : Banks) (row : Row) (after : Banks) → IsRowServed layout earlier copied view who command before row after → IsRowServed layout other copied view who command before row after
  row-earlier copied command before row after served = record {
    caused = caused-earlier copied command before row.told row.own row.answer served.caused;
    accounted = record {
      marked = served.accounted.marked;
      failed = served.accounted.failed;
      set = served.accounted.set ∙ set-earlier command row.answer;
      own = served.accounted.own;
    };
    told = served.told;
    heeded = served.heeded;
    running = served.running;
    beside = served.beside;
    offlined = served.offlined;
  }
