-- Why a command by which a page, or a part of it, leaves its frame is answered so.
use Rattle.std.proofs.Common.{◌≡◌, List, Option, Some, sym, ap, ◌∙◌, subst, inl, []}
use Rattle.hwp_law_served.specs.hwp_geom.declared.Layout.{Layout}
use Rattle.hwp_law_served.specs.hwp_geom.declared.Mask.{Mask}
use Rattle.hwp_law_served.specs.hwp_geom.declared.Page.{Page}
use Rattle.hwp_law_served.specs.hwp_geom.declared.VSlot.{VSlot}
use Rattle.hwp_law_served.specs.hwp_geom.declared.Who.{Who}
use Rattle.hwp_law_served.specs.hwp_page.declared.At.{At}
use Rattle.hwp_law_served.specs.hwp_page.Step.{IsOf}
use Rattle.hwp_law_served.specs.hwp_core_rule.declared.View.{View}
use Rattle.hwp_law_served.specs.hwp_script_words.declared.Command.{Command}
use Rattle.hwp_law_served.specs.hwp_script_words.declared.Command.TheVariants as commands
use Rattle.hwp_law_served.specs.hwp_report_text.declared.Answer.{Answer}
use Rattle.hwp_law_served.specs.hwp_core_rule.Known.{HasMade}
use Rattle.hwp_law_served.specs.hwp_core_rule.Pages.{SawState}
use Rattle.hwp_law_served.specs.hwp_evict.declared.Evict.{Evict}
use Rattle.hwp_law_served.specs.hwp_evict.declared.EvictAnswer.{EvictAnswer}
use Rattle.hwp_law_served.specs.hwp_evict.declared.EvictAnswer.TheVariants as answers
use Rattle.hwp_law_served.specs.hwp_evict.declared.Eviction.{Eviction}
use Rattle.hwp_law_served.specs.hwp_evict.declared.Eviction.TheVariants as evictions
use Rattle.hwp_law_served.specs.hwp_evict.declared.Refusal.{Refusal}
use Rattle.hwp_law_served.specs.hwp_evict.declared.Refusal.TheVariants as refusals
use Rattle.hwp_law_served.specs.hwp_evict.Evictions.{IsCaused as IsEvictCaused, IsWhy, entry_of}
use Rattle.hwp_law_served.specs.hwp_evict.Evicts as evicts
use Rattle.hwp_law_served.specs.hwp_claim.declared.EventOutcome.{EventOutcome}
use Rattle.hwp_law_served.specs.hwp_cpu_row.declared.FrameChange.{FrameChange}
use Rattle.hwp_cpu_command.specs.declared.Job.{Job}
use Rattle.hwp_cpu_command.specs.declared.Job.TheVariants as jobs
use Rattle.hwp_cpu_command.specs.Answers.{evict_answer}
use Rattle.hwp_cpu_command.specs.Begins.{BeginsEviction}
use Rattle.hwp_cpu_command.specs.Jobs.{FitsFrom, answer}
use Rattle.hwp_cpu_command.specs.Runs.{anew}
use Rattle.hwp_cpu_command.proofs.JobEnds.{evict-caused, mapped}
use Rattle.hwp_cpu_command.proofs.OfKind.{of-evict}
use Rattle.hwp_law_served.specs.Causes.{IsAnswerCaused, FoundState, FoundStopped, MadeOne, SawBadLines}
use Rattle.hwp_cpu.proofs.causes.StopCauses.{found-stopped}

-- the command, and what it knows of its answer
pub record KnowsEviction (layout : Layout) (view : View) (who : Who) (page : Page) (what : Eviction) (answer : Answer) : Type 0 where
  pub own : EvictAnswer
  pub answer_is : evict_answer own ≡ answer
  pub caused : IsEvictCaused [] layout view who page what own

pub knows-eviction : {layout : Layout} {view : View} {who : Who} {page : Page} {what : Eviction} (j : Job) {a : Answer} → BeginsEviction layout who page what (anew j) → FitsFrom [] layout view j → answer j ≡ Some a → KnowsEviction layout view who page what a
knows-eviction {layout} {view} {who} {page} {what} j {a} runs fits is = record {
  own = own.0;
  answer_is = own.2;
  caused = subst (λ (e : Evict). IsEvictCaused [] layout view e.who e.page e.what own.0) task.2 (evict-caused task.0 (subst (FitsFrom [] layout view) task.1 fits) own.1).1;
}
  where
    task : (e : Evict) × (j ≡ jobs.Evict e) × (evicts.begin e.who e.page e.what ≡ evicts.begin who page what)
    task = of-evict j runs.job_is

    own : (x : EvictAnswer) × (evicts.answer task.0 ≡ Some x) × (evict_answer x ≡ a)
    own = mapped evict_answer (evicts.answer task.0) (sym (ap answer task.1) ∙ is)

module _ (layout : Layout) (view : View) (who : Who) (page : Page) where
  stopped : (command : Command) (what : Eviction) → IsEvictCaused [] layout view who page what answers.Stopped → FoundStopped layout view who command
  stopped command what has = found-stopped layout command view who (inl has.1) has.0

  made-one : (what : Eviction) (at : At) → IsEvictCaused [] layout view who page what (answers.Done at) → MadeOne view who at (entry_of what)
  made-one what at has = record { made = subst (λ (p : Page). HasMade (λ m. ⊥) view who p at.entry (entry_of what)) (sym has.0) has.1 }

  found-state : (what : Eviction) (refusal : Refusal) (at : At) → IsEvictCaused [] layout view who page what (answers.Refused refusal at) → FoundState layout view who at (IsWhy what refusal)
  found-state what refusal at has = record { made = has.0; saw = subst (λ (p : Page). SawState layout view who p at.entry (IsWhy what refusal)) (sym has.1.page_is) has.1.state }

  bad-lines : (what : Eviction) (mask : Mask) (at : At) → IsEvictCaused [] layout view who page what (answers.Refused (refusals.BadLines mask) at) → SawBadLines layout view who page mask
  bad-lines what mask at has = let lines = has.1.lines in record { some = lines.0; frame = lines.1.0; inside = lines.1.1; saw = lines.1.2 }

module _ (layout : Layout) (earlier : List (Command × Answer)) (view : View) (who : Who) (page : Page) (told : List EventOutcome) (did : Option FrameChange) where
  free : (slot : VSlot) → IsOf layout page slot → (x : EvictAnswer) → IsEvictCaused [] layout view who page (evictions.Free slot) x → IsAnswerCaused layout earlier view who (commands.Free slot) told did (evict_answer x)
  free slot kind answers.Stopped has = stopped layout view who page (commands.Free slot) (evictions.Free slot) has
  free slot kind (answers.Done at) has = (subst (λ (p : Page). IsOf layout p slot) (sym has.0) kind, made-one layout view who page (evictions.Free slot) at has)
  free slot kind (answers.Refused refusals.NotMapped at) has = (subst (λ (p : Page). IsOf layout p slot) (sym has.1.page_is) kind, found-state layout view who page (evictions.Free slot) refusals.NotMapped at has)
  free slot kind (answers.Refused refusals.NotResident at) has = absurd has.1.state.such
  free slot kind (answers.Refused refusals.Locked at) has = absurd has.1.state.such
  free slot kind (answers.Refused refusals.Dirty at) has = absurd has.1.state.such
  free slot kind (answers.Refused refusals.Mapped at) has = absurd has.1.state.such
  free slot kind (answers.Refused (refusals.BadLines mask) at) has = absurd has.1.state.such

  drop : (x : EvictAnswer) → IsEvictCaused [] layout view who page evictions.Drop x → IsAnswerCaused layout earlier view who (commands.Drop page) told did (evict_answer x)
  drop answers.Stopped has = stopped layout view who page (commands.Drop page) evictions.Drop has
  drop (answers.Done at) has = (has.0, made-one layout view who page evictions.Drop at has)
  drop (answers.Refused refusals.NotMapped at) has = absurd has.1.state.such
  drop (answers.Refused refusals.NotResident at) has = (has.1.page_is, found-state layout view who page evictions.Drop refusals.NotResident at has)
  drop (answers.Refused refusals.Locked at) has = (has.1.page_is, found-state layout view who page evictions.Drop refusals.Locked at has)
  drop (answers.Refused refusals.Dirty at) has = (has.1.page_is, found-state layout view who page evictions.Drop refusals.Dirty at has)
  drop (answers.Refused refusals.Mapped at) has = (has.1.page_is, found-state layout view who page evictions.Drop refusals.Mapped at has)
  drop (answers.Refused (refusals.BadLines mask) at) has = absurd has.1.state.such

  sync : (x : EvictAnswer) → IsEvictCaused [] layout view who page evictions.Sync x → IsAnswerCaused layout earlier view who (commands.Sync page) told did (evict_answer x)
  sync answers.Stopped has = stopped layout view who page (commands.Sync page) evictions.Sync has
  sync (answers.Done at) has = (has.0, made-one layout view who page evictions.Sync at has)
  sync (answers.Refused refusals.NotMapped at) has = absurd has.1.state.such
  sync (answers.Refused refusals.NotResident at) has = (has.1.page_is, found-state layout view who page evictions.Sync refusals.NotResident at has)
  sync (answers.Refused refusals.Locked at) has = absurd has.1.state.such
  sync (answers.Refused refusals.Dirty at) has = absurd has.1.state.such
  sync (answers.Refused refusals.Mapped at) has = absurd has.1.state.such
  sync (answers.Refused (refusals.BadLines mask) at) has = (has.1.page_is, found-state layout view who page evictions.Sync (refusals.BadLines mask) at has, bad-lines layout view who page evictions.Sync mask at has)

  out : (x : EvictAnswer) → IsEvictCaused [] layout view who page evictions.Out x → IsAnswerCaused layout earlier view who (commands.Out page) told did (evict_answer x)
  out answers.Stopped has = stopped layout view who page (commands.Out page) evictions.Out has
  out (answers.Done at) has = (has.0, made-one layout view who page evictions.Out at has)
  out (answers.Refused refusals.NotMapped at) has = absurd has.1.state.such
  out (answers.Refused refusals.NotResident at) has = (has.1.page_is, found-state layout view who page evictions.Out refusals.NotResident at has)
  out (answers.Refused refusals.Locked at) has = (has.1.page_is, found-state layout view who page evictions.Out refusals.Locked at has)
  out (answers.Refused refusals.Dirty at) has = absurd has.1.state.such
  out (answers.Refused refusals.Mapped at) has = absurd has.1.state.such
  out (answers.Refused (refusals.BadLines mask) at) has = (has.1.page_is, found-state layout view who page evictions.Out (refusals.BadLines mask) at has, bad-lines layout view who page evictions.Out mask at has)

module _ {layout : Layout} (earlier : List (Command × Answer)) {view : View} {who : Who} {page : Page} {a : Answer} (told : List EventOutcome) (did : Option FrameChange) where
  pub free-caused : {slot : VSlot} → IsOf layout page slot → KnowsEviction layout view who page (evictions.Free slot) a → IsAnswerCaused layout earlier view who (commands.Free slot) told did a
  free-caused {slot} kind k = subst (IsAnswerCaused layout earlier view who (commands.Free slot) told did) k.answer_is (free layout earlier view who page told did slot kind k.own k.caused)

  pub drop-caused : KnowsEviction layout view who page evictions.Drop a → IsAnswerCaused layout earlier view who (commands.Drop page) told did a
  drop-caused k = subst (IsAnswerCaused layout earlier view who (commands.Drop page) told did) k.answer_is (drop layout earlier view who page told did k.own k.caused)

  pub sync-caused : KnowsEviction layout view who page evictions.Sync a → IsAnswerCaused layout earlier view who (commands.Sync page) told did a
  sync-caused k = subst (IsAnswerCaused layout earlier view who (commands.Sync page) told did) k.answer_is (sync layout earlier view who page told did k.own k.caused)

  pub out-caused : KnowsEviction layout view who page evictions.Out a → IsAnswerCaused layout earlier view who (commands.Out page) told did a
  out-caused k = subst (IsAnswerCaused layout earlier view who (commands.Out page) told did) k.answer_is (out layout earlier view who page told did k.own k.caused)
