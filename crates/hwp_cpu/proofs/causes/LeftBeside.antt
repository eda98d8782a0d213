-- By which entries pages left the frames that were taken out of use beside a command: its own task makes no such entry.
use Rattle.std.proofs.Common.{◌≡◌, inl, inr, ℕ, suc, Bool, true, false, cond, List, [], ◌∷◌, ◌++◌, Option, Some, None, filter, map, append-nil, refl, sym, ap, ◌∙◌, subst}
use Rattle.std.specs.List.{cons_option}
use Rattle.std.proofs.lemmas.Bool.{both_ways}
use Rattle.std.proofs.lemmas.List.{map-append}
use Rattle.std.proofs.lemmas.List.Elements.{filter-append}
use Rattle.std.proofs.lemmas.Option.{none-some}
use Rattle.hwp_law_served.specs.hwp_geom.declared.Layout.{Layout}
use Rattle.hwp_law_served.specs.hwp_geom.declared.Page.{Page}
use Rattle.hwp_law_served.specs.hwp_geom.declared.VSlot.{VSlot}
use Rattle.hwp_law_served.specs.hwp_geom.declared.Who.{Who}
use Rattle.hwp_law_served.specs.hwp_page.declared.At.{At}
use Rattle.hwp_law_served.specs.hwp_page.declared.What.{What}
use Rattle.hwp_law_served.specs.hwp_page.declared.What.TheVariants as entries
use Rattle.hwp_law_served.specs.hwp_core_rule.declared.Made.{Made}
use Rattle.hwp_law_served.specs.hwp_core_rule.declared.View.{View}
use Rattle.hwp_law_served.specs.hwp_core_rule.Lists.{EachMember}
use Rattle.hwp_law_served.proofs.of_hwp_core_rule.Lists.{each-push}
use Rattle.hwp_law_served.specs.hwp_core_rule.Known.{HasMadeBeside, HasMadeNoneBeside, HasOnlyBeside, IsOnTheWay, Precedes, deeds, is_failure}
use Rattle.hwp_law_served.specs.hwp_report_text.declared.Answer.{Answer}
use Rattle.hwp_law_served.specs.hwp_law.Pairings.{is_soft}
use Rattle.hwp_law_served.specs.hwp_claim.declared.FailAnswer.{FailAnswer}
use Rattle.hwp_law_served.specs.hwp_claim.declared.FailAnswer.TheVariants as fail_answers
use Rattle.hwp_law_served.specs.hwp_claim.declared.Found.{Found}
use Rattle.hwp_law_served.specs.hwp_claim.declared.Inject.{Inject}
use Rattle.hwp_law_served.specs.hwp_claim.Injects as injects
use Rattle.hwp_law_served.specs.hwp_evict.declared.Evict.{Evict}
use Rattle.hwp_law_served.specs.hwp_evict.declared.EvictAnswer.{EvictAnswer}
use Rattle.hwp_law_served.specs.hwp_evict.declared.EvictAnswer.TheVariants as evict_answers
use Rattle.hwp_law_served.specs.hwp_evict.declared.Eviction.{Eviction}
use Rattle.hwp_law_served.specs.hwp_evict.declared.Eviction.TheVariants as evictions
use Rattle.hwp_law_served.specs.hwp_evict.Evictions.{IsCaused, entry_of}
use Rattle.hwp_law_served.specs.hwp_evict.Evicts as evicts
use Rattle.hwp_cpu_command.specs.hwp_fault.declared.AccessKind.{AccessKind}
use Rattle.hwp_cpu_command.specs.hwp_fault.declared.AccessKind.TheVariants as kinds
use Rattle.hwp_cpu_command.specs.hwp_fault.declared.Request.{Request}
use Rattle.hwp_cpu_command.specs.hwp_fault.Accesses.{what_by}
use Rattle.hwp_cpu_command.specs.hwp_fault.Touches.{refusal_by}
use Rattle.hwp_cpu_command.specs.hwp_cpu_access.declared.Instruction.{Instruction}
use Rattle.hwp_cpu_command.specs.hwp_cpu_access.declared.InstructionAnswer.{InstructionAnswer}
use Rattle.hwp_cpu_command.specs.hwp_cpu_access.declared.InstructionAnswer.TheVariants as answers
use Rattle.hwp_cpu_command.specs.hwp_cpu_access.declared.Pause.{Pause}
use Rattle.hwp_cpu_command.specs.hwp_cpu_access.declared.Pause.TheVariants as pauses
use Rattle.hwp_cpu_command.specs.hwp_cpu_access.Fits.{HasOnlyBefore, IsEnd, IsLeft}
use Rattle.hwp_cpu_command.specs.hwp_cpu_access.Fits as instruction_fits
use Rattle.hwp_cpu_command.specs.hwp_cpu_access.Instructions as instructions
use Rattle.hwp_cpu_command.proofs.of_hwp_cpu_access.InstructionLaws.{paused}
use Rattle.hwp_cpu_command.specs.hwp_scrub.declared.Raise.{Raise}
use Rattle.hwp_cpu_command.specs.hwp_scrub.declared.RaiseAnswer.{RaiseAnswer}
use Rattle.hwp_cpu_command.specs.hwp_scrub.declared.RaiseAnswer.TheVariants as raise_answers
use Rattle.hwp_cpu_command.specs.hwp_scrub.RaiseFits as raise_fits
use Rattle.hwp_cpu_command.specs.hwp_scrub.Raises as raises
use Rattle.hwp_law_served.specs.hwp_scrub.declared.Scrub.{Scrub}
use Rattle.hwp_law_served.specs.hwp_scrub.declared.ScrubAnswer.{ScrubAnswer}
use Rattle.hwp_law_served.specs.hwp_scrub.declared.ScrubAnswer.TheVariants as scrub_answers
use Rattle.hwp_law_served.specs.hwp_scrub.Fits as scrub_fits
use Rattle.hwp_law_served.specs.hwp_scrub.Scrubs as scrubs
use Rattle.hwp_law_served.specs.hwp_soft.declared.Soft.{Soft}
use Rattle.hwp_law_served.specs.hwp_soft.declared.SoftAnswer.{SoftAnswer}
use Rattle.hwp_law_served.specs.hwp_soft.declared.SoftAnswer.TheVariants as soft_answers
use Rattle.hwp_law_served.specs.hwp_soft.Offline as offline
use Rattle.hwp_law_served.specs.hwp_soft.Softs as softs
use Rattle.hwp_cpu_command.specs.declared.Job.{Job}
use Rattle.hwp_cpu_command.specs.declared.Job.TheVariants as jobs
use Rattle.hwp_cpu_command.specs.Jobs.{FitsFrom, answer, who}
use Rattle.hwp_cpu_command.proofs.JobEnds.{evict-caused, inject-ended, instruction-ended, mapped, raise-ended, scrub-ended, soft-ended}
use Rattle.hwp_law_served.specs.Offlinings.{left_among, left_by, place_of}

-- ---- lists of entries

abbrev IsOther : Made → Type 0
IsOther m = is_soft m.entry.what ≡ false

abbrev soft_in : List Made → List Made
soft_in made = filter (λ (m : Made). is_soft m.entry.what) made

none-soft : (own : List Made) → EachMember IsOther own → soft_in own ≡ []
none-soft [] others = refl
none-soft (m ∷ ms) others = ap (λ (b : Bool). cond b (m ∷ soft_in ms) (soft_in ms)) (others 0 m refl) ∙ none-soft ms (λ i x there. others (suc i) x there)

-- beside these entries the command made others alone
pub record HasOthers (base : List Made) (view : View) (by : Who) : Type 0 where
  pub own : List Made
  pub all : deeds by view ≡ base ++ own
  pub others : EachMember IsOther own

pub left-others : {base : List Made} {view : View} {by : Who} → HasOthers base view by → left_by by view ≡ left_among base
left-others {base} {view} {by} has =
    ap left_among has.all ∙ ap (map place_of) (filter-append (λ (m : Made). is_soft m.entry.what) base has.own ∙ ap (λ (l : List Made). soft_in base ++ l) (none-soft has.own has.others) ∙ append-nil (soft_in base))

of-none : {base : List Made} (view : View) (by : Who) → HasMadeNoneBeside base view by → HasOthers base view by
of-none {base} view by none = record { own = []; all = none ∙ sym (append-nil base); others = λ i m there. absurd (none-some m there) }

of-only : {base : List Made} {Such : Made → Type 0} {view : View} {by : Who} → ((m : Made) → Such m → IsOther m) → HasOnlyBeside base Such view by → HasOthers base view by
of-only other only = record { own = only.own; all = only.all; others = λ i m there. other m (only.such i m there) }

of-made : {base : List Made} {Such : Made → Type 0} {view : View} {by : Who} {page : Page} {place : ℕ} {what : What} → ((m : Made) → Such m → IsOther m) → is_soft what ≡ false → HasMadeBeside base Such view by page place what → HasOthers base view by
of-made other apart made = record {
  own = made.before ++ made.last ∷ [];
  all = made.all;
  others = each-push IsOther made.before made.last (ap is_soft made.at.2 ∙ apart) (λ i m there. other m (made.such i m there));
}

of-each : {Such : Made → Type 0} (view : View) (by : Who) → ((m : Made) → Such m → IsOther m) → EachMember Such (deeds by view) → HasOthers [] view by
of-each view by other each = record { own = deeds by view; all = refl; others = λ i m there. other m (each i m there) }

-- where it had made none
from-first : {base : List Made} {view : View} {by : Who} → base ≡ [] → HasOthers [] view by → HasOthers base view by
from-first {base} {view} {by} none has = subst (λ (l : List Made). HasOthers l view by) (sym none) has

-- ---- which entries those are

failure-other : (what : What) → is_failure what ≡ true → is_soft what ≡ false
failure-other entries.Soft is = absurd (both_ways false refl is)
failure-other _ is = refl

way-other : (slot : VSlot) (line : ℕ) (what : What) → IsOnTheWay slot line what → is_soft what ≡ false
way-other slot line entries.Soft is = absurd is
way-other slot line _ is = refl

before-other : (page : Page) (slot : VSlot) (line : ℕ) (m : Made) → Precedes page slot line m → IsOther m
before-other page slot line m (inl own) = way-other slot line m.entry.what own.1
before-other page slot line m (inr failure) = failure-other m.entry.what failure

none-other : (m : Made) → ⊥ → IsOther m
none-other m none = absurd none

read-other : (kind : AccessKind) (slot : VSlot) (line : ℕ) (mask : _) (word : ℕ) → is_soft (what_by kind slot line mask word) ≡ false
read-other kinds.Load slot line mask word = refl
read-other (kinds.Store stored) slot line mask word = refl

refused-other : (kind : AccessKind) (slot : VSlot) (line : ℕ) (thread : _) → is_soft (refusal_by kind slot line thread) ≡ false
refused-other kinds.Load slot line thread = refl
refused-other (kinds.Store stored) slot line thread = refl

-- ---- of a task that has its answer

instruction-others : {base : List Made} {layout : Layout} {view : View} (i : Instruction) {x : InstructionAnswer} → instruction_fits.FitsFrom base layout view i → instructions.answer i ≡ Some x → HasOthers base view i.request.who
instruction-others {base} {layout} {view} i {x} fits is = ends x (instruction-ended i fits is).ended
  where
    r : Request
    r = i.request

    only : HasOnlyBefore base view r → HasOthers base view r.who
    only has = of-only (before-other r.page r.slot r.line) has

    ends : (y : InstructionAnswer) → IsEnd base layout view r i.lines.told y → HasOthers base view r.who
    ends (answers.Value word place) end = of-made (before-other r.page r.slot r.line) (read-other r.kind r.slot r.line _ word) end.answered.2.made
    ends (answers.Stored place) end = of-made (before-other r.page r.slot r.line) (read-other r.kind r.slot r.line _ end.answered.0) end.answered.3.made
    ends (answers.Sigbus place) (inl end) = of-made (before-other r.page r.slot r.line) (refused-other r.kind r.slot r.line r.thread) end.answered.1.made
    ends (answers.Sigbus place) (inr end) = only end.only
    ends answers.NoFrame end = only end.answered.0.only
    ends (answers.Gone page) end = only end.answered.1
    ends answers.Stopped (inl end) = of-none view r.who end.answered.1
    ends answers.Stopped (inr end) = only end.only

eviction-other : (what : Eviction) → is_soft (entry_of what) ≡ false
eviction-other (evictions.Free slot) = refl
eviction-other evictions.Sync = refl
eviction-other evictions.Drop = refl
eviction-other evictions.Out = refl

evict-others : {base : List Made} {layout : Layout} {view : View} (e : Evict) {x : EvictAnswer} → evicts.FitsFrom base layout view e → evicts.answer e ≡ Some x → HasOthers base view e.who
evict-others {base} {layout} {view} e {x} fits is = ends x (evict-caused e fits is).1
  where
    ends : (y : EvictAnswer) → IsCaused base layout view e.who e.page e.what y → HasOthers base view e.who
    ends evict_answers.Stopped has = of-none view e.who has.0
    ends (evict_answers.Done at) has = of-made none-other (eviction-other e.what) has.1
    ends (evict_answers.Refused refusal at) has = of-none view e.who has.0

raise-others : {layout : Layout} {view : View} (r : Raise) {x : RaiseAnswer} → raise_fits.Fits layout view r → raises.answer r ≡ Some x → HasOthers [] view r.who
raise-others {layout} {view} r {x} fits is = ends x (raise-ended r fits is).1
  where
    failed : raise_fits.HasOnlyFailed view r.who → HasOthers [] view r.who
    failed only = of-each view r.who (λ m is. failure-other m.entry.what is) only

    ends : (y : RaiseAnswer) → raise_fits.IsEnd layout view r y → HasOthers [] view r.who
    ends raise_answers.Raised has = failed has.only
    ends raise_answers.Stopped (inl has) = of-none view r.who has.0.made
    ends raise_answers.Stopped (inr has) = failed has.only
    ends (raise_answers.Gone page) has = of-none view r.who has.0.made

scrub-others : {layout : Layout} {view : View} (s : Scrub) {x : ScrubAnswer} → scrub_fits.Fits layout view s → scrubs.answer s ≡ Some x → HasOthers [] view s.who
scrub-others {layout} {view} s {x} fits is = ends x (scrub-ended s fits is)
  where
    failed : scrub_fits.HasOnlyFailed view s.who → HasOthers [] view s.who
    failed only = of-each view s.who (λ m is. failure-other m.entry.what is) only

    ends : (y : ScrubAnswer) → scrub_fits.IsEnd layout view s y → HasOthers [] view s.who
    ends scrub_answers.Scrubbed has = failed has.visited.only
    ends scrub_answers.Stopped (inl has) = of-none view s.who has.0.made
    ends scrub_answers.Stopped (inr has) = failed has.1.visited.only

inject-others : {layout : Layout} {view : View} (i : Inject) {x : FailAnswer} → injects.Fits layout view i → injects.answer i ≡ Some x → HasOthers [] view i.who
inject-others {layout} {view} i {x} fits is = ends x (inject-ended i fits is).over
  where
    done : (found : Found) (at : Option At) → injects.HasDone layout view i.who i.frame found at → HasOthers [] view i.who
    done found None has = of-none view i.who has.0
    done found (Some place) has = of-made none-other refl has.0.made

    ends : (y : FailAnswer) → injects.HasEnded layout view i.who i.frame y → HasOthers [] view i.who
    ends fail_answers.Stopped has = of-none view i.who has.0
    ends fail_answers.Already has = of-none view i.who has.0
    ends (fail_answers.Done found) has = done found found.at has.1

-- the task doesn't take a frame out of use itself, and pauses before its entry alone: a copy has accesses behind a pause
abbrev pub IsNoSoft : Job → Type 0
IsNoSoft (jobs.Soft s) = ⊥
IsNoSoft (jobs.Copying c) = ⊥
IsNoSoft j = Unit {0}

answered-others : (base : List Made) (layout : Layout) (view : View) (j : Job) {a : Answer} → IsNoSoft j → FitsFrom base layout view j → answer j ≡ Some a → HasOthers base view (who j)
answered-others base layout view (jobs.Instruction i) apart fits is = instruction-others i fits (mapped _ (instructions.answer i) is).1
answered-others base layout view (jobs.Evict e) apart fits is = evict-others e fits (mapped _ (evicts.answer e) is).1
answered-others base layout view (jobs.Fsync f) apart fits is = from-first fits.0 (of-none view f.who fits.1.made_none)
answered-others base layout view (jobs.Prctl p) apart fits is = from-first fits.0 (of-none view p.who fits.1.made)
answered-others base layout view (jobs.Denied p) apart fits is = from-first fits.0 (of-none view p.who fits.1.made)
answered-others base layout view (jobs.Fork f) apart fits is = from-first fits.0 (of-none view f.who fits.1.made)
answered-others base layout view (jobs.Log l) apart fits is = from-first fits.0 (of-none view l.read.who fits.1.read.made)
answered-others base layout view (jobs.Raise r) apart fits is = from-first fits.0 (raise-others r fits.1 (mapped _ (raises.answer r) is).1)
answered-others base layout view (jobs.Scrub s) apart fits is = from-first fits.0 (scrub-others s fits.1 (mapped _ (scrubs.answer s) is).1)
answered-others base layout view (jobs.Spoil s) apart fits is = from-first fits.0 (of-none view s.who fits.1.made)
answered-others base layout view (jobs.Nested n) apart fits is = from-first fits.0 (of-none view n.who fits.1.made)
answered-others base layout view (jobs.Inject i) apart fits is = from-first fits.0 (inject-others i fits.1 (mapped _ (injects.answer i) is).1)
answered-others base layout view (jobs.Soft s) apart fits is = absurd apart
answered-others base layout view (jobs.Copying c) apart fits is = absurd apart
answered-others base layout view (jobs.Unpoison u) apart fits is = from-first fits.0 (of-none view u.who fits.1.made)

-- a task that has its answer has made none beside those that its command had made before
pub left-answered : (base : List Made) (layout : Layout) (view : View) (j : Job) {a : Answer} → IsNoSoft j → FitsFrom base layout view j → answer j ≡ Some a → left_by (who j) view ≡ left_among base
left-answered base layout view j apart fits is = left-others (answered-others base layout view j apart fits is)

-- and so has an instruction at its pause
pub left-paused : {base : List Made} {layout : Layout} {view : View} (i : Instruction) (p : Pause) → instruction_fits.FitsFrom base layout view i → instructions.pause i ≡ Some p → left_by i.request.who view ≡ left_among base
left-paused {base} {layout} {view} i p fits is = left-others (of-only (before-other i.request.page i.request.slot i.request.line) (which p (paused i p fits is).left))
  where
    which : (q : Pause) → IsLeft base layout view i.request i.lines.told q → HasOnlyBefore base view i.request
    which (pauses.Sigbus place) left = left.only
    which (pauses.Wait frame) left = left.1
    which pauses.Again left = left.1

-- ---- of a frame that was taken out of use

left-more : (base : List Made) (m : Made) → is_soft m.entry.what ≡ true → left_among (base ++ m ∷ []) ≡ left_among base ++ place_of m ∷ []
left-more base m is = ap (map place_of) (filter-append (λ (x : Made). is_soft x.entry.what) base (m ∷ []) ∙ ap (λ (b : Bool). soft_in base ++ cond b (m ∷ []) []) is) ∙ map-append place_of (soft_in base) (m ∷ [])

-- the place to which its page's entry stands
abbrev pub moved_at : SoftAnswer → Option At
moved_at (soft_answers.Moved to place cycle) = Some place
moved_at _ = None

pub left-moved : {base : List Made} {layout : Layout} {view : View} (s : Soft) (x : SoftAnswer) → offline.FitsFrom base layout view s → softs.answer s ≡ Some x → left_by s.who view ≡ left_among base ++ cons_option (moved_at x) []
left-moved {base} {layout} {view} s x fits is = by x (soft-ended s fits is).1
  where
    none : HasMadeNoneBeside base view s.who → left_by s.who view ≡ left_among base ++ []
    none made = ap left_among made ∙ sym (append-nil (left_among base))

    moved : (place : At) (before : List Made) (last : Made) → deeds s.who view ≡ base ++ (before ++ last ∷ []) → EachMember (λ (m : Made). ⊥) before → is_soft last.entry.what ≡ true → place_of last ≡ place → left_by s.who view ≡ left_among base ++ place ∷ []
    moved place [] last all none soft there = ap left_among all ∙ left-more base last soft ∙ ap (λ (p : At). left_among base ++ p ∷ []) there
    moved place (m ∷ ms) last all none soft there = absurd (none 0 m refl)

    by : (y : SoftAnswer) → offline.IsCaused base layout view s.who s.frame y → left_by s.who view ≡ left_among base ++ cons_option (moved_at y) []
    by soft_answers.Stopped has = none has.0
    by soft_answers.Kernel has = none has.0
    by soft_answers.Already has = none has.0
    by (soft_answers.HasBad mask) has = none has.0
    by soft_answers.NoFrame has = none has.0
    by (soft_answers.TakenFree cycle) has = none has.0
    by (soft_answers.Moved to place cycle) has = moved place has.0.before has.0.last has.0.all has.0.such (ap is_soft has.0.at.2) ((λ t. record { page = has.0.at.0 t; entry = has.0.at.1 t }))
