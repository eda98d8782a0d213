-- A task stays one of its command, from the beginning on; and a command that may begin fits.
use Rattle.std.proofs.Common.{◌≡◌, inl, inr, ℕ, Bool, true, false, [], Option, Some, None, refl, sym, ap, ◌∙◌, subst}
use Rattle.std.specs.declared.alloc.Global.{Global}
use Rattle.hwp_cpu_command.specs.hwp_geom.declared.Damage.{Damage}
use Rattle.hwp_cpu_command.specs.hwp_geom.declared.FileNo.{FileNo}
use Rattle.hwp_cpu_command.specs.hwp_geom.declared.Frame.{Frame}
use Rattle.hwp_cpu_command.specs.hwp_geom.declared.Layout.{Layout}
use Rattle.hwp_cpu_command.specs.hwp_geom.declared.Mode.{Mode}
use Rattle.hwp_cpu_command.specs.hwp_geom.declared.Page.{Page}
use Rattle.hwp_cpu_command.specs.hwp_geom.declared.Proc.{Proc}
use Rattle.hwp_cpu_command.specs.hwp_geom.declared.Thread.{Thread}
use Rattle.hwp_cpu_command.specs.hwp_geom.declared.VSlot.{VSlot}
use Rattle.hwp_cpu_command.specs.hwp_geom.declared.Who.{Who}
use Rattle.hwp_cpu_command.specs.hwp_banks.declared.Origin.{Origin}
use Rattle.hwp_cpu_command.specs.hwp_severity.declared.McgBits.{McgBits}
use Rattle.hwp_cpu_command.specs.hwp_page.declared.At.{At}
use Rattle.hwp_cpu_command.specs.hwp_page.History.{BodyValue}
use Rattle.hwp_cpu_command.specs.hwp_words.Names.{page_named}
use Rattle.hwp_cpu_command.specs.hwp_words.Stops.{is_stopped}
use Rattle.hwp_cpu_command.specs.hwp_script_words.declared.Command.{Command}
use Rattle.hwp_cpu_command.specs.hwp_script_words.declared.Command.TheVariants as commands
use Rattle.hwp_cpu_command.specs.hwp_script_words.declared.PrctlArgs.{PrctlArgs}
use Rattle.hwp_cpu_command.specs.hwp_core_rule.declared.View.{View}
use Rattle.hwp_cpu_command.specs.hwp_core_rule.declared.Turn.{Turn}
use Rattle.hwp_cpu_command.specs.hwp_banks.Banks.{Banks}
use Rattle.hwp_cpu_command.specs.hwp_report_text.declared.Answer.{Answer}
use Rattle.hwp_cpu_command.specs.hwp_claim.hwp_guest.declared.Admit.{Admit}
use Rattle.hwp_cpu_command.specs.hwp_claim.hwp_guest.declared.Admit.TheVariants as admissions
use Rattle.hwp_cpu_command.specs.hwp_law.GuestRule as guests
use Rattle.hwp_cpu_command.specs.hwp_cpu_control.declared.Denial.{Denial}
use Rattle.hwp_cpu_command.specs.hwp_cpu_control.declared.Denial.TheVariants as denials
use Rattle.hwp_cpu_command.specs.hwp_cpu_control.declared.ReadStopAnswer.{ReadStopAnswer}
use Rattle.hwp_cpu_command.specs.hwp_evict.declared.Evict.{Evict}
use Rattle.hwp_cpu_command.specs.hwp_evict.declared.EvictAnswer.{EvictAnswer}
use Rattle.hwp_cpu_command.specs.hwp_evict.declared.EvictAnswer.TheVariants as evict_answers
use Rattle.hwp_cpu_command.specs.hwp_evict.declared.Eviction.{Eviction}
use Rattle.hwp_cpu_command.specs.hwp_evict.Evicts as evicts
use Rattle.hwp_cpu_command.specs.hwp_claim.declared.Inject.{Inject}
use Rattle.hwp_cpu_command.specs.hwp_fault.declared.AccessAnswer.{AccessAnswer}
use Rattle.hwp_cpu_command.specs.hwp_fault.declared.AccessAnswer.TheVariants as access_answers
use Rattle.hwp_cpu_command.specs.hwp_fault.declared.AccessKind.{AccessKind}
use Rattle.hwp_cpu_command.specs.hwp_fault.declared.AccessKind.TheVariants as kinds
use Rattle.hwp_cpu_command.specs.hwp_fault.declared.Request.{Request}
use Rattle.hwp_cpu_command.specs.hwp_fault.Accesses as accesses
use Rattle.hwp_cpu_command.specs.hwp_claim.declared.Handler.{Handler}
use Rattle.hwp_cpu_command.specs.hwp_claim.Handlers as handlers
use Rattle.hwp_cpu_command.specs.hwp_cpu_access.declared.Instruction.{Instruction}
use Rattle.hwp_cpu_command.specs.hwp_cpu_access.declared.instruction.InstructionAt.{InstructionAt}
use Rattle.hwp_cpu_command.specs.hwp_cpu_access.declared.instruction.InstructionAt.TheVariants as instruction_at
use Rattle.hwp_cpu_command.specs.hwp_cpu_access.Fits.{IsOfAccess}
use Rattle.hwp_cpu_command.specs.hwp_cpu_access.Instructions as instructions
use Rattle.hwp_cpu_command.proofs.of_hwp_cpu_access.InstructionLaws as instructing
use Rattle.hwp_cpu_command.specs.hwp_cpu_access.declared.InstructionAnswer.{InstructionAnswer}
use Rattle.hwp_cpu_command.specs.hwp_cpu_access.declared.InstructionAnswer.TheVariants as instruction_answers
use Rattle.hwp_cpu_command.specs.hwp_fork.declared.Sub.{Sub}
use Rattle.hwp_cpu_command.specs.hwp_fork.declared.Sub.TheVariants as subs
use Rattle.hwp_cpu_command.specs.hwp_fork.Cows as cows
use Rattle.hwp_cpu_command.specs.hwp_cpu_access.declared.Copying.{Copying}
use Rattle.hwp_cpu_command.specs.hwp_cpu_access.declared.copying.CopyingAt.{CopyingAt}
use Rattle.hwp_cpu_command.specs.hwp_cpu_access.declared.copying.CopyingAt.TheVariants as copying_at
use Rattle.hwp_cpu_command.specs.hwp_cpu_access.Copyings as copyings
use Rattle.hwp_cpu_command.proofs.of_hwp_cpu_access.CopyEnds as copy_ends
use Rattle.hwp_cpu_command.proofs.of_hwp_cpu_control.ForkTargets.{are-targets, of-child}
use Rattle.hwp_cpu_command.specs.hwp_scrub.declared.LocalChange.{LocalChange}
use Rattle.hwp_cpu_command.specs.hwp_scrub.declared.Log.{Log}
use Rattle.hwp_cpu_command.specs.hwp_scrub.declared.Raise.{Raise}
use Rattle.hwp_cpu_command.specs.hwp_scrub.declared.Raiser.{Raiser}
use Rattle.hwp_cpu_command.specs.hwp_scrub.declared.raise.RaiseAt.{RaiseAt}
use Rattle.hwp_cpu_command.specs.hwp_scrub.declared.raise.RaiseAt.TheVariants as raise_at
use Rattle.hwp_cpu_command.specs.hwp_scrub.Logs as logs
use Rattle.hwp_cpu_command.specs.hwp_scrub.Raises as raises
use Rattle.hwp_cpu_command.specs.hwp_scrub.declared.Scrub.{Scrub}
use Rattle.hwp_cpu_command.specs.hwp_scrub.declared.scrub.ScrubAt.{ScrubAt}
use Rattle.hwp_cpu_command.specs.hwp_scrub.declared.scrub.ScrubAt.TheVariants as scrub_at
use Rattle.hwp_cpu_command.specs.hwp_scrub.Scrubs as scrubs
use Rattle.hwp_cpu_command.specs.hwp_scrub.Visits.{AreBanks}
use Rattle.hwp_cpu_command.proofs.of_hwp_scrub.ScrubLaws as scrubbing
use Rattle.hwp_cpu_command.specs.hwp_soft.declared.Soft.{Soft}
use Rattle.hwp_cpu_command.specs.declared.job.Job.{Job}
use Rattle.hwp_cpu_command.specs.declared.job.Job.TheVariants as jobs
use Rattle.hwp_cpu_command.specs.Begins.{Begins, BeginsAccess, BeginsAs, BeginsCopy, BeginsCopying, BeginsFork, BeginsWith, IsDenied, BeginsEviction, BeginsFsync, BeginsInject, BeginsLog, BeginsPrctl, BeginsRaiseKernel, BeginsRaiseUser, BeginsScrub, BeginsSoft, BeginsSpoil, BeginsUnpoison, request_of}
use Rattle.hwp_cpu_command.specs.Answers.{denial_answer}
use Rattle.hwp_cpu_command.specs.Done.{can_fail}
use Rattle.hwp_cpu_command.specs.Jobs.{FitsFrom, Next, banks_before, bare, claims, class, denial_of, left_in, who}
use Rattle.hwp_cpu_command.specs.FileHandles.{HasChangeWithin, KnowsHandle}
use Rattle.hwp_cpu_command.specs.Runs.{AtRest, CanFork, IsFresh, Runs, RunsAs, anew, collects_now}
use Rattle.hwp_cpu_command.specs.Stays.{IsAtStop}

-- ---- what a task asks for never changes

abbrev AskedAccess : Type 0
AskedAccess = Global × Request × Origin × Mode × Banks × Bool

abbrev asked-access : Instruction → AskedAccess
asked-access i = (i.alloc, i.request, i.origin, i.mode, i.before.value, i.collects)

access-handled : (i : Instruction) (frame : Frame) (h : Handler) → asked-access (instructions.after_handler i frame h) ≡ asked-access i
access-handled i frame h = which (handlers.answer h)
  where
    which : (o : Option Bool) → asked-access (instructions.after_handler_by i frame h o) ≡ asked-access i
    which None = refl
    which (Some stopped) = refl

instruction-kept : (layout : Layout) (i k : Instruction) (found : ℕ) (got : Option BodyValue) (turn : Turn) → instructions.Follows layout (instructions.bare i) found got k turn → asked-access k ≡ asked-access i
instruction-kept layout i k found got turn follows = which i.at follows
  where
    accessed : (a : _) (o : Option AccessAnswer) → instructions.AfterAccessBy layout (instructions.bare i) a o k → asked-access k ≡ asked-access i
    accessed a (Some (access_answers.Checked frame place)) (inl refused) = ap asked-access refused
    accessed a (Some (access_answers.Checked frame place)) (inr (spare, room, is)) =
        ap asked-access is ∙ access-handled (instructions.emptied (instructions.bare i) spare) frame (instructions.handler_of layout (instructions.bare i) frame)
    accessed a None is = ap asked-access is
    accessed a (Some (access_answers.Value word place)) is = ap asked-access is
    accessed a (Some (access_answers.Stored place)) is = ap asked-access is
    accessed a (Some (access_answers.Sigbus place)) is = ap asked-access is
    accessed a (Some access_answers.NoFrame) is = ap asked-access is
    accessed a (Some (access_answers.Gone page)) is = ap asked-access is
    accessed a (Some access_answers.Stopped) is = ap asked-access is

    which : (x : InstructionAt) → instructions.FollowsAt layout (instructions.bare i) (instructions.bare_at x) found got k turn → asked-access k ≡ asked-access i
    which (instruction_at.Access a) next = accessed next.access (accesses.answer next.access) next.next_is
    which (instruction_at.Handle frame h) next = ap asked-access next.next_is ∙ access-handled (instructions.bare i) frame next.handler
    which (instruction_at.LoadFrame frame) next = ap asked-access next.0
    which (instruction_at.LoadStop frame) next = ap asked-access next.0
    which instruction_at.GiveUp next = ap asked-access next.0
    which (instruction_at.Paused pause) next = ap asked-access next.0
    which (instruction_at.Over answer) next = ap asked-access next.0

-- a copy, whichever access of it goes on
abbrev AskedCopy : Type 0
AskedCopy = Global × Request × ℕ × VSlot × Page × Banks × Bool

abbrev asked-copy : Copying → AskedCopy
asked-copy c = (c.instruction.alloc, c.store, c.cow.x, c.cow.v, c.page, c.instruction.before.value, c.instruction.collects)

copy-going : (c : Copying) (place : At) (sub : Sub) → asked-copy (copyings.going_on c place sub) ≡ asked-copy c
copy-going c place (subs.Load slot line) = refl
copy-going c place (subs.Store slot line word) = refl
copy-going c place (subs.Free slot) = refl
copy-going c place subs.Switched = refl

copy-accessed : (c : Copying) (o : Option InstructionAnswer) → asked-copy (copyings.after_access c o) ≡ asked-copy c
copy-accessed c None = refl
copy-accessed c (Some (instruction_answers.Value word place)) = copy-going (record c { cow = cows.told_by c.cow word }) place (cows.sub_of (cows.told_by c.cow word))
copy-accessed c (Some (instruction_answers.Stored place)) = copy-going (record c { cow = cows.told_by c.cow 0 }) place (cows.sub_of (cows.told_by c.cow 0))
copy-accessed c (Some (instruction_answers.Sigbus place)) = refl
copy-accessed c (Some instruction_answers.NoFrame) = refl
copy-accessed c (Some (instruction_answers.Gone page)) = refl
copy-accessed c (Some instruction_answers.Stopped) = refl

copy-freed : (c : Copying) (e : Evict) (stored : At) (o : Option EvictAnswer) → asked-copy (copyings.after_free_by c e stored o) ≡ asked-copy c
copy-freed c e stored None = refl
copy-freed c e stored (Some evict_answers.Stopped) = refl
copy-freed c e stored (Some (evict_answers.Done place)) = refl
copy-freed c e stored (Some (evict_answers.Refused refusal place)) = refl

copy-kept : (layout : Layout) (c k : Copying) (found : ℕ) (got : Option BodyValue) (turn : Turn) → copyings.Follows layout (copyings.bare c) found got k turn → asked-copy k ≡ asked-copy c
copy-kept layout c k found got turn follows = which c.at follows
  where
    which : (x : CopyingAt) → copyings.FollowsAt layout (copyings.bare_at c x) (copyings.bare_at c x).at found got k turn → asked-copy k ≡ asked-copy c
    which copying_at.Access next = ap asked-copy next.next_is ∙ copy-accessed (record (copyings.bare_at c copying_at.Access) { instruction = next.instruction }) (instructions.answer next.instruction)
        ∙ ap (λ (a : AskedAccess). (a.0, c.store, c.cow.x, c.cow.v, c.page, a.4, a.5)) (instruction-kept layout c.instruction next.instruction found got turn next.follows)
    which (copying_at.Free e stored) next = ap asked-copy next.next_is ∙ copy-freed (copyings.bare_at c (copying_at.Free e stored)) next.evict stored (evicts.answer next.evict)
    which (copying_at.Over answer) next = ap asked-copy next.0

abbrev AskedRaise : Type 0
AskedRaise = Global × Who × Option Raiser × McgBits × Banks

abbrev asked-raise : Raise → AskedRaise
asked-raise r = (r.alloc, r.who, r.raiser, r.mcg, r.before.value)

raise-handled : (r : Raise) (h : Handler) → asked-raise (raises.after_handler r h) ≡ asked-raise r
raise-handled r h = which (handlers.answer h)
  where
    which : (o : Option Bool) → asked-raise (raises.after_handler_by r h o) ≡ asked-raise r
    which None = refl
    which (Some stopped) = refl

raise-kept : (layout : Layout) (r k : Raise) (found : ℕ) (got : Option BodyValue) (turn : Turn) → raises.Follows layout (raises.bare r) found got k turn → asked-raise k ≡ asked-raise r
raise-kept layout r k found got turn follows = which r.at follows
  where
    begun : raises.BeginsCheck layout (raises.bare r) k → asked-raise k ≡ asked-raise r
    begun (inl refused) = ap asked-raise refused
    begun (inr (spare, room, is)) = ap asked-raise is ∙ raise-handled (raises.emptied (raises.bare r) spare) (raises.handler_of layout (raises.bare r))

    by-stop : (b : Bool) (o : Option Raiser) → raises.AfterStopBy layout (raises.bare r) b o k → asked-raise k ≡ asked-raise r
    by-stop true o is = ap asked-raise is
    by-stop false (Some raiser) is = ap asked-raise is
    by-stop false None is = begun is

    by-process : (o : Option Page) → raises.AfterProcessBy layout (raises.bare r) o k → asked-raise k ≡ asked-raise r
    by-process (Some page) is = ap asked-raise is
    by-process None is = begun is

    which : (x : RaiseAt) → raises.FollowsAt layout (raises.bare r) (raises.bare_at x) found got k turn → asked-raise k ≡ asked-raise r
    which raise_at.LoadStop next = by-stop (is_stopped found) r.raiser next.0
    which (raise_at.LoadProcess raiser) next = by-process (page_named found) next.0
    which (raise_at.Handle h) next = ap asked-raise next.next_is ∙ raise-handled (raises.bare r) next.handler
    which raise_at.GiveUp next = ap asked-raise next.0
    which (raise_at.Over answer) next = ap asked-raise next.0

abbrev AskedScrub : Type 0
AskedScrub = Global × Who × Frame × Frame × Banks

abbrev asked-scrub : Scrub → AskedScrub
asked-scrub s = (s.alloc, s.who, s.first, s.last, s.before.value)

scrub-handled : (s : Scrub) (frame : Frame) (h : Handler) → asked-scrub (scrubs.after_handler s frame h) ≡ asked-scrub s
scrub-handled s frame h = which (handlers.answer h)
  where
    which : (o : Option Bool) → asked-scrub (scrubs.after_handler_by s frame h o) ≡ asked-scrub s
    which None = refl
    which (Some stopped) = refl

scrub-kept : (layout : Layout) (s k : Scrub) (found : ℕ) (got : Option BodyValue) (turn : Turn) → scrubs.Follows layout (scrubs.bare s) found got k turn → asked-scrub k ≡ asked-scrub s
scrub-kept layout s k found got turn follows = which s.at follows
  where
    bad : (frame : Frame) (o : Option ℕ) → scrubs.AfterBadBy layout (scrubs.bare s) frame o k → asked-scrub k ≡ asked-scrub s
    bad frame None is = ap asked-scrub is
    bad frame (Some line) (inl refused) = ap asked-scrub refused
    bad frame (Some line) (inr (spare, room, is)) = ap asked-scrub is ∙ scrub-handled (scrubs.emptied (scrubs.bare s) spare) frame (scrubs.handler_of layout (scrubs.bare s) frame line)

    weak : (frame : Frame) (o : Option ℕ) → scrubs.AfterWeakBy (scrubs.bare s) frame o k → asked-scrub k ≡ asked-scrub s
    weak frame None is = ap asked-scrub is
    weak frame (Some line) (inl refused) = ap asked-scrub refused
    weak frame (Some line) (inr (spare, room, is)) = ap asked-scrub is

    which : (x : ScrubAt) → scrubs.FollowsAt layout (scrubs.bare s) (scrubs.bare_at x) found got k turn → asked-scrub k ≡ asked-scrub s
    which scrub_at.LoadStop next = ap asked-scrub next.0
    which (scrub_at.LoadBad frame) next = bad frame next.0.0 next.0.2
    which (scrub_at.Handle frame h) next = ap asked-scrub next.next_is ∙ scrub-handled (scrubs.bare s) frame next.handler
    which (scrub_at.LoadWeak frame) next = weak frame next.0.0 next.0.2
    which scrub_at.GiveUp next = ap asked-scrub next.0
    which (scrub_at.Over answer) next = ap asked-scrub next.0

abbrev pub asked-log : Log → Who × LocalChange × Banks
asked-log l = (l.read.who, l.change, l.before.value)

pub log-kept : (l : Log) (found : ℕ) → asked-log (logs.next l found) ≡ asked-log l
log-kept l found = which (logs.answer l)
  where
    which : (o : Option ReadStopAnswer) → asked-log (logs.next_by l found o) ≡ asked-log l
    which None = refl
    which (Some answer) = refl

-- ---- a task of its command

-- the same command goes on
pub record GoesOn (j after : Job) : Type 0 where
  pub anew_is : anew after ≡ anew j
  pub before : (kept : Banks) → banks_before after kept ≡ banks_before j kept
  pub fails : can_fail after ≡ can_fail j
  pub collects : collects_now after ≡ collects_now j

pub goes-on : (layout : Layout) (found : ℕ) (got : Option BodyValue) (turn : Turn) (j after : Job) → Next layout (bare j) found got after turn → GoesOn j after
goes-on layout found got turn (jobs.Instruction i) after next = subst (GoesOn (jobs.Instruction i)) (sym next.1) (record {
  anew_is = ap (λ (a : AskedAccess). jobs.Instruction (instructions.begin a.0 a.1 a.2 a.3 a.4 a.5)) (instruction-kept layout i next.0 found got turn next.2);
  before = λ kept. ap (λ (a : AskedAccess). a.4) (instruction-kept layout i next.0 found got turn next.2);
  fails = refl;
  collects = ap (λ (a : AskedAccess). a.5) (instruction-kept layout i next.0 found got turn next.2);
})
goes-on layout found got turn (jobs.Copying c) after next = subst (GoesOn (jobs.Copying c)) (sym next.1) (record {
  anew_is = ap (λ (a : AskedCopy). jobs.Copying (copyings.begin a.0 a.1 a.2 a.3 a.4 a.5 a.6)) (copy-kept layout c next.0 found got turn next.2);
  before = λ kept. ap (λ (a : AskedCopy). a.5) (copy-kept layout c next.0 found got turn next.2);
  fails = refl;
  collects = ap (λ (a : AskedCopy). a.6) (copy-kept layout c next.0 found got turn next.2);
})
goes-on layout found got turn (jobs.Raise r) after next = subst (GoesOn (jobs.Raise r)) (sym next.1) (record {
  anew_is = ap (λ (a : AskedRaise). jobs.Raise (raises.begin a.0 a.1 a.2 a.3 a.4)) (raise-kept layout r next.0 found got turn next.2);
  before = λ kept. ap (λ (a : AskedRaise). a.4) (raise-kept layout r next.0 found got turn next.2);
  fails = refl;
  collects = refl;
})
goes-on layout found got turn (jobs.Scrub s) after next = subst (GoesOn (jobs.Scrub s)) (sym next.1) (record {
  anew_is = ap (λ (a : AskedScrub). jobs.Scrub (scrubs.begin a.0 a.1 a.2 a.3 a.4)) (scrub-kept layout s next.0 found got turn next.2);
  before = λ kept. ap (λ (a : AskedScrub). a.4) (scrub-kept layout s next.0 found got turn next.2);
  fails = refl;
  collects = refl;
})
goes-on layout found got turn (jobs.Log l) after next = subst (GoesOn (jobs.Log l)) (sym next.0) (record {
  anew_is = ap (λ (a : Who × LocalChange × Banks). jobs.Log (logs.begin a.0 a.1 a.2)) (log-kept l found);
  before = λ kept. ap (λ (a : Who × LocalChange × Banks). a.2) (log-kept l found);
  fails = refl;
  collects = refl;
})
goes-on layout found got turn (jobs.Evict e) after next = subst (GoesOn (jobs.Evict e)) (sym next.1) (record { anew_is = ap (λ (x : Evict). anew (jobs.Evict x)) next.2.0; before = λ kept. refl; fails = refl; collects = refl })
goes-on layout found got turn (jobs.Inject i) after next = subst (GoesOn (jobs.Inject i)) (sym next.1) (record { anew_is = ap (λ (x : Inject). anew (jobs.Inject x)) next.2.0; before = λ kept. refl; fails = refl; collects = refl })
goes-on layout found got turn (jobs.Soft s) after next = subst (GoesOn (jobs.Soft s)) (sym next.1) (record { anew_is = ap (λ (x : Soft). anew (jobs.Soft x)) next.2.0; before = λ kept. refl; fails = refl; collects = refl })
goes-on layout found got turn (jobs.Unpoison u) after next = subst (GoesOn (jobs.Unpoison u)) (sym next.0) (record { anew_is = refl; before = λ kept. refl; fails = refl; collects = refl })
goes-on layout found got turn (jobs.Fsync f) after next = subst (GoesOn (jobs.Fsync f)) (sym next.0) (record { anew_is = refl; before = λ kept. refl; fails = refl; collects = refl })
goes-on layout found got turn (jobs.Prctl p) after next = subst (GoesOn (jobs.Prctl p)) (sym next.0) (record { anew_is = refl; before = λ kept. refl; fails = refl; collects = refl })
goes-on layout found got turn (jobs.Denied p) after next = subst (GoesOn (jobs.Denied p)) (sym next.0) (record { anew_is = refl; before = λ kept. refl; fails = refl; collects = refl })
goes-on layout found got turn (jobs.Fork f) after next = subst (GoesOn (jobs.Fork f)) (sym next.0) (record { anew_is = refl; before = λ kept. refl; fails = refl; collects = refl })
goes-on layout found got turn (jobs.Spoil s) after next = subst (GoesOn (jobs.Spoil s)) (sym next.0) (record { anew_is = refl; before = λ kept. refl; fails = refl; collects = refl })
goes-on layout found got turn (jobs.Nested n) after next = subst (GoesOn (jobs.Nested n)) (sym next.0) (record { anew_is = refl; before = λ kept. refl; fails = refl; collects = refl })

pub before-stays : (layout : Layout) (j after : Job) (found : ℕ) (got : Option BodyValue) (turn : Turn) → Next layout (bare j) found got after turn → (kept : Banks) → banks_before after kept ≡ banks_before j kept
before-stays layout j after found got turn next = (goes-on layout found got turn j after next).before

pub can-fail-stays : (layout : Layout) (j after : Job) (found : ℕ) (got : Option BodyValue) (turn : Turn) → Next layout (bare j) found got after turn → can_fail after ≡ can_fail j
can-fail-stays layout j after found got turn next = (goes-on layout found got turn j after next).fails

-- so the command is the same
pub runs-alike : (layout : Layout) (by : Who) (command : Command) (copies : Option VSlot) (j after : Job) → GoesOn j after → Runs layout by command copies j → Runs layout by command copies after
runs-alike layout by command copies j after on (inl denied) = inl (denied.0, subst (IsDenied layout by command copies denied.0) (sym on.anew_is) denied.1)
runs-alike layout by command copies j after on (inr runs) = inr (subst (λ (c : Bool). BeginsAs layout by command copies (banks_before after []) c (anew after)) (sym on.collects)
    (subst (λ (b : Banks). BeginsAs layout by command copies b (collects_now j) (anew after)) (sym (on.before [])) (subst (BeginsAs layout by command copies (banks_before j []) (collects_now j)) (sym on.anew_is) runs)))

pub runs-on : (layout : Layout) (who : Who) (command : Command) (copies : Option VSlot) (j after : Job) (found : ℕ) (got : Option BodyValue) (turn : Turn) → Runs layout who command copies j → Next layout (bare j) found got after turn → Runs layout who command copies after
runs-on layout by command copies j after found got turn runs next = let on = goes-on layout found got turn j after next in
    runs-alike layout by command copies j after on runs

-- and what it answers of an access that its guest doesn't admit
denial-anew : (j : Job) → denial_of (anew j) ≡ denial_of j
denial-anew (jobs.Denied d) = refl
denial-anew _ = refl

-- ---- where it begins

-- an access was told whether its processor collects
abbrev pub IsTold : Bool → Job → Type 0
IsTold collects (jobs.Instruction i) = i.collects ≡ collects
IsTold collects (jobs.Copying c) = c.instruction.collects ≡ collects
IsTold collects _ = Unit {0}

-- a task at the beginning of its command, which its guest doesn't admit where there is an answer that it says
pub record HasBegun (layout : Layout) (by : Who) (command : Command) (copies : Option VSlot) (said : Option Answer) (banks : Banks) (collects : Bool) (j : Job) : Type 0 where
  pub runs : Runs layout by command copies j
  pub denial : denial_of j ≡ said
  pub who_is : who j ≡ by
  pub start : IsAtStop j
  pub before : banks_before j (left_in j banks) ≡ banks
  pub idle : (class j ≡ 4) × (claims j ≡ None)
  pub told : IsTold collects j
  pub within : HasChangeWithin j

has-begun-plain : (layout : Layout) (by : Who) (command : Command) (banks : Banks) (collects : Bool) (j : Job) → Begins layout by command banks collects j → HasBegun layout by command None None banks collects j
has-begun-plain layout by command banks collects j begun = which command begun
  where
    from : (c : Command) (x : Job) → j ≡ x → (Begins layout by c banks collects x → HasBegun layout by c None None banks collects x) → Begins layout by c banks collects j → HasBegun layout by c None None banks collects j
    from c x is has b = subst (HasBegun layout by c None None banks collects) (sym is) (has (subst (Begins layout by c banks collects) is b))

    which : (c : Command) → Begins layout by c banks collects j → HasBegun layout by c None None banks collects j
    which (commands.Load thread slot line) b = from (commands.Load thread slot line) _ b.job_is (λ r. record { runs = inr r; denial = refl; who_is = refl; start = (_, refl, refl, refl); before = refl; idle = (refl, refl); told = refl; within = tt }) b
    which (commands.Fetch thread slot line) b = from (commands.Fetch thread slot line) _ b.job_is (λ r. record { runs = inr r; denial = refl; who_is = refl; start = (_, refl, refl, refl); before = refl; idle = (refl, refl); told = refl; within = tt }) b
    which (commands.KLoad thread slot line) b = from (commands.KLoad thread slot line) _ b.job_is (λ r. record { runs = inr r; denial = refl; who_is = refl; start = (_, refl, refl, refl); before = refl; idle = (refl, refl); told = refl; within = tt }) b
    which (commands.Store thread slot line word) b = from (commands.Store thread slot line word) _ b.job_is (λ r. record { runs = inr r; denial = refl; who_is = refl; start = (_, refl, refl, refl); before = refl; idle = (refl, refl); told = refl; within = tt }) b
    which (commands.Free slot) b = from (commands.Free slot) _ b.1.job_is (λ r. record { runs = inr r; denial = refl; who_is = refl; start = refl; before = refl; idle = (refl, refl); told = tt; within = tt }) b
    which (commands.Drop page) b = from (commands.Drop page) _ b.job_is (λ r. record { runs = inr r; denial = refl; who_is = refl; start = refl; before = refl; idle = (refl, refl); told = tt; within = tt }) b
    which (commands.Sync page) b = from (commands.Sync page) _ b.job_is (λ r. record { runs = inr r; denial = refl; who_is = refl; start = refl; before = refl; idle = (refl, refl); told = tt; within = tt }) b
    which (commands.Out page) b = from (commands.Out page) _ b.job_is (λ r. record { runs = inr r; denial = refl; who_is = refl; start = refl; before = refl; idle = (refl, refl); told = tt; within = tt }) b
    which (commands.Fsync file) b = from (commands.Fsync file) _ b.2 (λ r. record { runs = inr r; denial = refl; who_is = refl; start = refl; before = refl; idle = (refl, refl); told = tt; within = tt }) b
    which (commands.Open file) b = from (commands.Open file) _ b.2 (λ r. record { runs = inr r; denial = refl; who_is = refl; start = refl; before = refl; idle = (refl, refl); told = tt; within = tt }) b
    which (commands.Prctl thread args) b = from (commands.Prctl thread args) _ b.job_is (λ r. record { runs = inr r; denial = refl; who_is = refl; start = refl; before = refl; idle = (refl, refl); told = tt; within = tt }) b
    which (commands.Fork thread child) b = from (commands.Fork thread child) _ b.job_is (λ r. record { runs = inr r; denial = refl; who_is = refl; start = refl; before = refl; idle = (refl, refl); told = tt; within = tt }) b
    which (commands.Bad frame line) b = from (commands.Bad frame line) _ b.job_is (λ r. record { runs = inr r; denial = refl; who_is = refl; start = refl; before = refl; idle = (refl, refl); told = tt; within = tt }) b
    which (commands.Weak frame line) b = from (commands.Weak frame line) _ b.job_is (λ r. record { runs = inr r; denial = refl; who_is = refl; start = refl; before = refl; idle = (refl, refl); told = tt; within = tt }) b
    which (commands.Scrub first last) b = from (commands.Scrub first last) _ b.job_is (λ r. record { runs = inr r; denial = refl; who_is = refl; start = (refl, refl); before = refl; idle = (refl, refl); told = tt; within = tt }) b
    which (commands.Log status addr misc) b = from (commands.Log status addr misc) _ b.job_is (λ r. record { runs = inr r; denial = refl; who_is = refl; start = refl; before = refl; idle = (refl, refl); told = tt; within = r.within }) b
    which (commands.Watch threshold window) b = from (commands.Watch threshold window) _ b.job_is (λ r. record { runs = inr r; denial = refl; who_is = refl; start = refl; before = refl; idle = (refl, refl); told = tt; within = r.within }) b
    which (commands.RaiseUser thread ripv eipv) b = from (commands.RaiseUser thread ripv eipv) _ b.job_is (λ r. record { runs = inr r; denial = refl; who_is = refl; start = (refl, refl); before = refl; idle = (refl, refl); told = tt; within = tt }) b
    which (commands.RaiseKernel ripv eipv) b = from (commands.RaiseKernel ripv eipv) _ b.job_is (λ r. record { runs = inr r; denial = refl; who_is = refl; start = (refl, refl); before = refl; idle = (refl, refl); told = tt; within = tt }) b
    which commands.RaiseNested b = from commands.RaiseNested _ b (λ r. record { runs = inr r; denial = refl; who_is = refl; start = refl; before = refl; idle = (refl, refl); told = tt; within = tt }) b
    which (commands.Inject frame) b = from (commands.Inject frame) _ b.job_is (λ r. record { runs = inr r; denial = refl; who_is = refl; start = refl; before = refl; idle = (refl, refl); told = tt; within = tt }) b
    which (commands.Soft frame) b = from (commands.Soft frame) _ b.job_is (λ r. record { runs = inr r; denial = refl; who_is = refl; start = refl; before = refl; idle = (refl, refl); told = tt; within = tt }) b
    which (commands.Unpoison frame) b = from (commands.Unpoison frame) _ b.job_is (λ r. record { runs = inr r; denial = refl; who_is = refl; start = refl; before = refl; idle = (refl, refl); told = tt; within = tt }) b

copy-begun : (layout : Layout) (by : Who) (command : Command) (from : VSlot) (banks : Banks) (collects : Bool) (j : Job) → BeginsCopy layout by command from banks collects j → HasBegun layout by command (Some from) None banks collects j
copy-begun layout by (commands.Store thread slot line word) from banks collects j begun = subst (HasBegun layout by (commands.Store thread slot line word) (Some from) None banks collects) (sym begun.job_is) (record {
  runs = inr (subst (BeginsCopying layout by thread slot line word from banks collects) begun.job_is begun);
  denial = refl;
  who_is = refl;
  start = (refl, refl, (_, refl, refl, refl));
  before = refl;
  idle = (refl, refl);
  told = refl;
  within = tt;
})
copy-begun layout by command from banks collects j begun = absurd begun

pub as-begun : (layout : Layout) (by : Who) (command : Command) (copies : Option VSlot) (banks : Banks) (collects : Bool) (j : Job) → BeginsAs layout by command copies banks collects j → HasBegun layout by command copies None banks collects j
as-begun layout by command None banks collects j begun = has-begun-plain layout by command banks collects j begun
as-begun layout by command (Some from) banks collects j begun = copy-begun layout by command from banks collects j begun

-- an access that its guest doesn't admit
denied-begun : (layout : Layout) (by : Who) (command : Command) (copies : Option VSlot) (why : Denial) (banks : Banks) (collects : Bool) (j : Job) → IsDenied layout by command copies why j → HasBegun layout by command copies (Some (denial_answer why)) banks collects j
denied-begun layout by command copies why banks collects j begun = subst (HasBegun layout by command copies (Some (denial_answer why)) banks collects) (sym begun.job_is) (record {
  runs = inl (why, subst (IsDenied layout by command copies why) begun.job_is begun);
  denial = refl;
  who_is = refl;
  start = refl;
  before = refl;
  idle = (refl, refl);
  told = tt;
  within = tt;
})

-- no other task is one of such an access
pub runs-admitted : (layout : Layout) (by : Who) (command : Command) (copies : Option VSlot) (j : Job) → RunsAs layout by command copies j → denial_of j ≡ None
runs-admitted layout by command copies j runs = sym (denial-anew j) ∙ (as-begun layout by command copies (banks_before j []) (collects_now j) (anew j) runs).denial

-- a guest that doesn't admit it says so
pub has-begun : (layout : Layout) (by : Who) (command : Command) (copies : Option VSlot) (admit : Admit) (banks : Banks) (collects : Bool) (j : Job) → BeginsWith layout by command copies admit banks collects j → HasBegun layout by command copies (guests.denial admit) banks collects j
has-begun layout by command copies admissions.Yes banks collects j begun = as-begun layout by command copies banks collects j begun
has-begun layout by command copies admissions.Bad banks collects j begun = denied-begun layout by command copies denials.BadFrame banks collects j begun
has-begun layout by command copies admissions.Stopped banks collects j begun = denied-begun layout by command copies denials.Stopped banks collects j begun

-- so is the task that it runs as, begun anew
runs-begun : (layout : Layout) (by : Who) (command : Command) (copies : Option VSlot) (j : Job) → Runs layout by command copies j → (said : Option Answer) × HasBegun layout by command copies said (banks_before j []) (collects_now j) (anew j)
runs-begun layout by command copies j (inl denied) = (Some (denial_answer denied.0), denied-begun layout by command copies denied.0 (banks_before j []) (collects_now j) (anew j) denied.1)
runs-begun layout by command copies j (inr runs) = (None, as-begun layout by command copies (banks_before j []) (collects_now j) (anew j) runs)

pub begins-runs : (layout : Layout) (who : Who) (command : Command) (copies : Option VSlot) (admit : Admit) (banks : Banks) (collects : Bool) (j : Job) → BeginsWith layout who command copies admit banks collects j → Runs layout who command copies j
begins-runs layout by command copies admit banks collects j begun = (has-begun layout by command copies admit banks collects j begun).runs

anew-within : (j : Job) → HasChangeWithin (anew j) → HasChangeWithin j
anew-within (jobs.Log l) within = within
anew-within _ within = tt

-- the numbers of a collector that it begins are within their limits
pub runs-within : (layout : Layout) (by : Who) (command : Command) (copies : Option VSlot) (j : Job) → Runs layout by command copies j → HasChangeWithin j
runs-within layout by command copies j runs = anew-within j (runs-begun layout by command copies j runs).1.within

pub before-begins : (layout : Layout) (who : Who) (command : Command) (copies : Option VSlot) (admit : Admit) (banks : Banks) (collects : Bool) (j : Job) → BeginsWith layout who command copies admit banks collects j → banks_before j (left_in j banks) ≡ banks
before-begins layout by command copies admit banks collects j begun = (has-begun layout by command copies admit banks collects j begun).before

-- the command is the one that is its turn
anew-who : (j : Job) → who (anew j) ≡ who j
anew-who (jobs.Instruction i) = refl
anew-who _ = refl

pub runs-who : (layout : Layout) (by : Who) (command : Command) (copies : Option VSlot) (j : Job) → Runs layout by command copies j → who j ≡ by
runs-who layout by command copies j runs = sym (anew-who j) ∙ (runs-begun layout by command copies j runs).1.who_is

-- ---- a command that may begin

module _ {layout : Layout} {view : View} {who : Who} (rest : AtRest view who) {j : Job} where
  access-fits : {thread : Thread} {slot : VSlot} {line : ℕ} {kind : AccessKind} {origin : Origin} {mode : Mode} {banks : Banks} {collects : Bool} → IsOfAccess origin → BeginsAccess layout who thread slot line kind origin mode banks collects j → FitsFrom [] layout view j
  access-fits {thread} {slot} {line} {kind} {origin} {mode} {banks} {collects} of begun = subst (FitsFrom [] layout view) (sym begun.job_is)
      (instructing.begins layout view (instructions.begin begun.alloc (request_of who thread slot line kind begun.page begun.process) origin mode banks collects) refl rest.on_turn begun.sound begun.names of begun.three rest.hand_is rest.paid rest.made refl)

  eviction-fits : {page : Page} {what : Eviction} → BeginsEviction layout who page what j → FitsFrom [] layout view j
  eviction-fits begun = subst (FitsFrom [] layout view) (sym begun.job_is) (record { on_turn = rest.on_turn; page = begun.within; kind = begun.kind; at = (rest.hand_is, rest.made) })

  prctl-fits : {thread : Thread} {args : PrctlArgs} → BeginsPrctl layout who thread args j → FitsFrom [] layout view j
  prctl-fits {thread} begun = subst (FitsFrom [] layout view) (sym begun.job_is) (
    refl,
    record {
      on_turn = rest.on_turn;
      hand_is = rest.hand_is;
      made = rest.made;
      decl = begun.decl;
      declared = begun.declared;
      own = begun.own;
      process_is = refl;
      process = begun.within;
      at = rest.left thread;
    },
  )

  denied-fits : {command : Command} {copies : Option VSlot} {why : Denial} → IsDenied layout who command copies why j → FitsFrom [] layout view j
  denied-fits begun = subst (FitsFrom [] layout view) (sym begun.job_is) (refl, record { on_turn = rest.on_turn; hand_is = rest.hand_is; made = rest.made; process = begun.within; at = tt })

  fork-fits : {thread : Thread} {child : Proc} → BeginsFork layout who thread child j → IsFresh layout view who thread child → FitsFrom [] layout view j
  fork-fits {thread} {child} begun fresh = subst (FitsFrom [] layout view) (sym begun.job_is) (
    refl,
    record {
      on_turn = rest.on_turn;
      hand_is = rest.hand_is;
      made = rest.made;
      decl = begun.decl;
      declared = begun.declared;
      own = begun.own;
      process_is = refl;
      process = begun.within;
      targets = are-targets layout who thread child begun.targets begun.few begun.room begun.listed (λ t d declared of. (fresh t d declared of).0);
      at = λ n t from is. let d = of-child layout child begun.targets begun.listed n t is in (fresh t d.0 d.1 d.2).1;
    },
  )

  copy-fits : {thread : Thread} {slot from : VSlot} {line word : ℕ} {banks : Banks} {collects : Bool} → BeginsCopying layout who thread slot line word from banks collects j → FitsFrom [] layout view j
  copy-fits {thread} {slot} {from} {line} {word} {banks} {collects} begun = subst (FitsFrom [] layout view) (sym begun.job_is)
      (copy_ends.begins [] layout view begun.alloc (request_of who thread slot line (kinds.Store word) begun.page begun.process) word from begun.copied banks collects rest.on_turn begun.sound begun.names begun.own refl begun.three rest.hand_is rest.paid rest.made refl)

  spoil-fits : {frame : Frame} {line : ℕ} {damage : Damage} → BeginsSpoil layout who frame line damage j → FitsFrom [] layout view j
  spoil-fits begun = subst (FitsFrom [] layout view) (sym begun.job_is) (refl, record { on_turn = rest.on_turn; hand_is = rest.hand_is; made = rest.made; frame = begun.within; at = tt })

  log-fits : {change : LocalChange} {banks : Banks} → BeginsLog layout who change banks j → FitsFrom [] layout view j
  log-fits begun = subst (FitsFrom [] layout view) (sym begun.job_is) (refl, record { read = record { on_turn = rest.on_turn; hand_is = rest.hand_is; made = rest.made; at = tt }; three = begun.three; banks_are = refl })

  raise-user-fits : {thread : Thread} {mcg : McgBits} {banks : Banks} → BeginsRaiseUser layout who thread mcg banks j → FitsFrom [] layout view j
  raise-user-fits begun = subst (FitsFrom [] layout view) (sym begun.job_is) (
    refl,
    record {
      on_turn = rest.on_turn;
      sound = begun.sound;
      raiser = record { decl = begun.decl; declared = begun.declared; process_is = refl; process = begun.within };
      three = begun.three;
      at = record { rest = record { hand_is = rest.hand_is; paid = rest.paid }; unchecked = record { told_none = refl; banks_are = refl; made = rest.made } };
    },
  )

  raise-kernel-fits : {mcg : McgBits} {banks : Banks} → BeginsRaiseKernel layout who mcg banks j → FitsFrom [] layout view j
  raise-kernel-fits begun = subst (FitsFrom [] layout view) (sym begun.job_is) (
    refl,
    record {
      on_turn = rest.on_turn;
      sound = begun.sound;
      raiser = tt;
      three = begun.three;
      at = record { rest = record { hand_is = rest.hand_is; paid = rest.paid }; unchecked = record { told_none = refl; banks_are = refl; made = rest.made } };
    },
  )

  scrub-fits : {first last : Frame} {banks : Banks} → BeginsScrub layout who first last banks j → AreBanks banks → FitsFrom [] layout view j
  scrub-fits {first} {last} {banks} begun free = subst (FitsFrom [] layout view) (sym begun.job_is)
      (refl, scrubbing.begins layout view (scrubs.begin begun.alloc who first last banks) refl rest.on_turn begun.sound begun.frames free (record { hand_is = rest.hand_is; paid = rest.paid }) rest.made)

  inject-fits : {frame : Frame} → BeginsInject layout who frame j → FitsFrom [] layout view j
  inject-fits begun = subst (FitsFrom [] layout view) (sym begun.job_is) (
    refl,
    record {
      on_turn = rest.on_turn;
      sound = begun.sound;
      frame = begun.within;
      at = record { hand_is = rest.hand_is; paid = rest.paid; made = rest.made; unmarked = rest.unmarked };
    },
  )

  soft-fits : {frame : Frame} → BeginsSoft layout who frame j → FitsFrom [] layout view j
  soft-fits begun = subst (FitsFrom [] layout view) (sym begun.job_is) (record { on_turn = rest.on_turn; frame = begun.within; at = (rest.hand_is, rest.made) })

  unpoison-fits : {frame : Frame} → BeginsUnpoison layout who frame j → FitsFrom [] layout view j
  unpoison-fits begun = subst (FitsFrom [] layout view) (sym begun.job_is) (refl, record { on_turn = rest.on_turn; hand_is = rest.hand_is; made = rest.made; frame = begun.within; at = rest.revivals })

fsync-fits : (layout : Layout) (view : View) (who : Who) (file : FileNo) (opens : Bool) (j : Job) → BeginsFsync layout who file opens j → AtRest view who → KnowsHandle view j → FitsFrom [] layout view j
fsync-fits layout view who file opens j begun rest known = subst (FitsFrom [] layout view) (sym begun.2) (
  refl,
  record {
    on_turn = rest.on_turn;
    file = begun.0;
    hand_is = rest.hand_is;
    paid = rest.paid;
    made_none = rest.made;
    handle = subst (KnowsHandle view) begun.2 known;
    at = tt;
  },
)

plain-fits : (layout : Layout) (view : View) (who : Who) (command : Command) (banks : Banks) (collects : Bool) (j : Job) → Begins layout who command banks collects j → AreBanks banks → AtRest view who → KnowsHandle view j → CanFork layout view who command → FitsFrom [] layout view j
plain-fits layout view by (commands.Load thread slot line) banks collects j begun free rest known fresh = access-fits rest tt begun
plain-fits layout view by (commands.Fetch thread slot line) banks collects j begun free rest known fresh = access-fits rest tt begun
plain-fits layout view by (commands.KLoad thread slot line) banks collects j begun free rest known fresh = access-fits rest tt begun
plain-fits layout view by (commands.Store thread slot line word) banks collects j begun free rest known fresh = access-fits rest tt begun
plain-fits layout view by (commands.Free slot) banks collects j begun free rest known fresh = eviction-fits rest begun.1
plain-fits layout view by (commands.Drop page) banks collects j begun free rest known fresh = eviction-fits rest begun
plain-fits layout view by (commands.Sync page) banks collects j begun free rest known fresh = eviction-fits rest begun
plain-fits layout view by (commands.Out page) banks collects j begun free rest known fresh = eviction-fits rest begun
plain-fits layout view by (commands.Fsync file) banks collects j begun free rest known fresh = fsync-fits layout view by file false j begun rest known
plain-fits layout view by (commands.Open file) banks collects j begun free rest known fresh = fsync-fits layout view by file true j begun rest known
plain-fits layout view by (commands.Prctl thread args) banks collects j begun free rest known fresh = prctl-fits rest begun
plain-fits layout view by (commands.Fork thread child) banks collects j begun free rest known fresh = fork-fits rest begun fresh
plain-fits layout view by (commands.Bad frame line) banks collects j begun free rest known fresh = spoil-fits rest begun
plain-fits layout view by (commands.Weak frame line) banks collects j begun free rest known fresh = spoil-fits rest begun
plain-fits layout view by (commands.Scrub first last) banks collects j begun free rest known fresh = scrub-fits rest begun free
plain-fits layout view by (commands.Log status addr misc) banks collects j begun free rest known fresh = log-fits rest begun
plain-fits layout view by (commands.Watch threshold window) banks collects j begun free rest known fresh = log-fits rest begun
plain-fits layout view by (commands.RaiseUser thread ripv eipv) banks collects j begun free rest known fresh = raise-user-fits rest begun
plain-fits layout view by (commands.RaiseKernel ripv eipv) banks collects j begun free rest known fresh = raise-kernel-fits rest begun
plain-fits layout view by (commands.Inject frame) banks collects j begun free rest known fresh = inject-fits rest begun
plain-fits layout view by (commands.Soft frame) banks collects j begun free rest known fresh = soft-fits rest begun
plain-fits layout view by commands.RaiseNested banks collects j begun free rest known fresh = subst (FitsFrom [] layout view) (sym begun) (refl, record { on_turn = rest.on_turn; hand_is = rest.hand_is; made = rest.made; at = tt })
plain-fits layout view by (commands.Unpoison frame) banks collects j begun free rest known fresh = unpoison-fits rest begun

copying-fits : (layout : Layout) (view : View) (who : Who) (command : Command) (from : VSlot) (banks : Banks) (collects : Bool) (j : Job) → BeginsCopy layout who command from banks collects j → AtRest view who → FitsFrom [] layout view j
copying-fits layout view by (commands.Store thread slot line word) from banks collects j begun rest = copy-fits rest begun
copying-fits layout view by command from banks collects j begun rest = absurd begun

pub begins-fits : (layout : Layout) (view : View) (who : Who) (command : Command) (copies : Option VSlot) (admit : Admit) (banks : Banks) (collects : Bool) (j : Job) → BeginsWith layout who command copies admit banks collects j → AreBanks banks → AtRest view who → KnowsHandle view j → CanFork layout view who command → FitsFrom [] layout view j
begins-fits layout view by command copies admissions.Bad banks collects j begun free rest known fresh = denied-fits rest begun
begins-fits layout view by command copies admissions.Stopped banks collects j begun free rest known fresh = denied-fits rest begun
begins-fits layout view by command None admissions.Yes banks collects j begun free rest known fresh = plain-fits layout view by command banks collects j begun free rest known fresh
begins-fits layout view by command (Some from) admissions.Yes banks collects j begun free rest known fresh = copying-fits layout view by command from banks collects j begun rest
