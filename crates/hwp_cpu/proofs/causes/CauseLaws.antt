-- A command that is answered is answered for a reason.
use Rattle.std.proofs.Common.{◌≡◌, ℕ, List, Option, None, Some, [], inl, inr, subst}
use Rattle.hwp_law_served.specs.hwp_geom.declared.Layout.{Layout}
use Rattle.hwp_law_served.specs.hwp_geom.declared.Thread.{Thread}
use Rattle.hwp_law_served.specs.hwp_geom.declared.VSlot.{VSlot}
use Rattle.hwp_law_served.specs.hwp_geom.declared.Who.{Who}
use Rattle.hwp_law_served.specs.hwp_core_rule.declared.Made.{Made}
use Rattle.hwp_law_served.specs.hwp_core_rule.declared.View.{View}
use Rattle.hwp_law_served.specs.hwp_script_words.declared.Command.{Command}
use Rattle.hwp_law_served.specs.hwp_script_words.declared.Command.TheVariants as commands
use Rattle.hwp_law_served.specs.hwp_report_text.declared.Answer.{Answer}
use Rattle.hwp_law_served.specs.hwp_banks.Banks.{Banks}
use Rattle.hwp_law_served.specs.hwp_law.Settings.{settings}
use Rattle.hwp_cpu_command.specs.declared.Job.{Job}
use Rattle.hwp_cpu_command.specs.FileHandles.{HasHandle}
use Rattle.hwp_cpu_command.specs.Jobs.{FitsFrom, answer, banks_before, own_of, told_of}
use Rattle.hwp_cpu_command.specs.Runs.{Runs, RunsAs}
use Rattle.hwp_cpu_command.specs.Settings.{AreCounted}
use Rattle.hwp_law_served.specs.Causes.{IsAnswerCaused, IsCausedWith, IsCopyingCaused}
use Rattle.hwp_cpu.specs.Beside.{ArePrior, ArePriorWith}
use Rattle.hwp_cpu.proofs.causes.AccessCauses.{fetch-caused, kload-caused, knows-access, load-caused, store-caused}
use Rattle.hwp_cpu.proofs.causes.CallCauses.{fsync-caused, knows-losses, log-caused, nested-caused, open-caused, prctl-caused, spoil-caused, watch-caused}
use Rattle.hwp_cpu.proofs.causes.CopyCauses.{copy-caused, knows-copy}
use Rattle.hwp_cpu.proofs.causes.ForkCauses.{fork-caused, knows-fork}
use Rattle.hwp_cpu.proofs.causes.DeniedCauses.{denied-caused, knows-denied}
use Rattle.hwp_cpu.proofs.causes.InjectCauses.{inject-caused, knows-failure}
use Rattle.hwp_cpu.proofs.causes.EvictCauses.{drop-caused, free-caused, knows-eviction, out-caused, sync-caused}
use Rattle.hwp_cpu.proofs.causes.OfflineCauses.{knows-soft, soft-caused}
use Rattle.hwp_cpu.proofs.causes.RaiseCauses.{kernel-caused, knows-kernel-raise, knows-user-raise, user-caused}
use Rattle.hwp_cpu.proofs.causes.ScrubCauses.{knows-scrub, scrub-caused}
use Rattle.hwp_cpu.proofs.causes.UnpoisonCauses.{knows-unpoison, unpoison-caused}

-- a command that is no access had made nothing before
pub from-none : {base : List Made} (layout : Layout) (view : View) (j : Job) → base ≡ [] → FitsFrom base layout view j → FitsFrom [] layout view j
from-none layout view j none fits = subst (λ (made : List Made). FitsFrom made layout view j) none fits

-- of a command that copies nothing
plain-caused : (layout : Layout) (earlier : List (Command × Answer)) (view : View) (who : Who) (command : Command) (j : Job) {a : Answer} (base : List Made) → RunsAs layout who command None j → FitsFrom base layout view j → ArePrior layout command base → answer j ≡ Some a
    → AreCounted (λ (t : Thread). settings layout t earlier) view j → (handles : List ℕ) → HasHandle handles j → IsAnswerCaused layout earlier view who command (told_of j) (own_of j) a
plain-caused layout earlier view who (commands.Load thread slot line) j base runs fits prior is counted handles has = load-caused earlier (own_of j) (knows-access j runs fits is) prior
plain-caused layout earlier view who (commands.Fetch thread slot line) j base runs fits prior is counted handles has = fetch-caused earlier (own_of j) (knows-access j runs fits is) prior
plain-caused layout earlier view who (commands.KLoad thread slot line) j base runs fits prior is counted handles has = kload-caused earlier (own_of j) (knows-access j runs fits is) prior
plain-caused layout earlier view who (commands.Store thread slot line word) j base runs fits prior is counted handles has = store-caused earlier (own_of j) (knows-access j runs fits is) prior
plain-caused layout earlier view who (commands.Free slot) j base runs fits prior is counted handles has = free-caused earlier (told_of j) (own_of j) runs.1.kind (knows-eviction j runs.1 (from-none layout view j prior fits) is)
plain-caused layout earlier view who (commands.Drop page) j base runs fits prior is counted handles has = drop-caused earlier (told_of j) (own_of j) (knows-eviction j runs (from-none layout view j prior fits) is)
plain-caused layout earlier view who (commands.Sync page) j base runs fits prior is counted handles has = sync-caused earlier (told_of j) (own_of j) (knows-eviction j runs (from-none layout view j prior fits) is)
plain-caused layout earlier view who (commands.Out page) j base runs fits prior is counted handles has = out-caused earlier (told_of j) (own_of j) (knows-eviction j runs (from-none layout view j prior fits) is)
plain-caused layout earlier view who (commands.Fsync file) j base runs fits prior is counted handles has = fsync-caused earlier (told_of j) (own_of j) (knows-losses j runs (from-none layout view j prior fits) is handles has)
plain-caused layout earlier view who (commands.Open file) j base runs fits prior is counted handles has = open-caused earlier (told_of j) (own_of j) (knows-losses j runs (from-none layout view j prior fits) is handles has)
plain-caused layout earlier view who (commands.Prctl thread args) j base runs fits prior is counted handles has = prctl-caused earlier view (told_of j) (own_of j) j runs (from-none layout view j prior fits) is counted
plain-caused layout earlier view who (commands.Fork thread child) j base runs fits prior is counted handles has = fork-caused earlier (told_of j) (own_of j) (knows-fork j runs (from-none layout view j prior fits) is)
plain-caused layout earlier view who (commands.Bad frame line) j base runs fits prior is counted handles has = spoil-caused layout earlier view (told_of j) (own_of j) j runs (from-none layout view j prior fits) is
plain-caused layout earlier view who (commands.Weak frame line) j base runs fits prior is counted handles has = spoil-caused layout earlier view (told_of j) (own_of j) j runs (from-none layout view j prior fits) is
plain-caused layout earlier view who (commands.Scrub first last) j base runs fits prior is counted handles has = scrub-caused (knows-scrub j runs (from-none layout view j prior fits) is) earlier (own_of j)
plain-caused layout earlier view who (commands.Log status addr misc) j base runs fits prior is counted handles has = log-caused layout earlier view (told_of j) (own_of j) j runs (from-none layout view j prior fits) is
plain-caused layout earlier view who (commands.Watch threshold window) j base runs fits prior is counted handles has = watch-caused layout earlier view (told_of j) (own_of j) j runs (from-none layout view j prior fits) is
plain-caused layout earlier view who (commands.RaiseUser thread ripv eipv) j base runs fits prior is counted handles has = user-caused earlier ripv eipv (own_of j) (knows-user-raise j runs (from-none layout view j prior fits) is)
plain-caused layout earlier view who (commands.RaiseKernel ripv eipv) j base runs fits prior is counted handles has = kernel-caused earlier ripv eipv (own_of j) (knows-kernel-raise j runs (from-none layout view j prior fits) is)
plain-caused layout earlier view who commands.RaiseNested j base runs fits prior is counted handles has = nested-caused layout earlier view (told_of j) (own_of j) j runs (from-none layout view j prior fits) is
plain-caused layout earlier view who (commands.Inject frame) j base runs fits prior is counted handles has = inject-caused earlier (told_of j) j (knows-failure j runs (from-none layout view j prior fits) is)
plain-caused layout earlier view who (commands.Soft frame) j base runs fits prior is counted handles has = soft-caused earlier (told_of j) j (knows-soft j runs (from-none layout view j prior fits) is)
plain-caused layout earlier view who (commands.Unpoison frame) j base runs fits prior is counted handles has = unpoison-caused earlier (told_of j) j (knows-unpoison j runs (from-none layout view j prior fits) is)

-- of a store that copies
copying-caused : (layout : Layout) (view : View) (who : Who) (command : Command) (from : VSlot) (j : Job) {a : Answer} (kept : Banks) → RunsAs layout who command (Some from) j → FitsFrom [] layout view j → answer j ≡ Some a → IsCopyingCaused layout from view who command (banks_before j kept) (told_of j) a
copying-caused layout view who (commands.Store thread slot line word) from j kept runs fits is = copy-caused (knows-copy j runs fits is) kept
copying-caused layout view who command from j kept runs fits is = absurd runs

pub caused : (layout : Layout) (earlier : List (Command × Answer)) (copied : Option VSlot) (view : View) (who : Who) (command : Command) (j : Job) {a : Answer} (base : List Made) (kept : Banks) → Runs layout who command copied j → FitsFrom base layout view j → ArePriorWith layout command copied base
    → answer j ≡ Some a → AreCounted (λ (t : Thread). settings layout t earlier) view j → (handles : List ℕ) → HasHandle handles j → IsCausedWith layout earlier copied view who command (banks_before j kept) (told_of j) (own_of j) a
caused layout earlier copied view who command j base kept (inl denied) fits prior is counted handles has = denied-caused earlier copied j kept (knows-denied base j denied fits is)
caused layout earlier None view who command j base kept (inr runs) fits prior is counted handles has = plain-caused layout earlier view who command j base runs fits prior is counted handles has
caused layout earlier (Some from) view who command j base kept (inr runs) fits prior is counted handles has = copying-caused layout view who command from j kept runs (from-none layout view j prior fits) is
