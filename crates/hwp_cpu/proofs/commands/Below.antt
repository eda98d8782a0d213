-- The turns of a command are few.
use Rattle.std.proofs.Common.{◌≡◌, ℕ, ◌+◌, ◌*◌, ◌<◌, ◌≤◌, Bool, false, true, Option, Some, None, length, sym, subst, arith}
use Rattle.hwp_cpu_command.specs.hwp_geom.declared.Layout.{Layout}
use Rattle.hwp_cpu_command.specs.hwp_geom.declared.Mode.{Mode}
use Rattle.hwp_cpu_command.specs.hwp_geom.declared.Thread.{Thread}
use Rattle.hwp_cpu_command.specs.hwp_geom.declared.VSlot.{VSlot}
use Rattle.hwp_cpu_command.specs.hwp_geom.declared.Who.{Who}
use Rattle.hwp_cpu_command.specs.hwp_banks.declared.Origin.{Origin}
use Rattle.hwp_cpu_command.specs.hwp_banks.Events.{bank_count}
use Rattle.hwp_cpu_command.specs.hwp_claim.hwp_guest.declared.Admit.{Admit}
use Rattle.hwp_cpu_command.specs.hwp_claim.hwp_guest.declared.Admit.TheVariants as admissions
use Rattle.hwp_cpu_command.specs.hwp_cpu_control.declared.Denial.{Denial}
use Rattle.hwp_cpu_command.specs.hwp_cpu_control.declared.Denial.TheVariants as denials
use Rattle.hwp_cpu_command.specs.hwp_script_words.declared.Command.{Command}
use Rattle.hwp_cpu_command.specs.hwp_script_words.declared.Command.TheVariants as commands
use Rattle.hwp_cpu_command.specs.hwp_core_rule.declared.State.{State}
use Rattle.hwp_cpu_command.specs.hwp_core_rule.declared.View.{View}
use Rattle.hwp_cpu_command.specs.hwp_core_rule.Rule.{Holds}
use Rattle.hwp_cpu_command.specs.hwp_core_rule.Words.{Words}
use Rattle.hwp_cpu_command.specs.hwp_core_rule.Ranks.{words_at, again_most, failure_weight, free_room}
use Rattle.hwp_cpu_command.proofs.of_hwp_cpu_control.DeniedLaws as denying
use Rattle.hwp_cpu_command.proofs.of_hwp_cpu_control.PrctlLaws as calling
use Rattle.hwp_cpu_command.proofs.of_hwp_cpu_control.ForkLaws as forking
use Rattle.hwp_cpu_command.proofs.of_hwp_cpu_control.NestedLaws as nesting
use Rattle.hwp_cpu_command.proofs.of_hwp_cpu_control.ReadStopLaws as reading
use Rattle.hwp_cpu_command.proofs.of_hwp_cpu_control.SpoilLaws as spoiling
use Rattle.hwp_cpu_command.specs.hwp_evict.declared.Eviction.TheVariants as evictions
use Rattle.hwp_cpu_command.specs.hwp_evict.Evicts as evicts
use Rattle.hwp_cpu_command.specs.hwp_evict.Fsyncs as fsyncs
use Rattle.hwp_cpu_command.proofs.of_hwp_evict.EvictCosts.{evict-below}
use Rattle.hwp_cpu_command.proofs.of_hwp_evict.FsyncLaws.{fsync-below}
use Rattle.hwp_cpu_command.specs.hwp_claim.declared.fail.Fail.{Fail}
use Rattle.hwp_cpu_command.specs.hwp_claim.declared.inject.InjectAt.TheVariants as inject_at
use Rattle.hwp_cpu_command.specs.hwp_claim.Fails as fails
use Rattle.hwp_cpu_command.specs.hwp_claim.Injects as injects
use Rattle.hwp_cpu_command.proofs.of_hwp_claim.InjectRank.{inject-below}
use Rattle.hwp_cpu_command.specs.hwp_fault.declared.AccessKind.{AccessKind}
use Rattle.hwp_cpu_command.specs.hwp_fault.declared.AccessKind.TheVariants as access_kinds
use Rattle.hwp_cpu_command.specs.hwp_fault.Accesses as accesses
use Rattle.hwp_cpu_command.specs.hwp_claim.declared.Handler.{Handler}
use Rattle.hwp_cpu_command.specs.hwp_claim.declared.handler.HandlerAt.{HandlerAt}
use Rattle.hwp_cpu_command.specs.hwp_claim.declared.handler.HandlerAt.TheVariants as handler_at
use Rattle.hwp_cpu_command.specs.hwp_claim.Handlers as handlers
use Rattle.hwp_cpu_command.specs.hwp_cpu_access.declared.Instruction.{Instruction}
use Rattle.hwp_cpu_command.specs.hwp_cpu_access.Costs as instruction_costs
use Rattle.hwp_cpu_command.specs.hwp_cpu_access.Instructions as instructions
use Rattle.hwp_cpu_command.proofs.of_hwp_cpu_access.InstructionCosts.{again-cost, few-frees, held-most, instruction-below, left-few}
use Rattle.hwp_cpu_command.specs.hwp_cpu_access.declared.Copying.{Copying}
use Rattle.hwp_cpu_command.specs.hwp_cpu_access.Copyings as copyings
use Rattle.hwp_cpu_command.proofs.of_hwp_cpu_access.CopyRank.{copy-below}
use Rattle.hwp_cpu_command.specs.hwp_banks.Banks.{Banks}
use Rattle.hwp_cpu_command.specs.hwp_scrub.declared.Raise.{Raise}
use Rattle.hwp_cpu_command.specs.hwp_scrub.declared.raise.RaiseAt.{RaiseAt}
use Rattle.hwp_cpu_command.specs.hwp_scrub.declared.raise.RaiseAt.TheVariants as raise_at
use Rattle.hwp_cpu_command.specs.hwp_scrub.RaiseCosts as raise_costs
use Rattle.hwp_cpu_command.specs.hwp_scrub.RaiseFits as raise_fits
use Rattle.hwp_cpu_command.proofs.of_hwp_scrub.ScrubRank.{scrub-below}
use Rattle.hwp_cpu_command.specs.hwp_soft.Softs as softs
use Rattle.hwp_cpu_command.proofs.of_hwp_soft.SoftRank.{soft-small}
use Rattle.hwp_cpu_command.specs.hwp_soft.Unpoisons as unpoisons
use Rattle.hwp_cpu_command.proofs.of_hwp_soft.UnpoisonCosts.{small as unpoison-small}
use Rattle.hwp_cpu_command.specs.declared.job.Job.{Job}
use Rattle.hwp_cpu_command.specs.declared.job.Job.TheVariants as jobs
use Rattle.hwp_cpu_command.specs.Begins.{Begins, BeginsAccess, BeginsCopy, BeginsWith, IsDenied, request_of}
use Rattle.hwp_cpu_command.specs.Jobs.{Fits, cost}
use Rattle.hwp_cpu_command.specs.hwp_geom.Limits.{frame_limit}

-- ---- a machine check

fail-few : (f : Fail) (w : Words) → fails.cost f w ≤ fails.fail_most
fail-few f w = inject-below (record { alloc = f.alloc; who = f.who; frame = f.frame; at = inject_at.Fail f }) w

handler-few : (h : Handler) (w : Words) → length h.events.left ≤ bank_count → handlers.cost h w ≤ handlers.handler_most
handler-few h w few = which h.at
  where
    which : (x : HandlerAt) → handlers.cost_with (length h.events.left) x w ≤ handlers.handler_most
    which handler_at.Stop = omega arith
    which (handler_at.Fail f) = let most : fails.cost f w ≤ fails.fail_most = fail-few f w in omega (arith, few, most)
    which handler_at.GaveUp = omega arith
    which (handler_at.Over stopped) = omega arith

raise-below : (layout : Layout) (view : View) (r : Raise) (w : Words) → raise_fits.Fits layout view r → raise_costs.cost r w < failure_weight
raise-below layout view r w fits = which r.at fits.at
  where
    which : (x : RaiseAt) → raise_fits.FitsAt layout view r x → raise_costs.cost_at x w < failure_weight
    which raise_at.LoadStop has = omega arith
    which (raise_at.LoadProcess raiser) has = omega arith
    which (raise_at.Handle h) has = let most : handlers.cost h w ≤ handlers.handler_most = handler-few h w (left-few h has.0.handler.found.few) in omega (arith, most)
    which raise_at.GiveUp has = omega arith
    which (raise_at.Over answer) has = omega arith

-- ---- a command that runs

wider : {n : ℕ} → n < failure_weight → n < 131 * failure_weight
wider {n} less = let few : n < failure_weight = less in omega (arith, few)

-- far fewer than a command weighs: so a command of many parts weighs no more
pub job-few : (layout : Layout) (a : State) (view : View) (j : Job) → Holds layout a → Fits layout view j → cost j (words_at layout a) < 131 * failure_weight
job-few layout a view (jobs.Instruction i) rule fits = wider (instruction-below layout a view i rule fits.1)
job-few layout a view (jobs.Copying c) rule fits = copy-below layout a view c rule fits.1
job-few layout a view (jobs.Evict e) rule fits = wider (evict-below (words_at layout a) e)
job-few layout a view (jobs.Fsync f) rule fits = let most = fsync-below f (words_at layout a) in omega (arith, most)
job-few layout a view (jobs.Prctl p) rule fits = let most = calling.small p in omega (arith, most)
job-few layout a view (jobs.Denied p) rule fits = let most = denying.small p in omega (arith, most)
job-few layout a view (jobs.Fork f) rule fits = let most = forking.small f in let few = fits.1.1.targets.few in omega (arith, most, few)
job-few layout a view (jobs.Log l) rule fits = let most = reading.small l.read in omega (arith, most)
job-few layout a view (jobs.Raise r) rule fits = wider (raise-below layout view r (words_at layout a) fits.1.1)
job-few layout a view (jobs.Scrub c) rule fits = wider (scrub-below layout view c (words_at layout a) fits.1.1)
job-few layout a view (jobs.Spoil s) rule fits = let most = spoiling.small s in omega (arith, most)
job-few layout a view (jobs.Nested n) rule fits = let most = nesting.small n in omega (arith, most)
job-few layout a view (jobs.Inject i) rule fits = let most = inject-below i (words_at layout a) in omega (arith, most)
job-few layout a view (jobs.Soft s) rule fits = let most : softs.cost s (words_at layout a) ≤ softs.soft_most = soft-small layout a s rule in omega (arith, most)
job-few layout a view (jobs.Unpoison u) rule fits = let most : unpoisons.cost u (words_at layout a) ≤ unpoisons.unpoison_most = unpoison-small u (words_at layout a) in omega (arith, most)

-- ---- and one that begins

access-begins : {layout : Layout} {by : Who} {thread : Thread} {slot : VSlot} {line : ℕ} {kind : AccessKind} {origin : Origin} {mode : Mode} {banks : Banks} {collects : Bool} {j : Job} (w : Words) → length w.frees ≤ free_room → BeginsAccess layout by thread slot line kind origin mode banks collects j → cost j w < 131 * failure_weight
access-begins {layout} {by} {thread} {slot} {line} {kind} {origin} {mode} {banks} {collects} {j} w few begun = subst (λ (x : Job). cost x w < 131 * failure_weight) (sym begun.job_is)
    (let most : accesses.cost (accesses.again i.request) w ≤ again_most + 1 = again-cost i w few in
    let held : instruction_costs.held_cost banks ≤ instruction_costs.paused_cost = held-most banks in
    omega (arith, most, held))
  where
    i : Instruction
    i = instructions.begin begun.alloc (request_of by thread slot line kind begun.page begun.process) origin mode banks collects

plain-few : (layout : Layout) (a : State) (by : Who) (command : Command) (banks : Banks) (collects : Bool) (j : Job) → Holds layout a → Begins layout by command banks collects j → cost j (words_at layout a) < 131 * failure_weight
plain-few layout a by command banks collects j rule begun = which command begun
  where
    w : Words
    w = words_at layout a

    below : {x : Job} → j ≡ x → cost x w < 131 * failure_weight → cost j w < 131 * failure_weight
    below is less = subst (λ (x : Job). cost x w < 131 * failure_weight) (sym is) less

    which : (c : Command) → Begins layout by c banks collects j → cost j w < 131 * failure_weight
    which (commands.Load thread slot line) b = access-begins w (few-frees layout a rule) b
    which (commands.Fetch thread slot line) b = access-begins w (few-frees layout a rule) b
    which (commands.KLoad thread slot line) b = access-begins w (few-frees layout a rule) b
    which (commands.Store thread slot line word) b = access-begins w (few-frees layout a rule) b
    which (commands.Free slot) b = below b.1.job_is (wider (evict-below w (evicts.begin by b.0 (evictions.Free slot))))
    which (commands.Drop page) b = below b.job_is (wider (evict-below w (evicts.begin by page evictions.Drop)))
    which (commands.Sync page) b = below b.job_is (wider (evict-below w (evicts.begin by page evictions.Sync)))
    which (commands.Out page) b = below b.job_is (wider (evict-below w (evicts.begin by page evictions.Out)))
    which (commands.Fsync file) b = below b.2 (let most = fsync-below (fsyncs.begin by file b.1 false) w in omega (arith, most))
    which (commands.Open file) b = below b.2 (let most = fsync-below (fsyncs.begin by file b.1 true) w in omega (arith, most))
    which (commands.Prctl thread args) b = below b.job_is (omega arith)
    which (commands.Fork thread child) b = below b.job_is (let few = b.few in omega (arith, few))
    which (commands.Bad frame line) b = below b.job_is (omega arith)
    which (commands.Weak frame line) b = below b.job_is (omega arith)
    which (commands.Scrub first last) b = below b.job_is (let frames : layout.frames ≤ frame_limit = b.sound.frames in let within : last.0 < layout.frames = b.frames.within in omega (arith, frames, within))
    which (commands.Log status addr misc) b = below b.job_is (omega arith)
    which (commands.Watch threshold window) b = below b.job_is (omega arith)
    which (commands.RaiseUser thread ripv eipv) b = below b.job_is (omega arith)
    which (commands.RaiseKernel ripv eipv) b = below b.job_is (omega arith)
    which commands.RaiseNested b = below b (omega arith)
    which (commands.Inject frame) b = below b.job_is (let most = inject-below (injects.begin b.alloc by frame) w in omega (arith, most))
    which (commands.Soft frame) b = below b.job_is (omega arith)
    which (commands.Unpoison frame) b = below b.job_is (omega arith)

-- a copy begins with its first access, and has 129 before it
copy-few : (layout : Layout) (a : State) (by : Who) (command : Command) (from : VSlot) (banks : Banks) (collects : Bool) (j : Job) → Holds layout a → BeginsCopy layout by command from banks collects j → cost j (words_at layout a) < 131 * failure_weight
copy-few layout a by (commands.Store thread slot line word) from banks collects j rule b = subst (λ (x : Job). cost x (words_at layout a) < 131 * failure_weight) (sym b.job_is)
    (let most : accesses.cost (accesses.again c.instruction.request) (words_at layout a) ≤ again_most + 1 = again-cost c.instruction (words_at layout a) (few-frees layout a rule) in
    let held : instruction_costs.held_cost banks ≤ instruction_costs.paused_cost = held-most banks in
    omega (arith, most, held))
  where
    c : Copying
    c = copyings.begin b.alloc (request_of by thread slot line (access_kinds.Store word) b.page b.process) word from b.copied banks collects
copy-few layout a by command from banks collects j rule b = absurd b

-- one that its guest doesn't admit looks twice
denied-few : (layout : Layout) (a : State) (by : Who) (command : Command) (copies : Option VSlot) (why : Denial) (j : Job) → IsDenied layout by command copies why j → cost j (words_at layout a) < 131 * failure_weight
denied-few layout a by command copies why j b = subst (λ (x : Job). cost x (words_at layout a) < 131 * failure_weight) (sym b.job_is) (omega arith)

pub begins-few : (layout : Layout) (a : State) (by : Who) (command : Command) (copies : Option VSlot) (admit : Admit) (banks : Banks) (collects : Bool) (j : Job) → Holds layout a → BeginsWith layout by command copies admit banks collects j → cost j (words_at layout a) < 131 * failure_weight
begins-few layout a by command copies admissions.Bad banks collects j rule begun = denied-few layout a by command copies denials.BadFrame j begun
begins-few layout a by command copies admissions.Stopped banks collects j rule begun = denied-few layout a by command copies denials.Stopped j begun
begins-few layout a by command None admissions.Yes banks collects j rule begun = plain-few layout a by command banks collects j rule begun
begins-few layout a by command (Some from) admissions.Yes banks collects j rule begun = copy-few layout a by command from banks collects j rule begun
