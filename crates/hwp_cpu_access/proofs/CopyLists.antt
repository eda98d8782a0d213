-- A step of a copy lists no entry that no access makes and no freeing: of those that such a test finds the command has no more after it.
use Rattle.std.proofs.Common.{◌≡◌, inl, inr, ℕ, Bool, true, false, cond, List, [], ◌∷◌, ◌++◌, Option, Some, filter, append-nil, refl, sym, ap, ◌∙◌, subst}
use Rattle.std.proofs.lemmas.List.Elements.{filter-append}
use Rattle.std.proofs.lemmas.Option.{none-some}
use Rattle.hwp_fault.specs.hwp_geom.declared.Frame.{Frame}
use Rattle.hwp_fault.specs.hwp_geom.declared.Layout.{Layout}
use Rattle.hwp_fault.specs.hwp_geom.declared.Mask.{Mask}
use Rattle.hwp_fault.specs.hwp_geom.declared.VSlot.{VSlot}
use Rattle.hwp_fault.specs.hwp_geom.declared.Who.{Who}
use Rattle.hwp_fault.specs.hwp_page.declared.What.{What}
use Rattle.hwp_fault.specs.hwp_page.declared.What.TheVariants as entries
use Rattle.hwp_fault.specs.hwp_page.History.{BodyValue}
use Rattle.hwp_fault.specs.hwp_core_rule.declared.Made.{Made}
use Rattle.hwp_fault.specs.hwp_core_rule.declared.Step.{Step}
use Rattle.hwp_fault.specs.hwp_core_rule.declared.View.{View}
use Rattle.hwp_fault.specs.hwp_core_rule.declared.Turn.{Turn}
use Rattle.hwp_fault.specs.hwp_core_rule.Calls.{Steps, logs}
use Rattle.hwp_fault.specs.hwp_core_rule.Known.{deeds, is_failure, such_deeds}
use Rattle.hwp_fault.proofs.of_hwp_core_rule.tasks.MadeEntries.{deeds-same}
use Rattle.hwp_fault.proofs.of_hwp_core_rule.tasks.StepLeaves.{steps-planned}
use Rattle.hwp_fault.specs.declared.Access.{Access}
use Rattle.hwp_fault.specs.declared.Request.{Request}
use Rattle.hwp_fault.specs.Accesses as accesses
use Rattle.hwp_fault.specs.Adds.{Adds, Skips, has_checked}
use Rattle.hwp_fault.proofs.FaultAdds.{access-adds}
use Rattle.hwp_claim.specs.hwp_claim_act.declared.Failed.{Failed}
use Rattle.hwp_claim.specs.hwp_claim_act.Abandoned.{AddsFailure, failed_in, failed_of}
use Rattle.hwp_claim.specs.declared.Handler.{Handler}
use Rattle.hwp_claim.specs.Handlers as handlers
use Rattle.hwp_claim.proofs.HandlerAdds.{handler-adds}
use Rattle.hwp_fault.specs.hwp_evict.declared.evict.Evict.{Evict}
use Rattle.hwp_fault.specs.hwp_evict.Evictions.{entry_of}
use Rattle.hwp_fault.specs.hwp_evict.Evicts as evicts
use Rattle.hwp_cpu_access.specs.declared.instruction.Instruction.{Instruction}
use Rattle.hwp_cpu_access.specs.declared.instruction.InstructionAt.{InstructionAt}
use Rattle.hwp_cpu_access.specs.declared.instruction.InstructionAt.TheVariants as instruction_at
use Rattle.hwp_cpu_access.specs.Fits as instruction_fits
use Rattle.hwp_cpu_access.specs.Fits.{FitsBehind}
use Rattle.hwp_cpu_access.specs.Instructions as instructions
use Rattle.hwp_claim.specs.Checks.{Check}
use Rattle.hwp_cpu_access.specs.declared.copying.Copying.{Copying}
use Rattle.hwp_cpu_access.specs.declared.copying.CopyingAt.{CopyingAt}
use Rattle.hwp_cpu_access.specs.declared.copying.CopyingAt.TheVariants as at
use Rattle.hwp_cpu_access.specs.Copyings.{Follows, FollowsAt, bare, bare_at, plan, plan_at, put, put_at}
use Rattle.hwp_cpu_access.specs.CopyFits.{FitsAt, FitsFrom}
use Rattle.hwp_cpu_access.proofs.CowSteps.{request-who}
use Rattle.hwp_cpu_access.proofs.FreeLists.{evict-lists-none}
use Rattle.hwp_fork.specs.Cows.{sub_of}

-- the test finds no entry of an access or of its machine checks
pub record IsApart (test : What → Bool) : Type 0 where
  pub skips : Skips test
  pub check : (slot : VSlot) (line : ℕ) (mask : Mask) → test (entries.Mce slot line mask) ≡ false
  pub failure : (what : What) → is_failure what ≡ true → test what ≡ false
  pub freed : (slot : VSlot) → test (entries.Free slot) ≡ false

module _ (test : What → Bool) (apart : IsApart test) where
  -- an entry more that it doesn't find
  one-more : (who : Who) (old new : View) (m : Made) → deeds who new ≡ deeds who old ++ m ∷ [] → test m.entry.what ≡ false → such_deeds test who new ≡ such_deeds test who old
  one-more who old new m more other =
      ap (filter (λ (x : Made). test x.entry.what)) more
      ∙ filter-append (λ (x : Made). test x.entry.what) (deeds who old) (m ∷ [])
      ∙ ap (λ (b : Bool). such_deeds test who old ++ cond b (m ∷ []) []) other
      ∙ append-nil (such_deeds test who old)

  by-access : (a : Request) (old new : View) (before after : Bool) → Adds a old new before after → such_deeds test a.who new ≡ such_deeds test a.who old
  by-access a old new before after (inl none) = none.0 test apart.skips
  by-access a old new before after (inr some) = one-more a.who old new some.0.check some.0.added (ap test some.0.what_is ∙ apart.check a.slot a.line _)

  failed-so : (m : Made) (failed : Failed) → failed_in m ≡ Some failed → is_failure m.entry.what ≡ true
  failed-so m failed is = which m.entry.what is
    where
      which : (what : What) → failed_of m.page m.place what ≡ Some failed → is_failure what ≡ true
      which (entries.Fail situation required seen signals) is = refl
      which _ is = absurd (none-some failed is)

  by-failure : (who : Who) (old new : View) {before after : List Failed} → AddsFailure who old new before after → such_deeds test who new ≡ such_deeds test who old
  by-failure who old new (inl none) = ap (filter (λ (m : Made). test m.entry.what)) none.0
  by-failure who old new (inr some) = one-more who old new some.0 some.2 (apart.failure some.0.entry.what (failed-so some.0 some.1 some.3))

  module _ {past : List Made} {earlier : List Check} (layout : Layout) (old new : View) (i after : Instruction) (step : Step) (found : ℕ) (got : Option BodyValue) (turn : Turn) (fits : FitsBehind past earlier layout old i) where
    access-lists : (a : Access) → instruction_fits.IsAccessing past layout old i (earlier ++ fits.checks) a → accesses.plan a ≡ Some step → Steps layout i.request.who step (logs (accesses.put a)) old new found got
        → instructions.FollowsAt layout (instructions.bare i) (instruction_at.Access (accesses.bare a)) found got after turn → such_deeds test i.request.who new ≡ such_deeds test i.request.who old
    access-lists a has e made next = subst (λ (r : Request). such_deeds test r.who new ≡ such_deeds test r.who old) has.own
        (by-access a.request old new (has_checked a.at) (has_checked next.access.at) (access-adds layout old new a step found got has.access e
        (subst (λ (r : Request). Steps layout r.who step (logs (accesses.put a)) old new found got) (sym has.own) made) next.access turn next.follows))

    handler-lists : (frame : Frame) (h : Handler) → instruction_fits.IsHandling past layout old i (earlier ++ fits.checks) frame h → handlers.plan h ≡ Some step → Steps layout i.request.who step (logs (handlers.put h)) old new found got
        → instructions.FollowsAt layout (instructions.bare i) (instruction_at.Handle frame (handlers.bare h)) found got after turn → such_deeds test i.request.who new ≡ such_deeds test i.request.who old
    handler-lists frame h has e made next = subst (λ (w : Who). such_deeds test w new ≡ such_deeds test w old) has.has.own
        (by-failure h.who old new (handler-adds layout old new h step found got has.has.handler e (subst (λ (w : Who). Steps layout w step (logs (handlers.put h)) old new found got) (sym has.has.own) made) next.handler turn next.follows).failed)

    pub instruction-lists : instructions.plan i ≡ Some step → Steps layout i.request.who step (logs (instructions.put i)) old new found got → instructions.Follows layout (instructions.bare i) found got after turn → such_deeds test i.request.who new ≡ such_deeds test i.request.who old
    instruction-lists is made follows = which i.at fits.at is made follows
      where
        which : (x : InstructionAt) → instruction_fits.FitsAt past layout old i (earlier ++ fits.checks) x → instructions.plan_at x ≡ Some step → Steps layout i.request.who step (logs (instructions.put_at x)) old new found got
            → instructions.FollowsAt layout (instructions.bare i) (instructions.bare_at x) found got after turn → such_deeds test i.request.who new ≡ such_deeds test i.request.who old
        which (instruction_at.Access a) has e made next = access-lists a has e made next
        which (instruction_at.Handle frame h) has e made next = handler-lists frame h has e made next
        which (instruction_at.LoadFrame frame) has e made next = ap (filter (λ (m : Made). test m.entry.what)) (deeds-same i.request.who tt (steps-planned e made))
        which (instruction_at.LoadStop frame) has e made next = ap (filter (λ (m : Made). test m.entry.what)) (deeds-same i.request.who tt (steps-planned e made))
        which instruction_at.GiveUp has e made next = ap (filter (λ (m : Made). test m.entry.what)) (deeds-same i.request.who tt (steps-planned e made))
        which (instruction_at.Paused pause) has e made next = absurd (none-some step e)
        which (instruction_at.Over answer) has e made next = absurd (none-some step e)

  pub copy-lists : {base : List Made} (layout : Layout) (old new : View) (c : Copying) (step : Step) (found : ℕ) (got : Option BodyValue) → FitsFrom base layout old c → plan c ≡ Some step → Steps layout c.store.who step (logs (put c)) old new found got
      → (after : Copying) (turn : Turn) → Follows layout (bare c) found got after turn → such_deeds test c.store.who new ≡ such_deeds test c.store.who old
  copy-lists {base} layout old new c step found got fits is made after turn follows = which c.at fits.at is made follows
    where
      which : (x : CopyingAt) → FitsAt base layout old c fits.runs x → plan_at c.instruction x ≡ Some step → Steps layout c.store.who step (logs (put_at c.instruction x)) old new found got → FollowsAt layout (bare_at c x) (bare_at c x).at found got after turn
          → such_deeds test c.store.who new ≡ such_deeds test c.store.who old
      which at.Access has e made next =
          let own : c.instruction.request.who ≡ c.store.who = (request-who c.store c.page (sub_of c.cow) has.request_is).0 in
          subst (λ (w : Who). such_deeds test w new ≡ such_deeds test w old) own
          (instruction-lists layout old new c.instruction next.instruction step found got turn has.instruction e (subst (λ (w : Who). Steps layout w step (logs (instructions.put c.instruction)) old new found got) (sym own) made) next.follows)
      which (at.Free e stored) has is made next =
          let own : e.who ≡ c.store.who = ap (λ (x : Evict). x.who) has.evict_is in
          subst (λ (w : Who). such_deeds test w new ≡ such_deeds test w old) own
          (evict-lists-none test e (ap (λ (x : Evict). test (entry_of x.what)) has.evict_is ∙ apart.freed c.cow.v) has.evict is (subst (λ (w : Who). Steps layout w step (logs (evicts.put e)) old new found got) (sym own) made))
      which (at.Over answer) has e made next = absurd (none-some step e)
