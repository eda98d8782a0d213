-- What a step leaves of what a view lists, by the task that makes it: a failure, a machine check, or a frame taken out of use.
use Rattle.std.proofs.Common.{◌≡◌, ◌⊎◌, inl, inr, ℕ, ◌==◌, Bool, true, false, cond, [], ◌∷◌, ◌++◌, Option, Some, None, refl, sym, ap, ◌∙◌, subst, true≢false}
use Rattle.std.proofs.lemmas.Option.{none-some}
use Rattle.hwp_cpu_command.specs.hwp_geom.declared.Frame.{Frame}
use Rattle.hwp_cpu_command.specs.hwp_geom.declared.Layout.{Layout}
use Rattle.hwp_cpu_command.specs.hwp_geom.declared.Who.{Who}
use Rattle.hwp_cpu_command.specs.hwp_page.History.{BodyValue}
use Rattle.hwp_cpu_command.specs.hwp_words.Stops.{is_stopped}
use Rattle.hwp_cpu_command.specs.hwp_core_rule.declared.Log.{Log}
use Rattle.hwp_cpu_command.specs.hwp_core_rule.declared.MarkKind.TheVariants as mark_kinds
use Rattle.hwp_cpu_command.specs.hwp_core_rule.declared.SharedWord.TheVariants as places
use Rattle.hwp_cpu_command.specs.hwp_core_rule.declared.Step.{Step}
use Rattle.hwp_cpu_command.specs.hwp_core_rule.declared.Step.TheVariants as steps
use Rattle.hwp_cpu_command.specs.hwp_core_rule.declared.View.{View}
use Rattle.hwp_cpu_command.specs.hwp_core_rule.Steps.{goes}
use Rattle.hwp_cpu_command.specs.hwp_core_rule.Views.{marked, noted, owing_count, poison_listed, revived_by, sighted}
use Rattle.hwp_cpu_command.specs.hwp_core_rule.declared.Turn.{Turn}
use Rattle.hwp_cpu_command.specs.hwp_core_rule.Calls.{Steps, logs}
use Rattle.hwp_cpu_command.proofs.of_hwp_core_rule.tasks.StepLeaves.{steps-planned}
use Rattle.hwp_cpu_command.specs.hwp_claim_frame.declared.claim.ClaimAt.{ClaimAt}
use Rattle.hwp_cpu_command.specs.hwp_claim_frame.declared.claim.ClaimAt.TheVariants as claim_at
use Rattle.hwp_cpu_command.specs.hwp_claim_frame.Claims as claims
use Rattle.hwp_cpu_command.specs.hwp_claim.declared.fail.Fail.{Fail}
use Rattle.hwp_cpu_command.specs.hwp_claim.declared.fail.FailAt.{FailAt}
use Rattle.hwp_cpu_command.specs.hwp_claim.declared.fail.FailAt.TheVariants as fail_at
use Rattle.hwp_cpu_command.specs.hwp_claim.Fails as fails
use Rattle.hwp_cpu_command.specs.hwp_claim.Injects.{recovers_at, recovers_in}
use Rattle.hwp_cpu_command.proofs.of_hwp_claim.ActQuiet.{act}
use Rattle.hwp_cpu_command.proofs.of_hwp_claim.of_hwp_claim_frame.Quiet.{Alike, IsQuiet, PlansQuiet, give-up, leaves, release, unhold, unlock}
use Rattle.hwp_cpu_command.specs.hwp_claim.declared.Handler.{Handler}
use Rattle.hwp_cpu_command.specs.hwp_claim.declared.handler.HandlerAt.{HandlerAt}
use Rattle.hwp_cpu_command.specs.hwp_claim.declared.handler.HandlerAt.TheVariants as handler_at
use Rattle.hwp_cpu_command.specs.hwp_claim.Fits as handler_fits
use Rattle.hwp_cpu_command.specs.hwp_claim.Handlers as handlers
use Rattle.hwp_cpu_command.specs.hwp_claim.Told.{halts}
use Rattle.hwp_cpu_command.proofs.of_hwp_claim.HandlerLaws.{stop-leaves}
use Rattle.hwp_cpu_command.specs.hwp_soft_move.declared.discard.DiscardAt.{DiscardAt}
use Rattle.hwp_cpu_command.specs.hwp_soft_move.declared.discard.DiscardAt.TheVariants as discard_at
use Rattle.hwp_cpu_command.specs.hwp_soft_move.declared.relocate.RelocateAt.{RelocateAt}
use Rattle.hwp_cpu_command.specs.hwp_soft_move.declared.relocate.RelocateAt.TheVariants as relocate_at
use Rattle.hwp_cpu_command.specs.hwp_soft_move.declared.relocate.Transfer.{Transfer}
use Rattle.hwp_cpu_command.specs.hwp_soft_move.Discards as discards
use Rattle.hwp_cpu_command.specs.hwp_soft_move.Relocations as relocations
use Rattle.hwp_cpu_command.specs.hwp_soft.declared.Soft.{Soft}
use Rattle.hwp_cpu_command.specs.hwp_soft.declared.soft.SoftAt.{SoftAt}
use Rattle.hwp_cpu_command.specs.hwp_soft.declared.soft.SoftAt.TheVariants as soft_at
use Rattle.hwp_cpu_command.specs.hwp_soft.Softs as softs
use Rattle.hwp_cpu_command.proofs.of_hwp_soft.SoftAdds.{relocate, take}
use Rattle.hwp_cpu_command.specs.hwp_soft.declared.Unpoison.{Unpoison}
use Rattle.hwp_cpu_command.specs.hwp_soft.declared.unpoison.UnpoisonAt.{UnpoisonAt}
use Rattle.hwp_cpu_command.specs.hwp_soft.declared.unpoison.UnpoisonAt.TheVariants as unpoison_at
use Rattle.hwp_cpu_command.specs.hwp_soft.Unpoisons as unpoisons
use Rattle.hwp_cpu.proofs.commands.Quiet.{claim, seize}

-- the policies set and the damage stay as they were
pub record Rest (v x : View) : Type 0 where
  pub settings : x.settings ≡ v.settings
  pub spoiled : x.spoiled ≡ v.spoiled

pub quiet-rest : {v x : View} → Alike v x → Rest v x
quiet-rest same = record { settings = same.settings; spoiled = same.spoiled }

-- ---- steps of a memory failure

-- the step is quiet, or poisons a frame or counts that
abbrev pub IsPlain : Step → Type 0
IsPlain (steps.Poison frame hardware) = Unit {0}
IsPlain (steps.CountPoison hardware) = Unit {0}
IsPlain step = IsQuiet step

abbrev PlansPlain : Option Step → Type 0
PlansPlain None = Unit {0}
PlansPlain (Some step) = IsPlain step

quiet-plain : (o : Option Step) → PlansQuiet o → PlansPlain o
quiet-plain None quiet = tt
quiet-plain (Some (steps.Poison frame hardware)) quiet = tt
quiet-plain (Some (steps.CountPoison hardware)) quiet = tt
quiet-plain (Some step) quiet = quiet

-- such a step leaves the stops too
pub record Left (v x : View) : Type 0 where
  pub rest : Rest v x
  pub stops : x.stops ≡ v.stops

pub plain-left : {layout : Layout} {who : Who} (step : Step) {put : Option Log} {old new : View} {found : ℕ} {got : Option BodyValue} → Steps layout who step put old new found got → IsPlain step → Left old new
plain-left {who = who} (steps.Poison frame hardware) {old = old} {found = found} made plain = subst (Left old) (sym made.told.next) (which (goes (steps.Poison frame hardware) found))
  where
    which : (b : Bool) → Left old (poison_listed frame (cond b (record (marked who frame found (mark_kinds.Poisoned hardware) (noted who old)) { owed = owing_count hardware old.owed }) (sighted who (places.Frame frame) found (noted who old))))
    which true = record { rest = record { settings = refl; spoiled = refl }; stops = refl }
    which false = record { rest = record { settings = refl; spoiled = refl }; stops = refl }
plain-left (steps.CountPoison hardware) {old = old} made plain = subst (Left old) (sym made.told.next) (record { rest = record { settings = refl; spoiled = refl }; stops = refl })
plain-left step made plain = let same = leaves made plain in record { rest = quiet-rest same; stops = same.stops }

-- a failure on a machine that recovers makes only such steps
fail-plain : (f : Fail) → recovers_at f.at ≡ true → PlansPlain (fails.plan f)
fail-plain f = which f.at
  where
    claim-plain : (who : _) (frame : _) (hardware : Bool) (x : ClaimAt) → recovers_in x ≡ true → PlansPlain (claims.plan_at who frame hardware x)
    claim-plain who frame hardware claim_at.Stop is = absurd (true≢false (sym is))
    claim-plain who frame hardware claim_at.Poison is = tt
    claim-plain who frame hardware (claim_at.Count cycle) is = tt
    claim-plain who frame hardware x is = quiet-plain (claims.plan_at who frame hardware x) (claim who frame hardware x tt)

    which : (x : FailAt) → recovers_at x ≡ true → PlansPlain (fails.plan_at x)
    which (fail_at.Claim c) is = claim-plain c.who c.frame c.hardware c.at is
    which (fail_at.Act cycle a) is = quiet-plain _ (act a)
    which (fail_at.Over answer) is = tt

pub fail-left : {layout : Layout} {who : Who} {step : Step} {put : Option Log} {old new : View} {found : ℕ} {got : Option BodyValue} (f : Fail) → recovers_at f.at ≡ true → fails.plan f ≡ Some step → Steps layout who step put old new found got → Left old new
fail-left {step = step} f recovers is made = plain-left step made (subst PlansPlain is (fail-plain f recovers))

-- ---- steps of a command that takes a frame out of use

discard-plain : (frame : Frame) (x : DiscardAt) → PlansPlain (discards.plan_at frame x)
discard-plain frame (discard_at.Poison used) = tt
discard-plain frame (discard_at.Count cycle) = tt
discard-plain frame (discard_at.Retire cycle) = tt
discard-plain frame (discard_at.Unlock u) = quiet-plain _ (unlock u.at)
discard-plain frame (discard_at.Over cycle) = tt

relocate-plain : (t : Transfer) (x : RelocateAt) → PlansPlain (relocations.plan_at t x)
relocate-plain t relocate_at.Count = tt
relocate-plain t relocate_at.SetOwner = tt
relocate-plain t (relocate_at.Refer f) = quiet-plain _ (relocate t (relocate_at.Refer f) tt)
relocate-plain t (relocate_at.Remap m) = quiet-plain _ (relocate t (relocate_at.Remap m) tt)
relocate-plain t relocate_at.SetCache = tt
relocate-plain t relocate_at.ClearOwner = tt
relocate-plain t relocate_at.UnlockFrame = tt
relocate-plain t (relocate_at.Release l) = quiet-plain _ (relocate t (relocate_at.Release l) tt)
relocate-plain t relocate_at.PutRef = tt
relocate-plain t relocate_at.Retire = tt
relocate-plain t relocate_at.UnlockPage = tt
relocate-plain t relocate_at.Over = tt

soft-plain : (s : Soft) → PlansPlain (softs.plan s)
soft-plain s = which s.at
  where
    which : (x : SoftAt) → PlansPlain (softs.plan_at s.frame x)
    which soft_at.LoadStop = tt
    which (soft_at.Seize z) = quiet-plain _ (seize z.frame z.at)
    which (soft_at.Discard d) = discard-plain d.frame d.at
    which (soft_at.LoadBad page body) = tt
    which (soft_at.Take page body t) = quiet-plain _ (take t.at)
    which (soft_at.Poison page body to) = tt
    which (soft_at.UnlockSpare page body to) = tt
    which (soft_at.ReleaseSpare page body r) = quiet-plain _ (release r.frame r.count r.at)
    which (soft_at.Relocate r answer) = relocate-plain r.transfer r.at
    which (soft_at.Unhold u answer) = quiet-plain _ (unhold u.page u.at)
    which (soft_at.GiveUp g) = quiet-plain _ (give-up g.at)
    which (soft_at.Over answer) = tt

pub soft-leaves : {layout : Layout} {who : Who} {step : Step} {put : Option Log} {old new : View} {found : ℕ} {got : Option BodyValue} (s : Soft) → softs.plan s ≡ Some step → Steps layout who step put old new found got → Left old new
soft-leaves {step = step} s is made = plain-left step made (subst PlansPlain is (soft-plain s))

-- ---- steps of a command that takes a frame's poison back

pub unpoison-leaves : {layout : Layout} {who : Who} {step : Step} {old new : View} {found : ℕ} {got : Option BodyValue} (u : Unpoison) → unpoisons.plan u ≡ Some step → Steps layout who step None old new found got → Left old new
unpoison-leaves {layout} {who} {step} {old} {new} {found} {got} u is made = which u.at is
  where
    plainly : {other : Step} → Some other ≡ Some step → IsPlain other → Left old new
    plainly e plain = plain-left step made (subst PlansPlain e plain)

    exchanged : (frame : Frame) (went : Bool) → Left old (cond went (revived_by who frame found (noted who old)) (sighted who (places.Frame frame) found (noted who old)))
    exchanged frame true = record { rest = record { settings = refl; spoiled = refl }; stops = refl }
    exchanged frame false = record { rest = record { settings = refl; spoiled = refl }; stops = refl }

    uncounted : Steps layout who steps.Uncount None old new found got → Left old new
    uncounted own = subst (Left old) (sym own.told.next) (record { rest = record { settings = refl; spoiled = refl }; stops = refl })

    which : (x : UnpoisonAt) → unpoisons.plan_at u.frame x ≡ Some step → Left old new
    which unpoison_at.LoadStop e = plainly e tt
    which unpoison_at.LoadFrame e = plainly e tt
    which (unpoison_at.LoadCount seen) e = plainly e tt
    which (unpoison_at.LoadBad seen) e = plainly e tt
    which (unpoison_at.Revive seen) e = subst (Left old) (sym (steps-planned {other = steps.Revive u.frame seen} e made).told.next) (exchanged u.frame (found == seen))
    which (unpoison_at.Uncount cycle) e = uncounted (steps-planned e made)
    which (unpoison_at.GiveBit cycle) e = plainly e tt
    which (unpoison_at.Unreserve cycle) e = plainly e tt
    which (unpoison_at.Over answer) e = absurd (none-some step e)

-- ---- a stop

-- the step that stops the machine, where no other processor has
pub stop-rest : {layout : Layout} {who : Who} {old new : View} {found : ℕ} {got : Option BodyValue} → Steps layout who (steps.Stop who.cpu) None old new found got → Rest old new
stop-rest made = record {
  settings = stop-leaves made (λ (v : View). v.settings) refl refl;
  spoiled = stop-leaves made (λ (v : View). v.spoiled) refl refl;
}

pub stops-by : {layout : Layout} {who : Who} {old new : View} {found : ℕ} {got : Option BodyValue} → Steps layout who (steps.Stop who.cpu) None old new found got → ((found == 0) ≡ true) × (new.stops ≡ old.stops ++ who ∷ []) ⊎ (new.stops ≡ old.stops)
stops-by {who = who} {old = old} {new = new} {found = found} made = which (found == 0) refl
  where
    now : (b : Bool) → (found == 0) ≡ b → new.stops ≡ (cond b (record (noted who old) { stops = old.stops ++ who ∷ [] }) (sighted who places.Stop found (noted who old))).stops
    now b is = ap (λ (v : View). v.stops) made.told.next ∙ ap (λ (c : Bool). (cond c (record (noted who old) { stops = old.stops ++ who ∷ [] }) (sighted who places.Stop found (noted who old))).stops) is

    which : (b : Bool) → (found == 0) ≡ b → ((found == 0) ≡ true) × (new.stops ≡ old.stops ++ who ∷ []) ⊎ (new.stops ≡ old.stops)
    which true is = inl (is, now true is)
    which false is = inr (now false is)

-- ---- a step of a machine check

-- it stopped the machine for one of its events
pub record HasHalted (h after : Handler) (old new : View) : Type 0 where
  pub stopping : h.at ≡ handler_at.Stop
  pub over : handlers.answer after ≡ Some true
  pub halts_is : halts after.events.told ≡ true
  pub stops_are : new.stops ≡ old.stops ++ h.who ∷ []

pub record HandlerLeft (h after : Handler) (old new : View) : Type 0 where
  pub rest : Rest old new
  pub stops : (new.stops ≡ old.stops) ⊎ HasHalted h after old new

pub handler-left : {layout : Layout} {old new : View} (h : Handler) {step : Step} {found : ℕ} {got : Option BodyValue} {after : Handler} (turn : Turn) → handler_fits.Fits layout old h → handlers.plan h ≡ Some step → Steps layout h.who step (logs (handlers.put h)) old new found got
    → handlers.Follows layout (handlers.bare h) found got after turn → HandlerLeft h after old new
handler-left {layout} {old} {new} h {step} {found} {got} {after} turn fits is made follows = which h.at refl fits.at is made follows
  where
    stopping : h.at ≡ handler_at.Stop → handler_fits.IsAllTold old h.events true → Steps layout h.who (steps.Stop h.who.cpu) None old new found got → after ≡ record h { at = handlers.after_stop found } → HandlerLeft h after old new
    stopping at told own next = record { rest = stop-rest own; stops = by (stops-by own) }
      where
        by : ((found == 0) ≡ true) × (new.stops ≡ old.stops ++ h.who ∷ []) ⊎ (new.stops ≡ old.stops) → (new.stops ≡ old.stops) ⊎ HasHalted h after old new
        by (inr same) = inl same
        by (inl (zero, more)) = inr (record {
          stopping = at;
          over = ap handlers.answer next ∙ ap (λ (b : Bool). handlers.answer_at (cond b (handler_at.Over true) (cond (is_stopped found) (handler_at.Over true) handler_at.GaveUp))) zero;
          halts_is = ap (λ (k : Handler). halts k.events.told) next ∙ told.halts_is;
          stops_are = more;
        })

    which : (x : HandlerAt) → h.at ≡ x → handler_fits.FitsAt layout old h.who h.thread h.stops h.events x → handlers.plan_at h.who x ≡ Some step → Steps layout h.who step (logs (handlers.put_at x)) old new found got → handlers.FollowsAt layout (handlers.bare h) (handlers.bare_at x) found got after turn → HandlerLeft h after old new
    which handler_at.Stop at has e own next = stopping at has (steps-planned e own) (next.0 ∙ ap (λ (x : HandlerAt). record h { at = handlers.after_stop found }) at)
    which (handler_at.Fail f) at has e own next = let left = fail-left f has.recovers e own in record { rest = left.rest; stops = inl left.stops }
    which handler_at.GaveUp at has e own next = absurd (none-some step e)
    which (handler_at.Over stopped) at has e own next = absurd (none-some step e)
