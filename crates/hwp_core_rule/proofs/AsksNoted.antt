-- What a step asks doesn't depend on what every step notes.
use Rattle.std.proofs.Common.{◌≡◌, ◌==◌, Bool, true, false, Option, Some, None}
use Rattle.hwp_page.specs.hwp_geom.declared.FileNo.{FileNo}
use Rattle.hwp_page.specs.hwp_geom.declared.Frame.{Frame}
use Rattle.hwp_page.specs.hwp_geom.declared.Layout.{Layout}
use Rattle.hwp_page.specs.hwp_geom.declared.Page.{Page}
use Rattle.hwp_page.specs.hwp_geom.declared.Who.{Who}
use Rattle.hwp_core_rule.specs.declared.log.Log.{Log}
use Rattle.hwp_core_rule.specs.declared.step.Step.{Step}
use Rattle.hwp_core_rule.specs.declared.view.View.{View}
use Rattle.hwp_core_rule.specs.Asks.{AsksOf, HasLock, HasPageLock, HasPage, CanPut, CanSetOwner, CanFree, CanName, CanChange, OwesCount}
use Rattle.hwp_core_rule.specs.declared.view.InHand.{InHand}
use Rattle.hwp_core_rule.specs.Lists.{SomeMember}
use Rattle.hwp_core_rule.specs.Logs.{log_of}
use Rattle.hwp_core_rule.specs.Rule.{losing_of}
use Rattle.hwp_core_rule.specs.Views.{noted, listed, listed_of, body_of, without, lost_by}
use Rattle.hwp_core_rule.specs.parts.Losses.{IsPoisonLoss}
use Rattle.hwp_core_rule.specs.declared.step.Step.TheVariants as steps

-- the losses of a view in which a loss of a file is no longer owed
abbrev lost : Layout → Who → FileNo → Log → Option InHand → View → View
lost layout who file log body u =
    record (listed_of layout who log body u) { owed = record (listed_of layout who log body u).owed { losses = without (λ (n : FileNo). n.0 == file.0) (listed_of layout who log body u).owed.losses } }

module _ (layout : Layout) (who : Who) (v : View) where
  abbrev lock-noted : (frame : Frame) → HasLock v frame → HasLock (noted who v) frame
  lock-noted frame h = record { lock = h.lock; listed = h.listed; frame_is = h.frame_is }

  abbrev page_lock-noted : (page : Page) → HasPageLock v page → HasPageLock (noted who v) page
  page_lock-noted page h = record { lock = h.lock; listed = h.listed; page_is = h.page_is }

  abbrev page-noted : (page : Page) → HasPage v page → HasPage (noted who v) page
  page-noted page h = record { lock = page_lock-noted page h.lock; body = h.body; body_is = h.body_is; cache = h.cache; cache_is = h.cache_is; trans = h.trans; trans_is = h.trans_is }

  put-noted : (content : Option Log) → CanPut layout who v content → CanPut layout who (noted who v) content
  put-noted None h = h
  put-noted (Some log) h = record {
    body = h.body;
    body_is = h.body_is;
    extends = h.extends;
    fits = record { unlocked = h.fits.unlocked; locked = h.fits.locked };
    killed = h.killed;
  }

  free-noted : (frame : Frame) → CanFree layout v frame → CanFree layout (noted who v) frame
  free-noted frame h = record { has = lock-noted frame h.has; room = h.room }

  name-noted : (page : Page) (frame : Frame) → CanName v page frame → CanName (noted who v) page frame
  name-noted page frame h = record { has = lock-noted frame h.has; owner_is = h.owner_is; refs = h.refs }

  change-noted : (page : Page) (old new : Option Frame) → CanChange layout v page old new → CanChange layout (noted who v) page old new
  change-noted page old new h = (λ frame is. free-noted frame (h.0 frame is), λ frame is. name-noted page frame (h.1 frame is))

  owner-noted : (frame : Frame) (page : Page) (owned : Bool) → CanSetOwner layout v frame page owned → CanSetOwner layout (noted who v) frame page owned
  owner-noted frame page true h = record { has = lock-noted frame h.has; unowned = h.unowned; unhandled = h.unhandled; page_held = page-noted page h.page_held }
  owner-noted frame page false h = record { has = lock-noted frame h.has; owned = h.owned; page_held = page-noted page h.page_held; uncached = h.uncached; unmapped = h.unmapped }

  owes-noted : (hardware : Bool) → OwesCount v hardware → OwesCount (noted who v) hardware
  owes-noted true h = h
  owes-noted false h = h

  owed-noted : (file : FileNo) (log : Log) → SomeMember (λ (n : FileNo). n ≡ file) (listed layout who log v).owed.losses → SomeMember (λ (n : FileNo). n ≡ file) (listed layout who log (noted who v)).owed.losses
  owed-noted file log h = by-body (body_of log.page v) h
    where
      by-body : (body : Option InHand) → SomeMember (λ (n : FileNo). n ≡ file) (listed_of layout who log body v).owed.losses → SomeMember (λ (n : FileNo). n ≡ file) (listed_of layout who log body (noted who v)).owed.losses
      by-body None h = h
      by-body (Some body) h = h

  poisoned-noted : (file : FileNo) (log : Log) → IsPoisonLoss (losing_of (lost_by layout who file log v)) → IsPoisonLoss (losing_of (lost_by layout who file log (noted who v)))
  poisoned-noted file log h = by-body (body_of log.page v) h
    where
      by-body : (body : Option InHand) → IsPoisonLoss (losing_of (lost layout who file log body v)) → IsPoisonLoss (losing_of (lost layout who file log body (noted who v)))
      by-body None h = h
      by-body (Some body) h = h

  pub asks-noted : (step : Step) (content : Option Log) → AsksOf layout who step content v → AsksOf layout who step content (noted who v)
  asks-noted (steps.Load place) content h = h
  asks-noted (steps.Reserve seen) content h = h
  asks-noted (steps.TakeBit frame) content h = h
  asks-noted (steps.GiveBit frame) content h = h
  asks-noted steps.Unreserve content h = h
  asks-noted (steps.Adopt frame) content h = h
  asks-noted (steps.GetRef frame seen count) content h = (h.0, h.1, record { shares = h.2.shares; first = h.2.first })
  asks-noted (steps.PutRef frame count) content h = h
  asks-noted (steps.LockFrame frame) content h = record { referenced = h.referenced; unlisted = h.unlisted; second = h.second }
  asks-noted (steps.UnlockFrame frame) content h = record { has = lock-noted frame h.has; named = h.named; cached = h.cached; put = put-noted content h.put }
  asks-noted (steps.Retire frame) content h = record { has = lock-noted frame h.has; unowned = h.unowned; unhandled = h.unhandled; poisoned = h.poisoned; empty = h.empty }
  asks-noted (steps.Revive frame seen) content h = record { handled = h.handled; unlocked = h.unlocked; unowned = h.unowned; alone = h.alone; few = h.few; room = h.room }
  asks-noted (steps.SetOwner frame page owned) content h = (h.0, owner-noted frame page owned h.1)
  asks-noted (steps.LockPage page) content h = h
  asks-noted (steps.UnlockPage page) content h = record { has = page_lock-noted page h.has; named = h.named; put_away = h.put_away; no_frame = h.no_frame; put = put-noted content h.put }
  asks-noted (steps.SetPte slot pte) content h = record { decl = h.decl; declared = h.declared; page_held = page-noted h.decl.page h.page_held; old = h.old; old_is = h.old_is; frames = change-noted h.decl.page _ _ h.frames }
  asks-noted (steps.SetCache page frame) content h = record { page_held = page-noted page h.page_held; frames = change-noted page _ _ h.frames }
  asks-noted (steps.Poison frame hardware) content h = h
  asks-noted (steps.CountPoison hardware) content h = owes-noted hardware h
  asks-noted steps.Uncount content h = h
  asks-noted (steps.Spoil frame line damage) content h = h
  asks-noted (steps.Stop cpu) content h = h
  asks-noted steps.GiveUp content h = h
  asks-noted (steps.Kill process page body) content h = record { within = h.within; page_is = h.page_is; page_held = page-noted body.value.page h.page_held; extends = h.extends; ending = h.ending }
  asks-noted (steps.SetPolicy thread policy settings) content h = record { decl = h.decl; declared = h.declared; own = h.own; number = h.number; few = h.few }
  asks-noted (steps.Lose file body) content h = record {
    page_held = page-noted body.value.page h.page_held;
    extends = h.extends;
    behind = h.behind;
    owed = owed-noted file (log_of body.value) h.owed;
    poisoned = poisoned-noted file (log_of body.value) h.poisoned;
  }
  asks-noted (steps.ReportLost file) content h = h
