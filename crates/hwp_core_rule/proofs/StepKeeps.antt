-- Each kind of step keeps the frame rule.
use Rattle.hwp_core_rule.specs.declared.step.Step.{Step}
use Rattle.hwp_core_rule.specs.declared.step.Step.TheVariants as steps
use Rattle.hwp_core_rule.proofs.Keeps.{Keeps}
use Rattle.hwp_core_rule.proofs.kinds.Load.{keeps-load}
use Rattle.hwp_core_rule.proofs.kinds.Reserve.{keeps-reserve}
use Rattle.hwp_core_rule.proofs.kinds.TakeBit.{keeps-take_bit}
use Rattle.hwp_core_rule.proofs.kinds.GiveBit.{keeps-give_bit}
use Rattle.hwp_core_rule.proofs.kinds.Unreserve.{keeps-unreserve}
use Rattle.hwp_core_rule.proofs.kinds.Adopt.{keeps-adopt}
use Rattle.hwp_core_rule.proofs.kinds.GetRef.{keeps-get_ref}
use Rattle.hwp_core_rule.proofs.kinds.PutRef.{keeps-put_ref}
use Rattle.hwp_core_rule.proofs.kinds.LockFrame.{keeps-lock_frame}
use Rattle.hwp_core_rule.proofs.kinds.UnlockFrame.{keeps-unlock_frame}
use Rattle.hwp_core_rule.proofs.kinds.Retire.{keeps-retire}
use Rattle.hwp_core_rule.proofs.kinds.Revive.{keeps-revive}
use Rattle.hwp_core_rule.proofs.kinds.SetOwner.{keeps-set_owner}
use Rattle.hwp_core_rule.proofs.kinds.LockPage.{keeps-lock_page}
use Rattle.hwp_core_rule.proofs.kinds.UnlockPage.{keeps-unlock_page}
use Rattle.hwp_core_rule.proofs.kinds.SetPte.{keeps-set_pte}
use Rattle.hwp_core_rule.proofs.kinds.SetCache.{keeps-set_cache}
use Rattle.hwp_core_rule.proofs.kinds.Poison.{keeps-poison}
use Rattle.hwp_core_rule.proofs.kinds.CountPoison.{keeps-count_poison, keeps-uncount}
use Rattle.hwp_core_rule.proofs.kinds.Spoil.{keeps-spoil}
use Rattle.hwp_core_rule.proofs.kinds.Stop.{keeps-stop}
use Rattle.hwp_core_rule.proofs.kinds.GiveUp.{keeps-give_up}
use Rattle.hwp_core_rule.proofs.kinds.Kill.{keeps-kill}
use Rattle.hwp_core_rule.proofs.kinds.SetPolicy.{keeps-set_policy}
use Rattle.hwp_core_rule.proofs.kinds.Lose.{keeps-lose}
use Rattle.hwp_core_rule.proofs.kinds.ReportLost.{keeps-report_lost}

pub keeps : (step : Step) → Keeps step
keeps (steps.Load place) = keeps-load place
keeps (steps.Reserve seen) = keeps-reserve seen
keeps (steps.TakeBit frame) = keeps-take_bit frame
keeps (steps.GiveBit frame) = keeps-give_bit frame
keeps steps.Unreserve = keeps-unreserve
keeps (steps.Adopt frame) = keeps-adopt frame
keeps (steps.GetRef frame seen count) = keeps-get_ref frame seen count
keeps (steps.PutRef frame count) = keeps-put_ref frame count
keeps (steps.LockFrame frame) = keeps-lock_frame frame
keeps (steps.UnlockFrame frame) = keeps-unlock_frame frame
keeps (steps.Retire frame) = keeps-retire frame
keeps (steps.Revive frame seen) = keeps-revive frame seen
keeps (steps.SetOwner frame page owned) = keeps-set_owner frame page owned
keeps (steps.LockPage page) = keeps-lock_page page
keeps (steps.UnlockPage page) = keeps-unlock_page page
keeps (steps.SetPte slot pte) = keeps-set_pte slot pte
keeps (steps.SetCache page frame) = keeps-set_cache page frame
keeps (steps.Poison frame hardware) = keeps-poison frame hardware
keeps (steps.CountPoison hardware) = keeps-count_poison hardware
keeps steps.Uncount = keeps-uncount
keeps (steps.Spoil frame line damage) = keeps-spoil frame line damage
keeps (steps.Stop cpu) = keeps-stop cpu
keeps steps.GiveUp = keeps-give_up
keeps (steps.Kill process page body) = keeps-kill process page body
keeps (steps.SetPolicy thread policy settings) = keeps-set_policy thread policy settings
keeps (steps.Lose file body) = keeps-lose file body
keeps (steps.ReportLost file) = keeps-report_lost file
