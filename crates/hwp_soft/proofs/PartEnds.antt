-- What follows where a part of the command was settled: another frame taken, and the page moved.
use Rattle.std.proofs.Common.{◌≡◌, ℕ, Bool, true, false, cond, Some, is_none}
use Rattle.hwp_claim_frame.specs.hwp_geom.declared.Frame.{Frame}
use Rattle.hwp_claim_frame.specs.hwp_geom.declared.Page.{Page}
use Rattle.hwp_claim_frame.specs.hwp_geom.declared.Who.{Who}
use Rattle.hwp_claim_frame.specs.hwp_page.History.{BodyValue}
use Rattle.hwp_claim_frame.specs.hwp_core_rule.declared.Turn.{Turn}
use Rattle.hwp_claim_frame.specs.hwp_core_rule.declared.Turn.TheVariants.{Answered}
use Rattle.hwp_evict.specs.declared.take.Take.{Take}
use Rattle.hwp_evict.specs.declared.take.TakeAnswer.{TakeAnswer}
use Rattle.hwp_evict.specs.Takes as takes
use Rattle.hwp_soft_move.specs.declared.relocate.Relocate.{Relocate}
use Rattle.hwp_soft_move.specs.Relocations as relocations
use Rattle.hwp_soft.specs.declared.soft.SoftAnswer.{SoftAnswer}
use Rattle.hwp_soft.specs.declared.soft.SoftAt.{SoftAt}
use Rattle.hwp_soft.specs.declared.soft.SoftAt.TheVariants as at
use Rattle.hwp_soft.specs.Softs.{IsRelocated, after_take, after_take_by}

pub take-ends : {who own : Who} {frame from : Frame} {page held : Page} {body in_hand : BodyValue} {next after : Take} {answer : TakeAnswer} {x : SoftAt}
    → own ≡ who → from ≡ frame → held ≡ page → in_hand ≡ body → after ≡ next → Some answer ≡ takes.answer after
    → x ≡ after_take_by own from held in_hand after (Some answer) → x ≡ after_take who frame page body next
take-ends own-is from-is held-is body-is after-is answer-is x-is = rw (← own-is, ← from-is, ← held-is, ← body-is, ← after-is, ← answer-is) x-is

pub move-ends : {r after : Relocate} {answer : SoftAnswer} {found : ℕ} {turn : Turn} {x : SoftAt} (own-turn : Turn) (over : Bool)
    → relocations.Follows r found after own-turn → over ≡ is_none (relocations.plan after) → x ≡ cond over (at.Over answer) (at.Relocate after answer) → turn ≡ cond over Answered own-turn
    → IsRelocated r answer found x turn
move-ends {after = after} own-turn true follows over-is x-is turn-is = record { after = after; own_turn = own-turn; follows = follows; next_is = rw (← over-is) x-is; turn_is = rw (← over-is) turn-is }
move-ends {after = after} own-turn false follows over-is x-is turn-is = record { after = after; own_turn = own-turn; follows = follows; next_is = rw (← over-is) x-is; turn_is = rw (← over-is) turn-is }
