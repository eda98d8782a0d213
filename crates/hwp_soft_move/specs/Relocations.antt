-- A page put into another frame, and its old frame out of use: the task's states and its steps.
use Rattle.std.specs.Prelude.{◌≡◌, ℕ, ◌+◌, ◌-◌, true, false, cond, Option, Some, None, is_none}
use Rattle.std.specs.FinSet as set
use Rattle.std.specs.Ordering.{nat_cmp}
use Rattle.hwp_claim_frame.specs.hwp_geom.declared.Frame.{Frame}
use Rattle.hwp_claim_frame.specs.hwp_geom.declared.Page.{Page}
use Rattle.hwp_claim_frame.specs.hwp_geom.declared.Who.{Who}
use Rattle.hwp_claim_frame.specs.hwp_page.declared.At.{At}
use Rattle.hwp_claim_frame.specs.hwp_page.History.{BodyValue}
use Rattle.hwp_claim_frame.specs.hwp_core_rule.declared.Step.{Step}
use Rattle.hwp_claim_frame.specs.hwp_core_rule.declared.Step.TheVariants as steps
use Rattle.hwp_claim_frame.specs.hwp_core_rule.Words.{Words}
use Rattle.hwp_claim_frame.specs.hwp_core_rule.declared.Turn.{Turn}
use Rattle.hwp_claim_frame.specs.hwp_core_rule.declared.Turn.TheVariants.{Moved}
use Rattle.hwp_claim_frame.specs.hwp_core_rule.Ranks.{pass, stale_weight}
use Rattle.hwp_claim_frame.specs.hwp_core.declared.refer.Refer.{Refer}
use Rattle.hwp_claim_frame.specs.hwp_core.declared.refer.ReferAt.{ReferAt}
use Rattle.hwp_claim_frame.specs.hwp_core.declared.refer.ReferAt.TheVariants as refer_at
use Rattle.hwp_claim_frame.specs.hwp_core.declared.release.Release.{Release}
use Rattle.hwp_claim_frame.specs.hwp_core.Refers as refers
use Rattle.hwp_claim_frame.specs.hwp_core.Releases as releases
use Rattle.hwp_soft_move.specs.declared.relocate.Relocate.{Relocate}
use Rattle.hwp_soft_move.specs.declared.relocate.RelocateAt.{RelocateAt}
use Rattle.hwp_soft_move.specs.declared.relocate.RelocateAt.TheVariants as at
use Rattle.hwp_soft_move.specs.declared.relocate.Transfer.{Transfer}
use Rattle.hwp_soft_move.specs.declared.remap.Remap.{Remap}
use Rattle.hwp_soft_move.specs.Remaps as remaps
use Rattle.hwp_soft_move.specs.Remaps.{IsCount}

abbrev pub begin : Transfer → set.FinSet nat_cmp → At → BodyValue → Relocate
begin transfer maps done body = record { transfer = transfer; maps = maps; done = done; body = Some body; at = at.Count }

-- two references are counted, and one for each translation in use
pub record IsBegun (who : Who) (page : Page) (from to : Frame) (maps : set.FinSet nat_cmp) (done : At) (body : BodyValue) (r : Relocate) : Type 0 where
  pub number : ℕ
  pub counted : IsCount maps number
  pub is : r ≡ begin (record { who = who; page = page; from = from; to = to; count = number + 2 }) maps done body

abbrev pub plan_at : Transfer → RelocateAt → Option Step
plan_at t at.Count = Some (steps.CountPoison false)
plan_at t at.SetOwner = Some (steps.SetOwner t.to t.page true)
plan_at t (at.Refer r) = refers.plan r
plan_at t (at.Remap r) = remaps.plan r
plan_at t at.SetCache = Some (steps.SetCache t.page (Some t.to))
plan_at t at.ClearOwner = Some (steps.SetOwner t.from t.page false)
plan_at t at.UnlockFrame = Some (steps.UnlockFrame t.to)
plan_at t (at.Release r) = releases.plan r
plan_at t at.PutRef = Some (steps.PutRef t.from (t.count - 1))
plan_at t at.Retire = Some (steps.Retire t.from)
plan_at t at.UnlockPage = Some (steps.UnlockPage t.page)
plan_at t at.Over = None

abbrev pub plan : Relocate → Option Step
plan r = plan_at r.transfer r.at

abbrev pub put_at : Option BodyValue → RelocateAt → Option BodyValue
put_at body at.UnlockFrame = body
put_at body _ = None

abbrev pub put : Relocate → Option BodyValue
put r = put_at r.body r.at

-- the body that is left once it has gone home
abbrev pub left_at : Option BodyValue → RelocateAt → Option BodyValue
left_at body at.UnlockFrame = None
left_at body _ = body

abbrev pub bare : Relocate → Relocate
bare r = record r { body = left_at r.body r.at }

-- once all translations are written, the cache word is
abbrev pub after_remap : Remap → RelocateAt
after_remap r = cond (is_none r.next) at.SetCache (at.Remap r)

pub record StartsRemap (t : Transfer) (maps : set.FinSet nat_cmp) (x : RelocateAt) : Type 0 where
  pub remap : Remap
  pub begun : remaps.IsBegun t.who t.page t.from t.to maps t.count remap
  pub next_is : x ≡ after_remap remap

-- once the references to the new frame are taken, the translations are written
abbrev pub AfterReferAt : Transfer → set.FinSet nat_cmp → Refer → ReferAt → RelocateAt → Type 0
AfterReferAt t maps r refer_at.Over x = StartsRemap t maps x
AfterReferAt t maps r _ x = x ≡ at.Refer r

abbrev pub AfterRefer : Transfer → set.FinSet nat_cmp → Refer → RelocateAt → Type 0
AfterRefer t maps r x = AfterReferAt t maps r r.at x

abbrev pub IsReferred : Transfer → set.FinSet nat_cmp → Refer → ℕ → RelocateAt → Turn → Type 0
IsReferred t maps r found x turn = AfterRefer t maps (refers.next r found) x × (turn ≡ refers.turn r found)

-- a translation more is written
pub record IsRemapped (r : Remap) (x : RelocateAt) : Type 0 where
  pub after : Remap
  pub follows : remaps.Follows r after
  pub next_is : x ≡ after_remap after

abbrev pub after_release : Release → RelocateAt
after_release r = cond (is_none (releases.plan r)) at.PutRef (at.Release r)

abbrev pub FollowsAt : Transfer → set.FinSet nat_cmp → RelocateAt → ℕ → RelocateAt → Turn → Type 0
FollowsAt t maps at.Count found x turn = (x ≡ at.SetOwner) × (turn ≡ Moved)
FollowsAt t maps at.SetOwner found x turn = (x ≡ at.Refer (refers.begin t.who t.to (t.count - 1))) × (turn ≡ Moved)
FollowsAt t maps (at.Refer r) found x turn = IsReferred t maps r found x turn
FollowsAt t maps (at.Remap r) found x turn = IsRemapped r x × (turn ≡ Moved)
FollowsAt t maps at.SetCache found x turn = (x ≡ at.ClearOwner) × (turn ≡ Moved)
FollowsAt t maps at.ClearOwner found x turn = (x ≡ at.UnlockFrame) × (turn ≡ Moved)
FollowsAt t maps at.UnlockFrame found x turn = (x ≡ at.Release (releases.begin t.who t.to 1)) × (turn ≡ Moved)
FollowsAt t maps (at.Release r) found x turn = (x ≡ after_release (releases.next r found)) × (turn ≡ Moved)
FollowsAt t maps at.PutRef found x turn = (x ≡ at.Retire) × (turn ≡ Moved)
FollowsAt t maps at.Retire found x turn = (x ≡ at.UnlockPage) × (turn ≡ Moved)
FollowsAt t maps at.UnlockPage found x turn = (x ≡ at.Over) × (turn ≡ Moved)
FollowsAt t maps at.Over found x turn = (x ≡ at.Over) × (turn ≡ Moved)

abbrev pub Follows : Relocate → ℕ → Relocate → Turn → Type 0
Follows r found after turn = (after ≡ record r { at = after.at }) × FollowsAt r.transfer r.maps r.at found after.at turn

-- the translations that are written are those of the page
abbrev pub ShowsAt : set.FinSet nat_cmp → RelocateAt → Type 0
ShowsAt maps (at.Remap r) = remaps.Shows r × (r.slots.value ≡ maps)
ShowsAt maps _ = Unit {0}

abbrev pub Shows : Relocate → Type 0
Shows r = ShowsAt r.maps r.at

-- 1 while the old frame is locked, and 2 while the page is
abbrev pub class_at : RelocateAt → ℕ
class_at at.UnlockPage = 2
class_at at.Over = 4
class_at _ = 1

abbrev pub class : Relocate → ℕ
class r = class_at r.at

-- the turns that are left, where no word changes: a page's translations are written
abbrev pub cost_at : RelocateAt → Words → ℕ
cost_at at.Count words = pass + 5
cost_at at.SetOwner words = pass + 4
cost_at (at.Refer r) words = refers.cost r words + (pass + 1)
cost_at (at.Remap r) words = remaps.cost r words + 9
cost_at at.SetCache words = 9
cost_at at.ClearOwner words = 8
cost_at at.UnlockFrame words = 7
cost_at (at.Release r) words = releases.cost r words + 3
cost_at at.PutRef words = 3
cost_at at.Retire words = 2
cost_at at.UnlockPage words = 1
cost_at at.Over words = 0

abbrev pub cost : Relocate → Words → ℕ
cost r words = cost_at r.at words

-- it is no more than this
abbrev pub relocate_most : ℕ
relocate_most = stale_weight + pass + 2
