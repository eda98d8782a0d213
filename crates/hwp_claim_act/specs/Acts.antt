-- A memory failure that acts on the page in its frame: the task's states and its steps.
use Rattle.std.specs.Prelude.{◌≡◌, ◌⊎◌, ℕ, ◌+◌, ◌<◌, ◌≤◌, true, cond, List, [], ◌∷◌, Option, Some, None, is_none, length}
use Rattle.hwp_core.specs.hwp_geom.declared.Frame.{Frame}
use Rattle.hwp_core.specs.hwp_geom.declared.Page.{Page}
use Rattle.hwp_core.specs.hwp_geom.declared.Thread.{Thread}
use Rattle.hwp_core.specs.hwp_geom.declared.Who.{Who}
use Rattle.hwp_core.specs.hwp_kill.declared.Seen.{Seen}
use Rattle.hwp_core.specs.hwp_page.Actions.{situation_of}
use Rattle.hwp_core.specs.hwp_page.History.{BodyValue}
use Rattle.hwp_core.specs.hwp_page.Situations.{is_signalling}
use Rattle.hwp_core.specs.hwp_core_rule.declared.Step.{Step}
use Rattle.hwp_core.specs.hwp_core_rule.Words.{Words}
use Rattle.hwp_core.specs.hwp_core_rule.declared.Turn.{Turn}
use Rattle.hwp_core.specs.hwp_core_rule.declared.Turn.TheVariants.{Moved}
use Rattle.hwp_core.specs.declared.give_up.GiveUp.{GiveUp}
use Rattle.hwp_core.specs.GiveUps as give_ups
use Rattle.hwp_core.specs.declared.clear.Clear.{Clear}
use Rattle.hwp_core.specs.Clears as clears
use Rattle.hwp_core.specs.hwp_core_rule.Ranks.{pass}
use Rattle.hwp_claim_act.specs.declared.abandon.Abandon.{Abandon}
use Rattle.hwp_claim_act.specs.declared.abandon.AbandonAt.{AbandonAt}
use Rattle.hwp_claim_act.specs.declared.abandon.AbandonAt.TheVariants as abandon_at
use Rattle.hwp_claim_act.specs.declared.abandon.Failed.{Failed}
use Rattle.hwp_claim_act.specs.declared.act.Act.{Act}
use Rattle.hwp_claim_act.specs.declared.act.ActAt.{ActAt}
use Rattle.hwp_claim_act.specs.declared.act.ActAt.TheVariants as at
use Rattle.hwp_claim_act.specs.declared.failing.Entered.{Entered}
use Rattle.hwp_claim_act.specs.declared.read_policies.ReadPolicies.{ReadPolicies}
use Rattle.hwp_claim_act.specs.Abandons as abandons
use Rattle.hwp_claim_act.specs.Failing.{CanEnter, HasMadeEntry, bars_of}
use Rattle.hwp_claim_act.specs.Reads as reads

abbrev pub plan_at : ActAt → Option Step
plan_at (at.Read r) = reads.plan r
plan_at (at.Clear c losses failed body) = clears.plan c
plan_at (at.Abandon a) = abandons.plan a
plan_at (at.GiveUp g) = give_ups.plan g
plan_at (at.Over failed) = None

abbrev pub plan : Act → Option Step
plan a = plan_at a.at

abbrev pub put_at : ActAt → Option BodyValue
put_at (at.Abandon a) = abandons.put a
put_at (at.GiveUp g) = give_ups.put g
put_at _ = None

abbrev pub put : Act → Option BodyValue
put a = put_at a.at

abbrev pub bare_at : ActAt → ActAt
bare_at (at.Read r) = at.Read r
bare_at (at.Clear c losses failed body) = at.Clear c losses failed body
bare_at (at.Abandon a) = at.Abandon (abandons.bare a)
bare_at (at.GiveUp g) = at.GiveUp (give_ups.bare g)
bare_at (at.Over failed) = at.Over failed

abbrev pub bare : Act → Act
bare a = record a { at = bare_at a.at }

abbrev pub answer_at : ActAt → Option Failed
answer_at (at.Over failed) = failed
answer_at _ = None

abbrev pub answer : Act → Option Failed
answer a = answer_at a.at

-- the failure, once its entry is listed
abbrev pub failed_at : ActAt → List Failed
failed_at (at.Abandon a) = abandons.failed_now a
failed_at (at.Over (Some failed)) = failed ∷ []
failed_at _ = []

-- memory is refused, and the command gives up
abbrev pub given_up : Who → Page → Frame → BodyValue → ActAt
given_up who page frame body = at.GiveUp (give_ups.with_page who page (Some frame) 1 body)

-- the page leaves its frame, to which the command has so many references
abbrev pub abandoned : Who → Page → Frame → ℕ → Entered → ActAt
abandoned who page frame count entered = at.Abandon (abandons.begin who page frame count entered.losses entered.failed entered.body)

-- once all translations are written, the page leaves its frame
abbrev pub after_clear : Who → Page → Frame → Clear → Entered → ActAt
after_clear who page frame c entered = cond (is_none c.next) (at.Abandon (abandons.begin who page frame c.count entered.losses entered.failed entered.body)) (at.Clear c entered.losses entered.failed entered.body)

-- the entry is made, and the translations that were in use are written
pub record Enters (who : Who) (page : Page) (frame : Frame) (required : Option Thread) (body : BodyValue) (seen : List Seen) (x : ActAt) : Type 0 where
  pub can : CanEnter required body seen
  pub entered : Entered
  pub made : HasMadeEntry who required body seen entered
  pub clear : Clear
  pub begun : clears.IsBegun who page frame body.state.maps (bars_of (situation_of body.state)) clear
  pub next_is : x ≡ after_clear who page frame clear entered

-- the page is in its frame, there is room for its entry, and the failure signals
pub record IsReady (body : BodyValue) : Type 0 where
  pub cached : body.state.cached ≡ true
  pub room : 0 < body.spare
  pub signalling : is_signalling (situation_of body.state) ≡ true

pub record CanReadOn (r : ReadPolicies) : Type 0 where
  pub ready : IsReady r.body
  pub next : reads.IsNextOf r.body r.required r.seen.items r.next

abbrev pub AfterReadAt : Who → Page → Frame → ReadPolicies → Option Thread → ActAt → Type 0
AfterReadAt who page frame r (Some thread) x = x ≡ at.Read r
AfterReadAt who page frame r None x = Enters who page frame r.required r.body r.seen.items x

abbrev pub AfterRead : Who → Page → Frame → ReadPolicies → ActAt → Type 0
AfterRead who page frame r x = AfterReadAt who page frame r r.next x

-- the body with room for an entry
abbrev pub with_room : BodyValue → ℕ → BodyValue
with_room body spare = record body { spare = spare }

-- the policies are read, from the first one on; there is room for those of all threads
pub record StartsReading (who : Who) (page : Page) (frame : Frame) (required : Option Thread) (body : BodyValue) (x : ActAt) : Type 0 where
  pub ready : IsReady body
  pub read : ReadPolicies
  pub capacity : ℕ
  pub enough : length body.layout.threads ≤ capacity
  pub begun : reads.IsBegun who frame required body capacity read
  pub next_is : AfterRead who page frame read x

-- the entry is made at once
pub record StartsSilent (who : Who) (page : Page) (frame : Frame) (required : Option Thread) (body : BodyValue) (x : ActAt) : Type 0 where
  pub can : CanEnter required body []
  pub enters : Enters who page frame required body [] x

-- the failure begins, or memory is refused
abbrev pub Begins : Who → Page → Frame → Option Thread → BodyValue → ActAt → Type 0
Begins who page frame required body x = (x ≡ given_up who page frame body) ⊎ (StartsSilent who page frame required body x ⊎ StartsReading who page frame required body x)

-- with the room that is made
abbrev pub Starts : Who → Page → Frame → Option Thread → BodyValue → ActAt → Type 0
Starts who page frame required body x = (spare : ℕ) × Begins who page frame required (with_room body spare) x

pub record IsReadOn (who : Who) (page : Page) (frame : Frame) (r : ReadPolicies) (found : ℕ) (x : ActAt) : Type 0 where
  pub after : ReadPolicies
  pub follows : reads.Follows r found after
  pub next_is : AfterRead who page frame after x

pub record IsCleared (who : Who) (page : Page) (frame : Frame) (c : Clear) (entered : Entered) (x : ActAt) : Type 0 where
  pub after : Clear
  pub follows : clears.Follows c after
  pub next_is : x ≡ after_clear who page frame after entered

abbrev pub abandoned_at : Abandon → AbandonAt → ActAt
abandoned_at a abandon_at.Over = at.Over (Some a.failed)
abandoned_at a _ = at.Abandon a

abbrev pub after_abandon : Abandon → ActAt
after_abandon a = abandoned_at a a.at

abbrev pub after_give_up : GiveUp → ActAt
after_give_up g = cond (is_none (give_ups.plan g)) (at.Over None) (at.GiveUp g)

abbrev pub ShowsAt : ActAt → ℕ → Type 0
ShowsAt (at.Read r) found = reads.Shows r found × CanReadOn r
ShowsAt (at.Clear c losses failed body) found = clears.Shows c
ShowsAt (at.Abandon a) found = abandons.Shows a
ShowsAt (at.GiveUp g) found = Unit {0}
ShowsAt (at.Over failed) found = Unit {0}

abbrev pub Shows : Act → ℕ → Type 0
Shows a found = ShowsAt a.at found

abbrev pub FollowsAt : Who → Page → Frame → ActAt → ℕ → ActAt → Turn → Type 0
FollowsAt who page frame (at.Read r) found x turn = IsReadOn who page frame r found x × (turn ≡ Moved)
FollowsAt who page frame (at.Clear c losses failed body) found x turn = IsCleared who page frame c (record { body = body; losses = losses; failed = failed }) x × (turn ≡ Moved)
FollowsAt who page frame (at.Abandon a) found x turn = (x ≡ after_abandon (abandons.next a)) × (turn ≡ Moved)
FollowsAt who page frame (at.GiveUp g) found x turn = (x ≡ after_give_up (give_ups.next g found)) × (turn ≡ give_ups.turn g)
FollowsAt who page frame (at.Over failed) found x turn = (x ≡ at.Over failed) × (turn ≡ Moved)

abbrev pub Follows : Act → ℕ → Act → Turn → Type 0
Follows a found after turn = (after ≡ record a { at = after.at }) × FollowsAt a.who a.page a.frame a.at found after.at turn

-- translations are being written
abbrev pub IsAtClear : ActAt → Type 0
IsAtClear (at.Clear c losses failed body) = Unit {0}
IsAtClear _ = ⊥

abbrev pub class_at : ActAt → ℕ
class_at (at.Read r) = 1
class_at (at.Clear c losses failed body) = 1
class_at (at.Abandon a) = abandons.class a
class_at (at.GiveUp g) = give_ups.class g
class_at (at.Over failed) = 4

abbrev pub class : Act → ℕ
class a = class_at a.at

-- the turns that are left: a page's translations are written, and 24 turns follow them
abbrev pub cost_at : ActAt → Words → ℕ
cost_at (at.Read r) words = reads.cost r + (pass + 17)
cost_at (at.Clear c losses failed body) words = clears.cost c words + 24
cost_at (at.Abandon a) words = abandons.cost a
cost_at (at.GiveUp g) words = give_ups.cost g words
cost_at (at.Over failed) words = 0

abbrev pub cost : Act → Words → ℕ
cost a words = cost_at a.at words

-- it is no more than this
abbrev pub act_most : ℕ
act_most = pass + 50
