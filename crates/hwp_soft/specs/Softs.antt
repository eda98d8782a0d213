-- A frame taken out of use while its content is good: the task's states, its steps and what they come to.
use Rattle.std.specs.Prelude.{◌≡◌, ◌⊎◌, ℕ, ◌+◌, ◌*◌, ◌-◌, ◌<◌, ◌==◌, Bool, true, false, cond, [], ◌∷◌, ◌++◌, Option, Some, None, is_none, length, MatchBool}
use Rattle.hwp_claim_frame.specs.hwp_geom.declared.Frame.{Frame}
use Rattle.hwp_claim_frame.specs.hwp_geom.declared.Layout.{Layout}
use Rattle.hwp_claim_frame.specs.hwp_geom.declared.Page.{Page}
use Rattle.hwp_claim_frame.specs.hwp_geom.declared.Who.{Who}
use Rattle.hwp_claim_frame.specs.hwp_page.declared.At.{At}
use Rattle.hwp_claim_frame.specs.hwp_page.declared.What.TheVariants as entries
use Rattle.hwp_claim_frame.specs.hwp_page.History.{BodyValue}
use Rattle.hwp_claim_frame.specs.hwp_page.Step.{Allowed}
use Rattle.hwp_claim_frame.specs.hwp_words.Frames.{cycle_of, is_poisoned}
use Rattle.hwp_claim_frame.specs.hwp_words.Stops.{is_stopped}
use Rattle.hwp_claim_frame.specs.hwp_core_rule.declared.SharedWord.TheVariants as places
use Rattle.hwp_claim_frame.specs.hwp_core_rule.declared.Step.{Step}
use Rattle.hwp_claim_frame.specs.hwp_core_rule.declared.Step.TheVariants as steps
use Rattle.hwp_claim_frame.specs.hwp_core_rule.Words.{Words}
use Rattle.hwp_claim_frame.specs.hwp_core_rule.declared.Turn.{Turn}
use Rattle.hwp_claim_frame.specs.hwp_core_rule.declared.Turn.TheVariants.{Moved, Answered}
use Rattle.hwp_claim_frame.specs.hwp_core_rule.Ranks.{free_room, pass}
use Rattle.hwp_claim_frame.specs.hwp_core.declared.release.Release.{Release}
use Rattle.hwp_evict.specs.declared.take.Take.{Take}
use Rattle.hwp_evict.specs.declared.take.TakeAnswer.{TakeAnswer}
use Rattle.hwp_evict.specs.declared.take.TakeAnswer.TheVariants as take_answers
use Rattle.hwp_claim_frame.specs.hwp_core.declared.unhold.Unhold.{Unhold}
use Rattle.hwp_claim_frame.specs.hwp_core.GiveUps as give_ups
use Rattle.hwp_claim_frame.specs.hwp_core.Releases as releases
use Rattle.hwp_evict.specs.Takes as takes
use Rattle.hwp_claim_frame.specs.hwp_core.Unholds as unholds
use Rattle.hwp_soft_move.specs.declared.discard.Discard.{Discard}
use Rattle.hwp_soft_move.specs.declared.relocate.Relocate.{Relocate}
use Rattle.hwp_soft_move.specs.declared.relocate.RelocateAt.{RelocateAt}
use Rattle.hwp_soft_move.specs.declared.relocate.RelocateAt.TheVariants as relocate_at
use Rattle.hwp_soft_move.specs.declared.seize.Seize.{Seize}
use Rattle.hwp_soft_move.specs.declared.seize.SeizeAt.{SeizeAt}
use Rattle.hwp_soft_move.specs.declared.seize.SeizeAt.TheVariants as seize_at
use Rattle.hwp_soft_move.specs.declared.seize.SeizeAnswer.{SeizeAnswer}
use Rattle.hwp_soft_move.specs.declared.seize.SeizeAnswer.TheVariants as seize_answers
use Rattle.hwp_soft.specs.declared.soft.Soft.{Soft}
use Rattle.hwp_soft.specs.declared.soft.SoftAnswer.{SoftAnswer}
use Rattle.hwp_soft.specs.declared.soft.SoftAnswer.TheVariants as answers
use Rattle.hwp_soft.specs.declared.soft.SoftAt.{SoftAt}
use Rattle.hwp_soft.specs.declared.soft.SoftAt.TheVariants as at
use Rattle.hwp_soft_move.specs.Discards as discards
use Rattle.hwp_soft_move.specs.Relocations as relocations
use Rattle.hwp_soft_move.specs.Seizes as seizes

abbrev pub begin : Who → Frame → Soft
begin who frame = record { who = who; frame = frame; at = at.LoadStop }

abbrev pub plan_at : Frame → SoftAt → Option Step
plan_at frame at.LoadStop = Some (steps.Load places.Stop)
plan_at frame (at.Seize s) = seizes.plan s
plan_at frame (at.Discard d) = discards.plan d
plan_at frame (at.LoadBad page body) = Some (steps.Load (places.Bad frame))
plan_at frame (at.Take page body t) = takes.plan t
plan_at frame (at.Poison page body to) = Some (steps.Poison frame false)
plan_at frame (at.UnlockSpare page body to) = Some (steps.UnlockFrame to)
plan_at frame (at.ReleaseSpare page body r) = releases.plan r
plan_at frame (at.Relocate r answer) = relocations.plan r
plan_at frame (at.Unhold u answer) = unholds.plan u
plan_at frame (at.GiveUp g) = give_ups.plan g
plan_at frame (at.Over answer) = None

abbrev pub plan : Soft → Option Step
plan s = plan_at s.frame s.at

abbrev pub put_at : SoftAt → Option BodyValue
put_at (at.Seize s) = seizes.put s
put_at (at.Discard d) = discards.put d
put_at (at.Relocate r answer) = relocations.put r
put_at (at.Unhold u answer) = unholds.put u
put_at (at.GiveUp g) = give_ups.put g
put_at _ = None

abbrev pub put : Soft → Option BodyValue
put s = put_at s.at

abbrev pub bare_at : SoftAt → SoftAt
bare_at (at.Seize s) = at.Seize (seizes.bare s)
bare_at (at.Discard d) = at.Discard (discards.bare d)
bare_at (at.Relocate r answer) = at.Relocate (relocations.bare r) answer
bare_at (at.Unhold u answer) = at.Unhold (unholds.bare u) answer
bare_at (at.GiveUp g) = at.GiveUp (give_ups.bare g)
bare_at at.LoadStop = at.LoadStop
bare_at (at.LoadBad page body) = at.LoadBad page body
bare_at (at.Take page body t) = at.Take page body t
bare_at (at.Poison page body to) = at.Poison page body to
bare_at (at.UnlockSpare page body to) = at.UnlockSpare page body to
bare_at (at.ReleaseSpare page body r) = at.ReleaseSpare page body r
bare_at (at.Over answer) = at.Over answer

abbrev pub bare : Soft → Soft
bare s = record s { at = bare_at s.at }

abbrev pub answer_at : SoftAt → Option SoftAnswer
answer_at (at.Over answer) = Some answer
answer_at _ = None

abbrev pub answer : Soft → Option SoftAnswer
answer s = answer_at s.at

-- the page is held, and its body lies in the state
abbrev pub is_held : SoftAt → Bool
is_held (at.LoadBad page body) = true
is_held (at.Take page body t) = true
is_held (at.Poison page body to) = true
is_held (at.UnlockSpare page body to) = true
is_held (at.ReleaseSpare page body r) = true
is_held _ = false

-- and is to move, with room for its translations in use
abbrev pub is_movable : SoftAt → Bool
is_movable (at.Take page body t) = true
is_movable (at.Poison page body to) = true
is_movable _ = false

abbrev pub IsHeld : SoftAt → Page → BodyValue → Type 0
IsHeld (at.LoadBad own in_hand) page body = (page ≡ own) × (body ≡ in_hand)
IsHeld (at.Take own in_hand t) page body = (page ≡ own) × (body ≡ in_hand)
IsHeld (at.Poison own in_hand to) page body = (page ≡ own) × (body ≡ in_hand)
IsHeld (at.UnlockSpare own in_hand to) page body = (page ≡ own) × (body ≡ in_hand)
IsHeld (at.ReleaseSpare own in_hand r) page body = (page ≡ own) × (body ≡ in_hand)
IsHeld _ page body = ⊥

abbrev pub after_stop : Who → Frame → ℕ → SoftAt
after_stop who frame word = cond (is_stopped word) (at.Over answers.Stopped) (at.Seize (seizes.begin who frame))

abbrev pub owned_by : Seize → Page → SeizeAt → SoftAt
owned_by s page (seize_at.Owned own body) = at.LoadBad page body
owned_by s page _ = at.Seize s

-- once the frame is seized, one without a page goes out of use, and the bad lines of one with a page are read
abbrev pub after_seize_by : Who → Frame → Seize → Option SeizeAnswer → SoftAt
after_seize_by who frame s None = at.Seize s
after_seize_by who frame s (Some seize_answers.Kernel) = at.Over answers.Kernel
after_seize_by who frame s (Some seize_answers.Already) = at.Over answers.Already
after_seize_by who frame s (Some seize_answers.Grabbed) = at.Discard (discards.begin who frame false)
after_seize_by who frame s (Some seize_answers.Free) = at.Discard (discards.begin who frame true)
after_seize_by who frame s (Some (seize_answers.Owned page)) = owned_by s page s.at

abbrev pub after_seize : Who → Frame → Seize → SoftAt
after_seize who frame s = after_seize_by who frame s (seizes.answer s)

abbrev pub after_discard_by : Discard → Option (Option ℕ) → SoftAt
after_discard_by d None = at.Discard d
after_discard_by d (Some None) = at.Over answers.Already
after_discard_by d (Some (Some cycle)) = at.Over (answers.TakenFree cycle)

abbrev pub after_discard : Discard → SoftAt
after_discard d = after_discard_by d (discards.answer d)

-- the page is let go as it was
abbrev pub let_go : Who → Frame → Page → BodyValue → SoftAnswer → SoftAt
let_go who frame page body answer = at.Unhold (unholds.begin who page (Some frame) 1 body) answer

-- there is room for the entry, and another frame is taken
pub record TakesOne (who : Who) (page : Page) (body : BodyValue) (x : SoftAt) : Type 0 where
  pub spare : ℕ
  pub some : 0 < spare
  pub next_is : x ≡ at.Take page (record body { spare = spare }) (takes.begin who)

-- memory for the entry is refused, and the command gives up
abbrev pub given_up : Who → Frame → Page → BodyValue → SoftAt
given_up who frame page body = at.GiveUp (give_ups.with_page who page (Some frame) 1 body)

abbrev pub AfterBad : Who → Frame → Page → BodyValue → ℕ → SoftAt → Type 0
AfterBad who frame page body word x =
    MatchBool (word == 0) ((x ≡ given_up who frame page body) ⊎ TakesOne who page body x) (x ≡ let_go who frame page body (answers.HasBad (record { 0 = word })))

abbrev pub after_take_by : Who → Frame → Page → BodyValue → Take → Option TakeAnswer → SoftAt
after_take_by who frame page body t None = at.Take page body t
after_take_by who frame page body t (Some (take_answers.Taken to)) = at.Poison page body to
after_take_by who frame page body t (Some take_answers.NoFrame) = let_go who frame page body answers.NoFrame

abbrev pub after_take : Who → Frame → Page → BodyValue → Take → SoftAt
after_take who frame page body t = after_take_by who frame page body t (takes.answer t)

-- there is room for the entry, which the page's state allows
pub record CanMakeEntry (body : BodyValue) : Type 0 where
  pub room : 0 < body.spare
  pub allowed : Allowed body.layout body.page body.state entries.Soft

-- the body with the entry
abbrev pub with_entry : Who → BodyValue → BodyValue
with_entry who body = record body { log = body.log ++ (record { who = who; what = entries.Soft }) ∷ []; spare = body.spare - 1 }

abbrev pub place : Page → BodyValue → At
place page body = record { page = page; entry = length body.log }

-- the page moves to the other frame, by the entry that is made
pub record Moves (who : Who) (frame : Frame) (page : Page) (body : BodyValue) (to : Frame) (cycle : ℕ) (x : SoftAt) : Type 0 where
  pub relocate : Relocate
  pub begun : relocations.IsBegun who page frame to body.state.maps (place page body) (with_entry who body) relocate
  pub next_is : x ≡ at.Relocate relocate (answers.Moved to (place page body) cycle)

-- a frame that was poisoned meanwhile is left, and the other one given back
abbrev pub AfterPoison : Who → Frame → Page → BodyValue → Frame → ℕ → SoftAt → Type 0
AfterPoison who frame page body to word x = MatchBool (is_poisoned word) (x ≡ at.UnlockSpare page body to) (Moves who frame page body to (cycle_of word) x)

abbrev pub after_release : Who → Frame → Page → BodyValue → Release → SoftAt
after_release who frame page body r = cond (is_none (releases.plan r)) (let_go who frame page body answers.Already) (at.ReleaseSpare page body r)

abbrev pub after_relocate : Relocate → SoftAnswer → SoftAt
after_relocate r answer = cond (is_none (relocations.plan r)) (at.Over answer) (at.Relocate r answer)

abbrev pub after_unhold : Unhold → SoftAnswer → SoftAt
after_unhold u answer = cond (is_none (unholds.plan u)) (at.Over answer) (at.Unhold u answer)

-- the turn that ended the command answers it
abbrev pub ended : SoftAt → Turn → Turn
ended (at.Over answer) turn = Answered
ended _ turn = turn

pub record IsRelocated (r : Relocate) (answer : SoftAnswer) (found : ℕ) (x : SoftAt) (turn : Turn) : Type 0 where
  pub after : Relocate
  pub own_turn : Turn
  pub follows : relocations.Follows r found after own_turn
  pub next_is : x ≡ after_relocate after answer
  pub turn_is : turn ≡ ended (after_relocate after answer) own_turn

abbrev pub FollowsAt : Layout → Who → Frame → SoftAt → ℕ → Option BodyValue → SoftAt → Turn → Type 0
FollowsAt layout who frame at.LoadStop found got x turn = (x ≡ after_stop who frame found) × (turn ≡ ended (after_stop who frame found) Moved)
FollowsAt layout who frame (at.Seize s) found got x turn = (x ≡ after_seize who frame (seizes.next s found got)) × (turn ≡ ended (after_seize who frame (seizes.next s found got)) (seizes.turn s found))
FollowsAt layout who frame (at.Discard d) found got x turn = (x ≡ after_discard (discards.next d found)) × (turn ≡ ended (after_discard (discards.next d found)) Moved)
FollowsAt layout who frame (at.LoadBad page body) found got x turn = AfterBad who frame page body found x × (turn ≡ Moved)
FollowsAt layout who frame (at.Take page body t) found got x turn = (x ≡ after_take who frame page body (takes.next layout t found)) × (turn ≡ takes.turn t found)
FollowsAt layout who frame (at.Poison page body to) found got x turn = AfterPoison who frame page body to found x × (turn ≡ Moved)
FollowsAt layout who frame (at.UnlockSpare page body to) found got x turn = (x ≡ at.ReleaseSpare page body (releases.begin who to 1)) × (turn ≡ Moved)
FollowsAt layout who frame (at.ReleaseSpare page body r) found got x turn = (x ≡ after_release who frame page body (releases.next r found)) × (turn ≡ Moved)
FollowsAt layout who frame (at.Relocate r answer) found got x turn = IsRelocated r answer found x turn
FollowsAt layout who frame (at.Unhold u answer) found got x turn = (x ≡ after_unhold (unholds.next u found) answer) × (turn ≡ ended (after_unhold (unholds.next u found) answer) Moved)
FollowsAt layout who frame (at.GiveUp g) found got x turn = (x ≡ at.GiveUp (give_ups.next g found)) × (turn ≡ give_ups.turn g)
FollowsAt layout who frame (at.Over answer) found got x turn = (x ≡ at.Over answer) × (turn ≡ Moved)

abbrev pub Follows : Layout → Soft → ℕ → Option BodyValue → Soft → Turn → Type 0
Follows layout s found got after turn = (after ≡ record s { at = after.at }) × FollowsAt layout s.who s.frame s.at found got after.at turn

abbrev pub ShowsAt : SoftAt → ℕ → Option BodyValue → Type 0
ShowsAt (at.Seize s) found got = seizes.Shows s found got
ShowsAt (at.Take page body t) found got = takes.Shows t found got
ShowsAt (at.Poison page body to) found got = CanMakeEntry body
ShowsAt (at.Relocate r answer) found got = relocations.Shows r
ShowsAt _ found got = Unit {0}

abbrev pub Shows : Soft → ℕ → Option BodyValue → Type 0
Shows s found got = ShowsAt s.at found got

-- ---- the rank

-- that of what is being done
abbrev pub class_at : SoftAt → ℕ
class_at at.LoadStop = 4
class_at (at.Seize s) = seizes.class s
class_at (at.Discard d) = discards.class d
class_at (at.LoadBad page body) = 1
class_at (at.Take page body t) = 1
class_at (at.Poison page body to) = 1
class_at (at.UnlockSpare page body to) = 1
class_at (at.ReleaseSpare page body r) = 1
class_at (at.Relocate r answer) = relocations.class r
class_at (at.Unhold u answer) = unholds.class u
class_at (at.GiveUp g) = give_ups.class g
class_at (at.Over answer) = 4

abbrev pub class : Soft → ℕ
class s = class_at s.at

-- the cycle in which the command poisoned its frame
abbrev pub cycle_in : SoftAnswer → Option ℕ
cycle_in (answers.TakenFree cycle) = Some cycle
cycle_in (answers.Moved to place cycle) = Some cycle
cycle_in _ = None

-- the failure is the task's from its poison on, until the frame is out of use
abbrev pub claim_of : Frame → SoftAnswer → RelocateAt → Option (Frame × ℕ)
claim_of frame (answers.Moved to place cycle) relocate_at.UnlockPage = None
claim_of frame (answers.Moved to place cycle) relocate_at.Over = None
claim_of frame (answers.Moved to place cycle) _ = Some (frame, cycle)
claim_of frame answer x = None

abbrev pub claims_at : Frame → SoftAt → Option (Frame × ℕ)
claims_at frame (at.Discard d) = discards.claims d
claims_at frame (at.Relocate r answer) = claim_of frame answer r.at
claims_at frame _ = None

abbrev pub claims : Soft → Option (Frame × ℕ)
claims s = claims_at s.frame s.at

abbrev pub aborts_at : SoftAt → Bool
aborts_at (at.Seize s) = seizes.aborts s
aborts_at _ = false

abbrev pub aborts : Soft → Bool
aborts s = aborts_at s.at

-- the turns once a frame is taken for the page: it moves there
abbrev pub move_most : ℕ
move_most = pass + 6

-- and once the frame is seized: one is taken for its page
abbrev pub seized_most : ℕ
seized_most = move_most + free_room + 14

-- the turns that are left, where no word changes
abbrev pub cost_at : SoftAt → Words → ℕ
cost_at at.LoadStop words = seized_most + 10
cost_at (at.Seize s) words = seizes.cost_with seized_most s.at words
cost_at (at.Discard d) words = discards.cost d words
cost_at (at.LoadBad page body) words = seized_most
cost_at (at.Take page body t) words = takes.cost t words + move_most
cost_at (at.Poison page body to) words = move_most
cost_at (at.UnlockSpare page body to) words = 9
cost_at (at.ReleaseSpare page body r) words = releases.cost r words + 5
cost_at (at.Relocate r answer) words = relocations.cost r words
cost_at (at.Unhold u answer) words = unholds.cost u words
cost_at (at.GiveUp g) words = give_ups.cost g words
cost_at (at.Over answer) words = 0

abbrev pub cost : Soft → Words → ℕ
cost s words = cost_at s.at words

-- it is no more than this
abbrev pub soft_most : ℕ
soft_most = 2 * seized_most + seizes.seize_most
