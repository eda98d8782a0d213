-- A frame in use, met under its locks: the task's states, its steps and what they come to.
use Rattle.std.specs.Prelude.{◌≡◌, ℕ, ◌+◌, ◌<◌, ◌≤◌, ◌==◌, ◌&&◌, ◌||◌, Bool, true, false, not, cond, [], ◌∷◌, Option, Some, None, is_some, length, slice_index}
use Rattle.hwp_core.specs.hwp_geom.declared.Frame.{Frame}
use Rattle.hwp_core.specs.hwp_geom.declared.Layout.{Layout}
use Rattle.hwp_core.specs.hwp_geom.declared.Page.{Page}
use Rattle.hwp_core.specs.hwp_geom.declared.Who.{Who}
use Rattle.hwp_core.specs.hwp_page.History.{BodyValue}
use Rattle.hwp_core.specs.hwp_words.Frames.{count_of, cycle_of, owner_of, is_handled, is_poisoned}
use Rattle.hwp_core.specs.hwp_words.Names.{page_named}
use Rattle.hwp_core.specs.hwp_core_rule.declared.InHand.{InHand}
use Rattle.hwp_core.specs.hwp_core_rule.declared.Log.{Log}
use Rattle.hwp_core.specs.hwp_core_rule.declared.Step.{Step}
use Rattle.hwp_core.specs.hwp_core_rule.declared.Step.TheVariants as steps
use Rattle.hwp_core.specs.hwp_core_rule.declared.View.{View}
use Rattle.hwp_core.specs.hwp_core_rule.Logs.{log_of}
use Rattle.hwp_core.specs.hwp_core_rule.Views.{body_of, more_of}
use Rattle.hwp_core.specs.hwp_core_rule.Words.{Words}
use Rattle.hwp_core.specs.hwp_core_rule.declared.Turn.{Turn}
use Rattle.hwp_core.specs.hwp_core_rule.declared.Turn.TheVariants.{Moved, Changed, Waits}
use Rattle.hwp_core.specs.hwp_core_rule.Calls.{CanMake, IsOnTurn, logs}
use Rattle.hwp_core.specs.hwp_core_rule.Hands.{Hand, hand_of, hand_after, empty}
use Rattle.hwp_core.specs.hwp_core_rule.Ranks.{stale, stale_weight}
use Rattle.hwp_core.specs.hwp_core_rule.Known.{SawLog}
use Rattle.hwp_core.specs.hwp_core_rule.Turns.{Member}
use Rattle.hwp_core.specs.declared.release.Release.{Release}
use Rattle.hwp_core.specs.declared.release.ReleaseAt.{ReleaseAt}
use Rattle.hwp_core.specs.declared.release.ReleaseAt.TheVariants as release_at
use Rattle.hwp_core.specs.Holds.{is_free, one_ref, locked, HoldsPage, IsBodyOf}
use Rattle.hwp_core.specs.Releases as releases
use Rattle.hwp_core.specs.Unlocks.{FitsFrame, IsReleasing, empty_frame}
use Rattle.hwp_claim_frame.specs.declared.meet.Meet.{Meet}
use Rattle.hwp_claim_frame.specs.declared.meet.MeetAt.{MeetAt}
use Rattle.hwp_claim_frame.specs.declared.meet.MeetAt.TheVariants as at
use Rattle.hwp_claim_frame.specs.declared.meet.MeetAnswer.{MeetAnswer}
use Rattle.hwp_claim_frame.specs.declared.meet.MeetAnswer.TheVariants as answers

-- the failure of this cycle has ended: the frame isn't poisoned, or is so in another cycle
abbrev pub is_ended : ℕ → ℕ → Bool
is_ended cycle word = not (is_poisoned word && (cycle_of word == cycle))

-- the failure that the frame is met for, if it is met for one, has ended
abbrev pub has_ended : Option ℕ → ℕ → Bool
has_ended None word = false
has_ended (Some cycle) word = is_ended cycle word

-- the page in the frame
abbrev pub owner_in : ℕ → Option Page
owner_in word = page_named (owner_of word)

-- the frame is out of use already, or a page's
abbrev pub is_taken : ℕ → Bool
is_taken word = is_handled word || is_some (owner_in word)

abbrev pub is_page : Page → Option Page → Bool
is_page page None = false
is_page page (Some owner) = owner.0 == page.0

-- the page is in the frame
abbrev pub is_owner : Page → ℕ → Bool
is_owner page word = is_page page (owner_in word)

abbrev pub begin : Who → Frame → Option ℕ → ℕ → Meet
begin who frame cycle seen = record { who = who; frame = frame; cycle = cycle; at = at.GetRef seen }

abbrev pub plan_at : Frame → MeetAt → Option Step
plan_at frame (at.GetRef seen) = Some (steps.GetRef frame seen 1)
plan_at frame at.LockFree = Some (steps.LockFrame frame)
plan_at frame (at.LockPage page) = Some (steps.LockPage page)
plan_at frame (at.LockOwned page shelf) = Some (steps.LockFrame frame)
plan_at frame (at.Unlock body ended) = Some (steps.UnlockFrame frame)
plan_at frame (at.UnlockFrame page shelf body ended) = Some (steps.UnlockFrame frame)
plan_at frame (at.UnlockPage page shelf ended) = Some (steps.UnlockPage page)
plan_at frame (at.Release r ended) = releases.plan r
plan_at frame (at.Back ended) = None
plan_at frame at.Free = None
plan_at frame (at.Owned page body) = None

abbrev pub plan : Meet → Option Step
plan m = plan_at m.frame m.at

abbrev pub put_at : MeetAt → Option BodyValue
put_at (at.Unlock body ended) = body
put_at (at.UnlockFrame page shelf body ended) = body
put_at (at.UnlockPage page shelf ended) = shelf
put_at _ = None

abbrev pub put : Meet → Option BodyValue
put m = put_at m.at

abbrev pub bare_at : MeetAt → MeetAt
bare_at (at.Unlock body ended) = at.Unlock None ended
bare_at (at.UnlockFrame page shelf body ended) = at.UnlockFrame page shelf None ended
bare_at (at.UnlockPage page shelf ended) = at.UnlockPage page None ended
bare_at (at.GetRef seen) = at.GetRef seen
bare_at at.LockFree = at.LockFree
bare_at (at.LockPage page) = at.LockPage page
bare_at (at.LockOwned page shelf) = at.LockOwned page shelf
bare_at (at.Release r ended) = at.Release r ended
bare_at (at.Back ended) = at.Back ended
bare_at at.Free = at.Free
bare_at (at.Owned page body) = at.Owned page body

abbrev pub bare : Meet → Meet
bare m = record m { at = bare_at m.at }

-- with the reference, the locks follow from the page in the frame
abbrev pub referenced : Option Page → MeetAt
referenced None = at.LockFree
referenced (Some page) = at.LockPage page

-- the frame is locked, and this was in its slot: by whether the failure has ended, and whether the frame is taken
abbrev pub free_at : Option BodyValue → Bool → Bool → MeetAt
free_at got true taken = at.Unlock got true
free_at got false true = at.Unlock got false
free_at got false false = at.Free

-- the page and the frame are locked: by whether the failure has ended, and whether the page is in the frame
abbrev pub owned_at : Page → Option BodyValue → Option BodyValue → Bool → Bool → MeetAt
owned_at page shelf got true own = at.UnlockFrame page shelf got true
owned_at page shelf got false false = at.UnlockFrame page shelf got false
owned_at page shelf None false true = at.LockOwned page shelf
owned_at page shelf (Some body) false true = at.Owned page body

abbrev pub released_at : Release → Bool → ReleaseAt → MeetAt
released_at r ended (release_at.Back word) = at.Back ended
released_at r ended _ = at.Release r ended

abbrev pub released : Release → Bool → MeetAt
released r ended = released_at r ended r.at

abbrev pub next_at : Who → Frame → Option ℕ → MeetAt → ℕ → Option BodyValue → MeetAt
next_at who frame cycle (at.GetRef seen) found got = cond (found == seen) (referenced (owner_in seen)) (at.Back false)
next_at who frame cycle at.LockFree found got = cond (is_free found) (free_at got (has_ended cycle found) (is_taken found)) at.LockFree
next_at who frame cycle (at.LockPage page) found got = cond (is_free found) (at.LockOwned page got) (at.LockPage page)
next_at who frame cycle (at.LockOwned page shelf) found got = cond (is_free found) (owned_at page shelf got (has_ended cycle found) (is_owner page found)) (at.LockOwned page shelf)
next_at who frame cycle (at.Unlock body ended) found got = at.Release (releases.begin who frame 1) ended
next_at who frame cycle (at.UnlockFrame page shelf body ended) found got = at.UnlockPage page shelf ended
next_at who frame cycle (at.UnlockPage page shelf ended) found got = at.Release (releases.begin who frame 1) ended
next_at who frame cycle (at.Release r ended) found got = released (releases.next r found) ended
next_at who frame cycle (at.Back ended) found got = at.Back ended
next_at who frame cycle at.Free found got = at.Free
next_at who frame cycle (at.Owned page body) found got = at.Owned page body

abbrev pub next : Meet → ℕ → Option BodyValue → Meet
next m found got = record m { at = next_at m.who m.frame m.cycle m.at found got }

-- the body is there where the page is in its frame
abbrev pub ShowsAt : Option ℕ → MeetAt → ℕ → Option BodyValue → Type 0
ShowsAt cycle (at.LockOwned page shelf) found got = is_free found ≡ true → has_ended cycle found ≡ false → is_owner page found ≡ true → is_some got ≡ true
ShowsAt cycle _ found got = Unit {0}

abbrev pub Shows : Meet → ℕ → Option BodyValue → Type 0
Shows m found got = ShowsAt m.cycle m.at found got

abbrev pub turn_at : MeetAt → ℕ → Turn
turn_at (at.GetRef seen) found = cond (found == seen) Moved (Changed found)
turn_at at.LockFree found = cond (is_free found) Moved (Waits found)
turn_at (at.LockPage page) found = cond (is_free found) Moved (Waits found)
turn_at (at.LockOwned page shelf) found = cond (is_free found) Moved (Waits found)
turn_at _ found = Moved

abbrev pub turn : Meet → ℕ → Turn
turn m found = turn_at m.at found

abbrev pub back : Bool → MeetAnswer
back ended = cond ended answers.Ended answers.LookAgain

abbrev pub released_answer : Bool → ReleaseAt → Option MeetAnswer
released_answer ended (release_at.Back word) = Some (back ended)
released_answer ended _ = None

abbrev pub answer_at : MeetAt → Option MeetAnswer
answer_at (at.Release r ended) = released_answer ended r.at
answer_at (at.Back ended) = Some (back ended)
answer_at at.Free = Some answers.Free
answer_at (at.Owned page body) = Some (answers.Owned page)
answer_at _ = None

abbrev pub answer : Meet → Option MeetAnswer
answer m = answer_at m.at

abbrev pub is_owned_at : MeetAt → Bool
is_owned_at (at.Owned page body) = true
is_owned_at _ = false

-- the page is held with its frame
abbrev pub is_owned : Meet → Bool
is_owned m = is_owned_at m.at

abbrev pub IsBodyAt : MeetAt → BodyValue → Type 0
IsBodyAt (at.Owned page body) result = result ≡ body
IsBodyAt _ result = ⊥

abbrev pub IsBody : Meet → BodyValue → Type 0
IsBody m result = IsBodyAt m.at result

-- a body that goes home has the entries that it was taken with
abbrev pub AsTaken : View → Option BodyValue → Type 0
AsTaken view given = (b : BodyValue) → given ≡ Some b → (x : InHand) × (body_of b.page view ≡ Some x) × (more_of x (log_of b) ≡ [])

-- one reference to the frame
abbrev pub reference : Frame → Hand
reference frame = record empty { refs = one_ref frame }

-- the page's lock and one reference to the frame; what was on the page's shelf is in hand, or nothing was
abbrev pub paged : Layout → Page → Frame → Option ℕ → Option Log → ℕ → Hand
paged layout page frame cache None seen = record empty { pages = record { page = page; resident = true; cache = cache; trans = None } ∷ []; refs = one_ref frame }
paged layout page frame cache (Some log) seen = record (locked layout page (Some log) seen) { refs = one_ref frame }

-- the word that the parent loaded shows a frame in use that wasn't handled
pub record IsInUse (seen : ℕ) : Type 0 where
  pub counted : 0 < count_of seen
  pub unhandled : is_handled seen ≡ false

-- the page is locked, and what was on its shelf is the task's
pub record IsPaged (layout : Layout) (view : View) (page : Page) (frame : Frame) (shelf : Option BodyValue) : Type 0 where
  pub seen : ℕ
  pub cache : Option ℕ
  pub hand_is : hand_of view ≡ paged layout page frame cache (logs shelf) seen
  pub body_is : (b : BodyValue) → shelf ≡ Some b → IsBodyOf layout page None b
  pub inside : page.0 < length layout.pages

-- the page and the frame are locked; the frame can be unlocked with this body, and then the page is locked alone
pub record IsLeaving (layout : Layout) (who : Who) (view : View) (page : Page) (frame : Frame) (shelf body : Option BodyValue) : Type 0 where
  pub seen : ℕ
  pub cache : Option ℕ
  pub can : CanMake layout who (steps.UnlockFrame frame) body view
  pub left : hand_after layout (steps.UnlockFrame frame) 0 (logs body) 0 (hand_of view) ≡ paged layout page frame cache (logs shelf) seen
  pub as_taken : AsTaken view body
  pub body_is : (b : BodyValue) → shelf ≡ Some b → IsBodyOf layout page None b
  pub inside : page.0 < length layout.pages

-- a frame that is met for a failure is poisoned
abbrev pub IsFailed : Option ℕ → Bool → Type 0
IsFailed None poisoned = Unit {0}
IsFailed (Some cycle) poisoned = poisoned ≡ true

-- the page is held with its frame, as it was met, and the command saw the history of its body
pub record HoldsMet (layout : Layout) (view : View) (who : Who) (page : Page) (frame : Frame) (cycle : Option ℕ) (body : BodyValue) : Type 0 where
  pub holds : HoldsPage layout view page (Some frame) body
  pub unhandled : holds.handled ≡ false
  pub failed : IsFailed cycle holds.poisoned
  pub few : holds.seen ≤ length view.sights
  pub saw : SawLog view who (log_of body)
  pub inside : page.0 < length layout.pages

-- the frame is locked, with one reference and no page
pub record HoldsFree (view : View) (frame : Frame) (cycle : Option ℕ) : Type 0 where
  pub poisoned : Bool
  pub hand_is : hand_of view ≡ empty_frame frame false poisoned
  pub failed : IsFailed cycle poisoned

abbrev pub FitsAt : Layout → View → Who → Frame → Option ℕ → MeetAt → Type 0
FitsAt layout view who frame cycle (at.GetRef seen) = (hand_of view ≡ empty) × IsInUse seen
FitsAt layout view who frame cycle at.LockFree = hand_of view ≡ reference frame
FitsAt layout view who frame cycle (at.LockPage page) = (hand_of view ≡ reference frame) × (page.0 < length layout.pages)
FitsAt layout view who frame cycle (at.LockOwned page shelf) = IsPaged layout view page frame shelf
FitsAt layout view who frame cycle (at.Unlock body ended) = FitsFrame layout view who frame body × AsTaken view body
FitsAt layout view who frame cycle (at.UnlockFrame page shelf body ended) = IsLeaving layout who view page frame shelf body
FitsAt layout view who frame cycle (at.UnlockPage page shelf ended) = IsPaged layout view page frame shelf
FitsAt layout view who frame cycle (at.Release r ended) = IsReleasing layout view who r
FitsAt layout view who frame cycle (at.Back ended) = hand_of view ≡ empty
FitsAt layout view who frame cycle at.Free = HoldsFree view frame cycle
FitsAt layout view who frame cycle (at.Owned page body) = HoldsMet layout view who page frame cycle body

-- the processor holds nothing at first, and then what the task took
pub record Fits (layout : Layout) (view : View) (m : Meet) : Type 0 where
  pub on_turn : IsOnTurn view m.who
  pub frame : m.frame.0 < layout.frames
  pub at : FitsAt layout view m.who m.frame m.cycle m.at

-- what each answer leaves: nothing held; the frame locked, with one reference and no page; or the page and the frame held, with the body
abbrev pub MetAt : Layout → View → Who → Frame → Option ℕ → MeetAt → MeetAnswer → Type 0
MetAt layout view who frame cycle x answers.LookAgain = hand_of view ≡ empty
MetAt layout view who frame cycle x answers.Ended = hand_of view ≡ empty
MetAt layout view who frame cycle x answers.Free = HoldsFree view frame cycle
MetAt layout view who frame cycle x (answers.Owned page) = (is_owned_at x ≡ true) × ((body : BodyValue) → IsBodyAt x body → HoldsMet layout view who page frame cycle body)

abbrev pub Met : Layout → View → Meet → MeetAnswer → Type 0
Met layout view m x = MetAt layout view m.who m.frame m.cycle m.at x

-- 1 while the frame is locked, in hand or reserved, and 2 while the page is locked
abbrev pub class_at : MeetAt → ℕ
class_at (at.GetRef seen) = 4
class_at at.LockFree = 4
class_at (at.LockPage page) = 4
class_at (at.LockOwned page shelf) = 2
class_at (at.Unlock body ended) = 1
class_at (at.UnlockFrame page shelf body ended) = 1
class_at (at.UnlockPage page shelf ended) = 2
class_at (at.Release r ended) = releases.class r
class_at (at.Back ended) = 4
class_at at.Free = 1
class_at (at.Owned page body) = 1

abbrev pub class : Meet → ℕ
class m = class_at m.at

-- the frame's word
abbrev pub word_in : Frame → Words → ℕ
word_in frame words = slice_index words.frames frame.0

abbrev pub end_cost : ℕ → ℕ → Bool → ℕ
end_cost rest again ended = cond ended rest again

-- the turns that are left, where the frame's word doesn't change: `rest` are those once the frame is met or its failure has ended, `again`
-- those where its word is looked at again
abbrev pub cost_with : ℕ → ℕ → Frame → MeetAt → Words → ℕ
cost_with rest again frame (at.GetRef seen) words = rest + 8 + stale (word_in frame words == seen)
cost_with rest again frame at.LockFree words = rest + 5 + stale (not (is_taken (word_in frame words)))
cost_with rest again frame (at.LockPage page) words = rest + 7 + stale (is_owner page (word_in frame words))
cost_with rest again frame (at.LockOwned page shelf) words = rest + 6 + stale (is_owner page (word_in frame words))
cost_with rest again frame (at.Unlock body ended) words = end_cost rest again ended + 4
cost_with rest again frame (at.UnlockFrame page shelf body ended) words = end_cost rest again ended + 5
cost_with rest again frame (at.UnlockPage page shelf ended) words = end_cost rest again ended + 4
cost_with rest again frame (at.Release r ended) words = end_cost rest again ended + releases.cost r words
cost_with rest again frame (at.Back ended) words = end_cost rest again ended
cost_with rest again frame at.Free words = rest
cost_with rest again frame (at.Owned page body) words = rest

abbrev pub cost : Meet → Words → ℕ
cost m words = cost_with 0 0 m.frame m.at words

-- over what follows, it is no more than this
abbrev pub meet_most : ℕ
meet_most = stale_weight + 8

-- the task, as the laws of tasks read it
abbrev pub task : Member Meet
task = record {
  who = λ m. m.who;
  plan = plan;
  put = put;
  bare = bare;
  shows = Shows;
  next = λ layout m found got after result. (after ≡ next m found got) × (result ≡ turn m found);
  fits = Fits;
  class = class;
  cost = cost;
  aborts = λ m. false;
  claims = λ m. None;
}
