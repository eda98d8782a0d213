-- The policies that a memory failure reads: the task's steps and what they come to.
use Rattle.std.specs.Prelude.{◌≡◌, ℕ, ◌+◌, ◌-◌, ◌<◌, ◌≤◌, ◌^◌, false, true, List, [], ◌∷◌, ◌++◌, Option, Some, None, length, drop, vec_capacity, MatchOption}
use Rattle.hwp_core.specs.hwp_geom.declared.Frame.{Frame}
use Rattle.hwp_core.specs.hwp_geom.declared.Layout.{Layout}
use Rattle.hwp_core.specs.hwp_geom.declared.Page.{Page}
use Rattle.hwp_core.specs.hwp_geom.declared.Thread.{Thread}
use Rattle.hwp_core.specs.hwp_geom.declared.Who.{Who}
use Rattle.hwp_core.specs.hwp_geom.Layout.{IsSound}
use Rattle.hwp_core.specs.hwp_geom.Limits.{thread_limit}
use Rattle.hwp_core.specs.hwp_kill.declared.Seen.{Seen}
use Rattle.hwp_core.specs.hwp_kill.Kill.{PoliciesRead}
use Rattle.hwp_core.specs.hwp_kill.Next.{IsNextToRead, IsReadSoFar}
use Rattle.hwp_core.specs.hwp_page.History.{BodyValue}
use Rattle.hwp_core.specs.hwp_words.Policies as words
use Rattle.hwp_core.specs.hwp_core_rule.declared.SharedWord.TheVariants as places
use Rattle.hwp_core.specs.hwp_core_rule.declared.Step.{Step}
use Rattle.hwp_core.specs.hwp_core_rule.declared.Step.TheVariants as steps
use Rattle.hwp_core.specs.hwp_core_rule.declared.View.{View}
use Rattle.hwp_core.specs.hwp_core_rule.Lists.{EachMember}
use Rattle.hwp_core.specs.hwp_core_rule.parts.Entries.{HasPolicy}
use Rattle.hwp_core.specs.hwp_core_rule.Calls.{IsOnTurn}
use Rattle.hwp_core.specs.hwp_core_rule.Turns.{Member}
use Rattle.hwp_core.specs.hwp_core_rule.declared.Turn.TheVariants.{Moved}
use Rattle.hwp_core.specs.Holds.{HoldsPage}
use Rattle.hwp_claim_act.specs.declared.read_policies.ReadPolicies.{ReadPolicies}

-- the thread that comes is the next, or all are read
abbrev pub IsNextOf : BodyValue → Option Thread → List Seen → Option Thread → Type 0
IsNextOf body required seen next = MatchOption next (PoliciesRead body.layout body.state.maps required seen) (IsNextToRead body.layout body.state.maps required seen)

pub record IsBegun (who : Who) (frame : Frame) (required : Option Thread) (body : BodyValue) (capacity : ℕ) (r : ReadPolicies) : Type 0 where
  pub is : r ≡ record { who = who; frame = frame; required = required; body = body; seen = r.seen; next = r.next; room = r.room }
  pub items : r.seen.items ≡ []
  pub room : vec_capacity r.seen ≡ capacity
  pub next : IsNextOf body required [] r.next

abbrev pub plan_at : Option Thread → Option Step
plan_at (Some thread) = Some (steps.Load (places.Policy thread))
plan_at None = None

abbrev pub plan : ReadPolicies → Option Step
plan r = plan_at r.next

-- what a policy word says of its thread
abbrev pub seen_in : Thread → ℕ → Seen
seen_in thread word = record { thread = thread; policy = words.policy_of word; n = words.settings_of word }

-- one thread's policy more is read
pub record ReadsMore (r : ReadPolicies) (thread : Thread) (found : ℕ) (after : ReadPolicies) : Type 0 where
  pub is : after ≡ record r { seen = after.seen; next = after.next }
  pub items : after.seen.items ≡ r.seen.items ++ seen_in thread found ∷ []
  pub room : vec_capacity after.seen ≡ vec_capacity r.seen
  pub next : IsNextOf r.body r.required after.seen.items after.next

abbrev pub FollowsAt : ReadPolicies → Option Thread → ℕ → ReadPolicies → Type 0
FollowsAt r (Some thread) found after = ReadsMore r thread found after
FollowsAt r None found after = after ≡ r

abbrev pub Follows : ReadPolicies → ℕ → ReadPolicies → Type 0
Follows r found after = FollowsAt r r.next found after

-- the number of settings in the word fits 32 bits, and the entry has room and goes on with what was read so far
pub record CanReadMore (r : ReadPolicies) (thread : Thread) (found : ℕ) : Type 0 where
  pub few : found < 2 ^ 34
  pub room : length r.seen.items < vec_capacity r.seen
  pub read : IsReadSoFar r.body.layout r.body.state.maps r.required (r.seen.items ++ seen_in thread found ∷ [])

abbrev pub ShowsAt : ReadPolicies → Option Thread → ℕ → Type 0
ShowsAt r (Some thread) found = CanReadMore r thread found
ShowsAt r None found = Unit {0}

abbrev pub Shows : ReadPolicies → ℕ → Type 0
Shows r found = ShowsAt r r.next found

-- the page is held with its frame, which is poisoned and isn't handled
pub record HoldsFailed (layout : Layout) (view : View) (page : Page) (frame : Frame) (body : BodyValue) : Type 0 where
  pub holds : HoldsPage layout view page (Some frame) body
  pub unhandled : holds.handled ≡ false
  pub poisoned : holds.poisoned ≡ true
  pub few : holds.seen ≤ length view.sights
  pub inside : page.0 < length layout.pages

-- each policy was seen under the frame's lock, and they are those that the kill table reads so far
pub record Fits (layout : Layout) (view : View) (r : ReadPolicies) : Type 0 where
  pub on_turn : IsOnTurn view r.who
  pub sound : IsSound layout
  pub held : HoldsFailed layout view r.body.page r.frame r.body
  pub read : IsReadSoFar r.body.layout r.body.state.maps r.required r.seen.items
  pub shown : EachMember (HasPolicy (drop held.holds.seen view.sights) r.who (Some r.frame)) r.seen.items
  pub next : IsNextOf r.body r.required r.seen.items r.next
  pub room : length layout.threads ≤ vec_capacity r.seen

-- the threads that may be left
abbrev pub cost_at : List Seen → Option Thread → ℕ
cost_at seen (Some thread) = thread_limit + 1 - length seen
cost_at seen None = 0

abbrev pub cost : ReadPolicies → ℕ
cost r = cost_at r.seen.items r.next

-- the task, as the laws of tasks read it
abbrev pub task : Member ReadPolicies
task = record {
  who = λ r. r.who;
  plan = plan;
  put = λ r. None;
  bare = λ r. r;
  shows = λ r found got. Shows r found;
  next = λ layout r found got after result. Follows r found after × (result ≡ Moved);
  fits = Fits;
  class = λ r. 1;
  cost = λ r words. cost r;
  aborts = λ r. false;
  claims = λ r. None;
}
