-- The entries of the pages' histories.
use Rattle.std.specs.Prelude.{◌≡◌, ◌⊎◌, ℕ, suc, ◌+◌, ◌<◌, List, [], ◌∷◌, Option, Some, None, slice_get}
use Rattle.std.specs.List.{sum_by}
use Rattle.hwp_page.specs.hwp_geom.declared.Frame.{Frame}
use Rattle.hwp_page.specs.hwp_geom.declared.Page.{Page}
use Rattle.hwp_page.specs.hwp_geom.declared.Who.{Who}
use Rattle.hwp_page.specs.hwp_kill.declared.Seen.{Seen}
use Rattle.hwp_page.specs.declared.Entry.{Entry}
use Rattle.hwp_page.specs.declared.Met.TheVariants.{Word}
use Rattle.hwp_page.specs.declared.What.{What}
use Rattle.hwp_page.specs.declared.What.TheVariants as entries
use Rattle.hwp_page.specs.Orders.{IsNotLater}
use Rattle.hwp_core_rule.specs.declared.log.Log.{Log}
use Rattle.hwp_core_rule.specs.declared.shared_word.SharedWord.{SharedWord}
use Rattle.hwp_core_rule.specs.declared.shared_word.SharedWord.TheVariants as places
use Rattle.hwp_core_rule.specs.declared.view.InHand.{InHand}
use Rattle.hwp_core_rule.specs.declared.view.Length.{Length}
use Rattle.hwp_core_rule.specs.declared.view.Made.{Made}
use Rattle.hwp_core_rule.specs.declared.view.Sight.{Sight}
use Rattle.hwp_core_rule.specs.declared.view.Stamp.{Stamp}
use Rattle.hwp_core_rule.specs.Lists.{Homes, EachBody, EachListed, EachMember, SomeMember, StartsWith, sum_bodies}
use Rattle.hwp_core_rule.specs.Steps.{policy_at}

-- what f says of the entries of a page, from a place on
abbrev pub weigh_from : (Page → ℕ → Entry → ℕ) → Page → ℕ → List Entry → ℕ
weigh_from f page place [] = 0
weigh_from f page place (e ∷ es) = f page place e + weigh_from f page (suc place) es

abbrev pub weigh : (Page → ℕ → Entry → ℕ) → Log → ℕ
weigh f log = weigh_from f log.page 0 log.entries

-- done while the frame was locked
abbrev pub IsUnder : Frame → Stamp → Type 0
IsUnder frame stamp = (stamp.frame ≡ Some frame) ⊎ (stamp.second ≡ Some frame)

-- a step of this command that had the frame's lock showed the word at the place
pub record Shows (who : Who) (frame : Frame) (place : SharedWord) (word : ℕ) (s : Sight) : Type 0 where
  pub own : s.stamp.who ≡ who
  pub under : IsUnder frame s.stamp
  pub place_is : s.place ≡ place
  pub word_is : s.word ≡ word

-- such a step showed the bad lines of the frame that the body was in
abbrev pub HasMask : List Sight → Who → Option Frame → ℕ → Type 0
HasMask sights who None mask = ⊥
HasMask sights who (Some frame) mask = SomeMember (Shows who frame (places.Bad frame) mask) sights

-- such a step showed the policy of the thread, and the number of its settings
abbrev pub HasPolicy : List Sight → Who → Option Frame → Seen → Type 0
HasPolicy sights who None seen = ⊥
HasPolicy sights who (Some frame) seen = SomeMember (Shows who frame (places.Policy seen.thread) (policy_at seen.n seen.policy)) sights

-- the command has seen, under the lock of the frame that the body was in, what an entry says that it saw: the bad lines
-- of a load, a store or a machine check, no bad line for one that copies the content, and the policies of a failure
abbrev pub HasSeen : List Sight → Who → Option Frame → What → Type 0
HasSeen sights who frame (entries.Load slot line (Word mask word)) = HasMask sights who frame mask.0
HasSeen sights who frame (entries.Store slot line (Word mask word)) = HasMask sights who frame mask.0
HasSeen sights who frame (entries.Mce slot line mask) = HasMask sights who frame mask.0
HasSeen sights who frame entries.Sync = HasMask sights who frame 0
HasSeen sights who frame entries.Out = HasMask sights who frame 0
HasSeen sights who frame entries.Soft = HasMask sights who frame 0
HasSeen sights who frame (entries.Fail situation required seen signals) = EachMember (HasPolicy sights who frame) seen
HasSeen sights who frame _ = Unit {0}

-- the commands of one processor do not fall in the history
abbrev pub AreInOrder : List Entry → Type 0
AreInOrder list = (i j : ℕ) (e f : Entry) → i < j → slice_get list i ≡ Some e → slice_get list j ≡ Some f → IsNotLater e.who f.who

-- the page's history begins with the one that was seen
abbrev pub Reaches : Length → Log → Type 0
Reaches l log = log.page ≡ l.log.page → StartsWith l.log.entries log.entries

-- The entries of the bodies are those that the views list, each at its place: whatever is summed over the ones is the
-- same over the others. In each history the commands of one processor do not fall. A view has the sights that its
-- entries need, and each history begins with what a view has seen of it. Broken by: an entry appended and not listed;
-- an entry of an earlier command; an older copy of a body put back; a load listed without the mask that was shown, or
-- with one that was shown before the frame was locked.
pub record EntriesListed (homes : Homes) (bodies : List (List InHand)) (made : List (List Made × List Sight)) (lengths : List (List Length)) : Type 0 where
  pub balance : (f : Page → ℕ → Entry → ℕ) → sum_bodies (weigh f) homes bodies ≡ sum_by (λ (v : List Made × List Sight). sum_by (λ (m : Made). f m.page m.place m.entry) v.0) made
  pub ordered : EachBody (λ (log : Log). AreInOrder log.entries) homes bodies
  pub shown : EachMember (λ (v : List Made × List Sight). EachMember (λ (m : Made). HasSeen v.1 m.entry.who m.frame m.entry.what) v.0) made
  pub lengths_reached : EachListed (λ (l : Length). EachBody (Reaches l) homes bodies) lengths
