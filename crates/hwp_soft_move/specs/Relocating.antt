-- What is held and known while a page is put into another frame.
use Rattle.std.specs.FinSet as set
use Rattle.std.specs.Ordering.{nat_cmp}
use Rattle.std.specs.Prelude.{◌≡◌, ◌≢◌, ℕ, ◌+◌, ◌-◌, ◌<◌, ◌≤◌, true, false, List, [], ◌∷◌, ◌++◌, Option, Some, None, is_none, length, drop, slice_get}
use Rattle.hwp_claim_frame.specs.hwp_geom.declared.Frame.{Frame}
use Rattle.hwp_claim_frame.specs.hwp_geom.declared.Layout.{Layout}
use Rattle.hwp_claim_frame.specs.hwp_geom.declared.Page.{Page}
use Rattle.hwp_claim_frame.specs.hwp_geom.declared.TransDecl.{TransDecl}
use Rattle.hwp_claim_frame.specs.hwp_geom.declared.Who.{Who}
use Rattle.hwp_claim_frame.specs.hwp_geom.Layout.{IsSound}
use Rattle.hwp_claim_frame.specs.hwp_page.declared.At.{At}
use Rattle.hwp_claim_frame.specs.hwp_page.declared.What.TheVariants as entries
use Rattle.hwp_claim_frame.specs.hwp_page.History.{BodyValue, IsReplay}
use Rattle.hwp_claim_frame.specs.hwp_core_rule.declared.InHand.{InHand}
use Rattle.hwp_claim_frame.specs.hwp_core_rule.declared.Made.{Made}
use Rattle.hwp_claim_frame.specs.hwp_core_rule.declared.Log.{Log}
use Rattle.hwp_claim_frame.specs.hwp_core_rule.declared.View.{View}
use Rattle.hwp_claim_frame.specs.hwp_core_rule.Asks.{OwesCount}
use Rattle.hwp_claim_frame.specs.hwp_core_rule.Logs.{log_of, state_of, fitting_word}
use Rattle.hwp_claim_frame.specs.hwp_core_rule.Views.{unpoisoned}
use Rattle.hwp_claim_frame.specs.hwp_core_rule.parts.Entries.{HasSeen}
use Rattle.hwp_claim_frame.specs.hwp_core_rule.Calls.{IsOnTurn}
use Rattle.hwp_claim_frame.specs.hwp_core_rule.Hands.{Hand, body_in, empty, hand_of}
use Rattle.hwp_claim_frame.specs.hwp_core_rule.Known.{HasMadeBeside, HasMadeNoneBeside}
use Rattle.hwp_claim_frame.specs.hwp_core_rule.Turns.{Member}
use Rattle.hwp_claim_frame.specs.hwp_core.declared.refer.Refer.{Refer}
use Rattle.hwp_claim_frame.specs.hwp_core.declared.refer.ReferAt.{ReferAt}
use Rattle.hwp_claim_frame.specs.hwp_core.declared.refer.ReferAt.TheVariants as refer_at
use Rattle.hwp_claim_frame.specs.hwp_core.declared.release.Release.{Release}
use Rattle.hwp_claim_frame.specs.hwp_core.declared.release.ReleaseAt.{ReleaseAt}
use Rattle.hwp_claim_frame.specs.hwp_core.declared.release.ReleaseAt.TheVariants as release_at
use Rattle.hwp_claim_frame.specs.hwp_core.Holds.{named, refs_to}
use Rattle.hwp_claim_frame.specs.hwp_core.Refers as refers
use Rattle.hwp_claim_frame.specs.hwp_core.Releases as releases
use Rattle.hwp_claim_frame.specs.hwp_core.Vacates.{page_held}
use Rattle.hwp_soft_move.specs.declared.relocate.Relocate.{Relocate}
use Rattle.hwp_soft_move.specs.declared.relocate.RelocateAt.{RelocateAt}
use Rattle.hwp_soft_move.specs.declared.relocate.RelocateAt.TheVariants as at
use Rattle.hwp_soft_move.specs.declared.relocate.Transfer.{Transfer}
use Rattle.hwp_soft_move.specs.declared.remap.Remap.{Remap}
use Rattle.hwp_soft_move.specs.Remaps as remaps
use Rattle.hwp_soft_move.specs.Remaps.{IsCount, old_lock, with_both}
use Rattle.hwp_soft_move.specs.Relocations.{Follows, Shows, bare, class, cost, plan, put}

-- the body is one of this history with the entry of the soft offline; the page was in a frame
pub record HasEntry (layout : Layout) (who : Who) (page : Page) (log : Log) (done : At) (body : BodyValue) : Type 0 where
  pub page_is : log.page ≡ page
  pub log_is : log_of body ≡ record { page = log.page; entries = log.entries ++ (record { who = who; what = entries.Soft }) ∷ [] }
  pub layout_is : body.layout ≡ layout
  pub cached : (state_of layout log).cached ≡ true
  pub replay : IsReplay layout page log.entries (state_of layout log)
  pub done_is : done ≡ record { page = page; entry = length log.entries }

-- the body in hand, as it was taken out of the old frame, gets home with the entry, which rests on a frame without bad lines; the
-- command had made the entries of `base` before
pub record Carries (base : List Made) (layout : Layout) (view : View) (t : Transfer) (maps : set.FinSet nat_cmp) (done : At) (given : Option BodyValue) (taken : InHand) : Type 0 where
  pub log : Log
  pub seen : ℕ
  pub body : BodyValue
  pub given_is : given ≡ Some body
  pub taken_is : taken ≡ body_in (Some t.from) log seen
  pub entry : HasEntry layout t.who t.page log done body
  pub maps_are : maps ≡ (state_of layout log).maps
  pub few : seen ≤ length view.sights
  pub saw : HasSeen (drop seen view.sights) t.who (Some t.from) entries.Soft
  pub made_none : HasMadeNoneBeside base view t.who

-- the references to the new frame, while more are taken
abbrev pub referred : ℕ → ReferAt → ℕ
referred count refer_at.Over = count
referred count _ = 1

-- what is held until the body goes home
abbrev pub hand_at : Transfer → RelocateAt → List ℕ → InHand → Hand
hand_at t at.Count trans taken = with_both t.from (t.page.0 + 1) 1 t.to 0 1 (page_held t.page (Some t.from) trans taken)
hand_at t at.SetOwner trans taken = with_both t.from (t.page.0 + 1) 1 t.to 0 1 (page_held t.page (Some t.from) trans taken)
hand_at t (at.Refer r) trans taken = with_both t.from (t.page.0 + 1) 1 t.to (t.page.0 + 1) (referred t.count r.at) (page_held t.page (Some t.from) trans taken)
hand_at t at.SetCache trans taken = with_both t.from (t.page.0 + 1) (t.count - 1) t.to (t.page.0 + 1) 2 (page_held t.page (Some t.from) trans taken)
hand_at t at.ClearOwner trans taken = with_both t.from (t.page.0 + 1) t.count t.to (t.page.0 + 1) 1 (page_held t.page (Some t.to) trans taken)
hand_at t at.UnlockFrame trans taken = with_both t.from 0 t.count t.to (t.page.0 + 1) 1 (page_held t.page (Some t.to) trans taken)
hand_at t _ trans taken = empty

-- the page is held with both frames; its translation words are those of a page in this frame
pub record IsAhead (base : List Made) (layout : Layout) (view : View) (t : Transfer) (maps : set.FinSet nat_cmp) (done : At) (given : Option BodyValue) (x : RelocateAt) (frame : Frame) : Type 0 where
  pub trans : List ℕ
  pub taken : InHand
  pub hand_is : hand_of view ≡ hand_at t x trans taken
  pub carries : Carries base layout view t maps done given taken
  pub words : (slot : ℕ) (d : TransDecl) → slice_get layout.trans slot ≡ Some d → d.page ≡ t.page → slice_get trans slot ≡ Some (fitting_word (state_of layout carries.log) (frame.0 + 1) slot)

-- and references to the new frame are being taken
pub record IsReferring (base : List Made) (layout : Layout) (view : View) (t : Transfer) (maps : set.FinSet nat_cmp) (done : At) (given : Option BodyValue) (f : Refer) : Type 0 where
  pub ahead : IsAhead base layout view t maps done given (at.Refer f) t.from
  pub refer : refers.Fits layout view f
  pub own : f.who ≡ t.who
  pub frame_is : f.frame ≡ t.to
  pub count_is : f.count ≡ t.count - 1
  pub under_way : is_none (refers.plan f) ≡ false

-- or the translations are being written
pub record IsWriting (base : List Made) (layout : Layout) (view : View) (t : Transfer) (maps : set.FinSet nat_cmp) (done : At) (given : Option BodyValue) (m : Remap) : Type 0 where
  pub remap : remaps.Fits layout view m
  pub own : m.who ≡ t.who
  pub page_is : m.page ≡ t.page
  pub from_is : m.from ≡ t.from
  pub to_is : m.to ≡ t.to
  pub count_is : m.count ≡ t.count
  pub slots_are : m.slots.value ≡ maps
  pub taken : InHand
  pub bodies_are : view.bodies ≡ taken ∷ []
  pub carries : Carries base layout view t maps done given taken
  pub under_way : is_none m.next ≡ false

-- the page alone is locked, with its old frame, to which there are so many references
abbrev pub leaving : Transfer → ℕ → Hand
leaving t count = record (named t.page t.to (refs_to t.from count)) { locks = old_lock t.from 0 ∷ [] }

-- and the new frame is being released
abbrev pub releasing : Transfer → ReleaseAt → Hand
releasing t release_at.Put = record (leaving t t.count) { refs = record { frame = t.from; count = t.count } ∷ record { frame = t.to; count = 1 } ∷ [] }
releasing t (release_at.Give word) = record (leaving t t.count) { hands = unpoisoned t.to ∷ [] }
releasing t (release_at.Unreserve word) = record (leaving t t.count) { reserved = 1 }
releasing t (release_at.Adopt word) = record (leaving t t.count) { hands = record { frame = t.to; poisoned = true } ∷ [] }
releasing t (release_at.Retire word) = record (leaving t t.count) {
  refs = record { frame = t.from; count = t.count } ∷ record { frame = t.to; count = 1 } ∷ [];
  locks = old_lock t.from 0 ∷ releases.poisoned_lock t.to ∷ [];
}
releasing t (release_at.Back word) = leaving t t.count

-- the command made the one entry beside those that it had made before
abbrev pub HasMoved : List Made → View → Who → At → Type 0
HasMoved base view who done = HasMadeBeside base (λ m. ⊥) view who done.page done.entry entries.Soft

pub record IsReleasing (base : List Made) (layout : Layout) (view : View) (t : Transfer) (done : At) (l : Release) : Type 0 where
  pub hand_is : hand_of view ≡ releasing t l.at
  pub release : releases.Fits layout view l
  pub own : l.who ≡ t.who
  pub frame_is : l.frame ≡ t.to
  pub count_is : l.count ≡ 1
  pub under_way : is_none (releases.plan l) ≡ false
  pub moved : HasMoved base view t.who done

abbrev pub FitsAt : List Made → Layout → View → Transfer → set.FinSet nat_cmp → At → Option BodyValue → RelocateAt → Type 0
FitsAt base layout view t maps done given at.Count = IsAhead base layout view t maps done given at.Count t.from × OwesCount view false
FitsAt base layout view t maps done given at.SetOwner = IsAhead base layout view t maps done given at.SetOwner t.from
FitsAt base layout view t maps done given (at.Refer f) = IsReferring base layout view t maps done given f
FitsAt base layout view t maps done given (at.Remap m) = IsWriting base layout view t maps done given m
FitsAt base layout view t maps done given at.SetCache = IsAhead base layout view t maps done given at.SetCache t.to
FitsAt base layout view t maps done given at.ClearOwner = IsAhead base layout view t maps done given at.ClearOwner t.to
FitsAt base layout view t maps done given at.UnlockFrame = IsAhead base layout view t maps done given at.UnlockFrame t.to
FitsAt base layout view t maps done given (at.Release l) = IsReleasing base layout view t done l
FitsAt base layout view t maps done given at.PutRef = (hand_of view ≡ leaving t t.count) × HasMoved base view t.who done
FitsAt base layout view t maps done given at.Retire = (hand_of view ≡ leaving t 1) × HasMoved base view t.who done
FitsAt base layout view t maps done given at.UnlockPage = (hand_of view ≡ named t.page t.to []) × HasMoved base view t.who done
FitsAt base layout view t maps done given at.Over = (hand_of view ≡ empty) × HasMoved base view t.who done

-- the processor holds the page with both frames, and in the end nothing; then the command made its entry
pub record FitsFrom (base : List Made) (layout : Layout) (view : View) (r : Relocate) : Type 0 where
  pub on_turn : IsOnTurn view r.transfer.who
  pub sound : IsSound layout
  pub page : r.transfer.page.0 < length layout.pages
  pub from : r.transfer.from.0 < layout.frames
  pub to : r.transfer.to.0 < layout.frames
  pub apart : r.transfer.from.0 ≢ r.transfer.to.0
  pub place : r.done.page ≡ r.transfer.page
  pub number : ℕ
  pub counted : IsCount r.maps number
  pub count_is : r.transfer.count ≡ number + 2
  pub room : r.transfer.count ≤ length layout.trans + 2
  pub at : FitsAt base layout view r.transfer r.maps r.done r.body r.at

-- whatever the command had made before
abbrev pub Fits : Layout → View → Relocate → Type 0
Fits layout view r = (base : List Made) × FitsFrom base layout view r

-- the task, as the laws of tasks read it
abbrev pub task : Member Relocate
task = record {
  who = λ r. r.transfer.who;
  plan = plan;
  put = put;
  bare = bare;
  shows = λ r found got. Shows r;
  next = λ layout r found got after result. Follows r found after result;
  fits = Fits;
  class = class;
  cost = cost;
  aborts = λ r. false;
  claims = λ r. None;
}
