-- What a step asks: the condition on what its seat knows.
use Rattle.std.specs.Prelude.{◌≡◌, ◌≢◌, ℕ, ◌+◌, ◌<◌, ◌≤◌, Bool, true, false, cond, List, [], ◌++◌, Option, Some, None, length, drop, slice_get}
use Rattle.hwp_page.specs.hwp_geom.declared.Cpu.{Cpu}
use Rattle.hwp_page.specs.hwp_geom.declared.FileNo.{FileNo}
use Rattle.hwp_page.specs.hwp_geom.declared.Frame.{Frame}
use Rattle.hwp_page.specs.hwp_geom.declared.Layout.{Layout}
use Rattle.hwp_page.specs.hwp_geom.declared.Page.{Page}
use Rattle.hwp_page.specs.hwp_geom.declared.Proc.{Proc}
use Rattle.hwp_page.specs.hwp_geom.declared.Thread.{Thread}
use Rattle.hwp_page.specs.hwp_geom.declared.ThreadDecl.{ThreadDecl}
use Rattle.hwp_page.specs.hwp_geom.declared.TransDecl.{TransDecl}
use Rattle.hwp_page.specs.hwp_geom.declared.VSlot.{VSlot}
use Rattle.hwp_page.specs.hwp_geom.declared.Who.{Who}
use Rattle.hwp_page.specs.hwp_geom.Limits.{command_limit}
use Rattle.hwp_page.specs.declared.Entry.{Entry}
use Rattle.hwp_page.specs.declared.PageState.{PageState}
use Rattle.hwp_page.specs.History.{Leads}
use Rattle.hwp_page.specs.Endings.{has_ending}
use Rattle.hwp_words.specs.declared.Pte.{Pte}
use Rattle.hwp_words.specs.declared.Pte.TheVariants as ptes
use Rattle.hwp_words.specs.Frames.{count_of, owner_of, lock_of, handled_of}
use Rattle.hwp_core_rule.specs.declared.log.Log.{Log}
use Rattle.hwp_core_rule.specs.declared.step.Step.{Step}
use Rattle.hwp_core_rule.specs.declared.step.Step.TheVariants as steps
use Rattle.hwp_core_rule.specs.declared.view.View.{View}
use Rattle.hwp_core_rule.specs.declared.view.Part.{Part}
use Rattle.hwp_core_rule.specs.declared.view.FrameInHand.{FrameInHand}
use Rattle.hwp_core_rule.specs.declared.view.FrameLock.{FrameLock}
use Rattle.hwp_core_rule.specs.declared.view.PageLock.{PageLock}
use Rattle.hwp_core_rule.specs.declared.view.InHand.{InHand}
use Rattle.hwp_core_rule.specs.declared.view.Sight.{Sight}
use Rattle.hwp_core_rule.specs.Lists.{EachMember, SomeMember}
use Rattle.hwp_core_rule.specs.Logs.{log_of, state_of, file_of}
use Rattle.hwp_core_rule.specs.Steps.{place_of, IsLoaded}
use Rattle.hwp_core_rule.specs.Views.{frame_in, refs_on, locks_on, page_locks_on, body_of, more_of, listed, lost_by}
use Rattle.hwp_core_rule.specs.Words.{IsPlace}
use Rattle.hwp_core_rule.specs.parts.Bodies.{content_name}
use Rattle.hwp_core_rule.specs.parts.Entries.{HasSeen}
use Rattle.hwp_core_rule.specs.parts.Fits.{FitsWords}
use Rattle.hwp_core_rule.specs.parts.Holdings.{frames_held}
use Rattle.hwp_core_rule.specs.parts.Losses.{IsPoisonLoss}
use Rattle.hwp_core_rule.specs.parts.Marks.{revivals_by}
use Rattle.hwp_core_rule.specs.parts.Policies.{settings_of}
use Rattle.hwp_core_rule.specs.Rule.{holdings_of, losing_of}

-- the processor is a part of the view, and has come to no later command
pub record IsTurnOf (v : View) (who : Who) : Type 0 where
  pub part : SomeMember (λ (p : Part). (p.cpu ≡ who.cpu) × (p.latest ≤ who.seq)) v.parts

-- the frame is in hand
abbrev pub HasInHand : View → Frame → Type 0
HasInHand v frame = SomeMember (λ (h : FrameInHand). h.frame ≡ frame) v.hands

-- the view can hold one frame more
abbrev pub HasRoom : View → Type 0
HasRoom v = frames_held (holdings_of v) + 1 ≤ 2

-- the view can hold so many references to the frame more
pub record HasRefRoom (layout : Layout) (v : View) (frame : Frame) (count : ℕ) : Type 0 where
  pub shares : refs_on frame.0 v.refs + count ≤ length layout.trans + 2
  pub first : refs_on frame.0 v.refs ≡ 0 → HasRoom v

-- a lock of the frame that the view lists
pub record HasLock (v : View) (frame : Frame) : Type 0 where
  pub lock : FrameLock
  pub listed : SomeMember (λ (l : FrameLock). l ≡ lock) v.locks
  pub frame_is : lock.frame ≡ frame

-- the page's lock, which the view lists
pub record HasPageLock (v : View) (page : Page) : Type 0 where
  pub lock : PageLock
  pub listed : slice_get v.pages 0 ≡ Some lock
  pub page_is : lock.page ≡ page

-- the page's lock and its body in hand, and the words that the lock lists then
pub record HasPage (v : View) (page : Page) : Type 0 where
  pub lock : HasPageLock v page
  pub body : InHand
  pub body_is : body_of page v ≡ Some body
  pub cache : ℕ
  pub cache_is : lock.lock.cache ≡ Some cache
  pub trans : List ℕ
  pub trans_is : lock.lock.trans ≡ Some trans

-- the history is that of a body in hand with more entries: each is allowed after those before it, of this command, and
-- rests on what the command was shown since the body was taken
pub record Extends (layout : Layout) (who : Who) (sights : List Sight) (body : InHand) (log : Log) : Type 0 where
  pub page_is : log.page ≡ body.log.page
  pub longer : log.entries ≡ body.log.entries ++ more_of body log
  pub leads : Leads layout log.page (state_of layout body.log) (more_of body log) (state_of layout log)
  pub own : EachMember (λ (e : Entry). e.who ≡ who) (more_of body log)
  pub seen : EachMember (λ (e : Entry). HasSeen (drop body.from sights) who body.frame e.what) (more_of body log)

-- residence and translations are the same in both states
pub record HasSameWords (s t : PageState) : Type 0 where
  pub cached : s.cached ≡ t.cached
  pub maps : s.maps ≡ t.maps
  pub bar : s.bar ≡ t.bar

-- the page's words fit the body: those that its lock lists, or without the lock those of before
pub record PutFits (layout : Layout) (v : View) (body : InHand) (log : Log) : Type 0 where
  pub unlocked : page_locks_on log.page.0 v.pages ≡ 0 → HasSameWords (state_of layout log) (state_of layout body.log)
  pub locked : (lock : PageLock) (cache : ℕ) (trans : List ℕ) → slice_get v.pages 0 ≡ Some lock → lock.page ≡ log.page → lock.cache ≡ Some cache → lock.trans ≡ Some trans → FitsWords layout log cache trans

-- the body of this history can go home: a `kill` met each process that it ended since it was taken
pub record CanGoHome (layout : Layout) (who : Who) (v : View) (log : Log) : Type 0 where
  pub body : InHand
  pub body_is : body_of log.page v ≡ Some body
  pub extends : Extends layout who v.sights body log
  pub fits : PutFits layout v body log
  pub killed : (process : Proc) → has_ending layout process (drop body.since log.entries) ≡ true → SomeMember (λ (p : Proc). p ≡ process) body.killed

abbrev pub CanPut : Layout → Who → View → Option Log → Type 0
CanPut layout who v None = Unit {0}
CanPut layout who v (Some log) = CanGoHome layout who v log

-- a frame's lock can be freed: its slot has its owner's body, or is empty without owner, and the owner's cache word names
-- the frame
pub record CanUnlockFrame (layout : Layout) (who : Who) (v : View) (frame : Frame) (content : Option Log) : Type 0 where
  pub has : HasLock v frame
  pub named : content_name content ≡ has.lock.owner
  pub cached : (lock : PageLock) → slice_get v.pages 0 ≡ Some lock → has.lock.owner ≡ lock.page.0 + 1 → lock.cache ≡ Some (frame.0 + 1)
  pub put : CanPut layout who v content

-- a page's lock can be freed: its shelf has its body exactly where it is in no frame, its body isn't in hand, and no frame
-- that it owns is locked
pub record CanUnlockPage (layout : Layout) (who : Who) (v : View) (page : Page) (content : Option Log) : Type 0 where
  pub has : HasPageLock v page
  pub named : content_name content ≡ cond has.lock.resident 0 (page.0 + 1)
  pub put_away : content ≡ None → body_of page v ≡ None
  pub no_frame : EachMember (λ (l : FrameLock). l.owner ≢ page.0 + 1) v.locks
  pub put : CanPut layout who v content

-- a locked frame without owner, poisoned and not handled, can be handled; its slot is empty
pub record CanRetire (v : View) (frame : Frame) (content : Option Log) : Type 0 where
  pub has : HasLock v frame
  pub unowned : has.lock.owner ≡ 0
  pub unhandled : has.lock.handled ≡ false
  pub poisoned : has.lock.poisoned ≡ true
  pub empty : content ≡ None

-- a handled frame whose only reference is that it is handled can have its poison cleared
pub record CanRevive (v : View) (cpu : Cpu) (seen : ℕ) : Type 0 where
  pub handled : handled_of seen ≡ 1
  pub unlocked : lock_of seen ≡ 0
  pub unowned : owner_of seen ≡ 0
  pub alone : count_of seen ≡ 1
  pub few : revivals_by cpu v.marks < command_limit
  pub room : HasRoom v

-- the page whose body is in hand can become the owner of a locked frame that has none and isn't handled
pub record CanOwn (v : View) (frame : Frame) (page : Page) : Type 0 where
  pub has : HasLock v frame
  pub unowned : has.lock.owner ≡ 0
  pub unhandled : has.lock.handled ≡ false
  pub page_held : HasPage v page

-- the page can give up a locked frame that none of its words names
pub record CanDisown (layout : Layout) (v : View) (frame : Frame) (page : Page) : Type 0 where
  pub has : HasLock v frame
  pub owned : has.lock.owner ≡ page.0 + 1
  pub page_held : HasPage v page
  pub uncached : page_held.cache ≢ frame.0 + 1
  pub unmapped : (slot : ℕ) (t : TransDecl) → slice_get layout.trans slot ≡ Some t → t.page ≡ page → slice_get page_held.trans slot ≢ Some (frame.0 + 1)

abbrev pub CanSetOwner : Layout → View → Frame → Page → Bool → Type 0
CanSetOwner layout v frame page true = CanOwn v frame page
CanSetOwner layout v frame page false = CanDisown layout v frame page

-- a frame that a word stops to name is locked, and one reference more to it has room
pub record CanFree (layout : Layout) (v : View) (frame : Frame) : Type 0 where
  pub has : HasLock v frame
  pub room : refs_on frame.0 v.refs + 1 ≤ length layout.trans + 2

-- a frame that a word begins to name is locked and the page's, with a reference to spend and one that stays
pub record CanName (v : View) (page : Page) (frame : Frame) : Type 0 where
  pub has : HasLock v frame
  pub owner_is : has.lock.owner ≡ page.0 + 1
  pub refs : 2 ≤ refs_on frame.0 v.refs

abbrev pub CanChange : Layout → View → Page → Option Frame → Option Frame → Type 0
CanChange layout v page old new = ((frame : Frame) → old ≡ Some frame → CanFree layout v frame) × ((frame : Frame) → new ≡ Some frame → CanName v page frame)

-- the frame that a translation leads to
abbrev pub frame_of : Pte → Option Frame
frame_of ptes.Empty = None
frame_of (ptes.At frame) = Some frame
frame_of ptes.Poison = None

-- a translation of a page whose lock and body the view has can be written
pub record CanSetPte (layout : Layout) (v : View) (slot : VSlot) (pte : Pte) : Type 0 where
  pub decl : TransDecl
  pub declared : slice_get layout.trans slot.0 ≡ Some decl
  pub page_held : HasPage v decl.page
  pub old : ℕ
  pub old_is : slice_get page_held.trans slot.0 ≡ Some old
  pub frames : CanChange layout v decl.page (frame_in old) (frame_of pte)

-- a cache word can be written
pub record CanSetCache (layout : Layout) (v : View) (page : Page) (frame : Option Frame) : Type 0 where
  pub page_held : HasPage v page
  pub frames : CanChange layout v page (frame_in page_held.cache) frame

-- a process can be ended: the page is one of the layout, and its body, in hand with its lock, has an ending signal of the
-- process
pub record CanKill (layout : Layout) (who : Who) (v : View) (process : Proc) (page : Page) (log : Log) : Type 0 where
  pub within : page.0 < length layout.pages
  pub page_is : log.page ≡ page
  pub page_held : HasPage v log.page
  pub extends : Extends layout who v.sights page_held.body log
  pub ending : has_ending layout process log.entries ≡ true

-- a loss of the file can be counted: the body in hand, with its page's lock, is of the file, a loss of it is owed, and the
-- view poisoned enough frames
pub record CanLose (layout : Layout) (who : Who) (v : View) (file : FileNo) (log : Log) : Type 0 where
  pub page_held : HasPage v log.page
  pub extends : Extends layout who v.sights page_held.body log
  pub behind : file_of layout log.page ≡ Some file
  pub owed : SomeMember (λ (n : FileNo). n ≡ file) (listed layout who log v).owed.losses
  pub poisoned : IsPoisonLoss (losing_of (lost_by layout who file log v))

-- the policy of a thread of the processor can be set, after all its earlier settings; code reads their number from the
-- policy word, which no other processor writes
pub record CanSetPolicy (layout : Layout) (who : Who) (v : View) (thread : Thread) (settings : ℕ) : Type 0 where
  pub decl : ThreadDecl
  pub declared : slice_get layout.threads thread.0 ≡ Some decl
  pub own : decl.cpu ≡ who.cpu
  pub number : settings ≡ length (settings_of thread v.settings)
  pub few : settings < command_limit

-- the frame can be locked: the view has a reference to it, not its lock, and at most one lock of another
pub record CanLockFrame (v : View) (frame : Frame) : Type 0 where
  pub referenced : 0 < refs_on frame.0 v.refs
  pub unlisted : locks_on frame.0 v.locks ≡ 0
  pub second : length v.locks < 2

-- a count of this kind is owed
abbrev pub OwesCount : View → Bool → Type 0
OwesCount v true = 0 < v.owed.hardware
OwesCount v false = 0 < v.owed.counts

-- what the step asks of its seat's view, and of the content that it puts into a slot
abbrev pub AsksOf : Layout → Who → Step → Option Log → View → Type 0
AsksOf layout who (steps.Load place) content v = IsLoaded place
AsksOf layout who (steps.Reserve seen) content v = (0 < seen) × HasRoom v
AsksOf layout who (steps.TakeBit frame) content v = (frame.0 < layout.frames) × (0 < v.reserved)
AsksOf layout who (steps.GiveBit frame) content v = HasInHand v frame
AsksOf layout who steps.Unreserve content v = 0 < v.reserved
AsksOf layout who (steps.Adopt frame) content v = HasInHand v frame × (length v.locks < 2)
AsksOf layout who (steps.GetRef frame seen count) content v = (0 < count_of seen) × (0 < count) × HasRefRoom layout v frame count
AsksOf layout who (steps.PutRef frame count) content v = (0 < count) × (count + locks_on frame.0 v.locks ≤ refs_on frame.0 v.refs)
AsksOf layout who (steps.LockFrame frame) content v = CanLockFrame v frame
AsksOf layout who (steps.UnlockFrame frame) content v = CanUnlockFrame layout who v frame content
AsksOf layout who (steps.Retire frame) content v = CanRetire v frame content
AsksOf layout who (steps.Revive frame seen) content v = CanRevive v who.cpu seen
AsksOf layout who (steps.SetOwner frame page owned) content v = (page.0 < length layout.pages) × CanSetOwner layout v frame page owned
AsksOf layout who (steps.LockPage page) content v = length v.pages ≡ 0
AsksOf layout who (steps.UnlockPage page) content v = CanUnlockPage layout who v page content
AsksOf layout who (steps.SetPte slot pte) content v = CanSetPte layout v slot pte
AsksOf layout who (steps.SetCache page frame) content v = CanSetCache layout v page frame
AsksOf layout who (steps.Poison frame hardware) content v = Unit {0}
AsksOf layout who (steps.CountPoison hardware) content v = OwesCount v hardware
AsksOf layout who steps.Uncount content v = 0 < v.owed.uncounts
AsksOf layout who (steps.Spoil frame line damage) content v = Unit {0}
AsksOf layout who (steps.Stop cpu) content v = cpu ≡ who.cpu
AsksOf layout who steps.GiveUp content v = Unit {0}
AsksOf layout who (steps.Kill process page body) content v = CanKill layout who v process page (log_of body.value)
AsksOf layout who (steps.SetPolicy thread policy settings) content v = CanSetPolicy layout who v thread settings
AsksOf layout who (steps.Lose file body) content v = CanLose layout who v file (log_of body.value)
AsksOf layout who (steps.ReportLost file) content v = Unit {0}

-- a command past those that the processor has come to begins with no body in hand
abbrev pub BeginsBare : View → Who → Type 0
BeginsBare v who = EachMember (λ (p : Part). p.cpu ≡ who.cpu → p.latest < who.seq → v.bodies ≡ []) v.parts

-- the step's condition: the seat's turn, names of the layout, and what its kind asks
pub record Asks (layout : Layout) (who : Who) (step : Step) (content : Option Log) (v : View) : Type 0 where
  pub turn : IsTurnOf v who
  pub begins : BeginsBare v who
  pub place : IsPlace layout (place_of step)
  pub kind : AsksOf layout who step content v
