-- What a seat knows after a step.
use Rattle.std.specs.Prelude.{ℕ, suc, ◌+◌, ◌-◌, ◌%◌, ◌^◌, ◌==◌, nat_le, max, Bool, true, false, cond, List, [], ◌∷◌, ◌++◌, Option, Some, None, is_some, is_none, map, length, drop, option_map, slice_get, slice_set}
use Rattle.std.specs.List.{sum_by, find}
use Rattle.std.specs.Int.{from_bool}
use Rattle.hwp_page.specs.hwp_geom.declared.FileNo.{FileNo}
use Rattle.hwp_page.specs.hwp_geom.declared.Frame.{Frame}
use Rattle.hwp_page.specs.hwp_geom.declared.Layout.{Layout}
use Rattle.hwp_page.specs.hwp_geom.declared.Page.{Page}
use Rattle.hwp_page.specs.hwp_geom.declared.Proc.{Proc}
use Rattle.hwp_page.specs.hwp_geom.declared.Who.{Who}
use Rattle.hwp_page.specs.declared.Entry.{Entry}
use Rattle.hwp_page.specs.Losses.{is_loss}
use Rattle.hwp_words.specs.Frames.{owner_of, cycle_of, is_handled, is_poisoned}
use Rattle.hwp_words.specs.Names.{frame_name, frame_named}
use Rattle.hwp_words.specs.Translations.{pte_word}
use Rattle.hwp_core_rule.specs.declared.log.Log.{Log}
use Rattle.hwp_core_rule.specs.declared.shared_word.SharedWord.{SharedWord}
use Rattle.hwp_core_rule.specs.declared.shared_word.SharedWord.TheVariants as places
use Rattle.hwp_core_rule.specs.declared.step.Step.{Step}
use Rattle.hwp_core_rule.specs.declared.step.Step.TheVariants as steps
use Rattle.hwp_core_rule.specs.declared.record.Rec.{Rec}
use Rattle.hwp_core_rule.specs.declared.view.View.{View}
use Rattle.hwp_core_rule.specs.declared.view.Part.{Part}
use Rattle.hwp_core_rule.specs.declared.view.Ref.{Ref}
use Rattle.hwp_core_rule.specs.declared.view.FrameInHand.{FrameInHand}
use Rattle.hwp_core_rule.specs.declared.view.FrameLock.{FrameLock}
use Rattle.hwp_core_rule.specs.declared.view.PageLock.{PageLock}
use Rattle.hwp_core_rule.specs.declared.view.InHand.{InHand}
use Rattle.hwp_core_rule.specs.declared.view.Debts.{Debts}
use Rattle.hwp_core_rule.specs.declared.view.Stamp.{Stamp}
use Rattle.hwp_core_rule.specs.declared.view.Made.{Made}
use Rattle.hwp_core_rule.specs.declared.view.MarkKind.{MarkKind}
use Rattle.hwp_core_rule.specs.declared.view.MarkKind.TheVariants as mark_kinds
use Rattle.hwp_core_rule.specs.Steps.{place_of, goes, is_last}
use Rattle.hwp_core_rule.specs.Logs.{log_of, state_of, file_of, fitting}

-- the list without the first member that the test finds
abbrev pub without : {A : Type 0} → (A → Bool) → List A → List A
without test [] = []
without test (x ∷ xs) = cond (test x) xs (x ∷ without test xs)

-- the list with the members changed that the test finds
abbrev pub changed : {A : Type 0} → (A → Bool) → (A → A) → List A → List A
changed test change list = map (λ x. cond (test x) (change x) x) list

-- the references to a frame
abbrev pub refs_on : ℕ → List Ref → ℕ
refs_on f refs = sum_by (λ (r : Ref). cond (r.frame.0 == f) r.count 0) refs

-- so many references to a frame more
abbrev pub with_refs : Frame → ℕ → List Ref → List Ref
with_refs frame count [] = record { frame = frame; count = count } ∷ []
with_refs frame count (r ∷ rs) = cond (r.frame.0 == frame.0) (record r { count = r.count + count } ∷ rs) (r ∷ with_refs frame count rs)

-- so many fewer; where none is left on a frame, it isn't listed
abbrev pub less_refs : Frame → ℕ → List Ref → List Ref
less_refs frame count [] = []
less_refs frame count (r ∷ rs) =
    cond (r.frame.0 == frame.0)
    (cond (nat_le r.count count) (less_refs frame (count - r.count) rs) (record r { count = r.count - count } ∷ rs))
    (r ∷ less_refs frame count rs)

-- the frame that a translation word or a cache word names
abbrev pub frame_in : ℕ → Option Frame
frame_in word = frame_named (word % 2 ^ 20)

abbrev pub with_named : Option Frame → List Ref → List Ref
with_named None refs = refs
with_named (Some frame) refs = with_refs frame 1 refs

abbrev pub less_named : Option Frame → List Ref → List Ref
less_named None refs = refs
less_named (Some frame) refs = less_refs frame 1 refs

abbrev pub is_hand_of : Frame → FrameInHand → Bool
is_hand_of frame hand = hand.frame.0 == frame.0

abbrev pub is_lock_of : Frame → FrameLock → Bool
is_lock_of frame lock = lock.frame.0 == frame.0

abbrev pub is_page_lock_of : Page → PageLock → Bool
is_page_lock_of page lock = lock.page.0 == page.0

abbrev pub is_body_of : Page → InHand → Bool
is_body_of page body = body.log.page.0 == page.0

-- how many locks of the frame, or of the page, are listed
abbrev pub locks_on : ℕ → List FrameLock → ℕ
locks_on f locks = sum_by (λ (l : FrameLock). from_bool (l.frame.0 == f)) locks

abbrev pub page_locks_on : ℕ → List PageLock → ℕ
page_locks_on q locks = sum_by (λ (l : PageLock). from_bool (l.page.0 == q)) locks

-- nothing is owed
abbrev pub no_debts : Debts
no_debts = record { counts = 0; hardware = 0; uncounts = 0; losses = [] }

-- a stamp of now: the command, the locks held, and the owner of the first frame
abbrev pub stamp_of : Who → View → Stamp
stamp_of who v = record {
  who = who;
  page = option_map (λ (l : PageLock). l.page) (slice_get v.pages 0);
  frame = option_map (λ (l : FrameLock). l.frame) (slice_get v.locks 0);
  owner = option_map (λ (l : FrameLock). l.owner) (slice_get v.locks 0);
  second = option_map (λ (l : FrameLock). l.frame) (slice_get v.locks 1);
}

-- the view with a sight more
abbrev pub sighted : Who → SharedWord → ℕ → View → View
sighted who place word v = record v { sights = v.sights ++ (record { stamp = stamp_of who v; place = place; word = word }) ∷ [] }

-- the lock of a frame whose word was this
abbrev pub lock_found : Frame → ℕ → FrameLock
lock_found frame found = record { frame = frame; owner = owner_of found; handled = is_handled found; poisoned = is_poisoned found }

-- a frame in hand whose word was this, and one of which nothing is known
abbrev pub hand_found : Frame → ℕ → FrameInHand
hand_found frame found = record { frame = frame; poisoned = is_poisoned found }

abbrev pub unpoisoned : Frame → FrameInHand
unpoisoned frame = record { frame = frame; poisoned = false }

-- a page's lock, when the page's body is in hand: the cache word and the translation words fit its state
abbrev pub knowing : Layout → Log → Option Frame → PageLock → PageLock
knowing layout log frame lock = record lock {
  cache = Some (frame_name frame);
  trans = Some (fitting layout log.page (state_of layout log) (frame_name frame));
}

-- a body comes into the hand, from a frame or from the page's shelf
abbrev pub taken : Layout → Who → Option Frame → Option Log → View → View
taken layout who frame None v = v
taken layout who frame (Some log) v = record v {
  bodies = v.bodies ++ (record { log = log; since = length log.entries; frame = frame; from = length v.sights; killed = [] }) ∷ [];
  lengths = v.lengths ++ (record { stamp = stamp_of who v; log = log }) ∷ [];
  pages = changed (is_page_lock_of log.page) (knowing layout log frame) v.pages;
}

-- the entries of a history past those that are listed
abbrev pub more_of : InHand → Log → List Entry
more_of body log = drop (length body.log.entries) log.entries

-- the entries as made, from a place of the page on
abbrev pub made_from : Stamp → Page → Option Frame → ℕ → List Entry → List Made
made_from stamp page frame place [] = []
made_from stamp page frame place (e ∷ es) =
    (record { stamp = stamp; page = page; place = place; entry = e; frame = frame }) ∷ made_from stamp page frame (suc place) es

-- the file, where a loss of it is made
abbrev pub loss_made : Option FileNo → Bool → List FileNo
loss_made None loss = []
loss_made (Some file) loss = cond loss (file ∷ []) []

abbrev pub losses_made : Layout → Page → List Entry → List FileNo
losses_made layout page [] = []
losses_made layout page (e ∷ es) = loss_made (file_of layout page) (is_loss e.what) ++ losses_made layout page es

-- the body of a page that is in hand
abbrev pub body_of : Page → View → Option InHand
body_of page v = find (is_body_of page) v.bodies

-- a page's lock, just taken: where the page's body is in hand already, from a frame, the page's words fit it
abbrev pub lock_of_page : Layout → Page → Option Log → Option InHand → PageLock
lock_of_page layout page content None = record { page = page; resident = is_none content; cache = None; trans = None }
lock_of_page layout page content (Some body) = knowing layout body.log body.frame (record { page = page; resident = is_none content; cache = None; trans = None })

-- the entries past those that are listed are listed now, and the losses that they make are owed
abbrev pub listed_of : Layout → Who → Log → Option InHand → View → View
listed_of layout who log None v = v
listed_of layout who log (Some body) v = record v {
  made = v.made ++ made_from (stamp_of who v) log.page body.frame (length body.log.entries) (more_of body log);
  owed = record v.owed { losses = v.owed.losses ++ losses_made layout log.page (more_of body log) };
  bodies = changed (is_body_of log.page) (λ (b : InHand). record b { log = log }) v.bodies;
}

abbrev pub listed : Layout → Who → Log → View → View
listed layout who log v = listed_of layout who log (body_of log.page v) v

-- a body goes to its home, where there is one
abbrev pub put_home : Layout → Who → Option Log → View → View
put_home layout who None v = v
put_home layout who (Some log) v = record (listed layout who log v) {
  bodies = without (is_body_of log.page) (listed layout who log v).bodies;
  pages = changed (is_page_lock_of log.page) (λ (l : PageLock). record l { trans = None }) v.pages;
}

abbrev pub loaded : Who → SharedWord → ℕ → View → View
loaded who (places.Cache page) found v =
    record (sighted who (places.Cache page) found v) { pages = changed (is_page_lock_of page) (λ (l : PageLock). record l { cache = Some found }) v.pages }
loaded who place found v = sighted who place found v

-- a mark of a frame whose word was this
abbrev pub marked : Who → Frame → ℕ → MarkKind → View → View
marked who frame found kind v = record v { marks = v.marks ++ (record { stamp = stamp_of who v; frame = frame; cycle = cycle_of found; kind = kind }) ∷ [] }

abbrev pub owing_count : Bool → Debts → Debts
owing_count hardware owed = cond hardware (record owed { hardware = owed.hardware + 1 }) (record owed { counts = owed.counts + 1 })

abbrev pub paying_count : Bool → Debts → Debts
paying_count hardware owed = cond hardware (record owed { hardware = owed.hardware - 1 }) (record owed { counts = owed.counts - 1 })

-- a lock of the frame lists its poison
abbrev pub poison_listed : Frame → View → View
poison_listed frame v = record v { locks = changed (is_lock_of frame) (λ (l : FrameLock). record l { poisoned = true }) v.locks }

abbrev pub poisoned : Who → Frame → Bool → ℕ → View → View
poisoned who frame hardware found v =
    cond (goes (steps.Poison frame hardware) found)
    (record (marked who frame found (mark_kinds.Poisoned hardware) v) { owed = owing_count hardware v.owed })
    (sighted who (places.Frame frame) found v)

abbrev pub revived_by : Who → Frame → ℕ → View → View
revived_by who frame found v =
    record (marked who frame found mark_kinds.Revived v) { hands = v.hands ++ unpoisoned frame ∷ []; owed = record v.owed { uncounts = v.owed.uncounts + 1 } }

abbrev pub killed_by : Proc → Page → View → View
killed_by process page v =
    record v { bodies = changed (is_body_of page) (λ (b : InHand). record b { killed = b.killed ++ process ∷ [] }) v.bodies }

-- a loss of the file is no longer owed
abbrev pub lost_by : Layout → Who → FileNo → Log → View → View
lost_by layout who file log v =
    record (listed layout who log v) { owed = record (listed layout who log v).owed { losses = without (λ (n : FileNo). n.0 == file.0) (listed layout who log v).owed.losses } }

-- a frame in hand gets its first reference and is locked
abbrev pub adopting : Frame → ℕ → View → View
adopting frame found v = record v {
  hands = without (is_hand_of frame) v.hands;
  refs = with_refs frame 1 v.refs;
  locks = v.locks ++ lock_found frame found ∷ [];
}

-- what its own kind of step makes of a seat's view, when the step is noted: `found` is the word that it met, and
-- `content` what was in the slot that it took, or what it put there; an adoption shows its word under the lock that it takes, which
-- no other step does of an unlocked word
abbrev pub view_by : Layout → Who → Step → ℕ → Option Log → View → View
view_by layout who (steps.Load place) found content v = loaded who place found v
view_by layout who (steps.Reserve seen) found content v =
    cond (found == seen) (record v { reserved = v.reserved + 1 }) (sighted who places.Available found v)
view_by layout who (steps.TakeBit frame) found content v =
    cond (goes (steps.TakeBit frame) found)
    (record v { reserved = v.reserved - 1; hands = v.hands ++ unpoisoned frame ∷ [] })
    (sighted who (place_of (steps.TakeBit frame)) found v)
view_by layout who (steps.GiveBit frame) found content v = record v { reserved = v.reserved + 1; hands = without (is_hand_of frame) v.hands }
view_by layout who steps.Unreserve found content v = record v { reserved = v.reserved - 1 }
view_by layout who (steps.Adopt frame) found content v = sighted who (places.Frame frame) found (adopting frame found v)
view_by layout who (steps.GetRef frame seen count) found content v =
    cond (found == seen) (record v { refs = with_refs frame count v.refs }) (sighted who (places.Frame frame) found v)
view_by layout who (steps.PutRef frame count) found content v = record v {
  refs = less_refs frame count v.refs;
  hands = cond (is_last count found) (v.hands ++ hand_found frame found ∷ []) v.hands;
}
view_by layout who (steps.LockFrame frame) found content v =
    cond (goes (steps.LockFrame frame) found) (taken layout who (Some frame) content (record v { locks = v.locks ++ lock_found frame found ∷ [] })) v
view_by layout who (steps.UnlockFrame frame) found content v = record (put_home layout who content v) { locks = without (is_lock_of frame) v.locks }
view_by layout who (steps.Retire frame) found content v = record v { locks = without (is_lock_of frame) v.locks; refs = less_refs frame 1 v.refs }
view_by layout who (steps.Revive frame seen) found content v = cond (found == seen) (revived_by who frame found v) (sighted who (places.Frame frame) found v)
view_by layout who (steps.SetOwner frame page owned) found content v =
    record v { locks = changed (is_lock_of frame) (λ (l : FrameLock). record l { owner = cond owned (page.0 + 1) 0 }) v.locks }
view_by layout who (steps.LockPage page) found content v =
    cond (goes (steps.LockPage page) found)
    (taken layout who None content (record v { pages = v.pages ++ lock_of_page layout page content (body_of page v) ∷ [] }))
    v
view_by layout who (steps.UnlockPage page) found content v =
    record (put_home layout who content v) { pages = without (is_page_lock_of page) v.pages }
view_by layout who (steps.SetPte slot pte) found content v = record v {
  refs = with_named (frame_in found) (less_named (frame_in (pte_word pte)) v.refs);
  pages = map (λ (l : PageLock). record l { trans = option_map (λ (ws : List ℕ). slice_set ws slot.0 (pte_word pte)) l.trans }) v.pages;
}
view_by layout who (steps.SetCache page frame) found content v = record v {
  refs = with_named (frame_in found) (less_named frame v.refs);
  pages = changed (is_page_lock_of page) (λ (l : PageLock). record l { resident = is_some frame; cache = Some (frame_name frame) }) v.pages;
}
view_by layout who (steps.Poison frame hardware) found content v = poison_listed frame (poisoned who frame hardware found v)
view_by layout who (steps.CountPoison hardware) found content v = record v { owed = paying_count hardware v.owed }
view_by layout who steps.Uncount found content v = record v { owed = record v.owed { uncounts = v.owed.uncounts - 1 } }
view_by layout who (steps.Spoil frame line damage) found content v =
    record v { spoiled = v.spoiled ++ (record { stamp = stamp_of who v; frame = frame; line = line; damage = damage }) ∷ [] }
view_by layout who (steps.Stop cpu) found content v = cond (found == 0) (record v { stops = v.stops ++ who ∷ [] }) (sighted who places.Stop found v)
view_by layout who steps.GiveUp found content v = v
view_by layout who (steps.Kill process page body) found content v =
    cond (found == 0) (killed_by process page (listed layout who (log_of body.value) v)) (sighted who (places.Process process) found (killed_by process page (listed layout who (log_of body.value) v)))
view_by layout who (steps.SetPolicy thread policy settings) found content v =
    record v { settings = v.settings ++ (record { stamp = stamp_of who v; thread = thread; policy = policy }) ∷ [] }
view_by layout who (steps.Lose file body) found content v = lost_by layout who file (log_of body.value) v
view_by layout who (steps.ReportLost file) found content v = sighted who (places.Loss file) found v

-- what every step notes: the command
abbrev pub noted : Who → View → View
noted who v = record v { parts = changed (λ (p : Part). p.cpu.0 == who.cpu.0) (λ (p : Part). record p { latest = max p.latest who.seq }) v.parts }

-- a seat's view after its step
abbrev pub view_after : Layout → Rec → View → View
view_after layout r v = view_by layout r.who r.step r.found r.content (noted r.who v)
