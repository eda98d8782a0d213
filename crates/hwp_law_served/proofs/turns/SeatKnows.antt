-- What one step adds to what its seat knows.
use Rattle.std.proofs.Common.{◌≡◌, ◌⊎◌, ℕ, ◌==◌, Bool, true, false, cond, List, [], ◌∷◌, ◌++◌, Option, Some, None, option_map, slice_get, inl, inr, refl, sym, ap, ◌∙◌, true≢false}
use Rattle.std.proofs.lemmas.Option.{same_Some, none-some}
use Rattle.hwp_law.specs.hwp_geom.declared.Cpu.{Cpu}
use Rattle.hwp_law.specs.hwp_geom.declared.Frame.{Frame}
use Rattle.hwp_law.specs.hwp_geom.declared.Layout.{Layout}
use Rattle.hwp_law.specs.hwp_geom.declared.Page.{Page}
use Rattle.hwp_law.specs.hwp_geom.declared.Who.{Who}
use Rattle.hwp_plain.specs.hwp_words.Frames.{cycle_of}
use Rattle.hwp_plain.specs.hwp_core_rule.declared.FrameLock.{FrameLock}
use Rattle.hwp_plain.specs.hwp_core_rule.declared.InHand.{InHand}
use Rattle.hwp_plain.specs.hwp_core_rule.declared.Length.{Length}
use Rattle.hwp_plain.specs.hwp_core_rule.declared.Log.{Log}
use Rattle.hwp_plain.specs.hwp_core_rule.declared.Mark.{Mark}
use Rattle.hwp_plain.specs.hwp_core_rule.declared.MarkKind.TheVariants as kinds
use Rattle.hwp_plain.specs.hwp_core_rule.declared.PageLock.{PageLock}
use Rattle.hwp_plain.specs.hwp_core_rule.declared.SharedWord.{SharedWord}
use Rattle.hwp_plain.specs.hwp_core_rule.declared.SharedWord.TheVariants as places
use Rattle.hwp_plain.specs.hwp_core_rule.declared.Sight.{Sight}
use Rattle.hwp_plain.specs.hwp_core_rule.declared.Spoiled.{Spoiled}
use Rattle.hwp_plain.specs.hwp_core_rule.declared.Step.{Step}
use Rattle.hwp_plain.specs.hwp_core_rule.declared.Step.TheVariants as steps
use Rattle.hwp_plain.specs.hwp_core_rule.declared.View.{View}
use Rattle.hwp_plain.specs.hwp_core_rule.Lists.{EachMember, SomeMember}
use Rattle.hwp_plain.specs.hwp_core_rule.Logs.{log_of}
use Rattle.hwp_plain.specs.hwp_core_rule.Steps.{goes, place_of}
use Rattle.hwp_plain.specs.hwp_core_rule.Views.{adopting, body_of, is_page_lock_of, knowing, listed_of, loaded, lock_found, lock_of_page, put_home, stamp_of, taken, view_by}
use Rattle.hwp_plain.specs.hwp_core_rule.parts.Entries.{IsUnder as IsUnderLock}
use Rattle.hwp_plain.proofs.of_hwp_core_rule.Lists.{each-push, some-changed, some-last}
use Rattle.hwp_law_served.specs.Turns.{SeesPage}

-- what is said of each sight, length, mark, stop and spoiled line that a view lists
pub record Sayings : Type 1 where
  pub sight : Sight → Type 0
  pub length : Length → Type 0
  pub mark : Mark → Type 0
  pub stop : Who → Type 0
  pub spoil : Spoiled → Type 0

pub record AreSaid (P : Sayings) (ss : List Sight) (ls : List Length) (ms : List Mark) (ws : List Who) (ds : List Spoiled) : Type 0 where
  pub sights : EachMember P.sight ss
  pub lengths : EachMember P.length ls
  pub marks : EachMember P.mark ms
  pub stops : EachMember P.stop ws
  pub spoiled : EachMember P.spoil ds

abbrev pub Said : Sayings → View → Type 0
Said P v = AreSaid P v.sights v.lengths v.marks v.stops v.spoiled

-- the step made the mark
abbrev pub Marks : Step → ℕ → Mark → Type 0
Marks (steps.Poison frame hardware) found m = (m.frame ≡ frame) × (m.cycle ≡ cycle_of found) × (m.kind ≡ kinds.Poisoned hardware) × (goes (steps.Poison frame hardware) found ≡ true)
Marks (steps.Revive frame seen) found m = (m.frame ≡ frame) × (m.cycle ≡ cycle_of found) × (m.kind ≡ kinds.Revived) × (goes (steps.Revive frame seen) found ≡ true)
Marks step found m = ⊥

-- the step spoiled the line
abbrev pub Spoils : Step → Spoiled → Type 0
Spoils step s = step ≡ steps.Spoil s.frame s.line s.damage

-- a look at a frame's bad lines under its lock: the seat still has that lock of it, by the owner that the stamp names
pub record IsUnder (s : Sight) (view : View) : Type 0 where
  pub locked : (frame : Frame) (owner : ℕ) → s.place ≡ places.Bad frame → s.stamp.frame ≡ Some frame → s.stamp.owner ≡ Some owner → SomeMember (λ (l : FrameLock). (l.frame ≡ frame) × (l.owner ≡ owner)) view.locks

-- a sight of a frame, by a stamp that names the frame's lock: the step adopted the frame, or the seat had the lock before it
pub record IsStamped (s : Sight) (step : Step) (before : View) : Type 0 where
  pub locked : (frame : Frame) → s.place ≡ places.Frame frame → IsUnderLock frame s.stamp → (step ≡ steps.Adopt frame) ⊎ SomeMember (λ (l : FrameLock). l.frame ≡ frame) before.locks

-- what is said of what a step of the command adds
pub record SaidOfStep (P : Sayings) (who : Who) (step : Step) (found : ℕ) (before after : View) : Type 0 where
  pub sight : (s : Sight) → s.stamp.who ≡ who → s.place ≡ place_of step → s.word ≡ found → IsUnder s after → IsStamped s step before → P.sight s
  pub length : (l : Length) → l.stamp.who ≡ who → (l.stamp.page ≡ Some l.log.page → SeesPage l.log.page (λ (log : Log). log ≡ l.log) after) → P.length l
  pub mark : (m : Mark) → m.stamp.who ≡ who → Marks step found m → P.mark m
  pub stop : (cpu : Cpu) → step ≡ steps.Stop cpu → (found == 0) ≡ true → P.stop who
  pub spoil : (s : Spoiled) → s.stamp.who ≡ who → Spoils step s → P.spoil s

abbrev is_look : SharedWord → Bool
is_look (places.Bad frame) = true
is_look _ = false

not-look : {s : Sight} {view : View} → is_look s.place ≡ false → IsUnder s view
not-look other = record { locked = λ frame owner is held owned. absurd (true≢false (sym (ap is_look is) ∙ other)) }

-- the frame whose word stands at the place
abbrev frame_at : SharedWord → Option Frame
frame_at (places.Frame frame) = Some frame
frame_at _ = None

not-frame : {s : Sight} {step : Step} {before : View} → frame_at s.place ≡ None → IsStamped s step before
not-frame none = record { locked = λ frame is under. absurd (none-some frame (sym none ∙ ap frame_at is)) }

-- a frame lock of a view by its number
lock-of : (locks : List FrameLock) (i : ℕ) (frame : Frame) → option_map (λ (l : FrameLock). l.frame) (slice_get locks i) ≡ Some frame → SomeMember (λ (l : FrameLock). l.frame ≡ frame) locks
lock-of locks i frame is = which (slice_get locks i) refl is
  where
    which : (o : Option FrameLock) → slice_get locks i ≡ o → option_map (λ (l : FrameLock). l.frame) o ≡ Some frame → SomeMember (λ (l : FrameLock). l.frame ≡ frame) locks
    which None none is = absurd (none-some frame is)
    which (Some l) some is = (i, l, some, same_Some l.frame frame is)

-- a stamp under a frame's lock is of a view that has it
pub under-lock : (who : Who) (v : View) (frame : Frame) → IsUnderLock frame (stamp_of who v) → SomeMember (λ (l : FrameLock). l.frame ≡ frame) v.locks
under-lock who v frame (inl first) = lock-of v.locks 0 frame first
under-lock who v frame (inr second) = lock-of v.locks 1 frame second

-- a sight under the locks of before, and that of an adoption
by-locks : {who : Who} {before : View} {place : SharedWord} {word : ℕ} {step : Step} → IsStamped (record { stamp = stamp_of who before; place = place; word = word }) step before
by-locks {who} {before} = record { locked = λ frame is under. inr (under-lock who before frame under) }

by-adopting : {who : Who} {before : View} {frame : Frame} {word : ℕ} → IsStamped (record { stamp = stamp_of who (adopting frame word before); place = places.Frame frame; word = word }) (steps.Adopt frame) before
by-adopting {frame = frame} = record { locked = λ other is under. inl (ap (λ (f : Frame). steps.Adopt f) (same_Some frame other (ap frame_at is))) }

-- the first frame lock of a view
first-frame : (locks : List FrameLock) (frame : Frame) (owner : ℕ) → option_map (λ (l : FrameLock). l.frame) (slice_get locks 0) ≡ Some frame → option_map (λ (l : FrameLock). l.owner) (slice_get locks 0) ≡ Some owner
    → SomeMember (λ (l : FrameLock). (l.frame ≡ frame) × (l.owner ≡ owner)) locks
first-frame [] frame owner held owned = absurd (none-some frame held)
first-frame (l ∷ ls) frame owner held owned = (0, l, refl, (same_Some l.frame frame held, same_Some l.owner owner owned))

module _ (P : Sayings) where
  -- one sight more, one mark more, one stop more
  with-sight : {ss : List Sight} {ls : List Length} {ms : List Mark} {ws : List Who} {ds : List Spoiled} (s : Sight) → P.sight s → AreSaid P ss ls ms ws ds → AreSaid P (ss ++ s ∷ []) ls ms ws ds
  with-sight {ss} s here said = record { sights = each-push P.sight ss s here said.sights; lengths = said.lengths; marks = said.marks; stops = said.stops; spoiled = said.spoiled }

  with-mark : {ss : List Sight} {ls : List Length} {ms : List Mark} {ws : List Who} {ds : List Spoiled} (m : Mark) → P.mark m → AreSaid P ss ls ms ws ds → AreSaid P ss ls (ms ++ m ∷ []) ws ds
  with-mark {ms = ms} m here said = record { sights = said.sights; lengths = said.lengths; marks = each-push P.mark ms m here said.marks; stops = said.stops; spoiled = said.spoiled }

  either : (b : Bool) (x y : View) → (b ≡ true → Said P x) → (b ≡ false → Said P y) → Said P (cond b x y)
  either true x y then otherwise = then refl
  either false x y then otherwise = otherwise refl

  loads : (who : Who) (place : SharedWord) (found : ℕ) (v : View) → ((s : Sight) → s.stamp.who ≡ who → s.place ≡ place → s.word ≡ found → IsUnder s (loaded who place found v) → IsStamped s (steps.Load place) v → P.sight s) → Said P v → Said P (loaded who place found v)
  loads who (places.Frame frame) found v sight said = with-sight _ (sight _ refl refl refl (not-look refl) by-locks) said
  loads who (places.Trans slot) found v sight said = with-sight _ (sight _ refl refl refl (not-look refl) (not-frame refl)) said
  loads who (places.Cache page) found v sight said = with-sight _ (sight _ refl refl refl (not-look refl) (not-frame refl)) said
  loads who (places.Page page) found v sight said = with-sight _ (sight _ refl refl refl (not-look refl) (not-frame refl)) said
  loads who (places.Free number) found v sight said = with-sight _ (sight _ refl refl refl (not-look refl) (not-frame refl)) said
  loads who places.Available found v sight said = with-sight _ (sight _ refl refl refl (not-look refl) (not-frame refl)) said
  loads who (places.Bad frame) found v sight said = with-sight _ (sight _ refl refl refl (record { locked = λ other owner is held owned. first-frame v.locks other owner held owned }) (not-frame refl)) said
  loads who (places.Weak frame) found v sight said = with-sight _ (sight _ refl refl refl (not-look refl) (not-frame refl)) said
  loads who places.Counter found v sight said = with-sight _ (sight _ refl refl refl (not-look refl) (not-frame refl)) said
  loads who (places.Process process) found v sight said = with-sight _ (sight _ refl refl refl (not-look refl) (not-frame refl)) said
  loads who (places.Policy thread) found v sight said = with-sight _ (sight _ refl refl refl (not-look refl) (not-frame refl)) said
  loads who (places.Loss file) found v sight said = with-sight _ (sight _ refl refl refl (not-look refl) (not-frame refl)) said
  loads who places.Stop found v sight said = with-sight _ (sight _ refl refl refl (not-look refl) (not-frame refl)) said

  lists : (layout : Layout) (who : Who) (log : Log) (body : Option InHand) (v : View) → Said P v → Said P (listed_of layout who log body v)
  lists layout who log None v said = said
  lists layout who log (Some body) v said = said

  puts : (layout : Layout) (who : Who) (content : Option Log) (v : View) → Said P v → Said P (put_home layout who content v)
  puts layout who None v said = said
  puts layout who (Some log) v said = lists layout who log (body_of log.page v) v said

-- the first page lock of a view
first-lock : (pages : List PageLock) (page : Page) → option_map (λ (l : PageLock). l.page) (slice_get pages 0) ≡ Some page → SomeMember (λ (l : PageLock). l.page ≡ page) pages
first-lock [] page is = absurd (none-some page is)
first-lock (l ∷ ls) page is = (0, l, refl, same_Some l.page page is)

-- a body that was taken is seen
taken-seen : (layout : Layout) (who : Who) (frame : Option Frame) (log : Log) (v : View) → (stamp_of who v).page ≡ Some log.page → SeesPage log.page (λ (x : Log). x ≡ log) (taken layout who frame (Some log) v)
taken-seen layout who frame log v is = record {
  locked = some-changed (λ (l : PageLock). l.page ≡ log.page) (is_page_lock_of log.page) (knowing layout log frame) v.pages (λ l test page_is. page_is) (first-lock v.pages log.page is);
  body = some-last (λ (b : InHand). (b.log.page ≡ log.page) × (b.log ≡ log)) v.bodies _ (refl, refl);
}

takes : (P : Sayings) (layout : Layout) (who : Who) (frame : Option Frame) (content : Option Log) (v : View)
    → ((l : Length) → l.stamp.who ≡ who → (l.stamp.page ≡ Some l.log.page → SeesPage l.log.page (λ (log : Log). log ≡ l.log) (taken layout who frame content v)) → P.length l) → Said P v → Said P (taken layout who frame content v)
takes P layout who frame None v here said = said
takes P layout who frame (Some log) v here said = record {
  sights = said.sights;
  lengths = each-push P.length v.lengths (record { stamp = stamp_of who v; log = log }) (here (record { stamp = stamp_of who v; log = log }) refl (taken-seen layout who frame log v)) said.lengths;
  marks = said.marks;
  stops = said.stops;
  spoiled = said.spoiled;
}

-- a lock is taken, or isn't
locks : (P : Sayings) (layout : Layout) (who : Who) (frame : Option Frame) (content : Option Log) (v w : View) (b : Bool)
    → ((l : Length) → l.stamp.who ≡ who → (l.stamp.page ≡ Some l.log.page → SeesPage l.log.page (λ (log : Log). log ≡ l.log) (cond b (taken layout who frame content w) v)) → P.length l)
    → Said P w → Said P v → Said P (cond b (taken layout who frame content w) v)
locks P layout who frame content v w true here there said = takes P layout who frame content w here there
locks P layout who frame content v w false here there said = said

-- with what is said of what a step adds, all that is said of its seat's lists
pub said-by : (P : Sayings) (layout : Layout) (who : Who) (step : Step) (found : ℕ) (content : Option Log) (v : View) → SaidOfStep P who step found v (view_by layout who step found content v) → Said P v → Said P (view_by layout who step found content v)
said-by P layout who (steps.Load place) found content v new said = loads P who place found v new.sight said
said-by P layout who (steps.Reserve seen) found content v new said = either P (found == seen) _ _ (λ is. said) (λ is. with-sight P _ (new.sight _ refl refl refl (not-look refl) (not-frame refl)) said)
said-by P layout who (steps.TakeBit frame) found content v new said = either P (goes (steps.TakeBit frame) found) _ _ (λ is. said) (λ is. with-sight P _ (new.sight _ refl refl refl (not-look refl) (not-frame refl)) said)
said-by P layout who (steps.GiveBit frame) found content v new said = said
said-by P layout who steps.Unreserve found content v new said = said
said-by P layout who (steps.Adopt frame) found content v new said = with-sight P _ (new.sight _ refl refl refl (not-look refl) by-adopting) said
said-by P layout who (steps.GetRef frame seen count) found content v new said = either P (found == seen) _ _ (λ is. said) (λ is. with-sight P _ (new.sight _ refl refl refl (not-look refl) by-locks) said)
said-by P layout who (steps.PutRef frame count) found content v new said = said
said-by P layout who (steps.LockFrame frame) found content v new said =
    locks P layout who (Some frame) content v (record v { locks = v.locks ++ lock_found frame found ∷ [] }) (goes (steps.LockFrame frame) found) new.length said said
said-by P layout who (steps.UnlockFrame frame) found content v new said = puts P layout who content v said
said-by P layout who (steps.Retire frame) found content v new said = said
said-by P layout who (steps.Revive frame seen) found content v new said = either P (found == seen) _ _ (λ is. with-mark P _ (new.mark _ refl (refl, refl, refl, is)) said) (λ is. with-sight P _ (new.sight _ refl refl refl (not-look refl) by-locks) said)
said-by P layout who (steps.SetOwner frame page owned) found content v new said = said
said-by P layout who (steps.LockPage page) found content v new said =
    locks P layout who None content v (record v { pages = v.pages ++ lock_of_page layout page content (body_of page v) ∷ [] }) (goes (steps.LockPage page) found) new.length said said
said-by P layout who (steps.UnlockPage page) found content v new said = puts P layout who content v said
said-by P layout who (steps.SetPte slot pte) found content v new said = said
said-by P layout who (steps.SetCache page frame) found content v new said = said
said-by P layout who (steps.Poison frame hardware) found content v new said =
    either P (goes (steps.Poison frame hardware) found) _ _ (λ is. with-mark P _ (new.mark _ refl (refl, refl, refl, is)) said) (λ is. with-sight P _ (new.sight _ refl refl refl (not-look refl) by-locks) said)
said-by P layout who (steps.CountPoison hardware) found content v new said = said
said-by P layout who steps.Uncount found content v new said = said
said-by P layout who (steps.Spoil frame line damage) found content v new said = record {
  sights = said.sights;
  lengths = said.lengths;
  marks = said.marks;
  stops = said.stops;
  spoiled = each-push P.spoil v.spoiled _ (new.spoil _ refl refl) said.spoiled;
}
said-by P layout who (steps.Stop cpu) found content v new said = either P (found == 0) _ _
    (λ is. record { sights = said.sights; lengths = said.lengths; marks = said.marks; stops = each-push P.stop v.stops who (new.stop cpu refl is) said.stops; spoiled = said.spoiled })
    (λ is. with-sight P _ (new.sight _ refl refl refl (not-look refl) (not-frame refl)) said)
said-by P layout who steps.GiveUp found content v new said = said
said-by P layout who (steps.Kill process page body) found content v new said =
    let listed = lists P layout who (log_of body.value) (body_of body.value.page v) v said in
    either P (found == 0) _ _ (λ is. listed) (λ is. with-sight P _ (new.sight _ refl refl refl (not-look refl) (not-frame refl)) listed)
said-by P layout who (steps.SetPolicy thread policy settings) found content v new said = said
said-by P layout who (steps.Lose file body) found content v new said = lists P layout who (log_of body.value) (body_of body.value.page v) v said
said-by P layout who (steps.ReportLost file) found content v new said = with-sight P _ (new.sight _ refl refl refl (not-look refl) (not-frame refl)) said
