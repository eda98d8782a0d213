-- What a command has seen it has seen after each step too; what a step shows; and bad lines that were seen stay bad.
use Rattle.std.proofs.Common.{◌≡◌, ◌⊎◌, ℕ, ◌+◌, ◌<◌, ◌≤◌, ◌==◌, min, not, Bool, true, false, cond, List, [], ◌∷◌, ◌++◌, Option, Some, None, bit_and, length, option_map, slice_get, inl, inr, refl, sym, ap, ◌∙◌, subst, arith}
use Rattle.std.specs.Int.{bit_at}
use Rattle.std.proofs.lemmas.Nat.Bits.{bit_at_and, same_from_bits}
use Rattle.hwp_page.specs.hwp_geom.declared.FileNo.{FileNo}
use Rattle.hwp_page.specs.hwp_geom.declared.Frame.{Frame}
use Rattle.hwp_page.specs.hwp_geom.declared.Layout.{Layout}
use Rattle.hwp_page.specs.hwp_geom.declared.Page.{Page}
use Rattle.hwp_page.specs.hwp_geom.declared.Who.{Who}
use Rattle.hwp_page.specs.declared.PageState.{PageState}
use Rattle.hwp_page.specs.History.{BodyValue}
use Rattle.hwp_words.specs.Frames.{is_locked}
use Rattle.hwp_words.specs.Stops.{is_stopped}
use Rattle.hwp_core_rule.specs.declared.view.FrameLock.{FrameLock}
use Rattle.hwp_core_rule.specs.declared.view.InHand.{InHand}
use Rattle.hwp_core_rule.specs.declared.view.Length.{Length}
use Rattle.hwp_core_rule.specs.declared.log.Log.{Log}
use Rattle.hwp_core_rule.specs.declared.view.PageLock.{PageLock}
use Rattle.hwp_core_rule.specs.declared.shared_word.SharedWord.{SharedWord}
use Rattle.hwp_core_rule.specs.declared.shared_word.SharedWord.TheVariants as places
use Rattle.hwp_core_rule.specs.declared.view.Sight.{Sight}
use Rattle.hwp_core_rule.specs.declared.record.State.{State}
use Rattle.hwp_core_rule.specs.declared.step.Step.{Step}
use Rattle.hwp_core_rule.specs.declared.step.Step.TheVariants as steps
use Rattle.hwp_core_rule.specs.declared.view.View.{View}
use Rattle.hwp_core_rule.specs.Lists.{SomeMember}
use Rattle.hwp_core_rule.specs.Logs.{log_of}
use Rattle.hwp_core_rule.specs.Rule.{Holds}
use Rattle.hwp_core_rule.specs.SlotMoves.{IsIn, frame_slot, shelf_slot, is_out, moved_out}
use Rattle.hwp_core_rule.specs.Steps.{goes}
use Rattle.hwp_core_rule.specs.Views.{adopting, body_of, listed_of, lock_found, lock_of_page, loaded, noted, put_home, sighted, stamp_of, taken, view_by}
use Rattle.hwp_core_rule.specs.Words.{words_of}
use Rattle.hwp_core_rule.proofs.Lists.{at_map, some-push, some-last}
use Rattle.hwp_core_rule.proofs.MetWords.{free-word, on-shelf}
use Rattle.hwp_core_rule.specs.Calls.{Steps}
use Rattle.hwp_core_rule.proofs.tasks.StepLeaves.{brought, content_of, was-home}
use Rattle.hwp_core_rule.specs.Known.{HasSeenLoss, IsAdoption, IsLook, IsMet, IsShown, Saw, SawAdopted, SawBadOf, SawLog, SawStop}
use Rattle.hwp_core_rule.specs.Pages.{SawState}

-- every sight and every history that was seen stays
pub record Grows (v x : View) : Type 1 where
  pub sights : (P : Sight → Type 0) → SomeMember P v.sights → SomeMember P x.sights
  pub lengths : (P : Length → Type 0) → SomeMember P v.lengths → SomeMember P x.lengths

same : (v x : View) → x.sights ≡ v.sights → x.lengths ≡ v.lengths → Grows v x
same v x e f = record { sights = λ P some. subst (SomeMember P) (sym e) some; lengths = λ P some. subst (SomeMember P) (sym f) some }

shown : (v x : View) (s : Sight) → x.sights ≡ v.sights ++ s ∷ [] → x.lengths ≡ v.lengths → Grows v x
shown v x s e f = record { sights = λ P some. subst (SomeMember P) (sym e) (some-push P v.sights s some); lengths = λ P some. subst (SomeMember P) (sym f) some }

either : (b : Bool) (v x y : View) → Grows v x → Grows v y → Grows v (cond b x y)
either true v x y g h = g
either false v x y g h = h

-- a load adds the sight of its word
loaded-sights : (who : Who) (place : SharedWord) (found : ℕ) (v : View) → (loaded who place found v).sights ≡ v.sights ++ (record { stamp = stamp_of who v; place = place; word = found }) ∷ []
loaded-sights who (places.Frame frame) found v = refl
loaded-sights who (places.Trans slot) found v = refl
loaded-sights who (places.Cache page) found v = refl
loaded-sights who (places.Page page) found v = refl
loaded-sights who (places.Free number) found v = refl
loaded-sights who places.Available found v = refl
loaded-sights who (places.Bad frame) found v = refl
loaded-sights who (places.Weak frame) found v = refl
loaded-sights who places.Counter found v = refl
loaded-sights who (places.Process process) found v = refl
loaded-sights who (places.Policy thread) found v = refl
loaded-sights who (places.Loss file) found v = refl
loaded-sights who places.Stop found v = refl

loaded-lengths : (who : Who) (place : SharedWord) (found : ℕ) (v : View) → (loaded who place found v).lengths ≡ v.lengths
loaded-lengths who (places.Cache page) found v = refl
loaded-lengths who _ found v = refl

takes-grow : (layout : Layout) (who : Who) (frame : Option Frame) (content : Option Log) (v x : View) → x.sights ≡ v.sights → x.lengths ≡ v.lengths → Grows v (taken layout who frame content x)
takes-grow layout who frame None v x e f = same v x e f
takes-grow layout who frame (Some log) v x e f = record {
  sights = λ P some. subst (SomeMember P) (sym e) some;
  lengths = λ P some. some-push P x.lengths (record { stamp = stamp_of who x; log = log }) (subst (SomeMember P) (sym f) some);
}

lists-grow : (layout : Layout) (who : Who) (log : Log) (body : Option InHand) (v : View) → Grows v (listed_of layout who log body v)
lists-grow layout who log None v = same v v refl refl
lists-grow layout who log (Some body) v = same v (listed_of layout who log (Some body) v) refl refl

puts-grow : (layout : Layout) (who : Who) (content : Option Log) (v : View) → Grows v (put_home layout who content v)
puts-grow layout who None v = same v v refl refl
puts-grow layout who (Some log) v = let g = lists-grow layout who log (body_of log.page v) v in record { sights = g.sights; lengths = g.lengths }

grows-by : (layout : Layout) (who : Who) (step : Step) (found : ℕ) (content : Option Log) (v : View) → Grows v (view_by layout who step found content v)
grows-by layout who (steps.Load place) found content v = shown v _ _ (loaded-sights who place found v) (loaded-lengths who place found v)
grows-by layout who (steps.Reserve seen) found content v = either (found == seen) v _ _ (same v _ refl refl) (shown v _ _ refl refl)
grows-by layout who (steps.TakeBit frame) found content v = either (goes (steps.TakeBit frame) found) v _ _ (same v _ refl refl) (shown v _ _ refl refl)
grows-by layout who (steps.GiveBit frame) found content v = same v _ refl refl
grows-by layout who steps.Unreserve found content v = same v _ refl refl
grows-by layout who (steps.Adopt frame) found content v = shown v _ _ refl refl
grows-by layout who (steps.GetRef frame seen count) found content v = either (found == seen) v _ _ (same v _ refl refl) (shown v _ _ refl refl)
grows-by layout who (steps.PutRef frame count) found content v = same v _ refl refl
grows-by layout who (steps.LockFrame frame) found content v = either (goes (steps.LockFrame frame) found) v _ _ (takes-grow layout who (Some frame) content v (record v { locks = v.locks ++ lock_found frame found ∷ [] }) refl refl) (same v v refl refl)
grows-by layout who (steps.UnlockFrame frame) found content v = let g = puts-grow layout who content v in record { sights = g.sights; lengths = g.lengths }
grows-by layout who (steps.Retire frame) found content v = same v _ refl refl
grows-by layout who (steps.Revive frame seen) found content v = either (found == seen) v _ _ (same v _ refl refl) (shown v _ _ refl refl)
grows-by layout who (steps.SetOwner frame page owned) found content v = same v _ refl refl
grows-by layout who (steps.LockPage page) found content v = either (goes (steps.LockPage page) found) v _ _
    (takes-grow layout who None content v (record v { pages = v.pages ++ lock_of_page layout page content (body_of page v) ∷ [] }) refl refl) (same v v refl refl)
grows-by layout who (steps.UnlockPage page) found content v = let g = puts-grow layout who content v in record { sights = g.sights; lengths = g.lengths }
grows-by layout who (steps.SetPte slot pte) found content v = same v _ refl refl
grows-by layout who (steps.SetCache page frame) found content v = same v _ refl refl
grows-by layout who (steps.Poison frame hardware) found content v =
    let g = either (goes (steps.Poison frame hardware) found) v _ _ (same v _ refl refl) (shown v _ _ refl refl) in record { sights = g.sights; lengths = g.lengths }
grows-by layout who (steps.CountPoison hardware) found content v = same v _ refl refl
grows-by layout who steps.Uncount found content v = same v _ refl refl
grows-by layout who (steps.Spoil frame line damage) found content v = same v _ refl refl
grows-by layout who (steps.Stop cpu) found content v = either (found == 0) v _ _ (same v _ refl refl) (shown v _ _ refl refl)
grows-by layout who steps.GiveUp found content v = same v v refl refl
grows-by layout who (steps.Kill process page body) found content v =
    let g = lists-grow layout who (log_of body.value) (body_of body.value.page v) v in
    either (found == 0) v _ _ (record { sights = g.sights; lengths = g.lengths }) (record { sights = λ P some. some-push P _ _ (g.sights P some); lengths = g.lengths })
grows-by layout who (steps.SetPolicy thread policy settings) found content v = same v _ refl refl
grows-by layout who (steps.Lose file body) found content v = let g = lists-grow layout who (log_of body.value) (body_of body.value.page v) v in record { sights = g.sights; lengths = g.lengths }
grows-by layout who (steps.ReportLost file) found content v = shown v _ _ refl refl

module _ {layout : Layout} {who : Who} {step : Step} {put : Option Log} {old new : View} {found : ℕ} {got : Option BodyValue} (made : Steps layout who step put old new found got) where
  grows : Grows (noted who old) new
  grows = subst (Grows (noted who old)) (sym made.told.next) (grows-by layout who step found (content_of layout who step put found got) (noted who old))

  -- what a command saw, of a word, of a page's bad lines, of a history and of a page's state
  pub saw-stays : {by : Who} {place : SharedWord} {word : ℕ} → Saw old by place word → Saw new by place word
  saw-stays {by} {place} {word} saw = grows.sights (IsShown by place word) saw

  pub seen-loss-stays : {file : FileNo} {number : ℕ} → HasSeenLoss old file number → HasSeenLoss new file number
  seen-loss-stays {file} {number} seen = grows.sights (λ (s : Sight). (s.place ≡ places.Loss file) × (s.word ≡ number)) seen

  pub saw-adopted-stays : {by : Who} {frame : Frame} {word : ℕ} → SawAdopted old by frame word → SawAdopted new by frame word
  saw-adopted-stays {by} {frame} {word} saw = grows.sights (IsAdoption by frame word) saw

  pub saw-bad-of-stays : {by : Who} (page : Page) {frame : Frame} {mask : ℕ} → SawBadOf old by page frame mask → SawBadOf new by page frame mask
  saw-bad-of-stays {by} page {frame} {mask} saw = grows.sights (IsLook by page frame mask) saw

  pub saw-log-stays : {by : Who} {log : Log} → SawLog old by log → SawLog new by log
  saw-log-stays {by} {log} saw = grows.lengths (IsMet by log) saw

  pub saw-state-stays : {by : Who} {page : Page} {place : ℕ} {Such : PageState → Type 0} → SawState layout old by page place Such → SawState layout new by page place Such
  saw-state-stays saw = record { log = saw.log; saw = saw-log-stays saw.saw; page_is = saw.page_is; place_is = saw.place_is; such = saw.such }

-- ---- what a step shows

last-shown : (who : Who) (place : SharedWord) (found : ℕ) (old : View) (v : View) → v.sights ≡ old.sights ++ (record { stamp = stamp_of who old; place = place; word = found }) ∷ [] → Saw v who place found
last-shown who place found old v is = subst (SomeMember (IsShown who place found)) (sym is) (some-last (IsShown who place found) old.sights (record { stamp = stamp_of who old; place = place; word = found }) (refl, refl, refl))

-- where the test is known
chose : (b c : Bool) (x y : View) → b ≡ c → (cond b x y).sights ≡ (cond c x y).sights
chose b c x y is = ap (λ (d : Bool). (cond d x y).sights) is

module _ {layout : Layout} {who : Who} {put : Option Log} {old new : View} {found : ℕ} {got : Option BodyValue} where
  -- a load shows its word
  pub saw-load : {place : SharedWord} → Steps layout who (steps.Load place) put old new found got → Saw new who place found
  saw-load {place} made = last-shown who place found (noted who old) new (ap (λ (v : View). v.sights) made.told.next ∙ loaded-sights who place found (noted who old))

  -- under the frame's lock, of a frame that the page owns, it shows the page's bad lines
  pub saw-bad-of-load : {frame : Frame} → Steps layout who (steps.Load (places.Bad frame)) put old new found got → (page : Page) (lock : FrameLock) → slice_get old.locks 0 ≡ Some lock → lock.frame ≡ frame → lock.owner ≡ page.0 + 1 → SawBadOf new who page frame found
  saw-bad-of-load {frame} made page lock at frame_is owner_is = subst (SomeMember (IsLook who page frame found)) (sym (ap (λ (v : View). v.sights) made.told.next))
      (some-last (IsLook who page frame found) old.sights (record { stamp = stamp_of who (noted who old); place = places.Bad frame; word = found }) (
        (refl, refl, refl),
        ap (option_map (λ (l : FrameLock). l.frame)) at ∙ ap (λ (f : Frame). Some f) frame_is,
        ap (option_map (λ (l : FrameLock). l.owner)) at ∙ ap (λ (n : ℕ). Some n) owner_is,
      ))

  -- so does an exchange that met another word than the one that it expects, and a bit that was not there
  pub saw-reserve : {seen : ℕ} → Steps layout who (steps.Reserve seen) put old new found got → (found == seen) ≡ false → Saw new who places.Available found
  saw-reserve {seen} made other = last-shown who places.Available found (noted who old) new (ap (λ (v : View). v.sights) made.told.next ∙ chose (found == seen) false _ _ other)

  -- so do an adoption, under the lock that it takes, and the look at a file's losses
  pub saw-adopt : {frame : Frame} → Steps layout who (steps.Adopt frame) put old new found got → length old.locks < 2 → SawAdopted new who frame found
  saw-adopt {frame} made few = subst (SomeMember (IsAdoption who frame found)) (sym (ap (λ (v : View). v.sights) made.told.next))
      (some-last (IsAdoption who frame found) old.sights (record { stamp = stamp_of who (adopting frame found (noted who old)); place = places.Frame frame; word = found }) ((refl, refl, refl), named old.locks few))
    where
      named : (locks : List FrameLock) → length locks < 2
          → (option_map (λ (l : FrameLock). l.frame) (slice_get (locks ++ lock_found frame found ∷ []) 0) ≡ Some frame) ⊎ (option_map (λ (l : FrameLock). l.frame) (slice_get (locks ++ lock_found frame found ∷ []) 1) ≡ Some frame)
      named [] room = inl refl
      named (l ∷ []) room = inr refl
      named (l ∷ k ∷ ls) room = absurd (omega (arith, room))

  pub saw-report : {file : FileNo} → Steps layout who (steps.ReportLost file) put old new found got → Saw new who (places.Loss file) found
  saw-report {file} made = last-shown who (places.Loss file) found (noted who old) new (ap (λ (v : View). v.sights) made.told.next)

  -- a stop that met the word 0 is listed, and one that met another shows it
  pub stop-listed : Steps layout who (steps.Stop who.cpu) put old new found got → (found == 0) ≡ true → SomeMember (λ (w : Who). w ≡ who) new.stops
  stop-listed made zero = subst (SomeMember (λ (w : Who). w ≡ who)) (sym (ap (λ (v : View). v.stops) made.told.next
      ∙ ap (λ (b : Bool). (cond b (record (noted who old) { stops = old.stops ++ who ∷ [] }) (sighted who places.Stop found (noted who old))).stops) zero)) (some-last (λ (w : Who). w ≡ who) old.stops who refl)

  pub saw-stopped : Steps layout who (steps.Stop who.cpu) put old new found got → (found == 0) ≡ false → is_stopped found ≡ true → SawStop new who
  saw-stopped made other is = record {
    word = found;
    stopped = is;
    saw = last-shown who places.Stop found (noted who old) new (ap (λ (v : View). v.sights) made.told.next ∙ chose (found == 0) false _ _ other);
  }

-- ---- the history of a body that a step brought

page-of : (layout : Layout) (page : Page) (content : Option Log) (body : Option InHand) → (lock_of_page layout page content body).page ≡ page
page-of layout page content None = refl
page-of layout page content (Some body) = refl

-- the lengths after a body is taken
module _ (layout : Layout) (who : Who) (frame : Option Frame) (log : Log) (v : View) (lock : PageLock) where
  met-last : slice_get v.pages 0 ≡ Some lock → lock.page ≡ log.page → SawLog (taken layout who frame (Some log) v) who log
  met-last at is = some-last (IsMet who log) v.lengths (record { stamp = stamp_of who v; log = log })
      (refl, ap (option_map (λ (l : PageLock). l.page)) at ∙ ap (λ (p : Page). Some p) is, refl)

module _ {layout : Layout} {who : Who} {put : Option Log} {old new : View} {found : ℕ} {b : BodyValue} where
  -- a page's lock that was free brings the body from its shelf
  pub saw-log-shelf : {page : Page} → Steps layout who (steps.LockPage page) put old new found (Some b) → not (is_locked found) ≡ true → old.pages ≡ [] → page.0 < length layout.pages
      → SawLog new who (log_of b)
  saw-log-shelf {page} made free none inside = subst (λ (v : View). SawLog v who (log_of b)) (sym after)
      (met-last layout who None (log_of b) locked lock at (page-of layout page (Some (log_of b)) (body_of page (noted who old)) ∙ sym own))
    where
      content : content_of layout who (steps.LockPage page) put found (Some b) ≡ Some (log_of b)
      content = brought layout who (steps.LockPage page) put found (Some b) (ap (λ (went : Bool). is_out (moved_out went (shelf_slot layout page))) free)

      own : b.page ≡ page
      own = (on-shelf layout made.told.board made.told.rule page found (log_of b) inside made.told.met (free-word found free)
          (subst (IsIn made.told.board.homes (shelf_slot layout page)) content
          (was-home (not (is_locked found)) (shelf_slot layout page) made.told.board.homes (content_of layout who (steps.LockPage page) put found (Some b)) free made.told.slot))).0

      lock : PageLock
      lock = lock_of_page layout page (Some (log_of b)) (body_of page (noted who old))

      locked : View
      locked = record (noted who old) { pages = old.pages ++ lock ∷ [] }

      at : slice_get locked.pages 0 ≡ Some lock
      at = ap (λ l. slice_get (l ++ lock ∷ []) 0) none

      after : new ≡ taken layout who None (Some (log_of b)) locked
      after = made.told.next
          ∙ ap (λ (c : Option Log). view_by layout who (steps.LockPage page) found c (noted who old)) content
          ∙ ap (λ (went : Bool). cond went (taken layout who None (Some (log_of b)) locked) (noted who old)) free

  -- a frame's lock that was free brings the body from the frame: it is seen under the lock of its page
  pub saw-log-frame : {frame : Frame} → Steps layout who (steps.LockFrame frame) put old new found (Some b) → not (is_locked found) ≡ true → (lock : PageLock) → slice_get old.pages 0 ≡ Some lock → lock.page ≡ b.page
      → SawLog new who (log_of b)
  saw-log-frame {frame} made free lock at is = subst (λ (v : View). SawLog v who (log_of b)) (sym after) (met-last layout who (Some frame) (log_of b) locked lock at is)
    where
      content : content_of layout who (steps.LockFrame frame) put found (Some b) ≡ Some (log_of b)
      content = brought layout who (steps.LockFrame frame) put found (Some b) (ap (λ (went : Bool). is_out (moved_out went (frame_slot frame))) free)

      locked : View
      locked = record (noted who old) { locks = old.locks ++ lock_found frame found ∷ [] }

      after : new ≡ taken layout who (Some frame) (Some (log_of b)) locked
      after = made.told.next
          ∙ ap (λ (c : Option Log). view_by layout who (steps.LockFrame frame) found c (noted who old)) content
          ∙ ap (λ (went : Bool). cond went (taken layout who (Some frame) (Some (log_of b)) locked) (noted who old)) free

-- ---- what was seen and stays so

-- lines that a step showed as bad are bad on each board on which its processor knows of it
pub bad-lines-stay : (layout : Layout) (s : State) → Holds layout s → (seat : ℕ) {view : View} → slice_get s.views seat ≡ Some view → {who : Who} (frame : Frame) {mask word : ℕ}
    → Saw view who (places.Bad frame) mask → slice_get (words_of layout s.words).bads frame.0 ≡ Some word → bit_and mask word ≡ mask
bad-lines-stay layout s h seat {view} me {who} frame {mask} {word} (i, sight, there, (by, place, shown)) standing = same_from_bits (bit_and mask word) mask (λ line. bit_at_and mask word line ∙ least line)
  where
    stays : (line : ℕ) → bit_at mask line ≤ bit_at word line
    stays line = subst (λ (n : ℕ). bit_at n line ≤ bit_at word line) shown (h.rule.failures.damage.bad_stays frame word standing seat view.sights (at_map (λ (v : View). v.sights) s.views seat view me) i sight there place line)

    least : (line : ℕ) → min (bit_at mask line) (bit_at word line) ≡ bit_at mask line
    least line = let less : bit_at mask line ≤ bit_at word line = stays line in omega (arith, less)
