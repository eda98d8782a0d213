-- A load keeps the frame rule: it changes no word, and what it shows is explained.
use Rattle.std.proofs.Common.{◌≡◌, ℕ, eqb-true, Bool, true, false, cond, Some, length, set, slice_get, slice_index, refl, sym, ap, ◌∙◌, subst}
use Rattle.hwp_page.specs.hwp_geom.declared.Frame.{Frame}
use Rattle.hwp_page.specs.hwp_geom.declared.Page.{Page}
use Rattle.hwp_page.specs.hwp_geom.declared.Proc.{Proc}
use Rattle.hwp_page.specs.hwp_geom.declared.Thread.{Thread}
use Rattle.hwp_page.specs.hwp_geom.declared.VSlot.{VSlot}
use Rattle.hwp_core_rule.specs.declared.shared_word.SharedWord.{SharedWord}
use Rattle.hwp_core_rule.specs.declared.view.InHand.{InHand}
use Rattle.hwp_core_rule.specs.declared.view.PageLock.{PageLock}
use Rattle.hwp_core_rule.specs.declared.view.View.{View}
use Rattle.hwp_core_rule.specs.Lists.{EachMember}
use Rattle.hwp_core_rule.specs.Rule.{FrameRule}
use Rattle.hwp_core_rule.specs.Views.{sighted, stamp_of, changed, is_page_lock_of}
use Rattle.hwp_core_rule.specs.Words.{Words}
use Rattle.hwp_core_rule.specs.parts.Fits.{KnowsWords, KnowsOwn}
use Rattle.hwp_core_rule.proofs.bounds.Exhausted.{explained-available}
use Rattle.hwp_core_rule.proofs.Keeps.{Keeps}
use Rattle.hwp_core_rule.proofs.steps.PageLockLists.{keeps-listing}
use Rattle.hwp_core_rule.proofs.WordsByKind.{word-there, same-put}
use Rattle.hwp_core_rule.proofs.Lists.{at_map, set_here, set-set, each-changed}
use Rattle.hwp_core_rule.proofs.ShownWords.{explained-bad, explained-weak, explained-stop, explained-policy, explained-counter, explained-process}
use Rattle.hwp_core_rule.proofs.Sights.{keeps-sight, keeps-shown, explained-frame, explained-free, explained-quiet}
use Rattle.hwp_core_rule.specs.declared.shared_word.SharedWord.TheVariants as places
use Rattle.hwp_core_rule.specs.declared.step.Step.TheVariants as steps

pub keeps-load_frame : (frame : Frame) → Keeps (steps.Load (places.Frame frame))
keeps-load_frame frame layout w homes views seat v who content given =
    keeps-shown layout w homes views seat v who (places.Frame frame) given.me given.past
    (explained-frame layout w homes views (stamp_of who v) frame (slice_index w.frames frame.0) (word-there w.frames frame.0 layout.frames given.shaped.frames given.place)) given.rule

pub keeps-load_avail : Keeps (steps.Load places.Available)
keeps-load_avail layout w homes views seat v who content given =
    keeps-shown layout w homes views seat v who places.Available given.me given.past
    (explained-available layout w homes views (stamp_of who v) given.sound given.shaped given.rule given.held) given.rule

pub keeps-load_free : (number : ℕ) → Keeps (steps.Load (places.Free number))
keeps-load_free number layout w homes views seat v who content given =
    keeps-shown layout w homes views seat v who (places.Free number) given.me given.past
    (explained-free layout w homes views (stamp_of who v) number (slice_index w.frees number)) given.rule

pub keeps-load_pte : (slot : VSlot) → Keeps (steps.Load (places.Trans slot))
keeps-load_pte slot layout w homes views seat v who content given =
    keeps-shown layout w homes views seat v who (places.Trans slot) given.me given.past
    (explained-quiet layout w homes views (record { stamp = stamp_of who v; place = places.Trans slot; word = slice_index w.trans slot.0 }) refl) given.rule

pub keeps-load_bad : (frame : Frame) → Keeps (steps.Load (places.Bad frame))
keeps-load_bad frame layout w homes views seat v who content given =
    keeps-shown layout w homes views seat v who (places.Bad frame) given.me given.past
    (explained-bad layout w homes views (stamp_of who v) frame (slice_index w.bads frame.0) (word-there w.bads frame.0 layout.frames given.shaped.bads given.place)) given.rule

pub keeps-load_weak : (frame : Frame) → Keeps (steps.Load (places.Weak frame))
keeps-load_weak frame layout w homes views seat v who content given =
    keeps-shown layout w homes views seat v who (places.Weak frame) given.me given.past
    (explained-weak layout w homes views (stamp_of who v) frame (slice_index w.weaks frame.0) (word-there w.weaks frame.0 layout.frames given.shaped.weaks given.place)) given.rule

pub keeps-load_count : Keeps (steps.Load places.Counter)
keeps-load_count layout w homes views seat v who content given =
    keeps-shown layout w homes views seat v who places.Counter given.me given.past
    (explained-counter layout w homes views seat v (stamp_of who v) given.me given.turn given.rule) given.rule

pub keeps-load_proc : (process : Proc) → Keeps (steps.Load (places.Process process))
keeps-load_proc process layout w homes views seat v who content given =
    keeps-shown layout w homes views seat v who (places.Process process) given.me given.past
    (explained-process layout w homes views seat v (stamp_of who v) given.me given.turn given.rule process (slice_index w.processes process.0)
    (word-there w.processes process.0 layout.procs given.shaped.processes given.place)) given.rule

pub keeps-load_policy : (thread : Thread) → Keeps (steps.Load (places.Policy thread))
keeps-load_policy thread layout w homes views seat v who content given =
    keeps-shown layout w homes views seat v who (places.Policy thread) given.me given.past
    (explained-policy layout w homes views (stamp_of who v) given.rule thread (slice_index w.policies thread.0)
    (word-there w.policies thread.0 (length layout.threads) given.shaped.policies given.place)) given.rule

pub keeps-load_stop : Keeps (steps.Load places.Stop)
keeps-load_stop layout w homes views seat v who content given =
    keeps-shown layout w homes views seat v who places.Stop given.me given.past (explained-stop layout w homes views (stamp_of who v)) given.rule

pub keeps-load_cache : (page : Page) → Keeps (steps.Load (places.Cache page))
keeps-load_cache page layout w homes views seat v who content given =
    subst (λ (x : Words). FrameRule layout x homes (set views seat u)) (sym (same-put (places.Cache page) w))
    (subst (FrameRule layout w homes) (set-set views seat seen u) (keeps-listing layout w homes (set views seat seen) seat seen (set_here views seat seen v given.me) rule test to (λ l. refl) knows own))
  where
    word : ℕ
    word = slice_index w.caches page.0

    there : slice_get w.caches page.0 ≡ Some word
    there = word-there w.caches page.0 (length layout.pages) given.shaped.caches given.place

    test : PageLock → Bool
    test l = is_page_lock_of page l

    to : PageLock → PageLock
    to l = record l { cache = Some word }

    seen : View
    seen = sighted who (places.Cache page) word v

    u : View
    u = record seen { pages = changed test to v.pages }

    rule : FrameRule layout w homes (set views seat seen)
    rule = keeps-sight layout w homes views seat v who (places.Cache page) word given.me given.past
        (explained-quiet layout w homes views (record { stamp = stamp_of who v; place = places.Cache page; word = word }) refl) given.rule

    knows : EachMember (KnowsWords layout w.trans w.caches) u.pages
    knows = each-changed (KnowsWords layout w.trans w.caches) test to v.pages
        (λ l is k. record {
          resident = k.resident;
          cache = λ c e.
              let one : slice_get w.caches l.page.0 ≡ Some word = ap (slice_get w.caches) (eqb-true l.page.0 page.0 is) ∙ there in
              one ∙ e;
          words = k.words;
        })
        (given.rule.pages.fits.known seat (v.pages, v.bodies) (at_map (λ (v : View). (v.pages, v.bodies)) views seat v given.me))

    own : (b : InHand) → KnowsOwn v.pages b → KnowsOwn u.pages b
    own b k = which (test k.lock) refl
      where
        which : (c : Bool) → test k.lock ≡ c → KnowsOwn u.pages b
        which true is = record {
          lock = to k.lock;
          there = at_map (λ (l : PageLock). cond (test l) (to l) l) v.pages 0 k.lock k.there ∙ ap (λ (c : Bool). Some (cond c (to k.lock) k.lock)) is;
          cache = word;
          cache_is = refl;
          trans = k.trans;
          trans_is = k.trans_is;
        }
        which false is = record {
          lock = k.lock;
          there = at_map (λ (l : PageLock). cond (test l) (to l) l) v.pages 0 k.lock k.there ∙ ap (λ (c : Bool). Some (cond c (to k.lock) k.lock)) is;
          cache = k.cache;
          cache_is = k.cache_is;
          trans = k.trans;
          trans_is = k.trans_is;
        }

-- every load
pub keeps-load : (place : SharedWord) → Keeps (steps.Load place)
keeps-load (places.Frame frame) = keeps-load_frame frame
keeps-load (places.Trans slot) = keeps-load_pte slot
keeps-load (places.Cache page) = keeps-load_cache page
keeps-load (places.Page page) = λ layout w homes views seat v who content given. absurd given.asks
keeps-load (places.Free number) = keeps-load_free number
keeps-load places.Available = keeps-load_avail
keeps-load (places.Bad frame) = keeps-load_bad frame
keeps-load (places.Weak frame) = keeps-load_weak frame
keeps-load places.Counter = keeps-load_count
keeps-load (places.Process process) = keeps-load_proc process
keeps-load (places.Policy thread) = keeps-load_policy thread
keeps-load (places.Loss file) = λ layout w homes views seat v who content given. absurd given.asks
keeps-load places.Stop = keeps-load_stop
