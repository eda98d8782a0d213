-- The frame rule: what holds between any two steps.
use Rattle.std.specs.Prelude.{◌≡◌, ℕ, ◌+◌, List, map, length}
use Rattle.hwp_page.specs.hwp_geom.declared.Layout.{Layout}
use Rattle.hwp_page.specs.hwp_geom.Layout.{IsSound}
use Rattle.hwp_core_rule.specs.declared.record.State.{State}
use Rattle.hwp_core_rule.specs.declared.view.View.{View}
use Rattle.hwp_core_rule.specs.Lists.{Homes}
use Rattle.hwp_core_rule.specs.Words.{Words, words_of, size}
use Rattle.hwp_core_rule.specs.parts.Counts.{CountsBalance}
use Rattle.hwp_core_rule.specs.parts.Places.{HasOnePlace}
use Rattle.hwp_core_rule.specs.parts.Locks.{FrameLocksHeld, PageLocksHeld}
use Rattle.hwp_core_rule.specs.parts.Owners.{TranslationsOwned, CacheWordsOwned}
use Rattle.hwp_core_rule.specs.parts.Bodies.{Holder, BodiesAtHome}
use Rattle.hwp_core_rule.specs.parts.Handled.{HandledIsPoisoned}
use Rattle.hwp_core_rule.specs.parts.Counter.{CountDebts, CounterAgrees}
use Rattle.hwp_core_rule.specs.parts.Free.{FreeBitsAgree}
use Rattle.hwp_core_rule.specs.parts.Damage.{DamageListed}
use Rattle.hwp_core_rule.specs.parts.Entries.{EntriesListed}
use Rattle.hwp_core_rule.specs.parts.Endings.{EndingsAgree}
use Rattle.hwp_core_rule.specs.parts.Marks.{MarksAlternate}
use Rattle.hwp_core_rule.specs.parts.Holdings.{Holdings, HoldingsBounded, ProcessorsApart, CommandsOwn, HeldByProcessors}
use Rattle.hwp_core_rule.specs.parts.Losses.{Losing, LossesBalance}
use Rattle.hwp_core_rule.specs.parts.Policies.{PoliciesListed}
use Rattle.hwp_core_rule.specs.parts.Exhaustion.{ExhaustionExplained}
use Rattle.hwp_core_rule.specs.parts.Stops.{EndingsAndStopsStay}
use Rattle.hwp_core_rule.specs.parts.Fits.{PageFits}

-- what the parts read of a view
abbrev pub count_debts_of : View → CountDebts
count_debts_of v = record { counts = v.owed.counts; hardware = v.owed.hardware; uncounts = v.owed.uncounts; marks = v.marks }

abbrev pub holder_of : View → Holder
holder_of v = record { locks = v.locks; pages = v.pages; bodies = v.bodies }

abbrev pub holdings_of : View → Holdings
holdings_of v = record { reserved = v.reserved; hands = v.hands; refs = v.refs }

abbrev pub losing_of : View → Losing
losing_of v = record { owed = v.owed.losses; made = v.made; marks = v.marks }

-- frames: their counts, the one place of each, their locks, the free bits, and how many frames a view holds
pub record FrameParts (layout : Layout) (frames trans caches frees : List ℕ) (available : ℕ) (views : List View) : Type 0 where
  pub counts : CountsBalance frames trans caches (map (λ (v : View). v.refs) views)
  pub places : HasOnePlace layout.kernel frames frees (map (λ (v : View). v.hands) views)
  pub frame_locks : FrameLocksHeld frames (map (λ (v : View). (v.refs, v.locks)) views)
  pub free : FreeBitsAgree layout.frames frees available (map (λ (v : View). v.reserved) views)
  pub holdings : HoldingsBounded layout (map holdings_of views)

-- pages: their locks, the words that name frames, where the bodies are, and that a page's words fit its body
pub record PageParts (layout : Layout) (frames trans cache_words pages : List ℕ) (homes : Homes) (views : List View) : Type 0 where
  pub page_locks : PageLocksHeld pages (map (λ (v : View). v.pages) views) (map (λ (v : View). v.locks) views)
  pub translations : TranslationsOwned layout.trans frames trans
  pub caches : CacheWordsOwned frames cache_words (map (λ (v : View). (v.locks, v.pages)) views)
  pub bodies : BodiesAtHome layout frames cache_words pages homes (map holder_of views)
  pub fits : PageFits layout trans cache_words homes (map (λ (v : View). (v.pages, v.bodies)) views)

-- histories: their entries, the processes that they ended, and the losses of files
pub record HistoryParts (layout : Layout) (processes loss_words : List ℕ) (homes : Homes) (views : List View) : Type 0 where
  pub entries : EntriesListed homes (map (λ (v : View). v.bodies) views) (map (λ (v : View). (v.made, v.sights)) views) (map (λ (v : View). v.lengths) views)
  pub endings : EndingsAgree layout processes homes (map (λ (v : View). v.bodies) views) (map (λ (v : View). v.sights) views)
  pub losses : LossesBalance layout loss_words homes (map (λ (v : View). v.bodies) views) (map losing_of views) (map (λ (v : View). v.sights) views)

-- failures: handled frames, the counter, bad and weak lines, marks, and why no frame is free
pub record FailureParts (layout : Layout) (frames : List ℕ) (counter_word : ℕ) (bads weaks : List ℕ) (homes : Homes) (views : List View) : Type 0 where
  pub handled : HandledIsPoisoned frames
  pub counter : CounterAgrees frames counter_word (map count_debts_of views) (map (λ (v : View). v.sights) views)
  pub damage : DamageListed bads weaks (map (λ (v : View). v.spoiled) views) (map (λ (v : View). v.sights) views)
  pub marks : MarksAlternate frames (map (λ (v : View). v.marks) views) (map (λ (v : View). v.sights) views)
  pub exhaustion : ExhaustionExplained layout (map (λ (v : View). v.marks) views) (map (λ (v : View). v.sights) views)

-- processors: the policies of their threads, the stop, which view is whose, and that a view lists only its own commands
pub record ProcessorParts (layout : Layout) (processes policy_words : List ℕ) (stop : ℕ) (views : List View) : Type 0 where
  pub policies : PoliciesListed layout.threads policy_words (map (λ (v : View). (v.parts, v.settings)) views) (map (λ (v : View). v.sights) views)
  pub stops : EndingsAndStopsStay processes stop (map (λ (v : View). v.bodies) views) (map (λ (v : View). v.sights) views) (map (λ (v : View). v.stops) views)
  pub processors : ProcessorsApart layout (map (λ (v : View). v.parts) views)
  pub commands : CommandsOwn views

-- the frame rule of the words, of the slots at home and of all views: its parts, in groups by what they read
pub record FrameRule (layout : Layout) (w : Words) (homes : Homes) (views : List View) : Type 0 where
  pub frames : FrameParts layout w.frames w.trans w.caches w.frees w.available views
  pub pages : PageParts layout w.frames w.trans w.caches w.pages homes views
  pub histories : HistoryParts layout w.processes w.losses homes views
  pub failures : FailureParts layout w.frames w.counter w.bads w.weaks homes views
  pub processors : ProcessorParts layout w.processes w.policies w.stop views

-- a board of a sound layout, with all its words and slots, that keeps the frame rule, where processors alone hold something
pub record Holds (layout : Layout) (s : State) : Type 0 where
  pub sound : IsSound layout
  pub words : length s.words ≡ size layout
  pub slots : length s.homes ≡ layout.frames + length layout.pages
  pub rule : FrameRule layout (words_of layout s.words) s.homes s.views
  pub held : HeldByProcessors s.views
