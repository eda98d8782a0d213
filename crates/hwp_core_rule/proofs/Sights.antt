-- A sight more in a seat's view keeps the frame rule, where the parts explain it.
use Rattle.std.proofs.Common.{◌≡◌, ◌≢◌, ℕ, ◌+◌, ◌*◌, ◌<◌, ◌≤◌, List, [], ◌∷◌, ◌++◌, Option, Some, None, map, set, take, length, slice_get, refl, sym, ap, ◌∙◌, subst, arith}
use Rattle.std.specs.Int.{bit_at}
use Rattle.std.specs.List.{sum_by}
use Rattle.std.proofs.lemmas.Option.{same_Some}
use Rattle.hwp_page.specs.hwp_geom.declared.FileNo.{FileNo}
use Rattle.hwp_page.specs.hwp_geom.declared.Frame.{Frame}
use Rattle.hwp_page.specs.hwp_geom.declared.Layout.{Layout}
use Rattle.hwp_page.specs.hwp_geom.declared.Proc.{Proc}
use Rattle.hwp_page.specs.hwp_geom.declared.Thread.{Thread}
use Rattle.hwp_page.specs.hwp_geom.declared.ThreadDecl.{ThreadDecl}
use Rattle.hwp_page.specs.hwp_geom.declared.Who.{Who}
use Rattle.hwp_page.specs.declared.Met.TheVariants.{Word}
use Rattle.hwp_page.specs.declared.What.{What}
use Rattle.hwp_words.specs.Counters.{hardware_of}
use Rattle.hwp_words.specs.Frames.{poison_of, cycle_of}
use Rattle.hwp_words.specs.Stops.{stopper_of}
use Rattle.hwp_core_rule.specs.declared.shared_word.SharedWord.{SharedWord}
use Rattle.hwp_core_rule.specs.declared.view.Made.{Made}
use Rattle.hwp_core_rule.specs.declared.view.Part.{Part}
use Rattle.hwp_core_rule.specs.declared.view.Setting.{Setting}
use Rattle.hwp_core_rule.specs.declared.view.Sight.{Sight}
use Rattle.hwp_core_rule.specs.declared.view.Stamp.{Stamp}
use Rattle.hwp_core_rule.specs.declared.view.View.{View}
use Rattle.hwp_core_rule.specs.Lists.{Homes, EachMember, EachListed}
use Rattle.hwp_core_rule.specs.Rule.{FrameRule, count_debts_of, losing_of}
use Rattle.hwp_core_rule.specs.Steps.{policy_at}
use Rattle.hwp_core_rule.specs.Views.{sighted, stamp_of}
use Rattle.hwp_core_rule.specs.Words.{Words, sum_below, read, put}
use Rattle.hwp_core_rule.specs.parts.Counter.{CounterAgrees, SomeHardware}
use Rattle.hwp_core_rule.specs.parts.Damage.{DamageListed}
use Rattle.hwp_core_rule.specs.parts.Endings.{EndingsAgree, ShowsEnding}
use Rattle.hwp_core_rule.specs.parts.Entries.{EntriesListed, HasMask, HasPolicy, HasSeen, Shows}
use Rattle.hwp_core_rule.specs.parts.Exhaustion.{ExhaustionExplained, usable, is_marked}
use Rattle.hwp_core_rule.specs.parts.Holdings.{AreOwn, IsPast}
use Rattle.hwp_core_rule.specs.parts.Losses.{IsSeenLoss, LossesBalance}
use Rattle.hwp_core_rule.specs.parts.Marks.{MarksAlternate, IsBefore}
use Rattle.hwp_core_rule.specs.parts.Policies.{PoliciesListed, PolicyAgrees, IsOf, settings_of, policy_after}
use Rattle.hwp_core_rule.specs.parts.Stops.{EndingsAndStopsStay}
use Rattle.hwp_core_rule.proofs.Lists.{change, keep, at_map, each-set, each-push, each-weaken, some-push, sum-set}
use Rattle.hwp_core_rule.proofs.WordsByKind.{same-put}
use Rattle.hwp_page.specs.declared.What.TheVariants as entries
use Rattle.hwp_core_rule.specs.declared.shared_word.SharedWord.TheVariants as places
use Rattle.hwp_core_rule.proofs.PartKeeps
use Rattle.hwp_page.specs.hwp_kill.declared.Seen.{Seen}

-- what the parts ask of a sight, on a board that keeps the rule
pub record IsExplained (layout : Layout) (w : Words) (homes : Homes) (views : List View) (s : Sight) : Type 0 where
  pub counter : s.place ≡ places.Counter → 0 < hardware_of s.word → SomeHardware (map count_debts_of views) s
  pub bad : (frame : Frame) (word : ℕ) → slice_get w.bads frame.0 ≡ Some word → s.place ≡ places.Bad frame → (line : ℕ) → bit_at s.word line ≤ bit_at word line
  pub weak : (frame : Frame) (word : ℕ) → slice_get w.weaks frame.0 ≡ Some word → s.place ≡ places.Weak frame → (line : ℕ) → bit_at s.word line ≤ bit_at word line
  pub ending : ShowsEnding layout homes (map (λ (v : View). v.bodies) views) s
  pub mark : (frame : Frame) (word : ℕ) → slice_get w.frames frame.0 ≡ Some word → s.place ≡ places.Frame frame → IsBefore word s
  pub policy : (thread : Thread) (d : ThreadDecl) (word : ℕ) → slice_get layout.threads thread.0 ≡ Some d → slice_get w.policies thread.0 ≡ Some word
      → EachMember (λ (v : List Part × List Setting). IsOf d.cpu v.0 → s.place ≡ places.Policy thread
      → (n : ℕ) × (n ≤ length (settings_of thread v.1)) × (s.word ≡ policy_after (take n (settings_of thread v.1)))) (map (λ (v : View). (v.parts, v.settings)) views)
  pub exhaustion : s.place ≡ places.Available → s.word ≡ 0
      → sum_below (usable layout) layout.frames ≤ sum_below (is_marked layout (map (λ (v : View). v.marks) views)) layout.frames + length layout.pages + 2 * layout.cpus
  pub loss : (file : FileNo) (word : ℕ) → slice_get w.losses file.0 ≡ Some word → IsSeenLoss file word s
  pub ended : (process : Proc) (word : ℕ) → slice_get w.processes process.0 ≡ Some word → s.place ≡ places.Process process → s.word ≢ 0 → word ≡ s.word
  pub stop : s.place ≡ places.Stop → stopper_of s.word ≢ 0 → stopper_of w.stop ≡ stopper_of s.word

-- what a command has seen it still has
mask-more : (sights : List Sight) (s : Sight) (who : Who) (frame : Option Frame) (mask : ℕ) → HasMask sights who frame mask → HasMask (sights ++ s ∷ []) who frame mask
mask-more sights s who None mask has = absurd has
mask-more sights s who (Some frame) mask has = some-push (Shows who frame (places.Bad frame) mask) sights s has

policy-more : (sights : List Sight) (s : Sight) (who : Who) (frame : Option Frame) (p : Seen) → HasPolicy sights who frame p → HasPolicy (sights ++ s ∷ []) who frame p
policy-more sights s who None p has = absurd has
policy-more sights s who (Some frame) p has = some-push (Shows who frame (places.Policy p.thread) (policy_at p.n p.policy)) sights s has

pub seen-more : (sights : List Sight) (s : Sight) (who : Who) (frame : Option Frame) (what : What) → HasSeen sights who frame what → HasSeen (sights ++ s ∷ []) who frame what
seen-more sights s who frame (entries.Load slot line (Word mask word)) has = mask-more sights s who frame mask.0 has
seen-more sights s who frame (entries.Store slot line (Word mask word)) has = mask-more sights s who frame mask.0 has
seen-more sights s who frame (entries.Mce slot line mask) has = mask-more sights s who frame mask.0 has
seen-more sights s who frame entries.Sync has = mask-more sights s who frame 0 has
seen-more sights s who frame entries.Out has = mask-more sights s who frame 0 has
seen-more sights s who frame entries.Soft has = mask-more sights s who frame 0 has
seen-more sights s who frame (entries.Fail situation required seen signals) has =
    each-weaken (HasPolicy sights who frame) (HasPolicy (sights ++ s ∷ []) who frame) seen (λ p has. policy-more sights s who frame p has) has
seen-more sights s who frame _ has = has

module _ (layout : Layout) (w : Words) (homes : Homes) (views : List View) (seat : ℕ) (v : View) (s : Sight) where
  abbrev u : View
  u = record v { sights = v.sights ++ s ∷ [] }

  abbrev sights : List (List Sight)
  sights = map (λ (v : View). v.sights) views

  abbrev settings : List (List Part × List Setting)
  settings = map (λ (v : View). (v.parts, v.settings)) views

  abbrev made : List (List Made × List Sight)
  made = map (λ (v : View). (v.made, v.sights)) views

  -- each sight is so, with the new one
  each-sight : (P : Sight → Type 0) → slice_get views seat ≡ Some v → P s → EachListed P sights → EachListed P (set sights seat u.sights)
  each-sight P me here each =
      each-set (EachMember P) sights seat u.sights (each-push P v.sights s here (each seat v.sights (at_map (λ (v : View). v.sights) views seat v me))) each

  module _ (me : slice_get views seat ≡ Some v) (h : FrameRule layout w homes views) where
    entries-sighted : EntriesListed homes (map (λ (v : View). v.bodies) views) (set made seat (v.made, u.sights)) (map (λ (v : View). v.lengths) views)
    entries-sighted = record {
      balance = λ f.
          let at : (List Made × List Sight) → ℕ = λ (x : List Made × List Sight). sum_by (λ (m : Made). f m.page m.place m.entry) x.0 in
          let same : sum_by at (set made seat (v.made, u.sights)) + at (v.made, v.sights) ≡ sum_by at made + at (v.made, u.sights) =
          sum-set at made seat (v.made, v.sights) (v.made, u.sights) there in
          let equal : at (v.made, v.sights) ≡ at (v.made, u.sights) = refl in
          let gone : sum_by at (set made seat (v.made, u.sights)) ≡ sum_by at made = omega arith in
          h.histories.entries.balance f ∙ sym gone;
      shown = each-set (λ (x : List Made × List Sight). EachMember (λ (m : Made). HasSeen x.1 m.entry.who m.frame m.entry.what) x.0) made seat (v.made, u.sights)
          (each-weaken (λ (m : Made). HasSeen v.sights m.entry.who m.frame m.entry.what) (λ (m : Made). HasSeen u.sights m.entry.who m.frame m.entry.what) v.made
          (λ m has. seen-more v.sights s m.entry.who m.frame m.entry.what has)
          (h.histories.entries.shown seat (v.made, v.sights) there))
          h.histories.entries.shown;
      ordered = h.histories.entries.ordered;
      lengths_reached = h.histories.entries.lengths_reached;
    }
      where
        there : slice_get made seat ≡ Some (v.made, v.sights)
        there = at_map (λ (v : View). (v.made, v.sights)) views seat v me

    own-sighted : IsPast v.parts s.stamp.who → AreOwn u
    own-sighted past = record {
      made = own.made;
      marks = own.marks;
      sights = each-push (λ (s : Sight). IsPast v.parts s.stamp.who) v.sights s past own.sights;
      lengths = own.lengths;
      settings = own.settings;
      stops = own.stops;
    }
      where
        own : AreOwn v
        own = h.processors.commands.own seat v me

    policies-sighted : IsExplained layout w homes views s → PoliciesListed layout.threads w.policies settings (set sights seat u.sights)
    policies-sighted x = record {
      own = h.processors.policies.own;
      agrees = λ thread d word declared there i y is of.
          let was : PolicyAgrees thread word sights (settings_of thread y.1) = h.processors.policies.agrees thread d word declared there i y is of in record {
            now = was.now;
            few = was.few;
            shown = each-sight (λ (s : Sight). s.place ≡ places.Policy thread → (n : ℕ) × (n ≤ length (settings_of thread y.1)) × (s.word ≡ policy_after (take n (settings_of thread y.1)))) me
                (x.policy thread d word declared there i y is of) was.shown;
          };
    }

    pub kept-sight : IsPast v.parts s.stamp.who → IsExplained layout w homes views s → FrameRule layout w homes (set views seat u)
    kept-sight past x = record {
      frames = PartKeeps.same-frames views seat v u me refl h.frames;
      pages = PartKeeps.same-pages views seat v u me refl h.pages;
      histories = record {
        entries = keep (λ (v : View). v.lengths) (λ l. EntriesListed homes (map (λ (v : View). v.bodies) (set views seat u)) (map (λ (v : View). (v.made, v.sights)) (set views seat u)) l) views seat v u me refl
            (keep (λ (v : View). v.bodies) (λ l. EntriesListed homes l (map (λ (v : View). (v.made, v.sights)) (set views seat u)) (map (λ (v : View). v.lengths) views)) views seat v u me refl
            (change (λ (v : View). (v.made, v.sights)) (λ l. EntriesListed homes (map (λ (v : View). v.bodies) views) l (map (λ (v : View). v.lengths) views)) views seat u entries-sighted));
        endings = keep (λ (v : View). v.bodies) (λ l. EndingsAgree layout w.processes homes l (map (λ (v : View). v.sights) (set views seat u))) views seat v u me refl
            (change (λ (v : View). v.sights) (EndingsAgree layout w.processes homes (map (λ (v : View). v.bodies) views)) views seat u (record {
              named = h.histories.endings.named;
              caused = h.histories.endings.caused;
              ended = h.histories.endings.ended;
              ended_before = h.histories.endings.ended_before;
              taken = h.histories.endings.taken;
              shown = each-sight (ShowsEnding layout homes (map (λ (v : View). v.bodies) views)) me x.ending h.histories.endings.shown;
            }));
        losses = keep losing_of (λ l. LossesBalance layout w.losses homes (map (λ (v : View). v.bodies) (set views seat u)) l (map (λ (v : View). v.sights) (set views seat u))) views seat v u me refl
            (keep (λ (v : View). v.bodies) (λ l. LossesBalance layout w.losses homes l (map losing_of views) (map (λ (v : View). v.sights) (set views seat u))) views seat v u me refl
            (change (λ (v : View). v.sights) (LossesBalance layout w.losses homes (map (λ (v : View). v.bodies) views) (map losing_of views)) views seat u (record {
              balance = h.histories.losses.balance;
              owing = h.histories.losses.owing;
              shown = λ file word there. each-sight (IsSeenLoss file word) me (x.loss file word there) (h.histories.losses.shown file word there);
              declared = h.histories.losses.declared;
              poisoned = h.histories.losses.poisoned;
            })));
      };
      failures = record {
        handled = h.failures.handled;
        counter = keep count_debts_of (λ l. CounterAgrees w.frames w.counter l (map (λ (v : View). v.sights) (set views seat u))) views seat v u me refl
            (change (λ (v : View). v.sights) (CounterAgrees w.frames w.counter (map count_debts_of views)) views seat u (record {
              poisoned = h.failures.counter.poisoned;
              hardware = h.failures.counter.hardware;
              covered = h.failures.counter.covered;
              shown = each-sight (λ (s : Sight). s.place ≡ places.Counter → 0 < hardware_of s.word → SomeHardware (map count_debts_of views) s) me x.counter h.failures.counter.shown;
            }));
        damage = keep (λ (v : View). v.spoiled) (λ l. DamageListed w.bads w.weaks l (map (λ (v : View). v.sights) (set views seat u))) views seat v u me refl
            (change (λ (v : View). v.sights) (DamageListed w.bads w.weaks (map (λ (v : View). v.spoiled) views)) views seat u (record {
              bad = h.failures.damage.bad;
              weak = h.failures.damage.weak;
              bad_stays = λ frame word there. each-sight (λ (s : Sight). s.place ≡ places.Bad frame → (line : ℕ) → bit_at s.word line ≤ bit_at word line) me (x.bad frame word there) (h.failures.damage.bad_stays frame word there);
              weak_stays = λ frame word there. each-sight (λ (s : Sight). s.place ≡ places.Weak frame → (line : ℕ) → bit_at s.word line ≤ bit_at word line) me (x.weak frame word there) (h.failures.damage.weak_stays frame word there);
            }));
        marks = keep (λ (v : View). v.marks) (λ l. MarksAlternate w.frames l (map (λ (v : View). v.sights) (set views seat u))) views seat v u me refl
            (change (λ (v : View). v.sights) (MarksAlternate w.frames (map (λ (v : View). v.marks) views)) views seat u (record {
              poisoned = h.failures.marks.poisoned;
              revived = h.failures.marks.revived;
              framed = h.failures.marks.framed;
              few = h.failures.marks.few;
              shown = λ frame word there. each-sight (λ (s : Sight). s.place ≡ places.Frame frame → IsBefore word s) me (x.mark frame word there) (h.failures.marks.shown frame word there);
            }));
        exhaustion = keep (λ (v : View). v.marks) (λ l. ExhaustionExplained layout l (map (λ (v : View). v.sights) (set views seat u))) views seat v u me refl
            (change (λ (v : View). v.sights) (ExhaustionExplained layout (map (λ (v : View). v.marks) views)) views seat u (record {
              explained = each-sight (λ (s : Sight). s.place ≡ places.Available → s.word ≡ 0
                  → sum_below (usable layout) layout.frames ≤ sum_below (is_marked layout (map (λ (v : View). v.marks) views)) layout.frames + length layout.pages + 2 * layout.cpus) me x.exhaustion h.failures.exhaustion.explained;
            }));
      };
      processors = record {
        policies = keep (λ (v : View). (v.parts, v.settings)) (λ l. PoliciesListed layout.threads w.policies l (map (λ (v : View). v.sights) (set views seat u))) views seat v u me refl
            (change (λ (v : View). v.sights) (PoliciesListed layout.threads w.policies settings) views seat u (policies-sighted x));
        stops = keep (λ (v : View). v.stops) (λ l. EndingsAndStopsStay w.processes w.stop (map (λ (v : View). v.bodies) (set views seat u)) (map (λ (v : View). v.sights) (set views seat u)) l) views seat v u me refl
            (keep (λ (v : View). v.bodies) (λ l. EndingsAndStopsStay w.processes w.stop l (map (λ (v : View). v.sights) (set views seat u)) (map (λ (v : View). v.stops) views)) views seat v u me refl
            (change (λ (v : View). v.sights) (λ l. EndingsAndStopsStay w.processes w.stop (map (λ (v : View). v.bodies) views) l (map (λ (v : View). v.stops) views)) views seat u (record {
              killed = h.processors.stops.killed;
              ended_stays = λ process word there. each-sight (λ (s : Sight). s.place ≡ places.Process process → s.word ≢ 0 → word ≡ s.word) me (x.ended process word there) (h.processors.stops.ended_stays process word there);
              stop_stays = each-sight (λ (s : Sight). s.place ≡ places.Stop → stopper_of s.word ≢ 0 → stopper_of w.stop ≡ stopper_of s.word) me x.stop h.processors.stops.stop_stays;
              one = h.processors.stops.one;
              named = h.processors.stops.named;
            })));
        processors = PartKeeps.kept-processors views seat v u me refl h.processors.processors;
        commands = PartKeeps.kept-commands views seat v u me (own-sighted past) h.processors.commands;
      };
    }

-- a step's sight of a place
pub keeps-sight : (layout : Layout) (w : Words) (homes : Homes) (views : List View) (seat : ℕ) (v : View) (who : Who) (place : SharedWord) (word : ℕ)
    → slice_get views seat ≡ Some v → IsPast v.parts who
    → IsExplained layout w homes views (record { stamp = stamp_of who v; place = place; word = word })
    → FrameRule layout w homes views → FrameRule layout w homes (set views seat (sighted who place word v))
keeps-sight layout w homes views seat v who place word me past x h = kept-sight layout w homes views seat v (record { stamp = stamp_of who v; place = place; word = word }) me h past x

-- a step that leaves the word of a place as it was, and shows it
pub keeps-shown : (layout : Layout) (w : Words) (homes : Homes) (views : List View) (seat : ℕ) (v : View) (who : Who) (place : SharedWord)
    → slice_get views seat ≡ Some v → IsPast v.parts who
    → IsExplained layout w homes views (record { stamp = stamp_of who v; place = place; word = read place w })
    → FrameRule layout w homes views → FrameRule layout (put place (read place w) w) homes (set views seat (sighted who place (read place w) v))
keeps-shown layout w homes views seat v who place me past x h =
    subst (λ (other : Words). FrameRule layout other homes (set views seat (sighted who place (read place w) v))) (sym (same-put place w))
    (keeps-sight layout w homes views seat v who place (read place w) me past x h)

-- places tell apart; 0 for those of which no part says what a sight shows
abbrev pub shown_place : SharedWord → ℕ
shown_place (places.Frame frame) = 1
shown_place (places.Trans slot) = 0
shown_place (places.Cache page) = 0
shown_place (places.Page page) = 0
shown_place (places.Free number) = 0
shown_place places.Available = 2
shown_place (places.Bad frame) = 3
shown_place (places.Weak frame) = 4
shown_place places.Counter = 5
shown_place (places.Process process) = 6
shown_place (places.Policy thread) = 7
shown_place (places.Loss file) = 9
shown_place places.Stop = 8

abbrev pub shown_number : SharedWord → ℕ
shown_number (places.Frame frame) = frame.0
shown_number (places.Bad frame) = frame.0
shown_number (places.Weak frame) = frame.0
shown_number (places.Process process) = process.0
shown_number (places.Policy thread) = thread.0
shown_number (places.Loss file) = file.0
shown_number _ = 0

module _ (layout : Layout) (w : Words) (homes : Homes) (views : List View) (s : Sight) where
  pub elsewhere : (place : SharedWord) (n : ℕ) → shown_place s.place ≡ n → n ≢ shown_place place → s.place ≡ place → ⊥
  elsewhere place n is differs e = differs (sym is ∙ ap shown_place e)

  -- a sight of a word that no part reads in sights: of a translation, a cache word, a page's lock, a free word
  pub explained-quiet : shown_place s.place ≡ 0 → IsExplained layout w homes views s
  explained-quiet is = record {
    counter = λ e. absurd (elsewhere places.Counter 0 is (λ n. omega arith) e);
    bad = λ frame word there e. absurd (elsewhere (places.Bad frame) 0 is (λ n. omega arith) e);
    weak = λ frame word there e. absurd (elsewhere (places.Weak frame) 0 is (λ n. omega arith) e);
    ending = λ process e. absurd (elsewhere (places.Process process) 0 is (λ n. omega arith) e);
    mark = λ frame word there e. absurd (elsewhere (places.Frame frame) 0 is (λ n. omega arith) e);
    policy = λ thread d word declared there i y this of e. absurd (elsewhere (places.Policy thread) 0 is (λ n. omega arith) e);
    exhaustion = λ e. absurd (elsewhere places.Available 0 is (λ n. omega arith) e);
    loss = λ file word there e. absurd (elsewhere (places.Loss file) 0 is (λ n. omega arith) e);
    ended = λ process word there e. absurd (elsewhere (places.Process process) 0 is (λ n. omega arith) e);
    stop = λ e. absurd (elsewhere places.Stop 0 is (λ n. omega arith) e);
  }

  -- a sight of a frame's word, where the word that stands is of no earlier cycle, and of the same one with no poison less
  pub explained-before : (frame : Frame) → s.place ≡ places.Frame frame → ((word : ℕ) → slice_get w.frames frame.0 ≡ Some word → IsBefore word s) → IsExplained layout w homes views s
  explained-before frame is before = record {
    counter = λ e. absurd (elsewhere places.Counter 1 frames (λ n. omega arith) e);
    bad = λ f word there e. absurd (elsewhere (places.Bad f) 1 frames (λ n. omega arith) e);
    weak = λ f word there e. absurd (elsewhere (places.Weak f) 1 frames (λ n. omega arith) e);
    ending = λ process e. absurd (elsewhere (places.Process process) 1 frames (λ n. omega arith) e);
    mark = λ f word there e. before word (subst (λ (n : ℕ). slice_get w.frames n ≡ Some word) (ap shown_number (sym e ∙ is)) there);
    policy = λ thread d word declared there i y this of e. absurd (elsewhere (places.Policy thread) 1 frames (λ n. omega arith) e);
    exhaustion = λ e. absurd (elsewhere places.Available 1 frames (λ n. omega arith) e);
    loss = λ file word there e. absurd (elsewhere (places.Loss file) 1 frames (λ n. omega arith) e);
    ended = λ process word there e. absurd (elsewhere (places.Process process) 1 frames (λ n. omega arith) e);
    stop = λ e. absurd (elsewhere places.Stop 1 frames (λ n. omega arith) e);
  }
    where
      frames : shown_place s.place ≡ 1
      frames = ap shown_place is

  -- a sight of the available word
  pub explained-exhausted : s.place ≡ places.Available
      → (s.word ≡ 0 → sum_below (usable layout) layout.frames ≤ sum_below (is_marked layout (map (λ (v : View). v.marks) views)) layout.frames + length layout.pages + 2 * layout.cpus)
      → IsExplained layout w homes views s
  explained-exhausted is why = record {
    counter = λ e. absurd (elsewhere places.Counter 2 available (λ n. omega arith) e);
    bad = λ f word there e. absurd (elsewhere (places.Bad f) 2 available (λ n. omega arith) e);
    weak = λ f word there e. absurd (elsewhere (places.Weak f) 2 available (λ n. omega arith) e);
    ending = λ process e. absurd (elsewhere (places.Process process) 2 available (λ n. omega arith) e);
    mark = λ f word there e. absurd (elsewhere (places.Frame f) 2 available (λ n. omega arith) e);
    policy = λ thread d word declared there i y this of e. absurd (elsewhere (places.Policy thread) 2 available (λ n. omega arith) e);
    exhaustion = λ e. why;
    loss = λ file word there e. absurd (elsewhere (places.Loss file) 2 available (λ n. omega arith) e);
    ended = λ process word there e. absurd (elsewhere (places.Process process) 2 available (λ n. omega arith) e);
    stop = λ e. absurd (elsewhere places.Stop 2 available (λ n. omega arith) e);
  }
    where
      available : shown_place s.place ≡ 2
      available = ap shown_place is

-- a sight of a frame's word as it stands
pub explained-frame : (layout : Layout) (w : Words) (homes : Homes) (views : List View) (stamp : Stamp) (frame : Frame) (word : ℕ)
    → slice_get w.frames frame.0 ≡ Some word → IsExplained layout w homes views (record { stamp = stamp; place = places.Frame frame; word = word })
explained-frame layout w homes views stamp frame word there =
    explained-before layout w homes views (record { stamp = stamp; place = places.Frame frame; word = word }) frame refl
    (λ other standing.
    let same : other ≡ word = same_Some other word (sym standing ∙ there) in
    record { cycle = subst (λ (n : ℕ). cycle_of word ≤ cycle_of n) (sym same) (omega arith); poison = λ e. subst (λ (n : ℕ). poison_of word ≤ poison_of n) (sym same) (omega arith) })

-- a sight of a free word
pub explained-free : (layout : Layout) (w : Words) (homes : Homes) (views : List View) (stamp : Stamp) (number word : ℕ)
    → IsExplained layout w homes views (record { stamp = stamp; place = places.Free number; word = word })
explained-free layout w homes views stamp number word = explained-quiet layout w homes views (record { stamp = stamp; place = places.Free number; word = word }) refl
