-- A process that is ended keeps the frame rule.
use Rattle.std.proofs.Common.{◌≡◌, ◌≢◌, ℕ, ◌+◌, ◌<◌, ◌≤◌, ◌==◌, eqb-true, Bool, true, false, cond, List, [], ◌∷◌, ◌++◌, Some, map, set, take, length, slice_get, slice_index, inl, inr, refl, sym, ap, ◌∙◌, subst, arith}
use Rattle.std.proofs.lemmas.Bool.{eqb-false}
use Rattle.std.proofs.lemmas.Option.{same_Some}
use Rattle.std.specs.Int.{from_bool}
use Rattle.std.specs.declared.snapshot.Snapshot.{Snapshot}
use prog.Atomic.{either}
use Rattle.hwp_page.specs.hwp_geom.declared.Layout.{Layout}
use Rattle.hwp_page.specs.hwp_geom.declared.Page.{Page}
use Rattle.hwp_page.specs.hwp_geom.declared.Proc.{Proc}
use Rattle.hwp_page.specs.hwp_geom.declared.Who.{Who}
use Rattle.hwp_page.specs.hwp_geom.Layout.{IsSound}
use Rattle.hwp_page.specs.declared.Entry.{Entry}
use Rattle.hwp_page.specs.Endings.{has_ending}
use Rattle.hwp_page.specs.History.{BodyValue}
use Rattle.hwp_core_rule.specs.declared.log.Log.{Log}
use Rattle.hwp_core_rule.specs.declared.view.InHand.{InHand}
use Rattle.hwp_core_rule.specs.declared.view.Sight.{Sight}
use Rattle.hwp_core_rule.specs.declared.view.View.{View}
use Rattle.hwp_core_rule.specs.Asks.{CanKill, IsTurnOf}
use Rattle.hwp_core_rule.specs.Lists.{Homes, EachBody, EachListed, EachMember}
use Rattle.hwp_core_rule.specs.Logs.{log_of}
use Rattle.hwp_core_rule.specs.Rule.{FrameRule}
use Rattle.hwp_core_rule.specs.Views.{changed, is_body_of, killed_by, listed, sighted, stamp_of}
use Rattle.hwp_core_rule.specs.Words.{Words}
use Rattle.hwp_core_rule.specs.parts.Endings.{AreEnded, EndingsAgree}
use Rattle.hwp_core_rule.specs.parts.Holdings.{IsPast}
use Rattle.hwp_core_rule.specs.parts.Stops.{EndingsAndStopsStay}
use Rattle.hwp_core_rule.proofs.BodySlots.{all_bodies}
use Rattle.hwp_core_rule.proofs.Keeps.{Keeps}
use Rattle.hwp_core_rule.proofs.Lists.{at_map, at_set, each-changed, each-push, each-set, from_bool-same, same-number, set_here, set-set}
use Rattle.hwp_core_rule.proofs.ShownWords.{explained-process}
use Rattle.hwp_core_rule.proofs.Sights.{keeps-shown}
use Rattle.hwp_core_rule.proofs.WordsByKind.{word-there}
use Rattle.hwp_core_rule.specs.declared.shared_word.SharedWord.TheVariants as places
use Rattle.hwp_core_rule.specs.declared.step.Step.TheVariants as steps
use Rattle.hwp_core_rule.proofs.HeldEntries

-- the members that a test finds are changed twice, where it finds them again
changed-twice : {A : Type 0} (test : A → Bool) (f g : A → A) (l : List A) → ((x : A) → test x ≡ true → test (f x) ≡ true) → changed test g (changed test f l) ≡ changed test (λ (x : A). g (f x)) l
changed-twice test f g [] again = refl
changed-twice {A} test f g (x ∷ xs) again = λ i. which (test x) refl i ∷ changed-twice test f g xs again i
  where
    which : (b : Bool) → test x ≡ b → cond (test (cond b (f x) x)) (g (cond b (f x) x)) (cond b (f x) x) ≡ cond b (g (f x)) x
    which true is = ap (λ (b : Bool). cond b (g (f x)) (f x)) (again x is)
    which false is = ap (λ (b : Bool). cond b (g x) x) is

-- the process has a word that is not 0
abbrev IsMet : List ℕ → Proc → Type 0
IsMet words p = (x : ℕ) → slice_get words p.0 ≡ Some x → x ≢ 0

-- the word of a process was 0, and names the page now
module _ (layout : Layout) (processes : List ℕ) (homes : Homes) (process : Proc) (page : Page) (unended : slice_get processes process.0 ≡ Some 0) where
  abbrev now : List ℕ
  now = set processes process.0 (page.0 + 1)

  met-still : (p : Proc) → IsMet processes p → IsMet now p
  met-still p met x at = elim (at_set processes process.0 p.0 (page.0 + 1) x at) [
    | inl this ↦ λ none. omega (arith, this.1, none)
    | inr other ↦ met x other.1
  ]

  met-now : IsMet now process
  met-now x at = elim (at_set processes process.0 process.0 (page.0 + 1) x at) [
    | inl this ↦ λ none. omega (arith, this.1, none)
    | inr other ↦ absurd (other.0 refl)
  ]

  ended-still : (es : List Entry) → AreEnded layout processes es → AreEnded layout now es
  ended-still es ended p x at is = met-still p (λ y there. ended p y there is) x at

  caused-now : (p : Proc) (log : Log) → p.0 ≡ process.0 → (log.page.0 ≡ page.0 → has_ending layout process log.entries ≡ true) → page.0 + 1 ≡ log.page.0 + 1 → has_ending layout p log.entries ≡ true
  caused-now p log same has names = ap (λ (p : Proc). has_ending layout p log.entries) (λ i. record { 0 = same i }) ∙ has (omega (arith, names))

  endings-now : (bodies : List (List InHand)) (sights : List (List Sight)) → page.0 < length layout.pages → EachBody (λ (log : Log). log.page.0 ≡ page.0 → has_ending layout process log.entries ≡ true) homes bodies
      → EndingsAgree layout processes homes bodies sights → EndingsAgree layout now homes bodies sights
  endings-now bodies sights within has agrees = record {
    named = each-set (λ (x : ℕ). x ≤ length layout.pages) processes process.0 (page.0 + 1) (omega (arith, within)) agrees.named;
    caused = λ p x at. elim (at_set processes process.0 p.0 (page.0 + 1) x at) [
      | inl this ↦ subst (λ (x : ℕ). EachBody (λ (log : Log). x ≡ log.page.0 + 1 → has_ending layout p log.entries ≡ true) homes bodies) this.1 (record {
        at_home = λ i log there. caused-now p log this.0 (has.at_home i log there);
        in_hand = λ i list is j b there. caused-now p b.log this.0 (has.in_hand i list is j b there);
      })
      | inr other ↦ agrees.caused p x other.1
    ];
    ended = λ i log there. ended-still log.entries (agrees.ended i log there);
    ended_before = λ i list is j b there. ended-still (take b.since b.log.entries) (agrees.ended_before i list is j b there);
    taken = agrees.taken;
    shown = agrees.shown;
  }

  stops-now : (stop : ℕ) (was bodies : List (List InHand)) (sights : List (List Sight)) (stops : List (List Who)) → EachListed (λ (b : InHand). EachMember (IsMet now) b.killed) bodies
      → EndingsAndStopsStay processes stop was sights stops → EndingsAndStopsStay now stop bodies sights stops
  stops-now stop was bodies sights stops killed stays = record {
    killed = killed;
    ended_stays = λ p x at i list is j s there place named. elim (at_set processes process.0 p.0 (page.0 + 1) x at) [
      | inl this ↦
          let standing : slice_get processes p.0 ≡ Some 0 = ap (slice_get processes) this.0 ∙ unended in
          absurd (named (sym (stays.ended_stays p 0 standing i list is j s there place named)))
      | inr other ↦ stays.ended_stays p x other.1 i list is j s there place named
    ];
    stop_stays = stays.stop_stays;
    one = stays.one;
    named = stays.named;
  }

module _ (layout : Layout) (w : Words) (homes : Homes) (views : List View) (seat : ℕ) (v : View) (who : Who) (process : Proc) (page : Page) (log : Log)
    (me : slice_get views seat ≡ Some v) (past : IsPast v.parts who) (turn : IsTurnOf v who) (sound : IsSound layout)
    (there : slice_get w.processes process.0 ≡ Some (slice_index w.processes process.0)) (h : FrameRule layout w homes views) (can : CanKill layout who v process page log) where
  abbrev found : ℕ
  found = slice_index w.processes process.0

  within : log.page.0 < length layout.pages
  within = subst (λ (p : Page). p.0 < length layout.pages) (sym can.page_is) can.within

  abbrev with_killed : List Proc → List Proc
  with_killed l = l ++ process ∷ []

  abbrev after : View
  after = HeldEntries.after layout w homes views seat v who log with_killed me past turn within sound h can.page_held can.extends

  abbrev bodies : List (List InHand)
  bodies = set (all_bodies views) seat (HeldEntries.bodies layout w homes views seat v who log with_killed me past turn within sound h can.page_held can.extends)

  abbrev sights : List (List Sight)
  sights = map (λ (v : View). v.sights) views

  -- the body with its history, of which the `kill` is noted
  after-is : killed_by process page (listed layout who log v) ≡ after
  after-is =
      ap (λ (x : View). killed_by process page x) (HeldEntries.listed-is layout w homes views seat v who log with_killed me past turn within sound h can.page_held can.extends)
      ∙ ap (λ (p : Page). record after { bodies = changed (is_body_of p) (λ (b : InHand). record b { killed = b.killed ++ process ∷ [] }) (changed (is_body_of log.page) (λ (b : InHand). record b { log = log }) v.bodies) }) (sym can.page_is)
      ∙ ap (λ (l : List InHand). record after { bodies = l })
      (changed-twice (is_body_of log.page) (λ (b : InHand). record b { log = log }) (λ (b : InHand). record b { killed = b.killed ++ process ∷ [] }) v.bodies (λ b is. same-number log.page.0 log.page.0 refl))

  endings : EndingsAgree layout w.processes homes bodies sights
  endings = HeldEntries.endings-listed layout w homes views seat v who log with_killed me past turn within sound h can.page_held can.extends

  one-history : EachBody (λ (x : Log). from_bool (x.page.0 == log.page.0) ≡ 1 → x ≡ log) homes bodies
  one-history = HeldEntries.one-history layout w homes views seat v who log with_killed me past turn within sound h can.page_held can.extends

  -- the page's body, wherever it is, has the ending signal
  has : EachBody (λ (x : Log). x.page.0 ≡ page.0 → has_ending layout process x.entries ≡ true) homes bodies
  has = record {
    at_home = λ i x at. ending x (one-history.at_home i x at);
    in_hand = λ i list at j b here. ending b.log (one-history.in_hand i list at j b here);
  }
    where
      ending : (x : Log) → (from_bool (x.page.0 == log.page.0) ≡ 1 → x ≡ log) → x.page.0 ≡ page.0 → has_ending layout process x.entries ≡ true
      ending x only same = ap (λ (x : Log). has_ending layout process x.entries) (only (from_bool-same x.page.0 log.page.0 (same ∙ ap (λ (p : Page). p.0) (sym can.page_is)))) ∙ can.ending

  keeps-first : found ≡ 0 → FrameRule layout (record w { processes = set w.processes process.0 (page.0 + 1) }) homes (set views seat after)
  keeps-first none =
      HeldEntries.keeps-listing layout w homes views seat v who log with_killed me past turn within sound h can.page_held can.extends (set w.processes process.0 (page.0 + 1))
      (endings-now layout w.processes homes process page unended bodies sights can.within has endings)
      (stops-now layout w.processes homes process page unended w.stop (all_bodies views) bodies sights (map (λ (v : View). v.stops) views) killed h.processors.stops)
    where
      unended : slice_get w.processes process.0 ≡ Some 0
      unended = there ∙ ap (λ (n : ℕ). Some n) none

      before : EachListed (λ (b : InHand). EachMember (IsMet (set w.processes process.0 (page.0 + 1))) b.killed) (all_bodies views)
      before i list at j b here k p met = met-still layout w.processes homes process page unended p (h.processors.stops.killed i list at j b here k p met)

      killed : EachListed (λ (b : InHand). EachMember (IsMet (set w.processes process.0 (page.0 + 1))) b.killed) bodies
      killed = each-set (EachMember (λ (b : InHand). EachMember (IsMet (set w.processes process.0 (page.0 + 1))) b.killed)) (all_bodies views) seat (HeldEntries.bodies layout w homes views seat v who log with_killed me past turn within sound h can.page_held can.extends)
          (each-changed (λ (b : InHand). EachMember (IsMet (set w.processes process.0 (page.0 + 1))) b.killed) (is_body_of log.page) (λ (b : InHand). record b { log = log; killed = b.killed ++ process ∷ [] }) v.bodies
          (λ b is each. each-push (IsMet (set w.processes process.0 (page.0 + 1))) b.killed process (met-now layout w.processes homes process page unended) each) (before seat v.bodies (at_map (λ (v : View). v.bodies) views seat v me)))
          before

  keeps-again : found ≢ 0 → FrameRule layout (record w { processes = set w.processes process.0 found }) homes (set views seat (sighted who (places.Process process) found after))
  keeps-again named =
      subst (FrameRule layout (record w { processes = set w.processes process.0 found }) homes) (set-set views seat after (sighted who (places.Process process) found after))
      (keeps-shown layout w homes (set views seat after) seat after who (places.Process process) me-after past
      (explained-process layout w homes (set views seat after) seat after (stamp_of who after) me-after (record { part = turn.part }) rule process found there) rule)
    where
      me-after : slice_get (set views seat after) seat ≡ Some after
      me-after = set_here views seat after v me

      met : IsMet w.processes process
      met x at none = named (same_Some found x (sym there ∙ at) ∙ none)

      rule : FrameRule layout w homes (set views seat after)
      rule = HeldEntries.keeps-renewed layout w homes views seat v who log with_killed me past turn within sound h can.page_held can.extends
          (λ l each. each-push (IsMet w.processes) l process met each)

  pub keeps-ending : (b : Bool) → (found == 0) ≡ b
      → FrameRule layout (record w { processes = set w.processes process.0 (either b (page.0 + 1) found) }) homes
      (set views seat (cond b (killed_by process page (listed layout who log v)) (sighted who (places.Process process) found (killed_by process page (listed layout who log v)))))
  keeps-ending true is = subst (λ (x : View). FrameRule layout (record w { processes = set w.processes process.0 (page.0 + 1) }) homes (set views seat x)) (sym after-is) (keeps-first (eqb-true found 0 is))
  keeps-ending false is = subst (λ (x : View). FrameRule layout (record w { processes = set w.processes process.0 found }) homes (set views seat (sighted who (places.Process process) found x))) (sym after-is) (keeps-again (eqb-false found 0 is))

pub keeps-kill : (process : Proc) (page : Page) (body : Snapshot BodyValue) → Keeps (steps.Kill process page body)
keeps-kill process page body layout w homes views seat v who content given =
    keeps-ending layout w homes views seat v who process page (log_of body.value) given.me given.past given.turn given.sound
    (word-there w.processes process.0 layout.procs given.shaped.processes given.place) given.rule given.asks (slice_index w.processes process.0 == 0) refl
