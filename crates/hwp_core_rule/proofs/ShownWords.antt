-- Sights of words as they stand are explained: damage, policies, losses, the stop, the counter and ended processes.
use Rattle.std.proofs.Common.{◌≡◌, ℕ, ◌+◌, ◌<◌, ◌≤◌, ◌||◌, Bool, true, false, List, [], ◌∷◌, Some, map, length, slice_get, suc, refl, sym, ap, ◌∙◌, subst, arith}
use Rattle.std.specs.Int.{from_bool, bit_at}
use Rattle.std.specs.List.{sum_by, list_any}
use Rattle.std.proofs.Math.Seq.{take-length}
use Rattle.std.proofs.lemmas.Option.{same_Some}
use Rattle.hwp_page.specs.hwp_geom.declared.FileNo.{FileNo}
use Rattle.hwp_page.specs.hwp_geom.declared.Frame.{Frame}
use Rattle.hwp_page.specs.hwp_geom.declared.Layout.{Layout}
use Rattle.hwp_page.specs.hwp_geom.declared.Proc.{Proc}
use Rattle.hwp_page.specs.hwp_geom.declared.Thread.{Thread}
use Rattle.hwp_page.specs.declared.Entry.{Entry}
use Rattle.hwp_page.specs.Endings.{has_ending, is_ending}
use Rattle.hwp_page.specs.Orders.{IsNotLater}
use Rattle.hwp_words.specs.Counters.{hardware_of}
use Rattle.hwp_core_rule.specs.declared.log.Log.{Log}
use Rattle.hwp_core_rule.specs.declared.view.Mark.{Mark}
use Rattle.hwp_core_rule.specs.declared.view.Sight.{Sight}
use Rattle.hwp_core_rule.specs.declared.view.Stamp.{Stamp}
use Rattle.hwp_core_rule.specs.declared.view.View.{View}
use Rattle.hwp_core_rule.specs.Asks.{IsTurnOf}
use Rattle.hwp_core_rule.specs.Lists.{Homes, EachBody, EachMember, SomeMember}
use Rattle.hwp_core_rule.specs.Rule.{FrameRule, count_debts_of}
use Rattle.hwp_core_rule.specs.Words.{Words}
use Rattle.hwp_core_rule.specs.parts.Counter.{SomeHardware, is_by_hardware, CountDebts}
use Rattle.hwp_core_rule.specs.parts.Policies.{PolicyAgrees, settings_of, policy_after}
use Rattle.hwp_core_rule.proofs.CountsBelow.{some-term}
use Rattle.hwp_core_rule.proofs.Lists.{map-was}
use Rattle.hwp_core_rule.proofs.Sights.{IsExplained, elsewhere, shown_number}
use Rattle.hwp_core_rule.proofs.NotLater.{not-later, entries-not-later}
use Rattle.hwp_core_rule.specs.declared.shared_word.SharedWord.TheVariants as places

module _ (layout : Layout) (w : Words) (homes : Homes) (views : List View) (stamp : Stamp) where
  pub explained-bad : (frame : Frame) (word : ℕ) → slice_get w.bads frame.0 ≡ Some word → IsExplained layout w homes views (record { stamp = stamp; place = places.Bad frame; word = word })
  explained-bad frame word there = record {
    counter = λ e. absurd (elsewhere layout w homes views s places.Counter 3 refl (λ n. omega arith) e);
    bad = λ f standing at e line. subst (λ (n : ℕ). bit_at word line ≤ bit_at n line) (same f standing at e) (omega arith);
    weak = λ f standing at e. absurd (elsewhere layout w homes views s (places.Weak f) 3 refl (λ n. omega arith) e);
    ending = λ process e. absurd (elsewhere layout w homes views s (places.Process process) 3 refl (λ n. omega arith) e);
    mark = λ f standing at e. absurd (elsewhere layout w homes views s (places.Frame f) 3 refl (λ n. omega arith) e);
    policy = λ thread d standing declared at i y this of e. absurd (elsewhere layout w homes views s (places.Policy thread) 3 refl (λ n. omega arith) e);
    exhaustion = λ e. absurd (elsewhere layout w homes views s places.Available 3 refl (λ n. omega arith) e);
    ended = λ process standing at e. absurd (elsewhere layout w homes views s (places.Process process) 3 refl (λ n. omega arith) e);
    loss = λ f standing at e. absurd (elsewhere layout w homes views s (places.Loss f) 3 refl (λ n. omega arith) e);
    stop = λ e. absurd (elsewhere layout w homes views s places.Stop 3 refl (λ n. omega arith) e);
  }
    where
      s : Sight
      s = record { stamp = stamp; place = places.Bad frame; word = word }

      same : (f : Frame) (standing : ℕ) → slice_get w.bads f.0 ≡ Some standing → places.Bad frame ≡ places.Bad f → word ≡ standing
      same f standing at e = same_Some word standing (sym there ∙ ap (slice_get w.bads) (ap shown_number e) ∙ at)

  pub explained-weak : (frame : Frame) (word : ℕ) → slice_get w.weaks frame.0 ≡ Some word → IsExplained layout w homes views (record { stamp = stamp; place = places.Weak frame; word = word })
  explained-weak frame word there = record {
    counter = λ e. absurd (elsewhere layout w homes views s places.Counter 4 refl (λ n. omega arith) e);
    bad = λ f standing at e. absurd (elsewhere layout w homes views s (places.Bad f) 4 refl (λ n. omega arith) e);
    weak = λ f standing at e line. subst (λ (n : ℕ). bit_at word line ≤ bit_at n line) (same f standing at e) (omega arith);
    ending = λ process e. absurd (elsewhere layout w homes views s (places.Process process) 4 refl (λ n. omega arith) e);
    mark = λ f standing at e. absurd (elsewhere layout w homes views s (places.Frame f) 4 refl (λ n. omega arith) e);
    policy = λ thread d standing declared at i y this of e. absurd (elsewhere layout w homes views s (places.Policy thread) 4 refl (λ n. omega arith) e);
    exhaustion = λ e. absurd (elsewhere layout w homes views s places.Available 4 refl (λ n. omega arith) e);
    ended = λ process standing at e. absurd (elsewhere layout w homes views s (places.Process process) 4 refl (λ n. omega arith) e);
    loss = λ f standing at e. absurd (elsewhere layout w homes views s (places.Loss f) 4 refl (λ n. omega arith) e);
    stop = λ e. absurd (elsewhere layout w homes views s places.Stop 4 refl (λ n. omega arith) e);
  }
    where
      s : Sight
      s = record { stamp = stamp; place = places.Weak frame; word = word }

      same : (f : Frame) (standing : ℕ) → slice_get w.weaks f.0 ≡ Some standing → places.Weak frame ≡ places.Weak f → word ≡ standing
      same f standing at e = same_Some word standing (sym there ∙ ap (slice_get w.weaks) (ap shown_number e) ∙ at)

  pub explained-stop : IsExplained layout w homes views (record { stamp = stamp; place = places.Stop; word = w.stop })
  explained-stop = record {
    counter = λ e. absurd (elsewhere layout w homes views s places.Counter 8 refl (λ n. omega arith) e);
    bad = λ f standing at e. absurd (elsewhere layout w homes views s (places.Bad f) 8 refl (λ n. omega arith) e);
    weak = λ f standing at e. absurd (elsewhere layout w homes views s (places.Weak f) 8 refl (λ n. omega arith) e);
    ending = λ process e. absurd (elsewhere layout w homes views s (places.Process process) 8 refl (λ n. omega arith) e);
    mark = λ f standing at e. absurd (elsewhere layout w homes views s (places.Frame f) 8 refl (λ n. omega arith) e);
    policy = λ thread d standing declared at i y this of e. absurd (elsewhere layout w homes views s (places.Policy thread) 8 refl (λ n. omega arith) e);
    exhaustion = λ e. absurd (elsewhere layout w homes views s places.Available 8 refl (λ n. omega arith) e);
    ended = λ process standing at e. absurd (elsewhere layout w homes views s (places.Process process) 8 refl (λ n. omega arith) e);
    loss = λ f standing at e. absurd (elsewhere layout w homes views s (places.Loss f) 8 refl (λ n. omega arith) e);
    stop = λ e named. refl;
  }
    where
      s : Sight
      s = record { stamp = stamp; place = places.Stop; word = w.stop }

  pub explained-policy : FrameRule layout w homes views → (thread : Thread) (word : ℕ) → slice_get w.policies thread.0 ≡ Some word
      → IsExplained layout w homes views (record { stamp = stamp; place = places.Policy thread; word = word })
  explained-policy h thread word there = record {
    counter = λ e. absurd (elsewhere layout w homes views s places.Counter 7 refl (λ n. omega arith) e);
    bad = λ f standing at e. absurd (elsewhere layout w homes views s (places.Bad f) 7 refl (λ n. omega arith) e);
    weak = λ f standing at e. absurd (elsewhere layout w homes views s (places.Weak f) 7 refl (λ n. omega arith) e);
    ending = λ process e. absurd (elsewhere layout w homes views s (places.Process process) 7 refl (λ n. omega arith) e);
    mark = λ f standing at e. absurd (elsewhere layout w homes views s (places.Frame f) 7 refl (λ n. omega arith) e);
    policy = λ t d standing declared at i y this of e.
        let now : PolicyAgrees t standing (map (λ (v : View). v.sights) views) (settings_of t y.1) = h.processors.policies.agrees t d standing declared at i y this of in
        let same : word ≡ standing = same_Some word standing (sym there ∙ ap (slice_get w.policies) (ap shown_number e) ∙ at) in
        (length (settings_of t y.1), omega arith, same ∙ now.now ∙ ap policy_after (sym (take-length (settings_of t y.1))));
    exhaustion = λ e. absurd (elsewhere layout w homes views s places.Available 7 refl (λ n. omega arith) e);
    ended = λ process standing at e. absurd (elsewhere layout w homes views s (places.Process process) 7 refl (λ n. omega arith) e);
    loss = λ f standing at e. absurd (elsewhere layout w homes views s (places.Loss f) 7 refl (λ n. omega arith) e);
    stop = λ e. absurd (elsewhere layout w homes views s places.Stop 7 refl (λ n. omega arith) e);
  }
    where
      s : Sight
      s = record { stamp = stamp; place = places.Policy thread; word = word }

  pub explained-loss : (file : FileNo) (word : ℕ) → slice_get w.losses file.0 ≡ Some word → IsExplained layout w homes views (record { stamp = stamp; place = places.Loss file; word = word })
  explained-loss file word there = record {
    counter = λ e. absurd (elsewhere layout w homes views s places.Counter 9 refl (λ n. omega arith) e);
    bad = λ f standing at e. absurd (elsewhere layout w homes views s (places.Bad f) 9 refl (λ n. omega arith) e);
    weak = λ f standing at e. absurd (elsewhere layout w homes views s (places.Weak f) 9 refl (λ n. omega arith) e);
    ending = λ process e. absurd (elsewhere layout w homes views s (places.Process process) 9 refl (λ n. omega arith) e);
    mark = λ f standing at e. absurd (elsewhere layout w homes views s (places.Frame f) 9 refl (λ n. omega arith) e);
    policy = λ thread d standing declared at i y this of e. absurd (elsewhere layout w homes views s (places.Policy thread) 9 refl (λ n. omega arith) e);
    exhaustion = λ e. absurd (elsewhere layout w homes views s places.Available 9 refl (λ n. omega arith) e);
    loss = λ f standing at e.
        let same : word ≡ standing = same_Some word standing (sym there ∙ ap (slice_get w.losses) (ap shown_number e) ∙ at) in
        omega (arith, same);
    ended = λ process standing at e. absurd (elsewhere layout w homes views s (places.Process process) 9 refl (λ n. omega arith) e);
    stop = λ e. absurd (elsewhere layout w homes views s places.Stop 9 refl (λ n. omega arith) e);
  }
    where
      s : Sight
      s = record { stamp = stamp; place = places.Loss file; word = word }

-- a list with a member that passes the test has it
some-any : {A : Type 0} (test : A → Bool) (l : List A) → list_any test l ≡ true → SomeMember (λ (x : A). test x ≡ true) l
some-any test [] any = let clash : from_bool false ≡ from_bool true = ap from_bool any in absurd (omega arith)
some-any {A} test (x ∷ xs) any = which (test x) refl (some-any test xs)
  where
    which : (b : Bool) → test x ≡ b → (list_any test xs ≡ true → SomeMember (λ (y : A). test y ≡ true) xs) → SomeMember (λ (y : A). test y ≡ true) (x ∷ xs)
    which true is rest = (0, x, refl, is)
    which false is rest =
        let some : SomeMember (λ (y : A). test y ≡ true) xs = rest (sym (ap (λ (b : Bool). b || list_any test xs) is) ∙ any) in
        (suc some.0, some.1, some.2, some.3)

is-so : (b : Bool) → 0 < from_bool b → b ≡ true
is-so true above = refl
is-so false above = absurd (omega arith)

-- sights in the turn of the command
module _ (layout : Layout) (w : Words) (homes : Homes) (views : List View) (seat : ℕ) (v : View) (stamp : Stamp) (me : slice_get views seat ≡ Some v) (turn : IsTurnOf v stamp.who) (h : FrameRule layout w homes views) where
  pub explained-counter : IsExplained layout w homes views (record { stamp = stamp; place = places.Counter; word = w.counter })
  explained-counter = record {
    counter = λ e above. some-mark above;
    bad = λ f standing at e. absurd (elsewhere layout w homes views s (places.Bad f) 5 refl (λ n. omega arith) e);
    weak = λ f standing at e. absurd (elsewhere layout w homes views s (places.Weak f) 5 refl (λ n. omega arith) e);
    ending = λ process e. absurd (elsewhere layout w homes views s (places.Process process) 5 refl (λ n. omega arith) e);
    mark = λ f standing at e. absurd (elsewhere layout w homes views s (places.Frame f) 5 refl (λ n. omega arith) e);
    policy = λ thread d standing declared at i y this of e. absurd (elsewhere layout w homes views s (places.Policy thread) 5 refl (λ n. omega arith) e);
    exhaustion = λ e. absurd (elsewhere layout w homes views s places.Available 5 refl (λ n. omega arith) e);
    ended = λ process standing at e. absurd (elsewhere layout w homes views s (places.Process process) 5 refl (λ n. omega arith) e);
    loss = λ f standing at e. absurd (elsewhere layout w homes views s (places.Loss f) 5 refl (λ n. omega arith) e);
    stop = λ e. absurd (elsewhere layout w homes views s places.Stop 5 refl (λ n. omega arith) e);
  }
    where
      s : Sight
      s = record { stamp = stamp; place = places.Counter; word = w.counter }

      debts : List CountDebts
      debts = map count_debts_of views

      hardware : Mark → ℕ
      hardware m = from_bool (is_by_hardware m.kind)

      some-mark : 0 < hardware_of w.counter → SomeHardware debts s
      some-mark above =
          let balance : hardware_of w.counter + sum_by (λ (d : CountDebts). d.hardware) debts ≡ sum_by (λ (d : CountDebts). sum_by hardware d.marks) debts = h.failures.counter.hardware in
          let some : SomeMember (λ (d : CountDebts). 0 < sum_by hardware d.marks) debts = some-term (λ (d : CountDebts). sum_by hardware d.marks) debts (omega arith) in
          let mark : SomeMember (λ (m : Mark). 0 < hardware m) some.1.marks = some-term hardware some.1.marks some.3 in
          let was : (x : View) × (slice_get views some.0 ≡ Some x) × (count_debts_of x ≡ some.1) = map-was count_debts_of views some.0 some.1 some.2 in
          let listed : slice_get was.0.marks mark.0 ≡ Some mark.1 = subst (λ (d : CountDebts). slice_get d.marks mark.0 ≡ Some mark.1) (sym was.2) mark.2 in (
            some.0,
            some.1,
            some.2,
            (
              mark.0,
              mark.1,
              mark.2,
              (
                is-so (is_by_hardware mark.1.kind) mark.3,
                not-later layout w homes views seat v stamp.who me turn h some.0 was.0 mark.1.stamp.who was.1 ((h.processors.commands.own some.0 was.0 was.1).marks mark.0 mark.1 listed),
              ),
            ),
          )

  pub explained-process : (process : Proc) (word : ℕ) → slice_get w.processes process.0 ≡ Some word → IsExplained layout w homes views (record { stamp = stamp; place = places.Process process; word = word })
  explained-process process word there = record {
    counter = λ e. absurd (elsewhere layout w homes views s places.Counter 6 refl (λ n. omega arith) e);
    bad = λ f standing at e. absurd (elsewhere layout w homes views s (places.Bad f) 6 refl (λ n. omega arith) e);
    weak = λ f standing at e. absurd (elsewhere layout w homes views s (places.Weak f) 6 refl (λ n. omega arith) e);
    ending = λ p e. record {
      at_home = λ i log is. some-entry p log e ((h.histories.endings.caused p word (same p e)).at_home i log is) (all.at_home i log is);
      in_hand = λ i bodies is j b listed. some-entry p b.log e ((h.histories.endings.caused p word (same p e)).in_hand i bodies is j b listed) (all.in_hand i bodies is j b listed);
    };
    mark = λ f standing at e. absurd (elsewhere layout w homes views s (places.Frame f) 6 refl (λ n. omega arith) e);
    policy = λ thread d standing declared at i y this of e. absurd (elsewhere layout w homes views s (places.Policy thread) 6 refl (λ n. omega arith) e);
    exhaustion = λ e. absurd (elsewhere layout w homes views s places.Available 6 refl (λ n. omega arith) e);
    ended = λ p standing at e named. same_Some standing word (sym at ∙ same p e);
    loss = λ f standing at e. absurd (elsewhere layout w homes views s (places.Loss f) 6 refl (λ n. omega arith) e);
    stop = λ e. absurd (elsewhere layout w homes views s places.Stop 6 refl (λ n. omega arith) e);
  }
    where
      s : Sight
      s = record { stamp = stamp; place = places.Process process; word = word }

      same : (p : Proc) → places.Process process ≡ places.Process p → slice_get w.processes p.0 ≡ Some word
      same p e = ap (slice_get w.processes) (sym (ap shown_number e)) ∙ there

      all : EachBody (λ (log : Log). EachMember (λ (e : Entry). IsNotLater e.who stamp.who) log.entries) homes (map (λ (v : View). v.bodies) views)
      all = entries-not-later layout w homes views seat v stamp.who me turn h

      some-entry : (p : Proc) (log : Log) → places.Process process ≡ places.Process p → (word ≡ log.page.0 + 1 → has_ending layout p log.entries ≡ true) → EachMember (λ (e : Entry). IsNotLater e.who stamp.who) log.entries
          → word ≡ log.page.0 + 1 → SomeMember (λ (e : Entry). (is_ending layout p e.what ≡ true) × IsNotLater e.who stamp.who) log.entries
      some-entry p log e caused before names =
          let some : SomeMember (λ (e : Entry). is_ending layout p e.what ≡ true) log.entries = some-any (λ (e : Entry). is_ending layout p e.what) log.entries (caused names) in
          (some.0, some.1, some.2, (some.3, before some.0 some.1 some.2))
