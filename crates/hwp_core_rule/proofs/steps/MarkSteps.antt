-- A mark more in a seat's view: the parts that read marks alone stay.
use Rattle.std.proofs.Common.{◌≡◌, ℕ, ◌+◌, ◌*◌, ◌<◌, ◌≤◌, ◌==◌, nat_lt, true, cond, List, [], ◌∷◌, ◌++◌, Some, map, set, length, slice_get, sym, subst, arith}
use Rattle.std.proofs.lemmas.List.Sums.{sum_by_push}
use Rattle.std.specs.Int.{from_bool}
use Rattle.std.specs.List.{sum_by}
use Rattle.hwp_page.specs.hwp_geom.declared.FileNo.{FileNo}
use Rattle.hwp_page.specs.hwp_geom.declared.Layout.{Layout}
use Rattle.hwp_page.specs.Losses.{is_loss}
use Rattle.hwp_page.specs.Orders.{IsNotLater}
use Rattle.hwp_words.specs.Counters.{hardware_of}
use Rattle.hwp_core_rule.specs.declared.view.Made.{Made}
use Rattle.hwp_core_rule.specs.declared.view.Mark.{Mark}
use Rattle.hwp_core_rule.specs.declared.view.Sight.{Sight}
use Rattle.hwp_core_rule.specs.declared.view.View.{View}
use Rattle.hwp_core_rule.specs.Lists.{Homes, EachMember, EachListed, SomeMember, sum_all, sum_bodies}
use Rattle.hwp_core_rule.specs.Logs.{losses_of}
use Rattle.hwp_core_rule.specs.Rule.{FrameRule, count_debts_of, losing_of}
use Rattle.hwp_core_rule.specs.Words.{Words, sum_below}
use Rattle.hwp_core_rule.specs.parts.Counter.{CountDebts, SomeHardware, is_by_hardware, is_poisoning}
use Rattle.hwp_core_rule.specs.parts.Exhaustion.{ExhaustionExplained, usable, is_marked}
use Rattle.hwp_core_rule.specs.parts.Holdings.{AreOwn, IsPast}
use Rattle.hwp_core_rule.specs.parts.Losses.{Losing, LossesBalance, IsPoisonLoss, made_of, owed_of}
use Rattle.hwp_core_rule.proofs.CountsBelow.{below-le}
use Rattle.hwp_core_rule.proofs.PartKeeps
use Rattle.hwp_core_rule.proofs.Lists.{at_map, set_here, sum-set, each-set, each-push, some-set, some-push}
use Rattle.hwp_core_rule.specs.declared.shared_word.SharedWord.TheVariants as places

-- how often a cycle is poisoned, of a frame with this cycle and poison
abbrev pub due : ℕ → ℕ → ℕ → ℕ
due c cycle poison = cond (nat_lt c cycle) 1 (cond (c == cycle) poison 0)

abbrev pub by_hardware : Mark → ℕ
by_hardware m = from_bool (is_by_hardware m.kind)

module _ (layout : Layout) (w : Words) (homes : Homes) (views : List View) (seat : ℕ) (v : View) (mark : Mark) (me : slice_get views seat ≡ Some v) (h : FrameRule layout w homes views) where
  abbrev now : List Mark
  now = v.marks ++ mark ∷ []

  abbrev marks : List (List Mark)
  marks = map (λ (v : View). v.marks) views

  -- what is counted of the marks, with the new one
  pub marked-more : (f : Mark → ℕ) → sum_all f (set marks seat now) ≡ sum_all f marks + f mark
  marked-more f =
      let moved : sum_all f (set marks seat now) + sum_by f v.marks ≡ sum_all f marks + sum_by f now = sum-set (sum_by f) marks seat v.marks now (at_map (λ (v : View). v.marks) views seat v me) in
      let more : sum_by f now ≡ sum_by f v.marks + f mark = sum_by_push f v.marks mark in
      omega arith

  pub exhaustion-marked : ExhaustionExplained layout (set marks seat now) (map (λ (v : View). v.sights) views)
  exhaustion-marked = record {
    explained = λ i list at j s is place zero.
        let old : sum_below (usable layout) layout.frames ≤ sum_below (is_marked layout marks) layout.frames + length layout.pages + 2 * layout.cpus = h.failures.exhaustion.explained i list at j s is place zero in
        let more : sum_below (is_marked layout marks) layout.frames ≤ sum_below (is_marked layout (set marks seat now)) layout.frames = below-le (is_marked layout marks) (is_marked layout (set marks seat now)) layout.frames
        (λ f less.
        let added : sum_all (λ (m : Mark). from_bool (m.frame.0 == f)) (set marks seat now) ≡ sum_all (λ (m : Mark). from_bool (m.frame.0 == f)) marks + from_bool (mark.frame.0 == f) = marked-more (λ (m : Mark). from_bool (m.frame.0 == f)) in
        omega (arith, added)) in
        omega (arith, old, more);
  }

  abbrev losing : Losing
  losing = record (losing_of v) { marks = now }

  abbrev losings : List Losing
  losings = map losing_of views

  pub losses-marked : LossesBalance layout w.losses homes (map (λ (v : View). v.bodies) views) (set losings seat losing) (map (λ (v : View). v.sights) views)
  losses-marked = record {
    balance = λ file x at.
        let owed : sum_by (owed_of file) (set losings seat losing) + owed_of file (losing_of v) ≡ sum_by (owed_of file) losings + owed_of file (losing_of v) = sum-set (owed_of file) losings seat (losing_of v) losing mine in
        let was : x + sum_by (owed_of file) losings ≡ sum_bodies (losses_of layout file) homes (map (λ (v : View). v.bodies) views) = h.histories.losses.balance file x at in
        omega (arith, owed, was);
    owing = λ file. each-set (λ (o : Losing). owed_of file o ≤ made_of layout file o) losings seat losing (h.histories.losses.owing file seat (losing_of v) mine) (h.histories.losses.owing file);
    shown = h.histories.losses.shown;
    declared = each-set (λ (o : Losing). EachMember (λ (n : FileNo). n.0 < layout.files) o.owed) losings seat losing (h.histories.losses.declared seat (losing_of v) mine) h.histories.losses.declared;
    poisoned = each-set IsPoisonLoss losings seat losing covered h.histories.losses.poisoned;
  }
    where
      mine : slice_get losings seat ≡ Some (losing_of v)
      mine = at_map losing_of views seat v me

      covered : IsPoisonLoss losing
      covered =
          let was : sum_by (λ (m : Made). from_bool (is_loss m.entry.what)) v.made ≤ length v.owed.losses + sum_by (λ (m : Mark). from_bool (is_poisoning m.kind)) v.marks = h.histories.losses.poisoned seat (losing_of v) mine in
          let more : sum_by (λ (m : Mark). from_bool (is_poisoning m.kind)) now ≡ sum_by (λ (m : Mark). from_bool (is_poisoning m.kind)) v.marks + from_bool (is_poisoning mark.kind) = sum_by_push (λ (m : Mark). from_bool (is_poisoning m.kind)) v.marks mark in
          omega (arith, was, more)

  -- sights of the counter are explained as before, whatever the view owes
  pub hardware-marked : (owing : CountDebts) → owing.marks ≡ now → EachListed (λ (s : Sight). s.place ≡ places.Counter → 0 < hardware_of s.word → SomeHardware (set (map count_debts_of views) seat owing) s) (map (λ (v : View). v.sights) views)
  hardware-marked owing are i list at j s is place above =
      some-set (λ (d : CountDebts). SomeMember (λ (m : Mark). (is_by_hardware m.kind ≡ true) × IsNotLater m.stamp.who s.stamp.who) d.marks) (map count_debts_of views) seat (count_debts_of v) owing (at_map count_debts_of views seat v me)
      (λ has. subst (SomeMember (λ (m : Mark). (is_by_hardware m.kind ≡ true) × IsNotLater m.stamp.who s.stamp.who)) (sym are)
      (some-push (λ (m : Mark). (is_by_hardware m.kind ≡ true) × IsNotLater m.stamp.who s.stamp.who) v.marks mark has)) (h.failures.counter.shown i list at j s is place above)

  -- what the view lists is of its own commands, also where it is another in what it holds and owes
  pub own-marked : (u : View) → PartKeeps.lists_read u ≡ PartKeeps.lists_read (record v { marks = now }) → IsPast v.parts mark.stamp.who → AreOwn u
  own-marked u same past = PartKeeps.own-same (set views seat listed) seat listed u (set_here views seat listed v me) same (record {
    made = own.made;
    marks = each-push (λ (m : Mark). IsPast v.parts m.stamp.who) v.marks mark past own.marks;
    sights = own.sights;
    lengths = own.lengths;
    settings = own.settings;
    stops = own.stops;
  })
    where
      own : AreOwn v
      own = h.processors.commands.own seat v me

      listed : View
      listed = record v { marks = now }
