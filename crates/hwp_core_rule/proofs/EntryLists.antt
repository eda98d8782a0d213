-- Entries of a body in hand that are listed keep the frame rule.
use Rattle.std.proofs.Common.{◌≡◌, ◌≢◌, ℕ, suc, ◌+◌, ◌<◌, ◌≤◌, ◌==◌, Bool, true, false, cond, List, [], ◌∷◌, ◌++◌, Option, Some, map, set, take, length, slice_get, length-append, append_assoc, inl, inr, refl, sym, ap, ◌∙◌, subst, arith}
use Rattle.std.proofs.lemmas.List.{map-set, take-append-le}
use Rattle.std.proofs.lemmas.List.Folds.{list_any-append}
use Rattle.std.proofs.lemmas.List.Sums.{sum_by-cons, sum_by-append}
use Rattle.std.specs.Int.{from_bool}
use Rattle.std.specs.List.{sum_by}
use Rattle.hwp_page.specs.hwp_geom.declared.FileNo.{FileNo}
use Rattle.hwp_page.specs.hwp_geom.declared.Frame.{Frame}
use Rattle.hwp_page.specs.hwp_geom.declared.Layout.{Layout}
use Rattle.hwp_page.specs.hwp_geom.declared.Page.{Page}
use Rattle.hwp_page.specs.hwp_geom.declared.Proc.{Proc}
use Rattle.hwp_page.specs.hwp_geom.declared.Who.{Who}
use Rattle.hwp_page.specs.hwp_geom.Layout.{IsSound}
use Rattle.hwp_page.specs.declared.Entry.{Entry}
use Rattle.hwp_page.specs.Endings.{has_ending, is_ending}
use Rattle.hwp_page.specs.Losses.{is_loss, is_same_file, losses_in}
use Rattle.hwp_page.specs.Orders.{IsNotLater}
use Rattle.hwp_core_rule.specs.declared.log.Log.{Log}
use Rattle.hwp_core_rule.specs.declared.view.InHand.{InHand}
use Rattle.hwp_core_rule.specs.declared.view.Length.{Length}
use Rattle.hwp_core_rule.specs.declared.view.Made.{Made}
use Rattle.hwp_core_rule.specs.declared.view.Mark.{Mark}
use Rattle.hwp_core_rule.specs.declared.view.PageLock.{PageLock}
use Rattle.hwp_core_rule.specs.declared.view.Sight.{Sight}
use Rattle.hwp_core_rule.specs.declared.view.Stamp.{Stamp}
use Rattle.hwp_core_rule.specs.declared.view.View.{View}
use Rattle.hwp_core_rule.specs.Asks.{Extends, HasSameWords, IsTurnOf}
use Rattle.hwp_core_rule.specs.Lists.{Homes, EachBody, EachMember, SomeMember, StartsWith, sum_all, sum_bodies}
use Rattle.hwp_core_rule.specs.Logs.{state_of, losses_of, file_of}
use Rattle.hwp_core_rule.specs.Rule.{FrameRule, holder_of, losing_of}
use Rattle.hwp_core_rule.specs.Views.{stamp_of, more_of, made_from, losses_made, changed, is_body_of, body_of, listed, listed_of, page_locks_on}
use Rattle.hwp_core_rule.specs.Words.{Words}
use Rattle.hwp_core_rule.specs.parts.Bodies.{BodiesAtHome, Holder, IsHolding}
use Rattle.hwp_core_rule.specs.parts.Counter.{is_poisoning}
use Rattle.hwp_core_rule.specs.parts.Endings.{EndingsAgree, AreEnded}
use Rattle.hwp_core_rule.specs.parts.Entries.{EntriesListed, AreInOrder, weigh, weigh_from, HasSeen, Reaches}
use Rattle.hwp_core_rule.specs.parts.Fits.{PageFits, Fits, KnowsWords, KnowsOwn}
use Rattle.hwp_core_rule.specs.parts.Holdings.{AreOwn, IsPast}
use Rattle.hwp_core_rule.specs.parts.Losses.{Losing, LossesBalance, IsPoisonLoss, made_of, owed_of}
use Rattle.hwp_core_rule.specs.parts.Stops.{EndingsAndStopsStay}
use Rattle.hwp_core_rule.proofs.Lists.{change, keep, at_map, at_longer, sum-set, each-set, each-weaken, each-changed}
use Rattle.hwp_core_rule.proofs.BodySlots.{all_bodies, held-bodies}
use Rattle.hwp_core_rule.proofs.ListDrops.{sum-changed-one, each-changed-one}
use Rattle.hwp_core_rule.proofs.MoreEntries.{each-append, seen-drop, weigh-append, made-weigh, made-each, or-left, fits-same, order-append}
use Rattle.hwp_core_rule.proofs.OwedLosses.{listed-of-file, made-of-file, owed-length, made-declared}
use Rattle.hwp_core_rule.proofs.BodySlots
use Rattle.hwp_core_rule.proofs.NotLater.{entries-not-later}
use Rattle.hwp_core_rule.proofs.PartKeeps

losses-of-made : (stamp : Stamp) (page : Page) (frame : Option Frame) (place : ℕ) (es : List Entry) → sum_by (λ (m : Made). from_bool (is_loss m.entry.what)) (made_from stamp page frame place es) ≡ losses_in es
losses-of-made stamp page frame place [] = refl
losses-of-made stamp page frame place (e ∷ es) =
    let rest : sum_by (λ (m : Made). from_bool (is_loss m.entry.what)) (made_from stamp page frame (suc place) es) ≡ losses_in es = losses-of-made stamp page frame (suc place) es in
    let all : sum_by (λ (m : Made). from_bool (is_loss m.entry.what)) (made_from stamp page frame place (e ∷ es)) ≡ from_bool (is_loss e.what) + sum_by (λ (m : Made). from_bool (is_loss m.entry.what)) (made_from stamp page frame (suc place) es) =
    sum_by-cons (λ (m : Made). from_bool (is_loss m.entry.what)) (record { stamp = stamp; page = page; place = place; entry = e; frame = frame }) (made_from stamp page frame (suc place) es) in
    let one : losses_in (e ∷ es) ≡ from_bool (is_loss e.what) + losses_in es = sum_by-cons (λ (e : Entry). from_bool (is_loss e.what)) e es in
    omega arith

-- a history becomes longer in the view that has the body in hand, and the processes of which a `kill` met it may be more
module _ (layout : Layout) (w : Words) (homes : Homes) (views : List View) (seat : ℕ) (v : View) (who : Who) (log : Log) (killing : List Proc → List Proc) (place : ℕ) (body : InHand)
    (me : slice_get views seat ≡ Some v) (past : IsPast v.parts who) (turn : IsTurnOf v who) (there : slice_get v.bodies place ≡ Some body) (test : is_body_of log.page body ≡ true)
    (extends : Extends layout who v.sights body log) (within : log.page.0 < length layout.pages) (sound : IsSound layout)
    (same_words : page_locks_on log.page.0 v.pages ≡ 0 → HasSameWords (state_of layout log) (state_of layout body.log)) (h : FrameRule layout w homes views) where
  abbrev more : List Entry
  more = more_of body log

  abbrev renewed : InHand → InHand
  renewed b = record b { log = log; killed = killing b.killed }

  abbrev bodies : List InHand
  bodies = changed (is_body_of log.page) renewed v.bodies

  abbrev made : List Made
  made = v.made ++ made_from (stamp_of who v) log.page body.frame (length body.log.entries) more

  abbrev owed : List FileNo
  owed = v.owed.losses ++ losses_made layout log.page more

  -- the process has a word that is not 0
  abbrev IsMet : Proc → Type 0
  IsMet p = (x : ℕ) → slice_get w.processes p.0 ≡ Some x → x ≢ 0

  abbrev u : View
  u = record v { made = made; bodies = bodies; owed = record v.owed { losses = owed } }

  my_bodies : slice_get (all_bodies views) seat ≡ Some v.bodies
  my_bodies = at_map (λ (v : View). v.bodies) views seat v me

  -- the page's body is in hand once
  once : sum_by (λ (b : InHand). from_bool (is_body_of log.page b)) v.bodies ≡ 1
  once = BodySlots.once layout w homes views seat v me h log place body there test within

  sums : (g : Log → ℕ) → sum_bodies g homes (set (all_bodies views) seat bodies) + g body.log ≡ sum_bodies g homes (all_bodies views) + g log
  sums g =
      let hand : sum_all (λ (b : InHand). g b.log) (set (all_bodies views) seat bodies) + sum_by (λ (b : InHand). g b.log) v.bodies ≡ sum_all (λ (b : InHand). g b.log) (all_bodies views) + sum_by (λ (b : InHand). g b.log) bodies =
      sum-set (sum_by (λ (b : InHand). g b.log)) (all_bodies views) seat v.bodies bodies my_bodies in
      let other : sum_by (λ (b : InHand). g b.log) bodies + g body.log ≡ sum_by (λ (b : InHand). g b.log) v.bodies + g log = sum-changed-one (is_body_of log.page) (λ (b : InHand). g b.log) renewed v.bodies place body once there test in
      omega arith

  eachs : (P : Log → Type 0) → (P body.log → P log) → EachBody P homes (all_bodies views) → EachBody P homes (set (all_bodies views) seat bodies)
  eachs P longer each = record {
    at_home = each.at_home;
    in_hand = each-set (EachMember (λ (b : InHand). P b.log)) (all_bodies views) seat bodies
        (each-changed-one (is_body_of log.page) (λ (b : InHand). P b.log) renewed v.bodies place body once there test (longer (each.in_hand seat v.bodies my_bodies place body there)) (each.in_hand seat v.bodies my_bodies))
        each.in_hand;
  }

  has-more : (process : Proc) → has_ending layout process body.log.entries ≡ true → has_ending layout process log.entries ≡ true
  has-more process has = ap (has_ending layout process) extends.longer ∙ list_any-append (λ (e : Entry). is_ending layout process e.what) body.log.entries more
      ∙ or-left (has_ending layout process body.log.entries) (has_ending layout process more) has

  reaches : length body.log.entries ≤ length log.entries
  reaches = omega (arith, ap (λ (l : List Entry). length l) extends.longer, length-append body.log.entries more)

  -- each page has one body still
  pub one-listed : (q : ℕ) → q < length layout.pages → sum_bodies (λ (x : Log). from_bool (x.page.0 == q)) homes (set (all_bodies views) seat bodies) ≡ 1
  one-listed q inside =
      let was : sum_bodies (λ (x : Log). from_bool (x.page.0 == q)) homes (all_bodies views) ≡ 1 = BodySlots.one-body layout w homes views seat v me h q inside in
      let page : from_bool (log.page.0 == q) ≡ from_bool (body.log.page.0 == q) = ap (λ (p : Page). from_bool (p.0 == q)) extends.page_is in
      omega (arith, sums (λ (x : Log). from_bool (x.page.0 == q)), was, page)

  bodies-listed : BodiesAtHome layout w.frames w.caches w.pages homes (set (map holder_of views) seat (holder_of u))
  bodies-listed = record {
    frame_home = h.pages.bodies.frame_home;
    frame_out = h.pages.bodies.frame_out;
    shelf_home = h.pages.bodies.shelf_home;
    shelf_out = h.pages.bodies.shelf_out;
    one = λ q inside.
        let lists : map (λ (o : Holder). o.bodies) (set (map holder_of views) seat (holder_of u)) ≡ set (all_bodies views) seat bodies =
        map-set (λ (o : Holder). o.bodies) (map holder_of views) seat (holder_of u) ∙ ap (λ (l : List (List InHand)). set l seat bodies) (held-bodies views) in
        subst (λ (l : List (List InHand)). sum_bodies (λ (x : Log). from_bool (x.page.0 == q)) homes l ≡ 1) (sym lists) (one-listed q inside);
    in_hand = each-set (λ (o : Holder). EachMember (λ (b : InHand). IsHolding b o) o.bodies) (map holder_of views) seat (holder_of u)
        (each-changed-one (is_body_of log.page) (λ (b : InHand). IsHolding b (holder_of u)) renewed v.bodies place body once there test
        (subst (λ (p : Page). IsHolding (record body { log = record log { page = p } }) (holder_of u)) (sym extends.page_is) (mine place body there)) mine)
        h.pages.bodies.in_hand;
  }
    where
      mine : EachMember (λ (b : InHand). IsHolding b (holder_of u)) v.bodies
      mine i b at = elim (h.pages.bodies.in_hand seat (holder_of v) (at_map holder_of views seat v me) i b at) [ inl page ↦ inl page | inr some ↦ inr some ]

  entries-listed : EntriesListed homes (set (all_bodies views) seat bodies) (set (map (λ (v : View). (v.made, v.sights)) views) seat (made, v.sights)) (map (λ (v : View). v.lengths) views)
  entries-listed = record {
    balance = λ g.
        let at : List Made × List Sight → ℕ = λ (x : List Made × List Sight). sum_by (λ (m : Made). g m.page m.place m.entry) x.0 in
        let was : sum_bodies (weigh g) homes (all_bodies views) ≡ sum_by at (map (λ (v : View). (v.made, v.sights)) views) = h.histories.entries.balance g in
        let moved : sum_by at (set (map (λ (v : View). (v.made, v.sights)) views) seat (made, v.sights)) + at (v.made, v.sights) ≡ sum_by at (map (λ (v : View). (v.made, v.sights)) views) + at (made, v.sights) =
        sum-set at (map (λ (v : View). (v.made, v.sights)) views) seat (v.made, v.sights) (made, v.sights) my_made in
        let pushed : at (made, v.sights) ≡ at (v.made, v.sights) + sum_by (λ (m : Made). g m.page m.place m.entry) (made_from (stamp_of who v) log.page body.frame (length body.log.entries) more) =
        sum_by-append (λ (m : Made). g m.page m.place m.entry) v.made (made_from (stamp_of who v) log.page body.frame (length body.log.entries) more) in
        let of_more : sum_by (λ (m : Made). g m.page m.place m.entry) (made_from (stamp_of who v) log.page body.frame (length body.log.entries) more) ≡ weigh_from g log.page (length body.log.entries) more =
        made-weigh g (stamp_of who v) log.page body.frame (length body.log.entries) more in
        let start : 0 + length body.log.entries ≡ length body.log.entries = omega arith in
        let all : weigh g log ≡ weigh_from g log.page 0 body.log.entries + weigh_from g log.page (0 + length body.log.entries) more =
        ap (weigh_from g log.page 0) extends.longer ∙ weigh-append g log.page 0 body.log.entries more in
        let later : weigh_from g log.page (0 + length body.log.entries) more ≡ weigh_from g log.page (length body.log.entries) more = ap (λ (n : ℕ). weigh_from g log.page n more) start in
        let old : weigh_from g log.page 0 body.log.entries ≡ weigh g body.log = ap (λ (p : Page). weigh_from g p 0 body.log.entries) extends.page_is in
        omega (arith, sums (weigh g));
    ordered = eachs (λ (x : Log). AreInOrder x.entries) (λ old. subst AreInOrder (sym extends.longer) (order-append body.log.entries more who old before extends.own)) h.histories.entries.ordered;
    shown = each-set (λ (x : List Made × List Sight). EachMember (λ (m : Made). HasSeen x.1 m.entry.who m.frame m.entry.what) x.0) (map (λ (v : View). (v.made, v.sights)) views) seat (made, v.sights)
        (each-append (λ (m : Made). HasSeen v.sights m.entry.who m.frame m.entry.what) v.made (made_from (stamp_of who v) log.page body.frame (length body.log.entries) more)
        (h.histories.entries.shown seat (v.made, v.sights) my_made)
        (made-each (λ (m : Made). HasSeen v.sights m.entry.who m.frame m.entry.what) (stamp_of who v) log.page body.frame (length body.log.entries) more
        (λ i e at n. subst (λ (z : Who). HasSeen v.sights z body.frame e.what) (sym (extends.own i e at)) (seen-drop body.from v.sights who body.frame e.what (extends.seen i e at)))))
        h.histories.entries.shown;
    lengths_reached = each-weaken (EachMember Was) (EachMember Reached) (map (λ (v : View). v.lengths) views)
        (λ list each. each-weaken Was Reached list (λ l was. eachs (Reaches l) (λ old page. let front : StartsWith l.log.entries body.log.entries = old (sym extends.page_is ∙ page) in (front.0 ++ more, extends.longer ∙ ap (λ (es : List Entry). es ++ more) front.1 ∙ append_assoc l.log.entries front.0 more)) was) each)
        h.histories.entries.lengths_reached;
  }
    where
      before : EachMember (λ (e : Entry). IsNotLater e.who who) body.log.entries
      before = (entries-not-later layout w homes views seat v who me turn h).in_hand seat v.bodies my_bodies place body there

      my_made : slice_get {X = List Made × List Sight} (map (λ (v : View). (v.made, v.sights)) views) seat ≡ Some (v.made, v.sights)
      my_made = at_map (λ (v : View). (v.made, v.sights)) views seat v me

      Was : Length → Type 0
      Was l = EachBody (Reaches l) homes (all_bodies views)

      Reached : Length → Type 0
      Reached l = EachBody (Reaches l) homes (set (all_bodies views) seat bodies)

  since : body.since ≤ length body.log.entries
  since = h.histories.endings.taken seat v.bodies my_bodies place body there

  pub endings-listed : EndingsAgree layout w.processes homes (set (all_bodies views) seat bodies) (map (λ (v : View). v.sights) views)
  endings-listed = record {
    named = h.histories.endings.named;
    caused = λ process x at. eachs (λ (y : Log). x ≡ y.page.0 + 1 → has_ending layout process y.entries ≡ true) (λ old is. has-more process (old (is ∙ ap (λ (p : Page). p.0 + 1) extends.page_is))) (h.histories.endings.caused process x at);
    ended = h.histories.endings.ended;
    ended_before = each-set (EachMember (λ (b : InHand). AreEnded layout w.processes (take b.since b.log.entries))) (all_bodies views) seat bodies
        (each-changed-one (is_body_of log.page) (λ (b : InHand). AreEnded layout w.processes (take b.since b.log.entries)) renewed v.bodies place body once there test
        (subst (AreEnded layout w.processes) (sym (ap (take body.since) extends.longer ∙ take-append-le body.since body.log.entries more since)) (h.histories.endings.ended_before seat v.bodies my_bodies place body there))
        (h.histories.endings.ended_before seat v.bodies my_bodies))
        h.histories.endings.ended_before;
    taken = each-set (EachMember (λ (b : InHand). b.since ≤ length b.log.entries)) (all_bodies views) seat bodies
        (each-changed-one (is_body_of log.page) (λ (b : InHand). b.since ≤ length b.log.entries) renewed v.bodies place body once there test (omega (arith, since, reaches)) (h.histories.endings.taken seat v.bodies my_bodies))
        h.histories.endings.taken;
    shown = λ i list at j s is process place'.
        eachs (λ (y : Log). s.word ≡ y.page.0 + 1 → SomeMember (λ (e : Entry). (is_ending layout process e.what ≡ true) × IsNotLater e.who s.stamp.who) y.entries)
        (λ old names.
        let some : SomeMember (λ (e : Entry). (is_ending layout process e.what ≡ true) × IsNotLater e.who s.stamp.who) body.log.entries = old (names ∙ ap (λ (p : Page). p.0 + 1) extends.page_is) in
        (some.0, some.1, ap (λ (l : List Entry). slice_get l some.0) extends.longer ∙ at_longer body.log.entries more some.0 some.1 some.2, some.3))
        (h.histories.endings.shown i list at j s is process place');
  }

  -- each loss that the entries make is owed
  owed-more : length (losses_made layout log.page more) ≡ losses_in more
  owed-more = owed-length layout log.page body.log (state_of layout log) more extends.page_is extends.leads

  losses-listed : LossesBalance layout w.losses homes (set (all_bodies views) seat bodies) (set (map losing_of views) seat (losing_of u)) (map (λ (v : View). v.sights) views)
  losses-listed = record {
    balance = λ file x at.
        let was : x + sum_by (owed_of file) (map losing_of views) ≡ sum_bodies (losses_of layout file) homes (all_bodies views) = h.histories.losses.balance file x at in
        let owes : sum_by (owed_of file) (set (map losing_of views) seat (losing_of u)) + owed_of file (losing_of v) ≡ sum_by (owed_of file) (map losing_of views) + owed_of file (losing_of u) = sum-set (owed_of file) (map losing_of views) seat (losing_of v) (losing_of u) my_losing in
        let pushed : owed_of file (losing_of u) ≡ owed_of file (losing_of v) + cond (is_same_file file (file_of layout log.page)) (losses_in more) 0 = owes-more file in
        let of_log : losses_of layout file log ≡ losses_of layout file body.log + cond (is_same_file file (file_of layout log.page)) (losses_in more) 0 = more-lost file in
        omega (arith, sums (losses_of layout file));
    owing = λ file. each-set (λ (o : Losing). owed_of file o ≤ made_of layout file o) (map losing_of views) seat (losing_of u)
        (let was : owed_of file (losing_of v) ≤ made_of layout file (losing_of v) = h.histories.losses.owing file seat (losing_of v) my_losing in
        omega (arith, was, owes-more file, lists-more file))
        (h.histories.losses.owing file);
    shown = h.histories.losses.shown;
    declared = each-set (λ (o : Losing). EachMember (λ (n : FileNo). n.0 < layout.files) o.owed) (map losing_of views) seat (losing_of u)
        (each-append (λ (n : FileNo). n.0 < layout.files) v.owed.losses (losses_made layout log.page more) (h.histories.losses.declared seat (losing_of v) my_losing) (made-declared layout log.page more sound))
        h.histories.losses.declared;
    poisoned = each-set IsPoisonLoss (map losing_of views) seat (losing_of u) poison-loss h.histories.losses.poisoned;
  }
    where
      my_losing : slice_get (map losing_of views) seat ≡ Some (losing_of v)
      my_losing = at_map losing_of views seat v me

      -- as many of the file are owed more as are listed more
      owes-more : (file : FileNo) → owed_of file (losing_of u) ≡ owed_of file (losing_of v) + cond (is_same_file file (file_of layout log.page)) (losses_in more) 0
      owes-more file = sum_by-append (λ (n : FileNo). from_bool (n.0 == file.0)) v.owed.losses (losses_made layout log.page more) ∙ ap (λ (n : ℕ). owed_of file (losing_of v) + n) (made-of-file layout log.page file more)

      lists-more : (file : FileNo) → made_of layout file (losing_of u) ≡ made_of layout file (losing_of v) + cond (is_same_file file (file_of layout log.page)) (losses_in more) 0
      lists-more file =
          sum_by-append (λ (m : Made). cond (is_same_file file (file_of layout m.page)) (from_bool (is_loss m.entry.what)) 0) v.made (made_from (stamp_of who v) log.page body.frame (length body.log.entries) more)
          ∙ ap (λ (n : ℕ). made_of layout file (losing_of v) + n) (listed-of-file layout file (stamp_of who v) log.page body.frame (length body.log.entries) more)

      all-lost : losses_in log.entries ≡ losses_in body.log.entries + losses_in more
      all-lost = ap losses_in extends.longer ∙ sum_by-append (λ (e : Entry). from_bool (is_loss e.what)) body.log.entries more

      more-lost : (file : FileNo) → losses_of layout file log ≡ losses_of layout file body.log + cond (is_same_file file (file_of layout log.page)) (losses_in more) 0
      more-lost file =
          by (is_same_file file (file_of layout log.page))
          ∙ ap (λ (p : Page). cond (is_same_file file (file_of layout p)) (losses_in body.log.entries) 0 + cond (is_same_file file (file_of layout log.page)) (losses_in more) 0) extends.page_is
        where
          by : (b : Bool) → cond b (losses_in log.entries) 0 ≡ cond b (losses_in body.log.entries) 0 + cond b (losses_in more) 0
          by true = all-lost
          by false = refl

      poison-loss : IsPoisonLoss (losing_of u)
      poison-loss =
          let was : sum_by (λ (m : Made). from_bool (is_loss m.entry.what)) v.made ≤ length v.owed.losses + sum_by (λ (m : Mark). from_bool (is_poisoning m.kind)) v.marks = h.histories.losses.poisoned seat (losing_of v) my_losing in
          let all : sum_by (λ (m : Made). from_bool (is_loss m.entry.what)) made ≡ sum_by (λ (m : Made). from_bool (is_loss m.entry.what)) v.made + sum_by (λ (m : Made). from_bool (is_loss m.entry.what)) (made_from (stamp_of who v) log.page body.frame (length body.log.entries) more) =
          sum_by-append (λ (m : Made). from_bool (is_loss m.entry.what)) v.made (made_from (stamp_of who v) log.page body.frame (length body.log.entries) more) in
          let of_more : sum_by (λ (m : Made). from_bool (is_loss m.entry.what)) (made_from (stamp_of who v) log.page body.frame (length body.log.entries) more) ≡ losses_in more = losses-of-made (stamp_of who v) log.page body.frame (length body.log.entries) more in
          let longer : length owed ≡ length v.owed.losses + length (losses_made layout log.page more) = length-append v.owed.losses (losses_made layout log.page more) in
          omega (arith, owed-more)

  stops-listed : ((l : List Proc) → EachMember IsMet l → EachMember IsMet (killing l))
      → EndingsAndStopsStay w.processes w.stop (set (all_bodies views) seat bodies) (map (λ (v : View). v.sights) views) (map (λ (v : View). v.stops) views)
  stops-listed met = record {
    killed = each-set (EachMember (λ (b : InHand). EachMember IsMet b.killed)) (all_bodies views) seat bodies
        (each-changed (λ (b : InHand). EachMember IsMet b.killed) (is_body_of log.page) renewed v.bodies (λ b is killed. met b.killed killed) (h.processors.stops.killed seat v.bodies my_bodies)) h.processors.stops.killed;
    ended_stays = h.processors.stops.ended_stays;
    stop_stays = h.processors.stops.stop_stays;
    one = h.processors.stops.one;
    named = h.processors.stops.named;
  }

  fits-listed : PageFits layout w.trans w.caches homes (set (map (λ (v : View). (v.pages, v.bodies)) views) seat (v.pages, bodies))
  fits-listed = record {
    at_home = h.pages.fits.at_home;
    in_hand = each-set (λ (o : List PageLock × List InHand). EachMember (λ (b : InHand). page_locks_on b.log.page.0 o.0 ≡ 0 → Fits layout w.trans w.caches b.log) o.1) (map (λ (v : View). (v.pages, v.bodies)) views) seat (v.pages, bodies)
        (each-changed-one (is_body_of log.page) (λ (b : InHand). page_locks_on b.log.page.0 v.pages ≡ 0 → Fits layout w.trans w.caches b.log) renewed v.bodies place body once there test
        (λ none. fits-same layout w.trans w.caches log body.log extends.page_is (same_words none)
        (h.pages.fits.in_hand seat (v.pages, v.bodies) my_fit place body there (ap (λ (p : Page). page_locks_on p.0 v.pages) (sym extends.page_is) ∙ none)))
        (h.pages.fits.in_hand seat (v.pages, v.bodies) my_fit))
        h.pages.fits.in_hand;
    known = each-set (λ (o : List PageLock × List InHand). EachMember (KnowsWords layout w.trans w.caches) o.0) (map (λ (v : View). (v.pages, v.bodies)) views) seat (v.pages, bodies) (h.pages.fits.known seat (v.pages, v.bodies) my_fit) h.pages.fits.known;
    own = each-set (λ (o : List PageLock × List InHand). EachMember (λ (b : InHand). 0 < page_locks_on b.log.page.0 o.0 → KnowsOwn o.0 b) o.1) (map (λ (v : View). (v.pages, v.bodies)) views) seat (v.pages, bodies)
        (each-changed-one (is_body_of log.page) (λ (b : InHand). 0 < page_locks_on b.log.page.0 v.pages → KnowsOwn v.pages b) renewed v.bodies place body once there test
        (λ some.
        let own : KnowsOwn v.pages body = h.pages.fits.own seat (v.pages, v.bodies) my_fit place body there (subst (λ (p : Page). 0 < page_locks_on p.0 v.pages) extends.page_is some) in
        record { lock = own.lock; there = own.there; cache = own.cache; cache_is = own.cache_is; trans = own.trans; trans_is = own.trans_is })
        (h.pages.fits.own seat (v.pages, v.bodies) my_fit))
        h.pages.fits.own;
  }
    where
      my_fit : slice_get {X = List PageLock × List InHand} (map (λ (v : View). (v.pages, v.bodies)) views) seat ≡ Some (v.pages, v.bodies)
      my_fit = at_map (λ (v : View). (v.pages, v.bodies)) views seat v me

  own-listed : AreOwn u
  own-listed = record {
    made = each-append (λ (m : Made). IsPast v.parts m.entry.who) v.made (made_from (stamp_of who v) log.page body.frame (length body.log.entries) more) own.made
        (made-each (λ (m : Made). IsPast v.parts m.entry.who) (stamp_of who v) log.page body.frame (length body.log.entries) more (λ i e at n. subst (IsPast v.parts) (sym (extends.own i e at)) past));
    marks = own.marks;
    sights = own.sights;
    lengths = own.lengths;
    settings = own.settings;
    stops = own.stops;
  }
    where
      own : AreOwn v
      own = h.processors.commands.own seat v me

  -- with the words of processes that agree with the longer history
  pub keeps-listing : (processes : List ℕ) → EndingsAgree layout processes homes (set (all_bodies views) seat bodies) (map (λ (v : View). v.sights) views)
      → EndingsAndStopsStay processes w.stop (set (all_bodies views) seat bodies) (map (λ (v : View). v.sights) views) (map (λ (v : View). v.stops) views)
      → FrameRule layout (record w { processes = processes }) homes (set views seat u)
  keeps-listing processes endings stops = record {
    frames = PartKeeps.same-frames views seat v u me refl h.frames;
    pages = record {
      page_locks = PartKeeps.kept-page-locks views seat v u me refl refl h.pages.page_locks;
      translations = h.pages.translations;
      caches = PartKeeps.kept-caches views seat v u me refl refl h.pages.caches;
      bodies = change holder_of (BodiesAtHome layout w.frames w.caches w.pages homes) views seat u bodies-listed;
      fits = change (λ (v : View). (v.pages, v.bodies)) (PageFits layout w.trans w.caches homes) views seat u fits-listed;
    };
    histories = record {
      entries = keep (λ (v : View). v.lengths) (λ l. EntriesListed homes (map (λ (v : View). v.bodies) (set views seat u)) (map (λ (v : View). (v.made, v.sights)) (set views seat u)) l) views seat v u me refl
          (change (λ (v : View). (v.made, v.sights)) (λ l. EntriesListed homes (map (λ (v : View). v.bodies) (set views seat u)) l (map (λ (v : View). v.lengths) views)) views seat u
          (change (λ (v : View). v.bodies) (λ l. EntriesListed homes l (set (map (λ (v : View). (v.made, v.sights)) views) seat (made, v.sights)) (map (λ (v : View). v.lengths) views)) views seat u entries-listed));
      endings = keep (λ (v : View). v.sights) (λ l. EndingsAgree layout processes homes (map (λ (v : View). v.bodies) (set views seat u)) l) views seat v u me refl
          (change (λ (v : View). v.bodies) (λ l. EndingsAgree layout processes homes l (map (λ (v : View). v.sights) views)) views seat u endings);
      losses = keep (λ (v : View). v.sights) (λ l. LossesBalance layout w.losses homes (map (λ (v : View). v.bodies) (set views seat u)) (map losing_of (set views seat u)) l) views seat v u me refl
          (change losing_of (λ l. LossesBalance layout w.losses homes (map (λ (v : View). v.bodies) (set views seat u)) l (map (λ (v : View). v.sights) views)) views seat u
          (change (λ (v : View). v.bodies) (λ l. LossesBalance layout w.losses homes l (set (map losing_of views) seat (losing_of u)) (map (λ (v : View). v.sights) views)) views seat u losses-listed));
    };
    failures = record {
      handled = h.failures.handled;
      counter = PartKeeps.kept-counter views seat v u me refl refl h.failures.counter;
      damage = PartKeeps.kept-damage views seat v u me refl refl h.failures.damage;
      marks = PartKeeps.kept-marks views seat v u me refl refl h.failures.marks;
      exhaustion = PartKeeps.kept-exhaustion views seat v u me refl refl h.failures.exhaustion;
    };
    processors = record {
      policies = PartKeeps.kept-policies views seat v u me refl refl refl h.processors.policies;
      stops = keep (λ (v : View). v.stops) (λ l. EndingsAndStopsStay processes w.stop (map (λ (v : View). v.bodies) (set views seat u)) (map (λ (v : View). v.sights) (set views seat u)) l) views seat v u me refl
          (keep (λ (v : View). v.sights) (λ l. EndingsAndStopsStay processes w.stop (map (λ (v : View). v.bodies) (set views seat u)) l (map (λ (v : View). v.stops) views)) views seat v u me refl
          (change (λ (v : View). v.bodies) (λ l. EndingsAndStopsStay processes w.stop l (map (λ (v : View). v.sights) views) (map (λ (v : View). v.stops) views)) views seat u stops));
      processors = PartKeeps.kept-processors views seat v u me refl h.processors.processors;
      commands = PartKeeps.kept-commands views seat v u me own-listed h.processors.commands;
    };
  }

  pub keeps-renewed : ((l : List Proc) → EachMember IsMet l → EachMember IsMet (killing l)) → FrameRule layout w homes (set views seat u)
  keeps-renewed met = keeps-listing w.processes endings-listed (stops-listed met)

  -- before a `kill` is noted
  pub listed-is : body_of log.page v ≡ Some body → listed layout who log v ≡ record u { bodies = changed (is_body_of log.page) (λ (b : InHand). record b { log = log }) v.bodies }
  listed-is is = ap (λ (o : Option InHand). listed_of layout who log o v) is
