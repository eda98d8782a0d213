-- A loss that is counted keeps the frame rule.
use Rattle.std.proofs.Common.{◌≡◌, ℕ, ◌+◌, ◌*◌, ◌%◌, ◌^◌, ◌<◌, ◌≤◌, ◌==◌, eqb-true, eq-eqb, ne_eqb, true, List, Some, map, set, length, slice_get, slice_index, inl, inr, refl, sym, ap, ◌∙◌, subst, arith}
use Rattle.std.specs.Int.{from_bool}
use Rattle.std.specs.List.{sum_by}
use Rattle.std.specs.declared.snapshot.Snapshot.{Snapshot}
use Rattle.hwp_page.specs.hwp_geom.declared.FileNo.{FileNo}
use Rattle.hwp_page.specs.hwp_geom.declared.Layout.{Layout}
use Rattle.hwp_page.specs.hwp_geom.declared.Proc.{Proc}
use Rattle.hwp_page.specs.hwp_geom.declared.Who.{Who}
use Rattle.hwp_page.specs.hwp_geom.Layout.{IsSound}
use Rattle.hwp_page.specs.History.{BodyValue}
use Rattle.hwp_core_rule.specs.declared.log.Log.{Log}
use Rattle.hwp_core_rule.specs.declared.view.InHand.{InHand}
use Rattle.hwp_core_rule.specs.declared.view.Mark.{Mark}
use Rattle.hwp_core_rule.specs.declared.view.View.{View}
use Rattle.hwp_core_rule.specs.Asks.{CanLose, IsTurnOf}
use Rattle.hwp_core_rule.specs.Lists.{Homes, EachListed, EachMember, SomeMember, sum_all, sum_bodies}
use Rattle.hwp_core_rule.specs.Logs.{log_of, losses_of}
use Rattle.hwp_core_rule.specs.Rule.{FrameRule, losing_of}
use Rattle.hwp_core_rule.specs.Views.{listed, lost_by, without}
use Rattle.hwp_core_rule.specs.Words.{Words, sum_below}
use Rattle.hwp_core_rule.specs.parts.Counter.{is_poisoning}
use Rattle.hwp_core_rule.specs.parts.Holdings.{IsPast}
use Rattle.hwp_core_rule.specs.parts.Losses.{Losing, IsPoisonLoss, IsSeenLoss, LossesBalance, made_of, owed_of}
use Rattle.hwp_core_rule.proofs.CountsBelow.{below-term}
use Rattle.hwp_core_rule.proofs.Keeps.{Keeps, IsShaped}
use Rattle.hwp_core_rule.proofs.Lists.{at_map, at_set, change, each-set, keep, set_here, set-set, sum-map, sum-set}
use Rattle.hwp_core_rule.proofs.OwedLosses.{behind-within}
use Rattle.hwp_core_rule.proofs.ListDrops.{each-without, sum-without}
use Rattle.hwp_core_rule.proofs.WordsByKind.{word-there}
use Rattle.hwp_core_rule.proofs.bounds.LossBounds.{losses-poisoned}
use Rattle.hwp_core_rule.proofs.bounds.MarkBounds.{mark_limit, poisonings-few}
use Rattle.hwp_core_rule.specs.declared.step.Step.TheVariants as steps
use Rattle.hwp_core_rule.proofs.PartKeeps
use Rattle.hwp_core_rule.proofs.HeldEntries

-- the view owes a loss of the file less
abbrev losing_less : FileNo → View → View
losing_less file v = record v { owed = record v.owed { losses = without (λ (n : FileNo). n.0 == file.0) v.owed.losses } }

-- a loss of the file that the view owes is counted
module _ (layout : Layout) (w : Words) (homes : Homes) (views : List View) (seat : ℕ) (v : View) (file : FileNo) (found place : ℕ) (owed : FileNo)
    (me : slice_get views seat ≡ Some v) (standing : slice_get w.losses file.0 ≡ Some found) (there : slice_get v.owed.losses place ≡ Some owed) (test : (owed.0 == file.0) ≡ true)
    (poisoned : IsPoisonLoss (losing_of (losing_less file v))) (h : FrameRule layout w homes views) where
  abbrev u : View
  u = losing_less file v

  abbrev losings : List Losing
  losings = map losing_of views

  abbrev bodies : List (List InHand)
  bodies = map (λ (v : View). v.bodies) views

  my-losing : slice_get losings seat ≡ Some (losing_of v)
  my-losing = at_map losing_of views seat v me

  owes-less : (f : FileNo) → owed_of f (losing_of u) + from_bool (file.0 == f.0) ≡ owed_of f (losing_of v)
  owes-less f = sum-without (λ (n : FileNo). from_bool (n.0 == f.0)) (λ (n : FileNo). n.0 == file.0) (from_bool (file.0 == f.0)) v.owed.losses place owed there test
      (λ n is. ap (λ (k : ℕ). from_bool (k == f.0)) (eqb-true n.0 file.0 is))

  balance : (f : FileNo) (x : ℕ) → slice_get (set w.losses file.0 (found + 1)) f.0 ≡ Some x
      → x + sum_by (owed_of f) (set losings seat (losing_of u)) ≡ sum_bodies (losses_of layout f) homes bodies
  balance f x at =
      let owes : sum_by (owed_of f) (set losings seat (losing_of u)) + owed_of f (losing_of v) ≡ sum_by (owed_of f) losings + owed_of f (losing_of u) =
      sum-set (owed_of f) losings seat (losing_of v) (losing_of u) my-losing in
      let less : owed_of f (losing_of u) + from_bool (file.0 == f.0) ≡ owed_of f (losing_of v) = owes-less f in
      elim (at_set w.losses file.0 f.0 (found + 1) x at) [
        | inl this ↦
            let now : found + 1 ≡ x = this.1 in
            let one : from_bool (file.0 == f.0) ≡ 1 = ap from_bool (eq-eqb file.0 f.0 (sym this.0)) in
            let was : found + sum_by (owed_of f) losings ≡ sum_bodies (losses_of layout f) homes bodies =
            h.histories.losses.balance f found (ap (slice_get w.losses) this.0 ∙ standing) in
            omega arith
        | inr another ↦
            let none : from_bool (file.0 == f.0) ≡ 0 = ap from_bool (ne_eqb file.0 f.0 (λ e. another.0 (sym e))) in
            let was : x + sum_by (owed_of f) losings ≡ sum_bodies (losses_of layout f) homes bodies = h.histories.losses.balance f x another.1 in
            omega arith
      ]

  owing : (f : FileNo) → EachMember (λ (o : Losing). owed_of f o ≤ made_of layout f o) (set losings seat (losing_of u))
  owing f =
      let was : owed_of f (losing_of v) ≤ made_of layout f (losing_of v) = h.histories.losses.owing f seat (losing_of v) my-losing in
      let less : owed_of f (losing_of u) + from_bool (file.0 == f.0) ≡ owed_of f (losing_of v) = owes-less f in
      let same : made_of layout f (losing_of u) ≡ made_of layout f (losing_of v) = refl in
      each-set (λ (o : Losing). owed_of f o ≤ made_of layout f o) losings seat (losing_of u) (omega (arith, was, less, same)) (h.histories.losses.owing f)

  -- the word rises
  shown : (f : FileNo) (x : ℕ) → slice_get (set w.losses file.0 (found + 1)) f.0 ≡ Some x → EachListed (IsSeenLoss f x) (map (λ (v : View). v.sights) views)
  shown f x at i list listed j s is place = elim (at_set w.losses file.0 f.0 (found + 1) x at) [
    | inl this ↦
        let now : found + 1 ≡ x = this.1 in
        let was : s.word ≤ found = h.histories.losses.shown f found (ap (slice_get w.losses) this.0 ∙ standing) i list listed j s is place in
        omega (arith, now, was)
    | inr another ↦ h.histories.losses.shown f x another.1 i list listed j s is place
  ]

  pub keeps-counted : FrameRule layout (record w { losses = set w.losses file.0 (found + 1) }) homes (set views seat u)
  keeps-counted = record {
    frames = PartKeeps.same-frames views seat v u me refl h.frames;
    pages = PartKeeps.same-pages views seat v u me refl h.pages;
    histories = record {
      entries = PartKeeps.kept-entries views seat v u me refl refl refl refl h.histories.entries;
      endings = PartKeeps.kept-endings views seat v u me refl refl h.histories.endings;
      losses = keep (λ (v : View). v.sights) (λ l. LossesBalance layout (set w.losses file.0 (found + 1)) homes (map (λ (v : View). v.bodies) (set views seat u)) (map losing_of (set views seat u)) l) views seat v u me refl
          (keep (λ (v : View). v.bodies) (λ l. LossesBalance layout (set w.losses file.0 (found + 1)) homes l (map losing_of (set views seat u)) (map (λ (v : View). v.sights) views)) views seat v u me refl
          (change losing_of (λ l. LossesBalance layout (set w.losses file.0 (found + 1)) homes bodies l (map (λ (v : View). v.sights) views)) views seat u (record {
            balance = balance;
            owing = owing;
            shown = shown;
            declared = each-set (λ (o : Losing). EachMember (λ (n : FileNo). n.0 < layout.files) o.owed) losings seat (losing_of u)
                (each-without (λ (n : FileNo). n.0 < layout.files) (λ (n : FileNo). n.0 == file.0) v.owed.losses (h.histories.losses.declared seat (losing_of v) my-losing)) h.histories.losses.declared;
            poisoned = each-set IsPoisonLoss losings seat (losing_of u) poisoned h.histories.losses.poisoned;
          })));
    };
    failures = PartKeeps.same-failures views seat v u me refl h.failures;
    processors = PartKeeps.same-processors views seat v u me refl h.processors;
  }

module _ (layout : Layout) (w : Words) (homes : Homes) (views : List View) (seat : ℕ) (v : View) (who : Who) (file : FileNo) (log : Log)
    (me : slice_get views seat ≡ Some v) (past : IsPast v.parts who) (turn : IsTurnOf v who) (sound : IsSound layout) (shaped : IsShaped layout w homes) (less : file.0 < layout.files)
    (h : FrameRule layout w homes views) (can : CanLose layout who v file log) where
  abbrev found : ℕ
  found = slice_index w.losses file.0

  within : log.page.0 < length layout.pages
  within = behind-within layout log.page file can.behind

  abbrev same : List Proc → List Proc
  same l = l

  abbrev after : View
  after = HeldEntries.after layout w homes views seat v who log same me past turn within sound h can.page_held can.extends

  listed-is : listed layout who log v ≡ after
  listed-is = HeldEntries.listed-is layout w homes views seat v who log same me past turn within sound h can.page_held can.extends

  rule : FrameRule layout w homes (set views seat after)
  rule = HeldEntries.keeps-renewed layout w homes views seat v who log same me past turn within sound h can.page_held can.extends (λ l each. each)

  owed : SomeMember (λ (n : FileNo). n ≡ file) after.owed.losses
  owed = subst (λ (x : View). SomeMember (λ (n : FileNo). n ≡ file) x.owed.losses) listed-is can.owed

  counted : FrameRule layout (record w { losses = set w.losses file.0 (found + 1) }) homes (set views seat (losing_less file after))
  counted = subst (FrameRule layout (record w { losses = set w.losses file.0 (found + 1) }) homes) (set-set views seat after (losing_less file after))
      (keeps-counted layout w homes (set views seat after) seat after file found owed.0 owed.1 (set_here views seat after v me) (word-there w.losses file.0 layout.files shaped.losses less)
      owed.2 (eq-eqb owed.1.0 file.0 (ap (λ (n : FileNo). n.0) owed.3)) (subst (λ (x : View). IsPoisonLoss (losing_of (losing_less file x))) listed-is can.poisoned) rule)

  -- the word has room for the loss
  no-wrap : (found + 1) % 2 ^ 64 ≡ found + 1
  no-wrap =
      let one : found ≤ sum_below (slice_index w.losses) layout.files = below-term (slice_index w.losses) layout.files file.0 less in
      let all : sum_below (slice_index w.losses) layout.files ≤ sum_by (λ (v : View). sum_by (λ (m : Mark). from_bool (is_poisoning m.kind)) v.marks) views = losses-poisoned layout w homes views shaped.losses h in
      let few : sum_all (λ (m : Mark). from_bool (is_poisoning m.kind)) (map (λ (v : View). v.marks) views) ≤ mark_limit = poisonings-few layout w homes views sound shaped.frames h in
      let same : sum_all (λ (m : Mark). from_bool (is_poisoning m.kind)) (map (λ (v : View). v.marks) views) ≡ sum_by (λ (v : View). sum_by (λ (m : Mark). from_bool (is_poisoning m.kind)) v.marks) views =
      sum-map (sum_by (λ (m : Mark). from_bool (is_poisoning m.kind))) (λ (v : View). v.marks) views in
      omega arith

  pub keeps-losing : FrameRule layout (record w { losses = set w.losses file.0 ((found + 1) % 2 ^ 64) }) homes (set views seat (lost_by layout who file log v))
  keeps-losing = subst (λ (n : ℕ). FrameRule layout (record w { losses = set w.losses file.0 n }) homes (set views seat (lost_by layout who file log v))) (sym no-wrap)
      (subst (λ (x : View). FrameRule layout (record w { losses = set w.losses file.0 (found + 1) }) homes (set views seat (losing_less file x))) (sym listed-is) counted)

pub keeps-lose : (file : FileNo) (body : Snapshot BodyValue) → Keeps (steps.Lose file body)
keeps-lose file body layout w homes views seat v who content given =
    keeps-losing layout w homes views seat v who file (log_of body.value) given.me given.past given.turn given.sound given.shaped given.place given.rule given.asks
