-- One turn keeps what the scheduler needs; one of the chosen processor lowers the rank.
use Rattle.std.proofs.Common.{◌≡◌, ◌≢◌, ℕ, ◌<◌, ◌≤◌, ◌⊎◌, inl, inr, Bool, true, false, List, length, get_or, set, Option, Some, None, refl, sym, ap, ◌∙◌, subst, arith}
use Rattle.std.proofs.lemmas.Bool.{cases_eq}
use Rattle.std.proofs.lemmas.List.{get_or-set_same, get_or-set_other, length-set}
use Rattle.hwp_script_words.specs.hwp_geom.declared.Cpu.{Cpu}
use Rattle.hwp_script_words.specs.hwp_geom.declared.Frame.{Frame}
use Rattle.hwp_script_words.specs.hwp_geom.declared.Layout.{Layout}
use Rattle.hwp_script_words.specs.hwp_geom.Limits.{cpu_limit}
use Rattle.hwp_core_rule.specs.declared.Step.{Step}
use Rattle.hwp_core_rule.specs.declared.View.{View}
use Rattle.hwp_core_rule.specs.Rule.{Holds}
use Rattle.hwp_core_rule.specs.declared.Turn.{Turn}
use Rattle.hwp_core_rule.specs.declared.Turn.TheVariants as turns
use Rattle.hwp_core_rule.specs.Boards.{Played, view_of, AreSeated}
use Rattle.hwp_core_rule.specs.Ranks.{CostFalls, HasFailed, OtherHand, Pending, cpu_room, failure_room, failures_left, is_refused, is_waits, top, words_at}
use Rattle.hwp_core_rule.specs.Turns.{Member}
use Rattle.hwp_core_rule.specs.Classes.{IsScheduled}
use Rattle.hwp_core_rule.proofs.tasks.Failures.{failures-few}
use Rattle.hwp_plain.specs.Order.{Running, IsAt, IsNoMemory, TurnOf, levels, IsChosen, cpu_of, seat_of}
use Rattle.hwp_plain.specs.Rank.{words_in, phi, has_one, stage, is_none, over_at, aborts_at, cost_at, need_at, ceiling, number_of, rank}
use Rattle.hwp_plain.specs.Ready.{AreLevels, Claimed, Ready, IsNext}
use Rattle.hwp_plain.proofs.Seats.{few-tasks}
use Rattle.hwp_plain.proofs.Gaps.{phi-stays, phi-falls, has_one-at, stage-most, stage-over, stage-going, stage-stays, stage-leaves, number-by-phi, number-by-stage, number-by-cost}
use Rattle.hwp_plain.proofs.Chosen.{abort-same, task-at, value-at, IsAt-set, IsAt-other, IsAt-before, IsAt-same, planned-going, class-left, frame-level, quiet, level-array, chosen-level}

-- a turn for which memory wasn't refused
not-refused : (turn : Turn) → (IsNoMemory turn → ⊥) → is_refused turn ≡ false
not-refused turns.NoMemory going = absurd (going tt)
not-refused turn going = refl

module _ {S : Type 0} (m : Member S) (a b : Running S) (p : ℕ) (played : Played) (ready : Ready m a) (turn : TurnOf m a p played b) where
  pub law-of : IsScheduled m
  law-of = ready.law (omega (arith, turn.at.within))

  layout_is : b.layout ≡ a.layout
  layout_is = ap (λ (x : Running S). x.layout) turn.next

  tasks_are : b.tasks ≡ set a.tasks p turn.after
  tasks_are = ap (λ (x : Running S). x.tasks) turn.next

  same_length : length b.tasks ≡ length a.tasks
  same_length = ap length tasks_are ∙ length-set a.tasks p turn.after

  -- the task of the processor after its turn
  pub at-after : IsAt b.tasks p turn.after
  at-after = subst (λ (ts : List S). IsAt ts p turn.after) (sym tasks_are) (IsAt-set a.tasks p turn.after turn.at.within)

  -- the others' tasks
  back : (i : ℕ) (u : S) → i ≢ p → IsAt b.tasks i u → IsAt a.tasks i u
  back i u ne at = IsAt-before a.tasks p i turn.after u ne (subst (λ (ts : List S). IsAt ts i u) tasks_are at)

  apart : (i : ℕ) → i < length a.tasks → i ≢ p → seat_of a i ≢ seat_of a p
  apart i within ne same = ne (ap (λ (c : Cpu). c.0) (ready.seats.apart (cpu_of i) (cpu_of p) (omega (arith, within, ready.crew.count)) (omega (arith, turn.at.within, ready.crew.count)) same))

  -- a turn of any processor keeps what the scheduler needs
  pub ready-after : AreSeated b.layout b.state b.seat → ((u : S) → IsAt b.tasks p u → ((m.who u).cpu ≡ cpu_of p) × m.fits b.layout (view_of b.state (seat_of b p)) u)
      → ((s : ℕ) → s ≢ seat_of a p → view_of b.state s ≡ view_of a.state s) → Ready m b
  ready-after seats mine others = record {
    law = λ some. law-of;
    rule = subst (λ (l : Layout). Holds l b.state) (sym layout_is) turn.made.kept;
    seats = seats;
    crew = record {
      count = same_length ∙ ready.crew.count ∙ sym (ap (λ (l : Layout). l.cpus) layout_is);
      own = λ i u at. own-by i u at (cases_eq i p);
      fits = λ i u at. fits-by i u at (cases_eq i p);
      claimed = λ frame cycle pending. claimed-by frame cycle
          (law-of.ranked.owns a.layout (seat_of a p) a.state b.state turn.before turn.after played.turn frame cycle turn.made (not-refused played.turn turn.goes_on) (subst (λ (l : Layout). Pending (words_at l b.state) frame cycle) layout_is pending));
    };
  }
    where
      own-by : (i : ℕ) (u : S) → IsAt b.tasks i u → (i ≡ p) ⊎ (i ≢ p) → (m.who u).cpu ≡ cpu_of i
      own-by i u at (inl same) = subst (λ (k : ℕ). (m.who u).cpu ≡ cpu_of k) (sym same) (mine u (subst (λ (k : ℕ). IsAt b.tasks k u) same at)).0
      own-by i u at (inr ne) = ready.crew.own i u (back i u ne at)

      fits-by : (i : ℕ) (u : S) → IsAt b.tasks i u → (i ≡ p) ⊎ (i ≢ p) → m.fits b.layout (view_of b.state (seat_of b i)) u
      fits-by i u at (inl same) = subst (λ (k : ℕ). m.fits b.layout (view_of b.state (seat_of b k)) u) (sym same) (mine u (subst (λ (k : ℕ). IsAt b.tasks k u) same at)).1
      fits-by i u at (inr ne) = subst (λ (x : Running S). m.fits x.layout (view_of b.state (seat_of x i)) u) (sym turn.next)
          (subst (λ (v : View). m.fits a.layout v u) (sym (others (seat_of a i) (apart i (back i u ne at).within ne))) (ready.crew.fits i u (back i u ne at)))

      other : (frame : Frame) (cycle : ℕ) → m.claims turn.before ≢ Some (frame, cycle) → Claimed m a.tasks frame cycle → Claimed m b.tasks frame cycle
      other frame cycle dropped k = record {
        cpu = k.cpu;
        task = k.task;
        claims = k.claims;
        at = subst (λ (ts : List S). IsAt ts k.cpu k.task) (sym tasks_are)
            (IsAt-other a.tasks p k.cpu turn.after k.task
            (λ same. dropped (ap m.claims (IsAt-same a.tasks p turn.before k.task turn.at (subst (λ (j : ℕ). IsAt a.tasks j k.task) same k.at)) ∙ k.claims)) k.at);
      }

      claimed-by : (frame : Frame) (cycle : ℕ) → (m.claims turn.after ≡ Some (frame, cycle)) ⊎ (Pending (words_in a) frame cycle × (m.claims turn.before ≢ Some (frame, cycle))) → Claimed m b.tasks frame cycle
      claimed-by frame cycle (inl own) = record { cpu = p; task = turn.after; at = at-after; claims = own }
      claimed-by frame cycle (inr was) = other frame cycle was.1 (ready.crew.claimed frame cycle was.0)

  cost-was : cost_at m a.tasks (words_in a) p ≡ m.cost turn.before (words_at a.layout a.state)
  cost-was = value-at (λ (x : S). m.cost x (words_in a)) a.tasks p turn.before 0 turn.at

  cost-now : cost_at m b.tasks (words_in b) p ≡ m.cost turn.after (words_at a.layout b.state)
  cost-now = value-at (λ (x : S). m.cost x (words_in b)) b.tasks p turn.after 0 at-after ∙ ap (λ (l : Layout). m.cost turn.after (words_at l b.state)) layout_is

  words-now : failures_left (words_in b) ≡ failures_left (words_at a.layout b.state)
  words-now = ap (λ (l : Layout). failures_left (words_at l b.state)) layout_is

  -- what it may need falls with the cost of its task, which pays for what may fail again, and where one failure fewer is left
  by-less : CostFalls m a.layout a.state b.state turn.before turn.after → need_at m b.tasks (words_in b) p < need_at m a.tasks (words_in a) p
  by-less fall = elim (law-of.pays a.layout (seat_of a p) a.state b.state turn.before turn.after played.turn turn.made) [
    | inl stay ↦ omega (arith, cost-now, cost-was, words-now, fall, stay)
    | inr paid ↦ omega (arith, cost-now, cost-was, words-now, paid)
  ]

  by-failure : HasFailed m a.layout a.state b.state turn.before turn.after → need_at m b.tasks (words_in b) p < need_at m a.tasks (words_in a) p
  by-failure fails = omega (arith, cost-now, cost-was, words-now, fails.fewer, fails.bounded)

  -- in any turn that doesn't wait, it falls
  pub need-falls : is_waits played.turn ≡ false → need_at m b.tasks (words_in b) p < need_at m a.tasks (words_in a) p
  need-falls going = elim (law-of.ranked.falls a.layout (seat_of a p) a.state b.state turn.before turn.after played.turn turn.made going) [
    | inl fall ↦ by-less fall
    | inr fails ↦ by-failure fails
  ]

-- needs are below the ceiling
need-small : {S : Type 0} (m : Member S) (a : Running S) (p : ℕ) → IsScheduled m → Ready m a → p < length a.tasks → need_at m a.tasks (words_in a) p < ceiling
need-small {S} m a p law ready h =
    let few : failures_left (words_at a.layout a.state) ≤ failure_room = failures-few a.layout a.state ready.rule in
    let below : m.cost u.0 (words_at a.layout a.state) < top = law.ranked.small a.layout a.state (seat_of a p) u.0 ready.rule (ready.crew.fits p u.0 u.1) in
    omega (arith, value-at (λ (x : S). m.cost x (words_in a)) a.tasks p u.0 0 u.1, few, below)
  where
    u : (s : S) × IsAt a.tasks p s
    u = task-at a.tasks p h

few-levels : {S : Type 0} (m : Member S) (a : Running S) (ls : List ℕ) → Ready m a → AreLevels m a.tasks ls → length ls ≤ cpu_room
few-levels m a ls ready are = let most : length a.tasks ≤ cpu_limit = few-tasks a.layout (length a.tasks) ready.rule.sound ready.crew.count in omega (arith, most, are.count)

-- a task that is over is found out: its place gets the level above all classes, and that lowers the rank
pub none-lowers : {S : Type 0} (m : Member S) (a : Running S) (p : ℕ) (ls : List ℕ) (q : Option ℕ)
    → Ready m a → AreLevels m a.tasks ls → IsChosen ls p → IsNext (set ls p 5) q → rank m a (set ls p 5) q < rank m a ls (Some p)
none-lowers m a p ls q ready are chosen next = by q next
  where
    stage-a : ℕ
    stage-a = stage (over_at m a.tasks p) (aborts_at m a.tasks p) ls p

    some : (1 ≤ stage-a) × (stage-a ≤ 3)
    some = stage-most (over_at m a.tasks p) (aborts_at m a.tasks p) ls p

    differs : (i : ℕ) → IsChosen (set ls p 5) i → i ≢ p
    differs i again same = omega (arith, again.going, ap (λ (k : ℕ). get_or (set ls p 5) k 5) same, get_or-set_same ls p 5 5 chosen.within)

    by : (r : Option ℕ) → IsNext (set ls p 5) r → rank m a (set ls p 5) r < number_of (phi ls p) stage-a (need_at m a.tasks (words_in a) p)
    by None over = omega (arith, some.0)
    by (Some i) again = number-by-phi (phi ls p) (phi (set ls p 5) i) stage-a (stage (over_at m a.tasks i) (aborts_at m a.tasks i) (set ls p 5) i) (need_at m a.tasks (words_in a) p) (need_at m a.tasks (words_in a) i)
        (phi-falls ls p 5 i chosen.within (few-levels m a ls ready are) (differs i again) again) some.0 (stage-most (over_at m a.tasks i) (aborts_at m a.tasks i) (set ls p 5) i).1
        (need-small m a i (ready.law (omega (arith, chosen.within, are.count))) ready (omega (arith, again.within, length-set ls p 5, are.count)))

-- THE TURN OF THE CHOSEN ONE LOWERS THE RANK
pub turn-lowers : {S : Type 0} (m : Member S) (a b : Running S) (p : ℕ) (played : Played) (ls : List ℕ) (y : ℕ) (q : Option ℕ)
    → Ready m a → Ready m b → AreLevels m a.tasks ls → AreLevels m b.tasks (set ls p y) → IsChosen ls p → TurnOf m a p played b → IsNext (set ls p y) q
    → rank m b (set ls p y) q < rank m a ls (Some p)
turn-lowers {S} m a b p played ls y q ready ready-b are are-b chosen turn next = by q next
  where
    law : IsScheduled m
    law = law-of m a b p played ready turn

    h : p < length ls
    h = chosen.within

    small : (i : ℕ) → i < length a.tasks → need_at m b.tasks (words_in b) i < ceiling
    small i g = need-small m b i law ready-b (omega (arith, g, same_length m a b p played ready turn))

    aborting : aborts_at m a.tasks p ≡ m.aborts turn.before
    aborting = value-at m.aborts a.tasks p turn.before false turn.at

    going : m.plan turn.before ≢ None
    going = planned-going (m.plan turn.before) turn.made.step turn.made.planned

    on : over_at m a.tasks p ≡ false
    on = value-at (λ (x : S). is_none (m.plan x)) a.tasks p turn.before false turn.at ∙ ap is_none turn.made.planned

    stage-a : ℕ
    stage-a = stage (over_at m a.tasks p) (aborts_at m a.tasks p) ls p

    need-a : ℕ
    need-a = need_at m a.tasks (words_in a) p

    stage-b : ℕ → ℕ
    stage-b i = stage (over_at m b.tasks i) (aborts_at m b.tasks i) (set ls p y) i

    most : (i : ℕ) → stage-b i ≤ 3
    most i = (stage-most (over_at m b.tasks i) (aborts_at m b.tasks i) (set ls p y) i).1

    rank-b : ℕ → ℕ
    rank-b i = number_of (phi (set ls p y) i) (stage-b i) (need_at m b.tasks (words_in b) i)

    some : 2 ≤ stage-a
    some = stage-going (over_at m a.tasks p) (aborts_at m a.tasks p) ls p on

    at : IsAt b.tasks p turn.after
    at = at-after m a b p played ready turn

    left : m.plan turn.after ≢ None → m.aborts turn.before ≡ true → 1 < y
    left goes aborts = omega (
      arith,
      class-left (m.plan turn.after) (m.class turn.after) goes (law.ranked.leaves a.layout (seat_of a p) a.state b.state turn.before turn.after played.turn turn.made aborts),
      are-b.class p turn.after at goes,
      get_or-set_same ls p y 5 h,
    )

    -- where p is chosen again and isn't over, it had nobody to leave its class to
    three : IsChosen (set ls p y) p → m.plan turn.after ≢ None → stage-a ≡ 3
    three again goes = stage-stays (over_at m a.tasks p) (aborts_at m a.tasks p) ls p on (λ aborts first. abort-same ls p y h first (left goes (sym aborting ∙ aborts)) again)

    -- the other whose hand a step met has class 1
    met : OtherHand a.state (seat_of a p) → has_one (set (set ls p y) p 5) ≡ true
    met o = has_one-at (set (set ls p y) p 5) f.0 (rw (length-set, length-set) within)
        (get_or-set_other (set ls p y) p f.0 5 5 differs ∙ (get_or-set_other ls p f.0 y 5 differs ∙ (level-array m a.tasks ls are f.0 f.1 (omega (arith, f.3)) ∙ f.3)))
      where
        f : (cpu : ℕ) × (cpu < length a.tasks) × (o.other ≡ seat_of a cpu) × (get_or (levels m a.tasks) cpu 5 ≡ 1)
        f = frame-level m a o.other law ready (inr (inl o.has))

        differs : f.0 ≢ p
        differs same = o.differs (f.2 ∙ ap (λ (k : ℕ). seat_of a k) same)

        within : f.0 < length ls
        within = omega (arith, f.1, are.count)

    by-need : IsChosen (set ls p y) p → m.plan turn.after ≢ None → need_at m b.tasks (words_in b) p < need_at m a.tasks (words_in a) p → rank-b p < number_of (phi ls p) stage-a need-a
    by-need again goes fall = number-by-cost (phi ls p) (phi (set ls p y) p) stage-a (stage-b p) need-a (need_at m b.tasks (words_in b) p)
        (phi-stays ls p y h) (omega (arith, three again goes, most p)) fall

    by-stage : stage-b p < stage-a → rank-b p < number_of (phi ls p) stage-a need-a
    by-stage less = number-by-stage (phi ls p) (phi (set ls p y) p) stage-a (stage-b p) need-a (need_at m b.tasks (words_in b) p) (phi-stays ls p y h) less (small p turn.at.within)

    leaves : m.aborts turn.after ≡ true → has_one (set (set ls p y) p 5) ≡ true → stage-b p ≤ 2
    leaves aborts one = stage-leaves (over_at m b.tasks p) (aborts_at m b.tasks p) (set ls p y) p (value-at m.aborts b.tasks p turn.after false at ∙ aborts) one

    by-waits : IsChosen (set ls p y) p → m.plan turn.after ≢ None → CostFalls m a.layout a.state b.state turn.before turn.after ⊎ ((m.aborts turn.after ≡ true) × OtherHand a.state (seat_of a p)) → rank-b p < number_of (phi ls p) stage-a need-a
    by-waits again goes (inl fall) = by-need again goes (by-less m a b p played ready turn fall)
    by-waits again goes (inr hand) = by-stage (omega (arith, three again goes, leaves hand.0 (met hand.1)))

    by-turn : IsChosen (set ls p y) p → m.plan turn.after ≢ None → (w : Bool) → is_waits played.turn ≡ w → rank-b p < number_of (phi ls p) stage-a need-a
    by-turn again goes false is = by-need again goes (need-falls m a b p played ready turn is)
    by-turn again goes true is = by-waits again goes (law.ranked.waits a.layout (seat_of a p) a.state b.state turn.before turn.after played.turn turn.made is
        (quiet m a p turn.before turn.made.step law ready (chosen-level m a.tasks ls are p turn.before chosen turn.at going) turn.at turn.made.planned))

    last : m.plan turn.after ≡ None → stage-b p ≡ 1
    last over = stage-over (over_at m b.tasks p) (aborts_at m b.tasks p) (set ls p y) p (value-at (λ (x : S). is_none (m.plan x)) b.tasks p turn.after false at ∙ ap is_none over)

    -- p again: it is over, or goes on
    by-same : IsChosen (set ls p y) p → (o : Option Step) → m.plan turn.after ≡ o → rank-b p < number_of (phi ls p) stage-a need-a
    by-same again None over = by-stage (omega (arith, some, last over))
    by-same again (Some step) planned = by-turn again (planned-going (m.plan turn.after) step planned) (is_waits played.turn) refl

    by-next : (i : ℕ) → IsChosen (set ls p y) i → (i ≡ p) ⊎ (i ≢ p) → rank-b i < number_of (phi ls p) stage-a need-a
    by-next i again (inl same) = subst (λ (k : ℕ). rank-b k < number_of (phi ls p) stage-a need-a) (sym same)
        (by-same (subst (λ (k : ℕ). IsChosen (set ls p y) k) same again) (m.plan turn.after) refl)
    by-next i again (inr ne) = number-by-phi (phi ls p) (phi (set ls p y) i) stage-a (stage-b i) need-a (need_at m b.tasks (words_in b) i)
        (phi-falls ls p y i h (few-levels m a ls ready are) ne again) (omega (arith, some)) (most i)
        (small i (omega (arith, again.within, length-set ls p y, are.count)))

    by : (r : Option ℕ) → IsNext (set ls p y) r → rank m b (set ls p y) r < number_of (phi ls p) stage-a need-a
    by None over = omega (arith, some)
    by (Some i) again = by-next i again (cases_eq i p)
