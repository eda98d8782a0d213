-- What one turn of the scheduler makes.
use Rattle.std.proofs.Common.{◌≡◌, ◌≢◌, ℕ, ◌<◌, ◌⊎◌, inl, inr, List, map, length, take, get_or, set, false, Option, Some, None, refl, sym, ap, ◌∙◌, subst, arith}
use Rattle.std.proofs.lemmas.Bool.{cases_eq}
use Rattle.std.proofs.lemmas.List.{get_or-set_same, get_or-set_other, length-map, length-set, set-get_or}
use Rattle.std.proofs.Math.Seq.{take-set-lt}
use Rattle.hwp_script_words.specs.hwp_geom.declared.Cpu.{Cpu}
use Rattle.hwp_script_words.specs.hwp_geom.declared.Kind.{Kind}
use Rattle.hwp_script_words.specs.hwp_geom.declared.Layout.{Layout}
use Rattle.hwp_core_rule.specs.declared.State.{State}
use Rattle.hwp_core_rule.specs.declared.Step.{Step}
use Rattle.hwp_core_rule.specs.Rule.{Holds}
use Rattle.hwp_script_words.specs.hwp_geom.Limits.{cpu_limit}
use Rattle.hwp_script_words.specs.declared.Go.{Go}
use Rattle.hwp_script_words.specs.declared.Until.{Until}
use Rattle.hwp_script_words.specs.declared.Until.TheVariants as untils
use Rattle.hwp_core_rule.specs.declared.Turn.{Turn}
use Rattle.hwp_core_rule.specs.declared.Turn.TheVariants as turns
use Rattle.hwp_core_rule.specs.Boards.{Played, TakesTurn, TakesTurnBy, view_of, AreSeated}
use Rattle.hwp_core_rule.specs.Calls.{logs, rec_of}
use Rattle.hwp_core_rule.specs.Ranks.{is_waits}
use Rattle.hwp_core_rule.specs.Turns.{Member}
use Rattle.hwp_plain.specs.Order.{Running, running, IsAt, IsNoMemory, IsOver, IsRefused, EndsCommand, Word, Grows, EndsWord, Finishing, told_of, IsChosen, cpu_of, seat_of}
use Rattle.hwp_plain.specs.Rank.{words_in, rank, need_at}
use Rattle.hwp_plain.specs.Ready.{AreLevels, InPlay, IsFinished, IsNext, NoneTold, Ready, TurnOrNone, TurnOrOver, TurnTold}
use Rattle.hwp_plain.proofs.Chosen.{value-at, IsAt-set, IsAt-before, IsAt-same, planned-going, chosen-level}
use Rattle.hwp_plain.proofs.RankFalls.{ready-after, none-lowers, turn-lowers, need-falls}
use Rattle.hwp_plain.proofs.ScheduleTells.{SoFar, finish-same, finish-more, word-more, word-last, word-over}

-- a read is read again
pub read-again : {S : Type 0} (tasks : List S) (p : ℕ) (d : S) → d ≡ get_or tasks p d → get_or tasks p d ≡ get_or tasks p (get_or tasks p d)
read-again tasks p d is = ap (get_or tasks p) is

-- a task is over, by what it tells itself
pub task-done : {S : Type 0} (m : Member S) (tasks : List S) (p : ℕ) (s : S) → p < length tasks → s ≡ get_or tasks p s → m.plan s ≡ None → IsOver m tasks p
task-done m tasks p s h is over t at = ap m.plan (IsAt-same tasks p t s at (record { within = h; is = sym is })) ∙ over

module _ {S : Type 0} (m : Member S) (layout layout2 : Layout) (seat seat2 : Cpu → ℕ) (tasks : List S) (a b : State) (was now : List Played) (p : ℕ) (s t : S) (result : Turn × Option Kind)
    (ready : Ready m (running layout seat tasks a)) (h : p < length tasks) (is : s ≡ get_or tasks p s)
    (taken : TakesTurn m layout (seat (cpu_of p)) a b was now s t result) where
  at : IsAt tasks p s
  at = record { within = h; is = sym is }

  -- a turn of a task that wasn't refused memory makes a step, or none where the task is over
  pub turn-told : (layout2 ≡ layout) × (seat2 ≡ seat) → Holds layout2 b → (IsNoMemory result.0 → ⊥) → TurnOrNone m (running layout seat tasks a) p was now result (running layout2 seat2 (set tasks p t) b)
  turn-told same rule went = by (m.plan s) refl taken
    where
      by : (o : Option Step) → m.plan s ≡ o → TakesTurnBy m layout (seat (cpu_of p)) o a b was now s t result
          → TurnOrNone m (running layout seat tasks a) p was now result (running layout2 seat2 (set tasks p t) b)
      by None over made = inl (record {
        over = task-done m tasks p s h is over;
        board = λ i. record { layout = same.0 i; seat = same.1 i; tasks = (ap (set tasks p) (made.task ∙ is) ∙ set-get_or tasks p s) i; state = made.board i };
        log = made.log;
        told_is = made.finished;
      })
      by (Some step) planned made = inr (record {
        played = record { seat = seat (cpu_of p); made = rec_of layout (m.who s) step (logs (m.put s)) made.found made.got; turn = result.0 };
        logged = made.logged;
        told_is = ap (λ (k : Option Kind). (result.0, k)) made.kind;
        turn = record {
          before = s;
          after = t;
          at = at;
          next = λ i. record { layout = same.0 i; seat = same.1 i; tasks = set tasks p t; state = b };
          listed = refl;
          goes_on = went;
          made = record {
            step = step;
            found = made.found;
            got = made.got;
            rule = ready.rule;
            kept = subst (λ (l : Layout). Holds l b) same.0 rule;
            fits = ready.crew.fits p s at;
            planned = planned;
            move = made.move;
            brings = made.brings;
            follows = made.follows;
          };
        };
      })

  -- one that was refused memory is the newest of the log
  pub turn-refused : IsNoMemory result.0 → IsRefused now
  turn-refused refused = by (m.plan s) refl taken
    where
      by : (o : Option Step) → m.plan s ≡ o → TakesTurnBy m layout (seat (cpu_of p)) o a b was now s t result → IsRefused now
      by None over made = absurd (subst IsNoMemory (ap (λ (k : Turn × Option Kind). k.0) made.finished) refused)
      by (Some step) planned made = subst IsRefused (sym made.logged) refused

-- and the tasks go on
pub ready-told : {S : Type 0} (m : Member S) (a b : Running S) (p : ℕ) (t : S) (was now : List Played) (told : Turn × Option Kind)
    → Ready m a → p < length a.tasks → TurnOrNone m a p was now told b → AreSeated b.layout b.state b.seat → (m.who t).cpu ≡ cpu_of p
    → m.fits b.layout (view_of b.state (seat_of b p)) t → ((s : ℕ) → s ≢ seat_of a p → view_of b.state s ≡ view_of a.state s)
    → b.tasks ≡ set a.tasks p t → Ready m b
ready-told {S} m a b p t was now told ready h (inl none) seats own fits others changed = subst (Ready m) (sym none.board) ready
ready-told {S} m a b p t was now told ready h (inr made) seats own fits others changed = ready-after m a b p made.played ready made.turn seats mine others
  where
    after : IsAt (set a.tasks p t) p t
    after = IsAt-set a.tasks p t h

    mine : (x : S) → IsAt b.tasks p x → ((m.who x).cpu ≡ cpu_of p) × m.fits b.layout (view_of b.state (seat_of b p)) x
    mine x at = subst (λ (z : S). ((m.who z).cpu ≡ cpu_of p) × m.fits b.layout (view_of b.state (seat_of b p)) z)
        (IsAt-same (set a.tasks p t) p t x after (subst (λ (ts : List S). IsAt ts p x) changed at)) (own, fits)

-- the array of levels with a new one, as far as there are tasks
array-after : {S : Type 0} (a b : Running S) (ls : List ℕ) (p y : ℕ) → p < length a.tasks → length b.tasks ≡ length a.tasks → take (length b.tasks) (set ls p y) ≡ set (take (length a.tasks) ls) p y
array-after a b ls p y h count = ap (λ (n : ℕ). take n (set ls p y)) count ∙ take-set-lt (length a.tasks) ls p y h

-- the others' tasks stay
others-stay : {S : Type 0} (m : Member S) (a b : Running S) (p : ℕ) (was now : List Played) (told : Turn × Option Kind) → TurnOrNone m a p was now told b → (i : ℕ) (u : S) → i ≢ p → IsAt b.tasks i u → IsAt a.tasks i u
others-stay {S} m a b p was now told (inl none) i u ne at = subst (λ (r : Running S). IsAt r.tasks i u) none.board at
others-stay {S} m a b p was now told (inr made) i u ne at = IsAt-before a.tasks p i made.turn.after u ne (subst (λ (r : Running S). IsAt r.tasks i u) made.turn.next at)

-- with the array of levels, in which the one task's is new
pub play-after : {S : Type 0} (m : Member S) (ls : List ℕ) (a b : Running S) (p y : ℕ) (u : S) (was now : List Played) (told : Turn × Option Kind)
    → InPlay m ls a → p < length a.tasks → length b.tasks ≡ length a.tasks → TurnOrNone m a p was now told b → Ready m b → u ≡ get_or b.tasks p u
    → (m.plan u ≢ None → y ≡ m.class u) → InPlay m (set ls p y) b
play-after {S} m ls a b p y u was now told play h count turn ready there value = record {
  ready = ready;
  places = length-set ls p y ∙ play.places;
  are = subst (AreLevels m b.tasks) (sym (array-after a b ls p y h count)) (record { count = length-set tasks-levels p y ∙ (room ∙ sym count); class = λ i s at goes. class-by i s at goes (cases_eq i p) });
}
  where
    tasks-levels : List ℕ
    tasks-levels = take (length a.tasks) ls

    room : length tasks-levels ≡ length a.tasks
    room = play.are.count

    within : p < length tasks-levels
    within = omega (arith, h, room)

    mine : (s : S) → IsAt b.tasks p s → m.plan s ≢ None → y ≡ m.class s
    mine s at = subst (λ (x : S). m.plan x ≢ None → y ≡ m.class x) (IsAt-same b.tasks p u s (record { within = at.within; is = sym there }) at) value

    class-by : (i : ℕ) (s : S) → IsAt b.tasks i s → m.plan s ≢ None → (i ≡ p) ⊎ (i ≢ p) → get_or (set tasks-levels p y) i 5 ≡ m.class s
    class-by i s at goes (inl same) = ap (λ (k : ℕ). get_or (set tasks-levels p y) k 5) same ∙ (get_or-set_same tasks-levels p y 5 within ∙ mine s (subst (λ (k : ℕ). IsAt b.tasks k s) same at) goes)
    class-by i s at goes (inr ne) = get_or-set_other tasks-levels p i y 5 ne ∙ play.are.class i s (others-stay m a b p was now told turn i s ne at) goes

-- at first the array has the classes of all tasks
pub play-start : {S : Type 0} (m : Member S) (ls : List ℕ) (a : Running S) → Ready m a → length ls ≡ cpu_limit → take (length a.tasks) ls ≡ map m.class a.tasks → InPlay m ls a
play-start m ls a ready places are = record {
  ready = ready;
  places = places;
  are = subst (AreLevels m a.tasks) (sym are) (record { count = length-map a.tasks m.class; class = λ cpu s at goes. value-at m.class a.tasks cpu s 5 at });
}

module _ {S : Type 0} (m : Member S) (b c : Running S) (p : ℕ) (now after : List Played) (ls ls2 : List ℕ) (told : Turn × Option Kind)
    (play : InPlay m ls b) (play-c : InPlay m ls2 c) (chosen : IsChosen (take (length b.tasks) ls) p) (turn : TurnOrOver m b p now after ls ls2 told c) where
  chosen-within : p < length b.tasks
  chosen-within = omega (arith, chosen.within, play.are.count)

  length-none : NoneTold m b p now after told c → length c.tasks ≡ length b.tasks
  length-none none = ap (λ (r : Running S). length r.tasks) none.board

  length-made : TurnTold m b p now after told c → length c.tasks ≡ length b.tasks
  length-made made = ap (λ (r : Running S). length r.tasks) made.turn.next ∙ length-set b.tasks p made.turn.after

  array-is : (y : ℕ) → ls2 ≡ set ls p y → length c.tasks ≡ length b.tasks → take (length c.tasks) ls2 ≡ set (take (length b.tasks) ls) p y
  array-is y is count = ap (take (length c.tasks)) is ∙ array-after b c ls p y chosen-within count

  -- the turn, or its want, lowers the rank
  pub told-lowers : (q : Option ℕ) → IsNext (take (length c.tasks) ls2) q → rank m c (take (length c.tasks) ls2) q < rank m b (take (length b.tasks) ls) (Some p)
  told-lowers q next = by turn
    where
      by : TurnOrOver m b p now after ls ls2 told c → rank m c (take (length c.tasks) ls2) q < rank m b (take (length b.tasks) ls) (Some p)
      by (inl none) = subst (λ (r : Running S). rank m r (take (length c.tasks) ls2) q < rank m b (take (length b.tasks) ls) (Some p)) (sym none.0.board)
          (subst (λ (l : List ℕ). rank m b l q < rank m b (take (length b.tasks) ls) (Some p)) (sym (array-is 5 none.1 (length-none none.0)))
          (none-lowers m b p (take (length b.tasks) ls) q play.ready play.are chosen (subst (λ (l : List ℕ). IsNext l q) (array-is 5 none.1 (length-none none.0)) next)))
      by (inr made) = subst (λ (l : List ℕ). rank m c l q < rank m b (take (length b.tasks) ls) (Some p)) (sym (array-is made.1.level made.1.is (length-made made.0)))
          (turn-lowers m b c p made.0.played (take (length b.tasks) ls) made.1.level q play.ready play-c.ready play.are (subst (AreLevels m c.tasks) (array-is made.1.level made.1.is (length-made made.0)) play-c.are) chosen made.0.turn
          (subst (λ (l : List ℕ). IsNext l q) (array-is made.1.level made.1.is (length-made made.0)) next))

  -- and the finishing order goes on
  pub told-finishes : (a : Running S) (was : List Played) → SoFar (Finishing m) a was b now → SoFar (Finishing m) a was c after
  told-finishes a was s = by turn
    where
      by : TurnOrOver m b p now after ls ls2 told c → SoFar (Finishing m) a was c after
      by (inl none) = finish-same m a was b now c after s none.0.board none.0.log
      by (inr made) = finish-more m a was b now c after p made.0.played s
          (chosen-level m b.tasks (take (length b.tasks) ls) play.are p made.0.turn.before chosen made.0.turn.at (planned-going (m.plan made.0.turn.before) made.0.turn.made.step made.0.turn.made.planned))
          made.0.turn made.0.logged

-- the level of a task without a turn is above all classes
pub told-level : {S : Type 0} (m : Member S) (a b : Running S) (p y : ℕ) (u : S) (was now : List Played) (ls : List ℕ) (told : Turn × Option Kind)
    → p < length a.tasks → u ≡ get_or b.tasks p u → (IsFinished told.0 → m.plan u ≡ None → y ≡ 5) → TurnOrNone m a p was now told b → TurnOrOver m a p was now ls (set ls p y) told b
told-level {S} m a b p y u was now ls told h there value (inl none) = inl (none, ap (set ls p) (value finished over))
  where
    finished : IsFinished told.0
    finished = subst IsFinished (sym (ap (λ (k : Turn × Option Kind). k.0) none.told_is)) tt

    over : m.plan u ≡ None
    over = none.over u (subst (λ (r : Running S). IsAt r.tasks p u) none.board (record { within = subst (λ (r : Running S). p < length r.tasks) (sym none.board) h; is = sym there }))
told-level m a b p y u was now ls told h there value (inr made) = inr (made, record { level = y; is = refl })

not-ends : (turn : Turn) → (EndsCommand turn → ⊥) → is_waits turn ≡ false
not-ends turns.Moved h = refl
not-ends (turns.Waits word) h = absurd (h tt)
not-ends (turns.Changed word) h = refl
not-ends turns.Answered h = refl
not-ends turns.Finished h = refl
not-ends turns.NoMemory h = refl

not-waits : (until : Until) (told : Turn × Option Kind) → (EndsWord until told → ⊥) → is_waits told.0 ≡ false
not-waits untils.One told h = absurd (h tt)
not-waits untils.Command told h = not-ends told.0 h
not-waits (untils.After k) told h = not-ends told.0 (λ e. h (inr e))

-- whether a word ends is told
pub ends-told : {S : Type 0} (m : Member S) (a b : Running S) (p : ℕ) (was now : List Played) (told : Turn × Option Kind) (until : Until) → (made : TurnTold m a p was now told b) → EndsWord until told → EndsWord until (told_of made.played)
ends-told m a b p was now told until made ends = subst (EndsWord until) made.told_is ends

pub goes-told : {S : Type 0} (m : Member S) (a b : Running S) (p : ℕ) (was now : List Played) (told : Turn × Option Kind) (until : Until) → (made : TurnTold m a p was now told b) → (EndsWord until told → ⊥) → EndsWord until (told_of made.played) → ⊥
goes-told m a b p was now told until made on ends = on (subst (EndsWord until) (sym made.told_is) ends)

-- a turn that doesn't end a word lowers what its processor may need
pub told-cheaper : {S : Type 0} (m : Member S) (a b : Running S) (p : ℕ) (was now : List Played) (told : Turn × Option Kind) (until : Until)
    → Ready m a → TurnTold m a p was now told b → (EndsWord until told → ⊥) → need_at m b.tasks (words_in b) p < need_at m a.tasks (words_in a) p
told-cheaper m a b p was now told until ready made on = need-falls m a b p made.played ready made.turn (not-waits until (told_of made.played) (goes-told m a b p was now told until made on))

-- there was a turn where none isn't told, or the task isn't over after it
module _ {S : Type 0} (m : Member S) (a b c : Running S) (go : Go) (was now after : List Played) (told : Turn × Option Kind) (turn : TurnOrNone m b go.cpu.0 now after told c) where
  none-over : NoneTold m b go.cpu.0 now after told c → IsOver m c.tasks go.cpu.0
  none-over none = subst (λ (r : Running S). IsOver m r.tasks go.cpu.0) (sym none.board) none.over

  none-last : NoneTold m b go.cpu.0 now after told c → SoFar (Word m go) a was b now → Grows was after (λ ps. Word m go a ps c)
  none-last none s = subst (λ (l : List Played). Grows was l (λ ps. Word m go a ps c)) (sym none.log) (subst (λ (r : Running S). Grows was now (λ ps. Word m go a ps r)) (sym none.board) (word-over m a was b now go s none.over))

  none-told : NoneTold m b go.cpu.0 now after told c → (IsFinished told.0 → IsOver m c.tasks go.cpu.0 → ⊥) → ⊥
  none-told none goes = goes (subst IsFinished (sym (ap (λ (k : Turn × Option Kind). k.0) none.told_is)) tt) (none-over none)

  made-more : (made : TurnTold m b go.cpu.0 now after told c) → (EndsWord go.until told → ⊥) → SoFar (Word m go) a was b now → SoFar (Word m go) a was c after
  made-more made on s = word-more m a was b now go c after made.played s made.turn (goes-told m b c go.cpu.0 now after told go.until made on) made.logged

  by-turn : (R : Type 0) → (NoneTold m b go.cpu.0 now after told c → R) → (TurnTold m b go.cpu.0 now after told c → R) → R
  by-turn R none made = by turn
    where
      by : TurnOrNone m b go.cpu.0 now after told c → R
      by (inl n) = none n
      by (inr t) = made t

  -- the word ends with this turn
  pub step-last : SoFar (Word m go) a was b now → EndsWord go.until told → Grows was after (λ ps. Word m go a ps c)
  step-last s ends = by-turn (Grows was after (λ ps. Word m go a ps c)) (λ none. none-last none s)
      (λ made. word-last m a was b now go c after made.played s made.turn (ends-told m b c go.cpu.0 now after told go.until made ends) made.logged)

  -- or because the task is over
  pub step-over : SoFar (Word m go) a was b now → (EndsWord go.until told → ⊥) → IsOver m c.tasks go.cpu.0 → Grows was after (λ ps. Word m go a ps c)
  step-over s on over = by-turn (Grows was after (λ ps. Word m go a ps c)) (λ none. none-last none s) (λ made. word-over m a was c after go (made-more made on s) over)

  -- or goes on
  pub step-more : SoFar (Word m go) a was b now → (EndsWord go.until told → ⊥) → (IsFinished told.0 → IsOver m c.tasks go.cpu.0 → ⊥) → SoFar (Word m go) a was c after
  step-more s on goes = by-turn (SoFar (Word m go) a was c after) (λ none. absurd (none-told none goes)) (λ made. made-more made on s)

  pub step-cheaper : Ready m b → (EndsWord go.until told → ⊥) → (IsFinished told.0 → IsOver m c.tasks go.cpu.0 → ⊥) → need_at m c.tasks (words_in c) go.cpu.0 < need_at m b.tasks (words_in b) go.cpu.0
  step-cheaper ready on goes = by-turn (need_at m c.tasks (words_in c) go.cpu.0 < need_at m b.tasks (words_in b) go.cpu.0) (λ none. absurd (none-told none goes))
      (λ made. told-cheaper m b c go.cpu.0 now after told go.until ready made on)
