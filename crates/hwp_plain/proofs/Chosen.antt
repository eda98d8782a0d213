-- Who comes next: what is known of the levels of the others.
use Rattle.std.proofs.Common.{◌≡◌, ◌≢◌, ℕ, zero, suc, ◌<◌, ◌≤◌, ◌⊎◌, inl, inr, true, List, [], ◌∷◌, map, length, get_or, set, Option, Some, None, refl, sym, ap, ◌∙◌, subst, arith}
use Rattle.std.proofs.lemmas.Bool.{cases_lt}
use Rattle.std.proofs.lemmas.List.{get_or-set_same, get_or-set_other, length-set, get_or-map, length-map}
use Rattle.hwp_script_words.specs.hwp_geom.declared.Frame.{Frame}
use Rattle.hwp_core_rule.specs.declared.Step.{Step}
use Rattle.hwp_core_rule.specs.Boards.{view_of}
use Rattle.hwp_core_rule.specs.Ranks.{HasFrame, HasPage, Pending, Quiet}
use Rattle.hwp_core_rule.specs.Turns.{Member}
use Rattle.hwp_core_rule.specs.Classes.{IsScheduled}
use Rattle.hwp_plain.specs.Order.{Running, IsAt, AreOver, level_by, level, levels, IsChosen, seat_of}
use Rattle.hwp_plain.specs.Rank.{has_one, words_in}
use Rattle.hwp_plain.specs.Ready.{Ready, AreLevels, Claimed, IsNext}
use Rattle.hwp_plain.proofs.Gaps.{has_one-where}
use Rattle.hwp_plain.proofs.Seats.{frame-held, page-held, seat-held}

-- the chosen level is the least
pub least-level : (ls : List ℕ) (p i : ℕ) → IsChosen ls p → i < length ls → get_or ls p 5 ≤ get_or ls i 5
least-level ls p i chosen h = by (chosen.least i h)
  where
    by : (get_or ls p 5 < get_or ls i 5) ⊎ ((get_or ls p 5 ≡ get_or ls i 5) × (p ≤ i)) → get_or ls p 5 ≤ get_or ls i 5
    by (inl less) = omega arith
    by (inr equal) = omega (arith, equal.0)

-- another than p has level 1
pub first-elsewhere : (ls : List ℕ) (p : ℕ) → p < length ls → has_one (set ls p 5) ≡ true → (i : ℕ) × (i < length ls) × (i ≢ p) × (get_or ls i 5 ≡ 1)
first-elsewhere ls p h one = (r.0, omega (arith, r.1, length-set ls p 5), differs, sym (get_or-set_other ls p r.0 5 5 differs) ∙ r.2)
  where
    r : (i : ℕ) × (i < length (set ls p 5)) × (get_or (set ls p 5) i 5 ≡ 1)
    r = has_one-where (set ls p 5) one

    differs : r.0 ≢ p
    differs same = omega (arith, r.2, get_or-set_same ls p 5 5 h, ap (λ (k : ℕ). get_or (set ls p 5) k 5) same)

-- while another has level 1, p is not chosen again with a level above 1
pub abort-same : (ls : List ℕ) (p y : ℕ) → p < length ls → has_one (set ls p 5) ≡ true → 1 < y → IsChosen (set ls p y) p → ⊥
abort-same ls p y h one above chosen = omega (arith, least-level (set ls p y) p r.0 chosen (rw length-set r.1), get_or-set_same ls p y 5 h, get_or-set_other ls p r.0 y 5 r.2, r.3, above)
  where
    r : (i : ℕ) × (i < length ls) × (i ≢ p) × (get_or ls i 5 ≡ 1)
    r = first-elsewhere ls p h one

-- each place below the length has a task
pub task-at : {S : Type 0} → (tasks : List S) (i : ℕ) → i < length tasks → (s : S) × IsAt tasks i s
task-at [] i h = absurd (omega arith)
task-at (t ∷ ts) zero h = (t, record { within = h; is = refl })
task-at (t ∷ ts) (suc i) h = let r = task-at ts i (omega arith) in (r.0, record { within = h; is = r.1.is })

-- what a function gives at a task's place
pub value-at : {S X : Type 0} → (f : S → X) (tasks : List S) (i : ℕ) (s : S) (d : X) → IsAt tasks i s → get_or (map f tasks) i d ≡ f s
value-at f tasks i s d at = get_or-map f tasks i s d at.within ∙ ap f at.is

pub IsAt-set : {S : Type 0} → (tasks : List S) (p : ℕ) (t : S) → p < length tasks → IsAt (set tasks p t) p t
IsAt-set tasks p t h = record { within = rw length-set h; is = get_or-set_same tasks p t t h }

pub IsAt-other : {S : Type 0} → (tasks : List S) (p i : ℕ) (t u : S) → i ≢ p → IsAt tasks i u → IsAt (set tasks p t) i u
IsAt-other tasks p i t u ne at = record { within = rw length-set at.within; is = get_or-set_other tasks p i t u ne ∙ at.is }

pub IsAt-before : {S : Type 0} → (tasks : List S) (p i : ℕ) (t u : S) → i ≢ p → IsAt (set tasks p t) i u → IsAt tasks i u
IsAt-before tasks p i t u ne at = record { within = omega (arith, at.within, length-set tasks p t); is = sym (get_or-set_other tasks p i t u ne) ∙ at.is }

-- two tasks at one place are one
pub IsAt-same : {S : Type 0} → (tasks : List S) (p : ℕ) (s t : S) → IsAt tasks p s → IsAt tasks p t → s ≡ t
IsAt-same [] p s t one two = absurd (omega (arith, one.within))
IsAt-same (x ∷ xs) zero s t one two = sym one.is ∙ two.is
IsAt-same (x ∷ xs) (suc p) s t one two = IsAt-same xs p s t (record { within = omega (arith, one.within); is = one.is }) (record { within = omega (arith, two.within); is = two.is })

-- the level of a task that isn't over is its class
pub level-of : {A : Type 0} → (o : Option A) (class : ℕ) → o ≢ None → level_by o class ≡ class
level-of None class going = absurd (going refl)
level-of (Some step) class going = refl

pub planned-going : {A : Type 0} → (o : Option A) (step : A) → o ≡ Some step → o ≢ None
planned-going o step is none = absurd (cc)

-- a task that isn't over after a step that leaves class 1 or ends
pub class-left : {A : Type 0} → (o : Option A) (class : ℕ) → o ≢ None → (o ≡ None) ⊎ (1 < class) → 1 < class
class-left o class going (inl over) = absurd (going over)
class-left o class going (inr above) = above

-- where a view lists a frame, it is that of a processor with level 1
pub frame-level : {S : Type 0} (m : Member S) (a : Running S) (i : ℕ) → IsScheduled m → Ready m a → HasFrame (view_of a.state i) → (cpu : ℕ) × (cpu < length a.tasks) × (i ≡ seat_of a cpu) × (get_or (levels m a.tasks) cpu 5 ≡ 1)
frame-level {S} m a i law ready has = (who.0, who.1, who.2, value-at (level m) a.tasks who.0 u.0 5 u.1 ∙ (level-of (m.plan u.0) (m.class u.0) told.1 ∙ told.0))
  where
    who : (cpu : ℕ) × (cpu < length a.tasks) × (i ≡ seat_of a cpu)
    who = seat-held m a i ready (frame-held (view_of a.state i) has)

    u : (s : S) × IsAt a.tasks who.0 s
    u = task-at a.tasks who.0 who.1

    told : (m.class u.0 ≡ 1) × (m.plan u.0 ≢ None)
    told = law.tells.frame a.layout (view_of a.state (seat_of a who.0)) u.0 (ready.crew.fits who.0 u.0 u.1) (subst (λ (k : ℕ). HasFrame (view_of a.state k)) who.2 has)

pub page-level : {S : Type 0} (m : Member S) (a : Running S) (i : ℕ) → IsScheduled m → Ready m a → HasPage (view_of a.state i) → (cpu : ℕ) × (cpu < length a.tasks) × (get_or (levels m a.tasks) cpu 5 ≤ 2)
page-level {S} m a i law ready has = (who.0, who.1, omega (arith, value-at (level m) a.tasks who.0 u.0 5 u.1, level-of (m.plan u.0) (m.class u.0) told.1, told.0))
  where
    who : (cpu : ℕ) × (cpu < length a.tasks) × (i ≡ seat_of a cpu)
    who = seat-held m a i ready (page-held (view_of a.state i) has)

    u : (s : S) × IsAt a.tasks who.0 s
    u = task-at a.tasks who.0 who.1

    told : (m.class u.0 ≤ 2) × (m.plan u.0 ≢ None)
    told = law.tells.page a.layout (view_of a.state (seat_of a who.0)) u.0 (ready.crew.fits who.0 u.0 u.1) (subst (λ (k : ℕ). HasPage (view_of a.state k)) who.2 has)

pub claim-level : {S : Type 0} (m : Member S) (a : Running S) (frame : Frame) (cycle : ℕ) → IsScheduled m → Ready m a → Pending (words_in a) frame cycle → (cpu : ℕ) × (cpu < length a.tasks) × (get_or (levels m a.tasks) cpu 5 ≤ 3)
claim-level m a frame cycle law ready pending = (k.cpu, k.at.within, omega (arith, value-at (level m) a.tasks k.cpu k.task 5 k.at, level-of (m.plan k.task) (m.class k.task) told.1, told.0))
  where
    k : Claimed m a.tasks frame cycle
    k = ready.crew.claimed frame cycle pending

    told : (m.class k.task ≤ 3) × (m.plan k.task ≢ None)
    told = law.tells.claim a.layout (view_of a.state (seat_of a k.cpu)) k.task frame cycle (ready.crew.fits k.cpu k.task k.at) k.claims

-- the chosen one's class leaves the others quiet
pub quiet : {S : Type 0} (m : Member S) (a : Running S) (p : ℕ) (s : S) (step : Step) → IsScheduled m → Ready m a → IsChosen (levels m a.tasks) p → IsAt a.tasks p s → m.plan s ≡ Some step → Quiet (m.class s) a.layout a.state (seat_of a p)
quiet m a p s step law ready chosen at planned = record {
  frames = λ above i ne has. let f = frame-level m a i law ready has in omega (arith, own, f.3, least f.0 f.1, above);
  pages = λ above i ne has. let f = page-level m a i law ready has in omega (arith, own, f.2, least f.0 f.1, above);
  failures = λ above frame cycle pending. let f = claim-level m a frame cycle law ready pending in omega (arith, own, f.2, least f.0 f.1, above);
}
  where
    own : get_or (levels m a.tasks) p 5 ≡ m.class s
    own = value-at (level m) a.tasks p s 5 at ∙ level-of (m.plan s) (m.class s) (planned-going (m.plan s) step planned)

    least : (i : ℕ) → i < length a.tasks → get_or (levels m a.tasks) p 5 ≤ get_or (levels m a.tasks) i 5
    least i h = least-level (levels m a.tasks) p i chosen (rw length-map h)

module _ {S : Type 0} (m : Member S) (tasks : List S) (ls : List ℕ) (are : AreLevels m tasks ls) where
  -- a task below the level of those that are over has its level in the array
  pub level-array : (i : ℕ) → i < length tasks → get_or (levels m tasks) i 5 < 5 → get_or ls i 5 ≡ get_or (levels m tasks) i 5
  level-array i h below = by (m.plan u.0) refl
    where
      u : (s : S) × IsAt tasks i s
      u = task-at tasks i h

      value : get_or (levels m tasks) i 5 ≡ level_by (m.plan u.0) (m.class u.0)
      value = value-at (level m) tasks i u.0 5 u.1

      by : (o : Option Step) → m.plan u.0 ≡ o → get_or ls i 5 ≡ get_or (levels m tasks) i 5
      by None over = absurd (omega (arith, below, value, ap (λ (o : Option Step). level_by o (m.class u.0)) over))
      by (Some step) planned = are.class i u.0 u.1 (planned-going (m.plan u.0) step planned) ∙ sym (value ∙ level-of (m.plan u.0) (m.class u.0) (planned-going (m.plan u.0) step planned))

  -- a task that is chosen by the array, and isn't over, is the chosen one
  pub chosen-level : (p : ℕ) (s : S) → IsChosen ls p → IsAt tasks p s → m.plan s ≢ None → IsChosen (levels m tasks) p
  chosen-level p s chosen at goes = record { within = rw length-map at.within; going = omega (arith, own, chosen.going); least = λ i h. by i (omega (arith, h, length-map tasks (level m))) (cases_lt (get_or (levels m tasks) i 5) 5) }
    where
      own : get_or (levels m tasks) p 5 ≡ get_or ls p 5
      own = value-at (level m) tasks p s 5 at ∙ level-of (m.plan s) (m.class s) goes ∙ sym (are.class p s at goes)

      by : (i : ℕ) → i < length tasks → (get_or (levels m tasks) i 5 < 5) ⊎ (5 ≤ get_or (levels m tasks) i 5) → (get_or (levels m tasks) p 5 < get_or (levels m tasks) i 5) ⊎ ((get_or (levels m tasks) p 5 ≡ get_or (levels m tasks) i 5) × (p ≤ i))
      by i h (inl below) = elim (chosen.least i (omega (arith, h, are.count))) [
        | inl less ↦ inl (omega (arith, less, own, level-array i h below))
        | inr equal ↦ inr (own ∙ equal.0 ∙ level-array i h below, equal.1)
      ]
      by i h (inr above) = inl (omega (arith, own, chosen.going, above))

  -- where none is chosen, all are over
  pub all-over : (0 < length tasks → IsScheduled m) → IsNext ls None → AreOver m tasks
  all-over law none p s at = by (m.plan s) refl
    where
      by : (o : Option Step) → m.plan s ≡ o → m.plan s ≡ None
      by None over = over
      by (Some step) planned = absurd (omega (arith, none p (omega (arith, at.within, are.count)), are.class p s at (planned-going (m.plan s) step planned), ((law (omega (arith, at.within))).ranked.classes s).1))
