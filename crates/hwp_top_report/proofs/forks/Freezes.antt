-- What is frozen and what is switched, one command after another: from the fork that freezes a translation on it stays frozen, and the first
-- store through it that is answered `stored` switches it.
use Rattle.std.proofs.Common.{◌≡◌, ℕ, zero, suc, ◌+◌, ◌<◌, ◌==◌, ◌&&◌, ◌||◌, Bool, true, false, List, [], ◌∷◌, Option, None, Some, filter_map, fold, slice_get, take, if◌then◌else◌, refl, sym, ap, ◌∙◌, true≢false, arith}
use Rattle.std.specs.List.{cons_option}
use Rattle.std.proofs.lemmas.Bool.{and_left, and_right, or_left, or_right}
use Rattle.std.proofs.lemmas.Option.{none-some, same_Some}
use Rattle.hwp_law_served.specs.hwp_geom.declared.Layout.{Layout}
use Rattle.hwp_law_served.specs.hwp_geom.declared.Proc.{Proc}
use Rattle.hwp_law_served.specs.hwp_geom.declared.Thread.{Thread}
use Rattle.hwp_law_served.specs.hwp_geom.declared.VSlot.{VSlot}
use Rattle.hwp_law_served.specs.hwp_page.declared.At.{At}
use Rattle.hwp_law_served.specs.hwp_report_text.declared.Answer.{Answer}
use Rattle.hwp_law_served.specs.hwp_report_text.declared.Answer.TheVariants as answers
use Rattle.hwp_law_served.specs.hwp_script_words.declared.Command.{Command}
use Rattle.hwp_law_served.specs.hwp_script_words.declared.Command.TheVariants as commands
use Rattle.hwp_law_served.specs.hwp_law.Cows.{Cow, cow_after, froze_slot, own_page}
use Rattle.hwp_law_served.specs.hwp_law.Private.{freeze_from, word_stored}

-- ---- one command more

pub fold-next : {A B : Type 0} (f : B → A → B) (a : B) (xs : List A) (m : ℕ) (x : A) → slice_get xs m ≡ Some x → fold f a (take (suc m) xs) ≡ f (fold f a (take m xs)) x
fold-next f a [] m x there = absurd (none-some x there)
fold-next f a (y ∷ ys) zero x there = ap (f a) (same_Some y x there)
fold-next f a (y ∷ ys) (suc m) x there = fold-next f (f a y) ys m x there

abbrev pub next : Layout → VSlot → Cow → Command × Answer → Cow
next layout slot c p = cow_after layout slot p.0 p.1 c

-- ---- the fork

own-stays : (layout : Layout) (slot : VSlot) (command : Command) (answer : Answer) → (cow_after layout slot command answer own_page).frozen ≡ false → cow_after layout slot command answer own_page ≡ own_page
own-stays layout slot (commands.Fork thread process) answers.Done is = ap (λ (b : Bool). record { frozen = b; switched = false }) is
own-stays layout slot (commands.Store thread other line word) (answers.Stored at) is = refl
own-stays layout slot command answer is = refl

-- the command is a fork that was done and froze the translation
pub record IsFork (layout : Layout) (slot : VSlot) (p : Command × Answer) : Type 0 where
  pub thread : Thread
  pub process : Proc
  pub command_is : p.0 ≡ commands.Fork thread process
  pub done : p.1 ≡ answers.Done
  pub froze : froze_slot layout slot (commands.Fork thread process) ≡ true

own-frozen : (layout : Layout) (slot : VSlot) (command : Command) (answer : Answer) → (cow_after layout slot command answer own_page).frozen ≡ true → IsFork layout slot (command, answer)
own-frozen layout slot (commands.Fork thread process) answers.Done is = record { thread = thread; process = process; command_is = refl; done = refl; froze = is }
own-frozen layout slot (commands.Store thread other line word) (answers.Stored at) is = absurd (true≢false (sym is))
own-frozen layout slot command answer is = absurd (true≢false (sym is))

-- the fork that froze the translation, and that it was frozen by none before
pub record IsFreeze (layout : Layout) (slot : VSlot) (n : ℕ) (list : List (Command × Answer)) (fork : ℕ) : Type 0 where
  pub place : ℕ
  pub number : fork ≡ n + place
  pub p : Command × Answer
  pub there : slice_get list place ≡ Some p
  pub is : IsFork layout slot p
  pub before : fold (next layout slot) own_page (take place list) ≡ own_page

freeze-next : (layout : Layout) (slot : VSlot) (n : ℕ) (p : Command × Answer) (rest : List (Command × Answer)) (fork : ℕ) (b : Bool) → (next layout slot own_page p).frozen ≡ b
    → (if b then Some n else freeze_from layout slot (n + 1) rest) ≡ Some fork → (freeze_from layout slot (n + 1) rest ≡ Some fork → IsFreeze layout slot (n + 1) rest fork) → IsFreeze layout slot n (p ∷ rest) fork
freeze-next layout slot n p rest fork true e is later =
    let same : fork ≡ n + 0 = omega (arith, same_Some n fork is) in
    record { place = 0; number = same; p = p; there = refl; is = own-frozen layout slot p.0 p.1 e; before = refl }
freeze-next layout slot n p rest fork false e is later =
    let f = later is in
    let same : fork ≡ n + suc f.place = omega (arith, f.number) in
    record {
      place = suc f.place;
      number = same;
      p = f.p;
      there = f.there;
      is = f.is;
      before = ap (λ (c : Cow). fold (next layout slot) c (take f.place rest)) (own-stays layout slot p.0 p.1 e) ∙ f.before;
    }

pub freeze-found : (layout : Layout) (slot : VSlot) (n : ℕ) (list : List (Command × Answer)) (fork : ℕ) → freeze_from layout slot n list ≡ Some fork → IsFreeze layout slot n list fork
freeze-found layout slot n [] fork is = absurd (none-some fork is)
freeze-found layout slot n (p ∷ rest) fork is = freeze-next layout slot n p rest fork (next layout slot own_page p).frozen refl is (freeze-found layout slot (n + 1) rest fork)

-- ---- behind it

pub frozen-stays : (layout : Layout) (slot : VSlot) (command : Command) (answer : Answer) (c : Cow) → c.frozen ≡ true → (cow_after layout slot command answer c).frozen ≡ true
frozen-stays layout slot (commands.Fork thread process) answers.Done c is = or_left c.frozen (froze_slot layout slot (commands.Fork thread process)) is
frozen-stays layout slot (commands.Store thread other line word) (answers.Stored at) c is = is
frozen-stays layout slot command answer c is = is

frozen-on : (layout : Layout) (slot : VSlot) (c : Cow) (list : List (Command × Answer)) → c.frozen ≡ true → (fold (next layout slot) c list).frozen ≡ true
frozen-on layout slot c [] is = is
frozen-on layout slot c (p ∷ rest) is = frozen-on layout slot (next layout slot c p) rest (frozen-stays layout slot p.0 p.1 c is)

pub frozen-behind : (layout : Layout) (slot : VSlot) (c : Cow) (list : List (Command × Answer)) (fork m : ℕ) (thread : Thread) (process : Proc) → slice_get list fork ≡ Some (commands.Fork thread process, answers.Done)
    → froze_slot layout slot (commands.Fork thread process) ≡ true → fork < m → (fold (next layout slot) c (take m list)).frozen ≡ true
frozen-behind layout slot c [] fork m thread process there froze less = absurd (none-some (commands.Fork thread process, answers.Done) there)
frozen-behind layout slot c (p ∷ rest) fork zero thread process there froze less = absurd (omega (arith, less))
frozen-behind layout slot c (p ∷ rest) zero (suc m) thread process there froze less =
    frozen-on layout slot (next layout slot c p) (take m rest)
    (ap (λ (q : Command × Answer). (next layout slot c q).frozen) (same_Some p (commands.Fork thread process, answers.Done) there) ∙ or_right c.frozen (froze_slot layout slot (commands.Fork thread process)) froze)
frozen-behind layout slot c (p ∷ rest) (suc fork) (suc m) thread process there froze less =
    frozen-behind layout slot (next layout slot c p) rest fork m thread process there froze (omega (arith, less))

-- ---- stores

-- a store through the translation that was answered `stored`
abbrev pub is_stored : VSlot → Command → Answer → Bool
is_stored slot (commands.Store thread other line word) (answers.Stored at) = other.0 == slot.0
is_stored slot command answer = false

pub record IsStored (slot : VSlot) (command : Command) (answer : Answer) : Type 0 where
  pub thread : Thread
  pub other : VSlot
  pub line : ℕ
  pub word : ℕ
  pub at : At
  pub command_is : command ≡ commands.Store thread other line word
  pub answer_is : answer ≡ answers.Stored at
  pub same : (other.0 == slot.0) ≡ true

pub stored-is : (slot : VSlot) (command : Command) (answer : Answer) → is_stored slot command answer ≡ true → IsStored slot command answer
stored-is slot (commands.Store thread other line word) (answers.Stored at) is =
    record { thread = thread; other = other; line = line; word = word; at = at; command_is = refl; answer_is = refl; same = is }
stored-is slot command answer is = absurd (true≢false (sym is))

pub not-stored : (layout : Layout) (slot : VSlot) (line : ℕ) (c : Cow) (command : Command) (answer : Answer) → is_stored slot command answer ≡ false
    → (word_stored slot line (command, answer) ≡ None) × ((cow_after layout slot command answer c).switched ≡ c.switched)
not-stored layout slot line c (commands.Store thread other at_line word) (answers.Stored at) is = (
  ap (λ (b : Bool). if b then Some word else None) (and_left (other.0 == slot.0) (at_line == line) is),
  ap (λ (b : Bool). c.switched || b) (and_right c.frozen (other.0 == slot.0) is) ∙ or-false c.switched,
)
  where
    or-false : (b : Bool) → (b || false) ≡ b
    or-false true = refl
    or-false false = refl
not-stored layout slot line c (commands.Fork thread process) answers.Done is = (refl, refl)
not-stored layout slot line c command answer is = (refl, refl)

pub stored-switches : (layout : Layout) (slot : VSlot) (c : Cow) (command : Command) (answer : Answer) → is_stored slot command answer ≡ true → c.frozen ≡ true → (cow_after layout slot command answer c).switched ≡ true
stored-switches layout slot c (commands.Store thread other line word) (answers.Stored at) is frozen =
    or_right c.switched (c.frozen && (other.0 == slot.0)) (ap (λ (b : Bool). b && (other.0 == slot.0)) frozen ∙ is)
stored-switches layout slot c command answer is frozen = absurd (true≢false (sym is))

switched-stays : (layout : Layout) (slot : VSlot) (command : Command) (answer : Answer) (c : Cow) → c.switched ≡ true → (cow_after layout slot command answer c).switched ≡ true
switched-stays layout slot (commands.Store thread other line word) (answers.Stored at) c is = or_left c.switched (c.frozen && (other.0 == slot.0)) is
switched-stays layout slot (commands.Fork thread process) answers.Done c is = is
switched-stays layout slot command answer c is = is

switched-on : (layout : Layout) (slot : VSlot) (c : Cow) (list : List (Command × Answer)) → c.switched ≡ true → (fold (next layout slot) c list).switched ≡ true
switched-on layout slot c [] is = is
switched-on layout slot c (p ∷ rest) is = switched-on layout slot (next layout slot c p) rest (switched-stays layout slot p.0 p.1 c is)

none-next : (layout : Layout) (slot : VSlot) (line : ℕ) (c : Cow) (p : Command × Answer) (rest : List (Command × Answer)) (b : Bool) → is_stored slot p.0 p.1 ≡ b → c.frozen ≡ true → (fold (next layout slot) (next layout slot c p) rest).switched ≡ false
    → filter_map (word_stored slot line) rest ≡ [] → filter_map (word_stored slot line) (p ∷ rest) ≡ []
none-next layout slot line c p rest true e frozen off none = absurd (true≢false (sym (switched-on layout slot (next layout slot c p) rest (stored-switches layout slot c p.0 p.1 e frozen)) ∙ off))
none-next layout slot line c p rest false e frozen off none = ap (λ (o : Option ℕ). cons_option o (filter_map (word_stored slot line) rest)) (not-stored layout slot line c p.0 p.1 e).0 ∙ none

-- a translation that is frozen and not switched was not stored through
pub unswitched-none : (layout : Layout) (slot : VSlot) (line : ℕ) (c : Cow) (list : List (Command × Answer)) → c.frozen ≡ true → (fold (next layout slot) c list).switched ≡ false → filter_map (word_stored slot line) list ≡ []
unswitched-none layout slot line c [] frozen off = refl
unswitched-none layout slot line c (p ∷ rest) frozen off =
    none-next layout slot line c p rest (is_stored slot p.0 p.1) refl frozen off (unswitched-none layout slot line (next layout slot c p) rest (frozen-stays layout slot p.0 p.1 c frozen) off)
