-- A processor that has served the commands of its list has served those that it acted on.
use Rattle.std.proofs.Common.{◌≡◌, ℕ, zero, suc, ◌+◌, ◌<◌, true, List, [], ◌∷◌, ◌++◌, Option, None, Some, length, map, option_map, slice_get, take, append_assoc, append-nil, refl, sym, ap, ◌∙◌, subst, arith}
use Rattle.std.proofs.Math.Path.{fun_ext}
use Rattle.std.proofs.lemmas.List.Sums.{fold-append}
use Rattle.std.specs.List.{cons_option}
use Rattle.std.proofs.lemmas.Option.{none-some, same_Some}
use Rattle.hwp_law.specs.hwp_geom.declared.Cpu.{Cpu}
use Rattle.hwp_law.specs.hwp_geom.declared.Damage.{Damage}
use Rattle.hwp_law.specs.hwp_geom.declared.Damage.TheVariants as damages
use Rattle.hwp_law.specs.hwp_geom.declared.FileNo.{FileNo}
use Rattle.hwp_law.specs.hwp_geom.declared.Frame.{Frame}
use Rattle.hwp_law.specs.hwp_geom.declared.Layout.{Layout}
use Rattle.hwp_law.specs.hwp_geom.declared.Thread.{Thread}
use Rattle.hwp_law.specs.hwp_geom.declared.VSlot.{VSlot}
use Rattle.hwp_law.specs.hwp_geom.declared.Who.{Who}
use Rattle.hwp_law.specs.hwp_kill.declared.Policy.{Policy}
use Rattle.hwp_law.specs.hwp_banks.Banks.{Banks, empty_banks}
use Rattle.hwp_plain.specs.hwp_core_rule.declared.Made.{Made}
use Rattle.hwp_plain.specs.hwp_core_rule.declared.Mark.{Mark}
use Rattle.hwp_plain.specs.hwp_core_rule.declared.Setting.{Setting}
use Rattle.hwp_plain.specs.hwp_core_rule.declared.Spoiled.{Spoiled}
use Rattle.hwp_plain.specs.hwp_core_rule.declared.View.{View}
use Rattle.hwp_plain.specs.hwp_core_rule.Lists.{EachMember}
use Rattle.hwp_law.specs.hwp_script_words.declared.Command.{Command}
use Rattle.hwp_law.specs.hwp_script_words.declared.Command.TheVariants as commands
use Rattle.hwp_law.specs.hwp_report_text.declared.Answer.{Answer}
use Rattle.hwp_law.specs.Cows.{acting, copied_from}
use Rattle.hwp_law.specs.Settings.{set_after, set_behind, setting_of, settings, unset}
use Rattle.hwp_law.specs.Watched.{Watched, watched_after}
use Rattle.hwp_law.specs.Acting.{acting_from}
use Rattle.hwp_law.specs.Losses.{tells_number}
use Rattle.hwp_law.proofs.ActedLaws.{acted-at, set-acted}
use Rattle.hwp_law.proofs.CowLaws.{acting-sets}
use Rattle.hwp_cpu_row.specs.declared.Row.{Row}
use Rattle.hwp_cpu_row.specs.Acts.{told_notes}
use Rattle.hwp_cpu_row.specs.hwp_claim.declared.EventOutcome.{EventOutcome}
use Rattle.hwp_law_served.specs.Handles.{KnowsNumber, KnowsNumbers, answers_by, number_at}
use Rattle.hwp_law_served.specs.Offlinings.{AreDue, KnowsDue, watched_along, watched_at}
use Rattle.hwp_law_served.specs.Served.{AreRowsActed, AreRowsServed, CanStop, HasActed, IsBegun, IsOneOf, IsOwnSpoil, IsOwnStop, IsRowServed, IsServed, spoiling}
use Rattle.hwp_law_served.proofs.copied.EarlierSame.{row-earlier}
use Rattle.hwp_law_served.proofs.copied.NumbersActed.{numbers-acted, tells-acted}

-- the answers of rows, and the commands that were acted on
abbrev pub given : List Row → List Answer
given rows = map (λ (r : Row). r.answer) rows

abbrev pub acted : Layout → List Command → List Row → List Command
acted layout list rows = acting_from layout [] list (given rows)

-- which translation each of the commands copies from
abbrev pub CopiesFrom : Layout → (Who → Option VSlot) → Cpu → List (Command × Answer) → ℕ → List Command → List Row → Type 0
CopiesFrom layout copies cpu earlier n list rows = (k : ℕ) (c : Command) → slice_get list k ≡ Some c → copies (record { cpu = cpu; seq = n + k }) ≡ copied_from layout (earlier ++ take k (answers_by list rows)) c

-- ---- the rows

sets-more : (layout : Layout) (earlier other : List (Command × Answer)) (c : Command) (a : Answer) → set_behind layout unset other ≡ set_behind layout unset earlier
    → set_behind layout unset (other ++ (acting layout earlier c, a) ∷ []) ≡ set_behind layout unset (earlier ++ (c, a) ∷ [])
sets-more layout earlier other c a same =
    fold-append (set_after layout) unset other ((acting layout earlier c, a) ∷ [])
    ∙ ap (λ (set : ℕ → List Policy). set_after layout set (acting layout earlier c, a)) same
    ∙ fun_ext (λ (thread : ℕ). ap (λ (o : Option Policy). set_behind layout unset earlier thread ++ cons_option o []) (acting-sets layout earlier (set_behind layout unset earlier) thread c a))
    ∙ sym (fold-append (set_after layout) unset earlier ((c, a) ∷ []))

pub rows-acted : (layout : Layout) (copies : Who → Option VSlot) (view : View) (cpu : Cpu) (earlier other : List (Command × Answer)) (n : ℕ) (before : Banks) (list : List Command) (rows : List Row) (after : Banks) → set_behind layout unset other ≡ set_behind layout unset earlier
    → CopiesFrom layout copies cpu earlier n list rows → AreRowsActed layout earlier view cpu n before list rows after → AreRowsServed layout copies other view cpu n before (acting_from layout earlier list (given rows)) rows after
rows-acted layout copies view cpu earlier other n before [] [] after same from are = are
rows-acted layout copies view cpu earlier other n before [] (r ∷ rs) after same from are = absurd are
rows-acted layout copies view cpu earlier other n before (c ∷ cs) [] after same from are = are
rows-acted layout copies view cpu earlier other n before (c ∷ cs) (r ∷ rs) after same from (between, served, rest) = (
  between,
  subst (λ (o : Option VSlot). IsRowServed layout other o view (record { cpu = cpu; seq = n }) (acting layout earlier c) before r between) (sym here)
      (row-earlier layout earlier other (λ thread. ap (λ (set : ℕ → List Policy). set thread.0) (sym same)) view (record { cpu = cpu; seq = n }) (copied_from layout earlier c) (acting layout earlier c) before r between served),
  rows-acted layout copies view cpu (earlier ++ (c, r.answer) ∷ []) (other ++ (acting layout earlier c, r.answer) ∷ []) (n + 1) between cs rs after (sets-more layout earlier other c r.answer same) later rest,
)
  where
    here : copies (record { cpu = cpu; seq = n }) ≡ copied_from layout earlier c
    here =
        let zeroth : n + 0 ≡ n = omega arith in
        subst (λ (m : ℕ). copies (record { cpu = cpu; seq = m }) ≡ copied_from layout earlier c) zeroth (from 0 c refl ∙ ap (λ (l : List (Command × Answer)). copied_from layout l c) (append-nil earlier))

    later : CopiesFrom layout copies cpu (earlier ++ (c, r.answer) ∷ []) (n + 1) cs rs
    later k d there =
        let next : n + suc k ≡ (n + 1) + k = omega arith in
        subst (λ (m : ℕ). copies (record { cpu = cpu; seq = m }) ≡ copied_from layout ((earlier ++ (c, r.answer) ∷ []) ++ take k (answers_by cs rs)) d) next
        (from (suc k) d there ∙ ap (λ (l : List (Command × Answer)). copied_from layout l d) (sym (append_assoc earlier ((c, r.answer) ∷ []) (take k (answers_by cs rs)))))

-- ---- what is said of single commands

stop-acted : (layout : Layout) (earlier : List (Command × Answer)) (c : Command) (told : List EventOutcome) → CanStop layout c told → CanStop layout (acting layout earlier c) told
stop-acted layout earlier (commands.Load thread slot line) told can = can
stop-acted layout earlier (commands.Fetch thread slot line) told can = can
stop-acted layout earlier (commands.KLoad thread slot line) told can = can
stop-acted layout earlier (commands.Store thread slot line word) told can = can
stop-acted layout earlier (commands.Free slot) told can = can
stop-acted layout earlier c told can = can

spoil-acted : (layout : Layout) (earlier : List (Command × Answer)) (damage : Damage) (frame : Frame) (line : ℕ) → acting layout earlier (spoiling damage frame line) ≡ spoiling damage frame line
spoil-acted layout earlier damages.Bad frame line = refl
spoil-acted layout earlier damages.Weak frame line = refl

watched-after : (layout : Layout) (earlier : List (Command × Answer)) (c : Command) (a : Answer) (notes : List Frame) (before : Option Watched) → watched_after (acting layout earlier c) a notes before ≡ watched_after c a notes before
watched-after layout earlier (commands.Load thread slot line) a notes before = refl
watched-after layout earlier (commands.Fetch thread slot line) a notes before = refl
watched-after layout earlier (commands.KLoad thread slot line) a notes before = refl
watched-after layout earlier (commands.Store thread slot line word) a notes before = refl
watched-after layout earlier (commands.Free slot) a notes before = refl
watched-after layout earlier c a notes before = refl

length-acted : (layout : Layout) (earlier : List (Command × Answer)) (list : List Command) (answers : List Answer) → length (acting_from layout earlier list answers) ≡ length list
length-acted layout earlier [] answers = refl
length-acted layout earlier (c ∷ cs) [] = ap suc (length-acted layout earlier cs [])
length-acted layout earlier (c ∷ cs) (a ∷ rest) = ap suc (length-acted layout (earlier ++ (c, a) ∷ []) cs rest)

watched-acted : (layout : Layout) (earlier : List (Command × Answer)) (list : List Command) (rows : List Row) (n : ℕ) (before : Option Watched) → watched_along layout (acting_from layout earlier list (given rows)) (take n rows) before ≡ watched_along layout list (take n rows) before
watched-acted layout earlier [] rows n before = refl
watched-acted layout earlier (c ∷ cs) [] n before = ap (λ (l : List Row). watched_along layout (acting_from layout earlier (c ∷ cs) []) l before) (none n) ∙ sym (ap (λ (l : List Row). watched_along layout (c ∷ cs) l before) (none n))
  where
    none : (n : ℕ) → ◌≡◌ {A = List Row} (take n []) []
    none zero = refl
    none (suc n) = refl
watched-acted layout earlier (c ∷ cs) (r ∷ rs) zero before = refl
watched-acted layout earlier (c ∷ cs) (r ∷ rs) (suc n) before =
    ap (watched_along layout (acting_from layout (earlier ++ (c, r.answer) ∷ []) cs (given rs)) (take n rs)) (watched-after layout earlier c r.answer (told_notes layout r.told) before)
    ∙ watched-acted layout (earlier ++ (c, r.answer) ∷ []) cs rs n (watched_after c r.answer (told_notes layout r.told) before)

-- ---- the processor

module _ (layout : Layout) (list : List Command) (rows : List Row) where
  -- a command that was acted on is of one of the list
  pub record OfActed (i : ℕ) (command : Command) : Type 0 where
    pub own : Command
    pub there : slice_get list i ≡ Some own
    pub is : command ≡ acting layout (take i (answers_by list rows)) own

  pub of-acted : (i : ℕ) (command : Command) → slice_get (acted layout list rows) i ≡ Some command → OfActed i command
  of-acted i command is = which (slice_get list i) refl (sym (acted-at layout [] list (given rows) i) ∙ is)
    where
      which : (o : Option Command) → slice_get list i ≡ o → option_map (acting layout (take i (answers_by list rows))) o ≡ Some command → OfActed i command
      which None none there = absurd (none-some command there)
      which (Some own) some there = record { own = own; there = some; is = sym (same_Some (acting layout (take i (answers_by list rows)) own) command there) }

  acts-at : (i : ℕ) (command : Command) → slice_get list i ≡ Some command → slice_get (acted layout list rows) i ≡ Some (acting layout (take i (answers_by list rows)) command)
  acts-at i command there = acted-at layout [] list (given rows) i ∙ ap (option_map (acting layout (take i (answers_by list rows)))) there

  long : length (acted layout list rows) ≡ length list
  long = length-acted layout [] list (given rows)

  stops-acted : (cpu : Cpu) (who : Who) → IsOwnStop layout cpu list rows who → IsOwnStop layout cpu (acted layout list rows) rows who
  stops-acted cpu who own = record {
    cpu_is = own.cpu_is;
    command = acting layout (take who.seq (answers_by list rows)) own.command;
    there = acts-at who.seq own.command own.there;
    row = own.row;
    can = stop-acted layout (take who.seq (answers_by list rows)) own.command own.row.told own.can;
    answered = own.answered;
  }

  spoils-acted : (cpu : Cpu) (s : Spoiled) → IsOwnSpoil cpu list rows s → IsOwnSpoil cpu (acted layout list rows) rows s
  spoils-acted cpu s own = record {
    cpu_is = own.cpu_is;
    there = acts-at s.stamp.who.seq (spoiling s.damage s.frame s.line) own.there ∙ ap (λ (c : Command). Some c) (spoil-acted layout (take s.stamp.who.seq (answers_by list rows)) s.damage s.frame s.line);
    row = own.row;
    row_is = own.row_is;
    answered = own.answered;
  }

  knows-acted : (view : View) (cpu : Cpu) → KnowsNumbers layout view cpu list rows → KnowsNumbers layout view cpu (acted layout list rows) rows
  knows-acted view cpu knows file i command row command_is row_is tells =
      let of = of-acted i command command_is in
      let same : tells_number file of.own row.answer ≡ true = sym (tells-acted layout (take i (answers_by list rows)) file of.own row.answer) ∙ sym (ap (λ (c : Command). tells_number file c row.answer) of.is) ∙ tells in
      subst (KnowsNumber layout view (record { cpu = cpu; seq = i }) file) (sym (numbers-acted layout [] file 0 list (given rows) (i + 1))) (knows file i of.own row of.there row_is same)

  due-acted : KnowsDue layout list rows → KnowsDue layout (acted layout list rows) rows
  due-acted knows n row row_is = subst (λ (w : Option Watched). AreDue layout w row) (sym (watched-acted layout [] list rows n None)) (knows n row row_is)

  pub served-acted : (copies : Who → Option VSlot) (view : View) (cpu : Cpu) → CopiesFrom layout copies cpu [] 0 list rows → HasActed layout view cpu list rows → IsServed layout copies view cpu (acted layout list rows) rows
  served-acted copies view cpu from served = record {
    count = served.count ∙ sym long;
    banks = served.banks;
    rows_are = rows-acted layout copies view cpu [] [] 0 empty_banks list rows served.banks refl from served.rows_are;
    made = subst (λ (n : ℕ). EachMember (IsBegun cpu n) view.made) (sym long) served.made;
    marked = subst (λ (n : ℕ). EachMember (λ (m : Mark). IsOneOf cpu n m.stamp.who) view.marks) (sym long) served.marked;
    set = subst (λ (n : ℕ). EachMember (λ (s : Setting). IsOneOf cpu n s.stamp.who) view.settings) (sym long) served.set;
    policies = λ thread. served.policies thread ∙ sym (ap (λ (set : ℕ → List Policy). set thread.0) (set-acted layout [] unset list (given rows)));
    stops = λ i who there. stops-acted cpu who (served.stops i who there);
    noted = served.noted;
    spoiled = λ i s there. spoils-acted cpu s (served.spoiled i s there);
    stays = served.stays;
    numbers = knows-acted view cpu served.numbers;
    due = due-acted served.due;
    nothing = served.nothing;
  }
