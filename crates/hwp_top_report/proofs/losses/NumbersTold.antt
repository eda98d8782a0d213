-- The number of a handle that an answer of the report tells is one that its processor's seat knows. Before a command it is the one that an
-- earlier command told, or 0.
use Rattle.std.proofs.Common.{◌≡◌, ◌⊎◌, inl, inr, ℕ, zero, suc, ◌+◌, ◌<◌, ◌≤◌, ◌==◌, Bool, true, false, cond, List, [], ◌∷◌, Some, length, map, slice_get, take, refl, sym, ap, ◌∙◌, subst, arith, Option}
use Rattle.std.specs.List.{zip}
use Rattle.std.proofs.lemmas.Option.{none-some, same_Some}
use Rattle.hwp_law_served.specs.hwp_geom.declared.Who.{Who}
use Rattle.hwp_law_served.specs.hwp_geom.declared.VSlot.{VSlot}
use Rattle.hwp_law_served.specs.hwp_geom.declared.Cpu.{Cpu}
use Rattle.hwp_law_served.specs.hwp_geom.declared.FileNo.{FileNo}
use Rattle.hwp_law_served.specs.hwp_geom.declared.Layout.{Layout}
use Rattle.hwp_law_served.specs.hwp_core_rule.declared.State.{State}
use Rattle.hwp_law_served.specs.hwp_core_rule.declared.View.{View}
use Rattle.hwp_law_served.proofs.of_hwp_core_rule.Lists.{map-was}
use Rattle.hwp_law_served.specs.hwp_core_rule.Boards.{view_of}
use Rattle.hwp_law_served.specs.hwp_script_words.declared.Command.{Command}
use Rattle.hwp_law_served.specs.hwp_script_words.declared.Command.TheVariants as commands
use Rattle.hwp_law_served.specs.hwp_script_words.declared.Script.{Script}
use Rattle.hwp_law_served.specs.hwp_report_text.declared.Answer.{Answer}
use Rattle.hwp_law_served.specs.hwp_report_text.declared.Answer.TheVariants as answers
use Rattle.hwp_law_served.specs.hwp_report_text.declared.CpuLine.{CpuLine}
use Rattle.hwp_law_served.specs.hwp_report_text.declared.Report.{Report}
use Rattle.hwp_law_served.specs.hwp_law.Lines.{answered, answers_to}
use Rattle.hwp_law_served.specs.hwp_law.Losses.{number_by, numbers_after, tells_number}
use Rattle.hwp_law_served.proofs.Homes.{there-is}
use Rattle.hwp_law_served.specs.hwp_cpu_row.declared.Row.{Row}
use Rattle.hwp_law_served.specs.Handles.{KnowsNumber, KnowsNumbers, answers_by}
use Rattle.hwp_law_served.proofs.Handles.{numbers-next}
use Rattle.hwp_law_served.proofs.RowLines.{answers-of-rows}
use Rattle.hwp_law_served.proofs.RunEnds.{IsEnd, rows-of-lines}

-- a pair of two lists is of members at one place
pub zip-at : {A B : Type 0} (xs : List A) (ys : List B) (i : ℕ) (p : A × B) → slice_get {X = A × B} (zip xs ys) i ≡ Some p → (slice_get xs i ≡ Some p.0) × (slice_get ys i ≡ Some p.1)
zip-at [] ys i p there = absurd (none-some p there)
zip-at (x ∷ xs) [] i p there = absurd (none-some p there)
zip-at {A} {B} (x ∷ xs) (y ∷ ys) zero p there = let same : (x, y) ≡ p = same_Some (x, y) p there in (ap (λ (q : A × B). Some q.0) same, ap (λ (q : A × B). Some q.1) same)
zip-at (x ∷ xs) (y ∷ ys) (suc i) p there = zip-at xs ys i p there

-- a pair of a command and its row's answer is of such
known-by-rows : (layout : Layout) (view : View) (cpu : Cpu) (list : List Command) (rows : List Row) → KnowsNumbers layout view cpu list rows → (file : FileNo) (i : ℕ) (p : Command × Answer) → slice_get {X = Command × Answer} (answers_by list rows) i ≡ Some p → tells_number file p.0 p.1 ≡ true
    → KnowsNumber layout view (record { cpu = cpu; seq = i }) file (numbers_after file 0 (take (i + 1) (answers_by list rows)))
known-by-rows layout view cpu list rows knows file i p there tells =
    let at = zip-at list (map (λ (r : Row). r.answer) rows) i p there in
    let row = map-was (λ (r : Row). r.answer) rows i p.1 at.1 in
    knows file i p.0 row.0 at.0 row.1 (ap (tells_number file p.0) row.2 ∙ tells)

module _ (script : Script) (copies : Who → Option VSlot) (seat : Cpu → ℕ) (last : State) (report : Report) (end : IsEnd script copies seat last report) where
  pub number-known : (cpu : Cpu) (list : List Command) (lines : List CpuLine) → slice_get script.lists cpu.0 ≡ Some list → slice_get report.cpus cpu.0 ≡ Some lines
      → (file : FileNo) (i : ℕ) (p : Command × Answer) → slice_get {X = Command × Answer} (answered list lines) i ≡ Some p → tells_number file p.0 p.1 ≡ true
      → (cpu.0 < script.layout.cpus) × KnowsNumber script.layout (view_of last (seat cpu)) (record { cpu = cpu; seq = i }) file (numbers_after file 0 (take (i + 1) (answered list lines)))
  number-known cpu list lines list_is lines_is file i p there tells =
      let has = rows-of-lines script copies seat last report end cpu lines lines_is in
      let same : has.list ≡ list = same_Some has.list list (sym has.list_is ∙ list_is) in
      let pairs : answers_by list has.own ≡ answered list lines = ap (λ (l : List Answer). zip list l) (sym (ap (answers_to list) has.lines_are ∙ answers-of-rows list has.own (has.served.count ∙ ap (λ (l : List Command). length l) same))) in
      let knows : KnowsNumbers script.layout (view_of last (seat cpu)) cpu list has.own = subst (λ (l : List Command). KnowsNumbers script.layout (view_of last (seat cpu)) cpu l has.own) same has.served.numbers in (
        has.inside,
        subst (λ (l : List (Command × Answer)). slice_get {X = Command × Answer} l i ≡ Some p → KnowsNumber script.layout (view_of last (seat cpu)) (record { cpu = cpu; seq = i }) file (numbers_after file 0 (take (i + 1) l))) pairs
            (λ at. known-by-rows script.layout (view_of last (seat cpu)) cpu list has.own knows file i p at tells) there,
      )

-- ---- a handle's number before a command

-- a command that doesn't tell the number leaves it
untold : (file : FileNo) (n : ℕ) (command : Command) (answer : Answer) → tells_number file command answer ≡ false → number_by file n command answer ≡ n
untold file n (commands.Fsync other) (answers.Eio more) none = let none_more : cond (other.0 == file.0) more 0 ≡ 0 = ap (λ (b : Bool). cond b more 0) none in omega (arith, none_more)
untold file n (commands.Open other) (answers.Opened word) none = ap (λ (b : Bool). cond b word n) none
untold file n command answer none = refl

-- the number before the i-th command is the one that an earlier command told
pub record IsToldBefore (file : FileNo) (list : List (Command × Answer)) (i : ℕ) : Type 0 where
  pub place : ℕ
  pub before : place < i
  pub pair : Command × Answer
  pub there : slice_get {X = Command × Answer} list place ≡ Some pair
  pub tells : tells_number file pair.0 pair.1 ≡ true
  pub same : numbers_after file 0 (take (place + 1) list) ≡ numbers_after file 0 (take i list)

-- or it is 0, where none did
pub told-before : (file : FileNo) (list : List (Command × Answer)) (i : ℕ) → i ≤ length {A = Command × Answer} list → (numbers_after file 0 (take i list) ≡ 0) ⊎ IsToldBefore file list i
told-before file list zero within = inl refl
told-before file list (suc i) within =
    let one : suc i ≤ length {A = Command × Answer} list = within in
    let inside : i < length {A = Command × Answer} list = omega (arith, one) in
    let less : i ≤ length {A = Command × Answer} list = omega (arith, one) in
    let p = there-is {A = Command × Answer} list i inside in
    which (tells_number file p.0.0 p.0.1) p.0 refl p.1 (told-before file list i less)
  where
    next : (p : Command × Answer) → slice_get {X = Command × Answer} list i ≡ Some p → tells_number file p.0 p.1 ≡ false → numbers_after file 0 (take (suc i) list) ≡ numbers_after file 0 (take i list)
    next p there none = numbers-next file 0 list i p there ∙ untold file (numbers_after file 0 (take i list)) p.0 p.1 none

    which : (tells : Bool) (p : Command × Answer) → tells_number file p.0 p.1 ≡ tells → slice_get {X = Command × Answer} list i ≡ Some p → (numbers_after file 0 (take i list) ≡ 0) ⊎ IsToldBefore file list i
        → (numbers_after file 0 (take (suc i) list) ≡ 0) ⊎ IsToldBefore file list (suc i)
    which true p tells there was = inr (record {
      place = i;
      before = omega arith;
      pair = p;
      there = there;
      tells = tells;
      same = ap (λ (k : ℕ). numbers_after file 0 (take k list)) (let one : i + 1 ≡ suc i = omega arith in one);
    })
    which false p none there (inl zero_) = inl (next p there none ∙ zero_)
    which false p none there (inr told) = inr (record {
      place = told.place;
      before = omega (arith, told.before);
      pair = told.pair;
      there = told.there;
      tells = told.tells;
      same = told.same ∙ sym (next p there none);
    })
