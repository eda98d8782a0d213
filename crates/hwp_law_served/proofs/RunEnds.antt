-- The end of a run of processors that are served.
use Rattle.std.proofs.Common.{◌≡◌, ℕ, zero, suc, ◌+◌, ◌<◌, ◌==◌, Bool, true, false, cond, List, [], ◌∷◌, ◌++◌, Option, Some, filter, length, map, slice_get, take, append-nil, append_assoc, refl, sym, ap, ◌∙◌, subst, arith}
use Rattle.std.proofs.lemmas.Bool.{and_from, eq-eqb}
use Rattle.std.proofs.lemmas.Option.{none-some, same_Some, slice_get_within}
use Rattle.hwp_law.specs.hwp_geom.declared.VSlot.{VSlot}
use Rattle.hwp_law.specs.hwp_geom.declared.Cpu.{Cpu}
use Rattle.hwp_law.specs.hwp_geom.declared.Layout.{Layout}
use Rattle.hwp_law.specs.hwp_geom.declared.Who.{Who}
use Rattle.hwp_plain.specs.hwp_core_rule.declared.Made.{Made}
use Rattle.hwp_plain.specs.hwp_core_rule.declared.Part.{Part}
use Rattle.hwp_plain.specs.hwp_core_rule.declared.State.{State}
use Rattle.hwp_plain.specs.hwp_core_rule.declared.View.{View}
use Rattle.hwp_plain.specs.hwp_core_rule.Lists.{EachMember}
use Rattle.hwp_plain.specs.hwp_core_rule.Rule.{Holds}
use Rattle.hwp_plain.specs.hwp_core_rule.Words.{words_of}
use Rattle.hwp_plain.specs.hwp_core_rule.parts.Holdings.{HoldsNothing, IsPast}
use Rattle.hwp_plain.proofs.of_hwp_core_rule.Lists.{at_map}
use Rattle.hwp_plain.proofs.of_hwp_core_rule.NotLater.{one-view}
use Rattle.hwp_plain.specs.hwp_core_rule.Boards.{AreSeated, view_of}
use Rattle.hwp_plain.specs.hwp_core_rule.Known.{deeds, is_by}
use Rattle.hwp_law.specs.hwp_script_words.declared.Command.{Command}
use Rattle.hwp_law.specs.hwp_script_words.declared.Script.{Script}
use Rattle.hwp_law.specs.hwp_report_text.declared.Answer.{Answer}
use Rattle.hwp_law.specs.hwp_report_text.declared.CpuLine.{CpuLine}
use Rattle.hwp_law.specs.hwp_report_text.declared.Report.{Report}
use Rattle.hwp_law.specs.hwp_banks.Banks.{Banks, empty_banks}
use Rattle.hwp_law_served.proofs.Homes.{there-is}
use Rattle.hwp_law_served.proofs.Reported.{IsLast}
use Rattle.hwp_cpu_row.specs.declared.Row.{Row}
use Rattle.hwp_scrub.specs.Visits.{AreBanks}
use Rattle.hwp_law_served.specs.Handles.{answers_by}
use Rattle.hwp_law_served.specs.Rows.{lines_from}
use Rattle.hwp_law_served.specs.Runs.{AreApart, AreRecords, AreServed, notes_of}
use Rattle.hwp_law_served.specs.Served.{AreRowsServed, IsRowServed, IsServed}
use Rattle.hwp_law_served.proofs.lines.LowWords.{AreOfLines}
use Rattle.hwp_law_served.proofs.copied.MadeOrder.{IsOrdered}
use Rattle.hwp_law_served.proofs.lines.ScrubBank.{empty-free, with-free}
use Rattle.hwp_law_served.proofs.lines.SightedLines.{AreSights}
use Rattle.hwp_law_served.proofs.marks.MarkSights.{AreRisingMarks, AreSplit}
use Rattle.hwp_law_served.proofs.lines.Spoils.{AreOfParts}

-- the report is that of the last board of a run, where each processor has served its commands
pub record IsEnd (script : Script) (copies : Who → Option VSlot) (seat : Cpu → ℕ) (last : State) (report : Report) : Type 0 where
  pub board : IsLast script.layout last report
  pub seated : AreSeated script.layout last seat
  pub lists_fit : length script.lists ≡ script.layout.cpus
  pub cpus_fit : length report.cpus ≡ script.layout.cpus
  pub rows : List (List Row)
  pub rows_fit : length rows ≡ script.layout.cpus
  pub served : AreServed script copies seat last rows report.cpus
  pub apart : AreApart script copies
  pub records : AreRecords (notes_of 0 rows) report
  pub low : AreOfLines (words_of script.layout last.words)
  pub marks_rise : EachMember AreRisingMarks last.views
  pub split : EachMember (AreSplit script.layout last) last.views
  pub spoilers : EachMember (AreOfParts last) last.views
  pub sights : EachMember (AreSights script.layout) last.views
  pub ordered : EachMember (IsOrdered script.layout) last.views

-- the row of a command behind the earlier ones with their answers, and what its processor's banks held before it, the scrubber's
-- nothing, and after it
pub record HasRow (layout : Layout) (earlier : List (Command × Answer)) (copied : Option VSlot) (view : View) (who : Who) (command : Command) (there : Option Row) : Type 0 where
  pub row : Row
  pub row_is : there ≡ Some row
  pub before : Banks
  pub free : AreBanks before
  pub after : Banks
  pub served : IsRowServed layout earlier copied view who command before row after

pub row-at : (layout : Layout) (copies : Who → Option VSlot) (earlier : List (Command × Answer)) (view : View) (cpu : Cpu) (n : ℕ) (before : Banks) (list : List Command) (rows : List Row) (after : Banks) (k m : ℕ) (command : Command) → AreRowsServed layout copies earlier view cpu n before list rows after → length rows ≡ length list → slice_get list k ≡ Some command
    → m ≡ n + k → AreBanks before → HasRow layout (earlier ++ take k (answers_by list rows)) (copies (record { cpu = cpu; seq = m })) view (record { cpu = cpu; seq = m }) command (slice_get rows k)
row-at layout copies earlier view cpu n before [] rows after k m command are fit there at free = absurd (none-some command there)
row-at layout copies earlier view cpu n before (c ∷ cs) [] after k m command are fit there at free = absurd (let none : 0 ≡ suc (length cs) = fit in omega arith)
row-at layout copies earlier view cpu n before (c ∷ cs) (row ∷ rows) after zero m command (between, served, rest) fit there at free =
    let same : n ≡ m = omega arith in
    subst (λ (l : List (Command × Answer)). HasRow layout l (copies (record { cpu = cpu; seq = m })) view (record { cpu = cpu; seq = m }) command (Some row)) (sym (append-nil earlier)) (record {
      row = row;
      row_is = refl;
      before = before;
      free = free;
      after = between;
      served = subst (λ (x : Command). IsRowServed layout earlier (copies (record { cpu = cpu; seq = m })) view (record { cpu = cpu; seq = m }) x before row between) (same_Some c command there) (subst (λ (i : ℕ). IsRowServed layout earlier (copies (record { cpu = cpu; seq = i })) view (record { cpu = cpu; seq = i }) c before row between) same served);
    })
row-at layout copies earlier view cpu n before (c ∷ cs) (row ∷ rows) after (suc k) m command (between, served, rest) fit there at free =
    subst (λ (l : List (Command × Answer)). HasRow layout l (copies (record { cpu = cpu; seq = m })) view (record { cpu = cpu; seq = m }) command (slice_get rows k)) (append_assoc earlier ((c, row.answer) ∷ []) (take k (answers_by cs rows)))
    (row-at layout copies (earlier ++ (c, row.answer) ∷ []) view cpu (n + 1) between cs rows after k m command rest (let one : suc (length rows) ≡ suc (length cs) = fit in let same : length rows ≡ length cs = omega arith in same) there (omega arith)
    (with-free layout view (record { cpu = cpu; seq = n }) (copies (record { cpu = cpu; seq = n })) c row.answer before row.told between served.told free))

-- a member that passes the test is one of those that do
pub filter-has : {A : Type 0} (test : A → Bool) (l : List A) (j : ℕ) (x : A) → slice_get l j ≡ Some x → test x ≡ true → (k : ℕ) × (slice_get (filter test l) k ≡ Some x)
filter-has test [] j x there is = absurd (none-some x there)
filter-has {A} test (y ∷ ys) zero x there is = (zero, ap (λ (b : Bool). slice_get (cond b (y ∷ filter test ys) (filter test ys)) zero) (ap test (same_Some y x there) ∙ is) ∙ there)
filter-has {A} test (y ∷ ys) (suc j) x there is = which (test y) (filter-has test ys j x there is)
  where
    which : (b : Bool) → (k : ℕ) × (slice_get (filter test ys) k ≡ Some x) → (k : ℕ) × (slice_get (cond b (y ∷ filter test ys) (filter test ys)) k ≡ Some x)
    which true rest = (suc rest.0, rest.1)
    which false rest = rest

-- what holds of a command's entries holds of each entry that is listed as its
pub of-deeds : (P : Made → Type 0) (view : View) (who : Who) (j : ℕ) (m : Made) → EachMember P (deeds who view) → slice_get view.made j ≡ Some m → m.entry.who ≡ who → P m
of-deeds P view who j m each there own =
    let by : is_by who m ≡ true = and_from (m.entry.who.cpu.0 == who.cpu.0) (m.entry.who.seq == who.seq) (eq-eqb m.entry.who.cpu.0 who.cpu.0 (ap (λ (w : Who). w.cpu.0) own)) (eq-eqb m.entry.who.seq who.seq (ap (λ (w : Who). w.seq) own)) in
    let found = filter-has (is_by who) view.made j m there by in
    each found.0 m found.1

-- a command, with its row and what its view knows of it
pub record IsOf (script : Script) (copies : Who → Option VSlot) (rows : List (List Row)) (view : View) (who : Who) : Type 0 where
  pub inside : who.cpu.0 < script.layout.cpus
  pub list : List Command
  pub list_is : slice_get script.lists who.cpu.0 ≡ Some list
  pub own : List Row
  pub own_is : slice_get rows who.cpu.0 ≡ Some own
  pub command : Command
  pub command_is : slice_get list who.seq ≡ Some command
  pub row : Row
  pub row_is : slice_get own who.seq ≡ Some row
  pub before : Banks
  pub free : AreBanks before
  pub after : Banks
  pub earlier : List (Command × Answer)
  pub earlier_is : earlier ≡ take who.seq (answers_by list own)
  pub served : IsRowServed script.layout earlier (copies who) view who command before row after

-- its row is the one that stands at its number
pub same-row : {script : Script} {copies : Who → Option VSlot} {rows : List (List Row)} {view : View} {who : Who} (of : IsOf script copies rows view who) (own : List Row) (row : Row) → slice_get rows who.cpu.0 ≡ Some own → slice_get own who.seq ≡ Some row → of.row ≡ row
same-row {who = who} of own row own_is row_is = same_Some of.row row (sym of.row_is ∙ ap (λ (l : List Row). slice_get l who.seq) (same_Some of.own own (sym of.own_is ∙ own_is)) ∙ row_is)

-- a view that has a processor is the one of the processor's seat
pub seat-view : (layout : Layout) (seat : Cpu → ℕ) (last : State) → Holds layout last → AreSeated layout last seat → (i k : ℕ) (v : View) (p : Part) → slice_get last.views i ≡ Some v → slice_get v.parts k ≡ Some p
    → (p.cpu.0 < layout.cpus) × (v ≡ view_of last (seat p.cpu))
seat-view layout seat last holds seated i k v p view part =
    let rule = holds.rule.processors.processors in
    let inside : p.cpu.0 < layout.cpus = rule.declared i v.parts (at_map (λ (x : View). x.parts) last.views i v view) k p part in
    let there = seated.there p.cpu inside in
    let own = seated.own p.cpu inside in
    let same : i ≡ seat p.cpu = one-view layout (map (λ (x : View). x.parts) last.views) rule i (seat p.cpu) k own.0 v.parts (view_of last (seat p.cpu)).parts p own.1
    (at_map (λ (x : View). x.parts) last.views i v view) (at_map (λ (x : View). x.parts) last.views (seat p.cpu) (view_of last (seat p.cpu)) there) part own.2 (sym own.3) in
    (inside, same_Some v (view_of last (seat p.cpu)) (sym view ∙ ap (slice_get last.views) same ∙ there))

-- where no processor's seat holds anything, no view does: a view without processors holds nothing
pub nothing-held : (layout : Layout) (seat : Cpu → ℕ) (last : State) → Holds layout last → AreSeated layout last seat → ((cpu : Cpu) → cpu.0 < layout.cpus → HoldsNothing (view_of last (seat cpu))) → EachMember HoldsNothing last.views
nothing-held layout seat last holds seated none i v view = which v.parts refl
  where
    which : (parts : List Part) → v.parts ≡ parts → HoldsNothing v
    which [] empty = holds.held.nothing i v view empty
    which (p ∷ ps) some =
        let own = seat-view layout seat last holds seated i 0 v p view (ap (λ (l : List Part). slice_get l 0) some) in
        subst HoldsNothing (sym own.1) (none p.cpu own.0)

module _ (script : Script) (copies : Who → Option VSlot) (seat : Cpu → ℕ) (last : State) (report : Report) (end : IsEnd script copies seat last report) where
  -- the view that lists what a processor did is its seat's
  pub own-view : (i : ℕ) (v : View) (who : Who) → slice_get last.views i ≡ Some v → IsPast v.parts who → (who.cpu.0 < script.layout.cpus) × (v ≡ view_of last (seat who.cpu))
  own-view i v who view past = subst (λ (c : Cpu). (c.0 < script.layout.cpus) × (v ≡ view_of last (seat c))) past.3.0 (seat-view script.layout seat last end.board.holds end.seated i past.0 v past.1 view past.2)

  -- a processor of the layout has a list, and rows
  pub list-of : (cpu : Cpu) → cpu.0 < script.layout.cpus → (list : List Command) × (slice_get script.lists cpu.0 ≡ Some list)
  list-of cpu inside = there-is script.lists cpu.0 (subst (λ (n : ℕ). cpu.0 < n) (sym end.lists_fit) inside)

  pub rows-of : (cpu : Cpu) → cpu.0 < script.layout.cpus → (own : List Row) × (slice_get end.rows cpu.0 ≡ Some own)
  rows-of cpu inside = there-is end.rows cpu.0 (subst (λ (n : ℕ). cpu.0 < n) (sym end.rows_fit) inside)

  -- the processor has served its commands, and its lines in the report are those of its rows
  pub served-of : (cpu : Cpu) (list : List Command) (own : List Row) → slice_get script.lists cpu.0 ≡ Some list → slice_get end.rows cpu.0 ≡ Some own
      → IsServed script.layout copies (view_of last (seat cpu)) cpu list own × (slice_get report.cpus cpu.0 ≡ Some (lines_from 0 own))
  served-of cpu list own list_is own_is = end.served cpu list own list_is own_is

  -- the rows that the lines of a processor in the report are of
  pub record HasRows (cpu : Cpu) (lines : List CpuLine) : Type 0 where
    pub inside : cpu.0 < script.layout.cpus
    pub list : List Command
    pub list_is : slice_get script.lists cpu.0 ≡ Some list
    pub own : List Row
    pub own_is : slice_get end.rows cpu.0 ≡ Some own
    pub served : IsServed script.layout copies (view_of last (seat cpu)) cpu list own
    pub lines_are : lines ≡ lines_from 0 own

  pub rows-of-lines : (cpu : Cpu) (lines : List CpuLine) → slice_get report.cpus cpu.0 ≡ Some lines → HasRows cpu lines
  rows-of-lines cpu lines lines_is =
      let inside : cpu.0 < script.layout.cpus = subst (λ (n : ℕ). cpu.0 < n) end.cpus_fit (slice_get_within report.cpus cpu.0 lines lines_is) in
      let list = list-of cpu inside in
      let own = rows-of cpu inside in
      let served = served-of cpu list.0 own.0 list.1 own.1 in
      record {
        inside = inside;
        list = list.0;
        list_is = list.1;
        own = own.0;
        own_is = own.1;
        served = served.0;
        lines_are = same_Some lines (lines_from 0 own.0) (sym lines_is ∙ served.1);
      }

  -- a command of a processor, by its number
  pub command-of : (who : Who) (list : List Command) (command : Command) → slice_get script.lists who.cpu.0 ≡ Some list → slice_get list who.seq ≡ Some command → IsOf script copies end.rows (view_of last (seat who.cpu)) who
  command-of who list command list_is command_is =
      let inside : who.cpu.0 < script.layout.cpus = subst (λ (n : ℕ). who.cpu.0 < n) end.lists_fit (slice_get_within script.lists who.cpu.0 list list_is) in
      let own = rows-of who.cpu inside in
      let served = (served-of who.cpu list own.0 list_is own.1).0 in
      let has = row-at script.layout copies [] (view_of last (seat who.cpu)) who.cpu 0 empty_banks list own.0 served.banks who.seq who.seq command served.rows_are served.count command_is (omega arith) empty-free in
      record {
        inside = inside;
        list = list;
        list_is = list_is;
        own = own.0;
        own_is = own.1;
        command = command;
        command_is = command_is;
        row = has.row;
        row_is = has.row_is;
        before = has.before;
        free = has.free;
        after = has.after;
        earlier = take who.seq (answers_by list own.0);
        earlier_is = refl;
        served = has.served;
      }

  -- the command of an entry that a view lists
  pub of-made : (i j : ℕ) (v : View) (m : Made) → slice_get last.views i ≡ Some v → slice_get v.made j ≡ Some m → IsOf script copies end.rows v m.entry.who
  of-made i j v m view made =
      let past = (end.board.holds.rule.processors.commands.own i v view).made j m made in
      let own = own-view i v m.entry.who view past in
      let list = list-of m.entry.who.cpu own.0 in
      let rows = rows-of m.entry.who.cpu own.0 in
      let served = (served-of m.entry.who.cpu list.0 rows.0 list.1 rows.1).0 in
      let begun = served.made j m (sym (ap (λ (x : View). slice_get x.made j) own.1) ∙ made) in
      let command = there-is list.0 m.entry.who.seq begun.1 in
      subst (λ (x : View). IsOf script copies end.rows x m.entry.who) (sym own.1) (command-of m.entry.who list.0 command.0 list.1 command.1)
