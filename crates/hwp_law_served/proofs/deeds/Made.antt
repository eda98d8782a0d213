-- Each entry of the report is one that its command makes, and one that answers it is named.
use Rattle.std.proofs.Common.{◌≡◌, ◌≢◌, inl, inr, ℕ, Bool, true, false, List, [], Option, Some, IsTrue, slice_get, option_and_then, refl, sym, ap, ◌∙◌, subst, arith}
use Rattle.std.proofs.lemmas.Option.{none-some}
use Rattle.std.specs.Prelude.{IsSomeAnd}
use Rattle.hwp_law.specs.hwp_geom.declared.VSlot.{VSlot}
use Rattle.hwp_law.specs.hwp_geom.declared.Cpu.{Cpu}
use Rattle.hwp_law.specs.hwp_geom.declared.Layout.{Layout}
use Rattle.hwp_law.specs.hwp_geom.declared.Page.{Page}
use Rattle.hwp_law.specs.hwp_geom.declared.Who.{Who}
use Rattle.hwp_law.specs.hwp_page.declared.At.{At}
use Rattle.hwp_law.specs.hwp_page.declared.Entry.{Entry}
use Rattle.hwp_law.specs.hwp_page.declared.What.{What}
use Rattle.hwp_law.specs.hwp_page.declared.What.TheVariants as entries
use Rattle.hwp_plain.specs.hwp_core_rule.declared.Made.{Made}
use Rattle.hwp_plain.specs.hwp_core_rule.declared.State.{State}
use Rattle.hwp_plain.specs.hwp_core_rule.declared.View.{View}
use Rattle.hwp_law.specs.hwp_script_words.declared.Command.{Command}
use Rattle.hwp_law.specs.hwp_script_words.declared.Command.TheVariants as commands
use Rattle.hwp_law.specs.hwp_script_words.declared.Script.{Script}
use Rattle.hwp_law.specs.hwp_report_text.Offlines.{offline_answer}
use Rattle.hwp_law.specs.hwp_report_text.declared.Answer.{Answer}
use Rattle.hwp_law.specs.hwp_report_text.declared.Answer.TheVariants as answers
use Rattle.hwp_law.specs.hwp_report_text.declared.CpuLine.{CpuLine}
use Rattle.hwp_law.specs.hwp_report_text.declared.CpuLine.TheVariants as lines
use Rattle.hwp_law.specs.hwp_report_text.declared.OfflineResult.{OfflineResult}
use Rattle.hwp_law.specs.hwp_report_text.declared.OfflineResult.TheVariants as results
use Rattle.hwp_law.specs.hwp_report_text.declared.Report.{Report}
use Rattle.hwp_law.specs.Answers.{IsNamed, named_in}
use Rattle.hwp_law.specs.Copies.{AreNamed, must_be_named}
use Rattle.hwp_law.specs.Entries.{AreMadeBy, CanStandIn, Makes}
use Rattle.hwp_law.specs.Commands.{can_offline, command_at, has_watch}
use Rattle.hwp_law.specs.Lines.{seq_of}
use Rattle.hwp_law.specs.Places.{entry_at}
use Rattle.hwp_law.specs.States.{entry_named}
use Rattle.hwp_law.proofs.Extents.{makes-watched}
use Rattle.hwp_law_served.proofs.Reported.{entry-listed}
use Rattle.hwp_cpu_row.specs.declared.Offlining.{Offlining}
use Rattle.hwp_cpu_row.specs.declared.Row.{Row}
use Rattle.hwp_law_served.specs.Causes.{IsBeside}
use Rattle.hwp_law_served.specs.Offlinings.{left_at, left_itself, place_of}
use Rattle.hwp_law_served.specs.Rows.{lines_from, offlined_line}
use Rattle.hwp_law_served.proofs.deeds.Beside.{IsLeftBy, left-told, soft-is}
use Rattle.hwp_law_served.proofs.copied.CopyEntries.{IsDeedWith, IsDoneWith, MakesWith, deeds-with}
use Rattle.hwp_law_served.proofs.RunEnds.{IsEnd, IsOf, of-deeds, of-made, served-of}
use Rattle.hwp_law_served.proofs.RowLines.{answer-line, offlined-there}
use Rattle.hwp_law_served.proofs.lines.Offlines.{can-offline}

-- what there is has the property
pub some-so : {A : Type 0} (P : A → Type 0) (o : Option A) (x : A) → o ≡ Some x → P x → IsSomeAnd o P
some-so P o x is here = subst (λ (y : Option _). IsSomeAnd y P) (sym is) here

pub command-is : (script : Script) (who : Who) (list : List Command) (command : Command) → slice_get script.lists who.cpu.0 ≡ Some list → slice_get list who.seq ≡ Some command → command_at script who ≡ Some command
command-is script who list command list_is there = ap (λ (o : Option (List Command)). option_and_then (λ (l : List Command). slice_get l who.seq) o) list_is ∙ there

-- an entry of the report, its command and what it is of it
pub record Does (script : Script) (copies : Who → Option VSlot) (rows : List (List Row)) (cpus : List (List CpuLine)) (at : At) (e : Entry) : Type 0 where
  pub view : View
  pub of : IsOf script copies rows view e.who
  pub makes : MakesWith script.layout (has_watch script) (copies e.who) of.command at.page e.what
  pub named : IsTrue (must_be_named (copies e.who) e.what) → IsNamed cpus at e

-- whether the script has a `watch` matters for frames that are taken out of use alone
watched-with : (layout : Layout) (watches : Bool) (copied : Option VSlot) (command : Command) (page : Page) (what : What) → MakesWith layout false copied command page what → MakesWith layout watches copied command page what
watched-with layout watches copied command page what (inl (makes, stands)) = inl (makes-watched watches command what makes, stands)
watched-with layout watches copied command page what (inr copy) = inr copy

-- a page leaves a frame by a command that is for that, or by one that can have frames taken out of use beside it, in a script with a
-- `watch`
makes-beside : (watches : Bool) (command : Command) → (watches ≡ true) × (can_offline command ≡ true) → Makes watches command entries.Soft
makes-beside watches (commands.Soft frame) can = tt
makes-beside watches command can = can

makes-itself : (watches : Bool) (command : Command) (answer : Answer) (at : At) → left_itself command answer ≡ Some at → Makes watches command entries.Soft × (entry_named answer ≡ Some at)
makes-itself watches (commands.Soft frame) (answers.Moved other place) at is = (tt, is)
makes-itself watches command answer at is = absurd (none-some at is)

result-named : (result : OfflineResult) (at : At) → left_at result ≡ Some at → entry_named (offline_answer result) ≡ Some at
result-named (results.Moved other place) at is = is
result-named result at is = absurd (none-some at is)

stands-beside : (layout : Layout) (command : Command) (page : Page) (what : What) → what ≡ entries.Soft → CanStandIn layout command page what
stands-beside layout command page what is = subst (CanStandIn layout command page) (sym is) tt

module _ (script : Script) (copies : Who → Option VSlot) (seat : Cpu → ℕ) (last : State) (report : Report) (end : IsEnd script copies seat last report) where
  -- a line of the entry's command that names the place
  named-by : (view : View) (at : At) (e : Entry) → IsOf script copies end.rows view e.who → (line : CpuLine) → (own : List Row) → slice_get report.cpus e.who.cpu.0 ≡ Some (lines_from 0 own) → (i : ℕ) × (slice_get (lines_from 0 own) i ≡ Some line) → seq_of line ≡ e.who.seq → named_in line ≡ Some at
      → IsNamed report.cpus at e
  named-by view at e of line own lines_are (i, there) number names =
      (line, i, some-so (λ (rows : List CpuLine). slice_get rows i ≡ Some line) (slice_get report.cpus e.who.cpu.0) (lines_from 0 own) lines_are there, number, names)

  module _ (view : View) (at : At) (e : Entry) (of : IsOf script copies end.rows view e.who) where
    lines_are : slice_get report.cpus e.who.cpu.0 ≡ Some (lines_from 0 of.own)
    lines_are = (served-of script copies seat last report end e.who.cpu of.list of.own of.list_is of.own_is).1

    -- its answer does
    by-answer : entry_named of.row.answer ≡ Some at → IsNamed report.cpus at e
    by-answer names = named-by view at e of (lines.Answer e.who.seq of.row.answer) of.own lines_are (answer-line 0 of.own e.who.seq e.who.seq of.row of.row_is (omega arith)) refl names

    -- an entry by which a page left a frame
    left : e.what ≡ entries.Soft → IsLeftBy of.command of.row at → Does script copies end.rows report.cpus at e
    left soft (inl itself) =
        let own = makes-itself (has_watch script) of.command of.row.answer at itself in
        record {
          view = view;
          of = of;
          makes = inl (subst (Makes (has_watch script) of.command) (sym soft) own.0, stands-beside script.layout of.command at.page e.what soft);
          named = λ answers. by-answer own.1;
        }
    left soft (inr told) =
        let some : of.row.offlined ≢ [] = λ none. none-some told.offlining (sym (ap (λ (l : List Offlining). slice_get l told.k) none) ∙ told.there) in
        record {
          view = view;
          of = of;
          makes = inl (subst (Makes (has_watch script) of.command) (sym soft) (makes-beside (has_watch script) of.command (can-offline script copies seat last report end view e.who of some)), stands-beside script.layout of.command at.page e.what soft);
          named = λ answers. named-by view at e of (offlined_line e.who.seq told.offlining) of.own lines_are (offlined-there 0 of.own e.who.seq e.who.seq of.row told.k told.offlining of.row_is (omega arith) told.there) refl
              (result-named told.offlining.result at told.left);
        }

    -- one that the command makes
    done : (m : Made) → m.entry ≡ e → m.page ≡ at.page → m.place ≡ at.entry → IsDeedWith script.layout (copies e.who) of.command of.row.answer m → Does script copies end.rows report.cpus at e
    done m entry_is page_is place_is deed = record {
      view = view;
      of = of;
      makes = subst (λ (x : Entry). MakesWith script.layout (has_watch script) (copies e.who) of.command at.page x.what) entry_is
          (subst (λ (p : Page). MakesWith script.layout (has_watch script) (copies e.who) of.command p m.entry.what) page_is (watched-with script.layout (has_watch script) (copies e.who) of.command m.page m.entry.what deed.makes));
      named = λ answers. by-answer
          (deed.named (subst (λ (x : Entry). IsTrue (must_be_named (copies e.who) x.what)) (sym entry_is) answers)
          ∙ ap (λ (p : Page). Some (record { page = p; entry = m.place })) page_is ∙ ap (λ (n : ℕ). Some (record { page = at.page; entry = n })) place_is);
    }

  pub does : (at : At) (e : Entry) → entry_at report.pages at ≡ Some e → Does script copies end.rows report.cpus at e
  does at e is =
      let listed = entry-listed script.layout last report end.board at e is in
      let made = listed.3 in
      let that = made.3 in
      let of : IsOf script copies end.rows listed.1 e.who = subst (λ (x : Entry). IsOf script copies end.rows listed.1 x.who) that.entry_is (of-made script copies seat last report end listed.0 made.0 listed.1 made.1 listed.2 made.2) in
      let own : made.1.entry.who ≡ e.who = ap (λ (x : Entry). x.who) that.entry_is in
      let place : place_of made.1 ≡ at = ap (λ (p : Page). record { page = p; entry = made.1.place }) that.page_is ∙ ap (λ (n : ℕ). record { page = at.page; entry = n }) that.place_is in
      let told : IsBeside made.1 → IsLeftBy of.command of.row (place_of made.1) = of-deeds (λ (m : Made). IsBeside m → IsLeftBy of.command of.row (place_of m)) listed.1 e.who made.0 made.1 (left-told listed.1 e.who of.command of.row of.served.beside) made.2 own in
      which made.1 that.entry_is that.page_is that.place_is listed.1 of place told
      (of-deeds (IsDoneWith script.layout (copies e.who) of.command of.row.answer) listed.1 e.who made.0 made.1 (deeds-with script.layout of.earlier (copies e.who) listed.1 e.who of.command of.before of.row of.served.caused of.served.accounted) made.2 own)
    where
      which : (m : Made) → m.entry ≡ e → m.page ≡ at.page → m.place ≡ at.entry → (view : View) (of : IsOf script copies end.rows view e.who) → place_of m ≡ at → (IsBeside m → IsLeftBy of.command of.row (place_of m)) → IsDoneWith script.layout (copies e.who) of.command of.row.answer m
          → Does script copies end.rows report.cpus at e
      which m entry_is page_is place_is view of place told (inl deed) = done view at e of m entry_is page_is place_is deed
      which m entry_is page_is place_is view of place told (inr beside) =
          left view at e of (sym (ap (λ (x : Entry). x.what) entry_is) ∙ soft-is m.entry.what beside) (subst (IsLeftBy of.command of.row) place (told beside))

  pub entries-made-by : AreMadeBy script copies report.pages
  entries-made-by at e is =
      let d = does at e is in
      some-so (λ (command : Command). MakesWith script.layout (has_watch script) (copies e.who) command at.page e.what) (command_at script e.who) d.of.command (command-is script e.who d.of.list d.of.command d.of.list_is d.of.command_is)
      d.makes

  pub entries-named : AreNamed copies report.pages report.cpus
  entries-named at e is answers = (does at e is).named answers
