-- A store that copied a page and was answered `stored` left on each line of the twin's page the word that it loaded from the line, and on one
-- line its own.
use Rattle.std.proofs.Common.{◌≡◌, ◌≢◌, ℕ, ◌<◌, ◌==◌, Bool, if◌then◌else◌, List, ◌++◌, append-nil, Option, None, Some, filter_map, map, option_and_then, slice_get, refl, sym, ap, ◌∙◌, subst}
use Rattle.std.proofs.lemmas.Bool.{eq-eqb, ne_eqb}
use Rattle.std.proofs.lemmas.Option.{none-some, same_Some}
use Rattle.hwp_law.specs.hwp_geom.declared.Cpu.{Cpu}
use Rattle.hwp_law.specs.hwp_geom.declared.Layout.{Layout}
use Rattle.hwp_law.specs.hwp_geom.declared.Page.{Page}
use Rattle.hwp_law.specs.hwp_geom.declared.Thread.{Thread}
use Rattle.hwp_law.specs.hwp_geom.declared.VSlot.{VSlot}
use Rattle.hwp_law.specs.hwp_geom.declared.Who.{Who}
use Rattle.hwp_law.specs.hwp_geom.Limits.{line_limit}
use Rattle.hwp_law.specs.hwp_banks.Banks.{Banks}
use Rattle.hwp_law.specs.hwp_page.declared.At.{At}
use Rattle.hwp_law.specs.hwp_page.declared.Met.TheVariants.{Word}
use Rattle.hwp_law.specs.hwp_page.declared.What.{What}
use Rattle.hwp_law.specs.hwp_page.declared.What.TheVariants as entries
use Rattle.hwp_plain.specs.hwp_core_rule.declared.Made.{Made}
use Rattle.hwp_plain.specs.hwp_core_rule.declared.State.{State}
use Rattle.hwp_plain.specs.hwp_core_rule.Lists.{EachMember, SomeMember}
use Rattle.hwp_plain.proofs.of_hwp_core_rule.Lists.{at_map}
use Rattle.hwp_plain.specs.hwp_core_rule.Boards.{view_of}
use Rattle.hwp_plain.specs.hwp_core_rule.Known.{deeds}
use Rattle.hwp_law.specs.hwp_script_words.declared.Command.{Command}
use Rattle.hwp_law.specs.hwp_script_words.declared.Command.TheVariants as commands
use Rattle.hwp_law.specs.hwp_script_words.declared.Script.{Script}
use Rattle.hwp_law.specs.hwp_report_text.declared.Answer.TheVariants as answers
use Rattle.hwp_law.specs.hwp_report_text.declared.Report.{Report}
use Rattle.hwp_law.specs.Commands.{command_at}
use Rattle.hwp_law.specs.Copies.{own_in}
use Rattle.hwp_law.specs.Lines.{answer_of}
use Rattle.hwp_law.specs.Private.{last_word, word_in}
use Rattle.hwp_cpu_row.specs.hwp_claim.declared.EventOutcome.{EventOutcome}
use Rattle.hwp_cpu_access.specs.hwp_fault.declared.Request.{Request}
use Rattle.hwp_cpu_access.specs.hwp_fork.Cows as cows
use Rattle.hwp_cpu_access.specs.Copyings.{load_of}
use Rattle.hwp_cpu_access.specs.Runs.{made_by}
use Rattle.hwp_law_served.specs.Causes.{IsCausedWith}
use Rattle.hwp_law_served.specs.Copied.{HasCopied, HasSwitched, store_by, sub_next}
use Rattle.hwp_law_served.proofs.RowLines.{answer-told}
use Rattle.hwp_law_served.proofs.RunEnds.{IsEnd, IsOf, command-of, filter-has}
use Rattle.hwp_law_served.proofs.deeds.Made.{command-is}
use Rattle.hwp_law_served.proofs.copied.CopyCounts.{IsPlaced, runs-placed}
use Rattle.hwp_law_served.proofs.copied.CopyEntries.{declared-of}
use Rattle.hwp_law_served.proofs.copied.OwnIn.{in_page, own-deeds}
use Rattle.hwp_law_served.proofs.copied.WordsKept.{IsKept, ends_on, kept-from, left-page}

-- the entry loaded the word from the line
pub record HasLoaded (from : VSlot) (line word : ℕ) (what : What) : Type 0 where
  pub mask : ℕ
  pub what_is : what ≡ entries.Load from line (Word (record { 0 = mask }) word)

-- of the command: whatever the line held before, behind its entries it holds this word, its own or one that it loaded
pub record HasKept (layout : Layout) (report : Report) (who : Who) (from to : VSlot) (own word line : ℕ) : Type 0 where
  pub stored : ℕ
  pub last : (before : ℕ) → last_word before (filter_map (word_in line) (own_in layout report who to)) ≡ stored
  pub same : own ≡ line → stored ≡ word
  pub other : own ≢ line → SomeMember (HasLoaded from line stored) (own_in layout report who from)

-- the command of a script with its row
pub of-command : (script : Script) (copies : Who → Option VSlot) (seat : Cpu → ℕ) (last : State) (report : Report) (end : IsEnd script copies seat last report) (who : Who) (command : Command) → command_at script who ≡ Some command → IsOf script copies end.rows (view_of last (seat who.cpu)) who
of-command script copies seat last report end who command is = which (slice_get script.lists who.cpu.0) refl is
  where
    which : (o : Option (List Command)) → slice_get script.lists who.cpu.0 ≡ o → option_and_then (λ (l : List Command). slice_get l who.seq) o ≡ Some command → IsOf script copies end.rows (view_of last (seat who.cpu)) who
    which None none at = absurd (none-some command at)
    which (Some list) some at = command-of script copies seat last report end who list command some at

module _ (script : Script) (copies : Who → Option VSlot) (seat : Cpu → ℕ) (last : State) (report : Report) (end : IsEnd script copies seat last report) where
  -- of the copy itself
  kept-by : (who : Who) → who.cpu.0 < script.layout.cpus → (from : VSlot) (word line : ℕ) (before : Banks) (store : Request) → store.who ≡ who → (has : HasCopied script.layout (view_of last (seat who.cpu)) store from word before) {told : List EventOutcome} (at : At)
      → HasSwitched has.page (sub_next store from word has.runs) has.runs has.rest told at → line < line_limit → HasKept script.layout report who from store.slot store.line word line
  kept-by who inside from word line before store who_is has {told} at switched within = record {
    stored = ends_on line (cows.begin from store.slot store.line word) kept.word;
    last = left;
    same = λ is. ap (λ (b : Bool). if b then word else kept.word) (eq-eqb store.line line is);
    other = λ differs. subst (λ (n : ℕ). SomeMember (HasLoaded from line n) (own_in script.layout report who from)) (sym (ap (λ (b : Bool). if b then word else kept.word) (ne_eqb store.line line differs))) loaded;
  }
    where
      all : deeds who (view_of last (seat who.cpu)) ≡ made_by has.runs
      all = ap (λ (w : Who). deeds w (view_of last (seat who.cpu))) (sym who_is) ∙ has.all ∙ ap (λ (l : List Made). made_by has.runs ++ l) switched.rest_is ∙ append-nil (made_by has.runs)

      kept : IsKept line (cows.begin from store.slot store.line word) has.page (made_by has.runs)
      kept = kept-from line within script.layout (view_of last (seat who.cpu)) store has.page from store.slot store.line word before has.runs has.are switched.sub_is

      placed : EachMember (IsPlaced store has.page) (made_by has.runs)
      placed = runs-placed script.layout (view_of last (seat who.cpu)) store from word before has

      to_is : own_in script.layout report who store.slot ≡ map (λ (m : Made). m.entry.what) (in_page store.page (made_by has.runs))
      to_is = own-deeds script copies seat last report end who inside store.slot store.page has.names.page (declared-of script.layout store has.names) ∙ ap (λ (l : List Made). map (λ (m : Made). m.entry.what) (in_page store.page l)) all

      from_is : own_in script.layout report who from ≡ map (λ (m : Made). m.entry.what) (in_page has.page (made_by has.runs))
      from_is = own-deeds script copies seat last report end who inside from has.page has.own.page (declared-of script.layout (load_of store has.page from 0) has.own) ∙ ap (λ (l : List Made). map (λ (m : Made). m.entry.what) (in_page has.page l)) all

      left : (b : ℕ) → last_word b (filter_map (word_in line) (own_in script.layout report who store.slot)) ≡ ends_on line (cows.begin from store.slot store.line word) kept.word
      left b = ap (λ (l : List What). last_word b (filter_map (word_in line) l)) to_is ∙ left-page line store.page (made_by has.runs) b (λ i m there. (placed i m there).stores) ∙ kept.left b

      loaded : SomeMember (HasLoaded from line kept.word) (own_in script.layout report who from)
      loaded =
          let some = kept.loaded in
          let is = some.3 in
          let there = filter-has (λ (m : Made). m.page.0 == has.page.0) (made_by has.runs) some.0 some.1 some.2 (eq-eqb some.1.page.0 has.page.0 (ap (λ (p : Page). p.0) is.page_is)) in
          subst (SomeMember (HasLoaded from line kept.word)) (sym from_is)
          (there.0, some.1.entry.what, at_map (λ (m : Made). m.entry.what) (in_page has.page (made_by has.runs)) there.0 some.1 there.1, record { mask = is.mask; what_is = is.what_is })

  pub kept-words : (who : Who) (thread : Thread) (from to : VSlot) (own word line : ℕ) (at : At) → command_at script who ≡ Some (commands.Store thread to own word) → copies who ≡ Some from → answer_of report who ≡ Some (answers.Stored at) → line < line_limit
      → HasKept script.layout report who from to own word line
  kept-words who thread from to own word line at command_is copied answered within = by (of-command script copies seat last report end who (commands.Store thread to own word) command_is)
    where
      by : (of : IsOf script copies end.rows (view_of last (seat who.cpu)) who) → HasKept script.layout report who from to own word line
      by of =
          let its : of.command ≡ commands.Store thread to own word = same_Some of.command (commands.Store thread to own word) (sym (command-is script who of.list of.command of.list_is of.command_is) ∙ command_is) in
          let answer_is : of.row.answer ≡ answers.Stored at = same_Some of.row.answer (answers.Stored at) (sym (answer-told script copies seat last report end (view_of last (seat who.cpu)) who of) ∙ answered) in
          let caused = subst (λ (c : Command). IsCausedWith script.layout of.earlier (Some from) (view_of last (seat who.cpu)) who c of.before of.row.told of.row.own (answers.Stored at)) its
          (subst (IsCausedWith script.layout of.earlier (Some from) (view_of last (seat who.cpu)) who of.command of.before of.row.told of.row.own) answer_is
          (subst (λ (o : Option VSlot). IsCausedWith script.layout of.earlier o (view_of last (seat who.cpu)) who of.command of.before of.row.told of.row.own of.row.answer) copied of.served.caused)) in
          kept-by who of.inside from word line of.before (store_by who thread to own word caused.page caused.process) refl caused.has at caused.ended.1 within
