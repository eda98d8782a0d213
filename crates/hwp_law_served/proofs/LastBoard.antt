-- The last board of a run, and what the report of a run shows beside its law.
use Rattle.std.proofs.Common.{◌≡◌, ◌⊎◌, ℕ, ◌<◌, ◌≤◌, List, [], Option, None, Some, slice_get, option_and_then, option_map, refl, sym, ap, ◌∙◌, subst, inl, inr}
use Rattle.std.proofs.lemmas.Bool.{cases_lt}
use Rattle.std.specs.Option.{option_map_or}
use Rattle.std.proofs.lemmas.Option.{none-some, same_Some}
use Rattle.hwp_law.specs.hwp_geom.declared.Cpu.{Cpu}
use Rattle.hwp_law.specs.hwp_geom.declared.Layout.{Layout}
use Rattle.hwp_law.specs.hwp_geom.declared.Thread.{Thread}
use Rattle.hwp_law.specs.hwp_geom.declared.VSlot.{VSlot}
use Rattle.hwp_law.specs.hwp_geom.declared.Who.{Who}
use Rattle.hwp_law.specs.hwp_page.Step as pages
use Rattle.hwp_plain.specs.hwp_core_rule.declared.State.{State}
use Rattle.hwp_plain.specs.hwp_core_rule.declared.View.{View}
use Rattle.hwp_plain.specs.hwp_core_rule.Lists.{EachMember}
use Rattle.hwp_plain.specs.hwp_core_rule.Opening.{opening}
use Rattle.hwp_plain.specs.hwp_core_rule.Rule.{Holds}
use Rattle.hwp_plain.specs.hwp_core_rule.parts.Holdings.{HoldsNothing}
use Rattle.hwp_plain.proofs.of_hwp_core_rule.Lists.{each-weaken}
use Rattle.hwp_plain.specs.hwp_core_rule.Boards.{Played, view_of}
use Rattle.hwp_law.specs.hwp_script_words.declared.Command.{Command}
use Rattle.hwp_law.specs.hwp_script_words.declared.Command.TheVariants as commands
use Rattle.hwp_law.specs.hwp_script_words.declared.Script.{Script}
use Rattle.hwp_law.specs.hwp_report_text.declared.Answer.{Answer}
use Rattle.hwp_law.specs.hwp_report_text.declared.Answer.TheVariants as answers
use Rattle.hwp_law.specs.hwp_report_text.declared.CpuLine.{CpuLine}
use Rattle.hwp_law.specs.hwp_report_text.declared.CpuLine.TheVariants as lines
use Rattle.hwp_law.specs.hwp_report_text.declared.Report.{Report}
use Rattle.hwp_law.proofs.ActingLaws.{slot-uncopied}
use Rattle.hwp_law.specs.Copies.{ended_through}
use Rattle.hwp_law.specs.Runs.{StopsFirst, WasOut, WereOut, slot_ended, slot_of}
use Rattle.hwp_law.specs.Commands.{command_at}
use Rattle.hwp_law_served.proofs.Homes.{there-is}
use Rattle.hwp_law_served.proofs.turns.TurnLeads.{leads-hold}
use Rattle.hwp_law_served.proofs.Legal.{run-legal}
use Rattle.hwp_law_served.proofs.turns.SightOrder.{run-rises}
use Rattle.hwp_cpu_row.specs.declared.FrameChange.{FrameChange}
use Rattle.hwp_cpu_row.specs.declared.Row.{Row}
use Rattle.hwp_cpu_row.specs.hwp_claim.declared.EventOutcome.{EventOutcome}
use Rattle.hwp_law_served.specs.Causes.{FoundNoFrame, IsAnswerCaused, IsCausedWith, IsCopyingCaused}
use Rattle.hwp_law_served.specs.Runs.{IsRunOf}
use Rattle.hwp_law_served.proofs.RunKeeps.{run-keeps}
use Rattle.hwp_law_served.proofs.HadStates.{had}
use Rattle.hwp_law_served.proofs.RunEnds.{IsEnd, IsOf, nothing-held}
use Rattle.hwp_law_served.proofs.copied.EndedThrough.{ended-so}
use Rattle.hwp_law_served.proofs.copied.MadeOrder.{IsOrdered, ordered-kept}
use Rattle.hwp_law_served.proofs.marks.MarkSights.{AreRisingMarks, AreSplit, rising-kept, split-kept}
use Rattle.hwp_law_served.proofs.lines.LowWords.{run-low}
use Rattle.hwp_law_served.proofs.lines.SightedLines.{AreSights, sights-kept}
use Rattle.hwp_law_served.proofs.Seen.{saw-at}
use Rattle.hwp_law_served.proofs.lines.Spoils.{AreOfParts, parts-kept}
use Rattle.hwp_law_served.proofs.Stops.{stopper}
use Rattle.hwp_law_served.proofs.Windows.{in-window, line-answers}

-- an access that answers `noframe`, of a thread and of the translation that it names
no-frame-of : (layout : Layout) (earlier : List (Command × Answer)) (view : View) (who : Who) (command : Command) (told : List EventOutcome) (own : Option FrameChange) (slot : VSlot) → slot_of command ≡ Some slot → IsAnswerCaused layout earlier view who command told own answers.NoFrame → (thread : Thread) × (line : ℕ) × FoundNoFrame layout view who thread slot line
no-frame-of layout earlier view who (commands.Load thread s line) told own slot is caused = (thread, line, subst (λ (t : VSlot). FoundNoFrame layout view who thread t line) (same_Some s slot is) caused)
no-frame-of layout earlier view who (commands.Fetch thread s line) told own slot is caused = (thread, line, subst (λ (t : VSlot). FoundNoFrame layout view who thread t line) (same_Some s slot is) caused)
no-frame-of layout earlier view who (commands.KLoad thread s line) told own slot is caused = (thread, line, subst (λ (t : VSlot). FoundNoFrame layout view who thread t line) (same_Some s slot is) caused)
no-frame-of layout earlier view who (commands.Store thread s line word) told own slot is caused = (thread, line, subst (λ (t : VSlot). FoundNoFrame layout view who thread t line) (same_Some s slot is) caused)
no-frame-of layout earlier view who command told own slot is caused = absurd (none-some slot is)

module _ (script : Script) (copies : Who → Option VSlot) (seat : Cpu → ℕ) (turns : List Played) (last : State) (report : Report) (run : IsRunOf script copies seat turns last report) where
  pub holds : Holds script.layout last
  holds = leads-hold script.layout (opening script.layout) last turns run.rule run.moves

  -- nothing is in hand
  pub nothing : EachMember HoldsNothing last.views
  nothing = nothing-held script.layout seat last holds run.seated (λ cpu inside.
      let list = there-is script.lists cpu.0 (subst (λ (n : ℕ). cpu.0 < n) (sym run.lengths.lists) inside) in
      let own = there-is run.rows cpu.0 (subst (λ (n : ℕ). cpu.0 < n) (sym run.lengths.rows_fit) inside) in
      (run.served cpu list.0 own.0 list.1 own.1).0.nothing)

  pub ended : IsEnd script copies seat last report
  ended = record {
    board = record {
      holds = holds;
      legal = run-legal script.layout turns last run.moves;
      rises = run-rises script.layout turns last run.rule run.moves;
      empty = each-weaken HoldsNothing (λ (v : View). v.bodies ≡ []) last.views (λ v none. none.bodies) nothing;
      unlocked = each-weaken HoldsNothing (λ (v : View). v.locks ≡ []) last.views (λ v none. none.locks) nothing;
      ends = run.ends;
      frames_fit = run.lengths.frames;
      pages_fit = run.lengths.pages;
    };
    seated = run.seated;
    lists_fit = run.lengths.lists;
    cpus_fit = run.lengths.cpus;
    rows = run.rows;
    rows_fit = run.lengths.rows_fit;
    served = run.served;
    apart = run.apart;
    records = run.records;
    low = run-low script.layout turns last run.rule run.moves;
    marks_rise = run-keeps script.layout (λ (s : State) (v : View). AreRisingMarks v) (rising-kept script.layout) turns last run.rule run.moves;
    split = run-keeps script.layout (AreSplit script.layout) (split-kept script.layout) turns last run.rule run.moves;
    spoilers = run-keeps script.layout AreOfParts (parts-kept script.layout) turns last run.rule run.moves;
    sights = run-keeps script.layout (λ (s : State) (v : View). AreSights script.layout v) (sights-kept script.layout) turns last run.rule run.moves;
    ordered = run-keeps script.layout (λ (s : State) (v : View). IsOrdered script.layout v) (ordered-kept script.layout) turns last run.rule run.moves;
  }

  -- its rows are those of the run
  pub ended-rows : ended.rows ≡ run.rows
  unfolding ended
  ended-rows = refl

  pub stops-first : StopsFirst report.cpus report.stop
  stops-first s rows i m is rows_is line =
      let by = stopper script copies seat last report ended s is in
      let a = line-answers script copies seat last report ended s.who.cpu rows i m answers.Stopped rows_is line in
      let same : a.of.own ≡ by.rows = same_Some a.of.own by.rows (sym a.of.own_is ∙ by.rows_is) in
      let there : slice_get by.rows m ≡ Some a.of.row = subst (λ (l : List Row). slice_get l m ≡ Some a.of.row) same a.of.row_is in
      which (λ less. by.own.answered.first m a.of.row less there a.answer_is) (cases_lt m s.who.seq)
    where
      which : (m < s.who.seq → ⊥) → (m < s.who.seq) ⊎ (s.who.seq ≤ m) → s.who.seq ≤ m
      which first (inl less) = absurd (first less)
      which first (inr past) = past

  -- an access that copies nothing
  plain-out : (cpu : Cpu) (rows : List CpuLine) (i seq : ℕ) (slot : VSlot) → slice_get report.cpus cpu.0 ≡ Some rows → slice_get rows i ≡ Some (lines.Answer seq answers.NoFrame) → copies (record { cpu = cpu; seq = seq }) ≡ None
      → option_and_then slot_of (command_at script (record { cpu = cpu; seq = seq })) ≡ Some slot → WasOut script report.pages rows (record { cpu = cpu; seq = seq }) slot
  plain-out cpu rows i seq slot rows_is line none of =
      let a = line-answers script copies seat last report ended cpu rows i seq answers.NoFrame rows_is line in
      let who : Who = record { cpu = cpu; seq = seq } in
      let its : slot_of a.of.command ≡ Some slot = sym (ap (λ (o : Option Command). option_and_then slot_of o) a.command_is) ∙ of in
      let caused = subst (λ (o : Option VSlot). IsCausedWith script.layout a.of.earlier o (view_of last (seat cpu)) who a.of.command a.of.before a.of.row.told a.of.row.own answers.NoFrame) none
      (subst (IsCausedWith script.layout a.of.earlier (copies who) (view_of last (seat cpu)) who a.of.command a.of.before a.of.row.told a.of.row.own) a.answer_is a.of.served.caused) in
      let found = (no-frame-of script.layout a.of.earlier (view_of last (seat cpu)) who a.of.command a.of.row.told a.of.row.own slot its caused).2 in
      record {
        at = record { page = found.page; entry = found.place };
        of_slot = found.page_is;
        out = had script copies seat last report ended cpu a.of.inside found.away;
        window = in-window script copies seat last report ended cpu rows rows_is seq (record { page = found.page; entry = found.place }) (ended.seated.there cpu a.of.inside) (saw-at found.away);
      }

  -- a store that copies: the access that came
  copy-out : (cpu : Cpu) (rows : List CpuLine) (i seq : ℕ) (slot from : VSlot) → slice_get report.cpus cpu.0 ≡ Some rows → slice_get rows i ≡ Some (lines.Answer seq answers.NoFrame) → copies (record { cpu = cpu; seq = seq }) ≡ Some from
      → slot_ended script copies report (record { cpu = cpu; seq = seq }) ≡ Some slot → WasOut script report.pages rows (record { cpu = cpu; seq = seq }) slot
  copy-out cpu rows i seq slot from rows_is line some of =
      let a = line-answers script copies seat last report ended cpu rows i seq answers.NoFrame rows_is line in
      let who : Who = record { cpu = cpu; seq = seq } in
      which a.of a.command_is a.of.command refl (subst (λ (o : Option VSlot). IsCausedWith script.layout a.of.earlier o (view_of last (seat cpu)) who a.of.command a.of.before a.of.row.told a.of.row.own answers.NoFrame) some
      (subst (IsCausedWith script.layout a.of.earlier (copies who) (view_of last (seat cpu)) who a.of.command a.of.before a.of.row.told a.of.row.own) a.answer_is a.of.served.caused))
    where
      which : (x : IsOf script copies ended.rows (view_of last (seat cpu)) (record { cpu = cpu; seq = seq })) → command_at script (record { cpu = cpu; seq = seq }) ≡ Some x.command → (c : Command) → x.command ≡ c
          → IsCopyingCaused script.layout from (view_of last (seat cpu)) (record { cpu = cpu; seq = seq }) c x.before x.row.told answers.NoFrame → WasOut script report.pages rows (record { cpu = cpu; seq = seq }) slot
      which x command_is (commands.Store thread to n word) is caused =
          let found = caused.ended.1 in
          let its : ended_through script.layout report (record { cpu = cpu; seq = seq }) from to ≡ slot
          = same_Some (ended_through script.layout report (record { cpu = cpu; seq = seq }) from to) slot
          (sym (ap (λ (o : Option Command). option_map (λ (s : VSlot). option_map_or (λ (f : VSlot). ended_through script.layout report (record { cpu = cpu; seq = seq }) f s) (copies (record { cpu = cpu; seq = seq })) s) (option_and_then slot_of o)) (command_is ∙ ap (λ (y : Command). Some y) is)
          ∙ ap (λ (o : Option VSlot). Some (option_map_or (λ (f : VSlot). ended_through script.layout report (record { cpu = cpu; seq = seq }) f to) o to)) some) ∙ of) in
          record {
            at = record { page = found.behind.access.page; entry = found.place };
            of_slot = subst (λ (v : VSlot). pages.IsOf script.layout found.behind.access.page v) its (ended-so script copies seat last report ended (record { cpu = cpu; seq = seq }) x.inside thread from to n word x.before x.row.told some (command_is ∙ ap (λ (y : Command). Some y) is) caused);
            out = had script copies seat last report ended cpu x.inside found.away;
            window = in-window script copies seat last report ended cpu rows rows_is seq (record { page = found.behind.access.page; entry = found.place }) (ended.seated.there cpu x.inside) (saw-at found.away);
          }
      which x command_is c is caused = absurd caused

  pub were-out : WereOut script copies report
  were-out cpu rows i seq slot rows_is line of = which (copies (record { cpu = cpu; seq = seq })) refl
    where
      which : (o : Option VSlot) → copies (record { cpu = cpu; seq = seq }) ≡ o → WasOut script report.pages rows (record { cpu = cpu; seq = seq }) slot
      which None none = plain-out cpu rows i seq slot rows_is line none (sym (slot-uncopied script copies report (record { cpu = cpu; seq = seq }) none) ∙ of)
      which (Some from) some = copy-out cpu rows i seq slot from rows_is line some of
