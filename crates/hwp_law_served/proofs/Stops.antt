-- The stop record is that of a command which stopped the machine.
use Rattle.std.proofs.Common.{◌≡◌, ◌⊎◌, ◌≢◌, ℕ, ◌+◌, ◌<◌, not, List, Option, Some, None, IsSome, slice_get, refl, sym, ap, ◌∙◌, subst, arith, inl, inr, true≢false}
use Rattle.std.proofs.lemmas.Bool.{eq-eqb}
use Rattle.hwp_law.specs.hwp_geom.declared.VSlot.{VSlot}
use Rattle.hwp_law.specs.hwp_geom.declared.Cpu.{Cpu}
use Rattle.hwp_law.specs.hwp_geom.declared.Who.{Who}
use Rattle.hwp_plain.specs.hwp_words.Stops.{stopper_of}
use Rattle.hwp_plain.specs.hwp_core_rule.declared.Sight.{Sight}
use Rattle.hwp_plain.specs.hwp_core_rule.declared.State.{State}
use Rattle.hwp_plain.specs.hwp_core_rule.declared.View.{View}
use Rattle.hwp_plain.specs.hwp_core_rule.Lists.{SomeMember}
use Rattle.hwp_plain.specs.hwp_core_rule.Words.{words_of}
use Rattle.hwp_plain.proofs.of_hwp_core_rule.Lists.{at_map, map-was}
use Rattle.hwp_plain.specs.hwp_core_rule.Boards.{view_of}
use Rattle.hwp_plain.specs.hwp_core_rule.Known.{SawStop}
use Rattle.hwp_law.specs.hwp_script_words.declared.Command.{Command}
use Rattle.hwp_law.specs.hwp_script_words.declared.Script.{Script}
use Rattle.hwp_law.specs.hwp_report_text.declared.Report.{Report}
use Rattle.hwp_law.specs.hwp_report_text.declared.Stop.{Stop}
use Rattle.hwp_cpu_row.specs.declared.Row.{Row}
use Rattle.hwp_law_served.specs.Ends.{IsStopOn}
use Rattle.hwp_law_served.specs.Causes.{FoundStopped}
use Rattle.hwp_law_served.specs.Served.{IsOwnStop}
use Rattle.hwp_law_served.proofs.RunEnds.{IsEnd, list-of, own-view, rows-of, served-of}

module _ (script : Script) (copies : Who → Option VSlot) (seat : Cpu → ℕ) (last : State) (report : Report) (end : IsEnd script copies seat last report) where
  -- the command that a stop record names
  pub record StopBy (who : Who) : Type 0 where
    pub list : List Command
    pub rows : List Row
    pub list_is : slice_get script.lists who.cpu.0 ≡ Some list
    pub rows_is : slice_get end.rows who.cpu.0 ≡ Some rows
    pub own : IsOwnStop script.layout who.cpu list rows who

  pub stopper : (stop : Stop) → report.stop ≡ Some stop → StopBy stop.who
  stopper stop is =
      let on = subst (λ (o : Option Stop). IsStopOn (words_of script.layout last.words).stop last.views o) is end.board.ends.stop in
      let listed = on.1 in
      let was = map-was (λ (v : View). v.stops) last.views listed.0 listed.1 listed.2 in
      let in_view : slice_get was.0.stops listed.3.0 ≡ Some listed.3.1 = ap (λ (l : List Who). slice_get l listed.3.0) was.2 ∙ listed.3.2 in
      let past = (end.board.holds.rule.processors.commands.own listed.0 was.0 was.1).stops listed.3.0 listed.3.1 in_view in
      let own = own-view script copies seat last report end listed.0 was.0 listed.3.1 was.1 past in
      let same : listed.3.1 ≡ stop.who = listed.3.3 in
      let list = list-of script copies seat last report end listed.3.1.cpu own.0 in
      let rows = rows-of script copies seat last report end listed.3.1.cpu own.0 in
      let served = (served-of script copies seat last report end listed.3.1.cpu list.0 rows.0 list.1 rows.1).0 in
      let stopped : IsOwnStop script.layout listed.3.1.cpu list.0 rows.0 listed.3.1 = served.stops listed.3.0 listed.3.1 (sym (ap (λ (x : View). slice_get x.stops listed.3.0) own.1) ∙ in_view) in
      subst StopBy same (record { list = list.0; rows = rows.0; list_is = list.1; rows_is = rows.1; own = stopped })

  -- where the stop word names a processor, the report has the record
  recorded : (stop : Option Stop) → IsStopOn (words_of script.layout last.words).stop last.views stop → stopper_of (words_of script.layout last.words).stop ≢ 0 → IsSome stop
  recorded None on named = absurd (named on)
  recorded (Some stop) on named = refl

  -- a command that found the machine stopped, or stopped it: the report has the record
  pub stop-by : (cpu : Cpu) (who : Who) → cpu.0 < script.layout.cpus → SawStop (view_of last (seat cpu)) who ⊎ SomeMember (λ (w : Who). w ≡ who) (view_of last (seat cpu)).stops → IsSome report.stop
  stop-by cpu who inside stopped = recorded report.stop end.board.ends.stop (named stopped)
    where
      there : slice_get last.views (seat cpu) ≡ Some (view_of last (seat cpu))
      there = end.seated.there cpu inside

      named : SawStop (view_of last (seat cpu)) who ⊎ SomeMember (λ (w : Who). w ≡ who) (view_of last (seat cpu)).stops → stopper_of (words_of script.layout last.words).stop ≢ 0
      named (inl saw) unstopped =
          let sight : Sight = saw.saw.1 in
          let word : sight.word ≡ saw.word = saw.saw.3.2 in
          let other : stopper_of saw.word ≢ 0 = λ none. true≢false (sym saw.stopped ∙ ap not (eq-eqb (stopper_of saw.word) 0 none)) in
          let shown : stopper_of sight.word ≢ 0 = λ none. other (sym (ap stopper_of word) ∙ none) in
          let same : stopper_of (words_of script.layout last.words).stop ≡ stopper_of sight.word =
          end.board.holds.rule.processors.stops.stop_stays (seat cpu) (view_of last (seat cpu)).sights (at_map (λ (x : View). x.sights) last.views (seat cpu) (view_of last (seat cpu)) there) saw.saw.0 sight saw.saw.2 saw.saw.3.1 shown in
          shown (sym same ∙ unstopped)
      named (inr own) unstopped =
          let is : stopper_of (words_of script.layout last.words).stop ≡ own.1.cpu.0 + 1 =
          end.board.holds.rule.processors.stops.named (seat cpu) (view_of last (seat cpu)).stops (at_map (λ (x : View). x.stops) last.views (seat cpu) (view_of last (seat cpu)) there) own.0 own.1 own.2 in
          absurd (omega (arith, unstopped))

  pub stop-there : (cpu : Cpu) (who : Who) (command : Command) → cpu.0 < script.layout.cpus → FoundStopped script.layout (view_of last (seat cpu)) who command → IsSome report.stop
  stop-there cpu who command inside found = stop-by cpu who inside found.stopped
