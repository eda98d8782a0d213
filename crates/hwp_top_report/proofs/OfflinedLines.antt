-- The lines of a command tell the frames that it took out of use, and the report shows the cause of what they say.
use Rattle.std.proofs.Common.{◌≡◌, ℕ, suc, List, [], ◌∷◌, Option, Some, All, map, option_and_then, slice_get, refl, sym, ap, ◌∙◌, subst}
use Rattle.std.proofs.lemmas.List.Elements.{All-cons, All-nil}
use Rattle.hwp_law_served.specs.hwp_geom.declared.VSlot.{VSlot}
use Rattle.hwp_law_served.specs.hwp_geom.declared.Cpu.{Cpu}
use Rattle.hwp_law_served.specs.hwp_geom.declared.Who.{Who}
use Rattle.hwp_law_served.specs.hwp_core_rule.declared.State.{State}
use Rattle.hwp_law_served.specs.hwp_core_rule.Lists.{EachMember}
use Rattle.hwp_law_served.proofs.of_hwp_core_rule.Lists.{each-map}
use Rattle.hwp_law_served.specs.hwp_core_rule.Boards.{view_of}
use Rattle.hwp_law_served.specs.hwp_script_words.declared.Command.{Command}
use Rattle.hwp_law_served.specs.hwp_script_words.declared.Script.{Script}
use Rattle.hwp_law_served.specs.hwp_report_text.declared.MarkLine.{MarkLine}
use Rattle.hwp_law_served.specs.hwp_report_text.declared.OfflinedLine.{OfflinedLine}
use Rattle.hwp_law_served.specs.hwp_report_text.declared.Report.{Report}
use Rattle.hwp_law_served.specs.hwp_law.Commands.{command_at}
use Rattle.hwp_law_served.specs.hwp_law.Offlined.{AreOfflined, IsOffline}
use Rattle.hwp_law_served.specs.hwp_law.Records.{how_in}
use Rattle.hwp_law_served.specs.hwp_cpu_row.declared.FrameChange.TheVariants as owns
use Rattle.hwp_law_served.specs.hwp_cpu_row.declared.Offlining.{Offlining}
use Rattle.hwp_law_served.specs.hwp_cpu_row.declared.Row.{Row}
use Rattle.hwp_law_served.specs.Rows.{offlined, offlined_at}
use Rattle.hwp_law_served.specs.Runs.{row_at}
use Rattle.hwp_law_served.proofs.RunEnds.{IsEnd, IsOf, command-of}
use Rattle.hwp_law_served.proofs.RowLines.{offlined-told}
use Rattle.hwp_law_served.proofs.deeds.Beside.{left-made}
use Rattle.hwp_law_served.proofs.lines.Offlines.{frames-due}
use Rattle.hwp_top_report.proofs.report_lines.Records.{beside-mark}
use Rattle.hwp_top_report.proofs.AnswerSights.{has-command}
use Rattle.hwp_top_report.proofs.Answered.{came, made-stands}

-- what holds of each member holds of all
all-of : {A : Type 0} (P : A → Type 0) (l : List A) → EachMember P l → All P l
all-of P [] each = All-nil P
all-of P (x ∷ xs) each = All-cons P x xs (each 0 x refl) (all-of P xs (λ i y there. each (suc i) y there))

module _ (script : Script) (copies : Who → Option VSlot) (seat : Cpu → ℕ) (last : State) (report : Report) (end : IsEnd script copies seat last report) where
  of-caused : (who : Who) (of : IsOf script copies end.rows (view_of last (seat who.cpu)) who) (k : ℕ) (o : Offlining) → slice_get of.row.offlined k ≡ Some o → IsOffline script report who o.frame o.result
  of-caused who of k o there =
      let row_is : row_at end.rows who ≡ Some of.row = ap (λ (l : Option (List Row)). option_and_then (λ (own : List Row). slice_get own who.seq) l) of.own_is ∙ of.row_is in
      came script copies seat last report end who.cpu of.inside who o.frame o.change o.result
      (λ frame cycle moved is. beside-mark script copies seat last report end who of.row row_is k o (owns.Offlined frame cycle moved) there is (λ (m : MarkLine). how_in m ≡ Some (offlined moved)) refl)
      (λ at is. made-stands script copies seat last report end who.cpu of.inside (left-made (view_of last (seat who.cpu)) who of.command of.row of.served.beside k o at there is)) (of.served.offlined k o there).came

  all-caused : (who : Who) (of : IsOf script copies end.rows (view_of last (seat who.cpu)) who) → EachMember (λ (l : OfflinedLine). IsOffline script report who l.frame l.result) (map (offlined_at who.seq) of.row.offlined)
  all-caused who of = each-map (offlined_at who.seq) (λ (l : OfflinedLine). IsOffline script report who l.frame l.result) of.row.offlined (of-caused who of)

  pub are-offlined : (who : Who) (command : Command) → command_at script who ≡ Some command → AreOfflined script report who
  are-offlined who command at =
      let has = has-command script who command at in
      let view = view_of last (seat who.cpu) in
      let of = command-of script copies seat last report end who has.list command has.list_is has.command_is in
      let is = offlined-told script copies seat last report end view who of in
      record {
        frames = frames-due script copies seat last report end view who of;
        caused = subst (All (λ (l : OfflinedLine). IsOffline script report who l.frame l.result)) (sym is) (all-of (λ (l : OfflinedLine). IsOffline script report who l.frame l.result) (map (offlined_at who.seq) of.row.offlined) (all-caused who of));
      }
