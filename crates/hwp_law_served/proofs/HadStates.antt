-- What a processor saw of a page is a state that the page had in the report's history.
use Rattle.std.proofs.Common.{◌≡◌, ℕ, ◌<◌, Some, length, slice_get, sym, ap, ◌∙◌, subst, Option}
use Rattle.hwp_law.specs.hwp_geom.declared.VSlot.{VSlot}
use Rattle.hwp_law.specs.hwp_geom.declared.Cpu.{Cpu}
use Rattle.hwp_law.specs.hwp_geom.declared.Page.{Page}
use Rattle.hwp_law.specs.hwp_geom.declared.Who.{Who}
use Rattle.hwp_law.specs.hwp_page.declared.At.{At}
use Rattle.hwp_law.specs.hwp_page.declared.PageState.{PageState}
use Rattle.hwp_plain.specs.hwp_core_rule.declared.Length.{Length}
use Rattle.hwp_plain.specs.hwp_core_rule.declared.Log.{Log}
use Rattle.hwp_plain.specs.hwp_core_rule.declared.State.{State}
use Rattle.hwp_plain.specs.hwp_core_rule.declared.View.{View}
use Rattle.hwp_plain.specs.hwp_core_rule.Logs.{state_of}
use Rattle.hwp_plain.specs.hwp_core_rule.Boards.{view_of}
use Rattle.hwp_plain.specs.hwp_core_rule.Pages.{SawState}
use Rattle.hwp_law.specs.hwp_script_words.declared.Script.{Script}
use Rattle.hwp_law.specs.hwp_report_text.declared.Report.{Report}
use Rattle.hwp_law.specs.States.{HadState}
use Rattle.hwp_law_served.proofs.Reported.{seen-had}
use Rattle.hwp_law_served.proofs.RunEnds.{IsEnd}

module _ (script : Script) (copies : Who → Option VSlot) (seat : Cpu → ℕ) (last : State) (report : Report) (end : IsEnd script copies seat last report) (cpu : Cpu) (inside : cpu.0 < script.layout.cpus) where
  abbrev view : View
  view = view_of last (seat cpu)

  there : slice_get last.views (seat cpu) ≡ Some view
  there = end.seated.there cpu inside

  -- the page was in the state in which the command saw it
  pub had : {who : Who} {at : At} {Such : PageState → Type 0} → SawState script.layout view who at.page at.entry Such → HadState script.layout report.pages at Such
  had {at = at} {Such = Such} saw =
      let x : Length = saw.saw.1 in
      let log : x.log ≡ saw.log = saw.saw.3.2 in
      let page : x.log.page ≡ at.page = ap (λ (l : Log). l.page) log ∙ saw.page_is in
      let long : length x.log.entries ≡ at.entry = ap (λ (l : Log). length l.entries) log ∙ saw.place_is in
      let was = seen-had script.layout last report end.board (seat cpu) saw.saw.0 view x there saw.saw.2 Such (subst (λ (l : Log). Such (state_of script.layout l)) (sym log) saw.such) in
      subst (λ (p : Page). HadState script.layout report.pages (record { page = p; entry = at.entry }) Such) page
      (subst (λ (n : ℕ). HadState script.layout report.pages (record { page = x.log.page; entry = n }) Such) long was)
