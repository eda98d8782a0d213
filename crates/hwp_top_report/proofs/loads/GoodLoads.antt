-- No load of a report got bad bytes.
use Rattle.std.proofs.Common.{◌≡◌, ℕ, List, [], Option, Some, slice_get, ap, ◌∙◌, subst}
use Rattle.std.specs.Prelude.{IsTrue, slice_index}
use Rattle.std.specs.FinSet as set
use Rattle.hwp_law_served.specs.hwp_geom.declared.Who.{Who}
use Rattle.hwp_law_served.specs.hwp_geom.declared.VSlot.{VSlot}
use Rattle.hwp_law_served.specs.hwp_geom.declared.Cpu.{Cpu}
use Rattle.hwp_law_served.specs.hwp_geom.declared.Frame.{Frame}
use Rattle.hwp_law_served.specs.hwp_geom.declared.Page.{Page}
use Rattle.hwp_law_served.specs.hwp_page.declared.At.{At}
use Rattle.hwp_law_served.specs.hwp_page.declared.Entry.{Entry}
use Rattle.hwp_law_served.specs.hwp_page.declared.Met.TheVariants.{Word}
use Rattle.hwp_law_served.specs.hwp_page.declared.PageState.{PageState}
use Rattle.hwp_law_served.specs.hwp_page.declared.What.TheVariants.{Load}
use Rattle.hwp_law_served.specs.hwp_page.Step.{Allowed}
use Rattle.hwp_law_served.specs.hwp_core_rule.declared.State.{State}
use Rattle.hwp_law_served.specs.hwp_core_rule.declared.View.{View}
use Rattle.hwp_law_served.specs.hwp_core_rule.Lists.{EachMember}
use Rattle.hwp_law_served.specs.hwp_core_rule.Opening.{opening}
use Rattle.hwp_law_served.specs.hwp_core_rule.Rule.{Holds}
use Rattle.hwp_law_served.specs.hwp_core_rule.parts.Holdings.{HoldsNothing}
use Rattle.hwp_law_served.proofs.of_hwp_core_rule.Lists.{each-weaken}
use Rattle.hwp_law_served.specs.hwp_core_rule.Boards.{Played}
use Rattle.hwp_law_served.specs.hwp_core_rule.Turns.{Member}
use Rattle.hwp_law_served.specs.hwp_script_words.declared.Script.{Script}
use Rattle.hwp_law_served.specs.hwp_report_text.declared.Report.{Report}
use Rattle.hwp_law_served.specs.hwp_law.PageHistory.{IsHistory}
use Rattle.hwp_law_served.specs.hwp_law.Law.{HasShape, IsLawful}
use Rattle.hwp_law_served.specs.hwp_law.Places.{entry_at}
use Rattle.hwp_law_served.specs.hwp_law.States.{HadState}
use Rattle.hwp_law_served.specs.Ends.{EndsWith}
use Rattle.hwp_law_served.specs.Run.{CoreRun}
use Rattle.hwp_law_served.specs.Turns.{Leads}
use Rattle.hwp_law_served.proofs.turns.TurnLeads.{leads-hold}
use Rattle.hwp_law_served.proofs.Legal.{run-legal}
use Rattle.hwp_law_served.proofs.Reported.{IsLast, entry-listed}
use Rattle.hwp_law_served.proofs.turns.SightOrder.{run-rises}
use Rattle.hwp_top_report.specs.Loads.{AreGoodLoads, Inspects}
use Rattle.hwp_law_served.specs.Runs.{IsRunOf}
use Rattle.hwp_top_report.proofs.AllowedThere.{allowed-there, had-so}
use Rattle.hwp_law_served.proofs.LastBoard.{nothing}
use Rattle.hwp_top_report.proofs.loads.Inspected.{all-inspected, mask_of}
use Rattle.hwp_top_report.proofs.Lawful.{histories-fit, shape-fits}

-- A run whose last board is the report's, where nothing is held, and whose report keeps the law.
module _ (script : Script) (turns : List Played) (last : State) (report : Report) (rule : Holds script.layout (opening script.layout)) (moves : Leads script.layout (opening script.layout) turns last) (ends : EndsWith script.layout last report)
    (nothing : EachMember HoldsNothing last.views) (shape : HasShape script report) (legal : (page : Page) (list : List Entry) → slice_get report.pages page.0 ≡ Some list → IsHistory script.layout report.frames page list) where
  board : IsLast script.layout last report
  board = record {
    holds = leads-hold script.layout (opening script.layout) last turns rule moves;
    legal = run-legal script.layout turns last moves;
    rises = run-rises script.layout turns last rule moves;
    empty = each-weaken HoldsNothing (λ (v : View). v.bodies ≡ []) last.views (λ v none. none.bodies) nothing;
    unlocked = each-weaken HoldsNothing (λ (v : View). v.locks ≡ []) last.views (λ v none. none.locks) nothing;
    ends = ends;
    frames_fit = shape.frames;
    pages_fit = shape.pages;
  }

  -- the bad lines that an entry rests on were shown to its command, under the lock of the page's frame
  pub entry-inspected : (at : At) (e : Entry) (n : ℕ) → entry_at report.pages at ≡ Some e → mask_of e.what ≡ Some n → (frame : Frame) × Inspects script.layout turns e.who at.page frame n
  entry-inspected at e n is rests =
      let listed = entry-listed script.layout last report board at e is in
      let made = listed.3 in
      let that = made.3 in
      let by = (all-inspected script.layout turns last moves listed.0 listed.1 listed.2).made made.0 made.1 made.2 n (ap (λ (x : Entry). mask_of x.what) that.entry_is ∙ rests) in (
        by.0,
        subst (λ (x : Entry). Inspects script.layout turns x.who at.page by.0 n) that.entry_is (subst (λ (q : Page). Inspects script.layout turns made.1.entry.who q by.0 n) that.page_is by.1),
      )

  -- Each load of the report that got a word got the content of its page, at the entry's place; and under the lock of the page's frame
  -- its command had been shown the frame's bad lines, of which the line is none.
  pub no-bad-bytes : AreGoodLoads script.layout report turns
  no-bad-bytes at e slot line mask word is what =
      let there : HadState script.layout report.pages at (λ (s : PageState). Allowed script.layout at.page s (Load slot line (Word mask word))) = allowed-there script.layout report legal at e (Load slot line (Word mask word)) is what in
      let shown = entry-inspected at e mask.0 is (ap mask_of what) in
      record {
        mapped = had-so (λ (s : PageState). Allowed script.layout at.page s (Load slot line (Word mask word))) (λ (s : PageState). IsTrue (set.contains s.maps slot.0)) (λ s so. so.0) there;
        content = had-so (λ (s : PageState). Allowed script.layout at.page s (Load slot line (Word mask word))) (λ (s : PageState). slice_index s.val line ≡ word) (λ s so. so.2) there;
        frame = shown.0;
        inspected = shown.1;
        good = there.had.1;
      }

-- the same of a run on whose last board each processor has served its commands
pub run-no-bad-bytes : (script : Script) (copies : Who → Option VSlot) (seat : Cpu → ℕ) (turns : List Played) (last : State) (report : Report) → IsRunOf script copies seat turns last report → AreGoodLoads script.layout report turns
run-no-bad-bytes script copies seat turns last report run =
    no-bad-bytes script turns last report run.rule run.moves run.ends (nothing script copies seat turns last report run) (shape-fits script copies seat turns last report run) (histories-fit script copies seat turns last report run).legal

-- the same of the run that a report is of, where nothing is held at its end
pub core-no-bad-bytes : {S : Type 0} {m : Member S} {tasks : List S} {seat : Cpu → ℕ} {script : Script} {report : Report} (run : CoreRun m tasks seat script report) → EachMember HoldsNothing run.last.state.views → IsLawful script report → AreGoodLoads script.layout report run.turns
core-no-bad-bytes {script = script} {report = report} run none lawful = no-bad-bytes script run.turns run.last.state report run.rule run.moves run.ends none lawful.shape lawful.histories.legal
