-- What is kept of a processor, and of its command with a number.
use Rattle.std.proofs.Common.{◌≡◌, ◌≤◌, ◌<◌, ◌+◌, ◌^◌, ℕ, List, [], Option, Some, get_or, length, slice_get, refl, sym, ap, ◌∙◌, subst, arith}
use Rattle.std.proofs.lemmas.Option.{slice_get-get_or}
use Rattle.hwp_law.specs.hwp_script_words.declared.Command.{Command}
use Rattle.hwp_law.specs.hwp_page.declared.Entry.{Entry}
use Rattle.hwp_law.specs.hwp_report_text.declared.Answer.{Answer}
use Rattle.hwp_law.specs.hwp_report_text.declared.CpuLine.{CpuLine}
use Rattle.hwp_law.specs.hwp_report_text.declared.Report.{Report}
use Rattle.hwp_check_event_line.specs.Reading.{copies_in}
use Rattle.hwp_check_event_line.specs.declared.Shown.{Shown}
use Rattle.hwp_check_events.specs.Cases.{IsCase, IsCaseAt, IsIndexed, IsOfScript, ProcessorValue, rows_in}
use Rattle.hwp_check_events.specs.Copied.{AreCopied}
use Rattle.hwp_check_events.specs.Indexed.{AreChecks, AreFirst}
use Rattle.hwp_check_event_line.specs.OfCommands.{AreShown, shown_from}
use Rattle.hwp_check_event_line.specs.Misfits.{IsFit}
use Rattle.hwp_check_events.specs.declared.known.Known.{Known}
use Rattle.hwp_check_events.proofs.WalkSteps.{answer-is, checks-are, checks-few, few-commands, fit-is}

-- what is kept of it is right, by the lines and the histories of the report
pub indexed-is : (p : ProcessorValue) (told : Report) (rows : List CpuLine) (count : ℕ) (pages : List (List Entry)) (lists : List (List Shown)) (answers : List (Option Answer)) (checks : List ℕ) (copied : List (List ℕ))
    → IsOfScript p → told ≡ p.report → rows ≡ rows_in told p.cpu → count ≡ length p.commands → pages ≡ told.pages → AreShown rows count lists → AreFirst rows count answers → AreChecks p.cpu count pages checks
    → AreCopied p.script.layout (copies_in p.copies) told p.cpu p.commands (length p.commands) copied → IsIndexed p lists answers checks copied
indexed-is p told rows count pages lists answers checks copied of told_is rows_are count_is pages_are shown first counted own = record {
  of_script = of;
  lists_are = subst (λ (n : ℕ). AreShown (rows_in p.report p.cpu) n lists) count_is (subst (λ (l : List CpuLine). AreShown l count lists) here shown);
  answers_are = subst (λ (n : ℕ). AreFirst (rows_in p.report p.cpu) n answers) count_is (subst (λ (l : List CpuLine). AreFirst l count answers) here first);
  checks_are = subst (λ (n : ℕ). AreChecks p.cpu n p.report.pages checks) count_is (subst (λ (l : List (List Entry)). AreChecks p.cpu count l checks) (pages_are ∙ ap (λ (r : Report). r.pages) told_is) counted);
  copied_are = subst (λ (r : Report). AreCopied p.script.layout (copies_in p.copies) r p.cpu p.commands (length p.commands) copied) told_is own;
}
  where
    here : rows ≡ rows_in p.report p.cpu
    here = rows_are ∙ ap (λ (r : Report). rows_in r p.cpu) told_is

-- its number is small
pub few-of : (p : ProcessorValue) → IsOfScript p → length p.commands ≤ 4096
few-of p of = few-commands p.script (copies_in p.copies) p.report p.cpu p.commands (rows_in p.report p.cpu) of.valid of.of_script refl

module _ (p : ProcessorValue) (lists : List (List Shown)) (answers : List (Option Answer)) (checks : List ℕ) (copied : List (List ℕ)) (right : IsIndexed p lists answers checks copied) (n : ℕ) (within : n < length p.commands) where
  made : (command d : Command) → command ≡ get_or p.commands n d → slice_get p.commands n ≡ Some command
  made command d is = slice_get-get_or p.commands n d within ∙ ap Some (sym is)

  -- the command's machine checks, its answer and those of its copy are what the report says
  pub case-right : (known : Known) (command d : Command) (of_copy : List ℕ) (checks_d : ℕ) (answer_d : Option Answer) → known.checks ≡ get_or checks n checks_d → known.answer ≡ get_or answers n answer_d → command ≡ get_or p.commands n d
      → of_copy ≡ get_or copied n [] → IsCase p.script p.copies p.report (record { cpu = p.cpu; seq = n }) command known of_copy
  case-right known command d of_copy checks_d answer_d checks_is answer_is command_is copy_is = record {
    frames = of.frames;
    few = subst (λ (m : ℕ). m + 1 < 2 ^ 64) (sym checks_is) (checks-few p.script (copies_in p.copies) p.report p.cpu p.commands (rows_in p.report p.cpu) of.valid of.of_script refl n checks checks_d within right.checks_are of.room);
    checks = checks_is ∙ checks-are p.script (copies_in p.copies) p.report p.cpu p.commands (rows_in p.report p.cpu) of.valid of.of_script refl n checks checks_d within right.checks_are;
    answer = answer_is ∙ answer-is p.script (copies_in p.copies) p.report p.cpu p.commands (rows_in p.report p.cpu) of.valid of.of_script refl n answers answer_d within right.answers_are;
    fit = subst IsFit (sym command_is) (fit-is p.script (copies_in p.copies) p.report p.cpu p.commands (rows_in p.report p.cpu) of.valid of.of_script refl n d within);
    copied_is = copy_is ∙ right.copied_are n command within (made command d command_is);
  }
    where
      of : IsOfScript p
      of = right.of_script

  -- and its lines are its own
  pub case-at : (command d : Command) (lines lines_d : List Shown) → command ≡ get_or p.commands n d → lines ≡ get_or lists n lines_d
      → IsCaseAt p n (record { script = p.script; copies = p.copies; report = p.report; who = record { cpu = p.cpu; seq = n }; command = command; lines = lines })
  case-at command d lines lines_d command_is lines_are = record {
    made = made command d command_is;
    case_is = ap (λ (l : List Shown). record { script = p.script; copies = p.copies; report = p.report; who = record { cpu = p.cpu; seq = n }; command = command; lines = l }) own;
  }
    where
      own : lines ≡ shown_from n 0 (rows_in p.report p.cpu)
      own = lines_are ∙ right.lists_are.each n (get_or lists n lines_d) (slice_get-get_or lists n lines_d (let s : length lists ≡ length p.commands = right.lists_are.size in omega (arith, s, within)))
