-- One memory failure on one processor, by hand: a thread stores 77 at line 5, the line goes bad in frame 0, a load of it is a
-- machine check that takes the frame and sends the thread SIGBUS, and so is a later load. The report has these lines.
use Rattle.std.proofs.Common.{◌≡◌, ℕ, suc, zero, Bool, true, false, List, [], ◌∷◌, Some, None, refl, sym, subst, inr, lit<, lit≤, true≢false, IsBitSet, arith}
use Rattle.std.specs.List.{count_by}
use Rattle.std.proofs.lemmas.Option.{same_Some, none-some}
use Rattle.hwp_script_words.specs.hwp_geom.declared.Layout.{Layout}
use Rattle.hwp_script_words.specs.hwp_geom.declared.PageKind.TheVariants.{Anon}
use Rattle.hwp_script_words.specs.hwp_geom.declared.Version.TheVariants.{One}
use Rattle.hwp_script_words.specs.hwp_geom.declared.Who.{Who}
use Rattle.hwp_report_text.specs.hwp_kill.declared.Code.TheVariants.{Ar}
use Rattle.hwp_report_text.specs.hwp_page.declared.Entry.{Entry}
use Rattle.hwp_report_text.specs.hwp_page.declared.Met.TheVariants.{Word, Sigbus}
use Rattle.hwp_report_text.specs.hwp_page.declared.Outcome.TheVariants as outcomes
use Rattle.hwp_report_text.specs.hwp_page.declared.Situation.{Situation}
use Rattle.hwp_report_text.specs.hwp_page.declared.Situation.TheVariants as situations
use Rattle.hwp_report_text.specs.hwp_page.declared.What.TheVariants as entries
use Rattle.hwp_script_words.specs.declared.Command.TheVariants as commands
use Rattle.hwp_script_words.specs.declared.Script.{Script}
use Rattle.hwp_report_text.specs.declared.Acted.TheVariants as acts
use Rattle.hwp_report_text.specs.declared.Answer.TheVariants as answers
use Rattle.hwp_report_text.specs.declared.CpuLine.TheVariants as lines
use Rattle.hwp_report_text.specs.declared.How.TheVariants as hows
use Rattle.hwp_report_text.specs.declared.MarkLine.{MarkLine}
use Rattle.hwp_report_text.specs.declared.MarkLine.TheVariants as marks
use Rattle.hwp_report_text.specs.declared.Whereabouts.TheVariants as places
use Rattle.hwp_report_text.specs.declared.Report.{Report}
use Rattle.hwp_report_text.specs.hwp_banks.Banks.{empty_banks}
use Rattle.hwp_law.specs.Commands.{arrival_of}
use Rattle.hwp_law.specs.Events.{AreEventsOf}
use Rattle.hwp_law.specs.Lines.{events_of, marks_of}
use Rattle.hwp_law.specs.Pairings.{AreRecorded, entries_of, has_page, is_failure, is_failure_mark, is_required, is_soft_mark, marks_in, urgent_from}
use Rattle.hwp_law.specs.Records.{Alternates, HaveEvents, IsMarkAt}

-- two frames, and one anonymous page of one process whose thread has a handler
abbrev pub layout : Layout
layout = record {
  version = One;
  cpus = 1;
  frames = 2;
  kernel = false ∷ false ∷ [];
  recovery = true;
  early = false;
  files = 0;
  procs = 1;
  threads = (record { process = record { 0 = 0 }; cpu = record { 0 = 0 }; handler = true }) ∷ [];
  pages = Anon ∷ [];
  trans = (record { process = record { 0 = 0 }; page = record { 0 = 0 } }) ∷ [];
  locked = false ∷ [];
  twins = None ∷ [];
  guests = false ∷ [];
}

-- `store 0 0 5 77`, `bad 0 5`, `load 0 0 5`, `load 0 0 6`
abbrev pub script : Script
script = record {
  layout = layout;
  lists =
      (commands.Store (record { 0 = 0 }) (record { 0 = 0 }) 5 77
      ∷ commands.Bad (record { 0 = 0 }) 5
      ∷ commands.Load (record { 0 = 0 }) (record { 0 = 0 }) 5
      ∷ commands.Load (record { 0 = 0 }) (record { 0 = 0 }) 6
      ∷ []) ∷ [];
  go = [];
}

-- a command of processor 0
abbrev pub command : ℕ → Who
command n = record { cpu = record { 0 = 0 }; seq = n }

abbrev pub history : List Entry
history =
    (record { who = command 0; what = entries.FaultIn })
    ∷ (record { who = command 0; what = entries.Map (record { 0 = 0 }) })
    ∷ (record { who = command 0; what = entries.Store (record { 0 = 0 }) 5 (Word (record { 0 = 0 }) 77) })
    ∷ (record { who = command 2; what = entries.Mce (record { 0 = 0 }) 5 (record { 0 = 0x20 }) })
    ∷ (record { who = command 2; what = entries.Fail situations.AnonOnly (Some (record { 0 = 0 })) [] ((record { process = record { 0 = 0 }; thread = record { 0 = 0 }; code = Ar; slot = record { 0 = 0 } }) ∷ []) })
    ∷ (record { who = command 3; what = entries.Load (record { 0 = 0 }) 6 (Sigbus (record { 0 = 0 })) })
    ∷ []

-- `poisoned 0 0 2 hw anononly recovered`
abbrev pub mark : MarkLine
mark = marks.Poisoned 0 (command 2) (hows.Failure true situations.AnonOnly outcomes.Recovered)

abbrev pub report : Report
report = record {
  version = One;
  stop = None;
  count = 1;
  files = [];
  frames =
      (record { place = places.Handled; bad = record { 0 = 0x20 }; weak = record { 0 = 0 }; marks = mark ∷ [] })
      ∷ (record { place = places.Free; bad = record { 0 = 0 }; weak = record { 0 = 0 }; marks = [] })
      ∷ [];
  pages = history ∷ [];
  cpus =
      (lines.Answer 0 (answers.Stored (record { page = record { 0 = 0 }; entry = 2 }))
      ∷ lines.Answer 1 answers.Done
      ∷ lines.Event (record { seq = 2; bank = 0; status = 0xbd80000000000134; addr = 0x140; misc = 0x86; row = 9; acted = acts.Recovered })
      ∷ lines.Answer 2 (answers.Sigbus (record { page = record { 0 = 0 }; entry = 4 }))
      ∷ lines.Answer 3 (answers.Sigbus (record { page = record { 0 = 0 }; entry = 5 }))
      ∷ []) ∷ [];
}

-- the record of frame 0 alternates
pub first_alternates : Alternates (mark ∷ [])
first_alternates zero m is = subst (IsMarkAt zero) (same_Some mark m is) (record { cycle = refl; turn = refl })
first_alternates (suc place) m is = absurd (none-some m is)

-- for a situation, the marks of the load are its failures, and those whose event line has row S9 its required ones
abbrev AreSame : Situation → Type 0
AreSame situation =
    (entries_of report (command 2) (is_failure situation) ≡ marks_in report (is_failure_mark (command 2) situation))
    × (entries_of report (command 2) (is_required situation) ≡ urgent_from report (command 2) situation 0 report.frames)

-- the failure's mark, its entry and the row of its event line agree
pub failure_recorded : (situation : Situation) → has_page situation ≡ true → AreSame situation
failure_recorded situations.Free paged = absurd (true≢false (sym paged))
failure_recorded situations.Kernel paged = absurd (true≢false (sym paged))
failure_recorded situations.FileClean paged = (refl, refl)
failure_recorded situations.FileDirty paged = (refl, refl)
failure_recorded situations.AnonOnly paged = (refl, refl)
failure_recorded situations.SwapClean paged = (refl, refl)
failure_recorded situations.SwapDirty paged = (refl, refl)
failure_recorded situations.LockedClean paged = (refl, refl)
failure_recorded situations.LockedFile paged = (refl, refl)
failure_recorded situations.LockedAnon paged = (refl, refl)

-- it took no frame out of use
abbrev NoneSoft : ℕ → Bool → Type 0
NoneSoft frame moved = count_by (is_soft_mark (command 2) moved) (marks_of report frame) ≡ 0

none_soft : (frame : ℕ) (moved : Bool) → NoneSoft frame moved
none_soft zero true = refl
none_soft zero false = refl
none_soft (suc zero) moved = refl
none_soft (suc (suc frame)) moved = refl

pub failing_recorded : AreRecorded script report (command 2)
failing_recorded = record {
  failures = λ situation paged. (failure_recorded situation paged).0;
  required = λ situation paged. (failure_recorded situation paged).1;
  moves = refl;
  softs = λ frame moved. none_soft frame.0 moved;
  one = lit≤ tt;
}

-- its event line is the one beside the mark
pub failing_has_event : HaveEvents report (record { 0 = 0 }) (command 2)
failing_has_event = refl

-- the load's event is graded S9 and comes to the result of the mark, and the banks are empty after it
pub load_checked : AreEventsOf script (λ who. None) report (command 2) (arrival_of (commands.Load (record { 0 = 0 }) (record { 0 = 0 }) 5)) (commands.Load (record { 0 = 0 }) (record { 0 = 0 }) 5) empty_banks (events_of report (command 2)) empty_banks
load_checked = (
  record { 0 = 0 },
  events_of report (command 2),
  [],
  refl,
  bad_line,
  (record { bank_is = refl; status = refl; addr = refl; misc = refl; row = refl; act = inr (0, lit< tt, refl) }, tt),
  (refl, refl),
)
  where
    bad_line : IsBitSet 0x20 5
    bad_line = λ is. let same : 32 ≡ 0 = is in absurd (omega arith)
