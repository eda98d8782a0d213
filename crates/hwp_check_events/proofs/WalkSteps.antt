-- The walk over a processor's commands: what is known before each.
use Rattle.std.proofs.Common.{◌≡◌, ℕ, ◌+◌, ◌*◌, ◌<◌, ◌≤◌, ◌^◌, ◌&&◌, false, List, [], ◌∷◌, Option, Some, None, get_or, length, slice_get, sum_by, take, unwrap_or, refl, sym, ap, ◌∙◌, subst, arith}
use Rattle.std.proofs.lemmas.List.Sums.{count_by-le-length, get_or-le-sum_by, sum_by-le-sum_by}
use Rattle.std.proofs.lemmas.Option.{get_or_from_slice_get, slice_get-get_or, slice_get_within}
use Rattle.hwp_banks.specs.hwp_geom.declared.Cpu.{Cpu}
use Rattle.hwp_banks.specs.hwp_geom.declared.Who.{Who}
use Rattle.hwp_banks.specs.declared.Event.{Event}
use Rattle.hwp_law.specs.hwp_page.declared.Entry.{Entry}
use Rattle.hwp_law.specs.hwp_script_words.Valid.{IsCommandOf}
use Rattle.hwp_check_event_line.specs.Scripts.{IsDeclared}
use Rattle.hwp_law.specs.hwp_script_words.declared.Command.{Command}
use Rattle.hwp_law.specs.hwp_script_words.declared.Command.TheVariants as commands
use Rattle.hwp_law.specs.hwp_script_words.declared.Script.{Script}
use Rattle.hwp_law.specs.hwp_report_text.declared.Answer.{Answer}
use Rattle.hwp_law.specs.hwp_report_text.declared.CpuLine.{CpuLine}
use Rattle.hwp_law.specs.hwp_report_text.declared.EventLine.{EventLine}
use Rattle.hwp_law.specs.hwp_report_text.declared.Report.{Report}
use Rattle.hwp_law.specs.Lines.{answer_among, answer_of, events_among, events_of, is_same_command}
use Rattle.hwp_law.specs.Commands.{is_check}
use Rattle.hwp_law.specs.Pairings.{entries_of}
use Rattle.hwp_check_events.specs.Indexed.{AreChecks, AreFirst, checks_in}
use Rattle.hwp_check_event_line.specs.OfCommands.{shown_from}
use Rattle.hwp_check_events.specs.Judged.{IsJudged, IsTable}
use Rattle.hwp_check_event_line.specs.Misfits.{IsFit, found_by, leaves, left_by}
use Rattle.hwp_check_event_line.specs.Firsts.{shown_lines}
use Rattle.hwp_check_events.specs.Walked.{HasPlace, IsTableOf, IsWalked, joined, with_mark}
use Rattle.hwp_check_event_line.specs.declared.Faults.{Faults}
use Rattle.hwp_check_events.specs.declared.misfits.Misfits.{Misfits}
use Rattle.hwp_check_event_line.specs.declared.Shown.{Shown}
use Rattle.hwp_check_event_line.proofs.OfCommandLaws.{told-is}
use Rattle.hwp_check_events.proofs.TableLaws.{table-next, table-size}
use Rattle.hwp_check_event_line.proofs.ScriptLaws.{command-of}
use Rattle.hwp_check_events.proofs.ValidLaws.{fits}
use Rattle.hwp_check_events.proofs.WalkLaws.{left-next, walked-first, walked-next}
use Rattle.hwp_banks.specs.hwp_geom.declared.VSlot.{VSlot}

-- before the command with number n
pub record SoFar (script : Script) (copies : Who → Option VSlot) (report : Report) (cpu : Cpu) (list : List Command) (rows : List CpuLine) (n : ℕ) (raw : Option Event) (table : List ℕ) (found : Misfits) : Type 0 where
  pub raw_is : raw ≡ left_by script copies report cpu 0 (take n list) None
  pub lows : IsTableOf (take n list) table
  pub size : length table ≡ 2 * script.layout.frames
  pub walked : IsWalked script copies report cpu list rows n found

module _ (script : Script) (copies : Who → Option VSlot) (report : Report) (cpu : Cpu) (list : List Command) (rows : List CpuLine) (valid : IsDeclared script) (of_script : slice_get script.lists cpu.0 ≡ Some list) (of_report : rows ≡ unwrap_or (slice_get report.cpus cpu.0) []) where
  abbrev at : ℕ → Who
  at n = record { cpu = cpu; seq = n }

  pub so-first : (table : List ℕ) → length table ≡ 2 * script.layout.frames → IsTableOf [] table → SoFar script copies report cpu list rows 0 None table (record { lacks = false; wrong = None })
  so-first table size empty = record { raw_is = ap (λ (l : List Command). left_by script copies report cpu 0 l None) (sym (take-none list)); lows = subst (λ (l : List Command). IsTableOf l table) (sym (take-none list)) empty; size = size; walked = walked-first script copies report cpu list rows }
    where
      take-none : (xs : List Command) → take 0 xs ≡ []
      take-none [] = refl
      take-none (x ∷ xs) = refl

  -- what the command finds in bank 1, and the table for it
  found-is : (n : ℕ) → found_by script copies report (at n) ≡ left_by script copies report cpu 0 (take n list) None
  found-is n = ap (λ (o : Option (List Command)). left_by script copies report cpu 0 (take n (unwrap_or o [])) None) of_script

  pub table-is : (n : ℕ) (raw : Option Event) (table : List ℕ) (found : Misfits) → SoFar script copies report cpu list rows n raw table found → IsTable script (at n) table
  table-is n raw table found so = subst (λ (o : Option (List Command)). IsTableOf (take n (unwrap_or o [])) table) (sym of_script) so.lows

  -- its number is small
  pub few-commands : length list ≤ 4096
  few-commands =
      let one : length (get_or script.lists cpu.0 list) ≤ sum_by length script.lists = get_or-le-sum_by length script.lists cpu.0 list (slice_get_within script.lists cpu.0 list of_script) in
      let same : length (get_or script.lists cpu.0 list) ≡ length list = ap length (get_or_from_slice_get script.lists cpu.0 list list of_script) in
      let few : sum_by length script.lists ≤ 4096 = valid.few in
      omega (arith, one, same, few)

  -- its machine checks and its answer
  pub answer-is : (n : ℕ) (answers : List (Option Answer)) (d : Option Answer) → n < length list → AreFirst rows (length list) answers → get_or answers n d ≡ answer_of report (at n)
  answer-is n answers d within first =
      first.each n (get_or answers n d) (slice_get-get_or answers n d (let s : length answers ≡ length list = first.size in omega (arith, s, within))) ∙ ap (λ (r : List CpuLine). answer_among r n) of_report

  pub checks-are : (n : ℕ) (checks : List ℕ) (d : ℕ) → n < length list → AreChecks cpu (length list) report.pages checks → get_or checks n d ≡ entries_of report (at n) is_check
  checks-are n checks d within are = are.each n (get_or checks n d) (slice_get-get_or checks n d (let s : length checks ≡ length list = are.size in omega (arith, s, within)))

  pub checks-few : (n : ℕ) (checks : List ℕ) (d : ℕ) → n < length list → AreChecks cpu (length list) report.pages checks → sum_by length report.pages + 1 < 2 ^ 64 → get_or checks n d + 1 < 2 ^ 64
  checks-few n checks d within are room =
      let is : get_or checks n d ≡ sum_by (checks_in cpu n) report.pages = are.each n (get_or checks n d) (slice_get-get_or checks n d (let s : length checks ≡ length list = are.size in omega (arith, s, within))) in
      let most : sum_by (checks_in cpu n) report.pages ≤ sum_by length report.pages = sum_by-le-sum_by (checks_in cpu n) length report.pages (λ p. count_by-le-length (λ (e : Entry). is_same_command (at n) e.who && is_check e.what) p) in
      omega (arith, is, most, room)

  pub fit-is : (n : ℕ) (d : Command) → n < length list → IsFit (get_or list n d)
  fit-is n d within = fits script cpu.0 list valid of_script n (get_or list n d) (slice_get-get_or list n d within)

  has-place : (c : Command) (table : List ℕ) → IsCommandOf script.layout (0 + cpu.0) c → length table ≡ 2 * script.layout.frames → HasPlace c table
  has-place (commands.Bad frame line) table is size = let f : frame.0 < script.layout.frames = is.0 in omega (arith, f, size)
  has-place (commands.Weak frame line) table is size = let f : frame.0 < script.layout.frames = is.0 in omega (arith, f, size)
  has-place _ table is size = record {}

  -- one command more
  pub so-next : (n : ℕ) (raw left : Option Event) (table next : List ℕ) (found : Misfits) (faults : Faults) (lines : List Shown) (command : Command) → slice_get list n ≡ Some command → lines ≡ shown_from n 0 rows
      → IsJudged script copies report (at n) command raw left (shown_lines lines) faults → next ≡ with_mark command table
      → SoFar script copies report cpu list rows n raw table found → SoFar script copies report cpu list rows (n + 1) left next (joined found faults lines)
  so-next n raw left table next found faults lines command made own judged next_is so = record {
    raw_is = left-next script copies report cpu list rows n command raw left within (left_is ∙ ap (λ (c : Command). leaves script copies report (at n) c raw (events_of report (at n))) command_is) so.raw_is;
    lows = table-next list n command table next within (subst (λ (c : Command). HasPlace c table) command_is (has-place command table is_command so.size)) (next_is ∙ ap (λ (c : Command). with_mark c table) command_is) so.lows;
    size = ap length next_is ∙ table-size command table ∙ so.size;
    walked = walked-next script copies report cpu list rows n command made left faults lines own told_are own_judged found so.walked;
  }
    where
      within : n < length list
      within = slice_get_within list n command made

      command_is : command ≡ get_or list n command
      command_is = sym (get_or_from_slice_get list n command command made)

      is_command : IsCommandOf script.layout (0 + cpu.0) command
      is_command = command-of script cpu.0 n list command valid of_script made

      told_are : shown_lines lines ≡ events_of report (at n)
      told_are = ap shown_lines own ∙ told-is n rows ∙ ap (λ (r : List CpuLine). events_among r n) of_report

      own_judged : IsJudged script copies report (at n) command (found_by script copies report (at n)) left (events_of report (at n)) faults
      own_judged = subst (λ (l : List EventLine). IsJudged script copies report (at n) command (found_by script copies report (at n)) left l faults) told_are
          (subst (λ (r : Option Event). IsJudged script copies report (at n) command r left (shown_lines lines) faults) (so.raw_is ∙ sym (found-is n)) judged)

      left_is : left ≡ leaves script copies report (at n) command raw (events_of report (at n))
      left_is = judged.left_is ∙ ap (leaves script copies report (at n) command raw) told_are
