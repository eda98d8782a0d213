-- What is wrong about the event lines of a processor, over its first commands.
use Rattle.std.specs.Prelude.{◌≡◌, ℕ, ◌+◌, ◌*◌, ◌<◌, ◌≤◌, min, ◌||◌, ◌&&◌, Bool, not, List, [], Option, Some, None, is_none, MatchBool, MatchOption, length, option_map, slice_get, slice_index_or, slice_set, unwrap_or}
use Rattle.hwp_banks.specs.hwp_geom.Limits.{line_limit}
use Rattle.hwp_banks.specs.hwp_geom.declared.Cpu.{Cpu}
use Rattle.hwp_banks.specs.hwp_geom.declared.VSlot.{VSlot}
use Rattle.hwp_banks.specs.hwp_geom.declared.Who.{Who}
use Rattle.hwp_law.specs.hwp_script_words.declared.Command.{Command}
use Rattle.hwp_law.specs.hwp_script_words.declared.Command.TheVariants as commands
use Rattle.hwp_law.specs.hwp_script_words.declared.Script.{Script}
use Rattle.hwp_law.specs.hwp_report_text.declared.CpuLine.{CpuLine}
use Rattle.hwp_law.specs.hwp_report_text.declared.Report.{Report}
use Rattle.hwp_banks.specs.Banks.{empty_banks}
use Rattle.hwp_law.specs.Events.{AreEventsFrom}
use Rattle.hwp_law.specs.Lines.{events_of}
use Rattle.hwp_check_event_line.specs.Firsts.{AreRight}
use Rattle.hwp_check_event_line.specs.OfCommands.{shown_from}
use Rattle.hwp_check_event_line.specs.Misfits.{IsRightLine, IsWrong, Lacks, found_by}
use Rattle.hwp_check_event_line.specs.Scrubs.{lowest, place_of}
use Rattle.hwp_check_event_line.specs.declared.Faults.{Faults}
use Rattle.hwp_check_event_line.specs.declared.Shown.{Shown}
use Rattle.hwp_check_events.specs.declared.misfits.Misfits.{Misfits}
use Rattle.hwp_banks.specs.declared.Origin.TheVariants as origins

-- a line that a command marks, in a table of the lowest lines
abbrev pub noted : ℕ → ℕ → List ℕ → List ℕ
noted place line table = slice_set table place (min (slice_index_or table place line_limit) line)

abbrev pub with_mark : Command → List ℕ → List ℕ
with_mark (commands.Bad frame line) table = noted (place_of origins.BadLine frame.0) line table
with_mark (commands.Weak frame line) table = noted (place_of origins.WeakLine frame.0) line table
with_mark _ table = table

-- the table has a place for what the command marks
abbrev pub HasPlace : Command → List ℕ → Type 0
HasPlace (commands.Bad frame line) table = 2 * frame.0 + 1 < length table
HasPlace (commands.Weak frame line) table = 2 * frame.0 + 1 < length table
HasPlace _ table = Unit {0}

-- the table has the lowest lines that these commands mark
abbrev pub IsTableOf : List Command → List ℕ → Type 0
IsTableOf list table = (place : ℕ) → slice_index_or table place line_limit ≡ lowest list place

module _ (script : Script) (copies : Who → Option VSlot) (report : Report) (cpu : Cpu) (list : List Command) (rows : List CpuLine) where
  -- one of the first n commands lacks event lines
  pub record LacksSome (n : ℕ) : Type 0 where
    pub seq : ℕ
    pub command : Command
    pub within : seq < n
    pub made : slice_get list seq ≡ Some command
    pub lacks : Lacks script copies report (record { cpu = cpu; seq = seq }) command (found_by script copies report (record { cpu = cpu; seq = seq })) (events_of report (record { cpu = cpu; seq = seq }))

  -- the row shows a wrong event line of one of the first n commands
  pub record IsWrongRow (n row : ℕ) : Type 0 where
    pub seq : ℕ
    pub command : Command
    pub number : ℕ
    pub shown : Shown
    pub within : seq < n
    pub made : slice_get list seq ≡ Some command
    pub there : slice_get (shown_from seq 0 rows) number ≡ Some shown
    pub row_is : row ≡ shown.place
    pub wrong : IsWrong script copies report (record { cpu = cpu; seq = seq }) command (found_by script copies report (record { cpu = cpu; seq = seq })) (events_of report (record { cpu = cpu; seq = seq })) number

  -- all event lines of the first n commands are right
  abbrev pub AllRight : ℕ → Type 0
  AllRight n =
      (seq : ℕ) (command : Command) → seq < n → slice_get list seq ≡ Some command
      → AreRight (IsRightLine script copies report (record { cpu = cpu; seq = seq }) command (found_by script copies report (record { cpu = cpu; seq = seq })) (events_of report (record { cpu = cpu; seq = seq }))) (events_of report (record { cpu = cpu; seq = seq }))

  -- the row is the first that shows a wrong one
  pub record IsFirstRow (n row : ℕ) : Type 0 where
    pub at : IsWrongRow n row
    pub first : (other : ℕ) → IsWrongRow n other → row ≤ other

  -- what was found over the first n commands
  pub record IsWalked (n : ℕ) (found : Misfits) : Type 0 where
    pub lacks : MatchBool found.lacks (LacksSome n) (LacksSome n → ⊥)
    pub wrong : MatchOption found.wrong (AllRight n) (IsFirstRow n)

-- the lower of a row that was found so far, if one was, and one more
abbrev pub sooner : Option ℕ → ℕ → Option ℕ
sooner None place = Some place
sooner (Some first) place = Some (min first place)

-- where the event line with this number stands
abbrev pub place_at : List Shown → ℕ → ℕ
place_at lines number = unwrap_or (option_map (λ (s : Shown). s.place) (slice_get lines number)) 0

abbrev pub joined_wrong : Option ℕ → Option ℕ → List Shown → Option ℕ
joined_wrong found None lines = found
joined_wrong found (Some number) lines = sooner found (place_at lines number)

-- what was found so far with what is wrong about one command more
abbrev pub joined : Misfits → Faults → List Shown → Misfits
joined found faults lines = record { lacks = found.lacks || faults.lacks; wrong = joined_wrong found.wrong faults.wrong lines }

-- nothing is wrong
abbrev pub is_clean : Misfits → Bool
is_clean found = not found.lacks && is_none found.wrong

-- what is said of a processor's event lines: what was found, and whether they are those that the law asks
pub record IsProcessorJudged (script : Script) (copies : Who → Option VSlot) (report : Report) (cpu : Cpu) (list : List Command) (found : Misfits) : Type 0 where
  pub walked : IsWalked script copies report cpu list (unwrap_or (slice_get report.cpus cpu.0) []) (length list) found
  pub law : MatchBool (is_clean found) (AreEventsFrom script copies report cpu 0 list empty_banks) (AreEventsFrom script copies report cpu 0 list empty_banks → ⊥)
