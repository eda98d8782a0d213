-- What a processor has done when its commands are answered.
use Rattle.std.specs.Prelude.{◌≡◌, ◌⊎◌, ℕ, ◌+◌, ◌<◌, true, false, List, [], ◌∷◌, ◌++◌, Option, Some, length, map, slice_get}
use Rattle.hwp_law.specs.hwp_geom.declared.Cpu.{Cpu}
use Rattle.hwp_law.specs.hwp_geom.declared.Damage.{Damage}
use Rattle.hwp_law.specs.hwp_geom.declared.Damage.TheVariants as damages
use Rattle.hwp_law.specs.hwp_geom.declared.Frame.{Frame}
use Rattle.hwp_law.specs.hwp_geom.declared.Layout.{Layout}
use Rattle.hwp_law.specs.hwp_geom.declared.Thread.{Thread}
use Rattle.hwp_law.specs.hwp_geom.declared.VSlot.{VSlot}
use Rattle.hwp_law.specs.hwp_geom.declared.Who.{Who}
use Rattle.hwp_law.specs.hwp_geom.Pairs.{Pairs}
use Rattle.hwp_plain.specs.hwp_core_rule.declared.Made.{Made}
use Rattle.hwp_plain.specs.hwp_core_rule.declared.Mark.{Mark}
use Rattle.hwp_plain.specs.hwp_core_rule.declared.Setting.{Setting}
use Rattle.hwp_plain.specs.hwp_core_rule.declared.SharedWord.TheVariants as places
use Rattle.hwp_plain.specs.hwp_core_rule.declared.Spoiled.{Spoiled}
use Rattle.hwp_plain.specs.hwp_core_rule.declared.View.{View}
use Rattle.hwp_plain.specs.hwp_core_rule.Lists.{EachMember}
use Rattle.hwp_plain.specs.hwp_core_rule.parts.Holdings.{HoldsNothing}
use Rattle.hwp_plain.specs.hwp_core_rule.parts.Policies.{settings_of}
use Rattle.hwp_plain.specs.hwp_core_rule.Known.{Saw}
use Rattle.hwp_law.specs.hwp_script_words.declared.Command.{Command}
use Rattle.hwp_law.specs.hwp_script_words.declared.Command.TheVariants as commands
use Rattle.hwp_law.specs.hwp_report_text.declared.Answer.{Answer}
use Rattle.hwp_law.specs.hwp_report_text.declared.Answer.TheVariants as answers
use Rattle.hwp_law.specs.hwp_banks.Banks.{Banks, empty_banks}
use Rattle.hwp_law.specs.Cows.{acting, copied_from}
use Rattle.hwp_law.specs.Settings.{settings}
use Rattle.hwp_plain.specs.hwp_words.Stops.{is_stopped}
use Rattle.hwp_law.specs.hwp_report_text.declared.OfflineResult.TheVariants as results
use Rattle.hwp_cpu_row.specs.declared.Offlining.{Offlining}
use Rattle.hwp_cpu_row.specs.declared.Row.{Row}
use Rattle.hwp_cpu_row.specs.hwp_claim.declared.EventOutcome.{EventOutcome}
use Rattle.hwp_cpu_row.specs.hwp_claim.Told.{halts}
use Rattle.hwp_law_served.specs.Accounts.{IsAccounted, IsNote}
use Rattle.hwp_law_served.specs.Causes.{IsCaused}
use Rattle.hwp_law_served.specs.Guests.{KnowsGuests}
use Rattle.hwp_law_served.specs.Handles.{KnowsNumbers, answers_by}
use Rattle.hwp_law_served.specs.Offlinings.{AreBeside, IsOfflineServed, KnowsDue}
use Rattle.hwp_law_served.specs.Rows.{notes_from}
use Rattle.hwp_law_served.specs.Told.{IsRowTold}

-- a step of the command showed that no processor had stopped the machine
pub record SawRunning (view : View) (who : Who) : Type 0 where
  pub word : ℕ
  pub running : is_stopped word ≡ false
  pub saw : Saw view who places.Stop word

-- what came of a frame beside a command is so; where that isn't that the machine had stopped, the command saw the machine running, also
-- where its own answer is `stopped`
pub record IsOffliningServed (layout : Layout) (view : View) (who : Who) (o : Offlining) : Type 0 where
  pub came : IsOfflineServed layout view who o.frame o.change o.result
  pub running : (o.result ≡ results.Stopped) ⊎ SawRunning view who

-- what a command that is answered so, with these lines, has done and told; a command whose events stopped the machine answers
-- `stopped`, and one with another answer saw the machine running; and what came of the frames that were taken out of use beside it. It
-- copied from the translation first, if from one
pub record IsRowServed (layout : Layout) (earlier : List (Command × Answer)) (copied : Option VSlot) (view : View) (who : Who) (command : Command) (before : Banks) (row : Row) (after : Banks) : Type 0 where
  pub caused : IsCaused layout earlier copied view who command before row
  pub accounted : IsAccounted layout earlier view who command row
  pub told : IsRowTold layout copied view who command before row after
  pub heeded : halts row.told ≡ true → row.answer ≡ answers.Stopped
  pub running : (row.answer ≡ answers.Stopped) ⊎ SawRunning view who
  pub beside : AreBeside view who command row
  pub offlined : EachMember (IsOffliningServed layout view who) row.offlined

-- the rows are those of the first of these commands, in order, and lead from what the banks held before to what they hold after;
-- the commands are those of the processor's list from its n-th on, behind the earlier ones with their answers; some of them copy first
abbrev pub AreRowsServed : Layout → (Who → Option VSlot) → List (Command × Answer) → View → Cpu → ℕ → Banks → List Command → List Row → Banks → Type 0
AreRowsServed layout copies earlier view cpu n before commands [] after = after ≡ before
AreRowsServed layout copies earlier view cpu n before (command ∷ commands) (row ∷ rows) after =
    (between : Banks) × IsRowServed layout earlier (copies (record { cpu = cpu; seq = n })) view (record { cpu = cpu; seq = n }) command before row between
    × AreRowsServed layout copies (earlier ++ (command, row.answer) ∷ []) view cpu (n + 1) between commands rows after
AreRowsServed layout copies earlier view cpu n before [] (row ∷ rows) after = ⊥

-- so of a script's list, where the processor acts on each command through the translations that stand for those it names
abbrev pub AreRowsActed : Layout → List (Command × Answer) → View → Cpu → ℕ → Banks → List Command → List Row → Banks → Type 0
AreRowsActed layout earlier view cpu n before commands [] after = after ≡ before
AreRowsActed layout earlier view cpu n before (command ∷ commands) (row ∷ rows) after =
    (between : Banks) × IsRowServed layout earlier (copied_from layout earlier command) view (record { cpu = cpu; seq = n }) (acting layout earlier command) before row between
    × AreRowsActed layout (earlier ++ (command, row.answer) ∷ []) view cpu (n + 1) between commands rows after
AreRowsActed layout earlier view cpu n before [] (row ∷ rows) after = ⊥

-- of a command of the processor that was begun
abbrev pub IsOneOf : Cpu → ℕ → Who → Type 0
IsOneOf cpu n who = (who.cpu ≡ cpu) × (who.seq < n)

abbrev pub IsBegun : Cpu → ℕ → Made → Type 0
IsBegun cpu n m = IsOneOf cpu n m.entry.who

-- a command can stop the machine: a nested machine check, a failure where the machine doesn't recover, and an event of a machine
-- check
abbrev pub CanStop : Layout → Command → List EventOutcome → Type 0
CanStop layout commands.RaiseNested told = Unit {0}
CanStop layout (commands.Inject frame) told = layout.recovery ≡ false
CanStop layout command told = halts told ≡ true

-- the command with this number was the first of its processor that answered `stopped`
pub record IsFirstStopped (rows : List Row) (seq : ℕ) (row : Row) : Type 0 where
  pub row_is : slice_get rows seq ≡ Some row
  pub stopped : row.answer ≡ answers.Stopped
  pub first : (i : ℕ) (earlier : Row) → i < seq → slice_get rows i ≡ Some earlier → earlier.answer ≡ answers.Stopped → ⊥

-- a stop is by such a command
pub record IsOwnStop (layout : Layout) (cpu : Cpu) (list : List Command) (rows : List Row) (who : Who) : Type 0 where
  pub cpu_is : who.cpu ≡ cpu
  pub command : Command
  pub there : slice_get list who.seq ≡ Some command
  pub row : Row
  pub can : CanStop layout command row.told
  pub answered : IsFirstStopped rows who.seq row

-- some command was answered `stopped`
abbrev pub HasStopped : List Row → Type 0
HasStopped rows = (i : ℕ) × (row : Row) × (slice_get rows i ≡ Some row) × (row.answer ≡ answers.Stopped)

-- after its first `stopped` a processor has no other answer
abbrev pub StaysStopped : List Row → Type 0
StaysStopped rows = (i j : ℕ) (row later : Row) → i < j → slice_get rows i ≡ Some row → slice_get rows j ≡ Some later → row.answer ≡ answers.Stopped → later.answer ≡ answers.Stopped

-- the command by which a line of a frame goes bad, or weak
abbrev pub spoiling : Damage → Frame → ℕ → Command
spoiling damages.Bad frame line = commands.Bad frame line
spoiling damages.Weak frame line = commands.Weak frame line

-- a line was spoiled by such a command, which was answered `done`
pub record IsOwnSpoil (cpu : Cpu) (list : List Command) (rows : List Row) (s : Spoiled) : Type 0 where
  pub cpu_is : s.stamp.who.cpu ≡ cpu
  pub there : slice_get list s.stamp.who.seq ≡ Some (spoiling s.damage s.frame s.line)
  pub row : Row
  pub row_is : slice_get rows s.stamp.who.seq ≡ Some row
  pub answered : row.answer ≡ answers.Done

-- By what its rows say of it: the processor's commands are answered, all of them, each with its cause, its events told and its banks empty at first; all that it
-- made and did is of them, and the policies of each thread are those that they set, in their order; its marks are noted, each with what its failure
-- found; after a first `stopped` it answered nothing else; the lines that it spoiled are those of its commands; the numbers of its
-- handles are those that it was shown; the frames that were taken out of use beside its commands are those that were due; and it holds
-- nothing.
pub record IsServedBy (Are : Banks → Type 0) (layout : Layout) (view : View) (cpu : Cpu) (list : List Command) (rows : List Row) : Type 0 where
  pub count : length rows ≡ length list
  pub banks : Banks
  pub rows_are : Are banks
  pub made : EachMember (IsBegun cpu (length list)) view.made
  pub marked : EachMember (λ (m : Mark). IsOneOf cpu (length list) m.stamp.who) view.marks
  pub set : EachMember (λ (s : Setting). IsOneOf cpu (length list) s.stamp.who) view.settings
  pub policies : (thread : Thread) → map (λ (s : Setting). s.policy) (settings_of thread view.settings) ≡ settings layout thread (answers_by list rows)
  pub stops : EachMember (IsOwnStop layout cpu list rows) view.stops
  pub noted : Pairs IsNote (notes_from cpu 0 rows) view.marks
  pub spoiled : EachMember (IsOwnSpoil cpu list rows) view.spoiled
  pub stays : StaysStopped rows
  pub numbers : KnowsNumbers layout view cpu list rows
  pub due : KnowsDue layout list rows
  pub nothing : HoldsNothing view

-- by the commands that it acted on, some of which copy first; and by those of the script
abbrev pub IsServed : Layout → (Who → Option VSlot) → View → Cpu → List Command → List Row → Type 0
IsServed layout copies view cpu list rows = IsServedBy (λ (after : Banks). AreRowsServed layout copies [] view cpu 0 empty_banks list rows after) layout view cpu list rows

abbrev pub HasActed : Layout → View → Cpu → List Command → List Row → Type 0
HasActed layout view cpu list rows = IsServedBy (λ (after : Banks). AreRowsActed layout [] view cpu 0 empty_banks list rows after) layout view cpu list rows

-- of those of the script the rows also say which accesses of guests were denied, and what guests were told
pub record HasServed (layout : Layout) (view : View) (cpu : Cpu) (list : List Command) (rows : List Row) : Type 0 where
  pub acted : HasActed layout view cpu list rows
  pub guests : KnowsGuests layout view cpu list rows
