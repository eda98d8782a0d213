-- A command beside which frames are taken out of use: what is right of its own task, and what the other steps of the command make.
use Rattle.std.specs.Prelude.{◌≡◌, ◌⊎◌, true, List, [], ◌∷◌, ◌++◌, Option, Some, None, filter_map}
use Rattle.std.specs.List.{cons_option}
use Rattle.hwp_law_served.specs.hwp_geom.declared.Layout.{Layout}
use Rattle.hwp_law_served.specs.hwp_geom.declared.VSlot.{VSlot}
use Rattle.hwp_law_served.specs.hwp_geom.declared.Who.{Who}
use Rattle.hwp_law_served.specs.hwp_core_rule.declared.Made.{Made}
use Rattle.hwp_law_served.specs.hwp_core_rule.declared.View.{View}
use Rattle.hwp_law_served.specs.hwp_core_rule.Lists.{EachMember}
use Rattle.hwp_law_served.specs.hwp_core_rule.Known.{deeds}
use Rattle.hwp_law_served.specs.hwp_script_words.declared.Command.{Command}
use Rattle.hwp_law_served.specs.hwp_script_words.declared.Command.TheVariants as commands
use Rattle.hwp_law_served.specs.hwp_report_text.declared.Answer.{Answer}
use Rattle.hwp_law_served.specs.hwp_report_text.declared.Answer.TheVariants as answers
use Rattle.hwp_law_served.specs.hwp_banks.Banks.{Banks}
use Rattle.hwp_law_served.specs.hwp_law.Commands.{Access, access_of, current_thread}
use Rattle.hwp_law_served.specs.hwp_claim.CheckDone.{failed_in, marked_in}
use Rattle.hwp_law_served.specs.hwp_claim.Told.{halts}
use Rattle.hwp_cpu_command.specs.declared.Job.{Job}
use Rattle.hwp_cpu_command.specs.Done.{failed_now, marked_now}
use Rattle.hwp_cpu_command.specs.Jobs.{banks_after, banks_before, own_of, told_of}
use Rattle.hwp_cpu_command.specs.Settings.{policies_now}
use Rattle.hwp_law_served.specs.Accounts.{IsOwn, own_failure, own_marking, set_by}
use Rattle.hwp_law_served.specs.Causes.{IsBeside, IsCausedWith, IsMet}
use Rattle.hwp_law_served.specs.Told.{AreToldWith}

-- the entries that the command made before its own task went on may stand before those that answer it; only an access has any
abbrev pub ArePriorTo : Option Access → Layout → Command → List Made → Type 0
ArePriorTo None layout command base = base ≡ []
ArePriorTo (Some access) layout command base = EachMember (IsMet layout command) base

abbrev pub ArePrior : Layout → Command → List Made → Type 0
ArePrior layout command base = ArePriorTo (access_of command) layout command base

-- a copy is one task from its beginning: what was made beside it is among its own entries
abbrev pub ArePriorWith : Layout → Command → Option VSlot → List Made → Type 0
ArePriorWith layout command None base = ArePrior layout command base
ArePriorWith layout command (Some from) base = base ≡ []

-- the cause of its answer, and what it tells of its machine checks; it copies from this translation, if from one
pub record IsOwnServed (layout : Layout) (earlier : List (Command × Answer)) (copied : Option VSlot) (view : View) (who : Who) (command : Command) (j : Job) (a : Answer) (kept : Banks) : Type 0 where
  pub caused : IsCausedWith layout earlier copied view who command (banks_before j kept) (told_of j) (own_of j) a
  pub told : AreToldWith layout copied view who command a (banks_before j kept) (told_of j) (banks_after j kept)
  pub heeded : halts (told_of j) ≡ true → a ≡ answers.Stopped

-- what it has done behind these commands, by the events that it told of and by what it did to a frame itself
pub record DoesSo (layout : Layout) (earlier : List (Command × Answer)) (command : Command) (j : Job) (a : Answer) : Type 0 where
  pub marked : marked_now j ≡ filter_map marked_in (told_of j) ++ cons_option (own_marking (own_of j)) []
  pub failed : failed_now j ≡ filter_map (failed_in (current_thread command)) (told_of j) ++ cons_option (own_failure (own_of j)) []
  pub set : policies_now j ≡ set_by layout earlier command a
  pub own : IsOwn command a (own_of j)

-- a step makes no entry of the command, or one by which a page left a frame beside it
pub record AddsBeside (who : Who) (old new : View) : Type 0 where
  pub adds : (deeds who new ≡ deeds who old) ⊎ ((m : Made) × (deeds who new ≡ deeds who old ++ m ∷ []) × IsBeside m)

-- frames may be due when its own task has its answer
abbrev pub CanCollect : Command → Type 0
CanCollect (commands.RaiseUser thread ripv eipv) = Unit {0}
CanCollect (commands.RaiseKernel ripv eipv) = Unit {0}
CanCollect (commands.Scrub first last) = Unit {0}
CanCollect command = ⊥
