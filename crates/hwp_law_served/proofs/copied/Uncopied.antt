-- A command that is no store copies nothing: its cause, and what it tells, are those of its kind.
use Rattle.std.proofs.Common.{◌≡◌, Bool, true, false, List, Option, Some, None, refl, true≢false}
use Rattle.hwp_law.specs.hwp_geom.declared.Layout.{Layout}
use Rattle.hwp_law.specs.hwp_geom.declared.VSlot.{VSlot}
use Rattle.hwp_law.specs.hwp_geom.declared.Who.{Who}
use Rattle.hwp_law.specs.hwp_banks.Banks.{Banks}
use Rattle.hwp_plain.specs.hwp_core_rule.declared.View.{View}
use Rattle.hwp_law.specs.hwp_script_words.declared.Command.{Command}
use Rattle.hwp_law.specs.hwp_script_words.declared.Command.TheVariants as commands
use Rattle.hwp_law.specs.hwp_report_text.declared.Answer.{Answer}
use Rattle.hwp_law.specs.Commands.{can_fail}
use Rattle.hwp_cpu_row.specs.declared.FrameChange.{FrameChange}
use Rattle.hwp_cpu_row.specs.hwp_claim.declared.EventOutcome.{EventOutcome}
use Rattle.hwp_law_served.specs.Accounts.{IsOwn}
use Rattle.hwp_law_served.specs.Causes.{IsAnswerCaused, IsCausedWith}
use Rattle.hwp_law_served.specs.Told.{AreToldBy, AreToldWith}

abbrev pub is_store : Command → Bool
is_store (commands.Store thread slot line word) = true
is_store command = false

pub uncopied : (layout : Layout) (earlier : List (Command × Answer)) (copied : Option VSlot) (view : View) (who : Who) (command : Command) (before : Banks) (told : List EventOutcome) (own : Option FrameChange) (answer : Answer) → is_store command ≡ false
    → IsCausedWith layout earlier copied view who command before told own answer → IsAnswerCaused layout earlier view who command told own answer
uncopied layout earlier None view who command before told own answer none caused = caused
uncopied layout earlier (Some from) view who (commands.Store thread slot line word) before told own answer none caused = absurd (true≢false none)
uncopied layout earlier (Some from) view who command before told own answer none caused = absurd caused

pub told-uncopied : (layout : Layout) (copied : Option VSlot) (view : View) (who : Who) (command : Command) (answer : Answer) (before : Banks) (told : List EventOutcome) (after : Banks) → is_store command ≡ false
    → AreToldWith layout copied view who command answer before told after → AreToldBy layout view who command answer before told after
told-uncopied layout None view who command answer before told after none is = is
told-uncopied layout (Some from) view who (commands.Store thread slot line word) answer before told after none is = absurd (true≢false none)
told-uncopied layout (Some from) view who command answer before told after none is = absurd is

-- a command that did something to a frame itself is no store, and one for which memory can't fail isn't either
pub own-no-store : (command : Command) (answer : Answer) (own : FrameChange) → IsOwn command answer (Some own) → is_store command ≡ false
own-no-store (commands.Store thread slot line word) answer own is = absurd is
own-no-store command answer own is = refl

pub safe-no-store : (command : Command) → can_fail command ≡ false → is_store command ≡ false
safe-no-store (commands.Store thread slot line word) cannot = absurd (true≢false cannot)
safe-no-store command cannot = refl
