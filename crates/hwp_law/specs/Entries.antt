-- Which entries a command makes, also where memory fails, and in which page.
use Rattle.std.specs.Prelude.{◌≡◌, ◌⊎◌, ℕ, Bool, true, List, Option, Some, None, IsSomeAnd}
use Rattle.hwp_script_words.specs.hwp_geom.declared.Layout.{Layout}
use Rattle.hwp_script_words.specs.hwp_geom.declared.Page.{Page}
use Rattle.hwp_script_words.specs.hwp_geom.declared.Thread.{Thread}
use Rattle.hwp_script_words.specs.hwp_geom.declared.VSlot.{VSlot}
use Rattle.hwp_script_words.specs.hwp_geom.declared.Who.{Who}
use Rattle.hwp_report_text.specs.hwp_page.declared.At.{At}
use Rattle.hwp_report_text.specs.hwp_page.declared.Entry.{Entry}
use Rattle.hwp_report_text.specs.hwp_page.declared.What.{What}
use Rattle.hwp_report_text.specs.hwp_page.declared.What.TheVariants as entries
use Rattle.hwp_script_words.specs.declared.Command.{Command}
use Rattle.hwp_script_words.specs.declared.Command.TheVariants as commands
use Rattle.hwp_script_words.specs.declared.Script.{Script}
use Rattle.hwp_law.specs.Commands.{Access, access_of, can_fail, can_offline, command_at, current_thread, has_watch}
use Rattle.hwp_law.specs.Copies.{MakesCopy}
use Rattle.hwp_law.specs.History.{Fits, Names}
use Rattle.hwp_law.specs.Places.{entry_at}

-- the access is through this translation and at this line
abbrev pub IsAccessAt : VSlot → ℕ → Access → Type 0
IsAccessAt slot line a = (a.slot ≡ slot) × (a.line ≡ line)

-- a thread needs the page now, and then it is the current one; or none does
abbrev pub IsRequiredBy : Command → Option Thread → Type 0
IsRequiredBy command required = (required ≡ None) ⊎ (required ≡ current_thread command)

-- the entry is of a kind that the command makes, with the command's numbers. A page leaves its frame by `soft`; in a script with a
-- `watch`, also beside the answer of a command
abbrev pub Makes : Bool → Command → What → Type 0
Makes watches command (entries.Mce slot line mask) = IsSomeAnd (access_of command) (IsAccessAt slot line)
Makes watches command (entries.Fail situation required seen signals) = (can_fail command ≡ true) × IsRequiredBy command required
Makes watches (commands.Soft frame) entries.Soft = Unit {0}
Makes watches command entries.Soft = (watches ≡ true) × (can_offline command ≡ true)
Makes watches command what = Fits command what

-- the page is the one that the command names; a failure and a soft offline meet the page that is in their frame
abbrev pub CanStandIn : Layout → Command → Page → What → Type 0
CanStandIn layout command page (entries.Fail situation required seen signals) = Unit {0}
CanStandIn layout command page entries.Soft = Unit {0}
CanStandIn layout command page what = Names layout command page

-- the entry is one that its command makes, in a page where it can stand; or one of a copy that the command makes first
abbrev pub IsMadeBy : Script → (Who → Option VSlot) → Page → Entry → Type 0
IsMadeBy script copies page e =
    IsSomeAnd (command_at script e.who) (λ (command : Command). (Makes (has_watch script) command e.what × CanStandIn script.layout command page e.what)
    ⊎ IsSomeAnd (copies e.who) (λ (from : VSlot). MakesCopy script.layout from command page e.what))

-- each entry is one that its command makes
abbrev pub AreMadeBy : Script → (Who → Option VSlot) → List (List Entry) → Type 0
AreMadeBy script copies pages = (at : At) (e : Entry) → entry_at pages at ≡ Some e → IsMadeBy script copies at.page e
