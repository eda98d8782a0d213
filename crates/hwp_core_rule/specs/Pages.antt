-- What a command that is refused has seen of a page.
use Rattle.std.specs.Prelude.{◌≡◌, ℕ, length}
use Rattle.hwp_page.specs.hwp_geom.declared.Layout.{Layout}
use Rattle.hwp_page.specs.hwp_geom.declared.Page.{Page}
use Rattle.hwp_page.specs.hwp_geom.declared.Who.{Who}
use Rattle.hwp_page.specs.declared.PageState.{PageState}
use Rattle.hwp_core_rule.specs.declared.log.Log.{Log}
use Rattle.hwp_core_rule.specs.declared.view.View.{View}
use Rattle.hwp_core_rule.specs.Logs.{state_of}
use Rattle.hwp_core_rule.specs.Known.{SawLog}

-- a step of the command, under the page's lock, saw the page after so many entries, in such a state
pub record SawState (layout : Layout) (view : View) (who : Who) (page : Page) (place : ℕ) (Such : PageState → Type 0) : Type 0 where
  pub log : Log
  pub saw : SawLog view who log
  pub page_is : log.page ≡ page
  pub place_is : length log.entries ≡ place
  pub such : Such (state_of layout log)
