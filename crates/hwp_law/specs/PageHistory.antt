-- When the history of a page is that of a state, and one frame says where the page is.
use Rattle.std.specs.Prelude.{◌≡◌, Bool, false, cond, ◌==◌, List, count_by}
use Rattle.hwp_script_words.specs.hwp_geom.declared.Layout.{Layout}
use Rattle.hwp_script_words.specs.hwp_geom.declared.Page.{Page}
use Rattle.hwp_report_text.specs.hwp_page.declared.Entry.{Entry}
use Rattle.hwp_report_text.specs.hwp_page.declared.PageState.{PageState}
use Rattle.hwp_report_text.specs.hwp_page.History.{IsReplay}
use Rattle.hwp_report_text.specs.declared.FrameLine.{FrameLine}
use Rattle.hwp_report_text.specs.declared.Whereabouts.{Whereabouts}
use Rattle.hwp_report_text.specs.declared.Whereabouts.TheVariants as places

-- the place is this page's
abbrev pub is_of : Page → Whereabouts → Bool
is_of page places.Free = false
is_of page places.Kernel = false
is_of page places.Handled = false
is_of page (places.Of other) = other.0 == page.0

-- a page's history leads from its opening to a state, and the page is cached exactly where one frame says it
pub record IsHistory (layout : Layout) (frames : List FrameLine) (page : Page) (entries : List Entry) : Type 0 where
  pub state : PageState
  pub replay : IsReplay layout page entries state
  pub held : count_by (λ (f : FrameLine). is_of page f.place) frames ≡ cond state.cached 1 0
