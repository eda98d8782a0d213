-- What clauses see of a trail: the moves, the newest first, and what each seat knows after them.
use Rattle.std.specs.Prelude.{ℕ, List, [], ◌∷◌, Option, map, option_map, slice_set, slice_index_or}
use Rattle.hwp_core_rule.specs.hwp_geom.declared.Layout.{Layout}
use Rattle.hwp_core_rule.specs.hwp_geom.declared.Who.{Who}
use Rattle.hwp_core_rule.specs.hwp_page.History.{BodyValue}
use Rattle.hwp_core_rule.specs.declared.Rec.{Rec}
use Rattle.hwp_core_rule.specs.declared.Step.{Step}
use Rattle.hwp_core_rule.specs.declared.View.{View}
use Rattle.hwp_core_rule.specs.Logs.{log_of}
use Rattle.hwp_core_rule.specs.Opening.{below, opening_view}
use Rattle.hwp_core_rule.specs.Views.{view_after}
use Rattle.hwp_core_rule.specs.declared.Turn.{Turn}
use Rattle.hwp_core_rule.specs.Boards.{Played}
use Rattle.hwp_plain.specs.declared.trail.Trail.{Trail, Opening, Made'}

-- the record of a step
abbrev pub made_of : Who → Step → ℕ → Option BodyValue → Rec
made_of who step found content = record { who = who; step = step; found = found; content = option_map log_of content }

-- the moves, the newest first
abbrev pub played : Trail → List Played
played Opening = []
played (Made' p before seat who step found content turn) = record { seat = seat.0; made = made_of who step.value found content.value; turn = turn } ∷ played before

-- each move changes what its own seat knows alone
abbrev pub views_of : Layout → Trail → List View
views_of layout Opening = map opening_view (below layout.cpus)
views_of layout (Made' p before seat who step found content turn) =
    slice_set (views_of layout before) seat.0 (view_after layout (made_of who step.value found content.value) (slice_index_or (views_of layout before) seat.0 (opening_view seat.0)))

-- the trail, with the turn that the newest move was
abbrev pub told : Turn → Trail → Trail
told turn Opening = Opening
told turn (Made' p before seat who step found content old) = Made' p before seat who step found content turn
