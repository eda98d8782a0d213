-- Why no frame is free.
use Rattle.std.specs.Prelude.{◌≡◌, ℕ, ◌+◌, ◌*◌, ◌≤◌, ◌==◌, min, not, List, length, slice_index_or, true}
use Rattle.std.specs.Int.{from_bool}
use Rattle.hwp_page.specs.hwp_geom.declared.Layout.{Layout}
use Rattle.hwp_core_rule.specs.declared.shared_word.SharedWord.TheVariants as places
use Rattle.hwp_core_rule.specs.declared.view.Mark.{Mark}
use Rattle.hwp_core_rule.specs.declared.view.Sight.{Sight}
use Rattle.hwp_core_rule.specs.Lists.{EachListed, sum_all}
use Rattle.hwp_core_rule.specs.Words.{sum_below}

-- 1 where the frame isn't the kernel's
abbrev pub usable : Layout → ℕ → ℕ
usable layout f = from_bool (not (slice_index_or layout.kernel f true))

-- 1 where the frame isn't the kernel's and has a mark
abbrev pub is_marked : Layout → List (List Mark) → ℕ → ℕ
is_marked layout marks f = min (usable layout f) (sum_all (λ (m : Mark). from_bool (m.frame.0 == f)) marks)

-- Where a step found no frame available, the marked frames are at least those that aren't the kernel's, less the pages,
-- less two for each processor. Broken by: a frame that is neither free, nor in use, nor marked.
pub record ExhaustionExplained (layout : Layout) (marks : List (List Mark)) (sights : List (List Sight)) : Type 0 where
  pub explained : EachListed (λ (s : Sight). s.place ≡ places.Available → s.word ≡ 0
      → sum_below (usable layout) layout.frames ≤ sum_below (is_marked layout marks) layout.frames + length layout.pages + 2 * layout.cpus) sights
