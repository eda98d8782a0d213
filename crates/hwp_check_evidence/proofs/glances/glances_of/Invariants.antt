use Rattle.std.proofs.Common.{◌≡◌, ℕ, List, Some, length, slice_get}
use Rattle.hwp_law.specs.hwp_geom.Layout.{is_locked}
use Rattle.hwp_law.specs.hwp_geom.declared.PageKind.{PageKind}
use Rattle.hwp_law.specs.hwp_page.declared.Entry.{Entry}
use Rattle.hwp_check_evidence.specs.declared.glances.PageGlances.{PageGlances}
use Rattle.hwp_check_evidence.specs.Glances.{IsPage}
use Rattle.hwp_check_evidence.proofs.glances.glances_of.Given as goal

abbrev pub invariant-loop-number : goal.invariant-loop-number
invariant-loop-number l =
    (length l.all.items ≡ l.number)
    × ((page : ℕ) (kind : PageKind) (entries : List Entry) (found : PageGlances) → slice_get l.fn.layout.pages page ≡ Some kind → slice_get l.fn.pages page ≡ Some entries → slice_get l.all.items page ≡ Some found
    → IsPage kind (is_locked l.fn.layout (record { 0 = page })) entries found)
