-- The first line that is wrong, where what is right depends on something that was read.
use Rattle.std.proofs.Common.{◌≡◌, ℕ, ◌<◌, List, get_or, length, subst}
use Rattle.hwp_law.specs.hwp_report_text.declared.EventLine.{EventLine}
use Rattle.hwp_check_event_line.specs.Firsts.{AreRightTo, IsFirstWrong, shown_lines}
use Rattle.hwp_check_event_line.specs.declared.Shown.{Shown}
use Rattle.hwp_check_event_line.proofs.LineScans.{first-wrong}

pub first-wrong-by : {X : Type 0} (R : X → ℕ → EventLine → Type 0) (x y : X) (lines : List Shown) (n : ℕ) (d : Shown) → n < length lines → x ≡ y → (R x n (get_or lines n d).line → ⊥) → AreRightTo (R y) (shown_lines lines) n → IsFirstWrong (R y) (shown_lines lines) n
first-wrong-by R x y lines n d within same wrong before = first-wrong (R y) lines n d within (subst (λ z. R z n (get_or lines n d).line → ⊥) same wrong) before
