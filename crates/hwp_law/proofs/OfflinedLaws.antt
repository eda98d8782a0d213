-- The collector of a processor from one of its commands to the next.
use Rattle.std.proofs.Common.{◌≡◌, ℕ, ◌+◌, List, [], ◌∷◌, ◌++◌, length, Option, ap, ◌∙◌, arith}
use Rattle.hwp_script_words.specs.hwp_geom.declared.Layout.{Layout}
use Rattle.hwp_script_words.specs.declared.Command.{Command}
use Rattle.hwp_report_text.specs.declared.Answer.{Answer}
use Rattle.hwp_report_text.specs.declared.CpuLine.{CpuLine}
use Rattle.hwp_law.specs.Notes.{notes}
use Rattle.hwp_law.specs.Watched.{Watched, watched_after}
use Rattle.hwp_law.specs.Lines.{events_among}
use Rattle.hwp_law.specs.Offlined.{watched_from}

-- after one command more: what that command makes of it
pub watched-more : (layout : Layout) (rows : List CpuLine) (n : ℕ) (list : List (Command × Answer)) (p : Command × Answer) (before : Option Watched)
    → watched_from layout rows n (list ++ p ∷ []) before ≡ watched_after p.0 p.1 (notes layout (events_among rows (n + length list))) (watched_from layout rows n list before)
watched-more layout rows n [] p before = ap (λ (m : ℕ). watched_after p.0 p.1 (notes layout (events_among rows m)) before) (omega arith)
watched-more layout rows n (q ∷ list) p before =
    let next : Option Watched = watched_after q.0 q.1 (notes layout (events_among rows n)) before in
    let same : n + 1 + length list ≡ n + length (q ∷ list) = omega arith in
    watched-more layout rows (n + 1) list p next
    ∙ ap (λ (m : ℕ). watched_after p.0 p.1 (notes layout (events_among rows m)) (watched_from layout rows (n + 1) list next)) same
