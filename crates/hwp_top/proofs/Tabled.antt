-- A table was closed with what the processors' turns led to.
use Rattle.std.proofs.Common.{◌≡◌, ℕ, List, sym, ap, ◌∙◌}
use Rattle.hwp_top_report.specs.hwp_table_words.Ends.{EndValue, IsEnd}
use Rattle.hwp_top_report.specs.hwp_table_words.Known.{Known}
use Rattle.hwp_table.specs.Boards.{whole_then}
use Rattle.hwp_top_words.specs.hwp_script_read.declared.Script.{Script}
use Rattle.hwp_top_report.specs.hwp_cpu_row.declared.Row.{Row}
use Rattle.hwp_top.specs.Runs.{IsTablePlayed, KnowsRun}

-- a table that was closed by a seat that knew the run was closed with the words and the bodies of the run's last board
pub table-played : (ways : ℕ) (script : Script) (ended : EndValue) (rows : List (List Row)) (v : Known) → KnowsRun script v rows → ended.layout ≡ script.layout → ended.known ≡ v
    → IsEnd ways ended.layout ended.known ended.words ended.slots ended.entries → IsTablePlayed script ended rows
table-played ways script ended rows v run layout_is known_is end =
    let moves_are = ap (λ (k : Known). k.whole) known_is ∙ run.whole in
    let whole = end.whole (whole_then run.state run.log) moves_are in
    record {
      log = run.log;
      state = run.state;
      played = run.played;
      closed = record { layout_is = layout_is; words_are = sym whole.words; bodies_are = sym whole.homes; moves_are = moves_are };
    }
