-- The workers in the vector whose slice was run.
use Rattle.std.proofs.Common.{◌≡◌, ℕ, ◌++◌, List, All, length, map, take, drop, sym, ap, ◌∙◌, subst}
use Rattle.atomic_table.specs.Seated.{TableId}
use Rattle.hwp_threads.specs.Workers.{AllRan, CanRun}
use Rattle.hwp_threads.specs.hwp_table_words.Known.{Known}
use Rattle.hwp_threads.specs.hwp_table_words.Seats.{HasRight, Moves, SeatValue, mine}
use Rattle.hwp_threads.specs.hwp_table_words.Stands.{Me}
use Rattle.hwp_threads.specs.Dealing.{IsUnused, workers_at}
use Rattle.hwp_threads.specs.Gathering.{AreBare, AreGathered}
use Rattle.hwp_top_words.specs.hwp_script_read.declared.Script.{Script}
use Rattle.hwp_top_words.specs.hwp_script_read.hwp_script_words.Valid.{IsValid}
use Rattle.hwp_cpu.specs.declared.Processor.{Processor}
use Rattle.hwp_top.specs.Runs.{AreAtBeginning, processors}
use Rattle.hwp_top.proofs.Played.{written-back}
use Rattle.hwp_top.specs.ThreadRuns.{HaveRun}
use Rattle.hwp_top.proofs.Ran.{Place, are-bare, can-run, have-run, value}

module _ (script : Script) (crew : List Processor) (valid : IsValid script) (begin : AreAtBeginning script crew) (id : TableId) (items slice : List Place)
    (dealt : map value items ≡ workers_at id script.layout 0 crew) (same : slice ≡ items) where
  dealt-slice : map value slice ≡ workers_at id script.layout 0 crew
  dealt-slice = ap (map value) same ∙ dealt

  -- each worker of the slice can make its turns
  pub can-run-all : All (λ (w : Place). CanRun (λ (s : SeatValue). s.layout) (λ (s : SeatValue). mine s) (λ (s : SeatValue). HasRight s.known) processors.fits (value w)) slice
  can-run-all = can-run script crew valid begin id slice dealt-slice

  module _ (len : ℕ) (news : List Place) (whole : length news ≡ len) (count : length news ≡ length slice)
      (ran : AllRan processors (λ (s : SeatValue). s.layout) (λ (s : SeatValue). mine s) (λ a r b. Moves a r b) slice news) where
    written : take len (news ++ drop (length news) items) ≡ news
    written = written-back len news items whole

    -- each worker in the vector can be taken in then
    pub bare-then : AreBare id (take len (news ++ drop (length news) items))
    bare-then = subst (AreBare id) (sym written) (are-bare script crew valid begin id slice dealt-slice news count ran)

    -- and the one seat that took all in knows their runs
    pub run-then : (left : Known) → IsUnused left → (of : TableId) (me : Me) (tasks : List Processor) → AreGathered id left (take len (news ++ drop (length news) items)) of me tasks → HaveRun script me.0.known tasks
    run-then left unused of me tasks gathered =
        have-run script crew valid begin id slice dealt-slice news count ran left unused me of tasks (subst (λ (ws : List Place). AreGathered id left ws of me tasks) written gathered)
