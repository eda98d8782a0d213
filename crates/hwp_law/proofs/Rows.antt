-- Equal lines of answers.
use Rattle.std.proofs.Common.{◌≡◌, ℕ, ap}
use Rattle.hwp_report_text.specs.declared.Answer.{Answer}
use Rattle.hwp_report_text.specs.declared.CpuLine.{CpuLine}
use Rattle.hwp_report_text.specs.declared.CpuLine.TheVariants as lines

pub same_answer : (m n : ℕ) (a b : Answer) → ◌≡◌ {A = CpuLine} (lines.Answer m a) (lines.Answer n b) → (m ≡ n) × (a ≡ b)
same_answer m n a b same = (ap (number m) same, ap (answer_of a) same)
  where
    number : ℕ → CpuLine → ℕ
    number d (lines.Answer n answer) = n
    number d line = d

    answer_of : Answer → CpuLine → Answer
    answer_of d (lines.Answer n answer) = answer
    answer_of d line = d
