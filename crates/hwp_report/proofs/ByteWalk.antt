-- What holds of the walk over the bytes.
use Rattle.std.proofs.Common.{◌≡◌, ◌≢◌, ℕ, ◌+◌, ◌≤◌, List, [], ◌∷◌, length, refl, ap, arith}
use Rattle.std.specs.Prelude.{All}
use Rattle.std.proofs.lemmas.List.{length-append}
use Rattle.hwp_report_text.specs.declared.Report.{Report}
use Rattle.hwp_report.specs.declared.partial.Partial.{Partial}
use Rattle.hwp_report.specs.declared.partial.Partial.TheVariants as partials
use Rattle.hwp_report.specs.Cutting.{IsCut}
use Rattle.hwp_report.specs.Follows.{IsNext, IsRefused}
use Rattle.hwp_report.specs.Texts.{IsReportOf, IsFaultAt}
use Rattle.hwp_report.proofs.LinesRead.{IsReadSoFar}
use Rattle.hwp_report.proofs.LineLaws.{more_read}
use Rattle.hwp_report.proofs.FaultLaws.{IsReached, more_reached, fault_at, refuses_line, refuses_rest, whole_read}

-- the bytes were read so far as this, rest is left, and the next line is the n-th
pub record IsGoing (bytes : List ℕ) (p : Partial) (rest : List ℕ) (n : ℕ) : Type 0 where
  pub so_far : IsReadSoFar bytes p rest n
  pub reached : IsReached p
  pub few : n + length rest ≤ length bytes + 1

pub shorter : (rest here behind : List ℕ) → IsCut rest here behind → length behind + 1 ≤ length rest
shorter rest here behind c = omega (arith, ap length c.same, length-append here (10 ∷ behind))

pub going-on : (bytes rest here behind : List ℕ) (p q : Partial) (n : ℕ) → IsGoing bytes p rest n → IsCut rest here behind → IsNext p here q
    → IsGoing bytes q behind (n + 1)
going-on bytes rest here behind p q n h c next = record {
  so_far = more_read bytes rest here behind p q n h.so_far c.same next;
  reached = more_reached p next.form q h.reached next.fits next.follows;
  few = omega (arith, h.few, shorter rest here behind c);
}

-- the next line doesn't follow
pub fault-line : (bytes rest here behind : List ℕ) (p : Partial) (n : ℕ) → IsGoing bytes p rest n → IsCut rest here behind → IsRefused p here → IsFaultAt bytes n
fault-line bytes rest here behind p n h c refused =
    fault_at bytes rest p n h.so_far h.reached (refuses_line p rest here behind c refused)
    (λ r whole none. omega (arith, ap length none, shorter rest here behind c))

-- no line is left, and not nothing
pub fault-rest : (bytes rest : List ℕ) (p : Partial) (n : ℕ) → IsGoing bytes p rest n → All (λ b. b ≢ 10) rest → rest ≢ [] → IsFaultAt bytes n
fault-rest bytes rest p n h no_feed some =
    fault_at bytes rest p n h.so_far h.reached (refuses_rest p rest no_feed) (λ r whole none. some none)

-- no line is left, and not all was read
pub fault-end : (bytes rest : List ℕ) (p : Partial) (n : ℕ) → IsGoing bytes p rest n → All (λ b. b ≢ 10) rest
    → ((r : Report) → p ≡ partials.Whole r → ⊥) → IsFaultAt bytes n
fault-end bytes rest p n h no_feed unfinished =
    fault_at bytes rest p n h.so_far h.reached (refuses_rest p rest no_feed) (λ r whole none. unfinished r whole)

empty : (xs : List ℕ) → length xs ≡ 0 → xs ≡ []
empty [] e = refl
empty (x ∷ xs) e = absurd (omega (arith, e))

-- all was read
pub read-whole : (bytes rest : List ℕ) (p : Partial) (report : Report) (n : ℕ) → IsGoing bytes p rest n → p ≡ partials.Whole report → length rest ≡ 0
    → IsReportOf bytes report
read-whole bytes rest p report n h whole none =
    whole_read bytes rest report n (rw whole at h.so_far) (empty rest none)
