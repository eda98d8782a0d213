-- What was found of a processor's event lines, and the law.
use Rattle.std.proofs.Common.{◌≡◌, inl, inr, ◌↔◌, ℕ, ◌<◌, ◌^◌, ◌&&◌, Bool, true, false, not, List, [], Option, Some, None, MatchBool, MatchOption, is_none, length, option_map, slice_get, slice_index_or, unwrap_or, refl, sym, ◌∙◌, subst, arith}
use Rattle.std.specs.Int.{IsBitSet, bit_at}
use Rattle.std.specs.List.{All}
use Rattle.std.proofs.lemmas.Bool.{cases_lt}
use Rattle.std.proofs.lemmas.List.{get_or_past}
use Rattle.std.proofs.lemmas.List.Elements.{All-get_or}
use Rattle.std.proofs.lemmas.Nat.{bit_set_by_shift}
use Rattle.std.proofs.lemmas.Nat.Bits.{bit_at_above, shr_and_one}
use Rattle.std.proofs.lemmas.Option.{get_or_from_slice_get, slice_get_within}
use Rattle.hwp_banks.specs.hwp_geom.Limits.{line_limit}
use Rattle.hwp_banks.specs.hwp_geom.declared.Cpu.{Cpu}
use Rattle.hwp_banks.specs.declared.Origin.{Origin}
use Rattle.hwp_banks.specs.declared.Origin.TheVariants as origins
use Rattle.hwp_check_event_line.specs.Scripts.{IsDeclared}
use Rattle.hwp_law.specs.hwp_script_words.declared.Command.{Command}
use Rattle.hwp_law.specs.hwp_script_words.declared.Script.{Script}
use Rattle.hwp_law.specs.hwp_report_text.declared.CpuLine.{CpuLine}
use Rattle.hwp_law.specs.hwp_report_text.declared.FrameLine.{FrameLine}
use Rattle.hwp_law.specs.hwp_report_text.declared.Report.{Report}
use Rattle.hwp_banks.specs.Banks.{empty_banks}
use Rattle.hwp_law.specs.Events.{AreEventsFrom, IsDamaged}
use Rattle.hwp_check_event_line.specs.Misfits.{AreTold}
use Rattle.hwp_check_events.specs.Walked.{AllRight, IsFirstRow, IsProcessorJudged, IsTableOf, IsWalked, IsWrongRow, LacksSome}
use Rattle.hwp_check_events.specs.declared.misfits.Misfits.{Misfits}
use Rattle.hwp_check_event_line.proofs.LineLaws.{no-line}
use Rattle.hwp_check_events.proofs.ValidLaws.{fits, has-lines}
use Rattle.hwp_check_events.proofs.Walks.{processor-law}
use Rattle.hwp_check_events.proofs.CommandEvents.{AreMasks}
use Rattle.hwp_banks.specs.hwp_geom.declared.VSlot.{VSlot}
use Rattle.hwp_banks.specs.hwp_geom.declared.Who.{Who}

-- a bit of a word is below 64
low-bit : (mask at : ℕ) → mask < 2 ^ 64 → IsBitSet mask at → at < 64
low-bit mask at small set = elim (cases_lt at 64) [
  | inl low ↦ low
  | inr high ↦ absurd (let one : bit_at mask at ≡ 1 = sym (shr_and_one mask at) ∙ (bit_set_by_shift mask at).1 set in let none : bit_at mask at ≡ 0 = bit_at_above mask 64 at small high in omega (arith, one, none))
]

abbrev pub Small : FrameLine → Type 0
Small l = (l.bad.0 < 2 ^ 64) × (l.weak.0 < 2 ^ 64)

small-at : (frames : List FrameLine) (n : ℕ) (l : FrameLine) → All Small frames → slice_get frames n ≡ Some l → Small l
small-at frames n l all there = subst Small (get_or_from_slice_get frames n l l there) (All-get_or Small frames n l (slice_get_within frames n l there) all)

pub masks : (report : Report) → All Small report.frames → AreMasks report
masks report all origin frame at damaged = by origin (slice_get report.frames frame) refl damaged
  where
    bad : (o : Option FrameLine) → slice_get report.frames frame ≡ o → IsBitSet (unwrap_or (option_map (λ (l : FrameLine). l.bad.0) o) 0) at → at < 64
    bad None is set = absurd (no-line at set)
    bad (Some l) is set = low-bit l.bad.0 at (small-at report.frames frame l all is).0 set

    weak : (o : Option FrameLine) → slice_get report.frames frame ≡ o → IsBitSet (unwrap_or (option_map (λ (l : FrameLine). l.weak.0) o) 0) at → at < 64
    weak None is set = absurd (no-line at set)
    weak (Some l) is set = low-bit l.weak.0 at (small-at report.frames frame l all is).1 set

    by : (origin : Origin) (o : Option FrameLine) → slice_get report.frames frame ≡ o → IsDamaged report origin frame at → at < 64
    by origins.WeakLine o is set = weak (slice_get report.frames frame) refl set
    by origins.BadLine o is set = bad (slice_get report.frames frame) refl set
    by origins.Access o is set = bad (slice_get report.frames frame) refl set
    by origins.Fetch o is set = bad (slice_get report.frames frame) refl set

-- a table of such lines is that of no command
pub empty-table : (table : List ℕ) → ((k : ℕ) (d : ℕ) → k < length table → slice_index_or table k d ≡ 64) → IsTableOf [] table
empty-table table all = λ place. elim (cases_lt place (length table)) [
  | inl within ↦ all place line_limit within
  | inr past ↦ get_or_past table place line_limit past
]

module _ (script : Script) (copies : Who → Option VSlot) (report : Report) (cpu : Cpu) (list : List Command) (valid : IsDeclared script) (all : All Small report.frames) (of_script : slice_get script.lists cpu.0 ≡ Some list) where
  abbrev rows : List CpuLine
  rows = unwrap_or (slice_get report.cpus cpu.0) []

  abbrev Law : Type 0
  Law = AreEventsFrom script copies report cpu 0 list empty_banks

  pub both : AreTold script copies report cpu list ↔ Law
  both = processor-law script copies report (masks report all) (has-lines script valid) cpu list of_script (fits script cpu.0 list valid of_script)

  none-lacks : (LacksSome script copies report cpu list rows (length list) → ⊥) → AllRight script copies report cpu list rows (length list) → AreTold script copies report cpu list
  none-lacks enough right = λ seq command made. record {
    right = right seq command (slice_get_within list seq command made) made;
    enough = λ lacks. enough (record { seq = seq; command = command; within = slice_get_within list seq command made; made = made; lacks = lacks });
  }

  some-lack : LacksSome script copies report cpu list rows (length list) → AreTold script copies report cpu list → ⊥
  some-lack l told = (told l.seq l.command l.made).enough l.lacks

  some-wrong : (row : ℕ) → IsWrongRow script copies report cpu list rows (length list) row → AreTold script copies report cpu list → ⊥
  some-wrong row w told = w.wrong.wrong ((told w.seq w.command w.made).right w.number w.wrong.line w.wrong.there)

  pub processor-judged : (found : Misfits) → IsWalked script copies report cpu list rows (length list) found → IsProcessorJudged script copies report cpu list found
  processor-judged found w = record { walked = w; law = by found.lacks found.wrong w.lacks w.wrong }
    where
      by : (a : Bool) (o : Option ℕ) → MatchBool a (LacksSome script copies report cpu list rows (length list)) (LacksSome script copies report cpu list rows (length list) → ⊥)
          → MatchOption o (AllRight script copies report cpu list rows (length list)) (IsFirstRow script copies report cpu list rows (length list)) → MatchBool (not a && is_none o) Law (Law → ⊥)
      by true None lacks right = λ law. some-lack lacks (both.1 law)
      by true (Some row) lacks right = λ law. some-lack lacks (both.1 law)
      by false None enough right = both.0 (none-lacks enough right)
      by false (Some row) enough first = λ law. some-wrong row first.at (both.1 law)
