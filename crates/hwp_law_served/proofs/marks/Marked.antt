-- Marks, and lines of records, among their lists.
use Rattle.std.proofs.Common.{◌≡◌, ℕ, ◌<◌, ◌==◌, Bool, true, false, List, Some, length, slice_get, refl, sym, ap, ◌∙◌, arith, true≢false, Option}
use Rattle.std.specs.Prelude.{Any}
use Rattle.std.proofs.lemmas.Bool.{and_from, and_parts, eq-eqb, eqb-true, false_from_ne_true}
use Rattle.std.proofs.lemmas.Option.{get_or_from_slice_get, slice_get_within}
use Rattle.hwp_law.specs.hwp_geom.declared.VSlot.{VSlot}
use Rattle.hwp_law.specs.hwp_geom.declared.Cpu.{Cpu}
use Rattle.hwp_law.specs.hwp_geom.declared.Who.{Who}
use Rattle.hwp_plain.specs.hwp_core_rule.declared.Mark.{Mark}
use Rattle.hwp_plain.specs.hwp_core_rule.declared.State.{State}
use Rattle.hwp_plain.specs.hwp_core_rule.declared.View.{View}
use Rattle.hwp_plain.specs.hwp_core_rule.Lists.{SomeMember}
use Rattle.hwp_plain.specs.hwp_core_rule.Words.{words_of}
use Rattle.hwp_plain.proofs.of_hwp_core_rule.Lists.{at_map}
use Rattle.hwp_plain.proofs.of_hwp_core_rule.MoveKeeps.{shaped}
use Rattle.hwp_law.specs.hwp_script_words.declared.Script.{Script}
use Rattle.hwp_law.specs.hwp_report_text.declared.FrameLine.{FrameLine}
use Rattle.hwp_law.specs.hwp_report_text.declared.Report.{Report}
use Rattle.hwp_law.specs.Lines.{is_same_command}
use Rattle.hwp_law_served.proofs.Homes.{there-is}
use Rattle.hwp_law_served.specs.Accounts.{is_same}
use Rattle.hwp_law_served.proofs.RunEnds.{IsEnd}
use Rattle.hwp_law_served.proofs.PoisonMarks.{same-who}

-- some member of a list, in two words
pub any-of : {A : Type 0} (P : A → Type 0) (l : List A) → SomeMember P l → Any P l
any-of P l (i, x, there, is) = (i, x, slice_get_within l i x there, get_or_from_slice_get l i x x there, is)

-- a command is the same as itself
pub same-self : (who other : Who) → other ≡ who → is_same who other ≡ true
same-self who other is = and_from (other.cpu.0 == who.cpu.0) (other.seq == who.seq) (eq-eqb other.cpu.0 who.cpu.0 (ap (λ (w : Who). w.cpu.0) is)) (eq-eqb other.seq who.seq (ap (λ (w : Who). w.seq) is))

-- the two say of two commands the same
pub turned : (who other : Who) → is_same_command who other ≡ is_same who other
turned who other = which (is_same who other) refl
  where
    which : (b : Bool) → is_same who other ≡ b → is_same_command who other ≡ is_same who other
    which true is = (let same : other ≡ who = same-who who other is in and_from (who.cpu.0 == other.cpu.0) (who.seq == other.seq) (eq-eqb who.cpu.0 other.cpu.0 (ap (λ (w : Who). w.cpu.0) (sym same))) (eq-eqb who.seq other.seq (ap (λ (w : Who). w.seq) (sym same)))) ∙ sym is
    which false is = false_from_ne_true (is_same_command who other) (λ yes_.
        let both = and_parts (who.cpu.0 == other.cpu.0) (who.seq == other.seq) yes_ in
        let cpus : other.cpu.0 ≡ who.cpu.0 = sym (eqb-true who.cpu.0 other.cpu.0 both.0) in
        let seqs : other.seq ≡ who.seq = sym (eqb-true who.seq other.seq both.1) in
        let same : is_same who other ≡ true = and_from (other.cpu.0 == who.cpu.0) (other.seq == who.seq) (eq-eqb other.cpu.0 who.cpu.0 cpus) (eq-eqb other.seq who.seq seqs) in
        true≢false (sym same ∙ is)) ∙ sym is

-- a frame with a mark has its line, with a record
pub line-of : (script : Script) (copies : Who → Option VSlot) (seat : Cpu → ℕ) (last : State) (report : Report) → IsEnd script copies seat last report → (i j : ℕ) (v : View) (m : Mark) → slice_get last.views i ≡ Some v → slice_get v.marks j ≡ Some m
    → (line : FrameLine) × (slice_get report.frames m.frame.0 ≡ Some line)
line-of script copies seat last report end i j v m view there =
    let within : m.frame.0 < length (words_of script.layout last.words).frames = end.board.holds.rule.failures.marks.framed i v.marks (at_map (λ (x : View). x.marks) last.views i v view) j m there in
    let all : length (words_of script.layout last.words).frames ≡ script.layout.frames = (shaped script.layout last end.board.holds).frames in
    let lines : length report.frames ≡ script.layout.frames = end.board.frames_fit in
    there-is report.frames m.frame.0 (omega arith)
