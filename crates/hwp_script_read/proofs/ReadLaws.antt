-- A text that is refused is the text of no script.
use Rattle.std.proofs.Common.{ℕ, ◌≡◌, ◌==◌, ◌+◌, ◌-◌, Bool, true, zero, suc, List, [], ◌∷◌, length, map, take, Some, ap, subst, ◌∙◌, sym, refl, arith}
use Rattle.std.specs.Prelude.{slice_get}
use Rattle.std.proofs.lemmas.List.{take-map}
use Rattle.std.proofs.lemmas.Option.{slice_get_within, same_Some}
use Rattle.std.proofs.lemmas.Bool.Decides.{nat_tests}
use Rattle.hwp_script_lines.proofs.LineLaws.{one_reading}
use Rattle.hwp_script_lines.specs.declared.ScriptLine.{ScriptLine}
use Rattle.hwp_script_lines.specs.declared.ScriptLine.TheVariants as forms
use Rattle.hwp_script_lines.specs.declared.LineRead.TheVariants as reads
use Rattle.hwp_script_lines.specs.declared.Numbered.{Numbered}
use Rattle.hwp_script_lines.specs.declared.Script.{Script}
use Rattle.hwp_script_read.specs.declared.why.Refused.{Refused}
use Rattle.hwp_script_read.specs.declared.why.Why.{Why}
use Rattle.hwp_script_read.specs.declared.why.Why.TheVariants as whys
use Rattle.hwp_script_read.specs.Reasons.{IsClean}
use Rattle.hwp_script_read.specs.Collects.{IsEnded}
use Rattle.hwp_script_read.specs.Refusals.{AreScript, IsFault, IsFirst, AreRefused}
use Rattle.hwp_script_read.specs.Reads.{Reads, IsFaulty, IsRefused, IsRefusedFor}
use Rattle.hwp_script_read.proofs.JudgeLaws.{as_many}

-- forms are told apart by what they are read as
pub same_forms : (fs gs : List ScriptLine) → map reads.ScriptLine fs ≡ map reads.ScriptLine gs → fs ≡ gs
same_forms [] [] e = refl
same_forms [] (g ∷ gs) e = cc
same_forms (f ∷ fs) [] e = cc
same_forms (f ∷ fs) (g ∷ gs) e = let rest : fs ≡ gs = same_forms fs gs (cc) in cc

-- the form of a line among those of all lines
pub record IsAt (fs : List ScriptLine) (i : ℕ) (line : Numbered) : Type 0 where
  pub form : ScriptLine
  pub there : slice_get fs i ≡ Some form
  pub read : line.read ≡ reads.ScriptLine form

form_at : (lines : List Numbered) (fs : List ScriptLine) (i : ℕ) (line : Numbered) → map (λ (l : Numbered). l.read) lines ≡ map reads.ScriptLine fs → slice_get lines i ≡ Some line
    → IsAt fs i line
form_at [] fs i line e at = absurd (cc)
form_at (l ∷ ls) [] i line e at = absurd (cc)
form_at (l ∷ ls) (f ∷ fs) zero line e at =
    let here : l.read ≡ reads.ScriptLine f = cc in
    let same : l ≡ line = same_Some l line at in
    record { form = f; there = refl; read = ap (λ (n : Numbered). n.read) (sym same) ∙ here }
form_at (l ∷ ls) (f ∷ fs) (suc i) line e at =
    let rest = form_at ls fs i line (cc) at in record { form = rest.form; there = rest.there; read = rest.read }

clean_fault : (last : Bool) (above : List ScriptLine) (f : ScriptLine) (w : Why) → IsClean above f → (last ≡ true → f ≡ forms.End) → IsFault last above (reads.ScriptLine f) w → ⊥
clean_fault last above f whys.NoEnd h e k = k.1 (e k.0)
clean_fault last above f w h e k = h.none w k

same_number : (m n : ℕ) → (m == n) ≡ true → m ≡ n
same_number m n e = grind (arith, nat_tests)

-- the form of the last line is `end`
last_end : (fs : List ScriptLine) (i : ℕ) (f : ScriptLine) → slice_get fs i ≡ Some f → IsEnded fs → i + 1 ≡ length fs → f ≡ forms.End
last_end fs i f there ended e =
    let at : length fs - 1 ≡ i = omega arith in same_Some f forms.End (sym there ∙ ap (slice_get fs) (sym at) ∙ ended)

-- no line of a script is at fault
no_first : (lines : List Numbered) (s : Script) (r : Refused) → AreScript lines s → IsFirst lines r → ⊥
no_first lines s r h k =
    let line = form_at lines h.forms k.at k.line h.each.same k.there in
    let above : k.above ≡ take k.at h.forms = same_forms k.above (take k.at h.forms) (sym k.each.same ∙ sym (take-map (λ (l : Numbered). l.read) k.at lines)
    ∙ ap (take k.at) h.each.same ∙ take-map reads.ScriptLine k.at h.forms) in
    let fault : IsFault (k.at + 1 == length lines) (take k.at h.forms) (reads.ScriptLine line.form) r.why = rw (← above, ← line.read) k.fault.applies in
    let last = λ (e : (k.at + 1 == length lines) ≡ true). last_end h.forms k.at line.form line.there h.ended (omega (arith, same_number (k.at + 1) (length lines) e, as_many h.each)) in
    clean_fault (k.at + 1 == length lines) (take k.at h.forms) line.form r.why (h.clean.each k.at line.form line.there) last fault

no_refusal : (lines : List Numbered) (s : Script) (r : Refused) → AreScript lines s → AreRefused lines r → ⊥
no_refusal [] s r h k =
    let none : length h.forms ≡ 0 = omega (arith, as_many h.each) in absurd (omega (arith, slice_get_within h.forms (length h.forms - 1) forms.End h.ended))
no_refusal (n ∷ lines) s r h k = no_first (n ∷ lines) s r h k

not_faulty : {bytes : List ℕ} {r : Refused} {s : Script} → Reads bytes s → IsFaulty bytes r → ⊥
not_faulty {bytes} {r} {s} h k =
    let same = one_reading h.numbered k.numbered in no_refusal k.lines s r (subst (λ ls. AreScript ls s) same h.script) k.refused

apart_for : (bytes : List ℕ) (r : Refused) (s : Script) (w : Why) → Reads bytes s → IsRefusedFor bytes r w → ⊥
apart_for bytes r s whys.TooLong h k = omega (arith, h.short, k.1)
apart_for bytes r s w h k = not_faulty h k

-- no text is both a script's and refused
pub apart : (bytes : List ℕ) (r : Refused) (s : Script) → IsRefused bytes r → Reads bytes s → ⊥
apart bytes r s k h = apart_for bytes r s r.why h k.reason
