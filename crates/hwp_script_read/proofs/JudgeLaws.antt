-- From the judgement of a line to that of all lines.
use Rattle.std.proofs.Common.{ℕ, ◌≡◌, ◌==◌, ◌<◌, ◌≤◌, ◌+◌, ◌-◌, ◌++◌, true, List, [], ◌∷◌, length, take, get_or, Some, ap, subst, ◌∙◌, sym, refl, arith}
use Rattle.std.proofs.lemmas.List.{map-append, length-map, length_push, nil_from_length}
use Rattle.std.proofs.lemmas.Option.{slice_get-get_or}
use Rattle.std.proofs.lemmas.Bool.Decides.{nat_tests}
use Rattle.hwp_script_lines.specs.declared.ScriptLine.{ScriptLine}
use Rattle.hwp_script_lines.specs.declared.ScriptLine.TheVariants as forms
use Rattle.hwp_script_lines.specs.declared.LineRead.TheVariants as reads
use Rattle.hwp_script_lines.specs.declared.Numbered.{Numbered}
use Rattle.hwp_script_read.specs.declared.context.Summary.{Summary}
use Rattle.hwp_script_read.specs.declared.why.Why.{Why}
use Rattle.hwp_script_read.specs.declared.why.Why.TheVariants as whys
use Rattle.hwp_script_read.specs.Reasons.{IsClean, AreClean}
use Rattle.hwp_script_read.specs.Sums.{Sums}
use Rattle.hwp_script_read.specs.Collects.{IsEnded}
use Rattle.hwp_script_read.specs.Refusals.{AreForms, IsLowestFault, IsFirst, AreRefused}
use Rattle.hwp_script_read.specs.declared.why.Refused.{Refused}
use Rattle.hwp_script_read.proofs.CleanLists.{AreClean-none, AreClean-push, slice_get-append_at}

-- the lines so far have these forms, each is clean, and this is their summary; of all lines the last is `end`
pub record AreSoFar (lines yielded : List Numbered) (fs : List ScriptLine) (s : Summary) : Type 0 where
  pub each : AreForms yielded fs
  pub clean : AreClean fs
  pub ended : 0 < length fs → length lines ≤ length fs → IsEnded fs
  pub sums : Sums fs s

-- before the first line
pub none_yet : {lines : List Numbered} {fs : List ScriptLine} {s : Summary} → fs ≡ [] → Sums [] s → AreSoFar lines [] fs s
none_yet {lines} {fs} {s} e sums =
    subst (λ xs. AreSoFar lines [] xs s) (sym e) (record { each = record { same = refl }; clean = AreClean-none; ended = λ some. absurd (omega (arith, some)); sums = sums })

-- the next line
pub record IsTurn (lines yielded : List Numbered) (n : Numbered) : Type 0 where
  pub within : length yielded < length lines
  pub there : n ≡ get_or lines (length yielded) n
  pub front : yielded ≡ take (length yielded) lines

pub as_many : {lines : List Numbered} {fs : List ScriptLine} → AreForms lines fs → length fs ≡ length lines
as_many {lines} {fs} h = omega (arith, simp length-map at (ap length h.same))

forms_more : (lines : List Numbered) (fs : List ScriptLine) (n : Numbered) (f : ScriptLine) → AreForms lines fs → n.read ≡ reads.ScriptLine f → AreForms (lines ++ n ∷ []) (fs ++ f ∷ [])
forms_more lines fs n f h e = record {
  same = map-append (λ (l : Numbered). l.read) lines (n ∷ []) ∙ rw (h.same, e) (sym (map-append reads.ScriptLine fs (f ∷ [])));
}

test_same : (m n : ℕ) → m ≡ n → (m == n) ≡ true
test_same m n e = grind (arith, nat_tests)

ends : (fs : List ScriptLine) (f : ScriptLine) → f ≡ forms.End → IsEnded (fs ++ f ∷ [])
ends fs f e = let at : length (fs ++ f ∷ []) - 1 ≡ length fs = omega (arith, length_push fs f) in rw at (slice_get-append_at fs f ∙ ap Some e)

pub so_far_more : {lines yielded : List Numbered} {fs : List ScriptLine} {s : Summary} (t : Summary) (n : Numbered) (f : ScriptLine) (above : List ScriptLine) (m k : ℕ)
    → AreSoFar lines yielded fs s → IsTurn lines yielded n → above ≡ fs → m ≡ length fs → k ≡ length lines → n.read ≡ reads.ScriptLine f → IsClean above f
    → ((m + 1 == k) ≡ true → f ≡ forms.End) → Sums (fs ++ f ∷ []) t → AreSoFar lines (yielded ++ n ∷ []) (fs ++ f ∷ []) t
so_far_more {lines} {yielded} {fs} {s} t n f above m k h turn same have all e clean last sums =
    let many : length fs ≡ length yielded = as_many h.each in
    let within = turn.within in record {
      each = forms_more yielded fs n f h.each e;
      clean = AreClean-push fs f h.clean (subst (λ xs. IsClean xs f) same clean);
      ended = λ some whole. ends fs f (last (test_same (m + 1) k (omega (arith, length_push fs f))));
      sums = sums;
    }

some_refused : (lines : List Numbered) (r : Refused) → 0 < length lines → IsFirst lines r → AreRefused lines r
some_refused [] r l h = absurd (omega arith)
some_refused (n ∷ lines) r l h = h

-- the first line at fault
pub refused_at : {lines yielded : List Numbered} {fs : List ScriptLine} {s : Summary} (n : Numbered) (w : Why) (above : List ScriptLine) (m k : ℕ)
    → AreSoFar lines yielded fs s → IsTurn lines yielded n → above ≡ fs → m ≡ length fs → k ≡ length lines
    → IsLowestFault (m + 1 == k) above n.read w → AreRefused lines (record { line = n.line; why = w })
refused_at {lines} {yielded} {fs} {s} n w above m k h turn same have all fault =
    let within = turn.within in
    let many : m ≡ length yielded = have ∙ as_many h.each in some_refused lines _ (omega arith) (record {
      at = length yielded;
      line = n;
      there = slice_get-get_or lines (length yielded) n turn.within ∙ ap Some (sym turn.there);
      named = refl;
      above = fs;
      each = subst (λ ls. AreForms ls fs) turn.front h.each;
      clean = h.clean;
      fault = subst (λ xs. IsLowestFault (length yielded + 1 == length lines) xs n.read w) same (rw (many, all) at fault);
    })

-- no line, where no line has a form
pub none_refused : {lines yielded : List Numbered} {fs : List ScriptLine} {s : Summary} → AreSoFar lines yielded fs s → yielded ≡ lines → length fs ≡ 0
    → AreRefused lines (record { line = 1; why = whys.BadHeader })
none_refused {lines} {yielded} {fs} {s} h e none =
    let nil : lines ≡ [] = nil_from_length lines (omega (arith, as_many h.each, ap length e)) in rw nil (refl, refl)

-- all lines
pub record AreAll (lines : List Numbered) (fs : List ScriptLine) : Type 0 where
  pub each : AreForms lines fs
  pub ended : IsEnded fs

pub all_lines : {lines yielded : List Numbered} {fs : List ScriptLine} {s : Summary} → AreSoFar lines yielded fs s → yielded ≡ lines → 0 < length fs → AreAll lines fs
all_lines {lines} {yielded} {fs} {s} h e some =
    record { each = subst (λ ls. AreForms ls fs) e h.each; ended = h.ended some (omega (arith, as_many h.each, ap length e)) }
