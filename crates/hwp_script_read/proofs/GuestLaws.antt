-- Why the guests of clean lines run on one processor each, with handlers.
use Rattle.std.proofs.Common.{ℕ, ◌≡◌, ◌≢◌, ◌<◌, ◌≤◌, ◌++◌, Bool, true, false, List, [], ◌∷◌, length, get_or, set, zero, suc, ap, subst, ◌∙◌, sym, refl, arith, ⊎_elim}
use Rattle.std.specs.Prelude.{All, fold}
use Rattle.std.proofs.lemmas.List.{get_or-set_other}
use Rattle.std.proofs.lemmas.List.Elements.{All-nil, All-head, All-tail, All-push}
use Rattle.std.proofs.lemmas.Bool.{cases_eq}
use Rattle.hwp_script_lines.specs.hwp_geom.declared.Layout.{Layout}
use Rattle.hwp_script_lines.specs.hwp_geom.declared.ThreadDecl.{ThreadDecl}
use Rattle.hwp_script_lines.specs.hwp_geom.declared.Version.TheVariants as versions
use Rattle.hwp_script_lines.specs.declared.ScriptLine.{ScriptLine}
use Rattle.hwp_script_lines.specs.declared.ScriptLine.TheVariants as forms
use Rattle.hwp_script_read.specs.Context.{version_in, version_after, thread_of, threads_in, guests_in, guests_after, highest}
use Rattle.hwp_script_lines.specs.hwp_script_words.Guests.{cannot_be_guest}
use Rattle.hwp_script_read.specs.Reasons.{IsClean}
use Rattle.hwp_script_lines.specs.hwp_script_words.Valid.{AreGuestsFit}
use Rattle.hwp_script_read.proofs.ContextLaws.{onto}
use Rattle.hwp_script_read.proofs.CleanLaws.{none_above, clean_guest, clean_proc, clean_thread}
use Rattle.hwp_script_read.proofs.TwinLaws.{clash}

abbrev pub IsNot : Bool → Type 0
IsNot guest = guest ≡ false

-- each guest among these can be one with these threads
pub record AreFit (threads : List ThreadDecl) (guests : List Bool) : Type 0 where
  pub each : (process : ℕ) → get_or guests process false ≡ true → cannot_be_guest threads process ≡ false

not_at : (gs : List Bool) (i : ℕ) → All IsNot gs → get_or gs i false ≡ false
not_at [] i h = refl
not_at (g ∷ gs) zero h = All-head IsNot g gs h
not_at (g ∷ gs) (suc i) h = not_at gs i (All-tail IsNot g gs h)

pub nobody_fit : (threads : List ThreadDecl) (gs : List Bool) → All IsNot gs → AreFit threads gs
nobody_fit threads gs h = record { each = λ p e. absurd (clash (get_or gs p false) e (not_at gs p h)) }

-- lines of low groups make no process a guest
nobody_early : (gs : List Bool) (fs : List ScriptLine) → highest fs ≤ 8 → All IsNot gs → All IsNot (fold guests_after gs fs)
nobody_early gs [] l h = h
nobody_early gs (forms.Proc p ∷ fs) l h = nobody_early (gs ++ false ∷ []) fs (omega (arith, l)) (All-push IsNot gs false h refl)
nobody_early gs (forms.Guest p ∷ fs) l h = absurd (omega (arith, l))
nobody_early gs (f ∷ fs) l h = nobody_early gs fs (omega (arith, l)) h

one_fit : (threads : List ThreadDecl) (gs : List Bool) (p : ℕ) → AreFit threads gs → cannot_be_guest threads p ≡ false → AreFit threads (set gs p true)
one_fit threads gs p h fit = record {
  each = λ q e. ⊎_elim
      (λ (same : q ≡ p). rw same fit)
      (λ (other : q ≢ p). h.each q (sym (get_or-set_other gs p q true false other) ∙ e))
      (cases_eq q p);
}

pub guests_step : (above : List ScriptLine) (f : ScriptLine) → AreFit (threads_in above) (guests_in above) → IsClean above f
    → AreFit (onto (thread_of f) (threads_in above)) (guests_after (guests_in above) f)
guests_step above (forms.Proc p) h k =
    let low : highest above ≤ 8 = omega (arith, (clean_proc k).placed.late) in
    nobody_fit (threads_in above) (guests_in above ++ false ∷ []) (All-push IsNot (guests_in above) false (nobody_early [] above low (All-nil IsNot)) refl)
guests_step above (forms.Thread t p c b) h k =
    let low : highest above ≤ 8 = omega (arith, (clean_thread k).placed.late) in
    nobody_fit (onto (thread_of (forms.Thread t p c b)) (threads_in above)) (guests_in above) (nobody_early [] above low (All-nil IsNot))
guests_step above (forms.Guest p) h k = one_fit (threads_in above) (guests_in above) p h (clean_guest k).fit
guests_step above f h k = h

-- in version One no process is a guest
pub unguested_step : (above : List ScriptLine) (f : ScriptLine) → (version_in above ≡ versions.One → All IsNot (guests_in above)) → IsClean above f
    → version_after (version_in above) f ≡ versions.One → All IsNot (guests_after (guests_in above) f)
unguested_step above (forms.Header v) h k one = rw (none_above k) (All-nil IsNot)
unguested_step above (forms.Proc p) h k one = All-push IsNot (guests_in above) false (h one) refl
unguested_step above (forms.Guest p) h k one = absurd ((clean_guest k).newer one)
unguested_step above f h k one = h one

-- said of a layout
pub layout_fit : (l : Layout) → AreFit l.threads l.guests → AreGuestsFit l
layout_fit l h = record { each = λ process e. h.each process.0 e }

pub fit_layout : (l : Layout) → AreGuestsFit l → AreFit l.threads l.guests
fit_layout l h = record { each = λ p e. h.each (record { 0 = p }) e }
