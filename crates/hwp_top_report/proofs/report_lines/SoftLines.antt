-- A command's answer says that a soft offline moved the content of a frame, or took a free frame, where the command did it to that frame
-- itself, and says it of no other frame.
use Rattle.std.proofs.Common.{◌≡◌, ℕ, ◌==◌, ◌&&◌, not, Bool, true, false, cond, List, Option, Some, None, refl, sym, ap, ◌∙◌, true≢false}
use Rattle.hwp_law_served.specs.hwp_geom.declared.Frame.{Frame}
use Rattle.hwp_law_served.specs.hwp_geom.declared.Layout.{Layout}
use Rattle.hwp_law_served.specs.hwp_geom.declared.Who.{Who}
use Rattle.hwp_law_served.specs.hwp_core_rule.declared.View.{View}
use Rattle.hwp_law_served.specs.hwp_script_words.declared.Command.{Command}
use Rattle.hwp_law_served.specs.hwp_script_words.declared.Command.TheVariants as commands
use Rattle.hwp_law_served.specs.hwp_report_text.declared.Answer.{Answer}
use Rattle.hwp_law_served.specs.hwp_report_text.declared.Answer.TheVariants as answers
use Rattle.hwp_law_served.specs.hwp_law.Pairings.{is_soft_of, says_soft}
use Rattle.hwp_law_served.specs.hwp_law.Records.{is_taken}
use Rattle.hwp_law_served.specs.hwp_cpu_row.declared.FrameChange.{FrameChange}
use Rattle.hwp_law_served.specs.hwp_cpu_row.declared.FrameChange.TheVariants as owns
use Rattle.hwp_law_served.specs.hwp_claim.declared.EventOutcome.{EventOutcome}
use Rattle.hwp_law_served.specs.Accounts.{IsOwn}
use Rattle.hwp_law_served.specs.hwp_geom.declared.VSlot.{VSlot}
use Rattle.hwp_law_served.specs.hwp_banks.Banks.{Banks}
use Rattle.hwp_law_served.specs.Causes.{IsAnswerCaused, IsCausedWith}
use Rattle.hwp_law_served.proofs.copied.Uncopied.{uncopied}

-- whether a command itself moved the content of the frame, or took it free, as a number
abbrev pub soft_by : Frame → Bool → Option FrameChange → ℕ
soft_by frame moved None = 0
soft_by frame moved (Some (owns.Failed f found)) = 0
soft_by frame moved (Some (owns.Offlined f cycle m)) = cond ((f.0 == frame.0) && cond moved m (not m)) 1 0
soft_by frame moved (Some (owns.Revived f cycle)) = 0

-- what is no soft offline counts as none, of whatever frame
pub no-soft : (own moved : Bool) → ◌≡◌ {A = ℕ} (cond (own && cond moved false false) 1 0) 0
no-soft true true = refl
no-soft true false = refl
no-soft false moved = refl

module _ (frame : Frame) (moved : Bool) where
  -- no other command does so
  own-still : (command : Command) (answer : Answer) (own : Option FrameChange) → is_soft_of frame (Some command) ≡ false → IsOwn command answer own → soft_by frame moved own ≡ 0
  own-still command answer None other is = refl
  own-still (commands.Soft f) answer (Some (owns.Failed g found)) other is = refl
  own-still (commands.Soft f) answer (Some (owns.Offlined g cycle m)) other is = ap (λ (x : Frame). cond ((x.0 == frame.0) && cond moved m (not m)) 1 0) is.0 ∙ ap (λ (b : Bool). cond (b && cond moved m (not m)) 1 0) other
  own-still (commands.Soft f) answer (Some (owns.Revived g cycle)) other is = refl
  own-still (commands.Inject f) answer (Some (owns.Failed g found)) other is = refl
  own-still (commands.Unpoison f) answer (Some (owns.Revived g cycle)) other is = refl
  own-still command answer (Some own) other is = absurd is

  stopped-still : (f : Frame) (own : Option FrameChange) → IsOwn (commands.Soft f) answers.Stopped own → soft_by frame moved own ≡ 0
  stopped-still f None is = refl
  stopped-still f (Some (owns.Failed g found)) is = refl
  stopped-still f (Some (owns.Offlined g cycle true)) is = absurd (true≢false (sym is.1))
  stopped-still f (Some (owns.Offlined g cycle false)) is = absurd (true≢false (sym (ap (λ (a : Answer). is_taken (Some a)) is.1)))
  stopped-still f (Some (owns.Revived g cycle)) is = refl

  module _ (layout : Layout) (earlier : List (Command × Answer)) (view : View) (who : Who) where
    none : (f : Frame) (own : Option FrameChange) → own ≡ None → soft_by frame moved own ≡ cond ((f.0 == frame.0) && cond moved false false) 1 0
    none f own is = ap (soft_by frame moved) is ∙ sym (no-soft (f.0 == frame.0) moved)

    offline : (f : Frame) (told : List EventOutcome) (own : Option FrameChange) (answer : Answer) → IsAnswerCaused layout earlier view who (commands.Soft f) told own answer → IsOwn (commands.Soft f) answer own
        → soft_by frame moved own ≡ cond ((f.0 == frame.0) && says_soft moved (Some answer)) 1 0
    offline f told own answers.Stopped caused is = stopped-still f own is ∙ sym (no-soft (f.0 == frame.0) moved)
    offline f told own answers.Kernel caused is = none f own caused.2
    offline f told own (answers.Moved other at) caused is = ap (soft_by frame moved) caused.1.own_is
    offline f told own answers.TakenFree caused is = ap (soft_by frame moved) caused.1.own_is
    offline f told own answers.Already caused is = none f own caused.1.1
    offline f told own (answers.HasBad mask) caused is = none f own caused.1.1
    offline f told own answers.NoFrame caused is = none f own caused.1.2
    offline f told own answer caused is = absurd caused.1

    pub soft-said : (copied : Option VSlot) (command : Command) (before : Banks) (told : List EventOutcome) (own : Option FrameChange) (answer : Answer) → IsCausedWith layout earlier copied view who command before told own answer → IsOwn command answer own
        → soft_by frame moved own ≡ cond (is_soft_of frame (Some command) && says_soft moved (Some answer)) 1 0
    soft-said copied (commands.Soft f) before told own answer caused is = offline f told own answer (uncopied layout earlier copied view who (commands.Soft f) before told own answer refl caused) is
    soft-said copied command before told own answer caused is = own-still command answer own refl is
