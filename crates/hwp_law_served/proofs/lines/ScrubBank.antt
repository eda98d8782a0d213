-- The scrubber's bank holds nothing between commands, and so it holds the event of a scrub's line alone.
use Rattle.std.proofs.Common.{◌≡◌, ◌⊎◌, inl, inr, ℕ, List, [], ◌∷◌, ◌++◌, Option, Some, None, MatchBool, Bool, true, false, map, set, slice_get, slice_index_or, refl, sym, ap, ◌∙◌, subst}
use Rattle.std.proofs.lemmas.List.{length-set}
use Rattle.std.proofs.lemmas.Option.{get_or_from_slice_get, none-some, same_Some}
use Rattle.hwp_law.specs.hwp_geom.declared.Frame.{Frame}
use Rattle.hwp_law.specs.hwp_geom.declared.Layout.{Layout}
use Rattle.hwp_law.specs.hwp_geom.declared.Thread.{Thread}
use Rattle.hwp_law.specs.hwp_geom.declared.VSlot.{VSlot}
use Rattle.hwp_law.specs.hwp_geom.declared.Who.{Who}
use Rattle.hwp_law.specs.hwp_banks.declared.Event.{Event}
use Rattle.hwp_law.specs.hwp_banks.declared.Origin.{Origin}
use Rattle.hwp_law.specs.hwp_banks.declared.Origin.TheVariants as origins
use Rattle.hwp_law.specs.hwp_banks.Events.{own_event}
use Rattle.hwp_law.specs.hwp_banks.Logged.{logged, without_over}
use Rattle.hwp_plain.specs.hwp_core_rule.declared.View.{View}
use Rattle.hwp_plain.proofs.of_hwp_core_rule.Lists.{set_here}
use Rattle.hwp_law.specs.hwp_script_words.declared.Command.{Command}
use Rattle.hwp_law.specs.hwp_script_words.declared.Command.TheVariants as commands
use Rattle.hwp_law.specs.hwp_report_text.declared.Answer.{Answer}
use Rattle.hwp_law.specs.hwp_report_text.declared.Answer.TheVariants as answers
use Rattle.hwp_law.specs.hwp_banks.Banks.{Banks, empty_banks, log_in, raw_bank, raw_event}
use Rattle.hwp_law.specs.Commands.{arrival_of}
use Rattle.hwp_law.specs.hwp_severity.declared.Arrival.{Arrival}
use Rattle.hwp_law.specs.Events.{logged_if_done}
use Rattle.hwp_cpu_row.specs.hwp_claim.declared.Held.{Held}
use Rattle.hwp_cpu_row.specs.hwp_claim.declared.EventOutcome.{EventOutcome}
use Rattle.hwp_cpu_row.specs.hwp_claim.Checks.{Check, IsActedOn, left_by, with_own}
use Rattle.hwp_cpu_row.specs.hwp_claim.Events.{graded_in}
use Rattle.hwp_cpu_row.specs.hwp_claim.Fits.{AreTold, IsDone}
use Rattle.hwp_cpu_row.specs.hwp_claim.Told.{at_once, required_by}
use Rattle.hwp_scrub.specs.Visits as scrubs
use Rattle.hwp_scrub.specs.Visits.{AreBanks, IsKept, scrub_bank, scrubbing}
use Rattle.hwp_scrub.proofs.VisitLaws.{bad-leaves, left-banks}
use Rattle.hwp_cpu_access.specs.Runs.{checks_by}
use Rattle.hwp_law_served.specs.Copied.{IsCopyTold}
use Rattle.hwp_law_served.specs.Told.{AreToldBy, AreToldWith, IsCutShort, IsRaiseTold, IsScrubTold, IsUntold, is_raised}

-- ---- between commands

pub empty-free : AreBanks empty_banks
empty-free = record { three = refl; free = refl }

left-free : (before after : Banks) → after ≡ before → AreBanks before → AreBanks after
left-free before after same are = subst AreBanks (sym same) are

checks-free : (before : Banks) (checks : List Check) → AreBanks before → AreBanks (left_by before checks)
checks-free before [] are = are
checks-free before (c ∷ cs) are = empty-free

-- an event of another bank leaves the scrubber's
other-bank : (o : Option Event) (banks : Banks) → slice_get banks scrub_bank ≡ Some None → slice_get (set banks raw_bank o) scrub_bank ≡ Some None
other-bank o [] free = free
other-bank o (a ∷ []) free = free
other-bank o (a ∷ b ∷ banks) free = free

raw-free : (answer : Answer) (e : Event) (before : Banks) → AreBanks before → AreBanks (logged_if_done (Some answer) e before)
raw-free answers.Done e before are = record {
  three = length-set before raw_bank (logged (slice_index_or before raw_bank None) e) ∙ are.three;
  free = other-bank (logged (slice_index_or before raw_bank None) e) before are.free;
}
raw-free answer e before are = are

module _ (layout : Layout) (view : View) (who : Who) where
  raise-free : (thread : Option Thread) (how : Arrival) (answer : Answer) (before : Banks) (told : List EventOutcome) (after : Banks) → IsRaiseTold layout view who thread how answer before told after → AreBanks before → AreBanks after
  raise-free thread how answer before told after is are = which (is_raised answer told) is
    where
      which : (b : Bool) → MatchBool b (IsActedOn layout view who thread how before told × (after ≡ empty_banks)) (IsUntold told before after) → AreBanks after
      which true (acted, left) = left-free empty_banks after left empty-free
      which false (none, left) = left-free before after left are

  cut-free : (first last : Frame) (before : Banks) (told : List EventOutcome) (after : Banks) → IsUntold told before after ⊎ IsCutShort layout view who first last before told after → AreBanks before → AreBanks after
  cut-free first last before told after (inl none) are = left-free before after none.1 are
  cut-free first last before told after (inr cut) are = left-free _ after cut.after_is (bad-leaves cut.bad.line (scrubs.left_by before cut.visits) (left-banks before cut.visits are))

  scrub-free : (first last : Frame) (answer : Answer) (before : Banks) (told : List EventOutcome) (after : Banks) → IsScrubTold layout view who first last answer before told after → AreBanks before → AreBanks after
  scrub-free first last (answers.Scrubbed n) before told after is are = left-free _ after is.after_is (left-banks before is.visits are)
  scrub-free first last answer before told after is are = cut-free first last before told after is are

  pub row-free : (command : Command) (answer : Answer) (before : Banks) (told : List EventOutcome) (after : Banks) → AreToldBy layout view who command answer before told after → AreBanks before → AreBanks after
  row-free (commands.Load thread slot line) answer before told after is are = left-free _ after is.after_is (checks-free before is.checks are)
  row-free (commands.Fetch thread slot line) answer before told after is are = left-free _ after is.after_is (checks-free before is.checks are)
  row-free (commands.KLoad thread slot line) answer before told after is are = left-free _ after is.after_is (checks-free before is.checks are)
  row-free (commands.Store thread slot line word) answer before told after is are = left-free _ after is.after_is (checks-free before is.checks are)
  row-free (commands.RaiseUser thread ripv eipv) answer before told after is are = raise-free (Some thread) (arrival_of (commands.RaiseUser thread ripv eipv)) answer before told after is are
  row-free (commands.RaiseKernel ripv eipv) answer before told after is are = raise-free None (arrival_of (commands.RaiseKernel ripv eipv)) answer before told after is are
  row-free (commands.Scrub first last) answer before told after is are = scrub-free first last answer before told after is are
  row-free (commands.Log status addr misc) answer before told after is are = left-free _ after is.1 (raw-free answer (raw_event status addr misc) before are)
  row-free command answer before told after is are = left-free before after is.1 are

  -- also where it copied a page first
  copy-free : (thread : Thread) (from to : VSlot) (line word : ℕ) (before : Banks) (told : List EventOutcome) (after : Banks) → IsCopyTold layout view who thread from to line word before told after → AreBanks before → AreBanks after
  copy-free thread from to line word before told after is are = left-free _ after is.after_is (checks-free before (checks_by is.has.runs ++ is.last) are)

  pub with-free : (copied : Option VSlot) (command : Command) (answer : Answer) (before : Banks) (told : List EventOutcome) (after : Banks) → AreToldWith layout copied view who command answer before told after → AreBanks before → AreBanks after
  with-free None command answer before told after is are = row-free command answer before told after is are
  with-free (Some from) (commands.Store thread to line word) answer before told after is are = copy-free thread from to line word before told after is are
  with-free (Some from) command answer before told after is are = absurd is

-- ---- the event of a line

-- what an empty bank holds after it
abbrev pub lone_event : Origin → Frame → ℕ → Event
lone_event origin frame line = without_over (own_event origin frame line)

module _ (banks : Banks) (are : AreBanks banks) (frame : Frame) (line : ℕ) where
  stands : (e : Event) → slice_get (log_in scrub_bank e banks) scrub_bank ≡ Some (logged None e)
  stands e = set_here banks scrub_bank (logged (slice_index_or banks scrub_bank None) e) None are.free ∙ ap (λ (o : Option Event). Some (logged o e)) (get_or_from_slice_get banks scrub_bank None None are.free)

  pub bad-alone : slice_get (with_own origins.BadLine frame line banks) scrub_bank ≡ Some (Some (lone_event origins.BadLine frame line))
  bad-alone = stands (own_event origins.BadLine frame line)

  weak-alone : slice_get (with_own origins.WeakLine frame line banks) scrub_bank ≡ Some (Some (lone_event origins.WeakLine frame line))
  weak-alone = stands (own_event origins.WeakLine frame line)

  -- the one line that tells a weak line
  pub record IsKeptLine (lines : List EventOutcome) : Type 0 where
    pub told : EventOutcome
    pub lines_are : lines ≡ told ∷ []
    pub held : told.held ≡ graded_in scrubbing (scrub_bank, lone_event origins.WeakLine frame line)
    pub none : told.found ≡ None

  pub kept-so : (layout : Layout) (view : View) (who : Who) (lines : List EventOutcome) → IsKept layout view who frame banks line lines → IsKeptLine lines
  kept-so layout view who lines is =
      let same : is.event ≡ lone_event origins.WeakLine frame line = same_Some is.event (lone_event origins.WeakLine frame line) (same_Some (Some is.event) (Some (lone_event origins.WeakLine frame line)) (sym is.held ∙ weak-alone)) in
      which lines (is.events ∙ ap (λ (e : Event). graded_in scrubbing (scrub_bank, e) ∷ []) same) is.told
    where
      lone : Held
      lone = graded_in scrubbing (scrub_bank, lone_event origins.WeakLine frame line)

      which : (lines : List EventOutcome) → map (λ (t : EventOutcome). t.held) lines ≡ lone ∷ [] → AreTold layout view who None false lines → IsKeptLine lines
      which [] held told = absurd (none-some lone (ap (λ (l : List Held). slice_get l 0) held))
      which (t ∷ []) held told =
          let its : t.held ≡ lone = same_Some t.held lone (ap (λ (l : List Held). slice_get l 0) held) in
          record { told = t; lines_are = refl; held = its; none = (subst (λ (h : Held). IsDone layout view who (required_by None h.grade.severity) t (at_once layout false h)) its told.0).1 }
      which (t ∷ u ∷ us) held told = absurd (none-some u.held (sym (ap (λ (l : List Held). slice_get l 1) held)))
