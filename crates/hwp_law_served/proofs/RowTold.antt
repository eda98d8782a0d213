-- What holds of each event of a machine check holds of each event that a row tells.
use Rattle.std.proofs.Common.{◌≡◌, ◌⊎◌, inl, inr, ℕ, zero, suc, ◌+◌, Bool, true, false, List, [], ◌∷◌, Option, Some, None, is_some, map, slice_get, refl, sym, ap, ◌∙◌, subst}
use Rattle.std.specs.Prelude.{MatchBool}
use Rattle.std.proofs.lemmas.Option.{none-some, same_Some}
use Rattle.hwp_law.specs.hwp_geom.declared.Frame.{Frame}
use Rattle.hwp_law.specs.hwp_geom.declared.Layout.{Layout}
use Rattle.hwp_law.specs.hwp_geom.declared.Mode.{Mode}
use Rattle.hwp_law.specs.hwp_geom.declared.Mode.TheVariants as modes
use Rattle.hwp_law.specs.hwp_geom.declared.Thread.{Thread}
use Rattle.hwp_law.specs.hwp_geom.declared.Who.{Who}
use Rattle.hwp_law.specs.hwp_banks.declared.Event.{Event}
use Rattle.hwp_law.specs.hwp_banks.declared.Origin.{Origin}
use Rattle.hwp_law.specs.hwp_banks.declared.Origin.TheVariants as origins
use Rattle.hwp_law.specs.hwp_severity.Graded.{is_user}
use Rattle.hwp_plain.specs.hwp_core_rule.declared.View.{View}
use Rattle.hwp_plain.specs.hwp_core_rule.Lists.{EachMember}
use Rattle.hwp_plain.proofs.of_hwp_core_rule.MoreEntries.{each-append}
use Rattle.hwp_law.specs.hwp_script_words.declared.Command.{Command}
use Rattle.hwp_law.specs.hwp_script_words.declared.Command.TheVariants as commands
use Rattle.hwp_law.specs.hwp_report_text.declared.Answer.{Answer}
use Rattle.hwp_law.specs.hwp_report_text.declared.Answer.TheVariants as answers
use Rattle.hwp_law.specs.hwp_banks.Banks.{Banks, empty_banks, held_from}
use Rattle.hwp_law.specs.hwp_severity.Handling.{has_stop}
use Rattle.hwp_law.specs.Commands.{arrival_of, current_thread}
use Rattle.hwp_law.specs.hwp_severity.declared.Arrival.{Arrival}
use Rattle.hwp_cpu_row.specs.hwp_claim.declared.EventOutcome.{EventOutcome}
use Rattle.hwp_cpu_row.specs.hwp_claim.Checks.{AreChecks, Check, IsActedOn, lines_of}
use Rattle.hwp_cpu_row.specs.hwp_claim.Events.{graded_in}
use Rattle.hwp_cpu_row.specs.hwp_claim.Fits.{AreTold, IsTold}
use Rattle.hwp_scrub.specs.Visits as scrubs
use Rattle.hwp_scrub.specs.Visits.{AreVisits, IsBadMet, IsWeakMet, Visit, left_by_bad, left_by_visit, lines_of_visit, scrub_bank, scrubbing, with_bad}
use Rattle.hwp_law_served.specs.Told.{AreToldBy, IsCutShort, IsRaiseTold, IsScrubTold, IsUntold, is_raised}

-- of each event that banks hold, as a thread meets them, where one in user mode has a thread
abbrev pub HoldsOfEvents : Layout → View → Who → (Option Thread → EventOutcome → Type 0) → Type 0
HoldsOfEvents layout view who P =
    (thread : Option Thread) (how : Arrival) (events : List (ℕ × Event)) (held_back : Bool) (lines : List EventOutcome) → (is_user how.mode ≡ true → is_some thread ≡ true)
    → map (λ (t : EventOutcome). t.held) lines ≡ map (graded_in how) events → AreTold layout view who thread held_back lines → EachMember (P thread) lines

module _ (layout : Layout) (view : View) (who : Who) (P : Option Thread → EventOutcome → Type 0) (holds : HoldsOfEvents layout view who P) where
  of-acted : (thread : Option Thread) (how : Arrival) (banks : Banks) (lines : List EventOutcome) → (is_user how.mode ≡ true → is_some thread ≡ true) → IsActedOn layout view who thread how banks lines → EachMember (P thread) lines
  of-acted thread how banks lines user acted = holds thread how (held_from 0 banks) (has_stop how banks) lines user acted.events acted.told

  pub of-checks : (thread : Thread) (line : ℕ) (origin : Origin) (mode : Mode) (banks : Banks) (checks : List Check) → AreChecks layout view who thread line origin mode banks checks → EachMember (P (Some thread)) (lines_of checks)
  of-checks thread line origin mode banks [] are = λ i t there. absurd (none-some t there)
  of-checks thread line origin mode banks (c ∷ cs) (is, rest) =
      each-append (P (Some thread)) c.lines (lines_of cs) (of-acted (Some thread) _ _ c.lines (λ user. refl) is.acted_on) (of-checks thread line origin mode empty_banks cs rest)

  of-access : (thread : Thread) (line : ℕ) (origin : Origin) (mode : Mode) (before : Banks) (told : List EventOutcome) (checks : List Check) → AreChecks layout view who thread line origin mode before checks → told ≡ lines_of checks → EachMember (P (Some thread)) told
  of-access thread line origin mode before told checks are is = subst (EachMember (P (Some thread))) (sym is) (of-checks thread line origin mode before checks are)

  of-none : (thread : Option Thread) (told : List EventOutcome) → told ≡ [] → EachMember (P thread) told
  of-none thread told none i t there = absurd (none-some t (sym (ap (λ (l : List EventOutcome). slice_get l i) none) ∙ there))

  of-raise : (thread : Option Thread) (how : Arrival) (answer : Answer) (before : Banks) (told : List EventOutcome) (after : Banks) → (is_user how.mode ≡ true → is_some thread ≡ true) → IsRaiseTold layout view who thread how answer before told after → EachMember (P thread) told
  of-raise thread how answer before told after user is = which (is_raised answer told) is
    where
      which : (b : Bool) → MatchBool b (IsActedOn layout view who thread how before told × (after ≡ empty_banks)) (IsUntold told before after) → EachMember (P thread) told
      which true (acted, left) = of-acted thread how before told user acted
      which false (none, left) = of-none thread told none

  -- ---- of a scrub

  of-bad : (frame : Frame) (banks : Banks) (line : Option ℕ) (lines : List EventOutcome) → IsBadMet layout view who frame banks line lines → EachMember (P None) lines
  of-bad frame banks None lines none = of-none None lines none
  of-bad frame banks (Some line) lines acted = of-acted None scrubbing (with_bad frame line banks) lines (λ user. user) acted

  of-weak : (frame : Frame) (banks : Banks) (line : Option ℕ) (lines : List EventOutcome) → IsWeakMet layout view who frame banks line lines → EachMember (P None) lines
  of-weak frame banks None lines none = of-none None lines none
  of-weak frame banks (Some line) lines kept = holds None scrubbing ((scrub_bank, kept.event) ∷ []) false lines (λ user. user) kept.events kept.told

  of-visits : (frame : ℕ) (banks : Banks) (visits : List Visit) → AreVisits layout view who frame banks visits → EachMember (P None) (scrubs.lines_of visits)
  of-visits frame banks [] are = λ i t there. absurd (none-some t there)
  of-visits frame banks (v ∷ vs) (is, rest) =
      each-append (P None) (lines_of_visit v) (scrubs.lines_of vs)
      (each-append (P None) v.bad.lines v.weak.lines (of-bad (record { 0 = frame }) banks v.bad.line v.bad.lines is.bad.met) (of-weak (record { 0 = frame }) (left_by_bad v.bad.line banks) v.weak.line v.weak.lines is.weak.met))
      (of-visits (frame + 1) (left_by_visit v banks) vs rest)

  of-cut : (first last : Frame) (before : Banks) (told : List EventOutcome) (after : Banks) → IsUntold told before after ⊎ IsCutShort layout view who first last before told after → EachMember (P None) told
  of-cut first last before told after (inl none) = of-none None told none.0
  of-cut first last before told after (inr cut) = subst (EachMember (P None)) (sym cut.told_is)
      (each-append (P None) (scrubs.lines_of cut.visits) cut.bad.lines (of-visits first.0 before cut.visits cut.visited) (of-bad _ _ cut.bad.line cut.bad.lines cut.found.met))

  of-scrub : (first last : Frame) (answer : Answer) (before : Banks) (told : List EventOutcome) (after : Banks) → IsScrubTold layout view who first last answer before told after → EachMember (P None) told
  of-scrub first last (answers.Scrubbed n) before told after is = subst (EachMember (P None)) (sym is.told_is) (of-visits first.0 before is.visits is.visited)
  of-scrub first last answer before told after is = of-cut first last before told after is

  -- of a command
  pub told-by : (command : Command) (answer : Answer) (before : Banks) (told : List EventOutcome) (after : Banks) → AreToldBy layout view who command answer before told after → EachMember (P (current_thread command)) told
  told-by (commands.Load thread slot line) answer before told after is = of-access thread line origins.Access modes.User before told is.checks is.are is.told_is
  told-by (commands.Fetch thread slot line) answer before told after is = of-access thread line origins.Fetch modes.User before told is.checks is.are is.told_is
  told-by (commands.KLoad thread slot line) answer before told after is = of-access thread line origins.Access modes.Kernel before told is.checks is.are is.told_is
  told-by (commands.Store thread slot line word) answer before told after is = of-access thread line origins.Access modes.User before told is.checks is.are is.told_is
  told-by (commands.RaiseUser thread ripv eipv) answer before told after is = of-raise (Some thread) (arrival_of (commands.RaiseUser thread ripv eipv)) answer before told after (λ user. refl) is
  told-by (commands.RaiseKernel ripv eipv) answer before told after is = of-raise None (arrival_of (commands.RaiseKernel ripv eipv)) answer before told after (λ user. user) is
  told-by (commands.Scrub first last) answer before told after is = of-scrub first last answer before told after is
  told-by (commands.Log status addr misc) answer before told after is = of-none _ told is.0
  told-by command answer before told after is = of-none _ told is.0

module _ (layout : Layout) (view : View) (who : Who) where
  -- what was done about an event is right, whether failures were held back or not
  abbrev pub IsToldRight : Option Thread → EventOutcome → Type 0
  IsToldRight thread t = (held_back : Bool) × IsTold layout view who thread held_back t

  pub told-each : (thread : Option Thread) (held_back : Bool) (ts : List EventOutcome) → AreTold layout view who thread held_back ts → EachMember (IsToldRight thread) ts
  told-each thread held_back [] told i x there = absurd (none-some x there)
  told-each thread held_back (t ∷ ts) (first, rest) zero x there = subst (IsToldRight thread) (same_Some t x there) (held_back, first)
  told-each thread held_back (t ∷ ts) (first, rest) (suc i) x there = told-each thread _ ts rest i x there
