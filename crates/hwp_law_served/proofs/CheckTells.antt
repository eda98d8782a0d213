-- What a command told of its machine checks stays right over each step of another command.
use Rattle.std.proofs.Common.{◌≡◌, ◌≢◌, ◌⊎◌, inl, inr, ℕ, Bool, true, false, List, [], ◌∷◌, Option, Some, None, filter, ap, ◌∙◌, length, MatchBool, sym, subst}
use Rattle.hwp_law.specs.hwp_geom.declared.Frame.{Frame}
use Rattle.hwp_law.specs.hwp_geom.declared.Layout.{Layout}
use Rattle.hwp_law.specs.hwp_geom.declared.Mode.{Mode}
use Rattle.hwp_law.specs.hwp_geom.declared.Mode.TheVariants as modes
use Rattle.hwp_law.specs.hwp_geom.declared.Thread.{Thread}
use Rattle.hwp_law.specs.hwp_geom.declared.Who.{Who}
use Rattle.hwp_law.specs.hwp_banks.declared.Origin.{Origin}
use Rattle.hwp_law.specs.hwp_banks.declared.Origin.TheVariants as origins
use Rattle.hwp_law.specs.hwp_page.declared.At.{At}
use Rattle.hwp_law.specs.hwp_page.declared.What.TheVariants as entries
use Rattle.hwp_law.specs.hwp_page.History.{BodyValue}
use Rattle.hwp_plain.specs.hwp_core_rule.declared.Made.{Made}
use Rattle.hwp_plain.specs.hwp_core_rule.declared.Step.{Step}
use Rattle.hwp_plain.specs.hwp_core_rule.declared.View.{View}
use Rattle.hwp_plain.specs.hwp_core_rule.Lists.{SomeMember}
use Rattle.hwp_plain.specs.hwp_core_rule.Calls.{CanMake, Steps, logs}
use Rattle.hwp_plain.specs.hwp_core_rule.Known.{IsAt, deeds}
use Rattle.hwp_plain.proofs.of_hwp_core_rule.tasks.MadeEntries.{deeds-other}
use Rattle.hwp_plain.proofs.of_hwp_core_rule.tasks.SightKeeps.{saw-stays}
use Rattle.hwp_law.specs.hwp_script_words.declared.Command.{Command}
use Rattle.hwp_law.specs.hwp_script_words.declared.Command.TheVariants as commands
use Rattle.hwp_law.specs.hwp_report_text.declared.Answer.{Answer}
use Rattle.hwp_law.specs.hwp_report_text.declared.Answer.TheVariants as answers
use Rattle.hwp_law.specs.hwp_banks.Banks.{Banks, empty_banks}
use Rattle.hwp_law.specs.hwp_severity.Handling.{has_stop}
use Rattle.hwp_law.specs.Commands.{arrival_of, is_check}
use Rattle.hwp_law.specs.hwp_severity.declared.Arrival.{Arrival}
use Rattle.hwp_cpu_row.specs.hwp_claim.declared.Found.{Found}
use Rattle.hwp_cpu_row.specs.hwp_claim.declared.EventOutcome.{EventOutcome}
use Rattle.hwp_cpu_row.specs.hwp_claim.Checks.{AreChecks, Check, IsActedOn, IsCheck}
use Rattle.hwp_cpu_row.specs.hwp_claim.Fits.{IsEntered}
use Rattle.hwp_cpu_row.proofs.of_hwp_claim.FailureKeeps.{Stay, told-stays}
use Rattle.hwp_scrub.proofs.VisitLaws.{bad-stays, visits-stay}
use Rattle.hwp_law_served.specs.Told.{AreToldBy, IsAccessTold, IsCutShort, IsRaiseTold, IsScrubTold, IsUntold, is_raised}
use Rattle.hwp_law_served.proofs.AccountKeeps.{marks-stay}

module _ {layout : Layout} {by : Who} {step : Step} {body : Option BodyValue} {old new : View} {found : ℕ} {got : Option BodyValue} (can : CanMake layout by step body old) (made : Steps layout by step (logs body) old new found got)
    (who : Who) (other : who ≢ by) where
  pub deeds-stay : deeds who new ≡ deeds who old
  deeds-stay = deeds-other who other can made

  -- ---- of one event

  pub entered-stays : (frame : Frame) (required : Option Thread) (f : Found) (at : Option At) → IsEntered layout old who frame required f at → IsEntered layout new who frame required f at
  entered-stays frame required f None entered = entered
  entered-stays frame required f (Some place) entered = (
    record {
      seen = entered.0.seen;
      signals = entered.0.signals;
      made = subst (SomeMember (IsAt place.page place.entry (entries.Fail f.situation required entered.0.seen entered.0.signals))) (sym deeds-stay) entered.0.made;
      signalled = entered.0.signalled;
      paged = entered.0.paged;
    },
    entered.1,
  )

  -- what the command marked, entered and saw stays
  stay : Stay who old new
  stay = record {
    marks = λ P some. subst (SomeMember P) (sym (marks-stay made who other)) some;
    deeds = λ P some. subst (SomeMember P) (sym deeds-stay) some;
    saw = λ frame saw. record { word = saw.word; poisoned = saw.poisoned; saw = saw-stays made saw.saw };
  }

  acted-on-stays : (thread : Option Thread) (how : Arrival) (banks : Banks) (lines : List EventOutcome) → IsActedOn layout old who thread how banks lines → IsActedOn layout new who thread how banks lines
  acted-on-stays thread how banks lines acted = record { events = acted.events; told = told-stays layout who thread stay (has_stop how banks) lines acted.told }

  -- ---- of a command

  check-stays : (thread : Thread) (line : ℕ) (origin : Origin) (mode : Mode) (banks : Banks) (c : Check) → IsCheck layout old who thread line origin mode banks c → IsCheck layout new who thread line origin mode banks c
  check-stays thread line origin mode banks c is = record {
    bad = record { mask = is.bad.mask; bad = is.bad.bad; saw = saw-stays made is.bad.saw; within = is.bad.within };
    acted_on = acted-on-stays (Some thread) _ _ c.lines is.acted_on;
  }

  pub checks-stay : (thread : Thread) (line : ℕ) (origin : Origin) (mode : Mode) (banks : Banks) (checks : List Check) → AreChecks layout old who thread line origin mode banks checks
      → AreChecks layout new who thread line origin mode banks checks
  checks-stay thread line origin mode banks [] are = tt
  checks-stay thread line origin mode banks (c ∷ cs) are = (check-stays thread line origin mode banks c are.0, checks-stay thread line origin mode _ cs are.1)

  access-stays : (thread : Thread) (line : ℕ) (origin : Origin) (mode : Mode) (before : Banks) (told : List EventOutcome) (after : Banks) → IsAccessTold layout old who thread line origin mode before told after
      → IsAccessTold layout new who thread line origin mode before told after
  access-stays thread line origin mode before told after is = record {
    checks = is.checks;
    count = is.count ∙ ap (λ (l : List Made). length (filter (λ (m : Made). is_check m.entry.what) l)) (sym deeds-stay);
    are = checks-stay thread line origin mode before is.checks is.are;
    told_is = is.told_is;
    after_is = is.after_is;
  }

  raise-stays : (thread : Option Thread) (how : Arrival) (answer : Answer) (before : Banks) (told : List EventOutcome) (after : Banks) → IsRaiseTold layout old who thread how answer before told after
      → IsRaiseTold layout new who thread how answer before told after
  raise-stays thread how answer before told after = by-raised (is_raised answer told)
    where
      by-raised : (b : Bool) → MatchBool b (IsActedOn layout old who thread how before told × (after ≡ empty_banks)) (IsUntold told before after)
          → MatchBool b (IsActedOn layout new who thread how before told × (after ≡ empty_banks)) (IsUntold told before after)
      by-raised true is = (acted-on-stays thread how before told is.0, is.1)
      by-raised false is = is

  cut-stays : (first last : Frame) (before : Banks) (told : List EventOutcome) (after : Banks) → IsUntold told before after ⊎ IsCutShort layout old who first last before told after
      → IsUntold told before after ⊎ IsCutShort layout new who first last before told after
  cut-stays first last before told after (inl none) = inl none
  cut-stays first last before told after (inr cut) = inr (record {
    visits = cut.visits;
    visited = visits-stay layout who stay (λ place word saw. saw-stays made saw) first.0 before cut.visits cut.visited;
    inside = cut.inside;
    bad = cut.bad;
    found = bad-stays layout who stay (λ place word saw. saw-stays made saw) _ _ cut.bad cut.found;
    told_is = cut.told_is;
    after_is = cut.after_is;
  })

  scrub-stays : (first last : Frame) (answer : Answer) (before : Banks) (told : List EventOutcome) (after : Banks) → IsScrubTold layout old who first last answer before told after → IsScrubTold layout new who first last answer before told after
  scrub-stays first last (answers.Scrubbed n) before told after is = record {
    visits = is.visits;
    visited = visits-stay layout who stay (λ place word saw. saw-stays made saw) first.0 before is.visits is.visited;
    all = is.all;
    told_is = is.told_is;
    after_is = is.after_is;
  }
  scrub-stays first last answer before told after is = cut-stays first last before told after is

  -- what another command told stays
  pub told-by-stays : (command : Command) (answer : Answer) (before : Banks) (told : List EventOutcome) (after : Banks) → AreToldBy layout old who command answer before told after → AreToldBy layout new who command answer before told after
  told-by-stays (commands.Load thread slot line) answer before told after is = access-stays thread line origins.Access modes.User before told after is
  told-by-stays (commands.Fetch thread slot line) answer before told after is = access-stays thread line origins.Fetch modes.User before told after is
  told-by-stays (commands.KLoad thread slot line) answer before told after is = access-stays thread line origins.Access modes.Kernel before told after is
  told-by-stays (commands.Store thread slot line word) answer before told after is = access-stays thread line origins.Access modes.User before told after is
  told-by-stays (commands.RaiseUser thread ripv eipv) answer before told after is = raise-stays (Some thread) (arrival_of (commands.RaiseUser thread ripv eipv)) answer before told after is
  told-by-stays (commands.RaiseKernel ripv eipv) answer before told after is = raise-stays None (arrival_of (commands.RaiseKernel ripv eipv)) answer before told after is
  told-by-stays (commands.Scrub first last) answer before told after is = scrub-stays first last answer before told after is
  told-by-stays command answer before told after is = is
