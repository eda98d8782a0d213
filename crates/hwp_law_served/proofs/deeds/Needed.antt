-- The thread that needs the page of a failure, where one does, is the command's own.
use Rattle.std.proofs.Common.{◌≡◌, inl, inr, zero, suc, List, [], Option, Some, None, filter_map, option_and_then, slice_get, refl, sym, ap, ◌∙◌, subst}
use Rattle.std.specs.List.{cons_option}
use Rattle.std.proofs.lemmas.Option.{none-some, same_Some}
use Rattle.hwp_law.specs.hwp_geom.declared.Layout.{Layout}
use Rattle.hwp_law.specs.hwp_geom.declared.Thread.{Thread}
use Rattle.hwp_law.specs.hwp_geom.declared.Who.{Who}
use Rattle.hwp_law.specs.hwp_page.declared.At.{At}
use Rattle.hwp_law.specs.hwp_page.declared.What.{What}
use Rattle.hwp_law.specs.hwp_page.declared.What.TheVariants as entries
use Rattle.hwp_plain.specs.hwp_core_rule.declared.Made.{Made}
use Rattle.hwp_plain.specs.hwp_core_rule.declared.View.{View}
use Rattle.hwp_plain.specs.hwp_core_rule.Lists.{EachMember}
use Rattle.hwp_plain.proofs.of_hwp_core_rule.MoreEntries.{each-append}
use Rattle.hwp_plain.specs.hwp_core_rule.Known.{deeds}
use Rattle.hwp_cpu_row.specs.hwp_claim_act.declared.Failed.{Failed}
use Rattle.hwp_cpu_row.specs.hwp_claim_act.Abandoned.{failed_of}
use Rattle.hwp_cpu_row.specs.hwp_claim_act.Abandoned as abandoned
use Rattle.hwp_cpu_row.specs.hwp_claim_act.Abandons.{signals_now}
use Rattle.hwp_law.specs.hwp_severity.declared.Severity.{Severity}
use Rattle.hwp_law.specs.hwp_severity.declared.Severity.TheVariants as severities
use Rattle.hwp_law.specs.hwp_script_words.declared.Command.{Command}
use Rattle.hwp_law.specs.hwp_report_text.declared.Answer.{Answer}
use Rattle.hwp_law.specs.Commands.{current_thread}
use Rattle.hwp_law.specs.Entries.{IsRequiredBy}
use Rattle.hwp_cpu_row.specs.hwp_claim.declared.Found.{Found}
use Rattle.hwp_cpu_row.specs.declared.Row.{Row}
use Rattle.hwp_cpu_row.specs.hwp_claim.declared.EventOutcome.{EventOutcome}
use Rattle.hwp_cpu_row.specs.hwp_claim.Done.{entered_by}
use Rattle.hwp_cpu_row.specs.hwp_claim.CheckDone.{failed_by, failed_in}
use Rattle.hwp_cpu_row.specs.hwp_claim.Told.{required_by}
use Rattle.hwp_law_served.specs.Accounts.{IsAccounted, failures_in, found_in, own_failure}
use Rattle.hwp_law_served.proofs.Picked.{picked-has, picked-is}

-- where the entry is of a failure, the thread that needs the page may be one of the command
abbrev pub IsNeeded : Command → What → Type 0
IsNeeded command (entries.Fail situation required seen signals) = IsRequiredBy command required
IsNeeded command what = Unit {0}

-- a failure tells the thread that needs the page
required-entered : (required : Option Thread) (found : Found) (at : Option At) (failed : Failed) → entered_by required found at ≡ Some failed → failed.required ≡ required
required-entered required found None failed is = absurd (none-some failed is)
required-entered required found (Some place) failed is = sym (ap (λ (f : Failed). f.required) (same_Some (record { situation = found.situation; required = required; at = place; signalled = found.signalled }) failed is))

required-is : (required : Option Thread) (found : Option Found) (failed : Failed) → failed_by required found ≡ Some failed → failed.required ≡ required
required-is required None failed is = absurd (none-some failed is)
required-is required (Some found) failed is = required-entered required found found.at failed is

by-severity : (command : Command) (severity : Severity) → IsRequiredBy command (required_by (current_thread command) severity)
by-severity command severities.Required = inr refl
by-severity command _ = inl refl

-- of those that the row tells
module _ (command : Command) where
  abbrev Right : Failed → Type 0
  Right failed = IsRequiredBy command failed.required

  by-event : (t : EventOutcome) (failed : Failed) → failed_in (current_thread command) t ≡ Some failed → Right failed
  by-event t failed is = subst (IsRequiredBy command) (sym (required-is (required_by (current_thread command) t.held.grade.severity) t.found failed is)) (by-severity command t.held.grade.severity)

  by-own : (own : Option Failed) → ((failed : Failed) → own ≡ Some failed → Right failed) → EachMember Right (cons_option own [])
  by-own None right i failed there = absurd (none-some failed there)
  by-own (Some own) right zero failed there = right failed there
  by-own (Some own) right (suc i) failed there = absurd (none-some failed there)

  told-right : (row : Row) → EachMember Right (failures_in command row)
  told-right row = each-append Right (filter_map (failed_in (current_thread command)) row.told) (cons_option (own_failure row.own) [])
      (λ i failed there. let picked = picked-is (failed_in (current_thread command)) row.told i failed there in by-event picked.1 failed picked.3)
      (by-own (own_failure row.own) (λ failed is. inl (required-is None (option_and_then found_in row.own) failed is)))

-- and so of the entries
pub needed : {layout : Layout} {earlier : List (Command × Answer)} (view : View) (who : Who) (command : Command) (row : Row) → IsAccounted layout earlier view who command row → EachMember (λ (m : Made). IsNeeded command m.entry.what) (deeds who view)
needed view who command row account i m there = which m.entry.what refl
  where
    which : (what : What) → m.entry.what ≡ what → IsNeeded command what
    which (entries.Fail situation required seen signals) is =
        let told : Failed = record { situation = situation; required = required; at = record { page = m.page; entry = m.place }; signalled = signals_now signals } in
        let k = picked-has abandoned.failed_in (deeds who view) i m told there (ap (failed_of m.page m.place) is) in
        told-right command row k.0 told (sym (ap (λ (l : List Failed). slice_get l k.0) account.failed) ∙ k.1)
    which what is = tt
