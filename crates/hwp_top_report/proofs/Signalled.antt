-- A failure that signalled the thread which needs its page now: its entry stands in the report, and sent that thread SIGBUS.
use Rattle.std.proofs.Common.{◌≡◌, ℕ, ◌<◌, Bool, true, false, List, Option, Some, refl, sym, ap, ◌∙◌, subst, true≢false}
use Rattle.std.specs.Prelude.{Any}
use Rattle.std.specs.FinSet as set
use Rattle.std.specs.Ordering.{nat_cmp}
use Rattle.std.proofs.lemmas.List.Folds.{Any-from_list_any}
use Rattle.std.proofs.lemmas.Option.{none-some}
use Rattle.hwp_law_served.specs.hwp_geom.declared.VSlot.{VSlot}
use Rattle.hwp_law_served.specs.hwp_geom.declared.Cpu.{Cpu}
use Rattle.hwp_law_served.specs.hwp_geom.declared.Layout.{Layout}
use Rattle.hwp_law_served.specs.hwp_geom.declared.Page.{Page}
use Rattle.hwp_law_served.specs.hwp_geom.declared.Thread.{Thread}
use Rattle.hwp_law_served.specs.hwp_geom.declared.Who.{Who}
use Rattle.hwp_law_served.specs.hwp_kill.declared.Code.{Code}
use Rattle.hwp_law_served.specs.hwp_kill.declared.Code.TheVariants as codes
use Rattle.hwp_law_served.specs.hwp_kill.declared.Seen.{Seen}
use Rattle.hwp_law_served.specs.hwp_kill.declared.Signal.{Signal}
use Rattle.hwp_law_served.specs.hwp_kill.Kill.{AreDue, Killed, Reaches}
use Rattle.hwp_law_served.specs.hwp_page.declared.At.{At}
use Rattle.hwp_law_served.specs.hwp_page.declared.Entry.{Entry}
use Rattle.hwp_law_served.specs.hwp_page.declared.PageState.{PageState}
use Rattle.hwp_law_served.specs.hwp_page.declared.What.{What}
use Rattle.hwp_law_served.specs.hwp_page.declared.What.TheVariants as entries
use Rattle.hwp_law_served.specs.hwp_page.Situations.{always_signals, is_signalling}
use Rattle.hwp_law_served.specs.hwp_page.Step.{IsFailure}
use Rattle.hwp_law_served.specs.hwp_core_rule.declared.State.{State}
use Rattle.hwp_law_served.specs.hwp_core_rule.Boards.{view_of}
use Rattle.hwp_law_served.specs.hwp_claim_act.declared.Failed.{Failed}
use Rattle.hwp_law_served.specs.hwp_claim_act.Abandons.{is_now, signals_now}
use Rattle.hwp_law_served.specs.hwp_severity.declared.Severity.{Severity}
use Rattle.hwp_law_served.specs.hwp_severity.declared.Severity.TheVariants as severities
use Rattle.hwp_law_served.specs.hwp_script_words.declared.Command.{Command}
use Rattle.hwp_law_served.specs.hwp_script_words.declared.Script.{Script}
use Rattle.hwp_law_served.specs.hwp_report_text.declared.Report.{Report}
use Rattle.hwp_law_served.specs.hwp_law.Causes.{IsSigbus, SendsSigbus}
use Rattle.hwp_law_served.specs.hwp_law.Commands.{current_thread}
use Rattle.hwp_law_served.specs.hwp_law.Places.{entry_at}
use Rattle.hwp_law_served.proofs.Reported.{histories-lead, listed-entry}
use Rattle.hwp_law_served.specs.hwp_claim.Told.{required_by}
use Rattle.hwp_top_report.proofs.AllowedThere.{allowed-there, had-so}
use Rattle.hwp_law_served.proofs.deeds.Made.{some-so}
use Rattle.hwp_law_served.proofs.RunEnds.{IsEnd}
use Rattle.hwp_law_served.proofs.Seen.{HasSignalled, failure-entry, signalling}

-- the thread that has to handle its page's failure now
pub record HasNow (required : Option Thread) (signals : List Signal) : Type 0 where
  pub thread : Thread
  pub required_is : required ≡ Some thread
  pub sent : Any (λ (s : Signal). (s.thread ≡ thread) × (s.code ≡ codes.Ar)) signals

now-code : (code : Code) → is_now code ≡ true → code ≡ codes.Ar
now-code codes.Ar is = refl
now-code codes.Ao is = absurd (true≢false (sym is))

-- a signal of that kind is for the thread that needs the page
now-due : (layout : Layout) (maps : set.FinSet nat_cmp) (always : Bool) (required : Option Thread) (seen : List Seen) (signals : List Signal) → AreDue layout maps always required seen signals → signals_now signals ≡ true → HasNow required signals
now-due layout maps always required seen signals due now =
    let some = Any-from_list_any (λ (s : Signal). is_now s.code) signals now in
    let s : Signal = some.1 in
    let code : s.code ≡ codes.Ar = now-code s.code some.4 in
    let reached = subst (Reaches layout always required seen s.process s.thread) code (((due.each s).0 (some.0, some.2, some.3)).thread) in
    record { thread = s.thread; required_is = reached.0; sent = (some.0, s, some.2, some.3, (refl, code)) }

now-killed : (layout : Layout) (maps : set.FinSet nat_cmp) (all always : Bool) (required : Option Thread) (seen : List Seen) (signals : List Signal) → Killed layout maps all always required seen signals → signals_now signals ≡ true → HasNow required signals
now-killed layout maps true always required seen signals due now = now-due layout maps always required seen signals due now
now-killed layout maps false always required seen signals none now = absurd (true≢false (sym now ∙ ap signals_now none))

-- which is the command's own
own-thread : (thread : Option Thread) (severity : Severity) (one : Thread) → required_by thread severity ≡ Some one → thread ≡ Some one
own-thread thread severities.Required one is = is
own-thread thread severities.Stop one is = absurd (none-some one is)
own-thread thread severities.None one is = absurd (none-some one is)
own-thread thread severities.Keep one is = absurd (none-some one is)
own-thread thread severities.Deferred one is = absurd (none-some one is)
own-thread thread severities.Logged one is = absurd (none-some one is)
own-thread thread severities.Optional one is = absurd (none-some one is)

module _ (script : Script) (copies : Who → Option VSlot) (seat : Cpu → ℕ) (last : State) (report : Report) (end : IsEnd script copies seat last report) (cpu : Cpu) (inside : cpu.0 < script.layout.cpus) where
  pub signalled-sends : (who : Who) (command : Command) (at : At) → HasSignalled (view_of last (seat cpu)) who command at → IsSigbus report who command at
  signalled-sends who command at has =
      let f : Failed = signalling (current_thread command) has.t has.found at in
      let stands = failure-entry has.made.made f has.made.tells in
      let e : Entry = has.made.made.entry in
      let what : What = entries.Fail f.situation f.required stands.entry.seen stands.entry.signals in
      let there : entry_at report.pages at ≡ Some e
      = sym (ap (λ (p : Page). entry_at report.pages (record { page = p; entry = has.made.made.place })) stands.page_is ∙ ap (λ (n : ℕ). entry_at report.pages (record { page = at.page; entry = n })) stands.place_is)
      ∙ listed-entry script.layout last report end.board (seat cpu) has.made.j (view_of last (seat cpu)) has.made.made (end.seated.there cpu inside) has.made.there in
      let allowed = allowed-there script.layout report (histories-lead script.layout last report end.board) at e what there stands.entry.what_is in
      let now = (had-so (λ (s : PageState). IsFailure script.layout s f.situation f.required stands.entry.seen stands.entry.signals) (λ (s : PageState). HasNow f.required stands.entry.signals)
      (λ s failed. now-killed script.layout s.maps (is_signalling f.situation) (always_signals f.situation) f.required stands.entry.seen stands.entry.signals failed.killed stands.entry.signalled) allowed).had in
      record {
        entry = e;
        there = there;
        own = has.made.own;
        sends = some-so (λ (t : Thread). SendsSigbus t e.what) (current_thread command) now.thread (own-thread (current_thread command) has.t.held.grade.severity now.thread now.required_is)
            (subst (SendsSigbus now.thread) (sym stands.entry.what_is) now.sent);
      }
