-- The report of a run says of each access of a guest what the guest admits, and of each bad line that one met its line. No history of a run
-- ends a guest's process, since its threads have handlers: so an access that isn't admitted is answered so, or `stopped`.
use Rattle.std.proofs.Common.{◌≡◌, ◌≢◌, ◌⊎◌, inl, inr, ℕ, zero, suc, ◌==◌, ◌&&◌, ◌||◌, not, Bool, true, false, List, [], ◌∷◌, Option, None, Some, map, option_and_then, option_map, slice_get, take, if◌then◌else◌, refl, sym, ap, ◌∙◌, subst, true≢false}
use Rattle.std.specs.List.{list_any}
use Rattle.std.proofs.lemmas.Bool.{or_parts}
use Rattle.std.proofs.lemmas.Option.{none-some, same_Some}
use Rattle.hwp_law_served.specs.hwp_geom.Layout.{is_guest}
use Rattle.hwp_law_served.specs.hwp_geom.declared.Cpu.{Cpu}
use Rattle.hwp_law_served.specs.hwp_geom.declared.Layout.{Layout}
use Rattle.hwp_law_served.specs.hwp_geom.declared.Page.{Page}
use Rattle.hwp_law_served.specs.hwp_geom.declared.Proc.{Proc}
use Rattle.hwp_law_served.specs.hwp_geom.declared.Thread.{Thread}
use Rattle.hwp_law_served.specs.hwp_geom.declared.ThreadDecl.{ThreadDecl}
use Rattle.hwp_law_served.specs.hwp_geom.declared.Who.{Who}
use Rattle.hwp_law_served.specs.hwp_kill.declared.Signal.{Signal}
use Rattle.hwp_law_served.specs.hwp_page.Endings.{ends, is_ended_by, is_ending}
use Rattle.hwp_law_served.specs.hwp_page.declared.At.{At}
use Rattle.hwp_law_served.specs.hwp_page.declared.Entry.{Entry}
use Rattle.hwp_law_served.specs.hwp_page.declared.Met.TheVariants.{Sigbus}
use Rattle.hwp_law_served.specs.hwp_page.declared.What.{What}
use Rattle.hwp_law_served.specs.hwp_page.declared.What.TheVariants as entries
use Rattle.hwp_law_served.specs.hwp_core_rule.declared.Made.{Made}
use Rattle.hwp_law_served.specs.hwp_core_rule.declared.State.{State}
use Rattle.hwp_law_served.specs.hwp_core_rule.declared.View.{View}
use Rattle.hwp_law_served.specs.hwp_core_rule.Lists.{EachMember}
use Rattle.hwp_law_served.specs.hwp_core_rule.Boards.{Played, view_of}
use Rattle.hwp_law_served.specs.hwp_core_rule.Known.{HasMadeNone}
use Rattle.hwp_law_served.specs.hwp_script_words.Guests.{is_apart, bars_guest}
use Rattle.hwp_law_served.specs.hwp_script_words.Valid.{AreGuestsFit, IsValid}
use Rattle.hwp_law_served.specs.hwp_script_words.declared.Command.{Command}
use Rattle.hwp_law_served.specs.hwp_script_words.declared.Command.TheVariants as commands
use Rattle.hwp_law_served.specs.hwp_script_words.declared.Script.{Script}
use Rattle.hwp_law_served.specs.hwp_report_text.declared.Answer.{Answer}
use Rattle.hwp_law_served.specs.hwp_report_text.declared.Answer.TheVariants as answers
use Rattle.hwp_law_served.specs.hwp_report_text.declared.Report.{Report}
use Rattle.hwp_law_served.specs.hwp_law.hwp_guest.GuestState.{admitted}
use Rattle.hwp_law_served.specs.hwp_law.Commands.{Access, access_of, arrival_of, command_at, process_at, process_of_thread, thread_of}
use Rattle.hwp_law_served.specs.hwp_law.Cows.{acting}
use Rattle.hwp_law_served.specs.hwp_law.declared.GuestAccess.{GuestAccess}
use Rattle.hwp_law_served.specs.hwp_law.GuestRule.{denial, denied, guest_access, guest_lines, guest_of, kind_of}
use Rattle.hwp_law_served.specs.hwp_law.Acting.{acting_script, copied_at}
use Rattle.hwp_law_served.specs.hwp_law.Causes.{IsCaused}
use Rattle.hwp_law_served.specs.hwp_law.Endings.{IsGone}
use Rattle.hwp_law_served.specs.hwp_law.Guests.{AreGuestsKept, IsDenied}
use Rattle.hwp_law_served.specs.hwp_law.Lines.{answer_of, guests_told}
use Rattle.hwp_law_served.specs.hwp_law.Places.{entry_at}
use Rattle.hwp_law_served.specs.hwp_law.Policies.{answered_before}
use Rattle.hwp_law_served.specs.hwp_cpu_row.declared.Row.{Row}
use Rattle.hwp_law_served.specs.hwp_cpu_row.Acts.{event_at}
use Rattle.hwp_law_served.specs.Guests.{IsDeniedRow, IsGuestRow, SaysGone}
use Rattle.hwp_law_served.specs.Handles.{answers_by}
use Rattle.hwp_law_served.specs.Runs.{HaveServed, IsRunOf}
use Rattle.hwp_law_served.proofs.Reported.{entry-listed}
use Rattle.hwp_law_served.proofs.of_hwp_law.ActedLaws.{command-acted}
use Rattle.hwp_law_served.proofs.of_hwp_law.CowLaws.{acting-thread}
use Rattle.hwp_law_served.proofs.LastBoard.{ended, ended-rows}
use Rattle.hwp_law_served.proofs.RowLines.{answer-told, events-told, guest-told}
use Rattle.hwp_law_served.proofs.RunEnds.{IsEnd, IsOf, of-deeds, own-view}
use Rattle.hwp_law_served.proofs.copied.KeptWords.{of-command}
use Rattle.hwp_law_served.proofs.copied.RunActed.{answered-are}
use Rattle.hwp_law_served.proofs.deeds.Made.{command-is}
use Rattle.hwp_top_report.proofs.copied.CopyCaused.{is-caused}

pub then-there : {X Y : Type 0} (f : X → Option Y) (o : Option X) (y : Y) → option_and_then f o ≡ Some y → (x : X) × (o ≡ Some x) × (f x ≡ Some y)
then-there f None y is = absurd (none-some y is)
then-there f (Some x) y is = (x, refl, is)

-- ---- the processes of guests

none-any : {X : Type 0} (test : X → Bool) (xs : List X) (i : ℕ) (x : X) → list_any test xs ≡ false → slice_get xs i ≡ Some x → test x ≡ false
none-any test [] i x none there = absurd (none-some x there)
none-any test (y ∷ ys) zero x none there = sym (ap test (same_Some y x there)) ∙ (or_parts (test y) (list_any test ys) none).0
none-any test (y ∷ ys) (suc i) x none there = none-any test ys i x (or_parts (test y) (list_any test ys) none).1 there

any-none : {X : Type 0} (test : X → Bool) (xs : List X) → ((x : X) → test x ≡ false) → list_any test xs ≡ false
any-none test [] none = refl
any-none test (x ∷ xs) none = ap (λ (b : Bool). b || list_any test xs) (none x) ∙ any-none test xs none

no-and : (b : Bool) → (b && false) ≡ false
no-and true = refl
no-and false = refl

module _ (layout : Layout) (fit : AreGuestsFit layout) (process : Proc) (guest : is_guest layout process ≡ true) where
  -- no signal to a thread ends one, since each of its own has a handler
  handled : (thread : Thread) → ends layout process thread ≡ false
  handled thread = which (slice_get layout.threads thread.0) refl
    where
      by : (t : ThreadDecl) (own : Bool) (any : Bool) → (own && any) ≡ false → (any ≡ false → (own && (not t.handler || not (t.cpu.0 == t.cpu.0))) ≡ false) → (not t.handler && own) ≡ false
      by t false any none apart = no-and (not t.handler)
      by t true any none apart = ap (λ (b : Bool). b && true) (or_parts (not t.handler) (not (t.cpu.0 == t.cpu.0)) (apart none)).0

      which : (o : Option ThreadDecl) → slice_get layout.threads thread.0 ≡ o → is_ended_by process o ≡ false
      which None there = refl
      which (Some t) there =
          by t (t.process.0 == process.0) (list_any (is_apart process.0 t) layout.threads) (none-any (bars_guest layout.threads process.0) layout.threads thread.0 t (fit.each process guest) there)
          (λ none. none-any (is_apart process.0 t) layout.threads thread.0 t none there)

  unended : (what : What) → is_ending layout process what ≡ false
  unended (entries.Load slot line (Sigbus thread)) = handled thread
  unended (entries.Store slot line (Sigbus thread)) = handled thread
  unended (entries.Fail situation required seen signals) = any-none (λ (s : Signal). ends layout process s.thread) signals (λ s. handled s.thread)
  unended what = refl

-- ---- the accesses of guests

-- the command is an access by a thread of a guest
record IsGuests (layout : Layout) (command : Command) : Type 0 where
  access : Access
  access_is : access_of command ≡ Some access
  process : Proc
  process_is : process_of_thread layout access.thread ≡ Some process
  guest : is_guest layout process ≡ true

if-so : {X : Type 0} (b : Bool) (x y : X) → (if b then Some x else None) ≡ Some y → b ≡ true
if-so true x y is = refl
if-so false x y is = absurd (none-some y is)

guests-own : (layout : Layout) (command : Command) (g : GuestAccess) → guest_access layout command ≡ Some g → IsGuests layout command
guests-own layout command g is =
    let of_process : Access → Proc → Option GuestAccess = λ a process. if is_guest layout process then Some (record { process = process; slot = a.slot; line = a.line; kind = kind_of command; mode = (arrival_of command).mode }) else None in
    let a = then-there (λ (a : Access). option_and_then (of_process a) (process_of_thread layout a.thread)) (access_of command) g is in
    let p = then-there (of_process a.0) (process_of_thread layout a.0.thread) g a.2 in
    record { access = a.0; access_is = a.1; process = p.0; process_is = p.1; guest = if-so (is_guest layout p.0) _ g p.2 }

access-thread : (command : Command) (a : Access) → access_of command ≡ Some a → thread_of command ≡ Some a.thread
access-thread (commands.Load thread slot line) a is = ap (option_map (λ (b : Access). b.thread)) is
access-thread (commands.Fetch thread slot line) a is = ap (option_map (λ (b : Access). b.thread)) is
access-thread (commands.KLoad thread slot line) a is = ap (option_map (λ (b : Access). b.thread)) is
access-thread (commands.Store thread slot line word) a is = ap (option_map (λ (b : Access). b.thread)) is
access-thread command a is = absurd (none-some a is)

-- what the report shows of one that was answered that its process had ended
gone-of : (script : Script) (report : Report) (who : Who) (earlier : List (Command × Answer)) (command : Command) (a : Access) (page : Page) → access_of command ≡ Some a → IsCaused script report who (acting script.layout earlier command) (answers.Gone page) → IsGone script report who page
gone-of script report who earlier (commands.Load thread slot line) a page is caused = caused
gone-of script report who earlier (commands.Fetch thread slot line) a page is caused = caused
gone-of script report who earlier (commands.KLoad thread slot line) a page is caused = caused
gone-of script report who earlier (commands.Store thread slot line word) a page is caused = caused
gone-of script report who earlier command a page is caused = absurd (none-some a is)

-- no such access was
never-gone : (script : Script) (report : Report) (who : Who) (command : Command) (page : Page) → AreGuestsFit script.layout → command_at script who ≡ Some command → IsGuests script.layout command
    → IsCaused (acting_script script report) report who (acting script.layout (answered_before script report who) command) (answers.Gone page) → ⊥
never-gone script report who command page fit at own caused =
    let gone : IsGone (acting_script script report) report who page = gone-of (acting_script script report) report who (answered_before script report who) command own.access page own.access_is caused in
    let same : process_at (acting_script script report) who ≡ Some own.process
    = ap (λ (o : Option Command). option_and_then (process_of_thread script.layout) (option_and_then thread_of o)) (command-acted script report who ∙ ap (option_map (acting script.layout (answered_before script report who))) at)
    ∙ ap (option_and_then (process_of_thread script.layout)) (acting-thread script.layout (answered_before script report who) command ∙ access-thread command own.access own.access_is)
    ∙ own.process_is in
    let process : gone.process ≡ own.process = same_Some gone.process own.process (sym gone.process_is ∙ same) in
    true≢false (sym gone.ending.ending ∙ ap (λ (p : Proc). is_ending script.layout p gone.ending.entry.what) process ∙ unended script.layout fit own.process own.guest gone.ending.entry.what)

says-gone : (answer : Answer) → SaysGone answer → (page : Page) × (answer ≡ answers.Gone page)
says-gone (answers.Gone page) says = (page, refl)
says-gone answer says = absurd says

-- ---- the report

module _ (script : Script) (valid : IsValid script) (seat : Cpu → ℕ) (turns : List Played) (last : State) (report : Report) (run : IsRunOf (acting_script script report) (copied_at script report) seat turns last report) (served : HaveServed script seat last run.rows report.cpus) where
  abbrev end : IsEnd (acting_script script report) (copied_at script report) seat last report
  end = ended (acting_script script report) (copied_at script report) seat turns last report run

  -- what a command of the script was acted on as, with its row, and what the row says of guests
  record HasGuestRow (who : Who) (command : Command) : Type 0 where
    of : IsOf (acting_script script report) (copied_at script report) end.rows (view_of last (seat who.cpu)) who
    acted : of.command ≡ acting script.layout (answered_before script report who) command
    row : IsGuestRow script.layout (answered_before script report who) (view_of last (seat who.cpu)) who command of.row

  guest-row : (who : Who) (command : Command) → command_at script who ≡ Some command → HasGuestRow who command
  guest-row who command at =
      let acts : Command = acting script.layout (answered_before script report who) command in
      let acts_is : command_at (acting_script script report) who ≡ Some acts = command-acted script report who ∙ ap (option_map (acting script.layout (answered_before script report who))) at in
      let of = of-command (acting_script script report) (copied_at script report) seat last report end who acts acts_is in
      let list = then-there (λ (l : List Command). slice_get l who.seq) (slice_get script.lists who.cpu.0) command at in
      let own_is : slice_get run.rows who.cpu.0 ≡ Some of.own = ap (λ (l : List (List Row)). slice_get l who.cpu.0) (sym (ended-rows (acting_script script report) (copied_at script report) seat turns last report run)) ∙ of.own_is in
      let own = served who.cpu list.0 of.own list.1 own_is in
      let before : take who.seq (answers_by list.0 of.own) ≡ answered_before script report who = ap (take who.seq) (sym (answered-are script report who.cpu list.0 of.own list.1 own.1 own.0.acted.count)) in
      record {
        of = of;
        acted = same_Some of.command acts (sym (command-is (acting_script script report) who of.list of.command of.list_is of.command_is) ∙ acts_is);
        row = subst (λ (earlier : List (Command × Answer)). IsGuestRow script.layout earlier (view_of last (seat who.cpu)) who command of.row) before (own.0.guests who.seq command of.row list.2 of.row_is);
      }

  -- a command that made nothing has no entry in the report
  nothing-made : (who : Who) → HasMadeNone (view_of last (seat who.cpu)) who → (at : At) (e : Entry) → entry_at report.pages at ≡ Some e → e.who ≢ who
  nothing-made who none at e there own =
      let listed = entry-listed script.layout last report end.board at e there in
      let made = listed.3 in
      let mine : made.1.entry.who ≡ who = ap (λ (x : Entry). x.who) made.3.entry_is ∙ own in
      let past = (end.board.holds.rule.processors.commands.own listed.0 listed.1 listed.2).made made.0 made.1 made.2 in
      let view = own-view (acting_script script report) (copied_at script report) seat last report end listed.0 listed.1 made.1.entry.who listed.2 past in
      let same : listed.1 ≡ view_of last (seat who.cpu) = view.1 ∙ ap (λ (w : Who). view_of last (seat w.cpu)) mine in
      let nothing : EachMember (λ (m : Made). ⊥) [] = λ i m is. none-some m is in
      of-deeds (λ (m : Made). ⊥) (view_of last (seat who.cpu)) who made.0 made.1 (subst (EachMember (λ (m : Made). ⊥)) (sym none) nothing) (sym (ap (λ (x : View). slice_get x.made made.0) same) ∙ made.2) mine

  kept : (who : Who) (command : Command) → command_at script who ≡ Some command → IsDenied report who (denied script.layout (answered_before script report who) command)
  kept who command at = let has = guest-row who command at in which has (denied script.layout (answered_before script report who) command) refl has.row.admits
    where
      answer : (has : HasGuestRow who command) → answer_of report who ≡ Some has.of.row.answer
      answer has = answer-told (acting_script script report) (copied_at script report) seat last report end (view_of last (seat who.cpu)) who has.of

      gone : (has : HasGuestRow who command) (due : Answer) → denied script.layout (answered_before script report who) command ≡ Some due → SaysGone has.of.row.answer → ⊥
      gone has due due_is says =
          let page = says-gone has.of.row.answer says in
          let g = then-there (λ (a : GuestAccess). denial (admitted (guest_of script.layout (answered_before script report who) a.process) a.slot.0)) (guest_access script.layout command) due due_is in
          never-gone script report who command page.0 valid.guests at (guests-own script.layout command g.0 g.1)
          (subst (λ (c : Command). IsCaused (acting_script script report) report who c (answers.Gone page.0)) has.acted
          (subst (IsCaused (acting_script script report) report who has.of.command) page.1 (is-caused (acting_script script report) (copied_at script report) seat last report end who has.of)))

      says : (has : HasGuestRow who command) (due : Answer) → denied script.layout (answered_before script report who) command ≡ Some due → (has.of.row.answer ≡ due) ⊎ ((has.of.row.answer ≡ answers.Stopped) ⊎ SaysGone has.of.row.answer)
          → (answer_of report who ≡ Some due) ⊎ (answer_of report who ≡ Some answers.Stopped)
      says has due due_is (inl same) = inl (answer has ∙ ap (λ (a : Answer). Some a) same)
      says has due due_is (inr (inl same)) = inr (answer has ∙ ap (λ (a : Answer). Some a) same)
      says has due due_is (inr (inr ended_)) = absurd (gone has due due_is ended_)

      which : (has : HasGuestRow who command) (o : Option Answer) → denied script.layout (answered_before script report who) command ≡ o → IsDeniedRow (view_of last (seat who.cpu)) who o has.of.row → IsDenied report who o
      which has None due_is admitted_ = (λ told. admitted_.not_bad (same_Some has.of.row.answer answers.GuestBad (sym (answer has) ∙ told)), λ told. admitted_.not_stopped (same_Some has.of.row.answer answers.GuestStopped (sym (answer has) ∙ told)))
      which has (Some due) due_is was = (
        says has due due_is was.answered,
        record {
          unmade = nothing-made who was.made;
          untold = events-told (acting_script script report) (copied_at script report) seat last report end (view_of last (seat who.cpu)) who has.of ∙ ap (map (event_at who.seq)) was.untold;
        },
      )

  told : (who : Who) (command : Command) (answer : Answer) → command_at script who ≡ Some command → answer_of report who ≡ Some answer → guests_told report who ≡ guest_lines script.layout who.seq command answer
  told who command answer at is =
      let has = guest-row who command at in
      let same : has.of.row.answer ≡ answer = same_Some has.of.row.answer answer (sym (answer-told (acting_script script report) (copied_at script report) seat last report end (view_of last (seat who.cpu)) who has.of) ∙ is) in
      guest-told (acting_script script report) (copied_at script report) seat last report end (view_of last (seat who.cpu)) who has.of ∙ has.row.told ∙ ap (guest_lines script.layout who.seq command) same

  pub guests-kept : AreGuestsKept script report
  guests-kept = record { kept = kept; told = told }
