-- What the answer of a command names: an entry that it made, or a number of entries after which it saw the page.
use Rattle.std.proofs.Common.{◌≡◌, ◌⊎◌, ℕ, zero, suc, Bool, true, false, List, [], ◌∷◌, Option, Some, None, IsSomeAnd, filter, filter_map, length, slice_get, cond, refl, sym, ap, ◌∙◌, subst, inl, inr}
use Rattle.std.specs.List.{cons_option}
use Rattle.std.specs.Option.{option_or}
use Rattle.std.proofs.lemmas.Bool.{and_parts, eqb-true}
use Rattle.std.proofs.lemmas.Option.{none-some, same_Some}
use Rattle.hwp_law.specs.hwp_geom.declared.Frame.{Frame}
use Rattle.hwp_law.specs.hwp_geom.declared.Layout.{Layout}
use Rattle.hwp_law.specs.hwp_geom.declared.Page.{Page}
use Rattle.hwp_law.specs.hwp_geom.declared.Thread.{Thread}
use Rattle.hwp_law.specs.hwp_geom.declared.Who.{Who}
use Rattle.hwp_law.specs.hwp_kill.declared.Reply.{Reply}
use Rattle.hwp_law.specs.hwp_kill.declared.Reply.TheVariants as replies
use Rattle.hwp_law.specs.hwp_kill.declared.Seen.{Seen}
use Rattle.hwp_law.specs.hwp_kill.declared.Signal.{Signal}
use Rattle.hwp_law.specs.hwp_kill.Prctl.{reply}
use Rattle.hwp_law.specs.hwp_page.declared.At.{At}
use Rattle.hwp_law.specs.hwp_page.declared.PageState.{PageState}
use Rattle.hwp_law.specs.hwp_page.declared.What.{What}
use Rattle.hwp_law.specs.hwp_page.declared.What.TheVariants as entries
use Rattle.hwp_plain.specs.hwp_core_rule.declared.Log.{Log}
use Rattle.hwp_plain.specs.hwp_core_rule.declared.Made.{Made}
use Rattle.hwp_plain.specs.hwp_core_rule.declared.View.{View}
use Rattle.hwp_plain.proofs.of_hwp_core_rule.Lists.{at_last, at_longer}
use Rattle.hwp_plain.specs.hwp_core_rule.Known.{HasMade, SawLog, deeds, is_by}
use Rattle.hwp_plain.specs.hwp_core_rule.Pages.{SawState}
use Rattle.hwp_cpu_row.specs.hwp_claim_act.declared.Failed.{Failed}
use Rattle.hwp_cpu_row.specs.hwp_claim_act.Abandoned.{failed_in, failed_of}
use Rattle.hwp_cpu_row.specs.hwp_claim_act.Abandons.{signals_now}
use Rattle.hwp_law.specs.hwp_script_words.declared.Command.{Command}
use Rattle.hwp_law.specs.hwp_script_words.declared.Command.TheVariants as commands
use Rattle.hwp_law.specs.hwp_report_text.declared.Answer.{Answer}
use Rattle.hwp_law.specs.hwp_report_text.declared.Answer.TheVariants as answers
use Rattle.hwp_law.specs.Outcomes.{reply_answer}
use Rattle.hwp_law.specs.Commands.{Access, access_of, current_thread}
use Rattle.hwp_law.specs.Settings.{arguments, last_policy, settings}
use Rattle.hwp_law.specs.States.{place_named, state_named}
use Rattle.hwp_cpu_row.specs.hwp_claim.declared.Found.{Found}
use Rattle.hwp_cpu_row.specs.declared.FrameChange.{FrameChange}
use Rattle.hwp_cpu_row.specs.declared.Row.{Row}
use Rattle.hwp_cpu_row.specs.hwp_claim.declared.EventOutcome.{EventOutcome}
use Rattle.hwp_cpu_row.specs.hwp_claim.Done.{entered_by}
use Rattle.hwp_cpu_row.specs.hwp_claim.CheckDone.{failed_by}
use Rattle.hwp_cpu_row.specs.hwp_claim.CheckDone as done
use Rattle.hwp_cpu_row.specs.hwp_claim.Told.{first_signal, required_by, signal_of}
use Rattle.hwp_law_served.specs.Accounts.{IsAccounted, failures_in, own_failure}
use Rattle.hwp_law_served.specs.Causes.{IsAnswerCaused, IsOfflineCaused, IsSoftCaused, IsTableCaused, WasSignalled, IsUnpoisonCaused}
use Rattle.hwp_law_served.proofs.Picked.{picked-has, picked-is}

-- the command saw the page after as many entries as the place says
pub record SawAt (view : View) (who : Who) (at : At) : Type 0 where
  pub log : Log
  pub saw : SawLog view who log
  pub page_is : log.page ≡ at.page
  pub place_is : length log.entries ≡ at.entry

-- the command made the entry at the place
pub record MadeAt (view : View) (who : Who) (at : At) : Type 0 where
  pub j : ℕ
  pub made : Made
  pub there : slice_get view.made j ≡ Some made
  pub own : made.entry.who ≡ who
  pub page_is : made.page ≡ at.page
  pub place_is : made.place ≡ at.entry

-- one of those that pass the test is a member that does
pub filter-is : {A : Type 0} (test : A → Bool) (l : List A) (k : ℕ) (x : A) → slice_get (filter test l) k ≡ Some x → (j : ℕ) × (slice_get l j ≡ Some x) × (test x ≡ true)
filter-is test [] k x there = absurd (none-some x there)
filter-is test (y ∷ ys) k x there = which (test y) refl k there (λ n h. filter-is test ys n x h)
  where
    which : (b : Bool) → test y ≡ b → (k : ℕ) → slice_get (cond (test y) (y ∷ filter test ys) (filter test ys)) k ≡ Some x → ((n : ℕ) → slice_get (filter test ys) n ≡ Some x → (j : ℕ) × (slice_get ys j ≡ Some x) × (test x ≡ true))
        → (j : ℕ) × (slice_get (y ∷ ys) j ≡ Some x) × (test x ≡ true)
    which true is zero there rest =
        let same : y ≡ x = same_Some y x (sym (ap (λ (b : Bool). slice_get (cond b (y ∷ filter test ys) (filter test ys)) zero) is) ∙ there) in
        (zero, ap (λ z. Some z) same, subst (λ z. test z ≡ true) same is)
    which true is (suc n) there rest =
        let later = rest n (sym (ap (λ (b : Bool). slice_get (cond b (y ∷ filter test ys) (filter test ys)) (suc n)) is) ∙ there) in
        (suc later.0, later.1, later.2)
    which false is n there rest =
        let later = rest n (sym (ap (λ (b : Bool). slice_get (cond b (y ∷ filter test ys) (filter test ys)) n) is) ∙ there) in
        (suc later.0, later.1, later.2)

-- an entry of a command is listed as made by it
pub listed-as-own : (view : View) (who : Who) (k : ℕ) (m : Made) → slice_get (deeds who view) k ≡ Some m → (j : ℕ) × (slice_get view.made j ≡ Some m) × (m.entry.who ≡ who)
listed-as-own view who k m there =
    let found = filter-is (is_by who) view.made k m there in
    let both = and_parts _ _ found.2 in
    (found.0, found.1, ap (λ (n : ℕ). record m.entry.who { cpu = record { 0 = n } }) (eqb-true m.entry.who.cpu.0 who.cpu.0 both.0) ∙ ap (λ (n : ℕ). record { cpu = who.cpu; seq = n }) (eqb-true m.entry.who.seq who.seq both.1))

made-at : {Such : Made → Type 0} {view : View} {who : Who} {page : Page} {place : ℕ} {what : What} → HasMade Such view who page place what → MadeAt view who (record { page = page; entry = place })
made-at {view = view} {who = who} made =
    let there : slice_get (deeds who view) (length made.before) ≡ Some made.last = ap (λ (l : List Made). slice_get l (length made.before)) made.all ∙ at_last made.before made.last in
    let own = listed-as-own view who (length made.before) made.last there in
    record { j = own.0; made = made.last; there = own.1; own = own.2; page_is = made.at.0; place_is = made.at.1 }

-- and the entry, with what it is
pub record MadeWhat (view : View) (who : Who) (at : At) (what : What) : Type 0 where
  pub j : ℕ
  pub made : Made
  pub there : slice_get view.made j ≡ Some made
  pub entry_is : made.entry ≡ record { who = who; what = what }
  pub place_is : record { page = made.page; entry = made.place } ≡ at

pub made-what : {Such : Made → Type 0} {view : View} {who : Who} {at : At} {what : What} → HasMade Such view who at.page at.entry what → MadeWhat view who at what
made-what {view = view} {who = who} {at = at} {what = what} has =
    let there : slice_get (deeds who view) (length has.before) ≡ Some has.last = ap (λ (l : List Made). slice_get l (length has.before)) has.all ∙ at_last has.before has.last in
    let own = listed-as-own view who (length has.before) has.last there in
    record {
      j = own.0;
      made = has.last;
      there = own.1;
      entry_is = ap (λ (w : Who). record { who = w; what = has.last.entry.what }) own.2 ∙ ap (λ (x : What). record { who = who; what = x }) has.at.2;
      place_is = ap (λ (p : Page). record { page = p; entry = has.last.place }) has.at.0 ∙ ap (λ (n : ℕ). record { page = at.page; entry = n }) has.at.1;
    }

-- ---- failures

-- the command made the entry of a failure
pub record MadeFailure (view : View) (who : Who) (failed : Failed) : Type 0 where
  pub j : ℕ
  pub made : Made
  pub there : slice_get view.made j ≡ Some made
  pub own : made.entry.who ≡ who
  pub tells : failed_in made ≡ Some failed

-- a failure that its row tells
pub made-failure : {layout : Layout} {earlier : List (Command × Answer)} (view : View) (who : Who) (command : Command) (row : Row) → IsAccounted layout earlier view who command row → (k : ℕ) (failed : Failed) → slice_get (failures_in command row) k ≡ Some failed → MadeFailure view who failed
made-failure view who command row account k failed there =
    let picked = picked-is failed_in (deeds who view) k failed (ap (λ (l : List Failed). slice_get l k) account.failed ∙ there) in
    let own = listed-as-own view who picked.0 picked.1 picked.2 in
    record { j = own.0; made = picked.1; there = own.1; own = own.2; tells = picked.3 }

-- an entry of a failure tells that
pub record IsFailureEntry (what : What) (failed : Failed) : Type 0 where
  pub seen : List Seen
  pub signals : List Signal
  pub what_is : what ≡ entries.Fail failed.situation failed.required seen signals
  pub signalled : signals_now signals ≡ failed.signalled

-- and where it stands
pub record StandsAt (m : Made) (failed : Failed) : Type 0 where
  pub entry : IsFailureEntry m.entry.what failed
  pub page_is : m.page ≡ failed.at.page
  pub place_is : m.place ≡ failed.at.entry

pub failure-entry : (m : Made) (failed : Failed) → failed_in m ≡ Some failed → StandsAt m failed
failure-entry m failed tells = which m.entry.what refl tells
  where
    which : (what : What) → m.entry.what ≡ what → failed_of m.page m.place what ≡ Some failed → StandsAt m failed
    which (entries.Fail situation required seen signals) is tells =
        let same = same_Some (record { situation = situation; required = required; at = record { page = m.page; entry = m.place }; signalled = signals_now signals }) failed tells in
        record {
          entry = record {
            seen = seen;
            signals = signals;
            what_is = is ∙ ap (λ (f : Failed). entries.Fail f.situation f.required seen signals) same;
            signalled = ap (λ (f : Failed). f.signalled) same;
          };
          page_is = ap (λ (f : Failed). f.at.page) same;
          place_is = ap (λ (f : Failed). f.at.entry) same;
        }
    which what is tells = absurd (none-some failed tells)

-- an event whose failure signalled the thread, by this entry
pub record Signalled (t : EventOutcome) (at : At) : Type 0 where
  pub found : Found
  pub found_is : t.found ≡ Some found
  pub at_is : found.at ≡ Some at
  pub signalled : found.signalled ≡ true

abbrev HasSignal : List EventOutcome → At → Type 0
HasSignal told at = (j : ℕ) × (t : EventOutcome) × (slice_get told j ≡ Some t) × Signalled t at

signal-in : (t : EventOutcome) (at : At) (o : Option Found) → t.found ≡ o → signal_of o ≡ Some at → Signalled t at
signal-in t at None found_is is = absurd (none-some at is)
signal-in t at (Some f) found_is is = by f.signalled refl is
  where
    by : (b : Bool) → f.signalled ≡ b → cond b f.at None ≡ Some at → Signalled t at
    by true signalled is = record { found = f; found_is = found_is; at_is = is; signalled = signalled }
    by false signalled is = absurd (none-some at is)

-- the first that did
first-told : (told : List EventOutcome) (at : At) → first_signal told ≡ Some at → HasSignal told at
first-told [] at is = absurd (none-some at is)
first-told (t ∷ ts) at is = which (signal_of t.found) refl is (first-told ts at)
  where
    which : (o : Option At) → signal_of t.found ≡ o → option_or o (first_signal ts) ≡ Some at → (first_signal ts ≡ Some at → HasSignal ts at) → HasSignal (t ∷ ts) at
    which None of is rest = let later = rest is in (suc later.0, later.1, later.2, later.3)
    which (Some place) of is rest = (0, t, refl, signal-in t at t.found refl (of ∙ is))

-- what an entry is that the row tells of such a failure
abbrev pub signalling : Option Thread → EventOutcome → Found → At → Failed
signalling thread t f at = record { situation = f.situation; required = required_by thread t.held.grade.severity; at = at; signalled = true }

pub record HasSignalled (view : View) (who : Who) (command : Command) (at : At) : Type 0 where
  pub t : EventOutcome
  pub found : Found
  pub made : MadeFailure view who (signalling (current_thread command) t found at)

pub has-signalled : {layout : Layout} {earlier : List (Command × Answer)} (view : View) (who : Who) (command : Command) (row : Row) (at : At) → IsAccounted layout earlier view who command row → first_signal row.told ≡ Some at → HasSignalled view who command at
has-signalled view who command row at account is =
    let first = first-told row.told at is in
    let t : EventOutcome = first.1 in
    let signal : Signalled t at = first.3 in
    let needed : Option Thread = required_by (current_thread command) t.held.grade.severity in
    let gives : done.failed_in (current_thread command) t ≡ Some (signalling (current_thread command) t signal.found at)
    = ap (failed_by needed) signal.found_is
    ∙ ap (entered_by needed signal.found) signal.at_is
    ∙ ap (λ (b : Bool). Some (record { situation = signal.found.situation; required = needed; at = at; signalled = b })) signal.signalled in
    let k = picked-has (done.failed_in (current_thread command)) row.told first.0 t (signalling (current_thread command) t signal.found at) first.2 gives in
    record { t = t; found = signal.found; made = made-failure view who command row account k.0 _ (at_longer (filter_map (done.failed_in (current_thread command)) row.told) (cons_option (own_failure row.own) []) k.0 _ k.1) }

pub saw-at : {layout : Layout} {view : View} {who : Who} {at : At} {Such : PageState → Type 0} → SawState layout view who at.page at.entry Such → SawAt view who at
saw-at saw = record { log = saw.log; saw = saw.saw; page_is = saw.page_is; place_is = saw.place_is }

module _ (layout : Layout) (earlier : List (Command × Answer)) (view : View) (who : Who) where
  abbrev Names : Answer → Type 0
  Names answer = (at : At) → place_named answer ≡ Some at → MadeAt view who at ⊎ SawAt view who at

  made-one : (at : At) → MadeAt view who at → (bt : At) → Some at ≡ Some bt → MadeAt view who bt ⊎ SawAt view who bt
  made-one at made bt is = inl (subst (MadeAt view who) (same_Some at bt is) made)

  saw-one : (at : At) → SawAt view who at → (bt : At) → Some at ≡ Some bt → MadeAt view who bt ⊎ SawAt view who bt
  saw-one at saw bt is = inr (subst (SawAt view who) (same_Some at bt is) saw)

  -- the place that an answer names is one that its command made an entry at, or saw the page at
  table-place : (command : Command) (answer : Answer) → IsTableCaused layout earlier view who command answer → Names answer
  table-place (commands.Load thread slot line) (answers.Value word bt) caused at is = made-one bt (made-at caused.1.made) at is
  table-place (commands.Load thread slot line) (answers.Sigbus bt) caused at is = made-one bt (made-at caused.made) at is
  table-place (commands.Load thread slot line) answers.NoFrame caused at is = absurd (none-some at is)
  table-place (commands.Load thread slot line) (answers.Gone page) caused at is = absurd (none-some at is)
  table-place (commands.Fetch thread slot line) (answers.Value word bt) caused at is = made-one bt (made-at caused.1.made) at is
  table-place (commands.Fetch thread slot line) (answers.Sigbus bt) caused at is = made-one bt (made-at caused.made) at is
  table-place (commands.Fetch thread slot line) answers.NoFrame caused at is = absurd (none-some at is)
  table-place (commands.Fetch thread slot line) (answers.Gone page) caused at is = absurd (none-some at is)
  table-place (commands.KLoad thread slot line) (answers.Value word bt) caused at is = made-one bt (made-at caused.1.made) at is
  table-place (commands.KLoad thread slot line) (answers.Sigbus bt) caused at is = made-one bt (made-at caused.made) at is
  table-place (commands.KLoad thread slot line) answers.NoFrame caused at is = absurd (none-some at is)
  table-place (commands.KLoad thread slot line) (answers.Gone page) caused at is = absurd (none-some at is)
  table-place (commands.Store thread slot line word) (answers.Stored bt) caused at is = made-one bt (made-at caused.1.made) at is
  table-place (commands.Store thread slot line word) (answers.Sigbus bt) caused at is = made-one bt (made-at caused.made) at is
  table-place (commands.Store thread slot line word) answers.NoFrame caused at is = absurd (none-some at is)
  table-place (commands.Store thread slot line word) (answers.Gone page) caused at is = absurd (none-some at is)
  table-place (commands.Free slot) (answers.DoneAt bt) caused at is = made-one bt (made-at caused.1.made) at is
  table-place (commands.Free slot) (answers.NotMapped bt) caused at is = saw-one bt (saw-at caused.1.saw) at is
  table-place (commands.Drop page) (answers.DoneAt bt) caused at is = made-one bt (made-at caused.1.made) at is
  table-place (commands.Drop page) (answers.NotResident bt) caused at is = saw-one bt (saw-at caused.1.saw) at is
  table-place (commands.Drop page) (answers.Locked bt) caused at is = saw-one bt (saw-at caused.1.saw) at is
  table-place (commands.Drop page) (answers.Dirty bt) caused at is = saw-one bt (saw-at caused.1.saw) at is
  table-place (commands.Drop page) (answers.Mapped bt) caused at is = saw-one bt (saw-at caused.1.saw) at is
  table-place (commands.Sync page) (answers.DoneAt bt) caused at is = made-one bt (made-at caused.1.made) at is
  table-place (commands.Sync page) (answers.NotResident bt) caused at is = saw-one bt (saw-at caused.1.saw) at is
  table-place (commands.Out page) (answers.DoneAt bt) caused at is = made-one bt (made-at caused.1.made) at is
  table-place (commands.Out page) (answers.NotResident bt) caused at is = saw-one bt (saw-at caused.1.saw) at is
  table-place (commands.Out page) (answers.Locked bt) caused at is = saw-one bt (saw-at caused.1.saw) at is
  table-place (commands.Fsync file) answers.Done caused at is = absurd (none-some at is)
  table-place (commands.Fsync file) (answers.Eio more) caused at is = absurd (none-some at is)
  table-place (commands.Open file) (answers.Opened word) caused at is = absurd (none-some at is)
  table-place (commands.Prctl thread args) (answers.Gone page) caused at is = absurd (none-some at is)
  table-place (commands.Prctl thread args) answer caused at is = absurd (replied (reply (last_policy (settings layout thread earlier)) (arguments args)) (sym (ap place_named caused.replied) ∙ is))
    where
      replied : (r : Reply) → place_named (reply_answer r) ≡ Some at → ⊥
      replied (replies.Set policy) is = none-some at is
      replied (replies.Is policy) is = none-some at is
      replied replies.Einval is = none-some at is
  table-place (commands.Fork thread process) answers.Done caused at is = absurd (none-some at is)
  table-place (commands.Fork thread process) (answers.Gone page) caused at is = absurd (none-some at is)
  table-place (commands.Log status addr misc) answers.Done caused at is = absurd (none-some at is)
  table-place (commands.Watch threshold window) answers.Done caused at is = absurd (none-some at is)
  table-place (commands.Sync page) (answers.BadLines mask bt) caused at is = saw-one bt (saw-at caused.1.saw) at is
  table-place (commands.Out page) (answers.BadLines mask bt) caused at is = saw-one bt (saw-at caused.1.saw) at is
  table-place (commands.Bad frame line) answers.Done caused at is = absurd (none-some at is)
  table-place (commands.Weak frame line) answers.Done caused at is = absurd (none-some at is)
  table-place command answer caused at is = absurd caused

  module _ (command : Command) (row : Row) (account : IsAccounted layout earlier view who command row) where
    -- a failure that signalled the thread
    signal-place : (o : Option Access) (at : At) → IsSomeAnd o (λ (a : Access). WasSignalled layout view who command a.thread row.told at) → MadeAt view who at
    signal-place None at was = absurd was
    signal-place (Some a) at was =
        let has = has-signalled view who command row at account was.first in
        let stands = failure-entry has.made.made _ has.made.tells in
        record { j = has.made.j; made = has.made.made; there = has.made.there; own = has.made.own; page_is = stands.page_is; place_is = stands.place_is }

    either-place : (at : At) → IsTableCaused layout earlier view who command (answers.Sigbus at) ⊎ IsSomeAnd (access_of command) (λ (a : Access). WasSignalled layout view who command a.thread row.told at) → Names (answers.Sigbus at)
    either-place at (inl caused) = table-place command (answers.Sigbus at) caused
    either-place at (inr was) = made-one at (signal-place (access_of command) at was)

  offline-place : (frame : Frame) (own : Option FrameChange) (answer : Answer) → IsOfflineCaused layout view who frame own answer → Names answer
  offline-place frame own (answers.Moved other bt) caused at is = made-one bt (made-at caused.made.made) at is
  offline-place frame own answers.TakenFree caused at is = absurd (none-some at is)
  offline-place frame own answers.Already caused at is = absurd (none-some at is)
  offline-place frame own (answers.HasBad mask) caused at is = absurd (none-some at is)
  offline-place frame own answers.NoFrame caused at is = absurd (none-some at is)
  offline-place frame own answer caused at is = absurd caused

  unpoison-place : (frame : Frame) (own : Option FrameChange) (answer : Answer) → IsUnpoisonCaused layout view who frame own answer → Names answer
  unpoison-place frame own answers.Done caused at is = absurd (none-some at is)
  unpoison-place frame own answers.NotPoisoned caused at is = absurd (none-some at is)
  unpoison-place frame own answers.HardwareSeen caused at is = absurd (none-some at is)
  unpoison-place frame own (answers.HasBad mask) caused at is = absurd (none-some at is)
  unpoison-place frame own (answers.InUse count) caused at is = absurd (none-some at is)
  unpoison-place frame own answer caused at is = absurd caused

  soft-place : (frame : Frame) (own : Option FrameChange) (answer : Answer) → IsSoftCaused layout view who frame own answer → Names answer
  soft-place frame own answers.Kernel caused at is = absurd (none-some at is)
  soft-place frame own answer caused at is = offline-place frame own answer caused.1 at is

  answer-place : (command : Command) (told : List EventOutcome) (own : Option FrameChange) (answer : Answer)
      → ((at : At) → IsTableCaused layout earlier view who command (answers.Sigbus at) ⊎ IsSomeAnd (access_of command) (λ (a : Access). WasSignalled layout view who command a.thread told at) → Names (answers.Sigbus at))
      → IsAnswerCaused layout earlier view who command told own answer → Names answer
  answer-place command told own answers.Stopped either caused at is = absurd (none-some at is)
  answer-place (commands.RaiseUser thread ripv eipv) told own (answers.Raised n) either caused at is = absurd (none-some at is)
  answer-place (commands.RaiseUser thread ripv eipv) told own (answers.Gone page) either caused at is = absurd (none-some at is)
  answer-place (commands.RaiseKernel ripv eipv) told own (answers.Raised n) either caused at is = absurd (none-some at is)
  answer-place (commands.Scrub first last) told own (answers.Scrubbed n) either caused at is = absurd (none-some at is)
  answer-place (commands.Inject frame) told own answers.Recovered either caused at is = absurd (none-some at is)
  answer-place (commands.Inject frame) told own answers.Delayed either caused at is = absurd (none-some at is)
  answer-place (commands.Inject frame) told own answers.Ignored either caused at is = absurd (none-some at is)
  answer-place (commands.Inject frame) told own answers.Already either caused at is = absurd (none-some at is)
  answer-place (commands.Inject frame) told own answer either caused at is = absurd caused.1
  answer-place (commands.Soft frame) told own answer either caused at is = soft-place frame own answer caused at is
  answer-place (commands.Unpoison frame) told own answer either caused at is = unpoison-place frame own answer caused.1 at is
  answer-place command told own (answers.Sigbus bt) either caused at is = either bt caused at is
  answer-place command told own answers.GuestBad either caused at is = absurd (none-some at is)
  answer-place command told own answers.GuestStopped either caused at is = absurd (none-some at is)
  answer-place command told own answer either caused at is = table-place command answer caused at is

  pub plain-place : (command : Command) (row : Row) → IsAnswerCaused layout earlier view who command row.told row.own row.answer → IsAccounted layout earlier view who command row → Names row.answer
  plain-place command row caused account = answer-place command row.told row.own row.answer (either-place command row account) caused

  -- where the answer names a number of entries, the command saw the page after as many
  table-state : (command : Command) (answer : Answer) → IsTableCaused layout earlier view who command answer → (at : At) → state_named answer ≡ Some at → SawAt view who at
  table-state (commands.Free slot) (answers.NotMapped bt) caused at is = subst (SawAt view who) (same_Some bt at is) (saw-at caused.1.saw)
  table-state (commands.Drop page) (answers.NotResident bt) caused at is = subst (SawAt view who) (same_Some bt at is) (saw-at caused.1.saw)
  table-state (commands.Drop page) (answers.Locked bt) caused at is = subst (SawAt view who) (same_Some bt at is) (saw-at caused.1.saw)
  table-state (commands.Drop page) (answers.Dirty bt) caused at is = subst (SawAt view who) (same_Some bt at is) (saw-at caused.1.saw)
  table-state (commands.Drop page) (answers.Mapped bt) caused at is = subst (SawAt view who) (same_Some bt at is) (saw-at caused.1.saw)
  table-state (commands.Sync page) (answers.NotResident bt) caused at is = subst (SawAt view who) (same_Some bt at is) (saw-at caused.1.saw)
  table-state (commands.Out page) (answers.NotResident bt) caused at is = subst (SawAt view who) (same_Some bt at is) (saw-at caused.1.saw)
  table-state (commands.Out page) (answers.Locked bt) caused at is = subst (SawAt view who) (same_Some bt at is) (saw-at caused.1.saw)
  table-state (commands.Sync page) (answers.BadLines mask bt) caused at is = subst (SawAt view who) (same_Some bt at is) (saw-at caused.1.saw)
  table-state (commands.Out page) (answers.BadLines mask bt) caused at is = subst (SawAt view who) (same_Some bt at is) (saw-at caused.1.saw)
  table-state (commands.Prctl thread args) (answers.Gone page) caused at is = absurd (none-some at is)
  table-state (commands.Prctl thread args) answer caused at is = absurd (replied (reply (last_policy (settings layout thread earlier)) (arguments args)) (sym (ap state_named caused.replied) ∙ is))
    where
      replied : (r : Reply) → state_named (reply_answer r) ≡ Some at → ⊥
      replied (replies.Set policy) is = none-some at is
      replied (replies.Is policy) is = none-some at is
      replied replies.Einval is = none-some at is
  table-state command (answers.Sigbus bt) caused at is = absurd (none-some at is)
  table-state command (answers.Value word bt) caused at is = absurd (none-some at is)
  table-state command (answers.Stored bt) caused at is = absurd (none-some at is)
  table-state command answers.NoFrame caused at is = absurd (none-some at is)
  table-state command (answers.Gone page) caused at is = absurd (none-some at is)
  table-state command (answers.DoneAt bt) caused at is = absurd (none-some at is)
  table-state command answers.Done caused at is = absurd (none-some at is)
  table-state command (answers.Eio more) caused at is = absurd (none-some at is)
  table-state command (answers.Opened word) caused at is = absurd (none-some at is)
  table-state command answer caused at is = absurd caused

  offline-state : (frame : Frame) (own : Option FrameChange) (answer : Answer) → IsOfflineCaused layout view who frame own answer → (at : At) → state_named answer ≡ Some at → SawAt view who at
  offline-state frame own (answers.Moved other bt) caused at is = absurd (none-some at is)
  offline-state frame own answers.TakenFree caused at is = absurd (none-some at is)
  offline-state frame own answers.Already caused at is = absurd (none-some at is)
  offline-state frame own (answers.HasBad mask) caused at is = absurd (none-some at is)
  offline-state frame own answers.NoFrame caused at is = absurd (none-some at is)
  offline-state frame own answer caused at is = absurd caused

  unpoison-state : (frame : Frame) (own : Option FrameChange) (answer : Answer) → IsUnpoisonCaused layout view who frame own answer → (at : At) → state_named answer ≡ Some at → SawAt view who at
  unpoison-state frame own answers.Done caused at is = absurd (none-some at is)
  unpoison-state frame own answers.NotPoisoned caused at is = absurd (none-some at is)
  unpoison-state frame own answers.HardwareSeen caused at is = absurd (none-some at is)
  unpoison-state frame own (answers.HasBad mask) caused at is = absurd (none-some at is)
  unpoison-state frame own (answers.InUse count) caused at is = absurd (none-some at is)
  unpoison-state frame own answer caused at is = absurd caused

  soft-state : (frame : Frame) (own : Option FrameChange) (answer : Answer) → IsSoftCaused layout view who frame own answer → (at : At) → state_named answer ≡ Some at → SawAt view who at
  soft-state frame own answers.Kernel caused at is = absurd (none-some at is)
  soft-state frame own answer caused at is = offline-state frame own answer caused.1 at is

  answer-state : (command : Command) (told : List EventOutcome) (own : Option FrameChange) (answer : Answer) → IsAnswerCaused layout earlier view who command told own answer → (at : At) → state_named answer ≡ Some at → SawAt view who at
  answer-state command told own answers.Stopped caused at is = absurd (none-some at is)
  answer-state (commands.RaiseUser thread ripv eipv) told own (answers.Raised n) caused at is = absurd (none-some at is)
  answer-state (commands.RaiseUser thread ripv eipv) told own (answers.Gone page) caused at is = absurd (none-some at is)
  answer-state (commands.RaiseKernel ripv eipv) told own (answers.Raised n) caused at is = absurd (none-some at is)
  answer-state (commands.Scrub first last) told own (answers.Scrubbed n) caused at is = absurd (none-some at is)
  answer-state (commands.Inject frame) told own answers.Recovered caused at is = absurd (none-some at is)
  answer-state (commands.Inject frame) told own answers.Delayed caused at is = absurd (none-some at is)
  answer-state (commands.Inject frame) told own answers.Ignored caused at is = absurd (none-some at is)
  answer-state (commands.Inject frame) told own answers.Already caused at is = absurd (none-some at is)
  answer-state (commands.Inject frame) told own answer caused at is = absurd caused.1
  answer-state (commands.Soft frame) told own answer caused at is = soft-state frame own answer caused at is
  answer-state (commands.Unpoison frame) told own answer caused at is = unpoison-state frame own answer caused.1 at is
  answer-state command told own (answers.Sigbus bt) caused at is = absurd (none-some at is)
  answer-state command told own answers.GuestBad caused at is = absurd (none-some at is)
  answer-state command told own answers.GuestStopped caused at is = absurd (none-some at is)
  answer-state command told own answer caused at is = table-state command answer caused at is

  pub plain-state : (command : Command) (row : Row) → IsAnswerCaused layout earlier view who command row.told row.own row.answer → (at : At) → state_named row.answer ≡ Some at → SawAt view who at
  plain-state command row caused = answer-state command row.told row.own row.answer caused
