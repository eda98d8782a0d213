-- Two reports of a guest, by hand. In the first a load of the guest meets a bad line: the guest is told, the frame is bad for it, its next load
-- there is answered at once, and it goes on elsewhere. In the second a load in kernel mode meets the lost page, and the guest is stopped.
use Rattle.std.proofs.Common.{◌≡◌, ◌≢◌, ℕ, suc, zero, ◌==◌, Bool, true, false, List, [], ◌∷◌, Option, Some, None, if◌then◌else◌, refl, sym, ap, subst, ◌∙◌, inl, lit<, true≢false}
use Rattle.std.specs.Prelude.{slice_get}
use Rattle.std.specs.FinSet as set
use Rattle.std.specs.List.{list_any}
use Rattle.std.proofs.lemmas.Bool.{or_parts}
use Rattle.std.proofs.lemmas.Option.{none-some, same_Some}
use Rattle.hwp_script_words.specs.hwp_geom.declared.Layout.{Layout}
use Rattle.hwp_script_words.specs.hwp_geom.declared.PageKind.TheVariants.{Anon}
use Rattle.hwp_script_words.specs.hwp_geom.declared.Version.TheVariants.{Two}
use Rattle.hwp_script_words.specs.hwp_geom.declared.Who.{Who}
use Rattle.hwp_report_text.specs.hwp_kill.declared.Code.TheVariants.{Ar}
use Rattle.hwp_report_text.specs.hwp_page.declared.Entry.{Entry}
use Rattle.hwp_report_text.specs.hwp_page.declared.Met.TheVariants.{Word, Sigbus}
use Rattle.hwp_report_text.specs.hwp_page.declared.Outcome.TheVariants as outcomes
use Rattle.hwp_report_text.specs.hwp_page.declared.Situation.TheVariants as situations
use Rattle.hwp_report_text.specs.hwp_page.declared.What.TheVariants as entries
use Rattle.hwp_script_words.specs.declared.Command.{Command}
use Rattle.hwp_script_words.specs.declared.Command.TheVariants as commands
use Rattle.hwp_script_words.specs.declared.Script.{Script}
use Rattle.hwp_report_text.specs.declared.Acted.TheVariants as acts
use Rattle.hwp_report_text.specs.declared.Answer.{Answer}
use Rattle.hwp_report_text.specs.declared.Answer.TheVariants as answers
use Rattle.hwp_report_text.specs.declared.CpuLine.{CpuLine}
use Rattle.hwp_report_text.specs.declared.CpuLine.TheVariants as lines
use Rattle.hwp_report_text.specs.declared.GuestLine.{GuestLine}
use Rattle.hwp_report_text.specs.declared.How.TheVariants as hows
use Rattle.hwp_report_text.specs.declared.MarkLine.TheVariants as marks
use Rattle.hwp_report_text.specs.declared.Report.{Report}
use Rattle.hwp_report_text.specs.declared.Whereabouts.TheVariants as places
use Rattle.hwp_law.specs.Commands.{command_at}
use Rattle.hwp_law.specs.GuestRule.{denial, denied, guest_lines}
use Rattle.hwp_report_text.specs.hwp_guest.declared.Admit.TheVariants as admissions
use Rattle.hwp_law.proofs.GuestLaws.{bad-more, none-bad}
use Rattle.hwp_law.specs.Acting.{acting_script}
use Rattle.hwp_law.specs.Causes.{AreCaused}
use Rattle.hwp_law.specs.Guests.{AreGuestsKept, DoesNothing, IsDenied}
use Rattle.hwp_law.specs.Lines.{answer_of, guests_told}
use Rattle.hwp_law.specs.Places.{entry_at}
use Rattle.hwp_law.specs.Policies.{answered_before}
use Rattle.hwp_law.proofs.Examples.{command}
use Rattle.hwp_law.proofs.ForkExamples.{page, place, slot, thread}

-- ---- a guest, and what its lines and its answers say

-- one process, which is a guest, with a translation to each of two pages
abbrev pub hosted : Layout
hosted = record {
  version = Two;
  cpus = 1;
  frames = 3;
  kernel = false ∷ false ∷ false ∷ [];
  recovery = true;
  early = false;
  files = 0;
  procs = 1;
  threads = (record { process = record { 0 = 0 }; cpu = record { 0 = 0 }; handler = true }) ∷ [];
  pages = Anon ∷ Anon ∷ [];
  trans = (record { process = record { 0 = 0 }; page = page 0 }) ∷ (record { process = record { 0 = 0 }; page = page 1 }) ∷ [];
  locked = false ∷ false ∷ [];
  twins = None ∷ None ∷ [];
  guests = true ∷ [];
}

abbrev load : ℕ → ℕ → Command
load v line = commands.Load (thread 0) (slot v) line

abbrev kload : ℕ → ℕ → Command
kload v line = commands.KLoad (thread 0) (slot v) line

abbrev fetch : ℕ → ℕ → Command
fetch v line = commands.Fetch (thread 0) (slot v) line

abbrev store : ℕ → ℕ → ℕ → Command
store v line word = commands.Store (thread 0) (slot v) line word

-- a line of the guest: the status, the address, the row and whether it was stopped
abbrev told_so : ℕ → ℕ → ℕ → ℕ → Bool → GuestLine
told_so seq status addr row stops = record { seq = seq; bank = 0; status = status; addr = addr; misc = 0x86; row = row; stops = stops }

-- an access that met a bad line
abbrev met : Command → Command × Answer
met c = (c, answers.Sigbus (place 0 4))

-- the answer of an access of a guest that isn't stopped, by whether the frame is bad
abbrev denial_by : Bool → Option Answer
denial_by bad = denial (if bad then admissions.Bad else admissions.Yes)

-- the frame of the translation is bad behind a load, a fetch or a store that met a bad line, and no other is; another answer leaves it good
pub bad_behind_load : denied hosted (met (load 1 5) ∷ []) (store 1 6 3) ≡ Some answers.GuestBad
bad_behind_load = ap denial_by (bad-more set.empty 1 1)

pub bad_behind_fetch : denied hosted (met (fetch 1 5) ∷ []) (load 1 0) ≡ Some answers.GuestBad
bad_behind_fetch = ap denial_by (bad-more set.empty 1 1)

pub bad_behind_store : denied hosted (met (store 1 5 9) ∷ []) (fetch 1 0) ≡ Some answers.GuestBad
bad_behind_store = ap denial_by (bad-more set.empty 1 1)

pub good_elsewhere : denied hosted (met (load 1 5) ∷ []) (load 0 5) ≡ None
good_elsewhere = ap denial_by (bad-more set.empty 1 0 ∙ none-bad 0)

pub good_behind_word : denied hosted ((load 1 5, answers.Value 0 (place 1 2)) ∷ []) (load 1 5) ≡ None
good_behind_word = ap denial_by (none-bad 1)

-- in kernel mode it is stopped, also where its frame was bad
pub stopped_behind_kload : denied hosted (met (kload 1 5) ∷ []) (load 0 0) ≡ Some answers.GuestStopped
stopped_behind_kload = refl

pub stopped_first : denied hosted (met (load 1 5) ∷ met (kload 0 5) ∷ []) (load 1 0) ≡ Some answers.GuestStopped
stopped_first = refl

-- the guest's host is no guest: a command without an access, and an access in a layout without guests
pub no_access : denied hosted (met (kload 1 5) ∷ []) (commands.Free (slot 1)) ≡ None
no_access = refl

pub no_guest : denied (record hosted { guests = false ∷ [] }) (met (kload 1 5) ∷ []) (load 1 0) ≡ None
no_guest = refl

-- the address is that of the line in the guest frame, which is the translation's number; a fetch has a status of its own, and the same bank
pub told_of_load : guest_lines hosted 7 (load 1 2) (answers.Sigbus (place 0 4)) ≡ told_so 7 0xbd80000000000134 0x1080 9 false ∷ []
told_of_load = refl

pub told_of_fetch : guest_lines hosted 7 (fetch 0 5) (answers.Sigbus (place 0 4)) ≡ told_so 7 0xbd80000000000150 0x140 9 false ∷ []
told_of_fetch = refl

pub told_of_kload : guest_lines hosted 7 (kload 0 5) (answers.Sigbus (place 0 4)) ≡ told_so 7 0xbd80000000000134 0x140 10 true ∷ []
told_of_kload = refl

pub told_of_word : guest_lines hosted 7 (load 0 5) (answers.Value 0 (place 1 2)) ≡ []
told_of_word = refl

pub told_no_host : guest_lines (record hosted { guests = false ∷ [] }) 7 (load 0 5) (answers.Sigbus (place 0 4)) ≡ []
told_no_host = refl

-- ---- a report keeps its guest, where each of its commands does

abbrev is_denial : Option Answer → Bool
is_denial (Some answers.GuestBad) = true
is_denial (Some answers.GuestStopped) = true
is_denial answer = false

not_denied : (report : Report) (who : Who) → is_denial (answer_of report who) ≡ false → IsDenied report who None
not_denied report who other = (λ is. true≢false (sym (ap is_denial is) ∙ other), λ is. true≢false (sym (ap is_denial is) ∙ other))

none-made : (n : ℕ) → (n == n) ≡ true → (es : List Entry) → list_any (λ (e : Entry). e.who.seq == n) es ≡ false → (i : ℕ) (e : Entry) → slice_get es i ≡ Some e → e.who ≢ command n
none-made n self [] none i e there = absurd (none-some e there)
none-made n self (x ∷ xs) none zero e there = λ own.
    let parts = or_parts (x.who.seq == n) (list_any (λ (y : Entry). y.who.seq == n) xs) none in
    true≢false (sym self ∙ sym (ap (λ (w : Who). w.seq == n) own) ∙ ap (λ (y : Entry). y.who.seq == n) (sym (same_Some x e there)) ∙ parts.0)
none-made n self (x ∷ xs) none (suc i) e there = none-made n self xs (or_parts (x.who.seq == n) (list_any (λ (y : Entry). y.who.seq == n) xs) none).1 i e there

-- said of the command that stands there
as_denied : (script : Script) (report : Report) (who : Who) (c : Command) (o : Option Answer) → denied script.layout (answered_before script report who) c ≡ o → IsDenied report who o
    → (d : Command) → ◌≡◌ {A = Option Command} (Some c) (Some d) → IsDenied report who (denied script.layout (answered_before script report who) d)
as_denied script report who c o due is d there =
    subst (λ (x : Command). IsDenied report who (denied script.layout (answered_before script report who) x)) (same_Some c d there) (subst (IsDenied report who) (sym due) is)

as_told : (layout : Layout) (report : Report) (who : Who) (c : Command) (a : Answer) → guests_told report who ≡ guest_lines layout who.seq c a
    → (d : Command) (b : Answer) → ◌≡◌ {A = Option Command} (Some c) (Some d) → ◌≡◌ {A = Option Answer} (Some a) (Some b) → guests_told report who ≡ guest_lines layout who.seq d b
as_told layout report who c a is d b there answered =
    is ∙ ap (λ (x : Command). guest_lines layout who.seq x a) (same_Some c d there) ∙ ap (guest_lines layout who.seq d) (same_Some a b answered)

abbrev whose : ℕ → ℕ → Who
whose cpu n = record { cpu = record { 0 = cpu }; seq = n }

abbrev AreDenied : Script → Report → ℕ → ℕ → Type 0
AreDenied script report cpu n = (d : Command) → command_at script (whose cpu n) ≡ Some d → IsDenied report (whose cpu n) (denied script.layout (answered_before script report (whose cpu n)) d)

abbrev AreTold : Script → Report → ℕ → ℕ → Type 0
AreTold script report cpu n =
    (d : Command) (b : Answer) → command_at script (whose cpu n) ≡ Some d → answer_of report (whose cpu n) ≡ Some b → guests_told report (whose cpu n) ≡ guest_lines script.layout n d b

-- ---- a bad line

abbrev pub list : List Command
list = store 0 5 77 ∷ commands.Bad (record { 0 = 0 }) 5 ∷ load 0 5 ∷ load 0 6 ∷ load 1 0 ∷ []

abbrev pub script : Script
script = record { layout = hosted; lists = list ∷ []; go = [] }

abbrev first : List Entry
first =
    (record { who = command 0; what = entries.FaultIn })
    ∷ (record { who = command 0; what = entries.Map (slot 0) })
    ∷ (record { who = command 0; what = entries.Store (slot 0) 5 (Word (record { 0 = 0 }) 77) })
    ∷ (record { who = command 2; what = entries.Mce (slot 0) 5 (record { 0 = 0x20 }) })
    ∷ (record { who = command 2; what = entries.Fail situations.AnonOnly (Some (thread 0)) [] ((record { process = record { 0 = 0 }; thread = thread 0; code = Ar; slot = slot 0 }) ∷ []) })
    ∷ []

abbrev second : List Entry
second =
    (record { who = command 4; what = entries.FaultIn })
    ∷ (record { who = command 4; what = entries.Map (slot 1) })
    ∷ (record { who = command 4; what = entries.Load (slot 1) 0 (Word (record { 0 = 0 }) 0) })
    ∷ []

abbrev pub rows : List CpuLine
rows =
    lines.Answer 0 (answers.Stored (place 0 2))
    ∷ lines.Answer 1 answers.Done
    ∷ lines.Event (record { seq = 2; bank = 0; status = 0xbd80000000000134; addr = 0x140; misc = 0x86; row = 9; acted = acts.Recovered })
    ∷ lines.Guest (told_so 2 0xbd80000000000134 0x140 9 false)
    ∷ lines.Answer 2 (answers.Sigbus (place 0 4))
    ∷ lines.Answer 3 answers.GuestBad
    ∷ lines.Answer 4 (answers.Value 0 (place 1 2))
    ∷ []

abbrev pub report : Report
report = record {
  version = Two;
  stop = None;
  count = 1;
  files = [];
  frames =
      (record { place = places.Handled; bad = record { 0 = 0x20 }; weak = record { 0 = 0 }; marks = marks.Poisoned 0 (command 2) (hows.Failure true situations.AnonOnly outcomes.Recovered) ∷ [] })
      ∷ (record { place = places.Of (page 1); bad = record { 0 = 0 }; weak = record { 0 = 0 }; marks = [] })
      ∷ (record { place = places.Free; bad = record { 0 = 0 }; weak = record { 0 = 0 }; marks = [] })
      ∷ [];
  pages = first ∷ second ∷ [];
  cpus = rows ∷ [];
}

-- the load that wasn't admitted made no entry
unmade : (n i : ℕ) (e : Entry) → entry_at report.pages (place n i) ≡ Some e → e.who ≢ command 3
unmade zero i e there = none-made 3 refl first refl i e there
unmade (suc zero) i e there = none-made 3 refl second refl i e there
unmade (suc (suc n)) i e there = absurd (none-some e there)

nothing : DoesNothing report (command 3)
nothing = record { unmade = λ at e there. unmade at.page.0 at.entry e there; untold = refl }

each_denied : (cpu n : ℕ) → AreDenied script report cpu n
each_denied zero zero = as_denied script report (command 0) (store 0 5 77) None (ap denial_by (none-bad 0)) (not_denied report (command 0) refl)
each_denied zero (suc zero) = as_denied script report (command 1) (commands.Bad (record { 0 = 0 }) 5) None refl (not_denied report (command 1) refl)
each_denied zero (suc (suc zero)) = as_denied script report (command 2) (load 0 5) None (ap denial_by (none-bad 0)) (not_denied report (command 2) refl)
each_denied zero (suc (suc (suc zero))) = as_denied script report (command 3) (load 0 6) (Some answers.GuestBad) (ap denial_by (bad-more set.empty 0 0)) (inl refl, nothing)
each_denied zero (suc (suc (suc (suc zero)))) = as_denied script report (command 4) (load 1 0) None (ap denial_by (bad-more set.empty 0 1 ∙ none-bad 1)) (not_denied report (command 4) refl)
each_denied zero (suc (suc (suc (suc (suc n))))) = λ d there. absurd (none-some d there)
each_denied (suc cpu) n = λ d there. absurd (none-some d there)

each_told : (cpu n : ℕ) → AreTold script report cpu n
each_told zero zero = as_told hosted report (command 0) (store 0 5 77) (answers.Stored (place 0 2)) refl
each_told zero (suc zero) = as_told hosted report (command 1) (commands.Bad (record { 0 = 0 }) 5) answers.Done refl
each_told zero (suc (suc zero)) = as_told hosted report (command 2) (load 0 5) (answers.Sigbus (place 0 4)) refl
each_told zero (suc (suc (suc zero))) = as_told hosted report (command 3) (load 0 6) answers.GuestBad refl
each_told zero (suc (suc (suc (suc zero)))) = as_told hosted report (command 4) (load 1 0) (answers.Value 0 (place 1 2)) refl
each_told zero (suc (suc (suc (suc (suc n))))) = λ d b there answered. absurd (none-some d there)
each_told (suc cpu) n = λ d b there answered. absurd (none-some d there)

pub guest_kept : AreGuestsKept script report
guest_kept = record {
  kept = λ who d there. each_denied who.cpu.0 who.seq d there;
  told = λ who d b there answered. each_told who.cpu.0 who.seq d b there answered;
}

-- each line stands where it can, and every answer has its cause
unheeded : {P : Type 0} → ◌≡◌ {A = Bool} false true → P
unheeded is = absurd (true≢false (sym is))

pub all_caused : AreCaused (acting_script script report) report (record { 0 = 0 }) 0 list rows
all_caused = (
  refl,
  (record { 0 = 0 }, refl),
  unheeded,
  (
    refl,
    tt,
    unheeded,
    (
      refl,
      (
        refl,
        tt,
        (
          refl,
          record { entry = record { who = command 2; what = entries.Fail situations.AnonOnly (Some (thread 0)) [] ((record { process = record { 0 = 0 }; thread = thread 0; code = Ar; slot = slot 0 }) ∷ []) }; there = refl; own = refl; sends = (0, record { process = record { 0 = 0 }; thread = thread 0; code = Ar; slot = slot 0 }, lit< tt, refl, (refl, refl)) },
          unheeded,
          (refl, tt, unheeded, (refl, (record { 0 = 0 }, refl), unheeded, tt)),
        ),
      ),
    ),
  ),
)

-- ---- a page that was lost, met in kernel mode

abbrev pub later_list : List Command
later_list = store 0 5 77 ∷ commands.Inject (record { 0 = 0 }) ∷ kload 0 5 ∷ load 1 0 ∷ []

abbrev pub later_script : Script
later_script = record { layout = hosted; lists = later_list ∷ []; go = [] }

abbrev lost : List Entry
lost =
    (record { who = command 0; what = entries.FaultIn })
    ∷ (record { who = command 0; what = entries.Map (slot 0) })
    ∷ (record { who = command 0; what = entries.Store (slot 0) 5 (Word (record { 0 = 0 }) 77) })
    ∷ (record { who = command 1; what = entries.Fail situations.AnonOnly None [] [] })
    ∷ (record { who = command 2; what = entries.Load (slot 0) 5 (Sigbus (thread 0)) })
    ∷ []

abbrev later_end : List CpuLine
later_end = lines.Guest (told_so 2 0xbd80000000000134 0x140 10 true) ∷ lines.Answer 2 (answers.Sigbus (place 0 4)) ∷ lines.Answer 3 answers.GuestStopped ∷ []

abbrev pub later_report : Report
later_report = record {
  version = Two;
  stop = None;
  count = 1;
  files = [];
  frames =
      (record { place = places.Handled; bad = record { 0 = 0 }; weak = record { 0 = 0 }; marks = marks.Poisoned 0 (command 1) (hows.Failure false situations.AnonOnly outcomes.Recovered) ∷ [] })
      ∷ (record { place = places.Free; bad = record { 0 = 0 }; weak = record { 0 = 0 }; marks = [] })
      ∷ (record { place = places.Free; bad = record { 0 = 0 }; weak = record { 0 = 0 }; marks = [] })
      ∷ [];
  pages = lost ∷ [] ∷ [];
  cpus = (lines.Answer 0 (answers.Stored (place 0 2)) ∷ lines.Answer 1 answers.Recovered ∷ later_end) ∷ [];
}

later_unmade : (n i : ℕ) (e : Entry) → entry_at later_report.pages (place n i) ≡ Some e → e.who ≢ command 3
later_unmade zero i e there = none-made 3 refl lost refl i e there
later_unmade (suc zero) i e there = absurd (none-some e there)
later_unmade (suc (suc n)) i e there = absurd (none-some e there)

later_nothing : DoesNothing later_report (command 3)
later_nothing = record { unmade = λ at e there. later_unmade at.page.0 at.entry e there; untold = refl }

later_denied : (cpu n : ℕ) → AreDenied later_script later_report cpu n
later_denied zero zero = as_denied later_script later_report (command 0) (store 0 5 77) None (ap denial_by (none-bad 0)) (not_denied later_report (command 0) refl)
later_denied zero (suc zero) = as_denied later_script later_report (command 1) (commands.Inject (record { 0 = 0 })) None refl (not_denied later_report (command 1) refl)
later_denied zero (suc (suc zero)) = as_denied later_script later_report (command 2) (kload 0 5) None (ap denial_by (none-bad 0)) (not_denied later_report (command 2) refl)
later_denied zero (suc (suc (suc zero))) = as_denied later_script later_report (command 3) (load 1 0) (Some answers.GuestStopped) refl (inl refl, later_nothing)
later_denied zero (suc (suc (suc (suc n)))) = λ d there. absurd (none-some d there)
later_denied (suc cpu) n = λ d there. absurd (none-some d there)

later_told : (cpu n : ℕ) → AreTold later_script later_report cpu n
later_told zero zero = as_told hosted later_report (command 0) (store 0 5 77) (answers.Stored (place 0 2)) refl
later_told zero (suc zero) = as_told hosted later_report (command 1) (commands.Inject (record { 0 = 0 })) answers.Recovered refl
later_told zero (suc (suc zero)) = as_told hosted later_report (command 2) (kload 0 5) (answers.Sigbus (place 0 4)) refl
later_told zero (suc (suc (suc zero))) = as_told hosted later_report (command 3) (load 1 0) answers.GuestStopped refl
later_told zero (suc (suc (suc (suc n)))) = λ d b there answered. absurd (none-some d there)
later_told (suc cpu) n = λ d b there answered. absurd (none-some d there)

pub later_kept : AreGuestsKept later_script later_report
later_kept = record {
  kept = λ who d there. later_denied who.cpu.0 who.seq d there;
  told = λ who d b there answered. later_told who.cpu.0 who.seq d b there answered;
}

-- the lines of the guest's last two commands stand where they can, and their answers have their causes
pub later_caused : AreCaused (acting_script later_script later_report) later_report (record { 0 = 0 }) 2 (kload 0 5 ∷ load 1 0 ∷ []) later_end
later_caused = (
  refl,
  tt,
  (
    refl,
    record { entry = record { who = command 2; what = entries.Load (slot 0) 5 (Sigbus (thread 0)) }; there = refl; own = refl; sends = refl },
    unheeded,
    (refl, tt, unheeded, tt),
  ),
)
