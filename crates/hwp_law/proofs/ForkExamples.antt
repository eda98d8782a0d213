-- A report of a fork, by hand: a parent stores 77 in a page, makes a child, the child stores 88 on the same line, and each loads its own
-- word. The child's store copies the page to that of its twin, so the parent's word stays. Beside it, copies that meet bad lines.
use Rattle.std.proofs.Common.{◌≡◌, ℕ, suc, zero, ◌+◌, ◌-◌, ◌==◌, ◌<◌, true, false, Bool, List, [], ◌∷◌, ◌++◌, drop, Option, Some, None, option_and_then, slice_get, if◌then◌else◌, IsBitSet, refl, sym, ap, subst, ◌∙◌, inl, inr, lit<, true≢false, arith}
use Rattle.std.proofs.lemmas.Option.{none-some, same_Some}
use Rattle.hwp_script_words.specs.hwp_geom.declared.Layout.{Layout}
use Rattle.hwp_script_words.specs.hwp_geom.declared.Mask.{Mask}
use Rattle.hwp_script_words.specs.hwp_geom.declared.Page.{Page}
use Rattle.hwp_script_words.specs.hwp_geom.declared.PageKind.TheVariants.{Anon}
use Rattle.hwp_script_words.specs.hwp_geom.declared.Proc.{Proc}
use Rattle.hwp_script_words.specs.hwp_geom.declared.Thread.{Thread}
use Rattle.hwp_script_words.specs.hwp_geom.declared.ThreadDecl.{ThreadDecl}
use Rattle.hwp_script_words.specs.hwp_geom.declared.TransDecl.{TransDecl}
use Rattle.hwp_script_words.specs.hwp_geom.declared.Version.TheVariants.{Two}
use Rattle.hwp_script_words.specs.hwp_geom.declared.VSlot.{VSlot}
use Rattle.hwp_report_text.specs.hwp_kill.declared.Code.TheVariants.{Ar}
use Rattle.hwp_report_text.specs.hwp_kill.declared.Policy.TheVariants as policies
use Rattle.hwp_report_text.specs.hwp_page.declared.At.{At}
use Rattle.hwp_report_text.specs.hwp_page.declared.Entry.{Entry}
use Rattle.hwp_report_text.specs.hwp_page.declared.Met.TheVariants.{Word, Sigbus}
use Rattle.hwp_report_text.specs.hwp_page.declared.Outcome.TheVariants as outcomes
use Rattle.hwp_report_text.specs.hwp_page.declared.Situation.TheVariants as situations
use Rattle.hwp_report_text.specs.hwp_page.declared.What.{What}
use Rattle.hwp_report_text.specs.hwp_page.declared.What.TheVariants as entries
use Rattle.hwp_script_words.specs.declared.Command.{Command}
use Rattle.hwp_script_words.specs.declared.Command.TheVariants as commands
use Rattle.hwp_script_words.specs.declared.Script.{Script}
use Rattle.hwp_report_text.specs.hwp_banks.Banks.{empty_banks}
use Rattle.hwp_report_text.specs.declared.Acted.TheVariants as acts
use Rattle.hwp_report_text.specs.declared.Answer.{Answer}
use Rattle.hwp_report_text.specs.declared.Answer.TheVariants as answers
use Rattle.hwp_report_text.specs.declared.CpuLine.{CpuLine}
use Rattle.hwp_report_text.specs.declared.CpuLine.TheVariants as lines
use Rattle.hwp_report_text.specs.declared.EventLine.{EventLine}
use Rattle.hwp_report_text.specs.declared.FrameLine.{FrameLine}
use Rattle.hwp_report_text.specs.declared.How.TheVariants as hows
use Rattle.hwp_report_text.specs.declared.MarkLine.TheVariants as marks
use Rattle.hwp_report_text.specs.declared.Report.{Report}
use Rattle.hwp_report_text.specs.declared.Whereabouts.{Whereabouts}
use Rattle.hwp_report_text.specs.declared.Whereabouts.TheVariants as places
use Rattle.hwp_law.specs.Commands.{arrival_of, can_fail, can_offline, command_at, current_thread, thread_of}
use Rattle.hwp_law.specs.Cows.{cow_of}
use Rattle.hwp_law.specs.Settings.{settings}
use Rattle.hwp_law.specs.Acting.{acting_script, copied_at}
use Rattle.hwp_law.specs.Causes.{AreCaused}
use Rattle.hwp_law.specs.Answers.{IsNamed}
use Rattle.hwp_law.specs.Copies.{AreLastStores, AreNamed, IsLastStore, copy_checks, ended_through, is_store, must_be_named}
use Rattle.hwp_law.specs.Entries.{AreMadeBy, IsMadeBy}
use Rattle.hwp_law.specs.Events.{AreEventsFrom, AreEventsOf}
use Rattle.hwp_law.specs.Lines.{answer_of, events_of}
use Rattle.hwp_law.specs.Places.{entry_at}
use Rattle.hwp_law.specs.Policies.{answered_before}
use Rattle.hwp_law.specs.Private.{ArePrivate, freeze_from, loaded, private_word}
use Rattle.hwp_law.specs.Runs.{slot_ended}
use Rattle.hwp_law.proofs.Examples.{command}

-- ---- the script and the report

abbrev pub slot : ℕ → VSlot
slot n = record { 0 = n }

abbrev pub thread : ℕ → Thread
thread n = record { 0 = n }

abbrev pub page : ℕ → Page
page n = record { 0 = n }

abbrev process : ℕ → Proc
process n = record { 0 = n }

-- the place in the history of a page
abbrev pub place : ℕ → ℕ → At
place n entry = record { page = page n; entry = entry }

abbrev no_lines : Mask
no_lines = record { 0 = 0 }

-- two processes with a thread each, which share page 0; translation 2 is the twin of the parent's, 3 of the child's
abbrev of_process : ℕ → ThreadDecl
of_process n = record { process = process n; cpu = record { 0 = 0 }; handler = true }

abbrev leading : ℕ → ℕ → TransDecl
leading n to = record { process = process n; page = page to }

abbrev pub shared : Layout
shared = record {
  version = Two;
  cpus = 1;
  frames = 4;
  kernel = false ∷ false ∷ false ∷ false ∷ [];
  recovery = true;
  early = false;
  files = 0;
  procs = 2;
  threads = of_process 0 ∷ of_process 1 ∷ [];
  pages = Anon ∷ Anon ∷ Anon ∷ [];
  trans = leading 0 0 ∷ leading 1 0 ∷ leading 0 1 ∷ leading 1 2 ∷ [];
  locked = false ∷ false ∷ false ∷ [];
  twins = Some (slot 2) ∷ Some (slot 3) ∷ None ∷ None ∷ [];
  guests = false ∷ false ∷ [];
}

-- `store 0 0 5 77`, `fork 0 1`, `store 1 1 5 88`, `load 0 0 5`, and `load 1 1 5` through a translation, which here is 1
abbrev pub list : VSlot → VSlot → List Command
list written read =
    commands.Store (thread 0) (slot 0) 5 77
    ∷ commands.Fork (thread 0) (process 1)
    ∷ commands.Store (thread 1) written 5 88
    ∷ commands.Load (thread 0) (slot 0) 5
    ∷ commands.Load (thread 1) read 5
    ∷ []

abbrev pub forking : Script
forking = record { layout = shared; lists = list (slot 1) (slot 1) ∷ []; go = [] }

abbrev by : ℕ → What → Entry
by n what = record { who = command n; what = what }

-- what a copy finds on a line, and the loads and stores that a command makes of so many lines from this one on
abbrev found : ℕ → ℕ
found line = if line == 5 then 77 else 0

abbrev pub loads_by : ℕ → ℕ → ℕ → List Entry
loads_by n line zero = []
loads_by n line (suc more) = by n (entries.Load (slot 1) line (Word no_lines (found line))) ∷ loads_by n (line + 1) more

abbrev pub stores_by : ℕ → ℕ → ℕ → List Entry
stores_by n line zero = []
stores_by n line (suc more) = by n (entries.Store (slot 3) line (Word no_lines (found line))) ∷ stores_by n (line + 1) more

abbrev pub loads_from : ℕ → ℕ → List Entry
loads_from line more = loads_by 2 line more

abbrev pub stores_from : ℕ → ℕ → List Entry
stores_from line more = stores_by 2 line more

abbrev begun : List Entry
begun = by 0 entries.FaultIn ∷ by 0 (entries.Map (slot 0)) ∷ by 0 (entries.Store (slot 0) 5 (Word no_lines 77)) ∷ []

-- the two histories, with what stands in them behind the copy
abbrev parents_end : List Entry
parents_end = by 2 (entries.Free (slot 1)) ∷ by 3 (entries.Load (slot 0) 5 (Word no_lines 77)) ∷ []

abbrev childs_end : List Entry
childs_end = by 2 (entries.Store (slot 3) 5 (Word no_lines 88)) ∷ by 4 (entries.Load (slot 3) 5 (Word no_lines 88)) ∷ []

abbrev pub parents : List Entry
parents = begun ++ by 2 (entries.Map (slot 1)) ∷ (loads_from 0 64 ++ parents_end)

abbrev pub childs : List Entry
childs = by 2 entries.FaultIn ∷ by 2 (entries.Map (slot 3)) ∷ (stores_from 0 64 ++ childs_end)

abbrev frame_line : Whereabouts → FrameLine
frame_line at = record { place = at; bad = no_lines; weak = no_lines; marks = [] }

-- the report with these histories of pages 0 and 2 and these lines
abbrev pub reported : List Entry → List Entry → List CpuLine → Report
reported first third rows = record {
  version = Two;
  stop = None;
  count = 0;
  files = [];
  frames = frame_line (places.Of (page 0)) ∷ frame_line (places.Of (page 2)) ∷ frame_line places.Free ∷ frame_line places.Free ∷ [];
  pages = first ∷ [] ∷ third ∷ [];
  cpus = rows ∷ [];
}

-- its lines, where the child's store and both loads have these answers
abbrev pub rows : Answer → Answer → Answer → List CpuLine
rows stored parent child =
    lines.Answer 0 (answers.Stored (place 0 2))
    ∷ lines.Answer 1 answers.Done
    ∷ lines.Answer 2 stored
    ∷ lines.Answer 3 parent
    ∷ lines.Answer 4 child
    ∷ []

abbrev pub answering : Answer → Answer → Answer → Report
answering stored parent child = reported parents childs (rows stored parent child)

abbrev pub forked : Report
forked = answering (answers.Stored (place 2 66)) (answers.Value 77 (place 0 69)) (answers.Value 88 (place 2 67))

-- ---- what is acted on

-- the child's store and its load go through the twin, and its store copies; the parent's load stays where it is
pub acted_on : acting_script forking forked ≡ record forking { lists = list (slot 3) (slot 3) ∷ [] }
acted_on = refl

pub child_copies : copied_at forking forked (command 2) ≡ Some (slot 1)
child_copies = refl

-- nothing is frozen where the fork was answered otherwise
abbrev pub gone : Report
gone = reported parents childs (lines.Answer 0 (answers.Stored (place 0 2)) ∷ lines.Answer 1 (answers.Gone (page 0)) ∷ [])

pub gone_freezes_none : acting_script forking gone ≡ forking
gone_freezes_none = refl

pub gone_copies_none : copied_at forking gone (command 2) ≡ None
gone_copies_none = refl

-- ---- the report is lawful

-- each line stands where it can, and every answer has its cause
unheeded : {P : Type 0} → ◌≡◌ {A = Bool} false true → P
unheeded is = absurd (true≢false (sym is))

pub all_caused : AreCaused (acting_script forking forked) forked (record { 0 = 0 }) 0 (list (slot 3) (slot 3)) (rows (answers.Stored (place 2 66)) (answers.Value 77 (place 0 69)) (answers.Value 88 (place 2 67)))
all_caused = (refl, (no_lines, refl), unheeded, (refl, tt, unheeded, (refl, (no_lines, refl), unheeded, (refl, (no_lines, refl), unheeded, (refl, (no_lines, refl), unheeded, tt)))))

-- no command has an event, the copy neither
pub none_told : AreEventsFrom (acting_script forking forked) (copied_at forking forked) forked (record { 0 = 0 }) 0 (list (slot 3) (slot 3)) empty_banks
none_told = (empty_banks, (refl, refl), (empty_banks, (refl, refl), (empty_banks, (refl, refl), (empty_banks, (refl, refl), (empty_banks, (refl, refl), tt)))))

-- the place that the child's store names is that of its last store in the twin's page
get-drop : {A : Type 0} (n : ℕ) (l : List A) (k : ℕ) → slice_get l (n + k) ≡ slice_get (drop n l) k
get-drop zero l k = let same : 0 + k ≡ k = omega arith in ap (λ (i : ℕ). slice_get l i) same
get-drop (suc n) [] k = refl
get-drop (suc n) (x ∷ xs) k = let same : suc n + k ≡ suc (n + k) = omega arith in ap (λ (i : ℕ). slice_get (x ∷ xs) i) same ∙ get-drop n xs k

abbrev childs_load : Entry
childs_load = by 4 (entries.Load (slot 3) 5 (Word no_lines 88))

behind_store : (k : ℕ) (e : Entry) → slice_get (drop 67 childs) k ≡ Some e → is_store e.what ≡ false
behind_store zero e is = ap (λ (x : Entry). is_store x.what) (sym (same_Some childs_load e is))
behind_store (suc k) e is = absurd (none-some e is)

pub last_store : IsLastStore forked.pages (command 2) (place 2 66)
last_store later e there own same behind =
    let here : slice_get childs later.entry ≡ Some e = subst (λ (p : Page). entry_at forked.pages (record { page = p; entry = later.entry }) ≡ Some e) same there in
    let past : 66 < later.entry = behind in
    let on : later.entry ≡ 67 + (later.entry - 67) = omega (arith, past) in
    behind_store (later.entry - 67) e (sym (get-drop 67 childs (later.entry - 67)) ∙ ap (λ (i : ℕ). slice_get childs i) (sym on) ∙ here)

same_place : {a b : At} → answers.Stored a ≡ answers.Stored b → a ≡ b
same_place {a} {b} is = same_Some a b (ap stored_at is)
  where
    stored_at : Answer → Option At
    stored_at (answers.Stored at) = Some at
    stored_at answer = None

abbrev IsLast : ℕ → ℕ → Type 0
IsLast cpu n =
    (from : VSlot) (at : At) → copied_at forking forked (record { cpu = record { 0 = cpu }; seq = n }) ≡ Some from → answer_of forked (record { cpu = record { 0 = cpu }; seq = n }) ≡ Some (answers.Stored at)
    → IsLastStore forked.pages (record { cpu = record { 0 = cpu }; seq = n }) at

each_last : (cpu n : ℕ) → IsLast cpu n
each_last zero zero = λ from at copied answered. absurd (none-some from copied)
each_last zero (suc zero) = λ from at copied answered. absurd (none-some from copied)
each_last zero (suc (suc zero)) = λ from at copied answered. subst (IsLastStore forked.pages (command 2)) (same_place (same_Some (answers.Stored (place 2 66)) (answers.Stored at) answered)) last_store
each_last zero (suc (suc (suc zero))) = λ from at copied answered. absurd (none-some from copied)
each_last zero (suc (suc (suc (suc zero)))) = λ from at copied answered. absurd (none-some from copied)
each_last zero (suc (suc (suc (suc (suc n))))) = λ from at copied answered. absurd (none-some from copied)
each_last (suc cpu) n = λ from at copied answered. absurd (none-some from copied)

pub all_last : AreLastStores (copied_at forking forked) forked
all_last who = each_last who.cpu.0 who.seq

-- each entry is one that its command makes, and each that a line has to name is named: those of the copy needn't be
abbrev Each : (ℕ → Entry → Type 0) → ℕ → List Entry → Type 0
Each P i [] = Unit {0}
Each P i (e ∷ es) = P i e × Each P (i + 1) es

each-at : (P : ℕ → Entry → Type 0) (i : ℕ) (l : List Entry) → Each P i l → (k : ℕ) (e : Entry) → slice_get l k ≡ Some e → P (i + k) e
each-at P i [] each k e there = absurd (none-some e there)
each-at P i (x ∷ xs) each zero e there =
    let same : i ≡ i + 0 = omega arith in
    subst (λ (n : ℕ). P n e) same (subst (P i) (same_Some x e there) each.0)
each-at P i (x ∷ xs) each (suc k) e there =
    let same : (i + 1) + k ≡ i + suc k = omega arith in
    subst (λ (n : ℕ). P n e) same (each-at P (i + 1) xs each.1 k e there)

abbrev IsGood : ℕ → ℕ → Entry → Type 0
IsGood n i e =
    IsMadeBy (acting_script forking forked) (copied_at forking forked) (page n) e × (must_be_named (copied_at forking forked e.who) e.what ≡ true → IsNamed forked.cpus (place n i) e)

unnamed : {P : Type 0} → ◌≡◌ {A = Bool} false true → P
unnamed is = absurd (true≢false (sym is))

loads_good : (i line more : ℕ) (rest : List Entry) → Each (IsGood 0) (i + more) rest → Each (IsGood 0) i (loads_from line more ++ rest)
loads_good i line zero rest good = let same : i + 0 ≡ i = omega arith in subst (λ (n : ℕ). Each (IsGood 0) n rest) same good
loads_good i line (suc more) rest good =
    let same : i + suc more ≡ (i + 1) + more = omega arith in
    ((inr ((refl, tt), refl), unnamed), loads_good (i + 1) (line + 1) more rest (subst (λ (n : ℕ). Each (IsGood 0) n rest) same good))

stores_good : (i line more : ℕ) (rest : List Entry) → Each (IsGood 2) (i + more) rest → Each (IsGood 2) i (stores_from line more ++ rest)
stores_good i line zero rest good = let same : i + 0 ≡ i = omega arith in subst (λ (n : ℕ). Each (IsGood 2) n rest) same good
stores_good i line (suc more) rest good =
    let same : i + suc more ≡ (i + 1) + more = omega arith in
    ((inr ((refl, tt), refl), unnamed), stores_good (i + 1) (line + 1) more rest (subst (λ (n : ℕ). Each (IsGood 2) n rest) same good))

parents_good : Each (IsGood 0) 0 parents
parents_good = (
  (inl (tt, refl), unnamed),
  (
    (inl (refl, refl), unnamed),
    (
      (inl ((refl, refl, tt, refl), refl), λ is. (lines.Answer 0 (answers.Stored (place 0 2)), 0, refl, refl, refl)),
      (
        (inr (inl refl, refl), unnamed),
        loads_good 4 0 64 parents_end ((inr (refl, refl), unnamed), ((inl ((refl, refl, tt), refl), λ is. (lines.Answer 3 (answers.Value 77 (place 0 69)), 3, refl, refl, refl)), tt)),
      ),
    ),
  ),
)

childs_good : Each (IsGood 2) 0 childs
childs_good = (
  (inl (tt, refl), unnamed),
  (
    (inl (refl, refl), unnamed),
    stores_good 2 0 64 childs_end (
      (inl ((refl, refl, tt, refl), refl), λ is. (lines.Answer 2 (answers.Stored (place 2 66)), 2, refl, refl, refl)),
      ((inl ((refl, refl, tt), refl), λ is. (lines.Answer 4 (answers.Value 88 (place 2 67)), 4, refl, refl, refl)), tt),
    ),
  ),
)

from_first : (n i : ℕ) (e : Entry) → IsGood n (0 + i) e → IsGood n i e
from_first n i e good = let same : 0 + i ≡ i = omega arith in subst (λ (k : ℕ). IsGood n k e) same good

each_good : (n i : ℕ) (e : Entry) → entry_at forked.pages (place n i) ≡ Some e → IsGood n i e
each_good zero i e there = from_first 0 i e (each-at (IsGood 0) 0 parents parents_good i e there)
each_good (suc zero) i e there = absurd (none-some e there)
each_good (suc (suc zero)) i e there = from_first 2 i e (each-at (IsGood 2) 0 childs childs_good i e there)
each_good (suc (suc (suc n))) i e there = absurd (none-some e there)

pub all_made : AreMadeBy (acting_script forking forked) (copied_at forking forked) forked.pages
all_made at e there = (each_good at.page.0 at.entry e there).0

pub all_named : AreNamed (copied_at forking forked) forked.pages forked.cpus
all_named at e there must = (each_good at.page.0 at.entry e there).1 must

-- what parent and child load is what each would load if all memory had been copied at the fork
abbrev word_given : Answer → Option ℕ
word_given (answers.Value word at) = Some word
word_given answer = None

no-load : (c d : Command) (v : VSlot) (line : ℕ) {P : Type 0} → loaded c ≡ None → ◌≡◌ {A = Option Command} (Some c) (Some d) → loaded d ≡ Some (v, line) → P
no-load c d v line none there loads = absurd (none-some (v, line) (sym none ∙ ap loaded (same_Some c d there) ∙ loads))

module _ (report : Report) (n : ℕ) where
  -- the load with this number, of this line through this translation, gave what a full copy at the fork with this number would hold
  right : (c : Command) (v : VSlot) (l f w : ℕ) → loaded c ≡ Some (v, l) → freeze_from shared v 0 (answered_before forking report (command n)) ≡ Some f → option_and_then word_given (answer_of report (command n)) ≡ Some w
      → w ≡ private_word shared report (record { 0 = 0 }) f v l (answered_before forking report (command n))
      → (d : Command) (x : VSlot) (line fork word : ℕ) (at : At) → ◌≡◌ {A = Option Command} (Some c) (Some d) → loaded d ≡ Some (x, line)
      → freeze_from shared x 0 (answered_before forking report (command n)) ≡ Some fork → answer_of report (command n) ≡ Some (answers.Value word at)
      → word ≡ private_word shared report (record { 0 = 0 }) fork x line (answered_before forking report (command n))
  right c v l f w is_load froze gave same d x line fork word at there loads frozen answered =
      let pair : ◌≡◌ {A = VSlot × ℕ} (v, l) (x, line) = same_Some (v, l) (x, line) (sym is_load ∙ ap loaded (same_Some c d there) ∙ loads) in
      let slots : v ≡ x = ap (λ (p : VSlot × ℕ). p.0) pair in
      let line_is : l ≡ line = ap (λ (p : VSlot × ℕ). p.1) pair in
      let forks : f ≡ fork = same_Some f fork (sym froze ∙ ap (λ (s : VSlot). freeze_from shared s 0 (answered_before forking report (command n))) slots ∙ frozen) in
      let words : w ≡ word = same_Some w word (sym gave ∙ ap (option_and_then word_given) answered) in
      sym words ∙ same
      ∙ ap (λ (k : ℕ). private_word shared report (record { 0 = 0 }) k v l (answered_before forking report (command n))) forks
      ∙ ap (λ (s : VSlot). private_word shared report (record { 0 = 0 }) fork s l (answered_before forking report (command n))) slots
      ∙ ap (λ (i : ℕ). private_word shared report (record { 0 = 0 }) fork x i (answered_before forking report (command n))) line_is

abbrev IsRight : ℕ → ℕ → Type 0
IsRight cpu n =
    (d : Command) (x : VSlot) (line fork word : ℕ) (at : At) → command_at forking (record { cpu = record { 0 = cpu }; seq = n }) ≡ Some d → loaded d ≡ Some (x, line)
    → freeze_from shared x 0 (answered_before forking forked (record { cpu = record { 0 = cpu }; seq = n })) ≡ Some fork → answer_of forked (record { cpu = record { 0 = cpu }; seq = n }) ≡ Some (answers.Value word at)
    → word ≡ private_word shared forked (record { 0 = cpu }) fork x line (answered_before forking forked (record { cpu = record { 0 = cpu }; seq = n }))

each_right : (cpu n : ℕ) → IsRight cpu n
each_right zero zero = λ d x line fork word at there loads frozen answered. no-load (commands.Store (thread 0) (slot 0) 5 77) d x line refl there loads
each_right zero (suc zero) = λ d x line fork word at there loads frozen answered. no-load (commands.Fork (thread 0) (process 1)) d x line refl there loads
each_right zero (suc (suc zero)) = λ d x line fork word at there loads frozen answered. no-load (commands.Store (thread 1) (slot 1) 5 88) d x line refl there loads
each_right zero (suc (suc (suc zero))) = right forked 3 (commands.Load (thread 0) (slot 0) 5) (slot 0) 5 1 77 refl refl refl refl
each_right zero (suc (suc (suc (suc zero)))) = right forked 4 (commands.Load (thread 1) (slot 1) 5) (slot 1) 5 1 88 refl refl refl refl
each_right zero (suc (suc (suc (suc (suc n))))) = λ d x line fork word at there loads frozen answered. absurd (none-some d there)
each_right (suc cpu) n = λ d x line fork word at there loads frozen answered. absurd (none-some d there)

pub all_private : ArePrivate forking forked
all_private who = each_right who.cpu.0 who.seq

-- ---- copies that met bad lines, or no frame

-- a copy with these entries in its page, and these in the page of the twin
abbrev pub copying : List Entry → List Entry → Report
copying first third = reported first third (rows (answers.Sigbus (place 2 0)) (answers.Value 77 (place 0 0)) (answers.Value 77 (place 0 0)))

abbrev pub met_in : VSlot → ℕ → Entry
met_in v line = by 2 (entries.Mce v line (record { 0 = 1 }))

abbrev pub checked : Report → List ℕ
checked report = copy_checks shared report (command 2) (slot 1) (slot 3)

-- a bad line of the page at line 3, and then one of the twin's page at line 9
pub checks_in_both : checked (copying (loads_from 0 3 ++ met_in (slot 1) 3 ∷ loads_from 3 7) (stores_from 0 9 ++ met_in (slot 3) 9 ∷ [])) ≡ 3 ∷ 9 ∷ []
checks_in_both = refl

-- in the other order, twice on one line, and on the same line of both pages, where the load comes first
pub checks_in_turn : checked (copying (loads_from 0 9 ++ met_in (slot 1) 9 ∷ []) (stores_from 0 3 ++ met_in (slot 3) 3 ∷ stores_from 3 6)) ≡ 3 ∷ 9 ∷ []
checks_in_turn = refl

pub checks_again : checked (copying (met_in (slot 1) 0 ∷ met_in (slot 1) 0 ∷ loads_from 0 1) (met_in (slot 3) 0 ∷ [])) ≡ 0 ∷ 0 ∷ 0 ∷ []
checks_again = refl

-- behind the last line comes the store of the command's own word
pub checks_last : checked (copying (loads_from 0 64) (stores_from 0 64 ++ met_in (slot 3) 5 ∷ [])) ≡ 5 ∷ []
checks_last = refl

-- whose page was in no frame: that of the load of the next line, of the store of the line that was loaded last, or of the last store
abbrev pub ended : ℕ → ℕ → VSlot
ended loads stores = ended_through shared (copying (loads_from 0 loads) (stores_from 0 stores)) (command 2) (slot 1) (slot 3)

pub ended_at_load : ended 9 9 ≡ slot 1
ended_at_load = refl

pub ended_at_first : ended 0 0 ≡ slot 1
ended_at_first = refl

pub ended_at_store : ended 10 9 ≡ slot 3
ended_at_store = refl

pub ended_at_last : ended 64 64 ≡ slot 3
ended_at_last = refl

-- so a store that was answered `noframe` in its copy names one of the two pages; a load names its own
abbrev outside : Report
outside = reported (loads_from 0 9) (stores_from 0 9) (rows answers.NoFrame answers.NoFrame answers.NoFrame)

pub copy_outside : slot_ended (acting_script forking outside) (copied_at forking outside) outside (command 2) ≡ Some (slot 1)
copy_outside = refl

pub load_outside : slot_ended (acting_script forking outside) (copied_at forking outside) outside (command 4) ≡ Some (slot 1)
load_outside = refl

-- ---- a copy that ends at a bad line

-- `store 0 0 5 77`, `fork 0 1`, `bad 0 9`, `store 1 1 5 88`, `load 0 0 5`: the child's store meets line 9, and the parent's load finds its
-- page failed
abbrev pub failing : Script
failing = record {
  layout = shared;
  lists =
      (commands.Store (thread 0) (slot 0) 5 77
      ∷ commands.Fork (thread 0) (process 1)
      ∷ commands.Bad (record { 0 = 0 }) 9
      ∷ commands.Store (thread 1) (slot 1) 5 88
      ∷ commands.Load (thread 0) (slot 0) 5
      ∷ []) ∷ [];
  go = [];
}

abbrev failure : Entry
failure =
    by 3 (entries.Fail situations.AnonOnly (Some (thread 1)) ((record { thread = thread 0; policy = policies.Default; n = 0 }) ∷ [])
    ((record { process = process 1; thread = thread 1; code = Ar; slot = slot 1 }) ∷ []))

abbrev pub lost : List Entry
lost = begun ++ by 3 (entries.Map (slot 1)) ∷ (loads_by 3 0 9 ++ by 3 (entries.Mce (slot 1) 9 (record { 0 = 0x200 })) ∷ failure ∷ by 4 (entries.Load (slot 0) 5 (Sigbus (thread 0))) ∷ [])

abbrev begun_copy : List Entry
begun_copy = by 3 entries.FaultIn ∷ by 3 (entries.Map (slot 3)) ∷ stores_by 3 0 9

-- `event 0 bd80000000000134 240 86 S9 recovered`
abbrev bad_event : EventLine
bad_event = record { seq = 3; bank = 0; status = 0xbd80000000000134; addr = 0x240; misc = 0x86; row = 9; acted = acts.Recovered }

abbrev lost_rows : List CpuLine
lost_rows =
    lines.Answer 0 (answers.Stored (place 0 2))
    ∷ lines.Answer 1 answers.Done
    ∷ lines.Answer 2 answers.Done
    ∷ lines.Event bad_event
    ∷ lines.Answer 3 (answers.Sigbus (place 0 14))
    ∷ lines.Answer 4 (answers.Sigbus (place 0 15))
    ∷ []

abbrev pub failed : Report
failed = record (reported lost begun_copy lost_rows) {
  count = 1;
  frames =
      (record { place = places.Handled; bad = record { 0 = 0x200 }; weak = no_lines; marks = marks.Poisoned 0 (command 3) (hows.Failure true situations.AnonOnly outcomes.Recovered) ∷ [] })
      ∷ frame_line (places.Of (page 2)) ∷ frame_line places.Free ∷ frame_line places.Free ∷ [];
}

-- the machine check is of line 9, its event is graded S9, and the banks are empty behind it
pub copy_checked : AreEventsOf (acting_script failing failed) (copied_at failing failed) failed (command 3) (arrival_of (commands.Store (thread 1) (slot 3) 5 88)) (commands.Store (thread 1) (slot 3) 5 88) empty_banks (events_of failed (command 3)) empty_banks
copy_checked = (
  record { 0 = 0 },
  events_of failed (command 3),
  [],
  refl,
  bad_line,
  (record { bank_is = refl; status = refl; addr = refl; misc = refl; row = refl; act = inr (0, lit< tt, refl) }, tt),
  (refl, refl),
)
  where
    bad_line : IsBitSet 0x200 9
    bad_line = λ is. let same : ◌≡◌ {A = ℕ} 0x200 0 = is in absurd (omega arith)

-- the store makes both: the machine check as one of its copy, and the failure as each access
pub check_made : IsMadeBy (acting_script failing failed) (copied_at failing failed) (page 0) (by 3 (entries.Mce (slot 1) 9 (record { 0 = 0x200 })))
check_made = inr (inl refl, refl)

pub failure_made : IsMadeBy (acting_script failing failed) (copied_at failing failed) (page 0) failure
failure_made = inl ((refl, inr refl), tt)

-- every answer has its cause: the store's is the failure, the load's its own entry
pub lost_caused : AreCaused (acting_script failing failed) failed (record { 0 = 0 }) 0
    (commands.Store (thread 0) (slot 0) 5 77 ∷ commands.Fork (thread 0) (process 1) ∷ commands.Bad (record { 0 = 0 }) 9 ∷ commands.Store (thread 1) (slot 3) 5 88 ∷ commands.Load (thread 0) (slot 0) 5 ∷ [])
    lost_rows
lost_caused = (
  refl,
  (no_lines, refl),
  unheeded,
  (
    refl,
    tt,
    unheeded,
    (
      refl,
      tt,
      unheeded,
      (
        refl,
        (
          refl,
          record { entry = failure; there = refl; own = refl; sends = (0, record { process = process 1; thread = thread 1; code = Ar; slot = slot 1 }, lit< tt, refl, (refl, refl)) },
          unheeded,
          (refl, record { entry = by 4 (entries.Load (slot 0) 5 (Sigbus (thread 0))); there = refl; own = refl; sends = refl }, unheeded, tt),
        ),
      ),
    ),
  ),
)

-- the child has no page of its own yet, so its next store would copy again
pub not_switched : acting_script failing failed ≡ record failing { lists = (commands.Store (thread 0) (slot 0) 5 77 ∷ commands.Fork (thread 0) (process 1) ∷ commands.Bad (record { 0 = 0 }) 9 ∷ commands.Store (thread 1) (slot 3) 5 88 ∷ commands.Load (thread 0) (slot 0) 5 ∷ []) ∷ [] }
not_switched = refl

pub copies_again : (cow_of shared (answered_before failing failed (command 4)) (slot 1)).switched ≡ false
copies_again = refl

-- ---- the command

abbrev fork : Command
fork = commands.Fork (thread 0) (process 1)

-- a fork is of its thread, makes no access, and can't fail
pub fork_has_thread : thread_of fork ≡ Some (thread 0)
fork_has_thread = refl

pub fork_makes_none : current_thread fork ≡ None
fork_makes_none = refl

pub fork_cannot_fail : can_fail fork ≡ false
fork_cannot_fail = refl

pub fork_cannot_offline : can_offline fork ≡ false
fork_cannot_offline = refl

-- ---- policies

abbrev early : Command
early = commands.Prctl (thread 0) (record { operation = 33; arg2 = 1; arg3 = 1; arg4 = 0; arg5 = 0 })

-- the child's thread begins with the policy that its parent's has at the fork, also the system default; a fork that wasn't done sets none
pub child_is_early : settings shared (thread 1) ((early, answers.Done) ∷ (fork, answers.Done) ∷ []) ≡ policies.Early ∷ []
child_is_early = refl

pub child_is_default : settings shared (thread 1) ((fork, answers.Done) ∷ (early, answers.Done) ∷ []) ≡ policies.Default ∷ []
child_is_default = refl

pub parent_is_early : settings shared (thread 0) ((early, answers.Done) ∷ (fork, answers.Done) ∷ []) ≡ policies.Early ∷ []
parent_is_early = refl

pub gone_sets_none : settings shared (thread 1) ((early, answers.Done) ∷ (fork, answers.Gone (page 0)) ∷ []) ≡ []
gone_sets_none = refl
