-- What a report says of a command that has an answer: the command that was acted on, why it was answered so, and that no other answer names
-- an entry that stored a word.
use Rattle.std.proofs.Common.{◌≡◌, ℕ, zero, suc, ◌+◌, ◌==◌, Bool, true, false, cond, List, [], ◌∷◌, Option, None, Some, length, option_and_then, option_map, slice_get, unwrap_or, refl, sym, ap, ◌∙◌, subst, true≢false, arith}
use Rattle.std.specs.Prelude.{All}
use Rattle.std.proofs.lemmas.Bool.{eq-eqb}
use Rattle.std.proofs.lemmas.Option.{get_or_from_slice_get, none-some, same_Some, slice_get_within}
use Rattle.hwp_law_served.specs.hwp_geom.declared.Mask.{Mask}
use Rattle.hwp_law_served.specs.hwp_geom.declared.Thread.{Thread}
use Rattle.hwp_law_served.specs.hwp_geom.declared.VSlot.{VSlot}
use Rattle.hwp_law_served.specs.hwp_geom.declared.Who.{Who}
use Rattle.hwp_law_served.specs.hwp_page.declared.At.{At}
use Rattle.hwp_law_served.specs.hwp_page.declared.Entry.{Entry}
use Rattle.hwp_law_served.specs.hwp_page.declared.Met.TheVariants.{Word}
use Rattle.hwp_law_served.specs.hwp_page.declared.What.{What}
use Rattle.hwp_law_served.specs.hwp_page.declared.What.TheVariants as entries
use Rattle.hwp_law_served.specs.hwp_report_text.Offlines.{offline_answer}
use Rattle.hwp_law_served.specs.hwp_report_text.declared.Answer.{Answer}
use Rattle.hwp_law_served.specs.hwp_report_text.declared.Answer.TheVariants as answers
use Rattle.hwp_law_served.specs.hwp_report_text.declared.CpuLine.{CpuLine}
use Rattle.hwp_law_served.specs.hwp_report_text.declared.CpuLine.TheVariants as lines
use Rattle.hwp_law_served.specs.hwp_report_text.declared.OfflineResult.{OfflineResult}
use Rattle.hwp_law_served.specs.hwp_report_text.declared.OfflineResult.TheVariants as results
use Rattle.hwp_law_served.specs.hwp_report_text.declared.OfflinedLine.{OfflinedLine}
use Rattle.hwp_law_served.specs.hwp_report_text.declared.Report.{Report}
use Rattle.hwp_law_served.specs.hwp_script_words.declared.Command.{Command}
use Rattle.hwp_law_served.specs.hwp_script_words.declared.Command.TheVariants as commands
use Rattle.hwp_law_served.specs.hwp_script_words.declared.Script.{Script}
use Rattle.hwp_law_served.specs.hwp_law.Commands.{command_at}
use Rattle.hwp_law_served.specs.hwp_law.Cows.{acting}
use Rattle.hwp_law_served.specs.hwp_law.Acting.{acting_script, copied_at}
use Rattle.hwp_law_served.specs.hwp_law.Answers.{IsNamed, named_in}
use Rattle.hwp_law_served.specs.hwp_law.Causes.{AreCaused, IsCaused, SendsSigbus}
use Rattle.hwp_law_served.specs.hwp_law.Copies.{must_be_named}
use Rattle.hwp_law_served.specs.hwp_law.Law.{AnswersFit}
use Rattle.hwp_law_served.specs.hwp_law.Lines.{answer_among, answer_of, answers_to, offlined_among, offlined_of, rows_of, seq_of}
use Rattle.hwp_law_served.specs.hwp_law.Offlined.{AreOfflined, IsOffline}
use Rattle.hwp_law_served.specs.hwp_law.Places.{entry_at}
use Rattle.hwp_law_served.specs.hwp_law.Policies.{answered_before, answered_on}
use Rattle.hwp_law_served.specs.hwp_law.States.{entry_named}
use Rattle.hwp_law_served.proofs.of_hwp_law.ActedLaws.{command-acted}
use Rattle.hwp_law_served.proofs.of_hwp_law.AnswersInOrder.{answer-from, answers_in}
use Rattle.hwp_top_report.proofs.forks.AnswerLines.{caused-given, found-line, line-given, zip-get, zip-parts}
use Rattle.hwp_top_report.proofs.forks.Shares.{some-and}

-- ---- lists that may not be there

pub list-there : {X : Type 0} (o : Option (List X)) (i : ℕ) (x : X) → slice_get (unwrap_or o []) i ≡ Some x → (list : List X) × (o ≡ Some list) × (slice_get list i ≡ Some x)
list-there None i x there = absurd (none-some x there)
list-there (Some list) i x there = (list, refl, there)

pub all-at : {X : Type 0} (P : X → Type 0) (xs : List X) (i : ℕ) (x : X) → All P xs → slice_get xs i ≡ Some x → P x
all-at P xs i x all there = subst P (get_or_from_slice_get xs i x x there) (all i x (slice_get_within xs i x there))

pub then-there : {X Y : Type 0} (f : X → Option Y) (o : Option X) (y : Y) → option_and_then f o ≡ Some y → (x : X) × (o ≡ Some x) × (f x ≡ Some y)
then-there f None y is = absurd (none-some y is)
then-there f (Some x) y is = (x, refl, is)

-- ---- lines of frames taken out of use

abbrev is_storing : What → Bool
is_storing (entries.Store slot line met) = true
is_storing what = false

offlined-there : (rows : List CpuLine) (seq i : ℕ) (l : OfflinedLine) → slice_get rows i ≡ Some (lines.Offlined l) → l.seq ≡ seq → (j : ℕ) × (slice_get (offlined_among rows seq) j ≡ Some l)
offlined-there [] seq i l there is = absurd (none-some (lines.Offlined l) there)
offlined-there (row ∷ rest) seq zero l there is =
    let same : row ≡ lines.Offlined l = same_Some row (lines.Offlined l) there in
    (0, ap (λ (r : CpuLine). slice_get (offlined_among (r ∷ rest) seq) 0) same ∙ ap (λ (b : Bool). slice_get (cond b (l ∷ offlined_among rest seq) (offlined_among rest seq)) 0) (eq-eqb seq l.seq (sym is)))
offlined-there (lines.Event event ∷ rest) seq (suc i) l there is = offlined-there rest seq i l there is
offlined-there (lines.Guest line ∷ rest) seq (suc i) l there is = offlined-there rest seq i l there is
offlined-there (lines.Answer n answer ∷ rest) seq (suc i) l there is = offlined-there rest seq i l there is
offlined-there (lines.Offlined other ∷ rest) seq (suc i) l there is = which (seq == other.seq) refl (offlined-there rest seq i l there is)
  where
    which : (b : Bool) → (seq == other.seq) ≡ b → (j : ℕ) × (slice_get (offlined_among rest seq) j ≡ Some l) → (j : ℕ) × (slice_get (offlined_among (lines.Offlined other ∷ rest) seq) j ≡ Some l)
    which true e g = (suc g.0, ap (λ (b : Bool). slice_get (cond b (other ∷ offlined_among rest seq) (offlined_among rest seq)) (suc g.0)) e ∙ g.1)
    which false e g = (g.0, ap (λ (b : Bool). slice_get (cond b (other ∷ offlined_among rest seq) (offlined_among rest seq)) g.0) e ∙ g.1)

-- the result of taking a frame out of use names a `soft` entry
result-soft : (script : Script) (report : Report) (who : Who) (l : OfflinedLine) (result : OfflineResult) (at : At) → IsOffline script report who l.frame result → entry_named (offline_answer result) ≡ Some at → (e : Entry) × (entry_at report.pages at ≡ Some e) × (e.what ≡ entries.Soft)
result-soft script report who l (results.Moved frame place) at offline named =
    (record { who = who; what = entries.Soft }, subst (λ (a : At). entry_at report.pages a ≡ Some (record { who = who; what = entries.Soft })) (same_Some place at named) offline.0, refl)
result-soft script report who l results.Stopped at offline named = absurd (none-some at named)
result-soft script report who l results.TakenFree at offline named = absurd (none-some at named)
result-soft script report who l results.Already at offline named = absurd (none-some at named)
result-soft script report who l (results.HasBad mask) at offline named = absurd (none-some at named)
result-soft script report who l results.NoFrame at offline named = absurd (none-some at named)

-- ---- an answer

abbrev pub is_stopped : Answer → Bool
is_stopped answers.Stopped = true
is_stopped answer = false

-- what is known of a command with its answer
pub record IsAnswered (script : Script) (report : Report) (who : Who) (command : Command) (answer : Answer) : Type 0 where
  pub command_is : command_at script who ≡ Some command
  pub found : answer_of report who ≡ Some answer
  pub caused : IsCaused (acting_script script report) report who (acting script.layout (answered_before script report who) command) answer

module _ (script : Script) (report : Report) (fit : AnswersFit (acting_script script report) (copied_at script report) report) where
  -- the lists of a command that is there
  abbrev acted : Who → Command → Command
  acted who command = acting script.layout (answered_before script report who) command

  acted-there : (who : Who) (command : Command) → command_at script who ≡ Some command → command_at (acting_script script report) who ≡ Some (acted who command)
  acted-there who command is = command-acted script report who ∙ ap (option_map (acted who)) is

  record HasLists (who : Who) (command : Command) (rows : List CpuLine) : Type 0 where
    list : List Command
    list_is : slice_get list who.seq ≡ Some (acted who command)
    caused : AreCaused (acting_script script report) report who.cpu 0 list rows

  lists : (who : Who) (command : Command) (rows : List CpuLine) → command_at script who ≡ Some command → slice_get report.cpus who.cpu.0 ≡ Some rows → HasLists who command rows
  lists who command rows is there =
      let l = then-there (λ (list : List Command). slice_get list who.seq) (slice_get (acting_script script report).lists who.cpu.0) (acted who command) (acted-there who command is) in
      record { list = l.0; list_is = l.2; caused = fit.caused who.cpu l.0 rows l.1 there }

  -- a command that is there, with an answer line of it
  line-known : (who : Who) (command : Command) (rows : List CpuLine) (j : ℕ) (answer : Answer) → command_at script who ≡ Some command → slice_get report.cpus who.cpu.0 ≡ Some rows → slice_get rows j ≡ Some (lines.Answer who.seq answer)
      → IsAnswered script report who command answer
  line-known who command rows j answer is some line =
      let l = lists who command rows is some in
      let given : (i : ℕ) × (who.seq ≡ 0 + i) × (slice_get (answers_in rows) i ≡ Some answer) = line-given (acting_script script report) report who.cpu 0 l.list rows l.caused j who.seq answer line in
      let at : given.0 ≡ who.seq = omega (arith, given.1) in
      let g = caused-given (acting_script script report) report who.cpu 0 l.list rows l.caused who.seq answer (subst (λ (k : ℕ). slice_get (answers_in rows) k ≡ Some answer) at given.2) in
      let same : 0 + who.seq ≡ who.seq = omega arith in
      let own : g.command ≡ acted who command = same_Some g.command (acted who command) (sym (g.command_is) ∙ l.list_is) in
      record {
        command_is = is;
        found = ap (λ (o : Option (List CpuLine)). answer_among (unwrap_or o []) who.seq) some ∙ subst (λ (k : ℕ). answer_among rows k ≡ Some answer) same g.found;
        caused = subst (λ (k : ℕ). IsCaused (acting_script script report) report (record { cpu = who.cpu; seq = k }) (acted who command) answer) same
            (subst (λ (c : Command). IsCaused (acting_script script report) report (record { cpu = who.cpu; seq = 0 + who.seq }) c answer) own g.caused);
      }

  -- and with the answer that the report has of it
  found-known : (who : Who) (command : Command) (answer : Answer) → command_at script who ≡ Some command → answer_of report who ≡ Some answer → IsAnswered script report who command answer
  found-known who command answer is found = some-rows (slice_get report.cpus who.cpu.0) refl found
    where
      some-rows : (o : Option (List CpuLine)) → slice_get report.cpus who.cpu.0 ≡ o → answer_among (unwrap_or o []) who.seq ≡ Some answer → IsAnswered script report who command answer
      some-rows None none here = absurd (none-some answer here)
      some-rows (Some rows) some here = let l = found-line who.seq answer rows here in line-known who command rows l.0 answer is some l.1

  abbrev list-of : Who → List Command
  list-of who = unwrap_or (slice_get script.lists who.cpu.0) []

  -- the answer that the report pairs with a command
  given-at : (who : Who) (command : Command) → slice_get (list-of who) who.seq ≡ Some command → slice_get (answers_to (list-of who) (rows_of report who)) who.seq ≡ Some (unwrap_or (answer_of report who) answers.Stopped)
  given-at who command there =
      let same : 0 + who.seq ≡ who.seq = omega arith in
      answer-from (answer_among (rows_of report who)) 0 (length (list-of who)) who.seq (slice_get_within (list-of who) who.seq command there)
      ∙ ap (λ (k : ℕ). Some (unwrap_or (answer_among (rows_of report who) k) answers.Stopped)) same

  -- a command with its answer, as the report pairs them: but for `stopped`, the report has that answer of it
  pub answered-at : (who : Who) (p : Command × Answer) → slice_get (answered_on script report who.cpu) who.seq ≡ Some p → is_stopped p.1 ≡ false → IsAnswered script report who p.0 p.1
  answered-at who p there other =
      let parts = zip-parts (list-of who) (answers_to (list-of who) (rows_of report who)) who.seq p there in
      let mine = list-there (slice_get script.lists who.cpu.0) who.seq p.0 parts.0 in
      found-known who p.0 p.1 (ap (option_and_then (λ (list : List Command). slice_get list who.seq)) mine.1 ∙ mine.2)
      (told (answer_of report who) p.1 (same_Some (unwrap_or (answer_of report who) answers.Stopped) p.1 (sym (given-at who p.0 parts.0) ∙ parts.1)) other)
    where
      told : (o : Option Answer) (answer : Answer) → unwrap_or o answers.Stopped ≡ answer → is_stopped answer ≡ false → o ≡ Some answer
      told None answer same other = absurd (true≢false (ap is_stopped same ∙ other))
      told (Some x) answer same other = ap Some same

  -- the answer of a command that is there is the one that the report pairs it with
  pub found-pairs : (who : Who) (command : Command) (answer : Answer) → command_at script who ≡ Some command → answer_of report who ≡ Some answer → slice_get (answered_on script report who.cpu) who.seq ≡ Some (command, answer)
  found-pairs who command answer is found =
      let mine = then-there (λ (list : List Command). slice_get list who.seq) (slice_get script.lists who.cpu.0) command is in
      let here : slice_get (list-of who) who.seq ≡ Some command = ap (λ (o : Option (List Command)). slice_get (unwrap_or o []) who.seq) mine.1 ∙ mine.2 in
      zip-get (list-of who) (answers_to (list-of who) (rows_of report who)) who.seq command answer here (given-at who command here ∙ ap (λ (o : Option Answer). Some (unwrap_or o answers.Stopped)) found)

  -- ---- the answer that names an entry which stored a word

  by-answer : (at : At) (e : Entry) (through : VSlot) (line word : ℕ) (mask : Mask) (thread : Thread) (slot : VSlot) (own x : ℕ) → entry_at report.pages at ≡ Some e → e.what ≡ entries.Store through line (Word mask word) → (answer : Answer)
      → IsCaused (acting_script script report) report e.who (acted e.who (commands.Store thread slot own x)) answer → entry_named answer ≡ Some at → answer ≡ answers.Stored at
  by-answer at e through line word mask thread slot own x there is (answers.Stored place) caused named = ap (λ (a : At). answers.Stored a) (same_Some place at named)
  by-answer at e through line word mask thread slot own x there is (answers.Value read place) caused named = absurd caused
  by-answer at e through line word mask thread slot own x there is (answers.DoneAt place) caused named = absurd caused
  by-answer at e through line word mask thread slot own x there is (answers.Moved frame place) caused named = absurd caused
  by-answer at e through line word mask thread slot own x there is (answers.Sigbus place) caused named =
      let same : caused.entry ≡ e = same_Some caused.entry e (sym caused.there ∙ ap (entry_at report.pages) (same_Some place at named) ∙ there) in
      absurd (subst (SendsSigbus thread) (ap (λ (y : Entry). y.what) same ∙ is) caused.sends)
  by-answer at e through line word mask thread slot own x there is answer caused named = absurd (none-some at named)

  by-line : (at : At) (e : Entry) (through : VSlot) (line word : ℕ) (mask : Mask) (thread : Thread) (slot : VSlot) (own x : ℕ) → entry_at report.pages at ≡ Some e → e.what ≡ entries.Store through line (Word mask word)
      → command_at script e.who ≡ Some (commands.Store thread slot own x) → (rows : List CpuLine) → slice_get report.cpus e.who.cpu.0 ≡ Some rows → (i : ℕ) (row : CpuLine) → slice_get rows i ≡ Some row → seq_of row ≡ e.who.seq → named_in row ≡ Some at
      → slice_get (answered_on script report e.who.cpu) e.who.seq ≡ Some (commands.Store thread slot own x, answers.Stored at)
  by-line at e through line word mask thread slot own x there is command rows some i (lines.Event event) row seq named = absurd (none-some at named)
  by-line at e through line word mask thread slot own x there is command rows some i (lines.Guest guest) row seq named = absurd (none-some at named)
  by-line at e through line word mask thread slot own x there is command rows some i (lines.Offlined l) row seq named =
      let member = offlined-there rows e.who.seq i l row seq in
      let offlined : AreOfflined (acting_script script report) report e.who = fit.offlined e.who (acted e.who (commands.Store thread slot own x)) (acted-there e.who (commands.Store thread slot own x) command) in
      let here : slice_get (offlined_of report e.who) member.0 ≡ Some l = ap (λ (o : Option (List CpuLine)). slice_get (offlined_among (unwrap_or o []) e.who.seq) member.0) some ∙ member.1 in
      let offline : IsOffline (acting_script script report) report e.who l.frame l.result =
      all-at (λ (o : OfflinedLine). IsOffline (acting_script script report) report e.who o.frame o.result) (offlined_of report e.who) member.0 l offlined.caused here in
      let soft = result-soft (acting_script script report) report e.who l l.result at offline named in
      let same : entries.Soft ≡ entries.Store through line (Word mask word) = sym soft.2 ∙ ap (λ (y : Entry). y.what) (same_Some soft.0 e (sym soft.1 ∙ there)) ∙ is in
      absurd (true≢false (sym (ap is_storing same)))
  by-line at e through line word mask thread slot own x there is command rows some i (lines.Answer number answer) row seq named =
      let known = line-known e.who (commands.Store thread slot own x) rows i answer command some (row ∙ ap (λ (n : ℕ). Some (lines.Answer n answer)) seq) in
      found-pairs e.who (commands.Store thread slot own x) answer command known.found ∙ ap (λ (a : Answer). Some (commands.Store thread slot own x, a)) (by-answer at e through line word mask thread slot own x there is answer known.caused named)

  pub named-stored : (at : At) (e : Entry) (through : VSlot) (line word : ℕ) (mask : Mask) (thread : Thread) (slot : VSlot) (own x : ℕ) → entry_at report.pages at ≡ Some e → e.what ≡ entries.Store through line (Word mask word)
      → command_at script e.who ≡ Some (commands.Store thread slot own x) → copied_at script report e.who ≡ None
      → slice_get (answered_on script report e.who.cpu) e.who.seq ≡ Some (commands.Store thread slot own x, answers.Stored at)
  named-stored at e through line word mask thread slot own x there is command copies =
      let must : must_be_named (copied_at script report e.who) e.what ≡ true = ap (λ (o : Option VSlot). must_be_named o e.what) copies ∙ ap (must_be_named None) is in
      let named : IsNamed report.cpus at e = fit.named at e there must in
      let rows = some-and (slice_get report.cpus e.who.cpu.0) (λ (r : List CpuLine). slice_get r named.1 ≡ Some named.0) named.2 in
      by-line at e through line word mask thread slot own x there is command rows.0 rows.1 named.1 named.0 rows.2 named.3 named.4
