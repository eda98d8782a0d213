-- What the whole law says of small reports, and that today's parts follow from it.
use Rattle.std.proofs.Common.{◌≡◌, ℕ, suc, zero, ◌+◌, true, false, cond, List, [], ◌∷◌, Option, Some, None, slice_get, fold, refl, sym, ap, ◌∙◌, IsSomeAnd, add-zero, true≢false, option_map, unwrap_or, filter_map, find, ◌==◌, inl, inr, ◌⊎◌, subst, Bool}
use Rattle.std.proofs.lemmas.Bool.{cases_eq, eq-eqb, ne_eqb}
use Rattle.std.proofs.lemmas.Option.{none-some, same_Some}
use Rattle.hwp_script_words.specs.hwp_geom.declared.Frame.{Frame}
use Rattle.hwp_script_words.specs.hwp_geom.declared.Page.{Page}
use Rattle.hwp_script_words.specs.hwp_geom.declared.VSlot.{VSlot}
use Rattle.hwp_script_words.specs.hwp_geom.declared.Who.{Who}
use Rattle.hwp_report_text.specs.hwp_page.declared.Entry.{Entry}
use Rattle.hwp_report_text.specs.hwp_page.declared.What.{What}
use Rattle.hwp_report_text.specs.hwp_page.declared.What.TheVariants as entries
use Rattle.hwp_script_words.specs.declared.Command.{Command}
use Rattle.hwp_script_words.specs.declared.Command.TheVariants as commands
use Rattle.hwp_script_words.specs.declared.Script.{Script}
use Rattle.hwp_report_text.specs.declared.Answer.{Answer}
use Rattle.hwp_report_text.specs.declared.Answer.TheVariants as answers
use Rattle.hwp_report_text.specs.declared.CpuLine.{CpuLine}
use Rattle.hwp_report_text.specs.declared.CpuLine.TheVariants as lines
use Rattle.hwp_report_text.specs.declared.FrameLine.{FrameLine}
use Rattle.hwp_report_text.specs.declared.MarkLine.{MarkLine}
use Rattle.hwp_report_text.specs.declared.Report.{Report}
use Rattle.hwp_report_text.specs.declared.Stop.{Stop}
use Rattle.hwp_report_text.specs.declared.StopCause.{StopCause}
use Rattle.hwp_report_text.specs.declared.StopCause.TheVariants as causes
use Rattle.hwp_law.specs.Answers.{IsAnswer}
use Rattle.hwp_law.specs.Causes.{IsCaused}
use Rattle.hwp_law.specs.Commands.{command_at, has_watch, is_kernels}
use Rattle.hwp_law.specs.Copies.{MakesCopy}
use Rattle.hwp_law.specs.Entries.{IsMadeBy, Makes, CanStandIn}
use Rattle.hwp_law.specs.Halts.{CanStop, StopAgrees}
use Rattle.hwp_law.specs.History.{IsMade, Fits, Names}
use Rattle.hwp_law.specs.Law.{IsLawful}
use Rattle.hwp_law.specs.Lines.{AnswerLine, answer_among, answer_in, rows_of}
use Rattle.hwp_law.specs.Records.{ends_poisoned}
use Rattle.hwp_law.specs.Stops.{IsCause, StopFits}

-- frames without marks add nothing to the count
unmarked_count : (frames : List FrameLine) (n : ℕ) → ((i : ℕ) (l : FrameLine) → slice_get frames i ≡ Some l → l.marks ≡ []) → fold (λ (a : ℕ) (l : FrameLine). a + cond (ends_poisoned l.marks) 1 0) n frames ≡ n
unmarked_count [] n unmarked = refl
unmarked_count (l ∷ ls) n unmarked =
    let here : l.marks ≡ [] = unmarked zero l refl in
    let same : n + cond (ends_poisoned l.marks) 1 0 ≡ n = ap (λ (m : List MarkLine). n + cond (ends_poisoned m) 1 0) here ∙ add-zero n in
    ap (λ (k : ℕ). fold (λ (a : ℕ) (x : FrameLine). a + cond (ends_poisoned x.marks) 1 0) k ls) same ∙ unmarked_count ls n (λ i m is. unmarked (suc i) m is)

-- the count of a lawful report is 0 where no frame has a mark
pub unmarked-counts_none : (script : Script) (report : Report) → IsLawful script report → ((i : ℕ) (l : FrameLine) → slice_get report.frames i ≡ Some l → l.marks ≡ []) → report.count ≡ 0
unmarked-counts_none script report lawful unmarked = lawful.frames.count ∙ unmarked_count report.frames 0 unmarked

-- a soft offline of a kernel frame never answers `already`
pub kernel-refused_first : (script : Script) (report : Report) (who : Who) (frame : Frame) → is_kernels script.layout frame ≡ true → IsCaused script report who (commands.Soft frame) answers.Already → ⊥
kernel-refused_first script report who frame kernel caused = true≢false (sym kernel ∙ caused.0)

-- an inject answers nothing but `stopped` where the machine doesn't recover
pub unrecovered-stops : (script : Script) (report : Report) (who : Who) (frame : Frame) → script.layout.recovery ≡ false → IsCaused script report who (commands.Inject frame) answers.Recovered → ⊥
unrecovered-stops script report who frame panics caused = true≢false (sym caused.0 ∙ panics)

-- the cause of an answer is today's for the commands and answers of today
pub IsCaused-drop : (script : Script) (report : Report) (who : Who) (page : Page) (answer : Answer) → IsCaused script report who (commands.Drop page) answer → IsAnswer script report.pages report.stop who (commands.Drop page) answer
IsCaused-drop script report who page answers.Stopped caused = caused
IsCaused-drop script report who page answer caused = caused

pub IsCaused-free : (script : Script) (report : Report) (who : Who) (slot : VSlot) (answer : Answer) → IsCaused script report who (commands.Free slot) answer → IsAnswer script report.pages report.stop who (commands.Free slot) answer
IsCaused-free script report who slot answers.Stopped caused = caused
IsCaused-free script report who slot answer caused = caused

-- the entry is one that commands make where no memory fails
abbrev pub IsPlain : What → Type 0
IsPlain (entries.Mce slot line mask) = ⊥
IsPlain (entries.Fail situation required seen signals) = ⊥
IsPlain entries.Soft = ⊥
IsPlain what = Unit {0}

made_so : (script : Script) (page : Page) (command : Command) (what : What) → IsPlain what → Makes (has_watch script) command what × CanStandIn script.layout command page what → Fits command what × Names script.layout command page
made_so script page command (entries.Mce slot line mask) plain made = absurd plain
made_so script page command (entries.Fail situation required seen signals) plain made = absurd plain
made_so script page command entries.Soft plain made = absurd plain
made_so script page command what plain made = made

-- an entry that a command makes without a `watch` is one that it makes in any script
pub makes-watched : (watches : Bool) (command : Command) (what : What) → Makes false command what → Makes watches command what
makes-watched watches command (entries.Mce slot line mask) made = made
makes-watched watches command (entries.Fail situation required seen signals) made = made
makes-watched watches (commands.Soft frame) entries.Soft made = tt
makes-watched watches command entries.Soft made = absurd (true≢false (sym made.0))
makes-watched watches command what made = made

some_so : {A : Type 0} (o : Option A) (P Q : A → Type 0) → ((x : A) → P x → Q x) → IsSomeAnd o P → IsSomeAnd o Q
some_so None P Q so is = is
some_so (Some x) P Q so is = so x is

-- an entry that a command makes apart from a copy is one that it makes; and where the command copies nothing, it makes no other
abbrev pub IsOwn : Script → Page → Entry → Type 0
IsOwn script page e = IsSomeAnd (command_at script e.who) (λ (c : Command). Makes (has_watch script) c e.what × CanStandIn script.layout c page e.what)

abbrev IsOwnOrCopy : Script → (Who → Option VSlot) → Page → Entry → Command → Type 0
IsOwnOrCopy script copies page e c = (Makes (has_watch script) c e.what × CanStandIn script.layout c page e.what) ⊎ IsSomeAnd (copies e.who) (λ (from : VSlot). MakesCopy script.layout from c page e.what)

pub made-own : (script : Script) (copies : Who → Option VSlot) (page : Page) (e : Entry) → IsOwn script page e → IsMadeBy script copies page e
made-own script copies page e own =
    some_so (command_at script e.who) (λ (c : Command). Makes (has_watch script) c e.what × CanStandIn script.layout c page e.what) (IsOwnOrCopy script copies page e) (λ c is. inl is) own

pub own-made : (script : Script) (copies : Who → Option VSlot) (page : Page) (e : Entry) → copies e.who ≡ None → IsMadeBy script copies page e → IsOwn script page e
own-made script copies page e none made =
    some_so (command_at script e.who) (IsOwnOrCopy script copies page e) (λ (c : Command). Makes (has_watch script) c e.what × CanStandIn script.layout c page e.what) which made
  where
    which : (c : Command) → IsOwnOrCopy script copies page e c → Makes (has_watch script) c e.what × CanStandIn script.layout c page e.what
    which c (inl is) = is
    which c (inr copied) = absurd (subst (λ (o : Option VSlot). IsSomeAnd o (λ (from : VSlot). MakesCopy script.layout from c page e.what)) none copied)

-- an entry that its command makes is today's where no memory fails and the command copies nothing
pub IsMadeBy-plain : (script : Script) (copies : Who → Option VSlot) (page : Page) (e : Entry) → IsPlain e.what → copies e.who ≡ None → IsMadeBy script copies page e → IsMade script page e
IsMadeBy-plain script copies page e plain none made =
    some_so (command_at script e.who) (λ (c : Command). Makes (has_watch script) c e.what × CanStandIn script.layout c page e.what) (λ (c : Command). Fits c e.what × Names script.layout c page)
    (λ c is. made_so script page c e.what plain is) (own-made script copies page e none made)

-- the answer of a command stands in a line of its processor
pub answer_there : (rows : List CpuLine) (seq : ℕ) (answer : Answer) → answer_among rows seq ≡ Some answer → (i : ℕ) × (slice_get rows i ≡ Some (lines.Answer seq answer))
answer_there [] seq answer is = absurd (none-some answer is)
answer_there (lines.Event event ∷ rows) seq answer is = let later = answer_there rows seq answer is in (suc later.0, later.1)
answer_there (lines.Offlined line ∷ rows) seq answer is = let later = answer_there rows seq answer is in (suc later.0, later.1)
answer_there (lines.Guest line ∷ rows) seq answer is = let later = answer_there rows seq answer is in (suc later.0, later.1)
answer_there (lines.Answer n other ∷ rows) seq answer is =
    let by_test : Bool → Option Answer = λ test. option_map (λ (l : AnswerLine). l.answer)
    (cond test (Some (record { seq = n; answer = other })) (find (λ (l : AnswerLine). seq == l.seq) (filter_map answer_in rows))) in
    elim (cases_eq seq n) [
      | inl same ↦
          let there : other ≡ answer = same_Some other answer (ap by_test (sym (eq-eqb seq n same)) ∙ is) in
          (zero, ap (λ (k : ℕ). Some (lines.Answer k other)) (sym same) ∙ ap (λ (a : Answer). Some (lines.Answer seq a)) there)
      | inr differs ↦ let later = answer_there rows seq answer (ap by_test (sym (ne_eqb seq n differs)) ∙ is) in (suc later.0, later.1)
    ]

rows_there : (o : Option (List CpuLine)) (i : ℕ) (row : CpuLine) → slice_get (unwrap_or o []) i ≡ Some row → o ≡ Some (unwrap_or o [])
rows_there None i row is = absurd (none-some row is)
rows_there (Some rows) i row is = refl

-- a stop by a nested machine check is one of today's law
pub StopAgrees-shutdown : (script : Script) (report : Report) → ((stop : Stop) → report.stop ≡ Some stop → stop.cause ≡ causes.Shutdown) → StopAgrees script report → StopFits script report.cpus report.stop
StopAgrees-shutdown script report nested agrees = record {
  caused = λ stop is.
      let by = agrees.caused stop is in
      let shutdown : stop.cause ≡ causes.Shutdown = nested stop is in
      let line = answer_there (rows_of report stop.who) stop.who.seq answers.Stopped by.answered in
      record {
        cause = some_so (command_at script stop.who) (λ (c : Command). CanStop script report stop.who c stop.cause) (λ (c : Command). IsCause c stop.cause)
            (λ c can. subst (λ (cause : StopCause). IsCause c cause) (sym shutdown) (subst (λ (cause : StopCause). CanStop script report stop.who c cause) shutdown can)) by.cause;
        rows = rows_of report stop.who;
        row = line.0;
        of_cpu = rows_there (slice_get report.cpus stop.who.cpu.0) line.0 (lines.Answer stop.who.seq answers.Stopped) line.1;
        answered = line.1;
      };
  stays = agrees.stays;
}
