-- The frames that a row tells of are those that its notes make due, as the report's law counts them.
use Rattle.std.proofs.Common.{◌≡◌, ◌≢◌, ℕ, zero, suc, ◌+◌, Bool, true, false, ◌||◌, if◌then◌else◌, List, [], ◌∷◌, ◌++◌, Option, Some, None, filter_map, flat_map, map, slice_get, take, unwrap_or, refl, sym, ap, ◌∙◌, subst, arith, true≢false}
use Rattle.std.specs.Prelude.{nat_lt}
use Rattle.std.specs.List.{cons_option, list_any}
use Rattle.std.proofs.lemmas.Option.{none-some, same_Some}
use Rattle.hwp_law.specs.hwp_geom.declared.VSlot.{VSlot}
use Rattle.hwp_law.specs.hwp_geom.declared.Cpu.{Cpu}
use Rattle.hwp_law.specs.hwp_geom.declared.Frame.{Frame}
use Rattle.hwp_law.specs.hwp_geom.declared.Layout.{Layout}
use Rattle.hwp_law.specs.hwp_geom.declared.Who.{Who}
use Rattle.hwp_plain.specs.hwp_core_rule.declared.State.{State}
use Rattle.hwp_plain.specs.hwp_core_rule.declared.View.{View}
use Rattle.hwp_law.specs.hwp_script_words.declared.Command.{Command}
use Rattle.hwp_law.specs.hwp_script_words.declared.Command.TheVariants as commands
use Rattle.hwp_law.specs.hwp_script_words.declared.Script.{Script}
use Rattle.hwp_law.specs.hwp_report_text.declared.Answer.{Answer}
use Rattle.hwp_law.specs.hwp_report_text.declared.Answer.TheVariants as answers
use Rattle.hwp_law.specs.hwp_report_text.declared.CpuLine.{CpuLine}
use Rattle.hwp_law.specs.hwp_report_text.declared.EventLine.{EventLine}
use Rattle.hwp_law.specs.hwp_report_text.declared.OfflinedLine.{OfflinedLine}
use Rattle.hwp_law.specs.hwp_report_text.declared.Report.{Report}
use Rattle.hwp_law.specs.hwp_banks.Banks.{Banks}
use Rattle.hwp_law.specs.Commands.{can_offline, has_watch, is_watch}
use Rattle.hwp_law.specs.Notes.{checks, ends_machine, noted_frame, notes, notes_of_check, with_line}
use Rattle.hwp_law.specs.Watched.{Watched, due, watched_after}
use Rattle.hwp_law.specs.Lines.{events_of, offlined_of, rows_of}
use Rattle.hwp_law.specs.Offlined.{due_of, watched_before, watched_from}
use Rattle.hwp_cpu_row.specs.declared.Offlining.{Offlining}
use Rattle.hwp_cpu_row.specs.declared.Row.{Row}
use Rattle.hwp_cpu_row.specs.hwp_claim.declared.EventOutcome.{EventOutcome}
use Rattle.hwp_law_served.specs.Handles.{answers_by}
use Rattle.hwp_law_served.specs.Offlinings.{watched_along, watched_at}
use Rattle.hwp_law_served.specs.Rows.{lines_from, offlined_at}
use Rattle.hwp_law_served.specs.Told.{AreToldBy, AreToldWith}
use Rattle.hwp_cpu_row.specs.Acts.{event_at, told_notes}
use Rattle.hwp_law_served.proofs.RowLines.{answered-so, events-at, events-told, offlined-told}
use Rattle.hwp_law_served.proofs.RunEnds.{IsEnd, IsOf, served-of}

-- ---- the number of the command doesn't matter

abbrev of_number : ℕ → EventLine → EventLine
of_number n line = record line { seq = n }

with_numbered : (n : ℕ) (line : EventLine) (cs : List (List EventLine)) → with_line (of_number n line) (map (map (of_number n)) cs) ≡ map (map (of_number n)) (with_line line cs)
with_numbered n line [] = refl
with_numbered n line ([] ∷ rest) = refl
with_numbered n line ((next ∷ more) ∷ rest) = which (nat_lt line.bank next.bank)
  where
    which : (b : Bool) → (if b then (of_number n line ∷ of_number n next ∷ map (of_number n) more) ∷ map (map (of_number n)) rest else (of_number n line ∷ []) ∷ (of_number n next ∷ map (of_number n) more) ∷ map (map (of_number n)) rest)
        ≡ map (map (of_number n)) (if b then (line ∷ next ∷ more) ∷ rest else (line ∷ []) ∷ (next ∷ more) ∷ rest)
    which true = refl
    which false = refl

checks-numbered : (n : ℕ) (lines : List EventLine) → checks (map (of_number n) lines) ≡ map (map (of_number n)) (checks lines)
checks-numbered n [] = refl
checks-numbered n (line ∷ rest) = ap (with_line (of_number n line)) (checks-numbered n rest) ∙ with_numbered n line (checks rest)

ends-numbered : (n : ℕ) (lines : List EventLine) → list_any ends_machine (map (of_number n) lines) ≡ list_any ends_machine lines
ends-numbered n [] = refl
ends-numbered n (line ∷ rest) = ap (λ (b : Bool). ends_machine line || b) (ends-numbered n rest)

frames-numbered : (layout : Layout) (n : ℕ) (lines : List EventLine) → filter_map (noted_frame layout) (map (of_number n) lines) ≡ filter_map (noted_frame layout) lines
frames-numbered layout n [] = refl
frames-numbered layout n (line ∷ rest) = ap (cons_option (noted_frame layout line)) (frames-numbered layout n rest)

check-numbered : (layout : Layout) (n : ℕ) (lines : List EventLine) → notes_of_check layout (map (of_number n) lines) ≡ notes_of_check layout lines
check-numbered layout n lines =
    ap (λ (b : Bool). if b then [] else filter_map (noted_frame layout) (map (of_number n) lines)) (ends-numbered n lines)
    ∙ ap (λ (l : List Frame). if list_any ends_machine lines then [] else l) (frames-numbered layout n lines)

all-numbered : (layout : Layout) (n : ℕ) (cs : List (List EventLine)) → flat_map (notes_of_check layout) (map (map (of_number n)) cs) ≡ flat_map (notes_of_check layout) cs
all-numbered layout n [] = refl
all-numbered layout n (c ∷ cs) = ap (λ (l : List Frame). l ++ flat_map (notes_of_check layout) (map (map (of_number n)) cs)) (check-numbered layout n c) ∙ ap (λ (l : List Frame). notes_of_check layout c ++ l) (all-numbered layout n cs)

told-numbered : (n : ℕ) (told : List EventOutcome) → map (event_at n) told ≡ map (of_number n) (map (event_at 0) told)
told-numbered n [] = refl
told-numbered n (t ∷ ts) = ap (λ (l : List EventLine). event_at n t ∷ l) (told-numbered n ts)

pub notes-numbered : (layout : Layout) (n : ℕ) (told : List EventOutcome) → notes layout (map (event_at n) told) ≡ told_notes layout told
notes-numbered layout n told =
    ap (notes layout) (told-numbered n told)
    ∙ ap (flat_map (notes_of_check layout)) (checks-numbered n (map (event_at 0) told))
    ∙ all-numbered layout n (checks (map (event_at 0) told))

-- ---- the collector of a processor

-- along its rows: by the lines of all rows, and by the rows
along : (layout : Layout) (own : List Row) (k n : ℕ) (list : List Command) (rows : List Row) (before : Option Watched) → ((i : ℕ) (row : Row) → slice_get rows i ≡ Some row → slice_get own (n + i) ≡ Some row)
    → watched_from layout (lines_from 0 own) n (take k (answers_by list rows)) before ≡ watched_along layout list (take k rows) before
along layout own zero n [] rows before there = refl
along layout own zero n (c ∷ cs) rows before there = refl
along layout own (suc k) n [] rows before there = refl
along layout own (suc k) n (c ∷ cs) [] before there = refl
along layout own (suc k) n (c ∷ cs) (row ∷ rows) before there =
    let here : slice_get own n ≡ Some row = subst (λ (i : ℕ). slice_get own i ≡ Some row) (omega arith) (there 0 row refl) in
    let noted = ap (notes layout) (events-at 0 own n n row here (omega arith)) ∙ notes-numbered layout n row.told in
    ap (λ (frames : List Frame). watched_from layout (lines_from 0 own) (n + 1) (take k (answers_by cs rows)) (watched_after c row.answer frames before)) noted
    ∙ along layout own k (n + 1) cs rows (watched_after c row.answer (told_notes layout row.told) before)
    (λ i r at. subst (λ (j : ℕ). slice_get own j ≡ Some r) (omega arith) (there (suc i) r at))

-- a processor without a `watch` has none
after-none : (command : Command) (answer : Answer) (frames : List Frame) → is_watch command ≡ false → watched_after command answer frames None ≡ None
after-none (commands.Watch threshold window) answer frames other = absurd (true≢false other)
after-none (commands.Scrub first last) (answers.Scrubbed n) frames other = refl
after-none command answer frames other = refl

none-along : (layout : Layout) (list : List Command) (rows : List Row) → list_any is_watch list ≡ false → watched_along layout list rows None ≡ None
none-along layout [] rows none = refl
none-along layout (c ∷ cs) [] none = refl
none-along layout (c ∷ cs) (row ∷ rows) none = which (is_watch c) refl none (none-along layout cs rows)
  where
    which : (b : Bool) → is_watch c ≡ b → (b || list_any is_watch cs) ≡ false → (list_any is_watch cs ≡ false → watched_along layout cs rows None ≡ None) → watched_along layout (c ∷ cs) (row ∷ rows) None ≡ None
    which true is rest more = absurd (true≢false rest)
    which false is rest more = ap (watched_along layout cs rows) (after-none c row.answer (told_notes layout row.told) is) ∙ more rest

-- without notes no frame is due
none-due : (watched : Option Watched) → due watched [] ≡ []
none-due None = refl
none-due (Some w) = refl

-- only an access, a `raise` and a scrub tell of events
tells-can : (layout : Layout) (view : View) (who : Who) (command : Command) (answer : Answer) (before : Banks) (told : List EventOutcome) (after : Banks) → AreToldBy layout view who command answer before told after → told ≢ [] → can_offline command ≡ true
tells-can layout view who (commands.Load thread slot line) answer before told after is some = refl
tells-can layout view who (commands.Fetch thread slot line) answer before told after is some = refl
tells-can layout view who (commands.KLoad thread slot line) answer before told after is some = refl
tells-can layout view who (commands.Store thread slot line word) answer before told after is some = refl
tells-can layout view who (commands.RaiseUser thread ripv eipv) answer before told after is some = refl
tells-can layout view who (commands.RaiseKernel ripv eipv) answer before told after is some = refl
tells-can layout view who (commands.Scrub first last) answer before told after is some = refl
tells-can layout view who (commands.Log status addr misc) answer before told after is some = absurd (some is.0)
tells-can layout view who command answer before told after is some = absurd (some is.0)

-- nor does a store that copies tell of them without that
tells-with : (layout : Layout) (copied : Option VSlot) (view : View) (who : Who) (command : Command) (answer : Answer) (before : Banks) (told : List EventOutcome) (after : Banks) → AreToldWith layout copied view who command answer before told after → told ≢ [] → can_offline command ≡ true
tells-with layout None view who command answer before told after is some = tells-can layout view who command answer before told after is some
tells-with layout (Some from) view who (commands.Store thread to line word) answer before told after is some = refl
tells-with layout (Some from) view who command answer before told after is some = absurd is

any-there : {A : Type 0} (test : A → Bool) (l : List A) (i : ℕ) (x : A) → slice_get l i ≡ Some x → test x ≡ true → list_any test l ≡ true
any-there test [] i x there is = absurd (none-some x there)
any-there {A} test (y ∷ ys) zero x there is = ap (λ (b : Bool). b || list_any test ys) (ap test (same_Some y x there) ∙ is)
any-there {A} test (y ∷ ys) (suc i) x there is = which (test y) (any-there test ys i x there is)
  where
    which : (b : Bool) → list_any test ys ≡ true → (b || list_any test ys) ≡ true
    which true rest = refl
    which false rest = rest

module _ (script : Script) (copies : Who → Option VSlot) (seat : Cpu → ℕ) (last : State) (report : Report) (end : IsEnd script copies seat last report) (view : View) (who : Who) (of : IsOf script copies end.rows view who) where
  -- what the lines of a command note, by its row
  pub notes-told : notes script.layout (events_of report who) ≡ told_notes script.layout of.row.told
  notes-told = ap (notes script.layout) (events-told script copies seat last report end view who of) ∙ notes-numbered script.layout who.seq of.row.told

  -- the collector that its processor has before it
  pub watched-told : watched_before script report who ≡ watched_at script.layout of.list of.own who.seq
  watched-told =
      ap (λ (l : List (Command × Answer)). watched_from script.layout (rows_of report who) 0 (take who.seq l) None) (answered-so script copies seat last report end who.cpu of.list of.own of.list_is of.own_is)
      ∙ ap (λ (o : Option (List CpuLine)). watched_from script.layout (unwrap_or o []) 0 (take who.seq (answers_by of.list of.own)) None) (served-of script copies seat last report end who.cpu of.list of.own of.list_is of.own_is).1
      ∙ along script.layout of.own who.seq 0 of.list of.own None (λ i row there. subst (λ (j : ℕ). slice_get of.own j ≡ Some row) (omega arith) there)

  are-due : map (λ (o : Offlining). o.frame) of.row.offlined ≡ due (watched_at script.layout of.list of.own who.seq) (told_notes script.layout of.row.told)
  are-due = (served-of script copies seat last report end who.cpu of.list of.own of.list_is of.own_is).0.due who.seq of.row of.row_is

  -- the frames that are due by the report are those of the row
  pub due-told : due_of script report who ≡ map (λ (o : Offlining). o.frame) of.row.offlined
  due-told =
      ap (λ (w : Option Watched). due w (notes script.layout (events_of report who))) watched-told
      ∙ ap (due (watched_at script.layout of.list of.own who.seq)) notes-told
      ∙ sym are-due

  line-frames : (os : List Offlining) → map (λ (l : OfflinedLine). l.frame) (map (offlined_at who.seq) os) ≡ map (λ (o : Offlining). o.frame) os
  line-frames [] = refl
  line-frames (o ∷ os) = ap (λ (l : List Frame). o.frame ∷ l) (line-frames os)

  -- and so those of its lines
  pub frames-due : map (λ (l : OfflinedLine). l.frame) (offlined_of report who) ≡ due_of script report who
  frames-due = ap (map (λ (l : OfflinedLine). l.frame)) (offlined-told script copies seat last report end view who of) ∙ line-frames of.row.offlined ∙ sym due-told

  frameless : (os : List Offlining) → map (λ (o : Offlining). o.frame) os ≡ [] → os ≡ []
  frameless [] none = refl
  frameless (o ∷ os) none = absurd (none-some o.frame (sym (ap (λ (l : List Frame). slice_get l 0) none)))

  -- a command with such frames is one that can have them, and its script has a `watch`
  pub can-offline : of.row.offlined ≢ [] → (has_watch script ≡ true) × (can_offline of.command ≡ true)
  can-offline some = (
    any-there (list_any is_watch) script.lists who.cpu.0 of.list of.list_is (watched (list_any is_watch of.list) refl),
    tells-with script.layout (copies who) view who of.command of.row.answer of.before of.row.told of.after of.served.told
        (λ none. some (frameless of.row.offlined (are-due ∙ ap (λ (told : List EventOutcome). due (watched_at script.layout of.list of.own who.seq) (told_notes script.layout told)) none ∙ none-due (watched_at script.layout of.list of.own who.seq)))),
  )
    where
      watched : (b : Bool) → list_any is_watch of.list ≡ b → list_any is_watch of.list ≡ true
      watched true is = is
      watched false is = absurd (some (frameless of.row.offlined (are-due ∙ ap (λ (w : Option Watched). due w (told_notes script.layout of.row.told)) (none-along script.layout of.list (take who.seq of.own) is))))
