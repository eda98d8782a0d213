-- Where all processors have served their commands, the run has ended: nothing is held, the marks are noted, who stopped the
-- machine was answered so, and all rows can be told.
use Rattle.std.proofs.Common.{◌≡◌, ℕ, ◌+◌, ◌^◌, ◌<◌, ◌≤◌, Bool, true, false, cond, nat_le, List, [], Option, Some, None, get_or, length, slice_get, option_and_then, refl, sym, ap, ◌∙◌, subst, arith, true≢false}
use Rattle.std.specs.Prelude.{IfSome}
use Rattle.std.proofs.lemmas.Bool.{leb-false}
use Rattle.std.proofs.lemmas.List.Sums.{get_or-le-sum_by}
use Rattle.std.proofs.lemmas.Option.{get_or_from_slice_get, same_Some, slice_get_within}
use Rattle.hwp_table_words.specs.hwp_geom.declared.Cpu.{Cpu}
use Rattle.hwp_table_words.specs.hwp_geom.declared.Layout.{Layout}
use Rattle.hwp_table_words.specs.hwp_geom.declared.Thread.{Thread}
use Rattle.hwp_table_words.specs.hwp_geom.declared.VSlot.{VSlot}
use Rattle.hwp_table_words.specs.hwp_geom.declared.Who.{Who}
use Rattle.hwp_table_words.specs.hwp_geom.Pairs.{Pairs}
use Rattle.hwp_table_words.specs.hwp_geom.Limits.{command_limit, cpu_limit, frame_limit}
use Rattle.hwp_cpu_row.specs.hwp_severity.declared.Severity.{Severity}
use Rattle.hwp_cpu_row.specs.hwp_severity.declared.Severity.TheVariants as severities
use Rattle.hwp_table_words.specs.hwp_core_rule.declared.State.{State}
use Rattle.hwp_table_words.specs.hwp_core_rule.declared.View.{View}
use Rattle.hwp_table_words.specs.hwp_core_rule.Rule.{Holds}
use Rattle.hwp_table_words.specs.hwp_core_rule.Boards.{AreSeated, view_of}
use Rattle.hwp_cpu_row.specs.hwp_script_words.declared.Command.{Command}
use Rattle.hwp_cpu_row.specs.hwp_script_words.declared.Script.{Script}
use Rattle.hwp_cpu_row.specs.hwp_script_words.Valid.{IsValid}
use Rattle.hwp_cpu_row.specs.hwp_report_text.declared.Acted.{Acted}
use Rattle.hwp_cpu_row.specs.hwp_report_text.declared.Acted.TheVariants as acts
use Rattle.hwp_cpu_row.specs.hwp_report_text.Acts.{is_panic}
use Rattle.hwp_cpu_row.specs.hwp_banks.Banks.{empty_banks}
use Rattle.hwp_law_served.proofs.Homes.{there-is}
use Rattle.hwp_cpu_row.specs.hwp_claim.declared.Found.{Found}
use Rattle.hwp_cpu_row.specs.declared.Row.{Row}
use Rattle.hwp_cpu_row.specs.hwp_claim.declared.EventOutcome.{EventOutcome}
use Rattle.hwp_cpu_row.specs.hwp_claim.Fits.{IsDone, IsTold}
use Rattle.hwp_cpu_row.specs.hwp_claim.Told.{at_once, failure_at_once, frame_of, required_by, severity_at_once}
use Rattle.hwp_law_served.specs.Accounts.{IsNote}
use Rattle.hwp_law_served.specs.Rows.{Note, notes_from}
use Rattle.hwp_law_served.specs.Runs.{HaveServed, notes_of}
use Rattle.hwp_law_served.specs.Served.{HasServed, IsOwnStop, IsServed}
use Rattle.hwp_law_served.proofs.RunEnds.{nothing-held, row-at, seat-view}
use Rattle.hwp_law_served.proofs.lines.ScrubBank.{empty-free}
use Rattle.hwp_law_served.proofs.lines.FrameRecords.{AreNoted}
use Rattle.hwp_law_served.proofs.copied.Acted.{acted}
use Rattle.hwp_law_served.proofs.copied.CopyTells.{told-so}
use Rattle.hwp_law_served.proofs.copied.RunActed.{copies_by, served-alone}
use Rattle.hwp_top_report.proofs.marks.RowNotes.{notes-at, notes-fit}
use Rattle.hwp_top_report.specs.Closing.{IsEnded, IsHalter, IsNamed, IsTellable, lines_of_all}
use Rattle.hwp_top_report.proofs.Noted.{are-marks}

-- ---- the frames that rows name

-- what is done without a step, and doesn't tell a panic; or else the frame is one of the machine
module _ (layout : Layout) (small : layout.frames ≤ 2 ^ 16) where
  abbrev Tells : ℕ → Option Acted → Type 0
  Tells frame None = frame < 2 ^ 16
  Tells frame (Some acted) = is_panic acted ≡ true → frame < 2 ^ 16

  failure-names : (held_back : Bool) (frame : ℕ) → Tells frame (failure_at_once layout held_back frame)
  failure-names true frame = λ is. absurd (true≢false (sym is))
  failure-names false frame = which (nat_le layout.frames frame) refl layout.recovery
    where
      which : (b : Bool) → nat_le layout.frames frame ≡ b → (r : Bool) → Tells frame (cond b (Some acts.Outside) (cond r None (Some acts.Panic)))
      which true is r = λ panic. absurd (true≢false (sym panic))
      which false is true = let below = leb-false layout.frames frame is in omega (arith, below, small)
      which false is false = λ panic. let below = leb-false layout.frames frame is in omega (arith, below, small)

  severity-names : (held_back : Bool) (frame : ℕ) (severity : Severity) → Tells frame (severity_at_once layout held_back frame severity)
  severity-names held_back frame severities.Stop = λ is. absurd (true≢false (sym is))
  severity-names held_back frame severities.None = λ is. absurd (true≢false (sym is))
  severity-names held_back frame severities.Keep = λ is. absurd (true≢false (sym is))
  severity-names held_back frame severities.Deferred = λ is. absurd (true≢false (sym is))
  severity-names held_back frame severities.Logged = λ is. absurd (true≢false (sym is))
  severity-names held_back frame severities.Optional = failure-names held_back frame
  severity-names held_back frame severities.Required = failure-names held_back frame

  told-named : (view : View) (who : Who) (thread : Option Thread) (held_back : Bool) (t : EventOutcome) → IsTold layout view who thread held_back t → IsNamed t
  told-named view who thread held_back t told = which (at_once layout held_back t.held) (severity-names held_back (frame_of t.held).0 t.held.grade.severity) told
    where
      which : (o : Option Acted) → Tells (frame_of t.held).0 o → IsDone layout view who (required_by thread t.held.grade.severity) t o → IsNamed t
      which None names done = record { found = if-some t.found; panic = λ is. names }
        where
          if-some : (o : Option Found) → IfSome o (λ (f : Found). (frame_of t.held).0 < 2 ^ 16)
          if-some None = tt
          if-some (Some f) = names
      which (Some acted) names (acted_is, found_is) = record {
        found = subst (λ (o : Option Found). IfSome o (λ (f : Found). (frame_of t.held).0 < 2 ^ 16)) (sym found_is) tt;
        panic = λ is. names (sym (ap is_panic acted_is) ∙ is);
      }

-- ---- the processors

-- a processor's rows, which serve its commands
record Serves (script : Script) (view : View) (rows : List (List Row)) (cpu : Cpu) : Type 0 where
  list : List Command
  list_is : slice_get script.lists cpu.0 ≡ Some list
  own : List Row
  own_is : slice_get rows cpu.0 ≡ Some own
  served : HasServed script.layout view cpu list own

module _ (script : Script) (seat : Cpu → ℕ) (last : State) (rows : List (List Row)) (holds : Holds script.layout last) (seated : AreSeated script.layout last seat) (valid : IsValid script)
    (many : length rows ≡ script.layout.cpus) (served : HaveServed script seat last rows (lines_of_all rows)) where
  serves : (cpu : Cpu) → cpu.0 < script.layout.cpus → Serves script (view_of last (seat cpu)) rows cpu
  serves cpu inside =
      let list = there-is script.lists cpu.0 (subst (λ (n : ℕ). cpu.0 < n) (sym valid.one_each) inside) in
      let own = there-is rows cpu.0 (subst (λ (n : ℕ). cpu.0 < n) (sym many) inside) in
      record { list = list.0; list_is = list.1; own = own.0; own_is = own.1; served = (served cpu list.0 own.0 list.1 own.1).0 }

  -- what the processors noted is of their marks
  pub are-noted : AreNoted script.layout seat last (notes_of 0 rows)
  are-noted = record {
    fit = notes-fit 0 rows ∙ many;
    noted = λ c own there.
        let cpu : Cpu = record { 0 = c } in
        let by = notes-at 0 rows c own there in
        let inside : c < script.layout.cpus = subst (λ (n : ℕ). c < n) many (slice_get_within rows c by.0 by.1) in
        let list = there-is script.lists c (subst (λ (n : ℕ). c < n) (sym valid.one_each) inside) in
        let number : 0 + c ≡ c = omega arith in
        subst (λ (l : List Note). Pairs IsNote l (view_of last (seat cpu)).marks) (sym (by.2 ∙ ap (λ (n : ℕ). notes_from (record { 0 = n }) 0 by.0) number)) (served cpu list.0 by.0 list.1 by.1).0.acted.noted;
    marked = λ c inside j m there. ((serves (record { 0 = c }) inside).served.acted.marked j m there).0;
  }

  halter : (i j : ℕ) (v : View) (who : Who) → slice_get last.views i ≡ Some v → slice_get v.stops j ≡ Some who → IsHalter script.layout script.lists rows who
  halter i j v who view listed =
      let past = (holds.rule.processors.commands.own i v view).stops j who listed in
      let own = seat-view script.layout seat last holds seated i past.0 v past.1 view past.2 in
      let by = serves past.1.cpu own.0 in
      let stop : IsOwnStop script.layout past.1.cpu by.list by.own who = by.served.acted.stops j who (sym (ap (λ (x : View). slice_get x.stops j) own.1) ∙ listed) in
      record {
        stopper = record { own = by.own; of_cpu = ap (λ (c : Cpu). slice_get rows c.0) stop.cpu_is ∙ by.own_is; row = stop.row; first = stop.answered };
        command = stop.command;
        there = ap (λ (o : Option (List Command)). option_and_then (λ (list : List Command). slice_get list who.seq) o) (ap (λ (c : Cpu). slice_get script.lists c.0) stop.cpu_is ∙ by.list_is) ∙ stop.there;
        can = stop.can;
      }

  -- the rows of a processor
  tellable : (c : ℕ) (own : List Row) → slice_get rows c ≡ Some own → IsTellable own
  tellable c own there = record { few = few; named = λ k row at j t told. named k row at j t told }
    where
      cpu : Cpu
      cpu = record { 0 = c }

      inside : c < length script.lists
      inside = subst (λ (n : ℕ). c < n) (many ∙ sym valid.one_each) (slice_get_within rows c own there)

      list : (l : List Command) × (slice_get script.lists c ≡ Some l)
      list = there-is script.lists c inside

      -- of the commands that the processor acted on
      does : List Command
      does = acted script.layout list.0 own

      copies : Who → Option VSlot
      copies = copies_by script.layout list.0 own

      by : IsServed script.layout copies (view_of last (seat cpu)) cpu does own
      by = served-alone script.layout (view_of last (seat cpu)) cpu list.0 own (served cpu list.0 own list.1 there).0

      few : length own ≤ command_limit
      few =
          let most : length (get_or script.lists c list.0) ≤ command_limit = omega (arith, get_or-le-sum_by length script.lists c list.0 inside, valid.few) in
          let is : length (get_or script.lists c list.0) ≡ length list.0 = ap length (get_or_from_slice_get script.lists c list.0 list.0 list.1) in
          let count : length own ≡ length list.0 = (served cpu list.0 own list.1 there).0.acted.count in
          omega (arith, most, is, count)

      small : script.layout.frames ≤ 2 ^ 16
      small = let few : script.layout.frames ≤ frame_limit = holds.sound.frames in omega (arith, few)

      named : (k : ℕ) (row : Row) → slice_get own k ≡ Some row → (j : ℕ) (t : EventOutcome) → slice_get row.told j ≡ Some t → IsNamed t
      named k row at j t told =
          let within : k < length does = let less : k < length own = slice_get_within own k row at in let count : length own ≡ length does = by.count in omega (arith, less, count) in
          let command = there-is does k within in
          let has = row-at script.layout copies [] (view_of last (seat cpu)) cpu 0 empty_banks does own by.banks k k command.0 by.rows_are by.count command.1 (omega arith) empty-free in
          let same : has.row ≡ row = same_Some has.row row (sym has.row_is ∙ at) in
          let right = told-so script.layout (view_of last (seat cpu)) (record { cpu = cpu; seq = k }) (copies (record { cpu = cpu; seq = k })) command.0 has.row.answer has.before has.row.told has.after has.served.told j t (ap (λ (r : Row). slice_get r.told j) same ∙ told) in
          told-named script.layout small (view_of last (seat cpu)) (record { cpu = cpu; seq = k }) _ right.0 t right.1

  pub ended-of : IsEnded script.layout script.lists last.views rows
  ended-of = record {
    nothing = nothing-held script.layout seat last holds seated (λ cpu inside. (serves cpu inside).served.acted.nothing);
    marked = are-marks script.layout seat last holds seated (notes_of 0 rows) are-noted;
    stops = λ i v view j who listed. halter i j v who view listed;
    cpus = let most : script.layout.cpus ≤ cpu_limit = holds.sound.cpus in let all : length rows ≡ script.layout.cpus = many in omega (arith, most, all);
    tellable = tellable;
  }
