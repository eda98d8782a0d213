-- The event lines of a machine check are those of what was told of it.
use Rattle.std.proofs.Common.{◌≡◌, ◌⊎◌, ℕ, suc, ◌||◌, ◌<◌, Bool, true, false, cond, not, nat_le, List, [], ◌∷◌, ◌++◌, Option, None, Some, MatchBool, drop, length, map, replicate, slice_get, refl, sym, ap, subst, inl, inr}
use Rattle.std.proofs.lemmas.List.{map-append}
use Rattle.std.proofs.lemmas.Option.{none-some, same_Some}
use Rattle.hwp_law_served.specs.hwp_geom.declared.VSlot.{VSlot}
use Rattle.hwp_law_served.specs.hwp_geom.declared.Cpu.{Cpu}
use Rattle.hwp_law_served.specs.hwp_geom.declared.Frame.{Frame}
use Rattle.hwp_law_served.specs.hwp_geom.declared.Mode.{Mode}
use Rattle.hwp_law_served.specs.hwp_geom.declared.Thread.{Thread}
use Rattle.hwp_law_served.specs.hwp_geom.declared.Who.{Who}
use Rattle.hwp_law_served.specs.hwp_banks.declared.Event.{Event}
use Rattle.hwp_law_served.specs.hwp_banks.declared.Origin.{Origin}
use Rattle.hwp_law_served.specs.hwp_banks.Addresses.{frame_at}
use Rattle.hwp_law_served.specs.hwp_severity.declared.Severity.{Severity}
use Rattle.hwp_law_served.specs.hwp_severity.declared.Severity.TheVariants as severities
use Rattle.hwp_law_served.specs.hwp_core_rule.declared.State.{State}
use Rattle.hwp_law_served.specs.hwp_core_rule.declared.View.{View}
use Rattle.hwp_law_served.specs.hwp_core_rule.Lists.{EachMember}
use Rattle.hwp_law_served.proofs.of_hwp_core_rule.Lists.{at_longer}
use Rattle.hwp_law_served.specs.hwp_core_rule.Boards.{view_of}
use Rattle.hwp_law_served.specs.hwp_script_words.declared.Script.{Script}
use Rattle.hwp_law_served.specs.hwp_report_text.declared.Acted.TheVariants as acts
use Rattle.hwp_law_served.specs.hwp_report_text.declared.Report.{Report}
use Rattle.hwp_law_served.specs.hwp_law.Checks.{AreLinesOf, IsAct, IsCheck, IsLineOf, IsResult}
use Rattle.hwp_law_served.specs.hwp_report_text.Acts.{is_panic}
use Rattle.hwp_law_served.specs.hwp_banks.Banks.{Banks, empty_banks, held_from}
use Rattle.hwp_law_served.specs.hwp_severity.Handling.{has_stop}
use Rattle.hwp_law_served.specs.hwp_severity.declared.Arrival.{Arrival}
use Rattle.hwp_law_served.specs.hwp_law.Events.{AreAccessChecks, IsDamaged}
use Rattle.hwp_law_served.specs.hwp_law.Lines.{marks_of}
use Rattle.hwp_law_served.specs.hwp_law.Records.{WasPoisoned}
use Rattle.hwp_law_served.specs.hwp_claim.declared.Found.{Found}
use Rattle.hwp_law_served.specs.hwp_claim.declared.Held.{Held}
use Rattle.hwp_law_served.specs.hwp_claim.declared.EventOutcome.{EventOutcome}
use Rattle.hwp_law_served.specs.hwp_claim.Checks.{AreChecks, Check, IsActedOn, SawBad, left_by, lines_of, restarting}
use Rattle.hwp_law_served.specs.hwp_claim.Events.{graded_in}
use Rattle.hwp_law_served.specs.hwp_claim.Fits.{AreTold, IsDone, IsFailed, IsTold}
use Rattle.hwp_law_served.specs.hwp_claim.Told.{frame_of, required_by, severity_at_once}
use Rattle.hwp_law_served.specs.hwp_cpu_row.Acts.{event_at}
use Rattle.hwp_law_served.proofs.RunEnds.{IsEnd}
use Rattle.hwp_law_served.proofs.RowLines.{behind}
use Rattle.hwp_top_report.proofs.marks.RecordPlaces.{was-poisoned}

-- ---- lists

pub each-first : {A : Type 0} (P : A → Type 0) (xs ys : List A) → EachMember P (xs ++ ys) → EachMember P xs
each-first P xs ys each i x there = each i x (at_longer xs ys i x there)

pub each-second : {A : Type 0} (P : A → Type 0) (xs ys : List A) → EachMember P (xs ++ ys) → EachMember P ys
each-second P xs ys each i y there = let k = behind xs ys i y there in each k.0 y k.1

-- the second of two machine checks finds the banks empty, and so does each that follows
left-empty : (checks : List Check) → left_by empty_banks checks ≡ empty_banks
left-empty [] = refl
left-empty (c ∷ cs) = refl

module _ (script : Script) (copies : Who → Option VSlot) (seat : Cpu → ℕ) (last : State) (report : Report) (end : IsEnd script copies seat last report) (who : Who) (inside : who.cpu.0 < script.layout.cpus) where
  abbrev view : View
  view = view_of last (seat who.cpu)

  -- the result of an event's failure is that of a mark of the command
  abbrev pub HasResult : EventOutcome → Type 0
  HasResult t = (found : Found) → t.found ≡ Some found → IsResult (marks_of report (frame_at t.held.event.addr)) who t.acted

  -- ---- what was done about an event

  module _ (thread : Option Thread) (t : EventOutcome) (result : HasResult t) where
    abbrev required : Option Thread
    required = required_by thread t.held.grade.severity

    abbrev frame : ℕ
    frame = frame_at t.held.event.addr

    failed-so : (o : Option Found) → t.found ≡ o → IsFailed script.layout view who (frame_of t.held) required t.acted o → ((t.acted ≡ acts.Already) × WasPoisoned (marks_of report frame) who true) ⊎ IsResult (marks_of report frame) who t.acted
    failed-so None none failed = inl (failed.0, was-poisoned script copies seat last report end who.cpu inside who (frame_of t.held) failed.1.word true failed.1.poisoned failed.1.saw)
    failed-so (Some found) some failed = inr (result found some)

    failure-so : (x y z : Bool) → IsDone script.layout view who required t (cond x (Some acts.Held) (cond y (Some acts.Outside) (cond z None (Some acts.Panic))))
        → MatchBool x (t.acted ≡ acts.Held) (MatchBool y (t.acted ≡ acts.Outside) (MatchBool (not z) (t.acted ≡ acts.Panic) (((t.acted ≡ acts.Already) × WasPoisoned (marks_of report frame) who true) ⊎ IsResult (marks_of report frame) who t.acted)))
    failure-so true y z done = done.0
    failure-so false true z done = done.0
    failure-so false false false done = done.0
    failure-so false false true done = failed-so t.found refl done

    act-so : (held_back : Bool) (severity : Severity) → IsDone script.layout view who required t (severity_at_once script.layout held_back frame severity) → IsAct script report who held_back frame severity t.acted
    act-so held_back severities.Stop done = done.0
    act-so held_back severities.None done = done.0
    act-so held_back severities.Keep done = done.0
    act-so held_back severities.Deferred done = done.0
    act-so held_back severities.Logged done = done.0
    act-so held_back severities.Optional done = failure-so held_back (nat_le script.layout.frames frame) script.layout.recovery done
    act-so held_back severities.Required done = failure-so held_back (nat_le script.layout.frames frame) script.layout.recovery done

    line-so : (how : Arrival) (b : ℕ × Event) (held_back : Bool) → t.held ≡ graded_in how b → IsTold script.layout view who thread held_back t → IsLineOf script report who how held_back b.0 b.1 (event_at who.seq t)
    line-so how b held_back is told = record {
      bank_is = ap (λ (h : Held). h.bank) is;
      status = ap (λ (h : Held). h.event.status.0) is;
      addr = ap (λ (h : Held). h.event.addr) is;
      misc = ap (λ (h : Held). h.event.misc) is;
      row = ap (λ (h : Held). h.grade.row) is;
      act = subst (λ (h : Held). IsAct script report who held_back (frame_at h.event.addr) h.grade.severity t.acted) is (act-so held_back t.held.grade.severity told);
    }

  -- ---- a machine check

  pub lines-so : (thread : Option Thread) (how : Arrival) (held_back : Bool) (bs : List (ℕ × Event)) (told : List EventOutcome) → map (λ (t : EventOutcome). t.held) told ≡ map (graded_in how) bs → AreTold script.layout view who thread held_back told → EachMember HasResult told
      → AreLinesOf script report who how held_back bs (map (event_at who.seq) told)
  lines-so thread how held_back [] [] same are results = tt
  lines-so thread how held_back [] (t ∷ ts) same are results = absurd (none-some t.held (ap (λ (l : List Held). slice_get l 0) (sym same)))
  lines-so thread how held_back (b ∷ bs) [] same are results = absurd (none-some (graded_in how b) (ap (λ (l : List Held). slice_get l 0) same))
  lines-so thread how held_back (b ∷ bs) (t ∷ ts) same are results = (
    line-so thread t (results 0 t refl) how b held_back (same_Some t.held (graded_in how b) (ap (λ (l : List Held). slice_get l 0) same)) are.0,
    lines-so thread how (held_back || is_panic t.acted) bs ts (ap (λ (l : List Held). drop 1 l) same) are.1 (λ i x there. results (suc i) x there),
  )

  pub check-so : (thread : Option Thread) (how : Arrival) (banks : Banks) (told : List EventOutcome) → IsActedOn script.layout view who thread how banks told → EachMember HasResult told → IsCheck script report who how banks (map (event_at who.seq) told)
  check-so thread how banks told acted results = lines-so thread how (has_stop how banks) (held_from 0 banks) told acted.events acted.told results

  -- the machine checks of an access, one after another
  pub checks-so : (thread : Thread) (line : ℕ) (origin : Origin) (mode : Mode) → ((frame : Frame) → SawBad script.layout view who line frame → IsDamaged report origin frame.0 line) → (banks : Banks) (checks : List Check)
      → AreChecks script.layout view who thread line origin mode banks checks → EachMember HasResult (lines_of checks) → AreAccessChecks script report who (restarting mode) origin (replicate (length checks) line) banks (map (event_at who.seq) (lines_of checks)) (left_by banks checks)
  checks-so thread line origin mode damaged banks [] are results = (refl, refl)
  checks-so thread line origin mode damaged banks (c ∷ cs) are results = (
    c.frame,
    map (event_at who.seq) c.lines,
    map (event_at who.seq) (lines_of cs),
    map-append (event_at who.seq) c.lines (lines_of cs),
    damaged c.frame are.0.bad,
    check-so (Some thread) (restarting mode) _ c.lines are.0.acted_on (each-first HasResult c.lines (lines_of cs) results),
    subst (AreAccessChecks script report who (restarting mode) origin (replicate (length cs) line) empty_banks (map (event_at who.seq) (lines_of cs))) (left-empty cs)
        (checks-so thread line origin mode damaged empty_banks cs are.1 (each-second HasResult c.lines (lines_of cs) results)),
  )
