-- The event lines of a processor are those that the law asks exactly where those of each command are right and none lacks.
use Rattle.std.proofs.Common.{◌≡◌, ◌↔◌, ℕ, zero, suc, ◌+◌, List, [], ◌∷◌, Option, Some, None, slice_get, take, unwrap_or, refl, sym, ap, subst, arith}
use Rattle.std.proofs.lemmas.Option.{none-some, same_Some}
use Rattle.hwp_banks.specs.hwp_geom.declared.Cpu.{Cpu}
use Rattle.hwp_banks.specs.hwp_geom.declared.Who.{Who}
use Rattle.hwp_banks.specs.declared.Event.{Event}
use Rattle.hwp_law.specs.hwp_script_words.declared.Command.{Command}
use Rattle.hwp_law.specs.hwp_script_words.declared.Script.{Script}
use Rattle.hwp_law.specs.hwp_report_text.declared.Report.{Report}
use Rattle.hwp_banks.specs.Banks.{empty_banks}
use Rattle.hwp_law.specs.Events.{AreEventsFrom}
use Rattle.hwp_law.specs.Lines.{events_of}
use Rattle.hwp_check_event_line.specs.Found.{resting}
use Rattle.hwp_check_event_line.specs.Misfits.{AreTold, IsFit, IsTold, found_by, leaves, left_by}
use Rattle.hwp_check_events.proofs.LowestMarks.{HasLines}
use Rattle.hwp_check_events.proofs.CommandEvents.{AreMasks, whole-back, whole-forth}
use Rattle.hwp_banks.specs.hwp_geom.declared.VSlot.{VSlot}

module _ (script : Script) (copies : Who → Option VSlot) (report : Report) (masks : AreMasks report) (lines : HasLines script) (cpu : Cpu) where
  abbrev at : ℕ → Who
  at n = record { cpu = cpu; seq = n }

  abbrev left : ℕ → Command → Option Event → Option Event
  left n command raw = leaves script copies report (at n) command raw (events_of report (at n))

  -- the lines of commands from number n on are right, where bank 1 holds this at first
  abbrev ToldFrom : ℕ → List Command → Option Event → Type 0
  ToldFrom n [] raw = Unit {0}
  ToldFrom n (command ∷ rest) raw = IsTold script copies report (at n) command raw × ToldFrom (n + 1) rest (left n command raw)

  abbrev AllFit : List Command → Type 0
  AllFit list = (k : ℕ) (command : Command) → slice_get list k ≡ Some command → IsFit command

  from-law : (list : List Command) (n : ℕ) (raw : Option Event) → AllFit list → AreEventsFrom script copies report cpu n list (resting raw) → ToldFrom n list raw
  from-law [] n raw fit are = record {}
  from-law (command ∷ rest) n raw fit (after, now, later) =
      let one = whole-forth script report (at n) copies masks lines raw (events_of report (at n)) command after (fit 0 command refl) now in
      (record { right = one.0; enough = one.1 }, from-law rest (n + 1) (left n command raw) (λ k c there. fit (suc k) c there) (subst (AreEventsFrom script copies report cpu (n + 1) rest) one.2 later))

  to-law : (list : List Command) (n : ℕ) (raw : Option Event) → AllFit list → ToldFrom n list raw → AreEventsFrom script copies report cpu n list (resting raw)
  to-law [] n raw fit told = record {}
  to-law (command ∷ rest) n raw fit told =
      (resting (left n command raw), whole-back script report (at n) copies masks lines raw (events_of report (at n)) command (fit 0 command refl) told.0.right told.0.enough, to-law rest (n + 1) (left n command raw) (λ k c there. fit (suc k) c there) told.1)

  -- each command finds in bank 1 what those before it left
  abbrev Each : ℕ → List Command → Option Event → Type 0
  Each n list raw = (k : ℕ) (command : Command) → slice_get list k ≡ Some command → IsTold script copies report (at (n + k)) command (left_by script copies report cpu n (take k list) raw)

  to-each : (list : List Command) (n : ℕ) (raw : Option Event) → ToldFrom n list raw → Each n list raw
  to-each [] n raw told = λ k c there. absurd (none-some c there)
  to-each (command ∷ rest) n raw told = by (to-each rest (n + 1) (left n command raw) told.1)
    where
      by : Each (n + 1) rest (left n command raw) → Each n (command ∷ rest) raw
      by each zero c there = subst (λ (m : ℕ). IsTold script copies report (at m) c raw) (let e : n ≡ n + 0 = omega arith in e) (subst (λ (d : Command). IsTold script copies report (at n) d raw) (same_Some _ _ there) told.0)
      by each (suc k) c there = subst (λ (m : ℕ). IsTold script copies report (at m) c (left_by script copies report cpu (n + 1) (take k rest) (left n command raw))) (let e : n + 1 + k ≡ n + suc k = omega arith in e) (each k c there)

  from-each : (list : List Command) (n : ℕ) (raw : Option Event) → Each n list raw → ToldFrom n list raw
  from-each [] n raw each = record {}
  from-each (command ∷ rest) n raw each = (
    subst (λ (m : ℕ). IsTold script copies report (at m) command raw) (let e : n + 0 ≡ n = omega arith in e) (each 0 command refl),
    from-each rest (n + 1) (left n command raw)
        (λ k c there. subst (λ (m : ℕ). IsTold script copies report (at m) c (left_by script copies report cpu (n + 1) (take k rest) (left n command raw))) (let e : n + suc k ≡ n + 1 + k = omega arith in e) (each (suc k) c there)),
  )

  -- the same in the words of the script
  found-is : (list : List Command) (k : ℕ) → slice_get script.lists cpu.0 ≡ Some list → found_by script copies report (at k) ≡ left_by script copies report cpu 0 (take k list) None
  found-is list k there = ap (λ (o : Option (List Command)). left_by script copies report cpu 0 (take k (unwrap_or o [])) None) there

  told-by : (list : List Command) → slice_get script.lists cpu.0 ≡ Some list → AreTold script copies report cpu list → Each 0 list None
  told-by list of told = λ k c there.
      subst (λ (m : ℕ). IsTold script copies report (at m) c (left_by script copies report cpu 0 (take k list) None)) (let e : k ≡ 0 + k = omega arith in e) (subst (IsTold script copies report (at k) c) (found-is list k of) (told k c there))

  by-told : (list : List Command) → slice_get script.lists cpu.0 ≡ Some list → Each 0 list None → AreTold script copies report cpu list
  by-told list of each = λ k c there.
      subst (IsTold script copies report (at k) c) (sym (found-is list k of)) (subst (λ (m : ℕ). IsTold script copies report (at m) c (left_by script copies report cpu 0 (take k list) None)) (let e : 0 + k ≡ k = omega arith in e) (each k c there))

  pub processor-law : (list : List Command) → slice_get script.lists cpu.0 ≡ Some list → AllFit list → AreTold script copies report cpu list ↔ AreEventsFrom script copies report cpu 0 list empty_banks
  processor-law list of fit = (λ told. to-law list 0 None fit (from-each list 0 None (told-by list of told)), λ are. by-told list of (to-each list 0 None (from-law list 0 None fit are)))
