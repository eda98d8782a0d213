-- What is wrong about the lines of a command, by its kind.
use Rattle.std.proofs.Common.{◌≡◌, ◌⊎◌, inl, inr, ℕ, ◌<◌, ◌≤◌, ◌==◌, ◌+◌, ◌-◌, Bool, true, false, cond, List, Option, None, MatchBool, is_some, length, sym, ap, ◌∙◌, subst, arith}
use Rattle.std.specs.Bool.{nat_lt}
use Rattle.std.specs.Int.{from_bool}
use Rattle.std.proofs.lemmas.Bool.{ltb-false, ltb-true}
use Rattle.std.proofs.lemmas.List.{length-map}
use Rattle.hwp_banks.specs.hwp_geom.Limits.{line_limit}
use Rattle.hwp_banks.specs.hwp_geom.declared.Frame.{Frame}
use Rattle.hwp_banks.specs.hwp_geom.declared.Thread.{Thread}
use Rattle.hwp_banks.specs.hwp_geom.declared.VSlot.{VSlot}
use Rattle.hwp_banks.specs.hwp_geom.declared.Who.{Who}
use Rattle.hwp_banks.specs.Banks.{raw_event}
use Rattle.hwp_banks.specs.declared.Event.{Event}
use Rattle.hwp_banks.specs.declared.Origin.{Origin}
use Rattle.hwp_banks.specs.declared.Origin.TheVariants as origins
use Rattle.hwp_law.specs.hwp_script_words.declared.Command.{Command}
use Rattle.hwp_law.specs.hwp_script_words.declared.Command.TheVariants as commands
use Rattle.hwp_law.specs.hwp_script_words.declared.Script.{Script}
use Rattle.hwp_law.specs.hwp_report_text.declared.Answer.{Answer}
use Rattle.hwp_law.specs.hwp_report_text.declared.EventLine.{EventLine}
use Rattle.hwp_law.specs.hwp_report_text.declared.Report.{Report}
use Rattle.hwp_law.specs.Commands.{arrival_of}
use Rattle.hwp_law.specs.hwp_severity.declared.Arrival.{Arrival}
use Rattle.hwp_law.specs.Events.{is_raised, access_lines, store_lines}
use Rattle.hwp_law.specs.Lines.{answer_of}
use Rattle.hwp_check_event_line.specs.Accesses.{Access, IsAccessLine, IsRaisedLine, asked_by_access, access_of}
use Rattle.hwp_check_events.specs.Met.{access_by, lines_met}
use Rattle.hwp_check_event_line.specs.Firsts.{IsScanned, shown_lines}
use Rattle.hwp_check_events.specs.Copied.{copied_by}
use Rattle.hwp_check_events.specs.Judged.{IsAccessJudged, IsJudged, IsRaiseJudged, IsScrubJudged, IsTable}
use Rattle.hwp_check_event_line.specs.Misfits.{commands_before, course_of, is_scrubbed, logged_if, low_of}
use Rattle.hwp_check_event_line.specs.Scrubs.{Course, after_all, bound_from, lacking, lowest, reach_from}
use Rattle.hwp_check_event_line.specs.Scrubbing.{IsRightIn, course_by, low_of as low_by}
use Rattle.hwp_check_event_line.specs.declared.Faults.{Faults}
use Rattle.hwp_check_events.specs.declared.known.Checks.{Checks}
use Rattle.hwp_check_event_line.specs.declared.Shown.{Shown}
use Rattle.hwp_check_events.proofs.CopyLaws.{store-copied}

less-decides : (a b : ℕ) (t : Bool) → t ≡ nat_lt a b → MatchBool t (a < b) (a < b → ⊥)
less-decides a b true is = ltb-true a b (sym is)
less-decides a b false is = λ less. let most : b ≤ a = ltb-false a b (sym is) in omega (arith, most, less)

module _ (script : Script) (report : Report) (who : Who) (raw left : Option Event) (shown : List Shown) (wrong : Option ℕ) (lacks : Bool) where
  abbrev lines : List EventLine
  lines = shown_lines shown

  pub access-judged : (origin : Origin) (ats : List ℕ) (how : Arrival) (checks : Checks) (copied : List ℕ) → checks.origin ≡ origin → lines_met checks copied ≡ ats → checks.count ≡ length ats
      → IsScanned (IsAccessLine script report who how (access_by checks copied raw) lines) lines wrong → lacks ≡ nat_lt (length shown) (asked_by_access (access_by checks copied raw)) → left ≡ cond (checks.count == 0) raw None
      → IsScanned (IsAccessLine script report who how (access_of origin ats raw) lines) lines wrong
      × MatchBool lacks (length lines < asked_by_access (access_of origin ats raw)) (length lines < asked_by_access (access_of origin ats raw) → ⊥) × (left ≡ cond (length ats == 0) raw None)
  access-judged origin ats how checks copied origin_is ats_are count_is scanned lacks_is left_is = (
    subst (λ (a : Access). IsScanned (IsAccessLine script report who how a lines) lines wrong) same scanned,
    less-decides (length lines) (asked_by_access (access_of origin ats raw)) lacks (lacks_is ∙ ap (λ (n : ℕ). nat_lt n (asked_by_access (access_by checks copied raw))) (sym (length-map shown (λ (s : Shown). s.line))) ∙ ap (λ (a : Access). nat_lt (length lines) (asked_by_access a)) same),
    left_is ∙ ap (λ (n : ℕ). cond (n == 0) raw None) count_is,
  )
    where
      same : access_by checks copied raw ≡ access_of origin ats raw
      same = λ i. record { origin = origin_is i; at = ats_are i; raw = raw }

  pub raise-judged : (how expected : Arrival) (answer : Option Answer) → how ≡ expected → answer ≡ answer_of report who
      → IsScanned (λ (n : ℕ) (l : EventLine). MatchBool (is_raised answer lines) (IsRaisedLine script report who how raw n l) ⊥) lines wrong → lacks ≡ nat_lt (length shown) (cond (is_raised answer lines) (from_bool (is_some raw)) 0) → left ≡ cond (is_raised answer lines) None raw
      → IsScanned (λ (n : ℕ) (l : EventLine). MatchBool (is_raised (answer_of report who) lines) (IsRaisedLine script report who expected raw n l) ⊥) lines wrong
      × MatchBool lacks (length lines < cond (is_raised (answer_of report who) lines) (from_bool (is_some raw)) 0) (length lines < cond (is_raised (answer_of report who) lines) (from_bool (is_some raw)) 0 → ⊥)
      × (left ≡ cond (is_raised (answer_of report who) lines) None raw)
  raise-judged how expected answer how_is answer_is scanned lacks_is left_is = (
    subst (λ (a : Option Answer). IsScanned (λ (n : ℕ) (l : EventLine). MatchBool (is_raised a lines) (IsRaisedLine script report who expected raw n l) ⊥) lines wrong) answer_is
        (subst (λ (h : Arrival). IsScanned (λ (n : ℕ) (l : EventLine). MatchBool (is_raised answer lines) (IsRaisedLine script report who h raw n l) ⊥) lines wrong) how_is scanned),
    less-decides (length lines) (cond (is_raised (answer_of report who) lines) (from_bool (is_some raw)) 0) lacks (lacks_is ∙ ap (λ (n : ℕ). nat_lt n (cond (is_raised answer lines) (from_bool (is_some raw)) 0)) (sym (length-map shown (λ (s : Shown). s.line)))
        ∙ ap (λ (a : Option Answer). nat_lt (length lines) (cond (is_raised a lines) (from_bool (is_some raw)) 0)) answer_is),
    left_is ∙ ap (λ (a : Option Answer). cond (is_raised a lines) None raw) answer_is,
  )

  -- the course by the table
  same-low : (table : List ℕ) (whole : Bool) → IsTable script who table → whole ≡ is_scrubbed (answer_of report who) → (place : ℕ) → low_by table whole place ≡ low_of script report who place
  same-low table whole is whole_is place = ap (λ (n : ℕ). cond whole n line_limit) (is place) ∙ ap (λ (b : Bool). cond b (lowest (commands_before script who) place) line_limit) whole_is

  same-course : (table : List ℕ) (whole : Bool) (first last : Frame) → IsTable script who table → whole ≡ is_scrubbed (answer_of report who) → course_by report table whole first last ≡ course_of script report who first last
  same-course table whole first last is whole_is =
      ap (λ (low : ℕ → ℕ). record { low = low; last = last.0; bound = bound_from report low 0 first.0 (last.0 + 1 - first.0) }) (λ i place. same-low table whole is whole_is place i)

  pub scrub-judged : (how expected : Arrival) (table : List ℕ) (whole : Bool) (first last : Frame) → how ≡ expected → IsTable script who table → whole ≡ is_scrubbed (answer_of report who)
      → IsScanned (IsRightIn script report who how (course_by report table whole first last) (reach_from first raw) lines) lines wrong
      → lacks ≡ nat_lt (after_all report (course_by report table whole first last) (reach_from first raw) lines).strays (lacking (course_by report table whole first last) (after_all report (course_by report table whole first last) (reach_from first raw) lines))
      → left ≡ (after_all report (course_by report table whole first last) (reach_from first raw) lines).raw
      → IsScanned (IsRightIn script report who expected (course_of script report who first last) (reach_from first raw) lines) lines wrong
      × MatchBool lacks ((after_all report (course_of script report who first last) (reach_from first raw) lines).strays < lacking (course_of script report who first last) (after_all report (course_of script report who first last) (reach_from first raw) lines))
      ((after_all report (course_of script report who first last) (reach_from first raw) lines).strays < lacking (course_of script report who first last) (after_all report (course_of script report who first last) (reach_from first raw) lines) → ⊥)
      × (left ≡ (after_all report (course_of script report who first last) (reach_from first raw) lines).raw)
  scrub-judged how expected table whole first last how_is is whole_is scanned lacks_is left_is = (
    subst (λ (c : Course). IsScanned (IsRightIn script report who expected c (reach_from first raw) lines) lines wrong) same (subst (λ (h : Arrival). IsScanned (IsRightIn script report who h (course_by report table whole first last) (reach_from first raw) lines) lines wrong) how_is scanned),
    less-decides _ _ lacks (lacks_is ∙ ap (λ (c : Course). nat_lt (after_all report c (reach_from first raw) lines).strays (lacking c (after_all report c (reach_from first raw) lines))) same),
    left_is ∙ ap (λ (c : Course). (after_all report c (reach_from first raw) lines).raw) same,
  )
    where
      same : course_by report table whole first last ≡ course_of script report who first last
      same = same-course table whole first last is whole_is

-- the same of the commands themselves
module _ (script : Script) (copies : Who → Option VSlot) (report : Report) (who : Who) (command : Command) (raw left : Option Event) (lines : List EventLine) (faults : Faults) (how : Arrival) (how_is : how ≡ arrival_of command) where
  abbrev Judged : Command → Type 0
  Judged c = IsJudged script copies report who c raw left lines faults

  load-judged : (thread : Thread) (slot : VSlot) (at : ℕ) → command ≡ commands.Load thread slot at → IsAccessJudged script report who how origins.Access (access_lines report who at) raw left lines faults → Judged command
  load-judged thread slot at is judged =
      let j = subst (λ (h : Arrival). IsAccessJudged script report who h origins.Access (access_lines report who at) raw left lines faults) (how_is ∙ ap arrival_of is) judged in
      subst Judged (sym is) (record { scanned = j.scanned; lacks = j.lacks; left_is = j.left_is })

  kload-judged : (thread : Thread) (slot : VSlot) (at : ℕ) → command ≡ commands.KLoad thread slot at → IsAccessJudged script report who how origins.Access (access_lines report who at) raw left lines faults → Judged command
  kload-judged thread slot at is judged =
      let j = subst (λ (h : Arrival). IsAccessJudged script report who h origins.Access (access_lines report who at) raw left lines faults) (how_is ∙ ap arrival_of is) judged in
      subst Judged (sym is) (record { scanned = j.scanned; lacks = j.lacks; left_is = j.left_is })

  pub store-judged : (thread : Thread) (slot : VSlot) (at word : ℕ) (copied : List ℕ) → command ≡ commands.Store thread slot at word → copied ≡ copied_by script.layout copies report who command
      → IsAccessJudged script report who how origins.Access (cond (is_some (copies who)) copied (access_lines report who at)) raw left lines faults → Judged command
  store-judged thread slot at word copied is are judged =
      let same = store-copied script.layout report who (copies who) slot at copied (are ∙ ap (copied_by script.layout copies report who) is) in
      let j = subst (λ (h : Arrival). IsAccessJudged script report who h origins.Access (store_lines script.layout report who (copies who) slot at) raw left lines faults) (how_is ∙ ap arrival_of is)
      (subst (λ (l : List ℕ). IsAccessJudged script report who how origins.Access l raw left lines faults) same judged) in
      subst Judged (sym is) (record { scanned = j.scanned; lacks = j.lacks; left_is = j.left_is })

  pub fetch-judged : (thread : Thread) (slot : VSlot) (at : ℕ) → command ≡ commands.Fetch thread slot at → IsAccessJudged script report who how origins.Fetch (access_lines report who at) raw left lines faults → Judged command
  fetch-judged thread slot at is judged =
      let j = subst (λ (h : Arrival). IsAccessJudged script report who h origins.Fetch (access_lines report who at) raw left lines faults) (how_is ∙ ap arrival_of is) judged in
      subst Judged (sym is) (record { scanned = j.scanned; lacks = j.lacks; left_is = j.left_is })

  user-judged : (thread : Thread) (ripv eipv : Bool) → command ≡ commands.RaiseUser thread ripv eipv → IsRaiseJudged script report who how raw left lines faults → Judged command
  user-judged thread ripv eipv is judged =
      let j = subst (λ (h : Arrival). IsRaiseJudged script report who h raw left lines faults) (how_is ∙ ap arrival_of is) judged in
      subst Judged (sym is) (record { scanned = j.scanned; lacks = j.lacks; left_is = j.left_is })

  kernel-judged : (ripv eipv : Bool) → command ≡ commands.RaiseKernel ripv eipv → IsRaiseJudged script report who how raw left lines faults → Judged command
  kernel-judged ripv eipv is judged =
      let j = subst (λ (h : Arrival). IsRaiseJudged script report who h raw left lines faults) (how_is ∙ ap arrival_of is) judged in
      subst Judged (sym is) (record { scanned = j.scanned; lacks = j.lacks; left_is = j.left_is })

  -- a raise in either mode
  pub raised-judged : ((thread : Thread) × (ripv : Bool) × (eipv : Bool) × (command ≡ commands.RaiseUser thread ripv eipv)) ⊎ ((ripv : Bool) × (eipv : Bool) × (command ≡ commands.RaiseKernel ripv eipv))
      → IsRaiseJudged script report who how raw left lines faults → Judged command
  raised-judged (inl (thread, ripv, eipv, is)) judged = user-judged thread ripv eipv is judged
  raised-judged (inr (ripv, eipv, is)) judged = kernel-judged ripv eipv is judged

  -- a load, or one of the kernel
  pub accessed-judged : (at : ℕ) → ((thread : Thread) × (slot : VSlot) × (command ≡ commands.Load thread slot at)) ⊎ ((thread : Thread) × (slot : VSlot) × (command ≡ commands.KLoad thread slot at))
      → IsAccessJudged script report who how origins.Access (access_lines report who at) raw left lines faults → Judged command
  accessed-judged at (inl (thread, slot, is)) judged = load-judged thread slot at is judged
  accessed-judged at (inr (thread, slot, is)) judged = kload-judged thread slot at is judged

  pub scrubbed-judged : (first last : Frame) → command ≡ commands.Scrub first last → IsScrubJudged script report who how first last raw left lines faults → Judged command
  scrubbed-judged first last is judged =
      let j = subst (λ (h : Arrival). IsScrubJudged script report who h first last raw left lines faults) (how_is ∙ ap arrival_of is) judged in
      subst Judged (sym is) (record { scanned = j.scanned; lacks = j.lacks; left_is = j.left_is })

  -- a raw event, which has no lines
  pub log-judged : (status addr misc : ℕ) → command ≡ commands.Log status addr misc → IsScanned (λ (number : ℕ) (line : EventLine). ⊥) lines faults.wrong → faults.lacks ≡ false → left ≡ logged_if (answer_of report who) (raw_event status addr misc) raw → Judged command
  log-judged status addr misc is scanned lacks left_is = subst Judged (sym is) (record { scanned = scanned; lacks = subst (λ (b : Bool). MatchBool b ⊥ (⊥ → ⊥)) (sym lacks) (λ no. no); left_is = left_is })
