-- Each event that a bank holds, and each failure that a command tells, is of a frame that the script names: a raw event's, or one that
-- has a bad line. In a script with a `watch` so is each event that a command tells, also of a weak line, and so each frame that is noted.
use Rattle.std.proofs.Common.{◌≡◌, ◌⊎◌, inl, inr, ℕ, zero, suc, ◌+◌, ◌*◌, ◌<◌, ◌==◌, nat_lt, ◌&&◌, ◌||◌, Bool, true, false, cond, if◌then◌else◌, List, [], ◌∷◌, ◌++◌, Option, None, Some, is_some, length, slice_get, slice_index_or, refl, sym, ap, ◌∙◌, subst, arith, ◌/◌, replicate}
use Rattle.std.specs.Int.{bit_at}
use Rattle.std.specs.List.{cons_option, filter_map, flat_map, list_any}
use Rattle.std.proofs.lemmas.Bool.{eq-eqb}
use Rattle.std.proofs.lemmas.List.Folds.{list_any-append}
use Rattle.std.proofs.lemmas.Option.{none-some, same_Some, option_and_then_some}
use Rattle.hwp_law_served.specs.hwp_geom.declared.Cpu.{Cpu}
use Rattle.hwp_law_served.specs.hwp_geom.declared.Damage.{Damage}
use Rattle.hwp_law_served.specs.hwp_geom.declared.Damage.TheVariants as damages
use Rattle.hwp_law_served.specs.hwp_geom.declared.Frame.{Frame}
use Rattle.hwp_law_served.specs.hwp_geom.declared.Who.{Who}
use Rattle.hwp_law_served.specs.hwp_core_rule.declared.SharedWord.TheVariants as places
use Rattle.hwp_law_served.specs.hwp_core_rule.declared.State.{State}
use Rattle.hwp_law_served.specs.hwp_core_rule.declared.View.{View}
use Rattle.hwp_law_served.proofs.of_hwp_core_rule.Lists.{at_map, map-was, each-set}
use Rattle.hwp_law_served.specs.hwp_core_rule.Steps.{damage_place}
use Rattle.hwp_law_served.specs.hwp_core_rule.Boards.{view_of}
use Rattle.hwp_law_served.specs.hwp_core_rule.Known.{Saw}
use Rattle.hwp_law_served.specs.hwp_script_words.declared.Command.{Command}
use Rattle.hwp_law_served.specs.hwp_script_words.declared.Command.TheVariants as commands
use Rattle.hwp_law_served.specs.hwp_script_words.declared.Script.{Script}
use Rattle.hwp_law_served.specs.hwp_report_text.declared.Answer.{Answer}
use Rattle.hwp_law_served.specs.hwp_report_text.declared.Answer.TheVariants as answers
use Rattle.hwp_law_served.specs.hwp_report_text.declared.EventLine.{EventLine}
use Rattle.hwp_law_served.specs.hwp_report_text.declared.Report.{Report}
use Rattle.hwp_law_served.specs.hwp_law.Answers.{frame_named, named_frames}
use Rattle.hwp_law_served.proofs.RunEnds.{IsEnd, served-of}
use Rattle.hwp_law_served.specs.hwp_geom.declared.Layout.{Layout}
use Rattle.hwp_law_served.specs.hwp_geom.declared.Mode.{Mode}
use Rattle.hwp_law_served.specs.hwp_geom.declared.Mode.TheVariants as modes
use Rattle.hwp_law_served.specs.hwp_geom.declared.Thread.{Thread}
use Rattle.std.specs.Prelude.{MatchBool}
use Rattle.hwp_law_served.specs.hwp_banks.declared.Event.{Event}
use Rattle.hwp_law_served.specs.hwp_banks.declared.Origin.{Origin}
use Rattle.hwp_law_served.specs.hwp_banks.declared.Origin.TheVariants as origins
use Rattle.hwp_law_served.specs.hwp_banks.Addresses.{frame_at, line_address}
use Rattle.hwp_law_served.specs.hwp_banks.Events.{bank_count, bank_of, own_event}
use Rattle.hwp_law_served.specs.hwp_banks.Logged.{Class, Corrected, Fatal, Uncorrected, class_of, logged, overwritten, stored}
use Rattle.hwp_law_served.specs.hwp_banks.Status.{is_valid}
use Rattle.hwp_law_served.specs.hwp_core_rule.Lists.{EachMember}
use Rattle.hwp_law_served.proofs.of_hwp_core_rule.MoreEntries.{each-append}
use Rattle.hwp_law_served.specs.hwp_banks.Banks.{Banks, empty_banks, held_from, log_in, raw_bank, raw_event}
use Rattle.hwp_law_served.specs.hwp_law.Commands.{arrival_of, command_at, has_watch}
use Rattle.hwp_law_served.specs.hwp_law.Notes.{checks, ends_machine, frame_of, is_corrected, is_for_pages, noted_frame, notes, notes_of_check, with_line}
use Rattle.hwp_law_served.specs.hwp_law.Watched.{Watched, due, offlining, told}
use Rattle.hwp_law_served.specs.hwp_law.hwp_cec.Ages.{Note, live}
use Rattle.hwp_law_served.specs.hwp_severity.declared.Arrival.{Arrival}
use Rattle.hwp_law_served.specs.hwp_law.Events.{logged_if_done}
use Rattle.hwp_law_served.specs.hwp_geom.declared.Page.{Page}
use Rattle.hwp_law_served.specs.hwp_geom.declared.Proc.{Proc}
use Rattle.hwp_law_served.specs.hwp_fork.declared.cow.Cow.{Cow}
use Rattle.hwp_law_served.specs.hwp_fork.declared.cow.CowAt.{CowAt}
use Rattle.hwp_law_served.specs.hwp_fork.declared.cow.CowAt.TheVariants as cow_at
use Rattle.hwp_law_served.specs.hwp_fork.declared.cow.Sub.{Sub}
use Rattle.hwp_law_served.specs.hwp_fork.declared.cow.Sub.TheVariants as subs
use Rattle.hwp_law_served.specs.hwp_fork.Cows as cows
use Rattle.hwp_law_served.specs.hwp_cpu_access.Copyings.{request_by}
use Rattle.hwp_law_served.specs.hwp_cpu_access.Runs.{AreRuns, IsRun, Run, checks_by}
use Rattle.hwp_law_served.specs.Copied.{AreChecksOf, IsCopyTold, store_by}
use Rattle.hwp_top_report.proofs.copied.CopyEvents.{lines-behind}
use Rattle.hwp_law_served.specs.hwp_claim.declared.Found.{Found}
use Rattle.hwp_law_served.specs.hwp_claim.declared.Held.{Held}
use Rattle.hwp_law_served.specs.hwp_cpu_row.declared.Row.{Row}
use Rattle.hwp_law_served.specs.hwp_claim.declared.EventOutcome.{EventOutcome}
use Rattle.hwp_law_served.specs.hwp_claim.Checks.{AreChecks, Check, IsActedOn, SawBad, left_by, lines_of, with_own}
use Rattle.hwp_law_served.specs.hwp_claim.Events.{graded_in}
use Rattle.hwp_law_served.specs.hwp_scrub.Visits as scrubs
use Rattle.hwp_law_served.specs.hwp_scrub.Visits.{AreBanks, AreVisits, IsBadMet, IsWeakMet, SawLowest, Visit, left_by_bad, left_by_visit, left_by_weak, lines_of_visit, scrub_bank, scrubbing, with_bad}
use Rattle.hwp_law_served.proofs.of_hwp_scrub.VisitLaws.{bad-leaves, left-banks}
use Rattle.hwp_law_served.specs.Served.{AreRowsServed, spoiling}
use Rattle.hwp_law_served.specs.Told.{AreToldBy, AreToldWith, IsAccessTold, IsCutShort, IsRaiseTold, IsScrubTold, IsUntold, is_raised}
use Rattle.hwp_law_served.proofs.Picked.{picked-is}
use Rattle.hwp_law_served.proofs.lines.ScrubBank.{empty-free, kept-so, with-free}
use Rattle.hwp_top_report.proofs.report_lines.SpoiledLines.{set-at, spoiled-at-end, spoiled-so}
use Rattle.hwp_top_report.proofs.marks.RowNotes.{each-cons}
use Rattle.hwp_law_served.specs.hwp_geom.declared.VSlot.{VSlot}

-- ---- named frames

pub or-true : (b : Bool) → (b || true) ≡ true
or-true true = refl
or-true false = refl

-- a command of a list names its frame, and so does the script
named-in : (watches : Bool) (f : ℕ) (list : List Command) (j : ℕ) (c : Command) → slice_get list j ≡ Some c → frame_named watches c ≡ Some f → list_any (λ n. n == f) (filter_map (frame_named watches) list) ≡ true
named-in watches f [] j c there is = absurd (none-some c there)
named-in watches f (d ∷ ds) zero c there is =
    let own : frame_named watches d ≡ Some f = ap (frame_named watches) (same_Some d c there) ∙ is in
    ap (λ (o : Option ℕ). list_any (λ n. n == f) (cons_option o (filter_map (frame_named watches) ds))) own ∙ ap (λ (b : Bool). b || list_any (λ n. n == f) (filter_map (frame_named watches) ds)) (eq-eqb f f refl)
named-in watches f (d ∷ ds) (suc j) c there is = by (frame_named watches d) (named-in watches f ds j c there is)
  where
    by : (o : Option ℕ) → list_any (λ n. n == f) (filter_map (frame_named watches) ds) ≡ true → list_any (λ n. n == f) (cons_option o (filter_map (frame_named watches) ds)) ≡ true
    by None rest = rest
    by (Some n) rest = ap (λ (b : Bool). (n == f) || b) rest ∙ or-true (n == f)

named-of : (watches : Bool) (f : ℕ) (lists : List (List Command)) (i j : ℕ) (list : List Command) (c : Command) → slice_get lists i ≡ Some list → slice_get list j ≡ Some c → frame_named watches c ≡ Some f → list_any (λ n. n == f) (flat_map (filter_map (frame_named watches)) lists) ≡ true
named-of watches f [] i j list c at there is = absurd (none-some list at)
named-of watches f (l ∷ ls) zero j list c at there is =
    list_any-append (λ n. n == f) (filter_map (frame_named watches) l) (flat_map (filter_map (frame_named watches)) ls)
    ∙ ap (λ (b : Bool). b || list_any (λ n. n == f) (flat_map (filter_map (frame_named watches)) ls)) (named-in watches f l j c (ap (λ (x : List Command). slice_get x j) (same_Some l list at) ∙ there) is)
named-of watches f (l ∷ ls) (suc i) j list c at there is =
    list_any-append (λ n. n == f) (filter_map (frame_named watches) l) (flat_map (filter_map (frame_named watches)) ls)
    ∙ ap (λ (b : Bool). list_any (λ n. n == f) (filter_map (frame_named watches) l) || b) (named-of watches f ls i j list c at there is) ∙ or-true (list_any (λ n. n == f) (filter_map (frame_named watches) l))

-- a command of the script names its frame
pub named-at : (script : Script) (who : Who) (command : Command) (f : ℕ) → command_at script who ≡ Some command → frame_named (has_watch script) command ≡ Some f → list_any (λ n. n == f) (named_frames script) ≡ true
named-at script who command f at is = option_and_then_some (λ (l : List Command). slice_get l who.seq) (slice_get script.lists who.cpu.0) command at (λ list list_is there. named-of (has_watch script) f script.lists who.cpu.0 who.seq list command list_is there is)

-- ---- addresses of events

-- each event that the banks hold has such an address
abbrev HoldSuch : (ℕ → Type 0) → Banks → Type 0
HoldSuch P banks = EachMember (λ (o : Option Event). (e : Event) → o ≡ Some e → P e.addr) banks

-- and each that is told as a failure; or each that is told, where weak lines count too
abbrev IsSuch : (ℕ → Type 0) → Bool → EventOutcome → Type 0
IsSuch P weak t = (is_some t.found || weak) ≡ true → P t.held.event.addr

abbrev pub AreSuch : (ℕ → Type 0) → Bool → List EventOutcome → Type 0
AreSuch P weak told = EachMember (IsSuch P weak) told

module _ (P : ℕ → Type 0) (weak : Bool) where
  stored-such : (b : Option Event) (e : Event) → ((x : Event) → b ≡ Some x → P x.addr) → P e.addr → P (stored b e).addr
  stored-such None e held new = new
  stored-such (Some x) e held new = which (class_of x.status) (class_of e.status)
    where
      which : (a c : Class) → P (overwritten a c x e).addr
      which Corrected Corrected = held x refl
      which Corrected Uncorrected = new
      which Corrected Fatal = new
      which Uncorrected Corrected = held x refl
      which Uncorrected Uncorrected = held x refl
      which Uncorrected Fatal = new
      which Fatal Corrected = held x refl
      which Fatal Uncorrected = held x refl
      which Fatal Fatal = held x refl

  logged-such : (b : Option Event) (e : Event) → ((x : Event) → b ≡ Some x → P x.addr) → P e.addr → (x : Event) → logged b e ≡ Some x → P x.addr
  logged-such b e held new x is = which (is_valid e.status) is
    where
      which : (v : Bool) → cond v (Some (stored b e)) b ≡ Some x → P x.addr
      which true is = subst (λ (y : Event). P y.addr) (same_Some (stored b e) x is) (stored-such b e held new)
      which false is = held x is

  bank-such : (banks : Banks) (i : ℕ) (x : Event) → HoldSuch P banks → slice_index_or banks i None ≡ Some x → P x.addr
  bank-such [] i x each is = absurd (none-some x is)
  bank-such (b ∷ bs) zero x each is = each 0 b refl x is
  bank-such (b ∷ bs) (suc i) x each is = bank-such bs i x (λ k o there. each (suc k) o there) is

  log-such : (bank : ℕ) (e : Event) (banks : Banks) → HoldSuch P banks → P e.addr → HoldSuch P (log_in bank e banks)
  log-such bank e banks each new =
      each-set (λ (o : Option Event). (x : Event) → o ≡ Some x → P x.addr) banks bank (logged (slice_index_or banks bank None) e) (logged-such (slice_index_or banks bank None) e (λ x is. bank-such banks bank x each is) new) each

  empty-such : (n : ℕ) → HoldSuch P (replicate n None)
  empty-such zero = λ i o there. absurd (none-some o there)
  empty-such (suc n) = each-cons (λ (o : Option Event). (e : Event) → o ≡ Some e → P e.addr) None (replicate n None) (λ e is. absurd (none-some e is)) (empty-such n)

  held-such : (n : ℕ) (banks : Banks) → HoldSuch P banks → EachMember (λ (b : ℕ × Event). P b.1.addr) (held_from n banks)
  held-such n [] each = λ i b there. absurd (none-some b there)
  held-such n (None ∷ banks) each = held-such (n + 1) banks (λ k o there. each (suc k) o there)
  held-such n (Some e ∷ banks) each = each-cons (λ (b : ℕ × Event). P b.1.addr) (n, e) (held_from (n + 1) banks) (each 0 (Some e) refl e refl) (held-such (n + 1) banks (λ k o there. each (suc k) o there))

  -- ---- of a command

  module _ (layout : Layout) (view : View) (who : Who) where
    acted-such : (thread : Option Thread) (how : Arrival) (banks : Banks) (lines : List EventOutcome) → IsActedOn layout view who thread how banks lines → HoldSuch P banks → AreSuch P weak lines
    acted-such thread how banks lines acted each i t there any =
        let was = map-was (graded_in how) (held_from 0 banks) i t.held (sym (ap (λ (l : List Held). slice_get l i) acted.events) ∙ at_map (λ (x : EventOutcome). x.held) lines i t there) in
        subst (λ (h : Held). P h.event.addr) was.2 (held-such 0 banks each i was.0 was.1)

    checks-such : (thread : Thread) (line : ℕ) (origin : Origin) (mode : Mode) (banks : Banks) (checks : List Check) → ((frame : Frame) → SawBad layout view who line frame → P (line_address frame line))
        → AreChecks layout view who thread line origin mode banks checks → HoldSuch P banks → AreSuch P weak (lines_of checks)
    checks-such thread line origin mode banks [] own are each = λ i t there. absurd (none-some t there)
    checks-such thread line origin mode banks (c ∷ cs) own (is, rest) each =
        each-append (IsSuch P weak) c.lines (lines_of cs)
        (acted-such (Some thread) _ (with_own origin c.frame line banks) c.lines is.acted_on (log-such (bank_of origin) (own_event origin c.frame line) banks each (own c.frame is.bad)))
        (checks-such thread line origin mode empty_banks cs own rest (empty-such bank_count))

    left-such : (banks : Banks) (checks : List Check) → HoldSuch P banks → HoldSuch P (left_by banks checks)
    left-such banks [] each = each
    left-such banks (c ∷ cs) each = empty-such bank_count

    access-such : (thread : Thread) (line : ℕ) (origin : Origin) (mode : Mode) (before : Banks) (told : List EventOutcome) (after : Banks) → ((frame : Frame) → SawBad layout view who line frame → P (line_address frame line))
        → IsAccessTold layout view who thread line origin mode before told after → HoldSuch P before → AreSuch P weak told × HoldSuch P after
    access-such thread line origin mode before told after own is each =
        (subst (AreSuch P weak) (sym is.told_is) (checks-such thread line origin mode before is.checks own is.are each), subst (HoldSuch P) (sym is.after_is) (left-such before is.checks each))

    untold-such : (before : Banks) (told : List EventOutcome) (after : Banks) → IsUntold told before after → HoldSuch P before → AreSuch P weak told × HoldSuch P after
    untold-such before told after (none, same) each = (subst (AreSuch P weak) (sym none) (λ i t there. absurd (none-some t there)), subst (HoldSuch P) (sym same) each)

    raise-such : (thread : Option Thread) (how : Arrival) (answer : Answer) (before : Banks) (told : List EventOutcome) (after : Banks) → IsRaiseTold layout view who thread how answer before told after → HoldSuch P before → AreSuch P weak told × HoldSuch P after
    raise-such thread how answer before told after is each = which (is_raised answer told) is
      where
        which : (b : Bool) → MatchBool b (IsActedOn layout view who thread how before told × (after ≡ empty_banks)) (IsUntold told before after) → AreSuch P weak told × HoldSuch P after
        which true (acted, left) = (acted-such thread how before told acted each, subst (HoldSuch P) (sym left) (empty-such bank_count))
        which false none = untold-such before told after none each

    raw-such : (answer : Answer) (e : Event) (before : Banks) → P e.addr → HoldSuch P before → HoldSuch P (logged_if_done (Some answer) e before)
    raw-such answers.Done e before new each = log-such raw_bank e before each new
    raw-such answer e before new each = each

    -- ---- of a scrub

    module _ (own : (line mask : ℕ) (frame : Frame) → bit_at mask line ≡ 1 → Saw view who (places.Bad frame) mask → P (line_address frame line))
        (own_weak : weak ≡ true → (line mask : ℕ) (frame : Frame) → bit_at mask line ≡ 1 → Saw view who (places.Weak frame) mask → P (line_address frame line)) where
      bad-such : (frame : Frame) (banks : Banks) (line : Option ℕ) (lines : List EventOutcome) → SawLowest view who (places.Bad frame) line → IsBadMet layout view who frame banks line lines → HoldSuch P banks → AreSuch P weak lines × HoldSuch P (left_by_bad line banks)
      bad-such frame banks None lines saw none each = untold-such banks lines banks (none, refl) each
      bad-such frame banks (Some line) lines saw acted each = (
        acted-such None scrubbing (with_bad frame line banks) lines acted (log-such scrub_bank (own_event origins.BadLine frame line) banks each (own line saw.word frame saw.lowest.is_set saw.saw)),
        empty-such bank_count,
      )

      weak-such : (frame : Frame) (banks : Banks) (line : Option ℕ) (lines : List EventOutcome) → AreBanks banks → SawLowest view who (places.Weak frame) line → IsWeakMet layout view who frame banks line lines → HoldSuch P banks → AreSuch P weak lines × HoldSuch P (left_by_weak line banks)
      weak-such frame banks None lines are saw none each = untold-such banks lines banks (none, refl) each
      weak-such frame banks (Some line) lines are saw kept each =
          let one = kept-so banks are frame line layout view who lines kept in
          let its : IsSuch P weak one.told = λ any. subst (λ (h : Held). P h.event.addr) (sym one.held) (own_weak (sym (ap (λ (o : Option Found). is_some o || weak) one.none) ∙ any) line saw.word frame saw.lowest.is_set saw.saw) in (
            subst (AreSuch P weak) (sym one.lines_are) (each-cons (IsSuch P weak) one.told [] its (λ i t there. absurd (none-some t there))),
            each-set (λ (o : Option Event). (x : Event) → o ≡ Some x → P x.addr) banks scrub_bank None (λ x is. absurd (none-some x is)) each,
          )

      visits-such : (frame : ℕ) (banks : Banks) (visits : List Visit) → AreBanks banks → AreVisits layout view who frame banks visits → HoldSuch P banks → AreSuch P weak (scrubs.lines_of visits) × HoldSuch P (scrubs.left_by banks visits)
      visits-such frame banks [] are visited each = ((λ i t there. absurd (none-some t there)), each)
      visits-such frame banks (v ∷ vs) are (is, rest) each =
          let f : Frame = record { 0 = frame } in
          let bad = bad-such f banks v.bad.line v.bad.lines is.bad.saw is.bad.met each in
          let faint = weak-such f (left_by_bad v.bad.line banks) v.weak.line v.weak.lines (bad-leaves v.bad.line banks are) is.weak.saw is.weak.met bad.1 in
          let later = visits-such (frame + 1) (left_by_visit v banks) vs (left-banks banks (v ∷ []) are) rest faint.1 in (
            each-append (IsSuch P weak) (lines_of_visit v) (scrubs.lines_of vs) (each-append (IsSuch P weak) v.bad.lines v.weak.lines bad.0 faint.0) later.0,
            later.1,
          )

      cut-such : (first last : Frame) (before : Banks) (told : List EventOutcome) (after : Banks) → AreBanks before → IsUntold told before after ⊎ IsCutShort layout view who first last before told after → HoldSuch P before → AreSuch P weak told × HoldSuch P after
      cut-such first last before told after are (inl none) each = untold-such before told after none each
      cut-such first last before told after are (inr cut) each =
          let visits = visits-such first.0 before cut.visits are cut.visited each in
          let bad = bad-such (record { 0 = first.0 + length cut.visits }) (scrubs.left_by before cut.visits) cut.bad.line cut.bad.lines cut.found.saw cut.found.met visits.1 in
          (subst (AreSuch P weak) (sym cut.told_is) (each-append (IsSuch P weak) (scrubs.lines_of cut.visits) cut.bad.lines visits.0 bad.0), subst (HoldSuch P) (sym cut.after_is) bad.1)

      scrub-such : (first last : Frame) (answer : Answer) (before : Banks) (told : List EventOutcome) (after : Banks) → AreBanks before → IsScrubTold layout view who first last answer before told after → HoldSuch P before → AreSuch P weak told × HoldSuch P after
      scrub-such first last (answers.Scrubbed n) before told after are is each =
          let visits = visits-such first.0 before is.visits are is.visited each in
          (subst (AreSuch P weak) (sym is.told_is) visits.0, subst (HoldSuch P) (sym is.after_is) visits.1)
      scrub-such first last answer before told after are is each = cut-such first last before told after are is each

    row-such : (command : Command) (answer : Answer) (before : Banks) (told : List EventOutcome) (after : Banks) → ((line mask : ℕ) (frame : Frame) → bit_at mask line ≡ 1 → Saw view who (places.Bad frame) mask → P (line_address frame line))
        → (weak ≡ true → (line mask : ℕ) (frame : Frame) → bit_at mask line ≡ 1 → Saw view who (places.Weak frame) mask → P (line_address frame line))
        → ((status addr misc : ℕ) → command ≡ commands.Log status addr misc → P addr) → AreBanks before → AreToldBy layout view who command answer before told after → HoldSuch P before → AreSuch P weak told × HoldSuch P after
    row-such (commands.Load thread slot line) answer before told after own own_weak raw are is each = access-such thread line origins.Access modes.User before told after (λ frame saw. own line saw.mask frame (set-at saw.mask line saw.bad) saw.saw) is each
    row-such (commands.Fetch thread slot line) answer before told after own own_weak raw are is each = access-such thread line origins.Fetch modes.User before told after (λ frame saw. own line saw.mask frame (set-at saw.mask line saw.bad) saw.saw) is each
    row-such (commands.KLoad thread slot line) answer before told after own own_weak raw are is each = access-such thread line origins.Access modes.Kernel before told after (λ frame saw. own line saw.mask frame (set-at saw.mask line saw.bad) saw.saw) is each
    row-such (commands.Store thread slot line word) answer before told after own own_weak raw are is each = access-such thread line origins.Access modes.User before told after (λ frame saw. own line saw.mask frame (set-at saw.mask line saw.bad) saw.saw) is each
    row-such (commands.RaiseUser thread ripv eipv) answer before told after own own_weak raw are is each = raise-such (Some thread) (arrival_of (commands.RaiseUser thread ripv eipv)) answer before told after is each
    row-such (commands.RaiseKernel ripv eipv) answer before told after own own_weak raw are is each = raise-such None (arrival_of (commands.RaiseKernel ripv eipv)) answer before told after is each
    row-such (commands.Scrub first last) answer before told after own own_weak raw are is each = scrub-such own own_weak first last answer before told after are is each
    row-such (commands.Log status addr misc) answer before told after own own_weak raw are (none, left) each =
        (subst (AreSuch P weak) (sym none) (λ i t there. absurd (none-some t there)), subst (HoldSuch P) (sym left) (raw-such answer (raw_event status addr misc) before (raw status addr misc refl) each))
    row-such command answer before told after own own_weak raw are is each = untold-such before told after is each

    -- ---- of a store that copied a page first

    module _ (own : (line mask : ℕ) (frame : Frame) → bit_at mask line ≡ 1 → Saw view who (places.Bad frame) mask → P (line_address frame line)) where
      line-such : (thread : Thread) (line : ℕ) (banks : Banks) (checks : List Check) → AreChecks layout view who thread line origins.Access modes.User banks checks → HoldSuch P banks → AreSuch P weak (lines_of checks)
      line-such thread line banks checks are each = checks-such thread line origins.Access modes.User banks checks (λ frame saw. own line saw.mask frame (set-at saw.mask line saw.bad) saw.saw) are each

      none-such : (checks : List Check) → checks ≡ [] → AreSuch P weak (lines_of checks)
      none-such checks none = subst (λ (l : List Check). AreSuch P weak (lines_of l)) (sym none) (λ i t there. absurd (none-some t there))

      module _ (thread : Thread) (to : VSlot) (line word : ℕ) (of_to : Page) (process : Proc) (page : Page) where
        run-such : (c : Cow) (x : CowAt) (banks : Banks) (r : Run) → IsRun layout view (store_by who thread to line word of_to process) page banks r (cows.sub_at c x) → HoldSuch P banks → AreSuch P weak (lines_of r.checks)
        run-such c (cow_at.Load n) banks r run each = line-such thread n banks r.checks run.checked each
        run-such c (cow_at.Store n w) banks r run each = line-such thread n banks r.checks run.checked each
        run-such c cow_at.Last banks r run each = line-such thread c.line banks r.checks run.checked each
        run-such c cow_at.Free banks r run each = none-such r.checks run.unchecked
        run-such c cow_at.Switched banks r run each = absurd run

        runs-such : (c : Cow) (banks : Banks) (runs : List Run) → AreRuns layout view (store_by who thread to line word of_to process) page c banks runs → HoldSuch P banks → AreSuch P weak (lines_of (checks_by runs))
        runs-such c banks [] are each = λ i t there. absurd (none-some t there)
        runs-such c banks (r ∷ rs) are each = subst (AreSuch P weak) (sym (lines-behind r.checks (checks_by rs)))
            (each-append (IsSuch P weak) (lines_of r.checks) (lines_of (checks_by rs)) (run-such c c.at banks r are.0 each) (runs-such (cows.told_by c r.word) (left_by banks r.checks) rs are.1 (left-such banks r.checks each)))

        next-such : (sub : Sub) (banks : Banks) (checks : List Check) → AreChecksOf layout view (request_by (store_by who thread to line word of_to process) page sub) banks checks → HoldSuch P banks → AreSuch P weak (lines_of checks)
        next-such (subs.Load slot n) banks checks are each = line-such thread n banks checks are each
        next-such (subs.Store slot n w) banks checks are each = line-such thread n banks checks are each
        next-such (subs.Free slot) banks checks none each = none-such checks none
        next-such subs.Switched banks checks none each = none-such checks none

      copy-such : (thread : Thread) (from to : VSlot) (line word : ℕ) (before : Banks) (told : List EventOutcome) (after : Banks) → IsCopyTold layout view who thread from to line word before told after → HoldSuch P before → AreSuch P weak told × HoldSuch P after
      copy-such thread from to line word before told after is each = (
        subst (AreSuch P weak) (sym (is.told_is ∙ lines-behind (checks_by is.has.runs) is.last)) (each-append (IsSuch P weak) (lines_of (checks_by is.has.runs)) (lines_of is.last)
            (runs-such thread to line word is.page is.process is.has.page (cows.begin from to line word) before is.has.runs is.has.are each)
            (next-such thread to line word is.page is.process is.has.page _ (left_by before (checks_by is.has.runs)) is.last is.are (left-such before (checks_by is.has.runs) each))),
        subst (HoldSuch P) (sym is.after_is) (left-such before (checks_by is.has.runs ++ is.last) each),
      )

    with-such : (copied : Option VSlot) (command : Command) (answer : Answer) (before : Banks) (told : List EventOutcome) (after : Banks) → ((line mask : ℕ) (frame : Frame) → bit_at mask line ≡ 1 → Saw view who (places.Bad frame) mask → P (line_address frame line))
        → (weak ≡ true → (line mask : ℕ) (frame : Frame) → bit_at mask line ≡ 1 → Saw view who (places.Weak frame) mask → P (line_address frame line))
        → ((status addr misc : ℕ) → command ≡ commands.Log status addr misc → P addr) → AreBanks before → AreToldWith layout copied view who command answer before told after → HoldSuch P before → AreSuch P weak told × HoldSuch P after
    with-such None command answer before told after own own_weak raw are is each = row-such command answer before told after own own_weak raw are is each
    with-such (Some from) (commands.Store thread to line word) answer before told after own own_weak raw are is each = copy-such own thread from to line word before told after is each
    with-such (Some from) command answer before told after own own_weak raw are is each = absurd is

  -- of all commands of a processor
  rows-such : (layout : Layout) (copies : Who → Option VSlot) (earlier : List (Command × Answer)) (view : View) (cpu : Cpu) (n : ℕ) (before : Banks) (cs : List Command) (rows : List Row) (after : Banks) → ((who : Who) (line mask : ℕ) (frame : Frame) → bit_at mask line ≡ 1 → Saw view who (places.Bad frame) mask → P (line_address frame line))
      → (weak ≡ true → (who : Who) (line mask : ℕ) (frame : Frame) → bit_at mask line ≡ 1 → Saw view who (places.Weak frame) mask → P (line_address frame line))
      → ((k status addr misc : ℕ) → slice_get cs k ≡ Some (commands.Log status addr misc) → P addr) → AreBanks before → AreRowsServed layout copies earlier view cpu n before cs rows after → HoldSuch P before → EachMember (λ (row : Row). AreSuch P weak row.told) rows
  rows-such layout copies earlier view cpu n before cs [] after own own_weak raw free are each = λ i row there. absurd (none-some row there)
  rows-such layout copies earlier view cpu n before [] (row ∷ rows) after own own_weak raw free are each = absurd are
  rows-such layout copies earlier view cpu n before (c ∷ cs) (row ∷ rows) after own own_weak raw free (between, served, rest) each =
      let such = with-such layout view (record { cpu = cpu; seq = n }) (copies (record { cpu = cpu; seq = n })) c row.answer before row.told between (own (record { cpu = cpu; seq = n })) (λ yes_. own_weak yes_ (record { cpu = cpu; seq = n })) (λ status addr misc is. raw 0 status addr misc (ap (λ (x : Command). Some x) is)) free served.told each in
      each-cons (λ (r : Row). AreSuch P weak r.told) row rows such.0 (rows-such layout copies (earlier ++ (c, row.answer) ∷ []) view cpu (n + 1) between cs rows after own own_weak (λ k status addr misc there. raw (suc k) status addr misc there) (with-free layout view (record { cpu = cpu; seq = n }) (copies (record { cpu = cpu; seq = n })) c row.answer before row.told between served.told free) rest such.1)

-- ---- at the end

module _ (script : Script) (copies : Who → Option VSlot) (seat : Cpu → ℕ) (last : State) (report : Report) (end : IsEnd script copies seat last report) where
  -- the script names the frame of the address
  abbrev pub IsNamed : ℕ → Type 0
  IsNamed addr = list_any (λ n. n == frame_at addr) (named_frames script) ≡ true

  -- a spoiled line, by the command that spoiled it
  spoil-named : (damage : Damage) → ((frame : Frame) (line : ℕ) → frame_named (has_watch script) (spoiling damage frame line) ≡ Some frame.0) → (cpu : Cpu) → cpu.0 < script.layout.cpus → (who : Who) (line mask : ℕ) (frame : Frame) → bit_at mask line ≡ 1
      → Saw (view_of last (seat cpu)) who (damage_place frame damage) mask → IsNamed (line_address frame line)
  spoil-named damage names cpu inside who line mask frame one saw =
      let is = spoiled-at-end script copies seat last report end cpu inside who frame damage line mask one saw in
      let was = (spoiled-so script copies seat last report end frame damage line is.word is.there).0 is.set in
      let few : line < 64 = is.few in
      let at : (frame.0 * 4096 + line * 64) / 4096 ≡ frame.0 = omega (arith, few) in
      subst (λ (f : ℕ). list_any (λ n. n == f) (named_frames script) ≡ true) (sym at) (named-at script was.who (spoiling damage frame line) frame.0 was.made (names frame line))

  weak-names : has_watch script ≡ true → (frame : Frame) (line : ℕ) → frame_named (has_watch script) (commands.Weak frame line) ≡ Some frame.0
  weak-names watches frame line = ap (λ (b : Bool). frame_named b (commands.Weak frame line)) watches

  -- each failure that a row tells is of a named frame; in a script with a `watch` each event is
  pub events-named : (cpu : Cpu) (list : List Command) (own : List Row) → cpu.0 < script.layout.cpus → slice_get script.lists cpu.0 ≡ Some list → slice_get end.rows cpu.0 ≡ Some own → EachMember (λ (row : Row). AreSuch IsNamed (has_watch script) row.told) own
  events-named cpu list own inside list_is own_is =
      let served = (served-of script copies seat last report end cpu list own list_is own_is).0 in
      rows-such IsNamed (has_watch script) script.layout copies [] (view_of last (seat cpu)) cpu 0 empty_banks list own served.banks (spoil-named damages.Bad (λ frame line. refl) cpu inside) (λ watches. spoil-named damages.Weak (weak-names watches) cpu inside)
      (λ k status addr misc there. named-of (has_watch script) (frame_at addr) script.lists cpu.0 k list (commands.Log status addr misc) list_is there refl) empty-free served.rows_are (empty-such IsNamed (has_watch script) bank_count)

-- ---- noted frames

-- what holds of each line holds of each in its check
lines-such : (P : EventLine → Type 0) (ls : List EventLine) → EachMember P ls → EachMember (EachMember P) (checks ls)
lines-such P [] each = λ i c there. absurd (none-some c there)
lines-such P (l ∷ ls) each = with-such (checks ls) (each 0 l refl) (lines-such P ls (λ i x there. each (suc i) x there))
  where
    alone : P l → EachMember P (l ∷ [])
    alone here = each-cons P l [] here (λ i x there. absurd (none-some x there))

    with-such : (cs : List (List EventLine)) → P l → EachMember (EachMember P) cs → EachMember (EachMember P) (with_line l cs)
    with-such [] here are = each-cons (EachMember P) (l ∷ []) [] (alone here) are
    with-such ([] ∷ cs) here are = each-cons (EachMember P) (l ∷ []) ([] ∷ cs) (alone here) are
    with-such ((next ∷ more) ∷ cs) here are = which (nat_lt l.bank next.bank)
      where
        which : (b : Bool) → EachMember (EachMember P) (if b then (l ∷ next ∷ more) ∷ cs else (l ∷ []) ∷ (next ∷ more) ∷ cs)
        which true = each-cons (EachMember P) (l ∷ next ∷ more) cs (each-cons P l (next ∷ more) here (are 0 (next ∷ more) refl)) (λ i c there. are (suc i) c there)
        which false = each-cons (EachMember P) (l ∷ []) ((next ∷ more) ∷ cs) (alone here) are

-- the frame that a line notes is that of its address
noted-of : (layout : Layout) (l : EventLine) (f : Frame) → noted_frame layout l ≡ Some f → f.0 ≡ frame_at l.addr
noted-of layout l f is = which (is_corrected l && is_for_pages layout (frame_of l)) is
  where
    which : (b : Bool) → (if b then Some (frame_of l) else None) ≡ Some f → f.0 ≡ frame_at l.addr
    which true is = ap (λ (x : Frame). x.0) (sym (same_Some (frame_of l) f is))
    which false is = absurd (none-some f is)

-- so the frames that lines note are such as their addresses
pub notes-such : (P : ℕ → Type 0) (layout : Layout) (ls : List EventLine) → EachMember (λ (l : EventLine). P (frame_at l.addr)) ls → EachMember (λ (f : Frame). P f.0) (notes layout ls)
notes-such P layout ls each = all (checks ls) (lines-such (λ (l : EventLine). P (frame_at l.addr)) ls each)
  where
    of-check : (c : List EventLine) → EachMember (λ (l : EventLine). P (frame_at l.addr)) c → EachMember (λ (f : Frame). P f.0) (notes_of_check layout c)
    of-check c each = which (list_any ends_machine c)
      where
        which : (b : Bool) → EachMember (λ (f : Frame). P f.0) (if b then [] else filter_map (noted_frame layout) c)
        which true = λ i f there. absurd (none-some f there)
        which false = λ i f there. let of = picked-is (noted_frame layout) c i f there in subst P (sym (noted-of layout of.1 f of.3)) (each of.0 of.1 of.2)

    all : (cs : List (List EventLine)) → EachMember (EachMember (λ (l : EventLine). P (frame_at l.addr))) cs → EachMember (λ (f : Frame). P f.0) (flat_map (notes_of_check layout) cs)
    all [] each = λ i f there. absurd (none-some f there)
    all (c ∷ cs) each = each-append (λ (f : Frame). P f.0) (notes_of_check layout c) (flat_map (notes_of_check layout) cs) (of-check c (each 0 c refl)) (all cs (λ i x there. each (suc i) x there))

-- and so are those of them that are due
pub due-such : (P : Frame → Type 0) (w : Option Watched) (frames : List Frame) → EachMember P frames → EachMember P (due w frames)
due-such P None frames each = λ i f there. absurd (none-some f there)
due-such P (Some w) frames each = offlining-such w frames each
  where
    offlining-such : (w : Watched) (frames : List Frame) → EachMember P frames → EachMember P (offlining w frames)
    offlining-such w [] each = each
    offlining-such w (f ∷ fs) each = which (live w.threshold w.window w.events f.0 == w.threshold) (offlining-such (told (Note f ∷ []) w) fs (λ i x there. each (suc i) x there))
      where
        which : (b : Bool) → EachMember P (offlining (told (Note f ∷ []) w) fs) → EachMember P (if b then f ∷ offlining (told (Note f ∷ []) w) fs else offlining (told (Note f ∷ []) w) fs)
        which true rest = each-cons P f (offlining (told (Note f ∷ []) w) fs) (each 0 f refl) rest
        which false rest = rest
