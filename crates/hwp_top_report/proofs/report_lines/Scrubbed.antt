-- The event lines of a scrub are those of the frames that it went over.
use Rattle.std.proofs.Common.{◌≡◌, ◌⊎◌, inl, inr, ℕ, zero, suc, ◌+◌, ◌-◌, ◌<◌, ◌≤◌, Bool, true, false, List, [], ◌∷◌, ◌++◌, Option, None, Some, length, map, slice_get, append_assoc, append-nil, refl, sym, ap, ◌∙◌, subst, arith, true≢false}
use Rattle.std.specs.Int.{bit_at}
use Rattle.std.specs.Prelude.{IsSomeAnd}
use Rattle.std.proofs.lemmas.Bool.{cases_lt}
use Rattle.std.proofs.lemmas.List.{map-append}
use Rattle.std.proofs.lemmas.Option.{option_and_then_some, same_Some}
use Rattle.hwp_law_served.specs.hwp_geom.declared.VSlot.{VSlot}
use Rattle.hwp_law_served.specs.hwp_geom.declared.Cpu.{Cpu}
use Rattle.hwp_law_served.specs.hwp_geom.declared.Damage.{Damage}
use Rattle.hwp_law_served.specs.hwp_geom.declared.Damage.TheVariants as damages
use Rattle.hwp_law_served.specs.hwp_geom.declared.Frame.{Frame}
use Rattle.hwp_law_served.specs.hwp_geom.declared.Layout.{Layout}
use Rattle.hwp_law_served.specs.hwp_geom.declared.Who.{Who}
use Rattle.hwp_law_served.specs.hwp_page.Orders.{IsEarlier}
use Rattle.hwp_law_served.specs.hwp_core_rule.declared.SharedWord.TheVariants as places
use Rattle.hwp_law_served.specs.hwp_core_rule.declared.State.{State}
use Rattle.hwp_law_served.specs.hwp_core_rule.declared.View.{View}
use Rattle.hwp_law_served.specs.hwp_core_rule.Lists.{EachMember}
use Rattle.hwp_law_served.specs.hwp_core_rule.Steps.{damage_place}
use Rattle.hwp_law_served.specs.hwp_core_rule.Boards.{view_of}
use Rattle.hwp_law_served.specs.hwp_script_words.declared.Command.{Command}
use Rattle.hwp_law_served.specs.hwp_script_words.declared.Script.{Script}
use Rattle.hwp_law_served.specs.hwp_report_text.declared.Answer.{Answer}
use Rattle.hwp_law_served.specs.hwp_report_text.declared.Answer.TheVariants as answers
use Rattle.hwp_law_served.specs.hwp_report_text.declared.EventLine.{EventLine}
use Rattle.hwp_law_served.specs.hwp_report_text.declared.Report.{Report}
use Rattle.hwp_law_served.specs.hwp_banks.Banks.{Banks}
use Rattle.hwp_law_served.specs.hwp_law.Events.{AreScrubbed, IsBadFound, IsScrubbed, IsWeakFound}
use Rattle.hwp_law_served.specs.hwp_law.Lines.{answer_of}
use Rattle.hwp_law_served.specs.hwp_law.Commands.{command_at}
use Rattle.hwp_law_served.specs.hwp_cpu_row.declared.FrameChange.{FrameChange}
use Rattle.hwp_law_served.specs.hwp_cpu_row.declared.Row.{Row}
use Rattle.hwp_law_served.specs.hwp_claim.declared.EventOutcome.{EventOutcome}
use Rattle.hwp_law_served.specs.hwp_scrub.Visits as scrubs
use Rattle.hwp_law_served.specs.hwp_scrub.Visits.{AreVisits, IsBadMet, IsLowest, IsVisit, IsWeakMet, SawLowest, Visit, left_by_bad, left_by_visit, left_by_weak, lines_of_visit, scrub_bank, scrubbing, with_bad}
use Rattle.hwp_law_served.specs.Causes.{HasSpoiledLine, IsAnswerCaused, IsCausedWith}
use Rattle.hwp_law_served.specs.hwp_cpu_row.Acts.{event_at}
use Rattle.hwp_law_served.specs.Served.{spoiling}
use Rattle.hwp_law_served.specs.Told.{IsCutShort, IsScrubTold, IsUntold}
use Rattle.hwp_top_report.proofs.report_lines.Checks.{HasResult, check-so, each-first, each-second, lines-so}
use Rattle.hwp_law_served.proofs.RunEnds.{IsEnd, IsOf, command-of, served-of}
use Rattle.hwp_law_served.proofs.RowLines.{answer-told}
use Rattle.hwp_top_report.proofs.report_lines.SpoiledLines.{seen-after, spoil-shown, spoiling-plain}
use Rattle.hwp_law_served.proofs.copied.Uncopied.{uncopied}

-- a scrub went to its end
abbrev is_whole : Answer → Bool
is_whole (answers.Scrubbed n) = true
is_whole _ = false

-- a command that spoils a line did so, or found the machine stopped
spoiled-or : (layout : Layout) (earlier : List (Command × Answer)) (view : View) (who : Who) (frame : Frame) (n : ℕ) (damage : Damage) (told : List EventOutcome) (own : Option FrameChange) (answer : Answer) → IsAnswerCaused layout earlier view who (spoiling damage frame n) told own answer
    → HasSpoiledLine view who frame n damage ⊎ (answer ≡ answers.Stopped)
spoiled-or layout earlier view who frame n damage told own answers.Stopped caused = inr refl
spoiled-or layout earlier view who frame n damages.Bad told own answers.Done caused = inl caused
spoiled-or layout earlier view who frame n damages.Weak told own answers.Done caused = inl caused
spoiled-or layout earlier view who frame n damages.Bad told own (answers.Sigbus at) (inl never) = absurd never
spoiled-or layout earlier view who frame n damages.Bad told own (answers.Sigbus at) (inr never) = absurd never
spoiled-or layout earlier view who frame n damages.Weak told own (answers.Sigbus at) (inl never) = absurd never
spoiled-or layout earlier view who frame n damages.Weak told own (answers.Sigbus at) (inr never) = absurd never
spoiled-or layout earlier view who frame n damages.Bad told own answers.GuestBad caused = absurd caused.1
spoiled-or layout earlier view who frame n damages.Bad told own answers.GuestStopped caused = absurd caused.1
spoiled-or layout earlier view who frame n damages.Weak told own answers.GuestBad caused = absurd caused.1
spoiled-or layout earlier view who frame n damages.Weak told own answers.GuestStopped caused = absurd caused.1
spoiled-or layout earlier view who frame n damages.Bad told own answer caused = absurd caused
spoiled-or layout earlier view who frame n damages.Weak told own answer caused = absurd caused

-- a line that the word marks is no lower than the lowest
lowest-met : (word line : ℕ) (met : Option ℕ) → IsLowest word met → bit_at word line ≡ 1 → IsSomeAnd met (λ (k : ℕ). k ≤ line)
lowest-met word line None lowest one = let none : bit_at word line ≡ 0 = lowest line (omega arith) in absurd (omega (arith, one, none))
lowest-met word line (Some k) lowest one = which (cases_lt line k)
  where
    which : (line < k) ⊎ (k ≤ line) → k ≤ line
    which (inl less) = let none : bit_at word line ≡ 0 = lowest.lowest line (omega arith) less in absurd (omega (arith, one, none))
    which (inr past) = past

module _ (script : Script) (copies : Who → Option VSlot) (seat : Cpu → ℕ) (last : State) (report : Report) (end : IsEnd script copies seat last report) (who : Who) (of : IsOf script copies end.rows (view_of last (seat who.cpu)) who) where
  abbrev view : View
  view = view_of last (seat who.cpu)

  abbrev Result : EventOutcome → Type 0
  Result = HasResult script copies seat last report end who of.inside

  abbrev told_lines : List EventOutcome → List EventLine
  told_lines told = map (event_at who.seq) told

  abbrev Scrubs : ℕ → ℕ → Banks → List EventLine → Banks → Type 0
  Scrubs frame n banks lines after = AreScrubbed script report who scrubbing frame n banks lines after

  -- ---- lines that earlier commands spoiled

  -- where a scrub went to its end, an earlier command of the processor spoiled its line
  had-spoiled : (n line : ℕ) (earlier : Who) (frame : Frame) (damage : Damage) → answer_of report who ≡ Some (answers.Scrubbed n) → IsEarlier earlier who → command_at script earlier ≡ Some (spoiling damage frame line) → HasSpoiledLine view earlier frame line damage
  had-spoiled n line earlier frame damage whole before at =
      option_and_then_some (λ (l : List Command). slice_get l earlier.seq) (slice_get script.lists earlier.cpu.0) (spoiling damage frame line) at (λ list list_is there. (
      let by = command-of script copies seat last report end earlier list (spoiling damage frame line) list_is there in
      let lists_same : by.list ≡ list = same_Some by.list list (sym by.list_is ∙ list_is) in
      let command : by.command ≡ spoiling damage frame line = same_Some by.command (spoiling damage frame line) (sym by.command_is ∙ ap (λ (l : List Command). slice_get l earlier.seq) lists_same ∙ there) in
      let caused = uncopied script.layout by.earlier (copies earlier) (view_of last (seat earlier.cpu)) earlier (spoiling damage frame line) by.before by.row.told by.row.own by.row.answer (spoiling-plain frame line damage)
      (subst (λ (c : Command). IsCausedWith script.layout by.earlier (copies earlier) (view_of last (seat earlier.cpu)) earlier c by.before by.row.told by.row.own by.row.answer) command by.served.caused) in
      which by (spoiled-or script.layout by.earlier (view_of last (seat earlier.cpu)) earlier frame line damage by.row.told by.row.own by.row.answer caused)))
    where
      which : (by : IsOf script copies end.rows (view_of last (seat earlier.cpu)) earlier) → HasSpoiledLine (view_of last (seat earlier.cpu)) earlier frame line damage ⊎ (by.row.answer ≡ answers.Stopped) → HasSpoiledLine view earlier frame line damage
      which by (inl has) = subst (λ (c : Cpu). HasSpoiledLine (view_of last (seat c)) earlier frame line damage) before.0 has
      which by (inr stopped) =
          let rows_same : by.own ≡ of.own = same_Some by.own of.own (sym by.own_is ∙ ap (λ (c : Cpu). slice_get end.rows c.0) before.0 ∙ of.own_is) in
          let row_is : slice_get of.own earlier.seq ≡ Some by.row = sym (ap (λ (l : List Row). slice_get l earlier.seq) rows_same) ∙ by.row_is in
          let served = (served-of script copies seat last report end who.cpu of.list of.own of.list_is of.own_is).0 in
          let later : of.row.answer ≡ answers.Stopped = served.stays earlier.seq who.seq by.row of.row before.1 row_is of.row_is stopped in
          let answered : of.row.answer ≡ answers.Scrubbed n = same_Some of.row.answer (answers.Scrubbed n) (sym (answer-told script copies seat last report end view who of) ∙ whole) in
          absurd (true≢false (ap is_whole (sym answered ∙ later)))

  meets : (frame : Frame) (damage : Damage) (met : Option ℕ) → SawLowest view who (damage_place frame damage) met → (n line : ℕ) (earlier : Who) → answer_of report who ≡ Some (answers.Scrubbed n) → IsEarlier earlier who → command_at script earlier ≡ Some (spoiling damage frame line)
      → IsSomeAnd met (λ (k : ℕ). k ≤ line)
  meets frame damage met saw n line earlier whole before at =
      lowest-met saw.word line met saw.lowest (seen-after script copies seat last report end who.cpu of.inside earlier who before frame damage line saw.word (had-spoiled n line earlier frame damage whole before at) saw.saw)

  -- ---- a frame

  bad-found : (frame : Frame) (banks : Banks) (line : Option ℕ) (lines : List EventOutcome) → SawLowest view who (places.Bad frame) line → IsBadMet script.layout view who frame banks line lines → EachMember Result lines
      → IsBadFound script report who scrubbing frame line banks (told_lines lines) (left_by_bad line banks)
  bad-found frame banks None lines saw none results = (ap told_lines none, refl)
  bad-found frame banks (Some line) lines saw acted results = (
    spoil-shown script copies seat last report end who.cpu of.inside who frame damages.Bad line saw.word saw.lowest.is_set saw.saw,
    refl,
    check-so script copies seat last report end who of.inside None scrubbing (with_bad frame line banks) lines acted results,
  )

  weak-found : (frame : Frame) (banks : Banks) (line : Option ℕ) (lines : List EventOutcome) → SawLowest view who (places.Weak frame) line → IsWeakMet script.layout view who frame banks line lines → EachMember Result lines
      → IsWeakFound script report who scrubbing frame line banks (told_lines lines) (left_by_weak line banks)
  weak-found frame banks None lines saw none results = (ap told_lines none, refl)
  weak-found frame banks (Some line) lines saw kept results = (
    kept.event,
    spoil-shown script copies seat last report end who.cpu of.inside who frame damages.Weak line saw.word saw.lowest.is_set saw.saw,
    kept.held,
    lines-so script copies seat last report end who of.inside None scrubbing false ((scrub_bank, kept.event) ∷ []) lines kept.events kept.told results,
    refl,
  )

  visited-so : (frame : Frame) (banks : Banks) (v : Visit) → IsVisit script.layout view who frame banks v → EachMember Result (lines_of_visit v) → IsScrubbed script report who scrubbing frame banks (told_lines (lines_of_visit v)) (left_by_visit v banks)
  visited-so frame banks v is results = record {
    bad = v.bad.line;
    weak = v.weak.line;
    bad_lines = told_lines v.bad.lines;
    weak_lines = told_lines v.weak.lines;
    between = left_by_bad v.bad.line banks;
    all = map-append (event_at who.seq) v.bad.lines v.weak.lines;
    bad_found = bad-found frame banks v.bad.line v.bad.lines is.bad.saw is.bad.met (each-first Result v.bad.lines v.weak.lines results);
    weak_found = weak-found frame (left_by_bad v.bad.line banks) v.weak.line v.weak.lines is.weak.saw is.weak.met (each-second Result v.bad.lines v.weak.lines results);
    met_bad = meets frame damages.Bad v.bad.line is.bad.saw;
    met_weak = meets frame damages.Weak v.weak.line is.weak.saw;
  }

  -- ---- frames

  -- visits, and what comes after them
  then-so : (frame : ℕ) (banks : Banks) (visits : List Visit) (m : ℕ) (later : List EventLine) (after : Banks) → AreVisits script.layout view who frame banks visits → EachMember Result (scrubs.lines_of visits)
      → Scrubs (frame + length visits) m (scrubs.left_by banks visits) later after → Scrubs frame (length visits + m) banks (told_lines (scrubs.lines_of visits) ++ later) after
  then-so frame banks [] m later after are results rest =
      let same : frame + 0 ≡ frame = omega arith in
      let none : m ≡ 0 + m = omega arith in
      subst (λ (n : ℕ). Scrubs frame n banks later after) none (subst (λ (n : ℕ). Scrubs n m banks later after) same rest)
  then-so frame banks (v ∷ vs) m later after (is, more) results rest = subst (λ (n : ℕ). Scrubs frame n banks (told_lines (scrubs.lines_of (v ∷ vs)) ++ later) after) count (
    told_lines (lines_of_visit v),
    told_lines (scrubs.lines_of vs) ++ later,
    left_by_visit v banks,
    ap (λ (l : List EventLine). l ++ later) (map-append (event_at who.seq) (lines_of_visit v) (scrubs.lines_of vs)) ∙ append_assoc (told_lines (lines_of_visit v)) (told_lines (scrubs.lines_of vs)) later,
    visited-so (record { 0 = frame }) banks v is (each-first Result (lines_of_visit v) (scrubs.lines_of vs) results),
    then-so (frame + 1) (left_by_visit v banks) vs m later after more (each-second Result (lines_of_visit v) (scrubs.lines_of vs) results)
        (subst (λ (n : ℕ). Scrubs n m (scrubs.left_by (left_by_visit v banks) vs) later after) next rest),
  )
    where
      next : frame + suc (length vs) ≡ (frame + 1) + length vs
      next = omega arith

      count : suc (length vs + m) ≡ suc (length vs) + m
      count = omega arith

  -- ---- a scrub that didn't go to its end

  module _ (part : (n : ℕ) → answer_of report who ≡ Some (answers.Scrubbed n) → ⊥) where
    -- frames that it didn't look at
    rest-so : (frame n : ℕ) (banks : Banks) → Scrubs frame n banks [] banks
    rest-so frame zero banks = (refl, refl)
    rest-so frame (suc more) banks = (
      [],
      [],
      banks,
      refl,
      record {
        bad = None;
        weak = None;
        bad_lines = [];
        weak_lines = [];
        between = banks;
        all = refl;
        bad_found = (refl, refl);
        weak_found = (refl, refl);
        met_bad = λ n line earlier whole before at. absurd (part n whole);
        met_weak = λ n line earlier whole before at. absurd (part n whole);
      },
      rest-so (frame + 1) more banks,
    )

    -- the frame whose bad line stopped the machine, and those after it
    stopped-so : (frame n : ℕ) (banks : Banks) (line : Option ℕ) (lines : List EventOutcome) → IsBadFound script report who scrubbing (record { 0 = frame }) line banks (told_lines lines) (left_by_bad line banks) → Scrubs frame (suc n) banks (told_lines lines) (left_by_bad line banks)
    stopped-so frame n banks line lines found = (
      told_lines lines,
      [],
      left_by_bad line banks,
      sym (append-nil (told_lines lines)),
      record {
        bad = line;
        weak = None;
        bad_lines = told_lines lines;
        weak_lines = [];
        between = left_by_bad line banks;
        all = sym (append-nil (told_lines lines));
        bad_found = found;
        weak_found = (refl, refl);
        met_bad = λ n line earlier whole before at. absurd (part n whole);
        met_weak = λ n line earlier whole before at. absurd (part n whole);
      },
      rest-so (frame + 1) n (left_by_bad line banks),
    )

    cut-so : (first last_frame : Frame) (before : Banks) (told : List EventOutcome) (after : Banks) → IsUntold told before after ⊎ IsCutShort script.layout view who first last_frame before told after → EachMember Result told
        → Scrubs first.0 (last_frame.0 + 1 - first.0) before (told_lines told) after
    cut-so first last_frame before told after (inl (none, same)) results =
        subst (λ (l : List EventOutcome). Scrubs first.0 (last_frame.0 + 1 - first.0) before (told_lines l) after) (sym none)
        (subst (Scrubs first.0 (last_frame.0 + 1 - first.0) before []) (sym same) (rest-so first.0 (last_frame.0 + 1 - first.0) before))
    cut-so first last_frame before told after (inr cut) results =
        let inside : first.0 + length cut.visits ≤ last_frame.0 = cut.inside in
        let left : ℕ = last_frame.0 - (first.0 + length cut.visits) in
        let all : length cut.visits + suc left ≡ last_frame.0 + 1 - first.0 = omega (arith, inside) in
        let each : EachMember Result (scrubs.lines_of cut.visits ++ cut.bad.lines) = subst (EachMember Result) cut.told_is results in
        let frame : Frame = record { 0 = first.0 + length cut.visits } in
        let banks : Banks = scrubs.left_by before cut.visits in
        let found = bad-found frame banks cut.bad.line cut.bad.lines cut.found.saw cut.found.met (each-second Result (scrubs.lines_of cut.visits) cut.bad.lines each) in
        let are = then-so first.0 before cut.visits (suc left) (told_lines cut.bad.lines) (left_by_bad cut.bad.line banks) cut.visited (each-first Result (scrubs.lines_of cut.visits) cut.bad.lines each)
        (stopped-so frame.0 left banks cut.bad.line cut.bad.lines found) in
        subst (λ (n : ℕ). Scrubs first.0 n before (told_lines told) after) all
        (subst (λ (l : List EventLine). Scrubs first.0 (length cut.visits + suc left) before l after) (sym (ap told_lines cut.told_is ∙ map-append (event_at who.seq) (scrubs.lines_of cut.visits) cut.bad.lines))
        (subst (Scrubs first.0 (length cut.visits + suc left) before (told_lines (scrubs.lines_of cut.visits) ++ told_lines cut.bad.lines)) (sym cut.after_is) are))

  -- ---- the scrub

  not-whole : (answer : Answer) → is_whole answer ≡ false → answer_of report who ≡ Some answer → (n : ℕ) → answer_of report who ≡ Some (answers.Scrubbed n) → ⊥
  not-whole answer other is n whole = true≢false (ap is_whole (same_Some (answers.Scrubbed n) answer (sym whole ∙ is)) ∙ other)

  pub scrubbed-so : (first last_frame : Frame) (answer : Answer) (before : Banks) (told : List EventOutcome) (after : Banks) → IsScrubTold script.layout view who first last_frame answer before told after → answer_of report who ≡ Some answer → EachMember Result told
      → Scrubs first.0 (last_frame.0 + 1 - first.0) before (told_lines told) after
  scrubbed-so first last_frame (answers.Scrubbed n) before told after is answered results =
      let each : EachMember Result (scrubs.lines_of is.visits) = subst (EachMember Result) is.told_is results in
      let are = then-so first.0 before is.visits 0 [] (scrubs.left_by before is.visits) is.visited each (refl, refl) in
      let none : length is.visits + 0 ≡ length is.visits = omega arith in
      subst (λ (k : ℕ). Scrubs first.0 k before (told_lines told) after) (none ∙ is.all)
      (subst (λ (l : List EventLine). Scrubs first.0 (length is.visits + 0) before l after) (append-nil (told_lines (scrubs.lines_of is.visits)) ∙ sym (ap told_lines is.told_is))
      (subst (Scrubs first.0 (length is.visits + 0) before (told_lines (scrubs.lines_of is.visits) ++ [])) (sym is.after_is) are))
  scrubbed-so first last_frame answer before told after is answered results = cut-so (not-whole answer refl answered) first last_frame before told after is results
