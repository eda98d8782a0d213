-- The lines that a scrub told rest on the words that its own steps were shown, and one that went to its end looked at each frame.
use Rattle.std.proofs.Common.{◌≡◌, ◌⊎◌, inl, inr, ℕ, ◌+◌, ◌-◌, ◌<◌, ◌≤◌, List, Option, None, Some, length, map, slice_get, sym, ap, ◌∙◌, subst, arith}
use Rattle.std.specs.Prelude.{◌↔◌}
use Rattle.std.specs.Int.{bit_at}
use Rattle.std.proofs.lemmas.Bool.{cases_lt}
use Rattle.std.proofs.lemmas.Option.{none-some, same_Some}
use Rattle.hwp_law_served.specs.hwp_geom.declared.Damage.{Damage}
use Rattle.hwp_law_served.specs.hwp_geom.declared.Damage.TheVariants as damages
use Rattle.hwp_law_served.specs.hwp_geom.declared.Frame.{Frame}
use Rattle.hwp_law_served.specs.hwp_geom.declared.Who.{Who}
use Rattle.hwp_law_served.specs.hwp_geom.Bits.{IsLowestBit}
use Rattle.hwp_law_served.specs.hwp_core_rule.declared.View.{View}
use Rattle.hwp_law_served.specs.hwp_core_rule.Lists.{EachMember, SomeMember}
use Rattle.hwp_law_served.specs.hwp_core_rule.Steps.{damage_place}
use Rattle.hwp_law_served.proofs.of_hwp_core_rule.Lists.{at_map, each-weaken, map-was}
use Rattle.hwp_law_served.proofs.of_hwp_core_rule.MoreEntries.{each-append}
use Rattle.hwp_law_served.specs.hwp_core_rule.Boards.{Played}
use Rattle.hwp_law_served.specs.hwp_core_rule.Known.{Saw}
use Rattle.hwp_law_served.specs.hwp_script_words.declared.Script.{Script}
use Rattle.hwp_law_served.specs.hwp_report_text.declared.Answer.{Answer}
use Rattle.hwp_law_served.specs.hwp_report_text.declared.Answer.TheVariants as answers
use Rattle.hwp_law_served.specs.hwp_report_text.declared.EventLine.{EventLine}
use Rattle.hwp_law_served.specs.hwp_report_text.declared.Report.{Report}
use Rattle.hwp_law_served.specs.hwp_banks.Banks.{Banks}
use Rattle.hwp_law_served.specs.hwp_law.Lines.{events_of}
use Rattle.hwp_law_served.specs.hwp_claim.declared.EventOutcome.{EventOutcome}
use Rattle.hwp_law_served.specs.Scrubs.{AreFoundShown, AreLookedAt, HasFound, IsFoundAt}
use Rattle.hwp_law_served.specs.Turns.{Finds}
use Rattle.hwp_law_served.proofs.Homes.{there-is}
use Rattle.hwp_law_served.proofs.turns.SeatKnows.{Said}
use Rattle.hwp_law_served.proofs.turns.SeatTells.{told}
use Rattle.hwp_law_served.specs.hwp_scrub.Visits as scrubs
use Rattle.hwp_law_served.specs.hwp_scrub.Visits.{AreBanks, IsLowest, SawLowest, Visit}
use Rattle.hwp_law_served.proofs.of_hwp_scrub.VisitLaws.{left-banks}
use Rattle.hwp_law_served.specs.hwp_cpu_row.Acts.{event_at}
use Rattle.hwp_law_served.specs.Told.{HasScrubbed, IsCutShort, IsScrubTold, IsUntold}
use Rattle.hwp_top_report.proofs.Shown.{word-shown}
use Rattle.hwp_top_report.proofs.report_lines.ScrubLines.{HasVisit, IsFoundIn, Tells, bad-here, find_of, line-told, origin_of, saw-of, visit-at, visits-here}

-- the lowest line of a word is one
lowest-is : (word : ℕ) (line : Option ℕ) (n : ℕ) → IsLowest word line → IsLowestBit word 0 n → line ≡ Some n
lowest-is word None n none low = let zero_ : bit_at word n ≡ 0 = none n (omega arith) in let one : bit_at word n ≡ 1 = low.is_set in absurd (omega (arith, zero_, one))
lowest-is word (Some k) n lowest low = which (cases_lt k n) (cases_lt n k)
  where
    which : (k < n) ⊎ (n ≤ k) → (n < k) ⊎ (k ≤ n) → ◌≡◌ {A = Option ℕ} (Some k) (Some n)
    which (inl less) other = let zero_ : bit_at word k ≡ 0 = low.lowest k (omega arith) less in let one : bit_at word k ≡ 1 = lowest.is_set in absurd (omega (arith, zero_, one))
    which (inr past) (inl less) = let zero_ : bit_at word n ≡ 0 = lowest.lowest n (omega arith) less in let one : bit_at word n ≡ 1 = low.is_set in absurd (omega (arith, zero_, one))
    which (inr past) (inr under) = ap (λ (i : ℕ). Some i) (let same : k ≡ n = omega (arith, past, under) in same)

module _ (script : Script) (report : Report) (turns : List Played) (view : View) (said : Said (told script.layout turns) view) (who : Who) where
  abbrev TellsAt : Damage → Frame → ℕ → EventOutcome → Type 0
  TellsAt damage frame n t = Tells script.layout view who damage frame n t

  -- a step of the command showed the line as the lowest of its word
  record IsSeen (damage : Damage) (frame : Frame) (n : ℕ) : Type 0 where
    word : ℕ
    lowest : IsLowestBit word 0 n
    saw : Saw view who (damage_place frame damage) word

  seen-so : (damage : Damage) (frame f : Frame) (n : ℕ) (line : Option ℕ) → SawLowest view who (damage_place f damage) line → f.0 ≡ frame.0 → line ≡ Some n → IsSeen damage frame n
  seen-so damage frame f n line saw frame_is line_is = record {
    word = saw.word;
    lowest = subst (IsLowest saw.word) line_is saw.lowest;
    saw = subst (λ (i : ℕ). Saw view who (damage_place (record { 0 = i }) damage) saw.word) frame_is saw.saw;
  }

  in-visits : (damage : Damage) (frame : Frame) (n m : ℕ) (banks : Banks) (visits : List Visit) → AreBanks banks → scrubs.AreVisits script.layout view who m banks visits → IsFoundIn script.layout view who damage frame n m visits → IsSeen damage frame n
  in-visits damage frame n m banks visits are visited found =
      let has = visit-at script.layout view who m banks visits are visited found.j found.v found.there in
      seen-so damage frame (record { 0 = m + found.j }) n (find_of damage found.v).line (saw-of damage found.v has.is) found.frame_is found.line_is

  module _ (first last_frame : Frame) (before : Banks) (are : AreBanks before) (lines : List EventOutcome) (after : Banks) (events : events_of report who ≡ map (event_at who.seq) lines) where
    -- ---- each line that is told was seen

    visits-seen : (damage : Damage) (frame : Frame) (n : ℕ) (visits : List Visit) → scrubs.AreVisits script.layout view who first.0 before visits → EachMember (λ (t : EventOutcome). TellsAt damage frame n t → IsSeen damage frame n) (scrubs.lines_of visits)
    visits-seen damage frame n visits visited =
        each-weaken (λ (t : EventOutcome). TellsAt damage frame n t → IsFoundIn script.layout view who damage frame n first.0 visits) (λ (t : EventOutcome). TellsAt damage frame n t → IsSeen damage frame n) (scrubs.lines_of visits)
        (λ t found tells. in-visits damage frame n first.0 before visits are visited (found tells)) (visits-here script.layout view who damage frame n first.0 before visits are visited)

    cut-seen : (damage : Damage) (frame : Frame) (n : ℕ) → IsUntold lines before after ⊎ IsCutShort script.layout view who first last_frame before lines after → EachMember (λ (t : EventOutcome). TellsAt damage frame n t → IsSeen damage frame n) lines
    cut-seen damage frame n (inl (none, same)) = subst (EachMember (λ (t : EventOutcome). TellsAt damage frame n t → IsSeen damage frame n)) (sym none) (λ i t there. absurd (none-some t there))
    cut-seen damage frame n (inr cut) = subst (EachMember Seen) (sym cut.told_is)
        (each-append Seen (scrubs.lines_of cut.visits) cut.bad.lines (visits-seen damage frame n cut.visits cut.visited)
        (each-weaken _ Seen cut.bad.lines (λ t here tells. (let one = here tells in subst (λ (d : Damage). IsSeen d frame n) one.0 (seen-so damages.Bad frame f n cut.bad.line cut.found.saw one.1 one.2)))
        (bad-here script.layout view who damage f frame n (scrubs.left_by before cut.visits) (left-banks before cut.visits are) cut.bad.line cut.bad.lines cut.found.saw cut.found.met)))
      where
        Seen : EventOutcome → Type 0
        Seen t = TellsAt damage frame n t → IsSeen damage frame n

        f : Frame
        f = record { 0 = first.0 + length cut.visits }

    lines-seen : (answer : Answer) → IsScrubTold script.layout view who first last_frame answer before lines after → (damage : Damage) (frame : Frame) (n : ℕ) → EachMember (λ (t : EventOutcome). TellsAt damage frame n t → IsSeen damage frame n) lines
    lines-seen (answers.Scrubbed k) is damage frame n = subst (EachMember (λ (t : EventOutcome). TellsAt damage frame n t → IsSeen damage frame n)) (sym is.told_is) (visits-seen damage frame n is.visits is.visited)
    lines-seen answer is damage frame n = cut-seen damage frame n is

    -- a line of the report is one that was told
    was-told : (damage : Damage) (frame : Frame) (n : ℕ) → HasFound report who (origin_of damage) frame n → SomeMember (TellsAt damage frame n) lines
    was-told damage frame n found =
        let was = map-was (event_at who.seq) lines found.0 found.1 (sym (ap (λ (l : List EventLine). slice_get l found.0) events) ∙ found.2) in
        (found.0, was.0, was.1, subst (IsFoundAt (origin_of damage) frame n) (sym was.2) found.3)

    found-seen : (answer : Answer) → IsScrubTold script.layout view who first last_frame answer before lines after → (damage : Damage) (frame : Frame) (n : ℕ) → HasFound report who (origin_of damage) frame n → IsSeen damage frame n
    found-seen answer is damage frame n found = let t = was-told damage frame n found in lines-seen answer is damage frame n t.0 t.1 t.2 t.3

    pub bad-shown : (answer : Answer) → IsScrubTold script.layout view who first last_frame answer before lines after → AreFoundShown script report turns who (origin_of damages.Bad)
    bad-shown answer is frame n found =
        let seen = found-seen answer is damages.Bad frame n found in word-shown script.layout turns view said who (λ (word : ℕ). IsLowestBit word 0 n) (damage_place frame damages.Bad) seen.word seen.lowest seen.saw

    pub weak-shown : (answer : Answer) → IsScrubTold script.layout view who first last_frame answer before lines after → AreFoundShown script report turns who (origin_of damages.Weak)
    weak-shown answer is frame n found =
        let seen = found-seen answer is damages.Weak frame n found in word-shown script.layout turns view said who (λ (word : ℕ). IsLowestBit word 0 n) (damage_place frame damages.Weak) seen.word seen.lowest seen.saw

    -- ---- a scrub that went to its end

    module _ (is : HasScrubbed script.layout view who first last_frame before lines after) (frame : Frame) (above : first.0 ≤ frame.0) (below : frame.0 ≤ last_frame.0) where
      abbrev number : ℕ
      number = frame.0 - first.0

      number-is : first.0 + number ≡ frame.0
      number-is = omega (arith, above)

      the-visit : (v : Visit) × HasVisit script.layout view who first.0 is.visits number v
      the-visit =
          let all : length is.visits ≡ last_frame.0 + 1 - first.0 = is.all in
          let v = there-is is.visits number (omega (arith, all, above, below)) in
          (v.0, visit-at script.layout view who first.0 before is.visits are is.visited number v.0 v.1)

      -- the word of the frame, as a step showed it, and its events
      word-found : (damage : Damage) → Finds script.layout turns who (damage_place frame damage) (λ (word : ℕ). (n : ℕ) → IsLowestBit word 0 n ↔ HasFound report who (origin_of damage) frame n)
      word-found damage = word-shown script.layout turns view said who Exactly (damage_place frame damage) saw.word (λ n. (told-so n, found-so n))
          (subst (λ (i : ℕ). Saw view who (damage_place (record { 0 = i }) damage) saw.word) number-is saw.saw)
        where
          v : Visit
          v = the-visit.0

          saw : SawLowest view who (damage_place (record { 0 = first.0 + number }) damage) (find_of damage v).line
          saw = saw-of damage v the-visit.1.is

          Exactly : ℕ → Type 0
          Exactly word = (n : ℕ) → IsLowestBit word 0 n ↔ HasFound report who (origin_of damage) frame n

          told-so : (n : ℕ) → IsLowestBit saw.word 0 n → HasFound report who (origin_of damage) frame n
          told-so n low =
              let some = line-told script.layout view who damage n first.0 is.visits number v the-visit.1 (lowest-is saw.word (find_of damage v).line n saw.lowest low) in
              let there : slice_get lines some.0 ≡ Some some.1 = ap (λ (l : List EventOutcome). slice_get l some.0) is.told_is ∙ some.2 in (
                some.0,
                event_at who.seq some.1,
                ap (λ (l : List EventLine). slice_get l some.0) events ∙ at_map (event_at who.seq) lines some.0 some.1 there,
                subst (λ (i : ℕ). IsFoundAt (origin_of damage) (record { 0 = i }) n (event_at who.seq some.1)) number-is some.3,
              )

          found-so : (n : ℕ) → HasFound report who (origin_of damage) frame n → IsLowestBit saw.word 0 n
          found-so n found =
              let t = was-told damage frame n found in
              let at = visits-here script.layout view who damage frame n first.0 before is.visits are is.visited t.0 t.1 (sym (ap (λ (l : List EventOutcome). slice_get l t.0) is.told_is) ∙ t.2) t.3 in
              let same : at.j ≡ number = (let one : first.0 + at.j ≡ frame.0 = at.frame_is in omega (arith, one, above)) in
              let own : at.v ≡ v = same_Some at.v v (sym at.there ∙ ap (λ (i : ℕ). slice_get is.visits i) same ∙ the-visit.1.there) in
              subst (IsLowest saw.word) (ap (λ (w : Visit). (find_of damage w).line) (sym own) ∙ at.line_is) saw.lowest

    pub looked-at : HasScrubbed script.layout view who first last_frame before lines after → AreLookedAt script report turns who first last_frame
    looked-at is frame above below = (word-found is frame above below damages.Bad, word-found is frame above below damages.Weak)
