-- The lowest line that the walk over failures finds is the first of a failure whose command has not as many that needed the page
-- as its event lines ask.
use Rattle.std.proofs.Common.{◌≡◌, ◌≢◌, ℕ, ◌+◌, ◌==◌, ◌&&◌, not, Bool, true, false, List, [], Option, Some, None, length, option_and_then, slice_get, sum_by, take, true≢false, unwrap_or, refl, sym, ap, ◌∙◌, subst, arith}
use Rattle.std.specs.HashMap.{HashMap}
use Rattle.std.proofs.lemmas.Bool.{eq-eqb, eqb-false, ne_eqb}
use Rattle.std.proofs.lemmas.Option.{none-some}
use Rattle.hwp_check_rules.specs.hwp_geom.declared.Who.{Who}
use Rattle.hwp_check_rules.specs.hwp_page.declared.Entry.{Entry}
use Rattle.hwp_check_rules.specs.hwp_page.declared.Situation.{Situation}
use Rattle.hwp_check_rules.specs.hwp_page.declared.What.{What}
use Rattle.hwp_check_rules.specs.hwp_page.declared.What.TheVariants as entries
use Rattle.hwp_check_rules.specs.hwp_report_text.declared.FrameLine.{FrameLine}
use Rattle.hwp_check_rules.specs.hwp_report_text.declared.Report.{Report}
use Rattle.hwp_check_rules.specs.hwp_law.Pairings.{entries_of, has_page, is_failure, is_required, situation_number, urgent_from}
use Rattle.hwp_check_rules.specs.MarkFaults.{IsMisrequired}
use Rattle.hwp_check_rules.specs.Standing.{entry_height, entry_line, page_height, page_line}
use Rattle.hwp_check_frames.specs.Counts.{at_key}
use Rattle.hwp_check_marks.specs.Needed.{differs, frames_urgent, is_misneeded, is_misrequired, pages_needed}
use Rattle.hwp_check_frames.specs.Said.{AreNoted, said_below}
use Rattle.hwp_check_marks.specs.Tallies.{key_of}
use Rattle.hwp_check_marks.specs.Walks.{IsAskedIn, IsLowest, walk_pages}
use Rattle.hwp_check_marks.specs.declared.kinds.Kind.TheVariants as kinds
use Rattle.hwp_check_marks.proofs.NeededLaws.{needed-is}
use Rattle.hwp_check_rules.proofs.of_hwp_law.Situations.{same-situation}
use Rattle.hwp_check_frames.proofs.FramePlaces.{and-both, and-left, and-right}
use Rattle.hwp_check_marks.proofs.UrgentLaws.{urgent-is}
use Rattle.hwp_check_marks.proofs.WalkLaws.{other-words, walked}
use Rattle.hwp_check_frames.specs.declared.Noted.{Noted}

abbrev line-of : Entry → ℕ → ℕ
line-of e line = line

not-true : (b : Bool) → not b ≡ true → b ≡ false
not-true true is = absurd (true≢false (sym is))
not-true false is = refl

module _ {S : Type 0} (report : Report) (needed urgent : HashMap ((ℕ × ℕ) × ℕ) ℕ S) (needed_are : (who : Who) (s : Situation) → at_key needed (key_of who (kinds.Failure s)) ≡ entries_of report who (is_required s))
    (urgent_are : (who : Who) (s : Situation) → at_key urgent (key_of who (kinds.Failure s)) ≡ urgent_from report who s 0 report.frames) where
  differ : (who : Who) (s : Situation) → differs needed urgent who s ≡ true → entries_of report who (is_required s) ≢ urgent_from report who s 0 report.frames
  differ who s is same =
      eqb-false (at_key needed (key_of who (kinds.Failure s))) (at_key urgent (key_of who (kinds.Failure s))) (not-true (at_key needed (key_of who (kinds.Failure s)) == at_key urgent (key_of who (kinds.Failure s))) is)
      (needed_are who s ∙ same ∙ sym (urgent_are who s))

  differing : (who : Who) (s : Situation) → entries_of report who (is_required s) ≢ urgent_from report who s 0 report.frames → differs needed urgent who s ≡ true
  differing who s apart =
      ap not (ne_eqb (at_key needed (key_of who (kinds.Failure s))) (at_key urgent (key_of who (kinds.Failure s))) (λ e. apart (sym (needed_are who s) ∙ e ∙ urgent_are who s)))

  -- what is wrong with such an entry
  wrong-in : (who : Who) (what : What) → is_misneeded needed urgent who what ≡ true
      → (s : Situation) × (has_page s ≡ true) × (is_failure s what ≡ true) × (entries_of report who (is_required s) ≢ urgent_from report who s 0 report.frames)
  wrong-in who (entries.Fail s required seen signals) is = (
    s,
    and-left (has_page s) (differs needed urgent who s) is,
    eq-eqb (situation_number s) (situation_number s) refl,
    differ who s (and-right (has_page s) (differs needed urgent who s) is),
  )
  wrong-in who _ is = absurd (true≢false (sym is))

  in-wrong : (who : Who) (s : Situation) (what : What) → has_page s ≡ true → is_failure s what ≡ true → entries_of report who (is_required s) ≢ urgent_from report who s 0 report.frames → is_misneeded needed urgent who what ≡ true
  in-wrong who s (entries.Fail t required seen signals) page is apart =
      let same : t ≡ s = same-situation t s is in
      ap (λ (u : Situation). has_page u && differs needed urgent who u) same ∙ and-both (has_page s) (differs needed urgent who s) page (differing who s apart)
  in-wrong who s _ page is apart = absurd (true≢false (sym is))

  asked-is : (line : ℕ) → IsAskedIn (is_misrequired needed urgent) line-of (page_line report 0) report.pages line → IsMisrequired report line
  asked-is line a =
      let e = a.asked.entry in
      let w = wrong-in e.who e.what a.asked.so in
      record {
        at = record { page = record { 0 = a.page }; entry = a.asked.place };
        entry = e;
        situation = w.0;
        there = ap (λ (o : Option (List Entry)). option_and_then (λ (es : List Entry). slice_get es a.asked.place) o) a.shown ∙ a.asked.there;
        line_is =
            let list : sum_by entry_height (take a.asked.place (unwrap_or (slice_get report.pages a.page) [])) ≡ sum_by entry_height (take a.asked.place a.list) =
            ap (λ (o : Option (List Entry)). sum_by entry_height (take a.asked.place (unwrap_or o []))) a.shown in
            let is : line ≡ page_line report 0 + sum_by page_height (take a.page report.pages) + 1 + sum_by entry_height (take a.asked.place a.list) = a.asked.line_is in
            omega (arith, list, is);
        of_page = w.1;
        fails = w.2;
        wrong = w.3;
      }

  is-asked : (line : ℕ) → IsMisrequired report line → IsAskedIn (is_misrequired needed urgent) line-of (page_line report 0) report.pages line
  is-asked line m = by (slice_get report.pages m.at.page.0) refl
    where
      by : (o : Option (List Entry)) → slice_get report.pages m.at.page.0 ≡ o → IsAskedIn (is_misrequired needed urgent) line-of (page_line report 0) report.pages line
      by None is = absurd (none-some m.entry (sym (ap (λ (o : Option (List Entry)). option_and_then (λ (es : List Entry). slice_get es m.at.entry) o) is) ∙ m.there))
      by (Some list) is = record {
        page = m.at.page.0;
        list = list;
        shown = is;
        asked = record {
          place = m.at.entry;
          entry = m.entry;
          there = sym (ap (λ (o : Option (List Entry)). option_and_then (λ (es : List Entry). slice_get es m.at.entry) o) is) ∙ m.there;
          so = in-wrong m.entry.who m.situation m.entry.what m.of_page m.fails m.wrong;
          line_is =
              let same : sum_by entry_height (take m.at.entry (unwrap_or (slice_get report.pages m.at.page.0) [])) ≡ sum_by entry_height (take m.at.entry list) =
              ap (λ (o : Option (List Entry)). sum_by entry_height (take m.at.entry (unwrap_or o []))) is in
              let line_is : line ≡ entry_line report m.at = m.line_is in
              omega (arith, same, line_is);
        };
      }

  lowest-is : IsLowest (IsMisrequired report) (walk_pages (is_misrequired needed urgent) line-of (page_line report 0) None report.pages)
  lowest-is =
      other-words (IsAskedIn (is_misrequired needed urgent) line-of (page_line report 0) report.pages) (IsMisrequired report) _ asked-is is-asked (walked (is_misrequired needed urgent) line-of (page_line report 0) report.pages)

-- the same of what was read of the report
pub lowest-of : {S : Type 0} {T : Type 0} (report : Report) (needed urgent many : HashMap ((ℕ × ℕ) × ℕ) ℕ S) (rows : HashMap (((ℕ × ℕ) × ℕ) × ℕ) Noted T) (pages : List (List Entry)) (frames : List FrameLine) (first : ℕ) (found : Option ℕ)
    → pages ≡ report.pages → frames ≡ report.frames → first ≡ page_line report 0 → AreNoted (said_below (length report.cpus) report) many rows → ((q : (ℕ × ℕ) × ℕ) → at_key needed q ≡ pages_needed q pages)
    → ((q : (ℕ × ℕ) × ℕ) → at_key urgent q ≡ frames_urgent rows 0 q frames) → found ≡ walk_pages (is_misrequired needed urgent) (λ e line. line) first None pages → IsLowest (IsMisrequired report) found
lowest-of report needed urgent many rows pages frames first found pages_are frames_are first_is noted needed_are urgent_are is =
    subst (λ (f : Option ℕ). IsLowest (IsMisrequired report) f)
    (sym (is ∙ ap (λ (p : List (List Entry)). walk_pages (is_misrequired needed urgent) line-of first None p) pages_are ∙ ap (λ (n : ℕ). walk_pages (is_misrequired needed urgent) line-of n None report.pages) first_is))
    (lowest-is report needed urgent (λ who s. needed_are (key_of who (kinds.Failure s)) ∙ ap (λ (p : List (List Entry)). pages_needed (key_of who (kinds.Failure s)) p) pages_are ∙ needed-is report who s)
    (λ who s. urgent_are (key_of who (kinds.Failure s)) ∙ ap (λ (f : List FrameLine). frames_urgent rows 0 (key_of who (kinds.Failure s)) f) frames_are ∙ urgent-is report many rows noted who s 0 report.frames))
