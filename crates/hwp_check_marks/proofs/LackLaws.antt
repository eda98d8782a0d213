-- The lowest frame of the entries that lack marks is the lowest of the commands that do, and its line is the first.
use Rattle.std.proofs.Common.{◌≡◌, inl, inr, ℕ, suc, ◌+◌, ◌<◌, ◌≤◌, ◌&&◌, Bool, true, false, cond, List, [], ◌∷◌, Option, Some, None, count_by, drop, get_or, length, slice_get, sum_by, true≢false, refl, sym, ap, ◌∙◌, subst, arith}
use Rattle.std.specs.HashMap.{HashMap}
use Rattle.std.proofs.lemmas.Bool.{cases_Bool, cases_lt, lt-ltb, ltb-true}
use Rattle.std.proofs.lemmas.List.{drop_more}
use Rattle.std.proofs.lemmas.List.Sums.{sum_by-cons}
use Rattle.hwp_check_rules.specs.hwp_geom.declared.Who.{Who}
use Rattle.hwp_check_rules.specs.hwp_page.declared.Entry.{Entry}
use Rattle.hwp_check_rules.specs.hwp_page.declared.Situation.{Situation}
use Rattle.hwp_check_rules.specs.hwp_page.declared.What.{What}
use Rattle.hwp_check_rules.specs.hwp_page.declared.What.TheVariants as entries
use Rattle.hwp_check_rules.specs.hwp_script_words.declared.Script.{Script}
use Rattle.hwp_check_rules.specs.hwp_report_text.declared.FrameLine.{FrameLine}
use Rattle.hwp_check_rules.specs.hwp_report_text.declared.Report.{Report}
use Rattle.hwp_check_rules.specs.hwp_law.Lines.{is_same_command}
use Rattle.hwp_check_rules.specs.hwp_law.Pairings.{entries_of, has_page, is_failure, is_soft}
use Rattle.hwp_check_rules.specs.Firsts.{IsLeast, sooner_if}
use Rattle.hwp_check_rules.specs.MarkFaults.{IsMarkLacking, LacksMarks, home_of}
use Rattle.hwp_check_rules.specs.Standing.{entry_height, frame_line, page_height}
use Rattle.hwp_check_frames.specs.Counts.{at_key}
use Rattle.hwp_check_marks.specs.Lacking.{IsHomeLacking, entry_home, has_fewer, is_lacking, kind_asked, lowest_entry, lowest_in}
use Rattle.hwp_check_marks.specs.Tallies.{frames_raise, key_of, pages_raise}
use Rattle.hwp_check_marks.specs.Unpaired.{in_frames, in_pages}
use Rattle.hwp_check_marks.specs.Walks.{IsAskedIn, IsLowest, walk_entries, walk_pages}
use Rattle.hwp_check_marks.specs.declared.kinds.Kind.{Kind}
use Rattle.hwp_check_marks.specs.declared.kinds.Kind.TheVariants as kinds
use Rattle.hwp_check_rules.proofs.of_hwp_law.Situations.{same-situation}
use Rattle.hwp_check_frames.proofs.FramePlaces.{and-left, and-right, frame-rises, same-who}
use Rattle.hwp_check_marks.proofs.TallyLaws.{frames-kind, pages-kind}
use Rattle.hwp_check_marks.proofs.WalkLaws.{other-words, walked}

abbrev flag : Bool → ℕ
flag b = cond b 1 0

-- a walk that asks for no line is one that asks for any
same-entries : (asks : Entry → Bool) (wants : Entry → ℕ) (line : ℕ) (found : Option ℕ) (es : List Entry) → walk_entries asks (λ e n. wants e) line found es ≡ lowest_entry asks wants found es
same-entries asks wants line found [] = refl
same-entries asks wants line found (e ∷ es) = same-entries asks wants (line + entry_height e) (sooner_if (asks e) found (wants e)) es

same-pages : (asks : Entry → Bool) (wants : Entry → ℕ) (line : ℕ) (found : Option ℕ) (pages : List (List Entry)) → walk_pages asks (λ e n. wants e) line found pages ≡ lowest_in asks wants found pages
same-pages asks wants line found [] = refl
same-pages asks wants line found (es ∷ rest) =
    ap (λ (f : Option ℕ). walk_pages asks (λ e n. wants e) (line + page_height es) f rest) (same-entries asks wants (line + 1) found es) ∙ same-pages asks wants (line + page_height es) (lowest_entry asks wants found es) rest

-- where some are counted, there is one
pub record SomeEntry (p : Entry → Bool) (list : List Entry) : Type 0 where
  pub place : ℕ
  pub entry : Entry
  pub there : slice_get list place ≡ Some entry
  pub so : p entry ≡ true

some-in : (p : Entry → Bool) (list : List Entry) → 0 < count_by p list → SomeEntry p list
some-in p [] low = absurd (omega (arith, low))
some-in p (e ∷ es) low = elim (cases_Bool (p e)) [
  | inl is ↦ record { place = 0; entry = e; there = refl; so = is }
  | inr not_so ↦
      let all : count_by p (e ∷ es) ≡ flag (p e) + count_by p es = sum_by-cons (λ (x : Entry). flag (p x)) e es in
      let none : flag (p e) ≡ flag false = ap flag not_so in
      let r = some-in p es (omega (arith, low, all, none)) in
      record { place = suc r.place; entry = r.entry; there = r.there; so = r.so }
]

pub record SomeEntryIn (p : Entry → Bool) (pages : List (List Entry)) : Type 0 where
  pub page : ℕ
  pub list : List Entry
  pub shown : slice_get pages page ≡ Some list
  pub some : SomeEntry p list

pub some-entry : (p : Entry → Bool) (pages : List (List Entry)) → 0 < sum_by (λ (list : List Entry). count_by p list) pages → SomeEntryIn p pages
some-entry p [] low = absurd (omega (arith, low))
some-entry p (es ∷ rest) low = elim (cases_lt 0 (count_by p es)) [
  | inl here ↦ record { page = 0; list = es; shown = refl; some = some-in p es here }
  | inr none ↦
      let all : sum_by (λ (list : List Entry). count_by p list) (es ∷ rest) ≡ count_by p es + sum_by (λ (list : List Entry). count_by p list) rest = sum_by-cons (λ (list : List Entry). count_by p list) es rest in
      let r = some-entry p rest (omega (arith, low, all, none)) in
      record { page = suc r.page; list = r.list; shown = r.shown; some = r.some }
]

module _ {S : Type 0} (script : Script) (report : Report) (asked had : HashMap ((ℕ × ℕ) × ℕ) ℕ S) (of_entries : (q : (ℕ × ℕ) × ℕ) → at_key asked q ≡ pages_raise q report.pages) (of_marks : (q : (ℕ × ℕ) × ℕ) → at_key had q ≡ frames_raise q report.frames) where
  asked-is : (who : Who) (kind : Kind) → at_key asked (key_of who kind) ≡ in_pages who kind report.pages
  asked-is who kind = of_entries (key_of who kind) ∙ pages-kind who kind report.pages

  had-is : (who : Who) (kind : Kind) → at_key had (key_of who kind) ≡ in_frames who kind report.frames
  had-is who kind = of_marks (key_of who kind) ∙ frames-kind who kind report.frames

  fewer : (who : Who) (kind : Kind) → has_fewer asked had who (Some kind) ≡ true → in_frames who kind report.frames < in_pages who kind report.pages
  fewer who kind is =
      let less : at_key had (key_of who kind) < at_key asked (key_of who kind) = ltb-true (at_key had (key_of who kind)) (at_key asked (key_of who kind)) is in
      let a : at_key asked (key_of who kind) ≡ in_pages who kind report.pages = asked-is who kind in
      let b : at_key had (key_of who kind) ≡ in_frames who kind report.frames = had-is who kind in
      omega (arith, less, a, b)

  is-fewer : (who : Who) (kind : Kind) → in_frames who kind report.frames < in_pages who kind report.pages → has_fewer asked had who (Some kind) ≡ true
  is-fewer who kind less =
      let a : at_key asked (key_of who kind) ≡ in_pages who kind report.pages = asked-is who kind in
      let b : at_key had (key_of who kind) ≡ in_frames who kind report.frames = had-is who kind in
      lt-ltb (at_key had (key_of who kind)) (at_key asked (key_of who kind)) (omega (arith, less, a, b))

  -- an entry that has not its mark is of a command that lacks marks
  lacks : (who : Who) (what : What) → has_fewer asked had who (kind_asked what) ≡ true → LacksMarks report who (is_soft what)
  lacks who (entries.Fail situation required seen signals) is = elim (cases_Bool (has_page situation)) [
    | inl page ↦ (situation, page, fewer who (kinds.Failure situation) (sym (ap (λ (b : Bool). has_fewer asked had who (cond b (Some (kinds.Failure situation)) None)) page) ∙ is))
    | inr none ↦ absurd (true≢false (sym is ∙ ap (λ (b : Bool). has_fewer asked had who (cond b (Some (kinds.Failure situation)) None)) none))
  ]
  lacks who entries.Soft is = fewer who kinds.Moved is
  lacks who _ is = absurd (true≢false (sym is))

  -- and such a command has such an entry
  soft-asks : (what : What) → is_soft what ≡ true → kind_asked what ≡ Some kinds.Moved
  soft-asks entries.Soft is = refl
  soft-asks _ is = absurd (true≢false (sym is))

  failure-asks : (situation : Situation) (what : What) → has_page situation ≡ true → is_failure situation what ≡ true → kind_asked what ≡ Some (kinds.Failure situation)
  failure-asks situation (entries.Fail other required seen signals) page is =
      let same : other ≡ situation = same-situation other situation is in
      ap (λ (s : Situation). cond (has_page s) (Some (kinds.Failure s)) None) same ∙ ap (λ (b : Bool). cond b (Some (kinds.Failure situation)) None) page
  failure-asks situation _ page is = absurd (true≢false (sym is))

  failure-is : (situation : Situation) (what : What) → is_failure situation what ≡ true → is_soft what ≡ false
  failure-is situation (entries.Fail other required seen signals) is = refl
  failure-is situation _ is = absurd (true≢false (sym is))

  asking : (who : Who) (soft : Bool) (kind : Kind) (test : What → Bool) → ((what : What) → test what ≡ true → kind_asked what ≡ Some kind) → ((what : What) → test what ≡ true → is_soft what ≡ soft) → in_frames who kind report.frames < in_pages who kind report.pages
      → 0 < entries_of report who test → (e : Entry) × SomeEntryIn (λ (x : Entry). is_same_command who x.who && test x.what) report.pages × (e.who ≡ who) × (is_lacking asked had e ≡ true)
      × IsAskedIn (is_lacking asked had) (λ x n. entry_home script report x) 0 report.pages (home_of script report who soft)
  asking who soft kind test asks sort less some =
      let r = some-entry (λ (x : Entry). is_same_command who x.who && test x.what) report.pages some in
      let e = r.some.entry in
      let same : e.who ≡ who = same-who who e.who (and-left (is_same_command who e.who) (test e.what) r.some.so) in
      let is : is_lacking asked had e ≡ true = ap (λ (k : Option Kind). has_fewer asked had e.who k) (asks e.what (and-right (is_same_command who e.who) (test e.what) r.some.so)) ∙ ap (λ (w : Who). has_fewer asked had w (Some kind)) same ∙ is-fewer who kind less in (
        e,
        r,
        same,
        is,
        record {
          page = r.page;
          list = r.list;
          shown = r.shown;
          asked = record { place = r.some.place; entry = e; there = r.some.there; so = is; line_is = sym (ap (λ (w : Who). home_of script report w (is_soft e.what)) same ∙ ap (home_of script report who) (sort e.what (and-right (is_same_command who e.who) (test e.what) r.some.so))) };
        },
      )

  asked-home : (home : ℕ) → IsHomeLacking script report home → IsAskedIn (is_lacking asked had) (λ x n. entry_home script report x) 0 report.pages home
  asked-home home h = subst (λ (n : ℕ). IsAskedIn (is_lacking asked had) (λ x k. entry_home script report x) 0 report.pages n) (sym h.home_is) (by h.soft h.lacks)
    where
      by : (soft : Bool) → LacksMarks report h.who soft → IsAskedIn (is_lacking asked had) (λ x n. entry_home script report x) 0 report.pages (home_of script report h.who soft)
      by false (situation, page, less) = (asking h.who false (kinds.Failure situation) (is_failure situation) (λ what is. failure-asks situation what page is) (failure-is situation) less (omega (arith, less))).4
      by true less = (asking h.who true kinds.Moved is_soft soft-asks (λ what is. is) less (omega (arith, less))).4

  home-asked : (home : ℕ) → IsAskedIn (is_lacking asked had) (λ x n. entry_home script report x) 0 report.pages home → IsHomeLacking script report home
  home-asked home a = record { who = a.asked.entry.who; soft = is_soft a.asked.entry.what; lacks = lacks a.asked.entry.who a.asked.entry.what a.asked.so; home_is = a.asked.line_is }

  pub lowest-home : IsLowest (IsHomeLacking script report) (lowest_in (is_lacking asked had) (entry_home script report) None report.pages)
  lowest-home =
      subst (λ (f : Option ℕ). IsLowest (IsHomeLacking script report) f) (same-pages (is_lacking asked had) (entry_home script report) 0 None report.pages)
      (other-words (IsAskedIn (is_lacking asked had) (λ x n. entry_home script report x) 0 report.pages) (IsHomeLacking script report) _ home-asked asked-home
      (walked (is_lacking asked had) (λ x n. entry_home script report x) 0 report.pages))

-- the line of the lowest frame is the first
pub line-least : (script : Script) (report : Report) (home : ℕ) → IsLeast (IsHomeLacking script report) home → IsLeast (IsMarkLacking script report) (frame_line report home)
line-least script report home least = record {
  at = record { who = least.at.who; soft = least.at.soft; lacks = least.at.lacks; line_is = ap (frame_line report) least.at.home_is };
  first = λ other l.
      let low : home ≤ home_of script report l.who l.soft = least.first (home_of script report l.who l.soft) (record { who = l.who; soft = l.soft; lacks = l.lacks; home_is = refl }) in
      let rises : frame_line report home ≤ frame_line report (home_of script report l.who l.soft) = frame-rises report home (home_of script report l.who l.soft) low in
      let is : other ≡ frame_line report (home_of script report l.who l.soft) = l.line_is in
      omega (arith, rises, is);
}

pub none-lacks : (script : Script) (report : Report) → ((home : ℕ) → IsHomeLacking script report home → ⊥) → (line : ℕ) → IsMarkLacking script report line → ⊥
none-lacks script report none line l = none (home_of script report l.who l.soft) (record { who = l.who; soft = l.soft; lacks = l.lacks; home_is = refl })

-- a page more of the walk
pub pages-next : (asks : Entry → Bool) (wants : Entry → ℕ) (lowest next total : Option ℕ) (pages : List (List Entry)) (i : ℕ) (d x es : List Entry) → i < length pages → x ≡ get_or pages i d → es ≡ x → next ≡ lowest_entry asks wants lowest es
    → lowest_in asks wants lowest (drop i pages) ≡ total → lowest_in asks wants next (drop (i + 1) pages) ≡ total
pages-next asks wants lowest next total pages i d x es within is same next_is was =
    ap (λ (f : Option ℕ). lowest_in asks wants f (drop (i + 1) pages)) (next_is ∙ ap (λ (l : List Entry). lowest_entry asks wants lowest l) (same ∙ is))
    ∙ sym (ap (λ (l : List (List Entry)). lowest_in asks wants lowest l) (drop_more pages i d within)) ∙ was

-- the same of what was read of the report
pub lowest-of : {S : Type 0} (script : Script) (report : Report) (asked had : HashMap ((ℕ × ℕ) × ℕ) ℕ S) (pages : List (List Entry)) (frames : List FrameLine) (found : Option ℕ) → pages ≡ report.pages → frames ≡ report.frames
    → ((q : (ℕ × ℕ) × ℕ) → at_key asked q ≡ pages_raise q pages) → ((q : (ℕ × ℕ) × ℕ) → at_key had q ≡ frames_raise q frames) → found ≡ lowest_in (is_lacking asked had) (entry_home script report) None pages
    → IsLowest (IsHomeLacking script report) found
lowest-of script report asked had pages frames found pages_are frames_are of_entries of_marks is =
    subst (λ (f : Option ℕ). IsLowest (IsHomeLacking script report) f) (sym (is ∙ ap (λ (p : List (List Entry)). lowest_in (is_lacking asked had) (entry_home script report) None p) pages_are))
    (lowest-home script report asked had (λ q. of_entries q ∙ ap (λ (p : List (List Entry)). pages_raise q p) pages_are) (λ q. of_marks q ∙ ap (λ (f : List FrameLine). frames_raise q f) frames_are))
