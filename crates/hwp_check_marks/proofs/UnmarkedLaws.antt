-- The lowest frame whose lines beside answers lack marks is the lowest in which a command has fewer marks than lines that say so.
use Rattle.std.proofs.Common.{◌≡◌, ◌⊎◌, inl, inr, ℕ, zero, suc, ◌+◌, ◌<◌, ◌≤◌, ◌==◌, Bool, true, false, cond, List, [], ◌∷◌, Option, Some, None, count_by, drop, get_or, length, slice_get, true≢false, unwrap_or, refl, sym, ap, ◌∙◌, subst, arith}
use Rattle.std.specs.HashMap.{HashMap}
use Rattle.std.proofs.lemmas.Bool.{cases_Bool, eq-eqb, eqb-true, lt-ltb, ltb-true}
use Rattle.std.proofs.lemmas.List.{drop_all, drop_more}
use Rattle.std.proofs.lemmas.List.Sums.{sum_by-cons}
use Rattle.std.proofs.lemmas.Option.{none-some, same_Some, slice_get-get_or}
use Rattle.hwp_check_rules.specs.hwp_geom.declared.Frame.{Frame}
use Rattle.hwp_check_rules.specs.hwp_geom.declared.Who.{Who}
use Rattle.hwp_check_rules.specs.hwp_script_words.declared.Script.{Script}
use Rattle.hwp_check_rules.specs.hwp_report_text.Offlines.{offline_answer}
use Rattle.hwp_check_rules.specs.hwp_report_text.declared.CpuLine.{CpuLine}
use Rattle.hwp_check_rules.specs.hwp_report_text.declared.CpuLine.TheVariants as lines
use Rattle.hwp_check_rules.specs.hwp_report_text.declared.FrameLine.{FrameLine}
use Rattle.hwp_check_rules.specs.hwp_report_text.declared.OfflinedLine.{OfflinedLine}
use Rattle.hwp_check_rules.specs.hwp_report_text.declared.OfflineResult.{OfflineResult}
use Rattle.hwp_check_rules.specs.hwp_report_text.declared.OfflineResult.TheVariants as results
use Rattle.hwp_check_rules.specs.hwp_report_text.declared.Report.{Report}
use Rattle.hwp_check_rules.specs.hwp_law.Lines.{marks_of, offlined_among}
use Rattle.hwp_check_rules.specs.hwp_law.Pairings.{is_soft_mark, says_soft, soft_lines}
use Rattle.hwp_check_rules.specs.Firsts.{IsLeast, sooner_if}
use Rattle.hwp_check_rules.specs.MarkFaults.{IsSoftBeyond, lines_beside}
use Rattle.hwp_check_rules.specs.Standing.{frame_line}
use Rattle.hwp_check_frames.specs.Beside.{AreBeside, marking, spot}
use Rattle.hwp_check_frames.specs.Counts.{at_key}
use Rattle.hwp_check_marks.specs.Spots.{frames_told}
use Rattle.hwp_check_marks.specs.Unmarked.{IsCpuAsked, IsRowAsked, IsSoftHome, frame_told, has_few, is_unmarked, lowest_cpu, lowest_row}
use Rattle.hwp_check_marks.specs.Walks.{IsLowest}
use Rattle.hwp_check_frames.proofs.BesideLaws.{says}
use Rattle.hwp_check_frames.proofs.CountRises.{flag}
use Rattle.hwp_check_frames.proofs.FramePlaces.{and-both, and-left, and-right, frame-rises}
use Rattle.hwp_check_marks.proofs.SpotLaws.{told-are}
use Rattle.hwp_check_marks.proofs.WalkLaws.{other-words, sooner-least}

-- the lowest of the lines that ask, of one processor
module _ (asks : CpuLine → Bool) where
  first-row : (r : CpuLine) (rs : List CpuLine) → asks r ≡ true → IsRowAsked asks (r ∷ rs) (frame_told r)
  first-row r rs so = record { place = 0; row = r; there = refl; so = so; home_is = refl }

  later-row : (r : CpuLine) (rs : List CpuLine) (n : ℕ) → IsRowAsked asks rs n → IsRowAsked asks (r ∷ rs) n
  later-row r rs n a = record { place = suc a.place; row = a.row; there = a.there; so = a.so; home_is = a.home_is }

  one-row : (r : CpuLine) (rs : List CpuLine) (n : ℕ) → IsRowAsked asks (r ∷ rs) n → ((asks r ≡ true) × (n ≡ frame_told r)) ⊎ IsRowAsked asks rs n
  one-row r rs n a = by a.place a.there
    where
      by : (k : ℕ) → slice_get (r ∷ rs) k ≡ Some a.row → ((asks r ≡ true) × (n ≡ frame_told r)) ⊎ IsRowAsked asks rs n
      by zero there = let same : r ≡ a.row = same_Some _ _ there in inl (ap asks same ∙ a.so, a.home_is ∙ ap frame_told (sym same))
      by (suc k) there = inr (record { place = k; row = a.row; there = there; so = a.so; home_is = a.home_is })

  walk-rows : (P : ℕ → Type 0) (found : Option ℕ) (rs : List CpuLine) → IsLowest P found → IsLowest (λ (n : ℕ). P n ⊎ IsRowAsked asks rs n) (lowest_row asks found rs)
  walk-rows P found [] low = other-words P (λ (n : ℕ). P n ⊎ IsRowAsked asks [] n) found (λ n was. inl was) (λ n asked. elim asked [ inl was ↦ was | inr a ↦ absurd (none-some _ a.there) ]) low
  walk-rows P found (r ∷ rs) low = elim (cases_Bool (asks r)) [
    | inl so ↦
        let step : IsLowest (λ (n : ℕ). P n ⊎ (n ≡ frame_told r)) (sooner_if (asks r) found (frame_told r)) =
        subst (λ (b : Bool). IsLowest (λ (n : ℕ). P n ⊎ (n ≡ frame_told r)) (sooner_if b found (frame_told r))) (sym so) (sooner-least P found (frame_told r) low) in
        other-words (λ (n : ℕ). (P n ⊎ (n ≡ frame_told r)) ⊎ IsRowAsked asks rs n) (λ (n : ℕ). P n ⊎ IsRowAsked asks (r ∷ rs) n) _
        (λ n asked. elim asked [
          | inl (inl was) ↦ inl was
          | inl (inr is) ↦ inr (subst (λ (k : ℕ). IsRowAsked asks (r ∷ rs) k) (sym is) (first-row r rs so))
          | inr later ↦ inr (later-row r rs n later)
        ])
        (λ n asked. elim asked [
          | inl was ↦ inl (inl was)
          | inr a ↦ elim (one-row r rs n a) [ inl first ↦ inl (inr first.1) | inr later ↦ inr later ]
        ])
        (walk-rows (λ (n : ℕ). P n ⊎ (n ≡ frame_told r)) (sooner_if (asks r) found (frame_told r)) rs step)
    | inr not_so ↦
        let step : IsLowest P (sooner_if (asks r) found (frame_told r)) = subst (λ (b : Bool). IsLowest P (sooner_if b found (frame_told r))) (sym not_so) low in
        other-words (λ (n : ℕ). P n ⊎ IsRowAsked asks rs n) (λ (n : ℕ). P n ⊎ IsRowAsked asks (r ∷ rs) n) _
        (λ n asked. elim asked [ inl was ↦ inl was | inr later ↦ inr (later-row r rs n later) ])
        (λ n asked. elim asked [
          | inl was ↦ inl was
          | inr a ↦ elim (one-row r rs n a) [ inl first ↦ absurd (true≢false (sym first.0 ∙ not_so)) | inr later ↦ inr later ]
        ])
        (walk-rows P (sooner_if (asks r) found (frame_told r)) rs step)
  ]

-- and of all
module _ (asks : ℕ → CpuLine → Bool) where
  asked-at : (a b : ℕ) (rows : List CpuLine) (n : ℕ) → a ≡ b → IsRowAsked (asks a) rows n → IsRowAsked (asks b) rows n
  asked-at a b rows n is asked = subst (λ (k : ℕ). IsRowAsked (asks k) rows n) is asked

  first-cpu : (k : ℕ) (rows : List CpuLine) (rest : List (List CpuLine)) (n : ℕ) → IsRowAsked (asks k) rows n → IsCpuAsked asks k (rows ∷ rest) n
  first-cpu k rows rest n a = record { cpu = 0; rows = rows; shown = refl; asked = asked-at k (k + 0) rows n (omega arith) a }

  later-cpu : (k : ℕ) (rows : List CpuLine) (rest : List (List CpuLine)) (n : ℕ) → IsCpuAsked asks (k + 1) rest n → IsCpuAsked asks k (rows ∷ rest) n
  later-cpu k rows rest n a = record { cpu = suc a.cpu; rows = a.rows; shown = a.shown; asked = asked-at (k + 1 + a.cpu) (k + suc a.cpu) a.rows n (omega arith) a.asked }

  one-cpu : (k : ℕ) (rows : List CpuLine) (rest : List (List CpuLine)) (n : ℕ) → IsCpuAsked asks k (rows ∷ rest) n → IsRowAsked (asks k) rows n ⊎ IsCpuAsked asks (k + 1) rest n
  one-cpu k rows rest n a = by a.cpu a.shown a.asked
    where
      by : (j : ℕ) → slice_get (rows ∷ rest) j ≡ Some a.rows → IsRowAsked (asks (k + j)) a.rows n → IsRowAsked (asks k) rows n ⊎ IsCpuAsked asks (k + 1) rest n
      by zero shown asked = inl (subst (λ (rs : List CpuLine). IsRowAsked (asks k) rs n) (sym (same_Some _ _ shown)) (asked-at (k + 0) k a.rows n (omega arith) asked))
      by (suc j) shown asked = inr (record { cpu = j; rows = a.rows; shown = shown; asked = asked-at (k + suc j) (k + 1 + j) a.rows n (omega arith) asked })

  walk-cpus : (P : ℕ → Type 0) (k : ℕ) (found : Option ℕ) (cpus : List (List CpuLine)) → IsLowest P found → IsLowest (λ (n : ℕ). P n ⊎ IsCpuAsked asks k cpus n) (lowest_cpu asks k found cpus)
  walk-cpus P k found [] low = other-words P (λ (n : ℕ). P n ⊎ IsCpuAsked asks k [] n) found (λ n was. inl was) (λ n asked. elim asked [ inl was ↦ was | inr a ↦ absurd (none-some _ a.shown) ]) low
  walk-cpus P k found (rows ∷ rest) low =
      other-words (λ (n : ℕ). (P n ⊎ IsRowAsked (asks k) rows n) ⊎ IsCpuAsked asks (k + 1) rest n) (λ (n : ℕ). P n ⊎ IsCpuAsked asks k (rows ∷ rest) n) _
      (λ n asked. elim asked [
        | inl (inl was) ↦ inl was
        | inl (inr here) ↦ inr (first-cpu k rows rest n here)
        | inr later ↦ inr (later-cpu k rows rest n later)
      ])
      (λ n asked. elim asked [
        | inl was ↦ inl (inl was)
        | inr a ↦ elim (one-cpu k rows rest n a) [ inl here ↦ inl (inr here) | inr later ↦ inr later ]
      ])
      (walk-cpus (λ (n : ℕ). P n ⊎ IsRowAsked (asks k) rows n) (k + 1) (lowest_row (asks k) found rows) rest (walk-rows (asks k) P found rows low))

  walked : (cpus : List (List CpuLine)) → IsLowest (IsCpuAsked asks 0 cpus) (lowest_cpu asks 0 None cpus)
  walked cpus =
      other-words (λ (n : ℕ). ⊥ ⊎ IsCpuAsked asks 0 cpus n) (IsCpuAsked asks 0 cpus) _ (λ n asked. elim asked [ inl none ↦ absurd none | inr a ↦ a ]) (λ n a. inr a)
      (walk-cpus (λ (n : ℕ). ⊥) 0 None cpus (λ n none. none))

-- a processor more of the walk
pub cpus-next : (asks : ℕ → CpuLine → Bool) (n : ℕ) (cpus : List (List CpuLine)) (rows : List CpuLine) (lowest next total : Option ℕ) → n < length cpus → rows ≡ unwrap_or (slice_get cpus n) [] → next ≡ lowest_row (asks n) lowest rows
    → lowest_cpu asks n lowest (drop n cpus) ≡ total → lowest_cpu asks (n + 1) next (drop (n + 1) cpus) ≡ total
cpus-next asks n cpus rows lowest next total within are next_is was =
    let read : rows ≡ get_or cpus n [] = are ∙ ap (λ (o : Option (List CpuLine)). unwrap_or o []) (slice_get-get_or cpus n [] within) in
    ap (λ (f : Option ℕ). lowest_cpu asks (n + 1) f (drop (n + 1) cpus)) (next_is ∙ ap (λ (rs : List CpuLine). lowest_row (asks n) lowest rs) read)
    ∙ sym (ap (λ (l : List (List CpuLine)). lowest_cpu asks n lowest l) (drop_more cpus n [] within)) ∙ was

-- which results leave a mark
marking-says : (came : OfflineResult) (moved : Bool) → marking came ≡ Some moved → says_soft moved (Some (offline_answer came)) ≡ true
marking-says (results.Moved to at) true is = refl
marking-says (results.Moved to at) false is = sym (same_Some true false is)
marking-says results.TakenFree true is = same_Some false true is
marking-says results.TakenFree false is = refl
marking-says _ moved is = absurd (none-some moved is)

says-marking : (came : OfflineResult) (moved : Bool) → says_soft moved (Some (offline_answer came)) ≡ true → marking came ≡ Some moved
says-marking (results.Moved to at) true is = refl
says-marking (results.Moved to at) false is = absurd (true≢false (sym is))
says-marking results.TakenFree true is = absurd (true≢false (sym is))
says-marking results.TakenFree false is = refl
says-marking results.Already true is = absurd (true≢false (sym is))
says-marking results.Already false is = absurd (true≢false (sym is))
says-marking (results.HasBad mask) true is = absurd (true≢false (sym is))
says-marking (results.HasBad mask) false is = absurd (true≢false (sym is))
says-marking results.NoFrame true is = absurd (true≢false (sym is))
says-marking results.NoFrame false is = absurd (true≢false (sym is))
says-marking results.Stopped true is = absurd (true≢false (sym is))
says-marking results.Stopped false is = absurd (true≢false (sym is))

-- a line that is there counts
counted : (p : OfflinedLine → Bool) (mine : Bool) (l : OfflinedLine) (ls : List OfflinedLine) → mine ≡ true → p l ≡ true → 0 < count_by p (cond mine (l ∷ ls) ls)
counted p true l ls own so =
    let all : count_by p (l ∷ ls) ≡ flag (p l) + count_by p ls = sum_by-cons (λ (x : OfflinedLine). flag (p x)) l ls in
    let one : flag (p l) ≡ flag true = ap flag so in
    omega (arith, all, one)
counted p false l ls own so = absurd (true≢false (sym own))

counted-on : (p : OfflinedLine → Bool) (mine : Bool) (l : OfflinedLine) (ls : List OfflinedLine) → 0 < count_by p ls → 0 < count_by p (cond mine (l ∷ ls) ls)
counted-on p true l ls low = let all : count_by p (l ∷ ls) ≡ flag (p l) + count_by p ls = sum_by-cons (λ (x : OfflinedLine). flag (p x)) l ls in omega (arith, all, low)
counted-on p false l ls low = low

there-counts : (p : OfflinedLine → Bool) (seq : ℕ) (rows : List CpuLine) (i : ℕ) (l : OfflinedLine) → slice_get rows i ≡ Some (lines.Offlined l) → l.seq ≡ seq → p l ≡ true → 0 < count_by p (offlined_among rows seq)
there-counts p seq [] i l there own so = absurd (none-some _ there)
there-counts p seq (r ∷ rest) zero l there own so =
    subst (λ (x : CpuLine). 0 < count_by p (offlined_among (x ∷ rest) seq)) (sym (same_Some _ _ there)) (counted p (seq == l.seq) l (offlined_among rest seq) (eq-eqb seq l.seq (sym own)) so)
there-counts p seq (lines.Event event ∷ rest) (suc i) l there own so = there-counts p seq rest i l there own so
there-counts p seq (lines.Guest guest ∷ rest) (suc i) l there own so = there-counts p seq rest i l there own so
there-counts p seq (lines.Answer s answer ∷ rest) (suc i) l there own so = there-counts p seq rest i l there own so
there-counts p seq (lines.Offlined k ∷ rest) (suc i) l there own so = counted-on p (seq == k.seq) k (offlined_among rest seq) (there-counts p seq rest i l there own so)

-- and where one counts, it is there
record IsThere (p : OfflinedLine → Bool) (seq : ℕ) (rows : List CpuLine) : Type 0 where
  place : ℕ
  line : OfflinedLine
  there : slice_get rows place ≡ Some (lines.Offlined line)
  own : line.seq ≡ seq
  so : p line ≡ true

later-there : (p : OfflinedLine → Bool) (seq : ℕ) (r : CpuLine) (rows : List CpuLine) → IsThere p seq rows → IsThere p seq (r ∷ rows)
later-there p seq r rows t = record { place = suc t.place; line = t.line; there = t.there; own = t.own; so = t.so }

counts-there : (p : OfflinedLine → Bool) (seq : ℕ) (rows : List CpuLine) → 0 < count_by p (offlined_among rows seq) → IsThere p seq rows
counts-there p seq [] low = absurd (omega (arith, low))
counts-there p seq (lines.Event event ∷ rest) low = later-there p seq (lines.Event event) rest (counts-there p seq rest low)
counts-there p seq (lines.Guest guest ∷ rest) low = later-there p seq (lines.Guest guest) rest (counts-there p seq rest low)
counts-there p seq (lines.Answer s answer ∷ rest) low = later-there p seq (lines.Answer s answer) rest (counts-there p seq rest low)
counts-there p seq (lines.Offlined l ∷ rest) low = by (seq == l.seq) (p l) refl refl low (λ more. later-there p seq (lines.Offlined l) rest (counts-there p seq rest more))
  where
    by : (mine so : Bool) → (seq == l.seq) ≡ mine → p l ≡ so → 0 < count_by p (cond mine (l ∷ offlined_among rest seq) (offlined_among rest seq)) → (0 < count_by p (offlined_among rest seq) → IsThere p seq (lines.Offlined l ∷ rest)) → IsThere p seq (lines.Offlined l ∷ rest)
    by true true own so some later = record { place = 0; line = l; there = refl; own = sym (eqb-true seq l.seq own); so = so }
    by true false own so some later =
        let all : count_by p (l ∷ offlined_among rest seq) ≡ flag (p l) + count_by p (offlined_among rest seq) = sum_by-cons (λ (x : OfflinedLine). flag (p x)) l (offlined_among rest seq) in
        let none : flag (p l) ≡ flag false = ap flag so in
        later (omega (arith, some, all, none))
    by false so own is some later = later some

abbrev who-at : ℕ → ℕ → Who
who-at cpu seq = record { cpu = record { 0 = cpu }; seq = seq }

module _ {S : Type 0} (script : Script) (report : Report) (lines_are counts : HashMap ((ℕ × ℕ) × ℕ) ℕ S) (of_lines : AreBeside report lines_are) (of_marks : (q : (ℕ × ℕ) × ℕ) → at_key counts q ≡ frames_told lines_are 0 q report.frames) where
  marks-are : (who : Who) (frame : Frame) (moved : Bool) → 0 < lines_beside report who frame.0 moved → at_key counts (spot who frame.0 moved) ≡ count_by (is_soft_mark who moved) (marks_of report frame.0)
  marks-are who frame moved beside =
      let is : at_key lines_are (spot who frame.0 moved) ≡ lines_beside report who frame.0 moved = of_lines.counted who frame.0 moved in
      of_marks (spot who frame.0 moved) ∙ told-are lines_are who frame.0 moved (omega (arith, is, beside)) report

  row-home : (cpu : ℕ) (rows : List CpuLine) (i : ℕ) (r : CpuLine) → slice_get report.cpus cpu ≡ Some rows → slice_get rows i ≡ Some r → is_unmarked script report counts cpu r ≡ true → IsSoftHome script report (frame_told r)
  row-home cpu rows i (lines.Event event) shown there so = absurd (true≢false (sym so))
  row-home cpu rows i (lines.Guest guest) shown there so = absurd (true≢false (sym so))
  row-home cpu rows i (lines.Answer s answer) shown there so = absurd (true≢false (sym so))
  row-home cpu rows i (lines.Offlined l) shown there so = by (marking l.result) refl so
    where
      by : (o : Option Bool) → marking l.result ≡ o → has_few script report counts (who-at cpu l.seq) l.frame o ≡ true → IsSoftHome script report l.frame.0
      by None is few = absurd (true≢false (sym few))
      by (Some moved) is few =
          let counts_here : 0 < count_by (says l.frame.0 moved) (offlined_among rows l.seq) = there-counts (says l.frame.0 moved) l.seq rows i l there refl (and-both _ _ (eq-eqb l.frame.0 l.frame.0 refl) (marking-says l.result moved is)) in
          let beside : 0 < lines_beside report (who-at cpu l.seq) l.frame.0 moved = subst (λ (o : Option (List CpuLine)). 0 < count_by (says l.frame.0 moved) (offlined_among (unwrap_or o []) l.seq)) (sym shown) counts_here in
          let less : at_key counts (spot (who-at cpu l.seq) l.frame.0 moved) < soft_lines script report (who-at cpu l.seq) l.frame moved = ltb-true _ _ few in
          let are : at_key counts (spot (who-at cpu l.seq) l.frame.0 moved) ≡ count_by (is_soft_mark (who-at cpu l.seq) moved) (marks_of report l.frame.0) = marks-are (who-at cpu l.seq) l.frame moved beside in
          record { frame = l.frame; who = who-at cpu l.seq; moved = moved; beside = beside; home_is = refl; beyond = omega (arith, less, are) }

  asked-home : (home : ℕ) → IsCpuAsked (is_unmarked script report counts) 0 report.cpus home → IsSoftHome script report home
  asked-home home a =
      subst (λ (n : ℕ). IsSoftHome script report n) (sym a.asked.home_is)
      (row-home a.cpu a.rows a.asked.place a.asked.row a.shown a.asked.there (subst (λ (k : ℕ). is_unmarked script report counts k a.asked.row ≡ true) (omega arith) a.asked.so))

  home-asked : (home : ℕ) → IsSoftHome script report home → IsCpuAsked (is_unmarked script report counts) 0 report.cpus home
  home-asked home h = by (slice_get report.cpus h.who.cpu.0) refl h.beside
    where
      by : (o : Option (List CpuLine)) → slice_get report.cpus h.who.cpu.0 ≡ o → 0 < count_by (says h.frame.0 h.moved) (offlined_among (unwrap_or o []) h.who.seq) → IsCpuAsked (is_unmarked script report counts) 0 report.cpus home
      by None is some = absurd (omega (arith, some))
      by (Some rows) is some =
          let t = counts-there (says h.frame.0 h.moved) h.who.seq rows some in
          let frame_is : t.line.frame.0 ≡ h.frame.0 = eqb-true t.line.frame.0 h.frame.0 (and-left _ _ t.so) in
          let came : marking t.line.result ≡ Some h.moved = says-marking t.line.result h.moved (and-right (t.line.frame.0 == h.frame.0) (says_soft h.moved (Some (offline_answer t.line.result))) t.so) in
          let are : at_key counts (spot h.who h.frame.0 h.moved) ≡ count_by (is_soft_mark h.who h.moved) (marks_of report h.frame.0) = marks-are h.who h.frame h.moved h.beside in
          let beyond : count_by (is_soft_mark h.who h.moved) (marks_of report h.frame.0) < soft_lines script report h.who h.frame h.moved = h.beyond in
          let few : has_few script report counts h.who h.frame (Some h.moved) ≡ true = lt-ltb _ _ (omega (arith, are, beyond)) in
          let here : is_unmarked script report counts h.who.cpu.0 (lines.Offlined t.line) ≡ true =
          ap (λ (s : ℕ). has_few script report counts (who-at h.who.cpu.0 s) t.line.frame (marking t.line.result)) t.own
          ∙ ap (λ (f : ℕ). has_few script report counts h.who (record { 0 = f }) (marking t.line.result)) frame_is ∙ ap (has_few script report counts h.who h.frame) came ∙ few in
          record {
            cpu = h.who.cpu.0;
            rows = rows;
            shown = is;
            asked = record {
              place = t.place;
              row = lines.Offlined t.line;
              there = t.there;
              so = subst (λ (k : ℕ). is_unmarked script report counts k (lines.Offlined t.line) ≡ true) (omega arith) here;
              home_is = h.home_is ∙ sym frame_is;
            };
          }

  pub lowest-home : IsLowest (IsSoftHome script report) (lowest_cpu (is_unmarked script report counts) 0 None report.cpus)
  lowest-home = other-words (IsCpuAsked (is_unmarked script report counts) 0 report.cpus) (IsSoftHome script report) _ asked-home home-asked (walked (is_unmarked script report counts) report.cpus)

-- the line of the lowest frame is the first
pub soft-least : (script : Script) (report : Report) (home : ℕ) → IsLeast (IsSoftHome script report) home → IsLeast (IsSoftBeyond script report) (frame_line report home)
soft-least script report home least = record {
  at = record { frame = least.at.frame; who = least.at.who; moved = least.at.moved; beside = least.at.beside; line_is = ap (frame_line report) least.at.home_is; beyond = least.at.beyond };
  first = λ other l.
      let low : home ≤ l.frame.0 = least.first l.frame.0 (record { frame = l.frame; who = l.who; moved = l.moved; beside = l.beside; home_is = refl; beyond = l.beyond }) in
      let rises : frame_line report home ≤ frame_line report l.frame.0 = frame-rises report home l.frame.0 low in
      let is : other ≡ frame_line report l.frame.0 = l.line_is in
      omega (arith, rises, is);
}

pub none-soft : (script : Script) (report : Report) → ((home : ℕ) → IsSoftHome script report home → ⊥) → (line : ℕ) → IsSoftBeyond script report line → ⊥
none-soft script report none line l = none l.frame.0 (record { frame = l.frame; who = l.who; moved = l.moved; beside = l.beside; home_is = refl; beyond = l.beyond })

-- the same of what the walk over all processors found
pub soft-lowest : {S : Type 0} (script : Script) (report : Report) (lines_are counts : HashMap ((ℕ × ℕ) × ℕ) ℕ S) (frames : List FrameLine) (found : Option ℕ) (n : ℕ) → AreBeside report lines_are → frames ≡ report.frames
    → ((q : (ℕ × ℕ) × ℕ) → at_key counts q ≡ frames_told lines_are 0 q frames) → length report.cpus ≤ n → lowest_cpu (is_unmarked script report counts) n found (drop n report.cpus) ≡ lowest_cpu (is_unmarked script report counts) 0 None report.cpus
    → IsLowest (IsSoftHome script report) found
soft-lowest script report lines_are counts frames found n of_lines frames_are of_marks end walk =
    let rest : lowest_cpu (is_unmarked script report counts) n found (drop n report.cpus) ≡ found = ap (λ (l : List (List CpuLine)). lowest_cpu (is_unmarked script report counts) n found l) (drop_all n report.cpus end) in
    subst (λ (f : Option ℕ). IsLowest (IsSoftHome script report) f) (sym walk ∙ rest)
    (lowest-home script report lines_are counts of_lines (λ q. of_marks q ∙ ap (λ (l : List FrameLine). frames_told lines_are 0 q l) frames_are))
