-- The counts of failures that a thread needed the page for.
use Rattle.std.proofs.Common.{◌≡◌, ℕ, zero, suc, ◌+◌, ◌<◌, ◌≤◌, ◌==◌, ◌&&◌, Bool, true, false, cond, List, [], ◌∷◌, get_or, is_some, length, sum_by, take, refl, ap, ◌∙◌, arith}
use Rattle.std.proofs.lemmas.List.Sums.{sum_by-cons, sum_by_more_le}
use Rattle.hwp_check_rules.specs.hwp_geom.declared.Who.{Who}
use Rattle.hwp_check_rules.specs.hwp_page.declared.Entry.{Entry}
use Rattle.hwp_check_rules.specs.hwp_page.declared.Situation.{Situation}
use Rattle.hwp_check_rules.specs.hwp_page.declared.What.{What}
use Rattle.hwp_check_rules.specs.hwp_page.declared.What.TheVariants as entries
use Rattle.hwp_check_rules.specs.hwp_report_text.declared.Report.{Report}
use Rattle.hwp_check_rules.specs.hwp_law.Lines.{is_same_command}
use Rattle.hwp_check_rules.specs.hwp_law.Pairings.{entries_of, is_required, situation_number}
use Rattle.hwp_check_rules.specs.Standing.{entry_height, page_height}
use Rattle.hwp_check_frames.specs.Counts.{raise}
use Rattle.hwp_check_marks.specs.Needed.{entry_needed, page_needed, pages_needed, what_needed}
use Rattle.hwp_check_marks.specs.Tallies.{key_of}
use Rattle.hwp_check_marks.specs.declared.kinds.Kind.TheVariants as kinds
use Rattle.hwp_check_marks.proofs.TallyLaws.{and-none, entry-lines, raise-is, same-sum}
use Rattle.hwp_check_frames.proofs.CountRises.{flag, raise-one}

entry-one : (q : (ℕ × ℕ) × ℕ) (e : Entry) → entry_needed q e ≤ 1
entry-one q e = at e.what
  where
    by : (b : Bool) (n : ℕ) → n ≤ 1 → cond b n 0 ≤ 1
    by true n low = low
    by false n low = omega arith

    at : (w : What) → what_needed q e.who w ≤ 1
    at (entries.Fail situation required seen signals) = by (is_some required) (raise (key_of e.who (kinds.Failure situation)) q) (raise-one (key_of e.who (kinds.Failure situation)) q)
    at _ = omega arith

needed-low : (q : (ℕ × ℕ) × ℕ) (list : List Entry) → page_needed q list ≤ length list
needed-low q [] = omega arith
needed-low q (e ∷ es) =
    let all : page_needed q (e ∷ es) ≡ entry_needed q e + page_needed q es = sum_by-cons (entry_needed q) e es in
    let one : entry_needed q e ≤ 1 = entry-one q e in
    let rest : page_needed q es ≤ length es = needed-low q es in
    omega (arith, all, one, rest)

pages-low : (q : (ℕ × ℕ) × ℕ) (pages : List (List Entry)) → pages_needed q pages ≤ sum_by page_height pages
pages-low q [] = omega arith
pages-low q (p ∷ ps) =
    let all : pages_needed q (p ∷ ps) ≡ page_needed q p + pages_needed q ps = sum_by-cons (page_needed q) p ps in
    let lines : sum_by page_height (p ∷ ps) ≡ page_height p + sum_by page_height ps = sum_by-cons page_height p ps in
    let one : page_needed q p ≤ length p = needed-low q p in
    let each : length p ≤ sum_by entry_height p = entry-lines p in
    let rest : pages_needed q ps ≤ sum_by page_height ps = pages-low q ps in
    omega (arith, all, lines, one, each, rest)

pub needed-front-low : (q : (ℕ × ℕ) × ℕ) (list : List Entry) (i : ℕ) → i < length list → page_needed q (take i list) < length list
needed-front-low q [] i low = absurd (omega (arith, low))
needed-front-low q (e ∷ es) zero low = omega arith
needed-front-low q (e ∷ es) (suc k) low =
    let all : page_needed q (e ∷ take k es) ≡ entry_needed q e + page_needed q (take k es) = sum_by-cons (entry_needed q) e (take k es) in
    let one : entry_needed q e ≤ 1 = entry-one q e in
    let rest : page_needed q (take k es) < length es = needed-front-low q es k (omega (arith, low)) in
    omega (arith, all, one, rest)

pub needed-room : (q : (ℕ × ℕ) × ℕ) (pages : List (List Entry)) (i : ℕ) (d x list : List Entry) → i < length pages → x ≡ get_or pages i d → list ≡ x → pages_needed q (take i pages) + length list ≤ sum_by page_height pages
needed-room q pages i d x list within is list_is =
    let same : length list ≡ length (get_or pages i d) = ap (λ (es : List Entry). length es) (list_is ∙ is) in
    let low : pages_needed q (take i pages) ≤ sum_by page_height (take i pages) = pages-low q (take i pages) in
    let more : sum_by page_height (take i pages) + page_height (get_or pages i d) ≤ sum_by page_height pages = sum_by_more_le page_height pages i d within in
    let each : length (get_or pages i d) ≤ sum_by entry_height (get_or pages i d) = entry-lines (get_or pages i d) in
    omega (arith, low, more, each, same)

what-required : (v w : Who) (what : What) (t : Situation) → what_needed (key_of w (kinds.Failure t)) v what ≡ flag (is_same_command w v && is_required t what)
what-required v w (entries.Fail s required seen signals) t =
    ap (λ (n : ℕ). cond (is_some required) n 0) (raise-is v w (kinds.Failure s) (kinds.Failure t)) ∙ by (is_some required) (is_same_command w v) (situation_number s == situation_number t)
  where
    by : (needed same found : Bool) → cond needed (flag (same && found)) 0 ≡ flag (same && (found && needed))
    by true true true = refl
    by true true false = refl
    by true false found = refl
    by false true true = refl
    by false true false = refl
    by false false found = refl
what-required v w _ t = and-none (is_same_command w v)

pub needed-is : (report : Report) (w : Who) (t : Situation) → pages_needed (key_of w (kinds.Failure t)) report.pages ≡ entries_of report w (is_required t)
needed-is report w t =
    same-sum (page_needed (key_of w (kinds.Failure t))) (λ (list : List Entry). sum_by (λ (e : Entry). flag (is_same_command w e.who && is_required t e.what)) list) report.pages
    (λ list. same-sum (entry_needed (key_of w (kinds.Failure t))) (λ (e : Entry). flag (is_same_command w e.who && is_required t e.what)) list (λ e. what-required e.who w e.what t))
