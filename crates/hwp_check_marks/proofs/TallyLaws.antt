-- The counts of keys are the counts of a command's marks and entries of a kind, and no count is higher than there are lines.
use Rattle.std.proofs.Common.{◌≡◌, inl, inr, ℕ, zero, suc, ◌+◌, ◌<◌, ◌≤◌, ◌==◌, ◌&&◌, not, Bool, true, false, cond, List, [], ◌∷◌, count_by, get_or, length, sum_by, take, refl, ap, ◌∙◌, arith}
use Rattle.std.proofs.lemmas.Bool.{cases_Bool, eqb-true, ne_eqb}
use Rattle.std.proofs.lemmas.List.Sums.{sum_by-cons, sum_by-take-le, sum_by_more_le}
use Rattle.hwp_check_rules.specs.hwp_geom.declared.Who.{Who}
use Rattle.hwp_check_rules.specs.hwp_page.declared.Entry.{Entry}
use Rattle.hwp_check_rules.specs.hwp_page.declared.Situation.{Situation}
use Rattle.hwp_check_rules.specs.hwp_page.declared.Situation.TheVariants as situations
use Rattle.hwp_check_rules.specs.hwp_page.declared.What.{What}
use Rattle.hwp_check_rules.specs.hwp_page.declared.What.TheVariants as entries
use Rattle.hwp_check_rules.specs.hwp_report_text.declared.FrameLine.{FrameLine}
use Rattle.hwp_check_rules.specs.hwp_report_text.declared.How.{How}
use Rattle.hwp_check_rules.specs.hwp_report_text.declared.How.TheVariants as hows
use Rattle.hwp_check_rules.specs.hwp_report_text.declared.MarkLine.{MarkLine}
use Rattle.hwp_check_rules.specs.hwp_report_text.declared.MarkLine.TheVariants as marks
use Rattle.hwp_check_rules.specs.hwp_law.Lines.{is_same_command}
use Rattle.hwp_check_rules.specs.hwp_law.Pairings.{situation_number}
use Rattle.hwp_check_rules.specs.Standing.{entry_height, frame_height, page_height, what_height}
use Rattle.hwp_check_frames.specs.Counts.{raise}
use Rattle.hwp_check_frames.proofs.CountRises.{flag, flag-one, raise-one, same-swap}
use Rattle.hwp_check_marks.specs.Tallies.{entry_raise, frames_raise, how_raise, key_of, kind_number, mark_raise, marks_raise, page_raise, pages_raise, what_raise}
use Rattle.hwp_check_marks.specs.Unpaired.{in_frames, in_page, in_pages, is_entry, is_kind}
use Rattle.hwp_check_marks.specs.declared.kinds.Kind.{Kind}
use Rattle.hwp_check_marks.specs.declared.kinds.Kind.TheVariants as kinds

-- a key is counted for its own kind alone
raise-kind : (x q : (ℕ × ℕ) × ℕ) → raise x q ≤ flag (x.1 == q.1)
raise-kind x q = low ((x.0.0 == q.0.0) && (x.0.1 == q.0.1)) (x.1 == q.1)
  where
    low : (a b : Bool) → flag (a && b) ≤ flag b
    low true b = omega arith
    low false b = omega arith

one-kind : (a b n : ℕ) → a < b → flag (a == n) + flag (b == n) ≤ 1
one-kind a b n less = elim (cases_Bool (a == n)) [
  | inl is ↦ elim (cases_Bool (b == n)) [
    | inl too ↦ let one : a ≡ n = eqb-true a n is in let other : b ≡ n = eqb-true b n too in absurd (omega (arith, one, other, less))
    | inr not_so ↦ let one : flag (a == n) ≡ flag true = ap flag is in let other : flag (b == n) ≡ flag false = ap flag not_so in omega (arith, one, other)
  ]
  | inr not_so ↦ let one : flag (a == n) ≡ flag false = ap flag not_so in let most : flag (b == n) ≤ 1 = flag-one (b == n) in omega (arith, one, most)
]

situation-low : (s : Situation) → situation_number s < 10
situation-low situations.Free = omega arith
situation-low situations.Kernel = omega arith
situation-low situations.FileClean = omega arith
situation-low situations.FileDirty = omega arith
situation-low situations.AnonOnly = omega arith
situation-low situations.SwapClean = omega arith
situation-low situations.SwapDirty = omega arith
situation-low situations.LockedClean = omega arith
situation-low situations.LockedFile = omega arith
situation-low situations.LockedAnon = omega arith

two-kinds : (who : Who) (k l : Kind) (q : (ℕ × ℕ) × ℕ) → kind_number k < kind_number l → raise (key_of who k) q + raise (key_of who l) q ≤ 1
two-kinds who k l q less =
    let a : raise (key_of who k) q ≤ flag (kind_number k == q.1) = raise-kind (key_of who k) q in
    let b : raise (key_of who l) q ≤ flag (kind_number l == q.1) = raise-kind (key_of who l) q in
    let c : flag (kind_number k == q.1) + flag (kind_number l == q.1) ≤ 1 = one-kind (kind_number k) (kind_number l) q.1 less in
    omega (arith, a, b, c)

-- a mark is counted once at most for a key, and so is an entry
how-one : (q : (ℕ × ℕ) × ℕ) (who : Who) (how : How) → how_raise q who how ≤ 1
how-one q who (hows.Failure true situation outcome) = let one : raise (key_of who (kinds.Failure situation)) q ≤ 1 = raise-one (key_of who (kinds.Failure situation)) q in omega (arith, one)
how-one q who (hows.Failure false situation outcome) =
    let low : situation_number situation < 10 = situation-low situation in
    two-kinds who (kinds.Failure situation) kinds.Commanded q (omega (arith, low))
how-one q who hows.Moved = raise-one (key_of who kinds.Moved) q
how-one q who hows.TakenFree = omega arith

mark-one : (q : (ℕ × ℕ) × ℕ) (m : MarkLine) → mark_raise q m ≤ 1
mark-one q (marks.Poisoned cycle who how) = how-one q who how
mark-one q (marks.Unpoisoned cycle who) = raise-one (key_of who kinds.Commanded) q

entry-one : (q : (ℕ × ℕ) × ℕ) (e : Entry) → entry_raise q e ≤ 1
entry-one q e = at e.what
  where
    at : (w : What) → what_raise q e.who w ≤ 1
    at (entries.Fail situation required seen signals) = raise-one (key_of e.who (kinds.Failure situation)) q
    at entries.Soft = raise-one (key_of e.who kinds.Moved) q
    at _ = omega arith

pub marks-low : (q : (ℕ × ℕ) × ℕ) (list : List MarkLine) → marks_raise q list ≤ length list
marks-low q [] = omega arith
marks-low q (m ∷ ms) =
    let all : marks_raise q (m ∷ ms) ≡ mark_raise q m + marks_raise q ms = sum_by-cons (mark_raise q) m ms in
    let one : mark_raise q m ≤ 1 = mark-one q m in
    let rest : marks_raise q ms ≤ length ms = marks-low q ms in
    omega (arith, all, one, rest)

pub entries-low : (q : (ℕ × ℕ) × ℕ) (list : List Entry) → page_raise q list ≤ length list
entries-low q [] = omega arith
entries-low q (e ∷ es) =
    let all : page_raise q (e ∷ es) ≡ entry_raise q e + page_raise q es = sum_by-cons (entry_raise q) e es in
    let one : entry_raise q e ≤ 1 = entry-one q e in
    let rest : page_raise q es ≤ length es = entries-low q es in
    omega (arith, all, one, rest)

-- an entry has a line, or more
what-line : (w : What) → 1 ≤ what_height w
what-line (entries.Fail situation required seen signals) = omega arith
what-line _ = omega arith

pub entry-lines : (list : List Entry) → length list ≤ sum_by entry_height list
entry-lines [] = omega arith
entry-lines (e ∷ es) =
    let all : sum_by entry_height (e ∷ es) ≡ entry_height e + sum_by entry_height es = sum_by-cons entry_height e es in
    let one : 1 ≤ entry_height e = what-line e.what in
    let rest : length es ≤ sum_by entry_height es = entry-lines es in
    omega (arith, all, one, rest)

pub frames-low : (q : (ℕ × ℕ) × ℕ) (frames : List FrameLine) → frames_raise q frames ≤ sum_by frame_height frames
frames-low q [] = omega arith
frames-low q (l ∷ ls) =
    let all : frames_raise q (l ∷ ls) ≡ marks_raise q l.marks + frames_raise q ls = sum_by-cons (λ (x : FrameLine). marks_raise q x.marks) l ls in
    let lines : sum_by frame_height (l ∷ ls) ≡ frame_height l + sum_by frame_height ls = sum_by-cons frame_height l ls in
    let one : marks_raise q l.marks ≤ length l.marks = marks-low q l.marks in
    let rest : frames_raise q ls ≤ sum_by frame_height ls = frames-low q ls in
    omega (arith, all, lines, one, rest)

pages-low : (q : (ℕ × ℕ) × ℕ) (pages : List (List Entry)) → pages_raise q pages ≤ sum_by page_height pages
pages-low q [] = omega arith
pages-low q (p ∷ ps) =
    let all : pages_raise q (p ∷ ps) ≡ page_raise q p + pages_raise q ps = sum_by-cons (page_raise q) p ps in
    let lines : sum_by page_height (p ∷ ps) ≡ page_height p + sum_by page_height ps = sum_by-cons page_height p ps in
    let one : page_raise q p ≤ length p = entries-low q p in
    let each : length p ≤ sum_by entry_height p = entry-lines p in
    let rest : pages_raise q ps ≤ sum_by page_height ps = pages-low q ps in
    omega (arith, all, lines, one, each, rest)

-- what was counted and what comes next stay below the number of lines
pub frames-room : (q : (ℕ × ℕ) × ℕ) (frames : List FrameLine) (i : ℕ) (d x : FrameLine) (list : List MarkLine) → i < length frames → x ≡ get_or frames i d → list ≡ x.marks → frames_raise q (take i frames) + length list ≤ sum_by frame_height frames
frames-room q frames i d x list within is marks_are =
    let same : length list ≡ length (get_or frames i d).marks = ap (λ (ms : List MarkLine). length ms) (marks_are ∙ ap (λ (l : FrameLine). l.marks) is) in
    let low : frames_raise q (take i frames) ≤ sum_by frame_height (take i frames) = frames-low q (take i frames) in
    let more : sum_by frame_height (take i frames) + frame_height (get_or frames i d) ≤ sum_by frame_height frames = sum_by_more_le frame_height frames i d within in
    omega (arith, low, more, same)

-- the same of any count that has no more than the lines before
pub frame-room : (frames : List FrameLine) (i : ℕ) (d x : FrameLine) (list : List MarkLine) (was : ℕ) → i < length frames → x ≡ get_or frames i d → list ≡ x.marks → was ≤ sum_by frame_height (take i frames) → was + length list + 1 ≤ sum_by frame_height frames
frame-room frames i d x list was within is marks_are low =
    let same : length list ≡ length (get_or frames i d).marks = ap (λ (ms : List MarkLine). length ms) (marks_are ∙ ap (λ (l : FrameLine). l.marks) is) in
    let more : sum_by frame_height (take i frames) + frame_height (get_or frames i d) ≤ sum_by frame_height frames = sum_by_more_le frame_height frames i d within in
    omega (arith, low, more, same)

pub pages-room : (q : (ℕ × ℕ) × ℕ) (pages : List (List Entry)) (i : ℕ) (d x list : List Entry) → i < length pages → x ≡ get_or pages i d → list ≡ x → pages_raise q (take i pages) + length list ≤ sum_by page_height pages
pages-room q pages i d x list within is list_is =
    let same : length list ≡ length (get_or pages i d) = ap (λ (es : List Entry). length es) (list_is ∙ is) in
    let low : pages_raise q (take i pages) ≤ sum_by page_height (take i pages) = pages-low q (take i pages) in
    let more : sum_by page_height (take i pages) + page_height (get_or pages i d) ≤ sum_by page_height pages = sum_by_more_le page_height pages i d within in
    let each : length (get_or pages i d) ≤ sum_by entry_height (get_or pages i d) = entry-lines (get_or pages i d) in
    omega (arith, low, more, each, same)

pub front-low : (q : (ℕ × ℕ) × ℕ) (list : List MarkLine) (i : ℕ) → marks_raise q (take i list) ≤ length list
front-low q list i =
    let part : marks_raise q (take i list) ≤ marks_raise q list = sum_by-take-le (mark_raise q) list i in
    let all : marks_raise q list ≤ length list = marks-low q list in
    omega (arith, part, all)

pub entries-front-low : (q : (ℕ × ℕ) × ℕ) (list : List Entry) (i : ℕ) → i < length list → page_raise q (take i list) < length list
entries-front-low q list i within = before list i within
  where
    before : (es : List Entry) (k : ℕ) → k < length es → page_raise q (take k es) < length es
    before [] k low = absurd (omega (arith, low))
    before (e ∷ es) zero low = omega arith
    before (e ∷ es) (suc k) low =
        let all : page_raise q (e ∷ take k es) ≡ entry_raise q e + page_raise q (take k es) = sum_by-cons (entry_raise q) e (take k es) in
        let one : entry_raise q e ≤ 1 = entry-one q e in
        let rest : page_raise q (take k es) < length es = before es k (omega (arith, low)) in
        omega (arith, all, one, rest)

-- the count of a command with a kind is that of its marks, or entries, of the kind
pub raise-is : (v w : Who) (k l : Kind) → raise (key_of v k) (key_of w l) ≡ flag (is_same_command w v && (kind_number k == kind_number l))
raise-is v w k l = ap (λ (b : Bool). flag (b && (kind_number k == kind_number l))) (same-swap v w)

other-kind : (a b : ℕ) → a < b → ((a == b) ≡ false) × ((b == a) ≡ false)
other-kind a b less = (ne_eqb a b (λ e. omega (arith, e, less)), ne_eqb b a (λ e. omega (arith, e, less)))

pub raise-none : (v w : Who) (k l : Kind) → (kind_number k == kind_number l) ≡ false → raise (key_of v k) (key_of w l) ≡ 0
raise-none v w k l other = raise-is v w k l ∙ ap (λ (b : Bool). flag (is_same_command w v && b)) other ∙ never (is_same_command w v)
  where
    never : (b : Bool) → flag (b && false) ≡ 0
    never true = refl
    never false = refl

raise-same : (v w : Who) (k l : Kind) → (kind_number k == kind_number l) ≡ true → raise (key_of v k) (key_of w l) ≡ flag (is_same_command w v)
raise-same v w k l same = raise-is v w k l ∙ ap (λ (b : Bool). flag (is_same_command w v && b)) same ∙ ap flag (always (is_same_command w v))
  where
    always : (b : Bool) → (b && true) ≡ b
    always true = refl
    always false = refl

pub and-none : (b : Bool) → 0 ≡ flag (b && false)
and-none true = refl
and-none false = refl

and-all : (b : Bool) → flag b ≡ flag (b && true)
and-all true = refl
and-all false = refl

how-kind : (cycle : ℕ) (v w : Who) (how : How) (l : Kind) → how_raise (key_of w l) v how ≡ flag (is_kind w l (marks.Poisoned cycle v how))
how-kind cycle v w (hows.Failure hardware s outcome) (kinds.Failure t) =
    let one : raise (key_of v (kinds.Failure s)) (key_of w (kinds.Failure t)) ≡ flag (is_same_command w v && (situation_number s == situation_number t)) = raise-is v w (kinds.Failure s) (kinds.Failure t) in
    let low : situation_number t < 10 = situation-low t in
    let none : raise (key_of v kinds.Commanded) (key_of w (kinds.Failure t)) ≡ 0 = raise-none v w kinds.Commanded (kinds.Failure t) (other-kind (situation_number t) 11 (omega (arith, low))).1 in
    let hidden : cond (not hardware) (raise (key_of v kinds.Commanded) (key_of w (kinds.Failure t))) 0 ≡ 0 = hide (not hardware) (raise (key_of v kinds.Commanded) (key_of w (kinds.Failure t))) none in
    omega (arith, one, hidden)
  where
    hide : (b : Bool) (n : ℕ) → n ≡ 0 → cond b n 0 ≡ 0
    hide true n is = is
    hide false n is = refl
how-kind cycle v w (hows.Failure hardware s outcome) kinds.Moved =
    let low : situation_number s < 10 = situation-low s in
    let none : raise (key_of v (kinds.Failure s)) (key_of w kinds.Moved) ≡ 0 = raise-none v w (kinds.Failure s) kinds.Moved (other-kind (situation_number s) 10 low).0 in
    let other : raise (key_of v kinds.Commanded) (key_of w kinds.Moved) ≡ 0 = raise-none v w kinds.Commanded kinds.Moved refl in
    let hidden : cond (not hardware) (raise (key_of v kinds.Commanded) (key_of w kinds.Moved)) 0 ≡ 0 = hide (not hardware) (raise (key_of v kinds.Commanded) (key_of w kinds.Moved)) other in
    let is : 0 ≡ flag (is_same_command w v && false) = and-none (is_same_command w v) in
    omega (arith, none, hidden, is)
  where
    hide : (b : Bool) (n : ℕ) → n ≡ 0 → cond b n 0 ≡ 0
    hide true n is = is
    hide false n is = refl
how-kind cycle v w (hows.Failure true s outcome) kinds.Commanded =
    let low : situation_number s < 10 = situation-low s in
    let none : raise (key_of v (kinds.Failure s)) (key_of w kinds.Commanded) ≡ 0 = raise-none v w (kinds.Failure s) kinds.Commanded (other-kind (situation_number s) 11 (omega (arith, low))).0 in
    let is : 0 ≡ flag (is_same_command w v && false) = and-none (is_same_command w v) in
    omega (arith, none, is)
how-kind cycle v w (hows.Failure false s outcome) kinds.Commanded =
    let low : situation_number s < 10 = situation-low s in
    let none : raise (key_of v (kinds.Failure s)) (key_of w kinds.Commanded) ≡ 0 = raise-none v w (kinds.Failure s) kinds.Commanded (other-kind (situation_number s) 11 (omega (arith, low))).0 in
    let one : raise (key_of v kinds.Commanded) (key_of w kinds.Commanded) ≡ flag (is_same_command w v) = raise-same v w kinds.Commanded kinds.Commanded refl in
    let is : flag (is_same_command w v) ≡ flag (is_same_command w v && true) = and-all (is_same_command w v) in
    omega (arith, none, one, is)
how-kind cycle v w hows.Moved (kinds.Failure t) =
    let low : situation_number t < 10 = situation-low t in
    raise-none v w kinds.Moved (kinds.Failure t) (other-kind (situation_number t) 10 low).1 ∙ and-none (is_same_command w v)
how-kind cycle v w hows.Moved kinds.Moved = raise-same v w kinds.Moved kinds.Moved refl ∙ and-all (is_same_command w v)
how-kind cycle v w hows.Moved kinds.Commanded = raise-none v w kinds.Moved kinds.Commanded refl ∙ and-none (is_same_command w v)
how-kind cycle v w hows.TakenFree (kinds.Failure t) = and-none (is_same_command w v)
how-kind cycle v w hows.TakenFree kinds.Moved = and-none (is_same_command w v)
how-kind cycle v w hows.TakenFree kinds.Commanded = and-none (is_same_command w v)

mark-kind : (w : Who) (l : Kind) (m : MarkLine) → mark_raise (key_of w l) m ≡ flag (is_kind w l m)
mark-kind w l (marks.Poisoned cycle v how) = how-kind cycle v w how l
mark-kind w (kinds.Failure t) (marks.Unpoisoned cycle v) =
    let low : situation_number t < 10 = situation-low t in
    raise-none v w kinds.Commanded (kinds.Failure t) (other-kind (situation_number t) 11 (omega (arith, low))).1 ∙ and-none (is_same_command w v)
mark-kind w kinds.Moved (marks.Unpoisoned cycle v) = raise-none v w kinds.Commanded kinds.Moved refl ∙ and-none (is_same_command w v)
mark-kind w kinds.Commanded (marks.Unpoisoned cycle v) = raise-same v w kinds.Commanded kinds.Commanded refl ∙ and-all (is_same_command w v)

what-kind : (v w : Who) (what : What) (l : Kind) → what_raise (key_of w l) v what ≡ flag (is_same_command w v && is_entry l what)
what-kind v w (entries.Fail s required seen signals) (kinds.Failure t) = raise-is v w (kinds.Failure s) (kinds.Failure t)
what-kind v w (entries.Fail s required seen signals) kinds.Moved = raise-none v w (kinds.Failure s) kinds.Moved (other-kind (situation_number s) 10 (situation-low s)).0 ∙ and-none (is_same_command w v)
what-kind v w (entries.Fail s required seen signals) kinds.Commanded =
    let low : situation_number s < 10 = situation-low s in
    raise-none v w (kinds.Failure s) kinds.Commanded (other-kind (situation_number s) 11 (omega (arith, low))).0 ∙ and-none (is_same_command w v)
what-kind v w entries.Soft (kinds.Failure t) = raise-none v w kinds.Moved (kinds.Failure t) (other-kind (situation_number t) 10 (situation-low t)).1 ∙ and-none (is_same_command w v)
what-kind v w entries.Soft kinds.Moved = raise-same v w kinds.Moved kinds.Moved refl ∙ and-all (is_same_command w v)
what-kind v w entries.Soft kinds.Commanded = raise-none v w kinds.Moved kinds.Commanded refl ∙ and-none (is_same_command w v)
what-kind v w _ (kinds.Failure t) = and-none (is_same_command w v)
what-kind v w _ kinds.Moved = and-none (is_same_command w v)
what-kind v w _ kinds.Commanded = and-none (is_same_command w v)

-- sums of what is the same are the same
pub same-sum : {X : Type 0} (f g : X → ℕ) (xs : List X) → ((x : X) → f x ≡ g x) → sum_by f xs ≡ sum_by g xs
same-sum f g [] same = refl
same-sum f g (x ∷ xs) same =
    let a : sum_by f (x ∷ xs) ≡ f x + sum_by f xs = sum_by-cons f x xs in
    let b : sum_by g (x ∷ xs) ≡ g x + sum_by g xs = sum_by-cons g x xs in
    let one : f x ≡ g x = same x in
    let rest : sum_by f xs ≡ sum_by g xs = same-sum f g xs same in
    omega (arith, a, b, one, rest)

pub marks-kind : (w : Who) (l : Kind) (list : List MarkLine) → marks_raise (key_of w l) list ≡ count_by (is_kind w l) list
marks-kind w l list = same-sum (mark_raise (key_of w l)) (λ (m : MarkLine). flag (is_kind w l m)) list (mark-kind w l)

pub frames-kind : (w : Who) (l : Kind) (frames : List FrameLine) → frames_raise (key_of w l) frames ≡ in_frames w l frames
frames-kind w l frames = same-sum (λ (x : FrameLine). marks_raise (key_of w l) x.marks) (λ (x : FrameLine). count_by (is_kind w l) x.marks) frames (λ x. marks-kind w l x.marks)

page-kind : (w : Who) (l : Kind) (list : List Entry) → page_raise (key_of w l) list ≡ in_page w l list
page-kind w l list = same-sum (entry_raise (key_of w l)) (λ (e : Entry). flag (is_same_command w e.who && is_entry l e.what)) list (λ e. what-kind e.who w e.what l)

pub pages-kind : (w : Who) (l : Kind) (pages : List (List Entry)) → pages_raise (key_of w l) pages ≡ in_pages w l pages
pages-kind w l pages = same-sum (page_raise (key_of w l)) (in_page w l) pages (page-kind w l)
