-- A processor's lines, gone through, show the first line of a file of which an answer told a wrong number.
use Rattle.std.proofs.Common.{◌≡◌, ◌⊎◌, inl, inr, ℕ, zero, suc, ◌+◌, ◌-◌, ◌^◌, ◌<◌, ◌≤◌, ◌==◌, ◌&&◌, not, Bool, true, false, cond, nat_le, nat_lt, List, [], ◌∷◌, Option, Some, None, drop, get_or, length, replicate, set, slice_get, take, refl, sym, ap, ◌∙◌, subst, true≢false, add-one, arith}
use Rattle.std.specs.List.{zip}
use Rattle.std.proofs.lemmas.Bool.{cases_eq, cases_lt, eq-eqb, eqb-true, ne_eqb, le-leb, lt-leb, lt-ltb, ltb-true}
use Rattle.std.proofs.lemmas.List.{at_drop_more, get_or-replicate, get_or-set_other, get_or-set_same, length-replicate, length-set}
use Rattle.std.proofs.lemmas.Option.{none-some, same_Some}
use Rattle.hwp_check_rules.specs.hwp_geom.declared.Cpu.{Cpu}
use Rattle.hwp_check_rules.specs.hwp_geom.declared.FileNo.{FileNo}
use Rattle.hwp_check_rules.specs.hwp_geom.declared.Who.{Who}
use Rattle.hwp_check_rules.specs.hwp_script_words.declared.Command.{Command}
use Rattle.hwp_check_rules.specs.hwp_script_words.declared.Command.TheVariants as commands
use Rattle.hwp_check_rules.specs.hwp_script_words.declared.Script.{Script}
use Rattle.hwp_check_rules.specs.hwp_report_text.declared.Answer.{Answer}
use Rattle.hwp_check_rules.specs.hwp_report_text.declared.Answer.TheVariants as answers
use Rattle.hwp_check_rules.specs.hwp_report_text.declared.CpuLine.{CpuLine}
use Rattle.hwp_check_rules.specs.hwp_report_text.declared.CpuLine.TheVariants as lines
use Rattle.hwp_check_rules.specs.hwp_report_text.declared.Report.{Report}
use Rattle.hwp_check_rules.specs.hwp_law.Causes.{AreCaused}
use Rattle.hwp_check_rules.specs.hwp_law.Lines.{answered, seq_of}
use Rattle.hwp_check_rules.specs.hwp_law.Losses.{is_lost, is_lost_before, losses_such, number_by, numbers_after, tells_number}
use Rattle.hwp_check_rules.specs.Firsts.{soonest}
use Rattle.hwp_check_rules.proofs.of_hwp_law.AnswersInOrder.{answers_in, in-order}
use Rattle.hwp_check_state.specs.declared.told.Told.{Told}
use Rattle.hwp_check_state.specs.Handles.{IsFirst, IsToldWrong}
use Rattle.hwp_check_state.specs.Told.{capped, fault_by, is_good, number_with, raised_by, telling, telling_all, told_by, told_in, told_to, walk}
use Rattle.hwp_check_state.proofs.FirstFound.{first-both, first-same}

-- a line more
pub walk-next : (script : Script) (report : Report) (cpu : Cpu) (list : List Command) (rows : List CpuLine) (i : ℕ) (d row : CpuLine) (numbers new : List ℕ) (found next fault : Option ℕ) (told : Option Told) (seq : ℕ) → i < length rows → row ≡ get_or rows i d → told ≡ told_in list row → seq ≡ seq_of row
    → new ≡ raised_by numbers told → fault ≡ fault_by script report (record { cpu = cpu; seq = seq }) numbers told → next ≡ soonest found fault
    → walk script report cpu list new next (drop (i + 1) rows) ≡ walk script report cpu list numbers found (drop i rows)
walk-next script report cpu list rows i d row numbers new found next fault told seq within is tells numbered raises faults finds =
    (λ j. walk script report cpu list (raises j) (finds j) (drop (i + 1) rows))
    ∙ (λ j. walk script report cpu list (raised_by numbers (tells j)) (soonest found (faults j)) (drop (i + 1) rows))
    ∙ (λ j. walk script report cpu list (raised_by numbers (told_in list row)) (soonest found (fault_by script report (record { cpu = cpu; seq = numbered j }) numbers (tells j))) (drop (i + 1) rows))
    ∙ ap (λ (r : CpuLine). walk script report cpu list numbers found (r ∷ drop (i + 1) rows)) is
    ∙ sym (at_drop_more (walk script report cpu list numbers found) rows i d within)

-- what an answer told is what the law says of it
zero-more : (b : Bool) (m : ℕ) → m ≡ cond b (m + 0) m
zero-more true m = omega arith
zero-more false m = omega arith

some-more : (b : Bool) (m more : ℕ) → m + cond b more 0 ≡ cond b (m + more) m
some-more true m more = refl
some-more false m more = omega arith

tells-none : (c : Command) (a : Answer) → told_by c a ≡ None → (file : FileNo) (m : ℕ) → (tells_number file c a ≡ false) × (number_by file m c a ≡ m)
tells-none (commands.Fsync other) answers.Done is file m = absurd (none-some (telling other 0) (sym is))
tells-none (commands.Fsync other) (answers.Eio more) is file m = absurd (none-some (telling other more) (sym is))
tells-none (commands.Open other) (answers.Opened word) is file m = absurd (none-some (telling_all other word) (sym is))
tells-none _ _ is file m = (refl, refl)

tells-some : (c : Command) (a : Answer) (t : Told) → told_by c a ≡ Some t → (file : FileNo) (m : ℕ) → (tells_number file c a ≡ (t.file.0 == file.0)) × (number_by file m c a ≡ cond (t.file.0 == file.0) (number_with m t) m)
tells-some (commands.Fsync other) answers.Done t is file m =
    subst (λ (x : Told). ((other.0 == file.0) ≡ (x.file.0 == file.0)) × (m ≡ cond (x.file.0 == file.0) (number_with m x) m)) (same_Some (telling other 0) t is) (refl, zero-more (other.0 == file.0) m)
tells-some (commands.Fsync other) (answers.Eio more) t is file m =
    subst (λ (x : Told). ((other.0 == file.0) ≡ (x.file.0 == file.0)) × (m + cond (other.0 == file.0) more 0 ≡ cond (x.file.0 == file.0) (number_with m x) m)) (same_Some (telling other more) t is) (refl, some-more (other.0 == file.0) m more)
tells-some (commands.Open other) (answers.Opened word) t is file m =
    subst (λ (x : Told). ((other.0 == file.0) ≡ (x.file.0 == file.0)) × (cond (other.0 == file.0) word m ≡ cond (x.file.0 == file.0) (number_with m x) m)) (same_Some (telling_all other word) t is) (refl, refl)
tells-some _ _ t is file m = absurd (none-some t is)

-- the number after one answer more
after-suc : (file : FileNo) (m : ℕ) (list : List (Command × Answer)) (n : ℕ) (p : Command × Answer) → slice_get {X = Command × Answer} list n ≡ Some p
    → numbers_after file m (take (suc n) list) ≡ number_by file (numbers_after file m (take n list)) p.0 p.1
after-suc file m [] n p there = absurd (none-some p there)
after-suc file m (q ∷ list) zero p there = ap (λ (x : Command × Answer). number_by file m x.0 x.1) (same_Some q p there)
after-suc file m (q ∷ list) (suc n) p there = after-suc file (number_by file m q.0 q.1) list n p there

pub after-more : (file : FileNo) (list : List (Command × Answer)) (n : ℕ) (p : Command × Answer) → slice_get {X = Command × Answer} list n ≡ Some p
    → numbers_after file 0 (take (n + 1) list) ≡ number_by file (numbers_after file 0 (take n list)) p.0 p.1
after-more file list n p there = ap (λ (k : ℕ). numbers_after file 0 (take k list)) (add-one n) ∙ after-suc file 0 list n p there

and-left : (a b : Bool) → (a && b) ≡ true → a ≡ true
and-left true b is = refl
and-left false b is = absurd (true≢false (sym is))

and-right : (a b : Bool) → (a && b) ≡ true → b ≡ true
and-right true b is = is
and-right false b is = absurd (true≢false (sym is))

not-true : (b : Bool) → not b ≡ true → b ≡ false
not-true true is = absurd (true≢false (sym is))
not-true false is = refl

from-none : (n : ℕ) → 0 + n ≡ n
from-none n = omega arith

same-file : (a b : FileNo) → a.0 ≡ b.0 → a ≡ b
same-file a b same = λ i. record { 0 = same i }

capped-more : (m : ℕ) (t : Told) → capped (number_with (capped m) t) ≡ capped (number_with m t)
capped-more m t = by t.all t.losses
  where
    by : (all : Bool) (losses : ℕ) → capped (cond all losses (capped m + losses)) ≡ capped (cond all losses (m + losses))
    by true losses = refl
    by false losses = omega arith

module _ (script : Script) (report : Report) (room : (file : FileNo) → losses_such is_lost script report file < 2 ^ 64 - 1) (cpu : Cpu) where
  abbrev who : ℕ → Who
  who n = record { cpu = cpu; seq = n }

  -- a number that was cut off is wrong where the whole one is
  good-same : (file : FileNo) (w : Who) (m n : ℕ) → is_good script report file w (capped m) (capped n) ≡ is_good script report file w m n
  good-same file w m n = elim (cases_lt n (2 ^ 64 - 1)) [
    | inl low ↦
        let is : capped n ≡ n = omega (arith, low) in
        ap (is_good script report file w (capped m)) is
        ∙ ap (λ (b : Bool). b && nat_le n (losses_such is_lost script report file) && nat_le (losses_such (is_lost_before w) script report file) n) (old-same m n low)
    | inr most ↦
        let is : capped n ≡ 2 ^ 64 - 1 = omega (arith, most) in
        let few : losses_such is_lost script report file < 2 ^ 64 - 1 = room file in
        too-many (capped m) (capped n) (omega (arith, is, few)) ∙ sym (too-many m n (omega (arith, most, few)))
  ]
    where
      old-same : (m n : ℕ) → n < 2 ^ 64 - 1 → nat_le (capped m) n ≡ nat_le m n
      old-same m n low = elim (cases_lt n m) [
        | inl more ↦ lt-leb (capped m) n (omega (arith, low, more)) ∙ sym (lt-leb m n more)
        | inr most ↦ le-leb (capped m) n (omega (arith, most)) ∙ sym (le-leb m n most)
      ]

      or-none : (a b : Bool) → (a && false && b) ≡ false
      or-none true b = refl
      or-none false b = refl

      too-many : (m n : ℕ) → losses_such is_lost script report file < n → is_good script report file w m n ≡ false
      too-many m n more =
          ap (λ (b : Bool). nat_le m n && b && nat_le (losses_such (is_lost_before w) script report file) n) (lt-leb n (losses_such is_lost script report file) more)
          ∙ or-none (nat_le m n) (nat_le (losses_such (is_lost_before w) script report file) n)

  module _ (list : List Command) (rows0 : List CpuLine) where
    abbrev pub full : List (Command × Answer)
    full = answered list rows0

    abbrev At : ℕ → Command × Answer → Type 0
    At n p = slice_get {X = Command × Answer} full n ≡ Some p

    abbrev IsWrongIn : ℕ → ℕ → Type 0
    IsWrongIn n = IsToldWrong script report cpu full n

    -- the numbers are those after the first n answers
    record AreNumbers (numbers : List ℕ) (n : ℕ) : Type 0 where
      many : length numbers ≡ script.layout.files
      each : (file : FileNo) → file.0 < script.layout.files → get_or numbers file.0 0 ≡ capped (numbers_after file 0 (take n full))

    numbers-next : (numbers : List ℕ) (n : ℕ) (p : Command × Answer) → At n p → AreNumbers numbers n → (o : Option Told) → told_by p.0 p.1 ≡ o → AreNumbers (raised_by numbers o) (n + 1)
    numbers-next numbers n p there are None is = record {
      many = are.many;
      each = λ file within. are.each file within ∙ ap capped (sym (after-more file full n p there ∙ (tells-none p.0 p.1 is file (numbers_after file 0 (take n full))).1));
    }
    numbers-next numbers n p there are (Some t) is = record {
      many = length-set numbers t.file.0 (capped (number_with (get_or numbers t.file.0 0) t)) ∙ are.many;
      each = λ file within. each file within (cases_eq file.0 t.file.0);
    }
      where
        more : (file : FileNo) → numbers_after file 0 (take (n + 1) full) ≡ cond (t.file.0 == file.0) (number_with (numbers_after file 0 (take n full)) t) (numbers_after file 0 (take n full))
        more file = after-more file full n p there ∙ (tells-some p.0 p.1 t is file (numbers_after file 0 (take n full))).1

        each : (file : FileNo) → file.0 < script.layout.files → (file.0 ≡ t.file.0) ⊎ (file.0 ≡ t.file.0 → ⊥)
            → get_or (set numbers t.file.0 (capped (number_with (get_or numbers t.file.0 0) t))) file.0 0 ≡ capped (numbers_after file 0 (take (n + 1) full))
        each file within (inl here) =
            let own : get_or numbers t.file.0 0 ≡ capped (numbers_after file 0 (take n full)) = ap (λ (k : ℕ). get_or numbers k 0) (sym here) ∙ are.each file within in
            let room : t.file.0 < length numbers = omega (arith, within, here, are.many) in
            let counted : numbers_after file 0 (take (n + 1) full) ≡ number_with (numbers_after file 0 (take n full)) t =
            more file ∙ ap (λ (b : Bool). cond b (number_with (numbers_after file 0 (take n full)) t) (numbers_after file 0 (take n full))) (eq-eqb t.file.0 file.0 (sym here)) in
            ap (λ (k : ℕ). get_or (set numbers t.file.0 (capped (number_with (get_or numbers t.file.0 0) t))) k 0) here
            ∙ get_or-set_same numbers t.file.0 (capped (number_with (get_or numbers t.file.0 0) t)) 0 room
            ∙ ap (λ (k : ℕ). capped (number_with k t)) own ∙ capped-more (numbers_after file 0 (take n full)) t ∙ ap capped (sym counted)
        each file within (inr other) =
            let same : numbers_after file 0 (take (n + 1) full) ≡ numbers_after file 0 (take n full) =
            more file ∙ ap (λ (b : Bool). cond b (number_with (numbers_after file 0 (take n full)) t) (numbers_after file 0 (take n full))) (ne_eqb t.file.0 file.0 (λ e. other (sym e))) in
            get_or-set_other numbers t.file.0 file.0 (capped (number_with (get_or numbers t.file.0 0) t)) 0 other ∙ are.each file within ∙ ap capped (sym same)

    -- one answer more can have told a wrong number
    weaken : (n line : ℕ) → IsWrongIn n line → IsWrongIn (n + 1) line
    weaken n line w = record {
      file = w.file;
      place = w.place;
      pair = w.pair;
      within = w.within;
      before = let less : w.place < n = w.before in omega (arith, less);
      there = w.there;
      tells = w.tells;
      wrong = w.wrong;
      line_is = w.line_is;
    }

    earlier : (n line : ℕ) (w : IsWrongIn (n + 1) line) → w.place < n → IsWrongIn n line
    earlier n line w less = record {
      file = w.file;
      place = w.place;
      pair = w.pair;
      within = w.within;
      before = less;
      there = w.there;
      tells = w.tells;
      wrong = w.wrong;
      line_is = w.line_is;
    }

    -- what the last one told
    record IsLast (n line : ℕ) (p : Command × Answer) : Type 0 where
      file : FileNo
      within : file.0 < script.layout.files
      tells : tells_number file p.0 p.1 ≡ true
      wrong : is_good script report file (who n) (numbers_after file 0 (take n full)) (numbers_after file 0 (take (n + 1) full)) ≡ false
      line_is : line ≡ 4 + file.0

    last : (n line : ℕ) (p : Command × Answer) → At n p → (w : IsWrongIn (n + 1) line) → n ≤ w.place → IsLast n line p
    last n line p there w most =
        let less : w.place < n + 1 = w.before in
        let here : w.place ≡ n = omega (arith, less, most) in
        let same : w.pair ≡ p = same_Some w.pair p (sym w.there ∙ ap (λ (k : ℕ). slice_get {X = Command × Answer} full k) here ∙ there) in
        record {
          file = w.file;
          within = w.within;
          tells = ap (λ (q : Command × Answer). tells_number w.file q.0 q.1) (sym same) ∙ w.tells;
          wrong = ap (λ (k : ℕ). is_good script report w.file (who k) (numbers_after w.file 0 (take k full)) (numbers_after w.file 0 (take (k + 1) full))) (sym here) ∙ w.wrong;
          line_is = w.line_is;
        }

    wrong-next : (numbers : List ℕ) (n : ℕ) (p : Command × Answer) (found : Option ℕ) → At n p → AreNumbers numbers n → IsFirst (IsWrongIn n) found
        → (o : Option Told) → told_by p.0 p.1 ≡ o → IsFirst (IsWrongIn (n + 1)) (soonest found (fault_by script report (who n) numbers o))
    wrong-next numbers n p found there are first None is = first-same (IsWrongIn n) (IsWrongIn (n + 1)) (weaken n) back found first
      where
        back : (line : ℕ) → IsWrongIn (n + 1) line → IsWrongIn n line
        back line w = elim (cases_lt w.place n) [
          | inl less ↦ earlier n line w less
          | inr most ↦ let l = last n line p there w most in absurd (true≢false (sym l.tells ∙ (tells-none p.0 p.1 is l.file 0).0))
        ]
    wrong-next numbers n p found there are first (Some t) is = first-both (IsWrongIn n) Now (IsWrongIn (n + 1)) (weaken n) now which found (cond counts (Some (4 + t.file.0)) None) first (found-now counts refl)
      where
        old : ℕ
        old = get_or numbers t.file.0 0

        number : ℕ
        number = capped (number_with (get_or numbers t.file.0 0) t)

        counts : Bool
        counts = nat_lt t.file.0 (length numbers) && not (is_good script report t.file (who n) old number)

        Now : ℕ → Type 0
        Now line = (counts ≡ true) × (line ≡ 4 + t.file.0)

        found-now : (b : Bool) → counts ≡ b → IsFirst Now (cond b (Some (4 + t.file.0)) None)
        found-now true so = record { at = (so, refl); first = λ l q. let is : l ≡ 4 + t.file.0 = q.1 in omega (arith, is) }
        found-now false so = λ l q. true≢false (sym q.0 ∙ so)

        -- the number that was told is the one that was cut off
        good : t.file.0 < script.layout.files → is_good script report t.file (who n) old number ≡ is_good script report t.file (who n) (numbers_after t.file 0 (take n full)) (numbers_after t.file 0 (take (n + 1) full))
        good within =
            let own : get_or numbers t.file.0 0 ≡ capped (numbers_after t.file 0 (take n full)) = are.each t.file within in
            let counted : numbers_after t.file 0 (take (n + 1) full) ≡ number_with (numbers_after t.file 0 (take n full)) t =
            after-more t.file full n p there ∙ (tells-some p.0 p.1 t is t.file (numbers_after t.file 0 (take n full))).1
            ∙ ap (λ (b : Bool). cond b (number_with (numbers_after t.file 0 (take n full)) t) (numbers_after t.file 0 (take n full))) (eq-eqb t.file.0 t.file.0 refl) in
            let new : number ≡ capped (numbers_after t.file 0 (take (n + 1) full)) =
            ap (λ (k : ℕ). capped (number_with k t)) own ∙ capped-more (numbers_after t.file 0 (take n full)) t ∙ ap capped (sym counted) in
            (λ i. is_good script report t.file (who n) (own i) (new i)) ∙ good-same t.file (who n) (numbers_after t.file 0 (take n full)) (numbers_after t.file 0 (take (n + 1) full))

        now : (line : ℕ) → Now line → IsWrongIn (n + 1) line
        now line q =
            let inside : t.file.0 < length numbers = ltb-true t.file.0 (length numbers) (and-left (nat_lt t.file.0 (length numbers)) (not (is_good script report t.file (who n) old number)) q.0) in
            let within : t.file.0 < script.layout.files = omega (arith, inside, are.many) in
            record {
              file = t.file;
              place = n;
              pair = p;
              within = within;
              before = omega arith;
              there = there;
              tells = (tells-some p.0 p.1 t is t.file 0).0 ∙ eq-eqb t.file.0 t.file.0 refl;
              wrong = sym (good within) ∙ not-true (is_good script report t.file (who n) old number) (and-right (nat_lt t.file.0 (length numbers)) (not (is_good script report t.file (who n) old number)) q.0);
              line_is = q.1;
            }

        at-last : (line : ℕ) → IsLast n line p → Now line
        at-last line l =
            let here : t.file ≡ l.file = same-file t.file l.file (eqb-true t.file.0 l.file.0 (sym (tells-some p.0 p.1 t is l.file 0).0 ∙ l.tells)) in
            let within : t.file.0 < script.layout.files = subst (λ (f : FileNo). f.0 < script.layout.files) (sym here) l.within in
            let inside : t.file.0 < length numbers = omega (arith, within, are.many) in
            let wrong : is_good script report t.file (who n) old number ≡ false =
            good within ∙ ap (λ (f : FileNo). is_good script report f (who n) (numbers_after f 0 (take n full)) (numbers_after f 0 (take (n + 1) full))) here ∙ l.wrong in (
              ap (λ (b : Bool). b && not (is_good script report t.file (who n) old number)) (lt-ltb t.file.0 (length numbers) inside) ∙ ap not wrong,
              l.line_is ∙ ap (λ (f : FileNo). 4 + f.0) (sym here),
            )

        which : (line : ℕ) → IsWrongIn (n + 1) line → IsWrongIn n line ⊎ Now line
        which line w = elim (cases_lt w.place n) [
          | inl less ↦ inl (earlier n line w less)
          | inr most ↦ inr (at-last line (last n line p there w most))
        ]

    -- commands with the answers of lines in order
    abbrev in_turn : List Command → List CpuLine → List (Command × Answer)
    in_turn cs rows = zip cs (answers_in rows)

    -- the lines from one on, where n answers stand before them
    walk-first : (n : ℕ) (cs : List Command) (rows : List CpuLine) (numbers : List ℕ) (found : Option ℕ) → AreCaused script report cpu n cs rows
        → ((k : ℕ) → slice_get list (n + k) ≡ slice_get cs k) → ((k : ℕ) → slice_get {X = Command × Answer} full (n + k) ≡ slice_get {X = Command × Answer} (in_turn cs rows) k)
        → n + length (in_turn cs rows) ≡ length full → AreNumbers numbers n → IsFirst (IsWrongIn n) found → IsFirst (IsWrongIn (length full)) (walk script report cpu list numbers found rows)
    walk-first n [] [] numbers found caused left pairs end are first = let same : n ≡ length full = omega (arith, end) in subst (λ (m : ℕ). IsFirst (IsWrongIn m) found) same first
    walk-first n [] (r ∷ rows) numbers found caused left pairs end are first = absurd caused
    walk-first n (c ∷ cs) [] numbers found caused left pairs end are first = absurd caused
    walk-first n (c ∷ cs) (lines.Event event ∷ rows) numbers found caused left pairs end are first = walk-first n (c ∷ cs) rows numbers found caused.1 left pairs end are first
    walk-first n (c ∷ cs) (lines.Offlined offlined ∷ rows) numbers found caused left pairs end are first = walk-first n (c ∷ cs) rows numbers found caused.2 left pairs end are first
    walk-first n (c ∷ cs) (lines.Guest guest ∷ rows) numbers found caused left pairs end are first = walk-first n (c ∷ cs) rows numbers found caused.2 left pairs end are first
    walk-first n (c ∷ cs) (lines.Answer s a ∷ rows) numbers found caused left pairs end are first =
        subst (IsFirst (IsWrongIn (length full))) (sym here)
        (walk-first (n + 1) cs rows (raised_by numbers (told_by c a)) (soonest found (fault_by script report (who n) numbers (told_by c a))) caused.3
        (λ k. ap (slice_get list) (later k) ∙ left (suc k)) (λ k. ap (λ (i : ℕ). slice_get {X = Command × Answer} full i) (later k) ∙ pairs (suc k))
        (let all : n + suc (length (in_turn cs rows)) ≡ length full = end in omega (arith, all)) (numbers-next numbers n (c, a) there are (told_by c a) refl) (wrong-next numbers n (c, a) found there are first (told_by c a) refl))
      where
        later : (k : ℕ) → n + 1 + k ≡ n + suc k
        later k = omega arith

        none : n + 0 ≡ n
        none = omega arith

        there : At n (c, a)
        there = ap (λ (i : ℕ). slice_get {X = Command × Answer} full i) (sym none) ∙ pairs 0

        of_command : slice_get list s ≡ Some c
        of_command = ap (slice_get list) (caused.0 ∙ sym none) ∙ left 0

        here : walk script report cpu list (raised_by numbers (told_to (slice_get list s) a)) (soonest found (fault_by script report (who s) numbers (told_to (slice_get list s) a))) rows
            ≡ walk script report cpu list (raised_by numbers (told_by c a)) (soonest found (fault_by script report (who n) numbers (told_by c a))) rows
        here =
            ap (λ (o : Option Command). walk script report cpu list (raised_by numbers (told_to o a)) (soonest found (fault_by script report (who s) numbers (told_to o a))) rows) of_command
            ∙ ap (λ (m : ℕ). walk script report cpu list (raised_by numbers (told_by c a)) (soonest found (fault_by script report (who m) numbers (told_by c a))) rows) caused.0

  -- all lines of the processor
  pub told-first : (list : List Command) (rows : List CpuLine) → AreCaused script report cpu 0 list rows
      → IsFirst (IsToldWrong script report cpu (answered list rows) (length (answered list rows))) (walk script report cpu list (replicate script.layout.files 0) None rows)
  told-first list rows caused =
      walk-first list rows 0 list rows (replicate script.layout.files 0) None caused (λ k. ap (slice_get list) (from-none k)) (λ k. ap (λ (i : ℕ). slice_get {X = Command × Answer} (answered list rows) i) (from-none k) ∙ ap (λ (l : List (Command × Answer)). slice_get {X = Command × Answer} l k) pairs)
      (from-none (length (zip list (answers_in rows))) ∙ ap (λ (l : List (Command × Answer)). length l) (sym pairs))
      (record { many = length-replicate script.layout.files 0; each = λ file within. get_or-replicate script.layout.files file.0 0 0 within }) (λ line w. let less : w.place < 0 = w.before in absurd (omega (arith, less)))
    where
      pairs : answered list rows ≡ zip list (answers_in rows)
      pairs = ap (zip list) (in-order script report cpu list rows caused)
