-- The notes of a command's event lines, gathered check by check.
use Rattle.std.proofs.Common.{◌≡◌, ℕ, zero, suc, ◌+◌, ◌-◌, ◌<◌, ◌≤◌, Bool, true, false, true≢false, not, ◌||◌, nat_lt, List, [], ◌∷◌, ◌++◌, Option, Some, None, drop, get_or, length, map, slice_get, take, if◌then◌else◌, refl, sym, ap, ◌∙◌, subst, arith}
use Rattle.std.specs.List.{filter_map, list_any}
use Rattle.std.specs.Option.{option_to_list}
use Rattle.std.proofs.lemmas.List.Elements.{filter_map-append}
use Rattle.std.proofs.lemmas.List.{append_assoc, append-nil, drop-drop, length-drop, take-append-drop, take_more}
use Rattle.hwp_check_rules.specs.hwp_geom.declared.Frame.{Frame}
use Rattle.hwp_check_rules.specs.hwp_geom.declared.Layout.{Layout}
use Rattle.hwp_check_rules.specs.hwp_report_text.declared.EventLine.{EventLine}
use Rattle.hwp_check_rules.specs.hwp_law.Notes.{AreApart, IsRising, ends_machine, noted_frame, notes, notes_of_check}
use Rattle.hwp_check_rules.proofs.of_hwp_law.NoteLaws.{notes-append, notes-rising}
use Rattle.hwp_check_rules.specs.hwp_check_event_line.Firsts.{shown_lines}
use Rattle.hwp_check_rules.specs.hwp_check_event_line.declared.Shown.{Shown}
use Rattle.hwp_check_frames.specs.Noting.{AreNoted, ends, is_apart, is_last_of_check}

-- what a line more notes
map-push : {X Y : Type 0} (f : X → Y) (xs : List X) (x : X) → map f (xs ++ x ∷ []) ≡ map f xs ++ f x ∷ []
map-push f [] x = refl
map-push f (y ∷ xs) x = ap (λ l. f y ∷ l) (map-push f xs x)

one-noted : (layout : Layout) (line : EventLine) → filter_map (noted_frame layout) (line ∷ []) ≡ option_to_list (noted_frame layout line)
one-noted layout line = by (noted_frame layout line) refl
  where
    by : (o : Option Frame) → noted_frame layout line ≡ o → filter_map (λ (l : EventLine). o) (line ∷ []) ≡ option_to_list o
    by None is = refl
    by (Some frame) is = refl

pub noted_more : (layout : Layout) (lines : List Shown) (i : ℕ) (d : Shown) → i < length lines
    → filter_map (noted_frame layout) (shown_lines (take (i + 1) lines)) ≡ filter_map (noted_frame layout) (shown_lines (take i lines)) ++ option_to_list (noted_frame layout (get_or lines i d).line)
noted_more layout lines i d within =
    ap (λ (l : List Shown). filter_map (noted_frame layout) (shown_lines l)) (take_more lines i d within)
    ∙ (ap (filter_map (noted_frame layout)) (map-push (λ (s : Shown). s.line) (take i lines) (get_or lines i d))
    ∙ (filter_map-append (noted_frame layout) (shown_lines (take i lines)) ((get_or lines i d).line ∷ [])
    ∙ ap (λ (l : List Frame). filter_map (noted_frame layout) (shown_lines (take i lines)) ++ l) (one-noted layout (get_or lines i d).line)))

pub noted_next : (layout : Layout) (lines : List Shown) (i : ℕ) (d : Shown) (old frames more : List Frame) (o : Option Frame) → i < length lines → frames ≡ old ++ filter_map (noted_frame layout) (shown_lines (take i lines))
    → o ≡ noted_frame layout (get_or lines i d).line → more ≡ frames ++ option_to_list o → more ≡ old ++ filter_map (noted_frame layout) (shown_lines (take (i + 1) lines))
noted_next layout lines i d old frames more o within so o_is more_is =
    more_is
    ∙ (ap (λ (l : List Frame). l ++ option_to_list o) so
    ∙ (append_assoc old (filter_map (noted_frame layout) (shown_lines (take i lines))) (option_to_list o)
    ∙ ap (λ (l : List Frame). old ++ l) (ap (λ (p : Option Frame). filter_map (noted_frame layout) (shown_lines (take i lines)) ++ option_to_list p) o_is ∙ sym (noted_more layout lines i d within))))

-- whether a check has an event that stopped the machine, or was a panic, and what it notes then
any-shown : (lines : List Shown) → list_any ends_machine (shown_lines lines) ≡ list_any ends lines
any-shown [] = refl
any-shown (shown ∷ rest) = ap (λ (b : Bool). ends_machine shown.line || b) (any-shown rest)

pub check_ended : (layout : Layout) (lines : List Shown) → list_any ends lines ≡ true → notes_of_check layout (shown_lines lines) ≡ []
check_ended layout lines has = ap (λ (b : Bool). if b then [] else filter_map (noted_frame layout) (shown_lines lines)) (any-shown lines ∙ has)

pub check_noted : (layout : Layout) (lines : List Shown) → list_any ends lines ≡ false → notes_of_check layout (shown_lines lines) ≡ filter_map (noted_frame layout) (shown_lines lines)
check_noted layout lines none = ap (λ (b : Bool). if b then [] else filter_map (noted_frame layout) (shown_lines lines)) (any-shown lines ∙ none)

-- some of the lines, shown
part-shown : (lines : List Shown) (n m : ℕ) → shown_lines (take n (drop m lines)) ≡ take n (drop m (shown_lines lines))
part-shown lines n zero = front lines n
  where
    front : (xs : List Shown) (k : ℕ) → shown_lines (take k xs) ≡ take k (shown_lines xs)
    front [] zero = refl
    front [] (suc k) = refl
    front (x ∷ xs) zero = refl
    front (x ∷ xs) (suc k) = ap (λ (l : List EventLine). x.line ∷ l) (front xs k)
part-shown [] zero (suc m) = refl
part-shown [] (suc n) (suc m) = refl
part-shown (x ∷ lines) n (suc m) = part-shown lines n m

not-false : (b : Bool) → not b ≡ false → b ≡ true
not-false true is = refl
not-false false is = absurd (true≢false is)

not-true : (b : Bool) → not b ≡ true → b ≡ false
not-true true is = absurd (true≢false (sym is))
not-true false is = refl

-- a line more in front
behind-first : (x y : EventLine) (rest : List EventLine) (n : ℕ) → is_last_of_check (x ∷ y ∷ rest) (suc n) ≡ is_last_of_check (y ∷ rest) n
behind-first x y rest n = ap (λ (k : ℕ). is_apart (slice_get (y ∷ rest) n) (slice_get (x ∷ y ∷ rest) k)) (let e : suc n + 1 ≡ suc (n + 1) = omega arith in e)

-- a further line of the same check
rising-more : (lines : List EventLine) (n : ℕ) → IsRising (take (suc n) lines) → is_last_of_check lines n ≡ false → IsRising (take (suc (suc n)) lines)
rising-more [] n rising same = record {}
rising-more (x ∷ []) n rising same = record {}
rising-more (x ∷ y ∷ rest) zero rising same = (not-false (nat_lt x.bank y.bank) same, record {})
rising-more (x ∷ y ∷ rest) (suc n) rising same = (rising.0, rising-more (y ∷ rest) n rising.1 (sym (behind-first x y rest n) ∙ same))

-- the lines up to the last of a check, and those behind it
apart-at : (lines : List EventLine) (n : ℕ) → is_last_of_check lines n ≡ true → AreApart (take (suc n) lines) (drop (suc n) lines)
apart-at [] n last = record {}
apart-at (x ∷ []) zero last = record {}
apart-at (x ∷ []) (suc n) last = record {}
apart-at (x ∷ y ∷ rest) zero last = not-true (nat_lt x.bank y.bank) last
apart-at (x ∷ y ∷ rest) (suc n) last = apart-at (y ∷ rest) n (sym (behind-first x y rest n) ∙ last)

rising-notes : (layout : Layout) (lines : List EventLine) (n : ℕ) → n < length lines → IsRising (take (suc n) lines) → notes layout (take (suc n) lines) ≡ notes_of_check layout (take (suc n) lines)
rising-notes layout [] n within rising = absurd (omega (arith, within))
rising-notes layout (x ∷ rest) n within rising = notes-rising layout x (take n rest) rising

check-notes : (layout : Layout) (lines : List EventLine) (n : ℕ) → n < length lines → IsRising (take (suc n) lines) → is_last_of_check lines n ≡ true
    → notes layout lines ≡ notes_of_check layout (take (suc n) lines) ++ notes layout (drop (suc n) lines)
check-notes layout lines n within rising last =
    ap (notes layout) (sym (take-append-drop (suc n) lines))
    ∙ (notes-append layout (take (suc n) lines) (drop (suc n) lines) (apart-at lines n last)
    ∙ ap (λ (l : List Frame). l ++ notes layout (drop (suc n) lines)) (rising-notes layout lines n within rising))

item-of-drop : (lines : List EventLine) (n i : ℕ) → slice_get (drop n lines) i ≡ slice_get lines (n + i)
item-of-drop lines zero i = ap (slice_get lines) (let e : i ≡ 0 + i = omega arith in e)
item-of-drop [] (suc n) i = refl
item-of-drop (x ∷ rest) (suc n) i = item-of-drop rest n i ∙ ap (slice_get (x ∷ rest)) (let e : suc (n + i) ≡ suc n + i = omega arith in e)

-- whether a line is the last of its check, seen from a line before it
last-from : (lines : List EventLine) (start number : ℕ) → start ≤ number → is_last_of_check (drop start lines) (number - start) ≡ is_last_of_check lines number
last-from lines start number low =
    ap (λ (o : Option EventLine). is_apart o (slice_get (drop start lines) (number - start + 1))) (item-of-drop lines start (number - start) ∙ ap (slice_get lines) (let e : start + (number - start) ≡ number = omega (arith, low) in e))
    ∙ ap (is_apart (slice_get lines number)) (item-of-drop lines start (number - start + 1) ∙ ap (slice_get lines) (let e : start + (number - start + 1) ≡ number + 1 = omega (arith, low) in e))

last-of-all : (lines : List EventLine) (number : ℕ) → number + 1 ≡ length lines → is_last_of_check lines number ≡ true
last-of-all [] number is = refl
last-of-all (x ∷ []) zero is = refl
last-of-all (x ∷ []) (suc number) is = absurd (let e : suc number + 1 ≡ 1 = is in omega (arith, e))
last-of-all (x ∷ y ∷ rest) zero is = absurd (let e : 0 + 1 ≡ suc (suc (length rest)) = is in omega (arith, e))
last-of-all (x ∷ y ∷ rest) (suc number) is = behind-first x y rest number ∙ last-of-all (y ∷ rest) number (let e : suc number + 1 ≡ suc (suc (length rest)) = is in let f : number + 1 ≡ suc (length rest) = omega (arith, e) in f)

first-rising : (lines : List EventLine) → IsRising (take 1 lines)
first-rising [] = record {}
first-rising (x ∷ rest) = record {}

module _ (layout : Layout) (lines : List EventLine) where
  pub begins : AreNoted layout lines 0 0 []
  begins = record { within = omega arith; so_far = refl; rising = first-rising lines; whole = λ is. is }

  pub goes-on : (start number : ℕ) (frames : List Frame) → is_last_of_check lines number ≡ false → AreNoted layout lines start number frames → AreNoted layout lines start (number + 1) frames
  goes-on start number frames same noted = record {
    within = let w : start ≤ number = noted.within in omega (arith, w);
    so_far = noted.so_far;
    rising =
        (let w : start ≤ number = noted.within in
        let one : number + 1 - start ≡ suc (number - start) = omega (arith, w) in
        let two : suc (suc (number - start)) ≡ number + 1 + 1 - start = omega (arith, w) in
        subst (λ (n : ℕ). IsRising (take n (drop start lines))) two
        (rising-more (drop start lines) (number - start) (subst (λ (n : ℕ). IsRising (take n (drop start lines))) one noted.rising) (last-from lines start number w ∙ same)));
    whole = λ is. absurd (true≢false (sym (last-of-all lines number is) ∙ same));
  }

  pub closes : (start number : ℕ) (frames : List Frame) → number < length lines → is_last_of_check lines number ≡ true → AreNoted layout lines start number frames
      → AreNoted layout lines (number + 1) (number + 1) (frames ++ notes_of_check layout (take (number + 1 - start) (drop start lines)))
  closes start number frames within last noted = record {
    within = omega arith;
    so_far =
        (let w : start ≤ number = noted.within in
        let one : number + 1 - start ≡ suc (number - start) = omega (arith, w) in
        let inside : number - start < length (drop start lines) = (let l : length (drop start lines) ≡ length lines - start = length-drop start lines in omega (arith, l, within, w)) in
        let behind : drop (suc (number - start)) (drop start lines) ≡ drop (number + 1) lines = drop-drop (suc (number - start)) start lines ∙ ap (λ (n : ℕ). drop n lines) (let e : start + suc (number - start) ≡ number + 1 = omega (arith, w) in e) in
        append_assoc frames (notes_of_check layout (take (number + 1 - start) (drop start lines))) (notes layout (drop (number + 1) lines))
        ∙ (ap (λ (l : List Frame). frames ++ l)
        (ap (λ (n : ℕ). notes_of_check layout (take n (drop start lines)) ++ notes layout (drop (number + 1) lines)) one
        ∙ (ap (λ (l : List EventLine). notes_of_check layout (take (suc (number - start)) (drop start lines)) ++ notes layout l) (sym behind)
        ∙ sym (check-notes layout (drop start lines) (number - start) inside (subst (λ (n : ℕ). IsRising (take n (drop start lines))) one noted.rising) (last-from lines start number w ∙ last))))
        ∙ noted.so_far));
    rising = subst (λ (n : ℕ). IsRising (take n (drop (number + 1) lines))) (let e : 1 ≡ number + 1 + 1 - (number + 1) = omega arith in e) (first-rising (drop (number + 1) lines));
    whole = λ is. is;
  }

  pub gathered : (start number : ℕ) (frames : List Frame) → number ≡ length lines → AreNoted layout lines start number frames → frames ≡ notes layout lines
  gathered start number frames all noted =
      sym (append-nil frames) ∙ (ap (λ (l : List EventLine). frames ++ notes layout l) (sym (none-left lines start (noted.whole all))) ∙ noted.so_far)
    where
      none-left : (xs : List EventLine) (n : ℕ) → n ≡ length xs → drop n xs ≡ []
      none-left [] zero is = refl
      none-left [] (suc n) is = refl
      none-left (x ∷ xs) zero is = absurd (let e : 0 ≡ suc (length xs) = is in omega (arith, e))
      none-left (x ∷ xs) (suc n) is = none-left xs n (let e : suc n ≡ suc (length xs) = is in let f : n ≡ length xs = omega (arith, e) in f)

-- a check more, of lines that are shown
pub closes_shown : (layout : Layout) (lines : List Shown) (start number : ℕ) (frames more : List Frame) → number < length (shown_lines lines) → is_last_of_check (shown_lines lines) number ≡ true → AreNoted layout (shown_lines lines) start number frames
    → more ≡ frames ++ notes_of_check layout (shown_lines (take (number + 1 - start) (drop start lines))) → AreNoted layout (shown_lines lines) (number + 1) (number + 1) more
closes_shown layout lines start number frames more within last noted is =
    subst (AreNoted layout (shown_lines lines) (number + 1) (number + 1))
    (sym (is ∙ ap (λ (l : List EventLine). frames ++ notes_of_check layout l) (part-shown lines (number + 1 - start) start)))
    (closes layout (shown_lines lines) start number frames within last noted)

pub many-shown : (lines : List Shown) → length (shown_lines lines) ≡ length lines
many-shown [] = refl
many-shown (x ∷ lines) = ap suc (many-shown lines)
