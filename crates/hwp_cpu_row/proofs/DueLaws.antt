-- How the collector makes frames due: its notes one after the other, the events by machine checks, and what is so of each due frame.
use Rattle.std.proofs.Common.{◌≡◌, ℕ, zero, suc, ◌+◌, ◌<◌, ◌≤◌, ◌==◌, ◌&&◌, ◌||◌, nat_lt, Bool, true, false, cond, List, [], ◌∷◌, ◌++◌, Option, Some, None, drop, filter_map, flat_map, get_or, length, map, not, slice_get, take, if◌then◌else◌, append-nil, append_assoc, refl, sym, ap, ◌∙◌, subst, arith}
use Rattle.std.specs.List.{cons_option, list_any}
use Rattle.std.proofs.lemmas.Bool.{both_ways, ltb-true}
use Rattle.std.proofs.lemmas.List.{length-append, length-map, length-set, map-append, take_all, take_more}
use Rattle.std.proofs.lemmas.Option.{get_or_from_slice_get, none-some, same_Some, slice_get-get_or, slice_get_within}
use Rattle.hwp_claim.specs.hwp_geom.declared.Frame.{Frame}
use Rattle.hwp_claim.specs.hwp_geom.declared.Layout.{Layout}
use Rattle.hwp_claim.specs.hwp_report_text.declared.EventLine.{EventLine}
use Rattle.hwp_claim.specs.hwp_core_rule.Lists.{EachMember}
use Rattle.hwp_claim.specs.declared.EventOutcome.{EventOutcome}
use Rattle.hwp_claim.specs.hwp_law.hwp_cec.declared.Noted.{Noted}
use Rattle.hwp_claim.specs.hwp_law.hwp_cec.declared.Noted.TheVariants.{Counted, Offline}
use Rattle.hwp_claim.specs.hwp_law.hwp_cec.Ages.{CecEvent, Note, live}
use Rattle.hwp_claim.specs.hwp_law.hwp_cec.Counters.{Counters, StandsFor, answer, noted_in}
use Rattle.hwp_claim.specs.hwp_law.Commands.{is_kernels}
use Rattle.hwp_claim.specs.hwp_law.Notes.{AreApart, IsRising, checks, ends_machine, frame_of, is_corrected, is_for_pages, noted_frame, notes, notes_of_check, with_line}
use Rattle.hwp_claim.specs.hwp_law.Watched.{Watched, offlining, told}
use Rattle.hwp_claim.proofs.of_hwp_law.NoteLaws.{notes-append, notes-rising, offlining-append}
use Rattle.hwp_cpu_row.specs.declared.row.Offlining.{Offlining}
use Rattle.hwp_cpu_row.specs.Acts.{event_at, told_notes}
use Rattle.hwp_cpu_row.specs.Locals.{Collects}
use Rattle.hwp_cpu_row.specs.Dues.{DueValue, HasNoted, first_check, notes_of_event, notes_of_lines}

-- ---- notes, one after the other

pub collects-none : (c : Counters) → Collects [] c c []
collects-none c = record {
  threshold = refl;
  window = refl;
  many = refl;
  few = omega arith;
  within = λ i f there. absurd (none-some f there);
  stands = λ events has. (subst (λ (l : List CecEvent). StandsFor l c) (sym (append-nil events)) has, refl);
}

-- of a list and one more before it, and of two lists
pub each-cons : {A : Type 0} (P : A → Type 0) (x : A) (l : List A) → P x → EachMember P l → EachMember P (x ∷ l)
each-cons P x l here rest zero y there = subst P (same_Some x y there) here
each-cons P x l here rest (suc i) y there = rest i y there

each-both : {A : Type 0} (P : A → Type 0) (a b : List A) → EachMember P a → EachMember P b → EachMember P (a ++ b)
each-both P [] b one other = other
each-both P (x ∷ xs) b one other = each-cons P x (xs ++ b) (one 0 x refl) (each-both P xs b (λ i y there. one (suc i) y there) other)

pub collects-both : {a b x y : List Frame} {c d e : Counters} → Collects a c d x → Collects b d e y → Collects (a ++ b) c e (x ++ y)
collects-both {a} {b} {x} {y} {c} {d} {e} one other = record {
  threshold = other.threshold ∙ one.threshold;
  window = other.window ∙ one.window;
  many = other.many ∙ one.many;
  few =
      let first : length x ≤ length a = one.few in
      let second : length y ≤ length b = other.few in
      let left : length (x ++ y) ≡ length x + length y = length-append x y in
      let right : length (a ++ b) ≡ length a + length b = length-append a b in
      omega (arith, first, second, left, right);
  within = each-both (λ (f : Frame). f.0 < length c.counts) x y one.within (subst (λ (n : ℕ). EachMember (λ (f : Frame). f.0 < n) y) one.many other.within);
  stands = λ events has.
      let first = one.stands events has in
      let second = other.stands (events ++ map Note a) first.0 in (
        subst (λ (l : List CecEvent). StandsFor l e) (append_assoc events (map Note a) (map Note b) ∙ ap (λ (l : List CecEvent). events ++ l) (sym (map-append Note a b))) second.0,
        ap (λ (l : List Frame). l ++ y) first.1
            ∙ ap (λ (l : List Frame). offlining (watched c events) a ++ l) (second.1 ∙ ap (λ (w : Watched). offlining w b) (same events))
            ∙ sym (offlining-append (watched c events) a b),
      );
}
  where
    watched : Counters → List CecEvent → Watched
    watched k events = record { threshold = k.threshold; window = k.window; events = events }

    same : (events : List CecEvent) → watched d (events ++ map Note a) ≡ told (map Note a) (watched c events)
    same events = ap (λ (n : ℕ). record { threshold = n; window = d.window; events = events ++ map Note a }) one.threshold ∙ ap (λ (n : ℕ). record { threshold = c.threshold; window = n; events = events ++ map Note a }) one.window

is-counted : (threshold n k : ℕ) → answer threshold n ≡ Counted k → (n == threshold) ≡ false
is-counted threshold n k = which (n == threshold)
  where
    which : (b : Bool) → (if b then Offline else Counted n) ≡ Counted k → b ≡ false
    which false is = refl
    which true is = absurd (differs is)
      where
        counted : Noted → Bool
        counted (Counted j) = true
        counted Offline = false

        differs : Offline ≡ Counted k → ⊥
        differs same = both_ways true (sym (ap counted same)) refl

-- what the collector says of one note
pub record Says (c : Counters) (frame : Frame) (said : Noted) (after : Counters) : Type 0 where
  pub counts : after ≡ noted_in c frame.0
  pub stands : (events : List CecEvent) → StandsFor events c → StandsFor (events ++ Note frame ∷ []) after
  pub says : (events : List CecEvent) → StandsFor events c → said ≡ answer c.threshold (live c.threshold c.window events frame.0)

module _ {c after : Counters} {frame : Frame} (within : frame.0 < length c.counts) (many : length after.counts ≡ length c.counts) where
  pub collects-counted : (k : ℕ) → Says c frame (Counted k) after → Collects (frame ∷ []) c after []
  collects-counted k has = record {
    threshold = ap (λ (x : Counters). x.threshold) has.counts;
    window = ap (λ (x : Counters). x.window) has.counts;
    many = many;
    few = omega arith;
    within = λ i f there. absurd (none-some f there);
    stands = λ events stand. (has.stands events stand, sym (ap (λ (b : Bool). if b then frame ∷ [] else []) (is-counted c.threshold (live c.threshold c.window events frame.0) k (sym (has.says events stand)))));
  }

pub noted-none : (c : Counters) (due : List Frame) → HasNoted [] c due c due
noted-none c due = ([], sym (append-nil due), collects-none c)

pub noted-both : (a b due mid all : List Frame) (c d e : Counters) → HasNoted a c due d mid → HasNoted b d mid e all → HasNoted (a ++ b) c due e all
noted-both a b due mid all c d e one other = (one.0 ++ other.0, other.1 ∙ ap (λ (l : List Frame). l ++ other.0) one.1 ∙ append_assoc due one.0 other.0, collects-both one.2 other.2)

-- ---- the frames that are noted

-- a frame that a line notes is one for pages
noted-line : (layout : Layout) (line : EventLine) (f : Frame) → noted_frame layout line ≡ Some f → is_for_pages layout f ≡ true
noted-line layout line f = which (is_corrected line)
  where
    both : (b : Bool) → is_for_pages layout (frame_of line) ≡ b → (if b then Some (frame_of line) else None) ≡ Some f → is_for_pages layout f ≡ true
    both true is some = ap (is_for_pages layout) (sym (same_Some (frame_of line) f some)) ∙ is
    both false is none = absurd (none-some f none)

    which : (b : Bool) → (if b && is_for_pages layout (frame_of line) then Some (frame_of line) else None) ≡ Some f → is_for_pages layout f ≡ true
    which true is = both (is_for_pages layout (frame_of line)) refl is
    which false none = absurd (none-some f none)

pub for-pages-within : (layout : Layout) (f : Frame) → is_for_pages layout f ≡ true → f.0 < layout.frames
for-pages-within layout f is = which (nat_lt f.0 layout.frames) refl is
  where
    which : (b : Bool) → nat_lt f.0 layout.frames ≡ b → (b && not (is_kernels layout f)) ≡ true → f.0 < layout.frames
    which true lower both = ltb-true f.0 layout.frames lower
    which false lower both = absurd (both_ways true (sym both) refl)

pub noted-within : (layout : Layout) (line : EventLine) (f : Frame) → noted_frame layout line ≡ Some f → f.0 < layout.frames
noted-within layout line f is = for-pages-within layout f (noted-line layout line f is)

abbrev pub ForPages : Layout → List Frame → Type 0
ForPages layout l = EachMember (λ (f : Frame). is_for_pages layout f ≡ true) l

pub pages-both : (layout : Layout) (a b : List Frame) → ForPages layout a → ForPages layout b → ForPages layout (a ++ b)
pages-both layout a b one other = each-both (λ (f : Frame). is_for_pages layout f ≡ true) a b one other

pages-one : (layout : Layout) (o : Option Frame) (l : List Frame) → ((f : Frame) → o ≡ Some f → is_for_pages layout f ≡ true) → ForPages layout l → ForPages layout (cons_option o l)
pages-one layout None l one other = other
pages-one layout (Some x) l one other = each-cons (λ (f : Frame). is_for_pages layout f ≡ true) x l (one x refl) other

pages-none : (layout : Layout) → ForPages layout []
pages-none layout i f there = absurd (none-some f there)

pages-noted : (layout : Layout) (lines : List EventLine) → ForPages layout (filter_map (noted_frame layout) lines)
pages-noted layout [] = pages-none layout
pages-noted layout (l ∷ ls) = pages-one layout (noted_frame layout l) (filter_map (noted_frame layout) ls) (noted-line layout l) (pages-noted layout ls)

pages-check : (layout : Layout) (lines : List EventLine) → ForPages layout (notes_of_check layout lines)
pages-check layout lines = which (list_any ends_machine lines)
  where
    which : (b : Bool) → ForPages layout (if b then [] else filter_map (noted_frame layout) lines)
    which true = pages-none layout
    which false = pages-noted layout lines

pages-checks : (layout : Layout) (cs : List (List EventLine)) → ForPages layout (flat_map (notes_of_check layout) cs)
pages-checks layout [] = pages-none layout
pages-checks layout (c ∷ cs) = pages-both layout (notes_of_check layout c) (flat_map (notes_of_check layout) cs) (pages-check layout c) (pages-checks layout cs)

-- and so are those of them that are due
pages-due : (layout : Layout) (w : Watched) (l : List Frame) → ForPages layout l → ForPages layout (offlining w l)
pages-due layout w [] each = each
pages-due layout w (x ∷ xs) each = which (live w.threshold w.window w.events x.0 == w.threshold) (offlining (told (Note x ∷ []) w) xs) (pages-due layout (told (Note x ∷ []) w) xs (λ i f there. each (suc i) f there))
  where
    which : (b : Bool) (l : List Frame) → ForPages layout l → ForPages layout (if b then x ∷ l else l)
    which true l rest = each-cons (λ (f : Frame). is_for_pages layout f ≡ true) x l (each 0 x refl) rest
    which false l rest = rest

pub due-for-pages : (layout : Layout) (told : List EventOutcome) {c after : Counters} {due : List Frame} (events : List CecEvent) → StandsFor events c → Collects (told_notes layout told) c after due → ForPages layout due
due-for-pages layout told {c} events stands has = subst (ForPages layout) (sym (has.stands events stands).1) (pages-due layout _ (told_notes layout told) (pages-checks layout (checks (map (event_at 0) told))))

-- ---- no more notes than events

filter-few : (layout : Layout) (lines : List EventLine) → length (filter_map (noted_frame layout) lines) ≤ length lines
filter-few layout [] = omega arith
filter-few layout (l ∷ ls) = which (noted_frame layout l) (filter-few layout ls)
  where
    which : (o : Option Frame) → length (filter_map (noted_frame layout) ls) ≤ length ls → length (cons_option o (filter_map (noted_frame layout) ls)) ≤ suc (length ls)
    which None few = omega (arith, few)
    which (Some f) few = omega (arith, few)

check-few : (layout : Layout) (lines : List EventLine) → length (notes_of_check layout lines) ≤ length lines
check-few layout lines = which (list_any ends_machine lines)
  where
    which : (b : Bool) → length (if b then [] else filter_map (noted_frame layout) lines) ≤ length lines
    which true = omega arith
    which false = filter-few layout lines

-- the lines of all machine checks
abbrev all-lines : List (List EventLine) → ℕ
all-lines [] = 0
all-lines (c ∷ cs) = length c + all-lines cs

with-lines : (line : EventLine) (cs : List (List EventLine)) → all-lines (with_line line cs) ≡ suc (all-lines cs)
with-lines line [] = omega arith
with-lines line ([] ∷ cs) = omega arith
with-lines line ((n ∷ m) ∷ cs) = which (nat_lt line.bank n.bank)
  where
    which : (b : Bool) → all-lines (if b then (line ∷ n ∷ m) ∷ cs else (line ∷ []) ∷ (n ∷ m) ∷ cs) ≡ suc (length (n ∷ m) + all-lines cs)
    which true = omega arith
    which false = omega arith

lines-all : (lines : List EventLine) → all-lines (checks lines) ≡ length lines
lines-all [] = refl
lines-all (l ∷ ls) = with-lines l (checks ls) ∙ ap suc (lines-all ls)

checks-few : (layout : Layout) (cs : List (List EventLine)) → length (flat_map (notes_of_check layout) cs) ≤ all-lines cs
checks-few layout [] = omega arith
checks-few layout (c ∷ cs) =
    let one : length (notes_of_check layout c) ≤ length c = check-few layout c in
    let rest : length (flat_map (notes_of_check layout) cs) ≤ all-lines cs = checks-few layout cs in
    let both : length (notes_of_check layout c ++ flat_map (notes_of_check layout) cs) ≡ length (notes_of_check layout c) + length (flat_map (notes_of_check layout) cs) = length-append (notes_of_check layout c) (flat_map (notes_of_check layout) cs) in
    omega (arith, one, rest, both)

pub notes-few : (layout : Layout) (told : List EventOutcome) → length (told_notes layout told) ≤ length told
notes-few layout told =
    let few : length (told_notes layout told) ≤ all-lines (checks (map (event_at 0) told)) = checks-few layout (checks (map (event_at 0) told)) in
    let all : all-lines (checks (map (event_at 0) told)) ≡ length (map (event_at 0) told) = lines-all (map (event_at 0) told) in
    let same : length (map (event_at 0) told) ≡ length told = length-map told (event_at 0) in
    omega (arith, few, all, same)

-- ---- the first machine check and those behind it

pub first-some : (t : EventOutcome) (l : List EventOutcome) → 0 < first_check (t ∷ l)
first-some t [] = omega arith
first-some t (n ∷ r) = which (nat_lt t.held.bank n.held.bank)
  where
    which : (b : Bool) → 0 < cond b (suc (first_check (n ∷ r))) 1
    which true = omega arith
    which false = omega arith

abbrev lines : List EventOutcome → List EventLine
lines l = map (event_at 0) l

-- what the first notes and what the others note is what all note
pub first-notes : (layout : Layout) (l : List EventOutcome) → told_notes layout l ≡ notes_of_lines layout (take (first_check l) l) ++ told_notes layout (drop (first_check l) l)
first-notes layout [] = refl
first-notes layout (t ∷ l) = whole (parts t l)
  where
    Parts : EventOutcome → List EventOutcome → ℕ → Type 0
    Parts x xs n = (more : List EventOutcome) × (take n (x ∷ xs) ≡ x ∷ more) × IsRising (lines (x ∷ more)) × AreApart (lines (x ∷ more)) (lines (drop n (x ∷ xs)))

    parts : (x : EventOutcome) (xs : List EventOutcome) → Parts x xs (first_check (x ∷ xs))
    parts x [] = ([], refl, tt, tt)
    parts x (y ∷ ys) = which (nat_lt x.held.bank y.held.bank) refl (first_check (y ∷ ys)) (parts y ys)
      where
        which : (b : Bool) → nat_lt x.held.bank y.held.bank ≡ b → (n : ℕ) → Parts y ys n → Parts x (y ∷ ys) (cond b (suc n) 1)
        which true lower n rest = (y ∷ rest.0, ap (λ (k : List EventOutcome). x ∷ k) rest.1, (lower, rest.2), rest.3)
        which false lower n rest = ([], refl, tt, lower)

    whole : Parts t l (first_check (t ∷ l)) → told_notes layout (t ∷ l) ≡ notes_of_lines layout (take (first_check (t ∷ l)) (t ∷ l)) ++ told_notes layout (drop (first_check (t ∷ l)) (t ∷ l))
    whole p =
        let n : ℕ = first_check (t ∷ l) in
        ap (told_notes layout) (sym (split n (t ∷ l)))
        ∙ ap (λ (k : List EventOutcome). notes layout (lines (k ++ drop n (t ∷ l)))) p.1
        ∙ ap (notes layout) (map-append (event_at 0) (t ∷ p.0) (drop n (t ∷ l)))
        ∙ notes-append layout (lines (t ∷ p.0)) (lines (drop n (t ∷ l))) p.3
        ∙ ap (λ (k : List Frame). k ++ notes layout (lines (drop n (t ∷ l)))) (notes-rising layout (event_at 0 t) (lines p.0) p.2 ∙ ap (notes_of_lines layout) (sym p.1))
      where
        split : (n : ℕ) (k : List EventOutcome) → take n k ++ drop n k ≡ k
        split zero k = refl
        split (suc n) [] = refl
        split (suc n) (x ∷ xs) = ap (λ (r : List EventOutcome). x ∷ r) (split n xs)

-- ---- an event, and the events of a machine check one after the other

many-noted : (c after : Counters) (frame : Frame) → after ≡ noted_in c frame.0 → length after.counts ≡ length c.counts
many-noted c after frame is = ap (λ (k : Counters). length k.counts) is ∙ length-set c.counts frame.0 _

pub event-counted : (layout : Layout) (t : EventOutcome) (f : Frame) (k : ℕ) (c after : Counters) (due : List Frame) → noted_frame layout (event_at 0 t) ≡ Some f → f.0 < length c.counts → Says c f (Counted k) after → HasNoted (notes_of_event layout t) c due after due
event-counted layout t f k c after due is within says =
    subst (λ (o : Option Frame). HasNoted (cons_option o []) c due after due) (sym is) ([], sym (append-nil due), collects-counted within (many-noted c after f says.counts) k says)

-- one event more
filtered-one : (layout : Layout) (l : List EventOutcome) (t : EventOutcome) → filter_map (noted_frame layout) (lines (l ++ t ∷ [])) ≡ filter_map (noted_frame layout) (lines l) ++ notes_of_event layout t
filtered-one layout [] t = refl
filtered-one layout (x ∷ xs) t = which (noted_frame layout (event_at 0 x)) (filtered-one layout xs t)
  where
    which : (o : Option Frame) → filter_map (noted_frame layout) (lines (xs ++ t ∷ [])) ≡ filter_map (noted_frame layout) (lines xs) ++ notes_of_event layout t
        → cons_option o (filter_map (noted_frame layout) (lines (xs ++ t ∷ []))) ≡ cons_option o (filter_map (noted_frame layout) (lines xs)) ++ notes_of_event layout t
    which None is = is
    which (Some f) is = ap (λ (l : List Frame). f ∷ l) is

take-next : (l : List EventOutcome) (i : ℕ) (t : EventOutcome) → slice_get l i ≡ Some t → take (i + 1) l ≡ take i l ++ t ∷ []
take-next l i t is = take_more l i t (slice_get_within l i t is) ∙ ap (λ (x : EventOutcome). take i l ++ x ∷ []) (get_or_from_slice_get l i t t is)

pub check-more : (layout : Layout) (check : List EventOutcome) (i : ℕ) (t : EventOutcome) (c d e : Counters) (due mid all : List Frame) → slice_get check i ≡ Some t
    → HasNoted (filter_map (noted_frame layout) (lines (take i check))) c due d mid → HasNoted (notes_of_event layout t) d mid e all → HasNoted (filter_map (noted_frame layout) (lines (take (i + 1) check))) c due e all
check-more layout check i t c d e due mid all is so_far one =
    subst (λ (l : List Frame). HasNoted l c due e all) (sym (ap (λ (l : List EventOutcome). filter_map (noted_frame layout) (lines l)) (take-next check i t is) ∙ filtered-one layout (take i check) t))
    (noted-both (filter_map (noted_frame layout) (lines (take i check))) (notes_of_event layout t) due mid all c d e so_far one)

-- the event at a place, whatever is read past the end
pub check-next : (layout : Layout) (check : List EventOutcome) (i : ℕ) (past : EventOutcome) (c d e : Counters) (due mid all : List Frame) → i < length check
    → HasNoted (filter_map (noted_frame layout) (lines (take i check))) c due d mid → HasNoted (notes_of_event layout (get_or check i past)) d mid e all → HasNoted (filter_map (noted_frame layout) (lines (take (i + 1) check))) c due e all
check-next layout check i past c d e due mid all within so_far one = check-more layout check i (get_or check i past) c d e due mid all (slice_get-get_or check i past within) so_far one

-- and all of them, where none stopped the machine
pub check-all : (layout : Layout) (check : List EventOutcome) (c d : Counters) (due all : List Frame) → list_any ends_machine (lines check) ≡ false → HasNoted (filter_map (noted_frame layout) (lines check)) c due d all → HasNoted (notes_of_lines layout check) c due d all
check-all layout check c d due all goes has = subst (λ (b : Bool). HasNoted (if b then [] else filter_map (noted_frame layout) (lines check)) c due d all) (sym goes) has

pub check-stopped : (layout : Layout) (check : List EventOutcome) (c : Counters) (due : List Frame) → list_any ends_machine (lines check) ≡ true → HasNoted (notes_of_lines layout check) c due c due
check-stopped layout check c due stopped = subst (λ (b : Bool). HasNoted (if b then [] else filter_map (noted_frame layout) (lines check)) c due c due) (sym stopped) (noted-none c due)

-- ---- one machine check after the other

pub collect-step : (layout : Layout) (all_told rest : List EventOutcome) (so_far : List Frame) (c d e : Counters) (due mid all : List Frame) → HasNoted so_far c due d mid → told_notes layout all_told ≡ so_far ++ told_notes layout rest
    → HasNoted (notes_of_lines layout (take (first_check rest) rest)) d mid e all → (new : List Frame) × HasNoted new c due e all × (told_notes layout all_told ≡ new ++ told_notes layout (drop (first_check rest) rest))
collect-step layout all_told rest so_far c d e due mid all has is one = (
  so_far ++ notes_of_lines layout (take (first_check rest) rest),
  noted-both so_far (notes_of_lines layout (take (first_check rest) rest)) due mid all c d e has one,
  is ∙ ap (λ (l : List Frame). so_far ++ l) (first-notes layout rest) ∙ sym (append_assoc so_far (notes_of_lines layout (take (first_check rest) rest)) (told_notes layout (drop (first_check rest) rest))),
)

-- what the functions say

any-lines : (l : List EventOutcome) → list_any ends_machine (lines l) ≡ list_any (λ (t : EventOutcome). ends_machine (event_at 0 t)) l
any-lines [] = refl
any-lines (t ∷ ts) = ap (λ (b : Bool). ends_machine (event_at 0 t) || b) (any-lines ts)

pub one-check : (l : List EventOutcome) → length l ≡ 1 → 1 ≡ first_check l
one-check [] one = absurd (omega (arith, one))
one-check (t ∷ []) one = refl
one-check (t ∷ n ∷ r) one = absurd (omega (arith, one))

pub stopped-notes : (layout : Layout) (check : List EventOutcome) (c : Counters) (due : List Frame) → list_any (λ (t : EventOutcome). ends_machine (event_at 0 t)) check ≡ true → HasNoted (notes_of_lines layout check) c due c due
stopped-notes layout check c due stopped = check-stopped layout check c due (any-lines check ∙ stopped)

pub all-notes : (layout : Layout) (check : List EventOutcome) (i : ℕ) (c d : Counters) (due all : List Frame) → list_any (λ (t : EventOutcome). ends_machine (event_at 0 t)) check ≡ false → length check ≤ i
    → HasNoted (filter_map (noted_frame layout) (lines (take i check))) c due d all → HasNoted (notes_of_lines layout check) c due d all
all-notes layout check i c d due all goes past has = check-all layout check c d due all (any-lines check ∙ goes) (subst (λ (l : List EventOutcome). HasNoted (filter_map (noted_frame layout) (lines l)) c due d all) (take_all i check past) has)

pub first-lower : (l : List EventOutcome) → false ≡ (length l == 0) → 0 < first_check l
first-lower [] some = absurd (both_ways true (sym some) refl)
first-lower (t ∷ ts) some = first-some t ts

pub collect-next : (layout : Layout) (all_told rest front back : List EventOutcome) (n : ℕ) (c d e : Counters) (due mid all : List Frame) → (so_far : List Frame) × HasNoted so_far c due d mid × (told_notes layout all_told ≡ so_far ++ told_notes layout rest)
    → n ≡ first_check rest → front ≡ take n rest → back ≡ drop n rest → HasNoted (notes_of_lines layout front) d mid e all → (new : List Frame) × HasNoted new c due e all × (told_notes layout all_told ≡ new ++ told_notes layout back)
collect-next layout all_told rest front back n c d e due mid all so_far count is_front is_back one =
    subst (λ (l : List EventOutcome). (new : List Frame) × HasNoted new c due e all × (told_notes layout all_told ≡ new ++ told_notes layout l)) (sym (is_back ∙ ap (λ (k : ℕ). drop k rest) count))
    (collect-step layout all_told rest so_far.0 c d e due mid all so_far.1 so_far.2 (subst (λ (l : List EventOutcome). HasNoted (notes_of_lines layout l) d mid e all) (is_front ∙ ap (λ (k : ℕ). take k rest) count) one))

-- the frames and what came of them, in other words
abbrev pub due_of : List Frame → List Offlining → ℕ → DueValue
due_of frames offlined n = record { frames = frames; offlined = offlined; spare = n }

pub due-same : (frames all : List Frame) (offlined same : List Offlining) (n : ℕ) → frames ≡ all → offlined ≡ same → due_of frames offlined n ≡ due_of all same n
due-same frames all offlined same n is are = ap (λ (l : List Frame). due_of l offlined n) is ∙ ap (λ (l : List Offlining). due_of all l n) are
