-- The record of a frame can be gathered: the notes of the frame, processor by processor, and then by their places, of which each has
-- one at most.
use Rattle.std.proofs.Common.{◌≡◌, ◌≢◌, ◌⊎◌, inl, inr, ℕ, ◌+◌, ◌*◌, ◌<◌, ◌≤◌, ◌==◌, ◌&&◌, Bool, true, false, cond, List, [], ◌∷◌, Some, filter, length, map, slice_get, slice_index_or, refl, sym, ap, ◌∙◌, arith}
use Rattle.std.specs.Prelude.{AllPairs}
use Rattle.std.specs.Int.{from_bool}
use Rattle.std.specs.List.{count_by, sum_by}
use Rattle.std.proofs.lemmas.Bool.{eq-eqb, eqb-true, false_from_ne_true}
use Rattle.std.proofs.lemmas.List.Sorted.{sum_by-IsPermutation}
use Rattle.std.proofs.lemmas.List.Sums.{sum_by-cons}
use Rattle.std.proofs.lemmas.Option.{slice_get-get_or}
use Rattle.hwp_law.specs.hwp_geom.declared.Cpu.{Cpu}
use Rattle.hwp_law.specs.hwp_geom.declared.Frame.{Frame}
use Rattle.hwp_law.specs.hwp_geom.declared.Layout.{Layout}
use Rattle.hwp_law.specs.hwp_geom.Pairs.{Pairs}
use Rattle.hwp_plain.specs.hwp_core_rule.declared.Mark.{Mark}
use Rattle.hwp_plain.specs.hwp_core_rule.declared.MarkKind.{MarkKind}
use Rattle.hwp_plain.specs.hwp_core_rule.declared.MarkKind.TheVariants as kinds
use Rattle.hwp_plain.specs.hwp_core_rule.declared.State.{State}
use Rattle.hwp_plain.specs.hwp_core_rule.declared.View.{View}
use Rattle.hwp_plain.specs.hwp_core_rule.Lists.{EachMember, sum_all}
use Rattle.hwp_plain.specs.hwp_core_rule.Rule.{Holds}
use Rattle.hwp_plain.specs.hwp_core_rule.Words.{sum_below, words_of}
use Rattle.hwp_plain.specs.hwp_core_rule.parts.Counter.{is_revival}
use Rattle.hwp_plain.proofs.of_hwp_core_rule.CountsBelow.{below-swap}
use Rattle.hwp_plain.proofs.of_hwp_core_rule.Lists.{same-or, sum-map, sum-zero, terms-le}
use Rattle.hwp_plain.specs.hwp_core_rule.Boards.{AreSeated, view_of}
use Rattle.hwp_law.specs.hwp_report_text.declared.MarkLine.{MarkLine}
use Rattle.hwp_law_served.specs.Accounts.{IsLineOf, IsNote}
use Rattle.hwp_law_served.specs.Rows.{Note, lines_of, record_of}
use Rattle.hwp_law_served.specs.Runs.{AreSorted, IsRecord, notes_on, place_in}
use Rattle.hwp_law_served.proofs.Seats.{seat-place}
use Rattle.hwp_law_served.proofs.Sums.{below-same, flat-sum, list-below, sum-one, sum-same, sum-split}
use Rattle.hwp_law_served.proofs.marks.MarkPlaces.{is_at, mark_place, marks_on, one-at-most}

lines-same : (frame : Frame) (test : MarkLine → Bool) (own : List Note) → count_by test (lines_of frame own) ≡ notes_on frame test own
lines-same frame test [] = refl
lines-same frame test (n ∷ ns) =
    which (n.0.0 == frame.0)
    ∙ ap (λ (k : ℕ). cond ((n.0.0 == frame.0) && test n.1) 1 0 + k) (lines-same frame test ns)
    ∙ sym (sum_by-cons (λ (x : Note). cond ((x.0.0 == frame.0) && test x.1) 1 0) n ns)
  where
    left : List Note
    left = filter (λ (x : Note). x.0.0 == frame.0) ns

    which : (b : Bool) → count_by test (map (λ (x : Note). x.1) (cond b (n ∷ left) left)) ≡ cond (b && test n.1) 1 0 + count_by test (map (λ (x : Note). x.1) left)
    which true = sum_by-cons (λ (x : MarkLine). cond (test x) 1 0) n.1 (map (λ (x : Note). x.1) left)
    which false = omega arith

-- the record counts as the notes do
pub gathered-same : (frame : Frame) (test : MarkLine → Bool) (notes : List (List Note)) → count_by test (record_of frame notes) ≡ sum_by (notes_on frame test) notes
gathered-same frame test notes =
    flat-sum (λ (x : MarkLine). cond (test x) 1 0) (lines_of frame) notes
    ∙ sum-same (λ (own : List Note). count_by test (lines_of frame own)) (notes_on frame test) notes (λ c own there. lines-same frame test own)

flag-bool : (b : Bool) → cond b 1 0 ≡ from_bool b
flag-bool true = refl
flag-bool false = refl

-- a note's line stands in a record at its mark's place
pub place-noted : (n : Note) (m : Mark) → IsNote n m → place_in n.1 ≡ mark_place m
place-noted n m is = which is.kind is.kind_is is.line
  where
    which : (kind : MarkKind) → m.kind ≡ kind → IsLineOf kind m n.1 → place_in n.1 ≡ mark_place m
    which (kinds.Poisoned hardware) kind_is (how, is_how, line) =
        let at : place_in n.1 ≡ 2 * m.cycle + 0 = ap place_in line in
        let turn : from_bool (is_revival m.kind) ≡ 0 = ap (λ (k : MarkKind). from_bool (is_revival k)) kind_is in
        omega (arith, at, turn)
    which kinds.Revived kind_is line =
        let at : place_in n.1 ≡ 2 * m.cycle + 1 = ap place_in line in
        let turn : from_bool (is_revival m.kind) ≡ 1 = ap (λ (k : MarkKind). from_bool (is_revival k)) kind_is in
        omega (arith, at, turn)

-- the notes of a frame at a place are as many as the marks there
notes-marks : (frame : Frame) (p : ℕ) (own : List Note) (marks : List Mark) → Pairs IsNote own marks → notes_on frame (λ (x : MarkLine). place_in x == p) own ≡ sum_by (is_at frame.0 p) marks
notes-marks frame p [] [] pairs = refl
notes-marks frame p [] (m ∷ ms) pairs = absurd pairs
notes-marks frame p (n ∷ ns) [] pairs = absurd pairs
notes-marks frame p (n ∷ ns) (m ∷ ms) (is, rest) =
    let first : cond ((n.0.0 == frame.0) && (place_in n.1 == p)) 1 0 ≡ is_at frame.0 p m
    = flag-bool ((n.0.0 == frame.0) && (place_in n.1 == p)) ∙ ap (λ (f : Frame). from_bool ((f.0 == frame.0) && (place_in n.1 == p))) is.frame ∙ ap (λ (k : ℕ). from_bool ((m.frame.0 == frame.0) && (k == p))) (place-noted n m is) in
    let later : notes_on frame (λ (x : MarkLine). place_in x == p) ns ≡ sum_by (is_at frame.0 p) ms = notes-marks frame p ns ms rest in
    let one : notes_on frame (λ (x : MarkLine). place_in x == p) (n ∷ ns) ≡ cond ((n.0.0 == frame.0) && (place_in n.1 == p)) 1 0 + notes_on frame (λ (x : MarkLine). place_in x == p) ns = sum_by-cons (λ (x : Note). cond ((x.0.0 == frame.0) && (place_in x.1 == p)) 1 0) n ns in
    let other : sum_by (is_at frame.0 p) (m ∷ ms) ≡ is_at frame.0 p m + sum_by (is_at frame.0 p) ms = sum_by-cons (is_at frame.0 p) m ms in
    omega (arith, first, later, one, other)

-- what a processor noted is of its view's marks, which are its own
pub record AreNoted (layout : Layout) (seat : Cpu → ℕ) (last : State) (notes : List (List Note)) : Type 0 where
  pub fit : length notes ≡ layout.cpus
  pub noted : (c : ℕ) (own : List Note) → slice_get notes c ≡ Some own → Pairs IsNote own (view_of last (seat (record { 0 = c }))).marks
  pub marked : (c : ℕ) → c < layout.cpus → EachMember (λ (m : Mark). m.stamp.who.cpu ≡ record { 0 = c }) (view_of last (seat (record { 0 = c }))).marks

module _ (layout : Layout) (seat : Cpu → ℕ) (last : State) (holds : Holds layout last) (seated : AreSeated layout last seat) (notes : List (List Note)) (are : AreNoted layout seat last notes) where
  cpu-of : (i j : ℕ) (v : View) (m : Mark) → slice_get last.views i ≡ Some v → slice_get v.marks j ≡ Some m → (m.stamp.who.cpu.0 < layout.cpus) × (i ≡ seat m.stamp.who.cpu)
  cpu-of i j v m view there = seat-place layout seat last holds seated i v m.stamp.who view ((holds.rule.processors.commands.own i v view).marks j m there)

  module _ (g : Mark → ℕ) where
    -- of the marks that a processor's view lists
    abbrev marks_by : ℕ → ℕ
    marks_by c = sum_by g (view_of last (seat (record { 0 = c }))).marks

    -- one view lists the marks of a processor
    one-view : (c : ℕ) → c < layout.cpus → sum_by (λ (v : View). sum_by (λ (m : Mark). cond (m.stamp.who.cpu.0 == c) (g m) 0) v.marks) last.views ≡ marks_by c
    one-view c inside =
        let view : View = view_of last (seat (record { 0 = c })) in
        sum-one (λ (v : View). sum_by (λ (m : Mark). cond (m.stamp.who.cpu.0 == c) (g m) 0) v.marks) last.views (seat (record { 0 = c })) view (seated.there (record { 0 = c }) inside) others
        ∙ sum-same (λ (m : Mark). cond (m.stamp.who.cpu.0 == c) (g m) 0) g view.marks
        (λ j m there. ap (λ (b : Bool). cond b (g m) 0) (eq-eqb m.stamp.who.cpu.0 c (ap (λ (x : Cpu). x.0) (are.marked c inside j m there))))
      where
        others : (i : ℕ) (v : View) → i ≢ seat (record { 0 = c }) → slice_get last.views i ≡ Some v → sum_by (λ (m : Mark). cond (m.stamp.who.cpu.0 == c) (g m) 0) v.marks ≡ 0
        others i v differs view =
            sum-zero (λ (m : Mark). cond (m.stamp.who.cpu.0 == c) (g m) 0) v.marks (λ j m there.
            ap (λ (b : Bool). cond b (g m) 0) (false_from_ne_true (m.stamp.who.cpu.0 == c) (λ yes_.
            differs ((cpu-of i j v m view there).1 ∙ ap (λ (n : ℕ). seat (record { 0 = n })) (eqb-true m.stamp.who.cpu.0 c yes_)))))

    all-views : sum_by (λ (v : View). sum_by g v.marks) last.views ≡ sum_below marks_by layout.cpus
    all-views =
        sum-same (λ (v : View). sum_by g v.marks) (λ (v : View). sum_below (λ c. sum_by (λ (m : Mark). cond (m.stamp.who.cpu.0 == c) (g m) 0) v.marks) layout.cpus) last.views
        (λ i v view. sum-split g (λ (m : Mark). m.stamp.who.cpu.0) v.marks layout.cpus (λ j m there. (cpu-of i j v m view there).0))
        ∙ sym (below-swap (λ (c : ℕ) (v : View). sum_by (λ (m : Mark). cond (m.stamp.who.cpu.0 == c) (g m) 0) v.marks) last.views layout.cpus)
        ∙ below-same (λ c. sum_by (λ (v : View). sum_by (λ (m : Mark). cond (m.stamp.who.cpu.0 == c) (g m) 0) v.marks) last.views) marks_by layout.cpus one-view

  module _ (frame : Frame) (w : ℕ) (word : slice_get (words_of layout last.words).frames frame.0 ≡ Some w) where
    -- of a place there is one line at most
    few : (p : ℕ) → count_by (λ (x : MarkLine). place_in x == p) (record_of frame notes) ≤ 1
    few p =
        let g : Mark → ℕ = is_at frame.0 p in
        let same : count_by (λ (x : MarkLine). place_in x == p) (record_of frame notes) ≡ sum_by (notes_on frame (λ (x : MarkLine). place_in x == p)) notes = gathered-same frame (λ (x : MarkLine). place_in x == p) notes in
        let lists : sum_by (notes_on frame (λ (x : MarkLine). place_in x == p)) notes ≡ sum_below (marks_by g) (length notes)
        = list-below (notes_on frame (λ (x : MarkLine). place_in x == p)) (marks_by g) notes (λ c own there. notes-marks frame p own (view_of last (seat (record { 0 = c }))).marks (are.noted c own there)) in
        let cpus : sum_below (marks_by g) (length notes) ≡ sum_below (marks_by g) layout.cpus = ap (sum_below (marks_by g)) are.fit in
        let views : sum_by (λ (v : View). sum_by g v.marks) last.views ≡ sum_below (marks_by g) layout.cpus = all-views g in
        let on : sum_all g (marks_on last) ≡ sum_by (λ (v : View). sum_by g v.marks) last.views = sum-map (sum_by g) (λ (v : View). v.marks) last.views in
        let one : sum_all g (marks_on last) ≤ 1 = one-at-most layout last holds frame.0 w p word in
        omega (arith, same, lists, cpus, views, on, one)

    -- what is gathered, by rising place, is a record
    pub gathered : (list : List MarkLine) → AreSorted (record_of frame notes) list → IsRecord notes frame list
    gathered list sorted = record { noted = sorted.moved; rising = rising }
      where
        rising : AllPairs (λ (a b : MarkLine). place_in a < place_in b) list
        rising i j d before within =
            let low : place_in (slice_index_or list i d) ≤ place_in (slice_index_or list j d) = sorted.rising i j d (omega (arith, before)) within in
            which (same-or (place_in (slice_index_or list i d)) (place_in (slice_index_or list j d))) low
          where
            which : (place_in (slice_index_or list i d) ≡ place_in (slice_index_or list j d)) ⊎ (place_in (slice_index_or list i d) ≢ place_in (slice_index_or list j d)) → place_in (slice_index_or list i d) ≤ place_in (slice_index_or list j d)
                → place_in (slice_index_or list i d) < place_in (slice_index_or list j d)
            which (inr other) low = omega (arith, other, low)
            which (inl same) low =
                let p : ℕ = place_in (slice_index_or list j d) in
                let f : MarkLine → ℕ = λ (x : MarkLine). cond (place_in x == p) 1 0 in
                let first : f (slice_index_or list i d) ≡ 1 = ap (λ (b : Bool). cond b 1 0) (eq-eqb (place_in (slice_index_or list i d)) p same) in
                let second : f (slice_index_or list j d) ≡ 1 = ap (λ (b : Bool). cond b 1 0) (eq-eqb p p refl) in
                let two : f (slice_index_or list i d) + f (slice_index_or list j d) ≤ sum_by f list = terms-le f list i j (slice_index_or list i d) (slice_index_or list j d) (λ e. let no_ : i ≡ j = e in omega (arith, before, no_))
                (slice_get-get_or list i d (omega (arith, before, within))) (slice_get-get_or list j d within) in
                let moved : sum_by f list ≡ sum_by f (record_of frame notes) = sum_by-IsPermutation f (record_of frame notes) list sorted.moved in
                let one : sum_by f (record_of frame notes) ≤ 1 = few p in
                absurd (omega (arith, first, second, two, moved, one))

-- the lines of a record that pass a test are as many as the notes that do
pub record-same : (notes : List (List Note)) (frame : Frame) (list : List MarkLine) (test : MarkLine → Bool) → IsRecord notes frame list → count_by test list ≡ sum_by (notes_on frame test) notes
record-same notes frame list test is = sum_by-IsPermutation (λ (x : MarkLine). cond (test x) 1 0) (record_of frame notes) list is.noted ∙ gathered-same frame test notes
