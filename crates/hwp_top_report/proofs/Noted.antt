-- The record gathered of a frame has the marks of the frame that the views list.
use Rattle.std.proofs.Common.{◌≡◌, ◌⊎◌, inl, inr, ℕ, zero, suc, ◌<◌, ◌==◌, Bool, List, [], ◌∷◌, ◌++◌, Some, filter, flat_map, slice_get, refl, sym, ap, ◌∙◌, subst}
use Rattle.std.proofs.lemmas.Bool.{eq-eqb, eqb-true}
use Rattle.std.specs.List.Sorted.{IsPermutation}
use Rattle.std.proofs.lemmas.List.Sorted.{IsPermutation-sym}
use Rattle.std.proofs.lemmas.Option.{none-some, same_Some, slice_get_within}
use Rattle.hwp_plain.specs.hwp_geom.declared.Cpu.{Cpu}
use Rattle.hwp_plain.specs.hwp_geom.declared.Frame.{Frame}
use Rattle.hwp_plain.specs.hwp_geom.declared.Layout.{Layout}
use Rattle.hwp_plain.specs.hwp_core_rule.declared.Mark.{Mark}
use Rattle.hwp_plain.specs.hwp_core_rule.declared.MarkKind.{MarkKind}
use Rattle.hwp_plain.specs.hwp_core_rule.declared.MarkKind.TheVariants as kinds
use Rattle.hwp_plain.specs.hwp_core_rule.declared.State.{State}
use Rattle.hwp_plain.specs.hwp_core_rule.declared.View.{View}
use Rattle.hwp_plain.specs.hwp_core_rule.Lists.{SomeMember}
use Rattle.hwp_plain.specs.hwp_core_rule.Rule.{Holds}
use Rattle.hwp_plain.proofs.of_hwp_core_rule.Lists.{at_longer, at_map, map-was}
use Rattle.hwp_plain.specs.hwp_core_rule.Boards.{AreSeated, view_of}
use Rattle.hwp_cpu_row.specs.hwp_report_text.declared.How.{How}
use Rattle.hwp_cpu_row.specs.hwp_report_text.declared.How.TheVariants as hows
use Rattle.hwp_cpu_row.specs.hwp_report_text.declared.MarkLine.{MarkLine}
use Rattle.hwp_law_served.specs.Ends.{AreMarks, IsListed, Tells, cause_of}
use Rattle.hwp_law_served.proofs.Homes.{there-is}
use Rattle.hwp_law_served.specs.Accounts.{IsHow, IsLineOf, IsNote}
use Rattle.hwp_law_served.specs.Rows.{Note, lines_of, record_of}
use Rattle.hwp_law_served.proofs.RunEnds.{filter-has}
use Rattle.hwp_law_served.proofs.PoisonMarks.{paired, partner}
use Rattle.hwp_law_served.proofs.lines.FrameRecords.{AreNoted}
use Rattle.hwp_law_served.proofs.marks.OrderedLists.{moved-has}
use Rattle.hwp_law_served.proofs.Seats.{seat-place}
use Rattle.hwp_law_served.proofs.Seen.{filter-is}

-- ---- a member of lists put together is one of some list

either : {A : Type 0} (xs ys : List A) (i : ℕ) (y : A) → slice_get (xs ++ ys) i ≡ Some y → SomeMember (λ (z : A). z ≡ y) xs ⊎ SomeMember (λ (z : A). z ≡ y) ys
either [] ys i y there = inr (i, y, there, refl)
either (x ∷ xs) ys zero y there = inl (zero, x, refl, same_Some x y there)
either {A} (x ∷ xs) ys (suc i) y there = later (either xs ys i y there)
  where
    later : SomeMember (λ (z : A). z ≡ y) xs ⊎ SomeMember (λ (z : A). z ≡ y) ys → SomeMember (λ (z : A). z ≡ y) (x ∷ xs) ⊎ SomeMember (λ (z : A). z ≡ y) ys
    later (inl some) = inl (suc some.0, some.1, some.2, some.3)
    later (inr some) = inr some

flat-was : {A B : Type 0} (f : A → List B) (l : List A) (i : ℕ) (y : B) → slice_get (flat_map f l) i ≡ Some y → SomeMember (λ (a : A). SomeMember (λ (z : B). z ≡ y) (f a)) l
flat-was f [] i y there = absurd (none-some y there)
flat-was {A} {B} f (a ∷ l) i y there = which (either (f a) (flat_map f l) i y there) (λ k at. flat-was f l k y at)
  where
    which : SomeMember (λ (z : B). z ≡ y) (f a) ⊎ SomeMember (λ (z : B). z ≡ y) (flat_map f l) → ((k : ℕ) → slice_get (flat_map f l) k ≡ Some y → SomeMember (λ (b : A). SomeMember (λ (z : B). z ≡ y) (f b)) l)
        → SomeMember (λ (b : A). SomeMember (λ (z : B). z ≡ y) (f b)) (a ∷ l)
    which (inl some) rest = (zero, a, refl, some)
    which (inr some) rest = let found = rest some.0 (some.2 ∙ ap (λ z. Some z) some.3) in (suc found.0, found.1, found.2, found.3)

behind : {A : Type 0} (xs ys : List A) (i : ℕ) (y : A) → slice_get ys i ≡ Some y → (n : ℕ) × (slice_get (xs ++ ys) n ≡ Some y)
behind [] ys i y there = (i, there)
behind (x ∷ xs) ys i y there = let rest = behind xs ys i y there in (suc rest.0, rest.1)

flat-has : {A B : Type 0} (f : A → List B) (l : List A) (j k : ℕ) (a : A) (y : B) → slice_get l j ≡ Some a → slice_get (f a) k ≡ Some y → (n : ℕ) × (slice_get (flat_map f l) n ≡ Some y)
flat-has f [] j k a y at there = absurd (none-some a at)
flat-has f (x ∷ l) zero k a y at there = (k, at_longer (f x) (flat_map f l) k y (ap (λ b. slice_get (f b) k) (same_Some x a at) ∙ there))
flat-has f (x ∷ l) (suc j) k a y at there = let rest = flat-has f l j k a y at there in behind (f x) (flat_map f l) rest.0 y rest.1

-- a poisoning is by the hardware as its record says
caused-so : (hardware : Bool) (how : How) → IsHow hardware how → hardware ≡ cause_of how
caused-so hardware (hows.Failure reported situation outcome) is = sym is.0
caused-so hardware hows.Moved is = is
caused-so hardware hows.TakenFree is = is

module _ (layout : Layout) (seat : Cpu → ℕ) (last : State) (holds : Holds layout last) (seated : AreSeated layout last seat) (notes : List (List Note)) (are : AreNoted layout seat last notes) (frame : Frame) where
  -- a note of the frame tells its mark
  tells : (note : Note) (m : Mark) → IsNote note m → m.frame ≡ frame → Tells frame note.1 m
  tells note m is of = which is.kind is.kind_is is.line
    where
      which : (kind : MarkKind) → m.kind ≡ kind → IsLineOf kind m note.1 → Tells frame note.1 m
      which (kinds.Poisoned hardware) kind_is (how, is_how, line) = subst (λ (x : MarkLine). Tells frame x m) (sym line) (of, refl, refl, kind_is ∙ ap kinds.Poisoned (caused-so hardware how is_how))
      which kinds.Revived kind_is line = subst (λ (x : MarkLine). Tells frame x m) (sym line) (of, refl, refl, kind_is)

  told : (place : ℕ) (line : MarkLine) → slice_get (record_of frame notes) place ≡ Some line → (mark : Mark) × IsListed last.views mark × Tells frame line mark
  told place line there =
      let some = flat-was (lines_of frame) notes place line there in
      let cpu : Cpu = record { 0 = some.0 } in
      let view : View = view_of last (seat cpu) in
      let inside : cpu.0 < layout.cpus = subst (λ (n : ℕ). some.0 < n) are.fit (slice_get_within notes some.0 some.1 some.2) in
      let was = map-was (λ (n : Note). n.1) (filter (λ (n : Note). n.0.0 == frame.0) some.1) some.3.0 some.3.1 some.3.2 in
      let note : Note = was.0 in
      let kept = filter-is (λ (n : Note). n.0.0 == frame.0) some.1 some.3.0 note was.1 in
      let by = partner IsNote some.1 view.marks kept.0 note (are.noted some.0 some.1 some.2) kept.1 in
      let mark : Mark = by.0 in
      let number : note.0.0 ≡ frame.0 = eqb-true note.0.0 frame.0 kept.2 in
      let of : mark.frame ≡ frame = sym by.2.frame ∙ (λ i. record { 0 = number i }) in
      let told_so : Tells frame note.1 mark = tells note mark by.2 of in
      (mark, (seat cpu, view.marks, at_map (λ (v : View). v.marks) last.views (seat cpu) view (seated.there cpu inside), (kept.0, mark, by.1, refl)), subst (λ (x : MarkLine). Tells frame x mark) (was.2 ∙ some.3.3) told_so)

  listed : (mark : Mark) → IsListed last.views mark → mark.frame ≡ frame → SomeMember (λ (line : MarkLine). Tells frame line mark) (record_of frame notes)
  listed mark (i, l, at, (j, m, there, same)) of =
      let was = map-was (λ (v : View). v.marks) last.views i l at in
      let v : View = was.0 in
      let own : slice_get v.marks j ≡ Some mark = ap (λ (x : List Mark). slice_get x j) was.2 ∙ there ∙ ap (λ (x : Mark). Some x) same in
      let cpu : Cpu = mark.stamp.who.cpu in
      let place = seat-place layout seat last holds seated i v mark.stamp.who was.1 ((holds.rule.processors.commands.own i v was.1).marks j mark own) in
      let view : View = view_of last (seat cpu) in
      let is_view : v ≡ view = same_Some v view (sym was.1 ∙ ap (slice_get last.views) place.1 ∙ seated.there cpu place.0) in
      let in_view : slice_get view.marks j ≡ Some mark = sym (ap (λ (x : View). slice_get x.marks j) is_view) ∙ own in
      let list = there-is notes cpu.0 (subst (λ (n : ℕ). cpu.0 < n) (sym are.fit) place.0) in
      let by = paired IsNote list.0 view.marks j mark (are.noted cpu.0 list.0 list.1) in_view in
      let note : Note = by.0 in
      let number : note.0.0 ≡ frame.0 = ap (λ (f : Frame). f.0) (by.2.frame ∙ of) in
      let kept = filter-has (λ (n : Note). n.0.0 == frame.0) list.0 j note by.1 (eq-eqb note.0.0 frame.0 number) in
      let line = at_map (λ (n : Note). n.1) (filter (λ (n : Note). n.0.0 == frame.0) list.0) kept.0 note kept.1 in
      let all = flat-has (lines_of frame) notes cpu.0 kept.0 list.0 note.1 list.1 line in
      (all.0, note.1, all.1, tells note mark by.2 of)

  pub are-marks : AreMarks last.views frame (record_of frame notes)
  are-marks = record { told = told; listed = listed }

-- the marks that a list tells, in another order
pub marks-moved : (views : List View) (frame : Frame) (lines list : List MarkLine) → IsPermutation lines list → AreMarks views frame lines → AreMarks views frame list
marks-moved views frame lines list moved are = record { told = told-moved; listed = listed-moved }
  where
    told-moved : (place : ℕ) (line : MarkLine) → slice_get list place ≡ Some line → (mark : Mark) × IsListed views mark × Tells frame line mark
    told-moved place line there = (let was = moved-has list lines (IsPermutation-sym lines list moved) place line there in
        are.told was.0 line (was.2 ∙ ap (λ (x : MarkLine). Some x) was.3))

    listed-moved : (mark : Mark) → IsListed views mark → mark.frame ≡ frame → SomeMember (λ (line : MarkLine). Tells frame line mark) list
    listed-moved mark listed of =
        let was = are.listed mark listed of in
        let now = moved-has lines list moved was.0 was.1 was.2 in
        (now.0, was.1, now.2 ∙ ap (λ (x : MarkLine). Some x) now.3, was.3)
