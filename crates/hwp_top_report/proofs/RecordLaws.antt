-- The records of frames, note by note and processor by processor.
use Rattle.std.proofs.Common.{◌≡◌, ◌⊎◌, inl, inr, ℕ, zero, suc, ◌+◌, ◌<◌, ◌≤◌, ◌==◌, Bool, cond, List, [], ◌∷◌, ◌++◌, Some, filter, get_or, length, map, replicate, slice_get, slice_index_or, take, refl, sym, ap, ◌∙◌, subst}
use Rattle.std.proofs.lemmas.Bool.{cases_eq, eq-eqb, ne_eqb}
use Rattle.std.proofs.lemmas.List.{append_assoc, get_or-set_other, get_or-set_same, length-replicate, length-set, map-append, take_all, take_more}
use Rattle.std.proofs.lemmas.List.Concat.{flat_map-append}
use Rattle.std.proofs.lemmas.List.Elements.{filter-append}
use Rattle.std.proofs.lemmas.Option.{get_or_from_slice_get, none-some, same_Some, slice_get-get_or, slice_get_within}
use Rattle.hwp_plain.specs.hwp_geom.declared.Frame.{Frame}
use Rattle.hwp_cpu_row.specs.hwp_report_text.declared.MarkLine.{MarkLine}
use Rattle.hwp_law_served.specs.Rows.{Note, lines_of, record_of}
use Rattle.hwp_top_report.specs.Records.{AreGathered, GoOn, with_note}

append-none : {A : Type 0} (l : List A) → l ++ [] ≡ l
append-none [] = refl
append-none {A} (x ∷ l) = ap (λ (r : List A). x ∷ r) (append-none l)

take-none : {A : Type 0} (xs : List A) → take 0 xs ≡ []
take-none [] = refl
take-none (x ∷ xs) = refl

-- ---- a note more

lines-more : (frame : Frame) (xs : List Note) (n : Note) → lines_of frame (xs ++ n ∷ []) ≡ lines_of frame xs ++ lines_of frame (n ∷ [])
lines-more frame xs n =
    ap (map (λ (x : Note). x.1)) (filter-append (λ (x : Note). x.0.0 == frame.0) xs (n ∷ []))
    ∙ map-append (λ (x : Note). x.1) (filter (λ (x : Note). x.0.0 == frame.0) xs) (filter (λ (x : Note). x.0.0 == frame.0) (n ∷ []))

one-of : (frame : Frame) (n : Note) → frame.0 ≡ n.0.0 → lines_of frame (n ∷ []) ≡ n.1 ∷ []
one-of frame n same = ap (λ (b : Bool). map (λ (x : Note). x.1) (cond b (n ∷ []) [])) (eq-eqb n.0.0 frame.0 (sym same))

none-of : (frame : Frame) (n : Note) → (frame.0 ≡ n.0.0 → ⊥) → lines_of frame (n ∷ []) ≡ []
none-of frame n other = ap (λ (b : Bool). map (λ (x : Note). x.1) (cond b (n ∷ []) [])) (ne_eqb n.0.0 frame.0 (λ same. other (sym same)))

with-each : (note : Note) (records : List (List MarkLine)) (frame : Frame) (now before : List MarkLine) → slice_get (with_note note records) frame.0 ≡ Some now
    → ((l : List MarkLine) → slice_get records frame.0 ≡ Some l → l ≡ before) → now ≡ before ++ lines_of frame (note ∷ [])
with-each note records frame now before there each = which (cases_eq frame.0 note.0.0)
  where
    within : frame.0 < length records
    within = subst (λ (n : ℕ). frame.0 < n) (length-set records note.0.0 (slice_index_or records note.0.0 [] ++ note.1 ∷ [])) (slice_get_within (with_note note records) frame.0 now there)

    was : slice_get records frame.0 ≡ Some (get_or records frame.0 [])
    was = slice_get-get_or records frame.0 [] within

    which : (frame.0 ≡ note.0.0) ⊎ (frame.0 ≡ note.0.0 → ⊥) → now ≡ before ++ lines_of frame (note ∷ [])
    which (inl same) =
        sym (get_or_from_slice_get (with_note note records) frame.0 now [] there)
        ∙ ap (λ (n : ℕ). get_or (with_note note records) n []) same
        ∙ get_or-set_same records note.0.0 (slice_index_or records note.0.0 [] ++ note.1 ∷ []) [] (subst (λ (n : ℕ). n < length records) same within)
        ∙ ap (λ (n : ℕ). get_or records n [] ++ note.1 ∷ []) (sym same) ∙ ap (λ (l : List MarkLine). l ++ note.1 ∷ []) (each (get_or records frame.0 []) was) ∙ ap (λ (l : List MarkLine). before ++ l) (sym (one-of frame note same))
    which (inr other) =
        sym (get_or_from_slice_get (with_note note records) frame.0 now [] there) ∙ get_or-set_other records note.0.0 frame.0 (slice_index_or records note.0.0 [] ++ note.1 ∷ []) [] other ∙ each (get_or records frame.0 []) was
        ∙ sym (append-none before) ∙ ap (λ (l : List MarkLine). before ++ l) (sym (none-of frame note other))

-- ---- the notes of a processor

pub on-first : (own : List Note) (records : List (List MarkLine)) → GoOn (take 0 own) records records
on-first own records = record {
  size = refl;
  each = λ frame was now before after. same_Some now was (sym after ∙ before) ∙ sym (append-none was) ∙ ap (λ (l : List Note). was ++ lines_of frame l) (sym (take-none own));
}

pub on-next : (own : List Note) (n : ℕ) (old records next : List (List MarkLine)) (d : Note) → n < length own → next ≡ with_note (get_or own n d) records → GoOn (take n own) old records → GoOn (take (n + 1) own) old next
on-next own n old records next d within next_is on = record { size = ap length next_is ∙ length-set records note.0.0 (slice_index_or records note.0.0 [] ++ note.1 ∷ []) ∙ on.size; each = each }
  where
    note : Note
    note = get_or own n d

    before : take (n + 1) own ≡ take n own ++ note ∷ []
    before = take_more own n d within

    each : (frame : Frame) (was now : List MarkLine) → slice_get old frame.0 ≡ Some was → slice_get next frame.0 ≡ Some now → now ≡ was ++ lines_of frame (take (n + 1) own)
    each frame was now first after =
        with-each note records frame now (was ++ lines_of frame (take n own)) (subst (λ (l : List (List MarkLine)). slice_get l frame.0 ≡ Some now) next_is after) (λ l at. on.each frame was l first at)
        ∙ append_assoc was (lines_of frame (take n own)) (lines_of frame (note ∷ []))
        ∙ ap (λ (l : List MarkLine). was ++ l) (sym (lines-more frame (take n own) note) ∙ ap (lines_of frame) (sym before))

pub on-last : (own : List Note) (n : ℕ) (old records : List (List MarkLine)) → length own ≤ n → GoOn (take n own) old records → GoOn own old records
on-last own n old records all on = subst (λ (l : List Note). GoOn l old records) (take_all n own all) on

-- ---- the notes of all processors

record-more : (frame : Frame) (notes : List (List Note)) (own : List Note) → record_of frame (notes ++ own ∷ []) ≡ record_of frame notes ++ lines_of frame own
record-more frame notes own = flat_map-append (lines_of frame) notes (own ∷ []) ∙ ap (λ (l : List MarkLine). record_of frame notes ++ l) (append-none (lines_of frame own))

pub gathered-first : (notes : List (List Note)) (count : ℕ) (records : List (List MarkLine)) → records ≡ replicate count [] → AreGathered (take 0 notes) count records
gathered-first notes count records is = record { size = ap length is ∙ length-replicate count []; each = each }
  where
    nothing : (n k : ℕ) (l : List MarkLine) → slice_get (replicate n []) k ≡ Some l → l ≡ []
    nothing zero k l at = absurd (none-some l at)
    nothing (suc n) zero l at = sym (same_Some _ _ at)
    nothing (suc n) (suc k) l at = nothing n k l at

    each : (frame : Frame) (list : List MarkLine) → slice_get records frame.0 ≡ Some list → list ≡ record_of frame (take 0 notes)
    each frame list there = nothing count frame.0 list (subst (λ (l : List (List MarkLine)). slice_get l frame.0 ≡ Some list) is there) ∙ sym (ap (record_of frame) (take-none notes))

pub gathered-next : (notes : List (List Note)) (count n : ℕ) (records next : List (List MarkLine)) (own d : List Note) → n < length notes → own ≡ get_or notes n d → GoOn own records next → AreGathered (take n notes) count records → AreGathered (take (n + 1) notes) count next
gathered-next notes count n records next own d within own_is on are = record { size = on.size ∙ are.size; each = each }
  where
    each : (frame : Frame) (list : List MarkLine) → slice_get next frame.0 ≡ Some list → list ≡ record_of frame (take (n + 1) notes)
    each frame list there =
        let inside : frame.0 < length records = subst (λ (k : ℕ). frame.0 < k) on.size (slice_get_within next frame.0 list there) in
        let was : slice_get records frame.0 ≡ Some (get_or records frame.0 []) = slice_get-get_or records frame.0 [] inside in
        on.each frame (get_or records frame.0 []) list was there
        ∙ ap (λ (l : List MarkLine). l ++ lines_of frame own) (are.each frame (get_or records frame.0 []) was)
        ∙ sym (record-more frame (take n notes) own)
        ∙ ap (record_of frame) (ap (λ (o : List Note). take n notes ++ o ∷ []) own_is ∙ sym (take_more notes n d within))

pub gathered-last : (notes : List (List Note)) (count n : ℕ) (records : List (List MarkLine)) → length notes ≤ n → AreGathered (take n notes) count records → AreGathered notes count records
gathered-last notes count n records all are = subst (λ (l : List (List Note)). AreGathered l count records) (take_all n notes all) are
