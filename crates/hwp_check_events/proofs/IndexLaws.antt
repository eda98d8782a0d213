-- The event lines of each command, line by line.
use Rattle.std.proofs.Common.{◌≡◌, ◌⊎◌, inl, inr, ℕ, zero, suc, ◌+◌, ◌<◌, ◌≤◌, Bool, cond, List, [], ◌∷◌, ◌++◌, Option, Some, None, get_or, length, replicate, slice_get, slice_index_or, take, refl, sym, ap, ◌∙◌, subst, arith}
use Rattle.std.proofs.lemmas.Bool.{cases_eq, eq-eqb, ne_eqb}
use Rattle.std.proofs.lemmas.List.{append_assoc, get_or-set_other, get_or-set_same, length-replicate, length-set, length-take-le, take_all, take_more}
use Rattle.std.proofs.lemmas.Option.{get_or_from_slice_get, none-some, same_Some, slice_get-get_or, slice_get_within}
use Rattle.hwp_law.specs.hwp_report_text.declared.CpuLine.{CpuLine}
use Rattle.hwp_check_event_line.specs.OfCommands.{AreShown, own_shown, shown_at, shown_from, with_shown}
use Rattle.hwp_check_event_line.specs.declared.Shown.{Shown}

append-none : (l : List Shown) → l ++ [] ≡ l
append-none [] = refl
append-none (x ∷ l) = ap (λ (r : List Shown). x ∷ r) (append-none l)

-- a line more at the end
from-more : (seq : ℕ) (xs : List CpuLine) (place : ℕ) (row : CpuLine) → shown_from seq place (xs ++ row ∷ []) ≡ shown_from seq place xs ++ own_shown seq (shown_at (place + length xs) row)
from-more seq [] place row = append-none (own_shown seq (shown_at place row)) ∙ ap (λ (p : ℕ). own_shown seq (shown_at p row)) (let e : place ≡ place + 0 = omega arith in e)
from-more seq (x ∷ xs) place row =
    ap (λ (l : List Shown). own_shown seq (shown_at place x) ++ l) (from-more seq xs (place + 1) row ∙ ap (λ (p : ℕ). shown_from seq (place + 1) xs ++ own_shown seq (shown_at p row)) (let e : place + 1 + length xs ≡ place + suc (length xs) = omega arith in e))
    ∙ sym (append_assoc (own_shown seq (shown_at place x)) (shown_from seq (place + 1) xs) (own_shown seq (shown_at (place + suc (length xs)) row)))

-- so many lines are in the lists
abbrev pub So : List CpuLine → ℕ → ℕ → List (List Shown) → Type 0
So rows count n lists = AreShown (take n rows) count lists

same-own : (seq : ℕ) (s : Shown) → seq ≡ s.line.seq → own_shown seq (Some s) ≡ s ∷ []
same-own seq s is = ap (λ (b : Bool). cond b (s ∷ []) []) (eq-eqb seq s.line.seq is)

other-own : (seq : ℕ) (s : Shown) → (seq ≡ s.line.seq → ⊥) → own_shown seq (Some s) ≡ []
other-own seq s is = ap (λ (b : Bool). cond b (s ∷ []) []) (ne_eqb seq s.line.seq is)

with-each : (o : Option Shown) (lists : List (List Shown)) (seq : ℕ) (list before : List Shown) → slice_get (with_shown o lists) seq ≡ Some list → ((l : List Shown) → slice_get lists seq ≡ Some l → l ≡ before) → list ≡ before ++ own_shown seq o
with-each None lists seq list before there each = each list there ∙ sym (append-none before)
with-each (Some s) lists seq list before there each = which (cases_eq seq s.line.seq)
  where
    within : seq < length lists
    within = subst (λ (n : ℕ). seq < n) (length-set lists s.line.seq (slice_index_or lists s.line.seq [] ++ s ∷ [])) (slice_get_within (with_shown (Some s) lists) seq list there)

    was : slice_get lists seq ≡ Some (get_or lists seq [])
    was = slice_get-get_or lists seq [] within

    which : (seq ≡ s.line.seq) ⊎ (seq ≡ s.line.seq → ⊥) → list ≡ before ++ own_shown seq (Some s)
    which (inl same) =
        sym (get_or_from_slice_get (with_shown (Some s) lists) seq list [] there)
        ∙ ap (λ (n : ℕ). get_or (with_shown (Some s) lists) n []) same
        ∙ get_or-set_same lists s.line.seq (slice_index_or lists s.line.seq [] ++ s ∷ []) [] (subst (λ (n : ℕ). n < length lists) same within)
        ∙ ap (λ (n : ℕ). get_or lists n [] ++ s ∷ []) (sym same) ∙ ap (λ (l : List Shown). l ++ s ∷ []) (each (get_or lists seq []) was) ∙ ap (λ (l : List Shown). before ++ l) (sym (same-own seq s same))
    which (inr other) =
        sym (get_or_from_slice_get (with_shown (Some s) lists) seq list [] there) ∙ get_or-set_other lists s.line.seq seq (slice_index_or lists s.line.seq [] ++ s ∷ []) [] other ∙ each (get_or lists seq []) was
        ∙ sym (append-none before) ∙ ap (λ (l : List Shown). before ++ l) (sym (other-own seq s other))

with-size : (o : Option Shown) (lists : List (List Shown)) → length (with_shown o lists) ≡ length lists
with-size None lists = refl
with-size (Some s) lists = length-set lists s.line.seq (slice_index_or lists s.line.seq [] ++ s ∷ [])

pub so-next : (rows : List CpuLine) (count n : ℕ) (lists next : List (List Shown)) (shown : Option Shown) (d : CpuLine) → n < length rows → shown ≡ shown_at n (get_or rows n d) → next ≡ with_shown shown lists → So rows count n lists → So rows count (n + 1) next
so-next rows count n lists next shown d within shown_is next_is so = record { size = ap length next_is ∙ with-size shown lists ∙ so.size; each = each }
  where
    before : take (n + 1) rows ≡ take n rows ++ get_or rows n d ∷ []
    before = take_more rows n d within

    length-before : length (take n rows) ≡ n
    length-before = length-take-le n rows (omega (arith, within))

    each : (seq : ℕ) (list : List Shown) → slice_get next seq ≡ Some list → list ≡ shown_from seq 0 (take (n + 1) rows)
    each seq list there =
        with-each shown lists seq list (shown_from seq 0 (take n rows)) (subst (λ (l : List (List Shown)). slice_get l seq ≡ Some list) next_is there) (λ l at. so.each seq l at)
        ∙ ap (λ (o : Option Shown). shown_from seq 0 (take n rows) ++ own_shown seq o) (shown_is ∙ ap (λ (p : ℕ). shown_at p (get_or rows n d)) (let l : length (take n rows) ≡ n = length-before in let e : n ≡ 0 + length (take n rows) = omega (arith, l) in e))
        ∙ sym (from-more seq (take n rows) 0 (get_or rows n d)) ∙ ap (shown_from seq 0) (sym before)

pub so-first : (rows : List CpuLine) (count : ℕ) (lists : List (List Shown)) → lists ≡ replicate count [] → So rows count 0 lists
so-first rows count lists is = record { size = ap length is ∙ length-replicate count []; each = each }
  where
    each : (seq : ℕ) (list : List Shown) → slice_get lists seq ≡ Some list → list ≡ shown_from seq 0 (take 0 rows)
    each seq list there = nothing count seq list (subst (λ (l : List (List Shown)). slice_get l seq ≡ Some list) is there) ∙ sym (ap (shown_from seq 0) (take-none rows))
      where
        take-none : (xs : List CpuLine) → take 0 xs ≡ []
        take-none [] = refl
        take-none (x ∷ xs) = refl

        nothing : (n k : ℕ) (l : List Shown) → slice_get (replicate n []) k ≡ Some l → l ≡ []
        nothing zero k l at = absurd (none-some l at)
        nothing (suc n) zero l at = sym (same_Some _ _ at)
        nothing (suc n) (suc k) l at = nothing n k l at

pub so-last : (rows : List CpuLine) (count n : ℕ) (lists : List (List Shown)) → length rows ≤ n → So rows count n lists → AreShown rows count lists
so-last rows count n lists all so = subst (λ (r : List CpuLine). AreShown r count lists) (take_all n rows all) so
