-- What is kept of a record, as loops over its marks make it, a mark at a time.
use Rattle.std.proofs.Common.{◌≡◌, ◌⊎◌, inl, inr, ℕ, zero, suc, ◌+◌, ◌-◌, ◌<◌, ◌≤◌, Bool, true, false, not, cond, max, min, List, [], ◌∷◌, ◌++◌, drop, get_or, length, set, refl, sym, ap, ◌∙◌, append_assoc, append-nil, arith}
use Rattle.std.proofs.lemmas.List.{drop-set, drop_all, drop_more, length-set}
use Rattle.hwp_law.specs.hwp_geom.declared.Cpu.{Cpu}
use Rattle.hwp_law.specs.hwp_report_text.declared.MarkLine.{MarkLine}
use Rattle.hwp_law.specs.Records.{is_poisoning}
use Rattle.hwp_check_event_line.specs.Nears.{highs, lowest, lows, run, runs, says, seq_by, top}
use Rattle.hwp_check_event_line.proofs.RunLaws.{says-is, unsaid-is}

-- the highest so far
pub highs-next : (cpu : Cpu) (marks : List MarkLine) (i high s high' : ℕ) (d : MarkLine) (old new whole : List ℕ) → i < length marks → s ≡ seq_by cpu 0 (get_or marks i d) → high' ≡ max high s → new ≡ old ++ high' ∷ []
    → old ++ highs cpu high (drop i marks) ≡ whole → new ++ highs cpu high' (drop (i + 1) marks) ≡ whole
highs-next cpu marks i high s high' d old new whole within seq_is high_is grows was =
    let own : high' ≡ max high (seq_by cpu 0 (get_or marks i d)) = high_is ∙ ap (λ (n : ℕ). max high n) seq_is in
    ap (λ (l : List ℕ). l ++ highs cpu high' (drop (i + 1) marks)) grows
    ∙ append_assoc old (high' ∷ []) (highs cpu high' (drop (i + 1) marks))
    ∙ ap (λ (n : ℕ). old ++ n ∷ highs cpu n (drop (i + 1) marks)) own
    ∙ sym (ap (λ (l : List MarkLine). old ++ highs cpu high l) (drop_more marks i d within))
    ∙ was

pub highs-all : (cpu : Cpu) (marks : List MarkLine) (i high : ℕ) (list whole : List ℕ) → length marks ≤ i → list ++ highs cpu high (drop i marks) ≡ whole → list ≡ whole
highs-all cpu marks i high list whole past was = sym (append-nil list) ∙ sym (ap (λ (l : List MarkLine). list ++ highs cpu high l) (drop_all i marks past)) ∙ was

-- from the last mark to the first: a place is set, and what is behind it stays
place-set : (list : List ℕ) (p n : ℕ) → 0 < p → p ≤ length list → drop (p - 1) (set list (p - 1) n) ≡ n ∷ drop p list
place-set list p n some within = let next : p - 1 + 1 ≡ p = omega (arith, some) in drop-set list (p - 1) n (omega (arith, some, within)) ∙ ap (λ (k : ℕ). n ∷ drop k list) next

marks-front : (marks : List MarkLine) (p : ℕ) (d : MarkLine) → 0 < p → p ≤ length marks → drop (p - 1) marks ≡ get_or marks (p - 1) d ∷ drop p marks
marks-front marks p d some within = let next : p - 1 + 1 ≡ p = omega (arith, some) in drop_more marks (p - 1) d (omega (arith, some, within)) ∙ ap (λ (k : ℕ). get_or marks (p - 1) d ∷ drop k marks) next

module _ {X : Type 0} where
  all-of : (xs : List X) → drop 0 xs ≡ xs
  all-of [] = refl
  all-of (x ∷ xs) = refl

  pub from-first : (F : List X → List ℕ) (xs : List X) (list : List ℕ) (p : ℕ) → p ≤ 0 → drop p list ≡ F (drop p xs) → list ≡ F xs
  from-first F xs list zero none is = sym (nat-all list) ∙ is ∙ ap F (all-of xs)
    where
      nat-all : (l : List ℕ) → drop 0 l ≡ l
      nat-all [] = refl
      nat-all (n ∷ l) = refl
  from-first F xs list (suc p) none is = absurd (omega (arith, none))

pub lows-first : (cpu : Cpu) (marks : List MarkLine) (list : List ℕ) → length list ≡ length marks
    → (length list ≡ length marks) × (4294967295 ≡ lowest cpu (drop (length marks) marks)) × (drop (length marks) list ≡ lows cpu (drop (length marks) marks))
lows-first cpu marks list long = (
  long,
  ap (lowest cpu) (sym (drop_all (length marks) marks (omega arith))),
  drop_all (length marks) list (omega (arith, long)) ∙ ap (lows cpu) (sym (drop_all (length marks) marks (omega arith))),
)

pub lows-next : (cpu : Cpu) (marks : List MarkLine) (p low s low' : ℕ) (d : MarkLine) (list : List ℕ) → 0 < p → p ≤ length marks → length list ≡ length marks → low ≡ lowest cpu (drop p marks) → drop p list ≡ lows cpu (drop p marks)
    → s ≡ seq_by cpu top (get_or marks (p - 1) d) → low' ≡ min s low
    → (length (set list (p - 1) low') ≡ length marks) × (low' ≡ lowest cpu (drop (p - 1) marks)) × (drop (p - 1) (set list (p - 1) low') ≡ lows cpu (drop (p - 1) marks))
lows-next cpu marks p low s low' d list some within long low_is are seq_is next_is =
    let front = marks-front marks p d some within in
    let own : low' ≡ lowest cpu (get_or marks (p - 1) d ∷ drop p marks) = next_is ∙ ap (λ (n : ℕ). min n low) seq_is ∙ ap (λ (n : ℕ). min (seq_by cpu top (get_or marks (p - 1) d)) n) low_is in (
      length-set list (p - 1) low' ∙ long,
      own ∙ sym (ap (lowest cpu) front),
      place-set list p low' some (omega (arith, within, long)) ∙ ap (λ (n : ℕ). n ∷ drop p list) own ∙ ap (λ (l : List ℕ). lowest cpu (get_or marks (p - 1) d ∷ drop p marks) ∷ l) are ∙ sym (ap (lows cpu) front),
    )

says-self : (m : MarkLine) → says (is_poisoning m) m ≡ true
says-self m = which (is_poisoning m) refl
  where
    which : (b : Bool) → is_poisoning m ≡ b → says b m ≡ true
    which true is = is
    which false is = ap not is

unsaid-other : (m : MarkLine) → says (not (is_poisoning m)) m ≡ false
unsaid-other m = which (is_poisoning m) refl
  where
    which : (b : Bool) → is_poisoning m ≡ b → says (not b) m ≡ false
    which true is = ap not is
    which false is = is

run-self : (m : MarkLine) (ms : List MarkLine) → run (is_poisoning m) (m ∷ ms) ≡ run (is_poisoning m) ms + 1
run-self m ms = ap (λ (b : Bool). cond b (run (is_poisoning m) ms + 1) 0) (says-self m)

run-other : (m : MarkLine) (ms : List MarkLine) → run (not (is_poisoning m)) (m ∷ ms) ≡ 0
run-other m ms = ap (λ (b : Bool). cond b (run (not (is_poisoning m)) ms + 1) 0) (unsaid-other m)

-- the run with one mark more: it grows where the mark says what is said behind it, and else begins anew
run-next : (m : MarkLine) (ms : List MarkLine) (last said : Bool) (old new : ℕ) → said ≡ says last m → old ≡ run last ms → run (not last) ms ≡ 0 → (said ≡ true) × (new ≡ old + 1) ⊎ (said ≡ false) × (new ≡ 1) → new ≡ run (is_poisoning m) (m ∷ ms)
run-next m ms last said old new is old_is none (inl (same, more)) =
    more ∙ ap (λ (n : ℕ). n + 1) (old_is ∙ ap (λ (b : Bool). run b ms) (sym (says-is last m (sym is ∙ same)))) ∙ sym (run-self m ms)
run-next m ms last said old new is old_is none (inr (other, one)) =
    one ∙ ap (λ (n : ℕ). n + 1) (sym none ∙ ap (λ (b : Bool). run b ms) (sym (unsaid-is last m (sym is ∙ other)))) ∙ sym (run-self m ms)

pub runs-first : (marks : List MarkLine) (list : List ℕ) → length list ≡ length marks
    → (length list ≡ length marks) × (0 ≡ run false (drop (length marks) marks)) × (run true (drop (length marks) marks) ≡ 0) × (0 + length marks ≤ length marks) × (drop (length marks) list ≡ runs (drop (length marks) marks))
runs-first marks list long =
    let none : drop (length marks) marks ≡ [] = drop_all (length marks) marks (omega arith) in
    (long, ap (run false) (sym none), ap (run true) none, omega arith, drop_all (length marks) list (omega (arith, long)) ∙ ap runs (sym none))

pub runs-next : (marks : List MarkLine) (p old new : ℕ) (last said last' : Bool) (d : MarkLine) (list : List ℕ) → 0 < p → p ≤ length marks → length list ≡ length marks → old ≡ run last (drop p marks) → run (not last) (drop p marks) ≡ 0 → old + p ≤ length marks
    → drop p list ≡ runs (drop p marks) → said ≡ says last (get_or marks (p - 1) d) → last' ≡ is_poisoning (get_or marks (p - 1) d) → (said ≡ true) × (new ≡ old + 1) ⊎ (said ≡ false) × (new ≡ 1)
    → (length (set list (p - 1) new) ≡ length marks) × (new ≡ run last' (drop (p - 1) marks)) × (run (not last') (drop (p - 1) marks) ≡ 0) × (new + (p - 1) ≤ length marks) × (drop (p - 1) (set list (p - 1) new) ≡ runs (drop (p - 1) marks))
runs-next marks p old new last said last' d list some within long old_is none room are said_is last_is which =
    let front = marks-front marks p d some within in
    let own : new ≡ run (is_poisoning (get_or marks (p - 1) d)) (get_or marks (p - 1) d ∷ drop p marks) = run-next (get_or marks (p - 1) d) (drop p marks) last said old new said_is old_is none which in
    let small : new + (p - 1) ≤ length marks = elim which [
      | inl grown ↦ omega (arith, some, room, grown.1)
      | inr anew ↦ omega (arith, some, within, anew.1)
    ] in (
      length-set list (p - 1) new ∙ long,
      own ∙ ap (λ (b : Bool). run b (get_or marks (p - 1) d ∷ drop p marks)) (sym last_is) ∙ sym (ap (run last') front),
      ap (run (not last')) front ∙ ap (λ (b : Bool). run (not b) (get_or marks (p - 1) d ∷ drop p marks)) last_is ∙ run-other (get_or marks (p - 1) d) (drop p marks),
      small,
      place-set list p new some (omega (arith, within, long)) ∙ ap (λ (n : ℕ). n ∷ drop p list) own ∙ ap (λ (l : List ℕ). run (is_poisoning (get_or marks (p - 1) d)) (get_or marks (p - 1) d ∷ drop p marks) ∷ l) are ∙ sym (ap runs front),
    )
