-- The command at whose end a bank's event had poisoned a frame tells whether one had.
use Rattle.std.proofs.Common.{◌≡◌, ◌⊎◌, inl, inr, ℕ, zero, suc, ◌+◌, ◌<◌, ◌≤◌, ◌==◌, min, cond, Bool, true, false, List, [], ◌∷◌, fold, length, Any, refl, sym, ap, ◌∙◌, subst, true≢false, arith}
use Rattle.std.proofs.lemmas.Bool.{cases_lt, eq-eqb, eqb-true}
use Rattle.hwp_law.specs.hwp_geom.declared.Cpu.{Cpu}
use Rattle.hwp_law.specs.hwp_geom.declared.Who.{Who}
use Rattle.hwp_law.specs.hwp_page.Orders.{IsNotLater}
use Rattle.hwp_law.specs.hwp_report_text.declared.FrameLine.{FrameLine}
use Rattle.hwp_law.specs.hwp_report_text.declared.MarkLine.{MarkLine}
use Rattle.hwp_law.specs.hwp_report_text.declared.Report.{Report}
use Rattle.hwp_law.specs.Causes.{WasHardwareSeen}
use Rattle.hwp_law.specs.Records.{is_by_hardware, who_in}
use Rattle.hwp_check_evidence.specs.Marked.{no_command, reported, reported_at, reported_by, reported_in}

any-head : {X : Type 0} (P : X → Type 0) (x : X) (xs : List X) → P x → Any P (x ∷ xs)
any-head P x xs p = (0, x, omega arith, refl, p)

any-tail : {X : Type 0} (P : X → Type 0) (x : X) (xs : List X) → Any P xs → Any P (x ∷ xs)
any-tail P x xs a = (suc a.0, a.1, (let l : a.0 < length xs = a.2 in omega (arith, l)), a.3, a.4)

any-cases : {X : Type 0} (P : X → Type 0) (x : X) (xs : List X) → Any P (x ∷ xs) → (P x) ⊎ Any P xs
any-cases P x xs (zero, y, low, is, p) = inl (subst P (sym is) p)
any-cases P x xs (suc k, y, low, is, p) = inr (k, y, omega (arith, low), is, p)

no-any : {X : Type 0} (P : X → Type 0) → Any P [] → ⊥
no-any P (k, y, low, is, p) = absurd (omega (arith, low))

module _ (who : Who) where
  -- a bank's event caused the mark, by no later command
  abbrev IsEvent : MarkLine → Type 0
  IsEvent m = (is_by_hardware m ≡ true) × IsNotLater (who_in m) who

  abbrev HasEvent : FrameLine → Type 0
  HasEvent line = Any IsEvent line.marks

  same-cpu : (a b : Cpu) → a.0 ≡ b.0 → a ≡ b
  same-cpu a b is = λ i. record { 0 = is i }

  at-low : (m : MarkLine) → reported_at who.cpu m < who.seq + 1 → IsNotLater (who_in m) who
  at-low m low same =
      let own : ((who_in m).cpu.0 == who.cpu.0) ≡ true = eq-eqb (who_in m).cpu.0 who.cpu.0 (ap (λ (c : Cpu). c.0) same) in
      let less : (who_in m).seq < who.seq + 1 = subst (λ (b : Bool). cond b (who_in m).seq 0 < who.seq + 1) own low in
      omega (arith, less)

  low-at : (m : MarkLine) → IsNotLater (who_in m) who → reported_at who.cpu m < who.seq + 1
  low-at m not_later = which ((who_in m).cpu.0 == who.cpu.0) refl
    where
      which : (b : Bool) → ((who_in m).cpu.0 == who.cpu.0) ≡ b → cond b (who_in m).seq 0 < who.seq + 1
      which true own = let low : (who_in m).seq ≤ who.seq = not_later (same-cpu (who_in m).cpu who.cpu (eqb-true (who_in m).cpu.0 who.cpu.0 own)) in omega (arith, low)
      which false other = omega arith

  by-low : (n : ℕ) (m : MarkLine) → reported_by who.cpu n m < who.seq + 1 → (n < who.seq + 1) ⊎ IsEvent m
  by-low n m low = which (is_by_hardware m) refl low
    where
      which : (b : Bool) → is_by_hardware m ≡ b → cond b (min n (reported_at who.cpu m)) n < who.seq + 1 → (n < who.seq + 1) ⊎ IsEvent m
      which true is l = elim (cases_lt (reported_at who.cpu m) (who.seq + 1)) [
        | inl new ↦ inr (is, at-low m new)
        | inr old ↦ inl (omega (arith, l, old))
      ]
      which false is l = inl l

  low-by : (n : ℕ) (m : MarkLine) → (n < who.seq + 1) ⊎ IsEvent m → reported_by who.cpu n m < who.seq + 1
  low-by n m some = which (is_by_hardware m) refl some
    where
      which : (b : Bool) → is_by_hardware m ≡ b → (n < who.seq + 1) ⊎ IsEvent m → cond b (min n (reported_at who.cpu m)) n < who.seq + 1
      which true is (inl old) = omega (arith, old)
      which true is (inr new) = let low : reported_at who.cpu m < who.seq + 1 = low-at m new.1 in omega (arith, low)
      which false is (inl old) = old
      which false is (inr new) = absurd (true≢false (sym new.0 ∙ is))

  marks-low : (n : ℕ) (list : List MarkLine) → fold (reported_by who.cpu) n list < who.seq + 1 → (n < who.seq + 1) ⊎ Any IsEvent list
  marks-low n [] low = inl low
  marks-low n (m ∷ rest) low = elim (marks-low (reported_by who.cpu n m) rest low) [
    | inl first ↦ elim (by-low n m first) [
      | inl old ↦ inl old
      | inr new ↦ inr (any-head IsEvent m rest new)
    ]
    | inr later ↦ inr (any-tail IsEvent m rest later)
  ]

  low-marks : (n : ℕ) (list : List MarkLine) → (n < who.seq + 1) ⊎ Any IsEvent list → fold (reported_by who.cpu) n list < who.seq + 1
  low-marks n [] (inl old) = old
  low-marks n [] (inr any) = absurd (no-any IsEvent any)
  low-marks n (m ∷ rest) (inl old) = low-marks (reported_by who.cpu n m) rest (inl (low-by n m (inl old)))
  low-marks n (m ∷ rest) (inr any) = elim (any-cases IsEvent m rest any) [
    | inl here ↦ low-marks (reported_by who.cpu n m) rest (inl (low-by n m (inr here)))
    | inr later ↦ low-marks (reported_by who.cpu n m) rest (inr later)
  ]

  frames-low : (n : ℕ) (list : List FrameLine) → fold (reported_in who.cpu) n list < who.seq + 1 → (n < who.seq + 1) ⊎ Any HasEvent list
  frames-low n [] low = inl low
  frames-low n (l ∷ rest) low = elim (frames-low (reported_in who.cpu n l) rest low) [
    | inl first ↦ elim (marks-low n l.marks first) [
      | inl old ↦ inl old
      | inr new ↦ inr (any-head HasEvent l rest new)
    ]
    | inr later ↦ inr (any-tail HasEvent l rest later)
  ]

  low-frames : (n : ℕ) (list : List FrameLine) → (n < who.seq + 1) ⊎ Any HasEvent list → fold (reported_in who.cpu) n list < who.seq + 1
  low-frames n [] (inl old) = old
  low-frames n [] (inr any) = absurd (no-any HasEvent any)
  low-frames n (l ∷ rest) (inl old) = low-frames (reported_in who.cpu n l) rest (inl (low-marks n l.marks (inl old)))
  low-frames n (l ∷ rest) (inr any) = elim (any-cases HasEvent l rest any) [
    | inl here ↦ low-frames (reported_in who.cpu n l) rest (inl (low-marks n l.marks (inr here)))
    | inr later ↦ low-frames (reported_in who.cpu n l) rest (inr later)
  ]

  pub low_seen : (report : Report) → who.seq < no_command → reported who.cpu report.frames ≤ who.seq → WasHardwareSeen report who
  low_seen report few low = elim (frames-low no_command report.frames (omega (arith, low))) [
    | inl none ↦ absurd (omega (arith, none, few))
    | inr any ↦ any
  ]

  pub seen_low : (report : Report) → WasHardwareSeen report who → reported who.cpu report.frames ≤ who.seq
  seen_low report any = let less : reported who.cpu report.frames < who.seq + 1 = low-frames no_command report.frames (inr any) in omega (arith, less)
