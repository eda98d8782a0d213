-- The flags of frames, line by line and processor by processor.
use Rattle.std.proofs.Common.{◌≡◌, ◌⊎◌, inl, inr, ℕ, ◌+◌, ◌<◌, ◌||◌, Bool, true, false, List, [], ◌∷◌, ◌++◌, Option, Some, None, get_or, length, slice_get, slice_index_or, take, unwrap_or, true≢false, refl, sym, ap, ◌∙◌, subst, arith}
use Rattle.std.specs.HashMap.{HashMap}
use Rattle.std.proofs.lemmas.Bool.{cases_lt}
use Rattle.std.proofs.lemmas.List.{take_more}
use Rattle.hwp_check_rules.specs.hwp_report_text.declared.CpuLine.{CpuLine}
use Rattle.hwp_check_rules.specs.hwp_report_text.declared.Report.{Report}
use Rattle.hwp_check_frames.specs.Flags.{AreFlags, row_flag, rows_flag}
use Rattle.hwp_check_frames.proofs.FramePlaces.{or-left, or-right}

or-three : (a b c : Bool) → (a || b) || c ≡ a || (b || c)
or-three true b c = refl
or-three false b c = refl

or-none : (a : Bool) → (a || false) ≡ a
or-none true = refl
or-none false = refl

or-cases : (a b : Bool) → (a || b) ≡ true → (a ≡ true) ⊎ (b ≡ true)
or-cases true b is = inl refl
or-cases false b is = inr is

module _ {S : Type 0} (own many : HashMap ((ℕ × ℕ) × ℕ) ℕ S) where
  flag-push : (cpu frame : ℕ) (rows : List CpuLine) (r : CpuLine) → rows_flag own many cpu frame (rows ++ r ∷ []) ≡ (rows_flag own many cpu frame rows || row_flag own many cpu frame r)
  flag-push cpu frame [] r = or-none (row_flag own many cpu frame r)
  flag-push cpu frame (x ∷ xs) r =
      ap (λ (b : Bool). row_flag own many cpu frame x || b) (flag-push cpu frame xs r) ∙ sym (or-three (row_flag own many cpu frame x) (rows_flag own many cpu frame xs) (row_flag own many cpu frame r))

  -- a line more
  pub rows-next : (cpu frame : ℕ) (rows : List CpuLine) (i : ℕ) (d : CpuLine) (start was is : Bool) → i < length rows → is ≡ (was || row_flag own many cpu frame (get_or rows i d)) → was ≡ (start || rows_flag own many cpu frame (take i rows))
      → is ≡ (start || rows_flag own many cpu frame (take (i + 1) rows))
  rows-next cpu frame rows i d start was is within step so_far =
      step ∙ ap (λ (b : Bool). b || row_flag own many cpu frame (get_or rows i d)) so_far ∙ or-three start (rows_flag own many cpu frame (take i rows)) (row_flag own many cpu frame (get_or rows i d))
      ∙ ap (λ (b : Bool). start || b) (sym (flag-push cpu frame (take i rows) (get_or rows i d)) ∙ ap (λ (l : List CpuLine). rows_flag own many cpu frame l) (sym (take_more rows i d within)))

  -- a processor more
  pub flags-next : (report : Report) (n : ℕ) (rows : List CpuLine) (flags next : List Bool) → rows ≡ unwrap_or (slice_get report.cpus n) [] → length next ≡ length flags
      → ((frame : ℕ) (d : Bool) → frame < length flags → slice_index_or next frame d ≡ (slice_index_or flags frame d || rows_flag own many n frame rows)) → AreFlags report own many n flags → AreFlags report own many (n + 1) next
  flags-next report n rows flags next are long step was = record {
    flagged = λ frame d within is.
        let low : frame < length flags = omega (arith, within, long) in
        elim (or-cases (slice_index_or flags frame d) (rows_flag own many n frame rows) (sym (step frame d low) ∙ is)) [
          | inl old ↦ let f = was.flagged frame d low old in let less : f.0 < n = f.2 in (f.0, f.1, omega (arith, less), f.3, f.4)
          | inr new ↦ here frame new (slice_get report.cpus n) refl
        ];
    unflagged = λ frame d within is cpu list less there.
        let low : frame < length flags = omega (arith, within, long) in
        let both : (slice_index_or flags frame d || rows_flag own many n frame rows) ≡ false = sym (step frame d low) ∙ is in
        elim (cases_lt cpu n) [
          | inl earlier ↦ was.unflagged frame d low (or-left (slice_index_or flags frame d) (rows_flag own many n frame rows) both) cpu list earlier there
          | inr high ↦
              let same : cpu ≡ n = omega (arith, less, high) in
              let list_is : rows ≡ list = are ∙ ap (λ (k : ℕ). unwrap_or (slice_get report.cpus k) []) (sym same) ∙ ap (λ (o : Option (List CpuLine)). unwrap_or o []) there in
              subst (λ (k : ℕ). rows_flag own many k frame list ≡ false) (sym same)
              (subst (λ (l : List CpuLine). rows_flag own many n frame l ≡ false) list_is (or-right (slice_index_or flags frame d) (rows_flag own many n frame rows) both))
        ];
  }
    where
      here : (frame : ℕ) → rows_flag own many n frame rows ≡ true → (o : Option (List CpuLine)) → slice_get report.cpus n ≡ o
          → (cpu : ℕ) × (list : List CpuLine) × (cpu < n + 1) × (slice_get report.cpus cpu ≡ Some list) × (rows_flag own many cpu frame list ≡ true)
      here frame new None is = absurd (true≢false (sym new ∙ ap (λ (l : List CpuLine). rows_flag own many n frame l) (are ∙ ap (λ (o : Option (List CpuLine)). unwrap_or o []) is)))
      here frame new (Some list) is = (n, list, omega arith, is, sym (ap (λ (l : List CpuLine). rows_flag own many n frame l) (are ∙ ap (λ (o : Option (List CpuLine)). unwrap_or o []) is)) ∙ new)
