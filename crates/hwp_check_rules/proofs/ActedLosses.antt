-- The losses that processors were told of are the same by the script that they acted on: it has the same lists, but for accesses.
use Rattle.std.proofs.Common.{◌≡◌, ℕ, zero, suc, ◌+◌, ◌<◌, ◌≤◌, Bool, true, List, [], ◌∷◌, ◌++◌, Option, Some, None, length, option_map, slice_get, take, unwrap_or, refl, sym, ap, subst, ◌∙◌, arith}
use Rattle.std.specs.List.{zip, sum_by}
use Rattle.std.proofs.lemmas.Option.{none-some, same_Some}
use Rattle.hwp_law.specs.hwp_geom.declared.Cpu.{Cpu}
use Rattle.hwp_law.specs.hwp_geom.declared.FileNo.{FileNo}
use Rattle.hwp_law.specs.hwp_geom.declared.Layout.{Layout}
use Rattle.hwp_law.specs.Cows.{acting}
use Rattle.hwp_law.specs.hwp_report_text.declared.Answer.{Answer}
use Rattle.hwp_law.specs.hwp_report_text.declared.CpuLine.{CpuLine}
use Rattle.hwp_law.specs.hwp_report_text.declared.Report.{Report}
use Rattle.hwp_law.specs.hwp_script_words.declared.Command.{Command}
use Rattle.hwp_law.specs.hwp_script_words.declared.Command.TheVariants as commands
use Rattle.hwp_law.specs.hwp_script_words.declared.Script.{Script}
use Rattle.hwp_law.specs.Acting.{acting_from, acting_lists, acting_script}
use Rattle.hwp_law.specs.Lines.{answered, answers_to}
use Rattle.hwp_law.specs.Losses.{IsNumber, LossesAgree, is_lost, is_lost_before, losses_such, number_by, numbers_after, tells_number, found_in}
use Rattle.hwp_law.specs.hwp_page.declared.Entry.{Entry}
use Rattle.hwp_law.proofs.ActedLaws.{answered-acted}

abbrev Pairs : Type 0
Pairs = List (Command × Answer)

number-acted : (layout : Layout) (earlier : Pairs) (file : FileNo) (n : ℕ) (c : Command) (a : Answer) → number_by file n (acting layout earlier c) a ≡ number_by file n c a
number-acted layout earlier file n (commands.Load thread slot line) a = refl
number-acted layout earlier file n (commands.Fetch thread slot line) a = refl
number-acted layout earlier file n (commands.KLoad thread slot line) a = refl
number-acted layout earlier file n (commands.Store thread slot line word) a = refl
number-acted layout earlier file n (commands.Free slot) a = refl
number-acted layout earlier file n c a = refl

tells-acted : (layout : Layout) (earlier : Pairs) (file : FileNo) (c : Command) (a : Answer) → tells_number file (acting layout earlier c) a ≡ tells_number file c a
tells-acted layout earlier file (commands.Load thread slot line) a = refl
tells-acted layout earlier file (commands.Fetch thread slot line) a = refl
tells-acted layout earlier file (commands.KLoad thread slot line) a = refl
tells-acted layout earlier file (commands.Store thread slot line word) a = refl
tells-acted layout earlier file (commands.Free slot) a = refl
tells-acted layout earlier file c a = refl

module _ (layout : Layout) (file : FileNo) where
  abbrev acted : Pairs → List Command → List Answer → Pairs
  acted earlier list given = zip (acting_from layout earlier list given) given

  numbers-acted : (k : ℕ) (earlier : Pairs) (list : List Command) (given : List Answer) (n : ℕ) → numbers_after file n (take k (acted earlier list given)) ≡ numbers_after file n (take k (zip list given))
  numbers-acted zero earlier list given n = refl
  numbers-acted (suc k) earlier [] given n = refl
  numbers-acted (suc k) earlier (c ∷ cs) [] n = refl
  numbers-acted (suc k) earlier (c ∷ cs) (a ∷ given) n =
      ap (λ (m : ℕ). numbers_after file m (take k (acted (earlier ++ (c, a) ∷ []) cs given))) (number-acted layout earlier file n c a) ∙ numbers-acted k (earlier ++ (c, a) ∷ []) cs given (number_by file n c a)

  -- a pair of the one list stands where one of the other does, and tells a number where it does
  abbrev Stands : Pairs → ℕ → Command × Answer → Type 0
  Stands list i p = (q : Command × Answer) × (slice_get {X = Command × Answer} list i ≡ Some q) × (tells_number file q.0 q.1 ≡ tells_number file p.0 p.1)

  to-script : (earlier : Pairs) (list : List Command) (given : List Answer) (i : ℕ) (p : Command × Answer) → slice_get {X = Command × Answer} (acted earlier list given) i ≡ Some p → Stands (zip list given) i p
  to-script earlier [] given i p there = absurd (none-some p there)
  to-script earlier (c ∷ cs) [] i p there = absurd (none-some p there)
  to-script earlier (c ∷ cs) (a ∷ given) zero p there =
      ((c, a), refl, sym (tells-acted layout earlier file c a) ∙ ap (λ (q : Command × Answer). tells_number file q.0 q.1) (same_Some (acting layout earlier c, a) p there))
  to-script earlier (c ∷ cs) (a ∷ given) (suc i) p there = to-script (earlier ++ (c, a) ∷ []) cs given i p there

  to-acted : (earlier : Pairs) (list : List Command) (given : List Answer) (i : ℕ) (p : Command × Answer) → slice_get {X = Command × Answer} (zip list given) i ≡ Some p → Stands (acted earlier list given) i p
  to-acted earlier [] given i p there = absurd (none-some p there)
  to-acted earlier (c ∷ cs) [] i p there = absurd (none-some p there)
  to-acted earlier (c ∷ cs) (a ∷ given) zero p there =
      ((acting layout earlier c, a), refl, tells-acted layout earlier file c a ∙ ap (λ (q : Command × Answer). tells_number file q.0 q.1) (same_Some (c, a) p there))
  to-acted earlier (c ∷ cs) (a ∷ given) (suc i) p there = to-acted (earlier ++ (c, a) ∷ []) cs given i p there

-- a number by one list is one by another with the same numbers
same-number : (script other : Script) (report : Report) (file : FileNo) (cpu : Cpu) (one two : Pairs) (i : ℕ) → script.layout ≡ other.layout → ((k : ℕ) → numbers_after file 0 (take k one) ≡ numbers_after file 0 (take k two)) → IsNumber script report file cpu one i → IsNumber other report file cpu two i
same-number script other report file cpu one two i layouts same number = record {
  rises = let r : numbers_after file 0 (take i one) ≤ numbers_after file 0 (take (i + 1) one) = number.rises in let a : numbers_after file 0 (take i one) ≡ numbers_after file 0 (take i two) = same i in let b : numbers_after file 0 (take (i + 1) one) ≡ numbers_after file 0 (take (i + 1) two) = same (i + 1) in omega (arith, r, a, b);
  within =
      let w : numbers_after file 0 (take (i + 1) one) ≤ losses_such is_lost script report file = number.within in
      let b : numbers_after file 0 (take (i + 1) one) ≡ numbers_after file 0 (take (i + 1) two) = same (i + 1) in
      let l : losses_such is_lost script report file ≡ losses_such is_lost other report file = ap (losses_by is_lost) layouts in
      omega (arith, w, b, l);
  covers =
      let c : losses_such (is_lost_before (record { cpu = cpu; seq = i })) script report file ≤ numbers_after file 0 (take (i + 1) one) = number.covers in
      let b : numbers_after file 0 (take (i + 1) one) ≡ numbers_after file 0 (take (i + 1) two) = same (i + 1) in
      let l : losses_such (is_lost_before (record { cpu = cpu; seq = i })) script report file ≡ losses_such (is_lost_before (record { cpu = cpu; seq = i })) other report file = ap (losses_by (is_lost_before (record { cpu = cpu; seq = i }))) layouts in
      omega (arith, c, b, l);
}
  where
    losses_by : (Entry → Bool) → Layout → ℕ
    losses_by test layout = sum_by (found_in test file) (zip layout.pages report.pages)

module _ (script : Script) (report : Report) where
  abbrev rows-of : ℕ → List CpuLine
  rows-of cpu = unwrap_or (slice_get report.cpus cpu) []

  lists-many : (n : ℕ) (lists : List (List Command)) → length (acting_lists script.layout report.cpus n lists) ≡ length lists
  lists-many n [] = refl
  lists-many n (l ∷ ls) = ap suc (lists-many (n + 1) ls)

  pub acted-many : length (acting_script script report).lists ≡ length script.lists
  acted-many = lists-many 0 script.lists

  abbrev acted-list : ℕ → List Command → List Command
  acted-list cpu list = acting_from script.layout [] list (answers_to list (rows-of cpu))

  lists-at : (n : ℕ) (lists : List (List Command)) (k : ℕ) → slice_get (acting_lists script.layout report.cpus n lists) k ≡ option_map (acted-list (n + k)) (slice_get lists k)
  lists-at n [] k = refl
  lists-at n (l ∷ ls) zero = let same : n ≡ n + 0 = omega arith in ap (λ (i : ℕ). Some (acted-list i l)) same
  lists-at n (l ∷ ls) (suc k) = let same : (n + 1) + k ≡ n + suc k = omega arith in lists-at (n + 1) ls k ∙ ap (λ (i : ℕ). option_map (acted-list i) (slice_get ls k)) same

  at : (cpu : ℕ) → slice_get (acting_script script report).lists cpu ≡ option_map (acted-list cpu) (slice_get script.lists cpu)
  at cpu = let same : 0 + cpu ≡ cpu = omega arith in lists-at 0 script.lists cpu ∙ ap (λ (i : ℕ). option_map (acted-list i) (slice_get script.lists cpu)) same

  -- the script's list that was acted on so
  whose : (cpu : ℕ) (made : List Command) → slice_get (acting_script script report).lists cpu ≡ Some made → (list : List Command) × (slice_get script.lists cpu ≡ Some list) × (acted-list cpu list ≡ made)
  whose cpu made there = by (slice_get script.lists cpu) refl
    where
      by : (o : Option (List Command)) → slice_get script.lists cpu ≡ o → (list : List Command) × (slice_get script.lists cpu ≡ Some list) × (acted-list cpu list ≡ made)
      by None is = absurd (none-some made (sym (at cpu ∙ ap (option_map (acted-list cpu)) is) ∙ there))
      by (Some list) is = (list, is, same_Some _ _ (sym (at cpu ∙ ap (option_map (acted-list cpu)) is) ∙ there))

  -- the list that was acted on in place of one of the script, which is as long
  acting-many : (layout : Layout) (earlier : Pairs) (list : List Command) (given : List Answer) → length (acting_from layout earlier list given) ≡ length list
  acting-many layout earlier [] given = refl
  acting-many layout earlier (c ∷ cs) [] = ap suc (acting-many layout earlier cs [])
  acting-many layout earlier (c ∷ cs) (a ∷ given) = ap suc (acting-many layout (earlier ++ (c, a) ∷ []) cs given)

  pub acted-there : (cpu : ℕ) (list : List Command) → slice_get script.lists cpu ≡ Some list → (made : List Command) × (slice_get (acting_script script report).lists cpu ≡ Some made) × (length made ≡ length list)
  acted-there cpu list there = (acted-list cpu list, at cpu ∙ ap (option_map (acted-list cpu)) there, acting-many script.layout [] list (answers_to list (rows-of cpu)))

  -- the answers are those of the rows
  given-is : (cpu : ℕ) (list : List Command) (rows : List CpuLine) → slice_get report.cpus cpu ≡ Some rows → answers_to list (rows-of cpu) ≡ answers_to list rows
  given-is cpu list rows is = ap (λ (o : Option (List CpuLine)). answers_to list (unwrap_or o [])) is

  pub losses-acted : LossesAgree script report → LossesAgree (acting_script script report) report
  losses-acted losses = record {
    files_fit = losses.files_fit;
    lost = losses.lost;
    numbers = λ file cpu made rows within of_script of_report i p there tells.
        let w = whose cpu.0 made of_script in
        let are : made ≡ acting_from script.layout [] w.0 (answers_to w.0 rows) = sym w.2 ∙ ap (acting_from script.layout [] w.0) (given-is cpu.0 w.0 rows of_report) in
        let pairs = answered-acted script.layout w.0 rows in
        let q = to-script script.layout file [] w.0 (answers_to w.0 rows) i p
        (sym (ap (λ (l : Pairs). slice_get {X = Command × Answer} l i) pairs) ∙ subst (λ (l : List Command). slice_get {X = Command × Answer} (answered l rows) i ≡ Some p) are there) in
        subst (λ (l : List Command). IsNumber (acting_script script report) report file cpu (answered l rows) i) (sym are)
        (same-number script (acting_script script report) report file cpu (answered w.0 rows) (answered (acting_from script.layout [] w.0 (answers_to w.0 rows)) rows) i refl
        (λ k. sym (ap (λ (l : Pairs). numbers_after file 0 (take k l)) pairs ∙ numbers-acted script.layout file k [] w.0 (answers_to w.0 rows) 0)) (losses.numbers file cpu w.0 rows within w.1 of_report i q.0 q.1 (q.2 ∙ tells)));
  }

  pub acted-losses : LossesAgree (acting_script script report) report → LossesAgree script report
  acted-losses losses = record {
    files_fit = losses.files_fit;
    lost = losses.lost;
    numbers = λ file cpu list rows within of_script of_report i p there tells.
        let made : slice_get (acting_script script report).lists cpu.0 ≡ Some (acting_from script.layout [] list (answers_to list rows)) =
        at cpu.0 ∙ ap (option_map (acted-list cpu.0)) of_script ∙ ap (λ (g : List Answer). Some (acting_from script.layout [] list g)) (given-is cpu.0 list rows of_report) in
        let pairs = answered-acted script.layout list rows in
        let q = to-acted script.layout file [] list (answers_to list rows) i p there in
        same-number (acting_script script report) script report file cpu (answered (acting_from script.layout [] list (answers_to list rows)) rows) (answered list rows) i refl
        (λ k. ap (λ (l : Pairs). numbers_after file 0 (take k l)) pairs ∙ numbers-acted script.layout file k [] list (answers_to list rows) 0)
        (losses.numbers file cpu (acting_from script.layout [] list (answers_to list rows)) rows within made of_report i q.0 (ap (λ (l : Pairs). slice_get {X = Command × Answer} l i) pairs ∙ q.1) (q.2 ∙ tells));
  }
