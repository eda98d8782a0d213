-- The script that was acted on, list by list, and the copies of its commands.
use Rattle.std.proofs.Common.{◌≡◌, ℕ, zero, suc, ◌+◌, ◌<◌, ◌≤◌, List, [], ◌∷◌, ◌++◌, Option, Some, None, get_or, length, option_and_then, option_map, slice_get, take, unwrap_or, inl, inr, refl, sym, ap, ◌∙◌, arith}
use Rattle.std.specs.List.{zip}
use Rattle.std.proofs.Math.Path.{fun_ext}
use Rattle.std.proofs.lemmas.Bool.{cases_lt}
use Rattle.std.proofs.lemmas.List.{ext_get_or, get_or_append_left, get_or_push, length_push}
use Rattle.std.proofs.lemmas.Option.{none-some, same_Some, slice_get-get_or, slice_get_past, slice_get_within, unwrap_or-slice_get}
use Rattle.hwp_law.specs.hwp_geom.declared.Layout.{Layout}
use Rattle.hwp_law.specs.hwp_geom.declared.VSlot.{VSlot}
use Rattle.hwp_law.specs.hwp_geom.declared.Who.{Who}
use Rattle.hwp_law.specs.Cows.{acting, copied_from}
use Rattle.hwp_law.specs.hwp_report_text.declared.Answer.{Answer}
use Rattle.hwp_law.specs.hwp_report_text.declared.CpuLine.{CpuLine}
use Rattle.hwp_law.specs.hwp_report_text.declared.Report.{Report}
use Rattle.hwp_law.specs.hwp_script_words.declared.Command.{Command}
use Rattle.hwp_law.specs.hwp_script_words.declared.Script.{Script}
use Rattle.hwp_law.specs.Acting.{acting_from, acting_lists, acting_script, copied_at}
use Rattle.hwp_law.specs.Lines.{answered, answers_to}
use Rattle.hwp_law.specs.Policies.{answered_before}
use Rattle.hwp_law.proofs.ActedLaws.{acted-at, acting-length}
use Rattle.hwp_check_rules.specs.ActedOn.{AreActed, AreCopied, IsActedOn}
use Rattle.hwp_check_event_line.specs.Reading.{copies_in}

-- ---- what stands at a place of a list that grows

at-left : {X : Type 0} (xs : List X) (x : X) (i : ℕ) → i < length xs → slice_get (xs ++ x ∷ []) i ≡ slice_get xs i
at-left xs x i within =
    slice_get-get_or (xs ++ x ∷ []) i x (let l : length (xs ++ x ∷ []) ≡ length xs + 1 = length_push xs x in omega (arith, l, within))
    ∙ ap Some (get_or_append_left xs (x ∷ []) x i within) ∙ sym (slice_get-get_or xs i x within)

at-end : {X : Type 0} (xs : List X) (x : X) (i : ℕ) → i ≡ length xs → slice_get (xs ++ x ∷ []) i ≡ Some x
at-end xs x i is =
    slice_get-get_or (xs ++ x ∷ []) i x (let l : length (xs ++ x ∷ []) ≡ length xs + 1 = length_push xs x in omega (arith, l, is)) ∙ ap Some (get_or_push xs x x i (sym is))

-- the list that was read at a number
pub read-list : {X : Type 0} (lists read : List (List X)) (n : ℕ) (d item here : List X) → read ≡ lists → n < length lists → item ≡ get_or read n d → here ≡ item → slice_get lists n ≡ Some here
read-list lists read n d item here read_is within item_is here_is =
    slice_get-get_or lists n d within ∙ ap Some (sym (here_is ∙ item_is ∙ ap (λ (l : List (List _)). get_or l n d) read_is))

-- ---- one list

pub next-acted : (layout : Layout) (pairs : List (Command × Answer)) (commands : List Command) (n : ℕ) (list : List Command) (c new : Command) → AreActed layout pairs commands n list
    → slice_get commands n ≡ Some c → new ≡ acting layout (take n pairs) c → AreActed layout pairs commands (n + 1) (list ++ new ∷ [])
next-acted layout pairs commands n list c new are there is = record {
  many = let l : length (list ++ new ∷ []) ≡ length list + 1 = length_push list new in let m : length list ≡ n = are.many in omega (arith, l, m);
  each = λ i within. elim (cases_lt i n) [
    | inl low ↦ at-left list new i (let m : length list ≡ n = are.many in omega (arith, m, low)) ∙ are.each i low
    | inr high ↦
        let same : i ≡ n = omega (arith, within, high) in
        at-end list new i (same ∙ sym are.many) ∙ ap Some is ∙ sym (ap (λ (o : Option Command). option_map (acting layout (take n pairs)) o) there)
        ∙ ap (λ (k : ℕ). option_map (acting layout (take k pairs)) (slice_get commands k)) (sym same)
  ];
}

pub next-copied : (layout : Layout) (pairs : List (Command × Answer)) (commands : List Command) (n : ℕ) (list : List (Option VSlot)) (c : Command) (new : Option VSlot) → AreCopied layout pairs commands n list
    → slice_get commands n ≡ Some c → new ≡ copied_from layout (take n pairs) c → AreCopied layout pairs commands (n + 1) (list ++ new ∷ [])
next-copied layout pairs commands n list c new are there is = record {
  many = let l : length (list ++ new ∷ []) ≡ length list + 1 = length_push list new in let m : length list ≡ n = are.many in omega (arith, l, m);
  each = λ i within. elim (cases_lt i n) [
    | inl low ↦ get_or_append_left list (new ∷ []) None i (let m : length list ≡ n = are.many in omega (arith, m, low)) ∙ are.each i low
    | inr high ↦
        let same : i ≡ n = omega (arith, within, high) in
        get_or_push list new None i (are.many ∙ sym same) ∙ is ∙ sym (ap (λ (o : Option Command). option_and_then (copied_from layout (take n pairs)) o) there)
        ∙ ap (λ (k : ℕ). option_and_then (copied_from layout (take k pairs)) (slice_get commands k)) (sym same)
  ];
}

-- equal at each place
pub same-list : {X : Type 0} (d : X) (xs ys : List X) → length xs ≡ length ys → ((i : ℕ) → i < length xs → slice_get xs i ≡ slice_get ys i) → xs ≡ ys
same-list d xs ys many each =
    ext_get_or d xs ys many (λ i within. sym (unwrap_or-slice_get xs i d) ∙ ap (λ (o : Option _). unwrap_or o d) (each i within) ∙ unwrap_or-slice_get ys i d)

same-acted : (layout : Layout) (pairs : List (Command × Answer)) (commands list : List Command) (given : List Answer) → pairs ≡ zip commands given → AreActed layout pairs commands (length commands) list
    → list ≡ acting_from layout [] commands given
same-acted layout pairs [] [] given is are = refl
same-acted layout pairs [] (x ∷ xs) given is are = absurd (let m : suc (length xs) ≡ 0 = are.many in omega (arith, m))
same-acted layout pairs (c ∷ cs) list given is are =
    same-list c list (acting_from layout [] (c ∷ cs) given) (are.many ∙ sym (acting-length layout [] (c ∷ cs) given))
    (λ i within. are.each i (let m : length list ≡ suc (length cs) = are.many in omega (arith, m, within))
    ∙ ap (λ (l : List (Command × Answer)). option_map (acting layout (take i l)) (slice_get (c ∷ cs) i)) is ∙ sym (acted-at layout [] (c ∷ cs) given i))

-- ---- all lists

module _ (script : Script) (report : Report) where
  abbrev rows-of : ℕ → List CpuLine
  rows-of cpu = unwrap_or (slice_get report.cpus cpu) []

  pub none-acted : IsActedOn script report [] [] 0
  none-acted = record {
    many = refl;
    copied_many = refl;
    each = λ cpu commands low there. absurd (omega (arith, low));
    copied = λ cpu commands list low there is. absurd (none-some list is);
  }

  pub next-processor : (n : ℕ) (lists : List (List Command)) (copies : List (List (Option VSlot))) (commands : List Command) (pairs : List (Command × Answer)) (list : List Command) (own : List (Option VSlot))
      → IsActedOn script report lists copies n → slice_get script.lists n ≡ Some commands → pairs ≡ answered commands (rows-of n) → AreActed script.layout pairs commands (length commands) list
      → AreCopied script.layout pairs commands (length commands) own → IsActedOn script report (lists ++ list ∷ []) (copies ++ own ∷ []) (n + 1)
  next-processor n lists copies commands pairs list own are of_script pairs_are acted copied = record {
    many = let l : length (lists ++ list ∷ []) ≡ length lists + 1 = length_push lists list in let m : length lists ≡ n = are.many in omega (arith, l, m);
    copied_many = let l : length (copies ++ own ∷ []) ≡ length copies + 1 = length_push copies own in let m : length copies ≡ n = are.copied_many in omega (arith, l, m);
    each = λ cpu cs within there. elim (cases_lt cpu n) [
      | inl low ↦ at-left lists list cpu (let m : length lists ≡ n = are.many in omega (arith, m, low)) ∙ are.each cpu cs low there
      | inr high ↦ last-list cpu cs (let same : cpu ≡ n = omega (arith, within, high) in same) there
    ];
    copied = λ cpu cs l within there is. elim (cases_lt cpu n) [
      | inl low ↦ are.copied cpu cs l low there (sym (at-left copies own cpu (let m : length copies ≡ n = are.copied_many in omega (arith, m, low))) ∙ is)
      | inr high ↦ last-copied cpu cs l (let same : cpu ≡ n = omega (arith, within, high) in same) there is
    ];
  }
    where
      here : (cpu : ℕ) (cs : List Command) → cpu ≡ n → slice_get script.lists cpu ≡ Some cs → commands ≡ cs
      here cpu cs same there = same_Some _ _ (sym of_script ∙ ap (slice_get script.lists) (sym same) ∙ there)

      last-list : (cpu : ℕ) (cs : List Command) → cpu ≡ n → slice_get script.lists cpu ≡ Some cs → slice_get (lists ++ list ∷ []) cpu ≡ Some (acting_from script.layout [] cs (answers_to cs (rows-of cpu)))
      last-list cpu cs same there =
          at-end lists list cpu (same ∙ sym are.many) ∙ ap Some (same-acted script.layout pairs commands list (answers_to commands (rows-of n)) pairs_are acted)
          ∙ ap (λ (k : ℕ). Some (acting_from script.layout [] commands (answers_to commands (rows-of k)))) (sym same)
          ∙ ap (λ (l : List Command). Some (acting_from script.layout [] l (answers_to l (rows-of cpu)))) (here cpu cs same there)

      past : (i : ℕ) → length commands ≤ i → get_or own i None ≡ option_and_then (copied_from script.layout (take i pairs)) (slice_get commands i)
      past i high =
          sym (unwrap_or-slice_get own i None) ∙ ap (λ (o : Option (Option VSlot)). unwrap_or o None) (slice_get_past own i (let m : length own ≡ length commands = copied.many in omega (arith, m, high)))
          ∙ sym (ap (λ (o : Option Command). option_and_then (copied_from script.layout (take i pairs)) o) (slice_get_past commands i high))

      any : (i : ℕ) → get_or own i None ≡ option_and_then (copied_from script.layout (take i pairs)) (slice_get commands i)
      any i = elim (cases_lt i (length commands)) [
        | inl low ↦ copied.each i low
        | inr high ↦ past i high
      ]

      last-copied : (cpu : ℕ) (cs : List Command) (l : List (Option VSlot)) → cpu ≡ n → slice_get script.lists cpu ≡ Some cs → slice_get (copies ++ own ∷ []) cpu ≡ Some l
          → (i : ℕ) → get_or l i None ≡ option_and_then (copied_from script.layout (take i (answered cs (rows-of cpu)))) (slice_get cs i)
      last-copied cpu cs l same there is i =
          ap (λ (o : List (Option VSlot)). get_or o i None) (sym (same_Some own l (sym (at-end copies own cpu (same ∙ sym are.copied_many)) ∙ is))) ∙ any i
          ∙ ap (λ (p : List (Command × Answer)). option_and_then (copied_from script.layout (take i p)) (slice_get commands i)) pairs_are
          ∙ ap (λ (k : ℕ). option_and_then (copied_from script.layout (take i (answered commands (rows-of k)))) (slice_get commands i)) (sym same)
          ∙ ap (λ (c : List Command). option_and_then (copied_from script.layout (take i (answered c (rows-of cpu)))) (slice_get c i)) (here cpu cs same there)

  lists-length : (cpu : ℕ) (lists : List (List Command)) → length (acting_lists script.layout report.cpus cpu lists) ≡ length lists
  lists-length cpu [] = refl
  lists-length cpu (l ∷ ls) = ap suc (lists-length (cpu + 1) ls)

  abbrev acted : ℕ → List Command → List Command
  acted cpu list = acting_from script.layout [] list (answers_to list (rows-of cpu))

  lists-at : (n : ℕ) (lists : List (List Command)) (k : ℕ) → slice_get (acting_lists script.layout report.cpus n lists) k ≡ option_map (acted (n + k)) (slice_get lists k)
  lists-at n [] k = refl
  lists-at n (l ∷ ls) zero = let same : n ≡ n + 0 = omega arith in ap (λ (i : ℕ). Some (acted i l)) same
  lists-at n (l ∷ ls) (suc k) = let same : (n + 1) + k ≡ n + suc k = omega arith in lists-at (n + 1) ls k ∙ ap (λ (i : ℕ). option_map (acted i) (slice_get ls k)) same

  module _ (lists : List (List Command)) (copies : List (List (Option VSlot))) (are : IsActedOn script report lists copies (length script.lists)) where
    lists-are : lists ≡ acting_lists script.layout report.cpus 0 script.lists
    lists-are = same-list [] lists (acting_lists script.layout report.cpus 0 script.lists) (are.many ∙ sym (lists-length 0 script.lists)) (λ i within. at i (let m : length lists ≡ length script.lists = are.many in omega (arith, m, within)))
      where
        at : (i : ℕ) → i < length script.lists → slice_get lists i ≡ slice_get (acting_lists script.layout report.cpus 0 script.lists) i
        at i within =
            let there : slice_get script.lists i ≡ Some (get_or script.lists i []) = slice_get-get_or script.lists i [] within in
            let same : 0 + i ≡ i = omega arith in
            are.each i (get_or script.lists i []) within there ∙ ap (λ (k : ℕ). Some (acted k (get_or script.lists i []))) (sym same)
            ∙ sym (ap (option_map (acted (0 + i))) there) ∙ sym (lists-at 0 script.lists i)

    pub script-is : (made : Script) → made.layout ≡ script.layout → made.lists ≡ lists → made.go ≡ script.go → made ≡ acting_script script report
    script-is made layout_is lists_is go_is = λ i. record { layout = layout_is i; lists = (lists_is ∙ lists-are) i; go = go_is i }

    pub copies-are : copies_in copies ≡ copied_at script report
    copies-are = fun_ext (λ who. by who (slice_get script.lists who.cpu.0) refl)
      where
        by : (who : Who) (o : Option (List Command)) → slice_get script.lists who.cpu.0 ≡ o → copies_in copies who ≡ copied_at script report who
        by who None is =
            let few : length script.lists ≤ who.cpu.0 = none-past script.lists who.cpu.0 is in
            ap (option_and_then (λ (l : List (Option VSlot)). get_or l who.seq None)) (slice_get_past copies who.cpu.0 (let m : length copies ≡ length script.lists = are.copied_many in omega (arith, m, few)))
            ∙ sym (ap (λ (q : Option (List Command)). option_and_then (copied_from script.layout (answered_before script report who)) (option_and_then (λ (l : List Command). slice_get l who.seq) q)) is)
          where
            none-past : {X : Type 0} (xs : List X) (k : ℕ) → slice_get xs k ≡ None → length xs ≤ k
            none-past xs k none = elim (cases_lt k (length xs)) [
              | inl low ↦ absurd (none-at xs k low none)
              | inr high ↦ high
            ]
              where
                none-at : {X : Type 0} (ys : List X) (j : ℕ) → j < length ys → slice_get ys j ≡ None → ⊥
                none-at [] j low is = omega (arith, low)
                none-at (y ∷ ys) zero low is = none-some y (sym is)
                none-at (y ∷ ys) (suc j) low is = none-at ys j (omega (arith, low)) is
        by who (Some commands) is =
            let within : who.cpu.0 < length copies = let w : who.cpu.0 < length script.lists = slice_get_within script.lists who.cpu.0 commands is in let m : length copies ≡ length script.lists = are.copied_many in omega (arith, m, w) in
            let list : slice_get copies who.cpu.0 ≡ Some (get_or copies who.cpu.0 []) = slice_get-get_or copies who.cpu.0 [] within in
            ap (option_and_then (λ (l : List (Option VSlot)). get_or l who.seq None)) list
            ∙ are.copied who.cpu.0 commands (get_or copies who.cpu.0 []) (slice_get_within script.lists who.cpu.0 commands is) is list who.seq
            ∙ sym (ap (λ (q : Option (List Command)). option_and_then (copied_from script.layout (take who.seq (answered (unwrap_or q []) (rows-of who.cpu.0)))) (option_and_then (λ (l : List Command). slice_get l who.seq) q)) is)
