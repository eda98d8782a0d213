-- How many machine checks of an access the histories show for each command, one machine check after another.
use Rattle.std.proofs.Common.{◌≡◌, ◌⊎◌, inl, inr, ℕ, ◌+◌, ◌^◌, ◌<◌, ◌≤◌, ◌==◌, ◌&&◌, Bool, true, false, cond, List, [], ◌∷◌, ◌++◌, Some, get_or, length, slice_get, slice_index_or, slice_set, sum_by, take, refl, sym, ap, ◌∙◌, subst, arith}
use Rattle.std.proofs.lemmas.Bool.{cases_eq, eq-eqb, ne_eqb}
use Rattle.std.proofs.lemmas.List.{get_or-set_other, get_or-set_same, length-append, length-set, length-take-le, take_all}
use Rattle.std.proofs.lemmas.List.Sums.{count_by-le-length, sum_by-append, sum_by-cons, sum_by_more}
use Rattle.std.proofs.lemmas.Option.{get_or_from_slice_get, slice_get-get_or, slice_get_within}
use Rattle.hwp_banks.specs.hwp_geom.declared.Cpu.{Cpu}
use Rattle.hwp_banks.specs.hwp_geom.declared.Who.{Who}
use Rattle.hwp_law.specs.hwp_page.declared.Entry.{Entry}
use Rattle.hwp_law.specs.Commands.{is_check}
use Rattle.hwp_law.specs.Lines.{is_same_command}
use Rattle.hwp_check_events.specs.Indexed.{AreAdded, AreChecks, AreFew, all_checkers, checker, checks_by, checks_in, page_checkers, with_check}

and-true : (b : Bool) → (b && true) ≡ b
and-true true = refl
and-true false = refl

and-false : (b : Bool) → (b && false) ≡ false
and-false true = refl
and-false false = refl

abbrev once : Bool → ℕ
once b = cond b 1 0

-- there are no more machine checks than entries
page-short : (es : List Entry) → length (page_checkers es) ≤ length es
page-short [] = omega arith
page-short (e ∷ es) = by (is_check e.what) (page-short es)
  where
    by : (b : Bool) → length (page_checkers es) ≤ length es → length (cond b (e.who ∷ []) [] ++ page_checkers es) ≤ length (e ∷ es)
    by true rest = omega (arith, rest)
    by false rest = omega (arith, rest)

all-short : (pages : List (List Entry)) → length (all_checkers pages) ≤ sum_by length pages
all-short [] = omega arith
all-short (es ∷ rest) =
    let both : length (page_checkers es ++ all_checkers rest) ≡ length (page_checkers es) + length (all_checkers rest) = length-append (page_checkers es) (all_checkers rest) in
    let first : length (page_checkers es) ≤ length es = page-short es in
    let more : length (all_checkers rest) ≤ sum_by length rest = all-short rest in
    let all : sum_by length (es ∷ rest) ≡ length es + sum_by length rest = sum_by-cons length es rest in
    omega (arith, both, first, more, all)

module _ (cpu : Cpu) where
  abbrev own : ℕ → Who → Bool
  own seq w = is_same_command (record { cpu = cpu; seq = seq }) w

  abbrev raise : ℕ → Who → ℕ
  raise seq w = cond (own seq w) 1 0

  -- one machine check
  check-size : (w : Who) (counts : List ℕ) → length (with_check cpu w counts) ≡ length counts
  check-size w counts = by (cpu.0 == w.cpu.0)
    where
      by : (b : Bool) → length (cond b (slice_set counts w.seq (slice_index_or counts w.seq 0 + 1)) counts) ≡ length counts
      by true = length-set counts w.seq (slice_index_or counts w.seq 0 + 1)
      by false = refl

  check-each : (w : Who) (counts : List ℕ) (seq n : ℕ) → slice_get (with_check cpu w counts) seq ≡ Some n → (m : ℕ) × (slice_get counts seq ≡ Some m) × (n ≡ m + raise seq w)
  check-each w counts seq n there = (get_or counts seq 0, was, sym (get_or_from_slice_get (with_check cpu w counts) seq n 0 there) ∙ by (cpu.0 == w.cpu.0) (cases_eq seq w.seq))
    where
      within : seq < length counts
      within = subst (λ (k : ℕ). seq < k) (check-size w counts) (slice_get_within (with_check cpu w counts) seq n there)

      was : slice_get counts seq ≡ Some (get_or counts seq 0)
      was = slice_get-get_or counts seq 0 within

      at-same : seq ≡ w.seq → get_or (slice_set counts w.seq (slice_index_or counts w.seq 0 + 1)) seq 0 ≡ get_or counts seq 0 + 1
      at-same same =
          ap (λ (k : ℕ). get_or (slice_set counts w.seq (slice_index_or counts w.seq 0 + 1)) k 0) same ∙ get_or-set_same counts w.seq (slice_index_or counts w.seq 0 + 1) 0 (subst (λ (k : ℕ). k < length counts) same within)
          ∙ ap (λ (k : ℕ). get_or counts k 0 + 1) (sym same)

      by : (s : Bool) → (seq ≡ w.seq) ⊎ (seq ≡ w.seq → ⊥) → get_or (cond s (slice_set counts w.seq (slice_index_or counts w.seq 0 + 1)) counts) seq 0 ≡ get_or counts seq 0 + cond (s && (seq == w.seq)) 1 0
      by true (inl same) = at-same same ∙ ap (λ (b : Bool). get_or counts seq 0 + cond b 1 0) (sym (eq-eqb seq w.seq same))
      by true (inr other) =
          get_or-set_other counts w.seq seq (slice_index_or counts w.seq 0 + 1) 0 other ∙ (let k : get_or counts seq 0 ≡ get_or counts seq 0 + 0 = omega arith in k) ∙ ap (λ (b : Bool). get_or counts seq 0 + cond b 1 0) (sym (ne_eqb seq w.seq other))
      by false which = let k : get_or counts seq 0 ≡ get_or counts seq 0 + 0 = omega arith in k

  -- several
  pub checks-first : (list : List Who) (counts : List ℕ) → AreAdded (λ (seq : ℕ). checks_by cpu seq (take 0 list)) counts counts
  checks-first list counts = record { size = refl; each = λ seq n there. (n, there, let none : checks_by cpu seq (take 0 list) ≡ 0 = ap (checks_by cpu seq) (take-none list) in omega (arith, none)) }
    where
      take-none : (xs : List Who) → take 0 xs ≡ []
      take-none [] = refl
      take-none (x ∷ xs) = refl

  pub checks-next : (list : List Who) (old counts next : List ℕ) (i : ℕ) (d : Who) → i < length list → next ≡ with_check cpu (get_or list i d) counts → AreAdded (λ (seq : ℕ). checks_by cpu seq (take i list)) old counts
      → AreAdded (λ (seq : ℕ). checks_by cpu seq (take (i + 1) list)) old next
  checks-next list old counts next i d within is added = record { size = ap length is ∙ check-size (get_or list i d) counts ∙ added.size; each = each }
    where
      each : (seq n : ℕ) → slice_get next seq ≡ Some n → (m : ℕ) × (slice_get old seq ≡ Some m) × (n ≡ m + checks_by cpu seq (take (i + 1) list))
      each seq n there =
          let one = check-each (get_or list i d) counts seq n (subst (λ (l : List ℕ). slice_get l seq ≡ Some n) is there) in
          let was = added.each seq one.0 one.1 in (
            was.0,
            was.1,
            (let more : checks_by cpu seq (take (i + 1) list) ≡ checks_by cpu seq (take i list) + raise seq (get_or list i d) = sum_by_more (raise seq) list i d within in
                let a : n ≡ one.0 + raise seq (get_or list i d) = one.2 in let b : one.0 ≡ was.0 + checks_by cpu seq (take i list) = was.2 in omega (arith, more, a, b)),
          )

  pub checks-few : (list : List Who) (old counts : List ℕ) (i : ℕ) → i < length list → AreFew old (length list) → AreAdded (λ (seq : ℕ). checks_by cpu seq (take i list)) old counts → AreFew counts 1
  checks-few list old counts i within few added = λ seq n there.
      let was = added.each seq n there in
      let most : checks_by cpu seq (take i list) ≤ length (take i list) = count_by-le-length (own seq) (take i list) in
      let size : length (take i list) ≡ i = length-take-le i list (omega (arith, within)) in
      let room : was.0 + length list < 2 ^ 64 = few seq was.0 was.1 in
      let is : n ≡ was.0 + checks_by cpu seq (take i list) = was.2 in
      omega (arith, most, size, room, is, within)

  pub checks-last : (list : List Who) (old counts : List ℕ) (i : ℕ) → length list ≤ i → AreAdded (λ (seq : ℕ). checks_by cpu seq (take i list)) old counts → AreAdded (λ (seq : ℕ). checks_by cpu seq list) old counts
  checks-last list old counts i all added = subst (λ (l : List Who). AreAdded (λ (seq : ℕ). checks_by cpu seq l) old counts) (take_all i list all) added

  -- those of a command are as many as the histories show
  entry-counted : (seq : ℕ) (e : Entry) → checks_by cpu seq (checker e) ≡ cond (own seq e.who && is_check e.what) 1 0
  entry-counted seq e = by (is_check e.what)
    where
      by : (b : Bool) → checks_by cpu seq (cond b (e.who ∷ []) []) ≡ cond (own seq e.who && b) 1 0
      by true = sum_by-cons (raise seq) e.who [] ∙ (let k : raise seq e.who + 0 ≡ raise seq e.who = omega arith in k) ∙ ap once (sym (and-true (own seq e.who)))
      by false = ap once (sym (and-false (own seq e.who)))

  page-counted : (seq : ℕ) (es : List Entry) → checks_by cpu seq (page_checkers es) ≡ checks_in cpu seq es
  page-counted seq [] = refl
  page-counted seq (e ∷ es) =
      let both : checks_by cpu seq (checker e ++ page_checkers es) ≡ checks_by cpu seq (checker e) + checks_by cpu seq (page_checkers es) = sum_by-append (raise seq) (checker e) (page_checkers es) in
      let one : checks_by cpu seq (checker e) ≡ cond (own seq e.who && is_check e.what) 1 0 = entry-counted seq e in
      let rest : checks_by cpu seq (page_checkers es) ≡ checks_in cpu seq es = page-counted seq es in
      let all : checks_in cpu seq (e ∷ es) ≡ cond (own seq e.who && is_check e.what) 1 0 + checks_in cpu seq es = sum_by-cons (λ (x : Entry). cond (own seq x.who && is_check x.what) 1 0) e es in
      omega (arith, both, one, rest, all)

  all-counted : (seq : ℕ) (pages : List (List Entry)) → checks_by cpu seq (all_checkers pages) ≡ sum_by (checks_in cpu seq) pages
  all-counted seq [] = refl
  all-counted seq (es ∷ rest) =
      let both : checks_by cpu seq (page_checkers es ++ all_checkers rest) ≡ checks_by cpu seq (page_checkers es) + checks_by cpu seq (all_checkers rest) = sum_by-append (raise seq) (page_checkers es) (all_checkers rest) in
      let one : checks_by cpu seq (page_checkers es) ≡ checks_in cpu seq es = page-counted seq es in
      let more : checks_by cpu seq (all_checkers rest) ≡ sum_by (checks_in cpu seq) rest = all-counted seq rest in
      let all : sum_by (checks_in cpu seq) (es ∷ rest) ≡ checks_in cpu seq es + sum_by (checks_in cpu seq) rest = sum_by-cons (checks_in cpu seq) es rest in
      omega (arith, both, one, more, all)

  -- counts that begin with none
  pub none-few : (pages : List (List Entry)) (list : List Who) (counts : List ℕ) → list ≡ all_checkers pages → sum_by length pages < 2 ^ 64 → ((k : ℕ) (d : ℕ) → k < length counts → slice_index_or counts k d ≡ 0) → AreFew counts (length list)
  none-few pages list counts is room none = λ seq n there.
      let zero_is : n ≡ 0 = sym (get_or_from_slice_get counts seq n n there) ∙ none seq n (slice_get_within counts seq n there) in
      let same : length list ≡ length (all_checkers pages) = ap length is in
      let short : length (all_checkers pages) ≤ sum_by length pages = all-short pages in
      omega (arith, zero_is, same, short, room)

  pub are-checks : (pages : List (List Entry)) (list : List Who) (count : ℕ) (nones counts : List ℕ) → list ≡ all_checkers pages → length nones ≡ count → ((k : ℕ) (d : ℕ) → k < length nones → slice_index_or nones k d ≡ 0)
      → AreAdded (λ (seq : ℕ). checks_by cpu seq list) nones counts → AreChecks cpu count pages counts
  are-checks pages list count nones counts is size none added = record { size = added.size ∙ size; each = each }
    where
      each : (seq n : ℕ) → slice_get counts seq ≡ Some n → n ≡ sum_by (checks_in cpu seq) pages
      each seq n there =
          let was = added.each seq n there in
          let zero_is : was.0 ≡ 0 = sym (get_or_from_slice_get nones seq was.0 was.0 was.1) ∙ none seq was.0 (slice_get_within nones seq was.0 was.1) in
          let n_is : n ≡ was.0 + checks_by cpu seq list = was.2 in
          let same : checks_by cpu seq list ≡ checks_by cpu seq (all_checkers pages) = ap (checks_by cpu seq) is in
          let all : checks_by cpu seq (all_checkers pages) ≡ sum_by (checks_in cpu seq) pages = all-counted seq pages in
          omega (arith, zero_is, n_is, same, all)
