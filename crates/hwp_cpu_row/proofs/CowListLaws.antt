-- What a processor's list of frozen and switched translations says is what its earlier commands and their answers made of each.
use Rattle.std.proofs.Common.{◌≡◌, ℕ, zero, suc, ◌+◌, ◌<◌, ◌≤◌, ◌==◌, ◌&&◌, ◌||◌, Bool, true, false, List, [], ◌∷◌, ◌++◌, Option, Some, None, get_or, length, replicate, set, slice_get, take, drop, is_some, not, if◌then◌else◌, cond, refl, sym, ap, ◌∙◌, subst, inl, inr, ◌⊎◌, arith}
use Rattle.std.specs.List.{list_any, zip}
use Rattle.std.specs.Option.{option_map_or}
use Rattle.std.proofs.lemmas.Bool.{cases_eq, cases_lt, eq-eqb, ne_eqb}
use Rattle.std.proofs.lemmas.Option.{slice_get_past}
use Rattle.std.proofs.lemmas.List.{drop_all, drop_more, get_or-set_other, get_or-set_same, get_or_at, get_or_past, length-replicate, length-set, length-take-le, set_at, set_past, take_all, take_more, append-nil, append_assoc}
use Rattle.hwp_claim.specs.hwp_geom.declared.Layout.{Layout}
use Rattle.hwp_claim.specs.hwp_geom.declared.Thread.{Thread}
use Rattle.hwp_claim.specs.hwp_geom.declared.ThreadDecl.{ThreadDecl}
use Rattle.hwp_claim.specs.hwp_geom.declared.TransDecl.{TransDecl}
use Rattle.hwp_claim.specs.hwp_geom.declared.VSlot.{VSlot}
use Rattle.hwp_claim.specs.hwp_script_words.declared.Command.{Command}
use Rattle.hwp_claim.specs.hwp_script_words.declared.Command.TheVariants as commands
use Rattle.hwp_claim.specs.hwp_script_words.Forks.{freezes, is_cow, slots}
use Rattle.hwp_claim.specs.hwp_report_text.declared.Answer.{Answer}
use Rattle.hwp_claim.specs.hwp_report_text.declared.Answer.TheVariants as answers
use Rattle.hwp_claim.specs.hwp_law.Cows.{Cow, acting, copied_from, cow_after, cow_of, own_page, twin_or}
use Rattle.hwp_claim.proofs.of_hwp_law.CowLaws.{both-false, cow-more}
use Rattle.hwp_cpu_row.specs.CowLists.{AreCowsOf, KnowsCows, acting_in, copied_in, cow_in, first_cows, freezes_at, frozen_by, frozen_from, frozen_in, switched_by, switched_in, told_in}

-- ---- at first

own-everywhere : (n i : ℕ) → get_or (replicate n own_page) i own_page ≡ own_page
own-everywhere zero i = refl
own-everywhere (suc n) zero = refl
own-everywhere (suc n) (suc i) = own-everywhere n i

first-by : (b : Bool) (n i : ℕ) → get_or (if b then replicate n own_page else []) i own_page ≡ own_page
first-by true n i = own-everywhere n i
first-by false n i = refl

pub first-known : (layout : Layout) → KnowsCows layout [] (first_cows layout)
first-known layout = λ slot. first-by (list_any is_some layout.twins) (length layout.trans) slot.0

pub first-are : (layout : Layout) → AreCowsOf layout (first_cows layout)
first-are layout = record {
  all = λ some. ap (λ (b : Bool). length (if b then replicate (length layout.trans) own_page else [])) some ∙ length-replicate (length layout.trans) own_page;
  none = λ none. ap (λ (b : Bool). length (if b then replicate (length layout.trans) own_page else [])) none;
}

-- ---- the command that the processor acts on

pub acting-known : (layout : Layout) (earlier : List (Command × Answer)) (cows : List Cow) (command : Command) → KnowsCows layout earlier cows → acting_in layout cows command ≡ acting layout earlier command
acting-known layout earlier cows (commands.Load thread slot line) known = ap (λ (c : Cow). commands.Load thread (if c.switched then twin_or layout slot else slot) line) (known slot)
acting-known layout earlier cows (commands.Fetch thread slot line) known = ap (λ (c : Cow). commands.Fetch thread (if c.switched then twin_or layout slot else slot) line) (known slot)
acting-known layout earlier cows (commands.KLoad thread slot line) known = ap (λ (c : Cow). commands.KLoad thread (if c.switched then twin_or layout slot else slot) line) (known slot)
acting-known layout earlier cows (commands.Store thread slot line word) known = ap (λ (c : Cow). commands.Store thread (if c.frozen then twin_or layout slot else slot) line word) (known slot)
acting-known layout earlier cows (commands.Free slot) known = ap (λ (c : Cow). commands.Free (if c.switched then twin_or layout slot else slot)) (known slot)
acting-known layout earlier cows command known = refl

pub copied-known : (layout : Layout) (earlier : List (Command × Answer)) (cows : List Cow) (command : Command) → KnowsCows layout earlier cows → copied_in cows command ≡ copied_from layout earlier command
copied-known layout earlier cows (commands.Store thread slot line word) known = ap (λ (c : Cow). if c.frozen && not c.switched then Some slot else None) (known slot)
copied-known layout earlier cows command known = refl

-- ---- a fork that was done

module _ (layout : Layout) (thread : Thread) where
  length-frozen : (m : ℕ) (cows : List Cow) → length (frozen_from layout thread m cows) ≡ length cows
  length-frozen m [] = refl
  length-frozen m (c ∷ cs) = let rest : length (frozen_from layout thread (m + 1) cs) ≡ length cs = length-frozen (m + 1) cs in omega (arith, rest)

  frozen-more : (m : ℕ) (cows : List Cow) (c : Cow) → frozen_from layout thread m (cows ++ c ∷ []) ≡ frozen_from layout thread m cows ++ frozen_by (freezes_at layout thread (m + length cows)) c ∷ []
  frozen-more m [] c = let same : m ≡ m + 0 = omega arith in ap (λ (n : ℕ). frozen_by (freezes_at layout thread n) c ∷ []) same
  frozen-more m (x ∷ cs) c =
      let same : (m + 1) + length cs ≡ m + length (x ∷ cs) = omega arith in
      ap (λ (l : List Cow). frozen_by (freezes_at layout thread m) x ∷ l) (frozen-more (m + 1) cs c ∙ ap (λ (n : ℕ). frozen_from layout thread (m + 1) cs ++ frozen_by (freezes_at layout thread n) c ∷ []) same)

  -- what the loop has made of the list so far
  frozen-next : (n : ℕ) (now old : List Cow) (c made : Cow) → now ≡ frozen_from layout thread 0 (take n old) ++ drop n old → n < length old → c ≡ get_or now n own_page → made ≡ frozen_by (freezes_at layout thread n) c
      → set now n made ≡ frozen_from layout thread 0 (take (n + 1) old) ++ drop (n + 1) old
  frozen-next n now old c made are within was is =
      let front : List Cow = frozen_from layout thread 0 (take n old) in
      let taken : length (take n old) ≡ n = length-take-le n old (omega (arith, within)) in
      let long : length front ≡ n = length-frozen 0 (take n old) ∙ taken in
      let parts : now ≡ front ++ get_or old n own_page ∷ drop (n + 1) old = are ∙ ap (λ (l : List Cow). front ++ l) (drop_more old n own_page within) in
      let read : get_or now n own_page ≡ get_or old n own_page = ap (λ (l : List Cow). get_or l n own_page) parts ∙ get_or_at front (get_or old n own_page) (drop (n + 1) old) own_page n long in
      let new : made ≡ frozen_by (freezes_at layout thread (0 + length (take n old))) (get_or old n own_page) = is ∙ ap (frozen_by (freezes_at layout thread n)) (was ∙ read) ∙ ap (λ (k : ℕ). frozen_by (freezes_at layout thread k) (get_or old n own_page)) (let same : n ≡ 0 + length (take n old) = omega (arith, taken) in same) in
      ap (λ (l : List Cow). set l n made) parts ∙ set_at front (get_or old n own_page) (drop (n + 1) old) made n long
      ∙ ap (λ (x : Cow). front ++ x ∷ drop (n + 1) old) new
      ∙ sym (append_assoc front (frozen_by (freezes_at layout thread (0 + length (take n old))) (get_or old n own_page) ∷ []) (drop (n + 1) old))
      ∙ ap (λ (l : List Cow). l ++ drop (n + 1) old) (sym (frozen-more 0 (take n old) (get_or old n own_page)) ∙ ap (frozen_from layout thread 0) (sym (take_more old n own_page within)))

  pub frozen-step : (n : ℕ) (now old new : List Cow) (freezes : Bool) → now ≡ frozen_from layout thread 0 (take n old) ++ drop n old → n < length old → freezes ≡ freezes_at layout thread n → new ≡ set now n (frozen_by freezes (get_or now n own_page))
      → new ≡ frozen_from layout thread 0 (take (n + 1) old) ++ drop (n + 1) old
  frozen-step n now old new freezes are within so is = is ∙ frozen-next n now old (get_or now n own_page) (frozen_by freezes (get_or now n own_page)) are within refl (ap (λ (b : Bool). frozen_by b (get_or now n own_page)) so)

  pub frozen-whole : (n : ℕ) (now old : List Cow) → now ≡ frozen_from layout thread 0 (take n old) ++ drop n old → length old ≤ n → now ≡ frozen_from layout thread 0 old
  frozen-whole n now old are past =
      are ∙ ap (λ (l : List Cow). frozen_from layout thread 0 (take n old) ++ l) (drop_all n old past) ∙ append-nil (frozen_from layout thread 0 (take n old)) ∙ ap (frozen_from layout thread 0) (take_all n old past)

  frozen-read : (m : ℕ) (cows : List Cow) (n : ℕ) → n < length cows → get_or (frozen_from layout thread m cows) n own_page ≡ frozen_by (freezes_at layout thread (m + n)) (get_or cows n own_page)
  frozen-read m [] n within = absurd (omega (arith, within))
  frozen-read m (c ∷ cs) zero within = let same : m ≡ m + 0 = omega arith in ap (λ (k : ℕ). frozen_by (freezes_at layout thread k) c) same
  frozen-read m (c ∷ cs) (suc n) within =
      let same : (m + 1) + n ≡ m + suc n = omega arith in
      frozen-read (m + 1) cs n (omega (arith, within)) ∙ ap (λ (k : ℕ). frozen_by (freezes_at layout thread k) (get_or cs n own_page)) same

  -- no translation is frozen where none has a twin
  untwinned : (process page : ℕ) (trans : List TransDecl) (twins : List (Option VSlot)) → list_any is_some twins ≡ false
      → list_any (λ (s : TransDecl × Option VSlot). is_cow process s && (s.0.page.0 == page)) (zip trans twins) ≡ false
  untwinned process page [] twins none = refl
  untwinned process page (t ∷ ts) [] none = refl
  untwinned process page (t ∷ ts) (w ∷ ws) none =
      let apart : (is_some w ≡ false) × (list_any is_some ws ≡ false) = both-false (is_some w) (list_any is_some ws) none in
      ap (λ (b : Bool). (((t.process.0 == process) && b) && (t.page.0 == page)) || list_any (λ (s : TransDecl × Option VSlot). is_cow process s && (s.0.page.0 == page)) (zip ts ws)) apart.0
      ∙ ap (λ (b : Bool). (b && (t.page.0 == page)) || list_any (λ (s : TransDecl × Option VSlot). is_cow process s && (s.0.page.0 == page)) (zip ts ws)) (none-both (t.process.0 == process))
      ∙ untwinned process page ts ws apart.1
    where
      none-both : (b : Bool) → (b && false) ≡ false
      none-both true = refl
      none-both false = refl

  -- nor is one that isn't in the list
  outside : (cows : List Cow) (n : ℕ) → AreCowsOf layout cows → length cows ≤ n → freezes_at layout thread n ≡ false
  outside cows n are past = which (list_any is_some layout.twins) refl
    where
      threads-none : (page : ℕ) (o : Option ThreadDecl) → list_any is_some layout.twins ≡ false → option_map_or (λ (t : ThreadDecl). freezes layout t.process.0 page) o false ≡ false
      threads-none page None none = refl
      threads-none page (Some t) none = untwinned t.process.0 page layout.trans layout.twins none

      trans-none : (o : Option TransDecl) → list_any is_some layout.twins ≡ false
          → option_map_or (λ (v : TransDecl). option_map_or (λ (t : ThreadDecl). freezes layout t.process.0 v.page.0) (slice_get layout.threads thread.0) false) o false ≡ false
      trans-none None none = refl
      trans-none (Some v) none = threads-none v.page.0 (slice_get layout.threads thread.0) none

      which : (b : Bool) → list_any is_some layout.twins ≡ b → freezes_at layout thread n ≡ false
      which true some = ap (λ (o : Option TransDecl). option_map_or (λ (v : TransDecl). option_map_or (λ (t : ThreadDecl). freezes layout t.process.0 v.page.0) (slice_get layout.threads thread.0) false) o false)
          (slice_get_past layout.trans n (let long : length cows ≡ length layout.trans = are.all some in omega (arith, long, past)))
      which false none = trans-none (slice_get layout.trans n) none

  pub frozen-is : (cows : List Cow) (n : ℕ) → AreCowsOf layout cows → get_or (frozen_from layout thread 0 cows) n own_page ≡ frozen_by (freezes_at layout thread n) (get_or cows n own_page)
  frozen-is cows n are = elim (cases_lt n (length cows)) [
    | inl within ↦ frozen-read 0 cows n within ∙ ap (λ (k : ℕ). frozen_by (freezes_at layout thread k) (get_or cows n own_page)) (let same : 0 + n ≡ n = omega arith in same)
    | inr past ↦ get_or_past (frozen_from layout thread 0 cows) n own_page (let long : length (frozen_from layout thread 0 cows) ≡ length cows = length-frozen 0 cows in omega (arith, long, past))
        ∙ sym (ap (λ (b : Bool). frozen_by b (get_or cows n own_page)) (outside cows n are past) ∙ ap (frozen_by false) (get_or_past cows n own_page past))
  ]

-- ---- a store that was made

or-none : (b : Bool) → (b || false) ≡ b
or-none true = refl
or-none false = refl

and-all : (b : Bool) → (b && true) ≡ b
and-all true = refl
and-all false = refl

and-none : (b : Bool) → (b && false) ≡ false
and-none true = refl
and-none false = refl

pub switched-is : (cows : List Cow) (n m : ℕ) → get_or (set cows n (switched_by (get_or cows n own_page))) m own_page
    ≡ record (get_or cows m own_page) { switched = (get_or cows m own_page).switched || ((get_or cows m own_page).frozen && (n == m)) }
switched-is cows n m = elim (cases_eq m n) [
  | inr apart ↦
      let other : (n == m) ≡ false = ne_eqb n m (λ same. apart (sym same)) in
      get_or-set_other cows n m (switched_by (get_or cows n own_page)) own_page apart
      ∙ sym (ap (λ (b : Bool). record (get_or cows m own_page) { switched = (get_or cows m own_page).switched || ((get_or cows m own_page).frozen && b) }) other
      ∙ ap (λ (b : Bool). record (get_or cows m own_page) { switched = (get_or cows m own_page).switched || b }) (and-none (get_or cows m own_page).frozen)
      ∙ ap (λ (b : Bool). record (get_or cows m own_page) { switched = b }) (or-none (get_or cows m own_page).switched))
  | inl same ↦ subst (λ (k : ℕ). get_or (set cows n (switched_by (get_or cows n own_page))) k own_page ≡ record (get_or cows k own_page) { switched = (get_or cows k own_page).switched || ((get_or cows k own_page).frozen && (n == k)) }) (sym same)
      (own n ∙ sym (ap (λ (b : Bool). record (get_or cows n own_page) { switched = (get_or cows n own_page).switched || ((get_or cows n own_page).frozen && b) }) (eq-eqb n n refl)
      ∙ ap (λ (b : Bool). record (get_or cows n own_page) { switched = (get_or cows n own_page).switched || b }) (and-all (get_or cows n own_page).frozen)))
]
  where
    own : (k : ℕ) → get_or (set cows k (switched_by (get_or cows k own_page))) k own_page ≡ switched_by (get_or cows k own_page)
    own k = elim (cases_lt k (length cows)) [
      | inl within ↦ get_or-set_same cows k (switched_by (get_or cows k own_page)) own_page within
      | inr past ↦ ap (λ (l : List Cow). get_or l k own_page) (set_past cows k (switched_by (get_or cows k own_page)) past) ∙ get_or_past cows k own_page past ∙ sym (ap switched_by (get_or_past cows k own_page past))
    ]

-- ---- a command and its answer

pub told-length : (layout : Layout) (command : Command) (answer : Answer) (cows : List Cow) → length (told_in layout command answer cows) ≡ length cows
told-length layout (commands.Fork thread process) answers.Done cows = length-frozen layout thread 0 cows
told-length layout command answers.Done cows = refl
told-length layout (commands.Store thread slot line word) (answers.Stored place) cows = length-set cows slot.0 (switched_by (cow_in cows slot))
told-length layout command (answers.Stored place) cows = refl
told-length layout command answer cows = refl

pub told-are : (layout : Layout) (command : Command) (answer : Answer) (cows : List Cow) → AreCowsOf layout cows → AreCowsOf layout (told_in layout command answer cows)
told-are layout command answer cows are = record { all = λ some. told-length layout command answer cows ∙ are.all some; none = λ none. told-length layout command answer cows ∙ are.none none }

told-is : (layout : Layout) (command : Command) (answer : Answer) (cows : List Cow) (slot : VSlot) → AreCowsOf layout cows → cow_in (told_in layout command answer cows) slot ≡ cow_after layout slot command answer (cow_in cows slot)
told-is layout (commands.Fork thread process) answers.Done cows slot are = frozen-is layout thread cows slot.0 are
told-is layout command answers.Done cows slot are = refl
told-is layout (commands.Store thread other line word) (answers.Stored place) cows slot are = switched-is cows other.0 slot.0
told-is layout command (answers.Stored place) cows slot are = refl
told-is layout command answer cows slot are = refl

pub told-known : (layout : Layout) (earlier : List (Command × Answer)) (command : Command) (answer : Answer) (cows : List Cow) → AreCowsOf layout cows → KnowsCows layout earlier cows
    → KnowsCows layout (earlier ++ (command, answer) ∷ []) (told_in layout command answer cows)
told-known layout earlier command answer cows are known =
    λ slot. told-is layout command answer cows slot are ∙ ap (cow_after layout slot command answer) (known slot) ∙ sym (cow-more layout earlier command answer slot)
