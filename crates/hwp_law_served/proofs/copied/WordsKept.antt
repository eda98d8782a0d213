-- What the accesses of a finished copy leave on a line: the word that was stored there last is that of the load of the line, or the store's own.
use Rattle.std.proofs.Common.{◌≡◌, ◌⊎◌, inl, inr, ℕ, suc, ◌+◌, ◌<◌, ◌≤◌, ◌==◌, Bool, true, false, cond, if◌then◌else◌, nat_lt, List, [], ◌∷◌, ◌++◌, Option, None, Some, filter_map, length, map, refl, sym, ap, ◌∙◌, subst, arith, true≢false}
use Rattle.std.specs.List.{cons_option}
use Rattle.std.proofs.lemmas.Bool.{both_ways, cases_eq, eq-eqb, false_from_ne_true, lt-ltb, ne_eqb}
use Rattle.hwp_law.specs.hwp_geom.declared.Layout.{Layout}
use Rattle.hwp_law.specs.hwp_geom.declared.Page.{Page}
use Rattle.hwp_law.specs.hwp_geom.declared.VSlot.{VSlot}
use Rattle.hwp_law.specs.hwp_geom.declared.Who.{Who}
use Rattle.hwp_law.specs.hwp_geom.Limits.{line_limit}
use Rattle.hwp_law.specs.hwp_banks.Banks.{Banks}
use Rattle.hwp_law.specs.hwp_page.declared.Met.TheVariants.{Word}
use Rattle.hwp_law.specs.hwp_page.declared.What.{What}
use Rattle.hwp_law.specs.hwp_page.declared.What.TheVariants as entries
use Rattle.hwp_plain.specs.hwp_core_rule.declared.Made.{Made}
use Rattle.hwp_plain.specs.hwp_core_rule.declared.View.{View}
use Rattle.hwp_plain.specs.hwp_core_rule.Lists.{EachMember, SomeMember}
use Rattle.hwp_plain.proofs.of_hwp_core_rule.Lists.{at_last, at_longer}
use Rattle.hwp_law.specs.Copies.{is_store}
use Rattle.hwp_law.specs.Private.{last_word, word_in}
use Rattle.hwp_cpu_row.specs.hwp_claim.Checks.{left_by}
use Rattle.hwp_cpu_access.specs.hwp_fault.declared.Request.{Request}
use Rattle.hwp_cpu_access.specs.hwp_fault.Accesses.{what_of}
use Rattle.hwp_cpu_access.specs.hwp_fork.declared.cow.Cow.{Cow}
use Rattle.hwp_cpu_access.specs.hwp_fork.declared.cow.CowAt.{CowAt}
use Rattle.hwp_cpu_access.specs.hwp_fork.declared.cow.CowAt.TheVariants as at
use Rattle.hwp_cpu_access.specs.hwp_fork.declared.cow.Sub.{Sub}
use Rattle.hwp_cpu_access.specs.hwp_fork.declared.cow.Sub.TheVariants as subs
use Rattle.hwp_cpu_access.specs.hwp_fork.Cows as cows
use Rattle.hwp_cpu_access.specs.Copyings.{load_of, store_of}
use Rattle.hwp_cpu_access.specs.Runs.{AreRuns, IsAccessRun, IsFreeRun, IsRun, Run, made_by, words_of}
use Rattle.hwp_law_served.proofs.copied.CopyCounts.{no-store}
use Rattle.hwp_law_served.proofs.copied.OwnIn.{in_page}

-- ---- the word that some entries leave on a line, where it held this one before

abbrev pub left_on : ℕ → ℕ → List Made → ℕ
left_on k before l = last_word before (filter_map (word_in k) (map (λ (m : Made). m.entry.what) l))

-- one entry more in front
more : (k : ℕ) (before : ℕ) (o : Option ℕ) (ws a : List ℕ) → ((b : ℕ) → last_word b (ws) ≡ last_word b a) → last_word before (cons_option o ws) ≡ last_word before (cons_option o a)
more k before None ws a same = same before
more k before (Some w) ws a same = same w

left-append : (k before : ℕ) (a b : List Made) → left_on k before (a ++ b) ≡ left_on k (left_on k before a) b
left-append k before [] b = refl
left-append k before (m ∷ ms) b = which (word_in k m.entry.what) (λ n. left-append k n ms b)
  where
    which : (o : Option ℕ) → ((n : ℕ) → left_on k n (ms ++ b) ≡ left_on k (left_on k n ms) b)
        → last_word before (cons_option o (filter_map (word_in k) (map (λ (x : Made). x.entry.what) (ms ++ b)))) ≡ left_on k (last_word before (cons_option o (filter_map (word_in k) (map (λ (x : Made). x.entry.what) ms)))) b
    which None rest = rest before
    which (Some w) rest = rest w

left-none : (k before : ℕ) (l : List Made) → EachMember (λ (m : Made). word_in k m.entry.what ≡ None) l → left_on k before l ≡ before
left-none k before [] each = refl
left-none k before (m ∷ ms) each =
    ap (λ (o : Option ℕ). last_word before (cons_option o (filter_map (word_in k) (map (λ (x : Made). x.entry.what) ms)))) (each 0 m refl)
    ∙ left-none k before ms (λ i x there. each (suc i) x there)

-- what is no store leaves none
stores-none : (k : ℕ) (w : What) → is_store w ≡ false → word_in k w ≡ None
stores-none k (entries.Store slot line met) is = absurd (true≢false is)
stores-none k _ is = refl

-- all of its stores are in the page
page-word : (k : ℕ) (page : Page) (m : Made) (ms : List Made) (before : ℕ) (b : Bool) → (m.page.0 == page.0) ≡ b → (is_store m.entry.what ≡ true → m.page ≡ page) → ((n : ℕ) → left_on k n (in_page page ms) ≡ left_on k n ms)
    → left_on k before (cond b (m ∷ in_page page ms) (in_page page ms)) ≡ left_on k before (m ∷ ms)
page-word k page m ms before true is its rest = more k before (word_in k m.entry.what) (filter_map (word_in k) (map (λ (x : Made). x.entry.what) (in_page page ms))) (filter_map (word_in k) (map (λ (x : Made). x.entry.what) ms)) rest
page-word k page m ms before false is its rest =
    rest before
    ∙ sym (ap (λ (o : Option ℕ). last_word before (cons_option o (filter_map (word_in k) (map (λ (x : Made). x.entry.what) ms))))
    (stores-none k m.entry.what (false_from_ne_true (is_store m.entry.what) (λ yes. both_ways (m.page.0 == page.0) is (eq-eqb m.page.0 page.0 (ap (λ (p : Page). p.0) (its yes)))))))

pub left-page : (k : ℕ) (page : Page) (l : List Made) (before : ℕ) → EachMember (λ (m : Made). is_store m.entry.what ≡ true → m.page ≡ page) l → left_on k before (in_page page l) ≡ left_on k before l
left-page k page [] before each = refl
left-page k page (m ∷ ms) before each = page-word k page m ms before (m.page.0 == page.0) refl (each 0 m refl) (λ n. left-page k page ms n (λ i x there. each (suc i) x there))

-- ---- by an access

access-left : (k before : ℕ) (layout : Layout) (view : View) (a : Request) (banks : Banks) (r : Run) (run : IsAccessRun layout view a banks r) → left_on k before r.made ≡ last_word before (cons_option (word_in k (what_of a run.mask r.word)) [])
access-left k before layout view a banks r run =
    ap (left_on k before) run.made_is
    ∙ left-append k before run.before (run.last ∷ [])
    ∙ ap (λ (b : ℕ). left_on k b (run.last ∷ [])) (left-none k before run.before (λ i m there. stores-none k m.entry.what (no-store a m (run.such i m there))))
    ∙ ap (λ (w : What). last_word before (cons_option (word_in k w) [])) run.answers.2

free-left : (k before : ℕ) {layout : Layout} {view : View} {who : Who} (page : Page) (slot : VSlot) (r : Run) → IsFreeRun layout view who page slot r → left_on k before r.made ≡ before
free-left k before {layout} {view} {who} page slot r run = which run.made_is
  where
    which : (r.made ≡ []) ⊎ ((m : Made) × (r.made ≡ m ∷ []) × (m.page ≡ page) × (m.entry.what ≡ entries.Free slot)) → left_on k before r.made ≡ before
    which (inl none) = ap (left_on k before) none
    which (inr (m, one, own, what)) = ap (left_on k before) one ∙ ap (λ (w : What). last_word before (cons_option (word_in k w) [])) what

word-if : (t : Bool) (word before : ℕ) → last_word before (cons_option (if t then Some word else None) []) ≡ (if t then word else before)
word-if true word before = refl
word-if false word before = refl

-- ---- of all accesses

-- the word on the line where the copy ends, if its line held this one before the store of its own
abbrev pub ends_on : ℕ → Cow → ℕ → ℕ
ends_on k c before = if c.line == k then c.x else before

-- it is freeing, or has switched; it is past the line
abbrev IsFreeing : CowAt → Type 0
IsFreeing at.Free = Unit {0}
IsFreeing at.Switched = Unit {0}
IsFreeing x = ⊥

abbrev IsPast : ℕ → CowAt → Type 0
IsPast k (at.Load line) = k < line
IsPast k (at.Store line word) = k < line
IsPast k at.Last = Unit {0}
IsPast k x = ⊥

-- it comes to the line
abbrev IsBefore : ℕ → CowAt → Type 0
IsBefore k (at.Load line) = line ≤ k
IsBefore k (at.Store line word) = line < k
IsBefore k x = ⊥

abbrev is_switch : Sub → Bool
is_switch subs.Switched = true
is_switch _ = false

not-switched : {A : Type 0} (sub : Sub) → is_switch sub ≡ false → sub ≡ subs.Switched → A
not-switched sub other is = absurd (true≢false (sym (ap is_switch is) ∙ other))

-- the entry loaded this word from the line
pub record IsLoaded (page : Page) (from : VSlot) (line word : ℕ) (m : Made) : Type 0 where
  pub mask : ℕ
  pub page_is : m.page ≡ page
  pub what_is : m.entry.what ≡ entries.Load from line (Word (record { 0 = mask }) word)

-- one of the entries did, and whatever the line held before, behind them it holds the word, or the store's own
pub record IsKept (k : ℕ) (c : Cow) (page : Page) (l : List Made) : Type 0 where
  pub word : ℕ
  pub loaded : SomeMember (IsLoaded page c.v k word) l
  pub left : (before : ℕ) → left_on k before l ≡ ends_on k c word

some-behind : (P : Made → Type 0) (a b : List Made) → SomeMember P b → SomeMember P (a ++ b)
some-behind P [] b some = some
some-behind P (x ∷ xs) b some = let rest = some-behind P xs b some in (suc rest.0, rest.1, rest.2, rest.3)

module _ (k : ℕ) (within : k < line_limit) (layout : Layout) (view : View) (store : Request) (page : Page) where
  past-after : (line : ℕ) (b : Bool) → k < line + 1 → IsPast k (if b then at.Load (line + 1) else at.Last)
  past-after line true less = less
  past-after line false less = tt

  load-left : (slot : VSlot) (line before : ℕ) (banks : Banks) (r : Run) → IsAccessRun layout view (load_of store page slot line) banks r → left_on k before r.made ≡ before
  load-left slot line before banks r run = access-left k before layout view (load_of store page slot line) banks r run

  store-left : (slot : VSlot) (line word before : ℕ) (banks : Banks) (r : Run) → IsAccessRun layout view (store_of store slot line word) banks r → left_on k before r.made ≡ (if line == k then word else before)
  store-left slot line word before banks r run = access-left k before layout view (store_of store slot line word) banks r run ∙ word-if (line == k) word before

  -- behind the store of its own nothing is stored
  free-one : (c : Cow) (x : CowAt) (banks : Banks) (r : Run) (l : List Made) → IsFreeing x → IsRun layout view store page banks r (cows.sub_at c x) → (IsFreeing (cows.told_at x r.word) → (b : ℕ) → left_on k b l ≡ b) → (before : ℕ) → left_on k before (r.made ++ l) ≡ before
  free-one c (at.Load line) banks r l freeing run rest before = absurd freeing
  free-one c (at.Store line word) banks r l freeing run rest before = absurd freeing
  free-one c at.Last banks r l freeing run rest before = absurd freeing
  free-one c at.Free banks r l freeing run rest before = left-append k before r.made l ∙ rest tt (left_on k before r.made) ∙ free-left k before page c.v r run
  free-one c at.Switched banks r l freeing run rest before = absurd run

  freed-left : (c : Cow) (banks : Banks) (runs : List Run) → IsFreeing c.at → AreRuns layout view store page c banks runs → (before : ℕ) → left_on k before (made_by runs) ≡ before
  freed-left c banks [] freeing are before = refl
  freed-left c banks (r ∷ rs) freeing are before = free-one c c.at banks r (made_by rs) freeing are.0 (λ next. freed-left (cows.told_by c r.word) (left_by banks r.checks) rs next are.1) before

  -- past the line only the store of its own stores on it
  past-one : (c : Cow) (x : CowAt) (banks : Banks) (r : Run) (l : List Made) → IsPast k x → IsRun layout view store page banks r (cows.sub_at c x) → (IsPast k (cows.told_at x r.word) → (b : ℕ) → left_on k b l ≡ ends_on k c b) → (IsFreeing (cows.told_at x r.word) → (b : ℕ) → left_on k b l ≡ b)
      → (before : ℕ) → left_on k before (r.made ++ l) ≡ ends_on k c before
  past-one c (at.Load line) banks r l past run rest freed before = left-append k before r.made l ∙ ap (λ (b : ℕ). left_on k b l) (load-left c.v line before banks r run) ∙ rest past before
  past-one c (at.Store line word) banks r l past run rest freed before =
      left-append k before r.made l
      ∙ ap (λ (b : ℕ). left_on k b l) (store-left c.w line word before banks r run ∙ ap (λ (b : Bool). if b then word else before) (ne_eqb line k (λ same. omega (arith, past, same))))
      ∙ rest (past-after line (nat_lt (line + 1) line_limit) (omega (arith, past))) before
  past-one c at.Last banks r l past run rest freed before = left-append k before r.made l ∙ ap (λ (b : ℕ). left_on k b l) (store-left c.w c.line c.x before banks r run) ∙ freed tt (ends_on k c before)
  past-one c at.Free banks r l past run rest freed before = absurd past
  past-one c at.Switched banks r l past run rest freed before = absurd past

  past-end : {A : Type 0} (c : Cow) (x : CowAt) → IsPast k x → cows.sub_at c x ≡ subs.Switched → A
  past-end c (at.Load line) past is = not-switched (subs.Load c.v line) refl is
  past-end c (at.Store line word) past is = not-switched (subs.Store c.w line word) refl is
  past-end c at.Last past is = not-switched (subs.Store c.w c.line c.x) refl is
  past-end c at.Free past is = absurd past
  past-end c at.Switched past is = absurd past

  past-left : (c : Cow) (banks : Banks) (runs : List Run) → IsPast k c.at → AreRuns layout view store page c banks runs → cows.sub_of (cows.told_all c (words_of runs)) ≡ subs.Switched → (before : ℕ) → left_on k before (made_by runs) ≡ ends_on k c before
  past-left c banks [] past are end before = past-end c c.at past end
  past-left c banks (r ∷ rs) past are end before =
      past-one c c.at banks r (made_by rs) past are.0
      (λ next. past-left (cows.told_by c r.word) (left_by banks r.checks) rs next are.1 end)
      (λ next. freed-left (cows.told_by c r.word) (left_by banks r.checks) rs next are.1)
      before

  -- the store of the line comes
  store-comes : (c : Cow) (x : CowAt) (word : ℕ) (banks : Banks) (r : Run) (l : List Made) → x ≡ at.Store k word → IsRun layout view store page banks r (cows.sub_at c x) → (IsPast k (cows.told_at x r.word) → (b : ℕ) → left_on k b l ≡ ends_on k c b)
      → (before : ℕ) → left_on k before (r.made ++ l) ≡ ends_on k c word
  store-comes c x word banks r l is run rest before =
      let own : IsAccessRun layout view (store_of store c.w k word) banks r = subst (λ (y : CowAt). IsRun layout view store page banks r (cows.sub_at c y)) is run in
      left-append k before r.made l
      ∙ ap (λ (b : ℕ). left_on k b l) (store-left c.w k word before banks r own ∙ ap (λ (b : Bool). if b then word else before) (eq-eqb k k refl))
      ∙ rest (subst (λ (y : CowAt). IsPast k (cows.told_at y r.word)) (sym is) (past-after k (nat_lt (k + 1) line_limit) (omega arith))) word

  stored-left : (c : Cow) (word : ℕ) (banks : Banks) (runs : List Run) → c.at ≡ at.Store k word → AreRuns layout view store page c banks runs → cows.sub_of (cows.told_all c (words_of runs)) ≡ subs.Switched → (before : ℕ) → left_on k before (made_by runs) ≡ ends_on k c word
  stored-left c word banks [] is are end before = not-switched (subs.Store c.w k word) refl (sym (ap (cows.sub_at c) is) ∙ end)
  stored-left c word banks (r ∷ rs) is are end before =
      store-comes c c.at word banks r (made_by rs) is are.0 (λ next. past-left (cows.told_by c r.word) (left_by banks r.checks) rs next are.1 end) before

  -- the load of the line comes
  load-comes : (c : Cow) (banks : Banks) (r : Run) (l : List Made) → IsAccessRun layout view (load_of store page c.v k) banks r → ((b : ℕ) → left_on k b l ≡ ends_on k c r.word) → IsKept k c page (r.made ++ l)
  load-comes c banks r l run rest = record {
    word = r.word;
    loaded = subst (λ (made : List Made). SomeMember (IsLoaded page c.v k r.word) (made ++ l)) (sym run.made_is) (entry l);
    left = λ before. left-append k before r.made l ∙ rest (left_on k before r.made);
  }
    where
      entry : (m : List Made) → SomeMember (IsLoaded page c.v k r.word) ((run.before ++ run.last ∷ []) ++ m)
      entry m = (length run.before, run.last, at_longer (run.before ++ run.last ∷ []) m (length run.before) run.last (at_last run.before run.last), record { mask = run.mask; page_is = run.answers.0; what_is = run.answers.2 })

  -- an earlier access
  earlier : (c : Cow) (r : Run) (l : List Made) → IsKept k c page l → IsKept k c page (r.made ++ l)
  earlier c r l kept = record {
    word = kept.word;
    loaded = some-behind (IsLoaded page c.v k kept.word) r.made l kept.loaded;
    left = λ before. left-append k before r.made l ∙ kept.left (left_on k before r.made);
  }

  before-one : (c : Cow) (x : CowAt) (banks : Banks) (r : Run) (l : List Made) → IsBefore k x → IsRun layout view store page banks r (cows.sub_at c x) → (IsBefore k (cows.told_at x r.word) → IsKept k c page l) → (cows.told_at x r.word ≡ at.Store k r.word → (b : ℕ) → left_on k b l ≡ ends_on k c r.word)
      → IsKept k c page (r.made ++ l)
  before-one c (at.Load line) banks r l comes run rest stored = elim (cases_eq line k) [
    | inl same ↦ load-comes c banks r l (subst (λ (n : ℕ). IsAccessRun layout view (load_of store page c.v n) banks r) same run) (stored (ap (λ (n : ℕ). at.Store n r.word) same))
    | inr other ↦ earlier c r l (rest (omega (arith, comes, other)))
  ]
  before-one c (at.Store line word) banks r l comes run rest stored =
      earlier c r l (rest (subst (λ (b : Bool). IsBefore k (if b then at.Load (line + 1) else at.Last)) (sym (lt-ltb (line + 1) line_limit (omega (arith, comes, within)))) (let next : line + 1 ≤ k = omega (arith, comes) in next)))
  before-one c at.Last banks r l comes run rest stored = absurd comes
  before-one c at.Free banks r l comes run rest stored = absurd comes
  before-one c at.Switched banks r l comes run rest stored = absurd comes

  before-end : {A : Type 0} (c : Cow) (x : CowAt) → IsBefore k x → cows.sub_at c x ≡ subs.Switched → A
  before-end c (at.Load line) comes is = not-switched (subs.Load c.v line) refl is
  before-end c (at.Store line word) comes is = not-switched (subs.Store c.w line word) refl is
  before-end c at.Last comes is = absurd comes
  before-end c at.Free comes is = absurd comes
  before-end c at.Switched comes is = absurd comes

  pub kept : (c : Cow) (banks : Banks) (runs : List Run) → IsBefore k c.at → AreRuns layout view store page c banks runs → cows.sub_of (cows.told_all c (words_of runs)) ≡ subs.Switched → IsKept k c page (made_by runs)
  kept c banks [] comes are end = before-end c c.at comes end
  kept c banks (r ∷ rs) comes are end =
      before-one c c.at banks r (made_by rs) comes are.0
      (λ next. let later = kept (cows.told_by c r.word) (left_by banks r.checks) rs next are.1 end in record { word = later.word; loaded = later.loaded; left = later.left })
      (λ next. stored-left (cows.told_by c r.word) r.word (left_by banks r.checks) rs next are.1 end)

-- from its beginning
pub kept-from : (k : ℕ) → k < line_limit → (layout : Layout) (view : View) (store : Request) (page : Page) (from to : VSlot) (line word : ℕ) (banks : Banks) (runs : List Run) → AreRuns layout view store page (cows.begin from to line word) banks runs
    → cows.sub_of (cows.told_all (cows.begin from to line word) (words_of runs)) ≡ subs.Switched → IsKept k (cows.begin from to line word) page (made_by runs)
kept-from k within layout view store page from to line word banks runs are end = kept k within layout view store page (cows.begin from to line word) banks runs (omega arith) are end
