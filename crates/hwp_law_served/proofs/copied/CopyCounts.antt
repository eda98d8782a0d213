-- How many loads and stores a copy made: so many as the access says that comes.
use Rattle.std.proofs.Common.{◌≡◌, inl, inr, ℕ, suc, ◌+◌, ◌<◌, ◌≤◌, ◌==◌, Bool, true, false, cond, if◌then◌else◌, nat_lt, List, [], ◌∷◌, ◌++◌, filter, length, map, refl, sym, ap, ◌∙◌, subst, arith}
use Rattle.std.specs.Prelude.{count_by}
use Rattle.std.proofs.lemmas.Bool.{both_ways, eq-eqb, false_from_ne_true, ltb-false, ltb-true}
use Rattle.std.proofs.lemmas.List.{length-append}
use Rattle.std.proofs.lemmas.List.Elements.{filter-append}
use Rattle.std.proofs.lemmas.List.Sums.{length-filter}
use Rattle.hwp_law.specs.hwp_geom.declared.Layout.{Layout}
use Rattle.hwp_law.specs.hwp_geom.declared.Page.{Page}
use Rattle.hwp_law.specs.hwp_geom.declared.VSlot.{VSlot}
use Rattle.hwp_law.specs.hwp_geom.Limits.{line_limit}
use Rattle.hwp_law.specs.hwp_banks.Banks.{Banks}
use Rattle.hwp_law.specs.hwp_page.declared.What.{What}
use Rattle.hwp_law.specs.hwp_page.declared.What.TheVariants as entries
use Rattle.hwp_plain.specs.hwp_core_rule.declared.Made.{Made}
use Rattle.hwp_plain.specs.hwp_core_rule.declared.View.{View}
use Rattle.hwp_plain.specs.hwp_core_rule.Lists.{EachMember}
use Rattle.hwp_plain.proofs.of_hwp_core_rule.MoreEntries.{each-append}
use Rattle.hwp_plain.specs.hwp_core_rule.Known.{IsOnTheWay, deeds, is_failure}
use Rattle.hwp_law.specs.Copies.{is_load, is_store}
use Rattle.hwp_cpu_row.specs.hwp_claim.Checks.{left_by}
use Rattle.hwp_cpu_access.specs.hwp_fault.declared.Request.{Request}
use Rattle.hwp_cpu_access.specs.hwp_fault.Accesses.{what_of}
use Rattle.hwp_cpu_access.specs.hwp_fork.declared.cow.Cow.{Cow}
use Rattle.hwp_cpu_access.specs.hwp_fork.declared.cow.CowAt.{CowAt}
use Rattle.hwp_cpu_access.specs.hwp_fork.declared.cow.CowAt.TheVariants as at
use Rattle.hwp_cpu_access.specs.hwp_fork.Cows as cows
use Rattle.hwp_cpu_access.specs.Copyings.{load_of, store_of}
use Rattle.hwp_cpu_access.specs.Runs.{AreRuns, IsAccessRun, IsBetween, IsRun, Run, made_by, words_of}
use Rattle.hwp_law_served.specs.Copied.{HasCopied}
use Rattle.hwp_law_served.proofs.copied.OwnIn.{in_page}
use Rattle.hwp_law_served.proofs.copied.RunFacts.{IsSoOf, of-runs}

-- ---- how many of some entries pass a test

abbrev pub num : (What → Bool) → List Made → ℕ
num test l = length (filter (λ (m : Made). test m.entry.what) l)

pub num-append : (test : What → Bool) (a b : List Made) → num test (a ++ b) ≡ num test a + num test b
num-append test a b = ap length (filter-append (λ (m : Made). test m.entry.what) a b) ∙ length-append (filter (λ (m : Made). test m.entry.what) a) (filter (λ (m : Made). test m.entry.what) b)

pub num-one : (test : What → Bool) (m : Made) (b : Bool) → test m.entry.what ≡ b → num test (m ∷ []) ≡ cond b 1 0
num-one test m b is = ap (λ (c : Bool). length (cond c (m ∷ []) [])) is ∙ which b
  where
    which : (c : Bool) → length (cond c (m ∷ []) []) ≡ cond c 1 0
    which true = refl
    which false = refl

pub num-none : (test : What → Bool) (l : List Made) → EachMember (λ (m : Made). test m.entry.what ≡ false) l → num test l ≡ 0
num-none test [] each = refl
num-none test (m ∷ ms) each =
    ap (λ (c : Bool). length (cond c (m ∷ filter (λ (x : Made). test x.entry.what) ms) (filter (λ (x : Made). test x.entry.what) ms))) (each 0 m refl)
    ∙ num-none test ms (λ i x there. each (suc i) x there)

pub count-map : (test : What → Bool) (l : List Made) → count_by test (map (λ (m : Made). m.entry.what) l) ≡ num test l
count-map test l = sym (length-filter test (map (λ (m : Made). m.entry.what) l)) ∙ same l
  where
    one : (m : Made) (ms : List Made) (b : Bool) → length (filter test (map (λ (x : Made). x.entry.what) ms)) ≡ num test ms
        → length (cond b (m.entry.what ∷ filter test (map (λ (x : Made). x.entry.what) ms)) (filter test (map (λ (x : Made). x.entry.what) ms))) ≡ length (cond b (m ∷ filter (λ (x : Made). test x.entry.what) ms) (filter (λ (x : Made). test x.entry.what) ms))
    one m ms true is = ap suc is
    one m ms false is = is

    same : (ms : List Made) → length (filter test (map (λ (m : Made). m.entry.what) ms)) ≡ num test ms
    same [] = refl
    same (m ∷ ms) = one m ms (test m.entry.what) (same ms)

-- all of them are in the page
page-in : (test : What → Bool) (page : Page) (m : Made) (ms : List Made) (b : Bool) → num test (in_page page ms) ≡ num test ms
    → length (cond b (m ∷ filter (λ (x : Made). test x.entry.what) (in_page page ms)) (filter (λ (x : Made). test x.entry.what) (in_page page ms))) ≡ length (cond b (m ∷ filter (λ (x : Made). test x.entry.what) ms) (filter (λ (x : Made). test x.entry.what) ms))
page-in test page m ms true is = ap suc is
page-in test page m ms false is = is

page-one : (test : What → Bool) (page : Page) (m : Made) (ms : List Made) (b : Bool) → (m.page.0 == page.0) ≡ b → (test m.entry.what ≡ true → m.page ≡ page) → num test (in_page page ms) ≡ num test ms
    → num test (cond b (m ∷ in_page page ms) (in_page page ms)) ≡ num test (m ∷ ms)
page-one test page m ms true is its rest = page-in test page m ms (test m.entry.what) rest
page-one test page m ms false is its rest =
    rest
    ∙ sym (ap (λ (c : Bool). length (cond c (m ∷ filter (λ (x : Made). test x.entry.what) ms) (filter (λ (x : Made). test x.entry.what) ms)))
    (false_from_ne_true (test m.entry.what) (λ yes. both_ways (m.page.0 == page.0) is (eq-eqb m.page.0 page.0 (ap (λ (p : Page). p.0) (its yes))))))

pub num-page : (test : What → Bool) (page : Page) (l : List Made) → EachMember (λ (m : Made). test m.entry.what ≡ true → m.page ≡ page) l → num test (in_page page l) ≡ num test l
num-page test page [] each = refl
num-page test page (m ∷ ms) each = page-one test page m ms (m.page.0 == page.0) refl (each 0 m refl) (num-page test page ms (λ i x there. each (suc i) x there))

-- ---- an entry on the way is no load and no store

pub no-load : (a : Request) (m : Made) → IsBetween a m → is_load m.entry.what ≡ false
no-load a m (inr soft) = ap is_load soft
no-load a m (inl (inl (page, way))) = which m.entry.what way
  where
    which : (w : What) → IsOnTheWay a.slot a.line w → is_load w ≡ false
    which (entries.Load slot line met) on = absurd on
    which _ on = refl
no-load a m (inl (inr failure)) = which m.entry.what failure
  where
    which : (w : What) → is_failure w ≡ true → is_load w ≡ false
    which (entries.Load slot line met) is = absurd (both_ways false refl is)
    which _ is = refl

pub no-store : (a : Request) (m : Made) → IsBetween a m → is_store m.entry.what ≡ false
no-store a m (inr soft) = ap is_store soft
no-store a m (inl (inl (page, way))) = which m.entry.what way
  where
    which : (w : What) → IsOnTheWay a.slot a.line w → is_store w ≡ false
    which (entries.Store slot line met) on = absurd on
    which _ on = refl
no-store a m (inl (inr failure)) = which m.entry.what failure
  where
    which : (w : What) → is_failure w ≡ true → is_store w ≡ false
    which (entries.Store slot line met) is = absurd (both_ways false refl is)
    which _ is = refl

-- ---- of the accesses of a copy

pub access-num : (test : What → Bool) (layout : Layout) (view : View) (a : Request) (banks : Banks) (r : Run) (run : IsAccessRun layout view a banks r) → ((m : Made) → IsBetween a m → test m.entry.what ≡ false) → num test r.made ≡ cond (test (what_of a run.mask r.word)) 1 0
access-num test layout view a banks r run none =
    let all : num test r.made ≡ num test (run.before ++ run.last ∷ []) = ap (num test) run.made_is in
    let parts : num test (run.before ++ run.last ∷ []) ≡ num test run.before + num test (run.last ∷ []) = num-append test run.before (run.last ∷ []) in
    let front : num test run.before ≡ 0 = num-none test run.before (λ i m there. none m (run.such i m there)) in
    let last : num test (run.last ∷ []) ≡ cond (test (what_of a run.mask r.word)) 1 0 = num-one test run.last (test (what_of a run.mask r.word)) (ap test run.answers.2) in
    omega (arith, all, parts, front, last)

-- so many loads and stores, where the copy is so far
abbrev pub HasCounts : CowAt → ℕ → ℕ → Type 0
HasCounts (at.Load line) loads stores = (line < line_limit) × (loads ≡ line) × (stores ≡ line)
HasCounts (at.Store line word) loads stores = (line < line_limit) × (loads ≡ line + 1) × (stores ≡ line)
HasCounts at.Last loads stores = (loads ≡ line_limit) × (stores ≡ line_limit)
HasCounts at.Free loads stores = Unit {0}
HasCounts at.Switched loads stores = Unit {0}

counts-as : (x : CowAt) (a b c d : ℕ) → a ≡ c → b ≡ d → HasCounts x a b → HasCounts x c d
counts-as x a b c d first second has = subst (λ (n : ℕ). HasCounts x n d) first (subst (λ (n : ℕ). HasCounts x a n) second has)

module _ (layout : Layout) (view : View) (store : Request) (page : Page) where
  pub load-loads : (slot : VSlot) (line : ℕ) (banks : Banks) (r : Run) → IsAccessRun layout view (load_of store page slot line) banks r → num is_load r.made ≡ 1
  load-loads slot line banks r run = access-num is_load layout view (load_of store page slot line) banks r run (no-load (load_of store page slot line))

  pub load-stores : (slot : VSlot) (line : ℕ) (banks : Banks) (r : Run) → IsAccessRun layout view (load_of store page slot line) banks r → num is_store r.made ≡ 0
  load-stores slot line banks r run = access-num is_store layout view (load_of store page slot line) banks r run (no-store (load_of store page slot line))

  pub store-loads : (slot : VSlot) (line word : ℕ) (banks : Banks) (r : Run) → IsAccessRun layout view (store_of store slot line word) banks r → num is_load r.made ≡ 0
  store-loads slot line word banks r run = access-num is_load layout view (store_of store slot line word) banks r run (no-load (store_of store slot line word))

  pub store-stores : (slot : VSlot) (line word : ℕ) (banks : Banks) (r : Run) → IsAccessRun layout view (store_of store slot line word) banks r → num is_store r.made ≡ 1
  store-stores slot line word banks r run = access-num is_store layout view (store_of store slot line word) banks r run (no-store (store_of store slot line word))

  run-counts : (c : Cow) (x : CowAt) (banks : Banks) (r : Run) (a b : ℕ) → HasCounts x a b → IsRun layout view store page banks r (cows.sub_at c x) → HasCounts (cows.told_at x r.word) (a + num is_load r.made) (b + num is_store r.made)
  run-counts c (at.Load line) banks r a b (low, la, sb) run =
      let one : num is_load r.made ≡ 1 = load-loads c.v line banks r run in
      let none : num is_store r.made ≡ 0 = load-stores c.v line banks r run in
      (low, omega (arith, la, one), omega (arith, sb, none))
  run-counts c (at.Store line word) banks r a b (low, la, sb) run = which (nat_lt (line + 1) line_limit) refl
    where
      none : num is_load r.made ≡ 0
      none = store-loads c.w line word banks r run

      one : num is_store r.made ≡ 1
      one = store-stores c.w line word banks r run

      which : (t : Bool) → nat_lt (line + 1) line_limit ≡ t → HasCounts (if t then at.Load (line + 1) else at.Last) (a + num is_load r.made) (b + num is_store r.made)
      which true is = (ltb-true (line + 1) line_limit is, omega (arith, la, none), omega (arith, sb, one))
      which false is = let past : line_limit ≤ line + 1 = ltb-false (line + 1) line_limit is in (omega (arith, la, none, past, low), omega (arith, sb, one, past, low))
  run-counts c at.Last banks r a b has run = tt
  run-counts c at.Free banks r a b has run = tt
  run-counts c at.Switched banks r a b has run = absurd run

  runs-counts : (c : Cow) (banks : Banks) (runs : List Run) (a b : ℕ) → HasCounts c.at a b → AreRuns layout view store page c banks runs → HasCounts (cows.told_all c (words_of runs)).at (a + num is_load (made_by runs)) (b + num is_store (made_by runs))
  runs-counts c banks [] a b has are = counts-as c.at a b (a + 0) (b + 0) (omega arith) (omega arith) has
  runs-counts c banks (r ∷ rs) a b has are =
      let next = run-counts c c.at banks r a b has are.0 in
      let rest = runs-counts (cows.told_by c r.word) (left_by banks r.checks) rs (a + num is_load r.made) (b + num is_store r.made) next are.1 in
      let loads : num is_load (r.made ++ made_by rs) ≡ num is_load r.made + num is_load (made_by rs) = num-append is_load r.made (made_by rs) in
      let stores : num is_store (r.made ++ made_by rs) ≡ num is_store r.made + num is_store (made_by rs) = num-append is_store r.made (made_by rs) in
      counts-as (cows.told_all (cows.told_by c r.word) (words_of rs)).at ((a + num is_load r.made) + num is_load (made_by rs)) ((b + num is_store r.made) + num is_store (made_by rs)) (a + num is_load (r.made ++ made_by rs)) (b + num is_store (r.made ++ made_by rs))
      (omega (arith, loads)) (omega (arith, stores)) rest

-- its loads are in the one page, and its stores in the other
pub record IsPlaced (store : Request) (page : Page) (m : Made) : Type 0 where
  pub loads : is_load m.entry.what ≡ true → m.page ≡ page
  pub stores : is_store m.entry.what ≡ true → m.page ≡ store.page

way-placed : (store : Request) (page : Page) (a : Request) (m : Made) → IsBetween a m → IsPlaced store page m
way-placed store page a m is = record { loads = λ yes. absurd (both_ways (is_load m.entry.what) (no-load a m is) yes); stores = λ yes. absurd (both_ways (is_store m.entry.what) (no-store a m is) yes) }

pub copy-placed : (store : Request) (page : Page) (from : VSlot) → IsSoOf (IsPlaced store page) store page from
copy-placed store page from = record {
  loading = λ line m is. way-placed store page (load_of store page from line) m is;
  loaded = λ line mask word place m is. record { loads = λ yes. is.0; stores = λ yes. absurd (both_ways (is_store m.entry.what) (ap is_store is.2) yes) };
  storing = λ line word m is. way-placed store page (store_of store store.slot line word) m is;
  stored = λ line mask word place m is. record { loads = λ yes. absurd (both_ways (is_load m.entry.what) (ap is_load is.2) yes); stores = λ yes. is.0 };
  freed = λ m page_is what_is. record { loads = λ yes. absurd (both_ways (is_load m.entry.what) (ap is_load what_is) yes); stores = λ yes. absurd (both_ways (is_store m.entry.what) (ap is_store what_is) yes) };
}

-- where the copy is, by the words that it was told
abbrev pub state_of : Request → VSlot → ℕ → List Run → CowAt
state_of store from word runs = (cows.told_all (cows.begin from store.slot store.line word) (words_of runs)).at

module _ (layout : Layout) (view : View) (store : Request) (from : VSlot) (word : ℕ) (before : Banks) (has : HasCopied layout view store from word before) where
  pub runs-placed : EachMember (IsPlaced store has.page) (made_by has.runs)
  runs-placed = of-runs (IsPlaced store has.page) layout view store has.page (cows.begin from store.slot store.line word) before has.runs refl (copy-placed store has.page from) has.are

  -- where what stands behind the accesses is on the way of one
  module _ (a : Request) (way : EachMember (IsBetween a) has.rest) where
    placed : EachMember (IsPlaced store has.page) (deeds store.who view)
    placed = subst (EachMember (IsPlaced store has.page)) (sym has.all) (each-append (IsPlaced store has.page) (made_by has.runs) has.rest runs-placed (λ i m there. way-placed store has.page a m (way i m there)))

    all-num : (test : What → Bool) → ((m : Made) → IsBetween a m → test m.entry.what ≡ false) → num test (deeds store.who view) ≡ num test (made_by has.runs)
    all-num test none =
        let all : num test (deeds store.who view) ≡ num test (made_by has.runs ++ has.rest) = ap (num test) has.all in
        let parts : num test (made_by has.runs ++ has.rest) ≡ num test (made_by has.runs) + num test has.rest = num-append test (made_by has.runs) has.rest in
        let last : num test has.rest ≡ 0 = num-none test has.rest (λ i m there. none m (way i m there)) in
        omega (arith, all, parts, last)

    pub copy-counts : HasCounts (state_of store from word has.runs) (num is_load (in_page has.page (deeds store.who view))) (num is_store (in_page store.page (deeds store.who view)))
    copy-counts =
        let counts = runs-counts layout view store has.page (cows.begin from store.slot store.line word) before has.runs 0 0 (omega arith, refl, refl) has.are in
        let loads : num is_load (in_page has.page (deeds store.who view)) ≡ num is_load (deeds store.who view) = num-page is_load has.page (deeds store.who view) (λ i m there. (placed i m there).loads) in
        let stores : num is_store (in_page store.page (deeds store.who view)) ≡ num is_store (deeds store.who view) = num-page is_store store.page (deeds store.who view) (λ i m there. (placed i m there).stores) in
        let all_loads : num is_load (deeds store.who view) ≡ num is_load (made_by has.runs) = all-num is_load (no-load a) in
        let all_stores : num is_store (deeds store.who view) ≡ num is_store (made_by has.runs) = all-num is_store (no-store a) in
        counts-as (state_of store from word has.runs) (0 + num is_load (made_by has.runs)) (0 + num is_store (made_by has.runs)) (num is_load (in_page has.page (deeds store.who view))) (num is_store (in_page store.page (deeds store.who view)))
        (omega (arith, loads, all_loads)) (omega (arith, stores, all_stores)) counts
