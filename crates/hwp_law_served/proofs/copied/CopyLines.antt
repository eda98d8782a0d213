-- The lines of the machine checks of a store that copies a page, in their order: those of each access, and behind them those of the one that
-- comes.
use Rattle.std.proofs.Common.{◌≡◌, ◌⊎◌, inl, inr, ℕ, zero, suc, ◌+◌, ◌<◌, ◌≤◌, ◌==◌, Bool, true, false, cond, if◌then◌else◌, nat_lt, List, [], ◌∷◌, ◌++◌, append-nil, append_assoc, Option, Some, None, length, map, replicate, refl, sym, ap, ◌∙◌, subst, arith}
use Rattle.std.proofs.lemmas.Bool.{both_ways, eq-eqb, false_from_ne_true, ltb-false, ltb-true}
use Rattle.std.proofs.lemmas.List.{length-append, length-map}
use Rattle.std.proofs.lemmas.List.Elements.{filter-append}
use Rattle.std.proofs.lemmas.Option.{none-some}
use Rattle.hwp_law.specs.hwp_geom.declared.Cpu.{Cpu}
use Rattle.hwp_law.specs.hwp_geom.declared.Layout.{Layout}
use Rattle.hwp_law.specs.hwp_geom.declared.Page.{Page}
use Rattle.hwp_law.specs.hwp_geom.declared.Thread.{Thread}
use Rattle.hwp_law.specs.hwp_geom.declared.VSlot.{VSlot}
use Rattle.hwp_law.specs.hwp_geom.declared.Who.{Who}
use Rattle.hwp_law.specs.hwp_geom.Limits.{line_limit}
use Rattle.hwp_law.specs.hwp_banks.Banks.{Banks}
use Rattle.hwp_law.specs.hwp_page.declared.What.{What}
use Rattle.hwp_law.specs.hwp_page.declared.What.TheVariants as entries
use Rattle.hwp_law.specs.hwp_page.Step.{IsOf}
use Rattle.hwp_plain.specs.hwp_core_rule.declared.Made.{Made}
use Rattle.hwp_plain.specs.hwp_core_rule.declared.State.{State}
use Rattle.hwp_plain.specs.hwp_core_rule.declared.View.{View}
use Rattle.hwp_plain.proofs.of_hwp_core_rule.Lists.{each-push}
use Rattle.hwp_plain.specs.hwp_core_rule.Boards.{view_of}
use Rattle.hwp_plain.specs.hwp_core_rule.Known.{IsOnTheWay, deeds, is_failure}
use Rattle.hwp_law.specs.hwp_script_words.declared.Command.TheVariants as commands
use Rattle.hwp_law.specs.hwp_script_words.declared.Script.{Script}
use Rattle.hwp_law.specs.hwp_report_text.declared.Report.{Report}
use Rattle.hwp_law.specs.Commands.{command_at, is_check}
use Rattle.hwp_law.specs.Copies.{checks_by, copy_checks, is_load, is_store, own_in}
use Rattle.hwp_cpu_row.specs.hwp_claim.Checks.{Check, left_by}
use Rattle.hwp_cpu_row.specs.hwp_claim.declared.EventOutcome.{EventOutcome}
use Rattle.hwp_cpu_access.specs.hwp_fault.declared.Request.{Request}
use Rattle.hwp_cpu_access.specs.hwp_fault.Accesses.{what_of}
use Rattle.hwp_cpu_access.specs.hwp_fork.declared.cow.Cow.{Cow}
use Rattle.hwp_cpu_access.specs.hwp_fork.declared.cow.CowAt.{CowAt}
use Rattle.hwp_cpu_access.specs.hwp_fork.declared.cow.CowAt.TheVariants as at
use Rattle.hwp_cpu_access.specs.hwp_fork.declared.cow.Sub.{Sub}
use Rattle.hwp_cpu_access.specs.hwp_fork.declared.cow.Sub.TheVariants as subs
use Rattle.hwp_cpu_access.specs.hwp_fork.Cows as cows
use Rattle.hwp_cpu_access.specs.Fits.{checks_in}
use Rattle.hwp_cpu_access.specs.Copyings.{load_of, request_by, store_of}
use Rattle.hwp_cpu_access.specs.Runs.{AreRuns, IsAccessRun, IsBetween, IsFreeRun, IsRun, Run, made_by, words_of}
use Rattle.hwp_law_served.specs.Copied.{AreChecksOf, HasCopied, IsCopyTold, IsLeft, store_by, sub_next}
use Rattle.hwp_law_served.proofs.RunEnds.{IsEnd}
use Rattle.hwp_law_served.proofs.copied.CheckLines.{IsCheckAt, IsQuiet, IsWay, by-load, by-next, by-none, by-store, line_by_line, low-seen, none-seen, quiet-all, seen, seen-access, way-all}
use Rattle.hwp_law_served.proofs.copied.CopyCounts.{HasCounts, no-load, no-store, num, num-append, num-one}
use Rattle.hwp_law_served.proofs.copied.CopyEntries.{declared-of}
use Rattle.hwp_law_served.proofs.copied.OwnIn.{in_page, own-deeds}

-- the line of an access
abbrev pub line_of : Sub → ℕ
line_of (subs.Load slot line) = line
line_of (subs.Store slot line word) = line
line_of (subs.Free slot) = 0
line_of subs.Switched = 0

abbrev pub told_lines : Cow → List Run → List ℕ
told_lines c [] = []
told_lines c (r ∷ rs) = replicate (length r.checks) (line_of (cows.sub_of c)) ++ told_lines (cows.told_by c r.word) rs

-- ---- what stands on the way of an access

way-check : (a : Request) (m : Made) → IsBetween a m → is_check m.entry.what ≡ true → IsCheckAt a.page a.line m
way-check a m (inr soft) is = absurd (both_ways (is_check m.entry.what) (ap is_check soft) is)
way-check a m (inl (inl (page, way))) is = which m.entry.what refl way is
  where
    which : (w : What) → m.entry.what ≡ w → IsOnTheWay a.slot a.line w → is_check w ≡ true → IsCheckAt a.page a.line m
    which (entries.Mce slot line mask) same on hits = record { page_is = page; slot = slot; mask = mask; what_is = same ∙ ap (λ (n : ℕ). entries.Mce slot n mask) on.1 }
    which w same on hits = absurd (both_ways false refl hits)
way-check a m (inl (inr failure)) is = which m.entry.what failure is
  where
    which : (w : What) → is_failure w ≡ true → is_check w ≡ true → IsCheckAt a.page a.line m
    which (entries.Mce slot line mask) fails hits = absurd (both_ways false refl fails)
    which w fails hits = absurd (both_ways false refl hits)

-- in its own page, and in another
on-way : (test : What → Bool) (a : Request) (m : Made) → ((x : Made) → IsBetween a x → test x.entry.what ≡ false) → IsBetween a m → IsWay a.page a.line test m
on-way test a m none between = record { fails = none m between; checked = way-check a m between }

off-way : (test : What → Bool) (page : Page) (a : Request) (m : Made) → (a.page ≡ page → ⊥) → ((x : Made) → IsBetween a x → test x.entry.what ≡ false) → IsBetween a m → IsQuiet page test m
off-way test page a m differs none between = record {
  unchecked = λ own. false_from_ne_true (is_check m.entry.what) (λ hits. differs (sym (way-check a m between hits).page_is ∙ own));
  fails = λ own. none m between;
}

-- ---- by an access that went well

-- in its page: its machine checks, and then one access more
own-access : (test : What → Bool) (layout : Layout) (view : View) (a : Request) (banks : Banks) (r : Run) (n : ℕ) (l : List Made) (run : IsAccessRun layout view a banks r) → ((x : Made) → IsBetween a x → test x.entry.what ≡ false) → test (what_of a run.mask r.word) ≡ true
    → is_check (what_of a run.mask r.word) ≡ false → seen a.page test n (r.made ++ l) ≡ replicate (length r.checks) (n, a.line) ++ seen a.page test (n + 1) l
own-access test layout view a banks r n l run none hits misses =
    ap (λ (made : List Made). seen a.page test n (made ++ l)) run.made_is
    ∙ ap (seen a.page test n) (append_assoc run.before (run.last ∷ []) l)
    ∙ way-all a.page a.line test n run.before (run.last ∷ l) (λ i m there. on-way test a m none (run.such i m there))
    ∙ ap (λ (c : List (ℕ × ℕ)). replicate (num is_check run.before) (n, a.line) ++ c) (seen-access a.page test n run.last l run.answers.0 (ap is_check run.answers.2 ∙ misses) (ap test run.answers.2 ∙ hits))
    ∙ ap (λ (k : ℕ). replicate k (n, a.line) ++ seen a.page test (n + 1) l) counted
  where
    counted : num is_check run.before ≡ length r.checks
    counted =
        let all : num is_check r.made ≡ num is_check (run.before ++ run.last ∷ []) = ap (num is_check) run.made_is in
        let parts : num is_check (run.before ++ run.last ∷ []) ≡ num is_check run.before + num is_check (run.last ∷ []) = num-append is_check run.before (run.last ∷ []) in
        let last : num is_check (run.last ∷ []) ≡ 0 = num-one is_check run.last false (ap is_check run.answers.2 ∙ misses) in
        let told : num is_check r.made ≡ length r.checks = run.counted in
        omega (arith, all, parts, last, told)

-- in another page none
other-access : (test : What → Bool) (page : Page) (layout : Layout) (view : View) (a : Request) (banks : Banks) (r : Run) (n : ℕ) (l : List Made) (run : IsAccessRun layout view a banks r) → (a.page ≡ page → ⊥) → ((x : Made) → IsBetween a x → test x.entry.what ≡ false)
    → seen page test n (r.made ++ l) ≡ seen page test n l
other-access test page layout view a banks r n l run differs none =
    ap (λ (made : List Made). seen page test n (made ++ l)) run.made_is
    ∙ quiet-all page test n (run.before ++ run.last ∷ []) l
    (each-push (IsQuiet page test) run.before run.last (record { unchecked = λ own. absurd (differs (sym run.answers.0 ∙ own)); fails = λ own. absurd (differs (sym run.answers.0 ∙ own)) })
    (λ i m there. off-way test page a m differs none (run.such i m there)))

free-access : (test : What → Bool) {layout : Layout} {view : View} {who : Who} (any page : Page) (slot : VSlot) (r : Run) (n : ℕ) (l : List Made) → IsFreeRun layout view who page slot r → test (entries.Free slot) ≡ false → seen any test n (r.made ++ l) ≡ seen any test n l
free-access test {layout} {view} {who} any page slot r n l run misses = which run.made_is
  where
    which : (r.made ≡ []) ⊎ ((m : Made) × (r.made ≡ m ∷ []) × (m.page ≡ page) × (m.entry.what ≡ entries.Free slot)) → seen any test n (r.made ++ l) ≡ seen any test n l
    which (inl none) = ap (λ (made : List Made). seen any test n (made ++ l)) none
    which (inr (m, one, own, what)) =
        ap (λ (made : List Made). seen any test n (made ++ l)) one
        ∙ quiet-all any test n (m ∷ []) l (each-push (IsQuiet any test) [] m (record { unchecked = λ is. ap is_check what; fails = λ is. ap test what ∙ misses }) (λ i x there. absurd (none-some x there)))

-- ---- by the access that comes

-- of what stands behind the accesses that went well, so many are machine checks, none where no access comes
record IsTail (comes : Option Request) (rest : List Made) (count : ℕ) : Type 0 where
  left : IsLeft comes rest
  counted : num is_check rest ≡ count
  free : comes ≡ None → count ≡ 0

own-rest : (test : What → Bool) (a : Request) (n : ℕ) (rest : List Made) (count : ℕ) → IsTail (Some a) rest count → ((x : Made) → IsBetween a x → test x.entry.what ≡ false) → seen a.page test n rest ≡ replicate count (n, a.line) ++ []
own-rest test a n rest count tail none =
    ap (seen a.page test n) tail.left.rest_is
    ∙ way-all a.page a.line test n tail.left.way tail.left.behind (λ i m there. on-way test a m none (tail.left.such a refl i m there))
    ∙ ap (λ (c : List (ℕ × ℕ)). replicate (num is_check tail.left.way) (n, a.line) ++ c) (none-seen a.page test n tail.left.behind tail.left.unchecked)
    ∙ ap (λ (k : ℕ). replicate k (n, a.line) ++ []) counted
  where
    counted : num is_check tail.left.way ≡ count
    counted =
        let all : num is_check rest ≡ num is_check (tail.left.way ++ tail.left.behind) = ap (num is_check) tail.left.rest_is in
        let parts : num is_check (tail.left.way ++ tail.left.behind) ≡ num is_check tail.left.way + num is_check tail.left.behind = num-append is_check tail.left.way tail.left.behind in
        let none_behind : num is_check tail.left.behind ≡ 0 = tail.left.unchecked in
        let told : num is_check rest ≡ count = tail.counted in
        omega (arith, all, parts, none_behind, told)

other-rest : (test : What → Bool) (page : Page) (a : Request) (n : ℕ) (rest : List Made) (count : ℕ) → IsTail (Some a) rest count → (a.page ≡ page → ⊥) → ((x : Made) → IsBetween a x → test x.entry.what ≡ false) → seen page test n rest ≡ []
other-rest test page a n rest count tail differs none =
    ap (seen page test n) tail.left.rest_is
    ∙ quiet-all page test n tail.left.way tail.left.behind (λ i m there. off-way test page a m differs none (tail.left.such a refl i m there))
    ∙ none-seen page test n tail.left.behind tail.left.unchecked

no-rest : (test : What → Bool) (page : Page) (n : ℕ) (rest : List Made) (count : ℕ) → IsTail None rest count → seen page test n rest ≡ []
no-rest test page n rest count tail = none-seen page test n rest (tail.counted ∙ tail.free refl)

-- ---- of all

-- how many entries are in the page
abbrev long : Page → List Made → ℕ
long page l = length (in_page page l)

long-append : (page : Page) (a b : List Made) → long page (a ++ b) ≡ long page a + long page b
long-append page a b = ap length (filter-append (λ (m : Made). m.page.0 == page.0) a b) ∙ length-append (in_page page a) (in_page page b)

-- it is freeing, or has switched; it stores its own word, or has done so
abbrev IsFreeing : CowAt → Type 0
IsFreeing at.Free = Unit {0}
IsFreeing at.Switched = Unit {0}
IsFreeing x = ⊥

abbrev IsGoing : CowAt → Type 0
IsGoing at.Free = ⊥
IsGoing at.Switched = ⊥
IsGoing x = Unit {0}

module _ (layout : Layout) (view : View) (store : Request) (page : Page) (differs : page ≡ store.page → ⊥) (rest : List Made) (count : ℕ) where
  turned : store.page ≡ page → ⊥
  turned same = differs (sym same)

  -- an access of the store has stored one entry at least
  one-stored : (slot : VSlot) (line word : ℕ) (banks : Banks) (r : Run) → IsAccessRun layout view (store_of store slot line word) banks r → 1 ≤ long store.page r.made
  one-stored slot line word banks r run =
      let all : long store.page r.made ≡ long store.page (run.before ++ run.last ∷ []) = ap (long store.page) run.made_is in
      let parts : long store.page (run.before ++ run.last ∷ []) ≡ long store.page run.before + long store.page (run.last ∷ []) = long-append store.page run.before (run.last ∷ []) in
      let one : long store.page (run.last ∷ []) ≡ 1 = ap (λ (b : Bool). length (cond b (run.last ∷ []) [])) (eq-eqb run.last.page.0 store.page.0 (ap (λ (p : Page). p.0) run.answers.0)) in
      omega (arith, all, parts, one)

  -- behind the store of its own word none is seen
  freed-one : (any : Page) (test : What → Bool) (misses : (slot : VSlot) → test (entries.Free slot) ≡ false) (c : Cow) (x : CowAt) (banks : Banks) (r : Run) (l : List Made) → IsFreeing x → IsRun layout view store page banks r (cows.sub_at c x)
      → (IsFreeing (cows.told_at x r.word) → (n : ℕ) → seen any test n l ≡ []) → (n : ℕ) → seen any test n (r.made ++ l) ≡ []
  freed-one any test misses c (at.Load line) banks r l freeing run later n = absurd freeing
  freed-one any test misses c (at.Store line word) banks r l freeing run later n = absurd freeing
  freed-one any test misses c at.Last banks r l freeing run later n = absurd freeing
  freed-one any test misses c at.Free banks r l freeing run later n = free-access test any page c.v r n l run (misses c.v) ∙ later tt n
  freed-one any test misses c at.Switched banks r l freeing run later n = absurd run

  comes-none : (c : Cow) (x : CowAt) → IsFreeing x → request_by store page (cows.sub_at c x) ≡ None
  comes-none c (at.Load line) freeing = absurd freeing
  comes-none c (at.Store line word) freeing = absurd freeing
  comes-none c at.Last freeing = absurd freeing
  comes-none c at.Free freeing = refl
  comes-none c at.Switched freeing = refl

  freed-none : (any : Page) (test : What → Bool) (misses : (slot : VSlot) → test (entries.Free slot) ≡ false) (c : Cow) (banks : Banks) (runs : List Run) → IsFreeing c.at → AreRuns layout view store page c banks runs
      → IsTail (request_by store page (cows.sub_of (cows.told_all c (words_of runs)))) rest count → (n : ℕ) → seen any test n (made_by runs ++ rest) ≡ []
  freed-none any test misses c banks [] freeing are tail n = no-rest test any n rest count (subst (λ (o : Option Request). IsTail o rest count) (comes-none c c.at freeing) tail)
  freed-none any test misses c banks (r ∷ rs) freeing are tail n =
      ap (seen any test n) (append_assoc r.made (made_by rs) rest)
      ∙ freed-one any test misses c c.at banks r (made_by rs ++ rest) freeing are.0 (λ next. freed-none any test misses (cows.told_by c r.word) (left_by banks r.checks) rs next are.1 tail) n

  -- and none is told
  told-one : (c : Cow) (x : CowAt) (banks : Banks) (r : Run) (l : List ℕ) → IsFreeing x → IsRun layout view store page banks r (cows.sub_at c x) → (IsFreeing (cows.told_at x r.word) → l ≡ []) → replicate (length r.checks) (line_of (cows.sub_at c x)) ++ l ≡ []
  told-one c (at.Load line) banks r l freeing run later = absurd freeing
  told-one c (at.Store line word) banks r l freeing run later = absurd freeing
  told-one c at.Last banks r l freeing run later = absurd freeing
  told-one c at.Free banks r l freeing run later = ap (λ (cs : List Check). replicate (length cs) 0 ++ l) run.unchecked ∙ later tt
  told-one c at.Switched banks r l freeing run later = absurd run

  told-none : (c : Cow) (banks : Banks) (runs : List Run) → IsFreeing c.at → AreRuns layout view store page c banks runs → IsTail (request_by store page (cows.sub_of (cows.told_all c (words_of runs)))) rest count
      → told_lines c runs ++ replicate count (line_of (cows.sub_of (cows.told_all c (words_of runs)))) ≡ []
  told-none c banks [] freeing are tail = ap (λ (k : ℕ). replicate k (line_of (cows.sub_of c))) ((subst (λ (o : Option Request). IsTail o rest count) (comes-none c c.at freeing) tail).free refl)
  told-none c banks (r ∷ rs) freeing are tail =
      append_assoc (replicate (length r.checks) (line_of (cows.sub_of c))) (told_lines (cows.told_by c r.word) rs) (replicate count (line_of (cows.sub_of (cows.told_all (cows.told_by c r.word) (words_of rs)))))
      ∙ told-one c c.at banks r (told_lines (cows.told_by c r.word) rs ++ replicate count (line_of (cows.sub_of (cows.told_all (cows.told_by c r.word) (words_of rs))))) freeing are.0
      (λ next. told-none (cows.told_by c r.word) (left_by banks r.checks) rs next are.1 tail)

  -- ---- the access that comes

  rest-lines : (c : Cow) (x : CowAt) (a b n : ℕ) → HasCounts x a b → IsGoing x → IsTail (request_by store page (cows.sub_at c x)) rest count → 0 < n → replicate count (line_of (cows.sub_at c x)) ≡ line_by_line b n (seen page is_load a rest) (seen store.page is_store b rest)
  rest-lines c (at.Load line) a b n (low, la, sb) going tail some = sym (
      ap (λ (l : List (ℕ × ℕ)). line_by_line b n l (seen store.page is_store b rest)) (own-rest is_load (load_of store page c.v line) a rest count tail (no-load (load_of store page c.v line)) ∙ ap (λ (k : ℕ). replicate count (k, line) ++ []) (let same : a ≡ b = omega (arith, la, sb) in same))
      ∙ ap (λ (l : List (ℕ × ℕ)). line_by_line b n (replicate count (b, line) ++ []) l) (other-rest is_store store.page (load_of store page c.v line) b rest count tail differs (no-store (load_of store page c.v line)))
      ∙ by-load b n line count [] [] some
      ∙ ap (λ (l : List ℕ). replicate count line ++ l) (by-none b n)
      ∙ append-nil (replicate count line))
  rest-lines c (at.Store line word) a b n (low, la, sb) going tail some = sym (
      ap (λ (l : List (ℕ × ℕ)). line_by_line b n l (seen store.page is_store b rest)) (other-rest is_load page (store_of store c.w line word) a rest count tail turned (no-load (store_of store c.w line word)))
      ∙ ap (λ (l : List (ℕ × ℕ)). line_by_line b n [] l) (own-rest is_store (store_of store c.w line word) b rest count tail (no-store (store_of store c.w line word)))
      ∙ by-store b n line count [] [] some refl
      ∙ ap (λ (l : List ℕ). replicate count line ++ l) (by-none b n)
      ∙ append-nil (replicate count line))
  rest-lines c at.Last a b n has going tail some = sym (
      ap (λ (l : List (ℕ × ℕ)). line_by_line b n l (seen store.page is_store b rest)) (other-rest is_load page (store_of store c.w c.line c.x) a rest count tail turned (no-load (store_of store c.w c.line c.x)))
      ∙ ap (λ (l : List (ℕ × ℕ)). line_by_line b n [] l) (own-rest is_store (store_of store c.w c.line c.x) b rest count tail (no-store (store_of store c.w c.line c.x)))
      ∙ by-store b n c.line count [] [] some refl
      ∙ ap (λ (l : List ℕ). replicate count c.line ++ l) (by-none b n)
      ∙ append-nil (replicate count c.line))
  rest-lines c at.Free a b n has going tail some = absurd going
  rest-lines c at.Switched a b n has going tail some = absurd going

  -- ---- one access after the other

  -- what is told behind an access, where the copy is so far
  abbrev GoesOn : CowAt → List Made → List ℕ → Type 0
  GoesOn x l told = (a b n : ℕ) → HasCounts x a b → IsGoing x → long store.page l < n → told ≡ line_by_line b n (seen page is_load a l) (seen store.page is_store b l)

  going-if : (line : ℕ) (t : Bool) → IsGoing (if t then at.Load (line + 1) else at.Last)
  going-if line true = tt
  going-if line false = tt

  counts-if : (line a b : ℕ) (t : Bool) → nat_lt (line + 1) line_limit ≡ t → line < line_limit → a ≡ line + 1 → b ≡ line → HasCounts (if t then at.Load (line + 1) else at.Last) a (b + 1)
  counts-if line a b true is low la sb = (ltb-true (line + 1) line_limit is, la, omega (arith, sb))
  counts-if line a b false is low la sb = let past : line_limit ≤ line + 1 = ltb-false (line + 1) line_limit is in (omega (arith, la, past, low), omega (arith, sb, past, low))

  load-lines : (c : Cow) (line : ℕ) (banks : Banks) (r : Run) (l : List Made) (told : List ℕ) → IsAccessRun layout view (load_of store page c.v line) banks r → GoesOn (at.Store line r.word) l told → (a b n : ℕ) → HasCounts (at.Load line) a b → long store.page (r.made ++ l) < n
      → replicate (length r.checks) line ++ told ≡ line_by_line b n (seen page is_load a (r.made ++ l)) (seen store.page is_store b (r.made ++ l))
  load-lines c line banks r l told run next a b n (low, la, sb) room = sym (
      ap (λ (k : List (ℕ × ℕ)). line_by_line b n k (seen store.page is_store b (r.made ++ l))) (own-access is_load layout view (load_of store page c.v line) banks r a l run (no-load (load_of store page c.v line)) refl refl ∙ ap (λ (k : ℕ). replicate (length r.checks) (k, line) ++ seen page is_load (a + 1) l) (let same : a ≡ b = omega (arith, la, sb) in same))
      ∙ ap (line_by_line b n (replicate (length r.checks) (b, line) ++ seen page is_load (a + 1) l)) (other-access is_store store.page layout view (load_of store page c.v line) banks r b l run differs (no-store (load_of store page c.v line)))
      ∙ by-load b n line (length r.checks) (seen page is_load (a + 1) l) (seen store.page is_store b l) (omega (arith, room))
      ∙ ap (λ (k : List ℕ). replicate (length r.checks) line ++ k) (sym (next (a + 1) b n (low, omega (arith, la), sb) tt (let all : long store.page (r.made ++ l) ≡ long store.page r.made + long store.page l = long-append store.page r.made l in omega (arith, all, room)))))

  store-lines : (c : Cow) (line word : ℕ) (banks : Banks) (r : Run) (l : List Made) (told : List ℕ) → IsAccessRun layout view (store_of store c.w line word) banks r → GoesOn (cows.told_at (at.Store line word) r.word) l told → (a b n : ℕ) → HasCounts (at.Store line word) a b → long store.page (r.made ++ l) < n
      → replicate (length r.checks) line ++ told ≡ line_by_line b n (seen page is_load a (r.made ++ l)) (seen store.page is_store b (r.made ++ l))
  store-lines c line word banks r l told run next a b zero has room = absurd (omega (arith, room))
  store-lines c line word banks r l told run next a b (suc n) (low, la, sb) room = sym (
      ap (λ (k : List (ℕ × ℕ)). line_by_line b (suc n) k (seen store.page is_store b (r.made ++ l))) (other-access is_load page layout view (store_of store c.w line word) banks r a l run turned (no-load (store_of store c.w line word)))
      ∙ ap (line_by_line b (suc n) (seen page is_load a l)) (own-access is_store layout view (store_of store c.w line word) banks r b l run (no-store (store_of store c.w line word)) refl refl)
      ∙ by-store b (suc n) line (length r.checks) (seen page is_load a l) (seen store.page is_store (b + 1) l) (omega arith) (low-seen page is_load l b a (omega (arith, la, sb)))
      ∙ ap (λ (k : List ℕ). replicate (length r.checks) line ++ k)
      (by-next b n (seen page is_load a l) (seen store.page is_store (b + 1) l) (low-seen page is_load l b a (omega (arith, la, sb))) (low-seen store.page is_store l b (b + 1) (omega arith))
      ∙ sym (next a (b + 1) n (counts-if line a b (nat_lt (line + 1) line_limit) refl low la sb) (going-if line (nat_lt (line + 1) line_limit)) less)))
    where
      less : long store.page l < n
      less =
          let all : long store.page (r.made ++ l) ≡ long store.page r.made + long store.page l = long-append store.page r.made l in
          let one : 1 ≤ long store.page r.made = one-stored c.w line word banks r run in
          omega (arith, all, one, room)

  last-lines : (c : Cow) (banks : Banks) (r : Run) (l : List Made) (told : List ℕ) → IsAccessRun layout view (store_of store c.w c.line c.x) banks r → ((n : ℕ) → seen page is_load n l ≡ []) → ((n : ℕ) → seen store.page is_store n l ≡ []) → told ≡ [] → (a b n : ℕ) → long store.page (r.made ++ l) < n
      → replicate (length r.checks) c.line ++ told ≡ line_by_line b n (seen page is_load a (r.made ++ l)) (seen store.page is_store b (r.made ++ l))
  last-lines c banks r l told run no_loads no_stores none a b n room =
      ap (λ (k : List ℕ). replicate (length r.checks) c.line ++ k) none
      ∙ sym (
      ap (λ (k : List (ℕ × ℕ)). line_by_line b n k (seen store.page is_store b (r.made ++ l))) (other-access is_load page layout view (store_of store c.w c.line c.x) banks r a l run turned (no-load (store_of store c.w c.line c.x)) ∙ no_loads a)
      ∙ ap (line_by_line b n []) (own-access is_store layout view (store_of store c.w c.line c.x) banks r b l run (no-store (store_of store c.w c.line c.x)) refl refl ∙ ap (λ (k : List (ℕ × ℕ)). replicate (length r.checks) (b, c.line) ++ k) (no_stores (b + 1)))
      ∙ by-store b n c.line (length r.checks) [] [] (omega (arith, room)) refl
      ∙ ap (λ (k : List ℕ). replicate (length r.checks) c.line ++ k) (by-none b n))

  -- what stands behind the store of its own word
  record IsQuietBehind (x : CowAt) (l : List Made) (told : List ℕ) : Type 0 where
    loads : IsFreeing x → (n : ℕ) → seen page is_load n l ≡ []
    stores : IsFreeing x → (n : ℕ) → seen store.page is_store n l ≡ []
    untold : IsFreeing x → told ≡ []

  line-one : (c : Cow) (x : CowAt) (banks : Banks) (r : Run) (l : List Made) (told : List ℕ) → IsRun layout view store page banks r (cows.sub_at c x) → GoesOn (cows.told_at x r.word) l told → IsQuietBehind (cows.told_at x r.word) l told → (a b n : ℕ) → HasCounts x a b → IsGoing x → long store.page (r.made ++ l) < n
      → replicate (length r.checks) (line_of (cows.sub_at c x)) ++ told ≡ line_by_line b n (seen page is_load a (r.made ++ l)) (seen store.page is_store b (r.made ++ l))
  line-one c (at.Load line) banks r l told run next quiet a b n has going room = load-lines c line banks r l told run next a b n has room
  line-one c (at.Store line word) banks r l told run next quiet a b n has going room = store-lines c line word banks r l told run next a b n has room
  line-one c at.Last banks r l told run next quiet a b n has going room = last-lines c banks r l told run (quiet.loads tt) (quiet.stores tt) (quiet.untold tt) a b n room
  line-one c at.Free banks r l told run next quiet a b n has going room = absurd going
  line-one c at.Switched banks r l told run next quiet a b n has going room = absurd going

  all-lines : (c : Cow) (banks : Banks) (runs : List Run) → AreRuns layout view store page c banks runs → IsTail (request_by store page (cows.sub_of (cows.told_all c (words_of runs)))) rest count
      → GoesOn c.at (made_by runs ++ rest) (told_lines c runs ++ replicate count (line_of (cows.sub_of (cows.told_all c (words_of runs)))))
  all-lines c banks [] are tail a b n has going room = rest-lines c c.at a b n has going tail (omega (arith, room))
  all-lines c banks (r ∷ rs) are tail a b n has going room =
      let later : Cow = cows.told_by c r.word in
      let told : List ℕ = told_lines later rs ++ replicate count (line_of (cows.sub_of (cows.told_all later (words_of rs)))) in
      append_assoc (replicate (length r.checks) (line_of (cows.sub_of c))) (told_lines later rs) (replicate count (line_of (cows.sub_of (cows.told_all later (words_of rs)))))
      ∙ line-one c c.at banks r (made_by rs ++ rest) told are.0 (all-lines later (left_by banks r.checks) rs are.1 tail)
      (record {
        loads = λ freeing. freed-none page is_load (λ slot. refl) later (left_by banks r.checks) rs freeing are.1 tail;
        stores = λ freeing. freed-none store.page is_store (λ slot. refl) later (left_by banks r.checks) rs freeing are.1 tail;
        untold = λ freeing. told-none later (left_by banks r.checks) rs freeing are.1 tail;
      })
      a b n has going (subst (λ (l : List Made). long store.page l < n) (append_assoc r.made (made_by rs) rest) room)
      ∙ ap (λ (l : List Made). line_by_line b n (seen page is_load a l) (seen store.page is_store b l)) (sym (append_assoc r.made (made_by rs) rest))

none-checks : (layout : Layout) (view : View) (banks : Banks) (o : Option Request) (checks : List Check) → AreChecksOf layout view o banks checks → o ≡ None → length checks ≡ 0
none-checks layout view banks None checks are is = ap (λ (l : List Check). length l) are
none-checks layout view banks (Some a) checks are is = absurd (none-some a (sym is))

module _ (script : Script) (copies : Who → Option VSlot) (seat : Cpu → ℕ) (last : State) (report : Report) (end : IsEnd script copies seat last report) (who : Who) (inside : who.cpu.0 < script.layout.cpus) where
  abbrev Has : Request → VSlot → ℕ → Banks → Type 0
  Has store from word before = HasCopied script.layout (view_of last (seat who.cpu)) store from word before

  lines-of : (store : Request) → store.who ≡ who → (from : VSlot) (word : ℕ) (before : Banks) (has : Has store from word before) → (has.page ≡ store.page → ⊥)
      → (checks : List Check) (banks : Banks) → AreChecksOf script.layout (view_of last (seat who.cpu)) (request_by store has.page (sub_next store from word has.runs)) banks checks → IsLeft (request_by store has.page (sub_next store from word has.runs)) has.rest → checks_in has.rest ≡ length checks
      → told_lines (cows.begin from store.slot store.line word) has.runs ++ replicate (length checks) (line_of (sub_next store from word has.runs)) ≡ copy_checks script.layout report who from store.slot
  lines-of store who_is from word before has differs checks banks are left counted =
      all-lines script.layout (view_of last (seat who.cpu)) store has.page differs has.rest (length checks) (cows.begin from store.slot store.line word) before has.runs has.are
      (record { left = left; counted = counted; free = none-checks script.layout (view_of last (seat who.cpu)) banks (request_by store has.page (sub_next store from word has.runs)) checks are })
      0 0 (length (own_in script.layout report who from) + length (own_in script.layout report who store.slot) + 1) (omega arith, refl, refl) tt room
      ∙ ap (λ (l : List Made). line_by_line 0 (length (own_in script.layout report who from) + length (own_in script.layout report who store.slot) + 1) (seen has.page is_load 0 l) (seen store.page is_store 0 l)) (sym all)
      ∙ ap (λ (l : List What). line_by_line 0 (length (own_in script.layout report who from) + length (own_in script.layout report who store.slot) + 1) (checks_by is_load 0 l) (seen store.page is_store 0 (deeds who (view_of last (seat who.cpu))))) (sym from_is)
      ∙ ap (λ (l : List What). line_by_line 0 (length (own_in script.layout report who from) + length (own_in script.layout report who store.slot) + 1) (checks_by is_load 0 (own_in script.layout report who from)) (checks_by is_store 0 l)) (sym to_is)
    where
      all : deeds who (view_of last (seat who.cpu)) ≡ made_by has.runs ++ has.rest
      all = ap (λ (w : Who). deeds w (view_of last (seat who.cpu))) (sym who_is) ∙ has.all

      from_is : own_in script.layout report who from ≡ map (λ (m : Made). m.entry.what) (in_page has.page (deeds who (view_of last (seat who.cpu))))
      from_is = own-deeds script copies seat last report end who inside from has.page has.own.page (declared-of script.layout (load_of store has.page from 0) has.own)

      to_is : own_in script.layout report who store.slot ≡ map (λ (m : Made). m.entry.what) (in_page store.page (deeds who (view_of last (seat who.cpu))))
      to_is = own-deeds script copies seat last report end who inside store.slot store.page has.names.page (declared-of script.layout store has.names)

      room : long store.page (made_by has.runs ++ has.rest) < length (own_in script.layout report who from) + length (own_in script.layout report who store.slot) + 1
      room =
          let same : long store.page (deeds who (view_of last (seat who.cpu))) ≡ long store.page (made_by has.runs ++ has.rest) = ap (long store.page) all in
          let to_long : length (own_in script.layout report who store.slot) ≡ length (map (λ (m : Made). m.entry.what) (in_page store.page (deeds who (view_of last (seat who.cpu))))) = ap (λ (l : List What). length l) to_is in
          let mapped : length (map (λ (m : Made). m.entry.what) (in_page store.page (deeds who (view_of last (seat who.cpu))))) ≡ long store.page (deeds who (view_of last (seat who.cpu))) = length-map (in_page store.page (deeds who (view_of last (seat who.cpu)))) (λ (m : Made). m.entry.what) in
          omega (arith, same, to_long, mapped)

module _ (script : Script) (copies : Who → Option VSlot) (seat : Cpu → ℕ) (last : State) (report : Report) (end : IsEnd script copies seat last report) where
  pub copy-lines : (who : Who) → who.cpu.0 < script.layout.cpus → (thread : Thread) (from to : VSlot) (line word : ℕ) → copies who ≡ Some from → command_at script who ≡ Some (commands.Store thread to line word) → (before : Banks) (told : List EventOutcome) (after : Banks)
      (is : IsCopyTold script.layout (view_of last (seat who.cpu)) who thread from to line word before told after)
      → told_lines (cows.begin from to line word) is.has.runs ++ replicate (length is.last) (line_of (sub_next (store_by who thread to line word is.page is.process) from word is.has.runs)) ≡ copy_checks script.layout report who from to
  copy-lines who inside thread from to line word copied command before told after is =
      lines-of script copies seat last report end who inside (store_by who thread to line word is.page is.process) refl from word before is.has
      (λ same. end.apart who from to thread line word is.has.page copied command (declared-of script.layout (load_of (store_by who thread to line word is.page is.process) is.has.page from 0) is.has.own)
      (subst (λ (p : Page). IsOf script.layout p to) (sym same) (declared-of script.layout (store_by who thread to line word is.page is.process) is.has.names)))
      is.last _ is.are is.left is.counted
