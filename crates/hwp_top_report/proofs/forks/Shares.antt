-- Who can access a page that a fork froze: each translation to it has a twin and is of the parent or the child, so it is used on the fork's
-- processor alone; and to the page of a twin the twin alone leads.
use Rattle.std.proofs.Common.{◌≡◌, ◌⊎◌, inl, inr, ℕ, zero, suc, ◌+◌, ◌<◌, ◌≤◌, ◌==◌, ◌&&◌, ◌||◌, not, Bool, true, false, cond, List, [], ◌∷◌, Option, None, Some, count_by, is_some, length, slice_get, refl, sym, ap, ◌∙◌, true≢false, arith}
use Rattle.std.specs.Prelude.{IsSomeAnd}
use Rattle.std.specs.List.{list_any}
use Rattle.std.specs.Option.{option_map_or}
use Rattle.std.proofs.lemmas.Bool.{and_parts, cases_order, eq-eqb, eqb-true, lt-ltb, not-false, or_parts}
use Rattle.std.proofs.lemmas.List.Sums.{sum_by-cons}
use Rattle.std.proofs.lemmas.Option.{none-some, same_Some, slice_get-get_or, slice_get_within}
use Rattle.hwp_law_served.specs.hwp_geom.Layout.{IsSound, twin_of}
use Rattle.hwp_law_served.specs.hwp_geom.declared.Layout.{Layout}
use Rattle.hwp_law_served.specs.hwp_geom.declared.Proc.{Proc}
use Rattle.hwp_law_served.specs.hwp_geom.declared.Thread.{Thread}
use Rattle.hwp_law_served.specs.hwp_geom.declared.ThreadDecl.{ThreadDecl}
use Rattle.hwp_law_served.specs.hwp_geom.declared.TransDecl.{TransDecl}
use Rattle.hwp_law_served.specs.hwp_geom.declared.VSlot.{VSlot}
use Rattle.hwp_law_served.specs.hwp_script_words.Forks.{cannot_share, freezes, froze, has_shared_page, is_away, is_cow, is_doubled, is_either, is_odd, is_shared, is_unfit, is_used_by, is_wrong_child, is_wrong_fork, slots}
use Rattle.hwp_law_served.specs.hwp_script_words.Valid.{IsAccess}
use Rattle.hwp_law_served.specs.hwp_script_words.declared.Command.{Command}
use Rattle.hwp_law_served.specs.hwp_script_words.declared.Command.TheVariants as commands
use Rattle.hwp_top_report.proofs.forks.AnswerLines.{zip-get}

-- ---- tests of lists

pub some-and : {X : Type 0} (o : Option X) (P : X → Type 0) → IsSomeAnd o P → (x : X) × (o ≡ Some x) × P x
some-and None P is = absurd is
some-and (Some x) P is = (x, refl, is)

pub any-where : {X : Type 0} (test : X → Bool) (xs : List X) → list_any test xs ≡ true → (i : ℕ) × (x : X) × (slice_get xs i ≡ Some x) × (test x ≡ true)
any-where test [] is = absurd (true≢false (sym is))
any-where {X} test (x ∷ xs) is = which (test x) refl (any-where test xs)
  where
    which : (b : Bool) → test x ≡ b → (list_any test xs ≡ true → (i : ℕ) × (y : X) × (slice_get xs i ≡ Some y) × (test y ≡ true)) → (i : ℕ) × (y : X) × (slice_get (x ∷ xs) i ≡ Some y) × (test y ≡ true)
    which true e later = (0, x, refl, e)
    which false e later =
        let g = later (ap (λ (b : Bool). b || list_any test xs) (sym e) ∙ is) in
        (suc g.0, g.1, g.2, g.3)

pub none-any : {X : Type 0} (test : X → Bool) (xs : List X) → list_any test xs ≡ false → (i : ℕ) (x : X) → slice_get xs i ≡ Some x → test x ≡ false
none-any test [] none i x there = absurd (none-some x there)
none-any test (y ∷ ys) none zero x there = sym (ap test (same_Some y x there)) ∙ (or_parts (test y) (list_any test ys) none).0
none-any test (y ∷ ys) none (suc i) x there = none-any test ys (or_parts (test y) (list_any test ys) none).1 i x there

abbrev flag : Bool → ℕ
flag b = cond b 1 0

count-one : {X : Type 0} (test : X → Bool) (xs : List X) (i : ℕ) (x : X) → slice_get xs i ≡ Some x → test x ≡ true → 1 ≤ count_by test xs
count-one test [] i x there is = absurd (none-some x there)
count-one {X} test (y ∷ ys) zero x there is =
    let e : ◌≡◌ {A = ℕ} (flag (test y)) 1 = ap (λ (z : X). flag (test z)) (same_Some y x there) ∙ ap flag is in
    let sum : count_by test (y ∷ ys) ≡ flag (test y) + count_by test ys = sum_by-cons (λ (z : X). flag (test z)) y ys in
    omega (arith, e, sum)
count-one {X} test (y ∷ ys) (suc i) x there is =
    let sum : count_by test (y ∷ ys) ≡ flag (test y) + count_by test ys = sum_by-cons (λ (z : X). flag (test z)) y ys in
    let less : 1 ≤ count_by test ys = count-one test ys i x there is in
    omega (arith, sum, less)

count-two : {X : Type 0} (test : X → Bool) (xs : List X) (i j : ℕ) (x y : X) → i < j → slice_get xs i ≡ Some x → slice_get xs j ≡ Some y → test x ≡ true → test y ≡ true → 2 ≤ count_by test xs
count-two test [] i j x y apart here there is also = absurd (none-some x here)
count-two test (z ∷ zs) i zero x y apart here there is also = absurd (omega (arith, apart))
count-two {X} test (z ∷ zs) zero (suc j) x y apart here there is also =
    let e : ◌≡◌ {A = ℕ} (flag (test z)) 1 = ap (λ (w : X). flag (test w)) (same_Some z x here) ∙ ap flag is in
    let sum : count_by test (z ∷ zs) ≡ flag (test z) + count_by test zs = sum_by-cons (λ (w : X). flag (test w)) z zs in
    let less : 1 ≤ count_by test zs = count-one test zs j y there also in
    omega (arith, e, sum, less)
count-two {X} test (z ∷ zs) (suc i) (suc j) x y apart here there is also =
    let sum : count_by test (z ∷ zs) ≡ flag (test z) + count_by test zs = sum_by-cons (λ (w : X). flag (test w)) z zs in
    let less : 2 ≤ count_by test zs = count-two test zs i j x y (omega (arith, apart)) here there is also in
    omega (arith, sum, less)

-- ---- the twin's page

two-shared : (layout : Layout) (page i j : ℕ) (v w : TransDecl) → i < j → slice_get layout.trans i ≡ Some v → slice_get layout.trans j ≡ Some w → v.page.0 ≡ page → w.page.0 ≡ page → is_shared layout page ≡ true
two-shared layout page i j v w apart here there is also =
    let many : 2 ≤ count_by (λ (t : TransDecl). t.page.0 == page) layout.trans =
    count-two (λ (t : TransDecl). t.page.0 == page) layout.trans i j v w apart here there (eq-eqb v.page.0 page is) (eq-eqb w.page.0 page also) in
    lt-ltb 1 (count_by (λ (t : TransDecl). t.page.0 == page) layout.trans) (omega (arith, many))

-- a translation to the page of one whose page is its alone is that one
pub alone : (layout : Layout) (twin other : VSlot) (w v : TransDecl) → has_shared_page layout twin ≡ false → slice_get layout.trans twin.0 ≡ Some w → slice_get layout.trans other.0 ≡ Some v → v.page.0 ≡ w.page.0 → other.0 ≡ twin.0
alone layout twin other w v own is also same = which (cases_order other.0 twin.0)
  where
    unshared : is_shared layout w.page.0 ≡ false
    unshared = sym (ap (λ (o : Option TransDecl). option_map_or (λ (t : TransDecl). is_shared layout t.page.0) o false) is) ∙ own

    which : (other.0 ≡ twin.0) ⊎ ((other.0 < twin.0) ⊎ (twin.0 < other.0)) → other.0 ≡ twin.0
    which (inl e) = e
    which (inr (inl less)) = absurd (true≢false (sym (two-shared layout w.page.0 other.0 twin.0 v w less also is same refl) ∙ unshared))
    which (inr (inr less)) = absurd (true≢false (sym (two-shared layout w.page.0 twin.0 other.0 w v less is also refl same) ∙ unshared))

-- ---- the page of the fork

-- each translation to the page has a twin, and threads that can access it run on this processor alone
pub record IsShared (layout : Layout) (cpu page : ℕ) : Type 0 where
  pub twinned : (slot : VSlot) (v : TransDecl) → slice_get layout.trans slot.0 ≡ Some v → v.page.0 ≡ page → is_some (twin_of layout slot) ≡ true
  pub here : (slot : VSlot) (v : TransDecl) (other : ℕ) (thread : Thread) → slice_get layout.trans slot.0 ≡ Some v → v.page.0 ≡ page → IsAccess layout other thread slot → other ≡ cpu

last-two : (a b c d : Bool) → (a || b || c || d) ≡ false → (c ≡ false) × (d ≡ false)
last-two true b c d is = absurd (true≢false is)
last-two false true c d is = absurd (true≢false is)
last-two false false true d is = absurd (true≢false is)
last-two false false false true is = absurd (true≢false is)
last-two false false false false is = (refl, refl)

first-of : (a b c : Bool) → (a || b || c) ≡ false → a ≡ false
first-of true b c is = absurd (true≢false is)
first-of false b c is = refl

and-not : (a b : Bool) → a ≡ true → (a && not b) ≡ false → b ≡ true
and-not a b is none = not-false b (sym (ap (λ (x : Bool). x && not b) is) ∙ none)

module _ (layout : Layout) (cpu : ℕ) (before : List Command) (parent child page : ℕ) (sound : IsSound layout) (right : is_wrong_child layout cpu before parent child ≡ false) (frozen : freezes layout parent page ≡ true) where
  parts : (list_any (is_away cpu parent child) layout.threads ≡ false) × (cannot_share layout before parent child ≡ false)
  parts = last-two (child == parent) (list_any (is_used_by layout child) before) (list_any (is_away cpu parent child) layout.threads) (cannot_share layout before parent child) right

  fits : list_any (is_odd parent child page) (slots layout) ≡ false
  fits =
      let some = any-where (λ (slot : TransDecl × Option VSlot). is_cow parent slot && (slot.0.page.0 == page)) (slots layout) frozen in
      let both : (is_cow parent some.1 ≡ true) × ((some.1.0.page.0 == page) ≡ true) = and_parts (is_cow parent some.1) (some.1.0.page.0 == page) some.3 in
      let none : (is_cow parent some.1 && (is_unfit layout parent child some.1.0.page.0 || list_any (froze layout some.1.0.page.0) before)) ≡ false =
      none-any (λ (slot : TransDecl × Option VSlot). is_cow parent slot && (is_unfit layout parent child slot.0.page.0 || list_any (froze layout slot.0.page.0) before)) (slots layout) parts.1 some.0 some.1 some.2 in
      let either : (is_unfit layout parent child some.1.0.page.0 || list_any (froze layout some.1.0.page.0) before) ≡ false =
      sym (ap (λ (b : Bool). b && (is_unfit layout parent child some.1.0.page.0 || list_any (froze layout some.1.0.page.0) before)) both.0) ∙ none in
      let unfit : is_unfit layout parent child page ≡ false =
      ap (is_unfit layout parent child) (sym (eqb-true some.1.0.page.0 page both.1)) ∙ (or_parts (is_unfit layout parent child some.1.0.page.0) (list_any (froze layout some.1.0.page.0) before) either).0 in
      first-of (list_any (is_odd parent child page) (slots layout)) (is_doubled layout parent page) (is_doubled layout child page) unfit

  even : (slot : VSlot) (v : TransDecl) → slice_get layout.trans slot.0 ≡ Some v → v.page.0 ≡ page → (is_some (twin_of layout slot) ≡ true) × (is_either parent child v.process.0 ≡ true)
  even slot v there is =
      let within : slot.0 < length layout.trans = slice_get_within layout.trans slot.0 v there in
      let twins : length layout.twins ≡ length layout.trans = sound.twins in
      let twin : slice_get layout.twins slot.0 ≡ Some (twin_of layout slot) = slice_get-get_or layout.twins slot.0 None (omega (arith, within, twins)) in
      let odd : ((v.page.0 == page) && not (is_some (twin_of layout slot) && is_either parent child v.process.0)) ≡ false =
      none-any (is_odd parent child page) (slots layout) fits slot.0 (v, twin_of layout slot) (zip-get layout.trans layout.twins slot.0 v (twin_of layout slot) there twin) in
      and_parts (is_some (twin_of layout slot)) (is_either parent child v.process.0) (and-not (v.page.0 == page) (is_some (twin_of layout slot) && is_either parent child v.process.0) (eq-eqb v.page.0 page is) odd)

  pub shared : IsShared layout cpu page
  shared = record {
    twinned = λ slot v there is. (even slot v there is).0;
    here = λ slot v other thread there is access.
        let t = some-and (slice_get layout.threads thread.0) (λ (d : ThreadDecl). (d.cpu.0 ≡ other) × IsSomeAnd (slice_get layout.trans slot.0) (λ (u : TransDecl). u.process ≡ d.process)) access in
        let u = some-and (slice_get layout.trans slot.0) (λ (x : TransDecl). x.process ≡ t.0.process) t.2.1 in
        let same : v.process ≡ t.0.process = ap (λ (x : TransDecl). x.process) (same_Some v u.0 (sym there ∙ u.1)) ∙ u.2 in
        let either : is_either parent child t.0.process.0 ≡ true = ap (λ (p : Proc). is_either parent child p.0) (sym same) ∙ (even slot v there is).1 in
        let near : (t.0.cpu.0 == cpu) ≡ true = and-not (is_either parent child t.0.process.0) (t.0.cpu.0 == cpu) either (none-any (is_away cpu parent child) layout.threads parts.0 thread.0 t.0 t.1) in
        sym t.2.0 ∙ eqb-true t.0.cpu.0 cpu near;
  }

-- a fork that may stand where it does shares the pages that it freezes
pub fork-shares : (layout : Layout) (cpu : ℕ) (before : List Command) (thread : Thread) (process : Proc) (page : ℕ) → IsSound layout → is_wrong_fork layout cpu before (commands.Fork thread process) ≡ false → froze layout page (commands.Fork thread process) ≡ true
    → IsShared layout cpu page
fork-shares layout cpu before thread process page sound right frozen = which (slice_get layout.threads thread.0) right frozen
  where
    which : (o : Option ThreadDecl) → option_map_or (λ (t : ThreadDecl). is_wrong_child layout cpu before t.process.0 process.0) o false ≡ false → option_map_or (λ (t : ThreadDecl). freezes layout t.process.0 page) o false ≡ true → IsShared layout cpu page
    which None right frozen = absurd (true≢false (sym frozen))
    which (Some t) right frozen = shared layout cpu before t.process.0 process.0 page sound right frozen
