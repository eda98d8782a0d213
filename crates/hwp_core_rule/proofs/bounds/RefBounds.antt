-- How many references all views have on one frame: no count overflows its field.
use Rattle.std.proofs.Common.{add-mul, mul-le-mul, inl, inr, ◌≡◌, ◌≢◌, ℕ, zero, suc, ◌+◌, ◌*◌, ◌^◌, ◌<◌, ◌≤◌, ◌==◌, Bool, true, false, List, [], ◌∷◌, Some, map, length, slice_get, refl, sym, ap, ◌∙◌, subst, arith}
use Rattle.std.proofs.lemmas.Bool.{ne_eqb}
use Rattle.std.proofs.lemmas.List.Sums.{sum_by-cons}
use Rattle.std.specs.Int.{from_bool}
use Rattle.std.specs.List.{sum_by}
use Rattle.hwp_page.specs.hwp_geom.declared.Layout.{Layout}
use Rattle.hwp_page.specs.hwp_geom.Layout.{IsSound}
use Rattle.hwp_page.specs.hwp_geom.Limits.{cpu_limit, page_limit, translation_limit}
use Rattle.hwp_words.specs.Frames.{count_of, handled_of}
use Rattle.hwp_core_rule.specs.declared.view.Part.{Part}
use Rattle.hwp_core_rule.specs.declared.view.View.{View}
use Rattle.hwp_core_rule.specs.Lists.{Homes, EachMember, EachListed, sum_all}
use Rattle.hwp_core_rule.specs.Rule.{FrameRule, holdings_of}
use Rattle.hwp_core_rule.specs.Views.{refs_on}
use Rattle.hwp_core_rule.specs.Words.{Words, sum_below}
use Rattle.hwp_core_rule.specs.parts.Counts.{named}
use Rattle.hwp_core_rule.specs.parts.Holdings.{IsBounded, ProcessorsApart, HoldsNothing, HeldByProcessors}
use Rattle.hwp_core_rule.proofs.CountsBelow.{below-zero}
use Rattle.hwp_core_rule.proofs.Keeps.{IsShaped}
use Rattle.hwp_core_rule.proofs.Lists.{same-number, same-or}

-- ---- each processor once: no more parts than processors

sum_below-add : (f g h : ℕ → ℕ) (n : ℕ) → ((c : ℕ) → f c ≡ g c + h c) → sum_below f n ≡ sum_below g n + sum_below h n
sum_below-add f g h zero each = refl
sum_below-add f g h (suc n) each =
    let rest : sum_below f n ≡ sum_below g n + sum_below h n = sum_below-add f g h n each in
    let last : f n ≡ g n + h n = each n in
    omega arith

sum_below-one : (f : ℕ → ℕ) (k n : ℕ) → k < n → f k ≡ 1 → ((c : ℕ) → c ≢ k → f c ≡ 0) → sum_below f n ≡ 1
sum_below-one f k zero less one none = absurd (omega arith)
sum_below-one f k (suc n) less one none = elim (same-or n k) [
  | inl same ↦
      let rest : sum_below f n ≡ 0 = below-zero f n (λ c below. none c (λ e. absurd (omega (arith, same, e, below)))) in
      let last : f n ≡ 1 = ap f same ∙ one in
      omega arith
  | inr differs ↦
      let within : k < n = omega (arith, differs) in
      let rest : sum_below f n ≡ 1 = sum_below-one f k n within one none in
      let last : f n ≡ 0 = none n differs in
      omega arith
]

abbrev of_cpu : ℕ → Part → ℕ
of_cpu c p = from_bool (p.cpu.0 == c)

parts-counted : (n : ℕ) (list : List Part) → EachMember (λ (p : Part). p.cpu.0 < n) list → sum_below (λ c. sum_by (of_cpu c) list) n ≡ length list
parts-counted n [] each = below-zero (λ c. sum_by (of_cpu c) []) n (λ c less. refl)
parts-counted n (p ∷ ps) each =
    let here : p.cpu.0 < n = each 0 p refl in
    let rest : sum_below (λ c. sum_by (of_cpu c) ps) n ≡ length ps = parts-counted n ps (λ i x e. each (suc i) x e) in
    let split : sum_below (λ c. sum_by (of_cpu c) (p ∷ ps)) n ≡ sum_below (λ c. of_cpu c p) n + sum_below (λ c. sum_by (of_cpu c) ps) n =
    sum_below-add (λ c. sum_by (of_cpu c) (p ∷ ps)) (λ c. of_cpu c p) (λ c. sum_by (of_cpu c) ps) n (λ c. sum_by-cons (of_cpu c) p ps) in
    let one : sum_below (λ c. of_cpu c p) n ≡ 1 = sum_below-one (λ c. of_cpu c p) p.cpu.0 n here (ap from_bool (same-number p.cpu.0 p.cpu.0 refl)) (λ c ne. ap from_bool (ne_eqb p.cpu.0 c (λ e. ne (sym e)))) in
    omega arith

all-parts-counted : (n : ℕ) (lists : List (List Part)) → EachListed (λ (p : Part). p.cpu.0 < n) lists → sum_below (λ c. sum_all (of_cpu c) lists) n ≡ sum_by (λ (l : List Part). length l) lists
all-parts-counted n [] each = below-zero (λ c. sum_all (of_cpu c) []) n (λ c less. refl)
all-parts-counted n (l ∷ ls) each =
    let here : sum_below (λ c. sum_by (of_cpu c) l) n ≡ length l = parts-counted n l (each 0 l refl) in
    let rest : sum_below (λ c. sum_all (of_cpu c) ls) n ≡ sum_by (λ (l : List Part). length l) ls = all-parts-counted n ls (λ i x e. each (suc i) x e) in
    let split : sum_below (λ c. sum_all (of_cpu c) (l ∷ ls)) n ≡ sum_below (λ c. sum_by (of_cpu c) l) n + sum_below (λ c. sum_all (of_cpu c) ls) n =
    sum_below-add (λ c. sum_all (of_cpu c) (l ∷ ls)) (λ c. sum_by (of_cpu c) l) (λ c. sum_all (of_cpu c) ls) n (λ c. sum_by-cons (sum_by (of_cpu c)) l ls) in
    let all : sum_by (λ (l : List Part). length l) (l ∷ ls) ≡ length l + sum_by (λ (l : List Part). length l) ls = sum_by-cons (λ (l : List Part). length l) l ls in
    omega arith

sum_below-ones : (f : ℕ → ℕ) (n : ℕ) → ((c : ℕ) → c < n → f c ≡ 1) → sum_below f n ≡ n
sum_below-ones f zero ones = refl
sum_below-ones f (suc n) ones =
    let rest : sum_below f n ≡ n = sum_below-ones f n (λ c less. ones c (omega arith)) in
    let last : f n ≡ 1 = ones n (omega arith) in
    omega arith

-- the views have as many processors together as the layout
pub parts-number : (layout : Layout) (parts : List (List Part)) → ProcessorsApart layout parts → sum_by (λ (l : List Part). length l) parts ≡ layout.cpus
parts-number layout parts h = sym (all-parts-counted layout.cpus parts h.declared) ∙ sum_below-ones (λ c. sum_all (of_cpu c) parts) layout.cpus h.one

-- ---- references

refs-at_most : (layout : Layout) (f : ℕ) (v : View) → IsBounded layout (holdings_of v) → (v.parts ≡ [] → HoldsNothing v) → refs_on f v.refs ≤ length v.parts * (length layout.trans + 2)
refs-at_most layout f v bounded nothing = which v.parts refl
  where
    which : (parts : List Part) → v.parts ≡ parts → refs_on f v.refs ≤ length parts * (length layout.trans + 2)
    which [] e =
        let none : refs_on f v.refs ≡ 0 = ap (refs_on f) (nothing e).refs in
        omega arith
    which (p ∷ ps) e =
        let shares : refs_on f v.refs ≤ length layout.trans + 2 = bounded.shares f in
        let wide : length (p ∷ ps) * (length layout.trans + 2) ≡ (length layout.trans + 2) + length ps * (length layout.trans + 2) = omega arith in
        omega arith

all-refs-at_most : (layout : Layout) (f : ℕ) (views : List View) → EachMember (IsBounded layout) (map holdings_of views) → EachMember (λ (v : View). v.parts ≡ [] → HoldsNothing v) views
    → sum_by (refs_on f) (map (λ (v : View). v.refs) views) ≤ sum_by (λ (l : List Part). length l) (map (λ (v : View). v.parts) views) * (length layout.trans + 2)
all-refs-at_most layout f [] each nothing = omega arith
all-refs-at_most layout f (v ∷ vs) each nothing =
    let here : refs_on f v.refs ≤ length v.parts * (length layout.trans + 2) = refs-at_most layout f v (each 0 (holdings_of v) refl) (nothing 0 v refl) in
    let rest : sum_by (refs_on f) (map (λ (v : View). v.refs) vs) ≤ sum_by (λ (l : List Part). length l) (map (λ (v : View). v.parts) vs) * (length layout.trans + 2) = all-refs-at_most layout f vs (λ i x e. each (suc i) x e) (λ i x e. nothing (suc i) x e) in
    let left : sum_by (refs_on f) (map (λ (v : View). v.refs) (v ∷ vs)) ≡ refs_on f v.refs + sum_by (refs_on f) (map (λ (v : View). v.refs) vs) = sum_by-cons (refs_on f) v.refs (map (λ (v : View). v.refs) vs) in
    let right : sum_by (λ (l : List Part). length l) (map (λ (v : View). v.parts) (v ∷ vs)) ≡ length v.parts + sum_by (λ (l : List Part). length l) (map (λ (v : View). v.parts) vs) =
    sum_by-cons (λ (l : List Part). length l) v.parts (map (λ (v : View). v.parts) vs) in
    let product : (length v.parts + sum_by (λ (l : List Part). length l) (map (λ (v : View). v.parts) vs)) * (length layout.trans + 2)
    ≡ length v.parts * (length layout.trans + 2) + sum_by (λ (l : List Part). length l) (map (λ (v : View). v.parts) vs) * (length layout.trans + 2) = add-mul (length v.parts) (sum_by (λ (l : List Part). length l) (map (λ (v : View). v.parts) vs)) (length layout.trans + 2) in
    subst (λ (n : ℕ). n ≤ sum_by (λ (l : List Part). length l) (map (λ (v : View). v.parts) (v ∷ vs)) * (length layout.trans + 2)) (sym left)
    (subst (λ (n : ℕ). refs_on f v.refs + sum_by (refs_on f) (map (λ (v : View). v.refs) vs) ≤ n * (length layout.trans + 2)) (sym right)
    (subst (λ (n : ℕ). refs_on f v.refs + sum_by (refs_on f) (map (λ (v : View). v.refs) vs) ≤ n) (sym product) (omega arith)))

named-at_most : (f : ℕ) (words : List ℕ) → named f words ≤ length words
named-at_most f [] = omega arith
named-at_most f (w ∷ ws) =
    let all : named f (w ∷ ws) ≡ from_bool (w == f + 1) + named f ws = sum_by-cons (λ (w : ℕ). from_bool (w == f + 1)) w ws in
    let rest : named f ws ≤ length ws = named-at_most f ws in
    let one : from_bool (w == f + 1) ≤ 1 = which (w == f + 1) in
    omega arith
  where
    which : (b : Bool) → from_bool b ≤ 1
    which true = omega arith
    which false = omega arith

-- a count has room for as many references as a view can have more
pub count-fits : (layout : Layout) (w : Words) (homes : Homes) (views : List View) → IsSound layout → IsShaped layout w homes → FrameRule layout w homes views → HeldByProcessors views
    → (f word n : ℕ) → slice_get w.frames f ≡ Some word → n ≤ length layout.trans + 2 → count_of word + n < 2 ^ 20
count-fits layout w homes views sound shaped h held f word n there few =
    let balance : count_of word ≡ named f w.trans + named f w.caches + sum_by (refs_on f) (map (λ (v : View). v.refs) views) + handled_of word = h.frames.counts.balance f word there in
    let parts : sum_by (λ (l : List Part). length l) (map (λ (v : View). v.parts) views) ≡ layout.cpus = parts-number layout (map (λ (v : View). v.parts) views) h.processors.processors in
    let refs : sum_by (refs_on f) (map (λ (v : View). v.refs) views) ≤ sum_by (λ (l : List Part). length l) (map (λ (v : View). v.parts) views) * (length layout.trans + 2) = all-refs-at_most layout f views h.frames.holdings.bounded held.nothing in
    let cpus : layout.cpus ≤ cpu_limit = sound.cpus in
    let trans : length layout.trans ≤ translation_limit = sound.trans in
    let pages : length layout.pages ≤ page_limit = sound.pages in
    let names : named f w.trans ≤ length layout.trans = subst (λ (n : ℕ). named f w.trans ≤ n) shaped.trans (named-at_most f w.trans) in
    let caches : named f w.caches ≤ length layout.pages = subst (λ (n : ℕ). named f w.caches ≤ n) shaped.caches (named-at_most f w.caches) in
    let handled : handled_of word < 2 = omega arith in
    let few_cpus : sum_by (λ (l : List Part). length l) (map (λ (v : View). v.parts) views) ≤ cpu_limit = omega arith in
    let wide : length layout.trans + 2 ≤ translation_limit + 2 = omega arith in
    let product : sum_by (λ (l : List Part). length l) (map (λ (v : View). v.parts) views) * (length layout.trans + 2) ≤ cpu_limit * (translation_limit + 2) = mul-le-mul few_cpus wide in
    omega arith
