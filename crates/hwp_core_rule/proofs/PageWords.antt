-- What a page's lock lists, the words that fit a page's state, and a bit that is set already.
use Rattle.std.proofs.Common.{◌≡◌, ℕ, zero, suc, ◌+◌, ◌/◌, ◌%◌, ◌^◌, ◌<◌, ◌≤◌, ◌==◌, Bool, true, false, not, cond, List, [], ◌∷◌, Option, Some, length, slice_get, slice_index, bit_or, refl, sym, ap, ◌∙◌, subst, arith}
use Rattle.std.proofs.lemmas.Bool.{eqb-true}
use Rattle.std.proofs.lemmas.List.Sums.{sum_by-cons}
use Rattle.std.proofs.lemmas.Nat.{or_mod, or_shr}
use Rattle.std.proofs.lemmas.Option.{none-some, same_Some, slice_get_within, slice_get-get_or}
use Rattle.std.specs.Int.Bits.{or_zero_r}
use Rattle.std.specs.Int.{from_bool}
use Rattle.hwp_page.specs.hwp_geom.declared.Frame.{Frame}
use Rattle.hwp_page.specs.hwp_geom.declared.Layout.{Layout}
use Rattle.hwp_page.specs.hwp_geom.declared.Page.{Page}
use Rattle.hwp_page.specs.hwp_geom.declared.TransDecl.{TransDecl}
use Rattle.hwp_page.specs.declared.PageState.{PageState}
use Rattle.hwp_words.specs.Names.{frame_name}
use Rattle.hwp_words.proofs.FieldLaws.{or_one}
use Rattle.hwp_core_rule.specs.declared.log.Log.{Log}
use Rattle.hwp_core_rule.specs.declared.view.PageLock.{PageLock}
use Rattle.hwp_core_rule.specs.Logs.{state_of, fitting, fitting_from, fitting_word}
use Rattle.hwp_core_rule.specs.Views.{page_locks_on, knowing}
use Rattle.hwp_core_rule.specs.parts.Fits.{Fits, KnowsWords}
use Rattle.hwp_core_rule.proofs.Lists.{same-number}

-- a bit that is set stays so
pub or-odd : (w : ℕ) → w % 2 ≡ 1 → bit_or w 1 ≡ w
or-odd w odd =
    let high : bit_or w 1 / 2 ^ 1 ≡ w / 2 ^ 1 = or_shr w 1 1 ∙ or_zero_r (w / 2 ^ 1) in
    let low : bit_or w 1 % 2 ^ 1 ≡ 1 = or_mod w 1 1 ∙ or_one (w % 2 ^ 1) (omega arith) in
    omega arith

-- what isn't, and what is
pub not-is : (c b : Bool) → not c ≡ b → c ≡ not b
not-is true b e = ap not e
not-is false b e = ap not e

pub same-page : (p q : Page) → p.0 ≡ q.0 → p ≡ q
same-page p q e = λ i. record { 0 = e i }

-- the words that fit a state, one for each translation
pub fitting-at : (page : Page) (s : PageState) (cache slot : ℕ) (ts : List TransDecl) (n : ℕ) (t : TransDecl) → slice_get ts n ≡ Some t → t.page ≡ page
    → slice_get (fitting_from page s cache slot ts) n ≡ Some (fitting_word s cache (slot + n))
fitting-at page s cache slot [] n t e is = absurd (none-some t e)
fitting-at page s cache slot (x ∷ xs) zero t e is =
    let test : (x.page.0 == page.0) ≡ true = same-number x.page.0 page.0 (ap (λ (d : TransDecl). d.page.0) (same_Some x t e) ∙ ap (λ (p : Page). p.0) is) in
    let first : slot ≡ slot + 0 = omega arith in
    ap (λ (b : Bool). Some (cond b (fitting_word s cache slot) 0)) test ∙ ap (λ (k : ℕ). Some (fitting_word s cache k)) first
fitting-at page s cache slot (x ∷ xs) (suc n) t e is =
    let next : suc slot + n ≡ slot + suc n = omega arith in
    fitting-at page s cache (suc slot) xs n t e is ∙ ap (λ (k : ℕ). Some (fitting_word s cache k)) next

-- the one page lock that a view lists, where it lists the page's
pub first-lock : (q : ℕ) (pages : List PageLock) → length pages ≤ 1 → 0 < page_locks_on q pages → (l : PageLock) × (slice_get pages 0 ≡ Some l) × (l.page.0 ≡ q)
first-lock q [] few some = absurd (omega arith)
first-lock q (l ∷ []) few some = which (l.page.0 == q) refl
  where
    which : (b : Bool) → (l.page.0 == q) ≡ b → (m : PageLock) × (slice_get (l ∷ []) 0 ≡ Some m) × (m.page.0 ≡ q)
    which true e = (l, refl, eqb-true l.page.0 q e)
    which false e =
        let all : page_locks_on q (l ∷ []) ≡ from_bool (l.page.0 == q) + page_locks_on q [] = sum_by-cons (λ (l : PageLock). from_bool (l.page.0 == q)) l [] in
        let none : from_bool (l.page.0 == q) ≡ 0 = ap from_bool e in
        let rest : page_locks_on q [] ≡ 0 = refl in
        absurd (omega (arith, some))
first-lock q (l ∷ m ∷ ms) few some = absurd (omega (arith, few))

-- the lock of a page whose body is in hand: the words that it lists are the page's
pub knows-knowing : (layout : Layout) (trans caches : List ℕ) (log : Log) (frame : Option Frame) (l : PageLock) → length trans ≡ length layout.trans → l.page.0 ≡ log.page.0
    → slice_get caches log.page.0 ≡ Some (frame_name frame) → Fits layout trans caches log → not (frame_name frame == 0) ≡ l.resident → KnowsWords layout trans caches (knowing layout log frame l)
knows-knowing layout trans caches log frame l wide number cached fits resident = record {
  resident = λ c e. ap (λ (n : ℕ). not (n == 0)) (same_Some c (frame_name frame) (sym e ∙ ap (slice_get caches) number ∙ cached)) ∙ resident;
  cache = λ c e. subst (λ (k : ℕ). slice_get caches l.page.0 ≡ Some k) (same_Some (frame_name frame) c e) (ap (slice_get caches) number ∙ cached);
  words = λ ws e n t decl page.
      let own : t.page ≡ log.page = page ∙ same-page l.page log.page number in
      let fit : slice_get (fitting layout log.page (state_of layout log) (frame_name frame)) n ≡ Some (fitting_word (state_of layout log) (frame_name frame) n) =
      fitting-at log.page (state_of layout log) (frame_name frame) 0 layout.trans n t decl own ∙ ap (λ (k : ℕ). Some (fitting_word (state_of layout log) (frame_name frame) k)) (omega arith) in
      let inside : n < length trans = subst (λ (k : ℕ). n < k) (sym wide) (slice_get_within layout.trans n t decl) in
      let stands : slice_get trans n ≡ Some (slice_index trans n) = slice_get-get_or trans n 0 inside in
      let used : slice_index trans n ≡ fitting_word (state_of layout log) (frame_name frame) n = (fits (frame_name frame) cached).used n (slice_index trans n) t decl own stands in
      ap (λ (list : List ℕ). slice_get list n) (sym (same_Some (fitting layout log.page (state_of layout log) (frame_name frame)) ws e)) ∙ fit ∙ ap (λ (k : ℕ). Some k) (sym used) ∙ sym stands;
}
