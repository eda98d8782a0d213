-- A store of a command behind a place in a page's history.
use Rattle.std.proofs.Common.{◌≡◌, ◌↔◌, IsTrue, ℕ, zero, suc, ◌+◌, ◌-◌, ◌<◌, ◌≤◌, ◌&&◌, Bool, true, false, List, [], ◌∷◌, Option, Some, None, drop, length, slice_get, take, unwrap_or, refl, sym, ap, subst, ◌∙◌, true≢false, arith, ◌==◌, ◌||◌}
use Rattle.std.specs.List.{list_any}
use Rattle.std.proofs.lemmas.Bool.{eq-eqb, eqb-true}
use Rattle.std.proofs.lemmas.List.{drop_all, length-drop, take_all}
use Rattle.std.proofs.lemmas.Option.{none-some, same_Some}
use Rattle.hwp_check_evidence.specs.hwp_geom.declared.VSlot.{VSlot}
use Rattle.hwp_check_evidence.specs.hwp_geom.declared.Page.{Page}
use Rattle.hwp_check_evidence.specs.hwp_geom.declared.Who.{Who}
use Rattle.hwp_check_evidence.specs.hwp_law.Copies.{is_store}
use Rattle.hwp_check_evidence.specs.hwp_law.Lines.{is_same_command}
use Rattle.hwp_check_evidence.specs.hwp_page.declared.At.{At}
use Rattle.hwp_check_evidence.specs.hwp_page.declared.Entry.{Entry}
use Rattle.hwp_check_evidence.specs.hwp_report_text.declared.Answer.{Answer}
use Rattle.hwp_check_evidence.specs.hwp_report_text.declared.Answer.TheVariants as answers
use Rattle.hwp_check_evidence.specs.hwp_report_text.declared.Report.{Report}
use Rattle.hwp_check_evidence.proofs.WindowLaws.{entry-is, is-entry}
use Rattle.hwp_check_rules.specs.AnswerFaults.{IsNotLast}
use Rattle.hwp_check_answers.specs.Judging.{HasStoreBehind, StoresPast, is_own_store}

both : (a b : Bool) → (a && b) ≡ true → (a ≡ true) × (b ≡ true)
both true b e = (refl, e)
both false b e = absurd (true≢false (sym e))

and-true : (a b : Bool) → a ≡ true → b ≡ true → (a && b) ≡ true
and-true true b one other = other
and-true false b one other = absurd (true≢false (sym one))

same-who : (a b : Who) → is_same_command a b ≡ true → a ≡ b
same-who a b is =
    let p = both (a.cpu.0 == b.cpu.0) (a.seq == b.seq) is in
    let cpu : a.cpu.0 ≡ b.cpu.0 = eqb-true a.cpu.0 b.cpu.0 p.0 in
    let seq : a.seq ≡ b.seq = eqb-true a.seq b.seq p.1 in
    λ i. record { cpu = record { 0 = cpu i }; seq = seq i }

who-same : (a b : Who) → a ≡ b → is_same_command a b ≡ true
who-same a b same = and-true (a.cpu.0 == b.cpu.0) (a.seq == b.seq) (eq-eqb a.cpu.0 b.cpu.0 (ap (λ (w : Who). w.cpu.0) same)) (eq-eqb a.seq b.seq (ap (λ (w : Who). w.seq) same))

-- one of the entries behind so many is such
record FoundAt (who : Who) (list : List Entry) (n : ℕ) : Type 0 where
  place : ℕ
  entry : Entry
  past : n ≤ place
  there : slice_get list place ≡ Some entry
  own : is_own_store who entry ≡ true

found-head : (who : Who) (e : Entry) (es : List Entry) (b : Bool) → is_own_store who e ≡ b → (b || list_any (is_own_store who) es) ≡ true → (list_any (is_own_store who) es ≡ true → FoundAt who es 0)
    → FoundAt who (e ∷ es) 0
found-head who e es true here any rest = record { place = 0; entry = e; past = omega arith; there = refl; own = here }
found-head who e es false here any rest = let r = rest any in record { place = suc r.place; entry = r.entry; past = omega arith; there = r.there; own = r.own }

any-at : (who : Who) (list : List Entry) (n : ℕ) → list_any (is_own_store who) (drop n list) ≡ true → FoundAt who list n
any-at who [] zero is = absurd (true≢false (sym is))
any-at who [] (suc n) is = absurd (true≢false (sym is))
any-at who (e ∷ es) zero is = found-head who e es (is_own_store who e) refl is (λ any. any-at who es 0 any)
any-at who (e ∷ es) (suc n) is =
    let r = any-at who es n is in
    let l : n ≤ r.place = r.past in
    record { place = suc r.place; entry = r.entry; past = omega (arith, l); there = r.there; own = r.own }

at-any : (who : Who) (list : List Entry) (n k : ℕ) (e : Entry) → n ≤ k → slice_get list k ≡ Some e → is_own_store who e ≡ true → list_any (is_own_store who) (drop n list) ≡ true
at-any who [] n k e low there is = absurd (none-some e there)
at-any who (x ∷ xs) zero zero e low there is = ap (λ (b : Bool). b || list_any (is_own_store who) xs) (ap (is_own_store who) (same_Some x e there) ∙ is)
at-any who (x ∷ xs) zero (suc k) e low there is = or-right (is_own_store who x) (list_any (is_own_store who) xs) (at-any who xs 0 k e (omega arith) there is)
  where
    or-right : (a b : Bool) → b ≡ true → (a || b) ≡ true
    or-right true b any = refl
    or-right false b any = any
at-any who (x ∷ xs) (suc n) zero e low there is = absurd (omega (arith, low))
at-any who (x ∷ xs) (suc n) (suc k) e low there is = at-any who xs n k e (omega (arith, low)) there is

pub rest_is : (list : List Entry) (n : ℕ) → take (length list - n) (drop n list) ≡ drop n list
rest_is list n = take_all (length list - n) (drop n list) (let l : length (drop n list) ≡ length list - n = length-drop n list in omega (arith, l))

pub none_past : (who : Who) (list : List Entry) (n : ℕ) → length list ≤ n → list_any (is_own_store who) (drop (n + 1) list) ≡ false
none_past who list n past = ap (list_any (is_own_store who)) (drop_all (n + 1) list (omega (arith, past)))

module _ (report : Report) (who : Who) (at : At) where
  behind_has : (list : List Entry) → slice_get report.pages at.page.0 ≡ Some list → list_any (is_own_store who) (drop (at.entry + 1) list) ≡ true → HasStoreBehind report who at
  behind_has list page any =
      let r = any-at who list (at.entry + 1) any in
      let p = both (is_same_command r.entry.who who) (is_store r.entry.what) r.own in
      record {
        later = record { page = at.page; entry = r.place };
        entry = r.entry;
        there = entry-is report.pages at.page r.place list r.entry page r.there;
        own = same-who r.entry.who who p.0;
        same_page = refl;
        behind = let l : at.entry + 1 ≤ r.place = r.past in omega (arith, l);
        stores = p.1;
      }

  has_behind : (list : List Entry) → slice_get report.pages at.page.0 ≡ Some list → HasStoreBehind report who at → list_any (is_own_store who) (drop (at.entry + 1) list) ≡ true
  has_behind list page h =
      let s = is-entry report.pages h.later h.entry h.there in
      let same : s.entries ≡ list = same_Some _ _ (sym s.page ∙ ap (λ (p : Page). slice_get report.pages p.0) h.same_page ∙ page) in
      let later : at.entry < h.later.entry = h.behind in
      at-any who list (at.entry + 1) h.later.entry h.entry (omega (arith, later)) (subst (λ (l : List Entry). slice_get l h.later.entry ≡ Some h.entry) same s.there)
      (and-true (is_same_command h.entry.who who) (is_store h.entry.what) (who-same h.entry.who who h.own) h.stores)

  -- a report has one where the entries of the page, or none, do
  found-behind : (list : List Entry) → list_any (is_own_store who) (drop (at.entry + 1) list) ≡ true → (o : Option (List Entry)) → slice_get report.pages at.page.0 ≡ o → list ≡ unwrap_or o [] → HasStoreBehind report who at
  found-behind list any (Some l) page is = behind_has l page (subst (λ (x : List Entry). list_any (is_own_store who) (drop (at.entry + 1) x) ≡ true) is any)
  found-behind list any None page is = absurd (true≢false (sym any ∙ none_past who list at.entry (subst (λ (x : List Entry). length x ≤ at.entry) (sym is) (omega arith))))

  behind-found : (list : List Entry) → list ≡ unwrap_or (slice_get report.pages at.page.0) [] → HasStoreBehind report who at → list_any (is_own_store who) (drop (at.entry + 1) list) ≡ true
  behind-found list is h =
      let s = is-entry report.pages h.later h.entry h.there in
      let page : slice_get report.pages at.page.0 ≡ Some s.entries = ap (λ (p : Page). slice_get report.pages p.0) (sym h.same_page) ∙ s.page in
      let same : list ≡ s.entries = is ∙ ap (λ (o : Option (List Entry)). unwrap_or o []) page in
      ap (λ (x : List Entry). list_any (is_own_store who) (drop (at.entry + 1) x)) same ∙ has_behind s.entries page h

  pub behind_there : (list : List Entry) (b : Bool) → list ≡ unwrap_or (slice_get report.pages at.page.0) [] → b ≡ list_any (is_own_store who) (drop (at.entry + 1) list) → IsTrue b ↔ HasStoreBehind report who at
  behind_there list b list_is b_is = (
    λ t. found-behind list (sym b_is ∙ t) (slice_get report.pages at.page.0) refl list_is,
    λ h. b_is ∙ behind-found list list_is h,
  )

module _ (copies : Who → Option VSlot) (report : Report) (who : Who) where
  not_last : (from : VSlot) (at : At) → copies who ≡ Some from → HasStoreBehind report who at → IsNotLast copies report who (answers.Stored at)
  not_last from at copied h = record { from = from; at = at; later = h.later; entry = h.entry; copied = copied; stored = refl; there = h.there; own = h.own; same_page = h.same_page; behind = h.behind; stores = h.stores }

  pub past_last : (from : VSlot) (answer : Answer) → copies who ≡ Some from → StoresPast report who answer → IsNotLast copies report who answer
  past_last from (answers.Stored at) copied past = not_last from at copied past
  past_last from answer copied past = absurd past

  pub last_past : (answer : Answer) → IsNotLast copies report who answer → StoresPast report who answer
  last_past answer n = subst (StoresPast report who) (sym n.stored) (record { later = n.later; entry = n.entry; there = n.there; own = n.own; same_page = n.same_page; behind = n.behind; stores = n.stores })

  pub none_copied : (answer : Answer) → copies who ≡ None → IsNotLast copies report who answer → ⊥
  none_copied answer none n = none-some n.from (sym none ∙ n.copied)
