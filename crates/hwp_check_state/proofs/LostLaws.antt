-- The losses of a file, and those by earlier commands of a processor, are found in the order of keys.
use Rattle.std.proofs.Common.{◌≡◌, inl, inr, ℕ, zero, suc, ◌+◌, ◌-◌, ◌*◌, ◌^◌, ◌<◌, ◌≤◌, ◌==◌, ◌&&◌, min, Bool, true, false, cond, nat_lt, List, [], ◌∷◌, ◌++◌, Some, length, count_by, get_or, slice_get, sum_by, take, drop, All, add-one, refl, sym, ap, ◌∙◌, arith}
use Rattle.std.specs.Int.{from_bool}
use Rattle.std.specs.List.{AllWithin, zip}
use Rattle.std.proofs.lemmas.Bool.{cases_eq, cases_lt, eq-eqb, ne_eqb, le-ltb, lt-ltb}
use Rattle.std.proofs.lemmas.List.{append_assoc, append-nil, at_drop_all, at_drop_more}
use Rattle.std.proofs.lemmas.Option.{none-some, same_Some, slice_get-get_or}
use Rattle.std.proofs.lemmas.List.Sums.{count_by-le-length, sum_by-append, sum_by-cons}
use Rattle.hwp_check_rules.specs.hwp_geom.declared.FileNo.{FileNo}
use Rattle.hwp_check_rules.specs.hwp_geom.declared.PageKind.{PageKind}
use Rattle.hwp_check_rules.specs.hwp_geom.declared.PageKind.TheVariants.{Anon, File}
use Rattle.hwp_check_rules.specs.hwp_geom.declared.Who.{Who}
use Rattle.hwp_check_rules.specs.hwp_page.declared.Entry.{Entry}
use Rattle.hwp_check_rules.specs.hwp_page.Losses.{is_loss}
use Rattle.hwp_check_rules.specs.hwp_script_words.declared.Script.{Script}
use Rattle.hwp_check_rules.specs.hwp_report_text.declared.Report.{Report}
use Rattle.hwp_check_rules.specs.hwp_law.Losses.{found_in, is_earlier, is_lost, is_lost_before, losses_such}
use Rattle.hwp_check_state.specs.declared.lost.Loss.{Loss}
use Rattle.hwp_check_state.specs.Lost.{AreLosses, IsSmall, below, entry_losses, key, key_of, kind_losses, list_losses, page_losses}

abbrev flag : Bool → ℕ
flag b = cond b 1 0

from-flag : (b : Bool) → from_bool b ≡ flag b
from-flag true = refl
from-flag false = refl

behind : (n : ℕ) → n ≡ 0 + n
behind n = omega arith

count-one : {X : Type 0} (p : X → Bool) (x : X) (xs : List X) → count_by p (x ∷ xs) ≡ flag (p x) + count_by p xs
count-one p x xs = sum_by-cons (λ y. flag (p y)) x xs

count-both : {X : Type 0} (p : X → Bool) (xs ys : List X) → count_by p (xs ++ ys) ≡ count_by p xs + count_by p ys
count-both p xs ys = sum_by-append (λ y. flag (p y)) xs ys

-- ---- entries that are losses by some commands, and the losses that are listed

module _ (file : FileNo) (w : Who → Bool) (test : Entry → Bool) (same : (e : Entry) → test e ≡ (is_loss e.what && w e.who)) where
  abbrev of_file : Loss → Bool
  of_file l = (l.file.0 == file.0) && w l.who

  abbrev found : Entry → ℕ
  found e = from_bool (test e)

  one-of : (c : Bool) (l : Loss) → count_by of_file (cond c (l ∷ []) []) ≡ cond c (flag (of_file l)) 0
  one-of true l = sym (behind (flag (of_file l)))
  one-of false l = refl

  either-way : (b c v : Bool) → cond b (flag (c && v)) 0 ≡ cond c (flag (b && v)) 0
  either-way true true v = refl
  either-way true false v = refl
  either-way false true v = refl
  either-way false false v = refl

  entry-count : (other : FileNo) (e : Entry) → cond (other.0 == file.0) (found e) 0 ≡ count_by of_file (entry_losses other e)
  entry-count other e =
      ap (λ (n : ℕ). cond (other.0 == file.0) n 0) (from-flag (test e) ∙ ap flag (same e)) ∙ either-way (other.0 == file.0) (is_loss e.what) (w e.who)
      ∙ sym (one-of (is_loss e.what) (record { file = other; who = e.who }))

  split : (b : Bool) (m n : ℕ) → cond b (m + n) 0 ≡ cond b m 0 + cond b n 0
  split true m n = refl
  split false m n = refl

  none : (b : Bool) → ◌≡◌ {A = ℕ} (cond b 0 0) 0
  none true = refl
  none false = refl

  list-count : (other : FileNo) (es : List Entry) → cond (other.0 == file.0) (sum_by found es) 0 ≡ count_by of_file (list_losses other es)
  list-count other [] = none (other.0 == file.0)
  list-count other (e ∷ es) =
      ap (λ (n : ℕ). cond (other.0 == file.0) n 0) (sum_by-cons found e es) ∙ split (other.0 == file.0) (found e) (sum_by found es)
      ∙ ap (λ (n : ℕ). n + cond (other.0 == file.0) (sum_by found es) 0) (entry-count other e) ∙ ap (λ (n : ℕ). count_by of_file (entry_losses other e) + n) (list-count other es)
      ∙ sym (count-both of_file (entry_losses other e) (list_losses other es))

  kind-count : (kind : PageKind) (es : List Entry) → found_in test file (kind, es) ≡ count_by of_file (kind_losses kind es)
  kind-count Anon es = refl
  kind-count (File other fill) es = list-count other es

  pages-count : (pages : List (PageKind × List Entry)) → sum_by (found_in test file) pages ≡ count_by of_file (page_losses pages)
  pages-count [] = refl
  pages-count (p ∷ ps) =
      sum_by-cons (found_in test file) p ps ∙ ap (λ (n : ℕ). n + sum_by (found_in test file) ps) (kind-count p.0 p.1)
      ∙ ap (λ (n : ℕ). count_by of_file (kind_losses p.0 p.1) + n) (pages-count ps) ∙ sym (count-both of_file (kind_losses p.0 p.1) (page_losses ps))

  such-count : (script : Script) (report : Report) (list : List Loss) → AreLosses script report list → losses_such test script report file ≡ count_by of_file list
  such-count script report list are = pages-count (zip script.layout.pages report.pages) ∙ sym (are.counts of_file)

-- ---- entries, one after the other

pub list-step : (file : FileNo) (entries : List Entry) (i : ℕ) (d item : Entry) (out next : List Loss) → i < length entries → item ≡ get_or entries i d → next ≡ out ++ entry_losses file item
    → next ++ list_losses file (drop (i + 1) entries) ≡ out ++ list_losses file (drop i entries)
list-step file entries i d item out next within is more =
    ap (λ (l : List Loss). l ++ list_losses file (drop (i + 1) entries)) more ∙ append_assoc out (entry_losses file item) (list_losses file (drop (i + 1) entries))
    ∙ ap (λ (e : Entry). out ++ list_losses file (e ∷ drop (i + 1) entries)) is ∙ sym (at_drop_more (λ (l : List Entry). out ++ list_losses file l) entries i d within)

pub list-end : (file : FileNo) (entries : List Entry) (i : ℕ) (out : List Loss) → length entries ≤ i → out ≡ out ++ list_losses file (drop i entries)
list-end file entries i out past = sym (append-nil out) ∙ sym (at_drop_all (λ (l : List Entry). out ++ list_losses file l) entries i past)

-- ---- pages, one after the other

zip-suc : {X Y : Type 0} (xs : List X) (ys : List Y) (i : ℕ) (x : X) (y : Y) → slice_get xs i ≡ Some x → slice_get ys i ≡ Some y → zip (take (suc i) xs) (take (suc i) ys) ≡ zip (take i xs) (take i ys) ++ (x, y) ∷ []
zip-suc [] ys i x y one other = absurd (none-some _ one)
zip-suc (a ∷ xs) [] i x y one other = absurd (none-some _ other)
zip-suc (a ∷ xs) (b ∷ ys) zero x y one other = let same : a ≡ x = same_Some _ _ one in let same2 : b ≡ y = same_Some _ _ other in ap (λ (z : _). z ∷ []) (ap (λ (u : _). (u, b)) same ∙ ap (λ (v : _). (x, v)) same2)
zip-suc (a ∷ xs) (b ∷ ys) (suc i) x y one other = ap (λ (l : _). (a, b) ∷ l) (zip-suc xs ys i x y one other)

-- as many pairs as the shorter list has are all
zip-all : {X Y : Type 0} (xs : List X) (ys : List Y) (n : ℕ) → min (length xs) (length ys) ≤ n → zip (take n xs) (take n ys) ≡ zip xs ys
zip-all [] [] zero all = refl
zip-all [] (y ∷ ys) zero all = refl
zip-all (x ∷ xs) [] zero all = refl
zip-all (x ∷ xs) (y ∷ ys) zero all = absurd (omega arith)
zip-all [] ys (suc n) all = refl
zip-all (x ∷ xs) [] (suc n) all = refl
zip-all (x ∷ xs) (y ∷ ys) (suc n) all = ap (λ (l : _). (x, y) ∷ l) (zip-all xs ys n (omega arith))

losses-push : (pages : List (PageKind × List Entry)) (p : PageKind × List Entry) → page_losses (pages ++ p ∷ []) ≡ page_losses pages ++ kind_losses p.0 p.1
losses-push [] p = append-nil (kind_losses p.0 p.1)
losses-push (q ∷ pages) p = ap (λ (l : List Loss). kind_losses q.0 q.1 ++ l) (losses-push pages p) ∙ sym (append_assoc (kind_losses q.0 q.1) (page_losses pages) (kind_losses p.0 p.1))

-- the losses with those of one page more
pub losses-next : (kinds : List PageKind) (pages : List (List Entry)) (i : ℕ) (d : PageKind) (e entries : List Entry) (out new : List Loss) → i < length kinds → i < length pages → entries ≡ get_or pages i e
    → out ≡ page_losses (zip (take i kinds) (take i pages)) → new ≡ out ++ kind_losses (get_or kinds i d) entries → new ≡ page_losses (zip (take (i + 1) kinds) (take (i + 1) pages))
losses-next kinds pages i d e entries out new within inside is was more =
    more ∙ ap (λ (l : List Loss). l ++ kind_losses (get_or kinds i d) entries) was ∙ ap (λ (x : List Entry). page_losses (zip (take i kinds) (take i pages)) ++ kind_losses (get_or kinds i d) x) is
    ∙ sym (losses-push (zip (take i kinds) (take i pages)) (get_or kinds i d, get_or pages i e))
    ∙ ap page_losses (sym (zip-suc kinds pages i (get_or kinds i d) (get_or pages i e) (slice_get-get_or kinds i d within) (slice_get-get_or pages i e inside)))
    ∙ ap (λ (n : ℕ). page_losses (zip (take n kinds) (take n pages))) (sym (add-one i))

pub losses-end : (kinds : List PageKind) (pages : List (List Entry)) (i : ℕ) → min (length kinds) (length pages) ≤ i → page_losses (zip (take i kinds) (take i pages)) ≡ page_losses (zip kinds pages)
losses-end kinds pages i all = ap page_losses (zip-all kinds pages i all)

-- ---- the order of keys

-- what is in a part of the order and what is before the part are together what is before its end
module _ (test : Loss → Bool) (first end : ℕ) (point : (l : Loss) → IsSmall l → flag (test l) + flag (nat_lt (key_of l) first) ≡ flag (nat_lt (key_of l) end)) where
  part-count : (list : List Loss) → All IsSmall list → count_by test list + below first list ≡ below end list
  part-count [] small = refl
  part-count (l ∷ ls) small =
      let in-part : count_by test (l ∷ ls) ≡ flag (test l) + count_by test ls = count-one test l ls in
      let before : below first (l ∷ ls) ≡ flag (nat_lt (key_of l) first) + below first ls = count-one (λ (x : Loss). nat_lt (key_of x) first) l ls in
      let up_to : below end (l ∷ ls) ≡ flag (nat_lt (key_of l) end) + below end ls = count-one (λ (x : Loss). nat_lt (key_of x) end) l ls in
      let one : flag (test l) + flag (nat_lt (key_of l) first) ≡ flag (nat_lt (key_of l) end) = point l (small 0 l (omega arith)) in
      let rest : count_by test ls + below first ls ≡ below end ls = part-count ls (λ k d less. small (suc k) d (omega (arith, less))) in
      omega (arith, in-part, before, up_to, one, rest)

flags : (a b c : Bool) (x y z : ℕ) → flag a ≡ x → flag b ≡ y → flag c ≡ z → x + y ≡ z → flag a + flag b ≡ flag c
flags a b c x y z one two three is = omega (arith, one, two, three, is)

less-is : (a b : ℕ) → a < b → flag (nat_lt a b) ≡ 1
less-is a b less = ap flag (lt-ltb a b less)

not-less : (a b : ℕ) → b ≤ a → flag (nat_lt a b) ≡ 0
not-less a b most = ap flag (le-ltb a b most)

-- the keys of a file
file-point : (f c s g : ℕ) → c < 256 → s < 4294967296
    → flag ((f == g) && true) + flag (nat_lt ((f * 256 + c) * 4294967296 + s) ((g * 256 + 0) * 4294967296 + 0)) ≡ flag (nat_lt ((f * 256 + c) * 4294967296 + s) (((g + 1) * 256 + 0) * 4294967296 + 0))
file-point f c s g small-c small-s = elim (cases_eq f g) [
  | inl here ↦ flags _ _ _ 1 0 1 (ap (λ (b : Bool). flag (b && true)) (eq-eqb f g here)) (not-less _ _ (omega (arith, here))) (less-is _ _ (omega (arith, here, small-c, small-s))) refl
  | inr other ↦ elim (cases_lt f g) [
    | inl low ↦ flags _ _ _ 0 1 1 (ap (λ (b : Bool). flag (b && true)) (ne_eqb f g other)) (less-is _ _ (omega (arith, low, small-c, small-s))) (less-is _ _ (omega (arith, low, small-c, small-s))) refl
    | inr most ↦
        let high : g + 1 ≤ f = above other most in
        flags _ _ _ 0 0 0 (ap (λ (b : Bool). flag (b && true)) (ne_eqb f g other)) (not-less _ _ (omega (arith, high))) (not-less _ _ (omega (arith, high))) refl
  ]
]
  where
    above : (f ≡ g → ⊥) → g ≤ f → g + 1 ≤ f
    above other most = elim (cases_lt g f) [
      | inl less ↦ omega (arith, less)
      | inr upto ↦ let is : f ≡ g = omega (arith, most, upto) in absurd (other is)
    ]

and-false : (b : Bool) → (b && false) ≡ false
and-false true = refl
and-false false = refl

-- the keys of a processor's commands in a file
cpu-point : (f c s g d t : ℕ) → c < 256 → s < 4294967296 → d < 256 → t < 4294967296
    → flag ((f == g) && ((c == d) && nat_lt s t)) + flag (nat_lt ((f * 256 + c) * 4294967296 + s) ((g * 256 + d) * 4294967296 + 0)) ≡ flag (nat_lt ((f * 256 + c) * 4294967296 + s) ((g * 256 + d) * 4294967296 + t))
cpu-point f c s g d t small-c small-s small-d small-t = elim (cases_eq f g) [
  | inl here ↦ elim (cases_eq c d) [
    | inl own ↦ elim (cases_lt s t) [
      | inl early ↦ flags _ _ _ 1 0 1 (ap flag (both here own) ∙ less-is s t early) (not-less _ _ (omega (arith, here, own))) (less-is _ _ (omega (arith, here, own, early))) refl
      | inr late ↦ flags _ _ _ 0 0 0 (ap flag (both here own) ∙ not-less s t late) (not-less _ _ (omega (arith, here, own))) (not-less _ _ (omega (arith, here, own, late))) refl
    ]
    | inr other ↦ elim (cases_lt c d) [
      | inl low ↦ flags _ _ _ 0 1 1 (ap flag (no-cpu other)) (less-is _ _ (omega (arith, here, low, small-s))) (less-is _ _ (omega (arith, here, low, small-s))) refl
      | inr most ↦
          let high : d + 1 ≤ c = above c d other most in
          flags _ _ _ 0 0 0 (ap flag (no-cpu other)) (not-less _ _ (omega (arith, here, high))) (not-less _ _ (omega (arith, here, high, small-t))) refl
    ]
  ]
  | inr other ↦ elim (cases_lt f g) [
    | inl low ↦ flags _ _ _ 0 1 1 (ap flag (no-file other)) (less-is _ _ (omega (arith, low, small-c, small-s))) (less-is _ _ (omega (arith, low, small-c, small-s))) refl
    | inr most ↦
        let high : g + 1 ≤ f = above f g other most in
        flags _ _ _ 0 0 0 (ap flag (no-file other)) (not-less _ _ (omega (arith, high, small-d))) (not-less _ _ (omega (arith, high, small-d, small-t))) refl
  ]
]
  where
    both : f ≡ g → c ≡ d → ((f == g) && ((c == d) && nat_lt s t)) ≡ nat_lt s t
    both here own = ap (λ (b : Bool). b && ((c == d) && nat_lt s t)) (eq-eqb f g here) ∙ ap (λ (b : Bool). b && nat_lt s t) (eq-eqb c d own)

    no-cpu : (c ≡ d → ⊥) → ((f == g) && ((c == d) && nat_lt s t)) ≡ false
    no-cpu other = ap (λ (b : Bool). (f == g) && (b && nat_lt s t)) (ne_eqb c d other) ∙ and-false (f == g)

    no-file : (f ≡ g → ⊥) → ((f == g) && ((c == d) && nat_lt s t)) ≡ false
    no-file other = ap (λ (b : Bool). b && ((c == d) && nat_lt s t)) (ne_eqb f g other)

    above : (m n : ℕ) → (m ≡ n → ⊥) → n ≤ m → n + 1 ≤ m
    above m n other most = elim (cases_lt n m) [
      | inl less ↦ omega (arith, less)
      | inr upto ↦ let is : m ≡ n = omega (arith, most, upto) in absurd (other is)
    ]

-- ---- the losses of a file, and those by earlier commands of a processor

any : (b : Bool) → b ≡ (b && true)
any true = refl
any false = refl

module _ (script : Script) (report : Report) (list : List Loss) (are : AreLosses script report list) (file : FileNo) where
  pub lost-is : (first end result : ℕ) → first ≡ below (key file.0 0 0) list → end ≡ below (key (file.0 + 1) 0 0) list → result + first ≡ end → result ≡ losses_such is_lost script report file
  lost-is first end result first_is end_is sum =
      let such : losses_such is_lost script report file ≡ count_by (λ (l : Loss). (l.file.0 == file.0) && true) list =
      such-count file (λ w. true) is_lost (λ e. any (is_loss e.what)) script report list are in
      let part : count_by (λ (l : Loss). (l.file.0 == file.0) && true) list + below (key file.0 0 0) list ≡ below (key (file.0 + 1) 0 0) list =
      part-count (λ (l : Loss). (l.file.0 == file.0) && true) (key file.0 0 0) (key (file.0 + 1) 0 0) (λ l small. file-point l.file.0 l.who.cpu.0 l.who.seq file.0 small.cpu small.seq) list are.small in
      omega (arith, such, part, first_is, end_is, sum)

  pub before-is : (who : Who) (first end result : ℕ) → who.cpu.0 < 256 → who.seq < 2 ^ 32 → first ≡ below (key file.0 who.cpu.0 0) list → end ≡ below (key file.0 who.cpu.0 who.seq) list → result + first ≡ end
      → result ≡ losses_such (is_lost_before who) script report file
  before-is who first end result small-cpu small-seq first_is end_is sum =
      let such : losses_such (is_lost_before who) script report file ≡ count_by (λ (l : Loss). (l.file.0 == file.0) && is_earlier who l.who) list =
      such-count file (is_earlier who) (is_lost_before who) (λ e. refl) script report list are in
      let part : count_by (λ (l : Loss). (l.file.0 == file.0) && is_earlier who l.who) list + below (key file.0 who.cpu.0 0) list ≡ below (key file.0 who.cpu.0 who.seq) list =
      part-count (λ (l : Loss). (l.file.0 == file.0) && is_earlier who l.who) (key file.0 who.cpu.0 0) (key file.0 who.cpu.0 who.seq)
      (λ l small. cpu-point l.file.0 l.who.cpu.0 l.who.seq file.0 who.cpu.0 who.seq small.cpu small.seq small-cpu small-seq) list are.small in
      omega (arith, such, part, first_is, end_is, sum)

  -- they are no more than there are losses in all
  pub few-lost : length list < 2 ^ 63 → losses_such is_lost script report file < 2 ^ 64 - 1
  few-lost few =
      let such : losses_such is_lost script report file ≡ count_by (λ (l : Loss). (l.file.0 == file.0) && true) list =
      such-count file (λ w. true) is_lost (λ e. any (is_loss e.what)) script report list are in
      let most : count_by (λ (l : Loss). (l.file.0 == file.0) && true) list ≤ length list = count_by-le-length (λ (l : Loss). (l.file.0 == file.0) && true) list in
      omega (arith, such, most, few)

  -- the first of two is no more
  pub file-first : below (key file.0 0 0) list ≤ below (key (file.0 + 1) 0 0) list
  file-first =
      let part : count_by (λ (l : Loss). (l.file.0 == file.0) && true) list + below (key file.0 0 0) list ≡ below (key (file.0 + 1) 0 0) list =
      part-count (λ (l : Loss). (l.file.0 == file.0) && true) (key file.0 0 0) (key (file.0 + 1) 0 0) (λ l small. file-point l.file.0 l.who.cpu.0 l.who.seq file.0 small.cpu small.seq) list are.small in
      omega (arith, part)

  pub before-first : (who : Who) → who.cpu.0 < 256 → who.seq < 2 ^ 32 → below (key file.0 who.cpu.0 0) list ≤ below (key file.0 who.cpu.0 who.seq) list
  before-first who small-cpu small-seq =
      let part : count_by (λ (l : Loss). (l.file.0 == file.0) && is_earlier who l.who) list + below (key file.0 who.cpu.0 0) list ≡ below (key file.0 who.cpu.0 who.seq) list =
      part-count (λ (l : Loss). (l.file.0 == file.0) && is_earlier who l.who) (key file.0 who.cpu.0 0) (key file.0 who.cpu.0 who.seq)
      (λ l small. cpu-point l.file.0 l.who.cpu.0 l.who.seq file.0 who.cpu.0 who.seq small.cpu small.seq small-cpu small-seq) list are.small in
      omega (arith, part)

-- a list of which the first ones pass, and no others
pub first-count : {X : Type 0} (p : X → Bool) (xs : List X) (n : ℕ) → n ≤ length xs → AllWithin (λ x. p x ≡ true) xs 0 n → AllWithin (λ x. p x ≡ false) xs n (length xs) → n ≡ count_by p xs
first-count p [] zero most pass fail = refl
first-count p [] (suc n) most pass fail = absurd (omega (arith, most))
first-count p (x ∷ xs) zero most pass fail =
    let one : flag (p x) ≡ 0 = ap flag (fail 0 x (omega arith) (omega arith)) in
    let rest : 0 ≡ count_by p xs = first-count p xs zero (omega arith) (λ k d low less. absurd (omega (arith, less))) (λ k d low less. fail (suc k) d (omega arith) (omega (arith, less))) in
    let all : count_by p (x ∷ xs) ≡ flag (p x) + count_by p xs = count-one p x xs in
    omega (arith, one, rest, all)
first-count p (x ∷ xs) (suc n) most pass fail =
    let one : flag (p x) ≡ 1 = ap flag (pass 0 x (omega arith) (omega arith)) in
    let rest : n ≡ count_by p xs = first-count p xs n (omega (arith, most)) (λ k d low less. pass (suc k) d (omega arith) (omega (arith, less))) (λ k d low less. fail (suc k) d (omega (arith, low)) (omega (arith, less))) in
    let all : count_by p (x ∷ xs) ≡ flag (p x) + count_by p xs = count-one p x xs in
    omega (arith, one, rest, all)
