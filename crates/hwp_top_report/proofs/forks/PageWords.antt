-- The words that a processor's commands stored in a page, in the order of its history, which is that of their numbers: those before a command,
-- and behind them its own.
use Rattle.std.proofs.Common.{◌≡◌, ◌⊎◌, inl, inr, ℕ, suc, ◌<◌, ◌≤◌, ◌==◌, ◌&&◌, Bool, true, false, cond, List, [], ◌∷◌, ◌++◌, Option, None, Some, filter, filter_map, map, nat_lt, option_and_then, slice_get, take, if◌then◌else◌, refl, sym, ap, ◌∙◌, subst, arith}
use Rattle.std.specs.List.{cons_option}
use Rattle.std.proofs.lemmas.Bool.{and_from, and_left, and_parts, and_right, cases_Bool, cases_eq, cases_order, eq-eqb, eqb-true, le-ltb, lt-ltb}
use Rattle.std.proofs.lemmas.Option.{same_Some}
use Rattle.hwp_law_served.specs.hwp_geom.declared.Cpu.{Cpu}
use Rattle.hwp_law_served.specs.hwp_page.declared.At.{At}
use Rattle.hwp_law_served.specs.hwp_page.declared.Entry.{Entry}
use Rattle.hwp_law_served.specs.hwp_law.History.{AreOrdered}
use Rattle.hwp_law_served.specs.hwp_law.Lines.{is_same_command}
use Rattle.hwp_law_served.specs.hwp_law.Places.{entry_at}
use Rattle.hwp_law_served.specs.hwp_law.Private.{word_before, word_in}
use Rattle.hwp_top_report.proofs.forks.Contents.{stored_on}
use Rattle.hwp_top_report.proofs.forks.Words.{first-mapped, none-mapped}

-- ---- order

abbrev pub IsOrdered : Cpu → List Entry → Type 0
IsOrdered cpu list = (i j : ℕ) (x y : Entry) → slice_get list i ≡ Some x → slice_get list j ≡ Some y → i < j → x.who.cpu.0 ≡ cpu.0 → y.who.cpu.0 ≡ cpu.0 → x.who.seq ≤ y.who.seq

abbrev pub place : ℕ → ℕ → At
place page i = record { page = record { 0 = page }; entry = i }

pub stands : (pages : List (List Entry)) (page i : ℕ) (list : List Entry) (e : Entry) → slice_get pages page ≡ Some list → slice_get list i ≡ Some e → entry_at pages (place page i) ≡ Some e
stands pages page i list e there at = ap (option_and_then (λ (l : List Entry). slice_get l i)) there ∙ at

abbrev cpu_of : ℕ → Cpu
cpu_of n = record { 0 = n }

pub page-ordered : (pages : List (List Entry)) (page : ℕ) (list : List Entry) (cpu : Cpu) → AreOrdered pages → slice_get pages page ≡ Some list → IsOrdered cpu list
page-ordered pages page list cpu ordered there i j x y one other less mine also =
    ordered (place page i) (place page j) x y (stands pages page i list x there one) (stands pages page j list y there other) refl less (ap cpu_of (mine ∙ sym also))

-- ---- words before a command

before-none : (cpu : Cpu) (b line : ℕ) (x : Entry) → (x.who.cpu.0 ≡ cpu.0 → b ≤ x.who.seq) → word_before cpu b line x ≡ None
before-none cpu b line x past = ap (λ (t : Bool). if t then word_in line x.what else None) (which (cases_Bool (x.who.cpu.0 == cpu.0)))
  where
    which : ((x.who.cpu.0 == cpu.0) ≡ true) ⊎ ((x.who.cpu.0 == cpu.0) ≡ false) → ((x.who.cpu.0 == cpu.0) && nat_lt x.who.seq b) ≡ false
    which (inl is) = and_right (x.who.cpu.0 == cpu.0) (nat_lt x.who.seq b) (le-ltb x.who.seq b (past (eqb-true x.who.cpu.0 cpu.0 is)))
    which (inr other) = and_left (x.who.cpu.0 == cpu.0) (nat_lt x.who.seq b) other

before-there : (cpu : Cpu) (b line : ℕ) (x : Entry) → x.who.cpu.0 ≡ cpu.0 → x.who.seq < b → word_before cpu b line x ≡ word_in line x.what
before-there cpu b line x mine less =
    ap (λ (t : Bool). if t then word_in line x.what else None) (and_from (x.who.cpu.0 == cpu.0) (nat_lt x.who.seq b) (eq-eqb x.who.cpu.0 cpu.0 mine) (lt-ltb x.who.seq b less))

before-same : (cpu : Cpu) (b line : ℕ) (x : Entry) → ((y : ℕ) → word_in line x.what ≡ Some y → (x.who.cpu.0 ≡ cpu.0) × (x.who.seq < b)) → stored_on line x ≡ word_before cpu b line x
before-same cpu b line x stores = which (word_in line x.what) refl
  where
    none-either : (t : Bool) (o : Option ℕ) → o ≡ None → None ≡ (if t then o else None)
    none-either true o is = sym is
    none-either false o is = refl

    which : (o : Option ℕ) → word_in line x.what ≡ o → stored_on line x ≡ word_before cpu b line x
    which None is = is ∙ none-either ((x.who.cpu.0 == cpu.0) && nat_lt x.who.seq b) (word_in line x.what) is
    which (Some y) is = let s = stores y is in sym (before-there cpu b line x s.0 s.1)

-- what stands before an entry of a processor on the line, where only that processor's commands before number b stored there
pub page-words : (list : List Entry) (cpu : Cpu) (line b i : ℕ) (e : Entry) → IsOrdered cpu list → slice_get list i ≡ Some e → e.who.cpu.0 ≡ cpu.0 → b ≤ e.who.seq
    → ((j : ℕ) (x : Entry) (y : ℕ) → slice_get list j ≡ Some x → j < i → word_in line x.what ≡ Some y → (x.who.cpu.0 ≡ cpu.0) × (x.who.seq < b))
    → filter_map (stored_on line) (take i list) ≡ filter_map (word_before cpu b line) list
page-words list cpu line b i e ordered there mine past stores =
    first-mapped (stored_on line) (word_before cpu b line) i list
    (λ (j : ℕ) (x : Entry) here less. before-same cpu b line x (λ (y : ℕ) is. stores j x y here less is))
    (λ (j : ℕ) (x : Entry) here behind. before-none cpu b line x (late j x here behind))
  where
    late : (j : ℕ) (x : Entry) → slice_get list j ≡ Some x → i ≤ j → x.who.cpu.0 ≡ cpu.0 → b ≤ x.who.seq
    late j x here behind also = which (cases_order i j)
      where
        which : (i ≡ j) ⊎ ((i < j) ⊎ (j < i)) → b ≤ x.who.seq
        which (inl same) = let e_is : e ≡ x = same_Some e x (sym there ∙ ap (slice_get list) same ∙ here) in subst (λ (z : Entry). b ≤ z.who.seq) e_is past
        which (inr (inl less)) = let le : e.who.seq ≤ x.who.seq = ordered i j e x there here less mine also in omega (arith, le, past)
        which (inr (inr less)) = absurd (omega (arith, less, behind))

-- ---- those of one command more

abbrev pub own_words : Cpu → ℕ → ℕ → List Entry → List ℕ
own_words cpu m line list = filter_map (word_in line) (map (λ (e : Entry). e.what) (filter (λ (e : Entry). is_same_command (record { cpu = cpu; seq = m }) e.who) list))

cons-append : (o : Option ℕ) (xs ys : List ℕ) → cons_option o (xs ++ ys) ≡ cons_option o xs ++ ys
cons-append None xs ys = refl
cons-append (Some x) xs ys = refl

split-at : (cpu : Cpu) (m line : ℕ) (x : Entry) (list : List Entry) (more less : Option ℕ) (same : Bool) → word_before cpu (suc m) line x ≡ more → word_before cpu m line x ≡ less → is_same_command (record { cpu = cpu; seq = m }) x.who ≡ same
    → cons_option more (filter_map (word_before cpu (suc m) line) list) ≡ cons_option less (filter_map (word_before cpu m line) list)
    ++ filter_map (word_in line) (map (λ (e : Entry). e.what) (cond same (x ∷ filter (λ (e : Entry). is_same_command (record { cpu = cpu; seq = m }) e.who) list) (filter (λ (e : Entry). is_same_command (record { cpu = cpu; seq = m }) e.who) list)))
    → filter_map (word_before cpu (suc m) line) (x ∷ list) ≡ filter_map (word_before cpu m line) (x ∷ list) ++ own_words cpu m line (x ∷ list)
split-at cpu m line x list more less same is also b goal =
    ap (λ (o : Option ℕ). cons_option o (filter_map (word_before cpu (suc m) line) list)) is ∙ goal
    ∙ ap (λ (o : Option ℕ). cons_option o (filter_map (word_before cpu m line) list)
    ++ filter_map (word_in line) (map (λ (e : Entry). e.what) (cond same (x ∷ filter (λ (e : Entry). is_same_command (record { cpu = cpu; seq = m }) e.who) list) (filter (λ (e : Entry). is_same_command (record { cpu = cpu; seq = m }) e.who) list)))) (sym also)
    ∙ ap (λ (t : Bool). cons_option (word_before cpu m line x) (filter_map (word_before cpu m line) list)
    ++ filter_map (word_in line) (map (λ (e : Entry). e.what) (cond t (x ∷ filter (λ (e : Entry). is_same_command (record { cpu = cpu; seq = m }) e.who) list) (filter (λ (e : Entry). is_same_command (record { cpu = cpu; seq = m }) e.who) list)))) (sym b)

other-command : (cpu : Cpu) (m : ℕ) (x : Entry) → (x.who.cpu.0 ≡ cpu.0 → x.who.seq ≡ m → ⊥) → is_same_command (record { cpu = cpu; seq = m }) x.who ≡ false
other-command cpu m x apart = which (is_same_command (record { cpu = cpu; seq = m }) x.who) refl
  where
    which : (t : Bool) → is_same_command (record { cpu = cpu; seq = m }) x.who ≡ t → is_same_command (record { cpu = cpu; seq = m }) x.who ≡ false
    which false is = is
    which true is = let both = and_parts (cpu.0 == x.who.cpu.0) (m == x.who.seq) is in absurd (apart (sym (eqb-true cpu.0 x.who.cpu.0 both.0)) (sym (eqb-true m x.who.seq both.1)))

split-next : (cpu : Cpu) (m line : ℕ) (x : Entry) (list : List Entry) → IsOrdered cpu (x ∷ list) → filter_map (word_before cpu (suc m) line) list ≡ filter_map (word_before cpu m line) list ++ own_words cpu m line list
    → filter_map (word_before cpu (suc m) line) (x ∷ list) ≡ filter_map (word_before cpu m line) (x ∷ list) ++ own_words cpu m line (x ∷ list)
split-next cpu m line x list ordered rest = by-cpu (cases_eq x.who.cpu.0 cpu.0)
  where
    by-order : x.who.cpu.0 ≡ cpu.0 → (x.who.seq ≡ m) ⊎ ((x.who.seq < m) ⊎ (m < x.who.seq)) → filter_map (word_before cpu (suc m) line) (x ∷ list) ≡ filter_map (word_before cpu m line) (x ∷ list) ++ own_words cpu m line (x ∷ list)
    by-order mine (inl same) =
        let none : filter_map (word_before cpu m line) list ≡ [] =
        none-mapped (word_before cpu m line) list (λ (j : ℕ) (y : Entry) there. before-none cpu m line y (λ also.
        let le : x.who.seq ≤ y.who.seq = ordered 0 (suc j) x y refl there (omega arith) mine also in omega (arith, le, same))) in
        split-at cpu m line x list (word_in line x.what) None true (before-there cpu (suc m) line x mine (omega (arith, same))) (before-none cpu m line x (λ also. omega (arith, same)))
        (and_from (cpu.0 == x.who.cpu.0) (m == x.who.seq) (eq-eqb cpu.0 x.who.cpu.0 (sym mine)) (eq-eqb m x.who.seq (sym same)))
        (ap (cons_option (word_in line x.what)) (rest ∙ ap (λ (l : List ℕ). l ++ own_words cpu m line list) none) ∙ ap (λ (l : List ℕ). l ++ cons_option (word_in line x.what) (own_words cpu m line list)) (sym none))
    by-order mine (inr (inl less)) =
        split-at cpu m line x list (word_in line x.what) (word_in line x.what) false (before-there cpu (suc m) line x mine (omega (arith, less))) (before-there cpu m line x mine less)
        (other-command cpu m x (λ also same. omega (arith, same, less)))
        (ap (cons_option (word_in line x.what)) rest ∙ cons-append (word_in line x.what) (filter_map (word_before cpu m line) list) (own_words cpu m line list))
    by-order mine (inr (inr past)) =
        split-at cpu m line x list None None false (before-none cpu (suc m) line x (λ also. omega (arith, past))) (before-none cpu m line x (λ also. omega (arith, past)))
        (other-command cpu m x (λ also same. omega (arith, same, past))) rest

    by-cpu : (x.who.cpu.0 ≡ cpu.0) ⊎ (x.who.cpu.0 ≡ cpu.0 → ⊥) → filter_map (word_before cpu (suc m) line) (x ∷ list) ≡ filter_map (word_before cpu m line) (x ∷ list) ++ own_words cpu m line (x ∷ list)
    by-cpu (inl mine) = by-order mine (cases_order x.who.seq m)
    by-cpu (inr other) =
        split-at cpu m line x list None None false (before-none cpu (suc m) line x (λ also. absurd (other also))) (before-none cpu m line x (λ also. absurd (other also)))
        (other-command cpu m x (λ also same. other also)) rest

ordered-rest : (cpu : Cpu) (x : Entry) (list : List Entry) → IsOrdered cpu (x ∷ list) → IsOrdered cpu list
ordered-rest cpu x list ordered i j y z one other less mine also = ordered (suc i) (suc j) y z one other (omega (arith, less)) mine also

pub words-split : (cpu : Cpu) (m line : ℕ) (list : List Entry) → IsOrdered cpu list → filter_map (word_before cpu (suc m) line) list ≡ filter_map (word_before cpu m line) list ++ own_words cpu m line list
words-split cpu m line [] ordered = refl
words-split cpu m line (x ∷ list) ordered = split-next cpu m line x list ordered (words-split cpu m line list (ordered-rest cpu x list ordered))
