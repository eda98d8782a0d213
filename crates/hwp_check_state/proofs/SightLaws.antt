-- The policies seen in a report, by their places.
use Rattle.std.proofs.Common.{◌≡◌, ◌⊎◌, inl, inr, ℕ, zero, suc, ◌+◌, List, [], ◌∷◌, Option, Some, None, take, slice_get, sum_by, unwrap_or, refl, sym, ap, ◌∙◌, subst, arith}
use Rattle.std.specs.List.{Contains}
use Rattle.std.specs.Option.{option_and_then}
use Rattle.std.proofs.lemmas.List.Elements.{Contains-append_cases, Contains-append_left, Contains-append_right}
use Rattle.std.proofs.lemmas.List.Sums.{sum_by-cons}
use Rattle.std.proofs.lemmas.Option.{get_or_from_slice_get, none-some, same_Some, slice_get-get_or, slice_get_within}
use Rattle.hwp_check_rules.specs.hwp_geom.declared.Who.{Who}
use Rattle.hwp_check_rules.specs.hwp_kill.declared.Seen.{Seen}
use Rattle.hwp_check_rules.specs.hwp_page.declared.At.{At}
use Rattle.hwp_check_rules.specs.hwp_page.declared.Entry.{Entry}
use Rattle.hwp_check_rules.specs.hwp_report_text.declared.Report.{Report}
use Rattle.hwp_check_rules.specs.hwp_law.Places.{entry_at}
use Rattle.hwp_check_rules.specs.hwp_law.SeenPolicies.{seen_in}
use Rattle.hwp_check_state.specs.declared.sights.Sight.{Sight}
use Rattle.hwp_check_state.specs.Sights.{entry_sights, listed_sights, page_sights, pages_sights, sights}
use Rattle.hwp_check_rules.specs.Standing.{entry_height, page_height, page_line, seen_line}

-- members of lists
pub cons-cases : {X : Type 0} (y : X) (ys : List X) (x : X) → Contains (y ∷ ys) x → (y ≡ x) ⊎ Contains ys x
cons-cases y ys x (zero, less, is) = inl is
cons-cases y ys x (suc k, less, is) = inr (k, omega (arith, less), is)

pub cons-here : {X : Type 0} (y : X) (ys : List X) (x : X) → y ≡ x → Contains (y ∷ ys) x
cons-here y ys x is = (0, omega arith, is)

cons-there : {X : Type 0} (y : X) (ys : List X) (x : X) → Contains ys x → Contains (y ∷ ys) x
cons-there y ys x (k, less, is) = (suc k, omega (arith, less), is)

pub nothing : {X : Type 0} {P : Type 0} (x : X) → Contains {X = X} [] x → P
nothing x (k, less, is) = absurd (omega (arith, less))

pub from-place : {X : Type 0} (xs : List X) (k : ℕ) (x : X) → slice_get xs k ≡ Some x → Contains xs x
from-place xs k x is = (k, slice_get_within xs k x is, get_or_from_slice_get xs k x x is)

pub to-place : {X : Type 0} (xs : List X) (x : X) → Contains xs x → (k : ℕ) × (slice_get xs k ≡ Some x)
to-place xs x (k, less, is) = (k, slice_get-get_or xs k x less ∙ ap Some is)

-- among those of an entry
record InEntry (who : Who) (first : ℕ) (list : List Seen) (s : Sight) : Type 0 where
  number : ℕ
  listed : slice_get list number ≡ Some s.seen
  who_is : s.who ≡ who
  line_is : s.line ≡ first + number

in-entry : (who : Who) (first : ℕ) (list : List Seen) (s : Sight) → Contains (listed_sights who first list) s → InEntry who first list s
in-entry who first [] s c = nothing s c
in-entry who first (seen ∷ rest) s c = elim (cons-cases (record { who = who; seen = seen; line = first }) (listed_sights who (first + 1) rest) s c) [
  | inl same ↦ record {
    number = 0;
    listed = ap (λ (t : Sight). Some t.seen) same;
    who_is = sym (ap (λ (t : Sight). t.who) same);
    line_is = let line : first ≡ s.line = ap (λ (t : Sight). t.line) same in omega (arith, line);
  }
  | inr more ↦ let m = in-entry who (first + 1) rest s more in record {
    number = suc m.number;
    listed = m.listed;
    who_is = m.who_is;
    line_is = let line : s.line ≡ first + 1 + m.number = m.line_is in omega (arith, line);
  }
]

of-entry : (who : Who) (first : ℕ) (list : List Seen) (number : ℕ) (s : Sight) → slice_get list number ≡ Some s.seen → s.who ≡ who → s.line ≡ first + number → Contains (listed_sights who first list) s
of-entry who first [] number s listed who_is line_is = absurd (none-some s.seen listed)
of-entry who first (seen ∷ rest) zero s listed who_is line_is =
    let line : first ≡ s.line = omega (arith, line_is) in
    cons-here (record { who = who; seen = seen; line = first }) (listed_sights who (first + 1) rest) s (λ i. record { who = sym who_is i; seen = same_Some seen s.seen listed i; line = line i })
of-entry who first (seen ∷ rest) (suc number) s listed who_is line_is =
    cons-there (record { who = who; seen = seen; line = first }) (listed_sights who (first + 1) rest) s (of-entry who (first + 1) rest number s listed who_is (omega (arith, line_is)))

-- among those of a page
record InPage (first : ℕ) (entries : List Entry) (s : Sight) : Type 0 where
  place : ℕ
  entry : Entry
  number : ℕ
  there : slice_get entries place ≡ Some entry
  listed : slice_get (seen_in entry.what) number ≡ Some s.seen
  who_is : s.who ≡ entry.who
  line_is : s.line ≡ first + sum_by entry_height (take place entries) + 1 + number

in-page : (first : ℕ) (entries : List Entry) (s : Sight) → Contains (page_sights first entries) s → InPage first entries s
in-page first [] s c = nothing s c
in-page first (e ∷ rest) s c = elim (Contains-append_cases (entry_sights first e) (page_sights (first + entry_height e) rest) s c) [
  | inl here ↦ let m = in-entry e.who (first + 1) (seen_in e.what) s here in record {
    place = 0;
    entry = e;
    number = m.number;
    there = refl;
    listed = m.listed;
    who_is = m.who_is;
    line_is = let line : s.line ≡ first + 1 + m.number = m.line_is in omega (arith, line);
  }
  | inr more ↦ let m = in-page (first + entry_height e) rest s more in record {
    place = suc m.place;
    entry = m.entry;
    number = m.number;
    there = m.there;
    listed = m.listed;
    who_is = m.who_is;
    line_is =
        let line : s.line ≡ first + entry_height e + sum_by entry_height (take m.place rest) + 1 + m.number = m.line_is in
        let cons : sum_by entry_height (e ∷ take m.place rest) ≡ entry_height e + sum_by entry_height (take m.place rest) = sum_by-cons entry_height e (take m.place rest) in
        omega (arith, line, cons);
  }
]

of-page : (first : ℕ) (entries : List Entry) (place : ℕ) (entry : Entry) (number : ℕ) (s : Sight) → slice_get entries place ≡ Some entry → slice_get (seen_in entry.what) number ≡ Some s.seen
    → s.who ≡ entry.who → s.line ≡ first + sum_by entry_height (take place entries) + 1 + number → Contains (page_sights first entries) s
of-page first [] place entry number s there listed who_is line_is = absurd (none-some entry there)
of-page first (e ∷ rest) zero entry number s there listed who_is line_is =
    let same : e ≡ entry = same_Some e entry there in
    Contains-append_left (entry_sights first e) (page_sights (first + entry_height e) rest) s
    (of-entry e.who (first + 1) (seen_in e.what) number s (ap (λ (f : Entry). slice_get (seen_in f.what) number) same ∙ listed) (who_is ∙ ap (λ (f : Entry). f.who) (sym same)) (omega (arith, line_is)))
of-page first (e ∷ rest) (suc place) entry number s there listed who_is line_is =
    let cons : sum_by entry_height (e ∷ take place rest) ≡ entry_height e + sum_by entry_height (take place rest) = sum_by-cons entry_height e (take place rest) in
    let line : s.line ≡ first + sum_by entry_height (e ∷ take place rest) + 1 + number = line_is in
    Contains-append_right (entry_sights first e) (page_sights (first + entry_height e) rest) s
    (of-page (first + entry_height e) rest place entry number s there listed who_is (omega (arith, line, cons)))

-- among those of pages
record InPages (first : ℕ) (pages : List (List Entry)) (s : Sight) : Type 0 where
  page : ℕ
  entries : List Entry
  place : ℕ
  entry : Entry
  number : ℕ
  of_page : slice_get pages page ≡ Some entries
  there : slice_get entries place ≡ Some entry
  listed : slice_get (seen_in entry.what) number ≡ Some s.seen
  who_is : s.who ≡ entry.who
  line_is : s.line ≡ first + sum_by page_height (take page pages) + 1 + sum_by entry_height (take place entries) + 1 + number

in-pages : (first : ℕ) (pages : List (List Entry)) (s : Sight) → Contains (pages_sights first pages) s → InPages first pages s
in-pages first [] s c = nothing s c
in-pages first (entries ∷ rest) s c = elim (Contains-append_cases (page_sights (first + 1) entries) (pages_sights (first + page_height entries) rest) s c) [
  | inl here ↦ let m = in-page (first + 1) entries s here in record {
    page = 0;
    entries = entries;
    place = m.place;
    entry = m.entry;
    number = m.number;
    of_page = refl;
    there = m.there;
    listed = m.listed;
    who_is = m.who_is;
    line_is = let line : s.line ≡ first + 1 + sum_by entry_height (take m.place entries) + 1 + m.number = m.line_is in omega (arith, line);
  }
  | inr more ↦ let m = in-pages (first + page_height entries) rest s more in record {
    page = suc m.page;
    entries = m.entries;
    place = m.place;
    entry = m.entry;
    number = m.number;
    of_page = m.of_page;
    there = m.there;
    listed = m.listed;
    who_is = m.who_is;
    line_is =
        let line : s.line ≡ first + page_height entries + sum_by page_height (take m.page rest) + 1 + sum_by entry_height (take m.place m.entries) + 1 + m.number = m.line_is in
        let cons : sum_by page_height (entries ∷ take m.page rest) ≡ page_height entries + sum_by page_height (take m.page rest) = sum_by-cons page_height entries (take m.page rest) in
        omega (arith, line, cons);
  }
]

of-pages : (first : ℕ) (pages : List (List Entry)) (page : ℕ) (entries : List Entry) (place : ℕ) (entry : Entry) (number : ℕ) (s : Sight) → slice_get pages page ≡ Some entries → slice_get entries place ≡ Some entry
    → slice_get (seen_in entry.what) number ≡ Some s.seen → s.who ≡ entry.who → s.line ≡ first + sum_by page_height (take page pages) + 1 + sum_by entry_height (take place entries) + 1 + number
    → Contains (pages_sights first pages) s
of-pages first [] page entries place entry number s of_page there listed who_is line_is = absurd (none-some entries of_page)
of-pages first (es ∷ rest) zero entries place entry number s of_page there listed who_is line_is =
    let same : es ≡ entries = same_Some es entries of_page in
    Contains-append_left (page_sights (first + 1) es) (pages_sights (first + page_height es) rest) s
    (subst (λ (l : List Entry). Contains (page_sights (first + 1) l) s) (sym same) (of-page (first + 1) entries place entry number s there listed who_is (omega (arith, line_is))))
of-pages first (es ∷ rest) (suc page) entries place entry number s of_page there listed who_is line_is =
    let cons : sum_by page_height (es ∷ take page rest) ≡ page_height es + sum_by page_height (take page rest) = sum_by-cons page_height es (take page rest) in
    let line : s.line ≡ first + sum_by page_height (es ∷ take page rest) + 1 + sum_by entry_height (take place entries) + 1 + number = line_is in
    Contains-append_right (page_sights (first + 1) es) (pages_sights (first + page_height es) rest) s
    (of-pages (first + page_height es) rest page entries place entry number s of_page there listed who_is (omega (arith, line, cons)))

-- a policy seen that the report has
pub record IsSight (report : Report) (s : Sight) : Type 0 where
  pub at : At
  pub entry : Entry
  pub number : ℕ
  pub there : entry_at report.pages at ≡ Some entry
  pub listed : slice_get (seen_in entry.what) number ≡ Some s.seen
  pub who_is : s.who ≡ entry.who
  pub line_is : s.line ≡ seen_line report at number

module _ (report : Report) where
  pub sight-has : (s : Sight) → Contains (sights report) s → IsSight report s
  sight-has s c = let m = in-pages (page_line report 0) report.pages s c in record {
    at = record { page = record { 0 = m.page }; entry = m.place };
    entry = m.entry;
    number = m.number;
    there = ap (λ (o : Option (List Entry)). option_and_then (λ (es : List Entry). slice_get es m.place) o) m.of_page ∙ m.there;
    listed = m.listed;
    who_is = m.who_is;
    line_is =
        let line : s.line ≡ page_line report 0 + sum_by page_height (take m.page report.pages) + 1 + sum_by entry_height (take m.place m.entries) + 1 + m.number = m.line_is in
        let own : sum_by entry_height (take m.place (unwrap_or (slice_get report.pages m.page) [])) ≡ sum_by entry_height (take m.place m.entries) =
        ap (λ (o : Option (List Entry)). sum_by entry_height (take m.place (unwrap_or o []))) m.of_page in
        omega (arith, line, own);
  }

  pub has-sight : (s : Sight) → IsSight report s → Contains (sights report) s
  has-sight s is = which (slice_get report.pages is.at.page.0) refl
    where
      which : (o : Option (List Entry)) → slice_get report.pages is.at.page.0 ≡ o → Contains (sights report) s
      which None none = absurd (none-some is.entry (sym (ap (λ (o : Option (List Entry)). option_and_then (λ (es : List Entry). slice_get es is.at.entry) o) none) ∙ is.there))
      which (Some entries) some =
          let own : sum_by entry_height (take is.at.entry (unwrap_or (slice_get report.pages is.at.page.0) [])) ≡ sum_by entry_height (take is.at.entry entries) =
          ap (λ (o : Option (List Entry)). sum_by entry_height (take is.at.entry (unwrap_or o []))) some in
          let line : s.line ≡ seen_line report is.at is.number = is.line_is in
          of-pages (page_line report 0) report.pages is.at.page.0 entries is.at.entry is.entry is.number s some
          (sym (ap (λ (o : Option (List Entry)). option_and_then (λ (es : List Entry). slice_get es is.at.entry) o) some) ∙ is.there) is.listed is.who_is (omega (arith, line, own))
