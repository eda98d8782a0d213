-- The policies seen of an entry, of entries and of pages, one after another: the line of the next, and those collected so far.
use Rattle.std.proofs.Common.{◌≡◌, ℕ, ◌+◌, ◌^◌, ◌<◌, ◌≤◌, List, [], ◌∷◌, ◌++◌, drop, take, get_or, length, ap, ◌∙◌, sym, arith}
use Rattle.std.specs.List.{sum_by}
use Rattle.std.proofs.lemmas.List.{append-nil, append_assoc, at_drop_all, at_drop_more, take_all}
use Rattle.std.proofs.lemmas.List.Sums.{sum_by_more, sum_by_more_le}
use Rattle.hwp_check_rules.specs.hwp_geom.declared.Who.{Who}
use Rattle.hwp_check_rules.specs.hwp_kill.declared.Seen.{Seen}
use Rattle.hwp_check_rules.specs.hwp_page.declared.Entry.{Entry}
use Rattle.hwp_check_rules.specs.Standing.{entry_height, page_height}
use Rattle.hwp_check_state.specs.Sights.{entry_sights, listed_sights, page_sights, pages_sights}
use Rattle.hwp_check_state.specs.declared.sights.Sight.{Sight}

-- a thing more is within the lines of all
pub room-more : {X : Type 0} (height : X → ℕ) (xs : List X) (first line i : ℕ) (d item : X) → i < length xs → item ≡ get_or xs i d → line ≡ first + sum_by height (take i xs) → first + sum_by height xs < 2 ^ 64 → line + height item < 2 ^ 64
room-more height xs first line i d item within is at room =
    let same : height item ≡ height (get_or xs i d) = ap height is in omega (arith, at, room, same, sum_by_more_le height xs i d within)

-- so many policies of an entry were read
abbrev pub ListedSoFar : Who → List Seen → ℕ → List Sight → ℕ → ℕ → List Sight → Type 0
ListedSoFar who list first start i line out = (line ≡ first + i) × (out ++ listed_sights who line (drop i list) ≡ start ++ listed_sights who first list)

pub listed-step : (who : Who) (list : List Seen) (first line i : ℕ) (d item : Seen) (start out next : List Sight) → i < length list → item ≡ get_or list i d → next ≡ out ++ record { who = who; seen = item; line = line } ∷ []
    → ListedSoFar who list first start i line out → ListedSoFar who list first start (i + 1) (line + 1) next
listed-step who list first line i d item start out next within is more (at, so_far) = (
  omega (arith, at),
  ap (λ (l : List Sight). l ++ listed_sights who (line + 1) (drop (i + 1) list)) more
      ∙ append_assoc out (record { who = who; seen = item; line = line } ∷ []) (listed_sights who (line + 1) (drop (i + 1) list))
      ∙ ap (λ (s : Seen). out ++ listed_sights who line (s ∷ drop (i + 1) list)) is
      ∙ sym (at_drop_more (λ (l : List Seen). out ++ listed_sights who line l) list i d within)
      ∙ so_far,
)

pub listed-end : (who : Who) (list : List Seen) (first line i : ℕ) (start out : List Sight) → length list ≤ i → ListedSoFar who list first start i line out → out ≡ start ++ listed_sights who first list
listed-end who list first line i start out past (at, so_far) =
    sym (append-nil out) ∙ sym (at_drop_all (λ (l : List Seen). out ++ listed_sights who line l) list i past) ∙ so_far

-- so many entries of a page were read
abbrev pub PageSoFar : List Entry → ℕ → List Sight → ℕ → ℕ → List Sight → Type 0
PageSoFar entries first start i line out = (line ≡ first + sum_by entry_height (take i entries)) × (out ++ page_sights line (drop i entries) ≡ start ++ page_sights first entries)

pub page-step : (entries : List Entry) (first line i : ℕ) (d item : Entry) (start out next : List Sight) (height : ℕ) → i < length entries → item ≡ get_or entries i d → height ≡ entry_height item → next ≡ out ++ entry_sights line item
    → PageSoFar entries first start i line out → PageSoFar entries first start (i + 1) (line + height) next
page-step entries first line i d item start out next height within is tall more (at, so_far) =
    let same : height ≡ entry_height (get_or entries i d) = tall ∙ ap entry_height is in (
      omega (arith, at, same, sum_by_more entry_height entries i d within),
      ap (λ (l : List Sight). l ++ page_sights (line + height) (drop (i + 1) entries)) more
          ∙ append_assoc out (entry_sights line item) (page_sights (line + height) (drop (i + 1) entries))
          ∙ ap (λ (h : ℕ). out ++ (entry_sights line item ++ page_sights (line + h) (drop (i + 1) entries))) tall
          ∙ ap (λ (e : Entry). out ++ (entry_sights line e ++ page_sights (line + entry_height e) (drop (i + 1) entries))) is
          ∙ sym (at_drop_more (λ (l : List Entry). out ++ page_sights line l) entries i d within)
          ∙ so_far,
    )

pub page-end : (entries : List Entry) (first line i : ℕ) (start out : List Sight) → length entries ≤ i → PageSoFar entries first start i line out
    → (line ≡ first + sum_by entry_height entries) × (out ≡ start ++ page_sights first entries)
page-end entries first line i start out past (at, so_far) = (
  at ∙ ap (λ (l : List Entry). first + sum_by entry_height l) (take_all i entries past),
  sym (append-nil out) ∙ sym (at_drop_all (λ (l : List Entry). out ++ page_sights line l) entries i past) ∙ so_far,
)

-- so many pages were read
abbrev pub PagesSoFar : List (List Entry) → ℕ → List Sight → ℕ → ℕ → List Sight → Type 0
PagesSoFar pages first start i line out = (line ≡ first + sum_by page_height (take i pages)) × (out ++ pages_sights line (drop i pages) ≡ start ++ pages_sights first pages)

pub pages-step : (pages : List (List Entry)) (first line below i : ℕ) (d read : List Entry) (start out next : List Sight) → i < length pages → read ≡ get_or pages i d → below ≡ line + 1 + sum_by entry_height read → next ≡ out ++ page_sights (line + 1) read
    → PagesSoFar pages first start i line out → PagesSoFar pages first start (i + 1) below next
pages-step pages first line below i d read start out next within read_is is more (at, so_far) =
    let same : below ≡ line + page_height read = omega (arith, is) in
    let tall : page_height read ≡ page_height (get_or pages i d) = ap page_height read_is in (
      omega (arith, at, same, tall, sum_by_more page_height pages i d within),
      ap (λ (l : List Sight). l ++ pages_sights below (drop (i + 1) pages)) more
          ∙ append_assoc out (page_sights (line + 1) read) (pages_sights below (drop (i + 1) pages))
          ∙ ap (λ (b : ℕ). out ++ (page_sights (line + 1) read ++ pages_sights b (drop (i + 1) pages))) same
          ∙ ap (λ (e : List Entry). out ++ (page_sights (line + 1) e ++ pages_sights (line + page_height e) (drop (i + 1) pages))) read_is
          ∙ sym (at_drop_more (λ (l : List (List Entry)). out ++ pages_sights line l) pages i d within)
          ∙ so_far,
    )

pub pages-end : (pages : List (List Entry)) (first line i : ℕ) (start out : List Sight) → length pages ≤ i → PagesSoFar pages first start i line out → out ≡ start ++ pages_sights first pages
pages-end pages first line i start out past (at, so_far) =
    sym (append-nil out) ∙ sym (at_drop_all (λ (l : List (List Entry)). out ++ pages_sights line l) pages i past) ∙ so_far
