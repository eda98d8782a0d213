-- What is kept of the places that lines name beside answers is what the lines name.
use Rattle.std.proofs.Common.{◌≡◌, ℕ, zero, suc, ◌<◌, ◌==◌, ◌&&◌, ◌||◌, Bool, true, false, cond, List, [], ◌∷◌, Option, Some, None, fold, get_or, is_some, length, map, option_map, slice_get, refl, sym, ap, ◌∙◌, subst, true≢false}
use Rattle.std.specs.List.{list_any}
use Rattle.std.proofs.lemmas.Bool.{eq-eqb, eqb-true}
use Rattle.std.proofs.lemmas.Option.{get_or_from_slice_get, none-some, same_Some, slice_get-get_or, slice_get-map}
use Rattle.hwp_law.specs.hwp_page.declared.At.{At}
use Rattle.hwp_law.specs.hwp_report_text.declared.Answer.{Answer}
use Rattle.hwp_law.specs.hwp_report_text.declared.CpuLine.{CpuLine}
use Rattle.hwp_law.specs.hwp_report_text.declared.CpuLine.TheVariants as lines
use Rattle.hwp_law.specs.hwp_report_text.declared.OfflinedLine.{OfflinedLine}
use Rattle.hwp_law.specs.hwp_report_text.Offlines.{offline_answer}
use Rattle.hwp_law.specs.States.{entry_named}
use Rattle.hwp_check_evidence.specs.Firsts.{AreAnswersOf, AreNames, entry_of, is_at, names_beside, noted_at, noted_by, row_noted, rows_noted}
use Rattle.hwp_check_evidence.specs.declared.names.Names.{Names}
use Rattle.hwp_check_evidence.proofs.NamedLaws.{at-is, named-at}

or-assoc : (a b c : Bool) → ((a || b) || c) ≡ (a || (b || c))
or-assoc true b c = refl
or-assoc false b c = refl

or-false : (a : Bool) → a ≡ (a || false)
or-false true = refl
or-false false = refl

-- one place more is kept
kept-more : (found : Option Bool) (a b c : Bool) → is_some (cond ((a && b) && c) (Some true) found) ≡ (is_some found || (a && (b && c)))
kept-more None true true true = refl
kept-more None true true false = refl
kept-more None true false c = refl
kept-more None false b c = refl
kept-more (Some x) true true true = refl
kept-more (Some x) true true false = refl
kept-more (Some x) true false c = refl
kept-more (Some x) false b c = refl

none-more : (a b : Bool) → a ≡ (a || (b && false))
none-more true b = refl
none-more false true = refl
none-more false false = refl

module _ (seq : ℕ) (at : At) where
  abbrev place : (ℕ × ℕ) × ℕ
  place = ((seq, at.page.0), at.entry)

  by-more : (found : Option Bool) (s : ℕ) (named : Option At) → is_some (noted_by place found s named) ≡ (is_some found || ((s == seq) && is_at named at))
  by-more found s None = none-more (is_some found) (s == seq)
  by-more found s (Some a) = kept-more found (s == seq) (a.page.0 == at.page.0) (a.entry == at.entry)

  rows-kept : (rows : List CpuLine) (found : Option Bool) → is_some (fold (row_noted place) found rows) ≡ (is_some found || list_any (names_beside seq at) rows)
  rows-kept [] found = or-false (is_some found)
  rows-kept (lines.Event event ∷ rs) found = rows-kept rs found
  rows-kept (lines.Offlined line ∷ rs) found =
      rows-kept rs (noted_by place found line.seq (entry_named (offline_answer line.result)))
      ∙ ap (λ (b : Bool). b || list_any (names_beside seq at) rs) (by-more found line.seq (entry_named (offline_answer line.result)))
      ∙ or-assoc (is_some found) ((line.seq == seq) && is_at (entry_named (offline_answer line.result)) at) (list_any (names_beside seq at) rs)
  rows-kept (lines.Guest guest ∷ rs) found = rows-kept rs found
  rows-kept (lines.Answer s answer ∷ rs) found = rows-kept rs found

  and-both : (a b : Bool) → (a && b) ≡ true → (a ≡ true) × (b ≡ true)
  and-both true b e = (refl, e)
  and-both false b e = absurd (true≢false (sym e))

  and-of : (a b : Bool) → a ≡ true → b ≡ true → (a && b) ≡ true
  and-of true b one other = other
  and-of false b one other = absurd (true≢false (sym one))

  -- where a line beside the answer names the place, one does so among them; and the other way round
  pub record IsBeside (rows : List CpuLine) : Type 0 where
    pub i : ℕ
    pub line : OfflinedLine
    pub there : slice_get rows i ≡ Some (lines.Offlined line)
    pub own : line.seq ≡ seq
    pub names : entry_named (offline_answer line.result) ≡ Some at

  later : (r : CpuLine) (rs : List CpuLine) → IsBeside rs → IsBeside (r ∷ rs)
  later r rs b = record { i = suc b.i; line = b.line; there = b.there; own = b.own; names = b.names }

  pub some-beside : (rows : List CpuLine) → list_any (names_beside seq at) rows ≡ true → IsBeside rows
  some-beside [] is = absurd (true≢false (sym is))
  some-beside (lines.Event event ∷ rs) is = later _ rs (some-beside rs is)
  some-beside (lines.Guest guest ∷ rs) is = later _ rs (some-beside rs is)
  some-beside (lines.Answer s answer ∷ rs) is = later _ rs (some-beside rs is)
  some-beside (lines.Offlined line ∷ rs) is = which (names_beside seq at (lines.Offlined line)) refl is (λ any. some-beside rs any)
    where
      which : (b : Bool) → names_beside seq at (lines.Offlined line) ≡ b → (b || list_any (names_beside seq at) rs) ≡ true → (list_any (names_beside seq at) rs ≡ true → IsBeside rs) → IsBeside (lines.Offlined line ∷ rs)
      which true here any more =
          let p = and-both (line.seq == seq) (is_at (entry_named (offline_answer line.result)) at) here in
          record { i = 0; line = line; there = refl; own = eqb-true line.seq seq p.0; names = at-is (entry_named (offline_answer line.result)) at p.1 }
      which false here any more = later _ rs (more any)

  or-left : (a b : Bool) → a ≡ true → (a || b) ≡ true
  or-left true b is = refl
  or-left false b is = absurd (true≢false (sym is))

  or-right : (a b : Bool) → b ≡ true → (a || b) ≡ true
  or-right true b is = refl
  or-right false b is = is

  pub beside-some : (rows : List CpuLine) (i : ℕ) (line : OfflinedLine) → slice_get rows i ≡ Some (lines.Offlined line) → line.seq ≡ seq → entry_named (offline_answer line.result) ≡ Some at → list_any (names_beside seq at) rows ≡ true
  beside-some [] i line there own names = absurd (none-some _ there)
  beside-some (r ∷ rs) zero line there own names =
      or-left (names_beside seq at r) (list_any (names_beside seq at) rs)
      (ap (names_beside seq at) (same_Some _ _ there) ∙ and-of (line.seq == seq) (is_at (entry_named (offline_answer line.result)) at) (eq-eqb line.seq seq own) (named-at (entry_named (offline_answer line.result)) at names))
  beside-some (r ∷ rs) (suc i) line there own names = or-right (names_beside seq at r) (list_any (names_beside seq at) rs) (beside-some rs i line there own names)

pub names_are : (rows : List CpuLine) (commands : ℕ) (answered : List (Option Answer)) (names : Names) → length answered ≡ commands → AreAnswersOf rows answered → names.answers.items ≡ map entry_of answered
    → ((q : (ℕ × ℕ) × ℕ) → noted_at names.beside q ≡ rows_noted q rows) → AreNames commands rows names
names_are rows commands answered names size are named beside = record {
  answers = λ seq inside.
      let within : seq < length answered = subst (λ (n : ℕ). seq < n) (sym size) inside in
      let there : slice_get answered seq ≡ Some (get_or answered seq None) = slice_get-get_or answered seq None within in
      let got : slice_get names.answers.items seq ≡ Some (entry_of (get_or answered seq None)) =
      ap (λ (l : List (Option At)). slice_get l seq) named ∙ slice_get-map entry_of answered seq ∙ ap (option_map entry_of) there in
      get_or_from_slice_get names.answers.items seq (entry_of (get_or answered seq None)) None got ∙ ap entry_of (are seq within);
  beside = λ seq at. ap is_some (beside ((seq, at.page.0), at.entry)) ∙ rows-kept seq at rows None;
}
