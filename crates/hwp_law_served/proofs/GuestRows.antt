-- What the rows of a processor say of guests stays so: over a step of another command, and when a row more is behind them.
use Rattle.std.proofs.Common.{◌≡◌, ◌⊎◌, inl, inr, ℕ, zero, suc, ◌+◌, ◌<◌, ◌≤◌, List, [], ◌∷◌, ◌++◌, Option, None, Some, length, length-append, slice_get, take, refl, sym, ap, ◌∙◌, subst, arith}
use Rattle.std.proofs.lemmas.Bool.{cases_lt}
use Rattle.std.proofs.lemmas.Option.{slice_get_within}
use Rattle.hwp_law.specs.hwp_geom.declared.Cpu.{Cpu}
use Rattle.hwp_law.specs.hwp_geom.declared.Layout.{Layout}
use Rattle.hwp_law.specs.hwp_geom.declared.Who.{Who}
use Rattle.hwp_plain.specs.hwp_core_rule.declared.View.{View}
use Rattle.hwp_plain.proofs.of_hwp_core_rule.Lists.{at_push}
use Rattle.hwp_plain.specs.hwp_core_rule.Known.{HasMadeNone}
use Rattle.hwp_law.specs.hwp_script_words.declared.Command.{Command}
use Rattle.hwp_law.specs.hwp_report_text.declared.Answer.{Answer}
use Rattle.hwp_law.specs.GuestRule.{denied}
use Rattle.hwp_cpu_row.specs.declared.Row.{Row}
use Rattle.hwp_law_served.specs.Guests.{IsDeniedRow, IsGuestRow, KnowsGuests}
use Rattle.hwp_law_served.specs.Handles.{answers_by}

-- ---- over a step

-- of a command that has as many entries as before
module _ (layout : Layout) (old new : View) (who : Who) (same : HasMadeNone old who → HasMadeNone new who) where
  denied-later : (due : Option Answer) (row : Row) → IsDeniedRow old who due row → IsDeniedRow new who due row
  denied-later None row is = is
  denied-later (Some answer) row is = record { answered = is.answered; made = same is.made; untold = is.untold }

  pub guest-later : (earlier : List (Command × Answer)) (command : Command) (row : Row) → IsGuestRow layout earlier old who command row → IsGuestRow layout earlier new who command row
  guest-later earlier command row is = record { admits = denied-later (denied layout earlier command) row is.admits; told = is.told }

-- of all rows
pub guests-later : (layout : Layout) (old new : View) (cpu : Cpu) (list : List Command) (rows : List Row) → ((i : ℕ) → i < length rows → HasMadeNone old (record { cpu = cpu; seq = i }) → HasMadeNone new (record { cpu = cpu; seq = i }))
    → KnowsGuests layout old cpu list rows → KnowsGuests layout new cpu list rows
guests-later layout old new cpu list rows same knows i command row command_is row_is =
    guest-later layout old new (record { cpu = cpu; seq = i }) (same i (slice_get_within rows i row row_is)) (take i (answers_by list rows)) command row (knows i command row command_is row_is)

-- ---- a row more

front : (list : List Command) (rows more : List Row) (i : ℕ) → i ≤ length rows → take i (answers_by list (rows ++ more)) ≡ take i (answers_by list rows)
front [] rows more i few = refl
front (c ∷ cs) [] more zero few = refl
front (c ∷ cs) [] more (suc i) few = absurd (omega (arith, few))
front (c ∷ cs) (r ∷ rs) more zero few = refl
front (c ∷ cs) (r ∷ rs) more (suc i) few = let less : suc i ≤ suc (length rs) = few in ap (λ (l : List (Command × Answer)). (c, r.answer) ∷ l) (front cs rs more i (omega (arith, less)))

all-of : (list : List Command) (rows : List Row) → take (length rows) (answers_by list rows) ≡ answers_by list rows
all-of [] [] = refl
all-of [] (r ∷ rs) = refl
all-of (c ∷ cs) [] = refl
all-of (c ∷ cs) (r ∷ rs) = ap (λ (l : List (Command × Answer)). (c, r.answer) ∷ l) (all-of cs rs)

pub guests-more : (layout : Layout) (view : View) (cpu : Cpu) (list : List Command) (rows : List Row) (row : Row) → KnowsGuests layout view cpu list rows
    → ((command : Command) → slice_get list (length rows) ≡ Some command → IsGuestRow layout (answers_by list rows) view (record { cpu = cpu; seq = length rows }) command row) → KnowsGuests layout view cpu list (rows ++ row ∷ [])
guests-more layout view cpu list rows row knows now i command r command_is row_is = which (cases_lt i (length rows)) (at_push rows row r i row_is)
  where
    which : (i < length rows) ⊎ (length rows ≤ i) → (slice_get rows i ≡ Some r) ⊎ (row ≡ r) → IsGuestRow layout (take i (answers_by list (rows ++ row ∷ []))) view (record { cpu = cpu; seq = i }) command r
    which either (inl early) =
        let within : i < length rows = slice_get_within rows i r early in
        subst (λ (l : List (Command × Answer)). IsGuestRow layout l view (record { cpu = cpu; seq = i }) command r) (sym (front list rows (row ∷ []) i (omega (arith, within)))) (knows i command r command_is early)
    which (inl less) (inr same) =
        let early : slice_get rows i ≡ Some r = sym (at-front rows (row ∷ []) i less) ∙ row_is in
        subst (λ (l : List (Command × Answer)). IsGuestRow layout l view (record { cpu = cpu; seq = i }) command r) (sym (front list rows (row ∷ []) i (omega (arith, less)))) (knows i command r command_is early)
      where
        at-front : (xs ys : List Row) (k : ℕ) → k < length xs → slice_get (xs ++ ys) k ≡ slice_get xs k
        at-front [] ys k inside = absurd (omega (arith, inside))
        at-front (x ∷ xs) ys zero inside = refl
        at-front (x ∷ xs) ys (suc k) inside = let less : suc k < suc (length xs) = inside in at-front xs ys k (omega (arith, less))
    which (inr most) (inr same) =
        let within : i < length (rows ++ row ∷ []) = slice_get_within (rows ++ row ∷ []) i r row_is in
        let all : length (rows ++ row ∷ []) ≡ length rows + 1 = length-append rows (row ∷ []) in
        let at_end : i ≡ length rows = omega (arith, within, all, most) in
        subst (λ (k : ℕ). IsGuestRow layout (take k (answers_by list (rows ++ row ∷ []))) view (record { cpu = cpu; seq = k }) command r) (sym at_end)
        (subst (λ (l : List (Command × Answer)). IsGuestRow layout l view (record { cpu = cpu; seq = length rows }) command r) (sym (front list rows (row ∷ []) (length rows) (omega arith) ∙ all-of list rows))
        (subst (IsGuestRow layout (answers_by list rows) view (record { cpu = cpu; seq = length rows }) command) same (now command (ap (slice_get list) (sym at_end) ∙ command_is))))
