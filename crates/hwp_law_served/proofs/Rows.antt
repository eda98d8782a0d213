-- What is so of some rows is so of them and one more.
use Rattle.std.proofs.Common.{◌≡◌, ℕ, zero, suc, ◌+◌, ◌<◌, ◌≤◌, ◌⊎◌, inl, inr, List, [], ◌∷◌, ◌++◌, Option, Some, None, length, slice_get, get_or, append-nil, append_assoc, refl, sym, ap, ◌∙◌, subst, arith}
use Rattle.std.proofs.lemmas.Option.{none-some, same_Some, slice_get-get_or, slice_get_within}
use Rattle.hwp_cpu_row.specs.hwp_geom.declared.Cpu.{Cpu}
use Rattle.hwp_cpu_row.specs.hwp_geom.declared.Layout.{Layout}
use Rattle.hwp_cpu_row.specs.hwp_geom.declared.VSlot.{VSlot}
use Rattle.hwp_cpu_row.specs.hwp_geom.declared.Who.{Who}
use Rattle.hwp_cpu_row.specs.hwp_law.Cows.{acting, copied_from}
use Rattle.hwp_cpu_row.specs.hwp_script_words.declared.Command.{Command}
use Rattle.hwp_cpu_row.specs.hwp_report_text.declared.Answer.{Answer}
use Rattle.hwp_cpu_row.specs.hwp_report_text.declared.Answer.TheVariants as answers
use Rattle.hwp_cpu_row.specs.hwp_core_rule.declared.Spoiled.{Spoiled}
use Rattle.hwp_cpu_row.specs.hwp_core_rule.declared.View.{View}
use Rattle.hwp_cpu_row.proofs.of_hwp_core_rule.Lists.{at_longer, at_push}
use Rattle.hwp_cpu_row.specs.declared.Row.{Row}
use Rattle.hwp_cpu_row.specs.hwp_banks.Banks.{Banks}
use Rattle.hwp_law_served.specs.Handles.{answers_by}
use Rattle.hwp_law_served.specs.Rows.{Note, notes_from, row_notes, at_number}
use Rattle.hwp_law_served.specs.Served.{AreRowsActed, IsOwnSpoil, IsOwnStop, IsRowServed, StaysStopped, HasStopped}
use Rattle.hwp_law_served.proofs.lines.ScrubBank.{with-free}
use Rattle.hwp_scrub.specs.Visits.{AreBanks}

-- what a longer list has within a front of it, the front has
pub at_front : {A : Type 0} (l m : List A) (i : ℕ) (a : A) → i < length l → slice_get (l ++ m) i ≡ Some a → slice_get l i ≡ Some a
at_front l m i a within is =
    let here : slice_get l i ≡ Some (get_or l i a) = slice_get-get_or l i a within in
    here ∙ ap (λ x. Some x) (same_Some (get_or l i a) a (sym (at_longer l m i (get_or l i a) here) ∙ is))

-- a list that has no member of this number has no more
pub past-end : {A : Type 0} (l : List A) (i : ℕ) → slice_get l i ≡ None → length l ≤ i
past-end [] i none = omega arith
past-end (x ∷ xs) zero none = absurd (none-some x (sym none))
past-end (x ∷ xs) (suc i) none = let few : length xs ≤ i = past-end xs i none in omega arith

-- the row of a command of the script behind these, by the command that is acted on
abbrev pub IsRowActed : Layout → List (Command × Answer) → View → Who → Command → Banks → Row → Banks → Type 0
IsRowActed layout earlier view who own before row after = IsRowServed layout earlier (copied_from layout earlier own) view who (acting layout earlier own) before row after

-- one row more, which goes on from what the banks held
pub rows-more : (layout : Layout) (earlier : List (Command × Answer)) (view : View) (cpu : Cpu) (n : ℕ) (before : Banks) (commands : List Command) (rows : List Row) (between : Banks) (m : ℕ) (command : Command) (row : Row) (after : Banks)
    → m ≡ n + length rows → AreRowsActed layout earlier view cpu n before commands rows between → slice_get commands (length rows) ≡ Some command
    → IsRowActed layout (earlier ++ answers_by commands rows) view (at_number cpu m) command between row after → AreRowsActed layout earlier view cpu n before commands (rows ++ row ∷ []) after
rows-more layout earlier view cpu n before [] [] between m command row after is are there served = absurd (none-some command there)
rows-more layout earlier view cpu n before [] (r ∷ rs) between m command row after is are there served = absurd (none-some command there)
rows-more layout earlier view cpu n before (c ∷ cs) [] between m command row after is are there served = (
  after,
  subst (λ (d : Command). IsRowActed layout earlier view (at_number cpu n) d before row after) (sym (same_Some c command there))
      (subst (λ (b : Banks). IsRowActed layout earlier view (at_number cpu n) command b row after) are
      (subst (λ (k : ℕ). IsRowActed layout earlier view (at_number cpu k) command between row after) (let same : m ≡ n = omega arith in same)
      (subst (λ (l : List (Command × Answer)). IsRowActed layout l view (at_number cpu m) command between row after) (append-nil earlier) served))),
  refl,
)
rows-more layout earlier view cpu n before (c ∷ cs) (r ∷ rs) between m command row after is are there served = (
  are.0,
  are.1,
  rows-more layout (earlier ++ (c, r.answer) ∷ []) view cpu (n + 1) are.0 cs rs between m command row after (omega arith) are.2 there
      (subst (λ (l : List (Command × Answer)). IsRowActed layout l view (at_number cpu m) command between row after) (sym (append_assoc earlier ((c, r.answer) ∷ []) (answers_by cs rs))) served),
)

-- rows stay right where each of them does
pub rows-stay : (layout : Layout) (old new : View) (cpu : Cpu) (m : ℕ)
    → ((k : ℕ) (earlier : List (Command × Answer)) (copied : Option VSlot) (c : Command) (before : Banks) (row : Row) (after : Banks) → k < m → IsRowServed layout earlier copied old (at_number cpu k) c before row after → IsRowServed layout earlier copied new (at_number cpu k) c before row after)
    → (earlier : List (Command × Answer)) (n : ℕ) (before : Banks) (commands : List Command) (rows : List Row) (after : Banks) → n + length rows ≤ m → AreRowsActed layout earlier old cpu n before commands rows after → AreRowsActed layout earlier new cpu n before commands rows after
rows-stay layout old new cpu m stay earlier n before [] [] after few are = are
rows-stay layout old new cpu m stay earlier n before (c ∷ cs) [] after few are = are
rows-stay layout old new cpu m stay earlier n before [] (r ∷ rs) after few are = absurd are
rows-stay layout old new cpu m stay earlier n before (c ∷ cs) (r ∷ rs) after few are =
    (are.0, stay n earlier (copied_from layout earlier c) (acting layout earlier c) before r are.0 (omega arith) are.1, rows-stay layout old new cpu m stay (earlier ++ (c, r.answer) ∷ []) (n + 1) are.0 cs rs after (omega arith) are.2)

-- the banks stay such as there may be
pub banks-acted : (layout : Layout) (earlier : List (Command × Answer)) (view : View) (cpu : Cpu) (n : ℕ) (before : Banks) (commands : List Command) (rows : List Row) (after : Banks) → AreRowsActed layout earlier view cpu n before commands rows after → AreBanks before → AreBanks after
banks-acted layout earlier view cpu n before cs [] after same are = subst AreBanks (sym same) are
banks-acted layout earlier view cpu n before [] (row ∷ rows) after served are = absurd served
banks-acted layout earlier view cpu n before (c ∷ cs) (row ∷ rows) after (between, served, rest) are =
    banks-acted layout (earlier ++ (c, row.answer) ∷ []) view cpu (n + 1) between cs rows after rest (with-free layout view (at_number cpu n) (copied_from layout earlier c) (acting layout earlier c) row.answer before row.told between served.told are)

-- the notes of one row more
pub notes-more : (cpu : Cpu) (n : ℕ) (rows : List Row) (m : ℕ) (row : Row) → m ≡ n + length rows → notes_from cpu n (rows ++ row ∷ []) ≡ notes_from cpu n rows ++ row_notes (at_number cpu m) row
notes-more cpu n [] m row is = append-nil (row_notes (at_number cpu n) row) ∙ ap (λ (k : ℕ). row_notes (at_number cpu k) row) (let same : n ≡ m = omega arith in same)
notes-more cpu n (r ∷ rs) m row is =
    ap (λ (l : List Note). row_notes (at_number cpu n) r ++ l) (notes-more cpu (n + 1) rs m row (omega arith)) ∙ sym (append_assoc (row_notes (at_number cpu n) r) (notes_from cpu (n + 1) rs) (row_notes (at_number cpu m) row))

-- after a `stopped` all answers are
pub stays-more : (rows : List Row) (last : Row) → StaysStopped rows → (HasStopped rows → last.answer ≡ answers.Stopped) → StaysStopped (rows ++ last ∷ [])
stays-more rows last stays only i j row later less first second stopped = which (at_push rows last later j second)
  where
    now : (slice_get rows i ≡ Some row) ⊎ (last ≡ row) → last.answer ≡ answers.Stopped
    now (inl early) = only (i, row, early, stopped)
    now (inr is) = ap (λ (r : Row). r.answer) is ∙ stopped

    which : (slice_get rows j ≡ Some later) ⊎ (last ≡ later) → later.answer ≡ answers.Stopped
    which (inl early) =
        let within : j < length rows = slice_get_within rows j later early in
        stays i j row later less (at_front rows (last ∷ []) i row (omega arith) first) early stopped
    which (inr is) = sym (ap (λ (r : Row). r.answer) is) ∙ now (at_push rows last row i first)

-- a `stopped` is one of the answers before, or the last
pub stopped-was : (rows : List Row) (last : Row) → HasStopped (rows ++ last ∷ []) → HasStopped rows ⊎ (last.answer ≡ answers.Stopped)
stopped-was rows last (i, row, is, stopped) = which (at_push rows last row i is)
  where
    which : (slice_get rows i ≡ Some row) ⊎ (last ≡ row) → HasStopped rows ⊎ (last.answer ≡ answers.Stopped)
    which (inl early) = inl (i, row, early, stopped)
    which (inr same) = inr (ap (λ (r : Row). r.answer) same ∙ stopped)

-- a stop by a command that is answered
pub stop-more : (layout : Layout) (cpu : Cpu) (list : List Command) (rows : List Row) (last : Row) (who : Who) → IsOwnStop layout cpu list rows who → IsOwnStop layout cpu list (rows ++ last ∷ []) who
stop-more layout cpu list rows last who own = record {
  cpu_is = own.cpu_is;
  command = own.command;
  there = own.there;
  row = own.row;
  can = own.can;
  answered = record {
    row_is = at_longer rows (last ∷ []) who.seq own.row own.answered.row_is;
    stopped = own.answered.stopped;
    first = λ i earlier less is.
        let within : who.seq < length rows = slice_get_within rows who.seq own.row own.answered.row_is in
        own.answered.first i earlier less (at_front rows (last ∷ []) i earlier (omega arith) is);
  };
}

-- a line that such a command spoiled
pub spoil-more : (cpu : Cpu) (list : List Command) (rows : List Row) (last : Row) (s : Spoiled) → IsOwnSpoil cpu list rows s → IsOwnSpoil cpu list (rows ++ last ∷ []) s
spoil-more cpu list rows last s own = record {
  cpu_is = own.cpu_is;
  there = own.there;
  row = own.row;
  row_is = at_longer rows (last ∷ []) s.stamp.who.seq own.row own.row_is;
  answered = own.answered;
}
