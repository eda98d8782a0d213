-- The table of the lowest lines that commands mark, command by command.
use Rattle.std.proofs.Common.{◌≡◌, ◌⊎◌, inl, inr, ℕ, ◌+◌, ◌*◌, ◌<◌, ◌≤◌, ◌==◌, min, Bool, cond, List, [], ◌∷◌, get_or, length, slice_index_or, take, refl, sym, ap, ◌∙◌, arith}
use Rattle.std.proofs.lemmas.Bool.{cases_eq, eq-eqb, ne_eqb}
use Rattle.std.proofs.lemmas.List.{get_or-set_other, get_or-set_same, length-set, take_more}
use Rattle.std.proofs.lemmas.List.Sums.{fold-append}
use Rattle.hwp_banks.specs.hwp_geom.Limits.{line_limit}
use Rattle.hwp_law.specs.hwp_script_words.declared.Command.{Command}
use Rattle.hwp_law.specs.hwp_script_words.declared.Command.TheVariants as commands
use Rattle.hwp_check_event_line.specs.Scrubs.{lowest, marked_at}
use Rattle.hwp_check_events.specs.Walked.{HasPlace, IsTableOf, noted, with_mark}
use Rattle.hwp_check_events.proofs.LowestMarks.{from-start}

low-most : (list : List Command) (place : ℕ) → lowest list place ≤ 64
low-most list place = from-start place list line_limit

-- what a noted line does to a place
noted-at : (at line : ℕ) (table : List ℕ) (place before : ℕ) → at < length table → before ≤ 64 → slice_index_or table place line_limit ≡ before → slice_index_or (noted at line table) place line_limit ≡ min before (cond (at == place) line line_limit)
noted-at at line table place before within most was = which (cases_eq at place)
  where
    which : (at ≡ place) ⊎ (at ≡ place → ⊥) → slice_index_or (noted at line table) place line_limit ≡ min before (cond (at == place) line line_limit)
    which (inl same) =
        ap (λ (n : ℕ). slice_index_or (noted at line table) n line_limit) (sym same) ∙ get_or-set_same table at (min (slice_index_or table at line_limit) line) line_limit within
        ∙ ap (λ (n : ℕ). min (slice_index_or table n line_limit) line) same ∙ ap (λ (n : ℕ). min n line) was ∙ ap (λ (b : Bool). min before (cond b line line_limit)) (sym (eq-eqb at place same))
    which (inr other) =
        get_or-set_other table at place (min (slice_index_or table at line_limit) line) line_limit (λ is. other (sym is)) ∙ was ∙ (let e : before ≡ min before 64 = omega (arith, most) in e) ∙ ap (λ (b : Bool). min before (cond b line line_limit)) (sym (ne_eqb at place other))

marks-none : (before : ℕ) → before ≤ 64 → before ≡ min before line_limit
marks-none before most = let e : before ≡ min before 64 = omega (arith, most) in e

mark-at : (command : Command) (table : List ℕ) (place before : ℕ) → HasPlace command table → before ≤ 64 → slice_index_or table place line_limit ≡ before → slice_index_or (with_mark command table) place line_limit ≡ min before (marked_at place command)
mark-at (commands.Bad frame line) table place before has most was = noted-at (2 * frame.0) line table place before (omega (arith, has)) most was
mark-at (commands.Weak frame line) table place before has most was = noted-at (2 * frame.0 + 1) line table place before has most was
mark-at _ table place before has most was = was ∙ marks-none before most

pub table-size : (command : Command) (table : List ℕ) → length (with_mark command table) ≡ length table
table-size (commands.Bad frame line) table = length-set table (2 * frame.0) (min (slice_index_or table (2 * frame.0) line_limit) line)
table-size (commands.Weak frame line) table = length-set table (2 * frame.0 + 1) (min (slice_index_or table (2 * frame.0 + 1) line_limit) line)
table-size _ table = refl

pub table-next : (list : List Command) (n : ℕ) (d : Command) (table next : List ℕ) → n < length list → HasPlace (get_or list n d) table → next ≡ with_mark (get_or list n d) table → IsTableOf (take n list) table → IsTableOf (take (n + 1) list) next
table-next list n d table next within has is so = λ place.
    ap (λ (t : List ℕ). slice_index_or t place line_limit) is ∙ mark-at (get_or list n d) table place (lowest (take n list) place) has (low-most (take n list) place) (so place)
    ∙ sym (ap (λ (l : List Command). lowest l place) (take_more list n d within) ∙ fold-append (λ (low : ℕ) (c : Command). min low (marked_at place c)) line_limit (take n list) (get_or list n d ∷ []))
