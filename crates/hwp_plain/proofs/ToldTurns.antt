-- The lines of a log that grew, turn by turn.
use Rattle.std.proofs.Common.{◌≡◌, List, [], ◌∷◌, ◌++◌, sym, ap, ◌∙◌, subst, append_assoc, append-nil}
use Rattle.hwp_core_rule.specs.hwp_geom.Pairs.{Pairs}
use Rattle.hwp_core_rule.specs.Boards.{Played}
use Rattle.hwp_plain.specs.Order.{logged}
use Rattle.hwp_plain.specs.declared.trace_line.TraceLine.{TraceLine}
use Rattle.hwp_plain.specs.Traced.{AreTold, Tells}

-- the lines of a log that has these turns more: those of before, and one for each of the turns
record Split (turns log : List Played) (lines : List TraceLine) : Type 0 where
  pub earlier : List TraceLine
  pub later : List TraceLine
  pub all : lines ≡ earlier ++ later
  pub were : AreTold log earlier
  pub are : Pairs Tells turns later

split : (turns log : List Played) (lines : List TraceLine) → AreTold (logged turns log) lines → Split turns log lines
split [] log lines told = record { earlier = lines; later = []; all = sym (append-nil lines); were = told; are = tt }
split (p ∷ turns) log lines told =
    let rest = split turns (p ∷ log) lines told in
    let first = rest.were in
    record {
      earlier = first.0;
      later = first.1 ∷ rest.later;
      all = rest.all ∙ ap (λ (ls : List TraceLine). ls ++ rest.later) first.2 ∙ append_assoc first.0 (first.1 ∷ []) rest.later;
      were = first.4;
      are = (first.3, rest.are);
    }

-- all lines of a log that began empty
pub all-told : (turns : List Played) (lines : List TraceLine) → AreTold (logged turns []) lines → Pairs Tells turns lines
all-told turns lines told =
    let parts = split turns [] lines told in
    subst (Pairs Tells turns) (sym (parts.all ∙ ap (λ (ls : List TraceLine). ls ++ parts.later) parts.were)) parts.are
