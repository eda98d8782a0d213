-- Which frames the lines of an access note: those of each machine check for themselves; a machine check that kept nothing, or stopped the
-- machine, notes none.
use Rattle.std.proofs.Common.{◌≡◌, ◌⊎◌, inl, inr, ℕ, ◌+◌, ◌≤◌, ◌==◌, ◌&&◌, ◌||◌, nat_lt, Bool, true, false, List, [], ◌∷◌, ◌++◌, Option, Some, None, filter_map, length, map, slice_get, if◌then◌else◌, append-nil, refl, sym, ap, ◌∙◌, subst, arith}
use Rattle.std.specs.List.{cons_option, list_any}
use Rattle.std.proofs.lemmas.Bool.{both_ways, eqb-true, le-ltb, or_parts}
use Rattle.std.proofs.lemmas.List.{map-append}
use Rattle.std.proofs.lemmas.Option.{same_Some}
use Rattle.hwp_law_served.specs.hwp_geom.declared.Frame.{Frame}
use Rattle.hwp_law_served.specs.hwp_geom.declared.Layout.{Layout}
use Rattle.hwp_law_served.specs.hwp_geom.declared.Mode.{Mode}
use Rattle.hwp_law_served.specs.hwp_geom.declared.Thread.{Thread}
use Rattle.hwp_law_served.specs.hwp_geom.declared.Who.{Who}
use Rattle.hwp_law_served.specs.hwp_banks.declared.Event.{Event}
use Rattle.hwp_law_served.specs.hwp_banks.declared.Origin.{Origin}
use Rattle.hwp_law_served.specs.hwp_banks.declared.Origin.TheVariants as origins
use Rattle.hwp_law_served.specs.hwp_banks.declared.Status.{Status}
use Rattle.hwp_law_served.specs.hwp_banks.Addresses.{frame_at}
use Rattle.hwp_law_served.specs.hwp_banks.Status.{is_addr_valid}
use Rattle.hwp_law_served.specs.hwp_banks.Banks.{Banks, empty_banks, held_from}
use Rattle.hwp_law_served.specs.hwp_banks.Events.{bank_count, bank_of}
use Rattle.hwp_law_served.specs.hwp_core_rule.declared.Made.{Made}
use Rattle.hwp_law_served.specs.hwp_core_rule.declared.View.{View}
use Rattle.hwp_law_served.specs.hwp_report_text.declared.EventLine.{EventLine}
use Rattle.hwp_law_served.specs.hwp_report_text.Acts.{is_panic}
use Rattle.hwp_law_served.specs.hwp_report_text.declared.Acted.TheVariants as acts
use Rattle.hwp_law_served.specs.hwp_law.Notes.{AreApart, IsRising, ends_machine, frame_of, is_for_pages, noted_frame, notes, notes_of_check}
use Rattle.hwp_cpu_row.proofs.of_hwp_law.NoteLaws.{notes-append, notes-rising}
use Rattle.hwp_law_served.specs.hwp_severity.declared.Arrival.{Arrival}
use Rattle.hwp_law_served.specs.hwp_severity.declared.McgBits.{McgBits}
use Rattle.hwp_law_served.specs.hwp_severity.declared.Severity.TheVariants as severities
use Rattle.hwp_law_served.specs.hwp_severity.Graded.{Row, first_match, graded, rows}
use Rattle.hwp_law_served.specs.hwp_claim.declared.EventOutcome.{EventOutcome}
use Rattle.hwp_law_served.specs.hwp_claim.declared.Held.{Held}
use Rattle.hwp_law_served.specs.hwp_claim.Checks.{AreChecks, Check, IsCheck, left_by, lines_of, restarting, with_own}
use Rattle.hwp_law_served.specs.hwp_claim.Events.{graded_in, held_in}
use Rattle.hwp_law_served.specs.hwp_claim.Fits.{AreTold, IsDone, IsTold}
use Rattle.hwp_law_served.specs.hwp_claim.Told.{halts, has_kept, is_kept, required_by, severity_at_once}
use Rattle.hwp_law_served.specs.hwp_cpu_row.Acts.{event_at, told_notes}
use Rattle.hwp_cpu_command.specs.hwp_cpu_access.declared.Instruction.{Instruction}
use Rattle.hwp_cpu_command.specs.hwp_cpu_access.Fits.{FitsBehind, FitsFrom, IsOfAccess}
use Rattle.hwp_cpu_command.proofs.of_hwp_cpu_access.ToldMore.{TellsOf}
use Rattle.hwp_cpu_command.proofs.of_hwp_cpu_access.InstructionLaws.{left-three, own-three}

-- ---- the banks of lines

abbrev lines : List EventOutcome → List EventLine
lines told = map (event_at 0) told

abbrev banks_in : List EventOutcome → List ℕ
banks_in told = map (λ (l : EventLine). l.bank) (lines told)

-- the numbers of the banks that hold something
abbrev numbers : Banks → List ℕ
numbers banks = map (λ (b : ℕ × Event). b.0) (held_from 0 banks)

of-held : (told : List EventOutcome) → banks_in told ≡ map (λ (h : Held). h.bank) (map (λ (t : EventOutcome). t.held) told)
of-held [] = refl
of-held (t ∷ ts) = ap (λ (l : List ℕ). t.held.bank ∷ l) (of-held ts)

of-graded : (how : Arrival) (l : List (ℕ × Event)) → map (λ (h : Held). h.bank) (map (graded_in how) l) ≡ map (λ (b : ℕ × Event). b.0) l
of-graded how [] = refl
of-graded how (b ∷ bs) = ap (λ (l : List ℕ). b.0 ∷ l) (of-graded how bs)

banks-are : (told : List EventOutcome) (how : Arrival) (banks : Banks) → map (λ (t : EventOutcome). t.held) told ≡ held_in how banks → banks_in told ≡ numbers banks
banks-are told how banks is = of-held told ∙ ap (map (λ (h : Held). h.bank)) is ∙ of-graded how (held_from 0 banks)

banks-both : (a b : List EventOutcome) → banks_in (a ++ b) ≡ banks_in a ++ banks_in b
banks-both a b = ap (map (λ (l : EventLine). l.bank)) (map-append (event_at 0) a b) ∙ map-append (λ (l : EventLine). l.bank) (lines a) (lines b)

-- ---- where one machine check ends and the next begins

-- the last bank is at least this one
abbrev Ends : ℕ → List ℕ → Type 0
Ends n [] = Unit {0}
Ends n (a ∷ []) = n ≤ a
Ends n (a ∷ b ∷ l) = Ends n (b ∷ l)

-- the first bank is this one
abbrev Starts : ℕ → List ℕ → Type 0
Starts n [] = Unit {0}
Starts n (a ∷ l) = a ≡ n

ends-zero : (l : List ℕ) → Ends 0 l
ends-zero [] = tt
ends-zero (a ∷ []) = omega arith
ends-zero (a ∷ b ∷ l) = ends-zero (b ∷ l)

ends-behind : (n : ℕ) (l : List ℕ) (a : ℕ) (m : List ℕ) → Ends n (a ∷ m) → Ends n (l ++ a ∷ m)
ends-behind n [] a m ends = ends
ends-behind n (x ∷ []) a m ends = ends
ends-behind n (x ∷ y ∷ l) a m ends = ends-behind n (y ∷ l) a m ends

apart : (n : ℕ) (a b : List EventLine) → Ends n (map (λ (l : EventLine). l.bank) a) → Starts n (map (λ (l : EventLine). l.bank) b) → AreApart a b
apart n [] b ends starts = tt
apart n (x ∷ []) [] ends starts = tt
apart n (x ∷ []) (y ∷ b) ends starts = le-ltb x.bank y.bank (let least : n ≤ x.bank = ends in let first : y.bank ≡ n = starts in omega (arith, least, first))
apart n (x ∷ z ∷ a) b ends starts = apart n (z ∷ a) b ends starts

-- with the instruction's own event the banks end at its bank or above, and where they hold nothing else they are its bank alone
record IsUpTo (n : ℕ) (l : List ℕ) : Type 0 where
  first : ℕ
  rest : List ℕ
  all : l ≡ first ∷ rest
  ends : Ends n (first ∷ rest)

own-banks : (origin : Origin) (frame : Frame) (line : ℕ) (banks : Banks) → IsOfAccess origin → length banks ≡ bank_count → IsUpTo (bank_of origin) (numbers (with_own origin frame line banks))
own-banks origins.Access frame line (a ∷ b ∷ c ∷ []) is three = record { first = 0; rest = map (λ (x : ℕ × Event). x.0) (held_from (0 + 1) (b ∷ c ∷ [])); all = refl; ends = ends-zero (0 ∷ map (λ (x : ℕ × Event). x.0) (held_from (0 + 1) (b ∷ c ∷ []))) }
own-banks origins.Fetch frame line (None ∷ b ∷ None ∷ []) is three = record { first = 1; rest = []; all = refl; ends = omega arith }
own-banks origins.Fetch frame line (None ∷ b ∷ Some c ∷ []) is three = record { first = 1; rest = 2 ∷ []; all = refl; ends = omega arith }
own-banks origins.Fetch frame line (Some a ∷ b ∷ None ∷ []) is three = record { first = 0; rest = 1 ∷ []; all = refl; ends = omega arith }
own-banks origins.Fetch frame line (Some a ∷ b ∷ Some c ∷ []) is three = record { first = 0; rest = 1 ∷ 2 ∷ []; all = refl; ends = omega arith }
own-banks origins.BadLine frame line banks is three = absurd is
own-banks origins.WeakLine frame line banks is three = absurd is
own-banks origin frame line [] is three = absurd (omega (arith, three))
own-banks origin frame line (a ∷ []) is three = absurd (omega (arith, three))
own-banks origin frame line (a ∷ b ∷ []) is three = absurd (omega (arith, three))
own-banks origin frame line (a ∷ b ∷ c ∷ d ∷ l) is three = absurd (omega (arith, three))

own-alone : (origin : Origin) (frame : Frame) (line : ℕ) → IsOfAccess origin → numbers (with_own origin frame line empty_banks) ≡ bank_of origin ∷ []
own-alone origins.Access frame line is = refl
own-alone origins.Fetch frame line is = refl
own-alone origins.BadLine frame line is = absurd is
own-alone origins.WeakLine frame line is = absurd is

module _ {layout : Layout} {view : View} {who : Who} {thread : Thread} {line : ℕ} {origin : Origin} {mode : Mode} (is : IsOfAccess origin) where
  check-ends : (banks : Banks) (c : Check) → length banks ≡ bank_count → IsCheck layout view who thread line origin mode banks c → IsUpTo (bank_of origin) (banks_in c.lines)
  check-ends banks c three has =
      let own = own-banks origin c.frame line banks is three in
      record { first = own.first; rest = own.rest; all = banks-are c.lines (restarting mode) (with_own origin c.frame line banks) has.acted_on.events ∙ own.all; ends = own.ends }

  checks-end : (banks : Banks) (c : Check) (cs : List Check) → length banks ≡ bank_count → AreChecks layout view who thread line origin mode banks (c ∷ cs) → IsUpTo (bank_of origin) (banks_in (lines_of (c ∷ cs)))
  checks-end banks c [] three are = let one = check-ends banks c three are.0 in record { first = one.first; rest = one.rest; all = ap banks_in (append-nil c.lines) ∙ one.all; ends = one.ends }
  checks-end banks c (d ∷ ds) three are =
      let one = check-ends banks c three are.0 in
      let more = checks-end empty_banks d ds refl are.1 in
      record {
        first = one.first;
        rest = one.rest ++ more.first ∷ more.rest;
        all = banks-both c.lines (lines_of (d ∷ ds)) ∙ ap (λ (l : List ℕ). l ++ banks_in (lines_of (d ∷ ds))) one.all ∙ ap (λ (l : List ℕ). (one.first ∷ one.rest) ++ l) more.all;
        ends = ends-behind (bank_of origin) (one.first ∷ one.rest) more.first more.rest more.ends;
      }

-- the lines of one machine check more note for themselves
pub notes-more : {past : List Made} {layout : Layout} {old new : View} (i : Instruction) (fits : FitsFrom past layout old i) (more : List EventOutcome) → TellsOf layout new i fits.checks more → told_notes layout (i.lines.told ++ more) ≡ told_notes layout i.lines.told ++ told_notes layout more
notes-more {past} {layout} {old} {new} i fits more tells = ap (notes layout) (map-append (event_at 0) i.lines.told more) ∙ notes-append layout (lines i.lines.told) (lines more)
    (subst (λ (l : List EventOutcome). AreApart (lines l) (lines more)) (sym fits.told_is) (which fits.checks fits.checked tells))
  where
    which : (cs : List Check) → AreChecks layout old i.request.who i.request.thread i.request.line i.origin i.mode i.before.value cs → TellsOf layout new i cs more → AreApart (lines (lines_of cs)) (lines more)
    which [] are of = tt
    which (c ∷ cs) are of =
        let all = checks-end fits.origin i.before.value c cs fits.three are in
        apart (bank_of i.origin) (lines (lines_of (c ∷ cs))) (lines more) (subst (Ends (bank_of i.origin)) (sym all.all) all.ends)
        (subst (Starts (bank_of i.origin)) (sym (banks-are more (restarting i.mode) (with_own i.origin of.frame i.request.line empty_banks) of.events ∙ own-alone i.origin of.frame i.request.line fits.origin)) refl)

-- and so do those of an access of data that its command had machine checks before
pub notes-behind : {past : List Made} {earlier : List Check} {layout : Layout} {old new : View} (i : Instruction) (fits : FitsBehind past earlier layout old i) → i.origin ≡ origins.Access → (more : List EventOutcome) → TellsOf layout new i (earlier ++ fits.checks) more
    → told_notes layout (i.lines.told ++ more) ≡ told_notes layout i.lines.told ++ told_notes layout more
notes-behind {past} {earlier} {layout} {old} {new} i fits access more tells = ap (notes layout) (map-append (event_at 0) i.lines.told more) ∙ notes-append layout (lines i.lines.told) (lines more)
    (subst (λ (l : List EventOutcome). AreApart (lines l) (lines more)) (sym fits.told_is) (which (earlier ++ fits.checks) tells))
  where
    which : (cs : List Check) → TellsOf layout new i cs more → AreApart (lines (lines_of cs)) (lines more)
    which [] of = tt
    which (c ∷ cs) of = apart 0 (lines (lines_of (c ∷ cs))) (lines more) (ends-zero (banks_in (lines_of (c ∷ cs))))
        (subst (Starts 0) (sym (banks-are more (restarting i.mode) (with_own i.origin of.frame i.request.line empty_banks) of.events ∙ ap (λ (o : Origin). numbers (with_own o of.frame i.request.line empty_banks)) access)) refl)

-- ---- what a machine check notes

-- row S4 keeps
abbrev Keeps : List Row → Type 0
Keeps [] = Unit {0}
Keeps (r ∷ rs) = (r.0 ≡ 4 → r.2 ≡ severities.Keep) × Keeps rs

match-keeps : (rs : List Row) → Keeps rs → (first_match rs).row ≡ 4 → (first_match rs).severity ≡ severities.Keep
match-keeps [] keeps is = absurd (omega (arith, is))
match-keeps (r ∷ rs) keeps is = which r.1 (match-keeps rs keeps.1) is
  where
    which : (b : Bool) → ((first_match rs).row ≡ 4 → (first_match rs).severity ≡ severities.Keep) → (if b then record { severity = r.2; row = r.0 } else first_match rs).row ≡ 4 → (if b then record { severity = r.2; row = r.0 } else first_match rs).severity ≡ severities.Keep
    which true rest is = keeps.0 is
    which false rest is = rest is

other : {A : Type 0} {n : ℕ} → (n ≡ 4 → ⊥) → n ≡ 4 → A
other apart is = absurd (apart is)

rows-keep : (s : Status) (g : McgBits) (m : Mode) → Keeps (rows s g m)
rows-keep s g m = (
  other (λ is. omega (arith, is)),
  (
    other (λ is. omega (arith, is)),
    (
      other (λ is. omega (arith, is)),
      (
        λ is. refl,
        (
          other (λ is. omega (arith, is)),
          (
            other (λ is. omega (arith, is)),
            (
              other (λ is. omega (arith, is)),
              (
                other (λ is. omega (arith, is)),
                (
                  other (λ is. omega (arith, is)),
                  (
                    other (λ is. omega (arith, is)),
                    (
                      other (λ is. omega (arith, is)),
                      (
                        other (λ is. omega (arith, is)),
                        (
                          other (λ is. omega (arith, is)),
                          tt,
                        ),
                      ),
                    ),
                  ),
                ),
              ),
            ),
          ),
        ),
      ),
    ),
  ),
)

pub graded-keeps : (s : Status) (g : McgBits) (m : Mode) → (graded s g m).row ≡ 4 → (graded s g m).severity ≡ severities.Keep
graded-keeps s g m is = match-keeps (rows s g m) (rows-keep s g m) is

-- the grades of lines are such
abbrev AreGraded : List EventOutcome → Type 0
AreGraded [] = Unit {0}
AreGraded (t ∷ ts) = (t.held.grade.row ≡ 4 → t.held.grade.severity ≡ severities.Keep) × AreGraded ts

abbrev behind : List Held → List Held
behind [] = []
behind (h ∷ hs) = hs

are-graded : (how : Arrival) (told : List EventOutcome) (l : List (ℕ × Event)) → map (λ (t : EventOutcome). t.held) told ≡ map (graded_in how) l → AreGraded told
are-graded how [] l is = tt
are-graded how (t ∷ ts) [] is = absurd (let some : length (map (λ (x : EventOutcome). x.held) (t ∷ ts)) ≡ 0 = ap length is in omega (arith, some))
are-graded how (t ∷ ts) (b ∷ bs) is = (
  subst (λ (h : Held). h.grade.row ≡ 4 → h.grade.severity ≡ severities.Keep) (sym (same_Some t.held (graded_in how b) (ap (λ (l : List Held). slice_get l 0) is))) (graded-keeps b.1.status how.mcg how.mode),
  are-graded how ts bs (ap behind is),
)

kept-act : (layout : Layout) (view : View) (who : Who) (thread : Option Thread) (held_back : Bool) (t : EventOutcome) → IsTold layout view who thread held_back t → t.held.grade.severity ≡ severities.Keep → t.acted ≡ acts.Keep
kept-act layout view who thread held_back t told keep = (subst (IsDone layout view who (required_by thread t.held.grade.severity) t) (ap (severity_at_once layout held_back (frame_at t.held.event.addr)) keep) told).0

module _ (layout : Layout) (view : View) (who : Who) (thread : Option Thread) where
  none-noted : (held_back : Bool) (told : List EventOutcome) → AreTold layout view who thread held_back told → AreGraded told → has_kept told ≡ false → filter_map (noted_frame layout) (lines told) ≡ []
  none-noted held_back [] right grades none = refl
  none-noted held_back (t ∷ ts) right grades none = ap (λ (o : Option Frame). cons_option o (filter_map (noted_frame layout) (lines ts))) (which (t.held.grade.row == 4) refl) ∙ none-noted (held_back || is_panic t.acted) ts right.1 grades.1 (or_parts (is_kept t.acted) (has_kept ts) none).1
    where
      line : EventLine
      line = event_at 0 t

      which : (b : Bool) → (t.held.grade.row == 4) ≡ b → noted_frame layout line ≡ None
      which false is = ap (λ (b : Bool). if (b && is_addr_valid (record { 0 = line.status })) && is_for_pages layout (frame_of line) then Some (frame_of line) else None) is
      which true is = absurd (both_ways (is_kept t.acted) (or_parts (is_kept t.acted) (has_kept ts) none).0 (ap is_kept (kept-act layout view who thread held_back t right.0 (grades.0 (eqb-true (t.held.grade.row) 4 is)))))

-- the lines of a machine check are of rising banks
abbrev Rising : List ℕ → Type 0
Rising [] = Unit {0}
Rising (a ∷ []) = Unit {0}
Rising (a ∷ b ∷ l) = (nat_lt a b ≡ true) × Rising (b ∷ l)

is-rising : (l : List EventLine) → Rising (map (λ (x : EventLine). x.bank) l) → IsRising l
is-rising [] rising = tt
is-rising (a ∷ []) rising = tt
is-rising (a ∷ b ∷ l) rising = (rising.0, is-rising (b ∷ l) rising.1)

numbers-rise : (banks : Banks) → length banks ≡ bank_count → Rising (numbers banks)
numbers-rise (None ∷ None ∷ None ∷ []) three = tt
numbers-rise (None ∷ None ∷ Some c ∷ []) three = tt
numbers-rise (None ∷ Some b ∷ None ∷ []) three = tt
numbers-rise (None ∷ Some b ∷ Some c ∷ []) three = (refl, tt)
numbers-rise (Some a ∷ None ∷ None ∷ []) three = tt
numbers-rise (Some a ∷ None ∷ Some c ∷ []) three = (refl, tt)
numbers-rise (Some a ∷ Some b ∷ None ∷ []) three = (refl, tt)
numbers-rise (Some a ∷ Some b ∷ Some c ∷ []) three = (refl, (refl, tt))
numbers-rise [] three = absurd (omega (arith, three))
numbers-rise (a ∷ []) three = absurd (omega (arith, three))
numbers-rise (a ∷ b ∷ []) three = absurd (omega (arith, three))
numbers-rise (a ∷ b ∷ c ∷ d ∷ l) three = absurd (omega (arith, three))

ends-same : (told : List EventOutcome) → list_any ends_machine (lines told) ≡ halts told
ends-same [] = refl
ends-same (t ∷ ts) = ap (λ (b : Bool). ends_machine (event_at 0 t) || b) (ends-same ts)

-- one behind which an instruction doesn't pause, of a processor that collects, notes nothing
pub answered-unnoted : {past : List Made} {earlier : List Check} {layout : Layout} {old new : View} (i : Instruction) (fits : FitsBehind past earlier layout old i) (more : List EventOutcome) → TellsOf layout new i (earlier ++ fits.checks) more → (halts more ≡ true) ⊎ (has_kept more ≡ false) → told_notes layout more ≡ []
answered-unnoted {past} {earlier} {layout} {old} {new} i fits more tells why = by more refl
  where
    banks : Banks
    banks = with_own i.origin tells.frame i.request.line (left_by i.before.value (earlier ++ fits.checks))

    three : length banks ≡ bank_count
    three = own-three i tells.frame (left_by i.before.value (earlier ++ fits.checks)) (left-three i.before.value (earlier ++ fits.checks) fits.three)

    rising : IsRising (lines more)
    rising = is-rising (lines more) (subst Rising (sym (banks-are more (restarting i.mode) banks tells.events)) (numbers-rise banks three))

    grades : AreGraded more
    grades = are-graded (restarting i.mode) more (held_from 0 banks) tells.events

    none : (b : Bool) (l : List Frame) → l ≡ [] → (if b then [] else l) ≡ []
    none true l is = refl
    none false l is = is

    check : notes_of_check layout (lines more) ≡ []
    check = elim why [
      | inl halted ↦ ap (λ (b : Bool). if b then [] else filter_map (noted_frame layout) (lines more)) (ends-same more ∙ halted)
      | inr unkept ↦ none (list_any ends_machine (lines more)) (filter_map (noted_frame layout) (lines more)) (none-noted layout new i.request.who (Some i.request.thread) tells.held_back more tells.told grades unkept)
    ]

    by : (l : List EventOutcome) → l ≡ more → told_notes layout l ≡ []
    by [] is = refl
    by (t ∷ ts) is = notes-rising layout (event_at 0 t) (lines ts) (subst (λ (l : List EventOutcome). IsRising (lines l)) (sym is) rising) ∙ ap (λ (l : List EventOutcome). notes_of_check layout (lines l)) is ∙ check
