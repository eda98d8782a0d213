-- The answers `stopped` and the stop's cause, found line by line, are as the rule of the stop says.
use Rattle.std.proofs.Common.{◌≡◌, ◌≢◌, ◌⊎◌, inl, inr, ℕ, zero, suc, ◌==◌, ◌&&◌, ◌||◌, Bool, true, false, cond, List, [], ◌∷◌, Some, slice_get, take, true≢false, refl, sym, ap, ◌∙◌, arith}
use Rattle.std.specs.List.{list_any}
use Rattle.std.proofs.lemmas.Bool.{eqb-true, eq-eqb}
use Rattle.std.proofs.lemmas.Option.{same_Some, none-some}
use Rattle.hwp_check_rules.specs.hwp_geom.declared.Frame.{Frame}
use Rattle.hwp_check_rules.specs.hwp_report_text.declared.Answer.{Answer}
use Rattle.hwp_check_rules.specs.hwp_report_text.declared.Answer.TheVariants as answers
use Rattle.hwp_check_rules.specs.hwp_report_text.declared.CpuLine.{CpuLine}
use Rattle.hwp_check_rules.specs.hwp_report_text.declared.CpuLine.TheVariants as lines
use Rattle.hwp_check_rules.specs.hwp_report_text.declared.EventLine.{EventLine}
use Rattle.hwp_check_rules.specs.hwp_report_text.Acts.{is_stopping}
use Rattle.hwp_check_rules.specs.hwp_law.Halts.{IsStoppedBy, is_panic_of}
use Rattle.hwp_check_rules.specs.hwp_law.Lines.{events_among}
use Rattle.hwp_check_rules.specs.hwp_law.Stops.{StaysStopped}
use Rattle.hwp_check_state.specs.Stopping.{goes_on, has_stopped, is_lower, is_stopped, is_stopper, rows_panic, rows_stopped_by, stays, stopped_by}

which : (b : Bool) → (b ≡ true) ⊎ (b ≡ false)
which true = inl refl
which false = inr refl

stop-only : (n : ℕ) (a : Answer) → goes_on (lines.Answer n a) ≡ false → a ≡ answers.Stopped
stop-only n answers.Stopped h = refl
stop-only n _ h = absurd (true≢false h)

other-goes : (r : CpuLine) → goes_on r ≡ true → (n : ℕ) × (a : Answer) × (r ≡ lines.Answer n a) × (a ≢ answers.Stopped)
other-goes (lines.Event event) h = absurd (true≢false (sym h))
other-goes (lines.Offlined offlined) h = absurd (true≢false (sym h))
other-goes (lines.Guest guest) h = absurd (true≢false (sym h))
other-goes (lines.Answer n a) h = (n, a, refl, λ e. absurd (true≢false (sym h ∙ ap (λ (x : Answer). goes_on (lines.Answer n x)) e)))

stopped-is : (r : CpuLine) → is_stopped r ≡ true → (n : ℕ) × (r ≡ lines.Answer n answers.Stopped)
stopped-is (lines.Event event) h = absurd (true≢false (sym h))
stopped-is (lines.Offlined offlined) h = absurd (true≢false (sym h))
stopped-is (lines.Guest guest) h = absurd (true≢false (sym h))
stopped-is (lines.Answer n answers.Stopped) h = (n, refl)
stopped-is (lines.Answer n _) h = absurd (true≢false (sym h))

-- these lines go on so: where one was `stopped` before them, each answer is
record Goes (stopped : Bool) (rows : List CpuLine) : Type 0 where
  behind : stopped ≡ true → (j n : ℕ) (answer : Answer) → slice_get rows j ≡ Some (lines.Answer n answer) → answer ≡ answers.Stopped
  within : StaysStopped rows

stays-on : (s : Bool) (rows : List CpuLine) → stays s rows ≡ true → Goes s rows
stays-on s [] h = record { behind = λ e j n a is. absurd (none-some _ is); within = λ i j m n a less one is. absurd (none-some _ one) }
stays-on s (r ∷ rs) h = elim (which (s && goes_on r)) [
  | inl halts ↦ absurd (true≢false (sym h ∙ ap (λ (b : Bool). cond b false (stays (s || is_stopped r) rs)) halts))
  | inr goes ↦
      let rest = stays-on (s || is_stopped r) rs (sym (ap (λ (b : Bool). cond b false (stays (s || is_stopped r) rs)) goes) ∙ h) in
      record { behind = behind s goes rest; within = within rest }
]
  where
    or-left : (a b : Bool) → a ≡ true → (a || b) ≡ true
    or-left true b e = refl
    or-left false b e = absurd (true≢false (sym e))

    or-right : (a b : Bool) → b ≡ true → (a || b) ≡ true
    or-right true b e = refl
    or-right false b e = e

    behind : (t : Bool) → (t && goes_on r) ≡ false → Goes (t || is_stopped r) rs → t ≡ true → (j n : ℕ) (answer : Answer) → slice_get (r ∷ rs) j ≡ Some (lines.Answer n answer) → answer ≡ answers.Stopped
    behind true goes rest e zero n answer is = stop-only n answer (ap goes_on (sym (same_Some _ _ is)) ∙ goes)
    behind false goes rest e zero n answer is = absurd (true≢false (sym e))
    behind t goes rest e (suc j) n answer is = rest.behind (or-left t (is_stopped r) e) j n answer is

    within : Goes (s || is_stopped r) rs → StaysStopped (r ∷ rs)
    within rest zero zero m n a less one is = absurd (omega arith)
    within rest zero (suc j) m n a less one is = rest.behind (or-right s (is_stopped r) (ap is_stopped (same_Some _ _ one))) j n a is
    within rest (suc i) zero m n a less one is = absurd (omega arith)
    within rest (suc i) (suc j) m n a less one is = rest.within i j m n a (omega arith) one is

on-stays : (s : Bool) (rows : List CpuLine) → Goes s rows → stays s rows ≡ true
on-stays s [] g = refl
on-stays s (r ∷ rs) g =
    ap (λ (b : Bool). cond b false (stays (s || is_stopped r) rs)) (not-on s g.behind)
    ∙ on-stays (s || is_stopped r) rs (record { behind = λ e j n a is. before s g e j n a is; within = λ i j m n a less one is. g.within (suc i) (suc j) m n a (omega arith) one is })
  where
    not-on : (t : Bool) → (t ≡ true → (j n : ℕ) (answer : Answer) → slice_get (r ∷ rs) j ≡ Some (lines.Answer n answer) → answer ≡ answers.Stopped) → (t && goes_on r) ≡ false
    not-on false all = refl
    not-on true all = elim (which (goes_on r)) [
      | inl goes ↦ let o = other-goes r goes in absurd (o.3 (all refl 0 o.0 o.1 (ap Some o.2)))
      | inr halts ↦ halts
    ]

    before : (t : Bool) → Goes t (r ∷ rs) → (t || is_stopped r) ≡ true → (j n : ℕ) (answer : Answer) → slice_get rs j ≡ Some (lines.Answer n answer) → answer ≡ answers.Stopped
    before true g e j n a is = g.behind refl (suc j) n a is
    before false g e j n a is = let o = stopped-is r e in g.within 0 (suc j) o.0 n a (omega arith) (ap Some o.1) is

-- behind its first `stopped` a processor has no other answer exactly where the scan says so
pub stays-is : (rows : List CpuLine) → (stays false rows ≡ true → StaysStopped rows) × (StaysStopped rows → stays false rows ≡ true)
stays-is rows = (λ h. (stays-on false rows h).within, λ h. on-stays false rows (record { behind = λ e. absurd (true≢false (sym e)); within = h }))

pub has-is : (rows : List CpuLine) → has_stopped rows ≡ true → (row : ℕ) × (seq : ℕ) × (slice_get rows row ≡ Some (lines.Answer seq answers.Stopped))
has-is [] h = absurd (true≢false (sym h))
has-is (r ∷ rs) h = elim (which (is_stopped r)) [
  | inl here ↦ let o = stopped-is r here in (0, o.0, ap Some o.1)
  | inr not_here ↦ let o = has-is rs (sym (ap (λ (b : Bool). b || has_stopped rs) not_here) ∙ h) in (suc o.0, o.1, o.2)
]

pub is-has : (rows : List CpuLine) (row seq : ℕ) → slice_get rows row ≡ Some (lines.Answer seq answers.Stopped) → has_stopped rows ≡ true
is-has [] row seq is = absurd (none-some _ is)
is-has (r ∷ rs) zero seq is = ap (λ (b : Bool). b || has_stopped rs) (ap is_stopped (same_Some _ _ is))
is-has (r ∷ rs) (suc row) seq is = or-right (is_stopped r) (has_stopped rs) (is-has rs row seq is)
  where
    or-right : (a b : Bool) → b ≡ true → (a || b) ≡ true
    or-right true b e = refl
    or-right false b e = e

-- the scans of a processor's lines are those of the command's event lines
pub rows-events : (seq row bank status : ℕ) (rows : List CpuLine) → rows_stopped_by seq row bank status rows ≡ stopped_by row bank status (events_among rows seq)
rows-events seq row bank status [] = refl
rows-events seq row bank status (lines.Answer s answer ∷ rs) = rows-events seq row bank status rs
rows-events seq row bank status (lines.Offlined offlined ∷ rs) = rows-events seq row bank status rs
rows-events seq row bank status (lines.Guest guest ∷ rs) = rows-events seq row bank status rs
rows-events seq row bank status (lines.Event event ∷ rs) = by (seq == event.seq) (rows-events seq row bank status rs)
  where
    by : (own : Bool) → rows_stopped_by seq row bank status rs ≡ stopped_by row bank status (events_among rs seq) → ((own && is_stopper row bank status event) || cond (own && is_lower bank event) false (rows_stopped_by seq row bank status rs)) ≡ stopped_by row bank status (cond own (event ∷ events_among rs seq) (events_among rs seq))
    by true rest = ap (λ (x : Bool). is_stopper row bank status event || cond (is_lower bank event) false x) rest
    by false rest = rest

pub rows_panics : (seq : ℕ) (frame : Frame) (rows : List CpuLine) → rows_panic seq frame rows ≡ list_any (is_panic_of frame) (events_among rows seq)
rows_panics seq frame [] = refl
rows_panics seq frame (lines.Answer s answer ∷ rs) = rows_panics seq frame rs
rows_panics seq frame (lines.Offlined offlined ∷ rs) = rows_panics seq frame rs
rows_panics seq frame (lines.Guest guest ∷ rs) = rows_panics seq frame rs
rows_panics seq frame (lines.Event event ∷ rs) = by (seq == event.seq) (rows_panics seq frame rs)
  where
    by : (own : Bool) → rows_panic seq frame rs ≡ list_any (is_panic_of frame) (events_among rs seq) → ((own && is_panic_of frame event) || rows_panic seq frame rs) ≡ list_any (is_panic_of frame) (cond own (event ∷ events_among rs seq) (events_among rs seq))
    by true rest = ap (λ (x : Bool). is_panic_of frame event || x) rest
    by false rest = rest

module _ (row bank status : ℕ) where
  record IsBy (l : EventLine) : Type 0 where
    stops : is_stopping l.acted ≡ true
    bank_is : l.bank ≡ bank
    status_is : l.status ≡ status
    row_is : l.row ≡ row

  both : (a b : Bool) → (a && b) ≡ true → (a ≡ true) × (b ≡ true)
  both true b e = (refl, e)
  both false b e = absurd (true≢false (sym e))

  stopper-is : (l : EventLine) → is_stopper row bank status l ≡ true → IsBy l
  stopper-is l h =
      let one = both (is_stopping l.acted && (l.bank == bank) && (l.status == status)) (l.row == row) h in
      let two = both (is_stopping l.acted && (l.bank == bank)) (l.status == status) one.0 in
      let three = both (is_stopping l.acted) (l.bank == bank) two.0 in
      record { stops = three.0; bank_is = eqb-true _ _ three.1; status_is = eqb-true _ _ two.1; row_is = eqb-true _ _ one.1 }

  by-stopper : (l : EventLine) → is_stopping l.acted ≡ true → l.bank ≡ bank → l.status ≡ status → l.row ≡ row → is_stopper row bank status l ≡ true
  by-stopper l stops bank_is status_is row_is =
      all (is_stopping l.acted && (l.bank == bank) && (l.status == status)) (l.row == row) (all (is_stopping l.acted && (l.bank == bank)) (l.status == status) (all (is_stopping l.acted) (l.bank == bank) stops (eq-eqb _ _ bank_is)) (eq-eqb _ _ status_is)) (eq-eqb _ _ row_is)
    where
      all : (a b : Bool) → a ≡ true → b ≡ true → (a && b) ≡ true
      all true b e f = f
      all false b e f = absurd (true≢false (sym e))

  -- the scan finds the line that stopped the machine
  pub stopped-is-by : (ls : List EventLine) → stopped_by row bank status ls ≡ true → IsStoppedBy row bank status ls
  stopped-is-by [] h = absurd (true≢false (sym h))
  stopped-is-by (l ∷ ls) h = elim (which (is_stopper row bank status l)) [
    | inl here ↦ let b = stopper-is l here in record { place = 0; line = l; there = refl; stops = b.stops; bank_is = b.bank_is; status_is = b.status_is; row_is = b.row_is; lowest = refl }
    | inr not_here ↦
        let later : cond (is_lower bank l) false (stopped_by row bank status ls) ≡ true = sym (ap (λ (x : Bool). x || cond (is_lower bank l) false (stopped_by row bank status ls)) not_here) ∙ h in
        elim (which (is_lower bank l)) [
          | inl low ↦ absurd (true≢false (sym later ∙ ap (λ (x : Bool). cond x false (stopped_by row bank status ls)) low))
          | inr high ↦
              let rest = stopped-is-by ls (sym (ap (λ (x : Bool). cond x false (stopped_by row bank status ls)) high) ∙ later) in
              record {
                place = suc rest.place;
                line = rest.line;
                there = rest.there;
                stops = rest.stops;
                bank_is = rest.bank_is;
                status_is = rest.status_is;
                row_is = rest.row_is;
                lowest = ap (λ (x : Bool). x || list_any (is_lower bank) (take rest.place ls)) high ∙ rest.lowest;
              }
        ]
  ]

  by-stopped : (ls : List EventLine) (place : ℕ) (line : EventLine) → slice_get ls place ≡ Some line → is_stopper row bank status line ≡ true → list_any (is_lower bank) (take place ls) ≡ false → stopped_by row bank status ls ≡ true
  by-stopped [] place line there is lowest = absurd (none-some _ there)
  by-stopped (l ∷ ls) zero line there is lowest = ap (λ (x : Bool). x || cond (is_lower bank l) false (stopped_by row bank status ls)) (ap (is_stopper row bank status) (same_Some _ _ there) ∙ is)
  by-stopped (l ∷ ls) (suc place) line there is lowest =
      or-right (is_stopper row bank status l) (cond (is_lower bank l) false (stopped_by row bank status ls)) (at (is_lower bank l) lowest (λ low. by-stopped ls place line there is low))
    where
      or-right : (a b : Bool) → b ≡ true → (a || b) ≡ true
      or-right true b e = refl
      or-right false b e = e

      at : (x : Bool) → (x || list_any (is_lower bank) (take place ls)) ≡ false → (list_any (is_lower bank) (take place ls) ≡ false → stopped_by row bank status ls ≡ true) → cond x false (stopped_by row bank status ls) ≡ true
      at true low more = absurd (true≢false low)
      at false low more = more low

  pub is-stopped-by : (ls : List EventLine) → IsStoppedBy row bank status ls → stopped_by row bank status ls ≡ true
  is-stopped-by ls b = by-stopped ls b.place b.line b.there (by-stopper b.line b.stops b.bank_is b.status_is b.row_is) b.lowest

-- the scan of a processor's lines says whether an event of the command stopped the machine so
pub stopped_by_is : (seq row bank status : ℕ) (rows : List CpuLine) → (rows_stopped_by seq row bank status rows ≡ true → IsStoppedBy row bank status (events_among rows seq)) × (IsStoppedBy row bank status (events_among rows seq) → rows_stopped_by seq row bank status rows ≡ true)
stopped_by_is seq row bank status rows =
    (λ h. stopped-is-by row bank status (events_among rows seq) (sym (rows-events seq row bank status rows) ∙ h), λ b. rows-events seq row bank status rows ∙ is-stopped-by row bank status (events_among rows seq) b)
