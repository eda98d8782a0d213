-- Whether a line is that of a guest's machine check, and whether one lacks, by what was read.
use Rattle.std.proofs.Common.{◌≡◌, ◌≢◌, inl, inr, ℕ, ◌==◌, ◌&&◌, ◌||◌, cond, Bool, true, false, not, is_some, List, [], ◌∷◌, Option, Some, None, option_map, refl, sym, ap, ◌∙◌, true≢false}
use Rattle.std.specs.List.{cons_option, list_any}
use Rattle.std.specs.Option.{option_map_or}
use Rattle.std.proofs.lemmas.Bool.{cases_eq, eq-eqb, eqb-true, ne_eqb, or_parts}
use Rattle.hwp_check_rules.specs.hwp_geom.declared.Layout.{Layout}
use Rattle.hwp_check_rules.specs.hwp_geom.declared.Mode.{Mode}
use Rattle.hwp_check_rules.specs.hwp_geom.declared.Mode.TheVariants as modes
use Rattle.hwp_check_rules.specs.hwp_script_words.declared.Command.{Command}
use Rattle.hwp_check_rules.specs.hwp_report_text.declared.Answer.{Answer}
use Rattle.hwp_check_rules.specs.hwp_report_text.declared.Answer.TheVariants as answers
use Rattle.hwp_check_rules.specs.hwp_report_text.declared.CpuLine.{CpuLine}
use Rattle.hwp_check_rules.specs.hwp_report_text.declared.CpuLine.TheVariants as lines
use Rattle.hwp_check_rules.specs.hwp_report_text.declared.GuestLine.{GuestLine}
use Rattle.hwp_check_rules.specs.hwp_law.Lines.{guests_among}
use Rattle.hwp_check_rules.specs.hwp_law.declared.GuestAccess.{GuestAccess}
use Rattle.hwp_check_rules.specs.hwp_law.GuestRule.{guest_line, guest_lines, stops}
use Rattle.hwp_check_rules.specs.hwp_guest.Guests.{outcome, outcome_row}
use Rattle.hwp_check_processes.specs.Telling.{due_by, has_event, has_outcome, is_guest_of, is_line, is_told}

module _ (layout : Layout) (command : Command) (answer : Answer) where
  pub none_due : None ≡ due_by layout command answer → false ≡ is_some (due_by layout command answer)
  none_due is = ap (λ (o : Option GuestAccess). is_some o) is

  pub some_due : (a : GuestAccess) → Some a ≡ due_by layout command answer → true ≡ is_some (due_by layout command answer)
  some_due a is = ap (λ (o : Option GuestAccess). is_some o) is

  pub none_told : (seq : ℕ) (line : GuestLine) → None ≡ due_by layout command answer → false ≡ is_told layout seq command answer line
  none_told seq line is = ap (λ (o : Option GuestAccess). option_map_or (λ (a : GuestAccess). is_line seq a line) o false) is

  pub some_told : (seq : ℕ) (line : GuestLine) (a : GuestAccess) (b : Bool) → Some a ≡ due_by layout command answer → b ≡ is_line seq a line → b ≡ is_told layout seq command answer line
  some_told seq line a b is told = told ∙ ap (λ (o : Option GuestAccess). option_map_or (λ (x : GuestAccess). is_line seq x line) o false) is

-- ---- the line of an access

both : (a b : Bool) → (a && b) ≡ true → (a ≡ true) × (b ≡ true)
both true b is = (refl, is)
both false b is = absurd (true≢false (sym is))

set-not : (b : Bool) → not b ≡ true → b ≡ false
set-not true is = absurd (true≢false (sym is))
set-not false is = refl

-- what the guest makes of it, as the law has it
outcome-is : (mode : Mode) (line : GuestLine) → has_outcome mode line ≡ true → (line.row ≡ outcome_row mode) × (line.stops ≡ stops (outcome mode))
outcome-is modes.User line is = let b = both (line.row == 9) (not line.stops) is in (eqb-true line.row (outcome_row modes.User) b.0, set-not line.stops b.1)
outcome-is modes.Kernel line is = let b = both (line.row == 10) line.stops is in (eqb-true line.row (outcome_row modes.Kernel) b.0, b.1)

own-outcome : (mode : Mode) (line : GuestLine) → line.row ≡ outcome_row mode → line.stops ≡ stops (outcome mode) → has_outcome mode line ≡ true
own-outcome modes.User line row stop = ap (λ (b : Bool). b && not line.stops) (eq-eqb line.row (outcome_row modes.User) row) ∙ ap not stop
own-outcome modes.Kernel line row stop = ap (λ (b : Bool). b && line.stops) (eq-eqb line.row (outcome_row modes.Kernel) row) ∙ stop

line-is : (seq : ℕ) (a : GuestAccess) (line : GuestLine) → is_line seq a line ≡ true → guest_line seq a ≡ line
line-is seq a line is = λ i. record {
  seq = sym (eqb-true line.seq seq one.0) i;
  bank = sym (eqb-true line.bank 0 event.0) i;
  status = sym (eqb-true line.status own.status status.0) i;
  addr = sym (eqb-true line.addr own.addr addr.0) i;
  misc = sym (eqb-true line.misc own.misc addr.1) i;
  row = sym told.0 i;
  stops = sym told.1 i;
}
  where
    own : GuestLine
    own = guest_line seq a

    one : ((line.seq == seq) ≡ true) × ((has_event a line && has_outcome a.mode line) ≡ true)
    one = both (line.seq == seq) (has_event a line && has_outcome a.mode line) is

    rest : (has_event a line ≡ true) × (has_outcome a.mode line ≡ true)
    rest = both (has_event a line) (has_outcome a.mode line) one.1

    event : ((line.bank == 0) ≡ true) × (((line.status == own.status) && ((line.addr == own.addr) && (line.misc == own.misc))) ≡ true)
    event = both (line.bank == 0) ((line.status == own.status) && ((line.addr == own.addr) && (line.misc == own.misc))) rest.0

    status : ((line.status == own.status) ≡ true) × (((line.addr == own.addr) && (line.misc == own.misc)) ≡ true)
    status = both (line.status == own.status) ((line.addr == own.addr) && (line.misc == own.misc)) event.1

    addr : ((line.addr == own.addr) ≡ true) × ((line.misc == own.misc) ≡ true)
    addr = both (line.addr == own.addr) (line.misc == own.misc) status.1

    told : (line.row ≡ outcome_row a.mode) × (line.stops ≡ stops (outcome a.mode))
    told = outcome-is a.mode line rest.1

same-self : (n : ℕ) → (n == n) ≡ true
same-self n = eq-eqb n n refl

-- a line is that of its own access
own-line : (seq : ℕ) (a : GuestAccess) → is_line seq a (guest_line seq a) ≡ true
own-line seq a =
    ap (λ (b : Bool). b && (has_event a own && has_outcome a.mode own)) (same-self seq)
    ∙ ap (λ (b : Bool). b && has_outcome a.mode own)
    (ap (λ (b : Bool). b && ((own.addr == own.addr) && (own.misc == own.misc))) (same-self own.status) ∙ ap (λ (b : Bool). b && (own.misc == own.misc)) (same-self own.addr) ∙ same-self own.misc)
    ∙ own-outcome a.mode own refl refl
  where
    own : GuestLine
    own = guest_line seq a

is-line : (seq : ℕ) (a : GuestAccess) (line : GuestLine) → guest_line seq a ≡ line → is_line seq a line ≡ true
is-line seq a line is = ap (is_line seq a) (sym is) ∙ own-line seq a

-- ---- the lines that are due

abbrev first_in : GuestLine → List GuestLine → GuestLine
first_in d [] = d
first_in d (x ∷ xs) = x

abbrev is_one : List GuestLine → Bool
is_one [] = false
is_one (x ∷ xs) = true

module _ (layout : Layout) (seq : ℕ) (command : Command) where
  lines-due : (answer : Answer) → guest_lines layout seq command answer ≡ cons_option (option_map (guest_line seq) (due_by layout command answer)) []
  lines-due (answers.Sigbus at) = refl
  lines-due answer = refl

  -- the line that tells of it is the one that is due
  pub told-is : (answer : Answer) (line : GuestLine) → is_told layout seq command answer line ≡ true → guest_lines layout seq command answer ≡ line ∷ []
  told-is answer line is = lines-due answer ∙ by (due_by layout command answer) is
    where
      by : (o : Option GuestAccess) → option_map_or (λ (a : GuestAccess). is_line seq a line) o false ≡ true → cons_option (option_map (guest_line seq) o) [] ≡ line ∷ []
      by None at = absurd (true≢false (sym at))
      by (Some a) at = ap (λ (l : GuestLine). l ∷ []) (line-is seq a line at)

  pub is-told : (answer : Answer) (line : GuestLine) → guest_lines layout seq command answer ≡ line ∷ [] → is_told layout seq command answer line ≡ true
  is-told answer line is = by (due_by layout command answer) (sym (lines-due answer) ∙ is)
    where
      by : (o : Option GuestAccess) → cons_option (option_map (guest_line seq) o) [] ≡ line ∷ [] → option_map_or (λ (a : GuestAccess). is_line seq a line) o false ≡ true
      by None at = absurd (true≢false (sym (ap is_one at)))
      by (Some a) at = is-line seq a line (ap (first_in (guest_line seq a)) at)

  -- where nothing is due there is no line
  pub none-lines : (answer : Answer) → is_some (due_by layout command answer) ≡ false → guest_lines layout seq command answer ≡ []
  none-lines answer is = lines-due answer ∙ by (due_by layout command answer) is
    where
      by : (o : Option GuestAccess) → is_some o ≡ false → cons_option (option_map (guest_line seq) o) [] ≡ []
      by None at = refl
      by (Some a) at = absurd (true≢false at)

  pub some-lines : (answer : Answer) → is_some (due_by layout command answer) ≡ true → guest_lines layout seq command answer ≢ []
  some-lines answer is none = by (due_by layout command answer) is (sym (lines-due answer) ∙ none)
    where
      by : (o : Option GuestAccess) → is_some o ≡ true → cons_option (option_map (guest_line seq) o) [] ≡ [] → ⊥
      by None at gone = true≢false (sym at)
      by (Some a) at gone = true≢false (ap is_one gone)

-- ---- the guests' lines of a command

turned : (a b : ℕ) → (a == b) ≡ (b == a)
turned a b = elim (cases_eq a b) [ inl same ↦ eq-eqb a b same ∙ sym (eq-eqb b a (sym same)) | inr other ↦ ne_eqb a b other ∙ sym (ne_eqb b a (λ is. other (sym is))) ]

pub no-guest : (seq : ℕ) (rows : List CpuLine) → list_any (is_guest_of seq) rows ≡ false → guests_among rows seq ≡ []
no-guest seq [] none = refl
no-guest seq (lines.Event event ∷ rs) none = no-guest seq rs none
no-guest seq (lines.Offlined offlined ∷ rs) none = no-guest seq rs none
no-guest seq (lines.Answer s answer ∷ rs) none = no-guest seq rs none
no-guest seq (lines.Guest line ∷ rs) none =
    let parts = or_parts (line.seq == seq) (list_any (is_guest_of seq) rs) none in
    ap (λ (b : Bool). cond b (line ∷ guests_among rs seq) (guests_among rs seq)) (turned seq line.seq ∙ parts.0) ∙ no-guest seq rs parts.1

pub guest-none : (seq : ℕ) (rows : List CpuLine) → guests_among rows seq ≡ [] → list_any (is_guest_of seq) rows ≡ false
guest-none seq [] none = refl
guest-none seq (lines.Event event ∷ rs) none = guest-none seq rs none
guest-none seq (lines.Offlined offlined ∷ rs) none = guest-none seq rs none
guest-none seq (lines.Answer s answer ∷ rs) none = guest-none seq rs none
guest-none seq (lines.Guest line ∷ rs) none = by (line.seq == seq) refl (λ less. guest-none seq rs less)
  where
    by : (b : Bool) → (line.seq == seq) ≡ b → (guests_among rs seq ≡ [] → list_any (is_guest_of seq) rs ≡ false) → list_any (is_guest_of seq) (lines.Guest line ∷ rs) ≡ false
    by true same less = absurd (true≢false (ap is_one (sym (ap (λ (b : Bool). cond b (line ∷ guests_among rs seq) (guests_among rs seq)) (turned seq line.seq ∙ same)) ∙ none)))
    by false other less =
        ap (λ (b : Bool). b || list_any (is_guest_of seq) rs) other
        ∙ less (sym (ap (λ (b : Bool). cond b (line ∷ guests_among rs seq) (guests_among rs seq)) (turned seq line.seq ∙ other)) ∙ none)
