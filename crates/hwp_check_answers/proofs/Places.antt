-- Where the event lines of a command stand among its processor's lines.
use Rattle.std.proofs.Common.{◌≡◌, ◌⊎◌, inl, inr, ℕ, zero, suc, ◌+◌, ◌==◌, ◌&&◌, Bool, true, false, cond, List, [], ◌∷◌, ◌++◌, Some, slice_get, take, true≢false, refl, sym, ap, ◌∙◌, subst, arith}
use Rattle.std.proofs.lemmas.Bool.{cases_eq, eq-eqb, ne_eqb}
use Rattle.std.proofs.lemmas.List.Sums.{sum_by-cons}
use Rattle.std.proofs.lemmas.Option.{none-some, same_Some}
use Rattle.hwp_check_evidence.specs.hwp_report_text.declared.CpuLine.{CpuLine}
use Rattle.hwp_check_evidence.specs.hwp_report_text.declared.CpuLine.TheVariants as lines
use Rattle.hwp_check_rules.specs.hwp_check_event_line.OfCommands.{shown_from}
use Rattle.hwp_check_rules.specs.hwp_check_event_line.declared.Shown.{Shown}
use Rattle.hwp_check_rules.specs.Answered.{events_before, is_event}
use Rattle.hwp_check_rules.specs.hwp_law.Lines.{seq_of}

module _ (seq : ℕ) where
  abbrev own : CpuLine → Bool
  own l = is_event l && (seq_of l == seq)

  -- a line in front
  counted : (x : CpuLine) (xs : List CpuLine) (k : ℕ) → events_before (x ∷ xs) (suc k) seq ≡ cond (own x) 1 0 + events_before xs k seq
  counted x xs k = sum_by-cons (λ (l : CpuLine). cond (own l) 1 0) x (take k xs)

  none-before : (rows : List CpuLine) → events_before rows 0 seq ≡ 0
  none-before [] = refl
  none-before (x ∷ xs) = refl

  -- an event that is shown stands there
  pub record Stands (rows : List CpuLine) (place number : ℕ) (s : Shown) : Type 0 where
    pub k : ℕ
    pub place_is : s.place ≡ place + k
    pub there : slice_get rows k ≡ Some (lines.Event s.line)
    pub seq_is : s.line.seq ≡ seq
    pub number_is : events_before rows k seq ≡ number

  pub stands : (rows : List CpuLine) (place number : ℕ) (s : Shown) → slice_get (shown_from seq place rows) number ≡ Some s → Stands rows place number s
  stands [] place number s there = absurd (none-some s there)
  stands (lines.Answer n answer ∷ rs) place number s there =
      let rest = stands rs (place + 1) number s there in record {
        k = suc rest.k;
        place_is = let p : s.place ≡ place + 1 + rest.k = rest.place_is in omega (arith, p);
        there = rest.there;
        seq_is = rest.seq_is;
        number_is = let c : events_before (lines.Answer n answer ∷ rs) (suc rest.k) seq ≡ 0 + events_before rs rest.k seq = counted (lines.Answer n answer) rs rest.k in let m : events_before rs rest.k seq ≡ number = rest.number_is in omega (arith, c, m);
      }
  stands (lines.Offlined offlined ∷ rs) place number s there =
      let rest = stands rs (place + 1) number s there in record {
        k = suc rest.k;
        place_is = let p : s.place ≡ place + 1 + rest.k = rest.place_is in omega (arith, p);
        there = rest.there;
        seq_is = rest.seq_is;
        number_is = let c : events_before (lines.Offlined offlined ∷ rs) (suc rest.k) seq ≡ 0 + events_before rs rest.k seq = counted (lines.Offlined offlined) rs rest.k in let m : events_before rs rest.k seq ≡ number = rest.number_is in omega (arith, c, m);
      }
  stands (lines.Guest guest ∷ rs) place number s there =
      let rest = stands rs (place + 1) number s there in record {
        k = suc rest.k;
        place_is = let p : s.place ≡ place + 1 + rest.k = rest.place_is in omega (arith, p);
        there = rest.there;
        seq_is = rest.seq_is;
        number_is = let c : events_before (lines.Guest guest ∷ rs) (suc rest.k) seq ≡ 0 + events_before rs rest.k seq = counted (lines.Guest guest) rs rest.k in let m : events_before rs rest.k seq ≡ number = rest.number_is in omega (arith, c, m);
      }
  stands (lines.Event event ∷ rs) place number s there = by (cases_eq seq event.seq) (stands rs (place + 1)) number there
    where
      now : Shown
      now = record { place = place; line = event }

      count : Bool → ℕ
      count b = cond b 1 0

      raise : ℕ
      raise = count (event.seq == seq)

      -- behind the first
      later : (rest m : ℕ) → (t : Shown) → raise ≡ rest → (at : Stands rs (place + 1) m t) → Stands (lines.Event event ∷ rs) place (rest + m) t
      later rest m t is at = record {
        k = suc at.k;
        place_is = let p : t.place ≡ place + 1 + at.k = at.place_is in omega (arith, p);
        there = at.there;
        seq_is = at.seq_is;
        number_is = let c : events_before (lines.Event event ∷ rs) (suc at.k) seq ≡ raise + events_before rs at.k seq = counted (lines.Event event) rs at.k in
            let q : events_before rs at.k seq ≡ m = at.number_is in omega (arith, c, q, is);
      }

      raised : (b : Bool) → (event.seq == seq) ≡ b → raise ≡ count b
      raised b is = ap count is

      by : (seq ≡ event.seq) ⊎ (seq ≡ event.seq → ⊥) → ((m : ℕ) (t : Shown) → slice_get (shown_from seq (place + 1) rs) m ≡ Some t → Stands rs (place + 1) m t) → (m : ℕ)
          → slice_get (cond (seq == event.seq) (now ∷ []) [] ++ shown_from seq (place + 1) rs) m ≡ Some s → Stands (lines.Event event ∷ rs) place m s
      by (inl same) rest m at = here m (subst (λ (b : Bool). slice_get (cond b (now ∷ []) [] ++ shown_from seq (place + 1) rs) m ≡ Some s) (eq-eqb seq event.seq same) at)
        where
          here : (m : ℕ) → slice_get (now ∷ shown_from seq (place + 1) rs) m ≡ Some s → Stands (lines.Event event ∷ rs) place m s
          here zero is = subst (λ (t : Shown). Stands (lines.Event event ∷ rs) place 0 t) (same_Some _ _ is) (record { k = 0; place_is = let e : place ≡ place + 0 = omega arith in e; there = refl; seq_is = sym same; number_is = none-before (lines.Event event ∷ rs) })
          here (suc m) is = subst (λ (x : ℕ). Stands (lines.Event event ∷ rs) place x s) (let e : 1 + m ≡ suc m = omega arith in e) (later 1 m s (raised true (eq-eqb event.seq seq (sym same))) (rest m s is))
      by (inr other) rest m at =
          subst (λ (x : ℕ). Stands (lines.Event event ∷ rs) place x s) (let e : 0 + m ≡ m = omega arith in e)
          (later 0 m s (raised false (ne_eqb event.seq seq (λ is. other (sym is)))) (rest m s (subst (λ (b : Bool). slice_get (cond b (now ∷ []) [] ++ shown_from seq (place + 1) rs) m ≡ Some s) (ne_eqb seq event.seq other) at)))

  -- an event line is shown, by how many stand before it
  pub record IsShown (rows : List CpuLine) (place k : ℕ) : Type 0 where
    pub shown : Shown
    pub there : slice_get (shown_from seq place rows) (events_before rows k seq) ≡ Some shown
    pub place_is : shown.place ≡ place + k

  pub is-shown : (rows : List CpuLine) (place k : ℕ) (l : CpuLine) → slice_get rows k ≡ Some l → is_event l ≡ true → seq_of l ≡ seq → IsShown rows place k
  is-shown [] place k l there event is = absurd (none-some l there)
  is-shown (lines.Answer n answer ∷ rs) place zero l there event is = absurd (true≢false (sym event ∙ sym (ap is_event (same_Some _ _ there))))
  is-shown (lines.Answer n answer ∷ rs) place (suc k) l there event is =
      let rest = is-shown rs (place + 1) k l there event is in record {
        shown = rest.shown;
        there = ap (slice_get (shown_from seq (place + 1) rs)) (let c : events_before (lines.Answer n answer ∷ rs) (suc k) seq ≡ 0 + events_before rs k seq = counted (lines.Answer n answer) rs k in let e : events_before (lines.Answer n answer ∷ rs) (suc k) seq ≡ events_before rs k seq = omega (arith, c) in e) ∙ rest.there;
        place_is = let p : rest.shown.place ≡ place + 1 + k = rest.place_is in omega (arith, p);
      }
  is-shown (lines.Offlined offlined ∷ rs) place zero l there event is = absurd (true≢false (sym event ∙ sym (ap is_event (same_Some _ _ there))))
  is-shown (lines.Offlined offlined ∷ rs) place (suc k) l there event is =
      let rest = is-shown rs (place + 1) k l there event is in record {
        shown = rest.shown;
        there = ap (slice_get (shown_from seq (place + 1) rs)) (let c : events_before (lines.Offlined offlined ∷ rs) (suc k) seq ≡ 0 + events_before rs k seq = counted (lines.Offlined offlined) rs k in let e : events_before (lines.Offlined offlined ∷ rs) (suc k) seq ≡ events_before rs k seq = omega (arith, c) in e) ∙ rest.there;
        place_is = let p : rest.shown.place ≡ place + 1 + k = rest.place_is in omega (arith, p);
      }
  is-shown (lines.Guest guest ∷ rs) place zero l there event is = absurd (true≢false (sym event ∙ sym (ap is_event (same_Some _ _ there))))
  is-shown (lines.Guest guest ∷ rs) place (suc k) l there event is =
      let rest = is-shown rs (place + 1) k l there event is in record {
        shown = rest.shown;
        there = ap (slice_get (shown_from seq (place + 1) rs)) (let c : events_before (lines.Guest guest ∷ rs) (suc k) seq ≡ 0 + events_before rs k seq = counted (lines.Guest guest) rs k in let e : events_before (lines.Guest guest ∷ rs) (suc k) seq ≡ events_before rs k seq = omega (arith, c) in e) ∙ rest.there;
        place_is = let p : rest.shown.place ≡ place + 1 + k = rest.place_is in omega (arith, p);
      }
  is-shown (lines.Event line ∷ rs) place zero l there event is = record {
    shown = now;
    there = ap (λ (b : Bool). slice_get (cond b (now ∷ []) [] ++ shown_from seq (place + 1) rs) 0) (eq-eqb seq line.seq (sym is ∙ ap seq_of (sym (same_Some _ _ there))));
    place_is = let e : place ≡ place + 0 = omega arith in e;
  }
    where
      now : Shown
      now = record { place = place; line = line }
  is-shown (lines.Event line ∷ rs) place (suc k) l there event is = by (cases_eq seq line.seq) (is-shown rs (place + 1) k l there event is)
    where
      now : Shown
      now = record { place = place; line = line }

      count : (b : Bool) → (line.seq == seq) ≡ b → events_before (lines.Event line ∷ rs) (suc k) seq ≡ cond b 1 0 + events_before rs k seq
      count b at = counted (lines.Event line) rs k ∙ ap (λ (c : Bool). cond c 1 0 + events_before rs k seq) at

      by : (seq ≡ line.seq) ⊎ (seq ≡ line.seq → ⊥) → IsShown rs (place + 1) k → IsShown (lines.Event line ∷ rs) place (suc k)
      by (inl same) rest = record {
        shown = rest.shown;
        there = ap (λ (b : Bool). slice_get (cond b (now ∷ []) [] ++ shown_from seq (place + 1) rs) (events_before (lines.Event line ∷ rs) (suc k) seq)) (eq-eqb seq line.seq same)
            ∙ ap (slice_get (now ∷ shown_from seq (place + 1) rs)) (let c : events_before (lines.Event line ∷ rs) (suc k) seq ≡ 1 + events_before rs k seq = count true (eq-eqb line.seq seq (sym same)) in let e : events_before (lines.Event line ∷ rs) (suc k) seq ≡ suc (events_before rs k seq) = omega (arith, c) in e)
            ∙ rest.there;
        place_is = let p : rest.shown.place ≡ place + 1 + k = rest.place_is in omega (arith, p);
      }
      by (inr other) rest = record {
        shown = rest.shown;
        there = ap (λ (b : Bool). slice_get (cond b (now ∷ []) [] ++ shown_from seq (place + 1) rs) (events_before (lines.Event line ∷ rs) (suc k) seq)) (ne_eqb seq line.seq other)
            ∙ ap (slice_get (shown_from seq (place + 1) rs)) (let c : events_before (lines.Event line ∷ rs) (suc k) seq ≡ 0 + events_before rs k seq = count false (ne_eqb line.seq seq (λ at. other (sym at))) in let e : events_before (lines.Event line ∷ rs) (suc k) seq ≡ events_before rs k seq = omega (arith, c) in e)
            ∙ rest.there;
        place_is = let p : rest.shown.place ≡ place + 1 + k = rest.place_is in omega (arith, p);
      }
