-- The lines that a scrub told of its frames: the scrubber's event stands among them exactly where its frame has a line.
use Rattle.std.proofs.Common.{◌≡◌, ℕ, zero, suc, ◌+◌, ◌*◌, ◌/◌, ◌<◌, ◌==◌, List, [], ◌∷◌, ◌++◌, Option, None, Some, slice_get, refl, sym, ap, ◌∙◌, subst, arith, true≢false}
use Rattle.std.proofs.lemmas.Option.{none-some, same_Some}
use Rattle.hwp_law_served.specs.hwp_geom.declared.Damage.{Damage}
use Rattle.hwp_law_served.specs.hwp_geom.declared.Damage.TheVariants as damages
use Rattle.hwp_law_served.specs.hwp_geom.declared.Frame.{Frame}
use Rattle.hwp_law_served.specs.hwp_geom.declared.Layout.{Layout}
use Rattle.hwp_law_served.specs.hwp_geom.declared.Who.{Who}
use Rattle.hwp_law_served.specs.hwp_banks.declared.Event.{Event}
use Rattle.hwp_law_served.specs.hwp_banks.declared.Origin.{Origin}
use Rattle.hwp_law_served.specs.hwp_banks.declared.Origin.TheVariants as origins
use Rattle.hwp_law_served.specs.hwp_banks.Events.{own_status}
use Rattle.hwp_law_served.specs.hwp_core_rule.declared.View.{View}
use Rattle.hwp_law_served.specs.hwp_core_rule.Lists.{EachMember, SomeMember}
use Rattle.hwp_law_served.specs.hwp_core_rule.Steps.{damage_place}
use Rattle.hwp_law_served.proofs.of_hwp_core_rule.Lists.{at_longer, at_map, each-weaken, map-was}
use Rattle.hwp_law_served.proofs.of_hwp_core_rule.MoreEntries.{each-append}
use Rattle.hwp_law_served.specs.hwp_banks.Banks.{Banks, held_from}
use Rattle.hwp_law_served.specs.hwp_claim.declared.Held.{Held}
use Rattle.hwp_law_served.specs.hwp_claim.declared.EventOutcome.{EventOutcome}
use Rattle.hwp_law_served.specs.hwp_claim.Events.{graded_in}
use Rattle.hwp_law_served.specs.Scrubs.{IsFoundAt}
use Rattle.hwp_law_served.specs.hwp_scrub.Visits as scrubs
use Rattle.hwp_law_served.specs.hwp_scrub.Visits.{AreBanks, AreVisits, Find, IsBadMet, IsVisit, IsWeakMet, SawLowest, Visit, left_by_bad, left_by_visit, lines_of_visit, scrub_bank, scrubbing, with_bad}
use Rattle.hwp_law_served.proofs.of_hwp_scrub.VisitLaws.{bad-leaves, left-banks}
use Rattle.hwp_law_served.specs.hwp_cpu_row.Acts.{event_at}
use Rattle.hwp_law_served.proofs.RowLines.{behind}
use Rattle.hwp_law_served.proofs.lines.ScrubBank.{bad-alone, kept-so, lone_event}

-- ---- members

-- what a bank holds, among all that the banks hold
held-at : (n : ℕ) (banks : Banks) (i : ℕ) (b : ℕ × Event) → slice_get (held_from n banks) i ≡ Some b → (j : ℕ) × (b.0 ≡ n + j) × (slice_get banks j ≡ Some (Some b.1))
held-at n [] i b there = absurd (none-some b there)
held-at n (None ∷ banks) i b there = let later = held-at (n + 1) banks i b there in (suc later.0, omega (arith, later.1), later.2)
held-at n (Some e ∷ banks) zero b there =
    let same = same_Some (n, e) b there in
    let number : n ≡ b.0 = ap (λ (x : ℕ × Event). x.0) same in
    (zero, omega (arith, number), ap (λ (x : ℕ × Event). Some (Some x.1)) same)
held-at n (Some e ∷ banks) (suc i) b there = let later = held-at (n + 1) banks i b there in (suc later.0, omega (arith, later.1), later.2)

held-has : (n : ℕ) (banks : Banks) (j m : ℕ) (e : Event) → m ≡ n + j → slice_get banks j ≡ Some (Some e) → (i : ℕ) × (slice_get (held_from n banks) i ≡ Some (m, e))
held-has n [] j m e at there = absurd (none-some (Some e) there)
held-has n (None ∷ banks) zero m e at there = absurd (none-some e (same_Some None (Some e) there))
held-has n (None ∷ banks) (suc j) m e at there = held-has (n + 1) banks j m e (omega (arith, at)) there
held-has n (Some x ∷ banks) zero m e at there =
    let number : n ≡ m = omega (arith, at) in
    (zero, ap (λ (k : ℕ). Some (k, x)) number ∙ ap (λ (y : Event). Some (m, y)) (same_Some x e (same_Some (Some x) (Some e) there)))
held-has n (Some x ∷ banks) (suc j) m e at there = let later = held-has (n + 1) banks j m e (omega (arith, at)) there in (suc later.0, later.1)

some-first : {A : Type 0} (P : A → Type 0) (xs ys : List A) → SomeMember P xs → SomeMember P (xs ++ ys)
some-first P xs ys some = (some.0, some.1, at_longer xs ys some.0 some.1 some.2, some.3)

some-second : {A : Type 0} (P : A → Type 0) (xs ys : List A) → SomeMember P ys → SomeMember P (xs ++ ys)
some-second P xs ys some = let k = behind xs ys some.0 some.1 some.2 in (k.0, some.1, k.1, some.3)

-- ---- lines of a frame

-- whose event tells a line that is damaged so
abbrev pub origin_of : Damage → Origin
origin_of damages.Bad = origins.BadLine
origin_of damages.Weak = origins.WeakLine

abbrev pub find_of : Damage → Visit → Find
find_of damages.Bad v = v.bad
find_of damages.Weak v = v.weak

pub saw-of : {layout : Layout} {view : View} {who : Who} {frame : Frame} {banks : Banks} (damage : Damage) (v : Visit) → IsVisit layout view who frame banks v → SawLowest view who (damage_place frame damage) (find_of damage v).line
saw-of damages.Bad v is = is.bad.saw
saw-of damages.Weak v is = is.weak.saw

-- an address is that of one line of one frame
one-address : (f g k n : ℕ) → k < 64 → n < 64 → f * 4096 + k * 64 ≡ g * 4096 + n * 64 → (f ≡ g) × (k ≡ n)
one-address f g k n low few same =
    let first : (f * 4096 + k * 64) / 4096 ≡ f = omega (arith, low) in
    let second : (g * 4096 + n * 64) / 4096 ≡ g = omega (arith, few) in
    let one : f ≡ g = sym first ∙ ap (λ (a : ℕ). a / 4096) same ∙ second in
    let rest : f * 4096 + k * 64 ≡ f * 4096 + n * 64 = same ∙ ap (λ (h : ℕ). h * 4096 + n * 64) (sym one) in
    (one, omega (arith, rest))

module _ (layout : Layout) (view : View) (who : Who) where
  abbrev pub Tells : Damage → Frame → ℕ → EventOutcome → Type 0
  Tells damage frame n t = IsFoundAt (origin_of damage) frame n (event_at who.seq t)

  -- what an event tells that stands alone in the scrubber's bank
  lone-tells : (own damage : Damage) (f frame : Frame) (k n : ℕ) (t : EventOutcome) → k < 64 → t.held.event ≡ lone_event (origin_of own) f k → Tells damage frame n t → (own ≡ damage) × (f.0 ≡ frame.0) × (k ≡ n)
  lone-tells damages.Bad damages.Bad f frame k n t low is tells = let one = one-address f.0 frame.0 k n low tells.within (sym (ap (λ (e : Event). e.addr) is) ∙ tells.addr) in (refl, one.0, one.1)
  lone-tells damages.Weak damages.Weak f frame k n t low is tells = let one = one-address f.0 frame.0 k n low tells.within (sym (ap (λ (e : Event). e.addr) is) ∙ tells.addr) in (refl, one.0, one.1)
  lone-tells damages.Bad damages.Weak f frame k n t low is tells =
      absurd (true≢false (sym (ap (λ (s : ℕ). s == own_status origins.WeakLine) (sym (ap (λ (e : Event). e.status.0) is) ∙ tells.status))))
  lone-tells damages.Weak damages.Bad f frame k n t low is tells =
      absurd (true≢false (sym (ap (λ (s : ℕ). s == own_status origins.BadLine) (sym (ap (λ (e : Event). e.status.0) is) ∙ tells.status))))

  -- it tells its own line
  own-tells : (own : Damage) (f : Frame) (k : ℕ) (t : EventOutcome) → k < 64 → t.held ≡ graded_in scrubbing (scrub_bank, lone_event (origin_of own) f k) → Tells own f k t
  own-tells damages.Bad f k t low is = record { within = low; bank = ap (λ (h : Held). h.bank) is; status = ap (λ (h : Held). h.event.status.0) is; addr = ap (λ (h : Held). h.event.addr) is }
  own-tells damages.Weak f k t low is = record { within = low; bank = ap (λ (h : Held). h.bank) is; status = ap (λ (h : Held). h.event.status.0) is; addr = ap (λ (h : Held). h.event.addr) is }

  -- ---- bad lines, and weak ones

  -- a line that is told so is the one that was found
  abbrev IsHere : Damage → Damage → Frame → Frame → ℕ → Option ℕ → Type 0
  IsHere own damage f frame n line = (own ≡ damage) × (f.0 ≡ frame.0) × (line ≡ Some n)

  here : (own damage : Damage) (f frame : Frame) (k n : ℕ) (t : EventOutcome) → k < 64 → t.held.event ≡ lone_event (origin_of own) f k → Tells damage frame n t → IsHere own damage f frame n (Some k)
  here own damage f frame k n t low is tells = let one = lone-tells own damage f frame k n t low is tells in (one.0, one.1, ap (λ (i : ℕ). Some i) one.2)

  bank-is : (damage : Damage) (frame : Frame) (n : ℕ) (t : EventOutcome) → Tells damage frame n t → t.held.bank ≡ scrub_bank
  bank-is damages.Bad frame n t tells = tells.bank
  bank-is damages.Weak frame n t tells = tells.bank

  pub bad-here : (damage : Damage) (f frame : Frame) (n : ℕ) (banks : Banks) → AreBanks banks → (line : Option ℕ) (lines : List EventOutcome) → SawLowest view who (damage_place f damages.Bad) line → IsBadMet layout view who f banks line lines
      → EachMember (λ (t : EventOutcome). Tells damage frame n t → IsHere damages.Bad damage f frame n line) lines
  bad-here damage f frame n banks are None lines saw none i t there tells = absurd (none-some t (sym (ap (λ (l : List EventOutcome). slice_get l i) none) ∙ there))
  bad-here damage f frame n banks are (Some k) lines saw acted i t there tells =
      let was = map-was (graded_in scrubbing) (held_from 0 (with_bad f k banks)) i t.held (sym (ap (λ (l : List Held). slice_get l i) acted.events) ∙ at_map (λ (x : EventOutcome). x.held) lines i t there) in
      let at = held-at 0 (with_bad f k banks) i was.0 was.1 in
      let number : was.0.0 ≡ t.held.bank = ap (λ (h : Held). h.bank) was.2 in
      let bank : t.held.bank ≡ 2 = bank-is damage frame n t tells in
      let second : at.0 ≡ 2 = omega (arith, number, bank, at.1) in
      let event : was.0.1 ≡ lone_event origins.BadLine f k = same_Some was.0.1 _ (same_Some (Some was.0.1) (Some (lone_event origins.BadLine f k)) (sym at.2 ∙ ap (λ (j : ℕ). slice_get (with_bad f k banks) j) second ∙ bad-alone banks are f k)) in
      here damages.Bad damage f frame k n t saw.lowest.within (sym (ap (λ (h : Held). h.event) was.2) ∙ event) tells

  weak-here : (damage : Damage) (f frame : Frame) (n : ℕ) (banks : Banks) → AreBanks banks → (line : Option ℕ) (lines : List EventOutcome) → SawLowest view who (damage_place f damages.Weak) line → IsWeakMet layout view who f banks line lines
      → EachMember (λ (t : EventOutcome). Tells damage frame n t → IsHere damages.Weak damage f frame n line) lines
  weak-here damage f frame n banks are None lines saw none i t there tells = absurd (none-some t (sym (ap (λ (l : List EventOutcome). slice_get l i) none) ∙ there))
  weak-here damage f frame n banks are (Some k) lines saw kept i t there tells =
      let one = kept-so banks are f k layout view who lines kept in
      which i one.told one.held (sym (ap (λ (l : List EventOutcome). slice_get l i) one.lines_are) ∙ there)
    where
      which : (i : ℕ) (x : EventOutcome) → x.held ≡ graded_in scrubbing (scrub_bank, lone_event origins.WeakLine f k) → slice_get (x ∷ []) i ≡ Some t → IsHere damages.Weak damage f frame n (Some k)
      which zero x held at = here damages.Weak damage f frame k n t saw.lowest.within (ap (λ (y : EventOutcome). y.held.event) (sym (same_Some x t at)) ∙ ap (λ (h : Held). h.event) held) tells
      which (suc i) x held at = absurd (none-some t at)

  -- the line that was found is told
  bad-told : (f : Frame) (k : ℕ) (banks : Banks) → AreBanks banks → (line : Option ℕ) (lines : List EventOutcome) → line ≡ Some k → SawLowest view who (damage_place f damages.Bad) line → IsBadMet layout view who f banks line lines → SomeMember (Tells damages.Bad f k) lines
  bad-told f k banks are None lines is saw met = absurd (none-some k is)
  bad-told f k banks are (Some j) lines is saw acted =
      let has = held-has 0 (with_bad f j banks) 2 2 (lone_event origins.BadLine f j) refl (bad-alone banks are f j) in
      let was = map-was (λ (t : EventOutcome). t.held) lines has.0 (graded_in scrubbing (scrub_bank, lone_event origins.BadLine f j)) (ap (λ (l : List Held). slice_get l has.0) acted.events ∙ at_map (graded_in scrubbing) (held_from 0 (with_bad f j banks)) has.0 _ has.1) in
      (has.0, was.0, was.1, subst (λ (i : ℕ). Tells damages.Bad f i was.0) (same_Some j k is) (own-tells damages.Bad f j was.0 saw.lowest.within was.2))

  weak-told : (f : Frame) (k : ℕ) (banks : Banks) → AreBanks banks → (line : Option ℕ) (lines : List EventOutcome) → line ≡ Some k → SawLowest view who (damage_place f damages.Weak) line → IsWeakMet layout view who f banks line lines → SomeMember (Tells damages.Weak f k) lines
  weak-told f k banks are None lines is saw met = absurd (none-some k is)
  weak-told f k banks are (Some j) lines is saw kept =
      let one = kept-so banks are f j layout view who lines kept in
      (0, one.told, ap (λ (l : List EventOutcome). slice_get l 0) one.lines_are, subst (λ (i : ℕ). Tells damages.Weak f i one.told) (same_Some j k is) (own-tells damages.Weak f j one.told saw.lowest.within one.held))

  -- ---- a frame

  visit-here : (damage : Damage) (f frame : Frame) (n : ℕ) (banks : Banks) → AreBanks banks → (v : Visit) → IsVisit layout view who f banks v → EachMember (λ (t : EventOutcome). Tells damage frame n t → (f.0 ≡ frame.0) × ((find_of damage v).line ≡ Some n)) (lines_of_visit v)
  visit-here damage f frame n banks are v is =
      each-append Here v.bad.lines v.weak.lines (each-weaken _ Here v.bad.lines (λ t bad tells. by-bad damage (bad tells)) (bad-here damage f frame n banks are v.bad.line v.bad.lines is.bad.saw is.bad.met))
      (each-weaken _ Here v.weak.lines (λ t weak tells. by-weak damage (weak tells)) (weak-here damage f frame n (left_by_bad v.bad.line banks) (bad-leaves v.bad.line banks are) v.weak.line v.weak.lines is.weak.saw is.weak.met))
    where
      Here : EventOutcome → Type 0
      Here t = Tells damage frame n t → (f.0 ≡ frame.0) × ((find_of damage v).line ≡ Some n)

      by-bad : (d : Damage) → IsHere damages.Bad d f frame n v.bad.line → (f.0 ≡ frame.0) × ((find_of d v).line ≡ Some n)
      by-bad d one = subst (λ (x : Damage). (f.0 ≡ frame.0) × ((find_of x v).line ≡ Some n)) one.0 (one.1, one.2)

      by-weak : (d : Damage) → IsHere damages.Weak d f frame n v.weak.line → (f.0 ≡ frame.0) × ((find_of d v).line ≡ Some n)
      by-weak d one = subst (λ (x : Damage). (f.0 ≡ frame.0) × ((find_of x v).line ≡ Some n)) one.0 (one.1, one.2)

  visit-told : (damage : Damage) (f : Frame) (k : ℕ) (banks : Banks) → AreBanks banks → (v : Visit) → IsVisit layout view who f banks v → (find_of damage v).line ≡ Some k → SomeMember (Tells damage f k) (lines_of_visit v)
  visit-told damages.Bad f k banks are v is line = some-first (Tells damages.Bad f k) v.bad.lines v.weak.lines (bad-told f k banks are v.bad.line v.bad.lines line is.bad.saw is.bad.met)
  visit-told damages.Weak f k banks are v is line =
      some-second (Tells damages.Weak f k) v.bad.lines v.weak.lines (weak-told f k (left_by_bad v.bad.line banks) (bad-leaves v.bad.line banks are) v.weak.line v.weak.lines line is.weak.saw is.weak.met)

  -- ---- frames

  -- the visit of a frame
  pub record HasVisit (m : ℕ) (visits : List Visit) (j : ℕ) (v : Visit) : Type 0 where
    pub there : slice_get visits j ≡ Some v
    pub banks : Banks
    pub are : AreBanks banks
    pub is : IsVisit layout view who (record { 0 = m + j }) banks v

  pub visit-at : (m : ℕ) (banks : Banks) (visits : List Visit) → AreBanks banks → AreVisits layout view who m banks visits → (j : ℕ) (v : Visit) → slice_get visits j ≡ Some v → HasVisit m visits j v
  visit-at m banks [] are visited j v there = absurd (none-some v there)
  visit-at m banks (w ∷ ws) are (is, rest) zero v there =
      let same : m ≡ m + 0 = omega arith in
      record { there = there; banks = banks; are = are; is = subst (IsVisit layout view who (record { 0 = m + 0 }) banks) (same_Some w v there) (subst (λ (i : ℕ). IsVisit layout view who (record { 0 = i }) banks w) same is) }
  visit-at m banks (w ∷ ws) are (is, rest) (suc j) v there =
      let later = visit-at (m + 1) (left_by_visit w banks) ws (left-banks banks (w ∷ []) are) rest j v there in
      let same : (m + 1) + j ≡ m + suc j = omega arith in
      record { there = there; banks = later.banks; are = later.are; is = subst (λ (i : ℕ). IsVisit layout view who (record { 0 = i }) later.banks v) same later.is }

  -- the visit whose line is told
  pub record IsFoundIn (damage : Damage) (frame : Frame) (n m : ℕ) (visits : List Visit) : Type 0 where
    pub j : ℕ
    pub v : Visit
    pub there : slice_get visits j ≡ Some v
    pub frame_is : m + j ≡ frame.0
    pub line_is : (find_of damage v).line ≡ Some n

  pub visits-here : (damage : Damage) (frame : Frame) (n m : ℕ) (banks : Banks) (visits : List Visit) → AreBanks banks → AreVisits layout view who m banks visits → EachMember (λ (t : EventOutcome). Tells damage frame n t → IsFoundIn damage frame n m visits) (scrubs.lines_of visits)
  visits-here damage frame n m banks [] are visited = λ i t there tells. absurd (none-some t there)
  visits-here damage frame n m banks (v ∷ vs) are (is, rest) =
      each-append In (lines_of_visit v) (scrubs.lines_of vs)
      (each-weaken _ In (lines_of_visit v) (λ t own tells. first (own tells)) (visit-here damage (record { 0 = m }) frame n banks are v is))
      (each-weaken _ In (scrubs.lines_of vs) (λ t later tells. next (later tells)) (visits-here damage frame n (m + 1) (left_by_visit v banks) vs (left-banks banks (v ∷ []) are) rest))
    where
      In : EventOutcome → Type 0
      In t = Tells damage frame n t → IsFoundIn damage frame n m (v ∷ vs)

      first : (m ≡ frame.0) × ((find_of damage v).line ≡ Some n) → IsFoundIn damage frame n m (v ∷ vs)
      first (same, line) = record { j = 0; v = v; there = refl; frame_is = omega (arith, same); line_is = line }

      next : IsFoundIn damage frame n (m + 1) vs → IsFoundIn damage frame n m (v ∷ vs)
      next one = record { j = suc one.j; v = one.v; there = one.there; frame_is = omega (arith, one.frame_is); line_is = one.line_is }

  -- and it is told
  in-lines : {P : EventOutcome → Type 0} (visits : List Visit) (j : ℕ) (v : Visit) → slice_get visits j ≡ Some v → SomeMember P (lines_of_visit v) → SomeMember P (scrubs.lines_of visits)
  in-lines [] j v there some = absurd (none-some v there)
  in-lines {P} (w ∷ ws) zero v there some = some-first P (lines_of_visit w) (scrubs.lines_of ws) (subst (λ (x : Visit). SomeMember P (lines_of_visit x)) (sym (same_Some w v there)) some)
  in-lines {P} (w ∷ ws) (suc j) v there some = some-second P (lines_of_visit w) (scrubs.lines_of ws) (in-lines ws j v there some)

  pub line-told : (damage : Damage) (k m : ℕ) (visits : List Visit) (j : ℕ) (v : Visit) → HasVisit m visits j v → (find_of damage v).line ≡ Some k → SomeMember (Tells damage (record { 0 = m + j }) k) (scrubs.lines_of visits)
  line-told damage k m visits j v has line = in-lines visits j v has.there (visit-told damage (record { 0 = m + j }) k has.banks has.are v has.is line)
