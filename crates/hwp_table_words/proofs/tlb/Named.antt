-- What an entry names: the frame to which its translation leads, which is in use.
use Rattle.std.proofs.Common.{◌≡◌, ◌≢◌, ℕ, zero, suc, ◌+◌, ◌-◌, ◌/◌, ◌%◌, ◌^◌, ◌<◌, ◌≤◌, ◌==◌, ◌||◌, Bool, true, false, cond, List, [], ◌∷◌, Some, None, map, length, min, slice_get, inl, inr, refl, sym, ap, ◌∙◌, subst, arith, ne_eqb, if◌then◌else◌}
use Rattle.std.specs.Int.{from_bool}
use Rattle.std.proofs.lemmas.Bool.{eqb-true}
use Rattle.std.proofs.lemmas.Nat.{mod_below}
use Rattle.std.proofs.lemmas.Option.{none-some, same_Some, slice_get_within}
use Rattle.hwp_core_rule.specs.hwp_geom.declared.Frame.{Frame}
use Rattle.hwp_core_rule.specs.hwp_geom.declared.Layout.{Layout}
use Rattle.hwp_core_rule.specs.hwp_geom.declared.VSlot.{VSlot}
use Rattle.hwp_core_rule.specs.hwp_geom.Limits.{translation_limit}
use Rattle.hwp_core_rule.specs.hwp_words.Fields.{field}
use Rattle.hwp_core_rule.specs.hwp_words.Frames.{count_of, handled_of, is_kernel, owner_of}
use Rattle.hwp_core_rule.specs.declared.FrameInHand.{FrameInHand}
use Rattle.hwp_core_rule.specs.declared.State.{State}
use Rattle.hwp_core_rule.specs.declared.View.{View}
use Rattle.hwp_core_rule.specs.Asks.{HasInHand}
use Rattle.hwp_core_rule.specs.parts.Counts.{named}
use Rattle.hwp_core_rule.specs.parts.Owners.{NamesOwn}
use Rattle.hwp_core_rule.specs.parts.Places.{in_hand}
use Rattle.hwp_core_rule.specs.Rule.{Holds}
use Rattle.hwp_core_rule.specs.Words.{words_of, free_bit}
use Rattle.hwp_core_rule.proofs.FramesInHand.{in_hand-mine}
use Rattle.hwp_core_rule.proofs.Lists.{at_map, term-le, from_bool-same}
use Rattle.hwp_core_rule.proofs.MoveKeeps.{shaped}
use Rattle.hwp_table_words.specs.tlb.Rule.{CachesAgree, NamesInUse, Seat}
use Rattle.hwp_table_words.specs.tlb.Words.{entry_frame_field, entry_named, entry_reading, entry_slot_field, entry_word, hit_of, hit_to, is_of}

-- a member of a list that is long enough
pub at-within : {A : Type 0} (l : List A) (i : ℕ) → i < length l → (x : A) × (slice_get l i ≡ Some x)
at-within [] i less = absurd (omega (arith, less))
at-within (x ∷ xs) zero less = (x, refl)
at-within (x ∷ xs) (suc i) less = at-within xs i (omega (arith, less))

-- the frame that an entry names
pub entry-frame : (v f : ℕ) → v < 2 ^ 16 → entry_word v f / 2 ^ 20 ≡ f + 1
entry-frame v f less = omega (arith, less)

-- an entry that is read gives its translation and its frame
pub entry-read : (v f : ℕ) → v < 2 ^ 16 → f < 2 ^ 16 → (entry_reading (entry_word v f)).to ≡ Some (record { 0 = v }, record { 0 = f })
entry-read v f few small =
    let slot : field entry_slot_field (entry_word v f) ≡ v + 1 = omega (arith, few) in
    let frame : field entry_frame_field (entry_word v f) ≡ f + 1 = omega (arith, few, small) in
    let low : (v + 1 - 1) % 2 ^ 16 ≡ v = omega (arith, few) in
    let high : (f + 1 - 1) % 2 ^ 16 ≡ f = omega (arith, small) in
    (λ i. entry_named (slot i) (frame i))
    ∙ ap (λ (b : Bool). if b || (f + 1 == 0) then None else Some (pair ((v + 1 - 1) % 2 ^ 16) ((f + 1 - 1) % 2 ^ 16))) (ne_eqb (v + 1) 0 (λ e. omega (arith, e)))
    ∙ ap (λ (b : Bool). if b then None else Some (pair ((v + 1 - 1) % 2 ^ 16) ((f + 1 - 1) % 2 ^ 16))) (ne_eqb (f + 1) 0 (λ e. omega (arith, e)))
    ∙ (λ i. Some (pair (low i) (high i)))
  where
    pair : ℕ → ℕ → VSlot × Frame
    pair n m = (record { 0 = n }, record { 0 = m })

module _ (layout : Layout) (s : State) (holds : Holds layout s) where
  abbrev trans : List ℕ
  trans = (words_of layout s.words).trans

  abbrev frames : List ℕ
  frames = (words_of layout s.words).frames

  -- a translation is one of the layout
  pub slot-few : (v w : ℕ) → slice_get trans v ≡ Some w → v < 4096
  slot-few v w at =
      let inside : v < length trans = slice_get_within trans v w at in
      let wide : length trans ≡ length layout.trans = (shaped layout s holds).trans in
      let few : length layout.trans ≤ translation_limit = holds.sound.trans in
      omega (arith, inside, wide, few)

  -- a translation that leads to a frame leads to one that a page owns
  pub leads-own : (v f : ℕ) → f < 2 ^ 16 → slice_get trans v ≡ Some (f + 1) → (q : ℕ) × NamesOwn frames q (f + 1)
  leads-own v f small at =
      let inside : v < length layout.trans = subst (λ (n : ℕ). v < n) (shaped layout s holds).trans (slice_get_within trans v (f + 1) at) in
      let decl = at-within layout.trans v inside in
      elim (holds.rule.pages.translations.owned v (f + 1) decl.0 at decl.1) [
        | inl none ↦ absurd (omega (arith, none))
        | inr some ↦ elim some [
          | inl poison ↦ absurd (omega (arith, poison, small))
          | inr names ↦ (decl.0.page.0, names)
        ]
      ]

  -- and so to one of the board
  pub leads-there : (v f : ℕ) → f < 2 ^ 16 → slice_get trans v ≡ Some (f + 1) → (w : ℕ) × (slice_get frames f ≡ Some w) × (0 < owner_of w)
  leads-there v f small at =
      let own = leads-own v f small at in
      let same : own.1.frame ≡ f = let named : f + 1 ≡ own.1.frame + 1 = own.1.named in omega (arith, named) in
      (own.1.owner_word, ap (slice_get frames) (sym same) ∙ own.1.there, let owned : owner_of own.1.owner_word ≡ own.0 + 1 = own.1.owned in omega (arith, owned))

  -- a translation that names a frame is counted
  pub leads-counted : (v f w : ℕ) → slice_get trans v ≡ Some (f + 1) → slice_get frames f ≡ Some w → 0 < count_of w
  leads-counted v f w at there =
      let balance = holds.rule.frames.counts.balance f w there in
      let one : from_bool (f + 1 == f + 1) ≡ 1 = from_bool-same (f + 1) (f + 1) refl in
      let more : from_bool (f + 1 == f + 1) ≤ named f trans = term-le (λ (n : ℕ). from_bool (n == f + 1)) trans v (f + 1) at in
      omega (arith, balance, one, more)

  module _ (ways : ℕ) (entries : List ℕ) (seats : List Seat) (h : CachesAgree ways layout s entries seats) where
    -- an entry that names a frame is that of a translation that leads to it
    pub entry-leads : (i w f : ℕ) → slice_get entries i ≡ Some w → is_of f w ≡ true → (v : ℕ) × (w ≡ entry_word v f) × (f < 2 ^ 16) × (i % ways ≡ v % ways) × (slice_get trans v ≡ Some (f + 1))
    entry-leads i w f at names = elim (h.lead i w at) [
      | inl none ↦ absurd (let is : w / 2 ^ 20 ≡ f + 1 = eqb-true (w / 2 ^ 20) (f + 1) names in omega (arith, is, none))
      | inr leads ↦
          let few : leads.slot < 4096 = slot-few leads.slot (leads.frame + 1) leads.leads in
          let is : w / 2 ^ 20 ≡ f + 1 = eqb-true (w / 2 ^ 20) (f + 1) names in
          let word : w / 2 ^ 20 ≡ leads.frame + 1 = ap (λ (n : ℕ). n / 2 ^ 20) leads.word_is ∙ entry-frame leads.slot leads.frame (omega (arith, few)) in
          let same : leads.frame ≡ f = omega (arith, is, word) in
          (leads.slot, leads.word_is ∙ ap (entry_word leads.slot) same, subst (λ (n : ℕ). n < 2 ^ 16) same leads.fits, leads.place_is, leads.leads ∙ ap (λ (n : ℕ). Some (n + 1)) same)
    ]

    -- an entry of a translation names the frame to which the translation leads
    pub hit-word : (i w : ℕ) (v : VSlot) (f : Frame) → slice_get entries i ≡ Some w → hit_of v w ≡ Some f → slice_get trans v.0 ≡ Some (f.0 + 1)
    hit-word i w v f at hits = elim (h.lead i w at) [
      | inl none ↦ absurd (none-some f (ap (hit_of v) (sym none) ∙ hits))
      | inr leads ↦
          let few : leads.slot < 4096 = slot-few leads.slot (leads.frame + 1) leads.leads in
          let read : hit_to v (Some (record { 0 = leads.slot }, record { 0 = leads.frame })) ≡ Some f =
          ap (hit_to v) (sym (entry-read leads.slot leads.frame (omega (arith, few)) leads.fits)) ∙ ap (hit_of v) (sym leads.word_is) ∙ hits in
          which leads.slot leads.frame leads.leads (leads.slot == v.0) refl read
    ]
      where
        which : (slot frame : ℕ) → slice_get trans slot ≡ Some (frame + 1) → (b : Bool) → (slot == v.0) ≡ b → cond b (Some (record { 0 = frame })) None ≡ Some f → slice_get trans v.0 ≡ Some (f.0 + 1)
        which slot frame leads true is e = ap (slice_get trans) (sym (eqb-true slot v.0 is)) ∙ leads ∙ ap (λ (g : Frame). Some (g.0 + 1)) (same_Some (record { 0 = frame }) f e)
        which slot frame leads false isnt e = absurd (none-some f e)

    -- the frame that an entry names is in use: it is not handled, and something refers to it
    pub none-handled : NamesInUse layout s entries
    none-handled i w f at names =
        let leads = entry-leads i w f at names in
        let there = leads-there leads.0 f leads.2 leads.4 in
        record { word = there.0; there = there.1; unhandled = unhandled f there.0 there.1 there.2; counted = leads-counted leads.0 f there.0 leads.4 there.1 }
      where
        unhandled : (f word : ℕ) → slice_get frames f ≡ Some word → 0 < owner_of word → handled_of word ≡ 0
        unhandled f word at owned = which (handled_of word) refl
          where
            below : handled_of word < 2 ^ 1
            below = mod_below (word / 2 ^ 2) (2 ^ 1) (omega arith)

            out : handled_of word ≡ 1 → owner_of word ≡ 0
            out is = (holds.rule.failures.handled.out f word at is).unowned

            which : (n : ℕ) → handled_of word ≡ n → handled_of word ≡ 0
            which zero is = is
            which (suc n) is = let none : owner_of word ≡ 0 = out (omega (arith, is, below)) in absurd (omega (arith, none, owned))

  -- no translation leads to a frame in hand
  pub in-hand-unnamed : (c : ℕ) (u : View) (frame : Frame) → slice_get s.views c ≡ Some u → HasInHand u frame → (v : ℕ) → slice_get trans v ≢ Some (frame.0 + 1)
  in-hand-unnamed c u frame me has v at = which (is_kernel word) refl
    where
      hands : List (List FrameInHand)
      hands = map (λ (v : View). v.hands) s.views

      mine : slice_get hands c ≡ Some u.hands
      mine = at_map (λ (v : View). v.hands) s.views c u me

      held : 1 ≤ in_hand frame.0 hands
      held = in_hand-mine hands c u.hands mine has.1 frame has.3 has.0 has.2

      handed : (word : ℕ) × (slice_get frames frame.0 ≡ Some word)
      handed = let is = holds.rule.frames.places.handed c u.hands mine has.0 has.1 has.2 in (is.word, ap (λ (f : Frame). slice_get frames f.0) (sym has.3) ∙ is.there)

      word : ℕ
      word = handed.0

      counted : 0 < count_of word
      counted = leads-counted v frame.0 word at handed.1

      which : (b : Bool) → is_kernel word ≡ b → ⊥
      which true is = let none : in_hand frame.0 hands ≡ 0 = (holds.rule.frames.places.kernels frame.0 word handed.1 is).unhanded in omega (arith, none, held)
      which false isnt = let one : free_bit (words_of layout s.words).frees frame.0 + in_hand frame.0 hands + min (count_of word) 1 ≡ 1 = holds.rule.frames.places.placed frame.0 word handed.1 isnt in
          omega (arith, one, held, counted)
