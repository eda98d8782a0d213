-- The parts of a frame's line: the lines that commands mark, the place, and the pages that are cached at the end.
use Rattle.std.proofs.Common.{◌≡◌, ◌⊎◌, ◌↔◌, inl, inr, ℕ, zero, suc, ◌^◌, ◌<◌, ◌≤◌, ◌==◌, ◌&&◌, max, Bool, true, false, not, true≢false, cond, nat_lt, List, [], ◌∷◌, Some, bit_or, length, option_map, slice_get, slice_index_or, refl, sym, ap, ◌∙◌, subst, arith}
use Rattle.std.specs.Int.{IsBitSet, bit_at}
use Rattle.std.specs.List.{Contains}
use Rattle.std.proofs.lemmas.Bool.{cases_eq, eq-eqb, eqb-true, ltb-false, ltb-true}
use Rattle.std.proofs.lemmas.Nat.{bit_set_by_shift}
use Rattle.std.proofs.lemmas.Nat.Bits.{bit_at-lt, bit_at-pow_other, bit_at-pow_same, bit_at-zero, bit_at_or, same_from_bits, shr_and_one}
use Rattle.std.proofs.lemmas.Option.{get_or_from_slice_get, slice_get-map, slice_get_within}
use Rattle.hwp_check_rules.specs.hwp_geom.Layout.{is_locked}
use Rattle.hwp_check_rules.specs.hwp_geom.declared.Frame.{Frame}
use Rattle.hwp_check_rules.specs.hwp_geom.declared.Layout.{Layout}
use Rattle.hwp_check_rules.specs.hwp_geom.declared.Page.{Page}
use Rattle.hwp_check_rules.specs.hwp_page.History.{state_after}
use Rattle.hwp_check_rules.specs.hwp_page.Step.{after, opening_of}
use Rattle.hwp_check_rules.specs.hwp_page.declared.Entry.{Entry}
use Rattle.hwp_check_rules.specs.hwp_page.declared.Met.TheVariants.{Sigbus, Word}
use Rattle.hwp_check_rules.specs.hwp_page.declared.PageState.{PageState}
use Rattle.hwp_check_rules.specs.hwp_page.declared.Situation.{Situation}
use Rattle.hwp_check_rules.specs.hwp_page.declared.Situation.TheVariants as situations
use Rattle.hwp_check_rules.specs.hwp_page.declared.What.{What}
use Rattle.hwp_check_rules.specs.hwp_page.declared.What.TheVariants as entries
use Rattle.hwp_check_rules.specs.hwp_page.Actions.{acted}
use Rattle.hwp_check_rules.proofs.of_hwp_page.Histories.{Leads-state}
use Rattle.hwp_check_rules.specs.hwp_script_words.declared.Command.{Command}
use Rattle.hwp_check_rules.specs.hwp_script_words.declared.Command.TheVariants as commands
use Rattle.hwp_check_rules.specs.hwp_script_words.declared.Script.{Script}
use Rattle.hwp_check_rules.specs.hwp_report_text.declared.FrameLine.{FrameLine}
use Rattle.hwp_check_rules.specs.hwp_report_text.declared.Whereabouts.{Whereabouts}
use Rattle.hwp_check_rules.specs.hwp_report_text.declared.Whereabouts.TheVariants as places
use Rattle.hwp_check_rules.specs.hwp_report_text.declared.Report.{Report}
use Rattle.hwp_check_rules.specs.hwp_law.Frames.{IsPlaced, WasDone}
use Rattle.hwp_check_rules.specs.hwp_law.PageHistory.{is_of}
use Rattle.hwp_check_rules.specs.Faults.{EndsIn, sayers}
use Rattle.hwp_check_state.specs.Frames.{AreDoneOf, bad_bit, cached_after, cached_by, ends_of, is_beyond, is_placed, keeps, weak_bit, with_bits}
use Rattle.hwp_check_state.proofs.SightLaws.{cons-cases, nothing}
use Rattle.std.proofs.lemmas.List.Elements.{Contains-append_right}

-- ---- bits

set-at : (a n : ℕ) → IsBitSet a n → bit_at a n ≡ 1
set-at a n set = sym (shr_and_one a n) ∙ (bit_set_by_shift a n).1 set

at-set : (a n : ℕ) → bit_at a n ≡ 1 → IsBitSet a n
at-set a n one = (bit_set_by_shift a n).0 (shr_and_one a n ∙ one)

no-bit : {P : Type 0} (n : ℕ) → IsBitSet 0 n → P
no-bit n set = let one : bit_at 0 n ≡ 1 = set-at 0 n set in let none : bit_at 0 n ≡ 0 = bit_at-zero n in absurd (omega (arith, one, none))

or-cases : (a b n : ℕ) → IsBitSet (bit_or a b) n → IsBitSet a n ⊎ IsBitSet b n
or-cases a b n set = which (bit_at a n) (bit_at b n) refl refl (bit_at-lt a n) (sym (bit_at_or a b n) ∙ set-at (bit_or a b) n set)
  where
    which : (x y : ℕ) → bit_at a n ≡ x → bit_at b n ≡ y → bit_at a n < 2 → max (bit_at a n) (bit_at b n) ≡ 1 → IsBitSet a n ⊎ IsBitSet b n
    which zero y is also less most = inr (at-set b n (omega (arith, is, most)))
    which (suc x) y is also less most = inl (at-set a n (omega (arith, is, less)))

or-left : (a b n : ℕ) → IsBitSet a n → IsBitSet (bit_or a b) n
or-left a b n set = at-set (bit_or a b) n (let one : bit_at a n ≡ 1 = set-at a n set in let less : bit_at b n < 2 = bit_at-lt b n in bit_at_or a b n ∙ (omega (arith, one, less)))

or-right : (a b n : ℕ) → IsBitSet b n → IsBitSet (bit_or a b) n
or-right a b n set = at-set (bit_or a b) n (let one : bit_at b n ≡ 1 = set-at b n set in let less : bit_at a n < 2 = bit_at-lt a n in bit_at_or a b n ∙ (omega (arith, one, less)))

pow-is : (k n : ℕ) → IsBitSet (2 ^ k) n → n ≡ k
pow-is k n set = which (cases_eq n k)
  where
    which : (n ≡ k) ⊎ (n ≡ k → ⊥) → n ≡ k
    which (inl same) = same
    which (inr other) = let one : bit_at (2 ^ k) n ≡ 1 = set-at (2 ^ k) n set in let none : bit_at (2 ^ k) n ≡ 0 = bit_at-pow_other k n other in absurd (omega (arith, one, none))

pub same-bits : (a b : ℕ) → ((n : ℕ) → IsBitSet a n ↔ IsBitSet b n) → a ≡ b
same-bits a b same = same_from_bits a b (λ n. which n (bit_at a n) (bit_at b n) refl refl)
  where
    which : (n x y : ℕ) → bit_at a n ≡ x → bit_at b n ≡ y → bit_at a n ≡ bit_at b n
    which n zero zero is also = is ∙ sym also
    which n (suc x) y is also =
        let less : bit_at a n < 2 = bit_at-lt a n in let one : bit_at a n ≡ 1 = omega (arith, is, less) in one ∙ sym (set-at b n ((same n).0 (at-set a n one)))
    which n zero (suc y) is also =
        let less : bit_at b n < 2 = bit_at-lt b n in let one : bit_at b n ≡ 1 = omega (arith, also, less) in set-at a n ((same n).1 (at-set b n one)) ∙ sym one

-- the bits that commands add
module _ (bit : Command → ℕ) (n : ℕ) where
  record HasBit (list : List Command) : Type 0 where
    command : Command
    listed : Contains list command
    set : IsBitSet (bit command) n

  bits-cases : (mask : ℕ) (list : List Command) → IsBitSet (with_bits bit mask list) n → IsBitSet mask n ⊎ HasBit list
  bits-cases mask [] set = inl set
  bits-cases mask (command ∷ rest) set = elim (bits-cases (bit_or mask (bit command)) rest set) [
    | inl both ↦ elim (or-cases mask (bit command) n both) [
      | inl old ↦ inl old
      | inr new ↦ inr (record { command = command; listed = (0, omega arith, refl); set = new })
    ]
    | inr has ↦ inr (record { command = has.command; listed = Contains-append_right (command ∷ []) rest has.command has.listed; set = has.set })
  ]

  bits-old : (mask : ℕ) (list : List Command) → IsBitSet mask n → IsBitSet (with_bits bit mask list) n
  bits-old mask [] set = set
  bits-old mask (command ∷ rest) set = bits-old (bit_or mask (bit command)) rest (or-left mask (bit command) n set)

  bits-new : (mask : ℕ) (list : List Command) (command : Command) → Contains list command → IsBitSet (bit command) n → IsBitSet (with_bits bit mask list) n
  bits-new mask [] command c set = nothing command c
  bits-new mask (first ∷ rest) command c set = elim (cons-cases first rest command c) [
    | inl same ↦ bits-old (bit_or mask (bit first)) rest (or-right mask (bit first) n (subst (λ (d : Command). IsBitSet (bit d) n) (sym same) set))
    | inr more ↦ bits-new (bit_or mask (bit first)) rest command more set
  ]

-- the frame of this number
abbrev pub frame_of : ℕ → Frame
frame_of number = record { 0 = number }

cond-set : (frame : Frame) (line number n : ℕ) → IsBitSet (cond (frame.0 == number) (2 ^ line) 0) n → (frame ≡ frame_of number) × (line ≡ n)
cond-set frame line number n set = which (frame.0 == number) refl set
  where
    which : (b : Bool) → frame.0 == number ≡ b → IsBitSet (cond b (2 ^ line) 0) n → (frame ≡ frame_of number) × (line ≡ n)
    which true same set = (λ i. record { 0 = eqb-true frame.0 number same i }, sym (pow-is line n set))
    which false other set = no-bit n set

own-set : (number n : ℕ) → IsBitSet (cond (number == number) (2 ^ n) 0) n
own-set number n = subst (λ (b : Bool). IsBitSet (cond b (2 ^ n) 0) n) (sym (eq-eqb number number refl)) (at-set (2 ^ n) n (bit_at-pow_same n))

bad-set : (number n : ℕ) (command : Command) → IsBitSet (bad_bit number command) n → command ≡ commands.Bad (frame_of number) n
bad-set number n (commands.Bad frame line) set = let both = cond-set frame line number n set in λ i. commands.Bad (both.0 i) (both.1 i)
bad-set number n command set = no-bit n set

weak-set : (number n : ℕ) (command : Command) → IsBitSet (weak_bit number command) n → command ≡ commands.Weak (frame_of number) n
weak-set number n (commands.Weak frame line) set = let both = cond-set frame line number n set in λ i. commands.Weak (both.0 i) (both.1 i)
weak-set number n command set = no-bit n set

module _ (script : Script) (report : Report) (done : List Command) (are : AreDoneOf script report done) (number : ℕ) where
  pub bad-is : (n : ℕ) → IsBitSet (with_bits (bad_bit number) 0 done) n ↔ WasDone script report (commands.Bad (frame_of number) n)
  bad-is n = (
    λ set. elim (bits-cases (bad_bit number) n 0 done set) [
      | inl none ↦ no-bit n none
      | inr has ↦ (are (commands.Bad (frame_of number) n)).0 (subst (λ (d : Command). Contains done d) (bad-set number n has.command has.set) has.listed)
    ],
    λ was. bits-new (bad_bit number) n 0 done (commands.Bad (frame_of number) n) ((are (commands.Bad (frame_of number) n)).1 was) (own-set number n),
  )

  pub weak-is : (n : ℕ) → IsBitSet (with_bits (weak_bit number) 0 done) n ↔ WasDone script report (commands.Weak (frame_of number) n)
  weak-is n = (
    λ set. elim (bits-cases (weak_bit number) n 0 done set) [
      | inl none ↦ no-bit n none
      | inr has ↦ (are (commands.Weak (frame_of number) n)).0 (subst (λ (d : Command). Contains done d) (weak-set number n has.command has.set) has.listed)
    ],
    λ was. bits-new (weak_bit number) n 0 done (commands.Weak (frame_of number) n) ((are (commands.Weak (frame_of number) n)).1 was) (own-set number n),
  )

-- ---- places

module _ (layout : Layout) where
  pub placed-is : (kernel poisoned : Bool) (place : Whereabouts) → is_placed (length layout.pages) kernel poisoned place ≡ true → IsPlaced layout kernel poisoned place
  placed-is false false places.Free is = (refl, refl)
  placed-is true poisoned places.Free is = absurd (true≢false (sym is))
  placed-is false true places.Free is = absurd (true≢false (sym is))
  placed-is kernel poisoned places.Kernel is = is
  placed-is false poisoned places.Handled is = (refl, is)
  placed-is true poisoned places.Handled is = absurd (true≢false (sym is))
  placed-is false false (places.Of page) is = (refl, refl, ltb-true page.0 (length layout.pages) is)
  placed-is true poisoned (places.Of page) is = absurd (true≢false (sym is))
  placed-is false true (places.Of page) is = absurd (true≢false (sym is))

  pub not-placed : (kernel poisoned : Bool) (place : Whereabouts) → is_placed (length layout.pages) kernel poisoned place ≡ false → IsPlaced layout kernel poisoned place → ⊥
  not-placed false false places.Free is of = true≢false is
  not-placed true poisoned places.Free is of = true≢false of.0
  not-placed false true places.Free is of = true≢false of.1
  not-placed kernel poisoned places.Kernel is of = true≢false (sym of ∙ is)
  not-placed false poisoned places.Handled is of = true≢false (sym of.1 ∙ is)
  not-placed true poisoned places.Handled is of = true≢false of.0
  not-placed false false (places.Of page) is of = let up : length layout.pages ≤ page.0 = ltb-false page.0 (length layout.pages) is in let less : page.0 < length layout.pages = of.2 in omega (arith, up, less)
  not-placed true poisoned (places.Of page) is of = true≢false of.0
  not-placed false true (places.Of page) is of = true≢false of.1

-- ---- pages that are cached at the end

act-keeps : (s : PageState) (situation : Situation) → (acted s situation).cached ≡ keeps situation s.cached
act-keeps s situations.Free = refl
act-keeps s situations.Kernel = refl
act-keeps s situations.FileClean = refl
act-keeps s situations.FileDirty = refl
act-keeps s situations.AnonOnly = refl
act-keeps s situations.SwapClean = refl
act-keeps s situations.SwapDirty = refl
act-keeps s situations.LockedClean = refl
act-keeps s situations.LockedFile = refl
act-keeps s situations.LockedAnon = refl

step-cached : (s : PageState) (what : What) → (after s what).cached ≡ cached_by s.cached what
step-cached s (entries.Load slot line met) = refl
step-cached s (entries.Store slot line (Word mask word)) = refl
step-cached s (entries.Store slot line (Sigbus thread)) = refl
step-cached s entries.FaultIn = refl
step-cached s (entries.Map slot) = refl
step-cached s (entries.Free slot) = refl
step-cached s entries.Drop = refl
step-cached s entries.Sync = refl
step-cached s entries.Out = refl
step-cached s (entries.Mce slot line mask) = refl
step-cached s (entries.Fail situation required seen signals) = act-keeps s situation
step-cached s entries.Soft = refl

after-cached : (s : PageState) (list : List Entry) → (state_after s list).cached ≡ cached_after s.cached list
after-cached s [] = refl
after-cached s (e ∷ rest) = after-cached (after s e.what) rest ∙ ap (λ (b : Bool). cached_after b rest) (step-cached s e.what)

module _ (script : Script) (report : Report) (page : Page) (state : PageState) (ends : EndsIn script report page state) where
  listed : slice_get (ends_of report) page.0 ≡ Some (cached_after false ends.entries)
  listed = slice_get-map (cached_after false) report.pages page.0 ∙ ap (option_map (cached_after false)) ends.there

  pub end-within : page.0 < length (ends_of report)
  end-within = slice_get_within (ends_of report) page.0 (cached_after false ends.entries) listed

  pub end-cached : slice_index_or (ends_of report) page.0 false ≡ state.cached
  end-cached =
      get_or_from_slice_get (ends_of report) page.0 (cached_after false ends.entries) false listed
      ∙ sym (after-cached (opening_of ends.replay.kind (is_locked script.layout page)) ends.entries)
      ∙ ap (λ (s : PageState). s.cached) (Leads-state script.layout page (opening_of ends.replay.kind (is_locked script.layout page)) state ends.entries ends.replay.leads)

-- ---- the frames that say a page

pub beyond-is : (cached : List Bool) (front : List FrameLine) (place : Whereabouts) → is_beyond cached front place ≡ true
    → (page : Page) × (is_of page place ≡ true) × (page.0 < length cached) × (cond (slice_index_or cached page.0 false) 1 0 ≤ sayers page front)
beyond-is cached front places.Free is = absurd (true≢false (sym is))
beyond-is cached front places.Kernel is = absurd (true≢false (sym is))
beyond-is cached front places.Handled is = absurd (true≢false (sym is))
beyond-is cached front (places.Of page) is = which (nat_lt page.0 (length cached)) (nat_lt (sayers page front) (cond (slice_index_or cached page.0 false) 1 0)) refl refl is
  where
    which : (a b : Bool) → nat_lt page.0 (length cached) ≡ a → nat_lt (sayers page front) (cond (slice_index_or cached page.0 false) 1 0) ≡ b → (a && not b) ≡ true
        → (p : Page) × (is_of p (places.Of page) ≡ true) × (p.0 < length cached) × (cond (slice_index_or cached p.0 false) 1 0 ≤ sayers p front)
    which true false within less both = (page, eq-eqb page.0 page.0 refl, ltb-true page.0 (length cached) within, ltb-false (sayers page front) (cond (slice_index_or cached page.0 false) 1 0) less)
    which true true within less both = absurd (true≢false (sym both))
    which false b within less both = absurd (true≢false (sym both))

pub not-beyond : (cached : List Bool) (front : List FrameLine) (place : Whereabouts) (page : Page) → is_beyond cached front place ≡ false → is_of page place ≡ true → page.0 < length cached
    → sayers page front < cond (slice_index_or cached page.0 false) 1 0
not-beyond cached front places.Free page is says within = absurd (true≢false (sym says))
not-beyond cached front places.Kernel page is says within = absurd (true≢false (sym says))
not-beyond cached front places.Handled page is says within = absurd (true≢false (sym says))
not-beyond cached front (places.Of other) page is says within = which (nat_lt page.0 (length cached)) (nat_lt (sayers page front) (cond (slice_index_or cached page.0 false) 1 0)) refl refl
    (subst (λ (p : Page). is_beyond cached front (places.Of p) ≡ false) same is)
  where
    same : other ≡ page
    same = λ i. record { 0 = eqb-true other.0 page.0 says i }

    which : (a b : Bool) → nat_lt page.0 (length cached) ≡ a → nat_lt (sayers page front) (cond (slice_index_or cached page.0 false) 1 0) ≡ b → is_beyond cached front (places.Of page) ≡ false
        → sayers page front < cond (slice_index_or cached page.0 false) 1 0
    which a true inside less none = ltb-true (sayers page front) (cond (slice_index_or cached page.0 false) 1 0) less
    which true false inside less none = absurd (true≢false (sym (λ i. inside i && not (less i)) ∙ none))
    which false false inside less none = let up : length cached ≤ page.0 = ltb-false page.0 (length cached) inside in absurd (omega (arith, up, within))
