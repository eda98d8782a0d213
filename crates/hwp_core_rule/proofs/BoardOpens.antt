-- A board of a sound layout at opening keeps the frame rule.
use Rattle.std.proofs.Common.{◌≡◌, ◌≢◌, inl, inr, ℕ, zero, suc, ◌+◌, ◌-◌, ◌*◌, ◌%◌, ◌^◌, ◌<◌, ◌≤◌, ◌==◌, ◌&&◌, nat_lt, Bool, true, false, true≢false, not, cond, List, [], ◌∷◌, Option, Some, None, map, length, replicate, take, slice_get, refl, sym, ap, ◌∙◌, subst, arith, ne_eqb}
use Rattle.std.specs.List.{sum_by}
use Rattle.std.specs.Int.{from_bool, bit_at}
use Rattle.std.proofs.Math.Nat.{zero-div}
use Rattle.std.proofs.lemmas.Bool.{le-ltb}
use Rattle.std.proofs.lemmas.List.{length-append, length-map, length-replicate}
use Rattle.std.proofs.lemmas.List.Sums.{sum_by-cons, sum_by_push, sum_by-append}
use Rattle.std.proofs.lemmas.Option.{none-some, same_Some, slice_get_within}
use Rattle.hwp_page.specs.hwp_geom.declared.Layout.{Layout}
use Rattle.hwp_page.specs.hwp_geom.declared.PageKind.{PageKind}
use Rattle.hwp_page.specs.hwp_geom.Limits.{command_limit}
use Rattle.hwp_page.specs.hwp_geom.Layout.{IsSound, is_locked}
use Rattle.std.specs.Ordering.{nat_cmp}
use Rattle.hwp_words.specs.Translations.{pte_word}
use Rattle.hwp_words.specs.Frames.{poison_of, count_of, owner_of, lock_of, handled_of}
use Rattle.hwp_core_rule.specs.declared.log.Log.{Log}
use Rattle.hwp_core_rule.specs.declared.view.View.{View}
use Rattle.hwp_core_rule.specs.Lists.{Homes, EachMember, EachListed, EachBody, of_home, sum_all}
use Rattle.hwp_core_rule.specs.Logs.{opening_at, fitting_word, state_of, losses_of, file_of}
use Rattle.hwp_core_rule.specs.Opening.{below, opening_frame, opening_free, opening_log, opening_homes, opening_view, opening_words, opening_available, opening_policy, opening}
use Rattle.hwp_core_rule.specs.Rule.{FrameRule, Holds, holder_of, holdings_of, losing_of, count_debts_of}
use Rattle.hwp_core_rule.specs.Words.{Words, words_of, free_words, free_bit, sum_below}
use Rattle.hwp_core_rule.specs.Views.{refs_on, locks_on, page_locks_on}
use Rattle.hwp_core_rule.specs.parts.Counts.{named}
use Rattle.hwp_core_rule.specs.parts.Bodies.{Holder, IsHolding}
use Rattle.hwp_core_rule.proofs.Lists.{at_longer, at_map, same-or, same-number, each-map, sum-map, sum-zero}
use Rattle.hwp_core_rule.specs.parts.Places.{in_hand, IsBare, IsHanded}
use Rattle.hwp_core_rule.specs.parts.Locks.{IsLocked}
use Rattle.hwp_core_rule.specs.parts.Counter.{CounterAgrees, IsCovered, SomeHardware, is_by_hardware, is_poisoning, is_revival, CountDebts}
use Rattle.hwp_core_rule.specs.parts.Damage.{DamageListed, is_spoil}
use Rattle.hwp_core_rule.specs.parts.Entries.{EntriesListed, HasSeen, AreInOrder, weigh, Reaches}
use Rattle.hwp_core_rule.specs.parts.Endings.{EndingsAgree, AreEnded, ShowsEnding}
use Rattle.hwp_core_rule.specs.parts.Marks.{MarksAlternate, IsBefore, revivals_by}
use Rattle.hwp_core_rule.specs.parts.Losses.{LossesBalance, Losing, IsPoisonLoss, IsSeenLoss, made_of, owed_of}
use Rattle.hwp_core_rule.specs.parts.Policies.{PoliciesListed, PolicyAgrees, IsSetByOwn, IsOf, settings_of, policy_after}
use Rattle.hwp_core_rule.specs.parts.Exhaustion.{usable, is_marked}
use Rattle.hwp_core_rule.specs.parts.Stops.{EndingsAndStopsStay}
use Rattle.hwp_core_rule.specs.parts.Fits.{PageFits, Fits, KnowsWords, KnowsOwn}
use Rattle.hwp_core_rule.specs.parts.Holdings.{IsBounded, ProcessorsApart, AreOwn, IsPast, HoldsNothing}
use Rattle.hwp_words.specs.Counters.{hardware_of, biased_poisoned_of}
use Rattle.hwp_words.specs.Stops.{stopper_of}
use Rattle.hwp_core_rule.specs.declared.view.Ref.{Ref}
use Rattle.hwp_core_rule.specs.declared.view.FrameLock.{FrameLock}
use Rattle.hwp_core_rule.specs.declared.view.PageLock.{PageLock}
use Rattle.hwp_core_rule.specs.declared.view.InHand.{InHand}
use Rattle.hwp_core_rule.specs.declared.view.Mark.{Mark}
use Rattle.hwp_core_rule.specs.declared.view.Made.{Made}
use Rattle.hwp_core_rule.specs.declared.view.Sight.{Sight}
use Rattle.hwp_core_rule.specs.declared.view.Length.{Length}
use Rattle.hwp_core_rule.specs.declared.view.Spoiled.{Spoiled}
use Rattle.hwp_core_rule.specs.declared.view.Setting.{Setting}
use Rattle.hwp_core_rule.specs.declared.view.Part.{Part}
use Rattle.hwp_page.specs.hwp_geom.declared.Cpu.{Cpu}
use Rattle.hwp_page.specs.hwp_geom.declared.FileNo.{FileNo}
use Rattle.hwp_page.specs.hwp_geom.declared.Proc.{Proc}
use Rattle.hwp_page.specs.hwp_geom.declared.Who.{Who}
use Rattle.hwp_page.specs.Endings.{has_ending}
use Rattle.hwp_page.specs.Losses.{is_same_file}
use Rattle.std.specs.FinSet as set
use Rattle.hwp_words.specs.declared.Pte.TheVariants as ptes
use Rattle.hwp_core_rule.specs.declared.shared_word.SharedWord.TheVariants as places
use Rattle.hwp_core_rule.proofs.WordsOpen
use Rattle.hwp_core_rule.specs.declared.view.FrameInHand.{FrameInHand}

-- the words at opening
pub record AreOpening (layout : Layout) (w : Words) : Type 0 where
  pub frames : w.frames ≡ map opening_frame layout.kernel
  pub trans : w.trans ≡ replicate (length layout.trans) 0
  pub caches : w.caches ≡ replicate (length layout.pages) 0
  pub pages : w.pages ≡ replicate (length layout.pages) 0
  pub frees : w.frees ≡ map (opening_free layout) (below (free_words layout))
  pub available : w.available ≡ opening_available layout
  pub bads : w.bads ≡ replicate layout.frames 0
  pub weaks : w.weaks ≡ replicate layout.frames 0
  pub counter : w.counter ≡ 0
  pub processes : w.processes ≡ replicate layout.procs 0
  pub policies : w.policies ≡ replicate (length layout.threads) opening_policy
  pub losses : w.losses ≡ replicate layout.files 0
  pub stop : w.stop ≡ 0

are-opening : (layout : Layout) → IsSound layout → AreOpening layout (words_of layout (opening_words layout))
are-opening layout sound = record {
  frames = WordsOpen.opening-frames layout sound;
  trans = WordsOpen.opening-trans layout sound;
  caches = WordsOpen.opening-caches layout sound;
  pages = WordsOpen.opening-pages layout sound;
  frees = WordsOpen.opening-frees layout sound;
  available = WordsOpen.opening-available layout sound;
  bads = WordsOpen.opening-bads layout sound;
  weaks = WordsOpen.opening-weaks layout sound;
  counter = WordsOpen.opening-counter layout sound;
  processes = WordsOpen.opening-processes layout sound;
  policies = WordsOpen.opening-policies layout sound;
  losses = WordsOpen.opening-losses layout sound;
  stop = WordsOpen.opening-stop layout sound;
}

-- no member of no list
each-none : {A : Type 0} (P : A → Type 0) → EachMember P []
each-none P i x e = absurd (none-some x e)

unequal : (n m : ℕ) → n ≢ m → (n == m) ≡ false
unequal n m other = ne_eqb n m other

-- no word of zeros names a frame
named-zeros : (f n : ℕ) → named f (replicate n 0) ≡ 0
named-zeros f n = sum-zero (λ (w : ℕ). from_bool (w == f + 1)) (replicate n 0) (λ i x e. ap from_bool (unequal x (f + 1) (let is : x ≡ 0 = WordsOpen.zeros-are n x i e in λ h. omega arith)))

-- the slots of the frames, and the shelves
abbrev empties : Layout → Homes
empties layout = replicate layout.frames (Some None)

abbrev shelves : Layout → Homes
shelves layout = map (λ (q : ℕ). Some (Some (opening_log q))) (below (length layout.pages))

-- the slots at opening: those of the frames are empty, and the shelves have the bodies
frame-home : (layout : Layout) (f : ℕ) → f < layout.frames → slice_get (opening_homes layout) f ≡ Some (Some None)
frame-home layout f less = at_longer (empties layout) (shelves layout) f (Some None) (WordsOpen.replicate-at layout.frames (Some None) f less)

shelf-home : (layout : Layout) (q : ℕ) → q < length layout.pages → slice_get (opening_homes layout) (layout.frames + q) ≡ Some (Some (Some (opening_log q)))
shelf-home layout q less =
    WordsOpen.get-past (empties layout) (shelves layout) (layout.frames + q) q (ap (λ (n : ℕ). n + q) (sym (length-replicate layout.frames (Some None))))
    ∙ at_map (λ (q : ℕ). Some (Some (opening_log q))) (below (length layout.pages)) q q (WordsOpen.below-at (length layout.pages) q less)

pub homes-length : (layout : Layout) → length (opening_homes layout) ≡ layout.frames + length layout.pages
homes-length layout =
    let both : length (opening_homes layout) ≡ length (empties layout) + length (shelves layout) = length-append (empties layout) (shelves layout) in
    let first : length (empties layout) ≡ layout.frames = length-replicate layout.frames (Some None) in
    let second : length (shelves layout) ≡ length (below (length layout.pages)) = length-map (below (length layout.pages)) (λ (q : ℕ). Some (Some (opening_log q))) in
    let third : length (below (length layout.pages)) ≡ length layout.pages = WordsOpen.length-below (length layout.pages) in
    omega arith

-- each body at opening has no entry
no-entry : (layout : Layout) (P : Log → Type 0) → ((q : ℕ) → q < length layout.pages → P (opening_log q)) → (i : ℕ) (log : Log) → slice_get (opening_homes layout) i ≡ Some (Some (Some log)) → P log
no-entry layout P each i log e = elim (WordsOpen.less-or i layout.frames) [
  | inl less ↦ absurd (none-some log (same_Some None (Some log) (same_Some (Some None) (Some (Some log)) (sym (frame-home layout i less) ∙ e))))
  | inr past ↦ elim (WordsOpen.less-or (i - layout.frames) (length layout.pages)) [
    | inl less ↦
        let at : slice_get (opening_homes layout) i ≡ Some (Some (Some (opening_log (i - layout.frames)))) = ap (slice_get (opening_homes layout)) (let h : i ≡ layout.frames + (i - layout.frames) = omega arith in h) ∙ shelf-home layout (i - layout.frames) less in
        subst P (same_Some (opening_log (i - layout.frames)) log (same_Some (Some (opening_log (i - layout.frames))) (Some log) (same_Some (Some (Some (opening_log (i - layout.frames)))) (Some (Some log)) (sym at ∙ e)))) (each (i - layout.frames) less)
    | inr beyond ↦
        let within : i < length (opening_homes layout) = slice_get_within (opening_homes layout) i (Some (Some log)) e in
        let all : length (opening_homes layout) ≡ layout.frames + length layout.pages = homes-length layout in
        absurd (omega arith)
  ]
]

opening-state : (layout : Layout) (q : ℕ) → (state_of layout (opening_log q)).cached ≡ false
opening-state layout q = by-kind (slice_get layout.pages q) (is_locked layout (record { 0 = q }))
  where
    by-kind : (kind : Option PageKind) (locked : Bool) → (opening_at kind locked).cached ≡ false
    by-kind None locked = refl
    by-kind (Some kind) locked = refl

unused-word : (c v : ℕ) → cond (set.contains {R = nat_cmp} set.empty v) c (cond (set.contains {R = nat_cmp} set.empty v) (pte_word ptes.Poison) 0) ≡ 0
unused-word c v = ap (λ (b : Bool). cond b c (cond b (pte_word ptes.Poison) 0)) (set.contains-empty nat_cmp v)

opening-word : (layout : Layout) (q c v : ℕ) → fitting_word (state_of layout (opening_log q)) c v ≡ 0
opening-word layout q c v = by-kind (slice_get layout.pages q) (is_locked layout (record { 0 = q }))
  where
    by-kind : (kind : Option PageKind) (locked : Bool) → fitting_word (opening_at kind locked) c v ≡ 0
    by-kind None locked = unused-word c v
    by-kind (Some kind) locked = unused-word c v

-- of the numbers below n, one is c
one-below : (n c : ℕ) → c < n → sum_by (λ (m : ℕ). from_bool (m == c)) (below n) ≡ 1
one-below zero c less = absurd (omega arith)
one-below (suc n) c less =
    let all : sum_by (λ (m : ℕ). from_bool (m == c)) (below (suc n)) ≡ sum_by (λ (m : ℕ). from_bool (m == c)) (below n) + from_bool (n == c) = sum_by_push (λ (m : ℕ). from_bool (m == c)) (below n) n in
    elim (same-or n c) [
      | inl same ↦
          let last : from_bool (n == c) ≡ 1 = ap from_bool (same-number n c same) in
          let rest : sum_by (λ (m : ℕ). from_bool (m == c)) (below n) ≡ 0 = sum-zero (λ (m : ℕ). from_bool (m == c)) (below n) (λ i m e. ap from_bool (unequal m c (let under : m < n = WordsOpen.each-below n i m e in λ h. omega arith))) in
          omega arith
      | inr other ↦
          let last : from_bool (n == c) ≡ 0 = ap from_bool (unequal n c other) in
          let rest : sum_by (λ (m : ℕ). from_bool (m == c)) (below n) ≡ 1 = one-below n c (omega arith) in
          omega arith
    ]

sum-same : {A : Type 0} (f g : A → ℕ) (l : List A) → ((x : A) → f x ≡ g x) → sum_by f l ≡ sum_by g l
sum-same f g [] same = refl
sum-same f g (x ∷ xs) same =
    let left : sum_by f (x ∷ xs) ≡ f x + sum_by f xs = sum_by-cons f x xs in
    let right : sum_by g (x ∷ xs) ≡ g x + sum_by g xs = sum_by-cons g x xs in
    let rest : sum_by f xs ≡ sum_by g xs = sum-same f g xs same in
    let here : f x ≡ g x = same x in
    omega arith

-- a sum over the bodies at opening is one over the shelves
homes-sum : (layout : Layout) (f : Log → ℕ) → sum_by (of_home f) (opening_homes layout) ≡ sum_by (λ (q : ℕ). f (opening_log q)) (below (length layout.pages))
homes-sum layout f =
    let both : sum_by (of_home f) (opening_homes layout) ≡ sum_by (of_home f) (empties layout) + sum_by (of_home f) (shelves layout) = sum_by-append (of_home f) (empties layout) (shelves layout) in
    let none : sum_by (of_home f) (empties layout) ≡ 0 = sum-zero (of_home f) (empties layout) (λ i h e. ap (of_home f) (sym (WordsOpen.at-replicate layout.frames (Some None) h i e))) in
    let some : sum_by (of_home f) (shelves layout) ≡ sum_by (λ (q : ℕ). f (opening_log q)) (below (length layout.pages)) = sum-map (of_home f) (λ (q : ℕ). Some (Some (opening_log q))) (below (length layout.pages)) in
    omega arith

homes-zero : (layout : Layout) (f : Log → ℕ) → ((q : ℕ) → f (opening_log q) ≡ 0) → sum_by (of_home f) (opening_homes layout) ≡ 0
homes-zero layout f zero_each = homes-sum layout f ∙ sum-zero (λ (q : ℕ). f (opening_log q)) (below (length layout.pages)) (λ i q e. zero_each q)

-- the views at opening
abbrev opening_views : Layout → List View
opening_views layout = map opening_view (below layout.cpus)

no-less : (n : ℕ) → nat_lt n 0 ≡ false
no-less n = le-ltb n 0 (omega arith)

abbrev zero-or : Bool → ℕ
zero-or b = cond b 0 0

either-zero : (b : Bool) → zero-or b ≡ 0
either-zero true = refl
either-zero false = refl

module _ (layout : Layout) (sound : IsSound layout) (w : Words) (o : AreOpening layout w) where
  frame : (f x : ℕ) → slice_get w.frames f ≡ Some x → (k : Bool) × (slice_get layout.kernel f ≡ Some k) × WordsOpen.IsOpened k x
  frame f x there = WordsOpen.frame-opened layout f x (ap (λ (l : List ℕ). slice_get l f) (sym o.frames) ∙ there)

  inside : (f x : ℕ) → slice_get w.frames f ≡ Some x → f < layout.frames
  inside f x there =
      let within : f < length layout.kernel = slice_get_within layout.kernel f (frame f x there).0 (frame f x there).1 in
      let all : length layout.kernel ≡ layout.frames = sound.kernel in
      omega arith

  is-zero : (l : List ℕ) (n i x : ℕ) → l ≡ replicate n 0 → slice_get l i ≡ Some x → x ≡ 0
  is-zero l n i x is there = WordsOpen.zeros-are n x i (ap (λ (m : List ℕ). slice_get m i) (sym is) ∙ there)

  no-sum : {B : Type 0} (g : View → B) (f : B → ℕ) → ((c : ℕ) → f (g (opening_view c)) ≡ 0) → sum_by f (map g (opening_views layout)) ≡ 0
  no-sum g f zero_each = sum-zero f (map g (opening_views layout)) (WordsOpen.each-view g (λ b. f b ≡ 0) layout.cpus (λ c less. zero_each c))

  bare : (f x : ℕ) → slice_get w.frames f ≡ Some x → IsBare x
  bare f x there = record { unowned = (frame f x there).2.owner; unlocked = (frame f x there).2.lock; unhandled = (frame f x there).2.handled }

  page-inside : (q x : ℕ) → slice_get w.pages q ≡ Some x → q < length layout.pages
  page-inside q x there =
      let within : q < length w.pages = slice_get_within w.pages q x there in
      let all : length w.pages ≡ length layout.pages = ap (λ (l : List ℕ). length l) o.pages ∙ WordsOpen.length-zeros (length layout.pages) in
      omega arith

  -- nothing is listed at opening
  unlisted : {B : Type 0} (g : View → List B) (P : B → Type 0) → ((c : ℕ) → g (opening_view c) ≡ []) → EachListed P (map g (opening_views layout))
  unlisted g P none = WordsOpen.each-view g (EachMember P) layout.cpus (λ c less. subst (EachMember P) (sym (none c)) (each-none P))

  counter-opened : CounterAgrees w.frames w.counter (map count_debts_of (opening_views layout)) (map (λ (v : View). v.sights) (opening_views layout))
  counter-opened = record {
    poisoned =
        let biased : biased_poisoned_of w.counter ≡ 2 ^ 31 = ap biased_poisoned_of o.counter in
        let owed : sum_by (λ (d : CountDebts). d.counts + d.hardware) (map count_debts_of (opening_views layout)) ≡ 0 = no-sum count_debts_of (λ (d : CountDebts). d.counts + d.hardware) (λ c. refl) in
        let back : sum_by (λ (d : CountDebts). d.uncounts) (map count_debts_of (opening_views layout)) ≡ 0 = no-sum count_debts_of (λ (d : CountDebts). d.uncounts) (λ c. refl) in
        let none : sum_by poison_of w.frames ≡ 0 = sum-zero poison_of w.frames (λ i x e. (frame i x e).2.poison) in
        omega arith;
    hardware =
        let none : hardware_of w.counter ≡ 0 = ap hardware_of o.counter in
        let owed : sum_by (λ (d : CountDebts). d.hardware) (map count_debts_of (opening_views layout)) ≡ 0 = no-sum count_debts_of (λ (d : CountDebts). d.hardware) (λ c. refl) in
        let marks : sum_by (λ (d : CountDebts). sum_by (λ (m : Mark). from_bool (is_by_hardware m.kind)) d.marks) (map count_debts_of (opening_views layout)) ≡ 0 =
        no-sum count_debts_of (λ (d : CountDebts). sum_by (λ (m : Mark). from_bool (is_by_hardware m.kind)) d.marks) (λ c. refl) in
        omega arith;
    covered = WordsOpen.each-view count_debts_of IsCovered layout.cpus (λ c less. record { counts = omega arith; uncounts = omega arith });
    shown = unlisted (λ (v : View). v.sights) (λ (s : Sight). s.place ≡ places.Counter → 0 < hardware_of s.word → SomeHardware (map count_debts_of (opening_views layout)) s) (λ c. refl);
  }

  no-bit : (l : List ℕ) (n f x line : ℕ) → l ≡ replicate n 0 → slice_get l f ≡ Some x → bit_at x line ≡ 0
  no-bit l n f x line is there = ap (λ (m : ℕ). bit_at m line) (is-zero l n f x is there) ∙ ap (λ (m : ℕ). m % 2) (zero-div (2 ^ line))

  damage-opened : DamageListed w.bads w.weaks (map (λ (v : View). v.spoiled) (opening_views layout)) (map (λ (v : View). v.sights) (opening_views layout))
  damage-opened = record {
    bad = λ f x there line less.
        let none : sum_all (λ (s : Spoiled). from_bool (is_spoil f line true s)) (map (λ (v : View). v.spoiled) (opening_views layout)) ≡ 0 = no-sum (λ (v : View). v.spoiled) (sum_by (λ (s : Spoiled). from_bool (is_spoil f line true s))) (λ c. refl) in
        let bit : bit_at x line ≡ 0 = no-bit w.bads layout.frames f x line o.bads there in
        omega arith;
    weak = λ f x there line less.
        let none : sum_all (λ (s : Spoiled). from_bool (is_spoil f line false s)) (map (λ (v : View). v.spoiled) (opening_views layout)) ≡ 0 = no-sum (λ (v : View). v.spoiled) (sum_by (λ (s : Spoiled). from_bool (is_spoil f line false s))) (λ c. refl) in
        let bit : bit_at x line ≡ 0 = no-bit w.weaks layout.frames f x line o.weaks there in
        omega arith;
    bad_stays = λ frame x there. unlisted (λ (v : View). v.sights) (λ (s : Sight). s.place ≡ places.Bad frame → (line : ℕ) → bit_at s.word line ≤ bit_at x line) (λ c. refl);
    weak_stays = λ frame x there. unlisted (λ (v : View). v.sights) (λ (s : Sight). s.place ≡ places.Weak frame → (line : ℕ) → bit_at s.word line ≤ bit_at x line) (λ c. refl);
  }

  -- a property of all bodies at opening
  each-body : (P : Log → Type 0) → ((q : ℕ) → q < length layout.pages → P (opening_log q)) → EachBody P (opening_homes layout) (map (λ (v : View). v.bodies) (opening_views layout))
  each-body P each = record { at_home = no-entry layout P each; in_hand = unlisted (λ (v : View). v.bodies) (λ (b : InHand). P b.log) (λ c. refl) }

  entries-opened : EntriesListed (opening_homes layout) (map (λ (v : View). v.bodies) (opening_views layout)) (map (λ (v : View). (v.made, v.sights)) (opening_views layout)) (map (λ (v : View). v.lengths) (opening_views layout))
  entries-opened = record {
    balance = λ f.
        let home : sum_by (of_home (weigh f)) (opening_homes layout) ≡ 0 = homes-zero layout (weigh f) (λ q. refl) in
        let hand : sum_all (λ (b : InHand). weigh f b.log) (map (λ (v : View). v.bodies) (opening_views layout)) ≡ 0 = no-sum (λ (v : View). v.bodies) (sum_by (λ (b : InHand). weigh f b.log)) (λ c. refl) in
        let made : sum_by (λ (v : List Made × List Sight). sum_by (λ (m : Made). f m.page m.place m.entry) v.0) (map (λ (v : View). (v.made, v.sights)) (opening_views layout)) ≡ 0 =
        no-sum (λ (v : View). (v.made, v.sights)) (λ (v : List Made × List Sight). sum_by (λ (m : Made). f m.page m.place m.entry) v.0) (λ c. refl) in
        omega arith;
    ordered = each-body (λ (log : Log). AreInOrder log.entries) (λ q less i j e f below at. absurd (none-some e at));
    shown = WordsOpen.each-view (λ (v : View). (v.made, v.sights)) (λ (v : List Made × List Sight). EachMember (λ (m : Made). HasSeen v.1 m.entry.who m.frame m.entry.what) v.0) layout.cpus (λ c less. each-none (λ (m : Made). HasSeen [] m.entry.who m.frame m.entry.what));
    lengths_reached = unlisted (λ (v : View). v.lengths) (λ (l : Length). EachBody (Reaches l) (opening_homes layout) (map (λ (v : View). v.bodies) (opening_views layout))) (λ c. refl);
  }

  endings-opened : EndingsAgree layout w.processes (opening_homes layout) (map (λ (v : View). v.bodies) (opening_views layout)) (map (λ (v : View). v.sights) (opening_views layout))
  endings-opened = record {
    named = λ process x there. let none : x ≡ 0 = is-zero w.processes layout.procs process x o.processes there in omega arith;
    caused = λ process x there. each-body (λ (log : Log). x ≡ log.page.0 + 1 → has_ending layout process log.entries ≡ true)
        (λ q less is. let none : x ≡ 0 = is-zero w.processes layout.procs process.0 x o.processes there in absurd (let one : x ≡ q + 1 = is in omega arith));
    ended = no-entry layout (λ (log : Log). AreEnded layout w.processes log.entries) (λ q less process x there is. absurd (true≢false (sym is)));
    ended_before = unlisted (λ (v : View). v.bodies) (λ (b : InHand). AreEnded layout w.processes (take b.since b.log.entries)) (λ c. refl);
    taken = unlisted (λ (v : View). v.bodies) (λ (b : InHand). b.since ≤ length b.log.entries) (λ c. refl);
    shown = unlisted (λ (v : View). v.sights) (ShowsEnding layout (opening_homes layout) (map (λ (v : View). v.bodies) (opening_views layout))) (λ c. refl);
  }

  marks-opened : MarksAlternate w.frames (map (λ (v : View). v.marks) (opening_views layout)) (map (λ (v : View). v.sights) (opening_views layout))
  marks-opened = record {
    poisoned = λ f x cycle there.
        no-sum (λ (v : View). v.marks) (sum_by (λ (m : Mark). from_bool ((m.frame.0 == f) && ((m.cycle == cycle) && is_poisoning m.kind)))) (λ c. refl)
        ∙ sym (ap (λ (n : ℕ). cond (nat_lt cycle n) 1 (cond (cycle == n) (poison_of x) 0)) (frame f x there).2.cycle ∙ ap (λ (n : ℕ). cond (nat_lt cycle 0) 1 (cond (cycle == 0) n 0)) (frame f x there).2.poison
        ∙ ap (λ (b : Bool). cond b 1 (cond (cycle == 0) 0 0)) (no-less cycle) ∙ either-zero (cycle == 0));
    revived = λ f x cycle there.
        no-sum (λ (v : View). v.marks) (sum_by (λ (m : Mark). from_bool ((m.frame.0 == f) && ((m.cycle == cycle) && is_revival m.kind)))) (λ c. refl)
        ∙ sym (ap (λ (n : ℕ). from_bool (nat_lt cycle n)) (frame f x there).2.cycle ∙ ap from_bool (no-less cycle));
    framed = unlisted (λ (v : View). v.marks) (λ (m : Mark). m.frame.0 < length w.frames) (λ c. refl);
    few = WordsOpen.each-view (λ (v : View). v.marks) (λ (list : List Mark). (cpu : Cpu) → revivals_by cpu list ≤ command_limit) layout.cpus (λ c less cpu. omega arith);
    shown = λ frame x there. unlisted (λ (v : View). v.sights) (λ (s : Sight). s.place ≡ places.Frame frame → IsBefore x s) (λ c. refl);
  }

  losses-opened : LossesBalance layout w.losses (opening_homes layout) (map (λ (v : View). v.bodies) (opening_views layout)) (map losing_of (opening_views layout)) (map (λ (v : View). v.sights) (opening_views layout))
  losses-opened = record {
    balance = λ file x there.
        let none : x ≡ 0 = is-zero w.losses layout.files file.0 x o.losses there in
        let owed : sum_by (owed_of file) (map losing_of (opening_views layout)) ≡ 0 = no-sum losing_of (owed_of file) (λ c. refl) in
        let home : sum_by (of_home (losses_of layout file)) (opening_homes layout) ≡ 0 = homes-zero layout (losses_of layout file) (λ q. either-zero (is_same_file file (file_of layout (opening_log q).page))) in
        let hand : sum_all (λ (b : InHand). losses_of layout file b.log) (map (λ (v : View). v.bodies) (opening_views layout)) ≡ 0 = no-sum (λ (v : View). v.bodies) (sum_by (λ (b : InHand). losses_of layout file b.log)) (λ c. refl) in
        omega arith;
    owing = λ file. WordsOpen.each-view losing_of (λ (v : Losing). owed_of file v ≤ made_of layout file v) layout.cpus (λ c less. omega arith);
    shown = λ file x there. unlisted (λ (v : View). v.sights) (IsSeenLoss file x) (λ c. refl);
    declared = WordsOpen.each-view losing_of (λ (v : Losing). EachMember (λ (n : FileNo). n.0 < layout.files) v.owed) layout.cpus (λ c less. each-none (λ (n : FileNo). n.0 < layout.files));
    poisoned = WordsOpen.each-view losing_of IsPoisonLoss layout.cpus (λ c less. omega arith);
  }

  policies-opened : PoliciesListed layout.threads w.policies (map (λ (v : View). (v.parts, v.settings)) (opening_views layout)) (map (λ (v : View). v.sights) (opening_views layout))
  policies-opened = record {
    own = WordsOpen.each-view (λ (v : View). (v.parts, v.settings)) (λ (v : List Part × List Setting). EachMember (IsSetByOwn layout.threads) v.1) layout.cpus (λ c less. each-none (IsSetByOwn layout.threads));
    agrees = λ thread d x there is. WordsOpen.each-view (λ (v : View). (v.parts, v.settings)) (λ (v : List Part × List Setting). IsOf d.cpu v.0 → PolicyAgrees thread x (map (λ (v : View). v.sights) (opening_views layout)) (settings_of thread v.1)) layout.cpus
        (λ c less of. record {
          now = sym (WordsOpen.at-replicate (length layout.threads) opening_policy x thread.0 (ap (λ (l : List ℕ). slice_get l thread.0) (sym o.policies) ∙ is));
          few = omega arith;
          shown = unlisted (λ (v : View). v.sights) (λ (s : Sight). s.place ≡ places.Policy thread → (n : ℕ) × (n ≤ 0) × (s.word ≡ policy_after (take n []))) (λ c. refl);
        });
  }

  stops-opened : EndingsAndStopsStay w.processes w.stop (map (λ (v : View). v.bodies) (opening_views layout)) (map (λ (v : View). v.sights) (opening_views layout)) (map (λ (v : View). v.stops) (opening_views layout))
  stops-opened = record {
    killed = unlisted (λ (v : View). v.bodies) (λ (b : InHand). EachMember (λ (p : Proc). (x : ℕ) → slice_get w.processes p.0 ≡ Some x → x ≢ 0) b.killed) (λ c. refl);
    ended_stays = λ process x there. unlisted (λ (v : View). v.sights) (λ (s : Sight). s.place ≡ places.Process process → s.word ≢ 0 → x ≡ s.word) (λ c. refl);
    stop_stays = unlisted (λ (v : View). v.sights) (λ (s : Sight). s.place ≡ places.Stop → stopper_of s.word ≢ 0 → stopper_of w.stop ≡ stopper_of s.word) (λ c. refl);
    one =
        let none : sum_by (λ (l : List Who). length l) (map (λ (v : View). v.stops) (opening_views layout)) ≡ 0 = no-sum (λ (v : View). v.stops) (λ (l : List Who). length l) (λ c. refl) in
        let stop : stopper_of w.stop ≡ 0 = ap stopper_of o.stop in
        omega arith;
    named = unlisted (λ (v : View). v.stops) (λ (who : Who). stopper_of w.stop ≡ who.cpu.0 + 1) (λ c. refl);
  }

  fits-opened : PageFits layout w.trans w.caches (opening_homes layout) (map (λ (v : View). (v.pages, v.bodies)) (opening_views layout))
  fits-opened = record {
    at_home = no-entry layout (Fits layout w.trans w.caches) (λ q less cache is. record {
      cached = ap (λ (n : ℕ). not (n == 0)) (is-zero w.caches (length layout.pages) q cache o.caches is) ∙ sym (opening-state layout q);
      used = λ v x t there same at. is-zero w.trans (length layout.trans) v x o.trans at ∙ sym (opening-word layout q cache v);
    });
    in_hand = WordsOpen.each-view (λ (v : View). (v.pages, v.bodies)) (λ (h : List PageLock × List InHand). EachMember (λ (b : InHand). page_locks_on b.log.page.0 h.0 ≡ 0 → Fits layout w.trans w.caches b.log) h.1) layout.cpus (λ c less. each-none (λ (b : InHand). page_locks_on b.log.page.0 [] ≡ 0 → Fits layout w.trans w.caches b.log));
    known = WordsOpen.each-view (λ (v : View). (v.pages, v.bodies)) (λ (h : List PageLock × List InHand). EachMember (KnowsWords layout w.trans w.caches) h.0) layout.cpus (λ c less. each-none (KnowsWords layout w.trans w.caches));
    own = WordsOpen.each-view (λ (v : View). (v.pages, v.bodies)) (λ (h : List PageLock × List InHand). EachMember (λ (b : InHand). 0 < page_locks_on b.log.page.0 h.0 → KnowsOwn h.0 b) h.1) layout.cpus (λ c less. each-none (λ (b : InHand). 0 < page_locks_on b.log.page.0 [] → KnowsOwn [] b));
  }

  one-part : (c : ℕ) (P : Part → Type 0) → P (record { cpu = record { 0 = c }; latest = 0 }) → EachMember P (opening_view c).parts
  one-part c P here zero x e = subst P (same_Some (record { cpu = record { 0 = c }; latest = 0 }) x e) here
  one-part c P here (suc i) x e = absurd (none-some x e)

  processors-opened : ProcessorsApart layout (map (λ (v : View). v.parts) (opening_views layout))
  processors-opened = record {
    one = λ c less.
        sum-map (sum_by (λ (p : Part). from_bool (p.cpu.0 == c))) (λ (v : View). v.parts) (opening_views layout)
        ∙ sum-map (λ (v : View). sum_by (λ (p : Part). from_bool (p.cpu.0 == c)) v.parts) opening_view (below layout.cpus)
        ∙ sum-same (λ (m : ℕ). sum_by (λ (p : Part). from_bool (p.cpu.0 == c)) (opening_view m).parts) (λ (m : ℕ). from_bool (m == c)) (below layout.cpus)
        (λ m. sum_by-cons (λ (p : Part). from_bool (p.cpu.0 == c)) (record { cpu = record { 0 = m }; latest = 0 }) [] ∙ omega arith)
        ∙ one-below layout.cpus c less;
    declared = WordsOpen.each-view (λ (v : View). v.parts) (EachMember (λ (p : Part). p.cpu.0 < layout.cpus)) layout.cpus (λ c less. one-part c (λ (p : Part). p.cpu.0 < layout.cpus) less);
  }

  commands-opened : EachMember AreOwn (opening_views layout)
  commands-opened = each-map opening_view AreOwn (below layout.cpus) (λ i c e. record {
    made = each-none (λ (m : Made). IsPast (opening_view c).parts m.entry.who);
    marks = each-none (λ (m : Mark). IsPast (opening_view c).parts m.stamp.who);
    sights = each-none (λ (s : Sight). IsPast (opening_view c).parts s.stamp.who);
    lengths = each-none (λ (l : Length). IsPast (opening_view c).parts l.stamp.who);
    settings = each-none (λ (s : Setting). IsPast (opening_view c).parts s.stamp.who);
    stops = each-none (IsPast (opening_view c).parts);
  })

  rule-opened : FrameRule layout w (opening_homes layout) (opening_views layout)
  rule-opened = record {
    frames = record {
      counts = record {
        balance = λ f x there.
            let no_count : count_of x ≡ 0 = (frame f x there).2.count in
            let no_trans : named f w.trans ≡ 0 = ap (named f) o.trans ∙ named-zeros f (length layout.trans) in
            let no_cache : named f w.caches ≡ 0 = ap (named f) o.caches ∙ named-zeros f (length layout.pages) in
            let no_refs : sum_by (refs_on f) (map (λ (v : View). v.refs) (opening_views layout)) ≡ 0 = no-sum (λ (v : View). v.refs) (refs_on f) (λ c. refl) in
            let no_handled : handled_of x ≡ 0 = (frame f x there).2.handled in
            omega arith;
      };
      places = record {
        declared = λ f x k there is. (frame f x there).2.is_kernel ∙ same_Some (frame f x there).0 k (sym (frame f x there).1 ∙ is);
        placed = λ f x there is.
            let k : (frame f x there).0 ≡ false = sym (frame f x there).2.is_kernel ∙ is in
            let bit : free_bit w.frees f ≡ 1 = ap (λ (l : List ℕ). free_bit l f) o.frees ∙ WordsOpen.free-bit-opened layout f false (inside f x there) ((frame f x there).1 ∙ ap (λ (b : Bool). Some b) k) in
            let no_hand : in_hand f (map (λ (v : View). v.hands) (opening_views layout)) ≡ 0 = no-sum (λ (v : View). v.hands) (sum_by (λ (h : FrameInHand). from_bool (h.frame.0 == f))) (λ c. refl) in
            let no_count : count_of x ≡ 0 = (frame f x there).2.count in
            omega arith;
        idle = λ f x there some. bare f x there;
        kernels = λ f x there is.
            let k : (frame f x there).0 ≡ true = sym (frame f x there).2.is_kernel ∙ is in
            record {
              bare = bare f x there;
              uncounted = (frame f x there).2.count;
              taken = ap (λ (l : List ℕ). free_bit l f) o.frees ∙ WordsOpen.free-bit-opened layout f true (inside f x there) ((frame f x there).1 ∙ ap (λ (b : Bool). Some b) k);
              unhanded = no-sum (λ (v : View). v.hands) (sum_by (λ (h : FrameInHand). from_bool (h.frame.0 == f))) (λ c. refl);
            };
        handed = unlisted (λ (v : View). v.hands) (IsHanded w.frames) (λ c. refl);
      };
      frame_locks = record {
        one = λ f x there. no-sum (λ (v : View). (v.refs, v.locks)) (λ (h : List Ref × List FrameLock). locks_on f h.1) (λ c. refl) ∙ sym (frame f x there).2.lock;
        known = WordsOpen.each-view (λ (v : View). (v.refs, v.locks)) (λ (h : List Ref × List FrameLock). EachMember (IsLocked w.frames h.0) h.1) layout.cpus (λ c less. each-none (IsLocked w.frames []));
      };
      free = record {
        number =
            let bits : sum_below (free_bit w.frees) layout.frames ≡ opening_available layout = ap (λ (l : List ℕ). sum_below (free_bit l) layout.frames) o.frees ∙ WordsOpen.free-number layout sound in
            let none : sum_by (λ (n : ℕ). n) (map (λ (v : View). v.reserved) (opening_views layout)) ≡ 0 = no-sum (λ (v : View). v.reserved) (λ (n : ℕ). n) (λ c. refl) in
            let is : w.available ≡ opening_available layout = o.available in
            omega arith;
        within = λ f past. ap (λ (l : List ℕ). free_bit l f) o.frees ∙ WordsOpen.free-bit-past layout sound f past;
      };
      holdings = record { bounded = WordsOpen.each-view holdings_of (IsBounded layout) layout.cpus (λ c less. record { few = omega arith; shares = λ f. omega arith }) };
    };
    pages = record {
      page_locks = record {
        one = λ q x there. no-sum (λ (v : View). v.pages) (page_locks_on q) (λ c. refl) ∙ ap lock_of (sym (is-zero w.pages (length layout.pages) q x o.pages there));
        page_once = WordsOpen.each-view (λ (v : View). v.pages) (λ (h : List PageLock). length h ≤ 1) layout.cpus (λ c less. omega arith);
        frames_twice = WordsOpen.each-view (λ (v : View). v.locks) (λ (h : List FrameLock). length h ≤ 2) layout.cpus (λ c less. omega arith);
      };
      translations = record { owned = λ v x t there is. inl (is-zero w.trans (length layout.trans) v x o.trans there) };
      caches = record {
        owned = λ q x there. inl (is-zero w.caches (length layout.pages) q x o.caches there);
        named = λ f x q there owner. let none : owner_of x ≡ 0 = (frame f x there).2.owner in absurd (omega arith);
        within = λ f x there. let none : owner_of x ≡ 0 = (frame f x there).2.owner in omega arith;
      };
      bodies = record {
        frame_home = λ f x there unlocked. record { content = None; there = frame-home layout f (inside f x there); named = sym (frame f x there).2.owner };
        frame_out = λ f x there held. let none : lock_of x ≡ 0 = (frame f x there).2.lock in absurd (omega arith);
        shelf_home = λ q x c there is unlocked.
            let less : q < length layout.pages = page-inside q x there in
            record { content = Some (opening_log q); there = shelf-home layout q less; named = ap (λ (n : ℕ). cond (n == 0) (q + 1) 0) (sym (is-zero w.caches (length layout.pages) q c o.caches is)) };
        shelf_out = λ q x there held. let none : lock_of x ≡ 0 = ap lock_of (is-zero w.pages (length layout.pages) q x o.pages there) in absurd (omega arith);
        one = λ q less.
            let shelf : sum_by (of_home (λ (log : Log). from_bool (log.page.0 == q))) (opening_homes layout) ≡ 1 = homes-sum layout (λ (log : Log). from_bool (log.page.0 == q)) ∙ one-below (length layout.pages) q less in
            let no_hand : sum_all (λ (b : InHand). from_bool (b.log.page.0 == q)) (map (λ (h : Holder). h.bodies) (map holder_of (opening_views layout))) ≡ 0 =
            sum-zero (sum_by (λ (b : InHand). from_bool (b.log.page.0 == q))) (map (λ (h : Holder). h.bodies) (map holder_of (opening_views layout)))
            (each-map (λ (h : Holder). h.bodies) (λ (l : List InHand). sum_by (λ (b : InHand). from_bool (b.log.page.0 == q)) l ≡ 0) (map holder_of (opening_views layout))
            (WordsOpen.each-view holder_of (λ (h : Holder). sum_by (λ (b : InHand). from_bool (b.log.page.0 == q)) h.bodies ≡ 0) layout.cpus (λ c less. refl))) in
            omega arith;
        in_hand = WordsOpen.each-view holder_of (λ (h : Holder). EachMember (λ (b : InHand). IsHolding b h) h.bodies) layout.cpus (λ c less. each-none (λ (b : InHand). IsHolding b (holder_of (opening_view c))));
      };
      fits = fits-opened;
    };
    histories = record {
      entries = entries-opened;
      endings = endings-opened;
      losses = losses-opened;
    };
    failures = record {
      handled = record { out = λ f x there is. let none : handled_of x ≡ 0 = (frame f x there).2.handled in absurd (omega arith) };
      counter = counter-opened;
      damage = damage-opened;
      marks = marks-opened;
      exhaustion = record { explained = unlisted (λ (v : View). v.sights) (λ (s : Sight). s.place ≡ places.Available → s.word ≡ 0 → sum_below (usable layout) layout.frames ≤ sum_below (is_marked layout (map (λ (v : View). v.marks) (opening_views layout))) layout.frames + length layout.pages + 2 * layout.cpus) (λ c. refl) };
    };
    processors = record {
      policies = policies-opened;
      stops = stops-opened;
      processors = processors-opened;
      commands = record { own = commands-opened };
    };
  }

-- a board of a sound layout holds at opening
pub opening-holds : (layout : Layout) → IsSound layout → Holds layout (opening layout)
opening-holds layout sound = record {
  sound = sound;
  words = WordsOpen.opening-size layout sound;
  slots = homes-length layout;
  rule = rule-opened layout sound (words_of layout (opening_words layout)) (are-opening layout sound);
  held = record { nothing = each-map opening_view (λ (v : View). v.parts ≡ [] → HoldsNothing v) (below layout.cpus) (λ i c e none. record { refs = refl; locks = refl; pages = refl; reserved = refl; hands = refl; owed = refl; bodies = refl }) };
}
