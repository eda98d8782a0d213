-- The parts of the rule that read the words of frames, where one word changes: each stays where the fields that it reads do.
use Rattle.std.proofs.Common.{◌≡◌, ◌≢◌, ℕ, ◌+◌, ◌<◌, ◌≤◌, ◌==◌, ◌^◌, nat_lt, min, Bool, true, false, cond, List, Some, set, slice_get, inl, inr, refl, sym, ap, ◌∙◌, subst, arith, map}
use Rattle.std.proofs.lemmas.List.{length-set}
use Rattle.std.proofs.lemmas.Option.{same_Some}
use Rattle.std.specs.Int.{from_bool}
use Rattle.std.specs.List.{sum_by}
use Rattle.hwp_page.specs.hwp_geom.declared.Layout.{Layout}
use Rattle.hwp_page.specs.hwp_geom.declared.TransDecl.{TransDecl}
use Rattle.hwp_words.specs.Frames.{lock_of, poison_of, kernel_of, count_of, owner_of, cycle_of, is_kernel}
use Rattle.hwp_words.specs.Counters.{biased_poisoned_of}
use Rattle.hwp_core_rule.specs.declared.view.FrameLock.{FrameLock}
use Rattle.hwp_core_rule.specs.declared.view.Mark.{Mark}
use Rattle.hwp_core_rule.specs.declared.view.PageLock.{PageLock}
use Rattle.hwp_core_rule.specs.declared.view.Sight.{Sight}
use Rattle.hwp_core_rule.specs.Lists.{Homes, EachListed, EachMember}
use Rattle.hwp_core_rule.specs.Words.{free_bit}
use Rattle.hwp_core_rule.specs.parts.Bodies.{BodiesAtHome, Holder, IsAtHome}
use Rattle.hwp_core_rule.specs.parts.Counter.{CounterAgrees, CountDebts}
use Rattle.hwp_core_rule.specs.parts.Marks.{MarksAlternate, IsBefore}
use Rattle.hwp_core_rule.specs.parts.Owners.{TranslationsOwned, CacheWordsOwned, NamesOwn}
use Rattle.hwp_core_rule.specs.parts.Places.{HasOnePlace, IsBare, IsApart, in_hand, IsHanded}
use Rattle.hwp_core_rule.proofs.Lists.{at_set, set_here, set_else, same-or, sum-set, each-set, term-le, same-number}
use Rattle.hwp_core_rule.specs.declared.view.FrameInHand.{FrameInHand}
use Rattle.hwp_core_rule.specs.Rule.{FailureParts, PageParts, count_debts_of, holder_of}
use Rattle.hwp_core_rule.specs.declared.view.View.{View}
use Rattle.hwp_core_rule.specs.parts.Handled.{HandledIsPoisoned}
use Rattle.hwp_core_rule.specs.parts.Locks.{FrameLocksHeld, IsLocked}
use Rattle.hwp_core_rule.specs.declared.view.Ref.{Ref}
use Rattle.hwp_core_rule.specs.Views.{refs_on, locks_on}

abbrev cycle_and_poison : ℕ → ℕ × ℕ
cycle_and_poison word = (cycle_of word, poison_of word)

-- the word w of frame f becomes u
module _ (frames : List ℕ) (f w u : ℕ) (there : slice_get frames f ≡ Some w) where
  -- what was there before is alike in a field that stays, and so is what is there now
  field-was : {B : Type 0} (g : ℕ → B) → g u ≡ g w → (i x : ℕ) → slice_get (set frames f u) i ≡ Some x → (y : ℕ) × (slice_get frames i ≡ Some y) × (g x ≡ g y)
  field-was g same i x e = elim (at_set frames f i u x e) [
    | inl t ↦ (w, ap (slice_get frames) t.0 ∙ there, ap g (sym t.1) ∙ same)
    | inr t ↦ (x, t.1, refl)
  ]

  field-is : {B : Type 0} (g : ℕ → B) → g u ≡ g w → (i y : ℕ) → slice_get frames i ≡ Some y → (x : ℕ) × (slice_get (set frames f u) i ≡ Some x) × (g x ≡ g y)
  field-is g same i y e = elim (same-or i f) [
    | inl is ↦ (u, ap (slice_get (set frames f u)) is ∙ set_here frames f u w there, same ∙ ap g (same_Some w y (sym there ∙ ap (slice_get frames) (sym is) ∙ e)))
    | inr differs ↦ (y, set_else frames f i u differs ∙ e, refl)
  ]

  -- ---- the locks, where nobody has the frame's

  module _ (held : List (List Ref × List FrameLock)) (free : lock_of w ≡ 0) (h : FrameLocksHeld frames held) where
    of-others : (i : ℕ) (o : List Ref × List FrameLock) → slice_get held i ≡ Some o → (j : ℕ) (l : FrameLock) → slice_get o.1 j ≡ Some l → l.frame.0 ≢ f
    of-others i o at j l listed same =
        let all : sum_by (λ (o : List Ref × List FrameLock). locks_on f o.1) held ≡ lock_of w = h.one f w there in
        let theirs : locks_on f o.1 ≤ sum_by (λ (o : List Ref × List FrameLock). locks_on f o.1) held = term-le (λ (o : List Ref × List FrameLock). locks_on f o.1) held i o at in
        let this : from_bool (l.frame.0 == f) ≤ locks_on f o.1 = term-le (λ (l : FrameLock). from_bool (l.frame.0 == f)) o.1 j l listed in
        let one : from_bool (l.frame.0 == f) ≡ 1 = ap from_bool (same-number l.frame.0 f same) in
        omega (arith, all, theirs, this, one, free)

    still-known : (i : ℕ) (o : List Ref × List FrameLock) → slice_get held i ≡ Some o → (now : List Ref) → ((g : ℕ) → g ≢ f → refs_on g now ≡ refs_on g o.0) → EachMember (IsLocked (set frames f u) now) o.1
    still-known i o at now others j l listed =
        let known : IsLocked frames o.0 l = h.known i o at j l listed in
        let differs : l.frame.0 ≢ f = of-others i o at j l listed in
        record {
          word = known.word;
          there = set_else frames f l.frame.0 u differs ∙ known.there;
          owner = known.owner;
          handled = known.handled;
          poisoned = known.poisoned;
          referenced = subst (λ (n : ℕ). 0 < n) (sym (others l.frame.0 differs)) known.referenced;
        }

    -- and one view's references to it change
    pub unlocked-kept : lock_of u ≡ lock_of w → (seat : ℕ) (mine : List Ref × List FrameLock) → slice_get held seat ≡ Some mine → (now : List Ref) → ((g : ℕ) → g ≢ f → refs_on g now ≡ refs_on g mine.0)
        → FrameLocksHeld (set frames f u) (set held seat (now, mine.1))
    unlocked-kept lock seat mine me now others = record {
      one = λ g x at.
          let moved : sum_by (λ (o : List Ref × List FrameLock). locks_on g o.1) (set held seat (now, mine.1)) + locks_on g mine.1 ≡ sum_by (λ (o : List Ref × List FrameLock). locks_on g o.1) held + locks_on g mine.1 =
          sum-set (λ (o : List Ref × List FrameLock). locks_on g o.1) held seat mine (now, mine.1) me in
          let same : sum_by (λ (o : List Ref × List FrameLock). locks_on g o.1) (set held seat (now, mine.1)) ≡ sum_by (λ (o : List Ref × List FrameLock). locks_on g o.1) held = omega arith in
          elim (at_set frames f g u x at) [
            | inl t ↦ same ∙ ap (λ (n : ℕ). sum_by (λ (o : List Ref × List FrameLock). locks_on n o.1) held) t.0 ∙ h.one f w there ∙ sym lock ∙ ap lock_of t.1
            | inr t ↦ same ∙ h.one g x t.1
          ];
      known = each-set (λ (o : List Ref × List FrameLock). EachMember (IsLocked (set frames f u) o.0) o.1) held seat (now, mine.1)
          (still-known seat mine me now others) (λ i o at. still-known i o at o.0 (λ g differs. refl));
    }

  -- ---- parts that read owners

  names-kept : owner_of u ≡ owner_of w → (q word : ℕ) → NamesOwn frames q word → NamesOwn (set frames f u) q word
  names-kept owner q word names =
      let now : (x : ℕ) × (slice_get (set frames f u) names.frame ≡ Some x) × (owner_of x ≡ owner_of names.owner_word) = field-is owner_of owner names.frame names.owner_word names.there in
      record { frame = names.frame; named = names.named; owner_word = now.0; there = now.1; owned = now.2 ∙ names.owned }

  pub translations-kept : owner_of u ≡ owner_of w → (decls : List TransDecl) (trans : List ℕ) → TranslationsOwned decls frames trans → TranslationsOwned decls (set frames f u) trans
  translations-kept owner decls trans h = record {
    owned = λ s x t a b. elim (h.owned s x t a b) [
      | inl none ↦ inl none
      | inr rest ↦ inr (elim rest [ inl barred ↦ inl barred | inr names ↦ inr (names-kept owner t.page.0 x names) ])
    ];
  }

  pub caches-kept : owner_of u ≡ owner_of w → (caches : List ℕ) (locks : List (List FrameLock × List PageLock)) → CacheWordsOwned frames caches locks → CacheWordsOwned (set frames f u) caches locks
  caches-kept owner caches locks h = record {
    owned = λ q x a. elim (h.owned q x a) [ inl none ↦ inl none | inr names ↦ inr (names-kept owner q x names) ];
    named = λ g x q a is.
        let was : (y : ℕ) × (slice_get frames g ≡ Some y) × (owner_of x ≡ owner_of y) = field-was owner_of owner g x a in
        h.named g was.0 q was.1 (sym was.2 ∙ is);
    within = λ g x a.
        let was : (y : ℕ) × (slice_get frames g ≡ Some y) × (owner_of x ≡ owner_of y) = field-was owner_of owner g x a in
        omega (arith, was.2, h.within g was.0 was.1);
  }

  pub bodies-kept : owner_of u ≡ owner_of w → lock_of u ≡ lock_of w → (layout : Layout) (caches pages : List ℕ) (homes : Homes) (held : List Holder) → BodiesAtHome layout frames caches pages homes held → BodiesAtHome layout (set frames f u) caches pages homes held
  bodies-kept owner lock layout caches pages homes held h = record {
    frame_home = λ g x a free. elim (at_set frames f g u x a) [
      | inl t ↦
          let free_before : lock_of w ≡ 0 = sym lock ∙ ap lock_of t.1 ∙ free in
          subst (λ (p : ℕ × ℕ). IsAtHome homes p.0 p.1) (λ i. (sym t.0 i, (sym owner ∙ ap owner_of t.1) i)) (h.frame_home f w there free_before)
      | inr t ↦ h.frame_home g x t.1 free
    ];
    frame_out = λ g x a locked. elim (at_set frames f g u x a) [
      | inl t ↦ ap (slice_get homes) t.0 ∙ h.frame_out f w there (sym lock ∙ ap lock_of t.1 ∙ locked)
      | inr t ↦ h.frame_out g x t.1 locked
    ];
    shelf_home = h.shelf_home;
    shelf_out = h.shelf_out;
    one = h.one;
    in_hand = h.in_hand;
  }

  -- all parts on pages
  pub pages-kept : owner_of u ≡ owner_of w → lock_of u ≡ lock_of w → {layout : Layout} {trans caches pages : List ℕ} {homes : Homes} {views : List View}
      → PageParts layout frames trans caches pages homes views → PageParts layout (set frames f u) trans caches pages homes views
  pages-kept owner lock {layout} {trans} {caches} {pages} {homes} {views} h = record {
    page_locks = h.page_locks;
    translations = translations-kept owner layout.trans trans h.translations;
    caches = caches-kept owner caches (map (λ (v : View). (v.locks, v.pages)) views) h.caches;
    bodies = bodies-kept owner lock layout caches pages homes (map holder_of views) h.bodies;
    fits = h.fits;
  }

  -- ---- parts that read the poison

  counter-kept : poison_of u ≡ poison_of w → (counter : ℕ) (debts : List CountDebts) (sights : List (List Sight)) → CounterAgrees frames counter debts sights → CounterAgrees (set frames f u) counter debts sights
  counter-kept poison counter debts sights h = record {
    poisoned =
        let changed : sum_by poison_of (set frames f u) + poison_of w ≡ sum_by poison_of frames + poison_of u = sum-set poison_of frames f w u there in
        let before : biased_poisoned_of counter + sum_by (λ (d : CountDebts). d.counts + d.hardware) debts ≡ 2 ^ 31 + sum_by poison_of frames + sum_by (λ (d : CountDebts). d.uncounts) debts = h.poisoned in
        omega (arith, poison);
    hardware = h.hardware;
    covered = h.covered;
    shown = h.shown;
  }

  pub handed-kept : poison_of u ≡ poison_of w → (hands : List (List FrameInHand)) → EachListed (IsHanded frames) hands → EachListed (IsHanded (set frames f u)) hands
  handed-kept poison hands each i list at j hand listed =
      let known : IsHanded frames hand = each i list at j hand listed in
      let is : (x : ℕ) × (slice_get (set frames f u) hand.frame.0 ≡ Some x) × (poison_of x ≡ poison_of known.word) = field-is poison_of poison hand.frame.0 known.word known.there in
      record { word = is.0; there = is.1; poisoned = λ e. ap (λ (n : ℕ). n == 1) is.2 ∙ known.poisoned e }

  -- the cycle too
  marks-kept : poison_of u ≡ poison_of w → cycle_of u ≡ cycle_of w → (marks : List (List Mark)) (sights : List (List Sight)) → MarksAlternate frames marks sights → MarksAlternate (set frames f u) marks sights
  marks-kept poison cycle marks sights h = record {
    poisoned = λ g x c a.
        let was : (y : ℕ) × (slice_get frames g ≡ Some y) × (cycle_and_poison x ≡ cycle_and_poison y) = field-was cycle_and_poison same g x a in
        h.poisoned g was.0 c was.1 ∙ ap (λ (b : ℕ × ℕ). cond (nat_lt c b.0) 1 (cond (c == b.0) b.1 0)) (sym was.2);
    revived = λ g x c a.
        let was : (y : ℕ) × (slice_get frames g ≡ Some y) × (cycle_and_poison x ≡ cycle_and_poison y) = field-was cycle_and_poison same g x a in
        h.revived g was.0 c was.1 ∙ ap (λ (b : ℕ × ℕ). from_bool (nat_lt c b.0)) (sym was.2);
    framed = subst (λ (n : ℕ). EachListed (λ (m : Mark). m.frame.0 < n) marks) (sym (length-set frames f u)) h.framed;
    few = h.few;
    shown = λ frame x a.
        let was : (y : ℕ) × (slice_get frames frame.0 ≡ Some y) × (cycle_and_poison x ≡ cycle_and_poison y) = field-was cycle_and_poison same frame.0 x a in
        λ i list at j s is place.
        let before : IsBefore was.0 s = h.shown frame was.0 was.1 i list at j s is place in
        record {
          cycle = subst (λ (b : ℕ × ℕ). cycle_of s.word ≤ b.0) (sym was.2) before.cycle;
          poison = λ e. subst (λ (b : ℕ × ℕ). poison_of s.word ≤ b.1) (sym was.2) (before.poison (e ∙ ap (λ (b : ℕ × ℕ). b.0) was.2));
        };
  }
    where
      same : cycle_and_poison u ≡ cycle_and_poison w
      same i = (cycle i, poison i)

  -- all parts on failures, where that on handled frames is given
  pub failures-kept : {layout : Layout} {counter : ℕ} {bads weaks : List ℕ} {homes : Homes} {views : List View} → poison_of u ≡ poison_of w → cycle_of u ≡ cycle_of w → HandledIsPoisoned (set frames f u)
      → FailureParts layout frames counter bads weaks homes views → FailureParts layout (set frames f u) counter bads weaks homes views
  failures-kept {layout} {counter} {bads} {weaks} {homes} {views} poison cycle handled h = record {
    handled = handled;
    counter = counter-kept poison counter (map count_debts_of views) (map (λ (v : View). v.sights) views) h.counter;
    damage = h.damage;
    marks = marks-kept poison cycle (map (λ (v : View). v.marks) views) (map (λ (v : View). v.sights) views) h.marks;
    exhaustion = h.exhaustion;
  }

  -- the places, where the frame had a reference before
  pub placed-kept : kernel_of u ≡ kernel_of w → (kernel : List Bool) (frees : List ℕ) (hands now : List (List FrameInHand)) → 0 < count_of w
      → ((g : ℕ) → g ≢ f → in_hand g now ≡ in_hand g hands)
      → (is_kernel w ≡ false → free_bit frees f + in_hand f now + min (count_of u) 1 ≡ 1)
      → (0 < free_bit frees f + in_hand f now → IsBare u)
      → EachListed (IsHanded (set frames f u)) now
      → HasOnePlace kernel frames frees hands → HasOnePlace kernel (set frames f u) frees now
  placed-kept same kernel frees hands now counted others here idle handed h = record {
    declared = λ g x k a b.
        let was : (y : ℕ) × (slice_get frames g ≡ Some y) × (kernel_of x ≡ kernel_of y) = field-was kernel_of same g x a in
        ap (λ (n : ℕ). n == 1) was.2 ∙ h.declared g was.0 k was.1 b;
    placed = λ g x a usable. elim (at_set frames f g u x a) [
      | inl t ↦
          let user : is_kernel w ≡ false = ap (λ (n : ℕ). n == 1) (sym same) ∙ ap is_kernel t.1 ∙ usable in
          subst (λ (p : ℕ × ℕ). free_bit frees p.0 + in_hand p.0 now + min (count_of p.1) 1 ≡ 1) (λ i. (sym t.0 i, t.1 i)) (here user)
      | inr t ↦
          let was : free_bit frees g + in_hand g hands + min (count_of x) 1 ≡ 1 = h.placed g x t.1 usable in
          let same : in_hand g now ≡ in_hand g hands = others g t.0 in
          omega arith
    ];
    idle = λ g x a some. elim (at_set frames f g u x a) [
      | inl t ↦ subst IsBare t.1 (idle (subst (λ (n : ℕ). 0 < free_bit frees n + in_hand n now) t.0 some))
      | inr t ↦ h.idle g x t.1 (subst (λ (n : ℕ). 0 < free_bit frees g + n) (others g t.0) some)
    ];
    kernels = λ g x a is. elim (at_set frames f g u x a) [
      | inl t ↦
          let kernels : is_kernel w ≡ true = ap (λ (n : ℕ). n == 1) (sym same) ∙ ap is_kernel t.1 ∙ is in
          let none : count_of w ≡ 0 = (h.kernels f w there kernels).uncounted in
          absurd (omega arith)
      | inr t ↦
          let apart : IsApart frees hands g x = h.kernels g x t.1 is in
          record { bare = apart.bare; uncounted = apart.uncounted; taken = apart.taken; unhanded = others g t.0 ∙ apart.unhanded }
    ];
    handed = handed;
  }
