-- A line that goes bad or weak keeps the frame rule.
use Rattle.std.proofs.Common.{◌≡◌, ◌≢◌, ℕ, ◌+◌, ◌-◌, ◌*◌, ◌%◌, ◌^◌, ◌<◌, ◌≤◌, ◌==◌, ◌&&◌, min, ne_eqb, Bool, true, false, List, [], ◌∷◌, ◌++◌, Some, map, set, slice_get, slice_index, bit_or, ◌⊎◌, inl, inr, refl, sym, ap, ◌∙◌, subst, arith}
use Rattle.std.proofs.lemmas.List.Sums.{sum_by_push}
use Rattle.std.proofs.lemmas.Nat.{mod_low, pow-add}
use Rattle.std.proofs.lemmas.Nat.Bits.{bit_at_or}
use Rattle.std.specs.Int.Bits.{or_zero_r}
use Rattle.std.specs.Int.{from_bool, bit_at}
use Rattle.std.specs.List.{sum_by}
use Rattle.hwp_page.specs.hwp_geom.declared.Damage.{Damage}
use Rattle.hwp_page.specs.hwp_geom.declared.Damage.TheVariants as damages
use Rattle.hwp_page.specs.hwp_geom.declared.Frame.{Frame}
use Rattle.hwp_words.proofs.OtherSteps.{field-set_same, field-set_other}
use Rattle.hwp_core_rule.specs.declared.shared_word.SharedWord.{SharedWord}
use Rattle.hwp_core_rule.specs.declared.shared_word.SharedWord.TheVariants as places
use Rattle.hwp_core_rule.specs.declared.step.Step.TheVariants as steps
use Rattle.hwp_core_rule.specs.declared.view.Sight.{Sight}
use Rattle.hwp_core_rule.specs.declared.view.Spoiled.{Spoiled}
use Rattle.hwp_core_rule.specs.declared.view.View.{View}
use Rattle.hwp_core_rule.specs.Lists.{sum_all}
use Rattle.hwp_core_rule.specs.Rule.{FrameRule}
use Rattle.hwp_core_rule.specs.Steps.{damage_place}
use Rattle.hwp_core_rule.specs.Views.{stamp_of}
use Rattle.hwp_core_rule.specs.Words.{IsPlace, read, put}
use Rattle.hwp_core_rule.specs.parts.Damage.{DamageListed, HasSpoiled, BitsStay, is_spoil}
use Rattle.hwp_core_rule.proofs.CountsBelow.{never}
use Rattle.hwp_core_rule.proofs.Keeps.{Keeps}
use Rattle.hwp_core_rule.proofs.PartKeeps
use Rattle.hwp_core_rule.proofs.Lists.{change, keep, at_map, at_changed, same-or, same-number, sum-set}
use Rattle.hwp_core_rule.proofs.WordsByKind.{word-there}

-- ---- a bit set

-- bits stay
bits-grow : (word mask line : ℕ) → bit_at word line ≤ bit_at (bit_or word mask) line
bits-grow word mask line = omega (arith, bit_at_or word mask line)

-- a line past the word has no bit
no-bit : (word line : ℕ) → 64 ≤ line → bit_or word (1 * 2 ^ line % 2 ^ 64) ≡ word
no-bit word line past = ap (bit_or word) none ∙ or_zero_r word
  where
    none : 1 * 2 ^ line % 2 ^ 64 ≡ 0
    none =
        let split : 2 ^ line ≡ 2 ^ (line - 64) * 2 ^ 64 = ap (λ (n : ℕ). 2 ^ n) (omega (arith, past)) ∙ pow-add 2 (line - 64) 64 in
        let low : (2 ^ (line - 64) * 2 ^ 64 + 0) % 2 ^ 64 ≡ 0 = mod_low (2 ^ (line - 64)) 64 0 (omega arith) in
        let whole : 1 * 2 ^ line ≡ 2 ^ (line - 64) * 2 ^ 64 + 0 = omega (arith, split) in
        ap (λ (n : ℕ). n % 2 ^ 64) whole ∙ low

-- the words have a bit for each line that is listed; the line of the frame is listed once more, and its bit set
module _ (words : List ℕ) (frame found line : ℕ) (there : slice_get words frame ≡ Some found) where
  abbrev now : ℕ
  now = bit_or found (1 * 2 ^ line % 2 ^ 64)

  one-more : (count more : ℕ → ℕ → ℕ) → ((f l : ℕ) → more f l ≡ count f l + from_bool ((frame == f) && ((line == l) && true)))
      → ((f w : ℕ) → slice_get words f ≡ Some w → (l : ℕ) → l < 64 → bit_at w l ≡ min (count f l) 1)
      → (f w : ℕ) → slice_get (set words frame now) f ≡ Some w → (l : ℕ) → l < 64 → bit_at w l ≡ min (more f l) 1
  one-more count more added was = at_changed (λ f w. (l : ℕ) → l < 64 → bit_at w l ≡ min (more f l) 1) words frame now here (λ f w differs at l less.
      let none : from_bool ((frame == f) && ((line == l) && true)) ≡ 0 = ap (λ (b : Bool). from_bool (b && ((line == l) && true))) (ne_eqb frame f (λ e. differs (sym e))) in
      let same : min (count f l) 1 ≡ min (more f l) 1 = omega (arith, added f l, none) in
      was f w at l less ∙ same)
    where
      this : (l : ℕ) → from_bool ((frame == frame) && ((line == l) && true)) ≡ from_bool ((line == l) && true)
      this l = ap (λ (b : Bool). from_bool (b && ((line == l) && true))) (same-number frame frame refl)

      here : (l : ℕ) → l < 64 → bit_at now l ≡ min (more frame l) 1
      here l less = elim (same-or line l) [
        | inl same ↦
            let one : from_bool ((line == l) && true) ≡ 1 = ap (λ (b : Bool). from_bool (b && true)) (same-number line l same) in
            let set_now : bit_at now l ≡ 1 = subst (λ (n : ℕ). bit_at now n ≡ 1) same (field-set_same found line (omega (arith, less, same))) in
            let all : 1 ≡ min (more frame l) 1 = omega (arith, added frame l, this l, one) in
            set_now ∙ all
        | inr differs ↦
            let none : from_bool ((line == l) && true) ≡ 0 = ap (λ (b : Bool). from_bool (b && true)) (ne_eqb line l differs) in
            let old : bit_at found l ≡ min (count frame l) 1 = was frame found there l less in
            let same : min (count frame l) 1 ≡ min (more frame l) 1 = omega (arith, added frame l, this l, none) in
            other l differs (same-or (64 - line) 0) ∙ old ∙ same
      ]
        where
          other : (l : ℕ) → line ≢ l → (64 - line ≡ 0) ⊎ (64 - line ≢ 0) → bit_at now l ≡ bit_at found l
          other l differs (inl past) = ap (λ (n : ℕ). bit_at n l) (no-bit found line (omega (arith, past)))
          other l differs (inr within) = field-set_other found line (omega (arith, within)) l (λ e. differs (sym e))

  -- bits that a step showed are still there
  still-shown : (place : Frame → SharedWord) (sights : List (List Sight)) → ((f : Frame) (w : ℕ) → slice_get words f.0 ≡ Some w → BitsStay (place f) w sights)
      → (f : Frame) (w : ℕ) → slice_get (set words frame now) f.0 ≡ Some w → BitsStay (place f) w sights
  still-shown place sights was f w at i list member j s listed is l =
      at_changed (λ n x. ((y : ℕ) → slice_get words n ≡ Some y → bit_at s.word l ≤ bit_at y l) → bit_at s.word l ≤ bit_at x l) words frame now
      (λ before. omega (arith, before found there, bits-grow found (1 * 2 ^ line % 2 ^ 64) l)) (λ n x differs standing before. before x standing) f.0 w at
      (λ y standing. was f y standing i list member j s listed is l)

-- what is listed of the lines, with the new one
module _ (spoiled : List (List Spoiled)) (seat : ℕ) (mine : List Spoiled) (new : Spoiled) (me : slice_get spoiled seat ≡ Some mine) where
  abbrev listed : ℕ → ℕ → Bool → List (List Spoiled) → ℕ
  listed f line bad lists = sum_all (λ (s : Spoiled). from_bool (is_spoil f line bad s)) lists

  spoiled-more : (f line : ℕ) (bad : Bool) → listed f line bad (set spoiled seat (mine ++ new ∷ [])) ≡ listed f line bad spoiled + from_bool (is_spoil f line bad new)
  spoiled-more f line bad =
      let moved : listed f line bad (set spoiled seat (mine ++ new ∷ [])) + sum_by (λ (s : Spoiled). from_bool (is_spoil f line bad s)) mine ≡ listed f line bad spoiled + sum_by (λ (s : Spoiled). from_bool (is_spoil f line bad s)) (mine ++ new ∷ []) =
      sum-set (sum_by (λ (s : Spoiled). from_bool (is_spoil f line bad s))) spoiled seat mine (mine ++ new ∷ []) me in
      let more : sum_by (λ (s : Spoiled). from_bool (is_spoil f line bad s)) (mine ++ new ∷ []) ≡ sum_by (λ (s : Spoiled). from_bool (is_spoil f line bad s)) mine + from_bool (is_spoil f line bad new) = sum_by_push (λ (s : Spoiled). from_bool (is_spoil f line bad s)) mine new in
      omega (arith, moved, more)

  -- damage of the other kind
  spoiled-same : (bad : Bool) (word : ℕ) (f : ℕ) → ((line : ℕ) → from_bool (is_spoil f line bad new) ≡ 0) → HasSpoiled f word bad spoiled → HasSpoiled f word bad (set spoiled seat (mine ++ new ∷ []))
  spoiled-same bad word f none was line less =
      let same : listed f line bad spoiled ≡ listed f line bad (set spoiled seat (mine ++ new ∷ [])) = omega (arith, spoiled-more f line bad, none line) in
      was line less ∙ ap (λ (n : ℕ). min n 1) same

pub keeps-spoil : (frame : Frame) (line : ℕ) (damage : Damage) → Keeps (steps.Spoil frame line damage)
keeps-spoil frame line damage layout w homes views seat v who content given = which damage given.place
  where
    h : FrameRule layout w homes views
    h = given.rule

    sights : List (List Sight)
    sights = map (λ (v : View). v.sights) views

    spoiled : List (List Spoiled)
    spoiled = map (λ (v : View). v.spoiled) views

    mine : slice_get spoiled seat ≡ Some v.spoiled
    mine = at_map (λ (v : View). v.spoiled) views seat v given.me

    new : Damage → Spoiled
    new d = record { stamp = stamp_of who v; frame = frame; line = line; damage = d }

    after : Damage → View
    after d = record v { spoiled = v.spoiled ++ new d ∷ [] }

    kept : (d : Damage) (bads weaks : List ℕ) → DamageListed bads weaks (set spoiled seat (v.spoiled ++ new d ∷ [])) sights → FrameRule layout (record w { bads = bads; weaks = weaks }) homes (set views seat (after d))
    kept d bads weaks damage = record {
      frames = PartKeeps.same-frames views seat v (after d) given.me refl h.frames;
      pages = PartKeeps.same-pages views seat v (after d) given.me refl h.pages;
      histories = PartKeeps.same-histories views seat v (after d) given.me refl h.histories;
      failures = record {
        handled = h.failures.handled;
        counter = PartKeeps.kept-counter views seat v (after d) given.me refl refl h.failures.counter;
        damage = keep (λ (v : View). v.sights) (DamageListed bads weaks (map (λ (v : View). v.spoiled) (set views seat (after d)))) views seat v (after d) given.me refl
            (change (λ (v : View). v.spoiled) (λ l. DamageListed bads weaks l sights) views seat (after d) damage);
        marks = PartKeeps.kept-marks views seat v (after d) given.me refl refl h.failures.marks;
        exhaustion = PartKeeps.kept-exhaustion views seat v (after d) given.me refl refl h.failures.exhaustion;
      };
      processors = PartKeeps.same-processors views seat v (after d) given.me refl h.processors;
    }

    which : (d : Damage) → IsPlace layout (damage_place frame d)
        → FrameRule layout (put (damage_place frame d) (bit_or (read (damage_place frame d) w) (1 * 2 ^ line % 2 ^ 64)) w) homes (set views seat (after d))
    which damages.Bad inside = kept damages.Bad (set w.bads frame.0 (bit_or (slice_index w.bads frame.0) (1 * 2 ^ line % 2 ^ 64))) w.weaks (record {
      bad = one-more w.bads frame.0 (slice_index w.bads frame.0) line there (λ f l. listed spoiled seat v.spoiled (new damages.Bad) mine f l true spoiled) (λ f l. listed spoiled seat v.spoiled (new damages.Bad) mine f l true (set spoiled seat (v.spoiled ++ new damages.Bad ∷ [])))
          (λ f l. spoiled-more spoiled seat v.spoiled (new damages.Bad) mine f l true) h.failures.damage.bad;
      weak = λ f x at. spoiled-same spoiled seat v.spoiled (new damages.Bad) mine false x f (λ l. never (frame.0 == f) (line == l)) (h.failures.damage.weak f x at);
      bad_stays = still-shown w.bads frame.0 (slice_index w.bads frame.0) line there places.Bad sights h.failures.damage.bad_stays;
      weak_stays = h.failures.damage.weak_stays;
    })
      where
        there : slice_get w.bads frame.0 ≡ Some (slice_index w.bads frame.0)
        there = word-there w.bads frame.0 layout.frames given.shaped.bads inside
    which damages.Weak inside = kept damages.Weak w.bads (set w.weaks frame.0 (bit_or (slice_index w.weaks frame.0) (1 * 2 ^ line % 2 ^ 64))) (record {
      bad = λ f x at. spoiled-same spoiled seat v.spoiled (new damages.Weak) mine true x f (λ l. never (frame.0 == f) (line == l)) (h.failures.damage.bad f x at);
      weak = one-more w.weaks frame.0 (slice_index w.weaks frame.0) line there (λ f l. listed spoiled seat v.spoiled (new damages.Weak) mine f l false spoiled) (λ f l. listed spoiled seat v.spoiled (new damages.Weak) mine f l false (set spoiled seat (v.spoiled ++ new damages.Weak ∷ [])))
          (λ f l. spoiled-more spoiled seat v.spoiled (new damages.Weak) mine f l false) h.failures.damage.weak;
      bad_stays = h.failures.damage.bad_stays;
      weak_stays = still-shown w.weaks frame.0 (slice_index w.weaks frame.0) line there places.Weak sights h.failures.damage.weak_stays;
    })
      where
        there : slice_get w.weaks frame.0 ≡ Some (slice_index w.weaks frame.0)
        there = word-there w.weaks frame.0 layout.frames given.shaped.weaks inside
