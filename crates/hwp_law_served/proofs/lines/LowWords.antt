-- The words of bad and of weak lines have no bit past a frame's lines, on each board of a run.
use Rattle.std.proofs.Common.{◌≡◌, ℕ, zero, suc, ◌*◌, ◌^◌, ◌%◌, ◌<◌, Bool, true, false, List, [], ◌∷◌, replicate, refl, sym, ap, ◌∙◌, subst, arith, true≢false}
use Rattle.std.proofs.lemmas.Nat.{or_lt}
use Rattle.std.proofs.lemmas.Option.{none-some, same_Some}
use Rattle.hwp_law.specs.hwp_geom.declared.Layout.{Layout}
use Rattle.hwp_plain.specs.hwp_core_rule.declared.SharedWord.{SharedWord}
use Rattle.hwp_plain.specs.hwp_core_rule.declared.SharedWord.TheVariants as places
use Rattle.hwp_plain.specs.hwp_core_rule.declared.Rec.{Rec}
use Rattle.hwp_plain.specs.hwp_core_rule.declared.State.{State}
use Rattle.hwp_plain.specs.hwp_core_rule.declared.Step.{Step}
use Rattle.hwp_plain.specs.hwp_core_rule.declared.Step.TheVariants as steps
use Rattle.hwp_plain.specs.hwp_core_rule.Lists.{EachMember}
use Rattle.hwp_plain.specs.hwp_core_rule.Moves.{Move}
use Rattle.hwp_plain.specs.hwp_core_rule.Opening.{opening}
use Rattle.hwp_plain.specs.hwp_core_rule.Rule.{Holds}
use Rattle.hwp_plain.specs.hwp_core_rule.Steps.{place_of, word_after}
use Rattle.hwp_plain.specs.hwp_core_rule.Words.{Words, put, words_of}
use Rattle.hwp_plain.proofs.of_hwp_core_rule.Lists.{each-set}
use Rattle.hwp_plain.proofs.of_hwp_core_rule.WordsOpen.{opening-bads, opening-weaks}
use Rattle.hwp_plain.proofs.of_hwp_core_rule.WordsByKind.{words-put}
use Rattle.hwp_plain.specs.hwp_core_rule.Boards.{Played}
use Rattle.hwp_law_served.specs.Turns.{Leads}

-- the words of bad and of weak lines have no bit but those of lines
pub record AreOfLines (words : Words) : Type 0 where
  pub bads : EachMember (λ (w : ℕ). w < 2 ^ 64) words.bads
  pub weaks : EachMember (λ (w : ℕ). w < 2 ^ 64) words.weaks

zeros-low : (n : ℕ) → EachMember (λ (w : ℕ). w < 2 ^ 64) (replicate n 0)
zeros-low zero i w there = absurd (none-some w there)
zeros-low (suc n) zero w there = let is : 0 ≡ w = same_Some 0 w there in omega arith
zeros-low (suc n) (suc i) w there = zeros-low n i w there

-- the word of a frame's bad or weak lines
abbrev is_damage : SharedWord → Bool
is_damage (places.Bad frame) = true
is_damage (places.Weak frame) = true
is_damage place = false

low-put : (place : SharedWord) (x : ℕ) (w : Words) → (is_damage place ≡ true → x < 2 ^ 64) → AreOfLines w → AreOfLines (put place x w)
low-put (places.Bad frame) x w low are = record { bads = each-set (λ (n : ℕ). n < 2 ^ 64) w.bads frame.0 x (low refl) are.bads; weaks = are.weaks }
low-put (places.Weak frame) x w low are = record { bads = are.bads; weaks = each-set (λ (n : ℕ). n < 2 ^ 64) w.weaks frame.0 x (low refl) are.weaks }
low-put place x w low are = record { bads = are.bads; weaks = are.weaks }

-- a step that touches such a word loads it, or spoils a line
low-after : (step : Step) (found : ℕ) → is_damage (place_of step) ≡ true → found < 2 ^ 64 → word_after step found < 2 ^ 64
low-after (steps.Load place) found is low = low
low-after (steps.Spoil frame line damage) found is low = or_lt 64 found (1 * 2 ^ line % 2 ^ 64) low (let less : 1 * 2 ^ line % 2 ^ 64 < 2 ^ 64 = omega arith in less)
low-after step found is low = absurd (true≢false (sym is))

module _ (layout : Layout) where
  low-on : (a b : State) (ps : List Played) → Holds layout a → Leads layout a ps b → AreOfLines (words_of layout a.words) → AreOfLines (words_of layout b.words)
  low-on a b [] h leads are = subst (λ (s : State). AreOfLines (words_of layout s.words)) (sym leads) are
  low-on a b (p ∷ ps) h (mid, move, kept, rest) are = low-on mid b ps kept rest (moved p.seat p.made a mid h move are)
    where
      moved : (seat : ℕ) (r : Rec) (a b : State) → Holds layout a → Move layout seat r a b → AreOfLines (words_of layout a.words) → AreOfLines (words_of layout b.words)
      moved seat r a b before m are =
          let words : words_of layout b.words ≡ put (place_of r.step) (word_after r.step r.found) (words_of layout a.words)
          = ap (λ (s : State). words_of layout s.words) m.next ∙ words-put layout a.words (place_of r.step) (word_after r.step r.found) before.words m.asks.place in
          subst AreOfLines (sym words) (low-put (place_of r.step) (word_after r.step r.found) (words_of layout a.words) (λ is. low-after r.step r.found is m.fits) are)

  pub run-low : (turns : List Played) (last : State) → Holds layout (opening layout) → Leads layout (opening layout) turns last → AreOfLines (words_of layout last.words)
  run-low turns last h leads = low-on (opening layout) last turns h leads (record {
    bads = subst (EachMember (λ (w : ℕ). w < 2 ^ 64)) (sym (opening-bads layout h.sound)) (zeros-low layout.frames);
    weaks = subst (EachMember (λ (w : ℕ). w < 2 ^ 64)) (sym (opening-weaks layout h.sound)) (zeros-low layout.frames);
  })
